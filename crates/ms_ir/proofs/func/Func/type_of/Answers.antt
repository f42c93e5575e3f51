use Rattle.std.proofs.Common.{◌≡◌, ◌∙◌, true, false, ap, sym, Option}
use Rattle.std.specs.Prelude.{is_some}
use Rattle.ms_ir.specs.declared.names.LocalNo.{LocalNo}
use Rattle.ms_ir.specs.declared.names.Name.{Name}
use Rattle.ms_ir.specs.declared.inst.Inst.{Inst}
use Rattle.ms_ir.specs.Inst.{has_result}
use Rattle.ms_ir.proofs.LookLemmas.{one_type, typed, past_none}
use Rattle.ms_ir.proofs.func.Func.type_of.Goals as goal

pub returns-in-Some-result_type-clause-each : goal.returns-in-Some-result_type-clause-each
returns-in-Some-result_type-clause-each c = λ t h.
    one_type c.args.self.now c.args.l _ t c.in-Some-giver.node.now.inst (past_none c.args.self.now.params c.args.l.0 (rw c.params.ensures at c.in-None.ensures.value)) (sym c.result_type.ensures ∙ c.in-Some-result_type.is)
    (λ b place x g. ap (λ (parts : Inst × Option LocalNo × Name). parts.0) (c.in-Some-giver.ensures.each b place x g)) h

pub returns-in-None-result_type-clause-found : goal.returns-in-None-result_type-clause-found
returns-in-None-result_type-clause-found c =
    let found = c.in-Some-giver.ensures.found in
    let none = sym c.result_type.ensures ∙ c.in-None-result_type.is in
    let no : has_result found.2.inst ≡ false = ap (λ (parts : Inst × Option LocalNo × Name). has_result parts.0) found.4 ∙ typed c.in-Some-giver.node.now.inst none in
    let bad : true ≡ false = sym (ap (is_some {T = LocalNo}) found.3.gives) ∙ c.numbered.ensures.gives found.0 found.1 found.2 found.3.found ∙ no in
    absurd (cc)

pub returns-in-None-giver-clause-found : goal.returns-in-None-giver-clause-found
returns-in-None-giver-clause-found c = (past_none c.args.self.now.params c.args.l.0 (rw c.params.ensures at c.in-None.ensures.value), c.in-None-giver.ensures.found)
