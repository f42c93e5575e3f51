use Rattle.std.proofs.Common.{ap, sym, Option}
use Rattle.ms_ir.specs.declared.names.LocalNo.{LocalNo}
use Rattle.ms_ir.specs.declared.names.Name.{Name}
use Rattle.ms_ir.specs.declared.inst.Inst.{Inst}
use Rattle.ms_ir.proofs.FuncLemmas.{at_and_nowhere}
use Rattle.ms_ir.proofs.func.Func.result_of.Goals as goal

pub returns-in-Some-clause-there : goal.returns-in-Some-clause-there
returns-in-Some-clause-there c = λ b place x at. sym (ap (λ (parts : Inst × Option LocalNo × Name). parts.1) (c.in-Some.ensures.each b place x at))

pub returns-in-Some-clause-gone : goal.returns-in-Some-clause-gone
returns-in-Some-clause-gone c = λ gone.
    let found = c.in-Some.ensures.found in
    absurd (at_and_nowhere _ _ found.0 found.1 found.2 gone found.3)

pub returns-in-None-clause-there : goal.returns-in-None-clause-there
returns-in-None-clause-there c = λ b place x at. absurd (at_and_nowhere _ _ b place x c.in-None.ensures.found at)
