use Rattle.std.proofs.Common.{sym, subst}
use Rattle.std.specs.Prelude.{IsTrue, ◌↔◌, IfOk}
use Rattle.ms_grammar.specs.declared.line.Line.{Line}
use Rattle.ms_validity.specs.Raw.{RawFault}
use Rattle.ms_validity.proofs.raw.raw_fault.Goals as goal

pub returns-in-Inst : goal.returns-in-Inst
returns-in-Inst c = subst (λ (l : Line). IfOk c.inst_raw.result (λ t. IsTrue t ↔ RawFault c.args.names.now l)) (sym c.in-Inst.is) c.inst_raw.ensures

pub returns-in-Term : goal.returns-in-Term
returns-in-Term c = subst (λ (l : Line). IfOk c.term_raw.result (λ t. IsTrue t ↔ RawFault c.args.names.now l)) (sym c.in-Term.is) c.term_raw.ensures
