use Rattle.std.proofs.Common.{get_or}
use Rattle.ms_ir.specs.Func.{no_block}
use Rattle.ms_edits.specs.Told.{TermHas}
use Rattle.ms_edits.proofs.ListLemmas.{NoneBelow}
use Rattle.ms_edits.proofs.uses.terms_have.Given as goal

abbrev pub invariant-loop-b : goal.invariant-loop-b
invariant-loop-b l = NoneBelow (λ b. TermHas (get_or l.func.blocks b no_block).term l.l) l.b
