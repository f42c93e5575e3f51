use Rattle.std.specs.Prelude.{map}
use Rattle.ms_ir.specs.Uses.{entry_use}
use Rattle.ms_edits.specs.declared.spots.After.TheVariants.{Moved}
use Rattle.ms_edits.specs.Told.{AtPlace}
use Rattle.ms_edits.specs.Moved.{IsUseMissed, func_after}
use Rattle.ms_edits.proofs.ListLemmas.{NoneBelow}
use Rattle.ms_edits.proofs.moves.is_phi_missed.Given as goal

abbrev pub invariant-loop-k : goal.invariant-loop-k
invariant-loop-k l =
    NoneBelow (AtPlace (map (entry_use (func_after l.func (Moved l.from l.to)).blocks) l.entries) (IsUseMissed (func_after l.func (Moved l.from l.to)).blocks l.to l.l)) l.k
