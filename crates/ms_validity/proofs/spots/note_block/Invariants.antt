use Rattle.ms_validity.proofs.SpotLemmas.{AreNoted, IsNext}
use Rattle.ms_validity.proofs.spots.note_block.Given as goal

abbrev pub invariant-loop-place : goal.invariant-loop-place
invariant-loop-place l = IsNext l.func.blocks l.b.0 l.place l.at × AreNoted l.func l.b.0 l.initial.spots.items l.spots.items l.place
