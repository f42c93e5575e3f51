use Rattle.std.proofs.Common.{length}
use Rattle.ms_line_parts.proofs.Levels.{Scaled}
use Rattle.ms_line_parts.proofs.terms.scales.Given as goal

abbrev pub invariant-loop-count : goal.invariant-loop-count
invariant-loop-count l = Scaled l.initial.counts.items l.counts.items l.sizes.items l.bytes l.size

abbrev pub decreases-loop-count : goal.decreases-loop-count
decreases-loop-count l = length l.counts.items
