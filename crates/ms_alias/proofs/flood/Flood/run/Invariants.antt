use Rattle.std.proofs.Common.{None, ◌+◌, ◌*◌, length}
use Rattle.ms_flow.specs.Walk.{unseen}
use Rattle.ms_alias.proofs.Floods.{IsFlood}
use Rattle.ms_alias.proofs.flood.Flood.run.Given as goal

abbrev pub invariant-search : goal.invariant-search
invariant-search l = IsFlood l.bases l.func l.l None l.self

abbrev pub decreases-search : goal.decreases-search
decreases-search l = 2 * unseen l.self.marked + length l.self.todo
