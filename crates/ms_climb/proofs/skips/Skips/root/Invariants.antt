use Rattle.std.proofs.Common.{◌≡◌}
use Rattle.ms_form.specs.declared.access.Access.{Access}
use Rattle.ms_climb.specs.Skips.{skip_of, IsLeading}
use Rattle.ms_climb.proofs.SkipLemmas.{turns_left}
use Rattle.ms_climb.proofs.skips.Skips.root.Given as goal

-- it leads where the first access does
abbrev pub invariant-rooting : goal.invariant-rooting
invariant-rooting l = (leads : Access → Access) → IsLeading l.self leads → leads l.fn.access ≡ leads l.at

-- each turn goes to a phi that was left out later
abbrev pub decreases-rooting : goal.decreases-rooting
decreases-rooting l = turns_left l.self (skip_of l.self l.at)
