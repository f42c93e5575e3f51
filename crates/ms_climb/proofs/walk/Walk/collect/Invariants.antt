use Rattle.std.proofs.Common.{◌≡◌, ◌≤◌, ◌-◌, length}
use Rattle.ms_climb.specs.Chains.{first_of}
use Rattle.ms_climb.specs.Walk.{IsWalked, Sees, AreOpened}
use Rattle.ms_climb.proofs.walk.Walk.collect.Given as goal

-- the first phis of the list are opened
abbrev pub invariant-opening : goal.invariant-opening
invariant-opening g l = record {
  walked : IsWalked l.form (g.W.Writes.test l.counted) l.walk;
  insts : length l.walk.chains.marks ≡ l.fn.insts;
  blocks : length l.walk.met ≡ length l.flow.graph;
  sees : Sees l.walk (first_of l.passed l.fn.at);
  opened : AreOpened l.flow.graph l.form l.next l.walk;
  place : l.next ≤ length l.walk.phis;
}

-- each turn opens one, and there are as many as blocks at most
abbrev pub decreases-opening : goal.decreases-opening
decreases-opening g l = length l.flow.graph - l.next
