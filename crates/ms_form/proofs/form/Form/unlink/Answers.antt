use Rattle.std.proofs.Common.{◌≡◌, ◌+◌, ◌-◌, length, map, sym, arith}
use Rattle.std.proofs.lemmas.List.{length-map}
use Rattle.ms_form.specs.Places.{entries_of, named}
use Rattle.ms_form.proofs.PlaceLemmas.{placed_there}
use Rattle.ms_form.proofs.UserLemmas.{form-unlinked}
use Rattle.ms_form.proofs.form.Form.unlink.Goals as goal

pub unreachable-requires : goal.unreachable-requires
unreachable-requires c =
    let s = c.self.inside in
    let there = rw (← c.self.view_is) at c.requires in
    let len : length (entries_of (length s.rooms.items) s.chains.homes) ≡ s.base + (c.len.result - s.base) = simp length-map (omega (arith, c.self.invariant.0.homes_len, c.self.invariant.0.placed.base_in, s.users.ok.0)) in
    placed_there s.phis.items s.lasts.items s.rooms.items s.base (entries_of (length s.rooms.items) s.chains.homes) (map (named s.users.items) s.chains.lists) s.chains.spare s.waiting.list (c.len.result - s.base) c.args.u len c.self.invariant.0.phis_len there (sym c.in-None.ensures)

pub take-requires : goal.take-requires
take-requires c =
    let s = c.self.inside in
    let insts_is : c.len.result - s.base ≡ length s.users.items - s.base = omega (arith, s.users.ok.0) in
    omega (arith, (c.self.invariant.0.placed.at c.args.u c.in-Some.number (rw (← insts_is) (sym c.in-Some.ensures))).0, c.self.invariant.0.homes_len)

pub returns : goal.returns
returns c =
    let s = c.self.inside in
    rw (c.take.ensures, ← c.self.view_is)
    (form-unlinked s.phis.items s.lasts.items s.rooms.items s.base s.users.items s.chains.homes s.chains.lists s.chains.spare s.waiting.list (c.len.result - s.base) c.args.u c.in-Some.number c.self.invariant.0 c.exact.ensures (omega (arith, s.users.ok.0)) c.in-Some.ensures)
