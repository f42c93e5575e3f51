use Rattle.std.proofs.Common.{◌≡◌, ◌-◌, length, drop, arith, eq-eqb}
use Rattle.std.proofs.lemmas.List.{length-map, length-drop}
use Rattle.ms_form.specs.Places.{entries_of}
use Rattle.ms_form.proofs.UserLemmas.{form-grown, is_form-grown}
use Rattle.ms_form.proofs.form.Form.place_inst.Goals as goal

pub invariant_of-self : goal.invariant_of-self
invariant_of-self c =
    let s = c.self.inside in
    let last : c.args.i.0 ≡ length s.users.items - s.base = omega (arith, c.if-i-len.true, s.users.ok.0) in
    rw (c.push_reserved.ensures.items, c.grow.ensures)
    (is_form-grown s.phis.items s.lasts.items s.rooms.items s.base s.users.items s.chains.homes s.chains.lists c.args.i c.self.invariant.0 last (omega arith), omega arith, c.self.invariant.2)

pub returns-then-i-len : goal.returns-then-i-len
returns-then-i-len c =
    let s = c.self.inside in
    let last : c.args.i.0 ≡ length (drop s.base (entries_of (length s.rooms.items) s.chains.homes)) = simp (length-drop, length-map) (omega (arith, c.if-i-len.true, s.users.ok.0, c.self.invariant.0.homes_len)) in
    rw (c.push_reserved.ensures.items, c.grow.ensures, ← c.self.view_is, eq-eqb c.args.i.0 (length (drop s.base (entries_of (length s.rooms.items) s.chains.homes))) last)
    (form-grown s.phis.items s.lasts.items s.rooms.items s.base s.users.items s.chains.homes s.chains.lists s.chains.spare s.waiting.list c.args.i c.self.invariant.0 c.exact.ensures)
