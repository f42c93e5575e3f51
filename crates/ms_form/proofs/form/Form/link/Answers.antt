use Rattle.std.proofs.Common.{◌≡◌, ◌∙◌, ◌+◌, ◌-◌, Option, Some, None, ℕ, length, map, sym, arith, get_or, refl}
use Rattle.std.specs.Option.{option_map}
use Rattle.std.proofs.lemmas.List.{length-map}
use Rattle.ms_form.specs.Places.{entries_of, named, access_at, access_place}
use Rattle.ms_form.proofs.PlaceLemmas.{placed_there}
use Rattle.ms_form.proofs.FormLemmas.{entry-view}
use Rattle.ms_form.proofs.UserLemmas.{form-linked}
use Rattle.ms_form.proofs.form.Form.link.Goals as goal

pub unreachable-requires : goal.unreachable-requires
unreachable-requires c =
    let s = c.self.inside in
    let there = rw (← c.self.view_is) at c.requires.user in
    let len : length (entries_of (length s.rooms.items) s.chains.homes) ≡ s.base + (c.len.result - s.base) = simp length-map (omega (arith, c.self.invariant.0.homes_len, c.self.invariant.0.placed.base_in, s.users.ok.0)) in
    placed_there s.phis.items s.lasts.items s.rooms.items s.base (entries_of (length s.rooms.items) s.chains.homes) (map (named s.users.items) s.chains.lists) s.chains.spare s.waiting.list (c.len.result - s.base) c.args.u len c.self.invariant.0.phis_len there (sym c.in-None.ensures)

pub put-requires-clause-number : goal.put-requires-clause-number
put-requires-clause-number c =
    let s = c.self.inside in
    let insts_is : c.len.result - s.base ≡ length s.users.items - s.base = omega (arith, s.users.ok.0) in
    omega (arith, (c.self.invariant.0.placed.at c.args.u c.in-Some.number (rw (← insts_is) (sym c.in-Some.ensures))).0, c.self.invariant.0.homes_len)

pub put-requires-clause-free : goal.put-requires-clause-free
put-requires-clause-free c =
    let s = c.self.inside in
    let free = rw (← c.self.view_is) at c.requires.free in
    none_from (length s.rooms.items) (get_or s.chains.homes c.in-Some.number None)
    (sym (entry-view s.phis.items s.lasts.items s.rooms.items s.base s.users.items s.chains.homes s.chains.lists (map (named s.users.items) s.chains.lists) s.chains.spare s.waiting.list (c.len.result - s.base) c.args.u (Some c.in-Some.number) c.self.invariant.0 (omega (arith, s.users.ok.0)) c.in-Some.ensures) ∙ free)
  where
    none_from : (blocks : ℕ) (home : Option ℕ) → option_map (access_at blocks) home ≡ None → home ≡ None
    none_from blocks None e = refl
    none_from blocks (Some list) e = cc

pub returns : goal.returns
returns c =
    let s = c.self.inside in
    let insts_is : c.len-3.result - s.base ≡ c.len.result - s.base = omega arith in
    let blocks_are : c.len-2.result ≡ length s.rooms.items = omega (arith, s.rooms.ok.0) in
    let list_is : Some c.in-Some-entry.list ≡ access_place (length s.rooms.items) (c.len.result - s.base) c.args.to = rw (← insts_is, ← blocks_are) c.in-Some-entry.ensures in
    rw (c.put.ensures, ← c.self.view_is)
    (form-linked s.phis.items s.lasts.items s.rooms.items s.base s.users.items s.chains.homes s.chains.lists s.chains.spare s.waiting.list (c.len.result - s.base) c.args.u c.args.to c.in-Some.number c.in-Some-entry.list c.self.invariant.0 (omega (arith, s.users.ok.0)) c.in-Some.ensures list_is)
