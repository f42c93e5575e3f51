use Rattle.std.proofs.Common.{◌≡◌, ◌<◌, ◌∙◌, ◌-◌, Some, None, length, map, ap, sym, arith, refl}
use Rattle.std.specs.Option.{option_map}
use Rattle.std.proofs.lemmas.List.{get_or_default}
use Rattle.ms_form.specs.Places.{named, no_user, user_at}
use Rattle.ms_form.proofs.FormLemmas.{entry-view}
use Rattle.ms_form.proofs.UserLemmas.{next-view}
use Rattle.ms_form.proofs.form.Form.next_use.Goals as goal

pub returns-in_err-number : goal.returns-in_err-number
returns-in_err-number c =
    let s = c.self.inside in
    rw (c.from_residual.ensures, ← c.self.view_is, entry-view s.phis.items s.lasts.items s.rooms.items s.base s.users.items s.chains.homes s.chains.lists (map (named s.users.items) s.chains.lists) s.chains.spare s.waiting.list (c.len.result - s.base) c.args.u None c.self.invariant.0 (omega (arith, s.users.ok.0)) c.in_err-number.ensures)
    refl

pub after-requires : goal.after-requires
after-requires c =
    let s = c.self.inside in
    let insts_is : c.len.result - s.base ≡ length s.users.items - s.base = omega (arith, s.users.ok.0) in
    omega (arith, (c.self.invariant.0.placed.at c.args.u c.in_ok-number.number (rw (← insts_is) (sym c.in_ok-number.ensures))).0, c.self.invariant.0.homes_len)

pub returns-in_err-next : goal.returns-in_err-next
returns-in_err-next c =
    let s = c.self.inside in
    rw (c.from_residual-in_err-next.ensures, ← c.self.view_is)
    (ap (option_map (user_at s.users.items)) c.in_err-next.ensures.number
    ∙ sym (next-view s.phis.items s.lasts.items s.rooms.items s.base s.users.items s.chains.homes s.chains.lists s.chains.spare s.waiting.list (c.len.result - s.base) c.args.u c.in_ok-number.number c.self.invariant.0 c.exact.ensures (omega (arith, s.users.ok.0)) c.in_ok-number.ensures))

pub returns : goal.returns
returns c =
    let s = c.self.inside in
    let within : c.in_ok-next.next < length s.users.items = omega (arith, c.in_ok-next.ensures.below, c.self.invariant.0.homes_len) in
    rw (← c.self.view_is)
    (ap Some (c.index.ensures ∙ get_or_default s.users.items c.in_ok-next.next c.index.result.now no_user within) ∙ ap (option_map (user_at s.users.items)) c.in_ok-next.ensures.number
    ∙ sym (next-view s.phis.items s.lasts.items s.rooms.items s.base s.users.items s.chains.homes s.chains.lists s.chains.spare s.waiting.list (c.len.result - s.base) c.args.u c.in_ok-number.number c.self.invariant.0 c.exact.ensures (omega (arith, s.users.ok.0)) c.in_ok-number.ensures))
