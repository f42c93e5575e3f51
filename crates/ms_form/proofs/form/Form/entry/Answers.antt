use Rattle.std.proofs.Common.{◌∙◌, ◌-◌, Some, None, length, map, ap, sym, arith}
use Rattle.std.specs.Option.{option_map}
use Rattle.ms_form.specs.Places.{access_at, named}
use Rattle.ms_form.proofs.FormLemmas.{entry-view}
use Rattle.ms_form.proofs.form.Form.entry.Goals as goal

pub returns-in_err-number : goal.returns-in_err-number
returns-in_err-number c =
    let s = c.self.inside in
    rw (c.from_residual.ensures, ← c.self.view_is)
    (sym (entry-view s.phis.items s.lasts.items s.rooms.items s.base s.users.items s.chains.homes s.chains.lists (map (named s.users.items) s.chains.lists) s.chains.spare s.waiting.list (c.len.result - s.base) c.args.user None c.self.invariant.0 (omega (arith, s.users.ok.0)) c.in_err-number.ensures))

pub returns-in_err-list : goal.returns-in_err-list
returns-in_err-list c =
    let s = c.self.inside in
    rw (c.from_residual-in_err-list.ensures, ← c.self.view_is)
    (sym (entry-view s.phis.items s.lasts.items s.rooms.items s.base s.users.items s.chains.homes s.chains.lists (map (named s.users.items) s.chains.lists) s.chains.spare s.waiting.list (c.len.result - s.base) c.args.user (Some c.in_ok-number.number) c.self.invariant.0 (omega (arith, s.users.ok.0)) c.in_ok-number.ensures
    ∙ ap (option_map (access_at (length s.rooms.items))) (sym c.in_err-list.ensures.home)))

pub returns : goal.returns
returns c =
    let s = c.self.inside in
    rw (← c.self.view_is)
    (ap Some (c.access_of.ensures ∙ ap (λ n. access_at n c.in_ok-list.list) (omega (arith, s.rooms.ok.0)))
    ∙ sym (entry-view s.phis.items s.lasts.items s.rooms.items s.base s.users.items s.chains.homes s.chains.lists (map (named s.users.items) s.chains.lists) s.chains.spare s.waiting.list (c.len.result - s.base) c.args.user (Some c.in_ok-number.number) c.self.invariant.0 (omega (arith, s.users.ok.0)) c.in_ok-number.ensures
    ∙ ap (option_map (access_at (length s.rooms.items))) (sym c.in_ok-list.ensures.home)))
