use Rattle.ms_form.proofs.UserLemmas.{users_exact}
use Rattle.ms_form.proofs.form.Form.uses.Goals as goal

pub returns-clause-users : goal.returns-clause-users
returns-clause-users c =
    let s = c.self.inside in
    rw (← c.self.view_is) (users_exact s.phis.items s.lasts.items s.rooms.items s.base s.users.items s.chains.homes s.chains.lists s.chains.spare s.waiting.list c.self.invariant.0 c.exact.ensures)
