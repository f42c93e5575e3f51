use Rattle.ms_form.specs.Form.{access_placed, user_placed}
use Rattle.ms_form.proofs.FormLemmas.{linked-cleared, has_entry-placed, places-relinked}
use Rattle.ms_form.proofs.form.Form.relink.Goals as goal

pub returns-clause-link : goal.returns-clause-link
returns-clause-link c =
    rw (c.link.ensures, c.unlink.ensures, c.place_access.ensures, c.place_user.ensures)
    (linked-cleared c.args.u c.args.to _ (has_entry-placed c.args.u c.args.to c.args.self.now c.requires.user))

pub returns-clause-places : goal.returns-clause-places
returns-clause-places c =
    rw (c.link.ensures, c.unlink.ensures, c.place_access.ensures, c.place_user.ensures, linked-cleared c.args.u c.args.to (access_placed c.args.to (user_placed c.args.u c.args.self.now)) (has_entry-placed c.args.u c.args.to c.args.self.now c.requires.user))
    (places-relinked c.args.u c.args.to c.args.self.now)
