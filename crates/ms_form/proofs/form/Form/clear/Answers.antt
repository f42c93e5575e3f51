use Rattle.ms_form.proofs.FormLemmas.{places-cleared}
use Rattle.ms_form.proofs.form.Form.clear.Goals as goal

pub returns-clause-places : goal.returns-clause-places
returns-clause-places c = rw (c.unlink.ensures, c.place_user.ensures) (places-cleared c.args.u c.args.self.now)
