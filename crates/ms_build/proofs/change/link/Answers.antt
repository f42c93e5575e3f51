use Rattle.ms_build.proofs.Entries.{entry_user, list_access, changed-relinked, users-relinked, waiting-relinked}
use Rattle.ms_build.proofs.change.link.Goals as goal

pub relink-requires-clause-user : goal.relink-requires-clause-user
relink-requires-clause-user c = entry_user c.args.u c.args.form.now c.requires.user

pub relink-requires-clause-access : goal.relink-requires-clause-access
relink-requires-clause-access c = list_access c.args.to c.args.form.now c.requires.access

pub returns-clause-changed : goal.returns-clause-changed
returns-clause-changed c =
    let keeps = rw c.relink.ensures.link at c.relink.ensures.places in
    rw c.relink.ensures.link (changed-relinked c.args.u c.args.to c.args.form.now c.uses.ensures.table c.requires.user c.requires.access keeps)

pub returns-clause-users : goal.returns-clause-users
returns-clause-users c = λ x n. rw c.relink.ensures.link (users-relinked c.args.u c.args.to x c.args.form.now c.requires.user c.requires.access n)

pub returns-clause-waiting : goal.returns-clause-waiting
returns-clause-waiting c = rw c.relink.ensures.link (waiting-relinked c.args.u c.args.to c.args.form.now c.requires.user c.requires.access)
