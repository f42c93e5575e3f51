use Rattle.ms_build.proofs.Entries.{entry_user, changed-cleared, waiting-cleared}
use Rattle.ms_build.proofs.change.unlink.Goals as goal

pub clear-requires : goal.clear-requires
clear-requires c = entry_user c.args.u c.args.form.now c.requires

pub returns-clause-changed : goal.returns-clause-changed
returns-clause-changed c =
    let keeps = rw c.clear.ensures.link at c.clear.ensures.places in
    rw c.clear.ensures.link (changed-cleared c.args.u c.args.form.now c.uses.ensures.table c.requires keeps)

pub returns-clause-waiting : goal.returns-clause-waiting
returns-clause-waiting c = rw c.clear.ensures.link (waiting-cleared c.args.u c.args.form.now c.requires)
