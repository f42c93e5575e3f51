use Rattle.ms_whole.proofs.Replaced.{source_whole}
use Rattle.ms_whole.proofs.replacing.source.Goals as goal

pub returns-clause-whole : goal.returns-clause-whole
returns-clause-whole c =
    let old = c.args.parts.now in
    let f = c.args.parts.now.func in
    source_whole f c.set_copy_source.new.self c.args.to.0 c.args.arg old.flow old.form old.alias old.kept c.after.new.self c.set_copy_source.ensures c.requires.whole c.requires.sound
    (c.source_kept.ensures.tables f c.args.to.0 c.args.arg old.alias c.requires.whole.alias)
    (c.answers_stay.ensures.source f c.args.to.0 c.args.arg c.own.result (record { inst = c.own.ensures.inst; own_only = c.own.ensures.own }) old.kept c.after.new.self c.requires.whole.right c.after.ensures.stays)
