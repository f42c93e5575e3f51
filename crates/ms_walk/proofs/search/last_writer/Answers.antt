use Rattle.ms_alias.specs.Tests.{may_write_by}
use Rattle.ms_walk.proofs.Writing.{writer_is_def}
use Rattle.ms_walk.proofs.search.last_writer.Goals as goal

pub returns : goal.returns
returns c =
    let f = c.args.of.now.func.now in
    let a = c.args.of.now.alias.now in
    let loc = c.args.loc.now in
    λ b k x at. record {
      writes = may_write_by f a loc;
      writers = c.tests_told.ensures.writes f a c.requires.pointed.alias loc;
      answer = c.in_ok-last_before.ensures b k x at;
    }

pub last_before-requires-clause-defs : goal.last_before-requires-clause-defs
last_before-requires-clause-defs c =
    let f = c.args.of.now.func.now in
    λ j t. writer_is_def f c.numbered.ensures.one_place j c.args.loc.now ((c.tests_told.ensures.writes f c.args.of.now.alias.now c.requires.pointed.alias c.args.loc.now j).0 t)
