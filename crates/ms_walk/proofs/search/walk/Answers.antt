use Rattle.ms_build.specs.Accesses.{event_of}
use Rattle.ms_climb.proofs.Options.{if_ok}
use Rattle.ms_sound.specs.Bytes.{IsSound}
use Rattle.ms_walk.specs.Clobber.{IsClobber}
use Rattle.ms_walk.proofs.Holds.{holds}
use Rattle.ms_walk.proofs.search.walk.Goals as goal

pub returns-clause-sound : goal.returns-clause-sound
returns-clause-sound c =
    let f = c.args.func.now in
    let loc = c.args.loc.now in
    λ sound.
    if_ok (λ a. IsClobber f c.args.i.0 loc (event_of a)) (λ a. IsSound f c.args.i.0 loc (event_of a)) c.walk_at.result
    (λ a is. holds c.sound_functions_begin_once.ensures c.clobbers_are_sound.ensures c.turning_clobbers_are_sound.ensures.turn c.turning_clobbers_are_sound.ensures.before f c.numbered.ensures sound c.args.i.0 loc (event_of a) is)
    c.walk_at.ensures

pub walk_at-requires-clause-pointed : goal.walk_at-requires-clause-pointed
walk_at-requires-clause-pointed c = record {
  formed = record { graph = c.requires.graph; closed = c.requires.closed; reducible = c.requires.reducible; form = c.requires.form };
  alias = c.requires.alias;
}
