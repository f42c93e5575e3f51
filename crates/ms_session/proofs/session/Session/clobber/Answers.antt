use Rattle.std.proofs.Common.{subst}
use Rattle.ms_ir.specs.Func.{FuncState}
use Rattle.ms_build.specs.Accesses.{event_of}
use Rattle.ms_sound.specs.Bytes.{IsSound}
use Rattle.ms_session.proofs.session.Session.clobber.Goals as goal

pub returns-clause-sound : goal.returns-clause-sound
returns-clause-sound c =
    subst (λ (f : FuncState). IsSound f c.args.i.0 c.args.loc.now (event_of c.in_ok-access.access)) c.self.view_is (c.in_ok-access.ensures.sound c.self.invariant.6)
