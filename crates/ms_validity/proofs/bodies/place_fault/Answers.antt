use Rattle.std.proofs.lemmas.Result.{IfOk-weaker}
use Rattle.ms_validity.specs.Told.{BodyHas, PlaceHas, Tells}
use Rattle.ms_validity.proofs.BodyLemmas.{place_told}
use Rattle.ms_validity.proofs.bodies.place_fault.Goals as goal

pub returns-in-Some : goal.returns-in-Some
returns-in-Some c =
    IfOk-weaker c.body_fault.result (λ r. Tells (BodyHas c.args.phase c.args.m.now c.args.func.now c.in-Some.body.now) r) (λ r. Tells (PlaceHas c.args.phase c.args.m.now c.args.lines.now c.args.place) r)
    (place_told c.args.phase c.args.m.now c.args.lines.now c.args.place c.args.func.now c.in-Some.body.now c.requires.place c.in-Some.ensures.value)
    c.body_fault.ensures
