use Rattle.std.specs.List.{slice_get}
use Rattle.ms_validity.proofs.BodyLemmas.{body_found, irreducible_told}
use Rattle.ms_validity.proofs.bodies.is_irreducible.Goals as goal

pub of-requires : goal.of-requires
of-requires c = c.requires c.args.f.0 c.in-Some.func.now (body_found (slice_get c.args.m.now.bodies c.args.f.0) c.in-Some.func.now c.in-Some.ensures)

pub returns-in_ok-flow-in-Some : goal.returns-in_ok-flow-in-Some
returns-in_ok-flow-in-Some c =
    irreducible_told c.args.m.now c.args.f.0 c.in-Some.func.now c.in_ok-flow-in-Some.flow.graph c.reducible.result
    (body_found (slice_get c.args.m.now.bodies c.args.f.0) c.in-Some.func.now c.in-Some.ensures) c.in_ok-flow-in-Some.ensures.graph
    (c.same_paths.ensures.reducible c.in-Some.func.now.blocks) c.reducible.ensures
