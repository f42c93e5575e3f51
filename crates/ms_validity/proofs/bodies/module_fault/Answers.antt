use Rattle.std.proofs.Common.{◌≡◌, ℕ, ◌+◌, List, length, Option, Some, sym, ap, ◌∙◌, subst, arith}
use Rattle.std.specs.List.{slice_get, flat_map}
use Rattle.std.proofs.lemmas.List.{take_all}
use Rattle.std.proofs.lemmas.Option.{slice_get_within}
use Rattle.ms_ir.specs.Func.{FuncState}
use Rattle.ms_validity.specs.Faults.{body_there, bodies_there}
use Rattle.ms_validity.specs.Told.{PlaceHas, Tells}
use Rattle.ms_validity.proofs.BodyLemmas.{body_found, bodies_at, bodies_more, bodies_same}
use Rattle.ms_validity.proofs.ToldLemmas.{Before, told_more, told_all}
use Rattle.ms_validity.proofs.bodies.module_fault.Goals as goal
use Rattle.ms_validity.proofs.bodies.module_fault.Goals.{in-Some+in_ok-place_fault-in-Some, in-None}

pub place_fault-requires-clause-closed : goal.place_fault-requires-clause-closed
place_fault-requires-clause-closed c = c.requires.closed c.loop-f.f c.in-Some.func.now (body_found (slice_get c.args.m.now.bodies c.loop-f.f) c.in-Some.func.now c.in-Some.ensures)

pub place_fault-requires-clause-place : goal.place_fault-requires-clause-place
place_fault-requires-clause-place c =
    let at = body_found (slice_get c.args.m.now.bodies c.loop-f.f) c.in-Some.func.now c.in-Some.ensures in
    subst (λ p. slice_get (bodies_there c.args.m.now) p ≡ Some c.in-Some.func.now) (sym c.loop-f.invariant.1) (bodies_at c.args.m.now.bodies c.loop-f.f c.in-Some.func.now at)

pub loop-f-preserved : goal.loop-f-preserved
loop-f-preserved c =
    let At = PlaceHas c.args.phase c.args.m.now c.args.lines.now in
    let bodies = c.args.m.now.bodies in
    let f = c.loop-f.f in
    let place = c.loop-f.invariant.1 in
    let le = c.loop-f.invariant.0 in
    elim c.match-func.branch [
      | in-Some+in_ok-place_fault-in-Some w ↦
          let more = bodies_more bodies f w.in-Some.func.now (body_found (slice_get bodies f) w.in-Some.func.now w.in-Some.ensures) in
          let found : Tells (Before At (c.loop-f.place + 1)) w.earlier-found.result =
          subst (λ (o : Option ℕ). Tells (Before At (c.loop-f.place + 1)) o) (sym w.earlier-found.ensures)
          (told_more At c.loop-f.place c.loop-f.found w.in_ok-place_fault-in-Some.field-0 c.loop-f.invariant.2 w.in_ok-place_fault-in-Some.ensures) in
          rw (w.place-is, w.found-is) (omega arith, omega arith, found)
      | in-None w ↦
          let same = bodies_same bodies f w.in-None.ensures in
          rw (w.place-is, w.found-is) (omega arith, omega arith, c.loop-f.invariant.2)
    ]

pub returns : goal.returns
returns c =
    let end = c.loop-f-test.false in
    let le = c.requires.limit in
    let all = take_all c.loop-f.f c.args.m.now.bodies (omega arith) in
    let place : c.loop-f.place ≡ length (bodies_there c.args.m.now) = c.loop-f.invariant.1 ∙ ap (λ (l : List (Option FuncState)). length (flat_map body_there l)) all in
    told_all (PlaceHas c.args.phase c.args.m.now c.args.lines.now) c.loop-f.place c.loop-f.found
    (λ j n h. let lt = slice_get_within (bodies_there c.args.m.now) j h.0 h.2 in omega arith)
    c.loop-f.invariant.2
