use Rattle.std.proofs.Common.{arith, vec_len}
use Rattle.ms_ir.specs.Func.{insts_at, placed_as}
use Rattle.ms_print.proofs.WalkLemmas.{found_at, first_of_rest}
use Rattle.ms_print.proofs.NumberingLemmas.{within_some}
use Rattle.ms_print.proofs.numbering.name_insts.Goals as goal

pub name_result-requires-clause-room : goal.name_result-requires-clause-room
name_result-requires-clause-room c =
    let blocks = c.args.func.now.blocks in
    let insts = insts_at blocks c.args.b.0 in
    let place = c.loop-place.place in
    let x = placed_as c.step.result.0.0 c.step.result.1.now in
    let found = found_at blocks c.loop-place.walk c.args.b place x c.loop-place.invariant.block c.loop-place.invariant.place c.step.ensures.found in
    within_some c.step.result.1.now.result (vec_len c.loop-place.locals) (λ l gives.
    let range = c.numbered.ensures.result_range l c.args.b.0 place x (record { found = first_of_rest insts _ place x found; gives = gives }) in
    omega (arith, range.1, c.loop-place.invariant.len))
