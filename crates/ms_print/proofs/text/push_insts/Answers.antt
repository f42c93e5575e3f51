use Rattle.std.proofs.Common.{◌∙◌, ◌+◌, ℕ, drop, ap}
use Rattle.ms_ir.specs.Func.{insts_at, placed_as}
use Rattle.ms_print.specs.Lines.{shown_by}
use Rattle.ms_print.proofs.WalkLemmas.{found_at, first_of_rest}
use Rattle.ms_print.proofs.TextLemmas.{insts_more, note_found}
use Rattle.ms_print.proofs.text.push_insts.Goals as goal

pub loop-place-preserved : goal.loop-place-preserved
loop-place-preserved c =
    let blocks = c.args.func.now.blocks in
    let insts = insts_at blocks c.args.b.0 in
    let i = c.loop-place.invariant in
    let place = c.loop-place.place in
    let n = c.step.result.0.0 in
    let x = placed_as n c.step.result.1.now in
    let found = found_at blocks c.loop-place.walk c.args.b place x i.block i.place c.step.ensures.found in
    let below = c.numbered.ensures.below_made c.args.b.0 place x (first_of_rest insts (drop (place + 1) insts) place x found) in
    let noted = note_found c.as_slice.result.now c.args.notes.now.insts c.as_slice-in-loop-place.result.now c.args.page.now.insts.items n
    c.loop-place.out.items _ c.in_ok-push_note.ensures c.as_slice.ensures c.as_slice-in-loop-place.ensures.value (c.requires.notes n below) in
    record {
      walk = c.step.ensures.walk;
      block = c.step.ensures.block ∙ i.block;
      place = c.step.ensures.place ∙ ap (λ (k : ℕ). k + 1) i.place;
      text = insts_more (shown_by c.args.names.now c.args.page.now.tables) c.args.notes.now.insts (drop place insts) (drop (place + 1) insts) n c.step.result.1.now
          c.loop-place.out.items _ _ found noted c.in_ok-push_inst_line.ensures ∙ i.text;
    }
