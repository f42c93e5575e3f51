use Rattle.std.proofs.Common.{◌+◌, length, drop, sym, ap, ◌∙◌, arith}
use Rattle.std.proofs.lemmas.List.{drop_more}
use Rattle.ms_flow.specs.Table.{next_of}
use Rattle.ms_flow.specs.Walk.{each, visit}
use Rattle.ms_flow.proofs.walker.Walker.visit_beyond.Goals as goal

pub loop-slot-preserved : goal.loop-slot-preserved
loop-slot-preserved c =
    let count = c.count-slot-end.ensures.count in
    let g = c.args.table.now in
    let s = c.loop-slot.self in
    let next = drop_more (next_of g c.args.b) c.loop-slot.slot 0 (omega arith) in (
      ap (each (visit g (length g)) (drop (c.loop-slot.slot + 1) (next_of g c.args.b))) (c.visit.ensures.walk ∙ ap (λ b. visit g (length g) b s) c.at.ensures.target)
          ∙ sym (ap (λ bs. each (visit g (length g)) bs s) next) ∙ c.loop-slot.invariant.0,
      c.visit.ensures.blocks,
    )
