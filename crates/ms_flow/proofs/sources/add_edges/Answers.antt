use Rattle.std.proofs.Common.{◌≡◌, ◌<◌, List, [], ◌∷◌, ◌++◌, length, get_or, ap, ◌∙◌, arith}
use Rattle.std.proofs.lemmas.List.{get_or_default}
use Rattle.ms_flow.specs.declared.sources.Source.{Source}
use Rattle.ms_flow.proofs.Edges.{added_few, added_more}
use Rattle.ms_flow.proofs.sources.add_edges.Goals as goal

pub overflow_cast-len : goal.overflow_cast-len
overflow_cast-len c =
    let blocks = c.loop-slot.invariant.blocks in
    let sized = c.requires.lists in
    let within = c.at-to.ensures.within in
    let count = c.count-slot-end.ensures.few in
    let small = c.bounded.ensures.small in
    let from = c.requires.block in
    let lists = c.loop-slot.lists.items in
    let few = added_few _ _ _ _ _ _ _ c.at-to.result c.loop-slot.invariant (omega arith) (c.requires.few c.at-to.result within) in
    let read : length c.index.result.now ≡ length (get_or lists c.at-to.result []) = ap length (c.index.ensures ∙ get_or_default lists c.at-to.result c.index.result.now [] (omega arith)) in
    let len = c.len.ensures in
    omega arith

pub loop-slot-preserved : goal.loop-slot-preserved
loop-slot-preserved c =
    let blocks = c.loop-slot.invariant.blocks in
    let sized = c.requires.lists in
    let within = c.at-to.ensures.within in
    let few = c.count-slot-end.ensures.few in
    let count = c.count-slot-end.ensures.count in
    let slots = c.requires.slots in
    let from = c.requires.block in
    let lists = c.loop-slot.lists.items in
    let to = c.at-to.result in
    let in' : to < length lists = omega arith in
    let read : length c.index.result.now ≡ length (get_or lists to []) = ap length (c.index.ensures ∙ get_or_default lists to c.index.result.now [] in') in
    let len : c.len.result ≡ length (get_or lists to []) = c.len.ensures ∙ read in
    let old : c.index_mut-in-loop-slot.result.now ≡ get_or lists to [] = c.index_mut-in-loop-slot.ensures.value ∙ get_or_default lists to c.index_mut-in-loop-slot.result.now [] in' in
    let pushed : c.push.new.self ≡ get_or lists to [] ++ record { from = c.args.from; slot = c.loop-slot.slot } ∷ [] = c.in_ok-push.ensures.ok ∙ ap (λ (l : List Source). l ++ record { from = c.args.from; slot = c.loop-slot.slot } ∷ []) old in
    let next = added_more c.args.table.now c.args.from c.loop-slot.slot _ lists _ _ to c.push.new.self c.loop-slot.invariant (omega arith) c.at-to.ensures.target (omega arith) (omega arith) pushed in
    rw len next
