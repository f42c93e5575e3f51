use Rattle.std.proofs.Common.{◌<◌, ℕ, List, [], length, get_or, sym, ◌∙◌, subst, arith}
use Rattle.std.proofs.lemmas.List.Elements.{Contains-get_or}
use Rattle.ms_flow.specs.declared.sources.Source.{Source}
use Rattle.ms_flow.specs.Table.{next_of}
use Rattle.ms_flow.specs.Walk.{is_seen}
use Rattle.ms_flow.proofs.Edges.{listed_few, listed_skip, listed_more}
use Rattle.ms_flow.proofs.sources.Sources.of.Goals as goal
use Rattle.ms_flow.proofs.sources.Sources.of.Goals.{then-has_seen+in_ok-add_edges, else-has_seen}

pub add_edges-requires-clause-few : goal.add_edges-requires-clause-few
add_edges-requires-clause-few c = listed_few _ c.args.table.now _ _ _ c.loop-from.invariant c.bounded.ensures.few

pub loop-from-preserved : goal.loop-from-preserved
loop-from-preserved c =
    let size = c.len-blocks.ensures.len in
    let R = is_seen c.args.walker.now in
    let g = c.args.table.now in
    elim c.if-has_seen.branch [
      | then-has_seen+in_ok-add_edges w ↦
          rw (w.lists-is, w.in_slots-is) (listed_more R g c.loop-from.from _ _ _ _ c.loop-from.invariant c.bounded.ensures.few
          (λ s h. c.bounded.ensures.within c.loop-from.from (get_or (next_of g c.loop-from.from) s 0) (Contains-get_or (next_of g c.loop-from.from) s 0 h))
          (omega arith) (sym c.has_seen.ensures ∙ w.if-has_seen.true) w.in_ok-add_edges.ensures)
      | else-has_seen w ↦
          rw (w.lists-is, w.in_slots-is) (listed_skip R g c.loop-from.from _ _ c.loop-from.invariant (omega arith) (sym c.has_seen.ensures ∙ w.if-has_seen.false))
    ]

pub own_places-requires : goal.own_places-requires
own_places-requires c =
    let lists = c.loop-from.lists.items in
    let small = c.bounded.ensures.small in
    let len = c.len-blocks.ensures.len in
    let blocks = c.loop-from.invariant.blocks in
    let end = c.loop-from.auto.from-end in
    let few : (b : ℕ) → b < length lists → length (get_or lists b []) < 4294967296 = λ b lt.
    let f = listed_few _ c.args.table.now _ _ _ c.loop-from.invariant c.bounded.ensures.few b (omega arith) in
    omega arith in
    record { few = subst (λ (l : List (List Source)). (b : ℕ) → b < length l → length (get_or l b []) < 4294967296) (sym c.as_slice.ensures.value) few }
