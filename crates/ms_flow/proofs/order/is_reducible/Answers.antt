use Rattle.std.proofs.Common.{◌≡◌, List, [], refl, sym, ◌∙◌, subst, ⊎_elim, arith}
use Rattle.std.specs.Prelude.{Contains}
use Rattle.std.proofs.lemmas.Bool.{cases_eq, both_ways}
use Rattle.std.proofs.lemmas.List.{get_or_default}
use Rattle.ms_flow.specs.declared.sources.Source.{Source}
use Rattle.ms_flow.specs.Flow.{IsFine, sources_of, place_of}
use Rattle.ms_flow.proofs.Listed.{list_is, source_within, all_fine, reducible_fine}
use Rattle.ms_flow.proofs.order.is_reducible.Goals as goal

pub are_fine-requires-clause-within : goal.are_fine-requires-clause-within
are_fine-requires-clause-within c =
    let g = c.args.table.now in
    let size = c.len-b-end.ensures.len in
    let lists = c.args.sources.now.lists.items in
    let blocks = c.requires.listed.blocks in
    let same : c.as_slice.result.now ≡ sources_of g c.loop-b.b = c.as_slice.ensures ∙ c.index-list.ensures ∙ get_or_default lists c.loop-b.b c.index-list.result.now [] (omega arith) ∙ list_is g lists _ c.loop-b.b c.requires.listed (omega arith) in
    rw same (source_within g c.loop-b.b)

pub returns-then-not-are_fine-clause-told : goal.returns-then-not-are_fine-clause-told
returns-then-not-are_fine-clause-told c =
    let g = c.args.table.now in
    let size = c.len-b-end.ensures.len in
    let lists = c.args.sources.now.lists.items in
    let blocks = c.requires.listed.blocks in
    let same : c.as_slice.result.now ≡ sources_of g c.loop-b.b = c.as_slice.ensures ∙ c.index-list.ensures ∙ get_or_default lists c.loop-b.b c.index-list.result.now [] (omega arith) ∙ list_is g lists _ c.loop-b.b c.requires.listed (omega arith) in (
      λ t. absurd (both_ways _ refl t),
      λ red. sym c.if-not-are_fine.true ∙ c.are_fine.ensures.fine.1
          (λ e h. reducible_fine g c.requires.closed (λ a b p k. c.order_told.ensures.back g a b p.way red p.path p.apart p.on k) c.loop-b.b e (subst (λ (l : List Source). Contains l e) same h)),
    )

pub loop-b-preserved : goal.loop-b-preserved
loop-b-preserved c =
    let g = c.args.table.now in
    let size = c.len-b-end.ensures.len in
    let lists = c.args.sources.now.lists.items in
    let blocks = c.requires.listed.blocks in
    let same : c.as_slice.result.now ≡ sources_of g c.loop-b.b = c.as_slice.ensures ∙ c.index-list.ensures ∙ get_or_default lists c.loop-b.b c.index-list.result.now [] (omega arith) ∙ list_is g lists _ c.loop-b.b c.requires.listed (omega arith) in (
      c.are_fine.ensures.blocks,
      λ x lt e h. ⊎_elim
          (λ (s : x ≡ c.loop-b.b).
          let h' : Contains (sources_of g c.loop-b.b) e = subst (λ k. Contains (sources_of g k) e) s h in
          subst (λ k. IsFine g e.from k) (sym s) (c.are_fine.ensures.fine.0 c.if-not-are_fine.false e (subst (λ (l : List Source). Contains l e) (sym same) h')))
          (λ (n : x ≡ c.loop-b.b → ⊥). c.loop-b.invariant.1 x (omega arith) e h)
          (cases_eq x c.loop-b.b),
    )

pub returns-clause-told : goal.returns-clause-told
returns-clause-told c =
    let g = c.args.table.now in
    let size = c.len-b-end.ensures.len in
    let end = c.loop-b-test.false in (
      λ t. c.order_told.ensures.holds g (place_of g) (all_fine g c.requires.closed (λ b lt e h. c.loop-b.invariant.1 b (omega arith) e h)),
      λ red. refl,
    )
