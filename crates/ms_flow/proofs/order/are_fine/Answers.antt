use Rattle.std.proofs.Common.{◌≡◌, refl, ap, ◌∙◌, subst, ⊎_elim, arith}
use Rattle.std.specs.Prelude.{Some, slice_get}
use Rattle.std.proofs.lemmas.Bool.{cases_eq}
use Rattle.std.proofs.lemmas.List.Elements.{Contains-get_or}
use Rattle.std.proofs.lemmas.Option.{get_or_from_slice_get, slice_get-get_or}
use Rattle.ms_flow.specs.declared.sources.Source.{Source}
use Rattle.ms_flow.specs.Flow.{IsFine}
use Rattle.ms_flow.proofs.order.are_fine.Goals as goal

pub is_fine-requires-clause-from : goal.is_fine-requires-clause-from
is_fine-requires-clause-from c =
    let none : Source = record { from = 0; slot = 0 } in
    c.requires.within _ (Contains-get_or c.args.list.now c.loop-k.k none c.loop-k-test.true)

pub loop-k-preserved : goal.loop-k-preserved
loop-k-preserved c =
    let none : Source = record { from = 0; slot = 0 } in (
      c.is_fine.ensures.blocks,
      λ i e lt is. ⊎_elim
          (λ (s : i ≡ c.loop-k.k).
          let here : slice_get c.args.list.now c.loop-k.k ≡ Some e = subst (λ k. slice_get c.args.list.now k ≡ Some e) s is in
          subst (λ (x : Source). IsFine c.args.table.now x.from c.args.to) (get_or_from_slice_get c.args.list.now c.loop-k.k e none here) (c.is_fine.ensures.fine.0 c.if-not-is_fine.false))
          (λ (n : i ≡ c.loop-k.k → ⊥). c.loop-k.invariant.1 i e (omega arith) is)
          (cases_eq i c.loop-k.k),
    )

pub returns-clause-fine : goal.returns-clause-fine
returns-clause-fine c =
    let end = c.loop-k-test.false in (
      λ t e h. let within = h.1 in c.loop-k.invariant.1 h.0 e (omega arith) (slice_get-get_or c.args.list.now h.0 e h.1 ∙ ap Some h.2),
      λ f. refl,
    )
