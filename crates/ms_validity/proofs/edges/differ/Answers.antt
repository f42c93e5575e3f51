use Rattle.std.proofs.Common.{sym, ◌∙◌}
use Rattle.std.proofs.lemmas.Bool.{both_ways, not-true, not_from_false, false_from_ne_true}
use Rattle.std.proofs.lemmas.List.Sorted.{IsNonDecreasingBy-from_sort}
use Rattle.ms_validity.proofs.EdgeLemmas.{differ_told}
use Rattle.ms_validity.proofs.edges.differ.Goals as goal

pub returns : goal.returns
returns c =
    let t = c.same_list.result in
    let a = c.as_slice.ensures.value in
    let b = c.as_slice-2.ensures.value in
    differ_told c.args.a.items c.args.b.items c.sort_unstable.new.self.items c.sort_unstable-2.new.self.items _
    c.sort_unstable.ensures.permutation c.sort_unstable-2.ensures.permutation
    (IsNonDecreasingBy-from_sort (λ x. x) _ c.sort_unstable.ensures.sorted) (IsNonDecreasingBy-from_sort (λ x. x) _ c.sort_unstable-2.ensures.sorted) (
      λ k e. both_ways t (not-true t k) (c.same_list.ensures.1 (a ∙ e ∙ sym b)),
      λ ne. not_from_false t (false_from_ne_true t (λ k. ne (sym a ∙ c.same_list.ensures.0 k ∙ b))),
    )
