use Rattle.std.proofs.Common.{◌≡◌, ℤ, true, refl}
use Rattle.std.specs.Ordering.{int_eq}
use Rattle.std.proofs.lemmas.Bool.Decides.{Decides-int_eq}
use Rattle.std.proofs.lemmas.Cmp.{int_cmp_total, int_eq_equiv}
use Rattle.std.proofs.lemmas.List.Filters.{dedup_is}
use Rattle.std.proofs.lemmas.List.Kept.{Contains-dedup, Contains-from_dedup, IsStrictlySortedBy-dedup}
use Rattle.std.proofs.lemmas.List.Sorted.{Contains-permutation, IsPermutation-sym}
use Rattle.ms_effects.proofs.columns.put_in_order.Goals as goal

one : (x y : ℤ) → int_eq x y ≡ true → x ≡ y
one x y e = (Decides-int_eq x y).0 e

pub returns : goal.returns
returns c =
    let is = dedup_is _ _ _ c.dedup.ensures.filtered in
    let moved = c.sort_unstable.ensures.permutation in
    record {
      sorted = rw is (IsStrictlySortedBy-dedup int_cmp_total (λ x y. refl) _ c.sort_unstable.ensures.sorted);
      same = λ x. (
        λ h. Contains-permutation _ _ x (IsPermutation-sym _ _ moved) (Contains-from_dedup _ _ x (rw is at h)),
        λ h. rw is (Contains-dedup int_eq_equiv one _ x (Contains-permutation _ _ x moved h)),
      );
    }
