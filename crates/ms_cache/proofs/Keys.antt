-- Answers by their queries.
use Rattle.std.proofs.Common.{◌≡◌, ◌<◌, List, false, Option, Some, None, Contains, refl, sym, ◌∙◌, true≢false, length, arith}
use Rattle.std.specs.List.{IsDistinct}
use Rattle.std.specs.Map.{keys_of, lookup}
use Rattle.std.proofs.lemmas.List.{get_or-map}
use Rattle.std.proofs.lemmas.List.Elements.{All-contains, All-from_recursion}
use Rattle.std.proofs.lemmas.Map.{none_passes_from_lookup}
use Rattle.std.proofs.lemmas.Map.Entries.{length-keys_of}
use Rattle.std.proofs.lemmas.Map.Made.{AllPairs-from_IsDistinct}
use Rattle.std.proofs.lemmas.Map.Views.{Contains-from_lookup}
use Rattle.ms_form.specs.declared.access.Access.{Access}
use Rattle.ms_cache.specs.declared.query.Query.{Query}
use Rattle.ms_cache.specs.Same.{same_query, same_query-Decides, same_query_equiv}
use Rattle.ms_cache.specs.Stays.{Kept, NotKept, AreOnce}

-- where no two keys are equal, no query stands twice
pub once_told : (kept : List Kept) → IsDistinct same_query (keys_of kept) → AreOnce kept
once_told kept h i j d below within e =
    let end : j < length (keys_of kept) = omega (arith, length-keys_of kept) in
    let start : i < length kept = omega arith in
    AllPairs-from_IsDistinct same_query-Decides (keys_of kept) h i j d.0 below end (get_or-map (λ (x : Kept). x.0) kept i d d.0 start ∙ e ∙ sym (get_or-map (λ (x : Kept). x.0) kept j d d.0 within))

-- what is found is kept
pub found_kept : (kept : List Kept) (q : Query) (a : Access) → lookup (same_query q) kept ≡ Some a → Contains kept (q, a)
found_kept kept q a e = Contains-from_lookup (λ x y h. (same_query-Decides x y).0 h) q a kept e

-- what is not found is not kept
pub not_kept : (kept : List Kept) (q : Query) → lookup (same_query q) kept ≡ None → NotKept kept q
not_kept kept q e a h =
    let none = All-from_recursion (λ (x : Kept). same_query q x.0 ≡ false) kept (none_passes_from_lookup (same_query q) kept e) in
    true≢false (sym (same_query_equiv.refl q) ∙ All-contains (λ (x : Kept). same_query q x.0 ≡ false) kept (q, a) none h)

-- what is not kept is not found
pub not_found : (kept : List Kept) (q : Query) → NotKept kept q → lookup (same_query q) kept ≡ None
not_found kept q none = by (lookup (same_query q) kept) refl
  where
    by : (r : Option Access) → lookup (same_query q) kept ≡ r → r ≡ None
    by None e = refl
    by (Some a) e = absurd (none a (found_kept kept q a e))
