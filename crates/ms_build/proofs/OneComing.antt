-- The one access that comes over each edge to a block.
use Rattle.std.proofs.Common.{◌≡◌, ◌≢◌, ◌<◌, ◌≤◌, ℕ, ◌+◌, List, [], ◌∷◌, length, Option, Some, None, refl, sym, ◌∙◌, subst, arith, ⊎_elim}
use Rattle.std.specs.Prelude.{slice_get, MatchOption}
use Rattle.std.proofs.lemmas.Bool.{cases_eq}
use Rattle.ms_paths.specs.Flow.{Block as Run, IsReached}
use Rattle.ms_flow.specs.declared.sources.Source.{Source}
use Rattle.ms_flow.specs.Flow.{sources_of}
use Rattle.ms_form.specs.declared.access.Access.{Access}
use Rattle.ms_form.specs.declared.access.Access.TheVariants.{Entry}
use Rattle.ms_form.specs.Form.{FormState, HasList}
use Rattle.ms_build.specs.Accesses.{entering_at}
use Rattle.ms_build.specs.Entering.{IsLeaving, IsCommon}
use Rattle.ms_build.proofs.Slots.{EdgesAll, slot_of_edge, IsSlot}
use Rattle.ms_build.proofs.Lists.{slice_get_below}

abbrev pub IsCommonBelow : List Run → FormState → ℕ → ℕ → Access → Type 0
IsCommonBelow g f b k a = (b ≡ 0 → a ≡ Entry) × ((slot : ℕ) (e : Source) → slot < k → slice_get (sources_of g b) slot ≡ Some e → IsLeaving f e.from a)

pub record IsOneBelow (g : List Run) (f : FormState) (b k : ℕ) (a : Access) : Type 0 where
  pub common : IsCommonBelow g f b k a
  pub listed : HasList f a
  pub only : (x : Access) → IsCommonBelow g f b k x → x ≡ a

-- what was found at the first slots
abbrev pub IsOneFound : List Run → FormState → ℕ → ℕ → Option Access → Type 0
IsOneFound g f b k None = (b ≢ 0) × (k ≡ 0)
IsOneFound g f b k (Some a) = IsOneBelow g f b k a

pub one_entry : (g : List Run) (f : FormState) (b : ℕ) → b ≡ 0 → IsOneFound g f b 0 (Some Entry)
one_entry g f b z = record { common = (λ e. refl, λ slot e lt h. absurd (omega arith)); listed = tt; only = λ x h. h.0 z }

-- what comes over one more edge
common_next : (g : List Run) (f : FormState) (b k : ℕ) (a : Access) (s : Source) → IsCommonBelow g f b k a → slice_get (sources_of g b) k ≡ Some s → IsLeaving f s.from a → IsCommonBelow g f b (k + 1) a
common_next g f b k a s h found l = (
  h.0,
  λ slot e lt is.
      ⊎_elim
      (λ (i : slot ≡ k).
      let both : Some s ≡ Some e = sym found ∙ subst (λ (n : ℕ). slice_get (sources_of g b) n ≡ Some e) i is in
      let same : s ≡ e = cc in
      subst (λ (d : Source). IsLeaving f d.from a) same l)
      (λ (n : slot ≡ k → ⊥). h.1 slot e (omega arith) is)
      (cases_eq slot k),
)

common_less : (g : List Run) (f : FormState) (b k : ℕ) (a : Access) → IsCommonBelow g f b (k + 1) a → IsCommonBelow g f b k a
common_less g f b k a h = (h.0, λ slot e lt is. h.1 slot e (omega arith) is)

one_leaves : (f : FormState) (x : ℕ) (a d : Access) → IsLeaving f x a → IsLeaving f x d → a ≡ d
one_leaves f x a d h k = let both : Some a ≡ Some d = sym h.leaves ∙ k.leaves in cc

pub one_first : (g : List Run) (f : FormState) (b k : ℕ) (a : Access) (s : Source) → IsOneFound g f b k None → slice_get (sources_of g b) k ≡ Some s → IsLeaving f s.from a → HasList f a → IsOneFound g f b (k + 1) (Some a)
one_first g f b k a s h found l listed = record {
  common = common_next g f b k a s (λ z. absurd (h.0 z), λ slot e lt is. absurd (let none = h.1 in omega arith)) found l;
  listed = listed;
  only = λ x c. one_leaves f s.from x a (c.1 k s (omega arith) found) l;
}

pub one_again : (g : List Run) (f : FormState) (b k : ℕ) (a : Access) (s : Source) → IsOneFound g f b k (Some a) → slice_get (sources_of g b) k ≡ Some s → IsLeaving f s.from a → IsOneFound g f b (k + 1) (Some a)
one_again g f b k a s h found l = record { common = common_next g f b k a s h.common found l; listed = h.listed; only = λ x c. h.only x (common_less g f b k x c) }

pub one_two : (g : List Run) (f : FormState) (b k : ℕ) (a d : Access) (s : Source) → IsOneFound g f b k (Some a) → slice_get (sources_of g b) k ≡ Some s → IsLeaving f s.from d → a ≢ d → (x : Access) → IsCommon g f b x → ⊥
one_two g f b k a d s h found l ne x c = ne (sym (h.only x (c.0, λ slot e lt is. c.1 slot e is)) ∙ one_leaves f s.from x d (c.1 k s found) l)

pub one_unfilled : (g : List Run) (f : FormState) (b k : ℕ) (s : Source) → slice_get (sources_of g b) k ≡ Some s → entering_at f s.from ≡ None → (x : Access) → IsCommon g f b x → ⊥
one_unfilled g f b k s found none x c = let l = c.1 k s found in let both : None ≡ Some l.start = sym none ∙ l.entered in cc

pub one_result : (g : List Run) (f : FormState) (b k : ℕ) (x : Option Access) → EdgesAll g → IsReached g b → IsOneFound g f b k x → length (sources_of g b) ≤ k
    → MatchOption x ((a : Access) → IsCommon g f b a → ⊥) (λ a. IsCommon g f b a × HasList f a)
one_result g f b k None all r h end = absurd (no_edge r)
  where
    no_edge : IsReached g b → ⊥
    no_edge ([], path) = h.0 path
    no_edge ((a ∷ p), path) = let over : IsSlot g a b = slot_of_edge g all a b (p, path.1) path.0 in let lt = slice_get_below (sources_of g b) over.slot over.source over.found in let z = h.1 in omega arith
one_result g f b k (Some a) all r h end = ((h.common.0, λ slot e is. h.common.1 slot e (let lt = slice_get_below (sources_of g b) slot e is in omega arith) is), h.listed)
