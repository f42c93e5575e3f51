-- What holds at no place of a list, below a number.
use Rattle.std.proofs.Common.{◌≡◌, ◌∙◌, ◌+◌, ◌<◌, ◌≤◌, ℕ, zero, suc, List, length, Some, None, sym, ap, subst, ⊎_elim, arith}
use Rattle.std.specs.Prelude.{Contains, slice_get}
use Rattle.std.proofs.lemmas.Bool.{cases_eq}
use Rattle.std.proofs.lemmas.Option.{slice_get_within, slice_get-get_or, get_or_from_slice_get, none-some}
use Rattle.ms_edits.specs.Told.{AtPlace, HasIn}

pub contains_at : {X : Type 0} (xs : List X) (x : X) → Contains xs x → (k : ℕ) × (slice_get xs k ≡ Some x)
contains_at xs x c = (c.0, slice_get-get_or xs c.0 x c.1 ∙ ap (λ y. Some y) c.2)

pub at_contains : {X : Type 0} (xs : List X) (k : ℕ) (x : X) → slice_get xs k ≡ Some x → Contains xs x
at_contains xs k x e = (k, slice_get_within xs k x e, get_or_from_slice_get xs k x x e)

abbrev pub NoneBelow : (ℕ → Type 0) → ℕ → Type 0
NoneBelow P k = (j : ℕ) → j < k → P j → ⊥

pub none_more : (P : ℕ → Type 0) (k : ℕ) → NoneBelow P k → (P k → ⊥) → NoneBelow P (k + 1)
none_more P k none not j lt h =
    ⊎_elim (λ (e : j ≡ k). not (subst P e h)) (λ (n : j ≡ k → ⊥). none j (omega arith) h) (cases_eq j k)

pub none_in : {X : Type 0} (xs : List X) (P : X → Type 0) (k : ℕ) → length xs ≤ k → NoneBelow (AtPlace xs P) k → HasIn xs P → ⊥
none_in xs P k len none h =
    let at = contains_at xs h.0 h.1 in
    let within = slice_get_within xs at.0 h.0 at.1 in
    none at.0 (omega arith) (h.0, at.1, h.2)

pub in_at : {X : Type 0} (xs : List X) (P : X → Type 0) (k : ℕ) → AtPlace xs P k → HasIn xs P
in_at xs P k h = (h.0, at_contains xs k h.0 h.1, h.2)

-- a list of one at most
pub only_one : {X : Type 0} (xs : List X) (x : X) (P : X → Type 0) → slice_get xs 0 ≡ Some x → ((k : ℕ) → slice_get xs (suc k) ≡ None) → HasIn xs P → P x
only_one xs x P first none h = let at = contains_at xs h.0 h.1 in here at.0 at.1
  where
    here : (k : ℕ) → slice_get xs k ≡ Some h.0 → P x
    here zero e = let same : h.0 ≡ x = cc in subst P same h.2
    here (suc k) e = let past = none k in absurd (none-some h.0 (sym past ∙ e))

pub none_at_all : {X : Type 0} (xs : List X) (P : X → Type 0) → slice_get xs 0 ≡ None → ((k : ℕ) → slice_get xs (suc k) ≡ None) → HasIn xs P → ⊥
none_at_all xs P first none h = let at = contains_at xs h.0 h.1 in here at.0 at.1
  where
    here : (k : ℕ) → slice_get xs k ≡ Some h.0 → ⊥
    here zero e = none-some h.0 (sym first ∙ e)
    here (suc k) e = none-some h.0 (sym (none k) ∙ e)
