-- A fact of each member of a list, from a place on and of all.
use Rattle.std.proofs.Common.{◌≡◌, ℕ, ◌+◌, ◌<◌, ◌≤◌, List, ◌∷◌, length, drop, map, get_or, sym, ap, subst, ◌∙◌}
use Rattle.std.proofs.Math.ListN.{drop_of_length-le}
use Rattle.std.proofs.lemmas.List.{drop_more}
use Rattle.ms_grammar.specs.Kept.{Each}

-- it holds of all exactly where it holds of those from a place on
pub record IsSame {X Y : Type 0} (P : Y → Type 0) (f : X → Y) (xs : List X) (i : ℕ) : Type 0 where
  pub on : Each P (map f (drop i xs)) → Each P (map f xs)
  pub back : Each P (map f xs) → Each P (map f (drop i xs))

pub same_first : {X Y : Type 0} (P : Y → Type 0) (f : X → Y) (xs : List X) → IsSame P f xs 0
same_first P f xs = record { on = λ h. h; back = λ h. h }

cut_at : {X : Type 0} (xs : List X) (i : ℕ) (a : X) → i < length xs → a ≡ get_or xs i a → drop i xs ≡ a ∷ drop (i + 1) xs
cut_at xs i a less is = drop_more xs i a less ∙ ap (λ x. x ∷ drop (i + 1) xs) (sym is)

pub same_next : {X Y : Type 0} (P : Y → Type 0) (f : X → Y) (xs : List X) (i : ℕ) (a : X) → i < length xs → a ≡ get_or xs i a → P (f a) → IsSame P f xs i → IsSame P f xs (i + 1)
same_next P f xs i a less is here h =
    let cut = cut_at xs i a less is in
    record {
      on = λ rest. h.on (subst (λ ys. Each P (map f ys)) (sym cut) (here, rest));
      back = λ all. (subst (λ ys. Each P (map f ys)) cut (h.back all)).1;
    }

pub same_end : {X Y : Type 0} (P : Y → Type 0) (f : X → Y) (xs : List X) (i : ℕ) → length xs ≤ i → IsSame P f xs i → Each P (map f xs)
same_end P f xs i le h = h.on (subst (λ ys. Each P (map f ys)) (sym (drop_of_length-le xs le)) tt)

pub same_not : {X Y : Type 0} (P : Y → Type 0) (f : X → Y) (xs : List X) (i : ℕ) (a : X) → i < length xs → a ≡ get_or xs i a → IsSame P f xs i → Each P (map f xs) → P (f a)
same_not P f xs i a less is h all = (subst (λ ys. Each P (map f ys)) (cut_at xs i a less is) (h.back all)).0
