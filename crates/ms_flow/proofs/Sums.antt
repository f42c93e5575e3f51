-- Sums over lists of blocks: the order does not count.
use Rattle.std.proofs.Common.{◌≡◌, ◌+◌, ℕ, zero, suc, true, false, cond, eqb, ◌⊎◌, ◌<◌, List, [], ◌∷◌, length, get_or, reverse, refl, sym, ap, ◌∙◌, subst, inl, inr, ⊎_elim, arith}
use Rattle.std.specs.Prelude.{Contains, nat_eq, sum_by, ◌↔◌}
use Rattle.std.specs.List.{IsDistinct, AllByRecursion}
use Rattle.std.proofs.lemmas.Bool.{cases_Bool, both_ways, eqb-true, eq-eqb}
use Rattle.std.proofs.lemmas.List.{reverse-append}
use Rattle.std.proofs.lemmas.List.Sums.{sum_by-cons, sum_by-append}
use Rattle.std.proofs.lemmas.Map.Keys.{IsDistinct-head, IsDistinct-tail}
use Rattle.ms_paths.specs.Flow.{Block as Run, IsReached, IsClosed}
use Rattle.ms_flow.specs.Table.{next_of}
use Rattle.ms_flow.specs.Flow.{walked}
use Rattle.ms_flow.specs.Cut.{edges_left}
use Rattle.ms_flow.proofs.Paths.{reached_left}
use Rattle.ms_flow.proofs.Orders.{left_once}

pub sum_reversed : (f : ℕ → ℕ) (xs : List ℕ) → sum_by f (reverse xs) ≡ sum_by f xs
sum_reversed f [] = refl
sum_reversed f (x ∷ xs) =
    let whole = ap (sum_by f) (reverse-append (x ∷ []) xs) in
    let split = sum_by-append f (reverse xs) (x ∷ []) in
    let one = sum_by-cons f x [] in
    let all = sum_by-cons f x xs in
    let rest = sum_reversed f xs in
    whole ∙ split ∙ (let e : sum_by f (reverse xs) + sum_by f (x ∷ []) ≡ f x + sum_by f xs = omega (arith, one, rest) in e) ∙ sym all

abbrev IsIn : ℕ → List ℕ → Type 0
IsIn k [] = ⊥
IsIn k (x ∷ xs) = (k ≡ x) ⊎ IsIn k xs

abbrev Once : List ℕ → Type 0
Once [] = Unit {0}
Once (x ∷ xs) = (IsIn x xs → ⊥) × Once xs

is_in : (xs : List ℕ) (k i : ℕ) → i < length xs → get_or xs i k ≡ k → IsIn k xs
is_in [] k i lt e = absurd (omega arith)
is_in (x ∷ xs) k zero lt e = inl (sym e)
is_in (x ∷ xs) k (suc i) lt e = inr (is_in xs k i (omega arith) e)

in_list : (xs : List ℕ) (k : ℕ) → IsIn k xs → Contains xs k
in_list [] k h = absurd h
in_list (x ∷ xs) k (inl e) = (0, omega arith, sym e)
in_list (x ∷ xs) k (inr h) = let r = in_list xs k h in (suc r.0, omega (arith, r.1), r.2)

none_equal : (k : ℕ) (xs : List ℕ) → AllByRecursion (λ y. nat_eq k y ≡ false) xs → IsIn k xs → ⊥
none_equal k [] a h = h
none_equal k (x ∷ xs) a (inl e) = both_ways (nat_eq k x) a.0 (eq-eqb k x e)
none_equal k (x ∷ xs) a (inr h) = none_equal k xs a.1 h

once_from : (xs : List ℕ) → IsDistinct nat_eq xs → Once xs
once_from [] d = tt
once_from (x ∷ xs) d = (none_equal x xs (IsDistinct-head nat_eq x xs d), once_from xs (IsDistinct-tail nat_eq x xs d))

-- the list without the first place of a number
abbrev without : ℕ → List ℕ → List ℕ
without x [] = []
without x (y ∷ ys) = cond (eqb y x) ys (y ∷ without x ys)

sum_without : (f : ℕ → ℕ) (x : ℕ) (ys : List ℕ) → IsIn x ys → sum_by f ys ≡ f x + sum_by f (without x ys)
sum_without f x [] h = absurd h
sum_without f x (y ∷ ys) h =
    ⊎_elim
    (λ (e : eqb y x ≡ true). rw e (sum_by-cons f y ys ∙ ap (λ n. f n + sum_by f ys) (eqb-true y x e)))
    (λ (n : eqb y x ≡ false).
    let r = sum_without f x ys (rest n h) in
    let all = sum_by-cons f y ys in
    let left = sum_by-cons f y (without x ys) in
    rw n (all ∙ (let e : f y + sum_by f ys ≡ f x + (f y + sum_by f (without x ys)) = omega (arith, r) in e) ∙ ap (λ m. f x + m) (sym left)))
    (cases_Bool (eqb y x))
  where
    rest : eqb y x ≡ false → IsIn x (y ∷ ys) → IsIn x ys
    rest n (inl e) = absurd (both_ways (eqb y x) n (eq-eqb y x (sym e)))
    rest n (inr i) = i

was_in : (x k : ℕ) (ys : List ℕ) → IsIn k (without x ys) → IsIn k ys
was_in x k [] h = h
was_in x k (y ∷ ys) h =
    ⊎_elim
    (λ (e : eqb y x ≡ true). let h' : IsIn k ys = rw e at h in inr h')
    (λ (n : eqb y x ≡ false). let h' : IsIn k (y ∷ without x ys) = rw n at h in ⊎_elim (λ (e : k ≡ y). inl e) (λ (i : IsIn k (without x ys)). inr (was_in x k ys i)) h')
    (cases_Bool (eqb y x))

in_without : (x k : ℕ) (ys : List ℕ) → IsIn k ys → (k ≡ x → ⊥) → IsIn k (without x ys)
in_without x k [] h a = h
in_without x k (y ∷ ys) h a =
    ⊎_elim
    (λ (e : eqb y x ≡ true). rw e (⊎_elim (λ (s : k ≡ y). absurd (a (s ∙ eqb-true y x e))) (λ (i : IsIn k ys). i) h))
    (λ (n : eqb y x ≡ false). rw n (⊎_elim (λ (s : k ≡ y). inl s) (λ (i : IsIn k ys). inr (in_without x k ys i a)) h))
    (cases_Bool (eqb y x))

once_without : (x : ℕ) (ys : List ℕ) → Once ys → Once (without x ys)
once_without x [] o = tt
once_without x (y ∷ ys) o =
    ⊎_elim
    (λ (e : eqb y x ≡ true). rw e o.1)
    (λ (n : eqb y x ≡ false). rw n (λ i. o.0 (was_in x y ys i), once_without x ys o.1))
    (cases_Bool (eqb y x))

gone : (x : ℕ) (ys : List ℕ) → Once ys → IsIn x (without x ys) → ⊥
gone x [] o h = h
gone x (y ∷ ys) o h =
    ⊎_elim
    (λ (e : eqb y x ≡ true). let h' : IsIn x ys = rw e at h in o.0 (subst (λ n. IsIn n ys) (sym (eqb-true y x e)) h'))
    (λ (n : eqb y x ≡ false). let h' : IsIn x (y ∷ without x ys) = rw n at h in ⊎_elim (λ (s : x ≡ y). both_ways (eqb y x) n (eq-eqb y x (sym s))) (λ (i : IsIn x (without x ys)). gone x ys o.1 i) h')
    (cases_Bool (eqb y x))

same_sum : (f : ℕ → ℕ) (xs ys : List ℕ) → Once xs → Once ys → ((k : ℕ) → IsIn k xs ↔ IsIn k ys) → sum_by f xs ≡ sum_by f ys
same_sum f [] [] a b same = refl
same_sum f [] (y ∷ ys) a b same = absurd ((same y).1 (inl refl))
same_sum f (x ∷ xs) ys a b same =
    sum_by-cons f x xs ∙ ap (λ n. f x + n) (same_sum f xs (without x ys) a.1 (once_without x ys b) (λ k. (there k, back k))) ∙ sym (sum_without f x ys ((same x).0 (inl refl)))
  where
    there : (k : ℕ) → IsIn k xs → IsIn k (without x ys)
    there k h = in_without x k ys ((same k).0 (inr h)) (λ e. a.0 (subst (λ n. IsIn n xs) e h))

    back : (k : ℕ) → IsIn k (without x ys) → IsIn k xs
    back k h = ⊎_elim (λ (e : k ≡ x). absurd (gone x ys b (subst (λ n. IsIn n (without x ys)) e h))) (λ (i : IsIn k xs). i) ((same k).1 (was_in x k ys h))

pub one_count : (g : List Run) (blocks : List ℕ) → IsClosed g → IsDistinct nat_eq blocks → ((b : ℕ) → Contains blocks b ↔ IsReached g b) → sum_by (λ b. length (next_of g b)) blocks ≡ edges_left g
one_count g blocks closed once are =
    same_sum (λ b. length (next_of g b)) blocks (walked g).left (once_from blocks once) (once_from (walked g).left (left_once g closed))
    (λ k. (
      λ h. let c = (reached_left g closed k).1 ((are k).0 (in_list blocks k h)) in is_in (walked g).left k c.0 c.1 c.2,
      λ h. let c = (are k).1 ((reached_left g closed k).0 (in_list (walked g).left k h)) in is_in blocks k c.0 c.1 c.2,
    ))
