-- How often numbers stand in lists, and the entries of phis.
use Rattle.std.proofs.Common.{◌≡◌, ◌≢◌, ℕ, suc, ◌+◌, ◌<◌, ◌≤◌, ◌⊎◌, cond, if◌then◌else◌, Bool, false, List, [], ◌∷◌, length, map, get_or, Option, Some, None, refl, sym, ap, ◌∙◌, subst, inr, ⊎_elim, arith}
use Rattle.std.specs.Prelude.{IsTrue, ◌↔◌, ◌==◌}
use Rattle.std.specs.List.{slice_get}
use Rattle.std.specs.List.Sorted.{IsPermutation, IsNonDecreasing}
use Rattle.std.proofs.lemmas.Bool.{cases_eq, cases_order, eq-eqb, ne_eqb, both_ways}
use Rattle.std.proofs.lemmas.List.Sorted.{sum_by-IsPermutation}
use Rattle.std.proofs.lemmas.List.Sums.{length-filter}
use Rattle.std.proofs.lemmas.Option.{same_Some, slice_get_within}
use Rattle.ms_ir.specs.declared.names.BlockNo.{BlockNo}
use Rattle.ms_ir.specs.declared.inst.Val.{Val}
use Rattle.ms_ir.specs.declared.inst.Entry.{Entry}
use Rattle.ms_ir.specs.declared.names.Ty.{Ty}
use Rattle.ms_ir.specs.declared.inst.Inst.{Inst}
use Rattle.ms_ir.specs.declared.inst.Inst.TheVariants.{Phi}
use Rattle.ms_ir.specs.Sound.{times_in, from_of, HasTwoValues}
use Rattle.ms_validity.specs.Tables.{HasBadEntriesFor}

times_here : (n : ℕ) (xs : List ℕ) → times_in n (n ∷ xs) ≡ suc (times_in n xs)
times_here n xs = rw (eq-eqb n n refl) refl

times_past : (n x : ℕ) (xs : List ℕ) → (x ≡ n → ⊥) → times_in n (x ∷ xs) ≡ times_in n xs
times_past n x xs ne = rw (ne_eqb x n ne) refl

times_cancel : (n x : ℕ) (xs ys : List ℕ) → times_in n (x ∷ xs) ≡ times_in n (x ∷ ys) → times_in n xs ≡ times_in n ys
times_cancel n x xs ys e =
    ⊎_elim
    (λ (s : x ≡ n).
    let e' : times_in n (n ∷ xs) ≡ times_in n (n ∷ ys) = subst (λ y. times_in n (y ∷ xs) ≡ times_in n (y ∷ ys)) s e in
    let a = times_here n xs in
    let b = times_here n ys in
    omega arith)
    (λ (ne : x ≡ n → ⊥). sym (times_past n x xs ne) ∙ e ∙ times_past n x ys ne)
    (cases_eq x n)

abbrev AtLeast : ℕ → List ℕ → Type 0
AtLeast x [] = Unit {0}
AtLeast x (y ∷ ys) = (x ≤ y) × AtLeast x ys

-- each number is at most the next ones
abbrev Up : List ℕ → Type 0
Up [] = Unit {0}
Up (x ∷ xs) = AtLeast x xs × Up xs

at_least : (x : ℕ) (xs : List ℕ) → ((j : ℕ) → j < length xs → x ≤ get_or xs j 0) → AtLeast x xs
at_least x [] h = tt
at_least x (y ∷ ys) h = (h 0 (omega arith), at_least x ys (λ j lt. h (suc j) (omega arith)))

up : (xs : List ℕ) → IsNonDecreasing xs → Up xs
up [] h = tt
up (x ∷ xs) h = (at_least x xs (λ j lt. h 0 (suc j) 0 (omega arith) (omega arith)), up xs (λ i j d le lt. h (suc i) (suc j) d (omega arith) (omega arith)))

none_below : (n x : ℕ) (xs : List ℕ) → AtLeast x xs → n < x → times_in n xs ≡ 0
none_below n x [] up lt = refl
none_below n x (y ∷ ys) up lt = let le = up.0 in times_past n y ys (λ e. omega arith) ∙ none_below n x ys up.1 lt

-- of two lists that go up and are not one, some number stands more often in one
some_differ : (xs ys : List ℕ) → Up xs → Up ys → (xs ≡ ys → ⊥) → (n : ℕ) × (times_in n xs ≢ times_in n ys)
some_differ [] [] u v ne = absurd (ne refl)
some_differ [] (y ∷ ys) u v ne = (y, λ e. let h = times_here y ys in omega (arith, e))
some_differ (x ∷ xs) [] u v ne = (x, λ e. let h = times_here x xs in omega (arith, e))
some_differ (x ∷ xs) (y ∷ ys) u v ne =
    ⊎_elim
    (λ (e : x ≡ y).
    let rest = some_differ xs ys u.1 v.1 (λ s. ne cc) in
    (rest.0, λ t. rest.1 (times_cancel rest.0 y xs ys (subst (λ z. times_in rest.0 (z ∷ xs) ≡ times_in rest.0 (y ∷ ys)) e t))))
    (λ (o : (x < y) ⊎ (y < x)). ⊎_elim
    (λ (lt : x < y). (
      x,
      λ t.
          let h = times_here x xs in
          let none = none_below x y ys v.0 lt in
          let past = times_past x y ys (λ e. omega arith) in
          omega (arith, t),
    ))
    (λ (lt : y < x). (
      y,
      λ t.
          let h = times_here y ys in
          let none = none_below y x xs u.0 lt in
          let past = times_past y x xs (λ e. omega arith) in
          omega (arith, t),
    ))
    o)
    (cases_order x y)

times_permuted : (n : ℕ) (xs ys : List ℕ) → IsPermutation xs ys → times_in n ys ≡ times_in n xs
times_permuted n xs ys moved =
    length-filter (λ x. x == n) ys ∙ sum_by-IsPermutation (λ x. cond (x == n) 1 0) xs ys moved ∙ sym (length-filter (λ x. x == n) xs)

-- two sorted lists are one exactly where each number stands as often in one as in the other
pub differ_told : (xs ys us vs : List ℕ) (t : Bool) → IsPermutation xs us → IsPermutation ys vs → IsNonDecreasing us → IsNonDecreasing vs
    → (IsTrue t ↔ (us ≡ vs → ⊥)) → IsTrue t ↔ ((n : ℕ) × (times_in n xs ≢ times_in n ys))
differ_told xs ys us vs t p q u v told = (
  λ k.
      let d = some_differ us vs (up us u) (up vs v) (told.0 k) in
      (d.0, λ e. d.1 (times_permuted d.0 xs us p ∙ e ∙ sym (times_permuted d.0 ys vs q))),
  λ w. told.1 (λ e. w.1 (sym (times_permuted w.0 xs us p) ∙ ap (times_in w.0) e ∙ times_permuted w.0 ys vs q)),
)

-- what a table of the first i entries by their block tells
pub record IsFirst (entries : List Entry) (i : ℕ) (at : ℕ → Option Val) : Type 0 where
  pub seen : (j : ℕ) (e : Entry) → j < i → slice_get entries j ≡ Some e → at e.from.0 ≡ Some e.val
  pub found : (q : ℕ) (v : Val) → at q ≡ Some v → (j : ℕ) × (e : Entry) × (j < i) × (slice_get entries j ≡ Some e) × (e.from.0 ≡ q) × (e.val ≡ v)

pub first_none : (entries : List Entry) (at : ℕ → Option Val) → ((q : ℕ) → at q ≡ None) → IsFirst entries 0 at
first_none entries at none = record {
  seen = λ j e lt get. absurd (omega arith);
  found = λ q v e. absurd (let n = none q in cc);
}

-- one more, of a block that was there with the same value
pub first_same : (entries : List Entry) (i : ℕ) (at : ℕ → Option Val) (e : Entry) → IsFirst entries i at → slice_get entries i ≡ Some e → at e.from.0 ≡ Some e.val
    → IsFirst entries (i + 1) at
first_same entries i at e first get is = record {
  seen = λ j d lt here. ⊎_elim
      (λ (s : j ≡ i). let same : e ≡ d = let h = subst (λ k. slice_get entries k ≡ Some d) s here in same_Some e d (sym get ∙ h) in subst (λ (x : Entry). at x.from.0 ≡ Some x.val) same is)
      (λ (n : j ≡ i → ⊥). first.seen j d (omega arith) here)
      (cases_eq j i);
  found = λ q v h. let w = first.found q v h in (w.0, w.1, let lt = w.2 in omega arith, w.3, w.4, w.5);
}

-- one more, of a block that was not there
pub first_new : (entries : List Entry) (i : ℕ) (at next : ℕ → Option Val) (e : Entry) → IsFirst entries i at → slice_get entries i ≡ Some e → at e.from.0 ≡ None
    → ((q : ℕ) → next q ≡ (if e.from.0 == q then Some e.val else at q)) → IsFirst entries (i + 1) next
first_new entries i at next e first get none is = record {
  seen = λ j d lt here. ⊎_elim
      (λ (s : j ≡ i).
      let same : e ≡ d = let h = subst (λ k. slice_get entries k ≡ Some d) s here in same_Some e d (sym get ∙ h) in
      let own : next e.from.0 ≡ Some e.val = is e.from.0 ∙ ap (λ (b : Bool). if b then Some e.val else at e.from.0) (eq-eqb e.from.0 e.from.0 refl) in
      subst (λ (x : Entry). next x.from.0 ≡ Some x.val) same own)
      (λ (n : j ≡ i → ⊥).
      let old = first.seen j d (omega arith) here in
      let apart : e.from.0 ≡ d.from.0 → ⊥ = λ s. let o : at e.from.0 ≡ Some d.val = subst (λ k. at k ≡ Some d.val) (sym s) old in cc in
      is d.from.0 ∙ ap (λ (b : Bool). if b then Some e.val else at d.from.0) (ne_eqb e.from.0 d.from.0 apart) ∙ old)
      (cases_eq j i);
  found = λ q v h. ⊎_elim
      (λ (s : e.from.0 ≡ q).
      let own : next q ≡ Some e.val = is q ∙ ap (λ (b : Bool). if b then Some e.val else at q) (eq-eqb e.from.0 q s) in
      (i, e, omega arith, get, s, same_Some e.val v (sym own ∙ h)))
      (λ (n : e.from.0 ≡ q → ⊥).
      let old : at q ≡ Some v = sym (is q ∙ ap (λ (b : Bool). if b then Some e.val else at q) (ne_eqb e.from.0 q n)) ∙ h in
      let w = first.found q v old in
      (w.0, w.1, let lt = w.2 in omega arith, w.3, w.4, w.5))
      (cases_eq e.from.0 q);
}

-- a block that was there with another value
pub first_other : (entries : List Entry) (i : ℕ) (at : ℕ → Option Val) (e : Entry) (v : Val) → IsFirst entries i at → slice_get entries i ≡ Some e
    → at e.from.0 ≡ Some v → (v ≡ e.val → ⊥) → HasTwoValues entries
first_other entries i at e v first get is ne =
    let w = first.found e.from.0 v is in
    (w.0, i, w.1, e, w.3, get, ap (λ (n : ℕ). record { 0 = n }) w.4, λ s. ne (sym w.5 ∙ s))

-- all were there with one value
pub first_all : (entries : List Entry) (i : ℕ) (at : ℕ → Option Val) → length entries ≤ i → IsFirst entries i at → HasTwoValues entries → ⊥
first_all entries i at le first h =
    let j = slice_get_within entries h.0 h.2 h.4 in
    let k = slice_get_within entries h.1 h.3 h.5 in
    let a = first.seen h.0 h.2 (omega arith) h.4 in
    let b = first.seen h.1 h.3 (omega arith) h.5 in
    let from = h.6 in
    h.7 (same_Some h.2.val h.3.val (sym a ∙ ap (λ (x : BlockNo). at x.0) from ∙ b))

-- a phi's faults, where its blocks fit
pub fit_told : (sources : List ℕ) (inst : Inst) (entries : List Entry) (ty : Ty) (tail : List ℕ) (a : Bool) → inst ≡ Phi ty entries tail
    → (IsTrue a ↔ ((n : ℕ) × (times_in n (map from_of entries) ≢ times_in n sources))) → a ≡ false
    → (t : Bool) → (IsTrue t ↔ HasTwoValues entries) → IsTrue t ↔ HasBadEntriesFor sources inst
fit_told sources inst entries ty tail a is told fits t two =
    subst (λ (i : Inst). IsTrue t ↔ HasBadEntriesFor sources i) (sym is) (
      λ k. inr (two.0 k),
      λ h. ⊎_elim (λ (x : (n : ℕ) × (times_in n (map from_of entries) ≢ times_in n sources)). absurd (both_ways a fits (told.1 x))) (λ (y : HasTwoValues entries). two.1 y) h,
    )
