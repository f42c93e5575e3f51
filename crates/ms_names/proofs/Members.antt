-- Members of lists.
use Rattle.std.proofs.Common.{◌≡◌, ◌∙◌, ◌⊎◌, inl, inr, ⊎_elim, ℕ, suc, zero, Bool, true, false, cond, List, [], ◌∷◌, ◌++◌, Option, Some, None, map, refl, sym, ap, subst, arith, bytes_eq}
use Rattle.std.specs.Prelude.{◌||◌, if◌then◌else◌, is_some, position, filter}
use Rattle.std.specs.List.{slice_get, list_any, flat_map}
use Rattle.std.specs.Option.{option_map}
use Rattle.std.specs.Cmp.Lexicographic.{bytes_decides, nat_list_eq_equiv}
use Rattle.std.proofs.lemmas.Bool.{cases_Bool}
use Rattle.std.proofs.lemmas.Grind.{common_steps}
use Rattle.ms_ir.specs.declared.names.Name.{Name}
use Rattle.ms_ir.specs.declared.names.Name.TheVariants.{Word, Number, Absent}
use Rattle.ms_names.specs.Faults.{IsIn}
use Rattle.ms_names.specs.Made.{is_same_name, full_name}
use Rattle.ms_names.specs.Places.{is_word_there, is_name_there}
use Rattle.ms_names.proofs.PlaceLemmas.{seek, seek_is}

-- a member, by going along the list
abbrev pub Among : {X : Type 0} → List X → X → Type 0
Among [] x = ⊥
Among (y ∷ ys) x = (y ≡ x) ⊎ Among ys x

pub among_in : {X : Type 0} (xs : List X) (x : X) → Among xs x → IsIn xs x
among_in [] x h = absurd h
among_in (y ∷ ys) x h = elim h [
  | inl e ↦ (0, ap Some e)
  | inr t ↦ let r = among_in ys x t in (suc r.0, r.1)
]

some_same : {X : Type 0} (x y : X) → Some x ≡ Some y → x ≡ y
some_same x y e = cc

pub get_among : {X : Type 0} (xs : List X) (k : ℕ) (x : X) → slice_get xs k ≡ Some x → Among xs x
get_among [] k x e = cc
get_among (y ∷ ys) zero x e = inl (some_same y x e)
get_among (y ∷ ys) (suc k) x e = inr (get_among ys k x e)

pub in_among : {X : Type 0} (xs : List X) (x : X) → IsIn xs x → Among xs x
in_among xs x h = get_among xs h.0 x h.1

pub among_left : {X : Type 0} (xs ys : List X) (x : X) → Among xs x → Among (xs ++ ys) x
among_left [] ys x h = absurd h
among_left (y ∷ xs) ys x h = elim h [ inl e ↦ inl e | inr t ↦ inr (among_left xs ys x t) ]

pub among_right : {X : Type 0} (xs ys : List X) (x : X) → Among ys x → Among (xs ++ ys) x
among_right [] ys x h = h
among_right (y ∷ xs) ys x h = inr (among_right xs ys x h)

pub among_append : {X : Type 0} (xs ys : List X) (x : X) → Among (xs ++ ys) x → Among xs x ⊎ Among ys x
among_append [] ys x h = inr h
among_append (y ∷ xs) ys x h = elim h [
  | inl e ↦ inl (inl e)
  | inr t ↦ elim (among_append xs ys x t) [ inl a ↦ inl (inr a) | inr b ↦ inr b ]
]

pub among_map : {X Y : Type 0} (f : X → Y) (xs : List X) (y : Y) → Among (map f xs) y → (x : X) × Among xs x × (f x ≡ y)
among_map f [] y h = absurd h
among_map f (x ∷ xs) y h = elim h [
  | inl e ↦ (x, inl refl, e)
  | inr t ↦ let r = among_map f xs y t in (r.0, inr r.1, r.2)
]

pub map_among : {X Y : Type 0} (f : X → Y) (xs : List X) (x : X) → Among xs x → Among (map f xs) (f x)
map_among f [] x h = absurd h
map_among f (y ∷ xs) x h = elim h [ inl e ↦ inl (ap f e) | inr t ↦ inr (map_among f xs x t) ]

pub among_flat : {X Y : Type 0} (f : X → List Y) (xs : List X) (y : Y) → Among (flat_map f xs) y → (x : X) × Among xs x × Among (f x) y
among_flat f [] y h = absurd h
among_flat f (x ∷ xs) y h = elim (among_append (f x) (flat_map f xs) y h) [
  | inl a ↦ (x, inl refl, a)
  | inr b ↦ let r = among_flat f xs y b in (r.0, inr r.1, r.2)
]

pub flat_among : {X Y : Type 0} (f : X → List Y) (xs : List X) (x : X) (y : Y) → Among xs x → Among (f x) y → Among (flat_map f xs) y
flat_among f [] x y h k = absurd h
flat_among {X} {Y} f (z ∷ xs) x y h k = elim h [
  | inl e ↦ let P : X → Type 0 = λ w. Among (f w) y in among_left (f z) (flat_map f xs) y (subst P (sym e) k)
  | inr t ↦ among_right (f z) (flat_map f xs) y (flat_among f xs x y t k)
]

pub among_filter : {X : Type 0} (p : X → Bool) (xs : List X) (x : X) → Among (filter p xs) x → Among xs x × (p x ≡ true)
among_filter p [] x h = absurd h
among_filter {X} p (y ∷ xs) x h = ⊎_elim
    (λ (t : p y ≡ true). let P : Bool → Type 0 = λ b. Among (cond b (y ∷ filter p xs) (filter p xs)) x in
    let here : (y ≡ x) ⊎ Among (filter p xs) x = subst P t h in
    elim here [ inl e ↦ (inl e, ap p (sym e) ∙ t) | inr r ↦ let rest = among_filter p xs x r in (inr rest.0, rest.1) ])
    (λ (f : p y ≡ false). let P : Bool → Type 0 = λ b. Among (cond b (y ∷ filter p xs) (filter p xs)) x in
    let rest = among_filter p xs x (subst P f h) in (inr rest.0, rest.1))
    (cases_Bool (p y))

pub filter_among : {X : Type 0} (p : X → Bool) (xs : List X) (x : X) → Among xs x → p x ≡ true → Among (filter p xs) x
filter_among p [] x h e = absurd h
filter_among {X} p (y ∷ xs) x h e = elim h [
  | inl s ↦ let P : Bool → Type 0 = λ b. Among (cond b (y ∷ filter p xs) (filter p xs)) x in subst P (sym (ap p s ∙ e)) (let here : Among (y ∷ filter p xs) x = inl s in here)
  | inr t ↦
      let rest = filter_among p xs x t e in
      let P : Bool → Type 0 = λ b. Among (cond b (y ∷ filter p xs) (filter p xs)) x in
      ⊎_elim (λ (t : p y ≡ true). subst P (sym t) (let here : Among (y ∷ filter p xs) x = inr rest in here)) (λ (f : p y ≡ false). subst P (sym f) rest) (cases_Bool (p y))
]

-- tests of lists
is_some_suc : (o : Option ℕ) → is_some (option_map suc o) ≡ is_some o
is_some_suc None = refl
is_some_suc (Some n) = refl

some_if : (b : Bool) (o : Option ℕ) → is_some (if b then Some 0 else option_map suc o) ≡ (b || is_some o)
some_if true o = refl
some_if false o = is_some_suc o

seek_any : {X : Type 0} (p : X → Bool) (xs : List X) → is_some (seek p xs) ≡ list_any p xs
seek_any p [] = refl
seek_any p (x ∷ xs) = some_if (p x) (seek p xs) ∙ ap (λ b. p x || b) (seek_any p xs)

pub there_any : {X : Type 0} (p : X → Bool) (xs : List X) → is_some (position p xs) ≡ list_any p xs
there_any p xs = ap (λ o. is_some o) (seek_is p xs) ∙ seek_any p xs

or_true : (a b : Bool) → (a || b) ≡ true → (a ≡ true) ⊎ (b ≡ true)
or_true true b e = inl refl
or_true false b e = inr e

pub or_either : (a b : Bool) → (a || b) ≡ true → (a ≡ true) ⊎ (b ≡ true)
or_either a b e = or_true a b e

pub or_left : (a b : Bool) → a ≡ true → (a || b) ≡ true
or_left a b e = rw e refl

pub or_right : (a b : Bool) → b ≡ true → (a || b) ≡ true
or_right true b e = refl
or_right false b e = e

pub any_among : {X : Type 0} (p : X → Bool) (xs : List X) → list_any p xs ≡ true → (x : X) × Among xs x × (p x ≡ true)
any_among p [] e = cc
any_among p (x ∷ xs) e = elim (or_true (p x) (list_any p xs) e) [
  | inl here ↦ (x, inl refl, here)
  | inr there ↦ let r = any_among p xs there in (r.0, inr r.1, r.2)
]

pub among_any : {X : Type 0} (p : X → Bool) (xs : List X) (x : X) → Among xs x → p x ≡ true → list_any p xs ≡ true
among_any p [] x h e = absurd h
among_any p (y ∷ xs) x h e = elim h [
  | inl s ↦ or_left (p y) (list_any p xs) (ap p s ∙ e)
  | inr t ↦ or_right (p y) (list_any p xs) (among_any p xs x t e)
]

-- names
pub same_name : (a b : Name) → is_same_name a b ≡ true → a ≡ b
same_name (Word a) (Word b) e = ap Word ((bytes_decides a b).0 e)
same_name (Number a) (Number b) e = let same : a ≡ b = grind (arith, common_steps) in ap Number same
same_name (Word a) (Number b) e = cc
same_name (Word a) Absent e = cc
same_name (Number a) (Word b) e = cc
same_name (Number a) Absent e = cc
same_name Absent b e = cc

pub full_same : (next : ℕ) (n : Name) → is_same_name (full_name next n) (full_name next n) ≡ true
full_same next (Word w) = nat_list_eq_equiv.refl w
full_same next (Number k) = grind (arith, common_steps)
full_same next Absent = grind (arith, common_steps)

pub there_name : (names : List Name) (q : Name) → is_name_there names q ≡ true → Among names q
there_name names q e =
    let r = any_among (is_same_name q) names (sym (there_any (is_same_name q) names) ∙ e) in
    let P : Name → Type 0 = λ n. Among names n in subst P (sym (same_name q r.0 r.2)) r.1

pub name_there : (names : List Name) (q : Name) → is_same_name q q ≡ true → Among names q → is_name_there names q ≡ true
name_there names q same h = there_any (is_same_name q) names ∙ among_any (is_same_name q) names q h same

pub there_word : (words : List (List ℕ)) (q : List ℕ) → is_word_there words q ≡ true → Among words q
there_word words q e =
    let r = any_among (bytes_eq q) words (sym (there_any (bytes_eq q) words) ∙ e) in
    let P : List ℕ → Type 0 = λ w. Among words w in subst P (sym ((bytes_decides q r.0).0 r.2)) r.1

pub word_there_any : (words : List (List ℕ)) (q : List ℕ) → Among words q → is_word_there words q ≡ true
word_there_any words q h = there_any (bytes_eq q) words ∙ among_any (bytes_eq q) words q h (nat_list_eq_equiv.refl q)
