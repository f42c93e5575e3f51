-- A list of names with one more: what is among it, and that its words still stand once.
use Rattle.std.proofs.Common.{◌≡◌, ◌∙◌, ◌<◌, ◌≤◌, ◌⊎◌, ℕ, zero, suc, List, [], ◌∷◌, ◌++◌, length, map, Some, refl, sym, ap, subst, inl, inr, arith, append_assoc}
use Rattle.std.specs.Prelude.{slice_get, insert, remove}
use Rattle.std.specs.List.{flat_map}
use Rattle.std.proofs.lemmas.Option.{none-some, same_Some}
use Rattle.ms_ir.specs.declared.names.Name.{Name}
use Rattle.ms_ir.specs.declared.names.Name.TheVariants.{Word}
use Rattle.ms_ir.specs.Func.{Placed, Block, insts_at, put_at, cut_at}
use Rattle.ms_resolve.specs.Faults.{IsIn}
use Rattle.ms_validity.proofs.ListLemmas.{in_cons, in_here, in_there, in_right}
use Rattle.ms_valid.specs.Func.{AreApart, name_of_inst, names_of_block}

-- ---- words that stand once

-- a word is not among the names
abbrev pub IsFreshIn : Name → List Name → Type 0
IsFreshIn n names = (text : List ℕ) → n ≡ Word text → IsIn names (Word text) → ⊥

apart_head : (n : Name) (names : List Name) → AreApart (n ∷ names) → IsFreshIn n names
apart_head n names apart text e (k, at) = apart zero (suc k) text (omega arith) (ap Some e) at

apart_tail : (n : Name) (names : List Name) → AreApart (n ∷ names) → AreApart names
apart_tail n names apart i j text lt at there = apart (suc i) (suc j) text (omega (arith, lt)) at there

apart_cons : (n : Name) (names : List Name) → IsFreshIn n names → AreApart names → AreApart (n ∷ names)
apart_cons n names fresh apart zero zero text lt at there = absurd (omega (arith, lt))
apart_cons n names fresh apart zero (suc j) text lt at there = fresh text (same_Some n (Word text) at) (j, there)
apart_cons n names fresh apart (suc i) zero text lt at there = absurd (omega (arith, lt))
apart_cons n names fresh apart (suc i) (suc j) text lt at there = apart i j text (omega (arith, lt)) at there

-- ---- one more among others

in_more : (front back : List Name) (n x : Name) → IsIn (front ++ n ∷ back) x → (n ≡ x) ⊎ IsIn (front ++ back) x
in_more [] back n x h = in_cons n back x h
in_more (y ∷ front) back n x h = elim (in_cons y (front ++ n ∷ back) x h) [
  | inl same ↦ inr (zero, ap Some same)
  | inr rest ↦ elim (in_more front back n x rest) [
    | inl new ↦ inl new
    | inr old ↦ inr (in_there y (front ++ back) x old)
  ]
]

in_less : (front back : List Name) (n x : Name) → IsIn (front ++ back) x → IsIn (front ++ n ∷ back) x
in_less [] back n x h = in_there n back x h
in_less (y ∷ front) back n x h = elim (in_cons y (front ++ back) x h) [
  | inl same ↦ (zero, ap Some same)
  | inr rest ↦ in_there y (front ++ n ∷ back) x (in_less front back n x rest)
]

more_apart : (front back : List Name) (n : Name) → IsFreshIn n (front ++ back) → AreApart (front ++ back) → AreApart (front ++ n ∷ back)
more_apart [] back n fresh apart = apart_cons n back fresh apart
more_apart (x ∷ front) back n fresh apart =
    apart_cons x (front ++ n ∷ back)
    (λ text e among. elim (in_more front back n (Word text) among) [
      | inl new ↦ fresh text new (zero, ap Some e)
      | inr old ↦ apart_head x (front ++ back) apart text e old
    ])
    (more_apart front back n (λ text e among. fresh text e (in_there x (front ++ back) (Word text) among)) (apart_tail x (front ++ back) apart))

less_apart : (front back : List Name) (n : Name) → AreApart (front ++ n ∷ back) → AreApart (front ++ back)
less_apart [] back n apart = apart_tail n back apart
less_apart (x ∷ front) back n apart =
    apart_cons x (front ++ back) (λ text e among. apart_head x (front ++ n ∷ back) apart text e (in_less front back n (Word text) among))
    (less_apart front back n (apart_tail x (front ++ n ∷ back) apart))

left_fresh : (front back : List Name) (n : Name) → AreApart (front ++ n ∷ back) → IsFreshIn n (front ++ back)
left_fresh [] back n apart = apart_head n back apart
left_fresh (x ∷ front) back n apart = λ text e among. elim (in_cons x (front ++ back) (Word text) among) [
  | inl same ↦
      apart_head x (front ++ n ∷ back) apart text same (subst (λ (y : Name). IsIn (front ++ n ∷ back) y) e (in_right front (n ∷ back) n (in_here n back)))
  | inr rest ↦ left_fresh front back n (apart_tail x (front ++ n ∷ back) apart) text e rest
]

-- the second list is the first with one more
pub record IsOneMore (less more : List Name) (n : Name) : Type 0 where
  pub front : List Name
  pub back : List Name
  pub less_is : less ≡ front ++ back
  pub more_is : more ≡ front ++ n ∷ back

pub among_more : (less more : List Name) (n x : Name) → IsOneMore less more n → IsIn more x → (n ≡ x) ⊎ IsIn less x
among_more less more n x h i = elim (in_more h.front h.back n x (subst (λ (names : List Name). IsIn names x) h.more_is i)) [
  | inl new ↦ inl new
  | inr old ↦ inr (subst (λ (names : List Name). IsIn names x) (sym h.less_is) old)
]

pub among_less : (less more : List Name) (n x : Name) → IsOneMore less more n → IsIn less x → IsIn more x
among_less less more n x h i =
    subst (λ (names : List Name). IsIn names x) (sym h.more_is) (in_less h.front h.back n x (subst (λ (names : List Name). IsIn names x) h.less_is i))

pub one_among : (less more : List Name) (n : Name) → IsOneMore less more n → IsIn more n
one_among less more n h = subst (λ (names : List Name). IsIn names n) (sym h.more_is) (in_right h.front (n ∷ h.back) n (in_here n h.back))

pub apart_more : (less more : List Name) (n : Name) → IsOneMore less more n → IsFreshIn n less → AreApart less → AreApart more
apart_more less more n h fresh apart =
    subst (λ (names : List Name). AreApart names) (sym h.more_is)
    (more_apart h.front h.back n (subst (λ (names : List Name). IsFreshIn n names) h.less_is fresh) (subst (λ (names : List Name). AreApart names) h.less_is apart))

pub apart_less : (less more : List Name) (n : Name) → IsOneMore less more n → AreApart more → AreApart less
apart_less less more n h apart =
    subst (λ (names : List Name). AreApart names) (sym h.less_is) (less_apart h.front h.back n (subst (λ (names : List Name). AreApart names) h.more_is apart))

pub fresh_less : (less more : List Name) (n : Name) → IsOneMore less more n → AreApart more → IsFreshIn n less
fresh_less less more n h apart =
    subst (λ (names : List Name). IsFreshIn n names) (sym h.less_is) (left_fresh h.front h.back n (subst (λ (names : List Name). AreApart names) h.more_is apart))

-- ---- names of blocks

more_here : (names : List Name) (n : Name) → IsOneMore names (n ∷ names) n
more_here names n = record { front = []; back = names; less_is = refl; more_is = refl }

more_cons : (x : Name) (less more : List Name) (n : Name) → IsOneMore less more n → IsOneMore (x ∷ less) (x ∷ more) n
more_cons x less more n h = record {
  front = x ∷ h.front;
  back = h.back;
  less_is = ap (λ (names : List Name). x ∷ names) h.less_is;
  more_is = ap (λ (names : List Name). x ∷ names) h.more_is;
}

pub more_behind : (first less more : List Name) (n : Name) → IsOneMore less more n → IsOneMore (first ++ less) (first ++ more) n
more_behind [] less more n h = h
more_behind (x ∷ first) less more n h = more_cons x (first ++ less) (first ++ more) n (more_behind first less more n h)

more_before : (less more rest : List Name) (n : Name) → IsOneMore less more n → IsOneMore (less ++ rest) (more ++ rest) n
more_before less more rest n h = record {
  front = h.front;
  back = h.back ++ rest;
  less_is = ap (λ (names : List Name). names ++ rest) h.less_is ∙ append_assoc h.front h.back rest;
  more_is = ap (λ (names : List Name). names ++ rest) h.more_is ∙ append_assoc h.front (n ∷ h.back) rest;
}

insert_more : (xs : List Placed) (p : ℕ) (y : Placed) → p ≤ length xs → IsOneMore (map name_of_inst xs) (map name_of_inst (insert xs p y)) y.name
insert_more [] zero y le = more_here [] y.name
insert_more [] (suc p) y le = absurd (omega (arith, le))
insert_more (x ∷ xs) zero y le = more_here (map name_of_inst (x ∷ xs)) y.name
insert_more (x ∷ xs) (suc p) y le = more_cons x.name (map name_of_inst xs) (map name_of_inst (insert xs p y)) y.name (insert_more xs p y (omega (arith, le)))

remove_less : (xs : List Placed) (p : ℕ) (y : Placed) → slice_get xs p ≡ Some y → IsOneMore (map name_of_inst (remove xs p)) (map name_of_inst xs) y.name
remove_less [] p y e = absurd (none-some y e)
remove_less (x ∷ xs) zero y e =
    subst (λ (z : Placed). IsOneMore (map name_of_inst xs) (x.name ∷ map name_of_inst xs) z.name) (same_Some x y e) (more_here (map name_of_inst xs) x.name)
remove_less (x ∷ xs) (suc p) y e = more_cons x.name (map name_of_inst (remove xs p)) (map name_of_inst xs) y.name (remove_less xs p y e)

abbrev pub names_of : List Block → List Name
names_of blocks = flat_map names_of_block blocks

pub put_more : (blocks : List Block) (b p : ℕ) (y : Placed) → b < length blocks → p ≤ length (insts_at blocks b) → IsOneMore (names_of blocks) (names_of (put_at blocks b p y)) y.name
put_more [] b p y lt le = absurd (omega (arith, lt))
put_more (x ∷ blocks) zero p y lt le =
    more_cons x.name (map name_of_inst x.insts ++ names_of blocks) (map name_of_inst (insert x.insts p y) ++ names_of blocks) y.name
    (more_before (map name_of_inst x.insts) (map name_of_inst (insert x.insts p y)) (names_of blocks) y.name (insert_more x.insts p y le))
put_more (x ∷ blocks) (suc b) p y lt le =
    more_behind (names_of_block x) (names_of blocks) (names_of (put_at blocks b p y)) y.name (put_more blocks b p y (omega (arith, lt)) le)

pub cut_less : (blocks : List Block) (b p : ℕ) (y : Placed) → slice_get (insts_at blocks b) p ≡ Some y → IsOneMore (names_of (cut_at blocks b p)) (names_of blocks) y.name
cut_less [] b p y e = absurd (none-some y e)
cut_less (x ∷ blocks) zero p y e =
    more_cons x.name (map name_of_inst (remove x.insts p) ++ names_of blocks) (map name_of_inst x.insts ++ names_of blocks) y.name
    (more_before (map name_of_inst (remove x.insts p)) (map name_of_inst x.insts) (names_of blocks) y.name (remove_less x.insts p y e))
cut_less (x ∷ blocks) (suc b) p y e =
    more_behind (names_of_block x) (names_of (cut_at blocks b p)) (names_of blocks) y.name (cut_less blocks b p y e)
