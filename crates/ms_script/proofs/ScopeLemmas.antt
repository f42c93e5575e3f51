-- Names in a function's scope.
use Rattle.std.proofs.Common.{◌≡◌, ◌≢◌, ◌⊎◌, inl, inr, ℕ, suc, zero, ◌+◌, ◌<◌, ◌≤◌, Bool, true, false, List, [], ◌∷◌, ◌++◌, length, map, Option, Some, None, refl, sym, ap, subst, ◌∙◌, ⊎_elim, arith}
use Rattle.std.specs.Prelude.{if◌then◌else◌, nat_eq, position, slice_get}
use Rattle.std.specs.List.{flat_map}
use Rattle.std.specs.Option.{option_map}
use Rattle.std.specs.Str.{bytes_eq}
use Rattle.std.proofs.lemmas.Bool.{cases_Bool}
use Rattle.std.proofs.lemmas.Bool.Decides.{nat_tests}
use Rattle.std.proofs.lemmas.Slice.Eq.{bytes_eq-Decides}
use Rattle.std.proofs.lemmas.Option.{slice_get_past, slice_get_within, slice_get-map, get_or_from_slice_get}
use Rattle.ms_names.proofs.Members.{same_name, Among, among_in, get_among, among_flat, flat_among}
use Rattle.ms_line.proofs.Cells.{same_text_told}
use Rattle.ms_names.proofs.PlaceLemmas.{position-cons}
use Rattle.ms_ir.specs.declared.names.Name.{Name}
use Rattle.ms_ir.specs.declared.names.Name.TheVariants.{Word, Number, Absent}
use Rattle.ms_resolve.specs.Made.{is_same_name}
use Rattle.ms_resolve.specs.Scope.{or_first, number_of_word, number_of_name}
use Rattle.ms_ir.specs.declared.names.LocalNo.{LocalNo}
use Rattle.ms_ir.specs.declared.names.Param.{Param}
use Rattle.ms_ir.specs.Func.{Placed, Block, FuncState, insts_at, no_block}
use Rattle.ms_ir.specs.Symbols.{NotNamed}
use Rattle.ms_ir.specs.Locals.{IsFirstBlock, IsBlockNamed, IsFirstLocal, HasName, IsGiver, IsNumbered, NoLocalNamed, NoBlockNamed}
use Rattle.ms_ir.specs.Edits.{IsNameTaken}
use Rattle.ms_script.specs.Names.{is_local, name_given, insts_of, name_or, name_of_local, names_from, block_name, scope_of, KnowsLocal, KnowsBlock}

-- the first that passes
pub first_passes : {X : Type 0} (p : X → Bool) (xs : List X) (k : ℕ) (x : X) → slice_get xs k ≡ Some x → p x ≡ true
    → ((j : ℕ) (y : X) → j < k → slice_get xs j ≡ Some y → p y ≡ false) → position p xs ≡ Some k
first_passes p [] k x at pass before = absurd (cc)
first_passes p (y ∷ ys) zero x at pass before =
    let same : y ≡ x = cc in
    let here : p y ≡ true = ap p same ∙ pass in
    position-cons p y ys ∙ ap (λ b. if b then Some 0 else option_map suc (position p ys)) here
first_passes p (y ∷ ys) (suc k) x at pass before =
    let here : p y ≡ false = before 0 y (omega arith) refl in
    position-cons p y ys ∙ ap (λ b. if b then Some 0 else option_map suc (position p ys)) here
    ∙ ap (λ o. option_map suc o) (first_passes p ys k x at pass (λ j z less. before (suc j) z (omega (arith, less))))

pub none_passes : {X : Type 0} (p : X → Bool) (xs : List X) → ((j : ℕ) (y : X) → slice_get xs j ≡ Some y → p y ≡ false) → position p xs ≡ None
none_passes p [] none = refl
none_passes p (y ∷ ys) none =
    let here : p y ≡ false = none 0 y refl in
    position-cons p y ys ∙ ap (λ b. if b then Some 0 else option_map suc (position p ys)) here
    ∙ ap (λ o. option_map suc o) (none_passes p ys (λ j z. none (suc j) z))

eq_self : (w : List ℕ) → bytes_eq w w ≡ true
eq_self w = (bytes_eq-Decides w w).1 refl

true_false : (b : Bool) → b ≡ true → b ≡ false → ⊥
true_false b t f = absurd (cc)

false_from : (b : Bool) → (b ≡ true → ⊥) → b ≡ false
false_from true none = absurd (none refl)
false_from false none = refl

-- a word stands at its only place
pub word_place : (words : List (List ℕ)) (w : List ℕ) (k : ℕ) → slice_get words k ≡ Some w → ((j : ℕ) → slice_get words j ≡ Some w → j ≡ k) → number_of_word words w ≡ k
word_place words w k at one =
    ap or_first (first_passes (bytes_eq w) words k w at (eq_self w)
    (λ j y less there. false_from (bytes_eq w y) (λ e. let same : w ≡ y = same_text_told w y e in
    let place : j ≡ k = one j (there ∙ ap (λ t. Some t) (sym same)) in omega (arith, less, place))))

pub word_none : (words : List (List ℕ)) (w : List ℕ) → NotNamed words w → number_of_word words w ≡ 0
word_none words w none =
    ap or_first (none_passes (bytes_eq w) words (λ j y there. false_from (bytes_eq w y) (λ e. none j (there ∙ ap (λ t. Some t) (sym (same_text_told w y e))))))

-- a name is the same as itself
self_same : (n : Name) → n ≢ Absent → is_same_name n n ≡ true
self_same (Word text) some = eq_self text
self_same (Number k) some = grind (arith, nat_tests)
self_same Absent some = absurd (some refl)

named_by : (n : Name) (o : Option Block) → option_map block_name o ≡ Some n → (x : Block) × (o ≡ Some x) × (x.name ≡ n)
named_by n None e = absurd (cc)
named_by n (Some x) e = (x, refl, (let is : x.name ≡ n = cc in is))

block_there : (blocks : List Block) (n : Name) (j : ℕ) → slice_get (map block_name blocks) j ≡ Some n → IsBlockNamed blocks n j
block_there blocks n j e = named_by n (slice_get blocks j) (sym (slice_get-map block_name blocks j) ∙ e)

-- the first block of a name
pub block_place : (blocks : List Block) (n : Name) (b : ℕ) → IsFirstBlock blocks n b → number_of_name (map block_name blocks) n ≡ b
block_place blocks n b h =
    ap or_first (first_passes (is_same_name n) (map block_name blocks) b n (slice_get-map block_name blocks b ∙ ap (option_map block_name) h.named.1 ∙ ap (λ t. Some t) h.named.2) (self_same n h.is_name)
    (λ j y less there. false_from (is_same_name n y) (λ e.
    h.first j less (block_there blocks n j (there ∙ ap (λ t. Some t) (sym (same_name n y e)))))))

-- whether a result is this local
local_true : (l : ℕ) (r : Option LocalNo) → is_local l r ≡ true → r ≡ Some (record { 0 = l })
local_true l None e = absurd (cc)
local_true l (Some k) e = let same : k.0 ≡ l = grind (arith, nat_tests) in ap (λ i. Some (record { 0 = i })) same

local_self : (l : LocalNo) (r : Option LocalNo) → r ≡ Some l → is_local l.0 r ≡ true
local_self l r e = ap (is_local l.0) e ∙ (let self : nat_eq l.0 l.0 ≡ true = grind (arith, nat_tests) in self)

given_or : (l : ℕ) (x : Placed) (xs : List Placed) (t : Bool) → is_local l x.result ≡ t → name_given l (x ∷ xs) ≡ (if t then x.name else name_given l xs)
given_or l x xs t e = ap (λ b. if b then x.name else name_given l xs) e

-- where each giver has this name, and there is one, the name is found
given_name : (l : LocalNo) (n : Name) (xs : List Placed) → ((x : Placed) → Among xs x → x.result ≡ Some l → x.name ≡ n) → (x : Placed) → Among xs x → x.result ≡ Some l
    → name_given l.0 xs ≡ n
given_name l n [] all x h gives = absurd h
given_name l n (y ∷ ys) all x h gives =
    ⊎_elim
    (λ (t : is_local l.0 y.result ≡ true). given_or l.0 y ys true t ∙ all y (inl refl) (local_true l.0 y.result t))
    (λ (f : is_local l.0 y.result ≡ false). given_or l.0 y ys false f ∙ elim h [
      | inl same ↦ absurd (true_false (is_local l.0 y.result) (local_self l y.result (ap (λ p. p.result) same ∙ gives)) f)
      | inr more ↦ given_name l n ys (λ z among. all z (inr among)) x more gives
    ])
    (cases_Bool (is_local l.0 y.result))

-- a name that is found is a giver's
record IsGiven (l : LocalNo) (n : Name) (xs : List Placed) : Type 0 where
  x : Placed
  among : Among xs x
  gives : x.result ≡ Some l
  name_is : x.name ≡ n

name_gives : (l : LocalNo) (n : Name) (xs : List Placed) → name_given l.0 xs ≡ n → n ≢ Absent → IsGiven l n xs
name_gives l n [] e some = absurd (some (sym e))
name_gives l n (y ∷ ys) e some =
    ⊎_elim
    (λ (t : is_local l.0 y.result ≡ true). record { x = y; among = inl refl; gives = local_true l.0 y.result t; name_is = sym (given_or l.0 y ys true t) ∙ e })
    (λ (f : is_local l.0 y.result ≡ false). (let more = name_gives l n ys (sym (given_or l.0 y ys false f) ∙ e) some in
    record { x = more.x; among = inr more.among; gives = more.gives; name_is = more.name_is }))
    (cases_Bool (is_local l.0 y.result))

-- what stands at a place of a block is among all instructions, and the other way round
giver_among : (blocks : List Block) (b j : ℕ) (x : Placed) → slice_get (insts_at blocks b) j ≡ Some x → Among (flat_map insts_of blocks) x
giver_among [] b j x e = absurd (cc)
giver_among (y ∷ ys) zero j x e = flat_among insts_of (y ∷ ys) y x (inl refl) (get_among y.insts j x e)
giver_among (y ∷ ys) (suc b) j x e =
    let r = among_flat insts_of ys x (giver_among ys b j x e) in
    flat_among insts_of (y ∷ ys) r.0 x (inr r.1) r.2

among_giver : (blocks : List Block) (x : Placed) → Among (flat_map insts_of blocks) x → (b : ℕ) × (j : ℕ) × (slice_get (insts_at blocks b) j ≡ Some x)
among_giver blocks x h =
    let r = among_flat insts_of blocks x h in
    let b = among_in blocks r.0 r.1 in
    let j = among_in r.0.insts x r.2 in
    (b.0, j.0, ap (λ (y : Block). slice_get y.insts j.0) (get_or_from_slice_get blocks b.0 r.0 no_block b.1) ∙ j.1)

local_name : (f : FuncState) → IsNumbered f → (l : LocalNo) (n : Name) → HasName f l n → name_of_local f l.0 ≡ n
local_name f numbered l n (inl h) = ap (λ o. name_or o (name_given l.0 (flat_map insts_of f.blocks))) h.1 ∙ h.2
local_name f numbered l n (inr h) =
    let range = numbered.result_range l h.0 h.1 h.2 h.3 in
    ap (λ o. name_or o (name_given l.0 (flat_map insts_of f.blocks))) (slice_get_past f.params l.0 range.0)
    ∙ given_name l n (flat_map insts_of f.blocks) (λ y among gives. by_giver y (among_giver f.blocks y among) gives) h.2 (giver_among f.blocks h.0 h.1 h.2 h.3.found) h.3.gives
  where
    by_giver : (y : Placed) → ((c : ℕ) × (k : ℕ) × (slice_get (insts_at f.blocks c) k ≡ Some y)) → y.result ≡ Some l → y.name ≡ n
    by_giver y at gives =
        let one = numbered.one_giver l h.0 h.1 at.0 at.1 h.2 y h.3 (record { found = at.2; gives = gives }) in
        let here : slice_get (insts_at f.blocks at.0) at.1 ≡ Some h.2 = subst (λ b. slice_get (insts_at f.blocks b) at.1 ≡ Some h.2) one.0 (subst (λ k. slice_get (insts_at f.blocks h.0) k ≡ Some h.2) one.1 h.3.found) in
        let same : y ≡ h.2 = cc (here, at.2) in
        ap (λ p. p.name) same ∙ h.4

has_name : (f : FuncState) (l : LocalNo) (n : Name) → name_of_local f l.0 ≡ n → n ≢ Absent → HasName f l n
has_name f l n e some = by_param (slice_get f.params l.0) refl e
  where
    by_param : (o : Option Param) → slice_get f.params l.0 ≡ o → name_or o (name_given l.0 (flat_map insts_of f.blocks)) ≡ n → HasName f l n
    by_param (Some p) at is = inl (p, at, is)
    by_param None at is =
        let given = name_gives l n (flat_map insts_of f.blocks) is some in
        let there = among_giver f.blocks given.x given.among in
        inr (there.0, there.1, given.x, record { found = there.2; gives = given.gives }, given.name_is)

names_at : (f : FuncState) (a c k : ℕ) → k < c → slice_get (names_from f a c) k ≡ Some (name_of_local f (a + k))
names_at f a zero k less = absurd (omega (arith, less))
names_at f a (suc c) zero less = let same : a ≡ a + 0 = omega arith in ap (λ l. Some (name_of_local f l)) same
names_at f a (suc c) (suc k) less =
    let same : suc a + k ≡ a + suc k = omega arith in
    names_at f (suc a) c k (omega (arith, less)) ∙ ap (λ l. Some (name_of_local f l)) same

names_are : (f : FuncState) (a c k : ℕ) (y : Name) → slice_get (names_from f a c) k ≡ Some y → name_of_local f (a + k) ≡ y
names_are f a zero k y e = cc
names_are f a (suc c) zero y e = let same : a + 0 ≡ a = omega arith in let here : name_of_local f a ≡ y = cc in ap (λ l. name_of_local f l) same ∙ here
names_are f a (suc c) (suc k) y e = let same : a + suc k ≡ suc a + k = omega arith in ap (λ l. name_of_local f l) same ∙ names_are f (suc a) c k y e

below : (f : FuncState) → IsNumbered f → (l : LocalNo) (n : Name) → HasName f l n → l.0 < f.locals
below f numbered l n (inl h) = let within = slice_get_within f.params l.0 h.0 h.1 in let first = numbered.params_first in omega (arith, within, first)
below f numbered l n (inr h) = (numbered.result_range l h.0 h.1 h.2 h.3).1

names_first : (f : FuncState) (k : ℕ) → k < f.locals → slice_get (names_from f 0 f.locals) k ≡ Some (name_of_local f k)
names_first f k less = let same : 0 + k ≡ k = omega arith in names_at f 0 f.locals k less ∙ ap (λ l. Some (name_of_local f l)) same

first_names : (f : FuncState) (k : ℕ) (y : Name) → slice_get (names_from f 0 f.locals) k ≡ Some y → name_of_local f k ≡ y
first_names f k y e = let same : k ≡ 0 + k = omega arith in ap (λ l. name_of_local f l) same ∙ names_are f 0 f.locals k y e

absent_other : (n y : Name) → n ≡ Absent → is_same_name n y ≡ true → ⊥
absent_other Absent y e t = cc
absent_other (Word _) y e t = cc
absent_other (Number _) y e t = cc

-- the first local of a name
pub local_place : (f : FuncState) → IsNumbered f → (n : Name) (l : LocalNo) → IsFirstLocal f n l → number_of_name (names_from f 0 f.locals) n ≡ l.0
local_place f numbered n l h =
    ap or_first (first_passes (is_same_name n) (names_from f 0 f.locals) l.0 n
    (names_first f l.0 (below f numbered l n h.named) ∙ ap (λ t. Some t) (local_name f numbered l n h.named)) (self_same n h.is_name)
    (λ j y less there. false_from (is_same_name n y) (λ e.
    h.first (record { 0 = j }) less (has_name f (record { 0 = j }) n (first_names f j y there ∙ sym (same_name n y e)) h.is_name))))

pub local_none : (f : FuncState) (n : Name) → NoLocalNamed f n → number_of_name (names_from f 0 f.locals) n ≡ 0
local_none f n none =
    ap or_first (none_passes (is_same_name n) (names_from f 0 f.locals) (λ j y there. false_from (is_same_name n y) (λ e. elim none [
      | inl absent ↦ absent_other n y absent e
      | inr none ↦ none (record { 0 = j }) (has_name f (record { 0 = j }) n (first_names f j y there ∙ sym (same_name n y e)) (λ a. absent_other n y a e))
    ])))

pub block_none : (blocks : List Block) (n : Name) → NoBlockNamed blocks n → number_of_name (map block_name blocks) n ≡ 0
block_none blocks n none =
    ap or_first (none_passes (is_same_name n) (map block_name blocks) (λ j y there. false_from (is_same_name n y) (λ e. elim none [
      | inl absent ↦ absent_other n y absent e
      | inr none ↦ none j (block_there blocks n j (there ∙ ap (λ t. Some t) (sym (same_name n y e))))
    ])))

pub no_local : (f : FuncState) (n : Name) → NoLocalNamed f n → KnowsLocal f n → ⊥
no_local f n (inl absent) h = h.1.is_name absent
no_local f n (inr none) h = none h.0 h.1.named

pub no_block_there : (f : FuncState) (n : Name) → NoBlockNamed f.blocks n → KnowsBlock f n → ⊥
no_block_there f n (inl absent) h = h.1.is_name absent
no_block_there f n (inr none) h = none h.0 h.1.named

pub not_taken : (f : FuncState) (n : Name) → NoLocalNamed f n → NoBlockNamed f.blocks n → IsNameTaken f n → ⊥
not_taken f n (inl absent) b h = h.0 absent
not_taken f n (inr none) (inl absent) h = h.0 absent
not_taken f n (inr none) (inr nor) h = elim h.1 [
  | inl local ↦ none local.0 local.1
  | inr block ↦ nor block.0 block.1
]
