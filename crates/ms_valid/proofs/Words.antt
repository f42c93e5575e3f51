-- The names of what an accepted module's function has are words of the language, and each stands once.
use Rattle.std.proofs.Common.{◌≡◌, ◌∙◌, ◌⊎◌, ◌<◌, ◌≤◌, ◌+◌, ℕ, zero, suc, Bool, true, false, cond, List, [], ◌∷◌, ◌++◌, length, map, Option, Some, None, refl, sym, ap, subst, ⊎_elim, arith}
use Rattle.std.specs.Prelude.{slice_get, slice_index_or, filter, not}
use Rattle.std.specs.List.{flat_map}
use Rattle.ms_ir.specs.declared.names.Name.{Name}
use Rattle.ms_ir.specs.declared.names.Name.TheVariants.{Word, Number, Absent}
use Rattle.ms_ir.specs.declared.names.Param.{Param}
use Rattle.ms_ir.specs.Func.{Placed, insts_at}
use Rattle.ms_grammar.specs.Kept.{Each}
use Rattle.ms_grammar.specs.Fits.{IsNamed, MayBeNamed, IsMade, IsParam}
use Rattle.ms_grammar.specs.declared.line.RawInst.{RawInst}
use Rattle.ms_grammar.specs.declared.line.RawInst.TheVariants.{Alloca, Gep, Step, Load, Store, Copy, Call, Bin, Cmp, Select, Cast, Phi}
use Rattle.ms_resolve.specs.Shape.{LabelLine, InstLine, BlockLines, FuncLines}
use Rattle.ms_resolve.specs.Made.{Made, makes, made_in, named_from, named_in, param_made, inst_made, label_made, block_made, locals_of, blocks_of, name_of_made, full_name, free_behind}
use Rattle.ms_resolve.specs.Scope.{Scope, placed_at, local_behind, locals_behind, insts_from, blocks_from, params_from, func_of}
use Rattle.ms_resolve.specs.Faults.{IsIn, IsMadeAgain}
use Rattle.ms_validity.proofs.ListLemmas.{in_nil, in_cons, in_one, in_here, in_there, in_append, in_flat, get_map}
use Rattle.ms_valid.proofs.Named.{local_at}
use Rattle.ms_valid.specs.Func.{IsWordOrNone, AreApart, names_in, name_of_param, name_of_inst, names_of_block}

-- Words.

may_word : (n : Name) → MayBeNamed n → IsWordOrNone n
may_word (Word text) h = h
may_word (Number k) h = tt
may_word Absent h = tt

named_word : (n : Name) → IsNamed n → IsWordOrNone n
named_word (Word text) h = h
named_word (Number k) h = tt
named_word Absent h = absurd h

absent_word : (n : Name) → n ≡ Absent → IsWordOrNone n
absent_word n e = subst IsWordOrNone (sym e) tt

made_word : (n : Name) (i : RawInst) → IsMade n i → IsWordOrNone n
made_word n (Store ty val ptr rest) h = absent_word n h
made_word n (Copy to from len head behind rest) h = absent_word n h
made_word n (Call callee None args head behind rest) h = absent_word n h
made_word n (Call callee (Some ty) args head behind rest) h = may_word n h
made_word n (Alloca size head rest) h = named_word n h
made_word n (Gep base offset head index rest) h = named_word n h
made_word n (Step base offset terms head index rest) h = named_word n h
made_word n (Load ty ptr rest) h = named_word n h
made_word n (Bin op flags ty a b rest) h = named_word n h
made_word n (Cmp pred flags ty a b rest) h = named_word n h
made_word n (Select c ty a b rest) h = named_word n h
made_word n (Cast op flags from a to rest) h = named_word n h
made_word n (Phi ty entries rest) h = named_word n h

-- A property of names that is asked of words alone.
pub record IsOfWords (P : Name → Type 0) : Type 0 where
  pub number : (n : ℕ) → P (Number n)
  pub absent : P Absent

pub of_words : IsOfWords IsWordOrNone
of_words = record { number = λ n. tt; absent = tt }

module _ (P : Name → Type 0) (free : IsOfWords P) where
  full_named : (k : ℕ) (n : Name) → P n → P (full_name k n)
  full_named k (Word text) h = h
  full_named k (Number j) h = free.number _
  full_named k Absent h = free.number _

  abbrev pub AllNamed : List Made → Type 0
  AllNamed ms = (m : Made) → IsIn ms m → P m.name

  pub named_all : (next : ℕ) (ms : List Made) → AllNamed ms → AllNamed (named_from next ms)
  named_all next [] h m i = absurd (in_nil m i)
  named_all next (x ∷ ms) h m i =
      ⊎_elim
      (λ (e : record x { name = full_name next x.name } ≡ m). subst (λ (y : Made). P y.name) e (full_named next x.name (h x (in_here x ms))))
      (λ (r : IsIn (named_from (free_behind next x.name) ms) m). named_all (free_behind next x.name) ms (λ y j. h y (in_there x ms y j)) m r)
      (in_cons (record x { name = full_name next x.name }) (named_from (free_behind next x.name) ms) m i)

  -- what the parts of a function make
  params_named : (n : ℕ) (ps : List Param) → Each (λ (p : Param). P p.name) ps → AllNamed (map (param_made n) ps)
  params_named n [] h m i = absurd (in_nil m i)
  params_named n (p ∷ ps) h m i =
      ⊎_elim (λ (e : param_made n p ≡ m). subst (λ (y : Made). P y.name) e h.0) (λ (r : IsIn (map (param_made n) ps) m). params_named n ps h.1 m r)
      (in_cons (param_made n p) (map (param_made n) ps) m i)

  inst_named : (x : InstLine) → P x.name → AllNamed (inst_made x)
  inst_named x h m i = go (makes x.inst) i
    where
      go : (b : Bool) → IsIn (cond b (record { line = x.line; is_block = false; name = x.name } ∷ []) []) m → P m.name
      go true j = subst (λ (y : Made). P y.name) (in_one (record { line = x.line; is_block = false; name = x.name }) m j) h
      go false j = absurd (in_nil m j)

  label_named : (n : ℕ) (l : Option LabelLine) → ((y : LabelLine) → l ≡ Some y → P y.name) → P (label_made n l).name
  label_named n None h = free.absent
  label_named n (Some y) h = h y refl

  pub made_named : (l : FuncLines) → Each (λ (p : Param). P p.name) l.head.params → ((b : BlockLines) → IsIn l.blocks b → (y : LabelLine) → b.label ≡ Some y → P y.name) →
      ((b : BlockLines) (x : InstLine) → IsIn l.blocks b → IsIn b.insts x → P x.name) → AllNamed (made_in l)
  made_named l ps labels insts m i =
      ⊎_elim
      (λ (p : IsIn (map (param_made l.line) l.head.params) m). params_named l.line l.head.params ps m p)
      (λ (q : IsIn (flat_map (block_made l.line) l.blocks) m).
      let b = in_flat (block_made l.line) l.blocks m q in
      ⊎_elim
      (λ (e : label_made l.line b.0.label ≡ m). subst (λ (y : Made). P y.name) e (label_named l.line b.0.label (labels b.0 b.1)))
      (λ (r : IsIn (flat_map inst_made b.0.insts) m).
      let x = in_flat inst_made b.0.insts m r in
      inst_named x.0 (insts b.0 x.0 b.1 x.1) m x.2)
      (in_cons (label_made l.line b.0.label) (flat_map inst_made b.0.insts) m b.2))
      (in_append (map (param_made l.line) l.head.params) (flat_map (block_made l.line) l.blocks) m i)

abbrev pub AllWords : List Made → Type 0
AllWords ms = AllNamed IsWordOrNone of_words ms

params_words : (ps : List Param) → Each IsParam ps → Each (λ (p : Param). IsWordOrNone p.name) ps
params_words [] h = tt
params_words (p ∷ ps) h = (may_word p.name h.0, params_words ps h.1)

pub made_words : (l : FuncLines) → Each IsParam l.head.params → ((b : BlockLines) → IsIn l.blocks b → (y : LabelLine) → b.label ≡ Some y → IsNamed y.name) →
    ((b : BlockLines) (x : InstLine) → IsIn l.blocks b → IsIn b.insts x → IsMade x.name x.inst) → AllWords (made_in l)
made_words l ps labels insts =
    made_named IsWordOrNone of_words l (params_words l.head.params ps) (λ b ib y e. named_word y.name (labels b ib y e)) (λ b x ib ix. made_word x.name x.inst (insts b x ib ix))

-- Places in a filtered list.

abbrev pick_place : Bool → ℕ → (ℕ → ℕ) → ℕ
pick_place true zero rest = 0
pick_place true (suc j) rest = suc (rest j)
pick_place false k rest = suc (rest k)

abbrev place_of : (Made → Bool) → List Made → ℕ → ℕ
place_of p [] k = 0
place_of p (x ∷ xs) k = pick_place (p x) k (λ j. place_of p xs j)

found_at : (p : Made → Bool) (xs : List Made) (k : ℕ) (x : Made) → slice_get (filter p xs) k ≡ Some x → (slice_get xs (place_of p xs k) ≡ Some x) × (p x ≡ true)
found_at p [] k x e = cc
found_at p (y ∷ xs) k x e = go (p y) refl k e (λ j f. found_at p xs j x f)
  where
    go : (t : Bool) → p y ≡ t → (k : ℕ) → slice_get (cond t (y ∷ filter p xs) (filter p xs)) k ≡ Some x → ((j : ℕ) → slice_get (filter p xs) j ≡ Some x → (slice_get xs (place_of p xs j) ≡ Some x) × (p x ≡ true))
        → (slice_get (y ∷ xs) (pick_place t k (λ j. place_of p xs j)) ≡ Some x) × (p x ≡ true)
    go true is zero f rest = let one : y ≡ x = cc in (ap Some one, ap p (sym one) ∙ is)
    go true is (suc j) f rest = rest j f
    go false is k f rest = rest k f

rises : (p : Made → Bool) (xs : List Made) (i j : ℕ) → i < j → j < length (filter p xs) → place_of p xs i < place_of p xs j
rises p [] i j less lt = absurd (let l : j < 0 = lt in omega arith)
rises p (y ∷ xs) i j less lt = go (p y) i j less lt (λ a b. rises p xs a b)
  where
    go : (t : Bool) (i j : ℕ) → i < j → j < length (cond t (y ∷ filter p xs) (filter p xs)) → ((a b : ℕ) → a < b → b < length (filter p xs) → place_of p xs a < place_of p xs b)
        → pick_place t i (λ k. place_of p xs k) < pick_place t j (λ k. place_of p xs k)
    go true zero zero less lt rest = absurd (omega arith)
    go true (suc a) zero less lt rest = absurd (omega arith)
    go true zero (suc b) less lt rest = omega arith
    go true (suc a) (suc b) less lt rest = let r = rest a b (omega arith) (omega arith) in omega arith
    go false i j less lt rest = let r = rest i j less lt in omega arith

-- Where the names of a function come from.

data Source : Type 0 where
  nowhere : Source
  local : ℕ → Source
  block : ℕ → Source

abbrev name_at : List Name → List Name → Source → Name
name_at locals blocks nowhere = Absent
name_at locals blocks (local k) = slice_index_or locals k Absent
name_at locals blocks (block b) = slice_index_or blocks b Absent

abbrev of_params : ℕ → List Param → List Source
of_params l [] = []
of_params l (p ∷ ps) = local l ∷ of_params (suc l) ps

abbrev of_insts : ℕ → List InstLine → List Source
of_insts l [] = []
of_insts l (x ∷ xs) = cond (makes x.inst) (local l) nowhere ∷ of_insts (local_behind l x) xs

abbrev of_blocks : ℕ → ℕ → List BlockLines → List Source
of_blocks b l [] = []
of_blocks b l (x ∷ xs) = (block b ∷ of_insts l x.insts) ++ of_blocks (suc b) (locals_behind l x.insts) xs

map_append : (f : Source → Name) (xs ys : List Source) → map f (xs ++ ys) ≡ map f xs ++ map f ys
map_append f [] ys = refl
map_append f (x ∷ xs) ys = ap (λ zs. f x ∷ zs) (map_append f xs ys)

module _ (s : Scope) where
  abbrev name : Source → Name
  name x = name_at s.locals s.blocks x

  params_are : (l : ℕ) (ps : List Param) → map name_of_param (params_from s l ps) ≡ map name (of_params l ps)
  params_are l [] = refl
  params_are l (p ∷ ps) = ap (λ zs. slice_index_or s.locals l Absent ∷ zs) (params_are (suc l) ps)

  inst_is : (t : Bool) (l : ℕ) → cond t (slice_index_or s.locals l Absent) Absent ≡ name (cond t (local l) nowhere)
  inst_is true l = refl
  inst_is false l = refl

  insts_are : (n l : ℕ) (xs : List InstLine) → map name_of_inst (insts_from s n l xs) ≡ map name (of_insts l xs)
  insts_are n l [] = refl
  insts_are n l (x ∷ xs) =
      ap (λ z. z ∷ map name_of_inst (insts_from s (suc n) (local_behind l x) xs)) (inst_is (makes x.inst) l) ∙ ap (λ zs. name (cond (makes x.inst) (local l) nowhere) ∷ zs) (insts_are (suc n) (local_behind l x) xs)

  blocks_are : (b n l : ℕ) (bs : List BlockLines) → flat_map names_of_block (blocks_from s b n l bs) ≡ map name (of_blocks b l bs)
  blocks_are b n l [] = refl
  blocks_are b n l (x ∷ xs) =
      ap (λ zs. (slice_index_or s.blocks b Absent ∷ zs) ++ flat_map names_of_block (blocks_from s (suc b) (n + length x.insts) (locals_behind l x.insts) xs)) (insts_are n l x.insts)
      ∙ ap (λ zs. (slice_index_or s.blocks b Absent ∷ map name (of_insts l x.insts)) ++ zs) (blocks_are (suc b) (n + length x.insts) (locals_behind l x.insts) xs)
      ∙ sym (map_append name (block b ∷ of_insts l x.insts) (of_blocks (suc b) (locals_behind l x.insts) xs))

abbrev sources : FuncLines → List Source
sources l = of_params 0 l.head.params ++ of_blocks 0 (length l.head.params) l.blocks

names_are : (s : Scope) (spare : ℕ) (l : FuncLines) → names_in (func_of s spare l) ≡ map (name_at s.locals s.blocks) (sources l)
names_are s spare l =
    ap (λ zs. zs ++ flat_map names_of_block (blocks_from s 0 0 (length l.head.params) l.blocks)) (params_are s 0 l.head.params)
    ∙ ap (λ zs. map (name_at s.locals s.blocks) (of_params 0 l.head.params) ++ zs) (blocks_are s 0 0 (length l.head.params) l.blocks)
    ∙ sym (map_append (name_at s.locals s.blocks) (of_params 0 l.head.params) (of_blocks 0 (length l.head.params) l.blocks))

-- What gives no local has no name.

unnamed_by : (s : Scope) (l : ℕ) (t : Bool) → cond t (Some (local_at l)) None ≡ None → cond t (slice_index_or s.locals l Absent) Absent ≡ Absent
unnamed_by s l true e = cc
unnamed_by s l false e = refl

unnamed_among : (s : Scope) (n l : ℕ) (xs : List InstLine) (k : ℕ) (x : Placed) → slice_get (insts_from s n l xs) k ≡ Some x → x.result ≡ None → x.name ≡ Absent
unnamed_among s n l [] k x e none = cc
unnamed_among s n l (y ∷ xs) zero x e none =
    let one : placed_at s n l y ≡ x = cc in
    subst (λ (z : Placed). z.result ≡ None → z.name ≡ Absent) one (unnamed_by s l (makes y.inst)) none
unnamed_among s n l (y ∷ xs) (suc k) x e none = unnamed_among s (suc n) (local_behind l y) xs k x e none

pub none_named : (s : Scope) (b n l : ℕ) (bs : List BlockLines) (j k : ℕ) (x : Placed) → slice_get (insts_at (blocks_from s b n l bs) j) k ≡ Some x → x.result ≡ None → x.name ≡ Absent
none_named s b n l [] j k x e none = cc
none_named s b n l (y ∷ bs) zero k x e none = unnamed_among s n l y.insts k x e none
none_named s b n l (y ∷ bs) (suc j) k x e none = none_named s (suc b) (n + length y.insts) (locals_behind l y.insts) bs j k x e none

-- No source comes twice.

-- the source is counted from these numbers of a block and a local on
abbrev IsFrom : ℕ → ℕ → Source → Type 0
IsFrom b l nowhere = Unit {0}
IsFrom b l (local k) = l ≤ k
IsFrom b l (block c) = b ≤ c

abbrev AreFrom : ℕ → ℕ → List Source → Type 0
AreFrom b l [] = Unit {0}
AreFrom b l (x ∷ xs) = IsFrom b l x × AreFrom b l xs

-- behind each source all are others
abbrev IsOther : Source → Source → Type 0
IsOther (local k) (local j) = k < j
IsOther (block c) (block d) = c < d
IsOther _ _ = Unit {0}

abbrev AllOther : Source → List Source → Type 0
AllOther x [] = Unit {0}
AllOther x (y ∷ ys) = IsOther x y × AllOther x ys

abbrev Rise : List Source → Type 0
Rise [] = Unit {0}
Rise (x ∷ xs) = AllOther x xs × Rise xs

lower : (b l c k : ℕ) (xs : List Source) → b ≤ c → l ≤ k → AreFrom c k xs → AreFrom b l xs
lower b l c k [] p q h = tt
lower b l c k (nowhere ∷ xs) p q h = (tt, lower b l c k xs p q h.1)
lower b l c k (local j ∷ xs) p q h = ((let x = h.0 in omega arith), lower b l c k xs p q h.1)
lower b l c k (block d ∷ xs) p q h = ((let x = h.0 in omega arith), lower b l c k xs p q h.1)

from_append : (b l : ℕ) (xs ys : List Source) → AreFrom b l xs → AreFrom b l ys → AreFrom b l (xs ++ ys)
from_append b l [] ys h i = i
from_append b l (x ∷ xs) ys h i = (h.0, from_append b l xs ys h.1 i)

other_local : (k b : ℕ) (xs : List Source) → AreFrom b (suc k) xs → AllOther (local k) xs
other_local k b [] h = tt
other_local k b (nowhere ∷ xs) h = (tt, other_local k b xs h.1)
other_local k b (local j ∷ xs) h = ((let x = h.0 in omega arith), other_local k b xs h.1)
other_local k b (block d ∷ xs) h = (tt, other_local k b xs h.1)

other_block : (c l : ℕ) (xs : List Source) → AreFrom (suc c) l xs → AllOther (block c) xs
other_block c l [] h = tt
other_block c l (nowhere ∷ xs) h = (tt, other_block c l xs h.1)
other_block c l (local j ∷ xs) h = (tt, other_block c l xs h.1)
other_block c l (block d ∷ xs) h = ((let x = h.0 in omega arith), other_block c l xs h.1)

other_none : (xs : List Source) → AllOther nowhere xs
other_none [] = tt
other_none (nowhere ∷ xs) = (tt, other_none xs)
other_none (local j ∷ xs) = (tt, other_none xs)
other_none (block d ∷ xs) = (tt, other_none xs)

behind_least : (l : ℕ) (xs : List InstLine) → l ≤ locals_behind l xs
behind_least l [] = omega arith
behind_least l (x ∷ xs) = let rest = behind_least (local_behind l x) xs in go (makes x.inst) (locals_behind (local_behind l x) xs) rest
  where
    go : (t : Bool) (n : ℕ) → cond t (suc l) l ≤ n → l ≤ n
    go true n h = omega arith
    go false n h = h

insts_from_on : (b l : ℕ) (xs : List InstLine) → AreFrom b l (of_insts l xs)
insts_from_on b l [] = tt
insts_from_on b l (x ∷ xs) = go (makes x.inst) (insts_from_on b (local_behind l x) xs)
  where
    go : (t : Bool) → AreFrom b (cond t (suc l) l) (of_insts (cond t (suc l) l) xs) → AreFrom b l (cond t (local l) nowhere ∷ of_insts (cond t (suc l) l) xs)
    go true h = ((omega arith), lower b l b (suc l) (of_insts (suc l) xs) (omega arith) (omega arith) h)
    go false h = (tt, h)

blocks_from_on : (b l : ℕ) (bs : List BlockLines) → AreFrom b l (of_blocks b l bs)
blocks_from_on b l [] = tt
blocks_from_on b l (x ∷ xs) = (
  (omega arith),
  from_append b l (of_insts l x.insts) (of_blocks (suc b) (locals_behind l x.insts) xs) (insts_from_on b l x.insts)
      (lower b l (suc b) (locals_behind l x.insts) (of_blocks (suc b) (locals_behind l x.insts) xs) (omega arith) (behind_least l x.insts) (blocks_from_on (suc b) (locals_behind l x.insts) xs)),
)

-- instructions, with what comes behind them
insts_rise : (b l : ℕ) (xs : List InstLine) (rest : List Source) → AreFrom b (locals_behind l xs) rest → Rise rest → Rise (of_insts l xs ++ rest)
insts_rise b l [] rest h r = r
insts_rise b l (x ∷ xs) rest h r =
    go (makes x.inst) (insts_rise b (local_behind l x) xs rest h r)
    (from_append b (local_behind l x) (of_insts (local_behind l x) xs) rest (insts_from_on b (local_behind l x) xs) (lower b (local_behind l x) b (locals_behind (local_behind l x) xs) rest (omega arith) (behind_least (local_behind l x) xs) h))
  where
    go : (t : Bool) → Rise (of_insts (cond t (suc l) l) xs ++ rest) → AreFrom b (cond t (suc l) l) (of_insts (cond t (suc l) l) xs ++ rest) → Rise (cond t (local l) nowhere ∷ (of_insts (cond t (suc l) l) xs ++ rest))
    go true rise above = (other_local l b (of_insts (suc l) xs ++ rest) above, rise)
    go false rise above = (other_none (of_insts l xs ++ rest), rise)

-- no instruction is a block
insts_above : (c l : ℕ) (xs : List InstLine) (rest : List Source) → AllOther (block c) rest → AllOther (block c) (of_insts l xs ++ rest)
insts_above c l [] rest h = h
insts_above c l (x ∷ xs) rest h = go (makes x.inst) (insts_above c (local_behind l x) xs rest h)
  where
    go : (t : Bool) → AllOther (block c) (of_insts (cond t (suc l) l) xs ++ rest) → AllOther (block c) (cond t (local l) nowhere ∷ (of_insts (cond t (suc l) l) xs ++ rest))
    go true k = (tt, k)
    go false k = (tt, k)

blocks_rise : (b l : ℕ) (bs : List BlockLines) → Rise (of_blocks b l bs)
blocks_rise b l [] = tt
blocks_rise b l (x ∷ xs) =
    let rest : List Source = of_blocks (suc b) (locals_behind l x.insts) xs in
    let above = blocks_from_on (suc b) (locals_behind l x.insts) xs in
    (insts_above b l x.insts rest (other_block b (locals_behind l x.insts) rest above), insts_rise (suc b) l x.insts rest above (blocks_rise (suc b) (locals_behind l x.insts) xs))

params_rise : (l : ℕ) (ps : List Param) (rest : List Source) → AreFrom 0 (l + length ps) rest → Rise rest → Rise (of_params l ps ++ rest)
params_rise l [] rest h r = r
params_rise l (p ∷ ps) rest h r =
    let n : suc l + length ps ≡ l + suc (length ps) = omega arith in (
      other_local l 0 (of_params (suc l) ps ++ rest) (from_append 0 (suc l) (of_params (suc l) ps) rest (params_from_on (suc l) ps) (lower 0 (suc l) 0 (l + suc (length ps)) rest (omega arith) (omega arith) h)),
      params_rise (suc l) ps rest (lower 0 (suc l + length ps) 0 (l + suc (length ps)) rest (omega arith) (omega arith) h) r,
    )
  where
    params_from_on : (k : ℕ) (qs : List Param) → AreFrom 0 k (of_params k qs)
    params_from_on k [] = tt
    params_from_on k (q ∷ qs) = ((omega arith), lower 0 k 0 (suc k) (of_params (suc k) qs) (omega arith) (omega arith) (params_from_on (suc k) qs))

sources_rise : (l : FuncLines) → Rise (sources l)
sources_rise l = params_rise 0 l.head.params (of_blocks 0 (length l.head.params) l.blocks) (lower 0 (0 + length l.head.params) 0 (length l.head.params) (of_blocks 0 (length l.head.params) l.blocks) (omega arith) (omega arith) (blocks_from_on 0 (length l.head.params) l.blocks)) (blocks_rise 0 (length l.head.params) l.blocks)

others_at : (x : Source) (xs : List Source) (j : ℕ) (y : Source) → AllOther x xs → slice_get xs j ≡ Some y → IsOther x y
others_at x [] j y h e = cc
others_at x (z ∷ xs) zero y h e = let one : z ≡ y = cc in subst (IsOther x) one h.0
others_at x (z ∷ xs) (suc j) y h e = others_at x xs j y h.1 e

rise_at : (xs : List Source) (i j : ℕ) (x y : Source) → Rise xs → i < j → slice_get xs i ≡ Some x → slice_get xs j ≡ Some y → IsOther x y
rise_at [] i j x y h less e d = cc
rise_at (z ∷ xs) zero zero x y h less e d = absurd (omega arith)
rise_at (z ∷ xs) (suc i) zero x y h less e d = absurd (omega arith)
rise_at (z ∷ xs) zero (suc j) x y h less e d = let one : z ≡ x = cc in subst (λ w. IsOther w y) one (others_at z xs j y h.0 d)
rise_at (z ∷ xs) (suc i) (suc j) x y h less e d = rise_at xs i j x y h.1 (omega arith) e d

-- Words that are listed.

word_there : (xs : List Name) (k : ℕ) (text : List ℕ) → slice_index_or xs k Absent ≡ Word text → slice_get xs k ≡ Some (Word text)
word_there [] k text e = cc
word_there (x ∷ xs) zero text e = ap Some e
word_there (x ∷ xs) (suc k) text e = word_there xs k text e

-- where a word among locals, or among blocks, stands among all
record Stands (l : FuncLines) (p : Made → Bool) (k : ℕ) (text : List ℕ) : Type 0 where
  thing : Made
  is : slice_get (filter p (named_in l)) k ≡ Some thing
  at : slice_get (named_in l) (place_of p (named_in l) k) ≡ Some thing
  passes : p thing ≡ true
  word : thing.name ≡ Word text

stands : (l : FuncLines) (p : Made → Bool) (k : ℕ) (text : List ℕ) → slice_index_or (map name_of_made (filter p (named_in l))) k Absent ≡ Word text → Stands l p k text
stands l p k text e =
    let r = get_map name_of_made (filter p (named_in l)) k (Word text) (word_there (map name_of_made (filter p (named_in l))) k text e) in
    let f = found_at p (named_in l) k r.0 r.1 in
    record { thing = r.0; is = r.1; at = f.0; passes = f.1; word = r.2 }

abbrev NoneAgain : FuncLines → Type 0
NoneAgain l = (n : ℕ) → IsMadeAgain (named_in l) n → ⊥

-- two things with one word stand at one place
apart_by : (l : FuncLines) → NoneAgain l → (i j : ℕ) (one other : Made) → slice_get (named_in l) i ≡ Some one → slice_get (named_in l) j ≡ Some other → one.name ≡ other.name → i < j → ⊥
apart_by l none i j one other e d same less = none other.line (record { first = i; at = j; before = less; one = one; other = other; first_is = e; at_is = d; same = same; on = refl })

order : (i j : ℕ) → (i < j) ⊎ ((i ≡ j) ⊎ (j < i))
order i j = grind (arith)

never : (l : FuncLines) → NoneAgain l → (p q : Made → Bool) (k m : ℕ) (text : List ℕ) → Stands l p k text → Stands l q m text → (place_of p (named_in l) k ≡ place_of q (named_in l) m → ⊥) → ⊥
never l none p q k m text a b differ =
    ⊎_elim
    (λ (less : place_of p (named_in l) k < place_of q (named_in l) m). apart_by l none (place_of p (named_in l) k) (place_of q (named_in l) m) a.thing b.thing a.at b.at (a.word ∙ sym b.word) less)
    (λ (rest : (place_of p (named_in l) k ≡ place_of q (named_in l) m) ⊎ (place_of q (named_in l) m < place_of p (named_in l) k)).
    ⊎_elim (λ (e : place_of p (named_in l) k ≡ place_of q (named_in l) m). differ e)
    (λ (more : place_of q (named_in l) m < place_of p (named_in l) k). apart_by l none (place_of q (named_in l) m) (place_of p (named_in l) k) b.thing a.thing b.at a.at (b.word ∙ sym a.word) more) rest)
    (order (place_of p (named_in l) k) (place_of q (named_in l) m))

within : {X : Type 0} (xs : List X) (k : ℕ) (x : X) → slice_get xs k ≡ Some x → k < length xs
within [] k x e = cc
within (y ∷ xs) zero x e = omega arith
within (y ∷ xs) (suc k) x e = let r = within xs k x e in omega arith

same_kind : (l : FuncLines) → NoneAgain l → (p : Made → Bool) (k m : ℕ) (text : List ℕ) → k < m → Stands l p k text → Stands l p m text → ⊥
same_kind l none p k m text less a b =
    let up = rises p (named_in l) k m less (within (filter p (named_in l)) m b.thing b.is) in
    never l none p p k m text a b (λ e. let lt = up in omega arith)

other_kind : (l : FuncLines) → NoneAgain l → (k m : ℕ) (text : List ℕ) → Stands l (λ (x : Made). not x.is_block) k text → Stands l (λ (x : Made). x.is_block) m text → ⊥
other_kind l none k m text a b =
    never l none (λ (x : Made). not x.is_block) (λ (x : Made). x.is_block) k m text a b
    (λ e.
    let both : Some a.thing ≡ Some b.thing = sym a.at ∙ ap (λ (n : ℕ). slice_get (named_in l) n) e ∙ b.at in
    let one : a.thing ≡ b.thing = cc in
    let is : a.thing.is_block ≡ true = ap (λ (x : Made). x.is_block) one ∙ b.passes in
    let off : not true ≡ true = ap not (sym is) ∙ a.passes in
    cc)

apart_at : (l : FuncLines) → NoneAgain l → (x y : Source) (text : List ℕ) → IsOther x y → name_at (locals_of l) (blocks_of l) x ≡ Word text → name_at (locals_of l) (blocks_of l) y ≡ Word text → ⊥
apart_at l none nowhere y text h e d = cc
apart_at l none (local k) nowhere text h e d = cc
apart_at l none (block c) nowhere text h e d = cc
apart_at l none (local k) (local m) text h e d = same_kind l none (λ (x : Made). not x.is_block) k m text h (stands l (λ (x : Made). not x.is_block) k text e) (stands l (λ (x : Made). not x.is_block) m text d)
apart_at l none (block k) (block m) text h e d = same_kind l none (λ (x : Made). x.is_block) k m text h (stands l (λ (x : Made). x.is_block) k text e) (stands l (λ (x : Made). x.is_block) m text d)
apart_at l none (local k) (block m) text h e d = other_kind l none k m text (stands l (λ (x : Made). not x.is_block) k text e) (stands l (λ (x : Made). x.is_block) m text d)
apart_at l none (block k) (local m) text h e d = other_kind l none m k text (stands l (λ (x : Made). not x.is_block) m text d) (stands l (λ (x : Made). x.is_block) k text e)

source_of : (ls bs : List Name) (xs : List Source) (i : ℕ) (n : Name) → slice_get (map (name_at ls bs) xs) i ≡ Some n → (x : Source) × (slice_get xs i ≡ Some x) × (name_at ls bs x ≡ n)
source_of ls bs xs i n e = get_map (name_at ls bs) xs i n e

pub are_apart : (s : Scope) (spare : ℕ) (l : FuncLines) → s.locals ≡ locals_of l → s.blocks ≡ blocks_of l → NoneAgain l → AreApart (names_in (func_of s spare l))
are_apart s spare l locals blocks none i j text less e d =
    let names : names_in (func_of s spare l) ≡ map (name_at (locals_of l) (blocks_of l)) (sources l) =
    names_are s spare l ∙ ap (λ ls. map (name_at ls s.blocks) (sources l)) locals ∙ ap (λ bs. map (name_at (locals_of l) bs) (sources l)) blocks in
    let x = source_of (locals_of l) (blocks_of l) (sources l) i (Word text) (subst (λ ns. slice_get ns i ≡ Some (Word text)) names e) in
    let y = source_of (locals_of l) (blocks_of l) (sources l) j (Word text) (subst (λ ns. slice_get ns j ≡ Some (Word text)) names d) in
    apart_at l none x.0 y.0 text (rise_at (sources l) i j x.0 y.0 (sources_rise l) less x.1 y.1) x.2 y.2

module _ (P : Name → Type 0) (free : IsOfWords P) where
  -- a name that is listed, or none
  in_or_absent : (xs : List Name) (k : ℕ) → ((n : Name) → IsIn xs n → P n) → P (slice_index_or xs k Absent)
  in_or_absent [] k h = free.absent
  in_or_absent (x ∷ xs) zero h = h x (in_here x xs)
  in_or_absent (x ∷ xs) (suc k) h = in_or_absent xs k (λ n i. h n (in_there x xs n i))

  filter_named : (p : Made → Bool) (l : FuncLines) → AllNamed P free (named_in l) → (n : Name) → IsIn (map name_of_made (filter p (named_in l))) n → P n
  filter_named p l h n i =
      let r = get_map name_of_made (filter p (named_in l)) i.0 n i.1 in
      let f = found_at p (named_in l) i.0 r.0 r.1 in
      subst P r.2 (h r.0 (place_of p (named_in l) i.0, f.0))

  -- what holds of the names that are written holds of all names of the function
  pub are_named : (s : Scope) (spare : ℕ) (l : FuncLines) → s.locals ≡ locals_of l → s.blocks ≡ blocks_of l → AllNamed P free (made_in l) → (n : Name) → IsIn (names_in (func_of s spare l)) n → P n
  are_named s spare l locals blocks words n i =
      let all : AllNamed P free (named_in l) = named_all P free 0 (made_in l) words in
      let names : names_in (func_of s spare l) ≡ map (name_at (locals_of l) (blocks_of l)) (sources l) =
      names_are s spare l ∙ ap (λ ls. map (name_at ls s.blocks) (sources l)) locals ∙ ap (λ bs. map (name_at (locals_of l) bs) (sources l)) blocks in
      let x = source_of (locals_of l) (blocks_of l) (sources l) i.0 n (subst (λ ns. slice_get ns i.0 ≡ Some n) names i.1) in
      subst P x.2 (at x.0 all)
    where
      at : (x : Source) → AllNamed P free (named_in l) → P (name_at (locals_of l) (blocks_of l) x)
      at nowhere all = free.absent
      at (local k) all = in_or_absent (locals_of l) k (filter_named (λ (x : Made). not x.is_block) l all)
      at (block b) all = in_or_absent (blocks_of l) b (filter_named (λ (x : Made). x.is_block) l all)

pub are_words : (s : Scope) (spare : ℕ) (l : FuncLines) → s.locals ≡ locals_of l → s.blocks ≡ blocks_of l → AllWords (made_in l) → (n : Name) → IsIn (names_in (func_of s spare l)) n → IsWordOrNone n
are_words s spare l locals blocks words n i = are_named IsWordOrNone of_words s spare l locals blocks words n i
