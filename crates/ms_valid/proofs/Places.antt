-- Where allocas and phis stand in the functions of a module that is read.
use Rattle.std.proofs.Common.{◌≡◌, ◌∙◌, ◌+◌, ◌<◌, ◌&&◌, ℕ, zero, suc, Bool, true, false, List, [], ◌∷◌, ◌++◌, Option, Some, None, is_some, length, map, refl, sym, ap, subst, arith, ⊎_elim, slice_get, append_assoc}
use Rattle.std.specs.List.{flat_map}
use Rattle.std.proofs.lemmas.Bool.{both_ways, and_parts}
use Rattle.ms_ir.specs.Func.{Placed, insts_at}
use Rattle.ms_ir.specs.Types.{is_alloca, is_phi}
use Rattle.ms_grammar.specs.Kept.{Each}
use Rattle.ms_grammar.specs.declared.line.Line.{Line}
use Rattle.ms_grammar.specs.declared.line.Line.TheVariants as said
use Rattle.ms_grammar.specs.declared.line.RawInst.{RawInst}
use Rattle.ms_grammar.specs.declared.line.RawInst.TheVariants as raw
use Rattle.ms_grammar.specs.declared.line.RawTerm.{RawTerm}
use Rattle.ms_line.specs.Sorts.{sort_of_inst}
use Rattle.ms_line.specs.declared.sort.Sort.{Sort}
use Rattle.ms_line.specs.declared.sort.Sort.TheVariants.{Phi, Alloca, Other, Term, Label, Close, Define, Item}
use Rattle.ms_read.specs.Places.{next_place}
use Rattle.ms_read.specs.Shape.{Walk}
use Rattle.ms_read.specs.Told.{sorts_of}
use Rattle.ms_read.specs.declared.place.Place.{Place}
use Rattle.ms_read.specs.declared.place.Place.TheVariants.{Outside, Begun, Front, Inner, Ended}
use Rattle.ms_resolve.specs.Shape.{LabelLine, InstLine, BlockLines, FuncLines, ItemLines, plain, body, label_lines, inst_line, block_lines, func_lines, item_lines, stands_outside, HasLabel, HasBlocks, IsItem}
use Rattle.ms_resolve.specs.Scope.{Scope, inst_of, placed_at, local_behind, locals_behind, insts_from, blocks_from}
use Rattle.ms_resolve.specs.Faults.{IsIn}
use Rattle.ms_validity.proofs.ListLemmas.{in_nil, in_cons}

abbrev pub Lines : Type 0
Lines = List (ℕ × Line)

-- ---- places behind the first block

abbrev is_alloca_sort : Sort → Bool
is_alloca_sort Alloca = true
is_alloca_sort _ = false

abbrev HasNoAlloca : InstLine → Type 0
HasNoAlloca x = is_alloca_sort (sort_of_inst x.inst) ≡ false

abbrev HasNoAllocas : BlockLines → Type 0
HasNoAllocas b = Each HasNoAlloca b.insts

-- no block but the first has an alloca
abbrev pub HasThemFirst : List BlockLines → Type 0
HasThemFirst [] = Unit {0}
HasThemFirst (b ∷ bs) = Each HasNoAllocas bs

-- in a block that is not the first
abbrev IsLater : Place → Type 0
IsLater (Front false) = Unit {0}
IsLater (Inner false) = Unit {0}
IsLater _ = ⊥

-- behind an instruction there
abbrev IsLaterNext : Option Place → Type 0
IsLaterNext None = Unit {0}
IsLaterNext (Some p) = IsLater p

-- an instruction's line has one of three sorts
pub by_sort : (P : Sort → Type 0) → P Alloca → P Phi → P Other → (i : RawInst) → P (sort_of_inst i)
by_sort P a p o (raw.Alloca _ _ _) = a
by_sort P a p o (raw.Phi _ _ _) = p
by_sort P a p o (raw.Gep _ _ _ _ _) = o
by_sort P a p o (raw.Step _ _ _ _ _ _) = o
by_sort P a p o (raw.Load _ _ _) = o
by_sort P a p o (raw.Store _ _ _ _) = o
by_sort P a p o (raw.Copy _ _ _ _ _ _) = o
by_sort P a p o (raw.Call _ _ _ _ _ _) = o
by_sort P a p o (raw.Bin _ _ _ _ _ _) = o
by_sort P a p o (raw.Cmp _ _ _ _ _ _) = o
by_sort P a p o (raw.Select _ _ _ _ _) = o
by_sort P a p o (raw.Cast _ _ _ _ _ _) = o

later_next : (at : Place) (i : RawInst) → IsLater at → IsLaterNext (next_place at (sort_of_inst i))
later_next (Front false) i l = by_sort (λ s. IsLaterNext (next_place (Front false) s)) tt tt tt i
later_next (Inner false) i l = by_sort (λ s. IsLaterNext (next_place (Inner false) s)) tt tt tt i
later_next (Front true) i l = absurd l
later_next (Inner true) i l = absurd l
later_next Outside i l = absurd l
later_next Begun i l = absurd l
later_next Ended i l = absurd l

-- an alloca may not stand there
abbrev StandsWithout : Place → Place → Sort → Type 0
StandsWithout at next s = next_place at s ≡ Some next → is_alloca_sort s ≡ false

no_alloca : (at : Place) (i : RawInst) (next : Place) → IsLater at → StandsWithout at next (sort_of_inst i)
no_alloca (Front false) i next l = by_sort (StandsWithout (Front false) next) (λ e. cc) (λ e. refl) (λ e. refl) i
no_alloca (Inner false) i next l = by_sort (StandsWithout (Inner false) next) (λ e. cc) (λ e. refl) (λ e. refl) i
no_alloca (Front true) i next l = absurd l
no_alloca (Inner true) i next l = absurd l
no_alloca Outside i next l = absurd l
no_alloca Begun i next l = absurd l
no_alloca Ended i next l = absurd l

term_next : (at next : Place) → next_place at Term ≡ Some next → next ≡ Ended
term_next Outside next e = cc
term_next Begun next e = let x : Ended ≡ next = cc in sym x
term_next (Front first) next e = let x : Ended ≡ next = cc in sym x
term_next (Inner first) next e = let x : Ended ≡ next = cc in sym x
term_next Ended next e = cc

-- lines lead from one place to the end of all
abbrev pub Leads : Place → Lines → Type 0
Leads at lines = Walk at (sorts_of lines) Outside

moved : (p q : Place) (lines : Lines) → p ≡ q → Leads p lines → Leads q lines
moved p q lines e w = subst (λ x. Leads x lines) e w

-- behind a terminator
ended : (at : Place) (n : ℕ) (t : RawTerm) (rest : Lines) → Leads at ((n, said.Term t) ∷ rest) → Leads Ended rest
ended at n t rest w = moved w.0 Ended rest (term_next at w.0 w.1) w.2

-- behind some lines
skipped : (at : Place) (front rest : Lines) → Leads at (front ++ rest) → (p : Place) × Leads p rest
skipped at [] rest w = (at, w)
skipped at (x ∷ front) rest w = skipped w.0 front rest w.2

-- a block in three parts
block_parts : (b : BlockLines) (rest : Lines) → block_lines b ++ rest ≡ label_lines b.label ++ (map inst_line b.insts ++ (b.end.line, said.Term b.end.term) ∷ rest)
block_parts b rest =
    append_assoc (label_lines b.label ++ map inst_line b.insts) ((b.end.line, said.Term b.end.term) ∷ []) rest
    ∙ append_assoc (label_lines b.label) (map inst_line b.insts) ((b.end.line, said.Term b.end.term) ∷ rest)

first_block : (at : Place) (b : BlockLines) (rest : Lines) → Leads at (block_lines b ++ rest) → Leads Ended rest
first_block at b rest w =
    let end : ℕ × Line = (b.end.line, said.Term b.end.term) in
    let label = skipped at (label_lines b.label) (map inst_line b.insts ++ end ∷ rest) (subst (λ (xs : Lines). Leads at xs) (block_parts b rest) w) in
    let insts = skipped label.0 (map inst_line b.insts) (end ∷ rest) label.1 in
    ended insts.0 b.end.line b.end.term rest insts.1

later_insts : (at : Place) (xs : List InstLine) (rest : Lines) → IsLater at → Leads at (map inst_line xs ++ rest) → Each HasNoAlloca xs × ((p : Place) × Leads p rest)
later_insts at [] rest l w = (tt, (at, w))
later_insts at (x ∷ xs) rest l w =
    let next : IsLater w.0 = subst (λ (o : Option Place). IsLaterNext o) w.1 (later_next at x.inst l) in
    let more = later_insts w.0 xs rest next w.2 in
    ((no_alloca at x.inst w.0 l w.1, more.0), more.1)

label_next : (at next : Place) → at ≡ Ended → next_place at Label ≡ Some next → IsLater next
label_next at next same e =
    let x : next_place Ended Label ≡ Some next = sym (ap (λ p. next_place p Label) same) ∙ e in
    let y : Front false ≡ next = cc in
    subst IsLater y tt

later_by : (label : Option LabelLine) (xs : List InstLine) (n : ℕ) (t : RawTerm) (rest : Lines) → is_some label ≡ true → Leads Ended (label_lines label ++ (map inst_line xs ++ (n, said.Term t) ∷ rest)) →
    Each HasNoAlloca xs × Leads Ended rest
later_by None xs n t rest some w = cc
later_by (Some l) xs n t rest some w =
    let more = later_insts w.0 xs ((n, said.Term t) ∷ rest) (label_next Ended w.0 refl w.1) w.2 in
    (more.0, ended more.1.0 n t rest more.1.1)

later_blocks : (bs : List BlockLines) (rest : Lines) → Each HasLabel bs → Leads Ended (flat_map block_lines bs ++ rest) → Each HasNoAllocas bs × Leads Ended rest
later_blocks [] rest labels w = (tt, w)
later_blocks (b ∷ bs) rest labels w =
    let more = flat_map block_lines bs ++ rest in
    let here : Leads Ended (block_lines b ++ more) = subst (λ (xs : Lines). Leads Ended xs) (append_assoc (block_lines b) (flat_map block_lines bs) rest) w in
    let one = later_by b.label b.insts b.end.line b.end.term more labels.0 (subst (λ (xs : Lines). Leads Ended xs) (block_parts b more) here) in
    let others = later_blocks bs rest labels.1 one.1 in
    ((one.0, others.0), others.1)

close_next : (next : Place) → next_place Ended Close ≡ Some next → next ≡ Outside
close_next next e = let x : Outside ≡ next = cc in sym x

func_blocks : (bs : List BlockLines) (close : ℕ) (rest : Lines) → HasBlocks bs → Leads Begun (flat_map block_lines bs ++ (close, said.Close) ∷ rest) → HasThemFirst bs × Leads Outside rest
func_blocks [] close rest some w = absurd some
func_blocks (b ∷ bs) close rest some w =
    let tail : Lines = (close, said.Close) ∷ rest in
    let here : Leads Begun (block_lines b ++ (flat_map block_lines bs ++ tail)) = subst (λ (xs : Lines). Leads Begun xs) (append_assoc (block_lines b) (flat_map block_lines bs) tail) w in
    let others = later_blocks bs tail some (first_block Begun b (flat_map block_lines bs ++ tail) here) in
    (others.0, moved others.1.0 Outside rest (close_next others.1.0 others.1.1) others.1.2)

define_next : (next : Place) → next_place Outside Define ≡ Some next → next ≡ Begun
define_next next e = let x : Begun ≡ next = cc in sym x

abbrev pub HasAllocasFirst : ItemLines → Type 0
HasAllocasFirst (plain n line) = Unit {0}
HasAllocasFirst (body f) = HasThemFirst f.blocks

item_next : (next : Place) → next_place Outside Item ≡ Some next → next ≡ Outside
item_next next e = let x : Outside ≡ next = cc in sym x

plain_next : (n : ℕ) (line : Line) (rest : Lines) → stands_outside line ≡ true → Leads Outside ((n, line) ∷ rest) → Leads Outside rest
plain_next n (said.Kept text) rest o w = moved w.0 Outside rest (item_next w.0 w.1) w.2
plain_next n (said.Group number text) rest o w = moved w.0 Outside rest (item_next w.0 w.1) w.2
plain_next n (said.GlobalVar name text) rest o w = moved w.0 Outside rest (item_next w.0 w.1) w.2
plain_next n (said.Declare head) rest o w = moved w.0 Outside rest (item_next w.0 w.1) w.2
plain_next n said.Empty rest o w = cc
plain_next n said.Close rest o w = cc
plain_next n (said.Label name) rest o w = cc
plain_next n (said.Define head) rest o w = cc
plain_next n (said.Inst name i) rest o w = cc
plain_next n (said.Term t) rest o w = cc

pub all_first : (items : List ItemLines) → Each IsItem items → Leads Outside (flat_map item_lines items) → Each HasAllocasFirst items
all_first [] each w = tt
all_first (plain n line ∷ items) each w = (tt, all_first items each.1 (plain_next n line (flat_map item_lines items) each.0 w))
all_first (body f ∷ items) each w =
    let rest = flat_map item_lines items in
    let blocks : Leads Begun ((flat_map block_lines f.blocks ++ (f.close, said.Close) ∷ []) ++ rest) = moved w.0 Begun ((flat_map block_lines f.blocks ++ (f.close, said.Close) ∷ []) ++ rest) (define_next w.0 w.1) w.2 in
    let one = func_blocks f.blocks f.close rest each.0 (subst (λ (xs : Lines). Leads Begun xs) (append_assoc (flat_map block_lines f.blocks) ((f.close, said.Close) ∷ []) rest) blocks) in
    (one.0, all_first items each.1 one.1)

-- ---- phis

abbrev is_phi_sort : Sort → Bool
is_phi_sort Phi = true
is_phi_sort _ = false

-- a place at which a phi may stand in a block
abbrev at_front : Place → Bool
at_front Begun = true
at_front (Front first) = true
at_front _ = false

-- a phi stands behind phis alone, and behind what may stand in front
abbrev pub PhisFrom : Bool → List InstLine → Type 0
PhisFrom front [] = Unit {0}
PhisFrom front (x ∷ xs) = (is_phi_sort (sort_of_inst x.inst) ≡ true → front ≡ true) × PhisFrom (front && is_phi_sort (sort_of_inst x.inst)) xs

abbrev FrontStep : Place → Place → Sort → Type 0
FrontStep at next s = next_place at s ≡ Some next → (is_phi_sort s ≡ true → at_front at ≡ true) × (at_front next ≡ (at_front at && is_phi_sort s))

front_step : (at next : Place) (i : RawInst) → FrontStep at next (sort_of_inst i)
front_step Outside next i = by_sort (FrontStep Outside next) (λ e. cc) (λ e. cc) (λ e. cc) i
front_step Ended next i = by_sort (FrontStep Ended next) (λ e. cc) (λ e. cc) (λ e. cc) i
front_step Begun next i =
    by_sort (FrontStep Begun next)
    (λ e. let x : Inner true ≡ next = cc in (λ t. refl, ap at_front (sym x)))
    (λ e. let x : Front true ≡ next = cc in (λ t. refl, ap at_front (sym x)))
    (λ e. let x : Inner true ≡ next = cc in (λ t. refl, ap at_front (sym x))) i
front_step (Front true) next i =
    by_sort (FrontStep (Front true) next)
    (λ e. let x : Inner true ≡ next = cc in (λ t. refl, ap at_front (sym x)))
    (λ e. let x : Front true ≡ next = cc in (λ t. refl, ap at_front (sym x)))
    (λ e. let x : Inner true ≡ next = cc in (λ t. refl, ap at_front (sym x))) i
front_step (Front false) next i =
    by_sort (FrontStep (Front false) next)
    (λ e. cc)
    (λ e. let x : Front false ≡ next = cc in (λ t. refl, ap at_front (sym x)))
    (λ e. let x : Inner false ≡ next = cc in (λ t. refl, ap at_front (sym x))) i
front_step (Inner true) next i =
    by_sort (FrontStep (Inner true) next)
    (λ e. let x : Inner true ≡ next = cc in (λ t. cc, ap at_front (sym x)))
    (λ e. cc)
    (λ e. let x : Inner true ≡ next = cc in (λ t. cc, ap at_front (sym x))) i
front_step (Inner false) next i =
    by_sort (FrontStep (Inner false) next)
    (λ e. cc)
    (λ e. cc)
    (λ e. let x : Inner false ≡ next = cc in (λ t. cc, ap at_front (sym x))) i

phis_walk : (at : Place) (xs : List InstLine) (rest : Lines) → Leads at (map inst_line xs ++ rest) → PhisFrom (at_front at) xs
phis_walk at [] rest w = tt
phis_walk at (x ∷ xs) rest w =
    let step = front_step at w.0 x.inst w.1 in
    (step.0, subst (λ (b : Bool). PhisFrom b xs) step.1 (phis_walk w.0 xs rest w.2))

-- what one of some things gives stands among what all of them give
pub split_at : {X : Type 0} (f : X → Lines) (xs : List X) (x : X) → IsIn xs x → (pre post : Lines) × (flat_map f xs ≡ pre ++ (f x ++ post))
split_at f [] x i = absurd (in_nil x i)
split_at {X} f (y ∷ xs) x i =
    ⊎_elim
    (λ (e : y ≡ x). ([], flat_map f xs, ap (λ (z : X). f z ++ flat_map f xs) e))
    (λ (r : IsIn xs x).
    let s = split_at f xs x r in
    (f y ++ s.0, s.1, ap (λ (ls : Lines). f y ++ ls) s.2 ∙ sym (append_assoc (f y) s.0 (f x ++ s.1))))
    (in_cons y xs x i)

moved_lines : (at : Place) (xs ys : Lines) → xs ≡ ys → Leads at xs → Leads at ys
moved_lines at xs ys e w = subst (λ (ls : Lines). Leads at ls) e w

-- the phis of a block of a function
pub phis_first : (items : List ItemLines) (l : FuncLines) (b : BlockLines) → Leads Outside (flat_map item_lines items) → IsIn items (body l) → IsIn l.blocks b → (front : Bool) × PhisFrom front b.insts
phis_first items l b w il ib =
    let item = split_at item_lines items (body l) il in
    let block = split_at block_lines l.blocks b ib in
    let close : Lines = (l.close, said.Close) ∷ [] in
    let end : ℕ × Line = (b.end.line, said.Term b.end.term) in
    let more : Lines = block.1 ++ (close ++ item.1) in
    let at_item = skipped Outside item.0 (func_lines l ++ item.1) (moved_lines Outside (flat_map item_lines items) (item.0 ++ (func_lines l ++ item.1)) item.2 w) in
    let behind_define : Leads at_item.1.0 ((flat_map block_lines l.blocks ++ close) ++ item.1) = at_item.1.2 in
    let same : (flat_map block_lines l.blocks ++ close) ++ item.1 ≡ block.0 ++ (block_lines b ++ more) =
    append_assoc (flat_map block_lines l.blocks) close item.1 ∙ ap (λ (ls : Lines). ls ++ (close ++ item.1)) block.2
    ∙ append_assoc block.0 (block_lines b ++ block.1) (close ++ item.1) ∙ ap (λ (ls : Lines). block.0 ++ ls) (append_assoc (block_lines b) block.1 (close ++ item.1)) in
    let at_block = skipped at_item.1.0 block.0 (block_lines b ++ more) (moved_lines at_item.1.0 ((flat_map block_lines l.blocks ++ close) ++ item.1) (block.0 ++ (block_lines b ++ more)) same behind_define) in
    let in_parts = moved_lines at_block.0 (block_lines b ++ more) (label_lines b.label ++ (map inst_line b.insts ++ end ∷ more)) (block_parts b more) at_block.1 in
    let at_insts = skipped at_block.0 (label_lines b.label) (map inst_line b.insts ++ end ∷ more) in_parts in
    (at_front at_insts.0, phis_walk at_insts.0 b.insts (end ∷ more) at_insts.1)

-- ---- from lines to functions

record Same (s : Scope) (i : RawInst) : Type 0 where
  alloca : is_alloca (inst_of s i) ≡ is_alloca_sort (sort_of_inst i)
  phi : is_phi (inst_of s i) ≡ is_phi_sort (sort_of_inst i)

same : (s : Scope) (i : RawInst) → Same s i
same s (raw.Alloca _ _ _) = record { alloca = refl; phi = refl }
same s (raw.Phi _ _ _) = record { alloca = refl; phi = refl }
same s (raw.Gep _ _ _ _ _) = record { alloca = refl; phi = refl }
same s (raw.Step _ _ _ _ _ _) = record { alloca = refl; phi = refl }
same s (raw.Load _ _ _) = record { alloca = refl; phi = refl }
same s (raw.Store _ _ _ _) = record { alloca = refl; phi = refl }
same s (raw.Copy _ _ _ _ _ _) = record { alloca = refl; phi = refl }
same s (raw.Call _ _ _ _ _ _) = record { alloca = refl; phi = refl }
same s (raw.Bin _ _ _ _ _ _) = record { alloca = refl; phi = refl }
same s (raw.Cmp _ _ _ _ _ _) = record { alloca = refl; phi = refl }
same s (raw.Select _ _ _ _ _) = record { alloca = refl; phi = refl }
same s (raw.Cast _ _ _ _ _ _) = record { alloca = refl; phi = refl }

none_among : (s : Scope) (n l k : ℕ) (xs : List InstLine) (x : Placed) → Each HasNoAlloca xs → slice_get (insts_from s n l xs) k ≡ Some x → is_alloca x.inst ≡ false
none_among s n l k [] x h e = cc
none_among s n l zero (y ∷ xs) x h e = let one : placed_at s n l y ≡ x = cc in sym (ap (λ (z : Placed). is_alloca z.inst) one) ∙ (same s y.inst).alloca ∙ h.0
none_among s n l (suc k) (y ∷ xs) x h e = none_among s (suc n) (local_behind l y) k xs x h.1 e

none_later : (s : Scope) (b n l j k : ℕ) (bs : List BlockLines) (x : Placed) → Each HasNoAllocas bs → slice_get (insts_at (blocks_from s b n l bs) j) k ≡ Some x → is_alloca x.inst ≡ false
none_later s b n l j k [] x h e = cc
none_later s b n l zero k (y ∷ bs) x h e = none_among s n l k y.insts x h.0 e
none_later s b n l (suc j) k (y ∷ bs) x h e = none_later s (suc b) (n + length y.insts) (locals_behind l y.insts) j k bs x h.1 e

pub first_alone : (s : Scope) (n l j k : ℕ) (bs : List BlockLines) (x : Placed) → HasThemFirst bs → slice_get (insts_at (blocks_from s 0 n l bs) j) k ≡ Some x → is_alloca x.inst ≡ true → j ≡ 0
first_alone s n l j k [] x h e a = cc
first_alone s n l zero k (y ∷ bs) x h e a = refl
first_alone s n l (suc j) k (y ∷ bs) x h e a =
    absurd (both_ways (is_alloca x.inst) (none_later s 1 (n + length y.insts) (locals_behind l y.insts) j k bs x h e) a)

-- the allocas of an item
pub item_first : (items : List ItemLines) (l : FuncLines) → Each HasAllocasFirst items → IsIn items (body l) → HasThemFirst l.blocks
item_first [] l each i = absurd (in_nil (body l) i)
item_first (x ∷ items) l each i =
    ⊎_elim (λ (e : x ≡ body l). subst (λ (z : ItemLines). HasAllocasFirst z) e each.0) (λ (r : IsIn items (body l)). item_first items l each.1 r) (in_cons x items (body l) i)

record AllPhis (front : Bool) (insts : List Placed) (k : ℕ) : Type 0 where
  before : front ≡ true
  each : (j : ℕ) (y : Placed) → j < k → slice_get insts j ≡ Some y → is_phi y.inst ≡ true

all_phis : (s : Scope) (n l : ℕ) (xs : List InstLine) (front : Bool) (k : ℕ) (x : Placed) → PhisFrom front xs → slice_get (insts_from s n l xs) k ≡ Some x → is_phi x.inst ≡ true → AllPhis front (insts_from s n l xs) k
all_phis s n l [] front k x h e t = cc
all_phis s n l (y ∷ xs) front zero x h e t =
    let one : placed_at s n l y ≡ x = cc in
    record { before = h.0 (sym (same s y.inst).phi ∙ ap (λ (z : Placed). is_phi z.inst) one ∙ t); each = λ j z less found. absurd (omega arith) }
all_phis s n l (y ∷ xs) front (suc k) x h e t =
    let rest = all_phis s (suc n) (local_behind l y) xs (front && is_phi_sort (sort_of_inst y.inst)) k x h.1 e t in
    let parts = and_parts front (is_phi_sort (sort_of_inst y.inst)) rest.before in
    record { before = parts.0; each = λ j z less found. at j z less found ((same s y.inst).phi ∙ parts.1) rest.each }
  where
    at : (j : ℕ) (z : Placed) → j < suc k → slice_get (insts_from s n l (y ∷ xs)) j ≡ Some z → is_phi (inst_of s y.inst) ≡ true
        → ((i : ℕ) (z : Placed) → i < k → slice_get (insts_from s (suc n) (local_behind l y) xs) i ≡ Some z → is_phi z.inst ≡ true) → is_phi z.inst ≡ true
    at zero z less found here rest = let one : placed_at s n l y ≡ z = cc in ap (λ (w : Placed). is_phi w.inst) (sym one) ∙ here
    at (suc i) z less found here rest = rest i z (omega arith) found

-- the instructions of a block
insts_of : (s : Scope) (b n l : ℕ) (bs : List BlockLines) (j : ℕ) (y : BlockLines) → slice_get bs j ≡ Some y → (m k : ℕ) × (insts_at (blocks_from s b n l bs) j ≡ insts_from s m k y.insts)
insts_of s b n l [] j y e = cc
insts_of s b n l (z ∷ bs) zero y e = let one : z ≡ y = cc in (n, l, ap (λ (w : BlockLines). insts_from s n l w.insts) one)
insts_of s b n l (z ∷ bs) (suc j) y e = insts_of s (suc b) (n + length z.insts) (locals_behind l z.insts) bs j y e

-- before a phi stand phis alone
pub phis_alone : (s : Scope) (n l : ℕ) (bs : List BlockLines) (b : ℕ) (y : BlockLines) (front : Bool) → slice_get bs b ≡ Some y → PhisFrom front y.insts → (k : ℕ) (x : Placed) →
    slice_get (insts_at (blocks_from s 0 n l bs) b) k ≡ Some x → is_phi x.inst ≡ true → (j : ℕ) (z : Placed) → j < k → slice_get (insts_at (blocks_from s 0 n l bs) b) j ≡ Some z → is_phi z.inst ≡ true
phis_alone s n l bs b y front e h k x found t j z less at =
    let i = insts_of s 0 n l bs b y e in
    let all = all_phis s i.0 i.1 y.insts front k x h (subst (λ (xs : List Placed). slice_get xs k ≡ Some x) i.2 found) t in
    all.each j z less (subst (λ (xs : List Placed). slice_get xs j ≡ Some z) i.2 at)
