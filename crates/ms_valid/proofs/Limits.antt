-- What is accepted for a draft that was read is a module within the limits of reading.
use Rattle.std.proofs.Common.{◌≡◌, ◌≢◌, ◌∙◌, ◌≤◌, ◌+◌, ℕ, suc, Bool, true, cond, List, [], ◌∷◌, ◌++◌, length, map, Option, Some, None, refl, sym, ap, subst, ⊎_elim, arith, length-append}
use Rattle.std.specs.Prelude.{option_map}
use Rattle.std.specs.List.{flat_map, count_by}
use Rattle.std.proofs.lemmas.List.{map-append}
use Rattle.std.proofs.lemmas.List.Sums.{sum_by-cons, sum_by-append}
use Rattle.ms_ir.specs.declared.names.Name.{Name}
use Rattle.ms_ir.specs.declared.names.Name.TheVariants.{Word, Number, Absent}
use Rattle.ms_ir.specs.declared.names.Param.{Param}
use Rattle.ms_ir.specs.Module.{ModuleState}
use Rattle.ms_ir.specs.Symbols.{NamesState}
use Rattle.ms_grammar.specs.Kept.{Each}
use Rattle.ms_grammar.specs.Form.{name_text}
use Rattle.ms_grammar.specs.Grammar.{kept_of, without_name}
use Rattle.ms_grammar.specs.Limits.{names_of_param, IsShort, IsSmallTerm, IsSmallInst, IsWithinLimits}
use Rattle.ms_grammar.specs.declared.line.Line.{Line}
use Rattle.ms_grammar.specs.declared.line.Line.TheVariants as said
use Rattle.ms_grammar.specs.declared.line.Head.{Head}
use Rattle.ms_grammar.specs.declared.line.RawIndex.{RawIndex}
use Rattle.ms_grammar.specs.declared.line.RawInst.{RawInst}
use Rattle.ms_grammar.specs.declared.line.RawInst.TheVariants.{Alloca, Gep, Step, Load, Store, Copy, Call, Bin, Cmp, Select, Cast, Phi}
use Rattle.ms_line.specs.Sorts.{sort_of}
use Rattle.ms_line.specs.declared.sort.Sort.{Sort}
use Rattle.ms_line.specs.declared.sort.Sort.TheVariants as sort
use Rattle.ms_read.specs.Places.{next_place, counted, behind, outset, AreFew, Lead, is_inst}
use Rattle.ms_read.specs.Shape.{is_define, is_term, open_blocks}
use Rattle.ms_read.specs.Told.{IsSaid, IsPlaced, sorts_of}
use Rattle.ms_read.specs.declared.place.Place.{Place}
use Rattle.ms_read.specs.declared.place.Place.TheVariants.{Outside, Begun, Front, Inner, Ended}
use Rattle.ms_read.specs.declared.place.Progress.{Progress}
use Rattle.ms_resolve.specs.Shape.{LabelLine, InstLine, BlockLines, FuncLines, ItemLines, plain, body, label_lines, inst_line, block_lines, func_lines, item_lines, IsItem}
use Rattle.ms_resolve.specs.Scope.{Scope, index_of, inst_of, local_behind, locals_behind, insts_from, blocks_from}
use Rattle.ms_resolve.specs.Faults.{IsIn}
use Rattle.ms_resolve.specs.Module.{funcs_of, bodies_in, func_names_in, global_names_in}
use Rattle.ms_validity.specs.Cause.{IsAccepted}
use Rattle.ms_validity.specs.Faults.{body_there, bodies_there}
use Rattle.ms_validity.proofs.BuiltLemmas.{built_at}
use Rattle.ms_validity.proofs.FaultLemmas.{scope_in, built, body_at, func_in, inst_in}
use Rattle.ms_validity.proofs.ListLemmas.{in_nil, in_one, in_here, in_there, in_left, in_append, in_flat, flat_in}
use Rattle.ms_valid.specs.Limits as held
use Rattle.ms_valid.specs.Limits.{IsShortName, IsNearTerm, insts_of, IsFuncWithin, IsModuleWithin}
use Rattle.ms_valid.proofs.Spelled.{is_inside, kept_same}
use Rattle.ms_valid.proofs.Places.{by_sort, split_at}
use Rattle.ms_valid.proofs.Sound.{each_in}
use Rattle.ms_valid.proofs.Words.{IsOfWords, made_named, are_named}

-- ---- one line

short_name : (n : Name) → IsShort (name_text n) → IsShortName n
short_name (Word text) h = h
short_name (Number k) h = tt
short_name Absent h = tt

of_short : IsOfWords IsShortName
of_short = record { number = λ n. tt; absent = tt }

terms_near : (s : Scope) (terms : List RawIndex) → Each IsSmallTerm terms → Each IsNearTerm (map (index_of s) terms)
terms_near s [] h = tt
terms_near s (t ∷ terms) h = (h.0, terms_near s terms h.1)

small_of : (s : Scope) (i : RawInst) → IsSmallInst i → held.IsSmall (inst_of s i)
small_of s (Alloca size head rest) h = h
small_of s (Gep base offset head index rest) h = h
small_of s (Step base offset terms head index rest) h = (h.0, terms_near s terms h.1)
small_of s (Load ty ptr rest) h = h
small_of s (Store ty val ptr rest) h = h
small_of s (Copy to from len head last rest) h = h
small_of s (Call callee ret args head last rest) h = h
small_of s (Bin op flags ty a b rest) h = h
small_of s (Cmp pred flags ty a b rest) h = h
small_of s (Select c ty a b rest) h = h
small_of s (Cast op flags from a to rest) h = h
small_of s (Phi ty entries rest) h = h

-- a line of a function is within the limits as it is kept
within_it : (line : Line) (h : IsSaid line) → is_inside line ≡ true → IsWithinLimits line
within_it line h t = subst IsWithinLimits (kept_same h.read.written line h.read.kept t) h.read.within

params_short : (ps : List Param) → Each IsShort (flat_map names_of_param ps) → Each (λ (p : Param). IsShortName p.name) ps
params_short [] h = tt
params_short (p ∷ ps) h = (short_name p.name h.0, params_short ps h.1)

abbrev kept_head : Head → Head
kept_head head = record head { params = map without_name head.params }

-- the name of a line outside functions
declared_short : (head : Head) (written : Line) → said.Declare head ≡ kept_of written → IsWithinLimits written → IsShort head.name
declared_short head (said.Declare own) e h = let same : head ≡ kept_head own = cc in subst (λ (x : Head). IsShort x.name) (sym same) h.0.0
declared_short head said.Empty e h = cc
declared_short head said.Close e h = cc
declared_short head (said.Kept t) e h = cc
declared_short head (said.Group n t) e h = cc
declared_short head (said.GlobalVar w t) e h = cc
declared_short head (said.Label w) e h = cc
declared_short head (said.Define own) e h = cc
declared_short head (said.Inst w inst) e h = cc
declared_short head (said.Term term) e h = cc

global_short : (name text : List ℕ) (written : Line) → said.GlobalVar name text ≡ kept_of written → IsWithinLimits written → IsShort name
global_short name text (said.GlobalVar w t) e h = let same : name ≡ w = cc in subst IsShort (sym same) h.0.0
global_short name text said.Empty e h = cc
global_short name text said.Close e h = cc
global_short name text (said.Kept t) e h = cc
global_short name text (said.Group n t) e h = cc
global_short name text (said.Declare own) e h = cc
global_short name text (said.Label w) e h = cc
global_short name text (said.Define own) e h = cc
global_short name text (said.Inst w inst) e h = cc
global_short name text (said.Term term) e h = cc

-- ---- counts along lines

lead_split : (at : Progress) (xs ys : List Sort) (end : Progress) → Lead at (xs ++ ys) end → (mid : Progress) × Lead at xs mid × Lead mid ys end
lead_split at [] ys end h = (at, refl, h)
lead_split at (x ∷ xs) ys end h = let r = lead_split h.0 xs ys end h.3 in (r.0, (h.0, h.1, h.2, r.1), r.2)

lead_few : (at : Progress) (sorts : List Sort) (end : Progress) → AreFew at → Lead at sorts end → AreFew end
lead_few at [] end few h = subst AreFew h few
lead_few at (x ∷ xs) end few h = lead_few h.0 xs end h.2 h.3

few_outset : AreFew outset
few_outset = (omega arith, omega arith, omega arith)

define_begun : (p q : Place) → next_place p sort.Define ≡ Some q → open_blocks q ≡ 0
define_begun Outside q e = let same : Begun ≡ q = cc in ap open_blocks (sym same)
define_begun Begun q e = cc
define_begun (Front first) q e = cc
define_begun (Inner first) q e = cc
define_begun Ended q e = cc

-- behind a define line
record IsBegun (at : Progress) : Type 0 where
  blocks : at.blocks ≡ 0
  insts : at.insts ≡ 0
  none_open : open_blocks at.place ≡ 0

begun_by : (at next : Progress) (o : Option Place) → ((q : Place) → o ≡ Some q → open_blocks q ≡ 0) → option_map (counted at sort.Define) o ≡ Some next → IsBegun next
begun_by at next None none e = cc
begun_by at next (Some q) none e =
    let same : counted at sort.Define q ≡ next = cc in
    subst IsBegun same (record { blocks = refl; insts = refl; none_open = none q refl })

abbrev Functions : Type 0
Functions = (sorts : List Sort) (at end : Progress) → Lead at sorts end → end.functions ≡ at.functions + count_by is_define sorts

abbrev Insts : Type 0
Insts = (sorts : List Sort) (at end : Progress) → Each (λ (s : Sort). s ≢ sort.Define) sorts → Lead at sorts end → end.insts ≡ at.insts + count_by is_inst sorts

abbrev Blocks : Type 0
Blocks = (sorts : List Sort) (at end : Progress) → Each (λ (s : Sort). s ≢ sort.Define) sorts → Lead at sorts end
    → end.blocks + open_blocks at.place ≡ at.blocks + count_by is_term sorts + open_blocks end.place

abbrev one_if : Bool → ℕ
one_if b = cond b 1 0

count_cons : (p : Sort → Bool) (s : Sort) (sorts : List Sort) → count_by p (s ∷ sorts) ≡ one_if (p s) + count_by p sorts
count_cons p s sorts = sum_by-cons (λ t. cond (p t) 1 0) s sorts

count_append : (p : Sort → Bool) (xs ys : List Sort) → count_by p (xs ++ ys) ≡ count_by p xs + count_by p ys
count_append p xs ys = sum_by-append (λ t. cond (p t) 1 0) xs ys

abbrev sort_at : ℕ × Line → Sort
sort_at entry = sort_of entry.1

lines_append : (p : Sort → Bool) (xs ys : List (ℕ × Line)) → count_by p (sorts_of (xs ++ ys)) ≡ count_by p (sorts_of xs) + count_by p (sorts_of ys)
lines_append p xs ys = ap (count_by p) (map-append sort_at xs ys) ∙ count_append p (sorts_of xs) (sorts_of ys)

-- how many instructions and terminators lines have, and that none is a define line
record Counted (lines : List (ℕ × Line)) (insts terms : ℕ) : Type 0 where
  insts_are : count_by is_inst (sorts_of lines) ≡ insts
  terms_are : count_by is_term (sorts_of lines) ≡ terms
  inside : Each (λ (s : Sort). s ≢ sort.Define) (sorts_of lines)

each_and : {X : Type 0} (P : X → Type 0) (xs ys : List X) → Each P xs → Each P ys → Each P (xs ++ ys)
each_and P [] ys h k = k
each_and P (x ∷ xs) ys h k = (h.0, each_and P xs ys h.1 k)

both_counted : (xs ys : List (ℕ × Line)) (i j s t : ℕ) → Counted xs i s → Counted ys j t → Counted (xs ++ ys) (i + j) (s + t)
both_counted xs ys i j s t h k =
    let insts = lines_append is_inst xs ys in
    let terms = lines_append is_term xs ys in
    let a = h.insts_are in
    let b = k.insts_are in
    let c = h.terms_are in
    let d = k.terms_are in
    record {
      insts_are = insts ∙ omega arith;
      terms_are = terms ∙ omega arith;
      inside =
          subst (λ (ss : List Sort). Each (λ (x : Sort). x ≢ sort.Define) ss) (sym (map-append sort_at xs ys)) (each_and (λ (x : Sort). x ≢ sort.Define) (sorts_of xs) (sorts_of ys) h.inside k.inside);
    }

none_counted : Counted [] 0 0
none_counted = record { insts_are = refl; terms_are = refl; inside = tt }

one_counted : (n : ℕ) (line : Line) (i t : ℕ) → one_if (is_inst (sort_of line)) ≡ i → one_if (is_term (sort_of line)) ≡ t → sort_of line ≢ sort.Define → Counted ((n, line) ∷ []) i t
one_counted n line i t a b inside = record {
  insts_are = count_cons is_inst (sort_of line) [] ∙ omega (arith, a);
  terms_are = count_cons is_term (sort_of line) [] ∙ omega (arith, b);
  inside = (inside, tt);
}

inst_counted : (x : InstLine) → Counted (inst_line x ∷ []) 1 0
inst_counted x =
    one_counted x.line (said.Inst x.name x.inst) 1 0
    (by_sort (λ (s : Sort). one_if (is_inst s) ≡ 1) refl refl refl x.inst)
    (by_sort (λ (s : Sort). one_if (is_term s) ≡ 0) refl refl refl x.inst)
    (by_sort (λ (s : Sort). s ≢ sort.Define) (λ e. cc) (λ e. cc) (λ e. cc) x.inst)

insts_counted : (xs : List InstLine) → Counted (map inst_line xs) (length xs) 0
insts_counted [] = none_counted
insts_counted (x ∷ xs) =
    let same : 1 + length xs ≡ suc (length xs) = omega arith in
    subst (λ n. Counted (map inst_line (x ∷ xs)) n 0) same (both_counted (inst_line x ∷ []) (map inst_line xs) 1 (length xs) 0 0 (inst_counted x) (insts_counted xs))

label_counted : (l : Option LabelLine) → Counted (label_lines l) 0 0
label_counted None = none_counted
label_counted (Some l) = one_counted l.line (said.Label l.name) 0 0 refl refl (λ e. cc)

abbrev many : List BlockLines → ℕ
many [] = 0
many (b ∷ bs) = length b.insts + many bs

block_counted : (b : BlockLines) → Counted (block_lines b) (length b.insts) 1
block_counted b =
    let all : Counted (block_lines b) ((0 + length b.insts) + 0) ((0 + 0) + 1) =
    both_counted (label_lines b.label ++ map inst_line b.insts) ((b.end.line, said.Term b.end.term) ∷ []) (0 + length b.insts) 0 (0 + 0) 1
    (both_counted (label_lines b.label) (map inst_line b.insts) 0 (length b.insts) 0 0 (label_counted b.label) (insts_counted b.insts))
    (one_counted b.end.line (said.Term b.end.term) 0 1 refl refl (λ e. cc)) in
    let same : (0 + length b.insts) + 0 ≡ length b.insts = omega arith in
    subst (λ n. Counted (block_lines b) n 1) same all

blocks_counted : (bs : List BlockLines) → Counted (flat_map block_lines bs) (many bs) (length bs)
blocks_counted [] = none_counted
blocks_counted (b ∷ bs) =
    let same : 1 + length bs ≡ suc (length bs) = omega arith in
    subst (λ n. Counted (flat_map block_lines (b ∷ bs)) (length b.insts + many bs) n) same
    (both_counted (block_lines b) (flat_map block_lines bs) (length b.insts) (many bs) 1 (length bs) (block_counted b) (blocks_counted bs))

inside_counted : (l : FuncLines) → Counted (flat_map block_lines l.blocks ++ (l.close, said.Close) ∷ []) (many l.blocks + 0) (length l.blocks + 0)
inside_counted l =
    both_counted (flat_map block_lines l.blocks) ((l.close, said.Close) ∷ []) (many l.blocks) 0 (length l.blocks) 0 (blocks_counted l.blocks) (one_counted l.close said.Close 0 0 refl refl (λ e. cc))

-- the lines of a function have few blocks and instructions
record IsFew (l : FuncLines) : Type 0 where
  insts : many l.blocks ≤ 4096
  blocks : length l.blocks ≤ 1024

few_by : Insts → Blocks → (at end : Progress) (l : FuncLines) → Lead at (sorts_of (func_lines l)) end → IsFew l
few_by insts blocks at end l h =
    let inside = flat_map block_lines l.blocks ++ (l.close, said.Close) ∷ [] in
    let begun = begun_by at h.0 (next_place at.place sort.Define) (define_begun at.place) h.1 in
    let c = inside_counted l in
    let few = lead_few h.0 (sorts_of inside) end h.2 h.3 in
    let all_insts = insts (sorts_of inside) h.0 end c.inside h.3 in
    let all_blocks = blocks (sorts_of inside) h.0 end c.inside h.3 in
    let a = begun.insts in
    let b = begun.blocks in
    let o = begun.none_open in
    let i = c.insts_are in
    let t = c.terms_are in
    let few_insts = few.2 in
    let few_blocks = few.1 in
    record { insts = omega arith; blocks = omega arith }

func_few : Insts → Blocks → (items : List ItemLines) (l : FuncLines) → IsPlaced (sorts_of (flat_map item_lines items)) → IsIn items (body l) → IsFew l
func_few insts blocks items l placed among =
    let s = split_at item_lines items (body l) among in
    let lines : List (ℕ × Line) = func_lines l ++ s.1 in
    let sorts : sorts_of (flat_map item_lines items) ≡ sorts_of s.0 ++ (sorts_of (func_lines l) ++ sorts_of s.1) =
    ap sorts_of s.2 ∙ map-append sort_at s.0 lines ∙ ap (λ (ss : List Sort). sorts_of s.0 ++ ss) (map-append sort_at (func_lines l) s.1) in
    let lead = subst (λ (ss : List Sort). Lead outset ss placed.end) sorts placed.lead in
    let front = lead_split outset (sorts_of s.0) (sorts_of (func_lines l) ++ sorts_of s.1) placed.end lead in
    let own = lead_split front.0 (sorts_of (func_lines l)) (sorts_of s.1) placed.end front.2 in
    few_by insts blocks front.0 own.0 l own.1

-- functions are define lines
none_defines : (sorts : List Sort) → Each (λ (s : Sort). s ≢ sort.Define) sorts → count_by is_define sorts ≡ 0
none_defines [] h = refl
none_defines (s ∷ sorts) h = count_cons is_define s sorts ∙ (let one = none s h.0 in let rest = none_defines sorts h.1 in omega arith)
  where
    none : (s : Sort) → s ≢ sort.Define → one_if (is_define s) ≡ 0
    none sort.Define n = absurd (n refl)
    none sort.Blank n = refl
    none sort.Item n = refl
    none sort.Close n = refl
    none sort.Label n = refl
    none sort.Phi n = refl
    none sort.Alloca n = refl
    none sort.Other n = refl
    none sort.Term n = refl

plain_none : (line : Line) → IsItem (plain 0 line) → one_if (is_define (sort_of line)) ≡ 0
plain_none (said.Kept text) h = refl
plain_none (said.Group number text) h = refl
plain_none (said.GlobalVar name text) h = refl
plain_none (said.Declare head) h = refl
plain_none said.Empty h = cc
plain_none said.Close h = cc
plain_none (said.Label name) h = cc
plain_none (said.Define head) h = cc
plain_none (said.Inst name i) h = cc
plain_none (said.Term t) h = cc

defines : (items : List ItemLines) → Each IsItem items → count_by is_define (sorts_of (flat_map item_lines items)) ≡ length (funcs_of items)
defines [] h = refl
defines (plain n line ∷ items) h = count_cons is_define (sort_of line) (sorts_of (flat_map item_lines items)) ∙ (let one = plain_none line h.0 in let rest = defines items h.1 in omega arith)
defines (body l ∷ items) h =
    let inside = flat_map block_lines l.blocks ++ (l.close, said.Close) ∷ [] in
    let none = none_defines (sorts_of inside) (inside_counted l).inside in
    let first = count_cons is_define sort.Define (sorts_of inside) in
    let rest = defines items h.1 in
    lines_append is_define (func_lines l) (flat_map item_lines items) ∙ omega arith

-- ---- a function

blocks_many : (s : Scope) (b n l : ℕ) (bs : List BlockLines) → length (blocks_from s b n l bs) ≡ length bs
blocks_many s b n l [] = refl
blocks_many s b n l (y ∷ bs) = ap suc (blocks_many s (suc b) (n + length y.insts) (locals_behind l y.insts) bs)

insts_many : (s : Scope) (n l : ℕ) (xs : List InstLine) → length (insts_from s n l xs) ≡ length xs
insts_many s n l [] = refl
insts_many s n l (x ∷ xs) = ap suc (insts_many s (suc n) (local_behind l x) xs)

all_many : (s : Scope) (b n l : ℕ) (bs : List BlockLines) → length (flat_map insts_of (blocks_from s b n l bs)) ≡ many bs
all_many s b n l [] = refl
all_many s b n l (y ∷ bs) =
    let one = insts_many s n l y.insts in
    let rest = all_many s (suc b) (n + length y.insts) (locals_behind l y.insts) bs in
    length-append (insts_from s n l y.insts) (flat_map insts_of (blocks_from s (suc b) (n + length y.insts) (locals_behind l y.insts) bs)) ∙ omega arith

-- each function of the items is a body
bodies_many : (scope : FuncLines → Scope) (spare : List ℕ → ℕ) (items : List ItemLines) → length (flat_map body_there (flat_map (bodies_in scope spare) items)) ≡ length (funcs_of items)
bodies_many scope spare [] = refl
bodies_many scope spare (body l ∷ items) = ap suc (bodies_many scope spare items)
bodies_many scope spare (plain n (said.Declare head) ∷ items) = bodies_many scope spare items
bodies_many scope spare (plain n (said.Kept text) ∷ items) = bodies_many scope spare items
bodies_many scope spare (plain n (said.Group number text) ∷ items) = bodies_many scope spare items
bodies_many scope spare (plain n (said.GlobalVar name text) ∷ items) = bodies_many scope spare items
bodies_many scope spare (plain n said.Empty ∷ items) = bodies_many scope spare items
bodies_many scope spare (plain n said.Close ∷ items) = bodies_many scope spare items
bodies_many scope spare (plain n (said.Label name) ∷ items) = bodies_many scope spare items
bodies_many scope spare (plain n (said.Define head) ∷ items) = bodies_many scope spare items
bodies_many scope spare (plain n (said.Inst name i) ∷ items) = bodies_many scope spare items
bodies_many scope spare (plain n (said.Term t) ∷ items) = bodies_many scope spare items

module _ (draft : List (ℕ × Line)) (m : ModuleState) (said_are : Each (λ (entry : ℕ × Line). IsSaid entry.1) draft) (a : IsAccepted draft m) (placed : IsPlaced (sorts_of draft))
    (functions : Functions) (insts : Insts) (blocks : Blocks) where
  line_said : (n : ℕ) (line : Line) → IsIn (flat_map item_lines a.items) (n, line) → IsSaid line
  line_said n line i = each_in (λ (entry : ℕ × Line). IsSaid entry.1) draft (n, line) said_are (subst (λ (d : List (ℕ × Line)). IsIn d (n, line)) (sym a.named.shape.lines) i)

  func_line : (l : FuncLines) (n : ℕ) (line : Line) → IsIn a.items (body l) → IsIn (func_lines l) (n, line) → IsSaid line
  func_line l n line il i = line_said n line (flat_in item_lines a.items (body l) (n, line) il i)

  placed_items : IsPlaced (sorts_of (flat_map item_lines a.items))
  placed_items = subst (λ (d : List (ℕ × Line)). IsPlaced (sorts_of d)) a.named.shape.lines placed

  label_line : (l : FuncLines) → IsIn a.items (body l) → (b : BlockLines) → IsIn l.blocks b → (y : LabelLine) → b.label ≡ Some y → IsShortName y.name
  label_line l il b ib y e =
      let among =
      in_there (l.line, said.Define l.head) (flat_map block_lines l.blocks ++ (l.close, said.Close) ∷ []) (y.line, said.Label y.name)
      (in_left (flat_map block_lines l.blocks) ((l.close, said.Close) ∷ []) (y.line, said.Label y.name)
      (flat_in block_lines l.blocks b (y.line, said.Label y.name) ib
      (in_left (label_lines b.label ++ map inst_line b.insts) ((b.end.line, said.Term b.end.term) ∷ []) (y.line, said.Label y.name)
      (in_left (label_lines b.label) (map inst_line b.insts) (y.line, said.Label y.name)
      (subst (λ o. IsIn (label_lines o) (y.line, said.Label y.name)) (sym e) (in_here (y.line, said.Label y.name) [])))))) in
      short_name y.name (within_it (said.Label y.name) (func_line l y.line (said.Label y.name) il among) refl).0.0

  inst_within : (l : FuncLines) → IsIn a.items (body l) → (b : BlockLines) (x : InstLine) → IsIn l.blocks b → IsIn b.insts x → IsWithinLimits (said.Inst x.name x.inst)
  inst_within l il b x ib ix = within_it (said.Inst x.name x.inst) (func_line l x.line (said.Inst x.name x.inst) il (inst_in l b x ib ix)) refl

  func_within : (l : FuncLines) → IsIn a.items (body l) → IsFuncWithin (built a.items m a.named.whole l)
  func_within l il =
      let s = scope_in a.items m a.named.whole l in
      let few = func_few insts blocks a.items l placed_items il in
      let define = within_it (said.Define l.head) (func_line l l.line (said.Define l.head) il (in_here (l.line, said.Define l.head) (flat_map block_lines l.blocks ++ (l.close, said.Close) ∷ []))) refl in
      record {
        names = are_named IsShortName of_short s (a.named.whole.spare l.head.name) l refl refl
            (made_named IsShortName of_short l (params_short l.head.params define.0.1) (label_line l il) (λ b x ib ix. short_name x.name (inst_within l il b x ib ix).0.0));
        blocks = subst (λ n. n ≤ 1024) (sym (blocks_many s 0 0 (length l.head.params) l.blocks)) few.blocks;
        insts = subst (λ n. n ≤ 4096) (sym (all_many s 0 0 (length l.head.params) l.blocks)) few.insts;
        small = λ b k x found.
            let r = built_at s 0 0 (length l.head.params) l.blocks b k x found in
            subst held.IsSmall (sym r.4) (small_of s r.1.inst (inst_within l il r.0 r.1 (b, r.2) (k, r.3)).1);
      }

  -- names of functions and globals
  func_short : (name : List ℕ) (i : ItemLines) → IsIn a.items i → IsIn (func_names_in i) name → IsShort name
  func_short name (plain n (said.Declare head)) ii among =
      let h = line_said n (said.Declare head) (flat_in item_lines a.items (plain n (said.Declare head)) (n, said.Declare head) ii (in_here (n, said.Declare head) [])) in
      subst IsShort (in_one head.name name among) (declared_short head h.read.written h.read.kept h.read.within)
  func_short name (body l) ii among =
      let define = within_it (said.Define l.head) (func_line l l.line (said.Define l.head) ii (in_here (l.line, said.Define l.head) (flat_map block_lines l.blocks ++ (l.close, said.Close) ∷ []))) refl in
      subst IsShort (in_one l.head.name name among) define.0.0
  func_short name (plain n (said.Kept text)) ii among = absurd (in_nil name among)
  func_short name (plain n (said.Group number text)) ii among = absurd (in_nil name among)
  func_short name (plain n (said.GlobalVar g text)) ii among = absurd (in_nil name among)
  func_short name (plain n said.Empty) ii among = absurd (in_nil name among)
  func_short name (plain n said.Close) ii among = absurd (in_nil name among)
  func_short name (plain n (said.Label g)) ii among = absurd (in_nil name among)
  func_short name (plain n (said.Define head)) ii among = absurd (in_nil name among)
  func_short name (plain n (said.Inst g i)) ii among = absurd (in_nil name among)
  func_short name (plain n (said.Term t)) ii among = absurd (in_nil name among)

  glob_short : (name : List ℕ) (i : ItemLines) → IsIn a.items i → IsIn (global_names_in i) name → IsShort name
  glob_short name (plain n (said.GlobalVar g text)) ii among =
      let h = line_said n (said.GlobalVar g text) (flat_in item_lines a.items (plain n (said.GlobalVar g text)) (n, said.GlobalVar g text) ii (in_here (n, said.GlobalVar g text) [])) in
      subst IsShort (in_one g name among) (global_short g text h.read.written h.read.kept h.read.within)
  glob_short name (body l) ii among = absurd (in_nil name among)
  glob_short name (plain n (said.Declare head)) ii among = absurd (in_nil name among)
  glob_short name (plain n (said.Kept text)) ii among = absurd (in_nil name among)
  glob_short name (plain n (said.Group number text)) ii among = absurd (in_nil name among)
  glob_short name (plain n said.Empty) ii among = absurd (in_nil name among)
  glob_short name (plain n said.Close) ii among = absurd (in_nil name among)
  glob_short name (plain n (said.Label g)) ii among = absurd (in_nil name among)
  glob_short name (plain n (said.Define head)) ii among = absurd (in_nil name among)
  glob_short name (plain n (said.Inst g i)) ii among = absurd (in_nil name among)
  glob_short name (plain n (said.Term t)) ii among = absurd (in_nil name among)

  all_short : (name : List ℕ) → IsIn (m.names.funcs ++ m.names.globals) name → IsShort name
  all_short name among =
      let names : NamesState = record { funcs = flat_map func_names_in a.items; globals = flat_map global_names_in a.items } in
      let here : IsIn (names.funcs ++ names.globals) name = subst (λ (ns : NamesState). IsIn (ns.funcs ++ ns.globals) name) (ap (λ (x : ModuleState). x.names) a.named.whole.module_is) among in
      ⊎_elim
      (λ (f : IsIn names.funcs name). let r = in_flat func_names_in a.items name f in func_short name r.0 r.1 r.2)
      (λ (g : IsIn names.globals name). let r = in_flat global_names_in a.items name g in glob_short name r.0 r.1 r.2)
      (in_append names.funcs names.globals name here)

  few_functions : length (bodies_there m) ≤ 256
  few_functions =
      let few = lead_few outset (sorts_of (flat_map item_lines a.items)) placed_items.end few_outset placed_items.lead in
      let all = functions (sorts_of (flat_map item_lines a.items)) outset placed_items.end placed_items.lead in
      let count = defines a.items a.named.shape.each in
      let bodies : length (bodies_there m) ≡ length (funcs_of a.items) = ap (λ (x : ModuleState). length (bodies_there x)) a.named.whole.module_is ∙ bodies_many (scope_in a.items m a.named.whole) a.named.whole.spare a.items in
      let most = few.0 in
      omega arith

  pub module_within : IsModuleWithin m
  module_within = record {
    functions = few_functions;
    names = all_short;
    bodies = λ n f e.
        let on : IsIn (bodies_there m) f = flat_in body_there m.bodies (Some f) f (n, e) (in_here f []) in
        let r = body_at a.items m a.named.whole on.0 f on.1 in
        subst IsFuncWithin r.2 (func_within r.0 (func_in a.items on.0 r.0 r.1));
  }
