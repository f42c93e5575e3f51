-- The printed lines of an accepted function: rows say them, and they may stand behind one another.
use Rattle.std.proofs.Common.{◌≡◌, ◌≤◌, ◌<◌, ◌+◌, ◌&&◌, ◌^◌, ℕ, zero, suc, Bool, true, false, List, [], ◌∷◌, ◌++◌, Option, Some, None, length, map, refl, sym, ap, subst, ◌∙◌, arith, append_assoc}
use Rattle.std.specs.Prelude.{slice_get}
use Rattle.std.specs.List.{flat_map}
use Rattle.std.proofs.lemmas.List.{map-append}
use Rattle.ms_ir.specs.declared.names.Name.{Name}
use Rattle.ms_ir.specs.declared.names.Name.TheVariants.{Word, Number, Absent}
use Rattle.ms_ir.specs.declared.names.Param.{Param}
use Rattle.ms_ir.specs.Func.{Placed, Block, FuncState, insts_at}
use Rattle.ms_ir.specs.Module.{ModuleState}
use Rattle.ms_ir.specs.Types.{is_alloca, is_phi}
use Rattle.ms_ir.specs.SoundFunc.{IsSoundFunc}
use Rattle.ms_grammar.specs.Kept.{Each}
use Rattle.ms_grammar.specs.Grammar.{without_name}
use Rattle.ms_grammar.specs.Form.{printed, word_part}
use Rattle.ms_grammar.specs.Fits.{IsNamed, MayBeNamed, IsParam}
use Rattle.ms_grammar.specs.declared.keyword.Keyword.TheVariants as word
use Rattle.ms_grammar.specs.declared.line.Line.{Line}
use Rattle.ms_grammar.specs.declared.line.Line.TheVariants as said
use Rattle.ms_grammar.specs.declared.line.RawInst.{RawInst}
use Rattle.ms_grammar.specs.declared.line.RawInst.TheVariants.{Alloca, Gep, Step, Load, Store, Copy, Call, Bin, Cmp, Select, Cast, Phi}
use Rattle.ms_line.specs.Sorts.{sort_of, sort_of_inst}
use Rattle.ms_line.specs.declared.sort.Sort.{Sort}
use Rattle.ms_line.specs.declared.sort.Sort.TheVariants as sort
use Rattle.ms_read.specs.Places.{next_place}
use Rattle.ms_read.specs.Shape.{Walk}
use Rattle.ms_read.specs.declared.place.Place.{Place}
use Rattle.ms_read.specs.declared.place.Place.TheVariants.{Outside, Begun, Front, Inner, Ended}
use Rattle.ms_reread.proofs.Ends.{Calm}
use Rattle.ms_reread.proofs.Pieces.{Next, behind, token_back}
use Rattle.ms_reread.proofs.Tokens.{word_whole, label_whole, colon_calm}
use Rattle.ms_resolve.specs.Shape.{LabelLine, InstLine, BlockLines, FuncLines, label_lines, inst_line, block_lines, func_lines as lines_in}
use Rattle.ms_resolve.specs.Scope.{Scope, inst_of}
use Rattle.ms_print.specs.Numbering.{shown_name, free_after, shown_params, free_after_params, free_after_inst, free_after_block}
use Rattle.ms_again.proofs.Again.{label_again}
use Rattle.ms_again.proofs.Fine.{each_join, each_first, each_second}
use Rattle.ms_again.proofs.Lines.{empty_fine}
use Rattle.ms_again.proofs.Placed.{inst_sort, IsStart, inst_starts}
use Rattle.ms_again.proofs.Quiet.{IsPrinted, printed_by}
use Rattle.ms_again.proofs.Right.{shown_next}
use Rattle.ms_again.proofs.Sites.{IsEntryBy, IsBlockBy, IsFuncBy}
use Rattle.ms_valid.specs.Func.{IsWordOrNone}
use Rattle.ms_valid.specs.Func as words
use Rattle.ms_validity.proofs.ListLemmas.{in_left, in_right, flat_in, map_get, in_here}
use Rattle.ms_reprint.proofs.Plain.{settled_phi, settled_alloca}
use Rattle.ms_reprint.proofs.Lines.{ren, LineOf, BlockOf, insts_lines, lines_of_block, blocks_lines, insts_many, inst_less, block_less}
use Rattle.ms_reprint.proofs.Names.{AreGiven, target_of, named_shown}
use Rattle.ms_reprint.proofs.Said.{inst_said, term_said, define_said}
use Rattle.ms_reprint.proofs.Built.{AllInsts, BlockFacts, AllBlocks}
use Rattle.ms_reprint.proofs.Faults.{Lined, func_lines, block_insts}
use Rattle.ms_reprint.proofs.Own.{own_inst, own_label, own_block, own_blocks, own_func}

-- ---- lines that are written anew

colon_fresh : Next false [] (word_part word.Colon ∷ [])
colon_fresh = record {
  lead = λ old tokens o spelled rest before. subst (λ (t : List ℕ). Calm ((t ++ []) ++ rest)) (sym colon_calm.is_mark.is) colon_calm.calm;
  back = token_back {was = []} (word_whole word.Colon);
}

pub label_printed : (n : Name) → IsNamed n → IsPrinted (said.Label n)
label_printed n h = printed_by (printed said.Empty) said.Empty (said.Label n) empty_fine.whole.says (behind (token_back {was = []} (label_whole n h)) colon_fresh) h

pub close_printed : IsPrinted said.Close
close_printed = printed_by (printed said.Empty) said.Empty said.Close empty_fine.whole.says (token_back {was = []} (word_whole word.CloseBrace)) tt

-- ---- rows say the lines

named_may : (n : Name) → IsNamed n → MayBeNamed n
named_may (Word text) h = h
named_may (Number k) h = h
named_may Absent h = tt

params_named : (next : ℕ) (ps : List Param) → next + length ps ≤ 10 ^ 9 → ((k : ℕ) (p : Param) → slice_get ps k ≡ Some p → IsWordOrNone p.name) → Each IsParam (shown_params next ps)
params_named next [] few h = tt
params_named next (p ∷ ps) few h =
    let more = shown_next next p.name in
    (named_may (shown_name next p.name) (named_shown next p.name (omega arith) (h 0 p refl)), params_named (free_after next p.name) ps (omega arith) (λ k q e. h (suc k) q e))

label_said : (first : Bool) (next : ℕ) (n : Name) → next < 10 ^ 9 → IsWordOrNone n → Each (IsEntryBy IsPrinted) (label_lines (label_again first 0 next n))
label_said true next (Word text) few h = (label_printed (Word text) h, tt)
label_said true next (Number k) few h = tt
label_said true next Absent few h = tt
label_said false next n few h = (label_printed (shown_name next n) (named_shown next n few h), tt)

module _ (m : ModuleState) (f : FuncState) (given : AreGiven f) where
  insts_said : (next : ℕ) (xs : List Placed) (h : Each (LineOf m) xs) → AllInsts m f xs h → next + length xs ≤ 10 ^ 9 → ((k : ℕ) (x : Placed) → slice_get xs k ≡ Some x → IsWordOrNone x.name) →
      Each (λ (l : InstLine). IsPrinted (said.Inst l.name l.inst)) (insts_lines m (target_of f) next xs h)
  insts_said next [] h facts few words = tt
  insts_said next (x ∷ xs) h facts few words =
      let less = inst_less next x in (
        inst_said m f given (shown_name next x.name) x h.0 (λ e. named_shown next x.name (omega arith) (words 0 x refl)) facts.0.known,
        insts_said (free_after_inst next x) xs h.1 facts.1 (omega arith) (λ k y e. words (suc k) y e),
      )

  block_said : (first : Bool) (next : ℕ) (b : Block) (h : BlockOf m b) → BlockFacts m f b h → next + suc (length b.insts) ≤ 10 ^ 9 → IsWordOrNone b.name → ((k : ℕ) (x : Placed) → slice_get b.insts k ≡ Some x → IsWordOrNone x.name) →
      IsBlockBy IsPrinted (lines_of_block m (target_of f) first next b h)
  block_said first next b h facts few name words =
      let more = shown_next next b.name in
      record {
        labels = label_said first next b.name (omega arith) name;
        insts = insts_said (free_after next b.name) b.insts h.insts facts.insts (omega arith) words;
        term = term_said f given h.term.scope h.term.bytes h.term.line h.term.says facts.term;
      }

  blocks_said : (first : Bool) (next : ℕ) (bs : List Block) (h : Each (BlockOf m) bs) → AllBlocks m f bs h → next + insts_many bs ≤ 10 ^ 9 → ((b : ℕ) (z : Block) → slice_get bs b ≡ Some z → IsWordOrNone z.name) →
      ((b k : ℕ) (z : Block) (x : Placed) → slice_get bs b ≡ Some z → slice_get z.insts k ≡ Some x → IsWordOrNone x.name) → Each (IsBlockBy IsPrinted) (blocks_lines m (target_of f) first next bs h)
  blocks_said first next [] h facts few names words = tt
  blocks_said first next (b ∷ bs) h facts few names words =
      let less = block_less next b in (
        block_said first next b h.0 facts.0 (omega arith) (names 0 b refl) (λ k x e. words 0 k b x refl e),
        blocks_said false (free_after_block next b) bs h.1 facts.1 (omega arith) (λ c z e. names (suc c) z e) (λ c k z x e p. words (suc c) k z x e p),
      )

params_less : (next : ℕ) (ps : List Param) → free_after_params next ps ≤ next + length ps
params_less next [] = omega arith
params_less next (p ∷ ps) = let more = shown_next next p.name in let rest = params_less (free_after next p.name) ps in omega arith

bare_shown : (next : ℕ) (ps : List Param) → map without_name ps ≡ map without_name (shown_params next ps)
bare_shown next [] = refl
bare_shown next (p ∷ ps) = ap (λ (rest : List Param). without_name p ∷ rest) (bare_shown (free_after next p.name) ps)

pub func_said : (m : ModuleState) (f : FuncState) (w : Lined m f) → IsFuncBy IsPrinted (func_lines m f w)
func_said m f w =
    let few = w.given.few in
    let less = params_less 0 f.params in
    let a = w.accepted in
    let said_head = a.all_said.said_head in
    let params = map words.name_of_param f.params in
    let blocks = flat_map words.names_of_block f.blocks in
    record {
      define = define_said said_head.bytes a.all_said.head (shown_params 0 f.params) said_head.says (said_head.params ∙ bare_shown 0 f.params)
          (params_named 0 f.params (omega arith) (λ k p e. a.words p.name (in_left params blocks p.name (k, map_get words.name_of_param f.params k p e))));
      blocks = blocks_said m f w.given true (free_after_params 0 f.params) f.blocks w.blocks w.facts (omega arith)
          (λ b z e. a.words z.name (in_right params blocks z.name (flat_in words.names_of_block f.blocks z z.name (b, e) (in_here z.name (map words.name_of_inst z.insts)))))
          (λ b k z x e p. a.words x.name (in_right params blocks x.name (flat_in words.names_of_block f.blocks z x.name (b, e) (suc k, map_get words.name_of_inst z.insts k x p))));
      close = close_printed;
    }

-- ---- each line of the function, among the printed ones

each_own_insts : (P : Line → Type 0) (xs : List InstLine) → Each (λ (l : InstLine). P (said.Inst l.name l.inst)) xs → Each P (map own_inst xs)
each_own_insts P [] h = tt
each_own_insts P (x ∷ xs) h = (h.0, each_own_insts P xs h.1)

own_insts_each : (P : Line → Type 0) (xs : List InstLine) → Each P (map own_inst xs) → Each (IsEntryBy P) (map inst_line xs)
own_insts_each P [] h = tt
own_insts_each P (x ∷ xs) h = (h.0, own_insts_each P xs h.1)

own_label_each : (P : Line → Type 0) (first : Bool) (l : Option LabelLine) → Each P (own_label first l) → Each (IsEntryBy P) (label_lines l)
own_label_each P first None h = tt
own_label_each P true (Some l) h = (h.0, tt)
own_label_each P false (Some l) h = (h.1.0, tt)

each_own_label : (P : Line → Type 0) → P said.Empty → (first : Bool) (l : Option LabelLine) → Each (IsEntryBy P) (label_lines l) → Each P (own_label first l)
each_own_label P empty first None h = tt
each_own_label P empty true (Some l) h = (h.0, tt)
each_own_label P empty false (Some l) h = (empty, (h.0, tt))

each_own_blocks : (P : Line → Type 0) → P said.Empty → (first : Bool) (bs : List BlockLines) → Each (IsBlockBy P) bs → Each P (own_blocks first bs)
each_own_blocks P empty first [] h = tt
each_own_blocks P empty first (b ∷ bs) h =
    let end : List Line = said.Term b.end.term ∷ [] in
    each_join P (own_block first b) (own_blocks false bs)
    (each_join P (own_label first b.label ++ map own_inst b.insts) end
    (each_join P (own_label first b.label) (map own_inst b.insts) (each_own_label P empty first b.label h.0.labels) (each_own_insts P b.insts h.0.insts)) (h.0.term, tt))
    (each_own_blocks P empty false bs h.1)

pub each_own : (P : Line → Type 0) → P said.Empty → (f : FuncLines) → IsFuncBy P f → Each P (own_func f)
each_own P empty f h = (h.define, each_join P (own_blocks true f.blocks) (said.Close ∷ []) (each_own_blocks P empty true f.blocks h.blocks) (h.close, tt))

own_blocks_each : (P : Line → Type 0) (first : Bool) (bs : List BlockLines) → Each P (own_blocks first bs) → Each (IsEntryBy P) (flat_map block_lines bs)
own_blocks_each P first [] h = tt
own_blocks_each P first (b ∷ bs) h =
    let end : List Line = said.Term b.end.term ∷ [] in
    let here = each_first P (own_block first b) (own_blocks false bs) h in
    let front = each_first P (own_label first b.label ++ map own_inst b.insts) end here in
    let last = each_second P (own_label first b.label ++ map own_inst b.insts) end here in
    each_join (IsEntryBy P) (block_lines b) (flat_map block_lines bs)
    (each_join (IsEntryBy P) (label_lines b.label ++ map inst_line b.insts) ((b.end.line, said.Term b.end.term) ∷ [])
    (each_join (IsEntryBy P) (label_lines b.label) (map inst_line b.insts) (own_label_each P first b.label (each_first P (own_label first b.label) (map own_inst b.insts) front))
    (own_insts_each P b.insts (each_second P (own_label first b.label) (map own_inst b.insts) front))) (last.0, tt))
    (own_blocks_each P false bs (each_second P (own_block first b) (own_blocks false bs) h))

pub own_each : (P : Line → Type 0) (f : FuncLines) → Each P (own_func f) → Each (IsEntryBy P) (lines_in f)
own_each P f h =
    let close : List Line = said.Close ∷ [] in
    (h.0, each_join (IsEntryBy P) (flat_map block_lines f.blocks) ((f.close, said.Close) ∷ []) (own_blocks_each P true f.blocks (each_first P (own_blocks true f.blocks) close h.1)) ((each_second P (own_blocks true f.blocks) close h.1).0, tt))

-- ---- they may stand behind one another

pub walk_join : (at mid end : Place) (xs ys : List Sort) → Walk at xs mid → Walk mid ys end → Walk at (xs ++ ys) end
walk_join at mid end [] ys h k = subst (λ p. Walk p ys end) (sym h) k
walk_join at mid end (x ∷ xs) ys h k = (h.0, h.1, walk_join h.0 mid end xs ys h.2 k)

-- phis come first, and allocas in the first block
abbrev AreSorted : Bool → Bool → List Placed → Type 0
AreSorted first front [] = Unit {0}
AreSorted first front (x ∷ xs) = (is_phi x.inst ≡ true → front ≡ true) × (is_alloca x.inst ≡ true → first ≡ true) × AreSorted first (front && is_phi x.inst) xs

both : (a b : Bool) → a ≡ true → b ≡ true → (a && b) ≡ true
both true b h k = k
both false b h k = absurd (cc)

sorted_by : (first front : Bool) (xs : List Placed) →
    ((k : ℕ) (x : Placed) → slice_get xs k ≡ Some x → is_phi x.inst ≡ true → (front ≡ true) × ((j : ℕ) (y : Placed) → j < k → slice_get xs j ≡ Some y → is_phi y.inst ≡ true)) →
    ((k : ℕ) (x : Placed) → slice_get xs k ≡ Some x → is_alloca x.inst ≡ true → first ≡ true) → AreSorted first front xs
sorted_by first front [] phis allocas = tt
sorted_by first front (x ∷ xs) phis allocas = (
  λ t. (phis 0 x refl t).0,
  λ t. allocas 0 x refl t,
  sorted_by first (front && is_phi x.inst) xs
      (λ k y e t. let r = phis (suc k) y e t in (both front (is_phi x.inst) r.0 (r.1 0 x (omega arith) refl), λ j z less p. r.1 (suc j) z (omega arith) p))
      (λ k y e t. allocas (suc k) y e t),
)

abbrev place_of : Bool → Bool → Place
place_of first true = Front first
place_of first false = Inner first

step_phi : (first front : Bool) → front ≡ true → next_place (place_of first front) sort.Phi ≡ Some (Front first)
step_phi first true h = refl
step_phi first false h = absurd (cc)

step_alloca : (first front : Bool) → first ≡ true → next_place (place_of first front) sort.Alloca ≡ Some (Inner first)
step_alloca true true h = refl
step_alloca true false h = refl
step_alloca false front h = absurd (cc)

step_other : (first front : Bool) → next_place (place_of first front) sort.Other ≡ Some (Inner first)
step_other first true = refl
step_other first false = refl

step_term : (first front : Bool) → next_place (place_of first front) sort.Term ≡ Some Ended
step_term first true = refl
step_term first false = refl

not_front : (front : Bool) → (front && false) ≡ false
not_front true = refl
not_front false = refl

-- what an instruction's line is to places
walk_one : (first front : Bool) (i : RawInst) (s : Scope) (phi : is_phi (inst_of s i) ≡ true → front ≡ true) (alloca : is_alloca (inst_of s i) ≡ true → first ≡ true) →
    next_place (place_of first front) (sort_of_inst i) ≡ Some (place_of first (front && is_phi (inst_of s i)))
walk_one first front (Phi ty entries rest) s phi alloca = step_phi first front (phi refl) ∙ ap (λ (b : Bool). Some (place_of first (b && true))) (sym (phi refl))
walk_one first front (Alloca size head rest) s phi alloca = step_alloca first front (alloca refl) ∙ ap (λ (b : Bool). Some (place_of first b)) (sym (not_front front))
walk_one first front (Gep base offset head index rest) s phi alloca = step_other first front ∙ ap (λ (b : Bool). Some (place_of first b)) (sym (not_front front))
walk_one first front (Step base offset terms head index rest) s phi alloca = step_other first front ∙ ap (λ (b : Bool). Some (place_of first b)) (sym (not_front front))
walk_one first front (Load ty ptr rest) s phi alloca = step_other first front ∙ ap (λ (b : Bool). Some (place_of first b)) (sym (not_front front))
walk_one first front (Store ty v ptr rest) s phi alloca = step_other first front ∙ ap (λ (b : Bool). Some (place_of first b)) (sym (not_front front))
walk_one first front (Copy to from len head behind rest) s phi alloca = step_other first front ∙ ap (λ (b : Bool). Some (place_of first b)) (sym (not_front front))
walk_one first front (Call callee ret args head behind rest) s phi alloca = step_other first front ∙ ap (λ (b : Bool). Some (place_of first b)) (sym (not_front front))
walk_one first front (Bin op flags ty x y rest) s phi alloca = step_other first front ∙ ap (λ (b : Bool). Some (place_of first b)) (sym (not_front front))
walk_one first front (Cmp pred flags ty x y rest) s phi alloca = step_other first front ∙ ap (λ (b : Bool). Some (place_of first b)) (sym (not_front front))
walk_one first front (Select c ty x y rest) s phi alloca = step_other first front ∙ ap (λ (b : Bool). Some (place_of first b)) (sym (not_front front))
walk_one first front (Cast op flags from x to rest) s phi alloca = step_other first front ∙ ap (λ (b : Bool). Some (place_of first b)) (sym (not_front front))

walk_insts : (m : ModuleState) (f : FuncState) (first front : Bool) (next : ℕ) (xs : List Placed) (h : Each (LineOf m) xs) → AreSorted first front xs →
    Walk (place_of first front) (map sort_of (map own_inst (insts_lines m (target_of f) next xs h)) ++ sort.Term ∷ []) Ended
walk_insts m f first front next [] h sorted = (Ended, step_term first front, refl)
walk_insts m f first front next (x ∷ xs) h sorted =
    let i = h.0.said.line in
    let s = h.0.said.scope in
    let phi : is_phi (inst_of s i) ≡ is_phi x.inst = ap is_phi (sym h.0.said.is) ∙ settled_phi x.inst in
    let alloca : is_alloca (inst_of s i) ≡ is_alloca x.inst = ap is_alloca (sym h.0.said.is) ∙ settled_alloca x.inst in
    let step = ap (next_place (place_of first front)) (inst_sort (ren (target_of f) s) i) ∙ walk_one first front i s (λ t. sorted.0 (sym phi ∙ t)) (λ t. sorted.1 (sym alloca ∙ t))
    ∙ ap (λ (b : Bool). Some (place_of first (front && b))) phi in
    (place_of first (front && is_phi x.inst), step, walk_insts m f first (front && is_phi x.inst) (free_after_inst next x) xs h.1 sorted.2)

-- a first block without a label line begins as one behind it
begun_as : (s : Sort) → IsStart s → next_place Begun s ≡ next_place (Front true) s
begun_as sort.Phi h = refl
begun_as sort.Alloca h = refl
begun_as sort.Other h = refl
begun_as sort.Term h = refl
begun_as sort.Blank h = absurd h
begun_as sort.Item h = absurd h
begun_as sort.Define h = absurd h
begun_as sort.Close h = absurd h
begun_as sort.Label h = absurd h

begun_walk : (xs : List InstLine) → Walk (Front true) (map sort_of (map own_inst xs) ++ sort.Term ∷ []) Ended → Walk Begun (map sort_of (map own_inst xs) ++ sort.Term ∷ []) Ended
begun_walk [] h = (h.0, begun_as sort.Term tt ∙ h.1, h.2)
begun_walk (x ∷ xs) h = (h.0, begun_as (sort_of_inst x.inst) (inst_starts x.inst) ∙ h.1, h.2)

label_walk : (next : ℕ) (n : Name) (xs : List InstLine) → Walk (Front true) (map sort_of (map own_inst xs) ++ sort.Term ∷ []) Ended →
    Walk Begun (map sort_of (own_label true (label_again true 0 next n)) ++ (map sort_of (map own_inst xs) ++ sort.Term ∷ [])) Ended
label_walk next (Word text) xs h = (Front true, refl, h)
label_walk next (Number k) xs h = begun_walk xs h
label_walk next Absent xs h = begun_walk xs h

block_sorts : (first : Bool) (b : BlockLines) → map sort_of (own_block first b) ≡ map sort_of (own_label first b.label) ++ (map sort_of (map own_inst b.insts) ++ sort.Term ∷ [])
block_sorts first b =
    let end : List Line = said.Term b.end.term ∷ [] in
    map-append sort_of (own_label first b.label ++ map own_inst b.insts) end
    ∙ ap (λ (l : List Sort). l ++ sort.Term ∷ []) (map-append sort_of (own_label first b.label) (map own_inst b.insts))
    ∙ append_assoc (map sort_of (own_label first b.label)) (map sort_of (map own_inst b.insts)) (sort.Term ∷ [])

later_walk : (m : ModuleState) (f : FuncState) (next : ℕ) (bs : List Block) (h : Each (BlockOf m) bs) → ((k : ℕ) (b : Block) → slice_get bs k ≡ Some b → AreSorted false true b.insts) →
    Walk Ended (map sort_of (own_blocks false (blocks_lines m (target_of f) false next bs h))) Ended
later_walk m f next [] h sorted = refl
later_walk m f next (b ∷ bs) h sorted =
    let here = lines_of_block m (target_of f) false next b h.0 in
    let later = blocks_lines m (target_of f) false (free_after_block next b) bs h.1 in
    let one : Walk Ended (map sort_of (own_block false here)) Ended =
    subst (λ (ss : List Sort). Walk Ended ss Ended) (sym (block_sorts false here)) (Ended, refl, (Front false, refl, walk_insts m f false true (free_after next b.name) b.insts h.0.insts (sorted 0 b refl))) in
    subst (λ (ss : List Sort). Walk Ended ss Ended) (sym (map-append sort_of (own_block false here) (own_blocks false later)))
    (walk_join Ended Ended Ended (map sort_of (own_block false here)) (map sort_of (own_blocks false later)) one (later_walk m f (free_after_block next b) bs h.1 (λ k c e. sorted (suc k) c e)))

abbrev is_first : ℕ → Bool
is_first zero = true
is_first (suc k) = false

blocks_walk : (m : ModuleState) (f : FuncState) (next : ℕ) (bs : List Block) (h : Each (BlockOf m) bs) → 0 < length bs → ((k : ℕ) (b : Block) → slice_get bs k ≡ Some b → AreSorted (is_first k) true b.insts) →
    Walk Begun (map sort_of (own_blocks true (blocks_lines m (target_of f) true next bs h))) Ended
blocks_walk m f next [] h some sorted = absurd (omega arith)
blocks_walk m f next (b ∷ bs) h some sorted =
    let here = lines_of_block m (target_of f) true next b h.0 in
    let later = blocks_lines m (target_of f) false (free_after_block next b) bs h.1 in
    let one : Walk Begun (map sort_of (own_block true here)) Ended =
    subst (λ (ss : List Sort). Walk Begun ss Ended) (sym (block_sorts true here)) (label_walk next b.name here.insts (walk_insts m f true true (free_after next b.name) b.insts h.0.insts (sorted 0 b refl))) in
    subst (λ (ss : List Sort). Walk Begun ss Ended) (sym (map-append sort_of (own_block true here) (own_blocks false later)))
    (walk_join Begun Ended Ended (map sort_of (own_block true here)) (map sort_of (own_blocks false later)) one (later_walk m f (free_after_block next b) bs h.1 (λ k c e. sorted (suc k) c e)))

sorted_at : (f : FuncState) → IsSoundFunc f → (b : ℕ) (z : Block) (first : Bool) → (b ≡ 0 → first ≡ true) → slice_get f.blocks b ≡ Some z → AreSorted first true z.insts
sorted_at f sound b z first is at =
    let insts = block_insts f.blocks b z at in
    let there : (k : ℕ) (x : Placed) → slice_get z.insts k ≡ Some x → slice_get (insts_at f.blocks b) k ≡ Some x = λ k x e. ap (λ (xs : List Placed). slice_get xs k) insts ∙ e in
    sorted_by first true z.insts
    (λ k x e t. (refl, λ j y less p. (sound.insts b k x (there k x e)).phi t j y less (there j y p)))
    (λ k x e t. is ((sound.insts b k x (there k x e)).alloca t))

first_at : (b : ℕ) → b ≡ 0 → is_first b ≡ true
first_at zero e = refl
first_at (suc b) e = absurd (omega arith)

pub func_walk : (m : ModuleState) (f : FuncState) (w : Lined m f) → 0 < length f.blocks → Walk Outside (map sort_of (own_func (func_lines m f w))) Outside
func_walk m f w some =
    let F = func_lines m f w in
    let inside = own_blocks true F.blocks in
    let blocks = blocks_walk m f (free_after_params 0 f.params) f.blocks w.blocks some (λ k b e. sorted_at f w.accepted.sound k b (is_first k) (first_at k) e) in
    (Begun, refl, subst (λ (ss : List Sort). Walk Begun ss Outside) (sym (map-append sort_of inside (said.Close ∷ []))) (walk_join Begun Ended Outside (map sort_of inside) (sort.Close ∷ []) blocks (Outside, refl, refl)))
