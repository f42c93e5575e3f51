-- The items of a printed module: each line with the names that are printed, and with the number of its row.
use Rattle.std.proofs.Common.{◌≡◌, ◌+◌, ◌||◌, ℕ, suc, Bool, true, false, List, [], ◌∷◌, ◌++◌, Option, Some, None, map, length, if◌then◌else◌, refl, sym, ap, ◌∙◌, arith, append_assoc}
use Rattle.std.specs.Prelude.{slice_index_or}
use Rattle.std.specs.List.{flat_map}
use Rattle.ms_ir.specs.declared.names.Name.{Name}
use Rattle.ms_ir.specs.declared.names.Name.TheVariants.{Word, Number, Absent}
use Rattle.ms_grammar.specs.Kept.{Each}
use Rattle.ms_grammar.specs.Grammar.{kept_of}
use Rattle.ms_grammar.specs.declared.line.RawInst.{RawInst}
use Rattle.ms_grammar.specs.declared.line.RawInst.TheVariants.{Alloca, Gep, Step, Load, Store, Copy, Call, Bin, Cmp, Select, Cast, Phi}
use Rattle.ms_grammar.specs.declared.line.Line.{Line}
use Rattle.ms_grammar.specs.declared.line.Line.TheVariants as said
use Rattle.ms_line.specs.Sorts.{sort_of, sort_of_inst}
use Rattle.ms_read.specs.Places.{is_blank}
use Rattle.ms_read.specs.Draft.{numbered}
use Rattle.ms_read.specs.Draft as draft
use Rattle.ms_resolve.specs.Shape.{LabelLine, InstLine, BlockLines, FuncLines, ItemLines, plain, body, label_lines, inst_line, block_lines, func_lines, item_lines, IsItem, HasBlocks, HasLabel}
use Rattle.ms_resolve.specs.Made.{locals_of, blocks_of}
use Rattle.ms_resolve.specs.Scope.{number_of_name}
use Rattle.ms_print.specs.Numbering.{shown_name, free_after}
use Rattle.ms_again.proofs.Renaming.{Renaming, renamed_inst, renamed_term}
use Rattle.ms_again.proofs.Renamed.{with_params}
use Rattle.ms_again.proofs.Fine.{made_name}
use Rattle.ms_again.proofs.Names.{shown, label_name, inst_free, block_free, params_free, locals_listed, blocks_listed}

-- the name that is printed for each name of a function
abbrev pub renaming : FuncLines → Renaming
renaming f = record {
  local = λ n. slice_index_or (locals_listed shown f) (number_of_name (locals_of f) n) Absent;
  block = λ n. slice_index_or (blocks_listed shown f) (number_of_name (blocks_of f) n) Absent;
}

-- the lines that are printed, empty ones among them: instructions
abbrev pub inst_said : Renaming → ℕ → InstLine → Line
inst_said r next x = said.Inst (made_name x.inst (shown_name next x.name)) (renamed_inst r x.inst)

abbrev pub insts_said : Renaming → ℕ → List InstLine → List Line
insts_said r next [] = []
insts_said r next (x ∷ xs) = inst_said r next x ∷ insts_said r (inst_free shown next x) xs

-- a label line, which the first block has only where its name is a word; an empty line stands before the others
abbrev pub first_said : Name → List Line
first_said (Word text) = said.Label (Word text) ∷ []
first_said (Number n) = []
first_said Absent = []

abbrev pub label_said : Bool → ℕ → Name → List Line
label_said first next name = if first then first_said name else said.Empty ∷ said.Label (shown_name next name) ∷ []

-- blocks, a function, and items
abbrev pub block_said : Renaming → Bool → ℕ → BlockLines → List Line
block_said r first next b =
    label_said first next (label_name b.label) ++ insts_said r (free_after next (label_name b.label)) b.insts ++ said.Term (renamed_term r b.end.term) ∷ []

abbrev pub blocks_said : Renaming → Bool → ℕ → List BlockLines → List Line
blocks_said r first next [] = []
blocks_said r first next (b ∷ bs) = block_said r first next b ++ blocks_said r false (block_free shown next b) bs

abbrev pub start : FuncLines → ℕ
start f = params_free shown 0 f.head.params

abbrev pub func_said : FuncLines → List Line
func_said f = said.Define (with_params f.head) ∷ blocks_said (renaming f) true (start f) f.blocks ++ said.Close ∷ []

abbrev pub gap_said : Option Bool → Bool → List Line
gap_said None after = []
gap_said (Some before) after = if before || after then said.Empty ∷ [] else []

abbrev pub items_said : Option Bool → List ItemLines → List Line
items_said before [] = []
items_said before (plain n line ∷ rest) = gap_said before false ++ line ∷ items_said (Some false) rest
items_said before (body f ∷ rest) = gap_said before true ++ (func_said f ++ items_said (Some true) rest)

-- the same lines with their numbers, in their items
abbrev pub insts_again : Renaming → ℕ → ℕ → List InstLine → List InstLine
insts_again r row next [] = []
insts_again r row next (x ∷ xs) =
    record { line = row; name = made_name x.inst (shown_name next x.name); inst = renamed_inst r x.inst } ∷ insts_again r (row + 1) (inst_free shown next x) xs

abbrev pub first_again : ℕ → Name → Option LabelLine
first_again row (Word text) = Some (record { line = row; name = Word text })
first_again row (Number n) = None
first_again row Absent = None

abbrev pub label_again : Bool → ℕ → ℕ → Name → Option LabelLine
label_again first row next name = if first then first_again row name else Some (record { line = row + 1; name = shown_name next name })

abbrev pub block_again : Renaming → Bool → ℕ → ℕ → BlockLines → BlockLines
block_again r first row next b =
    let labels = label_said first next (label_name b.label) in
    let insts = insts_said r (free_after next (label_name b.label)) b.insts in
    record {
      label = label_again first row next (label_name b.label);
      insts = insts_again r (row + length labels) (free_after next (label_name b.label)) b.insts;
      end = record { line = row + length (labels ++ insts); term = renamed_term r b.end.term };
    }

abbrev pub blocks_again : Renaming → Bool → ℕ → ℕ → List BlockLines → List BlockLines
blocks_again r first row next [] = []
blocks_again r first row next (b ∷ bs) = block_again r first row next b ∷ blocks_again r false (row + length (block_said r first next b)) (block_free shown next b) bs

abbrev pub func_again : ℕ → FuncLines → FuncLines
func_again row f = record {
  line = row;
  head = with_params f.head;
  blocks = blocks_again (renaming f) true (row + 1) (start f) f.blocks;
  close = row + 1 + length (blocks_said (renaming f) true (start f) f.blocks);
}

abbrev pub items_again : ℕ → Option Bool → List ItemLines → List ItemLines
items_again row before [] = []
items_again row before (plain n line ∷ rest) =
    let at = row + length (gap_said before false) in plain at line ∷ items_again (at + 1) (Some false) rest
items_again row before (body f ∷ rest) =
    let at = row + length (gap_said before true) in body (func_again at f) ∷ items_again (at + length (func_said f)) (Some true) rest

-- numbers along lists
numbered_append : (n : ℕ) (xs ys : List Line) → numbered n (xs ++ ys) ≡ numbered n xs ++ numbered (n + length xs) ys
numbered_append n [] ys = let same : n ≡ n + 0 = omega arith in ap (λ k. numbered k ys) same
numbered_append n (x ∷ xs) ys =
    let same : n + 1 + length xs ≡ n + suc (length xs) = omega arith in
    ap (λ rest. draft.said n (kept_of x) ++ rest) (numbered_append (n + 1) xs ys)
    ∙ sym (append_assoc (draft.said n (kept_of x)) (numbered (n + 1) xs) (numbered (n + 1 + length xs) ys))
    ∙ ap (λ k. (draft.said n (kept_of x) ++ numbered (n + 1) xs) ++ numbered k ys) same

-- a line of an instruction has a token
inst_some : (r : Renaming) (i : RawInst) → is_blank (sort_of_inst (renamed_inst r i)) ≡ false
inst_some r (Alloca size head rest) = refl
inst_some r (Gep base offset head index rest) = refl
inst_some r (Step base offset terms head index rest) = refl
inst_some r (Load ty ptr rest) = refl
inst_some r (Store ty val ptr rest) = refl
inst_some r (Copy to from len head behind rest) = refl
inst_some r (Call callee ret args head behind rest) = refl
inst_some r (Bin op flags ty a b rest) = refl
inst_some r (Cmp pred flags ty a b rest) = refl
inst_some r (Select cond ty a b rest) = refl
inst_some r (Cast op flags from a to rest) = refl
inst_some r (Phi ty entries rest) = refl

one_said : (n : ℕ) (l : Line) → is_blank (sort_of l) ≡ false → draft.said n l ≡ (n, l) ∷ []
one_said n l h = ap (λ (b : Bool). let one : List (ℕ × Line) = if b then [] else (n, l) ∷ [] in one) h

insts_numbered : (r : Renaming) (row next : ℕ) (xs : List InstLine) → map inst_line (insts_again r row next xs) ≡ numbered row (insts_said r next xs)
insts_numbered r row next [] = refl
insts_numbered r row next (x ∷ xs) =
    ap (λ rest. (row, inst_said r next x) ∷ rest) (insts_numbered r (row + 1) (inst_free shown next x) xs)
    ∙ ap (λ (one : List (ℕ × Line)). one ++ numbered (row + 1) (insts_said r (inst_free shown next x) xs)) (sym (one_said row (inst_said r next x) (inst_some r x.inst)))

label_numbered : (first : Bool) (row next : ℕ) (n : Name) → label_lines (label_again first row next n) ≡ numbered row (label_said first next n)
label_numbered true row next (Word text) = refl
label_numbered true row next (Number n) = refl
label_numbered true row next Absent = refl
label_numbered false row next n = refl

block_numbered : (r : Renaming) (first : Bool) (row next : ℕ) (b : BlockLines) → block_lines (block_again r first row next b) ≡ numbered row (block_said r first next b)
block_numbered r first row next b =
    let name = label_name b.label in
    let labels = label_said first next name in
    let insts = insts_said r (free_after next name) b.insts in
    let end : List Line = said.Term (renamed_term r b.end.term) ∷ [] in
    let row' = row + length (labels ++ insts) in
    ap (λ (ls : List (ℕ × Line)). ls ++ map inst_line (insts_again r (row + length labels) (free_after next name) b.insts) ++ (row', said.Term (renamed_term r b.end.term)) ∷ []) (label_numbered first row next name)
    ∙ ap (λ (ls : List (ℕ × Line)). numbered row labels ++ ls ++ (row', said.Term (renamed_term r b.end.term)) ∷ []) (insts_numbered r (row + length labels) (free_after next name) b.insts)
    ∙ ap (λ (ls : List (ℕ × Line)). ls ++ (row', said.Term (renamed_term r b.end.term)) ∷ []) (sym (numbered_append row labels insts))
    ∙ sym (numbered_append row (labels ++ insts) end)

blocks_numbered : (r : Renaming) (first : Bool) (row next : ℕ) (bs : List BlockLines) → flat_map block_lines (blocks_again r first row next bs) ≡ numbered row (blocks_said r first next bs)
blocks_numbered r first row next [] = refl
blocks_numbered r first row next (b ∷ bs) =
    let here = block_said r first next b in
    ap (λ (ls : List (ℕ × Line)). ls ++ flat_map block_lines (blocks_again r false (row + length here) (block_free shown next b) bs)) (block_numbered r first row next b)
    ∙ ap (λ (ls : List (ℕ × Line)). numbered row here ++ ls) (blocks_numbered r false (row + length here) (block_free shown next b) bs)
    ∙ sym (numbered_append row here (blocks_said r false (block_free shown next b) bs))

func_numbered : (row : ℕ) (f : FuncLines) → func_lines (func_again row f) ≡ numbered row (func_said f)
func_numbered row f =
    let blocks = blocks_said (renaming f) true (start f) f.blocks in
    let close : List Line = said.Close ∷ [] in
    let first : ℕ × Line = (row, said.Define (with_params f.head)) in
    ap (λ (ls : List (ℕ × Line)). first ∷ ls ++ (row + 1 + length blocks, said.Close) ∷ []) (blocks_numbered (renaming f) true (row + 1) (start f) f.blocks)
    ∙ ap (λ (ls : List (ℕ × Line)). first ∷ ls) (sym (numbered_append (row + 1) blocks close))

gap_numbered : (row : ℕ) (before : Option Bool) (after : Bool) → numbered row (gap_said before after) ≡ []
gap_numbered row None after = refl
gap_numbered row (Some true) after = refl
gap_numbered row (Some false) true = refl
gap_numbered row (Some false) false = refl

-- a line outside functions that is kept whole and says something
abbrev pub IsWholeItem : ItemLines → Type 0
IsWholeItem (plain n line) = (kept_of line ≡ line) × (is_blank (sort_of line) ≡ false)
IsWholeItem (body f) = Unit {0}

-- the lines of the items are the lines that are printed, with their numbers
pub items_numbered : (row : ℕ) (before : Option Bool) (items : List ItemLines) → Each IsWholeItem items →
    flat_map item_lines (items_again row before items) ≡ numbered row (items_said before items)
items_numbered row before [] h = refl
items_numbered row before (plain n line ∷ rest) h =
    let gap = gap_said before false in
    let at = row + length gap in
    let more = items_said (Some false) rest in
    let whole : draft.said at (kept_of line) ≡ (at, line) ∷ [] = ap (λ l. draft.said at l) h.0.0 ∙ one_said at line h.0.1 in
    ap (λ (ls : List (ℕ × Line)). (at, line) ∷ ls) (items_numbered (at + 1) (Some false) rest h.1)
    ∙ ap (λ (ls : List (ℕ × Line)). ls ++ numbered (at + 1) more) (sym whole)
    ∙ ap (λ (ls : List (ℕ × Line)). ls ++ numbered at (line ∷ more)) (sym (gap_numbered row before false))
    ∙ sym (numbered_append row gap (line ∷ more))
items_numbered row before (body f ∷ rest) h =
    let gap = gap_said before true in
    let at = row + length gap in
    let more = items_said (Some true) rest in
    ap (λ (ls : List (ℕ × Line)). ls ++ flat_map item_lines (items_again (at + length (func_said f)) (Some true) rest)) (func_numbered at f)
    ∙ ap (λ (ls : List (ℕ × Line)). numbered at (func_said f) ++ ls) (items_numbered (at + length (func_said f)) (Some true) rest h.1)
    ∙ sym (numbered_append at (func_said f) more)
    ∙ ap (λ (ls : List (ℕ × Line)). ls ++ numbered at (func_said f ++ more)) (sym (gap_numbered row before true))
    ∙ sym (numbered_append row gap (func_said f ++ more))

-- the shape of items
each_label : (r : Renaming) (row next : ℕ) (bs : List BlockLines) → Each HasLabel (blocks_again r false row next bs)
each_label r row next [] = tt
each_label r row next (b ∷ bs) = (refl, each_label r (row + length (block_said r false next b)) (block_free shown next b) bs)

has_blocks : (r : Renaming) (row next : ℕ) (bs : List BlockLines) → HasBlocks bs → HasBlocks (blocks_again r true row next bs)
has_blocks r row next [] h = h
has_blocks r row next (b ∷ bs) h = each_label r (row + length (block_said r true next b)) (block_free shown next b) bs

pub items_shape : (row : ℕ) (before : Option Bool) (items : List ItemLines) → Each IsItem items → Each IsItem (items_again row before items)
items_shape row before [] h = tt
items_shape row before (plain n line ∷ rest) h = (h.0, items_shape (row + length (gap_said before false) + 1) (Some false) rest h.1)
items_shape row before (body f ∷ rest) h =
    let at = row + length (gap_said before true) in
    (has_blocks (renaming f) (at + 1) (start f) f.blocks h.0, items_shape (at + length (func_said f)) (Some true) rest h.1)
