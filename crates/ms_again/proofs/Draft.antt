-- The text of a module without faults is read as a draft of its items with the names that are printed.
use Rattle.std.proofs.Common.{◌≡◌, ◌≤◌, ◌<◌, ◌+◌, ◌^◌, ℕ, suc, Bool, true, false, List, [], ◌∷◌, ◌++◌, Option, Some, None, map, length, refl, sym, ap, subst, ◌∙◌, arith, length-append}
use Rattle.std.proofs.lemmas.List.{length-map}
use Rattle.std.specs.List.{flat_map}
use Rattle.ms_ir.specs.declared.inst.Effects.{Effects}
use Rattle.ms_grammar.specs.Kept.{Each}
use Rattle.ms_grammar.specs.Parts.{Part, apart, post, text_of, part_text}
use Rattle.ms_grammar.specs.Form.{printed, word_part, front_parts, brace_parts, head_parts, further, listed, param_parts, dots_parts}
use Rattle.ms_grammar.specs.declared.line.Head.{Head}
use Rattle.ms_grammar.specs.declared.line.Line.{Line}
use Rattle.ms_grammar.specs.declared.line.Line.TheVariants as said
use Rattle.ms_grammar.specs.declared.keyword.Keyword.TheVariants as word
use Rattle.ms_grammar.proofs.Printing.{text_of_append}
use Rattle.ms_read.specs.Rows.{rows_of}
use Rattle.ms_read.specs.Draft.{IsDraft, Say}
use Rattle.ms_read.specs.Told.{IsSaid}
use Rattle.ms_resolve.specs.Shape.{InstLine, BlockLines, FuncLines, ItemLines, plain, body, item_lines, func_lines, IsItem}
use Rattle.ms_resolve.specs.Made.{makes, param_made, inst_made, block_made, made_in}
use Rattle.ms_resolve.specs.Faults.{IsIn}
use Rattle.ms_resolve.specs.Module.{module_of}
use Rattle.ms_print.specs.Numbering.{free_after}
use Rattle.ms_print.specs.Text.{module_text}
use Rattle.ms_print.proofs.NumberingLemmas.{shown_params-length}
use Rattle.ms_again.specs.Basis.{IsBasis}
use Rattle.ms_again.proofs.Renaming.{Renaming, renamed_term}
use Rattle.ms_again.proofs.Renamed.{with_params}
use Rattle.ms_again.proofs.Fine.{IsFine, read_fine, read_kept}
use Rattle.ms_again.proofs.Names.{shown, label_name, inst_free, block_free, made_if, blocks_size, size_of}
use Rattle.ms_again.proofs.Again.{renaming, insts_said, label_said, block_said, blocks_said, start, func_said, gap_said, items_said, items_again, IsWholeItem, items_numbered}
use Rattle.ms_again.proofs.Printed.{row_text, rows_text, module_rows}
use Rattle.ms_again.proofs.Quiet.{IsPrinted}
use Rattle.ms_again.proofs.Sites.{each_at, at_each, IsEntryBy, IsFineEntry, IsFineFunc, func_by, fine_func}
use Rattle.ms_again.proofs.Known.{IsSound, IsItemBy, items_known}
use Rattle.ms_again.proofs.Uses.{are_right, lines_right}
use Rattle.ms_again.proofs.Lines.{IsFineNamed, IsFineWhole, items_fine, rows_are, all_printed, all_say}
use Rattle.ms_again.proofs.Placed.{module_lead}

-- each thing that a function makes takes a byte of its text
rows_long : (ls : List Line) → length ls ≤ length (rows_text ls)
rows_long [] = omega arith
rows_long (l ∷ ls) =
    let rest = rows_long ls in
    let row = length-append (printed l) (10 ∷ []) in
    let both = length-append (row_text l) (rows_text ls) in
    omega arith

insts_count : (r : Renaming) (next : ℕ) (xs : List InstLine) → length (insts_said r next xs) ≡ length xs
insts_count r next [] = refl
insts_count r next (x ∷ xs) = ap suc (insts_count r (inst_free shown next x) xs)

blocks_long : (r : Renaming) (first : Bool) (next : ℕ) (bs : List BlockLines) → blocks_size bs ≤ length (blocks_said r first next bs)
blocks_long r first next [] = omega arith
blocks_long r first next (b ∷ bs) =
    let labels = label_said first next (label_name b.label) in
    let insts = insts_said r (free_after next (label_name b.label)) b.insts in
    let end : List Line = said.Term (renamed_term r b.end.term) ∷ [] in
    let some = insts_count r (free_after next (label_name b.label)) b.insts in
    let one = length-append labels insts in
    let two = length-append (labels ++ insts) end in
    let rest = blocks_long r false (block_free shown next b) bs in
    let three = length-append (block_said r first next b) (blocks_said r false (block_free shown next b) bs) in
    omega arith

further_long : (ms : List (List Part)) → length ms ≤ length (text_of (further ms))
further_long [] = omega arith
further_long (m ∷ ms) =
    let rest = further_long ms in
    let whole : length (text_of (m ++ further ms)) ≡ length (text_of m) + length (text_of (further ms)) = ap length (text_of_append m (further ms)) ∙ length-append (text_of m) (text_of (further ms)) in
    let comma = length-append (part_text (word_part word.Comma)) (32 ∷ text_of (m ++ further ms)) in
    omega arith

listed_long : (ms : List (List Part)) → length ms ≤ 1 + length (text_of (listed ms))
listed_long [] = omega arith
listed_long (m ∷ ms) =
    let rest = further_long ms in
    let whole : length (text_of (m ++ further ms)) ≡ length (text_of m) + length (text_of (further ms)) = ap length (text_of_append m (further ms)) ∙ length-append (text_of m) (text_of (further ms)) in
    omega arith

parts_long : (ps qs : List Part) → length (text_of (ps ++ qs)) ≡ length (text_of ps) + length (text_of qs)
parts_long ps qs = ap length (text_of_append ps qs) ∙ length-append (text_of ps) (text_of qs)

pub define_long : (h : Head) → length h.params ≤ 1 + length (printed (said.Define h))
define_long h =
    let members = map param_parts h.params ++ dots_parts h.variadic in
    let front = front_parts word.Define h in
    let back : List Part = word_part word.Close ∷ apart post h.post ∷ [] in
    let some = listed_long members in
    let count = length-append (map param_parts h.params) (dots_parts h.variadic) in
    let params = length-map h.params param_parts in
    let one = parts_long front (listed members) in
    let two = parts_long (front ++ listed members) back in
    let three = parts_long (head_parts word.Define h) brace_parts in
    omega arith

func_long : (f : FuncLines) → size_of f ≤ 1 + length (rows_text (func_said f))
func_long f =
    let blocks = blocks_said (renaming f) true (start f) f.blocks in
    let rest : List Line = blocks ++ said.Close ∷ [] in
    let define = define_long (with_params f.head) in
    let params = shown_params-length 0 f.head.params in
    let some = blocks_long (renaming f) true (start f) f.blocks in
    let lines = length-append blocks (said.Close ∷ []) in
    let long = rows_long rest in
    let first = length-append (printed (said.Define (with_params f.head))) (10 ∷ []) in
    let all = length-append (row_text (said.Define (with_params f.head))) (rows_text rest) in
    omega arith

abbrev pub AreFewMade : ℕ → ItemLines → Type 0
AreFewMade n (plain k line) = Unit {0}
AreFewMade n (body f) = size_of f ≤ 1 + n

rows_split : (xs ys : List Line) → length (rows_text (xs ++ ys)) ≡ length (rows_text xs) + length (rows_text ys)
rows_split [] ys = omega arith
rows_split (x ∷ xs) ys =
    let rest = rows_split xs ys in
    let one = length-append (row_text x) (rows_text (xs ++ ys)) in
    let two = length-append (row_text x) (rows_text xs) in
    omega arith

items_few : (n : ℕ) (before : Option Bool) (items : List ItemLines) → length (rows_text (items_said before items)) ≤ n → Each (AreFewMade n) items
items_few n before [] h = tt
items_few n before (plain k line ∷ rest) h =
    let one = rows_split (gap_said before false) (line ∷ items_said (Some false) rest) in
    let two = length-append (row_text line) (rows_text (items_said (Some false) rest)) in
    (tt, items_few n (Some false) rest (omega arith))
items_few n before (body f ∷ rest) h =
    let one = rows_split (gap_said before true) (func_said f ++ items_said (Some true) rest) in
    let two = rows_split (func_said f) (items_said (Some true) rest) in
    let long = func_long f in
    ((omega arith), items_few n (Some true) rest (omega arith))

-- what is made takes no more
one_made : (x : InstLine) (b : Bool) → length (made_if x b) ≤ 1
one_made x true = omega arith
one_made x false = omega arith

insts_size : (xs : List InstLine) → length (flat_map inst_made xs) ≤ length xs
insts_size [] = omega arith
insts_size (x ∷ xs) =
    let here = one_made x (makes x.inst) in
    let rest = insts_size xs in
    let both = length-append (inst_made x) (flat_map inst_made xs) in
    omega arith

made_blocks : (n : ℕ) (bs : List BlockLines) → length (flat_map (block_made n) bs) ≤ blocks_size bs
made_blocks n [] = omega arith
made_blocks n (b ∷ bs) =
    let here = insts_size b.insts in
    let rest = made_blocks n bs in
    let both = length-append (block_made n b) (flat_map (block_made n) bs) in
    omega arith

made_size : (f : FuncLines) → length (made_in f) ≤ size_of f
made_size f =
    let made = length-append (map (param_made f.line) f.head.params) (flat_map (block_made f.line) f.blocks) in
    let count = length-map f.head.params (param_made f.line) in
    let some = made_blocks f.line f.blocks in
    omega arith

said_fine : (l : Line) → IsSaid l → IsFine l
said_fine l h = read_fine h.row l h.read

entries_fine : (ls : List (ℕ × Line)) → Each (λ (e : ℕ × Line). IsSaid e.1) ls → Each IsFineEntry ls
entries_fine [] h = tt
entries_fine (l ∷ ls) h = (said_fine l.1 h.0, entries_fine ls h.1)

basis_fine : (items : List ItemLines) → Each (λ item. Each (λ (e : ℕ × Line). IsSaid e.1) (item_lines item)) items → Each (IsItemBy IsFine) items
basis_fine [] h = tt
basis_fine (plain n line ∷ rest) h = (tt, basis_fine rest h.1)
basis_fine (body f ∷ rest) h = (fine_func f (entries_fine (func_lines f) h.0), basis_fine rest h.1)

basis_whole : (items : List ItemLines) → Each (λ item. Each (λ (e : ℕ × Line). IsSaid e.1) (item_lines item)) items → Each IsWholeItem items
basis_whole [] h = tt
basis_whole (plain n line ∷ rest) h = ((read_kept h.0.0.row line h.0.0.read, h.0.0.some), basis_whole rest h.1)
basis_whole (body f ∷ rest) h = (tt, basis_whole rest h.1)

-- the printed names of each function
pub record AreNamed (items : List ItemLines) : Type 0 where
  pub each : (f : FuncLines) → IsIn items (body f) → IsFineNamed f

pub module_named : (effects : List ℕ → Effects) (keeps : List ℕ → Bool) (spare : List ℕ → ℕ) (items : List ItemLines) → IsSound effects keeps spare items → IsBasis items →
    length (rows_text (items_said None items)) < 10 ^ 9 → AreNamed items
module_named effects keeps spare items sound basis few = record {
  each = λ f il.
      let fine : IsFineFunc f = at_each (IsItemBy IsFine) items il.0 (body f) (basis_fine items basis.said_all) il.1 in
      let n = length (rows_text (items_said None items)) in
      let made : size_of f ≤ 1 + n = at_each (AreFewMade n) items il.0 (body f) (items_few n None items (omega arith)) il.1 in
      let less = made_size f in
      let names = are_right items f sound.names il fine (omega arith) in
      record { fine = fine; few = omega arith; names = names; uses = lines_right items f sound.names il fine names };
}

whole_item : (items : List ItemLines) → AreNamed items → (item : ItemLines) → IsIn items item → Each (λ (e : ℕ × Line). IsSaid e.1) (item_lines item) → IsFineWhole item
whole_item items named (plain n line) on h = said_fine line h.0
whole_item items named (body f) on h = named.each f on

-- the text, of items whose lines are said
said_printed : (ls : List (ℕ × Line)) → Each (λ (e : ℕ × Line). IsSaid e.1) ls → Each (IsEntryBy IsPrinted) ls
said_printed [] h = tt
said_printed (l ∷ ls) h = ((said_fine l.1 h.0).whole, said_printed ls h.1)

basis_printed : (items : List ItemLines) → Each (λ item. Each (λ (e : ℕ × Line). IsSaid e.1) (item_lines item)) items → Each (IsItemBy IsPrinted) items
basis_printed [] h = tt
basis_printed (plain n line ∷ rest) h = (tt, basis_printed rest h.1)
basis_printed (body f ∷ rest) h = (func_by IsPrinted f (said_printed (func_lines f) h.0), basis_printed rest h.1)

pub text_printed : (effects : List ℕ → Effects) (keeps : List ℕ → Bool) (spare : List ℕ → ℕ) (items : List ItemLines) → IsSound effects keeps spare items → Each IsItem items → Each (IsItemBy IsPrinted) items →
    module_text (module_of effects keeps spare items) ≡ rows_text (items_said None items)
text_printed effects keeps spare items sound each said = module_rows effects keeps spare items each (items_known effects keeps spare items sound said)

pub text_is : (effects : List ℕ → Effects) (keeps : List ℕ → Bool) (spare : List ℕ → ℕ) (items : List ItemLines) → IsSound effects keeps spare items → IsBasis items →
    module_text (module_of effects keeps spare items) ≡ rows_text (items_said None items)
text_is effects keeps spare items sound basis = text_printed effects keeps spare items sound basis.each (basis_printed items basis.said_all)

pub text_read : (effects : List ℕ → Effects) (keeps : List ℕ → Bool) (spare : List ℕ → ℕ) (items : List ItemLines) → IsSound effects keeps spare items → IsBasis items → AreNamed items →
    IsDraft (module_text (module_of effects keeps spare items)) (flat_map item_lines (items_again 1 None items))
text_read effects keeps spare items sound basis named =
    let lines = items_said None items in
    let fine : Each IsFine lines = items_fine None items basis.each
    (each_at IsFineWhole items (λ k item e. whole_item items named item (k, e) (at_each (λ (item : ItemLines). Each (λ (e : ℕ × Line). IsSaid e.1) (item_lines item)) items k item basis.said_all e))) in
    let rows : rows_of (module_text (module_of effects keeps spare items)) ≡ map printed lines = ap rows_of (text_is effects keeps spare items sound basis) ∙ rows_are lines (all_printed lines fine) in
    record {
      lines = lines;
      end = basis.placed.end;
      read = record {
        say = subst (λ (rs : List (List ℕ)). Say rs lines) (sym rows) (all_say lines fine);
        lead = module_lead basis.placed.end items basis.each basis.placed.lead;
      };
      outside = basis.placed.outside;
      draft_is = items_numbered 1 None items (basis_whole items basis.said_all);
    }
