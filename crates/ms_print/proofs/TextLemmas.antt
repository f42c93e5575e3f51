-- The text so far, and the text of what is left behind it.
use Rattle.std.proofs.Common.{◌≡◌, ◌<◌, ◌+◌, ℕ, zero, suc, List, [], ◌∷◌, ◌++◌, drop, length, get_or, Option, Some, None, Bool, refl, ap, ◌∙◌, subst, add-one, append_assoc}
use Rattle.std.proofs.lemmas.List.{drop_more}
use Rattle.std.specs.List.{slice_index_or, slice_get}
use mathlib.Core.Path.{fun_ext}
use Rattle.ms_ir.specs.declared.names.Name.{Name}
use Rattle.ms_ir.specs.declared.names.Name.TheVariants.{Absent}
use Rattle.ms_ir.specs.declared.names.Param.{Param}
use Rattle.ms_ir.specs.declared.func.Node.{Node}
use Rattle.ms_ir.specs.declared.module.Item.{Item}
use Rattle.ms_ir.specs.Symbols.{NamesState}
use Rattle.ms_ir.specs.Func.{Placed, Block, FuncState, placed_as, no_block}
use Rattle.ms_ir.specs.Module.{ModuleState}
use Rattle.ms_grammar.specs.declared.line.Line.TheVariants.{Close}
use Rattle.ms_print.specs.declared.notes.Note.{Note}
use Rattle.ms_print.specs.declared.notes.Notes.{Notes}
use Rattle.ms_print.specs.declared.numbering.Tables.{Tables}
use Rattle.ms_print.specs.Numbering.{shown_params, local_name, labels_of}
use Rattle.ms_print.specs.Lines.{Shown, shown_by, shown_in, inst_line, define_with}
use Rattle.ms_print.specs.Notes.{note_by}
use Rattle.ms_print.specs.Text.{line_text, note_at, insts_text, block_text, blocks_text, item_text, items_text, has_body, gap, func_text}

-- the text behind the first instruction, and that of the others
pub insts_more : (s : Shown) (notes : List Note) (xs ys : List Placed) (n : ℕ) (node : Node) (out noted lined : List ℕ) → xs ≡ placed_as n node ∷ ys
    → noted ≡ out ++ note_at notes n → lined ≡ noted ++ line_text (inst_line s (placed_as n node))
    → lined ++ insts_text s notes ys ≡ out ++ insts_text s notes xs
insts_more s notes xs ys n node out noted lined first second third = rw (first, third, second) (simp append_assoc)

-- the text behind a block, and that of the others
pub blocks_more : (s : Shown) (notes : Notes) (blocks : List Block) (b : ℕ) (out new : List ℕ) → b < length blocks
    → new ≡ out ++ block_text s notes b (get_or blocks b no_block)
    → new ++ blocks_text s notes (b + 1) (drop (b + 1) blocks) ≡ out ++ blocks_text s notes b (drop b blocks)
blocks_more s notes blocks b out new within is = rw (drop_more blocks b no_block within, is, add-one) (simp append_assoc)

-- names in tables that are a function's are the function's names
pub shown_same : (names : NamesState) (t : Tables) (f : FuncState) → ((k : ℕ) → slice_index_or t.locals.items k Absent ≡ local_name f k)
    → t.labels.items ≡ labels_of f → shown_by names t ≡ shown_in names f
shown_same names t f locals labels =
    let first : (λ (k : ℕ). slice_index_or t.locals.items k Absent) ≡ local_name f = fun_ext locals in
    let P : (ℕ → Name) → Shown = λ g. record { locals = g; labels = t.labels.items; module_names = names } in
    let Q : List Name → Shown = λ ls. record { locals = local_name f; labels = ls; module_names = names } in
    ap P first ∙ ap Q labels

-- an item at its place is the first of the rest
pub item_there : (items : List Item) (n : ℕ) (x : Item) → slice_get items n ≡ Some x → drop n items ≡ x ∷ drop (suc n) items
item_there [] n x e = cc
item_there (y ∷ items) zero x e = let same : y ≡ x = cc in ap (λ (p : Item). p ∷ items) same
item_there (y ∷ items) (suc n) x e = item_there items n x e

-- behind the last item there is none
pub past_items : (items : List Item) (n : ℕ) → None ≡ slice_get items n → drop n items ≡ []
past_items [] zero e = refl
past_items [] (suc n) e = refl
past_items (x ∷ items) zero e = cc
past_items (x ∷ items) (suc n) e = past_items items n e

-- the text behind an item, and that of the others
pub items_more : (m : ModuleState) (before : Option Bool) (body : Bool) (items : List Item) (n : ℕ) (x : Item) (out gapped new : List ℕ)
    → slice_get items n ≡ Some x → body ≡ has_body x → gapped ≡ out ++ gap before body → new ≡ gapped ++ item_text m x
    → new ++ items_text m (Some body) (drop (n + 1) items) ≡ out ++ items_text m before (drop n items)
items_more m before body items n x out gapped new at is first second =
    rw (add-one, item_there items n x at, second, first, is) (simp append_assoc)

-- a function's first line, its blocks and its end are its text
pub func_done : (names : NamesState) (f : FuncState) (notes : Notes) (t : Tables) (params : List Param) (out first second third : List ℕ)
    → params ≡ shown_params 0 f.params → ((k : ℕ) → slice_index_or t.locals.items k Absent ≡ local_name f k) → t.labels.items ≡ labels_of f
    → first ≡ out ++ line_text (define_with f params) → second ≡ first ++ blocks_text (shown_by names t) notes 0 f.blocks
    → third ≡ second ++ line_text Close → third ≡ out ++ func_text names f notes
func_done names f notes t params out first second third shown locals labels one two three =
    let P : List Param → Type 0 = λ ps. first ≡ out ++ line_text (define_with f ps) in
    let Q : Shown → Type 0 = λ s. second ≡ first ++ blocks_text s notes 0 f.blocks in
    let head = subst P shown one in
    let body = subst Q (shown_same names t f locals labels) two in
    rw (three, body, head) (simp append_assoc)

-- what is found through a table is what the notes have
pub note_found : (ns ms : List Note) (t u : List (Option ℕ)) (n : ℕ) (out new : List ℕ) → new ≡ out ++ note_by ns t n → ns ≡ ms → t ≡ u
    → note_by ms u n ≡ note_at ms n → new ≡ out ++ note_at ms n
note_found ns ms t u n out new first notes table found =
    let same : note_by ns t n ≡ note_by ms u n = ap (λ (l : List Note). note_by l t n) notes ∙ ap (λ (l : List (Option ℕ)). note_by ms l n) table in
    first ∙ ap (λ (l : List ℕ). out ++ l) (same ∙ found)
