-- The text of a module does not show the written numbers of things without a name, nor the room of functions.
use Rattle.std.proofs.Common.{◌≡◌, ℕ, zero, suc, Bool, List, [], ◌∷◌, ◌++◌, Option, Some, None, if◌then◌else◌, map, refl, sym, ap, ◌∙◌}
use Rattle.std.specs.List.{slice_get, slice_index_or}
use Rattle.std.specs.Option.{is_some, option_map}
use mathlib.Core.Path.{fun_ext}
use Rattle.ms_ir.specs.declared.names.Name.{Name}
use Rattle.ms_ir.specs.declared.names.Name.TheVariants.{Word, Number, Absent}
use Rattle.ms_ir.specs.declared.names.Param.{Param}
use Rattle.ms_ir.specs.declared.module.Item.{Item}
use Rattle.ms_ir.specs.declared.module.Item.TheVariants as item
use Rattle.ms_ir.specs.Symbols.{NamesState}
use Rattle.ms_ir.specs.Func.{Placed, Block, FuncState}
use Rattle.ms_ir.specs.Module.{ModuleState, body_in, body_of}
use Rattle.ms_grammar.specs.Form.{printed}
use Rattle.ms_grammar.specs.declared.line.Line.TheVariants.{Close}
use Rattle.ms_print.specs.declared.notes.Note.{Note}
use Rattle.ms_print.specs.declared.notes.Notes.{Notes}
use Rattle.ms_print.specs.Numbering.{shown_name, free_after, shown_params, free_after_params, free_after_inst, free_after_insts, free_after_block, shown_labels, is_given, name_among, name_in, param_name, name_of_param, local_name, labels_of}
use Rattle.ms_print.specs.Lines.{Shown, shown_in, inst_line, term_line, define_line, define_with}
use Rattle.ms_print.specs.Text.{ended, line_text, note_at, insts_text, label_text, block_text, blocks_text, func_text, no_notes, body_text, item_text, has_body, gap, items_text, module_text}
use Rattle.ms_again.specs.Same.{own_name, plain_param, plain_inst, plain_block, plain_func, plain_module, IsSameModule}

-- a name is shown by its word alone
pub shown_own : (next : ℕ) (n : Name) → shown_name next (own_name n) ≡ shown_name next n
shown_own next (Word text) = refl
shown_own next (Number n) = refl
shown_own next Absent = refl

pub free_own : (next : ℕ) (n : Name) → free_after next (own_name n) ≡ free_after next n
free_own next (Word text) = refl
free_own next (Number n) = refl
free_own next Absent = refl

pub params_plain : (next : ℕ) (ps : List Param) → shown_params next (map plain_param ps) ≡ shown_params next ps
params_plain next [] = refl
params_plain next (p ∷ ps) =
    ap (λ n. let q : Param = record p { name = n } in q ∷ shown_params (free_after next (own_name p.name)) (map plain_param ps)) (shown_own next p.name)
    ∙ ap (λ k. let q : Param = record p { name = shown_name next p.name } in q ∷ shown_params k (map plain_param ps)) (free_own next p.name)
    ∙ ap (λ rest. let q : Param = record p { name = shown_name next p.name } in q ∷ rest) (params_plain (free_after next p.name) ps)

pub free_params_plain : (next : ℕ) (ps : List Param) → free_after_params next (map plain_param ps) ≡ free_after_params next ps
free_params_plain next [] = refl
free_params_plain next (p ∷ ps) = ap (λ k. free_after_params k (map plain_param ps)) (free_own next p.name) ∙ free_params_plain (free_after next p.name) ps

free_inst_plain : (next : ℕ) (x : Placed) → free_after_inst next (plain_inst x) ≡ free_after_inst next x
free_inst_plain next x = ap (λ k. if is_some x.result then k else next) (free_own next x.name)

free_insts_plain : (next : ℕ) (xs : List Placed) → free_after_insts next (map plain_inst xs) ≡ free_after_insts next xs
free_insts_plain next [] = refl
free_insts_plain next (x ∷ xs) = ap (λ k. free_after_insts k (map plain_inst xs)) (free_inst_plain next x) ∙ free_insts_plain (free_after_inst next x) xs

free_block_plain : (next : ℕ) (b : Block) → free_after_block next (plain_block b) ≡ free_after_block next b
free_block_plain next b = ap (λ k. free_after_insts k (map plain_inst b.insts)) (free_own next b.name) ∙ free_insts_plain (free_after next b.name) b.insts

labels_plain : (next : ℕ) (bs : List Block) → shown_labels next (map plain_block bs) ≡ shown_labels next bs
labels_plain next [] = refl
labels_plain next (b ∷ bs) =
    ap (λ n. n ∷ shown_labels (free_after_block next (plain_block b)) (map plain_block bs)) (shown_own next b.name)
    ∙ ap (λ k. shown_name next b.name ∷ shown_labels k (map plain_block bs)) (free_block_plain next b)
    ∙ ap (λ rest. shown_name next b.name ∷ rest) (labels_plain (free_after_block next b) bs)

among_plain : (next : ℕ) (xs : List Placed) (l : ℕ) (before : Name) → name_among next (map plain_inst xs) l before ≡ name_among next xs l before
among_plain next [] l before = refl
among_plain next (x ∷ xs) l before =
    ap (λ k. name_among k (map plain_inst xs) l (if is_given x.result l then shown_name next (own_name x.name) else before)) (free_inst_plain next x)
    ∙ ap (λ n. name_among (free_after_inst next x) (map plain_inst xs) l (if is_given x.result l then n else before)) (shown_own next x.name)
    ∙ among_plain (free_after_inst next x) xs l (if is_given x.result l then shown_name next x.name else before)

in_plain : (next : ℕ) (bs : List Block) (l : ℕ) (before : Name) → name_in next (map plain_block bs) l before ≡ name_in next bs l before
in_plain next [] l before = refl
in_plain next (b ∷ bs) l before =
    ap (λ k. name_in k (map plain_block bs) l (name_among (free_after next (own_name b.name)) (map plain_inst b.insts) l before)) (free_block_plain next b)
    ∙ ap (λ k. name_in (free_after_block next b) (map plain_block bs) l (name_among k (map plain_inst b.insts) l before)) (free_own next b.name)
    ∙ ap (λ n. name_in (free_after_block next b) (map plain_block bs) l n) (among_plain (free_after next b.name) b.insts l before)
    ∙ in_plain (free_after_block next b) bs l (name_among (free_after next b.name) b.insts l before)

pub local_plain : (f : FuncState) (l : ℕ) → local_name (plain_func f) l ≡ local_name f l
local_plain f l =
    ap (λ k. name_in k (map plain_block f.blocks) l (param_name (map plain_param f.params) l)) (free_params_plain 0 f.params)
    ∙ ap (λ ps. name_in (free_after_params 0 f.params) (map plain_block f.blocks) l (named ps)) (params_plain 0 f.params)
    ∙ in_plain (free_after_params 0 f.params) f.blocks l (param_name f.params l)
  where
    named : List Param → Name
    named ps = slice_index_or (map name_of_param ps) l Absent

pub labels_of_plain : (f : FuncState) → labels_of (plain_func f) ≡ labels_of f
labels_of_plain f = ap (λ k. shown_labels k (map plain_block f.blocks)) (free_params_plain 0 f.params) ∙ labels_plain (free_after_params 0 f.params) f.blocks

shown_plain : (names : NamesState) (f : FuncState) → shown_in names (plain_func f) ≡ shown_in names f
shown_plain names f =
    let P : (ℕ → Name) → Shown = λ g. record { locals = g; labels = labels_of (plain_func f); module_names = names } in
    let Q : List Name → Shown = λ ls. record { locals = local_name f; labels = ls; module_names = names } in
    let locals : local_name (plain_func f) ≡ local_name f = fun_ext (local_plain f) in
    ap P locals ∙ ap Q (labels_of_plain f)

insts_plain : (s : Shown) (notes : List Note) (xs : List Placed) → insts_text s notes (map plain_inst xs) ≡ insts_text s notes xs
unfolding line_text
insts_plain s notes [] = refl
insts_plain s notes (x ∷ xs) = ap (λ t. note_at notes x.number ++ ended (printed (inst_line s x)) ++ t) (insts_plain s notes xs)

pub label_plain : (labels : List Name) (b : ℕ) (n : Name) → label_text labels b (own_name n) ≡ label_text labels b n
unfolding line_text
label_plain labels b (Word text) = refl
label_plain labels b (Number n) = refl
label_plain labels b Absent = refl

block_plain : (s : Shown) (notes : Notes) (b : ℕ) (x : Block) → block_text s notes b (plain_block x) ≡ block_text s notes b x
unfolding line_text
block_plain s notes b x =
    ap (λ t. t ++ note_at notes.phis b ++ insts_text s notes.insts (map plain_inst x.insts) ++ ended (printed (term_line s x.term))) (label_plain s.labels b x.name)
    ∙ ap (λ t. label_text s.labels b x.name ++ note_at notes.phis b ++ t ++ ended (printed (term_line s x.term))) (insts_plain s notes.insts x.insts)

blocks_plain : (s : Shown) (notes : Notes) (b : ℕ) (xs : List Block) → blocks_text s notes b (map plain_block xs) ≡ blocks_text s notes b xs
unfolding line_text
blocks_plain s notes b [] = refl
blocks_plain s notes b (x ∷ xs) =
    ap (λ t. t ++ blocks_text s notes (suc b) (map plain_block xs)) (block_plain s notes b x) ∙ ap (λ t. block_text s notes b x ++ t) (blocks_plain s notes (suc b) xs)

pub func_plain : (names : NamesState) (f : FuncState) (notes : Notes) → func_text names (plain_func f) notes ≡ func_text names f notes
unfolding line_text
func_plain names f notes =
    ap (λ ps. ended (printed (define_with f ps)) ++ blocks_text (shown_in names (plain_func f)) notes 0 (map plain_block f.blocks) ++ ended (printed Close)) (params_plain 0 f.params)
    ∙ ap (λ s. ended (printed (define_line f)) ++ blocks_text s notes 0 (map plain_block f.blocks) ++ ended (printed Close)) (shown_plain names f)
    ∙ ap (λ t. ended (printed (define_line f)) ++ t ++ ended (printed Close)) (blocks_plain (shown_in names f) notes 0 f.blocks)

body_plain : (names : NamesState) (f : Option FuncState) → body_text names (option_map plain_func f) ≡ body_text names f
unfolding line_text
body_plain names None = refl
body_plain names (Some f) = func_plain names f no_notes

body_there : (bodies : List (Option FuncState)) (n : ℕ) → body_in (slice_get (map (option_map plain_func) bodies) n) ≡ option_map plain_func (body_in (slice_get bodies n))
body_there [] n = refl
body_there (b ∷ bs) zero = refl
body_there (b ∷ bs) (suc n) = body_there bs n

item_plain : (m : ModuleState) (x : Item) → item_text (plain_module m) x ≡ item_text m x
unfolding line_text
item_plain m (item.Kept text) = refl
item_plain m (item.Global g text) = refl
item_plain m (item.Declared f text) = refl
item_plain m (item.Defined f) = ap (λ b. body_text m.names b) (body_there m.bodies f.0) ∙ body_plain m.names (body_of m f.0)

items_plain : (m : ModuleState) (before : Option Bool) (xs : List Item) → items_text (plain_module m) before xs ≡ items_text m before xs
unfolding line_text
items_plain m before [] = refl
items_plain m before (x ∷ xs) =
    ap (λ t. gap before (has_body x) ++ t ++ items_text (plain_module m) (Some (has_body x)) xs) (item_plain m x)
    ∙ ap (λ t. gap before (has_body x) ++ item_text m x ++ t) (items_plain m (Some (has_body x)) xs)

pub text_plain : (m : ModuleState) → module_text (plain_module m) ≡ module_text m
unfolding line_text
text_plain m = items_plain m None m.items

pub same_text : (m n : ModuleState) → IsSameModule m n → module_text m ≡ module_text n
unfolding line_text
same_text m n h = sym (text_plain m) ∙ ap module_text h.same ∙ text_plain n
