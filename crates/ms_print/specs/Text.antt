-- The text of a function and of a module: their lines, each with its end.
use Rattle.std.specs.Prelude.{ℕ, suc, ◌==◌, ◌||◌, Bool, true, false, List, [], ◌∷◌, ◌++◌, Option, Some, None, if◌then◌else◌}
use Rattle.ms_ir.specs.declared.names.Name.{Name}
use Rattle.ms_ir.specs.declared.names.Name.TheVariants.{Word, Number, Absent}
use Rattle.ms_ir.specs.declared.module.Item.{Item}
use Rattle.ms_ir.specs.declared.module.Item.TheVariants as item
use Rattle.ms_ir.specs.Symbols.{NamesState}
use Rattle.ms_ir.specs.Func.{Placed, Block, FuncState}
use Rattle.ms_ir.specs.Module.{ModuleState, body_of}
use Rattle.ms_grammar.specs.Form.{printed}
use Rattle.ms_grammar.specs.declared.line.Line.{Line}
use Rattle.ms_grammar.specs.declared.line.Line.TheVariants.{Close}
use Rattle.ms_print.specs.Lines.{Shown, shown_in, define_line, label_line, inst_line, term_line}
use Rattle.ms_print.specs.declared.notes.Note.{Note}
use Rattle.ms_print.specs.declared.notes.Notes.{Notes}

-- a text with a line's end behind it
abbrev pub ended : List ℕ → List ℕ
ended text = text ++ 10 ∷ []

-- a line in its printed form, with its end
unfoldable pub line_text : Line → List ℕ
line_text line = ended (printed line)

-- the line that notes have for a number, and nothing where they have none
abbrev pub note_at : List Note → ℕ → List ℕ
note_at [] n = []
note_at (x ∷ xs) n = if x.at == n then ended x.line else note_at xs n

-- the lines of instructions, each behind its note
abbrev pub insts_text : Shown → List Note → List Placed → List ℕ
insts_text s notes [] = []
insts_text s notes (x ∷ xs) = note_at notes x.number ++ line_text (inst_line s x) ++ insts_text s notes xs

-- the label line of the first block, which it has only where its name is a word
abbrev pub first_label : List Name → Name → List ℕ
first_label labels (Word _) = line_text (label_line labels 0)
first_label labels (Number _) = []
first_label labels Absent = []

-- an empty line before each block but the first, and the label line
abbrev pub label_text : List Name → ℕ → Name → List ℕ
label_text labels b name = if b == 0 then first_label labels name else 10 ∷ line_text (label_line labels b)

-- a block: its label, the note at the block, its instructions and its terminator
abbrev pub block_text : Shown → Notes → ℕ → Block → List ℕ
block_text s notes b x =
    label_text s.labels b x.name ++ note_at notes.phis b ++ insts_text s notes.insts x.insts ++ line_text (term_line s x.term)

-- the blocks from one on
abbrev pub blocks_text : Shown → Notes → ℕ → List Block → List ℕ
blocks_text s notes b [] = []
blocks_text s notes b (x ∷ xs) = block_text s notes b x ++ blocks_text s notes (suc b) xs

-- the text of a function with notes
abbrev pub func_text : NamesState → FuncState → Notes → List ℕ
func_text names f notes =
    line_text (define_line f) ++ blocks_text (shown_in names f) notes 0 f.blocks ++ line_text Close

abbrev pub no_notes : Notes
no_notes = record { phis = []; insts = [] }

-- the text of a function that may be taken out, and then has none
abbrev pub body_text : NamesState → Option FuncState → List ℕ
body_text names None = []
body_text names (Some f) = func_text names f no_notes

-- the lines of an item
abbrev pub item_text : ModuleState → Item → List ℕ
item_text m (item.Kept text) = ended text
item_text m (item.Global g text) = ended text
item_text m (item.Declared f text) = ended text
item_text m (item.Defined f) = body_text m.names (body_of m f.0)

-- whether an item is a function with a body
abbrev pub has_body : Item → Bool
has_body (item.Kept text) = false
has_body (item.Global g text) = false
has_body (item.Declared f text) = false
has_body (item.Defined f) = true

-- the empty line between two items of which one is a function with a body; there is none before the first item
abbrev pub gap : Option Bool → Bool → List ℕ
gap None after = []
gap (Some before) after = if before || after then 10 ∷ [] else []

-- the items behind one that is a function with a body, or is none, or behind nothing
abbrev pub items_text : ModuleState → Option Bool → List Item → List ℕ
items_text m before [] = []
items_text m before (x ∷ xs) = gap before (has_body x) ++ item_text m x ++ items_text m (Some (has_body x)) xs

-- the text of a module
abbrev pub module_text : ModuleState → List ℕ
module_text m = items_text m None m.items
