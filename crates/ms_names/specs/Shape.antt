-- The shape of a module's lines: its items in the order of the text, and each function with its blocks.
use Rattle.std.specs.Prelude.{◌≡◌, ℕ, Bool, true, false, List, [], ◌∷◌, ◌++◌, Option, Some, None, map, is_some}
use Rattle.std.specs.List.{flat_map}
use Rattle.ms_ir.specs.declared.names.Name.{Name}
use Rattle.ms_grammar.specs.Kept.{Each}
use Rattle.ms_grammar.specs.declared.line.Head.{Head}
use Rattle.ms_grammar.specs.declared.line.Line.{Line}
use Rattle.ms_grammar.specs.declared.line.Line.TheVariants as said
use Rattle.ms_grammar.specs.declared.line.RawInst.{RawInst}
use Rattle.ms_grammar.specs.declared.line.RawTerm.{RawTerm}

pub record LabelLine : Type 0 where
  pub line : ℕ
  pub name : Name

pub record InstLine : Type 0 where
  pub line : ℕ
  pub name : Name
  pub inst : RawInst

pub record TermLine : Type 0 where
  pub line : ℕ
  pub term : RawTerm

pub record BlockLines : Type 0 where
  pub label : Option LabelLine
  pub insts : List InstLine
  pub end : TermLine

pub record FuncLines : Type 0 where
  pub line : ℕ
  pub head : Head
  pub blocks : List BlockLines
  pub close : ℕ

-- a line outside functions, or a function
pub data ItemLines : Type 0 where
  plain : ℕ → Line → ItemLines
  body : FuncLines → ItemLines

abbrev pub label_lines : Option LabelLine → List (ℕ × Line)
label_lines None = []
label_lines (Some l) = (l.line, said.Label l.name) ∷ []

abbrev pub inst_line : InstLine → ℕ × Line
inst_line x = (x.line, said.Inst x.name x.inst)

abbrev pub block_lines : BlockLines → List (ℕ × Line)
block_lines b = label_lines b.label ++ map inst_line b.insts ++ (b.end.line, said.Term b.end.term) ∷ []

abbrev pub func_lines : FuncLines → List (ℕ × Line)
func_lines f = (f.line, said.Define f.head) ∷ flat_map block_lines f.blocks ++ (f.close, said.Close) ∷ []

abbrev pub item_lines : ItemLines → List (ℕ × Line)
item_lines (plain n line) = (n, line) ∷ []
item_lines (body f) = func_lines f

-- a line that may stand outside functions
abbrev pub stands_outside : Line → Bool
stands_outside (said.Kept _) = true
stands_outside (said.Group _ _) = true
stands_outside (said.GlobalVar _ _) = true
stands_outside (said.Declare _) = true
stands_outside _ = false

abbrev pub HasLabel : BlockLines → Type 0
HasLabel b = is_some b.label ≡ true

-- a function has a block, and each block but the first has a label line
abbrev pub HasBlocks : List BlockLines → Type 0
HasBlocks [] = ⊥
HasBlocks (b ∷ bs) = Each HasLabel bs

abbrev pub IsItem : ItemLines → Type 0
IsItem (plain n line) = stands_outside line ≡ true
IsItem (body f) = HasBlocks f.blocks

-- the lines of a draft in their items
pub record IsShape (draft : List (ℕ × Line)) (items : List ItemLines) : Type 0 where
  pub lines : draft ≡ flat_map item_lines items
  pub each : Each IsItem items
