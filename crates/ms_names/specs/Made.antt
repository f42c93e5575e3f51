-- What the lines of a function make: its parameters, blocks and results in the order of the text, and the names that they get. A thing
-- without a name gets the next free number; a written number makes the one behind it the next.
use Rattle.std.specs.Prelude.{◌+◌, ◌==◌, ℕ, Bool, true, false, List, [], ◌∷◌, ◌++◌, Option, Some, None, map, is_some, if◌then◌else◌, not, filter}
use Rattle.std.specs.List.{flat_map}
use Rattle.std.specs.Str.{bytes_eq}
use Rattle.ms_ir.specs.declared.names.Name.{Name}
use Rattle.ms_ir.specs.declared.names.Name.TheVariants.{Word, Number, Absent}
use Rattle.ms_ir.specs.declared.names.Param.{Param}
use Rattle.ms_grammar.specs.declared.line.RawInst.{RawInst}
use Rattle.ms_grammar.specs.declared.line.RawInst.TheVariants.{Alloca, Gep, Step, Load, Store, Copy, Call, Bin, Cmp, Select, Cast, Phi}
use Rattle.ms_names.specs.Shape.{LabelLine, InstLine, BlockLines, FuncLines}

-- a parameter, block or result, with the line that makes it and the name that is written for it
pub record Made : Type 0 where
  pub line : ℕ
  pub is_block : Bool
  pub name : Name

-- whether an instruction gives a result
abbrev pub makes : RawInst → Bool
makes (Alloca _ _ _) = true
makes (Gep _ _ _ _ _) = true
makes (Step _ _ _ _ _ _) = true
makes (Load _ _ _) = true
makes (Store _ _ _ _) = false
makes (Copy _ _ _ _ _ _) = false
makes (Call _ ret _ _ _ _) = is_some ret
makes (Bin _ _ _ _ _ _) = true
makes (Cmp _ _ _ _ _ _) = true
makes (Select _ _ _ _ _) = true
makes (Cast _ _ _ _ _ _) = true
makes (Phi _ _ _) = true

abbrev pub param_made : ℕ → Param → Made
param_made n p = record { line = n; is_block = false; name = p.name }

abbrev pub inst_made : InstLine → List Made
inst_made x = if makes x.inst then record { line = x.line; is_block = false; name = x.name } ∷ [] else []

-- a block without a label line begins with the function
abbrev pub label_made : ℕ → Option LabelLine → Made
label_made n None = record { line = n; is_block = true; name = Absent }
label_made n (Some l) = record { line = l.line; is_block = true; name = l.name }

abbrev pub block_made : ℕ → BlockLines → List Made
block_made n b = label_made n b.label ∷ flat_map inst_made b.insts

abbrev pub made_in : FuncLines → List Made
made_in f = map (param_made f.line) f.head.params ++ flat_map (block_made f.line) f.blocks

-- the name that a thing gets, where this number is the next free one
abbrev pub full_name : ℕ → Name → Name
full_name next (Word text) = Word text
full_name next (Number n) = Number n
full_name next Absent = Number next

-- the next free number behind a name
abbrev pub free_behind : ℕ → Name → ℕ
free_behind next (Word text) = next
free_behind next (Number n) = n + 1
free_behind next Absent = next + 1

-- the same behind several things
abbrev pub free_after : ℕ → List Made → ℕ
free_after next [] = next
free_after next (m ∷ ms) = free_after (free_behind next m.name) ms

-- things with the names that they get
abbrev pub named_from : ℕ → List Made → List Made
named_from next [] = []
named_from next (m ∷ ms) = record m { name = full_name next m.name } ∷ named_from (free_behind next m.name) ms

abbrev pub named_in : FuncLines → List Made
named_in f = named_from 0 (made_in f)

abbrev pub name_of_made : Made → Name
name_of_made m = m.name

-- the names of a function's locals, and of its blocks, in the order of their numbers
abbrev pub locals_of : FuncLines → List Name
locals_of f = map name_of_made (filter (λ m. not m.is_block) (named_in f))

abbrev pub blocks_of : FuncLines → List Name
blocks_of f = map name_of_made (filter (λ m. m.is_block) (named_in f))

abbrev pub is_same_name : Name → Name → Bool
is_same_name (Word a) (Word b) = bytes_eq a b
is_same_name (Number a) (Number b) = a == b
is_same_name _ _ = false
