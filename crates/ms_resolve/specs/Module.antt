-- The module that a draft's lines give, and the line of each instruction and terminator.
use Rattle.std.specs.Prelude.{◌≡◌, ℕ, suc, Bool, List, [], ◌∷◌, Option, Some, None, map}
use Rattle.std.specs.List.{flat_map}
use Rattle.ms_ir.specs.declared.inst.Effects.{Effects}
use Rattle.ms_ir.specs.declared.module.Item.{Item}
use Rattle.ms_ir.specs.declared.module.Item.TheVariants as item
use Rattle.ms_ir.specs.declared.module.Sig.{Sig}
use Rattle.ms_ir.specs.Func.{FuncState}
use Rattle.ms_ir.specs.Module.{ModuleState}
use Rattle.ms_ir.specs.Symbols.{NamesState}
use Rattle.ms_grammar.specs.Form.{printed}
use Rattle.ms_grammar.specs.declared.line.Line.TheVariants as said
use Rattle.ms_names.specs.Shape.{InstLine, BlockLines, FuncLines, ItemLines, plain, body}
pub use Rattle.ms_names.specs.Faults.{func_names_in, global_names_in}
use Rattle.ms_names.specs.Made.{locals_of, blocks_of}
use Rattle.ms_resolve.specs.Scope.{Meaning, Scope, sig_in, func_of}

-- the groups, in the order of their lines
abbrev pub group_of : ItemLines → List (ℕ × List ℕ)
group_of (plain n (said.Group number text)) = (number, text) ∷ []
group_of _ = []

abbrev pub groups_of : List ItemLines → List (ℕ × List ℕ)
groups_of items = flat_map group_of items

abbrev pub names_of : List ItemLines → NamesState
names_of items = record { funcs = flat_map func_names_in items; globals = flat_map global_names_in items }

-- what the functions' lines say
abbrev pub sigs_in : (List ℕ → Effects) → (List ℕ → Bool) → ItemLines → List Sig
sigs_in effects keeps (plain n (said.Declare head)) = sig_in effects keeps head ∷ []
sigs_in effects keeps (plain n _) = []
sigs_in effects keeps (body f) = sig_in effects keeps f.head ∷ []

-- the items, where these are the next numbers of a function and of a global; groups are kept lines
abbrev pub items_from : ℕ → ℕ → List ItemLines → List Item
items_from f g [] = []
items_from f g (plain n (said.Kept text) ∷ rest) = item.Kept text ∷ items_from f g rest
items_from f g (plain n (said.Group number text) ∷ rest) = item.Kept text ∷ items_from f g rest
items_from f g (plain n (said.GlobalVar name text) ∷ rest) = item.Global (record { 0 = g }) text ∷ items_from f (suc g) rest
items_from f g (plain n (said.Declare head) ∷ rest) = item.Declared (record { 0 = f }) (printed (said.Declare head)) ∷ items_from (suc f) g rest
items_from f g (plain n _ ∷ rest) = items_from f g rest
items_from f g (body lines ∷ rest) = item.Defined (record { 0 = f }) ∷ items_from (suc f) g rest

-- what a function's lines are read under
abbrev pub scope_of : (List ℕ → Effects) → (List ℕ → Bool) → List ItemLines → FuncLines → Scope
scope_of effects keeps items f = record {
  locals = locals_of f;
  blocks = blocks_of f;
  funcs = flat_map func_names_in items;
  globals = flat_map global_names_in items;
  sigs = flat_map (sigs_in effects keeps) items;
  effects = effects;
  keeps = keeps;
}

-- the bodies of functions, where each has this much room by its name
abbrev pub bodies_in : (FuncLines → Scope) → (List ℕ → ℕ) → ItemLines → List (Option FuncState)
bodies_in scope spare (plain n (said.Declare head)) = None ∷ []
bodies_in scope spare (plain n _) = []
bodies_in scope spare (body f) = Some (func_of (scope f) (spare f.head.name) f) ∷ []

-- the module of these items
abbrev pub module_of : (List ℕ → Effects) → (List ℕ → Bool) → (List ℕ → ℕ) → List ItemLines → ModuleState
module_of effects keeps spare items = record {
  groups = groups_of items;
  items = items_from 0 0 items;
  sigs = flat_map (sigs_in effects keeps) items;
  bodies = flat_map (bodies_in (scope_of effects keeps items) spare) items;
  names = names_of items;
}

-- the module is the one of these items
pub record IsModuleOf (items : List ItemLines) (m : ModuleState) : Type 0 where
  pub meaning : Meaning (groups_of items)
  pub spare : List ℕ → ℕ
  pub module_is : m ≡ module_of meaning.effects meaning.keeps spare items

-- the line of each instruction of a function, by its number, and of each block's terminator
abbrev pub line_of_inst : InstLine → ℕ
line_of_inst x = x.line

abbrev pub inst_lines_in : BlockLines → List ℕ
inst_lines_in b = map line_of_inst b.insts

abbrev pub inst_lines_of : FuncLines → List ℕ
inst_lines_of f = flat_map inst_lines_in f.blocks

abbrev pub term_line_of : BlockLines → ℕ
term_line_of b = b.end.line

abbrev pub term_lines_of : FuncLines → List ℕ
term_lines_of f = map term_line_of f.blocks

-- the functions with a body
abbrev pub body_in : ItemLines → List FuncLines
body_in (plain n line) = []
body_in (body f) = f ∷ []

abbrev pub funcs_of : List ItemLines → List FuncLines
funcs_of items = flat_map body_in items
