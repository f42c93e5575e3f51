-- What lines give under their names, line by line. How much room a function has is left out.
use Rattle.std.specs.Prelude.{ℕ, suc, List, [], ◌∷◌, ◌++◌, Some, None, length, map, if◌then◌else◌, slice_index_or}
use Rattle.std.specs.Option.{option_map}
use Rattle.ms_ir.specs.declared.names.Name.{Name}
use Rattle.ms_ir.specs.declared.names.Name.TheVariants.{Absent}
use Rattle.ms_ir.specs.declared.module.Item.TheVariants as item
use Rattle.ms_ir.specs.declared.module.Sig.{Sig}
use Rattle.ms_ir.specs.Func.{FuncState, after_put, insts_at}
use Rattle.ms_ir.specs.Module.{ModuleState, IsNew}
use Rattle.ms_ir.specs.Symbols.{NamesState}
use Rattle.ms_grammar.specs.Form.{printed}
use Rattle.ms_grammar.specs.declared.line.Head.{Head}
use Rattle.ms_grammar.specs.declared.line.Line.{Line}
use Rattle.ms_grammar.specs.declared.line.Line.TheVariants as said
use Rattle.ms_grammar.specs.declared.line.RawInst.{RawInst}
use Rattle.ms_grammar.specs.declared.line.RawTerm.{RawTerm}
use Rattle.ms_names.specs.Made.{makes}
use Rattle.ms_resolve.specs.Meaning.{effects_in, keeps_in}
use Rattle.ms_resolve.specs.Scope.{Scope, inst_of, term_of, params_from, sig_in}
use Rattle.ms_names.specs.Draft.{register_in, body_lines}
use Rattle.ms_names.specs.declared.register.Register.{Register}
use Rattle.ms_names.specs.declared.symbols.Symbols.{Symbols}
use Rattle.ms_resolve.specs.declared.resolved.BodyLines.{BodyLines}

-- what lines are read under
abbrev pub scope_with : Register → Symbols → List Sig → List (ℕ × List ℕ) → Scope
scope_with r s sigs groups = record {
  locals = r.locals;
  blocks = r.blocks;
  funcs = s.funcs;
  globals = s.globals;
  sigs = sigs;
  effects = effects_in groups;
  keeps = keeps_in;
}

-- a function but for its room
abbrev pub bare : FuncState → FuncState
bare f = record f { spare = 0 }

-- a terminator makes an empty block
abbrev pub with_shell : Scope → FuncState → RawTerm → FuncState
with_shell s f t = record f { blocks = f.blocks ++ record { name = slice_index_or s.blocks (length f.blocks) Absent; insts = []; term = term_of s t } ∷ [] }

abbrev pub shell_line : Scope → FuncState → Line → FuncState
shell_line s f (said.Term t) = with_shell s f t
shell_line s f _ = f

abbrev pub shells_after : Scope → FuncState → List (ℕ × Line) → FuncState
shells_after s f [] = f
shells_after s f (l ∷ ls) = shells_after s (shell_line s f l.1) ls

-- an instruction comes to the end of a block
abbrev pub result_name : Scope → RawInst → ℕ → Name
result_name s inst l = if makes inst then slice_index_or s.locals l Absent else Absent

abbrev pub with_inst : Scope → ℕ → FuncState → RawInst → FuncState
with_inst s b f inst = bare (after_put f b (length (insts_at f.blocks b)) (inst_of s inst) (result_name s inst f.locals))

abbrev pub inst_line : Scope → ℕ → FuncState → Line → FuncState
inst_line s b f (said.Inst name inst) = with_inst s b f inst
inst_line s b f _ = bare f

-- the block of the next line
abbrev pub block_behind : ℕ → Line → ℕ
block_behind b (said.Term t) = suc b
block_behind b _ = b

abbrev pub insts_after : Scope → ℕ → FuncState → List (ℕ × Line) → FuncState
insts_after s b f [] = bare f
insts_after s b f (l ∷ ls) = insts_after s (block_behind b l.1) (inst_line s b f l.1) ls

-- a function without a block
abbrev pub head_in : Scope → Head → FuncState
head_in s head = record {
  name = head.name;
  head = head.attrs;
  ret = head.ret;
  params = params_from s 0 head.params;
  tail = head.post;
  blocks = [];
  made = 0;
  locals = length (params_from s 0 head.params);
  spare = 0;
}

abbrev pub func_in : Scope → Head → List (ℕ × Line) → FuncState
func_in s head body = insts_after s 0 (shells_after s (head_in s head) body) body

-- the lines of instructions and terminators
abbrev pub numbers_with : BodyLines → ℕ → Line → BodyLines
numbers_with b n (said.Inst name inst) = record { insts = b.insts ++ n ∷ []; terms = b.terms }
numbers_with b n (said.Term term) = record { insts = b.insts; terms = b.terms ++ n ∷ [] }
numbers_with b n _ = b

abbrev pub numbers_after : BodyLines → List (ℕ × Line) → BodyLines
numbers_after b [] = b
numbers_after b (l ∷ ls) = numbers_after (numbers_with b l.0 l.1) ls

abbrev pub no_numbers : BodyLines
no_numbers = record { insts = []; terms = [] }

-- groups
abbrev pub groups_with : List (ℕ × List ℕ) → Line → List (ℕ × List ℕ)
groups_with gs (said.Group number text) = gs ++ (number, text) ∷ []
groups_with gs _ = gs

abbrev pub groups_after : List (ℕ × List ℕ) → List (ℕ × Line) → List (ℕ × List ℕ)
groups_after gs [] = gs
groups_after gs (l ∷ ls) = groups_after (groups_with gs l.1) ls

-- what functions' lines say
abbrev pub sig_by : List (ℕ × List ℕ) → Head → Sig
sig_by groups head = sig_in (effects_in groups) keeps_in head

abbrev pub sigs_with : List (ℕ × List ℕ) → List Sig → Line → List Sig
sigs_with groups sigs (said.Declare head) = sigs ++ sig_by groups head ∷ []
sigs_with groups sigs (said.Define head) = sigs ++ sig_by groups head ∷ []
sigs_with groups sigs _ = sigs

abbrev pub sigs_after : List (ℕ × List ℕ) → List Sig → List (ℕ × Line) → List Sig
sigs_after groups sigs [] = sigs
sigs_after groups sigs (l ∷ ls) = sigs_after groups (sigs_with groups sigs l.1) ls

-- what a module's lines are read under
pub record Outer : Type 0 where
  pub symbols : Symbols
  pub sigs : List Sig
  pub groups : List (ℕ × List ℕ)

abbrev pub body_in : Outer → ℕ → Head → List (ℕ × Line) → FuncState
body_in o n head body = func_in (scope_with (register_in n head body) o.symbols o.sigs o.groups) head body

-- a module with a further item
abbrev pub with_kept : ModuleState → List ℕ → ModuleState
with_kept m text = record m { items = m.items ++ item.Kept text ∷ [] }

abbrev pub with_global_item : ModuleState → List ℕ → List ℕ → ModuleState
with_global_item m name text = record m {
  items = m.items ++ item.Global (record { 0 = length m.names.globals }) text ∷ [];
  names = record m.names { globals = m.names.globals ++ name ∷ [] };
}

abbrev pub with_declared : ModuleState → List ℕ → Sig → List ℕ → ModuleState
with_declared m name sig text = record m {
  items = m.items ++ item.Declared (record { 0 = length m.names.funcs }) text ∷ [];
  sigs = m.sigs ++ sig ∷ [];
  bodies = m.bodies ++ None ∷ [];
  names = record m.names { funcs = m.names.funcs ++ name ∷ [] };
}

abbrev pub with_defined : ModuleState → List ℕ → Sig → FuncState → ModuleState
with_defined m name sig body = record m {
  items = m.items ++ item.Defined (record { 0 = length m.names.funcs }) ∷ [];
  sigs = m.sigs ++ sig ∷ [];
  bodies = m.bodies ++ Some body ∷ [];
  names = record m.names { funcs = m.names.funcs ++ name ∷ [] };
}

abbrev pub module_with : Outer → ModuleState → ℕ → Line → List (ℕ × Line) → ModuleState
module_with o m n (said.Kept text) rest = with_kept m text
module_with o m n (said.Group number text) rest = with_kept m text
module_with o m n (said.GlobalVar name text) rest = with_global_item m name text
module_with o m n (said.Declare head) rest = with_declared m head.name (sig_by o.groups head) (printed (said.Declare head))
module_with o m n (said.Define head) rest = with_defined m head.name (sig_by o.groups head) (body_in o n head (body_lines rest))
module_with o m n _ rest = m

abbrev pub module_after : Outer → ModuleState → List (ℕ × Line) → ModuleState
module_after o m [] = m
module_after o m (l ∷ ls) = module_after o (module_with o m l.0 l.1 ls) ls

abbrev pub bare_module : ModuleState → ModuleState
bare_module m = record m { bodies = map (option_map bare) m.bodies }

abbrev pub no_module : List (ℕ × List ℕ) → ModuleState
no_module groups = record { groups = groups; items = []; sigs = []; bodies = []; names = record { funcs = []; globals = [] } }

-- the lines of the functions with a body
abbrev pub bodies_with : List BodyLines → Line → List (ℕ × Line) → List BodyLines
bodies_with bs (said.Define head) rest = bs ++ numbers_after no_numbers (body_lines rest) ∷ []
bodies_with bs _ rest = bs

abbrev pub bodies_after : List BodyLines → List (ℕ × Line) → List BodyLines
bodies_after bs [] = bs
bodies_after bs (l ∷ ls) = bodies_after (bodies_with bs l.1 ls) ls

-- each name of the lines is new
abbrev pub line_new : NamesState → Line → NamesState
line_new names (said.GlobalVar name text) = record names { globals = names.globals ++ name ∷ [] }
line_new names (said.Declare head) = record names { funcs = names.funcs ++ head.name ∷ [] }
line_new names (said.Define head) = record names { funcs = names.funcs ++ head.name ∷ [] }
line_new names _ = names

abbrev pub IsLineNew : NamesState → Line → Type 0
IsLineNew names (said.GlobalVar name text) = IsNew names name
IsLineNew names (said.Declare head) = IsNew names head.name
IsLineNew names (said.Define head) = IsNew names head.name
IsLineNew names _ = Unit {0}

abbrev pub AreNew : NamesState → List (ℕ × Line) → Type 0
AreNew names [] = Unit {0}
AreNew names (l ∷ ls) = IsLineNew names l.1 × AreNew (line_new names l.1) ls

-- the module of lines
abbrev pub built : Symbols → List (ℕ × Line) → ModuleState
built symbols ls =
    let groups = groups_after [] ls in
    module_after (record { symbols = symbols; sigs = sigs_after groups [] ls; groups = groups }) (no_module groups) ls
