-- The names that lines use.
use Rattle.std.specs.Prelude.{ℕ, List, [], ◌∷◌, ◌++◌, Some, None, map}
use Rattle.std.specs.List.{flat_map}
use Rattle.ms_ir.specs.declared.names.Name.{Name}
use Rattle.ms_grammar.specs.Form.{name_text}
use Rattle.ms_grammar.specs.declared.line.RawVal.{RawVal}
use Rattle.ms_grammar.specs.declared.line.RawVal.TheVariants.{Num, Local, Global}
use Rattle.ms_grammar.specs.declared.line.RawArg.{RawArg}
use Rattle.ms_grammar.specs.declared.line.RawEntry.{RawEntry}
use Rattle.ms_grammar.specs.declared.line.RawIndex.{RawIndex}
use Rattle.ms_grammar.specs.declared.line.RawInst.{RawInst}
use Rattle.ms_grammar.specs.declared.line.RawInst.TheVariants.{Alloca, Gep, Step, Load, Store, Copy, Call, Bin, Cmp, Select, Cast, Phi}
use Rattle.ms_grammar.specs.declared.line.RawTerm.{RawTerm}
use Rattle.ms_grammar.specs.declared.line.RawTerm.TheVariants.{Br, CondBr, Ret, Unreachable}

abbrev pub arg_value : RawArg → RawVal
arg_value a = a.val

abbrev pub entry_value : RawEntry → RawVal
entry_value e = e.val

abbrev pub entry_block : RawEntry → Name
entry_block e = e.from

abbrev pub index_value : RawIndex → RawVal
index_value t = t.val

-- the values of an instruction, in the order of its line
abbrev pub values_of : RawInst → List RawVal
values_of (Alloca size head rest) = []
values_of (Gep base offset head index rest) = base ∷ []
values_of (Step base offset terms head index rest) = base ∷ map index_value terms
values_of (Load ty ptr rest) = ptr ∷ []
values_of (Store ty val ptr rest) = val ∷ ptr ∷ []
values_of (Copy to from len head behind rest) = to.val ∷ from.val ∷ []
values_of (Call callee ret args head behind rest) = map arg_value args
values_of (Bin op flags ty a b rest) = a ∷ b ∷ []
values_of (Cmp pred flags ty a b rest) = a ∷ b ∷ []
values_of (Select cond ty a b rest) = cond ∷ a ∷ b ∷ []
values_of (Cast op flags from a to rest) = a ∷ []
values_of (Phi ty entries rest) = map entry_value entries

abbrev pub term_values : RawTerm → List RawVal
term_values (Br to rest) = []
term_values (CondBr cond if_true if_false rest) = cond ∷ []
term_values (Ret None rest) = []
term_values (Ret (Some given) rest) = given.1 ∷ []
term_values (Unreachable rest) = []

abbrev pub local_of : RawVal → List Name
local_of (Num ty n) = []
local_of (Local n) = n ∷ []
local_of (Global n) = []

abbrev pub global_of : RawVal → List (List ℕ)
global_of (Num ty n) = []
global_of (Local n) = []
global_of (Global n) = name_text n ∷ []

-- the blocks that a line names
abbrev pub inst_blocks : RawInst → List Name
inst_blocks (Alloca size head rest) = []
inst_blocks (Gep base offset head index rest) = []
inst_blocks (Step base offset terms head index rest) = []
inst_blocks (Load ty ptr rest) = []
inst_blocks (Store ty val ptr rest) = []
inst_blocks (Copy to from len head behind rest) = []
inst_blocks (Call callee ret args head behind rest) = []
inst_blocks (Bin op flags ty a b rest) = []
inst_blocks (Cmp pred flags ty a b rest) = []
inst_blocks (Select cond ty a b rest) = []
inst_blocks (Cast op flags from a to rest) = []
inst_blocks (Phi ty entries rest) = map entry_block entries

abbrev pub term_blocks : RawTerm → List Name
term_blocks (Br to rest) = to ∷ []
term_blocks (CondBr cond if_true if_false rest) = if_true ∷ if_false ∷ []
term_blocks (Ret given rest) = []
term_blocks (Unreachable rest) = []

-- the function that an instruction calls
abbrev pub callee_of : RawInst → List (List ℕ)
callee_of (Alloca size head rest) = []
callee_of (Gep base offset head index rest) = []
callee_of (Step base offset terms head index rest) = []
callee_of (Load ty ptr rest) = []
callee_of (Store ty val ptr rest) = []
callee_of (Copy to from len head behind rest) = []
callee_of (Call callee ret args head behind rest) = name_text callee ∷ []
callee_of (Bin op flags ty a b rest) = []
callee_of (Cmp pred flags ty a b rest) = []
callee_of (Select cond ty a b rest) = []
callee_of (Cast op flags from a to rest) = []
callee_of (Phi ty entries rest) = []

-- the names of one line: locals, blocks, and functions and globals of the module
pub record Names : Type 0 where
  pub locals : List Name
  pub blocks : List Name
  pub symbols : List (List ℕ)

abbrev pub inst_names : RawInst → Names
inst_names i = record { locals = flat_map local_of (values_of i); blocks = inst_blocks i; symbols = flat_map global_of (values_of i) ++ callee_of i }

abbrev pub term_names : RawTerm → Names
term_names t = record { locals = flat_map local_of (term_values t); blocks = term_blocks t; symbols = flat_map global_of (term_values t) }
