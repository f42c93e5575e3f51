-- Calls of a script's instructions: they say what the called function's line in the module says.
use Rattle.std.specs.Prelude.{◌≡◌, ℕ, List, Option, Some, map, take, length, slice_get, if◌then◌else◌}
use Rattle.ms_ir.specs.declared.names.Ty.{Ty}
use Rattle.ms_ir.specs.declared.names.Mark.{Mark}
use Rattle.ms_ir.specs.declared.names.Name.{Name}
use Rattle.ms_ir.specs.declared.names.Name.TheVariants.{Word}
use Rattle.ms_ir.specs.declared.module.Sig.{Sig}
use Rattle.ms_ir.specs.Module.{ModuleState}
use Rattle.ms_grammar.specs.declared.line.RawArg.{RawArg}
use Rattle.ms_grammar.specs.declared.line.RawInst.{RawInst}
use Rattle.ms_grammar.specs.declared.line.RawInst.TheVariants.{Alloca, Gep, Step, Load, Store, Copy, Call, Bin, Cmp, Select, Cast, Phi}

abbrev pub type_of_raw : RawArg → Ty
type_of_raw a = a.ty

abbrev pub type_of_mark : Mark → Ty
type_of_mark m = m.ty

-- the written types of arguments are those of the parameters; more may follow where the function is variadic
abbrev pub TypesFit : Sig → List RawArg → Type 0
TypesFit sig args =
    (if sig.variadic then take (length sig.params) (map type_of_raw args) else map type_of_raw args) ≡ map type_of_mark sig.params

-- the written result and argument types are those of a function's line
pub record IsCallOf (sig : Sig) (ret : Option Ty) (args : List RawArg) : Type 0 where
  pub ret_is : ret ≡ sig.ret
  pub types : TypesFit sig args

-- The callee is a function of the module, and is called as its line says.
pub record IsCallIn (m : ModuleState) (callee : Name) (ret : Option Ty) (args : List RawArg) : Type 0 where
  pub word : List ℕ
  pub func : ℕ
  pub sig : Sig
  pub callee_is : callee ≡ Word word
  pub func_is : slice_get m.names.funcs func ≡ Some word
  pub sig_is : slice_get m.sigs func ≡ Some sig
  pub call_is : IsCallOf sig ret args

-- what an instruction calls is called as it is there; a memcpy is no such call
abbrev pub CallsAsThere : ModuleState → RawInst → Type 0
CallsAsThere m (Call callee ret args head post tail) = IsCallIn m callee ret args
CallsAsThere m (Alloca size head tail) = Unit {0}
CallsAsThere m (Gep base offset head index tail) = Unit {0}
CallsAsThere m (Step base offset terms head index tail) = Unit {0}
CallsAsThere m (Load ty ptr tail) = Unit {0}
CallsAsThere m (Store ty val ptr tail) = Unit {0}
CallsAsThere m (Copy to from len head post tail) = Unit {0}
CallsAsThere m (Bin op flags ty a b tail) = Unit {0}
CallsAsThere m (Cmp pred flags ty a b tail) = Unit {0}
CallsAsThere m (Select cond ty a b tail) = Unit {0}
CallsAsThere m (Cast op flags from a to tail) = Unit {0}
CallsAsThere m (Phi ty entries tail) = Unit {0}
