-- The limits of a line, each of which a line of the language may pass.
use Rattle.std.specs.Prelude.{ℕ, ℤ, pos, ◌-ℤ◌, ◌≤ℤ◌, ◌≤◌, List, [], ◌∷◌, ◌++◌, Option, Some, None, length}
use Rattle.std.specs.List.{flat_map}
use Rattle.ms_ir.specs.declared.names.Ty.{Ty}
use Rattle.ms_ir.specs.declared.names.Param.{Param}
use Rattle.ms_grammar.specs.Kept.{Each}
use Rattle.ms_grammar.specs.Form.{name_text}
use Rattle.ms_grammar.specs.declared.line.RawVal.{RawVal}
use Rattle.ms_grammar.specs.declared.line.RawVal.TheVariants.{Num, Local, Global}
use Rattle.ms_grammar.specs.declared.line.RawArg.{RawArg}
use Rattle.ms_grammar.specs.declared.line.RawEntry.{RawEntry}
use Rattle.ms_grammar.specs.declared.line.RawIndex.{RawIndex}
use Rattle.ms_grammar.specs.declared.line.Head.{Head}
use Rattle.ms_grammar.specs.declared.line.RawInst.{RawInst}
use Rattle.ms_grammar.specs.declared.line.RawInst.TheVariants.{Alloca, Gep, Step, Load, Store, Copy, Call, Bin, Cmp, Select, Cast, Phi}
use Rattle.ms_grammar.specs.declared.line.RawTerm.{RawTerm}
use Rattle.ms_grammar.specs.declared.line.RawTerm.TheVariants.{Br, CondBr, Ret, Unreachable}
use Rattle.ms_grammar.specs.declared.line.Line.{Line}
use Rattle.ms_grammar.specs.declared.line.Line.TheVariants as line

-- the names that a line gives one by one, without their marks
abbrev pub names_of_value : RawVal → List (List ℕ)
names_of_value (Num _ _) = []
names_of_value (Local n) = name_text n ∷ []
names_of_value (Global n) = name_text n ∷ []

abbrev pub names_of_arg : RawArg → List (List ℕ)
names_of_arg a = names_of_value a.val

abbrev pub names_of_param : Param → List (List ℕ)
names_of_param p = name_text p.name ∷ []

abbrev pub names_of_entry : RawEntry → List (List ℕ)
names_of_entry e = name_text e.from ∷ names_of_value e.val

abbrev pub names_of_index : RawIndex → List (List ℕ)
names_of_index t = names_of_value t.val

abbrev pub names_of_inst : RawInst → List (List ℕ)
names_of_inst (Alloca _ _ _) = []
names_of_inst (Gep base _ _ _ _) = names_of_value base
names_of_inst (Step base _ terms _ _ _) = names_of_value base ++ flat_map names_of_index terms
names_of_inst (Load _ ptr _) = names_of_value ptr
names_of_inst (Store _ val ptr _) = names_of_value val ++ names_of_value ptr
names_of_inst (Copy to from _ _ _ _) = names_of_arg to ++ names_of_arg from
names_of_inst (Call callee _ args _ _ _) = name_text callee ∷ flat_map names_of_arg args
names_of_inst (Bin _ _ _ a b _) = names_of_value a ++ names_of_value b
names_of_inst (Cmp _ _ _ a b _) = names_of_value a ++ names_of_value b
names_of_inst (Select cond _ a b _) = names_of_value cond ++ names_of_value a ++ names_of_value b
names_of_inst (Cast _ _ _ a _ _) = names_of_value a
names_of_inst (Phi _ entries _) = flat_map names_of_entry entries

abbrev pub names_of_given : Option (Ty × RawVal) → List (List ℕ)
names_of_given None = []
names_of_given (Some given) = names_of_value given.1

abbrev pub names_of_term : RawTerm → List (List ℕ)
names_of_term (Br target _) = name_text target ∷ []
names_of_term (CondBr cond if_true if_false _) = name_text if_true ∷ name_text if_false ∷ names_of_value cond
names_of_term (Ret given _) = names_of_given given
names_of_term (Unreachable _) = []

abbrev pub names_of_head : Head → List (List ℕ)
names_of_head h = h.name ∷ flat_map names_of_param h.params

abbrev pub names_of : Line → List (List ℕ)
names_of line.Empty = []
names_of line.Close = []
names_of (line.Kept _) = []
names_of (line.Group _ _) = []
names_of (line.GlobalVar name _) = name ∷ []
names_of (line.Label n) = name_text n ∷ []
names_of (line.Declare head) = names_of_head head
names_of (line.Define head) = names_of_head head
names_of (line.Inst n inst) = name_text n ∷ names_of_inst inst
names_of (line.Term term) = names_of_term term

-- a name has at most 255 bytes
abbrev pub IsShort : List ℕ → Type 0
IsShort name = length name ≤ 255

-- an offset is at most 2^31 bytes either way, and so much an index counts by
abbrev pub IsNearOffset : ℤ → Type 0
IsNearOffset offset = ((pos 0 -ℤ pos 2147483648) ≤ℤ offset) × (offset ≤ℤ pos 2147483648)

abbrev pub IsSmallTerm : RawIndex → Type 0
IsSmallTerm t = t.scale ≤ 2147483648

-- an alloca has at most 65,536 bytes, a memcpy at most 4,096
abbrev pub IsSmallInst : RawInst → Type 0
IsSmallInst (Alloca size _ _) = size ≤ 65536
IsSmallInst (Gep _ offset _ _ _) = IsNearOffset offset
IsSmallInst (Step _ offset terms _ _ _) = IsNearOffset offset × Each IsSmallTerm terms
IsSmallInst (Load _ _ _) = Unit {0}
IsSmallInst (Store _ _ _ _) = Unit {0}
IsSmallInst (Copy _ _ len _ _ _) = len ≤ 4096
IsSmallInst (Call _ _ _ _ _ _) = Unit {0}
IsSmallInst (Bin _ _ _ _ _ _) = Unit {0}
IsSmallInst (Cmp _ _ _ _ _ _) = Unit {0}
IsSmallInst (Select _ _ _ _ _) = Unit {0}
IsSmallInst (Cast _ _ _ _ _ _) = Unit {0}
IsSmallInst (Phi _ _ _) = Unit {0}

abbrev pub IsSmall : Line → Type 0
IsSmall (line.Inst _ inst) = IsSmallInst inst
IsSmall _ = Unit {0}

abbrev pub IsWithinLimits : Line → Type 0
IsWithinLimits l = Each IsShort (names_of l) × IsSmall l
