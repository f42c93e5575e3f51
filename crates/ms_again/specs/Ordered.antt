-- When two modules are the same though their numbers stand in another order: they differ at most in the numbers of instructions and locals, in typed
-- numbers, in the numbers that are written for things without a name, and in the room that functions have. Each is put into one order: numbers are given
-- afresh in the order of the text.
use Rattle.std.specs.Prelude.{◌≡◌, ◌+◌, ◌==◌, ℕ, suc, ℤ, ◌+ℤ◌, Bool, true, false, List, [], ◌∷◌, length, map, Option, Some, None, if◌then◌else◌, nat_lt, filter}
use Rattle.std.specs.List.{flat_map}
use Rattle.std.specs.Option.{option_map}
use Rattle.ms_ir.specs.declared.names.Ty.{Ty}
use Rattle.ms_ir.specs.declared.names.LocalNo.{LocalNo}
use Rattle.ms_ir.specs.declared.inst.Val.{Val}
use Rattle.ms_ir.specs.declared.inst.Val.TheVariants.{Num, Local, Global}
use Rattle.ms_ir.specs.declared.inst.Arg.{Arg}
use Rattle.ms_ir.specs.declared.inst.Entry.{Entry}
use Rattle.ms_ir.specs.declared.inst.IndexTerm.{IndexTerm}
use Rattle.ms_ir.specs.declared.inst.Inst.{Inst}
use Rattle.ms_ir.specs.declared.inst.Inst.TheVariants.{Alloca, Gep, Step, Load, Store, Copy, Call, Bin, Cmp, Select, Cast, Phi}
use Rattle.ms_ir.specs.declared.inst.Term.{Term}
use Rattle.ms_ir.specs.declared.inst.Term.TheVariants.{Br, CondBr, Ret, Unreachable}
use Rattle.ms_ir.specs.Func.{Placed, Block, FuncState}
use Rattle.ms_ir.specs.Module.{ModuleState}
use Rattle.ms_grammar.specs.Numbers.{number_text}
use Rattle.ms_grammar.specs.Parts.{filled}
pub use Rattle.ms_reread.specs.Added.{signed_of, added_by, added_in}
use Rattle.ms_again.specs.Same.{own_name, plain_param}

abbrev pub is_number : Val → Bool
is_number (Num ty n) = true
is_number (Local l) = false
is_number (Global g) = false

abbrev pub is_open : IndexTerm → Bool
is_open t = if is_number t.val then false else true

abbrev pub step_of : Val → ℤ → List IndexTerm → List ℕ → List ℕ → List ℕ → Inst
step_of base offset [] head index tail = Gep base offset head index tail
step_of base offset (t ∷ ts) head index tail = Step base offset (t ∷ ts) head index tail

-- what stands for an index in the kept list: a number's text, and for any other value a percent sign
abbrev pub kept_value : Val → List ℕ
kept_value (Num ty n) = number_text ty n
kept_value (Local l) = 37 ∷ []
kept_value (Global g) = 37 ∷ []

abbrev pub kept_term : IndexTerm → List ℕ
kept_term t = kept_value t.val

-- A getelementptr as its line is read: indices that are numbers are summed up in the offset and stand in the kept list, and where all of them are
-- numbers it is a `Gep`.
abbrev pub joined : Val → ℤ → List IndexTerm → List ℕ → List ℕ → List ℕ → Inst
joined base offset terms head index tail = step_of base (offset +ℤ added_in terms) (filter is_open terms) head (filled (map kept_term terms) index) tail

-- an instruction and a terminator with other values
abbrev pub arg_by : (Val → Val) → Arg → Arg
arg_by v a = record a { val = v a.val }

abbrev pub index_by : (Val → Val) → IndexTerm → IndexTerm
index_by v t = record t { val = v t.val }

abbrev pub entry_by : (Val → Val) → Entry → Entry
entry_by v e = record e { val = v e.val }

abbrev pub inst_by : (Val → Val) → Inst → Inst
inst_by v (Alloca size head tail) = Alloca size head tail
inst_by v (Gep base offset head index tail) = Gep (v base) offset head index tail
inst_by v (Step base offset terms head index tail) = joined (v base) offset (map (index_by v) terms) head index tail
inst_by v (Load ty ptr tail) = Load ty (v ptr) tail
inst_by v (Store ty val ptr tail) = Store ty (v val) (v ptr) tail
inst_by v (Copy to from len head tail) = Copy (arg_by v to) (arg_by v from) len head tail
inst_by v (Call callee ret args effects head tail) = Call callee ret (map (arg_by v) args) effects head tail
inst_by v (Bin op flags ty a b tail) = Bin op flags ty (v a) (v b) tail
inst_by v (Cmp pred flags ty a b tail) = Cmp pred flags ty (v a) (v b) tail
inst_by v (Select cond ty a b tail) = Select (v cond) ty (v a) (v b) tail
inst_by v (Cast op flags from a to tail) = Cast op flags from (v a) to tail
inst_by v (Phi ty entries tail) = Phi ty (map (entry_by v) entries) tail

abbrev pub given_by : (Val → Val) → Option (Ty × Val) → Option (Ty × Val)
given_by v None = None
given_by v (Some given) = Some (given.0, v given.1)

abbrev pub term_by : (Val → Val) → Term → Term
term_by v (Br b text) = Br b text
term_by v (CondBr cond a b text) = CondBr (v cond) a b text
term_by v (Ret given text) = Ret (given_by v given) text
term_by v (Unreachable text) = Unreachable text

-- the results of a function, in the order of the text
abbrev pub number_in : Option LocalNo → List ℕ
number_in None = []
number_in (Some l) = l.0 ∷ []

abbrev pub result_of : Placed → List ℕ
result_of x = number_in x.result

abbrev pub results_of : Block → List ℕ
results_of b = flat_map result_of b.insts

abbrev pub results_in : List Block → List ℕ
results_in blocks = flat_map results_of blocks

-- the place of a number in a list, and the list's length where it is not there
abbrev pub place_in : List ℕ → ℕ → ℕ
place_in [] l = 0
place_in (k ∷ ks) l = if k == l then 0 else suc (place_in ks l)

-- the number that a local has in the order of the text: parameters come first, and what nothing gives last
abbrev pub local_at : ℕ → List ℕ → ℕ → ℕ
local_at params results l = if nat_lt l params then l else params + place_in results l

abbrev pub ordered_local : FuncState → LocalNo → LocalNo
ordered_local f l = record { 0 = local_at (length f.params) (results_in f.blocks) l.0 }

abbrev pub ordered_val : FuncState → Val → Val
ordered_val f (Num ty n) = Num ty n
ordered_val f (Local l) = Local (ordered_local f l)
ordered_val f (Global g) = Global g

-- an instruction that gets this number
abbrev pub ordered_inst : FuncState → ℕ → Placed → Placed
ordered_inst f n x = record { number = n; result = option_map (ordered_local f) x.result; name = own_name x.name; inst = inst_by (ordered_val f) x.inst }

-- instructions, where this is the next one's number
abbrev pub ordered_insts : FuncState → ℕ → List Placed → List Placed
ordered_insts f n [] = []
ordered_insts f n (x ∷ xs) = ordered_inst f n x ∷ ordered_insts f (suc n) xs

abbrev pub ordered_blocks : FuncState → ℕ → List Block → List Block
ordered_blocks f n [] = []
ordered_blocks f n (b ∷ bs) =
    record { name = own_name b.name; insts = ordered_insts f n b.insts; term = term_by (ordered_val f) b.term } ∷ ordered_blocks f (n + length b.insts) bs

abbrev pub insts_count : List Block → ℕ
insts_count [] = 0
insts_count (b ∷ bs) = length b.insts + insts_count bs

-- a function with its numbers in the order of the text, without written numbers and without room
abbrev pub ordered : FuncState → FuncState
ordered f = record f {
  params = map plain_param f.params;
  blocks = ordered_blocks f 0 f.blocks;
  made = insts_count f.blocks;
  locals = length f.params + length (results_in f.blocks);
  spare = 0;
}

-- a module of such functions
abbrev pub ordered_module : ModuleState → ModuleState
ordered_module m = record m { bodies = map (option_map ordered) m.bodies }

-- the modules differ in nothing else
pub record IsSameInOrder (m n : ModuleState) : Type 0 where
  pub same : ordered_module m ≡ ordered_module n
