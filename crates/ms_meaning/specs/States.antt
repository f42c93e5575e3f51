-- What a run begins with, and what it is at a moment.
use Rattle.std.specs.Prelude.{◌≡◌, ◌<◌, ◌⊎◌, ◌&&◌, ◌^◌, ◌==◌, ℕ, ℤ, pos, neg_ℤ, int_le, int_lt, Bool, false, true, List, [], length, map, Option, Some, None, slice_get, Contains, if◌then◌else◌}
use Rattle.ms_ir.specs.declared.names.Ty.{Ty}
use Rattle.ms_ir.specs.declared.names.Param.{Param}
use Rattle.ms_ir.specs.declared.names.FuncNo.{FuncNo}
use Rattle.ms_ir.specs.declared.names.GlobalNo.{GlobalNo}
use Rattle.ms_ir.specs.declared.names.LocalNo.{LocalNo}
use Rattle.ms_ir.specs.declared.inst.Val.{Val}
use Rattle.ms_ir.specs.declared.inst.Val.TheVariants.{Num, Local, Global}
use Rattle.ms_ir.specs.Func.{Placed, Block, FuncState, insts_at}
use Rattle.ms_ir.specs.Uses.{operands_of, term_operands}
use Rattle.ms_meaning.specs.Values.{Byte, Unset, Is, Value, Number, Pointer, bits, is_integer, type_of}
use Rattle.ms_meaning.specs.Memory.{Written}

-- what a called function gives back: a result, where it has one, and bytes that it writes, in this order
pub record Answer : Type 0 where
  pub result : Option Value
  pub writes : List Written

-- The arguments, the outer objects, and the answers of calls in their order. Object k is that of global k, where the function names it.
pub record Input : Type 0 where
  pub args : List Value
  pub objects : List (List Byte)
  pub answers : List Answer

-- a call that was made: the function, the arguments, and all bytes that it may read, object by object
pub record Made : Type 0 where
  pub callee : FuncNo
  pub args : List Value
  pub bytes : List Byte

-- A moment of a run: the next instruction is the one at a place of a block, or the block's terminator behind the last. The outer
-- objects come first; behind them stand those of allocas, in the order in which they were made.
pub record State : Type 0 where
  pub block : ℕ
  pub place : ℕ
  pub locals : ℕ → Option Value
  pub objects : List (List Byte)
  pub outer : ℕ
  pub escaped : ℕ → Bool
  pub calls : List Made
  pub answers : List Answer

-- the value of an operand; none where the local has none
abbrev pub value_of : (ℕ → Option Value) → Val → Option Value
value_of locals (Num ty n) = Some (Number ty n)
value_of locals (Local l) = locals l.0
value_of locals (Global g) = Some (Pointer g.0 (pos 0))

-- the same where the operand has the type that is written for it
abbrev pub value_as : Ty → Option Value → Option Value
value_as ty None = None
value_as ty (Some v) = if bits (type_of v) == bits ty then Some v else None

abbrev pub operand_of : (ℕ → Option Value) → Ty → Val → Option Value
operand_of locals ty val = value_as ty (value_of locals val)

-- a local gets a value
abbrev pub with_local : LocalNo → Value → (ℕ → Option Value) → ℕ → Option Value
with_local l v locals k = if k == l.0 then Some v else locals k

-- the number of a value of an integer type
abbrev pub number_as : Ty → Option Value → Option ℕ
number_as ty None = None
number_as ty (Some (Number t n)) = if bits t == bits ty then Some n else None
number_as ty (Some (Pointer o at)) = None

-- the run's first moment
abbrev pub begun : Input → State
begun input = record {
  block = 0;
  place = 0;
  locals = slice_get input.args;
  objects = input.objects;
  outer = length input.objects;
  escaped = (λ o. false);
  calls = [];
  answers = input.answers;
}

-- offsets that a pointer can have
abbrev pub is_offset : ℤ → Bool
is_offset at = int_le (neg_ℤ (pos (2 ^ 63))) at && int_lt at (pos (2 ^ 63))

abbrev pub IsNumberOf : Ty → ℕ → Type 0
IsNumberOf ty n = (is_integer ty ≡ true) × (n < 2 ^ bits ty)

-- the value is a number of its type, or a pointer into one of so many objects
abbrev pub IsProper : ℕ → Value → Type 0
IsProper outer (Number ty n) = IsNumberOf ty n
IsProper outer (Pointer o at) = (o < outer) × (is_offset at ≡ true)

abbrev pub IsByte : Byte → Type 0
IsByte Unset = Unit {0}
IsByte (Is n) = n < 256

-- an answer's numbers are numbers of their types
pub record FitsTypes (a : Answer) : Type 0 where
  pub result : (ty : Ty) (n : ℕ) → a.result ≡ Some (Number ty n) → IsNumberOf ty n
  pub writes : (w : Written) → Contains a.writes w → IsByte w.byte

-- an instruction or a terminator of the function names the global
abbrev pub NamesGlobal : FuncState → GlobalNo → Type 0
NamesGlobal f g = ((b k : ℕ) × (x : Placed) × (slice_get (insts_at f.blocks b) k ≡ Some x) × Contains (map (λ o. o.val) (operands_of x.inst)) (Global g))
    ⊎ ((block : Block) × Contains f.blocks block × Contains (map (λ o. o.val) (term_operands block.term)) (Global g))

abbrev pub type_of_param : Param → Ty
type_of_param p = p.ty

-- An input of the function: an argument for each parameter, of its type, where pointers point into outer objects; and an object for each global
-- that the function names.
pub record IsInput (f : FuncState) (input : Input) : Type 0 where
  pub types : map type_of input.args ≡ map type_of_param f.params
  pub args : (v : Value) → Contains input.args v → IsProper (length input.objects) v
  pub bytes : (object : List Byte) → Contains input.objects object → (b : Byte) → Contains object b → IsByte b
  pub answers : (a : Answer) → Contains input.answers a → FitsTypes a
  pub globals : (g : GlobalNo) → NamesGlobal f g → g.0 < length input.objects
