-- What a call does in a run.
use Rattle.std.specs.Prelude.{◌&&◌, ◌||◌, ◌+◌, ◌==◌, ◌++◌, ℕ, Bool, true, false, nat_lt, List, [], ◌∷◌, Option, Some, None, if◌then◌else◌}
use Rattle.std.specs.List.{list_any, list_all}
use Rattle.ms_ir.specs.declared.names.Ty.{Ty}
use Rattle.ms_ir.specs.declared.inst.Arg.{Arg}
use Rattle.ms_ir.specs.declared.inst.Effects.{Effects}
use Rattle.ms_meaning.specs.Values.{Byte, Value, Number, Pointer, bits}
use Rattle.ms_meaning.specs.Memory.{Written, is_within}
use Rattle.ms_meaning.specs.States.{State, operand_of}

abbrev pub value_before : Option Value → Option (List Value) → Option (List Value)
value_before (Some v) (Some vs) = Some (v ∷ vs)
value_before _ _ = None

-- the values of arguments
abbrev pub values_of : (ℕ → Option Value) → List Arg → Option (List Value)
values_of locals [] = Some []
values_of locals (a ∷ args) = value_before (operand_of locals a.ty a.val) (values_of locals args)

abbrev pub points_into : ℕ → Value → Bool
points_into o (Number ty n) = false
points_into o (Pointer p at) = p == o

-- some argument points into the object
abbrev pub is_passed : List Value → ℕ → Bool
is_passed values o = list_any (points_into o) values

-- some argument that the callee may keep does
abbrev pub is_kept : List Arg → List Value → ℕ → Bool
is_kept (a ∷ args) (v ∷ values) o = (a.keeps && points_into o v) || is_kept args values o
is_kept _ _ o = false

-- the objects of allocas that have escaped when the call is made, this call included
abbrev pub escaped_with : State → List Arg → List Value → ℕ → Bool
escaped_with s args values o = s.escaped o || is_kept args values o

-- an outer object, or one of these
abbrev pub is_open : State → (ℕ → Bool) → ℕ → Bool
is_open s escaped o = nat_lt o s.outer || escaped o

-- what a call with these arguments may read, and what it may write
abbrev pub may_read_object : State → Effects → List Arg → List Value → ℕ → Bool
may_read_object s e args values o = (e.arg_read && is_passed values o) || (e.other_read && is_open s (escaped_with s args values) o)

abbrev pub may_write_object : State → Effects → List Arg → List Value → ℕ → Bool
may_write_object s e args values o = (e.arg_write && is_passed values o) || (e.other_write && is_open s (escaped_with s args values) o)

-- the bytes of the objects that pass the test, from this object on
abbrev pub bytes_in : (ℕ → Bool) → ℕ → List (List Byte) → List Byte
bytes_in reads o [] = []
bytes_in reads o (object ∷ objects) = (if reads o then object else []) ++ bytes_in reads (o + 1) objects

-- the result is one of this type, or there is none and should be none
abbrev pub is_result : Option Ty → Option Value → Bool
is_result None None = true
is_result (Some ty) (Some (Number t n)) = bits t == bits ty
is_result _ _ = false

-- the bytes that an answer writes are bytes that the call may write
abbrev pub are_reached : State → Effects → List Arg → List Value → List Written → Bool
are_reached s e args values writes = list_all (λ (w : Written). may_write_object s e args values w.object && is_within s.objects w) writes
