-- What the answers of this crate tell.
use Rattle.std.specs.Prelude.{◌≡◌, ℕ, List, [], Option, Some, Result, Ok, Err, slice_index_or}
use Rattle.ms_grammar.specs.declared.line.Line.{Line}
use Rattle.ms_ir.specs.Module.{ModuleState}
use Rattle.ms_validity.specs.Cause.{IsAccepted, IsValidCause}
use Rattle.ms_validity.specs.declared.fault.ValidFault.{ValidFault}
use Rattle.ms_output.specs.Forms.{IsWrittenOf}
use Rattle.ms_output.specs.Funcs.{funcs_said}
use Rattle.ms_output.specs.Output.{valid_refusal, IsOutput, IsRefusal, IsFuncIn}
use Rattle.ms_output.specs.declared.refusal.Refusal.{Refusal}
use Rattle.ms_output.specs.declared.unwritten.Unwritten.{Unwritten}
use Rattle.ms_output.specs.declared.unwritten.Unwritten.TheVariants.{Refused, Memory}
use Rattle.ms_output.specs.declared.wanted.Wanted.{Wanted}

-- Why nothing is written for these bytes: they are refused so, and where that is for a function's loops, this is the function's name.
-- Of want of memory nothing is told.
abbrev pub IsUnwritten : List ℕ → Unwritten → Type 0
IsUnwritten bytes (Refused refusal func) = IsRefusal bytes refusal × (refusal.number ≡ 7 → IsFuncIn bytes refusal.place func)
IsUnwritten bytes Memory = Unit {0}

-- what is written for these bytes, or why nothing is
abbrev pub Renders : Wanted → List ℕ → Result (List ℕ) Unwritten → Type 0
Renders wanted bytes (Ok text) = IsOutput wanted bytes text
Renders wanted bytes (Err why) = IsUnwritten bytes why

-- this is told of a refusal, or there was no memory
abbrev pub IsTold : Option Refusal → Unwritten → Type 0
IsTold refusal (Refused r func) = refusal ≡ Some r
IsTold refusal Memory = Unit {0}

-- the same of the refusal of a draft, and where a function is refused, this is its name by the draft's lines
abbrev pub IsToldOf : List (ℕ × Line) → Option Refusal → Unwritten → Type 0
IsToldOf draft refusal (Refused r func) = (refusal ≡ Some r) × (r.number ≡ 7 → func ≡ slice_index_or (funcs_said draft) r.place [])
IsToldOf draft refusal Memory = Unit {0}

-- the draft is accepted, and the text is what is written for its module
pub record IsOutputOf (wanted : Wanted) (draft : List (ℕ × Line)) (text : List ℕ) : Type 0 where
  pub m : ModuleState
  pub accepted : IsAccepted draft m
  pub written : IsWrittenOf wanted m text

-- the draft is not accepted, and this is told of it
pub record IsUnaccepted (draft : List (ℕ × Line)) (why : Unwritten) : Type 0 where
  pub fault : ValidFault
  pub cause : IsValidCause draft fault
  pub told : IsToldOf draft (valid_refusal fault) why

-- what is written for a draft, or why nothing is
abbrev pub RendersDraft : Wanted → List (ℕ × Line) → Result (List ℕ) Unwritten → Type 0
RendersDraft wanted draft (Ok text) = IsOutputOf wanted draft text
RendersDraft wanted draft (Err why) = IsUnaccepted draft why
