-- What is written for the bytes of a file that should hold a module, and why they are refused.
use Rattle.std.specs.Prelude.{◌≡◌, ℕ, ◌⊎◌, List, Option, Some, None, slice_get}
use Rattle.ms_grammar.specs.declared.line.Line.{Line}
use Rattle.ms_ir.specs.Module.{ModuleState}
use Rattle.ms_read.specs.Draft.{IsDraft, IsModuleCause}
use Rattle.ms_read.specs.declared.fault.ReadFault.{ReadFault}
use Rattle.ms_read.specs.declared.fault.ReadFault.TheVariants as read
use Rattle.ms_resolve.specs.Shape.{ItemLines}
use Rattle.ms_validity.specs.Cause.{IsNamed, IsAccepted, IsValidCause}
use Rattle.ms_validity.specs.declared.fault.ValidFault.{ValidFault}
use Rattle.ms_validity.specs.declared.fault.ValidFault.TheVariants as valid
use Rattle.ms_output.specs.Forms.{IsWrittenOf}
use Rattle.ms_output.specs.declared.refusal.Refusal.{Refusal}
use Rattle.ms_output.specs.declared.wanted.Wanted.{Wanted}

-- the greatest length of a file, in bytes
abbrev pub limit : ℕ
limit = 1048576

-- the text is what is written for these bytes: they are read as a draft, which is accepted as a module
pub record IsOutput (wanted : Wanted) (bytes text : List ℕ) : Type 0 where
  pub draft : List (ℕ × Line)
  pub m : ModuleState
  pub read : IsDraft bytes draft
  pub accepted : IsAccepted draft m
  pub written : IsWrittenOf wanted m text

-- a refusal with its number and place
abbrev pub refusal_at : ℕ → ℕ → Option Refusal
refusal_at number place = Some (record { number = number; place = place })

-- the refusal of a text that is not read; want of memory is none
abbrev pub read_refusal : ReadFault → Option Refusal
read_refusal (read.Text n) = refusal_at 1 n
read_refusal (read.Limit n) = refusal_at 2 n
read_refusal read.Memory = None

-- the refusal of a module that is not accepted
abbrev pub valid_refusal : ValidFault → Option Refusal
valid_refusal (valid.Name n) = refusal_at 3 n
valid_refusal (valid.Types n) = refusal_at 4 n
valid_refusal (valid.Edges n) = refusal_at 5 n
valid_refusal (valid.Order n) = refusal_at 6 n
valid_refusal (valid.Irreducible f) = refusal_at 7 f.0
valid_refusal valid.Memory = None

-- the bytes are not read, and are refused for it
pub record IsUnread (bytes : List ℕ) (r : Refusal) : Type 0 where
  pub fault : ReadFault
  pub cause : IsModuleCause bytes fault
  pub told : read_refusal fault ≡ Some r

-- the bytes are no accepted module, and are refused for it
pub record IsInvalid (bytes : List ℕ) (r : Refusal) : Type 0 where
  pub draft : List (ℕ × Line)
  pub fault : ValidFault
  pub read : IsDraft bytes draft
  pub cause : IsValidCause draft fault
  pub told : valid_refusal fault ≡ Some r

-- why bytes are refused
abbrev pub IsRefusal : List ℕ → Refusal → Type 0
IsRefusal bytes r = IsUnread bytes r ⊎ IsInvalid bytes r

-- this is the name of the function with a number in the module of the bytes
pub record IsFuncIn (bytes : List ℕ) (number : ℕ) (name : List ℕ) : Type 0 where
  pub draft : List (ℕ × Line)
  pub items : List ItemLines
  pub m : ModuleState
  pub read : IsDraft bytes draft
  pub named : IsNamed draft items m
  pub name_is : slice_get m.names.funcs number ≡ Some name
