-- One row behind those that are read. The contracts of private functions cite it; `Script` says what a script is.
use Rattle.std.specs.Prelude.{◌≡◌, ℕ, ◌<◌, ◌≤◌, List, ◌++◌, Option}
use Rattle.ms_ir.specs.declared.names.FuncNo.{FuncNo}
use Rattle.ms_ir.specs.Module.{ModuleState}
use Rattle.ms_script.specs.Lines.{SaysEdit, IsSmall}
use Rattle.ms_script.specs.Script.{SaysNothing, IsTooMuch, step_of}
use Rattle.ms_script.specs.declared.edit.RawEdit.{RawEdit}
use Rattle.ms_script.specs.declared.edit.Step.{Step}
use Rattle.ms_script.specs.declared.fault.ScriptFault.{ScriptFault}
use Rattle.ms_script.specs.declared.fault.ScriptFault.TheVariants.{ScriptText, ScriptLimit, Memory}

-- The row is read: what it says is within the limits, its number is not too great, and its step is appended.
pub record IsTaken (m : ModuleState) (number : ℕ) (row : List ℕ) (old new : List Step) : Type 0 where
  pub one : Option (FuncNo × RawEdit)
  pub says : SaysEdit m row one
  pub small : IsSmall one
  pub few : number ≤ 4096
  pub script_is : new ≡ old ++ step_of number one

-- The row fails so, and its number is told.
abbrev pub FailsSo : ModuleState → ℕ → List ℕ → ScriptFault → Type 0
FailsSo m number row (ScriptText n) = (n ≡ number) × SaysNothing m row
FailsSo m number row (ScriptLimit n) = (n ≡ number) × IsTooMuch m number row
FailsSo m number row Memory = Unit {0}

-- a step is not appended: its line's number is too great, or there is no memory
abbrev pub FailsPush : ℕ → ScriptFault → Type 0
FailsPush number (ScriptText n) = ⊥
FailsPush number (ScriptLimit n) = (n ≡ number) × (4096 < number)
FailsPush number Memory = Unit {0}
