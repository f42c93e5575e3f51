-- The steps of a script, or the first line that fails.
use Rattle.std.specs.Prelude.{◌≡◌, ℕ, ◌+◌, ◌≤◌, List, [], ◌∷◌, ◌++◌, Option, Some, None, length}
use Rattle.ms_ir.specs.declared.names.FuncNo.{FuncNo}
use Rattle.ms_ir.specs.Module.{ModuleState}
use Rattle.ms_read.specs.Rows.{rows_of}
use Rattle.ms_script.specs.Lines.{SaysEdit, IsSmall}
use Rattle.ms_script.specs.declared.edit.RawEdit.{RawEdit}
use Rattle.ms_script.specs.declared.edit.Step.{Step}
use Rattle.ms_script.specs.declared.fault.ScriptFault.{ScriptFault}
use Rattle.ms_script.specs.declared.fault.ScriptFault.TheVariants.{ScriptText, ScriptLimit, Memory}

-- each row says this, within its limits
abbrev pub Say : ModuleState → List (List ℕ) → List (Option (FuncNo × RawEdit)) → Type 0
Say m [] [] = Unit {0}
Say m (row ∷ rows) (one ∷ more) = SaysEdit m row one × IsSmall one × Say m rows more
Say m _ _ = ⊥

-- the step of one line
abbrev pub step_of : ℕ → Option (FuncNo × RawEdit) → List Step
step_of n None = []
step_of n (Some entry) = record { line = n; func = entry.0; edit = entry.1 } ∷ []

-- the steps of lines, where the first one has this number; a line that says nothing gives none
abbrev pub steps_from : ℕ → List (Option (FuncNo × RawEdit)) → List Step
steps_from n [] = []
steps_from n (one ∷ more) = step_of n one ++ steps_from (n + 1) more

-- The rows say these lines, which are at most 4,096.
pub record IsRead (m : ModuleState) (rows : List (List ℕ)) (lines : List (Option (FuncNo × RawEdit))) : Type 0 where
  pub say : Say m rows lines
  pub few : length lines ≤ 4096

-- The script is the steps of the lines of a text, counted from 1.
pub record IsScript (bytes : List ℕ) (m : ModuleState) (script : List Step) : Type 0 where
  pub lines : List (Option (FuncNo × RawEdit))
  pub read : IsRead m (rows_of bytes) lines
  pub script_is : script ≡ steps_from 1 lines

-- a row is no line of a script
abbrev pub SaysNothing : ModuleState → List ℕ → Type 0
SaysNothing m row = (one : Option (FuncNo × RawEdit)) → SaysEdit m row one → ⊥

-- the row of this number is a line of a script, and it passes a limit of its own, or 4,096 lines stand before it
pub record IsTooMuch (m : ModuleState) (number : ℕ) (row : List ℕ) : Type 0 where
  pub one : Option (FuncNo × RawEdit)
  pub says : SaysEdit m row one
  pub past : IsSmall one → number ≤ 4096 → ⊥

-- The rows before a row are read, and this one fails so.
pub record IsFirstBad (bytes : List ℕ) (m : ModuleState) (Fails : ℕ → List ℕ → Type 0) (number : ℕ) : Type 0 where
  pub before : List (List ℕ)
  pub row : List ℕ
  pub rest : List (List ℕ)
  pub lines : List (Option (FuncNo × RawEdit))
  pub rows_are : rows_of bytes ≡ before ++ row ∷ rest
  pub read : IsRead m before lines
  pub number_is : number ≡ length lines + 1
  pub fails : Fails number row

-- why a script was not read
abbrev pub IsScriptCause : List ℕ → ModuleState → ScriptFault → Type 0
IsScriptCause bytes m (ScriptText number) = IsFirstBad bytes m (λ n row. SaysNothing m row) number
IsScriptCause bytes m (ScriptLimit number) = IsFirstBad bytes m (λ n row. IsTooMuch m n row) number
IsScriptCause bytes m Memory = Unit {0}
