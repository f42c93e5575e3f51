-- Why a line is not read.
use Rattle.std.specs.Prelude.{◌≡◌, ℕ, List}
use Rattle.ms_grammar.specs.Form.{printed}
use Rattle.ms_grammar.specs.Grammar.{Says, kept_of}
use Rattle.ms_grammar.specs.Limits.{IsWithinLimits}
use Rattle.ms_grammar.specs.declared.line.Line.{Line}
use Rattle.ms_line.specs.declared.fault.LineFault.{LineFault}
use Rattle.ms_line.specs.declared.fault.LineFault.TheVariants.{NotOfProfile, TooLong, Memory}

-- the line says this, and is within the limits
pub record IsRead (bytes : List ℕ) (line : Line) : Type 0 where
  pub written : Line
  pub says : Says bytes written
  pub within : IsWithinLimits written
  pub kept : line ≡ kept_of written

-- what is printed for a line is read as the line itself
pub record IsReadAgain (line : Line) : Type 0 where
  pub as_itself : IsRead (printed line) line

-- the line says something that passes a limit
pub record IsPast (bytes : List ℕ) : Type 0 where
  pub written : Line
  pub says : Says bytes written
  pub past : IsWithinLimits written → ⊥

-- the line is in no grammar
abbrev pub SaysNothing : List ℕ → Type 0
SaysNothing bytes = (written : Line) → Says bytes written → ⊥

-- the cause of a fault
abbrev pub IsLineCause : List ℕ → LineFault → Type 0
IsLineCause bytes NotOfProfile = SaysNothing bytes
IsLineCause bytes TooLong = IsPast bytes
IsLineCause bytes Memory = Unit {0}
