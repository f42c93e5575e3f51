-- One row behind those that are read. The contracts of private functions cite it; `Draft` says what a text is.
use Rattle.std.specs.Prelude.{◌≡◌, ℕ, List, ◌++◌, Some, None}
use Rattle.ms_grammar.specs.Grammar.{Says, kept_of}
use Rattle.ms_grammar.specs.Limits.{IsWithinLimits}
use Rattle.ms_grammar.specs.declared.line.Line.{Line}
use Rattle.ms_line.specs.Sorts.{sort_of}
use Rattle.ms_line.specs.declared.sort.Sort.{Sort}
use Rattle.ms_read.specs.Places.{behind, AreFew}
use Rattle.ms_read.specs.Draft.{said, IsTooMuch}
use Rattle.ms_read.specs.declared.place.Progress.{Progress}
use Rattle.ms_read.specs.declared.fault.ReadFault.{ReadFault}
use Rattle.ms_read.specs.declared.fault.ReadFault.TheVariants.{Text, Limit, Memory}

-- A line of this sort may stand there, and passes no count.
pub record Goes (at : Progress) (sort : Sort) (next : Progress) : Type 0 where
  pub may_stand : behind at sort ≡ Some next
  pub few : AreFew next

-- a line of this sort may stand there, and passes a count
pub record GoesPast (at : Progress) (sort : Sort) : Type 0 where
  pub next : Progress
  pub may_stand : behind at sort ≡ Some next
  pub past : AreFew next → ⊥

-- A line of this sort fails so, and its number is told.
abbrev pub FailsThere : Progress → ℕ → Sort → ReadFault → Type 0
FailsThere at number sort (Text n) = (n ≡ number) × (behind at sort ≡ None)
FailsThere at number sort (Limit n) = (n ≡ number) × GoesPast at sort
FailsThere at number sort Memory = ⊥

-- The row is read: what is kept of it is appended, and so far the text is behind it.
pub record IsTaken (at : Progress) (number : ℕ) (row : List ℕ) (old new : List (ℕ × Line)) (next : Progress) : Type 0 where
  pub line : Line
  pub says : Says row line
  pub within : IsWithinLimits line
  pub draft_is : new ≡ old ++ said number (kept_of line)
  pub goes : Goes at (sort_of line) next

-- The row fails so, and its number is told.
abbrev pub FailsSo : Progress → ℕ → List ℕ → ReadFault → Type 0
FailsSo at number row (Text n) = (n ≡ number) × ((line : Line) → Says row line → behind at (sort_of line) ≡ None)
FailsSo at number row (Limit n) = (n ≡ number) × IsTooMuch at row
FailsSo at number row Memory = Unit {0}
