-- Which texts are read as which draft, and the first line of another text that fails.
use Rattle.std.specs.Prelude.{◌≡◌, ℕ, ◌+◌, true, false, List, [], ◌∷◌, ◌++◌, length, map, Some, None, if◌then◌else◌}
use Rattle.ms_grammar.specs.Grammar.{Says, kept_of}
use Rattle.ms_grammar.specs.Limits.{IsWithinLimits}
use Rattle.ms_grammar.specs.declared.line.Line.{Line}
use Rattle.ms_line.specs.Sorts.{sort_of}
use Rattle.ms_read.specs.Rows.{rows_of}
use Rattle.ms_read.specs.Places.{is_outside, is_blank, behind, outset, AreFew, Lead}
use Rattle.ms_read.specs.declared.place.Progress.{Progress}
use Rattle.ms_read.specs.declared.fault.ReadFault.{ReadFault}
use Rattle.ms_read.specs.declared.fault.ReadFault.TheVariants.{Text, Limit, Memory}

-- each row says this line, within its limits
abbrev pub Say : List (List ℕ) → List Line → Type 0
Say [] [] = Unit {0}
Say (row ∷ rows) (line ∷ lines) = Says row line × IsWithinLimits line × Say rows lines
Say _ _ = ⊥

-- The rows say these lines, and each stands where it may, within the counts, from the text's beginning up to a place.
pub record IsRead (rows : List (List ℕ)) (lines : List Line) (at : Progress) : Type 0 where
  pub say : Say rows lines
  pub lead : Lead outset (map sort_of lines) at

-- a line that says something, with its number
abbrev pub said : ℕ → Line → List (ℕ × Line)
said n line = if is_blank (sort_of line) then [] else (n, line) ∷ []

-- what is kept of the lines that say something, each with its number, from a number on
abbrev pub numbered : ℕ → List Line → List (ℕ × Line)
numbered n [] = []
numbered n (line ∷ lines) = said n (kept_of line) ++ numbered (n + 1) lines

-- The text is read up to its end, which is outside functions, and the draft is its lines that say something.
pub record IsDraft (bytes : List ℕ) (draft : List (ℕ × Line)) : Type 0 where
  pub lines : List Line
  pub end : Progress
  pub read : IsRead (rows_of bytes) lines end
  pub outside : is_outside end.place ≡ true
  pub draft_is : draft ≡ numbered 1 lines

-- No line may stand next: the text ends inside a function, or its next row says nothing that may stand there.
abbrev pub NoneMayStand : Progress → List (List ℕ) → Type 0
NoneMayStand at [] = is_outside at.place ≡ false
NoneMayStand at (row ∷ rows) = (line : Line) → Says row line → behind at (sort_of line) ≡ None

-- The row says a line that may stand there, and it passes a limit of its own or a count.
pub record IsTooMuch (at : Progress) (row : List ℕ) : Type 0 where
  pub line : Line
  pub next : Progress
  pub says : Says row line
  pub may_stand : behind at (sort_of line) ≡ Some next
  pub past : IsWithinLimits line → AreFew next → ⊥

abbrev pub NextIsTooMuch : Progress → List (List ℕ) → Type 0
NextIsTooMuch at [] = ⊥
NextIsTooMuch at (row ∷ rows) = IsTooMuch at row

-- The rows before a line are read, and what follows them fails so. Lines count from 1; behind the last row that is the
-- line after it.
pub record IsFirstBad (bytes : List ℕ) (Fails : Progress → List (List ℕ) → Type 0) (number : ℕ) : Type 0 where
  pub before : List (List ℕ)
  pub rest : List (List ℕ)
  pub lines : List Line
  pub at : Progress
  pub rows_are : rows_of bytes ≡ before ++ rest
  pub read : IsRead before lines at
  pub fails : Fails at rest
  pub number_is : number ≡ length lines + 1

-- why a text was not read
abbrev pub IsModuleCause : List ℕ → ReadFault → Type 0
IsModuleCause bytes (Text number) = IsFirstBad bytes NoneMayStand number
IsModuleCause bytes (Limit number) = IsFirstBad bytes NextIsTooMuch number
IsModuleCause bytes Memory = Unit {0}
