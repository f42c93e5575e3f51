-- What is known of each draft, whatever text it was read from.
use Rattle.std.specs.Prelude.{◌≡◌, ℕ, ◌<◌, ◌≤◌, true, false, List, [], ◌∷◌, map}
use Rattle.ms_grammar.specs.declared.line.Line.{Line}
use Rattle.ms_line.specs.Cause as cause
use Rattle.ms_line.specs.Sorts.{sort_of}
use Rattle.ms_line.specs.declared.sort.Sort.{Sort}
use Rattle.ms_read.specs.Places.{is_outside, is_blank, outset, Lead}
use Rattle.ms_read.specs.declared.place.Progress.{Progress}

-- A row says this line, within its limits, and the line has a token.
pub record IsSaid (line : Line) : Type 0 where
  pub row : List ℕ
  pub read : cause.IsRead row line
  pub some : is_blank (sort_of line) ≡ false

-- numbers that rise, all of them above one bound and at most another
abbrev pub Rise : ℕ → ℕ → List (ℕ × Line) → Type 0
Rise low high [] = Unit {0}
Rise low high (entry ∷ entries) = (low < entry.0) × (entry.0 ≤ high) × Rise entry.0 high entries

-- the sorts of drafted lines
abbrev pub sorts_of : List (ℕ × Line) → List Sort
sorts_of draft = map (λ entry. sort_of entry.1) draft

-- Lines of these sorts alone may stand behind one another, from the text's beginning up to an end outside functions,
-- and none passes a count.
pub record IsPlaced (sorts : List Sort) : Type 0 where
  pub end : Progress
  pub lead : Lead outset sorts end
  pub outside : is_outside end.place ≡ true
