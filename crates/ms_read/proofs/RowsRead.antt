-- One row more behind those that are read.
use Rattle.std.proofs.Common.{◌≡◌, ℕ, ◌+◌, List, [], ◌∷◌, ◌++◌, length, map, Some, None, refl, sym, ap, subst, ◌∙◌, arith, append_assoc, append-nil}
use Rattle.std.specs.Prelude.{Result, Ok, Err, IfOk, IfErr}
use Rattle.ms_grammar.specs.Grammar.{Says, kept_of}
use Rattle.ms_grammar.specs.Limits.{IsWithinLimits}
use Rattle.ms_grammar.specs.declared.line.Line.{Line}
use Rattle.ms_grammar.specs.declared.line.Line.TheVariants as line
use Rattle.ms_grammar.proofs.OneLine.{one_line}
use Rattle.ms_line.specs.Sorts.{sort_of}
use Rattle.ms_read.specs.Places.{behind, outset, Lead}
use Rattle.ms_read.specs.Draft.{Say, IsRead, said, numbered}
use Rattle.ms_read.specs.Next.{Goes, FailsThere, IsTaken, FailsSo}
use Rattle.ms_read.specs.declared.place.Progress.{Progress}
use Rattle.ms_read.specs.declared.fault.ReadFault.{ReadFault}
use Rattle.ms_read.specs.declared.fault.ReadFault.TheVariants.{Text, Limit, Memory}

-- what is kept of a line is of its sort
pub kept_sort : (l : Line) → sort_of (kept_of l) ≡ sort_of l
kept_sort line.Empty = refl
kept_sort line.Close = refl
kept_sort (line.Kept _) = refl
kept_sort (line.Group _ _) = refl
kept_sort (line.GlobalVar _ _) = refl
kept_sort (line.Label _) = refl
kept_sort (line.Declare _) = refl
kept_sort (line.Define _) = refl
kept_sort (line.Inst _ _) = refl
kept_sort (line.Term _) = refl

-- A row has one sort, so if it says something that may not stand there, it says nothing that may.
pub none_stands : (at : Progress) (row : List ℕ) (line : Line) → Says row line → behind at (sort_of line) ≡ None
    → (other : Line) → Says row other → behind at (sort_of other) ≡ None
none_stands at row line says none other s = ap (λ (l : Line). behind at (sort_of l)) (one_line row other line s says) ∙ none

-- A row fails as its sort does.
pub row_fails : (at : Progress) (number : ℕ) (row : List ℕ) (line : Line) (fault : ReadFault) → Says row line
    → FailsThere at number (sort_of line) fault → FailsSo at number row fault
row_fails at number row line (Text n) says h = (h.0, none_stands at row line says h.1)
row_fails at number row line (Limit n) says h =
    (h.0, record { line = line; next = h.1.next; says = says; may_stand = h.1.may_stand; past = λ _ few. h.1.past few })
row_fails at number row line Memory says h = absurd h

-- a line that goes on is read
pub taken_by : (result : Result Progress ReadFault) (at : Progress) (number : ℕ) (row : List ℕ) (old new : List (ℕ × Line)) (line : Line) → Says row line
    → IsWithinLimits line → new ≡ old ++ said number (kept_of line) → IfOk result (Goes at (sort_of line)) → IfOk result (IsTaken at number row old new)
taken_by (Ok next) at number row old new line says within draft_is goes =
    record { line = line; says = says; within = within; draft_is = draft_is; goes = goes }
taken_by (Err _) at number row old new line says within draft_is goes = tt

pub fails_by : (result : Result Progress ReadFault) (at : Progress) (number : ℕ) (row : List ℕ) (line : Line) → Says row line
    → IfErr result (FailsThere at number (sort_of line)) → IfErr result (FailsSo at number row)
fails_by (Ok _) at number row line says h = tt
fails_by (Err fault) at number row line says h = row_fails at number row line fault says h

say_more : (rows : List (List ℕ)) (lines : List Line) (row : List ℕ) (line : Line) → Say rows lines → Says row line → IsWithinLimits line
    → Say (rows ++ row ∷ []) (lines ++ line ∷ [])
say_more [] [] row line h says within = (says, within, tt)
say_more [] (l ∷ lines) row line h says within = absurd h
say_more (r ∷ rows) [] row line h says within = absurd h
say_more (r ∷ rows) (l ∷ lines) row line h says within = (h.0, h.1, say_more rows lines row line h.2 says within)

-- one line more leads one place further
lead_more : (at : Progress) (lines : List Line) (mid : Progress) (line : Line) (next : Progress) → Lead at (map sort_of lines) mid → Goes mid (sort_of line) next
    → Lead at (map sort_of (lines ++ line ∷ [])) next
lead_more at [] mid line next h goes = (next, subst (λ (p : Progress). behind p (sort_of line) ≡ Some next) (sym h) goes.may_stand, goes.few, refl)
lead_more at (l ∷ lines) mid line next h goes = (h.0, h.1, h.2, lead_more h.0 lines mid line next h.3 goes)

pub read_more : (rows : List (List ℕ)) (lines : List Line) (at : Progress) (row : List ℕ) (line : Line) (next : Progress) → IsRead rows lines at
    → Says row line → IsWithinLimits line → Goes at (sort_of line) next → IsRead (rows ++ row ∷ []) (lines ++ line ∷ []) next
read_more rows lines at row line next h says within goes = record {
  say = say_more rows lines row line h.say says within;
  lead = lead_more outset lines at line next h.lead goes;
}

-- one line more is numbered behind the others
pub numbered_more : (n : ℕ) (lines : List Line) (line : Line) → numbered n (lines ++ line ∷ []) ≡ numbered n lines ++ said (n + length lines) (kept_of line)
numbered_more n [] line = let same : n + 0 ≡ n = omega arith in append-nil (said n (kept_of line)) ∙ ap (λ k. said k (kept_of line)) (sym same)
numbered_more n (l ∷ lines) line =
    let same : n + 1 + length lines ≡ n + length (l ∷ lines) = omega arith in
    ap (λ (xs : List (ℕ × Line)). said n (kept_of l) ++ xs) (numbered_more (n + 1) lines line)
    ∙ sym (append_assoc (said n (kept_of l)) (numbered (n + 1) lines) (said (n + 1 + length lines) (kept_of line)))
    ∙ ap (λ k. (said n (kept_of l) ++ numbered (n + 1) lines) ++ said k (kept_of line)) same

-- one row more is taken from those that are still to come
pub rows_more : (all before rest : List (List ℕ)) (row : List ℕ) (after : List (List ℕ)) → all ≡ before ++ rest → rest ≡ row ∷ after
    → all ≡ (before ++ row ∷ []) ++ after
rows_more all before rest row after e f = e ∙ ap (λ (xs : List (List ℕ)). before ++ xs) f ∙ sym (append_assoc before (row ∷ []) after)
