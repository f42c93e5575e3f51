-- What is known of each draft.
use Rattle.std.proofs.Common.{◌≡◌, ℕ, ◌+◌, ◌<◌, ◌≤◌, true, false, List, [], ◌∷◌, ◌++◌, length, map, Some, refl, sym, ap, subst, ◌∙◌, eqb, arith}
use Rattle.std.specs.Prelude.{if◌then◌else◌}
use Rattle.ms_grammar.specs.Grammar.{kept_of}
use Rattle.ms_grammar.specs.Kept.{Each}
use Rattle.ms_grammar.specs.declared.line.Line.{Line}
use Rattle.ms_line.specs.Sorts.{sort_of}
use Rattle.ms_line.specs.declared.sort.Sort.{Sort}
use Rattle.ms_line.specs.declared.sort.Sort.TheVariants.{Blank, Item, Define, Close, Label, Phi, Alloca, Other, Term}
use Rattle.ms_read.specs.Rows.{rows_of, in_first}
use Rattle.ms_read.specs.Places.{is_blank, behind, outset, Lead}
use Rattle.ms_read.specs.Draft.{Say, IsDraft, numbered}
use Rattle.ms_read.specs.Told.{IsSaid, Rise, sorts_of, IsPlaced}
use Rattle.ms_read.specs.declared.place.Progress.{Progress}
use Rattle.ms_read.proofs.RowsRead.{kept_sort}

-- A line is drafted or it is blank.
cases_said : (P : List (ℕ × Line) → Type 0) (n : ℕ) (line : Line) (rest : List (ℕ × Line)) → (is_blank (sort_of (kept_of line)) ≡ true → P rest)
    → (is_blank (sort_of (kept_of line)) ≡ false → P ((n, kept_of line) ∷ rest)) → P ((if is_blank (sort_of (kept_of line)) then [] else (n, kept_of line) ∷ []) ++ rest)
cases_said P n line rest blank some =
    (elim (is_blank (sort_of (kept_of line))) as (λ t. is_blank (sort_of (kept_of line)) ≡ t → P ((if t then [] else (n, kept_of line) ∷ []) ++ rest)) [
      | true ↦ blank
      | false ↦ some
    ]) refl

each_said : (n : ℕ) (rows : List (List ℕ)) (lines : List Line) → Say rows lines → Each (λ (entry : ℕ × Line). IsSaid entry.1) (numbered n lines)
each_said n [] [] h = tt
each_said n [] (l ∷ lines) h = absurd h
each_said n (r ∷ rows) [] h = absurd h
each_said n (r ∷ rows) (l ∷ lines) h =
    let rest = each_said (n + 1) rows lines h.2 in
    cases_said (Each (λ (entry : ℕ × Line). IsSaid entry.1)) n l (numbered (n + 1) lines)
    (λ _. rest)
    (λ some. (record { row = r; read = record { written = l; says = h.0; within = h.1; kept = refl }; some = some }, rest))

rise : (low high n : ℕ) (lines : List Line) → low < n → n + length lines ≤ high + 1 → Rise low high (numbered n lines)
rise low high n [] above below = tt
rise low high n (l ∷ lines) above below =
    cases_said (Rise low high) n l (numbered (n + 1) lines)
    (λ _. rise low high (n + 1) lines (omega arith) (omega arith))
    (λ _. (above, omega arith, rise n high (n + 1) lines (omega arith) (omega arith)))

say_length : (rows : List (List ℕ)) (lines : List Line) → Say rows lines → length rows ≡ length lines
say_length [] [] h = refl
say_length [] (l ∷ lines) h = absurd h
say_length (r ∷ rows) [] h = absurd h
say_length (r ∷ rows) (l ∷ lines) h = let below = say_length rows lines h.2 in omega (arith, below)

first_length : (b : ℕ) (rows : List (List ℕ)) → length (in_first b rows) ≤ length rows + 1
first_length b [] = omega arith
first_length b (row ∷ rows) = omega arith

-- no more rows than bytes
rows_length : (bytes : List ℕ) → length (rows_of bytes) ≤ length bytes
rows_length [] = omega arith
rows_length (b ∷ bytes) =
    let below = rows_length bytes in
    elim (eqb b 10) as (λ t. length (if t then [] ∷ rows_of bytes else in_first b (rows_of bytes)) ≤ length (b ∷ bytes)) [
      | true ↦ omega (arith, below)
      | false ↦ omega (arith, below, first_length b (rows_of bytes))
    ]

blank_is : (sort : Sort) → is_blank sort ≡ true → sort ≡ Blank
blank_is Blank e = refl
blank_is Item e = absurd (cc)
blank_is Define e = absurd (cc)
blank_is Close e = absurd (cc)
blank_is Label e = absurd (cc)
blank_is Phi e = absurd (cc)
blank_is Alloca e = absurd (cc)
blank_is Other e = absurd (cc)
blank_is Term e = absurd (cc)

-- a blank line leads nowhere
blank_stays : (at next : Progress) (sort : Sort) → sort ≡ Blank → behind at sort ≡ Some next → at ≡ next
blank_stays at next sort e b =
    let same : Some at ≡ Some next = subst (λ (s : Sort). behind at s ≡ Some next) e b in
    cc

lead_said : (at : Progress) (n : ℕ) (lines : List Line) (end : Progress) → Lead at (map sort_of lines) end → Lead at (sorts_of (numbered n lines)) end
lead_said at n [] end h = h
lead_said at n (l ∷ lines) end h =
    let rest = lead_said h.0 (n + 1) lines end h.3 in
    let kept = kept_sort l in
    cases_said (λ (draft : List (ℕ × Line)). Lead at (sorts_of draft) end) n l (numbered (n + 1) lines)
    (λ blank. subst (λ (p : Progress). Lead p (sorts_of (numbered (n + 1) lines)) end) (sym (blank_stays at h.0 (sort_of l) (sym kept ∙ blank_is (sort_of (kept_of l)) blank) h.1)) rest)
    (λ _. (h.0, ap (behind at) kept ∙ h.1, h.2, rest))

pub told_lines : (bytes : List ℕ) (draft : List (ℕ × Line)) → IsDraft bytes draft → Each (λ (entry : ℕ × Line). IsSaid entry.1) draft
told_lines bytes draft d = subst (λ (x : List (ℕ × Line)). Each (λ (entry : ℕ × Line). IsSaid entry.1) x) (sym d.draft_is) (each_said 1 (rows_of bytes) d.lines d.read.say)

pub told_numbers : (bytes : List ℕ) (draft : List (ℕ × Line)) → IsDraft bytes draft → Rise 0 (length bytes) draft
told_numbers bytes draft d =
    let rows = say_length (rows_of bytes) d.lines d.read.say in
    subst (λ (x : List (ℕ × Line)). Rise 0 (length bytes) x) (sym d.draft_is) (rise 0 (length bytes) 1 d.lines (omega arith) (omega (arith, rows, rows_length bytes)))

pub told_places : (bytes : List ℕ) (draft : List (ℕ × Line)) → IsDraft bytes draft → IsPlaced (sorts_of draft)
told_places bytes draft d = record {
  end = d.end;
  lead = subst (λ (x : List (ℕ × Line)). Lead outset (sorts_of x) d.end) (sym d.draft_is) (lead_said outset 1 d.lines d.end d.read.lead);
  outside = d.outside;
}
