-- A text is read in one way, and fails in one way.
use Rattle.std.proofs.Common.{◌≡◌, ◌≢◌, ℕ, ◌+◌, Bool, true, false, List, [], ◌∷◌, ◌++◌, length, map, Some, None, refl, sym, ap, subst, ◌∙◌, append-nil}
use Rattle.std.proofs.lemmas.List.{map-append}
use Rattle.ms_grammar.specs.Grammar.{Says}
use Rattle.ms_grammar.specs.Limits.{IsWithinLimits}
use Rattle.ms_grammar.specs.declared.line.Line.{Line}
use Rattle.ms_grammar.proofs.OneLine.{one_line}
use Rattle.ms_line.specs.Sorts.{sort_of}
use Rattle.ms_line.specs.declared.sort.Sort.{Sort}
use Rattle.ms_read.specs.Rows.{rows_of}
use Rattle.ms_read.specs.Places.{is_outside, behind, outset, AreFew, Lead}
use Rattle.ms_read.specs.Draft.{Say, IsDraft, numbered, NoneMayStand, IsTooMuch, NextIsTooMuch, IsFirstBad, IsModuleCause}
use Rattle.ms_read.specs.Next.{Goes}
use Rattle.ms_read.specs.declared.place.Progress.{Progress}
use Rattle.ms_read.specs.declared.fault.ReadFault.{ReadFault}
use Rattle.ms_read.specs.declared.fault.ReadFault.TheVariants.{Text, Limit, Memory}

-- Of two readings of the same rows' fronts one goes on where the other ends, or they are the same.
data Fork (la lb : List Line) (sa sb : List (List ℕ)) : Type 0 where
  same : la ≡ lb → sa ≡ sb → Fork la lb sa sb
  longer : (row : List ℕ) (rows : List (List ℕ)) (line : Line) (more : List Line) → sa ≡ row ∷ rows → Says row line → IsWithinLimits line
      → lb ≡ la ++ line ∷ more → Fork la lb sa sb
  shorter : (row : List ℕ) (rows : List (List ℕ)) (line : Line) (more : List Line) → sb ≡ row ∷ rows → Says row line → IsWithinLimits line
      → la ≡ lb ++ line ∷ more → Fork la lb sa sb

-- the same first line in front of both
fork_behind : (a b : Line) (la lb : List Line) (sa sb : List (List ℕ)) → a ≡ b → Fork la lb sa sb → Fork (a ∷ la) (b ∷ lb) sa sb
fork_behind a b la lb sa sb e (same lines rest) = same (cc) rest
fork_behind a b la lb sa sb e (longer row rows line more at says within lines) = longer row rows line more at says within (cc)
fork_behind a b la lb sa sb e (shorter row rows line more at says within lines) = shorter row rows line more at says within (cc)

fork : (ra rb : List (List ℕ)) (la lb : List Line) (sa sb : List (List ℕ)) → Say ra la → Say rb lb → ra ++ sa ≡ rb ++ sb → Fork la lb sa sb
fork [] [] [] [] sa sb ha hb e = same refl e
fork [] (q ∷ rb) [] (b ∷ lb) sa sb ha hb e = longer q (rb ++ sb) b lb e hb.0 hb.1 refl
fork (r ∷ ra) [] (a ∷ la) [] sa sb ha hb e = shorter r (ra ++ sa) a la (sym e) ha.0 ha.1 refl
fork (r ∷ ra) (q ∷ rb) (a ∷ la) (b ∷ lb) sa sb ha hb e =
    let first : r ≡ q = cc in
    let others : ra ++ sa ≡ rb ++ sb = cc in
    fork_behind a b la lb sa sb (one_line r a b ha.0 (subst (λ (row : List ℕ). Says row b) (sym first) hb.0)) (fork ra rb la lb sa sb ha.2 hb.2 others)
fork [] rb (a ∷ la) lb sa sb ha hb e = absurd ha
fork (r ∷ ra) rb [] lb sa sb ha hb e = absurd ha
fork ra [] la (b ∷ lb) sa sb ha hb e = absurd hb
fork ra (q ∷ rb) la [] sa sb ha hb e = absurd hb

-- Lines lead to one place.
lead_one : (at : Progress) (sorts : List Sort) (a b : Progress) → Lead at sorts a → Lead at sorts b → a ≡ b
lead_one at [] a b ha hb = sym ha ∙ hb
lead_one at (s ∷ sorts) a b ha hb =
    let next : ha.0 ≡ hb.0 = cc (ha.1, hb.1) in
    lead_one hb.0 sorts a b (subst (λ (p : Progress). Lead p sorts a) next ha.3) hb.3

-- the place behind the first of some lines, and that the next line stands there
lead_next : (at : Progress) (sorts : List Sort) (mid : Progress) (sort : Sort) (more : List Sort) (end : Progress) → Lead at sorts mid → Lead at (sorts ++ sort ∷ more) end
    → (next : Progress) × Goes mid sort next
lead_next at [] mid sort more end ha hb =
    (hb.0, record { may_stand = subst (λ (p : Progress). behind p sort ≡ Some hb.0) ha hb.1; few = hb.2 })
lead_next at (s ∷ sorts) mid sort more end ha hb =
    let next : hb.0 ≡ ha.0 = cc (ha.1, hb.1) in
    lead_next ha.0 sorts mid sort more end ha.3 (subst (λ (p : Progress). Lead p (sorts ++ sort ∷ more) end) next hb.3)

goes_on : (la lb : List Line) (line : Line) (more : List Line) (at end : Progress) → lb ≡ la ++ line ∷ more → Lead outset (map sort_of la) at
    → Lead outset (map sort_of lb) end → (next : Progress) × Goes at (sort_of line) next
goes_on la lb line more at end e ha hb =
    let sorts : map sort_of lb ≡ map sort_of la ++ sort_of line ∷ map sort_of more = ap (map sort_of) e ∙ map-append sort_of la (line ∷ more) in
    lead_next outset (map sort_of la) at (sort_of line) (map sort_of more) end ha (subst (λ (s : List Sort). Lead outset s end) sorts hb)

-- what fails at a row is not read there, and does not end a text
record IsEnd (Fails : Progress → List (List ℕ) → Type 0) : Type 0 where
  stops : (at : Progress) (row : List ℕ) (rows : List (List ℕ)) (line : Line) (next : Progress) → Fails at (row ∷ rows) → Says row line → IsWithinLimits line
      → Goes at (sort_of line) next → ⊥
  inside : (at : Progress) → is_outside at.place ≡ true → Fails at [] → ⊥

none_or_some : (at : Progress) (sort : Sort) (next : Progress) → behind at sort ≡ None → behind at sort ≡ Some next → ⊥
none_or_some at sort next a b = absurd (cc)

true_or_false : (b : Bool) → b ≡ true → b ≡ false → ⊥
true_or_false b t f = absurd (cc)

none_ends : IsEnd NoneMayStand
none_ends = record {
  stops = λ at row rows line next none says within goes. none_or_some at (sort_of line) next (none line says) goes.may_stand;
  inside = λ at out in_it. true_or_false (is_outside at.place) out in_it;
}

too_much_there : (at : Progress) (row : List ℕ) (line : Line) (next : Progress) → IsTooMuch at row → Says row line → IsWithinLimits line → Goes at (sort_of line) next → ⊥
too_much_there at row line next h says within goes =
    let is : line ≡ h.line = one_line row line h.line says h.says in
    let there : behind at (sort_of h.line) ≡ Some next = subst (λ (l : Line). behind at (sort_of l) ≡ Some next) is goes.may_stand in
    let nexts : next ≡ h.next = cc (there, h.may_stand) in
    h.past (subst IsWithinLimits is within) (subst AreFew nexts goes.few)

too_much_ends : IsEnd NextIsTooMuch
too_much_ends = record {
  stops = λ at row rows line next much says within goes. too_much_there at row line next much says within goes;
  inside = λ at out much. much;
}

-- a reading does not go on where another fails
not_longer : (Fails : Progress → List (List ℕ) → Type 0) → IsEnd Fails → (la lb : List Line) (at end : Progress) (rest : List (List ℕ)) (row : List ℕ) (rows : List (List ℕ))
    (line : Line) (more : List Line) → Fails at rest → rest ≡ row ∷ rows → Says row line → IsWithinLimits line → lb ≡ la ++ line ∷ more
    → Lead outset (map sort_of la) at → Lead outset (map sort_of lb) end → ⊥
not_longer Fails ends la lb at end rest row rows line more fails rest_is says within lines ha hb =
    let on = goes_on la lb line more at end lines ha hb in
    ends.stops at row rows line on.0 (subst (λ (r : List (List ℕ)). Fails at r) rest_is fails) says within on.1

-- two readings that fail do so at one place
record IsSameEnd (la lb : List Line) (a b : Progress) (sa sb : List (List ℕ)) : Type 0 where
  lines_are : la ≡ lb
  at_is : a ≡ b
  rest_is : sa ≡ sb

same_leads : (la lb : List Line) (a b : Progress) → la ≡ lb → Lead outset (map sort_of la) a → Lead outset (map sort_of lb) b → a ≡ b
same_leads la lb a b e ha hb = lead_one outset (map sort_of lb) a b (subst (λ (l : List Line). Lead outset (map sort_of l) a) e ha) hb

same_end : (F G : Progress → List (List ℕ) → Type 0) → IsEnd F → IsEnd G → (bytes : List ℕ) (m n : ℕ) (x : IsFirstBad bytes F m) (y : IsFirstBad bytes G n)
    → IsSameEnd x.lines y.lines x.at y.at x.rest y.rest
same_end F G f g bytes m n x y =
    elim (fork x.before y.before x.lines y.lines x.rest y.rest x.read.say y.read.say (sym x.rows_are ∙ y.rows_are)) [
      | same lines rest ↦ record { lines_are = lines; at_is = same_leads x.lines y.lines x.at y.at lines x.read.lead y.read.lead; rest_is = rest }
      | longer row rows line more rest says within lines ↦ absurd (not_longer F f x.lines y.lines x.at y.at x.rest row rows line more x.fails rest says within lines x.read.lead y.read.lead)
      | shorter row rows line more rest says within lines ↦ absurd (not_longer G g y.lines x.lines y.at x.at y.rest row rows line more y.fails rest says within lines y.read.lead x.read.lead)
    ]

same_number : (F G : Progress → List (List ℕ) → Type 0) → IsEnd F → IsEnd G → (bytes : List ℕ) (m n : ℕ) → IsFirstBad bytes F m → IsFirstBad bytes G n → m ≡ n
same_number F G f g bytes m n x y = x.number_is ∙ ap (λ (l : List Line). length l + 1) (same_end F G f g bytes m n x y).lines_are ∙ sym y.number_is

-- a line that may not stand passes no limit
one_kind : (at : Progress) (rest : List (List ℕ)) → NoneMayStand at rest → NextIsTooMuch at rest → ⊥
one_kind at [] none much = much
one_kind at (row ∷ rows) none much = none_or_some at (sort_of much.line) much.next (none much.line much.says) much.may_stand

text_or_limit : (bytes : List ℕ) (m n : ℕ) → IsFirstBad bytes NoneMayStand m → IsFirstBad bytes NextIsTooMuch n → ⊥
text_or_limit bytes m n x y =
    let e = same_end NoneMayStand NextIsTooMuch none_ends too_much_ends bytes m n x y in
    one_kind y.at y.rest (subst (λ (p : Progress). NoneMayStand p y.rest) e.at_is (subst (λ (r : List (List ℕ)). NoneMayStand x.at r) e.rest_is x.fails)) y.fails

pub one_cause : (bytes : List ℕ) (f g : ReadFault) → f ≢ Memory → g ≢ Memory → IsModuleCause bytes f → IsModuleCause bytes g → f ≡ g
one_cause bytes (Text m) (Text n) a b x y = ap Text (same_number NoneMayStand NoneMayStand none_ends none_ends bytes m n x y)
one_cause bytes (Text m) (Limit n) a b x y = absurd (text_or_limit bytes m n x y)
one_cause bytes (Limit m) (Text n) a b x y = absurd (text_or_limit bytes n m y x)
one_cause bytes (Limit m) (Limit n) a b x y = ap Limit (same_number NextIsTooMuch NextIsTooMuch too_much_ends too_much_ends bytes m n x y)
one_cause bytes Memory g a b x y = absurd (a refl)
one_cause bytes f Memory a b x y = absurd (b refl)

-- a text that is read does not fail
not_both : (F : Progress → List (List ℕ) → Type 0) → IsEnd F → (bytes : List ℕ) (d : List (ℕ × Line)) (n : ℕ) → IsDraft bytes d → IsFirstBad bytes F n → ⊥
not_both F f bytes d n x y =
    elim (fork y.before (rows_of bytes) y.lines x.lines y.rest [] y.read.say x.read.say (sym y.rows_are ∙ sym (append-nil (rows_of bytes)))) [
      | same lines rest ↦ (let at = same_leads y.lines x.lines y.at x.end lines y.read.lead x.read.lead in
          f.inside x.end x.outside (subst (λ (p : Progress). F p []) at (subst (λ (r : List (List ℕ)). F y.at r) rest y.fails)))
      | longer row rows line more rest says within lines ↦ not_longer F f y.lines x.lines y.at x.end y.rest row rows line more y.fails rest says within lines y.read.lead x.read.lead
      | shorter row rows line more rest says within lines ↦ absurd (cc)
    ]

pub draft_or_cause : (bytes : List ℕ) (d : List (ℕ × Line)) (f : ReadFault) → f ≢ Memory → IsDraft bytes d → IsModuleCause bytes f → ⊥
draft_or_cause bytes d (Text n) a x y = not_both NoneMayStand none_ends bytes d n x y
draft_or_cause bytes d (Limit n) a x y = not_both NextIsTooMuch too_much_ends bytes d n x y
draft_or_cause bytes d Memory a x y = a refl

-- rows say one list of lines
same_lines : (rows : List (List ℕ)) (la lb : List Line) → Say rows la → Say rows lb → la ≡ lb
same_lines [] [] [] ha hb = refl
same_lines [] (a ∷ la) lb ha hb = absurd ha
same_lines [] [] (b ∷ lb) ha hb = absurd hb
same_lines (r ∷ rows) [] lb ha hb = absurd ha
same_lines (r ∷ rows) (a ∷ la) [] ha hb = absurd hb
same_lines (r ∷ rows) (a ∷ la) (b ∷ lb) ha hb =
    let first = one_line r a b ha.0 hb.0 in
    let others = same_lines rows la lb ha.2 hb.2 in
    cc

pub one_draft : (bytes : List ℕ) (d e : List (ℕ × Line)) → IsDraft bytes d → IsDraft bytes e → d ≡ e
one_draft bytes d e x y = x.draft_is ∙ ap (numbered 1) (same_lines (rows_of bytes) x.lines y.lines x.read.say y.read.say) ∙ sym y.draft_is
