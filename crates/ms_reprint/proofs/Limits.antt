-- A text whose rows say lines that may stand there is read, unless a limit is passed: whether a line or a count passes one can be told.
use Rattle.std.proofs.Common.{◌≡◌, ◌<◌, ◌≤◌, ◌+◌, ◌⊎◌, ◌++◌, ℕ, ℤ, ◌≤ℤ◌, ◌<ℤ◌, ◌-ℤ◌, pos, true, List, [], ◌∷◌, length, map, option_map, Some, refl, sym, ap, subst, ◌∙◌, inl, inr, ⊎_elim, arith, append_assoc}
use Rattle.std.proofs.lemmas.Bool.{cases_lt}
use Rattle.std.proofs.lemmas.Int.{by_lt_z}
use Rattle.ms_grammar.specs.Kept.{Each}
use Rattle.ms_grammar.specs.Grammar.{Says}
use Rattle.ms_grammar.specs.declared.line.RawIndex.{RawIndex}
use Rattle.ms_grammar.specs.Limits.{names_of, IsShort, IsNearOffset, IsSmallTerm, IsSmallInst, IsSmall, IsWithinLimits}
use Rattle.ms_grammar.specs.declared.line.Line.{Line}
use Rattle.ms_grammar.specs.declared.line.Line.TheVariants as said
use Rattle.ms_grammar.specs.declared.line.RawInst.{RawInst}
use Rattle.ms_grammar.specs.declared.line.RawInst.TheVariants.{Alloca, Gep, Step, Load, Store, Copy, Call, Bin, Cmp, Select, Cast, Phi}
use Rattle.ms_line.specs.Sorts.{sort_of}
use Rattle.ms_line.specs.declared.sort.Sort.{Sort}
use Rattle.ms_line.specs.declared.sort.Sort.TheVariants.{Define}
use Rattle.ms_read.specs.Rows.{rows_of}
use Rattle.ms_read.specs.Places.{is_outside, counted, behind, outset, AreFew, Lead}
use Rattle.ms_read.specs.Shape.{Walk}
use Rattle.ms_read.specs.Draft.{Say, IsRead, IsDraft, IsModuleCause, numbered}
use Rattle.ms_read.specs.declared.place.Place.{Place}
use Rattle.ms_read.specs.declared.place.Place.TheVariants.{Outside}
use Rattle.ms_read.specs.declared.place.Progress.{Progress}
use Rattle.ms_read.specs.declared.fault.ReadFault.TheVariants.{Limit}
use Rattle.ms_reprint.specs.Rows.{AreSaid}

-- ---- limits can be told

abbrev Told : Type 0 → Type 0
Told P = P ⊎ (P → ⊥)

both_told : {P Q : Type 0} → Told P → Told Q → Told (P × Q)
both_told (inl p) (inl q) = inl (p, q)
both_told (inl p) (inr never) = inr (λ h. never h.1)
both_told (inr never) q = inr (λ h. never h.0)

at_most : (a b : ℕ) → Told (a ≤ b)
at_most a b = ⊎_elim (λ (less : b < a). inr (λ h. omega arith)) (λ (more : a ≤ b). inl more) (cases_lt b a)

not_both : (a b : ℤ) → a <ℤ b → b ≤ℤ a → ⊥
not_both a b l h = grind (arith)

at_most_z : (a b : ℤ) → Told (a ≤ℤ b)
at_most_z a b = by_lt_z b a (λ less. inr (λ h. not_both b a less h)) (λ more. inl more)

shorts_told : (names : List (List ℕ)) → Told (Each IsShort names)
shorts_told [] = inl tt
shorts_told (n ∷ names) = both_told (at_most (length n) 255) (shorts_told names)

offset_told : (offset : ℤ) → Told (IsNearOffset offset)
offset_told offset = both_told (at_most_z (pos 0 -ℤ pos 2147483648) offset) (at_most_z offset (pos 2147483648))

terms_told : (ts : List RawIndex) → Told (Each IsSmallTerm ts)
terms_told [] = inl tt
terms_told (t ∷ ts) = both_told (at_most t.scale 2147483648) (terms_told ts)

inst_told : (i : RawInst) → Told (IsSmallInst i)
inst_told (Alloca size head rest) = at_most size 65536
inst_told (Gep base offset head index rest) = offset_told offset
inst_told (Step base offset terms head index rest) = both_told (offset_told offset) (terms_told terms)
inst_told (Load ty ptr rest) = inl tt
inst_told (Store ty val ptr rest) = inl tt
inst_told (Copy to from len head behind rest) = at_most len 4096
inst_told (Call callee ret args head behind rest) = inl tt
inst_told (Bin op flags ty a b rest) = inl tt
inst_told (Cmp pred flags ty a b rest) = inl tt
inst_told (Select cond ty a b rest) = inl tt
inst_told (Cast op flags from a to rest) = inl tt
inst_told (Phi ty entries rest) = inl tt

small_told : (l : Line) → Told (IsSmall l)
small_told (said.Inst n inst) = inst_told inst
small_told said.Empty = inl tt
small_told said.Close = inl tt
small_told (said.Kept text) = inl tt
small_told (said.Group n text) = inl tt
small_told (said.GlobalVar name text) = inl tt
small_told (said.Label n) = inl tt
small_told (said.Declare head) = inl tt
small_told (said.Define head) = inl tt
small_told (said.Term term) = inl tt

line_told : (l : Line) → Told (IsWithinLimits l)
line_told l = both_told (shorts_told (names_of l)) (small_told l)

few_told : (at : Progress) → Told (AreFew at)
few_told at = three (at_most at.functions 256) (at_most at.blocks 1024) (at_most at.insts 4096)
  where
    three : {P Q R : Type 0} → Told P → Told Q → Told R → Told (P × Q × R)
    three (inl p) (inl q) (inl r) = inl (p, q, r)
    three (inl p) (inl q) (inr never) = inr (λ h. never h.2)
    three (inl p) (inr never) r = inr (λ h. never h.1)
    three (inr never) q r = inr (λ h. never h.0)

-- ---- rows

pub record AreWithin (at : Progress) (lines : List Line) (end : Place) : Type 0 where
  pub within : Each IsWithinLimits lines
  pub progress : Progress
  pub lead : Lead at (map sort_of lines) progress
  pub place_is : progress.place ≡ end

say_more : (rows : List (List ℕ)) (lines : List Line) (row : List ℕ) (line : Line) → Say rows lines → Says row line → IsWithinLimits line → Say (rows ++ row ∷ []) (lines ++ line ∷ [])
say_more [] [] row line h says within = (says, within, tt)
say_more [] (l ∷ lines) row line h says within = absurd h
say_more (r ∷ rows) [] row line h says within = absurd h
say_more (r ∷ rows) (l ∷ lines) row line h says within = (h.0, h.1, say_more rows lines row line h.2 says within)

lead_more : (at mid next : Progress) (sorts : List Sort) (sort : Sort) → Lead at sorts mid → behind mid sort ≡ Some next → AreFew next → Lead at (sorts ++ sort ∷ []) next
lead_more at mid next [] sort h stands few = (next, ap (λ p. behind p sort) h ∙ stands, few, refl)
lead_more at mid next (s ∷ sorts) sort h stands few = (h.0, h.1, h.2, lead_more h.0 mid next sorts sort h.3 stands few)

sorts_more : (lines : List Line) (line : Line) → map sort_of (lines ++ line ∷ []) ≡ map sort_of lines ++ sort_of line ∷ []
sorts_more [] line = refl
sorts_more (l ∷ lines) line = ap (λ (ss : List Sort). sort_of l ∷ ss) (sorts_more lines line)

read_more : (before : List (List ℕ)) (lines : List Line) (at next : Progress) (row : List ℕ) (line : Line) → IsRead before lines at → Says row line → IsWithinLimits line → behind at (sort_of line) ≡ Some next → AreFew next →
    IsRead (before ++ row ∷ []) (lines ++ line ∷ []) next
read_more before lines at next row line h says within stands few = record {
  say = say_more before lines row line h.say says within;
  lead = subst (λ (ss : List Sort). Lead outset ss next) (sym (sorts_more lines line)) (lead_more outset at next (map sort_of lines) (sort_of line) h.lead stands few);
}

counted_place : (at : Progress) (sort : Sort) (place : Place) → (counted at sort place).place ≡ place
counted_place at Define place = refl
counted_place at _ place = refl

rows_within : (bytes : List ℕ) → ((n : ℕ) → IsModuleCause bytes (Limit n) → ⊥) → (before rest : List (List ℕ)) (front lines : List Line) (at : Progress) (end : Place) →
    rows_of bytes ≡ before ++ rest → IsRead before front at → AreSaid rest lines → Walk at.place (map sort_of lines) end → AreWithin at lines end
rows_within bytes none before [] front [] at end rows read said walk = record { within = tt; progress = at; lead = refl; place_is = walk }
rows_within bytes none before [] front (l ∷ lines) at end rows read said walk = absurd said
rows_within bytes none before (row ∷ rest) front [] at end rows read said walk = absurd said
rows_within bytes none before (row ∷ rest) front (l ∷ lines) at end rows read said walk =
    let next = counted at (sort_of l) walk.0 in
    let stands : behind at (sort_of l) ≡ Some next = ap (option_map (counted at (sort_of l))) walk.1 in
    by next stands (counted_place at (sort_of l) walk.0) (both_told (line_told l) (few_told next))
    (λ ok few. rows_within bytes none (before ++ row ∷ []) rest (front ++ l ∷ []) lines next end (rows ∙ sym (append_assoc before (row ∷ []) rest)) (read_more before front at next row l read said.0 ok stands few)
    said.1 (subst (λ p. Walk p (map sort_of lines) end) (sym (counted_place at (sort_of l) walk.0)) walk.2))
  where
    by : (next : Progress) → behind at (sort_of l) ≡ Some next → next.place ≡ walk.0 → Told (IsWithinLimits l × AreFew next) →
        (IsWithinLimits l → AreFew next → AreWithin next lines end) → AreWithin at (l ∷ lines) end
    by next stands place (inl ok) more =
        let r = more ok.0 ok.1 in
        record { within = (ok.0, r.within); progress = r.progress; lead = (next, stands, ok.1, r.lead); place_is = r.place_is }
    by next stands place (inr never) more =
        absurd (none (length front + 1) (record {
          before = before;
          rest = row ∷ rest;
          lines = front;
          at = at;
          rows_are = rows;
          read = read;
          fails = record { line = l; next = next; says = said.0; may_stand = stands; past = λ ok few. never (ok, few) };
          number_is = refl;
        }))

pub are_within : (bytes : List ℕ) (lines : List Line) (end : Place) → ((n : ℕ) → IsModuleCause bytes (Limit n) → ⊥) → AreSaid (rows_of bytes) lines → Walk Outside (map sort_of lines) end → AreWithin outset lines end
are_within bytes lines end none said walk = rows_within bytes none [] (rows_of bytes) [] lines outset end refl (record { say = tt; lead = refl }) said walk

say_all : (rows : List (List ℕ)) (lines : List Line) → AreSaid rows lines → Each IsWithinLimits lines → Say rows lines
say_all [] [] h within = tt
say_all [] (l ∷ lines) h within = absurd h
say_all (r ∷ rows) [] h within = absurd h
say_all (r ∷ rows) (l ∷ lines) h within = (h.0, within.0, say_all rows lines h.1 within.1)

pub read_within : (bytes : List ℕ) (lines : List Line) (end : Place) → AreSaid (rows_of bytes) lines → Walk Outside (map sort_of lines) end → is_outside end ≡ true → ((n : ℕ) → IsModuleCause bytes (Limit n) → ⊥) →
    IsDraft bytes (numbered 1 lines)
read_within bytes lines end said walk outside none =
    let r = are_within bytes lines end none said walk in
    record {
      lines = lines;
      end = r.progress;
      read = record { say = say_all (rows_of bytes) lines said r.within; lead = r.lead };
      outside = ap is_outside r.place_is ∙ outside;
      draft_is = refl;
    }
