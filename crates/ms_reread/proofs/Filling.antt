-- Texts that are filled into the places of locals stand where the filled text is printed.
use Rattle.std.proofs.Common.{◌≡◌, ◌<◌, ◌≤◌, ◌+◌, ◌==◌, ℕ, Bool, true, false, List, [], ◌∷◌, ◌++◌, if◌then◌else◌, length, slice_range, map, refl, sym, ap, subst, ◌∙◌, arith, append_assoc, length-append}
use Rattle.std.proofs.lemmas.Bool.Decides.{nat_tests}
use Rattle.ms_lex.specs.Bytes.{is_separator}
use Rattle.ms_lex.specs.Kinds.{is_token}
use Rattle.ms_lex.specs.Line.{NoLonger, Follow}
use Rattle.ms_lex.specs.declared.token.Token.{Token}
use Rattle.ms_lex.specs.declared.token.TokenKind.{TokenKind}
use Rattle.ms_lex.proofs.Follows.{token_grows}
use Rattle.ms_grammar.specs.Words.{spelling}
use Rattle.ms_grammar.specs.Kept.{Each}
use Rattle.ms_grammar.specs.Parts.{bytes_at, texts, kept_text, filled, is_local, gap_or_blank, cut_token, cut_behind, cut_text}
use Rattle.ms_grammar.specs.Grammar.{IsReadableToken}
use Rattle.ms_grammar.specs.declared.keyword.Keyword.TheVariants as word
use Rattle.ms_reread.proofs.Ends.{Ends, Calm, calm}
use Rattle.ms_reread.proofs.Places.{Stands, stands_first, stands_second, slice_stands, slice_split, Run, token_at, token_stands}
use Rattle.ms_reread.proofs.Moves.{AreReadable, Old, ends_by, ends_old}
use Rattle.ms_reread.proofs.Pieces.{IsWhole}
use Rattle.ms_reread.proofs.Cells.{Cell, cells_text, cells_cut, cell_texts, AreSeparators, AreChained, separators_between, cells_stand}

-- no percent sign
abbrev pub IsPlain : List ℕ → Type 0
IsPlain [] = Unit {0}
IsPlain (b ∷ bs) = ((b == 37) ≡ false) × IsPlain bs

-- a comma comes first, or nothing
abbrev pub CommaFirst : List (List ℕ) → Type 0
CommaFirst [] = Unit {0}
CommaFirst (t ∷ ts) = t ≡ spelling word.Comma

-- as many texts as there are locals, each local before a comma or at the end, and no other percent sign
abbrev pub FillsAt : Bool → List ℕ → List (List ℕ) → (List (List ℕ) → Type 0) → List (List ℕ) → Type 0
FillsAt false t ts F ns = IsPlain t × F ns
FillsAt true t ts F [] = ⊥
FillsAt true t ts F (n ∷ ns) = CommaFirst ts × F ns

abbrev pub Fills : List (List ℕ) → List (List ℕ) → Type 0
Fills [] ns = ns ≡ []
Fills (t ∷ ts) ns = FillsAt (is_local t) t ts (λ ms. Fills ts ms) ns

-- the texts with others in the places of locals
abbrev pub replaced_at : Bool → List ℕ → (List (List ℕ) → List (List ℕ)) → List (List ℕ) → List (List ℕ)
replaced_at false t F ns = t ∷ F ns
replaced_at true t F [] = t ∷ F []
replaced_at true t F (n ∷ ns) = n ∷ F ns

abbrev pub replaced : List (List ℕ) → List (List ℕ) → List (List ℕ)
replaced [] ns = []
replaced (t ∷ ts) ns = replaced_at (is_local t) t (λ ms. replaced ts ms) ns

-- what is left of a text where locals are cut
abbrev pub mark_of : List ℕ → List ℕ
mark_of n = if is_local n then 37 ∷ [] else n

pub filled_over : (ns : List (List ℕ)) (s rest : List ℕ) → IsPlain s → filled ns (s ++ rest) ≡ s ++ filled ns rest
filled_over [] s rest plain = refl
filled_over (n ∷ ns) [] rest plain = refl
filled_over (n ∷ ns) (b ∷ bs) rest plain = rw plain.0 (ap (λ x. b ∷ x) (filled_over (n ∷ ns) bs rest plain.1))

filled_cell : (ns : List (List ℕ)) (gap s rest : List ℕ) → IsPlain gap → IsPlain s → filled ns ((gap ++ s) ++ rest) ≡ gap ++ (s ++ filled ns rest)
filled_cell ns gap s rest one two =
    ap (λ x. filled ns x) (append_assoc gap s rest) ∙ (filled_over ns gap (s ++ rest) one ∙ ap (λ x. gap ++ x) (filled_over ns s rest two))

filled_local : (n : List ℕ) (ns : List (List ℕ)) (gap rest : List ℕ) → IsPlain gap → filled (n ∷ ns) ((gap ++ 37 ∷ []) ++ rest) ≡ gap ++ (n ++ filled ns rest)
filled_local n ns gap rest plain = ap (λ x. filled (n ∷ ns) x) (append_assoc gap (37 ∷ []) rest) ∙ filled_over (n ∷ ns) gap (37 ∷ rest) plain

separator_plain : (b : ℕ) → is_separator b ≡ true → (b == 37) ≡ false
separator_plain b h = grind (arith, nat_tests)

separator_calm : (b : ℕ) → is_separator b ≡ true → calm b ≡ true
separator_calm b h = grind (arith, nat_tests)

separators_plain : (s : List ℕ) → AreSeparators s → IsPlain s
separators_plain [] all = tt
separators_plain (b ∷ bs) all = (separator_plain b all.0, separators_plain bs all.1)

some_gap : (gap : List ℕ) → AreSeparators gap → AreSeparators (gap_or_blank gap)
some_gap [] all = (refl, tt)
some_gap (b ∷ bs) all = all

calm_some : (gap after : List ℕ) → AreSeparators gap → Calm (gap_or_blank gap ++ after)
calm_some [] after all = refl
calm_some (b ∷ bs) after all = separator_calm b all.0

calm_gap : (gap after : List ℕ) → AreSeparators gap → Calm after → Calm (gap ++ after)
calm_gap [] after all h = h
calm_gap (b ∷ bs) after all h = separator_calm b all.0

comma_calm : (s after : List ℕ) → s ≡ spelling word.Comma → Calm (s ++ after)
unfolding spelling
comma_calm s after e = subst (λ x. Calm (x ++ after)) (sym e) refl

some_twice : (gap : List ℕ) → gap_or_blank (gap_or_blank gap) ≡ gap_or_blank gap
some_twice [] = refl
some_twice (b ∷ bs) = refl

cut_again : (gap n : List ℕ) → cut_token (gap_or_blank gap) n ≡ gap_or_blank gap ++ mark_of n
cut_again gap n = by_test (is_local n)
  where
    by_test : (t : Bool) → (if t then gap_or_blank (gap_or_blank gap) ++ 37 ∷ [] else gap_or_blank gap ++ n) ≡ gap_or_blank gap ++ (if t then 37 ∷ [] else n)
    by_test true = ap (λ g. g ++ 37 ∷ []) (some_twice gap)
    by_test false = refl

-- cells that stand where the filled text of some tokens is printed
pub record Filling (old : List ℕ) (from : ℕ) (ts : List Token) (ns : List (List ℕ)) (rest : List ℕ) : Type 0 where
  pub cells : List Cell
  pub text : cells_text cells ≡ filled ns (cut_behind old from ts)
  pub cut : cells_cut cells ≡ filled (map mark_of ns) (cut_behind old from ts)
  pub same : cell_texts cells ≡ replaced (texts old ts) ns
  pub chained : AreChained cells rest
  pub ends : (kind : TokenKind) (start : ℕ) → NoLonger old start from → start < from → is_token kind (slice_range old start from) ≡ true →
      Ends kind (slice_range old start from) (cells_text cells ++ rest)
  pub calm : CommaFirst (texts old ts) → Calm (cells_text cells ++ rest)

three : (gap s more rest : List ℕ) → (gap ++ (s ++ more)) ++ rest ≡ gap ++ (s ++ (more ++ rest))
three gap s more rest = append_assoc gap (s ++ more) rest ∙ ap (λ x. gap ++ x) (append_assoc s more rest)

filling_other : (old : List ℕ) (from : ℕ) (t : Token) (ts : List Token) (ns : List (List ℕ)) (rest : List ℕ) → Follow old (λ place. Unit {0}) from (t ∷ ts) → AreReadable old (t ∷ ts) →
    is_local (bytes_at old t) ≡ false → IsPlain (bytes_at old t) → Filling old t.to ts ns rest → Filling old from (t ∷ ts) ns rest
filling_other old from t ts ns rest run readable e plain f =
    let s : List ℕ = bytes_at old t in
    let gap : List ℕ = slice_range old from t.from in
    let left : List ℕ = cut_behind old t.to ts in
    let more : List ℕ = cells_text f.cells in
    let grows : t.from < t.to = token_grows old from t run.0 in
    let after : from ≤ t.from = run.0.next.after in
    let within : t.to ≤ length old = run.0.within in
    let separators : AreSeparators gap = separators_between old from t.from after (omega arith) run.0.next.gap in
    let cut_is : cut_token gap s ≡ gap ++ s = rw e refl in
    let split : slice_range old from t.to ≡ gap ++ s = slice_split old from t.from t.to after (omega arith) in
    record {
      cells = record { gap = gap; text = s } ∷ f.cells;
      text = sym (ap (λ x. filled ns (x ++ left)) cut_is ∙ (filled_cell ns gap s left (separators_plain gap separators) plain ∙ ap (λ x. gap ++ (s ++ x)) (sym f.text)));
      cut = ap (λ x. x ++ cells_cut f.cells) cut_is ∙ (append_assoc gap s (cells_cut f.cells) ∙ (ap (λ x. gap ++ (s ++ x)) f.cut
          ∙ sym (ap (λ x. filled (map mark_of ns) (x ++ left)) cut_is ∙ filled_cell (map mark_of ns) gap s left (separators_plain gap separators) plain)));
      same = rw e (ap (λ x. s ∷ x) f.same);
      chained = (
        separators,
        record { kind = t.kind; is = run.0.bytes; readable = readable.0; ends = f.ends t.kind t.from run.0.longest grows run.0.bytes },
        f.chained,
      );
      ends = λ kind start longest less token.
          subst (λ x. Ends kind (slice_range old start from) x)
          (ap (λ x. x ++ (more ++ rest)) split ∙ (append_assoc gap s (more ++ rest) ∙ sym (three gap s more rest)))
          (ends_old old start from t.to kind (more ++ rest) longest less (omega arith) within);
      calm = λ comma. subst (λ x. Calm x) (sym (three gap s more rest)) (calm_gap gap (s ++ (more ++ rest)) separators (comma_calm s (more ++ rest) comma));
    }

filling_local : (old : List ℕ) (from : ℕ) (t : Token) (ts : List Token) (n : List ℕ) (ns : List (List ℕ)) (rest : List ℕ) → Follow old (λ place. Unit {0}) from (t ∷ ts) →
    is_local (bytes_at old t) ≡ true → CommaFirst (texts old ts) → IsWhole n → Filling old t.to ts ns rest → Filling old from (t ∷ ts) (n ∷ ns) rest
filling_local old from t ts n ns rest run e comma w f =
    let s : List ℕ = bytes_at old t in
    let was : List ℕ = slice_range old from t.from in
    let gap : List ℕ = gap_or_blank was in
    let left : List ℕ = cut_behind old t.to ts in
    let more : List ℕ = cells_text f.cells in
    let grows : t.from < t.to = token_grows old from t run.0 in
    let after : from ≤ t.from = run.0.next.after in
    let within : t.to ≤ length old = run.0.within in
    let old_gap : AreSeparators was = separators_between old from t.from after (omega arith) run.0.next.gap in
    let separators : AreSeparators gap = some_gap was old_gap in
    let cut_is : cut_token was s ≡ gap ++ 37 ∷ [] = rw e refl in
    let front : Calm ((gap ++ (n ++ more)) ++ rest) = subst (λ x. Calm x) (sym (three gap n more rest)) (calm_some was (n ++ (more ++ rest)) old_gap) in
    record {
      cells = record { gap = gap; text = n } ∷ f.cells;
      text = sym (ap (λ x. filled (n ∷ ns) (x ++ left)) cut_is ∙ (filled_local n ns gap left (separators_plain gap separators) ∙ ap (λ x. gap ++ (n ++ x)) (sym f.text)));
      cut = ap (λ x. x ++ cells_cut f.cells) (cut_again was n) ∙ (append_assoc gap (mark_of n) (cells_cut f.cells) ∙ (ap (λ x. gap ++ (mark_of n ++ x)) f.cut
          ∙ sym (ap (λ x. filled (map mark_of (n ∷ ns)) (x ++ left)) cut_is ∙ filled_local (mark_of n) (map mark_of ns) gap left (separators_plain gap separators))));
      same = rw e (ap (λ x. n ∷ x) f.same);
      chained = (
        separators,
        record { kind = w.kind; is = w.is; readable = w.readable; ends = ends_by w.kind n (more ++ rest) w.is (f.calm comma) },
        f.chained,
      );
      ends = λ kind start longest less token. ends_by kind (slice_range old start from) ((gap ++ (n ++ more)) ++ rest) token front;
      calm = λ first. front;
    }

filling_by : (old : List ℕ) (from : ℕ) (t : Token) (ts : List Token) (ns : List (List ℕ)) (rest : List ℕ) → Follow old (λ place. Unit {0}) from (t ∷ ts) → AreReadable old (t ∷ ts) →
    (b : Bool) → is_local (bytes_at old t) ≡ b → FillsAt b (bytes_at old t) (texts old ts) (λ ms. Fills (texts old ts) ms) ns → Each IsWhole ns →
    ((ms : List (List ℕ)) → Fills (texts old ts) ms → Each IsWhole ms → Filling old t.to ts ms rest) → Filling old from (t ∷ ts) ns rest
filling_by old from t ts ns rest run readable false e fills whole behind = filling_other old from t ts ns rest run readable e fills.0 (behind ns fills.1 whole)
filling_by old from t ts [] rest run readable true e fills whole behind = absurd fills
filling_by old from t ts (n ∷ ns) rest run readable true e fills whole behind = filling_local old from t ts n ns rest run e fills.0 whole.0 (behind ns fills.1 whole.1)

pub filling : (old : List ℕ) (from : ℕ) (ts : List Token) (ns : List (List ℕ)) (rest : List ℕ) → Follow old (λ place. Unit {0}) from ts → AreReadable old ts → Fills (texts old ts) ns →
    Each IsWhole ns → Calm rest → Filling old from ts ns rest
filling old from [] ns rest run readable fills whole calm = record {
  cells = [];
  text = ap (λ x. filled x []) (sym fills);
  cut = ap (λ x. filled (map mark_of x) []) (sym fills);
  same = refl;
  chained = tt;
  ends = λ kind start longest less token. ends_by kind (slice_range old start from) rest token calm;
  calm = λ first. calm;
}
filling old from (t ∷ ts) ns rest run readable fills whole calm =
    filling_by old from t ts ns rest run readable (is_local (bytes_at old t)) refl fills whole (λ ms f w. filling old t.to ts ms rest run.1 readable.1 f w calm)

-- tokens of a line, again between two places of another with other texts in the places of locals
pub record Refilled (line : List ℕ) (at to : ℕ) (old : List ℕ) (was : List Token) (ns : List (List ℕ)) : Type 0 where
  pub run : List Token
  pub follow : Run line at to run
  pub same : texts line run ≡ replaced (texts old was) ns
  pub cut : cut_text line run ≡ filled (map mark_of ns) (cut_text old was)
  pub kept : kept_text line run ≡ filled ns (cut_text old was)
  pub readable : AreReadable line run

-- a list whose first token is no local
abbrev pub FirstPlain : List (List ℕ) → Type 0
FirstPlain [] = ⊥
FirstPlain (t ∷ ts) = is_local t ≡ false

at_other : (t : List ℕ) (ts ns : List (List ℕ)) → is_local t ≡ false → Fills (t ∷ ts) ns → IsPlain t × Fills ts ns
at_other t ts ns e fills = subst (λ b. FillsAt b t ts (λ ms. Fills ts ms) ns) e fills

pub refilled : (line rest old : List ℕ) (at to : ℕ) (was : List Token) (ns : List (List ℕ)) → Old old was → FirstPlain (texts old was) → Fills (texts old was) ns → Each IsWhole ns →
    Stands line at (filled ns (cut_text old was)) rest → Calm rest → to ≡ at + length (filled ns (cut_text old was)) → Refilled line at to old was ns
refilled line rest old at to [] ns o first fills whole h calm there = absurd first
refilled line rest old at to (t ∷ ts) ns o first fills whole h calm there =
    let s : List ℕ = bytes_at old t in
    let left : List ℕ = cut_behind old t.to ts in
    let both = at_other s (texts old ts) ns first fills in
    let f = filling old t.to ts ns rest o.follow.1 o.readable.1 both.1 whole calm in
    let more : List ℕ = cells_text f.cells in
    let grows : t.from < t.to = token_grows old o.from t o.follow.0 in
    let printed : filled ns (s ++ left) ≡ s ++ more = filled_over ns s left both.0 ∙ ap (λ x. s ++ x) (sym f.text) in
    let stands : Stands line at (s ++ more) rest = subst (λ x. Stands line at x rest) printed h in
    let here : Stands line at s (more ++ rest) = stands_first line at s more rest stands in
    let long : length (filled ns (s ++ left)) ≡ length s + length more = ap length printed ∙ length-append s more in
    let later = cells_stand line rest (at + length s) to f.cells (stands_second line at s more rest stands) f.chained (omega arith) in
    let u : Token = token_at t.kind at s in
    let bytes : bytes_at line u ≡ s = slice_stands line at s (more ++ rest) here in
    record {
      run = u ∷ later.run;
      follow = (token_stands line at t.kind s (more ++ rest) here o.follow.0.bytes (f.ends t.kind t.from o.follow.0.longest grows o.follow.0.bytes), later.follow);
      same = ap (λ b. b ∷ texts line later.run) bytes ∙ (ap (λ x. s ∷ x) (later.same ∙ f.same) ∙ sym (kept_first s (texts old ts) ns first));
      cut = ap (λ b. b ++ cut_behind line (at + length s) later.run) bytes ∙ (ap (λ x. s ++ x) (later.cut ∙ f.cut) ∙ sym (filled_over (map mark_of ns) s left both.0));
      kept = ap (λ n. slice_range line at n) (later.end u refl ∙ there) ∙ slice_stands line at (filled ns (s ++ left)) rest h;
      readable = (subst (λ b. IsReadableToken t.kind b) (sym bytes) o.readable.0, later.readable);
    }
  where
    kept_first : (t : List ℕ) (ts ns : List (List ℕ)) → is_local t ≡ false → replaced (t ∷ ts) ns ≡ t ∷ replaced ts ns
    kept_first t ts ns e = rw e refl
