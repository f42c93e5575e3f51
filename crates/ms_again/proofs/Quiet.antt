-- What is printed for a line holds no line feed, and is said by its printed form.
use Rattle.std.proofs.Common.{◌≡◌, ◌==◌, ◌≤◌, ◌<◌, ◌+◌, ◌-◌, ℕ, zero, suc, Bool, true, false, List, [], ◌∷◌, ◌++◌, length, drop, get_or, slice_range, refl, sym, ap, subst, ◌∙◌, inl, inr, arith}
use Rattle.std.specs.List.{list_all}
use Rattle.std.specs.Char.{is_ascii_digit}
use Rattle.std.proofs.lemmas.List.{append-nil, get_or-take, get_or-drop}
use Rattle.std.proofs.lemmas.Bool.{and_parts, or_cases, eqb-true, false_from_ne_true, both_ways, false≢true, cases_lt}
use Rattle.ms_lex.specs.Bytes.{starts_word, continues_word, is_separator, is_mark, is_quotable}
use Rattle.ms_lex.specs.Kinds.{is_token, is_word, is_digits, is_name, is_quotation, is_one_mark, opens, behind}
use Rattle.ms_lex.specs.Line.{EndsAfter}
use Rattle.ms_lex.specs.declared.token.Token.{Token}
use Rattle.ms_lex.specs.declared.token.TokenKind.{TokenKind}
use Rattle.ms_lex.specs.declared.token.TokenKind.TheVariants.{Word, Local, Global, Number, Quoted, Group, Meta, Punct}
use Rattle.ms_grammar.specs.Kept.{Each}
use Rattle.ms_grammar.specs.Parts.{text_of}
use Rattle.ms_grammar.specs.Form.{Scale, no_scale, form, inst_parts, result_parts, printed}
use Rattle.ms_grammar.specs.Fits.{FitsLine}
use Rattle.ms_grammar.specs.Grammar.{Says, kept_of}
use Rattle.ms_grammar.specs.declared.line.Line.{Line}
use Rattle.ms_grammar.specs.declared.line.Line.TheVariants as said
use Rattle.ms_grammar.specs.declared.line.RawInst.{RawInst}
use Rattle.ms_grammar.specs.declared.line.RawInst.TheVariants.{Gep, Step}
use Rattle.ms_grammar.proofs.Printing.{text_of_append}
use Rattle.ms_reread.proofs.Places.{Stands, Run, follow_map, whole_tokens}
use Rattle.ms_reread.proofs.Moves.{Old}
use Rattle.ms_reread.proofs.Pieces.{Said, Back}
use Rattle.ms_reread.proofs.Reread.{fits_kept}
use Rattle.ms_reread.proofs.Lines.{line_back}

-- bytes without a line feed
abbrev pub IsQuiet : List ℕ → Type 0
IsQuiet s = Each (λ b. (b == 10) ≡ false) s

-- a test that a line feed does not pass
no_feed : (p : ℕ → Bool) → p 10 ≡ false → (b : ℕ) → p b ≡ true → (b == 10) ≡ false
no_feed p off b on = false_from_ne_true _ (λ e. let P : ℕ → Type 0 = λ k. p k ≡ true in both_ways (p 10) off (subst P (eqb-true b 10 e) on))

all_quiet : (p : ℕ → Bool) → p 10 ≡ false → (s : List ℕ) → list_all p s ≡ true → IsQuiet s
all_quiet p off [] h = tt
all_quiet p off (b ∷ bs) h = let both = and_parts (p b) _ h in (no_feed p off b both.0, all_quiet p off bs both.1)

opens_quiet : (first p : ℕ → Bool) → first 10 ≡ false → p 10 ≡ false → (s : List ℕ) → opens first p s ≡ true → IsQuiet s
opens_quiet first p one two [] h = tt
opens_quiet first p one two (b ∷ bs) h = let both = and_parts (first b) _ h in (no_feed first one b both.0, all_quiet p two bs both.1)

word_quiet : (s : List ℕ) → is_word s ≡ true → IsQuiet s
word_quiet s h = opens_quiet starts_word continues_word refl refl s h

digits_quiet : (s : List ℕ) → is_digits s ≡ true → IsQuiet s
digits_quiet s h = opens_quiet is_ascii_digit is_ascii_digit refl refl s h

name_quiet : (s : List ℕ) → is_name s ≡ true → IsQuiet s
name_quiet s h = elim (or_cases (is_word s) _ h) [ inl word ↦ word_quiet s word | inr digits ↦ digits_quiet s digits ]

behind_quiet : (first : ℕ) (test : List ℕ → Bool) → (10 == first) ≡ false → ((s : List ℕ) → test s ≡ true → IsQuiet s) → (s : List ℕ) → behind first test s ≡ true → IsQuiet s
behind_quiet first test off quiet [] h = tt
behind_quiet first test off quiet (b ∷ bs) h = let both = and_parts (b == first) _ h in (no_feed (λ c. c == first) off b both.0, quiet bs both.1)

quotation_quiet : (s : List ℕ) → is_quotation s ≡ true → IsQuiet s
quotation_quiet [] h = tt
quotation_quiet (b ∷ []) h = (no_feed (λ c. c == 34) refl b h, tt)
quotation_quiet (b ∷ (c ∷ bs)) h = let both = and_parts (is_quotable b) _ h in (no_feed is_quotable refl b both.0, quotation_quiet (c ∷ bs) both.1)

mark_quiet : (s : List ℕ) → is_one_mark s ≡ true → IsQuiet s
unfolding is_mark
mark_quiet [] h = tt
mark_quiet (b ∷ []) h = (no_feed is_mark refl b h, tt)
mark_quiet (b ∷ (c ∷ bs)) h = absurd (false≢true h)

token_quiet : (kind : TokenKind) (s : List ℕ) → is_token kind s ≡ true → IsQuiet s
token_quiet Word s h = word_quiet s h
token_quiet Local s h = behind_quiet 37 is_name refl name_quiet s h
token_quiet Global s h = behind_quiet 64 is_word refl word_quiet s h
token_quiet Number s h =
    elim (or_cases (is_digits s) _ h) [ inl digits ↦ digits_quiet s digits | inr negative ↦ behind_quiet 45 is_digits refl digits_quiet s negative ]
token_quiet Quoted s h = behind_quiet 34 is_quotation refl quotation_quiet s h
token_quiet Group s h = behind_quiet 35 is_digits refl digits_quiet s h
token_quiet Meta s h = behind_quiet 33 (list_all continues_word) refl (all_quiet continues_word refl) s h
token_quiet Punct s h = mark_quiet s h

quiet_at : (s : List ℕ) (k : ℕ) → IsQuiet s → (get_or s k 0 == 10) ≡ false
quiet_at [] k h = refl
quiet_at (b ∷ bs) zero h = h.0
quiet_at (b ∷ bs) (suc k) h = quiet_at bs k h.1

quiet_by : (s : List ℕ) → ((k : ℕ) → k < length s → (get_or s k 0 == 10) ≡ false) → IsQuiet s
quiet_by [] h = tt
quiet_by (b ∷ bs) h = (h 0 (omega arith), quiet_by bs (λ k less. h (suc k) (omega arith)))

-- tokens with separators between them hold none
run_quiet : (line : List ℕ) (from to : ℕ) (tokens : List Token) → Run line from to tokens → (k : ℕ) → from ≤ k → k < to → (get_or line k 0 == 10) ≡ false
run_quiet line from to [] run k low high = no_feed is_separator refl (get_or line k 0) (run.gap k low high)
run_quiet line from to (t ∷ ts) run k low high =
    elim (cases_lt k t.from) [
      | inl before ↦ no_feed is_separator refl (get_or line k 0) (run.0.next.gap k low before)
      | inr behind ↦ elim (cases_lt k t.to) [
        | inl inside ↦
            let short : k - t.from < t.to - t.from = omega arith in
            let place : t.from + (k - t.from) ≡ k = omega arith in
            let byte : get_or (slice_range line t.from t.to) (k - t.from) 0 ≡ get_or line k 0 =
            get_or-take (t.to - t.from) (drop t.from line) (k - t.from) 0 short ∙ get_or-drop t.from line (k - t.from) 0 ∙ ap (λ n. get_or line n 0) place in
            let P : ℕ → Type 0 = λ b. (b == 10) ≡ false in
            subst P byte (quiet_at (slice_range line t.from t.to) (k - t.from) (token_quiet t.kind (slice_range line t.from t.to) run.0.bytes))
        | inr later ↦ run_quiet line t.to to ts run.1 k later high
      ]
    ]

-- the printed form needs no sizes and no indices
inst_text : (s t : Scale) (i : RawInst) → text_of (inst_parts s i) ≡ text_of (inst_parts t i)
inst_text s t (Gep base offset head index rest) = refl
inst_text s t (Step base offset terms head index rest) = refl
inst_text s t i = refl

line_text : (s t : Scale) (l : Line) → text_of (form s l) ≡ text_of (form t l)
line_text s t (said.Inst n inst) =
    ap (λ x. 32 ∷ 32 ∷ x) (text_of_append (result_parts n) (inst_parts s inst) ∙ (ap (λ x. text_of (result_parts n) ++ x) (inst_text s t inst) ∙ sym (text_of_append (result_parts n) (inst_parts t inst))))
line_text s t l = refl

old_line : (bytes : List ℕ) (w : Line) (says : Says bytes w) → Old bytes says.tokens
old_line bytes w says = record {
  from = 0;
  follow = follow_map bytes (EndsAfter bytes) (λ place. Unit {0}) 0 says.tokens (λ place end. tt) says.are_tokens;
  readable = says.readable;
}

whole_line : (bytes : List ℕ) (w l : Line) (says : Says bytes w) → Back false (form says.scale w) (form says.scale l) → Said (printed l) 0 (length (printed l)) (form says.scale l)
whole_line bytes w l says back =
    let text : List ℕ = text_of (form says.scale l) in
    let same : printed l ≡ text = line_text no_scale says.scale l in
    let stands : Stands (printed l) 0 text [] = record { within = omega arith; here = same ∙ sym (append-nil text) } in
    let long : length (printed l) ≡ length text = ap length same in
    back.again bytes says.tokens (old_line bytes w says) says.spelled (printed l) [] 0 (length (printed l)) stands tt (omega arith)

-- a line that is said by its printed form, which is one row
pub record IsPrinted (l : Line) : Type 0 where
  pub says : Says (printed l) l
  pub quiet : IsQuiet (printed l)

-- where one line was said, another is said by its printed form
pub printed_by : (bytes : List ℕ) (w l : Line) (says : Says bytes w) → Back false (form says.scale w) (form says.scale l) → FitsLine says.scale l → IsPrinted l
printed_by bytes w l says back fits =
    let again = whole_line bytes w l says back in
    record {
      says = record {
        tokens = again.tokens;
        scale = says.scale;
        are_tokens = whole_tokens (printed l) again.tokens again.follow;
        readable = again.readable;
        spelled = again.spelled;
        fits = fits;
      };
      quiet = quiet_by (printed l) (λ k less. run_quiet (printed l) 0 (length (printed l)) again.tokens again.follow k (omega arith) less);
    }

-- what is kept of a line is said by its printed form
pub kept_printed : (bytes : List ℕ) (w : Line) → Says bytes w → IsPrinted (kept_of w)
kept_printed bytes w says = printed_by bytes w (kept_of w) says (line_back says.scale w says.fits) (fits_kept says.scale w says.fits)
