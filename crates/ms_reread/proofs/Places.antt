-- Texts at places of a line, and the tokens that stand there.
use Rattle.std.proofs.Common.{◌≡◌, ◌<◌, ◌≤◌, ◌+◌, ◌-◌, ℕ, suc, true, false, List, [], ◌∷◌, ◌++◌, length, take, drop, get_or, slice_index, slice_range, refl, sym, ap, ◌∙◌, inl, inr, arith, append_assoc, length-append, length-drop, take_at, drop_at, take-add, drop-drop}
use Rattle.std.proofs.lemmas.List.{get_or-drop, get_or-take, get_or_append_left, get_or_past, length-take-le}
use Rattle.std.proofs.Math.Seq.{take-append-add}
use Rattle.std.proofs.lemmas.Bool.{cases_lt, false≢true}
use Rattle.ms_lex.specs.Bytes.{is_separator}
use Rattle.ms_lex.specs.Kinds.{is_token}
use Rattle.ms_lex.specs.Line.{IsNext, NoLonger, IsTokenAfter, EndsAfter, Follow, IsTokens}
use Rattle.ms_lex.specs.declared.token.Token.{Token}
use Rattle.ms_lex.specs.declared.token.TokenKind.{TokenKind}
use Rattle.ms_lex.proofs.First.{some_bytes}
use Rattle.ms_lex.proofs.Follows.{token_grows}
use Rattle.ms_grammar.specs.Parts.{end_of}
use Rattle.ms_reread.proofs.Ends.{Ends, no_longer, token_no_separator}

-- a text stands at a place of a line, with the rest of the line behind it
pub record Stands (line : List ℕ) (at : ℕ) (text rest : List ℕ) : Type 0 where
  pub within : at ≤ length line
  pub here : drop at line ≡ text ++ rest

pub stands_length : (line : List ℕ) (at : ℕ) (text rest : List ℕ) → Stands line at text rest → at + (length text + length rest) ≡ length line
stands_length line at text rest h =
    let whole : length (drop at line) ≡ length (text ++ rest) = ap length h.here in
    omega (arith, length-drop at line, length-append text rest, h.within)

-- the first of two texts
pub stands_first : (line : List ℕ) (at : ℕ) (s t rest : List ℕ) → Stands line at (s ++ t) rest → Stands line at s (t ++ rest)
stands_first line at s t rest h = record { within = h.within; here = h.here ∙ append_assoc s t rest }

-- the second of two texts
pub stands_second : (line : List ℕ) (at : ℕ) (s t rest : List ℕ) → Stands line at (s ++ t) rest → Stands line (at + length s) t rest
stands_second line at s t rest h = record {
  within = omega (arith, stands_length line at (s ++ t) rest h, length-append s t);
  here = sym (drop-drop (length s) at line) ∙ ap (λ l. drop (length s) l) (h.here ∙ append_assoc s t rest) ∙ drop_at s (t ++ rest) (length s) refl;
}

-- the text that stands at a place is a slice there
pub slice_stands : (line : List ℕ) (at : ℕ) (s rest : List ℕ) → Stands line at s rest → slice_range line at (at + length s) ≡ s
slice_stands line at s rest h =
    let gone : at + length s - at ≡ length s = omega arith in
    rw (gone, h.here) (take_at s rest (length s) refl)

-- one byte of it
pub byte_stands : (line : List ℕ) (at : ℕ) (s rest : List ℕ) (k : ℕ) → Stands line at s rest → k < length s → slice_index line (at + k) ≡ get_or s k 0
byte_stands line at s rest k h less =
    sym (get_or-drop at line k 0) ∙ ap (λ l. get_or l k 0) h.here ∙ get_or_append_left s rest 0 k less

-- only separators from one place to another
pub record Gap (line : List ℕ) (from to : ℕ) : Type 0 where
  pub after : from ≤ to
  pub within : to ≤ length line
  pub gap : (k : ℕ) → from ≤ k → k < to → is_separator (slice_index line k) ≡ true

-- tokens that follow one another between two places, with only separators behind the last
abbrev pub Run : List ℕ → ℕ → ℕ → List Token → Type 0
Run line from to tokens = Follow line (λ place. Gap line place to) from tokens

pub gap_none : (line : List ℕ) (at : ℕ) → at ≤ length line → Gap line at at
gap_none line at within = record { after = omega arith; within = within; gap = λ k low high. absurd (omega arith) }

pub gap_join : (line : List ℕ) (a b c : ℕ) → Gap line a b → Gap line b c → Gap line a c
gap_join line a b c one two = record {
  after = omega (arith, one.after, two.after);
  within = two.within;
  gap = λ k low high. elim (cases_lt k b) [ inl before ↦ one.gap k low before | inr behind ↦ two.gap k behind high ];
}

next_widen : (line : List ℕ) (a b at : ℕ) → Gap line a b → IsNext line b at → IsNext line a at
next_widen line a b at one next = record {
  after = omega (arith, one.after, next.after);
  within = next.within;
  gap = λ k low high. elim (cases_lt k b) [ inl before ↦ one.gap k low before | inr behind ↦ next.gap k behind high ];
  stop = next.stop;
}

-- separators before tokens
pub run_widen : (line : List ℕ) (a b c : ℕ) (tokens : List Token) → Gap line a b → Run line b c tokens → Run line a c tokens
run_widen line a b c [] one run = gap_join line a b c one run
run_widen line a b c (t ∷ ts) one run =
    (record { next = next_widen line a b t.from one run.0.next; within = run.0.within; bytes = run.0.bytes; longest = run.0.longest }, run.1)

-- tokens behind tokens
pub run_join : (line : List ℕ) (a b c : ℕ) (ts us : List Token) → Run line a b ts → Run line b c us → Run line a c (ts ++ us)
run_join line a b c [] us one two = run_widen line a b c us one two
run_join line a b c (t ∷ ts) us one two = (one.0, run_join line t.to b c ts us one.1 two)

ends_line : (line : List ℕ) (place : ℕ) → Gap line place (length line) → EndsAfter line place
ends_line line place gap = record {
  at = length line;
  next = record { after = gap.after; within = gap.within; gap = gap.gap; stop = rw (get_or_past line (length line) 0 (omega arith)) refl };
  end = inl refl;
}

pub follow_map : (line : List ℕ) (E F : ℕ → Type 0) (from : ℕ) (tokens : List Token) → ((place : ℕ) → E place → F place) → Follow line E from tokens → Follow line F from tokens
follow_map line E F from [] f run = f from run
follow_map line E F from (t ∷ ts) f run = (run.0, follow_map line E F t.to ts f run.1)

-- tokens up to the end of a line are its tokens
pub whole_tokens : (line : List ℕ) (tokens : List Token) → Run line 0 (length line) tokens → IsTokens line tokens
whole_tokens line tokens run = follow_map line (λ place. Gap line place (length line)) (EndsAfter line) 0 tokens (ends_line line) run

-- a slice in two
pub slice_split : (line : List ℕ) (a b c : ℕ) → a ≤ b → b ≤ c → slice_range line a c ≡ slice_range line a b ++ slice_range line b c
slice_split line a b c low high =
    let parts : c - a ≡ (b - a) + (c - b) = omega arith in
    let back : a + (b - a) ≡ b = omega arith in
    rw parts (take-add (b - a) (c - b) (drop a line) ∙ ap (λ l. take (b - a) (drop a line) ++ take (c - b) l) (drop-drop (b - a) a line ∙ ap (λ n. drop n line) back))

pub slice_length : (line : List ℕ) (a b : ℕ) → a ≤ b → b ≤ length line → length (slice_range line a b) ≡ b - a
slice_length line a b low high = length-take-le (b - a) (drop a line) (omega (arith, length-drop a line))

-- separators of one line at a place of another
pub gap_stands : (line old : List ℕ) (at a b : ℕ) (rest : List ℕ) → Stands line at (slice_range old a b) rest → a ≤ b → b ≤ length old →
    ((k : ℕ) → a ≤ k → k < b → is_separator (slice_index old k) ≡ true) → Gap line at (at + length (slice_range old a b))
gap_stands line old at a b rest h low high separators = record {
  after = omega arith;
  within = omega (arith, stands_length line at (slice_range old a b) rest h);
  gap = λ k from to.
      let long : length (slice_range old a b) ≡ b - a = slice_length old a b low high in
      let back : at + (k - at) ≡ k = omega arith in
      let inside : k - at < length (slice_range old a b) = omega arith in
      let short : k - at < b - a = omega arith in
      let byte : slice_index line k ≡ slice_index old (a + (k - at)) =
      ap (λ n. slice_index line n) (sym back) ∙ byte_stands line at (slice_range old a b) rest (k - at) h inside
      ∙ get_or-take (b - a) (drop a old) (k - at) 0 short ∙ get_or-drop a old (k - at) 0 in
      rw byte (separators (a + (k - at)) (omega arith) (omega arith));
}

-- a token of a kind at a place, of so many bytes
abbrev pub token_at : TokenKind → ℕ → List ℕ → Token
token_at kind at s = record { kind = kind; from = at; to = at + length s }

longest_by : (line : List ℕ) (at : ℕ) (kind : TokenKind) (s rest : List ℕ) → Stands line at s rest → is_token kind s ≡ true → Ends kind s rest → NoLonger line at (at + length s)
longest_by line at kind s [] h token ends = λ other later more fits. absurd (omega (arith, stands_length line at s [] h))
longest_by line at kind s (c ∷ rest) h token ends = λ other later more fits.
    let left : later - at ≡ length s + suc (later - at - length s - 1) = omega arith in
    rw (left, h.here, take-append-add s (c ∷ rest) (suc (later - at - length s - 1)))
    (no_longer kind other s c (take (later - at - length s - 1) rest) token ends)

stop_by : (line : List ℕ) (at : ℕ) (kind : TokenKind) (s rest : List ℕ) → Stands line at s rest → is_token kind s ≡ true → is_separator (slice_index line at) ≡ false
stop_by line at kind [] rest h token = absurd (false≢true (sym (some_bytes kind) ∙ token))
stop_by line at kind (b ∷ s) rest h token =
    let same : at + 0 ≡ at = omega arith in
    let byte : slice_index line at ≡ b = ap (λ n. slice_index line n) (sym same) ∙ byte_stands line at (b ∷ s) rest 0 h (omega arith) in
    rw byte (token_no_separator kind b s token)

-- a token that stands at a place is the next one there
pub token_stands : (line : List ℕ) (at : ℕ) (kind : TokenKind) (s rest : List ℕ) → Stands line at s rest → is_token kind s ≡ true → Ends kind s rest → IsTokenAfter line at (token_at kind at s)
token_stands line at kind s rest h token ends = record {
  next = record { after = omega arith; within = h.within; gap = λ k low high. absurd (omega arith); stop = stop_by line at kind s rest h token };
  within = omega (arith, stands_length line at s rest h);
  bytes = rw (slice_stands line at s rest h) token;
  longest = longest_by line at kind s rest h token ends;
}

-- the last of some tokens ends behind the first
pub end_behind : (line : List ℕ) (Rest : ℕ → Type 0) (from : ℕ) (t : Token) (ts : List Token) → Follow line Rest from (t ∷ ts) → (t.to ≤ end_of t ts) × (end_of t ts ≤ length line)
end_behind line Rest from t [] run = (omega arith, run.0.within)
end_behind line Rest from t (u ∷ us) run =
    let rest = end_behind line Rest t.to u us run.1 in
    let grows = token_grows line t.to u run.1.0 in
    (omega (arith, rest.0, grows, run.1.0.next.after), rest.1)
