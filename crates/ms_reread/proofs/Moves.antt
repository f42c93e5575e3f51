-- Kept tokens of one line, at a place of another where their text stands.
use Rattle.std.proofs.Common.{◌≡◌, ◌<◌, ◌≤◌, ◌+◌, ◌-◌, ℕ, suc, true, false, List, [], ◌∷◌, ◌++◌, length, get_or, slice_index, slice_range, refl, sym, ap, subst, ◌∙◌, arith, length-append, drop-cons}
use Rattle.std.proofs.lemmas.Bool.{false≢true}
use Rattle.ms_lex.specs.Kinds.{is_token}
use Rattle.ms_lex.specs.Line.{NoLonger, Follow}
use Rattle.ms_lex.specs.declared.token.Token.{Token}
use Rattle.ms_lex.specs.declared.token.TokenKind.{TokenKind}
use Rattle.ms_lex.proofs.First.{some_bytes}
use Rattle.ms_lex.proofs.Follows.{token_grows}
use Rattle.ms_grammar.specs.Kept.{Each}
use Rattle.ms_grammar.specs.Parts.{bytes_at, texts, end_of, kept_text, behind_blank}
use Rattle.ms_grammar.specs.Grammar.{IsReadableToken}
use Rattle.ms_reread.proofs.Ends.{Ends, Calm, ends_calm}
use Rattle.ms_reread.proofs.Places.{byte_stands, Stands, stands_first, stands_second, slice_stands, Gap, gap_none, Run, run_widen, slice_split, gap_stands, token_at, token_stands, end_behind, stands_length}

abbrev pub AreReadable : List ℕ → List Token → Type 0
AreReadable line tokens = Each (λ t. IsReadableToken t.kind (bytes_at line t)) tokens

-- some tokens of an old line, again between two places of a new one
pub record Moved (line : List ℕ) (from to : ℕ) (old : List ℕ) (run : List Token) : Type 0 where
  pub first : Token
  pub more : List Token
  pub begins : first.from ≡ from
  pub ends : end_of first more ≡ to
  pub follow : Run line from to (first ∷ more)
  pub same : texts line (first ∷ more) ≡ texts old run
  pub readable : AreReadable line (first ∷ more)

pub ends_by : (kind : TokenKind) (s rest : List ℕ) → is_token kind s ≡ true → Calm rest → Ends kind s rest
ends_by kind [] rest token calm = absurd (false≢true (sym (some_bytes kind) ∙ token))
ends_by kind (b ∷ s) rest token calm = ends_calm kind b s rest token calm

-- a token of the old line ends before the next byte of it
pub ends_old : (old : List ℕ) (from to end : ℕ) (kind : TokenKind) (rest : List ℕ) → NoLonger old from to → from < to → to < end → end ≤ length old →
    Ends kind (slice_range old from to) (slice_range old to end ++ rest)
ends_old old from to end kind rest longest some more within =
    let here : to < length old = omega arith in
    let left : end - to ≡ suc (end - to - 1) = omega arith in
    let one : suc to - to ≡ 1 = omega arith in
    let behind : slice_range old to (suc to) ≡ get_or old to 0 ∷ [] = rw (one, drop-cons old to 0 here) refl in
    let longer : is_token kind (slice_range old from (suc to)) ≡ false = longest kind (suc to) (omega arith) (omega arith) in
    let whole : slice_range old from (suc to) ≡ slice_range old from to ++ get_or old to 0 ∷ [] =
    slice_split old from to (suc to) (omega arith) (omega arith) ∙ ap (λ l. slice_range old from to ++ l) behind in
    rw (left, drop-cons old to 0 here) (rw whole at longer)

-- the last token of a kept text
moved_last : (line rest old : List ℕ) (from at to : ℕ) (Rest : ℕ → Type 0) (t : Token) → Follow old Rest from (t ∷ []) → AreReadable old (t ∷ []) →
    Stands line at (bytes_at old t) rest → Calm rest → to ≡ at + length (bytes_at old t) → Moved line at to old (t ∷ [])
moved_last line rest old from at to Rest t run readable h calm there =
    let s : List ℕ = bytes_at old t in
    let same : bytes_at line (token_at t.kind at s) ≡ s = slice_stands line at s rest h in
    record {
      first = token_at t.kind at s;
      more = [];
      begins = refl;
      ends = sym there;
      follow = (
        token_stands line at t.kind s rest h run.0.bytes (ends_by t.kind s rest run.0.bytes calm),
        subst (λ n. Gap line (at + length s) n) (sym there) (gap_none line (at + length s) (omega (arith, stands_length line at s rest h))),
      );
      same = ap (λ b. b ∷ []) same;
      readable = (subst (λ b. IsReadableToken t.kind b) (sym same) readable.0, tt);
    }

cons_same : (a b : List ℕ) (xs ys : List (List ℕ)) → a ≡ b → xs ≡ ys → a ∷ xs ≡ b ∷ ys
cons_same a b xs ys e f = cc

length_of_three : (text s middle gap behind : List ℕ) → text ≡ s ++ middle → middle ≡ gap ++ behind → length text ≡ length s + (length gap + length behind)
length_of_three text s middle gap behind split cut =
    let one : length text ≡ length (s ++ middle) = ap length split in
    let two : length middle ≡ length (gap ++ behind) = ap length cut in
    omega (arith, length-append s middle, length-append gap behind)

-- tokens whose text stands at a place of a line, with what lengthens no token behind it
pub moved : (line rest old : List ℕ) (from at to : ℕ) (Rest : ℕ → Type 0) (t : Token) (ts : List Token) → Follow old Rest from (t ∷ ts) → AreReadable old (t ∷ ts) →
    Stands line at (slice_range old t.from (end_of t ts)) rest → Calm rest → to ≡ at + length (slice_range old t.from (end_of t ts)) → Moved line at to old (t ∷ ts)
moved line rest old from at to Rest t [] run readable h calm there = moved_last line rest old from at to Rest t run readable h calm there
moved line rest old from at to Rest t (u ∷ us) run readable h calm there =
    let end : ℕ = end_of u us in
    let s : List ℕ = slice_range old t.from t.to in
    let middle : List ℕ = slice_range old t.to end in
    let gap : List ℕ = slice_range old t.to u.from in
    let behind : List ℕ = slice_range old u.from end in
    let grows : t.from < t.to = token_grows old from t run.0 in
    let next_grows : u.from < u.to = token_grows old t.to u run.1.0 in
    let after : t.to ≤ u.from = run.1.0.next.after in
    let bound = end_behind old Rest t.to u us run.1 in
    let low : u.to ≤ end = bound.0 in
    let high : end ≤ length old = bound.1 in
    let split : slice_range old t.from end ≡ s ++ middle = slice_split old t.from t.to end (omega arith) (omega arith) in
    let cut : middle ≡ gap ++ behind = slice_split old t.to u.from end after (omega arith) in
    let whole : Stands line at (s ++ middle) rest = subst (λ x. Stands line at x rest) split h in
    let front : Stands line at s (middle ++ rest) = stands_first line at s middle rest whole in
    let back : Stands line (at + length s) (gap ++ behind) rest = subst (λ x. Stands line (at + length s) x rest) cut (stands_second line at s middle rest whole) in
    let space : Gap line (at + length s) (at + length s + length gap) =
    gap_stands line old (at + length s) t.to u.from (behind ++ rest) (stands_first line (at + length s) gap behind rest back) after (omega arith) run.1.0.next.gap in
    let last : Stands line (at + length s + length gap) behind rest = stands_second line (at + length s) gap behind rest back in
    let total : length (slice_range old t.from end) ≡ length s + (length gap + length behind) =
    length_of_three (slice_range old t.from end) s middle gap behind split cut in
    let later = moved line rest old t.to (at + length s + length gap) to Rest u us run.1 readable.1 last calm (omega arith) in
    let same : bytes_at line (token_at t.kind at s) ≡ bytes_at old t = slice_stands line at s (middle ++ rest) front in
    record {
      first = token_at t.kind at s;
      more = later.first ∷ later.more;
      begins = refl;
      ends = later.ends;
      follow = (
        token_stands line at t.kind s (middle ++ rest) front run.0.bytes (ends_old old t.from t.to end t.kind rest run.0.longest grows (omega arith) high),
        run_widen line (at + length s) (at + length s + length gap) to (later.first ∷ later.more) space later.follow,
      );
      same = cons_same (bytes_at line (token_at t.kind at s)) (bytes_at old t) (texts line (later.first ∷ later.more)) (texts old (u ∷ us)) same later.same;
      readable = (subst (λ b. IsReadableToken t.kind b) (sym same) readable.0, later.readable);
    }

-- tokens that stand again between two places, with the same texts and the same text in all
pub record Again (line : List ℕ) (from to : ℕ) (old : List ℕ) (was : List Token) : Type 0 where
  pub run : List Token
  pub follow : Run line from to run
  pub same : texts line run ≡ texts old was
  pub kept : kept_text line run ≡ kept_text old was
  pub readable : AreReadable line run

-- tokens that follow one another somewhere in a line, with readable names and numbers
pub record Old (old : List ℕ) (tokens : List Token) : Type 0 where
  pub from : ℕ
  pub follow : Follow old (λ place. Unit {0}) from tokens
  pub readable : AreReadable old tokens

follow_first : (old : List ℕ) (from : ℕ) (us vs : List Token) → Follow old (λ place. Unit {0}) from (us ++ vs) → Follow old (λ place. Unit {0}) from us
follow_first old from [] vs run = tt
follow_first old from (u ∷ us) vs run = (run.0, follow_first old u.to us vs run.1)

follow_second : (old : List ℕ) (from : ℕ) (us vs : List Token) → Follow old (λ place. Unit {0}) from (us ++ vs) → (place : ℕ) × Follow old (λ place. Unit {0}) place vs
follow_second old from [] vs run = (from, run)
follow_second old from (u ∷ us) vs run = follow_second old u.to us vs run.1

readable_first : (old : List ℕ) (us vs : List Token) → AreReadable old (us ++ vs) → AreReadable old us
readable_first old [] vs all = tt
readable_first old (u ∷ us) vs all = (all.0, readable_first old us vs all.1)

readable_second : (old : List ℕ) (us vs : List Token) → AreReadable old (us ++ vs) → AreReadable old vs
readable_second old [] vs all = all
readable_second old (u ∷ us) vs all = readable_second old us vs all.1

pub old_first : (old : List ℕ) (us vs : List Token) → Old old (us ++ vs) → Old old us
old_first old us vs o = record { from = o.from; follow = follow_first old o.from us vs o.follow; readable = readable_first old us vs o.readable }

pub old_second : (old : List ℕ) (us vs : List Token) → Old old (us ++ vs) → Old old vs
old_second old us vs o =
    let rest = follow_second old o.from us vs o.follow in
    record { from = rest.0; follow = rest.1; readable = readable_second old us vs o.readable }

pub readable_join : (line : List ℕ) (us vs : List Token) → AreReadable line us → AreReadable line vs → AreReadable line (us ++ vs)
readable_join line [] vs one two = two
readable_join line (u ∷ us) vs one two = (one.0, readable_join line us vs one.1 two)

-- kept text stands at a place: its tokens do
pub again : (line rest old : List ℕ) (at to : ℕ) (was : List Token) → Old old was → Stands line at (kept_text old was) rest → Calm rest → to ≡ at + length (kept_text old was) → Again line at to old was
again line rest old at to [] o h calm there =
    let same : at ≡ to = omega arith in
    record { run = []; follow = subst (λ n. Gap line at n) same (gap_none line at h.within); same = refl; kept = refl; readable = tt }
again line rest old at to (t ∷ ts) o h calm there =
    let new = moved line rest old o.from at to (λ place. Unit {0}) t ts o.follow o.readable h calm there in
    let text : List ℕ = slice_range old t.from (end_of t ts) in
    let ends : end_of new.first new.more ≡ at + length text = new.ends ∙ there in
    record {
      run = new.first ∷ new.more;
      follow = new.follow;
      same = new.same;
      kept = ap (λ n. slice_range line n (end_of new.first new.more)) new.begins ∙ (ap (λ n. slice_range line at n) ends ∙ slice_stands line at text rest h);
      readable = new.readable;
    }

-- a text behind a blank, or nothing
pub record Behind (line : List ℕ) (at : ℕ) (s rest : List ℕ) : Type 0 where
  pub place : ℕ
  pub gap : Gap line at place
  pub there : Stands line place s rest
  pub end : at + length (behind_blank s) ≡ place + length s

-- a blank is a gap
pub blank_gap : (line : List ℕ) (at : ℕ) (rest : List ℕ) → Stands line at (32 ∷ []) rest → Gap line at (at + 1)
blank_gap line at rest h = record {
  after = omega arith;
  within = omega (arith, stands_length line at (32 ∷ []) rest h);
  gap = λ k low high.
      let same : at + 0 ≡ k = omega arith in
      let byte : slice_index line k ≡ 32 = ap (λ n. slice_index line n) (sym same) ∙ byte_stands line at (32 ∷ []) rest 0 h (omega arith) in
      rw byte refl;
}

pub behind_stands : (line : List ℕ) (at : ℕ) (s rest : List ℕ) → Stands line at (behind_blank s) rest → Behind line at s rest
behind_stands line at [] rest h = record { place = at; gap = gap_none line at h.within; there = h; end = refl }
behind_stands line at (b ∷ bs) rest h = record {
  place = at + 1;
  gap = blank_gap line at ((b ∷ bs) ++ rest) (stands_first line at (32 ∷ []) (b ∷ bs) rest h);
  there = stands_second line at (32 ∷ []) (b ∷ bs) rest h;
  end = omega arith;
}

pub behind_calm : (s rest : List ℕ) → Calm rest → Calm (behind_blank s ++ rest)
behind_calm [] rest calm = calm
behind_calm (b ∷ bs) rest calm = refl

-- kept text behind a blank
pub again_apart : (line rest old : List ℕ) (at to : ℕ) (was : List Token) → Old old was → Stands line at (behind_blank (kept_text old was)) rest → Calm rest →
    to ≡ at + length (behind_blank (kept_text old was)) → Again line at to old was
again_apart line rest old at to was o h calm there =
    let place = behind_stands line at (kept_text old was) rest h in
    let new = again line rest old place.place to was o place.there calm (there ∙ place.end) in
    record { run = new.run; follow = run_widen line at place.place to new.run place.gap new.follow; same = new.same; kept = new.kept; readable = new.readable }
