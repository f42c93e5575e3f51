-- Parts of a line that are read again where they are printed, and how they join.
use Rattle.std.proofs.Common.{◌≡◌, ◌≤◌, ◌+◌, ℕ, Bool, true, false, List, [], ◌∷◌, ◌++◌, length, refl, sym, ap, subst, ◌∙◌, arith, append_assoc, length-append}
use Rattle.std.proofs.lemmas.List.{append-nil}
use Rattle.ms_lex.specs.Kinds.{is_token}
use Rattle.ms_lex.specs.declared.token.Token.{Token}
use Rattle.ms_lex.specs.declared.token.TokenKind.{TokenKind}
use Rattle.ms_lex.specs.declared.token.TokenKind.TheVariants.{Punct}
use Rattle.ms_grammar.specs.Parts.{Part, blank, token, flag, part_text, text_of, texts, Spells, SpellsPart}
use Rattle.ms_grammar.specs.Grammar.{IsReadableToken}
use Rattle.ms_grammar.proofs.Printing.{text_of_append}
use Rattle.ms_reread.proofs.Ends.{Ends, Calm, calm, ends_mark}
use Rattle.ms_reread.proofs.Places.{Stands, stands_length, stands_first, stands_second, slice_stands, Gap, gap_none, Run, run_widen, run_join, token_at, token_stands}
use Rattle.ms_reread.proofs.Moves.{AreReadable, Old, old_first, old_second, readable_join, ends_by, blank_gap}

-- tokens between two places of a line that spell parts
pub record Said (line : List ℕ) (from to : ℕ) (ps : List Part) : Type 0 where
  pub tokens : List Token
  pub follow : Run line from to tokens
  pub spelled : Spells line tokens ps
  pub readable : AreReadable line tokens

spells_along : (line : List ℕ) (ts us : List Token) (ps : List Part) → ts ≡ us → Spells line ts ps → Spells line us ps
spells_along line ts us ps e h = subst (λ x. Spells line x ps) e h

pub spells_join : (line : List ℕ) (ts us : List Token) (ps qs : List Part) → Spells line ts ps → Spells line us qs → Spells line (ts ++ us) (ps ++ qs)
spells_join line ts us [] qs one two = spells_along line us (ts ++ us) qs (ap (λ x. x ++ us) (sym one)) two
spells_join line ts us (p ∷ ps) qs one two =
    (one.0, one.1 ++ us, ap (λ x. x ++ us) one.2 ∙ append_assoc one.0 one.1 us, one.3, spells_join line one.1 us ps qs one.4 two)

-- tokens in two, as they spell parts behind parts
pub record Cut (line : List ℕ) (tokens : List Token) (ps qs : List Part) : Type 0 where
  pub run : List Token
  pub rest : List Token
  pub whole : tokens ≡ run ++ rest
  pub one : Spells line run ps
  pub two : Spells line rest qs

pub spells_cut : (line : List ℕ) (tokens : List Token) (ps qs : List Part) → Spells line tokens (ps ++ qs) → Cut line tokens ps qs
spells_cut line tokens [] qs h = record { run = []; rest = tokens; whole = refl; one = refl; two = h }
spells_cut line tokens (p ∷ ps) qs h =
    let cut = spells_cut line h.1 ps qs h.4 in
    record {
      run = h.0 ++ cut.run;
      rest = cut.rest;
      whole = h.2 ∙ (ap (λ x. h.0 ++ x) cut.whole ∙ sym (append_assoc h.0 cut.run cut.rest));
      one = (h.0, cut.run, refl, h.3, cut.one);
      two = cut.two;
    }

-- what has to follow parts: anything where they end in a mark or a blank, and otherwise what lengthens no token
abbrev pub Before : Bool → List ℕ → Type 0
Before true rest = Unit {0}
Before false rest = Calm rest

-- where a line said some parts, others are read again where they are printed
pub record Back (free : Bool) (was ps : List Part) : Type 0 where
  pub again : (old : List ℕ) (tokens : List Token) → Old old tokens → Spells old tokens was →
      (line rest : List ℕ) (at to : ℕ) → Stands line at (text_of ps) rest → Before free rest → to ≡ at + length (text_of ps) → Said line at to ps

-- and their printed form lengthens no token before it
pub record Next (free : Bool) (was ps : List Part) : Type 0 where
  pub lead : (old : List ℕ) (tokens : List Token) → Old old tokens → Spells old tokens was → (rest : List ℕ) → Before free rest → Calm (text_of ps ++ rest)
  pub back : Back free was ps

said_join : (line : List ℕ) (a b c : ℕ) (ps qs : List Part) → Said line a b ps → Said line b c qs → Said line a c (ps ++ qs)
said_join line a b c ps qs one two = record {
  tokens = one.tokens ++ two.tokens;
  follow = run_join line a b c one.tokens two.tokens one.follow two.follow;
  spelled = spells_join line one.tokens two.tokens ps qs one.spelled two.spelled;
  readable = readable_join line one.tokens two.tokens one.readable two.readable;
}

-- parts behind parts, where the first end before what the second are printed as
joined_back : (first free : Bool) (was ps was' qs : List Part) → Back first was ps → Back free was' qs →
    ((old : List ℕ) (tokens : List Token) → Old old tokens → Spells old tokens was' → (rest : List ℕ) → Before free rest → Before first (text_of qs ++ rest)) →
    Back free (was ++ was') (ps ++ qs)
joined_back first free was ps was' qs one two between = record {
  again = λ old tokens o spelled line rest at to stands before there.
      let cut = spells_cut old tokens was was' spelled in
      let both : Old old (cut.run ++ cut.rest) = subst (λ x. Old old x) cut.whole o in
      let whole : Stands line at (text_of ps ++ text_of qs) rest = subst (λ x. Stands line at x rest) (text_of_append ps qs) stands in
      let long : length (text_of (ps ++ qs)) ≡ length (text_of ps) + length (text_of qs) = ap length (text_of_append ps qs) ∙ length-append (text_of ps) (text_of qs) in
      said_join line at (at + length (text_of ps)) to ps qs
      (one.again old cut.run (old_first old cut.run cut.rest both) cut.one line (text_of qs ++ rest) at (at + length (text_of ps))
      (stands_first line at (text_of ps) (text_of qs) rest whole) (between old cut.rest (old_second old cut.run cut.rest both) cut.two rest before) refl)
      (two.again old cut.rest (old_second old cut.run cut.rest both) cut.two line rest (at + length (text_of ps)) to
      (stands_second line at (text_of ps) (text_of qs) rest whole) before (omega arith));
}

pub behind : {free : Bool} {was ps was' qs : List Part} → Back false was ps → Next free was' qs → Back free (was ++ was') (ps ++ qs)
behind {free = free} {was = was} {ps = ps} {was' = was'} {qs = qs} one two = joined_back false free was ps was' qs one two.back two.lead

pub behind_free : {free : Bool} {was ps was' qs : List Part} → Back true was ps → Back free was' qs → Back free (was ++ was') (ps ++ qs)
behind_free {free = free} {was = was} {ps = ps} {was' = was'} {qs = qs} one two = joined_back true free was ps was' qs one two (λ old tokens o spelled rest before. tt)

-- parts that begin well, and more behind them
pub next_behind : {free : Bool} {was ps was' qs : List Part} → Next false was ps → Next free was' qs → Next free (was ++ was') (ps ++ qs)
next_behind {free = free} {was = was} {ps = ps} {was' = was'} {qs = qs} one two = record {
  lead = λ old tokens o spelled rest before.
      let cut = spells_cut old tokens was was' spelled in
      let both : Old old (cut.run ++ cut.rest) = subst (λ x. Old old x) cut.whole o in
      let calm = two.lead old cut.rest (old_second old cut.run cut.rest both) cut.two rest before in
      let whole : text_of (ps ++ qs) ++ rest ≡ text_of ps ++ (text_of qs ++ rest) = ap (λ x. x ++ rest) (text_of_append ps qs) ∙ append_assoc (text_of ps) (text_of qs) rest in
      subst (λ x. Calm x) (sym whole) (one.lead old cut.run (old_first old cut.run cut.rest both) cut.one (text_of qs ++ rest) calm);
  back = behind one.back two;
}

-- no parts printed, whatever was said
pub nothing : {was : List Part} → Next false was []
nothing = record {
  lead = λ old tokens o spelled rest before. before;
  back = record {
    again = λ old tokens o spelled line rest at to stands before there.
        let same : at ≡ to = omega arith in
        record { tokens = []; follow = subst (λ n. Gap line at n) same (gap_none line at stands.within); spelled = refl; readable = tt };
  };
}

-- one part, from the tokens that spell it
pub said_part : (line : List ℕ) (from to : ℕ) (p : Part) (run : List Token) → Run line from to run → SpellsPart line run p → AreReadable line run → Said line from to (p ∷ [])
said_part line from to p run follow spelled readable = record {
  tokens = run;
  follow = follow;
  spelled = (run, [], sym (append-nil run), spelled, refl);
  readable = readable;
}

-- one part's text
pub part_stands : (line : List ℕ) (at : ℕ) (p : Part) (rest : List ℕ) → Stands line at (text_of (p ∷ [])) rest → Stands line at (part_text p) rest
part_stands line at p rest h = subst (λ x. Stands line at x rest) (append-nil (part_text p)) h

pub part_long : (p : Part) → length (text_of (p ∷ [])) ≡ length (part_text p)
part_long p = ap length (append-nil (part_text p))

-- a blank
blank_back : Back true (blank ∷ []) (blank ∷ [])
blank_back = record {
  again = λ old tokens o spelled line rest at to stands before there.
      let same : at + 1 ≡ to = omega arith in
      said_part line at to blank [] (subst (λ n. Gap line at n) same (blank_gap line at rest stands)) refl tt;
}

pub blank_next : {free : Bool} {was ps : List Part} → Back free was ps → Next free (blank ∷ was) (blank ∷ ps)
blank_next b = record { lead = λ old tokens o spelled rest before. refl; back = behind_free blank_back b }

-- a text that is one readable token
pub record IsWhole (s : List ℕ) : Type 0 where
  pub kind : TokenKind
  pub is : is_token kind s ≡ true
  pub readable : IsReadableToken kind s

-- the token of such a text, at its place
pub said_token : (line : List ℕ) (at to : ℕ) (s rest : List ℕ) (w : IsWhole s) → Stands line at s rest → Ends w.kind s rest → to ≡ at + length s →
    (run : List Token) × Run line at to run × (texts line run ≡ s ∷ []) × AreReadable line run
said_token line at to s rest w stands ends there =
    let same = slice_stands line at s rest stands in
    let within : at + length s ≤ length line = omega (arith, stands_length line at s rest stands) in (
      token_at w.kind at s ∷ [],
      (token_stands line at w.kind s rest stands w.is ends, subst (λ n. Gap line (at + length s) n) (sym there) (gap_none line (at + length s) within)),
      ap (λ b. b ∷ []) same,
      (subst (λ b. IsReadableToken w.kind b) (sym same) w.readable, tt),
    )

pub token_back : {was : List Part} {s : List ℕ} → IsWhole s → Back false was (token s ∷ [])
token_back {s = s} w = record {
  again = λ old tokens o spelled line rest at to stands before there.
      let here = part_stands line at (token s) rest stands in
      let run = said_token line at to s rest w here (ends_by w.kind s rest w.is before) (there ∙ ap (λ n. at + n) (part_long (token s))) in
      said_part line at to (token s) run.0 run.1 run.2 run.3;
}

pub token_then : {free : Bool} {was ps : List Part} {s : List ℕ} → IsWhole s → Next free was ps → Back free (token s ∷ was) (token s ∷ ps)
token_then {s = s} w next = behind (token_back {was = token s ∷ []} w) next

-- a mark
pub record IsMark (s : List ℕ) : Type 0 where
  pub byte : ℕ
  pub is : s ≡ byte ∷ []
  pub mark : is_token Punct (byte ∷ []) ≡ true

pub mark_back : {s : List ℕ} → IsMark s → Back true (token s ∷ []) (token s ∷ [])
mark_back {s = s} m =
    subst (λ t. Back true (token t ∷ []) (token t ∷ [])) (sym m.is)
    (record {
      again = λ old tokens o spelled line rest at to stands before there.
          let w : IsWhole (m.byte ∷ []) = record { kind = Punct; is = m.mark; readable = tt } in
          let run = said_token line at to (m.byte ∷ []) rest w stands (ends_mark m.byte rest) there in
          said_part line at to (token (m.byte ∷ [])) run.0 run.1 run.2 run.3;
    })

pub mark_free : {free : Bool} {was ps : List Part} {s : List ℕ} → IsMark s → Back free was ps → Back free (token s ∷ was) (token s ∷ ps)
mark_free m b = behind_free (mark_back m) b

-- a mark that lengthens no token
pub record IsCalmMark (s : List ℕ) : Type 0 where
  pub is_mark : IsMark s
  pub calm : calm is_mark.byte ≡ true

pub mark_next : {free : Bool} {was ps : List Part} {s : List ℕ} → IsCalmMark s → Back free was ps → Next free (token s ∷ was) (token s ∷ ps)
mark_next {ps = ps} {s = s} m b = record {
  lead = λ old tokens o spelled rest before. subst (λ t. Calm ((t ++ text_of ps) ++ rest)) (sym m.is_mark.is) m.calm;
  back = mark_free m.is_mark b;
}

-- a flag
flag_next_one : (s : List ℕ) (set : Bool) → IsWhole s → Next false (flag s set ∷ []) (flag s set ∷ [])
flag_next_one s true w = record {
  lead = λ old tokens o spelled rest before. refl;
  back = record {
    again = λ old tokens o spelled line rest at to stands before there.
        let here : Stands line at ((32 ∷ []) ++ s) rest = part_stands line at (flag s true) rest stands in
        let long : length (text_of (flag s true ∷ [])) ≡ length (32 ∷ s) = part_long (flag s true) in
        let run = said_token line (at + 1) to s rest w (stands_second line at (32 ∷ []) s rest here) (ends_by w.kind s rest w.is before) (omega arith) in
        said_part line at to (flag s true) run.0 (run_widen line at (at + 1) to run.0 (blank_gap line at (s ++ rest) (stands_first line at (32 ∷ []) s rest here)) run.1) run.2 run.3;
  };
}
flag_next_one s false w = record {
  lead = λ old tokens o spelled rest before. before;
  back = record {
    again = λ old tokens o spelled line rest at to stands before there.
        let same : at ≡ to = omega arith in
        said_part line at to (flag s false) [] (subst (λ n. Gap line at n) same (gap_none line at stands.within)) refl tt;
  };
}

pub flag_next : {free : Bool} {was ps : List Part} {s : List ℕ} (set : Bool) → IsWhole s → Next free was ps → Next free (flag s set ∷ was) (flag s set ∷ ps)
flag_next {s = s} set w next = next_behind (flag_next_one s set w) next
