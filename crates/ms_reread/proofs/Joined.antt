-- Texts that are joined by blanks stand at a place of a line: the tokens of each do.
use Rattle.std.proofs.Common.{map, ◌≡◌, ◌<◌, ◌+◌, ℕ, List, [], ◌∷◌, ◌++◌, length, refl, sym, ap, subst, ◌∙◌, arith, append_assoc, length-append}
use Rattle.ms_lex.specs.declared.token.Token.{Token}
use Rattle.ms_lex.proofs.Follows.{token_grows}
use Rattle.ms_grammar.specs.Kept.{Each}
use Rattle.ms_grammar.specs.Parts.{bytes_at, texts, end_of, kept_text, behind_blank, joined}
use Rattle.ms_grammar.proofs.Both.{texts_append}
use Rattle.ms_reread.proofs.Ends.{Calm}
use Rattle.ms_reread.proofs.Places.{Stands, stands_first, stands_second, Gap, gap_none, Run, run_widen, run_join, slice_length, end_behind}
use Rattle.ms_reread.proofs.Moves.{AreReadable, Old, old_first, old_second, readable_join, again, behind_stands, behind_calm}

-- several runs, one behind another
abbrev pub flat : List (List Token) → List Token
flat [] = []
flat (r ∷ rs) = r ++ flat rs

-- runs with the same texts, one by one
abbrev pub SameAll : List ℕ → List (List Token) → List ℕ → List (List Token) → Type 0
SameAll line [] old [] = Unit {0}
SameAll line (n ∷ ns) old (r ∷ rs) = (texts line n ≡ texts old r) × (kept_text line n ≡ kept_text old r) × SameAll line ns old rs
SameAll line _ old _ = ⊥

pub record AgainAll (line : List ℕ) (from to : ℕ) (old : List ℕ) (runs : List (List Token)) : Type 0 where
  pub news : List (List Token)
  pub follow : Run line from to (flat news)
  pub same : SameAll line news old runs
  pub readable : AreReadable line (flat news)

abbrev pub kept_texts : List ℕ → List (List Token) → List (List ℕ)
kept_texts old runs = map (kept_text old) runs

pub some_kept : (old : List ℕ) (t : Token) (ts : List Token) → Old old (t ∷ ts) → 0 < length (kept_text old (t ∷ ts))
some_kept old t ts o =
    let grows : t.from < t.to = token_grows old o.from t o.follow.0 in
    let bound = end_behind old (λ place. Unit {0}) o.from t ts o.follow in
    omega (arith, slice_length old t.from (end_of t ts) (omega (arith, bound.0)) bound.1, bound.0)

joined_by : (line rest old : List ℕ) (at to : ℕ) (t : Token) (ts : List Token) (rs : List (List Token)) (s : List ℕ) → kept_text old (t ∷ ts) ≡ s → Old old (t ∷ ts) →
    Stands line at (joined (s ∷ kept_texts old rs)) rest → Calm rest → to ≡ at + length (joined (s ∷ kept_texts old rs)) →
    ((place : ℕ) → Stands line place (joined (kept_texts old rs)) rest → to ≡ place + length (joined (kept_texts old rs)) → AgainAll line place to old rs) →
    AgainAll line at to old ((t ∷ ts) ∷ rs)
joined_by line rest old at to t ts rs [] e o h calm there behind =
    let none : length (kept_text old (t ∷ ts)) ≡ 0 = ap length e in absurd (omega (arith, some_kept old t ts o))
joined_by line rest old at to t ts rs (b ∷ bs) e o h calm there behind =
    let text : List ℕ = kept_text old (t ∷ ts) in
    let left : List ℕ = joined (kept_texts old rs) in
    let front : Stands line at text (behind_blank left ++ rest) =
    subst (λ s. Stands line at s (behind_blank left ++ rest)) (sym e) (stands_first line at (b ∷ bs) (behind_blank left) rest h) in
    let long : length text ≡ length (b ∷ bs) = ap length e in
    let one = again line (behind_blank left ++ rest) old at (at + length (b ∷ bs)) (t ∷ ts) o front (behind_calm left rest calm) (omega arith) in
    let place = behind_stands line (at + length (b ∷ bs)) left rest (stands_second line at (b ∷ bs) (behind_blank left) rest h) in
    let total : length ((b ∷ bs) ++ behind_blank left) ≡ length (b ∷ bs) + length (behind_blank left) = length-append (b ∷ bs) (behind_blank left) in
    let end : at + length (b ∷ bs) + length (behind_blank left) ≡ place.place + length left = place.end in
    let more = behind place.place place.there (omega arith) in
    record {
      news = one.run ∷ more.news;
      follow = run_join line at (at + length (b ∷ bs)) to one.run (flat more.news) one.follow
          (run_widen line (at + length (b ∷ bs)) place.place to (flat more.news) place.gap more.follow);
      same = (one.same, one.kept, more.same);
      readable = readable_join line one.run (flat more.news) one.readable more.readable;
    }

-- texts that are joined by blanks stand at a place: their tokens do
pub joined_again : (line rest old : List ℕ) (at to : ℕ) (runs : List (List Token)) → Each (λ r. Old old r) runs → Stands line at (joined (kept_texts old runs)) rest → Calm rest →
    to ≡ at + length (joined (kept_texts old runs)) → AgainAll line at to old runs
joined_again line rest old at to [] os h calm there =
    let same : at ≡ to = omega arith in
    record { news = []; follow = subst (λ n. Gap line at n) same (gap_none line at h.within); same = tt; readable = tt }
joined_again line rest old at to ([] ∷ rs) os h calm there =
    let more = joined_again line rest old at to rs os.1 h calm there in
    record { news = [] ∷ more.news; follow = more.follow; same = (refl, refl, more.same); readable = more.readable }
joined_again line rest old at to ((t ∷ ts) ∷ rs) os h calm there =
    joined_by line rest old at to t ts rs (kept_text old (t ∷ ts)) refl os.0 h calm there (λ place stands end. joined_again line rest old place to rs os.1 stands calm end)

-- each token by itself
abbrev pub singles : List Token → List (List Token)
singles [] = []
singles (t ∷ ts) = (t ∷ []) ∷ singles ts

pub kept_singles : (old : List ℕ) (ts : List Token) (rs : List (List Token)) → kept_texts old (singles ts ++ rs) ≡ texts old ts ++ kept_texts old rs
kept_singles old [] rs = refl
kept_singles old (t ∷ ts) rs = ap (λ x. bytes_at old t ∷ x) (kept_singles old ts rs)

pub old_singles : (old : List ℕ) (ts : List Token) (rs : List (List Token)) → Old old ts → Each (λ r. Old old r) rs → Each (λ r. Old old r) (singles ts ++ rs)
old_singles old [] rs o os = os
old_singles old (t ∷ ts) rs o os = (old_first old (t ∷ []) ts o, old_singles old ts rs (old_second old (t ∷ []) ts o) os)

pub record Cut (line : List ℕ) (news : List (List Token)) (old : List ℕ) (ts : List Token) (rs : List (List Token)) : Type 0 where
  pub front : List Token
  pub others : List (List Token)
  pub whole : flat news ≡ front ++ flat others
  pub same : texts line front ≡ texts old ts
  pub rest : SameAll line others old rs

pub cut_singles : (line : List ℕ) (news : List (List Token)) (old : List ℕ) (ts : List Token) (rs : List (List Token)) → SameAll line news old (singles ts ++ rs) → Cut line news old ts rs
cut_singles line news old [] rs same = record { front = []; others = news; whole = refl; same = refl; rest = same }
cut_singles line [] old (t ∷ ts) rs same = absurd same
cut_singles line (n ∷ ns) old (t ∷ ts) rs same =
    let cut = cut_singles line ns old ts rs same.2 in
    record {
      front = n ++ cut.front;
      others = cut.others;
      whole = ap (λ x. n ++ x) cut.whole ∙ sym (append_assoc n cut.front (flat cut.others));
      same = texts_append line n cut.front ∙ (ap (λ x. x ++ texts line cut.front) same.0 ∙ ap (λ x. bytes_at old t ∷ x) cut.same);
      rest = cut.rest;
    }

pub one_kept : (old : List ℕ) (run : List Token) (s : List ℕ) → texts old run ≡ s ∷ [] → kept_text old run ≡ s
one_kept old [] s e = absurd (cc)
one_kept old (t ∷ []) s e = cc
one_kept old (t ∷ (u ∷ us)) s e = absurd (cc)
