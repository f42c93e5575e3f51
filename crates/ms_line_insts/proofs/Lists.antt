-- Members of a list, read one behind another.
use Rattle.std.proofs.Common.{◌≡◌, ◌≢◌, ◌<◌, length, arith, ℕ, List, [], ◌∷◌, ◌++◌, map, refl, sym, ap, subst, ◌∙◌, append_assoc, append-nil}
use Rattle.std.specs.Prelude.{All}
use Rattle.ms_lex.specs.Line.{IsTokenOf}
use Rattle.ms_lex.specs.declared.token.Token.{Token}
use Rattle.ms_grammar.specs.Kept.{Each}
use Rattle.ms_grammar.specs.Parts.{Part, blank, token, bytes_at}
use Rattle.ms_grammar.specs.Form.{word_part, further, listed}
use Rattle.ms_grammar.specs.declared.keyword.Keyword.TheVariants as word
use Rattle.ms_line_insts.specs.Front.{Spelt, Behind, NoFrontIf, FrontIf}
use Rattle.ms_line_insts.specs.ListFronts.{NoList, ListFront, behind_comma}

-- a list goes on behind its members so far
pub record GoesOn {X : Type 0} (Ends : List Part → Type 0) (Fits : X → Type 0) (parts : X → List Part) (line : List ℕ) (ys xs : List X) (at : List Token) (ps : List Part) : Type 0 where
  pub more : List X
  pub whole : ys ≡ xs ++ more
  pub each : Each Fits more
  pub left : Spelt line at (further (map parts more) ++ ps)

-- the members so far, of a list that may go on
pub record SoFar {X : Type 0} (Ends : List Part → Type 0) (Fits : X → Type 0) (parts : X → List Part) (line : List ℕ) (tokens : List Token) (xs : List X) (at : List Token) : Type 0 where
  pub some : xs ≢ []
  pub fits : Each Fits xs
  pub owned : All (IsTokenOf line) at
  pub shorter : length at < length tokens
  pub on : (ps : List Part) → Spelt line at ps → Spelt line tokens (listed (map parts xs) ++ ps)
  pub back : (ys : List X) (ps : List Part) → ys ≢ [] → Ends ps → Each Fits ys → Spelt line tokens (listed (map parts ys) ++ ps) → GoesOn Ends Fits parts line ys xs at ps

pub of_parts : (line : List ℕ) (tokens : List Token) (ps qs : List Part) → ps ≡ qs → Spelt line tokens ps → Spelt line tokens qs
of_parts line tokens ps qs e h = subst (λ l. Spelt line tokens l) e h

pub so_far_first : {X : Type 0} (Next Ends : List Part → Type 0) (Fits : X → Type 0) (parts : X → List Part) (line : List ℕ) (tokens : List Token) (x : X) (at : List Token) →
    ((ys : List X) (ps : List Part) → Ends ps → Next (further (map parts ys) ++ ps)) → FrontIf Next Fits parts line tokens x at → SoFar Ends Fits parts line tokens (x ∷ []) at
so_far_first {X} Next Ends Fits parts line tokens x at next a = record {
  some = λ e. cc;
  fits = (a.fits, tt);
  owned = a.owned;
  shorter = a.shorter;
  on = λ ps h. of_parts line tokens (parts x ++ ps) ((parts x ++ []) ++ ps) (ap (λ l. l ++ ps) (sym (append-nil (parts x)))) (a.on ps h);
  back = back;
}
  where
    back : (ys : List X) (ps : List Part) → ys ≢ [] → Ends ps → Each Fits ys → Spelt line tokens (listed (map parts ys) ++ ps) → GoesOn Ends Fits parts line ys (x ∷ []) at ps
    back [] ps some ends fits h = absurd (some refl)
    back (y ∷ ys) ps some ends fits h =
        let b = a.back y (further (map parts ys) ++ ps) (next ys ps ends) fits.0 (of_parts line tokens ((parts y ++ further (map parts ys)) ++ ps) (parts y ++ (further (map parts ys) ++ ps)) (append_assoc (parts y) (further (map parts ys)) ps) h) in
        record { more = ys; whole = ap (λ z. z ∷ ys) b.same; each = fits.1; left = b.further }

further_last : {X : Type 0} (parts : X → List Part) (xs : List X) (x : X) (ps : List Part) → further (map parts xs) ++ (behind_comma parts x ++ ps) ≡ further (map parts (xs ++ x ∷ [])) ++ ps
further_last parts [] x ps = ap (λ l. word_part word.Comma ∷ blank ∷ l ++ ps) (sym (append-nil (parts x)))
further_last parts (y ∷ xs) x ps =
    ap (λ l. word_part word.Comma ∷ blank ∷ l)
    (append_assoc (parts y) (further (map parts xs)) (behind_comma parts x ++ ps) ∙ ap (λ l. parts y ++ l) (further_last parts xs x ps)
    ∙ sym (append_assoc (parts y) (further (map parts (xs ++ x ∷ []))) ps))

listed_last : {X : Type 0} (parts : X → List Part) (xs : List X) (x : X) (ps : List Part) → xs ≢ [] → listed (map parts xs) ++ (behind_comma parts x ++ ps) ≡ listed (map parts (xs ++ x ∷ [])) ++ ps
listed_last parts [] x ps some = absurd (some refl)
listed_last parts (y ∷ xs) x ps some =
    append_assoc (parts y) (further (map parts xs)) (behind_comma parts x ++ ps) ∙ ap (λ l. parts y ++ l) (further_last parts xs x ps)
    ∙ sym (append_assoc (parts y) (further (map parts (xs ++ x ∷ []))) ps)

each_last : {X : Type 0} (P : X → Type 0) (xs : List X) (x : X) → Each P xs → P x → Each P (xs ++ x ∷ [])
each_last P [] x each h = (h, tt)
each_last P (y ∷ xs) x each h = (each.0, each_last P xs x each.1 h)

some_last : {X : Type 0} (xs : List X) (x : X) → xs ++ x ∷ [] ≢ []
some_last [] x e = cc
some_last (y ∷ xs) x e = cc

pub so_far_more : {X : Type 0} (Next Ends : List Part → Type 0) (Fits : X → Type 0) (parts : X → List Part) (line : List ℕ) (tokens : List Token) (xs : List X) (x : X) (at rest : List Token) →
    ((ys : List X) (ps : List Part) → Ends ps → Next (further (map parts ys) ++ ps)) → SoFar Ends Fits parts line tokens xs at → FrontIf Next Fits (behind_comma parts) line at x rest →
    ((ps : List Part) → Ends ps → Spelt line at ps → ⊥) → SoFar Ends Fits parts line tokens (xs ++ x ∷ []) rest
so_far_more {X} Next Ends Fits parts line tokens xs x at rest next s a no_end = record {
  some = some_last xs x;
  fits = each_last Fits xs x s.fits a.fits;
  owned = a.owned;
  shorter = let one = s.shorter in let two = a.shorter in omega arith;
  on = λ ps h. of_parts line tokens (listed (map parts xs) ++ (behind_comma parts x ++ ps)) (listed (map parts (xs ++ x ∷ [])) ++ ps) (listed_last parts xs x ps s.some) (s.on (behind_comma parts x ++ ps) (a.on ps h));
  back = λ ys ps some ends fits h. let g = s.back ys ps some ends fits h in by_more g.more ys ps ends g.whole g.each g.left;
}
  where
    by_more : (more ys : List X) (ps : List Part) → Ends ps → ys ≡ xs ++ more → Each Fits more → Spelt line at (further (map parts more) ++ ps) → GoesOn Ends Fits parts line ys (xs ++ x ∷ []) rest ps
    by_more [] ys ps ends whole each h = absurd (no_end ps ends h)
    by_more (y ∷ more) ys ps ends whole each h =
        let b = a.back y (further (map parts more) ++ ps) (next more ps ends) each.0
        (of_parts line at (word_part word.Comma ∷ blank ∷ (parts y ++ further (map parts more)) ++ ps) (word_part word.Comma ∷ blank ∷ parts y ++ (further (map parts more) ++ ps))
        (ap (λ l. word_part word.Comma ∷ blank ∷ l) (append_assoc (parts y) (further (map parts more)) ps)) h) in
        record { more = more; whole = whole ∙ ap (λ z. xs ++ z ∷ more) b.same ∙ sym (append_assoc xs (x ∷ []) more); each = each.1; left = b.further }

pub so_far_end : {X : Type 0} (Next Ends : List Part → Type 0) (Fits : X → Type 0) (parts : X → List Part) (line : List ℕ) (tokens : List Token) (xs : List X) (at : List Token) →
    ((ys : List X) (ps : List Part) → Ends ps → Next (further (map parts ys) ++ ps)) → SoFar Ends Fits parts line tokens xs at → NoFrontIf Next Fits (behind_comma parts) line at →
    ListFront Ends Fits parts line tokens xs at
so_far_end {X} Next Ends Fits parts line tokens xs at next s none = record {
  some = s.some;
  fits = s.fits;
  owned = s.owned;
  shorter = s.shorter;
  on = s.on;
  back = λ ys ps some ends fits h. let g = s.back ys ps some ends fits h in by_more g.more ys ps ends g.whole g.each g.left;
}
  where
    by_more : (more ys : List X) (ps : List Part) → Ends ps → ys ≡ xs ++ more → Each Fits more → Spelt line at (further (map parts more) ++ ps) → Behind ys xs line at ps
    by_more [] ys ps ends whole each h = record { same = whole ∙ append-nil xs; further = h }
    by_more (y ∷ more) ys ps ends whole each h =
        absurd (none y (further (map parts more) ++ ps) (next more ps ends) each.0
        (of_parts line at (word_part word.Comma ∷ blank ∷ (parts y ++ further (map parts more)) ++ ps) (word_part word.Comma ∷ blank ∷ parts y ++ (further (map parts more) ++ ps))
        (ap (λ l. word_part word.Comma ∷ blank ∷ l) (append_assoc (parts y) (further (map parts more)) ps)) h))

pub no_first : {X : Type 0} (Next Ends : List Part → Type 0) (Fits : X → Type 0) (parts : X → List Part) (line : List ℕ) (tokens : List Token) →
    ((ys : List X) (ps : List Part) → Ends ps → Next (further (map parts ys) ++ ps)) → NoFrontIf Next Fits parts line tokens → NoList Ends Fits parts line tokens
no_first Next Ends Fits parts line tokens next none [] ps some ends fits h = absurd (some refl)
no_first Next Ends Fits parts line tokens next none (y ∷ ys) ps some ends fits h =
    none y (further (map parts ys) ++ ps) (next ys ps ends) fits.0
    (of_parts line tokens ((parts y ++ further (map parts ys)) ++ ps) (parts y ++ (further (map parts ys) ++ ps)) (append_assoc (parts y) (further (map parts ys)) ps) h)

-- any tokens spell themselves
pub themselves : List ℕ → List Token → List Part
themselves line [] = []
themselves line (t ∷ ts) = token (bytes_at line t) ∷ themselves line ts

pub spelt_themselves : (line : List ℕ) (tokens : List Token) → Spelt line tokens (themselves line tokens)
unfolding themselves
spelt_themselves line [] = record { spells = refl }
spelt_themselves line (t ∷ ts) = record { spells = (t ∷ [], ts, refl, refl, (spelt_themselves line ts).spells) }
