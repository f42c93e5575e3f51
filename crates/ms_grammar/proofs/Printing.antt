-- The text of parts that stand one behind another.
use Rattle.std.proofs.Common.{◌≡◌, ◌≤◌, ℕ, zero, suc, List, [], ◌∷◌, ◌++◌, length, drop, refl, sym, ap, ◌∙◌, append_assoc, append-nil, arith}
use Rattle.ms_grammar.specs.Parts.{Part, part_text, text_of, filled}

pub text_of_append : (ps qs : List Part) → text_of (ps ++ qs) ≡ text_of ps ++ text_of qs
text_of_append [] qs = refl
text_of_append (p ∷ ps) qs = ap (λ t. part_text p ++ t) (text_of_append ps qs) ∙ sym (append_assoc (part_text p) (text_of ps) (text_of qs))

-- text behind text
pub text_behind : (old mid new : List ℕ) (ps qs : List Part) → mid ≡ old ++ text_of ps → new ≡ mid ++ text_of qs → new ≡ old ++ text_of (ps ++ qs)
text_behind old mid new ps qs first second =
    second ∙ ap (λ t. t ++ text_of qs) first ∙ append_assoc old (text_of ps) (text_of qs) ∙ ap (λ t. old ++ t) (sym (text_of_append ps qs))

-- behind a whole text no place for others is left
nothing_filled : (ts : List (List ℕ)) → filled ts [] ≡ []
nothing_filled [] = refl
nothing_filled (t ∷ ts) = refl

drop_over : (k : ℕ) (text : List ℕ) → length text ≤ k → drop k text ≡ []
drop_over zero [] h = refl
drop_over zero (b ∷ bs) h = absurd (omega arith)
drop_over (suc k) [] h = refl
drop_over (suc k) (b ∷ bs) h = drop_over k bs (omega arith)

pub filled_whole : (out : List ℕ) (ts : List (List ℕ)) (text : List ℕ) (k : ℕ) → length text ≤ k → out ++ filled ts (drop k text) ≡ out
filled_whole out ts text k h = ap (λ x. out ++ filled ts x) (drop_over k text h) ∙ ap (λ x. out ++ x) (nothing_filled ts) ∙ append-nil out
