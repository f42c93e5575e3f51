-- What may stand behind the comma of a tail.
use Rattle.std.proofs.Common.{◌≡◌, ◌⊎◌, ℕ, true, List, [], ◌∷◌, ◌++◌, sym, ap, subst, ◌∙◌, inl, inr}
use Rattle.std.specs.List.{flat_map}
use Rattle.ms_lex.specs.Kinds.{is_token}
use Rattle.ms_lex.specs.declared.token.TokenKind.TheVariants.{Meta}
use Rattle.ms_grammar.specs.Words.{spelling}
use Rattle.ms_grammar.specs.Kept.{Each, AreMany, IsTailItem, in_braces}
use Rattle.ms_grammar.specs.Kept.IsTailItem.{aligned, metadata, inline}
use Rattle.ms_grammar.specs.declared.keyword.Keyword.TheVariants as word

-- the word align, or a metadata token
abbrev pub BeginsTail : List ℕ → Type 0
BeginsTail t = (t ≡ spelling word.Align) ⊎ (is_token Meta t ≡ true)

second_of : (a b x y : List ℕ) (s r : List (List ℕ)) → a ∷ b ∷ s ≡ x ∷ y ∷ r → b ≡ y
second_of a b x y s r e = cc

item_second : (item rest : List (List ℕ)) (x y : List ℕ) (r : List (List ℕ)) → IsTailItem item → item ++ rest ≡ x ∷ y ∷ r → BeginsTail y
item_second item rest x y r (aligned n h is) e =
    let at : (spelling word.Comma ∷ spelling word.Align ∷ n ∷ []) ++ rest ≡ x ∷ y ∷ r = ap (λ i. i ++ rest) (sym is) ∙ e in
    inl (sym (second_of (spelling word.Comma) (spelling word.Align) x y (n ∷ rest) r at))
item_second item rest x y r (metadata pair h is) e =
    let at : (spelling word.Comma ∷ h.first ∷ h.second ∷ []) ++ rest ≡ x ∷ y ∷ r = ap (λ p. (spelling word.Comma ∷ p) ++ rest) (sym h.both) ∙ ap (λ i. i ++ rest) (sym is) ∙ e in
    inr (subst (λ t. is_token Meta t ≡ true) (second_of (spelling word.Comma) h.first x y (h.second ∷ rest) r at) h.first_is)
item_second item rest x y r (inline pair inner h balanced is) e =
    let at : (spelling word.Comma ∷ h.first ∷ h.second ∷ in_braces inner) ++ rest ≡ x ∷ y ∷ r =
    ap (λ p. (spelling word.Comma ∷ p ++ in_braces inner) ++ rest) (sym h.both) ∙ ap (λ i. i ++ rest) (sym is) ∙ e in
    inr (subst (λ t. is_token Meta t ≡ true) (second_of (spelling word.Comma) h.first x y (h.second ∷ in_braces inner ++ rest) r at) h.first_is)

items_second : (items : List (List (List ℕ))) (x y : List ℕ) (r : List (List ℕ)) → Each IsTailItem items → flat_map (λ i. i) items ≡ x ∷ y ∷ r → BeginsTail y
items_second [] x y r each e = absurd (cc)
items_second (item ∷ items) x y r each e = item_second item (flat_map (λ i. i) items) x y r each.0 e

-- the second token of a tail
pub tail_second : (ts : List (List ℕ)) (x y : List ℕ) (r : List (List ℕ)) → AreMany IsTailItem ts → ts ≡ x ∷ y ∷ r → BeginsTail y
tail_second ts x y r many e = items_second many.items x y r many.each (sym many.whole ∙ e)

alone : (a b t : List ℕ) (s : List (List ℕ)) → a ∷ b ∷ s ≡ t ∷ [] → ⊥
alone a b t s e = cc

item_alone : (item rest : List (List ℕ)) (t : List ℕ) → IsTailItem item → item ++ rest ≡ t ∷ [] → ⊥
item_alone item rest t (aligned n h is) e = alone (spelling word.Comma) (spelling word.Align) t (n ∷ rest) (ap (λ i. i ++ rest) (sym is) ∙ e)
item_alone item rest t (metadata pair h is) e =
    alone (spelling word.Comma) h.first t (h.second ∷ rest) (ap (λ p. (spelling word.Comma ∷ p) ++ rest) (sym h.both) ∙ ap (λ i. i ++ rest) (sym is) ∙ e)
item_alone item rest t (inline pair inner h balanced is) e =
    alone (spelling word.Comma) h.first t (h.second ∷ in_braces inner ++ rest)
    (ap (λ p. (spelling word.Comma ∷ p ++ in_braces inner) ++ rest) (sym h.both) ∙ ap (λ i. i ++ rest) (sym is) ∙ e)

items_alone : (items : List (List (List ℕ))) (t : List ℕ) → Each IsTailItem items → flat_map (λ i. i) items ≡ t ∷ [] → ⊥
items_alone [] t each e = cc
items_alone (item ∷ items) t each e = item_alone item (flat_map (λ i. i) items) t each.0 e

-- a tail has more than one token
pub tail_alone : (ts : List (List ℕ)) (t : List ℕ) → AreMany IsTailItem ts → ts ≡ t ∷ [] → ⊥
tail_alone ts t many e = items_alone many.items t many.each (sym many.whole ∙ e)

first_one : (a b : List ℕ) (s r : List (List ℕ)) → a ∷ s ≡ b ∷ r → a ≡ b
first_one a b s r e = cc

item_first : (item rest : List (List ℕ)) (x : List ℕ) (r : List (List ℕ)) → IsTailItem item → item ++ rest ≡ x ∷ r → x ≡ spelling word.Comma
item_first item rest x r (aligned n h is) e = sym (first_one (spelling word.Comma) x (spelling word.Align ∷ n ∷ rest) r (ap (λ i. i ++ rest) (sym is) ∙ e))
item_first item rest x r (metadata pair h is) e = sym (first_one (spelling word.Comma) x (pair ++ rest) r (ap (λ i. i ++ rest) (sym is) ∙ e))
item_first item rest x r (inline pair inner h balanced is) e = sym (first_one (spelling word.Comma) x ((pair ++ in_braces inner) ++ rest) r (ap (λ i. i ++ rest) (sym is) ∙ e))

items_first : (items : List (List (List ℕ))) (x : List ℕ) (r : List (List ℕ)) → Each IsTailItem items → flat_map (λ i. i) items ≡ x ∷ r → x ≡ spelling word.Comma
items_first [] x r each e = absurd (cc)
items_first (item ∷ items) x r each e = item_first item (flat_map (λ i. i) items) x r each.0 e

-- a tail begins with a comma
pub tail_first : (ts : List (List ℕ)) (x : List ℕ) (r : List (List ℕ)) → AreMany IsTailItem ts → ts ≡ x ∷ r → x ≡ spelling word.Comma
tail_first ts x r many e = items_first many.items x r many.each (sym many.whole ∙ e)
