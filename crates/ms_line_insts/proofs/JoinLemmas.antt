-- Texts with a blank between two.
use Rattle.std.proofs.Common.{◌≡◌, ◌+◌, ◌<◌, length, get_or, ℕ, List, [], ◌∷◌, ◌++◌, refl, sym, ap, ◌∙◌, append_assoc, append-nil}
use Rattle.std.specs.Prelude.{take}
use Rattle.std.proofs.lemmas.List.{take_more}
use Rattle.ms_lex.specs.declared.token.Token.{Token}
use Rattle.ms_grammar.specs.Parts.{behind_blank, joined, texts, bytes_at}
use Rattle.ms_grammar.proofs.Both.{texts_append}

behind_last : (b : ℕ) (bs : List ℕ) (j y : List ℕ) → (b ∷ bs) ++ behind_blank (joined (j ∷ y ∷ [])) ≡ joined (((b ∷ bs) ++ behind_blank j) ∷ y ∷ [])
behind_last b bs [] y = ap (λ s. s ++ behind_blank (joined (y ∷ []))) (sym (append-nil (b ∷ bs)))
behind_last b bs (c ∷ cs) y = sym (append_assoc (b ∷ bs) (32 ∷ c ∷ cs) (behind_blank (joined (y ∷ []))))

-- one more text
pub joined_last : (xs : List (List ℕ)) (y : List ℕ) → joined (xs ++ y ∷ []) ≡ joined (joined xs ∷ y ∷ [])
joined_last [] y = refl
joined_last ([] ∷ xs) y = joined_last xs y
joined_last ((b ∷ bs) ∷ xs) y = ap (λ j. (b ∷ bs) ++ behind_blank j) (joined_last xs y) ∙ behind_last b bs (joined xs) y

regroup : (m : List (List ℕ)) (a r w : List ℕ) → ((m ++ a ∷ []) ++ r ∷ []) ++ w ∷ [] ≡ m ++ a ∷ r ∷ w ∷ []
regroup m a r w = append_assoc (m ++ a ∷ []) (r ∷ []) (w ∷ []) ∙ append_assoc m (a ∷ []) (r ∷ w ∷ [])

-- three more texts
pub three_more : (m : List (List ℕ)) (a r w t0 t1 t2 t3 : List ℕ) → t0 ≡ joined m → t1 ≡ joined (t0 ∷ a ∷ []) → t2 ≡ joined (t1 ∷ r ∷ []) → t3 ≡ joined (t2 ∷ w ∷ []) →
    t3 ≡ joined (m ++ a ∷ r ∷ w ∷ [])
three_more m a r w t0 t1 t2 t3 e0 e1 e2 e3 =
    let one : t1 ≡ joined (m ++ a ∷ []) = e1 ∙ ap (λ t. joined (t ∷ a ∷ [])) e0 ∙ sym (joined_last m a) in
    let two : t2 ≡ joined ((m ++ a ∷ []) ++ r ∷ []) = e2 ∙ ap (λ t. joined (t ∷ r ∷ [])) one ∙ sym (joined_last (m ++ a ∷ []) r) in
    let three : t3 ≡ joined (((m ++ a ∷ []) ++ r ∷ []) ++ w ∷ []) = e3 ∙ ap (λ t. joined (t ∷ w ∷ [])) two ∙ sym (joined_last ((m ++ a ∷ []) ++ r ∷ []) w) in
    three ∙ ap joined (regroup m a r w)

pub one_more : (m : List (List ℕ)) (a t0 t1 : List ℕ) → t0 ≡ joined m → t1 ≡ joined (t0 ∷ a ∷ []) → t1 ≡ joined (m ++ a ∷ [])
one_more m a t0 t1 e0 e1 = e1 ∙ ap (λ t. joined (t ∷ a ∷ [])) e0 ∙ sym (joined_last m a)

-- one more token
pub token_more : (line : List ℕ) (tokens : List Token) (i : ℕ) (d : Token) (s out more : List ℕ) → i < length tokens → s ≡ bytes_at line (get_or tokens i d) →
    out ≡ joined (texts line (take i tokens)) → more ≡ joined (out ∷ s ∷ []) → more ≡ joined (texts line (take (i + 1) tokens))
token_more line tokens i d s out more within is so_far e =
    let taken : take (i + 1) tokens ≡ take i tokens ++ get_or tokens i d ∷ [] = take_more tokens i d within in
    let shown : texts line (take (i + 1) tokens) ≡ texts line (take i tokens) ++ bytes_at line (get_or tokens i d) ∷ [] = ap (λ r. texts line r) taken ∙ texts_append line (take i tokens) (get_or tokens i d ∷ []) in
    one_more (texts line (take i tokens)) s out more so_far e ∙ ap (λ b. joined (texts line (take i tokens) ++ b ∷ [])) is ∙ ap joined (sym shown)
