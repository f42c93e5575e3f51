-- The longest items in front, one behind another.
use Rattle.std.proofs.Common.{◌≡◌, ◌⊎◌, ℕ, ◌+◌, ◌-◌, ◌<◌, ◌≤◌, zero, suc, Bool, false, List, [], ◌∷◌, ◌++◌, length, take, drop, refl, sym, ap, subst, ◌∙◌, inl, inr, arith}
use Rattle.std.specs.List.{flat_map}
use Rattle.std.proofs.lemmas.List.{drop-map, drop-drop, append_assoc, length-append, drop_at, take_rest, length-map, length-drop}
use Rattle.ms_lex.specs.declared.token.Token.{Token}
use Rattle.ms_grammar.specs.Kept.{Each, AreMany, IsAttribute}
use Rattle.ms_grammar.specs.Parts.{texts, bytes_at}
use Rattle.ms_grammar.specs.Scan.{Passes}
use Rattle.ms_line_parts.specs.Reach.{item_length, AreLongest, stop, more, IsItem}
use Rattle.ms_line_parts.proofs.Single.{Passing, StartsNumber, Stopping, item_near, item_is, item_leads, one_token}

pub longer : (meta : Bool) (ts : List (List ℕ)) (n m : ℕ) → n ≡ item_length meta ts → (n ≡ 0 → ⊥) → AreLongest meta (drop n ts) m → AreLongest meta ts (n + m)
longer meta ts zero m e some rest = absurd (some refl)
longer meta ts (suc k) m e some rest = more ts (suc k + m) k m (sym e) refl rest

-- what is left of tokens, in their texts
pub left_behind : (line : List ℕ) (tokens : List Token) (at n : ℕ) → drop n (texts line (drop at tokens)) ≡ texts line (drop (at + n) tokens)
left_behind line tokens at n = drop-map (bytes_at line) n (drop at tokens) ∙ ap (texts line) (drop-drop n at tokens)

nothing : (xs : List (List ℕ)) (b : ℕ) → xs ≡ [] → take b xs ≡ []
nothing [] zero e = refl
nothing [] (suc b) e = refl
nothing (x ∷ xs) b e = absurd (cc)

pub take_two : (a b : ℕ) (xs : List (List ℕ)) → take (a + b) xs ≡ take a xs ++ take b (drop a xs)
take_two zero b xs = let none : zero + b ≡ b = omega arith in ap (λ k. take k xs) none
take_two (suc a) b [] = ap (λ k. take k []) (by_more a b) ∙ sym (nothing [] b refl)
  where
    by_more : (a b : ℕ) → suc a + b ≡ suc (a + b)
    by_more a b = omega arith
take_two (suc a) b (x ∷ xs) = let one : suc a + b ≡ suc (a + b) = omega arith in ap (λ k. take k (x ∷ xs)) one ∙ ap (λ l. x ∷ l) (take_two a b xs)

pub none_many : (P : List (List ℕ) → Type 0) → AreMany P []
none_many P = record { items = []; each = tt; whole = refl }

pub one_more : (P : List (List ℕ) → Type 0) (item rest : List (List ℕ)) → P item → AreMany P rest → AreMany P (item ++ rest)
one_more P item rest h many = record { items = item ∷ many.items; each = (h, many.each); whole = ap (λ us. item ++ us) many.whole }

-- the longest items are items
pub longest_are : (meta : Bool) (ts : List (List ℕ)) (n : ℕ) → AreLongest meta ts n → AreMany (IsItem meta) (take n ts)
longest_are meta _ _ (stop ts n none zero_is) = subst (λ k. AreMany (IsItem meta) (take k ts)) (sym zero_is) (none_many (IsItem meta))
longest_are meta _ _ (more ts n k m is sum rest) =
    subst (λ k. AreMany (IsItem meta) (take k ts)) (sym sum) (subst (λ us. AreMany (IsItem meta) us) (sym (take_two (suc k) m ts))
    (one_more (IsItem meta) (take (suc k) ts) (take m (drop (suc k) ts)) (item_is meta ts k is) (longest_are meta (drop (suc k) ts) m rest)))

-- what stands behind some items joins none of them
pub behind_items : (meta : Bool) (items : List (List (List ℕ))) (rest : List (List ℕ)) → Each (IsItem meta) items → Passing rest → Passing (flat_map (λ item. item) items ++ rest)
behind_items meta [] rest each pass = pass
behind_items meta (item ∷ items) rest each pass =
    subst (λ us. Passing us) (sym (append_assoc item (flat_map (λ i. i) items) rest)) (item_leads meta item (flat_map (λ i. i) items ++ rest) each.0).passing

pub no_number_behind : (meta : Bool) (items : List (List (List ℕ))) (rest : List (List ℕ)) → Each (IsItem meta) items → (StartsNumber rest → ⊥) → StartsNumber (flat_map (λ item. item) items ++ rest) → ⊥
no_number_behind meta [] rest each none = none
no_number_behind meta (item ∷ items) rest each none =
    λ n. (item_leads meta item (flat_map (λ i. i) items ++ rest) each.0).no_number (subst (λ us. StartsNumber us) (append_assoc item (flat_map (λ i. i) items) rest) n)

longest_none : (meta : Bool) (ts : List (List ℕ)) (n : ℕ) → item_length meta ts ≡ 0 → AreLongest meta ts n → n ≡ 0
longest_none meta _ _ none (stop ts n e zero_is) = zero_is
longest_none meta _ _ none (more ts n k m is sum rest) = absurd (omega arith)

-- an item in front is the first of the longest ones
pub record First (meta : Bool) (item rest : List (List ℕ)) (n : ℕ) : Type 0 where
  pub m : ℕ
  pub sum : n ≡ length item + m
  pub behind : AreLongest meta rest m

first_item : (meta : Bool) (item rest ts : List (List ℕ)) (n : ℕ) → 0 < length item → ts ≡ item ++ rest → item_length meta ts ≡ length item → AreLongest meta ts n → First meta item rest n
first_item meta item rest _ _ some e long (stop ts n none zero_is) = absurd (omega arith)
first_item meta item rest _ _ some e long (more ts n k m is sum behind) =
    let count : length item ≡ suc k = sym long ∙ is in
    let left : drop (suc k) ts ≡ rest = ap (drop (suc k)) e ∙ drop_at item rest (suc k) count in
    record { m = m; sum = omega (arith, count, sum); behind = subst (λ us. AreLongest meta us m) left behind }

-- the longest items in front of what cannot go on
pub longest_run : (meta : Bool) (items : List (List (List ℕ))) (rest ts : List (List ℕ)) (n : ℕ) → Each (IsItem meta) items → Stopping meta rest →
    ts ≡ flat_map (λ item. item) items ++ rest → AreLongest meta ts n → n ≡ length (flat_map (λ item. item) items)
longest_run meta [] rest ts n each stops e are = longest_none meta ts n (ap (item_length meta) e ∙ stops.none) are
longest_run meta (item ∷ items) rest ts n each stops e are =
    let behind = flat_map (λ i. i) items ++ rest in
    let cut : ts ≡ item ++ behind = e ∙ append_assoc item (flat_map (λ i. i) items) rest in
    let near = item_near meta item behind each.0 (behind_items meta items rest each.1 stops.passing) in
    let long : item_length meta (item ++ behind) ≡ length item =
    elim near.near [ inl is ↦ is | inr number ↦ absurd (no_number_behind meta items rest each.1 stops.no_number number.1) ] in
    let first = first_item meta item behind ts n (item_leads meta item behind each.0).some cut (ap (item_length meta) cut ∙ long) are in
    let further = longest_run meta items rest behind first.m each.1 stops refl first.behind in
    omega (arith, first.sum, further, length-append item (flat_map (λ i. i) items))

-- the longest items in front of a member and what cannot go on: the member may be one of them, or end the last
pub longest_near : (items : List (List (List ℕ))) (v : List ℕ) (rest ts : List (List ℕ)) (n : ℕ) → Each IsAttribute items → Passes v → Stopping false rest →
    ts ≡ flat_map (λ item. item) items ++ v ∷ rest → AreLongest false ts n → (n ≡ length (flat_map (λ item. item) items)) ⊎ (n ≡ suc (length (flat_map (λ item. item) items)))
longest_near [] v rest _ _ each pass stops e (stop ts n none zero_is) = inl zero_is
longest_near [] v rest _ _ each pass stops e (more ts n k m is sum behind) =
    let one : k ≡ 0 = one_token v rest k stops (ap (item_length false) (sym e) ∙ is) in
    let left : drop (suc k) ts ≡ rest = ap (λ j. drop (suc j) ts) one ∙ ap (drop 1) e in
    let none : m ≡ 0 = longest_none false rest m stops.none (subst (λ us. AreLongest false us m) left behind) in
    inr (omega (arith, one, none, sum))
longest_near (item ∷ items) v rest ts n each pass stops e are =
    let behind = flat_map (λ i. i) items ++ v ∷ rest in
    let cut : ts ≡ item ++ behind = e ∙ append_assoc item (flat_map (λ i. i) items) (v ∷ rest) in
    let near = item_near false item behind each.0 (behind_items false items (v ∷ rest) each.1 pass) in
    elim near.near [
      | inl is ↦
          (let first = first_item false item behind ts n (item_leads false item behind each.0).some cut (ap (item_length false) cut ∙ is) are in
          elim (longest_near items v rest behind first.m each.1 pass stops refl first.behind) [
            | inl further ↦ inl (omega (arith, first.sum, further, length-append item (flat_map (λ i. i) items)))
            | inr further ↦ inr (omega (arith, first.sum, further, length-append item (flat_map (λ i. i) items)))
          ])
      | inr number ↦ last_item item items each v rest ts n stops cut (ap (item_length false) cut ∙ number.0) number.1 are
    ]
  where
    last_item : (item : List (List ℕ)) (items : List (List (List ℕ))) → Each IsAttribute (item ∷ items) → (v : List ℕ) (rest ts : List (List ℕ)) (n : ℕ) → Stopping false rest →
        ts ≡ item ++ (flat_map (λ i. i) items ++ v ∷ rest) → item_length false ts ≡ suc (length item) → StartsNumber (flat_map (λ i. i) items ++ v ∷ rest) → AreLongest false ts n →
        (n ≡ length (item ++ flat_map (λ i. i) items)) ⊎ (n ≡ suc (length (item ++ flat_map (λ i. i) items)))
    last_item item (other ∷ items) each v rest ts n stops cut long number are =
        absurd ((item_leads false other (flat_map (λ i. i) items ++ v ∷ rest) each.1.0).no_number (subst (λ us. StartsNumber us) (append_assoc other (flat_map (λ i. i) items) (v ∷ rest)) number))
    last_item item [] each v rest _ _ stops cut long number (stop ts n none zero_is) = absurd (omega arith)
    last_item item [] each v rest _ _ stops cut long number (more ts n k m is sum behind) =
        let whole : ts ≡ (item ++ v ∷ []) ++ rest = cut ∙ sym (append_assoc item (v ∷ []) rest) in
        let count : length (item ++ v ∷ []) ≡ suc k = length-append item (v ∷ []) ∙ omega (arith, long, is) in
        let left : drop (suc k) ts ≡ rest = ap (drop (suc k)) whole ∙ drop_at (item ++ v ∷ []) rest (suc k) count in
        let none : m ≡ 0 = longest_none false rest m stops.none (subst (λ us. AreLongest false us m) left behind) in
        inr (omega (arith, long, is, none, sum, length-append item []))

-- what a slice of what is left tells
pub left_told : (line : List ℕ) (tokens : List Token) (at : ℕ) (F : List (List ℕ) → ℕ) (n : ℕ) → n ≡ F (texts line (take (length tokens - at) (drop at tokens))) → n ≡ F (texts line (drop at tokens))
left_told line tokens at F n e = e ∙ ap (λ ts. F (texts line ts)) (take_rest tokens at)

pub left_some : (line : List ℕ) (tokens : List Token) (at : ℕ) → at < length tokens → 0 < length (texts line (drop at tokens))
left_some line tokens at h = omega (arith, h, length-map (drop at tokens) (bytes_at line), length-drop at tokens)

pub left_within : (tokens : List Token) (at n : ℕ) → at ≤ length tokens → n ≤ length (take (length tokens - at) (drop at tokens)) → at + n ≤ length tokens
left_within tokens at n h e =
    let short : n ≤ length (drop at tokens) = subst (λ ts. n ≤ length ts) (take_rest tokens at) e in
    omega (arith, h, short, length-drop at tokens)
