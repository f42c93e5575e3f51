-- What may stand behind an instruction, item by item.
use Rattle.std.proofs.Common.{◌≡◌, ℕ, ◌+◌, ◌<◌, zero, suc, Bool, true, false, ◌&&◌, if◌then◌else◌, List, [], ◌∷◌, ◌++◌, length, take, drop, refl, sym, ap, subst, ◌∙◌, inl, inr, arith}
use Rattle.std.specs.List.{flat_map}
use Rattle.std.specs.Str.{bytes_eq}
use Rattle.std.proofs.lemmas.List.{length-append, drop_at, take-append-drop}
use Rattle.ms_lex.specs.Kinds.{is_number, is_token}
use Rattle.ms_lex.specs.declared.token.TokenKind.TheVariants.{Meta}
use Rattle.ms_grammar.specs.Words.{spelling}
use Rattle.ms_grammar.specs.Kept.{Each, AreMany, IsTailItem, in_braces}
use Rattle.ms_grammar.specs.Kept.IsTailItem.{aligned, metadata, inline}
use Rattle.ms_grammar.specs.declared.keyword.Keyword.TheVariants as word
use Rattle.ms_grammar.proofs.Steps.{tells, same}
use Rattle.ms_grammar.proofs.Tails.{tail_first}
use Rattle.ms_line_parts.specs.Reach.{bracketed}
use Rattle.ms_line_parts.specs.Rests.{behind_comma, tail_length}
use Rattle.ms_line_parts.proofs.Marks.{bracketed_is, bracketed_there, bracketed_other, brace_alone}
use Rattle.ms_line_parts.proofs.Longest.{one_more}

by_braces : (c s t : List ℕ) (us : List (List ℕ)) (n b : ℕ) → c ≡ spelling word.Comma → is_token Meta s ≡ true → is_token Meta t ≡ true → b ≡ bracketed (spelling word.OpenBrace) (spelling word.CloseBrace) us →
    suc n ≡ 3 + b → IsTailItem (take (suc n) (c ∷ s ∷ t ∷ us))
by_braces c s t us n zero comma m k told e =
    metadata (s ∷ t ∷ []) (record { first = s; second = t; first_is = m; second_is = k; both = refl }) (ap (λ j. take j (c ∷ s ∷ t ∷ us)) e ∙ ap (λ d. d ∷ s ∷ t ∷ []) comma)
by_braces c s t us n (suc b) comma m k told e =
    let inside = bracketed_is (spelling word.OpenBrace) (spelling word.CloseBrace) us b told in
    let count : suc n ≡ suc (suc (suc (suc b))) = omega (arith, e) in
    inline (s ∷ t ∷ []) inside.inner (record { first = s; second = t; first_is = m; second_is = k; both = refl }) inside.balanced
    (ap (λ j. take j (c ∷ s ∷ t ∷ us)) count ∙ ap (λ vs. c ∷ s ∷ t ∷ vs) inside.tokens ∙ ap (λ d. d ∷ s ∷ t ∷ in_braces inside.inner) comma)

by_behind : (c s t : List ℕ) (us : List (List ℕ)) (n : ℕ) → c ≡ spelling word.Comma → (a : Bool) → bytes_eq s (spelling word.Align) ≡ a → (b : Bool) → is_number t ≡ b →
    (m : Bool) → is_token Meta s ≡ m → (k : Bool) → is_token Meta t ≡ k →
    suc n ≡ (if a && b then 3 else (if m && k then 3 + bracketed (spelling word.OpenBrace) (spelling word.CloseBrace) us else 0)) → IsTailItem (take (suc n) (c ∷ s ∷ t ∷ us))
by_behind c s t us n comma true f true g m h k i e = elim (tells s (spelling word.Align)) [
  | inl told ↦ aligned t g (ap (λ j. take j (c ∷ s ∷ t ∷ us)) e ∙ ap (λ d. d ∷ s ∷ t ∷ []) comma ∙ ap (λ v. spelling word.Comma ∷ v ∷ t ∷ []) told.1)
  | inr told ↦ absurd (cc (told.0, f))
]
by_behind c s t us n comma true f false g true h true i e = by_braces c s t us n (bracketed (spelling word.OpenBrace) (spelling word.CloseBrace) us) comma h i refl e
by_behind c s t us n comma false f b g true h true i e = by_braces c s t us n (bracketed (spelling word.OpenBrace) (spelling word.CloseBrace) us) comma h i refl e
by_behind c s t us n comma true f false g true h false i e = absurd (omega arith)
by_behind c s t us n comma true f false g false h k i e = absurd (omega arith)
by_behind c s t us n comma false f b g true h false i e = absurd (omega arith)
by_behind c s t us n comma false f b g false h k i e = absurd (omega arith)

pub tail_is : (ts : List (List ℕ)) (n : ℕ) → suc n ≡ tail_length ts → IsTailItem (take (suc n) ts)
tail_is [] n e = absurd (omega arith)
tail_is (c ∷ []) n e = absurd (omega arith)
tail_is (c ∷ (s ∷ [])) n e = absurd (omega arith)
tail_is (c ∷ (s ∷ (t ∷ us))) n e = elim (tells c (spelling word.Comma)) [
  | inl told ↦ by_behind c s t us n told.1 (bytes_eq s (spelling word.Align)) refl (is_number t) refl (is_token Meta s) refl (is_token Meta t) refl (e ∙ ap (λ b. if b then behind_comma s t us else 0) told.0)
  | inr told ↦ (let none : suc n ≡ 0 = e ∙ ap (λ b. if b then behind_comma s t us else 0) told.0 in absurd (omega (arith, none)))
]

meta_no_align : (s : List ℕ) → is_token Meta s ≡ true → bytes_eq s (spelling word.Align) ≡ false
unfolding spelling
meta_no_align s h = elim (tells s (spelling word.Align)) [ inl told ↦ (let e : is_token Meta (spelling word.Align) ≡ true = rw told.1 at h in absurd (cc)) | inr told ↦ told.0 ]

comma_is : bytes_eq (spelling word.Comma) (spelling word.Comma) ≡ true
comma_is = same (spelling word.Comma) (spelling word.Comma) refl

pair_length : (s t : List ℕ) (us : List (List ℕ)) → is_token Meta s ≡ true → is_token Meta t ≡ true → tail_length (spelling word.Comma ∷ s ∷ t ∷ us) ≡ 3 + bracketed (spelling word.OpenBrace) (spelling word.CloseBrace) us
pair_length s t us h k = let no_align : bytes_eq s (spelling word.Align) ≡ false = meta_no_align s h in let comma : bytes_eq (spelling word.Comma) (spelling word.Comma) ≡ true = comma_is in rw (comma, no_align, h, k) refl

align_length : (n : List ℕ) (us : List (List ℕ)) → is_number n ≡ true → tail_length (spelling word.Comma ∷ spelling word.Align ∷ n ∷ us) ≡ 3
align_length n us h =
    let align : bytes_eq (spelling word.Align) (spelling word.Align) ≡ true = same (spelling word.Align) (spelling word.Align) refl in
    let comma : bytes_eq (spelling word.Comma) (spelling word.Comma) ≡ true = comma_is in rw (comma, align, h) refl

pub tail_there : (item rest : List (List ℕ)) → IsTailItem item → bracketed (spelling word.OpenBrace) (spelling word.CloseBrace) rest ≡ 0 → tail_length (item ++ rest) ≡ length item
tail_there item rest (aligned n h is) none = rw is (align_length n rest h)
tail_there item rest (metadata pair h is) none =
    let whole : item ≡ spelling word.Comma ∷ h.first ∷ h.second ∷ [] = is ∙ ap (λ p. spelling word.Comma ∷ p) h.both in
    rw whole (pair_length h.first h.second rest h.first_is h.second_is ∙ ap (λ k. 3 + k) none)
tail_there item rest (inline pair inner h balanced is) none =
    let whole : item ≡ spelling word.Comma ∷ h.first ∷ h.second ∷ in_braces inner = is ∙ ap (λ p. spelling word.Comma ∷ p ++ in_braces inner) h.both in
    let long : length (inner ++ spelling word.CloseBrace ∷ []) ≡ length inner + 1 = length-append inner (spelling word.CloseBrace ∷ []) in
    let sum : 3 + (length inner + 2) ≡ suc (suc (suc (suc (length (inner ++ spelling word.CloseBrace ∷ []))))) = omega (arith, long) in
    rw whole (pair_length h.first h.second (in_braces inner ++ rest) h.first_is h.second_is ∙ ap (λ k. 3 + k) (bracketed_there (spelling word.OpenBrace) (spelling word.CloseBrace) inner rest brace_alone balanced) ∙ sum)

item_some : (item : List (List ℕ)) → IsTailItem item → 0 < length item
item_some item (aligned n h is) = rw is (omega arith)
item_some item (metadata pair h is) = rw is (omega arith)
item_some item (inline pair inner h balanced is) = rw is (omega arith)

comma_no_brace : bytes_eq (spelling word.Comma) (spelling word.OpenBrace) ≡ false
unfolding spelling
comma_no_brace = refl

many_no_brace : (ts : List (List ℕ)) → AreMany IsTailItem ts → bracketed (spelling word.OpenBrace) (spelling word.CloseBrace) ts ≡ 0
many_no_brace [] many = refl
many_no_brace (t ∷ ts) many =
    bracketed_other (spelling word.OpenBrace) (spelling word.CloseBrace) t ts (ap (λ u. bytes_eq u (spelling word.OpenBrace)) (tail_first (t ∷ ts) t ts many refl) ∙ comma_no_brace)

-- what is left of a tail behind its first item
pub record Behind (ts : List (List ℕ)) (n : ℕ) : Type 0 where
  pub some : 0 < n
  pub left : AreMany IsTailItem (drop n ts)

by_items : (items : List (List (List ℕ))) (ts : List (List ℕ)) (n : ℕ) → Each IsTailItem items → ts ≡ flat_map (λ i. i) items → 0 < length ts → n ≡ tail_length ts → Behind ts n
by_items [] ts n each whole some e = let none : length ts ≡ 0 = ap length whole in absurd (omega arith)
by_items (item ∷ items) ts n each whole some e =
    let rest : AreMany IsTailItem (flat_map (λ i. i) items) = record { items = items; each = each.1; whole = refl } in
    let count : n ≡ length item = e ∙ ap tail_length whole ∙ tail_there item (flat_map (λ i. i) items) each.0 (many_no_brace (flat_map (λ i. i) items) rest) in
    let left : drop n ts ≡ flat_map (λ i. i) items = ap (drop n) whole ∙ drop_at item (flat_map (λ i. i) items) n (sym count) in
    record { some = (let long = item_some item each.0 in omega (arith, long, count)); left = subst (λ us. AreMany IsTailItem us) (sym left) rest }

pub tail_behind : (ts : List (List ℕ)) (n : ℕ) → AreMany IsTailItem ts → 0 < length ts → n ≡ tail_length ts → Behind ts n
tail_behind ts n many some e = by_items many.items ts n many.each many.whole some e

pub tail_before : (ts : List (List ℕ)) (n : ℕ) → n ≡ tail_length ts → (n ≡ 0 → ⊥) → AreMany IsTailItem (drop n ts) → AreMany IsTailItem ts
tail_before ts zero e some many = absurd (some refl)
tail_before ts (suc n) e some many = subst (λ us. AreMany IsTailItem us) (take-append-drop (suc n) ts) (one_more IsTailItem (take (suc n) ts) (drop (suc n) ts) (tail_is ts n e) many)
