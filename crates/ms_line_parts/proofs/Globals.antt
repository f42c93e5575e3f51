-- Where the word stands that says of a global variable whether it may change, and that tokens around it are balanced.
use Rattle.std.proofs.Common.{◌≡◌, ◌≢◌, ◌⊎◌, ℕ, ◌+◌, ◌-◌, ◌<◌, ◌≤◌, zero, suc, Bool, true, false, if◌then◌else◌, List, [], ◌∷◌, ◌++◌, Option, Some, None, length, take, drop, get_or, refl, sym, ap, subst, ◌∙◌, inl, inr, append_assoc, arith}
use Rattle.std.specs.List.{flat_map}
use Rattle.std.specs.Str.{bytes_eq}
use Rattle.std.proofs.lemmas.Bool.{and_parts, eqb-true}
use Rattle.std.proofs.lemmas.List.{length-append, length-drop, length-map, drop_at, drop-map, drop-drop, drop_more, drop-append-le, take-append-drop, take_rest}
use Rattle.ms_lex.specs.Kinds.{is_word, is_token}
use Rattle.ms_lex.specs.declared.token.Token.{Token}
use Rattle.ms_lex.specs.declared.token.TokenKind.{TokenKind}
use Rattle.ms_lex.specs.declared.token.TokenKind.TheVariants.{Number, Quoted, Group}
use Rattle.ms_grammar.specs.Words.{spelling}
use Rattle.ms_grammar.specs.Kept.{reserved, Each, AreMany, IsFree, IsAttribute, IsBalanced, IsGlobalLine, in_parentheses, closer, is_closer, behind_closer, behind_mark, behind_token, behind_tokens}
use Rattle.ms_grammar.specs.Kept.IsAttribute.{plain, called, aligned, quoted, paired, grouped}
use Rattle.ms_grammar.specs.Parts.{texts, bytes_at}
use Rattle.ms_grammar.specs.declared.keyword.Keyword.TheVariants as word
use Rattle.ms_grammar.proofs.Steps.{tells, same}
use Rattle.ms_line_parts.specs.Reach.{item_length}
use Rattle.ms_line_parts.specs.Rests.{balanced, IsGlobalKind, IsPlace, IsKindPlace, IsVariable, starts_with, global_head}
use Rattle.ms_line_parts.proofs.Marks.{behind_append}
use Rattle.ms_line_parts.proofs.Single.{item_near, item_is, item_leads}
use Rattle.ms_line_parts.proofs.Longest.{take_two, one_more, behind_items, no_number_behind}
use Rattle.ms_line_parts.proofs.KeptLines.{balanced_is, balanced_there}

kind_free : (t : List ℕ) → IsGlobalKind t → IsFree t
unfolding spelling reserved
kind_free t (inl e) = rw e (record { a_word = refl; allowed = refl })
kind_free t (inr e) = rw e (record { a_word = refl; allowed = refl })

-- tokens that are no brackets change nothing
differs : (test : List ℕ → Bool) (s t : List ℕ) → test s ≡ true → test t ≡ false → bytes_eq s t ≡ false
differs test s t passes fails = elim (tells s t) [ inl told ↦ (let e : test t ≡ true = rw told.1 at passes in absurd (cc)) | inr told ↦ told.0 ]

record NoBracket (s : List ℕ) : Type 0 where
  opens_none : closer s ≡ None
  closes_none : is_closer s ≡ false

no_bracket : (test : List ℕ → Bool) (s : List ℕ) → test s ≡ true → test (spelling word.Open) ≡ false → test (spelling word.OpenSquare) ≡ false → test (spelling word.OpenBrace) ≡ false →
    test (spelling word.Close) ≡ false → test (spelling word.CloseSquare) ≡ false → test (spelling word.CloseBrace) ≡ false → NoBracket s
no_bracket test s h a b c d e f =
    let a' : bytes_eq s (spelling word.Open) ≡ false = differs test s _ h a in
    let b' : bytes_eq s (spelling word.OpenSquare) ≡ false = differs test s _ h b in
    let c' : bytes_eq s (spelling word.OpenBrace) ≡ false = differs test s _ h c in
    let d' : bytes_eq s (spelling word.Close) ≡ false = differs test s _ h d in
    let e' : bytes_eq s (spelling word.CloseSquare) ≡ false = differs test s _ h e in
    let f' : bytes_eq s (spelling word.CloseBrace) ≡ false = differs test s _ h f in
    record { opens_none = rw (a', b', c') refl; closes_none = rw (d', e', f') refl }

stays : (opened : List (List ℕ)) (s : List ℕ) → NoBracket s → behind_token opened s ≡ Some opened
stays opened s none = ap (λ o. behind_mark o opened s) none.opens_none ∙ ap (λ b. if b then behind_closer opened s else Some opened) none.closes_none

word_bracket : (s : List ℕ) → is_word s ≡ true → NoBracket s
unfolding spelling
word_bracket s h = no_bracket is_word s h refl refl refl refl refl refl

kind_bracket : (k : TokenKind) (s : List ℕ) → is_token k s ≡ true → (k ≡ Number) ⊎ ((k ≡ Quoted) ⊎ (k ≡ Group)) → NoBracket s
unfolding spelling
kind_bracket k s h (inl e) = no_bracket (is_token Number) s (subst (λ j. is_token j s ≡ true) e h) refl refl refl refl refl refl
kind_bracket k s h (inr (inl e)) = no_bracket (is_token Quoted) s (subst (λ j. is_token j s ≡ true) e h) refl refl refl refl refl refl
kind_bracket k s h (inr (inr e)) = no_bracket (is_token Group) s (subst (λ j. is_token j s ≡ true) e h) refl refl refl refl refl refl

align_bracket : NoBracket (spelling word.Align)
unfolding spelling
align_bracket = record { opens_none = refl; closes_none = refl }

equals_bracket : NoBracket (spelling word.Equals)
unfolding spelling
equals_bracket = record { opens_none = refl; closes_none = refl }

-- brackets that are closed among tokens leave those that were open before
lift_match : (b : Bool) (opened more next : List (List ℕ)) → (if b then Some opened else None) ≡ Some next → (if b then Some (opened ++ more) else None) ≡ Some (next ++ more)
lift_match true opened more next e = let left : opened ≡ next = cc in rw left refl
lift_match false opened more next e = absurd (cc)

lift_closer : (b : Bool) (opened more next : List (List ℕ)) (t : List ℕ) → (if b then behind_closer opened t else Some opened) ≡ Some next →
    (if b then behind_closer (opened ++ more) t else Some (opened ++ more)) ≡ Some (next ++ more)
lift_closer true [] more next t e = absurd (cc)
lift_closer true (c ∷ opened) more next t e = lift_match (bytes_eq c t) opened more next e
lift_closer false opened more next t e = let left : opened ≡ next = cc in rw left refl

lift_mark : (o : Option (List ℕ)) (opened more next : List (List ℕ)) (t : List ℕ) → behind_mark o opened t ≡ Some next → behind_mark o (opened ++ more) t ≡ Some (next ++ more)
lift_mark (Some c) opened more next t e = let left : c ∷ opened ≡ next = cc in rw (← left) refl
lift_mark None opened more next t e = lift_closer (is_closer t) opened more next t e

lift_step : (opened more next : List (List ℕ)) (t : List ℕ) (ts : List (List ℕ)) (o : Option (List (List ℕ))) → behind_token opened t ≡ o → behind_tokens o ts ≡ Some next →
    ((between : List (List ℕ)) → behind_tokens (Some between) ts ≡ Some next → behind_tokens (Some (between ++ more)) ts ≡ Some (next ++ more)) →
    behind_tokens (Some (opened ++ more)) (t ∷ ts) ≡ Some (next ++ more)
lift_step opened more next t ts None is e further = absurd (cc)
lift_step opened more next t ts (Some between) is e further = ap (λ o. behind_tokens o ts) (lift_mark (closer t) opened more between t is) ∙ further between e

lift : (opened more next ts : List (List ℕ)) → behind_tokens (Some opened) ts ≡ Some next → behind_tokens (Some (opened ++ more)) ts ≡ Some (next ++ more)
lift opened more next [] e = let left : opened ≡ next = cc in rw left refl
lift opened more next (t ∷ ts) e = lift_step opened more next t ts (behind_token opened t) refl e (λ between h. lift between more next ts h)

open_step : behind_token [] (spelling word.Open) ≡ Some (spelling word.Close ∷ [])
unfolding spelling
open_step = refl

close_step : behind_token (spelling word.Close ∷ []) (spelling word.Close) ≡ Some []
unfolding spelling
close_step = refl

parentheses_balanced : (inner : List (List ℕ)) → IsBalanced inner → IsBalanced (in_parentheses inner)
unfolding spelling
parentheses_balanced inner h =
    ap (λ o. behind_tokens o (inner ++ spelling word.Close ∷ [])) open_step
    ∙ behind_append (Some (spelling word.Close ∷ [])) inner (spelling word.Close ∷ [])
    ∙ ap (λ o. behind_tokens o (spelling word.Close ∷ [])) (lift [] (spelling word.Close ∷ []) [] inner h) ∙ close_step

first_stays : (s : List ℕ) (ts : List (List ℕ)) → NoBracket s → IsBalanced ts → IsBalanced (s ∷ ts)
first_stays s ts none h = ap (λ o. behind_tokens o ts) (stays [] s none) ∙ h

attribute_balanced : (ts : List (List ℕ)) → IsAttribute ts → IsBalanced ts
attribute_balanced ts (plain w h is) = rw is (first_stays w [] (word_bracket w h.a_word) refl)
attribute_balanced ts (called w inner h inside is) = rw is (first_stays w (in_parentheses inner) (word_bracket w h.a_word) (parentheses_balanced inner inside))
attribute_balanced ts (aligned n h is) = rw is (first_stays (spelling word.Align) (n ∷ []) align_bracket (first_stays n [] (kind_bracket Number n h (inl refl)) refl))
attribute_balanced ts (quoted s h is) = rw is (first_stays s [] (kind_bracket Quoted s h (inr (inl refl))) refl)
attribute_balanced ts (paired s t h k is) =
    rw is (first_stays s (spelling word.Equals ∷ t ∷ []) (kind_bracket Quoted s h (inr (inl refl))) (first_stays (spelling word.Equals) (t ∷ []) equals_bracket (first_stays t [] (kind_bracket Quoted t k (inr (inl refl))) refl)))
attribute_balanced ts (grouped g h is) = rw is (first_stays g [] (kind_bracket Group g h (inr (inr refl))) refl)

both_balanced : (xs ys : List (List ℕ)) → IsBalanced xs → IsBalanced ys → IsBalanced (xs ++ ys)
both_balanced xs ys a b = behind_append (Some []) xs ys ∙ ap (λ o. behind_tokens o ys) a ∙ b

items_balanced : (items : List (List (List ℕ))) → Each IsAttribute items → IsBalanced (flat_map (λ i. i) items)
items_balanced [] each = refl
items_balanced (item ∷ items) each = both_balanced item (flat_map (λ i. i) items) (attribute_balanced item each.0) (items_balanced items each.1)

many_balanced : (ts : List (List ℕ)) → AreMany IsAttribute ts → IsBalanced ts
many_balanced ts many = rw many.whole (items_balanced many.items many.each)

-- what is left of attributes behind a place
pub record Left (at : ℕ) (before : List (List ℕ)) : Type 0 where
  pub within : at ≤ length before
  pub many : AreMany IsAttribute (drop at before)

-- one attribute more before the word
pub record Turn (at n : ℕ) (before : List (List ℕ)) : Type 0 where
  pub some : 0 < n
  pub left : Left (at + n) before

left_is : (ts before : List (List ℕ)) (kind : List ℕ) (rest : List (List ℕ)) (at : ℕ) → ts ≡ before ++ kind ∷ rest → at ≤ length before → drop at ts ≡ drop at before ++ kind ∷ rest
left_is ts before kind rest at e h = ap (drop at) e ∙ drop-append-le at before (kind ∷ rest) h

turn_by : (items : List (List (List ℕ))) (ts before : List (List ℕ)) (kind : List ℕ) (rest : List (List ℕ)) (at n : ℕ) → Each IsAttribute items → drop at before ≡ flat_map (λ i. i) items →
    ts ≡ before ++ kind ∷ rest → at ≤ length before → IsGlobalKind kind → ((u : List ℕ) (us : List (List ℕ)) → drop at ts ≡ u ∷ us → IsGlobalKind u → ⊥) → n ≡ item_length false (drop at ts) → Turn at n before
turn_by [] ts before kind rest at n each whole cut within is other e =
    absurd (other kind rest (left_is ts before kind rest at cut within ∙ ap (λ us. us ++ kind ∷ rest) whole) is)
turn_by (item ∷ items) ts before kind rest at n each whole cut within is other e =
    let behind = flat_map (λ i. i) items ++ kind ∷ rest in
    let lead = item_leads false (kind ∷ []) rest (plain kind (kind_free kind is) refl) in
    let here : drop at ts ≡ item ++ behind = left_is ts before kind rest at cut within ∙ ap (λ us. us ++ kind ∷ rest) whole ∙ append_assoc item (flat_map (λ i. i) items) (kind ∷ rest) in
    let near = item_near false item behind each.0 (behind_items false items (kind ∷ rest) each.1 lead.passing) in
    let long : item_length false (item ++ behind) ≡ length item =
    elim near.near [ inl at_end ↦ at_end | inr number ↦ absurd (no_number_behind false items (kind ∷ rest) each.1 lead.no_number number.1) ] in
    let count : n ≡ length item = e ∙ ap (item_length false) here ∙ long in
    let some : 0 < length item = (item_leads false item behind each.0).some in
    let lengths : length before - at ≡ length item + length (flat_map (λ i. i) items) = sym (length-drop at before) ∙ ap length whole ∙ length-append item (flat_map (λ i. i) items) in
    let left : drop (at + n) before ≡ flat_map (λ i. i) items = sym (drop-drop n at before) ∙ ap (drop n) whole ∙ drop_at item (flat_map (λ i. i) items) n (sym count) in
    record {
      some = omega (arith, some, count);
      left = record { within = omega (arith, within, count, lengths); many = subst (λ us. AreMany IsAttribute us) (sym left) (record { items = items; each = each.1; whole = refl }) };
    }

pub turn : (ts before : List (List ℕ)) (kind : List ℕ) (rest : List (List ℕ)) (at n : ℕ) → Left at before → ts ≡ before ++ kind ∷ rest → IsGlobalKind kind →
    ((u : List ℕ) (us : List (List ℕ)) → drop at ts ≡ u ∷ us → IsGlobalKind u → ⊥) → n ≡ item_length false (drop at ts) → Turn at n before
turn ts before kind rest at n left cut is other e = turn_by left.many.items ts before kind rest at n left.many.each left.many.whole cut left.within is other e

-- the token at a place in its text
pub text_at : (line : List ℕ) (tokens : List Token) (at : ℕ) (d : Token) → at < length tokens → drop at (texts line tokens) ≡ bytes_at line (get_or tokens at d) ∷ texts line (drop (at + 1) tokens)
text_at line tokens at d h = drop-map (bytes_at line) at tokens ∙ ap (texts line) (drop_more tokens at d h)

cons_one : (a b : List ℕ) (s t : List (List ℕ)) → a ∷ s ≡ b ∷ t → a ≡ b
cons_one a b s t e = cc

pub no_kind_at : (line : List ℕ) (tokens : List Token) (at : ℕ) (d : Token) → at < length tokens → (IsGlobalKind (bytes_at line (get_or tokens at d)) → ⊥) →
    (u : List ℕ) (us : List (List ℕ)) → drop at (texts line tokens) ≡ u ∷ us → IsGlobalKind u → ⊥
no_kind_at line tokens at d h none u us e is = none (subst (λ t. IsGlobalKind t) (sym (cons_one _ u _ us (sym (text_at line tokens at d h) ∙ e))) is)

pub place_is : (line : List ℕ) (tokens : List Token) (at : ℕ) (d : Token) → at < length tokens → AreMany IsAttribute (take at (texts line tokens)) →
    IsGlobalKind (bytes_at line (get_or tokens at d)) → IsPlace (texts line tokens) (Some at)
place_is line tokens at d h many is = (many, (bytes_at line (get_or tokens at d), texts line (drop (at + 1) tokens), text_at line tokens at d h, is))

pub longer_front : (ts : List (List ℕ)) (at n k : ℕ) → n ≡ item_length false (drop at ts) → (n ≡ 0 → ⊥) → AreMany IsAttribute (take k (drop (at + n) ts)) → AreMany IsAttribute (take (n + k) (drop at ts))
longer_front ts at zero k e some many = absurd (some refl)
longer_front ts at (suc n) k e some many =
    let left : drop (suc n) (drop at ts) ≡ drop (at + suc n) ts = drop-drop (suc n) at ts in
    subst (λ us. AreMany IsAttribute us) (sym (take_two (suc n) k (drop at ts)))
    (one_more IsAttribute (take (suc n) (drop at ts)) (take k (drop (suc n) (drop at ts))) (item_is false (drop at ts) n (sym e)) (subst (λ us. AreMany IsAttribute (take k us)) (sym left) many))

pub item_here : (line : List ℕ) (tokens : List Token) (at n : ℕ) → n ≡ item_length false (texts line (drop at tokens)) → n ≡ item_length false (drop at (texts line tokens))
item_here line tokens at n e = e ∙ ap (item_length false) (sym (drop-map (bytes_at line) at tokens))

-- the word is found, and it is the first one
variable_balanced : (before : List (List ℕ)) (kind : List ℕ) (more : List (List ℕ)) → AreMany IsAttribute before → IsGlobalKind kind → IsBalanced more → IsBalanced (before ++ kind ∷ more)
variable_balanced before kind more many is inside = both_balanced before (kind ∷ more) (many_balanced before many) (first_stays kind more (word_bracket kind (kind_free kind is).a_word) inside)

pub variable_is : (ts : List (List ℕ)) (at : ℕ) → IsKindPlace ts (Some at) → at + 1 < length ts → balanced (drop (at + 1) ts) ≡ true → IsVariable ts
variable_is ts at found more inside =
    let kind = found.place.1.0 in
    let rest = found.place.1.1 in
    let here : drop at ts ≡ kind ∷ rest = found.place.1.2 in
    let behind : drop (at + 1) ts ≡ rest = sym (drop-drop 1 at ts) ∙ ap (drop 1) here in
    record {
      before = take at ts;
      kind = kind;
      more = rest;
      attributes = found.place.0;
      kind_is = found.place.1.3;
      some = λ none. (let long : length ts - (at + 1) ≡ 0 = sym (length-drop (at + 1) ts) ∙ ap length behind ∙ ap length none in omega (arith, long, more));
      balanced = subst (λ us. IsBalanced us) behind (balanced_is (drop (at + 1) ts) inside);
      tokens = sym (take-append-drop at ts) ∙ ap (λ us. take at ts ++ us) here;
    }

-- a variable's word is found, with balanced tokens behind it
pub record Behind (ts : List (List ℕ)) (found : Option ℕ) : Type 0 where
  pub at : ℕ
  pub is : found ≡ Some at
  pub some : at + 1 < length ts
  pub inside : balanced (drop (at + 1) ts) ≡ true

some_length : (ts : List (List ℕ)) → ts ≢ [] → 0 < length ts
some_length [] h = absurd (h refl)
some_length (t ∷ ts) h = omega arith

pub variable_there : (ts : List (List ℕ)) (found : Option ℕ) → IsKindPlace ts found → IsVariable ts → Behind ts found
variable_there ts found placed v =
    let reached = placed.first v.before v.kind v.more v.tokens v.attributes v.kind_is in
    let at = reached.place in
    let place : IsPlace ts (Some at) = subst (λ o. IsPlace ts o) reached.is placed.place in
    let here : drop at ts ≡ place.1.0 ∷ place.1.1 = place.1.2 in
    let cut : drop at ts ≡ drop at v.before ++ v.kind ∷ v.more = left_is ts v.before v.kind v.more at v.tokens reached.within in
    let whole : IsBalanced (drop at ts) = subst (λ us. IsBalanced us) (sym cut) (variable_balanced (drop at v.before) v.kind v.more reached.left v.kind_is v.balanced) in
    let first : IsBalanced (place.1.0 ∷ place.1.1) = subst (λ us. IsBalanced us) here whole in
    let rest : IsBalanced place.1.1 = sym (ap (λ o. behind_tokens o place.1.1) (stays [] place.1.0 (word_bracket place.1.0 (kind_free place.1.0 place.1.3).a_word))) ∙ first in
    let behind : drop (at + 1) ts ≡ place.1.1 = sym (drop-drop 1 at ts) ∙ ap (drop 1) here in
    let long : length ts ≡ length v.before + suc (length v.more) = ap length v.tokens ∙ length-append v.before (v.kind ∷ v.more) in
    let more : 0 < length v.more = some_length v.more v.some in
    record { at = at; is = reached.is; some = (let within = reached.within in omega (arith, long, more, within)); inside = balanced_there (drop (at + 1) ts) (subst (λ us. IsBalanced us) (sym behind) rest) }

-- the line of a global variable
named_global : (a : List ℕ) → starts_with 64 a ≡ true → (name : List ℕ) × (a ≡ 64 ∷ name)
named_global [] h = absurd (cc)
named_global (b ∷ bs) h = (bs, ap (λ k. k ∷ bs) (eqb-true b 64 h))

told : (s t : List ℕ) → bytes_eq s t ≡ true → s ≡ t
told s t e = elim (tells s t) [ inl is ↦ is.1 | inr other ↦ absurd (cc (e, other.0)) ]

pub global_is : (ts : List (List ℕ)) → global_head ts ≡ true → IsVariable (drop 2 ts) → (name : List ℕ) × IsGlobalLine name ts
global_is [] e v = absurd (cc)
global_is (a ∷ []) e v = absurd (cc)
global_is (a ∷ (b ∷ ts)) e v =
    let x = and_parts (starts_with 64 a) _ e in
    let name = named_global a x.0 in (
      name.0,
      record {
        before = v.before;
        kind = v.kind;
        rest = v.more;
        attributes = v.attributes;
        kind_is = v.kind_is;
        some = v.some;
        balanced = v.balanced;
        tokens = ap (λ us. a ∷ b ∷ us) v.tokens ∙ ap (λ s. s ∷ b ∷ v.before ++ v.kind ∷ v.more) name.1 ∙ ap (λ s. (64 ∷ name.0) ∷ s ∷ v.before ++ v.kind ∷ v.more) (told b _ x.1);
      },
    )

-- what a test tells of what is left
pub balanced_left : (line : List ℕ) (tokens : List Token) (n : ℕ) (r : Bool) → r ≡ balanced (texts line (take (length tokens - n) (drop n tokens))) → r ≡ balanced (drop n (texts line tokens))
balanced_left line tokens n r e = e ∙ ap (λ ts. balanced (texts line ts)) (take_rest tokens n) ∙ ap balanced (sym (drop-map (bytes_at line) n tokens))

pub text_length : (line : List ℕ) (tokens : List Token) (n : ℕ) → n < length tokens → n < length (texts line tokens)
text_length line tokens n h = omega (arith, h, length-map tokens (bytes_at line))

some_one : (a b : ℕ) → Some a ≡ Some b → a ≡ b
some_one a b e = cc

pub no_variable : (ts : List (List ℕ)) (at : ℕ) (r : Bool) → IsKindPlace ts (Some at) → r ≡ balanced (drop (at + 1) ts) → r ≡ false → IsVariable ts → ⊥
no_variable ts at r placed e fails v =
    let behind = variable_there ts (Some at) placed v in
    let same_place : at ≡ behind.at = some_one at behind.at behind.is in
    let yes : balanced (drop (at + 1) ts) ≡ true = subst (λ k. balanced (drop (k + 1) ts) ≡ true) (sym same_place) behind.inside in
    cc

equals_is : bytes_eq (spelling word.Equals) (spelling word.Equals) ≡ true
equals_is = same (spelling word.Equals) (spelling word.Equals) refl

pub no_global : (ts : List (List ℕ)) (name : List ℕ) → IsGlobalLine name ts → (global_head ts ≡ true) × IsVariable (drop 2 ts)
no_global ts name h = rw h.tokens (equals_is, record { before = h.before; kind = h.kind; more = h.rest; attributes = h.attributes; kind_is = h.kind_is; some = h.some; balanced = h.balanced; tokens = refl })

-- the tokens behind the first two
pub behind_two : (line : List ℕ) (tokens : List Token) → drop 2 (texts line tokens) ≡ texts line (take (length tokens - 2) (drop 2 tokens))
behind_two line tokens = drop-map (bytes_at line) 2 tokens ∙ ap (texts line) (sym (take_rest tokens 2))
