-- The longest item in front: what it is, and that no other stands there.
use Rattle.std.proofs.Common.{◌≡◌, ◌⊎◌, ℕ, ◌+◌, ◌<◌, ◌==◌, zero, suc, Bool, true, false, ◌&&◌, if◌then◌else◌, List, [], ◌∷◌, ◌++◌, Some, None, length, take, refl, sym, ap, subst, ◌∙◌, inl, inr, arith}
use Rattle.std.specs.List.{list_any}
use Rattle.std.specs.Str.{bytes_eq}
use Rattle.std.proofs.lemmas.List.{length-append}
use Rattle.std.proofs.lemmas.Bool.Decides.{nat_tests}
use Rattle.std.proofs.lemmas.Bool.{false_from_ne_true}
use Rattle.ms_lex.specs.Kinds.{is_word, is_number, is_token}
use Rattle.ms_lex.specs.declared.token.TokenKind.{TokenKind}
use Rattle.ms_lex.specs.declared.token.TokenKind.TheVariants.{Word, Number, Quoted, Group, Meta}
use Rattle.ms_grammar.specs.Words.{spelling}
use Rattle.ms_grammar.specs.Kept.{reserved, in_parentheses, IsBalanced, IsFree, IsAttribute, IsMetaPair, IsPostItem, attribute, metadata}
use Rattle.ms_grammar.specs.Kept.IsAttribute.{plain, called, aligned, quoted, paired, grouped}
use Rattle.ms_grammar.specs.Scan.{free, after_word, after_align, after_string, after_equals, after_meta, inside, is_free, opens, Stops, Passes}
use Rattle.ms_grammar.specs.declared.keyword.Keyword.TheVariants as word
use Rattle.ms_grammar.proofs.Steps.{tells, same}
use Rattle.ms_line_parts.specs.Reach.{inner_of, with_marks, bracketed, number_joins, some_or, word_joins, string_joins, meta_joins, item_length, IsItem}
use Rattle.ms_line_parts.proofs.OneKind.{no_kind}
use Rattle.ms_line_parts.proofs.Marks.{close_alone, bracketed_is, bracketed_there}

-- what joins no word and no string, and no word align
abbrev pub Passing : List (List ℕ) → Type 0
Passing [] = Unit {0}
Passing (t ∷ ts) = Passes t

abbrev pub StartsNumber : List (List ℕ) → Type 0
StartsNumber [] = ⊥
StartsNumber (t ∷ ts) = is_number t ≡ true

bracketed_none : (ts : List (List ℕ)) → Passing ts → bracketed (spelling word.Open) (spelling word.Close) ts ≡ 0
bracketed_none [] pass = refl
bracketed_none (t ∷ ts) pass = ap (λ b. if b then with_marks (inner_of (spelling word.Close) (Some []) ts) else 0) pass.no_open

abbrev one_if : Bool → ℕ
one_if b = if b then 1 else 0

numbers_told : (al : Bool) (ts : List (List ℕ)) → (number_joins al ts ≡ 0) ⊎ ((number_joins al ts ≡ 1) × (al ≡ true) × StartsNumber ts)
numbers_told al [] = inl refl
numbers_told false (t ∷ ts) = inl refl
numbers_told true (t ∷ ts) = by_test (is_number t) refl
  where
    by_test : (b : Bool) → is_number t ≡ b → (number_joins true (t ∷ ts) ≡ 0) ⊎ ((number_joins true (t ∷ ts) ≡ 1) × (true ≡ true) × StartsNumber (t ∷ ts))
    by_test true e = inr (ap one_if e, refl, e)
    by_test false e = inl (ap one_if e)

joins_told : (al : Bool) (ts : List (List ℕ)) → Passing ts → (word_joins al ts ≡ 0) ⊎ ((word_joins al ts ≡ 1) × StartsNumber ts)
joins_told al ts pass =
    let none : word_joins al ts ≡ number_joins al ts = ap (λ n. some_or n (number_joins al ts)) (bracketed_none ts pass) in
    elim (numbers_told al ts) [ inl zero_is ↦ inl (none ∙ zero_is) | inr one ↦ inr (none ∙ one.0, one.2) ]

string_none : (ts : List (List ℕ)) → Passing ts → string_joins ts ≡ 0
string_none [] pass = refl
string_none (e ∷ []) pass = refl
string_none (e ∷ (s ∷ ts)) pass = ap (λ b. if b && is_token Quoted s then 2 else 0) pass.no_equals

pub free_word : (w : List ℕ) → IsFree w → is_free w ≡ true
free_word w h = rw (h.a_word, h.allowed) refl

no_free : (w : List ℕ) → is_word w ≡ false → is_free w ≡ false
no_free w h = rw h refl

-- how long the item in front is, by its first token
pub item_word : (meta : Bool) (w : List ℕ) (ts : List (List ℕ)) → is_free w ≡ true → item_length meta (w ∷ ts) ≡ suc (word_joins (bytes_eq w (spelling word.Align)) ts)
item_word meta w ts h = rw h refl

pub item_quoted : (meta : Bool) (s : List ℕ) (ts : List (List ℕ)) → is_token Quoted s ≡ true → item_length meta (s ∷ ts) ≡ suc (string_joins ts)
item_quoted meta s ts h = let word_no : is_word s ≡ false = no_kind Quoted Word s h (λ e. cc) in rw (word_no, h) refl

pub item_group : (meta : Bool) (s : List ℕ) (ts : List (List ℕ)) → is_token Group s ≡ true → item_length meta (s ∷ ts) ≡ 1
item_group meta s ts h =
    let word_no : is_word s ≡ false = no_kind Group Word s h (λ e. cc) in
    let quote_no : is_token Quoted s ≡ false = no_kind Group Quoted s h (λ e. cc) in
    rw (word_no, quote_no, h) refl

pub item_meta : (s : List ℕ) (ts : List (List ℕ)) → is_token Meta s ≡ true → item_length true (s ∷ ts) ≡ meta_joins ts
item_meta s ts h =
    let word_no : is_word s ≡ false = no_kind Meta Word s h (λ e. cc) in
    let quote_no : is_token Quoted s ≡ false = no_kind Meta Quoted s h (λ e. cc) in
    let group_no : is_token Group s ≡ false = no_kind Meta Group s h (λ e. cc) in
    rw (word_no, quote_no, group_no, h) refl

some_is : (n m : ℕ) → some_or (suc n) m ≡ suc n
some_is n m = let e : (suc n == 0) ≡ false = grind (arith, nat_tests) in ap (λ b. if b then m else suc n) e

-- a called word joins with its parentheses
called_joins : (al : Bool) (inner rest : List (List ℕ)) → IsBalanced inner → word_joins al (in_parentheses inner ++ rest) ≡ length inner + 2
called_joins al inner rest balanced =
    let whole : bracketed (spelling word.Open) (spelling word.Close) (in_parentheses inner ++ rest) ≡ length inner + 2 =
    bracketed_there (spelling word.Open) (spelling word.Close) inner rest close_alone balanced in
    ap (λ n. some_or n (number_joins al (in_parentheses inner ++ rest))) whole ∙ (let more : length inner + 2 ≡ suc (length inner + 1) = omega arith in ap (λ k. some_or k (number_joins al (in_parentheses inner ++ rest))) more ∙ some_is (length inner + 1) (number_joins al (in_parentheses inner ++ rest)) ∙ sym more)

number_no_open : (n : List ℕ) → is_number n ≡ true → opens n ≡ false
unfolding spelling
number_no_open n h = elim (tells n (spelling word.Open)) [ inl told ↦ (let e : is_number (spelling word.Open) ≡ true = rw told.1 at h in absurd (cc)) | inr told ↦ told.0 ]

align_free : is_free (spelling word.Align) ≡ true
unfolding spelling reserved
align_free = refl

-- the item of a list of tokens, or with a number behind it the word align
pub record IsNear (meta : Bool) (item rest : List (List ℕ)) : Type 0 where
  pub near : (item_length meta (item ++ rest) ≡ length item) ⊎ ((item_length meta (item ++ rest) ≡ suc (length item)) × StartsNumber rest)

attribute_near : (meta : Bool) (item rest : List (List ℕ)) → IsAttribute item → Passing rest → IsNear meta item rest
attribute_near meta item rest (plain w h is) pass = rw is (
    elim (joins_told (bytes_eq w (spelling word.Align)) rest pass) [
      | inl none ↦ record { near = inl (item_word meta w rest (free_word w h) ∙ ap suc none) }
      | inr one ↦ record { near = inr (item_word meta w rest (free_word w h) ∙ ap suc one.0, one.1) }
    ])
attribute_near meta item rest (called w inner h balanced is) pass =
    let long : length (inner ++ spelling word.Close ∷ []) ≡ length inner + 1 = length-append inner (spelling word.Close ∷ []) in
    let sum : suc (length inner + 2) ≡ suc (suc (length (inner ++ spelling word.Close ∷ []))) = omega (arith, long) in
    rw is (record { near = inl (item_word meta w (in_parentheses inner ++ rest) (free_word w h) ∙ ap suc (called_joins (bytes_eq w (spelling word.Align)) inner rest balanced) ∙ sum) })
attribute_near meta item rest (aligned n h is) pass =
    let align_is : bytes_eq (spelling word.Align) (spelling word.Align) ≡ true = same (spelling word.Align) (spelling word.Align) refl in
    let none : bracketed (spelling word.Open) (spelling word.Close) (n ∷ rest) ≡ 0 = ap (λ b. if b then with_marks (inner_of (spelling word.Close) (Some []) rest) else 0) (number_no_open n h) in
    let one : word_joins (bytes_eq (spelling word.Align) (spelling word.Align)) (n ∷ rest) ≡ 1 =
    ap (λ b. word_joins b (n ∷ rest)) align_is ∙ ap (λ k. some_or k (number_joins true (n ∷ rest))) none ∙ ap one_if h in
    rw is (record { near = inl (item_word meta (spelling word.Align) (n ∷ rest) align_free ∙ ap suc one) })
attribute_near meta item rest (quoted s h is) pass = rw is (record { near = inl (item_quoted meta s rest h ∙ ap suc (string_none rest pass)) })
attribute_near meta item rest (paired s t h k is) pass =
    let equals_is : bytes_eq (spelling word.Equals) (spelling word.Equals) ≡ true = same (spelling word.Equals) (spelling word.Equals) refl in
    let two : string_joins (spelling word.Equals ∷ t ∷ rest) ≡ 2 = ap (λ b. if b && is_token Quoted t then 2 else 0) equals_is ∙ ap (λ b. if true && b then 2 else 0) k in
    rw is (record { near = inl (item_quoted meta s (spelling word.Equals ∷ t ∷ rest) h ∙ ap suc two) })
attribute_near meta item rest (grouped g h is) pass = rw is (record { near = inl (item_group meta g rest h) })

pair_near : (item rest : List (List ℕ)) → IsMetaPair item → IsNear true item rest
pair_near item rest pair =
    let two : meta_joins (pair.second ∷ rest) ≡ 2 = ap (λ b. if b then 2 else 0) pair.second_is in
    rw pair.both (record { near = inl (item_meta pair.first (pair.second ∷ rest) pair.first_is ∙ two) })

pub item_near : (meta : Bool) (item rest : List (List ℕ)) → IsItem meta item → Passing rest → IsNear meta item rest
item_near true item rest (attribute h) pass = attribute_near true item rest h pass
item_near true item rest (metadata pair) pass = pair_near item rest pair
item_near false item rest h pass = attribute_near false item rest h pass

-- what the longest item in front is
numbers_is : (w : List ℕ) (ts : List (List ℕ)) (n : ℕ) → IsFree w → n ≡ number_joins (bytes_eq w (spelling word.Align)) ts → IsAttribute (w ∷ take n ts)
numbers_is w ts n h e =
    elim (numbers_told (bytes_eq w (spelling word.Align)) ts) [
      | inl none ↦ subst (λ k. IsAttribute (w ∷ take k ts)) (sym (e ∙ none)) (plain w h refl)
      | inr one ↦ subst (λ k. IsAttribute (w ∷ take k ts)) (sym (e ∙ one.0)) (elim (tells w (spelling word.Align)) [ inl told ↦ numbered ts one.2 told.1 | inr told ↦ absurd (cc (one.1, told.0)) ])
    ]
  where
    numbered : (us : List (List ℕ)) → StartsNumber us → w ≡ spelling word.Align → IsAttribute (w ∷ take 1 us)
    numbered [] starts same_word = absurd starts
    numbered (u ∷ us) starts same_word = aligned u starts (ap (λ v. v ∷ u ∷ []) same_word)

bracket_is : (w : List ℕ) (ts : List (List ℕ)) (n : ℕ) → IsFree w → suc n ≡ bracketed (spelling word.Open) (spelling word.Close) ts → IsAttribute (w ∷ take (suc n) ts)
bracket_is w ts n h e =
    let told = bracketed_is (spelling word.Open) (spelling word.Close) ts n e in
    called w told.inner h told.balanced (ap (λ us. w ∷ us) told.tokens)

word_is : (w : List ℕ) (ts : List (List ℕ)) (n b : ℕ) → IsFree w → b ≡ bracketed (spelling word.Open) (spelling word.Close) ts →
    n ≡ some_or b (number_joins (bytes_eq w (spelling word.Align)) ts) → IsAttribute (w ∷ take n ts)
word_is w ts n zero h is e = numbers_is w ts n h e
word_is w ts n (suc b) h is e = subst (λ k. IsAttribute (w ∷ take k ts)) (sym (e ∙ some_is b (number_joins (bytes_eq w (spelling word.Align)) ts))) (bracket_is w ts b h is)

string_is : (s : List ℕ) (ts : List (List ℕ)) (n : ℕ) → is_token Quoted s ≡ true → n ≡ string_joins ts → IsAttribute (s ∷ take n ts)
string_is s [] n h e = subst (λ k. IsAttribute (s ∷ take k [])) (sym e) (quoted s h refl)
string_is s (t ∷ []) n h e = subst (λ k. IsAttribute (s ∷ take k (t ∷ []))) (sym e) (quoted s h refl)
string_is s (t ∷ (u ∷ us)) n h e = elim (tells t (spelling word.Equals)) [
  | inl told ↦ by_value (is_token Quoted u) refl told.1 (e ∙ ap (λ b. if b && is_token Quoted u then 2 else 0) told.0)
  | inr told ↦ subst (λ k. IsAttribute (s ∷ take k (t ∷ u ∷ us))) (sym (e ∙ ap (λ b. if b && is_token Quoted u then 2 else 0) told.0)) (quoted s h refl)
]
  where
    by_value : (b : Bool) → is_token Quoted u ≡ b → t ≡ spelling word.Equals → n ≡ (if true && is_token Quoted u then 2 else 0) → IsAttribute (s ∷ take n (t ∷ u ∷ us))
    by_value true f same_word g =
        subst (λ k. IsAttribute (s ∷ take k (t ∷ u ∷ us))) (sym (g ∙ ap (λ b. if true && b then 2 else 0) f)) (paired s u h f (ap (λ v. s ∷ v ∷ u ∷ []) same_word))
    by_value false f same_word g = subst (λ k. IsAttribute (s ∷ take k (t ∷ u ∷ us))) (sym (g ∙ ap (λ b. if true && b then 2 else 0) f)) (quoted s h refl)

as_item : (meta : Bool) (ts : List (List ℕ)) → IsAttribute ts → IsItem meta ts
as_item true ts h = attribute h
as_item false ts h = h

free_parts : (w : List ℕ) → is_free w ≡ true → IsFree w
free_parts w e = by_word (is_word w) refl (list_any (bytes_eq w) reserved) refl e
  where
    by_word : (a : Bool) → is_word w ≡ a → (b : Bool) → list_any (bytes_eq w) reserved ≡ b → (a && (if b then false else true)) ≡ true → IsFree w
    by_word true f false g e = record { a_word = f; allowed = g }
    by_word true f true g e = absurd (cc)
    by_word false f b g e = absurd (cc)

meta_is : (t : List ℕ) (ts : List (List ℕ)) (n : ℕ) → is_token Meta t ≡ true → suc n ≡ meta_joins ts → IsPostItem (t ∷ take n ts)
meta_is t [] n h e = absurd (omega arith)
meta_is t (u ∷ us) n h e = by_second (is_token Meta u) refl e
  where
    by_second : (b : Bool) → is_token Meta u ≡ b → suc n ≡ (if b then 2 else 0) → IsPostItem (t ∷ take n (u ∷ us))
    by_second true f g = let one : n ≡ 1 = omega arith in subst (λ k. IsPostItem (t ∷ take k (u ∷ us))) (sym one) (metadata (record { first = t; second = u; first_is = h; second_is = f; both = refl }))
    by_second false f g = absurd (omega arith)

by_kind : (meta : Bool) (t : List ℕ) (ts : List (List ℕ)) (n : ℕ) (a b c : Bool) → is_free t ≡ a → is_token Quoted t ≡ b → is_token Group t ≡ c → (m : Bool) → is_token Meta t ≡ m →
    (if a then suc (word_joins (bytes_eq t (spelling word.Align)) ts) else (if b then suc (string_joins ts) else (if c then 1 else (if meta && m then meta_joins ts else 0)))) ≡ suc n →
    IsItem meta (t ∷ take n ts)
by_kind meta t ts n true b c f g h m i e = as_item meta (t ∷ take n ts) (word_is t ts n (bracketed (spelling word.Open) (spelling word.Close) ts) (free_parts t f) refl (omega arith))
by_kind meta t ts n false true c f g h m i e = as_item meta (t ∷ take n ts) (string_is t ts n g (omega arith))
by_kind meta t ts n false false true f g h m i e = let none : n ≡ 0 = omega arith in as_item meta (t ∷ take n ts) (subst (λ k. IsAttribute (t ∷ take k ts)) (sym none) (grouped t h refl))
by_kind true t ts n false false false f g h true i e = meta_is t ts n i (sym e)
by_kind true t ts n false false false f g h false i e = absurd (omega arith)
by_kind false t ts n false false false f g h m i e = absurd (omega arith)

pub item_is : (meta : Bool) (ts : List (List ℕ)) (n : ℕ) → item_length meta ts ≡ suc n → IsItem meta (take (suc n) ts)
item_is meta [] n e = absurd (omega arith)
item_is meta (t ∷ ts) n e = by_kind meta t ts n (is_free t) (is_token Quoted t) (is_token Group t) refl refl refl (is_token Meta t) refl e

-- the first token of an item joins nothing before it
pub record Leads (item rest : List (List ℕ)) : Type 0 where
  pub passing : Passing (item ++ rest)
  pub no_number : StartsNumber (item ++ rest) → ⊥
  pub some : 0 < length item

differs : (test : List ℕ → Bool) (s t : List ℕ) → test s ≡ true → test t ≡ false → bytes_eq s t ≡ false
differs test s t passes fails =
    elim (tells s t) [
      | inl told ↦ (let e : test t ≡ true = rw told.1 at passes in absurd (cc))
      | inr told ↦ told.0
    ]

kind_passes : (k : TokenKind) (s : List ℕ) → is_token k s ≡ true → is_token k (spelling word.Open) ≡ false → is_token k (spelling word.Equals) ≡ false → Passes s
kind_passes k s h no_open no_equals = record { no_open = differs (is_token k) s (spelling word.Open) h no_open; no_equals = differs (is_token k) s (spelling word.Equals) h no_equals }

kind_leads : (k : TokenKind) (s : List ℕ) (more rest : List (List ℕ)) → is_token k s ≡ true → is_token k (spelling word.Open) ≡ false → is_token k (spelling word.Equals) ≡ false →
    (k ≡ Number → ⊥) → Leads (s ∷ more) rest
kind_leads k s more rest h no_open no_equals other = record {
  passing = kind_passes k s h no_open no_equals;
  no_number = λ n. (let none : is_number s ≡ false = no_kind k Number s h other in cc);
  some = omega arith;
}

word_leads : (w : List ℕ) (more rest : List (List ℕ)) → is_word w ≡ true → Leads (w ∷ more) rest
unfolding spelling
word_leads w more rest h = kind_leads Word w more rest h refl refl (λ e. cc)

quoted_leads : (s : List ℕ) (more rest : List (List ℕ)) → is_token Quoted s ≡ true → Leads (s ∷ more) rest
unfolding spelling
quoted_leads s more rest h = kind_leads Quoted s more rest h refl refl (λ e. cc)

group_leads : (s : List ℕ) (more rest : List (List ℕ)) → is_token Group s ≡ true → Leads (s ∷ more) rest
unfolding spelling
group_leads s more rest h = kind_leads Group s more rest h refl refl (λ e. cc)

meta_leads : (s : List ℕ) (more rest : List (List ℕ)) → is_token Meta s ≡ true → Leads (s ∷ more) rest
unfolding spelling
meta_leads s more rest h = kind_leads Meta s more rest h refl refl (λ e. cc)

align_word : is_word (spelling word.Align) ≡ true
unfolding spelling
align_word = refl

attribute_leads : (item rest : List (List ℕ)) → IsAttribute item → Leads item rest
attribute_leads item rest (plain w h is) = rw is (word_leads w [] rest h.a_word)
attribute_leads item rest (called w inner h balanced is) = rw is (word_leads w (in_parentheses inner) rest h.a_word)
attribute_leads item rest (aligned n h is) = rw is (word_leads (spelling word.Align) (n ∷ []) rest align_word)
attribute_leads item rest (quoted s h is) = rw is (quoted_leads s [] rest h)
attribute_leads item rest (paired s t h k is) = rw is (quoted_leads s (spelling word.Equals ∷ t ∷ []) rest h)
attribute_leads item rest (grouped g h is) = rw is (group_leads g [] rest h)

pub item_leads : (meta : Bool) (item rest : List (List ℕ)) → IsItem meta item → Leads item rest
item_leads true item rest (attribute h) = attribute_leads item rest h
item_leads true item rest (metadata pair) = rw pair.both (meta_leads pair.first (pair.second ∷ []) rest pair.first_is)
item_leads false item rest h = attribute_leads item rest h

-- what cannot go on, and joins nothing
pub record Stopping (meta : Bool) (rest : List (List ℕ)) : Type 0 where
  pub passing : Passing rest
  pub no_number : StartsNumber rest → ⊥
  pub none : item_length meta rest ≡ 0

begins_none : (meta a x b c m : Bool) (j k l : ℕ) →
    (if a then (if x then Some after_align else Some after_word) else (if b then Some after_string else (if c then Some free else (if meta && m then Some after_meta else None)))) ≡ None →
    (if a then suc j else (if b then suc k else (if c then 1 else (if meta && m then l else 0)))) ≡ 0
begins_none meta true true b c m j k l e = absurd (cc)
begins_none meta true false b c m j k l e = absurd (cc)
begins_none meta false x true c m j k l e = absurd (cc)
begins_none meta false x false true m j k l e = absurd (cc)
begins_none true false x false false true j k l e = absurd (cc)
begins_none true false x false false false j k l e = refl
begins_none false false x false false m j k l e = refl

pub stops_stopping : (meta : Bool) (rest : List (List ℕ)) → Stops meta rest → Stopping meta rest
stops_stopping meta [] stops = record { passing = tt; no_number = λ e. e; none = refl }
stops_stopping meta (t ∷ ts) stops =
    let no_open : opens t ≡ false = false_from_ne_true _ (λ e. let at = stops after_word refl in let is : Some (inside (spelling word.Close ∷ [])) ≡ None = rw e at at in cc) in
    let no_equals : bytes_eq t (spelling word.Equals) ≡ false = false_from_ne_true _ (λ e. let at = stops after_string refl in let is : Some after_equals ≡ None = rw e at at in cc) in
    record {
      passing = record { no_open = no_open; no_equals = no_equals };
      no_number = λ e. (let at = stops after_align refl in let is : Some free ≡ None = rw (no_open, e) at at in cc);
      none = begins_none meta (is_free t) (bytes_eq t (spelling word.Align)) (is_token Quoted t) (is_token Group t) (is_token Meta t)
          (word_joins (bytes_eq t (spelling word.Align)) ts) (string_joins ts) (meta_joins ts) (stops free refl);
    }

-- one token before what joins nothing
single_length : (a b c : Bool) (j k n : ℕ) → j ≡ 0 → k ≡ 0 → (if a then suc j else (if b then suc k else (if c then 1 else 0))) ≡ suc n → n ≡ 0
single_length true b c j k n f g e = omega arith
single_length false true c j k n f g e = omega arith
single_length false false true j k n f g e = omega arith
single_length false false false j k n f g e = absurd (omega arith)

pub one_token : (v : List ℕ) (rest : List (List ℕ)) (n : ℕ) → Stopping false rest → item_length false (v ∷ rest) ≡ suc n → n ≡ 0
one_token v rest n s e =
    let none : word_joins (bytes_eq v (spelling word.Align)) rest ≡ 0 = elim (joins_told (bytes_eq v (spelling word.Align)) rest s.passing) [ inl zero_is ↦ zero_is | inr one ↦ absurd (s.no_number one.1) ] in
    single_length (is_free v) (is_token Quoted v) (is_token Group v) (word_joins (bytes_eq v (spelling word.Align)) rest) (string_joins rest) n none (string_none rest s.passing) e
