-- Types of objects in front of tokens.
use Rattle.std.proofs.Common.{◌≡◌, ℕ, ◌+◌, ◌*◌, ◌-◌, ◌<◌, ◌≤◌, ◌==◌, zero, suc, Bool, true, false, ◌&&◌, if◌then◌else◌, is_some, List, [], ◌∷◌, ◌++◌, Option, Some, None, length, take, drop, get_or, refl, sym, ap, subst, ◌∙◌, inl, inr, append_assoc, arith}
use Rattle.std.specs.Str.{bytes_eq}
use Rattle.std.proofs.lemmas.Bool.{and_parts, eqb-true, eq-eqb}
use Rattle.std.proofs.lemmas.List.{length-append, length-map, drop_at, drop-map, drop_more, drop_all, take_rest, take-map, map-append, take_at, take-append-drop}
use Rattle.ms_lex.specs.Kinds.{is_number}
use Rattle.ms_lex.specs.declared.token.Token.{Token}
use Rattle.ms_ir.specs.declared.names.Ty.{Ty}
use Rattle.ms_ir.specs.declared.names.Ty.TheVariants.{I1, I8, I16, I32, I64, Ptr}
use Rattle.ms_grammar.specs.Words.{spelling, type_word}
use Rattle.ms_grammar.specs.Numbers.{IsCount, is_negative, magnitude}
use Rattle.ms_grammar.specs.Kept.{Each, IsStored, object_tokens, object_sizes, times_first, IsObject}
use Rattle.ms_grammar.specs.Reading.{type_of}
use Rattle.ms_grammar.specs.Parts.{texts, bytes_at}
use Rattle.ms_grammar.specs.declared.keyword.Keyword.TheVariants as word
use Rattle.ms_grammar.proofs.Steps.{tells, same}
use Rattle.ms_grammar.proofs.Words.{type_of_word}
use Rattle.ms_grammar.proofs.Objects.{type_no_square}
use Rattle.ms_line_parts.specs.Sizes.{is_count, opens_array, starts_array, counts_of, with_place, stored_type, closes, ends_object}
use Rattle.ms_line_parts.proofs.Values.{type_of_is}

told : (s t : List ℕ) → bytes_eq s t ≡ true → s ≡ t
told s t e = elim (tells s t) [ inl is ↦ is.1 | inr other ↦ absurd (cc (e, other.0)) ]

both : (a b : Bool) → a ≡ true → b ≡ true → (a && b) ≡ true
both true b e f = f
both false b e f = absurd (cc)

itself : (s : List ℕ) → bytes_eq s s ≡ true
itself s = same s s refl

-- numbers of 0 or more
count_is : (n : List ℕ) → is_count n ≡ true → IsCount (magnitude n) n
count_is n e =
    let x = and_parts (is_number n) (if is_negative n then magnitude n == 0 else true) e in
    record { spelled = x.0; low = λ minus. (let zero_is : (magnitude n == 0) ≡ true = rw minus at x.1 in eqb-true (magnitude n) 0 zero_is); value = refl }

count_there : (n : List ℕ) → IsCount (magnitude n) n → is_count n ≡ true
count_there n h = both _ _ h.spelled (by_sign (is_negative n) refl)
  where
    by_sign : (b : Bool) → is_negative n ≡ b → (if b then magnitude n == 0 else true) ≡ true
    by_sign true e = eq-eqb (magnitude n) 0 (h.low e)
    by_sign false e = refl

-- the tokens that open arrays, and those that close them
abbrev pub openings : List (List ℕ) → List (List ℕ)
openings [] = []
openings (n ∷ ns) = spelling word.OpenSquare ∷ n ∷ spelling word.Times ∷ openings ns

abbrev pub closings : ℕ → List (List ℕ)
closings zero = []
closings (suc k) = spelling word.CloseSquare ∷ closings k

push_closing : (k : ℕ) → closings k ++ spelling word.CloseSquare ∷ [] ≡ spelling word.CloseSquare ∷ closings k
push_closing zero = refl
push_closing (suc k) = ap (λ us. spelling word.CloseSquare ∷ us) (push_closing k)

pub flat : (ns : List (List ℕ)) (ty : Ty) → object_tokens ns ty ≡ openings ns ++ type_word ty ∷ closings (length ns)
flat [] ty = refl
flat (n ∷ ns) ty =
    ap (λ us. spelling word.OpenSquare ∷ n ∷ spelling word.Times ∷ us)
    (ap (λ us. us ++ spelling word.CloseSquare ∷ []) (flat ns ty) ∙ append_assoc (openings ns) (type_word ty ∷ closings (length ns)) (spelling word.CloseSquare ∷ [])
    ∙ ap (λ us. openings ns ++ type_word ty ∷ us) (push_closing (length ns)))

openings_length : (ns : List (List ℕ)) → length (openings ns) ≡ 3 * length ns
openings_length [] = refl
openings_length (n ∷ ns) = let below = openings_length ns in omega (arith, below)

closings_length : (k : ℕ) → length (closings k) ≡ k
closings_length zero = refl
closings_length (suc k) = ap suc (closings_length k)

-- the counts in front of an array's member
other_first : (t : List ℕ) (ts : List (List ℕ)) → bytes_eq t (spelling word.OpenSquare) ≡ false → counts_of (t ∷ ts) ≡ []
other_first t [] e = refl
other_first t (a ∷ []) e = refl
other_first t (a ∷ (b ∷ us)) e = ap (λ c. if c && (is_count a && bytes_eq b (spelling word.Times)) then a ∷ counts_of us else []) e

pub opens_there : (n : List ℕ) → IsCount (magnitude n) n → opens_array (spelling word.OpenSquare) n (spelling word.Times) ≡ true
opens_there n h = both _ _ (itself (spelling word.OpenSquare)) (both _ _ (count_there n h) (itself (spelling word.Times)))

pub counts_there : (ns : List (List ℕ)) (t : List ℕ) (ts : List (List ℕ)) → Each (λ n. IsCount (magnitude n) n) ns → bytes_eq t (spelling word.OpenSquare) ≡ false → counts_of (openings ns ++ t ∷ ts) ≡ ns
counts_there [] t ts each e = other_first t ts e
counts_there (n ∷ ns) t ts each e =
    ap (λ b. if b then n ∷ counts_of (openings ns ++ t ∷ ts) else []) (opens_there n each.0) ∙ ap (λ ms. n ∷ ms) (counts_there ns t ts each.1 e)

-- the tokens of counts
pub record Counted (ts : List (List ℕ)) : Type 0 where
  pub each : Each (λ n. IsCount (magnitude n) n) (counts_of ts)
  pub cut : ts ≡ openings (counts_of ts) ++ drop (3 * length (counts_of ts)) ts

none_counted : (ts : List (List ℕ)) → counts_of ts ≡ [] → Counted ts
none_counted ts e = record {
  each = subst (λ ns. Each (λ n. IsCount (magnitude n) n) ns) (sym e) tt;
  cut = sym (ap (λ ns. openings ns ++ drop (3 * length ns) ts) e);
}

counted_step : (o n x : List ℕ) (ts : List (List ℕ)) (b : Bool) → opens_array o n x ≡ b → Counted ts → Counted (o ∷ n ∷ x ∷ ts)
counted_step o n x ts false e below = none_counted (o ∷ n ∷ x ∷ ts) (ap (λ c. if c then n ∷ counts_of ts else []) e)
counted_step o n x ts true e below =
    let parts = and_parts (bytes_eq o (spelling word.OpenSquare)) (is_count n && bytes_eq x (spelling word.Times)) e in
    let more = and_parts (is_count n) (bytes_eq x (spelling word.Times)) parts.1 in
    let counts : counts_of (o ∷ n ∷ x ∷ ts) ≡ n ∷ counts_of ts = ap (λ c. if c then n ∷ counts_of ts else []) e in
    let three : 3 * suc (length (counts_of ts)) ≡ suc (suc (suc (3 * length (counts_of ts)))) = omega arith in
    let left : drop (3 * suc (length (counts_of ts))) (o ∷ n ∷ x ∷ ts) ≡ drop (3 * length (counts_of ts)) ts = ap (λ k. drop k (o ∷ n ∷ x ∷ ts)) three in
    record {
      each = subst (λ ns. Each (λ m. IsCount (magnitude m) m) ns) (sym counts) (count_is n more.0, below.each);
      cut = ap (λ us. o ∷ n ∷ x ∷ us) below.cut ∙ ap (λ s. s ∷ n ∷ x ∷ openings (counts_of ts) ++ drop (3 * length (counts_of ts)) ts) (told o _ parts.0)
          ∙ ap (λ s. spelling word.OpenSquare ∷ n ∷ s ∷ openings (counts_of ts) ++ drop (3 * length (counts_of ts)) ts) (told x _ more.1)
          ∙ ap (λ us. openings (n ∷ counts_of ts) ++ us) (sym left)
          ∙ ap (λ ns. openings ns ++ drop (3 * length ns) (o ∷ n ∷ x ∷ ts)) (sym counts);
    }

pub counted : (ts : List (List ℕ)) → Counted ts
counted [] = none_counted [] refl
counted (o ∷ []) = none_counted (o ∷ []) refl
counted (o ∷ (n ∷ [])) = none_counted (o ∷ n ∷ []) refl
counted (o ∷ (n ∷ (x ∷ ts))) = counted_step o n x ts (opens_array o n x) refl (counted ts)

-- the loop over the arrays
pub array_more : (ts : List (List ℕ)) → starts_array ts ≡ true → length (counts_of ts) ≡ suc (length (counts_of (drop 3 ts)))
array_more [] e = absurd (cc)
array_more (o ∷ []) e = absurd (cc)
array_more (o ∷ (n ∷ [])) e = absurd (cc)
array_more (o ∷ (n ∷ (x ∷ ts))) e = ap (λ c. length (if c then n ∷ counts_of ts else [])) e

pub array_none : (ts : List (List ℕ)) → starts_array ts ≡ false → length (counts_of ts) ≡ 0
array_none [] e = refl
array_none (o ∷ []) e = refl
array_none (o ∷ (n ∷ [])) e = refl
array_none (o ∷ (n ∷ (x ∷ ts))) e = ap (λ c. length (if c then n ∷ counts_of ts else [])) e

-- closing brackets
pub closes_there : (k : ℕ) (ts : List (List ℕ)) → closes k (closings k ++ ts) ≡ true
closes_there zero ts = refl
closes_there (suc k) ts = both _ _ (itself (spelling word.CloseSquare)) (closes_there k ts)

pub record Closed (k : ℕ) (ts : List (List ℕ)) : Type 0 where
  pub within : k ≤ length ts
  pub tokens : take k ts ≡ closings k

pub closes_is : (k : ℕ) (ts : List (List ℕ)) → closes k ts ≡ true → Closed k ts
closes_is zero ts e = record { within = omega arith; tokens = refl }
closes_is (suc k) [] e = absurd (cc)
closes_is (suc k) (t ∷ ts) e =
    let parts = and_parts (bytes_eq t (spelling word.CloseSquare)) (closes k ts) e in
    let below = closes_is k ts parts.1 in
    record { within = omega (arith, below.within); tokens = ap (λ s. s ∷ take k ts) (told t _ parts.0) ∙ ap (λ us. spelling word.CloseSquare ∷ us) below.tokens }

-- the types with a place in memory
pub stored_there : (ty : Ty) → IsStored ty → stored_type (type_word ty) ≡ Some ty
stored_there ty h = ap with_place (type_of_word ty) ∙ by_type ty h
  where
    by_type : (ty : Ty) → IsStored ty → with_place (Some ty) ≡ Some ty
    by_type I1 h = absurd (omega arith)
    by_type I8 h = refl
    by_type I16 h = refl
    by_type I32 h = refl
    by_type I64 h = refl
    by_type Ptr h = absurd (omega arith)

pub record Stored (s : List ℕ) (ty : Ty) : Type 0 where
  pub word_is : s ≡ type_word ty
  pub stored : IsStored ty

pub stored_is : (s : List ℕ) (ty : Ty) → stored_type s ≡ Some ty → Stored s ty
stored_is s ty e = by_type (type_of s) refl e
  where
    by_type : (o : Option Ty) → type_of s ≡ o → with_place o ≡ Some ty → Stored s ty
    by_type None f g = absurd (cc)
    by_type (Some I1) f g = absurd (cc)
    by_type (Some Ptr) f g = absurd (cc)
    by_type (Some I8) f g = let same_type : I8 ≡ ty = cc in subst (λ t. Stored s t) same_type (record { word_is = type_of_is s I8 f; stored = omega arith })
    by_type (Some I16) f g = let same_type : I16 ≡ ty = cc in subst (λ t. Stored s t) same_type (record { word_is = type_of_is s I16 f; stored = omega arith })
    by_type (Some I32) f g = let same_type : I32 ≡ ty = cc in subst (λ t. Stored s t) same_type (record { word_is = type_of_is s I32 f; stored = omega arith })
    by_type (Some I64) f g = let same_type : I64 ≡ ty = cc in subst (λ t. Stored s t) same_type (record { word_is = type_of_is s I64 f; stored = omega arith })

-- an object is read in front
pub record Front (ts : List (List ℕ)) (k : ℕ) : Type 0 where
  pub within : 4 * k + 1 ≤ length ts
  pub sizes : List ℕ
  pub is : IsObject sizes (take (4 * k + 1) ts)

front_of : (ts : List (List ℕ)) (t : List ℕ) (rest : List (List ℕ)) (ty : Ty) → drop (3 * length (counts_of ts)) ts ≡ t ∷ rest → stored_type t ≡ Some ty → closes (length (counts_of ts)) rest ≡ true → Front ts (length (counts_of ts))
front_of ts t rest ty left stored closing =
    let ns = counts_of ts in
    let k = length ns in
    let cells = counted ts in
    let closed = closes_is k rest closing in
    let member = stored_is t ty stored in
    let whole : ts ≡ openings ns ++ t ∷ rest = cells.cut ∙ ap (λ us. openings ns ++ us) left in
    let split : rest ≡ closings k ++ drop k rest = sym (take-append-drop k rest) ∙ ap (λ us. us ++ drop k rest) closed.tokens in
    let tokens : ts ≡ object_tokens ns ty ++ drop k rest =
    whole ∙ ap (λ us. openings ns ++ t ∷ us) split ∙ ap (λ s. openings ns ++ (s ∷ (closings k ++ drop k rest))) member.word_is
    ∙ sym (append_assoc (openings ns) (type_word ty ∷ closings k) (drop k rest)) ∙ ap (λ us. us ++ drop k rest) (sym (flat ns ty)) in
    let long : length (object_tokens ns ty) ≡ 4 * k + 1 =
    ap length (flat ns ty) ∙ length-append (openings ns) (type_word ty ∷ closings k) ∙ omega (arith, openings_length ns, closings_length k) in
    record {
      within = omega (arith, long, ap length tokens ∙ length-append (object_tokens ns ty) (drop k rest));
      sizes = object_sizes ns ty;
      is = record { counts = ns; member = ty; are_counts = cells.each; stored = member.stored; tokens = ap (take (4 * k + 1)) tokens ∙ take_at (object_tokens ns ty) (drop k rest) (4 * k + 1) long; sized = refl };
    }

pub front_is : (ts : List (List ℕ)) (t : List ℕ) (rest : List (List ℕ)) (k : ℕ) → k ≡ length (counts_of ts) → drop (3 * k) ts ≡ t ∷ rest → is_some (stored_type t) ≡ true → closes k rest ≡ true → Front ts k
front_is ts t rest k e left stored closing =
    subst (λ j. Front ts j) (sym e) (by_type (stored_type t) refl stored)
  where
    by_type : (o : Option Ty) → stored_type t ≡ o → is_some o ≡ true → Front ts (length (counts_of ts))
    by_type None f g = absurd (cc)
    by_type (Some ty) f g = front_of ts t rest ty (ap (λ j. drop (3 * j) ts) (sym e) ∙ left) f (ap (λ j. closes j rest) (sym e) ∙ closing)

-- an object that stands in front
pub record There (ts : List (List ℕ)) (run : List (List ℕ)) : Type 0 where
  pub ty : Ty
  pub rest : List (List ℕ)
  pub stored : IsStored ty
  pub left : drop (3 * length (counts_of ts)) ts ≡ type_word ty ∷ rest
  pub closing : closes (length (counts_of ts)) rest ≡ true
  pub long : length run ≡ 4 * length (counts_of ts) + 1

pub type_square : (ty : Ty) → bytes_eq (type_word ty) (spelling word.OpenSquare) ≡ false
type_square ty = elim (tells (type_word ty) (spelling word.OpenSquare)) [ inl is ↦ absurd (type_no_square ty is.1) | inr other ↦ other.0 ]

pub front_there : (ts run rest : List (List ℕ)) (sizes : List ℕ) → ts ≡ run ++ rest → IsObject sizes run → There ts run
front_there ts run rest sizes cut h =
    let ns = h.counts in
    let tail = closings (length ns) ++ rest in
    let whole : ts ≡ openings ns ++ type_word h.member ∷ tail =
    cut ∙ ap (λ us. us ++ rest) (h.tokens ∙ flat ns h.member) ∙ append_assoc (openings ns) (type_word h.member ∷ closings (length ns)) rest in
    let counts : counts_of ts ≡ ns = ap counts_of whole ∙ counts_there ns (type_word h.member) tail h.are_counts (type_square h.member) in
    let left : drop (3 * length ns) ts ≡ type_word h.member ∷ tail = ap (drop (3 * length ns)) whole ∙ drop_at (openings ns) (type_word h.member ∷ tail) (3 * length ns) (openings_length ns) in
    let long : length run ≡ 4 * length ns + 1 =
    ap length (h.tokens ∙ flat ns h.member) ∙ length-append (openings ns) (type_word h.member ∷ closings (length ns)) ∙ omega (arith, openings_length ns, closings_length (length ns)) in
    record {
      ty = h.member;
      rest = tail;
      stored = h.stored;
      left = subst (λ ms. drop (3 * length ms) ts ≡ type_word h.member ∷ tail) (sym counts) left;
      closing = subst (λ ms. closes (length ms) tail ≡ true) (sym counts) (closes_there (length ns) rest);
      long = subst (λ ms. length run ≡ 4 * length ms + 1) (sym counts) long;
    }

-- the tokens behind the arrays, as a slice has them
pub behind_arrays : (line : List ℕ) (tokens : List Token) (n : ℕ) → drop n (texts line tokens) ≡ texts line (take (length tokens - n) (drop n tokens))
behind_arrays line tokens n = drop-map (bytes_at line) n tokens ∙ ap (texts line) (sym (take_rest tokens n))

-- the turns of the loop over closing brackets
pub closes_step : (line : List ℕ) (tokens : List Token) (i k : ℕ) (d : Token) → i < length tokens → i < k →
    closes (k - i) (texts line (drop i tokens)) ≡ (bytes_eq (bytes_at line (get_or tokens i d)) (spelling word.CloseSquare) && closes (k - (i + 1)) (texts line (drop (i + 1) tokens)))
closes_step line tokens i k d within below =
    let one : k - i ≡ suc (k - (i + 1)) = omega arith in
    ap (λ j. closes j (texts line (drop i tokens))) one ∙ ap (λ ts. closes (suc (k - (i + 1))) (texts line ts)) (drop_more tokens i d within)

pub closes_out : (line : List ℕ) (tokens : List Token) (i k : ℕ) → length tokens ≤ i → i < k → closes (k - i) (texts line (drop i tokens)) ≡ false
closes_out line tokens i k out below =
    let one : k - i ≡ suc (k - (i + 1)) = omega arith in
    ap (λ j. closes j (texts line (drop i tokens))) one ∙ ap (λ ts. closes (suc (k - (i + 1))) (texts line ts)) (drop_all i tokens out)

pub closes_end : (line : List ℕ) (ts : List (List ℕ)) (k : ℕ) → closes (k - k) ts ≡ true
closes_end line ts k = let none : k - k ≡ 0 = omega arith in ap (λ j. closes j ts) none

-- the clauses of an object in front
front_by : (ts us : List (List ℕ)) (k : ℕ) → k ≡ length (counts_of ts) → drop (3 * k) ts ≡ us → ends_object k us ≡ true → Front ts k
front_by ts [] k e left ends_there = absurd (cc)
front_by ts (t ∷ us) k e left ends_there = let parts = and_parts (is_some (stored_type t)) (closes k us) ends_there in front_is ts t us k e left parts.0 parts.1

pub object_is : (line : List ℕ) (tokens : List Token) (k : ℕ) (r : Bool) → k ≡ length (counts_of (texts line tokens)) →
    r ≡ ends_object k (texts line (take (length tokens - 3 * k) (drop (3 * k) tokens))) → r ≡ true →
    (4 * k + 1 ≤ length tokens) × (sizes : List ℕ) × IsObject sizes (texts line (take (4 * k + 1) tokens))
object_is line tokens k r e told_is holds =
    let front = front_by (texts line tokens) _ k e (behind_arrays line tokens (3 * k)) (sym told_is ∙ holds) in
    (omega (arith, front.within, length-map tokens (bytes_at line)), front.sizes, subst (λ us. IsObject front.sizes us) (take-map (bytes_at line) (4 * k + 1) tokens) front.is)

object_there : (line : List ℕ) (tokens run rest : List Token) (sizes : List ℕ) → tokens ≡ run ++ rest → IsObject sizes (texts line run) → There (texts line tokens) (texts line run)
object_there line tokens run rest sizes cut h = front_there (texts line tokens) (texts line run) (texts line rest) sizes (ap (texts line) cut ∙ map-append (bytes_at line) run rest) h

pub object_whole : (line : List ℕ) (tokens run rest : List Token) (sizes : List ℕ) (k : ℕ) → k ≡ length (counts_of (texts line tokens)) → tokens ≡ run ++ rest → IsObject sizes (texts line run) → 4 * k + 1 ≡ length run
object_whole line tokens run rest sizes k e cut h =
    let there = object_there line tokens run rest sizes cut h in
    ap (λ j. 4 * j + 1) e ∙ sym there.long ∙ length-map run (bytes_at line)

pub object_none : (line : List ℕ) (tokens : List Token) (k : ℕ) (r : Bool) → k ≡ length (counts_of (texts line tokens)) →
    r ≡ ends_object k (texts line (take (length tokens - 3 * k) (drop (3 * k) tokens))) → r ≡ false →
    (run rest : List Token) (sizes : List ℕ) → tokens ≡ run ++ rest → IsObject sizes (texts line run) → ⊥
object_none line tokens k r e told_is fails run rest sizes cut h =
    let there = object_there line tokens run rest sizes cut h in
    let left : texts line (take (length tokens - 3 * k) (drop (3 * k) tokens)) ≡ type_word there.ty ∷ there.rest =
    sym (behind_arrays line tokens (3 * k)) ∙ ap (λ j. drop (3 * j) (texts line tokens)) e ∙ there.left in
    let there_is : ends_object k (type_word there.ty ∷ there.rest) ≡ true =
    both _ _ (ap is_some (stored_there there.ty there.stored)) (ap (λ j. closes j there.rest) e ∙ there.closing) in
    let all : r ≡ true = told_is ∙ ap (ends_object k) left ∙ there_is in
    cc

-- how many tokens the type of an object has, and how many sizes
pub object_lengths : (ns : List (List ℕ)) (ty : Ty) → (length (object_tokens ns ty) ≡ 4 * length ns + 1) × (length (object_sizes ns ty) ≡ length ns + 1)
object_lengths ns ty =
    (ap length (flat ns ty) ∙ length-append (openings ns) (type_word ty ∷ closings (length ns)) ∙ omega (arith, openings_length ns, closings_length (length ns)), sizes_length ns ty)
  where
    times_length : (n : ℕ) (sizes : List ℕ) (k : ℕ) → length sizes ≡ suc k → length (times_first n sizes) ≡ suc (suc k)
    times_length n [] k e = absurd (omega arith)
    times_length n (size ∷ sizes) k e = ap suc e

    some_sizes : (ns : List (List ℕ)) → length ns + 1 ≡ suc (length ns)
    some_sizes ns = omega arith

    sizes_length : (ns : List (List ℕ)) (ty : Ty) → length (object_sizes ns ty) ≡ length ns + 1
    sizes_length [] ty = refl
    sizes_length (n ∷ ns) ty =
        times_length (magnitude n) (object_sizes ns ty) (length ns) (sizes_length ns ty ∙ some_sizes ns) ∙ sym (some_sizes (n ∷ ns))
