-- What sizes come to, with all that is too large as one number.
use Rattle.std.proofs.Common.{◌≡◌, ℕ, ◌+◌, ◌*◌, ◌-◌, ◌^◌, ◌<◌, ◌≤◌, zero, suc, Bool, true, false, ◌&&◌, if◌then◌else◌, List, [], ◌∷◌, ◌++◌, Some, None, length, drop, refl, sym, ap, ◌∙◌, inl, inr, arith}
use Rattle.std.proofs.lemmas.Bool.{cases_lt}
use Rattle.std.specs.Str.{bytes_eq}
use Rattle.ms_ir.specs.declared.names.Ty.{Ty}
use Rattle.ms_grammar.specs.Words.{spelling, type_word}
use Rattle.ms_grammar.specs.Numbers.{IsCount, bytes_of, magnitude}
use Rattle.ms_grammar.specs.Kept.{Each, IsStored, object_sizes, times_first, IsObject}
use Rattle.ms_grammar.specs.declared.keyword.Keyword.TheVariants as word
use Rattle.ms_line_parts.specs.Sizes.{is_count, opens_array, stored_type, bytes_with, size_times, cut, array_count, first_bytes}
use Rattle.ms_line_parts.proofs.Sizing.{openings, closings, flat, opens_there, type_square, stored_there}

-- equal up to the largest number
grows : (a m : ℕ) → 0 < m → a ≤ a * m
grows a zero h = absurd (omega arith)
grows a (suc m) h = let whole : a * suc m ≡ a + a * m = grind arith in omega (arith, whole)

times_zero : (a : ℕ) → a * 0 ≡ 0
times_zero a = omega arith

pub cut_times : (a b m : ℕ) → cut a ≡ cut b → cut (a * m) ≡ cut (b * m)
cut_times a b zero e = ap cut (times_zero a ∙ sym (times_zero b))
cut_times a b (suc m) e = elim (cases_lt a (2 ^ 128 - 1)) [
  | inl less ↦ (let same : a ≡ b = omega (arith, e, less) in ap (λ n. cut (n * suc m)) same)
  | inr more ↦
      let a_grows = grows a (suc m) (omega arith) in
      let b_grows = grows b (suc m) (omega arith) in
      omega (arith, e, more, a_grows, b_grows)
]

pub swap : (a b : ℕ) → a * b ≡ b * a
swap a b = grind arith

pub cut_again : (n m : ℕ) → cut (cut (n * cut m)) ≡ cut (n * m)
cut_again n m =
    let inner : cut (cut m) ≡ cut m = omega arith in
    let outer : cut (cut (n * cut m)) ≡ cut (n * cut m) = omega arith in
    outer ∙ ap cut (swap n (cut m)) ∙ cut_times (cut m) m n inner ∙ ap cut (swap m n)

pub cut_size : (a b : ℕ) (ts : List (List ℕ)) → cut a ≡ cut b → cut (size_times a ts) ≡ cut (size_times b ts)
cut_size a b [] e = refl
cut_size a b (o ∷ []) e = cut_times a b (bytes_with (stored_type o)) e
cut_size a b (o ∷ (c ∷ [])) e = cut_times a b (bytes_with (stored_type o)) e
cut_size a b (o ∷ (c ∷ (x ∷ ts))) e = by_array (opens_array o c x) (cut_size (a * magnitude c) (b * magnitude c) ts (cut_times a b (magnitude c) e))
  where
    by_array : (t : Bool) → cut (size_times (a * magnitude c) ts) ≡ cut (size_times (b * magnitude c) ts) →
        cut (if t then size_times (a * magnitude c) ts else a * bytes_with (stored_type o)) ≡ cut (if t then size_times (b * magnitude c) ts else b * bytes_with (stored_type o))
    by_array true below = below
    by_array false below = cut_times a b (bytes_with (stored_type o)) e

-- the loop over the arrays
pub size_more : (n c : ℕ) (ts : List (List ℕ)) → array_count ts ≡ Some c → cut (size_times n ts) ≡ cut (size_times (cut (n * c)) (drop 3 ts))
size_more n c [] e = absurd (cc)
size_more n c (o ∷ []) e = absurd (cc)
size_more n c (o ∷ (m ∷ [])) e = absurd (cc)
size_more n c (o ∷ (m ∷ (x ∷ ts))) e = by_array (opens_array o m x) e
  where
    by_array : (t : Bool) → (if t then Some (cut (magnitude m)) else None) ≡ Some c →
        cut (if t then size_times (n * magnitude m) ts else n * bytes_with (stored_type o)) ≡ cut (size_times (cut (n * c)) ts)
    by_array true f =
        let count : cut (magnitude m) ≡ c = cc in
        sym (cut_size (cut (n * c)) (n * magnitude m) ts (ap (λ k. cut (cut (n * k))) (sym count) ∙ cut_again n (magnitude m)))
    by_array false f = absurd (cc)

pub size_end : (n : ℕ) (ts : List (List ℕ)) → array_count ts ≡ None → size_times n ts ≡ n * first_bytes ts
size_end n [] e = sym (times_zero n)
size_end n (o ∷ []) e = refl
size_end n (o ∷ (m ∷ [])) e = refl
size_end n (o ∷ (m ∷ (x ∷ ts))) e = by_array (opens_array o m x) e
  where
    by_array : (t : Bool) → (if t then Some (cut (magnitude m)) else None) ≡ None →
        (if t then size_times (n * magnitude m) ts else n * bytes_with (stored_type o)) ≡ n * bytes_with (stored_type o)
    by_array true f = absurd (cc)
    by_array false f = refl

-- the bytes of an object
unfoldable pub total : List (List ℕ) → Ty → ℕ
total [] ty = bytes_of ty
total (n ∷ ns) ty = magnitude n * total ns ty

member_size : (n : ℕ) (ty : Ty) (ts : List (List ℕ)) → IsStored ty → size_times n (type_word ty ∷ ts) ≡ n * bytes_of ty
member_size n ty ts stored = by_tokens ts ∙ ap (λ o. n * bytes_with o) (stored_there ty stored)
  where
    by_tokens : (ts : List (List ℕ)) → size_times n (type_word ty ∷ ts) ≡ n * bytes_with (stored_type (type_word ty))
    by_tokens [] = refl
    by_tokens (c ∷ []) = refl
    by_tokens (c ∷ (x ∷ us)) =
        ap (λ b. if b && (is_count c && bytes_eq x (spelling word.Times)) then size_times (n * magnitude c) us else n * bytes_with (stored_type (type_word ty))) (type_square ty)

size_there : (n : ℕ) (ns : List (List ℕ)) (ty : Ty) (ts : List (List ℕ)) → Each (λ m. IsCount (magnitude m) m) ns → IsStored ty → size_times n (openings ns ++ type_word ty ∷ ts) ≡ n * total ns ty
unfolding total
size_there n [] ty ts each stored = member_size n ty ts stored
size_there n (m ∷ ns) ty ts each stored =
    ap (λ b. if b then size_times (n * magnitude m) (openings ns ++ type_word ty ∷ ts) else n * bytes_with (stored_type (spelling word.OpenSquare))) (opens_there m each.0)
    ∙ size_there (n * magnitude m) ns ty ts each.1 stored ∙ regroup n (magnitude m) (total ns ty)
  where
    regroup : (a b c : ℕ) → a * b * c ≡ a * (b * c)
    regroup a b c = grind arith

-- the sizes of an object, its own first
pub record Sizes (ns : List (List ℕ)) (ty : Ty) : Type 0 where
  pub rest : List ℕ
  pub is : object_sizes ns ty ≡ total ns ty ∷ rest

pub sizes_of : (ns : List (List ℕ)) (ty : Ty) → Sizes ns ty
unfolding total
sizes_of [] ty = record { rest = []; is = refl }
sizes_of (n ∷ ns) ty = let below = sizes_of ns ty in record { rest = total ns ty ∷ below.rest; is = ap (times_first (magnitude n)) below.is }

one_times : (n : ℕ) → 1 * n ≡ n
one_times n = omega arith

first_of : (a b : ℕ) (s t : List ℕ) → a ∷ s ≡ b ∷ t → a ≡ b
first_of a b s t e = cc

pub object_total : (ts : List (List ℕ)) (size : ℕ) (sizes : List ℕ) → IsObject (size ∷ sizes) ts → size_times 1 ts ≡ size
object_total ts size sizes h =
    let below = sizes_of h.counts h.member in
    ap (size_times 1) (h.tokens ∙ flat h.counts h.member) ∙ size_there 1 h.counts h.member (closings (length h.counts)) h.are_counts h.stored ∙ one_times (total h.counts h.member)
    ∙ sym (first_of size (total h.counts h.member) sizes below.rest (h.sized ∙ below.is))
