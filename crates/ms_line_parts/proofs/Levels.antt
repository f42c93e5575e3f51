-- The bytes of the levels of a type.
use Rattle.std.proofs.Common.{◌≡◌, Result, Ok, Err, ℕ, ◌*◌, Bool, true, false, ◌&&◌, if◌then◌else◌, List, [], ◌∷◌, ◌++◌, Some, None, map, reverse, length, drop, refl, sym, ap, ◌∙◌, arith}
use Rattle.std.specs.Str.{bytes_eq}
use Rattle.std.specs.Prelude.{IfOk}
use Rattle.std.proofs.lemmas.List.{reverse-append, append_assoc}
use Rattle.ms_ir.specs.declared.names.Ty.{Ty}
use Rattle.ms_ir.specs.declared.names.Ty.TheVariants.{I1, I8, I16, I32, I64, Ptr}
use Rattle.ms_grammar.specs.Words.{spelling, type_word}
use Rattle.ms_grammar.specs.Numbers.{IsCount, bytes_of, magnitude}
use Rattle.ms_grammar.specs.Kept.{Each, IsStored, object_sizes, times_first, IsObject}
use Rattle.ms_grammar.specs.declared.keyword.Keyword.TheVariants as word
use Rattle.ms_line_parts.specs.Sizes.{is_count, opens_array, stored_type, bytes_with, cut, array_count, first_bytes, array_counts, member_bytes, scaled, scales}
use Rattle.ms_line_parts.proofs.Sizing.{openings, closings, flat, opens_there, type_square, stored_there}
use Rattle.ms_line_parts.proofs.Totals.{cut_times, swap}

-- one turn of the loop over the arrays, and its end
pub record Turn (c : ℕ) (ts : List (List ℕ)) : Type 0 where
  pub counts : array_counts ts ≡ c ∷ array_counts (drop 3 ts)
  pub bytes : member_bytes ts ≡ member_bytes (drop 3 ts)

pub turn : (c : ℕ) (ts : List (List ℕ)) → array_count ts ≡ Some c → Turn c ts
turn c [] e = absurd (cc)
turn c (o ∷ []) e = absurd (cc)
turn c (o ∷ (n ∷ [])) e = absurd (cc)
turn c (o ∷ (n ∷ (x ∷ ts))) e = by_array (opens_array o n x) refl e
  where
    by_array : (t : Bool) → opens_array o n x ≡ t → (if t then Some (cut (magnitude n)) else None) ≡ Some c → Turn c (o ∷ n ∷ x ∷ ts)
    by_array true f g =
        let count : cut (magnitude n) ≡ c = cc in
        record {
          counts = ap (λ b. if b then cut (magnitude n) ∷ array_counts ts else []) f ∙ ap (λ k. k ∷ array_counts ts) count;
          bytes = ap (λ b. if b then member_bytes ts else first_bytes (o ∷ n ∷ x ∷ ts)) f;
        }
    by_array false f g = absurd (cc)

pub record Over (ts : List (List ℕ)) : Type 0 where
  pub counts : array_counts ts ≡ []
  pub bytes : member_bytes ts ≡ first_bytes ts

pub over : (ts : List (List ℕ)) → array_count ts ≡ None → Over ts
over [] e = record { counts = refl; bytes = refl }
over (o ∷ []) e = record { counts = refl; bytes = refl }
over (o ∷ (n ∷ [])) e = record { counts = refl; bytes = refl }
over (o ∷ (n ∷ (x ∷ ts))) e = by_array (opens_array o n x) refl e
  where
    by_array : (t : Bool) → opens_array o n x ≡ t → (if t then Some (cut (magnitude n)) else None) ≡ None → Over (o ∷ n ∷ x ∷ ts)
    by_array true f g = absurd (cc)
    by_array false f g = record {
      counts = ap (λ b. if b then cut (magnitude n) ∷ array_counts ts else []) f;
      bytes = ap (λ b. if b then member_bytes ts else first_bytes (o ∷ n ∷ x ∷ ts)) f;
    }

-- the levels from within
pub record Scaled (counts left sizes : List ℕ) (bytes size : ℕ) : Type 0 where
  pub done : List ℕ
  pub more : List ℕ
  pub whole : counts ≡ left ++ done
  pub last : scales bytes done ≡ size ∷ more
  pub sizes_are : reverse sizes ≡ size ∷ more

pub scaled_first : (counts sizes : List ℕ) (bytes : ℕ) → sizes ≡ bytes ∷ [] → counts ≡ counts ++ [] → Scaled counts counts sizes bytes bytes
scaled_first counts sizes bytes e whole = record { done = []; more = []; whole = whole; last = refl; sizes_are = ap reverse e }

pub scaled_more : (counts left kept sizes now : List ℕ) (bytes size count next : ℕ) → Scaled counts left sizes bytes size → left ≡ kept ++ count ∷ [] → next ≡ cut (size * count) → now ≡ sizes ++ next ∷ [] →
    Scaled counts kept now bytes next
scaled_more counts left kept sizes now bytes size count next s pop e push = record {
  done = count ∷ s.done;
  more = size ∷ s.more;
  whole = s.whole ∙ ap (λ l. l ++ s.done) pop ∙ append_assoc kept (count ∷ []) s.done;
  last = ap (scaled count) s.last ∙ ap (λ n. n ∷ size ∷ s.more) (sym e);
  sizes_are = ap reverse push ∙ reverse-append sizes (next ∷ []) ∙ ap (λ l. next ∷ l) s.sizes_are;
}

pub scaled_end : (counts left sizes : List ℕ) (bytes size : ℕ) → Scaled counts left sizes bytes size → left ≡ [] → reverse sizes ≡ scales bytes counts
scaled_end counts left sizes bytes size s e =
    let all : counts ≡ s.done = s.whole ∙ ap (λ l. l ++ s.done) e in
    s.sizes_are ∙ sym s.last ∙ ap (scales bytes) (sym all)

-- the levels of an object
cut_bytes : (ty : Ty) → bytes_of ty ≡ cut (bytes_of ty)
cut_bytes I1 = refl
cut_bytes I8 = refl
cut_bytes I16 = refl
cut_bytes I32 = refl
cut_bytes I64 = refl
cut_bytes Ptr = refl

cut_cut : (s : ℕ) → cut (cut s) ≡ cut s
cut_cut s = omega arith

product : (s m : ℕ) → cut (cut s * cut m) ≡ cut (m * s)
product s m =
    cut_times (cut s) s (cut m) (cut_cut s) ∙ ap cut (swap s (cut m)) ∙ cut_times (cut m) m s (cut_cut m)

level : (m : ℕ) (sizes : List ℕ) → scaled (cut m) (map cut sizes) ≡ map cut (times_first m sizes)
level m [] = refl
level m (s ∷ sizes) = ap (λ n. n ∷ cut s ∷ map cut sizes) (product s m)

levels_by : (ns : List (List ℕ)) (ty : Ty) → scales (bytes_of ty) (map (λ n. cut (magnitude n)) ns) ≡ map cut (object_sizes ns ty)
levels_by [] ty = ap (λ n. n ∷ []) (cut_bytes ty)
levels_by (n ∷ ns) ty = ap (scaled (cut (magnitude n))) (levels_by ns ty) ∙ level (magnitude n) (object_sizes ns ty)

no_counts : (ty : Ty) (ts : List (List ℕ)) → array_counts (type_word ty ∷ ts) ≡ []
no_counts ty [] = refl
no_counts ty (c ∷ []) = refl
no_counts ty (c ∷ (x ∷ us)) = ap (λ b. if b && (is_count c && bytes_eq x (spelling word.Times)) then cut (magnitude c) ∷ array_counts us else []) (type_square ty)

counts_by : (ns : List (List ℕ)) (ty : Ty) (ts : List (List ℕ)) → Each (λ m. IsCount (magnitude m) m) ns → array_counts (openings ns ++ type_word ty ∷ ts) ≡ map (λ n. cut (magnitude n)) ns
counts_by [] ty ts each = no_counts ty ts
counts_by (n ∷ ns) ty ts each =
    ap (λ b. if b then cut (magnitude n) ∷ array_counts (openings ns ++ type_word ty ∷ ts) else []) (opens_there n each.0) ∙ ap (λ l. cut (magnitude n) ∷ l) (counts_by ns ty ts each.1)

member_by : (ty : Ty) (ts : List (List ℕ)) → IsStored ty → member_bytes (type_word ty ∷ ts) ≡ bytes_of ty
member_by ty ts stored = by_tokens ts ∙ ap bytes_with (stored_there ty stored)
  where
    by_tokens : (ts : List (List ℕ)) → member_bytes (type_word ty ∷ ts) ≡ bytes_with (stored_type (type_word ty))
    by_tokens [] = refl
    by_tokens (c ∷ []) = refl
    by_tokens (c ∷ (x ∷ us)) = ap (λ b. if b && (is_count c && bytes_eq x (spelling word.Times)) then member_bytes us else bytes_with (stored_type (type_word ty))) (type_square ty)

bytes_by : (ns : List (List ℕ)) (ty : Ty) (ts : List (List ℕ)) → Each (λ m. IsCount (magnitude m) m) ns → IsStored ty → member_bytes (openings ns ++ type_word ty ∷ ts) ≡ bytes_of ty
bytes_by [] ty ts each stored = member_by ty ts stored
bytes_by (n ∷ ns) ty ts each stored =
    ap (λ b. if b then member_bytes (openings ns ++ type_word ty ∷ ts) else first_bytes (spelling word.OpenSquare ∷ n ∷ spelling word.Times ∷ openings ns ++ type_word ty ∷ ts)) (opens_there n each.0)
    ∙ bytes_by ns ty ts each.1 stored

pub levels_are : (sizes : List ℕ) (ts : List (List ℕ)) (bytes : ℕ) (counts : List ℕ) → IsObject sizes ts → bytes ≡ member_bytes ts → counts ≡ array_counts ts → scales bytes counts ≡ map cut sizes
levels_are sizes ts bytes counts h e f =
    let tokens = h.tokens ∙ flat h.counts h.member in
    let rest = closings (length h.counts) in
    ap (λ n. scales n counts) (e ∙ ap member_bytes tokens ∙ bytes_by h.counts h.member rest h.are_counts h.stored)
    ∙ ap (scales (bytes_of h.member)) (f ∙ ap array_counts tokens ∙ counts_by h.counts h.member rest h.are_counts)
    ∙ levels_by h.counts h.member ∙ ap (map cut) (sym h.sized)

pub ok_more : {X E : Type 0} {P Q : X → Type 0} (r : Result X E) → IfOk r P → ((x : X) → P x → Q x) → IfOk r Q
ok_more (Ok x) h g = g x h
ok_more (Err e) h g = tt
