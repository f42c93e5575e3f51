-- What indices come to, level by level.
use Rattle.std.proofs.Common.{◌≡◌, ◌≢◌, ℕ, ℤ, pos, ◌+ℤ◌, ◌*ℤ◌, ◌+◌, ◌*◌, ◌<◌, ◌≤◌, zero, suc, Bool, true, false, ◌&&◌, if◌then◌else◌, List, [], ◌∷◌, ◌++◌, Some, None, map, length, drop, refl, sym, ap, subst, ◌∙◌, arith}
use Rattle.std.specs.Str.{bytes_eq}
use Rattle.std.proofs.Math.IntN.{*ℤ_comm, *ℤ-zero, suc_ℤ-*ℤ, +ℤ_idr, +ℤ_assoc}
use Rattle.std.proofs.lemmas.Int.{ints}
use Rattle.std.proofs.lemmas.List.{length-map}
use Rattle.ms_ir.specs.declared.names.Ty.{Ty}
use Rattle.ms_grammar.specs.Words.{spelling, type_word}
use Rattle.ms_grammar.specs.Numbers.{IsCount, bits, bytes_of, magnitude, signed}
use Rattle.ms_grammar.specs.Kept.{Each, IsStored, object_tokens, object_sizes, times_first, IsObject, Index, IsIndex, IsTermIndex, IndexItem, constant, term, AreItems, more_indices, index_tokens, AreWoven}
use Rattle.ms_grammar.specs.Fits.{offset_of, offset_of_items}
use Rattle.ms_lex.specs.declared.token.TokenKind.TheVariants as kind
use Rattle.ms_lex.specs.declared.token.Token.{Token}
use Rattle.ms_grammar.specs.Parts.{texts}
use Rattle.ms_grammar.specs.declared.keyword.Keyword.TheVariants as word
use Rattle.ms_grammar.proofs.Steps.{same}
use Rattle.ms_line_parts.specs.Sizes.{is_count, opens_array, stored_type, bytes_with, typed_value, index_value, is_index, cut, array_count, first_bytes}
use Rattle.ms_line_parts.specs.declared.objects.Sum.{Sum}
use Rattle.ms_line_parts.specs.declared.objects.Sum.TheVariants.{Known, Above, Below}
use Rattle.ms_line_parts.specs.Sums.{IsSum, first_index, zero_or, next_index, taken, sum_over}
use Rattle.ms_line_parts.proofs.Sizing.{openings, closings, flat, opens_there, type_square, stored_there}
use Rattle.ms_line_parts.proofs.Totals.{total}
use Rattle.ms_line_parts.proofs.OneKind.{no_kind}
use Rattle.ms_line_parts.proofs.Indexing.{items_there}

-- a bound that is lower
pub lower : (m n : ℕ) (z : ℤ) (s : Sum) → m ≤ n → IsSum n z s → IsSum m z s
lower m n z (Known k) h is = is
lower m n z Above h is = omega (arith, ints)
lower m n z Below h is = omega (arith, ints)

-- one turn of the loop
pub record Turn (z : ℤ) (c : ℕ) (ts us : List (List ℕ)) : Type 0 where
  pub m : ℕ
  pub count : c ≡ cut m
  pub step : sum_over z ts us ≡ sum_over ((z *ℤ pos m) +ℤ next_index us) (drop 3 ts) (drop (taken us) us)

pub turn : (z : ℤ) (c : ℕ) (ts us : List (List ℕ)) → array_count ts ≡ Some c → Turn z c ts us
turn z c [] us e = absurd (cc)
turn z c (o ∷ []) us e = absurd (cc)
turn z c (o ∷ (m ∷ [])) us e = absurd (cc)
turn z c (o ∷ (m ∷ (x ∷ ts))) us e = by_array (opens_array o m x) refl e
  where
    by_array : (t : Bool) → opens_array o m x ≡ t → (if t then Some (cut (magnitude m)) else None) ≡ Some c → Turn z c (o ∷ m ∷ x ∷ ts) us
    by_array true f g = record {
      m = magnitude m;
      count = cc;
      step = ap (λ b. if b then sum_over ((z *ℤ pos (magnitude m)) +ℤ next_index us) ts (drop (taken us) us) else z *ℤ pos (first_bytes (o ∷ m ∷ x ∷ ts))) f;
    }
    by_array false f g = absurd (cc)

pub sum_end : (z : ℤ) (ts us : List (List ℕ)) → array_count ts ≡ None → sum_over z ts us ≡ z *ℤ pos (first_bytes ts)
sum_end z [] us e = refl
sum_end z (o ∷ []) us e = refl
sum_end z (o ∷ (m ∷ [])) us e = refl
sum_end z (o ∷ (m ∷ (x ∷ ts))) us e = by_array (opens_array o m x) e
  where
    by_array : (t : Bool) → (if t then Some (cut (magnitude m)) else None) ≡ None →
        (if t then sum_over ((z *ℤ pos (magnitude m)) +ℤ next_index us) ts (drop (taken us) us) else z *ℤ pos (first_bytes (o ∷ m ∷ x ∷ ts))) ≡ z *ℤ pos (first_bytes (o ∷ m ∷ x ∷ ts))
    by_array true f = absurd (cc)
    by_array false f = refl

-- products
more : (z : ℤ) (n : ℕ) → z *ℤ pos (suc n) ≡ (z *ℤ pos n) +ℤ z
more z n = *ℤ_comm z (pos (suc n)) ∙ suc_ℤ-*ℤ (pos n) z ∙ ap (λ k. k +ℤ z) (*ℤ_comm (pos n) z)

four : (a b c d : ℤ) → (a +ℤ b) +ℤ (c +ℤ d) ≡ (a +ℤ c) +ℤ (b +ℤ d)
four a b c d = omega (arith, ints)

spread : (a b : ℤ) (n : ℕ) → (a +ℤ b) *ℤ pos n ≡ (a *ℤ pos n) +ℤ (b *ℤ pos n)
spread a b zero = *ℤ-zero (a +ℤ b) ∙ sym (ap (λ k. k +ℤ (b *ℤ pos 0)) (*ℤ-zero a) ∙ ap (λ k. pos 0 +ℤ k) (*ℤ-zero b))
spread a b (suc n) =
    more (a +ℤ b) n ∙ ap (λ k. k +ℤ (a +ℤ b)) (spread a b n) ∙ four (a *ℤ pos n) (b *ℤ pos n) a b
    ∙ ap (λ k. k +ℤ ((b *ℤ pos n) +ℤ b)) (sym (more a n)) ∙ ap (λ k. (a *ℤ pos (suc n)) +ℤ k) (sym (more b n))

joined : (z : ℤ) (a b : ℕ) → z *ℤ pos (a + b) ≡ (z *ℤ pos a) +ℤ (z *ℤ pos b)
joined z a zero = (let none : a + 0 ≡ a = omega arith in ap (λ k. z *ℤ pos k) none) ∙ sym (+ℤ_idr (z *ℤ pos a)) ∙ ap (λ k. (z *ℤ pos a) +ℤ k) (sym (*ℤ-zero z))
joined z a (suc b) =
    (let next : a + suc b ≡ suc (a + b) = omega arith in ap (λ k. z *ℤ pos k) next)
    ∙ more z (a + b) ∙ ap (λ k. k +ℤ z) (joined z a b) ∙ +ℤ_assoc (z *ℤ pos a) (z *ℤ pos b) z ∙ ap (λ k. (z *ℤ pos a) +ℤ k) (sym (more z b))

grouped : (z : ℤ) (n m : ℕ) → (z *ℤ pos n) *ℤ pos m ≡ z *ℤ pos (n * m)
grouped z n zero = *ℤ-zero (z *ℤ pos n) ∙ sym (*ℤ-zero z) ∙ (let none : 0 ≡ n * 0 = omega arith in ap (λ k. z *ℤ pos k) none)
grouped z n (suc m) =
    more (z *ℤ pos n) m ∙ ap (λ k. k +ℤ (z *ℤ pos n)) (grouped z n m) ∙ sym (joined z (n * m) n)
    ∙ (let next : n * m + n ≡ n * suc m = grind arith in ap (λ k. z *ℤ pos k) next)

-- the next index of a list, and what is left of it
unfoldable pub head_value : List ℤ → ℤ
head_value [] = pos 0
head_value (v ∷ vs) = v

unfoldable pub behind_head : List ℤ → List ℤ
behind_head [] = []
behind_head (v ∷ vs) = vs

unfoldable levels : ℤ → List (List ℕ) → List ℤ → Ty → ℤ
levels z [] vs ty = z *ℤ pos (bytes_of ty)
levels z (n ∷ ns) vs ty = levels ((z *ℤ pos (magnitude n)) +ℤ head_value vs) ns (behind_head vs) ty

index_read : (i : Index) (v : ℤ) → IsIndex i v → index_value (type_word i.ty) i.number ≡ Some v
index_read i v h = ap (λ o. typed_value o i.number) (stored_there i.ty h.stored) ∙ rw h.spelled h.in_range

-- an index with the value that it adds to
abbrev pub HasValue : Index → ℤ → Type 0
HasValue i v = (zero_or (index_value (type_word i.ty) i.number) ≡ v) × (is_index (type_word i.ty) i.number ≡ true)

abbrev pub HaveValues : List Index → List ℤ → Type 0
HaveValues [] [] = Unit {0}
HaveValues [] (v ∷ vs) = ⊥
HaveValues (i ∷ is) [] = ⊥
HaveValues (i ∷ is) (v ∷ vs) = HasValue i v × HaveValues is vs

-- what an index adds
abbrev pub number_of : IndexItem → ℤ
number_of (constant v) = v
number_of (term ty) = pos 0

local_read : (i : Index) (ty : Ty) (name : List ℕ) → IsTermIndex i ty name → zero_or (index_value (type_word i.ty) i.number) ≡ pos 0
local_read i ty name h =
    let stored : IsStored i.ty = subst (λ t. IsStored t) (sym h.typed) h.stored in
    let no_number = no_kind kind.Local kind.Number i.number h.a_local (λ e. cc) in
    ap (λ o. zero_or (typed_value o i.number)) (stored_there i.ty stored) ∙ ap (λ b. zero_or (if b then signed (bits i.ty) i.number else None)) no_number

values_of : (is : List Index) (items : List IndexItem) (names : List (List ℕ)) → AreItems is items names → HaveValues is (map number_of items)
values_of [] [] names each = tt
values_of [] (item ∷ items) names each = absurd each
values_of (i ∷ is) [] names each = absurd each
values_of (i ∷ is) (constant v ∷ items) names each =
    ((ap zero_or (index_read i v each.0), (items_there i is (constant v ∷ items) names each).here), values_of is items names each.1)
values_of (i ∷ is) (term ty ∷ items) [] each = absurd each
values_of (i ∷ is) (term ty ∷ items) (name ∷ names) each =
    ((local_read i ty name each.0, (items_there i is (term ty ∷ items) (name ∷ names) each).here), values_of is items names each.1)

-- further indices are read one by one
pub record Read (is : List Index) (vs : List ℤ) : Type 0 where
  pub value : next_index (more_indices is) ≡ head_value vs
  pub rest : List Index
  pub left : drop (taken (more_indices is)) (more_indices is) ≡ more_indices rest
  pub each : HaveValues rest (behind_head vs)

read : (is : List Index) (vs : List ℤ) → HaveValues is vs → Read is vs
unfolding head_value behind_head
read [] [] each = record { value = refl; rest = []; left = refl; each = tt }
read [] (v ∷ vs) each = absurd each
read (i ∷ is) [] each = absurd each
read (i ∷ is) (v ∷ vs) each =
    let comma : bytes_eq (spelling word.Comma) (spelling word.Comma) ≡ true = same (spelling word.Comma) (spelling word.Comma) refl in
    let starts : (bytes_eq (spelling word.Comma) (spelling word.Comma) && is_index (type_word i.ty) i.number) ≡ true =
    ap (λ b. b && is_index (type_word i.ty) i.number) comma ∙ each.0.1 in
    record {
      value = ap (λ b. if b then zero_or (index_value (type_word i.ty) i.number) else pos 0) comma ∙ each.0.0;
      rest = is;
      left = ap (λ b. drop (if b then 3 else 0) (more_indices (i ∷ is))) starts;
      each = each.1;
    }

sum_member : (z : ℤ) (ty : Ty) (ts us : List (List ℕ)) → IsStored ty → sum_over z (type_word ty ∷ ts) us ≡ z *ℤ pos (bytes_of ty)
sum_member z ty ts us stored = by_tokens ts ∙ ap (λ o. z *ℤ pos (bytes_with o)) (stored_there ty stored)
  where
    by_tokens : (ts : List (List ℕ)) → sum_over z (type_word ty ∷ ts) us ≡ z *ℤ pos (bytes_with (stored_type (type_word ty)))
    by_tokens [] = refl
    by_tokens (c ∷ []) = refl
    by_tokens (c ∷ (x ∷ vs)) =
        ap (λ b. if b && (is_count c && bytes_eq x (spelling word.Times)) then sum_over ((z *ℤ pos (magnitude c)) +ℤ next_index us) vs (drop (taken us) us) else z *ℤ pos (bytes_with (stored_type (type_word ty)))) (type_square ty)

sum_levels : (z : ℤ) (ns : List (List ℕ)) (ty : Ty) (ts : List (List ℕ)) (is : List Index) (vs : List ℤ) → Each (λ m. IsCount (magnitude m) m) ns → IsStored ty → HaveValues is vs →
    sum_over z (openings ns ++ type_word ty ∷ ts) (more_indices is) ≡ levels z ns vs ty
unfolding levels
sum_levels z [] ty ts is vs each stored are = sum_member z ty ts (more_indices is) stored
sum_levels z (n ∷ ns) ty ts is vs each stored are =
    let one = read is vs are in
    ap (λ b. if b then sum_over ((z *ℤ pos (magnitude n)) +ℤ next_index (more_indices is)) (openings ns ++ type_word ty ∷ ts) (drop (taken (more_indices is)) (more_indices is))
    else z *ℤ pos (first_bytes (spelling word.OpenSquare ∷ n ∷ spelling word.Times ∷ openings ns ++ type_word ty ∷ ts))) (opens_there n each.0)
    ∙ ap (λ v. sum_over ((z *ℤ pos (magnitude n)) +ℤ v) (openings ns ++ type_word ty ∷ ts) (drop (taken (more_indices is)) (more_indices is))) one.value
    ∙ ap (λ us. sum_over ((z *ℤ pos (magnitude n)) +ℤ head_value vs) (openings ns ++ type_word ty ∷ ts) us) one.left
    ∙ sum_levels ((z *ℤ pos (magnitude n)) +ℤ head_value vs) ns ty ts one.rest (behind_head vs) each.1 stored one.each

-- the sizes behind the first
unfoldable inner_sizes : List (List ℕ) → Ty → List ℕ
inner_sizes [] ty = []
inner_sizes (n ∷ ns) ty = total ns ty ∷ inner_sizes ns ty

sizes_are : (ns : List (List ℕ)) (ty : Ty) → object_sizes ns ty ≡ total ns ty ∷ inner_sizes ns ty
unfolding inner_sizes total
sizes_are [] ty = refl
sizes_are (n ∷ ns) ty = ap (times_first (magnitude n)) (sizes_are ns ty)

none_left : (sizes : List ℕ) → offset_of sizes [] ≡ pos 0
none_left [] = refl
none_left (s ∷ sizes) = refl

levels_offset : (z : ℤ) (ns : List (List ℕ)) (vs : List ℤ) (ty : Ty) → length vs ≤ length ns → levels z ns vs ty ≡ (z *ℤ pos (total ns ty)) +ℤ offset_of (inner_sizes ns ty) vs
unfolding levels inner_sizes total head_value behind_head
levels_offset z [] [] ty h = sym (+ℤ_idr (z *ℤ pos (bytes_of ty)))
levels_offset z [] (v ∷ vs) ty h = absurd (omega arith)
levels_offset z (n ∷ ns) [] ty h =
    levels_offset ((z *ℤ pos (magnitude n)) +ℤ pos 0) ns [] ty (omega arith)
    ∙ ap (λ k. (k *ℤ pos (total ns ty)) +ℤ offset_of (inner_sizes ns ty) []) (+ℤ_idr (z *ℤ pos (magnitude n)))
    ∙ ap (λ k. k +ℤ offset_of (inner_sizes ns ty) []) (grouped z (magnitude n) (total ns ty))
    ∙ ap (λ k. (z *ℤ pos (magnitude n * total ns ty)) +ℤ k) (none_left (inner_sizes ns ty))
levels_offset z (n ∷ ns) (v ∷ vs) ty h =
    levels_offset ((z *ℤ pos (magnitude n)) +ℤ v) ns vs ty (omega arith)
    ∙ ap (λ k. k +ℤ offset_of (inner_sizes ns ty) vs) (spread (z *ℤ pos (magnitude n)) v (total ns ty))
    ∙ ap (λ k. (k +ℤ (v *ℤ pos (total ns ty))) +ℤ offset_of (inner_sizes ns ty) vs) (grouped z (magnitude n) (total ns ty))
    ∙ +ℤ_assoc (z *ℤ pos (magnitude n * total ns ty)) (v *ℤ pos (total ns ty)) (offset_of (inner_sizes ns ty) vs)

-- a list of indices into the type of an object comes to what its levels make of it
pub record Offset (sizes : List ℕ) (items : List IndexItem) (ts us : List (List ℕ)) : Type 0 where
  pub first : ℤ
  pub is : first_index us ≡ Some first
  pub sum : sum_over first ts (drop 2 us) ≡ offset_of_items sizes items

by_items : (sizes : List ℕ) (items : List IndexItem) → offset_of sizes (map number_of items) ≡ offset_of_items sizes items
by_items [] items = refl
by_items (size ∷ sizes) [] = refl
by_items (size ∷ sizes) (constant v ∷ items) = ap (λ k. (v *ℤ pos size) +ℤ k) (by_items sizes items)
by_items (size ∷ sizes) (term ty ∷ items) = ap (λ k. k +ℤ offset_of sizes (map number_of items)) (nothing_times size) ∙ nothing_more (offset_of sizes (map number_of items)) ∙ by_items sizes items
  where
    nothing_times : (n : ℕ) → pos 0 *ℤ pos n ≡ pos 0
    nothing_times n = *ℤ_comm (pos 0) (pos n) ∙ *ℤ-zero (pos n)

    nothing_more : (z : ℤ) → pos 0 +ℤ z ≡ z
    nothing_more z = omega (arith, ints)

-- the same of values
record Total (ns : List (List ℕ)) (ty : Ty) (vs : List ℤ) (us : List (List ℕ)) : Type 0 where
  pub first : ℤ
  pub is : first_index us ≡ Some first
  pub sum : sum_over first (object_tokens ns ty) (drop 2 us) ≡ offset_of (object_sizes ns ty) vs

offset_by : (ns : List (List ℕ)) (ty : Ty) (is : List Index) (vs : List ℤ) → Each (λ m. IsCount (magnitude m) m) ns → IsStored ty → is ≢ [] → HaveValues is vs → length vs ≤ length (object_sizes ns ty) →
    Total ns ty vs (index_tokens is)
unfolding inner_sizes
offset_by ns ty [] vs counts stored some each h = absurd (some refl)
offset_by ns ty (i ∷ is) [] counts stored some each h = absurd each
offset_by ns ty (i ∷ is) (v ∷ vs) counts stored some each h =
    let sizes = sizes_are ns ty in
    let long = ap length sizes in
    let inner = inner_length ns ty in
    record {
      first = v;
      is = ap Some each.0.0;
      sum = ap (λ ts. sum_over v ts (more_indices is)) (flat ns ty) ∙ sum_levels v ns ty (closings (length ns)) is vs counts stored each.1
          ∙ levels_offset v ns vs ty (omega (arith, h, long, inner)) ∙ ap (λ s. offset_of s (v ∷ vs)) (sym sizes);
    }
  where
    inner_length : (ns : List (List ℕ)) (ty : Ty) → length (inner_sizes ns ty) ≡ length ns
    inner_length [] ty = refl
    inner_length (n ∷ ns) ty = ap suc (inner_length ns ty)

pub offset_is : (sizes : List ℕ) (items : List IndexItem) (names ts us : List (List ℕ)) → IsObject sizes ts → AreWoven items names us → length items ≤ length sizes → Offset sizes items ts us
offset_is sizes items names ts us f g h =
    let short : length (map number_of items) ≤ length (object_sizes f.counts f.member) =
    subst (λ s. length (map number_of items) ≤ length s) f.sized (omega (arith, h, length-map items number_of)) in
    let by = offset_by f.counts f.member g.indices (map number_of items) f.are_counts f.stored g.some (values_of g.indices items names g.each) short in
    record {
      first = by.first;
      is = ap first_index g.tokens ∙ by.is;
      sum = ap (λ s. sum_over by.first s (drop 2 us)) f.tokens ∙ ap (λ s. sum_over by.first (object_tokens f.counts f.member) (drop 2 s)) g.tokens ∙ by.sum
          ∙ ap (λ s. offset_of s (map number_of items)) (sym f.sized) ∙ by_items sizes items;
    }

pub first_short : (line : List ℕ) (tokens : List Token) → length tokens < 2 → None ≡ first_index (texts line tokens)
first_short line [] h = refl
first_short line (a ∷ []) h = refl
first_short line (a ∷ (b ∷ ts)) h = absurd (omega arith)

pub next_short : (line : List ℕ) (tokens : List Token) → length tokens < 3 → pos 0 ≡ next_index (texts line tokens)
next_short line [] h = refl
next_short line (a ∷ []) h = refl
next_short line (a ∷ (b ∷ [])) h = refl
next_short line (a ∷ (b ∷ (c ∷ ts))) h = absurd (omega arith)

-- a small number is none of the largest
pub cut_small : (n m : ℕ) → n ≡ m → n ≤ 8 → n ≡ cut m
cut_small n m e h = omega (arith, e, h)
