-- Indices of which some have become numbers: what they are, and what they come to.
use Rattle.std.proofs.Common.{◌≡◌, ◌<◌, ◌≤◌, ◌+◌, ◌-◌, ◌^◌, ◌==◌, ℕ, suc, ℤ, pos, ◌+ℤ◌, ◌-ℤ◌, ◌*ℤ◌, nat_lt, nat_le, Bool, true, false, List, [], ◌∷◌, ◌++◌, Some, if◌then◌else◌, length, map, decimal, refl, sym, ap, subst, ◌∙◌, arith}
use Rattle.std.specs.Prelude.{cond, filter}
use Rattle.std.specs.Str.Parse.{digits_value}
use Rattle.std.proofs.lemmas.Bool.Decides.{nat_tests}
use Rattle.std.proofs.lemmas.Fmt.{decimal_is_IsNumeral_wide}
use Rattle.std.proofs.lemmas.Int.{ints}
use Rattle.ms_lex.specs.Kinds.{is_number}
use Rattle.ms_ir.specs.declared.names.Ty.{Ty}
use Rattle.ms_ir.specs.declared.names.Ty.TheVariants.{I1, I8, I16, I32, I64, Ptr}
use Rattle.ms_grammar.specs.Words.{spelling}
use Rattle.ms_grammar.specs.Numbers.{bits, signed, signed_text, number_text}
use Rattle.ms_grammar.specs.Kept.{Each, IsStored, Index, AreIndices, IsTermIndex, IndexItem, constant, term, AreItems}
use Rattle.ms_grammar.specs.Parts.{part_text, filled}
use Rattle.ms_grammar.specs.Form.{value_part, index_text}
use Rattle.ms_grammar.specs.Fits.{IsInt, IsLocal, AreTerms, offset_of, offset_of_items}
use Rattle.ms_grammar.specs.declared.line.RawVal.{RawVal}
use Rattle.ms_grammar.specs.declared.line.RawVal.TheVariants.{Num, Local, Global}
use Rattle.ms_grammar.specs.declared.line.RawIndex.{RawIndex}
use Rattle.ms_grammar.specs.declared.keyword.Keyword.TheVariants as word
use Rattle.ms_grammar.proofs.Printing.{filled_whole}
use Rattle.ms_reread.specs.Added.{signed_of}
use Rattle.ms_reread.specs.Terms.{raw_added_by, raw_added_in, is_open_value, is_open_index, kept_value, kept_index, IsLocalOrNumber, AreRenewed}
use Rattle.ms_reread.proofs.Pieces.{IsWhole}
use Rattle.ms_reread.proofs.Tokens.{local_token, local_whole, decimal_sign, decimal_magnitude, signed_again, number_by}
use Rattle.ms_reread.proofs.Filling.{IsPlain, filled_over, mark_of}
use Rattle.ms_reread.proofs.Renewed.{number_plain, plain_other, new_index, new_indices}

-- a number that is printed is read with its sign
signed_plain : (m n : ℕ) → n < 2 ^ (m - 1) → 2 ^ (m - 1) ≤ 2 ^ 64 → signed m (decimal n) ≡ Some (pos n)
signed_plain m n low small =
    let t : nat_lt n (2 ^ (m - 1)) ≡ true = grind (arith, nat_tests) in
    rw (decimal_sign n (omega arith), decimal_magnitude n (omega arith), t) refl

signed_minus : (m n : ℕ) → n < 2 ^ m → 2 ^ m ≤ 2 ^ 64 → 2 ^ (m - 1) ≤ n → 2 ^ m ≡ 2 ^ (m - 1) + 2 ^ (m - 1) → signed m (45 ∷ decimal (2 ^ m - n)) ≡ Some (pos n -ℤ pos (2 ^ m))
signed_minus m n below small high half =
    let k : ℕ = 2 ^ m - n in
    let fits : k < 10 ^ 64 = omega arith in
    let value : digits_value 10 (decimal k) ≡ k = (decimal_is_IsNumeral_wide k fits).1 in
    let t : nat_le k (2 ^ (m - 1)) ≡ true = grind (arith, nat_tests) in
    let whole : pos 0 -ℤ pos k ≡ pos n -ℤ pos (2 ^ m) = less n (2 ^ m) (omega arith) in
    rw (value, t) (ap (λ z. Some z) whole)
  where
    less : (a b : ℕ) → a ≤ b → pos 0 -ℤ pos (b - a) ≡ pos a -ℤ pos b
    less a b h = omega (arith, ints)

signed_by : (m n : ℕ) (t : Bool) → nat_lt n (2 ^ (m - 1)) ≡ t → n < 2 ^ m → 2 ^ m ≤ 2 ^ 64 → 2 ^ m ≡ 2 ^ (m - 1) + 2 ^ (m - 1) →
    signed m (if t then decimal n else 45 ∷ decimal (2 ^ m - n)) ≡ Some (if t then pos n else pos n -ℤ pos (2 ^ m))
signed_by m n true t below small half = signed_plain m n (grind (arith, nat_tests)) (omega arith)
signed_by m n false t below small half = signed_minus m n below small (grind (arith, nat_tests)) half

signed_value : (m n : ℕ) → n < 2 ^ m → 2 ^ m ≤ 2 ^ 64 → 2 ^ m ≡ 2 ^ (m - 1) + 2 ^ (m - 1) →
    signed m (signed_text m n) ≡ Some (if nat_lt n (2 ^ (m - 1)) then pos n else pos n -ℤ pos (2 ^ m))
signed_value m n below small half = signed_by m n (nat_lt n (2 ^ (m - 1))) refl below small half

record IsNumeral (ty : Ty) (n : ℕ) : Type 0 where
  pub spelled : is_number (number_text ty n) ≡ true
  pub value : signed (bits ty) (number_text ty n) ≡ Some (signed_of ty n)

number_is : (ty : Ty) (n : ℕ) → IsStored ty → n < 2 ^ bits ty → IsNumeral ty n
number_is I1 n stored below = absurd (omega arith)
number_is I8 n stored below = record { spelled = (signed_again 8 n below (omega arith) refl).is_number; value = signed_value 8 n below (omega arith) refl }
number_is I16 n stored below = record { spelled = (signed_again 16 n below (omega arith) refl).is_number; value = signed_value 16 n below (omega arith) refl }
number_is I32 n stored below = record { spelled = (signed_again 32 n below (omega arith) refl).is_number; value = signed_value 32 n below (omega arith) refl }
number_is I64 n stored below = record { spelled = (signed_again 64 n below (omega arith) refl).is_number; value = signed_value 64 n below (omega arith) refl }
number_is Ptr n stored below = absurd (omega arith)

stored_int : (ty : Ty) → IsStored ty → IsInt ty
stored_int I1 h = omega arith
stored_int I8 h = omega arith
stored_int I16 h = omega arith
stored_int I32 h = omega arith
stored_int I64 h = omega arith
stored_int Ptr h = absurd (omega arith)

false_plain : IsPlain (spelling word.False)
unfolding spelling
false_plain = (refl, (refl, (refl, (refl, (refl, tt)))))

true_plain : IsPlain (spelling word.True)
unfolding spelling
true_plain = (refl, (refl, (refl, (refl, tt))))

truth_plain : (t : Bool) → IsPlain (if t then spelling word.False else spelling word.True)
truth_plain true = false_plain
truth_plain false = true_plain

-- the text of a number has no percent sign
text_plain : (ty : Ty) (n : ℕ) → n < 2 ^ bits ty → IsPlain (number_text ty n)
text_plain I1 n below = truth_plain (n == 0)
text_plain I8 n below = number_plain (number_text I8 n) (number_is I8 n (omega arith) below).spelled
text_plain I16 n below = number_plain (number_text I16 n) (number_is I16 n (omega arith) below).spelled
text_plain I32 n below = number_plain (number_text I32 n) (number_is I32 n (omega arith) below).spelled
text_plain I64 n below = number_plain (number_text I64 n) (number_is I64 n (omega arith) below).spelled
text_plain Ptr n below = tt

-- a value in the place of a local: one that stays open, or a number whose text is kept
pub data IsReady (v : RawVal) : Type 0 where
  stays : is_open_value v ≡ true → kept_value v ≡ 37 ∷ [] → mark_of (part_text (value_part v)) ≡ kept_value v → IsReady v
  counts : is_open_value v ≡ false → kept_value v ≡ part_text (value_part v) → IsPlain (kept_value v) → mark_of (part_text (value_part v)) ≡ kept_value v → IsReady v

mark_plain : (n : List ℕ) → IsPlain n → mark_of n ≡ n
mark_plain n plain = ap (λ b. if b then 37 ∷ [] else n) (plain_other n plain)

ready_value : (ty : Ty) (v : RawVal) → IsLocalOrNumber ty v → IsReady v
ready_value ty (Num own k) h =
    let plain : IsPlain (number_text own k) = text_plain own k (subst (λ x. k < 2 ^ bits x) (sym h.0) h.1) in
    counts refl refl plain (mark_plain (number_text own k) plain)
ready_value ty (Local n) h = stays refl refl refl
ready_value ty (Global n) h = absurd h

pub ready_all : (was ts : List RawIndex) → AreRenewed was ts → Each (λ t. IsReady t.val) ts
ready_all [] [] h = tt
ready_all [] (t ∷ ts) h = absurd h
ready_all (w ∷ was) [] h = absurd h
ready_all (w ∷ was) (t ∷ ts) h = (ready_value w.ty t.val h.0.2, ready_all was ts h.1)

mark_ready : (v : RawVal) → IsReady v → mark_of (part_text (value_part v)) ≡ kept_value v
mark_ready v (stays left kept mark) = mark
mark_ready v (counts left kept plain mark) = mark

pub marks_ready : (ts : List RawIndex) → Each (λ t. IsReady t.val) ts → map mark_of (map index_text ts) ≡ map kept_index ts
marks_ready [] h = refl
marks_ready (t ∷ ts) h = ap (λ m. m ∷ map mark_of (map index_text ts)) (mark_ready t.val h.0) ∙ ap (λ ms. kept_index t ∷ ms) (marks_ready ts h.1)

-- the indices that are no numbers
abbrev pub open_in : List RawIndex → List RawIndex
open_in ts = filter is_open_index ts

abbrev pub texts_of : List RawIndex → List (List ℕ)
texts_of ts = map index_text ts

-- filling in two turns, the numbers first
refill_sign : (t : RawIndex) (ts : List RawIndex) (bs : List ℕ) → IsReady t.val → filled (texts_of (open_in ts)) (filled (map kept_index ts) bs) ≡ filled (texts_of ts) bs →
    filled (texts_of (open_in (t ∷ ts))) (kept_index t ++ filled (map kept_index ts) bs) ≡ index_text t ++ filled (texts_of ts) bs
refill_sign t ts bs (stays left kept mark) e =
    ap (λ b. filled (texts_of (cond b (t ∷ open_in ts) (open_in ts))) (kept_index t ++ filled (map kept_index ts) bs)) left
    ∙ (ap (λ k. filled (index_text t ∷ texts_of (open_in ts)) (k ++ filled (map kept_index ts) bs)) kept ∙ ap (λ x. index_text t ++ x) e)
refill_sign t ts bs (counts left kept plain mark) e =
    ap (λ b. filled (texts_of (cond b (t ∷ open_in ts) (open_in ts))) (kept_index t ++ filled (map kept_index ts) bs)) left
    ∙ (filled_over (texts_of (open_in ts)) (kept_index t) (filled (map kept_index ts) bs) plain ∙ (ap (λ k. k ++ filled (texts_of (open_in ts)) (filled (map kept_index ts) bs)) kept
    ∙ ap (λ x. index_text t ++ x) e))

pub refill : (ts : List RawIndex) (index : List ℕ) → Each (λ t. IsReady t.val) ts → filled (texts_of (open_in ts)) (filled (map kept_index ts) index) ≡ filled (texts_of ts) index
refill [] index h = refl
refill (t ∷ ts) [] h = filled_whole [] (texts_of (open_in (t ∷ ts))) [] 0 (omega arith)
refill (t ∷ ts) (b ∷ bs) h = by_test (b == 37) refl (refill ts bs h.1) (refill (t ∷ ts) bs h)
  where
    by_test : (c : Bool) → (b == 37) ≡ c → filled (texts_of (open_in ts)) (filled (map kept_index ts) bs) ≡ filled (texts_of ts) bs →
        filled (texts_of (open_in (t ∷ ts))) (filled (map kept_index (t ∷ ts)) bs) ≡ filled (texts_of (t ∷ ts)) bs →
        filled (texts_of (open_in (t ∷ ts))) (if c then kept_index t ++ filled (map kept_index ts) bs else b ∷ filled (map kept_index (t ∷ ts)) bs)
        ≡ (if c then index_text t ++ filled (texts_of ts) bs else b ∷ filled (texts_of (t ∷ ts)) bs)
    by_test true e one other = refill_sign t ts bs h.0 one
    by_test false e one other =
        filled_over (texts_of (open_in (t ∷ ts))) (b ∷ []) (filled (map kept_index (t ∷ ts)) bs) (e, tt) ∙ ap (λ x. b ∷ x) other

pub renewed_length : (was ts : List RawIndex) → AreRenewed was ts → length (texts_of was) ≡ length (texts_of ts)
renewed_length [] [] h = refl
renewed_length [] (t ∷ ts) h = absurd h
renewed_length (w ∷ was) [] h = absurd h
renewed_length (w ∷ was) (t ∷ ts) h = ap suc (renewed_length was ts h.1)

-- the items of renewed indices
abbrev pub new_item : Ty → RawVal → IndexItem
new_item ty (Num own k) = constant (signed_of ty k)
new_item ty (Local n) = term ty
new_item ty (Global n) = term ty

abbrev pub new_items : List IndexItem → List RawIndex → List IndexItem
new_items [] ts = []
new_items (constant v ∷ items) ts = constant v ∷ new_items items ts
new_items (term ty ∷ items) [] = []
new_items (term ty ∷ items) (t ∷ ts) = new_item ty t.val ∷ new_items items ts

abbrev pub values_in : List IndexItem → List ℤ
values_in [] = []
values_in (constant v ∷ items) = v ∷ values_in items
values_in (term ty ∷ items) = values_in items

-- what stands in the places of locals fits their types
abbrev pub AreGiven : List IndexItem → List RawIndex → Type 0
AreGiven [] ts = ts ≡ []
AreGiven (constant v ∷ items) ts = AreGiven items ts
AreGiven (term ty ∷ items) [] = ⊥
AreGiven (term ty ∷ items) (t ∷ ts) = IsLocalOrNumber ty t.val × AreGiven items ts

none_renewed : (was ts : List RawIndex) → was ≡ [] → AreRenewed was ts → ts ≡ []
none_renewed [] [] e h = refl
none_renewed [] (t ∷ ts) e h = absurd h
none_renewed (w ∷ was) ts e h = absurd (cc)

pub given_of : (sizes : List ℕ) (items : List IndexItem) (was ts : List RawIndex) → AreTerms sizes items was → AreRenewed was ts → AreGiven items ts
given_of sizes [] was ts h r = none_renewed was ts h r
given_of [] (item ∷ items) was ts h r = absurd h
given_of (size ∷ sizes) (constant v ∷ items) was ts h r = given_of sizes items was ts h r
given_of (size ∷ sizes) (term ty ∷ items) [] ts h r = absurd h
given_of (size ∷ sizes) (term ty ∷ items) (w ∷ was) [] h r = absurd r
given_of (size ∷ sizes) (term ty ∷ items) (w ∷ was) (t ∷ ts) h r = (subst (λ x. IsLocalOrNumber x t.val) h.0.0 r.0.2, given_of sizes items was ts h.1 r.1)

whole_value : (ty : Ty) (v : RawVal) → IsStored ty → IsLocalOrNumber ty v → IsWhole (part_text (value_part v))
whole_value ty (Num own k) stored h =
    subst (λ x. IsWhole (number_text x k)) (sym h.0) (number_by ty k (stored_int ty stored) h.1).whole
whole_value ty (Local n) stored h = local_whole n h
whole_value ty (Global n) stored h = absurd h

pub given_whole : (is : List Index) (items : List IndexItem) (names : List (List ℕ)) (ts : List RawIndex) → AreItems is items names → AreGiven items ts → Each IsWhole (texts_of ts)
given_whole [] [] names ts h g = subst (λ x. Each IsWhole (texts_of x)) (sym g) tt
given_whole [] (item ∷ items) names ts h g = absurd h
given_whole (i ∷ is) [] names ts h g = absurd h
given_whole (i ∷ is) (constant v ∷ items) names ts h g = given_whole is items names ts h.1 g
given_whole (i ∷ is) (term ty ∷ items) [] ts h g = absurd h
given_whole (i ∷ is) (term ty ∷ items) (name ∷ names) [] h g = absurd g
given_whole (i ∷ is) (term ty ∷ items) (name ∷ names) (t ∷ ts) h g = (whole_value ty t.val h.0.stored g.0, given_whole is items names ts h.1 g.1)

items_at : (i : Index) (ty : Ty) (text : List ℕ) (t : RawIndex) (left : List RawIndex) (is : List Index) (items : List IndexItem) (v : RawVal) → t.val ≡ v → IsTermIndex i ty text →
    IsLocalOrNumber ty v → AreItems is items (texts_of left) →
    AreItems (new_index i (part_text (value_part v)) ∷ is) (new_item ty v ∷ items) (texts_of (cond (is_open_value v) (t ∷ left) left))
items_at i ty text t left is items (Num own k) e h g rest =
    let numeral = number_is ty k h.stored g.1 in (
      record {
        stored = subst (λ x. IsStored x) (sym h.typed) h.stored;
        spelled = subst (λ x. is_number (number_text x k) ≡ true) (sym g.0) numeral.spelled;
        in_range = ap (λ x. signed (bits x) (number_text own k)) h.typed ∙ (ap (λ x. signed (bits ty) (number_text x k)) g.0 ∙ numeral.value);
      },
      rest,
    )
items_at i ty text t left is items (Local n) e h g rest =
    (record { typed = h.typed; stored = h.stored; a_local = local_token n g; is = ap (λ x. part_text (value_part x)) (sym e) }, rest)
items_at i ty text t left is items (Global n) e h g rest = absurd g

pub items_new : (is : List Index) (items : List IndexItem) (names : List (List ℕ)) (ts : List RawIndex) → AreItems is items names → AreGiven items ts →
    AreItems (new_indices is items (texts_of ts)) (new_items items ts) (texts_of (open_in ts))
items_new [] [] names ts h g = ap (λ x. texts_of (open_in x)) g
items_new [] (item ∷ items) names ts h g = absurd h
items_new (i ∷ is) [] names ts h g = absurd h
items_new (i ∷ is) (constant v ∷ items) names ts h g = (h.0, items_new is items names ts h.1 g)
items_new (i ∷ is) (term ty ∷ items) [] ts h g = absurd h
items_new (i ∷ is) (term ty ∷ items) (name ∷ names) [] h g = absurd g
items_new (i ∷ is) (term ty ∷ items) (name ∷ names) (t ∷ ts) h g =
    items_at i ty name t (open_in ts) (new_indices is items (texts_of ts)) (new_items items ts) t.val refl h.0 g.0 (items_new is items names ts h.1 g.1)

pub some_new : (is : List Index) (items : List IndexItem) (names ns : List (List ℕ)) → AreItems is items names → length names ≡ length ns → new_indices is items ns ≡ [] → is ≡ []
some_new [] items names ns h long e = refl
some_new (i ∷ is) [] names ns h long e = absurd h
some_new (i ∷ is) (constant v ∷ items) names ns h long e = absurd (cc)
some_new (i ∷ is) (term ty ∷ items) [] ns h long e = absurd h
some_new (i ∷ is) (term ty ∷ items) (name ∷ names) [] h long e = absurd (omega arith)
some_new (i ∷ is) (term ty ∷ items) (name ∷ names) (n ∷ ns) h long e = absurd (cc)

-- items without a local
pub closed_indices : (is : List Index) (items : List IndexItem) → AreItems is items [] → AreIndices is (values_in items)
closed_indices [] [] h = tt
closed_indices [] (item ∷ items) h = absurd h
closed_indices (i ∷ is) [] h = absurd h
closed_indices (i ∷ is) (constant v ∷ items) h = (h.0, closed_indices is items h.1)
closed_indices (i ∷ is) (term ty ∷ items) h = absurd h

terms_at : (sizes : List ℕ) (size : ℕ) (ty : Ty) (t : RawIndex) (left : List RawIndex) (items : List IndexItem) (v : RawVal) → t.val ≡ v → t.ty ≡ ty → t.scale ≡ size → IsLocalOrNumber ty v →
    AreTerms sizes items left → AreTerms (size ∷ sizes) (new_item ty v ∷ items) (cond (is_open_value v) (t ∷ left) left)
terms_at sizes size ty t left items (Num own k) e typed scaled g rest = rest
terms_at sizes size ty t left items (Local n) e typed scaled g rest = ((typed, scaled, subst (λ x. IsLocal x) (sym e) g), rest)
terms_at sizes size ty t left items (Global n) e typed scaled g rest = absurd g

pub terms_new : (sizes : List ℕ) (items : List IndexItem) (was ts : List RawIndex) → AreTerms sizes items was → AreRenewed was ts → AreTerms sizes (new_items items ts) (open_in ts)
terms_new sizes [] was ts h r = ap (λ x. open_in x) (none_renewed was ts h r)
terms_new [] (item ∷ items) was ts h r = absurd h
terms_new (size ∷ sizes) (constant v ∷ items) was ts h r = terms_new sizes items was ts h r
terms_new (size ∷ sizes) (term ty ∷ items) [] ts h r = absurd h
terms_new (size ∷ sizes) (term ty ∷ items) (w ∷ was) [] h r = absurd r
terms_new (size ∷ sizes) (term ty ∷ items) (w ∷ was) (t ∷ ts) h r =
    terms_at sizes size ty t (open_in ts) (new_items items ts) t.val refl (r.0.0 ∙ h.0.0) (r.0.1 ∙ h.0.1) (subst (λ x. IsLocalOrNumber x t.val) h.0.0 r.0.2)
    (terms_new sizes items was ts h.1 r.1)

-- sums
added_behind : (a b c : ℤ) → a +ℤ (b +ℤ c) ≡ (a +ℤ b) +ℤ c
added_behind a b c = omega (arith, ints)

added_before : (a b c : ℤ) → a +ℤ (b +ℤ c) ≡ b +ℤ (a +ℤ c)
added_before a b c = omega (arith, ints)

nothing_added : (b c : ℤ) → b +ℤ c ≡ b +ℤ (pos 0 +ℤ c)
nothing_added b c = omega (arith, ints)

no_more : (b : ℤ) → b ≡ b +ℤ pos 0
no_more b = omega (arith, ints)

offset_at : (sizes : List ℕ) (size scale : ℕ) (ty : Ty) (items : List IndexItem) (v : RawVal) (was added : ℤ) → scale ≡ size → IsLocalOrNumber ty v → offset_of_items sizes items ≡ was +ℤ added →
    offset_of_items (size ∷ sizes) (new_item ty v ∷ items) ≡ was +ℤ (raw_added_by v scale +ℤ added)
offset_at sizes size scale ty items (Num own k) was added scaled g e =
    ap (λ x. (signed_of ty k *ℤ pos size) +ℤ x) e ∙ (added_before (signed_of ty k *ℤ pos size) was added
    ∙ (ap (λ x. was +ℤ ((signed_of x k *ℤ pos size) +ℤ added)) (sym g.0) ∙ ap (λ x. was +ℤ ((signed_of own k *ℤ pos x) +ℤ added)) (sym scaled)))
offset_at sizes size scale ty items (Local n) was added scaled g e = e ∙ nothing_added was added
offset_at sizes size scale ty items (Global n) was added scaled g e = absurd g

pub offset_new : (sizes : List ℕ) (items : List IndexItem) (was ts : List RawIndex) → AreTerms sizes items was → AreRenewed was ts →
    offset_of_items sizes (new_items items ts) ≡ offset_of_items sizes items +ℤ raw_added_in ts
offset_new sizes [] was ts h r = no_more (offset_of_items sizes []) ∙ ap (λ x. offset_of_items sizes [] +ℤ raw_added_in x) (sym (none_renewed was ts h r))
offset_new [] (item ∷ items) was ts h r = absurd h
offset_new (size ∷ sizes) (constant v ∷ items) was ts h r =
    ap (λ x. (v *ℤ pos size) +ℤ x) (offset_new sizes items was ts h r) ∙ added_behind (v *ℤ pos size) (offset_of_items sizes items) (raw_added_in ts)
offset_new (size ∷ sizes) (term ty ∷ items) [] ts h r = absurd h
offset_new (size ∷ sizes) (term ty ∷ items) (w ∷ was) [] h r = absurd r
offset_new (size ∷ sizes) (term ty ∷ items) (w ∷ was) (t ∷ ts) h r =
    offset_at sizes size t.scale ty (new_items items ts) t.val (offset_of_items sizes items) (raw_added_in ts) (r.0.1 ∙ h.0.1) (subst (λ x. IsLocalOrNumber x t.val) h.0.0 r.0.2)
    (offset_new sizes items was ts h.1 r.1)

pub closed_offset : (sizes : List ℕ) (items : List IndexItem) → AreTerms sizes items [] → offset_of_items sizes items ≡ offset_of sizes (values_in items)
closed_offset [] [] h = refl
closed_offset (size ∷ sizes) [] h = refl
closed_offset [] (item ∷ items) h = absurd h
closed_offset (size ∷ sizes) (constant v ∷ items) h = ap (λ x. (v *ℤ pos size) +ℤ x) (closed_offset sizes items h)
closed_offset (size ∷ sizes) (term ty ∷ items) h = absurd h

pub values_fit : (sizes : List ℕ) (items : List IndexItem) → AreTerms sizes items [] → length (values_in items) ≤ length sizes
values_fit sizes [] h = omega arith
values_fit [] (item ∷ items) h = absurd h
values_fit (size ∷ sizes) (constant v ∷ items) h = let more = values_fit sizes items h in omega (arith, more)
values_fit (size ∷ sizes) (term ty ∷ items) h = absurd h
