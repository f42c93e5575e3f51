-- Names in lists: each name of one list stands at its number in another.
use Rattle.std.proofs.Common.{◌≡◌, ◌≤◌, ◌<◌, ◌+◌, ◌^◌, ◌⊎◌, inl, inr, ⊎_elim, ℕ, zero, suc, Bool, true, false, cond, List, [], ◌∷◌, Some, map, length, if◌then◌else◌, refl, sym, ap, subst, ◌∙◌, arith}
use Rattle.std.specs.Prelude.{slice_index_or, slice_get, nat_lt, filter}
use Rattle.std.specs.Option.{option_map}
use Rattle.std.proofs.lemmas.Bool.{cases_Bool, both_ways}
use Rattle.std.proofs.lemmas.Bool.Decides.{nat_tests}
use Rattle.std.proofs.lemmas.Fmt.{length-decimal-le}
use Rattle.ms_ir.specs.declared.names.Name.{Name}
use Rattle.ms_ir.specs.declared.names.Name.TheVariants.{Word, Number, Absent}
use Rattle.ms_grammar.specs.Kept.{Each}
use Rattle.ms_grammar.specs.Form.{name_text}
use Rattle.ms_grammar.specs.Fits.{IsNamed, MayBeNamed}
use Rattle.ms_grammar.specs.Limits.{IsShort}
use Rattle.ms_resolve.specs.Made.{Made, is_same_name, full_name, free_behind, name_of_made}
use Rattle.ms_resolve.specs.Faults.{IsNotIn}
use Rattle.ms_resolve.specs.Places.{is_name_there}
use Rattle.ms_resolve.specs.Scope.{number_of_name, or_first}
use Rattle.ms_resolve.proofs.Members.{Among, in_among, get_among, among_map, among_filter, same_name, full_same, there_name, name_there}
use Rattle.ms_resolve.proofs.PlaceLemmas.{seek, seek_is}
use Rattle.ms_print.specs.Numbering.{numbered, shown_name, free_after}
use Rattle.ms_again.proofs.Fine.{IsGood}
use Rattle.ms_again.proofs.Names.{full, shown, named_by}

-- a name that is there is the same as itself
pub named_same : (n : Name) → IsNamed n → is_same_name n n ≡ true
named_same (Word w) h = full_same 0 (Word w)
named_same (Number k) h = full_same 0 (Number k)
named_same Absent h = absurd h

-- where it cannot be that a name is in no place, it is in one
pub known_name : (names : List Name) (q : Name) → is_same_name q q ≡ true → (IsNotIn names q → ⊥) → Among names q
known_name names q same h = ⊎_elim
    (λ (t : is_name_there names q ≡ true). there_name names q t)
    (λ (f : is_name_there names q ≡ false). absurd (h (λ i. both_ways (is_name_there names q) f (name_there names q same (in_among names q i)))))
    (cases_Bool (is_name_there names q))

-- the number of a name
record Found (p : Name → Bool) (names : List Name) (q : Name) : Type 0 where
  pub place : ℕ
  pub sought : seek p names ≡ Some place
  pub there : slice_get names place ≡ Some q

found_step : (q x : Name) (xs : List Name) (b : Bool) → is_same_name q x ≡ b → is_same_name q q ≡ true → (x ≡ q) ⊎ Among xs q → (Among xs q → Found (is_same_name q) xs q) → Found (is_same_name q) (x ∷ xs) q
found_step q x xs true t same h more =
    record { place = 0; sought = ap (λ (b : Bool). if b then Some 0 else option_map suc (seek (is_same_name q) xs)) t; there = ap Some (sym (same_name q x t)) }
found_step q x xs false t same h more = elim h [
  | inl e ↦ absurd (both_ways (is_same_name q x) t (ap (is_same_name q) e ∙ same))
  | inr later ↦
      let r = more later in
      record {
        place = suc r.place;
        sought = ap (λ (b : Bool). if b then Some 0 else option_map suc (seek (is_same_name q) xs)) t ∙ ap (option_map suc) r.sought;
        there = r.there;
      }
]

found : (q : Name) (names : List Name) → is_same_name q q ≡ true → Among names q → Found (is_same_name q) names q
found q [] same h = absurd h
found q (x ∷ xs) same h = found_step q x xs (is_same_name q x) refl same h (λ later. found q xs same later)

pub record HasNumber (names : List Name) (q : Name) : Type 0 where
  pub there : slice_get names (number_of_name names q) ≡ Some q

pub has_number : (names : List Name) (q : Name) → is_same_name q q ≡ true → Among names q → HasNumber names q
has_number names q same h =
    let r = found q names same h in
    let number : number_of_name names q ≡ r.place = ap or_first (seek_is (is_same_name q) names ∙ r.sought) in
    record { there = ap (λ k. slice_get names k) number ∙ r.there }

-- names of which no two are the same
abbrev pub AreApart : List Name → Type 0
AreApart [] = Unit {0}
AreApart (n ∷ ns) = (Among ns n → ⊥) × AreApart ns

head_same : (x y : Name) → Some x ≡ Some y → x ≡ y
head_same x y e = cc

along_name : (ns : List Name) (x y : Name) → x ≡ y → Among ns y → Among ns x
along_name ns x y e h = subst (λ n. Among ns n) (sym e) h

pub apart_at : (ns : List Name) (j k : ℕ) (n : Name) → AreApart ns → slice_get ns j ≡ Some n → slice_get ns k ≡ Some n → j ≡ k
apart_at [] j k n h e f = absurd (cc)
apart_at (x ∷ xs) zero zero n h e f = refl
apart_at (x ∷ xs) zero (suc k) n h e f = absurd (h.0 (along_name xs x n (head_same x n e) (get_among xs k n f)))
apart_at (x ∷ xs) (suc j) zero n h e f = absurd (h.0 (along_name xs x n (head_same x n f) (get_among xs j n e)))
apart_at (x ∷ xs) (suc j) (suc k) n h e f = ap suc (apart_at xs j k n h.1 e f)

pub apart_number : (ns : List Name) (k : ℕ) (n : Name) → AreApart ns → is_same_name n n ≡ true → slice_get ns k ≡ Some n → number_of_name ns n ≡ k
apart_number ns k n h same e = apart_at ns (number_of_name ns n) k n h (has_number ns n same (get_among ns k n e)).there e

-- members that are good
good_at : (ns : List Name) (k : ℕ) (n : Name) → Each IsGood ns → slice_get ns k ≡ Some n → IsGood n
good_at [] k n h e = absurd (cc)
good_at (x ∷ xs) zero n h e = subst (λ y. IsGood y) (head_same x n e) h.0
good_at (x ∷ xs) (suc k) n h e = good_at xs k n h.1 e

within : (ns : List Name) (k : ℕ) (n : Name) → slice_get ns k ≡ Some n → k < length ns
within [] k n e = absurd (cc)
within (x ∷ xs) zero n e = omega arith
within (x ∷ xs) (suc k) n e = let r = within xs k n e in omega arith

there_is : (ns : List Name) (k : ℕ) → k < length ns → slice_get ns k ≡ Some (slice_index_or ns k Absent)
there_is [] k h = absurd (omega arith)
there_is (x ∷ xs) zero h = refl
there_is (x ∷ xs) (suc k) h = there_is xs k (omega arith)

-- the name that stands in another list at the number that a name has in one
abbrev pub other_name : List Name → List Name → Name → Name
other_name ns ms n = slice_index_or ms (number_of_name ns n) Absent

-- that name is a good one, and has the number in its list
pub record IsRight (ns ms : List Name) (n : Name) : Type 0 where
  pub good : IsGood (other_name ns ms n)
  pub number : number_of_name ms (other_name ns ms n) ≡ number_of_name ns n
  pub there : Among ms (other_name ns ms n)

pub right : (ns ms : List Name) → length ns ≡ length ms → AreApart ms → Each IsGood ms → (n : Name) → is_same_name n n ≡ true → Among ns n → IsRight ns ms n
right ns ms count apart good n same h =
    let number = has_number ns n same h in
    let less : number_of_name ns n < length ns = within ns (number_of_name ns n) n number.there in
    let at : slice_get ms (number_of_name ns n) ≡ Some (other_name ns ms n) = there_is ms (number_of_name ns n) (omega arith) in
    let fine = good_at ms (number_of_name ns n) (other_name ns ms n) good at in
    record {
      good = fine;
      number = apart_number ms (number_of_name ns n) (other_name ns ms n) apart (named_same (other_name ns ms n) fine.0) at;
      there = get_among ms (number_of_name ns n) (other_name ns ms n) at;
    }

-- the printed names of things: good, and no two the same
abbrev pub MayBeGood : Name → Type 0
MayBeGood n = MayBeNamed n × IsShort (name_text n)

abbrev pub names_in : List Made → List Name
names_in ms = map name_of_made ms

pub numbered_is : (next : ℕ) → next < 10 ^ 9 → numbered next ≡ Number next
numbered_is next h = let t : nat_lt next (2 ^ 32) ≡ true = grind (arith, nat_tests) in rw t refl

pub good_number : (next : ℕ) → next < 10 ^ 9 → IsGood (numbered next)
good_number next h =
    subst (λ n. IsGood n) (sym (numbered_is next h)) (h, (let short = length-decimal-le 9 next (omega arith) h (omega arith) in omega arith))

good_shown : (next : ℕ) (n : Name) → next < 10 ^ 9 → MayBeGood n → IsGood (shown_name next n)
good_shown next (Word text) h g = g
good_shown next (Number k) h g = good_number next h
good_shown next Absent h g = good_number next h

pub shown_next : (next : ℕ) (n : Name) → free_after next n ≤ next + 1
shown_next next (Word text) = omega arith
shown_next next (Number k) = omega arith
shown_next next Absent = omega arith

pub shown_good : (next : ℕ) (ms : List Made) → next + length ms ≤ 10 ^ 9 → Each MayBeGood (names_in ms) → Each IsGood (names_in (named_by shown next ms))
shown_good next [] h g = tt
shown_good next (m ∷ ms) h g =
    let more = shown_next next m.name in
    (good_shown next m.name (omega arith) g.0, shown_good (free_after next m.name) ms (omega arith) g.1)

-- a printed number is at least the next free one
number_high : (next : ℕ) (n : Name) (k : ℕ) → next < 10 ^ 9 → shown_name next n ≡ Number k → k ≡ next
number_high next (Word text) k h e = absurd (cc)
number_high next (Number j) k h e = let same : Number next ≡ Number k = sym (numbered_is next h) ∙ e in cc
number_high next Absent k h e = let same : Number next ≡ Number k = sym (numbered_is next h) ∙ e in cc

pub numbers_high : (next : ℕ) (ms : List Made) (k : ℕ) → next + length ms ≤ 10 ^ 9 → Among (names_in (named_by shown next ms)) (Number k) → next ≤ k
numbers_high next [] k h on = absurd on
numbers_high next (m ∷ ms) k h on =
    let more = shown_next next m.name in
    elim on [
      | inl e ↦ let same = number_high next m.name k (omega arith) e in omega arith
      | inr later ↦ let rest = numbers_high (free_after next m.name) ms k (omega arith) later in let low = grows next m.name in omega arith
    ]
  where
    grows : (next : ℕ) (n : Name) → next ≤ free_after next n
    grows next (Word text) = omega arith
    grows next (Number k) = omega arith
    grows next Absent = omega arith

-- a printed word is the word that a thing has
word_kept : (next free : ℕ) (n : Name) (w : List ℕ) → next < 10 ^ 9 → shown_name next n ≡ Word w → full_name free n ≡ Word w
word_kept next free (Word text) w h e = e
word_kept next free (Number j) w h e = let same : Number next ≡ Word w = sym (numbered_is next h) ∙ e in absurd (cc)
word_kept next free Absent w h e = let same : Number next ≡ Word w = sym (numbered_is next h) ∙ e in absurd (cc)

words_kept : (next free : ℕ) (ms : List Made) (w : List ℕ) → next + length ms ≤ 10 ^ 9 → Among (names_in (named_by shown next ms)) (Word w) → Among (names_in (named_by full free ms)) (Word w)
words_kept next free [] w h on = absurd on
words_kept next free (m ∷ ms) w h on =
    let more = shown_next next m.name in
    elim on [
      | inl e ↦ inl (word_kept next free m.name w (omega arith) e)
      | inr later ↦ inr (words_kept (free_after next m.name) (free_behind free m.name) ms w (omega arith) later)
    ]

pub number_new : (next : ℕ) (ms : List Made) → next + 1 + length ms ≤ 10 ^ 9 → Among (names_in (named_by shown (next + 1) ms)) (numbered next) → ⊥
number_new next ms h on =
    let same : numbered next ≡ Number next = numbered_is next (omega arith) in
    let high = numbers_high (next + 1) ms next h (subst (λ n. Among (names_in (named_by shown (next + 1) ms)) n) same on) in
    omega arith

first_apart : (next free : ℕ) (n : Name) (ms : List Made) → next + suc (length ms) ≤ 10 ^ 9 → (Among (names_in (named_by full (free_behind free n) ms)) (full_name free n) → ⊥) →
    Among (names_in (named_by shown (free_after next n) ms)) (shown_name next n) → ⊥
first_apart next free (Word text) ms h apart on = apart (words_kept next free ms text (omega arith) on)
first_apart next free (Number k) ms h apart on = number_new next ms (omega arith) on
first_apart next free Absent ms h apart on = number_new next ms (omega arith) on

pub shown_apart : (next free : ℕ) (ms : List Made) → next + length ms ≤ 10 ^ 9 → AreApart (names_in (named_by full free ms)) → AreApart (names_in (named_by shown next ms))
shown_apart next free [] h apart = tt
shown_apart next free (m ∷ ms) h apart =
    let more = shown_next next m.name in
    (first_apart next free m.name ms (omega arith) apart.0, shown_apart (free_after next m.name) (free_behind free m.name) ms (omega arith) apart.1)

-- some of the things
pub among_some : (p : Made → Bool) (ms : List Made) (n : Name) → Among (map name_of_made (filter p ms)) n → Among (names_in ms) n
among_some p ms n h =
    let r = among_map name_of_made (filter p ms) n h in
    let on = among_filter p ms r.0 r.1 in
    subst (λ x. Among (names_in ms) x) r.2 (mapped ms r.0 on.0)
  where
    mapped : (ms : List Made) (m : Made) → Among ms m → Among (names_in ms) m.name
    mapped [] m h = absurd h
    mapped (x ∷ xs) m h = elim h [ inl e ↦ inl (ap name_of_made e) | inr later ↦ inr (mapped xs m later) ]

abbrev some_if : Bool → Made → List Made → List Name
some_if b m rest = map name_of_made (cond b (m ∷ rest) rest)

pub apart_some : (p : Made → Bool) (ms : List Made) → AreApart (names_in ms) → AreApart (map name_of_made (filter p ms))
apart_some p [] h = tt
apart_some p (m ∷ ms) h = by (p m) (apart_some p ms h.1)
  where
    by : (b : Bool) → AreApart (map name_of_made (filter p ms)) → AreApart (some_if b m (filter p ms))
    by true rest = (λ on. h.0 (among_some p ms m.name on), rest)
    by false rest = rest

pub good_some : (p : Made → Bool) (ms : List Made) → Each IsGood (names_in ms) → Each IsGood (map name_of_made (filter p ms))
good_some p [] h = tt
good_some p (m ∷ ms) h = by (p m) (good_some p ms h.1)
  where
    by : (b : Bool) → Each IsGood (map name_of_made (filter p ms)) → Each IsGood (some_if b m (filter p ms))
    by true rest = (h.0, rest)
    by false rest = rest
