-- The tokens that are printed for words, marks, names and numbers.
use Rattle.std.proofs.Common.{◌≡◌, ◌==◌, ◌<◌, ◌≤◌, ◌+◌, ◌-◌, ◌%◌, ◌^◌, ℕ, zero, suc, Bool, true, false, List, [], ◌∷◌, ◌++◌, Option, Some, None, if◌then◌else◌, get_or, decimal, refl, sym, ap, subst, ◌∙◌, arith}
use Rattle.std.specs.Prelude.{nat_lt, nat_le}
use Rattle.std.specs.List.{list_all}
use Rattle.std.specs.Char.{is_ascii_digit}
use Rattle.std.specs.Str.Parse.{digits_value}
use Rattle.std.proofs.lemmas.Bool.{and_parts, and_from, or_left, or_right, both_ways, false≢true, true≢false}
use Rattle.std.proofs.lemmas.Bool.Decides.{nat_tests}
use Rattle.std.proofs.Math.Nat.{mod-eq_of_lt}
use Rattle.std.proofs.lemmas.Fmt.{decimal_by_steps_wide, decimal_is_IsNumeral_wide, decimal_digit, first_decimal, length-decimal-le}
use Rattle.ms_lex.specs.Bytes.{is_mark, starts_word}
use Rattle.ms_lex.specs.Kinds.{is_token, is_word, is_digits, is_number}
use Rattle.ms_lex.specs.First.{first_kind}
use Rattle.ms_lex.specs.declared.token.TokenKind.{TokenKind}
use Rattle.ms_lex.specs.declared.token.TokenKind.TheVariants as kind
use Rattle.ms_lex.proofs.First.{first_tells, digit_no_word}
use Rattle.ms_ir.specs.declared.names.Ty.{Ty}
use Rattle.ms_ir.specs.declared.names.Ty.TheVariants.{I1, I8, I16, I32, I64, Ptr}
use Rattle.ms_ir.specs.declared.names.Name.{Name}
use Rattle.ms_ir.specs.declared.names.Name.TheVariants as name
use Rattle.ms_ir.specs.declared.inst.Op.{Op}
use Rattle.ms_ir.specs.declared.inst.Op.TheVariants.{Add, Sub, Mul, And, Or, Xor, Shl, Lshr, Ashr}
use Rattle.ms_ir.specs.declared.inst.Pred.{Pred}
use Rattle.ms_ir.specs.declared.inst.Pred.TheVariants.{Eq, Ne, Ugt, Uge, Ult, Ule, Sgt, Sge, Slt, Sle}
use Rattle.ms_ir.specs.declared.inst.CastOp.{CastOp}
use Rattle.ms_ir.specs.declared.inst.CastOp.TheVariants.{Zext, Sext, Trunc}
use Rattle.ms_grammar.specs.Words.{spelling, type_word, op_word, predicate_word, cast_word}
use Rattle.ms_grammar.specs.Numbers.{bits, is_negative, magnitude, modulo, signed_text, number_text, Means, numeral, yes, no, IsCount}
use Rattle.ms_grammar.specs.Parts.{result_word}
use Rattle.ms_grammar.specs.Form.{name_text}
use Rattle.ms_grammar.specs.Fits.{IsNamed, IsWordName, IsInt}
use Rattle.ms_grammar.specs.Grammar.{StartsPlain, IsPlainNumber, IsReadable, IsReadableToken}
use Rattle.ms_grammar.specs.declared.keyword.Keyword.{Keyword}
use Rattle.ms_grammar.specs.declared.keyword.Keyword.TheVariants as word
use Rattle.ms_reread.proofs.Pieces.{IsWhole, IsMark, IsCalmMark}

-- each word or mark of the grammar is a token
pub word_whole : (w : Keyword) → IsWhole (spelling w)
unfolding spelling is_mark
word_whole word.Memcpy = record { kind = kind.Global; is = refl; readable = tt }
word_whole word.Equals = record { kind = kind.Punct; is = refl; readable = tt }
word_whole word.Comma = record { kind = kind.Punct; is = refl; readable = tt }
word_whole word.Colon = record { kind = kind.Punct; is = refl; readable = tt }
word_whole word.Open = record { kind = kind.Punct; is = refl; readable = tt }
word_whole word.Close = record { kind = kind.Punct; is = refl; readable = tt }
word_whole word.OpenSquare = record { kind = kind.Punct; is = refl; readable = tt }
word_whole word.CloseSquare = record { kind = kind.Punct; is = refl; readable = tt }
word_whole word.OpenBrace = record { kind = kind.Punct; is = refl; readable = tt }
word_whole word.CloseBrace = record { kind = kind.Punct; is = refl; readable = tt }
word_whole w = record { kind = kind.Word; is = refl; readable = tt }

pub type_whole : (ty : Ty) → IsWhole (type_word ty)
unfolding type_word
type_whole ty = record { kind = kind.Word; is = by_type ty; readable = tt }
  where
    by_type : (ty : Ty) → is_word (type_word ty) ≡ true
    by_type I1 = refl
    by_type I8 = refl
    by_type I16 = refl
    by_type I32 = refl
    by_type I64 = refl
    by_type Ptr = refl

pub op_whole : (op : Op) → IsWhole (op_word op)
unfolding op_word
op_whole op = record { kind = kind.Word; is = by_op op; readable = tt }
  where
    by_op : (op : Op) → is_word (op_word op) ≡ true
    by_op Add = refl
    by_op Sub = refl
    by_op Mul = refl
    by_op And = refl
    by_op Or = refl
    by_op Xor = refl
    by_op Shl = refl
    by_op Lshr = refl
    by_op Ashr = refl

pub predicate_whole : (pred : Pred) → IsWhole (predicate_word pred)
unfolding predicate_word
predicate_whole pred = record { kind = kind.Word; is = by_pred pred; readable = tt }
  where
    by_pred : (pred : Pred) → is_word (predicate_word pred) ≡ true
    by_pred Eq = refl
    by_pred Ne = refl
    by_pred Ugt = refl
    by_pred Uge = refl
    by_pred Ult = refl
    by_pred Ule = refl
    by_pred Sgt = refl
    by_pred Sge = refl
    by_pred Slt = refl
    by_pred Sle = refl

pub cast_whole : (op : CastOp) → IsWhole (cast_word op)
unfolding cast_word
cast_whole op = record { kind = kind.Word; is = by_op op; readable = tt }
  where
    by_op : (op : CastOp) → is_word (cast_word op) ≡ true
    by_op Zext = refl
    by_op Sext = refl
    by_op Trunc = refl

pub result_whole : (ret : Option Ty) → IsWhole (result_word ret)
result_whole None = word_whole word.Void
result_whole (Some ty) = type_whole ty

-- the marks
pub comma_calm : IsCalmMark (spelling word.Comma)
unfolding spelling is_mark
comma_calm = record { is_mark = record { byte = 44; is = refl; mark = refl }; calm = refl }

pub colon_calm : IsCalmMark (spelling word.Colon)
unfolding spelling is_mark
colon_calm = record { is_mark = record { byte = 58; is = refl; mark = refl }; calm = refl }

pub open_calm : IsCalmMark (spelling word.Open)
unfolding spelling is_mark
open_calm = record { is_mark = record { byte = 40; is = refl; mark = refl }; calm = refl }

pub close_calm : IsCalmMark (spelling word.Close)
unfolding spelling is_mark
close_calm = record { is_mark = record { byte = 41; is = refl; mark = refl }; calm = refl }

pub open_square : IsMark (spelling word.OpenSquare)
unfolding spelling is_mark
open_square = record { byte = 91; is = refl; mark = refl }

-- digits
digits_push : (ds : List ℕ) (d : ℕ) → is_ascii_digit d ≡ true → is_digits ds ≡ true → is_digits (ds ++ d ∷ []) ≡ true
digits_push [] d digit h = and_from _ _ digit refl
digits_push (b ∷ bs) d digit h = let both = and_parts (is_ascii_digit b) _ h in and_from _ _ both.0 (all_push bs both.1)
  where
    all_push : (bs : List ℕ) → list_all is_ascii_digit bs ≡ true → list_all is_ascii_digit (bs ++ d ∷ []) ≡ true
    all_push [] h = and_from _ _ digit refl
    all_push (c ∷ cs) h = let both = and_parts (is_ascii_digit c) _ h in and_from _ _ both.0 (all_push cs both.1)

is_digit : (n : ℕ) → n < 10 → is_ascii_digit (48 + n) ≡ true
is_digit n h = grind (arith, nat_tests)

last_digit : (n : ℕ) → n % 10 < 10
last_digit n = omega arith

pub decimal_digits : (n : ℕ) → n < 10 ^ 64 → is_digits (decimal n) ≡ true
decimal_digits =
    decimal_by_steps_wide (λ n ds. is_digits ds ≡ true) (λ n h. and_from _ _ (is_digit n h) refl) (λ n ds low h. digits_push ds (48 + n % 10) (is_digit (n % 10) (last_digit n)) h)

-- digits have no sign
plain_sign : (ds : List ℕ) → is_digits ds ≡ true → is_negative ds ≡ false
plain_sign [] h = refl
plain_sign (b ∷ bs) h = no_minus b (and_parts (is_ascii_digit b) _ h).0
  where
    no_minus : (b : ℕ) → is_ascii_digit b ≡ true → (b == 45) ≡ false
    no_minus b digit = grind (arith, nat_tests)

plain_magnitude : (ds : List ℕ) → is_digits ds ≡ true → magnitude ds ≡ digits_value 10 ds
plain_magnitude [] h = absurd (false≢true h)
plain_magnitude (b ∷ bs) h = rw (plain_sign (b ∷ bs) h) refl

pub decimal_sign : (n : ℕ) → n < 10 ^ 64 → is_negative (decimal n) ≡ false
decimal_sign n h = plain_sign (decimal n) (decimal_digits n h)

pub decimal_magnitude : (n : ℕ) → n < 10 ^ 64 → magnitude (decimal n) ≡ n
decimal_magnitude n h = plain_magnitude (decimal n) (decimal_digits n h) ∙ (decimal_is_IsNumeral_wide n h).1

pub decimal_whole : (n : ℕ) → n < 2 ^ 128 → IsWhole (decimal n)
decimal_whole n h = record {
  kind = kind.Number;
  is = or_left _ _ (decimal_digits n (omega arith));
  readable = (
    λ negative. absurd (both_ways _ (decimal_sign n (omega arith)) negative),
    λ plain. rw (decimal_magnitude n (omega arith)) h,
  );
}

-- digits of a name
starts_plain : (ds : List ℕ) → 48 < get_or ds 0 0 → StartsPlain ds
starts_plain [] h = tt
starts_plain (b ∷ []) h = tt
starts_plain (b ∷ (c ∷ bs)) h = λ e. omega arith

plain_by : (n : ℕ) → n < 10 ^ 9 → StartsPlain (decimal n)
plain_by zero h = subst (λ ds. StartsPlain ds) (sym (decimal_digit 0 (omega arith))) tt
plain_by (suc n) h = starts_plain (decimal (suc n)) (first_decimal (suc n) (omega arith) (omega arith))

pub decimal_plain : (n : ℕ) → n < 10 ^ 9 → IsPlainNumber (decimal n)
decimal_plain n h = λ digits. (plain_by n h, length-decimal-le 9 n (omega arith) h (omega arith))

word_no_digits : (s : List ℕ) → is_word s ≡ true → is_digits s ≡ true → ⊥
word_no_digits [] w d = false≢true w
word_no_digits (b ∷ bs) w d =
    both_ways _ (digit_no_word b (and_parts (is_ascii_digit b) _ d).0) (and_parts (starts_word b) _ w).0

pub local_token : (n : Name) → IsNamed n → is_token kind.Local (37 ∷ name_text n) ≡ true
local_token (name.Word text) h = or_left _ _ h
local_token (name.Number n) h = or_right _ _ (decimal_digits n (omega arith))
local_token name.Absent h = absurd h

pub local_whole : (n : Name) → IsNamed n → IsWhole (37 ∷ name_text n)
local_whole (name.Word text) h = record { kind = kind.Local; is = local_token (name.Word text) h; readable = λ digits. absurd (word_no_digits text h digits) }
local_whole (name.Number n) h = record { kind = kind.Local; is = local_token (name.Number n) h; readable = decimal_plain n h }
local_whole name.Absent h = absurd h

pub global_whole : (text : List ℕ) → is_word text ≡ true → IsWhole (64 ∷ text)
global_whole text h = record { kind = kind.Global; is = h; readable = tt }

pub global_name_whole : (n : Name) → IsWordName n → IsWhole (64 ∷ name_text n)
global_name_whole (name.Word text) h = global_whole text h
global_name_whole (name.Number n) h = absurd h
global_name_whole name.Absent h = absurd h

pub label_whole : (n : Name) → IsNamed n → IsWhole (name_text n)
label_whole (name.Word text) h = record { kind = kind.Word; is = h; readable = tt }
label_whole (name.Number n) h = decimal_whole n (omega arith)
label_whole name.Absent h = absurd h

-- a number of a type is below 2^M
some_one : (a b : ℕ) → Some a ≡ Some b → b ≡ a
some_one a b e = cc

modulo_below : (m : ℕ) (s : List ℕ) (n : ℕ) → 0 < 2 ^ m → modulo m s ≡ Some n → n < 2 ^ m
modulo_below m s n some h = by_sign (is_negative s) h
  where
    whole : (a : Bool) → nat_lt (magnitude s) (2 ^ m) ≡ a → (if a then Some (magnitude s) else None) ≡ Some n → n < 2 ^ m
    whole true t e = let same : n ≡ magnitude s = some_one (magnitude s) n e in rw same (grind (arith, nat_tests))
    whole false t e = absurd (cc)

    less : (a : Bool) → (if a then Some ((2 ^ m - magnitude s) % 2 ^ m) else None) ≡ Some n → n < 2 ^ m
    less true e = let same : n ≡ (2 ^ m - magnitude s) % 2 ^ m = some_one ((2 ^ m - magnitude s) % 2 ^ m) n e in rw same (omega arith)
    less false e = absurd (cc)

    by_sign : (a : Bool) → (if a then (if nat_le (magnitude s) (2 ^ (m - 1)) then Some ((2 ^ m - magnitude s) % 2 ^ m) else None)
        else (if nat_lt (magnitude s) (2 ^ m) then Some (magnitude s) else None)) ≡ Some n → n < 2 ^ m
    by_sign true e = less (nat_le (magnitude s) (2 ^ (m - 1))) e
    by_sign false e = whole (nat_lt (magnitude s) (2 ^ m)) refl e

-- a number as it is printed
pub record NumberAgain (ty : Ty) (n : ℕ) : Type 0 where
  pub whole : IsWhole (number_text ty n)
  pub means : Means ty n (number_text ty n)

pub record SignedAgain (m n : ℕ) (s : List ℕ) : Type 0 where
  pub whole : IsWhole s
  pub is_number : is_number s ≡ true
  pub value : modulo m s ≡ Some n

signed_plain : (m n : ℕ) → n < 2 ^ m → 2 ^ m ≤ 2 ^ 64 → SignedAgain m n (decimal n)
signed_plain m n below small = record {
  whole = decimal_whole n (omega arith);
  is_number = or_left _ _ (decimal_digits n (omega arith));
  value = let t : nat_lt n (2 ^ m) ≡ true = grind (arith, nat_tests) in rw (decimal_sign n (omega arith), decimal_magnitude n (omega arith), t) refl;
}

signed_minus : (m n : ℕ) → n < 2 ^ m → 2 ^ m ≤ 2 ^ 64 → 2 ^ (m - 1) ≤ n → 2 ^ m ≡ 2 ^ (m - 1) + 2 ^ (m - 1) → SignedAgain m n (45 ∷ decimal (2 ^ m - n))
signed_minus m n below small high half =
    let k : ℕ = 2 ^ m - n in
    let fits : k < 10 ^ 64 = omega arith in
    let low : k ≤ 2 ^ (m - 1) = omega arith in
    let is_small : k ≤ 2 ^ 127 = omega arith in
    let value : digits_value 10 (decimal k) ≡ k = (decimal_is_IsNumeral_wide k fits).1 in
    let t : nat_le k (2 ^ (m - 1)) ≡ true = grind (arith, nat_tests) in
    let left : 2 ^ m - k ≡ n = omega arith in
    let back : (2 ^ m - k) % 2 ^ m ≡ n = ap (λ x. x % 2 ^ m) left ∙ mod-eq_of_lt below in
    record {
      whole = record {
        kind = kind.Number;
        is = decimal_digits k fits;
        readable = (λ negative. rw value is_small, λ plain. absurd (true≢false plain));
      };
      is_number = decimal_digits k fits;
      value = rw (value, t, back) refl;
    }

signed_by : (m n : ℕ) (t : Bool) → nat_lt n (2 ^ (m - 1)) ≡ t → n < 2 ^ m → 2 ^ m ≤ 2 ^ 64 → 2 ^ m ≡ 2 ^ (m - 1) + 2 ^ (m - 1) →
    SignedAgain m n (if t then decimal n else 45 ∷ decimal (2 ^ m - n))
signed_by m n true t below small half = signed_plain m n below small
signed_by m n false t below small half = signed_minus m n below small (grind (arith, nat_tests)) half

pub signed_again : (m n : ℕ) → n < 2 ^ m → 2 ^ m ≤ 2 ^ 64 → 2 ^ m ≡ 2 ^ (m - 1) + 2 ^ (m - 1) → SignedAgain m n (signed_text m n)
signed_again m n below small half = signed_by m n (nat_lt n (2 ^ (m - 1))) refl below small half

truth_again : (n : ℕ) → n < 2 → NumberAgain I1 n
truth_again zero h = record { whole = word_whole word.False; means = no refl refl refl }
truth_again (suc zero) h = record { whole = word_whole word.True; means = yes refl refl refl }
truth_again (suc (suc n)) h = absurd (omega arith)

-- what a number of a type means is below 2 to the number of its bits
pub means_below : (ty : Ty) (n : ℕ) (s : List ℕ) → Means ty n s → n < 2 ^ bits ty
means_below ty n s (numeral is value) = modulo_below (bits ty) s n (by_type ty) value
  where
    by_type : (ty : Ty) → 0 < 2 ^ bits ty
    by_type I1 = omega arith
    by_type I8 = omega arith
    by_type I16 = omega arith
    by_type I32 = omega arith
    by_type I64 = omega arith
    by_type Ptr = omega arith
means_below ty n s (yes bit one is) = rw (bit, one) (omega arith)
means_below ty n s (no bit one is) = rw (bit, one) (omega arith)

pub number_by : (ty : Ty) (n : ℕ) → IsInt ty → n < 2 ^ bits ty → NumberAgain ty n
number_by I1 n some below = truth_again n below
number_by I8 n some below = let again = signed_again 8 n below (omega arith) refl in record { whole = again.whole; means = numeral again.is_number again.value }
number_by I16 n some below = let again = signed_again 16 n below (omega arith) refl in record { whole = again.whole; means = numeral again.is_number again.value }
number_by I32 n some below = let again = signed_again 32 n below (omega arith) refl in record { whole = again.whole; means = numeral again.is_number again.value }
number_by I64 n some below = let again = signed_again 64 n below (omega arith) refl in record { whole = again.whole; means = numeral again.is_number again.value }
number_by Ptr n some below = absurd (omega arith)

-- a number that was read is read again where it is printed
pub number_again : (ty : Ty) (n : ℕ) (s : List ℕ) → IsInt ty → Means ty n s → NumberAgain ty n
number_again ty n s some means = number_by ty n some (means_below ty n s means)

pub record CountAgain (n : ℕ) : Type 0 where
  pub whole : IsWhole (decimal n)
  pub is : IsCount n (decimal n)

-- a count whose token was readable
readable_number : (k : TokenKind) (s : List ℕ) → is_number s ≡ true → is_token k s ≡ true → IsReadableToken k s → IsReadable s
readable_number k [] number token h = absurd (false≢true number)
readable_number k (b ∷ bs) number token h =
    let one : first_kind b ≡ Some kind.Number = first_tells kind.Number b bs number in
    let two : first_kind b ≡ Some k = first_tells k b bs token in
    let same : k ≡ kind.Number = cc in
    subst (λ x. IsReadableToken x (b ∷ bs)) same h

small_by : (s : List ℕ) (t : Bool) → is_negative s ≡ t → IsReadable s → magnitude s < 2 ^ 128
small_by s true e h = let low = h.0 e in omega arith
small_by s false e h = h.1 e

pub count_again : (n : ℕ) (s : List ℕ) (k : TokenKind) → IsCount n s → is_token k s ≡ true → IsReadableToken k s → CountAgain n
count_again n s k count token h =
    let low : magnitude s < 2 ^ 128 = small_by s (is_negative s) refl (readable_number k s count.spelled token h) in
    let same : n ≡ magnitude s = count.value in
    let below : n < 2 ^ 128 = omega arith in
    record {
      whole = decimal_whole n below;
      is = record {
        spelled = or_left _ _ (decimal_digits n (omega arith));
        low = λ negative. absurd (both_ways _ (decimal_sign n (omega arith)) negative);
        value = sym (decimal_magnitude n (omega arith));
      };
    }
