-- What single words say.
use Rattle.std.proofs.Common.{◌≡◌, ℕ, ◌+◌, ◌<◌, ◌^◌, true, false, List, [], ◌∷◌, ◌++◌, Some, refl, arith, zero, suc}
use Rattle.std.proofs.lemmas.Bool.Decides.{nat_tests}
use Rattle.std.specs.Prelude.{nat_lt}
use Rattle.std.specs.Fmt.{decimal}
use Rattle.std.specs.Str.{bytes_eq}
use Rattle.std.proofs.lemmas.Fmt.{decimal_by_steps, decimal_is_IsNumeral}
use Rattle.std.specs.Str.Parse.{digits_value}
use Rattle.ms_lex.specs.Bytes.{starts_word}
use Rattle.ms_lex.specs.Kinds.{is_word}
use Rattle.ms_ir.specs.declared.names.Ty.{Ty}
use Rattle.ms_ir.specs.declared.names.Ty.TheVariants.{I1, I8, I16, I32, I64, Ptr}
use Rattle.ms_ir.specs.declared.names.Name.{Name}
use Rattle.ms_ir.specs.declared.names.Name.TheVariants as name
use Rattle.ms_grammar.specs.Words.{spelling, type_word}
use Rattle.ms_grammar.specs.Numbers.{Means, numeral, yes, no}
use Rattle.ms_grammar.specs.Form.{name_text}
use Rattle.ms_grammar.specs.Fits.{IsNamed}
use Rattle.ms_grammar.specs.Reading.{type_of, name_of, number_of}
use Rattle.ms_grammar.proofs.Steps.{same}

pub type_of_word : (ty : Ty) → type_of (type_word ty) ≡ Some ty
unfolding type_of type_word
type_of_word I1 = refl
type_of_word I8 = refl
type_of_word I16 = refl
type_of_word I32 = refl
type_of_word I64 = refl
type_of_word Ptr = refl

StartsNoWord : List ℕ → Type 0
StartsNoWord [] = ⊥
StartsNoWord (b ∷ bs) = starts_word b ≡ false

digit_starts_none : (n : ℕ) → n < 10 → starts_word (48 + n) ≡ false
digit_starts_none zero h = refl
digit_starts_none (suc zero) h = refl
digit_starts_none (suc (suc zero)) h = refl
digit_starts_none (suc (suc (suc zero))) h = refl
digit_starts_none (suc (suc (suc (suc zero)))) h = refl
digit_starts_none (suc (suc (suc (suc (suc zero))))) h = refl
digit_starts_none (suc (suc (suc (suc (suc (suc zero)))))) h = refl
digit_starts_none (suc (suc (suc (suc (suc (suc (suc zero))))))) h = refl
digit_starts_none (suc (suc (suc (suc (suc (suc (suc (suc zero)))))))) h = refl
digit_starts_none (suc (suc (suc (suc (suc (suc (suc (suc (suc zero))))))))) h = refl
digit_starts_none (suc (suc (suc (suc (suc (suc (suc (suc (suc (suc n)))))))))) h = absurd (omega arith)

starts_behind : (ds es : List ℕ) → StartsNoWord ds → StartsNoWord (ds ++ es)
unfolding StartsNoWord
starts_behind [] es h = absurd h
starts_behind (b ∷ bs) es h = h

decimal_starts : (n : ℕ) → n < 2 ^ 64 → StartsNoWord (decimal n)
unfolding StartsNoWord
decimal_starts = decimal_by_steps (λ n ds. StartsNoWord ds) digit_starts_none (λ n ds low h. starts_behind ds _ h)

no_word : (ds : List ℕ) → StartsNoWord ds → is_word ds ≡ false
unfolding StartsNoWord
no_word [] h = absurd h
no_word (b ∷ bs) h = rw h refl

-- digits are no word
pub decimal_no_word : (n : ℕ) → n < 10 ^ 9 → is_word (decimal n) ≡ false
decimal_no_word n h = no_word (decimal n) (decimal_starts n (omega arith))

small : (n : ℕ) → n < 10 ^ 9 → nat_lt n (10 ^ 9) ≡ true
small n h = grind (arith, nat_tests)

pub name_of_text : (n : Name) → IsNamed n → name_of (name_text n) ≡ Some n
unfolding name_of
name_of_text (name.Word text) h = rw h refl
name_of_text (name.Number n) h =
    let value : digits_value 10 (decimal n) ≡ n = (decimal_is_IsNumeral n (omega arith)).1 in
    let again : bytes_eq (decimal n) (decimal n) ≡ true = same (decimal n) (decimal n) refl in
    rw (decimal_no_word n h, value, again, small n h) refl
name_of_text name.Absent h = absurd h

-- a truth is no numeral
pub number_of_means : (ty : Ty) (n : ℕ) (s : List ℕ) → Means ty n s → number_of ty s ≡ Some n
unfolding number_of spelling
number_of_means ty n s (numeral spelled value) = rw spelled value
number_of_means ty n s (yes one is spelled) = rw (spelled, one, is) refl
number_of_means ty n s (no one is spelled) = rw (spelled, one, is) refl

pub one_number : (ty : Ty) (n m : ℕ) (s : List ℕ) → Means ty n s → Means ty m s → n ≡ m
one_number ty n m s a b = let first = number_of_means ty n s a in let second = number_of_means ty m s b in cc
