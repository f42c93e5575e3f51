-- What the numbers of a line mean, and how they are printed.
use Rattle.std.specs.Prelude.{◌≡◌, ℕ, ℤ, pos, ◌-ℤ◌, ◌-◌, ◌%◌, ◌^◌, ◌==◌, nat_lt, nat_le, Bool, true, false, List, [], ◌∷◌, Option, Some, None, if◌then◌else◌, decimal}
use Rattle.std.specs.Str.Parse.{digits_value}
use Rattle.ms_lex.specs.Kinds.{is_number}
use Rattle.ms_ir.specs.declared.names.Ty.{Ty}
use Rattle.ms_ir.specs.declared.names.Ty.TheVariants.{I1, I8, I16, I32, I64, Ptr}
pub use Rattle.ms_ir.specs.Types.{bits}
use Rattle.ms_grammar.specs.Words.{spelling}
use Rattle.ms_grammar.specs.declared.keyword.Keyword.TheVariants.{True, False}

-- the bytes that a number of a type takes in memory
abbrev pub bytes_of : Ty → ℕ
bytes_of I1 = 0
bytes_of I8 = 1
bytes_of I16 = 2
bytes_of I32 = 4
bytes_of I64 = 8
bytes_of Ptr = 0

abbrev pub is_negative : List ℕ → Bool
is_negative [] = false
is_negative (b ∷ bs) = b == 45

-- the value of a number without its sign
abbrev pub magnitude : List ℕ → ℕ
magnitude [] = 0
magnitude (b ∷ bs) = if b == 45 then digits_value 10 bs else digits_value 10 (b ∷ bs)

-- a number from -2^(M-1) to 2^M - 1, modulo 2^M
abbrev pub modulo : ℕ → List ℕ → Option ℕ
modulo m s =
    if is_negative s then (if nat_le (magnitude s) (2 ^ (m - 1)) then Some ((2 ^ m - magnitude s) % 2 ^ m) else None)
    else (if nat_lt (magnitude s) (2 ^ m) then Some (magnitude s) else None)

-- a number from -2^(M-1) to 2^(M-1) - 1
abbrev pub signed : ℕ → List ℕ → Option ℤ
signed m s =
    if is_negative s then (if nat_le (magnitude s) (2 ^ (m - 1)) then Some (pos 0 -ℤ pos (magnitude s)) else None)
    else (if nat_lt (magnitude s) (2 ^ (m - 1)) then Some (pos (magnitude s)) else None)

-- what a token says as a number of a type
pub data Means (ty : Ty) (n : ℕ) (s : List ℕ) : Type 0 where
  numeral : is_number s ≡ true → modulo (bits ty) s ≡ Some n → Means ty n s
  yes : ty ≡ I1 → n ≡ 1 → s ≡ spelling True → Means ty n s
  no : ty ≡ I1 → n ≡ 0 → s ≡ spelling False → Means ty n s

-- a number of 0 or more
pub record IsCount (n : ℕ) (s : List ℕ) : Type 0 where
  pub spelled : is_number s ≡ true
  pub low : is_negative s ≡ true → magnitude s ≡ 0
  pub value : n ≡ magnitude s

-- the printed form: true or false, or the value from -2^(M-1) to 2^(M-1) - 1
abbrev pub signed_text : ℕ → ℕ → List ℕ
signed_text m n = if nat_lt n (2 ^ (m - 1)) then decimal n else 45 ∷ decimal (2 ^ m - n)

abbrev pub number_text : Ty → ℕ → List ℕ
number_text I1 n = if n == 0 then spelling False else spelling True
number_text I8 n = signed_text 8 n
number_text I16 n = signed_text 16 n
number_text I32 n = signed_text 32 n
number_text I64 n = signed_text 64 n
number_text Ptr n = []
