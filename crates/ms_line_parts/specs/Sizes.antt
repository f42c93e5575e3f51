-- Types of objects and lists of indices, read from the front of tokens.
use Rattle.std.specs.Prelude.{ℕ, ℤ, ◌*◌, ◌-◌, ◌^◌, min, ◌==◌, zero, suc, Bool, true, false, ◌&&◌, ◌||◌, List, [], ◌∷◌, Option, Some, None, is_some, if◌then◌else◌}
use Rattle.std.specs.Str.{bytes_eq}
use Rattle.ms_lex.specs.Kinds.{is_number, is_token}
use Rattle.ms_lex.specs.declared.token.TokenKind.TheVariants.{Local}
use Rattle.ms_ir.specs.declared.names.Ty.{Ty}
use Rattle.ms_ir.specs.declared.names.Ty.TheVariants.{I1, I8, I16, I32, I64, Ptr}
use Rattle.ms_grammar.specs.Words.{spelling}
use Rattle.ms_grammar.specs.Numbers.{bits, bytes_of, signed, magnitude, is_negative}
use Rattle.ms_grammar.specs.Reading.{type_of}
use Rattle.ms_grammar.specs.declared.keyword.Keyword.TheVariants as word

-- a number of 0 or more
abbrev pub is_count : List ℕ → Bool
is_count n = is_number n && (if is_negative n then magnitude n == 0 else true)

-- the counts of the arrays that open in front, the outermost first
abbrev pub opens_array : List ℕ → List ℕ → List ℕ → Bool
opens_array o n x = bytes_eq o (spelling word.OpenSquare) && (is_count n && bytes_eq x (spelling word.Times))

abbrev pub starts_array : List (List ℕ) → Bool
starts_array [] = false
starts_array (o ∷ []) = false
starts_array (o ∷ (n ∷ [])) = false
starts_array (o ∷ (n ∷ (x ∷ ts))) = opens_array o n x

abbrev pub counts_of : List (List ℕ) → List (List ℕ)
counts_of [] = []
counts_of (o ∷ []) = []
counts_of (o ∷ (n ∷ [])) = []
counts_of (o ∷ (n ∷ (x ∷ ts))) = if opens_array o n x then n ∷ counts_of ts else []

-- a type that has a place in memory
abbrev pub with_place : Option Ty → Option Ty
with_place None = None
with_place (Some I1) = None
with_place (Some I8) = Some I8
with_place (Some I16) = Some I16
with_place (Some I32) = Some I32
with_place (Some I64) = Some I64
with_place (Some Ptr) = None

abbrev pub stored_type : List ℕ → Option Ty
stored_type s = with_place (type_of s)

-- whether so many closing brackets stand in front
abbrev pub closes : ℕ → List (List ℕ) → Bool
closes zero ts = true
closes (suc k) [] = false
closes (suc k) (t ∷ ts) = bytes_eq t (spelling word.CloseSquare) && closes k ts

-- whether the member of so many arrays stands in front, with the brackets that close them
abbrev pub ends_object : ℕ → List (List ℕ) → Bool
ends_object k [] = false
ends_object k (t ∷ ts) = is_some (stored_type t) && closes k ts

-- the value of an index of a type
abbrev pub typed_value : Option Ty → List ℕ → Option ℤ
typed_value None n = None
typed_value (Some ty) n = if is_number n then signed (bits ty) n else None

abbrev pub index_value : List ℕ → List ℕ → Option ℤ
index_value ty n = typed_value (stored_type ty) n

-- a type and a number of it, or a local
abbrev pub is_index : List ℕ → List ℕ → Bool
is_index ty n = is_some (index_value ty n) || (is_some (stored_type ty) && is_token Local n)

-- how many tokens a list of indices has that stands in front
abbrev pub starts_more : List (List ℕ) → Bool
starts_more [] = false
starts_more (c ∷ []) = false
starts_more (c ∷ (ty ∷ [])) = false
starts_more (c ∷ (ty ∷ (n ∷ ts))) = bytes_eq c (spelling word.Comma) && is_index ty n

abbrev pub more_length : List (List ℕ) → ℕ
more_length [] = 0
more_length (c ∷ []) = 0
more_length (c ∷ (ty ∷ [])) = 0
more_length (c ∷ (ty ∷ (n ∷ ts))) = if bytes_eq c (spelling word.Comma) && is_index ty n then suc (suc (suc (more_length ts))) else 0

abbrev pub index_length : List (List ℕ) → ℕ
index_length [] = 0
index_length (ty ∷ []) = 0
index_length (ty ∷ (n ∷ ts)) = if is_index ty n then suc (suc (more_length ts)) else 0

-- the bytes of a type with a place in memory
abbrev pub bytes_with : Option Ty → ℕ
bytes_with None = 0
bytes_with (Some ty) = bytes_of ty

-- the bytes of the type in front, so many times
abbrev pub size_times : ℕ → List (List ℕ) → ℕ
size_times n [] = 0
size_times n (o ∷ []) = n * bytes_with (stored_type o)
size_times n (o ∷ (c ∷ [])) = n * bytes_with (stored_type o)
size_times n (o ∷ (c ∷ (x ∷ ts))) = if opens_array o c x then size_times (n * magnitude c) ts else n * bytes_with (stored_type o)

-- at most the largest number of 128 bits
abbrev pub cut : ℕ → ℕ
cut n = min n (2 ^ 128 - 1)

-- the count of the array that opens in front, and the bytes of the type in front
abbrev pub array_count : List (List ℕ) → Option ℕ
array_count [] = None
array_count (o ∷ []) = None
array_count (o ∷ (n ∷ [])) = None
array_count (o ∷ (n ∷ (x ∷ ts))) = if opens_array o n x then Some (cut (magnitude n)) else None

abbrev pub first_bytes : List (List ℕ) → ℕ
first_bytes [] = 0
first_bytes (t ∷ ts) = bytes_with (stored_type t)

-- the counts of the arrays that open in front, and the bytes of the type behind them
abbrev pub array_counts : List (List ℕ) → List ℕ
array_counts [] = []
array_counts (o ∷ []) = []
array_counts (o ∷ (n ∷ [])) = []
array_counts (o ∷ (n ∷ (x ∷ ts))) = if opens_array o n x then cut (magnitude n) ∷ array_counts ts else []

abbrev pub member_bytes : List (List ℕ) → ℕ
member_bytes [] = first_bytes []
member_bytes (o ∷ []) = first_bytes (o ∷ [])
member_bytes (o ∷ (n ∷ [])) = first_bytes (o ∷ n ∷ [])
member_bytes (o ∷ (n ∷ (x ∷ ts))) = if opens_array o n x then member_bytes ts else first_bytes (o ∷ n ∷ x ∷ ts)

-- the bytes of each level, the outermost first
abbrev pub scaled : ℕ → List ℕ → List ℕ
scaled count [] = []
scaled count (size ∷ sizes) = cut (size * count) ∷ size ∷ sizes

abbrev pub scales : ℕ → List ℕ → List ℕ
scales bytes [] = bytes ∷ []
scales bytes (count ∷ counts) = scaled count (scales bytes counts)
