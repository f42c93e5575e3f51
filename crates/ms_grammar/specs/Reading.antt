-- What single words are read as: each function inverts a spelling.
use Rattle.std.specs.Prelude.{ℕ, ◌^◌, nat_lt, ◌&&◌, List, Option, Some, None, if◌then◌else◌, decimal}
use Rattle.std.specs.Str.{bytes_eq}
use Rattle.std.specs.Str.Parse.{digits_value}
use Rattle.ms_lex.specs.Kinds.{is_word, is_number}
use Rattle.ms_ir.specs.declared.names.Ty.{Ty}
use Rattle.ms_ir.specs.declared.names.Ty.TheVariants.{I1, I8, I16, I32, I64, Ptr}
use Rattle.ms_ir.specs.declared.names.Name.{Name}
use Rattle.ms_ir.specs.declared.names.Name.TheVariants as name
use Rattle.ms_grammar.specs.Words.{spelling, type_word}
use Rattle.ms_grammar.specs.Numbers.{bits, modulo}
use Rattle.ms_grammar.specs.declared.keyword.Keyword.TheVariants as word

-- the type that a word names
unfoldable pub type_of : List ℕ → Option Ty
type_of s =
    if bytes_eq s (type_word I1) then Some I1
    else (if bytes_eq s (type_word I8) then Some I8
    else (if bytes_eq s (type_word I16) then Some I16
    else (if bytes_eq s (type_word I32) then Some I32
    else (if bytes_eq s (type_word I64) then Some I64
    else (if bytes_eq s (type_word Ptr) then Some Ptr
    else None)))))

-- the name that bytes behind a mark give
abbrev pub numbered : List ℕ → Option Name
numbered s =
    if nat_lt (digits_value 10 s) (10 ^ 9) && bytes_eq (decimal (digits_value 10 s)) s then Some (name.Number (digits_value 10 s)) else None

unfoldable pub name_of : List ℕ → Option Name
name_of s = if is_word s then Some (name.Word s) else numbered s

-- the number of a type that bytes give
abbrev pub truth_of : Ty → List ℕ → Option ℕ
truth_of I1 s = if bytes_eq s (spelling word.True) then Some 1 else (if bytes_eq s (spelling word.False) then Some 0 else None)
truth_of _ s = None

unfoldable pub number_of : Ty → List ℕ → Option ℕ
number_of ty s = if is_number s then modulo (bits ty) s else truth_of ty s
