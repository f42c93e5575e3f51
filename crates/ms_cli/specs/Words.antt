-- What the words after the program's name ask for: a list of passes, each of which prints, and one file; the module's text too, unless
-- they disable it.
use Rattle.std.specs.Prelude.{ℕ, ◌/◌, ◌%◌, Bool, true, false, if◌then◌else◌, not, ◌&&◌, nat_eq, nat_lt, List, [], ◌∷◌, length, Option, Some, None, option_map, codes}
use Rattle.std.specs.List.{starts_with}
use Rattle.std.specs.Str.{bytes_eq}
use Rattle.ms_output.specs.declared.wanted.Wanted.{Wanted}

-- the word for the longest list, of 16 passes
unfoldable pub longest_list : List ℕ
longest_list = codes "--passes=print<memoryssa>,print<memoryssa>,print<memoryssa>,print<memoryssa>,print<memoryssa>,print<memoryssa>,print<memoryssa>,print<memoryssa>,print<memoryssa>,print<memoryssa>,print<memoryssa>,print<memoryssa>,print<memoryssa>,print<memoryssa>,print<memoryssa>,print<memoryssa>"

unfoldable pub disable_word : List ℕ
disable_word = codes "--disable-output"

-- How many passes a word lists: it is a front of the longest one, and ends behind a pass. Before the passes stand 8 bytes, and each pass
-- takes 17 with the byte before it.
abbrev pub prints_of : List ℕ → Option ℕ
prints_of word =
    if starts_with nat_eq longest_list word && nat_lt 8 (length word) && nat_eq (length word % 17) 8 then Some (length word / 17) else None

-- a file's name is not empty, and begins with a dash only where that is all of it: then it is standard input
abbrev pub is_file : List ℕ → Bool
is_file [] = false
is_file (first ∷ []) = true
is_file (first ∷ _ ∷ _) = not (nat_eq first 45)

-- what is to be written for the module, and the file's name
pub record Asked : Type 0 where
  pub wanted : Wanted
  pub file : List ℕ

abbrev pub asked_with : Bool → List ℕ → ℕ → Asked
asked_with shows_module file prints = record { wanted = record { prints = prints; shows_module = shows_module }; file = file }

abbrev pub asked_by : List ℕ → Bool → List ℕ → Option Asked
asked_by passes shows_module file = if is_file file then option_map (asked_with shows_module file) (prints_of passes) else None

-- what the words ask for; none where they are not of the command
abbrev pub asked_of : List (List ℕ) → Option Asked
asked_of [] = None
asked_of (_ ∷ []) = None
asked_of (passes ∷ file ∷ []) = asked_by passes true file
asked_of (passes ∷ flag ∷ file ∷ []) = if bytes_eq flag disable_word then asked_by passes false file else None
asked_of (_ ∷ _ ∷ _ ∷ _ ∷ _) = None

abbrev pub file_in : Asked → List ℕ
file_in asked = asked.file

-- the name of the file that the words name; none where they are not of the command
abbrev pub file_of : List (List ℕ) → Option (List ℕ)
file_of words = option_map file_in (asked_of words)

abbrev pub shows_in : Option Asked → Bool
shows_in None = false
shows_in (Some asked) = asked.wanted.shows_module

-- whether the words ask for the module's text too
abbrev pub asks_module : List (List ℕ) → Bool
asks_module words = shows_in (asked_of words)
