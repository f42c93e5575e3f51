-- Where names stand in a list.
use Rattle.std.specs.Prelude.{ℕ, Bool, List, Option, Some, None, is_some, position, if◌then◌else◌}
use Rattle.std.specs.Str.{bytes_eq}
use Rattle.ms_ir.specs.declared.names.Name.{Name}
use Rattle.ms_names.specs.Made.{is_same_name}

-- the first place of a word, and of a name
abbrev pub word_place : List (List ℕ) → List ℕ → Option ℕ
word_place words w = position (bytes_eq w) words

abbrev pub name_place : List Name → Name → Option ℕ
name_place names n = position (is_same_name n) names

abbrev pub is_word_there : List (List ℕ) → List ℕ → Bool
is_word_there words w = is_some (word_place words w)

abbrev pub is_name_there : List Name → Name → Bool
is_name_there names n = is_some (name_place names n)

-- the first place, where a further thing is here or not
abbrev pub or_here : Option ℕ → Bool → ℕ → Option ℕ
or_here (Some k) here place = Some k
or_here None here place = if here then Some place else None
