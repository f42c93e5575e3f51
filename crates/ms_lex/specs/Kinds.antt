-- For each kind of token, the byte strings that are tokens of it.
use Rattle.std.specs.Prelude.{ℕ, Bool, false, ◌||◌, ◌&&◌, ◌==◌, List, [], ◌∷◌}
use Rattle.std.specs.Char.{is_ascii_digit}
use Rattle.std.specs.List.{list_all}
use Rattle.ms_lex.specs.Bytes.{starts_word, continues_word, is_mark, is_quotable}
use Rattle.ms_lex.specs.declared.token.TokenKind.{TokenKind}
use Rattle.ms_lex.specs.declared.token.TokenKind.TheVariants.{Word, Local, Global, Number, Quoted, Group, Meta, Punct}

-- a byte, and then what passes a test
abbrev pub behind : ℕ → (List ℕ → Bool) → List ℕ → Bool
behind first test [] = false
behind first test (b ∷ bs) = b == first && test bs

-- a byte that passes one test, and then any bytes that pass another
abbrev pub opens : (ℕ → Bool) → (ℕ → Bool) → List ℕ → Bool
opens first rest [] = false
opens first rest (b ∷ bs) = first b && list_all rest bs

-- a letter or one of $ . _, then any letters, digits and - $ . _
abbrev pub is_word : List ℕ → Bool
is_word = opens starts_word continues_word

-- digits, at least one
abbrev pub is_digits : List ℕ → Bool
is_digits = opens is_ascii_digit is_ascii_digit

-- a word or digits
abbrev pub is_name : List ℕ → Bool
is_name s = is_word s || is_digits s

-- any bytes but quotes and line's ends, and then a quote
abbrev pub is_quotation : List ℕ → Bool
is_quotation [] = false
is_quotation (b ∷ []) = b == 34
is_quotation (b ∷ (c ∷ bs)) = is_quotable b && is_quotation (c ∷ bs)

-- one byte, a mark
abbrev pub is_one_mark : List ℕ → Bool
is_one_mark [] = false
is_one_mark (b ∷ []) = is_mark b
is_one_mark (b ∷ (c ∷ bs)) = false

-- digits, with a - before them where wanted
abbrev pub is_number : List ℕ → Bool
is_number s = is_digits s || behind 45 is_digits s

-- whether bytes are a token of a kind
abbrev pub is_token : TokenKind → List ℕ → Bool
is_token Word = is_word
is_token Local = behind 37 is_name
is_token Global = behind 64 is_word
is_token Number = is_number
is_token Quoted = behind 34 is_quotation
is_token Group = behind 35 is_digits
is_token Meta = behind 33 (list_all continues_word)
is_token Punct = is_one_mark
