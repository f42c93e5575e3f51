-- What the first byte of a token tells of its kind.
use Rattle.std.specs.Prelude.{◌≡◌, ℕ, false, ◌==◌, List, [], ◌∷◌, Option, Some, None, if◌then◌else◌}
use Rattle.std.specs.Char.{is_ascii_digit}
use Rattle.ms_lex.specs.Bytes.{starts_word, is_mark}
use Rattle.ms_lex.specs.declared.token.TokenKind.{TokenKind}
use Rattle.ms_lex.specs.declared.token.TokenKind.TheVariants.{Word, Local, Global, Number, Quoted, Group, Meta, Punct}

-- the only kind whose tokens may begin with a byte
abbrev pub first_kind : ℕ → Option TokenKind
first_kind b =
    if starts_word b then Some Word
    else (if is_ascii_digit b then Some Number
    else (if is_mark b then Some Punct
    else (if b == 45 then Some Number
    else (if b == 37 then Some Local
    else (if b == 64 then Some Global
    else (if b == 34 then Some Quoted
    else (if b == 35 then Some Group
    else (if b == 33 then Some Meta
    else None))))))))

-- the bytes do not begin with this one
abbrev pub StartsNot : ℕ → List ℕ → Type 0
StartsNot first [] = Unit {0}
StartsNot first (b ∷ bs) = (b == first) ≡ false
