-- What single bytes stand for in a line.
use Rattle.std.specs.Prelude.{ℕ, Bool, ◌||◌, ◌==◌, not, nat_eq, codes, ◌&&◌}
use Rattle.std.specs.Char.{is_ascii_alphabetic, is_ascii_digit}
use Rattle.std.specs.List.{list_any}

-- a letter or one of $ . _
abbrev pub starts_word : ℕ → Bool
starts_word b = is_ascii_alphabetic b || (b == 36 || (b == 46 || b == 95))

-- a letter, a digit or one of - $ . _
abbrev pub continues_word : ℕ → Bool
continues_word b = starts_word b || (is_ascii_digit b || b == 45)

-- a space, a tab or a carriage return
abbrev pub is_separator : ℕ → Bool
is_separator b = b == 32 || (b == 9 || b == 13)

-- one of ( ) { } [ ] < > , = : * + |
unfoldable pub is_mark : ℕ → Bool
is_mark b = list_any (λ mark. nat_eq mark b) (codes "(){}[]<>,=:*+|")

-- what may stand between the quotes of a string: no quote and no line's end
abbrev pub is_quotable : ℕ → Bool
is_quotable b = not (b == 34) && not (b == 10)
