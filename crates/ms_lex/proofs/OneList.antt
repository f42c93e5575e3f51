-- What the definitions of tokens determine, for proofs of other crates too.
use Rattle.std.proofs.Common.{◌≡◌, ℕ, List}
use Rattle.ms_lex.specs.Line.{EndsAfter, IsBadAfter, IsTokens, IsBad}
use Rattle.ms_lex.specs.declared.token.Token.{Token}
use Rattle.ms_lex.proofs.Apart.{next_one, end_no_token, bad_no_token, end_not_bad, follow_one}

-- a line has one list of tokens at most
pub one_list : (line : List ℕ) (a b : List Token) → IsTokens line a → IsTokens line b → a ≡ b
one_list line a b one other =
    (follow_one line (EndsAfter line) (EndsAfter line) (end_no_token line) (end_no_token line) a b 0 one other).tokens

-- a line has one first byte at most that begins no token
pub one_bad_byte : (line : List ℕ) (a b : ℕ) → IsBad line a → IsBad line b → a ≡ b
one_bad_byte line a b one other =
    let same = follow_one line (λ place. IsBadAfter line place a) (λ place. IsBadAfter line place b) (bad_no_token line a) (bad_no_token line b) one.0 other.0 0 one.1 other.1 in
    next_one line same.place a b same.one.next same.other.next

-- a line with a byte that begins no token has no list of tokens
pub no_list : (line : List ℕ) (tokens : List Token) (at : ℕ) → IsTokens line tokens → IsBad line at → ⊥
no_list line tokens at list bad =
    let same = follow_one line (EndsAfter line) (λ place. IsBadAfter line place at) (end_no_token line) (bad_no_token line at) tokens bad.0 0 list bad.1 in
    end_not_bad line same.place at same.one same.other
