-- The locals among indices, each with the bytes of its level.
use Rattle.std.specs.Prelude.{◌≡◌, ℕ, ◌-◌, ◌^◌, min, nat_lt, Bool, true, false, List, [], ◌∷◌, ◌++◌, Some}
use Rattle.ms_lex.specs.Kinds.{is_token}
use Rattle.ms_lex.specs.declared.token.TokenKind.TheVariants.{Local}
use Rattle.ms_grammar.specs.Form.{index_text}
use Rattle.ms_grammar.specs.Fits.{IsLocal}
use Rattle.ms_grammar.specs.declared.line.RawIndex.{RawIndex}
use Rattle.ms_line_parts.specs.Sizes.{stored_type}

-- a term as it can be held: what it counts by is at most the largest number of 64 bits
abbrev pub held : RawIndex → RawIndex
held t = record { val = t.val; ty = t.ty; scale = min t.scale (2 ^ 64 - 1) }

-- whether a term counts by at most 2^31 bytes
abbrev pub is_small : RawIndex → Bool
is_small t = nat_lt t.scale 2147483649

-- a type and a local behind it, counted by so many bytes, are this term
pub record IsTermAt (size : ℕ) (ty name : List ℕ) (t : RawIndex) : Type 0 where
  pub typed : stored_type ty ≡ Some t.ty
  pub scaled : t.scale ≡ size
  pub a_local : IsLocal t.val
  pub named : name ≡ index_text t

-- what an index adds to terms: a local itself, a number nothing
pub data IsPut (size : ℕ) (ty name : List ℕ) (before after : List RawIndex) : Type 0 where
  number : is_token Local name ≡ false → after ≡ before → IsPut size ty name before after
  variable : (t : RawIndex) → is_token Local name ≡ true → IsTermAt size ty name t → after ≡ before ++ held t ∷ [] → IsPut size ty name before after
