-- Flags in front of tokens.
use Rattle.std.specs.Prelude.{◌≡◌, ℕ, Bool, false, List, [], ◌∷◌, ◌++◌, All}
use Rattle.ms_lex.specs.Line.{IsTokenOf}
use Rattle.ms_lex.specs.declared.token.Token.{Token}
use Rattle.ms_ir.specs.declared.names.Ty.{Ty}
use Rattle.ms_ir.specs.declared.inst.Flags.{Flags}
use Rattle.ms_grammar.specs.Words.{spelling}
use Rattle.ms_grammar.specs.declared.keyword.Keyword.TheVariants as word
use Rattle.ms_grammar.specs.Parts.{Part, Spells, blank, flag, texts}
use Rattle.ms_grammar.specs.Form.{type_part}
use Rattle.ms_line_insts.specs.Front.{Spelt, Behind}

-- tokens that spell these parts do not begin with a word
abbrev pub NotFirst : List ℕ → List ℕ → List Part → Type 0
NotFirst line w ps = (rest : List Token) (ts : List (List ℕ)) → Spells line rest ps → texts line rest ≡ w ∷ ts → ⊥

-- whether a flag's word stands in front
pub record FlagAt (w : List ℕ) (line : List ℕ) (tokens : List Token) (set : Bool) (rest : List Token) : Type 0 where
  pub owned : All (IsTokenOf line) rest
  pub on : (ps : List Part) → Spelt line rest ps → Spelt line tokens (flag w set ∷ ps)
  pub back : (b : Bool) (ps : List Part) → NotFirst line w ps → Spelt line tokens (flag w b ∷ ps) → Behind b set line rest ps

-- the flags of operations and casts
abbrev pub all_flags : Flags → List Part
all_flags f =
    flag (spelling word.Nneg) f.nneg ∷ flag (spelling word.Nuw) f.nuw ∷ flag (spelling word.Nsw) f.nsw ∷ flag (spelling word.Exact) f.exact
    ∷ flag (spelling word.Disjoint) f.disjoint ∷ []

-- the flags that stand in front of a type
pub record Flagged (line : List ℕ) (tokens : List Token) (flags : Flags) (rest : List Token) : Type 0 where
  pub owned : All (IsTokenOf line) rest
  pub no_sign : flags.samesign ≡ false
  pub on : (ps : List Part) → Spelt line rest ps → Spelt line tokens (all_flags flags ++ ps)
  pub back : (f : Flags) (ty : Ty) (ps : List Part) → f.samesign ≡ false → Spelt line tokens (all_flags f ++ blank ∷ type_part ty ∷ ps) → Behind f flags line rest (blank ∷ type_part ty ∷ ps)
