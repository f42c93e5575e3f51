-- What is found of an instruction: all of it, or that it passes a limit.
use Rattle.std.specs.Prelude.{◌≡◌, ℕ, Bool, true, false, List}
use Rattle.ms_lex.specs.declared.token.Token.{Token}
use Rattle.ms_grammar.specs.Form.{Scale, inst_parts, term_parts}
use Rattle.ms_grammar.specs.Fits.{FitsInst, FitsTerm}
use Rattle.ms_grammar.specs.Limits.{IsSmallInst}
use Rattle.ms_grammar.specs.Parts.{Spells}
use Rattle.ms_grammar.specs.declared.line.RawInst.{RawInst}
use Rattle.ms_grammar.specs.declared.line.RawInst.TheVariants.{Alloca, Gep, Step, Load, Store, Copy, Call, Bin, Cmp, Select, Cast, Phi}
use Rattle.ms_grammar.specs.declared.line.RawTerm.{RawTerm}
use Rattle.ms_line_insts.specs.declared.found.FoundInst.{FoundInst}
use Rattle.ms_line_insts.specs.declared.found.FoundInst.TheVariants.{Whole, Past}

-- tokens spell an instruction
pub record SpellInst (line : List ℕ) (tokens : List Token) (inst : RawInst) : Type 0 where
  pub scale : Scale
  pub spelled : Spells line tokens (inst_parts scale inst)
  pub fits : FitsInst scale inst

-- tokens spell a terminator
pub record SpellTerm (line : List ℕ) (tokens : List Token) (term : RawTerm) : Type 0 where
  pub spelled : Spells line tokens (term_parts term)
  pub fits : FitsTerm term

abbrev pub is_alloca : RawInst → Bool
is_alloca (Alloca _ _ _) = true
is_alloca (Gep _ _ _ _ _) = false
is_alloca (Step _ _ _ _ _ _) = false
is_alloca (Load _ _ _) = false
is_alloca (Store _ _ _ _) = false
is_alloca (Copy _ _ _ _ _ _) = false
is_alloca (Call _ _ _ _ _ _) = false
is_alloca (Bin _ _ _ _ _ _) = false
is_alloca (Cmp _ _ _ _ _ _) = false
is_alloca (Select _ _ _ _ _) = false
is_alloca (Cast _ _ _ _ _ _) = false
is_alloca (Phi _ _ _) = false

-- what is told of an instruction
abbrev pub Tells : RawInst → FoundInst → Type 0
Tells inst (Whole found) = (found ≡ inst) × IsSmallInst inst
Tells inst (Past alloca) = (alloca ≡ is_alloca inst) × (IsSmallInst inst → ⊥)

-- what is found of tokens that spell an instruction
abbrev pub IsFound : List ℕ → List Token → FoundInst → Type 0
IsFound line tokens f = (inst : RawInst) × SpellInst line tokens inst × Tells inst f
