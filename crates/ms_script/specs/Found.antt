-- What is found among the tokens of a script's line. The contracts of private functions cite it; `Lines` says what a line is.
use Rattle.std.specs.Prelude.{◌≡◌, ℕ, List, [], ◌∷◌, Option, Some, None, slice_get}
use Rattle.ms_lex.specs.declared.token.Token.{Token}
use Rattle.ms_ir.specs.declared.names.FuncNo.{FuncNo}
use Rattle.ms_ir.specs.Func.{FuncState}
use Rattle.ms_ir.specs.Module.{ModuleState, body_of}
use Rattle.ms_ir.specs.declared.names.Name.{Name}
use Rattle.ms_grammar.specs.Parts.{bytes_at}
use Rattle.ms_grammar.specs.Grammar.{Says}
use Rattle.ms_grammar.specs.declared.line.Line.TheVariants as said
use Rattle.ms_grammar.specs.declared.line.RawInst.{RawInst}
use Rattle.ms_script.specs.Calls.{CallsAsThere}
use Rattle.ms_grammar.specs.Limits.{IsWithinLimits}
use Rattle.ms_grammar.specs.declared.line.Line.{Line}
use Rattle.ms_line.specs.declared.fault.LineFault.{LineFault}
use Rattle.ms_line.specs.declared.fault.LineFault.TheVariants as fault
use Rattle.ms_script.specs.Lines.{IsResultName, IsInserted}
use Rattle.ms_script.specs.Verbs.{verb_text}
use Rattle.ms_script.specs.declared.verb.Verb.{Verb}

-- bytes with their mark name this function, which has a body
pub record IsFunc (m : ModuleState) (bytes : List ℕ) (func : FuncNo) : Type 0 where
  pub name : List ℕ
  pub is : bytes ≡ 64 ∷ name
  pub func_is : slice_get m.names.funcs func.0 ≡ Some name
  pub body : FuncState
  pub body_is : body_of m func.0 ≡ Some body

abbrev pub NoFunc : ModuleState → List ℕ → Type 0
NoFunc m bytes = (func : FuncNo) → IsFunc m bytes func → ⊥

-- the word of an edit and a function stand first, and these are behind them
pub record IsFront (m : ModuleState) (line : List ℕ) (tokens : List Token) (verb : Verb) (func : FuncNo) (rest : List Token) : Type 0 where
  pub first : Token
  pub second : Token
  pub whole : tokens ≡ first ∷ second ∷ rest
  pub verb_is : bytes_at line first ≡ verb_text verb
  pub func_is : IsFunc m (bytes_at line second) func

abbrev pub NoFront : ModuleState → List ℕ → List Token → Type 0
NoFront m line tokens = (verb : Verb) (func : FuncNo) (rest : List Token) → IsFront m line tokens verb func rest → ⊥

-- the line is an instruction that a script may have in this module
pub record SaysFitting (m : ModuleState) (line : List ℕ) : Type 0 where
  pub inst : RawInst
  pub result : Name
  pub says : Says line (said.Inst result inst)
  pub named : IsResultName result
  pub called : CallsAsThere m inst

-- a line is an instruction that a script may have
abbrev pub IsFittingInst : ModuleState → Line → Type 0
IsFittingInst m (said.Inst result inst) = IsResultName result × CallsAsThere m inst
IsFittingInst m _ = ⊥

abbrev pub IsNoInst : Line → Type 0
IsNoInst (said.Inst result inst) = ⊥
IsNoInst _ = Unit {0}

-- why a line gives no instruction: it says none that a script may have, or says one that passes a limit
abbrev pub InstCause : ModuleState → List ℕ → LineFault → Type 0
InstCause m line fault.NotOfProfile = SaysFitting m line → ⊥
InstCause m line fault.TooLong = (says : SaysFitting m line) × (IsWithinLimits (said.Inst says.result says.inst) → ⊥)
InstCause m line fault.Memory = Unit {0}

-- the same for what stands behind a colon
abbrev pub InsertedCause : ModuleState → List ℕ → List Token → LineFault → Type 0
InsertedCause m line tokens fault.NotOfProfile = (inst : RawInst) (result : Name) → IsInserted m line tokens inst result → ⊥
InsertedCause m line tokens fault.TooLong =
    (inst : RawInst) × (result : Name) × IsInserted m line tokens inst result × (IsWithinLimits (said.Inst result inst) → ⊥)
InsertedCause m line tokens fault.Memory = Unit {0}
