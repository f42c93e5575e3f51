-- What stands behind the function of a script's line. The contracts of private functions cite it; `Lines` says what a line is.
use Rattle.std.specs.Prelude.{◌≡◌, ℕ, List, Option}
use Rattle.ms_lex.specs.declared.token.Token.{Token}
use Rattle.ms_ir.specs.declared.names.FuncNo.{FuncNo}
use Rattle.ms_ir.specs.declared.names.Name.{Name}
use Rattle.ms_ir.specs.Module.{ModuleState}
use Rattle.ms_grammar.specs.Form.{name_text}
use Rattle.ms_grammar.specs.Limits.{IsShort, IsWithinLimits}
use Rattle.ms_grammar.specs.declared.line.Line.TheVariants as said
use Rattle.ms_line.specs.declared.fault.LineFault.{LineFault}
use Rattle.ms_line.specs.declared.fault.LineFault.TheVariants as fault
use Rattle.ms_script.specs.Lines.{verb_of, block_of, number_of, IsSpot, Ends, SaysEdit, IsSmallEdit, IsSmall}
use Rattle.ms_script.specs.Script.{SaysNothing}
use Rattle.ms_script.specs.declared.verb.Verb.{Verb}
use Rattle.ms_script.specs.declared.edit.RawEdit.{RawEdit}
use Rattle.ms_script.specs.declared.edit.RawEdit.TheVariants.{Insert, Remove, Move, Unlink}

-- an edit of this word, block and number, with these tokens behind them
pub record IsEnded (m : ModuleState) (line : List ℕ) (verb : Verb) (block : Name) (number : ℕ) (tokens : List Token) (edit : RawEdit) : Type 0 where
  pub verb_is : verb_of edit ≡ verb
  pub block_is : block_of edit ≡ block
  pub number_is : number_of edit ≡ number
  pub ends : Ends m line tokens edit

-- the instruction of an edit is within the limits of lines, and so are the names of its blocks
abbrev pub IsSmallInside : RawEdit → Type 0
IsSmallInside (Insert block place inst result) = IsWithinLimits (said.Inst result inst)
IsSmallInside (Remove block place) = Unit {0}
IsSmallInside (Move block place to_block to_place) = Unit {0}
IsSmallInside (Unlink block slot) = Unit {0}

abbrev pub AreShortBlocks : RawEdit → Type 0
AreShortBlocks (Insert block place inst result) = IsShort (name_text block)
AreShortBlocks (Remove block place) = IsShort (name_text block)
AreShortBlocks (Move block place to_block to_place) = IsShort (name_text block) × IsShort (name_text to_block)
AreShortBlocks (Unlink block slot) = IsShort (name_text block)

-- why tokens behind a block and a number are no end of an edit
abbrev pub EndCause : ModuleState → List ℕ → Verb → Name → ℕ → List Token → LineFault → Type 0
EndCause m line verb block number tokens fault.NotOfProfile = (edit : RawEdit) → verb_of edit ≡ verb → Ends m line tokens edit → ⊥
EndCause m line verb block number tokens fault.TooLong = (edit : RawEdit) × IsEnded m line verb block number tokens edit × (IsSmallEdit edit → ⊥)
EndCause m line verb block number tokens fault.Memory = Unit {0}

-- an edit of this word, with its block and its number first among tokens
pub record IsSpotted (m : ModuleState) (line : List ℕ) (verb : Verb) (tokens : List Token) (edit : RawEdit) : Type 0 where
  pub rest : List Token
  pub verb_is : verb_of edit ≡ verb
  pub spot_is : IsSpot line (block_of edit) (number_of edit) tokens rest
  pub ends : Ends m line rest edit

abbrev pub SpotCause : ModuleState → List ℕ → Verb → List Token → LineFault → Type 0
SpotCause m line verb tokens fault.NotOfProfile = (edit : RawEdit) → IsSpotted m line verb tokens edit → ⊥
SpotCause m line verb tokens fault.TooLong = (edit : RawEdit) × IsSpotted m line verb tokens edit × (IsSmallEdit edit → ⊥)
SpotCause m line verb tokens fault.Memory = Unit {0}

-- why a line gives no edit
abbrev pub LineCause : ModuleState → List ℕ → LineFault → Type 0
LineCause m line fault.NotOfProfile = SaysNothing m line
LineCause m line fault.TooLong = (one : Option (FuncNo × RawEdit)) × SaysEdit m line one × (IsSmall one → ⊥)
LineCause m line fault.Memory = Unit {0}
