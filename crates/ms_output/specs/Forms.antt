-- What is written for a module: the printed forms of its functions, and its text.
use Rattle.std.specs.Prelude.{◌≡◌, ℕ, zero, suc, List, [], ◌∷◌, ◌++◌, Some, slice_get, if◌then◌else◌, codes}
use Rattle.ms_ir.specs.Func.{FuncState}
use Rattle.ms_ir.specs.SoundFunc.{IsSoundFunc}
use Rattle.ms_ir.specs.Module.{ModuleState}
use Rattle.ms_ir.specs.Symbols.{NamesState}
use Rattle.ms_print.specs.Text.{module_text}
use Rattle.ms_session.specs.Annotated.{IsAnnotated}
use Rattle.ms_alias.specs.Offsets.{AreOffsetsNear}
use Rattle.ms_grammar.specs.Kept.{Each}
use Rattle.ms_grammar.specs.Limits.{IsSmall}
use Rattle.ms_grammar.specs.declared.line.Line.{Line}
use Rattle.ms_validity.specs.Faults.{bodies_there}
use Rattle.ms_output.specs.declared.wanted.Wanted.{Wanted}

unfoldable pub header_part : List ℕ
header_part = codes "MemorySSA for function: "

unfoldable pub line_feed : List ℕ
line_feed = codes "\n"

-- a printed form: a header line, the annotated text, an empty line
abbrev pub form_text : List ℕ → List ℕ → List ℕ
form_text name annotated = header_part ++ name ++ line_feed ++ annotated ++ line_feed

-- this is the printed form of a function
pub record IsForm (names : NamesState) (f : FuncState) (form : List ℕ) : Type 0 where
  pub annotated : List ℕ
  pub says : IsAnnotated names f annotated
  pub form_is : form ≡ form_text f.name annotated

-- a text so many times
abbrev pub times : ℕ → List ℕ → List ℕ
times zero text = []
times (suc n) text = times n text ++ text

-- the printed forms of functions in their order, each so many times
abbrev pub AreForms : NamesState → ℕ → List FuncState → List ℕ → Type 0
AreForms names prints [] text = text ≡ []
AreForms names prints (f ∷ fs) text =
    (form : List ℕ) × (rest : List ℕ) × IsForm names f form × AreForms names prints fs rest × (text ≡ times prints form ++ rest)

-- the text is what is written for a module: its printed forms, and the module's text where it is asked for
pub record IsWrittenOf (wanted : Wanted) (m : ModuleState) (text : List ℕ) : Type 0 where
  pub forms : List ℕ
  pub formed : AreForms m.names wanted.prints (bodies_there m) forms
  pub text_is : text ≡ forms ++ (if wanted.shows_module then module_text m else [])

-- each function with a body may be opened
abbrev pub AreOpen : ModuleState → Type 0
AreOpen m = (n : ℕ) (f : FuncState) → slice_get m.bodies n ≡ Some (Some f) → IsSoundFunc f × AreOffsetsNear f

-- each instruction of a draft is within its limits
abbrev pub IsSmallAt : ℕ × Line → Type 0
IsSmallAt line = IsSmall line.1

abbrev pub AreSmall : List (ℕ × Line) → Type 0
AreSmall draft = Each IsSmallAt draft
