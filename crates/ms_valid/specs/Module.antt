-- An accepted module, as it stands: lines of the grammar give its items, its functions and globals are numbered in the order of their items, each name
-- stands once, and each body is there and accepted. Limits are left out.
use Rattle.std.specs.Prelude.{◌≡◌, ◌⊎◌, ℕ, suc, List, [], ◌∷◌, ◌++◌, Some, None, length, slice_get}
use Rattle.ms_ir.specs.declared.module.Item.{Item}
use Rattle.ms_ir.specs.declared.module.Item.TheVariants as item
use Rattle.ms_ir.specs.Func.{FuncState}
use Rattle.ms_ir.specs.Module.{ModuleState}
use Rattle.ms_ir.specs.Symbols.{AreDistinct}
use Rattle.ms_grammar.specs.Form.{printed}
use Rattle.ms_grammar.specs.Grammar.{Says, kept_of}
use Rattle.ms_grammar.specs.declared.line.Head.{Head}
use Rattle.ms_grammar.specs.declared.line.Line.{Line}
use Rattle.ms_grammar.specs.declared.line.Line.TheVariants as said
use Rattle.ms_resolve.specs.Scope.{Meaning, sig_in}
use Rattle.ms_valid.specs.Func.{IsAcceptedFunc}

-- some text says the line
abbrev pub IsSaidLine : Line → Type 0
IsSaidLine line = (bytes : List ℕ) × Says bytes line

-- the name and the signature of the function of this number are those that a first line gives, under the module's groups
pub record IsHeadOf (m : ModuleState) (f : ℕ) (head : Head) : Type 0 where
  pub meaning : Meaning m.groups
  pub name_is : slice_get m.names.funcs f ≡ Some head.name
  pub sig_is : slice_get m.sigs f ≡ Some (sig_in meaning.effects meaning.keeps head)

-- a function without a body, with its declare line, which is kept without the names of its parameters
pub record IsDeclaredBy (m : ModuleState) (f : ℕ) (text : List ℕ) : Type 0 where
  pub head : Head
  pub says : IsSaidLine (said.Declare head)
  pub text_is : text ≡ printed (kept_of (said.Declare head))
  pub head_of : IsHeadOf m f head
  pub body_is : slice_get m.bodies f ≡ Some None

-- a function with its body, whose define line is the one that the accepted body has
pub record IsDefinedBy (m : ModuleState) (f : ℕ) : Type 0 where
  pub func : FuncState
  pub body_is : slice_get m.bodies f ≡ Some (Some func)
  pub accepted : IsAcceptedFunc m func
  pub head_of : IsHeadOf m f accepted.all_said.head

-- a global with its line
pub record IsGlobalBy (m : ModuleState) (g : ℕ) (text : List ℕ) : Type 0 where
  pub name : List ℕ
  pub says : IsSaidLine (said.GlobalVar name text)
  pub name_is : slice_get m.names.globals g ≡ Some name

-- there are as many functions and globals, and no groups are left
pub record IsEnd (m : ModuleState) (f g : ℕ) (groups : List (ℕ × List ℕ)) : Type 0 where
  pub names : length m.names.funcs ≡ f
  pub sigs : length m.sigs ≡ f
  pub bodies : length m.bodies ≡ f
  pub globals : length m.names.globals ≡ g
  pub none_left : groups ≡ []

-- Items that lines give, where these are the next numbers of a function and of a global. The groups are those of the group lines among them, in their
-- order; a kept item is a group line or another one.
abbrev pub AreItems : ModuleState → ℕ → ℕ → List Item → List (ℕ × List ℕ) → Type 0
AreItems m f g [] groups = IsEnd m f g groups
AreItems m f g (item.Kept text ∷ items) groups =
    (IsSaidLine (said.Kept text) × AreItems m f g items groups)
    ⊎ ((n : ℕ) × (rest : List (ℕ × List ℕ)) × IsSaidLine (said.Group n text) × (groups ≡ (n, text) ∷ rest) × AreItems m f g items rest)
AreItems m f g (item.Global number text ∷ items) groups = (number.0 ≡ g) × IsGlobalBy m g text × AreItems m f (suc g) items groups
AreItems m f g (item.Declared number text ∷ items) groups = (number.0 ≡ f) × IsDeclaredBy m f text × AreItems m (suc f) g items groups
AreItems m f g (item.Defined number ∷ items) groups = (number.0 ≡ f) × IsDefinedBy m f × AreItems m (suc f) g items groups

-- Functions and globals share one space of names, in which each name stands once.
pub record IsAcceptedModule (m : ModuleState) : Type 0 where
  pub items : AreItems m 0 0 m.items m.groups
  pub distinct : AreDistinct (m.names.funcs ++ m.names.globals)
