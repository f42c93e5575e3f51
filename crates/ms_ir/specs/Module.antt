-- A module as contracts see it: its items in the order of the text, and by number its functions, their bodies and the names.
use Rattle.std.specs.Prelude.{◌≡◌, ◌<◌, ◌^◌, ℕ, List, [], ◌∷◌, length, Option, Some, None, slice_get}
use Rattle.ms_ir.specs.declared.names.FuncNo.{FuncNo}
use Rattle.ms_ir.specs.declared.names.GlobalNo.{GlobalNo}
use Rattle.ms_ir.specs.declared.module.Item.{Item}
use Rattle.ms_ir.specs.declared.module.Item.TheVariants.{Kept, Global, Declared, Defined}
use Rattle.ms_ir.specs.declared.module.Sig.{Sig}
use Rattle.ms_ir.specs.Func.{FuncState}
use Rattle.ms_ir.specs.Symbols.{NamesState, NotNamed, AreDistinct}

pub record ModuleState : Type 0 where
  pub groups : List (ℕ × List ℕ)
  pub items : List Item
  pub sigs : List Sig
  pub bodies : List (Option FuncState)
  pub names : NamesState

-- a global's line
abbrev pub global_line : GlobalNo → List ℕ → Item
global_line g text = Global g text

-- neither a function nor a global has this name
abbrev pub IsNew : NamesState → List ℕ → Type 0
IsNew names name = NotNamed names.funcs name × NotNamed names.globals name

-- what is there, where something is
abbrev pub body_in : Option (Option FuncState) → Option FuncState
body_in None = None
body_in (Some body) = body

-- the body of a function, where it has one that is not taken
abbrev pub body_of : ModuleState → ℕ → Option FuncState
body_of m f = body_in (slice_get m.bodies f)

-- the module has an item that defines this function
abbrev pub IsDefined : ModuleState → FuncNo → Type 0
IsDefined m f = (n : ℕ) × (slice_get m.items n ≡ Some (Defined f))

-- the functions of these items, in their order
abbrev pub funcs_in : List Item → List ℕ
funcs_in [] = []
funcs_in (Kept text ∷ items) = funcs_in items
funcs_in (Global g text ∷ items) = funcs_in items
funcs_in (Declared f text ∷ items) = f.0 ∷ funcs_in items
funcs_in (Defined f ∷ items) = f.0 ∷ funcs_in items

-- the globals of these items, in their order
abbrev pub globals_in : List Item → List ℕ
globals_in [] = []
globals_in (Kept text ∷ items) = globals_in items
globals_in (Global g text ∷ items) = g.0 ∷ globals_in items
globals_in (Declared f text ∷ items) = globals_in items
globals_in (Defined f ∷ items) = globals_in items

-- the numbers from 0 on below n
pub record CountsUp (n : ℕ) (xs : List ℕ) : Type 0 where
  pub len : length xs ≡ n
  pub each : (k : ℕ) → k < n → slice_get xs k ≡ Some k

-- Functions and globals are numbered in the order of their items, each name stands once, and only a defined function has a body.
pub record IsWhole (m : ModuleState) : Type 0 where
  pub funcs : CountsUp (length m.names.funcs) (funcs_in m.items)
  pub globals : CountsUp (length m.names.globals) (globals_in m.items)
  pub sigs : length m.sigs ≡ length m.names.funcs
  pub bodies : length m.bodies ≡ length m.names.funcs
  pub defined : (f : FuncNo) (body : FuncState) → slice_get m.bodies f.0 ≡ Some (Some body) → IsDefined m f
  pub func_names : AreDistinct m.names.funcs
  pub global_names : AreDistinct m.names.globals
  pub apart : (i j : ℕ) (name : List ℕ) → slice_get m.names.funcs i ≡ Some name → slice_get m.names.globals j ≡ Some name → ⊥
  pub few : length m.items < 2 ^ 32
