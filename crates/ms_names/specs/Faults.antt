-- Which lines have a fault in their names.
use Rattle.std.specs.Prelude.{◌≡◌, ◌<◌, ℕ, Bool, true, false, List, [], ◌∷◌, Some, map, take, slice_get}
use Rattle.std.specs.List.{flat_map}
use Rattle.ms_ir.specs.declared.names.Name.{Name}
use Rattle.ms_ir.specs.declared.names.Name.TheVariants.{Number}
use Rattle.ms_grammar.specs.declared.line.Line.{Line}
use Rattle.ms_grammar.specs.declared.line.Line.TheVariants as said
use Rattle.ms_names.specs.Shape.{InstLine, BlockLines, FuncLines, ItemLines, plain, body}
use Rattle.ms_names.specs.Made.{Made, made_in, named_in, free_after}
use Rattle.ms_names.specs.Used.{Names, inst_names, term_names}

-- a thing stands at a place of a list
abbrev pub IsIn : {X : Type 0} → List X → X → Type 0
IsIn xs x = (k : ℕ) × (slice_get xs k ≡ Some x)

abbrev pub IsNotIn : {X : Type 0} → List X → X → Type 0
IsNotIn xs x = IsIn xs x → ⊥

-- a function or global variable, with the line that makes it
pub record Symbol : Type 0 where
  pub line : ℕ
  pub is_func : Bool
  pub name : List ℕ

abbrev pub line_symbols : ℕ → Line → List Symbol
line_symbols n (said.GlobalVar name text) = record { line = n; is_func = false; name = name } ∷ []
line_symbols n (said.Declare head) = record { line = n; is_func = true; name = head.name } ∷ []
line_symbols n _ = []

abbrev pub item_symbols : ItemLines → List Symbol
item_symbols (plain n line) = line_symbols n line
item_symbols (body f) = record { line = f.line; is_func = true; name = f.head.name } ∷ []

abbrev pub symbols_of : List ItemLines → List Symbol
symbols_of items = flat_map item_symbols items

abbrev pub name_of_symbol : Symbol → List ℕ
name_of_symbol s = s.name

-- the names of functions, and of globals, in the order of their lines
abbrev pub func_names_in : ItemLines → List (List ℕ)
func_names_in (plain n (said.Declare head)) = head.name ∷ []
func_names_in (plain n _) = []
func_names_in (body f) = f.head.name ∷ []

abbrev pub global_names_in : ItemLines → List (List ℕ)
global_names_in (plain n (said.GlobalVar name text)) = name ∷ []
global_names_in _ = []

-- a function or global is made that an earlier one has the name of
pub record IsSymbolAgain (symbols : List Symbol) (n : ℕ) : Type 0 where
  pub first : ℕ
  pub at : ℕ
  pub before : first < at
  pub one : Symbol
  pub other : Symbol
  pub first_is : slice_get symbols first ≡ Some one
  pub at_is : slice_get symbols at ≡ Some other
  pub same : one.name ≡ other.name
  pub on : other.line ≡ n

-- the written number of a thing is less than the next free one
pub record IsTooSmall (made : List Made) (n : ℕ) : Type 0 where
  pub at : ℕ
  pub thing : Made
  pub number : ℕ
  pub found : slice_get made at ≡ Some thing
  pub written : thing.name ≡ Number number
  pub small : number < free_after 0 (take at made)
  pub on : thing.line ≡ n

-- a thing is made that an earlier one has the name of: blocks and locals share their names
pub record IsMadeAgain (named : List Made) (n : ℕ) : Type 0 where
  pub first : ℕ
  pub at : ℕ
  pub before : first < at
  pub one : Made
  pub other : Made
  pub first_is : slice_get named first ≡ Some one
  pub at_is : slice_get named at ≡ Some other
  pub same : one.name ≡ other.name
  pub on : other.line ≡ n

-- what a name names is the first thing that is made with it: here a block, or else a local
pub record NamesFirst (named : List Made) (is_block : Bool) (name : Name) : Type 0 where
  pub at : ℕ
  pub thing : Made
  pub found : slice_get named at ≡ Some thing
  pub kind : thing.is_block ≡ is_block
  pub same : thing.name ≡ name
  pub first : (before : ℕ) (other : Made) → before < at → slice_get named before ≡ Some other → other.name ≡ name → ⊥

-- a used name of a local names none, one of a block names none, or a used function or global is made nowhere
pub data UsesUnknown (named : List Made) (known : List (List ℕ)) (used : Names) : Type 0 where
  local : (name : Name) → IsIn used.locals name → (NamesFirst named false name → ⊥) → UsesUnknown named known used
  block : (name : Name) → IsIn used.blocks name → (NamesFirst named true name → ⊥) → UsesUnknown named known used
  global : (name : List ℕ) → IsIn used.symbols name → IsNotIn known name → UsesUnknown named known used

-- a line of the function, with the names that it uses
pub data StandsAt (f : FuncLines) (n : ℕ) (used : Names) : Type 0 where
  inst : (b : BlockLines) (x : InstLine) → IsIn f.blocks b → IsIn b.insts x → x.line ≡ n → used ≡ inst_names x.inst → StandsAt f n used
  term : (b : BlockLines) → IsIn f.blocks b → b.end.line ≡ n → used ≡ term_names b.end.term → StandsAt f n used

-- a line of a function has a fault in its names, under these names of functions and globals
pub data HasFaultIn (known : List (List ℕ)) (f : FuncLines) (n : ℕ) : Type 0 where
  small : IsTooSmall (made_in f) n → HasFaultIn known f n
  again : IsMadeAgain (named_in f) n → HasFaultIn known f n
  unknown : (used : Names) → StandsAt f n used → UsesUnknown (named_in f) known used → HasFaultIn known f n

-- a line of the module has one
pub data HasNameFault (items : List ItemLines) (n : ℕ) : Type 0 where
  symbol : IsSymbolAgain (symbols_of items) n → HasNameFault items n
  inside : (f : FuncLines) → IsIn items (body f) → HasFaultIn (map name_of_symbol (symbols_of items)) f n → HasNameFault items n
