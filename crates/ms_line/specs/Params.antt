-- The parameters of a function's line, read from its tokens. Each record says that what was found takes these tokens, and that
-- whatever else spells them takes the same ones.
use Rattle.std.specs.Prelude.{◌≡◌, ℕ, ◌<◌, ◌≤◌, Bool, true, false, List, [], ◌∷◌, ◌++◌, length, drop, map}
use Rattle.ms_lex.specs.declared.token.Token.{Token}
use Rattle.ms_ir.specs.declared.names.Name.{Name}
use Rattle.ms_ir.specs.declared.names.Name.TheVariants as name
use Rattle.ms_ir.specs.declared.names.Param.{Param}
use Rattle.ms_grammar.specs.Kept.{Each}
use Rattle.ms_grammar.specs.Parts.{Part, Spells}
use Rattle.ms_grammar.specs.Form.{word_part, named_parts, param_parts, dots_parts, listed}
use Rattle.ms_grammar.specs.Fits.{MayBeNamed, IsParam}
use Rattle.ms_grammar.specs.declared.keyword.Keyword.TheVariants as word
use Rattle.ms_grammar.proofs.Args.{BeginsMark}
use Rattle.ms_line.specs.declared.params.FoundParam.{FoundParam}
use Rattle.ms_line.specs.declared.params.FoundParams.{FoundParams}
use Rattle.ms_line.specs.declared.params.Next.{Next}
use Rattle.ms_line.specs.declared.params.Next.TheVariants.{Dots, More, Last}

-- how many tokens spell a name that may be absent
abbrev pub taken_by : Name → ℕ
taken_by (name.Word _) = 1
taken_by (name.Number _) = 1
taken_by name.Absent = 0

-- a local, or no name
pub record IsNameFirst (line : List ℕ) (tokens : List Token) (n : Name) : Type 0 where
  pub fits : MayBeNamed n
  pub within : taken_by n ≤ length tokens
  pub on : (ps : List Part) → Spells line (drop (taken_by n) tokens) ps → Spells line tokens (named_parts n ++ ps)
  pub back : (m : Name) (ps : List Part) → MayBeNamed m → BeginsMark line ps → Spells line tokens (named_parts m ++ ps) → Spells line (drop (taken_by n) tokens) ps

abbrev pub NoParam : List ℕ → List Token → Type 0
NoParam line tokens = (p : Param) (ps : List Part) → IsParam p → BeginsMark line ps → Spells line tokens (param_parts p ++ ps) → ⊥

pub record IsParamFirst (line : List ℕ) (tokens : List Token) (found : FoundParam) : Type 0 where
  pub fits : IsParam found.param
  pub within : found.taken ≤ length tokens
  pub on : (ps : List Part) → Spells line (drop found.taken tokens) ps → Spells line tokens (param_parts found.param ++ ps)
  pub back : (p : Param) (ps : List Part) → IsParam p → BeginsMark line ps → Spells line tokens (param_parts p ++ ps) → Spells line (drop found.taken tokens) ps

-- the members of a list, and its closing parenthesis
abbrev pub list_parts : List Param → Bool → List Part → List Part
list_parts xs variadic ps = listed (map param_parts xs ++ dots_parts variadic) ++ word_part word.Close ∷ ps

-- the list has a member
abbrev pub HasMember : List Param → Bool → Type 0
HasMember [] variadic = variadic ≡ true
HasMember (x ∷ xs) variadic = Unit {0}

-- a list with a member
pub record IsList (line : List ℕ) (tokens : List Token) (ps : List Part) : Type 0 where
  pub params : List Param
  pub variadic : Bool
  pub some : HasMember params variadic
  pub fits : Each IsParam params
  pub spelled : Spells line tokens (list_parts params variadic ps)

abbrev pub NoNext : List ℕ → List Token → Type 0
NoNext line tokens = (ps : List Part) → IsList line tokens ps → ⊥

-- the dots and the parenthesis behind them
pub record IsDots (line : List ℕ) (tokens : List Token) : Type 0 where
  pub within : 2 ≤ length tokens
  pub on : (ps : List Part) → Spells line (drop 2 tokens) ps → Spells line tokens (list_parts [] true ps)
  pub back : (ps : List Part) → IsList line tokens ps → Spells line (drop 2 tokens) ps

-- a parameter and a comma
pub record IsMore (line : List ℕ) (tokens : List Token) (p : Param) (taken : ℕ) : Type 0 where
  pub fits : IsParam p
  pub some : 0 < taken
  pub within : taken ≤ length tokens
  pub on : (xs : List Param) (v : Bool) (ps : List Part) → HasMember xs v → Spells line (drop taken tokens) (list_parts xs v ps) → Spells line tokens (list_parts (p ∷ xs) v ps)
  pub back : (ps : List Part) → IsList line tokens ps → IsList line (drop taken tokens) ps

-- a parameter and the closing parenthesis
pub record IsLast (line : List ℕ) (tokens : List Token) (p : Param) (taken : ℕ) : Type 0 where
  pub fits : IsParam p
  pub within : taken ≤ length tokens
  pub on : (ps : List Part) → Spells line (drop taken tokens) ps → Spells line tokens (list_parts (p ∷ []) false ps)
  pub back : (ps : List Part) → IsList line tokens ps → Spells line (drop taken tokens) ps

abbrev pub IsNext : List ℕ → List Token → Next → Type 0
IsNext line tokens Dots = IsDots line tokens
IsNext line tokens (More p taken) = IsMore line tokens p taken
IsNext line tokens (Last p taken) = IsLast line tokens p taken

abbrev pub NoParams : List ℕ → List Token → Type 0
NoParams line tokens = (xs : List Param) (v : Bool) (ps : List Part) → Each IsParam xs → Spells line tokens (list_parts xs v ps) → ⊥

pub record AreParams (line : List ℕ) (tokens : List Token) (found : FoundParams) : Type 0 where
  pub fits : Each IsParam found.params
  pub within : found.taken ≤ length tokens
  pub on : (ps : List Part) → Spells line (drop found.taken tokens) ps → Spells line tokens (list_parts found.params found.variadic ps)
  pub back : (xs : List Param) (v : Bool) (ps : List Part) → Each IsParam xs → Spells line tokens (list_parts xs v ps) → Spells line (drop found.taken tokens) ps
