-- What stands in front of tokens.
use Rattle.std.specs.Prelude.{◌≡◌, ◌<◌, ℕ, length, List, ◌++◌, All}
use Rattle.ms_lex.specs.Line.{IsTokenOf}
use Rattle.ms_lex.specs.declared.token.Token.{Token}
use Rattle.ms_ir.specs.declared.names.Ty.{Ty}
use Rattle.ms_grammar.specs.Parts.{Part, Spells}
use Rattle.ms_grammar.specs.Form.{typed_parts, comma_parts}
use Rattle.ms_grammar.specs.Fits.{IsValue}
use Rattle.ms_grammar.specs.declared.line.RawVal.{RawVal}

-- tokens that spell parts
pub record Spelt (line : List ℕ) (tokens : List Token) (ps : List Part) : Type 0 where
  pub spells : Spells line tokens ps

-- these parts do not stand in front
abbrev pub NoLead : List Part → List ℕ → List Token → Type 0
NoLead front line tokens = (ps : List Part) → Spelt line tokens (front ++ ps) → ⊥

-- these parts stand in front, and what follows them is behind them
pub record Leads (front : List Part) (line : List ℕ) (tokens rest : List Token) : Type 0 where
  pub owned : All (IsTokenOf line) rest
  pub shorter : length rest < length tokens
  pub on : (ps : List Part) → Spelt line rest ps → Spelt line tokens (front ++ ps)
  pub back : (ps : List Part) → Spelt line tokens (front ++ ps) → Spelt line rest ps

-- nothing of a kind stands in front
abbrev pub NoFront : {X : Type 0} → (X → Type 0) → (X → List Part) → List ℕ → List Token → Type 0
NoFront {X} Fits parts line tokens = (x : X) (ps : List Part) → Fits x → Spelt line tokens (parts x ++ ps) → ⊥

-- two things are one, and what is behind it spells the rest
pub record Behind {X : Type 0} (y x : X) (line : List ℕ) (rest : List Token) (ps : List Part) : Type 0 where
  pub same : y ≡ x
  pub further : Spelt line rest ps

-- one thing of a kind stands in front, and what follows it is behind it
pub record Front {X : Type 0} (Fits : X → Type 0) (parts : X → List Part) (line : List ℕ) (tokens : List Token) (x : X) (rest : List Token) : Type 0 where
  pub fits : Fits x
  pub owned : All (IsTokenOf line) rest
  pub shorter : length rest < length tokens
  pub on : (ps : List Part) → Spelt line rest ps → Spelt line tokens (parts x ++ ps)
  pub back : (y : X) (ps : List Part) → Fits y → Spelt line tokens (parts y ++ ps) → Behind y x line rest ps

-- no demand
abbrev pub Always : {X : Type 0} → X → Type 0
Always x = Unit {0}

-- a value and its type
abbrev pub IsTyped : Ty × RawVal → Type 0
IsTyped g = IsValue g.0 g.1

abbrev pub typed : Ty × RawVal → List Part
typed g = typed_parts g.0 g.1

abbrev pub further_typed_parts : Ty × RawVal → List Part
further_typed_parts g = comma_parts ++ typed_parts g.0 g.1

-- the same where it depends on what follows
abbrev pub NoFrontIf : {X : Type 0} → (List Part → Type 0) → (X → Type 0) → (X → List Part) → List ℕ → List Token → Type 0
NoFrontIf {X} Next Fits parts line tokens = (x : X) (ps : List Part) → Next ps → Fits x → Spelt line tokens (parts x ++ ps) → ⊥

pub record FrontIf {X : Type 0} (Next : List Part → Type 0) (Fits : X → Type 0) (parts : X → List Part) (line : List ℕ) (tokens : List Token) (x : X) (rest : List Token) : Type 0 where
  pub fits : Fits x
  pub owned : All (IsTokenOf line) rest
  pub shorter : length rest < length tokens
  pub on : (ps : List Part) → Spelt line rest ps → Spelt line tokens (parts x ++ ps)
  pub back : (y : X) (ps : List Part) → Next ps → Fits y → Spelt line tokens (parts y ++ ps) → Behind y x line rest ps

-- the same of a front that may be spelled by nothing
pub record Ahead {X : Type 0} (Next : List Part → Type 0) (Fits : X → Type 0) (parts : X → List Part) (line : List ℕ) (tokens : List Token) (x : X) (rest : List Token) : Type 0 where
  pub fits : Fits x
  pub owned : All (IsTokenOf line) rest
  pub on : (ps : List Part) → Spelt line rest ps → Spelt line tokens (parts x ++ ps)
  pub back : (y : X) (ps : List Part) → Next ps → Fits y → Spelt line tokens (parts y ++ ps) → Behind y x line rest ps
