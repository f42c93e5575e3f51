-- Fronts that are cut off by a test on them and on what follows.
use Rattle.std.specs.Prelude.{◌≡◌, ℕ, true, false, List, ◌∷◌, ◌++◌, All}
use Rattle.ms_lex.specs.Line.{IsTokenOf}
use Rattle.ms_lex.specs.declared.token.Token.{Token}
use Rattle.ms_grammar.specs.Parts.{texts, bytes_at}
use Rattle.ms_grammar.specs.Kept.{AreMany, IsAttribute, IsPostItem, IsTailItem, IsObject, IndexItem, AreWoven, IsCallMark, IsCallType}
use Rattle.ms_grammar.specs.Scan.{Stops, IsMember, IsListMark}

-- one way to cut off a front that passes a test, where what follows passes another: none, or this one
abbrev pub NoCut : (List Token → Type 0) → (List Token → Type 0) → List Token → Type 0
NoCut Passes Next tokens = (run rest : List Token) → tokens ≡ run ++ rest → Passes run → Next rest → ⊥

pub record SameCut (run us rest vs : List Token) : Type 0 where
  pub front : run ≡ us
  pub behind : rest ≡ vs

pub record Cut (Passes Next : List Token → Type 0) (line : List ℕ) (tokens us vs : List Token) : Type 0 where
  pub whole : tokens ≡ us ++ vs
  pub passes : Passes us
  pub owned : All (IsTokenOf line) us
  pub behind : All (IsTokenOf line) vs
  pub one : (run rest : List Token) → tokens ≡ run ++ rest → Passes run → Next rest → SameCut run us rest vs

-- what passes as a front
abbrev pub TypesObject : List ℕ → List Token → Type 0
TypesObject line run = (sizes : List ℕ) × IsObject sizes (texts line run)

abbrev pub HasAttributes : List ℕ → List Token → Type 0
HasAttributes line run = AreMany IsAttribute (texts line run)

abbrev pub HasPost : List ℕ → List Token → Type 0
HasPost line run = AreMany IsPostItem (texts line run)

abbrev pub HasIndices : List ℕ → List Token → Type 0
HasIndices line run = (items : List IndexItem) × (names : List (List ℕ)) × AreWoven items names (texts line run)

abbrev pub HasTail : List ℕ → List Token → Type 0
HasTail line run = AreMany IsTailItem (texts line run)

abbrev pub StopsAttributes : List ℕ → List Token → Type 0
StopsAttributes line rest = Stops false (texts line rest)

abbrev pub StopsPost : List ℕ → List Token → Type 0
StopsPost line rest = Stops true (texts line rest)

abbrev pub BeginsCall : List ℕ → List Token → Type 0
BeginsCall line run = IsCallMark (texts line run)

abbrev pub TypesCallee : List ℕ → List Token → Type 0
TypesCallee line run = IsCallType (texts line run)

-- the name of a callee comes first
pub record NamesCallee (line : List ℕ) (rest : List Token) : Type 0 where
  pub callee : Token
  pub more : List Token
  pub name : List ℕ
  pub whole : rest ≡ callee ∷ more
  pub bytes : bytes_at line callee ≡ 64 ∷ name

-- a list's member comes first, and a mark behind it
pub record StartsMember (line : List ℕ) (rest : List Token) : Type 0 where
  pub value : Token
  pub mark : Token
  pub more : List Token
  pub whole : rest ≡ value ∷ mark ∷ more
  pub is_member : IsMember (bytes_at line value)
  pub is_mark : IsListMark (bytes_at line mark)
