-- The lines of functions, read from their tokens. Each record says that what was found takes these tokens, and that whatever else
-- spells them takes the same ones.
use Rattle.std.specs.Prelude.{◌≡◌, ℕ, ◌≤◌, true, List, ◌∷◌, ◌++◌, Option, length, drop}
use Rattle.ms_lex.specs.Kinds.{is_word}
use Rattle.ms_lex.specs.declared.token.Token.{Token}
use Rattle.ms_ir.specs.declared.names.Ty.{Ty}
use Rattle.ms_grammar.specs.Parts.{Part, blank, token, apart, attributes, result_word, Spells}
use Rattle.ms_grammar.specs.Form.{word_part, global_part, head_parts}
use Rattle.ms_grammar.specs.Fits.{FitsHead}
use Rattle.ms_grammar.specs.declared.line.Head.{Head}
use Rattle.ms_grammar.specs.declared.keyword.Keyword.{Keyword}
use Rattle.ms_grammar.specs.declared.keyword.Keyword.TheVariants as word
use Rattle.ms_grammar.proofs.Both.{StopsAll}
use Rattle.ms_line.specs.declared.heads.Signature.{Signature}
use Rattle.ms_line.specs.declared.heads.Front.{Front}
use Rattle.ms_line.specs.declared.heads.FoundHead.{FoundHead}

-- what a function gives, its name, and the opening parenthesis
abbrev pub signature_parts : Option Ty → List ℕ → List Part → List Part
signature_parts ret name ps = token (result_word ret) ∷ blank ∷ global_part name ∷ word_part word.Open ∷ ps

abbrev pub NoSignature : List ℕ → List Token → Type 0
NoSignature line tokens = (ret : Option Ty) (name : List ℕ) (ps : List Part) → Spells line tokens (signature_parts ret name ps) → ⊥

pub record IsSignature (line : List ℕ) (tokens : List Token) (found : Signature) : Type 0 where
  pub word : is_word found.name ≡ true
  pub within : 3 ≤ length tokens
  pub on : (ps : List Part) → Spells line (drop 3 tokens) ps → Spells line tokens (signature_parts found.ret found.name ps)
  pub back : (ret : Option Ty) (name : List ℕ) (ps : List Part) → Spells line tokens (signature_parts ret name ps) → Spells line (drop 3 tokens) ps

-- the line up to its opening parenthesis
abbrev pub opening_parts : Keyword → List ℕ → Option Ty → List ℕ → List Part → List Part
opening_parts k attrs ret name ps = word_part k ∷ apart attributes attrs ∷ blank ∷ signature_parts ret name ps

abbrev pub NoFront : Keyword → List ℕ → List Token → Type 0
NoFront k line tokens = (attrs : List ℕ) (ret : Option Ty) (name : List ℕ) (ps : List Part) → Spells line tokens (opening_parts k attrs ret name ps) → ⊥

pub record IsFront (k : Keyword) (line : List ℕ) (tokens : List Token) (found : Front) : Type 0 where
  pub word : is_word found.signature.name ≡ true
  pub within : found.taken ≤ length tokens
  pub on : (ps : List Part) → Spells line (drop found.taken tokens) ps → Spells line tokens (opening_parts k found.attrs found.signature.ret found.signature.name ps)
  pub back : (attrs : List ℕ) (ret : Option Ty) (name : List ℕ) (ps : List Part) → Spells line tokens (opening_parts k attrs ret name ps) → Spells line (drop found.taken tokens) ps

abbrev pub NoHead : Keyword → List ℕ → List Token → Type 0
NoHead k line tokens = (h : Head) (ps : List Part) → FitsHead h → StopsAll true line ps → Spells line tokens (head_parts k h ++ ps) → ⊥

pub record IsHead (k : Keyword) (line : List ℕ) (tokens : List Token) (found : FoundHead) : Type 0 where
  pub fits : FitsHead found.head
  pub within : found.taken ≤ length tokens
  pub on : (ps : List Part) → Spells line (drop found.taken tokens) ps → Spells line tokens (head_parts k found.head ++ ps)
  pub back : (h : Head) (ps : List Part) → FitsHead h → StopsAll true line ps → Spells line tokens (head_parts k h ++ ps) → Spells line (drop found.taken tokens) ps
