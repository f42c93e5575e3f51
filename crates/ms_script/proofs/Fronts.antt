-- What stands at the front of a line's tokens.
use Rattle.std.proofs.Common.{◌≡◌, ℕ, List, [], ◌∷◌, refl, sym, ap, subst, ◌∙◌, IsTrue}
use Rattle.ms_lex.specs.declared.token.Token.{Token}
use Rattle.ms_ir.specs.declared.names.Name.{Name}
use Rattle.ms_ir.specs.declared.names.FuncNo.{FuncNo}
use Rattle.ms_ir.specs.Module.{ModuleState}
use Rattle.ms_grammar.specs.Parts.{bytes_at}
use Rattle.ms_grammar.specs.Form.{name_text}
use Rattle.ms_grammar.proofs.Both.{name_one, behind_first}
use Rattle.ms_script.specs.Lines.{IsPlace, IsSpot, IsTarget}
use Rattle.ms_script.specs.Found.{NoFunc, IsFunc, NoFront, IsFront}

pub no_func_front : (m : ModuleState) (line : List ℕ) (tokens ts rest : List Token) (t u : Token) → tokens ≡ t ∷ ts → ts ≡ u ∷ rest → NoFunc m (bytes_at line u) → NoFront m line tokens
no_func_front m line tokens ts rest t u e f none = λ verb func behind h.
    let cells : t ∷ u ∷ rest ≡ h.first ∷ h.second ∷ behind = ap (λ x. t ∷ x) (sym f) ∙ sym e ∙ h.whole in
    let same : h.second ≡ u = cc in
    none func (subst (λ x. IsFunc m (bytes_at line x) func) same h.func_is)

-- a block and a number are one, and so is what is behind them
pub record SameSpot (block other : Name) (n k : ℕ) (rest left : List Token) : Type 0 where
  pub block_is : block ≡ other
  pub number_is : n ≡ k
  pub rest_is : rest ≡ left

pub one_spot : (line : List ℕ) (a b : Name) (n k : ℕ) (tokens rest left : List Token) → IsSpot line a n tokens rest → IsSpot line b k tokens left → SameSpot a b n k rest left
one_spot line a b n k tokens rest left x y =
    let cells : x.local ∷ x.numeral ∷ rest ≡ y.local ∷ y.numeral ∷ left = sym x.whole ∙ y.whole in
    let local : x.local ≡ y.local = cc in
    let numeral : x.numeral ≡ y.numeral = cc in
    let bytes : 37 ∷ name_text a ≡ 37 ∷ name_text b = sym x.block_is ∙ ap (λ t. bytes_at line t) local ∙ y.block_is in
    record {
      block_is = name_one a b x.named y.named (behind_first 37 37 (name_text a) (name_text b) bytes);
      number_is = x.number_is.count.value ∙ sym (subst (λ t. IsPlace k (bytes_at line t)) (sym numeral) y.number_is).count.value;
      rest_is = cc;
    }

-- a target's spot stands behind its word
pub target_spot : (line : List ℕ) (b : Name) (k : ℕ) (tokens spot : List Token) (t : Token) → tokens ≡ t ∷ spot → IsTarget line b k tokens → IsSpot line b k spot []
target_spot line b k tokens spot t e y =
    let cells : t ∷ spot ≡ y.to ∷ y.spot = sym e ∙ y.whole in
    let same : y.spot ≡ spot = cc in
    subst (λ x. IsSpot line b k x []) same y.spot_is

-- a spot behind which tokens stand is no target's
pub no_more : (line : List ℕ) (a : Name) (n : ℕ) (tokens spot rest : List Token) (t : Token) → tokens ≡ t ∷ spot → IsSpot line a n spot rest → (rest ≡ [] → ⊥)
    → (b : Name) (k : ℕ) → IsTarget line b k tokens → ⊥
no_more line a n tokens spot rest t e x some b k y = some (one_spot line a b n k spot rest [] x (target_spot line b k tokens spot t e y)).rest_is
