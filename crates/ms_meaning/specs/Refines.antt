-- That one function may stand for another.
use Rattle.std.specs.Prelude.{◌≡◌, ◌≢◌, ◌≤◌, ℕ, map}
use Rattle.ms_ir.specs.declared.names.GlobalNo.{GlobalNo}
use Rattle.ms_ir.specs.Func.{FuncState}
use Rattle.ms_meaning.specs.States.{Input, IsInput, NamesGlobal, type_of_param}
use Rattle.ms_meaning.specs.Runs.{Wrong, run}

-- n steps of f are not wrong
abbrev pub IsMeant : FuncState → Input → ℕ → Type 0
IsMeant f input n = run f input n ≢ Wrong

-- For every input of f: what f shows without being wrong, g shows after at most as many steps. And where f is never wrong, g shows nothing
-- that f does not show after at least as many steps: g does not end where f goes on.
pub record Refines (g f : FuncState) : Type 0 where
  pub shows : (input : Input) → IsInput f input → (n : ℕ) → IsMeant f input n → (m : ℕ) × (m ≤ n) × (run g input m ≡ run f input n)
  pub no_more : (input : Input) → IsInput f input → ((n : ℕ) → IsMeant f input n) → (m : ℕ) → (n : ℕ) × (m ≤ n) × (run f input n ≡ run g input m)

-- g has f's parameter types, and names no global that f does not name
pub record HasInputsOf (g f : FuncState) : Type 0 where
  pub params : map type_of_param g.params ≡ map type_of_param f.params
  pub globals : (k : GlobalNo) → NamesGlobal g k → NamesGlobal f k
