-- A body that is taken out of a module and put back leaves the module as it was.
use Rattle.std.proofs.Common.{◌≡◌, ℕ, zero, suc, true, false, is_some, List, [], ◌∷◌, Option, Some, None, refl, sym, ap, ◌∙◌, slice_get, slice_set}
use Rattle.ms_ir.specs.Func.{FuncState}
use Rattle.ms_ir.specs.Module.{ModuleState, body_in}

abbrev Bodies : Type 0
Bodies = List (Option FuncState)

pub set_there : (xs : Bodies) (i : ℕ) (v x : Option FuncState) → slice_get xs i ≡ Some x → slice_get (slice_set xs i v) i ≡ Some v
set_there [] i v x e = let k : false ≡ true = ap is_some e in absurd (cc)
set_there (y ∷ xs) zero v x e = refl
set_there (y ∷ xs) (suc i) v x e = set_there xs i v x e

inner_same : (a b : Option FuncState) → Some a ≡ Some b → a ≡ b
inner_same a b e = cc

set_back : (xs : Bodies) (i : ℕ) (v x : Option FuncState) → slice_get xs i ≡ Some x → slice_set (slice_set xs i v) i x ≡ xs
set_back [] i v x e = refl
set_back (y ∷ xs) zero v x e = ap (λ (k : Option FuncState). k ∷ xs) (sym (inner_same y x e))
set_back (y ∷ xs) (suc i) v x e = ap (λ (k : Bodies). y ∷ k) (set_back xs i v x e)

set_none : (xs : Bodies) (i : ℕ) → None ≡ body_in (slice_get xs i) → slice_set xs i None ≡ xs
set_none [] i e = refl
set_none (None ∷ xs) zero e = refl
set_none (Some f ∷ xs) zero e = let k : false ≡ true = ap is_some e in absurd (cc)
set_none (y ∷ xs) (suc i) e = ap (λ (k : Bodies). y ∷ k) (set_none xs i e)

abbrev with_bodies : ModuleState → Bodies → ModuleState
with_bodies m bodies = record m { bodies = bodies }

-- what a module is while a body is taken
abbrev pub without_body : ModuleState → ℕ → ModuleState
without_body m i = with_bodies m (slice_set m.bodies i None)

pub put_back : (m k n : ModuleState) (i : ℕ) (f g : FuncState) → slice_get m.bodies i ≡ Some (Some f) → k ≡ without_body m i → g ≡ f → n ≡ with_bodies k (slice_set k.bodies i (Some g)) → n ≡ m
put_back m k n i f g at taken same put =
    put ∙ ap (λ (x : ModuleState). with_bodies x (slice_set x.bodies i (Some g))) taken
    ∙ ap (λ (x : FuncState). with_bodies m (slice_set (slice_set m.bodies i None) i (Some x))) same
    ∙ ap (with_bodies m) (set_back m.bodies i None (Some f) at)

pub none_taken : (m k : ModuleState) (i : ℕ) → None ≡ body_in (slice_get m.bodies i) → k ≡ without_body m i → k ≡ m
none_taken m k i none taken = taken ∙ ap (with_bodies m) (set_none m.bodies i none)
