-- The phis that stand first in a block.
use Rattle.std.proofs.Common.{◌≡◌, ◌∙◌, ◌<◌, ℕ, zero, suc, Bool, true, cond, List, [], ◌∷◌, Some, refl, sym, ap, subst, arith}
use Rattle.std.specs.Prelude.{slice_get}
use Rattle.ms_ir.specs.Func.{Placed}
use Rattle.ms_meaning.specs.Steps.{is_phi, phis_among}

-- a phi behind phis alone is one of them
pub among_phis : (xs : List Placed) (k : ℕ) (x : Placed) → slice_get xs k ≡ Some x → is_phi x.inst ≡ true → ((j : ℕ) (y : Placed) → j < k → slice_get xs j ≡ Some y → is_phi y.inst ≡ true) → k < phis_among xs
among_phis [] k x e p h = cc
among_phis (y ∷ xs) zero x e p h =
    let one : y ≡ x = cc in
    let t : is_phi y.inst ≡ true = ap (λ (z : Placed). is_phi z.inst) one ∙ p in
    subst (λ (b : Bool). 0 < cond b (suc (phis_among xs)) 0) (sym t) (omega arith)
among_phis (y ∷ xs) (suc k) x e p h =
    let t : is_phi y.inst ≡ true = h 0 y (omega arith) refl in
    let rest : k < phis_among xs = among_phis xs k x e p (λ j z less. h (suc j) z (omega arith)) in
    subst (λ (b : Bool). suc k < cond b (suc (phis_among xs)) 0) (sym t) (omega arith)
