-- What a path passes, and the part of a path up to it.
use Rattle.std.proofs.Common.{◌≡◌, ◌<◌, ◌≤◌, ◌⊎◌, ℕ, List, [], ◌∷◌, length, Some, sym, subst, inl, inr, ⊎_elim, arith}
use Rattle.std.specs.Prelude.{Contains, slice_get}
use Rattle.std.proofs.lemmas.Bool.{cases_eq, cases_lt}
use Rattle.ms_paths.specs.Flow.{Block as Run, IsPath, IsMet}
use Rattle.ms_ir.specs.Func.{Placed, FuncState, insts_at}
use Rattle.ms_ir.specs.Graph.{graph_of}
use Rattle.ms_ir.specs.Locals.{IsNumbered}
use Rattle.ms_flow.proofs.Members.{in_cons, in_none, in_or_not, there}
use Rattle.ms_edited.proofs.OnPaths.{met_stands}
use Rattle.ms_sound.proofs.Orders.{Passes}

pub passes_or : (c j b k : ℕ) (p : List ℕ) → Passes c j b k p ⊎ (Passes c j b k p → ⊥)
passes_or c j b k p =
    ⊎_elim
    (λ (there : Contains p c). inl (inr there))
    (λ (not : Contains p c → ⊥).
    ⊎_elim
    (λ (e : c ≡ b).
    ⊎_elim
    (λ (lt : j < k). inl (inl (e, lt)))
    (λ (ge : k ≤ j). inr (λ h. ⊎_elim (λ (x : (c ≡ b) × (j < k)). let l = x.1 in absurd (omega arith)) (λ (x : Contains p c). not x) h))
    (cases_lt j k))
    (λ (n : c ≡ b → ⊥). inr (λ h. ⊎_elim (λ (x : (c ≡ b) × (j < k)). n x.0) (λ (x : Contains p c). not x) h))
    (cases_eq c b))
    (in_or_not p c)

-- the part of a path up to a block that it passes
pub record Front (g : List Run) (c : ℕ) (p : List ℕ) : Type 0 where
  pub path : List ℕ
  pub is_path : IsPath g c path
  pub shorter : length path < length p

pub front : (g : List Run) (b : ℕ) (p : List ℕ) (c : ℕ) → IsPath g b p → Contains p c → Front g c p
front g b [] c h m = absurd (in_none c m)
front g b (a ∷ p) c h m =
    ⊎_elim
    (λ (e : a ≡ c). record { path = p; is_path = subst (λ x. IsPath g x p) e h.1; shorter = omega arith })
    (λ (i : Contains p c).
    let r = front g a p c h.1 i in
    record { path = r.path; is_path = r.is_path; shorter = (let l = r.shorter in omega arith) })
    (in_cons a p c m)

-- an instruction is met where its place is passed
module _ (f : FuncState) (numbered : IsNumbered f) (c j : ℕ) (x : Placed) (found : slice_get (insts_at f.blocks c) j ≡ Some x) where
  pub met_passes : (b k : ℕ) (p : List ℕ) → IsMet (graph_of f.blocks) x.number b k p → Passes c j b k p
  met_passes b k p m = of (met_stands f.blocks x.number b k p m) where
    of : ((i : ℕ) × (y : Placed) × (slice_get (insts_at f.blocks b) i ≡ Some y) × (y.number ≡ x.number) × (i < k))
        ⊎ ((a : ℕ) × Contains p a × (i : ℕ) × (y : Placed) × (slice_get (insts_at f.blocks a) i ≡ Some y) × (y.number ≡ x.number))
        → Passes c j b k p
    of (inl (i, y, there, is, less)) =
        let one = numbered.one_place c j b i x y found there (sym is) in
        inl (one.0, (let e = one.1 in omega arith))
    of (inr (a, on, i, y, there, is)) =
        let one = numbered.one_place c j a i x y found there (sym is) in
        inr (subst (λ d. Contains p d) (sym one.0) on)
