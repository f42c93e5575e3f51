-- Where an instruction can be put: behind the phis, which come first.
use Rattle.std.proofs.Common.{◌≡◌, ◌∙◌, ◌+◌, ◌<◌, ◌≤◌, ◌⊎◌, ℕ, zero, suc, Bool, true, List, length, Option, Some, None, refl, sym, ap, inl, inr, arith}
use Rattle.std.specs.Prelude.{IsTrue, ◌↔◌, slice_get, option_map}
use Rattle.std.proofs.lemmas.Bool.{cases_eq, cases_lt}
use Rattle.std.proofs.lemmas.Option.{slice_get_within, same_Some}
use Rattle.ms_ir.specs.declared.names.LocalNo.{LocalNo}
use Rattle.ms_ir.specs.declared.names.Name.{Name}
use Rattle.ms_ir.specs.declared.inst.Inst.{Inst}
use Rattle.ms_ir.specs.declared.func.Node.{Node}
use Rattle.ms_ir.specs.Func.{Placed, Block, FuncState, insts_at, cut_at, parts_of, node_parts}
use Rattle.ms_ir.specs.Types.{is_phi}
use Rattle.ms_ir.specs.SoundFunc.{IsSoundFunc}
use Rattle.ms_ir.specs.Edits.{IsNoBlock, IsNoTarget}
use Rattle.ms_edited.proofs.Places.{behind, moved, moved_up, cut_moves}
use Rattle.ms_edited.proofs.Cut.{from_cut}
use Rattle.ms_edited.proofs.Faults.{there_is}
use Rattle.ms_edits.specs.Told.{IsPhiAt}

-- ---- an instruction that was looked up

pub node_there : (o : Option Placed) (node : Node) → Some (parts_of node) ≡ option_map node_parts o → (x : Placed) × (o ≡ Some x) × (node_parts x ≡ parts_of node)
node_there None node e = cc
node_there (Some x) node e = (x, refl, sym (same_Some (parts_of node) (node_parts x) e))

pub node_gone : (o : Option Placed) → None ≡ option_map node_parts o → o ≡ None
node_gone None e = refl
node_gone (Some x) e = cc

pub same_inst : (x : Placed) (node : Node) → node_parts x ≡ parts_of node → x.inst ≡ node.inst
same_inst x node e = ap (λ (p : Inst × Option LocalNo × Name). p.0) e

pub same_result : (x : Placed) (node : Node) → node_parts x ≡ parts_of node → x.result ≡ node.result
same_result x node e = ap (λ (p : Inst × Option LocalNo × Name). p.1) e

-- ---- places behind one that is put

behind_told : (p k : ℕ) → ((k < p) × (behind p k ≡ k)) ⊎ ((p ≤ k) × (behind p k ≡ suc k))
behind_told zero k = inr (omega arith, refl)
behind_told (suc p) zero = inl (omega arith, refl)
behind_told (suc p) (suc k) = elim (behind_told p k) [
  | inl low ↦ inl (omega (arith, low.0), ap suc low.1)
  | inr high ↦ inr (omega (arith, high.0), ap suc high.1)
]

-- what is below the place in its block stays, the rest of the block moves up by one, and other blocks stay
abbrev pub IsMovedSo : ℕ → ℕ → ℕ → ℕ → Type 0
IsMovedSo b p c k = ((c ≡ b) × (k < p) × (moved b p c k ≡ k)) ⊎ (((c ≡ b) × (p ≤ k) × (moved b p c k ≡ suc k)) ⊎ ((c ≡ b → ⊥) × (moved b p c k ≡ k)))

pub moved_told : (b p c k : ℕ) → IsMovedSo b p c k
moved_told zero p zero k = elim (behind_told p k) [
  | inl low ↦ inl (refl, low.0, low.1)
  | inr high ↦ inr (inl (refl, high.0, high.1))
]
moved_told zero p (suc c) k = inr (inr ((λ e. omega arith), refl))
moved_told (suc b) p zero k = inr (inr ((λ e. omega arith), refl))
moved_told (suc b) p (suc c) k = elim (moved_told b p c k) [
  | inl low ↦ inl (ap suc low.0, low.1, low.2)
  | inr rest ↦ elim rest [
    | inl high ↦ inr (inl (ap suc high.0, high.1, high.2))
    | inr other ↦ inr (inr ((λ e. other.0 (omega (arith, e))), other.1))
  ]
]

pub moved_is : (b p c k r : ℕ) → (b ≡ c → p ≤ k → r ≡ k + 1) → (b ≡ c → k < p → r ≡ k) → ((b ≡ c → ⊥) → r ≡ k) → r ≡ moved b p c k
moved_is b p c k r up low out = elim (moved_told b p c k) [
  | inl a ↦ low (sym a.0) a.1 ∙ sym a.2
  | inr rest ↦ elim rest [
    | inl a ↦ (let e = up (sym a.0) a.1 in omega (arith, e, a.2))
    | inr a ↦ out (λ e. a.0 (sym e)) ∙ sym a.1
  ]
]

-- ---- phis come first

abbrev pub ArePhisFirst : List Placed → Type 0
ArePhisFirst xs = (j i : ℕ) (x y : Placed) → slice_get xs j ≡ Some x → is_phi x.inst ≡ true → i < j → slice_get xs i ≡ Some y → is_phi y.inst ≡ true

pub phis_first : (f : FuncState) → IsSoundFunc f → (b : ℕ) → ArePhisFirst (insts_at f.blocks b)
phis_first f sound b j i x y found is less at = (sound.insts b j x found).phi is i y less at

pub phis_first_left : (f : FuncState) → IsSoundFunc f → (b p c : ℕ) → ArePhisFirst (insts_at (cut_at f.blocks b p) c)
phis_first_left f sound b p c j i x y found is less at =
    phis_first f sound c (moved b p c j) (moved b p c i) x y (from_cut f.blocks b p c j x found) is (moved_up b p c i j less) (from_cut f.blocks b p c i y at)

pub target_told : (xs : List Placed) (p : ℕ) (t : Bool) → ArePhisFirst xs → p ≤ length xs → (IsTrue t ↔ IsPhiAt xs p) → IsTrue t ↔ IsNoTarget xs p
target_told xs p t first le told = (
  λ s. let h = told.0 s in inl (p, h.0, h.1, h.2, omega arith),
  λ h. told.1 (elim h [
    | inl phi ↦ elim (cases_eq p phi.0) [
      | inl same ↦ (phi.1, ap (slice_get xs) same ∙ phi.2, phi.3)
      | inr other ↦
          let within = slice_get_within xs phi.0 phi.1 phi.2 in
          let y = there_is xs p (let le' = phi.4 in omega (arith, within, le')) in
          (y.0, y.1, first phi.0 p phi.1 y.0 phi.2 phi.3 (let le' = phi.4 in omega (arith, other, le')) y.1)
    ]
    | inr past ↦ absurd (omega (arith, past, le))
  ]),
)

-- a phi stands at a place of what is left where it stood
pub phi_left : (blocks : List Block) (b p c k r : ℕ) (t : Bool) → r ≡ moved b p c k → (IsTrue t ↔ IsPhiAt (insts_at blocks c) r) → IsTrue t ↔ IsPhiAt (insts_at (cut_at blocks b p) c) k
phi_left blocks b p c k r t is told =
    let same : slice_get (insts_at (cut_at blocks b p) c) k ≡ slice_get (insts_at blocks c) r = cut_moves blocks b p c k ∙ ap (slice_get (insts_at blocks c)) (sym is) in (
      λ s. (let h = told.0 s in (h.0, same ∙ h.1, h.2)),
      λ h. told.1 (h.0, sym same ∙ h.1, h.2),
    )

pub in_func : (f : FuncState) (b : ℕ) → (IsNoBlock f b → ⊥) → b < length f.blocks
in_func f b h = elim (cases_lt b (length f.blocks)) [
  | inl lt ↦ lt
  | inr past ↦ absurd (h past)
]
