-- What an edit without a fault has, and what becomes of the function.
use Rattle.std.proofs.Common.{◌≡◌, ◌∙◌, ◌<◌, ◌≤◌, ℕ, true, List, length, Option, Some, sym, ap, subst, inl, inr}
use Rattle.std.specs.Prelude.{slice_get, slice_index_or}
use Rattle.std.proofs.lemmas.Bool.{cases_lt}
use Rattle.ms_ir.specs.declared.names.BlockNo.{BlockNo}
use Rattle.ms_ir.specs.declared.names.Name.{Name}
use Rattle.ms_ir.specs.declared.inst.Inst.{Inst}
use Rattle.ms_ir.specs.declared.inst.Term.{Term}
use Rattle.ms_ir.specs.declared.inst.Term.TheVariants.{Br, CondBr, Ret, Unreachable}
use Rattle.ms_ir.specs.declared.inst.Edit.TheVariants.{Insert, Remove, Move, Unlink}
use Rattle.ms_ir.specs.declared.faults.EditFault.TheVariants as fault
use Rattle.ms_ir.specs.Func.{Placed, FuncState, IsAt, IsTaken, IsShifted, insts_at, no_block, cut_at, put_at}
use Rattle.ms_ir.specs.Changes.{IsCondBr}
use Rattle.ms_ir.specs.Locals.{IsNumbered}
use Rattle.ms_ir.specs.Edits.{edited, is_movable, term_at, put_again, IsNoTarget, IsFaultless}
use Rattle.ms_edited.proofs.Faults.{block_in, place_in, movable_is, movable_at}

-- an instruction can be put at such a place
below_end : (xs : List Placed) (p : ℕ) → (IsNoTarget xs p → ⊥) → p ≤ length xs
below_end xs p fine = elim (cases_lt (length xs) p) [
  | inl past ↦ absurd (fine (inr past))
  | inr le ↦ le
]

pub record CanPut (f : FuncState) (b p : ℕ) (inst : Inst) : Type 0 where
  pub block : b < length f.blocks
  pub place : p ≤ length (insts_at f.blocks b)
  pub movable : is_movable inst ≡ true

pub can_put : (f : FuncState) (b : BlockNo) (p : ℕ) (inst : Inst) (name : Name) → IsFaultless f (Insert b p inst name) → CanPut f b.0 p inst
can_put f b p inst name fine = record {
  block = block_in f b.0 (λ no_block. fine fault.Name (inl no_block));
  place = below_end (insts_at f.blocks b.0) p (fine fault.Place);
  movable = movable_is inst (fine fault.Kind);
}

-- an instruction stands there that may be taken
pub record CanTake (f : FuncState) (b p : ℕ) : Type 0 where
  pub block : b < length f.blocks
  pub place : p < length (insts_at f.blocks b)
  pub movable : (x : Placed) → slice_get (insts_at f.blocks b) p ≡ Some x → is_movable x.inst ≡ true

pub can_take : (f : FuncState) (b : BlockNo) (p : ℕ) → IsFaultless f (Remove b p) → CanTake f b.0 p
can_take f b p fine = record {
  block = block_in f b.0 (fine fault.Name);
  place = place_in (insts_at f.blocks b.0) p (fine fault.Place);
  movable = λ x at. movable_at f b.0 p x (fine fault.Kind) at;
}

pub can_leave : (f : FuncState) (b : BlockNo) (p : ℕ) (c : BlockNo) (q : ℕ) → IsFaultless f (Move b p c q) → CanTake f b.0 p
can_leave f b p c q fine = record {
  block = block_in f b.0 (λ no_block. fine fault.Name (inl no_block));
  place = place_in (insts_at f.blocks b.0) p (λ past. fine fault.Place (inl past));
  movable = λ x at. movable_at f b.0 p x (fine fault.Kind) at;
}

pub can_come : (f : FuncState) (b : BlockNo) (p : ℕ) (c : BlockNo) (q : ℕ) → IsFaultless f (Move b p c q)
    → (c.0 < length f.blocks) × (q ≤ length (insts_at (cut_at f.blocks b.0 p) c.0))
can_come f b p c q fine =
    (block_in f c.0 (λ no_block. fine fault.Name (inr no_block)), below_end (insts_at (cut_at f.blocks b.0 p) c.0) q (λ bad. fine fault.Place (inr bad)))

-- ---- one number, one place
module _ (f : FuncState) (one : IsNumbered f) (n b p c q : ℕ) (x y : Placed) (at : IsAt f.blocks n b p x) (also : IsAt f.blocks n c q y) where
  both_places : (b ≡ c) × (p ≡ q)
  both_places = one.one_place b p c q x y at.found also.found (at.numbered ∙ sym also.numbered)

  pub one_block : b ≡ c
  one_block = both_places.0

  pub one_place : p ≡ q
  one_place = both_places.1

  pub one_inst : x ≡ y
  one_inst =
      let here : slice_get (insts_at f.blocks c) q ≡ Some x = subst (λ k. slice_get (insts_at f.blocks c) k ≡ Some x) one_place (subst (λ d. slice_get (insts_at f.blocks d) p ≡ Some x) one_block at.found) in
      let same : Some x ≡ Some y = sym here ∙ also.found in
      cc

pub taken_is : (f g : FuncState) (n b p : ℕ) (x : Placed) (inst : Inst) → IsNumbered f → IsAt f.blocks n b p x → IsTaken f g n inst → g ≡ record f { blocks = cut_at f.blocks b p }
taken_is f g n b p x inst one at t =
    t.rest ∙ ap (λ (c : ℕ). record f { blocks = cut_at f.blocks c t.place }) (one_block f one n t.b t.place b p t.x x t.at at)
    ∙ ap (λ (k : ℕ). record f { blocks = cut_at f.blocks b k }) (one_place f one n t.b t.place b p t.x x t.at at)

pub taken_inst : (f g : FuncState) (n b p : ℕ) (x : Placed) (inst : Inst) → IsNumbered f → IsAt f.blocks n b p x → IsTaken f g n inst → inst ≡ x.inst
taken_inst f g n b p x inst one at t = t.inst_is ∙ ap (λ (z : Placed). z.inst) (one_inst f one n t.b t.place b p t.x x t.at at)

pub shifted_is : (f g : FuncState) (n : ℕ) (b : BlockNo) (p : ℕ) (c : BlockNo) (q : ℕ) (x : Placed) → IsNumbered f → IsAt f.blocks n b.0 p x → IsShifted f g n c.0 q → g ≡ edited f (Move b p c q)
shifted_is f g n b p c q x one at s =
    let found : slice_get (insts_at f.blocks b.0) p ≡ Some s.x = at.found ∙ sym (ap Some (one_inst f one n s.b s.place b.0 p s.x x s.at at)) in
    s.rest ∙ ap (λ (d : ℕ). record f { blocks = put_at (cut_at f.blocks d s.place) c.0 q s.x }) (one_block f one n s.b s.place b.0 p s.x x s.at at)
    ∙ ap (λ (k : ℕ). record f { blocks = put_at (cut_at f.blocks b.0 k) c.0 q s.x }) (one_place f one n s.b s.place b.0 p s.x x s.at at)
    ∙ ap (λ (o : Option Placed). record f { blocks = put_again (cut_at f.blocks b.0 p) c.0 q o }) (sym found)

pub come_place : (f : FuncState) → IsNumbered f → (b : BlockNo) (p : ℕ) (c : BlockNo) (q : ℕ) → IsFaultless f (Move b p c q) → (n : ℕ) (x : Placed) → IsAt f.blocks n b.0 p x
    → (from at : ℕ) (y : Placed) → IsAt f.blocks n from at y → q ≤ length (insts_at (cut_at f.blocks from at) c.0)
come_place f one b p c q fine n x is from at y also =
    subst (λ d. q ≤ length (insts_at (cut_at f.blocks d at) c.0)) (one_block f one n b.0 p from at x y is also)
    (subst (λ k. q ≤ length (insts_at (cut_at f.blocks b.0 k) c.0)) (one_place f one n b.0 p from at x y is also) (can_come f b p c q fine).1)

-- ---- an edge
cond_is : (t : Term) → ((IsCondBr t → ⊥) → ⊥) → IsCondBr t
cond_is (Br a text) h = h (λ no. no)
cond_is (CondBr cond a b text) h = tt
cond_is (Ret v text) h = h (λ no. no)
cond_is (Unreachable text) h = h (λ no. no)

pub record CanCut (f : FuncState) (b slot : ℕ) : Type 0 where
  pub block : b < length f.blocks
  pub branch : IsCondBr (slice_index_or f.blocks b no_block).term
  pub slot_is : slot < 2

pub can_cut : (f : FuncState) (b : BlockNo) (slot : ℕ) → IsFaultless f (Unlink b slot) → CanCut f b.0 slot
can_cut f b slot fine = record {
  block = block_in f b.0 (fine fault.Name);
  branch = cond_is (term_at f.blocks b.0) (λ no_branch. fine fault.NoEdge (inl no_branch));
  slot_is = elim (cases_lt slot 2) [
    | inl lt ↦ lt
    | inr past ↦ absurd (fine fault.NoEdge (inr past))
  ];
}
