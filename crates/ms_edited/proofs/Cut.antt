-- An instruction is taken out: where the others stood, and what each of them keeps.
use Rattle.std.proofs.Common.{◌≡◌, ◌∙◌, ◌<◌, ◌⊎◌, ◌^◌, ℕ, List, Some, sym, ap, subst, inl, inr}
use Rattle.std.specs.Prelude.{slice_get}
use Rattle.ms_ir.specs.declared.names.LocalNo.{LocalNo}
use Rattle.ms_ir.specs.Func.{Placed, Block, FuncState, insts_at, cut_at}
use Rattle.ms_ir.specs.Locals.{IsGiver, IsNumbered}
use Rattle.ms_edited.proofs.Places.{moved, cut_moves, cut_term, cut_size, moved_up, moved_one, moved_not, each_moved}
use Rattle.ms_edited.proofs.Shape.{IsShaped, entries_back}

module _ (blocks : List Block) (b p : ℕ) where
  abbrev left : List Block
  left = cut_at blocks b p

  pub from_cut : (c k : ℕ) (x : Placed) → slice_get (insts_at left c) k ≡ Some x → slice_get (insts_at blocks c) (moved b p c k) ≡ Some x
  from_cut c k x found = sym (cut_moves blocks b p c k) ∙ found

  -- what stood at a place is the instruction that was taken, or is still there
  abbrev IsCutOrLeft : ℕ → ℕ → Placed → Type 0
  IsCutOrLeft c k x = ((c ≡ b) × (k ≡ p)) ⊎ ((j : ℕ) × (moved b p c j ≡ k) × (slice_get (insts_at left c) j ≡ Some x))

  pub to_cut : (c k : ℕ) (x : Placed) → slice_get (insts_at blocks c) k ≡ Some x → IsCutOrLeft c k x
  to_cut c k x found = elim (each_moved b p c k) [
    | inl here ↦ inl here
    | inr other ↦ inr (other.0, other.1, cut_moves blocks b p c other.0 ∙ ap (slice_get (insts_at blocks c)) other.1 ∙ found)
  ]

  pub cut_shaped : ((c k : ℕ) (x : Placed) → slice_get (insts_at blocks c) k ≡ Some x → IsShaped blocks c k x.inst)
      → (c k : ℕ) (x : Placed) → slice_get (insts_at left c) k ≡ Some x → IsShaped left c k x.inst
  cut_shaped shapes c k x found =
      let s = shapes c (moved b p c k) x (from_cut c k x found) in
      record {
        types = s.types;
        alloca = s.alloca;
        phi = λ e j y less at. s.phi e (moved b p c j) y (moved_up b p c j k less) (from_cut c j y at);
        entered = s.entered;
        entries = λ bad. s.entries (entries_back blocks left (cut_term blocks b p) c x.inst bad);
      }

abbrev pub with_cut : FuncState → ℕ → ℕ → FuncState
with_cut f b p = record f { blocks = cut_at f.blocks b p }

-- what gives a local gave it
giver_was : (blocks : List Block) (b p : ℕ) (l : LocalNo) (c k : ℕ) (x : Placed) → IsGiver (cut_at blocks b p) l c k x → IsGiver blocks l c (moved b p c k) x
giver_was blocks b p l c k x h = record { found = from_cut blocks b p c k x h.found; gives = h.gives }

pub cut_numbered : (f : FuncState) (b p : ℕ) → IsNumbered f → IsNumbered (with_cut f b p)
cut_numbered f b p n = record {
  one_place = λ c j d k x y hx hy e.
      let one = n.one_place c (moved b p c j) d (moved b p d k) x y (from_cut f.blocks b p c j x hx) (from_cut f.blocks b p d k y hy) e in
      (one.0, same c j d k one.0 one.1);
  below_made = λ c j x hx. n.below_made c (moved b p c j) x (from_cut f.blocks b p c j x hx);
  one_giver = λ l c j d k x y hx hy.
      let one = n.one_giver l c (moved b p c j) d (moved b p d k) x y (giver_was f.blocks b p l c j x hx) (giver_was f.blocks b p l d k y hy) in
      (one.0, same c j d k one.0 one.1);
  result_range = λ l c j x hx. n.result_range l c (moved b p c j) x (giver_was f.blocks b p l c j x hx);
  gives = λ c j x hx. n.gives c (moved b p c j) x (from_cut f.blocks b p c j x hx);
  few_made = n.few_made;
  few_blocks = subst (λ m. m < 2 ^ 31) (sym (cut_size f.blocks b p)) n.few_blocks;
  few_params = n.few_params;
  few_locals = n.few_locals;
  params_first = n.params_first;
} where
  same : (c j d k : ℕ) → c ≡ d → moved b p c j ≡ moved b p d k → j ≡ k
  same c j d k e is = moved_one b p d j k (ap (λ m. moved b p m j) (sym e) ∙ is)

-- the instruction that is taken has a number and a result that nothing else has
module _ (f : FuncState) (n : IsNumbered f) (b p : ℕ) (m : Placed) (found : slice_get (insts_at f.blocks b) p ≡ Some m) where
  pub number_out : (c k : ℕ) (x : Placed) → slice_get (insts_at (cut_at f.blocks b p) c) k ≡ Some x → x.number ≡ m.number → ⊥
  number_out c k x h e =
      let one = n.one_place c (moved b p c k) b p x m (from_cut f.blocks b p c k x h) found e in
      moved_not b p c k one.0 one.1

  pub local_out : (l : LocalNo) → m.result ≡ Some l → (c k : ℕ) (x : Placed) → IsGiver (cut_at f.blocks b p) l c k x → ⊥
  local_out l e c k x h =
      let one = n.one_giver l c (moved b p c k) b p x m (giver_was f.blocks b p l c k x h) (record { found = found; gives = e }) in
      moved_not b p c k one.0 one.1
