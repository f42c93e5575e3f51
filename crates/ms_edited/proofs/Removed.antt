-- An instruction is removed, whose result nothing uses.
use Rattle.std.proofs.Common.{◌≡◌, ◌∙◌, ◌<◌, ℕ, zero, suc, List, [], ◌∷◌, length, map, Some, refl, sym, ap, subst, inl, inr, arith}
use Rattle.std.specs.Prelude.{Contains, slice_get}
use Rattle.ms_paths.specs.Flow.{IsPath, IsMet}
use Rattle.ms_ir.specs.declared.names.BlockNo.{BlockNo}
use Rattle.ms_ir.specs.declared.names.LocalNo.{LocalNo}
use Rattle.ms_ir.specs.declared.inst.Entry.{Entry}
use Rattle.ms_ir.specs.declared.inst.Inst.{Inst}
use Rattle.ms_ir.specs.declared.inst.Inst.TheVariants.{Alloca, Gep, Step, Load, Store, Copy, Call, Bin, Cmp, Select, Cast, Phi}
use Rattle.ms_ir.specs.declared.inst.Term.{Term}
use Rattle.ms_ir.specs.declared.inst.Edit.TheVariants.{Remove}
use Rattle.ms_ir.specs.declared.faults.EditFault.TheVariants as fault
use Rattle.ms_ir.specs.Func.{Placed, FuncState, insts_at}
use Rattle.ms_ir.specs.Graph.{graph_of, successors}
use Rattle.ms_ir.specs.Locals.{IsNumbered}
use Rattle.ms_ir.specs.Uses.{Operand, Use, operands_of, term_operands, used_at, entry_use, uses_at, term_uses_at}
use Rattle.ms_ir.specs.Sound.{IsUsedBefore}
use Rattle.ms_ir.specs.SoundFunc.{IsSoundFunc}
use Rattle.ms_ir.specs.Edits.{edited, term_at, IsFaultless, IsUseIn, IsOperandIn}
use Rattle.ms_edited.proofs.Places.{moved, cut_term, cut_size, moved_down, moved_not, moved_end}
use Rattle.ms_edited.proofs.Shape.{PartIsReducible, IsGivenStill, path_within, same_values, shape_of, old_block, sound_as}
use Rattle.ms_edited.proofs.OnPaths.{met_stands, stands_met}
use Rattle.ms_edited.proofs.Cut.{with_cut, from_cut, to_cut, cut_shaped, cut_numbered}
use Rattle.ms_edited.proofs.Faults.{block_in, place_in}

-- a use of a function without the instruction of a place, and the same use in the function
record IsKept (b p : ℕ) (old new : Use) : Type 0 where
  pub block : new.block ≡ old.block
  pub place : moved b p new.block new.place ≡ old.place
  pub val : new.val ≡ old.val

-- what is used in two ways is one use that is kept
kept_in : {A : Type 0} (b p : ℕ) (F G : A → Use) → ((x : A) → IsKept b p (F x) (G x)) → (xs : List A) (u : Use) → Contains (map G xs) u → (v : Use) × Contains (map F xs) v × IsKept b p v u
kept_in b p F G all [] u (i, lt, is) = absurd (let l : i < 0 = lt in omega arith)
kept_in b p F G all (x ∷ xs) u (zero, lt, is) = (F x, (zero, omega arith, refl), subst (λ (w : Use). IsKept b p (F x) w) is (all x))
kept_in b p F G all (x ∷ xs) u (suc i, lt, is) =
    let r = kept_in b p F G all xs u (i, (let l : suc i < suc (length (map G xs)) = lt in omega arith), is) in
    (r.0, (suc r.1.0, (let l = r.1.1 in omega arith), r.1.2), r.2)

module _ (f : FuncState) (n : IsNumbered f) (b place : ℕ) (in_block : b < length f.blocks) (within : place < length (insts_at f.blocks b)) where
  abbrev g : FuncState
  g = with_cut f b place

  -- ---- uses
  end_kept : (c : ℕ) → moved b place c (length (insts_at g.blocks c)) ≡ length (insts_at f.blocks c)
  end_kept c = moved_end f.blocks b place c in_block within

  used_kept : (c k : ℕ) (o : Operand) → IsKept b place (used_at c (moved b place c k) o) (used_at c k o)
  used_kept c k o = record { block = refl; place = refl; val = refl }

  entry_kept : (e : Entry) → IsKept b place (entry_use f.blocks e) (entry_use g.blocks e)
  entry_kept e = record { block = refl; place = end_kept e.from.0; val = refl }

  abbrev WasUsed : List Use → Use → Type 0
  WasUsed uses u = (v : Use) × Contains uses v × IsKept b place v u

  operands_used : (c k : ℕ) (os : List Operand) (u : Use) → Contains (map (used_at c k) os) u → WasUsed (map (used_at c (moved b place c k)) os) u
  operands_used c k = kept_in b place (used_at c (moved b place c k)) (used_at c k) (used_kept c k)

  inst_used : (c k : ℕ) (inst : Inst) (u : Use) → Contains (uses_at g.blocks c k inst) u → WasUsed (uses_at f.blocks c (moved b place c k) inst) u
  inst_used c k (Phi ty entries tail) = kept_in b place (entry_use f.blocks) (entry_use g.blocks) entry_kept entries
  inst_used c k (Alloca size head tail) = operands_used c k (operands_of (Alloca size head tail))
  inst_used c k (Gep base offset head index tail) = operands_used c k (operands_of (Gep base offset head index tail))
  inst_used c k (Step base offset terms head index tail) = operands_used c k (operands_of (Step base offset terms head index tail))
  inst_used c k (Load ty ptr tail) = operands_used c k (operands_of (Load ty ptr tail))
  inst_used c k (Store ty val ptr tail) = operands_used c k (operands_of (Store ty val ptr tail))
  inst_used c k (Copy to from len head tail) = operands_used c k (operands_of (Copy to from len head tail))
  inst_used c k (Call callee ret args effects head tail) = operands_used c k (operands_of (Call callee ret args effects head tail))
  inst_used c k (Bin op flags ty x y tail) = operands_used c k (operands_of (Bin op flags ty x y tail))
  inst_used c k (Cmp pred flags ty x y tail) = operands_used c k (operands_of (Cmp pred flags ty x y tail))
  inst_used c k (Select cond ty x y tail) = operands_used c k (operands_of (Select cond ty x y tail))
  inst_used c k (Cast op flags from x to tail) = operands_used c k (operands_of (Cast op flags from x to tail))

  term_used : (c : ℕ) (term : Term) (u : Use) → Contains (term_uses_at g.blocks c term) u → WasUsed (term_uses_at f.blocks c term) u
  term_used c term u among =
      subst (λ k. WasUsed (map (used_at c k) (term_operands term)) u) (end_kept c) (operands_used c (length (insts_at g.blocks c)) (term_operands term) u among)

  same_term : (c : ℕ) → term_at g.blocks c ≡ term_at f.blocks c
  same_term = cut_term f.blocks b place

  path_was : (c : ℕ) (p : List ℕ) → IsPath (graph_of g.blocks) c p → IsPath (graph_of f.blocks) c p
  path_was = path_within f.blocks g.blocks (cut_size f.blocks b place) (λ c d e. subst (λ (t : Term). Contains (successors t) d) (same_term c) e)

  -- what is left is still met where it was
  module _ (c j : ℕ) (x : Placed) (found : slice_get (insts_at g.blocks c) j ≡ Some x) where
    -- an instruction of its number stands in its place
    place_left : (d i : ℕ) (y : Placed) → slice_get (insts_at f.blocks d) i ≡ Some y → y.number ≡ x.number → (k : ℕ) × (moved b place d k ≡ i) × (slice_get (insts_at g.blocks d) k ≡ Some y)
    place_left d i y at same = elim (to_cut f.blocks b place d i y at) [
      | inl here ↦
          let one = n.one_place d i c (moved b place c j) y x at (from_cut f.blocks b place c j x found) same in
          absurd (moved_not b place c j (sym one.0 ∙ here.0) (sym one.1 ∙ here.1))
      | inr other ↦ other
    ]

    met_left : (d k : ℕ) (p : List ℕ) → IsMet (graph_of f.blocks) x.number d (moved b place d k) p → IsMet (graph_of g.blocks) x.number d k p
    met_left d k p met = elim (met_stands f.blocks x.number d (moved b place d k) p met) [
      | inl here ↦
          let r = place_left d here.0 here.1 here.2 here.3 in
          stands_met g.blocks x.number d k p (inl (r.0, here.1, r.2, here.3, moved_down b place d r.0 k (subst (λ i. i < moved b place d k) (sym r.1) here.4)))
      | inr on ↦
          let r = place_left on.0 on.2 on.3 on.4 on.5 in
          stands_met g.blocks x.number d k p (inr (on.0, on.1, r.0, on.3, r.2, on.5))
    ]

  used_before : (u v : Use) → IsKept b place v u → IsUsedBefore g u → IsUsedBefore f v
  used_before u v kept (path, h) = (
    path,
    record {
      local = h.local;
      is_local = sym kept.val ∙ h.is_local;
      block = h.block;
      place = moved b place h.block h.place;
      giver = h.giver;
      gives = record { found = from_cut f.blocks b place h.block h.place h.giver h.gives.found; gives = h.gives.gives };
      path_is = subst (λ c. IsPath (graph_of f.blocks) c path) kept.block (path_was u.block path h.path_is);
      not_met = λ met.
          h.not_met
          (met_left h.block h.place h.giver h.gives.found u.block u.place path
          (subst (λ k. IsMet (graph_of f.blocks) h.giver.number u.block k path) (sym kept.place)
          (subst (λ c. IsMet (graph_of f.blocks) h.giver.number c v.place path) (sym kept.block) met)));
    },
  )

  -- whatever else is wrong with the remove, no path comes to a use of what is left before its definition
  pub behind_left : IsSoundFunc f → (u : Use) → IsUseIn g.blocks u → IsUsedBefore g u → ⊥
  behind_left sound u (inl (c, k, x, found, among)) before =
      let was = inst_used c k x.inst u among in
      (sound.insts c (moved b place c k) x (from_cut f.blocks b place c k x found)).uses was.0 was.1 (used_before u was.0 was.2 before)
  behind_left sound u (inr (c, x, found, among)) before =
      let old = old_block f.blocks g.blocks (cut_size f.blocks b place) c x found (same_term c) in
      let was = term_used c old.0.term u (subst (λ (t : Term). Contains (term_uses_at g.blocks c t) u) (sym old.2) among) in
      (sound.terms c old.0 old.1).uses was.0 was.1 (used_before u was.0 was.2 before)

module _ (f : FuncState) (n : IsNumbered f) (block : BlockNo) (place : ℕ) (fine : IsFaultless f (Remove block place)) where
  abbrev b : ℕ
  b = block.0

  abbrev left : FuncState
  left = with_cut f b place

  in_block : b < length f.blocks
  in_block = block_in f b (λ bad. fine fault.Name bad)

  within : place < length (insts_at f.blocks b)
  within = place_in (insts_at f.blocks b) place (λ bad. fine fault.Place bad)

  pub removed_numbers : IsNumbered (edited f (Remove block place))
  removed_numbers = cut_numbered f b place n

  -- what is used is not taken out
  given_left : (l : LocalNo) → IsOperandIn f.blocks l → IsGivenStill f.blocks left.blocks l
  given_left l used c k x h = elim (to_cut f.blocks b place c k x h.found) [
    | inl here ↦
        let at : slice_get (insts_at f.blocks b) place ≡ Some x = ap (λ j. slice_get (insts_at f.blocks b) j) (sym here.1) ∙ ap (λ a. slice_get (insts_at f.blocks a) k) (sym here.0) ∙ h.found in
        absurd (fine fault.Used (x, l, at, h.gives, used))
    | inr other ↦ (c, other.0, x, record { found = other.2; gives = h.gives }, refl)
  ]

  pub removed_sound : PartIsReducible → IsSoundFunc f → IsSoundFunc (edited f (Remove block place))
  removed_sound part sound =
      sound_as part f left sound refl (cut_size f.blocks b place) (cut_term f.blocks b place)
      (cut_shaped f.blocks b place (λ c k x found. shape_of f c k x.inst (sound.insts c k x found)))
      (λ c k x found.
      let at = from_cut f.blocks b place c k x found in
      same_values f left (operands_of x.inst) refl (λ o l among is. given_left l (inl (c, moved b place c k, x, at, o, among, is))) (sound.insts c (moved b place c k) x at).operands)
      (λ c x found o l among is. given_left l (inr (c, x, found, o, among, is)))
      (behind_left f n b place in_block within sound)
