-- An instruction is moved.
use Rattle.std.proofs.Common.{◌≡◌, ◌∙◌, ◌<◌, ℕ, true, List, length, Option, Some, refl, sym, ap, subst, inl, inr, arith}
use Rattle.std.specs.Prelude.{slice_get}
use Rattle.ms_ir.specs.declared.names.BlockNo.{BlockNo}
use Rattle.ms_ir.specs.declared.names.LocalNo.{LocalNo}
use Rattle.ms_ir.specs.declared.inst.Edit.TheVariants.{Move}
use Rattle.ms_ir.specs.declared.faults.EditFault.TheVariants as fault
use Rattle.ms_ir.specs.Inst.{result_type}
use Rattle.ms_ir.specs.Func.{Placed, Block, FuncState, insts_at, cut_at}
use Rattle.ms_ir.specs.Locals.{IsNumbered}
use Rattle.ms_ir.specs.Uses.{Operand, Use, operands_of}
use Rattle.ms_ir.specs.Sound.{IsUsedBefore}
use Rattle.ms_ir.specs.SoundFunc.{AreValues, IsSoundFunc}
use Rattle.ms_ir.specs.Edits.{edited, put_again, is_movable, IsNoTarget, IsFaultless, IsUseIn}
use Rattle.ms_edited.proofs.Places.{put_term, put_size, cut_term, cut_size}
use Rattle.ms_edited.proofs.Shape.{PartIsReducible, IsGivenStill, same_values, shape_of, sound_as}
use Rattle.ms_edited.proofs.Put.{IsFresh, from_put, given_put, put_gives, put_shaped, put_numbered}
use Rattle.ms_edited.proofs.Cut.{with_cut, from_cut, to_cut, cut_shaped, cut_numbered, number_out, local_out}
use Rattle.ms_edited.proofs.Faults.{there_is, block_in, place_in, movable_at}

module _ (f : FuncState) (n : IsNumbered f) (block : BlockNo) (place : ℕ) (to_block : BlockNo) (to_place : ℕ) (fine : IsFaultless f (Move block place to_block to_place)) where
  -- the blocks without the instruction
  abbrev left : List Block
  left = cut_at f.blocks block.0 place

  -- the function with the instruction, or with none, at its new place
  abbrev again : Option Placed → FuncState
  again o = record f { blocks = put_again left to_block.0 to_place o }

  taken : (m : Placed) × (slice_get (insts_at f.blocks block.0) place ≡ Some m)
  taken = there_is (insts_at f.blocks block.0) place (place_in (insts_at f.blocks block.0) place (λ past. fine fault.Place (inl past)))

  abbrev m : Placed
  m = taken.0

  abbrev g : FuncState
  g = again (Some m)

  to_there : to_block.0 < length left
  to_there = (let lt = block_in f to_block.0 (λ no. fine fault.Name (inr no)) in let same = cut_size f.blocks block.0 place in omega (arith, lt, same))

  room : IsNoTarget (insts_at left to_block.0) to_place → ⊥
  room bad = fine fault.Place (inr bad)

  movable : is_movable m.inst ≡ true
  movable = movable_at f block.0 place m (fine fault.Kind) taken.1

  -- ---- numbers
  fresh : IsFresh (with_cut f block.0 place) m f.made f.locals
  fresh = record {
    number = number_out f n block.0 place m taken.1;
    below = n.below_made block.0 place m taken.1;
    local = local_out f n block.0 place m taken.1;
    range = λ l e. n.result_range l block.0 place m (record { found = taken.1; gives = e });
    gives = n.gives block.0 place m taken.1;
    more_made = omega arith;
    few_made = n.few_made;
    more_locals = omega arith;
    few_locals = n.few_locals;
  }

  again_numbers : IsNumbered g
  again_numbers = put_numbered (with_cut f block.0 place) to_block.0 to_place m f.made f.locals f.spare to_there room (cut_numbered f block.0 place n) fresh

  pub moved_numbers : IsNumbered (edited f (Move block place to_block to_place))
  moved_numbers = subst (λ (o : Option Placed). IsNumbered (again o)) (sym taken.1) again_numbers

  -- ---- a sound function
  given_again : (l : LocalNo) → IsGivenStill f.blocks g.blocks l
  given_again l c k x h = elim (to_cut f.blocks block.0 place c k x h.found) [
    | inl here ↦
        let at : slice_get (insts_at f.blocks block.0) place ≡ Some x = ap (λ j. slice_get (insts_at f.blocks block.0) j) (sym here.1) ∙ ap (λ b. slice_get (insts_at f.blocks b) k) (sym here.0) ∙ h.found in
        let both : Some m ≡ Some x = sym taken.1 ∙ at in
        let one : m ≡ x = cc in
        let gives : m.result ≡ Some l = ap (λ (z : Placed). z.result) one ∙ h.gives in
        (to_block.0, to_place, m, put_gives left to_block.0 to_place m to_there room l gives, ap (λ (z : Placed). result_type z.inst) one)
    | inr other ↦ given_put left to_block.0 to_place m to_there room l c other.0 x (record { found = other.2; gives = h.gives })
  ]

  values_again : (operands : List Operand) → AreValues f operands → AreValues g operands
  values_again operands = same_values f g operands refl (λ o l c is. given_again l)

  behind_again : (u : Use) → IsUseIn g.blocks u → IsUsedBefore g u → ⊥
  behind_again =
      subst (λ (o : Option Placed). (u : Use) → IsUseIn (again o).blocks u → IsUsedBefore (again o) u → ⊥) taken.1
      (λ u used before. fine fault.Order (u, used, before))

  again_sound : PartIsReducible → IsSoundFunc f → IsSoundFunc g
  again_sound part sound =
      sound_as part f g sound refl (put_size left to_block.0 to_place m ∙ cut_size f.blocks block.0 place)
      (λ c. put_term left to_block.0 to_place m c ∙ cut_term f.blocks block.0 place c)
      (put_shaped left to_block.0 to_place m to_there room movable (sound.insts block.0 place m taken.1).types
      (cut_shaped f.blocks block.0 place (λ c k x found. shape_of f c k x.inst (sound.insts c k x found))))
      (λ c k x found. elim (from_put left to_block.0 to_place m to_there room c k x found) [
        | inl here ↦ subst (λ (z : Placed). AreValues g (operands_of z.inst)) (sym here.2) (values_again (operands_of m.inst) (sound.insts block.0 place m taken.1).operands)
        | inr old ↦ values_again (operands_of x.inst) (sound.insts c _ x (from_cut f.blocks block.0 place c old.0 x old.2)).operands
      ])
      (λ b x found o l c is. given_again l)
      behind_again

  pub moved_sound : PartIsReducible → IsSoundFunc f → IsSoundFunc (edited f (Move block place to_block to_place))
  moved_sound part sound = subst (λ (o : Option Placed). IsSoundFunc (again o)) (sym taken.1) (again_sound part sound)
