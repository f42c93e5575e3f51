-- An instruction is inserted.
use Rattle.std.proofs.Common.{◌≡◌, ◌<◌, ◌≤◌, ◌+◌, ◌-◌, ◌^◌, ℕ, Bool, true, false, List, length, Option, Some, None, refl, sym, ap, subst, inl, inr, arith}
use Rattle.std.specs.Prelude.{is_some, if◌then◌else◌}
use Rattle.ms_ir.specs.declared.names.BlockNo.{BlockNo}
use Rattle.ms_ir.specs.declared.names.LocalNo.{LocalNo}
use Rattle.ms_ir.specs.declared.names.Name.{Name}
use Rattle.ms_ir.specs.declared.inst.Inst.{Inst}
use Rattle.ms_ir.specs.declared.inst.Edit.TheVariants.{Insert}
use Rattle.ms_ir.specs.declared.faults.EditFault.TheVariants as fault
use Rattle.ms_ir.specs.Inst.{has_result, result_for}
use Rattle.ms_ir.specs.Func.{Placed, FuncState, insts_at, after_put}
use Rattle.ms_ir.specs.Locals.{IsNumbered}
use Rattle.ms_ir.specs.Uses.{Operand, operands_of}
use Rattle.ms_ir.specs.SoundFunc.{AreValues, IsSoundFunc}
use Rattle.ms_ir.specs.Edits.{edited, is_movable, IsNoTarget, IsFaultless, IsFittingEdit}
use Rattle.ms_edited.proofs.Places.{put_term, put_size}
use Rattle.ms_edited.proofs.Shape.{PartIsReducible, value_in, type_in, same_values, shape_of, sound_as}
use Rattle.ms_edited.proofs.Put.{IsFresh, from_put, given_put, put_shaped, put_numbered}
use Rattle.ms_edited.proofs.Faults.{block_in, movable_is, fitting_value}

-- ---- the number and the result of the new instruction

abbrev local_for : Bool → ℕ → Option LocalNo
local_for b next = if b then Some (record { 0 = next }) else None

abbrev locals_with : Bool → ℕ → ℕ
locals_with b n = if b then n + 1 else n

local_is : (b : Bool) (next : ℕ) (l : LocalNo) → local_for b next ≡ Some l → (b ≡ true) × (l.0 ≡ next)
local_is true next l e =
    let local : ℕ → LocalNo = λ n. record { 0 = n } in
    let one : local next ≡ l = cc in
    (refl, ap (λ (k : LocalNo). k.0) (sym one))
local_is false next l e = cc

local_there : (b : Bool) (next : ℕ) → is_some (local_for b next) ≡ b
local_there true next = refl
local_there false next = refl

more_locals : (b : Bool) (n : ℕ) → (n ≤ locals_with b n) × (locals_with b n ≤ n + 1)
more_locals true n = (omega arith, omega arith)
more_locals false n = (omega arith, omega arith)

module _ (f : FuncState) (n : IsNumbered f) (block : BlockNo) (place : ℕ) (inst : Inst) (name : Name) (fine : IsFaultless f (Insert block place inst name)) where
  abbrev y : Placed
  y = record { number = f.made; result = result_for inst f.locals; name = name; inst = inst }

  abbrev g : FuncState
  g = after_put f block.0 place inst name

  in_block : block.0 < length f.blocks
  in_block = block_in f block.0 (λ no. fine fault.Name (inl no))

  room : IsNoTarget (insts_at f.blocks block.0) place → ⊥
  room = fine fault.Place

  movable : is_movable inst ≡ true
  movable = movable_is inst (λ no. fine fault.Kind no)

  fresh : f.made + 1 < 2 ^ 32 → IsFresh f y (f.made + 1) (locals_with (has_result inst) f.locals)
  fresh few = record {
    number = λ c k x found e. (let below = n.below_made c k x found in omega (arith, below, e));
    below = omega arith;
    local = λ l e c k x h. (let is = (local_is (has_result inst) f.locals l e).1 in let below = (n.result_range l c k x h).1 in omega (arith, is, below));
    range = λ l e.
        let is = local_is (has_result inst) f.locals l e in
        let first = n.params_first in (
          omega (arith, first, is.1),
          subst (λ (b : Bool). l.0 < locals_with b f.locals) (sym is.0) (omega (arith, is.1)),
        );
    gives = local_there (has_result inst) f.locals;
    more_made = omega arith;
    few_made = few;
    more_locals = (more_locals (has_result inst) f.locals).0;
    few_locals = (let most = (more_locals (has_result inst) f.locals).1 in let few_before = n.few_locals in omega (arith, most, few_before));
  }

  pub inserted_numbers : f.made + 1 < 2 ^ 32 → IsNumbered (edited f (Insert block place inst name))
  inserted_numbers few = put_numbered f block.0 place y (f.made + 1) (locals_with (has_result inst) f.locals) (f.spare - 1) in_block room n (fresh few)

  -- ---- the operands of the new instruction
  new_values : IsFittingEdit (Insert block place inst name) → AreValues g (operands_of inst)
  new_values fits o c =
      value_in f g o.ty o.val (λ l is. type_in f g l o.ty refl (given_put f.blocks block.0 place y in_block room l))
      (fitting_value f n o.ty o.val (fits.1 o c)
      (λ l is no. fine fault.Name (inr (inr (inl (o, l, c, is, no)))))
      (λ l t is of other. fine fault.Types (o, c, (l, t, is, of, other))))

  old_values : (operands : List Operand) → AreValues f operands → AreValues g operands
  old_values operands = same_values f g operands refl (λ o l c is. given_put f.blocks block.0 place y in_block room l)

  pub inserted_sound : PartIsReducible → IsSoundFunc f → IsFittingEdit (Insert block place inst name) → IsSoundFunc (edited f (Insert block place inst name))
  inserted_sound part sound fits =
      sound_as part f g sound refl (put_size f.blocks block.0 place y) (put_term f.blocks block.0 place y)
      (put_shaped f.blocks block.0 place y in_block room movable fits.0 (λ c k x found. shape_of f c k x.inst (sound.insts c k x found)))
      (λ c k x found. elim (from_put f.blocks block.0 place y in_block room c k x found) [
        | inl here ↦ subst (λ (z : Placed). AreValues g (operands_of z.inst)) (sym here.2) (new_values fits)
        | inr old ↦ old_values (operands_of x.inst) (sound.insts c old.0 x old.2).operands
      ])
      (λ b x found o l c is. given_put f.blocks block.0 place y in_block room l)
      (λ u used before. fine fault.Order (u, used, before))
