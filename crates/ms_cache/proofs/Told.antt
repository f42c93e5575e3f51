-- What edits ask, in the words of a caller; and the tests over the tables.
use Rattle.std.proofs.Common.{◌≡◌, ◌↔◌, ℕ, Bool, true, false, Some, refl, sym, ap, ◌∙◌, subst}
use Rattle.std.specs.Prelude.{slice_get}
use Rattle.ms_ir.specs.declared.inst.Inst.{Inst}
use Rattle.ms_ir.specs.declared.inst.Inst.TheVariants.{Alloca as AllocaInst, Gep, Step as StepInst, Load, Store, Copy, Call, Bin, Cmp, Select, Cast, Phi}
use Rattle.ms_ir.specs.Func.{Placed, FuncState, IsAt, insts_at}
use Rattle.ms_ir.specs.Edits.{is_movable}
use Rattle.ms_ir.specs.Locals.{IsNumbered}
use Rattle.ms_alias.specs.declared.loc.Loc.{Loc}
use Rattle.ms_alias.specs.Roots.{makes_pointer}
use Rattle.ms_alias.specs.Tables.{AliasState, IsAliasOf}
use Rattle.ms_alias.specs.Tests.{may_write_by, may_read_by, may_write_in_turn_by}
use Rattle.ms_alias.proofs.Asked.{write_told, read_told, in_turn_told}
use Rattle.ms_cache.specs.Edited.{MakesNone, SameWrites, SameReads}

pub movable_idle : (p : Inst) → is_movable p ≡ true → makes_pointer p ≡ false
movable_idle (Load ty ptr tail) e = refl
movable_idle (Store ty val ptr tail) e = refl
movable_idle (Copy to from len head tail) e = refl
movable_idle (Call callee ret args effects head tail) e = refl
movable_idle (AllocaInst size head tail) e = cc
movable_idle (Gep base offset head index tail) e = cc
movable_idle (StepInst base offset terms head index tail) e = cc
movable_idle (Bin op flags ty a b tail) e = cc
movable_idle (Cmp pred flags ty a b tail) e = cc
movable_idle (Select test ty a b tail) e = cc
movable_idle (Cast op flags from a to tail) e = cc
movable_idle (Phi ty entries tail) e = cc

pub one_idle : (f : FuncState) (n b place : ℕ) (x : Placed) → IsNumbered f → IsAt f.blocks n b place x → makes_pointer x.inst ≡ false → MakesNone f n
one_idle f n b place x numbered at e c j y other =
    let one = numbered.one_place b place c j x y at.found other.found (at.numbered ∙ sym other.numbered) in
    let there : slice_get (insts_at f.blocks c) j ≡ Some x = subst (λ k. slice_get (insts_at f.blocks c) k ≡ Some x) one.1 (subst (λ d. slice_get (insts_at f.blocks d) place ≡ Some x) one.0 at.found) in
    let both : Some x ≡ Some y = sym there ∙ other.found in
    let same : x ≡ y = cc in
    sym (ap (λ (z : Placed). makes_pointer z.inst) same) ∙ e

same : (s t : Bool) → (s ≡ true → t ≡ true) → (t ≡ true → s ≡ true) → s ≡ t
same true true h k = refl
same false false h k = refl
same true false h k = sym (h refl)
same false true h k = k refl

tests_same : {P Q : Type 0} (s t : Bool) → (s ≡ true) ↔ P → (t ≡ true) ↔ Q → P ↔ Q → s ≡ t
tests_same s t p q r = same s t (λ e. q.1 (r.0 (p.0 e))) (λ e. p.1 (r.1 (q.0 e)))

module _ (f g : FuncState) (a : AliasState) (is : IsAliasOf f a) (stays : IsAliasOf g a) (i : ℕ) (loc : Loc) where
  pub write_test : SameWrites f g i loc → may_write_by f a loc i ≡ may_write_by g a loc i
  write_test s = tests_same (may_write_by f a loc i) (may_write_by g a loc i) (write_told f a is loc i) (write_told g a stays loc i) s.at_all

  pub in_turn_test : SameWrites f g i loc → may_write_in_turn_by f a loc i ≡ may_write_in_turn_by g a loc i
  in_turn_test s = tests_same (may_write_in_turn_by f a loc i) (may_write_in_turn_by g a loc i) (in_turn_told f a is loc i) (in_turn_told g a stays loc i) s.in_turn

  pub read_test : SameReads f g i loc → may_read_by f a loc i ≡ may_read_by g a loc i
  read_test s = tests_same (may_read_by f a loc i) (may_read_by g a loc i) (read_told f a is loc i) (read_told g a stays loc i) s
