-- Two functions that make the same pointers in the same graph have the same pointer tables.
use Rattle.std.proofs.Common.{◌≡◌, ℕ, zero, suc, ℤ, List, refl, sym, ap, ◌∙◌, subst, inl, inr}
use Rattle.std.specs.Prelude.{slice_get, Contains}
use Rattle.ms_ir.specs.declared.names.LocalNo.{LocalNo}
use Rattle.ms_ir.specs.declared.names.Param.{Param}
use Rattle.ms_ir.specs.declared.inst.Inst.{Inst}
use Rattle.ms_ir.specs.Func.{FuncState}
use Rattle.ms_paths.specs.Flow.{Block as Run}
use Rattle.ms_flow.specs.Table.{edges_of}
use Rattle.ms_flow.specs.Flow.{IsOnCycle}
use Rattle.ms_alias.specs.declared.loc.Root.{Root}
use Rattle.ms_alias.specs.declared.loc.Root.TheVariants.{Local, Global}
use Rattle.ms_alias.specs.declared.sets.Set.{Set}
use Rattle.ms_alias.specs.declared.sets.Set.TheVariants.{Nothing, Argument, Alloca, Object, Brought}
use Rattle.ms_alias.specs.Roots.{maker_of, step_of, step_by_maker, LeadsBack, IsEnd, IsRootAfter, IsTurning}
use Rattle.ms_alias.specs.Bases.{Base, Alloca as AllocaBase, Argument as ArgumentBase, Object as ObjectBase, HasBase, IsNamed, IsBrought, IsArgument, leads_of, leads_in}
use Rattle.ms_alias.specs.Captured.{IsKept}
use Rattle.ms_alias.specs.Meeting.{IsOuter}
use Rattle.ms_alias.specs.Tables.{AliasState, BasesState, RowState, row_of, set_of, base_of, HasOneBase, IsRow, IsSet, IsFor, HasPointers}

pub record SamePointers (f g : FuncState) : Type 0 where
  pub makers : (l : LocalNo) → maker_of f l ≡ maker_of g l
  pub params : f.params ≡ g.params
  pub edges : edges_of f.blocks ≡ edges_of g.blocks

pub same_back : (f g : FuncState) → SamePointers f g → SamePointers g f
same_back f g s = record { makers = λ l. sym (s.makers l); params = sym s.params; edges = sym s.edges }

step_same : (f g : FuncState) → SamePointers f g → (p : Root) → step_of f p ≡ step_of g p
step_same f g s (Local l) = ap step_by_maker (s.makers l)
step_same f g s (Global n) = refl

leads_same : (f g : FuncState) → SamePointers f g → (p : Root) → leads_of f p ≡ leads_of g p
leads_same f g s (Local l) = ap leads_in (s.makers l)
leads_same f g s (Global n) = refl

back_same : (f g : FuncState) → SamePointers f g → (n : ℕ) (p q : Root) → LeadsBack f n p q → LeadsBack g n p q
back_same f g s zero p q h = h
back_same f g s (suc n) p q h = (h.0, sym (step_same f g s p) ∙ h.1, back_same f g s n h.0.base q h.2)

end_same : (f g : FuncState) → SamePointers f g → (p : Root) → IsEnd f p → IsEnd g p
end_same f g s p (inl e) = inl (sym (step_same f g s p) ∙ e)
end_same f g s p (inr r) = inr (r.0, back_same f g s (suc r.0) p p r.1)

root_same_after : (f g : FuncState) → SamePointers f g → (n : ℕ) (p r : Root) (o : ℤ) → IsRootAfter f n p r o → IsRootAfter g n p r o
root_same_after f g s zero p r o h = (h.0, h.1, end_same f g s p h.2)
root_same_after f g s (suc n) p r o h =
    ((λ e. h.0 (end_same g f (same_back f g s) p e)), h.1, sym (step_same f g s p) ∙ h.2, h.3, root_same_after f g s n h.1.base r h.3 h.4, h.5)

brought_same : (f g : FuncState) → SamePointers f g → (n : ℕ) (p q : Root) → IsBrought f n p q → IsBrought g n p q
brought_same f g s zero p q h = h
brought_same f g s (suc n) p q h = (h.0, subst (λ ps. Contains ps h.0) (leads_same f g s p) h.1, brought_same f g s n h.0 q h.2)

pub argument_same : (f g : FuncState) → SamePointers f g → (l : LocalNo) → IsArgument f l → IsArgument g l
argument_same f g s l h = (h.0, ap (λ (ps : List Param). slice_get ps l.0) (sym s.params) ∙ h.1, h.2)

named_same : (f g : FuncState) → SamePointers f g → (q : Root) (b : Base) → IsNamed f q b → IsNamed g q b
named_same f g s (Local l) b (inl h) = let m = h.0 in inl ((m.0, sym (s.makers l) ∙ m.1, m.2), h.1)
named_same f g s (Local l) b (inr h) = inr (argument_same f g s l h.0, h.1)
named_same f g s (Global n) b h = h

pub base_same : (f g : FuncState) → SamePointers f g → (p : Root) (b : Base) → HasBase f p b → HasBase g p b
base_same f g s p b h = (h.0, h.1, brought_same f g s h.0 p h.1 h.2, named_same f g s h.1 b h.3)

pub kept_same : (f g : FuncState) → SamePointers f g → (inst : Inst) (b : Base) → IsKept f inst b → IsKept g inst b
kept_same f g s inst b h = let v = h.3 in (h.0, h.1, h.2, (v.0, v.1, base_same f g s v.0 b v.2))

outer_same : (f g : FuncState) → SamePointers f g → (p : Root) → IsOuter f p → IsOuter g p
outer_same f g s p h = (h.0, base_same f g s p h.0 h.1, h.2)

turning_same : (f g : FuncState) → SamePointers f g → (l : LocalNo) → IsTurning f (Local l) → IsTurning g (Local l)
turning_same f g s l h = (h.0, sym (s.makers l) ∙ h.1, h.2, subst (λ (e : List Run). IsOnCycle e h.0.block) s.edges h.3)

row_same : (t : BasesState) (f g : FuncState) → SamePointers f g → (p : Root) (row : RowState) → IsRow t f p row → IsRow t g p row
row_same t f g s p row i =
    let b = same_back f g s in
    record {
      sound = λ c e. let h = i.sound c e in (h.0, h.1, base_same f g s p (base_of h.0) h.2);
      complete = λ q h. i.complete q (base_same g f b p (base_of q) h);
      argument = (λ e. let h = i.argument.0 e in (h.0, base_same f g s p (ArgumentBase h.0) h.1), λ h. i.argument.1 (h.0, base_same g f b p (ArgumentBase h.0) h.1));
      outer = (λ e. outer_same f g s p (i.outer.0 e), λ h. i.outer.1 (outer_same g f b p h));
    }

one_same : (f g : FuncState) → SamePointers f g → (p : Root) (b : Base) → HasOneBase f p b → HasOneBase g p b
one_same f g s p b h = (base_same f g s p b h.0, λ c k. h.1 c (base_same g f (same_back f g s) p c k))

set_same : (t : BasesState) (f g : FuncState) → SamePointers f g → (p : Root) (u : Set) → IsSet t f p u → IsSet t g p u
set_same t f g s p Nothing h = λ b k. h b (base_same g f (same_back f g s) p b k)
set_same t f g s p Argument h = (h.0, one_same f g s p (ArgumentBase h.0) h.1)
set_same t f g s p (Alloca c) h = (h.0, one_same f g s p (AllocaBase h.0) h.1, h.2, h.3)
set_same t f g s p (Object n) h = one_same f g s p (ObjectBase n) h
set_same t f g s p (Brought l) h = row_same t f g s p (row_of t l) h

for_same : (t : BasesState) (f g : FuncState) → SamePointers f g → (l : LocalNo) (u : Set) → IsFor t f l u → IsFor t g l u
for_same t f g s l Nothing h = (sym (s.makers l) ∙ h.0, λ a. h.1 (argument_same g f (same_back f g s) l a))
for_same t f g s l Argument h = (sym (s.makers l) ∙ h.0, argument_same f g s l h.1)
for_same t f g s l (Alloca c) h = let m = h.1 in (h.0, (m.0, sym (s.makers l) ∙ m.1, m.2), λ a. h.2 (argument_same g f (same_back f g s) l a))
for_same t f g s l (Object n) h = h
for_same t f g s l (Brought k) h = let m = h.2 in (h.0, h.1, (m.0, sym (s.makers l) ∙ m.1, m.2), λ a. h.3 (argument_same g f (same_back f g s) l a))

pub pointers_same : (f g : FuncState) (a : AliasState) → SamePointers f g → HasPointers f a → HasPointers g a
pointers_same f g a s h = record {
  room = record {
    rows = h.room.rows;
    sets = λ l. for_same a.bases f g s l (set_of a.bases (Local l)) (h.room.sets l);
    globals = λ p n c. h.room.globals p n (subst (λ ps. Contains ps (Global n)) (sym (leads_same f g s p)) c);
  };
  origins = record { each = λ l. let r = h.origins.each l in (r.0, root_same_after f g s r.0 (Local l) _ _ r.1) };
  turning = record { each = λ l. let t = h.turning.each l in ((λ e. turning_same f g s l (t.0 e)), λ k. t.1 (turning_same g f (same_back f g s) l k)) };
  bases = record { each = λ l. set_same a.bases f g s (Local l) (set_of a.bases (Local l)) (h.bases.each l) };
}
