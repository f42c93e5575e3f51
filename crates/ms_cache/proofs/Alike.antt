-- Two functions whose pointers are made alike in the same graph have the same roots, bases and tables.
use Rattle.std.proofs.Common.{◌≡◌, ◌↔◌, ℕ, zero, suc, ℤ, Bool, List, Option, Some, None, refl, sym, ap, ◌∙◌, subst, inl, inr}
use Rattle.std.specs.Prelude.{slice_get, Contains}
use Rattle.ms_ir.specs.declared.names.LocalNo.{LocalNo}
use Rattle.ms_ir.specs.declared.names.Param.{Param}
use Rattle.ms_ir.specs.Func.{FuncState}
use Rattle.ms_paths.specs.Flow.{Block as Run}
use Rattle.ms_flow.specs.Table.{edges_of}
use Rattle.ms_flow.specs.Flow.{IsOnCycle}
use Rattle.ms_alias.specs.declared.loc.Root.{Root}
use Rattle.ms_alias.specs.declared.loc.Root.TheVariants.{Local, Global}
use Rattle.ms_alias.specs.declared.sets.Set.{Set}
use Rattle.ms_alias.specs.declared.sets.Set.TheVariants.{Nothing, Argument, Alloca, Object, Brought}
use Rattle.ms_alias.specs.Roots.{Maker, Step, is_alloca, step_in, maker_of, step_of, step_by_maker, LeadsBack, IsEnd, IsRootAfter, HasRoot, IsTurning}
use Rattle.ms_alias.specs.Bases.{Base, Alloca as AllocaBase, Argument as ArgumentBase, Object as ObjectBase, HasBase, IsNamed, IsBrought, IsArgument, leads_of, leads_in, pointers_in, sources_in}
use Rattle.ms_alias.specs.Captured.{IsCaptured}
use Rattle.ms_alias.specs.Meeting.{IsOuter}
use Rattle.ms_alias.specs.Tables.{AliasState, BasesState, RowState, row_of, set_of, base_of, HasOneBase, IsRow, IsSet, IsFor, IsAliasOf}

-- what counts of an instruction that makes a pointer
pub record Look : Type 0 where
  pub block : ℕ
  pub alloca : Bool
  pub step : Option Step
  pub leads : List Root

abbrev pub look : Maker → Look
look m = record { block = m.block; alloca = is_alloca m.inst; step = step_in m.inst; leads = pointers_in (sources_in m.inst) }

abbrev pub seen : Option Maker → Option Look
seen None = None
seen (Some m) = Some (look m)

pub record Alike (f g : FuncState) : Type 0 where
  pub makers : (l : LocalNo) → seen (maker_of f l) ≡ seen (maker_of g l)
  pub params : f.params ≡ g.params
  pub edges : edges_of f.blocks ≡ edges_of g.blocks

pub alike_back : (f g : FuncState) → Alike f g → Alike g f
alike_back f g s = record { makers = λ l. sym (s.makers l); params = sym s.params; edges = sym s.edges }

pub alike_on : (f g h : FuncState) → Alike f g → Alike g h → Alike f h
alike_on f g h s t = record { makers = λ l. s.makers l ∙ t.makers l; params = s.params ∙ t.params; edges = s.edges ∙ t.edges }

none_seen : (o p : Option Maker) → seen o ≡ seen p → o ≡ None → p ≡ None
none_seen o None e n = refl
none_seen o (Some m) e n = let none : None ≡ Some (look m) = sym (ap seen n) ∙ e in cc

some_seen : (o p : Option Maker) → seen o ≡ seen p → (m : Maker) → o ≡ Some m → (n : Maker) × (p ≡ Some n) × (look m ≡ look n)
some_seen o None e m n = let some : Some (look m) ≡ None = sym (ap seen n) ∙ e in cc
some_seen o (Some n) e m is = (n, refl, let same : Some (look m) ≡ Some (look n) = sym (ap seen is) ∙ e in cc)

step_seen : (o p : Option Maker) → seen o ≡ seen p → step_by_maker o ≡ step_by_maker p
step_seen None None e = refl
step_seen None (Some n) e = cc
step_seen (Some m) None e = cc
step_seen (Some m) (Some n) e = let same : look m ≡ look n = cc in ap (λ (k : Look). k.step) same

leads_seen : (o p : Option Maker) → seen o ≡ seen p → leads_in o ≡ leads_in p
leads_seen None None e = refl
leads_seen None (Some n) e = cc
leads_seen (Some m) None e = cc
leads_seen (Some m) (Some n) e = let same : look m ≡ look n = cc in ap (λ (k : Look). k.leads) same

step_alike : (f g : FuncState) → Alike f g → (p : Root) → step_of f p ≡ step_of g p
step_alike f g s (Local l) = step_seen (maker_of f l) (maker_of g l) (s.makers l)
step_alike f g s (Global n) = refl

leads_alike : (f g : FuncState) → Alike f g → (p : Root) → leads_of f p ≡ leads_of g p
leads_alike f g s (Local l) = leads_seen (maker_of f l) (maker_of g l) (s.makers l)
leads_alike f g s (Global n) = refl

-- the same getelementptrs lead back from each pointer
pub record SameSteps (f g : FuncState) : Type 0 where
  pub each : (p : Root) → step_of f p ≡ step_of g p

steps_back : (f g : FuncState) → SameSteps f g → SameSteps g f
steps_back f g s = record { each = λ p. sym (s.each p) }

back_kept : (f g : FuncState) → SameSteps f g → (n : ℕ) (p q : Root) → LeadsBack f n p q → LeadsBack g n p q
back_kept f g s zero p q h = h
back_kept f g s (suc n) p q h = (h.0, sym (s.each p) ∙ h.1, back_kept f g s n h.0.base q h.2)

end_kept : (f g : FuncState) → SameSteps f g → (p : Root) → IsEnd f p → IsEnd g p
end_kept f g s p (inl e) = inl (sym (s.each p) ∙ e)
end_kept f g s p (inr r) = inr (r.0, back_kept f g s (suc r.0) p p r.1)

after_kept : (f g : FuncState) → SameSteps f g → (n : ℕ) (p r : Root) (o : ℤ) → IsRootAfter f n p r o → IsRootAfter g n p r o
after_kept f g s zero p r o h = (h.0, h.1, end_kept f g s p h.2)
after_kept f g s (suc n) p r o h =
    ((λ e. h.0 (end_kept g f (steps_back f g s) p e)), h.1, sym (s.each p) ∙ h.2, h.3, after_kept f g s n h.1.base r h.3 h.4, h.5)

pub root_kept : (f g : FuncState) → SameSteps f g → (p r : Root) (o : ℤ) → HasRoot f p r o → HasRoot g p r o
root_kept f g s p r o h = (h.0, after_kept f g s h.0 p r o h.1)

pub root_alike : (f g : FuncState) → Alike f g → (p r : Root) (o : ℤ) → HasRoot f p r o → HasRoot g p r o
root_alike f g s = root_kept f g (record { each = step_alike f g s })

brought_alike : (f g : FuncState) → Alike f g → (n : ℕ) (p q : Root) → IsBrought f n p q → IsBrought g n p q
brought_alike f g s zero p q h = h
brought_alike f g s (suc n) p q h = (h.0, subst (λ ps. Contains ps h.0) (leads_alike f g s p) h.1, brought_alike f g s n h.0 q h.2)

pub argument_alike : (f g : FuncState) → Alike f g → (l : LocalNo) → IsArgument f l → IsArgument g l
argument_alike f g s l h = (h.0, ap (λ (ps : List Param). slice_get ps l.0) (sym s.params) ∙ h.1, h.2)

-- the instruction that makes a local is or is no alloca in both
kind_alike : (f g : FuncState) → Alike f g → (l : LocalNo) (k : Bool) → (m : Maker) × (maker_of f l ≡ Some m) × (is_alloca m.inst ≡ k) → (m : Maker) × (maker_of g l ≡ Some m) × (is_alloca m.inst ≡ k)
kind_alike f g s l k h =
    let n = some_seen (maker_of f l) (maker_of g l) (s.makers l) h.0 h.1 in
    (n.0, n.1, ap (λ (k : Look). k.alloca) (sym n.2) ∙ h.2)

none_alike : (f g : FuncState) → Alike f g → (l : LocalNo) → maker_of f l ≡ None → maker_of g l ≡ None
none_alike f g s l e = none_seen (maker_of f l) (maker_of g l) (s.makers l) e

named_alike : (f g : FuncState) → Alike f g → (q : Root) (b : Base) → IsNamed f q b → IsNamed g q b
named_alike f g s (Local l) b (inl h) = inl (kind_alike f g s l _ h.0, h.1)
named_alike f g s (Local l) b (inr h) = inr (argument_alike f g s l h.0, h.1)
named_alike f g s (Global n) b h = h

pub base_alike : (f g : FuncState) → Alike f g → (p : Root) (b : Base) → HasBase f p b → HasBase g p b
base_alike f g s p b h = (h.0, h.1, brought_alike f g s h.0 p h.1 h.2, named_alike f g s h.1 b h.3)

outer_alike : (f g : FuncState) → Alike f g → (p : Root) → IsOuter f p → IsOuter g p
outer_alike f g s p h = (h.0, base_alike f g s p h.0 h.1, h.2)

turning_local : (f g : FuncState) → Alike f g → (l : LocalNo) → IsTurning f (Local l) → IsTurning g (Local l)
turning_local f g s l h =
    let n = some_seen (maker_of f l) (maker_of g l) (s.makers l) h.0 h.1 in
    let block = ap (λ (k : Look). k.block) n.2 in
    (n.0, n.1, ap (λ (k : Look). k.alloca) (sym n.2) ∙ h.2, subst (IsOnCycle (edges_of g.blocks)) block (subst (λ (e : List Run). IsOnCycle e h.0.block) s.edges h.3))

pub turning_alike : (f g : FuncState) → Alike f g → (p : Root) → IsTurning f p → IsTurning g p
turning_alike f g s (Local l) h = turning_local f g s l h
turning_alike f g s (Global n) h = h

row_alike : (t : BasesState) (f g : FuncState) → Alike f g → (p : Root) (row : RowState) → IsRow t f p row → IsRow t g p row
row_alike t f g s p row i =
    let b = alike_back f g s in
    record {
      sound = λ c e. let h = i.sound c e in (h.0, h.1, base_alike f g s p (base_of h.0) h.2);
      complete = λ q h. i.complete q (base_alike g f b p (base_of q) h);
      argument = (λ e. let h = i.argument.0 e in (h.0, base_alike f g s p (ArgumentBase h.0) h.1), λ h. i.argument.1 (h.0, base_alike g f b p (ArgumentBase h.0) h.1));
      outer = (λ e. outer_alike f g s p (i.outer.0 e), λ h. i.outer.1 (outer_alike g f b p h));
    }

one_alike : (f g : FuncState) → Alike f g → (p : Root) (b : Base) → HasOneBase f p b → HasOneBase g p b
one_alike f g s p b h = (base_alike f g s p b h.0, λ c k. h.1 c (base_alike g f (alike_back f g s) p c k))

set_alike : (t : BasesState) (f g : FuncState) → Alike f g → (p : Root) (u : Set) → IsSet t f p u → IsSet t g p u
set_alike t f g s p Nothing h = λ b k. h b (base_alike g f (alike_back f g s) p b k)
set_alike t f g s p Argument h = (h.0, one_alike f g s p (ArgumentBase h.0) h.1)
set_alike t f g s p (Alloca c) h = (h.0, one_alike f g s p (AllocaBase h.0) h.1, h.2, h.3)
set_alike t f g s p (Object n) h = one_alike f g s p (ObjectBase n) h
set_alike t f g s p (Brought l) h = row_alike t f g s p (row_of t l) h

for_alike : (t : BasesState) (f g : FuncState) → Alike f g → (l : LocalNo) (u : Set) → IsFor t f l u → IsFor t g l u
for_alike t f g s l Nothing h = (none_alike f g s l h.0, λ a. h.1 (argument_alike g f (alike_back f g s) l a))
for_alike t f g s l Argument h = (none_alike f g s l h.0, argument_alike f g s l h.1)
for_alike t f g s l (Alloca c) h = (h.0, kind_alike f g s l _ h.1, λ a. h.2 (argument_alike g f (alike_back f g s) l a))
for_alike t f g s l (Object n) h = h
for_alike t f g s l (Brought k) h = (h.0, h.1, kind_alike f g s l _ h.2, λ a. h.3 (argument_alike g f (alike_back f g s) l a))

-- the same pointers and the same captured allocas: the tables are those of both
pub tables_alike : (f g : FuncState) (a : AliasState) → Alike f g → ((l : LocalNo) → IsCaptured f l ↔ IsCaptured g l) → IsAliasOf f a → IsAliasOf g a
tables_alike f g a s same h = record {
  room = record {
    rows = h.room.rows;
    sets = λ l. for_alike a.bases f g s l (set_of a.bases (Local l)) (h.room.sets l);
    globals = λ p n c. h.room.globals p n (subst (λ ps. Contains ps (Global n)) (sym (leads_alike f g s p)) c);
  };
  origins = record { each = λ l. root_alike f g s (Local l) _ _ (h.origins.each l) };
  turning = record { each = λ l. let t = h.turning.each l in ((λ e. turning_local f g s l (t.0 e)), λ k. t.1 (turning_local g f (alike_back f g s) l k)) };
  bases = record { each = λ l. set_alike a.bases f g s (Local l) (set_of a.bases (Local l)) (h.bases.each l) };
  captured = record {
    sound = λ c m. let k = h.captured.sound c m in (k.0, k.1, (same k.0).0 k.2);
    complete = λ l k. h.captured.complete l ((same l).1 k);
  };
}
