-- Where the captured allocas are the same without an instruction, tables that were noted for a take are still the function's.
use Rattle.std.proofs.Common.{◌≡◌, ◌∙◌, ℕ, Bool, true, false, Some, None, refl, sym, ap, subst, inl, inr}
use Rattle.std.specs.Prelude.{slice_index_or}
use Rattle.std.proofs.lemmas.Bool.{cases_Bool, true≢false}
use Rattle.ms_ir.specs.declared.names.LocalNo.{LocalNo}
use Rattle.ms_ir.specs.declared.names.InstNo.{InstNo}
use Rattle.ms_ir.specs.Func.{FuncState}
use Rattle.ms_alias.specs.declared.loc.Root.{Root}
use Rattle.ms_alias.specs.declared.loc.Root.TheVariants.{Local, Global}
use Rattle.ms_alias.specs.declared.sets.Set.{Set}
use Rattle.ms_alias.specs.declared.sets.Set.TheVariants.{Nothing, Argument, Alloca, Object, Brought}
use Rattle.ms_alias.specs.Roots.{Maker, is_alloca}
use Rattle.ms_alias.specs.Bases.{Base, Alloca as AllocaBase, Argument as ArgumentBase, Object as ObjectBase, Outside, Hidden, IsNamed, IsAllocaLocal}
use Rattle.ms_alias.specs.Captured.{IsCaptured, IsCapturedBut, Differ}
use Rattle.ms_alias.specs.Tables.{AliasState, BasesState, set_of, IsColumn, IsFor, HasPointers, IsAliasOf, IsCapturesBut}

-- the local of an alloca among bases
abbrev of_base : LocalNo → Base → LocalNo
of_base l (AllocaBase k) = k
of_base l (ArgumentBase k) = l
of_base l (ObjectBase g) = l
of_base l Outside = l
of_base l Hidden = l

abbrev is_alloca_base : Base → Bool
is_alloca_base (AllocaBase k) = true
is_alloca_base (ArgumentBase k) = false
is_alloca_base (ObjectBase g) = false
is_alloca_base Outside = false
is_alloca_base Hidden = false

named_alloca : (f : FuncState) (q : Root) (l : LocalNo) → IsNamed f q (AllocaBase l) → IsAllocaLocal f l
named_alloca f (Local k) l (inl h) = subst (IsAllocaLocal f) (sym (ap (of_base l) h.1)) h.0
named_alloca f (Local k) l (inr h) = absurd (true≢false (ap is_alloca_base h.1))
named_alloca f (Global g) l h = absurd (true≢false (ap is_alloca_base h))

none_some : (o : Maker) → None ≡ Some o → ⊥
none_some o e = cc

one_kind : (m n : Maker) → Some m ≡ Some n → is_alloca m.inst ≡ true → is_alloca n.inst ≡ false → ⊥
one_kind m n e t n' = let same : m ≡ n = cc in true≢false (sym t ∙ ap (λ (k : Maker). is_alloca k.inst) same ∙ n')

-- an alloca has a column
column_of : (t : BasesState) (f : FuncState) (l : LocalNo) (u : Set) → IsFor t f l u → IsAllocaLocal f l → (c : ℕ) × (u ≡ Alloca c)
column_of t f l Nothing h a = absurd (none_some a.0 (sym h.0 ∙ a.1))
column_of t f l Argument h a = absurd (none_some a.0 (sym h.0 ∙ a.1))
column_of t f l (Alloca c) h a = (c, refl)
column_of t f l (Object g) h a = absurd h
column_of t f l (Brought k) h a = absurd (one_kind a.0 h.2.0 (sym a.1 ∙ h.2.1) a.2 h.2.2)

abbrev column_in : Set → ℕ
column_in Nothing = 0
column_in Argument = 0
column_in (Alloca c) = c
column_in (Object g) = 0
column_in (Brought k) = 0

module _ (f : FuncState) (d : AliasState) (i : InstNo) (p : HasPointers f d) (but : IsCapturesBut d.bases f (Some i) d.captured)
    (same : Differ (IsCaptured f) (IsCapturedBut f (Some i)) → ⊥) where
  marked : (l : LocalNo) → IsCaptured f l → (c : ℕ) → IsColumn d.bases (Local l) c → slice_index_or d.captured c false ≡ true
  marked l h c is = elim (cases_Bool (slice_index_or d.captured c false)) [
    | inl t ↦ t
    | inr no_mark ↦ absurd (same (
      l,
      inl (
        h,
        λ k. (let m = but.complete l k in
            let one : c ≡ m.0 = ap column_in (sym is ∙ m.1) in
            true≢false (sym m.2 ∙ ap (λ j. slice_index_or d.captured j false) (sym one) ∙ no_mark)),
      ),
    ))
  ]

  pub still_tables : IsAliasOf f d
  still_tables = record {
    room = p.room;
    origins = p.origins;
    turning = p.turning;
    bases = p.bases;
    captured = record {
      sound = λ c m. (let h = but.sound c m in (h.0, h.1, (h.2.0, h.2.1, h.2.2, h.2.3, h.2.5)));
      complete = λ l h. (let col = column_of d.bases f l (set_of d.bases (Local l)) (p.room.sets l) (named_alloca f h.4.3.2.1 l h.4.3.2.3) in
          (col.0, col.1, marked l h col.0 col.1));
    };
  }
