-- Tables that were found afresh are the function's.
use Rattle.std.proofs.Common.{◌≡◌, ◌⊎◌, ◌↔◌, ℕ, Bool, true, false, List, Option, Some, None, length, get_or, refl, sym, ap, ◌∙◌, subst, inl, inr}
use mathlib.Core.Bool.{beq}
use Rattle.std.specs.Prelude.{slice_get, ◌≢◌, not}
use Rattle.std.proofs.lemmas.Bool.{false≢true}
use Rattle.std.proofs.lemmas.Option.{slice_get_within}
use Rattle.std.proofs.lemmas.List.{get_or_past}
use Rattle.ms_ir.specs.declared.names.LocalNo.{LocalNo}
use Rattle.ms_ir.specs.declared.names.InstNo.{InstNo}
use Rattle.ms_ir.specs.declared.inst.Val.{Val}
use Rattle.ms_ir.specs.Func.{FuncState, IsAt}
use Rattle.ms_ir.proofs.FuncLemmas.{block_there}
use Rattle.ms_alias.specs.declared.loc.Root.{Root}
use Rattle.ms_alias.specs.declared.loc.Root.TheVariants.{Local, Global}
use Rattle.ms_alias.specs.declared.sets.Set.{Set}
use Rattle.ms_alias.specs.declared.sets.Set.TheVariants.{Nothing, Argument, Alloca, Object, Brought}
use Rattle.ms_alias.specs.Roots.{pointer_of}
use Rattle.ms_alias.specs.Bases.{Alloca as AllocaBase, Argument as ArgumentBase, Object as ObjectBase, HasBase, HasValBase}
use Rattle.ms_alias.specs.Captured.{skips, IsCapturedBut, Differ}
use Rattle.ms_alias.specs.Tables.{BasesState, set_of, set_of_option, val_set, base_of, IsColumn, IsFor, IsSet, IsBases, IsCaptures, IsCapturesBut, HasRoom, caught_at}
use Rattle.ms_alias.specs.Building.{IsBeyond, HaveColumns, IsAllocaOf, AreCounted, MarkOthers}
use Rattle.ms_alias.proofs.Reaching.{set_told}

-- where no set is, no instruction makes the local
pub room_beyond : (t : BasesState) (f : FuncState) → HasRoom t f → IsBeyond f (length t.sets)
room_beyond t f room l ge = (subst (IsFor t f l) (get_or_past t.sets l.0 Nothing ge) (room.sets l)).0

pub room_columns : (t : BasesState) (f : FuncState) → HasRoom t f → HaveColumns t
room_columns t f room (Local l) c e = let kind = subst (IsFor t f l) e (room.sets l) in slice_get_within t.columns c (Local l) kind.0
room_columns t f room (Global g) c e = absurd (let e' : Object g ≡ Alloca c = e in cc)

alloca_from : (t : BasesState) (f : FuncState) (p : Root) (s : Set) (c : ℕ) → IsSet t f p s → IsAllocaOf t s c → (l : LocalNo) × (slice_get t.columns c ≡ Some (Local l)) × HasBase f p (AllocaBase l)
alloca_from t f p Nothing c hs h = absurd h
alloca_from t f p Argument c hs h = absurd h
alloca_from t f p (Alloca d) c hs h = (hs.0, ap (slice_get t.columns) h ∙ hs.2, hs.1.0)
alloca_from t f p (Object g) c hs h = absurd h
alloca_from t f p (Brought k) c hs h =
    let there = hs.sound c h.0 in
    let a = h.1 in
    let same : Some there.0 ≡ Some (Local a.0) = sym there.1 ∙ a.1 in
    let is : there.0 ≡ Local a.0 = cc in
    (a.0, a.1, (let P : Root → Type 0 = λ r. HasBase f p (base_of r) in subst P is there.2))

val_alloca_from : (t : BasesState) (f : FuncState) → IsBases t f → (v : Val) (c : ℕ) (o : Option Root) → pointer_of v ≡ o → IsAllocaOf t (set_of_option t o) c → (l : LocalNo) × (slice_get t.columns c ≡ Some (Local l)) × HasValBase f v (AllocaBase l)
val_alloca_from t f is v c None e h = absurd h
val_alloca_from t f is v c (Some p) e h = let a = alloca_from t f p (set_of t p) c (set_told t f is p) h in (a.0, a.1, (p, e, a.2))

alloca_to : (t : BasesState) (f : FuncState) → HasRoom t f → (p : Root) (s : Set) (l : LocalNo) → IsSet t f p s → HasBase f p (AllocaBase l) → (c : ℕ) × IsColumn t (Local l) c × IsAllocaOf t s c
alloca_to t f room p Nothing l hs h = absurd (hs (AllocaBase l) h)
alloca_to t f room p Argument l hs h = absurd (let e : AllocaBase l ≡ ArgumentBase hs.0 = hs.1.1 (AllocaBase l) h in cc)
alloca_to t f room p (Alloca d) l hs h =
    let e : AllocaBase l ≡ AllocaBase hs.0 = hs.1.1 (AllocaBase l) h in
    let one : l ≡ hs.0 = cc in
    (d, (let P : LocalNo → Type 0 = λ n. IsColumn t (Local n) d in subst P (sym one) hs.3), refl)
alloca_to t f room p (Object g) l hs h = absurd (let e : AllocaBase l ≡ ObjectBase g = hs.1 (AllocaBase l) h in cc)
alloca_to t f room p (Brought k) l hs h =
    let c = hs.complete (Local l) h in
    let kind = subst (IsFor t f l) c.1 (room.sets l) in
    (c.0, c.1, (c.2, (l, kind.0)))

pub counted_sound : (t : BasesState) (f : FuncState) (skip : Option InstNo) (captured : List Bool) → IsBases t f → AreCounted t f skip captured → (c : ℕ) → get_or captured c false ≡ true → (l : LocalNo) × (slice_get t.columns c ≡ Some (Local l)) × IsCapturedBut f skip l
counted_sound t f skip captured is counted c e =
    let h = (counted.each c).0 e in
    let n = h.1 in
    let at = n.3 in
    let k = n.5 in
    let a = val_alloca_from t f is k.0.val c (pointer_of k.0.val) refl k.2.1 in
    (a.0, a.1, (n.0, n.1, n.2, at.found, subst (λ i. skips skip i ≡ false) (sym at.numbered) n.4, (k.0, k.1, k.2.0, a.2)))

pub counted_complete : (t : BasesState) (f : FuncState) (skip : Option InstNo) (captured : List Bool) → HasRoom t f → IsBases t f → AreCounted t f skip captured → (l : LocalNo) → IsCapturedBut f skip l → (c : ℕ) × IsColumn t (Local l) c × (get_or captured c false ≡ true)
counted_complete t f skip captured room is counted l h =
    let x = h.2 in
    let k = h.5 in
    let v = k.3 in
    let a = alloca_to t f room v.0 (set_of t v.0) l (set_told t f is v.0) v.2 in
    let at : IsAt f.blocks x.number h.0 h.1 x = record { block = block_there f.blocks h.0 h.1 x h.3; found = h.3; numbered = refl } in
    let kept : IsAllocaOf t (val_set t k.0.val) a.0 = subst (λ o. IsAllocaOf t (set_of_option t o) a.0) (sym v.1) a.2 in
    (a.0, a.1, (counted.each a.0).1 (x.number, (h.0, h.1, x, at, h.4, (k.0, k.1, (k.2, kept)))))

-- what is counted over all instructions is captured
pub counted_captures : (t : BasesState) (f : FuncState) (captured : List Bool) → HasRoom t f → IsBases t f → AreCounted t f None captured → IsCaptures t f captured
counted_captures t f captured room is counted = record {
  sound = λ c e. let s = counted_sound t f None captured is counted c e in let h = s.2 in (s.0, s.1, (h.0, h.1, h.2, h.3, h.5));
  complete = λ l h. counted_complete t f None captured room is counted l (h.0, h.1, h.2, h.3, refl, h.4);
}

pub counted_but : (t : BasesState) (f : FuncState) (skip : Option InstNo) (captured : List Bool) → HasRoom t f → IsBases t f → AreCounted t f skip captured → IsCapturesBut t f skip captured
counted_but t f skip captured room is counted = record { sound = counted_sound t f skip captured is counted; complete = counted_complete t f skip captured room is counted }

-- the alloca of a set is marked
caught_from : (t : BasesState) (f : FuncState) (l : LocalNo) (P : LocalNo → Type 0) (marks : List Bool) (s : Set) → IsFor t f l s
    → ((c : ℕ) → get_or marks c false ≡ true → (a : LocalNo) × (slice_get t.columns c ≡ Some (Local a)) × P a) → caught_at marks s ≡ true → P l
caught_from t f l P marks (Alloca c) h sound e =
    let there = sound c e in
    let same : Some (Local there.0) ≡ Some (Local l) = sym there.1 ∙ h.0 in
    let one : there.0 ≡ l = cc in
    subst P one there.2
caught_from t f l P marks s h sound e = absurd (false≢true e)

differs : (a b : Bool) (P Q : Type 0) → ((a ≡ true) ↔ P) → ((b ≡ true) ↔ Q) → (a ≢ b) → (P × (Q → ⊥)) ⊎ (Q × (P → ⊥))
differs true true P Q p q ne = absurd (ne refl)
differs true false P Q p q ne = inl (p.0 refl, λ x. false≢true (q.1 x))
differs false true P Q p q ne = inr (q.0 refl, λ x. false≢true (p.1 x))
differs false false P Q p q ne = absurd (ne refl)

differ_back : (a b : Bool) (P Q : Type 0) → ((a ≡ true) ↔ P) → ((b ≡ true) ↔ Q) → (P × (Q → ⊥)) ⊎ (Q × (P → ⊥)) → a ≢ b
differ_back a b P Q p q (inl h) e = h.1 (q.0 (sym e ∙ p.1 h.0))
differ_back a b P Q p q (inr h) e = h.1 (p.0 (e ∙ q.1 h.0))

-- the marks differ where the captured allocas do
pub marks_differ : (t : BasesState) (f g : FuncState) (P Q : LocalNo → Type 0) (old new : List Bool) → HasRoom t f → HasRoom t g
    → ((c : ℕ) → get_or old c false ≡ true → (a : LocalNo) × (slice_get t.columns c ≡ Some (Local a)) × P a) → ((l : LocalNo) → P l → (c : ℕ) × IsColumn t (Local l) c × (get_or old c false ≡ true))
    → ((c : ℕ) → get_or new c false ≡ true → (a : LocalNo) × (slice_get t.columns c ≡ Some (Local a)) × Q a) → ((l : LocalNo) → Q l → (c : ℕ) × IsColumn t (Local l) c × (get_or new c false ≡ true))
    → (r : Bool) → (r ≡ true) ↔ MarkOthers t old new → (r ≡ true) ↔ Differ P Q
marks_differ t f g P Q old new rf rg ps pc qs qc r told = (
  λ e. let m = told.0 e in (m.0, differs (caught_at old (set_of t (Local m.0))) (caught_at new (set_of t (Local m.0))) (P m.0) (Q m.0) (was m.0) (is m.0) m.1),
  λ d. told.1 (d.0, differ_back (caught_at old (set_of t (Local d.0))) (caught_at new (set_of t (Local d.0))) (P d.0) (Q d.0) (was d.0) (is d.0) d.1),
) where
  was : (l : LocalNo) → (caught_at old (set_of t (Local l)) ≡ true) ↔ P l
  was l = (caught_from t f l P old (set_of t (Local l)) (rf.sets l) ps, λ p. let c = pc l p in ap (caught_at old) c.1 ∙ c.2)

  is : (l : LocalNo) → (caught_at new (set_of t (Local l)) ≡ true) ↔ Q l
  is l = (caught_from t g l Q new (set_of t (Local l)) (rg.sets l) qs, λ p. let c = qc l p in ap (caught_at new) c.1 ∙ c.2)

pub unequal : (a b : Bool) → not (beq a b) ≡ true → a ≡ b → ⊥
unequal true true e h = false≢true e
unequal true false e h = false≢true (sym h)
unequal false true e h = false≢true h
unequal false false e h = false≢true e
