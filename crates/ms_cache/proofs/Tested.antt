-- The test by the tables holds of exactly the answers that stay.
use Rattle.std.proofs.Common.{◌≡◌, ℕ, Bool, true, false, not, Option, Some, None, refl, sym, ap, ◌∙◌, true≢false}
use Rattle.std.specs.Prelude.{◌↔◌, ◌&&◌, ◌||◌, IsTrue}
use Rattle.std.specs.Cmp.{unsigned_Decides, first_so, second_so}
use Rattle.ms_ir.specs.declared.names.InstNo.{InstNo}
use Rattle.ms_ir.specs.Func.{FuncState}
use Rattle.ms_alias.specs.declared.loc.Loc.{Loc}
use Rattle.ms_alias.specs.Meeting.{MayWrite}
use Rattle.ms_alias.specs.Tables.{AliasState, IsAliasOf}
use Rattle.ms_alias.specs.Tests.{may_write_by}
use Rattle.ms_cache.specs.declared.query.Query.{Query}
use Rattle.ms_cache.specs.declared.change.Change.{Change}
use Rattle.ms_cache.specs.Stays.{MovesWriter, Stays, AsksLocations, is_own, may_write_in, is_spared, stays_by}

differ : {A : Type 0} → true ≡ false → A
differ e = absurd (true≢false e)

differ_back : {A : Type 0} → false ≡ true → A
differ_back e = differ (sym e)

own_told : (own : Option InstNo) (j : InstNo) → (is_own own j ≡ true) ↔ (own ≡ Some j)
own_told None j = (differ_back, λ e. cc)
own_told (Some i) j = (λ e. (λ n. Some (record { 0 = (unsigned_Decides i.0 j.0).0 e n })), λ e. (unsigned_Decides i.0 j.0).1 (cc))

-- what the flags say where an answer is spared
flags_told : (only captured cut def writes : Bool) → (only || (not captured && not cut && not (def && writes))) ≡ true → only ≡ false
    → (captured ≡ false) × (cut ≡ false) × (def ≡ true → writes ≡ true → ⊥)
flags_told true c u d w e off = differ off
flags_told false true u d w e off = differ_back e
flags_told false false true d w e off = differ_back e
flags_told false false false d true e off = (refl, refl, λ is _. differ_back (sym (ap (λ (b : Bool). not (b && true)) is) ∙ e))
flags_told false false false d false e off = (refl, refl, λ is h. true≢false (sym h))

flags_back : (only captured cut def writes : Bool) → (only ≡ false → captured ≡ false) → (only ≡ false → cut ≡ false)
    → (only ≡ false → captured ≡ false → cut ≡ false → def ≡ true → writes ≡ true → ⊥) → (only || (not captured && not cut && not (def && writes))) ≡ true
flags_back true c u d w hc hu hw = refl
flags_back false true u d w hc hu hw = differ (hc refl)
flags_back false false true d w hc hu hw = differ (hu refl)
flags_back false false false false w hc hu hw = refl
flags_back false false false true false hc hu hw = refl
flags_back false false false true true hc hu hw = absurd (hw refl refl refl refl refl)

module _ (f : FuncState) (a : AliasState) (told : IsAliasOf f a → (loc : Loc) (i : ℕ) → IsTrue (may_write_by f a loc i) ↔ MayWrite f i loc) (e : Change) (ready : AsksLocations e → IsAliasOf f a) where
  -- the change's instruction may write the location, by the test
  writes_told : IsAliasOf f a → (own : Option InstNo) (loc : Loc) → may_write_in f a own loc ≡ true → (i : InstNo) × (own ≡ Some i) × MayWrite f i.0 loc
  writes_told is None loc h = differ_back h
  writes_told is (Some i) loc h = (i, refl, (told is loc i.0).0 h)

  writes_back : IsAliasOf f a → (own : Option InstNo) (loc : Loc) (i : InstNo) → own ≡ Some i → MayWrite f i.0 loc → may_write_in f a own loc ≡ true
  writes_back is own loc i e h = rw e ((told is loc i.0).1 h)

  spared_told : (q : Query) → is_spared f a e q.loc ≡ true → (e.own_only ≡ false → MovesWriter f e q.loc → ⊥) × (e.own_only ≡ false → e.captured ≡ false) × (e.own_only ≡ false → e.unlinked ≡ false)
  spared_told q h =
      let flags = flags_told e.own_only e.captured e.unlinked e.def (may_write_in f a e.inst q.loc) h in
      (λ off m. (flags off).2 m.0 (writes_back (ready (m.0, off, (flags off).0, (flags off).1)) e.inst q.loc m.1 m.2 m.3), λ off. (flags off).0, λ off. (flags off).1)

  joined : (s t : Bool) → s ≡ false → t ≡ true → (not s && t) ≡ true
  joined false t p h = h
  joined true t p h = differ p

  unset : (s : Bool) → not s ≡ true → s ≡ true → ⊥
  unset false h p = true≢false (sym p)
  unset true h p = true≢false (sym h)

  is_false : (s : Bool) → (s ≡ true → ⊥) → s ≡ false
  is_false false h = refl
  is_false true h = absurd (h refl)

  pub stays_tested : (q : Query) → IsTrue (stays_by f a e q) ↔ Stays f e q
  stays_tested q = (
    λ h.
        let other = first_so (not (is_own e.inst q.inst)) (is_spared f a e q.loc) h in
        let spared = spared_told q (second_so (not (is_own e.inst q.inst)) (is_spared f a e q.loc) h) in
        record {
          other = λ own. unset (is_own e.inst q.inst) other ((own_told e.inst q.inst).1 own);
          unwritten = spared.0;
          captures = spared.1;
          edges = spared.2;
        },
    λ s.
        joined (is_own e.inst q.inst) (is_spared f a e q.loc) (is_false (is_own e.inst q.inst) (λ own. s.other ((own_told e.inst q.inst).0 own)))
        (flags_back e.own_only e.captured e.unlinked e.def (may_write_in f a e.inst q.loc) s.captures s.edges
        (λ only captured cut def writes. (let w = writes_told (ready (def, only, captured, cut)) e.inst q.loc writes in s.unwritten only (def, w.0, w.1, w.2)))),
  )
