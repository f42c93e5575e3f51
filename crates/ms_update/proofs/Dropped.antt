-- A filled form of a function is one of the function behind a cut edge, once operands have moved and what is lost is cleared.
use Rattle.std.proofs.Common.{Bool, true, false, ◌≡◌, ◌<◌, ◌≤◌, ◌⊎◌, inl, inr, ℕ, List, [], length, get_or, Option, Some, None, refl, ap, sym, ◌∙◌, subst, arith, ⊎_elim}
use Rattle.std.specs.Prelude.{slice_get, is_some, nat_lt}
use Rattle.std.proofs.lemmas.Bool.{cases_Bool, cases_lt, both_ways}
use Rattle.std.proofs.lemmas.Bool.Decides.{nat_tests}
use Rattle.ms_paths.specs.Flow.{Block as Run, IsReached}
use Rattle.ms_ir.specs.declared.names.InstNo.{InstNo}
use Rattle.ms_ir.specs.Func.{Placed, FuncState, insts_at}
use Rattle.ms_flow.specs.Flow.{sources_of, order_of}
use Rattle.ms_form.specs.declared.access.Access.{Access}
use Rattle.ms_form.specs.declared.access.User.TheVariants.{Inst, Operand, Entering}
use Rattle.ms_form.specs.Form.{FormState, after_last}
use Rattle.ms_build.specs.Accesses.{has_phi, enters_at, operand_at, defining_at, entering_at, leaving_at}
use Rattle.ms_build.specs.Changes.{IsChanged}
use Rattle.ms_build.specs.Filled.{HasAccessAt, names_access, before_at}
use Rattle.ms_build.specs.Built.{IsFilled}
use Rattle.ms_build.proofs.Define.{OnePlaced}
use Rattle.ms_build.proofs.Lists.{member_at, slice_get_below}
use Rattle.ms_build.proofs.Whole.{OrderReached, EdgesTold, source_edge, target_reached}
use Rattle.ms_update.specs.Dropped.{StoodBefore, operand_over, all_moved, IsLost, AreCleared}
use Rattle.ms_update.proofs.CutEdge.{AreAlike}
use Rattle.ms_update.proofs.Moved.{over_within}

module _ (k func : FuncState) (old g : List Run) (before : ℕ → ℕ → ℕ) (f m h : FormState) (alike : (c : ℕ) → AreAlike (insts_at k.blocks c) (insts_at func.blocks c)) (one : OnePlaced func.blocks)
    (order : OrderReached g) (told : EdgesTold g) (less : (b : ℕ) → IsReached g b → IsReached old b) (within : (b : ℕ) → IsReached old b → b < length g) (stood : StoodBefore old g before)
    (filled : IsFilled k old f) (moved : IsChanged (all_moved g before f (length g)) f m) (cleared : AreCleared func.blocks (λ c j. IsLost g c) (IsLost g) m h) where
  reached_or : (b : ℕ) → IsReached g b ⊎ (IsReached g b → ⊥)
  reached_or b =
      ⊎_elim
      (λ (t : is_some (order_of g b) ≡ true). inl ((order b).0 t))
      (λ (o : is_some (order_of g b) ≡ false). inr (λ r. both_ways (is_some (order_of g b)) o ((order b).1 r)))
      (cases_Bool (is_some (order_of g b)))

  -- what is reached stays
  phi_was : (b : ℕ) → (IsLost g b → ⊥) → has_phi h b ≡ has_phi f b
  phi_was b n = cleared.other_phis b n ∙ ap (λ (l : List Bool). get_or l b false) moved.phis

  enters_was : (b : ℕ) → (IsLost g b → ⊥) → enters_at h b ≡ enters_at f b
  enters_was b n = cleared.other_enters b n ∙ moved.entries (Entering (record { 0 = b }))

  not_lost : (b : ℕ) → IsReached g b → IsLost g b → ⊥
  not_lost b r = λ l. l.1 r

  not_there : (b : ℕ) → length g ≤ b → IsLost g b → ⊥
  not_there b le = λ l. let lt : b < length g = l.0 in omega arith

  past : (b : ℕ) → length g ≤ b → IsReached old b → ⊥
  past b le = λ r. let lt = within b r in omega arith

  entering_was : (b : ℕ) → IsReached g b → entering_at h b ≡ entering_at f b
  entering_was b r =
      let e = phi_was b (not_lost b r) in
      let e' = enters_was b (not_lost b r) in
      rw (e, e') refl

  lasts_were : h.lasts ≡ f.lasts
  lasts_were = cleared.lasts ∙ moved.lasts

  leaving_was : (b : ℕ) → IsReached g b → leaving_at h b ≡ leaving_at f b
  leaving_was b r = rw lasts_were (ap (after_last (get_or f.lasts b None)) (entering_was b r))

  operand_is : (b slot : ℕ) → b < length g → operand_at h b slot ≡ operand_over g before f b slot
  operand_is b slot lt = cleared.operands b slot ∙ moved.entries (Operand (record { 0 = b }) slot) ∙ (let t : nat_lt b (length g) ≡ true = grind (arith, nat_tests) in rw t refl)

  phi_reached : (b : ℕ) → has_phi h b ≡ true → IsReached g b
  phi_reached b t =
      ⊎_elim (λ (r : IsReached g b). r)
      (λ (n : IsReached g b → ⊥).
      ⊎_elim
      (λ (lt : b < length g). absurd (both_ways (has_phi h b) (cleared.phis b (lt, n)) t))
      (λ (le : length g ≤ b). absurd (past b le (filled.phis b (sym (phi_was b (not_there b le)) ∙ t))))
      (cases_lt b (length g)))
      (reached_or b)

  not_entered : (b : ℕ) → (IsReached g b → ⊥) → enters_at h b ≡ None
  not_entered b n =
      ⊎_elim
      (λ (lt : b < length g). cleared.enters b (lt, n))
      (λ (le : length g ≤ b). enters_was b (not_there b le) ∙ filled.no_entering b (inl (past b le)))
      (cases_lt b (length g))

  no_operand : (b slot : ℕ) → (has_phi h b ≡ false) ⊎ (length (sources_of g b) ≤ slot) → operand_at h b slot ≡ None
  no_operand b slot out =
      ⊎_elim
      (λ (lt : b < length g).
      operand_is b slot lt ∙ ⊎_elim
      (λ (at : slot < length (sources_of g b)).
      let e = member_at (sources_of g b) slot at in
      let r = target_reached g told b slot e.0 e.1 in
      over_within g before f b slot at ∙ ⊎_elim
      (λ (o : has_phi h b ≡ false). filled.no_operand b (before b slot) (inl (sym (phi_was b (not_lost b r)) ∙ o)))
      (λ (le : length (sources_of g b) ≤ slot). absurd (omega arith)) out)
      (λ (le : length (sources_of g b) ≤ slot). let t : nat_lt slot (length (sources_of g b)) ≡ false = grind (arith, nat_tests) in rw t refl)
      (cases_lt slot (length (sources_of g b))))
      (λ (le : length g ≤ b).
      let t : nat_lt b (length g) ≡ false = grind (arith, nat_tests) in
      let o : has_phi f b ≡ false = ⊎_elim (λ (t' : has_phi f b ≡ true). absurd (past b le (filled.phis b t'))) (λ (o' : has_phi f b ≡ false). o') (cases_Bool (has_phi f b)) in
      cleared.operands b slot ∙ moved.entries (Operand (record { 0 = b }) slot) ∙ (rw t (filled.no_operand b slot (inl o))))
      (cases_lt b (length g))

  defining : (b j : ℕ) (x : Placed) → IsReached g b → HasAccessAt func.blocks b j x → defining_at h x.number ≡ before_at func.blocks b j (entering_at h b)
  defining b j x r a =
      let y = (alike b).back j x a.found in
      let was = filled.defining b j y.0 (less b r) (record { found = y.1; names = ap names_access y.3 ∙ a.names }) in
      cleared.other_defs x.number (λ c i z lost e s. let same = (one c i b j z x e a.found s).0 in lost.1 (subst (IsReached g) (sym same) r))
      ∙ moved.entries (Inst (record { 0 = x.number })) ∙ ap (defining_at f) (sym y.2) ∙ was
      ∙ ap (λ (l : Option InstNo). after_last l (entering_at f b)) (sym ((alike b).lasts j)) ∙ ap (before_at func.blocks b j) (sym (entering_was b r))

  no_defining : (i : ℕ) → ((b j : ℕ) (x : Placed) → IsReached g b → HasAccessAt func.blocks b j x → x.number ≡ i → ⊥) → defining_at h i ≡ None
  no_defining i n = by_value (defining_at h i) refl
    where
      by_value : (x : Option Access) → defining_at h i ≡ x → x ≡ None
      by_value None e = refl
      by_value (Some a) e =
          let named : (c j : ℕ) (z : Placed) → IsLost g c → slice_get (insts_at func.blocks c) j ≡ Some z → z.number ≡ i → ⊥ =
          λ c j z lost found s. let both : None ≡ Some a = sym (cleared.defs c j z lost found) ∙ ap (defining_at h) s ∙ e in cc in
          let stays : defining_at h i ≡ defining_at f i = cleared.other_defs i named ∙ moved.entries (Inst (record { 0 = i })) in
          let none : defining_at f i ≡ None =
          filled.no_defining i (λ b j y r p s.
          let x = (alike b).on j y p.found in
          ⊎_elim
          (λ (r' : IsReached g b). n b j x.0 r' (record { found = x.1; names = ap names_access (sym x.3) ∙ p.names }) (sym x.2 ∙ s))
          (λ (o : IsReached g b → ⊥). named b j x.0 (within b r, o) x.1 (sym x.2 ∙ s))
          (reached_or b)) in
          sym e ∙ stays ∙ none

  pub filled_dropped : IsFilled func g h
  filled_dropped = record {
    consistent = record {
      entry = λ o.
          let r : IsReached g 0 = ([], refl) in
          enters_was 0 (not_lost 0 r) ∙ filled.consistent.entry (sym (phi_was 0 (not_lost 0 r)) ∙ o);
      enters = λ b slot e o found.
          let r = target_reached g told b slot e found in
          let s = source_edge g told b slot e found in
          let d = stood.over b slot e found in
          enters_was b (not_lost b r) ∙ filled.consistent.enters b (before b slot) d.0 (sym (phi_was b (not_lost b r)) ∙ o) d.1 ∙ ap (leaving_at f) d.2 ∙ sym (leaving_was e.from s.0);
      operands = λ b slot e t found.
          let r = target_reached g told b slot e found in
          let s = source_edge g told b slot e found in
          let d = stood.over b slot e found in
          operand_is b slot (within b (less b r)) ∙ over_within g before f b slot (slice_get_below (sources_of g b) slot e found)
          ∙ filled.consistent.operands b (before b slot) d.0 (sym (phi_was b (not_lost b r)) ∙ t) d.1 ∙ ap (leaving_at f) d.2 ∙ sym (leaving_was e.from s.0);
    };
    phis = phi_reached;
    no_entering = λ b out.
        ⊎_elim (λ (n : IsReached g b → ⊥). not_entered b n)
        (λ (t : has_phi h b ≡ true).
        let r = phi_reached b t in
        enters_was b (not_lost b r) ∙ filled.no_entering b (inr (sym (phi_was b (not_lost b r)) ∙ t)))
        out;
    no_operand = no_operand;
    defining = defining;
    no_defining = no_defining;
    lasts = λ b. ap (λ (l : List (Option InstNo)). get_or l b None) lasts_were ∙ filled.lasts b ∙ sym (alike b).last;
  }
