-- A form after a trivial phi was taken out.
use Rattle.std.proofs.Common.{true, false, ◌≡◌, ◌≢◌, ◌<◌, ◌⊎◌, ◌==◌, inl, inr, ℕ, List, length, get_or, set, Option, Some, None, refl, ap, sym, ◌∙◌, subst, arith, ⊎_elim, get_or-set_same, get_or-set_other, length-set}
use Rattle.std.specs.Prelude.{slice_get}
use Rattle.std.proofs.lemmas.Bool.{cases_Bool, cases_eq, both_ways}
use Rattle.std.proofs.lemmas.Bool.Decides.{eqb_tells, leb_tells, nat_tests}
use Rattle.std.proofs.lemmas.List.{get_or_past}
use Rattle.ms_paths.specs.Flow.{Block as Run}
use Rattle.ms_ir.specs.declared.names.InstNo.{InstNo}
use Rattle.ms_ir.specs.declared.names.BlockNo.{BlockNo}
use Rattle.ms_flow.specs.declared.sources.Source.{Source}
use Rattle.ms_flow.specs.Flow.{sources_of}
use Rattle.ms_form.specs.declared.access.Access.{Access}
use Rattle.ms_form.specs.declared.access.Access.TheVariants.{Entry, Of, Phi}
use Rattle.ms_form.specs.declared.access.User.{User}
use Rattle.ms_form.specs.declared.access.User.TheVariants.{Inst, Operand, Entering}
use Rattle.ms_form.specs.Form.{FormState, entry_of, after_last}
use Rattle.ms_form.specs.Waiting.{times}
use Rattle.ms_build.specs.Accesses.{has_phi, enters_at, operand_at, defining_at, entering_at, leaving_at}
use Rattle.ms_build.specs.Consistent.{IsConsistent}
use Rattle.ms_build.specs.Settled.{IsTrivial, renamed, IsSettled}
use Rattle.ms_build.specs.Changes.{IsChanged, IsAwaited, IsOut, Waits, one_set, emptied, replaced, all_replaced}
use Rattle.ms_build.proofs.Lists.{slice_get_below}
use Rattle.ms_build.proofs.Phis.{one_phi}
use Rattle.ms_build.proofs.Entries.{entry-phis}
use Rattle.ms_build.proofs.Rules.{replaced_other, replaced_phi}

-- the steps that take a phi out, together
pub out_of : (b : BlockNo) (a : Access) (f g h j k : FormState) → g ≡ record f { phis = set f.phis b.0 false } → IsChanged (emptied b) g h → h.waiting ≡ g.waiting
    → IsChanged (all_replaced b a) h j → IsAwaited b h j → IsChanged (one_set (Entering b) (Some a)) j k → k.waiting ≡ j.waiting → IsOut b a f k
out_of b a f g h j k e emp w rep aw ent w' = record {
  entries = λ u. ent.entries u ∙ ap (one_set (Entering b) (Some a) u) (rep.entries u ∙ ap (replaced b a) (emp.entries u ∙ ap (emptied b u) (start u)));
  phis = ent.phis ∙ rep.phis ∙ emp.phis ∙ ap (λ (x : FormState). x.phis) e;
  lasts = ent.lasts ∙ rep.lasts ∙ emp.lasts ∙ ap (λ (x : FormState). x.lasts) e;
  spare = ent.spare ∙ rep.spare ∙ emp.spare ∙ ap (λ (x : FormState). x.spare) e;
  on = λ c t. let t' : Waits h c = rw waits t in rw w' (aw.on c t');
  named = λ c slot n is.
      let other : (c.0 == b.0) ≡ false = elim (eqb_tells c.0 b.0) [ inl s ↦ absurd (n s.1) | inr o ↦ o.0 ] in
      let is' : entry_of h (Operand c slot) ≡ Some (Phi b) = emp.entries (Operand c slot) ∙ (rw other (start (Operand c slot) ∙ is)) in
      rw w' (aw.named c slot is');
}
  where
    start : (u : User) → entry_of g u ≡ entry_of f u
    start u = ap (λ (x : FormState). entry_of x u) e ∙ entry-phis f (set f.phis b.0 false) u

    waits : h.waiting ≡ f.waiting
    waits = w ∙ ap (λ (x : FormState). x.waiting) e

module _ (g : List Run) (b : BlockNo) (a : Access) (f h : FormState) (out : IsOut b a f h) (had : has_phi f b.0 ≡ true) where
  in_range : b.0 < length f.phis
  in_range = elim (leb_tells (length f.phis) b.0) [
    | inl past ↦ absurd (both_ways (has_phi f b.0) (get_or_past f.phis b.0 false past.1) had)
    | inr within ↦ within.1
  ]

  pub phi_gone : has_phi h b.0 ≡ false
  phi_gone = rw out.phis (get_or-set_same f.phis b.0 false false in_range)

  pub phi_other : (x : ℕ) → (x ≡ b.0 → ⊥) → has_phi h x ≡ has_phi f x
  phi_other x n = rw out.phis (get_or-set_other f.phis b.0 x false false n)

  phi_differs : (x : ℕ) → has_phi h x ≡ true → x ≡ b.0 → ⊥
  phi_differs x t s = both_ways (has_phi h x) (subst (λ (n : ℕ). has_phi h n ≡ false) (sym s) phi_gone) t

  enters_here : (x : ℕ) → x ≡ b.0 → enters_at h x ≡ Some a
  enters_here x s =
      let t : (b.0 == x) ≡ true = grind (arith, nat_tests) in
      out.entries (Entering (record { 0 = x })) ∙ (rw t refl)

  enters_other : (x : ℕ) → (x ≡ b.0 → ⊥) → enters_at h x ≡ replaced b a (enters_at f x)
  enters_other x n =
      let t : (b.0 == x) ≡ false = grind (arith, nat_tests) in
      out.entries (Entering (record { 0 = x })) ∙ (rw t refl)

  operand_here : (x slot : ℕ) → x ≡ b.0 → operand_at h x slot ≡ None
  operand_here x slot s =
      let t : (x == b.0) ≡ true = grind (arith, nat_tests) in
      out.entries (Operand (record { 0 = x }) slot) ∙ (rw t refl)

  pub operand_other : (x slot : ℕ) → (x ≡ b.0 → ⊥) → operand_at h x slot ≡ replaced b a (operand_at f x slot)
  operand_other x slot n =
      let t : (x == b.0) ≡ false = grind (arith, nat_tests) in
      out.entries (Operand (record { 0 = x }) slot) ∙ (rw t refl)

  phi_kept : (x : ℕ) → (x ≡ b.0 → ⊥) → replaced b a (Some (Phi (record { 0 = x }))) ≡ Some (Phi (record { 0 = x }))
  phi_kept x n = replaced_other b a (Some (Phi (record { 0 = x }))) (λ w. n (one_phi (record { 0 = x }) b (cc)))

  entering_now : (x : ℕ) → entering_at h x ≡ replaced b a (entering_at f x)
  entering_now x =
      ⊎_elim
      (λ (s : x ≡ b.0).
      let gone : has_phi h x ≡ false = subst (λ (n : ℕ). has_phi h n ≡ false) (sym s) phi_gone in
      let was : has_phi f x ≡ true = subst (λ (n : ℕ). has_phi f n ≡ true) (sym s) had in
      rw (gone, was, enters_here x s) (sym (subst (λ (n : ℕ). replaced b a (Some (Phi (record { 0 = n }))) ≡ Some a) (sym s) (replaced_phi b a))))
      (λ (n : x ≡ b.0 → ⊥).
      ⊎_elim
      (λ (t : has_phi f x ≡ true). let t' : has_phi h x ≡ true = phi_other x n ∙ t in rw (t', t) (sym (phi_kept x n)))
      (λ (o : has_phi f x ≡ false). let o' : has_phi h x ≡ false = phi_other x n ∙ o in rw (o', o) (enters_other x n))
      (cases_Bool (has_phi f x)))
      (cases_eq x b.0)

  after_now : (last : Option InstNo) (x y : Option Access) → y ≡ replaced b a x → after_last last y ≡ replaced b a (after_last last x)
  after_now None x y e = e
  after_now (Some i) x y e = refl

  leaving_now : (x : ℕ) → leaving_at h x ≡ replaced b a (leaving_at f x)
  leaving_now x = rw out.lasts (after_now (get_or f.lasts x None) (entering_at f x) (entering_at h x) (entering_now x))

  pub consistent_out : IsConsistent g f → IsTrivial g f b.0 a → a ≢ Phi b → IsConsistent g h
  consistent_out k triv ne = record {
    entry = λ t.
        ⊎_elim
        (λ (s : 0 ≡ b.0). enters_here 0 s ∙ ap Some (triv.0 (sym s)))
        (λ (n : 0 ≡ b.0 → ⊥). enters_other 0 n ∙ ap (replaced b a) (k.entry (sym (phi_other 0 n) ∙ t)))
        (cases_eq 0 b.0);
    enters = λ x slot e t found.
        ⊎_elim
        (λ (s : x ≡ b.0).
        let found' : slice_get (sources_of g b.0) slot ≡ Some e = subst (λ (n : ℕ). slice_get (sources_of g n) slot ≡ Some e) s found in
        enters_here x s ∙ sym (brought slot e found') ∙ ap (replaced b a) (k.operands b.0 slot e had found') ∙ sym (leaving_now e.from))
        (λ (n : x ≡ b.0 → ⊥). enters_other x n ∙ ap (replaced b a) (k.enters x slot e (sym (phi_other x n) ∙ t) found) ∙ sym (leaving_now e.from))
        (cases_eq x b.0);
    operands = λ x slot e t found.
        let n : x ≡ b.0 → ⊥ = phi_differs x t in
        operand_other x slot n ∙ ap (replaced b a) (k.operands x slot e (sym (phi_other x n) ∙ t) found) ∙ sym (leaving_now e.from);
  }
    where
      brought : (slot : ℕ) (e : Source) → slice_get (sources_of g b.0) slot ≡ Some e → replaced b a (operand_at f b.0 slot) ≡ Some a
      brought slot e found =
          ⊎_elim
          (λ (i : operand_at f b.0 slot ≡ Some a). ap (replaced b a) i ∙ replaced_other b a (Some a) (λ w. ne (cc)))
          (λ (i : operand_at f b.0 slot ≡ Some (Phi b)). ap (replaced b a) i ∙ replaced_phi b a)
          (triv.1 slot (slice_get_below (sources_of g b.0) slot e found))

  pub settled_out : (old : FormState) → IsSettled old f → IsSettled old h
  settled_out old s = record {
    blocks = ap length out.phis ∙ length-set f.phis b.0 false ∙ s.blocks;
    none_new = λ x t. s.none_new x (sym (phi_other x (phi_differs x t)) ∙ t);
    cleared = λ x slot gone.
        ⊎_elim (λ (i : x ≡ b.0). operand_here x slot i)
        (λ (n : x ≡ b.0 → ⊥). operand_other x slot n ∙ ap (replaced b a) (s.cleared x slot (gone.0, sym (phi_other x n) ∙ gone.1))) (cases_eq x b.0);
    operands = λ x slot same.
        let n : x ≡ b.0 → ⊥ = stays x same in
        operand_other x slot n ∙ ap (replaced b a) (s.operands x slot (sym (phi_other x n) ∙ same)) ∙ sym (now (operand_at old x slot));
    enters = λ x same.
        let n : x ≡ b.0 → ⊥ = stays x same in
        enters_other x n ∙ ap (replaced b a) (s.enters x (sym (phi_other x n) ∙ same)) ∙ sym (now (enters_at old x));
    defs = λ i. out.entries (Inst (record { 0 = i })) ∙ ap (replaced b a) (s.defs i) ∙ sym (now (defining_at old i));
    lasts = out.lasts ∙ s.lasts;
    spare = out.spare ∙ s.spare;
  }
    where
      old_had : has_phi old b.0 ≡ true
      old_had = s.none_new b.0 had

      stays : (x : ℕ) → has_phi h x ≡ has_phi old x → x ≡ b.0 → ⊥
      stays x same i =
          let same' : has_phi h b.0 ≡ has_phi old b.0 = subst (λ (n : ℕ). has_phi h n ≡ has_phi old n) i same in
          both_ways (has_phi h b.0) phi_gone (same' ∙ old_had)

      now : (x : Option Access) → renamed old h x ≡ replaced b a (renamed old f x)
      now None = refl
      now (Some Entry) = refl
      now (Some (Of i)) = refl
      now (Some (Phi c)) =
          ⊎_elim
          (λ (t : has_phi old c.0 ≡ true). rw t (entering_now c.0))
          (λ (o : has_phi old c.0 ≡ false). rw o (sym (phi_kept c.0 (λ i. both_ways (has_phi old c.0) o (subst (λ (n : ℕ). has_phi old n ≡ true) (sym i) old_had)))))
          (cases_Bool (has_phi old c.0))

  -- A block whose phi is trivial now waits, or its operands are as before.
  pub trivial_before : (x : ℕ) (d : Access) → has_phi h x ≡ true → IsTrivial g h x d → Waits h x ⊎ ((has_phi f x ≡ true) × IsTrivial g f x d)
  trivial_before x d t triv = elim (leb_tells 1 (times x h.waiting)) [
    | inl yes' ↦ inl yes'.1
    | inr no' ↦
        let n : x ≡ b.0 → ⊥ = phi_differs x t in
        inr (
          sym (phi_other x n) ∙ t,
          (
            triv.0,
            λ slot lt.
                let kept : operand_at h x slot ≡ operand_at f x slot = operand_other x slot n ∙ replaced_other b a (operand_at f x slot) (λ i. absurd (let w = out.named (record { 0 = x }) slot n i in omega (arith, no'.1, w))) in
                ⊎_elim (λ (i : operand_at h x slot ≡ Some d). inl (sym kept ∙ i)) (λ (i : operand_at h x slot ≡ Some (Phi (record { 0 = x }))). inr (sym kept ∙ i)) (triv.1 slot lt),
          ),
        )
  ]
