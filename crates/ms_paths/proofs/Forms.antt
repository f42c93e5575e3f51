-- Forms over a region: their phis are the needed ones, and their accesses the last events.
use Rattle.std.proofs.Common.{◌≡◌, ℕ, zero, suc, ◌<◌, Bool, true, false, ◌⊎◌, ◌↔◌, List, [], ◌∷◌, length, take, Some, None, sym, ap, ◌∙◌, subst, inl, inr, ⊎_elim, arith, get_or}
use Rattle.std.specs.Prelude.{IsTrue}
use Rattle.std.proofs.lemmas.Bool.{cases_Bool, both_ways, or_left, or_right, true_from_ne_false, false_from_ne_true, cond-true, cond-false}
use Rattle.ms_paths.specs.Flow.{Block, block_at, HasEdge, IsPath, IsReached, Event, Phi, Entry, after, entered, last_event, Suffices, NeedsPhi, IsNeeded, IsAnswer, StandsOnce, IsReducible, IsClosed, Runs, IsRegion, IsTrivialPhi, NoTrivialPhi, NoIdlePhi, IsForm}
use Rattle.ms_paths.proofs.First.{first}
use Rattle.ms_paths.proofs.Core.{stop}
use Rattle.ms_paths.proofs.Bridge.{needed_to_core, any_of, has, after_some, after_none, named, last_named, to_core}
use Rattle.ms_paths.proofs.Least.{Trivial}
use Rattle.ms_paths.proofs.Reduce.{ordered, reached_in}
use Rattle.ms_paths.proofs.Region.{inside, inside_out, inside_at, region_same, region_needed}

pub any_at : (E : ℕ → Bool) (is : List ℕ) (i k : ℕ) → k < length is → get_or is k i ≡ i → E i ≡ true → any_of E is ≡ true
any_at E [] i k l e t = absurd (omega arith)
any_at E (j ∷ is) i zero l e t = or_left (E j) (any_of E is) (subst (λ x. E x ≡ true) (sym e) t)
any_at E (j ∷ is) i (suc k) l e t = or_right (E j) (any_of E is) (any_at E is i k (omega arith) e t)

pub runs_has : (g : List Block) (E : ℕ → Bool) (b : ℕ) → Runs g E b → has g E b ≡ true
runs_has g E b r = any_at E (block_at g b).events r.0 r.1.0 r.1.1 r.1.2 r.2

pub after_any : (g : List Block) (E : ℕ → Bool) (b : ℕ) → has g E b ≡ true → (d e : Event) → after E (block_at g b).events d ≡ after E (block_at g b).events e
after_any g E b t d e = let s = after_some E (block_at g b).events t in s.3 d ∙ sym (s.3 e)

pub same_told : (a b : Bool) (P : Type 0) → ((a ≡ true) ↔ P) → ((b ≡ true) ↔ P) → a ≡ b
same_told a b P ia ib =
    ⊎_elim (λ (t : a ≡ true). t ∙ sym (ib.1 (ia.0 t))) (λ (f : a ≡ false). f ∙ sym (false_from_ne_true b (λ t. both_ways a f (ia.1 (ib.0 t))))) (cases_Bool a)

module _ (g : List Block) (E Z phis : ℕ → Bool) (enters : ℕ → Event) (operand : ℕ → ℕ → Event) (leaves : ℕ → Event)
    (region : IsRegion g E Z) (form : IsForm g E Z phis enters operand leaves) where
  leaves_by : (a : ℕ) (p : List ℕ) → IsReached g a → (Z a ≡ true → phis a ≡ false → last_event g E (inside Z phis) p ≡ enters a) →
      (Z a ≡ true) ⊎ Runs g E a → last_event g E (inside Z phis) (a ∷ p) ≡ leaves a
  leaves_by a p reached entered_so out =
      ⊎_elim
      (λ (z : Z a ≡ true).
      let at = inside_at Z phis a z in
      ⊎_elim
      (λ (t : phis a ≡ true).
      ap (after E (block_at g a).events) (cond-true (inside Z phis a) (Phi a) (last_event g E (inside Z phis) p) (at ∙ t) ∙ sym (cond-true (phis a) (Phi a) (enters a) t))
      ∙ sym (form.leaves_block a z))
      (λ (f : phis a ≡ false).
      ap (after E (block_at g a).events) (cond-false (inside Z phis a) (Phi a) (last_event g E (inside Z phis) p) (at ∙ f) ∙ entered_so z f ∙ sym (cond-false (phis a) (Phi a) (enters a) f))
      ∙ sym (form.leaves_block a z))
      (cases_Bool (phis a)))
      (λ (n : Z a ≡ false).
      ⊎_elim (λ (z : Z a ≡ true). absurd (both_ways (Z a) n z))
      (λ (r : Runs g E a). after_any g E a (runs_has g E a r) (entered (inside Z phis) a (last_event g E (inside Z phis) p)) Entry ∙ sym (form.leaves_outside a reached n r)) out)
      (cases_Bool (Z a))

  pub enters_last : (b : ℕ) (p : List ℕ) → Z b ≡ true → phis b ≡ false → IsPath g b p → last_event g E (inside Z phis) p ≡ enters b
  enters_last b [] z f h =
      sym (form.enters_entry (subst (λ x. Z x ≡ true) h z) (subst (λ x. phis x ≡ false) h f)) ∙ ap enters (sym h)
  enters_last b (a ∷ p) z f h =
      leaves_by a p (p, h.1) (λ za fa. enters_last a p za fa h.1) (region.kept_out a b z (p, h.1) h.0) ∙ sym (form.enters_block a b z f (p, h.1) h.0)

  leaves_last : (a b : ℕ) (p : List ℕ) → Z b ≡ true → HasEdge g a b → IsPath g a p → last_event g E (inside Z phis) (a ∷ p) ≡ leaves a
  leaves_last a b p z e h = leaves_by a p (p, h) (λ za fa. enters_last a p za fa h) (region.kept_out a b z (p, h) e)

  form_suffices : Suffices g E (inside Z phis)
  form_suffices = record {
    one_event = λ b p q hp hq f.
        let out = inside_out Z phis b f in enters_last b p out.0 out.1 hp ∙ sym (enters_last b q out.0 out.1 hq);
  }

  trivial_phi : (b : ℕ) → Z b ≡ true → phis b ≡ true → Trivial g (has g E) (inside Z phis) b → IsTrivialPhi g operand b
  trivial_phi b z t triv = (named g E triv.other, (at_entry, at_edge))
    where
      at_entry : b ≡ 0 → named g E triv.other ≡ Entry
      at_entry e =
          ⊎_elim (λ (o : None ≡ triv.other). ap (named g E) (sym o)) (λ (s : (None ≡ Some b) × (has g E b ≡ false)). let n : None ≡ Some b = s.0 in cc) (triv.each [] e)

      at_edge : (a : ℕ) → IsReached g a → HasEdge g a b → (operand b a ≡ named g E triv.other) ⊎ (operand b a ≡ Phi b)
      at_edge a r e =
          let whole : operand b a ≡ named g E (first (stop (has g E) (inside Z phis)) (a ∷ r.0)) =
          form.operands a b z t r e ∙ sym (leaves_last a b r.0 z e r.1) ∙ last_named g E (inside Z phis) (a ∷ r.0) in
          ⊎_elim (λ (o : first (stop (has g E) (inside Z phis)) (a ∷ r.0) ≡ triv.other). inl (whole ∙ ap (named g E) o))
          (λ (s : (first (stop (has g E) (inside Z phis)) (a ∷ r.0) ≡ Some b) × (has g E b ≡ false)).
          inr (whole ∙ ap (named g E) s.0 ∙ after_none E (block_at g b).events s.1 (Phi b)))
          (triv.each (a ∷ r.0) (e, r.1))

  kept_out_has : (a b : ℕ) → Z b ≡ true → IsReached g a → HasEdge g a b → (Z a ≡ true) ⊎ (has g E a ≡ true)
  kept_out_has a b z r e = ⊎_elim (λ (t : Z a ≡ true). inl t) (λ (s : Runs g E a). inr (runs_has g E a s)) (region.kept_out a b z r e)

  -- the phis of a form are the needed ones
  pub form_needed : StandsOnce g → IsClosed g → IsReducible g → NoIdlePhi g E Z phis operand → (b : ℕ) → IsTrue (Z b) → IsTrue (phis b) ↔ NeedsPhi g E b
  form_needed once closed red real b z = (
    λ t S s. true_from_ne_false (S b) (λ f. ordered g red closed (λ place n o.
        both_ways (S b) f (region_needed g (has g E) Z kept_out_has place n o (length g) (reached_in g closed) phis
        (to_core g E (inside Z phis) once form_suffices) region.all_reached
        (λ x zx kx. ⊎_elim (λ (n : NeedsPhi g E x). inl (needed_to_core g E x n)) (λ (n : IsTrivialPhi g operand x → ⊥). inr (λ triv. n (trivial_phi x zx kx triv))) (real x zx kx)) b z t S (to_core g E S once s)))),
    λ n. sym (inside_at Z phis b z) ∙ n (inside Z phis) form_suffices,
  )

  -- its accesses are the last events
  pub form_answers : StandsOnce g → IsClosed g → IsReducible g → NoIdlePhi g E Z phis operand → (N : ℕ → Bool) → IsNeeded g E N → (b k : ℕ) → IsTrue (Z b) →
      IsAnswer g E b k (after E (take k (block_at g b).events) (entered phis b (enters b)))
  form_answers once closed red real N is b k z = record {
    phis = N;
    phis_are = is;
    is_last = λ p h. ap (after E (take k (block_at g b).events))
        (⊎_elim
        (λ (t : phis b ≡ true). cond-true (N b) (Phi b) (last_event g E N p) (same b z ∙ t) ∙ sym (cond-true (phis b) (Phi b) (enters b) t))
        (λ (f : phis b ≡ false).
        cond-false (N b) (Phi b) (last_event g E N p) (same b z ∙ f)
        ∙ last_named g E N p
        ∙ ap (named g E) (region_same g (has g E) Z kept_out_has N (inside Z phis) (λ x zx. same x zx ∙ sym (inside_at Z phis x zx)) b p z h)
        ∙ sym (last_named g E (inside Z phis) p)
        ∙ enters_last b p z f h
        ∙ sym (cond-false (phis b) (Phi b) (enters b) f))
        (cases_Bool (phis b)));
  }
    where
      same : (x : ℕ) → Z x ≡ true → N x ≡ phis x
      same x zx = same_told (N x) (phis x) (NeedsPhi g E x) (is x) (form_needed once closed red real x zx)

pub whole_region : (g : List Block) (E Z : ℕ → Bool) → ((b : ℕ) → IsTrue (Z b) ↔ IsReached g b) → IsRegion g E Z
whole_region g E Z all = record { all_reached = λ b z. (all b).0 z; kept_out = λ a b z r e. inl ((all a).1 r) }

pub no_idle : (g : List Block) (E Z phis : ℕ → Bool) (operand : ℕ → ℕ → Event) → NoTrivialPhi g Z phis operand → NoIdlePhi g E Z phis operand
no_idle g E Z phis operand none = λ b z t. inr (none b z t)
