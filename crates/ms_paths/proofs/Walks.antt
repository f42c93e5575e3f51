-- A walk over the accesses of a form for many events finds the answers for fewer.
use Rattle.std.proofs.Common.{◌≡◌, ℕ, zero, suc, ◌<◌, ◌≤◌, Bool, true, false, cond, ◌&&◌, ◌⊎◌, ◌↔◌, List, [], ◌∷◌, ◌++◌, length, take, get_or, refl, sym, ap, ◌∙◌, subst, inl, inr, ⊎_elim, arith, take-suc, take_all}
use Rattle.std.specs.Prelude.{IsTrue}
use Rattle.std.proofs.lemmas.Bool.Decides.{nat_tests}
use Rattle.std.proofs.lemmas.Bool.{cases_Bool, cases_lt, both_ways, and_parts, and_from, false_from_ne_true, cond-true, cond-false}
use Rattle.std.proofs.lemmas.Option.{slice_get-get_or}
use Rattle.std.proofs.lemmas.List.Elements.{Contains-get_or}
use Rattle.ms_paths.specs.Flow.{Block, block_at, HasEdge, IsReached, Event, Of, Phi, Entry, after, entered, last_event, IsAnswer, StandsOnce, IsReducible, IsClosed, Runs, IsRegion, IsForm, NoIdlePhi}
use Rattle.ms_paths.specs.Walk.{IsDefining, IsResolved}
use Rattle.ms_paths.proofs.Forms.{runs_has, after_any, form_answers}
use Rattle.ms_paths.proofs.Stated.{needed_told}
use Rattle.ms_paths.proofs.Ran.{after_append}

after_end : (E : ℕ → Bool) (is : List ℕ) (i : ℕ) (e : Event) → after E (is ++ i ∷ []) e ≡ cond (E i) (Of i) (after E is e)
after_end E is i e = after_append E is (i ∷ []) e

module _ (g : List Block) (D E R phis : ℕ → Bool) (enters : ℕ → Event) (operand : ℕ → ℕ → Event) (leaves defining : ℕ → Event)
    (seen : Event → Bool) (kept : ℕ → Bool) (leads : Event → Event)
    (all : (b : ℕ) → IsTrue (R b) ↔ IsReached g b) (form : IsForm g D R phis enters operand leaves) (defs : IsDefining g D phis enters defining)
    (res : IsResolved g D E phis operand defining seen kept leads) (fewer : (i : ℕ) → IsTrue (E i) → IsTrue (D i)) where
  not_more : (i : ℕ) → D i ≡ false → E i ≡ false
  not_more i f = false_from_ne_true (E i) (λ t. both_ways (D i) f (fewer i t))

  -- a walk from inside a block meets an instruction of E or comes to its beginning; what it leads to
  down : (b k : ℕ) → IsReached g b → IsTrue (seen (after D (take k (block_at g b).events) (entered phis b (enters b)))) →
      IsTrue (seen (entered phis b (enters b))) ⊎ Runs g E b
  down b zero r s = inl s
  down b (suc k) r s =
      ⊎_elim
      (λ (l : k < length (block_at g b).events).
      let i : ℕ = get_or (block_at g b).events k 0 in
      let end = ap (λ is. after D is (entered phis b (enters b))) (take-suc (block_at g b).events k 0 l) ∙ after_end D (take k (block_at g b).events) i (entered phis b (enters b)) in
      ⊎_elim
      (λ (t : D i ≡ true).
      let s_i : IsTrue (seen (Of i)) = subst (λ e. IsTrue (seen e)) (end ∙ cond-true (D i) (Of i) (after D (take k (block_at g b).events) (entered phis b (enters b))) t) s in
      ⊎_elim (λ (x : E i ≡ true). inr (i, Contains-get_or (block_at g b).events k 0 l, x))
      (λ (n : E i ≡ false). down b k r (subst (λ e. IsTrue (seen e)) (defs i b k r (slice_get-get_or (block_at g b).events k 0 l) t) (res.sees i s_i t n)))
      (cases_Bool (E i)))
      (λ (f : D i ≡ false). down b k r (subst (λ e. IsTrue (seen e)) (end ∙ cond-false (D i) (Of i) (after D (take k (block_at g b).events) (entered phis b (enters b))) f) s))
      (cases_Bool (D i)))
      (λ (l : length (block_at g b).events ≤ k).
      down b k r (subst (λ is. IsTrue (seen (after D is (entered phis b (enters b))))) (take_all (suc k) (block_at g b).events (omega arith) ∙ sym (take_all k (block_at g b).events l)) s))
      (cases_lt k (length (block_at g b).events))

  leads_up : (b k : ℕ) (x : Event) → IsReached g b → (IsTrue (seen (entered phis b (enters b))) → leads (entered phis b (enters b)) ≡ x) →
      IsTrue (seen (after D (take k (block_at g b).events) (entered phis b (enters b)))) →
      leads (after D (take k (block_at g b).events) (entered phis b (enters b))) ≡ after E (take k (block_at g b).events) x
  leads_up b zero x r begin s = begin s
  leads_up b (suc k) x r begin s =
      ⊎_elim
      (λ (l : k < length (block_at g b).events).
      let i : ℕ = get_or (block_at g b).events k 0 in
      let parts = take-suc (block_at g b).events k 0 l in
      let end = ap (λ is. after D is (entered phis b (enters b))) parts ∙ after_end D (take k (block_at g b).events) i (entered phis b (enters b)) in
      let end_e = ap (λ is. after E is x) parts ∙ after_end E (take k (block_at g b).events) i x in
      ⊎_elim
      (λ (t : D i ≡ true).
      let is_i = end ∙ cond-true (D i) (Of i) (after D (take k (block_at g b).events) (entered phis b (enters b))) t in
      let s_i : IsTrue (seen (Of i)) = subst (λ e. IsTrue (seen e)) is_i s in
      ap leads is_i
      ∙ ⊎_elim (λ (y : E i ≡ true). res.stops i y ∙ sym (cond-true (E i) (Of i) (after E (take k (block_at g b).events) x) y))
      (λ (n : E i ≡ false).
      let d = defs i b k r (slice_get-get_or (block_at g b).events k 0 l) t in
      res.passes i s_i t n ∙ ap leads d ∙ leads_up b k x r begin (subst (λ e. IsTrue (seen e)) d (res.sees i s_i t n))
      ∙ sym (cond-false (E i) (Of i) (after E (take k (block_at g b).events) x) n))
      (cases_Bool (E i))
      ∙ sym end_e)
      (λ (f : D i ≡ false).
      let is_it = end ∙ cond-false (D i) (Of i) (after D (take k (block_at g b).events) (entered phis b (enters b))) f in
      ap leads is_it ∙ leads_up b k x r begin (subst (λ e. IsTrue (seen e)) is_it s)
      ∙ sym (cond-false (E i) (Of i) (after E (take k (block_at g b).events) x) (not_more i f)) ∙ sym end_e)
      (cases_Bool (D i)))
      (λ (l : length (block_at g b).events ≤ k).
      let same = take_all (suc k) (block_at g b).events (omega arith) ∙ sym (take_all k (block_at g b).events l) in
      ap (λ is. leads (after D is (entered phis b (enters b)))) same
      ∙ leads_up b k x r begin (subst (λ is. IsTrue (seen (after D is (entered phis b (enters b))))) same s)
      ∙ ap (λ is. after E is x) (sym same))
      (cases_lt k (length (block_at g b).events))

  -- the blocks whose entering access is seen, and the form over them
  Z : ℕ → Bool
  Z b = R b && seen (entered phis b (enters b))

  K : ℕ → Bool
  K b = phis b && kept b

  into : ℕ → Event
  into b = leads (entered phis b (enters b))

  out : ℕ → Event
  out a = after E (block_at g a).events (entered K a (into a))

  begun : (b : ℕ) → IsTrue (seen (entered phis b (enters b))) → leads (entered phis b (enters b)) ≡ entered K b (into b)
  unfolding K into
  begun b s = let k = res.keeps b in grind (arith, nat_tests)

  -- what leaves a block before one of Z
  leads_out : (a : ℕ) → IsReached g a → IsTrue (seen (leaves a)) → leads (leaves a) ≡ out a
  unfolding out
  leads_out a r s =
      let whole = take_all (length (block_at g a).events) (block_at g a).events (omega arith) in
      let e = form.leaves_block a ((all a).1 r) ∙ ap (λ is. after D is (entered phis a (enters a))) (sym whole) in
      ap leads e ∙ leads_up a (length (block_at g a).events) (entered K a (into a)) r (begun a) (subst (λ e. IsTrue (seen e)) e s) ∙ ap (λ is. after E is (entered K a (into a))) whole

  seen_before : (a b : ℕ) → IsTrue (Z b) → IsReached g a → HasEdge g a b → IsTrue (seen (leaves a))
  unfolding Z
  seen_before a b z r e =
      let zs = and_parts (R b) (seen (entered phis b (enters b))) z in
      ⊎_elim
      (λ (t : phis b ≡ true).
      subst (λ e. IsTrue (seen e)) (form.operands a b zs.0 t r e) (res.opens a b (subst (λ e. IsTrue (seen e)) (cond-true (phis b) (Phi b) (enters b) t) zs.1) t r e))
      (λ (f : phis b ≡ false). subst (λ e. IsTrue (seen e)) (cond-false (phis b) (Phi b) (enters b) f ∙ form.enters_block a b zs.0 f r e) zs.1)
      (cases_Bool (phis b))

  region : IsRegion g E Z
  unfolding Z
  region = record {
    all_reached = λ b z. (all b).0 (and_parts (R b) (seen (entered phis b (enters b))) z).0;
    kept_out = λ a b z r e.
        let whole = take_all (length (block_at g a).events) (block_at g a).events (omega arith) in
        let is = form.leaves_block a ((all a).1 r) ∙ ap (λ is. after D is (entered phis a (enters a))) (sym whole) in
        ⊎_elim (λ (s : IsTrue (seen (entered phis a (enters a)))). inl (and_from (R a) (seen (entered phis a (enters a))) ((all a).1 r) s)) (λ (s : Runs g E a). inr s)
        (down a (length (block_at g a).events) r (subst (λ e. IsTrue (seen e)) is (seen_before a b z r e)));
  }

  small_form : IsForm g E Z K into (λ b a. leads (operand b a)) out
  unfolding Z K into out
  small_form = record {
    leaves_block = λ b z. refl;
    leaves_outside = λ a k f r. after_any g E a (runs_has g E a r) (entered K a (into a)) Entry;
    enters_entry = λ z n. at_entry z n;
    enters_block = λ a b z n r e. at_edge a b z n r e ∙ leads_out a r (seen_before a b z r e);
    operands = λ a b z t r e.
        let ts = and_parts (phis b) (kept b) t in
        ap leads (form.operands a b (and_parts (R b) (seen (entered phis b (enters b))) z).0 ts.0 r e) ∙ leads_out a r (seen_before a b z r e);
  }
    where
      not_kept : (b : ℕ) → (phis b && kept b) ≡ false → phis b ≡ true → kept b ≡ false
      not_kept b n t = grind (arith, nat_tests)

      at_entry : IsTrue (R 0 && seen (entered phis 0 (enters 0))) → (phis 0 && kept 0) ≡ false → leads (entered phis 0 (enters 0)) ≡ Entry
      at_entry z n =
          let zs = and_parts (R 0) (seen (entered phis 0 (enters 0))) z in
          ⊎_elim
          (λ (t : phis 0 ≡ true).
          let e = cond-true (phis 0) (Phi 0) (enters 0) t in
          ap leads e ∙ res.skips_entry (subst (λ e. IsTrue (seen e)) e zs.1) t (not_kept 0 n t))
          (λ (f : phis 0 ≡ false). ap leads (cond-false (phis 0) (Phi 0) (enters 0) f ∙ form.enters_entry zs.0 f) ∙ res.from_entry)
          (cases_Bool (phis 0))

      at_edge : (a b : ℕ) → IsTrue (R b && seen (entered phis b (enters b))) → (phis b && kept b) ≡ false → IsReached g a → HasEdge g a b →
          leads (entered phis b (enters b)) ≡ leads (leaves a)
      at_edge a b z n r e =
          let zs = and_parts (R b) (seen (entered phis b (enters b))) z in
          ⊎_elim
          (λ (t : phis b ≡ true).
          let p = cond-true (phis b) (Phi b) (enters b) t in
          ap leads p ∙ res.skips a b (subst (λ e. IsTrue (seen e)) p zs.1) t (not_kept b n t) r e ∙ ap leads (form.operands a b zs.0 t r e))
          (λ (f : phis b ≡ false). ap leads (cond-false (phis b) (Phi b) (enters b) f ∙ form.enters_block a b zs.0 f r e))
          (cases_Bool (phis b))

  small_none : NoIdlePhi g E Z K (λ b a. leads (operand b a))
  unfolding Z K
  small_none = λ b z t.
      let ts = and_parts (phis b) (kept b) t in
      let s = (and_parts (R b) (seen (entered phis b (enters b))) z).1 in
      inr (λ triv. res.none_trivial b (subst (λ e. IsTrue (seen e)) (cond-true (phis b) (Phi b) (enters b) ts.0) s) ts.0 ts.1 triv)

  pub walk_answers : StandsOnce g → IsClosed g → IsReducible g → (b k : ℕ) → IsReached g b →
      IsTrue (seen (after D (take k (block_at g b).events) (entered phis b (enters b)))) →
      IsAnswer g E b k (leads (after D (take k (block_at g b).events) (entered phis b (enters b))))
  unfolding Z
  walk_answers once closed red b k r s =
      let n = needed_told g E once closed in
      ⊎_elim
      (λ (t : seen (entered phis b (enters b)) ≡ true).
      subst (IsAnswer g E b k) (sym (leads_up b k (entered K b (into b)) r (begun b) s))
      (form_answers g E Z K into (λ b a. leads (operand b a)) out region small_form once closed red small_none n.0 n.1 b k
      (and_from (R b) (seen (entered phis b (enters b))) ((all b).1 r) t)))
      (λ (f : seen (entered phis b (enters b)) ≡ false). record {
        phis = n.0;
        phis_are = n.1;
        is_last = λ p h. sym (leads_up b k (entered n.0 b (last_event g E n.0 p)) r (λ t. absurd (both_ways (seen (entered phis b (enters b))) f t)) s);
      })
      (cases_Bool (seen (entered phis b (enters b))))
