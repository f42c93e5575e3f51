-- A trivial phi can be left out of a form.
use Rattle.std.proofs.Common.{arith, ◌≡◌, ℕ, Bool, true, false, cond, not, eqb, List, [], ◌∷◌, refl, sym, ap, ◌∙◌, subst, ⊎_elim}
use Rattle.std.specs.Prelude.{IsTrue}
use Rattle.std.proofs.lemmas.Bool.Decides.{nat_tests}
use Rattle.std.proofs.lemmas.Bool.{cases_eq, both_ways, and_parts, and_from, and_right, false_from_ne_true, cond-true, cond-false, eq-eqb, ne_eqb, not_from_false}
use Rattle.ms_paths.specs.Flow.{Block, block_at, HasEdge, Event, Of, Phi, Entry, after, entered, BringsOne, IsForm, but, in_place}

in_place_itself : (b : ℕ) (e : Event) → (e ≡ Phi b → ⊥) → in_place b e e ≡ e
in_place_itself b (Of i) n = refl
in_place_itself b (Phi x) n = cond-false (eqb x b) (Phi x) (Phi x) (ne_eqb x b (λ k. n (ap Phi k)))
in_place_itself b Entry n = refl

in_place_phi : (b : ℕ) (e : Event) → in_place b e (Phi b) ≡ e
in_place_phi b e = cond-true (eqb b b) e (Phi b) (eq-eqb b b refl)

after_in_place : (E : ℕ → Bool) (b : ℕ) (e : Event) (is : List ℕ) (y : Event) → in_place b e (after E is y) ≡ after E is (in_place b e y)
after_in_place E b e [] y = refl
after_in_place E b e (i ∷ is) y = after_in_place E b e is (cond (E i) (Of i) y) ∙ ap (after E is) (here (E i))
  where
    here : (t : Bool) → in_place b e (cond t (Of i) y) ≡ cond t (Of i) (in_place b e y)
    here true = refl
    here false = refl

module _ (g : List Block) (E Z phis : ℕ → Bool) (enters : ℕ → Event) (operand : ℕ → ℕ → Event) (leaves : ℕ → Event) (b : ℕ) (e : Event)
    (form : IsForm g E Z phis enters operand leaves) (zb : IsTrue (Z b)) (tb : IsTrue (phis b)) (ne : e ≡ Phi b → ⊥) (one : BringsOne g operand b e) where
  -- what enters a block now
  now : ℕ → Event
  now x = in_place b e (cond (eqb x b) e (enters x))

  now_b : (x : ℕ) → x ≡ b → now x ≡ e
  unfolding now
  now_b x s = ap (in_place b e) (cond-true (eqb x b) e (enters x) (eq-eqb x b s)) ∙ in_place_itself b e ne

  now_other : (x : ℕ) → (x ≡ b → ⊥) → now x ≡ in_place b e (enters x)
  unfolding now
  now_other x n = ap (in_place b e) (cond-false (eqb x b) e (enters x) (ne_eqb x b n))

  but_b : (x : ℕ) → x ≡ b → but b phis x ≡ false
  but_b x s = and_right (phis x) (not (eqb x b)) (false_from_ne_true (not (eqb x b)) (λ t. both_ways (not (eqb x b)) (let k = eq-eqb x b s in rw k refl) t))

  out_of_but : (x : ℕ) → (x ≡ b → ⊥) → but b phis x ≡ false → phis x ≡ false
  out_of_but x n f = false_from_ne_true (phis x) (λ t. both_ways (but b phis x) f (and_from (phis x) (not (eqb x b)) t (not_from_false (eqb x b) (ne_eqb x b n))))

  begun : (x : ℕ) → in_place b e (entered phis x (enters x)) ≡ entered (but b phis) x (now x)
  begun x =
      ⊎_elim
      (λ (s : x ≡ b).
      let a = now_b x s in
      let t : phis x ≡ true = subst (λ y. phis y ≡ true) (sym s) tb in
      let p : in_place b e (Phi x) ≡ e = subst (λ y. in_place b e (Phi y) ≡ e) (sym s) (in_place_phi b e) in
      grind (arith, nat_tests))
      (λ (n : x ≡ b → ⊥). let a = now_other x n in grind (arith, nat_tests))
      (cases_eq x b)

  pub trivial_out : IsForm g E Z (but b phis) (λ x. in_place b e (cond (eqb x b) e (enters x))) (λ x a. in_place b e (operand x a)) (λ x. in_place b e (leaves x))
  unfolding now
  trivial_out = record {
    leaves_block = λ x z. ap (in_place b e) (form.leaves_block x z) ∙ after_in_place E b e (block_at g x).events (entered phis x (enters x)) ∙ ap (after E (block_at g x).events) (begun x);
    leaves_outside = λ a k f r. ap (in_place b e) (form.leaves_outside a k f r) ∙ after_in_place E b e (block_at g a).events Entry;
    enters_entry = λ z f.
        ⊎_elim (λ (s : 0 ≡ b). now_b 0 s ∙ one.0 (sym s)) (λ (n : 0 ≡ b → ⊥). now_other 0 n ∙ ap (in_place b e) (form.enters_entry z (out_of_but 0 n f))) (cases_eq 0 b);
    enters_block = λ a x z f r k.
        ⊎_elim
        (λ (s : x ≡ b).
        let to_b = subst (HasEdge g a) s k in
        now_b x s
        ∙ ⊎_elim (λ (y : operand b a ≡ e). sym (in_place_itself b e ne) ∙ ap (in_place b e) (sym y)) (λ (y : operand b a ≡ Phi b). sym (in_place_phi b e) ∙ ap (in_place b e) (sym y))
        (one.1 a r to_b)
        ∙ ap (in_place b e) (form.operands a b zb tb r to_b))
        (λ (n : x ≡ b → ⊥). now_other x n ∙ ap (in_place b e) (form.enters_block a x z (out_of_but x n f) r k))
        (cases_eq x b);
    operands = λ a x z t r k. ap (in_place b e) (form.operands a x z (and_parts (phis x) (not (eqb x b)) t).0 r k);
  }
