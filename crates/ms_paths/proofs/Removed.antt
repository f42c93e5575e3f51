-- A form with an event left out.
use Rattle.std.proofs.Common.{◌≡◌, ℕ, zero, suc, ◌<◌, Bool, true, false, cond, not, eqb, List, [], ◌∷◌, ◌++◌, length, take, append-nil, ◌↔◌, refl, sym, ap, ◌∙◌, subst, ⊎_elim, arith}
use Rattle.std.specs.Prelude.{Contains, IsTrue, slice_get, Some, filter}
use Rattle.std.proofs.lemmas.Bool.Decides.{nat_tests}
use Rattle.std.proofs.lemmas.Bool.{cases_Bool, cases_eq, both_ways, false_from_ne_true, and_parts, cond-true, cond-false, eqb-true, eqb-false, eq-eqb, ne_eqb}
use Rattle.ms_paths.specs.Flow.{Block, block_at, Event, Of, Phi, Entry, after, entered, IsRegion, IsForm, StandsAt, StandsInOnePlace, IsPath, last_event, Suffices, NeedsPhi}
use Rattle.ms_paths.specs.Edits.{less, for_def, SameEvents}
use Rattle.ms_paths.proofs.Order.{on, on_cases}
use Rattle.ms_paths.proofs.Ran.{after_append}
use Rattle.ms_paths.proofs.First.{Avoids}
use Rattle.ms_paths.proofs.Reduce.{contains_on}
use Rattle.ms_paths.proofs.Region.{inside}
use Rattle.ms_paths.proofs.Forms.{enters_last}
use Rattle.ms_paths.proofs.Through.{fresh}
use Rattle.ms_paths.proofs.OneMore.{avoids_at}
use Rattle.ms_paths.proofs.Stated.{after_of, entered_of, last_of_met}
use Rattle.std.proofs.lemmas.Option.{slice_get-get_or}

for_def_itself : (d : ℕ) (w : Event) → (w ≡ Of d → ⊥) → for_def d w w ≡ w
for_def_itself d (Of i) n = cond-false (eqb i d) (Of i) (Of i) (ne_eqb i d (λ k. n (ap Of k)))
for_def_itself d (Phi x) n = refl
for_def_itself d Entry n = refl

for_def_at : (d : ℕ) (w : Event) → for_def d w (Of d) ≡ w
for_def_at d w = cond-true (eqb d d) w (Of d) (eq-eqb d d refl)

step : (D : ℕ → Bool) (d i : ℕ) (w y : Event) → (i ≡ d → ⊥) → for_def d w (cond (D i) (Of i) y) ≡ cond (less d D i) (Of i) (for_def d w y)
step D d i w y n =
    let k : eqb i d ≡ false = ne_eqb i d n in
    ⊎_elim
    (λ (t : D i ≡ true).
    ap (for_def d w) (cond-true (D i) (Of i) y t) ∙ cond-false (eqb i d) w (Of i) k ∙ sym (cond-true (less d D i) (Of i) (for_def d w y) (grind (arith, nat_tests))))
    (λ (f : D i ≡ false).
    ap (for_def d w) (cond-false (D i) (Of i) y f) ∙ sym (cond-false (less d D i) (Of i) (for_def d w y) (grind (arith, nat_tests))))
    (cases_Bool (D i))

after_other : (D : ℕ → Bool) (d : ℕ) (w : Event) (is : List ℕ) (y : Event) → on d is ≡ false → for_def d w (after D is y) ≡ after (less d D) is (for_def d w y)
after_other D d w [] y f = refl
after_other D d w (i ∷ is) y f =
    let head : eqb i d ≡ false = grind (arith, nat_tests) in
    let tail : on d is ≡ false = grind (arith, nat_tests) in
    after_other D d w is (cond (D i) (Of i) y) tail ∙ ap (after (less d D) is) (step D d i w y (eqb-false i d head))

-- a list cut at a place
record Split (is : List ℕ) (k d : ℕ) : Type 0 where
  front : List ℕ
  rest : List ℕ
  whole : is ≡ front ++ d ∷ rest
  first : take k is ≡ front
  long : length front ≡ k

split : (is : List ℕ) (k d : ℕ) → slice_get is k ≡ Some d → Split is k d
split [] k d e = cc
split (x ∷ is) zero d e = let s : x ≡ d = cc in record { front = []; rest = is; whole = ap (λ y. y ∷ is) s; first = refl; long = refl }
split (x ∷ is) (suc k) d e =
    let r = split is k d e in
    record { front = x ∷ r.front; rest = r.rest; whole = ap (λ l. x ∷ l) r.whole; first = ap (λ l. x ∷ l) r.first; long = let l = r.long in omega arith }

place_in : (d : ℕ) (m r : List ℕ) → on d m ≡ true → (j : ℕ) × (j < length m) × (slice_get (m ++ r) j ≡ Some d)
place_in d [] r t = absurd (both_ways false refl t)
place_in d (x ∷ m) r t =
    ⊎_elim (λ (e : x ≡ d). (0, omega arith, ap Some e)) (λ (s : on d m ≡ true). let p = place_in d m r s in let l = p.1 in (suc p.0, omega arith, p.2)) (on_cases d x m t)

place_behind : (d : ℕ) (m : List ℕ) (x : ℕ) (r : List ℕ) → on d r ≡ true → (j : ℕ) × (length m < j) × (slice_get (m ++ x ∷ r) j ≡ Some d)
place_behind d [] x r t = let p = place_in d r [] t in (suc p.0, omega arith, subst (λ l. slice_get l p.0 ≡ Some d) (append-nil r) p.2)
place_behind d (y ∷ m) x r t = let p = place_behind d m x r t in let l = p.1 in (suc p.0, omega arith, p.2)

module _ (g : List Block) (D Z phis : ℕ → Bool) (enters : ℕ → Event) (operand : ℕ → ℕ → Event) (leaves : ℕ → Event) (d b k : ℕ) (w : Event)
    (form : IsForm g D Z phis enters operand leaves) (once : StandsInOnePlace g) (at : StandsAt g d b k) (d_in : IsTrue (D d))
    (w_is : w ≡ after D (take k (block_at g b).events) (entered phis b (enters b))) (ne : w ≡ Of d → ⊥) where
  elsewhere : (x : ℕ) → (x ≡ b → ⊥) → on d (block_at g x).events ≡ false
  elsewhere x n = false_from_ne_true (on d (block_at g x).events) (λ t.
      let p = place_in d (block_at g x).events [] t in
      n (once d x p.0 b k (subst (λ l. slice_get l p.0 ≡ Some d) (append-nil (block_at g x).events) p.2) at).0)

  begun : (x : ℕ) → for_def d w (entered phis x (enters x)) ≡ entered phis x (for_def d w (enters x))
  begun x = by (phis x)
    where
      by : (t : Bool) → for_def d w (cond t (Phi x) (enters x)) ≡ cond t (Phi x) (for_def d w (enters x))
      by true = refl
      by false = refl

  at_b : for_def d w (after D (block_at g b).events (entered phis b (enters b))) ≡ after (less d D) (block_at g b).events (for_def d w (entered phis b (enters b)))
  at_b =
      ap (λ l. for_def d w (after D l y)) s.whole ∙ ap (for_def d w) (after_append D s.front (d ∷ s.rest) y ∙ ap (after D s.rest) (cond-true (D d) (Of d) (after D s.front y) d_in))
      ∙ after_other D d w s.rest (Of d) rest_clear ∙ ap (after (less d D) s.rest) (for_def_at d w ∙ sym (for_def_itself d w ne) ∙ ap (for_def d w) w_front ∙ after_other D d w s.front y front_clear
      ∙ sym (cond-false (less d D d) (Of d) (after (less d D) s.front (for_def d w y)) not_less))
      ∙ sym (after_append (less d D) s.front (d ∷ s.rest) (for_def d w y)) ∙ ap (λ l. after (less d D) l (for_def d w y)) (sym s.whole)
    where
      y : Event
      y = entered phis b (enters b)

      s : Split (block_at g b).events k d
      s = split (block_at g b).events k d at

      w_front : w ≡ after D s.front y
      w_front = w_is ∙ ap (λ l. after D l y) s.first

      front_clear : on d s.front ≡ false
      front_clear = false_from_ne_true (on d s.front) (λ t.
          let p = place_in d s.front (d ∷ s.rest) t in
          let e = (once d b p.0 b k (subst (λ l. slice_get l p.0 ≡ Some d) (sym s.whole) p.2) at).1 in
          let l = s.long in let m = p.1 in omega arith)

      rest_clear : on d s.rest ≡ false
      rest_clear = false_from_ne_true (on d s.rest) (λ t.
          let p = place_behind d s.front d s.rest t in
          let e = (once d b p.0 b k (subst (λ l. slice_get l p.0 ≡ Some d) (sym s.whole) p.2) at).1 in
          let l = s.long in let m = p.1 in omega arith)

      not_less : less d D d ≡ false
      not_less = let e = eq-eqb d d refl in grind (arith, nat_tests)

  at_block : (x : ℕ) → for_def d w (after D (block_at g x).events (entered phis x (enters x))) ≡ after (less d D) (block_at g x).events (entered phis x (for_def d w (enters x)))
  at_block x =
      ⊎_elim
      (λ (e : x ≡ b). subst (λ z. for_def d w (after D (block_at g z).events (entered phis z (enters z))) ≡ after (less d D) (block_at g z).events (for_def d w (entered phis z (enters z)))) (sym e) at_b)
      (λ (n : x ≡ b → ⊥). after_other D d w (block_at g x).events (entered phis x (enters x)) (elsewhere x n))
      (cases_eq x b)
      ∙ ap (after (less d D) (block_at g x).events) (begun x)

  -- with the access before it in its place, an event can be left out of a form over a region that holds its block
  pub def_out : IsTrue (Z b) → IsForm g (less d D) Z phis (λ x. for_def d w (enters x)) (λ x a. for_def d w (operand x a)) (λ x. for_def d w (leaves x))
  def_out zb = record {
    leaves_block = λ x z. ap (for_def d w) (form.leaves_block x z) ∙ at_block x;
    leaves_outside = λ a r f s.
        ap (for_def d w) (form.leaves_outside a r f (s.0, s.1, (and_parts (D s.0) (not (eqb s.0 d)) s.2).0))
        ∙ after_other D d w (block_at g a).events Entry (elsewhere a (λ e. both_ways (Z a) f (subst (λ z. Z z ≡ true) (sym e) zb)));
    enters_entry = λ z f. ap (for_def d w) (form.enters_entry z f);
    enters_block = λ a x z f r e. ap (for_def d w) (form.enters_block a x z f r e);
    operands = λ a x z t r e. ap (for_def d w) (form.operands a x z t r e);
  }

-- only the instructions of E and the edges count
pub after_filter : (E : ℕ → Bool) (is : List ℕ) (e : Event) → after E is e ≡ after E (filter E is) e
after_filter E [] e = refl
after_filter E (i ∷ is) e =
    ⊎_elim
    (λ (t : E i ≡ true).
    after_filter E is (cond (E i) (Of i) e)
    ∙ sym (ap (λ l. after E l e) (cond-true (E i) (i ∷ filter E is) (filter E is) t)))
    (λ (f : E i ≡ false).
    ap (after E is) (cond-false (E i) (Of i) e f) ∙ after_filter E is e
    ∙ sym (ap (λ l. after E l e) (cond-false (E i) (i ∷ filter E is) (filter E is) f)))
    (cases_Bool (E i))

same_back : (g h : List Block) (E : ℕ → Bool) → SameEvents g h E → SameEvents h g E
same_back g h E s = record { next = λ b. sym (s.next b); events = λ b. sym (s.events b) }

same_path : (g h : List Block) (E : ℕ → Bool) → SameEvents g h E → (p : List ℕ) (b : ℕ) → IsPath g b p → IsPath h b p
same_path g h E s [] b path = path
same_path g h E s (a ∷ p) b path = (subst (λ l. Contains l b) (s.next a) path.0, same_path g h E s p a path.1)

same_last : (g h : List Block) (E S : ℕ → Bool) → SameEvents g h E → (p : List ℕ) → last_event g E S p ≡ last_event h E S p
same_last g h E S s [] = refl
same_last g h E S s (b ∷ p) =
    let e : Event = entered S b (last_event g E S p) in
    after_filter E (block_at g b).events e ∙ ap (λ l. after E l e) (s.events b) ∙ sym (after_filter E (block_at h b).events e)
    ∙ ap (λ x. after E (block_at h b).events (entered S b x)) (same_last g h E S s p)

same_suffices : (g h : List Block) (E S : ℕ → Bool) → SameEvents g h E → Suffices g E S → Suffices h E S
same_suffices g h E S s suff = record {
  one_event = λ b p q hp hq f.
      let back = same_back g h E s in
      sym (same_last g h E S s p) ∙ suff.one_event b p q (same_path h g E back p b hp) (same_path h g E back q b hq) f ∙ same_last g h E S s q;
}

pub same_needs : (g h : List Block) (E : ℕ → Bool) → SameEvents g h E → (b : ℕ) → NeedsPhi g E b ↔ NeedsPhi h E b
same_needs g h E s b =
    (λ n S suff. n S (same_suffices h g E S (same_back g h E s) suff), λ n S suff. n S (same_suffices g h E S s suff))

-- the access before a reached event is not the event itself
pub not_its_own : (g : List Block) (D Z phis : ℕ → Bool) (enters : ℕ → Event) (operand : ℕ → ℕ → Event) (leaves : ℕ → Event) (d b k : ℕ) →
    IsRegion g D Z → IsForm g D Z phis enters operand leaves → StandsInOnePlace g → StandsAt g d b k → IsTrue (Z b) →
    after D (take k (block_at g b).events) (entered phis b (enters b)) ≡ Of d → ⊥
not_its_own g D Z phis enters operand leaves d b k region form once at zb e =
    ⊎_elim (λ (m : Contains (take k (block_at g b).events) d). both_ways (on d (take k (block_at g b).events)) clear (contains_on d (take k (block_at g b).events) m))
    (λ (s : entered phis b (enters b) ≡ Of d).
    let at_start = entered_of phis b (enters b) d s in
    ⊎_elim (λ (t : phis b ≡ true). let u : Phi b ≡ Of d = sym (cond-true (phis b) (Phi b) (enters b) t) ∙ s in cc)
    (λ (f : phis b ≡ false).
    let m = last_of_met g D (inside Z phis) d once_to_b.0 (enters_last g D Z phis enters operand leaves region form b once_to_b.0 zb f once_to_b.1 ∙ at_start) in
    let a_is = (once d m.0 m.2.0 b k (slice_get-get_or (block_at g m.0).events m.2.0 d m.2.1 ∙ ap Some m.2.2) at).0 in
    both_ways (eqb m.0 b) (avoids_at (λ x. eqb x b) once_to_b.0 m.0 m.1.0 once_to_b.2 m.1.1 m.1.2) (eq-eqb m.0 b a_is))
    (cases_Bool (phis b)))
    (after_of D (take k (block_at g b).events) (entered phis b (enters b)) d e)
  where
    once_to_b : (w : List ℕ) × IsPath g b w × Avoids (λ x. eqb x b) w
    once_to_b =
        let r = region.all_reached b zb in
        fresh g (λ x. eqb x b) (λ x y s t. eqb-true x b s ∙ sym (eqb-true y b t)) b (eq-eqb b b refl) r.0 r.1

    clear : on d (take k (block_at g b).events) ≡ false
    clear = false_from_ne_true (on d (take k (block_at g b).events)) (λ t.
        let s = split (block_at g b).events k d at in
        let p = place_in d s.front (d ∷ s.rest) (subst (λ l. on d l ≡ true) s.first t) in
        let e = (once d b p.0 b k (subst (λ l. slice_get l p.0 ≡ Some d) (sym s.whole) p.2) at).1 in
        let l = s.long in let m = p.1 in omega arith)
