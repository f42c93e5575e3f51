-- Which blocks of small graphs need a phi.
use Rattle.std.proofs.Common.{◌∙◌, ◌||◌, ◌≡◌, ℕ, zero, suc, ◌<◌, Bool, true, false, cond, not, ◌&&◌, eqb, ltb, ◌⊎◌, ◌↔◌, List, [], ◌∷◌, refl, sym, subst, inl, inr, ⊎_elim, arith}
use Rattle.std.specs.Prelude.{Contains, IsTrue}
use Rattle.std.proofs.lemmas.Bool.Decides.{nat_tests}
use Rattle.ms_paths.proofs.Forms.{form_needed, whole_region, no_idle}
use Rattle.std.proofs.lemmas.Bool.{lt-ltb, both_ways, or_cases, true_from_ne_false, eqb-true, ltb-true}
use Rattle.ms_paths.specs.Flow.{Block, block_at, IsPath, IsReached, Event, Of, Phi, Entry, after, entered, last_event, NeedsPhi, just, no_block, IsReducible, IsClosed, IsTrivialPhi, IsForm, NoTrivialPhi, HasEdge, StandsOnce}
use Rattle.ms_paths.specs.Samples.{any_event, diamond, self_loop, nested, two_entries, one_or_two}
use Rattle.ms_paths.proofs.Order.{on, on_cases}
use Rattle.ms_paths.proofs.Reduce.{contains_on, reached_in, reducible_by}
use Rattle.ms_paths.proofs.Labels.{event_eq, event_eq-true, edge_at, labelled_suffice, places_by}

edge0 : (b : ℕ) (bs : List ℕ) → Contains (b ∷ bs) b
edge0 b bs = (0, omega arith, refl)

edge1 : (a b : ℕ) (bs : List ℕ) → Contains (a ∷ b ∷ bs) b
edge1 a b bs = (1, omega arith, refl)

-- a block needs a phi where two paths differ, whatever phis there are
needs_by : (g : List Block) (E : ℕ → Bool) (b : ℕ) (p q : List ℕ) → IsPath g b p → IsPath g b q →
    ((S : ℕ → Bool) → last_event g E S p ≡ last_event g E S q → ⊥) → NeedsPhi g E b
needs_by g E b p q hp hq apart = λ S s. true_from_ne_false (S b) (λ f. apart S (s.one_event b p q hp hq f))

apart2 : (x y : Bool) (i b c : ℕ) → Of i ≡ cond x (Phi b) (cond y (Phi c) Entry) → ⊥
apart2 true y i b c e = cc
apart2 false true i b c e = cc
apart2 false false i b c e = cc

apart1 : (x : Bool) (i b : ℕ) → Of i ≡ cond x (Phi b) Entry → ⊥
apart1 true i b e = cc
apart1 false i b e = cc

pub diamond_needs : (b : ℕ) → NeedsPhi diamond any_event b ↔ (b ≡ 3)
diamond_needs b = (
  λ n. eqb-true b 3 (n (just 3) (labelled_suffice diamond any_event (just 3) (λ x. Entry) refl)),
  λ e. subst (NeedsPhi diamond any_event) (sym e)
      (needs_by diamond any_event 3 (1 ∷ 0 ∷ []) (2 ∷ 0 ∷ []) (edge0 3 [], (edge0 1 (2 ∷ []), refl)) (edge0 3 [], (edge1 1 2 [], refl))
      (λ S e. apart2 (S 2) (S 0) 7 2 0 e)),
)

pub self_loop_needs : (b : ℕ) → NeedsPhi self_loop any_event b ↔ (b ≡ 1)
self_loop_needs b = (
  λ n. eqb-true b 1 (n (just 1) (labelled_suffice self_loop any_event (just 1) label refl)),
  λ e. subst (NeedsPhi self_loop any_event) (sym e)
      (needs_by self_loop any_event 1 (1 ∷ 0 ∷ []) (0 ∷ []) (edge0 1 (2 ∷ []), (edge0 1 [], refl)) (edge0 1 [], refl)
      (λ S e. apart1 (S 0) 7 0 e)),
)
  where
    label : ℕ → Event
    label x = cond (eqb x 2) (Of 7) Entry

apart_nested : (x y z : Bool) → cond x (Phi 4) (cond y (Phi 2) (Of 7)) ≡ cond z (Phi 0) Entry → ⊥
apart_nested true y true e = cc
apart_nested true y false e = cc
apart_nested false true true e = cc
apart_nested false true false e = cc
apart_nested false false true e = cc
apart_nested false false false e = cc

pub nested_needs : (b : ℕ) → NeedsPhi nested any_event b ↔ ((b ≡ 1) ⊎ (b ≡ 2))
nested_needs b = (
  λ n. ⊎_elim (λ (t : just 1 b ≡ true). inl (eqb-true b 1 t)) (λ (t : just 2 b ≡ true). inr (eqb-true b 2 t))
      (or_cases (just 1 b) (just 2 b) (n one_or_two (labelled_suffice nested any_event one_or_two label refl))),
  ⊎_elim
      (λ (e : b ≡ 1). subst (NeedsPhi nested any_event) (sym e)
      (needs_by nested any_event 1 (4 ∷ 2 ∷ 3 ∷ 2 ∷ 1 ∷ 0 ∷ []) (0 ∷ [])
      (edge0 1 (5 ∷ []), (edge1 3 4 [], (edge0 2 [], (edge0 3 (4 ∷ []), (edge0 2 [], (edge0 1 [], refl)))))) (edge0 1 [], refl)
      (λ S e. apart_nested (S 4) (S 2) (S 0) e)))
      (λ (e : b ≡ 2). subst (NeedsPhi nested any_event) (sym e)
      (needs_by nested any_event 2 (3 ∷ 2 ∷ 1 ∷ 0 ∷ []) (1 ∷ 0 ∷ [])
      (edge0 2 [], (edge0 3 (4 ∷ []), (edge0 2 [], (edge0 1 [], refl)))) (edge0 2 [], (edge0 1 [], refl))
      (λ S e. apart2 (S 1) (S 0) 7 1 0 e))),
)
  where
    label : ℕ → Event
    label x = cond (eqb x 0) Entry (Phi 2)

pub two_entries_need : (b : ℕ) → NeedsPhi two_entries any_event b → ⊥
two_entries_need b n = both_ways false refl (n no_block (labelled_suffice two_entries any_event no_block label refl))
  where
    label : ℕ → Event
    label x = cond (eqb x 0) Entry (Of 7)

pub nested_reducible : IsReducible nested
nested_reducible = reducible_by nested (λ b. b) 6 (places_by nested (λ b. b) 6 over (reached_in nested closed) refl)
  where
    over : ℕ → ℕ → Bool
    over h b = cond (eqb h 1) (not (eqb b 0)) (cond (eqb h 2) (not (eqb b 0) && not (eqb b 1)) false)

    closed : IsClosed nested
    closed = record { has_entry = omega arith; edges_in = λ a b e. ltb-true b 6 (edge_at (λ a x b. ltb b 6) nested a b refl e) }

pub two_entries_irreducible : IsReducible two_entries → ⊥
two_entries_irreducible red =
    let h = red 1 2 (1 ∷ []) (0 ∷ [], (edge0 1 (2 ∷ []), refl)) (edge0 1 [], (edge0 2 [], refl)) in
    let on_one = contains_on h.0 (1 ∷ 0 ∷ []) (h.2 1 (edge1 2 1 []) (0 ∷ []) (edge0 1 (2 ∷ []), refl)) in
    let on_two = contains_on h.0 (2 ∷ 0 ∷ []) (h.2 2 (edge0 2 (1 ∷ [])) (0 ∷ []) (edge1 1 2 [], refl)) in
    let on_loop = contains_on h.0 (2 ∷ 1 ∷ []) h.1 in
    ⊎_elim
    (λ (e : 2 ≡ h.0). both_ways false refl (subst (λ x. on x (1 ∷ 0 ∷ []) ≡ true) (sym e) on_one))
    (λ (t : on h.0 (1 ∷ []) ≡ true).
    ⊎_elim (λ (e : 1 ≡ h.0). both_ways false refl (subst (λ x. on x (2 ∷ 0 ∷ []) ≡ true) (sym e) on_two))
    (λ (f : false ≡ true). both_ways false refl f) (on_cases h.0 1 [] t))
    (on_cases h.0 2 (1 ∷ []) on_loop)

differ : (e : Event) (b c : ℕ) → (Of 7 ≡ e) ⊎ (Of 7 ≡ Phi b) → (Phi c ≡ e) ⊎ (Phi c ≡ Phi b) → (c ≡ b → ⊥) → ⊥
differ e b c (inl x) (inl y) n = cc
differ e b c (inl x) (inr y) n = n (cc)
differ e b c (inr x) y n = cc

-- a form of it with two phis, neither of them trivial
pub two_entries_form : IsForm two_entries any_event (λ b. ltb b 3) one_or_two (λ b. Entry) (λ b a. cond (eqb a 0) (Of 7) (Phi a)) (λ a. cond (eqb a 0) (Of 7) (Phi a))
two_entries_form = record {
  leaves_block = block;
  leaves_outside = λ a k f r. absurd (outside a f r.0 r.1);
  enters_entry = λ z f. refl;
  enters_block = λ a b z f r e. absurd (both_ways (one_or_two b) f (edge_at (λ a x b. one_or_two b) two_entries a b refl e));
  operands = λ a b z t r e. refl;
}
  where
    block : (b : ℕ) → IsTrue (ltb b 3) → cond (eqb b 0) (Of 7) (Phi b) ≡ after any_event (block_at two_entries b).events (entered one_or_two b Entry)
    block zero z = refl
    block (suc zero) z = refl
    block (suc (suc zero)) z = refl
    block (suc (suc (suc b))) z = absurd (let l = ltb-true (suc (suc (suc b))) 3 z in omega arith)

    outside : (a : ℕ) → ltb a 3 ≡ false → (i : ℕ) → Contains (block_at two_entries a).events i → ⊥
    outside zero f i r = both_ways true f refl
    outside (suc zero) f i r = both_ways true f refl
    outside (suc (suc zero)) f i r = both_ways true f refl
    outside (suc (suc (suc a))) f i r = let l : r.0 < 0 = r.1 in omega arith

start : IsReached two_entries 0
start = ([], refl)

two_entries_none : (b : ℕ) → IsTrue (one_or_two b) → IsTrivialPhi two_entries (λ b a. cond (eqb a 0) (Of 7) (Phi a)) b → ⊥
two_entries_none zero t triv = both_ways false refl t
two_entries_none (suc zero) t triv = differ triv.0 1 2 (triv.1.1 0 start (edge0 1 (2 ∷ []))) (triv.1.1 2 (0 ∷ [], (edge1 1 2 [], refl)) (edge0 1 [])) (λ e. cc)
two_entries_none (suc (suc zero)) t triv = differ triv.0 2 1 (triv.1.1 0 start (edge1 1 2 [])) (triv.1.1 1 (0 ∷ [], (edge0 1 (2 ∷ []), refl)) (edge0 2 [])) (λ e. cc)
two_entries_none (suc (suc (suc b))) t triv =
    ⊎_elim (λ (s : just 1 (suc (suc (suc b))) ≡ true). let e = eqb-true (suc (suc (suc b))) 1 s in omega arith)
    (λ (s : just 2 (suc (suc (suc b))) ≡ true). let e = eqb-true (suc (suc (suc b))) 2 s in omega arith)
    (or_cases (just 1 (suc (suc (suc b)))) (just 2 (suc (suc (suc b)))) t)

pub two_entries_not_trivial : NoTrivialPhi two_entries (λ b. ltb b 3) one_or_two (λ b a. cond (eqb a 0) (Of 7) (Phi a))
two_entries_not_trivial = λ b z t triv. two_entries_none b t triv

-- the premises of the law of forms hold of a form of the diamond
diamond_closed : IsClosed diamond
diamond_closed = record { has_entry = omega arith; edges_in = λ a b e. ltb-true b 4 (edge_at (λ a x b. ltb b 4) diamond a b refl e) }

diamond_reducible : IsReducible diamond
diamond_reducible = reducible_by diamond (λ b. b) 4 (places_by diamond (λ b. b) 4 (λ h b. false) (reached_in diamond diamond_closed) refl)

only_one : (a i : ℕ) → Contains (block_at diamond a).events i → a ≡ 1
only_one zero i c = absurd (let l : c.0 < 0 = c.1 in omega arith)
only_one (suc zero) i c = refl
only_one (suc (suc zero)) i c = absurd (let l : c.0 < 0 = c.1 in omega arith)
only_one (suc (suc (suc zero))) i c = absurd (let l : c.0 < 0 = c.1 in omega arith)
only_one (suc (suc (suc (suc a)))) i c = absurd (let l : c.0 < 0 = c.1 in omega arith)

diamond_once : StandsOnce diamond
diamond_once = λ a b i c d. only_one a i c ∙ sym (only_one b i d)

diamond_reached : (b : ℕ) → IsTrue (ltb b 4) ↔ IsReached diamond b
diamond_reached b = (λ t. by b t, λ r. lt-ltb b 4 (reached_in diamond diamond_closed b r))
  where
    by : (b : ℕ) → IsTrue (ltb b 4) → IsReached diamond b
    by zero t = ([], refl)
    by (suc zero) t = (0 ∷ [], (edge0 1 (2 ∷ []), refl))
    by (suc (suc zero)) t = (0 ∷ [], (edge1 1 2 [], refl))
    by (suc (suc (suc zero))) t = (1 ∷ 0 ∷ [], (edge0 3 [], (edge0 1 (2 ∷ []), refl)))
    by (suc (suc (suc (suc b)))) t = absurd (let l = ltb-true (suc (suc (suc (suc b)))) 4 t in omega arith)

diamond_form : IsForm diamond any_event (λ b. ltb b 4) (just 3) (λ b. Entry) (λ b a. cond (eqb a 1) (Of 7) Entry) (λ a. cond (eqb a 1) (Of 7) (cond (eqb a 3) (Phi 3) Entry))
diamond_form = record {
  leaves_block = block;
  leaves_outside = λ a r f s. absurd (both_ways (ltb a 4) f ((diamond_reached a).1 r));
  enters_entry = λ z f. refl;
  enters_block = λ a b z f r e.
      ⊎_elim (λ (t : just 3 b ≡ true). absurd (both_ways (just 3 b) f t)) (λ (t : event_eq Entry (cond (eqb a 1) (Of 7) (cond (eqb a 3) (Phi 3) Entry)) ≡ true). event_eq-true Entry (cond (eqb a 1) (Of 7) (cond (eqb a 3) (Phi 3) Entry)) t)
      (or_cases (just 3 b) (event_eq Entry (cond (eqb a 1) (Of 7) (cond (eqb a 3) (Phi 3) Entry)))
      (edge_at (λ a x b. just 3 b || event_eq Entry (cond (eqb a 1) (Of 7) (cond (eqb a 3) (Phi 3) Entry))) diamond a b refl e));
  operands = λ a b z t r e. not_three a b e;
}
  where
    block : (b : ℕ) → IsTrue (ltb b 4) → cond (eqb b 1) (Of 7) (cond (eqb b 3) (Phi 3) Entry) ≡ after any_event (block_at diamond b).events (entered (just 3) b Entry)
    block zero z = refl
    block (suc zero) z = refl
    block (suc (suc zero)) z = refl
    block (suc (suc (suc zero))) z = refl
    block (suc (suc (suc (suc b)))) z = absurd (let l = ltb-true (suc (suc (suc (suc b)))) 4 z in omega arith)

    not_three : (a b : ℕ) → HasEdge diamond a b → cond (eqb a 1) (Of 7) Entry ≡ cond (eqb a 1) (Of 7) (cond (eqb a 3) (Phi 3) Entry)
    not_three zero b e = refl
    not_three (suc zero) b e = refl
    not_three (suc (suc zero)) b e = refl
    not_three (suc (suc (suc zero))) b e = absurd (let l : e.0 < 0 = e.1 in omega arith)
    not_three (suc (suc (suc (suc a)))) b e = absurd (let l : e.0 < 0 = e.1 in omega arith)

apart_of : (e : Event) (b : ℕ) → (Of 7 ≡ e) ⊎ (Of 7 ≡ Phi b) → (Entry ≡ e) ⊎ (Entry ≡ Phi b) → ⊥
apart_of e b x y = grind (arith, nat_tests)

diamond_not_trivial : NoTrivialPhi diamond (λ b. ltb b 4) (just 3) (λ b a. cond (eqb a 1) (Of 7) Entry)
diamond_not_trivial = λ b z t triv.
    let s = eqb-true b 3 t in
    let one = triv.1.1 1 ((diamond_reached 1).0 refl) (subst (HasEdge diamond 1) (sym s) (edge0 3 [])) in
    let two = triv.1.1 2 ((diamond_reached 2).0 refl) (subst (HasEdge diamond 2) (sym s) (edge0 3 [])) in
    apart_of triv.0 b one two

pub diamond_by_form : (b : ℕ) → IsReached diamond b → IsTrue (just 3 b) ↔ NeedsPhi diamond any_event b
diamond_by_form b r =
    form_needed diamond any_event (λ b. ltb b 4) (just 3) (λ b. Entry) (λ b a. cond (eqb a 1) (Of 7) Entry) (λ a. cond (eqb a 1) (Of 7) (cond (eqb a 3) (Phi 3) Entry))
    (whole_region diamond any_event (λ b. ltb b 4) diamond_reached) diamond_form diamond_once diamond_closed diamond_reducible
    (no_idle diamond any_event (λ b. ltb b 4) (just 3) (λ b a. cond (eqb a 1) (Of 7) Entry) diamond_not_trivial) b ((diamond_reached b).1 r)
