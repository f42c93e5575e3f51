-- Tests by edges alone of what is defined by paths.
use Rattle.std.proofs.Common.{◌≡◌, ℕ, zero, suc, ◌+◌, ◌<◌, Bool, true, false, not, ◌&&◌, ◌||◌, eqb, ltb, List, [], ◌∷◌, length, get_or, refl, sym, ap, ◌∙◌, subst, inl, inr, ⊎_elim, arith}
use Rattle.std.proofs.lemmas.Bool.{cases_Bool, both_ways, or_left, or_right, or_cases, and_parts, cond-true, eqb-true, ltb-true}
use Rattle.ms_paths.specs.Flow.{Block, block_at, HasEdge, IsPath, IsReached, Event, Of, Phi, Entry, after, entered, last_event, Suffices}
use Rattle.ms_paths.proofs.Order.{on, Over, Places}

-- a test of each edge
abbrev pub each_next : (ℕ → Bool) → List ℕ → Bool
each_next ok [] = true
each_next ok (b ∷ bs) = ok b && each_next ok bs

abbrev pub each_edge : (ℕ → Block → ℕ → Bool) → ℕ → List Block → Bool
each_edge ok a [] = true
each_edge ok a (x ∷ xs) = each_next (ok a x) x.next && each_edge ok (suc a) xs

next_at : (ok : ℕ → Bool) (bs : List ℕ) (b k : ℕ) → each_next ok bs ≡ true → k < length bs → get_or bs k b ≡ b → ok b ≡ true
next_at ok [] b k t l e = absurd (omega arith)
next_at ok (c ∷ bs) b zero t l e = subst (λ y. ok y ≡ true) e (and_parts (ok c) (each_next ok bs) t).0
next_at ok (c ∷ bs) b (suc k) t l e = next_at ok bs b k (and_parts (ok c) (each_next ok bs) t).1 (omega arith) e

edge_from : (ok : ℕ → Block → ℕ → Bool) (c : ℕ) (g : List Block) (a b : ℕ) → each_edge ok c g ≡ true → HasEdge g a b → ok (c + a) (block_at g a) b ≡ true
edge_from ok c [] a b t e = absurd (let l : e.0 < 0 = e.1 in omega arith)
edge_from ok c (x ∷ g) zero b t e =
    let s : c ≡ c + zero = omega arith in
    subst (λ n. ok n x b ≡ true) s (next_at (ok c x) x.next b e.0 (and_parts (each_next (ok c x) x.next) (each_edge ok (suc c) g) t).0 e.1 e.2)
edge_from ok c (x ∷ g) (suc a) b t e =
    let s : suc c + a ≡ c + suc a = omega arith in
    subst (λ n. ok n (block_at g a) b ≡ true) s (edge_from ok (suc c) g a b (and_parts (each_next (ok c x) x.next) (each_edge ok (suc c) g) t).1 e)

pub edge_at : (ok : ℕ → Block → ℕ → Bool) (g : List Block) (a b : ℕ) → each_edge ok 0 g ≡ true → HasEdge g a b → ok a (block_at g a) b ≡ true
edge_at ok g a b t e = let s : 0 + a ≡ a = omega arith in subst (λ n. ok n (block_at g a) b ≡ true) s (edge_from ok 0 g a b t e)

abbrev pub event_eq : Event → Event → Bool
event_eq (Of i) (Of j) = eqb i j
event_eq (Phi b) (Phi c) = eqb b c
event_eq Entry Entry = true
event_eq (Of i) (Phi c) = false
event_eq (Of i) Entry = false
event_eq (Phi b) (Of j) = false
event_eq (Phi b) Entry = false
event_eq Entry (Of j) = false
event_eq Entry (Phi c) = false

pub event_eq-true : (d e : Event) → event_eq d e ≡ true → d ≡ e
event_eq-true (Of i) (Of j) t = ap Of (eqb-true i j t)
event_eq-true (Phi b) (Phi c) t = ap Phi (eqb-true b c t)
event_eq-true Entry Entry t = refl
event_eq-true (Of i) (Phi c) t = absurd (both_ways false refl t)
event_eq-true (Of i) Entry t = absurd (both_ways false refl t)
event_eq-true (Phi b) (Of j) t = absurd (both_ways false refl t)
event_eq-true (Phi b) Entry t = absurd (both_ways false refl t)
event_eq-true Entry (Of j) t = absurd (both_ways false refl t)
event_eq-true Entry (Phi c) t = absurd (both_ways false refl t)

-- each block outside S has a label: what its predecessors leave
abbrev pub labelled : List Block → (ℕ → Bool) → (ℕ → Bool) → (ℕ → Event) → Bool
labelled g E S l = (S 0 || event_eq (l 0) Entry) && each_edge (λ a x b. S b || event_eq (l b) (after E x.events (entered S a (l a)))) 0 g

pub labelled_suffice : (g : List Block) (E S : ℕ → Bool) (l : ℕ → Event) → labelled g E S l ≡ true → Suffices g E S
labelled_suffice g E S l t = record { one_event = λ b p q hp hq f. sym (label p b hp f) ∙ label q b hq f }
  where
    parts : ((S 0 || event_eq (l 0) Entry) ≡ true) × (each_edge (λ a x b. S b || event_eq (l b) (after E x.events (entered S a (l a)))) 0 g ≡ true)
    parts = and_parts (S 0 || event_eq (l 0) Entry) (each_edge (λ a x b. S b || event_eq (l b) (after E x.events (entered S a (l a)))) 0 g) t

    by_test : (b : ℕ) (e : Event) → S b ≡ false → (S b || event_eq (l b) e) ≡ true → l b ≡ e
    by_test b e f t = ⊎_elim (λ (s : S b ≡ true). absurd (both_ways (S b) f s)) (λ (s : event_eq (l b) e ≡ true). event_eq-true (l b) e s) (or_cases (S b) (event_eq (l b) e) t)

    label : (p : List ℕ) (b : ℕ) → IsPath g b p → S b ≡ false → l b ≡ last_event g E S p
    label [] b h f = by_test b Entry f (subst (λ y. (S y || event_eq (l y) Entry) ≡ true) (sym h) parts.0)
    label (a ∷ p) b h f =
        by_test b (after E (block_at g a).events (entered S a (l a))) f (edge_at (λ a x b. S b || event_eq (l b) (after E x.events (entered S a (l a)))) g a b parts.1 h.0)
        ∙ ap (after E (block_at g a).events)
        (⊎_elim (λ (s : S a ≡ true). cond-true (S a) (Phi a) (l a) s ∙ sym (cond-true (S a) (Phi a) (last_event g E S p) s))
        (λ (s : S a ≡ false). ap (entered S a) (label p a h.1 s))
        (cases_Bool (S a)))

-- D h tells blocks to which every path passes h
abbrev pub overs : List Block → (ℕ → ℕ → Bool) → ℕ → Bool
overs g D h = (not (D h 0) || eqb 0 h) && each_edge (λ a x b. not (D h b) || (eqb b h || D h a)) 0 g

pub over_by : (g : List Block) (D : ℕ → ℕ → Bool) (h : ℕ) → overs g D h ≡ true → (b : ℕ) → D h b ≡ true → Over g h b
over_by g D h t b d = record { passes = λ p hp. go p b hp d }
  where
    parts : ((not (D h 0) || eqb 0 h) ≡ true) × (each_edge (λ a x b. not (D h b) || (eqb b h || D h a)) 0 g ≡ true)
    parts = and_parts (not (D h 0) || eqb 0 h) (each_edge (λ a x b. not (D h b) || (eqb b h || D h a)) 0 g) t

    if_it : (x y : Bool) → x ≡ true → (not x || y) ≡ true → y ≡ true
    if_it true y e s = s
    if_it false y e s = absurd (both_ways false refl e)

    go : (p : List ℕ) (b : ℕ) → IsPath g b p → D h b ≡ true → on h (b ∷ p) ≡ true
    go [] b hp d = or_left (eqb b h) false (subst (λ y. eqb y h ≡ true) (sym hp) (if_it (D h 0) (eqb 0 h) (subst (λ y. D h y ≡ true) hp d) parts.0))
    go (a ∷ p) b hp d =
        ⊎_elim (λ (s : eqb b h ≡ true). or_left (eqb b h) (on h (a ∷ p)) s) (λ (s : D h a ≡ true). or_right (eqb b h) (on h (a ∷ p)) (go p a hp.1 s))
        (or_cases (eqb b h) (D h a) (if_it (D h b) (eqb b h || D h a) d (edge_at (λ a x b. not (D h b) || (eqb b h || D h a)) g a b parts.1 hp.0)))

-- each edge goes up, or back to a block that D tells to be over the one it leaves
abbrev pub placed : List Block → (ℕ → ℕ) → (ℕ → ℕ → Bool) → Bool
placed g place D = each_edge (λ a x b. ltb (place a) (place b) || (overs g D b && D b a)) 0 g

pub places_by : (g : List Block) (place : ℕ → ℕ) (n : ℕ) (D : ℕ → ℕ → Bool) → ((b : ℕ) → IsReached g b → place b < n) → placed g place D ≡ true → Places g place n
places_by g place n D low t = record {
  low = low;
  edge = λ a b r e.
      ⊎_elim (λ (s : ltb (place a) (place b) ≡ true). inl (ltb-true (place a) (place b) s))
      (λ (s : (overs g D b && D b a) ≡ true). let ps = and_parts (overs g D b) (D b a) s in inr (over_by g D b ps.0 a ps.1))
      (or_cases (ltb (place a) (place b)) (overs g D b && D b a) (edge_at (λ a x b. ltb (place a) (place b) || (overs g D b && D b a)) g a b t e));
}
