-- The lists of edges to each block.
use Rattle.std.proofs.Common.{◌≡◌, ℕ, zero, suc, ◌+◌, ◌*◌, ◌<◌, ◌≤◌, Bool, true, false, cond, eqb, List, [], ◌∷◌, ◌++◌, length, get_or, set, take, refl, sym, ap, ◌∙◌, subst, ⊎_elim, arith, add-one, append_assoc, append-nil, length-append, length-set, get_or-set_same, get_or-set_other}
use Rattle.std.proofs.lemmas.List.{take_all}
use Rattle.std.proofs.lemmas.Bool.{cases_Bool, cases_eq, both_ways, eq-eqb, ne_eqb}
use Rattle.ms_paths.specs.Flow.{Block as Run}
use Rattle.ms_flow.specs.declared.sources.Source.{Source}
use Rattle.ms_flow.specs.Table.{next_of}
use Rattle.ms_flow.specs.Flow.{slots_to, edges_to, in_slot_of, AreListed, AreAdded}

-- the edge at one more slot, where it leads to b
abbrev pub slot_to : ℕ → ℕ → ℕ → ℕ → List Source
slot_to a b k t = cond (eqb t b) (record { from = a; slot = k } ∷ []) []

slots_more : (a b : ℕ) (ts : List ℕ) (k j m : ℕ) → k < length ts → m ≡ j + k → slots_to a b j (take (suc k) ts) ≡ slots_to a b j (take k ts) ++ slot_to a b m (get_or ts k 0)
slots_more a b [] k j m h e = absurd (omega arith)
slots_more a b (t ∷ ts) zero j m h e =
    let same : m ≡ j = omega arith in
    ap (λ i. slot_to a b i t) (sym same)
slots_more a b (t ∷ ts) (suc k) j m h e =
    let r = slots_more a b ts k (j + 1) m (omega arith) (omega arith) in
    ⊎_elim
    (λ (y : eqb t b ≡ true). rw y (ap (λ (l : List Source). record { from = a; slot = j } ∷ l) r))
    (λ (n : eqb t b ≡ false). rw n r)
    (cases_Bool (eqb t b))

slots_few : (a b : ℕ) (ts : List ℕ) (j : ℕ) → length (slots_to a b j ts) ≤ length ts
slots_few a b [] j = omega arith
slots_few a b (t ∷ ts) j =
    let r = slots_few a b ts (j + 1) in
    ⊎_elim (λ (y : eqb t b ≡ true). rw y (omega arith)) (λ (n : eqb t b ≡ false). rw n (omega arith)) (cases_Bool (eqb t b))

take_few : (ts : List ℕ) (k : ℕ) → length (take k ts) ≤ k
take_few ts zero = omega arith
take_few [] (suc k) = omega arith
take_few (t ∷ ts) (suc k) = let r = take_few ts k in omega arith

-- the edges from one more block, where it counts
abbrev pub edges_from : (ℕ → Bool) → ℕ → ℕ → List ℕ → List Source
edges_from R b a next = cond (R a) (slots_to a b 0 next) []

edges_more : (R : ℕ → Bool) (b : ℕ) (g : List Run) (k j m : ℕ) → k < length g → m ≡ j + k → edges_to R b j (take (suc k) g) ≡ edges_to R b j (take k g) ++ edges_from R b m (next_of g k)
edges_more R b [] k j m h e = absurd (omega arith)
edges_more R b (x ∷ g) zero j m h e =
    let same : m ≡ j = omega arith in
    append-nil (edges_from R b j x.next) ∙ ap (λ i. edges_from R b i x.next) (sym same)
edges_more R b (x ∷ g) (suc k) j m h e =
    ap (λ l. edges_from R b j x.next ++ l) (edges_more R b g k (j + 1) m (omega arith) (omega arith))
    ∙ sym (append_assoc (edges_from R b j x.next) (edges_to R b (j + 1) (take k g)) (edges_from R b m (next_of g k)))

from_few : (R : ℕ → Bool) (b a : ℕ) (next : List ℕ) → length next ≤ 2 → length (edges_from R b a next) ≤ 2
from_few R b a next h =
    let few = slots_few a b next 0 in
    ⊎_elim (λ (y : R a ≡ true). rw y (omega arith)) (λ (n : R a ≡ false). rw n (omega arith)) (cases_Bool (R a))

edges_to_few : (R : ℕ → Bool) (b : ℕ) (g : List Run) (k j : ℕ) → ((x : ℕ) → length (next_of g x) ≤ 2) → length (edges_to R b j (take k g)) ≤ 2 * k
edges_to_few R b g zero j h = omega arith
edges_to_few R b [] (suc k) j h = omega arith
edges_to_few R b (x ∷ g) (suc k) j h =
    let r = edges_to_few R b g k (j + 1) (λ y. h (suc y)) in
    let f = from_few R b j x.next (h 0) in
    omega (arith, length-append (edges_from R b j x.next) (edges_to R b (j + 1) (take k g)))

-- how many edges a list has while those of a block are added
pub added_few : (g : List Run) (a k : ℕ) (old new : List (List Source)) (old_slots new_slots : List ℕ) (b : ℕ) → AreAdded g a k old new old_slots new_slots → b < length old → length (get_or old b []) ≤ 2 * a → length (get_or new b []) ≤ 2 * a + k
added_few g a k old new old_slots new_slots b added lt few =
    let e : length (get_or new b []) ≡ length (get_or old b []) + length (slots_to a b 0 (take k (next_of g a))) = ap length (added.edges b lt) ∙ length-append (get_or old b []) (slots_to a b 0 (take k (next_of g a))) in
    let s = slots_few a b (take k (next_of g a)) 0 in
    let t = take_few (next_of g a) k in
    omega arith

pub added_more : (g : List Run) (a k : ℕ) (old new : List (List Source)) (old_slots new_slots : List ℕ) (to : ℕ) (it : List Source) → AreAdded g a k old new old_slots new_slots →
    k < length (next_of g a) → to ≡ get_or (next_of g a) k 0 → to < length old → 2 * a + k < length old_slots → it ≡ get_or new to [] ++ record { from = a; slot = k } ∷ [] →
    AreAdded g a (k + 1) old (set new to it) old_slots (set new_slots (2 * a + k) (length (get_or new to [])))
added_more g a k old new old_slots new_slots to it added lt target within room is = record {
  blocks = length-set new to it ∙ added.blocks;
  slots = length-set new_slots (2 * a + k) (length (get_or new to [])) ∙ added.slots;
  edges = λ b h. rw add-one (edges b h);
  places = λ s h. places s h;
  others = λ x h. let ne : x ≡ 2 * a + k → ⊥ = λ e. omega arith in get_or-set_other new_slots (2 * a + k) x (length (get_or new to [])) 0 ne ∙ added.others x h;
}
  where
    next : List ℕ
    next = next_of g a

    more : (b : ℕ) → slots_to a b 0 (take (suc k) next) ≡ slots_to a b 0 (take k next) ++ slot_to a b k (get_or next k 0)
    more b = slots_more a b next k 0 k lt (omega arith)

    edges : (b : ℕ) → b < length old → get_or (set new to it) b [] ≡ get_or old b [] ++ slots_to a b 0 (take (suc k) next)
    edges b h =
        let blocks = added.blocks in
        ⊎_elim
        (λ (e : b ≡ to).
        let yes : eqb (get_or next k 0) b ≡ true = eq-eqb (get_or next k 0) b (sym target ∙ sym e) in
        let one : slot_to a b k (get_or next k 0) ≡ record { from = a; slot = k } ∷ [] = rw yes refl in
        let in' : b < length new = omega arith in
        ap (λ i. get_or (set new i it) b []) (sym e) ∙ get_or-set_same new b it [] in' ∙ is
        ∙ ap (λ i. get_or new i [] ++ record { from = a; slot = k } ∷ []) (sym e)
        ∙ ap (λ (l : List Source). l ++ record { from = a; slot = k } ∷ []) (added.edges b h)
        ∙ append_assoc (get_or old b []) (slots_to a b 0 (take k next)) (record { from = a; slot = k } ∷ [])
        ∙ ap (λ (l : List Source). get_or old b [] ++ (slots_to a b 0 (take k next) ++ l)) (sym one)
        ∙ ap (λ (l : List Source). get_or old b [] ++ l) (sym (more b)))
        (λ (n : b ≡ to → ⊥).
        let no : eqb (get_or next k 0) b ≡ false = ne_eqb (get_or next k 0) b (λ e. n (sym e ∙ sym target)) in
        let none : slot_to a b k (get_or next k 0) ≡ [] = rw no refl in
        get_or-set_other new to b it [] n ∙ added.edges b h
        ∙ ap (λ (l : List Source). get_or old b [] ++ l) (sym (append-nil (slots_to a b 0 (take k next))) ∙ ap (λ (l : List Source). slots_to a b 0 (take k next) ++ l) (sym none) ∙ sym (more b)))
        (cases_eq b to)

    places : (s : ℕ) → s < k + 1 → get_or (set new_slots (2 * a + k) (length (get_or new to []))) (2 * a + s) 0 ≡ length (get_or old (get_or next s 0) []) + length (slots_to a (get_or next s 0) 0 (take s next))
    places s h =
        ⊎_elim
        (λ (e : s ≡ k).
        let slots = added.slots in
        let in' : 2 * a + k < length new_slots = omega arith in
        ap (λ i. get_or (set new_slots (2 * a + k) (length (get_or new to []))) (2 * a + i) 0) e ∙ get_or-set_same new_slots (2 * a + k) (length (get_or new to [])) 0 in'
        ∙ ap length (added.edges to within) ∙ length-append (get_or old to []) (slots_to a to 0 (take k next))
        ∙ ap (λ i. length (get_or old i []) + length (slots_to a i 0 (take k next))) target
        ∙ ap (λ i. length (get_or old (get_or next i 0) []) + length (slots_to a (get_or next i 0) 0 (take i next))) (sym e))
        (λ (n : s ≡ k → ⊥).
        let ne : 2 * a + s ≡ 2 * a + k → ⊥ = λ e. n (omega arith) in
        get_or-set_other new_slots (2 * a + k) (2 * a + s) (length (get_or new to [])) 0 ne ∙ added.places s (omega arith))
        (cases_eq s k)

pub listed_few : (R : ℕ → Bool) (g : List Run) (a : ℕ) (lists : List (List Source)) (slots : List ℕ) → AreListed R g a lists slots → ((x : ℕ) → length (next_of g x) ≤ 2) → (b : ℕ) → b < length g → length (get_or lists b []) ≤ 2 * a
listed_few R g a lists slots listed few b lt = let e = ap length (listed.edges b lt) in let r = edges_to_few R b g a 0 few in omega arith

-- a block that does not count is passed over
pub listed_skip : (R : ℕ → Bool) (g : List Run) (a : ℕ) (lists : List (List Source)) (slots : List ℕ) → AreListed R g a lists slots → a < length g → R a ≡ false → AreListed R g (a + 1) lists slots
listed_skip R g a lists slots listed lt out = record {
  blocks = listed.blocks;
  slots = listed.slots;
  edges = λ b h.
      let none : edges_from R b a (next_of g a) ≡ [] = rw out refl in
      listed.edges b h ∙ sym (append-nil (edges_to R b 0 (take a g))) ∙ ap (λ (l : List Source). edges_to R b 0 (take a g) ++ l) (sym none)
      ∙ sym (edges_more R b g a 0 a lt (omega arith)) ∙ ap (λ k. edges_to R b 0 (take k g)) (sym (add-one a));
  places = λ x s h on lt'.
      ⊎_elim (λ (e : x ≡ a). absurd (both_ways (R a) out (subst (λ y. R y ≡ true) e on)))
      (λ (n : x ≡ a → ⊥). listed.places x s (omega arith) on lt')
      (cases_eq x a);
}

-- the edges of a block that counts are added
pub listed_more : (R : ℕ → Bool) (g : List Run) (a : ℕ) (old new : List (List Source)) (old_slots new_slots : List ℕ) → AreListed R g a old old_slots → ((x : ℕ) → length (next_of g x) ≤ 2) → ((s : ℕ) → s < length (next_of g a) → get_or (next_of g a) s 0 < length g) →
    a < length g → R a ≡ true → AreAdded g a (length (next_of g a)) old new old_slots new_slots → AreListed R g (a + 1) new new_slots
listed_more R g a old new old_slots new_slots listed few below lt on added =
    let blocks = listed.blocks in
    record {
      blocks = added.blocks ∙ listed.blocks;
      slots = added.slots ∙ listed.slots;
      edges = λ b h.
          let some : edges_from R b a (next_of g a) ≡ slots_to a b 0 (next_of g a) = rw on refl in
          let whole = take_all (length (next_of g a)) (next_of g a) (omega arith) in
          added.edges b (omega arith) ∙ ap (λ (l : List Source). l ++ slots_to a b 0 (take (length (next_of g a)) (next_of g a))) (listed.edges b h)
          ∙ ap (λ l. edges_to R b 0 (take a g) ++ slots_to a b 0 l) whole ∙ ap (λ (l : List Source). edges_to R b 0 (take a g) ++ l) (sym some)
          ∙ sym (edges_more R b g a 0 a lt (omega arith)) ∙ ap (λ k. edges_to R b 0 (take k g)) (sym (add-one a));
      places = λ x s h on' lt'.
          ⊎_elim
          (λ (e : x ≡ a). let P : ℕ → Type 0 = λ y. s < length (next_of g y) → get_or new_slots (2 * y + s) 0 ≡ in_slot_of R g y s in subst P (sym e) (λ k. here s k) lt')
          (λ (n : x ≡ a → ⊥). let f = few x in added.others (2 * x + s) (omega arith) ∙ listed.places x s (omega arith) on' lt')
          (cases_eq x a);
    }
  where
    here : (s : ℕ) → s < length (next_of g a) → get_or new_slots (2 * a + s) 0 ≡ in_slot_of R g a s
    here s k =
        added.places s k
        ∙ ap (λ (l : List Source). length l + length (slots_to a (get_or (next_of g a) s 0) 0 (take s (next_of g a)))) (listed.edges (get_or (next_of g a) s 0) (below s k))
