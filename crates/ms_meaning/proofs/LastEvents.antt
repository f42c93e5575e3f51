-- The last event of a path, block by block and instruction by instruction.
use Rattle.std.proofs.Common.{◌≡◌, ◌≤◌, ◌∙◌, refl, sym, ap, arith, ⊎_elim, ℕ, zero, suc, ◌+◌, Bool, true, false, List, [], ◌∷◌, take, Some, None, if◌then◌else◌}
use Rattle.std.specs.Prelude.{slice_get, slice_index_or}
use Rattle.std.proofs.lemmas.Bool.{cases_Bool}
use Rattle.ms_paths.specs.Flow.{Block as Run, block_at, Event, Of, Phi, Entry, after, entered, last_event, last_event_at}
use Rattle.ms_ir.specs.Func.{Placed, Block, no_block, insts_at}
use Rattle.ms_ir.specs.Graph.{numbers, graph_of, successors}
use Rattle.ms_meaning.specs.Steps.{is_phi, phis_among}

-- an instruction that counts, a phi that is there, or the entry
abbrev pub Counts : (ℕ → Bool) → (ℕ → Bool) → Event → Type 0
Counts E S (Of i) = E i ≡ true
Counts E S (Phi b) = S b ≡ true
Counts E S Entry = Unit {0}

counts_after : (E S : ℕ → Bool) (is : List ℕ) (e : Event) → Counts E S e → Counts E S (after E is e)
counts_after E S [] e c = c
counts_after E S (i ∷ is) e c =
    ⊎_elim
    (λ (t : E i ≡ true). rw t (counts_after E S is (Of i) t))
    (λ (n : E i ≡ false). rw n (counts_after E S is e c))
    (cases_Bool (E i))

counts_entered : (E S : ℕ → Bool) (b : ℕ) (e : Event) → Counts E S e → Counts E S (entered S b e)
counts_entered E S b e c = ⊎_elim (λ (t : S b ≡ true). rw t t) (λ (n : S b ≡ false). rw n c) (cases_Bool (S b))

counts_last : (g : List Run) (E S : ℕ → Bool) (p : List ℕ) → Counts E S (last_event g E S p)
counts_last g E S [] = tt
counts_last g E S (b ∷ p) = counts_after E S (block_at g b).events (entered S b (last_event g E S p)) (counts_entered E S b (last_event g E S p) (counts_last g E S p))

-- the last event of a path counts
pub counts_at : (g : List Run) (E S : ℕ → Bool) (b k : ℕ) (p : List ℕ) → Counts E S (last_event_at g E S b k p)
counts_at g E S b k p = counts_after E S (take k (block_at g b).events) (entered S b (last_event g E S p)) (counts_entered E S b (last_event g E S p) (counts_last g E S p))

-- A block of the graph.

pub events_at : (blocks : List Block) (b : ℕ) → (block_at (graph_of blocks) b).events ≡ numbers (insts_at blocks b)
events_at [] b = refl
events_at (x ∷ blocks) zero = refl
events_at (x ∷ blocks) (suc b) = events_at blocks b

pub next_at : (blocks : List Block) (b : ℕ) → (block_at (graph_of blocks) b).next ≡ successors (slice_index_or blocks b no_block).term
next_at [] b = refl
next_at (x ∷ blocks) zero = refl
next_at (x ∷ blocks) (suc b) = next_at blocks b

-- The instructions of a list.

after_one : (E : ℕ → Bool) (xs : List Placed) (k : ℕ) (x : Placed) (e : Event) → slice_get xs k ≡ Some x →
    after E (take (suc k) (numbers xs)) e ≡ (if E x.number then Of x.number else after E (take k (numbers xs)) e)
after_one E [] k x e h = cc
after_one E (y ∷ xs) zero x e h = let s : y ≡ x = cc in ap (λ (z : Placed). if E z.number then Of z.number else e) s
after_one E (y ∷ xs) (suc k) x e h = after_one E xs k x (if E y.number then Of y.number else e) h

take_all : (xs : List Placed) (k : ℕ) → slice_get xs k ≡ None → take k (numbers xs) ≡ numbers xs
take_all [] zero h = refl
take_all [] (suc k) h = refl
take_all (x ∷ xs) zero h = cc
take_all (x ∷ xs) (suc k) h = ap (λ r. x.number ∷ r) (take_all xs k h)

abbrev pub NoPhiCounts : (ℕ → Bool) → List Placed → Type 0
NoPhiCounts E xs = (k : ℕ) (x : Placed) → slice_get xs k ≡ Some x → is_phi x.inst ≡ true → E x.number ≡ false

after_phis : (E : ℕ → Bool) (xs : List Placed) (k : ℕ) (e : Event) → NoPhiCounts E xs → k ≤ phis_among xs → after E (take k (numbers xs)) e ≡ e
after_phis E xs zero e no_phi h = refl
after_phis E [] (suc k) e no_phi h = absurd (omega arith)
after_phis E (x ∷ xs) (suc k) e no_phi h =
    ⊎_elim
    (λ (t : is_phi x.inst ≡ true).
    let n : E x.number ≡ false = no_phi 0 x refl t in
    let less : suc k ≤ suc (phis_among xs) = rw t at h in
    rw n (after_phis E xs k e (λ j y. no_phi (suc j) y) (omega arith)))
    (λ (f : is_phi x.inst ≡ false). let none : suc k ≤ 0 = rw f at h in absurd (omega arith))
    (cases_Bool (is_phi x.inst))

-- The last event at a place of a block.

at_insts : (blocks : List Block) (E S : ℕ → Bool) (b k : ℕ) (p : List ℕ) →
    last_event_at (graph_of blocks) E S b k p ≡ after E (take k (numbers (insts_at blocks b))) (entered S b (last_event (graph_of blocks) E S p))
at_insts blocks E S b k p = ap (λ (is : List ℕ). after E (take k is) (entered S b (last_event (graph_of blocks) E S p))) (events_at blocks b)

-- behind an instruction
pub at_behind : (blocks : List Block) (E S : ℕ → Bool) (b k : ℕ) (p : List ℕ) (x : Placed) → slice_get (insts_at blocks b) k ≡ Some x →
    last_event_at (graph_of blocks) E S b (k + 1) p ≡ (if E x.number then Of x.number else last_event_at (graph_of blocks) E S b k p)
at_behind blocks E S b k p x h =
    let e : Event = entered S b (last_event (graph_of blocks) E S p) in
    let n : k + 1 ≡ suc k = omega arith in
    at_insts blocks E S b (k + 1) p ∙ ap (λ (j : ℕ). after E (take j (numbers (insts_at blocks b))) e) n ∙ after_one E (insts_at blocks b) k x e h
    ∙ ap (λ (v : Event). if E x.number then Of x.number else v) (sym (at_insts blocks E S b k p))

-- behind the last instruction
pub at_end : (blocks : List Block) (E S : ℕ → Bool) (b k : ℕ) (p : List ℕ) → slice_get (insts_at blocks b) k ≡ None →
    last_event_at (graph_of blocks) E S b k p ≡ last_event (graph_of blocks) E S (b ∷ p)
at_end blocks E S b k p h =
    at_insts blocks E S b k p ∙ ap (λ (is : List ℕ). after E is (entered S b (last_event (graph_of blocks) E S p))) (take_all (insts_at blocks b) k h ∙ sym (events_at blocks b))

-- among the phis, and behind the last of them
pub at_phis : (blocks : List Block) (E S : ℕ → Bool) (b k : ℕ) (p : List ℕ) → NoPhiCounts E (insts_at blocks b) → k ≤ phis_among (insts_at blocks b) →
    last_event_at (graph_of blocks) E S b k p ≡ entered S b (last_event (graph_of blocks) E S p)
at_phis blocks E S b k p no_phi h = at_insts blocks E S b k p ∙ after_phis E (insts_at blocks b) k (entered S b (last_event (graph_of blocks) E S p)) no_phi h
