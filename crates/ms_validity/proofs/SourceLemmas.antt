-- The lists of the blocks that edges come from.
use Rattle.std.proofs.Common.{◌≡◌, ℕ, zero, suc, ◌+◌, ◌<◌, ◌≤◌, if◌then◌else◌, List, [], ◌∷◌, ◌++◌, length, get_or, replicate, refl, sym, ap, ◌∙◌, subst, add-zero, zero-add, ⊎_elim, arith}
use Rattle.std.specs.Prelude.{◌==◌, nat_lt, Contains}
use Rattle.std.proofs.lemmas.Bool.{cases_eq, cases_lt, eq-eqb, ne_eqb, lt-ltb, le-ltb}
use Rattle.std.proofs.lemmas.List.{length-set, length-append, length-replicate, get_or-set_same, get_or-set_other, get_or-replicate, get_or_past}
use Rattle.std.proofs.lemmas.List.Elements.{filter-append}
use Rattle.ms_ir.specs.Func.{Block, no_block}
use Rattle.ms_paths.specs.Flow.{block_at, IsClosed}
use Rattle.ms_ir.specs.Graph.{graph_of, successors}
use Rattle.ms_ir.specs.Sound.{times_in, edges_between}
use Rattle.ms_validity.specs.Tables.{AreSources, with_source, with_sources}

times_append : (n : ℕ) (xs ys : List ℕ) → times_in n (xs ++ ys) ≡ times_in n xs + times_in n ys
times_append n xs ys = ap length (filter-append (λ x. x == n) xs ys) ∙ length-append _ _

pub sources_length : (lists : List (List ℕ)) (ts : List ℕ) (a : ℕ) → length (with_sources lists ts a) ≡ length lists
sources_length lists [] a = refl
sources_length lists (t ∷ ts) a = sources_length (with_source lists t a) ts a ∙ length-set lists t (get_or lists t [] ++ a ∷ [])

-- once the edges from a are added, only a stands more often, as often as it has an edge to the block
source_times : (lists : List (List ℕ)) (t a c b : ℕ) → b < length lists
    → times_in c (get_or (with_source lists t a) b []) ≡ times_in c (get_or lists b []) + (if a == c then times_in b (t ∷ []) else 0)
source_times lists t a c b lt =
    ⊎_elim
    (λ (e : t ≡ b).
    let own : get_or (with_source lists b a) b [] ≡ get_or lists b [] ++ a ∷ [] = get_or-set_same lists b (get_or lists b [] ++ a ∷ []) [] lt in
    let more = times_append c (get_or lists b []) (a ∷ []) in
    let one : times_in c (a ∷ []) ≡ (if a == c then times_in b (b ∷ []) else 0) =
    ⊎_elim (λ (s : a ≡ c). rw (eq-eqb a c s, eq-eqb b b refl) refl) (λ (n : a ≡ c → ⊥). rw (ne_eqb a c n) refl) (cases_eq a c) in
    subst (λ x. times_in c (get_or (with_source lists x a) b []) ≡ times_in c (get_or lists b []) + (if a == c then times_in b (x ∷ []) else 0)) (sym e)
    (ap (times_in c) own ∙ more ∙ ap (λ x. times_in c (get_or lists b []) + x) one))
    (λ (ne : t ≡ b → ⊥).
    let other : get_or (with_source lists t a) b [] ≡ get_or lists b [] = get_or-set_other lists t b (get_or lists t [] ++ a ∷ []) [] (λ e. ne (sym e)) in
    let none : (if a == c then times_in b (t ∷ []) else 0) ≡ 0 =
    ⊎_elim (λ (s : a ≡ c). rw (eq-eqb a c s, ne_eqb t b ne) refl) (λ (n : a ≡ c → ⊥). rw (ne_eqb a c n) refl) (cases_eq a c) in
    ap (times_in c) other ∙ (let x = none in omega arith))
    (cases_eq t b)

pub sources_times : (lists : List (List ℕ)) (ts : List ℕ) (a c b : ℕ) → b < length lists
    → times_in c (get_or (with_sources lists ts a) b []) ≡ times_in c (get_or lists b []) + (if a == c then times_in b ts else 0)
sources_times lists [] a c b lt =
    let none : (if a == c then times_in b [] else 0) ≡ 0 = ⊎_elim (λ (s : a ≡ c). rw (eq-eqb a c s) refl) (λ (n : a ≡ c → ⊥). rw (ne_eqb a c n) refl) (cases_eq a c) in
    omega arith
sources_times lists (t ∷ ts) a c b lt =
    let len = length-set lists t (get_or lists t [] ++ a ∷ []) in
    let rest = sources_times (with_source lists t a) ts a c b (omega arith) in
    let first = source_times lists t a c b lt in
    let both : (if a == c then times_in b (t ∷ ts) else 0) ≡ (if a == c then times_in b (t ∷ []) else 0) + (if a == c then times_in b ts else 0) =
    ⊎_elim (λ (s : a ≡ c). rw (eq-eqb a c s) (times_append b (t ∷ []) ts)) (λ (n : a ≡ c → ⊥). rw (ne_eqb a c n) refl) (cases_eq a c) in
    omega arith

-- the edges from the first blocks, a of them, are listed
pub record AreListed (blocks : List Block) (lists : List (List ℕ)) (a : ℕ) : Type 0 where
  pub blocks_are : length lists ≡ length blocks
  pub each : (c b : ℕ) → b < length blocks → times_in c (get_or lists b []) ≡ (if nat_lt c a then edges_between blocks c b else 0)

pub listed_none : (blocks : List Block) (lists : List (List ℕ)) → lists ≡ replicate (length blocks) [] → AreListed blocks lists 0
listed_none blocks lists is = subst (λ (l : List (List ℕ)). AreListed blocks l 0) (sym is) (record {
  blocks_are = length-replicate (length blocks) [];
  each = λ c b lt. ap (times_in c) (get_or-replicate (length blocks) b [] [] lt) ∙ sym (rw (le-ltb c 0 (omega arith)) refl);
})

pub listed_more : (blocks : List Block) (lists : List (List ℕ)) (a : ℕ) → AreListed blocks lists a
    → AreListed blocks (with_sources lists (successors (get_or blocks a no_block).term) a) (a + 1)
listed_more blocks lists a listed =
    let ts = successors (get_or blocks a no_block).term in
    let len = listed.blocks_are in
    record {
      blocks_are = sources_length lists ts a ∙ len;
      each = λ c b lt.
          let step = sources_times lists ts a c b (omega arith) in
          let old = listed.each c b lt in
          step ∙ ap (λ x. x + (if a == c then times_in b ts else 0)) old ∙
          ⊎_elim
          (λ (e : a ≡ c).
          rw (eq-eqb a c e, le-ltb c a (omega arith), lt-ltb c (a + 1) (omega arith))
          (subst (λ x. 0 + times_in b ts ≡ edges_between blocks x b) e (zero-add (times_in b ts))))
          (λ (n : a ≡ c → ⊥). ⊎_elim
          (λ (l : c < a). rw (ne_eqb a c n, lt-ltb c a l, lt-ltb c (a + 1) (omega arith)) (add-zero _))
          (λ (g : a ≤ c). rw (ne_eqb a c n, le-ltb c a g, le-ltb c (a + 1) (omega arith)) refl)
          (cases_lt c a))
          (cases_eq a c);
    }

pub listed_all : (blocks : List Block) (lists : List (List ℕ)) (a : ℕ) → length blocks ≤ a → AreListed blocks lists a → AreSources blocks lists
listed_all blocks lists a le listed = record {
  blocks_are = listed.blocks_are;
  each = λ c b lt. listed.each c b lt ∙
      ⊎_elim (λ (l : c < a). rw (lt-ltb c a l) refl)
      (λ (g : a ≤ c).
      rw (le-ltb c a g)
      (sym (ap (λ (x : Block). times_in b (successors x.term)) (get_or_past blocks c no_block (omega arith)))))
      (cases_lt c a);
}

-- the targets of a block, in the graph
pub next_at : (blocks : List Block) (b : ℕ) → (block_at (graph_of blocks) b).next ≡ successors (get_or blocks b no_block).term
next_at [] b = refl
next_at (x ∷ blocks) zero = refl
next_at (x ∷ blocks) (suc b) = next_at blocks b

pub graph_length : (blocks : List Block) → length (graph_of blocks) ≡ length blocks
graph_length [] = refl
graph_length (x ∷ blocks) = ap suc (graph_length blocks)

pub targets_within : (blocks : List Block) (b t : ℕ) → IsClosed (graph_of blocks) → Contains (successors (get_or blocks b no_block).term) t → t < length blocks
targets_within blocks b t closed on =
    let lt = closed.edges_in b t (subst (λ (l : List ℕ). Contains l t) (sym (next_at blocks b)) on) in
    let len = graph_length blocks in
    omega arith
