-- The graph without one of a block's two edges.
use Rattle.std.proofs.Common.{◌≡◌, ◌<◌, ◌≤◌, ℕ, zero, suc, Bool, true, false, eqb, List, [], ◌∷◌, length, get_or, set, refl, sym, ap, ◌∙◌, subst, ⊎_elim, arith, length-set, filter}
use Rattle.std.specs.Prelude.{Contains}
use Rattle.std.proofs.lemmas.Bool.{cases_Bool, both_ways, eqb-true, eq-eqb}
use Rattle.ms_paths.specs.Flow.{Block as Run, block_at, HasEdge, IsPath, IsReached, IsReducible, IsClosed}
use Rattle.ms_paths.specs.Edits.{IsPartOf}
use Rattle.ms_ir.specs.declared.inst.Term.{Term}
use Rattle.ms_ir.specs.declared.inst.Term.TheVariants.{Br, CondBr, Ret, Unreachable}
use Rattle.ms_ir.specs.Func.{Block, FuncState, no_block}
use Rattle.ms_ir.specs.Graph.{successors}
use Rattle.ms_ir.specs.Changes.{IsCondBr, with_term, with_edge_cut, kept_target, cut_target}
use Rattle.ms_flow.specs.Table.{edges_of, next_of, run_to}
use Rattle.ms_flow.specs.Cut.{cut_graph, kept_slot}
use Rattle.ms_flow.proofs.Same.{targets_same}

next_here : (g : List Run) (c : ℕ) (x : Run) → c < length g → next_of (set g c x) c ≡ x.next
next_here [] c x h = absurd (omega arith)
next_here (y ∷ g) zero x h = refl
next_here (y ∷ g) (suc c) x h = next_here g c x (omega arith)

next_there : (g : List Run) (c : ℕ) (x : Run) (b : ℕ) → (b ≡ c → ⊥) → next_of (set g c x) b ≡ next_of g b
next_there [] c x b h = refl
next_there (y ∷ g) zero x zero h = absurd (h refl)
next_there (y ∷ g) zero x (suc b) h = refl
next_there (y ∷ g) (suc c) x zero h = refl
next_there (y ∷ g) (suc c) x (suc b) h = next_there g c x b (λ e. h (ap suc e))

none_past : (g : List Run) (c n : ℕ) → length (next_of g c) ≡ suc n → c < length g
none_past [] c n h = absurd (omega (arith, h))
none_past (y ∷ g) zero n h = omega arith
none_past (y ∷ g) (suc c) n h = let r = none_past g c n h in omega arith

pub fork_within : (g : List Run) (c : ℕ) → length (next_of g c) ≡ 2 → c < length g
fork_within g c two = none_past g c 1 two

pub kept_below : (slot : ℕ) → kept_slot slot < 2
kept_below slot = ⊎_elim (λ (y : eqb slot 0 ≡ true). rw y (omega arith)) (λ (n : eqb slot 0 ≡ false). rw n (omega arith)) (cases_Bool (eqb slot 0))

get_same : (xs : List ℕ) (k d e : ℕ) → k < length xs → get_or xs k d ≡ get_or xs k e
get_same [] k d e h = absurd (omega arith)
get_same (x ∷ xs) zero d e h = refl
get_same (x ∷ xs) (suc k) d e h = get_same xs k d e (omega arith)

one_only : (x b : ℕ) → Contains (x ∷ []) b → x ≡ b
one_only x b h = at h.0 h.1 h.2
  where
    at : (k : ℕ) → k < 1 → get_or (x ∷ []) k b ≡ b → x ≡ b
    at zero lt e = e
    at (suc k) lt e = absurd (omega arith)

-- a block's targets: those before, but for c
next_cut : (g : List Run) (c slot : ℕ) → length (next_of g c) ≡ 2 → next_of (cut_graph g c slot) c ≡ get_or (next_of g c) (kept_slot slot) 0 ∷ []
next_cut g c slot two = next_here g c (run_to (get_or (next_of g c) (kept_slot slot) 0 ∷ [])) (fork_within g c two)

pub cut_edges : (g : List Run) (c slot a b : ℕ) → length (next_of g c) ≡ 2 → HasEdge (cut_graph g c slot) a b → HasEdge g a b
cut_edges g c slot a b two h =
    ⊎_elim
    (λ (y : eqb a c ≡ true). subst (λ x. HasEdge g x b) (sym (eqb-true a c y)) (here (subst (λ x. HasEdge (cut_graph g c slot) x b) (eqb-true a c y) h)))
    (λ (n : eqb a c ≡ false). subst (λ (l : List ℕ). Contains l b) (next_there g c (run_to (get_or (next_of g c) (kept_slot slot) 0 ∷ [])) a (λ e. both_ways (eqb a c) n (eq-eqb a c e))) h)
    (cases_Bool (eqb a c))
  where
    here : HasEdge (cut_graph g c slot) c b → HasEdge g c b
    here k =
        let is = one_only (get_or (next_of g c) (kept_slot slot) 0) b (subst (λ (l : List ℕ). Contains l b) (next_cut g c slot two) k) in
        let below = kept_below slot in
        let lt : kept_slot slot < length (next_of g c) = omega arith in
        (kept_slot slot, lt, get_same (next_of g c) (kept_slot slot) b 0 lt ∙ is)

-- no block has more targets
pub cut_few : (g : List Run) (c slot : ℕ) → length (next_of g c) ≡ 2 → ((x : ℕ) → length (next_of g x) ≤ 2) → (x : ℕ) → length (next_of (cut_graph g c slot) x) ≤ 2
cut_few g c slot two few x =
    ⊎_elim
    (λ (y : eqb x c ≡ true). let e : length (next_of (cut_graph g c slot) x) ≡ 1 = ap (λ i. length (next_of (cut_graph g c slot) i)) (eqb-true x c y) ∙ ap length (next_cut g c slot two) in omega (arith, e))
    (λ (n : eqb x c ≡ false). let e = ap length (next_there g c (run_to (get_or (next_of g c) (kept_slot slot) 0 ∷ [])) x (λ s. both_ways (eqb x c) n (eq-eqb x c s))) in let f = few x in omega (arith, e, f))
    (cases_Bool (eqb x c))

cut_path : (g : List Run) (c slot : ℕ) → length (next_of g c) ≡ 2 → (b : ℕ) (p : List ℕ) → IsPath (cut_graph g c slot) b p → IsPath g b p
cut_path g c slot two b [] h = h
cut_path g c slot two b (a ∷ p) h = (cut_edges g c slot a b two h.0, cut_path g c slot two a p h.1)

pub cut_reached : (g : List Run) (c slot b : ℕ) → length (next_of g c) ≡ 2 → IsReached (cut_graph g c slot) b → IsReached g b
cut_reached g c slot b two h = (h.0, cut_path g c slot two b h.0 h.1)

pub cut_blocks : (g : List Run) (c slot : ℕ) → length (cut_graph g c slot) ≡ length g
cut_blocks g c slot = length-set g c (run_to (get_or (next_of g c) (kept_slot slot) 0 ∷ []))

pub cut_closed : (g : List Run) (c slot : ℕ) → length (next_of g c) ≡ 2 → IsClosed g → IsClosed (cut_graph g c slot)
cut_closed g c slot two closed =
    let same = cut_blocks g c slot in
    let entry = closed.has_entry in
    record { has_entry = omega arith; edges_in = λ a b h. let lt = closed.edges_in a b (cut_edges g c slot a b two h) in omega arith }

abbrev no_one : ℕ → Bool
no_one i = false

none_kept : (is : List ℕ) → filter no_one is ≡ []
none_kept [] = refl
none_kept (i ∷ is) = none_kept is

pub cut_reducible : ((h g : List Run) (D : ℕ → Bool) → IsPartOf h g D → IsReducible g → IsReducible h) → (g : List Run) (c slot : ℕ) → length (next_of g c) ≡ 2 → IsReducible g → IsReducible (cut_graph g c slot)
cut_reducible part g c slot two red =
    part (cut_graph g c slot) g no_one
    (record { events_same = λ b. none_kept (block_at (cut_graph g c slot) b).events ∙ sym (none_kept (block_at g b).events); edges_of = λ a b h. cut_edges g c slot a b two h })
    red

-- ---- the function's graph

edges_set : (bs : List Block) (b : ℕ) (x : Block) → edges_of (set bs b x) ≡ set (edges_of bs) b (run_to (successors x.term))
edges_set [] b x = refl
edges_set (y ∷ bs) zero x = refl
edges_set (y ∷ bs) (suc b) x = ap (λ (l : List Run). run_to (successors y.term) ∷ l) (edges_set bs b x)

edges_set_same : (bs : List Block) (b : ℕ) (x : Block) → x.term ≡ (get_or bs b no_block).term → edges_of (set bs b x) ≡ edges_of bs
edges_set_same [] b x e = refl
edges_set_same (y ∷ bs) zero x e = ap (λ (t : Term). run_to (successors t) ∷ edges_of bs) e
edges_set_same (y ∷ bs) (suc b) x e = ap (λ (l : List Run). run_to (successors y.term) ∷ l) (edges_set_same bs b x e)

kept_is : (t : Term) (slot : ℕ) → IsCondBr t → (kept_target t slot).0 ≡ get_or (successors t) (kept_slot slot) 0
kept_is (CondBr test x y text) slot c =
    ⊎_elim (λ (y : eqb slot 0 ≡ true). rw y refl) (λ (n : eqb slot 0 ≡ false). rw n refl) (cases_Bool (eqb slot 0))
kept_is (Br a text) slot c = absurd c
kept_is (Ret value text) slot c = absurd c
kept_is (Unreachable text) slot c = absurd c

pub cut_function : (f : FuncState) (b slot : ℕ) → IsCondBr (get_or f.blocks b no_block).term → edges_of (with_edge_cut f b slot).blocks ≡ cut_graph (edges_of f.blocks) b slot
cut_function f b slot c =
    let t = (get_or f.blocks b no_block).term in
    let kept = kept_target t slot in
    let branched = with_term f.blocks b (Br kept []) in
    let to : (kept_target t slot).0 ≡ get_or (next_of (edges_of f.blocks) b) (kept_slot slot) 0 =
    kept_is t slot c ∙ ap (λ (l : List ℕ). get_or l (kept_slot slot) 0) (sym (targets_same f.blocks b)) in
    edges_set_same branched (cut_target t slot).0 _ refl ∙ edges_set f.blocks b (record (get_or f.blocks b no_block) { term = Br kept [] })
    ∙ ap (λ n. set (edges_of f.blocks) b (run_to (n ∷ []))) to
