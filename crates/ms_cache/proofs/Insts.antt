-- Where an instruction that stands elsewhere was, and the others.
use Rattle.std.proofs.Common.{◌≡◌, ◌<◌, ◌⊎◌, ◌↔◌, ℕ, zero, suc, false, cond, List, [], ◌∷◌, Some, None, length, get_or, set, refl, sym, ap, ◌∙◌, subst, inl, inr, ⊎_elim, arith}
use Rattle.std.specs.Prelude.{slice_get, insert, remove}
use Rattle.std.proofs.lemmas.Bool.{cond-false, and_left}
use Rattle.ms_ir.specs.declared.names.LocalNo.{LocalNo}
use Rattle.ms_ir.specs.Func.{Placed, Block, FuncState, IsShifted, no_block, insts_at, with_insts, put_at, cut_at}
use Rattle.ms_ir.specs.Graph.{successors}
use Rattle.ms_flow.specs.Table.{edges_of, run_to}
use Rattle.ms_alias.specs.Roots.{makes, makes_pointer, is_local, maker_in, maker_from, or_else}
use Rattle.ms_cache.specs.Edited.{MakesNone}
use Rattle.ms_cache.proofs.Alike.{Alike, seen}

-- ---- makers

idle : (l : LocalNo) (x : Placed) → makes_pointer x.inst ≡ false → makes l x ≡ false
idle l x e = and_left (makes_pointer x.inst) (is_local l x.result) e

insert_idle : (b : ℕ) (xs : List Placed) (k : ℕ) (y : Placed) (l : LocalNo) → makes l y ≡ false → maker_in b (insert xs k y) l ≡ maker_in b xs l
insert_idle b [] zero y l e = cond-false (makes l y) (Some (record { block = b; inst = y.inst })) None e
insert_idle b [] (suc k) y l e = cond-false (makes l y) (Some (record { block = b; inst = y.inst })) None e
insert_idle b (x ∷ xs) zero y l e = cond-false (makes l y) (Some (record { block = b; inst = y.inst })) (maker_in b (x ∷ xs) l) e
insert_idle b (x ∷ xs) (suc k) y l e = ap (cond (makes l x) (Some (record { block = b; inst = x.inst }))) (insert_idle b xs k y l e)

remove_idle : (b : ℕ) (xs : List Placed) (k : ℕ) (y : Placed) (l : LocalNo) → slice_get xs k ≡ Some y → makes l y ≡ false → maker_in b (remove xs k) l ≡ maker_in b xs l
remove_idle b [] k y l f e = cc
remove_idle b (x ∷ xs) zero y l f e =
    let same : x ≡ y = cc in
    sym (cond-false (makes l x) (Some (record { block = b; inst = x.inst })) (maker_in b xs l) (ap (makes l) same ∙ e))
remove_idle b (x ∷ xs) (suc k) y l f e = ap (cond (makes l x) (Some (record { block = b; inst = x.inst }))) (remove_idle b xs k y l f e)

set_idle : (k : ℕ) (blocks : List Block) (b : ℕ) (new : Block) (l : LocalNo) → ((n : ℕ) → maker_in n new.insts l ≡ maker_in n (insts_at blocks b) l) → maker_from k (set blocks b new) l ≡ maker_from k blocks l
set_idle k [] b new l h = refl
set_idle k (x ∷ xs) zero new l h = ap (λ o. or_else o (maker_from (suc k) xs l)) (h k)
set_idle k (x ∷ xs) (suc b) new l h = ap (or_else (maker_in k x.insts l)) (set_idle (suc k) xs b new l h)

set_edges : (blocks : List Block) (b : ℕ) (new : Block) → new.term ≡ (get_or blocks b no_block).term → edges_of (set blocks b new) ≡ edges_of blocks
set_edges [] b new e = refl
set_edges (x ∷ xs) zero new e = ap (λ t. run_to (successors t) ∷ edges_of xs) e
set_edges (x ∷ xs) (suc b) new e = ap (λ es. run_to (successors x.term) ∷ es) (set_edges xs b new e)

abbrev with_cut : FuncState → ℕ → ℕ → FuncState
with_cut f b place = record f { blocks = cut_at f.blocks b place }

abbrev with_put : FuncState → ℕ → ℕ → Placed → FuncState
with_put f b place x = record f { blocks = put_at f.blocks b place x }

pub cut_alike : (f : FuncState) (b place : ℕ) (x : Placed) → slice_get (insts_at f.blocks b) place ≡ Some x → makes_pointer x.inst ≡ false → Alike f (record f { blocks = cut_at f.blocks b place })
cut_alike f b place x found e = record {
  makers = λ l. ap seen (sym (set_idle 0 f.blocks b (with_insts (get_or f.blocks b no_block) (remove (insts_at f.blocks b) place)) l (λ k. remove_idle k (insts_at f.blocks b) place x l found (idle l x e))));
  params = refl;
  edges = sym (set_edges f.blocks b (with_insts (get_or f.blocks b no_block) (remove (insts_at f.blocks b) place)) refl);
}

pub put_alike : (f : FuncState) (b place : ℕ) (x : Placed) → makes_pointer x.inst ≡ false → Alike f (record f { blocks = put_at f.blocks b place x })
put_alike f b place x e = record {
  makers = λ l. ap seen (sym (set_idle 0 f.blocks b (with_insts (get_or f.blocks b no_block) (insert (insts_at f.blocks b) place x)) l (λ k. insert_idle k (insts_at f.blocks b) place x l (idle l x e))));
  params = refl;
  edges = sym (set_edges f.blocks b (with_insts (get_or f.blocks b no_block) (insert (insts_at f.blocks b) place x)) refl);
}

-- ---- instructions

-- the instruction stands somewhere
abbrev pub Has : List Block → Placed → Type 0
Has blocks y = (b : ℕ) × (k : ℕ) × (slice_get (insts_at blocks b) k ≡ Some y)

pub within : (blocks : List Block) (b k : ℕ) (y : Placed) → slice_get (insts_at blocks b) k ≡ Some y → b < length blocks
within [] b k y e = cc
within (x ∷ xs) zero k y e = omega arith
within (x ∷ xs) (suc b) k y e = let r = within xs b k y e in omega arith

out_of : (xs : List Placed) (p k : ℕ) (y : Placed) → slice_get (remove xs p) k ≡ Some y → (j : ℕ) × (slice_get xs j ≡ Some y)
out_of [] zero k y e = cc
out_of [] (suc p) k y e = cc
out_of (x ∷ xs) zero k y e = (suc k, e)
out_of (x ∷ xs) (suc p) zero y e = (zero, e)
out_of (x ∷ xs) (suc p) (suc k) y e = let r = out_of xs p k y e in (suc r.0, r.1)

left_or : (xs : List Placed) (p j : ℕ) (x y : Placed) → slice_get xs p ≡ Some x → slice_get xs j ≡ Some y → (x ≡ y) ⊎ ((k : ℕ) × (slice_get (remove xs p) k ≡ Some y))
left_or [] p j x y f e = cc
left_or (z ∷ zs) zero zero x y f e = inl (cc)
left_or (z ∷ zs) zero (suc j) x y f e = inr (j, e)
left_or (z ∷ zs) (suc p) zero x y f e = inr (zero, e)
left_or (z ∷ zs) (suc p) (suc j) x y f e =
    ⊎_elim
    (λ (s : x ≡ y). inl s)
    (λ (r : (k : ℕ) × (slice_get (remove zs p) k ≡ Some y)). inr (suc r.0, r.1))
    (left_or zs p j x y f e)

in_put : (xs : List Placed) (p : ℕ) (x : Placed) (j : ℕ) (y : Placed) → slice_get xs j ≡ Some y → (k : ℕ) × (slice_get (insert xs p x) k ≡ Some y)
in_put [] p x j y e = cc
in_put (z ∷ zs) zero x j y e = (suc j, e)
in_put (z ∷ zs) (suc p) x zero y e = (zero, e)
in_put (z ∷ zs) (suc p) x (suc j) y e = let r = in_put zs p x j y e in (suc r.0, r.1)

put_itself : (xs : List Placed) (p : ℕ) (x : Placed) → (k : ℕ) × (slice_get (insert xs p x) k ≡ Some x)
put_itself [] zero x = (zero, refl)
put_itself [] (suc p) x = (zero, refl)
put_itself (z ∷ zs) zero x = (zero, refl)
put_itself (z ∷ zs) (suc p) x = let r = put_itself zs p x in (suc r.0, r.1)

of_put : (xs : List Placed) (p : ℕ) (x : Placed) (k : ℕ) (y : Placed) → slice_get (insert xs p x) k ≡ Some y → (x ≡ y) ⊎ ((j : ℕ) × (slice_get xs j ≡ Some y))
of_put [] zero x zero y e = inl (cc)
of_put [] zero x (suc k) y e = cc
of_put [] (suc p) x zero y e = inl (cc)
of_put [] (suc p) x (suc k) y e = cc
of_put (z ∷ zs) zero x zero y e = inl (cc)
of_put (z ∷ zs) zero x (suc k) y e = inr (k, e)
of_put (z ∷ zs) (suc p) x zero y e = inr (zero, e)
of_put (z ∷ zs) (suc p) x (suc k) y e =
    ⊎_elim
    (λ (s : x ≡ y). inl s)
    (λ (r : (j : ℕ) × (slice_get zs j ≡ Some y)). inr (suc r.0, r.1))
    (of_put zs p x k y e)

-- an instruction of the new block, or one that was there
pub set_from : (blocks : List Block) (b : ℕ) (new : Block) (c k : ℕ) (y : Placed) → slice_get (insts_at (set blocks b new) c) k ≡ Some y
    → ((j : ℕ) × (slice_get new.insts j ≡ Some y)) ⊎ Has blocks y
set_from [] b new c k y e = cc
set_from (x ∷ xs) zero new zero k y e = inl (k, e)
set_from (x ∷ xs) zero new (suc c) k y e = inr (suc c, k, e)
set_from (x ∷ xs) (suc b) new zero k y e = inr (zero, k, e)
set_from (x ∷ xs) (suc b) new (suc c) k y e =
    ⊎_elim
    (λ (l : (j : ℕ) × (slice_get new.insts j ≡ Some y)). inl l)
    (λ (r : Has xs y). inr (suc r.0, r.1, r.2))
    (set_from xs b new c k y e)

-- one that was there stays, where the new block has it if it was that block's
pub set_to : (blocks : List Block) (b : ℕ) (new : Block) (P : Type 0) (c k : ℕ) (y : Placed) → slice_get (insts_at blocks c) k ≡ Some y
    → ((j : ℕ) → slice_get (insts_at blocks b) j ≡ Some y → P ⊎ ((i : ℕ) × (slice_get new.insts i ≡ Some y))) → P ⊎ Has (set blocks b new) y
set_to [] b new P c k y e h = cc
set_to (x ∷ xs) zero new P zero k y e h =
    ⊎_elim
    (λ (p : P). inl p)
    (λ (r : (i : ℕ) × (slice_get new.insts i ≡ Some y)). inr (zero, r.0, r.1))
    (h k e)
set_to (x ∷ xs) zero new P (suc c) k y e h = inr (suc c, k, e)
set_to (x ∷ xs) (suc b) new P zero k y e h = inr (zero, k, e)
set_to (x ∷ xs) (suc b) new P (suc c) k y e h =
    ⊎_elim
    (λ (p : P). inl p)
    (λ (r : Has (set xs b new) y). inr (suc r.0, r.1, r.2))
    (set_to xs b new P c k y e h)

pub set_here : (blocks : List Block) (b : ℕ) (new : Block) (k : ℕ) (y : Placed) → b < length blocks → slice_get new.insts k ≡ Some y → Has (set blocks b new) y
set_here [] b new k y lt e = absurd (omega arith)
set_here (x ∷ xs) zero new k y lt e = (zero, k, e)
set_here (x ∷ xs) (suc b) new k y lt e = let r = set_here xs b new k y (omega arith) e in (suc r.0, r.1, r.2)

set_len : (blocks : List Block) (b : ℕ) (new : Block) → length (set blocks b new) ≡ length blocks
set_len [] b new = refl
set_len (x ∷ xs) zero new = refl
set_len (x ∷ xs) (suc b) new = ap suc (set_len xs b new)

pub cut_from : (blocks : List Block) (b p : ℕ) (y : Placed) → Has (cut_at blocks b p) y → Has blocks y
cut_from blocks b p y h =
    ⊎_elim
    (λ (l : (j : ℕ) × (slice_get (remove (insts_at blocks b) p) j ≡ Some y)). let r = out_of (insts_at blocks b) p l.0 y l.1 in (b, r.0, r.1))
    (λ (r : Has blocks y). r)
    (set_from blocks b (with_insts (get_or blocks b no_block) (remove (insts_at blocks b) p)) h.0 h.1 y h.2)

pub cut_to : (blocks : List Block) (b p : ℕ) (x y : Placed) → slice_get (insts_at blocks b) p ≡ Some x → Has blocks y → (x ≡ y) ⊎ Has (cut_at blocks b p) y
cut_to blocks b p x y f h =
    set_to blocks b (with_insts (get_or blocks b no_block) (remove (insts_at blocks b) p)) (x ≡ y) h.0 h.1 y h.2 (λ j e. left_or (insts_at blocks b) p j x y f e)

put_from : (blocks : List Block) (b p : ℕ) (x y : Placed) → Has (put_at blocks b p x) y → (x ≡ y) ⊎ Has blocks y
put_from blocks b p x y h =
    ⊎_elim
    (λ (l : (j : ℕ) × (slice_get (insert (insts_at blocks b) p x) j ≡ Some y)).
    ⊎_elim
    (λ (s : x ≡ y). inl s)
    (λ (r : (j : ℕ) × (slice_get (insts_at blocks b) j ≡ Some y)). inr (b, r.0, r.1))
    (of_put (insts_at blocks b) p x l.0 y l.1))
    (λ (r : Has blocks y). inr r)
    (set_from blocks b (with_insts (get_or blocks b no_block) (insert (insts_at blocks b) p x)) h.0 h.1 y h.2)

put_to : (blocks : List Block) (b p : ℕ) (x y : Placed) → Has blocks y → Has (put_at blocks b p x) y
put_to blocks b p x y h =
    ⊎_elim
    (λ (none : ⊥). absurd none)
    (λ (r : Has (put_at blocks b p x) y). r)
    (set_to blocks b (with_insts (get_or blocks b no_block) (insert (insts_at blocks b) p x)) ⊥ h.0 h.1 y h.2 (λ j e. inr (in_put (insts_at blocks b) p x j y e)))

put_here : (blocks : List Block) (b p : ℕ) (x : Placed) → b < length blocks → Has (put_at blocks b p x) x
put_here blocks b p x lt =
    let r = put_itself (insts_at blocks b) p x in
    set_here blocks b (with_insts (get_or blocks b no_block) (insert (insts_at blocks b) p x)) r.0 x lt r.1

-- the same instructions, wherever they stand
abbrev pub SameInsts : FuncState → FuncState → Type 0
SameInsts f g = (y : Placed) → Has f.blocks y ↔ Has g.blocks y

-- ---- an instruction that stands elsewhere

abbrev after_shift : FuncState → ℕ → ℕ → ℕ → ℕ → Placed → FuncState
after_shift f b place to_b to_place x = record f { blocks = put_at (cut_at f.blocks b place) to_b to_place x }

shifted_same : (f : FuncState) (b place to_b to_place : ℕ) (x : Placed) → slice_get (insts_at f.blocks b) place ≡ Some x → to_b < length f.blocks → SameInsts f (after_shift f b place to_b to_place x)
shifted_same f b place to_b to_place x found lt y =
    let blocks = cut_at f.blocks b place in
    let new : Block = with_insts (get_or f.blocks b no_block) (remove (insts_at f.blocks b) place) in
    let below : to_b < length blocks = subst (λ n. to_b < n) (sym (set_len f.blocks b new)) lt in (
      λ h.
          ⊎_elim
          (λ (s : x ≡ y). subst (Has (put_at blocks to_b to_place x)) s (put_here blocks to_b to_place x below))
          (λ (r : Has blocks y). put_to blocks to_b to_place x y r)
          (cut_to f.blocks b place x y found h),
      λ h.
          ⊎_elim
          (λ (s : x ≡ y). (b, place, found ∙ ap Some s))
          (λ (r : Has blocks y). cut_from f.blocks b place y r)
          (put_from blocks to_b to_place x y h),
    )

pub shift_alike : (f g : FuncState) (n b place : ℕ) → IsShifted f g n b place → MakesNone f n → Alike f g × (b < length f.blocks → SameInsts f g)
shift_alike f g n b place s none =
    let e = none s.b s.place s.x s.at in
    let cut = with_cut f s.b s.place in
    let there = cut_alike f s.b s.place s.x s.at.found e in
    let back = put_alike cut b place s.x e in
    subst (λ (h : FuncState). Alike f h × (b < length f.blocks → SameInsts f h)) (sym s.rest)
    (on there back, λ lt. shifted_same f s.b s.place b place s.x s.at.found lt)
  where
    on : Alike f (with_cut f s.b s.place) → Alike (with_cut f s.b s.place) (after_shift f s.b s.place b place s.x) → Alike f (after_shift f s.b s.place b place s.x)
    on a c = record { makers = λ l. a.makers l ∙ c.makers l; params = a.params ∙ c.params; edges = a.edges ∙ c.edges }
