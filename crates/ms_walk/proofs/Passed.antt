-- Instructions that lie on every path to a place.
use Rattle.std.proofs.Common.{◌≡◌, ◌<◌, ◌∷◌, ℕ, zero, suc, List, [], take, Some, sym, ◌∙◌, ap, subst, arith, ⊎_elim}
use Rattle.std.specs.Prelude.{Contains, slice_get}
use Rattle.ms_paths.specs.Flow.{Block as Run, block_at, IsPath, IsReached, LiesOnEvery, StandsAt, StandsInOnePlace}
use Rattle.ms_ir.specs.Func.{Placed, Block, IsAt, insts_at}
use Rattle.ms_ir.specs.Graph.{numbers, graph_of}
use Rattle.ms_ir.proofs.Along.{block_within}
use Rattle.ms_build.proofs.Define.{OnePlaced}
use Rattle.ms_build.proofs.Events.{events_at, numbered_at}
use Rattle.ms_climb.specs.Answer.{StandsReached}
use Rattle.ms_climb.proofs.Events.{number_at, in_take}

-- the blocks of a path are reached
pub on_path : (g : List Run) (b a : ℕ) (p : List ℕ) → IsPath g b p → Contains p a → IsReached g a
on_path g b a [] path (k, lt, e) = absurd (let l : k < 0 = lt in omega arith)
on_path g b a (c ∷ p) path (zero, lt, e) = (p, subst (λ (n : ℕ). IsPath g n p) e path.1)
on_path g b a (c ∷ p) path (suc k, lt, e) = on_path g c a p path.1 (k, omega arith, e)

among_reached : (blocks : List Block) (i b : ℕ) → IsReached (graph_of blocks) b → Contains (block_at (graph_of blocks) b).events i → StandsReached blocks i
among_reached blocks i b r h =
    let x = numbered_at (insts_at blocks b) i (subst (λ (l : List ℕ). Contains l i) (events_at blocks b) h) in
    record { block = b; place = x.0; inst = x.1; at = record { block = block_within blocks b x.0 x.1 x.2; found = x.2; numbered = x.3 }; reached = r }

-- what lies on every path to a reached block stands in a reached block
pub passed_stands : (blocks : List Block) (i b k : ℕ) → IsReached (graph_of blocks) b → LiesOnEvery (graph_of blocks) i b k → StandsReached blocks i
passed_stands blocks i b k r passed =
    ⊎_elim
    (λ (h : Contains (take k (block_at (graph_of blocks) b).events) i). among_reached blocks i b r (in_take k (block_at (graph_of blocks) b).events i h))
    (λ (h : (a : ℕ) × Contains r.0 a × Contains (block_at (graph_of blocks) a).events i). among_reached blocks i h.0 (on_path (graph_of blocks) b h.0 r.0 r.1 h.1) h.2)
    (passed r.0 r.1)

-- an instruction as an event at its place
number_of : (xs : List Placed) (k : ℕ) (x : Placed) → slice_get xs k ≡ Some x → slice_get (numbers xs) k ≡ Some x.number
number_of [] k x e = cc
number_of (y ∷ xs) zero x e = let same : y ≡ x = cc in ap (λ (z : Placed). Some z.number) same
number_of (y ∷ xs) (suc k) x e = number_of xs k x e

pub stands_at : (blocks : List Block) (i b k : ℕ) (x : Placed) → IsAt blocks i b k x → StandsAt (graph_of blocks) i b k
stands_at blocks i b k x at = ap (λ (l : List ℕ). slice_get l k) (events_at blocks b) ∙ number_of (insts_at blocks b) k x at.found ∙ ap Some at.numbered

pub is_at : (blocks : List Block) (i b k : ℕ) → StandsAt (graph_of blocks) i b k → (x : Placed) × IsAt blocks i b k x
is_at blocks i b k e =
    let r = number_at (insts_at blocks b) k i (sym (ap (λ (l : List ℕ). slice_get l k) (events_at blocks b)) ∙ e) in
    (r.0, record { block = block_within blocks b k r.0 r.1; found = r.1; numbered = r.2 })

pub in_one_place : (blocks : List Block) → OnePlaced blocks → StandsInOnePlace (graph_of blocks)
in_one_place blocks one i a j b k p q =
    let x = is_at blocks i a j p in
    let y = is_at blocks i b k q in
    one a j b k x.0 y.0 x.1.found y.1.found (x.1.numbered ∙ sym y.1.numbered)
