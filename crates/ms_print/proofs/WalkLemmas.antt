-- Going along the instructions of a block.
use Rattle.std.proofs.Common.{◌≡◌, ℕ, suc, zero, ◌+◌, List, [], ◌∷◌, drop, Option, Some, refl, ap, ◌∙◌, add-one}
use Rattle.std.specs.List.{slice_get}
use Rattle.std.specs.Option.{option_map}
use Rattle.ms_ir.specs.declared.inst.Inst.{Inst}
use Rattle.ms_ir.specs.declared.names.Name.{Name}
use Rattle.ms_ir.specs.declared.names.LocalNo.{LocalNo}
use Rattle.ms_ir.specs.declared.func.Node.{Node}
use Rattle.ms_ir.specs.declared.names.BlockNo.{BlockNo}
use Rattle.ms_print.specs.declared.walk.Walk.{Walk}
use Rattle.ms_ir.specs.Func.{Placed, Block, insts_at, NotNumbered, node_parts, parts_of, placed_as}
use Rattle.ms_print.specs.Walk.{number_of}

abbrev pub Parts : Type 0
Parts = Inst × Option LocalNo × Name

-- an instruction with a number stands nowhere in the list
pub nowhere_at : (xs : List Placed) (k n : ℕ) (x : Placed) → NotNumbered n xs → slice_get xs k ≡ Some x → x.number ≡ n → ⊥
nowhere_at [] k n x none e is = cc
nowhere_at (y ∷ xs) zero n x none e is = none.0 (let same : y ≡ x = cc in ap (λ (p : Placed). p.number) same ∙ is)
nowhere_at (y ∷ xs) (suc k) n x none e is = nowhere_at xs k n x none.1 e is

-- the instruction whose number stands at a place
pub numbered_at : (xs : List Placed) (k n : ℕ) → Some n ≡ option_map number_of (slice_get xs k)
    → (x : Placed) × (slice_get xs k ≡ Some x) × (x.number ≡ n)
numbered_at [] k n e = cc
numbered_at (x ∷ xs) zero n e = (x, refl, cc)
numbered_at (x ∷ xs) (suc k) n e = numbered_at xs k n e

same_placed : (x : Placed) (n : ℕ) (node : Node) → x.number ≡ n → node_parts x ≡ parts_of node → x ≡ placed_as n node
same_placed x n node number parts =
    ap (λ (m : ℕ). placed_as m (record { inst = x.inst; result = x.result; name = x.name })) number
    ∙ ap (λ (p : Parts). placed_as n (record { inst = p.0; result = p.1; name = p.2 })) parts

from_place : (xs : List Placed) (k : ℕ) (x : Placed) → slice_get xs k ≡ Some x → drop k xs ≡ x ∷ drop (suc k) xs
from_place [] k x e = cc
from_place (y ∷ xs) zero x e = let same : y ≡ x = cc in ap (λ (p : Placed). p ∷ xs) same
from_place (y ∷ xs) (suc k) x e = from_place xs k x e

-- the instructions from a place on begin with the one there
pub placed_at : (xs : List Placed) (k n : ℕ) (x : Placed) (node : Node) → slice_get xs k ≡ Some x → x.number ≡ n → node_parts x ≡ parts_of node
    → drop k xs ≡ placed_as n node ∷ drop (k + 1) xs
placed_at xs k n x node at number parts =
    rw add-one (from_place xs k x at ∙ ap (λ (p : Placed). p ∷ drop (suc k) xs) (same_placed x n node number parts))

-- the first of the rest of a list is the member at its place
pub first_of_rest : (xs ys : List Placed) (k : ℕ) (x : Placed) → drop k xs ≡ x ∷ ys → slice_get xs k ≡ Some x
first_of_rest [] ys zero x e = cc
first_of_rest [] ys (suc k) x e = cc
first_of_rest (y ∷ xs) ys zero x e = let same : y ≡ x = cc in ap (λ (p : Placed). Some p) same
first_of_rest (y ∷ xs) ys (suc k) x e = first_of_rest xs ys k x e

-- what a step finds, at the place and block where the walk stands
pub found_at : (blocks : List Block) (w : Walk) (b : BlockNo) (place : ℕ) (x : Placed) → w.block ≡ b → w.place ≡ place
    → drop w.place (insts_at blocks w.block.0) ≡ x ∷ drop (w.place + 1) (insts_at blocks w.block.0)
    → drop place (insts_at blocks b.0) ≡ x ∷ drop (place + 1) (insts_at blocks b.0)
found_at blocks w b place x block at found = rw (block, at) at found
