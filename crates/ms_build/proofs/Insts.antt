-- The last Def among a block's instructions, one instruction at a time.
use Rattle.std.proofs.Common.{◌≡◌, ◌≤◌, ℕ, suc, zero, ◌+◌, List, [], ◌∷◌, length, take, Option, Some, None, ap, arith}
use Rattle.std.specs.Prelude.{slice_get}
use Rattle.std.proofs.lemmas.List.{get_or_past}
use Rattle.ms_ir.specs.declared.names.InstNo.{InstNo}
use Rattle.ms_ir.specs.Func.{Placed, Block, no_block}
use Rattle.ms_build.specs.Filled.{last_step, last_from, last_of}

-- one more instruction
pub last_next : (last : Option InstNo) (xs : List Placed) (k : ℕ) (x : Placed) → slice_get xs k ≡ Some x → last_from last (take (k + 1) xs) ≡ last_step (last_from last (take k xs)) x
last_next last [] k x e = cc
last_next last (y ∷ xs) zero x e = let s : y ≡ x = cc in ap (last_step last) s
last_next last (y ∷ xs) (suc k) x e = let n : suc k + 1 ≡ suc (k + 1) = omega arith in rw n (last_next (last_step last y) xs k x e)

pub last_past : (blocks : List Block) (b : ℕ) → length blocks ≤ b → last_of blocks b ≡ None
last_past blocks b h = ap (λ (x : Block). last_from None x.insts) (get_or_past blocks b no_block h)
