-- Uses are counted along lists.
use Rattle.std.proofs.Common.{◌≡◌, ◌<◌, ◌+◌, ◌∷◌, ℕ, List, drop, length, if◌then◌else◌, refl, Bool, ap, arith, add-one}
use Rattle.ms_ir.specs.Inst.{kind_of_inst}
use Rattle.ms_ir.specs.Func.{Placed, Block, insts_at, no_block}
use Rattle.ms_session.specs.Annotated.{is_use, uses_in, uses_from}
use Rattle.std.proofs.lemmas.List.{drop_more}

-- one more instruction
pub insts_more : (one old new : ℕ) (x : Placed) (xs ys : List Placed) (total : ℕ) → one ≡ (if is_use (kind_of_inst x.inst) then 1 else 0) → new ≡ old + one → xs ≡ x ∷ ys
    → old + uses_in xs ≡ total → new + uses_in ys ≡ total
insts_more one old new x xs ys total is step rest e =
    let first : uses_in xs ≡ (if is_use (kind_of_inst x.inst) then 1 else 0) + uses_in ys = ap uses_in rest in
    omega arith

-- one more block
pub uses_more : (reached : ℕ → Bool) (blocks : List Block) (b one old new total : ℕ) → b < length blocks → one ≡ (if reached b then uses_in (insts_at blocks b) else 0) → new ≡ old + one
    → old + uses_from reached b (drop b blocks) ≡ total → new + uses_from reached (b + 1) (drop (b + 1) blocks) ≡ total
uses_more reached blocks b one old new total within is step e =
    let first : uses_from reached b (drop b blocks) ≡ (if reached b then uses_in (insts_at blocks b) else 0) + uses_from reached (b + 1) (drop (b + 1) blocks) =
    rw (drop_more blocks b no_block within, add-one) refl in
    omega arith
