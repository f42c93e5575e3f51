-- That no getelementptr's offset passes its limit, as it is found out instruction by instruction.
use Rattle.std.proofs.Common.{◌≡◌, ◌+◌, ◌<◌, ◌∙◌, ℕ, ℤ, List, Option, Some, None, refl, sym, ap, subst, ⊎_elim, arith}
use Rattle.std.proofs.lemmas.Bool.{cases_eq}
use Rattle.ms_ir.specs.declared.names.LocalNo.{LocalNo}
use Rattle.ms_ir.specs.declared.inst.Inst.{Inst}
use Rattle.ms_ir.specs.Func.{Placed, Block, FuncState, IsAt}
use Rattle.ms_ir.specs.Locals.{IsNumbered}
use Rattle.ms_ir.proofs.FuncLemmas.{block_there}
use Rattle.ms_alias.specs.declared.loc.Root.{Root}
use Rattle.ms_alias.specs.Roots.{Maker, Step, step_in, step_by, step_by_maker, maker_of}
use Rattle.ms_alias.specs.Offsets.{IsNear, greatest_offset, AreOffsetsNear}
use Rattle.ms_alias.proofs.Makers.{cases_Option, maker_in_blocks}

-- the offset of the instruction's getelementptr passes no limit
abbrev pub IsNearInst : Inst → Type 0
IsNearInst inst = (s : Step) → step_in inst ≡ Some s → IsNear greatest_offset s.bytes

pub near_step : (bytes : ℤ) (p : Option Root) (s : Step) → IsNear greatest_offset bytes → step_by bytes p ≡ Some s → IsNear greatest_offset s.bytes
near_step bytes None s h e = cc
near_step bytes (Some p) s h e =
    let made : Step = record { base = p; bytes = bytes } in
    let is : made ≡ s = cc in
    subst (λ (x : Step). IsNear greatest_offset x.bytes) is h

-- the same for the instructions of the first numbers
abbrev pub AreNear : List Block → ℕ → Type 0
AreNear blocks i = (n b k : ℕ) (x : Placed) → n < i → IsAt blocks n b k x → IsNearInst x.inst

pub near_more : (blocks : List Block) (i : ℕ) → AreNear blocks i → ((b k : ℕ) (x : Placed) → IsAt blocks i b k x → IsNearInst x.inst) → AreNear blocks (i + 1)
near_more blocks i old new n b k x lt at =
    ⊎_elim
    (λ (is : n ≡ i). new b k x (subst (λ m. IsAt blocks m b k x) is at))
    (λ (other : n ≡ i → ⊥). old n b k x (omega arith) at)
    (cases_eq n i)

pub near_from : (f : FuncState) → IsNumbered f → AreNear f.blocks f.made → AreOffsetsNear f
near_from f n h l s e =
    ⊎_elim
    (λ (none : maker_of f l ≡ None). let clash : None ≡ Some s = sym (ap step_by_maker none) ∙ e in absurd (cc))
    (λ (some : (m : Maker) × (maker_of f l ≡ Some m)).
    let there = maker_in_blocks 0 f.blocks l some.0 some.1 in
    let at : IsAt f.blocks there.2.number there.0 there.1 there.2 = record { block = block_there f.blocks there.0 there.1 there.2 there.4; found = there.4; numbered = refl } in
    h there.2.number there.0 there.1 there.2 (n.below_made there.0 there.1 there.2 there.4) at s (sym (ap step_in there.6) ∙ sym (ap step_by_maker some.1) ∙ e))
    (cases_Option (maker_of f l))
