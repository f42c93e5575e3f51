-- A step is one edit in a function, or is refused.
use Rattle.std.proofs.Common.{◌≡◌, ◌≢◌, ℕ, ◌<◌, List, refl, sym, ap, subst, ◌∙◌, arith}
use Rattle.ms_ir.specs.declared.names.Name.{Name}
use Rattle.ms_ir.specs.declared.names.BlockNo.{BlockNo}
use Rattle.ms_ir.specs.declared.inst.Edit.{Edit}
use Rattle.ms_ir.specs.declared.inst.Edit.TheVariants as edit
use Rattle.ms_ir.specs.declared.faults.EditFault.{EditFault}
use Rattle.ms_ir.specs.declared.faults.EditFault.TheVariants as fault
use Rattle.ms_ir.specs.Func.{Block, FuncState}
use Rattle.ms_ir.specs.Locals.{IsFirstBlock}
use Rattle.ms_ir.specs.Module.{ModuleState}
use Rattle.ms_grammar.specs.declared.line.RawInst.{RawInst}
use Rattle.ms_resolve.specs.Scope.{inst_of}
use Rattle.ms_script.specs.Names.{scope_of, Becomes, IsResolved, KnowsEdit, Refuses}
use Rattle.ms_script.specs.declared.edit.RawEdit.{RawEdit}
use Rattle.ms_script.specs.declared.edit.RawEdit.TheVariants.{Insert, Remove, Move, Unlink}

block_numbered : ℕ → BlockNo
block_numbered k = record { 0 = k }

same_block : (b c : BlockNo) → b.0 ≡ c.0 → b ≡ c
unfolding block_numbered
same_block b c e = ap block_numbered e

-- a name has one first block
first_one : (blocks : List Block) (n : Name) (b c : BlockNo) → IsFirstBlock blocks n b.0 → IsFirstBlock blocks n c.0 → b ≡ c
first_one blocks n b c x y = same_block b c (least b.0 c.0 (λ less. y.first b.0 less x.named) (λ less. x.first c.0 less y.named))
  where
    least : (j k : ℕ) → (j < k → ⊥) → (k < j → ⊥) → j ≡ k
    least j k low high = omega (arith, low, high)

-- what an edit is by numbers
insert_is : (m : ModuleState) (f : FuncState) (block : Name) (place : ℕ) (i : RawInst) (n : Name) (e : Edit) → Becomes m f (Insert block place i n) e
    → (b : BlockNo) × IsFirstBlock f.blocks block b.0 × (e ≡ edit.Insert b place (inst_of (scope_of m f) i) n)
insert_is m f block place i n (edit.Insert b p inst name) h = (b, h.0, (let at = h.1 in let made = h.2 in let named = h.3 in cc))
insert_is m f block place i n (edit.Remove _ _) h = absurd h
insert_is m f block place i n (edit.Move _ _ _ _) h = absurd h
insert_is m f block place i n (edit.Unlink _ _) h = absurd h

remove_is : (m : ModuleState) (f : FuncState) (block : Name) (place : ℕ) (e : Edit) → Becomes m f (Remove block place) e
    → (b : BlockNo) × IsFirstBlock f.blocks block b.0 × (e ≡ edit.Remove b place)
remove_is m f block place (edit.Remove b p) h = (b, h.0, (let at = h.1 in cc))
remove_is m f block place (edit.Insert _ _ _ _) h = absurd h
remove_is m f block place (edit.Move _ _ _ _) h = absurd h
remove_is m f block place (edit.Unlink _ _) h = absurd h

move_is : (m : ModuleState) (f : FuncState) (block to : Name) (place at : ℕ) (e : Edit) → Becomes m f (Move block place to at) e
    → (b : BlockNo) × (c : BlockNo) × IsFirstBlock f.blocks block b.0 × IsFirstBlock f.blocks to c.0 × (e ≡ edit.Move b place c at)
move_is m f block to place at (edit.Move b p c q) h = (b, c, h.0, h.2, (let from = h.1 in let onto = h.3 in cc))
move_is m f block to place at (edit.Insert _ _ _ _) h = absurd h
move_is m f block to place at (edit.Remove _ _) h = absurd h
move_is m f block to place at (edit.Unlink _ _) h = absurd h

unlink_is : (m : ModuleState) (f : FuncState) (block : Name) (slot : ℕ) (e : Edit) → Becomes m f (Unlink block slot) e
    → (b : BlockNo) × IsFirstBlock f.blocks block b.0 × (e ≡ edit.Unlink b slot)
unlink_is m f block slot (edit.Unlink b s) h = (b, h.0, (let at = h.1 in cc))
unlink_is m f block slot (edit.Insert _ _ _ _) h = absurd h
unlink_is m f block slot (edit.Remove _ _) h = absurd h
unlink_is m f block slot (edit.Move _ _ _ _) h = absurd h

becomes_one : (m : ModuleState) (f : FuncState) (raw : RawEdit) (e d : Edit) → Becomes m f raw e → Becomes m f raw d → e ≡ d
becomes_one m f (Insert block place i n) e d x y =
    let a = insert_is m f block place i n e x in
    let b = insert_is m f block place i n d y in
    a.2 ∙ ap (λ (c : BlockNo). edit.Insert c place (inst_of (scope_of m f) i) n) (first_one f.blocks block a.0 b.0 a.1 b.1) ∙ sym b.2
becomes_one m f (Remove block place) e d x y =
    let a = remove_is m f block place e x in
    let b = remove_is m f block place d y in
    a.2 ∙ ap (λ (c : BlockNo). edit.Remove c place) (first_one f.blocks block a.0 b.0 a.1 b.1) ∙ sym b.2
becomes_one m f (Move block place to at) e d x y =
    let a = move_is m f block to place at e x in
    let b = move_is m f block to place at d y in
    let from = first_one f.blocks block a.0 b.0 a.2 b.2 in
    let onto = first_one f.blocks to a.1 b.1 a.3 b.3 in
    a.4 ∙ ap (λ (c : BlockNo). edit.Move c place a.1 at) from ∙ ap (λ (c : BlockNo). edit.Move b.0 place c at) onto ∙ sym b.4
becomes_one m f (Unlink block slot) e d x y =
    let a = unlink_is m f block slot e x in
    let b = unlink_is m f block slot d y in
    a.2 ∙ ap (λ (c : BlockNo). edit.Unlink c slot) (first_one f.blocks block a.0 b.0 a.1 b.1) ∙ sym b.2

pub one_edit : (m : ModuleState) (f : FuncState) (raw : RawEdit) (e d : Edit) → IsResolved m f raw e → IsResolved m f raw d → e ≡ d
one_edit m f raw e d x y = becomes_one m f raw e d x.becomes y.becomes

-- a name is all that names are refused for
name_alone : (Known : Type 0) (a : EditFault) → a ≢ fault.Memory → Refuses Known a → (a ≡ fault.Name) × (Known → ⊥)
name_alone Known fault.Name other h = (refl, h)
name_alone Known fault.Place other h = absurd h
name_alone Known fault.Kind other h = absurd h
name_alone Known fault.Types other h = absurd h
name_alone Known fault.Order other h = absurd h
name_alone Known fault.Used other h = absurd h
name_alone Known fault.NoEdge other h = absurd h
name_alone Known fault.Memory other h = absurd (other refl)

pub one_fault : (m : ModuleState) (f : FuncState) (raw : RawEdit) (a b : EditFault) → a ≢ fault.Memory → b ≢ fault.Memory → Refuses (KnowsEdit m f raw) a
    → Refuses (KnowsEdit m f raw) b → a ≡ b
one_fault m f raw a b x y h k = (name_alone (KnowsEdit m f raw) a x h).0 ∙ sym (name_alone (KnowsEdit m f raw) b y k).0

pub edit_or_fault : (m : ModuleState) (f : FuncState) (raw : RawEdit) (e : Edit) (a : EditFault) → a ≢ fault.Memory → IsResolved m f raw e
    → Refuses (KnowsEdit m f raw) a → ⊥
edit_or_fault m f raw e a other x h = (name_alone (KnowsEdit m f raw) a other h).1 x.known
