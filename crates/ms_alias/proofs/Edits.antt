-- What a put and a take of an instruction that makes no pointer leave.
use Rattle.std.proofs.Common.{◌≡◌, ◌<◌, ◌↔◌, ℕ, zero, suc, false, cond, List, [], ◌∷◌, Some, None, length, get_or, set, refl, sym, ap, ◌∙◌, subst, ⊎_elim, get_or-set_other, get_or-set_same, arith}
use Rattle.std.specs.Prelude.{slice_get, insert, remove}
use Rattle.std.proofs.lemmas.Bool.{cases_eq, cond-false, eqb-false, ne_eqb, and_left}
use Rattle.ms_ir.specs.declared.names.LocalNo.{LocalNo}
use Rattle.ms_ir.specs.declared.names.InstNo.{InstNo}
use Rattle.ms_ir.specs.declared.names.Name.{Name}
use Rattle.ms_ir.specs.declared.inst.Inst.{Inst}
use Rattle.ms_ir.specs.Inst.{result_for}
use Rattle.ms_ir.specs.Func.{Placed, Block, FuncState, IsAt, IsTaken, no_block, insts_at, with_insts, cut_at, after_put}
use Rattle.ms_ir.specs.Locals.{IsNumbered}
use Rattle.ms_ir.specs.Graph.{successors}
use Rattle.ms_flow.specs.Table.{edges_of, run_to}
use Rattle.ms_alias.specs.Roots.{makes, makes_pointer, is_local, maker_in, maker_from, or_else}
use Rattle.ms_alias.specs.Bases.{Alloca as AllocaBase}
use Rattle.ms_alias.specs.Captured.{IsCaptured, IsCapturedBut, skips}
use Rattle.ms_alias.specs.Tables.{AliasState, IsAliasOf, HasPointers, IsCapturesBut}
use Rattle.ms_alias.proofs.Same.{SamePointers, same_back, kept_same, pointers_same}

idle : (l : LocalNo) (x : Placed) → makes_pointer x.inst ≡ false → makes l x ≡ false
idle l x e = and_left (makes_pointer x.inst) (is_local l x.result) e

insert_idle : (b : ℕ) (xs : List Placed) (k : ℕ) (y : Placed) (l : LocalNo) → makes l y ≡ false → maker_in b (insert xs k y) l ≡ maker_in b xs l
insert_idle b [] zero y l e = cond-false (makes l y) (Some (record { block = b; inst = y.inst })) None e
insert_idle b [] (suc k) y l e = cond-false (makes l y) (Some (record { block = b; inst = y.inst })) None e
insert_idle b (x ∷ xs) zero y l e = cond-false (makes l y) (Some (record { block = b; inst = y.inst })) (maker_in b (x ∷ xs) l) e
insert_idle b (x ∷ xs) (suc k) y l e = ap (cond (makes l x) (Some (record { block = b; inst = x.inst }))) (insert_idle b xs k y l e)

remove_idle : (b : ℕ) (xs : List Placed) (k : ℕ) (y : Placed) (l : LocalNo) → slice_get xs k ≡ Some y → makes l y ≡ false → maker_in b (remove xs k) l ≡ maker_in b xs l
remove_idle b [] k y l f e = cc
remove_idle b (x ∷ xs) zero y l f e =
    let same : x ≡ y = cc in
    sym (cond-false (makes l x) (Some (record { block = b; inst = x.inst })) (maker_in b xs l) (ap (makes l) same ∙ e))
remove_idle b (x ∷ xs) (suc k) y l f e = ap (cond (makes l x) (Some (record { block = b; inst = x.inst }))) (remove_idle b xs k y l f e)

-- one block is another that makes the same pointers
set_idle : (k : ℕ) (blocks : List Block) (b : ℕ) (new : Block) (l : LocalNo) → ((n : ℕ) → maker_in n new.insts l ≡ maker_in n (insts_at blocks b) l) → maker_from k (set blocks b new) l ≡ maker_from k blocks l
set_idle k [] b new l h = refl
set_idle k (x ∷ xs) zero new l h = ap (λ o. or_else o (maker_from (suc k) xs l)) (h k)
set_idle k (x ∷ xs) (suc b) new l h = ap (or_else (maker_in k x.insts l)) (set_idle (suc k) xs b new l h)

set_edges : (blocks : List Block) (b : ℕ) (new : Block) → new.term ≡ (get_or blocks b no_block).term → edges_of (set blocks b new) ≡ edges_of blocks
set_edges [] b new e = refl
set_edges (x ∷ xs) zero new e = ap (λ t. run_to (successors t) ∷ edges_of xs) e
set_edges (x ∷ xs) (suc b) new e = ap (λ es. run_to (successors x.term) ∷ es) (set_edges xs b new e)

-- an instruction that makes no pointer was put
pub put_same : (f : FuncState) (b place : ℕ) (inst : Inst) (name : Name) → makes_pointer inst ≡ false → SamePointers f (after_put f b place inst name)
put_same f b place inst name e =
    let y : Placed = record { number = f.made; result = result_for inst f.locals; name = name; inst = inst } in
    record {
      makers = λ l. sym (set_idle 0 f.blocks b (with_insts (get_or f.blocks b no_block) (insert (insts_at f.blocks b) place y)) l (λ n. insert_idle n (insts_at f.blocks b) place y l (idle l y e)));
      params = refl;
      edges = sym (set_edges f.blocks b (with_insts (get_or f.blocks b no_block) (insert (insts_at f.blocks b) place y)) refl);
    }

pub put_kept : (f : FuncState) (a : AliasState) (b place : ℕ) (inst : Inst) (name : Name) → makes_pointer inst ≡ false → IsAliasOf f a → HasPointers (after_put f b place inst name) a
put_kept f a b place inst name e is = pointers_same f (after_put f b place inst name) a (put_same f b place inst name e) (record { room = is.room; origins = is.origins; turning = is.turning; bases = is.bases })

cut_same : (f : FuncState) (n b place : ℕ) (x : Placed) → IsAt f.blocks n b place x → makes_pointer x.inst ≡ false → SamePointers f (record f { blocks = cut_at f.blocks b place })
cut_same f n b place x at e = record {
  makers = λ l. sym (set_idle 0 f.blocks b (with_insts (get_or f.blocks b no_block) (remove (insts_at f.blocks b) place)) l (λ k. remove_idle k (insts_at f.blocks b) place x l at.found (idle l x e)));
  params = refl;
  edges = sym (set_edges f.blocks b (with_insts (get_or f.blocks b no_block) (remove (insts_at f.blocks b) place)) refl);
}

-- what is left of a list, and where it stood
from_remove : (xs : List Placed) (p k : ℕ) (y : Placed) → slice_get (remove xs p) k ≡ Some y → (j : ℕ) × (slice_get xs j ≡ Some y) × (j ≡ p → ⊥)
from_remove [] zero k y e = cc
from_remove [] (suc p) k y e = cc
from_remove (x ∷ xs) zero k y e = (suc k, e, λ h. omega arith)
from_remove (x ∷ xs) (suc p) zero y e = (zero, e, λ h. omega arith)
from_remove (x ∷ xs) (suc p) (suc k) y e = let r = from_remove xs p k y e in (suc r.0, r.1, λ h. r.2 (omega arith))

to_remove : (xs : List Placed) (p j : ℕ) (y : Placed) → slice_get xs j ≡ Some y → (j ≡ p → ⊥) → (k : ℕ) × (slice_get (remove xs p) k ≡ Some y)
to_remove [] p j y e n = cc
to_remove (x ∷ xs) zero zero y e n = absurd (n refl)
to_remove (x ∷ xs) zero (suc j) y e n = (j, e)
to_remove (x ∷ xs) (suc p) zero y e n = (zero, e)
to_remove (x ∷ xs) (suc p) (suc j) y e n = let r = to_remove xs p j y e (λ h. n (ap suc h)) in (suc r.0, r.1)

cut_here : (blocks : List Block) (b p : ℕ) → b < length blocks → insts_at (cut_at blocks b p) b ≡ remove (insts_at blocks b) p
cut_here blocks b p lt = ap (λ (x : Block). x.insts) (get_or-set_same blocks b (with_insts (get_or blocks b no_block) (remove (insts_at blocks b) p)) no_block lt)

cut_there : (blocks : List Block) (b p c : ℕ) → (c ≡ b → ⊥) → insts_at (cut_at blocks b p) c ≡ insts_at blocks c
cut_there blocks b p c n = ap (λ (x : Block). x.insts) (get_or-set_other blocks b c (with_insts (get_or blocks b no_block) (remove (insts_at blocks b) p)) no_block n)

cut_from : (blocks : List Block) (b p c k : ℕ) (y : Placed) → b < length blocks → slice_get (insts_at (cut_at blocks b p) c) k ≡ Some y → (j : ℕ) × (slice_get (insts_at blocks c) j ≡ Some y) × ((c ≡ b) × (j ≡ p) → ⊥)
cut_from blocks b p c k y lt e =
    ⊎_elim
    (λ (is : c ≡ b).
    let r = from_remove (insts_at blocks b) p k y (sym (ap (λ xs. slice_get xs k) (ap (insts_at (cut_at blocks b p)) is ∙ cut_here blocks b p lt)) ∙ e) in
    (r.0, ap (λ n. slice_get (insts_at blocks n) r.0) is ∙ r.1, λ h. r.2 h.1))
    (λ (n : c ≡ b → ⊥). (k, sym (ap (λ xs. slice_get xs k) (cut_there blocks b p c n)) ∙ e, λ h. n h.0))
    (cases_eq c b)

cut_to : (blocks : List Block) (b p c j : ℕ) (y : Placed) → b < length blocks → slice_get (insts_at blocks c) j ≡ Some y → ((c ≡ b) × (j ≡ p) → ⊥) → (k : ℕ) × (slice_get (insts_at (cut_at blocks b p) c) k ≡ Some y)
cut_to blocks b p c j y lt e n =
    ⊎_elim
    (λ (is : c ≡ b).
    let r = to_remove (insts_at blocks b) p j y (ap (λ m. slice_get (insts_at blocks m) j) (sym is) ∙ e) (λ h. n (is, h)) in
    (r.0, ap (λ xs. slice_get xs r.0) (ap (insts_at (cut_at blocks b p)) is ∙ cut_here blocks b p lt) ∙ r.1))
    (λ (ne : c ≡ b → ⊥). (j, ap (λ xs. slice_get xs j) (cut_there blocks b p c ne) ∙ e))
    (cases_eq c b)

-- what is captured once the instruction is out
captured_cut : (f : FuncState) → IsNumbered f → (i : InstNo) (b place : ℕ) (x : Placed) → IsAt f.blocks i.0 b place x → SamePointers f (record f { blocks = cut_at f.blocks b place }) → (l : LocalNo)
    → IsCaptured (record f { blocks = cut_at f.blocks b place }) l ↔ IsCapturedBut f (Some i) l
captured_cut f n i b place x at s l = (
  λ h.
      let r = cut_from f.blocks b place h.0 h.1 h.2 at.block h.3 in
      let other : skips (Some i) h.2.number ≡ false = ne_eqb i.0 h.2.number (λ e. r.2 (n.one_place h.0 r.0 b place h.2 x r.1 at.found (sym e ∙ sym at.numbered))) in
      (h.0, r.0, h.2, r.1, other, kept_same (record f { blocks = cut_at f.blocks b place }) f (same_back f (record f { blocks = cut_at f.blocks b place }) s) h.2.inst (AllocaBase l) h.4),
  λ h.
      let r = cut_to f.blocks b place h.0 h.1 h.2 at.block h.3 (λ p. eqb-false i.0 h.2.number h.4 (sym at.numbered ∙ number_at h.0 h.1 h.2 h.3 p)) in
      (h.0, r.0, h.2, r.1, kept_same f (record f { blocks = cut_at f.blocks b place }) s h.2.inst (AllocaBase l) h.5),
) where
  number_at : (c j : ℕ) (y : Placed) → slice_get (insts_at f.blocks c) j ≡ Some y → (c ≡ b) × (j ≡ place) → x.number ≡ y.number
  number_at c j y e p =
      let same : Some x ≡ Some y = sym at.found ∙ ap (λ m. slice_get (insts_at f.blocks m) place) (sym p.0) ∙ ap (slice_get (insts_at f.blocks c)) (sym p.1) ∙ e in
      let is : x ≡ y = cc in
      ap (λ (z : Placed). z.number) is

-- an instruction that makes no pointer is taken, and the table was told so
pub take_kept : (f g : FuncState) (a : AliasState) (i : InstNo) (inst : Inst) → IsNumbered f → IsTaken f g i.0 inst → makes_pointer inst ≡ false → HasPointers f a → IsCapturesBut a.bases f (Some i) a.captured → IsAliasOf g a
take_kept f g a i inst n t e h k =
    let cut : FuncState = record f { blocks = cut_at f.blocks t.b t.place } in
    let s = cut_same f i.0 t.b t.place t.x t.at (sym (ap makes_pointer t.inst_is) ∙ e) in
    let p = pointers_same f cut a s h in
    let c = captured_cut f n i t.b t.place t.x t.at s in
    subst (λ (x : FuncState). IsAliasOf x a) (sym t.rest) (record {
      room = p.room;
      origins = p.origins;
      turning = p.turning;
      bases = p.bases;
      captured = record {
        sound = λ d m. let r = k.sound d m in (r.0, r.1, (c r.0).1 r.2);
        complete = λ l m. k.complete l ((c l).0 m);
      };
    })
