-- An edit without a fault reads one number of edges.
use Rattle.std.proofs.Common.{◌≡◌, ◌∙◌, ℕ, List, Some, refl, sym, subst, arith}
use Rattle.std.specs.Prelude.{slice_get}
use Rattle.ms_ir.specs.declared.names.BlockNo.{BlockNo}
use Rattle.ms_ir.specs.declared.names.InstNo.{InstNo}
use Rattle.ms_ir.specs.declared.names.Name.{Name}
use Rattle.ms_ir.specs.declared.inst.Inst.{Inst}
use Rattle.ms_ir.specs.declared.inst.Edit.{Edit}
use Rattle.ms_ir.specs.declared.inst.Edit.TheVariants.{Insert, Remove, Move, Unlink}
use Rattle.ms_ir.specs.Func.{Placed, Block, FuncState, IsAt, insts_at, cut_at, after_put}
use Rattle.ms_ir.specs.Edits.{edited, put_again, IsFaultless}
use Rattle.ms_update.specs.Reads.{IsPutCost}
use Rattle.ms_update.proofs.Shifted.{put_there}
use Rattle.ms_edited.proofs.Places.{cut_size}
use Rattle.ms_whole.specs.Cost.{IsReadsOf}
use Rattle.ms_whole.proofs.Faultless.{can_put, can_come}

abbrev OneCost : Type 0
OneCost = (before after : List Block) (i : InstNo) (b place : ℕ) (x : Placed) (m n : ℕ) → IsAt after i.0 b place x → IsPutCost before after i m → IsPutCost before after i n → m ≡ n

pub put_at_place : (f : FuncState) (b : BlockNo) (p : ℕ) (inst : Inst) (name : Name) → IsFaultless f (Insert b p inst name)
    → (x : Placed) × IsAt (after_put f b.0 p inst name).blocks f.made b.0 p x
put_at_place f b p inst name fine = let can = can_put f b p inst name fine in (_, put_there f.blocks f.made b.0 p _ can.block can.place refl)

some_one : (x y : Placed) → Some x ≡ Some y → x ≡ y
some_one x y e = cc

moved_at_place : (f : FuncState) (b : BlockNo) (p : ℕ) (c : BlockNo) (q : ℕ) (x : Placed) → IsFaultless f (Move b p c q) → slice_get (insts_at f.blocks b.0) p ≡ Some x
    → IsAt (edited f (Move b p c q)).blocks x.number c.0 q x
moved_at_place f b p c q x fine found =
    let to = can_come f b p c q fine in
    let size = cut_size f.blocks b.0 p in
    subst (λ o. IsAt (put_again (cut_at f.blocks b.0 p) c.0 q o) x.number c.0 q x) (sym found) (put_there (cut_at f.blocks b.0 p) x.number c.0 q x (let lt = to.0 in omega (arith, lt, size)) to.1 refl)

pub one_number : OneCost → (f : FuncState) (e : Edit) (m n : ℕ) → IsFaultless f e → IsReadsOf f e m → IsReadsOf f e n → m ≡ n
one_number one f (Insert b p inst name) m n fine r s = let at = put_at_place f b p inst name fine in one f.blocks (after_put f b.0 p inst name).blocks (record { 0 = f.made }) b.0 p at.0 m n at.1 r s
one_number one f (Remove b p) m n fine r s = r ∙ sym s
one_number one f (Move b p c q) m n fine r s =
    let same = some_one s.0 r.0 (sym s.1 ∙ r.1) in
    one f.blocks (edited f (Move b p c q)).blocks (record { 0 = r.0.number }) c.0 q r.0 m n (moved_at_place f b p c q r.0 fine r.1) r.2
    (subst (λ (x : Placed). IsPutCost f.blocks (edited f (Move b p c q)).blocks (record { 0 = x.number }) n) same s.2)
one_number one f (Unlink b slot) m n fine r s = r ∙ sym s
