-- What may write a location is a Def.
use Rattle.std.proofs.Common.{◌≡◌, ◌⊎◌, ◌||◌, ◌∙◌, inl, inr, ℕ, Bool, true, false, List, [], if◌then◌else◌, refl, subst, arith, ⊎_elim}
use Rattle.std.specs.Prelude.{Contains, IsTrue}
use Rattle.ms_ir.specs.declared.inst.Arg.{Arg}
use Rattle.ms_ir.specs.declared.inst.Inst.{Inst}
use Rattle.ms_ir.specs.declared.inst.Inst.TheVariants.{Store, Copy, Call}
use Rattle.ms_ir.specs.Inst.{kind_of_inst}
use Rattle.ms_ir.specs.Graph.{is_def, defs_of}
use Rattle.ms_ir.specs.Func.{Placed, FuncState, IsAt}
use Rattle.ms_build.proofs.Define.{OnePlaced}
use Rattle.ms_build.proofs.Events.{def_told}
use Rattle.ms_alias.specs.declared.loc.Loc.{Loc}
use Rattle.ms_alias.specs.Bases.{Base, HasValBase, Hidden}
use Rattle.ms_alias.specs.Reaches.{Reach, Called, IsWritten, IsReached, IsKnown}
use Rattle.ms_alias.specs.Meeting.{Meet, HaveOneRoot, HasLength, ShareByte, ShareBase, MayWrite, MeetInTurn, MayWriteInTurn}

-- a call that writes nothing reaches nothing
no_reach : (f : FuncState) (b : Base) → IsReached f (Called [] false false) b → ⊥
no_reach f b r = ⊎_elim
    (λ (t : (a : Arg) × Contains [] a × HasValBase f a.val b). absurd (omega (arith, t.1.1)))
    (λ (s : ((false ≡ true) × IsKnown f b) ⊎ ((false ≡ true) × (b ≡ Hidden))).
    ⊎_elim (λ (k : (false ≡ true) × IsKnown f b). let e : false ≡ true = k.0 in absurd (cc)) (λ (h : (false ≡ true) × (b ≡ Hidden)). let e : false ≡ true = h.0 in absurd (cc)) s)
    r

meets_none : (f : FuncState) (v : Reach) → Meet f (Called [] false false) v → ⊥
meets_none f v m = ⊎_elim
    (λ (s : HaveOneRoot f (Called [] false false) v × ShareByte (Called [] false false) v). absurd s.0)
    (λ (s : (HaveOneRoot f (Called [] false false) v → ⊥) × HasLength (Called [] false false) × HasLength v × ShareBase f (Called [] false false) v).
    no_reach f s.3.0 s.3.2)
    m

meets_none_in_turn : (f : FuncState) (v : Reach) → MeetInTurn f (Called [] false false) v → ⊥
meets_none_in_turn f v (inl m) = m.0
meets_none_in_turn f v (inr m) = meets_none f v m.1

-- a call that reaches something writes something
call_writes : (args : List Arg) (a o h : Bool) (u : Reach) → u ≡ Called (if a then args else []) o h → (u ≡ Called [] false false → ⊥) → (a || o || h) ≡ true
call_writes args true o h u e some = refl
call_writes args false true h u e some = refl
call_writes args false false true u e some = refl
call_writes args false false false u e some = absurd (some e)

writes_def : (f : FuncState) (inst : Inst) (u : Reach) → IsWritten f inst u → (u ≡ Called [] false false → ⊥) → is_def (kind_of_inst inst) ≡ true
writes_def f (Store ty val ptr tail) u w some = refl
writes_def f (Copy to from len head tail) u w some = refl
writes_def f (Call callee ret args e head tail) u w some = rw (call_writes args e.arg_write e.other_write e.hidden_write u w some) refl
writes_def f _ u w some = absurd w

-- an instruction that writes something is a Def
def_from : (f : FuncState) → OnePlaced f.blocks → (i b k : ℕ) (x : Placed) (u : Reach) → IsAt f.blocks i b k x → IsWritten f x.inst u → (u ≡ Called [] false false → ⊥) → IsTrue (defs_of f.blocks i)
def_from f one i b k x u at w some =
    subst (λ (n : ℕ). defs_of f.blocks n ≡ true) at.numbered (def_told f.blocks one b k x at.found ∙ writes_def f x.inst u w some)

pub writer_is_def : (f : FuncState) → OnePlaced f.blocks → (i : ℕ) (loc : Loc) → MayWrite f i loc → IsTrue (defs_of f.blocks i)
writer_is_def f one i loc m = def_from f one i m.0 m.1 m.2 m.4 m.3 m.6 (λ e. meets_none f m.5 (subst (λ (w : Reach). Meet f w m.5) e m.8))

pub writer_in_turn_is_def : (f : FuncState) → OnePlaced f.blocks → (i : ℕ) (loc : Loc) → MayWriteInTurn f i loc → IsTrue (defs_of f.blocks i)
writer_in_turn_is_def f one i loc m = def_from f one i m.0 m.1 m.2 m.4 m.3 m.6 (λ e. meets_none_in_turn f m.5 (subst (λ (w : Reach). MeetInTurn f w m.5) e m.8))
