-- An instruction that is no Def may write no location.
use Rattle.std.proofs.Common.{◌≡◌, ◌<◌, ℕ, Bool, true, false, List, [], refl, sym, ◌∙◌, subst, inl, inr, arith}
use Rattle.std.specs.Prelude.{if◌then◌else◌}
use Rattle.ms_ir.specs.declared.inst.Arg.{Arg}
use Rattle.ms_ir.specs.declared.inst.Effects.{Effects}
use Rattle.ms_ir.specs.declared.inst.Inst.{Inst}
use Rattle.ms_ir.specs.declared.inst.Inst.TheVariants.{Alloca, Gep, Step, Load, Store, Copy, Call, Bin, Cmp, Select, Cast, Phi}
use Rattle.ms_ir.specs.Inst.{kind_of_inst, kind_by_effects}
use Rattle.ms_ir.specs.Graph.{is_def}
use Rattle.ms_ir.specs.Func.{FuncState}
use Rattle.ms_alias.specs.declared.loc.Loc.{Loc}
use Rattle.ms_alias.specs.Bases.{Base}
use Rattle.ms_alias.specs.Reaches.{Reach, Called, IsWritten, IsReached}
use Rattle.ms_kept.specs.Spared.{IsIdle}
use Rattle.ms_alias.specs.Meeting.{Meet, MeetInTurn, MayWrite, MayWriteInTurn}

-- a call that writes nothing reaches nothing
nothing : (f : FuncState) (v : Reach) → Meet f (Called [] false false) v → ⊥
nothing f v (inl h) = h.0
nothing f v (inr h) = let s = h.3 in none s.0 s.2
  where
    none : (b : Base) → IsReached f (Called [] false false) b → ⊥
    none b (inl k) = let below : k.1.0 < 0 = k.1.1 in omega arith
    none b (inr (inl k)) = let no : false ≡ true = k.0 in cc
    none b (inr (inr k)) = let no : false ≡ true = k.0 in cc

nothing_in_turn : (f : FuncState) (v : Reach) → MeetInTurn f (Called [] false false) v → ⊥
nothing_in_turn f v (inl h) = h.0
nothing_in_turn f v (inr h) = nothing f v h.1

-- the flags of a call that is no Def
unwritten : (a o h : Bool) (e : Effects) → (a ≡ e.arg_write) → (o ≡ e.other_write) → (h ≡ e.hidden_write) → is_def (kind_by_effects e) ≡ false →
    (args : List Arg) → Called (if e.arg_write then args else []) e.other_write e.hidden_write ≡ Called [] false false
unwritten false false false e p q r k args = rw (sym p) (rw (sym q) (rw (sym r) refl))
unwritten true o h e p q r k args = let def : is_def (kind_by_effects e) ≡ true = rw (sym p) refl in cc
unwritten false true h e p q r k args = let def : is_def (kind_by_effects e) ≡ true = rw (sym p) (rw (sym q) refl) in cc
unwritten false false true e p q r k args = let def : is_def (kind_by_effects e) ≡ true = rw (sym p) (rw (sym q) (rw (sym r) refl)) in cc

-- what an instruction that is no Def writes is nothing
idle_written : (f : FuncState) (inst : Inst) (u : Reach) → is_def (kind_of_inst inst) ≡ false → IsWritten f inst u → u ≡ Called [] false false
idle_written f (Alloca size head tail) u k w = absurd w
idle_written f (Gep base offset head index tail) u k w = absurd w
idle_written f (Step base offset terms head index tail) u k w = absurd w
idle_written f (Load ty ptr tail) u k w = absurd w
idle_written f (Store ty val ptr tail) u k w = cc
idle_written f (Copy to from len head tail) u k w = cc
idle_written f (Call callee ret args effects head tail) u k w =
    w ∙ unwritten effects.arg_write effects.other_write effects.hidden_write effects refl refl refl k args
idle_written f (Bin op flags ty a b tail) u k w = absurd w
idle_written f (Cmp pred flags ty a b tail) u k w = absurd w
idle_written f (Select cond ty a b tail) u k w = absurd w
idle_written f (Cast op flags from a to tail) u k w = absurd w
idle_written f (Phi ty entries tail) u k w = absurd w

pub idle_writes_not : (f : FuncState) (n : ℕ) (loc : Loc) → IsIdle f n → MayWrite f n loc → ⊥
idle_writes_not f n loc idle w =
    let m = w.3 in
    nothing f w.5 (subst (λ u. Meet f u w.5) (idle_written f w.2.inst w.4 (idle w.0 w.1 w.2 m) w.6) w.8)

pub idle_turns_not : (f : FuncState) (n : ℕ) (loc : Loc) → IsIdle f n → MayWriteInTurn f n loc → ⊥
idle_turns_not f n loc idle w =
    nothing_in_turn f w.5 (subst (λ u. MeetInTurn f u w.5) (idle_written f w.2.inst w.4 (idle w.0 w.1 w.2 w.3) w.6) w.8)
