-- How much room a function has does not change what its instructions may touch.
use Rattle.std.proofs.Common.{◌≡◌, ◌≢◌, ◌⊎◌, inl, inr, ℕ, zero, suc, ℤ, List, refl, sym, ◌∙◌, subst}
use Rattle.std.specs.Prelude.{Contains}
use Rattle.ms_paths.specs.Flow.{Event, Of}
use Rattle.ms_ir.specs.declared.names.LocalNo.{LocalNo}
use Rattle.ms_ir.specs.declared.names.InstNo.{InstNo}
use Rattle.ms_ir.specs.declared.inst.Val.{Val}
use Rattle.ms_ir.specs.declared.inst.Inst.{Inst}
use Rattle.ms_ir.specs.declared.inst.Inst.TheVariants as inst
use Rattle.ms_ir.specs.Func.{FuncState}
use Rattle.ms_alias.specs.declared.loc.Root.{Root}
use Rattle.ms_alias.specs.declared.loc.Root.TheVariants.{Local, Global}
use Rattle.ms_alias.specs.declared.loc.Loc.{Loc}
use Rattle.ms_alias.specs.declared.loc.Loc.TheVariants.{Bytes, ReadBy}
use Rattle.ms_alias.specs.Roots.{step_of, LeadsBack, IsEnd, IsRootAfter, HasRoot, IsTurning, IsTurnedBy}
use Rattle.ms_alias.specs.Bases.{Base, Alloca, Argument, Object, Outside, Hidden, leads_of, IsBrought, IsNamed, HasBase, HasValBase}
use Rattle.ms_alias.specs.Captured.{IsCaptured}
use Rattle.ms_alias.specs.Reaches.{Reach, Span, Called, IsSpan, IsRead, IsWritten, IsReachOf, IsKnown, IsReached, IsLocRead}
use Rattle.ms_alias.specs.Meeting.{HaveOneRoot, Meet, MayWrite, MeetInTurn, MayWriteInTurn}
use Rattle.ms_walk.specs.Clobber.{IsLastWriter, IsLastWriterBefore, IsTurned, IsTurnedAt, IsLastInTurn, IsClobberAt}

-- the function with another room
abbrev pub with_spare : ℕ → FuncState → FuncState
with_spare r f = record f { spare = r }

same_leads : (f : FuncState) (r : ℕ) (p : Root) → leads_of f p ≡ leads_of (with_spare r f) p
same_leads f r (Local l) = refl
same_leads f r (Global g) = refl

same_step : (f : FuncState) (r : ℕ) (p : Root) → step_of f p ≡ step_of (with_spare r f) p
same_step f r (Local l) = refl
same_step f r (Global g) = refl

back : (f : FuncState) (r n : ℕ) (p q : Root) → LeadsBack f n p q → LeadsBack (with_spare r f) n p q
back f r zero p q h = h
back f r (suc n) p q h = (h.0, sym (same_step f r p) ∙ h.1, back f r n h.0.base q h.2)

end : (f : FuncState) (r : ℕ) (p : Root) → IsEnd f p → IsEnd (with_spare r f) p
end f r p (inl e) = inl (sym (same_step f r p) ∙ e)
end f r p (inr h) = inr (h.0, back f r (suc h.0) p p h.1)

root_after : (f : FuncState) (r n : ℕ) (p q : Root) (sum : ℤ) → IsRootAfter f n p q sum → IsRootAfter (with_spare r f) n p q sum
root_after f r zero p q sum h = (h.0, h.1, end f r p h.2)
root_after f r (suc n) p q sum h =
    ((λ e. h.0 (end (with_spare r f) f.spare p e)), h.1, sym (same_step f r p) ∙ h.2, h.3, root_after f r n h.1.base q h.3 h.4, h.5)

has_root : (f : FuncState) (r : ℕ) (p q : Root) (sum : ℤ) → HasRoot f p q sum → HasRoot (with_spare r f) p q sum
has_root f r p q sum h = (h.0, root_after f r h.0 p q sum h.1)

brought : (f : FuncState) (r n : ℕ) (p q : Root) → IsBrought f n p q → IsBrought (with_spare r f) n p q
brought f r zero p q h = h
brought f r (suc n) p q h = (h.0, subst (λ (ls : List Root). Contains ls h.0) (same_leads f r p) h.1, brought f r n h.0 q h.2)

named : (f : FuncState) (r : ℕ) (p : Root) (b : Base) → IsNamed f p b → IsNamed (with_spare r f) p b
named f r (Local l) b h = h
named f r (Global g) b h = h

has_base : (f : FuncState) (r : ℕ) (p : Root) (b : Base) → HasBase f p b → HasBase (with_spare r f) p b
has_base f r p b h = (h.0, h.1, brought f r h.0 p h.1 h.2, named f r h.1 b h.3)

val_base : (f : FuncState) (r : ℕ) (v : Val) (b : Base) → HasValBase f v b → HasValBase (with_spare r f) v b
val_base f r v b h = (h.0, h.1, has_base f r h.0 b h.2)

captured : (f : FuncState) (r : ℕ) (l : LocalNo) → IsCaptured f l → IsCaptured (with_spare r f) l
captured f r l h = (h.0, h.1, h.2, h.3, (h.4.0, h.4.1, h.4.2, val_base f r h.4.0.val (Alloca l) h.4.3))

known : (f : FuncState) (r : ℕ) (b : Base) → IsKnown f b → IsKnown (with_spare r f) b
known f r (Alloca l) h = captured f r l h
known f r (Argument l) h = h
known f r (Object g) h = h
known f r Outside h = h
known f r Hidden h = h

reached : (f : FuncState) (r : ℕ) (u : Reach) (b : Base) → IsReached f u b → IsReached (with_spare r f) u b
reached f r (Span root from len) b h = has_base f r root b h
reached f r (Called args other hidden) b (inl h) = inl (h.0, h.1, val_base f r h.0.val b h.2)
reached f r (Called args other hidden) b (inr (inl h)) = inr (inl (h.0, known f r b h.1))
reached f r (Called args other hidden) b (inr (inr h)) = inr (inr h)

turning : (f : FuncState) (r : ℕ) (p : Root) → IsTurning f p → IsTurning (with_spare r f) p
turning f r (Local l) h = h
turning f r (Global g) h = h

one_root : (f : FuncState) (r : ℕ) (u v : Reach) → HaveOneRoot f u v → HaveOneRoot (with_spare r f) u v
one_root f r (Span p from len) (Span q at size) h = (h.0, λ t. h.1 (turning (with_spare r f) f.spare p t))
one_root f r (Span p from len) (Called args other hidden) h = h
one_root f r (Called args other hidden) v h = h

meet : (f : FuncState) (r : ℕ) (u v : Reach) → Meet f u v → Meet (with_spare r f) u v
meet f r u v (inl h) = inl (one_root f r u v h.0, h.1)
meet f r u v (inr h) =
    inr ((λ o. h.0 (one_root (with_spare r f) f.spare u v o)), h.1, h.2, (h.3.0, h.3.1, reached f r u h.3.0 h.3.2, reached f r v h.3.1 h.3.3, h.3.4))

span : (f : FuncState) (r : ℕ) (v : Val) (len : ℕ) (u : Reach) → IsSpan f v len u → IsSpan (with_spare r f) v len u
span f r v len u h = (h.0, h.1, h.2, h.3, has_root f r h.0 h.2 h.3 h.4, h.5)

read : (f : FuncState) (r : ℕ) (i : Inst) (u : Reach) → IsRead f i u → IsRead (with_spare r f) i u
read f r (inst.Load ty ptr tail) u h = span f r ptr _ u h
read f r (inst.Copy to from len head tail) u h = span f r from.val len u h
read f r (inst.Call callee ret args effects head tail) u h = h
read f r _ u h = h

written : (f : FuncState) (r : ℕ) (i : Inst) (u : Reach) → IsWritten f i u → IsWritten (with_spare r f) i u
written f r (inst.Store ty val ptr tail) u h = span f r ptr _ u h
written f r (inst.Copy to from len head tail) u h = span f r to.val len u h
written f r (inst.Call callee ret args effects head tail) u h = h
written f r _ u h = h

reach_of : (f : FuncState) (r : ℕ) (loc : Loc) (u : Reach) → IsReachOf f loc u → IsReachOf (with_spare r f) loc u
reach_of f r (Bytes root from len) u h = h
reach_of f r (ReadBy j) u h = (h.0, h.1, h.2, h.3, read f r h.2.inst u h.4)

may_write : (f : FuncState) (r i : ℕ) (loc : Loc) → MayWrite f i loc → MayWrite (with_spare r f) i loc
may_write f r i loc h =
    (h.0, h.1, h.2, h.3, h.4, h.5, written f r h.2.inst h.4 h.6, reach_of f r loc h.5 h.7, meet f r h.4 h.5 h.8)

turned_by : (f : FuncState) (r : ℕ) (p : Root) (q : ℕ) → IsTurnedBy f p q → IsTurnedBy (with_spare r f) p q
turned_by f r (Local l) q h = h
turned_by f r (Global g) q h = h

meet_in_turn : (f : FuncState) (r : ℕ) (u v : Reach) → MeetInTurn f u v → MeetInTurn (with_spare r f) u v
meet_in_turn f r u v (inl h) = inl h
meet_in_turn f r u v (inr h) = inr (h.0, meet f r u v h.1)

may_write_in_turn : (f : FuncState) (r i : ℕ) (loc : Loc) → MayWriteInTurn f i loc → MayWriteInTurn (with_spare r f) i loc
may_write_in_turn f r i loc h =
    (h.0, h.1, h.2, h.3, h.4, h.5, written f r h.2.inst h.4 h.6, reach_of f r loc h.5 h.7, meet_in_turn f r h.4 h.5 h.8)

turned : (f : FuncState) (r : ℕ) (loc : Loc) (q : ℕ) → IsTurned f loc q → IsTurned (with_spare r f) loc q
turned f r (Bytes root from len) q h = turned_by f r root q h
turned f r (ReadBy j) q h = h

turned_at : (f : FuncState) (r b k : ℕ) (loc : Loc) (q : ℕ) → IsTurnedAt f b k loc q → IsTurnedAt (with_spare r f) b k loc q
turned_at f r b k loc q h = record {
  turned = turned f r loc q h.turned;
  only = λ p m. h.only p (turned (with_spare r f) f.spare loc p m);
  passed = h.passed;
}

last_writer : (f : FuncState) (r b k : ℕ) (loc : Loc) (e : Event) → IsLastWriter f b k loc e → IsLastWriter (with_spare r f) b k loc e
last_writer f r b k loc e h = record {
  writes = h.writes;
  writers = λ j. ((λ t. may_write f r j loc ((h.writers j).0 t)), (λ w. (h.writers j).1 (may_write (with_spare r f) f.spare j loc w)));
  answer = h.answer;
}

last_before : (f : FuncState) (r i : ℕ) (loc : Loc) (e : Event) → IsLastWriterBefore f i loc e → IsLastWriterBefore (with_spare r f) i loc e
last_before f r i loc e h b k x at = last_writer f r b k loc e (h b k x at)

last_in_turn : (f : FuncState) (r q b k : ℕ) (loc : Loc) (e : Event) → IsLastInTurn f q b k loc e → IsLastInTurn (with_spare r f) q b k loc e
last_in_turn f r q b k loc e h = record {
  writes = h.writes;
  writers = λ j. ((λ t. may_write_in_turn f r j loc ((h.writers j).0 t)), (λ w. (h.writers j).1 (may_write_in_turn (with_spare r f) f.spare j loc w)));
  answer = h.answer;
}

in_turn : (f : FuncState) (r q b k : ℕ) (loc : Loc) (e : Event)
    → (IsLastInTurn f q b k loc e × (e ≢ Of q)) ⊎ (IsLastInTurn f q b k loc (Of q) × IsLastWriterBefore f q loc e)
    → (IsLastInTurn (with_spare r f) q b k loc e × (e ≢ Of q)) ⊎ (IsLastInTurn (with_spare r f) q b k loc (Of q) × IsLastWriterBefore (with_spare r f) q loc e)
in_turn f r q b k loc e (inl h) = inl (last_in_turn f r q b k loc e h.0, h.1)
in_turn f r q b k loc e (inr h) = inr (last_in_turn f r q b k loc (Of q) h.0, last_before f r q loc e h.1)

pub clobber_moved : (f : FuncState) (r b k : ℕ) (loc : Loc) (e : Event) → IsClobberAt f b k loc e → IsClobberAt (with_spare r f) b k loc e
clobber_moved f r b k loc e (inl h) = inl ((λ q t. h.0 q (turned_at (with_spare r f) f.spare b k loc q t)), last_writer f r b k loc e h.1)
clobber_moved f r b k loc e (inr h) = inr (h.0, turned_at f r b k loc h.0 h.1, in_turn f r h.0 b k loc e h.2)

pub read_moved : (f : FuncState) (r : ℕ) (i : InstNo) (x : Inst) (loc : Loc) → IsLocRead f i x loc → IsLocRead (with_spare r f) i x loc
read_moved f r i (inst.Load ty ptr tail) loc h = (h.0, h.1, h.2, h.3, has_root f r h.0 h.2 h.3 h.4, h.5)
read_moved f r i (inst.Copy to from len head tail) loc h = (h.0, h.1, h.2, h.3, has_root f r h.0 h.2 h.3 h.4, h.5)
read_moved f r i (inst.Call callee ret args effects head tail) loc h = h
read_moved f r i _ loc h = h
