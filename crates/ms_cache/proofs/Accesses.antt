-- What instructions may write and read in two functions whose pointers are made alike.
use Rattle.std.proofs.Common.{◌≡◌, ◌↔◌, ℕ, ℤ, true, List, refl, sym, subst, inl, inr}
use Rattle.std.specs.Prelude.{Contains}
use Rattle.ms_ir.specs.declared.names.LocalNo.{LocalNo}
use Rattle.ms_ir.specs.declared.names.InstNo.{InstNo}
use Rattle.ms_ir.specs.declared.inst.Val.{Val}
use Rattle.ms_ir.specs.declared.inst.Arg.{Arg}
use Rattle.ms_ir.specs.declared.inst.Inst.{Inst}
use Rattle.ms_ir.specs.declared.inst.Inst.TheVariants.{Alloca as AllocaInst, Gep, Step as StepInst, Load, Store, Copy, Call, Bin, Cmp, Select, Cast, Phi}
use Rattle.ms_ir.specs.Func.{Placed, FuncState, IsAt}
use Rattle.ms_alias.specs.declared.loc.Root.{Root}
use Rattle.ms_alias.specs.declared.loc.Root.TheVariants.{Local, Global}
use Rattle.ms_alias.specs.declared.loc.Loc.{Loc}
use Rattle.ms_alias.specs.declared.loc.Loc.TheVariants.{Bytes, ReadBy}
use Rattle.ms_alias.specs.Roots.{makes, HasRoot, IsTurnedBy, IsFixed}
use Rattle.ms_alias.specs.Bases.{Base, Alloca as AllocaBase, Argument as ArgumentBase, Object as ObjectBase, Outside, Hidden, HasValBase}
use Rattle.ms_alias.specs.Captured.{IsCaptured}
use Rattle.ms_alias.specs.Reaches.{Reach, Span, Called, IsSpan, IsRead, IsWritten, IsReachOf, IsKnown, IsReached, IsLocRead, IsLocWritten, ReadsLoc, WritesLoc}
use Rattle.ms_alias.specs.Meeting.{HaveOneRoot, ShareByte, HasLength, Meet, AreOneRoot, MeetInTurn, MayWrite, MayWriteInTurn, MayRead}
use Rattle.ms_cache.specs.Edited.{SamePointers, SameWrites, SameReads, SameLocs}
use Rattle.ms_cache.proofs.Alike.{Alike, alike_back, root_alike, base_alike, turning_alike, argument_alike}
use Rattle.ms_cache.proofs.Insts.{SameInsts, within}

-- what some arguments lead to
abbrev pub LeadTo : FuncState → List Arg → Base → Type 0
LeadTo f args b = (a : Arg) × Contains args a × HasValBase f a.val b

-- the same bytes, or calls that reach the same
abbrev pub SameReach : FuncState → FuncState → Reach → Reach → Type 0
SameReach f g (Span r from len) v = v ≡ Span r from len
SameReach f g (Called args other hidden) v = (others : List Arg) × (v ≡ Called others other hidden) × ((b : Base) → LeadTo f args b ↔ LeadTo g others b)

-- alike pointers, and the same captured allocas
pub record Both (f g : FuncState) : Type 0 where
  pub alike : Alike f g
  pub captured : (l : LocalNo) → IsCaptured f l ↔ IsCaptured g l

pub both_back : (f g : FuncState) → Both f g → Both g f
both_back f g s = record { alike = alike_back f g s.alike; captured = λ l. ((s.captured l).1, (s.captured l).0) }

pub val_base : (f g : FuncState) → Alike f g → (v : Val) (b : Base) → HasValBase f v b → HasValBase g v b
val_base f g s v b h = (h.0, h.1, base_alike f g s h.0 b h.2)

pub lead : (f g : FuncState) → Alike f g → (args : List Arg) (b : Base) → LeadTo f args b → LeadTo g args b
lead f g s args b h = (h.0, h.1, val_base f g s h.0.val b h.2)

pub reach_same : (f g : FuncState) → Alike f g → (u : Reach) → SameReach f g u u
reach_same f g s (Span r from len) = refl
reach_same f g s (Called args other hidden) = (args, refl, λ b. (lead f g s args b, lead g f (alike_back f g s) args b))

known : (f g : FuncState) → Both f g → (b : Base) → IsKnown f b → IsKnown g b
known f g s (AllocaBase l) h = (s.captured l).0 h
known f g s (ArgumentBase l) h = argument_alike f g s.alike l h
known f g s (ObjectBase n) h = h
known f g s Outside h = h
known f g s Hidden h = h

reached : (f g : FuncState) → Both f g → (u v : Reach) → SameReach f g u v → (b : Base) → IsReached f u b → IsReached g v b
reached f g s (Span r from len) v e b h = subst (λ (w : Reach). IsReached g w b) (sym e) (base_alike f g s.alike r b h)
reached f g s (Called args other hidden) v e b h = subst (λ (w : Reach). IsReached g w b) (sym e.1) (of h) where
  of : IsReached f (Called args other hidden) b → IsReached g (Called e.0 other hidden) b
  of (inl a) = inl ((e.2 b).0 a)
  of (inr (inl k)) = inr (inl (k.0, known f g s b k.1))
  of (inr (inr k)) = inr (inr k)

fixed : (f g : FuncState) → Alike f g → (r : Root) → IsFixed f r → IsFixed g r
fixed f g s r h = λ t. h (turning_alike g f (alike_back f g s) r t)

one_root : (f g : FuncState) → Alike f g → (u v w x : Reach) → SameReach f g u w → SameReach f g v x → HaveOneRoot f u v → HaveOneRoot g w x
one_root f g s (Span r from len) (Span t at size) w x d e h =
    subst (λ (y : Reach). HaveOneRoot g y x) (sym d) (subst (HaveOneRoot g (Span r from len)) (sym e) (h.0, fixed f g s r h.1))
one_root f g s (Span r from len) (Called args other hidden) w x d e h = absurd h
one_root f g s (Called args other hidden) v w x d e h = absurd h

one_root_back : (f g : FuncState) → Alike f g → (u v w x : Reach) → SameReach f g u w → SameReach f g v x → HaveOneRoot g w x → HaveOneRoot f u v
one_root_back f g s (Span r from len) (Span t at size) w x d e h =
    let k : HaveOneRoot g (Span r from len) (Span t at size) = subst (HaveOneRoot g (Span r from len)) e (subst (λ (y : Reach). HaveOneRoot g y x) d h) in
    (k.0, fixed g f (alike_back f g s) r k.1)
one_root_back f g s (Span r from len) (Called args other hidden) w x d e h = absurd (subst (HaveOneRoot g (Span r from len)) e.1 (subst (λ (y : Reach). HaveOneRoot g y x) d h))
one_root_back f g s (Called args other hidden) v w x d e h = absurd (subst (λ (y : Reach). HaveOneRoot g y x) d.1 h)

are_one : (f g : FuncState) (u v w x : Reach) → SameReach f g u w → SameReach f g v x → AreOneRoot u v → AreOneRoot w x
are_one f g (Span r from len) (Span t at size) w x d e h = subst (λ (y : Reach). AreOneRoot y x) (sym d) (subst (AreOneRoot (Span r from len)) (sym e) h)
are_one f g (Span r from len) (Called args other hidden) w x d e h = absurd h
are_one f g (Called args other hidden) v w x d e h = absurd h

are_one_back : (f g : FuncState) (u v w x : Reach) → SameReach f g u w → SameReach f g v x → AreOneRoot w x → AreOneRoot u v
are_one_back f g (Span r from len) (Span t at size) w x d e h = subst (AreOneRoot (Span r from len)) e (subst (λ (y : Reach). AreOneRoot y x) d h)
are_one_back f g (Span r from len) (Called args other hidden) w x d e h = absurd (subst (AreOneRoot (Span r from len)) e.1 (subst (λ (y : Reach). AreOneRoot y x) d h))
are_one_back f g (Called args other hidden) v w x d e h = absurd (subst (λ (y : Reach). AreOneRoot y x) d.1 h)

share : (f g : FuncState) (u v w x : Reach) → SameReach f g u w → SameReach f g v x → ShareByte u v → ShareByte w x
share f g (Span r from len) (Span t at size) w x d e h = subst (λ (y : Reach). ShareByte y x) (sym d) (subst (ShareByte (Span r from len)) (sym e) h)
share f g (Span r from len) (Called args other hidden) w x d e h = absurd h
share f g (Called args other hidden) v w x d e h = absurd h

has_length : (f g : FuncState) (u w : Reach) → SameReach f g u w → HasLength u → HasLength w
has_length f g (Span r from len) w e h = subst HasLength (sym e) h
has_length f g (Called args other hidden) w e h = subst HasLength (sym e.1) tt

meet : (f g : FuncState) → Both f g → (u v w x : Reach) → SameReach f g u w → SameReach f g v x → Meet f u v → Meet g w x
meet f g s u v w x d e (inl h) = inl (one_root f g s.alike u v w x d e h.0, share f g u v w x d e h.1)
meet f g s u v w x d e (inr h) =
    let b = h.3 in
    inr (
      λ k. h.0 (one_root_back f g s.alike u v w x d e k),
      has_length f g u w d h.1,
      has_length f g v x e h.2,
      (b.0, b.1, reached f g s u w d b.0 b.2, reached f g s v x e b.1 b.3, b.4),
    )

meet_in_turn : (f g : FuncState) → Both f g → (u v w x : Reach) → SameReach f g u w → SameReach f g v x → MeetInTurn f u v → MeetInTurn g w x
meet_in_turn f g s u v w x d e (inl h) = inl (are_one f g u v w x d e h.0, share f g u v w x d e h.1)
meet_in_turn f g s u v w x d e (inr h) = inr ((λ k. h.0 (are_one_back f g u v w x d e k)), meet f g s u v w x d e h.1)

-- the instruction writes, or reads, the same as another in the other function
abbrev pub WritesAlike : FuncState → FuncState → Inst → Inst → Type 0
WritesAlike f g p q = (u : Reach) → IsWritten f p u → (v : Reach) × IsWritten g q v × SameReach f g u v

abbrev pub ReadsAlike : FuncState → FuncState → Inst → Inst → Type 0
ReadsAlike f g p q = (u : Reach) → IsRead f p u → (v : Reach) × IsRead g q v × SameReach f g u v

pub span_kept : (f g : FuncState) → Alike f g → (v : Val) (len : ℕ) (u : Reach) → IsSpan f v len u → IsSpan g v len u
span_kept f g s v len u h = (h.0, h.1, h.2, h.3, root_alike f g s h.0 h.2 h.3 h.4, h.5)

written_kept : (f g : FuncState) → Alike f g → (p : Inst) (u : Reach) → IsWritten f p u → IsWritten g p u
written_kept f g s (Store ty val ptr tail) u h = span_kept f g s ptr _ u h
written_kept f g s (Copy to from len head tail) u h = span_kept f g s to.val len u h
written_kept f g s (Call callee ret args effects head tail) u h = h
written_kept f g s (AllocaInst size head tail) u h = h
written_kept f g s (Gep base offset head index tail) u h = h
written_kept f g s (StepInst base offset terms head index tail) u h = h
written_kept f g s (Load ty ptr tail) u h = h
written_kept f g s (Bin op flags ty a b tail) u h = h
written_kept f g s (Cmp pred flags ty a b tail) u h = h
written_kept f g s (Select cond ty a b tail) u h = h
written_kept f g s (Cast op flags from a to tail) u h = h
written_kept f g s (Phi ty entries tail) u h = h

read_kept : (f g : FuncState) → Alike f g → (p : Inst) (u : Reach) → IsRead f p u → IsRead g p u
read_kept f g s (Load ty ptr tail) u h = span_kept f g s ptr _ u h
read_kept f g s (Copy to from len head tail) u h = span_kept f g s from.val len u h
read_kept f g s (Call callee ret args effects head tail) u h = h
read_kept f g s (AllocaInst size head tail) u h = h
read_kept f g s (Gep base offset head index tail) u h = h
read_kept f g s (StepInst base offset terms head index tail) u h = h
read_kept f g s (Store ty val ptr tail) u h = h
read_kept f g s (Bin op flags ty a b tail) u h = h
read_kept f g s (Cmp pred flags ty a b tail) u h = h
read_kept f g s (Select cond ty a b tail) u h = h
read_kept f g s (Cast op flags from a to tail) u h = h
read_kept f g s (Phi ty entries tail) u h = h

pub writes_same : (f g : FuncState) → Alike f g → (p : Inst) → WritesAlike f g p p
writes_same f g s p u h = (u, written_kept f g s p u h, reach_same f g s u)

pub reads_same : (f g : FuncState) → Alike f g → (p : Inst) → ReadsAlike f g p p
reads_same f g s p u h = (u, read_kept f g s p u h, reach_same f g s u)

-- each instruction of the number has such a one in the other function
abbrev pub Finds : FuncState → FuncState → (Inst → Inst → Type 0) → ℕ → Type 0
Finds f g P n = (b place : ℕ) (x : Placed) → IsAt f.blocks n b place x → (c : ℕ) × (k : ℕ) × (y : Placed) × IsAt g.blocks n c k y × P x.inst y.inst

abbrev pub FindsLoc : FuncState → FuncState → Loc → Type 0
FindsLoc f g (Bytes root from len) = Unit {0}
FindsLoc f g (ReadBy j) = Finds f g (ReadsAlike f g) j.0

reach_of : (f g : FuncState) → Alike f g → (loc : Loc) → FindsLoc f g loc → (v : Reach) → IsReachOf f loc v → (x : Reach) × IsReachOf g loc x × SameReach f g v x
reach_of f g s (Bytes root from len) t v h = (v, h, reach_same f g s v)
reach_of f g s (ReadBy j) t v h =
    let y = t h.0 h.1 h.2 h.3 in
    let r = y.4 v h.4 in
    (r.0, (y.0, y.1, y.2, y.3, r.1), r.2)

pub may_write_kept : (f g : FuncState) → Both f g → (i : ℕ) (loc : Loc) → Finds f g (WritesAlike f g) i → FindsLoc f g loc → MayWrite f i loc → MayWrite g i loc
may_write_kept f g s i loc t l h =
    let y = t h.0 h.1 h.2 h.3 in
    let w = y.4 h.4 h.6 in
    let v = reach_of f g s.alike loc l h.5 h.7 in
    (y.0, y.1, y.2, y.3, w.0, v.0, w.1, v.1, meet f g s h.4 h.5 w.0 v.0 w.2 v.2 h.8)

pub in_turn_kept : (f g : FuncState) → Both f g → (i : ℕ) (loc : Loc) → Finds f g (WritesAlike f g) i → FindsLoc f g loc → MayWriteInTurn f i loc → MayWriteInTurn g i loc
in_turn_kept f g s i loc t l h =
    let y = t h.0 h.1 h.2 h.3 in
    let w = y.4 h.4 h.6 in
    let v = reach_of f g s.alike loc l h.5 h.7 in
    (y.0, y.1, y.2, y.3, w.0, v.0, w.1, v.1, meet_in_turn f g s h.4 h.5 w.0 v.0 w.2 v.2 h.8)

pub may_read_kept : (f g : FuncState) → Both f g → (i : ℕ) (loc : Loc) → Finds f g (ReadsAlike f g) i → FindsLoc f g loc → MayRead f i loc → MayRead g i loc
may_read_kept f g s i loc t l h =
    let y = t h.0 h.1 h.2 h.3 in
    let w = y.4 h.4 h.6 in
    let v = reach_of f g s.alike loc l h.5 h.7 in
    (y.0, y.1, y.2, y.3, w.0, v.0, w.1, v.1, meet f g s h.4 h.5 w.0 v.0 w.2 v.2 h.8)

-- what makes a local is found in the other function
abbrev pub FindsMakers : FuncState → FuncState → Type 0
FindsMakers f g = (l : LocalNo) (q b k : ℕ) (x : Placed) → IsAt f.blocks q b k x → makes l x ≡ true → (c : ℕ) × (j : ℕ) × (y : Placed) × IsAt g.blocks q c j y × (makes l y ≡ true)

turned : (f g : FuncState) → Alike f g → FindsMakers f g → (r : Root) (q : ℕ) → IsTurnedBy f r q → IsTurnedBy g r q
turned f g s m (Local l) q h = let y = m l q h.1 h.2 h.3 h.4 h.5 in (turning_alike f g s (Local l) h.0, y.0, y.1, y.2, y.3, y.4)
turned f g s m (Global n) q h = h

pub pointers_both : (f g : FuncState) → Both f g → FindsMakers f g → FindsMakers g f → SamePointers f g
pointers_both f g s m n =
    let b = alike_back f g s.alike in
    record {
      roots = λ p r o. (root_alike f g s.alike p r o, root_alike g f b p r o);
      bases = λ p c. (base_alike f g s.alike p c, base_alike g f b p c);
      turning = λ r. (turning_alike f g s.alike r, turning_alike g f b r);
      turned = λ r q. (turned f g s.alike m r q, turned g f b n r q);
      captured = s.captured;
    }

-- ---- the same instructions

abbrev pub RootsStay : FuncState → FuncState → Type 0
RootsStay f g = (p r : Root) (o : ℤ) → HasRoot f p r o → HasRoot g p r o

pub loc_read_by : (f g : FuncState) → RootsStay f g → (i : InstNo) (p : Inst) (loc : Loc) → IsLocRead f i p loc → IsLocRead g i p loc
loc_read_by f g s i (Load ty ptr tail) loc h = (h.0, h.1, h.2, h.3, s h.0 h.2 h.3 h.4, h.5)
loc_read_by f g s i (Copy to from len head tail) loc h = (h.0, h.1, h.2, h.3, s h.0 h.2 h.3 h.4, h.5)
loc_read_by f g s i (Call callee ret args effects head tail) loc h = h
loc_read_by f g s i (AllocaInst size head tail) loc h = h
loc_read_by f g s i (Gep base offset head index tail) loc h = h
loc_read_by f g s i (StepInst base offset terms head index tail) loc h = h
loc_read_by f g s i (Store ty val ptr tail) loc h = h
loc_read_by f g s i (Bin op flags ty a b tail) loc h = h
loc_read_by f g s i (Cmp pred flags ty a b tail) loc h = h
loc_read_by f g s i (Select cond ty a b tail) loc h = h
loc_read_by f g s i (Cast op flags from a to tail) loc h = h
loc_read_by f g s i (Phi ty entries tail) loc h = h

pub loc_written_by : (f g : FuncState) → RootsStay f g → (p : Inst) (loc : Loc) → IsLocWritten f p loc → IsLocWritten g p loc
loc_written_by f g s (Store ty val ptr tail) loc h = (h.0, h.1, h.2, h.3, s h.0 h.2 h.3 h.4, h.5)
loc_written_by f g s (Copy to from len head tail) loc h = (h.0, h.1, h.2, h.3, s h.0 h.2 h.3 h.4, h.5)
loc_written_by f g s (Load ty ptr tail) loc h = h
loc_written_by f g s (Call callee ret args effects head tail) loc h = h
loc_written_by f g s (AllocaInst size head tail) loc h = h
loc_written_by f g s (Gep base offset head index tail) loc h = h
loc_written_by f g s (StepInst base offset terms head index tail) loc h = h
loc_written_by f g s (Bin op flags ty a b tail) loc h = h
loc_written_by f g s (Cmp pred flags ty a b tail) loc h = h
loc_written_by f g s (Select cond ty a b tail) loc h = h
loc_written_by f g s (Cast op flags from a to tail) loc h = h
loc_written_by f g s (Phi ty entries tail) loc h = h

pub loc_read : (f g : FuncState) → Alike f g → (i : InstNo) (p : Inst) (loc : Loc) → IsLocRead f i p loc → IsLocRead g i p loc
loc_read f g s = loc_read_by f g (root_alike f g s)

pub loc_written : (f g : FuncState) → Alike f g → (p : Inst) (loc : Loc) → IsLocWritten f p loc → IsLocWritten g p loc
loc_written f g s = loc_written_by f g (root_alike f g s)

pub insts_back : (f g : FuncState) → SameInsts f g → SameInsts g f
insts_back f g s y = ((s y).1, (s y).0)

moved_at : (f g : FuncState) → SameInsts f g → (n b place : ℕ) (x : Placed) → IsAt f.blocks n b place x → (c : ℕ) × (k : ℕ) × IsAt g.blocks n c k x
moved_at f g s n b place x at =
    let r = (s x).0 (b, place, at.found) in
    (r.0, r.1, record { block = within g.blocks r.0 r.1 x r.2; found = r.2; numbered = at.numbered })

captured_moved : (f g : FuncState) → Alike f g → SameInsts f g → (l : LocalNo) → IsCaptured f l → IsCaptured g l
captured_moved f g s t l h =
    let r = (t h.2).0 (h.0, h.1, h.3) in
    let k = h.4 in
    (r.0, r.1, h.2, r.2, (k.0, k.1, k.2, val_base f g s k.0.val (AllocaBase l) k.3))

pub both_moved : (f g : FuncState) → Alike f g → SameInsts f g → Both f g
both_moved f g s t = record { alike = s; captured = λ l. (captured_moved f g s t l, captured_moved g f (alike_back f g s) (insts_back f g t) l) }

pub makers_moved : (f g : FuncState) → SameInsts f g → FindsMakers f g
makers_moved f g s l q b k x at e = let r = moved_at f g s q b k x at in (r.0, r.1, x, r.2, e)

finds_writes : (f g : FuncState) → Alike f g → SameInsts f g → (i : ℕ) → Finds f g (WritesAlike f g) i
finds_writes f g s t i b place x at = let r = moved_at f g t i b place x at in (r.0, r.1, x, r.2, writes_same f g s x.inst)

finds_reads : (f g : FuncState) → Alike f g → SameInsts f g → (i : ℕ) → Finds f g (ReadsAlike f g) i
finds_reads f g s t i b place x at = let r = moved_at f g t i b place x at in (r.0, r.1, x, r.2, reads_same f g s x.inst)

finds_loc : (f g : FuncState) → Alike f g → SameInsts f g → (loc : Loc) → FindsLoc f g loc
finds_loc f g s t (Bytes root from len) = tt
finds_loc f g s t (ReadBy j) = finds_reads f g s t j.0

pub writes_between : (f g : FuncState) → Both f g → (i : ℕ) (loc : Loc) → Finds f g (WritesAlike f g) i → FindsLoc f g loc → Finds g f (WritesAlike g f) i → FindsLoc g f loc → SameWrites f g i loc
writes_between f g s i loc t u v w = record {
  at_all = (may_write_kept f g s i loc t u, may_write_kept g f (both_back f g s) i loc v w);
  in_turn = (in_turn_kept f g s i loc t u, in_turn_kept g f (both_back f g s) i loc v w);
}

pub reads_between : (f g : FuncState) → Both f g → (i : ℕ) (loc : Loc) → Finds f g (ReadsAlike f g) i → FindsLoc f g loc → Finds g f (ReadsAlike g f) i → FindsLoc g f loc → SameReads f g i loc
reads_between f g s i loc t u v w = (may_read_kept f g s i loc t u, may_read_kept g f (both_back f g s) i loc v w)

pub writes_same_insts : (f g : FuncState) → Alike f g → SameInsts f g → (i : ℕ) (loc : Loc) → SameWrites f g i loc
writes_same_insts f g s t i loc =
    let z = alike_back f g s in
    let u = insts_back f g t in
    writes_between f g (both_moved f g s t) i loc (finds_writes f g s t i) (finds_loc f g s t loc) (finds_writes g f z u i) (finds_loc g f z u loc)

pub reads_same_insts : (f g : FuncState) → Alike f g → SameInsts f g → (i : ℕ) (loc : Loc) → SameReads f g i loc
reads_same_insts f g s t i loc =
    let z = alike_back f g s in
    let u = insts_back f g t in
    reads_between f g (both_moved f g s t) i loc (finds_reads f g s t i) (finds_loc f g s t loc) (finds_reads g f z u i) (finds_loc g f z u loc)

reads_moved : (f g : FuncState) → Alike f g → SameInsts f g → (i : InstNo) (loc : Loc) → ReadsLoc f i loc → ReadsLoc g i loc
reads_moved f g s t i loc h = let r = moved_at f g t i.0 h.0 h.1 h.2 h.3 in (r.0, r.1, h.2, r.2, loc_read f g s i h.2.inst loc h.4)

writes_moved : (f g : FuncState) → Alike f g → SameInsts f g → (i : InstNo) (loc : Loc) → WritesLoc f i loc → WritesLoc g i loc
writes_moved f g s t i loc h = let r = moved_at f g t i.0 h.0 h.1 h.2 h.3 in (r.0, r.1, h.2, r.2, loc_written f g s h.2.inst loc h.4)

pub locs_moved : (f g : FuncState) → Alike f g → SameInsts f g → (i : InstNo) → SameLocs f g i
locs_moved f g s t i =
    let z = alike_back f g s in
    let u = insts_back f g t in
    record {
      reads = λ loc. (reads_moved f g s t i loc, reads_moved g f z u i loc);
      writes = λ loc. (writes_moved f g s t i loc, writes_moved g f z u i loc);
    }
