-- Locations that instructions read or write, as ranges of a root.
use Rattle.std.proofs.Common.{◌≡◌, ℕ, ℤ, Option, Some, None}
use Rattle.std.specs.Prelude.{◌↔◌}
use Rattle.ms_ir.specs.declared.names.InstNo.{InstNo}
use Rattle.ms_ir.specs.declared.inst.Inst.{Inst}
use Rattle.ms_ir.specs.declared.inst.Inst.TheVariants.{Load, Store, Copy, Call}
use Rattle.ms_ir.specs.Func.{Placed, FuncState, IsAt}
use Rattle.ms_alias.specs.declared.loc.Root.{Root}
use Rattle.ms_alias.specs.declared.loc.Loc.{Loc}
use Rattle.ms_alias.specs.declared.loc.Loc.TheVariants.{Bytes}
use Rattle.ms_alias.specs.Reaches.{Span as RootSpan, IsRead, IsWritten, IsLocRead, IsLocWritten, ReadsLoc, WritesLoc}
use Rattle.ms_alias.specs.Meeting.{MayRead, MustWrite}
use Rattle.ms_effects.specs.declared.effect.Span.{Span}
use Rattle.ms_effects.specs.Effects.{IsRangeOf}

as_bytes : (r s : Root) (a b : ℤ) (m n : ℕ) → RootSpan r a m ≡ RootSpan s b n → Bytes r a m ≡ Bytes s b n
as_bytes r s a b m n e = cc

as_span : (r s : Root) (a b : ℤ) (m n : ℕ) → Bytes r a m ≡ Bytes s b n → RootSpan r a m ≡ RootSpan s b n
as_span r s a b m n e = cc

-- The range that is read is the location that is read, and so with what is written.
pub read_as_loc : (f : FuncState) (i : InstNo) (inst : Inst) (r : Root) (at : ℤ) (n : ℕ) → IsRead f inst (RootSpan r at n) → IsLocRead f i inst (Bytes r at n)
read_as_loc f i (Load ty ptr tail) r at n h = (h.0, h.1, h.2, h.3, h.4, as_bytes _ _ _ _ _ _ h.5)
read_as_loc f i (Copy to from len head tail) r at n h = (h.0, h.1, h.2, h.3, h.4, as_bytes _ _ _ _ _ _ h.5)
read_as_loc f i (Call callee ret args effects head tail) r at n h = absurd (cc)
read_as_loc f i inst r at n h = absurd h

pub read_as_span : (f : FuncState) (i : InstNo) (inst : Inst) (r : Root) (at : ℤ) (n : ℕ) → IsLocRead f i inst (Bytes r at n) → IsRead f inst (RootSpan r at n)
read_as_span f i (Load ty ptr tail) r at n h = (h.0, h.1, h.2, h.3, h.4, as_span _ _ _ _ _ _ h.5)
read_as_span f i (Copy to from len head tail) r at n h = (h.0, h.1, h.2, h.3, h.4, as_span _ _ _ _ _ _ h.5)
read_as_span f i (Call callee ret args effects head tail) r at n h = absurd (cc)
read_as_span f i inst r at n h = absurd h

pub written_as_loc : (f : FuncState) (inst : Inst) (r : Root) (at : ℤ) (n : ℕ) → IsWritten f inst (RootSpan r at n) → IsLocWritten f inst (Bytes r at n)
written_as_loc f (Store ty val ptr tail) r at n h = (h.0, h.1, h.2, h.3, h.4, as_bytes _ _ _ _ _ _ h.5)
written_as_loc f (Copy to from len head tail) r at n h = (h.0, h.1, h.2, h.3, h.4, as_bytes _ _ _ _ _ _ h.5)
written_as_loc f (Call callee ret args effects head tail) r at n h = absurd (cc)
written_as_loc f inst r at n h = absurd h

pub written_as_span : (f : FuncState) (inst : Inst) (r : Root) (at : ℤ) (n : ℕ) → IsLocWritten f inst (Bytes r at n) → IsWritten f inst (RootSpan r at n)
written_as_span f (Store ty val ptr tail) r at n h = (h.0, h.1, h.2, h.3, h.4, as_span _ _ _ _ _ _ h.5)
written_as_span f (Copy to from len head tail) r at n h = (h.0, h.1, h.2, h.3, h.4, as_span _ _ _ _ _ _ h.5)
written_as_span f inst r at n h = absurd h

-- of a root through which an instruction reads no range it may read each byte or none
abbrev pub AreAllOrNone : FuncState → Type 0
AreAllOrNone f = (i b place : ℕ) (x : Placed) → IsAt f.blocks i b place x → (r : Root) → ((from : ℤ) (len : ℕ) → IsRead f x.inst (RootSpan r from len) → ⊥) →
    (j k : ℤ) → MayRead f i (Bytes r j 1) → MayRead f i (Bytes r k 1)

no_range : (found : Option Span) (loc : Option Loc) (r : Root) → IsRangeOf found loc r → found ≡ None → (from : ℤ) (len : ℕ) → loc ≡ Some (Bytes r from len) → ⊥
no_range found loc r range none from len e = let some = (range from len).1 e in absurd (cc)

-- where what is read is no range of the root, each byte may be read or none
pub other_bytes : (f : FuncState) (i : InstNo) (r : Root) → AreAllOrNone f → (found : Option Span) (loc : Option Loc) → IsRangeOf found loc r → ((l : Loc) → (loc ≡ Some l) ↔ ReadsLoc f i l) →
    found ≡ None → (j k : ℤ) → MayRead f i.0 (Bytes r j 1) → MayRead f i.0 (Bytes r k 1)
other_bytes f i r law found loc range told none j k h =
    law i.0 h.0 h.1 h.2 h.3 r (λ from len read. no_range found loc r range none from len ((told (Bytes r from len)).1 (h.0, h.1, h.2, h.3, read_as_loc f i h.2.inst r from len read))) j k h

-- where what is written is no range of the root, no byte must be written
pub none_written : (f : FuncState) (i : InstNo) (r : Root) (found : Option Span) (loc : Option Loc) → IsRangeOf found loc r → ((l : Loc) → (loc ≡ Some l) ↔ WritesLoc f i l) →
    found ≡ None → (k : ℤ) → MustWrite f i.0 r k → ⊥
none_written f i r found loc range told none k h =
    no_range found loc r range none h.5 h.6 ((told (Bytes r h.5 h.6)).1 (h.0, h.1, h.2, h.3, written_as_loc f h.2.inst r h.5 h.6 h.7))
