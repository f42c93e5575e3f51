-- Roots of pointers.
use Rattle.std.proofs.Common.{◌≡◌, ℕ, zero, suc, ℤ, pos, ◌+ℤ◌, Bool, true, List, Option, Some, None, refl, sym, ap, ◌∙◌, subst, inl}
use Rattle.ms_ir.specs.declared.names.GlobalNo.{GlobalNo}
use Rattle.ms_ir.specs.declared.inst.Val.{Val}
use Rattle.ms_ir.specs.declared.inst.Inst.{Inst}
use Rattle.ms_ir.specs.declared.inst.Inst.TheVariants.{Load, Store, Copy, Call}
use Rattle.ms_ir.specs.Func.{FuncState}
use Rattle.ms_meaning.specs.Values.{size_of}
use Rattle.ms_alias.specs.declared.loc.Root.{Root}
use Rattle.ms_alias.specs.declared.loc.Root.TheVariants.{Local, Global}
use Rattle.ms_alias.specs.declared.origins.Origin.{Origin}
use Rattle.ms_alias.specs.Roots.{Step, pointer_of, IsRootAfter, HasRoot, IsTurning}
use Rattle.ms_alias.specs.Reaches.{Reach, Span, IsSpan, IsRead, IsWritten}
use Rattle.ms_alias.specs.Tables.{origin_of, origin_in, val_origin, span_at, read_reach, write_reach, is_turning, IsOrigins, IsTurnings}

-- a pointer has one root
pub root_once : (f : FuncState) (n m : ℕ) (p r s : Root) (a b : ℤ) → IsRootAfter f n p r a → IsRootAfter f m p s b → (r ≡ s) × (a ≡ b)
root_once f zero zero p r s a b h k = (sym h.0 ∙ k.0, h.1 ∙ sym k.1)
root_once f zero (suc m) p r s a b h k = absurd (k.0 h.2)
root_once f (suc n) zero p r s a b h k = absurd (h.0 k.2)
root_once f (suc n) (suc m) p r s a b h k =
    let same : Some h.1 ≡ Some k.1 = sym h.2 ∙ k.2 in
    let is : h.1 ≡ k.1 = cc in
    let rest = root_once f n m h.1.base r s h.3 k.3 h.4 (subst (λ (q : Step). IsRootAfter f m q.base s k.3) (sym is) k.4) in
    (rest.0, h.5 ∙ ap (λ (q : Step). q.bytes +ℤ h.3) is ∙ ap (λ z. k.1.bytes +ℤ z) rest.1 ∙ sym k.5)

pub one_root : (f : FuncState) (p r s : Root) (a b : ℤ) → HasRoot f p r a → HasRoot f p s b → (r ≡ s) × (a ≡ b)
one_root f p r s a b h k = root_once f h.0 k.0 p r s a b h.1 k.1

pub global_root : (f : FuncState) (g : GlobalNo) → HasRoot f (Global g) (Global g) (pos 0)
global_root f g = (zero, (refl, refl, inl refl))

pub origin_told : (f : FuncState) (origins : List Origin) → IsOrigins f origins → (p : Root) → HasRoot f p (origin_of origins p).root (origin_of origins p).offset
origin_told f origins o (Local l) = o.each l
origin_told f origins o (Global g) = global_root f g

pub turning_from : (f : FuncState) (turning : List Bool) → IsTurnings f turning → (r : Root) → is_turning turning r ≡ true → IsTurning f r
turning_from f turning t (Local l) e = (t.each l).0 e
turning_from f turning t (Global g) e = cc

pub turning_to : (f : FuncState) (turning : List Bool) → IsTurnings f turning → (r : Root) → IsTurning f r → is_turning turning r ≡ true
turning_to f turning t (Local l) e = (t.each l).1 e
turning_to f turning t (Global g) e = absurd e

span_in : (f : FuncState) (origins : List Origin) (v : Val) (len : ℕ) (u : Reach) → IsOrigins f origins → (o : Option Root) → pointer_of v ≡ o → span_at len (origin_in origins o) ≡ Some u → IsSpan f v len u
span_in f origins v len u is None p e = cc
span_in f origins v len u is (Some q) p e =
    let same : u ≡ Span (origin_of origins q).root (origin_of origins q).offset len = cc in
    (q, p, (origin_of origins q).root, (origin_of origins q).offset, origin_told f origins is q, same)

pub span_from : (f : FuncState) (origins : List Origin) (v : Val) (len : ℕ) (u : Reach) → IsOrigins f origins → span_at len (val_origin origins v) ≡ Some u → IsSpan f v len u
span_from f origins v len u is e = span_in f origins v len u is (pointer_of v) refl e

pub span_to : (f : FuncState) (origins : List Origin) (v : Val) (len : ℕ) (u : Reach) → IsOrigins f origins → IsSpan f v len u → span_at len (val_origin origins v) ≡ Some u
span_to f origins v len u is h =
    let o : Origin = origin_of origins h.0 in
    let one = one_root f h.0 o.root h.2 o.offset h.3 (origin_told f origins is h.0) h.4 in
    ap (λ q. span_at len (origin_in origins q)) h.1 ∙ ap (λ r. Some (Span r o.offset len)) one.0 ∙ ap (λ z. Some (Span h.2 z len)) one.1 ∙ ap Some (sym h.5)

pub read_from : (f : FuncState) (origins : List Origin) (inst : Inst) (u : Reach) → IsOrigins f origins → read_reach origins inst ≡ Some u → IsRead f inst u
read_from f origins (Load ty ptr tail) u is e = span_from f origins ptr (size_of ty) u is e
read_from f origins (Copy to from len head tail) u is e = span_from f origins from.val len u is e
read_from f origins (Call callee ret args effects head tail) u is e = cc
read_from f origins inst u is e = cc

pub read_to : (f : FuncState) (origins : List Origin) (inst : Inst) (u : Reach) → IsOrigins f origins → IsRead f inst u → read_reach origins inst ≡ Some u
read_to f origins (Load ty ptr tail) u is h = span_to f origins ptr (size_of ty) u is h
read_to f origins (Copy to from len head tail) u is h = span_to f origins from.val len u is h
read_to f origins (Call callee ret args effects head tail) u is h = ap Some (sym h)
read_to f origins inst u is h = absurd h

pub written_from : (f : FuncState) (origins : List Origin) (inst : Inst) (u : Reach) → IsOrigins f origins → write_reach origins inst ≡ Some u → IsWritten f inst u
written_from f origins (Store ty val ptr tail) u is e = span_from f origins ptr (size_of ty) u is e
written_from f origins (Copy to from len head tail) u is e = span_from f origins to.val len u is e
written_from f origins (Call callee ret args effects head tail) u is e = cc
written_from f origins inst u is e = cc

pub written_to : (f : FuncState) (origins : List Origin) (inst : Inst) (u : Reach) → IsOrigins f origins → IsWritten f inst u → write_reach origins inst ≡ Some u
written_to f origins (Store ty val ptr tail) u is h = span_to f origins ptr (size_of ty) u is h
written_to f origins (Copy to from len head tail) u is h = span_to f origins to.val len u is h
written_to f origins (Call callee ret args effects head tail) u is h = ap Some (sym h)
written_to f origins inst u is h = absurd h

-- a value leads to one range of so many bytes
one_span : (f : FuncState) (v : Val) (len : ℕ) (u w : Reach) → IsSpan f v len u → IsSpan f v len w → u ≡ w
one_span f v len u w h k =
    let same : Some h.0 ≡ Some k.0 = sym h.1 ∙ k.1 in
    let is : h.0 ≡ k.0 = cc in
    let one = one_root f k.0 h.2 k.2 h.3 k.3 (subst (λ p. HasRoot f p h.2 h.3) is h.4) k.4 in
    h.5 ∙ ap (λ r. Span r h.3 len) one.0 ∙ ap (λ z. Span k.2 z len) one.1 ∙ sym k.5

-- an instruction reads one reach, and writes one
pub reach_read_once : (f : FuncState) (inst : Inst) (u w : Reach) → IsRead f inst u → IsRead f inst w → u ≡ w
reach_read_once f (Load ty ptr tail) u w h k = one_span f ptr (size_of ty) u w h k
reach_read_once f (Copy to from len head tail) u w h k = one_span f from.val len u w h k
reach_read_once f (Call callee ret args effects head tail) u w h k = h ∙ sym k
reach_read_once f inst u w h k = absurd h

pub reach_written_once : (f : FuncState) (inst : Inst) (u w : Reach) → IsWritten f inst u → IsWritten f inst w → u ≡ w
reach_written_once f (Store ty val ptr tail) u w h k = one_span f ptr (size_of ty) u w h k
reach_written_once f (Copy to from len head tail) u w h k = one_span f to.val len u w h k
reach_written_once f (Call callee ret args effects head tail) u w h k = h ∙ sym k
reach_written_once f inst u w h k = absurd h
