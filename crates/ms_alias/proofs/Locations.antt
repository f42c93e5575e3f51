-- One location at most.
use Rattle.std.proofs.Common.{◌≡◌, ℕ, ℤ, Some, sym, ap, ◌∙◌, subst}
use Rattle.std.specs.Prelude.{slice_get}
use Rattle.ms_ir.specs.declared.names.InstNo.{InstNo}
use Rattle.ms_ir.specs.declared.inst.Val.{Val}
use Rattle.ms_ir.specs.declared.inst.Inst.{Inst}
use Rattle.ms_ir.specs.declared.inst.Inst.TheVariants.{Load, Store, Copy, Call}
use Rattle.ms_ir.specs.Func.{Placed, FuncState, IsAt, insts_at}
use Rattle.ms_ir.specs.Locals.{IsNumbered}
use Rattle.ms_alias.specs.declared.loc.Root.{Root}
use Rattle.ms_alias.specs.declared.loc.Loc.{Loc}
use Rattle.ms_alias.specs.declared.loc.Loc.TheVariants.{Bytes}
use Rattle.ms_alias.specs.Roots.{pointer_of, HasRoot}
use Rattle.ms_alias.specs.Reaches.{IsLocRead, IsLocWritten, ReadsLoc, WritesLoc}
use Rattle.ms_alias.proofs.RootLemmas.{one_root}

abbrev IsBytes : FuncState → Val → ℕ → Loc → Type 0
IsBytes f v len loc = (p : Root) × (pointer_of v ≡ Some p) × (r : Root) × (from : ℤ) × HasRoot f p r from × (loc ≡ Bytes r from len)

one_bytes : (f : FuncState) (v : Val) (len : ℕ) (a b : Loc) → IsBytes f v len a → IsBytes f v len b → a ≡ b
one_bytes f v len a b h k =
    let same : Some h.0 ≡ Some k.0 = sym h.1 ∙ k.1 in
    let is : h.0 ≡ k.0 = cc in
    let one = one_root f h.0 h.2 k.2 h.3 k.3 h.4 (subst (λ p. HasRoot f p k.2 k.3) (sym is) k.4) in
    h.5 ∙ ap (λ r. Bytes r h.3 len) one.0 ∙ ap (λ z. Bytes k.2 z len) one.1 ∙ sym k.5

pub read_once : (f : FuncState) (i : InstNo) (inst : Inst) (a b : Loc) → IsLocRead f i inst a → IsLocRead f i inst b → a ≡ b
read_once f i (Load ty ptr tail) a b h k = one_bytes f ptr _ a b h k
read_once f i (Copy to from len head tail) a b h k = one_bytes f from.val len a b h k
read_once f i (Call callee ret args effects head tail) a b h k = h.1 ∙ sym k.1
read_once f i inst a b h k = absurd h

written_once : (f : FuncState) (inst : Inst) (a b : Loc) → IsLocWritten f inst a → IsLocWritten f inst b → a ≡ b
written_once f (Store ty val ptr tail) a b h k = one_bytes f ptr _ a b h k
written_once f (Copy to from len head tail) a b h k = one_bytes f to.val len a b h k
written_once f inst a b h k = absurd h

one_placed : (f : FuncState) → IsNumbered f → (n b c j k : ℕ) (x y : Placed) → IsAt f.blocks n b j x → IsAt f.blocks n c k y → x ≡ y
one_placed f num n b c j k x y p q =
    let one = num.one_place b j c k x y p.found q.found (p.numbered ∙ sym q.numbered) in
    let same : Some x ≡ Some y = sym p.found ∙ ap (λ d. slice_get (insts_at f.blocks d) j) one.0 ∙ ap (slice_get (insts_at f.blocks c)) one.1 ∙ q.found in
    cc

pub one_read : (f : FuncState) → IsNumbered f → (i : InstNo) (a b : Loc) → ReadsLoc f i a → ReadsLoc f i b → a ≡ b
one_read f num i a b h k =
    let same = one_placed f num i.0 h.0 k.0 h.1 k.1 h.2 k.2 h.3 k.3 in
    read_once f i h.2.inst a b h.4 (subst (λ (x : Placed). IsLocRead f i x.inst b) (sym same) k.4)

pub one_written : (f : FuncState) → IsNumbered f → (i : InstNo) (a b : Loc) → WritesLoc f i a → WritesLoc f i b → a ≡ b
one_written f num i a b h k =
    let same = one_placed f num i.0 h.0 k.0 h.1 k.1 h.2 k.2 h.3 k.3 in
    written_once f h.2.inst a b h.4 (subst (λ (x : Placed). IsLocWritten f x.inst b) (sym same) k.4)
