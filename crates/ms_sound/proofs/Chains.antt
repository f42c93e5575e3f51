-- Chains of getelementptrs that end, and the bases along them.
use Rattle.std.proofs.Common.{◌≡◌, ◌∙◌, ◌<◌, ◌≤◌, ℕ, zero, suc, ℤ, pos, ◌+ℤ◌, List, [], ◌∷◌, Option, Some, None, refl, sym, ap, subst, inl, ⊎_elim, arith}
use Rattle.std.specs.Prelude.{Contains}
use Rattle.ms_ir.specs.declared.inst.Val.{Val}
use Rattle.ms_ir.specs.declared.inst.Inst.{Inst}
use Rattle.ms_ir.specs.declared.inst.Inst.TheVariants.{Alloca, Gep, Step as StepInst, Load, Store, Copy, Call, Bin, Cmp, Select, Cast, Phi}
use Rattle.ms_ir.specs.Func.{FuncState}
use Rattle.ms_alias.specs.declared.loc.Root.{Root}
use Rattle.ms_alias.specs.declared.loc.Root.TheVariants.{Local, Global}
use Rattle.ms_alias.specs.Roots.{Maker, Step, maker_of, pointer_of, step_by, step_in, step_by_maker, step_of, IsRing, IsRootAfter, HasRoot}
use Rattle.ms_alias.specs.Bases.{Base, HasBase, leads_of, leads_in, sources_in, pointers_in, with_pointer}
use Rattle.ms_alias.proofs.Rings.{no_ring}
use Rattle.ms_alias.proofs.Cuts.{with_more}

-- n getelementptrs lead back from p to r, which no getelementptr makes, and their bytes make up this sum
abbrev pub Ends : FuncState → ℕ → Root → Root → ℤ → Type 0
Ends f zero p r sum = (p ≡ r) × (sum ≡ pos 0) × (step_of f p ≡ None)
Ends f (suc n) p r sum = (s : Step) × (step_of f p ≡ Some s) × (rest : ℤ) × Ends f n s.base r rest × (sum ≡ (s.bytes +ℤ rest))

ends_once : (f : FuncState) (n m : ℕ) (p q r : Root) (a b : ℤ) → Ends f n p q a → Ends f m p r b → n ≡ m
ends_once f zero zero p q r a b h k = refl
ends_once f zero (suc m) p q r a b h k = let x : None ≡ Some k.0 = sym h.2 ∙ k.1 in cc
ends_once f (suc n) zero p q r a b h k = let x : None ≡ Some h.0 = sym k.2 ∙ h.1 in cc
ends_once f (suc n) (suc m) p q r a b h k =
    let same : Some h.0 ≡ Some k.0 = sym h.1 ∙ k.1 in
    let is : h.0 ≡ k.0 = cc in
    ap suc (ends_once f n m h.0.base q r h.2 k.2 h.3 (subst (λ (s : Step). Ends f m s.base r k.2) (sym is) k.3))

-- from a pointer a chain of n at most ends
abbrev EndsWithin : FuncState → ℕ → Root → Type 0
EndsWithin f n p = (m : ℕ) × (m ≤ n) × (r : Root) × (sum : ℤ) × Ends f m p r sum

ends_on : (f : FuncState) (n : ℕ) (p r : Root) (sum : ℤ) (s : Step) → Ends f (suc n) p r sum → step_of f p ≡ Some s → EndsWithin f n s.base
ends_on f n p r sum s h e =
    let same : Some h.0 ≡ Some s = sym h.1 ∙ e in
    let is : h.0 ≡ s = cc in
    (n, omega arith, r, h.2, subst (λ (s : Step). Ends f n s.base r h.2) is h.3)

within_on : (f : FuncState) (n : ℕ) (p : Root) (s : Step) → EndsWithin f n p → step_of f p ≡ Some s → EndsWithin f n s.base
within_on f n p s (zero, le, r, sum, h) e = let x : None ≡ Some s = sym h.2 ∙ e in cc
within_on f n p s (suc m, le, r, sum, h) e = let more = ends_on f m p r sum s h e in (more.0, (let a : more.0 ≤ m = more.1 in omega arith), more.2, more.3, more.4)

-- such a chain is in no ring
not_ring : (f : FuncState) (n : ℕ) (p r : Root) (sum : ℤ) → Ends f (suc n) p r sum → IsRing f p → ⊥
not_ring f n p r sum h =
    no_ring f (EndsWithin f n) p
    (λ q s known e.
    ⊎_elim
    (λ (is : q ≡ p). ends_on f n p r sum s h (subst (λ x. step_of f x ≡ Some s) is e))
    (λ (k : EndsWithin f n q). within_on f n q s k e)
    known)
    (λ k. let one = ends_once f (suc n) k.0 p r k.2 sum k.3 h k.4 in let le : k.0 ≤ n = k.1 in omega arith)

root_after : (f : FuncState) (n : ℕ) (p r : Root) (sum : ℤ) → Ends f n p r sum → IsRootAfter f n p r sum
root_after f zero p r sum h = (h.0, h.1, inl h.2)
root_after f (suc n) p r sum h = (
  (λ end. ⊎_elim (λ (none : step_of f p ≡ None). let x : None ≡ Some h.0 = sym none ∙ h.1 in cc) (λ (ring : IsRing f p). not_ring f n p r sum h ring) end),
  h.0,
  h.1,
  h.2,
  root_after f n h.0.base r h.2 h.3,
  h.4,
)

pub ends_root : (f : FuncState) (n : ℕ) (p r : Root) (sum : ℤ) → Ends f n p r sum → HasRoot f p r sum
ends_root f n p r sum h = (n, root_after f n p r sum h)

-- a pointer among some values
with_here : (o : Option Root) (ps : List Root) (p : Root) → o ≡ Some p → Contains (with_pointer o ps) p
with_here None ps p e = cc
with_here (Some q) ps p e = (zero, omega arith, (let is : q ≡ p = cc in is))

pub val_lead : (vs : List Val) (v : Val) (p : Root) → Contains vs v → pointer_of v ≡ Some p → Contains (pointers_in vs) p
val_lead [] v p (k, lt, is) e = absurd (let l : k < 0 = lt in omega arith)
val_lead (w ∷ ws) v p (zero, lt, is) e = with_here (pointer_of w) (pointers_in ws) p (ap pointer_of is ∙ e)
val_lead (w ∷ ws) v p (suc k, lt, is) e = with_more (pointer_of w) (pointers_in ws) p (val_lead ws v p (k, omega arith, is) e)

gep_lead : (bytes : ℤ) (o : Option Root) (s : Step) → step_by bytes o ≡ Some s → Contains (with_pointer o []) s.base
gep_lead bytes None s e = cc
gep_lead bytes (Some p) s e = with_here (Some p) [] s.base (let same : record { base = p; bytes = bytes } ≡ s = cc in ap (λ (t : Step). Some t.base) same)

inst_lead : (inst : Inst) (s : Step) → step_in inst ≡ Some s → Contains (pointers_in (sources_in inst)) s.base
inst_lead (Gep base offset head index tail) s e = gep_lead offset (pointer_of base) s e
inst_lead (StepInst base offset terms head index tail) s e = cc
inst_lead (Alloca size head tail) s e = cc
inst_lead (Load ty ptr tail) s e = cc
inst_lead (Store ty val ptr tail) s e = cc
inst_lead (Copy to from len head tail) s e = cc
inst_lead (Call callee ret args effects head tail) s e = cc
inst_lead (Bin op flags ty a b tail) s e = cc
inst_lead (Cmp pred flags ty a b tail) s e = cc
inst_lead (Select cond ty a b tail) s e = cc
inst_lead (Cast op flags from a to tail) s e = cc
inst_lead (Phi ty entries tail) s e = cc

maker_lead : (o : Option Maker) (s : Step) → step_by_maker o ≡ Some s → Contains (leads_in o) s.base
maker_lead None s e = cc
maker_lead (Some m) s e = inst_lead m.inst s e

step_lead : (f : FuncState) (p : Root) (s : Step) → step_of f p ≡ Some s → Contains (leads_of f p) s.base
step_lead f (Local l) s e = maker_lead (maker_of f l) s e
step_lead f (Global g) s e = cc

-- a pointer has the bases of each pointer that is made into it
pub brings : (f : FuncState) (p q : Root) (b : Base) → Contains (leads_of f p) q → HasBase f q b → HasBase f p b
brings f p q b lead h = (suc h.0, h.1, (q, lead, h.2), h.3)

-- and those of its root
pub root_base : (f : FuncState) (n : ℕ) (p r : Root) (sum : ℤ) (b : Base) → Ends f n p r sum → HasBase f r b → HasBase f p b
root_base f zero p r sum b h base = subst (λ q. HasBase f q b) (sym h.0) base
root_base f (suc n) p r sum b h base = brings f p h.0.base b (step_lead f p h.0 h.1) (root_base f n h.0.base r h.2 b h.3 base)
