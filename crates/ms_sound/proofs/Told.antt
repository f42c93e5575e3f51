-- Which object a pointer points into, by what the function's text says of it.
use Rattle.std.proofs.Common.{◌≡◌, ◌∙◌, ◌<◌, ℕ, zero, suc, ℤ, pos, ◌+ℤ◌, cond, Some, None, refl, sym, ap, subst, arith}
use Rattle.std.specs.Prelude.{nat_lt, ◌-ℤ◌}
use Rattle.std.proofs.lemmas.Bool.{lt-ltb, both_ways}
use Rattle.std.proofs.lemmas.Int.{ints}
use Rattle.ms_ir.specs.declared.names.LocalNo.{LocalNo}
use Rattle.ms_ir.specs.declared.names.GlobalNo.{GlobalNo}
use Rattle.ms_ir.specs.Func.{FuncState}
use Rattle.ms_alias.specs.declared.loc.Root.{Root}
use Rattle.ms_alias.specs.declared.loc.Root.TheVariants.{Local, Global}
use Rattle.ms_alias.specs.Roots.{Maker, Step, step_of, is_alloca, IsFixed}
use Rattle.ms_alias.specs.Bases.{Base, Alloca, Argument, Object, Outside, Hidden, IsAllocaLocal, HasBase}
use Rattle.ms_meaning.specs.Values.{Pointer}
use Rattle.ms_meaning.specs.States.{State}
use Rattle.ms_sound.specs.Bytes.{root_value}
use Rattle.ms_sound.specs.Objects.{Denotes}
use Rattle.ms_sound.proofs.Chains.{Ends}

-- a pointer p to this byte: its root, whose value it follows where that is fixed, and a base that stands for the object
pub record Told (f : FuncState) (s : State) (p : Root) (o : ℕ) (at : ℤ) : Type 0 where
  pub steps : ℕ
  pub root : Root
  pub offset : ℤ
  pub ends : Ends f steps p root offset
  pub fixed : IsFixed f root → root_value s root ≡ Some (Pointer o (at -ℤ offset))
  pub base : Base
  pub has_base : HasBase f root base
  pub denotes : Denotes f s base o

-- fixed pointers stay from one moment to another
pub record Keeps (f : FuncState) (t s : State) : Type 0 where
  pub outer : t.outer ≡ s.outer
  pub fixed : (l : LocalNo) (o : ℕ) (at : ℤ) → t.locals l.0 ≡ Some (Pointer o at) → IsFixed f (Local l) → s.locals l.0 ≡ Some (Pointer o at)

pub keeps_none : (f : FuncState) (s : State) → Keeps f s s
keeps_none f s = record { outer = refl; fixed = λ l o at e h. e }

pub keeps_both : (f : FuncState) (t u s : State) → Keeps f t u → Keeps f u s → Keeps f t s
keeps_both f t u s h k = record { outer = h.outer ∙ k.outer; fixed = λ l o at e x. k.fixed l o at (h.fixed l o at e x) x }

-- an alloca is fixed
pub alloca_fixed : (f : FuncState) (l : LocalNo) → IsAllocaLocal f l → IsFixed f (Local l)
alloca_fixed f l a turning =
    let same : Some a.0 ≡ Some turning.0 = sym a.1 ∙ turning.1 in
    let is : a.0 ≡ turning.0 = cc in
    both_ways (is_alloca turning.0.inst) turning.2 (ap (λ (m : Maker). is_alloca m.inst) (sym is) ∙ a.2)

pub denotes_later : (f : FuncState) (t s : State) (b : Base) (o : ℕ) → Keeps f t s → Denotes f t b o → Denotes f s b o
denotes_later f t s (Alloca l) o k h = (h.0, k.fixed l o (pos 0) h.1 (alloca_fixed f l h.0))
denotes_later f t s (Argument l) o k h = subst (λ n. o < n) k.outer h
denotes_later f t s (Object g) o k h = (h.0, subst (λ n. o < n) k.outer h.1)
denotes_later f t s Outside o k h = subst (λ n. o < n) k.outer h
denotes_later f t s Hidden o k h = h

pub root_later : (f : FuncState) (t s : State) (r : Root) (o : ℕ) (at : ℤ) → Keeps f t s → IsFixed f r → root_value t r ≡ Some (Pointer o at) → root_value s r ≡ Some (Pointer o at)
root_later f t s (Local l) o at k fixed e = k.fixed l o at e fixed
root_later f t s (Global g) o at k fixed e = sym (ap (λ n. cond (nat_lt g.0 n) (Some (Pointer g.0 (pos 0))) None) k.outer) ∙ e

pub told_later : (f : FuncState) (t s : State) (p : Root) (o : ℕ) (at : ℤ) → Keeps f t s → Told f t p o at → Told f s p o at
told_later f t s p o at k h = record {
  steps = h.steps;
  root = h.root;
  offset = h.offset;
  ends = h.ends;
  fixed = (λ x. root_later f t s h.root o (at -ℤ h.offset) k x (h.fixed x));
  base = h.base;
  has_base = h.has_base;
  denotes = denotes_later f t s h.base o k h.denotes;
}

-- a global points to the beginning of its object
pub told_global : (f : FuncState) (s : State) (g : GlobalNo) → g.0 < s.outer → Told f s (Global g) g.0 (pos 0)
told_global f s g lt = record {
  steps = zero;
  root = Global g;
  offset = pos 0;
  ends = (refl, refl, refl);
  fixed = (λ x. ap (λ b. cond b (Some (Pointer g.0 (pos 0))) None) (lt-ltb g.0 s.outer lt) ∙ ap (λ z. Some (Pointer g.0 z)) (let z : pos 0 ≡ (pos 0 -ℤ pos 0) = omega (arith, ints) in z));
  base = Object g;
  has_base = (zero, Global g, refl, refl);
  denotes = (refl, lt);
}

-- a pointer that no getelementptr makes
pub told_root : (f : FuncState) (s : State) (l : LocalNo) (o : ℕ) (at : ℤ) (b : Base) → step_of f (Local l) ≡ None → s.locals l.0 ≡ Some (Pointer o at) → HasBase f (Local l) b → Denotes f s b o → Told f s (Local l) o at
told_root f s l o at b none e has is = record {
  steps = zero;
  root = Local l;
  offset = pos 0;
  ends = (refl, refl, none);
  fixed = (λ x. e ∙ ap (λ z. Some (Pointer o z)) (let z : at ≡ (at -ℤ pos 0) = omega (arith, ints) in z));
  base = b;
  has_base = has;
  denotes = is;
}

-- one that a getelementptr makes
pub told_step : (f : FuncState) (s : State) (p : Root) (step : Step) (o : ℕ) (at : ℤ) → step_of f p ≡ Some step → Told f s step.base o at → Told f s p o (at +ℤ step.bytes)
told_step f s p step o at e h = record {
  steps = suc h.steps;
  root = h.root;
  offset = step.bytes +ℤ h.offset;
  ends = (step, e, h.offset, h.ends, refl);
  fixed = (λ x. h.fixed x ∙ ap (λ z. Some (Pointer o z)) (same at step.bytes h.offset));
  base = h.base;
  has_base = h.has_base;
  denotes = h.denotes;
} where
  same : (a b c : ℤ) → (a -ℤ c) ≡ ((a +ℤ b) -ℤ (b +ℤ c))
  same a b c = omega (arith, ints)
