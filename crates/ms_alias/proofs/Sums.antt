-- Roots, and offsets summed along getelementptrs.
use Rattle.std.proofs.Common.{◌≡◌, ◌<◌, ◌+◌, ◌*◌, ◌^◌, ℕ, zero, suc, ℤ, pos, ◌+ℤ◌, Bool, true, false, List, Some, None, length, get_or, set, refl, sym, ap, ◌∙◌, subst, inl, inr, ⊎_elim, get_or-set_other, arith}
use Rattle.std.proofs.Math.ListN.{replicate}
use Rattle.std.proofs.lemmas.Bool.{both_ways, cases_eq}
use Rattle.std.proofs.lemmas.Int.{ints}
use Rattle.std.proofs.lemmas.List.{length-set, length-replicate}
use mir.Syntax.{w64}
use mir.Val.{SFits}
use Rattle.ms_flow.specs.Walk.{unseen}
use Rattle.ms_flow.proofs.Steps.{unseen-set}
use Rattle.ms_ir.specs.declared.names.LocalNo.{LocalNo}
use Rattle.ms_ir.specs.declared.names.GlobalNo.{GlobalNo}
use Rattle.ms_ir.specs.Func.{FuncState}
use Rattle.ms_alias.specs.declared.loc.Root.{Root}
use Rattle.ms_alias.specs.declared.loc.Root.TheVariants.{Local, Global}
use Rattle.ms_alias.specs.Roots.{Step, step_of, LeadsBack, IsRing, IsEnd, HasRoot}
use Rattle.ms_alias.specs.Building.{AreRings}
use Rattle.ms_alias.specs.Offsets.{IsNear, greatest_offset}
use Rattle.ms_alias.proofs.Rings.{local, leads_more, get_or-replicate}

-- So far getelementptrs led from a local to a pointer, over marked locals, and their bytes sum up so.
pub record IsOnWay (f : FuncState) (l : ℕ) (at : Root) (sum : ℤ) (marks : List Bool) : Type 0 where
  pub rest : (r : Root) (offset : ℤ) → HasRoot f at r offset → HasRoot f (local l) r (sum +ℤ offset)
  pub met : (x : ℕ) → get_or marks x false ≡ true → (n : ℕ) × LeadsBack f (suc n) (local x) at
  pub count : ℕ
  pub counted : count + unseen marks ≡ length marks
  pub near : IsNear (count * greatest_offset) sum

unseen-replicate : (n : ℕ) → unseen (replicate n false) ≡ n
unseen-replicate zero = refl
unseen-replicate (suc n) = ap suc (unseen-replicate n)

zero_sum : (z : ℤ) → (pos 0 +ℤ z) ≡ z
zero_sum z = omega (arith, ints)

pub way_begun : (f : FuncState) (l n : ℕ) → IsOnWay f l (local l) (pos 0) (replicate n false)
way_begun f l n = record {
  rest = λ r offset h. subst (HasRoot f (local l) r) (sym (zero_sum offset)) h;
  met = λ x m. absurd (both_ways (get_or (replicate n false) x false) (get_or-replicate n x) m);
  count = 0;
  counted = (let u = unseen-replicate n in let k = length-replicate n false in omega arith);
  near = (omega (arith, ints), omega (arith, ints));
}

-- a pointer that is its own root ends the way
pub way_ends : (f : FuncState) (l : ℕ) (at : Root) (sum : ℤ) (marks : List Bool) → IsOnWay f l at sum marks → IsEnd f at → HasRoot f (local l) at sum
way_ends f l at sum marks w end =
    let sum_zero : (sum +ℤ pos 0) ≡ sum = omega (arith, ints) in
    subst (HasRoot f (local l) at) sum_zero (w.rest at (pos 0) (zero, (refl, refl, end)))

sum_joins : (a b c : ℤ) → ((a +ℤ b) +ℤ c) ≡ (a +ℤ (b +ℤ c))
sum_joins a b c = omega (arith, ints)

near_more : (k : ℕ) (a b : ℤ) → IsNear (k * greatest_offset) a → IsNear greatest_offset b → IsNear ((k + 1) * greatest_offset) (a +ℤ b)
near_more k a b p q =
    let p0 = p.0 in let p1 = p.1 in let q0 = q.0 in let q1 = q.1 in
    (omega (arith, ints), omega (arith, ints))

pub way_more : (f : FuncState) (l m : ℕ) (sum : ℤ) (marks : List Bool) (s : Step) → IsOnWay f l (local m) sum marks → (IsRing f (local m) → ⊥) → step_of f (local m) ≡ Some s
    → m < length marks → get_or marks m false ≡ false → IsNear greatest_offset s.bytes → IsOnWay f l s.base (sum +ℤ s.bytes) (set marks m true)
way_more f l m sum marks s w free e lt new near = record {
  rest = λ r offset h. subst (HasRoot f (local l) r) (sym (sum_joins sum s.bytes offset)) (w.rest r (s.bytes +ℤ offset) (suc h.0, (no_end, s, e, offset, h.1, refl)));
  met = λ x h. ⊎_elim (λ (is : x ≡ m). (zero, subst (λ k. LeadsBack f 1 (local k) s.base) (sym is) (s, e, refl))) (λ (other : x ≡ m → ⊥). before x (sym (get_or-set_other marks m x true false other) ∙ h)) (cases_eq x m);
  count = w.count + 1;
  counted = (let u = unseen-set marks m lt new in let k = length-set marks m true in let c = w.counted in omega arith);
  near = near_more w.count sum s.bytes w.near near;
} where
  no_end : IsEnd f (local m) → ⊥
  no_end (inl none) = let both : Some s ≡ None = sym e ∙ none in cc
  no_end (inr ring) = free ring

  before : (x : ℕ) → get_or marks x false ≡ true → (n : ℕ) × LeadsBack f (suc n) (local x) s.base
  before x h = let old = w.met x h in (suc old.0, leads_more f (suc old.0) (local x) (local m) s old.1 e)

-- no local is met again
pub way_new : (f : FuncState) (l m : ℕ) (sum : ℤ) (marks : List Bool) → IsOnWay f l (local m) sum marks → (IsRing f (local m) → ⊥) → get_or marks m false ≡ true → ⊥
way_new f l m sum marks w free h = free (w.met m h)

pub near_fits : (b : ℤ) → IsNear greatest_offset b → SFits w64 b
near_fits b q = let q0 = q.0 in let q1 = q.1 in omega (arith, ints)

pub fits_sum : (k : ℕ) (a b : ℤ) → IsNear (k * greatest_offset) a → IsNear greatest_offset b → k + 1 < 2 ^ 32 → SFits w64 (a +ℤ b)
fits_sum k a b p q few =
    let near = near_more k a b p q in
    let n0 = near.0 in let n1 = near.1 in
    omega (arith, ints)

-- the next sum fits
pub way_fits : (f : FuncState) (l m : ℕ) (sum b : ℤ) (marks : List Bool) → IsOnWay f l (local m) sum marks → m < length marks → length marks < 2 ^ 32 → get_or marks m false ≡ false → IsNear greatest_offset b → SFits w64 (sum +ℤ b)
way_fits f l m sum b marks w lt few new near =
    let u = unseen-set marks m lt new in
    let c = w.counted in
    fits_sum w.count sum b w.near near (omega arith)

pub not_ring : (f : FuncState) (rings : List Bool) (m : ℕ) → AreRings f rings → get_or rings m false ≡ false → IsRing f (local m) → ⊥
not_ring f rings m told e ring = both_ways (get_or rings m false) e ((told.each (record { 0 = m })).1 ring)

pub way_at : (f : FuncState) (l : ℕ) (at : Root) (m : LocalNo) (sum : ℤ) (marks : List Bool) → at ≡ Local m → IsOnWay f l at sum marks → IsOnWay f l (Local m) sum marks
way_at f l at m sum marks e w = subst (λ r. IsOnWay f l r sum marks) e w

pub global_end : (f : FuncState) (at : Root) (g : GlobalNo) → at ≡ Global g → IsEnd f at
global_end f at g e = subst (IsEnd f) (sym e) (inl refl)
