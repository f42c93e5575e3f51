-- Which allocas are captured, as marks by column.
use Rattle.std.proofs.Common.{◌≡◌, ◌<◌, ◌+◌, ◌⊎◌, ◌↔◌, ℕ, Bool, true, false, List, [], ◌∷◌, ◌++◌, Option, Some, None, length, get_or, take, refl, sym, ap, ◌∙◌, subst, inl, inr, ⊎_elim, arith}
use Rattle.std.specs.Prelude.{Contains}
use Rattle.std.proofs.lemmas.Bool.{both_ways, cases_eq}
use Rattle.std.proofs.lemmas.List.{take_more}
use Rattle.std.proofs.lemmas.List.Elements.{Contains-push, Contains-push_cases, Contains-append_left}
use Rattle.ms_ir.specs.declared.names.InstNo.{InstNo}
use Rattle.ms_ir.specs.declared.inst.Val.{Val}
use Rattle.ms_ir.specs.declared.inst.Arg.{Arg}
use Rattle.ms_ir.specs.declared.inst.Inst.{Inst}
use Rattle.ms_ir.specs.Func.{Placed, FuncState, IsAt, IsNowhere}
use Rattle.ms_ir.specs.Locals.{IsNumbered}
use Rattle.ms_alias.specs.declared.loc.Root.{Root}
use Rattle.ms_alias.specs.declared.sets.Set.TheVariants.{Nothing, Alloca}
use Rattle.ms_alias.specs.Roots.{pointer_of}
use Rattle.ms_alias.specs.Captured.{args_of, skips}
use Rattle.ms_alias.specs.Tables.{BasesState, set_of_option, val_set}
use Rattle.ms_alias.specs.Building.{Adds, HaveColumns, IsKeptBy, IsKeptAt, IsCountedAs}
use Rattle.ms_alias.proofs.Makers.{not_nowhere}

pub val_columns : (t : BasesState) → HaveColumns t → (v : Val) (c : ℕ) → val_set t v ≡ Alloca c → c < length t.columns
val_columns t h v c e = within (pointer_of v) e where
  within : (o : Option Root) → set_of_option t o ≡ Alloca c → c < length t.columns
  within None e = absurd (let e' : Nothing ≡ Alloca c = e in cc)
  within (Some p) e = h p c e

pub adds_none : (P : ℕ → Type 0) (xs : List Bool) → ((c : ℕ) → P c → ⊥) → Adds P xs xs
adds_none P xs none = record {
  len = refl;
  each = λ c. ((λ h. inl h), λ h. ⊎_elim (λ (x : get_or xs c false ≡ true). x) (λ (p : P c). absurd (none c p)) h);
}

pub adds_more : (P Q R : ℕ → Type 0) (xs ys zs : List Bool) → Adds P xs ys → Adds Q ys zs → ((c : ℕ) → R c → P c ⊎ Q c) → ((c : ℕ) → P c ⊎ Q c → R c) → Adds R xs zs
adds_more P Q R xs ys zs a b cases back = record {
  len = b.len ∙ a.len;
  each = λ c. (
    λ h. ⊎_elim (λ (y : get_or ys c false ≡ true). ⊎_elim (λ (x : get_or xs c false ≡ true). inl x) (λ (p : P c). inr (back c (inl p))) ((a.each c).0 y)) (λ (q : Q c). inr (back c (inr q))) ((b.each c).0 h),
    λ h. ⊎_elim (λ (x : get_or xs c false ≡ true). (b.each c).1 (inl ((a.each c).1 (inl x)))) (λ (r : R c). ⊎_elim (λ (p : P c). (b.each c).1 (inl ((a.each c).1 (inr p)))) (λ (q : Q c). (b.each c).1 (inr q)) (cases c r)) h,
  );
}

-- one more argument
pub adds_arg : (t : BasesState) (args : List Arg) (k : ℕ) (a : Arg) (xs ys zs : List Bool) → k < length args → a ≡ get_or args k a
    → Adds (IsKeptAt t (take k args)) xs ys → Adds (IsKeptBy t a) ys zs → Adds (IsKeptAt t (take (k + 1) args)) xs zs
adds_arg t args k a xs ys zs lt is old new =
    adds_more (IsKeptAt t (take k args)) (IsKeptBy t a) (IsKeptAt t (take (k + 1) args)) xs ys zs old new
    (λ c r.
    let there = subst (λ ws. Contains ws r.0) more r.1 in
    ⊎_elim
    (λ (h : Contains (take k args) r.0). inl (r.0, h, r.2))
    (λ (e : a ≡ r.0). inr (subst (λ b. IsKeptBy t b c) (sym e) r.2))
    (Contains-push_cases (take k args) a r.0 there))
    (λ c h. ⊎_elim
    (λ (p : IsKeptAt t (take k args) c). (p.0, subst (λ ws. Contains ws p.0) (sym more) (Contains-append_left (take k args) (a ∷ []) p.0 p.1), p.2))
    (λ (q : IsKeptBy t a c). (a, subst (λ ws. Contains ws a) (sym more) (Contains-push (take k args) a), q))
    h) where
      more : take (k + 1) args ≡ take k args ++ a ∷ []
      more = take_more args k a lt ∙ ap (λ b. take k args ++ b ∷ []) (sym is)

-- one more number
pub counted_more : (t : BasesState) (f : FuncState) (skip : Option InstNo) (n : ℕ) (xs ys : List Bool) → ((c : ℕ) → (get_or xs c false ≡ true) ↔ ((i : ℕ) × (i < n) × IsCountedAs t f skip i c)) → Adds (IsCountedAs t f skip n) xs ys
    → (c : ℕ) → (get_or ys c false ≡ true) ↔ ((i : ℕ) × (i < n + 1) × IsCountedAs t f skip i c)
counted_more t f skip n xs ys old new c = (
  λ h. ⊎_elim (λ (x : get_or xs c false ≡ true). let o = (old c).0 x in (o.0, (let lt = o.1 in omega (arith, lt)), o.2)) (λ (q : IsCountedAs t f skip n c). (n, (omega arith), q)) ((new.each c).0 h),
  λ h. ⊎_elim (λ (e : h.0 ≡ n). (new.each c).1 (inr (subst (λ i. IsCountedAs t f skip i c) e h.2))) (λ (ne : h.0 ≡ n → ⊥). (new.each c).1 (inl ((old c).1 (h.0, (let lt = h.1 in omega (arith, lt, ne)), h.2)))) (cases_eq h.0 n),
)

pub nowhere_counted : (t : BasesState) (f : FuncState) (skip : Option InstNo) (i c : ℕ) → IsNowhere f.blocks i → IsCountedAs t f skip i c → ⊥
nowhere_counted t f skip i c no_where h = not_nowhere f.blocks i h.0 h.1 h.2 h.3 no_where

pub skipped_counted : (t : BasesState) (f : FuncState) (skip : Option InstNo) (i c : ℕ) → skips skip i ≡ true → IsCountedAs t f skip i c → ⊥
skipped_counted t f skip i c e h = both_ways (skips skip i) h.4 e

-- the instruction of a number keeps what it keeps
pub adds_number : (t : BasesState) (f : FuncState) (skip : Option InstNo) (i : ℕ) (inst : Inst) (xs ys : List Bool)
    → (b : ℕ) × (place : ℕ) × (x : Placed) × IsAt f.blocks i b place x × (x.inst ≡ inst) → ((b place : ℕ) (x : Placed) → IsAt f.blocks i b place x → x.inst ≡ inst)
    → skips skip i ≡ false → Adds (IsKeptAt t (args_of inst)) xs ys → Adds (IsCountedAs t f skip i) xs ys
adds_number t f skip i inst xs ys found each free a = record {
  len = a.len;
  each = λ c. (
    λ h. ⊎_elim (λ (x : get_or xs c false ≡ true). inl x) (λ (p : IsKeptAt t (args_of inst) c). inr (found.0, found.1, found.2, found.3, free, subst (λ w. IsKeptAt t (args_of w) c) (sym found.4) p)) ((a.each c).0 h),
    λ h. (a.each c).1 (⊎_elim (λ (x : get_or xs c false ≡ true). inl x) (λ (p : IsCountedAs t f skip i c). inr (subst (λ w. IsKeptAt t (args_of w) c) (each p.0 p.1 p.2 p.3) p.5)) h),
  );
}

-- no number from made on is there
pub below_made : (f : FuncState) → IsNumbered f → (i b place : ℕ) (x : Placed) → IsAt f.blocks i b place x → i < f.made
below_made f n i b place x at = let lt = n.below_made b place x at.found in let e = at.numbered in omega (arith, lt, e)
