-- Types that are not the ones written.
use Rattle.std.proofs.Common.{◌≡◌, ℕ, zero, suc, ◌<◌, ◌≤◌, Bool, true, false, not, List, [], ◌∷◌, length, map, take, Some, refl, sym, ap, ◌∙◌, subst, ⊎_elim, arith}
use Rattle.std.specs.Prelude.{IsTrue, ◌↔◌}
use Rattle.std.specs.List.{slice_get}
use Rattle.std.proofs.lemmas.Bool.{cases_Bool, both_ways, not-true, not_from_false, false_from_ne_true, false≢true}
use Rattle.std.proofs.lemmas.Option.{slice_get_within}
use Rattle.std.proofs.lemmas.List.{length-map, length-take, take_all}
use Rattle.ms_ir.specs.declared.names.Ty.{Ty}
use Rattle.ms_ir.specs.declared.names.Mark.{Mark}
use Rattle.ms_ir.specs.declared.names.LocalNo.{LocalNo}
use Rattle.ms_ir.specs.declared.inst.Arg.{Arg}
use Rattle.ms_ir.specs.declared.inst.Val.TheVariants.{Local}
use Rattle.ms_ir.specs.declared.module.Sig.{Sig}
use Rattle.ms_ir.specs.Func.{FuncState}
use Rattle.ms_ir.specs.Locals.{HasType, IsNoLocal}
use Rattle.ms_ir.specs.Sound.{HasOtherType}
use Rattle.ms_ir.specs.Uses.{Operand}
use Rattle.ms_validity.specs.Faults.{ArgsFit, type_of_arg, type_of_mark}

-- a local with one type has another than the one written exactly where that type is another
pub other_told : (f : FuncState) (o : Operand) (l : LocalNo) (ty : Ty) (same : Bool) → o.val ≡ Local l → HasType f l ty → ((t : Ty) → HasType f l t → t ≡ ty)
    → (IsTrue same ↔ (ty ≡ o.ty)) → IsTrue (not same) ↔ HasOtherType f o
other_told f o l ty same is has one told = (
  λ t. (l, ty, is, has, λ e. both_ways same (not-true same t) (told.1 e)),
  λ h. not_from_false same (false_from_ne_true same (λ t.
      let l_is : h.0 ≡ l = cc (is, h.2) in
      let typed : HasType f l h.1 = subst (λ (k : LocalNo). HasType f k h.1) l_is h.3 in
      h.4 (one h.1 typed ∙ told.0 t))),
)

-- what is no local has no type
pub no_local_told : (f : FuncState) (o : Operand) (l : LocalNo) → o.val ≡ Local l → IsNoLocal f l → IsTrue false ↔ HasOtherType f o
no_local_told f o l is none = (
  λ t. absurd (false≢true t),
  λ h. absurd (
      let l_is : h.0 ≡ l = cc (is, h.2) in
      let typed : HasType f l h.1 = subst (λ (k : LocalNo). HasType f k h.1) l_is h.3 in
      ⊎_elim (λ p. let within = slice_get_within f.params l.0 p.0 p.1 in omega (arith, none.0))
      (λ g. none.1 g.0 g.1 g.2 g.3) typed),
)

-- the types of the first arguments are those of the parameters, or not
pub types_differ : (args : List Arg) (ms : List Mark) (k : ℕ) (a : Arg) (m : Mark) → slice_get args k ≡ Some a → slice_get ms k ≡ Some m → (a.ty ≡ m.ty → ⊥)
    → take (length ms) (map type_of_arg args) ≡ map type_of_mark ms → ⊥
types_differ [] ms k a m at mt ne e = cc
types_differ (x ∷ args) [] k a m at mt ne e = cc
types_differ (x ∷ args) (y ∷ ms) zero a m at mt ne e =
    let x_is : x ≡ a = cc in
    let y_is : y ≡ m = cc in
    let t : x.ty ≡ y.ty = cc in
    ne (ap type_of_arg (sym x_is) ∙ t ∙ ap type_of_mark y_is)
types_differ (x ∷ args) (y ∷ ms) (suc k) a m at mt ne e = types_differ args ms k a m at mt ne cc

pub types_same : (args : List Arg) (ms : List Mark) → length ms ≤ length args
    → ((k : ℕ) (a : Arg) (m : Mark) → k < length ms → slice_get args k ≡ Some a → slice_get ms k ≡ Some m → a.ty ≡ m.ty)
    → take (length ms) (map type_of_arg args) ≡ map type_of_mark ms
types_same args [] le same = refl
types_same [] (y ∷ ms) le same = absurd (omega arith)
types_same (x ∷ args) (y ∷ ms) le same =
    let first : x.ty ≡ y.ty = same 0 x y (omega arith) refl refl in
    let rest : take (length ms) (map type_of_arg args) ≡ map type_of_mark ms = types_same args ms (omega arith) (λ k a m lt. same (suc k) a m (omega arith)) in
    cc

pub too_few : (sig : Sig) (args : List Arg) → length args < length sig.params → ArgsFit sig args → ⊥
too_few sig args lt fit =
    ⊎_elim (λ (t : sig.variadic ≡ true).
    let e = rw t at fit in
    omega (arith, ap length e, length-take (length sig.params) (map type_of_arg args), length-map args type_of_arg, length-map sig.params type_of_mark))
    (λ (n : sig.variadic ≡ false).
    let e = rw n at fit in
    omega (arith, ap length e, length-map args type_of_arg, length-map sig.params type_of_mark))
    (cases_Bool sig.variadic)

pub not_as_many : (sig : Sig) (args : List Arg) → sig.variadic ≡ false → (length args ≡ length sig.params → ⊥) → ArgsFit sig args → ⊥
not_as_many sig args n ne fit =
    let e = rw n at fit in
    ne (omega (arith, ap length e, length-map args type_of_arg, length-map sig.params type_of_mark))

-- where there are enough arguments, the types of the first ones tell
pub fit_told : (sig : Sig) (args : List Arg) (t : Bool) → (sig.variadic ≡ false → length args ≡ length sig.params)
    → (IsTrue t ↔ (take (length sig.params) (map type_of_arg args) ≡ map type_of_mark sig.params)) → IsTrue t ↔ ArgsFit sig args
fit_told sig args t len told =
    ⊎_elim (λ (v : sig.variadic ≡ true). rw v told)
    (λ (n : sig.variadic ≡ false).
    let all : length (map type_of_arg args) ≤ length sig.params = omega (arith, len n, length-map args type_of_arg) in
    let whole = take_all (length sig.params) (map type_of_arg args) all in
    rw n (rw whole at told))
    (cases_Bool sig.variadic)
