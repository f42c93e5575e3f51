-- Types of arguments.
use Rattle.std.proofs.Common.{◌≡◌, ℕ, zero, suc, ◌<◌, ◌≤◌, Bool, true, false, List, [], ◌∷◌, length, map, take, Some, refl, sym, ap, ◌∙◌, ⊎_elim, arith}
use Rattle.std.specs.Prelude.{IsTrue, ◌↔◌}
use Rattle.std.specs.List.{slice_get}
use Rattle.std.proofs.lemmas.Bool.{cases_Bool}
use Rattle.std.proofs.lemmas.List.{length-map, length-take, take_all}
use Rattle.ms_ir.specs.declared.names.Mark.{Mark}
use Rattle.ms_ir.specs.declared.module.Sig.{Sig}
use Rattle.ms_grammar.specs.declared.line.RawArg.{RawArg}
use Rattle.ms_script.specs.Calls.{TypesFit, type_of_raw, type_of_mark}

-- the types of the first arguments are those of the parameters, or not
pub types_differ : (args : List RawArg) (ms : List Mark) (k : ℕ) (a : RawArg) (m : Mark) → slice_get args k ≡ Some a → slice_get ms k ≡ Some m → (a.ty ≡ m.ty → ⊥)
    → take (length ms) (map type_of_raw args) ≡ map type_of_mark ms → ⊥
types_differ [] ms k a m at mt ne e = cc
types_differ (x ∷ args) [] k a m at mt ne e = cc
types_differ (x ∷ args) (y ∷ ms) zero a m at mt ne e =
    let x_is : x ≡ a = cc in
    let y_is : y ≡ m = cc in
    let t : x.ty ≡ y.ty = cc in
    ne (ap type_of_raw (sym x_is) ∙ t ∙ ap type_of_mark y_is)
types_differ (x ∷ args) (y ∷ ms) (suc k) a m at mt ne e = types_differ args ms k a m at mt ne cc

pub types_same : (args : List RawArg) (ms : List Mark) → length ms ≤ length args
    → ((k : ℕ) (a : RawArg) (m : Mark) → k < length ms → slice_get args k ≡ Some a → slice_get ms k ≡ Some m → a.ty ≡ m.ty)
    → take (length ms) (map type_of_raw args) ≡ map type_of_mark ms
types_same args [] le same = refl
types_same [] (y ∷ ms) le same = absurd (omega arith)
types_same (x ∷ args) (y ∷ ms) le same =
    let first : x.ty ≡ y.ty = same 0 x y (omega arith) refl refl in
    let rest : take (length ms) (map type_of_raw args) ≡ map type_of_mark ms = types_same args ms (omega arith) (λ k a m lt. same (suc k) a m (omega arith)) in
    cc

pub too_few : (sig : Sig) (args : List RawArg) → length args < length sig.params → TypesFit sig args → ⊥
too_few sig args lt fit =
    ⊎_elim (λ (t : sig.variadic ≡ true).
    let e = rw t at fit in
    omega (arith, ap length e, length-take (length sig.params) (map type_of_raw args), length-map args type_of_raw, length-map sig.params type_of_mark))
    (λ (n : sig.variadic ≡ false).
    let e = rw n at fit in
    omega (arith, ap length e, length-map args type_of_raw, length-map sig.params type_of_mark))
    (cases_Bool sig.variadic)

pub not_as_many : (sig : Sig) (args : List RawArg) → sig.variadic ≡ false → (length args ≡ length sig.params → ⊥) → TypesFit sig args → ⊥
not_as_many sig args n ne fit =
    let e = rw n at fit in
    ne (omega (arith, ap length e, length-map args type_of_raw, length-map sig.params type_of_mark))

-- where there are enough arguments, the types of the first ones tell
pub fit_told : (sig : Sig) (args : List RawArg) (t : Bool) → (sig.variadic ≡ false → length args ≡ length sig.params)
    → (IsTrue t ↔ (take (length sig.params) (map type_of_raw args) ≡ map type_of_mark sig.params)) → IsTrue t ↔ TypesFit sig args
fit_told sig args t len told =
    ⊎_elim (λ (v : sig.variadic ≡ true). rw v told)
    (λ (n : sig.variadic ≡ false).
    let all : length (map type_of_raw args) ≤ length sig.params = omega (arith, len n, length-map args type_of_raw) in
    let whole = take_all (length sig.params) (map type_of_raw args) all in
    rw n (rw whole at told))
    (cases_Bool sig.variadic)
