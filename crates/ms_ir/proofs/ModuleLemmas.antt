use Rattle.std.proofs.Common.{◌≡◌, ◌<◌, ◌≤◌, ◌⊎◌, inl, inr, ℕ, suc, zero, ◌+◌, List, [], ◌∷◌, ◌++◌, length, set, Some, None, refl, ap, sym, ◌∙◌, arith, length-append, length-set}
use Rattle.std.specs.List.{slice_get}
use Rattle.std.proofs.lemmas.Bool.Decides.{eqb_tells}
use Rattle.ms_ir.specs.declared.names.FuncNo.{FuncNo}
use Rattle.ms_ir.specs.declared.names.GlobalNo.{GlobalNo}
use Rattle.ms_ir.specs.declared.module.Item.{Item}
use Rattle.ms_ir.specs.declared.module.Item.TheVariants.{Kept, Global, Declared, Defined}
use Rattle.ms_ir.specs.declared.module.Sig.{Sig}
use Rattle.ms_ir.specs.Func.{FuncState}
use Rattle.ms_ir.specs.Module.{ModuleState, IsNew, IsDefined, IsWhole, CountsUp, funcs_in, globals_in, global_line}
use Rattle.ms_ir.proofs.SymbolLemmas.{pushed, distinct-push}

append-nil : (xs : List ℕ) → xs ++ [] ≡ xs
append-nil [] = refl
append-nil (x ∷ xs) = ap (λ r. x ∷ r) (append-nil xs)

slice_get-push : {A : Type 0} (xs : List A) (x y : A) (i : ℕ) → slice_get xs i ≡ Some y → slice_get (xs ++ x ∷ []) i ≡ Some y
slice_get-push [] x y i e = cc
slice_get-push (z ∷ xs) x y zero e = e
slice_get-push (z ∷ xs) x y (suc i) e = slice_get-push xs x y i e

slice_get-last : {A : Type 0} (xs : List A) (x : A) → slice_get (xs ++ x ∷ []) (length xs) ≡ Some x
slice_get-last [] x = refl
slice_get-last (y ∷ xs) x = slice_get-last xs x

counted-nil : (n : ℕ) (xs : List ℕ) → CountsUp n xs → CountsUp n (xs ++ [])
counted-nil n xs c = rw (append-nil xs) c

counts-push : (n : ℕ) (xs : List ℕ) → CountsUp n xs → CountsUp (n + 1) (xs ++ n ∷ [])
counts-push n xs c = record {
  len = omega (arith, c.len, length-append xs (n ∷ []));
  each = λ k lt. elim (eqb_tells k n) [
    | inl same ↦ ap (slice_get (xs ++ n ∷ [])) (same.1 ∙ sym c.len) ∙ slice_get-last xs n ∙ ap Some (sym same.1)
    | inr other ↦ slice_get-push xs n k k (c.each k (omega (arith, other.1)))
  ];
}

funcs_in-push : (items : List Item) (x : Item) → funcs_in (items ++ x ∷ []) ≡ funcs_in items ++ funcs_in (x ∷ [])
funcs_in-push [] x = refl
funcs_in-push (Kept text ∷ items) x = funcs_in-push items x
funcs_in-push (Global g text ∷ items) x = funcs_in-push items x
funcs_in-push (Declared f text ∷ items) x = ap (λ r. f.0 ∷ r) (funcs_in-push items x)
funcs_in-push (Defined f ∷ items) x = ap (λ r. f.0 ∷ r) (funcs_in-push items x)

globals_in-push : (items : List Item) (x : Item) → globals_in (items ++ x ∷ []) ≡ globals_in items ++ globals_in (x ∷ [])
globals_in-push [] x = refl
globals_in-push (Kept text ∷ items) x = globals_in-push items x
globals_in-push (Global g text ∷ items) x = ap (λ r. g.0 ∷ r) (globals_in-push items x)
globals_in-push (Declared f text ∷ items) x = globals_in-push items x
globals_in-push (Defined f ∷ items) x = globals_in-push items x

-- each function and each global has an item
pub few_numbers : (items : List Item) → length (funcs_in items) + length (globals_in items) ≤ length items
few_numbers [] = omega arith
few_numbers (Kept text ∷ items) = let rest = few_numbers items in omega (arith, rest)
few_numbers (Global g text ∷ items) = let rest = few_numbers items in omega (arith, rest)
few_numbers (Declared f text ∷ items) = let rest = few_numbers items in omega (arith, rest)
few_numbers (Defined f ∷ items) = let rest = few_numbers items in omega (arith, rest)

-- how many functions and globals a module has
pub few_names : (m : ModuleState) → IsWhole m → length m.names.funcs + length m.names.globals ≤ length m.items
few_names m w = let few = few_numbers m.items in omega (arith, few, w.funcs.len, w.globals.len)

-- one more item that is no function and no global
pub whole-kept : (m : ModuleState) (text : List ℕ) → IsWhole m → length m.items < 4294967295 → IsWhole (record m { items = m.items ++ Kept text ∷ [] })
whole-kept m text w few = record {
  funcs = rw (funcs_in-push m.items (Kept text)) (counted-nil (length m.names.funcs) (funcs_in m.items) w.funcs);
  globals = rw (globals_in-push m.items (Kept text)) (counted-nil (length m.names.globals) (globals_in m.items) w.globals);
  sigs = w.sigs;
  bodies = w.bodies;
  defined = λ f body e. let d = w.defined f body e in (d.0, slice_get-push m.items (Kept text) (Defined f) d.0 d.1);
  func_names = w.func_names;
  global_names = w.global_names;
  apart = w.apart;
  few = omega (arith, few, length-append m.items (Kept text ∷ []));
}

-- one more global, whose name is new
pub whole-global : (m : ModuleState) (g : GlobalNo) (name text : List ℕ) → IsWhole m → length m.items < 4294967295 → IsNew m.names name → g.0 ≡ length m.names.globals
    → IsWhole (record m { items = m.items ++ global_line g text ∷ []; names = record m.names { globals = m.names.globals ++ name ∷ [] } })
whole-global m g name text w few new is = record {
  funcs = rw (funcs_in-push m.items (Global g text)) (counted-nil (length m.names.funcs) (funcs_in m.items) w.funcs);
  globals = rw (globals_in-push m.items (Global g text), is, length-append m.names.globals (name ∷ [])) (counts-push (length m.names.globals) (globals_in m.items) w.globals);
  sigs = w.sigs;
  bodies = w.bodies;
  defined = λ f body e. let d = w.defined f body e in (d.0, slice_get-push m.items (Global g text) (Defined f) d.0 d.1);
  func_names = w.func_names;
  global_names = distinct-push m.names.globals name w.global_names new.1;
  apart = λ i j n ei ej. elim (pushed m.names.globals name n j ej) [
    | inl h ↦ w.apart i j n ei h
    | inr h ↦ new.0 i (ei ∙ ap Some (sym h.1))
  ];
  few = omega (arith, few, length-append m.items (Global g text ∷ []));
}

-- what is at a place of a list with one more at its end
at_pushed : {A : Type 0} (xs : List A) (x y : A) (i : ℕ) → slice_get (xs ++ x ∷ []) i ≡ Some y → (slice_get xs i ≡ Some y) ⊎ (x ≡ y)
at_pushed [] x y zero e = inr (cc)
at_pushed [] x y (suc i) e = cc
at_pushed (z ∷ xs) x y zero e = inl e
at_pushed (z ∷ xs) x y (suc i) e = at_pushed xs x y i e

-- one more function, whose name is new
whole-func : (m : ModuleState) (item : Item) (f : FuncNo) (name : List ℕ) (sig : Sig) → IsWhole m → length m.items < 4294967295 → IsNew m.names name → f.0 ≡ length m.names.funcs
    → funcs_in (item ∷ []) ≡ f.0 ∷ [] → globals_in (item ∷ []) ≡ []
    → IsWhole (record m { items = m.items ++ item ∷ []; sigs = m.sigs ++ sig ∷ []; bodies = m.bodies ++ None ∷ []; names = record m.names { funcs = m.names.funcs ++ name ∷ [] } })
whole-func m item f name sig w few new is its none = record {
  funcs = rw (funcs_in-push m.items item, its, is, length-append m.names.funcs (name ∷ [])) (counts-push (length m.names.funcs) (funcs_in m.items) w.funcs);
  globals = rw (globals_in-push m.items item, none) (counted-nil (length m.names.globals) (globals_in m.items) w.globals);
  sigs = omega (arith, w.sigs, length-append m.sigs (sig ∷ []), length-append m.names.funcs (name ∷ []));
  bodies = omega (arith, w.bodies, length-append m.bodies (None ∷ []), length-append m.names.funcs (name ∷ []));
  defined = λ k body e. elim (at_pushed m.bodies None (Some body) k.0 e) [
    | inl h ↦ let d = w.defined k body h in (d.0, slice_get-push m.items item (Defined k) d.0 d.1)
    | inr h ↦ absurd (cc)
  ];
  func_names = distinct-push m.names.funcs name w.func_names new.0;
  global_names = w.global_names;
  apart = λ i j n ei ej. elim (pushed m.names.funcs name n i ei) [
    | inl h ↦ w.apart i j n h ej
    | inr h ↦ new.1 j (ej ∙ ap Some (sym h.1))
  ];
  few = omega (arith, few, length-append m.items (item ∷ []));
}

pub whole-declared : (m : ModuleState) (f : FuncNo) (name text : List ℕ) (sig : Sig) → IsWhole m → length m.items < 4294967295 → IsNew m.names name → f.0 ≡ length m.names.funcs
    → IsWhole (record m { items = m.items ++ Declared f text ∷ []; sigs = m.sigs ++ sig ∷ []; bodies = m.bodies ++ None ∷ []; names = record m.names { funcs = m.names.funcs ++ name ∷ [] } })
whole-declared m f name text sig w few new is = whole-func m (Declared f text) f name sig w few new is refl refl

pub whole-defined : (m : ModuleState) (f : FuncNo) (name : List ℕ) (sig : Sig) → IsWhole m → length m.items < 4294967295 → IsNew m.names name → f.0 ≡ length m.names.funcs
    → IsWhole (record m { items = m.items ++ Defined f ∷ []; sigs = m.sigs ++ sig ∷ []; bodies = m.bodies ++ None ∷ []; names = record m.names { funcs = m.names.funcs ++ name ∷ [] } })
whole-defined m f name sig w few new is = whole-func m (Defined f) f name sig w few new is refl refl

-- what is at a place of a list with another member at one place
at_set : {A : Type 0} (xs : List A) (i j : ℕ) (x y : A) → slice_get (set xs i x) j ≡ Some y → ((j ≡ i) × (x ≡ y)) ⊎ (slice_get xs j ≡ Some y)
at_set [] i j x y e = inr e
at_set (z ∷ xs) zero zero x y e = inl (refl, cc)
at_set (z ∷ xs) zero (suc j) x y e = inr e
at_set (z ∷ xs) (suc i) zero x y e = inr e
at_set (z ∷ xs) (suc i) (suc j) x y e = elim (at_set xs i j x y e) [
  | inl h ↦ inl (ap suc h.0, h.1)
  | inr h ↦ inr h
]

pub whole-taken : (m : ModuleState) (f : ℕ) → IsWhole m → IsWhole (record m { bodies = set m.bodies f None })
whole-taken m f w = record {
  funcs = w.funcs;
  globals = w.globals;
  sigs = w.sigs;
  bodies = length-set m.bodies f None ∙ w.bodies;
  defined = λ k body e. elim (at_set m.bodies f k.0 None (Some body) e) [
    | inl h ↦ absurd (let bad : None ≡ Some body = h.1 in cc)
    | inr h ↦ w.defined k body h
  ];
  func_names = w.func_names;
  global_names = w.global_names;
  apart = w.apart;
  few = w.few;
}

pub whole-put : (m : ModuleState) (f : FuncNo) (func : FuncState) → IsDefined m f → IsWhole m → IsWhole (record m { bodies = set m.bodies f.0 (Some func) })
whole-put m f func d w = record {
  funcs = w.funcs;
  globals = w.globals;
  sigs = w.sigs;
  bodies = length-set m.bodies f.0 (Some func) ∙ w.bodies;
  defined = λ k body e. elim (at_set m.bodies f.0 k.0 (Some func) (Some body) e) [
    | inl h ↦ let local : ℕ → FuncNo = λ i. record { 0 = i } in (d.0, d.1 ∙ ap (λ i. Some (Defined (local i))) (sym h.0))
    | inr h ↦ w.defined k body h
  ];
  func_names = w.func_names;
  global_names = w.global_names;
  apart = w.apart;
  few = w.few;
}
