-- Each name of an accepted module's functions and globals stands once.
use Rattle.std.proofs.Common.{◌≡◌, ◌∙◌, ◌<◌, ℕ, zero, suc, List, [], ◌∷◌, ◌++◌, map, Some, refl, sym, ap, subst, ⊎_elim, arith}
use Rattle.std.specs.List.{slice_get, flat_map}
use Rattle.ms_ir.specs.Symbols.{AreDistinct}
use Rattle.ms_grammar.specs.declared.line.Line.TheVariants as said
use Rattle.ms_resolve.specs.Shape.{ItemLines, plain, body}
use Rattle.ms_resolve.specs.Faults.{IsIn, symbols_of, name_of_symbol}
use Rattle.ms_resolve.specs.Faults as named
use Rattle.ms_resolve.specs.Cause.{NoNameFault}
use Rattle.ms_resolve.specs.Module.{func_names_in, global_names_in}
use Rattle.ms_validity.proofs.ListLemmas.{in_nil, in_here, in_there, in_cons, in_append, in_left, in_right, get_map}

-- none stands among those behind it
abbrev Once : List (List ℕ) → Type 0
Once [] = Unit {0}
Once (x ∷ xs) = (IsIn xs x → ⊥) × Once xs

once_distinct : (xs : List (List ℕ)) → Once xs → AreDistinct xs
once_distinct [] o i j name e d = absurd (in_nil name (i, e))
once_distinct (x ∷ xs) o zero zero name e d = refl
once_distinct (x ∷ xs) o zero (suc j) name e d = absurd (o.0 (j, d ∙ sym e))
once_distinct (x ∷ xs) o (suc i) zero name e d = absurd (o.0 (i, e ∙ sym d))
once_distinct (x ∷ xs) o (suc i) (suc j) name e d = ap suc (once_distinct xs o.1 i j name e d)

-- no two places have one name
abbrev NoTwo : List (List ℕ) → Type 0
NoTwo xs = (i j : ℕ) (name : List ℕ) → i < j → slice_get xs i ≡ Some name → slice_get xs j ≡ Some name → ⊥

none_once : (xs : List (List ℕ)) → NoTwo xs → Once xs
none_once [] none = tt
none_once (x ∷ xs) none = (
  λ h. none 0 (suc h.0) x (omega arith) refl h.1,
  none_once xs (λ i j name lt e d. none (suc i) (suc j) name (omega (arith, lt)) e d),
)

symbols_once : (items : List ItemLines) → NoNameFault items → Once (map name_of_symbol (symbols_of items))
symbols_once items sound =
    none_once (map name_of_symbol (symbols_of items))
    (λ i j name lt e d.
    let one = get_map name_of_symbol (symbols_of items) i name e in
    let other = get_map name_of_symbol (symbols_of items) j name d in
    sound other.0.line
    (named.HasNameFault.symbol (record { first = i; at = j; before = lt; one = one.0; other = other.0; first_is = one.1; at_is = other.1; same = one.2 ∙ sym other.2; on = refl })))

inserted : (front rest : List (List ℕ)) (x : List ℕ) → Once (front ++ rest) → (IsIn (front ++ rest) x → ⊥) → Once (front ++ x ∷ rest)
inserted [] rest x o new = (new, o)
inserted (y ∷ front) rest x o new = (
  λ h. ⊎_elim (λ (a : IsIn front y). o.0 (in_left front rest y a))
      (λ (b : IsIn (x ∷ rest) y).
      ⊎_elim (λ (e : x ≡ y). new (subst (λ (z : List ℕ). IsIn (y ∷ (front ++ rest)) z) (sym e) (in_here y (front ++ rest))))
      (λ (c : IsIn rest y). o.0 (in_right front rest y c))
      (in_cons x rest y b))
      (in_append front (x ∷ rest) y h),
  inserted front rest x o.1 (λ h. new (in_there y (front ++ rest) x h)),
)

-- the names of functions and those of globals are among all, and stand once where all do
abbrev IsSplit : List (List ℕ) → List (List ℕ) → List (List ℕ) → Type 0
IsSplit all funcs globals = ((name : List ℕ) → IsIn (funcs ++ globals) name → IsIn all name) × (Once all → Once (funcs ++ globals))

func_more : (x : List ℕ) (all funcs globals : List (List ℕ)) → IsSplit all funcs globals → IsSplit (x ∷ all) (x ∷ funcs) globals
func_more x all funcs globals s = (
  λ name h. ⊎_elim (λ (e : x ≡ name). (0, ap Some e)) (λ (r : IsIn (funcs ++ globals) name). in_there x all name (s.0 name r)) (in_cons x (funcs ++ globals) name h),
  λ o. (λ h. o.0 (s.0 x h), s.1 o.1),
)

global_more : (x : List ℕ) (all funcs globals : List (List ℕ)) → IsSplit all funcs globals → IsSplit (x ∷ all) funcs (x ∷ globals)
global_more x all funcs globals s = (
  λ name h. ⊎_elim (λ (a : IsIn funcs name). in_there x all name (s.0 name (in_left funcs globals name a)))
      (λ (b : IsIn (x ∷ globals) name).
      ⊎_elim (λ (e : x ≡ name). (0, ap Some e)) (λ (c : IsIn globals name). in_there x all name (s.0 name (in_right funcs globals name c))) (in_cons x globals name b))
      (in_append funcs (x ∷ globals) name h),
  λ o. inserted funcs globals x (s.1 o.1) (λ h. o.0 (s.0 x h)),
)

all_split : (items : List ItemLines) → IsSplit (map name_of_symbol (symbols_of items)) (flat_map func_names_in items) (flat_map global_names_in items)
all_split [] = (λ name h. h, λ o. o)
all_split (plain n said.Empty ∷ items) = all_split items
all_split (plain n said.Close ∷ items) = all_split items
all_split (plain n (said.Kept text) ∷ items) = all_split items
all_split (plain n (said.Group number text) ∷ items) = all_split items
all_split (plain n (said.GlobalVar name text) ∷ items) = global_more name (map name_of_symbol (symbols_of items)) (flat_map func_names_in items) (flat_map global_names_in items) (all_split items)
all_split (plain n (said.Label name) ∷ items) = all_split items
all_split (plain n (said.Declare head) ∷ items) = func_more head.name (map name_of_symbol (symbols_of items)) (flat_map func_names_in items) (flat_map global_names_in items) (all_split items)
all_split (plain n (said.Define head) ∷ items) = all_split items
all_split (plain n (said.Inst name inst) ∷ items) = all_split items
all_split (plain n (said.Term term) ∷ items) = all_split items
all_split (body f ∷ items) = func_more f.head.name (map name_of_symbol (symbols_of items)) (flat_map func_names_in items) (flat_map global_names_in items) (all_split items)

pub names_distinct : (items : List ItemLines) → NoNameFault items → AreDistinct (flat_map func_names_in items ++ flat_map global_names_in items)
names_distinct items sound = once_distinct (flat_map func_names_in items ++ flat_map global_names_in items) ((all_split items).1 (symbols_once items sound))
