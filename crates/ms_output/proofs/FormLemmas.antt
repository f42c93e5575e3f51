-- Printed forms, one function more.
use Rattle.std.proofs.Common.{◌≡◌, ◌<◌, ◌≤◌, ◌+◌, ◌^◌, ℕ, zero, suc, true, false, is_some, List, [], ◌∷◌, ◌++◌, Option, Some, None, length, take, sym, ap, subst, ◌∙◌, arith, append_assoc, append-nil, slice_get}
use Rattle.std.specs.List.{flat_map}
use Rattle.std.proofs.lemmas.List.{take_all}
use Rattle.std.proofs.lemmas.Option.{slice_get_within}
use Rattle.ms_ir.specs.declared.module.Item.{Item}
use Rattle.ms_ir.specs.declared.module.Item.TheVariants as item
use Rattle.ms_ir.specs.declared.module.Sig.{Sig}
use Rattle.ms_ir.specs.Func.{FuncState}
use Rattle.ms_ir.specs.Module.{ModuleState, body_in, body_of, funcs_in, IsWhole}
use Rattle.ms_ir.specs.Symbols.{NamesState}
use Rattle.ms_validity.specs.Faults.{body_there, bodies_there}
use Rattle.ms_output.specs.Forms.{AreForms, times}

-- the forms of functions, and behind them those of others
pub forms_then : (names : NamesState) (prints : ℕ) (fs gs : List FuncState) (t u : List ℕ) → AreForms names prints fs t → AreForms names prints gs u → AreForms names prints (fs ++ gs) (t ++ u)
forms_then names prints [] gs t u p q = subst (λ (k : List ℕ). AreForms names prints gs (k ++ u)) (sym p) q
forms_then names prints (f ∷ fs) gs t u p q =
    (p.0, p.1 ++ u, p.2, forms_then names prints fs gs p.1 u p.3 q, ap (λ k. k ++ u) p.4 ∙ append_assoc (times prints p.0) p.1 u)

abbrev pub front_bodies : ℕ → List (Option FuncState) → List FuncState
front_bodies n bodies = flat_map body_there (take n bodies)

take_more : (bodies : List (Option FuncState)) (n : ℕ) → n < length bodies → front_bodies (n + 1) bodies ≡ front_bodies n bodies ++ body_there (body_in (slice_get bodies n))
take_more [] n lt = absurd (omega (arith, lt))
take_more (b ∷ bodies) zero lt = append-nil (body_there b)
take_more (b ∷ bodies) (suc n) lt =
    let less : n < length bodies = omega (arith, lt) in
    let one : suc n + 1 ≡ suc (n + 1) = omega arith in
    ap (λ (k : ℕ). front_bodies k (b ∷ bodies)) one ∙ ap (λ k. body_there b ++ k) (take_more bodies n less) ∙ sym (append_assoc (body_there b) (front_bodies n bodies) (body_there (body_in (slice_get bodies n))))

-- the forms of the functions up to one, and its own
pub forms_more : (m : ModuleState) (prints n : ℕ) (t u : List ℕ) → n < length m.bodies → AreForms m.names prints (front_bodies n m.bodies) t → AreForms m.names prints (body_there (body_of m n)) u
    → AreForms m.names prints (front_bodies (n + 1) m.bodies) (t ++ u)
forms_more m prints n t u lt p q =
    subst (λ (k : List FuncState). AreForms m.names prints k (t ++ u)) (sym (take_more m.bodies n lt)) (forms_then m.names prints (front_bodies n m.bodies) (body_there (body_of m n)) t u p q)

few_in : (items : List Item) → length (funcs_in items) ≤ length items
few_in [] = omega arith
few_in (item.Kept _ ∷ items) = let h = few_in items in omega (arith, h)
few_in (item.Global _ _ ∷ items) = let h = few_in items in omega (arith, h)
few_in (item.Declared _ _ ∷ items) = let h = few_in items in omega (arith, h)
few_in (item.Defined _ ∷ items) = let h = few_in items in omega (arith, h)

-- the functions can be counted
pub few_funcs : (m : ModuleState) → IsWhole m → length m.sigs < 2 ^ 32
few_funcs m w = let h = few_in m.items in omega (arith, h, w.few, w.funcs.len, w.sigs)

pub same_count : (m : ModuleState) → IsWhole m → length m.sigs ≡ length m.bodies
same_count m w = w.sigs ∙ sym w.bodies

-- the forms of one function more behind others
abbrev pub HasMore : ModuleState → ℕ → ℕ → List ℕ → List ℕ → Type 0
HasMore m prints n old new = (forms : List ℕ) × AreForms m.names prints (body_there (body_of m n)) forms × (new ≡ old ++ forms)

abbrev pub HasFront : ModuleState → ℕ → ℕ → List ℕ → Type 0
HasFront m prints n text = AreForms m.names prints (front_bodies n m.bodies) text

pub front_more : (m k : ModuleState) (prints n : ℕ) (old new : List ℕ) → k ≡ m → n < length m.bodies → HasFront m prints n old → HasMore k prints n old new → HasFront m prints (n + 1) new
front_more m k prints n old new same lt p q =
    let r : HasMore m prints n old new = subst (λ (x : ModuleState). HasMore x prints n old new) same q in
    subst (λ (x : List ℕ). HasFront m prints (n + 1) x) (sym r.2) (forms_more m prints n old r.0 lt p r.1)

pub front_all : (m : ModuleState) (prints n : ℕ) (text : List ℕ) → length m.bodies ≤ n → HasFront m prints n text → AreForms m.names prints (bodies_there m) text
front_all m prints n text past p = subst (λ (xs : List (Option FuncState)). AreForms m.names prints (flat_map body_there xs) text) (take_all n m.bodies past) p

abbrev sigs_of : ModuleState → List Sig
sigs_of m = m.sigs

-- the number of a function is below their count
pub sig_within : (m k : ModuleState) (n : ℕ) (sig : Sig) → k ≡ m → Some sig ≡ slice_get k.sigs n → n < length m.sigs
sig_within m k n sig same at = slice_get_within m.sigs n sig (sym (at ∙ ap (λ (x : ModuleState). slice_get (sigs_of x) n) same))

past : (xs : List Sig) (n : ℕ) → None ≡ slice_get xs n → length xs ≤ n
past [] n e = omega arith
past (x ∷ xs) zero e = let k : false ≡ true = ap is_some e in absurd (cc)
past (x ∷ xs) (suc n) e = let h = past xs n e in omega (arith, h)

pub sig_past : (m k : ModuleState) (n : ℕ) → k ≡ m → None ≡ slice_get k.sigs n → length m.sigs ≤ n
sig_past m k n same at = past m.sigs n (at ∙ ap (λ (x : ModuleState). slice_get (sigs_of x) n) same)
