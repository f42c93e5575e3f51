-- Phis lose an entry for a block: what stays of them, and how many entries are left for each block.
use Rattle.std.proofs.Common.{◌≡◌, ◌≢◌, ◌∙◌, ◌<◌, ◌⊎◌, ◌+◌, ℕ, zero, suc, Bool, true, false, cond, List, [], ◌∷◌, length, map, Option, Some, None, refl, sym, ap, subst, inl, inr, arith}
use Rattle.std.specs.Prelude.{Contains, slice_get, option_map, filter, position, remove, ◌==◌, nat_lt}
use Rattle.std.specs.List.{position_or_len}
use Rattle.std.proofs.lemmas.Bool.{cases_Bool, cases_eq, cases_lt, lt-ltb, lt-leb, eqb-true, eq-eqb, ne_eqb, eqb-false, cond-true, cond-false, true≢false}
use Rattle.std.proofs.lemmas.Option.{slice_get-get_or, get_or_from_slice_get, slice_get_within, slice_get-map}
use Rattle.ms_ir.specs.declared.inst.Entry.{Entry}
use Rattle.ms_ir.specs.declared.inst.Inst.{Inst}
use Rattle.ms_ir.specs.declared.inst.Inst.TheVariants.{Phi}
use Rattle.ms_ir.specs.Inst.{has_result, result_type}
use Rattle.ms_ir.specs.Func.{Placed, Block, insts_at}
use Rattle.ms_ir.specs.Types.{is_alloca, is_phi, has_entry, types_stand}
use Rattle.ms_ir.specs.Changes.{is_from, without, without_first, inst_without, placed_without, with_entry_lost}
use Rattle.ms_ir.specs.Uses.{Operand, Use, operands_of, uses_at, entry_operand, entry_use}
use Rattle.ms_ir.specs.Sound.{times_in, from_of, HasTwoValues}
use Rattle.ms_ir.proofs.FuncLemmas.{map-remove}
use Rattle.ms_edited.proofs.Places.{behind, remove_moves}

-- ---- members of lists

contains_get : {A : Type 0} (xs : List A) (x : A) → Contains xs x → (k : ℕ) × (slice_get xs k ≡ Some x)
contains_get xs x (k, lt, is) = (k, slice_get-get_or xs k x lt ∙ ap Some is)

get_contains : {A : Type 0} (xs : List A) (k : ℕ) (x : A) → slice_get xs k ≡ Some x → Contains xs x
get_contains xs k x e = (k, slice_get_within xs k x e, get_or_from_slice_get xs k x x e)

-- what is made of the entries that are left is made of all
left_among : {A : Type 0} (F : Entry → A) (entries : List Entry) (at : Option ℕ) (y : A) → Contains (map F (without entries at)) y → Contains (map F entries) y
left_among F entries None y c = c
left_among F entries (Some at) y c =
    let r = contains_get (remove (map F entries) at) y (subst (λ ys. Contains ys y) (map-remove F entries at) c) in
    get_contains (map F entries) (behind at r.0) y (sym (remove_moves (map F entries) at r.0) ∙ r.1)

two_values : (entries : List Entry) (at : Option ℕ) → HasTwoValues (without entries at) → HasTwoValues entries
two_values entries None h = h
two_values entries (Some at) (j, k, d, e, dj, ek, from, val) = (behind at j, behind at k, d, e, sym (remove_moves entries at j) ∙ dj, sym (remove_moves entries at k) ∙ ek, from, val)

-- ---- how often a number stands in a list

pub times_one : (n x : ℕ) (xs : List ℕ) → x ≡ n → times_in n (x ∷ xs) ≡ suc (times_in n xs)
times_one n x xs e = ap (λ (ys : List ℕ). length ys) (cond-true (x == n) (x ∷ filter (λ y. y == n) xs) (filter (λ y. y == n) xs) (eq-eqb x n e))

pub times_none : (n x : ℕ) (xs : List ℕ) → (x ≡ n → ⊥) → times_in n (x ∷ xs) ≡ times_in n xs
times_none n x xs e = ap (λ (ys : List ℕ). length ys) (cond-false (x == n) (x ∷ filter (λ y. y == n) xs) (filter (λ y. y == n) xs) (ne_eqb x n e))

pub times_first : (n x : ℕ) (xs : List ℕ) → times_in n (x ∷ xs) ≡ times_in n (x ∷ []) + times_in n xs
times_first n x xs = elim (cases_eq x n) [
  | inl same ↦ (let a = times_one n x xs same in let b = times_one n x [] same in omega (arith, a, b))
  | inr other ↦ (let a = times_none n x xs other in let b = times_none n x [] other in omega (arith, a, b))
]

-- two numbers of which it is impossible that they differ are one
pub same_number : (a b : ℕ) → (a ≢ b → ⊥) → a ≡ b
same_number a b h = elim (cases_eq a b) [
  | inl same ↦ same
  | inr other ↦ absurd (h other)
]

-- ---- the first entry for a block

first_here : (b : ℕ) (e : Entry) (entries : List Entry) → is_from b e ≡ true → without_first b (e ∷ entries) ≡ entries
first_here b e entries t = rw t (ap (λ (p : Bool). without (e ∷ entries) (cond p (Some 0) None)) (lt-ltb 0 (suc (length entries)) (omega arith)))

later : (entries : List Entry) (e : Entry) (q n : ℕ) → without (e ∷ entries) (cond (nat_lt (suc q) (suc n)) (Some (suc q)) None) ≡ e ∷ without entries (cond (nat_lt q n) (Some q) None)
later entries e q n = elim (cases_lt q n) [
  | inl lt ↦
      ap (λ (p : Bool). without (e ∷ entries) (cond p (Some (suc q)) None)) (lt-ltb (suc q) (suc n) (omega (arith, lt)))
      ∙ ap (λ (p : Bool). e ∷ without entries (cond p (Some q) None)) (sym (lt-ltb q n lt))
  | inr le ↦
      ap (λ (p : Bool). without (e ∷ entries) (cond p (Some (suc q)) None)) (lt-leb (suc (suc q)) (suc n) (omega (arith, le)))
      ∙ ap (λ (p : Bool). e ∷ without entries (cond p (Some q) None)) (sym (lt-leb (suc q) n (omega (arith, le))))
]

first_later : (b : ℕ) (e : Entry) (entries : List Entry) → is_from b e ≡ false → without_first b (e ∷ entries) ≡ e ∷ without_first b entries
first_later b e entries f =
    let q : ℕ = position_or_len (is_from b) entries in
    let one_more : 1 + q ≡ suc q = omega arith in
    rw f (ap (λ r. without (e ∷ entries) (cond (nat_lt r (suc (length entries))) (Some r) None)) one_more ∙ later entries e q (length entries))

-- entries for other blocks stay
pub lost_other : (a b : ℕ) (entries : List Entry) → (a ≡ b → ⊥) → times_in a (map from_of (without_first b entries)) ≡ times_in a (map from_of entries)
lost_other a b [] ne = refl
lost_other a b (e ∷ entries) ne = elim (cases_Bool (is_from b e)) [
  | inl t ↦
      let of_b : e.from.0 ≡ b = eqb-true e.from.0 b t in
      ap (λ es. times_in a (map from_of es)) (first_here b e entries t) ∙ sym (times_none a e.from.0 (map from_of entries) (λ of_a. ne (sym of_a ∙ of_b)))
  | inr f ↦
      ap (λ es. times_in a (map from_of es)) (first_later b e entries f)
      ∙ times_first a e.from.0 (map from_of (without_first b entries))
      ∙ ap (λ k. times_in a (e.from.0 ∷ []) + k) (lost_other a b entries ne)
      ∙ sym (times_first a e.from.0 (map from_of entries))
]

-- one entry for the block is lost
pub lost_one : (b : ℕ) (entries : List Entry) → 0 < times_in b (map from_of entries) → suc (times_in b (map from_of (without_first b entries))) ≡ times_in b (map from_of entries)
lost_one b [] some = absurd (let l : 0 < 0 = some in omega arith)
lost_one b (e ∷ entries) some = elim (cases_Bool (is_from b e)) [
  | inl t ↦ ap (λ es. suc (times_in b (map from_of es))) (first_here b e entries t) ∙ sym (times_one b e.from.0 (map from_of entries) (eqb-true e.from.0 b t))
  | inr f ↦
      let other : e.from.0 ≡ b → ⊥ = eqb-false e.from.0 b f in
      let same = times_none b e.from.0 (map from_of entries) other in
      ap (λ es. suc (times_in b (map from_of es))) (first_later b e entries f)
      ∙ ap suc (times_none b e.from.0 (map from_of (without_first b entries)) other)
      ∙ lost_one b entries (omega (arith, some, same))
      ∙ sym same
]

-- ---- an instruction of block c, where the phis of block at lose their first entry for block from

abbrev pub lost_inst : ℕ → ℕ → ℕ → Inst → Inst
lost_inst zero from zero inst = inst_without from inst
lost_inst zero from (suc c) inst = inst
lost_inst (suc at) from zero inst = inst
lost_inst (suc at) from (suc c) inst = lost_inst at from c inst

abbrev pub lost : ℕ → ℕ → ℕ → Placed → Placed
lost at from c x = record x { inst = lost_inst at from c x.inst }

pub lost_cases : (at from c : ℕ) (inst : Inst) → ((c ≡ at) × (lost_inst at from c inst ≡ inst_without from inst)) ⊎ ((c ≡ at → ⊥) × (lost_inst at from c inst ≡ inst))
lost_cases zero from zero inst = inl (refl, refl)
lost_cases zero from (suc c) inst = inr (λ e. omega (arith, e), refl)
lost_cases (suc at) from zero inst = inr (λ e. omega (arith, e), refl)
lost_cases (suc at) from (suc c) inst = elim (lost_cases at from c inst) [
  | inl here ↦ inl (ap suc here.0, here.1)
  | inr other ↦ inr (λ e. other.0 (omega (arith, e)), other.1)
]

-- what an entry less does not change
lost_same : {A : Type 0} (F : Inst → A) (from : ℕ) → ((inst : Inst) → F (inst_without from inst) ≡ F inst) → (at c : ℕ) (inst : Inst) → F (lost_inst at from c inst) ≡ F inst
lost_same F from same zero zero inst = same inst
lost_same F from same zero (suc c) inst = refl
lost_same F from same (suc at) zero inst = refl
lost_same F from same (suc at) (suc c) inst = lost_same F from same at c inst

types_without : (from : ℕ) (inst : Inst) → types_stand (inst_without from inst) ≡ types_stand inst
types_without from (Phi ty entries tail) = refl
types_without from inst = refl

alloca_without : (from : ℕ) (inst : Inst) → is_alloca (inst_without from inst) ≡ is_alloca inst
alloca_without from (Phi ty entries tail) = refl
alloca_without from inst = refl

phi_without : (from : ℕ) (inst : Inst) → is_phi (inst_without from inst) ≡ is_phi inst
phi_without from (Phi ty entries tail) = refl
phi_without from inst = refl

result_without : (from : ℕ) (inst : Inst) → has_result (inst_without from inst) ≡ has_result inst
result_without from (Phi ty entries tail) = refl
result_without from inst = refl

type_without : (from : ℕ) (inst : Inst) → result_type (inst_without from inst) ≡ result_type inst
type_without from (Phi ty entries tail) = refl
type_without from inst = refl

pub lost_types : (at from c : ℕ) (inst : Inst) → types_stand (lost_inst at from c inst) ≡ types_stand inst
lost_types at from c inst = lost_same types_stand from (types_without from) at c inst

pub lost_alloca : (at from c : ℕ) (inst : Inst) → is_alloca (lost_inst at from c inst) ≡ is_alloca inst
lost_alloca at from c inst = lost_same is_alloca from (alloca_without from) at c inst

pub lost_phi : (at from c : ℕ) (inst : Inst) → is_phi (lost_inst at from c inst) ≡ is_phi inst
lost_phi at from c inst = lost_same is_phi from (phi_without from) at c inst

pub lost_result : (at from c : ℕ) (inst : Inst) → has_result (lost_inst at from c inst) ≡ has_result inst
lost_result at from c inst = lost_same has_result from (result_without from) at c inst

pub lost_type : (at from c : ℕ) (inst : Inst) → result_type (lost_inst at from c inst) ≡ result_type inst
lost_type at from c inst = lost_same result_type from (type_without from) at c inst

operands_without : (from : ℕ) (inst : Inst) (o : Operand) → Contains (operands_of (inst_without from inst)) o → Contains (operands_of inst) o
operands_without from (Phi ty entries tail) o c = left_among (entry_operand ty) entries (position (is_from from) entries) o c
operands_without from inst o c = c

uses_without : (blocks : List Block) (b k from : ℕ) (inst : Inst) (u : Use) → Contains (uses_at blocks b k (inst_without from inst)) u → Contains (uses_at blocks b k inst) u
uses_without blocks b k from (Phi ty entries tail) u c = left_among (entry_use blocks) entries (position (is_from from) entries) u c
uses_without blocks b k from inst u c = c

pub lost_operands : (at from c : ℕ) (inst : Inst) (o : Operand) → Contains (operands_of (lost_inst at from c inst)) o → Contains (operands_of inst) o
lost_operands zero from zero inst o h = operands_without from inst o h
lost_operands zero from (suc c) inst o h = h
lost_operands (suc at) from zero inst o h = h
lost_operands (suc at) from (suc c) inst o h = lost_operands at from c inst o h

pub lost_uses : (blocks : List Block) (b k at from c : ℕ) (inst : Inst) (u : Use) → Contains (uses_at blocks b k (lost_inst at from c inst)) u → Contains (uses_at blocks b k inst) u
lost_uses blocks b k zero from zero inst u h = uses_without blocks b k from inst u h
lost_uses blocks b k zero from (suc c) inst u h = h
lost_uses blocks b k (suc at) from zero inst u h = h
lost_uses blocks b k (suc at) from (suc c) inst u h = lost_uses blocks b k at from c inst u h

pub two_without : (b : ℕ) (entries : List Entry) → HasTwoValues (without_first b entries) → HasTwoValues entries
two_without b entries h = two_values entries (position (is_from b) entries) h

-- only a phi is without an entry
pub no_entry : (inst : Inst) → has_entry inst ≡ false → is_phi inst ≡ true
no_entry (Phi ty entries tail) e = refl
no_entry inst e = absurd (true≢false e)

-- ---- blocks

unchanged : (at from c : ℕ) (o : Option Placed) → ((inst : Inst) → lost_inst at from c inst ≡ inst) → o ≡ option_map (lost at from c) o
unchanged at from c None same = refl
unchanged at from c (Some x) same =
    let make : Inst → Placed = λ i. record x { inst = i } in
    ap (λ i. Some (make i)) (sym (same x.inst))

pub lost_at : (blocks : List Block) (at from c k : ℕ) → slice_get (insts_at (with_entry_lost blocks at from) c) k ≡ option_map (lost at from c) (slice_get (insts_at blocks c) k)
lost_at [] at from c k = refl
lost_at (x ∷ blocks) zero from zero k = slice_get-map (placed_without from) x.insts k
lost_at (x ∷ blocks) zero from (suc c) k = unchanged zero from (suc c) (slice_get (insts_at blocks c) k) (λ inst. refl)
lost_at (x ∷ blocks) (suc at) from zero k = unchanged (suc at) from zero (slice_get x.insts k) (λ inst. refl)
lost_at (x ∷ blocks) (suc at) from (suc c) k = lost_at blocks at from c k
