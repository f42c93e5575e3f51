-- Each local that a function names has a type.
use Rattle.std.proofs.Common.{◌≡◌, ◌∙◌, ◌⊎◌, ◌<◌, ◌≤◌, ◌+◌, ℕ, zero, suc, Bool, true, false, cond, List, [], ◌∷◌, ◌++◌, length, map, Option, Some, None, refl, sym, ap, subst, inl, inr, ⊎_elim, arith}
use Rattle.std.specs.Prelude.{filter, not, slice_get}
use Rattle.std.specs.List.{flat_map}
use Rattle.std.proofs.lemmas.Bool.{cases_Bool}
use Rattle.std.proofs.lemmas.List.{length-map, length-append}
use Rattle.std.proofs.lemmas.List.Elements.{filter-append}
use Rattle.ms_ir.specs.declared.names.Name.{Name}
use Rattle.ms_ir.specs.declared.names.Ty.{Ty}
use Rattle.ms_ir.specs.declared.names.Param.{Param}
use Rattle.ms_ir.specs.declared.names.LocalNo.{LocalNo}
use Rattle.ms_ir.specs.Inst.{result_type}
use Rattle.ms_ir.specs.Func.{Placed, insts_at}
use Rattle.ms_ir.specs.Locals.{HasType}
use Rattle.ms_resolve.specs.Shape.{LabelLine, InstLine, BlockLines, FuncLines}
use Rattle.ms_resolve.specs.Made.{Made, makes, made_in, named_from, named_in, param_made, inst_made, label_made, block_made, locals_of, name_of_made, full_name, free_behind, is_same_name}
use Rattle.ms_resolve.specs.Scope.{Scope, placed_at, local_behind, locals_behind, insts_from, blocks_from, all_locals, params_from, func_of, number_of_name}
use Rattle.ms_resolve.specs.Faults.{IsIn}
use Rattle.ms_validity.proofs.BuiltLemmas.{first_below}
use Rattle.ms_validity.proofs.ListLemmas.{in_nil}
use Rattle.ms_valid.proofs.Values.{makes_typed}

-- How many locals there are.

abbrev count : List Made → ℕ
count ms = length (filter (λ (m : Made). not m.is_block) ms)

count_append : (xs ys : List Made) → count (xs ++ ys) ≡ count xs + count ys
count_append xs ys = ap length (filter-append (λ (m : Made). not m.is_block) xs ys) ∙ length-append _ _

count_named : (n : ℕ) (ms : List Made) → count (named_from n ms) ≡ count ms
count_named n [] = refl
count_named n (m ∷ ms) = by (not m.is_block) (count_named (free_behind n m.name) ms)
  where
    by : (b : Bool) → count (named_from (free_behind n m.name) ms) ≡ count ms
        → length (cond b (record m { name = full_name n m.name } ∷ filter (λ (x : Made). not x.is_block) (named_from (free_behind n m.name) ms)) (filter (λ (x : Made). not x.is_block) (named_from (free_behind n m.name) ms)))
        ≡ length (cond b (m ∷ filter (λ (x : Made). not x.is_block) ms) (filter (λ (x : Made). not x.is_block) ms))
    by true e = ap suc e
    by false e = e

count_params : (n : ℕ) (ps : List Param) → count (map (param_made n) ps) ≡ length ps
count_params n [] = refl
count_params n (p ∷ ps) = ap suc (count_params n ps)

count_insts : (l : ℕ) (xs : List InstLine) → locals_behind l xs ≡ l + count (flat_map inst_made xs)
count_insts l [] = omega arith
count_insts l (x ∷ xs) = by (makes x.inst) (count_insts (cond (makes x.inst) (suc l) l) xs) ∙ ap (λ (n : ℕ). l + n) (sym (count_append (inst_made x) (flat_map inst_made xs)))
  where
    by : (b : Bool) → locals_behind (cond b (suc l) l) xs ≡ cond b (suc l) l + count (flat_map inst_made xs)
        → locals_behind (cond b (suc l) l) xs ≡ l + (count (cond b (record { line = x.line; is_block = false; name = x.name } ∷ []) []) + count (flat_map inst_made xs))
    by true e = e ∙ omega arith
    by false e = e ∙ omega arith

count_label : (n : ℕ) (l : Option LabelLine) (rest : List Made) → count (label_made n l ∷ rest) ≡ count rest
count_label n None rest = refl
count_label n (Some l) rest = refl

count_blocks : (n l : ℕ) (bs : List BlockLines) → all_locals l bs ≡ l + count (flat_map (block_made n) bs)
count_blocks n l [] = omega arith
count_blocks n l (b ∷ bs) =
    let here = count_insts l b.insts in
    let rest = count_blocks n (locals_behind l b.insts) bs in
    let label = count_label n b.label (flat_map inst_made b.insts) in
    let whole = count_append (block_made n b) (flat_map (block_made n) bs) in
    omega arith

names_length : (l : FuncLines) → length (locals_of l) ≡ all_locals (length l.head.params) l.blocks
names_length l =
    let params = count_params l.line l.head.params in
    let blocks = count_blocks l.line (length l.head.params) l.blocks in
    length-map (filter (λ (m : Made). not m.is_block) (named_in l)) name_of_made ∙ count_named 0 (made_in l)
    ∙ count_append (map (param_made l.line) l.head.params) (flat_map (block_made l.line) l.blocks) ∙ omega arith

-- a name that is not nowhere has a number
number_below : (names : List Name) (n : Name) → ((IsIn names n → ⊥) → ⊥) → number_of_name names n < length names
number_below [] n h = absurd (h (in_nil n))
number_below (x ∷ names) n h = first_below (is_same_name n) (x ∷ names) (omega arith)

-- Which instruction gives a local.

abbrev pub local_at : ℕ → LocalNo
local_at k = record { 0 = k }

record GivenIn (insts : List Placed) (k : ℕ) : Type 0 where
  place : ℕ
  inst : Placed
  ty : Ty
  found : slice_get insts place ≡ Some inst
  result : inst.result ≡ Some (local_at k)
  typed : result_type inst.inst ≡ Some ty

one_more : (x : Placed) (insts : List Placed) (k : ℕ) → GivenIn insts k → GivenIn (x ∷ insts) k
one_more x insts k g = record { place = suc g.place; inst = g.inst; ty = g.ty; found = g.found; result = g.result; typed = g.typed }

given_in : (s : Scope) (n l : ℕ) (xs : List InstLine) (k : ℕ) → l ≤ k → k < locals_behind l xs → GivenIn (insts_from s n l xs) k
given_in s n l [] k low high = absurd (omega arith)
given_in s n l (x ∷ xs) k low high =
    ⊎_elim
    (λ (t : makes x.inst ≡ true).
    let up : local_behind l x ≡ suc l = ap (λ (b : Bool). cond b (suc l) l) t in
    ⊎_elim
    (λ (e : k ≡ l).
    let made = makes_typed s x.inst t in
    record {
      place = 0;
      inst = placed_at s n l x;
      ty = made.0;
      found = refl;
      result = ap (λ (b : Bool). cond b (Some (local_at l)) None) t ∙ ap (λ (j : ℕ). Some (local_at j)) (sym e);
      typed = made.1;
    })
    (λ (less : suc l ≤ k). one_more (placed_at s n l x) (insts_from s (suc n) (local_behind l x) xs) k (given_in s (suc n) (local_behind l x) xs k (omega arith) high))
    (at_or_above l k low))
    (λ (f : makes x.inst ≡ false).
    let same : local_behind l x ≡ l = ap (λ (b : Bool). cond b (suc l) l) f in
    one_more (placed_at s n l x) (insts_from s (suc n) (local_behind l x) xs) k (given_in s (suc n) (local_behind l x) xs k (omega arith) high))
    (cases_Bool (makes x.inst))
  where
    at_or_above : (l k : ℕ) → l ≤ k → (k ≡ l) ⊎ (suc l ≤ k)
    at_or_above l k h = grind (arith)

record GivenAt (s : Scope) (b n l : ℕ) (bs : List BlockLines) (k : ℕ) : Type 0 where
  block : ℕ
  place : ℕ
  inst : Placed
  ty : Ty
  found : slice_get (insts_at (blocks_from s b n l bs) block) place ≡ Some inst
  result : inst.result ≡ Some (local_at k)
  typed : result_type inst.inst ≡ Some ty

below_or_above : (k n : ℕ) → (k < n) ⊎ (n ≤ k)
below_or_above k n = grind (arith)

given_at : (s : Scope) (b n l : ℕ) (bs : List BlockLines) (k : ℕ) → l ≤ k → k < all_locals l bs → GivenAt s b n l bs k
given_at s b n l [] k low high = absurd (omega arith)
given_at s b n l (y ∷ bs) k low high =
    ⊎_elim
    (λ (here : k < locals_behind l y.insts).
    let g = given_in s n l y.insts k low here in
    record { block = 0; place = g.place; inst = g.inst; ty = g.ty; found = g.found; result = g.result; typed = g.typed })
    (λ (later : locals_behind l y.insts ≤ k).
    let g = given_at s (suc b) (n + length y.insts) (locals_behind l y.insts) bs k later high in
    record { block = suc g.block; place = g.place; inst = g.inst; ty = g.ty; found = g.found; result = g.result; typed = g.typed })
    (below_or_above k (locals_behind l y.insts))

param_there : (s : Scope) (l : ℕ) (ps : List Param) (k : ℕ) → k < length ps → (p : Param) × (slice_get (params_from s l ps) k ≡ Some p)
param_there s l [] k h = absurd (omega arith)
param_there s l (p ∷ ps) zero h = (_, refl)
param_there s l (p ∷ ps) (suc k) h = param_there s (suc l) ps k (omega arith)

local_typed : (s : Scope) (spare : ℕ) (l : FuncLines) (k : ℕ) → k < length (locals_of l) → (ty : Ty) × HasType (func_of s spare l) (local_at k) ty
local_typed s spare l k h =
    ⊎_elim
    (λ (param : k < length l.head.params). let p = param_there s 0 l.head.params k param in (p.0.ty, inl (p.0, p.1, refl)))
    (λ (result : length l.head.params ≤ k).
    let size = names_length l in
    let g = given_at s 0 0 (length l.head.params) l.blocks k result (omega arith) in
    (g.ty, inr (g.block, g.place, g.inst, record { found = g.found; gives = g.result }, g.typed)))
    (below_or_above k (length l.head.params))

-- a local that is named has a type
pub named_typed : (s : Scope) (spare : ℕ) (l : FuncLines) (n : Name) → s.locals ≡ locals_of l → ((IsIn (locals_of l) n → ⊥) → ⊥) →
    (ty : Ty) × HasType (func_of s spare l) (local_at (number_of_name s.locals n)) ty
named_typed s spare l n same there =
    local_typed s spare l (number_of_name s.locals n) (subst (λ (names : List Name). number_of_name names n < length (locals_of l)) (sym same) (number_below (locals_of l) n there))
