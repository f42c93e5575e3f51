-- The blocks of a function as its lines give them.
use Rattle.std.proofs.Common.{◌≡◌, ℕ, zero, suc, ◌+◌, ◌<◌, cond, Bool, true, false, List, [], ◌∷◌, ◌++◌, length, map, get_or, Option, Some, None, refl, sym, ap, ◌∙◌, subst, add-zero, ⊎_elim, arith}
use Rattle.std.specs.Prelude.{Contains, position, nat_lt, filter}
use Rattle.std.specs.List.{slice_get, flat_map, position_or_len}
use Rattle.std.proofs.lemmas.Bool.{cond_both, ltb-true}
use Rattle.std.proofs.lemmas.List.{length-map, length-append}
use Rattle.std.proofs.lemmas.List.Elements.{filter-append}
use Rattle.std.proofs.lemmas.Option.{none-some, same_Some}
use Rattle.ms_paths.specs.Flow.{IsClosed}
use Rattle.ms_ir.specs.declared.names.Name.{Name}
use Rattle.ms_ir.specs.declared.names.Param.{Param}
use Rattle.ms_ir.specs.Func.{Placed, Block, insts_at, no_block}
use Rattle.ms_ir.specs.Graph.{graph_of, successors}
use Rattle.ms_flow.proofs.Members.{in_none, in_cons}
use Rattle.ms_grammar.specs.declared.line.RawTerm.{RawTerm}
use Rattle.ms_grammar.specs.declared.line.RawTerm.TheVariants.{Br, CondBr, Ret, Unreachable}
use Rattle.ms_resolve.specs.Shape.{InstLine, BlockLines, FuncLines, LabelLine, HasBlocks}
use Rattle.ms_resolve.specs.Made.{Made, made_in, named_from, named_in, param_made, inst_made, label_made, block_made, blocks_of, name_of_made, full_name, free_behind, is_same_name, makes}
use Rattle.ms_resolve.specs.Scope.{Scope, inst_of, term_of, placed_at, local_behind, locals_behind, insts_from, blocks_from, func_of, or_first, number_of_name}
use Rattle.ms_resolve.specs.Module.{inst_lines_in, line_of_inst}
use Rattle.ms_validity.proofs.ListLemmas.{get_left, get_right, map_get}
use Rattle.ms_validity.proofs.SourceLemmas.{next_at, graph_length}

built_inst : (s : Scope) (n l : ℕ) (xs : List InstLine) (k : ℕ) (x : Placed) → slice_get (insts_from s n l xs) k ≡ Some x
    → (line : InstLine) × (slice_get xs k ≡ Some line) × (x.inst ≡ inst_of s line.inst) × (x.number ≡ n + k)
built_inst s n l [] k x e = absurd (none-some x e)
built_inst s n l (y ∷ xs) zero x e =
    let same = same_Some (placed_at s n l y) x e in
    (y, refl, ap (λ (p : Placed). p.inst) (sym same), ap (λ (p : Placed). p.number) (sym same) ∙ sym (add-zero n))
built_inst s n l (y ∷ xs) (suc k) x e =
    let r = built_inst s (suc n) (local_behind l y) xs k x e in
    let number = r.3 in
    (r.0, r.1, r.2, omega arith)

inst_built : (s : Scope) (n l : ℕ) (xs : List InstLine) (k : ℕ) (line : InstLine) → slice_get xs k ≡ Some line
    → (x : Placed) × (slice_get (insts_from s n l xs) k ≡ Some x) × (x.inst ≡ inst_of s line.inst)
inst_built s n l [] k line e = absurd (none-some line e)
inst_built s n l (y ∷ xs) zero line e =
    let same = same_Some y line e in
    (placed_at s n l y, refl, ap (λ (z : InstLine). inst_of s z.inst) same)
inst_built s n l (y ∷ xs) (suc k) line e = inst_built s (suc n) (local_behind l y) xs k line e

-- an instruction comes from a line, whose number stands by the instruction's
pub built_at : (s : Scope) (b0 n l : ℕ) (bs : List BlockLines) (b k : ℕ) (x : Placed) → slice_get (insts_at (blocks_from s b0 n l bs) b) k ≡ Some x
    → (block : BlockLines) × (line : InstLine) × (slice_get bs b ≡ Some block) × (slice_get block.insts k ≡ Some line) × (x.inst ≡ inst_of s line.inst)
    × ((j : ℕ) × (x.number ≡ n + j) × (slice_get (flat_map inst_lines_in bs) j ≡ Some line.line))
built_at s b0 n l [] b k x e = absurd (none-some x e)
built_at s b0 n l (y ∷ bs) zero k x e =
    let r = built_inst s n l y.insts k x e in
    (y, r.0, refl, r.1, r.2, (k, r.3, get_left (map line_of_inst y.insts) (flat_map inst_lines_in bs) k r.0.line (map_get line_of_inst y.insts k r.0 r.1)))
built_at s b0 n l (y ∷ bs) (suc b) k x e =
    let r = built_at s (suc b0) (n + length y.insts) (locals_behind l y.insts) bs b k x e in
    let number = r.5.1 in
    let right = get_right (map line_of_inst y.insts) (flat_map inst_lines_in bs) r.5.0 r.1.line r.5.2 in (
      r.0,
      r.1,
      r.2,
      r.3,
      r.4,
      (
        length y.insts + r.5.0,
        omega arith,
        subst (λ q. slice_get (map line_of_inst y.insts ++ flat_map inst_lines_in bs) (q + r.5.0) ≡ Some r.1.line) (length-map y.insts line_of_inst) right,
      ),
    )

-- and each line gives an instruction
pub at_built : (s : Scope) (b0 n l : ℕ) (bs : List BlockLines) (b k : ℕ) (block : BlockLines) (line : InstLine) → slice_get bs b ≡ Some block → slice_get block.insts k ≡ Some line
    → (x : Placed) × (slice_get (insts_at (blocks_from s b0 n l bs) b) k ≡ Some x) × (x.inst ≡ inst_of s line.inst)
at_built s b0 n l [] b k block line e f = absurd (none-some block e)
at_built s b0 n l (y ∷ bs) zero k block line e f =
    let same = same_Some y block e in
    inst_built s n l y.insts k line (subst (λ (z : BlockLines). slice_get z.insts k ≡ Some line) (sym same) f)
at_built s b0 n l (y ∷ bs) (suc b) k block line e f = at_built s (suc b0) (n + length y.insts) (locals_behind l y.insts) bs b k block line e f

pub term_from : (s : Scope) (b0 n l : ℕ) (bs : List BlockLines) (b : ℕ) (x : Block) → slice_get (blocks_from s b0 n l bs) b ≡ Some x
    → (block : BlockLines) × (slice_get bs b ≡ Some block) × (x.term ≡ term_of s block.end.term)
term_from s b0 n l [] b x e = absurd (none-some x e)
term_from s b0 n l (y ∷ bs) zero x e = (y, refl, ap (λ (z : Block). z.term) (sym (same_Some _ x e)))
term_from s b0 n l (y ∷ bs) (suc b) x e = term_from s (suc b0) (n + length y.insts) (locals_behind l y.insts) bs b x e

pub from_term : (s : Scope) (b0 n l : ℕ) (bs : List BlockLines) (b : ℕ) (block : BlockLines) → slice_get bs b ≡ Some block
    → (x : Block) × (slice_get (blocks_from s b0 n l bs) b ≡ Some x)
from_term s b0 n l [] b block e = absurd (none-some block e)
from_term s b0 n l (y ∷ bs) zero block e = (_, refl)
from_term s b0 n l (y ∷ bs) (suc b) block e = from_term s (suc b0) (n + length y.insts) (locals_behind l y.insts) bs b block e

built_length : (s : Scope) (b0 n l : ℕ) (bs : List BlockLines) → length (blocks_from s b0 n l bs) ≡ length bs
built_length s b0 n l [] = refl
built_length s b0 n l (y ∷ bs) = ap suc (built_length s (suc b0) (n + length y.insts) (locals_behind l y.insts) bs)

-- a function has a name for each block
abbrev count : List Made → ℕ
count ms = length (filter (λ (m : Made). m.is_block) ms)

count_append : (xs ys : List Made) → count (xs ++ ys) ≡ count xs + count ys
count_append xs ys = ap length (filter-append (λ (m : Made). m.is_block) xs ys) ∙ length-append _ _

count_named : (n : ℕ) (ms : List Made) → count (named_from n ms) ≡ count ms
count_named n [] = refl
count_named n (m ∷ ms) = by m.is_block (count_named (free_behind n m.name) ms)
  where
    by : (b : Bool) → count (named_from (free_behind n m.name) ms) ≡ count ms → length (cond b (record m { name = full_name n m.name } ∷ filter (λ (x : Made). x.is_block) (named_from (free_behind n m.name) ms)) (filter (λ (x : Made). x.is_block) (named_from (free_behind n m.name) ms)))
        ≡ length (cond b (m ∷ filter (λ (x : Made). x.is_block) ms) (filter (λ (x : Made). x.is_block) ms))
    by true e = ap suc e
    by false e = e

count_params : (n : ℕ) (ps : List Param) → count (map (param_made n) ps) ≡ 0
count_params n [] = refl
count_params n (p ∷ ps) = count_params n ps

count_inst : (x : InstLine) → count (inst_made x) ≡ 0
count_inst x = cond_both (makes x.inst) (record { line = x.line; is_block = false; name = x.name } ∷ []) [] (λ (l : List Made). count l ≡ 0) (λ e. refl) (λ e. refl)

count_insts : (xs : List InstLine) → count (flat_map inst_made xs) ≡ 0
count_insts [] = refl
count_insts (x ∷ xs) =
    let here = count_inst x in
    let rest = count_insts xs in
    count_append (inst_made x) (flat_map inst_made xs) ∙ omega arith

label_block : (n : ℕ) (l : Option LabelLine) → (label_made n l).is_block ≡ true
label_block n None = refl
label_block n (Some l) = refl

count_block : (n : ℕ) (b : BlockLines) → count (block_made n b) ≡ 1
count_block n b = rw (label_block n b.label) (ap suc (count_insts b.insts))

count_blocks : (n : ℕ) (bs : List BlockLines) → count (flat_map (block_made n) bs) ≡ length bs
count_blocks n [] = refl
count_blocks n (b ∷ bs) =
    let here = count_block n b in
    let rest = count_blocks n bs in
    count_append (block_made n b) (flat_map (block_made n) bs) ∙ omega arith

names_length : (l : FuncLines) → length (blocks_of l) ≡ length l.blocks
names_length l =
    let params = count_params l.line l.head.params in
    let blocks = count_blocks l.line l.blocks in
    length-map (filter (λ (m : Made). m.is_block) (named_in l)) name_of_made ∙ count_named 0 (made_in l)
    ∙ count_append (map (param_made l.line) l.head.params) (flat_map (block_made l.line) l.blocks) ∙ omega arith

pub first_below : (p : Name → Bool) (xs : List Name) → 0 < length xs → or_first (position p xs) < length xs
first_below p xs lt =
    cond_both (nat_lt (position_or_len p xs) (length xs)) (Some (position_or_len p xs)) None (λ (o : Option ℕ). or_first o < length xs)
    (λ e. ltb-true (position_or_len p xs) (length xs) e) (λ e. lt)

-- the targets of a terminator are blocks of the function
target_below : (s : Scope) (t : RawTerm) (b n : ℕ) → 0 < n → length s.blocks ≡ n → Contains (successors (term_of s t)) b → b < n
target_below s (Br to rest) b n lt len on =
    let below = first_below (is_same_name to) s.blocks (omega arith) in
    ⊎_elim (λ (e : number_of_name s.blocks to ≡ b). omega arith) (λ (k : Contains [] b). absurd (in_none b k)) (in_cons (number_of_name s.blocks to) [] b on)
target_below s (CondBr val a c rest) b n lt len on =
    let below = first_below (is_same_name a) s.blocks (omega arith) in
    let other = first_below (is_same_name c) s.blocks (omega arith) in
    ⊎_elim (λ (e : number_of_name s.blocks a ≡ b). omega arith)
    (λ (k : Contains (number_of_name s.blocks c ∷ []) b).
    ⊎_elim (λ (e : number_of_name s.blocks c ≡ b). omega arith) (λ (m : Contains [] b). absurd (in_none b m)) (in_cons (number_of_name s.blocks c) [] b k))
    (in_cons (number_of_name s.blocks a) (number_of_name s.blocks c ∷ []) b on)
target_below s (Ret given rest) b n lt len on = absurd (in_none b on)
target_below s (Unreachable rest) b n lt len on = absurd (in_none b on)

successors_at : (s : Scope) (b0 n l : ℕ) (bs : List BlockLines) (a b : ℕ) → Contains (successors (get_or (blocks_from s b0 n l bs) a no_block).term) b
    → (t : RawTerm) × Contains (successors (term_of s t)) b
successors_at s b0 n l [] a b on = absurd (in_none b on)
successors_at s b0 n l (y ∷ bs) zero b on = (y.end.term, on)
successors_at s b0 n l (y ∷ bs) (suc a) b on = successors_at s (suc b0) (n + length y.insts) (locals_behind l y.insts) bs a b on

has_first : (bs : List BlockLines) → HasBlocks bs → 0 < length bs
has_first [] h = absurd h
has_first (b ∷ bs) h = omega arith

pub built_closed : (s : Scope) (spare : ℕ) (l : FuncLines) → s.blocks ≡ blocks_of l → HasBlocks l.blocks → IsClosed (graph_of (func_of s spare l).blocks)
built_closed s spare l names has =
    let blocks = (func_of s spare l).blocks in
    let len = graph_length blocks in
    let built = built_length s 0 0 (length l.head.params) l.blocks in
    let first = has_first l.blocks has in
    let named : length s.blocks ≡ length l.blocks = ap length names ∙ names_length l in
    record {
      has_entry = omega arith;
      edges_in = λ a b edge.
          let r = successors_at s 0 0 (length l.head.params) l.blocks a b (subst (λ (q : List ℕ). Contains q b) (next_at blocks a) edge) in
          let lt = target_below s r.0 b (length l.blocks) first named r.1 in
          omega arith;
    }
