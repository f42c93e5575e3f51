-- The names under which a function is printed are those along its lines.
use Rattle.std.proofs.Common.{◌≡◌, ◌≤◌, ◌<◌, ◌+◌, ◌==◌, inl, inr, ℕ, suc, Bool, true, false, List, [], ◌∷◌, Some, None, map, length, if◌then◌else◌, refl, sym, ap, subst, ◌∙◌, arith, length-append}
use Rattle.std.specs.Prelude.{slice_index_or, is_some}
use Rattle.std.proofs.lemmas.Bool.{cases_lt, eqb-true}
use Rattle.std.proofs.lemmas.Bool.Decides.{nat_tests}
use Rattle.std.proofs.lemmas.List.{get_or_past, get_or_append_left}
use mathlib.Core.Path.{fun_ext}
use Rattle.ms_ir.specs.declared.names.Name.{Name}
use Rattle.ms_ir.specs.declared.names.Name.TheVariants.{Absent}
use Rattle.ms_ir.specs.declared.names.Param.{Param}
use Rattle.ms_ir.specs.declared.names.LocalNo.{LocalNo}
use Rattle.ms_ir.specs.Symbols.{NamesState}
use Rattle.ms_ir.specs.Func.{Block}
use Rattle.ms_resolve.specs.Shape.{InstLine, BlockLines, FuncLines}
use Rattle.ms_resolve.specs.Made.{makes}
use Rattle.ms_resolve.specs.Scope.{Scope, term_of, local_behind, locals_behind, all_locals}
use Rattle.ms_print.specs.Numbering.{shown_name, free_after, shown_params, free_after_params, free_after_inst, free_after_insts, free_after_block, shown_labels, is_given, name_among, name_in, param_name, name_of_param, local_name, labels_of}
use Rattle.ms_print.specs.Lines.{Shown, shown_in}
use Rattle.ms_again.specs.Same.{own_name, plain_param}
use Rattle.ms_again.proofs.SameText.{shown_own, free_own, params_plain, free_params_plain}
use Rattle.ms_again.proofs.Names.{Naming, shown, label_name, param_names, params_free, inst_free, insts_free, block_free, results, result_of, all_results, block_names, locals_listed, blocks_listed, AlongInsts, AlongBlocks, func_along, param_count}
use Rattle.ms_again.proofs.Plain.{plain_at, plain_insts, plain_blocks, plain_of}

-- the next free numbers
params_next : (next : ℕ) (ps : List Param) → free_after_params next ps ≡ params_free shown next ps
params_next next [] = refl
params_next next (p ∷ ps) = params_next (free_after next p.name) ps

pub start_is : (ps : List Param) → free_after_params 0 (map plain_param ps) ≡ params_free shown 0 ps
start_is ps = free_params_plain 0 ps ∙ params_next 0 ps

made_next : (b : Bool) (next : ℕ) (n : Name) (l : LocalNo) →
    (if is_some (if b then Some l else None) then free_after next (if b then own_name n else Absent) else next) ≡ (if b then free_after next n else next)
made_next true next n l = free_own next n
made_next false next n l = refl

inst_next : (s : Scope) (next n l : ℕ) (x : InstLine) → free_after_inst next (plain_at s n l x) ≡ inst_free shown next x
inst_next s next n l x = made_next (makes x.inst) next x.name (record { 0 = l })

insts_next : (s : Scope) (next n l : ℕ) (xs : List InstLine) → free_after_insts next (plain_insts s n l xs) ≡ insts_free shown next xs
insts_next s next n l [] = refl
insts_next s next n l (x ∷ xs) =
    ap (λ k. free_after_insts k (plain_insts s (suc n) (local_behind l x) xs)) (inst_next s next n l x) ∙ insts_next s (inst_free shown next x) (suc n) (local_behind l x) xs

abbrev pub plain_block_at : Scope → ℕ → ℕ → BlockLines → Block
plain_block_at s n l x = record { name = own_name (label_name x.label); insts = plain_insts s n l x.insts; term = term_of s x.end.term }

block_next : (s : Scope) (next n l : ℕ) (x : BlockLines) → free_after_block next (plain_block_at s n l x) ≡ block_free shown next x
block_next s next n l x =
    ap (λ k. free_after_insts k (plain_insts s n l x.insts)) (free_own next (label_name x.label)) ∙ insts_next s (free_after next (label_name x.label)) n l x.insts

-- the printed names of blocks
labels_next : (s : Scope) (next n l : ℕ) (bs : List BlockLines) → shown_labels next (plain_blocks s n l bs) ≡ block_names shown next bs
labels_next s next n l [] = refl
labels_next s next n l (x ∷ xs) =
    ap (λ (m : Name). m ∷ shown_labels (free_after_block next (plain_block_at s n l x)) (plain_blocks s (n + length x.insts) (locals_behind l x.insts) xs)) (shown_own next (label_name x.label))
    ∙ ap (λ k. shown_name next (label_name x.label) ∷ shown_labels k (plain_blocks s (n + length x.insts) (locals_behind l x.insts) xs)) (block_next s next n l x)
    ∙ ap (λ (rest : List Name). shown_name next (label_name x.label) ∷ rest) (labels_next s (block_free shown next x) (n + length x.insts) (locals_behind l x.insts) xs)

pub labels_are : (s : Scope) (f : FuncLines) → labels_of (plain_of s f) ≡ blocks_listed shown f
labels_are s f =
    ap (λ k. shown_labels k (plain_blocks s 0 (length f.head.params) f.blocks)) (start_is f.head.params) ∙ labels_next s (params_free shown 0 f.head.params) 0 (length f.head.params) f.blocks

-- the name of a local: the one in the list where it has been given, and none before
record Known (names : List Name) (l k : ℕ) (name : Name) : Type 0 where
  pub low : k < l → name ≡ slice_index_or names k Absent
  pub high : l ≤ k → name ≡ Absent

given_known : (names : List Name) (next l k : ℕ) (n before : Name) (c : Bool) → (l == k) ≡ c → slice_index_or names l Absent ≡ shown_name next n → Known names l k before →
    Known names (suc l) k (if c then shown_name next (own_name n) else before)
given_known names next l k n before true t h known =
    let same : l ≡ k = eqb-true l k t in
    record { low = λ less. shown_own next n ∙ sym h ∙ ap (λ j. slice_index_or names j Absent) same; high = λ more. absurd (omega arith) }
given_known names next l k n before false t h known = record {
  low = λ less. elim (cases_lt k l) [ inl below ↦ known.low below | inr above ↦ absurd (grind (arith, nat_tests)) ];
  high = λ more. known.high (omega arith);
}

step_known : (names : List Name) (next l k : ℕ) (n before : Name) (b : Bool) → (b ≡ true → slice_index_or names l Absent ≡ shown_name next n) → Known names l k before →
    Known names (if b then suc l else l) k (if is_given (if b then Some (record { 0 = l }) else None) k then shown_name next (if b then own_name n else Absent) else before)
step_known names next l k n before true h known = given_known names next l k n before (l == k) refl (h refl) known
step_known names next l k n before false h known = known

among_known : (s : Scope) (names : List Name) (next n l k : ℕ) (before : Name) (xs : List InstLine) → AlongInsts shown names next l xs → Known names l k before →
    Known names (locals_behind l xs) k (name_among next (plain_insts s n l xs) k before)
among_known s names next n l k before [] along known = known
among_known s names next n l k before (x ∷ xs) along known =
    let now : Name = if is_given (plain_at s n l x).result k then shown_name next (plain_at s n l x).name else before in
    let P : ℕ → Type 0 = λ j. Known names (locals_behind (local_behind l x) xs) k (name_among j (plain_insts s (suc n) (local_behind l x) xs) k now) in
    subst P (sym (inst_next s next n l x))
    (among_known s names (inst_free shown next x) (suc n) (local_behind l x) k now xs along.1 (step_known names next l k x.name before (makes x.inst) along.0 known))

in_known : (s : Scope) (names labels : List Name) (next n l b k : ℕ) (before : Name) (bs : List BlockLines) → AlongBlocks shown names labels next l b bs → Known names l k before →
    Known names (all_locals l bs) k (name_in next (plain_blocks s n l bs) k before)
in_known s names labels next n l b k before [] along known = known
in_known s names labels next n l b k before (x ∷ xs) along known =
    let free = free_after next (label_name x.label) in
    let rest = plain_blocks s (n + length x.insts) (locals_behind l x.insts) xs in
    let now : Name = name_among (free_after next (own_name (label_name x.label))) (plain_insts s n l x.insts) k before in
    let P : ℕ → Type 0 = λ j. Known names (locals_behind l x.insts) k (name_among j (plain_insts s n l x.insts) k before) in
    let Q : ℕ → Type 0 = λ j. Known names (all_locals (locals_behind l x.insts) xs) k (name_in j rest k now) in
    let here = subst P (sym (free_own next (label_name x.label))) (among_known s names free n l k before x.insts along.1 known) in
    subst Q (sym (block_next s next n l x)) (in_known s names labels (block_free shown next x) (n + length x.insts) (locals_behind l x.insts) (suc b) k now xs along.2 here)

-- how many locals there are
result_count : (g : Naming) (next l : ℕ) (x : InstLine) (b : Bool) → (if b then suc l else l) ≡ l + length (if b then g.name next x.name ∷ [] else [])
result_count g next l x true = omega arith
result_count g next l x false = omega arith

insts_count : (g : Naming) (next l : ℕ) (xs : List InstLine) → locals_behind l xs ≡ l + length (results g next xs)
insts_count g next l [] = omega arith
insts_count g next l (x ∷ xs) =
    let here = result_count g next l x (makes x.inst) in
    let rest = insts_count g (inst_free g next x) (local_behind l x) xs in
    let both = length-append (result_of g next x) (results g (inst_free g next x) xs) in
    omega arith

blocks_count : (g : Naming) (next l : ℕ) (bs : List BlockLines) → all_locals l bs ≡ l + length (all_results g next bs)
blocks_count g next l [] = omega arith
blocks_count g next l (x ∷ xs) =
    let here = insts_count g (g.free next (label_name x.label)) l x.insts in
    let rest = blocks_count g (block_free g next x) (locals_behind l x.insts) xs in
    let both = length-append (results g (g.free next (label_name x.label)) x.insts) (all_results g (block_free g next x) xs) in
    omega arith

pub local_count : (g : Naming) (f : FuncLines) → length (locals_listed g f) ≡ all_locals (length f.head.params) f.blocks
local_count g f =
    let all = blocks_count g (params_free g 0 f.head.params) (length f.head.params) f.blocks in
    let both = length-append (param_names g 0 f.head.params) (all_results g (params_free g 0 f.head.params) f.blocks) in
    let ps = param_count g 0 f.head.params in
    omega arith

-- the printed names of parameters
shown_names : (next : ℕ) (ps : List Param) → map name_of_param (shown_params next ps) ≡ param_names shown next ps
shown_names next [] = refl
shown_names next (p ∷ ps) = ap (λ (rest : List Name). shown_name next p.name ∷ rest) (shown_names (free_after next p.name) ps)

params_known : (f : FuncLines) (k : ℕ) → Known (locals_listed shown f) (length f.head.params) k (param_name (map plain_param f.head.params) k)
params_known f k =
    let first = param_names shown 0 f.head.params in
    let rest = all_results shown (params_free shown 0 f.head.params) f.blocks in
    let count : length first ≡ length f.head.params = param_count shown 0 f.head.params in
    let same : param_name (map plain_param f.head.params) k ≡ slice_index_or first k Absent =
    ap (λ (ps : List Param). slice_index_or (map name_of_param ps) k Absent) (params_plain 0 f.head.params) ∙ ap (λ (ns : List Name). slice_index_or ns k Absent) (shown_names 0 f.head.params) in
    record {
      low = λ less. same ∙ sym (get_or_append_left first rest Absent k (omega arith));
      high = λ more. same ∙ get_or_past first k Absent (omega arith);
    }

pub local_is : (s : Scope) (f : FuncLines) (k : ℕ) → local_name (plain_of s f) k ≡ slice_index_or (locals_listed shown f) k Absent
local_is s f k =
    let names = locals_listed shown f in
    let end = all_locals (length f.head.params) f.blocks in
    let P : ℕ → Type 0 = λ j. Known names end k (name_in j (plain_blocks s 0 (length f.head.params) f.blocks) k (param_name (map plain_param f.head.params) k)) in
    let known = subst P (sym (start_is f.head.params))
    (in_known s names (blocks_listed shown f) (params_free shown 0 f.head.params) 0 (length f.head.params) 0 k (param_name (map plain_param f.head.params) k) f.blocks
    (func_along shown f) (params_known f k)) in
    let count : length names ≡ end = local_count shown f in
    elim (cases_lt k end) [
      | inl below ↦ known.low below
      | inr above ↦ known.high above ∙ sym (get_or_past names k Absent (omega arith))
    ]

-- what is shown of a function
abbrev pub shown_by : NamesState → FuncLines → Shown
shown_by names f = record { locals = λ k. slice_index_or (locals_listed shown f) k Absent; labels = blocks_listed shown f; module_names = names }

pub shown_is : (names : NamesState) (s : Scope) (f : FuncLines) → shown_in names (plain_of s f) ≡ shown_by names f
shown_is names s f =
    let P : (ℕ → Name) → Shown = λ g. record { locals = g; labels = labels_of (plain_of s f); module_names = names } in
    let Q : List Name → Shown = λ ls. record { locals = λ k. slice_index_or (locals_listed shown f) k Absent; labels = ls; module_names = names } in
    let locals : local_name (plain_of s f) ≡ (λ (k : ℕ). slice_index_or (locals_listed shown f) k Absent) = fun_ext (local_is s f) in
    ap P locals ∙ ap Q (labels_are s f)
