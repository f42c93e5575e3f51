-- The text of a module does not show the numbers of instructions and locals either: a function is printed as it is in order.
use Rattle.std.proofs.Common.{◌≡◌, ◌≤◌, ◌<◌, ◌+◌, ◌==◌, ℕ, zero, suc, ℤ, Bool, true, false, List, [], ◌∷◌, ◌++◌, Option, Some, None, if◌then◌else◌, nat_lt, length, map, filter, ◌+ℤ◌, refl, sym, ap, ◌∙◌, arith, tests, eqb-true, eq-eqb, ne_eqb}
use Rattle.std.specs.List.{slice_get, slice_index_or, flat_map}
use Rattle.std.specs.Option.{is_some, option_map}
use Rattle.std.proofs.lemmas.List.{length-map}
use Rattle.ms_ir.specs.declared.names.Name.{Name}
use Rattle.ms_ir.specs.declared.names.Name.TheVariants.{Absent}
use Rattle.ms_ir.specs.declared.names.LocalNo.{LocalNo}
use Rattle.ms_ir.specs.declared.names.Param.{Param}
use Rattle.ms_ir.specs.declared.names.Ty.{Ty}
use Rattle.ms_ir.specs.declared.inst.Val.{Val}
use Rattle.ms_ir.specs.declared.inst.Val.TheVariants.{Num, Local, Global}
use Rattle.ms_ir.specs.declared.inst.Arg.{Arg}
use Rattle.ms_ir.specs.declared.inst.Entry.{Entry}
use Rattle.ms_ir.specs.declared.inst.IndexTerm.{IndexTerm}
use Rattle.ms_ir.specs.declared.inst.Inst.{Inst}
use Rattle.ms_ir.specs.declared.inst.Inst.TheVariants.{Alloca, Gep, Step, Load, Store, Copy, Call, Bin, Cmp, Select, Cast, Phi}
use Rattle.ms_ir.specs.declared.inst.Term.{Term}
use Rattle.ms_ir.specs.declared.inst.Term.TheVariants.{Br, CondBr, Ret, Unreachable}
use Rattle.ms_ir.specs.declared.module.Item.{Item}
use Rattle.ms_ir.specs.declared.module.Item.TheVariants as item
use Rattle.ms_ir.specs.Symbols.{NamesState}
use Rattle.ms_ir.specs.Func.{Placed, Block, FuncState}
use Rattle.ms_ir.specs.Module.{ModuleState, body_in, body_of}
use Rattle.ms_grammar.specs.Kept.{Each}
use Rattle.ms_grammar.specs.Parts.{filled, text_of}
use Rattle.ms_grammar.specs.Form.{no_scale, inst_parts, result_parts, printed, index_text}
use Rattle.ms_grammar.specs.declared.line.RawVal.{RawVal}
use Rattle.ms_grammar.specs.declared.line.RawVal.TheVariants as val
use Rattle.ms_grammar.specs.declared.line.RawArg.{RawArg}
use Rattle.ms_grammar.specs.declared.line.RawEntry.{RawEntry}
use Rattle.ms_grammar.specs.declared.line.RawIndex.{RawIndex}
use Rattle.ms_grammar.specs.declared.line.RawInst.{RawInst}
use Rattle.ms_grammar.specs.declared.line.RawInst.TheVariants as raw
use Rattle.ms_grammar.specs.declared.line.RawTerm.{RawTerm}
use Rattle.ms_grammar.specs.declared.line.RawTerm.TheVariants as end
use Rattle.ms_grammar.specs.declared.line.Line.TheVariants as line
use Rattle.ms_grammar.proofs.Printing.{text_of_append}
use Rattle.ms_print.specs.Numbering.{shown_name, free_after, shown_params, free_after_params, free_after_inst, free_after_insts, free_after_block, shown_labels, is_given, name_among, name_in, param_name, name_of_param, local_name, labels_of}
use Rattle.ms_print.specs.Lines.{Shown, shown_in, word_at, label_of, raw_val, raw_arg, raw_entry, raw_index, raw_inst, raw_given, raw_term, result_name, inst_line, term_line, define_line, define_with}
use Rattle.ms_print.specs.Text.{ended, line_text, insts_text, label_text, block_text, blocks_text, func_text, no_notes, body_text, item_text, has_body, gap, items_text, module_text}
use Rattle.ms_print.proofs.NumberingLemmas.{shown_params-length}
use Rattle.ms_again.specs.Same.{own_name, plain_param}
use Rattle.ms_again.specs.Ordered.{is_open, kept_term, added_in, step_of, index_by, arg_by, entry_by, inst_by, given_by, term_by, number_in, result_of, results_of, results_in, place_in, local_at, ordered_local, ordered_val, ordered_inst, ordered_insts, ordered_blocks, ordered, ordered_module, IsSameInOrder}
use Rattle.ms_again.proofs.Fills.{filled_twice}
use Rattle.ms_again.proofs.Fine.{each_first, each_second}
use Rattle.ms_again.proofs.Sites.{each_at}
use Rattle.ms_again.proofs.SameText.{shown_own, free_own, params_plain, free_params_plain, label_plain}

-- places of numbers in a list
place_when : (t : Bool) (n : ℕ) → t ≡ true → (if t then 0 else n) ≡ 0
place_when t n e = ap (λ (b : Bool). if b then 0 else n) e

place_else : (t : Bool) (n : ℕ) → t ≡ false → (if t then 0 else n) ≡ n
place_else t n e = ap (λ (b : Bool). if b then 0 else n) e

pub place_less : (ks : List ℕ) (j k : ℕ) → slice_get ks j ≡ Some k → place_in ks k < length ks
place_less [] j k e = absurd (cc)
place_less (x ∷ ks) zero k e = let same = place_when (x == k) (suc (place_in ks k)) (eq-eqb x k (cc)) in omega arith
place_less (x ∷ ks) (suc j) k e = by (x == k) refl (place_less ks j k e)
  where
    by : (t : Bool) → (x == k) ≡ t → place_in ks k < length ks → (if x == k then 0 else suc (place_in ks k)) < suc (length ks)
    by true e rest = let same = place_when (x == k) (suc (place_in ks k)) e in omega arith
    by false e rest = let same = place_else (x == k) (suc (place_in ks k)) e in omega arith

pub place_one : (ks : List ℕ) (k l : ℕ) → place_in ks k < length ks → place_in ks k ≡ place_in ks l → k ≡ l
place_one [] k l h e = absurd (omega arith)
place_one (x ∷ ks) k l h e = by (x == k) (x == l) refl refl (place_one ks k l)
  where
    by : (s t : Bool) → (x == k) ≡ s → (x == l) ≡ t → (place_in ks k < length ks → place_in ks k ≡ place_in ks l → k ≡ l) → k ≡ l
    by true true s t more = sym (eqb-true x k s) ∙ eqb-true x l t
    by true false s t more = let a = place_when (x == k) (suc (place_in ks k)) s in let b = place_else (x == l) (suc (place_in ks l)) t in absurd (omega arith)
    by false true s t more = let a = place_else (x == k) (suc (place_in ks k)) s in let b = place_when (x == l) (suc (place_in ks l)) t in absurd (omega arith)
    by false false s t more = let a = place_else (x == k) (suc (place_in ks k)) s in let b = place_else (x == l) (suc (place_in ks l)) t in more (omega arith) (omega arith)

-- a local's number in order
pub one_local : (p : ℕ) (ks : List ℕ) (j k l : ℕ) → slice_get ks j ≡ Some k → local_at p ks k ≡ local_at p ks l → k ≡ l
one_local p ks j k l e same = by (nat_lt k p) (nat_lt l p) refl refl
  where
    by : (s t : Bool) → nat_lt k p ≡ s → nat_lt l p ≡ t → k ≡ l
    by true true s t = sym (ap (λ (b : Bool). if b then k else p + place_in ks k) s) ∙ same ∙ ap (λ (b : Bool). if b then l else p + place_in ks l) t
    by true false s t =
        let a = ap (λ (b : Bool). if b then k else p + place_in ks k) s in
        let c = ap (λ (b : Bool). if b then l else p + place_in ks l) t in
        let less : k < p = grind (arith, tests) in
        absurd (omega arith)
    by false true s t =
        let a = ap (λ (b : Bool). if b then k else p + place_in ks k) s in
        let c = ap (λ (b : Bool). if b then l else p + place_in ks l) t in
        let less : l < p = grind (arith, tests) in
        absurd (omega arith)
    by false false s t =
        let a = ap (λ (b : Bool). if b then k else p + place_in ks k) s in
        let c = ap (λ (b : Bool). if b then l else p + place_in ks l) t in
        place_one ks k l (place_less ks j k e) (omega arith)

-- whether a result is a local, before and in order
abbrev pub IsTold : ℕ → List ℕ → ℕ → ℕ → Type 0
IsTold p ks l k = (local_at p ks k == local_at p ks l) ≡ (k == l)

pub told : (p : ℕ) (ks : List ℕ) (l : ℕ) → Each (IsTold p ks l) ks
told p ks l = each_at (IsTold p ks l) ks one
  where
    one : (j k : ℕ) → slice_get ks j ≡ Some k → IsTold p ks l k
    one j k e = by (k == l) refl
      where
        by : (t : Bool) → (k == l) ≡ t → (local_at p ks k == local_at p ks l) ≡ (k == l)
        by true t = eq-eqb (local_at p ks k) (local_at p ks l) (ap (local_at p ks) (eqb-true k l t)) ∙ sym t
        by false t = ne_eqb (local_at p ks k) (local_at p ks l) (λ same. true_false (sym (eq-eqb k l (one_local p ks j k l e same)) ∙ t)) ∙ sym t
          where
            true_false : true ≡ false → ⊥
            true_false h = absurd (cc)

-- results
given_ordered : (f : FuncState) (l : ℕ) (r : Option LocalNo) → Each (IsTold (length f.params) (results_in f.blocks) l) (number_in r) →
    is_given (option_map (ordered_local f) r) (local_at (length f.params) (results_in f.blocks) l) ≡ is_given r l
given_ordered f l None h = refl
given_ordered f l (Some k) h = h.0

some_ordered : (f : FuncState) (next : ℕ) (r : Option LocalNo) (n : Name) →
    (if is_some (option_map (ordered_local f) r) then free_after next (own_name n) else next) ≡ (if is_some r then free_after next n else next)
some_ordered f next None n = refl
some_ordered f next (Some k) n = free_own next n

free_inst : (f : FuncState) (next n : ℕ) (x : Placed) → free_after_inst next (ordered_inst f n x) ≡ free_after_inst next x
free_inst f next n x = some_ordered f next x.result x.name

free_insts : (f : FuncState) (next n : ℕ) (xs : List Placed) → free_after_insts next (ordered_insts f n xs) ≡ free_after_insts next xs
free_insts f next n [] = refl
free_insts f next n (x ∷ xs) = ap (λ k. free_after_insts k (ordered_insts f (suc n) xs)) (free_inst f next n x) ∙ free_insts f (free_after_inst next x) (suc n) xs

abbrev ordered_block : FuncState → ℕ → Block → Block
ordered_block f n b = record { name = own_name b.name; insts = ordered_insts f n b.insts; term = term_by (ordered_val f) b.term }

free_block : (f : FuncState) (next n : ℕ) (b : Block) → free_after_block next (ordered_block f n b) ≡ free_after_block next b
free_block f next n b = ap (λ k. free_after_insts k (ordered_insts f n b.insts)) (free_own next b.name) ∙ free_insts f (free_after next b.name) n b.insts

-- labels
labels_ordered : (f : FuncState) (next n : ℕ) (bs : List Block) → shown_labels next (ordered_blocks f n bs) ≡ shown_labels next bs
labels_ordered f next n [] = refl
labels_ordered f next n (b ∷ bs) =
    ap (λ m. m ∷ shown_labels (free_after_block next (ordered_block f n b)) (ordered_blocks f (n + length b.insts) bs)) (shown_own next b.name)
    ∙ ap (λ k. shown_name next b.name ∷ shown_labels k (ordered_blocks f (n + length b.insts) bs)) (free_block f next n b)
    ∙ ap (λ rest. shown_name next b.name ∷ rest) (labels_ordered f (free_after_block next b) (n + length b.insts) bs)

labels_same : (f : FuncState) → labels_of (ordered f) ≡ labels_of f
labels_same f = ap (λ k. shown_labels k (ordered_blocks f 0 f.blocks)) (free_params_plain 0 f.params) ∙ labels_ordered f (free_after_params 0 f.params) 0 f.blocks

-- locals
among_ordered : (f : FuncState) (l next n : ℕ) (xs : List Placed) (before : Name) → Each (IsTold (length f.params) (results_in f.blocks) l) (flat_map result_of xs) →
    name_among next (ordered_insts f n xs) (local_at (length f.params) (results_in f.blocks) l) before ≡ name_among next xs l before
among_ordered f l next n [] before h = refl
among_ordered f l next n (x ∷ xs) before h =
    let at = local_at (length f.params) (results_in f.blocks) l in
    let T = IsTold (length f.params) (results_in f.blocks) l in
    let front = each_first T (result_of x) (flat_map result_of xs) h in
    ap (λ k. name_among k (ordered_insts f (suc n) xs) at (if is_given (option_map (ordered_local f) x.result) at then shown_name next (own_name x.name) else before)) (free_inst f next n x)
    ∙ ap (λ (t : Bool). name_among (free_after_inst next x) (ordered_insts f (suc n) xs) at (if t then shown_name next (own_name x.name) else before)) (given_ordered f l x.result front)
    ∙ ap (λ (m : Name). name_among (free_after_inst next x) (ordered_insts f (suc n) xs) at (if is_given x.result l then m else before)) (shown_own next x.name)
    ∙ among_ordered f l (free_after_inst next x) (suc n) xs (if is_given x.result l then shown_name next x.name else before) (each_second T (result_of x) (flat_map result_of xs) h)

in_ordered : (f : FuncState) (l next n : ℕ) (bs : List Block) (before : Name) → Each (IsTold (length f.params) (results_in f.blocks) l) (results_in bs) →
    name_in next (ordered_blocks f n bs) (local_at (length f.params) (results_in f.blocks) l) before ≡ name_in next bs l before
in_ordered f l next n [] before h = refl
in_ordered f l next n (b ∷ bs) before h =
    let at = local_at (length f.params) (results_in f.blocks) l in
    let T = IsTold (length f.params) (results_in f.blocks) l in
    let more = ordered_blocks f (n + length b.insts) bs in
    ap (λ k. name_in k more at (name_among (free_after next (own_name b.name)) (ordered_insts f n b.insts) at before)) (free_block f next n b)
    ∙ ap (λ k. name_in (free_after_block next b) more at (name_among k (ordered_insts f n b.insts) at before)) (free_own next b.name)
    ∙ ap (λ (m : Name). name_in (free_after_block next b) more at m) (among_ordered f l (free_after next b.name) n b.insts before (each_first T (results_of b) (results_in bs) h))
    ∙ in_ordered f l (free_after_block next b) (n + length b.insts) bs (name_among (free_after next b.name) b.insts l before) (each_second T (results_of b) (results_in bs) h)

past_names : (ns : List Name) (k : ℕ) → length ns ≤ k → slice_index_or ns k Absent ≡ Absent
past_names [] k h = refl
past_names (n ∷ ns) zero h = absurd (omega arith)
past_names (n ∷ ns) (suc k) h = past_names ns k (omega arith)

param_ordered : (f : FuncState) (l : ℕ) → param_name f.params (local_at (length f.params) (results_in f.blocks) l) ≡ param_name f.params l
param_ordered f l = by (nat_lt l p) refl
  where
    p : ℕ
    p = length f.params

    names : List Name
    names = map name_of_param (shown_params 0 f.params)

    count : length names ≡ p
    count = length-map (shown_params 0 f.params) name_of_param ∙ shown_params-length 0 f.params

    by : (t : Bool) → nat_lt l p ≡ t → slice_index_or names (local_at p (results_in f.blocks) l) Absent ≡ slice_index_or names l Absent
    by true t = ap (λ k. slice_index_or names k Absent) (ap (λ (b : Bool). if b then l else p + place_in (results_in f.blocks) l) t)
    by false t =
        let at = ap (λ (b : Bool). if b then l else p + place_in (results_in f.blocks) l) t in
        let past : p ≤ l = grind (arith, tests) in
        past_names names (local_at p (results_in f.blocks) l) (omega (arith, count)) ∙ sym (past_names names l (omega (arith, count)))

pub local_same : (f : FuncState) (l : ℕ) → local_name (ordered f) (local_at (length f.params) (results_in f.blocks) l) ≡ local_name f l
local_same f l =
    let at = local_at (length f.params) (results_in f.blocks) l in
    ap (λ k. name_in k (ordered_blocks f 0 f.blocks) at (param_name (map plain_param f.params) at)) (free_params_plain 0 f.params)
    ∙ ap (λ (ps : List Param). name_in (free_after_params 0 f.params) (ordered_blocks f 0 f.blocks) at (slice_index_or (map name_of_param ps) at Absent)) (params_plain 0 f.params)
    ∙ ap (λ (m : Name). name_in (free_after_params 0 f.params) (ordered_blocks f 0 f.blocks) at m) (param_ordered f l)
    ∙ in_ordered f l (free_after_params 0 f.params) 0 f.blocks (param_name f.params l) (told (length f.params) (results_in f.blocks) l)

-- the names of locals in order
abbrev Follows : FuncState → (ℕ → Name) → Shown → Type 0
Follows f g s = (l : ℕ) → g (local_at (length f.params) (results_in f.blocks) l) ≡ s.locals l

abbrev shown_as : (ℕ → Name) → Shown → Shown
shown_as g s = record { locals = g; labels = s.labels; module_names = s.module_names }

val_ordered : (f : FuncState) (g : ℕ → Name) (s : Shown) → Follows f g s → (v : Val) → raw_val (shown_as g s) (ordered_val f v) ≡ raw_val s v
val_ordered f g s h (Num ty n) = refl
val_ordered f g s h (Local l) = ap (λ (n : Name). val.Local n) (h l.0)
val_ordered f g s h (Global k) = refl

arg_ordered : (f : FuncState) (g : ℕ → Name) (s : Shown) → Follows f g s → (a : Arg) → raw_arg (shown_as g s) (arg_by (ordered_val f) a) ≡ raw_arg s a
arg_ordered f g s h a = ap (λ v. let b : RawArg = record { ty = a.ty; val = v; text = a.text } in b) (val_ordered f g s h a.val)

args_ordered : (f : FuncState) (g : ℕ → Name) (s : Shown) → Follows f g s → (args : List Arg) → map (raw_arg (shown_as g s)) (map (arg_by (ordered_val f)) args) ≡ map (raw_arg s) args
args_ordered f g s h [] = refl
args_ordered f g s h (a ∷ args) =
    ap (λ (b : RawArg). b ∷ map (raw_arg (shown_as g s)) (map (arg_by (ordered_val f)) args)) (arg_ordered f g s h a) ∙ ap (λ (bs : List RawArg). raw_arg s a ∷ bs) (args_ordered f g s h args)

entry_ordered : (f : FuncState) (g : ℕ → Name) (s : Shown) → Follows f g s → (e : Entry) → raw_entry (shown_as g s) (entry_by (ordered_val f) e) ≡ raw_entry s e
entry_ordered f g s h e = ap (λ v. let b : RawEntry = record { val = v; from = label_of s.labels e.from.0 } in b) (val_ordered f g s h e.val)

entries_ordered : (f : FuncState) (g : ℕ → Name) (s : Shown) → Follows f g s → (es : List Entry) → map (raw_entry (shown_as g s)) (map (entry_by (ordered_val f)) es) ≡ map (raw_entry s) es
entries_ordered f g s h [] = refl
entries_ordered f g s h (e ∷ es) =
    ap (λ (b : RawEntry). b ∷ map (raw_entry (shown_as g s)) (map (entry_by (ordered_val f)) es)) (entry_ordered f g s h e) ∙ ap (λ (bs : List RawEntry). raw_entry s e ∷ bs) (entries_ordered f g s h es)

terms_ordered : (f : FuncState) (g : ℕ → Name) (s : Shown) → Follows f g s → (ts : List IndexTerm) → map (raw_index (shown_as g s)) (map (index_by (ordered_val f)) ts) ≡ map (raw_index s) ts
terms_ordered f g s h [] = refl
terms_ordered f g s h (t ∷ ts) =
    ap (λ v. let d : RawIndex = record { val = v; ty = t.ty; scale = t.scale } in d ∷ map (raw_index (shown_as g s)) (map (index_by (ordered_val f)) ts)) (val_ordered f g s h t.val)
    ∙ ap (λ (ds : List RawIndex). raw_index s t ∷ ds) (terms_ordered f g s h ts)

-- two values of a line
two_vals : (F : RawVal → RawVal → RawInst) (a b c d : RawVal) → a ≡ c → b ≡ d → F a b ≡ F c d
two_vals F a b c d e k = ap (λ x. F x b) e ∙ ap (λ x. F c x) k

-- a getelementptr is printed without its offset, its terms in their places
abbrev with_terms : List RawIndex → List ℕ → List ℕ
with_terms terms index = filled (map index_text terms) index

abbrev gep_text : Name → ℤ → RawVal → List ℕ → List ℕ → List ℕ → List ℕ
gep_text n offset base head index tail = printed (line.Inst n (raw.Gep base offset head index tail))

line_texts : (n : Name) (i j : RawInst) → text_of (inst_parts no_scale i) ≡ text_of (inst_parts no_scale j) → printed (line.Inst n i) ≡ printed (line.Inst n j)
line_texts n i j e =
    ap (λ (x : List ℕ). 32 ∷ 32 ∷ x)
    (text_of_append (result_parts n) (inst_parts no_scale i)
    ∙ (ap (λ (x : List ℕ). text_of (result_parts n) ++ x) e ∙ sym (text_of_append (result_parts n) (inst_parts no_scale j))))

terms_text : (n : Name) (base : RawVal) (offset : ℤ) (terms : List RawIndex) (head index tail : List ℕ) →
    printed (line.Inst n (raw.Step base offset terms head index tail)) ≡ gep_text n offset base head (with_terms terms index) tail
terms_text n base offset terms head index tail = line_texts n (raw.Step base offset terms head index tail) (raw.Gep base offset head (with_terms terms index) tail) refl

step_text : (t : Shown) (n : Name) (base : Val) (offset : ℤ) (terms : List IndexTerm) (head index tail : List ℕ) →
    printed (line.Inst n (raw_inst t (step_of base offset terms head index tail))) ≡ gep_text n offset (raw_val t base) head (with_terms (map (raw_index t) terms) index) tail
step_text t n base offset [] head index tail = refl
step_text t n base offset (x ∷ xs) head index tail = terms_text n (raw_val t base) offset (map (raw_index t) (x ∷ xs)) head index tail

inst_ordered : (f : FuncState) (g : ℕ → Name) (s : Shown) → Follows f g s → (n : Name) (i : Inst) →
    printed (line.Inst n (raw_inst (shown_as g s) (inst_by (ordered_val f) i))) ≡ printed (line.Inst n (raw_inst s i))
inst_ordered f g s h n (Alloca size head tail) = refl
inst_ordered f g s h n (Gep base offset head index tail) = ap (λ b. printed (line.Inst n (raw.Gep b offset head index tail))) (val_ordered f g s h base)
inst_ordered f g s h n (Step base offset terms head index tail) =
    let news = map (index_by (ordered_val f)) terms in
    let new = raw_val (shown_as g s) (ordered_val f base) in
    step_text (shown_as g s) n (ordered_val f base) (offset +ℤ added_in news) (filter is_open news) head (filled (map kept_term news) index) tail
    ∙ ap (λ (x : List ℕ). gep_text n offset new head x tail) (filled_twice (shown_as g s) news index)
    ∙ ap (λ (ts : List RawIndex). gep_text n offset new head (with_terms ts index) tail) (terms_ordered f g s h terms)
    ∙ ap (λ b. gep_text n offset b head (with_terms (map (raw_index s) terms) index) tail) (val_ordered f g s h base)
    ∙ sym (terms_text n (raw_val s base) offset (map (raw_index s) terms) head index tail)
inst_ordered f g s h n (Load ty ptr tail) = ap (λ p. printed (line.Inst n (raw.Load ty p tail))) (val_ordered f g s h ptr)
inst_ordered f g s h n (Store ty v ptr tail) =
    ap (λ i. printed (line.Inst n i)) (two_vals (λ a b. raw.Store ty a b tail) _ _ _ _ (val_ordered f g s h v) (val_ordered f g s h ptr))
inst_ordered f g s h n (Copy to from len head tail) =
    ap (λ a. printed (line.Inst n (raw.Copy a (raw_arg (shown_as g s) (arg_by (ordered_val f) from)) len head [] tail))) (arg_ordered f g s h to)
    ∙ ap (λ a. printed (line.Inst n (raw.Copy (raw_arg s to) a len head [] tail))) (arg_ordered f g s h from)
inst_ordered f g s h n (Call callee ret args effects head tail) =
    ap (λ xs. printed (line.Inst n (raw.Call (word_at s.module_names.funcs callee.0) ret xs head [] tail))) (args_ordered f g s h args)
inst_ordered f g s h n (Bin op flags ty a b tail) =
    ap (λ i. printed (line.Inst n i)) (two_vals (λ a b. raw.Bin op flags ty a b tail) _ _ _ _ (val_ordered f g s h a) (val_ordered f g s h b))
inst_ordered f g s h n (Cmp pred flags ty a b tail) =
    ap (λ i. printed (line.Inst n i)) (two_vals (λ a b. raw.Cmp pred flags ty a b tail) _ _ _ _ (val_ordered f g s h a) (val_ordered f g s h b))
inst_ordered f g s h n (Select cond ty a b tail) =
    ap (λ c. printed (line.Inst n (raw.Select c ty (raw_val (shown_as g s) (ordered_val f a)) (raw_val (shown_as g s) (ordered_val f b)) tail))) (val_ordered f g s h cond)
    ∙ ap (λ i. printed (line.Inst n i)) (two_vals (λ a b. raw.Select (raw_val s cond) ty a b tail) _ _ _ _ (val_ordered f g s h a) (val_ordered f g s h b))
inst_ordered f g s h n (Cast op flags from a to tail) = ap (λ v. printed (line.Inst n (raw.Cast op flags from v to tail))) (val_ordered f g s h a)
inst_ordered f g s h n (Phi ty entries tail) = ap (λ es. printed (line.Inst n (raw.Phi ty es tail))) (entries_ordered f g s h entries)

given_raw : (f : FuncState) (g : ℕ → Name) (s : Shown) → Follows f g s → (given : Option (Ty × Val)) → raw_given (shown_as g s) (given_by (ordered_val f) given) ≡ raw_given s given
given_raw f g s h None = refl
given_raw f g s h (Some given) = ap (λ v. Some (given.0, v)) (val_ordered f g s h given.1)

term_ordered : (f : FuncState) (g : ℕ → Name) (s : Shown) → Follows f g s → (t : Term) → raw_term (shown_as g s) (term_by (ordered_val f) t) ≡ raw_term s t
term_ordered f g s h (Br to tail) = refl
term_ordered f g s h (CondBr cond a b tail) = ap (λ c. end.CondBr c (label_of s.labels a.0) (label_of s.labels b.0) tail) (val_ordered f g s h cond)
term_ordered f g s h (Ret given tail) = ap (λ x. end.Ret x tail) (given_raw f g s h given)
term_ordered f g s h (Unreachable tail) = refl

-- the result's name
result_ordered : (f : FuncState) (g : ℕ → Name) (s : Shown) → Follows f g s → (r : Option LocalNo) → result_name g (option_map (ordered_local f) r) ≡ result_name s.locals r
result_ordered f g s h None = refl
result_ordered f g s h (Some l) = h l.0

-- text
insts_ordered : (f : FuncState) (g : ℕ → Name) (s : Shown) → Follows f g s → (n : ℕ) (xs : List Placed) → insts_text (shown_as g s) [] (ordered_insts f n xs) ≡ insts_text s [] xs
unfolding line_text
insts_ordered f g s h n [] = refl
insts_ordered f g s h n (x ∷ xs) =
    ap (λ (m : Name). ended (printed (line.Inst m (raw_inst (shown_as g s) (inst_by (ordered_val f) x.inst)))) ++ insts_text (shown_as g s) [] (ordered_insts f (suc n) xs)) (result_ordered f g s h x.result)
    ∙ ap (λ (t : List ℕ). ended t ++ insts_text (shown_as g s) [] (ordered_insts f (suc n) xs)) (inst_ordered f g s h (result_name s.locals x.result) x.inst)
    ∙ ap (λ (t : List ℕ). ended (printed (inst_line s x)) ++ t) (insts_ordered f g s h (suc n) xs)

block_same : (f : FuncState) (g : ℕ → Name) (s : Shown) → Follows f g s → (n b : ℕ) (x : Block) → block_text (shown_as g s) no_notes b (ordered_block f n x) ≡ block_text s no_notes b x
unfolding line_text
block_same f g s h n b x =
    let insts = insts_text (shown_as g s) [] (ordered_insts f n x.insts) in
    let last = ended (printed (term_line (shown_as g s) (term_by (ordered_val f) x.term))) in
    ap (λ (t : List ℕ). ((t ++ []) ++ insts) ++ last) (label_plain s.labels b x.name)
    ∙ ap (λ (t : List ℕ). ((label_text s.labels b x.name ++ []) ++ t) ++ last) (insts_ordered f g s h n x.insts)
    ∙ ap (λ (t : RawTerm). ((label_text s.labels b x.name ++ []) ++ insts_text s [] x.insts) ++ ended (printed (line.Term t))) (term_ordered f g s h x.term)

blocks_same : (f : FuncState) (g : ℕ → Name) (s : Shown) → Follows f g s → (n b : ℕ) (xs : List Block) → blocks_text (shown_as g s) no_notes b (ordered_blocks f n xs) ≡ blocks_text s no_notes b xs
unfolding line_text
blocks_same f g s h n b [] = refl
blocks_same f g s h n b (x ∷ xs) =
    ap (λ (t : List ℕ). t ++ blocks_text (shown_as g s) no_notes (suc b) (ordered_blocks f (n + length x.insts) xs)) (block_same f g s h n b x)
    ∙ ap (λ (t : List ℕ). block_text s no_notes b x ++ t) (blocks_same f g s h (n + length x.insts) (suc b) xs)

func_ordered : (names : NamesState) (f : FuncState) → func_text names (ordered f) no_notes ≡ func_text names f no_notes
unfolding line_text
func_ordered names f =
    let s = shown_in names f in
    let Q : List Name → Shown = λ ls. record { locals = local_name (ordered f); labels = ls; module_names = names } in
    ap (λ ps. ended (printed (define_with f ps)) ++ blocks_text (shown_in names (ordered f)) no_notes 0 (ordered_blocks f 0 f.blocks) ++ ended (printed line.Close)) (params_plain 0 f.params)
    ∙ ap (λ ls. ended (printed (define_line f)) ++ blocks_text (Q ls) no_notes 0 (ordered_blocks f 0 f.blocks) ++ ended (printed line.Close)) (labels_same f)
    ∙ ap (λ t. ended (printed (define_line f)) ++ t ++ ended (printed line.Close)) (blocks_same f (local_name (ordered f)) s (local_same f) 0 0 f.blocks)

body_ordered : (names : NamesState) (f : Option FuncState) → body_text names (option_map ordered f) ≡ body_text names f
unfolding line_text
body_ordered names None = refl
body_ordered names (Some f) = func_ordered names f

body_there : (bodies : List (Option FuncState)) (n : ℕ) → body_in (slice_get (map (option_map ordered) bodies) n) ≡ option_map ordered (body_in (slice_get bodies n))
body_there [] n = refl
body_there (b ∷ bs) zero = refl
body_there (b ∷ bs) (suc n) = body_there bs n

item_ordered : (m : ModuleState) (x : Item) → item_text (ordered_module m) x ≡ item_text m x
unfolding line_text
item_ordered m (item.Kept text) = refl
item_ordered m (item.Global g text) = refl
item_ordered m (item.Declared f text) = refl
item_ordered m (item.Defined f) = ap (λ b. body_text m.names b) (body_there m.bodies f.0) ∙ body_ordered m.names (body_of m f.0)

items_ordered : (m : ModuleState) (before : Option Bool) (xs : List Item) → items_text (ordered_module m) before xs ≡ items_text m before xs
unfolding line_text
items_ordered m before [] = refl
items_ordered m before (x ∷ xs) =
    ap (λ t. gap before (has_body x) ++ t ++ items_text (ordered_module m) (Some (has_body x)) xs) (item_ordered m x)
    ∙ ap (λ t. gap before (has_body x) ++ item_text m x ++ t) (items_ordered m (Some (has_body x)) xs)

pub text_ordered : (m : ModuleState) → module_text (ordered_module m) ≡ module_text m
unfolding line_text
text_ordered m = items_ordered m None m.items

pub same_text : (m n : ModuleState) → IsSameInOrder m n → module_text m ≡ module_text n
unfolding line_text
same_text m n h = sym (text_ordered m) ∙ ap module_text h.same ∙ text_ordered n
