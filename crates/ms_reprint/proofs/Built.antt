-- The lines of an accepted function give the function in order.
use Rattle.std.proofs.Common.{◌≡◌, ◌≢◌, ◌≤◌, ◌<◌, ◌+◌, ◌^◌, ◌==◌, ℕ, suc, Bool, true, false, if◌then◌else◌, nat_lt, List, [], ◌∷◌, ◌++◌, Option, Some, None, option_map, length, map, refl, sym, ap, subst, ◌∙◌, ⊎_elim, arith, tests, append_assoc, length-append, eqb-true, eq-eqb}
use Rattle.std.specs.Prelude.{ℤ, slice_get}
use Rattle.std.specs.List.{flat_map}
use Rattle.std.specs.Option.{is_some}
use mathlib.Core.Path.{fun_ext}
use Rattle.ms_attrs.proofs.MeaningLemmas.{some_effects, one_effects, some_keeps, one_keeps}
use Rattle.ms_ir.specs.declared.names.Ty.{Ty}
use Rattle.ms_ir.specs.declared.names.Mark.{Mark}
use Rattle.ms_ir.specs.declared.names.Name.{Name}
use Rattle.ms_ir.specs.declared.names.Name.TheVariants.{Word, Number, Absent}
use Rattle.ms_ir.specs.declared.names.Param.{Param}
use Rattle.ms_ir.specs.declared.names.LocalNo.{LocalNo}
use Rattle.ms_ir.specs.declared.names.BlockNo.{BlockNo}
use Rattle.ms_ir.specs.declared.inst.Val.{Val}
use Rattle.ms_ir.specs.declared.inst.Val.TheVariants as val
use Rattle.ms_ir.specs.declared.inst.Arg.{Arg}
use Rattle.ms_ir.specs.declared.inst.Entry.{Entry}
use Rattle.ms_ir.specs.declared.inst.IndexTerm.{IndexTerm}
use Rattle.ms_ir.specs.declared.inst.Inst.{Inst}
use Rattle.ms_ir.specs.declared.inst.Inst.TheVariants as inst
use Rattle.ms_ir.specs.declared.inst.Term.{Term}
use Rattle.ms_ir.specs.declared.inst.Term.TheVariants as term
use Rattle.ms_ir.specs.Func.{Placed, Block, FuncState, insts_at}
use Rattle.ms_ir.specs.Locals.{IsNumbered}
use Rattle.ms_ir.specs.Module.{ModuleState}
use Rattle.ms_grammar.specs.Kept.{Each}
use Rattle.ms_grammar.specs.declared.line.Head.{Head}
use Rattle.ms_grammar.specs.declared.line.RawVal.{RawVal}
use Rattle.ms_grammar.specs.declared.line.RawVal.TheVariants.{Num, Local, Global}
use Rattle.ms_grammar.specs.declared.line.RawArg.{RawArg}
use Rattle.ms_grammar.specs.declared.line.RawEntry.{RawEntry}
use Rattle.ms_grammar.specs.declared.line.RawIndex.{RawIndex}
use Rattle.ms_grammar.specs.declared.line.RawInst.{RawInst}
use Rattle.ms_grammar.specs.declared.line.RawInst.TheVariants.{Alloca, Gep, Step, Load, Store, Copy, Call, Bin, Cmp, Select, Cast, Phi}
use Rattle.ms_grammar.specs.declared.line.RawTerm.{RawTerm}
use Rattle.ms_grammar.specs.declared.line.RawTerm.TheVariants.{Br, CondBr, Ret, Unreachable}
use Rattle.ms_resolve.specs.Meaning.{effects_in, keeps_in}
use Rattle.ms_attrs.specs.Effects.{both}
use Rattle.ms_grammar.specs.Parts.{behind_blank}
use Rattle.ms_grammar.specs.Form.{Scale, name_text}
use Rattle.ms_grammar.specs.Fits.{IsLocal, FitsInst}
use Rattle.ms_resolve.specs.Scope.{Scope, number_of_name, number_of_word, marks_of, sig_of, effects_of_sig, value_of, index_of, block_of, arg_of, args_of, entry_of, keeps_at, behind_first, inst_of, term_of, local_behind, locals_behind, all_made, all_locals}
use Rattle.ms_resolve.specs.Used.{values_of, term_values, inst_blocks, term_blocks, arg_value, index_value, entry_value, entry_block}
use Rattle.ms_resolve.specs.Faults.{IsIn}
use Rattle.ms_validity.proofs.ListLemmas.{in_one, in_flat, in_right, in_here, in_append, in_nil}
use Rattle.ms_print.specs.Numbering.{shown_name, free_after, shown_params, free_after_params, free_after_inst, free_after_block}
use Rattle.ms_valid.specs.Func.{IsScopeIn}
use Rattle.ms_valid.proofs.Values.{IsLocalTerm, terms_local}
use Rattle.ms_again.specs.Same.{own_name, plain_param}
use Rattle.ms_again.specs.Ordered.{number_in, result_of, results_of, results_in, place_in, local_at, ordered_local, ordered_val, ordered_inst, ordered_insts, ordered_blocks, insts_count, ordered, is_number, step_of, arg_by, index_by, entry_by, inst_by, term_by}
use Rattle.ms_again.proofs.Renaming.{renamed_val, renamed_arg, renamed_index, renamed_entry, renamed_inst, renamed_term}
use Rattle.ms_again.proofs.AgainNames.{own_shown}
use Rattle.ms_again.proofs.Again.{label_again}
use Rattle.ms_again.proofs.Names.{label_name}
use Rattle.ms_again.proofs.Plain.{plain_at, plain_insts, plain_blocks, plain_of}
use Rattle.ms_again.proofs.Right.{shown_next}
use Rattle.ms_reprint.proofs.Lines.{Target, ren, LineOf, BlockOf, inst_line_of, insts_lines, blocks_lines, lines_of, insts_many, inst_less, block_less, makes_as}
use Rattle.ms_reprint.proofs.Names.{AreGiven, target_of, is_there}
use Rattle.ms_reprint.proofs.Joined.{IsOpen, joined_open, ordered_keeps, settled_by}
use Rattle.ms_reprint.proofs.Said.{IsKnownVal, IsKnownBlock, IsKnownUse}

-- ---- what lines are read under

-- the scope of a line, with the function's names
abbrev pub named_by : Target → Scope → Scope
named_by t s = record { locals = t.locals; blocks = t.blocks; funcs = s.funcs; globals = s.globals; sigs = s.sigs; effects = s.effects; keeps = s.keeps }

abbrev pub scope_in : ModuleState → Target → Scope
scope_in m t = record {
  locals = t.locals;
  blocks = t.blocks;
  funcs = m.names.funcs;
  globals = m.names.globals;
  sigs = m.sigs;
  effects = effects_in m.groups;
  keeps = keeps_in;
}

pub scope_is : (m : ModuleState) (t : Target) (s : Scope) → IsScopeIn m s → named_by t s ≡ scope_in m t
scope_is m t s h =
    let effects : s.effects ≡ effects_in m.groups = fun_ext (λ post. one_effects post m.groups (s.effects post) (effects_in m.groups post) (h.effects post) (some_effects post m.groups).1) in
    let keeps : s.keeps ≡ keeps_in = fun_ext (λ attrs. one_keeps attrs (s.keeps attrs) (keeps_in attrs) (h.keeps attrs) (some_keeps attrs).1) in
    ap (λ x. let r : Scope = record (named_by t s) { funcs = x } in r) h.funcs
    ∙ ap (λ x. let r : Scope = record (named_by t s) { funcs = m.names.funcs; globals = x } in r) h.globals
    ∙ ap (λ x. let r : Scope = record (named_by t s) { funcs = m.names.funcs; globals = m.names.globals; sigs = x } in r) h.sigs
    ∙ ap (λ x. let r : Scope = record (named_by t s) { funcs = m.names.funcs; globals = m.names.globals; sigs = m.sigs; effects = x } in r) effects
    ∙ ap (λ x. let r : Scope = record (named_by t s) { funcs = m.names.funcs; globals = m.names.globals; sigs = m.sigs; effects = effects_in m.groups; keeps = x } in r) keeps

-- ---- values

val_is : (f : FuncState) (given : AreGiven f) (s : Scope) (v : RawVal) → IsKnownVal (target_of f) s v → value_of (named_by (target_of f) s) (renamed_val (ren (target_of f) s) v) ≡ ordered_val f (value_of s v)
val_is f given s (Num ty n) h = refl
val_is f given s (Local n) h =
    ap (λ (k : ℕ). val.Local (record { 0 = k })) (is_there (target_of f).locals ((target_of f).at (number_of_name s.locals n)) h given.locals_apart given.locals_named).number
val_is f given s (Global n) h = refl

block_is : (f : FuncState) (given : AreGiven f) (s : Scope) (n : Name) → IsKnownBlock (target_of f) s n → block_of (named_by (target_of f) s) ((ren (target_of f) s).block n) ≡ block_of s n
block_is f given s n h = ap (λ (k : ℕ). let b : BlockNo = record { 0 = k } in b) (is_there (target_of f).blocks (number_of_name s.blocks n) h given.blocks_apart given.blocks_named).number

-- ---- instructions and terminators

module _ (f : FuncState) (given : AreGiven f) (s : Scope) where
  arg_is : (lets : Bool) (a : RawArg) → IsKnownVal (target_of f) s a.val → arg_of (named_by (target_of f) s) lets (renamed_arg (ren (target_of f) s) a) ≡ arg_by (ordered_val f) (arg_of s lets a)
  arg_is lets a h = ap (λ (w : Val). let b : Arg = record (arg_of s lets a) { val = w } in b) (val_is f given s a.val h)

  args_are : (marks : List Mark) (args : List RawArg) → Each (IsKnownVal (target_of f) s) (map arg_value args) →
      args_of (named_by (target_of f) s) marks (map (renamed_arg (ren (target_of f) s)) args) ≡ map (arg_by (ordered_val f)) (args_of s marks args)
  args_are marks [] h = refl
  args_are marks (a ∷ args) h =
      ap (λ (b : Arg). b ∷ args_of (named_by (target_of f) s) (behind_first marks) (map (renamed_arg (ren (target_of f) s)) args)) (arg_is (keeps_at marks) a h.0)
      ∙ ap (λ (bs : List Arg). arg_by (ordered_val f) (arg_of s (keeps_at marks) a) ∷ bs) (args_are (behind_first marks) args h.1)

  entries_are : (es : List RawEntry) → Each (IsKnownVal (target_of f) s) (map entry_value es) → Each (IsKnownBlock (target_of f) s) (map entry_block es) →
      map (entry_of (named_by (target_of f) s)) (map (renamed_entry (ren (target_of f) s)) es) ≡ map (entry_by (ordered_val f)) (map (entry_of s) es)
  entries_are [] h b = refl
  entries_are (e ∷ es) h b =
      let rest = map (entry_of (named_by (target_of f) s)) (map (renamed_entry (ren (target_of f) s)) es) in
      ap (λ (w : Val). let d : Entry = record { val = w; from = block_of (named_by (target_of f) s) ((ren (target_of f) s).block e.from) } in d ∷ rest) (val_is f given s e.val h.0)
      ∙ ap (λ (n : BlockNo). let d : Entry = record { val = ordered_val f (value_of s e.val); from = n } in d ∷ rest) (block_is f given s e.from b.0)
      ∙ ap (λ (ds : List Entry). entry_by (ordered_val f) (entry_of s e) ∷ ds) (entries_are es h.1 b.1)

  terms_are : (ts : List RawIndex) → Each (IsKnownVal (target_of f) s) (map index_value ts) →
      map (index_of (named_by (target_of f) s)) (map (renamed_index (ren (target_of f) s)) ts) ≡ map (index_by (ordered_val f)) (map (index_of s) ts)
  terms_are [] h = refl
  terms_are (t ∷ ts) h =
      let rest = map (index_of (named_by (target_of f) s)) (map (renamed_index (ren (target_of f) s)) ts) in
      ap (λ (w : Val). let d : IndexTerm = record { val = w; ty = t.ty; scale = t.scale } in d ∷ rest) (val_is f given s t.val h.0)
      ∙ ap (λ (ds : List IndexTerm). index_by (ordered_val f) (index_of s t) ∷ ds) (terms_are ts h.1)

  -- locals stay what they are
  local_open : (v : RawVal) → IsLocal v → is_number (ordered_val f (value_of s v)) ≡ false
  local_open (Num ty n) h = absurd h
  local_open (Local n) h = refl
  local_open (Global n) h = absurd h

  terms_open : (ts : List RawIndex) → Each IsLocalTerm ts → Each IsOpen (map (index_by (ordered_val f)) (map (index_of s) ts))
  terms_open [] h = tt
  terms_open (t ∷ ts) h = (local_open t.val h.0, terms_open ts h.1)

  some_step : (b : Val) (o : ℤ) (ts : List RawIndex) (head index tail : List ℕ) → ts ≢ [] →
      step_of b o (map (index_by (ordered_val f)) (map (index_of s) ts)) head index tail ≡ inst.Step b o (map (index_by (ordered_val f)) (map (index_of s) ts)) head index tail
  some_step b o [] head index tail some = absurd (some refl)
  some_step b o (t ∷ ts) head index tail some = refl

  inst_is : (scale : Scale) (i : RawInst) → FitsInst scale i → IsKnownUse (target_of f) s (values_of i) (inst_blocks i) → inst_of (named_by (target_of f) s) (renamed_inst (ren (target_of f) s) i) ≡ inst_by (ordered_val f) (inst_of s i)
  inst_is scale (Alloca size head rest) fits h = refl
  inst_is scale (Gep base offset head index rest) fits h = ap (λ w. inst.Gep w offset head index rest) (val_is f given s base h.vals.0)
  inst_is scale (Step base offset terms head index rest) fits h =
      let v = ordered_val f in
      let us = map (index_by v) (map (index_of s) terms) in
      ap (λ w. inst.Step w offset (map (index_of (named_by (target_of f) s)) (map (renamed_index (ren (target_of f) s)) terms)) head index rest) (val_is f given s base h.vals.0)
      ∙ ap (λ ts. inst.Step (v (value_of s base)) offset ts head index rest) (terms_are terms h.vals.1)
      ∙ sym (some_step (v (value_of s base)) offset terms head index rest fits.1)
      ∙ sym (joined_open (v (value_of s base)) offset us head index rest (terms_open terms (terms_local scale.sizes scale.items terms fits.2)))
  inst_is scale (Load ty ptr rest) fits h = ap (λ w. inst.Load ty w rest) (val_is f given s ptr h.vals.0)
  inst_is scale (Store ty x ptr rest) fits h =
      ap (λ w. inst.Store ty w (value_of (named_by (target_of f) s) (renamed_val (ren (target_of f) s) ptr)) rest) (val_is f given s x h.vals.0)
      ∙ ap (λ w. inst.Store ty (ordered_val f (value_of s x)) w rest) (val_is f given s ptr h.vals.1.0)
  inst_is scale (Copy to from len head behind rest) fits h =
      let tail = behind_blank behind ++ rest in
      ap (λ a. inst.Copy a (arg_of (named_by (target_of f) s) false (renamed_arg (ren (target_of f) s) from)) len head tail) (arg_is false to h.vals.0)
      ∙ ap (λ a. inst.Copy (arg_by (ordered_val f) (arg_of s false to)) a len head tail) (arg_is false from h.vals.1.0)
  inst_is scale (Call callee ret args head behind rest) fits h =
      let n = number_of_word s.funcs (name_text callee) in
      ap (λ (bs : List Arg). inst.Call (record { 0 = n }) ret bs (both (s.effects behind) (effects_of_sig (sig_of s n))) head (behind_blank behind ++ rest)) (args_are (marks_of (sig_of s n)) args h.vals)
  inst_is scale (Bin op flags ty x y rest) fits h =
      ap (λ w. inst.Bin op flags ty w (value_of (named_by (target_of f) s) (renamed_val (ren (target_of f) s) y)) rest) (val_is f given s x h.vals.0)
      ∙ ap (λ w. inst.Bin op flags ty (ordered_val f (value_of s x)) w rest) (val_is f given s y h.vals.1.0)
  inst_is scale (Cmp pred flags ty x y rest) fits h =
      ap (λ w. inst.Cmp pred flags ty w (value_of (named_by (target_of f) s) (renamed_val (ren (target_of f) s) y)) rest) (val_is f given s x h.vals.0)
      ∙ ap (λ w. inst.Cmp pred flags ty (ordered_val f (value_of s x)) w rest) (val_is f given s y h.vals.1.0)
  inst_is scale (Select c ty x y rest) fits h =
      ap (λ w. inst.Select w ty (value_of (named_by (target_of f) s) (renamed_val (ren (target_of f) s) x)) (value_of (named_by (target_of f) s) (renamed_val (ren (target_of f) s) y)) rest) (val_is f given s c h.vals.0)
      ∙ ap (λ w. inst.Select (ordered_val f (value_of s c)) ty w (value_of (named_by (target_of f) s) (renamed_val (ren (target_of f) s) y)) rest) (val_is f given s x h.vals.1.0)
      ∙ ap (λ w. inst.Select (ordered_val f (value_of s c)) ty (ordered_val f (value_of s x)) w rest) (val_is f given s y h.vals.1.1.0)
  inst_is scale (Cast op flags from x to rest) fits h = ap (λ w. inst.Cast op flags from w to rest) (val_is f given s x h.vals.0)
  inst_is scale (Phi ty entries rest) fits h = ap (λ es. inst.Phi ty es rest) (entries_are entries h.vals h.froms)

  term_is : (x : RawTerm) → IsKnownUse (target_of f) s (term_values x) (term_blocks x) → term_of (named_by (target_of f) s) (renamed_term (ren (target_of f) s) x) ≡ term_by (ordered_val f) (term_of s x)
  term_is (Br to rest) h = ap (λ n. term.Br n rest) (block_is f given s to h.froms.0)
  term_is (CondBr c a b rest) h =
      ap (λ w. term.CondBr w (block_of (named_by (target_of f) s) ((ren (target_of f) s).block a)) (block_of (named_by (target_of f) s) ((ren (target_of f) s).block b)) rest) (val_is f given s c h.vals.0)
      ∙ ap (λ n. term.CondBr (ordered_val f (value_of s c)) n (block_of (named_by (target_of f) s) ((ren (target_of f) s).block b)) rest) (block_is f given s a h.froms.0)
      ∙ ap (λ n. term.CondBr (ordered_val f (value_of s c)) (block_of s a) n rest) (block_is f given s b h.froms.1.0)
  term_is (Ret None rest) h = refl
  term_is (Ret (Some g) rest) h = ap (λ w. term.Ret (Some (g.0, w)) rest) (val_is f given s g.1 h.vals.0)
  term_is (Unreachable rest) h = refl

-- ---- results

-- a number stands once
abbrev pub AreOnce : List ℕ → Type 0
AreOnce [] = Unit {0}
AreOnce (x ∷ xs) = (IsIn xs x → ⊥) × AreOnce xs

once_join : (xs ys : List ℕ) → AreOnce xs → AreOnce ys → ((n : ℕ) → IsIn xs n → IsIn ys n → ⊥) → AreOnce (xs ++ ys)
once_join [] ys a b apart = b
once_join (x ∷ xs) ys a b apart = (
  λ on. ⊎_elim (λ (l : IsIn xs x). a.0 l) (λ (r : IsIn ys x). apart x (in_here x xs) r) (in_append xs ys x on),
  once_join xs ys a.1 b (λ n l r. apart n (suc l.0, l.1) r),
)

place_at : (pre : List ℕ) (r : ℕ) (post : List ℕ) → AreOnce (pre ++ r ∷ post) → place_in (pre ++ r ∷ post) r ≡ length pre
place_at [] r post h = ap (λ (b : Bool). if b then 0 else suc (place_in post r)) (eq-eqb r r refl)
place_at (x ∷ pre) r post h = by (x == r) refl (place_at pre r post h.1)
  where
    by : (t : Bool) → (x == r) ≡ t → place_in (pre ++ r ∷ post) r ≡ length pre → (if x == r then 0 else suc (place_in (pre ++ r ∷ post) r)) ≡ suc (length pre)
    by true t rest = let same = eqb-true x r t in absurd (h.0 (subst (λ n. IsIn (pre ++ r ∷ post) n) (sym same) (in_right pre (r ∷ post) r (in_here r post))))
    by false t rest = ap (λ (b : Bool). if b then 0 else suc (place_in (pre ++ r ∷ post) r)) t ∙ ap suc rest

-- the instruction that gives a number
result_back : (x : Placed) (n : ℕ) → IsIn (result_of x) n → (l : LocalNo) × (x.result ≡ Some l) × (l.0 ≡ n)
result_back x n h = by x.result refl
  where
    by : (o : Option LocalNo) → x.result ≡ o → (l : LocalNo) × (x.result ≡ Some l) × (l.0 ≡ n)
    by None e = absurd (in_nil n (subst (λ (r : Option LocalNo). IsIn (number_in r) n) e h))
    by (Some l) e = (l, e, in_one l.0 n (subst (λ (r : Option LocalNo). IsIn (number_in r) n) e h))

insts_give : (xs : List Placed) (n : ℕ) → IsIn (flat_map result_of xs) n → (k : ℕ) × (x : Placed) × (slice_get xs k ≡ Some x) × (l : LocalNo) × (x.result ≡ Some l) × (l.0 ≡ n)
insts_give xs n h =
    let at = in_flat result_of xs n h in
    let gives = result_back at.0 n at.2 in
    (at.1.0, at.0, at.1.1, gives.0, gives.1, gives.2)

blocks_give : (bs : List Block) (n : ℕ) → IsIn (results_in bs) n → (b : ℕ) × (k : ℕ) × (x : Placed) × (slice_get (insts_at bs b) k ≡ Some x) × (l : LocalNo) × (x.result ≡ Some l) × (l.0 ≡ n)
blocks_give [] n h = absurd (in_nil n h)
blocks_give (z ∷ bs) n h = ⊎_elim
    (λ (here : IsIn (results_of z) n). let r = insts_give z.insts n here in (0, r.0, r.1, r.2, r.3, r.4, r.5))
    (λ (later : IsIn (results_in bs) n). let r = blocks_give bs n later in (suc r.0, r.1, r.2, r.3, r.4, r.5, r.6))
    (in_append (results_of z) (results_in bs) n h)

-- each number is given in one place
abbrev GivesOnce : List Block → Type 0
GivesOnce bs = (b j c k : ℕ) (x y : Placed) (l m : LocalNo) → slice_get (insts_at bs b) j ≡ Some x → slice_get (insts_at bs c) k ≡ Some y → x.result ≡ Some l → y.result ≡ Some m → l.0 ≡ m.0 → (b ≡ c) × (j ≡ k)

abbrev InstsOnce : List Placed → Type 0
InstsOnce xs = (j k : ℕ) (x y : Placed) (l m : LocalNo) → slice_get xs j ≡ Some x → slice_get xs k ≡ Some y → x.result ≡ Some l → y.result ≡ Some m → l.0 ≡ m.0 → j ≡ k

one_once : (x : Placed) → AreOnce (result_of x)
one_once x = by x.result
  where
    by : (o : Option LocalNo) → AreOnce (number_in o)
    by None = tt
    by (Some l) = (λ on. in_nil l.0 on, tt)

insts_once : (xs : List Placed) → InstsOnce xs → AreOnce (flat_map result_of xs)
insts_once [] h = tt
insts_once (x ∷ xs) h =
    once_join (result_of x) (flat_map result_of xs) (one_once x) (insts_once xs (λ j k y z l m p q g w same. let r : suc j ≡ suc k = h (suc j) (suc k) y z l m p q g w same in omega arith))
    (λ n here later.
    let a = result_back x n here in
    let b = insts_give xs n later in
    let r : 0 ≡ suc b.0 = h 0 (suc b.0) x b.1 a.0 b.3 refl b.2 a.1 b.4 (a.2 ∙ sym b.5) in
    omega arith)

blocks_once : (bs : List Block) → GivesOnce bs → AreOnce (results_in bs)
blocks_once [] h = tt
blocks_once (z ∷ bs) h =
    once_join (results_of z) (results_in bs) (insts_once z.insts (λ j k x y l m p q g w same. (h 0 j 0 k x y l m p q g w same).1))
    (blocks_once bs (λ b j c k x y l m p q g w same. let r = h (suc b) j (suc c) k x y l m p q g w same in let one = r.0 in ((omega arith), r.1)))
    (λ n here later.
    let a = insts_give z.insts n here in
    let b = blocks_give bs n later in
    let r = (h 0 a.0 (suc b.0) b.1 a.1 b.2 a.3 b.4 a.2 b.3 a.4 b.5 (a.5 ∙ sym b.6)).0 in
    omega arith)

local_one : (k l : LocalNo) → k.0 ≡ l.0 → k ≡ l
local_one k l e = ap (λ (n : ℕ). let m : LocalNo = record { 0 = n } in m) e

pub results_once : (f : FuncState) → IsNumbered f → AreOnce (results_in f.blocks)
results_once f numbered =
    blocks_once f.blocks (λ b j c k x y l m p q g w same. numbered.one_giver l b j c k x y (record { found = p; gives = g }) (record { found = q; gives = w ∙ ap Some (local_one m l (sym same)) }))

-- ---- instructions in their places

-- what is known of an instruction with its line
pub record InstFacts (m : ModuleState) (f : FuncState) (x : Placed) (h : LineOf m x) : Type 0 where
  pub known : IsKnownUse (target_of f) h.said.scope (values_of h.said.line) (inst_blocks h.said.line)
  pub range : (l : LocalNo) → x.result ≡ Some l → length f.params ≤ l.0

abbrev pub AllInsts : (m : ModuleState) (f : FuncState) (xs : List Placed) → Each (LineOf m) xs → Type 0
AllInsts m f [] h = Unit {0}
AllInsts m f (x ∷ xs) h = InstFacts m f x h.0 × AllInsts m f xs h.1

pub record BlockFacts (m : ModuleState) (f : FuncState) (b : Block) (h : BlockOf m b) : Type 0 where
  pub insts : AllInsts m f b.insts h.insts
  pub term : IsKnownUse (target_of f) h.term.scope (term_values h.term.line) (term_blocks h.term.line)

abbrev pub AllBlocks : (m : ModuleState) (f : FuncState) (bs : List Block) → Each (BlockOf m) bs → Type 0
AllBlocks m f [] h = Unit {0}
AllBlocks m f (b ∷ bs) h = BlockFacts m f b h.0 × AllBlocks m f bs h.1

pub line_inst : (m : ModuleState) (f : FuncState) (given : AreGiven f) (x : Placed) (h : LineOf m x) → InstFacts m f x h →
    inst_of (scope_in m (target_of f)) (renamed_inst (ren (target_of f) h.said.scope) h.said.line) ≡ inst_by (ordered_val f) x.inst
line_inst m f given x h facts =
    ap (λ (s : Scope). inst_of s (renamed_inst (ren (target_of f) h.said.scope) h.said.line)) (sym (scope_is m (target_of f) h.said.scope h.said.in_module))
    ∙ inst_is f given h.said.scope h.said.says.scale h.said.line h.said.says.fits.1 facts.known ∙ ap (inst_by (ordered_val f)) (sym h.said.is)
    ∙ settled_by (ordered_val f) (ordered_keeps f) x.inst

block_term : (m : ModuleState) (f : FuncState) (given : AreGiven f) (b : Block) (h : BlockOf m b) → BlockFacts m f b h →
    term_of (scope_in m (target_of f)) (renamed_term (ren (target_of f) h.term.scope) h.term.line) ≡ term_by (ordered_val f) b.term
block_term m f given b h facts =
    ap (λ (s : Scope). term_of s (renamed_term (ren (target_of f) h.term.scope) h.term.line)) (sym (scope_is m (target_of f) h.term.scope h.term.in_module))
    ∙ term_is f given h.term.scope h.term.line facts.term ∙ ap (term_by (ordered_val f)) (sym h.term.is)

-- where the results go on with those of instructions
record Place (f : FuncState) (pre : List ℕ) (more : List ℕ) (l : ℕ) : Type 0 where
  pub split : results_in f.blocks ≡ pre ++ more
  pub count : l ≡ length f.params + length pre

some_local : (f : FuncState) (once : AreOnce (results_in f.blocks)) (pre more : List ℕ) (l : ℕ) (r : LocalNo) → Place f pre (r.0 ∷ more) l → length f.params ≤ r.0 → ordered_local f r ≡ record { 0 = l }
some_local f once pre more l r place low =
    let t : nat_lt r.0 (length f.params) ≡ false = grind (arith, tests) in
    let at : place_in (results_in f.blocks) r.0 ≡ length pre = ap (λ ks. place_in ks r.0) place.split ∙ place_at pre r.0 more (subst (λ (ks : List ℕ). AreOnce ks) place.split once) in
    let number : local_at (length f.params) (results_in f.blocks) r.0 ≡ l =
    ap (λ (b : Bool). if b then r.0 else length f.params + place_in (results_in f.blocks) r.0) t ∙ ap (λ (k : ℕ). length f.params + k) at ∙ sym place.count in
    ap (λ (k : ℕ). let n : LocalNo = record { 0 = k } in n) number

place_on : (f : FuncState) (pre now more : List ℕ) (l : ℕ) → Place f pre (now ++ more) l → Place f (pre ++ now) more (l + length now)
place_on f pre now more l h = record { split = h.split ∙ sym (append_assoc pre now more); count = (let both = length-append pre now in let c = h.count in omega arith) }

-- an instruction's line, in order
abbrev PlacedAs : ℕ → Option LocalNo → Name → Inst → Placed
PlacedAs n r name i = record { number = n; result = r; name = name; inst = i }

made_result : (f : FuncState) (once : AreOnce (results_in f.blocks)) (pre more : List ℕ) (l : ℕ) (o : Option LocalNo) → Place f pre (number_in o ++ more) l → ((r : LocalNo) → o ≡ Some r → length f.params ≤ r.0) →
    (if is_some o then Some (record { 0 = l }) else None) ≡ option_map (ordered_local f) o
made_result f once pre more l None place low = refl
made_result f once pre more l (Some r) place low = ap (λ (k : LocalNo). Some k) (sym (some_local f once pre more l r place (low r refl)))

made_own : (next : ℕ) (o : Option LocalNo) (n : Name) → next < 10 ^ 9 → (is_some o ≡ false → n ≡ Absent) → (if is_some o then own_name (if is_some o then shown_name next n else Absent) else Absent) ≡ own_name n
made_own next None n few unnamed = ap own_name (sym (unnamed refl))
made_own next (Some l) n few unnamed = own_shown next n few

made_count : (l : ℕ) (o : Option LocalNo) → (if is_some o then suc l else l) ≡ l + length (number_in o)
made_count l None = omega arith
made_count l (Some r) = omega arith

line_placed : (m : ModuleState) (f : FuncState) (given : AreGiven f) (once : AreOnce (results_in f.blocks)) (next n l : ℕ) (pre more : List ℕ) (x : Placed) (h : LineOf m x) → InstFacts m f x h → next < 10 ^ 9 →
    Place f pre (result_of x ++ more) l → plain_at (scope_in m (target_of f)) n l (inst_line_of m (target_of f) next x h) ≡ ordered_inst f n x
line_placed m f given once next n l pre more x h facts few place =
    let line = renamed_inst (ren (target_of f) h.said.scope) h.said.line in
    let name : Name = if is_some x.result then shown_name next x.name else Absent in
    let i = inst_of (scope_in m (target_of f)) line in
    let makes_it = makes_as m (target_of f) x h in
    ap (λ (b : Bool). PlacedAs n (if b then Some (record { 0 = l }) else None) (if b then own_name name else Absent) i) makes_it
    ∙ ap (λ r. PlacedAs n r (if is_some x.result then own_name name else Absent) i) (made_result f once pre more l x.result place facts.range)
    ∙ ap (λ k. PlacedAs n (option_map (ordered_local f) x.result) k i) (made_own next x.result x.name few h.unnamed)
    ∙ ap (λ j. PlacedAs n (option_map (ordered_local f) x.result) (own_name x.name) j) (line_inst m f given x h facts)

line_behind : (m : ModuleState) (f : FuncState) (next l : ℕ) (x : Placed) (h : LineOf m x) → local_behind l (inst_line_of m (target_of f) next x h) ≡ l + length (result_of x)
line_behind m f next l x h = ap (λ (b : Bool). if b then suc l else l) (makes_as m (target_of f) x h) ∙ made_count l x.result

insts_placed : (m : ModuleState) (f : FuncState) (given : AreGiven f) (once : AreOnce (results_in f.blocks)) (next n l : ℕ) (pre more : List ℕ) (xs : List Placed) (h : Each (LineOf m) xs) → AllInsts m f xs h →
    next + length xs ≤ 10 ^ 9 → Place f pre (flat_map result_of xs ++ more) l → plain_insts (scope_in m (target_of f)) n l (insts_lines m (target_of f) next xs h) ≡ ordered_insts f n xs
insts_placed m f given once next n l pre more [] h facts few place = refl
insts_placed m f given once next n l pre more (x ∷ xs) h facts few place =
    let less = inst_less next x in
    let rest = flat_map result_of xs ++ more in
    let here : Place f pre (result_of x ++ rest) l = record { split = place.split ∙ ap (λ ks. pre ++ ks) (append_assoc (result_of x) (flat_map result_of xs) more); count = place.count } in
    let S = scope_in m (target_of f) in
    let later = insts_lines m (target_of f) (free_after_inst next x) xs h.1 in
    ap (λ (y : Placed). y ∷ plain_insts S (suc n) (local_behind l (inst_line_of m (target_of f) next x h.0)) later) (line_placed m f given once next n l pre rest x h.0 facts.0 (omega arith) here)
    ∙ ap (λ (k : ℕ). ordered_inst f n x ∷ plain_insts S (suc n) k later) (line_behind m f next l x h.0)
    ∙ ap (λ (ys : List Placed). ordered_inst f n x ∷ ys)
    (insts_placed m f given once (free_after_inst next x) (suc n) (l + length (result_of x)) (pre ++ result_of x) more xs h.1 facts.1 (omega arith) (place_on f pre (result_of x) rest l here))

insts_behind : (m : ModuleState) (f : FuncState) (next l : ℕ) (xs : List Placed) (h : Each (LineOf m) xs) → locals_behind l (insts_lines m (target_of f) next xs h) ≡ l + length (flat_map result_of xs)
insts_behind m f next l [] h = omega arith
insts_behind m f next l (x ∷ xs) h =
    let one = line_behind m f next l x h.0 in
    let rest = insts_behind m f (free_after_inst next x) (local_behind l (inst_line_of m (target_of f) next x h.0)) xs h.1 in
    let both = length-append (result_of x) (flat_map result_of xs) in
    omega arith

insts_many_lines : (m : ModuleState) (t : Target) (next : ℕ) (xs : List Placed) (h : Each (LineOf m) xs) → length (insts_lines m t next xs h) ≡ length xs
insts_many_lines m t next [] h = refl
insts_many_lines m t next (x ∷ xs) h = ap suc (insts_many_lines m t (free_after_inst next x) xs h.1)

label_own : (first : Bool) (next : ℕ) (n : Name) → next < 10 ^ 9 → own_name (label_name (label_again first 0 next n)) ≡ own_name n
label_own true next (Word text) few = refl
label_own true next (Number k) few = refl
label_own true next Absent few = refl
label_own false next n few = own_shown next n few

blocks_placed : (m : ModuleState) (f : FuncState) (given : AreGiven f) (once : AreOnce (results_in f.blocks)) (first : Bool) (next n l : ℕ) (pre : List ℕ) (bs : List Block) (h : Each (BlockOf m) bs) → AllBlocks m f bs h →
    next + insts_many bs ≤ 10 ^ 9 → Place f pre (results_in bs) l → plain_blocks (scope_in m (target_of f)) n l (blocks_lines m (target_of f) first next bs h) ≡ ordered_blocks f n bs
blocks_placed m f given once first next n l pre [] h facts few place = refl
blocks_placed m f given once first next n l pre (b ∷ bs) h facts few place =
    let S = scope_in m (target_of f) in
    let t = target_of f in
    let less = block_less next b in
    let more = shown_next next b.name in
    let lines = insts_lines m t (free_after next b.name) b.insts h.0.insts in
    let later = blocks_lines m t false (free_after_block next b) bs h.1 in
    let B : Name → List Placed → Term → Block = λ name xs e. record { name = name; insts = xs; term = e } in
    let insts = plain_insts S n l lines in
    let end = term_of S (renamed_term (ren t h.0.term.scope) h.0.term.line) in
    let rest = plain_blocks S (n + length lines) (locals_behind l lines) later in
    ap (λ name. B name insts end ∷ rest) (label_own first next b.name (omega arith))
    ∙ ap (λ (xs : List Placed). B (own_name b.name) xs end ∷ rest) (insts_placed m f given once (free_after next b.name) n l pre (results_in bs) b.insts h.0.insts facts.0.insts (omega arith) place)
    ∙ ap (λ e. B (own_name b.name) (ordered_insts f n b.insts) e ∷ rest) (block_term m f given b h.0 facts.0)
    ∙ ap (λ (k : ℕ). B (own_name b.name) (ordered_insts f n b.insts) (term_by (ordered_val f) b.term) ∷ plain_blocks S (n + k) (locals_behind l lines) later) (insts_many_lines m t (free_after next b.name) b.insts h.0.insts)
    ∙ ap (λ (k : ℕ). B (own_name b.name) (ordered_insts f n b.insts) (term_by (ordered_val f) b.term) ∷ plain_blocks S (n + length b.insts) k later) (insts_behind m f (free_after next b.name) l b.insts h.0.insts)
    ∙ ap (λ (ys : List Block). B (own_name b.name) (ordered_insts f n b.insts) (term_by (ordered_val f) b.term) ∷ ys)
    (blocks_placed m f given once false (free_after_block next b) (n + length b.insts) (l + length (results_of b)) (pre ++ results_of b) bs h.1 facts.1 (omega arith) (place_on f pre (results_of b) (results_in bs) l place))

made_same : (m : ModuleState) (t : Target) (first : Bool) (next n : ℕ) (bs : List Block) (h : Each (BlockOf m) bs) → all_made n (blocks_lines m t first next bs h) ≡ n + insts_count bs
made_same m t first next n [] h = omega arith
made_same m t first next n (b ∷ bs) h =
    let one = insts_many_lines m t (free_after next b.name) b.insts h.0.insts in
    let rest = made_same m t false (free_after_block next b) (n + length (insts_lines m t (free_after next b.name) b.insts h.0.insts)) bs h.1 in
    omega arith

locals_same : (m : ModuleState) (f : FuncState) (first : Bool) (next l : ℕ) (bs : List Block) (h : Each (BlockOf m) bs) → all_locals l (blocks_lines m (target_of f) first next bs h) ≡ l + length (results_in bs)
locals_same m f first next l [] h = omega arith
locals_same m f first next l (b ∷ bs) h =
    let one = insts_behind m f (free_after next b.name) l b.insts h.0.insts in
    let rest = locals_same m f false (free_after_block next b) (locals_behind l (insts_lines m (target_of f) (free_after next b.name) b.insts h.0.insts)) bs h.1 in
    let both = length-append (results_of b) (results_in bs) in
    omega arith

params_same : (next : ℕ) (ps : List Param) → next + length ps ≤ 10 ^ 9 → map plain_param (shown_params next ps) ≡ map plain_param ps
params_same next [] few = refl
params_same next (p ∷ ps) few =
    let more = shown_next next p.name in
    ap (λ n. let q : Param = record p { name = n } in q ∷ map plain_param (shown_params (free_after next p.name) ps)) (own_shown next p.name (omega arith))
    ∙ ap (λ (qs : List Param). plain_param p ∷ qs) (params_same (free_after next p.name) ps (omega arith))

params_less : (next : ℕ) (ps : List Param) → free_after_params next ps ≤ next + length ps
params_less next [] = omega arith
params_less next (p ∷ ps) = let more = shown_next next p.name in let rest = params_less (free_after next p.name) ps in omega arith

params_many : (next : ℕ) (ps : List Param) → length (shown_params next ps) ≡ length ps
params_many next [] = refl
params_many next (p ∷ ps) = ap suc (params_many (free_after next p.name) ps)

pub func_placed : (m : ModuleState) (f : FuncState) (given : AreGiven f) → IsNumbered f → (head : Head) → head.name ≡ f.name → head.attrs ≡ f.head → head.ret ≡ f.ret → head.post ≡ f.tail →
    (h : Each (BlockOf m) f.blocks) → AllBlocks m f f.blocks h → plain_of (scope_in m (target_of f)) (lines_of m (target_of f) head f h) ≡ ordered f
func_placed m f given numbered head name_is attrs_is ret_is post_is h facts =
    let S = scope_in m (target_of f) in
    let few = given.few in
    let less = params_less 0 f.params in
    let lines = blocks_lines m (target_of f) true (free_after_params 0 f.params) f.blocks h in
    let count = params_many 0 f.params in
    let F : List ℕ → List ℕ → Option Ty → List Param → List ℕ → List Block → ℕ → ℕ → FuncState = λ n a r ps p bs made locals. record {
      name = n;
      head = a;
      ret = r;
      params = ps;
      tail = p;
      blocks = bs;
      made = made;
      locals = locals;
      spare = 0;
    } in
    let ps = map plain_param (shown_params 0 f.params) in
    let bs = plain_blocks S 0 (length (shown_params 0 f.params)) lines in
    let made = all_made 0 lines in
    let all : all_made 0 lines ≡ insts_count f.blocks = (let r = made_same m (target_of f) true (free_after_params 0 f.params) 0 f.blocks h in omega arith) in
    let locals = all_locals (length (shown_params 0 f.params)) lines in
    ap (λ n. F n head.attrs head.ret ps head.post bs made locals) name_is
    ∙ ap (λ a. F f.name a head.ret ps head.post bs made locals) attrs_is
    ∙ ap (λ r. F f.name f.head r ps head.post bs made locals) ret_is
    ∙ ap (λ p. F f.name f.head f.ret ps p bs made locals) post_is
    ∙ ap (λ (qs : List Param). F f.name f.head f.ret qs f.tail bs made locals) (params_same 0 f.params (omega arith))
    ∙ ap (λ (k : ℕ). F f.name f.head f.ret (map plain_param f.params) f.tail (plain_blocks S 0 k lines) made (all_locals k lines)) count
    ∙ ap (λ (cs : List Block). F f.name f.head f.ret (map plain_param f.params) f.tail cs made (all_locals (length f.params) lines))
    (blocks_placed m f given (results_once f numbered) true (free_after_params 0 f.params) 0 (length f.params) [] f.blocks h facts (omega arith) (record { split = refl; count = omega arith }))
    ∙ ap (λ (k : ℕ). F f.name f.head f.ret (map plain_param f.params) f.tail (ordered_blocks f 0 f.blocks) k (all_locals (length f.params) lines)) all
    ∙ ap (λ (k : ℕ). F f.name f.head f.ret (map plain_param f.params) f.tail (ordered_blocks f 0 f.blocks) (insts_count f.blocks) k) (locals_same m f true (free_after_params 0 f.params) (length f.params) f.blocks h)
