-- The printed items are the same module.
use Rattle.std.proofs.Common.{◌≡◌, ◌≤◌, ◌<◌, ◌+◌, ◌^◌, ◌&&◌, ℕ, suc, Bool, true, false, List, [], ◌∷◌, ◌++◌, Option, Some, None, map, length, if◌then◌else◌, refl, sym, ap, ◌∙◌, arith}
use Rattle.std.specs.List.{flat_map}
use Rattle.std.proofs.lemmas.List.{map-append}
use Rattle.ms_ir.specs.declared.names.Name.{Name}
use Rattle.ms_ir.specs.declared.names.Name.TheVariants.{Word, Number, Absent}
use Rattle.ms_ir.specs.declared.names.Mark.{Mark}
use Rattle.ms_ir.specs.declared.names.Param.{Param}
use Rattle.ms_ir.specs.declared.inst.Val.TheVariants as val
use Rattle.ms_ir.specs.declared.inst.Arg.{Arg}
use Rattle.ms_ir.specs.declared.inst.Entry.{Entry}
use Rattle.ms_ir.specs.declared.inst.IndexTerm.{IndexTerm}
use Rattle.ms_ir.specs.declared.inst.Effects.{Effects}
use Rattle.ms_ir.specs.declared.inst.Inst.{Inst}
use Rattle.ms_ir.specs.declared.inst.Inst.TheVariants as inst
use Rattle.ms_ir.specs.declared.inst.Term.{Term}
use Rattle.ms_ir.specs.declared.inst.Term.TheVariants as term
use Rattle.ms_ir.specs.declared.module.Item.{Item}
use Rattle.ms_ir.specs.declared.module.Item.TheVariants as item
use Rattle.ms_ir.specs.declared.module.Sig.{Sig}
use Rattle.ms_ir.specs.Symbols.{NamesState}
use Rattle.ms_ir.specs.Func.{Placed, Block, FuncState}
use Rattle.ms_grammar.specs.Kept.{Each}
use Rattle.ms_grammar.specs.Form.{name_text, printed}
use Rattle.ms_grammar.specs.Parts.{behind_blank}
use Rattle.ms_grammar.specs.declared.line.Line.{Line}
use Rattle.ms_grammar.specs.declared.line.Line.TheVariants as said
use Rattle.ms_grammar.specs.declared.line.RawVal.{RawVal}
use Rattle.ms_grammar.specs.declared.line.RawVal.TheVariants.{Num, Local, Global}
use Rattle.ms_grammar.specs.declared.line.RawArg.{RawArg}
use Rattle.ms_grammar.specs.declared.line.RawEntry.{RawEntry}
use Rattle.ms_grammar.specs.declared.line.RawIndex.{RawIndex}
use Rattle.ms_grammar.specs.declared.line.RawInst.{RawInst}
use Rattle.ms_grammar.specs.declared.line.RawInst.TheVariants.{Alloca, Gep, Step, Load, Store, Copy, Call, Bin, Cmp, Select, Cast, Phi}
use Rattle.ms_grammar.specs.declared.line.RawTerm.{RawTerm}
use Rattle.ms_grammar.specs.declared.line.RawTerm.TheVariants.{Br, CondBr, Ret, Unreachable}
use Rattle.ms_attrs.specs.Effects.{both}
use Rattle.ms_resolve.specs.Shape.{InstLine, BlockLines, FuncLines, ItemLines, plain, body}
use Rattle.ms_resolve.specs.Made.{makes, locals_of, blocks_of}
use Rattle.ms_resolve.specs.Used.{values_of, term_values, inst_blocks, term_blocks, arg_value, index_value, entry_value, entry_block}
use Rattle.ms_resolve.specs.Faults.{line_symbols, symbols_of, name_of_symbol}
use Rattle.ms_resolve.specs.Scope.{Scope, number_of_name, value_of, block_of, is_pointer, arg_of, args_of, entry_of, index_of, keeps_at, behind_first, marks_of, effects_of_sig, sig_of, number_of_word, inst_of, term_of, local_behind, locals_behind, all_made, all_locals, mark_of}
use Rattle.ms_resolve.specs.Module.{group_of, groups_of, func_names_in, global_names_in, names_of, sigs_in, items_from, bodies_in}
use Rattle.ms_print.specs.Numbering.{shown_name, free_after, shown_params}
use Rattle.ms_again.specs.Same.{own_name, plain_param}
use Rattle.ms_again.proofs.Renaming.{Renaming, renamed_val, renamed_arg, renamed_entry, renamed_index, renamed_inst, renamed_term}
use Rattle.ms_again.proofs.Fine.{made_name}
use Rattle.ms_again.proofs.Right.{shown_next}
use Rattle.ms_again.proofs.Names.{shown, label_name, inst_free, block_free, locals_listed, blocks_listed, blocks_size}
use Rattle.ms_again.proofs.Plain.{plain_at, plain_insts, plain_blocks, plain_of}
use Rattle.ms_again.proofs.Again.{renaming, label_said, block_said, label_again, insts_again, blocks_again, start, func_said, gap_said, func_again, items_again}
use Rattle.ms_again.proofs.AgainNames.{makes_again, own_shown, inst_less, block_less, params_less}
use Rattle.ms_again.proofs.Uses.{IsRightVal, IsRightBlock, IsRightUse, IsRightInst, IsRightLines}
use Rattle.ms_again.proofs.Lines.{IsFineNamed}

-- lines outside functions give the same whatever their numbers
line_names : (n k : ℕ) (l : Line) → map name_of_symbol (line_symbols n l) ≡ map name_of_symbol (line_symbols k l)
line_names n k said.Empty = refl
line_names n k said.Close = refl
line_names n k (said.Kept t) = refl
line_names n k (said.Group g t) = refl
line_names n k (said.GlobalVar g t) = refl
line_names n k (said.Label l) = refl
line_names n k (said.Declare h) = refl
line_names n k (said.Define h) = refl
line_names n k (said.Inst r i) = refl
line_names n k (said.Term t) = refl

line_group : (n k : ℕ) (l : Line) → group_of (plain n l) ≡ group_of (plain k l)
line_group n k said.Empty = refl
line_group n k said.Close = refl
line_group n k (said.Kept t) = refl
line_group n k (said.Group g t) = refl
line_group n k (said.GlobalVar g t) = refl
line_group n k (said.Label l) = refl
line_group n k (said.Declare h) = refl
line_group n k (said.Define h) = refl
line_group n k (said.Inst r i) = refl
line_group n k (said.Term t) = refl

line_func : (n k : ℕ) (l : Line) → func_names_in (plain n l) ≡ func_names_in (plain k l)
line_func n k said.Empty = refl
line_func n k said.Close = refl
line_func n k (said.Kept t) = refl
line_func n k (said.Group g t) = refl
line_func n k (said.GlobalVar g t) = refl
line_func n k (said.Label l) = refl
line_func n k (said.Declare h) = refl
line_func n k (said.Define h) = refl
line_func n k (said.Inst r i) = refl
line_func n k (said.Term t) = refl

line_global : (n k : ℕ) (l : Line) → global_names_in (plain n l) ≡ global_names_in (plain k l)
line_global n k said.Empty = refl
line_global n k said.Close = refl
line_global n k (said.Kept t) = refl
line_global n k (said.Group g t) = refl
line_global n k (said.GlobalVar g t) = refl
line_global n k (said.Label l) = refl
line_global n k (said.Declare h) = refl
line_global n k (said.Define h) = refl
line_global n k (said.Inst r i) = refl
line_global n k (said.Term t) = refl

line_sigs : (effects : List ℕ → Effects) (keeps : List ℕ → Bool) (n k : ℕ) (l : Line) → sigs_in effects keeps (plain n l) ≡ sigs_in effects keeps (plain k l)
line_sigs effects keeps n k said.Empty = refl
line_sigs effects keeps n k said.Close = refl
line_sigs effects keeps n k (said.Kept t) = refl
line_sigs effects keeps n k (said.Group g t) = refl
line_sigs effects keeps n k (said.GlobalVar g t) = refl
line_sigs effects keeps n k (said.Label l) = refl
line_sigs effects keeps n k (said.Declare h) = refl
line_sigs effects keeps n k (said.Define h) = refl
line_sigs effects keeps n k (said.Inst r i) = refl
line_sigs effects keeps n k (said.Term t) = refl

pub line_bodies : (scope scope' : FuncLines → Scope) (spare : List ℕ → ℕ) (n k : ℕ) (l : Line) → bodies_in scope' spare (plain n l) ≡ bodies_in scope spare (plain k l)
line_bodies s t p n k said.Empty = refl
line_bodies s t p n k said.Close = refl
line_bodies s t p n k (said.Kept text) = refl
line_bodies s t p n k (said.Group g text) = refl
line_bodies s t p n k (said.GlobalVar g text) = refl
line_bodies s t p n k (said.Label l) = refl
line_bodies s t p n k (said.Declare h) = refl
line_bodies s t p n k (said.Define h) = refl
line_bodies s t p n k (said.Inst r i) = refl
line_bodies s t p n k (said.Term e) = refl

-- a function of items: what of an item is the same for the printed one is the same in all
flat_same : {Y : Type 0} (g : ItemLines → List Y) → ((n k : ℕ) (l : Line) → g (plain n l) ≡ g (plain k l)) → ((row : ℕ) (f : FuncLines) → g (body (func_again row f)) ≡ g (body f)) →
    (row : ℕ) (before : Option Bool) (items : List ItemLines) → flat_map g (items_again row before items) ≡ flat_map g items
flat_same g lines funcs row before [] = refl
flat_same g lines funcs row before (plain n line ∷ rest) =
    let at = row + length (gap_said before false) in
    ap (λ ys. ys ++ flat_map g (items_again (at + 1) (Some false) rest)) (lines at n line) ∙ ap (λ ys. g (plain n line) ++ ys) (flat_same g lines funcs (at + 1) (Some false) rest)
flat_same g lines funcs row before (body f ∷ rest) =
    let at = row + length (gap_said before true) in
    ap (λ ys. ys ++ flat_map g (items_again (at + length (func_said f)) (Some true) rest)) (funcs at f)
    ∙ ap (λ ys. g (body f) ++ ys) (flat_same g lines funcs (at + length (func_said f)) (Some true) rest)

pub groups_same : (row : ℕ) (before : Option Bool) (items : List ItemLines) → groups_of (items_again row before items) ≡ groups_of items
groups_same row before items = flat_same group_of line_group (λ row f. refl) row before items

pub names_same : (row : ℕ) (before : Option Bool) (items : List ItemLines) → names_of (items_again row before items) ≡ names_of items
names_same row before items =
    let P : List (List ℕ) → NamesState = λ ws. record { funcs = ws; globals = flat_map global_names_in (items_again row before items) } in
    let Q : List (List ℕ) → NamesState = λ ws. record { funcs = flat_map func_names_in items; globals = ws } in
    ap P (flat_same func_names_in line_func (λ row f. refl) row before items) ∙ ap Q (flat_same global_names_in line_global (λ row f. refl) row before items)

marks_same : (keeps : List ℕ → Bool) (next : ℕ) (ps : List Param) → map (mark_of keeps) (shown_params next ps) ≡ map (mark_of keeps) ps
marks_same keeps next [] = refl
marks_same keeps next (p ∷ ps) = ap (λ (rest : List Mark). mark_of keeps p ∷ rest) (marks_same keeps (free_after next p.name) ps)

sig_same : (effects : List ℕ → Effects) (keeps : List ℕ → Bool) (row : ℕ) (f : FuncLines) → sigs_in effects keeps (body (func_again row f)) ≡ sigs_in effects keeps (body f)
sig_same effects keeps row f =
    ap (λ (ms : List Mark). let sig : Sig = record { ret = f.head.ret; params = ms; variadic = f.head.variadic; effects = effects f.head.post } in sig ∷ []) (marks_same keeps 0 f.head.params)

pub sigs_same : (effects : List ℕ → Effects) (keeps : List ℕ → Bool) (row : ℕ) (before : Option Bool) (items : List ItemLines) →
    flat_map (sigs_in effects keeps) (items_again row before items) ≡ flat_map (sigs_in effects keeps) items
sigs_same effects keeps row before items = flat_same (sigs_in effects keeps) (line_sigs effects keeps) (sig_same effects keeps) row before items

pub symbols_same : (row : ℕ) (before : Option Bool) (items : List ItemLines) → map name_of_symbol (symbols_of (items_again row before items)) ≡ map name_of_symbol (symbols_of items)
symbols_same row before [] = refl
symbols_same row before (plain n line ∷ rest) =
    let at = row + length (gap_said before false) in
    map-append name_of_symbol (line_symbols at line) (symbols_of (items_again (at + 1) (Some false) rest))
    ∙ ap (λ ys. ys ++ map name_of_symbol (symbols_of (items_again (at + 1) (Some false) rest))) (line_names at n line)
    ∙ ap (λ ys. map name_of_symbol (line_symbols n line) ++ ys) (symbols_same (at + 1) (Some false) rest)
    ∙ sym (map-append name_of_symbol (line_symbols n line) (symbols_of rest))
symbols_same row before (body f ∷ rest) =
    let at = row + length (gap_said before true) in
    ap (λ (ys : List (List ℕ)). f.head.name ∷ ys) (symbols_same (at + length (func_said f)) (Some true) rest)

pub items_same : (f g row : ℕ) (before : Option Bool) (items : List ItemLines) → items_from f g (items_again row before items) ≡ items_from f g items
items_same f g row before [] = refl
items_same f g row before (plain n said.Empty ∷ rest) = items_same f g _ (Some false) rest
items_same f g row before (plain n said.Close ∷ rest) = items_same f g _ (Some false) rest
items_same f g row before (plain n (said.Kept text) ∷ rest) = ap (λ (xs : List Item). item.Kept text ∷ xs) (items_same f g _ (Some false) rest)
items_same f g row before (plain n (said.Group k text) ∷ rest) = ap (λ (xs : List Item). item.Kept text ∷ xs) (items_same f g _ (Some false) rest)
items_same f g row before (plain n (said.GlobalVar name text) ∷ rest) = ap (λ (xs : List Item). item.Global (record { 0 = g }) text ∷ xs) (items_same f (suc g) _ (Some false) rest)
items_same f g row before (plain n (said.Label l) ∷ rest) = items_same f g _ (Some false) rest
items_same f g row before (plain n (said.Declare h) ∷ rest) = ap (λ (xs : List Item). item.Declared (record { 0 = f }) (printed (said.Declare h)) ∷ xs) (items_same (suc f) g _ (Some false) rest)
items_same f g row before (plain n (said.Define h) ∷ rest) = items_same f g _ (Some false) rest
items_same f g row before (plain n (said.Inst r i) ∷ rest) = items_same f g _ (Some false) rest
items_same f g row before (plain n (said.Term t) ∷ rest) = items_same f g _ (Some false) rest
items_same f g row before (body lines ∷ rest) = ap (λ (xs : List Item). item.Defined (record { 0 = f }) ∷ xs) (items_same (suc f) g _ (Some true) rest)

-- values under the printed names
abbrev pub shown_scope : Scope → FuncLines → Scope
shown_scope s f = record s { locals = locals_listed shown f; blocks = blocks_listed shown f }

val_same : (s : Scope) (f : FuncLines) → s.locals ≡ locals_of f → (v : RawVal) → IsRightVal f v → value_of (shown_scope s f) (renamed_val (renaming f) v) ≡ value_of s v
val_same s f e (Num ty n) h = refl
val_same s f e (Local n) h = ap (λ k. val.Local (record { 0 = k })) (h.number ∙ ap (λ (ns : List Name). number_of_name ns n) (sym e))
val_same s f e (Global n) h = refl

block_same : (s : Scope) (f : FuncLines) → s.blocks ≡ blocks_of f → (n : Name) → IsRightBlock f n → number_of_name (blocks_listed shown f) ((renaming f).block n) ≡ number_of_name s.blocks n
block_same s f e n h = h.number ∙ ap (λ (ns : List Name). number_of_name ns n) (sym e)

args_same : (s : Scope) (f : FuncLines) → s.locals ≡ locals_of f → (marks : List Mark) (args : List RawArg) → Each (IsRightVal f) (map arg_value args) →
    args_of (shown_scope s f) marks (map (renamed_arg (renaming f)) args) ≡ args_of s marks args
args_same s f e marks [] h = refl
args_same s f e marks (a ∷ more) h =
    ap (λ v. let b : Arg = record { ty = a.ty; val = v; keeps = is_pointer a.ty && (s.keeps a.text && keeps_at marks); text = a.text } in
    b ∷ args_of (shown_scope s f) (behind_first marks) (map (renamed_arg (renaming f)) more)) (val_same s f e a.val h.0)
    ∙ ap (λ (rest : List Arg). arg_of s (keeps_at marks) a ∷ rest) (args_same s f e (behind_first marks) more h.1)

entries_same : (s : Scope) (f : FuncLines) → s.locals ≡ locals_of f → s.blocks ≡ blocks_of f → (es : List RawEntry) → Each (IsRightVal f) (map entry_value es) → Each (IsRightBlock f) (map entry_block es) →
    map (entry_of (shown_scope s f)) (map (renamed_entry (renaming f)) es) ≡ map (entry_of s) es
entries_same s f e b [] h k = refl
entries_same s f e b (x ∷ es) h k =
    let rest = map (entry_of (shown_scope s f)) (map (renamed_entry (renaming f)) es) in
    ap (λ v. let d : Entry = record { val = v; from = block_of (shown_scope s f) ((renaming f).block x.from) } in d ∷ rest) (val_same s f e x.val h.0)
    ∙ ap (λ n. let d : Entry = record { val = value_of s x.val; from = record { 0 = n } } in d ∷ rest) (block_same s f b x.from k.0)
    ∙ ap (λ (more : List Entry). entry_of s x ∷ more) (entries_same s f e b es h.1 k.1)

terms_same : (s : Scope) (f : FuncLines) → s.locals ≡ locals_of f → (terms : List RawIndex) → Each (IsRightVal f) (map index_value terms) →
    map (index_of (shown_scope s f)) (map (renamed_index (renaming f)) terms) ≡ map (index_of s) terms
terms_same s f e [] h = refl
terms_same s f e (t ∷ terms) h =
    ap (λ v. let d : IndexTerm = record { val = v; ty = t.ty; scale = t.scale } in d ∷ map (index_of (shown_scope s f)) (map (renamed_index (renaming f)) terms)) (val_same s f e t.val h.0)
    ∙ ap (λ (more : List IndexTerm). index_of s t ∷ more) (terms_same s f e terms h.1)

pub inst_same : (s : Scope) (f : FuncLines) → s.locals ≡ locals_of f → s.blocks ≡ blocks_of f → (i : RawInst) → IsRightUse f (values_of i) (inst_blocks i) →
    inst_of (shown_scope s f) (renamed_inst (renaming f) i) ≡ inst_of s i
inst_same s f e b (Alloca size head rest) h = refl
inst_same s f e b (Gep base offset head index rest) h = ap (λ v. inst.Gep v offset head index rest) (val_same s f e base h.vals.0)
inst_same s f e b (Step base offset terms head index rest) h =
    ap (λ v. inst.Step v offset (map (index_of (shown_scope s f)) (map (renamed_index (renaming f)) terms)) head index rest) (val_same s f e base h.vals.0)
    ∙ ap (λ (ts : List IndexTerm). inst.Step (value_of s base) offset ts head index rest) (terms_same s f e terms h.vals.1)
inst_same s f e b (Load ty ptr rest) h = ap (λ v. inst.Load ty v rest) (val_same s f e ptr h.vals.0)
inst_same s f e b (Store ty v ptr rest) h =
    ap (λ w. inst.Store ty w (value_of (shown_scope s f) (renamed_val (renaming f) ptr)) rest) (val_same s f e v h.vals.0)
    ∙ ap (λ w. inst.Store ty (value_of s v) w rest) (val_same s f e ptr h.vals.1.0)
inst_same s f e b (Copy to from len head behind rest) h =
    ap (λ v. let a : Arg = record { ty = to.ty; val = v; keeps = is_pointer to.ty && (s.keeps to.text && false); text = to.text } in
    inst.Copy a (arg_of (shown_scope s f) false (renamed_arg (renaming f) from)) len head (behind_blank behind ++ rest)) (val_same s f e to.val h.vals.0)
    ∙ ap (λ v. let a : Arg = record { ty = from.ty; val = v; keeps = is_pointer from.ty && (s.keeps from.text && false); text = from.text } in
    inst.Copy (arg_of s false to) a len head (behind_blank behind ++ rest)) (val_same s f e from.val h.vals.1.0)
inst_same s f e b (Call callee ret args head behind rest) h =
    let n = number_of_word s.funcs (name_text callee) in
    ap (λ as'. inst.Call (record { 0 = n }) ret as' (both (s.effects behind) (effects_of_sig (sig_of s n))) head (behind_blank behind ++ rest)) (args_same s f e (marks_of (sig_of s n)) args h.vals)
inst_same s f e b (Bin op flags ty x y rest) h =
    ap (λ v. inst.Bin op flags ty v (value_of (shown_scope s f) (renamed_val (renaming f) y)) rest) (val_same s f e x h.vals.0)
    ∙ ap (λ v. inst.Bin op flags ty (value_of s x) v rest) (val_same s f e y h.vals.1.0)
inst_same s f e b (Cmp pred flags ty x y rest) h =
    ap (λ v. inst.Cmp pred flags ty v (value_of (shown_scope s f) (renamed_val (renaming f) y)) rest) (val_same s f e x h.vals.0)
    ∙ ap (λ v. inst.Cmp pred flags ty (value_of s x) v rest) (val_same s f e y h.vals.1.0)
inst_same s f e b (Select cond ty x y rest) h =
    ap (λ v. inst.Select v ty (value_of (shown_scope s f) (renamed_val (renaming f) x)) (value_of (shown_scope s f) (renamed_val (renaming f) y)) rest) (val_same s f e cond h.vals.0)
    ∙ ap (λ v. inst.Select (value_of s cond) ty v (value_of (shown_scope s f) (renamed_val (renaming f) y)) rest) (val_same s f e x h.vals.1.0)
    ∙ ap (λ v. inst.Select (value_of s cond) ty (value_of s x) v rest) (val_same s f e y h.vals.1.1.0)
inst_same s f e b (Cast op flags from x to rest) h = ap (λ v. inst.Cast op flags from v to rest) (val_same s f e x h.vals.0)
inst_same s f e b (Phi ty entries rest) h = ap (λ es. inst.Phi ty es rest) (entries_same s f e b entries h.vals h.froms)

pub term_same : (s : Scope) (f : FuncLines) → s.locals ≡ locals_of f → s.blocks ≡ blocks_of f → (t : RawTerm) → IsRightUse f (term_values t) (term_blocks t) →
    term_of (shown_scope s f) (renamed_term (renaming f) t) ≡ term_of s t
term_same s f e b (Br to rest) h = ap (λ k. term.Br (record { 0 = k }) rest) (block_same s f b to h.froms.0)
term_same s f e b (CondBr cond if_true if_false rest) h =
    ap (λ v. term.CondBr v (block_of (shown_scope s f) ((renaming f).block if_true)) (block_of (shown_scope s f) ((renaming f).block if_false)) rest) (val_same s f e cond h.vals.0)
    ∙ ap (λ k. term.CondBr (value_of s cond) (record { 0 = k }) (block_of (shown_scope s f) ((renaming f).block if_false)) rest) (block_same s f b if_true h.froms.0)
    ∙ ap (λ k. term.CondBr (value_of s cond) (block_of s if_true) (record { 0 = k }) rest) (block_same s f b if_false h.froms.1.0)
term_same s f e b (Ret None rest) h = refl
term_same s f e b (Ret (Some given) rest) h = ap (λ v. term.Ret (Some (given.0, v)) rest) (val_same s f e given.1 h.vals.0)
term_same s f e b (Unreachable rest) h = refl

-- a function without written numbers
made_plain : (s : Scope) (f : FuncLines) → s.locals ≡ locals_of f → s.blocks ≡ blocks_of f → (row next n l : ℕ) (x : InstLine) → IsRightInst f x → next < 10 ^ 9 →
    plain_at (shown_scope s f) n l (record { line = row; name = made_name x.inst (shown_name next x.name); inst = renamed_inst (renaming f) x.inst }) ≡ plain_at s n l x
made_plain s f e b row next n l x h less =
    let P : Bool → Name → Inst → Placed = λ c name i. record { number = n; result = (if c then Some (record { 0 = l }) else None); name = (if c then name else Absent); inst = i } in
    ap (λ c. P c (own_name (made_name x.inst (shown_name next x.name))) (inst_of (shown_scope s f) (renamed_inst (renaming f) x.inst))) (makes_again (renaming f) x.inst)
    ∙ ap (λ i. P (makes x.inst) (own_name (made_name x.inst (shown_name next x.name))) i) (inst_same s f e b x.inst h)
    ∙ ap (λ (name : Name). let q : Placed = record { number = n; result = (if makes x.inst then Some (record { 0 = l }) else None); name = name; inst = inst_of s x.inst } in q) (named (makes x.inst))
  where
    named : (c : Bool) → (if c then own_name (if c then shown_name next x.name else Absent) else Absent) ≡ (if c then own_name x.name else Absent)
    named true = own_shown next x.name less
    named false = refl

insts_plain : (s : Scope) (f : FuncLines) → s.locals ≡ locals_of f → s.blocks ≡ blocks_of f → (row next n l : ℕ) (xs : List InstLine) → Each (IsRightInst f) xs → next + length xs ≤ 10 ^ 9 →
    plain_insts (shown_scope s f) n l (insts_again (renaming f) row next xs) ≡ plain_insts s n l xs
insts_plain s f e b row next n l [] h few = refl
insts_plain s f e b row next n l (x ∷ xs) h few =
    let more = inst_less next x in
    let t = shown_scope s f in
    let new : InstLine = record { line = row; name = made_name x.inst (shown_name next x.name); inst = renamed_inst (renaming f) x.inst } in
    let rest = insts_again (renaming f) (row + 1) (inst_free shown next x) xs in
    ap (λ (y : Placed). y ∷ plain_insts t (suc n) (local_behind l new) rest) (made_plain s f e b row next n l x h.0 (omega arith))
    ∙ ap (λ (c : Bool). plain_at s n l x ∷ plain_insts t (suc n) (if c then suc l else l) rest) (makes_again (renaming f) x.inst)
    ∙ ap (λ (ys : List Placed). plain_at s n l x ∷ ys) (insts_plain s f e b (row + 1) (inst_free shown next x) (suc n) (local_behind l x) xs h.1 (omega arith))

label_own : (first : Bool) (row next : ℕ) (n : Name) → next < 10 ^ 9 → own_name (label_name (label_again first row next n)) ≡ own_name n
label_own true row next (Word text) h = refl
label_own true row next (Number k) h = refl
label_own true row next Absent h = refl
label_own false row next n h = own_shown next n h

insts_count : (r : Renaming) (row next : ℕ) (xs : List InstLine) → length (insts_again r row next xs) ≡ length xs
insts_count r row next [] = refl
insts_count r row next (x ∷ xs) = ap suc (insts_count r (row + 1) (inst_free shown next x) xs)

locals_count : (r : Renaming) (row next l : ℕ) (xs : List InstLine) → locals_behind l (insts_again r row next xs) ≡ locals_behind l xs
locals_count r row next l [] = refl
locals_count r row next l (x ∷ xs) =
    ap (λ (c : Bool). locals_behind (if c then suc l else l) (insts_again r (row + 1) (inst_free shown next x) xs)) (makes_again r x.inst)
    ∙ locals_count r (row + 1) (inst_free shown next x) (local_behind l x) xs

blocks_plain : (s : Scope) (f : FuncLines) → s.locals ≡ locals_of f → s.blocks ≡ blocks_of f → (first : Bool) (row next n l : ℕ) (bs : List BlockLines) → Each (IsRightLines f) bs → next + blocks_size bs ≤ 10 ^ 9 →
    plain_blocks (shown_scope s f) n l (blocks_again (renaming f) first row next bs) ≡ plain_blocks s n l bs
blocks_plain s f e b first row next n l [] h few = refl
blocks_plain s f e b first row next n l (x ∷ xs) h few =
    let r = renaming f in
    let t = shown_scope s f in
    let name = label_name x.label in
    let free = free_after next name in
    let low = shown_next next name in
    let more = block_less next x in
    let at = row + length (label_said first next name) in
    let insts = insts_again r at free x.insts in
    let rest = blocks_again r false (row + length (block_said r first next x)) (block_free shown next x) xs in
    let tail : List Block = plain_blocks t (n + length insts) (locals_behind l insts) rest in
    let same_tail : tail ≡ plain_blocks s (n + length x.insts) (locals_behind l x.insts) xs =
    ap (λ k. plain_blocks t (n + k) (locals_behind l insts) rest) (insts_count r at free x.insts)
    ∙ ap (λ k. plain_blocks t (n + length x.insts) k rest) (locals_count r at free l x.insts)
    ∙ blocks_plain s f e b false (row + length (block_said r first next x)) (block_free shown next x) (n + length x.insts) (locals_behind l x.insts) xs h.1 (omega arith) in
    ap (λ (m : Name). let q : Block = record { name = m; insts = plain_insts t n l insts; term = term_of t (renamed_term r x.end.term) } in q ∷ tail) (label_own first row next name (omega arith))
    ∙ ap (λ (ps : List Placed). let q : Block = record { name = own_name name; insts = ps; term = term_of t (renamed_term r x.end.term) } in q ∷ tail)
    (insts_plain s f e b at free n l x.insts h.0.insts (omega arith))
    ∙ ap (λ (d : Term). let q : Block = record { name = own_name name; insts = plain_insts s n l x.insts; term = d } in q ∷ tail) (term_same s f e b x.end.term h.0.term)
    ∙ ap (λ (qs : List Block). let q : Block = record { name = own_name name; insts = plain_insts s n l x.insts; term = term_of s x.end.term } in q ∷ qs) same_tail

params_plain : (next : ℕ) (ps : List Param) → next + length ps ≤ 10 ^ 9 → map plain_param (shown_params next ps) ≡ map plain_param ps
params_plain next [] h = refl
params_plain next (p ∷ ps) h =
    let more = shown_next next p.name in
    ap (λ n. let q : Param = record p { name = n } in q ∷ map plain_param (shown_params (free_after next p.name) ps)) (own_shown next p.name (omega arith))
    ∙ ap (λ (rest : List Param). plain_param p ∷ rest) (params_plain (free_after next p.name) ps (omega arith))

params_count : (next : ℕ) (ps : List Param) → length (shown_params next ps) ≡ length ps
params_count next [] = refl
params_count next (p ∷ ps) = ap suc (params_count (free_after next p.name) ps)

made_count : (r : Renaming) (first : Bool) (row next n : ℕ) (bs : List BlockLines) → all_made n (blocks_again r first row next bs) ≡ all_made n bs
made_count r first row next n [] = refl
made_count r first row next n (b ∷ bs) =
    ap (λ k. all_made (n + k) (blocks_again r false (row + length (block_said r first next b)) (block_free shown next b) bs)) (insts_count r (row + length (label_said first next (label_name b.label))) (free_after next (label_name b.label)) b.insts)
    ∙ made_count r false (row + length (block_said r first next b)) (block_free shown next b) (n + length b.insts) bs

all_count : (r : Renaming) (first : Bool) (row next l : ℕ) (bs : List BlockLines) → all_locals l (blocks_again r first row next bs) ≡ all_locals l bs
all_count r first row next l [] = refl
all_count r first row next l (b ∷ bs) =
    ap (λ k. all_locals k (blocks_again r false (row + length (block_said r first next b)) (block_free shown next b) bs))
    (locals_count r (row + length (label_said first next (label_name b.label))) (free_after next (label_name b.label)) l b.insts)
    ∙ all_count r false (row + length (block_said r first next b)) (block_free shown next b) (locals_behind l b.insts) bs

pub plain_same : (s : Scope) (f : FuncLines) (row : ℕ) → s.locals ≡ locals_of f → s.blocks ≡ blocks_of f → IsFineNamed f → plain_of (shown_scope s f) (func_again row f) ≡ plain_of s f
plain_same s f row e b named =
    let r = renaming f in
    let t = shown_scope s f in
    let less = params_less 0 f.head.params in
    let few = named.few in
    let blocks = blocks_again r true (row + 1) (start f) f.blocks in
    let F : List Param → List Block → ℕ → ℕ → FuncState = λ ps bs made locals. record {
      name = f.head.name;
      head = f.head.attrs;
      ret = f.head.ret;
      params = ps;
      tail = f.head.post;
      blocks = bs;
      made = made;
      locals = locals;
      spare = 0;
    } in
    ap (λ k. F (map plain_param (shown_params 0 f.head.params)) (plain_blocks t 0 k blocks) (all_made 0 blocks) (all_locals k blocks)) (params_count 0 f.head.params)
    ∙ ap (λ ps. F ps (plain_blocks t 0 (length f.head.params) blocks) (all_made 0 blocks) (all_locals (length f.head.params) blocks)) (params_plain 0 f.head.params (omega arith))
    ∙ ap (λ bs. F (map plain_param f.head.params) bs (all_made 0 blocks) (all_locals (length f.head.params) blocks))
    (blocks_plain s f e b true (row + 1) (start f) 0 (length f.head.params) f.blocks named.uses (omega arith))
    ∙ ap (λ k. F (map plain_param f.head.params) (plain_blocks s 0 (length f.head.params) f.blocks) k (all_locals (length f.head.params) blocks)) (made_count r true (row + 1) (start f) 0 f.blocks)
    ∙ ap (λ k. F (map plain_param f.head.params) (plain_blocks s 0 (length f.head.params) f.blocks) (all_made 0 f.blocks) k) (all_count r true (row + 1) (start f) (length f.head.params) f.blocks)
