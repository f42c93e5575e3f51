-- The text of a module is the printed forms of its lines with the names that are printed, and empty lines between.
use Rattle.std.proofs.Common.{◌≡◌, ◌+◌, ◌==◌, ℕ, zero, suc, Bool, true, false, List, [], ◌∷◌, ◌++◌, Option, Some, None, map, length, if◌then◌else◌, refl, sym, ap, ◌∙◌, arith, append_assoc}
use Rattle.std.specs.Prelude.{slice_index_or, slice_get}
use Rattle.std.specs.List.{flat_map}
use Rattle.std.proofs.lemmas.List.{append-nil}
use Rattle.std.proofs.lemmas.List.Concat.{flat_map-append}
use Rattle.std.proofs.lemmas.Bool.Decides.{nat_tests}
use Rattle.ms_ir.specs.declared.names.Name.{Name}
use Rattle.ms_ir.specs.declared.names.Name.TheVariants.{Word, Number, Absent}
use Rattle.ms_ir.specs.declared.names.Ty.{Ty}
use Rattle.ms_ir.specs.declared.names.Mark.{Mark}
use Rattle.ms_ir.specs.declared.inst.Effects.{Effects}
use Rattle.ms_ir.specs.Symbols.{NamesState}
use Rattle.ms_ir.specs.Func.{FuncState}
use Rattle.ms_ir.specs.Module.{body_in, body_of}
use Rattle.ms_grammar.specs.Kept.{Each}
use Rattle.ms_grammar.specs.Parts.{Part, blank, kept, part_text, text_of, behind_blank, copy_head, call_head}
use Rattle.ms_grammar.specs.Form.{no_scale, printed, name_text, word_part, inst_parts, result_parts, end_parts, copy_pointers, copy_length, call_front, listed, arg_parts}
use Rattle.ms_grammar.specs.declared.keyword.Keyword.TheVariants as word
use Rattle.ms_grammar.specs.declared.line.Head.{Head}
use Rattle.ms_grammar.specs.declared.line.Line.{Line}
use Rattle.ms_grammar.specs.declared.line.Line.TheVariants as said
use Rattle.ms_grammar.specs.declared.line.RawVal.{RawVal}
use Rattle.ms_grammar.specs.declared.line.RawVal.TheVariants.{Num, Local, Global}
use Rattle.ms_grammar.specs.declared.line.RawArg.{RawArg}
use Rattle.ms_grammar.specs.declared.line.RawEntry.{RawEntry}
use Rattle.ms_grammar.specs.declared.line.RawIndex.{RawIndex}
use Rattle.ms_grammar.specs.declared.line.RawInst.{RawInst}
use Rattle.ms_grammar.specs.declared.line.RawInst.TheVariants.{Alloca, Gep, Step, Load, Store, Copy, Call, Bin, Cmp, Select, Cast, Phi}
use Rattle.ms_grammar.specs.declared.line.RawTerm.{RawTerm}
use Rattle.ms_grammar.specs.declared.line.RawTerm.TheVariants.{Br, CondBr, Ret, Unreachable}
use Rattle.ms_grammar.proofs.Printing.{text_of_append}
use Rattle.ms_resolve.specs.Shape.{InstLine, BlockLines, FuncLines, ItemLines, plain, body, IsItem}
use Rattle.ms_resolve.specs.Made.{makes}
use Rattle.ms_resolve.specs.Used.{values_of, term_values, arg_value, index_value, entry_value}
use Rattle.ms_resolve.specs.Scope.{Scope, number_of_name, number_of_word, value_of, arg_of, args_of, entry_of, index_of, behind_first, inst_of, term_of, local_behind, locals_behind, func_of}
use Rattle.ms_resolve.specs.Module.{names_of, scope_of, bodies_in, items_from, module_of}
use Rattle.ms_print.specs.Numbering.{shown_name, free_after, shown_params}
use Rattle.ms_print.specs.Lines.{Shown, label_of, word_at, raw_val, raw_arg, raw_entry, raw_index, raw_inst, raw_term, result_name, inst_line, term_line, label_line, define_line}
use Rattle.ms_print.specs.Text.{ended, line_text, insts_text, first_label, label_text, block_text, blocks_text, func_text, no_notes, body_text, gap, items_text, module_text}
use Rattle.ms_again.specs.Same.{own_name, plain_param}
use Rattle.ms_again.proofs.Renaming.{Renaming, renamed_val, renamed_arg, renamed_entry, renamed_index, renamed_inst, renamed_term}
use Rattle.ms_again.proofs.SameText.{params_plain, func_plain}
use Rattle.ms_again.proofs.Plain as plain_lines
use Rattle.ms_again.proofs.Plain.{plain_at, plain_insts, plain_blocks, plain_of}
use Rattle.ms_again.proofs.Renamed.{with_params}
use Rattle.ms_again.proofs.Fine.{made_name}
use Rattle.ms_again.proofs.Names.{shown, label_name, inst_free, block_free, locals_listed, AlongInsts, AlongBlocks, func_along}
use Rattle.ms_again.proofs.ShownNames.{shown_by, shown_is}
use Rattle.ms_again.proofs.Again.{renaming, inst_said, insts_said, label_said, block_said, blocks_said, start, func_said, gap_said, items_said}

-- the row of a line
abbrev pub row_text : Line → List ℕ
row_text l = ended (printed l)

abbrev pub rows_text : List Line → List ℕ
rows_text ls = flat_map row_text ls

-- the names of functions and globals that lines use are those of the module
abbrev pub IsKnownVal : NamesState → RawVal → Type 0
IsKnownVal names (Num ty n) = Unit {0}
IsKnownVal names (Local n) = Unit {0}
IsKnownVal names (Global n) = word_at names.globals (number_of_word names.globals (name_text n)) ≡ n

abbrev pub IsKnownCall : NamesState → RawInst → Type 0
IsKnownCall names (Call callee ret args head behind rest) = word_at names.funcs (number_of_word names.funcs (name_text callee)) ≡ callee
IsKnownCall names _ = Unit {0}

pub record IsKnownInst (names : NamesState) (i : RawInst) : Type 0 where
  pub values : Each (IsKnownVal names) (values_of i)
  pub callee : IsKnownCall names i

pub record IsKnownBlock (names : NamesState) (b : BlockLines) : Type 0 where
  pub insts : Each (λ (x : InstLine). IsKnownInst names x.inst) b.insts
  pub term : Each (IsKnownVal names) (term_values b.end.term)

pub record IsKnownFunc (names : NamesState) (f : FuncLines) : Type 0 where
  pub blocks : Each (IsKnownBlock names) f.blocks
  pub fixed : f.head.variadic ≡ false

abbrev pub IsKnownItem : NamesState → ItemLines → Type 0
IsKnownItem names (plain n line) = Unit {0}
IsKnownItem names (body f) = IsKnownFunc names f

-- numbers and names fit
record Fits (s : Scope) (names : NamesState) (t : Shown) (r : Renaming) : Type 0 where
  pub local : (n : Name) → t.locals (number_of_name s.locals n) ≡ r.local n
  pub block : (n : Name) → label_of t.labels (number_of_name s.blocks n) ≡ r.block n
  pub module_names : t.module_names ≡ names
  pub funcs : s.funcs ≡ names.funcs
  pub globals : s.globals ≡ names.globals

val_again : (s : Scope) (names : NamesState) (t : Shown) (r : Renaming) → Fits s names t r → (v : RawVal) → IsKnownVal names v → raw_val t (value_of s v) ≡ renamed_val r v
val_again s names t r fits (Num ty n) h = refl
val_again s names t r fits (Local n) h = ap (λ m. Local m) (fits.local n)
val_again s names t r fits (Global n) h =
    ap (λ m. Global m) (ap (λ (k : NamesState). word_at k.globals (number_of_word s.globals (name_text n))) fits.module_names
    ∙ ap (λ (ws : List (List ℕ)). word_at names.globals (number_of_word ws (name_text n))) fits.globals ∙ h)

args_again : (s : Scope) (names : NamesState) (t : Shown) (r : Renaming) → Fits s names t r → (marks : List Mark) (args : List RawArg) → Each (IsKnownVal names) (map arg_value args) →
    map (raw_arg t) (args_of s marks args) ≡ map (renamed_arg r) args
args_again s names t r fits marks [] h = refl
args_again s names t r fits marks (a ∷ more) h =
    ap (λ v. let b : RawArg = record { ty = a.ty; val = v; text = a.text } in b ∷ map (raw_arg t) (args_of s (behind_first marks) more)) (val_again s names t r fits a.val h.0)
    ∙ ap (λ (rest : List RawArg). renamed_arg r a ∷ rest) (args_again s names t r fits (behind_first marks) more h.1)

entries_again : (s : Scope) (names : NamesState) (t : Shown) (r : Renaming) → Fits s names t r → (es : List RawEntry) → Each (IsKnownVal names) (map entry_value es) →
    map (raw_entry t) (map (entry_of s) es) ≡ map (renamed_entry r) es
entries_again s names t r fits [] h = refl
entries_again s names t r fits (e ∷ es) h =
    ap (λ v. let d : RawEntry = record { val = v; from = label_of t.labels (number_of_name s.blocks e.from) } in d ∷ map (raw_entry t) (map (entry_of s) es)) (val_again s names t r fits e.val h.0)
    ∙ ap (λ n. let d : RawEntry = record { val = renamed_val r e.val; from = n } in d ∷ map (raw_entry t) (map (entry_of s) es)) (fits.block e.from)
    ∙ ap (λ (rest : List RawEntry). renamed_entry r e ∷ rest) (entries_again s names t r fits es h.1)

terms_again : (s : Scope) (names : NamesState) (t : Shown) (r : Renaming) → Fits s names t r → (terms : List RawIndex) → Each (IsKnownVal names) (map index_value terms) →
    map (raw_index t) (map (index_of s) terms) ≡ map (renamed_index r) terms
terms_again s names t r fits [] h = refl
terms_again s names t r fits (x ∷ terms) h =
    ap (λ v. let d : RawIndex = record { val = v; ty = x.ty; scale = x.scale } in d ∷ map (raw_index t) (map (index_of s) terms)) (val_again s names t r fits x.val h.0)
    ∙ ap (λ (rest : List RawIndex). renamed_index r x ∷ rest) (terms_again s names t r fits terms h.1)

-- what stands behind a call's arguments is printed the same, in one part or in two
end_text : (last rest : List ℕ) → text_of (end_parts [] (behind_blank last ++ rest)) ≡ text_of (end_parts last rest)
end_text last rest = append_assoc (behind_blank last) rest []

copy_text : (head last rest : List ℕ) (len : ℕ) (a b c d : RawArg) → a ≡ c → b ≡ d →
    text_of (inst_parts no_scale (Copy a b len head [] (behind_blank last ++ rest))) ≡ text_of (inst_parts no_scale (Copy c d len head last rest))
copy_text head last rest len a b c d e f =
    let front : List Part = (kept copy_head head ∷ blank ∷ word_part word.Memcpy ∷ copy_pointers c d) ++ copy_length len in
    ap (λ x. text_of (inst_parts no_scale (Copy x b len head [] (behind_blank last ++ rest)))) e
    ∙ ap (λ x. text_of (inst_parts no_scale (Copy c x len head [] (behind_blank last ++ rest)))) f
    ∙ text_of_append front (end_parts [] (behind_blank last ++ rest)) ∙ ap (λ x. text_of front ++ x) (end_text last rest) ∙ sym (text_of_append front (end_parts last rest))

call_text : (ret : Option Ty) (head last rest : List ℕ) (m n : Name) (xs ys : List RawArg) → m ≡ n → xs ≡ ys →
    text_of (inst_parts no_scale (Call m ret xs head [] (behind_blank last ++ rest))) ≡ text_of (inst_parts no_scale (Call n ret ys head last rest))
call_text ret head last rest m n xs ys e f =
    let front : List Part = call_front (call_head ret) head n ++ listed (map arg_parts ys) in
    ap (λ x. text_of (inst_parts no_scale (Call x ret xs head [] (behind_blank last ++ rest)))) e
    ∙ ap (λ x. text_of (inst_parts no_scale (Call n ret x head [] (behind_blank last ++ rest)))) f
    ∙ text_of_append front (word_part word.Close ∷ end_parts [] (behind_blank last ++ rest))
    ∙ ap (λ x. text_of front ++ (part_text (word_part word.Close) ++ x)) (end_text last rest)
    ∙ sym (text_of_append front (word_part word.Close ∷ end_parts last rest))

-- an instruction
inst_text : (s : Scope) (names : NamesState) (t : Shown) (r : Renaming) → Fits s names t r → (i : RawInst) → IsKnownInst names i →
    text_of (inst_parts no_scale (raw_inst t (inst_of s i))) ≡ text_of (inst_parts no_scale (renamed_inst r i))
inst_text s names t r fits (Alloca size head rest) h = refl
inst_text s names t r fits (Gep base offset head index rest) h =
    ap (λ v. text_of (inst_parts no_scale (Gep v offset head index rest))) (val_again s names t r fits base h.values.0)
inst_text s names t r fits (Step base offset terms head index rest) h =
    ap (λ v. text_of (inst_parts no_scale (Step v offset (map (raw_index t) (map (index_of s) terms)) head index rest))) (val_again s names t r fits base h.values.0)
    ∙ ap (λ (ts : List RawIndex). text_of (inst_parts no_scale (Step (renamed_val r base) offset ts head index rest))) (terms_again s names t r fits terms h.values.1)
inst_text s names t r fits (Load ty ptr rest) h = ap (λ v. text_of (inst_parts no_scale (Load ty v rest))) (val_again s names t r fits ptr h.values.0)
inst_text s names t r fits (Store ty val ptr rest) h =
    ap (λ v. text_of (inst_parts no_scale (Store ty v (raw_val t (value_of s ptr)) rest))) (val_again s names t r fits val h.values.0)
    ∙ ap (λ v. text_of (inst_parts no_scale (Store ty (renamed_val r val) v rest))) (val_again s names t r fits ptr h.values.1.0)
inst_text s names t r fits (Copy to from len head behind rest) h =
    copy_text head behind rest len (raw_arg t (arg_of s false to)) (raw_arg t (arg_of s false from)) (renamed_arg r to) (renamed_arg r from)
    (ap (λ v. let b : RawArg = record { ty = to.ty; val = v; text = to.text } in b) (val_again s names t r fits to.val h.values.0))
    (ap (λ v. let b : RawArg = record { ty = from.ty; val = v; text = from.text } in b) (val_again s names t r fits from.val h.values.1.0))
inst_text s names t r fits (Call callee ret args head behind rest) h =
    let callee_is : word_at t.module_names.funcs (number_of_word s.funcs (name_text callee)) ≡ callee =
    ap (λ (k : NamesState). word_at k.funcs (number_of_word s.funcs (name_text callee))) fits.module_names
    ∙ ap (λ (ws : List (List ℕ)). word_at names.funcs (number_of_word ws (name_text callee))) fits.funcs ∙ h.callee in
    call_text ret head behind rest _ callee _ (map (renamed_arg r) args) callee_is (args_again s names t r fits _ args h.values)
inst_text s names t r fits (Bin op flags ty a b rest) h =
    ap (λ v. text_of (inst_parts no_scale (Bin op flags ty v (raw_val t (value_of s b)) rest))) (val_again s names t r fits a h.values.0)
    ∙ ap (λ v. text_of (inst_parts no_scale (Bin op flags ty (renamed_val r a) v rest))) (val_again s names t r fits b h.values.1.0)
inst_text s names t r fits (Cmp pred flags ty a b rest) h =
    ap (λ v. text_of (inst_parts no_scale (Cmp pred flags ty v (raw_val t (value_of s b)) rest))) (val_again s names t r fits a h.values.0)
    ∙ ap (λ v. text_of (inst_parts no_scale (Cmp pred flags ty (renamed_val r a) v rest))) (val_again s names t r fits b h.values.1.0)
inst_text s names t r fits (Select cond ty a b rest) h =
    ap (λ v. text_of (inst_parts no_scale (Select v ty (raw_val t (value_of s a)) (raw_val t (value_of s b)) rest))) (val_again s names t r fits cond h.values.0)
    ∙ ap (λ v. text_of (inst_parts no_scale (Select (renamed_val r cond) ty v (raw_val t (value_of s b)) rest))) (val_again s names t r fits a h.values.1.0)
    ∙ ap (λ v. text_of (inst_parts no_scale (Select (renamed_val r cond) ty (renamed_val r a) v rest))) (val_again s names t r fits b h.values.1.1.0)
inst_text s names t r fits (Cast op flags from a to rest) h =
    ap (λ v. text_of (inst_parts no_scale (Cast op flags from v to rest))) (val_again s names t r fits a h.values.0)
inst_text s names t r fits (Phi ty entries rest) h = ap (λ es. text_of (inst_parts no_scale (Phi ty es rest))) (entries_again s names t r fits entries h.values)

made_shown : (t : Shown) (next l : ℕ) (n : Name) (b : Bool) → (b ≡ true → t.locals l ≡ shown_name next n) →
    result_name t.locals (if b then Some (record { 0 = l }) else None) ≡ (if b then shown_name next n else Absent)
made_shown t next l n true h = h refl
made_shown t next l n false h = refl

inst_row : (s : Scope) (names : NamesState) (t : Shown) (r : Renaming) → Fits s names t r → (next n l : ℕ) (x : InstLine) → IsKnownInst names x.inst →
    (makes x.inst ≡ true → t.locals l ≡ shown_name next x.name) → printed (inst_line t (plain_at s n l x)) ≡ printed (inst_said r next x)
inst_row s names t r fits next n l x known named =
    let name : Name = result_name t.locals (plain_at s n l x).result in
    ap (λ m. printed (said.Inst m (raw_inst t (inst_of s x.inst)))) (made_shown t next l x.name (makes x.inst) named)
    ∙ (ap (λ y. 32 ∷ 32 ∷ y) (text_of_append (result_parts (made_name x.inst (shown_name next x.name))) (inst_parts no_scale (raw_inst t (inst_of s x.inst)))
    ∙ ap (λ y. text_of (result_parts (made_name x.inst (shown_name next x.name))) ++ y) (inst_text s names t r fits x.inst known)
    ∙ sym (text_of_append (result_parts (made_name x.inst (shown_name next x.name))) (inst_parts no_scale (renamed_inst r x.inst)))))

-- a terminator
term_again : (s : Scope) (names : NamesState) (t : Shown) (r : Renaming) → Fits s names t r → (e : RawTerm) → Each (IsKnownVal names) (term_values e) → raw_term t (term_of s e) ≡ renamed_term r e
term_again s names t r fits (Br to rest) h = ap (λ n. Br n rest) (fits.block to)
term_again s names t r fits (CondBr cond if_true if_false rest) h =
    let a = val_again s names t r fits cond h.0 in
    let b = fits.block if_true in
    let c = fits.block if_false in
    cc
term_again s names t r fits (Ret None rest) h = refl
term_again s names t r fits (Ret (Some given) rest) h = ap (λ v. Ret (Some (given.0, v)) rest) (val_again s names t r fits given.1 h.0)
term_again s names t r fits (Unreachable rest) h = refl

-- instructions
insts_rows : (s : Scope) (names : NamesState) (t : Shown) (r : Renaming) → Fits s names t r → (ns : List Name) → ((k : ℕ) → t.locals k ≡ slice_index_or ns k Absent) →
    (next n l : ℕ) (xs : List InstLine) → Each (λ (x : InstLine). IsKnownInst names x.inst) xs → AlongInsts shown ns next l xs →
    insts_text t [] (plain_insts s n l xs) ≡ rows_text (insts_said r next xs)
unfolding line_text
insts_rows s names t r fits ns locals next n l [] known along = refl
insts_rows s names t r fits ns locals next n l (x ∷ xs) known along =
    ap (λ (row : List ℕ). ended row ++ insts_text t [] (plain_insts s (suc n) (local_behind l x) xs)) (inst_row s names t r fits next n l x known.0 (λ e. locals l ∙ along.0 e))
    ∙ ap (λ (rest : List ℕ). row_text (inst_said r next x) ++ rest) (insts_rows s names t r fits ns locals (inst_free shown next x) (suc n) (local_behind l x) xs known.1 along.1)

-- labels
first_rows : (labels : List Name) (next : ℕ) (n : Name) → slice_index_or labels 0 Absent ≡ shown_name next n → label_text labels 0 (own_name n) ≡ rows_text (label_said true next n)
unfolding line_text
first_rows labels next (Word text) h = ap (λ m. ended (printed (said.Label m))) h ∙ sym (append-nil (ended (printed (said.Label (Word text)))))
first_rows labels next (Number n) h = refl
first_rows labels next Absent h = refl

more_rows : (labels : List Name) (next b : ℕ) (n : Name) → slice_index_or labels (suc b) Absent ≡ shown_name next n → label_text labels (suc b) (own_name n) ≡ rows_text (label_said false next n)
unfolding line_text
more_rows labels next b n h =
    let some : (suc b == 0) ≡ false = grind (arith, nat_tests) in
    ap (λ (c : Bool). if c then first_label labels (own_name n) else 10 ∷ ended (printed (label_line labels (suc b)))) some
    ∙ ap (λ m. 10 ∷ ended (printed (said.Label m))) h
    ∙ ap (λ (text : List ℕ). 10 ∷ text) (sym (append-nil (ended (printed (said.Label (shown_name next n))))))

-- blocks
block_rows : (s : Scope) (names : NamesState) (t : Shown) (r : Renaming) → Fits s names t r → (ns : List Name) → ((k : ℕ) → t.locals k ≡ slice_index_or ns k Absent) →
    (first : Bool) (next b n l : ℕ) (x : BlockLines) → IsKnownBlock names x → AlongInsts shown ns (free_after next (label_name x.label)) l x.insts →
    label_text t.labels b (own_name (label_name x.label)) ≡ rows_text (label_said first next (label_name x.label)) →
    block_text t no_notes b (record { name = own_name (label_name x.label); insts = plain_insts s n l x.insts; term = term_of s x.end.term }) ≡ rows_text (block_said r first next x)
unfolding line_text
block_rows s names t r fits ns locals first next b n l x known along label =
    let labels = label_said first next (label_name x.label) in
    let free = free_after next (label_name x.label) in
    let insts = insts_said r free x.insts in
    let end : List Line = said.Term (renamed_term r x.end.term) ∷ [] in
    ap (λ (text : List ℕ). ((text ++ []) ++ insts_text t [] (plain_insts s n l x.insts)) ++ ended (printed (term_line t (term_of s x.end.term)))) label
    ∙ ap (λ (text : List ℕ). (text ++ insts_text t [] (plain_insts s n l x.insts)) ++ ended (printed (term_line t (term_of s x.end.term)))) (append-nil (rows_text labels))
    ∙ ap (λ (text : List ℕ). (rows_text labels ++ text) ++ ended (printed (term_line t (term_of s x.end.term)))) (insts_rows s names t r fits ns locals free n l x.insts known.insts along)
    ∙ ap (λ (e : RawTerm). (rows_text labels ++ rows_text insts) ++ ended (printed (said.Term e))) (term_again s names t r fits x.end.term known.term)
    ∙ ap (λ (text : List ℕ). (rows_text labels ++ rows_text insts) ++ text) (sym (append-nil (row_text (said.Term (renamed_term r x.end.term)))))
    ∙ ap (λ (text : List ℕ). text ++ rows_text end) (sym (flat_map-append row_text labels insts))
    ∙ sym (flat_map-append row_text (labels ++ insts) end)

later_rows : (s : Scope) (names : NamesState) (t : Shown) (r : Renaming) → Fits s names t r → (ns : List Name) → ((k : ℕ) → t.locals k ≡ slice_index_or ns k Absent) →
    (next b n l : ℕ) (xs : List BlockLines) → Each (IsKnownBlock names) xs → AlongBlocks shown ns t.labels next l (suc b) xs →
    blocks_text t no_notes (suc b) (plain_blocks s n l xs) ≡ rows_text (blocks_said r false next xs)
unfolding line_text
later_rows s names t r fits ns locals next b n l [] known along = refl
later_rows s names t r fits ns locals next b n l (x ∷ xs) known along =
    let rest = plain_blocks s (n + length x.insts) (locals_behind l x.insts) xs in
    ap (λ (text : List ℕ). text ++ blocks_text t no_notes (suc (suc b)) rest)
    (block_rows s names t r fits ns locals false next (suc b) n l x known.0 along.1 (more_rows t.labels next b (label_name x.label) along.0))
    ∙ ap (λ (text : List ℕ). rows_text (block_said r false next x) ++ text)
    (later_rows s names t r fits ns locals (block_free shown next x) (suc b) (n + length x.insts) (locals_behind l x.insts) xs known.1 along.2)
    ∙ sym (flat_map-append row_text (block_said r false next x) (blocks_said r false (block_free shown next x) xs))

blocks_rows : (s : Scope) (names : NamesState) (t : Shown) (r : Renaming) → Fits s names t r → (ns : List Name) → ((k : ℕ) → t.locals k ≡ slice_index_or ns k Absent) →
    (next n l : ℕ) (xs : List BlockLines) → Each (IsKnownBlock names) xs → AlongBlocks shown ns t.labels next l 0 xs →
    blocks_text t no_notes 0 (plain_blocks s n l xs) ≡ rows_text (blocks_said r true next xs)
unfolding line_text
blocks_rows s names t r fits ns locals next n l [] known along = refl
blocks_rows s names t r fits ns locals next n l (x ∷ xs) known along =
    let rest = plain_blocks s (n + length x.insts) (locals_behind l x.insts) xs in
    ap (λ (text : List ℕ). text ++ blocks_text t no_notes 1 rest)
    (block_rows s names t r fits ns locals true next 0 n l x known.0 along.1 (first_rows t.labels next (label_name x.label) along.0))
    ∙ ap (λ (text : List ℕ). rows_text (block_said r true next x) ++ text)
    (later_rows s names t r fits ns locals (block_free shown next x) 0 (n + length x.insts) (locals_behind l x.insts) xs known.1 along.2)
    ∙ sym (flat_map-append row_text (block_said r true next x) (blocks_said r false (block_free shown next x) xs))

-- a function
define_same : (h : Head) → h.variadic ≡ false →
    printed (said.Define (record { attrs = h.attrs; ret = h.ret; name = h.name; params = shown_params 0 (map plain_param h.params); variadic = false; post = h.post })) ≡ printed (said.Define (with_params h))
define_same h fixed =
    ap (λ ps. printed (said.Define (record { attrs = h.attrs; ret = h.ret; name = h.name; params = ps; variadic = false; post = h.post }))) (params_plain 0 h.params)
    ∙ ap (λ b. printed (said.Define (record { attrs = h.attrs; ret = h.ret; name = h.name; params = shown_params 0 h.params; variadic = b; post = h.post }))) (sym fixed)

pub func_rows : (effects : List ℕ → Effects) (keeps : List ℕ → Bool) (spare : ℕ) (items : List ItemLines) (f : FuncLines) → IsKnownFunc (names_of items) f →
    func_text (names_of items) (func_of (scope_of effects keeps items f) spare f) no_notes ≡ rows_text (func_said f)
unfolding line_text
func_rows effects keeps spare items f known =
    let s = scope_of effects keeps items f in
    let names = names_of items in
    let t = shown_by names f in
    let r = renaming f in
    let fits : Fits s names t r = record { local = λ n. refl; block = λ n. refl; module_names = refl; funcs = refl; globals = refl } in
    let blocks = blocks_said r true (start f) f.blocks in
    let close : List Line = said.Close ∷ [] in
    let F = func_of s spare f in
    sym (func_plain names F no_notes)
    ∙ ap (λ g. func_text names g no_notes) (plain_lines.func_plain s spare f refl refl)
    ∙ ap (λ u. (ended (printed (define_line (plain_of s f))) ++ blocks_text u no_notes 0 (plain_of s f).blocks) ++ ended (printed said.Close)) (shown_is names s f)
    ∙ ap (λ (text : List ℕ). (ended text ++ blocks_text t no_notes 0 (plain_of s f).blocks) ++ ended (printed said.Close)) (define_same f.head known.fixed)
    ∙ ap (λ (text : List ℕ). (row_text (said.Define (with_params f.head)) ++ text) ++ ended (printed said.Close))
    (blocks_rows s names t r fits (locals_listed shown f) (λ k. refl) (start f) 0 (length f.head.params) f.blocks known.blocks (func_along shown f))
    ∙ ap (λ (text : List ℕ). (row_text (said.Define (with_params f.head)) ++ rows_text blocks) ++ text) (sym (append-nil (ended (printed said.Close))))
    ∙ append_assoc (row_text (said.Define (with_params f.head))) (rows_text blocks) (rows_text close)
    ∙ ap (λ (text : List ℕ). row_text (said.Define (with_params f.head)) ++ text) (sym (flat_map-append row_text blocks close))

-- items
gap_rows : (before : Option Bool) (after : Bool) → gap before after ≡ rows_text (gap_said before after)
unfolding line_text
gap_rows None after = refl
gap_rows (Some true) after = refl
gap_rows (Some false) true = refl
gap_rows (Some false) false = refl

body_at : (pre : List (Option FuncState)) (x : Option FuncState) (post : List (Option FuncState)) (n : ℕ) → length pre ≡ n → body_in (slice_get (pre ++ x ∷ post) n) ≡ x
body_at [] x post zero e = refl
body_at [] x post (suc n) e = absurd (omega arith)
body_at (p ∷ pre) x post zero e = absurd (omega arith)
body_at (p ∷ pre) x post (suc n) e = body_at pre x post n (omega arith)

length_one : (pre : List (Option FuncState)) (x : Option FuncState) (n : ℕ) → length pre ≡ n → length (pre ++ x ∷ []) ≡ suc n
length_one [] x n e = ap suc e
length_one (p ∷ pre) x zero e = absurd (omega arith)
length_one (p ∷ pre) x (suc n) e = ap suc (length_one pre x n (omega arith))

kept_row : (before : Option Bool) (text rest rest' : List ℕ) (line : Line) → ended text ≡ row_text line → rest ≡ rest' → (gap before false ++ ended text) ++ rest ≡ rows_text (gap_said before false) ++ (row_text line ++ rest')
unfolding line_text
kept_row before text rest rest' line e f =
    append_assoc (gap before false) (ended text) rest
    ∙ ap (λ (x : List ℕ). x ++ (ended text ++ rest)) (gap_rows before false) ∙ ap (λ (x : List ℕ). rows_text (gap_said before false) ++ (x ++ rest)) e
    ∙ ap (λ (x : List ℕ). rows_text (gap_said before false) ++ (row_text line ++ x)) f

one_part : (text : List ℕ) → ended text ≡ ended (text ++ [])
unfolding line_text
one_part text = ap ended (sym (append-nil text))

items_rows : (effects : List ℕ → Effects) (keeps : List ℕ → Bool) (spare : List ℕ → ℕ) (all : List ItemLines) (pre : List (Option FuncState)) (f g : ℕ) (before : Option Bool) (items : List ItemLines) →
    (module_of effects keeps spare all).bodies ≡ pre ++ flat_map (bodies_in (scope_of effects keeps all) spare) items → length pre ≡ f → Each IsItem items → Each (IsKnownItem (names_of all)) items →
    items_text (module_of effects keeps spare all) before (items_from f g items) ≡ rows_text (items_said before items)
unfolding line_text
items_rows effects keeps spare all pre f g before [] bodies count each known = refl
items_rows effects keeps spare all pre f g before (plain n (said.Kept text) ∷ rest) bodies count each known =
    kept_row before text _ (rows_text (items_said (Some false) rest)) (said.Kept text) (one_part text) (items_rows effects keeps spare all pre f g (Some false) rest bodies count each.1 known.1)
    ∙ sym (flat_map-append row_text (gap_said before false) (said.Kept text ∷ items_said (Some false) rest))
items_rows effects keeps spare all pre f g before (plain n (said.Group number text) ∷ rest) bodies count each known =
    kept_row before text _ (rows_text (items_said (Some false) rest)) (said.Group number text) (one_part text) (items_rows effects keeps spare all pre f g (Some false) rest bodies count each.1 known.1)
    ∙ sym (flat_map-append row_text (gap_said before false) (said.Group number text ∷ items_said (Some false) rest))
items_rows effects keeps spare all pre f g before (plain n (said.GlobalVar name text) ∷ rest) bodies count each known =
    kept_row before text _ (rows_text (items_said (Some false) rest)) (said.GlobalVar name text) (one_part text) (items_rows effects keeps spare all pre f (suc g) (Some false) rest bodies count each.1 known.1)
    ∙ sym (flat_map-append row_text (gap_said before false) (said.GlobalVar name text ∷ items_said (Some false) rest))
items_rows effects keeps spare all pre f g before (plain n (said.Declare head) ∷ rest) bodies count each known =
    kept_row before (printed (said.Declare head)) _ (rows_text (items_said (Some false) rest)) (said.Declare head) refl
    (items_rows effects keeps spare all (pre ++ None ∷ []) (suc f) g (Some false) rest (bodies ∙ sym (append_assoc pre (None ∷ []) (flat_map (bodies_in (scope_of effects keeps all) spare) rest)))
    (length_one pre None f count) each.1 known.1)
    ∙ sym (flat_map-append row_text (gap_said before false) (said.Declare head ∷ items_said (Some false) rest))
items_rows effects keeps spare all pre f g before (plain n said.Empty ∷ rest) bodies count each known = absurd (cc (each.0))
items_rows effects keeps spare all pre f g before (plain n said.Close ∷ rest) bodies count each known = absurd (cc (each.0))
items_rows effects keeps spare all pre f g before (plain n (said.Label name) ∷ rest) bodies count each known = absurd (cc (each.0))
items_rows effects keeps spare all pre f g before (plain n (said.Define head) ∷ rest) bodies count each known = absurd (cc (each.0))
items_rows effects keeps spare all pre f g before (plain n (said.Inst name inst) ∷ rest) bodies count each known = absurd (cc (each.0))
items_rows effects keeps spare all pre f g before (plain n (said.Term term) ∷ rest) bodies count each known = absurd (cc (each.0))
items_rows effects keeps spare all pre f g before (body lines ∷ rest) bodies count each known =
    let m = module_of effects keeps spare all in
    let here : Option FuncState = Some (func_of (scope_of effects keeps all lines) (spare lines.head.name) lines) in
    let more = flat_map (bodies_in (scope_of effects keeps all) spare) rest in
    let there : body_of m f ≡ here = ap (λ (bs : List (Option FuncState)). body_in (slice_get bs f)) bodies ∙ body_at pre here more f count in
    let text : body_text m.names (body_of m f) ≡ rows_text (func_said lines) = ap (λ b. body_text m.names b) there ∙ func_rows effects keeps (spare lines.head.name) all lines known.0 in
    let later = items_rows effects keeps spare all (pre ++ here ∷ []) (suc f) g (Some true) rest (bodies ∙ sym (append_assoc pre (here ∷ []) more)) (length_one pre here f count) each.1 known.1 in
    append_assoc (gap before true) (body_text m.names (body_of m f)) _
    ∙ ap (λ (x : List ℕ). x ++ (body_text m.names (body_of m f) ++ items_text m (Some true) (items_from (suc f) g rest))) (gap_rows before true)
    ∙ ap (λ (x : List ℕ). rows_text (gap_said before true) ++ (x ++ items_text m (Some true) (items_from (suc f) g rest))) text
    ∙ ap (λ (x : List ℕ). rows_text (gap_said before true) ++ (rows_text (func_said lines) ++ x)) later
    ∙ ap (λ (x : List ℕ). rows_text (gap_said before true) ++ x) (sym (flat_map-append row_text (func_said lines) (items_said (Some true) rest)))
    ∙ sym (flat_map-append row_text (gap_said before true) (func_said lines ++ items_said (Some true) rest))

-- the text of a module is its lines
pub module_rows : (effects : List ℕ → Effects) (keeps : List ℕ → Bool) (spare : List ℕ → ℕ) (items : List ItemLines) → Each IsItem items → Each (IsKnownItem (names_of items)) items →
    module_text (module_of effects keeps spare items) ≡ rows_text (items_said None items)
unfolding line_text
module_rows effects keeps spare items each known = items_rows effects keeps spare items [] 0 0 None items refl refl each known
