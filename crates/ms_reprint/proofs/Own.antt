-- What is printed for the lines of an accepted function are these lines, with an empty one before each label line but the first block's.
use Rattle.std.proofs.Common.{◌≡◌, ◌≤◌, ◌<◌, ◌+◌, ◌^◌, ℕ, suc, Bool, true, false, if◌then◌else◌, List, [], ◌∷◌, ◌++◌, Option, Some, None, length, map, refl, sym, ap, ◌∙◌, arith}
use Rattle.std.specs.Prelude.{slice_index_or}
use Rattle.std.specs.Option.{is_some}
use Rattle.ms_ir.specs.declared.names.Name.{Name}
use Rattle.ms_ir.specs.declared.names.Name.TheVariants.{Word, Number, Absent}
use Rattle.ms_ir.specs.declared.names.Param.{Param}
use Rattle.ms_ir.specs.Func.{Placed, Block, FuncState}
use Rattle.ms_ir.specs.Module.{ModuleState}
use Rattle.ms_grammar.specs.Kept.{Each}
use Rattle.ms_grammar.specs.declared.line.Line.{Line}
use Rattle.ms_grammar.specs.declared.line.Line.TheVariants as said
use Rattle.ms_grammar.specs.declared.line.RawVal.{RawVal}
use Rattle.ms_grammar.specs.declared.line.RawVal.TheVariants.{Num, Local, Global}
use Rattle.ms_grammar.specs.declared.line.RawArg.{RawArg}
use Rattle.ms_grammar.specs.declared.line.RawEntry.{RawEntry}
use Rattle.ms_grammar.specs.declared.line.RawIndex.{RawIndex}
use Rattle.ms_grammar.specs.declared.line.RawInst.{RawInst}
use Rattle.ms_grammar.specs.declared.line.RawInst.TheVariants.{Alloca, Gep, Step, Load, Store, Copy, Call, Bin, Cmp, Select, Cast, Phi}
use Rattle.ms_grammar.specs.declared.line.RawTerm.{RawTerm}
use Rattle.ms_grammar.specs.declared.line.RawTerm.TheVariants.{Br, CondBr, Ret, Unreachable}
use Rattle.ms_resolve.specs.Shape.{LabelLine, InstLine, BlockLines, FuncLines}
use Rattle.ms_resolve.specs.Made.{Made, made_in, locals_of, blocks_of}
use Rattle.ms_resolve.specs.Scope.{Scope, number_of_name}
use Rattle.ms_resolve.specs.Used.{values_of, term_values, inst_blocks, term_blocks, arg_value, index_value, entry_value, entry_block}
use Rattle.ms_print.specs.Numbering.{shown_name, free_after, shown_params, free_after_params, free_after_inst, free_after_insts, free_after_block}
use Rattle.ms_again.proofs.Renaming.{Renaming, renamed_val, renamed_arg, renamed_index, renamed_entry, renamed_inst, renamed_term}
use Rattle.ms_again.proofs.Again.{renaming, inst_said, insts_said, label_said, block_said, blocks_said, start, func_said, label_again}
use Rattle.ms_again.proofs.AgainNames.{AreAgain, IsAgain, key_of, locals_by_key, blocks_by_key, locals_keyed, blocks_keyed, label_is_again}
use Rattle.ms_again.proofs.Names.{shown, named_by, locals_listed, blocks_listed, locals_by, blocks_by, label_name, params_free, inst_free, insts_free, block_free}
use Rattle.ms_again.proofs.Right.{numbered_is, shown_next}
use Rattle.ms_reprint.proofs.Lines.{Target, ren, LineOf, BlockOf, inst_line_of, insts_lines, lines_of_block, blocks_lines, things, insts_many, inst_less, block_less, makes_as, func_made_as, locals_are, blocks_are}
use Rattle.ms_reprint.proofs.Names.{target_of, is_there, things_size}
use Rattle.ms_reprint.proofs.Said.{IsKnownVal, IsKnownBlock, IsKnownUse}
use Rattle.ms_reprint.proofs.Built.{InstFacts, AllInsts, BlockFacts, AllBlocks}
use Rattle.ms_reprint.proofs.Faults.{Lined, func_lines}

abbrev pub own_inst : InstLine → Line
own_inst x = said.Inst x.name x.inst

abbrev pub own_label : Bool → Option LabelLine → List Line
own_label first None = []
own_label true (Some l) = said.Label l.name ∷ []
own_label false (Some l) = said.Empty ∷ said.Label l.name ∷ []

abbrev pub own_block : Bool → BlockLines → List Line
own_block first b = own_label first b.label ++ map own_inst b.insts ++ said.Term b.end.term ∷ []

abbrev pub own_blocks : Bool → List BlockLines → List Line
own_blocks first [] = []
own_blocks first (b ∷ bs) = own_block first b ++ own_blocks false bs

abbrev pub own_func : FuncLines → List Line
own_func f = said.Define f.head ∷ own_blocks true f.blocks ++ said.Close ∷ []

-- ---- printed names are printed as they are

pub shown_twice : (next : ℕ) (n : Name) → next < 10 ^ 9 → shown_name next (shown_name next n) ≡ shown_name next n
shown_twice next (Word text) h = refl
shown_twice next (Number k) h = ap (shown_name next) (numbered_is next h)
shown_twice next Absent h = ap (shown_name next) (numbered_is next h)

free_twice : (next : ℕ) (n : Name) → next < 10 ^ 9 → free_after next (shown_name next n) ≡ free_after next n
free_twice next (Word text) h = refl
free_twice next (Number k) h = ap (free_after next) (numbered_is next h)
free_twice next Absent h = ap (free_after next) (numbered_is next h)

record IsShownAs (next : ℕ) (new old : Name) : Type 0 where
  pub name : shown_name next new ≡ shown_name next old
  pub free : free_after next new ≡ free_after next old

shown_as : (next : ℕ) (new old : Name) → next < 10 ^ 9 → IsAgain next new old → IsShownAs next new old
shown_as next (Word a) (Word b) h again = record { name = again.name; free = refl }
shown_as next (Word a) (Number k) h again = let same : Word a ≡ Number next = again.name ∙ numbered_is next h in absurd (cc)
shown_as next (Word a) Absent h again = let same : Word a ≡ Number next = again.name ∙ numbered_is next h in absurd (cc)
shown_as next (Number j) (Word b) h again = let same : Number j ≡ Word b = again.name in absurd (cc)
shown_as next (Number j) (Number k) h again = record { name = refl; free = refl }
shown_as next (Number j) Absent h again = record { name = refl; free = refl }
shown_as next Absent (Word b) h again = let same : Number next ≡ Word b = again.name in absurd (cc)
shown_as next Absent (Number k) h again = record { name = refl; free = refl }
shown_as next Absent Absent h again = record { name = refl; free = refl }

keys_shown : (next : ℕ) (ns ms : List Made) → next + length ms ≤ 10 ^ 9 → AreAgain next ns ms → map key_of (named_by shown next ns) ≡ map key_of (named_by shown next ms)
keys_shown next [] [] few h = refl
keys_shown next [] (m ∷ ms) few h = absurd h
keys_shown next (n ∷ ns) [] few h = absurd h
keys_shown next (n ∷ ns) (m ∷ ms) few h =
    let more = shown_next next m.name in
    let same_as = shown_as next n.name m.name (omega arith) h.1 in
    ap (λ (b : Bool). (b, shown_name next n.name) ∷ map key_of (named_by shown (free_after next n.name) ns)) h.0
    ∙ ap (λ (k : Name). (m.is_block, k) ∷ map key_of (named_by shown (free_after next n.name) ns)) same_as.name
    ∙ ap (λ k. (m.is_block, shown_name next m.name) ∷ map key_of (named_by shown k ns)) same_as.free
    ∙ ap (λ (rest : List (Bool × Name)). (m.is_block, shown_name next m.name) ∷ rest) (keys_shown (free_after next m.name) ns ms (omega arith) h.2)

-- ---- names stay

-- the names of the target are renamed to themselves
record Stays (t : Target) (r : Renaming) : Type 0 where
  pub local : (k : ℕ) → k < length t.locals → r.local (slice_index_or t.locals k Absent) ≡ slice_index_or t.locals k Absent
  pub block : (k : ℕ) → k < length t.blocks → r.block (slice_index_or t.blocks k Absent) ≡ slice_index_or t.blocks k Absent

stays : (m : ModuleState) (f : FuncState) (w : Lined m f) → Stays (target_of f) (renaming (func_lines m f w))
stays m f w =
    let F = func_lines m f w in
    let t = target_of f in
    let head = w.accepted.all_said.head in
    let size = things_size f in
    let few = w.given.few in
    let again = func_made_as m t head f w.blocks few in
    let keys = keys_shown 0 (made_in F) (things f) (omega arith) again in
    let locals : locals_listed shown F ≡ t.locals = sym (locals_by shown F) ∙ locals_keyed (named_by shown 0 (made_in F)) ∙ ap locals_by_key keys ∙ sym (locals_keyed (named_by shown 0 (things f))) in
    let blocks : blocks_listed shown F ≡ t.blocks = sym (blocks_by shown F) ∙ blocks_keyed (named_by shown 0 (made_in F)) ∙ ap blocks_by_key keys ∙ sym (blocks_keyed (named_by shown 0 (things f))) in
    record {
      local = λ k less.
          let n = slice_index_or t.locals k Absent in
          ap (λ (ns : List Name). slice_index_or ns (number_of_name (locals_of F) n) Absent) locals
          ∙ ap (λ (ns : List Name). slice_index_or t.locals (number_of_name ns n) Absent) (locals_are m t head f w.blocks few)
          ∙ ap (λ j. slice_index_or t.locals j Absent) (is_there t.locals k less w.given.locals_apart w.given.locals_named).number;
      block = λ k less.
          let n = slice_index_or t.blocks k Absent in
          ap (λ (ns : List Name). slice_index_or ns (number_of_name (blocks_of F) n) Absent) blocks
          ∙ ap (λ (ns : List Name). slice_index_or t.blocks (number_of_name ns n) Absent) (blocks_are m t head f w.blocks few)
          ∙ ap (λ j. slice_index_or t.blocks j Absent) (is_there t.blocks k less w.given.blocks_apart w.given.blocks_named).number;
    }

module _ (t : Target) (r : Renaming) (stay : Stays t r) (s : Scope) where
  val_stays : (v : RawVal) → IsKnownVal t s v → renamed_val r (renamed_val (ren t s) v) ≡ renamed_val (ren t s) v
  val_stays (Num ty n) h = refl
  val_stays (Local n) h = ap (λ (k : Name). Local k) (stay.local (t.at (number_of_name s.locals n)) h)
  val_stays (Global n) h = refl

  arg_stays : (a : RawArg) → IsKnownVal t s a.val → renamed_arg r (renamed_arg (ren t s) a) ≡ renamed_arg (ren t s) a
  arg_stays a h = ap (λ v. let b : RawArg = record { ty = a.ty; val = v; text = a.text } in b) (val_stays a.val h)

  args_stay : (args : List RawArg) → Each (IsKnownVal t s) (map arg_value args) → map (renamed_arg r) (map (renamed_arg (ren t s)) args) ≡ map (renamed_arg (ren t s)) args
  args_stay [] h = refl
  args_stay (a ∷ args) h =
      ap (λ (b : RawArg). b ∷ map (renamed_arg r) (map (renamed_arg (ren t s)) args)) (arg_stays a h.0) ∙ ap (λ (bs : List RawArg). renamed_arg (ren t s) a ∷ bs) (args_stay args h.1)

  entries_stay : (es : List RawEntry) → Each (IsKnownVal t s) (map entry_value es) → Each (IsKnownBlock t s) (map entry_block es) → map (renamed_entry r) (map (renamed_entry (ren t s)) es) ≡ map (renamed_entry (ren t s)) es
  entries_stay [] h b = refl
  entries_stay (e ∷ es) h b =
      let rest = map (renamed_entry r) (map (renamed_entry (ren t s)) es) in
      ap (λ v. let d : RawEntry = record { val = v; from = r.block ((ren t s).block e.from) } in d ∷ rest) (val_stays e.val h.0)
      ∙ ap (λ n. let d : RawEntry = record { val = renamed_val (ren t s) e.val; from = n } in d ∷ rest) (stay.block (number_of_name s.blocks e.from) b.0)
      ∙ ap (λ (ds : List RawEntry). renamed_entry (ren t s) e ∷ ds) (entries_stay es h.1 b.1)

  terms_stay : (ts : List RawIndex) → Each (IsKnownVal t s) (map index_value ts) → map (renamed_index r) (map (renamed_index (ren t s)) ts) ≡ map (renamed_index (ren t s)) ts
  terms_stay [] h = refl
  terms_stay (x ∷ xs) h =
      ap (λ v. let d : RawIndex = record { val = v; ty = x.ty; scale = x.scale } in d ∷ map (renamed_index r) (map (renamed_index (ren t s)) xs)) (val_stays x.val h.0)
      ∙ ap (λ (ds : List RawIndex). renamed_index (ren t s) x ∷ ds) (terms_stay xs h.1)

  inst_stays : (i : RawInst) → IsKnownUse t s (values_of i) (inst_blocks i) → renamed_inst r (renamed_inst (ren t s) i) ≡ renamed_inst (ren t s) i
  inst_stays (Alloca size head rest) h = refl
  inst_stays (Gep base offset head index rest) h = ap (λ w. Gep w offset head index rest) (val_stays base h.vals.0)
  inst_stays (Step base offset terms head index rest) h =
      ap (λ w. Step w offset (map (renamed_index r) (map (renamed_index (ren t s)) terms)) head index rest) (val_stays base h.vals.0)
      ∙ ap (λ ts. Step (renamed_val (ren t s) base) offset ts head index rest) (terms_stay terms h.vals.1)
  inst_stays (Load ty ptr rest) h = ap (λ w. Load ty w rest) (val_stays ptr h.vals.0)
  inst_stays (Store ty x ptr rest) h =
      ap (λ w. Store ty w (renamed_val r (renamed_val (ren t s) ptr)) rest) (val_stays x h.vals.0) ∙ ap (λ w. Store ty (renamed_val (ren t s) x) w rest) (val_stays ptr h.vals.1.0)
  inst_stays (Copy to from len head behind rest) h =
      ap (λ a. Copy a (renamed_arg r (renamed_arg (ren t s) from)) len head behind rest) (arg_stays to h.vals.0) ∙ ap (λ a. Copy (renamed_arg (ren t s) to) a len head behind rest) (arg_stays from h.vals.1.0)
  inst_stays (Call callee ret args head behind rest) h = ap (λ xs. Call callee ret xs head behind rest) (args_stay args h.vals)
  inst_stays (Bin op flags ty x y rest) h =
      ap (λ w. Bin op flags ty w (renamed_val r (renamed_val (ren t s) y)) rest) (val_stays x h.vals.0) ∙ ap (λ w. Bin op flags ty (renamed_val (ren t s) x) w rest) (val_stays y h.vals.1.0)
  inst_stays (Cmp pred flags ty x y rest) h =
      ap (λ w. Cmp pred flags ty w (renamed_val r (renamed_val (ren t s) y)) rest) (val_stays x h.vals.0) ∙ ap (λ w. Cmp pred flags ty (renamed_val (ren t s) x) w rest) (val_stays y h.vals.1.0)
  inst_stays (Select c ty x y rest) h =
      ap (λ w. Select w ty (renamed_val r (renamed_val (ren t s) x)) (renamed_val r (renamed_val (ren t s) y)) rest) (val_stays c h.vals.0)
      ∙ ap (λ w. Select (renamed_val (ren t s) c) ty w (renamed_val r (renamed_val (ren t s) y)) rest) (val_stays x h.vals.1.0)
      ∙ ap (λ w. Select (renamed_val (ren t s) c) ty (renamed_val (ren t s) x) w rest) (val_stays y h.vals.1.1.0)
  inst_stays (Cast op flags from x to rest) h = ap (λ w. Cast op flags from w to rest) (val_stays x h.vals.0)
  inst_stays (Phi ty entries rest) h = ap (λ es. Phi ty es rest) (entries_stay entries h.vals h.froms)

  term_stays : (x : RawTerm) → IsKnownUse t s (term_values x) (term_blocks x) → renamed_term r (renamed_term (ren t s) x) ≡ renamed_term (ren t s) x
  term_stays (Br to rest) h = ap (λ n. Br n rest) (stay.block (number_of_name s.blocks to) h.froms.0)
  term_stays (CondBr c a b rest) h =
      ap (λ w. CondBr w (r.block ((ren t s).block a)) (r.block ((ren t s).block b)) rest) (val_stays c h.vals.0)
      ∙ ap (λ n. CondBr (renamed_val (ren t s) c) n (r.block ((ren t s).block b)) rest) (stay.block (number_of_name s.blocks a) h.froms.0)
      ∙ ap (λ n. CondBr (renamed_val (ren t s) c) ((ren t s).block a) n rest) (stay.block (number_of_name s.blocks b) h.froms.1.0)
  term_stays (Ret None rest) h = refl
  term_stays (Ret (Some g) rest) h = ap (λ w. Ret (Some (g.0, w)) rest) (val_stays g.1 h.vals.0)
  term_stays (Unreachable rest) h = refl

-- ---- lines stay

made_stays : (next : ℕ) (o : Bool) (n : Name) → next < 10 ^ 9 → (if o then shown_name next (if o then shown_name next n else Absent) else Absent) ≡ (if o then shown_name next n else Absent)
made_stays next true n few = shown_twice next n few
made_stays next false n few = refl

free_stays : (next : ℕ) (o : Bool) (n : Name) → next < 10 ^ 9 → (if o then free_after next (if o then shown_name next n else Absent) else next) ≡ (if o then free_after next n else next)
free_stays next true n few = free_twice next n few
free_stays next false n few = refl

module _ (m : ModuleState) (f : FuncState) (r : Renaming) (stay : Stays (target_of f) r) where
  inst_free_stays : (next : ℕ) (x : Placed) (h : LineOf m x) → next < 10 ^ 9 → inst_free shown next (inst_line_of m (target_of f) next x h) ≡ free_after_inst next x
  inst_free_stays next x h few =
      ap (λ (b : Bool). if b then free_after next (if is_some x.result then shown_name next x.name else Absent) else next) (makes_as m (target_of f) x h) ∙ free_stays next (is_some x.result) x.name few

  inst_same : (next : ℕ) (x : Placed) (h : LineOf m x) → InstFacts m f x h → next < 10 ^ 9 → inst_said r next (inst_line_of m (target_of f) next x h) ≡ own_inst (inst_line_of m (target_of f) next x h)
  inst_same next x h facts few =
      let line = renamed_inst (ren (target_of f) h.said.scope) h.said.line in
      let name : Name = if is_some x.result then shown_name next x.name else Absent in
      ap (λ (b : Bool). said.Inst (if b then shown_name next name else Absent) (renamed_inst r line)) (makes_as m (target_of f) x h)
      ∙ ap (λ n. said.Inst n (renamed_inst r line)) (made_stays next (is_some x.result) x.name few)
      ∙ ap (λ i. said.Inst name i) (inst_stays (target_of f) r stay h.said.scope h.said.line facts.known)

  insts_same : (next : ℕ) (xs : List Placed) (h : Each (LineOf m) xs) → AllInsts m f xs h → next + length xs ≤ 10 ^ 9 → insts_said r next (insts_lines m (target_of f) next xs h) ≡ map own_inst (insts_lines m (target_of f) next xs h)
  insts_same next [] h facts few = refl
  insts_same next (x ∷ xs) h facts few =
      let less = inst_less next x in
      let later = insts_lines m (target_of f) (free_after_inst next x) xs h.1 in
      ap (λ (l : Line). l ∷ insts_said r (inst_free shown next (inst_line_of m (target_of f) next x h.0)) later) (inst_same next x h.0 facts.0 (omega arith))
      ∙ ap (λ k. own_inst (inst_line_of m (target_of f) next x h.0) ∷ insts_said r k later) (inst_free_stays next x h.0 (omega arith))
      ∙ ap (λ (ls : List Line). own_inst (inst_line_of m (target_of f) next x h.0) ∷ ls) (insts_same (free_after_inst next x) xs h.1 facts.1 (omega arith))

  insts_free_stay : (next : ℕ) (xs : List Placed) (h : Each (LineOf m) xs) → next + length xs ≤ 10 ^ 9 → insts_free shown next (insts_lines m (target_of f) next xs h) ≡ free_after_insts next xs
  insts_free_stay next [] h few = refl
  insts_free_stay next (x ∷ xs) h few =
      let less = inst_less next x in
      ap (λ k. insts_free shown k (insts_lines m (target_of f) (free_after_inst next x) xs h.1)) (inst_free_stays next x h.0 (omega arith)) ∙ insts_free_stay (free_after_inst next x) xs h.1 (omega arith)

  label_same : (first : Bool) (next : ℕ) (n : Name) → next < 10 ^ 9 → label_said first next (label_name (label_again first 0 next n)) ≡ own_label first (label_again first 0 next n)
  label_same true next (Word text) few = refl
  label_same true next (Number k) few = refl
  label_same true next Absent few = refl
  label_same false next n few = ap (λ k. said.Empty ∷ said.Label k ∷ []) (shown_twice next n few)

  label_free : (first : Bool) (next : ℕ) (n : Name) → next < 10 ^ 9 → free_after next (label_name (label_again first 0 next n)) ≡ free_after next n
  label_free first next n few = (shown_as next (label_name (label_again first 0 next n)) n few (label_is_again first 0 next n few)).free

  block_free_stays : (first : Bool) (next : ℕ) (b : Block) (h : BlockOf m b) → next + suc (length b.insts) ≤ 10 ^ 9 → block_free shown next (lines_of_block m (target_of f) first next b h) ≡ free_after_block next b
  block_free_stays first next b h few =
      let more = shown_next next b.name in
      ap (λ k. insts_free shown k (insts_lines m (target_of f) (free_after next b.name) b.insts h.insts)) (label_free first next b.name (omega arith))
      ∙ insts_free_stay (free_after next b.name) b.insts h.insts (omega arith)

  block_same : (first : Bool) (next : ℕ) (b : Block) (h : BlockOf m b) → BlockFacts m f b h → next + suc (length b.insts) ≤ 10 ^ 9 → block_said r first next (lines_of_block m (target_of f) first next b h) ≡ own_block first (lines_of_block m (target_of f) first next b h)
  block_same first next b h facts few =
      let more = shown_next next b.name in
      let label = label_again first 0 next b.name in
      let lines = insts_lines m (target_of f) (free_after next b.name) b.insts h.insts in
      let end = renamed_term (ren (target_of f) h.term.scope) h.term.line in
      ap (λ (ls : List Line). ls ++ insts_said r (free_after next (label_name label)) lines ++ said.Term (renamed_term r end) ∷ []) (label_same first next b.name (omega arith))
      ∙ ap (λ k. own_label first label ++ insts_said r k lines ++ said.Term (renamed_term r end) ∷ []) (label_free first next b.name (omega arith))
      ∙ ap (λ (ls : List Line). own_label first label ++ ls ++ said.Term (renamed_term r end) ∷ []) (insts_same (free_after next b.name) b.insts h.insts facts.insts (omega arith))
      ∙ ap (λ x. own_label first label ++ map own_inst lines ++ said.Term x ∷ []) (term_stays (target_of f) r stay h.term.scope h.term.line facts.term)

  blocks_same : (first : Bool) (next : ℕ) (bs : List Block) (h : Each (BlockOf m) bs) → AllBlocks m f bs h → next + insts_many bs ≤ 10 ^ 9 → blocks_said r first next (blocks_lines m (target_of f) first next bs h) ≡ own_blocks first (blocks_lines m (target_of f) first next bs h)
  blocks_same first next [] h facts few = refl
  blocks_same first next (b ∷ bs) h facts few =
      let less = block_less next b in
      let here = lines_of_block m (target_of f) first next b h.0 in
      let later = blocks_lines m (target_of f) false (free_after_block next b) bs h.1 in
      ap (λ (ls : List Line). ls ++ blocks_said r false (block_free shown next here) later) (block_same first next b h.0 facts.0 (omega arith))
      ∙ ap (λ k. own_block first here ++ blocks_said r false k later) (block_free_stays first next b h.0 (omega arith))
      ∙ ap (λ (ls : List Line). own_block first here ++ ls) (blocks_same false (free_after_block next b) bs h.1 facts.1 (omega arith))

params_stay : (next : ℕ) (ps : List Param) → next + length ps ≤ 10 ^ 9 → shown_params next (shown_params next ps) ≡ shown_params next ps
params_stay next [] few = refl
params_stay next (p ∷ ps) few =
    let more = shown_next next p.name in
    ap (λ n. let q : Param = record p { name = n } in q ∷ shown_params (free_after next (shown_name next p.name)) (shown_params (free_after next p.name) ps)) (shown_twice next p.name (omega arith))
    ∙ ap (λ k. let q : Param = record p { name = shown_name next p.name } in q ∷ shown_params k (shown_params (free_after next p.name) ps)) (free_twice next p.name (omega arith))
    ∙ ap (λ (qs : List Param). let q : Param = record p { name = shown_name next p.name } in q ∷ qs) (params_stay (free_after next p.name) ps (omega arith))

start_stays : (next : ℕ) (ps : List Param) → next + length ps ≤ 10 ^ 9 → params_free shown next (shown_params next ps) ≡ free_after_params next ps
start_stays next [] few = refl
start_stays next (p ∷ ps) few =
    let more = shown_next next p.name in
    ap (λ k. params_free shown k (shown_params (free_after next p.name) ps)) (free_twice next p.name (omega arith)) ∙ start_stays (free_after next p.name) ps (omega arith)

params_less : (next : ℕ) (ps : List Param) → free_after_params next ps ≤ next + length ps
params_less next [] = omega arith
params_less next (p ∷ ps) = let more = shown_next next p.name in let rest = params_less (free_after next p.name) ps in omega arith

pub own_is : (m : ModuleState) (f : FuncState) (w : Lined m f) → func_said (func_lines m f w) ≡ own_func (func_lines m f w)
own_is m f w =
    let few = w.given.few in
    let less = params_less 0 f.params in
    let F = func_lines m f w in
    let head = w.accepted.all_said.head in
    let r = renaming F in
    ap (λ ps. said.Define (record head { params = ps }) ∷ blocks_said r true (start F) F.blocks ++ said.Close ∷ []) (params_stay 0 f.params (omega arith))
    ∙ ap (λ k. said.Define F.head ∷ blocks_said r true k F.blocks ++ said.Close ∷ []) (start_stays 0 f.params (omega arith))
    ∙ ap (λ (ls : List Line). said.Define F.head ∷ ls ++ said.Close ∷ []) (blocks_same m f r (stays m f w) true (free_after_params 0 f.params) f.blocks w.blocks w.facts (omega arith))
