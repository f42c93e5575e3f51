-- An accepted module that is printed within the limits is read again.
use Rattle.std.proofs.Common.{◌≡◌, ◌≤◌, ◌<◌, ◌^◌, ℕ, suc, Bool, true, false, List, [], ◌∷◌, ◌++◌, Option, Some, None, length, map, refl, sym, ap, subst, ◌∙◌, inl, inr, arith, length-append}
use Rattle.std.specs.Prelude.{slice_get}
use Rattle.std.specs.List.{flat_map}
use Rattle.std.proofs.lemmas.List.{map-append}
use Rattle.ms_attrs.specs.Effects.{IsEffectsOf}
use Rattle.ms_attrs.proofs.MeaningLemmas.{some_effects, some_keeps}
use Rattle.ms_ir.specs.declared.module.Item.{Item}
use Rattle.ms_ir.specs.declared.module.Item.TheVariants as item
use Rattle.ms_ir.specs.declared.names.Param.{Param}
use Rattle.ms_ir.specs.Func.{Placed, Block, FuncState}
use Rattle.ms_ir.specs.Graph.{graph_of}
use Rattle.ms_ir.specs.Locals.{IsNumbered}
use Rattle.ms_ir.specs.Module.{ModuleState, body_in, body_of}
use Rattle.ms_ir.specs.Symbols.{NamesState}
use Rattle.ms_paths.specs.Flow.{Block as Run, IsReducible}
use Rattle.ms_grammar.specs.Kept.{Each}
use Rattle.ms_grammar.specs.Grammar.{without_name, kept_of}
use Rattle.ms_grammar.specs.Form.{printed}
use Rattle.ms_grammar.specs.Limits.{IsWithinLimits}
use Rattle.ms_grammar.specs.declared.line.Head.{Head}
use Rattle.ms_grammar.specs.declared.line.Line.{Line}
use Rattle.ms_grammar.specs.declared.line.Line.TheVariants as said
use Rattle.ms_line.specs.Sorts.{sort_of}
use Rattle.ms_line.specs.declared.sort.Sort.{Sort}
use Rattle.ms_line.specs.declared.sort.Sort.TheVariants as sort
use Rattle.ms_read.specs.Rows.{rows_of}
use Rattle.ms_read.specs.Places.{is_outside, is_blank, outset, Lead}
use Rattle.ms_read.specs.Shape.{Walk}
use Rattle.ms_read.specs.Draft.{IsModuleCause}
use Rattle.ms_read.specs.Told.{IsSaid, sorts_of}
use Rattle.ms_read.specs.declared.place.Place.TheVariants.{Outside}
use Rattle.ms_read.specs.declared.place.Progress.{Progress}
use Rattle.ms_read.specs.declared.fault.ReadFault.TheVariants.{Limit}
use Rattle.ms_resolve.specs.Meaning.{effects_in, keeps_in}
use Rattle.ms_resolve.specs.Shape.{LabelLine, InstLine, BlockLines, FuncLines, label_lines, inst_line, block_lines, func_lines as lines_in, item_lines, IsItem}
use Rattle.ms_resolve.specs.Module.{groups_of, funcs_of}
use Rattle.ms_validity.specs.Cause.{IsAccepted, HasNone}
use Rattle.ms_validity.specs.Faults.{IsIrreducible, body_there}
use Rattle.ms_validity.proofs.ListLemmas.{get_map, flat_in, in_here}
use Rattle.ms_print.specs.Numbering.{shown_params, free_after_params}
use Rattle.ms_print.specs.Lines.{Shown, shown_in, inst_line as placed_line, term_line}
use Rattle.ms_print.specs.Text.{ended, line_text, insts_text, label_text, block_text, blocks_text, func_text, no_notes, body_text, gap, items_text, module_text}
use Rattle.ms_print.proofs.NumberingLemmas.{shown_params-length}
use Rattle.ms_valid.specs.Module.{IsSaidLine, AreItems, IsAcceptedModule}
use Rattle.ms_again.specs.Again.{IsReadInOrder}
use Rattle.ms_again.specs.Basis.{IsBasis}
use Rattle.ms_again.specs.Ordered.{ordered}
use Rattle.ms_again.proofs.Again.{gap_said, func_said as said_of, items_said}
use Rattle.ms_again.proofs.Carried.{graph_alike}
use Rattle.ms_again.proofs.Draft.{define_long, text_printed}
use Rattle.ms_again.proofs.Fine.{each_join}
use Rattle.ms_again.proofs.InOrder.{same_text}
use Rattle.ms_again.proofs.Known.{IsSound, IsItemBy}
use Rattle.ms_again.proofs.Lines.{empty_fine, rows_are}
use Rattle.ms_again.proofs.Placed.{blank_stays, inst_starts, IsStart}
use Rattle.ms_again.proofs.Printed.{rows_text}
use Rattle.ms_again.proofs.Quiet.{IsPrinted, kept_printed}
use Rattle.ms_again.proofs.ReadAgain.{items_again_read, read_in_order}
use Rattle.ms_again.proofs.Sites.{IsEntryBy, IsBlockBy, IsFuncBy, each_flat, built, bodies_built}
use Rattle.ms_edited.proofs.Shape.{PartIsReducible}
use Rattle.ms_reprint.specs.Rows.{AreSaid}
use Rattle.ms_reprint.proofs.Limits.{are_within}
use Rattle.ms_reprint.proofs.Lines.{insts_many, size_of, has_blocks}
use Rattle.ms_reprint.proofs.Names.{target_of, are_given}
use Rattle.ms_reprint.proofs.Plain.{SaidWithNumbers}
use Rattle.ms_reprint.proofs.Sound.{in_order}
use Rattle.ms_reprint.proofs.Faults.{Lined, func_lines, lined}
use Rattle.ms_reprint.proofs.Own.{own_inst, own_label, own_block, own_blocks, own_func, own_is}
use Rattle.ms_reprint.proofs.Func.{func_said, each_own, func_walk, walk_join}
use Rattle.ms_reprint.proofs.Items.{AreLined, bare, items_of, groups_are}
use Rattle.ms_reprint.proofs.Whole.{all_items, no_room, module_by, same_in_order, of_body, no_name_faults, no_type_faults, no_edge_faults, no_order_faults}

-- ---- a function takes a byte for each thing that it makes

insts_long : (s : Shown) (xs : List Placed) → length xs ≤ length (insts_text s [] xs)
unfolding line_text
insts_long s [] = omega arith
insts_long s (x ∷ xs) =
    let rest = insts_long s xs in
    let line = printed (placed_line s x) in
    let one = length-append line (10 ∷ []) in
    let both = length-append (ended line) (insts_text s [] xs) in
    omega arith

blocks_long : (s : Shown) (b : ℕ) (xs : List Block) → insts_many xs ≤ length (blocks_text s no_notes b xs)
unfolding line_text
blocks_long s b [] = omega arith
blocks_long s b (x ∷ xs) =
    let rest = blocks_long s (suc b) xs in
    let insts = insts_long s x.insts in
    let label = label_text s.labels b x.name ++ [] in
    let end = printed (term_line s x.term) in
    let one = length-append end (10 ∷ []) in
    let two = length-append label (insts_text s [] x.insts) in
    let three = length-append (label ++ insts_text s [] x.insts) (ended end) in
    let four = length-append (block_text s no_notes b x) (blocks_text s no_notes (suc b) xs) in
    omega arith

func_long : (names : NamesState) (f : FuncState) → size_of f ≤ length (func_text names f no_notes)
unfolding line_text
func_long names f =
    let head : Head = record { attrs = f.head; ret = f.ret; name = f.name; params = shown_params 0 f.params; variadic = false; post = f.tail } in
    let define = define_long head in
    let count = shown_params-length 0 f.params in
    let blocks = blocks_long (shown_in names f) 0 f.blocks in
    let first = printed (said.Define head) in
    let text = blocks_text (shown_in names f) no_notes 0 f.blocks in
    let one = length-append first (10 ∷ []) in
    let two = length-append (ended first) text in
    let three = length-append (ended first ++ text) (ended (printed said.Close)) in
    omega arith

-- ---- the functions of the items have their lines

lined_items : SaidWithNumbers → (m : ModuleState) → ((n : ℕ) (f : FuncState) → slice_get m.bodies n ≡ Some (Some f) → IsNumbered f) → (f g : ℕ) (before : Option Bool) (xs : List Item) (groups : List (ℕ × List ℕ)) →
    AreItems m f g xs groups → length (items_text m before xs) < 10 ^ 9 → AreLined m f g xs groups
lined_items law m numbered f g before [] groups h few = h
lined_items law m numbered f g before (item.Kept text ∷ xs) groups (inl h) few =
    let both = length-append (gap before false ++ ended text) (items_text m (Some false) xs) in
    inl (h.0, lined_items law m numbered f g (Some false) xs groups h.1 (omega arith))
lined_items law m numbered f g before (item.Kept text ∷ xs) groups (inr h) few =
    let both = length-append (gap before false ++ ended text) (items_text m (Some false) xs) in
    inr (h.0, h.1, h.2, h.3, lined_items law m numbered f g (Some false) xs h.1 h.4 (omega arith))
lined_items law m numbered f g before (item.Global number text ∷ xs) groups h few =
    let both = length-append (gap before false ++ ended text) (items_text m (Some false) xs) in
    (h.0, h.1, lined_items law m numbered f (suc g) (Some false) xs groups h.2 (omega arith))
lined_items law m numbered f g before (item.Declared number text ∷ xs) groups h few =
    let both = length-append (gap before false ++ ended text) (items_text m (Some false) xs) in
    (h.0, h.1, lined_items law m numbered (suc f) g (Some false) xs groups h.2 (omega arith))
lined_items law m numbered f g before (item.Defined number ∷ xs) groups h few =
    let text = body_text m.names (body_of m number.0) in
    let func = h.1.func in
    let a = h.1.accepted in
    let there : body_of m number.0 ≡ Some func = ap (λ n. body_of m n) h.0 ∙ ap body_in h.1.body_is in
    let long : length text ≡ length (func_text m.names func no_notes) = ap (λ b. length (body_text m.names b)) there in
    let size = func_long m.names func in
    let one = length-append (gap before true) text in
    let both = length-append (gap before true ++ text) (items_text m (Some true) xs) in (
      h.0,
      record {
        func = func;
        body_is = h.1.body_is;
        lined = lined law m func (numbered f func h.1.body_is) a (are_given func (omega arith) a.words a.apart);
        head_of = h.1.head_of;
      },
      lined_items law m numbered (suc f) g (Some true) xs groups h.2 (omega arith),
    )

-- ---- loops

no_loops : PartIsReducible → (m : ModuleState) (h : AreLined m 0 0 m.items m.groups) → HasNone (IsIrreducible (module_by m h))
no_loops part m h k fault =
    let all = all_items m h in
    let own = built (effects_in m.groups) keeps_in no_room all in
    let on = flat_in body_there (module_by m h).bodies (Some fault.f) fault.f (k, fault.body) (in_here fault.f []) in
    let from = get_map own (funcs_of all) on.0 fault.f (ap (λ (xs : List FuncState). slice_get xs on.0) (sym (bodies_built (effects_in m.groups) keeps_in no_room all)) ∙ on.1) in
    let r = of_body m h from.0 fault.f (record { place = on.0; lines_are = from.1; body_is = on.1 }) in
    let sound = in_order part r.func r.lined.numbered r.lined.accepted.sound in
    fault.irreducible (subst (λ (runs : List Run). IsReducible runs) (sym (graph_alike fault.f (ordered r.func) r.alike)) sound.reducible)

-- ---- the printed lines

declare_kept : (head : Head) → kept_of (said.Declare (bare head)) ≡ said.Declare (bare head)
declare_kept head = ap (λ ps. said.Declare (record head { params = ps })) (twice head.params)
  where
    twice : (ps : List Param) → map without_name (map without_name ps) ≡ map without_name ps
    twice [] = refl
    twice (p ∷ ps) = ap (λ (qs : List Param). without_name p ∷ qs) (twice ps)

-- said by its printed form, and kept whole
record IsRow (l : Line) : Type 0 where
  pub said : IsPrinted l
  pub kept : kept_of l ≡ l

empty_row : IsRow said.Empty
empty_row = record { said = empty_fine.whole; kept = refl }

row_insts : (xs : List InstLine) → Each (λ (l : InstLine). IsPrinted (said.Inst l.name l.inst)) xs → Each (λ (l : InstLine). IsRow (said.Inst l.name l.inst)) xs
row_insts [] h = tt
row_insts (x ∷ xs) h = (record { said = h.0; kept = refl }, row_insts xs h.1)

row_labels : (l : Option LabelLine) → Each (IsEntryBy IsPrinted) (label_lines l) → Each (IsEntryBy IsRow) (label_lines l)
row_labels None h = tt
row_labels (Some l) h = (record { said = h.0; kept = refl }, tt)

row_blocks : (bs : List BlockLines) → Each (IsBlockBy IsPrinted) bs → Each (IsBlockBy IsRow) bs
row_blocks [] h = tt
row_blocks (b ∷ bs) h = (record { labels = row_labels b.label h.0.labels; insts = row_insts b.insts h.0.insts; term = record { said = h.0.term; kept = refl } }, row_blocks bs h.1)

row_func : (f : FuncLines) → IsFuncBy IsPrinted f → IsFuncBy IsRow f
row_func f h = record { define = record { said = h.define; kept = refl }; blocks = row_blocks f.blocks h.blocks; close = record { said = h.close; kept = refl } }

gap_rows : (before : Option Bool) (after : Bool) → Each IsRow (gap_said before after)
gap_rows None after = tt
gap_rows (Some true) after = (empty_row, tt)
gap_rows (Some false) true = (empty_row, tt)
gap_rows (Some false) false = tt

row_said : (w : Line) → IsSaidLine w → kept_of (kept_of w) ≡ kept_of w → IsRow (kept_of w)
row_said w h e = record { said = kept_printed h.0 w h.1; kept = e }

item_rows : (before : Option Bool) (l : Line) (rest : List Line) → IsRow l → Each IsRow rest → Each IsRow (gap_said before false ++ l ∷ rest)
item_rows before l rest row h = each_join IsRow (gap_said before false) (l ∷ rest) (gap_rows before false) (row, h)

lines_rows : (m : ModuleState) (f g : ℕ) (before : Option Bool) (xs : List Item) (groups : List (ℕ × List ℕ)) (k : AreLined m f g xs groups) → Each IsRow (items_said before (items_of m f g xs groups k))
lines_rows m f g before [] groups k = tt
lines_rows m f g before (item.Kept text ∷ xs) groups (inl k) = item_rows before _ _ (row_said (said.Kept text) k.0 refl) (lines_rows m f g (Some false) xs groups k.1)
lines_rows m f g before (item.Kept text ∷ xs) groups (inr k) = item_rows before _ _ (row_said (said.Group k.0 text) k.2 refl) (lines_rows m f g (Some false) xs k.1 k.4)
lines_rows m f g before (item.Global number text ∷ xs) groups k = item_rows before _ _ (row_said (said.GlobalVar k.1.name text) k.1.says refl) (lines_rows m f (suc g) (Some false) xs groups k.2)
lines_rows m f g before (item.Declared number text ∷ xs) groups k =
    item_rows before _ _ (row_said (said.Declare k.1.head) k.1.says (declare_kept k.1.head)) (lines_rows m (suc f) g (Some false) xs groups k.2)
lines_rows m f g before (item.Defined number ∷ xs) groups k =
    let F = func_lines m k.1.func k.1.lined in
    let rest = items_said (Some true) (items_of m (suc f) g xs groups k.2) in
    let own = subst (λ (ls : List Line). Each IsRow ls) (sym (own_is m k.1.func k.1.lined)) (each_own IsRow empty_row F (row_func F (func_said m k.1.func k.1.lined))) in
    each_join IsRow (gap_said before true) (said_of F ++ rest) (gap_rows before true) (each_join IsRow (said_of F) rest own (lines_rows m (suc f) g (Some true) xs groups k.2))

rows_printed : (ls : List Line) → Each IsRow ls → Each IsPrinted ls
rows_printed [] h = tt
rows_printed (l ∷ ls) h = (h.0.said, rows_printed ls h.1)

rows_say : (ls : List Line) → Each IsRow ls → AreSaid (map printed ls) ls
rows_say [] h = tt
rows_say (l ∷ ls) h = (h.0.said.says, rows_say ls h.1)

-- ---- where they stand

gap_walk : (before : Option Bool) (after : Bool) (ls : List Line) → Walk Outside (map sort_of ls) Outside → Walk Outside (map sort_of (gap_said before after ++ ls)) Outside
gap_walk None after ls h = h
gap_walk (Some true) after ls h = (Outside, refl, h)
gap_walk (Some false) true ls h = (Outside, refl, h)
gap_walk (Some false) false ls h = h

some_blocks : (m : ModuleState) (f : FuncState) → Lined m f → 0 < length f.blocks
some_blocks m f w = subst (λ n. 0 < n) (size f.blocks) w.accepted.sound.closed.has_entry
  where
    size : (bs : List Block) → length (graph_of bs) ≡ length bs
    size [] = refl
    size (x ∷ bs) = ap suc (size bs)

lines_walk : (m : ModuleState) (f g : ℕ) (before : Option Bool) (xs : List Item) (groups : List (ℕ × List ℕ)) (k : AreLined m f g xs groups) → Walk Outside (map sort_of (items_said before (items_of m f g xs groups k))) Outside
lines_walk m f g before [] groups k = refl
lines_walk m f g before (item.Kept text ∷ xs) groups (inl k) = gap_walk before false _ (Outside, refl, lines_walk m f g (Some false) xs groups k.1)
lines_walk m f g before (item.Kept text ∷ xs) groups (inr k) = gap_walk before false _ (Outside, refl, lines_walk m f g (Some false) xs k.1 k.4)
lines_walk m f g before (item.Global number text ∷ xs) groups k = gap_walk before false _ (Outside, refl, lines_walk m f (suc g) (Some false) xs groups k.2)
lines_walk m f g before (item.Declared number text ∷ xs) groups k = gap_walk before false _ (Outside, refl, lines_walk m (suc f) g (Some false) xs groups k.2)
lines_walk m f g before (item.Defined number ∷ xs) groups k =
    let F = func_lines m k.1.func k.1.lined in
    let rest = items_said (Some true) (items_of m (suc f) g xs groups k.2) in
    let own = subst (λ (ls : List Line). Walk Outside (map sort_of ls) Outside) (sym (own_is m k.1.func k.1.lined)) (func_walk m k.1.func k.1.lined (some_blocks m k.1.func k.1.lined)) in
    gap_walk before true (said_of F ++ rest)
    (subst (λ (ss : List Sort). Walk Outside ss Outside) (sym (map-append sort_of (said_of F) rest)) (walk_join Outside Outside Outside (map sort_of (said_of F)) (map sort_of rest) own (lines_walk m (suc f) g (Some true) xs groups k.2)))

-- ---- without empty lines they are those of the items

abbrev tight : List Line → List Line
tight [] = []
tight (said.Empty ∷ ls) = tight ls
tight (l ∷ ls) = l ∷ tight ls

abbrev line_at : ℕ × Line → Line
line_at e = e.1

tight_append : (xs ys : List Line) → tight (xs ++ ys) ≡ tight xs ++ tight ys
tight_append [] ys = refl
tight_append (said.Empty ∷ xs) ys = tight_append xs ys
tight_append (said.Close ∷ xs) ys = ap (λ (ls : List Line). said.Close ∷ ls) (tight_append xs ys)
tight_append (said.Kept t ∷ xs) ys = ap (λ (ls : List Line). said.Kept t ∷ ls) (tight_append xs ys)
tight_append (said.Group n t ∷ xs) ys = ap (λ (ls : List Line). said.Group n t ∷ ls) (tight_append xs ys)
tight_append (said.GlobalVar n t ∷ xs) ys = ap (λ (ls : List Line). said.GlobalVar n t ∷ ls) (tight_append xs ys)
tight_append (said.Label n ∷ xs) ys = ap (λ (ls : List Line). said.Label n ∷ ls) (tight_append xs ys)
tight_append (said.Declare h ∷ xs) ys = ap (λ (ls : List Line). said.Declare h ∷ ls) (tight_append xs ys)
tight_append (said.Define h ∷ xs) ys = ap (λ (ls : List Line). said.Define h ∷ ls) (tight_append xs ys)
tight_append (said.Inst n i ∷ xs) ys = ap (λ (ls : List Line). said.Inst n i ∷ ls) (tight_append xs ys)
tight_append (said.Term t ∷ xs) ys = ap (λ (ls : List Line). said.Term t ∷ ls) (tight_append xs ys)

tight_label : (first : Bool) (l : Option LabelLine) → tight (own_label first l) ≡ map line_at (label_lines l)
tight_label first None = refl
tight_label true (Some l) = refl
tight_label false (Some l) = refl

tight_insts : (xs : List InstLine) → tight (map own_inst xs) ≡ map line_at (map inst_line xs)
tight_insts [] = refl
tight_insts (x ∷ xs) = ap (λ (ls : List Line). own_inst x ∷ ls) (tight_insts xs)

tight_block : (first : Bool) (b : BlockLines) → tight (own_block first b) ≡ map line_at (block_lines b)
tight_block first b =
    let end : List Line = said.Term b.end.term ∷ [] in
    let last : List (ℕ × Line) = (b.end.line, said.Term b.end.term) ∷ [] in
    tight_append (own_label first b.label ++ map own_inst b.insts) end
    ∙ ap (λ (ls : List Line). ls ++ end) (tight_append (own_label first b.label) (map own_inst b.insts))
    ∙ ap (λ (ls : List Line). (ls ++ tight (map own_inst b.insts)) ++ end) (tight_label first b.label)
    ∙ ap (λ (ls : List Line). (map line_at (label_lines b.label) ++ ls) ++ end) (tight_insts b.insts)
    ∙ ap (λ (ls : List Line). ls ++ end) (sym (map-append line_at (label_lines b.label) (map inst_line b.insts)))
    ∙ sym (map-append line_at (label_lines b.label ++ map inst_line b.insts) last)

tight_blocks : (first : Bool) (bs : List BlockLines) → tight (own_blocks first bs) ≡ map line_at (flat_map block_lines bs)
tight_blocks first [] = refl
tight_blocks first (b ∷ bs) =
    tight_append (own_block first b) (own_blocks false bs) ∙ ap (λ (ls : List Line). ls ++ tight (own_blocks false bs)) (tight_block first b)
    ∙ ap (λ (ls : List Line). map line_at (block_lines b) ++ ls) (tight_blocks false bs) ∙ sym (map-append line_at (block_lines b) (flat_map block_lines bs))

tight_func : (f : FuncLines) → tight (own_func f) ≡ map line_at (lines_in f)
tight_func f =
    let close : List (ℕ × Line) = (f.close, said.Close) ∷ [] in
    ap (λ (ls : List Line). said.Define f.head ∷ ls)
    (tight_append (own_blocks true f.blocks) (said.Close ∷ []) ∙ ap (λ (ls : List Line). ls ++ said.Close ∷ []) (tight_blocks true f.blocks) ∙ sym (map-append line_at (flat_map block_lines f.blocks) close))

tight_gap : (before : Option Bool) (after : Bool) (ls : List Line) → tight (gap_said before after ++ ls) ≡ tight ls
tight_gap None after ls = refl
tight_gap (Some true) after ls = refl
tight_gap (Some false) true ls = refl
tight_gap (Some false) false ls = refl

lines_tight : (m : ModuleState) (f g : ℕ) (before : Option Bool) (xs : List Item) (groups : List (ℕ × List ℕ)) (k : AreLined m f g xs groups) →
    tight (items_said before (items_of m f g xs groups k)) ≡ map line_at (flat_map item_lines (items_of m f g xs groups k))
lines_tight m f g before [] groups k = refl
lines_tight m f g before (item.Kept text ∷ xs) groups (inl k) = tight_gap before false _ ∙ ap (λ (ls : List Line). said.Kept text ∷ ls) (lines_tight m f g (Some false) xs groups k.1)
lines_tight m f g before (item.Kept text ∷ xs) groups (inr k) = tight_gap before false _ ∙ ap (λ (ls : List Line). said.Group k.0 text ∷ ls) (lines_tight m f g (Some false) xs k.1 k.4)
lines_tight m f g before (item.Global number text ∷ xs) groups k = tight_gap before false _ ∙ ap (λ (ls : List Line). said.GlobalVar k.1.name text ∷ ls) (lines_tight m f (suc g) (Some false) xs groups k.2)
lines_tight m f g before (item.Declared number text ∷ xs) groups k = tight_gap before false _ ∙ ap (λ (ls : List Line). said.Declare (bare k.1.head) ∷ ls) (lines_tight m (suc f) g (Some false) xs groups k.2)
lines_tight m f g before (item.Defined number ∷ xs) groups k =
    let F = func_lines m k.1.func k.1.lined in
    let items = items_of m (suc f) g xs groups k.2 in
    let rest = items_said (Some true) items in
    tight_gap before true (said_of F ++ rest) ∙ tight_append (said_of F) rest
    ∙ ap (λ (ls : List Line). ls ++ tight rest) (ap tight (own_is m k.1.func k.1.lined) ∙ tight_func F)
    ∙ ap (λ (ls : List Line). map line_at (lines_in F) ++ ls) (lines_tight m (suc f) g (Some true) xs groups k.2)
    ∙ sym (map-append line_at (lines_in F) (flat_map item_lines items))

-- ---- what holds of printed lines holds of the items' lines

each_tight : (P : Line → Type 0) (ls : List Line) → Each P ls → Each P (tight ls)
each_tight P [] h = tt
each_tight P (said.Empty ∷ ls) h = each_tight P ls h.1
each_tight P (said.Close ∷ ls) h = (h.0, each_tight P ls h.1)
each_tight P (said.Kept t ∷ ls) h = (h.0, each_tight P ls h.1)
each_tight P (said.Group n t ∷ ls) h = (h.0, each_tight P ls h.1)
each_tight P (said.GlobalVar n t ∷ ls) h = (h.0, each_tight P ls h.1)
each_tight P (said.Label n ∷ ls) h = (h.0, each_tight P ls h.1)
each_tight P (said.Declare d ∷ ls) h = (h.0, each_tight P ls h.1)
each_tight P (said.Define d ∷ ls) h = (h.0, each_tight P ls h.1)
each_tight P (said.Inst n i ∷ ls) h = (h.0, each_tight P ls h.1)
each_tight P (said.Term t ∷ ls) h = (h.0, each_tight P ls h.1)

start_some : (s : Sort) → IsStart s → is_blank s ≡ false
start_some sort.Phi h = refl
start_some sort.Alloca h = refl
start_some sort.Other h = refl
start_some sort.Term h = refl
start_some sort.Blank h = absurd h
start_some sort.Item h = absurd h
start_some sort.Define h = absurd h
start_some sort.Close h = absurd h
start_some sort.Label h = absurd h

abbrev IsSome : Line → Type 0
IsSome l = is_blank (sort_of l) ≡ false

tight_some : (ls : List Line) → Each IsSome (tight ls)
tight_some [] = tt
tight_some (said.Empty ∷ ls) = tight_some ls
tight_some (said.Close ∷ ls) = (refl, tight_some ls)
tight_some (said.Kept t ∷ ls) = (refl, tight_some ls)
tight_some (said.Group n t ∷ ls) = (refl, tight_some ls)
tight_some (said.GlobalVar n t ∷ ls) = (refl, tight_some ls)
tight_some (said.Label n ∷ ls) = (refl, tight_some ls)
tight_some (said.Declare d ∷ ls) = (refl, tight_some ls)
tight_some (said.Define d ∷ ls) = (refl, tight_some ls)
tight_some (said.Inst n i ∷ ls) = (start_some (sort_of (said.Inst n i)) (inst_starts i), tight_some ls)
tight_some (said.Term t ∷ ls) = (refl, tight_some ls)

some_next : (a b : Progress) → Some a ≡ Some b → a ≡ b
some_next a b e = cc

lead_tight : (at end : Progress) (ls : List Line) → Lead at (map sort_of ls) end → Lead at (map sort_of (tight ls)) end
lead_tight at end [] h = h
lead_tight at end (said.Empty ∷ ls) h =
    let same : at ≡ h.0 = some_next at h.0 (sym (blank_stays at) ∙ h.1) in
    subst (λ p. Lead p (map sort_of (tight ls)) end) (sym same) (lead_tight h.0 end ls h.3)
lead_tight at end (said.Close ∷ ls) h = (h.0, h.1, h.2, lead_tight h.0 end ls h.3)
lead_tight at end (said.Kept t ∷ ls) h = (h.0, h.1, h.2, lead_tight h.0 end ls h.3)
lead_tight at end (said.Group n t ∷ ls) h = (h.0, h.1, h.2, lead_tight h.0 end ls h.3)
lead_tight at end (said.GlobalVar n t ∷ ls) h = (h.0, h.1, h.2, lead_tight h.0 end ls h.3)
lead_tight at end (said.Label n ∷ ls) h = (h.0, h.1, h.2, lead_tight h.0 end ls h.3)
lead_tight at end (said.Declare d ∷ ls) h = (h.0, h.1, h.2, lead_tight h.0 end ls h.3)
lead_tight at end (said.Define d ∷ ls) h = (h.0, h.1, h.2, lead_tight h.0 end ls h.3)
lead_tight at end (said.Inst n i ∷ ls) h = (h.0, h.1, h.2, lead_tight h.0 end ls h.3)
lead_tight at end (said.Term t ∷ ls) h = (h.0, h.1, h.2, lead_tight h.0 end ls h.3)

each_said : (ls : List Line) → Each IsRow ls → Each IsWithinLimits ls → Each IsSome ls → Each IsSaid ls
each_said [] rows within some = tt
each_said (l ∷ ls) rows within some = (
  record { row = printed l; read = record { written = l; says = rows.0.said.says; within = within.0; kept = sym rows.0.kept }; some = some.0 },
  each_said ls rows.1 within.1 some.1,
)

entries_said : (d : List (ℕ × Line)) → Each IsSaid (map line_at d) → Each (λ (e : ℕ × Line). IsSaid e.1) d
entries_said [] h = tt
entries_said (e ∷ d) h = (h.0, entries_said d h.1)

entries_sorts : (d : List (ℕ × Line)) → map sort_of (map line_at d) ≡ sorts_of d
entries_sorts [] = refl
entries_sorts (e ∷ d) = ap (λ (ss : List Sort). sort_of e.1 ∷ ss) (entries_sorts d)

-- ---- the items

each_item : (m : ModuleState) (f g : ℕ) (xs : List Item) (groups : List (ℕ × List ℕ)) (k : AreLined m f g xs groups) → Each IsItem (items_of m f g xs groups k)
each_item m f g [] groups k = tt
each_item m f g (item.Kept text ∷ xs) groups (inl k) = (refl, each_item m f g xs groups k.1)
each_item m f g (item.Kept text ∷ xs) groups (inr k) = (refl, each_item m f g xs k.1 k.4)
each_item m f g (item.Global number text ∷ xs) groups k = (refl, each_item m f (suc g) xs groups k.2)
each_item m f g (item.Declared number text ∷ xs) groups k = (refl, each_item m (suc f) g xs groups k.2)
each_item m f g (item.Defined number ∷ xs) groups k =
    let func = k.1.func in
    (has_blocks m (target_of func) (free_after_params 0 func.params) func.blocks k.1.lined.blocks (some_blocks m func k.1.lined), each_item m (suc f) g xs groups k.2)

each_printed : (m : ModuleState) (f g : ℕ) (xs : List Item) (groups : List (ℕ × List ℕ)) (k : AreLined m f g xs groups) → Each (IsItemBy IsPrinted) (items_of m f g xs groups k)
each_printed m f g [] groups k = tt
each_printed m f g (item.Kept text ∷ xs) groups (inl k) = (tt, each_printed m f g xs groups k.1)
each_printed m f g (item.Kept text ∷ xs) groups (inr k) = (tt, each_printed m f g xs k.1 k.4)
each_printed m f g (item.Global number text ∷ xs) groups k = (tt, each_printed m f (suc g) xs groups k.2)
each_printed m f g (item.Declared number text ∷ xs) groups k = (tt, each_printed m (suc f) g xs groups k.2)
each_printed m f g (item.Defined number ∷ xs) groups k = (func_said m k.1.func k.1.lined, each_printed m (suc f) g xs groups k.2)

abbrev accepted_by : PartIsReducible → (m : ModuleState) (a : IsAcceptedModule m) (h : AreLined m 0 0 m.items m.groups) → IsAccepted (flat_map item_lines (all_items m h)) (module_by m h)
accepted_by part m a h =
    let all = all_items m h in
    let groups : groups_of all ≡ m.groups = groups_are m 0 0 m.items m.groups h in
    record {
      items = all;
      named = record {
        shape = record { lines = refl; each = each_item m 0 0 m.items m.groups h };
        sound = no_name_faults m h a.distinct;
        whole = record {
          meaning = record {
            effects = effects_in m.groups;
            keeps = keeps_in;
            effects_are = λ post. subst (λ gs. IsEffectsOf post gs (effects_in m.groups post)) (sym groups) (some_effects post m.groups).1;
            keeps_are = λ attrs. (some_keeps attrs).1;
          };
          spare = no_room;
          module_is = refl;
        };
      };
      types = no_type_faults m h a.distinct;
      edges = no_edge_faults part m h;
      order = no_order_faults part m h;
      reducible = no_loops part m h;
    }

pub read_again : SaidWithNumbers → PartIsReducible → (m : ModuleState) → IsAcceptedModule m → ((n : ℕ) (f : FuncState) → slice_get m.bodies n ≡ Some (Some f) → IsNumbered f) → length (module_text m) < 10 ^ 9 →
    ((n : ℕ) → IsModuleCause (module_text m) (Limit n) → ⊥) → IsReadInOrder m
read_again law part m a numbered short none =
    let h = lined_items law m numbered 0 0 None m.items m.groups a.items short in
    let all = all_items m h in
    let n = module_by m h in
    let lines = items_said None all in
    let one = same_in_order m h in
    let same : module_text m ≡ module_text n = same_text m n one in
    let sound : IsSound (effects_in m.groups) keeps_in no_room all = record { names = no_name_faults m h a.distinct; types = no_type_faults m h a.distinct } in
    let text : module_text m ≡ rows_text lines = same ∙ text_printed (effects_in m.groups) keeps_in no_room all sound (each_item m 0 0 m.items m.groups h) (each_printed m 0 0 m.items m.groups h) in
    let rows = lines_rows m 0 0 None m.items m.groups h in
    let rows_are_so : rows_of (module_text m) ≡ map printed lines = ap rows_of text ∙ rows_are lines (rows_printed lines rows) in
    let all_say : AreSaid (rows_of (module_text m)) lines = subst (λ (rs : List (List ℕ)). AreSaid rs lines) (sym rows_are_so) (rows_say lines rows) in
    let within = are_within (module_text m) lines Outside none all_say (lines_walk m 0 0 None m.items m.groups h) in
    let entries = flat_map item_lines all in
    let bare_lines : tight lines ≡ map line_at entries = lines_tight m 0 0 None m.items m.groups h in
    let each : Each IsSaid (map line_at entries) =
    subst (λ (ls : List Line). Each IsSaid ls) bare_lines (each_said (tight lines) (each_tight IsRow lines rows) (each_tight IsWithinLimits lines within.within) (tight_some lines)) in
    let lead : Lead outset (sorts_of entries) within.progress =
    subst (λ (ss : List Sort). Lead outset ss within.progress) (ap (map sort_of) bare_lines ∙ entries_sorts entries) (lead_tight outset within.progress lines within.lead) in
    let basis : IsBasis all = record {
      each = each_item m 0 0 m.items m.groups h;
      said_all = each_flat (λ (e : ℕ × Line). IsSaid e.1) item_lines all (entries_said entries each);
      placed = record { end = within.progress; lead = lead; outside = ap is_outside within.place_is };
    } in
    read_in_order m n one (items_again_read entries n (accepted_by part m a h) basis (subst (λ (t : List ℕ). length t < 10 ^ 9) same short))
