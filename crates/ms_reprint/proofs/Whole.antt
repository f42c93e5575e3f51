-- The module of an accepted module's printed lines is the same in order, and has no fault.
use Rattle.std.proofs.Common.{◌≡◌, ◌≤◌, ◌<◌, ◌+◌, ◌⊎◌, ℕ, zero, suc, List, [], ◌∷◌, ◌++◌, drop, Option, Some, None, option_map, length, map, refl, sym, ap, subst, ◌∙◌, inl, inr, ⊎_elim, arith}
use Rattle.std.specs.Prelude.{slice_get}
use Rattle.std.specs.List.{flat_map}
use Rattle.std.proofs.lemmas.Option.{slice_get_within}
use Rattle.ms_ir.specs.declared.names.Name.{Name}
use Rattle.ms_ir.specs.declared.module.Item.{Item}
use Rattle.ms_ir.specs.declared.module.Item.TheVariants as item
use Rattle.ms_ir.specs.declared.module.Sig.{Sig}
use Rattle.ms_ir.specs.Func.{Placed, Block, FuncState}
use Rattle.ms_ir.specs.Module.{ModuleState}
use Rattle.ms_ir.specs.Symbols.{NamesState, AreDistinct}
use Rattle.ms_grammar.specs.declared.line.Line.{Line}
use Rattle.ms_resolve.specs.Meaning.{effects_in, keeps_in}
use Rattle.ms_resolve.specs.Shape.{FuncLines, ItemLines, plain, body}
use Rattle.ms_resolve.specs.Made.{blocks_of}
use Rattle.ms_resolve.specs.Scope.{Scope}
use Rattle.ms_resolve.specs.Module.{func_names_in, global_names_in, names_of, sigs_in, items_from, bodies_in, scope_of, funcs_of, module_of}
use Rattle.ms_resolve.specs.Faults.{IsIn, symbols_of, name_of_symbol, HasFaultIn, HasNameFault}
use Rattle.ms_resolve.specs.Faults as named
use Rattle.ms_resolve.specs.Cause.{NoNameFault}
use Rattle.ms_validity.specs.Cause.{HasNone}
use Rattle.ms_validity.specs.Faults.{IsBody, HasTypeFaultIn, HasEdgeFaultIn, HasOrderFaultIn, HasTypeFault, HasEdgeFault, HasOrderFault}
use Rattle.ms_validity.proofs.ListLemmas.{in_nil, get_left, get_right, map_get, in_there, in_cons}
use Rattle.ms_again.specs.Same.{own_name, plain_inst, plain_block, plain_func}
use Rattle.ms_again.specs.Ordered.{term_by, ordered_val, ordered_inst, ordered, ordered_insts, ordered_blocks, IsSameInOrder}
use Rattle.ms_again.proofs.Carried.{AreAlike}
use Rattle.ms_again.proofs.Ordered.{own_twice, params_twice}
use Rattle.ms_again.proofs.Plain.{plain_of, func_plain}
use Rattle.ms_again.proofs.Sites.{built, bodies_built, func_in}
use Rattle.ms_edited.proofs.Shape.{PartIsReducible}
use Rattle.ms_reprint.proofs.Lines.{locals_are, blocks_are}
use Rattle.ms_reprint.proofs.Names.{target_of}
use Rattle.ms_reprint.proofs.Built.{scope_in, func_placed}
use Rattle.ms_reprint.proofs.Faults.{Lined, func_lines, AreKnown, no_name_fault}
use Rattle.ms_reprint.proofs.Valid.{AreOthers, no_type_fault, no_edge_fault, no_order_fault}
use Rattle.ms_reprint.proofs.Sound.{in_order}
use Rattle.ms_reprint.proofs.Items.{AreLined, items_of, drop_next, drop_none, funcs_are, globals_are, groups_are, items_are, sigs_are}
use Rattle.ms_reprint.proofs.Twice.{ordered_alike}

-- ---- a function in order has no written numbers

plain_insts : (f : FuncState) (n : ℕ) (xs : List Placed) → map plain_inst (ordered_insts f n xs) ≡ ordered_insts f n xs
plain_insts f n [] = refl
plain_insts f n (x ∷ xs) =
    ap (λ m. let y : Placed = record (ordered_inst f n x) { name = m } in y ∷ map plain_inst (ordered_insts f (suc n) xs)) (own_twice x.name)
    ∙ ap (λ (ys : List Placed). ordered_inst f n x ∷ ys) (plain_insts f (suc n) xs)

plain_blocks : (f : FuncState) (n : ℕ) (bs : List Block) → map plain_block (ordered_blocks f n bs) ≡ ordered_blocks f n bs
plain_blocks f n [] = refl
plain_blocks f n (b ∷ bs) =
    let t = term_by (ordered_val f) b.term in
    let rest = map plain_block (ordered_blocks f (n + length b.insts) bs) in
    ap (λ m. let c : Block = record { name = m; insts = map plain_inst (ordered_insts f n b.insts); term = t } in c ∷ rest) (own_twice b.name)
    ∙ ap (λ xs. let c : Block = record { name = own_name b.name; insts = xs; term = t } in c ∷ rest) (plain_insts f n b.insts)
    ∙ ap (λ (cs : List Block). let c : Block = record { name = own_name b.name; insts = ordered_insts f n b.insts; term = t } in c ∷ cs) (plain_blocks f (n + length b.insts) bs)

plain_ordered : (f : FuncState) → plain_func (ordered f) ≡ ordered f
plain_ordered f =
    ap (λ ps. let g : FuncState = record (ordered f) { params = ps; blocks = map plain_block (ordered_blocks f 0 f.blocks) } in g) (params_twice f.params)
    ∙ ap (λ bs. let g : FuncState = record (ordered f) { blocks = bs } in g) (plain_blocks f 0 f.blocks)

-- ---- the module of the lines

abbrev pub all_items : (m : ModuleState) → AreLined m 0 0 m.items m.groups → List ItemLines
all_items m h = items_of m 0 0 m.items m.groups h

abbrev pub no_room : List ℕ → ℕ
no_room w = 0

abbrev pub module_by : (m : ModuleState) → AreLined m 0 0 m.items m.groups → ModuleState
module_by m h = module_of (effects_in m.groups) keeps_in no_room (all_items m h)

names_same : (m : ModuleState) (h : AreLined m 0 0 m.items m.groups) → names_of (all_items m h) ≡ m.names
names_same m h =
    ap (λ ns. let s : NamesState = record { funcs = ns; globals = flat_map global_names_in (all_items m h) } in s) (funcs_are m 0 0 m.items m.groups h)
    ∙ ap (λ ns. let s : NamesState = record { funcs = m.names.funcs; globals = ns } in s) (globals_are m 0 0 m.items m.groups h)

sigs_same : (m : ModuleState) (h : AreLined m 0 0 m.items m.groups) → flat_map (sigs_in (effects_in m.groups) keeps_in) (all_items m h) ≡ m.sigs
sigs_same m h = sigs_are m 0 0 m.items m.groups h

scope_same : (m : ModuleState) (h : AreLined m 0 0 m.items m.groups) (f : FuncState) (w : Lined m f) → scope_of (effects_in m.groups) keeps_in (all_items m h) (func_lines m f w) ≡ scope_in m (target_of f)
scope_same m h f w =
    let t = target_of f in
    let head = w.accepted.all_said.head in
    let F = func_lines m f w in
    let S : List Name → List Name → List (List ℕ) → List (List ℕ) → List Sig → Scope = λ ls bs fs gs ss. record { locals = ls; blocks = bs; funcs = fs; globals = gs; sigs = ss; effects = effects_in m.groups; keeps = keeps_in } in
    let fs = flat_map func_names_in (all_items m h) in
    let gs = flat_map global_names_in (all_items m h) in
    let ss = flat_map (sigs_in (effects_in m.groups) keeps_in) (all_items m h) in
    ap (λ ls. S ls (blocks_of F) fs gs ss) (locals_are m t head f w.blocks w.given.few)
    ∙ ap (λ bs. S t.locals bs fs gs ss) (blocks_are m t head f w.blocks w.given.few)
    ∙ ap (λ ns. S t.locals t.blocks ns gs ss) (funcs_are m 0 0 m.items m.groups h)
    ∙ ap (λ ns. S t.locals t.blocks m.names.funcs ns ss) (globals_are m 0 0 m.items m.groups h)
    ∙ ap (λ xs. S t.locals t.blocks m.names.funcs m.names.globals xs) (sigs_same m h)

pub alike : (m : ModuleState) (h : AreLined m 0 0 m.items m.groups) (f : FuncState) (w : Lined m f) → AreAlike (built (effects_in m.groups) keeps_in no_room (all_items m h) (func_lines m f w)) (ordered f)
alike m h f w =
    let F = func_lines m f w in
    let s = scope_of (effects_in m.groups) keeps_in (all_items m h) F in
    let head = w.accepted.all_said.said_head in
    func_plain s 0 F refl refl ∙ ap (λ (x : Scope). plain_of x F) (scope_same m h f w)
    ∙ func_placed m f w.given w.numbered w.accepted.all_said.head head.name head.attrs head.ret head.post w.blocks w.facts ∙ sym (plain_ordered f)

bodies_same : (m : ModuleState) (h : AreLined m 0 0 m.items m.groups) (f g : ℕ) (xs : List Item) (groups : List (ℕ × List ℕ)) (k : AreLined m f g xs groups) →
    map (option_map ordered) (flat_map (bodies_in (scope_of (effects_in m.groups) keeps_in (all_items m h)) no_room) (items_of m f g xs groups k)) ≡ map (option_map ordered) (drop f m.bodies)
bodies_same m h f g [] groups k = ap (map (option_map ordered)) (sym (drop_none m.bodies f k.bodies))
bodies_same m h f g (item.Kept text ∷ xs) groups (inl k) = bodies_same m h f g xs groups k.1
bodies_same m h f g (item.Kept text ∷ xs) groups (inr k) = bodies_same m h f g xs k.1 k.4
bodies_same m h f g (item.Global number text ∷ xs) groups k = bodies_same m h f (suc g) xs groups k.2
bodies_same m h f g (item.Declared number text ∷ xs) groups k =
    ap (λ (bs : List (Option FuncState)). None ∷ bs) (bodies_same m h (suc f) g xs groups k.2) ∙ ap (map (option_map ordered)) (sym (drop_next m.bodies f None k.1.body_is))
bodies_same m h f g (item.Defined number ∷ xs) groups k =
    let func = k.1.func in
    let F = func_lines m func k.1.lined in
    let new = built (effects_in m.groups) keeps_in no_room (all_items m h) F in
    let rest = map (option_map ordered) (flat_map (bodies_in (scope_of (effects_in m.groups) keeps_in (all_items m h)) no_room) (items_of m (suc f) g xs groups k.2)) in
    ap (λ (o : FuncState). Some o ∷ rest) (ordered_alike new func (alike m h func k.1.lined))
    ∙ ap (λ (bs : List (Option FuncState)). Some (ordered func) ∷ bs) (bodies_same m h (suc f) g xs groups k.2)
    ∙ ap (map (option_map ordered)) (sym (drop_next m.bodies f (Some func) k.1.body_is))

pub same_in_order : (m : ModuleState) (h : AreLined m 0 0 m.items m.groups) → IsSameInOrder m (module_by m h)
same_in_order m h =
    let M : List (ℕ × List ℕ) → List Item → List Sig → List (Option FuncState) → NamesState → ModuleState = λ gs is ss bs ns. record { groups = gs; items = is; sigs = ss; bodies = bs; names = ns } in
    let all = all_items m h in
    let is = items_from 0 0 all in
    let ss = flat_map (sigs_in (effects_in m.groups) keeps_in) all in
    let bs = map (option_map ordered) (flat_map (bodies_in (scope_of (effects_in m.groups) keeps_in all) no_room) all) in
    record {
      same = sym (ap (λ gs. M gs is ss bs (names_of all)) (groups_are m 0 0 m.items m.groups h)
          ∙ ap (λ xs. M m.groups xs ss bs (names_of all)) (items_are m 0 0 m.items m.groups h)
          ∙ ap (λ xs. M m.groups m.items xs bs (names_of all)) (sigs_same m h)
          ∙ ap (λ xs. M m.groups m.items m.sigs xs (names_of all)) (bodies_same m h 0 0 m.items m.groups h)
          ∙ ap (λ ns. M m.groups m.items m.sigs (map (option_map ordered) m.bodies) ns) (names_same m h));
    }

-- ---- functions among the items

pub record OfItem (m : ModuleState) (lines : FuncLines) : Type 0 where
  pub func : FuncState
  pub lined : Lined m func
  pub is : lines ≡ func_lines m func lined

same_body : (a b : FuncLines) → Some (body a) ≡ Some (body b) → a ≡ b
same_body a b e = cc

no_body : (l : Line) (b : FuncLines) → Some (plain 0 l) ≡ Some (body b) → ⊥
no_body l b e = cc

pub of_item : (m : ModuleState) (f g : ℕ) (xs : List Item) (groups : List (ℕ × List ℕ)) (k : AreLined m f g xs groups) (n : ℕ) (lines : FuncLines) → slice_get (items_of m f g xs groups k) n ≡ Some (body lines) → OfItem m lines
of_item m f g [] groups k n lines e = absurd (cc)
of_item m f g (item.Kept text ∷ xs) groups (inl k) zero lines e = absurd (no_body _ lines e)
of_item m f g (item.Kept text ∷ xs) groups (inl k) (suc n) lines e = of_item m f g xs groups k.1 n lines e
of_item m f g (item.Kept text ∷ xs) groups (inr k) zero lines e = absurd (no_body _ lines e)
of_item m f g (item.Kept text ∷ xs) groups (inr k) (suc n) lines e = of_item m f g xs k.1 k.4 n lines e
of_item m f g (item.Global number text ∷ xs) groups k zero lines e = absurd (no_body _ lines e)
of_item m f g (item.Global number text ∷ xs) groups k (suc n) lines e = of_item m f (suc g) xs groups k.2 n lines e
of_item m f g (item.Declared number text ∷ xs) groups k zero lines e = absurd (no_body _ lines e)
of_item m f g (item.Declared number text ∷ xs) groups k (suc n) lines e = of_item m (suc f) g xs groups k.2 n lines e
of_item m f g (item.Defined number ∷ xs) groups k zero lines e = record { func = k.1.func; lined = k.1.lined; is = sym (same_body (func_lines m k.1.func k.1.lined) lines e) }
of_item m f g (item.Defined number ∷ xs) groups k (suc n) lines e = of_item m (suc f) g xs groups k.2 n lines e

-- ---- names of functions and globals

abbrev symbol_names : List ItemLines → List (List ℕ)
symbol_names xs = map name_of_symbol (symbols_of xs)

in_symbols : (m : ModuleState) (f g : ℕ) (xs : List Item) (groups : List (ℕ × List ℕ)) (k : AreLined m f g xs groups) → (n : List ℕ) → IsIn (symbol_names (items_of m f g xs groups k)) n →
    ((j : ℕ) × (f ≤ j) × (slice_get m.names.funcs j ≡ Some n)) ⊎ ((j : ℕ) × (g ≤ j) × (slice_get m.names.globals j ≡ Some n))
in_symbols m f g [] groups k n on = absurd (in_nil n on)
in_symbols m f g (item.Kept text ∷ xs) groups (inl k) n on = in_symbols m f g xs groups k.1 n on
in_symbols m f g (item.Kept text ∷ xs) groups (inr k) n on = in_symbols m f g xs k.1 k.4 n on
in_symbols m f g (item.Global number text ∷ xs) groups k n on = ⊎_elim
    (λ (e : k.1.name ≡ n). inr (g, omega arith, k.1.name_is ∙ ap Some e))
    (λ (later : IsIn (symbol_names (items_of m f (suc g) xs groups k.2)) n). ⊎_elim (λ (r : (j : ℕ) × (f ≤ j) × (slice_get m.names.funcs j ≡ Some n)). inl r)
    (λ (r : (j : ℕ) × (suc g ≤ j) × (slice_get m.names.globals j ≡ Some n)). inr (r.0, (let l = r.1 in omega arith), r.2)) (in_symbols m f (suc g) xs groups k.2 n later))
    (in_cons k.1.name (symbol_names (items_of m f (suc g) xs groups k.2)) n on)
in_symbols m f g (item.Declared number text ∷ xs) groups k n on = ⊎_elim
    (λ (e : k.1.head.name ≡ n). inl (f, omega arith, k.1.head_of.name_is ∙ ap Some e))
    (λ (later : IsIn (symbol_names (items_of m (suc f) g xs groups k.2)) n). ⊎_elim (λ (r : (j : ℕ) × (suc f ≤ j) × (slice_get m.names.funcs j ≡ Some n)). inl (r.0, (let l = r.1 in omega arith), r.2))
    (λ (r : (j : ℕ) × (g ≤ j) × (slice_get m.names.globals j ≡ Some n)). inr r) (in_symbols m (suc f) g xs groups k.2 n later))
    (in_cons k.1.head.name (symbol_names (items_of m (suc f) g xs groups k.2)) n on)
in_symbols m f g (item.Defined number ∷ xs) groups k n on = ⊎_elim
    (λ (e : k.1.lined.accepted.all_said.head.name ≡ n). inl (f, omega arith, k.1.head_of.name_is ∙ ap Some e))
    (λ (later : IsIn (symbol_names (items_of m (suc f) g xs groups k.2)) n). ⊎_elim (λ (r : (j : ℕ) × (suc f ≤ j) × (slice_get m.names.funcs j ≡ Some n)). inl (r.0, (let l = r.1 in omega arith), r.2))
    (λ (r : (j : ℕ) × (g ≤ j) × (slice_get m.names.globals j ≡ Some n)). inr r) (in_symbols m (suc f) g xs groups k.2 n later))
    (in_cons k.1.lined.accepted.all_said.head.name (symbol_names (items_of m (suc f) g xs groups k.2)) n on)

abbrev AreNamesOnce : List (List ℕ) → Type 0
AreNamesOnce [] = Unit {0}
AreNamesOnce (n ∷ ns) = (IsIn ns n → ⊥) × AreNamesOnce ns

not_later : (m : ModuleState) → AreDistinct (m.names.funcs ++ m.names.globals) → (f g : ℕ) (n : List ℕ) → slice_get m.names.funcs f ≡ Some n →
    ((j : ℕ) × (suc f ≤ j) × (slice_get m.names.funcs j ≡ Some n)) ⊎ ((j : ℕ) × (g ≤ j) × (slice_get m.names.globals j ≡ Some n)) → ⊥
not_later m distinct f g n at (inl r) =
    let same : f ≡ r.0 = distinct f r.0 n (get_left m.names.funcs m.names.globals f n at) (get_left m.names.funcs m.names.globals r.0 n r.2) in let l = r.1 in omega arith
not_later m distinct f g n at (inr r) =
    let same : f ≡ length m.names.funcs + r.0 = distinct f (length m.names.funcs + r.0) n (get_left m.names.funcs m.names.globals f n at) (get_right m.names.funcs m.names.globals r.0 n r.2) in
    let less = slice_get_within m.names.funcs f n at in
    omega arith

not_global : (m : ModuleState) → AreDistinct (m.names.funcs ++ m.names.globals) → (f g : ℕ) (n : List ℕ) → slice_get m.names.globals g ≡ Some n →
    ((j : ℕ) × (f ≤ j) × (slice_get m.names.funcs j ≡ Some n)) ⊎ ((j : ℕ) × (suc g ≤ j) × (slice_get m.names.globals j ≡ Some n)) → ⊥
not_global m distinct f g n at (inl r) =
    let same : r.0 ≡ length m.names.funcs + g = distinct r.0 (length m.names.funcs + g) n (get_left m.names.funcs m.names.globals r.0 n r.2) (get_right m.names.funcs m.names.globals g n at) in
    let less = slice_get_within m.names.funcs r.0 n r.2 in
    omega arith
not_global m distinct f g n at (inr r) =
    let same : length m.names.funcs + g ≡ length m.names.funcs + r.0 = distinct (length m.names.funcs + g) (length m.names.funcs + r.0) n (get_right m.names.funcs m.names.globals g n at) (get_right m.names.funcs m.names.globals r.0 n r.2) in
    let l = r.1 in
    omega arith

symbols_once : (m : ModuleState) → AreDistinct (m.names.funcs ++ m.names.globals) → (f g : ℕ) (xs : List Item) (groups : List (ℕ × List ℕ)) (k : AreLined m f g xs groups) → AreNamesOnce (symbol_names (items_of m f g xs groups k))
symbols_once m distinct f g [] groups k = tt
symbols_once m distinct f g (item.Kept text ∷ xs) groups (inl k) = symbols_once m distinct f g xs groups k.1
symbols_once m distinct f g (item.Kept text ∷ xs) groups (inr k) = symbols_once m distinct f g xs k.1 k.4
symbols_once m distinct f g (item.Global number text ∷ xs) groups k =
    (λ on. not_global m distinct f g k.1.name k.1.name_is (in_symbols m f (suc g) xs groups k.2 k.1.name on), symbols_once m distinct f (suc g) xs groups k.2)
symbols_once m distinct f g (item.Declared number text ∷ xs) groups k =
    (λ on. not_later m distinct f g k.1.head.name k.1.head_of.name_is (in_symbols m (suc f) g xs groups k.2 k.1.head.name on), symbols_once m distinct (suc f) g xs groups k.2)
symbols_once m distinct f g (item.Defined number ∷ xs) groups k =
    let n = k.1.lined.accepted.all_said.head.name in
    (λ on. not_later m distinct f g n k.1.head_of.name_is (in_symbols m (suc f) g xs groups k.2 n on), symbols_once m distinct (suc f) g xs groups k.2)

names_once : (ns : List (List ℕ)) → AreNamesOnce ns → (i j : ℕ) (n : List ℕ) → i < j → slice_get ns i ≡ Some n → slice_get ns j ≡ Some n → ⊥
names_once [] h i j n less a b = cc
names_once (x ∷ ns) h i zero n less a b = omega arith
names_once (x ∷ ns) h zero (suc j) n less a b = let same : x ≡ n = cc in h.0 (j, b ∙ ap Some (sym same))
names_once (x ∷ ns) h (suc i) (suc j) n less a b = names_once ns h.1 i j n (omega arith) a b

func_known : (m : ModuleState) (f g : ℕ) (xs : List Item) (groups : List (ℕ × List ℕ)) (k : AreLined m f g xs groups) (n : List ℕ) → IsIn (flat_map func_names_in (items_of m f g xs groups k)) n → IsIn (symbol_names (items_of m f g xs groups k)) n
func_known m f g [] groups k n on = on
func_known m f g (item.Kept text ∷ xs) groups (inl k) n on = func_known m f g xs groups k.1 n on
func_known m f g (item.Kept text ∷ xs) groups (inr k) n on = func_known m f g xs k.1 k.4 n on
func_known m f g (item.Global number text ∷ xs) groups k n on = in_there k.1.name _ n (func_known m f (suc g) xs groups k.2 n on)
func_known m f g (item.Declared number text ∷ xs) groups k n (zero, e) = (zero, e)
func_known m f g (item.Declared number text ∷ xs) groups k n (suc j, e) = in_there k.1.head.name _ n (func_known m (suc f) g xs groups k.2 n (j, e))
func_known m f g (item.Defined number ∷ xs) groups k n (zero, e) = (zero, e)
func_known m f g (item.Defined number ∷ xs) groups k n (suc j, e) = in_there k.1.lined.accepted.all_said.head.name _ n (func_known m (suc f) g xs groups k.2 n (j, e))

global_known : (m : ModuleState) (f g : ℕ) (xs : List Item) (groups : List (ℕ × List ℕ)) (k : AreLined m f g xs groups) (n : List ℕ) → IsIn (flat_map global_names_in (items_of m f g xs groups k)) n → IsIn (symbol_names (items_of m f g xs groups k)) n
global_known m f g [] groups k n on = on
global_known m f g (item.Kept text ∷ xs) groups (inl k) n on = global_known m f g xs groups k.1 n on
global_known m f g (item.Kept text ∷ xs) groups (inr k) n on = global_known m f g xs k.1 k.4 n on
global_known m f g (item.Global number text ∷ xs) groups k n (zero, e) = (zero, e)
global_known m f g (item.Global number text ∷ xs) groups k n (suc j, e) = in_there k.1.name _ n (global_known m f (suc g) xs groups k.2 n (j, e))
global_known m f g (item.Declared number text ∷ xs) groups k n on = in_there k.1.head.name _ n (global_known m (suc f) g xs groups k.2 n on)
global_known m f g (item.Defined number ∷ xs) groups k n on = in_there k.1.lined.accepted.all_said.head.name _ n (global_known m (suc f) g xs groups k.2 n on)

is_in_same : {X : Type 0} (xs ys : List X) (x : X) → xs ≡ ys → IsIn xs x → IsIn ys x
is_in_same {X} xs ys x e h = let P : List X → Type 0 = λ l. IsIn l x in subst P e h

are_known : (m : ModuleState) (h : AreLined m 0 0 m.items m.groups) → AreKnown m (symbol_names (all_items m h))
are_known m h = (
  λ n on. global_known m 0 0 m.items m.groups h n (is_in_same m.names.globals (flat_map global_names_in (all_items m h)) n (sym (globals_are m 0 0 m.items m.groups h)) on),
  λ n on. func_known m 0 0 m.items m.groups h n (is_in_same m.names.funcs (flat_map func_names_in (all_items m h)) n (sym (funcs_are m 0 0 m.items m.groups h)) on),
)

pub no_name_faults : (m : ModuleState) (h : AreLined m 0 0 m.items m.groups) → AreDistinct (m.names.funcs ++ m.names.globals) → NoNameFault (all_items m h)
no_name_faults m h distinct n (named.HasNameFault.symbol again) =
    let symbols = symbols_of (all_items m h) in
    names_once (symbol_names (all_items m h)) (symbols_once m distinct 0 0 m.items m.groups h) again.first again.at again.one.name again.before
    (map_get name_of_symbol symbols again.first again.one again.first_is) (map_get name_of_symbol symbols again.at again.other again.at_is ∙ ap Some (sym again.same))
no_name_faults m h distinct n (named.HasNameFault.inside lines il fault) =
    let r = of_item m 0 0 m.items m.groups h il.0 lines il.1 in
    no_name_fault m r.func r.lined (symbol_names (all_items m h)) (are_known m h) n (subst (λ (l : FuncLines). HasFaultIn (symbol_names (all_items m h)) l n) r.is fault)

-- ---- types, edges, uses, loops

others : (m : ModuleState) → AreDistinct (m.names.funcs ++ m.names.globals) → AreOthers m
others m distinct n a b =
    let same : a.0 ≡ length m.names.funcs + b.0 = distinct a.0 (length m.names.funcs + b.0) n (get_left m.names.funcs m.names.globals a.0 n a.1) (get_right m.names.funcs m.names.globals b.0 n b.1) in
    let less = slice_get_within m.names.funcs a.0 n a.1 in
    omega arith

pub record OfBody (m : ModuleState) (lines : FuncLines) (g : FuncState) : Type 0 where
  pub func : FuncState
  pub lined : Lined m func
  pub is : lines ≡ func_lines m func lined
  pub alike : AreAlike g (ordered func)

same_state : (a b : FuncState) → Some a ≡ Some b → a ≡ b
same_state a b e = cc

pub of_body : (m : ModuleState) (h : AreLined m 0 0 m.items m.groups) (lines : FuncLines) (g : FuncState) → IsBody (all_items m h) (module_by m h) lines g → OfBody m lines g
of_body m h lines g b =
    let all = all_items m h in
    let on = func_in all b.place lines b.lines_are in
    let r = of_item m 0 0 m.items m.groups h on.0 lines on.1 in
    let own = ap (λ (xs : List FuncState). slice_get xs b.place) (bodies_built (effects_in m.groups) keeps_in no_room all) ∙ map_get (built (effects_in m.groups) keeps_in no_room all) (funcs_of all) b.place lines b.lines_are in
    let same : g ≡ built (effects_in m.groups) keeps_in no_room all (func_lines m r.func r.lined) =
    same_state g (built (effects_in m.groups) keeps_in no_room all lines) (sym b.body_is ∙ own) ∙ ap (λ (l : FuncLines). built (effects_in m.groups) keeps_in no_room all l) r.is in
    record { func = r.func; lined = r.lined; is = r.is; alike = ap plain_func same ∙ alike m h r.func r.lined }

pub no_type_faults : (m : ModuleState) (h : AreLined m 0 0 m.items m.groups) → AreDistinct (m.names.funcs ++ m.names.globals) → HasNone (HasTypeFault (all_items m h) (module_by m h))
no_type_faults m h distinct n fault =
    let r = of_body m h fault.lines fault.f fault.body in
    no_type_fault m (module_by m h) (names_same m h) (sigs_same m h) (others m distinct) r.func fault.f r.lined r.alike n
    (subst (λ (l : FuncLines). HasTypeFaultIn (module_by m h) l fault.f n) r.is fault.fault)

pub no_edge_faults : PartIsReducible → (m : ModuleState) (h : AreLined m 0 0 m.items m.groups) → HasNone (HasEdgeFault (all_items m h) (module_by m h))
no_edge_faults part m h n fault =
    let r = of_body m h fault.lines fault.f fault.body in
    no_edge_fault m r.func fault.f r.lined (in_order part r.func r.lined.numbered r.lined.accepted.sound) r.alike n (subst (λ (l : FuncLines). HasEdgeFaultIn l fault.f n) r.is fault.fault)

pub no_order_faults : PartIsReducible → (m : ModuleState) (h : AreLined m 0 0 m.items m.groups) → HasNone (HasOrderFault (all_items m h) (module_by m h))
no_order_faults part m h n fault =
    let r = of_body m h fault.lines fault.f fault.body in
    no_order_fault m r.func fault.f r.lined (in_order part r.func r.lined.numbered r.lined.accepted.sound) r.alike n (subst (λ (l : FuncLines). HasOrderFaultIn l fault.f n) r.is fault.fault)
