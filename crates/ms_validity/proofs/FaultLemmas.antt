-- The faults of a module, by its lines and by its functions.
use Rattle.std.proofs.Common.{◌≡◌, ℕ, ◌≤◌, ◌⊎◌, List, [], ◌∷◌, ◌++◌, length, map, take, true, Option, Some, None, refl, sym, ap, ◌∙◌, subst, inl, inr, ⊎_elim, arith}
use Rattle.std.specs.Prelude.{◌↔◌}
use Rattle.std.specs.List.{slice_get, flat_map}
use Rattle.std.proofs.lemmas.Bool.{cases_eq, false≢true}
use Rattle.std.proofs.lemmas.List.{length-append}
use Rattle.std.proofs.lemmas.Option.{same_Some}
use Rattle.ms_paths.specs.Flow.{IsClosed}
use Rattle.ms_ir.specs.declared.inst.Inst.{Inst as Held}
use Rattle.ms_ir.specs.Func.{Placed, Block, FuncState}
use Rattle.ms_ir.specs.Graph.{graph_of}
use Rattle.ms_ir.specs.Sound.{HasOtherType}
use Rattle.ms_ir.specs.Uses.{Operand, operands_of, term_operands}
use Rattle.ms_ir.specs.Module.{ModuleState}
use Rattle.ms_grammar.specs.Kept.{Each}
use Rattle.ms_grammar.specs.Form.{name_text}
use Rattle.ms_grammar.specs.declared.line.Line.{Line}
use Rattle.ms_grammar.specs.declared.line.Line.TheVariants.{Empty, Close, Kept, Group, GlobalVar, Label, Declare, Define, Inst, Term}
use Rattle.ms_grammar.specs.declared.line.RawInst.{RawInst}
use Rattle.ms_grammar.specs.declared.line.RawInst.TheVariants as raw
use Rattle.ms_resolve.specs.Shape.{InstLine, BlockLines, FuncLines, ItemLines, LabelLine, plain, body, item_lines, block_lines, inst_line, label_lines, IsItem, IsShape, stands_outside}
use Rattle.ms_resolve.specs.Scope.{Scope, func_of, inst_of}
use Rattle.ms_resolve.specs.Used.{values_of, global_of, callee_of, inst_names}
use Rattle.ms_resolve.specs.Faults.{IsIn, Symbol, symbols_of, item_symbols, name_of_symbol}
use Rattle.ms_resolve.specs.Faults as named
use Rattle.ms_resolve.specs.Cause.{NoNameFault, lines_of_body}
use Rattle.ms_resolve.specs.Module.{IsModuleOf, funcs_of, body_in, bodies_in, scope_of, func_names_in, global_names_in}
use Rattle.ms_resolve.specs.declared.resolved.BodyLines.{BodyLines}
use Rattle.ms_validity.specs.declared.phase.Phase.{Phase}
use Rattle.ms_validity.specs.declared.phase.Phase.TheVariants.{Types, Edges, Order}
use Rattle.ms_validity.specs.Faults.{body_there, bodies_there, IsBody, HasInst, HasTerm, CallsOtherwise, ReturnsOtherwise, HasTypeFaultIn, operand, func_operand, global_called, call, term_operand, func_returned, returned, HasEdgeFaultIn, HasOrderFaultIn, HasTypeFault, HasEdgeFault, HasOrderFault}
use Rattle.ms_validity.specs.Faults as valid
use Rattle.ms_validity.specs.Raw.{HasName, RawFault, LineHas}
use Rattle.ms_validity.specs.Told.{AreClosed, BodyHas, InstFault, TermFault, ModuleHas}
use Rattle.ms_validity.proofs.BuiltLemmas.{built_at, at_built, from_term, built_closed}
use Rattle.ms_validity.proofs.BodyLemmas.{bodies_at}
use Rattle.ms_validity.proofs.ListLemmas.{in_nil, in_cons, in_here, in_there, in_one, in_append, in_left, in_right, in_flat, flat_in, get_map, map_get}
use Rattle.ms_validity.proofs.SiteLemmas.{InstSite, TermSite, SiteHas, body_sites}

-- the bodies that are there are those of the functions' lines
bodies_are : (scope : FuncLines → Scope) (spare : List ℕ → ℕ) (items : List ItemLines)
    → flat_map body_there (flat_map (bodies_in scope spare) items) ≡ map (λ (l : FuncLines). func_of (scope l) (spare l.head.name) l) (funcs_of items)
bodies_are scope spare [] = refl
bodies_are scope spare (plain n Empty ∷ items) = bodies_are scope spare items
bodies_are scope spare (plain n Close ∷ items) = bodies_are scope spare items
bodies_are scope spare (plain n (Kept t) ∷ items) = bodies_are scope spare items
bodies_are scope spare (plain n (Group g t) ∷ items) = bodies_are scope spare items
bodies_are scope spare (plain n (GlobalVar g t) ∷ items) = bodies_are scope spare items
bodies_are scope spare (plain n (Label l) ∷ items) = bodies_are scope spare items
bodies_are scope spare (plain n (Declare h) ∷ items) = bodies_are scope spare items
bodies_are scope spare (plain n (Define h) ∷ items) = bodies_are scope spare items
bodies_are scope spare (plain n (Inst r i) ∷ items) = bodies_are scope spare items
bodies_are scope spare (plain n (Term t) ∷ items) = bodies_are scope spare items
bodies_are scope spare (body l ∷ items) = ap (λ (xs : List FuncState). func_of (scope l) (spare l.head.name) l ∷ xs) (bodies_are scope spare items)

-- the scope, and the function, of lines of the module
abbrev pub scope_in : (items : List ItemLines) (m : ModuleState) → IsModuleOf items m → FuncLines → Scope
scope_in items m whole l = scope_of whole.meaning.effects whole.meaning.keeps items l

abbrev pub built : (items : List ItemLines) (m : ModuleState) → IsModuleOf items m → FuncLines → FuncState
built items m whole l = func_of (scope_in items m whole l) (whole.spare l.head.name) l

there : (items : List ItemLines) (m : ModuleState) (whole : IsModuleOf items m) → bodies_there m ≡ map (built items m whole) (funcs_of items)
there items m whole = ap bodies_there whole.module_is ∙ bodies_are (scope_in items m whole) whole.spare items

pub at_body : (items : List ItemLines) (m : ModuleState) (whole : IsModuleOf items m) (p : ℕ) (l : FuncLines) → slice_get (funcs_of items) p ≡ Some l
    → slice_get (bodies_there m) p ≡ Some (built items m whole l)
at_body items m whole p l e = ap (λ (xs : List FuncState). slice_get xs p) (there items m whole) ∙ map_get (built items m whole) (funcs_of items) p l e

pub body_at : (items : List ItemLines) (m : ModuleState) (whole : IsModuleOf items m) (p : ℕ) (f : FuncState) → slice_get (bodies_there m) p ≡ Some f
    → (l : FuncLines) × (slice_get (funcs_of items) p ≡ Some l) × (built items m whole l ≡ f)
body_at items m whole p f e = get_map (built items m whole) (funcs_of items) p f (ap (λ (xs : List FuncState). slice_get xs p) (sym (there items m whole)) ∙ e)

-- the faults of a phase at the lines of the module
abbrev pub SitesOf : List ItemLines → ModuleState → (FuncLines → FuncState → ℕ → Type 0) → ℕ → Type 0
SitesOf items m P n = (l : FuncLines) × (f : FuncState) × IsBody items m l f × P l f n

pub module_sites : (phase : Phase) (items : List ItemLines) (m : ModuleState) (lines : List BodyLines) (n : ℕ) → IsModuleOf items m → lines ≡ map lines_of_body (funcs_of items)
    → ModuleHas phase m lines n ↔ SitesOf items m (SiteHas phase m) n
module_sites phase items m lines n whole lines_are = (
  λ w.
      let p = w.0 in
      let h = w.1 in
      let r = body_at items m whole p h.0 h.2 in
      let at = map_get lines_of_body (funcs_of items) p r.0 r.1 in
      let same : h.1 ≡ lines_of_body r.0 = same_Some h.1 (lines_of_body r.0) (sym h.3 ∙ ap (λ (xs : List BodyLines). slice_get xs p) lines_are ∙ at) in
      let has = subst (λ (g : FuncState). BodyHas phase m g (lines_of_body r.0) n) (sym r.2) (subst (λ (y : BodyLines). BodyHas phase m h.0 y n) same h.4) in
      let site = (body_sites phase m (scope_in items m whole r.0) (whole.spare r.0.head.name) r.0 n).0 has in
      (r.0, h.0, record { place = p; lines_are = r.1; body_is = h.2 }, subst (λ (g : FuncState). SiteHas phase m r.0 g n) r.2 site),
  λ w.
      let l = w.0 in
      let b = w.2 in
      let own = at_body items m whole b.place l b.lines_are in
      let same : w.1 ≡ built items m whole l = same_Some w.1 (built items m whole l) (sym b.body_is ∙ own) in
      let site = subst (λ (g : FuncState). SiteHas phase m l g n) same w.3 in
      let has = (body_sites phase m (scope_in items m whole l) (whole.spare l.head.name) l n).1 site in
      (b.place, (built items m whole l, lines_of_body l, own, ap (λ (xs : List BodyLines). slice_get xs b.place) lines_are ∙ map_get lines_of_body (funcs_of items) b.place l b.lines_are, has)),
)

pub edge_sites : (items : List ItemLines) (m : ModuleState) (n : ℕ) → SitesOf items m (SiteHas Edges m) n ↔ HasEdgeFault items m n
edge_sites items m n = (
  λ w. record { lines = w.0; f = w.1; body = w.2; fault = to w.0 w.1 w.3 },
  λ h. (h.lines, h.f, h.body, from h.lines h.f h.fault),
)
  where
    to : (l : FuncLines) (f : FuncState) → SiteHas Edges m l f n → HasEdgeFaultIn l f n
    to l f s = ⊎_elim (λ (w : InstSite l f (InstFault Edges m f) n). valid.HasEdgeFaultIn.phi w.0 w.1 w.2 w.3 w.4 w.5)
        (λ (w : TermSite l f (TermFault Edges f) n). valid.HasEdgeFaultIn.branch w.0 w.1 w.2 w.3 w.4) s

    from : (l : FuncLines) (f : FuncState) → HasEdgeFaultIn l f n → SiteHas Edges m l f n
    from l f (valid.HasEdgeFaultIn.branch b block x h p) = inr (b, block, x, h, p)
    from l f (valid.HasEdgeFaultIn.phi b k line x h p) = inl (b, k, line, x, h, p)

pub order_sites : (items : List ItemLines) (m : ModuleState) (n : ℕ) → SitesOf items m (SiteHas Order m) n ↔ HasOrderFault items m n
order_sites items m n = (
  λ w. record { lines = w.0; f = w.1; body = w.2; fault = to w.0 w.1 w.3 },
  λ h. (h.lines, h.f, h.body, from h.lines h.f h.fault),
)
  where
    to : (l : FuncLines) (f : FuncState) → SiteHas Order m l f n → HasOrderFaultIn l f n
    to l f s = ⊎_elim (λ (w : InstSite l f (InstFault Order m f) n). valid.HasOrderFaultIn.inst w.0 w.1 w.2 w.3 w.5.0 w.4 w.5.1 w.5.2)
        (λ (w : TermSite l f (TermFault Order f) n). valid.HasOrderFaultIn.term w.0 w.1 w.2 w.4.0 w.3 w.4.1 w.4.2) s

    from : (l : FuncLines) (f : FuncState) → HasOrderFaultIn l f n → SiteHas Order m l f n
    from l f (valid.HasOrderFaultIn.inst b k line x u h on before) = inl (b, k, line, x, h, (u, on, before))
    from l f (valid.HasOrderFaultIn.term b block x u h on before) = inr (b, block, x, h, (u, on, before))

-- a line that names a function where a global variable is wanted, or calls a global variable, in a function
abbrev pub RawSite : ModuleState → FuncLines → FuncState → ℕ → Type 0
RawSite m l f n =
    ((b k : ℕ) × (line : InstLine) × (x : Placed) × HasInst l f n b k line x × RawFault m.names (Inst line.name line.inst))
    ⊎ ((b : ℕ) × (block : BlockLines) × (x : Block) × HasTerm l f n b block x × RawFault m.names (Term block.end.term))

type_site : (m : ModuleState) (l : FuncLines) (f : FuncState) (n : ℕ) → HasTypeFaultIn m l f n → SiteHas Types m l f n ⊎ RawSite m l f n
type_site m l f n (operand b k line x o h on ot) = inl (inl (b, k, line, x, h, inl (o, on, ot)))
type_site m l f n (func_operand b k line x name h a z) = inr (inl (b, k, line, x, h, inl (name, a, z)))
type_site m l f n (global_called b k line x name h a z) = inr (inl (b, k, line, x, h, inr (name, a, z)))
type_site m l f n (call b k line x name h a z c) = inl (inl (b, k, line, x, h, inr c))
type_site m l f n (term_operand b block x o h on ot) = inl (inr (b, block, x, h, inl (o, on, ot)))
type_site m l f n (func_returned b block x name h a z) = inr (inr (b, block, x, h, (name, a, z)))
type_site m l f n (returned b block x h r) = inl (inr (b, block, x, h, inr r))

-- the name of what is called is known
same_text : (a b : List ℕ) → (a ≡ b) ⊎ (a ≡ b → ⊥)
same_text [] [] = inl refl
same_text [] (y ∷ b) = inr (λ e. cc)
same_text (x ∷ a) [] = inr (λ e. cc)
same_text (x ∷ a) (y ∷ b) =
    ⊎_elim (λ (e : x ≡ y). ⊎_elim (λ (t : a ≡ b). inl (cc)) (λ (n : a ≡ b → ⊥). inr (λ h. n (cc))) (same_text a b))
    (λ (n : x ≡ y → ⊥). inr (λ h. n (cc)))
    (cases_eq x y)

pub in_or_not : (xs : List (List ℕ)) (name : List ℕ) → IsIn xs name ⊎ (IsIn xs name → ⊥)
in_or_not [] name = inr (in_nil name)
in_or_not (x ∷ xs) name =
    ⊎_elim (λ (e : x ≡ name). inl (subst (λ (z : List ℕ). IsIn (x ∷ xs) z) e (in_here x xs)))
    (λ (n : x ≡ name → ⊥). ⊎_elim (λ (h : IsIn xs name). inl (in_there x xs name h))
    (λ (m : IsIn xs name → ⊥). inr (λ h. ⊎_elim (λ (e : x ≡ name). n e) (λ (r : IsIn xs name). m r) (in_cons x xs name h)))
    (in_or_not xs name))
    (same_text x name)

item_named : (item : ItemLines) (sym : Symbol) → IsIn (item_symbols item) sym → IsIn (func_names_in item) sym.name ⊎ IsIn (global_names_in item) sym.name
item_named (plain n Empty) sym h = absurd (in_nil sym h)
item_named (plain n Close) sym h = absurd (in_nil sym h)
item_named (plain n (Kept t)) sym h = absurd (in_nil sym h)
item_named (plain n (Group g t)) sym h = absurd (in_nil sym h)
item_named (plain n (GlobalVar g t)) sym h = let e = in_one _ sym h in inr (subst (λ (z : List ℕ). IsIn (g ∷ []) z) (ap name_of_symbol e) (in_here g []))
item_named (plain n (Label l)) sym h = absurd (in_nil sym h)
item_named (plain n (Declare d)) sym h = let e = in_one _ sym h in inl (subst (λ (z : List ℕ). IsIn (d.name ∷ []) z) (ap name_of_symbol e) (in_here d.name []))
item_named (plain n (Define d)) sym h = absurd (in_nil sym h)
item_named (plain n (Inst r i)) sym h = absurd (in_nil sym h)
item_named (plain n (Term t)) sym h = absurd (in_nil sym h)
item_named (body l) sym h = let e = in_one _ sym h in inl (subst (λ (z : List ℕ). IsIn (l.head.name ∷ []) z) (ap name_of_symbol e) (in_here l.head.name []))

pub known_named : (items : List ItemLines) (name : List ℕ) → IsIn (map name_of_symbol (symbols_of items)) name
    → IsIn (flat_map func_names_in items) name ⊎ IsIn (flat_map global_names_in items) name
known_named items name h =
    let r = get_map name_of_symbol (symbols_of items) h.0 name h.1 in
    let w = in_flat item_symbols items r.0 (h.0, r.1) in
    ⊎_elim (λ (f : IsIn (func_names_in w.0) r.0.name). inl (subst (λ (z : List ℕ). IsIn (flat_map func_names_in items) z) r.2 (flat_in func_names_in items w.0 r.0.name w.1 f)))
    (λ (g : IsIn (global_names_in w.0) r.0.name). inr (subst (λ (z : List ℕ). IsIn (flat_map global_names_in items) z) r.2 (flat_in global_names_in items w.0 r.0.name w.1 g)))
    (item_named w.0 r.0 w.2)

func_item : (item : ItemLines) (l : FuncLines) → IsIn (body_in item) l → item ≡ body l
func_item (plain n line) l h = absurd (in_nil l h)
func_item (body k) l h = ap body (in_one k l h)

pub func_in : (items : List ItemLines) (p : ℕ) (l : FuncLines) → slice_get (funcs_of items) p ≡ Some l → IsIn items (body l)
func_in items p l e =
    let w = in_flat body_in items l (p, e) in
    subst (λ (z : ItemLines). IsIn items z) (func_item w.0 l w.2) w.1

pub called_known : (items : List ItemLines) (m : ModuleState) (l : FuncLines) (block : BlockLines) (line : InstLine) (name : List ℕ) → NoNameFault items → IsModuleOf items m
    → IsIn items (body l) → IsIn l.blocks block → IsIn block.insts line → IsIn (callee_of line.inst) name → IsIn m.names.funcs name ⊎ IsIn m.names.globals name
called_known items m l block line name sound whole il ib ii on =
    let funcs : m.names.funcs ≡ flat_map func_names_in items = ap (λ (x : ModuleState). x.names.funcs) whole.module_is in
    let globals : m.names.globals ≡ flat_map global_names_in items = ap (λ (x : ModuleState). x.names.globals) whole.module_is in
    let known = map name_of_symbol (symbols_of items) in
    let is_known : IsIn known name = ⊎_elim (λ (h : IsIn known name). h)
    (λ (n : IsIn known name → ⊥). absurd (sound line.line
    (named.HasNameFault.inside l il (named.HasFaultIn.unknown (inst_names line.inst) (named.StandsAt.inst block line ib ii refl refl)
    (named.UsesUnknown.global name (in_right (flat_map global_of (values_of line.inst)) (callee_of line.inst) name on) n)))))
    (in_or_not known name) in
    ⊎_elim (λ (h : IsIn (flat_map func_names_in items) name). inl (subst (λ (z : List (List ℕ)). IsIn z name) (sym funcs) h))
    (λ (h : IsIn (flat_map global_names_in items) name). inr (subst (λ (z : List (List ℕ)). IsIn z name) (sym globals) h))
    (known_named items name is_known)

-- only a call calls otherwise
pub called_name : (m : ModuleState) (s : Scope) (i : RawInst) → CallsOtherwise m (inst_of s i) → (name : List ℕ) × IsIn (callee_of i) name
called_name m s (raw.Alloca _ _ _) h = absurd h
called_name m s (raw.Gep _ _ _ _ _) h = absurd h
called_name m s (raw.Step _ _ _ _ _ _) h = absurd h
called_name m s (raw.Load _ _ _) h = absurd h
called_name m s (raw.Store _ _ _ _) h = absurd h
called_name m s (raw.Copy _ _ _ _ _ _) h = absurd h
called_name m s (raw.Call callee r args head b t) h = (name_text callee, in_here (name_text callee) [])
called_name m s (raw.Bin _ _ _ _ _ _) h = absurd h
called_name m s (raw.Cmp _ _ _ _ _ _) h = absurd h
called_name m s (raw.Select _ _ _ _ _) h = absurd h
called_name m s (raw.Cast _ _ _ _ _ _) h = absurd h
called_name m s (raw.Phi _ _ _) h = absurd h

site_type : (items : List ItemLines) (m : ModuleState) (n : ℕ) (whole : IsModuleOf items m) → NoNameFault items → (l : FuncLines) → IsIn items (body l)
    → SiteHas Types m l (built items m whole l) n → HasTypeFaultIn m l (built items m whole l) n
site_type items m n whole sound l il site =
    let f = built items m whole l in
    let s = scope_in items m whole l in
    ⊎_elim
    (λ (w : InstSite l f (InstFault Types m f) n). ⊎_elim
    (λ (o : (o : Operand) × IsIn (operands_of w.3.inst) o × HasOtherType f o). operand w.0 w.1 w.2 w.3 o.0 w.4 o.1 o.2)
    (λ (c : CallsOtherwise m w.3.inst).
    let r = built_at s 0 0 (length l.head.params) l.blocks w.0 w.1 w.3 w.4.inst_is in
    let block : w.4.block ≡ r.0 = same_Some w.4.block r.0 (sym w.4.block_is ∙ r.2) in
    let here = subst (λ (z : BlockLines). slice_get z.insts w.1 ≡ Some w.2) block w.4.line_is in
    let line : r.1 ≡ w.2 = same_Some r.1 w.2 (sym r.3 ∙ here) in
    let inst : w.3.inst ≡ inst_of s w.2.inst = r.4 ∙ ap (λ (z : InstLine). inst_of s z.inst) line in
    let name = called_name m s w.2.inst (subst (λ (i : Held). CallsOtherwise m i) inst c) in
    ⊎_elim
    (λ (z : IsIn m.names.funcs name.0). call w.0 w.1 w.2 w.3 name.0 w.4 name.1 z c)
    (λ (z : IsIn m.names.globals name.0). global_called w.0 w.1 w.2 w.3 name.0 w.4 name.1 z)
    (called_known items m l w.4.block w.2 name.0 sound whole il (w.0, w.4.block_is) (w.1, w.4.line_is) name.1))
    w.5)
    (λ (w : TermSite l f (TermFault Types f) n). ⊎_elim
    (λ (o : (o : Operand) × IsIn (term_operands w.2.term) o × HasOtherType f o). term_operand w.0 w.1 w.2 o.0 w.3 o.1 o.2)
    (λ (r : ReturnsOtherwise f w.2.term). returned w.0 w.1 w.2 w.3 r)
    w.4)
    site

raw_site : (m : ModuleState) (l : FuncLines) (f : FuncState) (n : ℕ) → RawSite m l f n → HasTypeFaultIn m l f n
raw_site m l f n site =
    ⊎_elim
    (λ (w : (b k : ℕ) × (line : InstLine) × (x : Placed) × HasInst l f n b k line x × RawFault m.names (Inst line.name line.inst)). ⊎_elim
    (λ (h : HasName (flat_map global_of (values_of w.2.inst)) m.names.funcs). func_operand w.0 w.1 w.2 w.3 h.0 w.4 h.1 h.2)
    (λ (h : HasName (callee_of w.2.inst) m.names.globals). global_called w.0 w.1 w.2 w.3 h.0 w.4 h.1 h.2)
    w.5)
    (λ (w : (b : ℕ) × (block : BlockLines) × (x : Block) × HasTerm l f n b block x × RawFault m.names (Term block.end.term)).
    func_returned w.0 w.1 w.2 w.4.0 w.3 w.4.1 w.4.2)
    site

-- the lines of a function are lines of the draft
pub inst_in : (l : FuncLines) (block : BlockLines) (line : InstLine) → IsIn l.blocks block → IsIn block.insts line
    → IsIn (item_lines (body l)) (line.line, Inst line.name line.inst)
inst_in l block line ib ii =
    let here = map_get inst_line block.insts ii.0 line ii.1 in
    in_there (l.line, Define l.head) _ _ (in_left (flat_map block_lines l.blocks) ((l.close, Close) ∷ []) _
    (flat_in block_lines l.blocks block _ ib
    (in_left (label_lines block.label ++ map inst_line block.insts) ((block.end.line, Term block.end.term) ∷ []) _
    (in_right (label_lines block.label) (map inst_line block.insts) _ (ii.0, here)))))

pub term_in : (l : FuncLines) (block : BlockLines) → IsIn l.blocks block → IsIn (item_lines (body l)) (block.end.line, Term block.end.term)
term_in l block ib =
    in_there (l.line, Define l.head) _ _ (in_left (flat_map block_lines l.blocks) ((l.close, Close) ∷ []) _
    (flat_in block_lines l.blocks block _ ib
    (in_right (label_lines block.label ++ map inst_line block.insts) ((block.end.line, Term block.end.term) ∷ []) _ (in_here _ []))))

site_draft : (draft : List (ℕ × Line)) (items : List ItemLines) (m : ModuleState) (l : FuncLines) (f : FuncState) (n : ℕ) → IsShape draft items → IsIn items (body l)
    → RawSite m l f n → (k : ℕ) × LineHas m.names draft k n
site_draft draft items m l f n shape il site =
    ⊎_elim
    (λ (w : (b k : ℕ) × (line : InstLine) × (x : Placed) × HasInst l f n b k line x × RawFault m.names (Inst line.name line.inst)).
    let line = Inst w.2.name w.2.inst in
    let at = flat_in item_lines items (body l) (w.2.line, line) il (inst_in l w.4.block w.2 (w.0, w.4.block_is) (w.1, w.4.line_is)) in
    let at' : slice_get draft at.0 ≡ Some (n, line) = ap (λ (d : List (ℕ × Line)). slice_get d at.0) shape.lines ∙ at.1 ∙ ap (λ (j : ℕ). Some (j, line)) w.4.on in
    (at.0, (line, at', w.5)))
    (λ (w : (b : ℕ) × (block : BlockLines) × (x : Block) × HasTerm l f n b block x × RawFault m.names (Term block.end.term)).
    let line = Term w.1.end.term in
    let at = flat_in item_lines items (body l) (w.1.end.line, line) il (term_in l w.1 (w.0, w.3.block_is)) in
    let at' : slice_get draft at.0 ≡ Some (n, line) = ap (λ (d : List (ℕ × Line)). slice_get d at.0) shape.lines ∙ at.1 ∙ ap (λ (j : ℕ). Some (j, line)) w.3.on in
    (at.0, (line, at', w.4)))
    site

item_is : (items : List ItemLines) (item : ItemLines) → Each IsItem items → IsIn items item → IsItem item
item_is [] item each h = absurd (in_nil item h)
item_is (x ∷ items) item each h =
    ⊎_elim (λ (e : x ≡ item). subst IsItem e each.0) (λ (r : IsIn items item). item_is items item each.1 r) (in_cons x items item h)

no_raw_outside : (m : ModuleState) (line : Line) → stands_outside line ≡ true → RawFault m.names line → ⊥
no_raw_outside m Empty e h = h
no_raw_outside m Close e h = h
no_raw_outside m (Kept t) e h = h
no_raw_outside m (Group g t) e h = h
no_raw_outside m (GlobalVar g t) e h = h
no_raw_outside m (Label l) e h = h
no_raw_outside m (Declare d) e h = h
no_raw_outside m (Define d) e h = h
no_raw_outside m (Inst r i) e h = false≢true e
no_raw_outside m (Term t) e h = false≢true e

no_raw_label : (m : ModuleState) (l : Option LabelLine) (n : ℕ) (line : Line) → IsIn (label_lines l) (n, line) → RawFault m.names line → ⊥
no_raw_label m None n line on h = in_nil _ on
no_raw_label m (Some l) n line on h =
    let e = in_one _ _ on in
    subst (λ (z : Line). RawFault m.names z) (sym (ap (λ (p : ℕ × Line). p.1) e)) h

block_site : (m : ModuleState) (items : List ItemLines) (whole : IsModuleOf items m) (l : FuncLines) (block : BlockLines) (n : ℕ) (line : Line) → IsIn l.blocks block
    → IsIn (block_lines block) (n, line) → RawFault m.names line → RawSite m l (built items m whole l) n
block_site m items whole l block n line ib on fault =
    let s = scope_in items m whole l in
    ⊎_elim
    (λ (h : IsIn (label_lines block.label ++ map inst_line block.insts) (n, line)). ⊎_elim
    (λ (a : IsIn (label_lines block.label) (n, line)). absurd (no_raw_label m block.label n line a fault))
    (λ (i : IsIn (map inst_line block.insts) (n, line)).
    let r = get_map inst_line block.insts i.0 (n, line) i.1 in
    let x = at_built s 0 0 (length l.head.params) l.blocks ib.0 i.0 block r.0 ib.1 r.1 in
    let on' : r.0.line ≡ n = ap (λ (p : ℕ × Line). p.0) r.2 in
    let is : Inst r.0.name r.0.inst ≡ line = ap (λ (p : ℕ × Line). p.1) r.2 in
    inl (
      ib.0,
      i.0,
      r.0,
      x.0,
      record { block = block; block_is = ib.1; line_is = r.1; inst_is = x.1; on = on' },
      subst (λ (z : Line). RawFault m.names z) (sym is) fault,
    ))
    (in_append (label_lines block.label) (map inst_line block.insts) (n, line) h))
    (λ (h : IsIn ((block.end.line, Term block.end.term) ∷ []) (n, line)).
    let e = in_one _ _ h in
    let on' : block.end.line ≡ n = ap (λ (p : ℕ × Line). p.0) e in
    let is : Term block.end.term ≡ line = ap (λ (p : ℕ × Line). p.1) e in
    let x = from_term s 0 0 (length l.head.params) l.blocks ib.0 block ib.1 in
    inr (ib.0, block, x.0, record { block_is = ib.1; term_is = x.1; on = on' }, subst (λ (z : Line). RawFault m.names z) (sym is) fault))
    (in_append (label_lines block.label ++ map inst_line block.insts) ((block.end.line, Term block.end.term) ∷ []) (n, line) on)

func_site : (m : ModuleState) (items : List ItemLines) (whole : IsModuleOf items m) (l : FuncLines) (n : ℕ) (line : Line)
    → IsIn (item_lines (body l)) (n, line) → RawFault m.names line → RawSite m l (built items m whole l) n
func_site m items whole l n line on fault =
    ⊎_elim
    (λ (e : (l.line, Define l.head) ≡ (n, line)). absurd (subst (λ (z : Line). RawFault m.names z) (sym (ap (λ (p : ℕ × Line). p.1) e)) fault))
    (λ (h : IsIn (flat_map block_lines l.blocks ++ (l.close, Close) ∷ []) (n, line)). ⊎_elim
    (λ (b : IsIn (flat_map block_lines l.blocks) (n, line)).
    let w = in_flat block_lines l.blocks (n, line) b in
    block_site m items whole l w.0 n line w.1 w.2 fault)
    (λ (k : IsIn ((l.close, Close) ∷ []) (n, line)).
    let e = in_one _ _ k in
    absurd (subst (λ (z : Line). RawFault m.names z) (sym (ap (λ (p : ℕ × Line). p.1) e)) fault))
    (in_append (flat_map block_lines l.blocks) ((l.close, Close) ∷ []) (n, line) h))
    (in_cons (l.line, Define l.head) (flat_map block_lines l.blocks ++ (l.close, Close) ∷ []) (n, line) on)

item_site : (m : ModuleState) (items : List ItemLines) (whole : IsModuleOf items m) (item : ItemLines) (n : ℕ) (line : Line) → IsItem item → IsIn items item
    → IsIn (item_lines item) (n, line) → RawFault m.names line → SitesOf items m (RawSite m) n
item_site m items whole (plain k other) n line is il on fault =
    let e = in_one _ _ on in
    absurd (no_raw_outside m other is (subst (λ (z : Line). RawFault m.names z) (sym (ap (λ (p : ℕ × Line). p.1) e)) fault))
item_site m items whole (body l) n line is il on fault =
    let p = flat_in body_in items (body l) l il (in_here l []) in
    (l, built items m whole l, record { place = p.0; lines_are = p.1; body_is = at_body items m whole p.0 l p.1 }, func_site m items whole l n line on fault)

draft_site : (draft : List (ℕ × Line)) (items : List ItemLines) (m : ModuleState) (n : ℕ) → IsShape draft items → IsModuleOf items m
    → ((k : ℕ) × LineHas m.names draft k n) → SitesOf items m (RawSite m) n
draft_site draft items m n shape whole w =
    let line = w.1.0 in
    let on = ap (λ (d : List (ℕ × Line)). slice_get d w.0) (sym shape.lines) ∙ w.1.1 in
    let r = in_flat item_lines items (n, line) (w.0, on) in
    item_site m items whole r.0 n line (item_is items r.0 shape.each r.1) r.1 r.2 w.1.2

pub type_sites : (draft : List (ℕ × Line)) (items : List ItemLines) (m : ModuleState) (lines : List BodyLines) (n : ℕ) → IsShape draft items → NoNameFault items
    → IsModuleOf items m → lines ≡ map lines_of_body (funcs_of items)
    → (ModuleHas Types m lines n ⊎ ((k : ℕ) × LineHas m.names draft k n)) ↔ HasTypeFault items m n
type_sites draft items m lines n shape sound whole lines_are = (
  λ h. ⊎_elim
      (λ (a : ModuleHas Types m lines n).
      let w = (module_sites Types items m lines n whole lines_are).0 a in
      let own = at_body items m whole w.2.place w.0 w.2.lines_are in
      let same : w.1 ≡ built items m whole w.0 = same_Some w.1 (built items m whole w.0) (sym w.2.body_is ∙ own) in
      let site = subst (λ (g : FuncState). SiteHas Types m w.0 g n) same w.3 in
      let fault = site_type items m n whole sound w.0 (func_in items w.2.place w.0 w.2.lines_are) site in
      record { lines = w.0; f = w.1; body = w.2; fault = subst (λ (g : FuncState). HasTypeFaultIn m w.0 g n) (sym same) fault })
      (λ (b : (k : ℕ) × LineHas m.names draft k n).
      let w = draft_site draft items m n shape whole b in
      record { lines = w.0; f = w.1; body = w.2; fault = raw_site m w.0 w.1 n w.3 })
      h,
  λ h. ⊎_elim
      (λ (s : SiteHas Types m h.lines h.f n). inl ((module_sites Types items m lines n whole lines_are).1 (h.lines, h.f, h.body, s)))
      (λ (r : RawSite m h.lines h.f n). inr (site_draft draft items m h.lines h.f n shape (func_in items h.body.place h.lines h.body.lines_are) r))
      (type_site m h.lines h.f n h.fault),
)

pub all_closed : (draft : List (ℕ × Line)) (items : List ItemLines) (m : ModuleState) → IsShape draft items → IsModuleOf items m → AreClosed m
all_closed draft items m shape whole f b e =
    let at = bodies_at m.bodies f b e in
    let r = body_at items m whole (length (flat_map body_there (take f m.bodies))) b at in
    let has = item_is items (body r.0) shape.each (func_in items (length (flat_map body_there (take f m.bodies))) r.0 r.1) in
    subst (λ (g : FuncState). IsClosed (graph_of g.blocks)) r.2 (built_closed (scope_in items m whole r.0) (whole.spare r.0.head.name) r.0 refl has)

few_in : (scope : FuncLines → Scope) (spare : List ℕ → ℕ) (items : List ItemLines) → length (flat_map (bodies_in scope spare) items) ≤ length (flat_map item_lines items)
few_in scope spare [] = omega arith
few_in scope spare (plain n Empty ∷ items) = let r = few_in scope spare items in omega arith
few_in scope spare (plain n Close ∷ items) = let r = few_in scope spare items in omega arith
few_in scope spare (plain n (Kept t) ∷ items) = let r = few_in scope spare items in omega arith
few_in scope spare (plain n (Group g t) ∷ items) = let r = few_in scope spare items in omega arith
few_in scope spare (plain n (GlobalVar g t) ∷ items) = let r = few_in scope spare items in omega arith
few_in scope spare (plain n (Label l) ∷ items) = let r = few_in scope spare items in omega arith
few_in scope spare (plain n (Declare h) ∷ items) = let r = few_in scope spare items in omega arith
few_in scope spare (plain n (Define h) ∷ items) = let r = few_in scope spare items in omega arith
few_in scope spare (plain n (Inst r i) ∷ items) = let r = few_in scope spare items in omega arith
few_in scope spare (plain n (Term t) ∷ items) = let r = few_in scope spare items in omega arith
few_in scope spare (body l ∷ items) =
    let r = few_in scope spare items in
    let len = length-append (item_lines (body l)) (flat_map item_lines items) in
    omega arith

pub few_bodies : (draft : List (ℕ × Line)) (items : List ItemLines) (m : ModuleState) → IsShape draft items → IsModuleOf items m → length m.bodies ≤ length draft
few_bodies draft items m shape whole =
    let bodies : length m.bodies ≡ length (flat_map (bodies_in (scope_in items m whole) whole.spare) items) = ap (λ (x : ModuleState). length x.bodies) whole.module_is in
    let lines = ap (length {A = ℕ × Line}) shape.lines in
    let few = few_in (scope_in items m whole) whole.spare items in
    omega arith
