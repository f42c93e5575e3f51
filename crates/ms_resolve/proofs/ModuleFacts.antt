-- A module built line by line is the module of its items.
use Rattle.std.proofs.Common.{◌≡◌, ◌∙◌, inl, inr, ℕ, suc, true, List, [], ◌∷◌, ◌++◌, Option, Some, None, length, map, refl, ap, append_assoc}
use Rattle.std.specs.List.{flat_map}
use Rattle.ms_ir.specs.declared.names.Name.{Name}
use Rattle.ms_ir.specs.declared.module.Item.{Item}
use Rattle.ms_ir.specs.declared.module.Item.TheVariants as item
use Rattle.ms_ir.specs.declared.module.Sig.{Sig}
use Rattle.ms_ir.specs.Func.{FuncState}
use Rattle.ms_ir.specs.Module.{ModuleState}
use Rattle.ms_grammar.specs.Kept.{Each}
use Rattle.ms_grammar.specs.Form.{printed}
use Rattle.ms_grammar.specs.declared.line.Head.{Head}
use Rattle.ms_grammar.specs.declared.line.Line.{Line}
use Rattle.ms_grammar.specs.declared.line.Line.TheVariants as said
use Rattle.ms_names.specs.Shape.{LabelLine, InstLine, BlockLines, FuncLines, ItemLines, plain, body, inst_line, label_lines, block_lines, item_lines, HasBlocks, stands_outside, IsItem}
use Rattle.ms_names.specs.Made.{made_in, locals_of, blocks_of}
use Rattle.ms_resolve.specs.Meaning.{effects_in, keeps_in}
use Rattle.ms_resolve.specs.Scope.{Scope, func_of}
use Rattle.ms_resolve.specs.Module.{group_of, groups_of, func_names_in, global_names_in, sigs_in, items_from, scope_of, bodies_in, module_of, line_of_inst, inst_lines_in, term_line_of, funcs_of}
use Rattle.ms_resolve.specs.Cause.{lines_of_body}
use Rattle.ms_names.specs.Draft.{symbols_after, no_symbols, register_in, register_all, no_names}
use Rattle.ms_resolve.specs.Build as build
use Rattle.ms_resolve.specs.Build.{Outer, scope_with, numbers_after, no_numbers, groups_with, groups_after, sig_by, sigs_with, sigs_after, with_kept, with_global_item, with_declared, with_defined, module_with, module_after, no_module, bodies_with, bodies_after, built}
use Rattle.ms_names.specs.declared.register.Register.{Register}
use Rattle.ms_resolve.specs.declared.resolved.BodyLines.{BodyLines}
use Rattle.ms_names.proofs.Members.{Among}
use Rattle.ms_names.proofs.Folds.{is_inner, items_after, IsFold, along_items}
use Rattle.ms_names.proofs.Registers.{IsMadeFault, register_is, locals_are, blocks_are}
use Rattle.ms_names.proofs.SymbolFacts.{funcs_are, globals_are}
use Rattle.ms_resolve.proofs.FuncFacts.{func_is}

append_none : {X : Type 0} (xs : List X) → xs ≡ xs ++ []
append_none [] = refl
append_none (x ∷ xs) = ap (λ r. x ∷ r) (append_none xs)

length_push : {X : Type 0} (xs : List X) (y : X) → length (xs ++ y ∷ []) ≡ suc (length xs)
length_push [] y = refl
length_push (x ∷ xs) y = ap suc (length_push xs y)

-- the lines of bodies
abbrev numbers : List ℕ → List ℕ → BodyLines
numbers insts terms = record { insts = insts; terms = terms }

numbers-append : (b : BodyLines) (xs ys : List (ℕ × Line)) → numbers_after b (xs ++ ys) ≡ numbers_after (numbers_after b xs) ys
numbers-append b [] ys = refl
numbers-append b (x ∷ xs) ys = numbers-append (build.numbers_with b x.0 x.1) xs ys

numbers_insts : (xs : List InstLine) (insts terms : List ℕ) → numbers_after (numbers insts terms) (map inst_line xs) ≡ numbers (insts ++ map line_of_inst xs) terms
numbers_insts [] insts terms = ap (λ is. numbers is terms) (append_none insts)
numbers_insts (x ∷ xs) insts terms = numbers_insts xs (insts ++ x.line ∷ []) terms ∙ ap (λ is. numbers is terms) (append_assoc insts (x.line ∷ []) (map line_of_inst xs))

numbers_labels : (l : Option LabelLine) (b : BodyLines) → numbers_after b (label_lines l) ≡ b
numbers_labels None b = refl
numbers_labels (Some l) b = refl

numbers_block : (b : BlockLines) (insts terms : List ℕ) → numbers_after (numbers insts terms) (block_lines b) ≡ numbers (insts ++ inst_lines_in b) (terms ++ b.end.line ∷ [])
numbers_block b insts terms =
    let end : List (ℕ × Line) = (b.end.line, said.Term b.end.term) ∷ [] in
    numbers-append (numbers insts terms) (label_lines b.label ++ map inst_line b.insts) end
    ∙ ap (λ n. numbers_after n end)
    (numbers-append (numbers insts terms) (label_lines b.label) (map inst_line b.insts)
    ∙ ap (λ n. numbers_after n (map inst_line b.insts)) (numbers_labels b.label (numbers insts terms)) ∙ numbers_insts b.insts insts terms)

numbers_blocks : (bs : List BlockLines) (insts terms : List ℕ) → numbers_after (numbers insts terms) (flat_map block_lines bs) ≡ numbers (insts ++ flat_map inst_lines_in bs) (terms ++ map term_line_of bs)
numbers_blocks [] insts terms = ap (λ is. numbers is terms) (append_none insts) ∙ ap (λ ts. numbers (insts ++ []) ts) (append_none terms)
numbers_blocks (b ∷ bs) insts terms =
    let more = insts ++ inst_lines_in b in
    let ends = terms ++ b.end.line ∷ [] in
    numbers-append (numbers insts terms) (block_lines b) (flat_map block_lines bs) ∙ ap (λ n. numbers_after n (flat_map block_lines bs)) (numbers_block b insts terms)
    ∙ numbers_blocks bs more ends
    ∙ ap (λ is. numbers is (ends ++ map term_line_of bs)) (append_assoc insts (inst_lines_in b) (flat_map inst_lines_in bs))
    ∙ ap (λ ts. numbers (insts ++ (inst_lines_in b ++ flat_map inst_lines_in bs)) ts) (append_assoc terms (b.end.line ∷ []) (map term_line_of bs))

abbrev out_bodies : List BodyLines → ℕ → Line → List BodyLines
out_bodies bs n line = bs

abbrev define_bodies : List BodyLines → ℕ → Head → List (ℕ × Line) → List BodyLines
define_bodies bs n head lines = bs ++ numbers_after no_numbers lines ∷ []

bodies_inner : (bs : List BodyLines) (n : ℕ) (line : Line) (rest : List (ℕ × Line)) → is_inner line ≡ true → bodies_with bs line rest ≡ bs
bodies_inner bs n (said.Define head) rest e = cc
bodies_inner bs n _ rest e = refl

bodies_outer : (bs : List BodyLines) (n : ℕ) (line : Line) (rest : List (ℕ × Line)) → stands_outside line ≡ true → bodies_with bs line rest ≡ bs
bodies_outer bs n (said.Define head) rest e = cc
bodies_outer bs n _ rest e = refl

bodies_fold : IsFold (List BodyLines) bodies_after (λ bs n line rest. bodies_with bs line rest) out_bodies define_bodies
bodies_fold = record {
  none = λ s. refl;
  one = λ s l ls. refl;
  inner = bodies_inner;
  close = λ s n rest. refl;
  outer = bodies_outer;
  defines = λ s n head rest. refl;
}

bodies_items : (items : List ItemLines) → Each IsItem items → (bs : List BodyLines) → items_after out_bodies define_bodies bs items ≡ bs ++ map lines_of_body (funcs_of items)
bodies_items [] h bs = append_none bs
bodies_items (plain n line ∷ items) h bs = bodies_items items h.1 bs
bodies_items (body f ∷ items) h bs =
    bodies_items items h.1 (bs ++ numbers_after no_numbers (flat_map block_lines f.blocks) ∷ [])
    ∙ append_assoc bs (numbers_after no_numbers (flat_map block_lines f.blocks) ∷ []) (map lines_of_body (funcs_of items))
    ∙ ap (λ n. bs ++ n ∷ map lines_of_body (funcs_of items)) (numbers_blocks f.blocks [] [])

pub bodies_are : (items : List ItemLines) → Each IsItem items → bodies_after [] (flat_map item_lines items) ≡ map lines_of_body (funcs_of items)
bodies_are items h = along_items bodies_after (λ bs n line rest. bodies_with bs line rest) out_bodies define_bodies bodies_fold items h [] ∙ bodies_items items h []

-- groups
abbrev define_groups : List (ℕ × List ℕ) → ℕ → Head → List (ℕ × Line) → List (ℕ × List ℕ)
define_groups gs n head lines = gs

groups_inner : (gs : List (ℕ × List ℕ)) (line : Line) → is_inner line ≡ true → groups_with gs line ≡ gs
groups_inner gs (said.Group number text) e = cc
groups_inner gs _ e = refl

groups_fold : IsFold (List (ℕ × List ℕ)) groups_after (λ gs n line rest. groups_with gs line) (λ gs n line. groups_with gs line) define_groups
groups_fold = record {
  none = λ s. refl;
  one = λ s l ls. refl;
  inner = λ gs n line rest e. groups_inner gs line e;
  close = λ s n rest. refl;
  outer = λ gs n line rest e. refl;
  defines = λ s n head rest. refl;
}

groups_line : (gs : List (ℕ × List ℕ)) (n : ℕ) (line : Line) → groups_with gs line ≡ gs ++ group_of (plain n line)
groups_line gs n (said.Group number text) = refl
groups_line gs n _ = append_none gs

groups_items : (items : List ItemLines) → (gs : List (ℕ × List ℕ)) → items_after (λ gs n line. groups_with gs line) define_groups gs items ≡ gs ++ groups_of items
groups_items [] gs = append_none gs
groups_items (plain n line ∷ items) gs =
    groups_items items (groups_with gs line) ∙ ap (λ g. g ++ groups_of items) (groups_line gs n line) ∙ append_assoc gs (group_of (plain n line)) (groups_of items)
groups_items (body f ∷ items) gs = groups_items items gs

pub groups_are : (items : List ItemLines) → Each IsItem items → groups_after [] (flat_map item_lines items) ≡ groups_of items
groups_are items h = along_items groups_after (λ gs n line rest. groups_with gs line) (λ gs n line. groups_with gs line) define_groups groups_fold items h [] ∙ groups_items items []

-- what functions' lines say
abbrev define_sigs : List (ℕ × List ℕ) → List Sig → ℕ → Head → List (ℕ × Line) → List Sig
define_sigs g sigs n head lines = sigs ++ sig_by g head ∷ []

sigs_inner : (g : List (ℕ × List ℕ)) (sigs : List Sig) (line : Line) → is_inner line ≡ true → sigs_with g sigs line ≡ sigs
sigs_inner g sigs (said.Declare head) e = cc
sigs_inner g sigs (said.Define head) e = cc
sigs_inner g sigs _ e = refl

sigs_fold : (g : List (ℕ × List ℕ)) → IsFold (List Sig) (sigs_after g) (λ sigs n line rest. sigs_with g sigs line) (λ sigs n line. sigs_with g sigs line) (define_sigs g)
sigs_fold g = record {
  none = λ s. refl;
  one = λ s l ls. refl;
  inner = λ sigs n line rest e. sigs_inner g sigs line e;
  close = λ s n rest. refl;
  outer = λ sigs n line rest e. refl;
  defines = λ s n head rest. refl;
}

sigs_line : (g : List (ℕ × List ℕ)) (sigs : List Sig) (n : ℕ) (line : Line) → stands_outside line ≡ true → sigs_with g sigs line ≡ sigs ++ sigs_in (effects_in g) keeps_in (plain n line)
sigs_line g sigs n (said.Declare head) e = refl
sigs_line g sigs n (said.Define head) e = cc
sigs_line g sigs n _ e = append_none sigs

sigs_items : (g : List (ℕ × List ℕ)) (items : List ItemLines) → Each IsItem items → (sigs : List Sig)
    → items_after (λ sigs n line. sigs_with g sigs line) (define_sigs g) sigs items ≡ sigs ++ flat_map (sigs_in (effects_in g) keeps_in) items
sigs_items g [] h sigs = append_none sigs
sigs_items g (plain n line ∷ items) h sigs =
    sigs_items g items h.1 (sigs_with g sigs line) ∙ ap (λ ss. ss ++ flat_map (sigs_in (effects_in g) keeps_in) items) (sigs_line g sigs n line h.0)
    ∙ append_assoc sigs (sigs_in (effects_in g) keeps_in (plain n line)) (flat_map (sigs_in (effects_in g) keeps_in) items)
sigs_items g (body f ∷ items) h sigs =
    sigs_items g items h.1 (sigs ++ sig_by g f.head ∷ []) ∙ append_assoc sigs (sig_by g f.head ∷ []) (flat_map (sigs_in (effects_in g) keeps_in) items)

pub sigs_are : (g : List (ℕ × List ℕ)) (items : List ItemLines) → Each IsItem items → sigs_after g [] (flat_map item_lines items) ≡ flat_map (sigs_in (effects_in g) keeps_in) items
sigs_are g items h = along_items (sigs_after g) (λ sigs n line rest. sigs_with g sigs line) (λ sigs n line. sigs_with g sigs line) (define_sigs g) (sigs_fold g) items h [] ∙ sigs_items g items h []

-- the module
abbrev out_module : Outer → ModuleState → ℕ → Line → ModuleState
out_module o m n line = module_with o m n line []

abbrev define_module : Outer → ModuleState → ℕ → Head → List (ℕ × Line) → ModuleState
define_module o m n head lines = with_defined m head.name (sig_by o.groups head) (build.body_in o n head lines)

module_inner : (o : Outer) (m : ModuleState) (n : ℕ) (line : Line) (rest : List (ℕ × Line)) → is_inner line ≡ true → module_with o m n line rest ≡ m
module_inner o m n (said.Label name) rest e = refl
module_inner o m n (said.Inst name inst) rest e = refl
module_inner o m n (said.Term term) rest e = refl
module_inner o m n _ rest e = cc

module_outer : (o : Outer) (m : ModuleState) (n : ℕ) (line : Line) (rest : List (ℕ × Line)) → stands_outside line ≡ true → module_with o m n line rest ≡ module_with o m n line []
module_outer o m n (said.Define head) rest e = cc
module_outer o m n _ rest e = refl

module_fold : (o : Outer) → IsFold ModuleState (module_after o) (module_with o) (out_module o) (define_module o)
module_fold o = record {
  none = λ s. refl;
  one = λ s l ls. refl;
  inner = module_inner o;
  close = λ s n rest. refl;
  outer = module_outer o;
  defines = λ s n head rest. refl;
}

abbrev no_room : List ℕ → ℕ
no_room w = 0

abbrev parts : ModuleState → List Item → List Sig → List (Option FuncState) → List (List ℕ) → List (List ℕ) → ModuleState
parts m items sigs bodies funcs globals = record { groups = m.groups; items = items; sigs = sigs; bodies = bodies; names = record { funcs = funcs; globals = globals } }

-- a module with the items that follow
abbrev joined : Outer → (FuncLines → Scope) → ModuleState → List ItemLines → ModuleState
joined o scope m items = parts m
    (m.items ++ items_from (length m.names.funcs) (length m.names.globals) items)
    (m.sigs ++ flat_map (sigs_in (effects_in o.groups) keeps_in) items)
    (m.bodies ++ flat_map (bodies_in scope no_room) items)
    (m.names.funcs ++ flat_map func_names_in items)
    (m.names.globals ++ flat_map global_names_in items)

-- no name of the function is made again, and no written number is too small
abbrev pub IsMadeFine : FuncLines → Type 0
IsMadeFine f = (n : ℕ) → IsMadeFault (made_in f) n → ⊥

abbrev pub AreMadeFine : List ItemLines → Type 0
AreMadeFine items = (f : FuncLines) → Among items (body f) → IsMadeFine f

abbrev IsBodyBy : Outer → (FuncLines → Scope) → Type 0
IsBodyBy o scope = (f : FuncLines) → HasBlocks f.blocks → IsMadeFine f → build.body_in o f.line f.head (flat_map block_lines f.blocks) ≡ func_of (scope f) 0 f

joined_kept : (o : Outer) (scope : FuncLines → Scope) (m : ModuleState) (text : List ℕ) (items : List ItemLines) (n : ℕ) → joined o scope (with_kept m text) items ≡ joined o scope m (plain n (said.Kept text) ∷ items)
joined_kept o scope m text items n =
    ap (λ is. parts m is (m.sigs ++ flat_map (sigs_in (effects_in o.groups) keeps_in) items) (m.bodies ++ flat_map (bodies_in scope no_room) items)
    (m.names.funcs ++ flat_map func_names_in items) (m.names.globals ++ flat_map global_names_in items))
    (append_assoc m.items (item.Kept text ∷ []) (items_from (length m.names.funcs) (length m.names.globals) items))

joined_global : (o : Outer) (scope : FuncLines → Scope) (m : ModuleState) (name text : List ℕ) (items : List ItemLines) (n : ℕ)
    → joined o scope (with_global_item m name text) items ≡ joined o scope m (plain n (said.GlobalVar name text) ∷ items)
joined_global o scope m name text items n =
    let f = length m.names.funcs in
    let g = length m.names.globals in
    let here : List Item = item.Global (record { 0 = g }) text ∷ [] in
    let sigs = m.sigs ++ flat_map (sigs_in (effects_in o.groups) keeps_in) items in
    let bodies = m.bodies ++ flat_map (bodies_in scope no_room) items in
    let funcs = m.names.funcs ++ flat_map func_names_in items in
    ap (λ k. parts m ((m.items ++ here) ++ items_from f k items) sigs bodies funcs ((m.names.globals ++ name ∷ []) ++ flat_map global_names_in items)) (length_push m.names.globals name)
    ∙ ap (λ is. parts m is sigs bodies funcs ((m.names.globals ++ name ∷ []) ++ flat_map global_names_in items)) (append_assoc m.items here (items_from f (suc g) items))
    ∙ ap (λ gs. parts m (m.items ++ (here ++ items_from f (suc g) items)) sigs bodies funcs gs) (append_assoc m.names.globals (name ∷ []) (flat_map global_names_in items))

-- a function more, whatever its line and body are
joined_func : (o : Outer) (scope : FuncLines → Scope) (m : ModuleState) (name : List ℕ) (sig : Sig) (func : Option FuncState) (line : Item) (items : List ItemLines)
    → parts m ((m.items ++ line ∷ []) ++ items_from (length (m.names.funcs ++ name ∷ [])) (length m.names.globals) items) ((m.sigs ++ sig ∷ []) ++ flat_map (sigs_in (effects_in o.groups) keeps_in) items)
    ((m.bodies ++ func ∷ []) ++ flat_map (bodies_in scope no_room) items) ((m.names.funcs ++ name ∷ []) ++ flat_map func_names_in items) (m.names.globals ++ flat_map global_names_in items)
    ≡ parts m (m.items ++ line ∷ items_from (suc (length m.names.funcs)) (length m.names.globals) items) (m.sigs ++ sig ∷ flat_map (sigs_in (effects_in o.groups) keeps_in) items)
    (m.bodies ++ func ∷ flat_map (bodies_in scope no_room) items) (m.names.funcs ++ name ∷ flat_map func_names_in items) (m.names.globals ++ flat_map global_names_in items)
joined_func o scope m name sig func line items =
    let f = length m.names.funcs in
    let g = length m.names.globals in
    let more_sigs = flat_map (sigs_in (effects_in o.groups) keeps_in) items in
    let more_bodies = flat_map (bodies_in scope no_room) items in
    let more_funcs = flat_map func_names_in items in
    let globals = m.names.globals ++ flat_map global_names_in items in
    let one_line : List Item = line ∷ [] in
    let one_sig : List Sig = sig ∷ [] in
    let one_body : List (Option FuncState) = func ∷ [] in
    let one_name : List (List ℕ) = name ∷ [] in
    ap (λ k. parts m ((m.items ++ one_line) ++ items_from k g items) ((m.sigs ++ one_sig) ++ more_sigs) ((m.bodies ++ one_body) ++ more_bodies) ((m.names.funcs ++ one_name) ++ more_funcs) globals) (length_push m.names.funcs name)
    ∙ ap (λ is. parts m is ((m.sigs ++ one_sig) ++ more_sigs) ((m.bodies ++ one_body) ++ more_bodies) ((m.names.funcs ++ one_name) ++ more_funcs) globals) (append_assoc m.items one_line (items_from (suc f) g items))
    ∙ ap (λ ss. parts m (m.items ++ (one_line ++ items_from (suc f) g items)) ss ((m.bodies ++ one_body) ++ more_bodies) ((m.names.funcs ++ one_name) ++ more_funcs) globals) (append_assoc m.sigs one_sig more_sigs)
    ∙ ap (λ bs. parts m (m.items ++ (one_line ++ items_from (suc f) g items)) (m.sigs ++ (one_sig ++ more_sigs)) bs ((m.names.funcs ++ one_name) ++ more_funcs) globals) (append_assoc m.bodies one_body more_bodies)
    ∙ ap (λ ws. parts m (m.items ++ (one_line ++ items_from (suc f) g items)) (m.sigs ++ (one_sig ++ more_sigs)) (m.bodies ++ (one_body ++ more_bodies)) ws globals) (append_assoc m.names.funcs one_name more_funcs)

joined_line : (o : Outer) (scope : FuncLines → Scope) (m : ModuleState) (n : ℕ) (line : Line) (items : List ItemLines) → stands_outside line ≡ true → joined o scope (out_module o m n line) items ≡ joined o scope m (plain n line ∷ items)
joined_line o scope m n (said.Kept text) items e = joined_kept o scope m text items n
joined_line o scope m n (said.Group number text) items e = joined_kept o scope m text items n
joined_line o scope m n (said.GlobalVar name text) items e = joined_global o scope m name text items n
joined_line o scope m n (said.Declare head) items e =
    joined_func o scope m head.name (sig_by o.groups head) None (item.Declared (record { 0 = length m.names.funcs }) (printed (said.Declare head))) items
joined_line o scope m n _ items e = cc

module_items : (o : Outer) (scope : FuncLines → Scope) → IsBodyBy o scope → (items : List ItemLines) → Each IsItem items → AreMadeFine items → (m : ModuleState)
    → items_after (out_module o) (define_module o) m items ≡ joined o scope m items
module_items o scope is [] h fine m =
    ap (λ xs. parts m xs m.sigs m.bodies m.names.funcs m.names.globals) (append_none m.items)
    ∙ ap (λ xs. parts m (m.items ++ []) xs m.bodies m.names.funcs m.names.globals) (append_none m.sigs)
    ∙ ap (λ xs. parts m (m.items ++ []) (m.sigs ++ []) xs m.names.funcs m.names.globals) (append_none m.bodies)
    ∙ ap (λ xs. parts m (m.items ++ []) (m.sigs ++ []) (m.bodies ++ []) xs m.names.globals) (append_none m.names.funcs)
    ∙ ap (λ xs. parts m (m.items ++ []) (m.sigs ++ []) (m.bodies ++ []) (m.names.funcs ++ []) xs) (append_none m.names.globals)
module_items o scope is (plain n line ∷ items) h fine m = module_items o scope is items h.1 (λ f there. fine f (inr there)) (out_module o m n line) ∙ joined_line o scope m n line items h.0
module_items o scope is (body f ∷ items) h fine m =
    ap (λ b. items_after (out_module o) (define_module o) (with_defined m f.head.name (sig_by o.groups f.head) b) items) (is f h.0 (fine f (inl refl)))
    ∙ module_items o scope is items h.1 (λ g there. fine g (inr there)) (with_defined m f.head.name (sig_by o.groups f.head) (func_of (scope f) 0 f))
    ∙ joined_func o scope m f.head.name (sig_by o.groups f.head) (Some (func_of (scope f) 0 f)) (item.Defined (record { 0 = length m.names.funcs })) items

-- what a function's lines are read under
abbrev outer_of : List ItemLines → Outer
outer_of items = record {
  symbols = symbols_after no_symbols (flat_map item_lines items);
  sigs = flat_map (sigs_in (effects_in (groups_of items)) keeps_in) items;
  groups = groups_of items;
}

abbrev pub scope_by_items : List ItemLines → FuncLines → Scope
scope_by_items items f = scope_of (effects_in (groups_of items)) keeps_in items f

scope_is : (items : List ItemLines) → Each IsItem items → (f : FuncLines) → HasBlocks f.blocks → IsMadeFine f
    → scope_with (register_in f.line f.head (flat_map block_lines f.blocks)) (outer_of items).symbols (outer_of items).sigs (groups_of items) ≡ scope_by_items items f
scope_is items h f k fine =
    let symbols = (outer_of items).symbols in
    let sigs = (outer_of items).sigs in
    let groups = groups_of items in
    let mk : List Name → List Name → List (List ℕ) → List (List ℕ) → Scope =
    λ locals blocks funcs globals. record { locals = locals; blocks = blocks; funcs = funcs; globals = globals; sigs = sigs; effects = effects_in groups; keeps = keeps_in } in
    ap (λ (r : Register). scope_with r symbols sigs groups) (register_is f k)
    ∙ ap (λ ls. mk ls (register_all no_names (made_in f)).blocks symbols.funcs symbols.globals) (locals_are f fine)
    ∙ ap (λ bs. mk (locals_of f) bs symbols.funcs symbols.globals) (blocks_are f fine)
    ∙ ap (λ fs. mk (locals_of f) (blocks_of f) fs symbols.globals) (funcs_are items h)
    ∙ ap (λ gs. mk (locals_of f) (blocks_of f) (flat_map func_names_in items) gs) (globals_are items h)

body_by : (items : List ItemLines) → Each IsItem items → IsBodyBy (outer_of items) (scope_by_items items)
body_by items h f k fine =
    ap (λ s. build.func_in s f.head (flat_map block_lines f.blocks)) (scope_is items h f k fine) ∙ func_is (scope_by_items items f) f

pub built_is : (items : List ItemLines) → Each IsItem items → AreMadeFine items
    → built (symbols_after no_symbols (flat_map item_lines items)) (flat_map item_lines items) ≡ module_of (effects_in (groups_of items)) keeps_in no_room items
built_is items h fine =
    let lines = flat_map item_lines items in
    let symbols = symbols_after no_symbols lines in
    let with_groups : List (ℕ × List ℕ) → ModuleState = λ g. module_after (record { symbols = symbols; sigs = sigs_after g [] lines; groups = g }) (no_module g) lines in
    let with_sigs : List Sig → ModuleState = λ sigs. module_after (record { symbols = symbols; sigs = sigs; groups = groups_of items }) (no_module (groups_of items)) lines in
    let o = outer_of items in
    ap with_groups (groups_are items h) ∙ ap with_sigs (sigs_are (groups_of items) items h)
    ∙ along_items (module_after o) (module_with o) (out_module o) (define_module o) (module_fold o) items h (no_module (groups_of items))
    ∙ module_items o (scope_by_items items) (body_by items h) items h fine (no_module (groups_of items))
