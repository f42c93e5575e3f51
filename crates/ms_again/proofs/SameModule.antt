-- The module of the printed items is the same module.
use Rattle.std.proofs.Common.{◌≡◌, ◌+◌, ℕ, Bool, true, false, List, [], ◌∷◌, ◌++◌, Option, Some, None, map, length, refl, sym, ap, subst, ◌∙◌}
use Rattle.std.specs.List.{flat_map}
use Rattle.std.specs.Option.{option_map}
use Rattle.std.proofs.lemmas.List.{map-append}
use Rattle.ms_ir.specs.declared.names.Name.{Name}
use Rattle.ms_ir.specs.declared.inst.Effects.{Effects}
use Rattle.ms_ir.specs.declared.module.Item.{Item}
use Rattle.ms_ir.specs.declared.module.Sig.{Sig}
use Rattle.ms_ir.specs.Symbols.{NamesState}
use Rattle.ms_ir.specs.Func.{FuncState}
use Rattle.ms_ir.specs.Module.{ModuleState}
use Rattle.ms_attrs.specs.Effects.{IsEffectsOf}
use Rattle.ms_grammar.specs.Kept.{Each}
use Rattle.ms_resolve.specs.Shape.{FuncLines, ItemLines, plain, body}
use Rattle.ms_resolve.specs.Made.{blocks_of}
use Rattle.ms_resolve.specs.Faults.{IsIn}
use Rattle.ms_resolve.specs.Scope.{Scope, Meaning}
use Rattle.ms_resolve.specs.Module.{groups_of, names_of, sigs_in, items_from, scope_of, bodies_in, module_of}
use Rattle.ms_again.specs.Same.{plain_func, plain_module}
use Rattle.ms_again.proofs.Names.{shown, locals_listed, blocks_listed}
use Rattle.ms_again.proofs.Plain.{plain_of, func_plain}
use Rattle.ms_again.proofs.Again.{func_said, gap_said, func_again, items_again}
use Rattle.ms_again.proofs.AgainNames.{locals_again, blocks_are_again}
use Rattle.ms_again.proofs.Sites.{each_at, built}
use Rattle.ms_again.proofs.Lines.{IsFineNamed}
use Rattle.ms_again.proofs.Draft.{AreNamed}
use Rattle.ms_again.proofs.Same.{shown_scope, plain_same, groups_same, names_same, sigs_same, items_same, line_bodies}

-- what the printed lines are read under
scope_same : (effects : List ℕ → Effects) (keeps : List ℕ → Bool) (items : List ItemLines) (row : ℕ) (f : FuncLines) → IsFineNamed f →
    scope_of effects keeps (items_again 1 None items) (func_again row f) ≡ shown_scope (scope_of effects keeps items f) f
scope_same effects keeps items row f named =
    let again = items_again 1 None items in
    let S : List Name → List Name → NamesState → List Sig → Scope = λ locals blocks names sigs. record {
      locals = locals;
      blocks = blocks;
      funcs = names.funcs;
      globals = names.globals;
      sigs = sigs;
      effects = effects;
      keeps = keeps;
    } in
    let new = func_again row f in
    ap (λ ns. S ns (blocks_of new) (names_of again) (flat_map (sigs_in effects keeps) again)) (locals_again row f named.few)
    ∙ ap (λ ns. S (locals_listed shown f) ns (names_of again) (flat_map (sigs_in effects keeps) again)) (blocks_are_again row f named.few)
    ∙ ap (λ names. S (locals_listed shown f) (blocks_listed shown f) names (flat_map (sigs_in effects keeps) again)) (names_same 1 None items)
    ∙ ap (λ sigs. S (locals_listed shown f) (blocks_listed shown f) (names_of items) sigs) (sigs_same effects keeps 1 None items)

-- a function of the printed lines is the same but for its names
pub built_same : (effects : List ℕ → Effects) (keeps : List ℕ → Bool) (spare : List ℕ → ℕ) (items : List ItemLines) (row : ℕ) (f : FuncLines) → IsFineNamed f →
    plain_func (built effects keeps spare (items_again 1 None items) (func_again row f)) ≡ plain_func (built effects keeps spare items f)
built_same effects keeps spare items row f named =
    let s = scope_of effects keeps items f in
    let t = scope_of effects keeps (items_again 1 None items) (func_again row f) in
    func_plain t (spare f.head.name) (func_again row f) refl refl
    ∙ ap (λ u. plain_of u (func_again row f)) (scope_same effects keeps items row f named)
    ∙ plain_same s f row refl refl named
    ∙ sym (func_plain s (spare f.head.name) f refl refl)

-- the bodies
abbrev IsNamedItem : ItemLines → Type 0
IsNamedItem (plain n line) = Unit {0}
IsNamedItem (body f) = IsFineNamed f

named_item : (items : List ItemLines) → AreNamed items → (item : ItemLines) → IsIn items item → IsNamedItem item
named_item items named (plain n line) on = tt
named_item items named (body f) on = named.each f on

abbrev bare_bodies : List (Option FuncState) → List (Option FuncState)
bare_bodies bs = map (option_map plain_func) bs

bodies_same : (effects : List ℕ → Effects) (keeps : List ℕ → Bool) (spare : List ℕ → ℕ) (all : List ItemLines) (row : ℕ) (before : Option Bool) (items : List ItemLines) → Each IsNamedItem items →
    bare_bodies (flat_map (bodies_in (scope_of effects keeps (items_again 1 None all)) spare) (items_again row before items)) ≡ bare_bodies (flat_map (bodies_in (scope_of effects keeps all) spare) items)
bodies_same effects keeps spare all row before [] h = refl
bodies_same effects keeps spare all row before (plain n line ∷ rest) h =
    let at = row + length (gap_said before false) in
    let new = bodies_in (scope_of effects keeps (items_again 1 None all)) spare in
    let old = bodies_in (scope_of effects keeps all) spare in
    let later = items_again (at + 1) (Some false) rest in
    map-append (option_map plain_func) (new (plain at line)) (flat_map new later)
    ∙ ap (λ (bs : List (Option FuncState)). bare_bodies bs ++ bare_bodies (flat_map new later)) (line_bodies (scope_of effects keeps all) (scope_of effects keeps (items_again 1 None all)) spare at n line)
    ∙ ap (λ (bs : List (Option FuncState)). bare_bodies (old (plain n line)) ++ bs) (bodies_same effects keeps spare all (at + 1) (Some false) rest h.1)
    ∙ sym (map-append (option_map plain_func) (old (plain n line)) (flat_map old rest))
bodies_same effects keeps spare all row before (body f ∷ rest) h =
    let at = row + length (gap_said before true) in
    let new = bodies_in (scope_of effects keeps (items_again 1 None all)) spare in
    let later = items_again (at + length (func_said f)) (Some true) rest in
    ap (λ g. Some g ∷ bare_bodies (flat_map new later)) (built_same effects keeps spare all at f h.0)
    ∙ ap (λ (bs : List (Option FuncState)). Some (plain_func (built effects keeps spare all f)) ∷ bs) (bodies_same effects keeps spare all (at + length (func_said f)) (Some true) rest h.1)

pub module_same : (effects : List ℕ → Effects) (keeps : List ℕ → Bool) (spare : List ℕ → ℕ) (items : List ItemLines) → AreNamed items →
    plain_module (module_of effects keeps spare (items_again 1 None items)) ≡ plain_module (module_of effects keeps spare items)
module_same effects keeps spare items named =
    let again = items_again 1 None items in
    let M : List (ℕ × List ℕ) → List Item → List Sig → List (Option FuncState) → NamesState → ModuleState = λ groups items sigs bodies names. record {
      groups = groups;
      items = items;
      sigs = sigs;
      bodies = bodies;
      names = names;
    } in
    let bodies = bare_bodies (module_of effects keeps spare again).bodies in
    let sigs = flat_map (sigs_in effects keeps) again in
    ap (λ gs. M gs (items_from 0 0 again) sigs bodies (names_of again)) (groups_same 1 None items)
    ∙ ap (λ is. M (groups_of items) is sigs bodies (names_of again)) (items_same 0 0 1 None items)
    ∙ ap (λ ss. M (groups_of items) (items_from 0 0 items) ss bodies (names_of again)) (sigs_same effects keeps 1 None items)
    ∙ ap (λ bs. M (groups_of items) (items_from 0 0 items) (flat_map (sigs_in effects keeps) items) bs (names_of again))
    (bodies_same effects keeps spare items 1 None items (each_at IsNamedItem items (λ k item e. named_item items named item (k, e))))
    ∙ ap (λ ns. M (groups_of items) (items_from 0 0 items) (flat_map (sigs_in effects keeps) items) (bare_bodies (module_of effects keeps spare items).bodies) ns) (names_same 1 None items)

-- attributes mean the same
abbrev pub meaning_again : (items : List ItemLines) → Meaning (groups_of items) → Meaning (groups_of (items_again 1 None items))
meaning_again items m = record {
  effects = m.effects;
  keeps = m.keeps;
  effects_are = λ post. let P : List (ℕ × List ℕ) → Type 0 = λ gs. IsEffectsOf post gs (m.effects post) in subst P (sym (groups_same 1 None items)) (m.effects_are post);
  keeps_are = m.keeps_are;
}
