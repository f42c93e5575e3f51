-- A draft is accepted as one module, but for the room of its functions.
use Rattle.std.proofs.Common.{◌≡◌, inl, inr, ℕ, Bool, List, [], ◌∷◌, ◌++◌, Option, Some, None, map, refl, sym, ap, subst, ◌∙◌}
use Rattle.std.specs.List.{flat_map}
use Rattle.std.specs.Option.{option_map}
use Rattle.std.proofs.lemmas.List.{map-append}
use mathlib.Core.Path.{fun_ext}
use Rattle.ms_attrs.proofs.MeaningLemmas.{some_effects, one_effects, some_keeps, one_keeps}
use Rattle.ms_ir.specs.declared.inst.Effects.{Effects}
use Rattle.ms_ir.specs.Func.{FuncState}
use Rattle.ms_ir.specs.Module.{ModuleState}
use Rattle.ms_grammar.specs.declared.line.Line.{Line}
use Rattle.ms_grammar.specs.declared.line.Line.TheVariants as said
use Rattle.ms_read.specs.Draft.{IsDraft}
use Rattle.ms_read.proofs.OneDraft.{one_draft}
use Rattle.ms_resolve.specs.Shape.{FuncLines, ItemLines, plain, body}
use Rattle.ms_resolve.specs.Meaning.{effects_in, keeps_in}
use Rattle.ms_resolve.specs.Scope.{Scope, func_of}
use Rattle.ms_resolve.specs.Module.{groups_of, bodies_in, scope_of, module_of}
use Rattle.ms_resolve.specs.Draft.{symbols_after, no_symbols}
use Rattle.ms_resolve.specs.Build.{bare, bare_module, built}
use Rattle.ms_names.specs.Faults.{small, again, inside}
use Rattle.ms_names.proofs.Members.{among_in}
use Rattle.ms_resolve.specs.Cause.{NoNameFault}
use Rattle.ms_resolve.proofs.ModuleFacts.{AreMadeFine, built_is}
use Rattle.ms_validity.specs.Cause.{IsAccepted}
use Rattle.ms_again.specs.Same.{plain_func, plain_module, IsSameModule}

-- the bodies of items but for their room
no_bodies : (scope : FuncLines → Scope) (spare : List ℕ → ℕ) (n : ℕ) (l : Line) → bodies_in scope spare (plain n l) ≡ bodies_in scope (λ w. 0) (plain n l)
no_bodies scope spare n said.Empty = refl
no_bodies scope spare n said.Close = refl
no_bodies scope spare n (said.Kept text) = refl
no_bodies scope spare n (said.Group g text) = refl
no_bodies scope spare n (said.GlobalVar g text) = refl
no_bodies scope spare n (said.Label l) = refl
no_bodies scope spare n (said.Declare h) = refl
no_bodies scope spare n (said.Define h) = refl
no_bodies scope spare n (said.Inst r i) = refl
no_bodies scope spare n (said.Term t) = refl

abbrev bare_all : List (Option FuncState) → List (Option FuncState)
bare_all bs = map (option_map bare) bs

bodies_bare : (scope : FuncLines → Scope) (spare : List ℕ → ℕ) (items : List ItemLines) → bare_all (flat_map (bodies_in scope spare) items) ≡ bare_all (flat_map (bodies_in scope (λ w. 0)) items)
bodies_bare scope spare [] = refl
bodies_bare scope spare (plain n line ∷ rest) =
    let new = bodies_in scope spare in
    let old = bodies_in scope (λ w. 0) in
    map-append (option_map bare) (new (plain n line)) (flat_map new rest)
    ∙ ap (λ (bs : List (Option FuncState)). bare_all bs ++ bare_all (flat_map new rest)) (no_bodies scope spare n line)
    ∙ ap (λ (bs : List (Option FuncState)). bare_all (old (plain n line)) ++ bs) (bodies_bare scope spare rest)
    ∙ sym (map-append (option_map bare) (old (plain n line)) (flat_map old rest))
bodies_bare scope spare (body f ∷ rest) =
    ap (λ (bs : List (Option FuncState)). Some (func_of (scope f) 0 f) ∷ bs) (bodies_bare scope spare rest)

-- where lines have no fault in their names, no function makes a name twice
none_made : (items : List ItemLines) → NoNameFault items → AreMadeFine items
none_made items h = λ f there n e. h n (inside f (among_in items (body f) there) (elim e [ inl s ↦ small s | inr a ↦ again a ]))

-- an accepted module is the one that the draft's lines build
accepted_built : (draft : List (ℕ × Line)) (m : ModuleState) → IsAccepted draft m → bare_module m ≡ bare_module (built (symbols_after no_symbols draft) draft)
accepted_built draft m a =
    let items = a.items in
    let groups = groups_of items in
    let whole = a.named.whole in
    let effects : whole.meaning.effects ≡ effects_in groups =
    fun_ext (λ post. one_effects post groups (whole.meaning.effects post) (effects_in groups post) (whole.meaning.effects_are post) (some_effects post groups).1) in
    let keeps : whole.meaning.keeps ≡ keeps_in = fun_ext (λ attrs. one_keeps attrs (whole.meaning.keeps attrs) (keeps_in attrs) (whole.meaning.keeps_are attrs) (some_keeps attrs).1) in
    let M : (List ℕ → Effects) → (List ℕ → Bool) → ModuleState = λ e k. bare_module (module_of e k whole.spare items) in
    let N : List (Option FuncState) → ModuleState = λ bs. let x : ModuleState = record (module_of (effects_in groups) keeps_in (λ w. 0) items) { bodies = bs } in x in
    ap bare_module whole.module_is
    ∙ ap (λ e. M e whole.meaning.keeps) effects
    ∙ ap (λ k. M (effects_in groups) k) keeps
    ∙ ap N (bodies_bare (scope_of (effects_in groups) keeps_in items) whole.spare items)
    ∙ ap bare_module (sym (built_is items a.named.shape.each (none_made items a.named.sound)))
    ∙ ap (λ (d : List (ℕ × Line)). bare_module (built (symbols_after no_symbols d) d)) (sym a.named.shape.lines)

pub one_module : (draft : List (ℕ × Line)) (m n : ModuleState) → IsAccepted draft m → IsAccepted draft n → bare_module m ≡ bare_module n
one_module draft m n one other = accepted_built draft m one ∙ sym (accepted_built draft n other)

-- modules that differ in room alone are the same
plain_bare : (bs : List (Option FuncState)) → map (option_map plain_func) (bare_all bs) ≡ map (option_map plain_func) bs
plain_bare [] = refl
plain_bare (None ∷ bs) = ap (λ (xs : List (Option FuncState)). None ∷ xs) (plain_bare bs)
plain_bare (Some f ∷ bs) = ap (λ (xs : List (Option FuncState)). Some (plain_func f) ∷ xs) (plain_bare bs)

module_bare : (m : ModuleState) → plain_module (bare_module m) ≡ plain_module m
module_bare m = ap (λ bs. let x : ModuleState = record m { bodies = bs } in x) (plain_bare m.bodies)

same_by_room : (m n : ModuleState) → bare_module m ≡ bare_module n → IsSameModule m n
same_by_room m n e = record { same = sym (module_bare m) ∙ ap plain_module e ∙ module_bare n }

-- whatever a text is read and accepted as is the same module
pub only_same : (text : List ℕ) (draft other : List (ℕ × Line)) (m n : ModuleState) → IsDraft text draft → IsAccepted draft m → IsDraft text other → IsAccepted other n → IsSameModule m n
only_same text draft other m n read accepted reread there =
    let e : other ≡ draft = one_draft text other draft reread read in
    same_by_room m n (one_module draft m n accepted (subst (λ (d : List (ℕ × Line)). IsAccepted d n) e there))
