-- What is told of a draft, from what its lines give.
use Rattle.std.proofs.Common.{◌≡◌, ◌∙◌, inl, inr, ℕ, List, [], Option, Some, None, sym, ap, subst}
use Rattle.std.specs.List.{flat_map}
use Rattle.ms_ir.specs.Symbols.{AreDistinct}
use Rattle.ms_attrs.proofs.MeaningLemmas.{some_effects, some_keeps}
use Rattle.ms_grammar.specs.declared.line.Line.{Line}
use Rattle.ms_names.specs.Shape.{ItemLines, body, item_lines, IsShape}
use Rattle.ms_names.specs.Faults.{small, again, HasNameFault, symbol, inside, symbols_of}
use Rattle.ms_resolve.specs.Meaning.{effects_in, keeps_in}
use Rattle.ms_resolve.specs.Scope.{Meaning}
use Rattle.ms_resolve.specs.Module.{groups_of, func_names_in}
use Rattle.ms_resolve.specs.Cause.{IsLeastFault, IsResolved}
use Rattle.ms_names.specs.Draft.{symbols_after, no_symbols}
use Rattle.ms_names.specs.Uses.{least_after}
use Rattle.ms_resolve.specs.Build.{AreNew, bare_module, bodies_after, built}
use Rattle.ms_names.specs.declared.symbols.Symbols.{Symbols}
use Rattle.ms_resolve.specs.declared.resolved.Resolved.{Resolved}
use Rattle.ms_names.proofs.Members.{among_in}
use Rattle.ms_names.proofs.Least.{IsLeastOf}
use Rattle.ms_names.proofs.FaultFacts.{module_least, module_least_is}
use Rattle.ms_resolve.proofs.ModuleFacts.{AreMadeFine, built_is, bodies_are}
use Rattle.ms_resolve.proofs.NewFacts.{NoneAgain, are_new}
use Rattle.ms_resolve.proofs.RoomFacts.{room_in, room_is}

pub least_told : (draft lines : List (ℕ × Line)) (items : List ItemLines) → IsShape draft items → (symbols : Symbols) (least : Option ℕ) → lines ≡ draft
    → symbols ≡ symbols_after no_symbols lines → least ≡ least_after symbols.all symbols.least lines → IsLeastOf (HasNameFault items) least
least_told draft lines items shape symbols least same are is =
    let P : Option ℕ → Type 0 = λ o. IsLeastOf (HasNameFault items) o in
    let whole : least ≡ module_least (flat_map item_lines items) =
    is ∙ ap (λ (s : Symbols). least_after s.all s.least lines) are ∙ ap (λ ls. module_least ls) (same ∙ shape.lines) in
    subst P (sym whole) (module_least_is items shape.each)

pub fault_told : (draft : List (ℕ × Line)) (items : List ItemLines) → IsShape draft items → (n : ℕ) → IsLeastOf (HasNameFault items) (Some n) → IsLeastFault draft n
fault_told draft items shape n h = record { items = items; shape = shape; fault = h.0; least = h.1 }

none_again : (items : List ItemLines) → IsLeastOf (HasNameFault items) None → NoneAgain (symbols_of items)
none_again items h = λ n a. h n (symbol a)

none_made : (items : List ItemLines) → IsLeastOf (HasNameFault items) None → AreMadeFine items
none_made items h = λ f there n e. h n (inside f (among_in items (body f) there) (elim e [ inl s ↦ small s | inr a ↦ again a ]))

pub new_told : (draft lines : List (ℕ × Line)) (items : List ItemLines) → IsShape draft items → lines ≡ draft → IsLeastOf (HasNameFault items) None → AreNew (record { funcs = []; globals = [] }) lines
new_told draft lines items shape same h =
    let P : List (ℕ × Line) → Type 0 = λ ls. AreNew (record { funcs = []; globals = [] }) ls in
    subst P (sym (same ∙ shape.lines)) (are_new items shape.each (none_again items h))

abbrev meaning_of : (items : List ItemLines) → Meaning (groups_of items)
meaning_of items = record {
  effects = effects_in (groups_of items);
  keeps = keeps_in;
  effects_are = λ post. (some_effects post (groups_of items)).1;
  keeps_are = λ attrs. (some_keeps attrs).1;
}

pub resolved_told : (draft lines : List (ℕ × Line)) (items : List ItemLines) → IsShape draft items → (symbols : Symbols) (r : Resolved) → lines ≡ draft → symbols ≡ symbols_after no_symbols lines
    → IsLeastOf (HasNameFault items) None → bare_module r.«module» ≡ built symbols lines → AreDistinct r.«module».names.funcs → r.lines ≡ bodies_after [] lines → IsResolved draft r
resolved_told draft lines items shape symbols r same are none is distinct numbers =
    let whole : lines ≡ flat_map item_lines items = same ∙ shape.lines in
    let built_so : bare_module r.«module» ≡ built (symbols_after no_symbols (flat_map item_lines items)) (flat_map item_lines items) =
    is ∙ ap (λ (s : Symbols). built s lines) are ∙ ap (λ ls. built (symbols_after no_symbols ls) ls) whole in
    record {
      items = items;
      shape = shape;
      sound = none;
      whole = record {
        meaning = meaning_of items;
        spare = room_in (flat_map func_names_in items) r.«module».bodies;
        module_is = room_is (effects_in (groups_of items)) keeps_in items shape.each r.«module» distinct (built_so ∙ built_is items shape.each (none_made items none));
      };
      lines = numbers ∙ ap (λ ls. bodies_after [] ls) whole ∙ bodies_are items shape.each;
    }
