-- An accepted module that is printed is read and accepted as the same module, and prints the same text.
use Rattle.std.proofs.Common.{◌≡◌, ◌<◌, ◌^◌, ℕ, List, None, length, refl, sym, ap, subst, ◌∙◌}
use Rattle.std.specs.List.{flat_map}
use Rattle.ms_ir.specs.Module.{ModuleState}
use Rattle.ms_grammar.specs.Kept.{Each}
use Rattle.ms_grammar.specs.declared.line.Line.{Line}
use Rattle.ms_print.specs.Text.{module_text}
use Rattle.ms_read.specs.Draft.{IsDraft}
use Rattle.ms_read.specs.Told.{IsSaid, IsPlaced, sorts_of}
use Rattle.ms_read.proofs.Told.{told_lines, told_places}
use Rattle.ms_resolve.specs.Shape.{ItemLines, item_lines, IsShape}
use Rattle.ms_resolve.specs.Module.{module_of}
use Rattle.ms_validity.specs.Cause.{IsAccepted, HasNone}
use Rattle.ms_validity.specs.Faults.{HasTypeFault, HasEdgeFault, HasOrderFault}
use Rattle.ms_again.specs.Same.{plain_module, IsSameModule}
use Rattle.ms_again.specs.Again.{IsReadAgain, IsReadInOrder}
use Rattle.ms_again.specs.Basis.{IsBasis}
use Rattle.ms_again.specs.Ordered.{IsSameInOrder}
use Rattle.ms_again.proofs.SameText.{same_text}
use Rattle.ms_again.proofs.InOrder.{same_text as ordered_text}
use Rattle.ms_again.proofs.Ordered.{in_order}
use Rattle.ms_again.proofs.Again.{items_said, items_again, items_shape}
use Rattle.ms_again.proofs.Printed.{rows_text}
use Rattle.ms_again.proofs.Sites.{each_flat}
use Rattle.ms_again.proofs.Known.{IsSound}
use Rattle.ms_again.proofs.Draft.{AreNamed, module_named, text_is, text_read}
use Rattle.ms_again.proofs.SameModule.{module_same, meaning_again}
use Rattle.ms_again.proofs.OneModule.{only_same}
use Rattle.ms_again.proofs.NameSound.{names_sound}
use Rattle.ms_again.proofs.ValidSound.{types_sound, edges_sound, order_sound, loops_sound}

-- the items of a draft, whose lines rows say
basis_of : (bytes : List ℕ) (draft : List (ℕ × Line)) (items : List ItemLines) → IsDraft bytes draft → IsShape draft items → IsBasis items
basis_of bytes draft items read shape =
    let lines : Each (λ (e : ℕ × Line). IsSaid e.1) (flat_map item_lines items) = subst (λ (d : List (ℕ × Line)). Each (λ (e : ℕ × Line). IsSaid e.1) d) shape.lines (told_lines bytes draft read) in
    record {
      each = shape.each;
      said_all = each_flat (λ (e : ℕ × Line). IsSaid e.1) item_lines items lines;
      placed = subst (λ (d : List (ℕ × Line)). IsPlaced (sorts_of d)) shape.lines (told_places bytes draft read);
    }

-- the printed items are an accepted module
accepted_again : (draft : List (ℕ × Line)) (m : ModuleState) (a : IsAccepted draft m) (named : AreNamed a.items) →
    IsAccepted (flat_map item_lines (items_again 1 None a.items)) (module_of a.named.whole.meaning.effects a.named.whole.meaning.keeps a.named.whole.spare (items_again 1 None a.items))
accepted_again draft m a named =
    let items = a.items in
    let whole = a.named.whole in
    let effects = whole.meaning.effects in
    let keeps = whole.meaning.keeps in
    let is = whole.module_is in
    record {
      items = items_again 1 None items;
      named = record {
        shape = record { lines = refl; each = items_shape 1 None items a.named.shape.each };
        sound = names_sound items a.named.sound named;
        whole = record { meaning = meaning_again items whole.meaning; spare = whole.spare; module_is = refl };
      };
      types = types_sound effects keeps whole.spare items named (subst (λ (n : ModuleState). HasNone (HasTypeFault items n)) is a.types);
      edges = edges_sound effects keeps whole.spare items named (subst (λ (n : ModuleState). HasNone (HasEdgeFault items n)) is a.edges);
      order = order_sound effects keeps whole.spare items named (subst (λ (n : ModuleState). HasNone (HasOrderFault items n)) is a.order);
      reducible = loops_sound (module_of effects keeps whole.spare (items_again 1 None items)) m (module_same effects keeps whole.spare items named ∙ ap plain_module (sym is)) a.reducible;
    }

same_chain : (m n o : ModuleState) → IsSameModule m n → IsSameModule n o → IsSameModule m o
same_chain m n o one other = record { same = one.same ∙ other.same }

pub items_again_read : (draft : List (ℕ × Line)) (m : ModuleState) (a : IsAccepted draft m) → IsBasis a.items → length (module_text m) < 10 ^ 9 → IsReadAgain m
items_again_read draft m a basis short =
    let items = a.items in
    let whole = a.named.whole in
    let effects = whole.meaning.effects in
    let keeps = whole.meaning.keeps in
    let own = module_of effects keeps whole.spare items in
    let again = module_of effects keeps whole.spare (items_again 1 None items) in
    let is : m ≡ own = whole.module_is in
    let sound : IsSound effects keeps whole.spare items = record { names = a.named.sound; types = subst (λ (n : ModuleState). HasNone (HasTypeFault items n)) is a.types } in
    let text : module_text m ≡ rows_text (items_said None items) = ap module_text is ∙ text_is effects keeps whole.spare items sound basis in
    let named = module_named effects keeps whole.spare items sound basis (subst (λ (t : List ℕ). length t < 10 ^ 9) text short) in
    let same : IsSameModule m again = record { same = ap plain_module is ∙ sym (module_same effects keeps whole.spare items named) } in
    let new : List (ℕ × Line) = flat_map item_lines (items_again 1 None items) in
    let new_read : IsDraft (module_text m) new = subst (λ (t : List ℕ). IsDraft t new) (sym (ap module_text is)) (text_read effects keeps whole.spare items sound basis named) in
    let accepted : IsAccepted new again = accepted_again draft m a named in
    record {
      draft = new;
      other = again;
      read = new_read;
      accepted = accepted;
      same = same;
      text = sym (same_text m again same);
      only = λ d n there accepted_there. same_chain m again n same (only_same (module_text m) new d again n new_read accepted there accepted_there);
    }

pub read_again : (bytes : List ℕ) (draft : List (ℕ × Line)) (m : ModuleState) → IsDraft bytes draft → IsAccepted draft m → length (module_text m) < 10 ^ 9 → IsReadAgain m
read_again bytes draft m read a short = items_again_read draft m a (basis_of bytes draft a.items read a.named.shape) short

-- a module that is the same in order
pub read_in_order : (m n : ModuleState) → IsSameInOrder m n → IsReadAgain n → IsReadInOrder m
read_in_order m n one again =
    let text : module_text m ≡ module_text n = ordered_text m n one in
    record {
      draft = again.draft;
      other = again.other;
      read = subst (λ (t : List ℕ). IsDraft t again.draft) (sym text) again.read;
      accepted = again.accepted;
      same = record { same = one.same ∙ (in_order n again.other again.same).same };
      text = again.text ∙ sym text;
      only = λ d o there accepted.
          let same = in_order n o (again.only d o (subst (λ (t : List ℕ). IsDraft t d) text there) accepted) in
          record { same = one.same ∙ same.same };
    }
