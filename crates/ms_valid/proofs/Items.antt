-- What is accepted for a draft that was read is an accepted module.
use Rattle.std.proofs.Common.{◌≡◌, ◌∙◌, ◌≤◌, ℕ, zero, suc, Bool, true, false, List, [], ◌∷◌, ◌++◌, length, map, drop, Option, Some, None, refl, sym, ap, subst, inl, inr, arith}
use Rattle.std.specs.List.{slice_get, flat_map}
use Rattle.ms_attrs.specs.Effects.{IsEffectsOf}
use Rattle.ms_ir.specs.declared.names.Mark.{Mark}
use Rattle.ms_ir.specs.declared.names.Param.{Param}
use Rattle.ms_ir.specs.declared.module.Sig.{Sig}
use Rattle.ms_ir.specs.declared.module.Item.{Item}
use Rattle.ms_ir.specs.Func.{FuncState}
use Rattle.ms_ir.specs.Module.{ModuleState}
use Rattle.ms_ir.specs.Symbols.{NamesState, AreDistinct}
use Rattle.ms_grammar.specs.Kept.{Each}
use Rattle.ms_grammar.specs.Form.{printed}
use Rattle.ms_grammar.specs.Grammar.{Says, kept_of, without_name}
use Rattle.ms_grammar.specs.declared.line.Head.{Head}
use Rattle.ms_grammar.specs.declared.line.Line.{Line}
use Rattle.ms_grammar.specs.declared.line.Line.TheVariants as said
use Rattle.ms_read.specs.Told.{IsSaid}
use Rattle.ms_read.specs.declared.place.Place.TheVariants.{Outside}
use Rattle.ms_resolve.specs.Shape.{FuncLines, ItemLines, plain, body, func_lines, item_lines, IsItem}
use Rattle.ms_resolve.specs.Scope.{Meaning, Scope, mark_of, sig_in}
use Rattle.ms_resolve.specs.Module.{IsModuleOf, funcs_of, func_names_in, global_names_in, groups_of, items_from, sigs_in, scope_of, bodies_in}
use Rattle.ms_validity.specs.Cause.{IsAccepted}
use Rattle.ms_validity.proofs.FaultLemmas.{built, at_body}
use Rattle.ms_valid.specs.Module.{IsSaidLine, IsHeadOf, IsDeclaredBy, IsDefinedBy, IsGlobalBy, IsEnd, AreItems, IsAcceptedModule}
use Rattle.ms_valid.proofs.Distinct.{names_distinct}
use Rattle.ms_valid.proofs.Places.{Leads}
use Rattle.ms_valid.proofs.Sound.{accepted_sound}
use Rattle.ms_valid.proofs.Whole.{accepted_of}

pub each_rest : {A : Type 0} (P : A → Type 0) (xs ys : List A) → Each P (xs ++ ys) → Each P ys
each_rest P [] ys h = h
each_rest P (x ∷ xs) ys h = each_rest P xs ys h.1

-- what is left of a list from a place on
abbrev IsLeft : {X : Type 0} → List X → ℕ → List X → Type 0
IsLeft xs k rest = (drop k xs ≡ rest) × (k ≤ length xs)

next_left : {X : Type 0} (xs : List X) (k : ℕ) (x : X) (rest : List X) → IsLeft xs k (x ∷ rest) → (slice_get xs k ≡ Some x) × IsLeft xs (suc k) rest
next_left [] zero x rest h = let e : [] ≡ x ∷ rest = h.0 in cc
next_left [] (suc k) x rest h = absurd (let lt = h.1 in omega (arith, lt))
next_left (y ∷ xs) zero x rest h =
    let e : y ∷ xs ≡ x ∷ rest = h.0 in
    let same : y ≡ x = cc in
    let behind : xs ≡ rest = cc in
    (ap Some same, (behind, omega arith))
next_left (y ∷ xs) (suc k) x rest h = let r = next_left xs k x rest (h.0, omega (arith, h.1)) in (r.0, (r.1.0, omega (arith, r.1.1)))

none_left : {X : Type 0} (xs : List X) (k : ℕ) → IsLeft xs k [] → length xs ≡ k
none_left [] zero h = refl
none_left [] (suc k) h = absurd (let lt = h.1 in omega (arith, lt))
none_left (y ∷ xs) zero h = let e : y ∷ xs ≡ [] = h.0 in cc
none_left (y ∷ xs) (suc k) h = ap suc (none_left xs k (h.0, omega (arith, h.1)))

all_left : {X : Type 0} (xs rest : List X) → xs ≡ rest → IsLeft xs 0 rest
all_left xs rest e = (e, omega arith)

-- a line outside functions that is no declare line is kept as it is
line_said : (line : Line) (h : IsSaid line) → ((written : Line) → line ≡ kept_of written → written ≡ line) → IsSaidLine line
line_said line h same = (h.row, subst (λ (v : Line). Says h.row v) (same h.read.written h.read.kept) h.read.says)

kept_kept : (text : List ℕ) (written : Line) → said.Kept text ≡ kept_of written → written ≡ said.Kept text
kept_kept text (said.Kept t) e = sym e
kept_kept text said.Empty e = cc
kept_kept text said.Close e = cc
kept_kept text (said.Group n t) e = cc
kept_kept text (said.GlobalVar name t) e = cc
kept_kept text (said.Label name) e = cc
kept_kept text (said.Declare head) e = cc
kept_kept text (said.Define head) e = cc
kept_kept text (said.Inst name inst) e = cc
kept_kept text (said.Term term) e = cc

kept_group : (number : ℕ) (text : List ℕ) (written : Line) → said.Group number text ≡ kept_of written → written ≡ said.Group number text
kept_group number text (said.Group n t) e = sym e
kept_group number text said.Empty e = cc
kept_group number text said.Close e = cc
kept_group number text (said.Kept t) e = cc
kept_group number text (said.GlobalVar name t) e = cc
kept_group number text (said.Label name) e = cc
kept_group number text (said.Declare head) e = cc
kept_group number text (said.Define head) e = cc
kept_group number text (said.Inst name inst) e = cc
kept_group number text (said.Term term) e = cc

kept_global : (name text : List ℕ) (written : Line) → said.GlobalVar name text ≡ kept_of written → written ≡ said.GlobalVar name text
kept_global name text (said.GlobalVar w t) e = sym e
kept_global name text said.Empty e = cc
kept_global name text said.Close e = cc
kept_global name text (said.Kept t) e = cc
kept_global name text (said.Group n t) e = cc
kept_global name text (said.Label w) e = cc
kept_global name text (said.Declare head) e = cc
kept_global name text (said.Define head) e = cc
kept_global name text (said.Inst w inst) e = cc
kept_global name text (said.Term term) e = cc

abbrev kept_head : Head → Head
kept_head head = record head { params = map without_name head.params }

-- a declare line with the names of its parameters
abbrev Declares : Head → Type 0
Declares head = (own : Head) × IsSaidLine (said.Declare own) × (head ≡ kept_head own)

declares : (head : Head) (bytes : List ℕ) (written : Line) → Says bytes written → said.Declare head ≡ kept_of written → Declares head
declares head bytes (said.Declare own) h e = (own, (bytes, h), cc)
declares head bytes said.Empty h e = cc
declares head bytes said.Close h e = cc
declares head bytes (said.Kept t) h e = cc
declares head bytes (said.Group n t) h e = cc
declares head bytes (said.GlobalVar w t) h e = cc
declares head bytes (said.Label w) h e = cc
declares head bytes (said.Define own) h e = cc
declares head bytes (said.Inst w inst) h e = cc
declares head bytes (said.Term term) h e = cc

module _ (draft : List (ℕ × Line)) (m : ModuleState) (said_are : Each (λ (entry : ℕ × Line). IsSaid entry.1) draft) (w : Leads Outside draft) (a : IsAccepted draft m) where
  abbrev whole : IsModuleOf a.items m
  whole = a.named.whole

  abbrev meaning : Meaning m.groups
  meaning = record {
    effects = whole.meaning.effects;
    keeps = whole.meaning.keeps;
    effects_are = λ post.
        subst (λ (groups : List (ℕ × List ℕ)). IsEffectsOf post groups (whole.meaning.effects post)) (sym (ap (λ (x : ModuleState). x.groups) whole.module_is)) (whole.meaning.effects_are post);
    keeps_are = whole.meaning.keeps_are;
  }

  abbrev scopes : FuncLines → Scope
  scopes = scope_of whole.meaning.effects whole.meaning.keeps a.items

  -- what is left of the module where these are the next numbers of a function, of a global and of a body
  abbrev AreLeft : ℕ → ℕ → ℕ → List ItemLines → Type 0
  AreLeft f g p items =
      IsLeft m.names.funcs f (flat_map func_names_in items)
      × IsLeft m.sigs f (flat_map (sigs_in whole.meaning.effects whole.meaning.keeps) items)
      × IsLeft m.bodies f (flat_map (bodies_in scopes whole.spare) items)
      × IsLeft m.names.globals g (flat_map global_names_in items)
      × IsLeft (funcs_of a.items) p (funcs_of items)

  marks_kept : (ps : List Param) → map (mark_of whole.meaning.keeps) (map without_name ps) ≡ map (mark_of whole.meaning.keeps) ps
  marks_kept [] = refl
  marks_kept (p ∷ ps) = ap (λ (marks : List Mark). mark_of whole.meaning.keeps p ∷ marks) (marks_kept ps)

  sig_kept : (own : Head) → sig_in whole.meaning.effects whole.meaning.keeps (kept_head own) ≡ sig_in whole.meaning.effects whole.meaning.keeps own
  sig_kept own =
      ap (λ (marks : List Mark). let sig : Sig = record { ret = own.ret; params = marks; variadic = own.variadic; effects = whole.meaning.effects own.post } in sig) (marks_kept own.params)

  declared_by : (f : ℕ) (head : Head) → IsSaid (said.Declare head) → slice_get m.names.funcs f ≡ Some head.name →
      slice_get m.sigs f ≡ Some (sig_in whole.meaning.effects whole.meaning.keeps head) → slice_get m.bodies f ≡ Some None → IsDeclaredBy m f (printed (said.Declare head))
  declared_by f head h name sig none =
      let r = declares head h.row h.read.written h.read.says h.read.kept in
      let own = r.0 in
      record {
        head = own;
        says = r.1;
        text_is = ap (λ (x : Head). printed (said.Declare x)) r.2;
        head_of = record {
          meaning = meaning;
          name_is = name ∙ ap (λ (x : Head). Some x.name) r.2;
          sig_is = sig ∙ ap (λ (x : Head). Some (sig_in whole.meaning.effects whole.meaning.keeps x)) r.2 ∙ ap (λ (x : Sig). Some x) (sig_kept own);
        };
        body_is = none;
      }

  defined_by : (f p : ℕ) (l : FuncLines) → slice_get m.names.funcs f ≡ Some l.head.name → slice_get m.sigs f ≡ Some (sig_in whole.meaning.effects whole.meaning.keeps l.head) →
      slice_get m.bodies f ≡ Some (Some (built a.items m whole l)) → slice_get (funcs_of a.items) p ≡ Some l → IsDefinedBy m f
  defined_by f p l name sig there lines_are =
      let func = built a.items m whole l in
      record {
        func = func;
        body_is = there;
        accepted = accepted_of draft m said_are w a p l lines_are (at_body a.items m whole p l lines_are) (accepted_sound draft m said_are w a f func there);
        head_of = record { meaning = meaning; name_is = name; sig_is = sig };
      }

  are_items : (f g p : ℕ) (items : List ItemLines) → Each IsItem items → Each (λ (entry : ℕ × Line). IsSaid entry.1) (flat_map item_lines items) → AreLeft f g p items →
      AreItems m f g (items_from f g items) (groups_of items)
  are_items f g p [] shape lines left = record {
    names = none_left m.names.funcs f left.0;
    sigs = none_left m.sigs f left.1;
    bodies = none_left m.bodies f left.2;
    globals = none_left m.names.globals g left.3;
    none_left = refl;
  }
  are_items f g p (plain n (said.Kept text) ∷ items) shape lines left =
      inl (line_said (said.Kept text) lines.0 (kept_kept text), are_items f g p items shape.1 lines.1 left)
  are_items f g p (plain n (said.Group number text) ∷ items) shape lines left =
      inr (number, groups_of items, line_said (said.Group number text) lines.0 (kept_group number text), refl, are_items f g p items shape.1 lines.1 left)
  are_items f g p (plain n (said.GlobalVar name text) ∷ items) shape lines left =
      let globals = next_left m.names.globals g name (flat_map global_names_in items) left.3 in (
        refl,
        record { name = name; says = line_said (said.GlobalVar name text) lines.0 (kept_global name text); name_is = globals.0 },
        are_items f (suc g) p items shape.1 lines.1 (left.0, left.1, left.2, globals.1, left.4),
      )
  are_items f g p (plain n (said.Declare head) ∷ items) shape lines left =
      let names = next_left m.names.funcs f head.name (flat_map func_names_in items) left.0 in
      let sigs = next_left m.sigs f (sig_in whole.meaning.effects whole.meaning.keeps head) (flat_map (sigs_in whole.meaning.effects whole.meaning.keeps) items) left.1 in
      let bodies = next_left m.bodies f None (flat_map (bodies_in scopes whole.spare) items) left.2 in (
        refl,
        declared_by f head lines.0 names.0 sigs.0 bodies.0,
        are_items (suc f) g p items shape.1 lines.1 (names.1, sigs.1, bodies.1, left.3, left.4),
      )
  are_items f g p (body l ∷ items) shape lines left =
      let names = next_left m.names.funcs f l.head.name (flat_map func_names_in items) left.0 in
      let sigs = next_left m.sigs f (sig_in whole.meaning.effects whole.meaning.keeps l.head) (flat_map (sigs_in whole.meaning.effects whole.meaning.keeps) items) left.1 in
      let bodies = next_left m.bodies f (Some (built a.items m whole l)) (flat_map (bodies_in scopes whole.spare) items) left.2 in
      let funcs = next_left (funcs_of a.items) p l (funcs_of items) left.4 in (
        refl,
        defined_by f p l names.0 sigs.0 bodies.0 funcs.0,
        are_items (suc f) g (suc p) items shape.1 (each_rest (λ (entry : ℕ × Line). IsSaid entry.1) (func_lines l) (flat_map item_lines items) lines) (names.1, sigs.1, bodies.1, left.3, funcs.1),
      )
  are_items f g p (plain n said.Empty ∷ items) shape lines left = let e = shape.0 in cc
  are_items f g p (plain n said.Close ∷ items) shape lines left = let e = shape.0 in cc
  are_items f g p (plain n (said.Label name) ∷ items) shape lines left = let e = shape.0 in cc
  are_items f g p (plain n (said.Define head) ∷ items) shape lines left = let e = shape.0 in cc
  are_items f g p (plain n (said.Inst name inst) ∷ items) shape lines left = let e = shape.0 in cc
  are_items f g p (plain n (said.Term term) ∷ items) shape lines left = let e = shape.0 in cc

  pub accepted_module : IsAcceptedModule m
  accepted_module =
      let is = whole.module_is in
      let items : AreItems m 0 0 (items_from 0 0 a.items) (groups_of a.items) =
      are_items 0 0 0 a.items a.named.shape.each (subst (Each (λ (entry : ℕ × Line). IsSaid entry.1)) a.named.shape.lines said_are) (
        all_left m.names.funcs (flat_map func_names_in a.items) (ap (λ (x : ModuleState). x.names.funcs) is),
        all_left m.sigs (flat_map (sigs_in whole.meaning.effects whole.meaning.keeps) a.items) (ap (λ (x : ModuleState). x.sigs) is),
        all_left m.bodies (flat_map (bodies_in scopes whole.spare) a.items) (ap (λ (x : ModuleState). x.bodies) is),
        all_left m.names.globals (flat_map global_names_in a.items) (ap (λ (x : ModuleState). x.names.globals) is),
        all_left (funcs_of a.items) (funcs_of a.items) refl,
      ) in
      record {
        items =
            subst (λ (groups : List (ℕ × List ℕ)). AreItems m 0 0 m.items groups) (sym (ap (λ (x : ModuleState). x.groups) is))
            (subst (λ (its : List Item). AreItems m 0 0 its (groups_of a.items)) (sym (ap (λ (x : ModuleState). x.items) is)) items);
        distinct =
            subst (λ (names : NamesState). AreDistinct (names.funcs ++ names.globals)) (sym (ap (λ (x : ModuleState). x.names) is)) (names_distinct a.items a.named.sound);
      }
