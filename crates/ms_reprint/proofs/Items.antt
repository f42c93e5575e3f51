-- The items of an accepted module: their lines give its names, signatures, groups and items.
use Rattle.std.proofs.Common.{◌≡◌, ◌⊎◌, ℕ, zero, suc, Bool, List, [], ◌∷◌, drop, Some, length, map, refl, sym, ap, ◌∙◌, inl, inr, arith}
use Rattle.std.specs.Prelude.{slice_get}
use Rattle.std.specs.List.{flat_map}
use mathlib.Core.Path.{fun_ext}
use Rattle.ms_attrs.proofs.MeaningLemmas.{some_effects, one_effects, some_keeps, one_keeps}
use Rattle.ms_ir.specs.declared.names.Mark.{Mark}
use Rattle.ms_ir.specs.declared.names.Param.{Param}
use Rattle.ms_ir.specs.declared.names.FuncNo.{FuncNo}
use Rattle.ms_ir.specs.declared.names.GlobalNo.{GlobalNo}
use Rattle.ms_ir.specs.declared.inst.Effects.{Effects}
use Rattle.ms_ir.specs.declared.module.Item.{Item}
use Rattle.ms_ir.specs.declared.module.Item.TheVariants as item
use Rattle.ms_ir.specs.declared.module.Sig.{Sig}
use Rattle.ms_ir.specs.Func.{FuncState}
use Rattle.ms_ir.specs.Module.{ModuleState}
use Rattle.ms_grammar.specs.Form.{printed}
use Rattle.ms_grammar.specs.Grammar.{without_name}
use Rattle.ms_grammar.specs.declared.line.Head.{Head}
use Rattle.ms_grammar.specs.declared.line.Line.TheVariants as said
use Rattle.ms_resolve.specs.Meaning.{effects_in, keeps_in}
use Rattle.ms_resolve.specs.Shape.{ItemLines, plain, body}
use Rattle.ms_resolve.specs.Scope.{Meaning, mark_of, sig_in}
use Rattle.ms_resolve.specs.Module.{func_names_in, global_names_in, groups_of, sigs_in, items_from}
use Rattle.ms_print.specs.Numbering.{free_after, shown_params}
use Rattle.ms_valid.specs.Module.{IsHeadOf, IsDeclaredBy, IsGlobalBy, IsSaidLine, IsEnd}
use Rattle.ms_reprint.proofs.Faults.{Lined, func_lines}

-- ---- items whose functions have their lines

pub record LinedBy (m : ModuleState) (f : ℕ) : Type 0 where
  pub func : FuncState
  pub body_is : slice_get m.bodies f ≡ Some (Some func)
  pub lined : Lined m func
  pub head_of : IsHeadOf m f lined.accepted.all_said.head

abbrev pub AreLined : ModuleState → ℕ → ℕ → List Item → List (ℕ × List ℕ) → Type 0
AreLined m f g [] groups = IsEnd m f g groups
AreLined m f g (item.Kept text ∷ items) groups =
    (IsSaidLine (said.Kept text) × AreLined m f g items groups)
    ⊎ ((n : ℕ) × (rest : List (ℕ × List ℕ)) × IsSaidLine (said.Group n text) × (groups ≡ (n, text) ∷ rest) × AreLined m f g items rest)
AreLined m f g (item.Global number text ∷ items) groups = (number.0 ≡ g) × IsGlobalBy m g text × AreLined m f (suc g) items groups
AreLined m f g (item.Declared number text ∷ items) groups = (number.0 ≡ f) × IsDeclaredBy m f text × AreLined m (suc f) g items groups
AreLined m f g (item.Defined number ∷ items) groups = (number.0 ≡ f) × LinedBy m f × AreLined m (suc f) g items groups

abbrev pub bare : Head → Head
bare head = record head { params = map without_name head.params }

abbrev pub items_of : (m : ModuleState) (f g : ℕ) (xs : List Item) (groups : List (ℕ × List ℕ)) → AreLined m f g xs groups → List ItemLines
items_of m f g [] groups h = []
items_of m f g (item.Kept text ∷ xs) groups (inl h) = plain 0 (said.Kept text) ∷ items_of m f g xs groups h.1
items_of m f g (item.Kept text ∷ xs) groups (inr h) = plain 0 (said.Group h.0 text) ∷ items_of m f g xs h.1 h.4
items_of m f g (item.Global number text ∷ xs) groups h = plain 0 (said.GlobalVar h.1.name text) ∷ items_of m f (suc g) xs groups h.2
items_of m f g (item.Declared number text ∷ xs) groups h = plain 0 (said.Declare (bare h.1.head)) ∷ items_of m (suc f) g xs groups h.2
items_of m f g (item.Defined number ∷ xs) groups h = body (func_lines m h.1.func h.1.lined) ∷ items_of m (suc f) g xs groups h.2

-- ---- lists from a place on

pub drop_next : {X : Type 0} (xs : List X) (k : ℕ) (x : X) → slice_get xs k ≡ Some x → drop k xs ≡ x ∷ drop (suc k) xs
drop_next [] k x e = absurd (cc)
drop_next (y ∷ xs) zero x e = let same : y ≡ x = cc in ap (λ z. z ∷ xs) same
drop_next (y ∷ xs) (suc k) x e = drop_next xs k x e

pub drop_none : {X : Type 0} (xs : List X) (k : ℕ) → length xs ≡ k → drop k xs ≡ []
drop_none [] zero e = refl
drop_none [] (suc k) e = absurd (omega arith)
drop_none (x ∷ xs) zero e = absurd (omega arith)
drop_none (x ∷ xs) (suc k) e = drop_none xs k (omega arith)

-- ---- names

pub funcs_are : (m : ModuleState) (f g : ℕ) (xs : List Item) (groups : List (ℕ × List ℕ)) (h : AreLined m f g xs groups) → flat_map func_names_in (items_of m f g xs groups h) ≡ drop f m.names.funcs
funcs_are m f g [] groups h = sym (drop_none m.names.funcs f h.names)
funcs_are m f g (item.Kept text ∷ xs) groups (inl h) = funcs_are m f g xs groups h.1
funcs_are m f g (item.Kept text ∷ xs) groups (inr h) = funcs_are m f g xs h.1 h.4
funcs_are m f g (item.Global number text ∷ xs) groups h = funcs_are m f (suc g) xs groups h.2
funcs_are m f g (item.Declared number text ∷ xs) groups h =
    ap (λ (ns : List (List ℕ)). h.1.head.name ∷ ns) (funcs_are m (suc f) g xs groups h.2) ∙ sym (drop_next m.names.funcs f h.1.head.name h.1.head_of.name_is)
funcs_are m f g (item.Defined number ∷ xs) groups h =
    let name = h.1.lined.accepted.all_said.head.name in
    ap (λ (ns : List (List ℕ)). name ∷ ns) (funcs_are m (suc f) g xs groups h.2) ∙ sym (drop_next m.names.funcs f name h.1.head_of.name_is)

pub globals_are : (m : ModuleState) (f g : ℕ) (xs : List Item) (groups : List (ℕ × List ℕ)) (h : AreLined m f g xs groups) → flat_map global_names_in (items_of m f g xs groups h) ≡ drop g m.names.globals
globals_are m f g [] groups h = sym (drop_none m.names.globals g h.globals)
globals_are m f g (item.Kept text ∷ xs) groups (inl h) = globals_are m f g xs groups h.1
globals_are m f g (item.Kept text ∷ xs) groups (inr h) = globals_are m f g xs h.1 h.4
globals_are m f g (item.Global number text ∷ xs) groups h =
    ap (λ (ns : List (List ℕ)). h.1.name ∷ ns) (globals_are m f (suc g) xs groups h.2) ∙ sym (drop_next m.names.globals g h.1.name h.1.name_is)
globals_are m f g (item.Declared number text ∷ xs) groups h = globals_are m (suc f) g xs groups h.2
globals_are m f g (item.Defined number ∷ xs) groups h = globals_are m (suc f) g xs groups h.2

-- ---- groups and items

pub groups_are : (m : ModuleState) (f g : ℕ) (xs : List Item) (groups : List (ℕ × List ℕ)) (h : AreLined m f g xs groups) → groups_of (items_of m f g xs groups h) ≡ groups
groups_are m f g [] groups h = sym h.none_left
groups_are m f g (item.Kept text ∷ xs) groups (inl h) = groups_are m f g xs groups h.1
groups_are m f g (item.Kept text ∷ xs) groups (inr h) = ap (λ (gs : List (ℕ × List ℕ)). (h.0, text) ∷ gs) (groups_are m f g xs h.1 h.4) ∙ sym h.3
groups_are m f g (item.Global number text ∷ xs) groups h = groups_are m f (suc g) xs groups h.2
groups_are m f g (item.Declared number text ∷ xs) groups h = groups_are m (suc f) g xs groups h.2
groups_are m f g (item.Defined number ∷ xs) groups h = groups_are m (suc f) g xs groups h.2

func_no : (n : FuncNo) (f : ℕ) → n.0 ≡ f → record { 0 = f } ≡ n
func_no n f e = sym (ap (λ (k : ℕ). let r : FuncNo = record { 0 = k } in r) e)

global_no : (n : GlobalNo) (g : ℕ) → n.0 ≡ g → record { 0 = g } ≡ n
global_no n g e = sym (ap (λ (k : ℕ). let r : GlobalNo = record { 0 = k } in r) e)

pub items_are : (m : ModuleState) (f g : ℕ) (xs : List Item) (groups : List (ℕ × List ℕ)) (h : AreLined m f g xs groups) → items_from f g (items_of m f g xs groups h) ≡ xs
items_are m f g [] groups h = refl
items_are m f g (item.Kept text ∷ xs) groups (inl h) = ap (λ (is : List Item). item.Kept text ∷ is) (items_are m f g xs groups h.1)
items_are m f g (item.Kept text ∷ xs) groups (inr h) = ap (λ (is : List Item). item.Kept text ∷ is) (items_are m f g xs h.1 h.4)
items_are m f g (item.Global number text ∷ xs) groups h =
    ap (λ n. item.Global n text ∷ items_from f (suc g) (items_of m f (suc g) xs groups h.2)) (global_no number g h.0) ∙ ap (λ (is : List Item). item.Global number text ∷ is) (items_are m f (suc g) xs groups h.2)
items_are m f g (item.Declared number text ∷ xs) groups h =
    ap (λ n. item.Declared n (printed (said.Declare (bare h.1.head))) ∷ items_from (suc f) g (items_of m (suc f) g xs groups h.2)) (func_no number f h.0)
    ∙ ap (λ t. item.Declared number t ∷ items_from (suc f) g (items_of m (suc f) g xs groups h.2)) (sym h.1.text_is)
    ∙ ap (λ (is : List Item). item.Declared number text ∷ is) (items_are m (suc f) g xs groups h.2)
items_are m f g (item.Defined number ∷ xs) groups h =
    ap (λ n. item.Defined n ∷ items_from (suc f) g (items_of m (suc f) g xs groups h.2)) (func_no number f h.0) ∙ ap (λ (is : List Item). item.Defined number ∷ is) (items_are m (suc f) g xs groups h.2)

-- ---- signatures

bare_marks : (keeps : List ℕ → Bool) (ps : List Param) → map (mark_of keeps) (map without_name ps) ≡ map (mark_of keeps) ps
bare_marks keeps [] = refl
bare_marks keeps (p ∷ ps) = ap (λ (ms : List Mark). mark_of keeps p ∷ ms) (bare_marks keeps ps)

shown_marks : (keeps : List ℕ → Bool) (next : ℕ) (ps : List Param) → map (mark_of keeps) (shown_params next ps) ≡ map (mark_of keeps) ps
shown_marks keeps next [] = refl
shown_marks keeps next (p ∷ ps) = ap (λ (ms : List Mark). mark_of keeps p ∷ ms) (shown_marks keeps (free_after next p.name) ps)

same_marks : (keeps : List ℕ → Bool) (ps qs : List Param) → map without_name ps ≡ map without_name qs → map (mark_of keeps) (shown_params 0 qs) ≡ map (mark_of keeps) ps
same_marks keeps ps qs e = shown_marks keeps 0 qs ∙ sym (bare_marks keeps qs) ∙ ap (map (mark_of keeps)) (sym e) ∙ bare_marks keeps ps

with_marks : (effects : List ℕ → Effects) (head : Head) (keeps : List ℕ → Bool) (ps : List Param) → map (mark_of keeps) ps ≡ map (mark_of keeps) head.params → sig_in effects keeps (record head { params = ps }) ≡ sig_in effects keeps head
with_marks effects head keeps ps e = ap (λ (ms : List Mark). let s : Sig = record { ret = head.ret; params = ms; variadic = head.variadic; effects = effects head.post } in s) e

sig_is : (m : ModuleState) (meaning : Meaning m.groups) (head : Head) → sig_in meaning.effects meaning.keeps head ≡ sig_in (effects_in m.groups) keeps_in head
sig_is m meaning head =
    let effects : meaning.effects ≡ effects_in m.groups = fun_ext (λ post. one_effects post m.groups (meaning.effects post) (effects_in m.groups post) (meaning.effects_are post) (some_effects post m.groups).1) in
    let keeps : meaning.keeps ≡ keeps_in = fun_ext (λ attrs. one_keeps attrs (meaning.keeps attrs) (keeps_in attrs) (meaning.keeps_are attrs) (some_keeps attrs).1) in
    ap (λ e. sig_in e meaning.keeps head) effects ∙ ap (λ k. sig_in (effects_in m.groups) k head) keeps

pub sigs_are : (m : ModuleState) (f g : ℕ) (xs : List Item) (groups : List (ℕ × List ℕ)) (h : AreLined m f g xs groups) →
    flat_map (sigs_in (effects_in m.groups) keeps_in) (items_of m f g xs groups h) ≡ drop f m.sigs
sigs_are m f g [] groups h = sym (drop_none m.sigs f h.sigs)
sigs_are m f g (item.Kept text ∷ xs) groups (inl h) = sigs_are m f g xs groups h.1
sigs_are m f g (item.Kept text ∷ xs) groups (inr h) = sigs_are m f g xs h.1 h.4
sigs_are m f g (item.Global number text ∷ xs) groups h = sigs_are m f (suc g) xs groups h.2
sigs_are m f g (item.Declared number text ∷ xs) groups h =
    let head = h.1.head in
    let own = sig_in (effects_in m.groups) keeps_in head in
    ap (λ (s : Sig). s ∷ flat_map (sigs_in (effects_in m.groups) keeps_in) (items_of m (suc f) g xs groups h.2)) (with_marks (effects_in m.groups) head keeps_in (map without_name head.params) (bare_marks keeps_in head.params))
    ∙ ap (λ (ss : List Sig). own ∷ ss) (sigs_are m (suc f) g xs groups h.2)
    ∙ sym (drop_next m.sigs f own (h.1.head_of.sig_is ∙ ap Some (sig_is m h.1.head_of.meaning head)))
sigs_are m f g (item.Defined number ∷ xs) groups h =
    let func = h.1.func in
    let head = h.1.lined.accepted.all_said.head in
    let own = sig_in (effects_in m.groups) keeps_in head in
    ap (λ (s : Sig). s ∷ flat_map (sigs_in (effects_in m.groups) keeps_in) (items_of m (suc f) g xs groups h.2))
    (with_marks (effects_in m.groups) head keeps_in (shown_params 0 func.params) (same_marks keeps_in head.params func.params h.1.lined.accepted.all_said.said_head.params))
    ∙ ap (λ (ss : List Sig). own ∷ ss) (sigs_are m (suc f) g xs groups h.2)
    ∙ sym (drop_next m.sigs f own (h.1.head_of.sig_is ∙ ap Some (sig_is m h.1.head_of.meaning head)))
