-- How much room the functions of a module have changes neither its texts nor its faults.
use Rattle.std.proofs.Common.{◌≡◌, inl, inr, ℕ, zero, suc, Bool, true, false, is_some, List, [], ◌∷◌, ◌++◌, Option, Some, None, refl, ap, ◌∙◌, slice_get}
use Rattle.std.specs.List.{flat_map}
use Rattle.ms_grammar.specs.declared.line.Line.TheVariants as said
use Rattle.ms_ir.specs.declared.inst.Effects.{Effects}
use Rattle.ms_ir.specs.declared.inst.Inst.{Inst}
use Rattle.ms_ir.specs.declared.inst.Inst.TheVariants as inst
use Rattle.ms_ir.specs.declared.inst.Term.{Term}
use Rattle.ms_ir.specs.declared.inst.Term.TheVariants as term
use Rattle.ms_ir.specs.declared.module.Item.{Item}
use Rattle.ms_ir.specs.declared.module.Item.TheVariants as item
use Rattle.ms_ir.specs.Func.{Placed, Block, FuncState}
use Rattle.ms_ir.specs.Module.{ModuleState, body_in}
use Rattle.ms_ir.specs.Symbols.{NamesState}
use Rattle.ms_ir.specs.Uses.{Use}
use Rattle.ms_ir.specs.Sound.{IsUsedBefore}
use Rattle.ms_print.specs.Text.{body_text, item_text, has_body, gap, items_text, module_text}
use Rattle.ms_resolve.specs.Shape.{InstLine, BlockLines, FuncLines, ItemLines, plain, body}
use Rattle.ms_resolve.specs.Scope.{Scope, func_of}
use Rattle.ms_resolve.specs.Module.{scope_of, bodies_in, module_of, names_of}
use Rattle.ms_paths.specs.Flow.{Event}
use Rattle.ms_ir.specs.declared.inst.Kind.{Kind}
use Rattle.ms_ir.specs.declared.inst.Kind.TheVariants.{Def, Reads, Neither}
use Rattle.ms_ir.specs.Inst.{kind_of_inst}
use Rattle.ms_walk.proofs.Spare.{clobber_moved, read_moved}
use Rattle.ms_session.specs.Annotated.{IsUse, IsInstLine, IsAnnotated}
use Rattle.ms_validity.specs.Faults.{body_there, bodies_there, IsBody, HasInst, HasTerm, CallsOtherwise, ReturnsOtherwise, HasTypeFaultIn, operand, func_operand, global_called, call, term_operand, func_returned, returned, HasEdgeFaultIn, branch, phi, HasOrderFaultIn, HasTypeFault, HasEdgeFault, HasOrderFault, IsIrreducible}
use Rattle.ms_validity.specs.Faults as fault
use Rattle.ms_output.specs.Forms.{IsForm, AreForms}

abbrev Room : Type 0
Room = List ℕ → ℕ

abbrev with_room : ℕ → FuncState → FuncState
with_room r f = record f { spare = r }

abbrev bodies : (FuncLines → Scope) → Room → List ItemLines → List (Option FuncState)
bodies scope room items = flat_map (bodies_in scope room) items

inner_same : (f g : FuncState) → Some (Some f) ≡ Some (Some g) → f ≡ g
inner_same f g e = cc

outer_same : (f g : FuncState) → Some f ≡ Some g → f ≡ g
outer_same f g e = cc

-- whether there is a body
abbrev is_full : Option (Option FuncState) → Bool
is_full o = is_some (body_in o)

-- the function of a number, with another room
abbrev HasBody : (FuncLines → Scope) → Room → List ItemLines → ℕ → FuncState → Type 0
HasBody scope room items n f = (r : ℕ) × (slice_get (bodies scope room items) n ≡ Some (Some (with_room r f)))

same_body : (scope : FuncLines → Scope) (p q : Room) (items : List ItemLines) (n : ℕ) (f : FuncState) → slice_get (bodies scope p items) n ≡ Some (Some f) → HasBody scope q items n f
same_body scope p q [] n f e = let k : false ≡ true = ap is_some e in absurd (cc)
same_body scope p q (body lines ∷ items) zero f e = let r = q lines.head.name in (r, ap (λ g. Some (Some (with_room r g))) (inner_same (func_of (scope lines) (p lines.head.name) lines) f e))
same_body scope p q (body lines ∷ items) (suc n) f e = same_body scope p q items n f e
same_body scope p q (plain k (said.Declare head) ∷ items) zero f e = let k : false ≡ true = ap is_full e in absurd (cc)
same_body scope p q (plain k (said.Declare head) ∷ items) (suc n) f e = same_body scope p q items n f e
same_body scope p q (plain k said.Empty ∷ items) n f e = same_body scope p q items n f e
same_body scope p q (plain k said.Close ∷ items) n f e = same_body scope p q items n f e
same_body scope p q (plain k (said.Kept _) ∷ items) n f e = same_body scope p q items n f e
same_body scope p q (plain k (said.Group _ _) ∷ items) n f e = same_body scope p q items n f e
same_body scope p q (plain k (said.GlobalVar _ _) ∷ items) n f e = same_body scope p q items n f e
same_body scope p q (plain k (said.Label _) ∷ items) n f e = same_body scope p q items n f e
same_body scope p q (plain k (said.Define _) ∷ items) n f e = same_body scope p q items n f e
same_body scope p q (plain k (said.Inst _ _) ∷ items) n f e = same_body scope p q items n f e
same_body scope p q (plain k (said.Term _) ∷ items) n f e = same_body scope p q items n f e

-- the same by the place among the functions with a body
abbrev HasThere : (FuncLines → Scope) → Room → List ItemLines → ℕ → FuncState → Type 0
HasThere scope room items n f = (r : ℕ) × (slice_get (flat_map body_there (bodies scope room items)) n ≡ Some (with_room r f))

same_there : (scope : FuncLines → Scope) (p q : Room) (items : List ItemLines) (n : ℕ) (f : FuncState) → slice_get (flat_map body_there (bodies scope p items)) n ≡ Some f → HasThere scope q items n f
same_there scope p q [] n f e = let k : false ≡ true = ap is_some e in absurd (cc)
same_there scope p q (body lines ∷ items) zero f e = let r = q lines.head.name in (r, ap (λ g. Some (with_room r g)) (outer_same (func_of (scope lines) (p lines.head.name) lines) f e))
same_there scope p q (body lines ∷ items) (suc n) f e = same_there scope p q items n f e
same_there scope p q (plain k (said.Declare head) ∷ items) n f e = same_there scope p q items n f e
same_there scope p q (plain k said.Empty ∷ items) n f e = same_there scope p q items n f e
same_there scope p q (plain k said.Close ∷ items) n f e = same_there scope p q items n f e
same_there scope p q (plain k (said.Kept _) ∷ items) n f e = same_there scope p q items n f e
same_there scope p q (plain k (said.Group _ _) ∷ items) n f e = same_there scope p q items n f e
same_there scope p q (plain k (said.GlobalVar _ _) ∷ items) n f e = same_there scope p q items n f e
same_there scope p q (plain k (said.Label _) ∷ items) n f e = same_there scope p q items n f e
same_there scope p q (plain k (said.Define _) ∷ items) n f e = same_there scope p q items n f e
same_there scope p q (plain k (said.Inst _ _) ∷ items) n f e = same_there scope p q items n f e
same_there scope p q (plain k (said.Term _) ∷ items) n f e = same_there scope p q items n f e

-- ---- texts

use_same : (f : FuncState) (r b k : ℕ) (x : Placed) (e : Event) → IsUse f b k x e → IsUse (with_room r f) b k x e
use_same f r b k x e (inl u) = inl (u.0, read_moved f r (record { 0 = x.number }) x.inst u.0 u.1, clobber_moved f r b k u.0 e u.2)
use_same f r b k x e (inr u) = inr ((λ loc reads. u.0 loc (read_moved (with_room r f) f.spare (record { 0 = x.number }) x.inst loc reads)), u.1)

line_same : (f : FuncState) (r : ℕ) (last : ℕ → ℕ → Event) (all : List Event) (b k : ℕ) (x : Placed) (kind : Kind) (line : List ℕ)
    → IsInstLine f last all b k x kind line → IsInstLine (with_room r f) last all b k x kind line
line_same f r last all b k x Def line h = h
line_same f r last all b k x Reads line h = (h.0, use_same f r b k x h.0 h.1, h.2)
line_same f r last all b k x Neither line h = h

annotated_same : (names : NamesState) (s : Scope) (a b : ℕ) (lines : FuncLines) (t : List ℕ) → IsAnnotated names (func_of s a lines) t → IsAnnotated names (func_of s b lines) t
annotated_same names s a b lines t p = record {
  reached = p.reached;
  phis = p.phis;
  last = p.last;
  lasts = p.lasts;
  notes = p.notes;
  at_blocks = p.at_blocks;
  at_insts = λ c k x on at. line_same (func_of s a lines) b p.last _ c k x (kind_of_inst x.inst) _ (p.at_insts c k x on at);
  elsewhere = p.elsewhere;
  text_is = p.text_is;
}

form_same : (names : NamesState) (s : Scope) (a b : ℕ) (lines : FuncLines) (t : List ℕ) → IsForm names (func_of s a lines) t → IsForm names (func_of s b lines) t
form_same names s a b lines t p = record { annotated = p.annotated; says = annotated_same names s a b lines p.annotated p.says; form_is = p.form_is }

abbrev FormsOf : NamesState → ℕ → (FuncLines → Scope) → Room → List ItemLines → List ℕ → Type 0
FormsOf names prints scope room items t = AreForms names prints (flat_map body_there (bodies scope room items)) t

forms_same : (names : NamesState) (prints : ℕ) (scope : FuncLines → Scope) (p q : Room) (items : List ItemLines) (t : List ℕ) → FormsOf names prints scope p items t → FormsOf names prints scope q items t
forms_same names prints scope p q [] t h = h
forms_same names prints scope p q (body lines ∷ items) t h =
    (h.0, h.1, form_same names (scope lines) (p lines.head.name) (q lines.head.name) lines h.0 h.2, forms_same names prints scope p q items h.1 h.3, h.4)
forms_same names prints scope p q (plain k (said.Declare head) ∷ items) t h = forms_same names prints scope p q items t h
forms_same names prints scope p q (plain k said.Empty ∷ items) t h = forms_same names prints scope p q items t h
forms_same names prints scope p q (plain k said.Close ∷ items) t h = forms_same names prints scope p q items t h
forms_same names prints scope p q (plain k (said.Kept _) ∷ items) t h = forms_same names prints scope p q items t h
forms_same names prints scope p q (plain k (said.Group _ _) ∷ items) t h = forms_same names prints scope p q items t h
forms_same names prints scope p q (plain k (said.GlobalVar _ _) ∷ items) t h = forms_same names prints scope p q items t h
forms_same names prints scope p q (plain k (said.Label _) ∷ items) t h = forms_same names prints scope p q items t h
forms_same names prints scope p q (plain k (said.Define _) ∷ items) t h = forms_same names prints scope p q items t h
forms_same names prints scope p q (plain k (said.Inst _ _) ∷ items) t h = forms_same names prints scope p q items t h
forms_same names prints scope p q (plain k (said.Term _) ∷ items) t h = forms_same names prints scope p q items t h

abbrev text_of_body : NamesState → (FuncLines → Scope) → Room → List ItemLines → ℕ → List ℕ
text_of_body names scope room items n = body_text names (body_in (slice_get (bodies scope room items) n))

body_text_same : (names : NamesState) (scope : FuncLines → Scope) (p q : Room) (items : List ItemLines) (n : ℕ) → text_of_body names scope p items n ≡ text_of_body names scope q items n
body_text_same names scope p q [] n = refl
body_text_same names scope p q (body lines ∷ items) zero = refl
body_text_same names scope p q (body lines ∷ items) (suc n) = body_text_same names scope p q items n
body_text_same names scope p q (plain k (said.Declare head) ∷ items) zero = refl
body_text_same names scope p q (plain k (said.Declare head) ∷ items) (suc n) = body_text_same names scope p q items n
body_text_same names scope p q (plain k said.Empty ∷ items) n = body_text_same names scope p q items n
body_text_same names scope p q (plain k said.Close ∷ items) n = body_text_same names scope p q items n
body_text_same names scope p q (plain k (said.Kept _) ∷ items) n = body_text_same names scope p q items n
body_text_same names scope p q (plain k (said.Group _ _) ∷ items) n = body_text_same names scope p q items n
body_text_same names scope p q (plain k (said.GlobalVar _ _) ∷ items) n = body_text_same names scope p q items n
body_text_same names scope p q (plain k (said.Label _) ∷ items) n = body_text_same names scope p q items n
body_text_same names scope p q (plain k (said.Define _) ∷ items) n = body_text_same names scope p q items n
body_text_same names scope p q (plain k (said.Inst _ _) ∷ items) n = body_text_same names scope p q items n
body_text_same names scope p q (plain k (said.Term _) ∷ items) n = body_text_same names scope p q items n

-- ---- the modules of the same items, whose functions have one room or another

abbrev Means : Type 0
Means = (List ℕ → Effects) × (List ℕ → Bool)

abbrev pub module_with : Means → Room → List ItemLines → ModuleState
module_with by room items = module_of by.0 by.1 room items

item_same : (by : Means) (p q : Room) (items : List ItemLines) (x : Item) → item_text (module_with by p items) x ≡ item_text (module_with by q items) x
item_same by p q items (item.Kept _) = refl
item_same by p q items (item.Global _ _) = refl
item_same by p q items (item.Declared _ _) = refl
item_same by p q items (item.Defined f) = body_text_same (names_of items) (scope_of by.0 by.1 items) p q items f.0

items_same : (m k : ModuleState) → ((x : Item) → item_text m x ≡ item_text k x) → (before : Option Bool) (xs : List Item) → items_text m before xs ≡ items_text k before xs
items_same m k each before [] = refl
items_same m k each before (x ∷ xs) =
    ap (λ t. gap before (has_body x) ++ t ++ items_text m (Some (has_body x)) xs) (each x)
    ∙ ap (λ t. gap before (has_body x) ++ item_text k x ++ t) (items_same m k each (Some (has_body x)) xs)

pub text_same : (by : Means) (p q : Room) (items : List ItemLines) → module_text (module_with by p items) ≡ module_text (module_with by q items)
text_same by p q items = items_same (module_with by p items) (module_with by q items) (item_same by p q items) None (module_with by p items).items

pub forms_moved : (by : Means) (p q : Room) (items : List ItemLines) (prints : ℕ) (t : List ℕ)
    → AreForms (names_of items) prints (bodies_there (module_with by p items)) t → AreForms (names_of items) prints (bodies_there (module_with by q items)) t
forms_moved by p q items prints t h = forms_same (names_of items) prints (scope_of by.0 by.1 items) p q items t h

-- ---- faults

inst_moved : {lines : FuncLines} {f : FuncState} {n b k : ℕ} {line : InstLine} {x : Placed} (r : ℕ) → HasInst lines f n b k line x → HasInst lines (with_room r f) n b k line x
inst_moved r h = record { block = h.block; block_is = h.block_is; line_is = h.line_is; inst_is = h.inst_is; on = h.on }

term_moved : {lines : FuncLines} {f : FuncState} {n b : ℕ} {block : BlockLines} {x : Block} (r : ℕ) → HasTerm lines f n b block x → HasTerm lines (with_room r f) n b block x
term_moved r h = record { block_is = h.block_is; term_is = h.term_is; on = h.on }

calls_moved : (by : Means) (p q : Room) (items : List ItemLines) (i : Inst) → CallsOtherwise (module_with by p items) i → CallsOtherwise (module_with by q items) i
calls_moved by p q items (inst.Call _ _ _ _ _ _) h = h
calls_moved by p q items (inst.Alloca _ _ _) h = h
calls_moved by p q items (inst.Gep _ _ _ _ _) h = h
calls_moved by p q items (inst.Step _ _ _ _ _ _) h = h
calls_moved by p q items (inst.Load _ _ _) h = h
calls_moved by p q items (inst.Store _ _ _ _) h = h
calls_moved by p q items (inst.Copy _ _ _ _ _) h = h
calls_moved by p q items (inst.Bin _ _ _ _ _ _) h = h
calls_moved by p q items (inst.Cmp _ _ _ _ _ _) h = h
calls_moved by p q items (inst.Select _ _ _ _ _) h = h
calls_moved by p q items (inst.Cast _ _ _ _ _ _) h = h
calls_moved by p q items (inst.Phi _ _ _) h = h

returns_moved : (f : FuncState) (r : ℕ) (t : Term) → ReturnsOtherwise f t → ReturnsOtherwise (with_room r f) t
returns_moved f r (term.Ret _ _) h = h
returns_moved f r (term.Br _ _) h = h
returns_moved f r (term.CondBr _ _ _ _) h = h
returns_moved f r (term.Unreachable _) h = h

type_in : (by : Means) (p q : Room) (items : List ItemLines) (lines : FuncLines) (f : FuncState) (r n : ℕ)
    → HasTypeFaultIn (module_with by p items) lines f n → HasTypeFaultIn (module_with by q items) lines (with_room r f) n
type_in by p q items lines f r n (operand b k line x o at i t) = operand b k line x o (inst_moved r at) i t
type_in by p q items lines f r n (func_operand b k line x name at i t) = func_operand b k line x name (inst_moved r at) i t
type_in by p q items lines f r n (global_called b k line x name at i t) = global_called b k line x name (inst_moved r at) i t
type_in by p q items lines f r n (call b k line x name at i t c) = call b k line x name (inst_moved r at) i t (calls_moved by p q items x.inst c)
type_in by p q items lines f r n (term_operand b block x o at i t) = term_operand b block x o (term_moved r at) i t
type_in by p q items lines f r n (func_returned b block x name at i t) = func_returned b block x name (term_moved r at) i t
type_in by p q items lines f r n (returned b block x at t) = returned b block x (term_moved r at) (returns_moved f r x.term t)

edge_in : (lines : FuncLines) (f : FuncState) (r n : ℕ) → HasEdgeFaultIn lines f n → HasEdgeFaultIn lines (with_room r f) n
edge_in lines f r n (branch b block x at t) = branch b block x (term_moved r at) t
edge_in lines f r n (phi b k line x at t) = phi b k line x (inst_moved r at) t

used_moved : (f : FuncState) (r : ℕ) (u : Use) → IsUsedBefore f u → IsUsedBefore (with_room r f) u
used_moved f r u h =
    let p = h.1 in
    (h.0, record { local = p.local; is_local = p.is_local; block = p.block; place = p.place; giver = p.giver; gives = p.gives; path_is = p.path_is; not_met = p.not_met })

order_in : (lines : FuncLines) (f : FuncState) (r n : ℕ) → HasOrderFaultIn lines f n → HasOrderFaultIn lines (with_room r f) n
order_in lines f r n (fault.inst b k line x u at i t) = fault.inst b k line x u (inst_moved r at) i (used_moved f r u t)
order_in lines f r n (fault.term b block x u at i t) = fault.term b block x u (term_moved r at) i (used_moved f r u t)

pub type_moved : (by : Means) (p q : Room) (items : List ItemLines) (n : ℕ) → HasTypeFault items (module_with by p items) n → HasTypeFault items (module_with by q items) n
type_moved by p q items n h =
    let s = same_there (scope_of by.0 by.1 items) p q items h.body.place h.f h.body.body_is in
    record {
      lines = h.lines;
      f = with_room s.0 h.f;
      body = record { place = h.body.place; lines_are = h.body.lines_are; body_is = s.1 };
      fault = type_in by p q items h.lines h.f s.0 n h.fault;
    }

pub edge_moved : (by : Means) (p q : Room) (items : List ItemLines) (n : ℕ) → HasEdgeFault items (module_with by p items) n → HasEdgeFault items (module_with by q items) n
edge_moved by p q items n h =
    let s = same_there (scope_of by.0 by.1 items) p q items h.body.place h.f h.body.body_is in
    record {
      lines = h.lines;
      f = with_room s.0 h.f;
      body = record { place = h.body.place; lines_are = h.body.lines_are; body_is = s.1 };
      fault = edge_in h.lines h.f s.0 n h.fault;
    }

pub order_moved : (by : Means) (p q : Room) (items : List ItemLines) (n : ℕ) → HasOrderFault items (module_with by p items) n → HasOrderFault items (module_with by q items) n
order_moved by p q items n h =
    let s = same_there (scope_of by.0 by.1 items) p q items h.body.place h.f h.body.body_is in
    record {
      lines = h.lines;
      f = with_room s.0 h.f;
      body = record { place = h.body.place; lines_are = h.body.lines_are; body_is = s.1 };
      fault = order_in h.lines h.f s.0 n h.fault;
    }

pub loop_moved : (by : Means) (p q : Room) (items : List ItemLines) (n : ℕ) → IsIrreducible (module_with by p items) n → IsIrreducible (module_with by q items) n
loop_moved by p q items n h =
    let s = same_body (scope_of by.0 by.1 items) p q items n h.f h.body in
    record { f = with_room s.0 h.f; body = s.1; irreducible = h.irreducible }
