-- A draft is accepted as one module up to the room of its functions, or refused for one cause.
use Rattle.std.proofs.Common.{◌≡◌, ◌⊎◌, inl, inr, ⊎_elim, ◌<◌, ℕ, zero, suc, ◌+◌, Bool, List, [], ◌∷◌, ◌++◌, Some, None, refl, sym, ap, subst, ◌∙◌, arith}
use Rattle.std.specs.Prelude.{if◌then◌else◌}
use mathlib.Core.Path.{fun_ext}
use Rattle.ms_grammar.specs.declared.line.Line.{Line}
use Rattle.ms_attrs.proofs.MeaningLemmas.{some_effects, one_effects, some_keeps, one_keeps}
use Rattle.ms_ir.specs.declared.inst.Effects.{Effects}
use Rattle.ms_ir.specs.Func.{FuncState}
use Rattle.ms_ir.specs.Module.{ModuleState}
use Rattle.ms_ir.specs.Symbols.{NamesState}
use Rattle.ms_print.specs.Text.{module_text}
use Rattle.ms_resolve.specs.Shape.{ItemLines, IsShape}
use Rattle.ms_resolve.specs.Faults.{HasNameFault}
use Rattle.ms_resolve.specs.Module.{groups_of, module_of, IsModuleOf}
use Rattle.ms_session.specs.Annotated.{IsAnnotated}
use Rattle.ms_validity.specs.Faults.{bodies_there, HasTypeFault, HasEdgeFault, HasOrderFault, IsIrreducible}
use Rattle.ms_validity.specs.Cause.{HasNone, IsNamed, IsAccepted, IsValidCause}
use Rattle.ms_validity.specs.declared.fault.ValidFault.{ValidFault}
use Rattle.ms_validity.specs.declared.fault.ValidFault.TheVariants as valid
use Rattle.ms_output.specs.Forms.{IsForm, AreForms, times, form_text, IsWrittenOf}
use Rattle.ms_output.specs.Output.{refusal_at, valid_refusal}
use Rattle.ms_output.specs.declared.refusal.Refusal.{Refusal}
use Rattle.ms_output.specs.declared.wanted.Wanted.{Wanted}
use Rattle.ms_output.proofs.OneShape.{one_shape}
use Rattle.ms_output.proofs.Room.{module_with, text_same, forms_moved, type_moved, edge_moved, order_moved, loop_moved}

-- what the attributes of a module mean
abbrev effects_under : List ItemLines → List ℕ → Effects
effects_under items post = (some_effects post (groups_of items)).0

abbrev keeps_under : List ℕ → Bool
keeps_under attrs = (some_keeps attrs).0

abbrev meant : List ItemLines → (List ℕ → Effects) × (List ℕ → Bool)
meant items = (effects_under items, keeps_under)

abbrev no_room : List ℕ → ℕ
no_room name = 0

-- the module of these items, without room
abbrev canon : List ItemLines → ModuleState
canon items = module_with (meant items) no_room items

module_is : (items : List ItemLines) (m : ModuleState) (w : IsModuleOf items m) → m ≡ module_with (meant items) w.spare items
module_is items m w =
    let effects : w.meaning.effects ≡ effects_under items =
    fun_ext (λ post. one_effects post (groups_of items) (w.meaning.effects post) (effects_under items post) (w.meaning.effects_are post) (some_effects post (groups_of items)).1) in
    let keeps : w.meaning.keeps ≡ keeps_under =
    fun_ext (λ attrs. one_keeps attrs (w.meaning.keeps attrs) (keeps_under attrs) (w.meaning.keeps_are attrs) (some_keeps attrs).1) in
    w.module_is ∙ ap (λ e. module_of e w.meaning.keeps w.spare items) effects ∙ ap (λ k. module_of (effects_under items) k w.spare items) keeps

trichotomy : (a b : ℕ) → (a < b) ⊎ ((a ≡ b) ⊎ (b < a))
trichotomy zero zero = inr (inl refl)
trichotomy zero (suc b) = inl (omega arith)
trichotomy (suc a) zero = inr (inr (omega arith))
trichotomy (suc a) (suc b) =
    ⊎_elim (λ (l : a < b). inl (omega (arith, l)))
    (λ (o : (a ≡ b) ⊎ (b < a)). ⊎_elim (λ (e : a ≡ b). inr (inl (ap suc e))) (λ (g : b < a). inr (inr (omega (arith, g)))) o)
    (trichotomy a b)

pub refusal_is : (number place : ℕ) (r : Refusal) → refusal_at number place ≡ Some r → record { number = number; place = place } ≡ r
refusal_is number place r e = cc

-- ---- the phases, in their order

abbrev Phase : List ItemLines → ℕ → ℕ → Type 0
Phase items zero n = HasNameFault items n
Phase items (suc zero) n = HasTypeFault items (canon items) n
Phase items (suc (suc zero)) n = HasEdgeFault items (canon items) n
Phase items (suc (suc (suc zero))) n = HasOrderFault items (canon items) n
Phase items (suc (suc (suc (suc zero)))) n = IsIrreducible (canon items) n
Phase items (suc (suc (suc (suc (suc _))))) n = ⊥

-- the first phase with a fault, and its least place
record IsFirst (items : List ItemLines) (i n : ℕ) : Type 0 where
  has : Phase items i n
  least : (k : ℕ) → k < n → Phase items i k → ⊥
  before : (j : ℕ) → j < i → (k : ℕ) → Phase items j k → ⊥

first_same : (items : List ItemLines) (i j n k : ℕ) → IsFirst items i n → IsFirst items j k → (i ≡ j) × (n ≡ k)
first_same items i j n k p q =
    ⊎_elim (λ (lt : i < j). absurd (q.before i lt n p.has))
    (λ (o : (i ≡ j) ⊎ (j < i)). ⊎_elim
    (λ (e : i ≡ j).
    let r : IsFirst items i k = subst (λ (x : ℕ). IsFirst items x k) (sym e) q in
    ⊎_elim (λ (lt : n < k). absurd (r.least n lt p.has))
    (λ (o : (n ≡ k) ⊎ (k < n)). ⊎_elim (λ (d : n ≡ k). (e, d)) (λ (gt : k < n). absurd (p.least k gt r.has)) o)
    (trichotomy n k))
    (λ (gt : j < i). absurd (p.before j gt k q.has))
    o)
    (trichotomy i j)

-- a fault of a module is one of the module without room
type_at : (items : List ItemLines) (m : ModuleState) → IsModuleOf items m → (n : ℕ) → HasTypeFault items m n → Phase items 1 n
type_at items m w n h = type_moved (meant items) w.spare no_room items n (subst (λ (k : ModuleState). HasTypeFault items k n) (module_is items m w) h)

edge_at : (items : List ItemLines) (m : ModuleState) → IsModuleOf items m → (n : ℕ) → HasEdgeFault items m n → Phase items 2 n
edge_at items m w n h = edge_moved (meant items) w.spare no_room items n (subst (λ (k : ModuleState). HasEdgeFault items k n) (module_is items m w) h)

order_at : (items : List ItemLines) (m : ModuleState) → IsModuleOf items m → (n : ℕ) → HasOrderFault items m n → Phase items 3 n
order_at items m w n h = order_moved (meant items) w.spare no_room items n (subst (λ (k : ModuleState). HasOrderFault items k n) (module_is items m w) h)

loop_at : (items : List ItemLines) (m : ModuleState) → IsModuleOf items m → (n : ℕ) → IsIrreducible m n → Phase items 4 n
loop_at items m w n h = loop_moved (meant items) w.spare no_room items n (subst (λ (k : ModuleState). IsIrreducible k n) (module_is items m w) h)

type_of : (items : List ItemLines) (m : ModuleState) → IsModuleOf items m → (n : ℕ) → Phase items 1 n → HasTypeFault items m n
type_of items m w n h = subst (λ (k : ModuleState). HasTypeFault items k n) (sym (module_is items m w)) (type_moved (meant items) no_room w.spare items n h)

edge_of : (items : List ItemLines) (m : ModuleState) → IsModuleOf items m → (n : ℕ) → Phase items 2 n → HasEdgeFault items m n
edge_of items m w n h = subst (λ (k : ModuleState). HasEdgeFault items k n) (sym (module_is items m w)) (edge_moved (meant items) no_room w.spare items n h)

order_of : (items : List ItemLines) (m : ModuleState) → IsModuleOf items m → (n : ℕ) → Phase items 3 n → HasOrderFault items m n
order_of items m w n h = subst (λ (k : ModuleState). HasOrderFault items k n) (sym (module_is items m w)) (order_moved (meant items) no_room w.spare items n h)

loop_of : (items : List ItemLines) (m : ModuleState) → IsModuleOf items m → (n : ℕ) → Phase items 4 n → IsIrreducible m n
loop_of items m w n h = subst (λ (k : ModuleState). IsIrreducible k n) (sym (module_is items m w)) (loop_moved (meant items) no_room w.spare items n h)

-- no phase below a number has a fault
abbrev Clean : List ItemLines → ℕ → Type 0
Clean items i = (j : ℕ) → j < i → (k : ℕ) → Phase items j k → ⊥

clean_more : (items : List ItemLines) (i : ℕ) → Clean items i → ((k : ℕ) → Phase items i k → ⊥) → Clean items (suc i)
clean_more items i clean none j lt k h =
    ⊎_elim (λ (less : j < i). clean j less k h)
    (λ (o : (j ≡ i) ⊎ (i < j)). ⊎_elim (λ (e : j ≡ i). none k (subst (λ (x : ℕ). Phase items x k) e h)) (λ (g : i < j). absurd (omega (arith, lt, g))) o)
    (trichotomy j i)

-- where the names have no fault, and so on
clean_names : (items : List ItemLines) → Clean items 0
clean_names items j lt k h = absurd (omega (arith, lt))

clean_types : {draft : List (ℕ × Line)} {items : List ItemLines} {m : ModuleState} → IsNamed draft items m → Clean items 1
clean_types {draft} {items} {m} a = clean_more items 0 (clean_names items) a.sound

clean_edges : {draft : List (ℕ × Line)} {items : List ItemLines} {m : ModuleState} → IsNamed draft items m → HasNone (HasTypeFault items m) → Clean items 2
clean_edges {draft} {items} {m} a types = clean_more items 1 (clean_types a) (λ k h. types k (type_of items m a.whole k h))

clean_order : {draft : List (ℕ × Line)} {items : List ItemLines} {m : ModuleState} → IsNamed draft items m → HasNone (HasTypeFault items m) → HasNone (HasEdgeFault items m) → Clean items 3
clean_order {draft} {items} {m} a types edges = clean_more items 2 (clean_edges a types) (λ k h. edges k (edge_of items m a.whole k h))

clean_loops : {draft : List (ℕ × Line)} {items : List ItemLines} {m : ModuleState} → IsNamed draft items m → HasNone (HasTypeFault items m) → HasNone (HasEdgeFault items m) → HasNone (HasOrderFault items m) → Clean items 4
clean_loops {draft} {items} {m} a types edges order = clean_more items 3 (clean_order a types edges) (λ k h. order k (order_of items m a.whole k h))

-- a draft's items, and its first fault, which are told by a refusal
record HasFirst (draft : List (ℕ × Line)) (r : Refusal) : Type 0 where
  items : List ItemLines
  shape : IsShape draft items
  phase : ℕ
  number_is : 3 + phase ≡ r.number
  first : IsFirst items phase r.place

abbrev make_refusal : ℕ → ℕ → Refusal
make_refusal number place = record { number = number; place = place }

abbrev pub number_of : Refusal → ℕ
number_of r = r.number

abbrev pub place_of : Refusal → ℕ
place_of r = r.place

made : (draft : List (ℕ × Line)) (phase place : ℕ) (r : Refusal) → record { number = 3 + phase; place = place } ≡ r → (items : List ItemLines) → IsShape draft items → IsFirst items phase place → HasFirst draft r
made draft phase place r e items shape first = record {
  items = items;
  shape = shape;
  phase = phase;
  number_is = ap number_of e;
  first = subst (λ (k : ℕ). IsFirst items phase k) (ap place_of e) first;
}

first_of : (draft : List (ℕ × Line)) (fault : ValidFault) (r : Refusal) → IsValidCause draft fault → valid_refusal fault ≡ Some r → HasFirst draft r
first_of draft (valid.Name n) r c e =
    made draft 0 n r (refusal_is 3 n r e) c.items c.shape (record {
      has = c.fault;
      least = c.least;
      before = clean_names c.items;
    })
first_of draft (valid.Types n) r c e =
    made draft 1 n r (refusal_is 4 n r e) c.items c.named.shape (record {
      has = type_at c.items c.m c.named.whole n c.types.has;
      least = λ k lt h. c.types.least k lt (type_of c.items c.m c.named.whole k h);
      before = clean_types c.named;
    })
first_of draft (valid.Edges n) r c e =
    made draft 2 n r (refusal_is 5 n r e) c.items c.named.shape (record {
      has = edge_at c.items c.m c.named.whole n c.edges.has;
      least = λ k lt h. c.edges.least k lt (edge_of c.items c.m c.named.whole k h);
      before = clean_edges c.named c.types;
    })
first_of draft (valid.Order n) r c e =
    made draft 3 n r (refusal_is 6 n r e) c.items c.named.shape (record {
      has = order_at c.items c.m c.named.whole n c.order.has;
      least = λ k lt h. c.order.least k lt (order_of c.items c.m c.named.whole k h);
      before = clean_order c.named c.types c.edges;
    })
first_of draft (valid.Irreducible f) r c e =
    made draft 4 f.0 r (refusal_is 7 f.0 r e) c.items c.named.shape (record {
      has = loop_at c.items c.m c.named.whole f.0 c.irreducible.has;
      least = λ k lt h. c.irreducible.least k lt (loop_of c.items c.m c.named.whole k h);
      before = clean_loops c.named c.types c.edges c.order;
    })
first_of draft valid.Memory r c e = let k : None ≡ Some r = e in absurd (cc)

pub one_fault : (draft : List (ℕ × Line)) (f g : ValidFault) (r s : Refusal) → IsValidCause draft f → IsValidCause draft g → valid_refusal f ≡ Some r → valid_refusal g ≡ Some s → r ≡ s
one_fault draft f g r s p q a b =
    let x = first_of draft f r p a in
    let y = first_of draft g s q b in
    let e = one_shape draft y.items x.items y.shape x.shape in
    let same = first_same x.items x.phase y.phase r.place s.place x.first (subst (λ (k : List ItemLines). IsFirst k y.phase s.place) e y.first) in
    let number : r.number ≡ s.number = sym x.number_is ∙ ap (λ k. 3 + k) same.0 ∙ y.number_is in
    ap (λ k. make_refusal k r.place) number ∙ ap (λ k. make_refusal s.number k) same.1

-- an accepted draft has no fault in any phase
accepted_clean : (draft : List (ℕ × Line)) (m : ModuleState) (a : IsAccepted draft m) (i n : ℕ) → Phase a.items i n → ⊥
accepted_clean draft m a zero n h = a.named.sound n h
accepted_clean draft m a (suc zero) n h = a.types n (type_of a.items m a.named.whole n h)
accepted_clean draft m a (suc (suc zero)) n h = a.edges n (edge_of a.items m a.named.whole n h)
accepted_clean draft m a (suc (suc (suc zero))) n h = a.order n (order_of a.items m a.named.whole n h)
accepted_clean draft m a (suc (suc (suc (suc zero)))) n h = a.reducible n (loop_of a.items m a.named.whole n h)
accepted_clean draft m a (suc (suc (suc (suc (suc _))))) n h = h

pub not_accepted : (draft : List (ℕ × Line)) (m : ModuleState) (f : ValidFault) (r : Refusal) → IsAccepted draft m → IsValidCause draft f → valid_refusal f ≡ Some r → ⊥
not_accepted draft m f r a c e =
    let x = first_of draft f r c e in
    let same = one_shape draft x.items a.items x.shape a.named.shape in
    accepted_clean draft m a x.phase r.place (subst (λ (k : List ItemLines). Phase k x.phase r.place) same x.first.has)

-- ---- texts

-- a function has one annotated text at most
abbrev pub IsAnnotatedOnce : Type 0
IsAnnotatedOnce = (names : NamesState) (f : FuncState) (t u : List ℕ) → IsAnnotated names f t → IsAnnotated names f u → t ≡ u

one_form : IsAnnotatedOnce → (names : NamesState) (f : FuncState) (t u : List ℕ) → IsForm names f t → IsForm names f u → t ≡ u
one_form notes names f t u p q = p.form_is ∙ ap (λ k. form_text f.name k) (notes names f p.annotated q.annotated p.says q.says) ∙ sym q.form_is

one_forms : IsAnnotatedOnce → (names : NamesState) (prints : ℕ) (fs : List FuncState) (t u : List ℕ) → AreForms names prints fs t → AreForms names prints fs u → t ≡ u
one_forms notes names prints [] t u p q = p ∙ sym q
one_forms notes names prints (f ∷ fs) t u p q =
    let form = one_form notes names f p.0 q.0 p.2 q.2 in
    let rest = one_forms notes names prints fs p.1 q.1 p.3 q.3 in
    p.4 ∙ ap (λ k. times prints k ++ p.1) form ∙ ap (λ k. times prints q.0 ++ k) rest ∙ sym q.4

-- what is written for a module is written for the module without room
unroomed : (wanted : Wanted) (items : List ItemLines) (m : ModuleState) (t : List ℕ) → IsModuleOf items m → IsWrittenOf wanted m t → IsWrittenOf wanted (canon items) t
unroomed wanted items m t w h =
    let g = subst (λ (k : ModuleState). IsWrittenOf wanted k t) (module_is items m w) h in
    record {
      forms = g.forms;
      formed = forms_moved (meant items) w.spare no_room items wanted.prints g.forms g.formed;
      text_is = g.text_is ∙ ap (λ k. g.forms ++ (if wanted.shows_module then k else [])) (text_same (meant items) w.spare no_room items);
    }

one_written : IsAnnotatedOnce → (wanted : Wanted) (m : ModuleState) (t u : List ℕ) → IsWrittenOf wanted m t → IsWrittenOf wanted m u → t ≡ u
one_written notes wanted m t u p q =
    p.text_is ∙ ap (λ k. k ++ (if wanted.shows_module then module_text m else [])) (one_forms notes m.names wanted.prints (bodies_there m) p.forms q.forms p.formed q.formed) ∙ sym q.text_is

pub one_text : IsAnnotatedOnce → (wanted : Wanted) (draft : List (ℕ × Line)) (m k : ModuleState) (t u : List ℕ)
    → IsAccepted draft m → IsAccepted draft k → IsWrittenOf wanted m t → IsWrittenOf wanted k u → t ≡ u
one_text notes wanted draft m k t u a b p q =
    let same = one_shape draft b.items a.items b.named.shape a.named.shape in
    one_written notes wanted (canon a.items) t u (unroomed wanted a.items m t a.named.whole p)
    (subst (λ (x : List ItemLines). IsWrittenOf wanted (canon x) u) same (unroomed wanted b.items k u b.named.whole q))
