-- A filled form of a function is consistent, and stays filled as it is settled.
use Rattle.std.proofs.Common.{Bool, true, false, ◌≡◌, ◌<◌, ◌≤◌, inl, inr, ℕ, zero, suc, List, [], ◌∷◌, length, map, get_or, Option, Some, None, refl, ap, sym, ◌∙◌, subst, ⊎_elim, take}
use Rattle.std.specs.Prelude.{slice_get, slice_index, is_some, Contains}
use Rattle.std.proofs.Math.ListN.{replicate}
use Rattle.std.proofs.lemmas.Bool.{cases_Bool, both_ways}
use Rattle.std.proofs.lemmas.Bool.Decides.{leb_tells}
use Rattle.std.proofs.lemmas.List.{get_or_past, get_or_default}
use Rattle.ms_paths.specs.Flow.{Block as Run, HasEdge, IsPath, IsReached}
use Rattle.ms_ir.specs.declared.names.InstNo.{InstNo}
use Rattle.ms_ir.specs.Func.{FuncState, insts_at}
use Rattle.ms_flow.specs.declared.sources.Source.{Source}
use Rattle.ms_flow.specs.Table.{next_of}
use Rattle.ms_flow.specs.Flow.{sources_of, order_of}
use Rattle.ms_form.specs.declared.access.Access.{Access}
use Rattle.ms_form.specs.declared.access.Access.TheVariants.{Entry, Phi}
use Rattle.ms_form.specs.declared.access.User.TheVariants.{Inst, Operand, Entering}
use Rattle.ms_form.specs.Form.{FormState, after_last, empty_form, empty_slots}
use Rattle.ms_build.specs.Accesses.{has_phi, enters_at, operand_at, entering_at, leaving_at}
use Rattle.ms_build.specs.Consistent.{IsConsistent}
use Rattle.ms_build.specs.Settled.{renamed, IsSettled}
use Rattle.ms_build.specs.Changes.{IsChanged}
use Rattle.ms_build.specs.Filled.{before_at, last_of, last_from, AreDefined, OfReached}
use Rattle.ms_build.specs.Entering.{IsOrdered, IsPast, AreEntered, IsBlank, all_filled, brought_by}
use Rattle.ms_build.specs.Built.{IsFilled}
use Rattle.ms_build.proofs.Slots.{IsSlot, EdgesAll, slot_of_edge}
use Rattle.ms_build.proofs.Fill.{KeepsEntering, same_leaving}
use Rattle.ms_build.proofs.Define.{defined_entering}
use Rattle.ms_build.proofs.Leaving.{leaves_true}
use Rattle.ms_build.proofs.Lists.{slice_get_below, slice_past}

-- A new form is blank.

no_phi : (n b : ℕ) → get_or (replicate n false) b false ≡ false
no_phi zero b = refl
no_phi (suc n) zero = refl
no_phi (suc n) (suc b) = no_phi n b

no_access : {A : Type 0} (n b : ℕ) → get_or (replicate {A = Option A} n None) b None ≡ None
no_access zero b = refl
no_access (suc n) zero = refl
no_access (suc n) (suc b) = no_access n b

no_operands : (counts : List ℕ) (b slot : ℕ) → get_or (get_or (map empty_slots counts) b []) slot None ≡ None
no_operands [] b slot = refl
no_operands (n ∷ counts) zero slot = no_access n slot
no_operands (n ∷ counts) (suc b) slot = no_operands counts b slot

pub blank_empty : (counts : List ℕ) (insts : ℕ) (e f : FormState) → e ≡ empty_form counts insts → f ≡ record e { lasts = f.lasts } → IsBlank f
blank_empty counts insts e f is same = record {
  phis = λ b. rw (same, is) (no_phi (length counts) b);
  enters = λ b. rw (same, is) (no_access (length counts) b);
  operands = λ b slot. rw (same, is) (no_operands counts b slot);
  defs = λ i. rw (same, is) (no_access insts i);
}

-- Reached blocks are those in the order.

abbrev pub OrderReached : List Run → Type 0
OrderReached g = (b : ℕ) → (is_some (order_of g b) ≡ true → IsReached g b) × (IsReached g b → is_some (order_of g b) ≡ true)

some_of : (x : Option ℕ) → is_some x ≡ true → (k : ℕ) × (x ≡ Some k)
some_of None t = cc
some_of (Some k) t = (k, refl)

in_range : (list : List (Option ℕ)) (k b : ℕ) → get_or list k None ≡ Some b → k < length list
in_range list k b e = elim (leb_tells (length list) k) [
  | inl past ↦ let none : None ≡ Some b = sym (get_or_past list k None past.1) ∙ e in cc
  | inr within ↦ within.1
]

pub past_all : (g : List Run) (list : List (Option ℕ)) → OrderReached g → IsOrdered g list → (b : ℕ) → IsReached g b → IsPast g (length list) b
past_all g list told ordered b r =
    let k = some_of (order_of g b) ((told b).1 r) in
    record { place = k.0; placed = k.1; below = in_range list k.0 b ((ordered k.0 b).1 k.1) }

pub past_reached : (g : List Run) (n b : ℕ) → OrderReached g → IsPast g n b → IsReached g b
past_reached g n b told p = (told b).0 (rw p.placed refl)

pub phi_reached : (g : List Run) (n : ℕ) (f : FormState) → OrderReached g → AreEntered g n f → (b : ℕ) → has_phi f b ≡ true → IsReached g b
phi_reached g n f told r b t = by_order (order_of g b) refl
  where
    by_order : (o : Option ℕ) → order_of g b ≡ o → IsReached g b
    by_order (Some k) e = (told b).0 (rw e refl)
    by_order None e = absurd (both_ways (has_phi f b) (r.later b (λ p. let both : None ≡ Some p.place = sym e ∙ p.placed in cc)).0 t)

-- what an edge at a slot tells
abbrev pub EdgesTold : List Run → Type 0
EdgesTold g = (b : ℕ) (e : Source) → Contains (sources_of g b) e → IsReached g e.from × (e.slot < length (next_of g e.from)) × (slice_index (next_of g e.from) e.slot ≡ b)

pub source_edge : (g : List Run) → EdgesTold g → (b slot : ℕ) (e : Source) → slice_get (sources_of g b) slot ≡ Some e → IsReached g e.from × HasEdge g e.from b
source_edge g told b slot e found =
    let t = told b e (slot, slice_get_below (sources_of g b) slot e found, get_or_of (sources_of g b) slot e found) in
    (t.0, (e.slot, t.1, sym (get_or_default (next_of g e.from) e.slot 0 b t.1) ∙ t.2))
  where
    get_or_of : (xs : List Source) (n : ℕ) (x : Source) → slice_get xs n ≡ Some x → get_or xs n x ≡ x
    get_or_of [] n x h = refl
    get_or_of (y ∷ xs) zero x h = cc
    get_or_of (y ∷ xs) (suc n) x h = get_or_of xs n x h

pub target_reached : (g : List Run) → EdgesTold g → (b slot : ℕ) (e : Source) → slice_get (sources_of g b) slot ≡ Some e → IsReached g b
target_reached g told b slot e found =
    let s = source_edge g told b slot e found in
    let r : IsReached g e.from = s.0 in
    (e.from ∷ r.0, (s.1, r.1))

pub keeps_filled : (g : List Run) (f : FormState) → KeepsEntering (all_filled g f)
keeps_filled g f c x = refl

-- the parts of the construction, together
pub filled_of : (func : FuncState) (g : List Run) (n : ℕ) (e f h k : FormState) → OrderReached g → EdgesTold g → ((b : ℕ) → IsReached g b → IsPast g n b)
    → ((b : ℕ) → get_or e.lasts b None ≡ last_of func.blocks b) → AreEntered g n f → f.lasts ≡ e.lasts → IsChanged (all_filled g f) f h → AreDefined func.blocks (OfReached g) h k → IsFilled func g k
filled_of func g n e f h k order told past lasts r same c d = record {
  consistent = record {
    entry = λ t. enters 0 ∙ r.entry (past 0 ([], refl)) (sym (phis 0) ∙ t);
    enters = λ b slot s t found. enters b ∙ (r.enters b slot s (past b (target_reached g told b slot s found)) (sym (phis b) ∙ t) found).1 ∙ sym (leaving s.from);
    operands = λ b slot s t found.
        let t' : has_phi f b ≡ true = sym (phis b) ∙ t in
        d.operands b slot ∙ c.entries (Operand (record { 0 = b }) slot) ∙ (rw t' (ap (brought_by f (operand_at f b slot)) found)) ∙ sym (leaving s.from);
  };
  phis = λ b t. phi_reached g n f order r b (sym (phis b) ∙ t);
  no_entering = λ b out.
      enters b ∙ ⊎_elim (λ (u : IsReached g b → ⊥). (r.later b (λ p. u (past_reached g n b order p))).1) (λ (t : has_phi k b ≡ true). r.with_phi b (sym (phis b) ∙ t)) out;
  no_operand = λ b slot none.
      d.operands b slot ∙ c.entries (Operand (record { 0 = b }) slot) ∙ ⊎_elim
      (λ (t : has_phi f b ≡ true).
      ⊎_elim (λ (o : has_phi k b ≡ false). absurd (both_ways (has_phi k b) o (phis b ∙ t)))
      (λ (past : length (sources_of g b) ≤ slot). rw (t, slice_past (sources_of g b) slot past) (r.operands b slot)) none)
      (λ (o : has_phi f b ≡ false). rw o (r.operands b slot)) (cases_Bool (has_phi f b));
  defining = λ b j x reach a. d.done b j x reach a ∙ ap (before_at func.blocks b j) (sym (defined_entering func.blocks (OfReached g) h k d b));
  no_defining = λ i none. d.rest i none ∙ c.entries (Inst (record { 0 = i })) ∙ r.defs i;
  lasts = λ b. ap (λ (l : List (Option InstNo)). get_or l b None) (d.lasts ∙ c.lasts ∙ same) ∙ lasts b;
}
  where
    phis : (b : ℕ) → has_phi k b ≡ has_phi f b
    phis b = ap (λ (l : List Bool). get_or l b false) (d.phis ∙ c.phis)

    enters : (b : ℕ) → enters_at k b ≡ enters_at f b
    enters b = d.enters b ∙ c.entries (Entering (record { 0 = b }))

    leaving : (x : ℕ) → leaving_at k x ≡ leaving_at f x
    leaving x = rw (d.lasts) (ap (after_last (get_or h.lasts x None)) (defined_entering func.blocks (OfReached g) h k d x)) ∙ same_leaving (all_filled g f) f h (keeps_filled g f) c x

-- A filled form stays filled.

renamed_after : (old new : FormState) (last : Option InstNo) (x : Option Access) → renamed old new (after_last last x) ≡ after_last last (renamed old new x)
renamed_after old new None x = refl
renamed_after old new (Some i) x = refl

phi_gone : (old new : FormState) → IsSettled old new → (b : ℕ) → has_phi old b ≡ false → has_phi new b ≡ false
phi_gone old new s b o = ⊎_elim (λ (t : has_phi new b ≡ true). absurd (both_ways (has_phi old b) o (s.none_new b t))) (λ (f : has_phi new b ≡ false). f) (cases_Bool (has_phi new b))

renamed_entering : (old new : FormState) → IsSettled old new → (b : ℕ) → renamed old new (entering_at old b) ≡ entering_at new b
renamed_entering old new s b =
    ⊎_elim
    (λ (t : has_phi old b ≡ true). ap (renamed old new) (let e : entering_at old b ≡ Some (Phi (record { 0 = b })) = rw t refl in e) ∙ (rw t refl))
    (λ (o : has_phi old b ≡ false).
    let n : has_phi new b ≡ false = phi_gone old new s b o in
    let e : entering_at old b ≡ enters_at old b = rw o refl in
    let e' : entering_at new b ≡ enters_at new b = rw n refl in
    ap (renamed old new) e ∙ sym (s.enters b (n ∙ sym o)) ∙ sym e')
    (cases_Bool (has_phi old b))

pub filled_settled : (func : FuncState) (g : List Run) (old new : FormState) → IsFilled func g old → IsSettled old new → IsConsistent g new → IsFilled func g new
filled_settled func g old new f s k = record {
  consistent = k;
  phis = λ b t. f.phis b (s.none_new b t);
  no_entering = λ b out.
      ⊎_elim
      (λ (u : IsReached g b → ⊥).
      let o : has_phi old b ≡ false = ⊎_elim (λ (t : has_phi old b ≡ true). absurd (u (f.phis b t))) (λ (o' : has_phi old b ≡ false). o') (cases_Bool (has_phi old b)) in
      s.enters b (phi_gone old new s b o ∙ sym o) ∙ ap (renamed old new) (f.no_entering b (inl u)))
      (λ (t : has_phi new b ≡ true). s.enters b (t ∙ sym (s.none_new b t)) ∙ ap (renamed old new) (f.no_entering b (inr (s.none_new b t))))
      out;
  no_operand = λ b slot none.
      ⊎_elim
      (λ (n : has_phi new b ≡ false).
      ⊎_elim (λ (t : has_phi old b ≡ true). s.cleared b slot (t, n)) (λ (o : has_phi old b ≡ false). s.operands b slot (n ∙ sym o) ∙ ap (renamed old new) (f.no_operand b slot (inl o))) (cases_Bool (has_phi old b)))
      (λ (past : length (sources_of g b) ≤ slot).
      ⊎_elim
      (λ (t : has_phi new b ≡ true). s.operands b slot (t ∙ sym (s.none_new b t)) ∙ ap (renamed old new) (f.no_operand b slot (inr past)))
      (λ (n : has_phi new b ≡ false).
      ⊎_elim (λ (t : has_phi old b ≡ true). s.cleared b slot (t, n)) (λ (o : has_phi old b ≡ false). s.operands b slot (n ∙ sym o) ∙ ap (renamed old new) (f.no_operand b slot (inl o))) (cases_Bool (has_phi old b)))
      (cases_Bool (has_phi new b)))
      none;
  defining = λ b j x r a.
      s.defs x.number ∙ ap (renamed old new) (f.defining b j x r a) ∙ renamed_after old new (before b j) (entering_at old b) ∙ ap (after_last (before b j)) (renamed_entering old new s b);
  no_defining = λ i none. s.defs i ∙ ap (renamed old new) (f.no_defining i none);
  lasts = λ b. ap (λ (l : List (Option InstNo)). get_or l b None) s.lasts ∙ f.lasts b;
}
  where
    before : ℕ → ℕ → Option InstNo
    before b j = last_from None (take j (insts_at func.blocks b))

-- each reached block is entered
pub entered_all : (g : List Run) (f : FormState) → IsConsistent g f → EdgesAll g → (b : ℕ) (p : List ℕ) → IsPath g b p → is_some (entering_at f b) ≡ true
entered_all g f k all b [] path =
    ⊎_elim (λ (t : has_phi f b ≡ true). rw t refl)
    (λ (o : has_phi f b ≡ false). let e : enters_at f b ≡ Some Entry = subst (λ (n : ℕ). enters_at f n ≡ Some Entry) (sym path) (k.entry (subst (λ (n : ℕ). has_phi f n ≡ false) path o)) in rw (o, e) refl)
    (cases_Bool (has_phi f b))
entered_all g f k all b (a ∷ p) path =
    ⊎_elim (λ (t : has_phi f b ≡ true). rw t refl)
    (λ (o : has_phi f b ≡ false).
    let over : IsSlot g a b = slot_of_edge g all a b (p, path.1) path.0 in
    let e : enters_at f b ≡ leaving_at f a = k.enters b over.slot over.source o over.found ∙ ap (leaving_at f) over.from in
    rw (o, e) (leaves_true f a (entered_all g f k all a p path.1)))
    (cases_Bool (has_phi f b))
