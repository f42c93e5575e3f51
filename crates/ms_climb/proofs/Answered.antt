-- The accesses of a function's form are what paths say, and the form is one of `ms_paths`.
use Rattle.std.proofs.Common.{Bool, true, false, ◌≡◌, ◌<◌, ◌≤◌, ◌⊎◌, ◌↔◌, inl, inr, ℕ, zero, suc, List, [], ◌∷◌, length, take, get_or, Option, Some, None, refl, ap, sym, ◌∙◌, subst, arith, ⊎_elim}
use Rattle.std.specs.Prelude.{slice_get, slice_index, is_some, IsTrue, Contains}
use Rattle.std.proofs.lemmas.Bool.{cases_Bool, both_ways}
use Rattle.std.proofs.lemmas.Bool.Decides.{leb_tells}
use Rattle.std.proofs.lemmas.List.{take_all, get_or_default}
use Rattle.std.proofs.lemmas.Option.{slice_get-get_or}
use mathlib.Core.Path.{fun_ext}
use Rattle.ms_paths.specs.Flow.{Block as Run, block_at, HasEdge, IsPath, IsReached, Event, Of as LastOf, Phi as LastPhi, Entry as LastEntry, after, entered, last_event, last_event_at, NeedsPhi, IsAnswer, IsClosed, IsForm, LiesOnEvery}
use Rattle.ms_paths.specs.Walk.{IsDefining}
use Rattle.ms_ir.specs.declared.names.InstNo.{InstNo}
use Rattle.ms_ir.specs.declared.inst.Kind.{Kind}
use Rattle.ms_ir.specs.declared.inst.Kind.TheVariants.{Def, Reads, Neither}
use Rattle.ms_ir.specs.Inst.{kind_of_inst}
use Rattle.ms_ir.specs.Graph.{numbers, graph_of, defs_of, is_def}
use Rattle.ms_ir.specs.Func.{Placed, FuncState, insts_at, IsAt}
use Rattle.ms_flow.specs.declared.sources.Source.{Source}
use Rattle.ms_flow.specs.Table.{edges_of, next_of}
use Rattle.ms_flow.specs.Flow.{sources_of, order_of}
use Rattle.ms_form.specs.declared.access.Access.{Access}
use Rattle.ms_form.specs.declared.access.Access.TheVariants.{Entry, Of, Phi}
use Rattle.ms_form.specs.Form.{FormState, after_last}
use Rattle.ms_build.specs.Accesses.{event_of, has_phi, enters_at, operand_at, defining_at, entering_at, leaving_at}
use Rattle.ms_build.specs.Filled.{names_access, HasAccessAt, before_at, last_from}
use Rattle.ms_build.specs.Built.{IsAnswered, IsFormOf}
use Rattle.ms_climb.specs.Answer.{IsStartAt}
use Rattle.ms_climb.specs.Chains.{or_entry, before_of}
use Rattle.ms_climb.specs.Walk.{brought_of}
use Rattle.ms_build.proofs.Define.{OnePlaced}
use Rattle.ms_build.proofs.Events.{event_at, events_at, take-numbers, numbered_at, def_told, event_after, take_found}
use Rattle.ms_climb.proofs.Events.{event_of-entry, length-numbers, number_at, in_take, one_inst, after_phi, entered_phi, last_phi, reached_below}
use Rattle.ms_flow.proofs.Tables.{length-graph_of}

-- the laws, as the functions below state them
abbrev pub LiesLaw : Type 0
LiesLaw = (g : List Run) (E : ℕ → Bool) (b k i : ℕ) → IsAnswer g E b k (LastOf i) → LiesOnEvery g i b k

abbrev pub EdgesTold : List Run → Type 0
EdgesTold g = (b : ℕ) (e : Source) → Contains (sources_of g b) e → IsReached g e.from × (e.slot < length (next_of g e.from)) × (slice_index (next_of g e.from) e.slot ≡ b)

abbrev pub EdgesAll : List Run → Type 0
EdgesAll g = (a slot : ℕ) → IsReached g a → slot < length (next_of g a) → Contains (sources_of g (slice_index (next_of g a) slot)) (record { from = a; slot = slot })

-- the slot of an edge from a reached block
pub record IsSlot (g : List Run) (a b : ℕ) : Type 0 where
  pub slot : ℕ
  pub source : Source
  pub found : slice_get (sources_of g b) slot ≡ Some source
  pub from : source.from ≡ a

slot_of_edge : (g : List Run) → EdgesAll g → (a b : ℕ) → IsReached g a → HasEdge g a b → IsSlot g a b
slot_of_edge g all a b r e =
    let k : ℕ = e.0 in
    let to : slice_index (next_of g a) k ≡ b = get_or_default (next_of g a) k 0 b e.1 ∙ e.2 in
    let s : Source = record { from = a; slot = k } in
    let h : Contains (sources_of g b) s = subst (λ (x : ℕ). Contains (sources_of g x) s) to (all a k r e.1) in
    record { slot = h.0; source = s; found = slice_get-get_or (sources_of g b) h.0 s h.1 ∙ ap Some h.2; from = refl }

pub slice_get_below : {A : Type 0} (xs : List A) (n : ℕ) (x : A) → slice_get xs n ≡ Some x → n < length xs
slice_get_below [] n x e = cc
slice_get_below (y ∷ xs) zero x e = omega arith
slice_get_below (y ∷ xs) (suc n) x e = let r = slice_get_below xs n x e in omega arith

source_get : (xs : List Source) (n : ℕ) (x : Source) → slice_get xs n ≡ Some x → get_or xs n x ≡ x
source_get [] n x h = refl
source_get (y ∷ xs) zero x h = cc
source_get (y ∷ xs) (suc n) x h = source_get xs n x h

source_edge : (g : List Run) → EdgesTold g → (b slot : ℕ) (e : Source) → slice_get (sources_of g b) slot ≡ Some e → IsReached g e.from × HasEdge g e.from b
source_edge g told b slot e found =
    let t = told b e (slot, slice_get_below (sources_of g b) slot e found, source_get (sources_of g b) slot e found) in
    (t.0, (e.slot, t.1, sym (get_or_default (next_of g e.from) e.slot 0 b t.1) ∙ t.2))

pub member_at : {A : Type 0} (xs : List A) (n : ℕ) → n < length xs → (x : A) × (slice_get xs n ≡ Some x)
member_at [] n lt = absurd (omega arith)
member_at (x ∷ xs) zero lt = (x, refl)
member_at (x ∷ xs) (suc n) lt = member_at xs n (omega arith)

names_def : (k : Kind) → is_def k ≡ true → names_access k ≡ true
names_def Def t = refl
names_def Reads t = cc
names_def Neither t = cc

true_alike : (s t : Bool) → (s ≡ true → t ≡ true) → (t ≡ true → s ≡ true) → s ≡ t
true_alike true t f b = sym (f refl)
true_alike false true f b = b refl
true_alike false false f b = refl

-- an access of a function with so many instructions and blocks
abbrev pub IsIn : ℕ → ℕ → Access → Type 0
IsIn insts blocks Entry = Unit {0}
IsIn insts blocks (Of i) = i.0 < insts
IsIn insts blocks (Phi b) = b.0 < blocks

tells_below : (n m : ℕ) → (n < m) ⊎ (n < m → ⊥)
tells_below n m = elim (leb_tells m n) [ inl out ↦ inr (λ lt. let o = out.1 in omega arith) | inr within ↦ inl within.1 ]

in_tells : (insts blocks : ℕ) (a : Access) → IsIn insts blocks a ⊎ (IsIn insts blocks a → ⊥)
in_tells insts blocks Entry = inl tt
in_tells insts blocks (Of i) = tells_below i.0 insts
in_tells insts blocks (Phi b) = tells_below b.0 blocks

-- what enters a block, what is before a place of it, what leaves it, what comes into its phi, and what an instruction names, as events
abbrev pub begins : FormState → ℕ → Event
begins f b = event_at (entering_at f b)

abbrev pub before : FuncState → FormState → ℕ → ℕ → Event
before func f b k = after (defs_of func.blocks) (take k (block_at (graph_of func.blocks) b).events) (begins f b)

abbrev pub leaves : FuncState → FormState → ℕ → Event
leaves func f b = after (defs_of func.blocks) (block_at (graph_of func.blocks) b).events (begins f b)

abbrev pub brings : FuncState → FormState → ℕ → ℕ → Event
brings func f b a = leaves func f a

abbrev pub names : FormState → ℕ → Event
names f i = event_at (defining_at f i)

-- whether a block is reached
abbrev pub in_order : List Run → ℕ → Bool
in_order gr b = is_some (order_of gr b)

pub entered_begins : (f : FormState) (b : ℕ) → entered (has_phi f) b (begins f b) ≡ begins f b
entered_begins f b = ⊎_elim (λ (t : has_phi f b ≡ true). rw t refl) (λ (o : has_phi f b ≡ false). rw o refl) (cases_Bool (has_phi f b))

not_entered : (f : FormState) (b : ℕ) (e : Event) → has_phi f b ≡ false → entered (has_phi f) b e ≡ e
not_entered f b e o = rw o refl

module _ (func : FuncState) (f : FormState) (form : IsFormOf func f) (one : OnePlaced func.blocks) where
  abbrev G : List Run
  G = graph_of func.blocks

  abbrev D : ℕ → Bool
  D = defs_of func.blocks

  abbrev phis : ℕ → Bool
  phis = has_phi f

  said : (b k : ℕ) (e : Event) → IsAnswer G D b k e → (p : List ℕ) → IsPath G b p → last_event_at G D phis b k p ≡ e
  said b k e h p path =
      let alike : h.phis ≡ phis = fun_ext (λ c. true_alike (h.phis c) (has_phi f c) (λ t. (form.phis c).1 ((h.phis_are c).0 t)) (λ t. (h.phis_are c).1 ((form.phis c).0 t))) in
      subst (λ (S : ℕ → Bool). last_event_at G D S b k p ≡ e) alike (h.is_last p path)

  started : (b : ℕ) (p : List ℕ) → IsPath G b p → entered phis b (last_event G D phis p) ≡ begins f b
  started b p path =
      ⊎_elim
      (λ (t : has_phi f b ≡ true). rw t refl)
      (λ (o : has_phi f b ≡ false). by_entry (enters_at f b) refl o (form.entering b (p, path) o))
      (cases_Bool (has_phi f b))
    where
      by_entry : (x : Option Access) → enters_at f b ≡ x → has_phi f b ≡ false → IsAnswered func.blocks b 0 (enters_at f b) → entered phis b (last_event G D phis p) ≡ begins f b
      by_entry None is o h = let none : IsAnswered func.blocks b 0 None = rw is at h in absurd none
      by_entry (Some a) is o h =
          let some : IsAnswered func.blocks b 0 (Some a) = rw is at h in
          said b 0 (event_of a) some p path ∙ (let e : begins f b ≡ event_of a = rw (o, is) refl in sym e)

  pub answer_is : (b k : ℕ) (e : Event) → IsReached G b → IsAnswer G D b k e → e ≡ before func f b k
  answer_is b k e r h = sym (said b k e h r.0 r.1) ∙ ap (after D (take k (block_at G b).events)) (started b r.0 r.1)

  answered_is : (b k : ℕ) (x : Option Access) → IsReached G b → IsAnswered func.blocks b k x → event_at x ≡ before func f b k
  answered_is b k None r h = absurd h
  answered_is b k (Some a) r h = answer_is b k (event_of a) r h

  -- the other way around
  pub is_answer : (b k : ℕ) → IsReached G b → IsAnswer G D b k (before func f b k)
  is_answer b k r = record { phis = phis; phis_are = form.phis; is_last = λ p path. ap (after D (take k (block_at G b).events)) (started b p path) }

  access_at : (b k : ℕ) (x : Placed) → slice_get (insts_at func.blocks b) k ≡ Some x → D x.number ≡ true → HasAccessAt func.blocks b k x
  access_at b k x at t = record { found = at; names = names_def (kind_of_inst x.inst) (sym (def_told func.blocks one b k x at) ∙ t) }

  pub is_defining : IsDefining G D phis (begins f) (names f)
  is_defining i b k r at t =
      let found : slice_get (numbers (insts_at func.blocks b)) k ≡ Some i = subst (λ (l : List ℕ). slice_get l k ≡ Some i) (events_at func.blocks b) at in
      let x = number_at (insts_at func.blocks b) k i found in
      let def : D x.0.number ≡ true = ap D x.2 ∙ t in
      let h : IsAnswered func.blocks b k (defining_at f i) = subst (λ (n : ℕ). IsAnswered func.blocks b k (defining_at f n)) x.2 (form.defining b k x.0 r (access_at b k x.0 x.1 def)) in
      answered_is b k (defining_at f i) r h ∙ ap (after D (take k (block_at G b).events)) (sym (entered_begins f b))

  whole_block : (b : ℕ) → before func f b (length (insts_at func.blocks b)) ≡ leaves func f b
  whole_block b =
      ap (λ (l : List ℕ). after D l (begins f b))
      (take_all (length (insts_at func.blocks b)) (block_at G b).events (let size : length (block_at G b).events ≡ length (insts_at func.blocks b) = ap (λ (l : List ℕ). length l) (events_at func.blocks b) ∙ length-numbers (insts_at func.blocks b) in omega arith))

  before_event : (b k : ℕ) → event_of (or_entry (before_at func.blocks b k (entering_at f b))) ≡ before func f b k
  before_event b k =
      event_of-entry (before_at func.blocks b k (entering_at f b))
      ∙ event_after D (take k (insts_at func.blocks b)) None (entering_at f b) (λ j x e. def_told func.blocks one b j x (take_found k j (insts_at func.blocks b) x e))
      ∙ ap (λ (l : List ℕ). after D l (begins f b)) (sym (take-numbers k (insts_at func.blocks b)) ∙ ap (take k) (sym (events_at func.blocks b)))

  named_last : (i b k : ℕ) (x : Placed) (a : Access) → IsReached G b → IsAt func.blocks i b k x → defining_at f i ≡ Some a → (names_access (kind_of_inst x.inst) ≡ true) ⊎ (names_access (kind_of_inst x.inst) ≡ false)
      → IsAnswer G D b k (event_of a)
  named_last i b k x a r at e (inl t) =
      let h : IsAnswered func.blocks b k (defining_at f x.number) = form.defining b k x r (record { found = at.found; names = t }) in
      let some : IsAnswered func.blocks b k (Some a) = subst (IsAnswered func.blocks b k) (ap (defining_at f) at.numbered ∙ e) h in
      some
  named_last i b k x a r at e (inr o) =
      let none : defining_at f i ≡ None = form.no_defining i (λ c j y r' acc same_number.
      let is : y ≡ x = one_inst func.blocks c j b k y x one acc.found at.found (same_number ∙ sym at.numbered) in
      both_ways (names_access (kind_of_inst x.inst)) o (subst (λ (z : Placed). names_access (kind_of_inst z.inst) ≡ true) is acc.names)) in
      let both : None ≡ Some a = sym none ∙ e in cc

  pub start_last : (i b k : ℕ) (x : Placed) (a : Access) → IsReached G b → IsAt func.blocks i b k x → IsStartAt func.blocks f i b k a → IsAnswer G D b k (event_of a)
  start_last i b k x a r at (inl e) = named_last i b k x a r at e (cases_Bool (names_access (kind_of_inst x.inst)))
  start_last i b k x a r at (inr e) = subst (IsAnswer G D b k) (sym (ap event_of e ∙ before_event b k)) (is_answer b k r)

  pub entered_some : (b : ℕ) → IsReached G b → is_some (entering_at f b) ≡ true
  entered_some b r =
      ⊎_elim (λ (t : has_phi f b ≡ true). rw t refl) (λ (o : has_phi f b ≡ false). rw o (some (enters_at f b) (form.entering b r o))) (cases_Bool (has_phi f b))
    where
      some : (x : Option Access) → IsAnswered func.blocks b 0 x → is_some x ≡ true
      some None h = absurd h
      some (Some a) h = refl

  pub leaving_some : (b : ℕ) → IsReached G b → is_some (leaving_at f b) ≡ true
  leaving_some b r = some (get_or f.lasts b None) (entered_some b r)
    where
      some : (l : Option InstNo) → is_some (entering_at f b) ≡ true → is_some (after_last l (entering_at f b)) ≡ true
      some None t = t
      some (Some i) t = refl

  pub end_last : (b : ℕ) (a : Access) → IsReached G b → Some a ≡ leaving_at f b → IsAnswer G D b (length (insts_at func.blocks b)) (event_of a)
  end_last b a r e =
      let k = length (insts_at func.blocks b) in
      let whole : before_at func.blocks b k (entering_at f b) ≡ leaving_at f b =
      ap (λ (xs : List Placed). after_last (last_from None xs) (entering_at f b)) (take_all k (insts_at func.blocks b) (omega arith)) ∙ ap (λ (l : Option InstNo). after_last l (entering_at f b)) (sym (form.lasts b)) in
      let is : event_of a ≡ before func f b k = ap event_at (e ∙ sym whole) ∙ sym (event_of-entry (before_at func.blocks b k (entering_at f b))) ∙ before_event b k in
      subst (IsAnswer G D b k) (sym is) (is_answer b k r)

module _ (func : FuncState) (gr : List Run) (f : FormState) (same : gr ≡ edges_of func.blocks) (form : IsFormOf func f) (one : OnePlaced func.blocks)
    (made : (b j : ℕ) (x : Placed) → slice_get (insts_at func.blocks b) j ≡ Some x → x.number < func.made) (closed : IsClosed (graph_of func.blocks))
    (edges : (a b : ℕ) → HasEdge (edges_of func.blocks) a b ↔ HasEdge (graph_of func.blocks) a b)
    (reach : (b : ℕ) → IsReached (edges_of func.blocks) b ↔ IsReached (graph_of func.blocks) b)
    (order : (b : ℕ) → (is_some (order_of gr b) ≡ true → IsReached gr b) × (IsReached gr b → is_some (order_of gr b) ≡ true))
    (told : EdgesTold gr) (all : EdgesAll gr) (lies : LiesLaw) where
  to_gr : (b : ℕ) → IsReached (graph_of func.blocks) b → IsReached gr b
  to_gr b r = subst (λ (g : List Run). IsReached g b) (sym same) ((reach b).1 r)

  from_gr : (b : ℕ) → IsReached gr b → IsReached (graph_of func.blocks) b
  from_gr b r = (reach b).0 (subst (λ (g : List Run). IsReached g b) same r)

  pub in_z : (b : ℕ) → IsTrue (in_order gr b) ↔ IsReached (graph_of func.blocks) b
  in_z b = (λ z. from_gr b ((order b).0 z), λ r. (order b).1 (to_gr b r))

  -- the slots of a block are the edges to it from reached blocks
  pub slot_of : (a b : ℕ) → IsReached (graph_of func.blocks) a → HasEdge (graph_of func.blocks) a b → IsSlot gr a b
  slot_of a b r e = slot_of_edge gr all a b (to_gr a r) (subst (λ (g : List Run). HasEdge g a b) (sym same) ((edges a b).1 e))

  pub edge_of : (b slot : ℕ) (e : Source) → slice_get (sources_of gr b) slot ≡ Some e → IsReached (graph_of func.blocks) e.from × HasEdge (graph_of func.blocks) e.from b
  edge_of b slot e found =
      let t = source_edge gr told b slot e found in
      (from_gr e.from t.0, (edges e.from b).0 (subst (λ (g : List Run). HasEdge g e.from b) same t.1))

  pub is_form : IsForm (graph_of func.blocks) (defs_of func.blocks) (in_order gr) (has_phi f) (begins f) (brings func f) (leaves func f)
  is_form = record {
    leaves_block = λ b z. ap (after (defs_of func.blocks) (block_at (graph_of func.blocks) b).events) (sym (entered_begins f b));
    leaves_outside = λ a r z runs. absurd (both_ways (in_order gr a) z ((in_z a).1 r));
    enters_entry = λ z o. sym (started func f form one 0 [] refl) ∙ not_entered f 0 LastEntry o;
    enters_block = λ a b z o r e.
        sym (started func f form one b (a ∷ r.0) (e, r.1)) ∙ not_entered f b (after (defs_of func.blocks) (block_at (graph_of func.blocks) a).events (entered (has_phi f) a (last_event (graph_of func.blocks) (defs_of func.blocks) (has_phi f) r.0))) o ∙ ap (after (defs_of func.blocks) (block_at (graph_of func.blocks) a).events) (started func f form one a r.0 r.1);
    operands = λ a b z t r e. refl;
  }

  sources_same : (b slot : ℕ) (e : Source) → slice_get (sources_of gr b) slot ≡ Some e → slice_get (sources_of (edges_of func.blocks) b) slot ≡ Some e
  sources_same b slot e found = subst (λ (g : List Run). slice_get (sources_of g b) slot ≡ Some e) same found

  -- what comes over the edge at a slot leaves func f the block that it comes from
  pub operand_is : (b slot : ℕ) (e : Source) → has_phi f b ≡ true → slice_get (sources_of gr b) slot ≡ Some e → event_at (operand_at f b slot) ≡ leaves func f e.from
  operand_is b slot e t found =
      answered_is func f form one e.from (length (insts_at func.blocks e.from)) (operand_at f b slot) (edge_of b slot e found).0 (form.operands b slot e t (sources_same b slot e found)) ∙ whole_block func f form one e.from

  reached_need : (c : ℕ) → NeedsPhi (graph_of func.blocks) (defs_of func.blocks) c → IsReached (graph_of func.blocks) c
  reached_need c n = (in_z c).0 (n (in_order gr) (record { one_event = λ x p q hp hq o. absurd (both_ways (in_order gr x) o ((in_z x).1 (p, hp))) }))

  met_made : (b i : ℕ) → Contains (block_at (graph_of func.blocks) b).events i → i < func.made
  met_made b i h =
      let x = numbered_at (insts_at func.blocks b) i (subst (λ (l : List ℕ). Contains l i) (events_at func.blocks b) h) in
      let lt = made b x.0 x.1 x.2 in
      let n = x.3 in
      omega arith

  pub answer_in : (b k : ℕ) (a : Access) → IsReached (graph_of func.blocks) b → IsAnswer (graph_of func.blocks) (defs_of func.blocks) b k (event_of a) → IsIn func.made (length func.blocks) a
  answer_in b k Entry r h = tt
  answer_in b k (Of i) r h =
      ⊎_elim
      (λ (m : Contains (take k (block_at (graph_of func.blocks) b).events) i.0). met_made b i.0 (in_take k (block_at (graph_of func.blocks) b).events i.0 m))
      (λ (m : (a : ℕ) × Contains r.0 a × Contains (block_at (graph_of func.blocks) a).events i.0). met_made m.0 i.0 m.2)
      (lies (graph_of func.blocks) (defs_of func.blocks) b k i.0 h r.0 r.1)
  answer_in b k (Phi c) r h =
      let t : has_phi f c.0 ≡ true =
      entered_phi (has_phi f) b (last_event (graph_of func.blocks) (defs_of func.blocks) (has_phi f) r.0) c.0 (last_phi (graph_of func.blocks) (defs_of func.blocks) (has_phi f) r.0 c.0) (after_phi (defs_of func.blocks) (take k (block_at (graph_of func.blocks) b).events) (entered (has_phi f) b (last_event (graph_of func.blocks) (defs_of func.blocks) (has_phi f) r.0)) c.0 (said func f form one b k (LastPhi c.0) h r.0 r.1)) in
      let reached = reached_need c.0 ((form.phis c.0).0 t) in
      let below = reached_below (graph_of func.blocks) closed c.0 reached.0 reached.1 in
      let size = length-graph_of func.blocks in
      omega arith

  answered_in : (b k : ℕ) (a : Access) (x : Option Access) → x ≡ Some a → IsReached (graph_of func.blocks) b → IsAnswered func.blocks b k x → IsIn func.made (length func.blocks) a
  answered_in b k a None e r h = absurd h
  answered_in b k a (Some c) e r h = let same_access : c ≡ a = cc in subst (IsIn func.made (length func.blocks)) same_access (answer_in b k c r h)

  pub before_in : (i : ℕ) → IsIn func.made (length func.blocks) (before_of f i)
  before_in i = by_entry (defining_at f i) refl
    where
      by_entry : (x : Option Access) → defining_at f i ≡ x → IsIn func.made (length func.blocks) (or_entry x)
      by_entry None e = tt
      by_entry (Some a) e =
          ⊎_elim
          (λ (h : IsIn func.made (length func.blocks) a). h)
          (λ (n : IsIn func.made (length func.blocks) a → ⊥).
          let none : defining_at f i ≡ None =
          form.no_defining i (λ b k x r acc is. n (answered_in b k a (defining_at f x.number) (ap (defining_at f) is ∙ e) r (form.defining b k x r acc))) in
          let both : None ≡ Some a = sym none ∙ e in cc)
          (in_tells func.made (length func.blocks) a)

  pub brought_in : (b slot : ℕ) → IsIn func.made (length func.blocks) (brought_of f b slot)
  brought_in b slot = by_entry (operand_at f b slot) refl
    where
      with_phi : (a : Access) → operand_at f b slot ≡ Some a → has_phi f b ≡ true → (slot < length (sources_of gr b)) ⊎ (slot < length (sources_of gr b) → ⊥) → IsIn func.made (length func.blocks) a
      with_phi a e t (inl lt) =
          let s = member_at (sources_of gr b) slot lt in
          answered_in s.0.from (length (insts_at func.blocks s.0.from)) a (operand_at f b slot) e (edge_of b slot s.0 s.1).0 (form.operands b slot s.0 t (sources_same b slot s.0 s.1))
      with_phi a e t (inr n) =
          let past : length (sources_of gr b) ≤ slot = omega (arith, n) in
          let none : operand_at f b slot ≡ None = form.no_operand b slot (inr (subst (λ (g : List Run). length (sources_of g b) ≤ slot) same past)) in
          let both : None ≡ Some a = sym none ∙ e in cc

      by_entry : (x : Option Access) → operand_at f b slot ≡ x → IsIn func.made (length func.blocks) (or_entry x)
      by_entry None e = tt
      by_entry (Some a) e =
          ⊎_elim
          (λ (t : has_phi f b ≡ true). with_phi a e t (tells_below slot (length (sources_of gr b))))
          (λ (o : has_phi f b ≡ false). let both : None ≡ Some a = sym (form.no_operand b slot (inl o)) ∙ e in cc)
          (cases_Bool (has_phi f b))
