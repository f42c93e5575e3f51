-- A settled form of a function on a reducible graph answers what paths say.
use Rattle.std.proofs.Common.{Bool, true, false, ◌≡◌, ◌<◌, ◌≤◌, ◌⊎◌, ◌↔◌, inl, inr, ℕ, List, length, take, Option, Some, None, refl, ap, sym, ◌∙◌, subst, arith, ⊎_elim}
use Rattle.std.specs.Prelude.{slice_get, is_some, IsTrue}
use Rattle.std.proofs.lemmas.Bool.{cases_Bool, both_ways}
use Rattle.std.proofs.lemmas.List.{take_all}
use Rattle.ms_paths.specs.Flow.{Block as Run, block_at, HasEdge, IsReached, Event, Phi as LastPhi, after, entered, NeedsPhi, IsNeeded, IsAnswer, StandsOnce, IsReducible, IsClosed, IsRegion, IsForm, NoTrivialPhi, NoIdlePhi}
use Rattle.ms_ir.specs.declared.names.InstNo.{InstNo}
use Rattle.ms_ir.specs.Graph.{numbers, graph_of, defs_of}
use Rattle.ms_ir.specs.Func.{Placed, FuncState, insts_at}
use Rattle.ms_flow.specs.Table.{edges_of}
use Rattle.ms_flow.specs.Flow.{FlowState, sources_of, order_of}
use Rattle.ms_form.specs.declared.access.Access.{Access}
use Rattle.ms_form.specs.declared.access.Access.TheVariants.{Phi}
use Rattle.ms_form.specs.Form.{FormState, after_last}
use Rattle.ms_build.specs.Accesses.{event_of, has_phi, enters_at, operand_at, entering_at, leaving_at}
use Rattle.ms_build.specs.Settled.{NoTrivial}
use Rattle.ms_build.specs.Filled.{before_at, last_from}
use Rattle.ms_build.specs.Built.{IsFilled, IsAnswered, IsFormOf}
use Rattle.ms_build.proofs.Slots.{IsSlot, EdgesAll, slot_of_edge}
use Rattle.ms_build.proofs.Lists.{member_at}
use Rattle.ms_build.proofs.Define.{OnePlaced}
use Rattle.ms_build.proofs.Leaving.{leaves_true}
use Rattle.ms_build.proofs.Whole.{OrderReached, EdgesTold, source_edge, entered_all}
use Rattle.ms_build.proofs.Events.{event_at, access_of, access_of-event, events_at, take-numbers, stands_once, def_told, event_after, take_found}

-- the laws, as the functions below state them
abbrev pub WholeForm : Type 0
WholeForm = (g : List Run) (E Z phis : ℕ → Bool) (enters : ℕ → Event) (operand : ℕ → ℕ → Event) (leaves : ℕ → Event) →
    StandsOnce g → IsClosed g → IsReducible g → ((b : ℕ) → IsTrue (Z b) ↔ IsReached g b) →
    IsForm g E Z phis enters operand leaves → NoTrivialPhi g Z phis operand → (b : ℕ) → IsReached g b → IsTrue (phis b) ↔ NeedsPhi g E b

abbrev pub FormAnswers : Type 0
FormAnswers = (g : List Run) (E Z phis : ℕ → Bool) (enters : ℕ → Event) (operand : ℕ → ℕ → Event) (leaves : ℕ → Event) →
    StandsOnce g → IsClosed g → IsReducible g → IsRegion g E Z → IsForm g E Z phis enters operand leaves →
    NoIdlePhi g E Z phis operand → (b k : ℕ) → IsTrue (Z b) → IsAnswer g E b k (after E (take k (block_at g b).events) (entered phis b (enters b)))

module _ (func : FuncState) (flow : FlowState) (f : FormState) (same : flow.graph ≡ edges_of func.blocks) (one : OnePlaced func.blocks)
    (closed : IsClosed (graph_of func.blocks)) (red : IsReducible (graph_of func.blocks))
    (edges : (a b : ℕ) → HasEdge (edges_of func.blocks) a b ↔ HasEdge (graph_of func.blocks) a b)
    (reach : (b : ℕ) → IsReached (edges_of func.blocks) b ↔ IsReached (graph_of func.blocks) b)
    (order : OrderReached flow.graph) (told : EdgesTold flow.graph) (all : EdgesAll flow.graph)
    (filled : IsFilled func flow.graph f) (none : NoTrivial flow.graph f) (whole : WholeForm) (answers : FormAnswers) where
  to_g : (b : ℕ) → IsReached (graph_of func.blocks) b → IsReached flow.graph b
  to_g b r = subst (λ (g : List Run). IsReached g b) (sym same) ((reach b).1 r)

  from_g : (b : ℕ) → IsReached flow.graph b → IsReached (graph_of func.blocks) b
  from_g b r = (reach b).0 (subst (λ (g : List Run). IsReached g b) same r)

  edge_to_g : (a b : ℕ) → HasEdge (graph_of func.blocks) a b → HasEdge flow.graph a b
  edge_to_g a b e = subst (λ (g : List Run). HasEdge g a b) (sym same) ((edges a b).1 e)

  edge_from_g : (a b : ℕ) → HasEdge flow.graph a b → HasEdge (graph_of func.blocks) a b
  edge_from_g a b e = (edges a b).0 (subst (λ (g : List Run). HasEdge g a b) same e)

  abbrev Z : ℕ → Bool
  Z b = is_some (order_of flow.graph b)

  abbrev phis : ℕ → Bool
  phis b = has_phi f b

  abbrev enters : ℕ → Event
  enters b = event_at (enters_at f b)

  abbrev leaves : ℕ → Event
  leaves b = event_at (leaving_at f b)

  abbrev operand : ℕ → ℕ → Event
  operand b a = leaves a

  in_z : (b : ℕ) → IsTrue (Z b) ↔ IsReached (graph_of func.blocks) b
  in_z b = (λ z. from_g b ((order b).0 z), λ r. (order b).1 (to_g b r))

  entered_at : (b : ℕ) → IsReached flow.graph b → is_some (entering_at f b) ≡ true
  entered_at b r = entered_all flow.graph f filled.consistent all b r.0 r.1

  begins : (b : ℕ) → event_at (entering_at f b) ≡ entered phis b (enters b)
  begins b = ⊎_elim (λ (t : has_phi f b ≡ true). rw t refl) (λ (o : has_phi f b ≡ false). rw o refl) (cases_Bool (has_phi f b))

  -- what is before a place, as an event
  before_event : (b k : ℕ) → event_at (before_at func.blocks b k (entering_at f b)) ≡ after (defs_of func.blocks) (take k (block_at (graph_of func.blocks) b).events) (entered phis b (enters b))
  before_event b k =
      event_after (defs_of func.blocks) (take k (insts_at func.blocks b)) None (entering_at f b) (λ j x e. def_told func.blocks one b j x (take_found k j (insts_at func.blocks b) x e))
      ∙ ap (after (defs_of func.blocks) (numbers (take k (insts_at func.blocks b)))) (begins b)
      ∙ ap (λ (is : List ℕ). after (defs_of func.blocks) is (entered phis b (enters b))) (sym (take-numbers k (insts_at func.blocks b)) ∙ ap (take k) (sym (events_at func.blocks b)))

  leaves_event : (b : ℕ) → leaves b ≡ after (defs_of func.blocks) (block_at (graph_of func.blocks) b).events (entered phis b (enters b))
  leaves_event b =
      ap (λ (l : Option InstNo). event_at (after_last l (entering_at f b))) (filled.lasts b)
      ∙ event_after (defs_of func.blocks) (insts_at func.blocks b) None (entering_at f b) (λ j x e. def_told func.blocks one b j x e)
      ∙ ap (after (defs_of func.blocks) (numbers (insts_at func.blocks b))) (begins b)
      ∙ ap (λ (is : List ℕ). after (defs_of func.blocks) is (entered phis b (enters b))) (sym (events_at func.blocks b))

  form : IsForm (graph_of func.blocks) (defs_of func.blocks) Z phis enters operand leaves
  form = record {
    leaves_block = λ b z. leaves_event b;
    leaves_outside = λ a r z runs. absurd (both_ways (Z a) z ((in_z a).1 r));
    enters_entry = λ z t. ap event_at (filled.consistent.entry t);
    enters_block = λ a b z t r e.
        let over : IsSlot flow.graph a b = slot_of_edge flow.graph all a b (to_g a r) (edge_to_g a b e) in
        ap event_at (filled.consistent.enters b over.slot over.source t over.found ∙ ap (leaving_at f) over.from);
    operands = λ a b z t r e. refl;
  }

  some_access : (x : Option Access) → is_some x ≡ true → (a : Access) × (x ≡ Some a)
  some_access None t = cc
  some_access (Some a) t = (a, refl)

  by_event : (a : Access) (e : Event) → event_of a ≡ e → a ≡ access_of e
  by_event a e h = sym (access_of-event a) ∙ ap access_of h

  no_trivial : NoTrivialPhi (graph_of func.blocks) Z phis operand
  no_trivial b z t triv =
      let r : IsReached flow.graph b = (order b).0 z in
      none b (access_of triv.0) t (
        λ i. ap access_of (triv.1.0 i),
        λ slot lt. brings slot lt r,
      )
    where
      brings : (slot : ℕ) → slot < length (sources_of flow.graph b) → IsReached flow.graph b → (operand_at f b slot ≡ Some (access_of triv.0)) ⊎ (operand_at f b slot ≡ Some (Phi (record { 0 = b })))
      brings slot lt r =
          let s = member_at (sources_of flow.graph b) slot lt in
          let e = source_edge flow.graph told b slot s.0 s.1 in
          let a = some_access (leaving_at f s.0.from) (leaves_true f s.0.from (entered_at s.0.from e.0)) in
          let is : operand_at f b slot ≡ Some a.0 = filled.consistent.operands b slot s.0 t s.1 ∙ a.1 in
          let ev : leaves s.0.from ≡ event_of a.0 = ap event_at a.1 in
          ⊎_elim
          (λ (x : leaves s.0.from ≡ triv.0). inl (is ∙ ap Some (by_event a.0 triv.0 (sym ev ∙ x))))
          (λ (x : leaves s.0.from ≡ LastPhi b). inr (is ∙ ap Some (by_event a.0 (LastPhi b) (sym ev ∙ x))))
          (triv.1.1 s.0.from (from_g s.0.from e.0) (edge_from_g s.0.from b e.1))

  needs_reached : (b : ℕ) → NeedsPhi (graph_of func.blocks) (defs_of func.blocks) b → IsReached (graph_of func.blocks) b
  needs_reached b n = (in_z b).0 (n Z (record { one_event = λ x p q hp hq o. absurd (both_ways (Z x) o ((in_z x).1 (p, hp))) }))

  needed : IsNeeded (graph_of func.blocks) (defs_of func.blocks) (has_phi f)
  needed b =
      let law = whole (graph_of func.blocks) (defs_of func.blocks) Z phis enters operand leaves (stands_once func.blocks one) closed red in_z form no_trivial b in
      (λ t. (law (from_g b (filled.phis b t))).0 t, λ n. (law (needs_reached b n)).1 n)

  answer_at : (b k : ℕ) → IsReached (graph_of func.blocks) b → IsAnswer (graph_of func.blocks) (defs_of func.blocks) b k (after (defs_of func.blocks) (take k (block_at (graph_of func.blocks) b).events) (entered phis b (enters b)))
  answer_at b k r =
      answers (graph_of func.blocks) (defs_of func.blocks) Z phis enters operand leaves (stands_once func.blocks one) closed red
      (record { all_reached = λ x z. (in_z x).0 z; kept_out = λ x y z r' e. inl ((in_z x).1 r') }) form (λ x z t. inr (no_trivial x z t)) b k ((in_z b).1 r)

  answered : (b k : ℕ) (x : Option Access) → is_some x ≡ true → IsAnswer (graph_of func.blocks) (defs_of func.blocks) b k (event_at x) → IsAnswered func.blocks b k x
  answered b k None t h = cc
  answered b k (Some a) t h = h

  before_some : (last : Option InstNo) (x : Option Access) → is_some x ≡ true → is_some (after_last last x) ≡ true
  before_some None x t = t
  before_some (Some i) x t = refl

  before_answered : (b k : ℕ) → IsReached (graph_of func.blocks) b → IsAnswered func.blocks b k (before_at func.blocks b k (entering_at f b))
  before_answered b k r =
      answered b k (before_at func.blocks b k (entering_at f b)) (before_some (last_from None (take k (insts_at func.blocks b))) (entering_at f b) (entered_at b (to_g b r)))
      (subst (IsAnswer (graph_of func.blocks) (defs_of func.blocks) b k) (sym (before_event b k)) (answer_at b k r))

  pub form_of_function : IsFormOf func f
  form_of_function = record {
    phis = needed;
    entering = λ b r o.
        let e : entering_at f b ≡ enters_at f b = rw o refl in
        subst (IsAnswered func.blocks b 0) e (before_answered b 0 r);
    no_entering = λ b out. filled.no_entering b (⊎_elim (λ (u : IsReached (graph_of func.blocks) b → ⊥). inl (λ r. u (from_g b r))) (λ (t : has_phi f b ≡ true). inr t) out);
    operands = λ b slot e t found.
        let found' : slice_get (sources_of flow.graph b) slot ≡ Some e = subst (λ (g : List Run). slice_get (sources_of g b) slot ≡ Some e) (sym same) found in
        let r = source_edge flow.graph told b slot e found' in
        let end : before_at func.blocks e.from (length (insts_at func.blocks e.from)) (entering_at f e.from) ≡ leaving_at f e.from =
        ap (λ (xs : List Placed). after_last (last_from None xs) (entering_at f e.from)) (take_all (length (insts_at func.blocks e.from)) (insts_at func.blocks e.from) (omega arith))
        ∙ ap (λ (l : Option InstNo). after_last l (entering_at f e.from)) (sym (filled.lasts e.from)) in
        subst (IsAnswered func.blocks e.from (length (insts_at func.blocks e.from))) (end ∙ sym (filled.consistent.operands b slot e t found')) (before_answered e.from (length (insts_at func.blocks e.from)) (from_g e.from r.0));
    no_operand = λ b slot out.
        filled.no_operand b slot (⊎_elim (λ (o : has_phi f b ≡ false). inl o)
        (λ (past : length (sources_of (edges_of func.blocks) b) ≤ slot). inr (subst (λ (g : List Run). length (sources_of g b) ≤ slot) (sym same) past)) out);
    defining = λ b k x r a. subst (IsAnswered func.blocks b k) (sym (filled.defining b k x (to_g b r) a)) (before_answered b k r);
    no_defining = λ i n. filled.no_defining i (λ b k x r a e. n b k x (from_g b r) a e);
    lasts = filled.lasts;
  }
