-- What was reached, with phis left out, is resolved in the sense of `ms_paths`, so that what an access leads to is the answer.
use Rattle.std.proofs.Common.{Bool, true, false, ◌≡◌, ◌<◌, ◌⊎◌, ◌↔◌, inl, inr, ℕ, List, length, take, get_or, Option, Some, None, refl, ap, sym, ◌∙◌, subst, arith, ⊎_elim}
use Rattle.std.specs.Prelude.{slice_get, is_some, IsTrue, not}
use Rattle.std.proofs.lemmas.Bool.{both_ways}
use Rattle.ms_paths.specs.Flow.{Block as Run, block_at, HasEdge, IsReached, Event, Of as LastOf, Phi as LastPhi, Entry as LastEntry, after, entered, IsAnswer, StandsOnce, IsReducible, IsClosed, IsForm, IsTrivialPhi}
use Rattle.ms_paths.specs.Walk.{IsDefining, IsResolved}
use Rattle.ms_ir.specs.declared.names.BlockNo.{BlockNo}
use Rattle.ms_ir.specs.Graph.{graph_of, defs_of}
use Rattle.ms_ir.specs.Func.{Placed, FuncState, insts_at}
use Rattle.ms_flow.specs.Table.{edges_of}
use Rattle.ms_flow.specs.Flow.{sources_of, order_of}
use Rattle.ms_form.specs.declared.access.Access.{Access}
use Rattle.ms_form.specs.declared.access.Access.TheVariants.{Entry, Of, Phi}
use Rattle.ms_form.specs.Form.{FormState}
use Rattle.ms_build.specs.Accesses.{event_of, has_phi, operand_at, defining_at}
use Rattle.ms_build.specs.Built.{IsFormOf}
use Rattle.ms_climb.specs.declared.chains.Mark.{Mark}
use Rattle.ms_climb.specs.declared.chains.Mark.TheVariants.{Counts, Passed}
use Rattle.ms_climb.specs.declared.skips.Skip.{Skip}
use Rattle.ms_climb.specs.Answer.{AreDefs, IsLastAt}
use Rattle.ms_climb.specs.Chains.{before_of, mark_at, stop_by, stop_of, IsPassed}
use Rattle.ms_climb.specs.Walk.{WalkState, brought_of, has_met, phi_at, Knows, Sees, IsCollected}
use Rattle.ms_climb.specs.Skips.{SkipsState, skip_of, IsLeading, way_of, IsTrivialWay, IsBrought, IsSettled}
use Rattle.ms_climb.proofs.WalkLemmas.{sees_start}
use Rattle.ms_build.proofs.Define.{OnePlaced}
use Rattle.ms_build.proofs.Events.{access_of, access_of-event, stands_once}
use Rattle.ms_climb.proofs.Events.{access_of-entry}
use Rattle.ms_climb.proofs.Answered.{LiesLaw, EdgesTold, EdgesAll, IsSlot, IsIn, slice_get_below, member_at, in_order, begins, leaves, brings, names, in_z, slot_of, edge_of, answer_is, is_form, is_defining, entered_begins, operand_is, answer_in, before_in, brought_in}

abbrev pub WalkLaw : Type 0
WalkLaw = (g : List Run) (D E R phis : ℕ → Bool) (enters : ℕ → Event) (operand : ℕ → ℕ → Event) (leaves defining : ℕ → Event)
    (seen : Event → Bool) (kept : ℕ → Bool) (leads : Event → Event) →
    ((b : ℕ) → IsTrue (R b) ↔ IsReached g b) → IsForm g D R phis enters operand leaves → IsDefining g D phis enters defining →
    IsResolved g D E phis operand defining seen kept leads → ((i : ℕ) → IsTrue (E i) → IsTrue (D i)) →
    StandsOnce g → IsClosed g → IsReducible g → (b k : ℕ) → IsReached g b →
    IsTrue (seen (after D (take k (block_at g b).events) (entered phis b (enters b)))) →
    IsAnswer g E b k (leads (after D (take k (block_at g b).events) (entered phis b (enters b))))

-- the access was reached, as a test
abbrev is_seen : WalkState → Access → Bool
is_seen w Entry = true
is_seen w (Of i) = is_some (mark_at w.chains i.0)
is_seen w (Phi b) = has_met w b.0

seen_of : (w : WalkState) (insts blocks : ℕ) (a : Access) → length w.chains.marks ≡ insts → length w.met ≡ blocks → IsIn insts blocks a → Sees w a → is_seen w a ≡ true
seen_of w insts blocks Entry n m lt h = refl
seen_of w insts blocks (Of i) n m lt h = h.0 (omega arith)
seen_of w insts blocks (Phi b) n m lt h = h.1 (omega arith)

module _ (func : FuncState) (gr : List Run) (f : FormState) (same : gr ≡ edges_of func.blocks) (form : IsFormOf func f) (one : OnePlaced func.blocks)
    (made : (b j : ℕ) (x : Placed) → slice_get (insts_at func.blocks b) j ≡ Some x → x.number < func.made) (closed : IsClosed (graph_of func.blocks))
    (edges : (a b : ℕ) → HasEdge (edges_of func.blocks) a b ↔ HasEdge (graph_of func.blocks) a b)
    (reach : (b : ℕ) → IsReached (edges_of func.blocks) b ↔ IsReached (graph_of func.blocks) b)
    (order : (b : ℕ) → (is_some (order_of gr b) ≡ true → IsReached gr b) × (IsReached gr b → is_some (order_of gr b) ≡ true))
    (told : EdgesTold gr) (all : EdgesAll gr) (lies : LiesLaw)
    (E : ℕ → Bool) (start : Access) (w : WalkState) (s : SkipsState) (size : length gr ≡ length func.blocks) (c : IsCollected gr f E func.made start w) (settled : IsSettled gr f w s) where
  blocks_are : length w.met ≡ length func.blocks
  blocks_are = c.blocks ∙ size

  leads : Access → Access
  leads = settled.skipping.leads

  leading : IsLeading s leads
  unfolding leads
  leading = settled.skipping.leading

  seen : Event → Bool
  seen e = is_seen w (access_of e)

  kept : ℕ → Bool
  kept b = not (is_some (skip_of s (Phi (record { 0 = b }))))

  to : Event → Event
  to e = event_of (leads (stop_of w.chains (access_of e)))

  kept_none : (b : ℕ) → kept b ≡ true → skip_of s (Phi (record { 0 = b })) ≡ None
  unfolding kept
  kept_none b t = by_skip (skip_of s (Phi (record { 0 = b }))) t
    where
      by_skip : (x : Option Skip) → not (is_some x) ≡ true → x ≡ None
      by_skip None e = refl
      by_skip (Some k) e = cc

  left_some : (b : ℕ) → kept b ≡ false → (k : Skip) × (skip_of s (Phi (record { 0 = b })) ≡ Some k)
  unfolding kept
  left_some b o = by_skip (skip_of s (Phi (record { 0 = b }))) o
    where
      by_skip : (x : Option Skip) → not (is_some x) ≡ false → (k : Skip) × (x ≡ Some k)
      by_skip None e = cc
      by_skip (Some k) e = (k, refl)

  -- Defs.

  from_entry : to LastEntry ≡ LastEntry
  unfolding to
  from_entry = ap event_of (leading.kept Entry refl)

  to_counted : (i : ℕ) → IsTrue (E i) → to (LastOf i) ≡ LastOf i
  unfolding to
  to_counted i t = ap (λ (a : Access). event_of (leads a)) (by_mark (mark_at w.chains i) refl) ∙ ap event_of (leading.kept (Of (record { 0 = i })) refl)
    where
      by_mark : (x : Option Mark) → mark_at w.chains i ≡ x → stop_by w.chains (record { 0 = i }) x ≡ Of (record { 0 = i })
      by_mark None e = refl
      by_mark (Some Counts) e = refl
      by_mark (Some (Passed n)) e = absurd (both_ways (E i) (c.walked.climbed.passed i n e).passes t)

  -- a Def that was met and does not count was passed
  record WasPassed (i : ℕ) : Type 0 where
    chain : ℕ
    at : mark_at w.chains i ≡ Some (Passed chain)
    passed : IsPassed f E w.chains i chain

  was_passed : (i : ℕ) → seen (LastOf i) ≡ true → E i ≡ false → WasPassed i
  unfolding seen
  was_passed i t o = by_mark (mark_at w.chains i) refl t
    where
      by_mark : (x : Option Mark) → mark_at w.chains i ≡ x → is_some x ≡ true → WasPassed i
      by_mark None e h = cc
      by_mark (Some Counts) e h = absurd (both_ways (E i) o (c.walked.climbed.counts i e))
      by_mark (Some (Passed n)) e h = record { chain = n; at = e; passed = c.walked.climbed.passed i n e }

  names_access : (i : ℕ) → access_of (names f i) ≡ before_of f i
  names_access i = access_of-entry (defining_at f i)

  sees_next : (i : ℕ) → seen (LastOf i) ≡ true → E i ≡ false → seen (names f i) ≡ true
  unfolding seen
  sees_next i t o =
      let p = was_passed i t o in
      let knows : Knows w (before_of f i) = sees_start w.chains w (before_of f i) (get_or w.chains.stops p.chain Entry) p.passed.stop (c.walked.stops p.chain) in
      let h : is_seen w (before_of f i) ≡ true =
      seen_of w func.made (length func.blocks) (before_of f i) c.insts_are blocks_are (before_in func gr f same form one made closed edges reach order told all lies i) (p.passed.met, knows) in
      ap (is_seen w) (names_access i) ∙ h

  passes_next : (i : ℕ) → seen (LastOf i) ≡ true → E i ≡ false → to (LastOf i) ≡ to (names f i)
  unfolding to
  passes_next i t o =
      let p = was_passed i t o in
      let here : stop_of w.chains (Of (record { 0 = i })) ≡ get_or w.chains.stops p.chain Entry = ap (stop_by w.chains (record { 0 = i })) p.at in
      ap (λ (a : Access). event_of (leads a)) (here ∙ sym p.passed.stop ∙ ap (stop_of w.chains) (sym (names_access i)))

  -- Phis.

  brings_access : (a b : ℕ) (slot : IsSlot gr a b) → has_phi f b ≡ true → access_of (brings func f b a) ≡ brought_of f b slot.slot
  brings_access a b slot t =
      ap access_of (sym (operand_is func gr f same form one made closed edges reach order told all lies b slot.slot slot.source t slot.found
      ∙ ap (leaves func f) slot.from))
      ∙ access_of-entry (operand_at f b slot.slot)

  opened : (b slot : ℕ) → has_met w b ≡ true → slot < length (sources_of gr b) → Sees w (brought_of f b slot)
  opened b slot t lt =
      let l = c.walked.listed b t in
      let lt' : slot < length (sources_of gr (phi_at w l.place).0) = subst (λ (n : ℕ). slot < length (sources_of gr n)) (sym l.at) lt in
      subst (λ (n : ℕ). Sees w (brought_of f n slot)) l.at (c.opened l.place slot l.below lt')

  opens : (a b : ℕ) → seen (LastPhi b) ≡ true → has_phi f b ≡ true → IsReached (graph_of func.blocks) a → HasEdge (graph_of func.blocks) a b
      → seen (brings func f b a) ≡ true
  unfolding seen
  opens a b t p r e =
      let slot = slot_of func gr f same form one made closed edges reach order told all lies a b r e in
      let h : is_seen w (brought_of f b slot.slot) ≡ true =
      seen_of w func.made (length func.blocks) (brought_of f b slot.slot) c.insts_are blocks_are (brought_in func gr f same form one made closed edges reach order told all lies b slot.slot)
      (opened b slot.slot t (slice_get_below (sources_of gr b) slot.slot slot.source slot.found)) in
      ap (is_seen w) (brings_access a b slot p) ∙ h

  to_phi : (b : ℕ) → kept b ≡ true → to (LastPhi b) ≡ LastPhi b
  unfolding to
  to_phi b t = ap event_of (leading.kept (Phi (record { 0 = b })) (kept_none b t))

  brought : (b : ℕ) → kept b ≡ false → IsBrought gr f w leads (record { 0 = b })
  unfolding leads
  brought b o = let k = left_some b o in settled.skipping.brought (record { 0 = b }) k.0 k.1

  to_brings : (a b : ℕ) (slot : IsSlot gr a b) → has_phi f b ≡ true → to (brings func f b a) ≡ event_of (way_of f w leads (record { 0 = b }) slot.slot)
  unfolding to
  to_brings a b slot t = ap (λ (x : Access). event_of (leads (stop_of w.chains x))) (brings_access a b slot t)

  skips : (a b : ℕ) → has_phi f b ≡ true → kept b ≡ false → IsReached (graph_of func.blocks) a → HasEdge (graph_of func.blocks) a b
      → to (LastPhi b) ≡ to (brings func f b a)
  unfolding to
  skips a b t o r e =
      let slot = slot_of func gr f same form one made closed edges reach order told all lies a b r e in
      let way = (brought b o).ways slot.slot (slice_get_below (sources_of gr b) slot.slot slot.source slot.found) in
      ap event_of (sym way) ∙ sym (to_brings a b slot t)

  skips_entry : kept 0 ≡ false → to (LastPhi 0) ≡ LastEntry
  unfolding to
  skips_entry o = ap event_of ((brought 0 o).entry refl)

  none_trivial : (b : ℕ) → seen (LastPhi b) ≡ true → has_phi f b ≡ true → kept b ≡ true
      → IsTrivialPhi (graph_of func.blocks) (λ x a. to (brings func f x a)) b → ⊥
  unfolding seen
  none_trivial b t p k triv =
      let l = c.walked.listed b t in
      let same_block : phi_at w l.place ≡ record { 0 = b } = ap (λ (n : ℕ). record { 0 = n }) l.at in
      let done = subst (λ (x : BlockNo). skip_of s (Phi x) ≡ None → (go : Access → Access) → IsLeading s go → (a : Access) → IsTrivialWay f w go x (length (sources_of gr x.0)) a → ⊥) same_block (settled.done l.place l.below) in
      done (kept_none b k) leads leading (access_of triv.0) (λ z. ap access_of (triv.1.0 z), λ slot lt. way slot lt)
    where
      way : (slot : ℕ) → slot < length (sources_of gr b) → (way_of f w leads (record { 0 = b }) slot ≡ access_of triv.0) ⊎ (way_of f w leads (record { 0 = b }) slot ≡ Phi (record { 0 = b }))
      way slot lt =
          let m = member_at (sources_of gr b) slot lt in
          let e = edge_of func gr f same form one made closed edges reach order told all lies b slot m.0 m.1 in
          let at : IsSlot gr m.0.from b = record { slot = slot; source = m.0; found = m.1; from = refl } in
          let is : access_of (to (brings func f b m.0.from)) ≡ way_of f w leads (record { 0 = b }) slot =
          ap access_of (to_brings m.0.from b at p) ∙ access_of-event (way_of f w leads (record { 0 = b }) slot) in
          ⊎_elim
          (λ (x : to (brings func f b m.0.from) ≡ triv.0). inl (sym is ∙ ap access_of x))
          (λ (x : to (brings func f b m.0.from) ≡ LastPhi b). inr (sym is ∙ ap access_of x))
          (triv.1.1 m.0.from e.0 e.1)

  resolved : IsResolved (graph_of func.blocks) (defs_of func.blocks) E (has_phi f)
      (brings func f) (names f) seen kept to
  resolved = record {
    from_entry = from_entry;
    stops = to_counted;
    sees = λ i t d o. sees_next i t o;
    passes = λ i t d o. passes_next i t o;
    keeps = λ b t k. to_phi b k;
    opens = opens;
    skips = λ a b t p o r e. skips a b p o r e;
    skips_entry = λ t p o. skips_entry o;
    none_trivial = none_trivial;
  }

  -- where the way up from the last Def at a place leads, there is the last counted Def
  pub found_last : WalkLaw → AreDefs func.blocks E → IsReducible (graph_of func.blocks) → (root : Access) → ((go : Access → Access) → IsLeading s go → go (stop_of w.chains start) ≡ root)
      → (b k : ℕ) → IsReached (graph_of func.blocks) b → IsLastAt func.blocks (defs_of func.blocks) b k start → IsLastAt func.blocks E b k root
  unfolding to seen leads
  found_last law defs red root leads_to b k r last =
      let e : Event = after (defs_of func.blocks) (take k (block_at (graph_of func.blocks) b).events)
      (entered (has_phi f) b (begins f b)) in
      let here : e ≡ event_of start =
      ap (after (defs_of func.blocks) (take k (block_at (graph_of func.blocks) b).events)) (entered_begins f b)
      ∙ sym (answer_is func f form one b k (event_of start) r last) in
      let sees : is_seen w (access_of e) ≡ true =
      ap (λ (x : Event). is_seen w (access_of x)) here ∙ ap (is_seen w) (access_of-event start)
      ∙ seen_of w func.made (length func.blocks) start c.insts_are blocks_are (answer_in func gr f same form one made closed edges reach order told all lies b k start r last) c.sees in
      let answer : IsAnswer (graph_of func.blocks) E b k (to e) =
      law (graph_of func.blocks) (defs_of func.blocks) E (in_order gr) (has_phi f)
      (begins f) (brings func f) (leaves func f)
      (names f) seen kept to (in_z func gr f same form one made closed edges reach order told all lies)
      (is_form func gr f same form one made closed edges reach order told all lies) (is_defining func f form one) resolved defs
      (stands_once func.blocks one) closed red b k r sees in
      subst (IsAnswer (graph_of func.blocks) E b k)
      (ap to here ∙ ap (λ (x : Access). event_of (leads (stop_of w.chains x))) (access_of-event start) ∙ ap event_of (leads_to leads leading)) answer
