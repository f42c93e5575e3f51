-- The stop of a chain of Defs is the answer.
use Rattle.std.proofs.Common.{Bool, true, false, ◌≡◌, ◌<◌, ◌↔◌, ◌||◌, inl, inr, ℕ, List, [], ◌∷◌, ◌++◌, take, Some, refl, ap, sym, ◌∙◌, subst, arith, if◌then◌else◌}
use Rattle.std.specs.Prelude.{slice_get, is_some, nat_eq}
use Rattle.std.proofs.lemmas.Bool.{or_left, or_right}
use Rattle.std.proofs.lemmas.Bool.Decides.{nat_tests, eqb_tells}
use Rattle.ms_paths.specs.Flow.{Block as Run, block_at, HasEdge, IsReached, Event, Of as LastOf, Phi as LastPhi, Entry as LastEntry, after, entered, IsAnswer, IsReducible, IsClosed}
use Rattle.ms_paths.specs.Walk.{IsResolved}
use Rattle.ms_ir.specs.declared.names.InstNo.{InstNo}
use Rattle.ms_ir.specs.Graph.{graph_of, defs_of}
use Rattle.ms_ir.specs.Func.{Placed, FuncState, insts_at}
use Rattle.ms_flow.specs.Table.{edges_of}
use Rattle.ms_flow.specs.Flow.{order_of}
use Rattle.ms_form.specs.declared.access.Access.{Access}
use Rattle.ms_form.specs.declared.access.Access.TheVariants.{Entry, Of, Phi}
use Rattle.ms_form.specs.Form.{FormState}
use Rattle.ms_build.specs.Accesses.{event_of, has_phi, defining_at}
use Rattle.ms_build.specs.Built.{IsFormOf}
use Rattle.ms_climb.specs.Answer.{AreDefs, IsLastAt}
use Rattle.ms_climb.specs.Chains.{before_of, IsChain}
use Rattle.ms_climb.specs.Near.{IsStop, IsNear}
use Rattle.ms_build.proofs.Define.{OnePlaced}
use Rattle.ms_build.proofs.Events.{stands_once}
use Rattle.ms_climb.proofs.Events.{event_of-entry}
use Rattle.ms_climb.proofs.Answered.{LiesLaw, EdgesTold, EdgesAll, in_order, begins, leaves, brings, names, in_z, answer_is, is_form, is_defining, entered_begins}
use Rattle.ms_climb.proofs.Resolved.{WalkLaw}

-- one more Def is passed
pub chain_more : (f : FormState) (E : ℕ → Bool) (is : List InstNo) (from at : Access) (i : InstNo) → IsChain f E is from at → at ≡ Of i → E i.0 ≡ false → IsChain f E (is ++ i ∷ []) from (before_of f i.0)
chain_more f E [] from at i h e o = (h ∙ e, o, refl)
chain_more f E (j ∷ is) from at i h e o = (h.0, h.1, chain_more f E is (before_of f j.0) at i h.2 e o)

is_on : List InstNo → ℕ → Bool
is_on [] i = false
is_on (j ∷ is) i = nat_eq j.0 i || is_on is i

-- the accesses of a chain, and all Defs that count
seen_by : List InstNo → (ℕ → Bool) → Event → Bool
seen_by is E LastEntry = true
seen_by is E (LastOf i) = is_on is i || E i
seen_by is E (LastPhi b) = false

-- each Def that does not count leads to this event
led_by : (ℕ → Bool) → Event → Event → Event
led_by E to LastEntry = LastEntry
led_by E to (LastOf i) = if E i then LastOf i else to
led_by E to (LastPhi b) = LastPhi b

record IsLed (all : List InstNo) (E : ℕ → Bool) (to : Access) (x : Event) : Type 0 where
  seen : seen_by all E x ≡ true
  leads : led_by E (event_of to) x ≡ event_of to

led_stop : (all : List InstNo) (E : ℕ → Bool) (to : Access) → IsStop E to → IsLed all E to (event_of to)
unfolding seen_by led_by
led_stop all E Entry h = record { seen = refl; leads = refl }
led_stop all E (Of i) h = record { seen = or_right (is_on all i.0) (E i.0) h; leads = rw h refl }
led_stop all E (Phi b) h = absurd h

led_from : (f : FormState) (all is : List InstNo) (E : ℕ → Bool) (x to : Access) → IsChain f E is x to → IsStop E to → ((i : ℕ) → is_on is i ≡ true → is_on all i ≡ true) → IsLed all E to (event_of x)
unfolding seen_by led_by is_on
led_from f all [] E x to h stop sub = subst (λ (a : Access). IsLed all E to (event_of a)) (sym h) (led_stop all E to stop)
led_from f all (i ∷ is) E x to h stop sub =
    let on : is_on all i.0 ≡ true = sub i.0 (or_left (nat_eq i.0 i.0) (is_on is i.0) (let t : nat_eq i.0 i.0 ≡ true = grind (arith, nat_tests) in t)) in
    let here : IsLed all E to (LastOf i.0) = record { seen = or_left (is_on all i.0) (E i.0) on; leads = rw h.1 refl } in
    subst (λ (a : Access). IsLed all E to (event_of a)) (sym h.0) here

led_next : (f : FormState) (all is : List InstNo) (E : ℕ → Bool) (x to : Access) (i : ℕ) → IsChain f E is x to → IsStop E to → ((j : ℕ) → is_on is j ≡ true → is_on all j ≡ true) → is_on is i ≡ true → IsLed all E to (event_of (before_of f i))
unfolding is_on
led_next f all [] E x to i h stop sub on = cc
led_next f all (j ∷ is) E x to i h stop sub on =
    let rest : (k : ℕ) → is_on is k ≡ true → is_on all k ≡ true = λ k t. sub k (or_right (nat_eq j.0 k) (is_on is k) t) in
    elim (eqb_tells j.0 i) [
      | inl same ↦ subst (λ (k : ℕ). IsLed all E to (event_of (before_of f k))) same.1 (led_from f all is E (before_of f j.0) to h.2 stop rest)
      | inr other ↦ led_next f all is E (before_of f j.0) to i h.2 stop rest (rw other.0 at on)
    ]

module _ (func : FuncState) (gr : List Run) (f : FormState) (same : gr ≡ edges_of func.blocks) (form : IsFormOf func f) (one : OnePlaced func.blocks)
    (made : (b j : ℕ) (x : Placed) → slice_get (insts_at func.blocks b) j ≡ Some x → x.number < func.made) (closed : IsClosed (graph_of func.blocks))
    (edges : (a b : ℕ) → HasEdge (edges_of func.blocks) a b ↔ HasEdge (graph_of func.blocks) a b)
    (reach : (b : ℕ) → IsReached (edges_of func.blocks) b ↔ IsReached (graph_of func.blocks) b)
    (order : (b : ℕ) → (is_some (order_of gr b) ≡ true → IsReached gr b) × (IsReached gr b → is_some (order_of gr b) ≡ true))
    (told : EdgesTold gr) (all : EdgesAll gr) (lies : LiesLaw) (E : ℕ → Bool) (start to : Access) (near : IsNear f E start to) where
  led : (i : ℕ) → seen_by near.passed E (LastOf i) ≡ true → E i ≡ false → IsLed near.passed E to (names f i)
  unfolding seen_by
  led i t o =
      let on : is_on near.passed i ≡ true = grind (arith, nat_tests) in
      subst (IsLed near.passed E to) (event_of-entry (defining_at f i)) (led_next f near.passed near.passed E start to i near.chain near.stop (λ j x. x) on)

  resolved : IsResolved (graph_of func.blocks) (defs_of func.blocks) E (has_phi f) (brings func f) (names f) (seen_by near.passed E) (λ b. false) (led_by E (event_of to))
  unfolding seen_by led_by
  resolved = record {
    from_entry = refl;
    stops = λ i t. rw t refl;
    sees = λ i t d o. (led i t o).seen;
    passes = λ i t d o. (let e : led_by E (event_of to) (LastOf i) ≡ event_of to = rw o refl in e) ∙ sym (led i t o).leads;
    keeps = λ b t k. cc;
    opens = λ a b t p r e. cc;
    skips = λ a b t p k r e. cc;
    skips_entry = λ t p k. cc;
    none_trivial = λ b t p k triv. cc;
  }

  -- where a chain leads from the last Def at a place, there is the last counted Def
  pub near_last : WalkLaw → AreDefs func.blocks E → IsReducible (graph_of func.blocks)
      → (b k : ℕ) → IsReached (graph_of func.blocks) b → IsLastAt func.blocks (defs_of func.blocks) b k start → IsLastAt func.blocks E b k to
  near_last law defs red b k r last =
      let e : Event = after (defs_of func.blocks) (take k (block_at (graph_of func.blocks) b).events) (entered (has_phi f) b (begins f b)) in
      let here : e ≡ event_of start = ap (after (defs_of func.blocks) (take k (block_at (graph_of func.blocks) b).events)) (entered_begins f b) ∙ sym (answer_is func f form one b k (event_of start) r last) in
      let first = led_from f near.passed near.passed E start to near.chain near.stop (λ j x. x) in
      let sees : seen_by near.passed E e ≡ true = ap (seen_by near.passed E) here ∙ first.seen in
      let answer : IsAnswer (graph_of func.blocks) E b k (led_by E (event_of to) e) =
      law (graph_of func.blocks) (defs_of func.blocks) E (in_order gr) (has_phi f) (begins f) (brings func f) (leaves func f) (names f) (seen_by near.passed E) (λ x. false) (led_by E (event_of to))
      (in_z func gr f same form one made closed edges reach order told all lies) (is_form func gr f same form one made closed edges reach order told all lies) (is_defining func f form one) resolved defs
      (stands_once func.blocks one) closed red b k r sees in
      subst (IsAnswer (graph_of func.blocks) E b k) (ap (led_by E (event_of to)) here ∙ first.leads) answer
