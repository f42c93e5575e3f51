-- A run follows a path of its flow graph, and what that path brings took place last. Phis are among what counts: one takes place where its block is entered.
use Rattle.std.proofs.Common.{◌≡◌, ◌<◌, ◌≤◌, ◌∙◌, ◌⊎◌, refl, sym, ap, subst, inl, inr, arith, ⊎_elim, ℕ, zero, suc, ◌+◌, Bool, true, false, cond, List, [], ◌∷◌, take, Some, None}
use Rattle.std.specs.Prelude.{Contains, slice_get, max}
use Rattle.std.proofs.lemmas.Bool.{cases_Bool}
use Rattle.ms_paths.specs.Flow.{block_at, Event, Of, Phi, Entry, IsPath, HasEdge, after, entered, last_event, last_event_at}
use Rattle.ms_ir.specs.Func.{Placed, FuncState, insts_at}
use Rattle.ms_ir.specs.Graph.{graph_of, numbers}
use Rattle.ms_flow.proofs.Members.{here, there, in_none, in_cons}
use Rattle.ms_meaning.specs.States.{Input, State, begun}
use Rattle.ms_meaning.specs.Steps.{phis_among}
use Rattle.ms_meaning.specs.Traces.{IsOn, inst_of, Executes, Enters, IsAboutTo}
use Rattle.ms_meaning.proofs.Goes.{Goes, ran, left, goes, before, one_state}
use Rattle.ms_meaning.proofs.LastEvents.{events_at, at_behind, at_end}
use Rattle.ms_sound.proofs.Walks.{split}
use Rattle.ms_sound.proofs.Orders.{in_taken, taken_in}

-- the step after n others enters the block of a phi of this number
abbrev pub EntersPhi : FuncState → Input → ℕ → ℕ → Type 0
EntersPhi f input n i = (b : ℕ) × Enters f input n b × (j : ℕ) × (x : Placed) × (slice_get (insts_at f.blocks b) j ≡ Some x) × (j < phis_among (insts_at f.blocks b)) × (x.number ≡ i)

-- the event takes place at the end of so many steps
abbrev pub TakesPlace : FuncState → Input → Event → ℕ → Type 0
TakesPlace f input Entry n = n ≡ 0
TakesPlace f input (Of i) zero = ⊥
TakesPlace f input (Of i) (suc n) = ((x : Placed) × Executes f input n x × (x.number ≡ i)) ⊎ EntersPhi f input n i
TakesPlace f input (Phi b) zero = b ≡ 0
TakesPlace f input (Phi b) (suc n) = Enters f input n b

-- nothing that counts takes place in the step after n others
pub record IsIdle (f : FuncState) (input : Input) (E S : ℕ → Bool) (n : ℕ) : Type 0 where
  pub runs : (x : Placed) → Executes f input n x → E x.number ≡ false
  pub block : (b : ℕ) → Enters f input n b → S b ≡ false
  pub phis : (i : ℕ) → EntersPhi f input n i → E i ≡ false

-- the event took place, and nothing that counts since
pub record TookLast (f : FuncState) (input : Input) (E S : ℕ → Bool) (n : ℕ) (e : Event) : Type 0 where
  pub m : ℕ
  pub takes : TakesPlace f input e m
  pub before : m ≤ n
  pub idle : (k : ℕ) → m ≤ k → k < n → IsIdle f input E S k

-- what a list of instructions brings
after_cases : (E : ℕ → Bool) (is : List ℕ) (e : Event) → ((after E is e ≡ e) × ((i : ℕ) → Contains is i → E i ≡ false)) ⊎ ((i : ℕ) × Contains is i × (after E is e ≡ Of i))
after_cases E [] e = inl (refl, λ i h. absurd (in_none i h))
after_cases E (x ∷ is) e =
    ⊎_elim
    (λ (c : E x ≡ true). counts c (after_cases E is (Of x)))
    (λ (n : E x ≡ false). not n (after_cases E is e))
    (cases_Bool (E x))
  where
    counts : E x ≡ true → ((after E is (Of x) ≡ Of x) × ((i : ℕ) → Contains is i → E i ≡ false)) ⊎ ((i : ℕ) × Contains is i × (after E is (Of x) ≡ Of i)) →
        ((after E (x ∷ is) e ≡ e) × ((i : ℕ) → Contains (x ∷ is) i → E i ≡ false)) ⊎ ((i : ℕ) × Contains (x ∷ is) i × (after E (x ∷ is) e ≡ Of i))
    counts c (inl h) = inr (x, here x is, ap (λ (b : Bool). after E is (cond b (Of x) e)) c ∙ h.0)
    counts c (inr h) = inr (h.0, there x is h.0 h.1, ap (λ (b : Bool). after E is (cond b (Of x) e)) c ∙ h.2)

    not : E x ≡ false → ((after E is e ≡ e) × ((i : ℕ) → Contains is i → E i ≡ false)) ⊎ ((i : ℕ) × Contains is i × (after E is e ≡ Of i)) →
        ((after E (x ∷ is) e ≡ e) × ((i : ℕ) → Contains (x ∷ is) i → E i ≡ false)) ⊎ ((i : ℕ) × Contains (x ∷ is) i × (after E (x ∷ is) e ≡ Of i))
    not n (inl h) =
        inl (
          ap (λ (b : Bool). after E is (cond b (Of x) e)) n ∙ h.0,
          λ i among. ⊎_elim (λ (s : x ≡ i). ap E (sym s) ∙ n) (λ (r : Contains is i). h.1 i r) (in_cons x is i among),
        )
    not n (inr h) = inr (h.0, there x is h.0 h.1, ap (λ (b : Bool). after E is (cond b (Of x) e)) n ∙ h.2)

-- instructions that do not count bring nothing
skipped : (E : ℕ → Bool) (xs : List Placed) (k m : ℕ) (e : Event) → k ≤ m → ((j : ℕ) (x : Placed) → slice_get xs j ≡ Some x → k ≤ j → j < m → E x.number ≡ false) →
    after E (take m (numbers xs)) e ≡ after E (take k (numbers xs)) e
skipped E xs zero zero e le none = refl
skipped E xs (suc k) zero e le none = absurd (omega arith)
skipped E [] zero (suc m) e le none = refl
skipped E [] (suc k) (suc m) e le none = refl
skipped E (x ∷ xs) zero (suc m) e le none =
    ap (λ (b : Bool). after E (take m (numbers xs)) (cond b (Of x.number) e)) (none 0 x refl (omega arith) (omega arith))
    ∙ skipped E xs zero m e (omega arith) (λ j y found low high. none (suc j) y found (omega arith) (omega arith))
skipped E (x ∷ xs) (suc k) (suc m) e le none =
    skipped E xs k m (cond (E x.number) (Of x.number) e) (omega arith) (λ j y found low high. none (suc j) y found (omega arith) (omega arith))

module _ (f : FuncState) (input : Input) (E S : ℕ → Bool) where
  takes_now : (n : ℕ) (e : Event) → TakesPlace f input e n → TookLast f input E S n e
  takes_now n e o = record { m = n; takes = o; before = omega arith; idle = λ k low high. absurd (omega arith) }

  stays : (n : ℕ) (e : Event) → TookLast f input E S n e → IsIdle f input E S n → TookLast f input E S (suc n) e
  stays n e l quiet = record {
    m = l.m;
    takes = l.takes;
    before = (let b = l.before in omega arith);
    idle = λ k low high.
        ⊎_elim
        (λ (now : suc k ≡ suc n). subst (λ j. IsIdle f input E S j) (let j : n ≡ k = omega arith in j) quiet)
        (λ (earlier : suc k ≤ n). l.idle k low (omega arith))
        (split (suc k) n (omega arith));
  }

  -- after n steps, at this place
  record Follows (n : ℕ) (b k : ℕ) : Type 0 where
    path : List ℕ
    is_path : IsPath (graph_of f.blocks) b path
    last : TookLast f input E S n (last_event_at (graph_of f.blocks) E S b k path)

  at_start : Follows 0 0 0
  at_start = record {
    path = [];
    is_path = refl;
    last = takes_now 0 (entered S 0 Entry) (by_test (S 0));
  } where
    by_test : (t : Bool) → TakesPlace f input (cond t (Phi 0) Entry) 0
    by_test true = refl
    by_test false = refl

  module _ (n : ℕ) (t s : State) (on : IsOn f input n t) (on_s : IsOn f input (suc n) s) (so_far : Follows n t.block t.place) where
    abbrev so_last : Event
    so_last = last_event_at (graph_of f.blocks) E S t.block t.place so_far.path

    -- the step does what its place says
    runs_there : (x : Placed) → Executes f input n x → inst_of f t ≡ Some x
    runs_there x d = ap (inst_of f) (sym (one_state f input n d.0 t d.1 on)) ∙ d.2

    enters_there : (b : ℕ) → Enters f input n b → (inst_of f t ≡ None) × (s.block ≡ b)
    enters_there b d = (
      ap (inst_of f) (sym (one_state f input n d.0 t d.2 on)) ∙ d.3,
      ap (λ (u : State). u.block) (sym (one_state f input (suc n) d.1 s d.4 on_s)) ∙ d.5,
    )

    ran_on : (x : Placed) → inst_of f t ≡ Some x → s.block ≡ t.block → s.place ≡ t.place + 1 → Follows (suc n) s.block s.place
    ran_on x is block place =
        subst (λ (b : ℕ). Follows (suc n) b s.place) (sym block)
        (subst (λ (k : ℕ). Follows (suc n) t.block k) (sym place)
        (record {
          path = so_far.path;
          is_path = so_far.is_path;
          last = subst (λ d. TookLast f input E S (suc n) d) (sym (at_behind f.blocks E S t.block t.place so_far.path x is)) by_test;
        })) where
          by_test : TookLast f input E S (suc n) (cond (E x.number) (Of x.number) so_last)
          by_test =
              ⊎_elim
              (λ (c : E x.number ≡ true).
              subst (λ (b : Bool). TookLast f input E S (suc n) (cond b (Of x.number) so_last)) (sym c) (takes_now (suc n) (Of x.number) (inl (x, (t, on, is), refl))))
              (λ (not : E x.number ≡ false).
              subst (λ (b : Bool). TookLast f input E S (suc n) (cond b (Of x.number) so_last)) (sym not) (stays n so_last so_far.last (record {
                runs = λ y d. let two : Some x ≡ Some y = sym is ∙ runs_there y d in let one : x ≡ y = cc in ap (λ (z : Placed). E z.number) (sym one) ∙ not;
                block = λ b d. let never : Some x ≡ None = sym is ∙ (enters_there b d).0 in cc;
                phis = λ i d. let never : Some x ≡ None = sym is ∙ (enters_there d.0 d.1).0 in cc;
              })))
              (cases_Bool (E x.number))

    left_for : inst_of f t ≡ None → HasEdge (graph_of f.blocks) t.block s.block → s.place ≡ phis_among (insts_at f.blocks s.block) → Follows (suc n) s.block s.place
    left_for is edge place = record { path = t.block ∷ so_far.path; is_path = (edge, so_far.is_path); last = subst (λ d. TookLast f input E S (suc n) d) (sym event) (by_phis (after_cases E nums first)) } where
      nums : List ℕ
      nums = take (phis_among (insts_at f.blocks s.block)) (numbers (insts_at f.blocks s.block))

      first : Event
      first = entered S s.block so_last

      event : last_event_at (graph_of f.blocks) E S s.block s.place (t.block ∷ so_far.path) ≡ after E nums first
      event =
          ap (λ (k : ℕ). after E (take k (block_at (graph_of f.blocks) s.block).events) (entered S s.block (last_event (graph_of f.blocks) E S (t.block ∷ so_far.path)))) place
          ∙ ap (λ (is : List ℕ). after E (take (phis_among (insts_at f.blocks s.block)) is) (entered S s.block (last_event (graph_of f.blocks) E S (t.block ∷ so_far.path)))) (events_at f.blocks s.block)
          ∙ ap (λ (d : Event). after E nums (entered S s.block d)) (sym (at_end f.blocks E S t.block t.place so_far.path is))

      enters : Enters f input n s.block
      enters = (t, s, on, is, on_s, refl)

      no_phi : ((i : ℕ) → Contains nums i → E i ≡ false) → TookLast f input E S (suc n) first
      no_phi none =
          ⊎_elim
          (λ (c : S s.block ≡ true). subst (λ (b : Bool). TookLast f input E S (suc n) (cond b (Phi s.block) so_last)) (sym c) (takes_now (suc n) (Phi s.block) enters))
          (λ (not : S s.block ≡ false).
          subst (λ (b : Bool). TookLast f input E S (suc n) (cond b (Phi s.block) so_last)) (sym not) (stays n so_last so_far.last (record {
            runs = λ y d. let never : None ≡ Some y = sym is ∙ runs_there y d in cc;
            block = λ b d. ap S (sym (enters_there b d).1) ∙ not;
            phis = λ i d. none i (there_phi i d);
          })))
          (cases_Bool (S s.block)) where
            there_phi : (i : ℕ) → EntersPhi f input n i → Contains nums i
            there_phi i d =
                let block = (enters_there d.0 d.1).1 in
                subst (λ m. Contains nums m) d.6
                (taken_in (insts_at f.blocks s.block) (phis_among (insts_at f.blocks s.block)) d.2 d.3 (ap (λ c. slice_get (insts_at f.blocks c) d.2) block ∙ d.4)
                (subst (λ c. d.2 < phis_among (insts_at f.blocks c)) (sym block) d.5))

      by_phis : ((after E nums first ≡ first) × ((i : ℕ) → Contains nums i → E i ≡ false)) ⊎ ((i : ℕ) × Contains nums i × (after E nums first ≡ Of i)) → TookLast f input E S (suc n) (after E nums first)
      by_phis (inl h) = subst (λ d. TookLast f input E S (suc n) d) (sym h.0) (no_phi h.1)
      by_phis (inr h) =
          let r = in_taken (insts_at f.blocks s.block) (phis_among (insts_at f.blocks s.block)) h.0 h.1 in
          subst (λ d. TookLast f input E S (suc n) d) (sym h.2) (takes_now (suc n) (Of h.0) (inr (s.block, enters, r.0, r.1, r.2, r.4, r.3)))

    stepped : Goes f t s → Follows (suc n) s.block s.place
    stepped (ran x d is does same) = ran_on x is (ap (λ (u : State). u.block) same) (ap (λ (u : State). u.place) same)
    stepped (left b locals is edge phis same) =
        let block : s.block ≡ b = ap (λ (u : State). u.block) same in
        left_for is (subst (λ c. HasEdge (graph_of f.blocks) t.block c) (sym block) edge)
        (ap (λ (u : State). u.place) same ∙ ap (λ c. phis_among (insts_at f.blocks c)) (sym block))

  follow : (n : ℕ) (s : State) → IsOn f input n s → Follows n s.block s.place
  follow zero s on = subst (λ (x : State). Follows 0 x.block x.place) (one_state f input 0 (begun input) s refl on) at_start
  follow (suc n) s on =
      let c = before f input n s on in
      stepped n c.0 s c.1 on (follow n c.0 c.1) (goes f c.0 s c.2)

  -- where the run is about to come to a place behind which no phi of the block counts
  pub took_last : (n : ℕ) (s : State) → IsOn f input n s → (b k : ℕ) → IsAboutTo f s b k →
      ((j : ℕ) (x : Placed) → slice_get (insts_at f.blocks b) j ≡ Some x → k ≤ j → j < phis_among (insts_at f.blocks b) → E x.number ≡ false) →
      (p : List ℕ) × IsPath (graph_of f.blocks) b p × TookLast f input E S n (last_event_at (graph_of f.blocks) E S b k p)
  took_last n s on b k about none =
      let r : Follows n b (max k (phis_among (insts_at f.blocks b))) =
      subst (λ (m : ℕ). Follows n b m) about.place (subst (λ (c : ℕ). Follows n c s.place) about.block (follow n s on)) in
      let first : Event = entered S b (last_event (graph_of f.blocks) E S r.path) in
      let same : last_event_at (graph_of f.blocks) E S b (max k (phis_among (insts_at f.blocks b))) r.path ≡ last_event_at (graph_of f.blocks) E S b k r.path =
      ap (λ (is : List ℕ). after E (take (max k (phis_among (insts_at f.blocks b))) is) first) (events_at f.blocks b)
      ∙ skipped E (insts_at f.blocks b) k (max k (phis_among (insts_at f.blocks b))) first (omega arith) (λ j x found low high. none j x found low (omega arith))
      ∙ ap (λ (is : List ℕ). after E (take k is) first) (sym (events_at f.blocks b)) in
      (r.path, r.is_path, subst (λ d. TookLast f input E S n d) same r.last)
