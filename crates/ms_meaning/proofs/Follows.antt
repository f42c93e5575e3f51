-- A run follows a path of its flow graph, and no instruction that counts is run behind the last event of that path.
use Rattle.std.proofs.Common.{◌≡◌, ◌<◌, ◌≤◌, ◌∙◌, refl, sym, ap, subst, arith, ⊎_elim, ℕ, zero, suc, ◌+◌, Bool, true, false, List, [], ◌∷◌, Option, Some, None, if◌then◌else◌}
use Rattle.std.specs.Prelude.{max}
use Rattle.std.proofs.lemmas.Bool.{cases_Bool, both_ways}
use Rattle.ms_paths.specs.Flow.{Event, Of, Phi, Entry, IsPath, entered as with_entered, last_event_at, HasEdge}
use Rattle.ms_ir.specs.Func.{Placed, Block, FuncState, insts_at}
use Rattle.ms_ir.specs.Graph.{graph_of}
use Rattle.ms_meaning.specs.States.{Input, State, begun}
use Rattle.ms_meaning.specs.Steps.{phis_among}
use Rattle.ms_meaning.specs.Traces.{IsOn, inst_of, Executes, Occurs, OccursLast, IsAboutTo, CountsNoPhi, RunsNone}
use Rattle.ms_meaning.proofs.Goes.{Goes, ran, left, goes, before, one_state}
use Rattle.ms_meaning.proofs.LastEvents.{Counts, counts_at, NoPhiCounts, at_behind, at_end, at_phis}

-- What took place up to a moment.

-- the event took place, and no instruction that counts was run since
record Last (f : FuncState) (input : Input) (E : ℕ → Bool) (n : ℕ) (e : Event) : Type 0 where
  m : ℕ
  last : OccursLast f input e m n
  none : RunsNone f input E m n

module _ (f : FuncState) (input : Input) (E : ℕ → Bool) (n : ℕ) (e : Event) where
  comes : Occurs f input e n → Last f input E n e
  comes o = record {
    m = n;
    last = record { occurs = o; before = omega arith; no_later = λ k more most _. absurd (omega arith) };
    none = λ j x most less _. absurd (omega arith);
  }

  stays : Last f input E n e → (Occurs f input e (suc n) → ⊥) → ((x : Placed) → Executes f input n x → E x.number ≡ false) → Last f input E (suc n) e
  stays l not_now none_now = record {
    m = l.m;
    last = record {
      occurs = l.last.occurs;
      before = (let b = l.last.before in omega arith);
      no_later = λ k more most o.
          ⊎_elim
          (λ (at : k ≡ suc n). not_now (subst (Occurs f input e) at o))
          (λ (less : k ≤ n). l.last.no_later k more less o)
          (let h : k ≤ suc n = most in grind (arith));
    };
    none = λ j x most less done.
        ⊎_elim
        (λ (at : j ≡ n). none_now x (subst (λ (k : ℕ). Executes f input k x) at done))
        (λ (earlier : j < n). l.none j x most earlier done)
        (let h : j < suc n = less in grind (arith));
  }

-- What takes place in a step.

module _ (f : FuncState) (input : Input) (E S : ℕ → Bool) (n : ℕ) (t : State) (on : IsOn f input n t) where
  -- the step runs what stands at its place
  ran_there : (o : Option Placed) → inst_of f t ≡ o → (x : Placed) → Executes f input n x → o ≡ Some x
  ran_there o is x done = let same = one_state f input n done.0 t done.1 on in sym is ∙ ap (inst_of f) (sym same) ∙ done.2

  none_counted : (x : Placed) → inst_of f t ≡ Some x → E x.number ≡ false → (y : Placed) → Executes f input n y → E y.number ≡ false
  none_counted x is not y done =
      let same : Some x ≡ Some y = ran_there (Some x) is y done in
      let this : x ≡ y = cc in
      ap (λ (z : Placed). E z.number) (sym this) ∙ not

  -- an instruction that does not count is no event that counts
  nothing_ran : (x : Placed) → inst_of f t ≡ Some x → E x.number ≡ false → (e : Event) → Counts E S e → Occurs f input e (suc n) → ⊥
  nothing_ran x is not (Of i) counts o =
      let same : Some x ≡ Some o.0 = ran_there (Some x) is o.0 o.1 in
      let this : x ≡ o.0 = cc in
      both_ways (E x.number) not (ap (λ (y : Placed). E y.number) this ∙ ap E o.2 ∙ counts)
  nothing_ran x is not (Phi b) counts o =
      let same = one_state f input n o.0 t o.2 on in
      let never : Some x ≡ None = sym is ∙ ap (inst_of f) (sym same) ∙ o.3 in
      cc
  nothing_ran x is not Entry counts o = omega arith

  -- nor is the beginning of a block without a phi
  nothing_came : (s : State) → inst_of f t ≡ None → IsOn f input (suc n) s → S s.block ≡ false → (e : Event) → Counts E S e → Occurs f input e (suc n) → ⊥
  nothing_came s is on_s not (Of i) counts o = let never : None ≡ Some o.0 = ran_there None is o.0 o.1 in cc
  nothing_came s is on_s not (Phi b) counts o =
      let same = one_state f input (suc n) o.1 s o.4 on_s in
      both_ways (S s.block) not (ap (λ (x : State). S x.block) (sym same) ∙ ap S o.5 ∙ counts)
  nothing_came s is on_s not Entry counts o = omega arith

-- The path.

-- after n steps, at the place k of the block b
record Follows (f : FuncState) (E S : ℕ → Bool) (input : Input) (n : ℕ) (b k : ℕ) : Type 0 where
  path : List ℕ
  is_path : IsPath (graph_of f.blocks) b path
  last : Last f input E n (last_event_at (graph_of f.blocks) E S b k path)

module _ (f : FuncState) (E S : ℕ → Bool) (input : Input) where
  -- a block has begun
  begins : (n : ℕ) (b : ℕ) (e : Event) → (S b ≡ true → Occurs f input (Phi b) n) → (S b ≡ false → Last f input E n e) → Last f input E n (with_entered S b e)
  begins n b e at_phi at_none =
      ⊎_elim (λ (t : S b ≡ true). rw t (comes f input E n (Phi b) (at_phi t))) (λ (no_phi : S b ≡ false). rw no_phi (at_none no_phi)) (cases_Bool (S b))

  at_start : Follows f E S input 0 0 0
  at_start = record {
    path = [];
    is_path = refl;
    last = begins 0 0 Entry (λ _. refl) (λ _. comes f input E 0 Entry refl);
  }

  module _ (n : ℕ) (t s : State) (on : IsOn f input n t) (on_s : IsOn f input (suc n) s) (so_far : Follows f E S input n t.block t.place) where
    abbrev so_last : Event
    so_last = last_event_at (graph_of f.blocks) E S t.block t.place so_far.path

    ran_last : (x : Placed) → inst_of f t ≡ Some x → Last f input E (suc n) (if E x.number then Of x.number else so_last)
    ran_last x is =
        ⊎_elim
        (λ (c : E x.number ≡ true). rw c (comes f input E (suc n) (Of x.number) (x, (t, on, is), refl)))
        (λ (not : E x.number ≡ false).
        rw not (stays f input E n so_last so_far.last
        (nothing_ran f input E S n t on x is not so_last (counts_at (graph_of f.blocks) E S t.block t.place so_far.path))
        (none_counted f input E S n t on x is not)))
        (cases_Bool (E x.number))

    ran_on : (x : Placed) → inst_of f t ≡ Some x → s.block ≡ t.block → s.place ≡ t.place + 1 → Follows f E S input (suc n) s.block s.place
    ran_on x is block place =
        let here : Follows f E S input (suc n) t.block (t.place + 1) =
        record { path = so_far.path; is_path = so_far.is_path; last = subst (Last f input E (suc n)) (sym (at_behind f.blocks E S t.block t.place so_far.path x is)) (ran_last x is) } in
        subst (λ (b : ℕ). Follows f E S input (suc n) b s.place) (sym block) (subst (Follows f E S input (suc n) t.block) (sym place) here)

    left_for : CountsNoPhi f E → inst_of f t ≡ None → HasEdge (graph_of f.blocks) t.block s.block → s.place ≡ phis_among (insts_at f.blocks s.block) → Follows f E S input (suc n) s.block s.place
    left_for no_phi is edge place =
        let path : List ℕ = t.block ∷ so_far.path in
        let came : Last f input E (suc n) (with_entered S s.block so_last) =
        begins (suc n) s.block so_last
        (λ _. (t, s, on, is, on_s, refl))
        (λ not. stays f input E n so_last so_far.last
        (nothing_came f input E S n t on s is on_s not so_last (counts_at (graph_of f.blocks) E S t.block t.place so_far.path))
        (λ y done. let never : None ≡ Some y = ran_there f input E S n t on None is y done in cc)) in
        let event : last_event_at (graph_of f.blocks) E S s.block s.place path ≡ with_entered S s.block so_last =
        at_phis f.blocks E S s.block s.place path (no_phi s.block) (omega arith)
        ∙ ap (with_entered S s.block) (sym (at_end f.blocks E S t.block t.place so_far.path is)) in
        record { path = path; is_path = (edge, so_far.is_path); last = subst (Last f input E (suc n)) (sym event) came }

    stepped : CountsNoPhi f E → Goes f t s → Follows f E S input (suc n) s.block s.place
    stepped no_phi (ran x d is does same) = ran_on x is (ap (λ (u : State). u.block) same) (ap (λ (u : State). u.place) same)
    stepped no_phi (left b locals is edge phis same) =
        let block : s.block ≡ b = ap (λ (u : State). u.block) same in
        left_for no_phi is (subst (λ c. HasEdge (graph_of f.blocks) t.block c) (sym block) edge)
        (ap (λ (u : State). u.place) same ∙ ap (λ c. phis_among (insts_at f.blocks c)) (sym block))

  follow : CountsNoPhi f E → (n : ℕ) (s : State) → IsOn f input n s → Follows f E S input n s.block s.place
  follow no_phi zero s on = subst (λ (x : State). Follows f E S input 0 x.block x.place) (one_state f input 0 (begun input) s refl on) at_start
  follow no_phi (suc n) s on =
      let c = before f input n s on in
      stepped n c.0 s c.1 on (follow no_phi n c.0 c.1) no_phi (goes f c.0 s c.2)

-- before a phi the last event is the one behind all phis of the block
before_phi : (blocks : List Block) (E S : ℕ → Bool) (b k : ℕ) (p : List ℕ) → NoPhiCounts E (insts_at blocks b) →
    last_event_at (graph_of blocks) E S b (max k (phis_among (insts_at blocks b))) p ≡ last_event_at (graph_of blocks) E S b k p
before_phi blocks E S b k p no_phi =
    let phis : ℕ = phis_among (insts_at blocks b) in
    ⊎_elim
    (λ (below : k ≤ phis).
    let same : max k phis ≡ phis = omega arith in
    at_phis blocks E S b (max k phis) p no_phi (omega arith) ∙ sym (at_phis blocks E S b k p no_phi below))
    (λ (above : phis ≤ k). let same : max k phis ≡ k = omega arith in ap (λ (j : ℕ). last_event_at (graph_of blocks) E S b j p) same)
    (grind (arith))

pub runs_follow : (f : FuncState) (E S : ℕ → Bool) → CountsNoPhi f E → (input : Input) (n : ℕ) (s : State) → IsOn f input n s → (b k : ℕ) → IsAboutTo f s b k →
    (p : List ℕ) × IsPath (graph_of f.blocks) b p × ((m : ℕ) × OccursLast f input (last_event_at (graph_of f.blocks) E S b k p) m n × RunsNone f input E m n)
runs_follow f E S no_phi input n s on b k about =
    let r : Follows f E S input n b (max k (phis_among (insts_at f.blocks b))) =
    subst (Follows f E S input n b) about.place (subst (λ (c : ℕ). Follows f E S input n c s.place) about.block (follow f E S input no_phi n s on)) in
    let l : Last f input E n (last_event_at (graph_of f.blocks) E S b k r.path) = subst (Last f input E n) (before_phi f.blocks E S b k r.path (no_phi b)) r.last in
    (r.path, r.is_path, (l.m, l.last, l.none))
