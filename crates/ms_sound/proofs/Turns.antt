-- Clobbers of a location whose root is made anew in a loop: while the root stays what it is, what is written through it has bytes of its own.
use Rattle.std.proofs.Common.{◌≡◌, ◌≢◌, ◌∙◌, ◌<◌, ◌≤◌, ℕ, zero, suc, ℤ, ◌+ℤ◌, Bool, true, false, List, [], ◌∷◌, Option, Some, None, refl, sym, ap, subst, inl, inr, ⊎_elim, arith}
use Rattle.std.specs.Prelude.{◌↔◌, Contains, IsTrue, slice_get, max, nat_eq, ◌-ℤ◌}
use Rattle.std.proofs.lemmas.Bool.{cases_Bool, cases_lt, both_ways, or_cases, or_left, or_right, eqb-true, eq-eqb}
use Rattle.ms_paths.specs.Flow.{Block as Run, Event, Of, Phi as PhiAt, Entry, IsAnswer, IsPath, IsReached, IsOnEveryPath, LiesOnEvery, StandsAt, StandsInOnePlace, IsClosed, and_one, last_event_at}
use Rattle.ms_paths.specs.Passed.{PassesAll, PassesFirst, is_of, either_of, either_start}
use Rattle.ms_ir.specs.declared.names.Ty.TheVariants.{Ptr}
use Rattle.ms_ir.specs.declared.names.LocalNo.{LocalNo}
use Rattle.ms_ir.specs.declared.inst.Inst.{Inst}
use Rattle.ms_ir.specs.declared.inst.Inst.TheVariants.{Alloca, Gep, Step as StepInst, Load, Store, Copy, Call, Bin, Cmp, Select, Cast, Phi}
use Rattle.ms_ir.specs.Func.{Placed, FuncState, IsAt, insts_at}
use Rattle.ms_ir.specs.Graph.{graph_of, numbers}
use Rattle.ms_ir.specs.Locals.{IsNumbered, IsGiver}
use Rattle.ms_ir.specs.SoundFunc.{IsSoundFunc}
use Rattle.ms_ir.proofs.FuncLemmas.{block_there}
use Rattle.ms_alias.specs.declared.loc.Root.TheVariants.{Local}
use Rattle.ms_alias.specs.declared.loc.Loc.{Loc}
use Rattle.ms_alias.specs.declared.loc.Loc.TheVariants.{Bytes}
use Rattle.ms_alias.specs.Roots.{makes_pointer, IsTurnedBy}
use Rattle.ms_alias.specs.Reaches.{Reach, Span, Called, IsWritten}
use Rattle.ms_alias.specs.Meeting.{ShareByte, MayWrite, AreOneRoot, MeetInTurn, MayWriteInTurn}
use Rattle.ms_alias.proofs.Makers.{giver_from, pointer_from}
use Rattle.ms_meaning.specs.Values.{Pointer}
use Rattle.ms_meaning.specs.Memory.{HoldsByte, Written}
use Rattle.ms_meaning.specs.States.{Input, State, IsInput, operand_of}
use Rattle.ms_meaning.specs.Steps.{Doing, doing, is_phi, phis_among, with_result}
use Rattle.ms_meaning.specs.Traces.{IsOn, inst_of, written_of, written_at, written_by, Executes, Occurs, OccursLast, IsAboutTo}
use Rattle.ms_meaning.proofs.Goes.{Goes, ran, left, goes, before, one_state}
use Rattle.ms_meaning.proofs.LastEvents.{Counts, counts_at, events_at}
use Rattle.ms_meaning.proofs.Phis.{among_phis}
use Rattle.ms_meaning.proofs.Ways.{RunsWrite, no_write, all_written}
use Rattle.ms_sound.specs.Bytes.{IsByteOf, BeginsOnce, IsSound}
use Rattle.ms_sound.proofs.Walks.{split, reached}
use Rattle.ms_sound.proofs.Given.{is_no_phi, phis_there, result_there, IsPhiGiven}
use Rattle.ms_sound.proofs.Held.{Holds}
use Rattle.ms_sound.proofs.Always.{holds, keeps}
use Rattle.ms_sound.proofs.Touches.{Touches, none_in, spread_in, written_touches, among_from}
use Rattle.ms_sound.proofs.Meets.{meet, root_touches, write_told, in_range}
use Rattle.ms_sound.proofs.Addresses.{WritesAt, writes_at}
use Rattle.ms_sound.proofs.Begins.{begins_once}
use Rattle.ms_sound.proofs.Clobbers.{phi_writes}
use Rattle.ms_sound.proofs.Orders.{one_found, AllPass, never_both, lies_pass}
use Rattle.ms_sound.proofs.Fresh.{one_given, root_followed, phi_among}
use Rattle.ms_sound.proofs.Lasts.{TakesPlace, IsIdle, TookLast, took_last}

abbrev pub BetweenEvents : Type 0
BetweenEvents = (g : List Run) (m x : Event) (b k : ℕ) → StandsInOnePlace g → IsClosed g → PassesAll g m b k → PassesFirst g x m →
    (p : List ℕ) → IsPath g b p → last_event_at g (either_of m x) (either_start m x) b k p ≡ m

abbrev pub AnswerIsPassed : Type 0
AnswerIsPassed = (g : List Run) (E : ℕ → Bool) (b k : ℕ) (e : Event) → IsAnswer g E b k e → PassesAll g e b k

-- What writes.

abbrev Writes : FuncState → ℕ → Type 0
Writes f i = (b : ℕ) × (place : ℕ) × (x : Placed) × IsAt f.blocks i b place x × (u : Reach) × IsWritten f x.inst u

writes_in_turn : (f : FuncState) (i : ℕ) (loc : Loc) → MayWriteInTurn f i loc → Writes f i
writes_in_turn f i loc m = (m.0, m.1, m.2, m.3, m.4, m.6)

writes_ever : (f : FuncState) (i : ℕ) (loc : Loc) → MayWrite f i loc → Writes f i
writes_ever f i loc m = (m.0, m.1, m.2, m.3, m.4, m.6)

-- what makes a pointer writes nothing
maker_writes : (f : FuncState) (inst : Inst) (u : Reach) → makes_pointer inst ≡ true → IsWritten f inst u → ⊥
maker_writes f (Alloca size head tail) u p w = w
maker_writes f (Gep base offset head index tail) u p w = w
maker_writes f (StepInst base offset terms head index tail) u p w = w
maker_writes f (Select cond ty a b tail) u p w = w
maker_writes f (Phi ty entries tail) u p w = w
maker_writes f (Load ty ptr tail) u p w = w
maker_writes f (Store ty val ptr tail) u p w = cc
maker_writes f (Copy to from len head tail) u p w = cc
maker_writes f (Call callee ret args effects head tail) u p w = cc
maker_writes f (Bin op flags ty a b tail) u p w = w
maker_writes f (Cmp pred flags ty a b tail) u p w = w
maker_writes f (Cast op flags from a to tail) u p w = w

-- Moments.

-- a run that goes on after some steps went on after fewer
on_before : (f : FuncState) (input : Input) (m n : ℕ) (s : State) → m ≤ n → IsOn f input n s → (u : State) × IsOn f input m u
on_before f input m zero s le on = (s, subst (λ k. IsOn f input k s) (let e : 0 ≡ m = omega arith in e) on)
on_before f input m (suc n) s le on =
    ⊎_elim
    (λ (e : m ≡ suc n). (s, subst (λ k. IsOn f input k s) (sym e) on))
    (λ (l : m ≤ n). let u = before f input n s on in on_before f input m n u.0 l u.1)
    (split m n le)

-- an event that is no phi
occurs : (f : FuncState) (input : Input) (e : Event) (m : ℕ) → ((i : ℕ) → e ≡ Of i → (b k : ℕ) (x : Placed) → slice_get (insts_at f.blocks b) k ≡ Some x → is_phi x.inst ≡ true → x.number ≡ i → ⊥) →
    TakesPlace f input e m → Occurs f input e m
occurs f input Entry m no_phi o = o
occurs f input (Of i) zero no_phi o = absurd o
occurs f input (Of i) (suc m) no_phi (inl d) = d
occurs f input (Of i) (suc m) no_phi (inr d) = absurd (no_phi i refl d.0 d.2 d.3 d.4 (phi_among (insts_at f.blocks d.0) d.2 d.3 d.4 d.5) d.6)
occurs f input (PhiAt b) zero no_phi o = o
occurs f input (PhiAt b) (suc m) no_phi o = o

-- what counts does not take place where nothing that counts does
later_none : (f : FuncState) (input : Input) (E S : ℕ → Bool) (m n : ℕ) → ((k : ℕ) → m ≤ k → k < n → IsIdle f input E S k) → (e : Event) → Counts E S e → (l : ℕ) → m < l → l ≤ n → Occurs f input e l → ⊥
later_none f input E S m n idle Entry c l low high o = omega arith
later_none f input E S m n idle (Of i) c zero low high o = o
later_none f input E S m n idle (Of i) c (suc l) low high o = both_ways (E i) (ap E (sym o.2) ∙ (idle l (omega arith) (omega arith)).runs o.0 o.1) c
later_none f input E S m n idle (PhiAt b) c zero low high o = omega arith
later_none f input E S m n idle (PhiAt b) c (suc l) low high o = both_ways (S b) ((idle l (omega arith) (omega arith)).block b o) c

number_there : (xs : List Placed) (k i : ℕ) → slice_get (numbers xs) k ≡ Some i → (x : Placed) × (slice_get xs k ≡ Some x) × (x.number ≡ i)
number_there [] k i e = cc
number_there (x ∷ xs) zero i e = (x, refl, (let same : x.number ≡ i = cc in same))
number_there (x ∷ xs) (suc k) i e = number_there xs k i e

stands_there : (f : FuncState) (i b k : ℕ) → StandsAt (graph_of f.blocks) i b k → (x : Placed) × (slice_get (insts_at f.blocks b) k ≡ Some x) × (x.number ≡ i)
stands_there f i b k h = number_there (insts_at f.blocks b) k i (subst (λ is. slice_get is k ≡ Some i) (events_at f.blocks b) h)

stand_once : (f : FuncState) → IsNumbered f → StandsInOnePlace (graph_of f.blocks)
stand_once f numbered i a j b k p q =
    let x = stands_there f i a j p in
    let y = stands_there f i b k q in
    numbered.one_place a j b k x.0 y.0 x.1 y.1 (x.2 ∙ sym y.2)

-- The root that the instruction y makes.
module _ (f : FuncState) (numbered : IsNumbered f) (once : BeginsOnce f) (sound : IsSoundFunc f) (r : LocalNo) (c j : ℕ) (y : Placed) (maker : IsGiver f.blocks r c j y) where
  -- it stays where y is not run
  stays_step : (input : Input) (E S : ℕ → Bool) → E y.number ≡ true → (n : ℕ) (t s : State) → IsOn f input n t → IsOn f input (suc n) s → IsIdle f input E S n → Goes f t s → s.locals r.0 ≡ t.locals r.0
  stays_step input E S counts n t s on on_s idle (ran x d e is same) =
      ⊎_elim
      (λ (was : with_result x.result d.value t.locals r.0 ≡ t.locals r.0). ap (λ (u : State). u.locals r.0) same ∙ was)
      (λ (h : (x.result ≡ Some r) × (with_result x.result d.value t.locals r.0 ≡ d.value)).
      let one = one_given f numbered sound r t.block t.place c j x y (record { found = e; gives = h.0 }) maker in
      absurd (both_ways (E y.number) (ap (λ (z : Placed). E z.number) (sym one.2) ∙ idle.runs x (t, on, e)) counts))
      (result_there x.result d.value t.locals r)
  stays_step input E S counts n t s on on_s idle (left b locals e edge phis same) =
      ⊎_elim
      (λ (was : locals r.0 ≡ t.locals r.0). ap (λ (u : State). u.locals r.0) same ∙ was)
      (λ (g : IsPhiGiven t t.block (insts_at f.blocks b) locals r).
      let one = one_given f numbered sound r b g.0 c j g.1 y (record { found = g.2; gives = g.4 }) maker in
      let less = among_phis (insts_at f.blocks b) g.0 g.1 g.2 g.3 (λ i z lt found. (sound.insts b g.0 g.1 g.2).phi g.3 i z lt found) in
      absurd (both_ways (E y.number) (idle.phis y.number (b, (t, s, on, e, on_s, ap (λ (u : State). u.block) same), g.0, g.1, g.2, less, ap (λ (z : Placed). z.number) one.2)) counts))
      (phis_there t t.block (insts_at f.blocks b) locals r phis)

  stays : (input : Input) (E S : ℕ → Bool) → E y.number ≡ true → (m n : ℕ) (t s : State) → m ≤ n → IsOn f input m t → IsOn f input n s → ((k : ℕ) → m ≤ k → k < n → IsIdle f input E S k) → s.locals r.0 ≡ t.locals r.0
  stays input E S counts m zero t s le p q idle =
      let e : m ≡ 0 = omega arith in
      ap (λ (u : State). u.locals r.0) (sym (one_state f input 0 t s (subst (λ k. IsOn f input k t) e p) q))
  stays input E S counts m (suc n) t s le p q idle =
      ⊎_elim
      (λ (e : m ≡ suc n). ap (λ (u : State). u.locals r.0) (sym (one_state f input (suc n) t s (subst (λ k. IsOn f input k t) e p) q)))
      (λ (l : m ≤ n).
      let u = before f input n s q in
      stays_step input E S counts n u.0 s u.1 q (idle n l (omega arith)) (goes f u.0 s u.2)
      ∙ stays input E S counts m n t u.0 l p u.1 (λ k low high. idle k low (omega arith)))
      (split m n le)

  -- what an instruction writes through the root has its place from where the root points to then
  written_through : (input : Input) → IsInput f input → (n : ℕ) (t : State) → IsOn f input n t → (x : Placed) → inst_of f t ≡ Some x → (from : ℤ) (len : ℕ) → IsWritten f x.inst (Span (Local r) from len) →
      (w : Written) → Contains (written_by (doing t x.inst)) w → (at : ℤ) × (t.locals r.0 ≡ Some (Pointer w.object at)) × HoldsByte (at +ℤ from) len w.offset
  written_through input fits n t on x found from len writes w there = by_run (doing t x.inst) refl (g.runs t) where
    g : WritesAt f x.inst (Local r) from len
    g = writes_at f x.inst (Local r) from len writes

    by_run : (d : Doing) → doing t x.inst ≡ d → RunsWrite t (operand_of t.locals Ptr g.to) len d → (at : ℤ) × (t.locals r.0 ≡ Some (Pointer w.object at)) × HoldsByte (at +ℤ from) len w.offset
    by_run d is (no_write e) = absurd (none_in (subst (λ k. Contains (written_by k) w) (is ∙ e) there))
    by_run d is (all_written p to bytes e all within does) =
        let place = spread_in p to bytes w (subst (λ k. Contains (written_by k) w) (is ∙ does) there) in
        let value : operand_of t.locals Ptr g.to ≡ Some (Pointer w.object to) = e ∙ ap (λ o. Some (Pointer o to)) (sym place.0) in (
          to -ℤ from,
          root_followed f numbered sound once input fits n t on x found g.no_phi g.to g.used g.base r from g.is_base g.has_root Ptr w.object to value,
          among_from to from w.offset len (subst (λ m. HoldsByte to m w.offset) all place.1),
        )

  module _ (from : ℤ) (len : ℕ) where
    abbrev place_of : Loc
    place_of = Bytes (Local r) from len

    -- so it is a byte of the location only where it may be in a turn
    told_in_turn : (input : Input) → IsInput f input → (m n : ℕ) (t s : State) → m ≤ n → IsOn f input m t → IsOn f input n s → s.locals r.0 ≡ t.locals r.0 →
        (x : Placed) → inst_of f t ≡ Some x → (w : Written) → Contains (written_of f t) w → IsByteOf f s place_of w.object w.offset → (MayWriteInTurn f x.number place_of → ⊥) → ⊥
    told_in_turn input fits m n t s le p q same x found w there (at, value, among) never =
        meet f input n t s later (keeps f input fits numbered once m n t s le p q) u.0 (Span (Local r) from len) w.object w.offset u.2 v
        (λ met. may (inr ((λ one. may (inl (one, share u.0 u.1 one))), met))) where
          later : Holds f input n s
          later = holds f input fits numbered once n s q

          writes : Contains (written_by (doing t x.inst)) w
          writes = subst (λ o. Contains (written_at t o) w) found there

          u : (u : Reach) × IsWritten f x.inst u × Touches f t u w.object w.offset
          u = written_touches f input fits m t (holds f input fits numbered once m t p) t.block t.place x x.inst w refl found writes

          v : Touches f s (Span (Local r) from len) w.object w.offset
          v = root_touches f input fits n s later (Local r) from at len w.object w.offset value among

          may : MeetInTurn f u.0 (Span (Local r) from len) → ⊥
          may met = never (t.block, t.place, x, record { block = block_there f.blocks t.block t.place x found; found = found; numbered = refl }, u.0, Span (Local r) from len, u.1, refl, met)

          share : (u : Reach) → IsWritten f x.inst u → AreOneRoot u (Span (Local r) from len) → ShareByte u (Span (Local r) from len)
          share (Called args other hidden) written one = absurd one
          share (Span q off size) written one =
              let own = written_through input fits m t p x found off size (subst (λ a. IsWritten f x.inst (Span a off size)) one written) w writes in
              let two : Some (Pointer w.object own.0) ≡ Some (Pointer w.object at) = sym own.1 ∙ sym same ∙ value in
              let is : own.0 ≡ at = cc in
              (w.offset -ℤ at, in_range at off w.offset size (subst (λ z. HoldsByte (z +ℤ off) size w.offset) is own.2), in_range at from w.offset len among)

    -- y stands nowhere behind a place that it lies before on every path
    none_behind : (b k : ℕ) → AllPass f c j b k → IsReached (graph_of f.blocks) b → (i : ℕ) (x : Placed) → slice_get (insts_at f.blocks b) i ≡ Some x → k ≤ i → x.number ≡ y.number → ⊥
    none_behind b k pass reach i x found le is =
        let one = numbered.one_place b i c j x y found maker.found is in
        let self : AllPass f c j c j = λ p path.
        ⊎_elim
        (λ (h : (c ≡ b) × (j < k)). absurd (let a = h.1 in let e = one.1 in omega arith))
        (λ (h : Contains p c). inr h)
        (pass p (subst (λ a. IsPath (graph_of f.blocks) a p) (sym one.0) path)) in
        never_both f c j c j self self (subst (λ a. IsReached (graph_of f.blocks) a) one.0 reach)

    -- no phi writes
    no_phi_in : (D : ℕ → Bool) → ((i : ℕ) → D i ≡ true → Writes f i) → (i b k : ℕ) (x : Placed) → slice_get (insts_at f.blocks b) k ≡ Some x → is_phi x.inst ≡ true → x.number ≡ i → D i ≡ true → ⊥
    no_phi_in D writes i b k x found phi is t =
        let w = writes i t in
        let one = one_found f numbered b k w.0 w.1 x w.2 found w.3.found (is ∙ sym w.3.numbered) in
        phi_writes f w.2.inst w.4 (ap (λ (z : Placed). is_phi z.inst) (sym one.2) ∙ phi) w.5

    -- an answer took place last
    took : (input : Input) (E S D : ℕ → Bool) (n : ℕ) (e : Event) → Counts E S e → ((i : ℕ) → e ≡ Of i → E i ≡ true → D i ≡ true) → ((i : ℕ) → D i ≡ true → Writes f i) → (l : TookLast f input E S n e) → OccursLast f input e l.m n
    took input E S D n e counts among writes l = record {
      occurs = occurs f input e l.m (λ i is b k x found phi number. no_phi_in D writes i b k x found phi number (among i is (subst (λ d. Counts E S d) is counts))) l.takes;
      before = l.before;
      no_later = later_none f input E S l.m n l.idle e counts;
    }

    module _ (E : ℕ → Bool) (writers : (i : ℕ) → IsTrue (E i) ↔ MayWriteInTurn f i place_of) where
      E_writes : (i : ℕ) → E i ≡ true → Writes f i
      E_writes i t = writes_in_turn f i place_of ((writers i).0 t)

      abbrev more : ℕ → Bool
      more = and_one y.number E

      counts_y : more y.number ≡ true
      counts_y = or_left (nat_eq y.number y.number) (E y.number) (eq-eqb y.number y.number refl)

      -- behind a place that y lies before no phi counts
      none_counts : (D : ℕ → Bool) → ((i : ℕ) → D i ≡ true → Writes f i) → (b k : ℕ) → AllPass f c j b k → IsReached (graph_of f.blocks) b →
          (i : ℕ) (x : Placed) → slice_get (insts_at f.blocks b) i ≡ Some x → k ≤ i → i < phis_among (insts_at f.blocks b) → and_one y.number D x.number ≡ false
      none_counts D writes b k pass reach i x found low high =
          ⊎_elim
          (λ (t : and_one y.number D x.number ≡ true).
          ⊎_elim
          (λ (own : nat_eq x.number y.number ≡ true). absurd (none_behind b k pass reach i x found low (eqb-true x.number y.number own)))
          (λ (other : D x.number ≡ true). absurd (no_phi_in D writes x.number b i x found (phi_among (insts_at f.blocks b) i x found high) refl other))
          (or_cases (nat_eq x.number y.number) (D x.number) t))
          (λ (n : and_one y.number D x.number ≡ false). n)
          (cases_Bool (and_one y.number D x.number))

      -- since the last run of what may write in a turn, and of y, no byte of the location was written
      quiet : (input : Input) → IsInput f input → (S : ℕ → Bool) (m n : ℕ) (s : State) → IsOn f input n s → ((k : ℕ) → m ≤ k → k < n → IsIdle f input more S k) →
          (l : ℕ) (t : State) → m ≤ l → l < n → IsOn f input l t → (w : Written) → Contains (written_of f t) w → IsByteOf f s place_of w.object w.offset → ⊥
      quiet input fits S m n s on idle l t low high there w writes byte = by_inst (inst_of f t) refl where
        by_inst : (o : Option Placed) → inst_of f t ≡ o → ⊥
        by_inst None is = none_in (subst (λ o. Contains (written_at t o) w) is writes)
        by_inst (Some x) is =
            told_in_turn input fits l n t s (omega arith) there on (stays input more S counts_y l n t s (omega arith) there on (λ k a b. idle k (omega arith) b)) x is w writes byte
            (λ may. both_ways (more x.number) ((idle l low high).runs x (t, there, is)) (or_right (nat_eq x.number y.number) (E x.number) ((writers x.number).1 may)))

      module _ (i b k : ℕ) (x : Placed) (at : IsAt f.blocks i b k x) (lies : LiesOnEvery (graph_of f.blocks) y.number b k) where
        pass : AllPass f c j b k
        pass = lies_pass f numbered c j y maker.found b k lies

        -- the moment at which the instruction is about to run
        module _ (input : Input) (fits : IsInput f input) (n : ℕ) (s : State) (on : IsOn f input n s) (about : IsAboutTo f s b k) where
          reach : IsReached (graph_of f.blocks) b
          reach = subst (λ a. IsReached (graph_of f.blocks) a) about.block (reached f input n s on)

          -- where an answer is told, it took place last
          answered : (D : ℕ → Bool) → ((i : ℕ) → D i ≡ true → Writes f i) → (e : Event) → (answer : IsAnswer (graph_of f.blocks) (and_one y.number D) b k e) →
              Counts (and_one y.number D) answer.phis e × TookLast f input (and_one y.number D) answer.phis n e
          answered D writes e answer =
              let path = took_last f input (and_one y.number D) answer.phis n s on b k about (none_counts D writes b k pass reach) in
              let is = answer.is_last path.0 path.1 in (
                subst (λ d. Counts (and_one y.number D) answer.phis d) is (counts_at (graph_of f.blocks) (and_one y.number D) answer.phis b k path.0),
                subst (λ d. TookLast f input (and_one y.number D) answer.phis n d) is path.2,
              )

          turn_each : (e : Event) → IsAnswer (graph_of f.blocks) more b k e → (e ≡ Of y.number → ⊥) →
              (m : ℕ) × OccursLast f input e m n × ((l : ℕ) (t : State) → m ≤ l → l < n → IsOn f input l t → (w : Written) → Contains (written_of f t) w → IsByteOf f s place_of w.object w.offset → ⊥)
          turn_each e answer other =
              let a = answered E E_writes e answer in
              let last = a.1 in (
                last.m,
                took input more answer.phis E n e a.0
                    (λ i is t.
                    ⊎_elim
                    (λ (own : nat_eq i y.number ≡ true). absurd (other (is ∙ ap Of (eqb-true i y.number own))))
                    (λ (d : E i ≡ true). d)
                    (or_cases (nat_eq i y.number) (E i) t))
                    E_writes last,
                quiet input fits answer.phis last.m n s on last.idle,
              )

          -- Before y.

          -- a moment at which y is about to run, with nothing but y until it has taken place
          record AtTurn (m : ℕ) : Type 0 where
            v : ℕ
            state : State
            is_on : IsOn f input v state
            is_about : IsAboutTo f state c j
            up : v ≤ m
            alone : (l : ℕ) → v ≤ l → l < m → Executes f input l y

          same_y : (b k : ℕ) (z : Placed) → slice_get (insts_at f.blocks b) k ≡ Some z → z.number ≡ y.number → (b ≡ c) × (k ≡ j) × (z ≡ y)
          same_y b k z found is = one_found f numbered b k c j z y found maker.found is

          ran_no_phi : (t u : State) (z : Placed) → inst_of f t ≡ Some z → Goes f t u → is_phi z.inst ≡ false
          ran_no_phi t u z is (ran x d e does same) =
              let two : Some x ≡ Some z = sym e ∙ is in
              let one : x ≡ z = cc in
              ap (λ (p : Placed). is_phi p.inst) (sym one) ∙ is_no_phi t x.inst d does
          ran_no_phi t u z is (left b locals e edge phis same) = let never : None ≡ Some z = sym e ∙ is in cc

          came_place : (t u : State) → inst_of f t ≡ None → Goes f t u → u.place ≡ phis_among (insts_at f.blocks u.block)
          came_place t u is (ran x d e does same) = let never : Some x ≡ None = sym e ∙ is in cc
          came_place t u is (left b locals e edge phis same) = ap (λ (p : State). p.place) same ∙ ap (λ a. phis_among (insts_at f.blocks a)) (sym (ap (λ (p : State). p.block) same))

          at_turn : (m : ℕ) (u : State) → IsOn f input m u → TakesPlace f input (Of y.number) m → AtTurn m
          at_turn zero u there o = absurd o
          at_turn (suc m) u there (inl d) =
              let t : State = d.1.0 in
              let same = same_y t.block t.place d.0 d.1.2 d.2 in
              let w = before f input m u there in
              let went : Goes f t u = subst (λ z. Goes f z u) (one_state f input m w.0 t w.1 d.1.1) (goes f w.0 u w.2) in
              let runs : inst_of f t ≡ Some y = d.1.2 ∙ ap Some same.2 in
              let late : phis_among (insts_at f.blocks c) ≤ j =
              ⊎_elim
              (λ (less : j < phis_among (insts_at f.blocks c)). absurd (both_ways (is_phi y.inst) (ran_no_phi t u y runs went) (phi_among (insts_at f.blocks c) j y maker.found less)))
              (λ (le : phis_among (insts_at f.blocks c) ≤ j). le)
              (cases_lt j (phis_among (insts_at f.blocks c))) in
              record {
                v = m;
                state = t;
                is_on = d.1.1;
                is_about = record { block = same.0; place = (let e = same.1 in omega arith) };
                up = omega arith;
                alone = λ l low high. subst (λ a. Executes f input a y) (let e : m ≡ l = omega arith in e) (t, d.1.1, runs);
              }
          at_turn (suc m) u there (inr d) =
              let t : State = d.1.0 in
              let s2 : State = d.1.1 in
              let same = same_y d.0 d.2 d.3 d.4 d.6 in
              let w = before f input m s2 d.1.4 in
              let went : Goes f t s2 = subst (λ z. Goes f z s2) (one_state f input m w.0 t w.1 d.1.2) (goes f w.0 s2 w.2) in
              let block : s2.block ≡ c = d.1.5 ∙ same.0 in
              let place : s2.place ≡ phis_among (insts_at f.blocks c) = came_place t s2 d.1.3 went ∙ ap (λ a. phis_among (insts_at f.blocks a)) block in
              let less : j < phis_among (insts_at f.blocks c) = subst (λ a. j < phis_among (insts_at f.blocks a)) same.0 (let e = same.1 in let h = d.5 in omega arith) in
              record {
                v = suc m;
                state = s2;
                is_on = d.1.4;
                is_about = record { block = block; place = place ∙ (let e : phis_among (insts_at f.blocks c) ≡ max j (phis_among (insts_at f.blocks c)) = omega arith in e) };
                up = omega arith;
                alone = λ l low high. absurd (omega arith);
              }

          -- what takes place at y is y
          y_alone : (e : Event) (D S : ℕ → Bool) → Counts D S e → (D y.number ≡ true → ⊥) → (l : ℕ) → Executes f input l y → Occurs f input e (suc l) → ⊥
          y_alone Entry D S counts not l d o = omega arith
          y_alone (Of i) D S counts not l d o =
              let same = one_state f input l d.0 o.1.0 d.1 o.1.1 in
              let two : Some y ≡ Some o.0 = sym d.2 ∙ ap (inst_of f) same ∙ o.1.2 in
              let one : y ≡ o.0 = cc in
              not (ap D (ap (λ (z : Placed). z.number) one ∙ o.2) ∙ counts)
          y_alone (PhiAt a) D S counts not l d o =
              let same = one_state f input l d.0 o.0 d.1 o.2 in
              let never : Some y ≡ None = sym d.2 ∙ ap (inst_of f) same ∙ o.3 in
              cc

          -- nothing of what lies before y on every path takes place once y has taken place last
          module _ (between_events : BetweenEvents) (answer_passes : AnswerIsPassed) (D S : ℕ → Bool) (writes : (i : ℕ) → D i ≡ true → Writes f i) (last : TookLast f input more S n (Of y.number)) where
            both_none : (e : Event) (T : ℕ → Bool) → Counts D T e →
                (i : ℕ) (z : Placed) → slice_get (insts_at f.blocks b) i ≡ Some z → k ≤ i → i < phis_among (insts_at f.blocks b) → either_of (Of y.number) e z.number ≡ false
            both_none e T counts i z found low high =
                ⊎_elim
                (λ (t : either_of (Of y.number) e z.number ≡ true).
                ⊎_elim
                (λ (own : nat_eq z.number y.number ≡ true). absurd (none_behind b k pass reach i z found low (eqb-true z.number y.number own)))
                (λ (other : is_of e z.number ≡ true). absurd (by_event e counts other))
                (or_cases (nat_eq z.number y.number) (is_of e z.number) t))
                (λ (no : either_of (Of y.number) e z.number ≡ false). no)
                (cases_Bool (either_of (Of y.number) e z.number)) where
                  by_event : (e : Event) → Counts D T e → is_of e z.number ≡ true → ⊥
                  by_event (Of a) counts t = no_phi_in D writes a b i z found (phi_among (insts_at f.blocks b) i z found high) (eqb-true z.number a t) counts
                  by_event (PhiAt a) counts t = cc
                  by_event Entry counts t = cc

            -- y took place last where it did last with another event besides
            not_after : (E2 S2 : ℕ → Bool) → (two : TookLast f input E2 S2 n (Of y.number)) → two.m ≤ last.m
            not_after E2 S2 two = ⊎_elim (λ (less : last.m < two.m). absurd (by_moment two.m less two.before two.takes)) (λ (le : two.m ≤ last.m). le) (cases_lt last.m two.m) where
              by_moment : (a : ℕ) → last.m < a → a ≤ n → TakesPlace f input (Of y.number) a → ⊥
              by_moment zero less high o = o
              by_moment (suc a) less high (inl d) = both_ways (more y.number) (ap more (sym d.2) ∙ (last.idle a (omega arith) (omega arith)).runs d.0 d.1) counts_y
              by_moment (suc a) less high (inr d) = both_ways (more y.number) ((last.idle a (omega arith) (omega arith)).phis y.number d) counts_y

            own_counts : (e : Event) → Counts (either_of (Of y.number) e) (either_start (Of y.number) e) e
            own_counts (Of a) = or_right (nat_eq a y.number) (nat_eq a a) (eq-eqb a a refl)
            own_counts (PhiAt a) = or_right false (nat_eq a a) (eq-eqb a a refl)
            own_counts Entry = tt

            after_event : (e : Event) (T : ℕ → Bool) → Counts D T e → PassesFirst (graph_of f.blocks) e (Of y.number) → (l : ℕ) → last.m < l → l ≤ n → Occurs f input e l → ⊥
            after_event e T counts first l low high o =
                let path = took_last f input (either_of (Of y.number) e) (either_start (Of y.number) e) n s on b k about (both_none e T counts) in
                let is = between_events (graph_of f.blocks) (Of y.number) e b k (stand_once f numbered) sound.closed lies first path.0 path.1 in
                let two : TookLast f input (either_of (Of y.number) e) (either_start (Of y.number) e) n (Of y.number) =
                subst (λ d. TookLast f input (either_of (Of y.number) e) (either_start (Of y.number) e) n d) is path.2 in
                let le = not_after (either_of (Of y.number) e) (either_start (Of y.number) e) two in
                later_none f input (either_of (Of y.number) e) (either_start (Of y.number) e) two.m n two.idle e (own_counts e) l (omega arith) high o

            after_turn : (e : Event) (answer : IsAnswer (graph_of f.blocks) D c j e) → Counts D answer.phis e → (l : ℕ) → last.m < l → l ≤ n → Occurs f input e l → ⊥
            after_turn Entry answer counts l low high o = omega arith
            after_turn (Of a) answer counts l low high o =
                after_event (Of a) answer.phis counts
                (λ d m h.
                let z = stands_there f y.number d m h in
                let same = same_y d m z.0 z.1 z.2 in
                subst (λ e. LiesOnEvery (graph_of f.blocks) a e m) (sym same.0) (subst (λ e. LiesOnEvery (graph_of f.blocks) a c e) (sym same.1) (answer_passes (graph_of f.blocks) D c j (Of a) answer)))
                l low high o
            after_turn (PhiAt a) answer counts l low high o =
                after_event (PhiAt a) answer.phis counts
                (λ d m h.
                let z = stands_there f y.number d m h in
                let same = same_y d m z.0 z.1 z.2 in
                subst (λ e. IsOnEveryPath (graph_of f.blocks) a e) (sym same.0) (answer_passes (graph_of f.blocks) D c j (PhiAt a) answer))
                l low high o

          before_each : BetweenEvents → AnswerIsPassed → makes_pointer y.inst ≡ true → (D : ℕ → Bool) → ((i : ℕ) → IsTrue (D i) ↔ MayWrite f i place_of) → IsAnswer (graph_of f.blocks) more b k (Of y.number) →
              (e : Event) → IsAnswer (graph_of f.blocks) D c j e →
              (m : ℕ) × OccursLast f input e m n × ((l : ℕ) (t : State) → m ≤ l → l < n → IsOn f input l t → (w : Written) → Contains (written_of f t) w → IsByteOf f s place_of w.object w.offset → ⊥)
          before_each between_events answer_passes pointer D told turns e answer = (first.m, last_first, none_written) where
            D_writes : (i : ℕ) → D i ≡ true → Writes f i
            D_writes i t = writes_ever f i place_of ((told i).0 t)

            last : TookLast f input more turns.phis n (Of y.number)
            last = (answered E E_writes (Of y.number) turns).1

            u : (u : State) × IsOn f input last.m u
            u = on_before f input last.m n s last.before on

            turn : AtTurn last.m
            turn = at_turn last.m u.0 u.1 last.takes

            not_y : D y.number ≡ true → ⊥
            not_y t =
                let w = D_writes y.number t in
                let same = same_y w.0 w.1 w.2 w.3.found w.3.numbered in
                maker_writes f w.2.inst w.4 (ap (λ (z : Placed). makes_pointer z.inst) same.2 ∙ pointer) w.5

            none_there : (i : ℕ) (z : Placed) → slice_get (insts_at f.blocks c) i ≡ Some z → j ≤ i → i < phis_among (insts_at f.blocks c) → D z.number ≡ false
            none_there i z found low high =
                ⊎_elim
                (λ (t : D z.number ≡ true). absurd (no_phi_in D D_writes z.number c i z found (phi_among (insts_at f.blocks c) i z found high) refl t))
                (λ (no : D z.number ≡ false). no)
                (cases_Bool (D z.number))

            path : (p : List ℕ) × IsPath (graph_of f.blocks) c p × TookLast f input D answer.phis turn.v (last_event_at (graph_of f.blocks) D answer.phis c j p)
            path = took_last f input D answer.phis turn.v turn.state turn.is_on c j turn.is_about none_there

            counts : Counts D answer.phis e
            counts = subst (λ d. Counts D answer.phis d) (answer.is_last path.0 path.1) (counts_at (graph_of f.blocks) D answer.phis c j path.0)

            first : TookLast f input D answer.phis turn.v e
            first = subst (λ d. TookLast f input D answer.phis turn.v d) (answer.is_last path.0 path.1) path.2

            at_y : (l : ℕ) → turn.v < l → l ≤ last.m → Occurs f input e l → ⊥
            at_y zero low high o = omega arith
            at_y (suc l) low high o = y_alone e D answer.phis counts not_y l (turn.alone l (omega arith) (omega arith)) o

            last_first : OccursLast f input e first.m n
            last_first = record {
              occurs = occurs f input e first.m (λ i is a m z found phi number. no_phi_in D D_writes i a m z found phi number (subst (λ d. Counts D answer.phis d) is counts)) first.takes;
              before = (let a = first.before in let d = turn.up in let h = last.before in omega arith);
              no_later = λ l low high o.
                  ⊎_elim
                  (λ (late : turn.v < l).
                  ⊎_elim
                  (λ (later : last.m < l). after_turn between_events answer_passes D turns.phis D_writes last e answer counts l later high o)
                  (λ (le : l ≤ last.m). at_y l late le o)
                  (cases_lt last.m l))
                  (λ (le : l ≤ turn.v). later_none f input D answer.phis first.m turn.v first.idle e counts l low le o)
                  (cases_lt turn.v l);
            }

            none_written : (l : ℕ) (t : State) → first.m ≤ l → l < n → IsOn f input l t → (w : Written) → Contains (written_of f t) w → IsByteOf f s place_of w.object w.offset → ⊥
            none_written l t low high there w writes byte =
                ⊎_elim
                (λ (early : l < last.m). by_inst early (inst_of f t) refl)
                (λ (late : last.m ≤ l). quiet input fits turns.phis last.m n s on last.idle l t late high there w writes byte)
                (cases_lt l last.m) where
                  not_told : l < last.m → (z : Placed) → inst_of f t ≡ Some z → D z.number ≡ true → ⊥
                  not_told early z is d =
                      ⊎_elim
                      (λ (less : l < turn.v). both_ways (D z.number) ((first.idle l low less).runs z (t, there, is)) d)
                      (λ (le : turn.v ≤ l).
                      let run = turn.alone l le early in
                      let two : Some z ≡ Some y = sym is ∙ ap (inst_of f) (one_state f input l t run.0 there run.1) ∙ run.2 in
                      let one : z ≡ y = cc in
                      not_y (ap (λ (p : Placed). D p.number) (sym one) ∙ d))
                      (cases_lt l turn.v)

                  by_inst : l < last.m → (o : Option Placed) → inst_of f t ≡ o → ⊥
                  by_inst early None is = none_in (subst (λ o. Contains (written_at t o) w) is writes)
                  by_inst early (Some z) is = write_told f numbered once input fits l n t s (omega arith) there on z is w writes place_of byte (λ may. not_told early z is ((told z.number).1 may))

-- For any location that is bytes at the root.

same_place : (f : FuncState) → IsNumbered f → (i b k c j : ℕ) (x y : Placed) → IsAt f.blocks i b k x → IsAt f.blocks i c j y → (s : State) → IsAboutTo f s c j → IsAboutTo f s b k
same_place f numbered i b k c j x y at here s about =
    let one = numbered.one_place c j b k y x here.found at.found (here.numbered ∙ sym at.numbered) in
    subst (λ d. IsAboutTo f s d k) one.0 (subst (λ d. IsAboutTo f s c d) one.1 about)

module _ (between_events : BetweenEvents) (answer_passes : AnswerIsPassed) (f : FuncState) (numbered : IsNumbered f) (sound : IsSoundFunc f) (E : ℕ → Bool) (l : LocalNo) (from : ℤ) (len q : ℕ) (turned : IsTurnedBy f (Local l) q)
    (writers : (j : ℕ) → IsTrue (E j) ↔ MayWriteInTurn f j (Bytes (Local l) from len)) (i b k : ℕ) (x : Placed) (at : IsAt f.blocks i b k x) (lies : LiesOnEvery (graph_of f.blocks) q b k) where
  maker : IsGiver f.blocks l turned.1 turned.2 turned.3
  maker = record { found = turned.4.found; gives = giver_from l turned.3 turned.5 }

  is : turned.3.number ≡ q
  is = turned.4.numbered

  lies_y : LiesOnEvery (graph_of f.blocks) turned.3.number b k
  lies_y = subst (λ a. LiesOnEvery (graph_of f.blocks) a b k) (sym is) lies

  pub turn_sound : (e : Event) → IsAnswer (graph_of f.blocks) (and_one q E) b k e → (e ≢ Of q) → IsSound f i (Bytes (Local l) from len) e
  turn_sound e answer other = record {
    each = λ input fits n s on c j y here about.
        turn_each f numbered (begins_once f sound) sound l turned.1 turned.2 turned.3 maker from len E writers i b k x at lies_y input fits n s on (same_place f numbered i b k c j x y at here s about) e
        (subst (λ a. IsAnswer (graph_of f.blocks) (and_one a E) b k e) (sym is) answer) (λ h. other (h ∙ ap Of is));
  }

  pub before_sound : (D : ℕ → Bool) → ((j : ℕ) → IsTrue (D j) ↔ MayWrite f j (Bytes (Local l) from len)) → IsAnswer (graph_of f.blocks) (and_one q E) b k (Of q) →
      (c j : ℕ) (y : Placed) → IsAt f.blocks q c j y → (e : Event) → IsAnswer (graph_of f.blocks) D c j e → IsSound f i (Bytes (Local l) from len) e
  before_sound D told turns c j y at_q e answer =
      let one = numbered.one_place c j turned.1 turned.2 y turned.3 at_q.found turned.4.found (at_q.numbered ∙ sym is) in
      record {
        each = λ input fits n s on d m z here about.
            before_each f numbered (begins_once f sound) sound l turned.1 turned.2 turned.3 maker from len E writers i b k x at lies_y input fits n s on (same_place f numbered i b k d m x z at here s about)
            between_events answer_passes (pointer_from l turned.3 turned.5) D told
            (subst (λ a. IsAnswer (graph_of f.blocks) (and_one a E) b k (Of a)) (sym is) turns) e
            (subst (λ a. IsAnswer (graph_of f.blocks) D a turned.2 e) one.0 (subst (λ a. IsAnswer (graph_of f.blocks) D c a e) one.1 answer));
      }
