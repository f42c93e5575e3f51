-- The location that is asked for: bytes at a root, or what the asking instruction itself reads, which are bytes at the root of its pointer.
use Rattle.std.proofs.Common.{◌≡◌, ◌≢◌, ◌∙◌, ◌<◌, ◌≤◌, ℕ, ℤ, Bool, false, Some, refl, sym, ap, subst, ⊎_elim, arith}
use Rattle.std.specs.Prelude.{◌↔◌, Contains, IsTrue, slice_get, map, max, ◌-ℤ◌}
use Rattle.std.proofs.lemmas.Bool.{both_ways, cases_lt}
use Rattle.ms_paths.specs.Flow.{Event, Of, IsAnswer, LiesOnEvery, and_one}
use Rattle.ms_ir.specs.declared.names.InstNo.{InstNo}
use Rattle.ms_ir.specs.declared.names.LocalNo.{LocalNo}
use Rattle.ms_ir.specs.declared.inst.Val.{Val}
use Rattle.ms_ir.specs.declared.inst.Inst.{Inst}
use Rattle.ms_ir.specs.declared.inst.Inst.TheVariants.{Alloca as AllocaInst, Gep, Step as StepInst, Load, Store, Copy, Call, Bin, Cmp, Select, Cast, Phi}
use Rattle.ms_ir.specs.declared.names.Ty.TheVariants.{Ptr}
use Rattle.ms_ir.specs.Func.{Placed, FuncState, IsAt, insts_at}
use Rattle.ms_ir.specs.Graph.{graph_of}
use Rattle.ms_ir.specs.Locals.{IsNumbered}
use Rattle.ms_ir.specs.SoundFunc.{IsSoundFunc}
use Rattle.ms_ir.specs.Uses.{operands_of}
use Rattle.ms_alias.specs.declared.loc.Root.{Root}
use Rattle.ms_alias.specs.declared.loc.Root.TheVariants.{Local, Global}
use Rattle.ms_alias.specs.declared.loc.Loc.{Loc}
use Rattle.ms_alias.specs.declared.loc.Loc.TheVariants.{Bytes, ReadBy}
use Rattle.ms_alias.specs.Roots.{IsTurnedBy}
use Rattle.ms_alias.specs.Reaches.{Reach, Span, IsRead, IsReachOf}
use Rattle.ms_alias.specs.Meeting.{IsLocTurnedBy, Meet, MeetInTurn, MayWrite, MayWriteInTurn}
use Rattle.ms_alias.proofs.RootLemmas.{reach_read_once}
use Rattle.ms_meaning.specs.Values.{size_of}
use Rattle.ms_meaning.specs.States.{Input, State, IsInput}
use Rattle.ms_meaning.specs.Steps.{is_phi, phis_among}
use Rattle.ms_meaning.specs.Traces.{IsOn, IsAboutTo, HoldsByteAt, ReadsByte, inst_of}
use Rattle.ms_sound.specs.Bytes.{IsByteOf, IsSound}
use Rattle.ms_sound.proofs.Begins.{begins_once}
use Rattle.ms_sound.proofs.Operands.{value_in}
use Rattle.ms_sound.proofs.Touches.{among_from}
use Rattle.ms_sound.proofs.Addresses.{SpanAt, span_at}
use Rattle.ms_sound.proofs.Orders.{one_found}
use Rattle.ms_sound.proofs.Fresh.{root_followed, phi_among}
use Rattle.ms_sound.proofs.Turns.{BetweenEvents, AnswerIsPassed, turn_sound, before_sound}

-- the pointer that a load or memcpy reads at, and how many bytes
record ReadsAt (f : FuncState) (inst : Inst) (r : Root) (from : ℤ) (len : ℕ) : Type 0 where
  at : Val
  no_phi : is_phi inst ≡ false
  used : Contains (map value_in (operands_of inst)) at
  span : SpanAt f at len r from len
  reads : (s : State) (o : ℕ) (k : ℤ) → ReadsByte s inst o k → HoldsByteAt s at len o k

same_length : (f : FuncState) (v : Val) (n : ℕ) (r : Root) (from : ℤ) (len : ℕ) → SpanAt f v n r from len → SpanAt f v len r from len
same_length f v n r from len h = subst (λ m. SpanAt f v m r from len) h.length_is h

reads_at : (f : FuncState) (inst : Inst) (r : Root) (from : ℤ) (len : ℕ) → IsRead f inst (Span r from len) → ReadsAt f inst r from len
reads_at f (Load ty ptr tail) r from len h =
    let at = span_at f ptr (size_of ty) r from len h in
    record {
      at = ptr;
      no_phi = refl;
      used = (0, omega arith, refl);
      span = same_length f ptr (size_of ty) r from len at;
      reads = λ s o k read. subst (λ m. HoldsByteAt s ptr m o k) at.length_is read;
    }
reads_at f (Copy to source size head tail) r from len h =
    let at = span_at f source.val size r from len h in
    record {
      at = source.val;
      no_phi = refl;
      used = (1, omega arith, refl);
      span = same_length f source.val size r from len at;
      reads = λ s o k read. subst (λ m. HoldsByteAt s source.val m o k) at.length_is read;
    }
reads_at f (Call callee ret args effects head tail) r from len h = cc
reads_at f (AllocaInst size head tail) r from len h = absurd h
reads_at f (Gep base offset head index tail) r from len h = absurd h
reads_at f (StepInst base offset terms head index tail) r from len h = absurd h
reads_at f (Store ty val ptr tail) r from len h = absurd h
reads_at f (Bin op flags ty a b tail) r from len h = absurd h
reads_at f (Cmp pred flags ty a b tail) r from len h = absurd h
reads_at f (Select c ty a b tail) r from len h = absurd h
reads_at f (Cast op flags source a to tail) r from len h = absurd h
reads_at f (Phi ty entries tail) r from len h = absurd h

-- what is not a phi is about to run where it stands
place_there : (f : FuncState) (s : State) (b k : ℕ) (x : Placed) → slice_get (insts_at f.blocks b) k ≡ Some x → is_phi x.inst ≡ false → IsAboutTo f s b k → inst_of f s ≡ Some x
place_there f s b k x found no_phi about =
    let late : phis_among (insts_at f.blocks b) ≤ k =
    ⊎_elim
    (λ (less : k < phis_among (insts_at f.blocks b)). absurd (both_ways (is_phi x.inst) no_phi (phi_among (insts_at f.blocks b) k x found less)))
    (λ (le : phis_among (insts_at f.blocks b) ≤ k). le)
    (cases_lt k (phis_among (insts_at f.blocks b))) in
    let place : s.place ≡ k = about.place ∙ (let e : max k (phis_among (insts_at f.blocks b)) ≡ k = omega arith in e) in
    ap (λ a. slice_get (insts_at f.blocks a) s.place) about.block ∙ ap (slice_get (insts_at f.blocks b)) place ∙ found

module _ (f : FuncState) (numbered : IsNumbered f) (sound : IsSoundFunc f) (l : LocalNo) (from : ℤ) (len : ℕ) (i b k : ℕ) (x : Placed) (at : IsAt f.blocks i b k x) (number : InstNo) (own : number.0 ≡ i)
    (reach : IsReachOf f (ReadBy number) (Span (Local l) from len)) where
  one_inst_at : (c j : ℕ) (y : Placed) → IsAt f.blocks number.0 c j y → y ≡ x
  one_inst_at c j y there = (one_found f numbered c j b k y x there.found at.found (there.numbered ∙ own ∙ sym at.numbered)).2

  read_here : IsRead f x.inst (Span (Local l) from len)
  read_here = subst (λ (y : Placed). IsRead f y.inst (Span (Local l) from len)) (one_inst_at reach.0 reach.1 reach.2 reach.3) reach.4

  one_reach : (v : Reach) → IsReachOf f (ReadBy number) v → v ≡ Span (Local l) from len
  one_reach v h = reach_read_once f x.inst v (Span (Local l) from len) (subst (λ (y : Placed). IsRead f y.inst v) (one_inst_at h.0 h.1 h.2 h.3) h.4) read_here

  -- what the instruction would read as it is about to run are bytes at the root
  own_bytes : (input : Input) → IsInput f input → (n : ℕ) (s : State) → IsOn f input n s → IsAboutTo f s b k → (o : ℕ) (z : ℤ) → IsByteOf f s (ReadBy number) o z → IsByteOf f s (Bytes (Local l) from len) o z
  own_bytes input fits n s on about o z (c, j, y, there, reads) =
      let r = reads_at f x.inst (Local l) from len read_here in
      let h = r.reads s o z (subst (λ (p : Placed). ReadsByte s p.inst o z) (one_inst_at c j y there) reads) in (
        h.0 -ℤ from,
        root_followed f numbered sound (begins_once f sound) input fits n s on x (place_there f s b k x at.found r.no_phi about) r.no_phi r.at r.used r.span.base l from r.span.is_base r.span.has_root Ptr o h.0 h.1,
        among_from h.0 from z len h.2,
      )

  turn_same : (j : ℕ) → MayWriteInTurn f j (ReadBy number) ↔ MayWriteInTurn f j (Bytes (Local l) from len)
  turn_same j = (
    λ m. (m.0, m.1, m.2, m.3, m.4, Span (Local l) from len, m.6, refl, subst (λ v. MeetInTurn f m.4 v) (one_reach m.5 m.7) m.8),
    λ m. (m.0, m.1, m.2, m.3, m.4, m.5, m.6, subst (λ v. IsReachOf f (ReadBy number) v) (sym m.7) reach, m.8),
  )

  write_same : (j : ℕ) → MayWrite f j (ReadBy number) ↔ MayWrite f j (Bytes (Local l) from len)
  write_same j = (
    λ m. (m.0, m.1, m.2, m.3, m.4, Span (Local l) from len, m.6, refl, subst (λ v. Meet f m.4 v) (one_reach m.5 m.7) m.8),
    λ m. (m.0, m.1, m.2, m.3, m.4, m.5, m.6, subst (λ v. IsReachOf f (ReadBy number) v) (sym m.7) reach, m.8),
  )

  own_sound : (e : Event) → IsSound f i (Bytes (Local l) from len) e → IsSound f i (ReadBy number) e
  own_sound e h = record {
    each = λ input fits n s on c j y here about.
        let one = numbered.one_place c j b k y x here.found at.found (here.numbered ∙ sym at.numbered) in
        let about_b : IsAboutTo f s b k = subst (λ d. IsAboutTo f s d k) one.0 (subst (λ d. IsAboutTo f s c d) one.1 about) in
        let r = h.each input fits n s on c j y here about in
        (r.0, r.1, λ m t low high there w writes byte. r.2 m t low high there w writes (own_bytes input fits n s on about_b w.object w.offset byte));
  }

both : {A B C : Type 0} → A ↔ B → B ↔ C → A ↔ C
both p q = (λ a. q.0 (p.0 a), λ c. p.1 (q.1 c))

-- the location is bytes at the root
bytes_are : (f : FuncState) (root r : Root) (at from : ℤ) (size len : ℕ) → Span r from len ≡ Span root at size → Bytes r from len ≡ Bytes root at size
bytes_are f root r at from size len e =
    let a : r ≡ root = cc in
    let b : from ≡ at = cc in
    let c : len ≡ size = cc in
    ap (λ q. Bytes q from len) a ∙ ap (λ z. Bytes root z len) b ∙ ap (λ n. Bytes root at n) c

module _ (between_events : BetweenEvents) (answer_passes : AnswerIsPassed) (f : FuncState) (numbered : IsNumbered f) (sound : IsSoundFunc f) (E : ℕ → Bool) (q i b k : ℕ) (x : Placed) (at : IsAt f.blocks i b k x) (lies : LiesOnEvery (graph_of f.blocks) q b k) where
  turn_by : (loc : Loc) (r : Root) (from : ℤ) (len : ℕ) → IsReachOf f loc (Span r from len) → IsTurnedBy f r q → ((j : ℕ) → IsTrue (E j) ↔ MayWriteInTurn f j loc) → ((j : InstNo) → loc ≡ ReadBy j → j.0 ≡ i) →
      (e : Event) → IsAnswer (graph_of f.blocks) (and_one q E) b k e → (e ≢ Of q) → IsSound f i loc e
  turn_by loc (Global g) from len reach turned writers own e answer other = absurd turned
  turn_by (Bytes root off size) (Local l) from len reach turned writers own e answer other =
      let same = bytes_are f root (Local l) off from size len reach in
      subst (λ c. IsSound f i c e) same
      (turn_sound between_events answer_passes f numbered sound E l from len q turned (subst (λ c. (j : ℕ) → IsTrue (E j) ↔ MayWriteInTurn f j c) (sym same) writers) i b k x at lies e answer other)
  turn_by (ReadBy number) (Local l) from len reach turned writers own e answer other =
      let is = own number refl in
      own_sound f numbered sound l from len i b k x at number is reach e
      (turn_sound between_events answer_passes f numbered sound E l from len q turned (λ j. both (writers j) (turn_same f numbered sound l from len i b k x at number is reach j)) i b k x at lies e answer other)

  before_by : (D : ℕ → Bool) (loc : Loc) (r : Root) (from : ℤ) (len : ℕ) → IsReachOf f loc (Span r from len) → IsTurnedBy f r q → ((j : ℕ) → IsTrue (E j) ↔ MayWriteInTurn f j loc) →
      ((j : ℕ) → IsTrue (D j) ↔ MayWrite f j loc) → ((j : InstNo) → loc ≡ ReadBy j → j.0 ≡ i) → IsAnswer (graph_of f.blocks) (and_one q E) b k (Of q) →
      (c j : ℕ) (y : Placed) → IsAt f.blocks q c j y → (e : Event) → IsAnswer (graph_of f.blocks) D c j e → IsSound f i loc e
  before_by D loc (Global g) from len reach turned writers told own turns c j y at_q e answer = absurd turned
  before_by D (Bytes root off size) (Local l) from len reach turned writers told own turns c j y at_q e answer =
      let same = bytes_are f root (Local l) off from size len reach in
      subst (λ c. IsSound f i c e) same
      (before_sound between_events answer_passes f numbered sound E l from len q turned (subst (λ c. (j : ℕ) → IsTrue (E j) ↔ MayWriteInTurn f j c) (sym same) writers) i b k x at lies
      D (subst (λ c. (j : ℕ) → IsTrue (D j) ↔ MayWrite f j c) (sym same) told) turns c j y at_q e answer)
  before_by D (ReadBy number) (Local l) from len reach turned writers told own turns c j y at_q e answer =
      let is = own number refl in
      own_sound f numbered sound l from len i b k x at number is reach e
      (before_sound between_events answer_passes f numbered sound E l from len q turned (λ j. both (writers j) (turn_same f numbered sound l from len i b k x at number is reach j)) i b k x at lies
      D (λ j. both (told j) (write_same f numbered sound l from len i b k x at number is reach j)) turns c j y at_q e answer)

-- The laws.

pub turn_asked : BetweenEvents → AnswerIsPassed → (f : FuncState) → IsNumbered f → IsSoundFunc f → (E : ℕ → Bool) (loc : Loc) (q : ℕ) → IsLocTurnedBy f loc q → ((j : ℕ) → IsTrue (E j) ↔ MayWriteInTurn f j loc) →
    (i b k : ℕ) (x : Placed) (e : Event) → IsAt f.blocks i b k x → ((j : InstNo) → loc ≡ ReadBy j → j.0 ≡ i) → LiesOnEvery (graph_of f.blocks) q b k →
    IsAnswer (graph_of f.blocks) (and_one q E) b k e → (e ≢ Of q) → IsSound f i loc e
turn_asked between_events answer_passes f numbered sound E loc q (r, from, len, reach, turned) writers i b k x e at own lies answer other =
    turn_by between_events answer_passes f numbered sound E q i b k x at lies loc r from len reach turned writers own e answer other

pub before_asked : BetweenEvents → AnswerIsPassed → (f : FuncState) → IsNumbered f → IsSoundFunc f → (E D : ℕ → Bool) (loc : Loc) (q : ℕ) → IsLocTurnedBy f loc q → ((j : ℕ) → IsTrue (E j) ↔ MayWriteInTurn f j loc) →
    ((j : ℕ) → IsTrue (D j) ↔ MayWrite f j loc) → (i b k : ℕ) (x : Placed) → IsAt f.blocks i b k x → ((j : InstNo) → loc ≡ ReadBy j → j.0 ≡ i) → LiesOnEvery (graph_of f.blocks) q b k →
    IsAnswer (graph_of f.blocks) (and_one q E) b k (Of q) → (c j : ℕ) (y : Placed) → IsAt f.blocks q c j y → (e : Event) → IsAnswer (graph_of f.blocks) D c j e → IsSound f i loc e
before_asked between_events answer_passes f numbered sound E D loc q (r, from, len, reach, turned) writers told i b k x at own lies turns c j y at_q e answer =
    before_by between_events answer_passes f numbered sound E q i b k x at lies D loc r from len reach turned writers told own turns c j y at_q e answer
