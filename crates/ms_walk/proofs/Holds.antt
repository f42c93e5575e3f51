-- Clobbers hold on every run of a sound function.
use Rattle.std.proofs.Common.{◌≡◌, ◌≢◌, ◌⊎◌, ◌↔◌, inl, inr, ℕ, Bool, refl}
use Rattle.std.specs.Prelude.{IsTrue}
use Rattle.ms_paths.specs.Flow.{Event, Of, IsReached, IsAnswer, LiesOnEvery, and_one}
use Rattle.ms_ir.specs.declared.names.InstNo.{InstNo}
use Rattle.ms_ir.specs.Func.{Placed, FuncState, IsAt}
use Rattle.ms_ir.specs.Graph.{graph_of}
use Rattle.ms_ir.specs.Locals.{IsNumbered}
use Rattle.ms_ir.specs.SoundFunc.{IsSoundFunc}
use Rattle.ms_alias.specs.declared.loc.Loc.{Loc}
use Rattle.ms_alias.specs.declared.loc.Loc.TheVariants.{Bytes, ReadBy}
use Rattle.ms_alias.specs.Meeting.{MayWrite, IsLocTurnedBy, MayWriteInTurn}
use Rattle.ms_sound.specs.Bytes.{BeginsOnce, IsSound}
use Rattle.ms_walk.specs.Clobber.{IsLastWriterBefore, IsLastInTurn, IsTurned, IsTurnedAt, IsClobberAt, IsClobber}
use Rattle.ms_walk.proofs.Passed.{passed_stands}

-- the laws, as `ms_sound` states them
abbrev pub Begins : Type 0
Begins = (f : FuncState) → IsSoundFunc f → BeginsOnce f

abbrev pub Anywhere : Type 0
Anywhere =
    (f : FuncState) → IsNumbered f → BeginsOnce f → (E : ℕ → Bool) (loc : Loc) → ((j : ℕ) → IsTrue (E j) ↔ MayWrite f j loc) →
    (i b k : ℕ) (x : Placed) (e : Event) → IsAt f.blocks i b k x → IsAnswer (graph_of f.blocks) E b k e → IsSound f i loc e

abbrev pub WithinTurn : Type 0
WithinTurn =
    (f : FuncState) → IsNumbered f → IsSoundFunc f → (E : ℕ → Bool) (loc : Loc) (q : ℕ) → IsLocTurnedBy f loc q → ((j : ℕ) → IsTrue (E j) ↔ MayWriteInTurn f j loc) →
    (i b k : ℕ) (x : Placed) (e : Event) → IsAt f.blocks i b k x → ((j : InstNo) → loc ≡ ReadBy j → j.0 ≡ i) → LiesOnEvery (graph_of f.blocks) q b k →
    IsAnswer (graph_of f.blocks) (and_one q E) b k e → e ≢ Of q → IsSound f i loc e

abbrev pub BeforeTurn : Type 0
BeforeTurn =
    (f : FuncState) → IsNumbered f → IsSoundFunc f → (E D : ℕ → Bool) (loc : Loc) (q : ℕ) → IsLocTurnedBy f loc q → ((j : ℕ) → IsTrue (E j) ↔ MayWriteInTurn f j loc) →
    ((j : ℕ) → IsTrue (D j) ↔ MayWrite f j loc) → (i b k : ℕ) (x : Placed) → IsAt f.blocks i b k x → ((j : InstNo) → loc ≡ ReadBy j → j.0 ≡ i) →
    LiesOnEvery (graph_of f.blocks) q b k → IsAnswer (graph_of f.blocks) (and_one q E) b k (Of q) →
    (c j : ℕ) (y : Placed) → IsAt f.blocks q c j y → (e : Event) → IsAnswer (graph_of f.blocks) D c j e → IsSound f i loc e

-- bytes are what no instruction has to read
turned_by : (f : FuncState) (loc : Loc) (q : ℕ) → IsTurned f loc q → IsLocTurnedBy f loc q
turned_by f (Bytes root from len) q h = (root, from, len, refl, h)
turned_by f (ReadBy j) q h = absurd h

asked_alone : (f : FuncState) (loc : Loc) (q i : ℕ) → IsTurned f loc q → (j : InstNo) → loc ≡ ReadBy j → j.0 ≡ i
asked_alone f (Bytes root from len) q i h j e = cc
asked_alone f (ReadBy l) q i h j e = absurd h

at_place : Begins → Anywhere → WithinTurn → BeforeTurn → (f : FuncState) → IsNumbered f → IsSoundFunc f → (i b k : ℕ) (x : Placed) (loc : Loc) (e : Event) → IsAt f.blocks i b k x
    → IsReached (graph_of f.blocks) b → IsClobberAt f b k loc e → IsSound f i loc e
at_place begins anywhere within before f numbered sound i b k x loc e at reached (inl h) = anywhere f numbered (begins f sound) h.1.writes loc h.1.writers i b k x e at h.1.answer
at_place begins anywhere within before f numbered sound i b k x loc e at reached (inr h) = in_turn h.2
  where
    q : ℕ
    q = h.0

    t : IsTurnedAt f b k loc q
    t = h.1

    in_turn : (IsLastInTurn f q b k loc e × (e ≢ Of q)) ⊎ (IsLastInTurn f q b k loc (Of q) × IsLastWriterBefore f q loc e) → IsSound f i loc e
    in_turn (inl found) =
        within f numbered sound found.0.writes loc q (turned_by f loc q t.turned) found.0.writers i b k x e at (asked_alone f loc q i t.turned) t.passed found.0.answer found.1
    in_turn (inr none) =
        let s = passed_stands f.blocks q b k reached t.passed in
        let w = none.1 s.block s.place s.inst s.at in
        before f numbered sound none.0.writes w.writes loc q (turned_by f loc q t.turned) none.0.writers w.writers i b k x at (asked_alone f loc q i t.turned) t.passed none.0.answer
        s.block s.place s.inst s.at e w.answer

pub holds : Begins → Anywhere → WithinTurn → BeforeTurn → (f : FuncState) → IsNumbered f → IsSoundFunc f → (i : ℕ) (loc : Loc) (e : Event) → IsClobber f i loc e → IsSound f i loc e
holds begins anywhere within before f numbered sound i loc e is =
    at_place begins anywhere within before f numbered sound i is.block is.place is.inst loc e is.at is.reached is.clobber
