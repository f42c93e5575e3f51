-- The clobber of a location whose root is made anew at each turn of a loop.
use Rattle.std.proofs.Common.{◌≡◌, ◌≢◌, ◌↔◌, inl, inr, refl, ℕ, Bool, true, false, List, if◌then◌else◌, sym, ◌∙◌, subst}
use Rattle.std.specs.Prelude.{IsTrue}
use Rattle.std.proofs.lemmas.Bool.{both_ways}
use Rattle.ms_paths.specs.Flow.{Block as Run, Event, Of, IsReached, IsAnswer, IsClosed, LiesOnEvery, StandsAt, StandsInOnePlace, and_one}
use Rattle.ms_paths.specs.Passed.{beyond}
use Rattle.ms_ir.specs.Func.{Placed, FuncState, IsAt}
use Rattle.ms_ir.specs.Graph.{graph_of, defs_of}
use Rattle.ms_build.proofs.Define.{OnePlaced}
use Rattle.ms_climb.specs.Answer.{StandsReached, AreDefs}
use Rattle.ms_alias.specs.declared.loc.Loc.{Loc}
use Rattle.ms_alias.specs.Tables.{AliasState}
use Rattle.ms_alias.specs.Meeting.{MayWriteInTurn}
use Rattle.ms_alias.specs.Tests.{may_write_in_turn_by}
use Rattle.ms_walk.specs.Clobber.{IsLastWriterBefore, IsLastInTurn, IsTurned, IsTurnedAt, IsClobberAt, IsClobber}
use Rattle.ms_walk.specs.Turn.{is_marked, IsBehind, ends_turn}
use Rattle.ms_walk.proofs.Passed.{passed_stands, is_at, in_one_place}
use Rattle.ms_walk.proofs.Writing.{writer_in_turn_is_def}

clobber_at : (f : FuncState) (i : ℕ) (loc : Loc) (e : Event) → (r : StandsReached f.blocks i) → IsClobberAt f r.block r.place loc e → IsClobber f i loc e
clobber_at f i loc e r h = record { block = r.block; place = r.place; inst = r.inst; at = r.at; reached = r.reached; clobber = h }

-- nothing turns the root
pub not_made : (f : FuncState) (i : ℕ) (loc : Loc) (e : Event) → StandsReached f.blocks i → ((q : ℕ) → IsTurned f loc q → ⊥) → IsLastWriterBefore f i loc e → IsClobber f i loc e
not_made f i loc e r none last = clobber_at f i loc e r (inl ((λ q t. none q t.turned), last r.block r.place r.inst r.at))

-- what turns it is not on every path
pub not_passed : (f : FuncState) (q i : ℕ) (loc : Loc) (e : Event) (insts starts : List Bool) → StandsReached f.blocks i → IsBehind f q insts starts → ((p : ℕ) → IsTurned f loc p → p ≡ q)
    → is_marked insts i ≡ false → IsLastWriterBefore f i loc e → IsClobber f i loc e
not_passed f q i loc e insts starts r behind only off last =
    clobber_at f i loc e r (inl (
      (λ p t.
          let passed : LiesOnEvery (graph_of f.blocks) q r.block r.place = subst (λ (n : ℕ). LiesOnEvery (graph_of f.blocks) n r.block r.place) (only p t.turned) t.passed in
          both_ways (is_marked insts i) off ((behind.insts_are i r.block r.place r.inst r.reached r.at).1 passed)),
      last r.block r.place r.inst r.at,
    ))

pub passed_on : (f : FuncState) (q i : ℕ) (insts starts : List Bool) → IsBehind f q insts starts → IsTrue (is_marked insts i) → (b k : ℕ) (x : Placed) → IsReached (graph_of f.blocks) b → IsAt f.blocks i b k x
    → LiesOnEvery (graph_of f.blocks) q b k
passed_on f q i insts starts behind on b k x r at = (behind.insts_are i b k x r at).0 on

turned_at : (f : FuncState) (q i : ℕ) (loc : Loc) (insts starts : List Bool) → (r : StandsReached f.blocks i) → IsBehind f q insts starts → IsTurned f loc q → ((p : ℕ) → IsTurned f loc p → p ≡ q)
    → IsTrue (is_marked insts i) → IsTurnedAt f r.block r.place loc q
turned_at f q i loc insts starts r behind turned only on = record { turned = turned; only = only; passed = passed_on f q i insts starts behind on r.block r.place r.inst r.reached r.at }

-- so what turns it stands in a reached block
pub maker_reached : (f : FuncState) (q i : ℕ) (insts starts : List Bool) → StandsReached f.blocks i → IsBehind f q insts starts → IsTrue (is_marked insts i) → StandsReached f.blocks q
maker_reached f q i insts starts r behind on = passed_stands f.blocks q r.block r.place r.reached (passed_on f q i insts starts behind on r.block r.place r.inst r.reached r.at)

abbrev pub IsLastInTurnBefore : FuncState → ℕ → ℕ → Loc → Event → Type 0
IsLastInTurnBefore f q i loc e = (b k : ℕ) (x : Placed) → IsAt f.blocks i b k x → IsLastInTurn f q b k loc e

-- something was found in the turn
pub found_in_turn : (f : FuncState) (q i : ℕ) (loc : Loc) (e : Event) (insts starts : List Bool) → StandsReached f.blocks i → IsBehind f q insts starts → IsTurned f loc q → ((p : ℕ) → IsTurned f loc p → p ≡ q)
    → IsTrue (is_marked insts i) → IsLastInTurnBefore f q i loc e → e ≢ Of q → IsClobber f i loc e
found_in_turn f q i loc e insts starts r behind turned only on last other =
    clobber_at f i loc e r (inr (q, turned_at f q i loc insts starts r behind turned only on, inl (last r.block r.place r.inst r.at, other)))

-- nothing was
pub found_before : (f : FuncState) (q i : ℕ) (loc : Loc) (d e : Event) (insts starts : List Bool) → StandsReached f.blocks i → IsBehind f q insts starts → IsTurned f loc q → ((p : ℕ) → IsTurned f loc p → p ≡ q)
    → IsTrue (is_marked insts i) → IsLastInTurnBefore f q i loc d → d ≡ Of q → IsLastWriterBefore f q loc e → IsClobber f i loc e
found_before f q i loc d e insts starts r behind turned only on last same before =
    let turn : IsLastInTurn f q r.block r.place loc (Of q) = subst (λ (a : Event). IsLastInTurn f q r.block r.place loc a) same (last r.block r.place r.inst r.at) in
    clobber_at f i loc e r (inr (q, turned_at f q i loc insts starts r behind turned only on, inr (turn, before)))

-- the law of the answer behind an instruction
abbrev pub AnswerBehind : Type 0
AnswerBehind =
    (g : List Run) (q : ℕ) (E F X B : ℕ → Bool) (b k : ℕ) (e : Event) → StandsInOnePlace g → IsClosed g →
    ((i a n : ℕ) → IsReached g a → StandsAt g i a n → IsTrue (X i) ↔ LiesOnEvery g q a n) →
    ((a : ℕ) → IsReached g a → IsTrue (B a) ↔ LiesOnEvery g q a 0) →
    ((i : ℕ) → IsTrue (X i) → IsTrue (F i) ↔ IsTrue (E i)) →
    LiesOnEvery g q b k → IsAnswer g F b k e → IsAnswer g (and_one q E) b k (beyond X B q e)

-- behind q the search ends at what may write in q's turn
ends_behind : (f : FuncState) (a : AliasState) (loc : Loc) (insts : List Bool) (i : ℕ) → IsTrue (is_marked insts i) → IsTrue (ends_turn f a loc insts i) ↔ IsTrue (may_write_in_turn_by f a loc i)
unfolding ends_turn
ends_behind f a loc insts i on = let same : ends_turn f a loc insts i ≡ may_write_in_turn_by f a loc i = by_mark (is_marked insts i) on in ((λ t. sym same ∙ t), (λ t. same ∙ t))
  where
    by_mark : (m : Bool) → m ≡ true → (if m then may_write_in_turn_by f a loc i else defs_of f.blocks i) ≡ may_write_in_turn_by f a loc i
    by_mark true e = refl
    by_mark false e = cc

pub ends_are_defs : (f : FuncState) (a : AliasState) (loc : Loc) (insts : List Bool) → OnePlaced f.blocks → ((j : ℕ) → IsTrue (may_write_in_turn_by f a loc j) ↔ MayWriteInTurn f j loc)
    → AreDefs f.blocks (ends_turn f a loc insts)
unfolding ends_turn
ends_are_defs f a loc insts one told j t = by_mark (is_marked insts j) t
  where
    by_mark : (m : Bool) → IsTrue (if m then may_write_in_turn_by f a loc j else defs_of f.blocks j) → IsTrue (defs_of f.blocks j)
    by_mark true e = writer_in_turn_is_def f one j loc ((told j).0 e)
    by_mark false e = e

pub last_in_turn : AnswerBehind → (f : FuncState) (a : AliasState) (q i : ℕ) (loc : Loc) (e d : Event) (insts starts : List Bool) → OnePlaced f.blocks → IsClosed (graph_of f.blocks)
    → ((j : ℕ) → IsTrue (may_write_in_turn_by f a loc j) ↔ MayWriteInTurn f j loc)
    → StandsReached f.blocks i → IsBehind f q insts starts → IsTrue (is_marked insts i)
    → ((b k : ℕ) (x : Placed) → IsAt f.blocks i b k x → IsAnswer (graph_of f.blocks) (ends_turn f a loc insts) b k e)
    → d ≡ beyond (is_marked insts) (is_marked starts) q e → IsLastInTurnBefore f q i loc d
last_in_turn law f a q i loc e d insts starts one closed told r behind on answer is b k x at =
    let g = graph_of f.blocks in
    let place = one r.block r.place b k r.inst x r.at.found at.found (r.at.numbered ∙ sym at.numbered) in
    let reached : IsReached g b = subst (IsReached g) place.0 r.reached in
    let found =
    law g q (may_write_in_turn_by f a loc) (ends_turn f a loc insts) (is_marked insts) (is_marked starts) b k e (in_one_place f.blocks one) closed
    (λ j c n rc stands. let y = is_at f.blocks j c n stands in behind.insts_are j c n y.0 rc y.1)
    behind.starts_are
    (λ j. ends_behind f a loc insts j)
    (passed_on f q i insts starts behind on b k x reached at) (answer b k x at) in
    record {
      writes = may_write_in_turn_by f a loc;
      writers = told;
      answer = subst (λ (c : Event). IsAnswer g (and_one q (may_write_in_turn_by f a loc)) b k c) (sym is) found;
    }
