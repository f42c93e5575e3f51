-- A place has one clobber of a location.
use Rattle.std.proofs.Common.{◌≡◌, ◌≢◌, ◌⊎◌, inl, inr, ℕ, Bool, List, sym, subst, ◌∙◌}
use mathlib.Core.Path.{fun_ext}
use Rattle.ms_paths.specs.Flow.{Block as Run, Event, Of, IsReached, IsAnswer, LiesOnEvery, and_one}
use Rattle.ms_ir.specs.Func.{FuncState}
use Rattle.ms_ir.specs.Graph.{graph_of}
use Rattle.ms_build.proofs.Define.{OnePlaced}
use Rattle.ms_alias.specs.declared.loc.Loc.{Loc}
use Rattle.ms_alias.specs.Meeting.{MayWrite, MayWriteInTurn}
use Rattle.ms_alias.proofs.Asked.{alike}
use Rattle.ms_walk.specs.Clobber.{IsLastWriter, IsLastWriterBefore, IsLastInTurn, IsClobberAt, IsClobber}
use Rattle.ms_walk.proofs.Passed.{passed_stands}

abbrev pub OneAnswer : Type 0
OneAnswer =
    (g : List Run) (E : ℕ → Bool) (b k : ℕ) (d e : Event) → IsReached g b → IsAnswer g E b k d → IsAnswer g E b k e → d ≡ e

writer_once : OneAnswer → (f : FuncState) (b k : ℕ) (loc : Loc) (d e : Event) → IsReached (graph_of f.blocks) b → IsLastWriter f b k loc d → IsLastWriter f b k loc e → d ≡ e
writer_once law f b k loc d e r x y =
    let same : x.writes ≡ y.writes = fun_ext (λ j. alike (MayWrite f j loc) (x.writes j) (y.writes j) (x.writers j) (y.writers j)) in
    law (graph_of f.blocks) y.writes b k d e r (subst (λ (E : ℕ → Bool). IsAnswer (graph_of f.blocks) E b k d) same x.answer) y.answer

turn_once : OneAnswer → (f : FuncState) (q b k : ℕ) (loc : Loc) (d e : Event) → IsReached (graph_of f.blocks) b → IsLastInTurn f q b k loc d → IsLastInTurn f q b k loc e → d ≡ e
turn_once law f q b k loc d e r x y =
    let same : x.writes ≡ y.writes = fun_ext (λ j. alike (MayWriteInTurn f j loc) (x.writes j) (y.writes j) (x.writers j) (y.writers j)) in
    law (graph_of f.blocks) (and_one q y.writes) b k d e r (subst (λ (E : ℕ → Bool). IsAnswer (graph_of f.blocks) (and_one q E) b k d) same x.answer) y.answer

-- q lies on every path to the place, so it stands in a reached block
before_once : OneAnswer → (f : FuncState) (q b k : ℕ) (loc : Loc) (d e : Event) → IsReached (graph_of f.blocks) b → LiesOnEvery (graph_of f.blocks) q b k
    → IsLastWriterBefore f q loc d → IsLastWriterBefore f q loc e → d ≡ e
before_once law f q b k loc d e r passed x y =
    let s = passed_stands f.blocks q b k r passed in
    writer_once law f s.block s.place loc d e s.reached (x s.block s.place s.inst s.at) (y s.block s.place s.inst s.at)

-- what one turn says of the clobber
abbrev InTurn : FuncState → ℕ → ℕ → ℕ → Loc → Event → Type 0
InTurn f q b k loc e = (IsLastInTurn f q b k loc e × (e ≢ Of q)) ⊎ (IsLastInTurn f q b k loc (Of q) × IsLastWriterBefore f q loc e)

in_turn_once : OneAnswer → (f : FuncState) (q b k : ℕ) (loc : Loc) (d e : Event) → IsReached (graph_of f.blocks) b → LiesOnEvery (graph_of f.blocks) q b k
    → InTurn f q b k loc d → InTurn f q b k loc e → d ≡ e
in_turn_once law f q b k loc d e r passed (inl x) (inl y) = turn_once law f q b k loc d e r x.0 y.0
in_turn_once law f q b k loc d e r passed (inl x) (inr y) = absurd (x.1 (turn_once law f q b k loc d (Of q) r x.0 y.0))
in_turn_once law f q b k loc d e r passed (inr x) (inl y) = absurd (y.1 (turn_once law f q b k loc e (Of q) r y.0 x.0))
in_turn_once law f q b k loc d e r passed (inr x) (inr y) = before_once law f q b k loc d e r passed x.1 y.1

pub clobber_once : OneAnswer → (f : FuncState) (b k : ℕ) (loc : Loc) (d e : Event) → IsReached (graph_of f.blocks) b → IsClobberAt f b k loc d → IsClobberAt f b k loc e → d ≡ e
clobber_once law f b k loc d e r (inl x) (inl y) = writer_once law f b k loc d e r x.1 y.1
clobber_once law f b k loc d e r (inl x) (inr y) = absurd (x.0 y.0 y.1)
clobber_once law f b k loc d e r (inr x) (inl y) = absurd (y.0 x.0 x.1)
clobber_once law f b k loc d e r (inr x) (inr y) =
    let same : y.0 ≡ x.0 = x.1.only y.0 y.1.turned in
    in_turn_once law f x.0 b k loc d e r x.1.passed x.2 (subst (λ (q : ℕ). InTurn f q b k loc e) same y.2)

pub clobber_before_once : OneAnswer → (f : FuncState) → OnePlaced f.blocks → (i : ℕ) (loc : Loc) (d e : Event) → IsClobber f i loc d → IsClobber f i loc e → d ≡ e
clobber_before_once law f one i loc d e x y =
    let place = one x.block x.place y.block y.place x.inst y.inst x.at.found y.at.found (x.at.numbered ∙ sym y.at.numbered) in
    let moved : IsClobberAt f y.block y.place loc d =
    subst (λ (k : ℕ). IsClobberAt f y.block k loc d) place.1 (subst (λ (b : ℕ). IsClobberAt f b x.place loc d) place.0 x.clobber) in
    clobber_once law f y.block y.place loc d e y.reached moved y.clobber
