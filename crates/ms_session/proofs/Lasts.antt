-- What a form says is last is last on every path.
use Rattle.std.proofs.Common.{◌≡◌, ◌↔◌, ℕ, Bool, true, false, List, take, Option, Some, None, if◌then◌else◌, refl, sym, ap, ◌∙◌, subst, ⊎_elim}
use Rattle.std.specs.Prelude.{IsTrue}
use Rattle.std.proofs.lemmas.Bool.{cases_Bool}
use Rattle.ms_paths.specs.Flow.{block_at, Event, Entry as LastEntry, IsReached, IsAnswer, after}
use Rattle.ms_ir.specs.Func.{Placed, Block, FuncState, insts_at}
use Rattle.ms_ir.specs.Graph.{numbers, graph_of, defs_of}
use Rattle.ms_ir.specs.Lasts.{IsLasts}
use Rattle.ms_form.specs.declared.access.Access.{Access}
use Rattle.ms_form.specs.Form.{FormState}
use Rattle.ms_build.specs.Accesses.{has_phi, entering_at}
use Rattle.ms_build.specs.Built.{IsFormOf, IsAnswered}
use Rattle.ms_build.specs.Filled.{before_at}
use Rattle.ms_build.proofs.Define.{OnePlaced}
use Rattle.ms_build.proofs.Events.{event_at, events_at, take-numbers, def_told, event_after, take_found}

-- what enters a block is the answer at its start
at_start : (f : FuncState) (form : FormState) → IsFormOf f form → (b : ℕ) → IsReached (graph_of f.blocks) b → IsAnswered f.blocks b 0 (entering_at form b)
at_start f form h b r =
    ⊎_elim
    (λ (t : has_phi form b ≡ true). rw t (record { phis = has_phi form; phis_are = h.phis; is_last = λ p path. rw t refl }))
    (λ (e : has_phi form b ≡ false). rw e (h.entering b r e))
    (cases_Bool (has_phi form b))

-- the answer further on
later : (blocks : List Block) (b k : ℕ) (a : Option Access) → IsAnswered blocks b 0 a
    → IsAnswer (graph_of blocks) (defs_of blocks) b k (after (defs_of blocks) (take k (block_at (graph_of blocks) b).events) (event_at a))
later blocks b k None h = absurd h
later blocks b k (Some a) h = record {
  phis = h.phis;
  phis_are = h.phis_are;
  is_last = λ p path. ap (after (defs_of blocks) (take k (block_at (graph_of blocks) b).events)) (h.is_last p path);
}

-- the access that stands before a place
abbrev pub before : List Block → FormState → ℕ → ℕ → Event
before blocks form b k = event_at (before_at blocks b k (entering_at form b))

pub before_is : (f : FuncState) (form : FormState) → IsFormOf f form → OnePlaced f.blocks → (b k : ℕ) → IsReached (graph_of f.blocks) b
    → IsAnswer (graph_of f.blocks) (defs_of f.blocks) b k (before f.blocks form b k)
before_is f form h one b k r =
    let D : ℕ → Bool = defs_of f.blocks in
    let xs : List Placed = insts_at f.blocks b in
    let start : Option Access = entering_at form b in
    let events : take k (block_at (graph_of f.blocks) b).events ≡ numbers (take k xs) = ap (take k) (events_at f.blocks b) ∙ take-numbers k xs in
    let same : after D (take k (block_at (graph_of f.blocks) b).events) (event_at start) ≡ before f.blocks form b k =
    ap (λ (l : List ℕ). after D l (event_at start)) events
    ∙ sym (event_after D (take k xs) None start (λ j x e. def_told f.blocks one b j x (take_found k j xs x e))) in
    subst (IsAnswer (graph_of f.blocks) D b k) same (later f.blocks b k start (at_start f form h b r))

-- the same where blocks are reached, and Entry elsewhere
abbrev pub last_by : (ℕ → Bool) → List Block → FormState → ℕ → ℕ → Event
last_by reached blocks form b k = if reached b then before blocks form b k else LastEntry

pub lasts_are : (f : FuncState) (form : FormState) (reached : ℕ → Bool) → IsFormOf f form → OnePlaced f.blocks → ((b : ℕ) → IsTrue (reached b) ↔ IsReached (graph_of f.blocks) b)
    → IsLasts f.blocks reached (has_phi form) (last_by reached f.blocks form)
lasts_are f form reached h one are = record {
  reached_are = are;
  phis_are = h.phis;
  last_is = λ b k r. rw ((are b).1 r) (before_is f form h one b k r);
  elsewhere = λ b k e. rw e refl;
}
