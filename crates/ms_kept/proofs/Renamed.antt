-- Functions whose instructions became others at their places: the same graph, so the same clobbers where the same instructions write.
use Rattle.std.proofs.Common.{◌≡◌, ◌↔◌, ℕ, true, false, List, [], ◌∷◌, Some, None, map, refl, sym, ap, ◌∙◌, subst, inl, inr, ⊎_elim}
use Rattle.std.specs.Prelude.{◌≢◌, ◌==◌, slice_get, IsTrue}
use Rattle.std.proofs.lemmas.Bool.{cases_Bool, cond-true, cond-false}
use Rattle.ms_paths.specs.Flow.{Block as Run, Event, Of, IsReached, IsAnswer, LiesOnEvery, and_one}
use Rattle.ms_ir.specs.declared.names.LocalNo.{LocalNo}
use Rattle.ms_ir.specs.declared.inst.Val.{Val}
use Rattle.ms_ir.specs.declared.inst.Arg.{Arg}
use Rattle.ms_ir.specs.declared.inst.Term.{Term}
use Rattle.ms_ir.specs.declared.inst.Term.TheVariants.{Br, CondBr, Ret, Unreachable}
use Rattle.ms_ir.specs.Func.{Placed, Block, FuncState, IsAt, insts_at}
use Rattle.ms_ir.specs.Graph.{graph_of, numbers, successors}
use Rattle.ms_ir.specs.Changes.{placed_with, block_with, term_with, with_replaced, placed_sourced, block_sourced, with_source, inst_sourced}
use Rattle.ms_ir.specs.Locals.{IsNumbered}
use Rattle.ms_ir.specs.SoundFunc.{IsSoundFunc}
use Rattle.ms_alias.specs.declared.loc.Loc.{Loc}
use Rattle.ms_build.specs.Accesses.{event_of}
use Rattle.ms_walk.specs.Clobber.{IsLastWriter, IsLastWriterBefore, IsTurned, IsTurnedAt, IsLastInTurn, IsClobberAt, IsClobber}
use Rattle.ms_cache.specs.Edited.{GivesWay, SamePointers, SameWrites}
use Rattle.ms_cache.specs.Stays.{Kept}
use Rattle.ms_cache.proofs.Alike.{Alike}
use Rattle.ms_cache.proofs.Insts.{SameInsts}
use Rattle.ms_cache.proofs.Accesses.{both_moved, pointers_both, makers_moved, insts_back, writes_same_insts}
use Rattle.ms_cache.proofs.Mapped.{at_to, at_from, found_from}
use Rattle.ms_cache.proofs.Sourced.{source_pointers, source_writes}
use Rattle.ms_cache.proofs.Replaced.{replaced_pointers, replaced_writes}
use Rattle.ms_kept.specs.Answers.{IsRight}
use Rattle.ms_kept.proofs.Between.{asked_kept, turned_kept, own_read}
use Rattle.ms_kept.proofs.Captures.{InOnePlace}

-- instructions of the same numbers at the same places of the same graph
pub record IsRenamed (f g : FuncState) : Type 0 where
  pub graph : graph_of f.blocks ≡ graph_of g.blocks
  pub to : (i b k : ℕ) (x : Placed) → IsAt f.blocks i b k x → (y : Placed) × IsAt g.blocks i b k y
  pub from : (i b k : ℕ) (y : Placed) → IsAt g.blocks i b k y → (x : Placed) × IsAt f.blocks i b k x

module _ (f g : FuncState) (r : IsRenamed f g) (loc : Loc) (writes : (i : ℕ) → SameWrites f g i loc) (turned : (q : ℕ) → IsTurned f loc q ↔ IsTurned g loc q) where
  writer_renamed : (b k : ℕ) (e : Event) → IsLastWriter f b k loc e → IsLastWriter g b k loc e
  writer_renamed b k e l = record {
    writes = l.writes;
    writers = λ i. ((λ (t : IsTrue (l.writes i)). (writes i).at_all.0 ((l.writers i).0 t)), (λ w. (l.writers i).1 ((writes i).at_all.1 w)));
    answer = subst (λ (h : List Run). IsAnswer h l.writes b k e) r.graph l.answer;
  }

  turn_renamed : (q b k : ℕ) (e : Event) → IsLastInTurn f q b k loc e → IsLastInTurn g q b k loc e
  turn_renamed q b k e l = record {
    writes = l.writes;
    writers = λ i. ((λ (t : IsTrue (l.writes i)). (writes i).in_turn.0 ((l.writers i).0 t)), (λ w. (l.writers i).1 ((writes i).in_turn.1 w)));
    answer = subst (λ (h : List Run). IsAnswer h (and_one q l.writes) b k e) r.graph l.answer;
  }

  turned_renamed : (b k q : ℕ) → IsTurnedAt f b k loc q → IsTurnedAt g b k loc q
  turned_renamed b k q t = record {
    turned = (turned q).0 t.turned;
    only = λ p h. t.only p ((turned p).1 h);
    passed = subst (λ (h : List Run). LiesOnEvery h q b k) r.graph t.passed;
  }

  turned_back : (b k q : ℕ) → IsTurnedAt g b k loc q → IsTurnedAt f b k loc q
  turned_back b k q t = record {
    turned = (turned q).1 t.turned;
    only = λ p h. t.only p ((turned p).0 h);
    passed = subst (λ (h : List Run). LiesOnEvery h q b k) (sym r.graph) t.passed;
  }

  before_renamed : (q : ℕ) (e : Event) → IsLastWriterBefore f q loc e → IsLastWriterBefore g q loc e
  before_renamed q e l b k y at = let x = r.from q b k y at in writer_renamed b k e (l b k x.0 x.1)

  at_renamed : (b k : ℕ) (e : Event) → IsClobberAt f b k loc e → IsClobberAt g b k loc e
  at_renamed b k e (inl h) = inl ((λ q t. h.0 q (turned_back b k q t)), writer_renamed b k e h.1)
  at_renamed b k e (inr h) =
      inr (
        h.0,
        turned_renamed b k h.0 h.1,
        ⊎_elim
            (λ (found : IsLastInTurn f h.0 b k loc e × (e ≢ Of h.0)). inl (turn_renamed h.0 b k e found.0, found.1))
            (λ (above : IsLastInTurn f h.0 b k loc (Of h.0) × IsLastWriterBefore f h.0 loc e). inr (turn_renamed h.0 b k (Of h.0) above.0, before_renamed h.0 e above.1))
            h.2,
      )

  clobber_renamed : (i : ℕ) (e : Event) → IsClobber f i loc e → IsClobber g i loc e
  clobber_renamed i e c =
      let y = r.to i c.block c.place c.inst c.at in
      record {
        block = c.block;
        place = c.place;
        inst = y.0;
        at = y.1;
        reached = subst (λ (h : List Run). IsReached h c.block) r.graph c.reached;
        clobber = at_renamed c.block c.place e c.clobber;
      }

pub right_renamed : (f g : FuncState) → IsRenamed f g → SamePointers f g → (x : Kept) → ((i : ℕ) → SameWrites f g i x.0.loc) → IsRight f x → IsRight g x
right_renamed f g r pointers x writes right = record {
  asked = asked_kept f g pointers x.0.inst x.0.loc right.asked;
  clobber = clobber_renamed f g r x.0.loc writes (turned_kept f g pointers x.0.loc) x.0.inst.0 (event_of x.1) right.clobber;
}

-- ---- each instruction became another one

module _ (p : Placed → Placed) (change : Block → Block) (is : (b : Block) → (change b).insts ≡ map p b.insts) (same : (x : Placed) → (p x).number ≡ x.number) (term : (b : Block) → successors (change b).term ≡ successors b.term) where
  numbers_map : (xs : List Placed) → numbers xs ≡ numbers (map p xs)
  numbers_map [] = refl
  numbers_map (x ∷ xs) = ap (λ n. n ∷ numbers xs) (sym (same x)) ∙ ap (λ l. (p x).number ∷ l) (numbers_map xs)

  graph_map : (blocks : List Block) → graph_of blocks ≡ graph_of (map change blocks)
  graph_map [] = refl
  graph_map (b ∷ blocks) =
      let event : List ℕ → Run = λ l. record { events = l; next = successors b.term } in
      let leave : List ℕ → Run = λ l. record { events = numbers (change b).insts; next = l } in
      ap (λ (r : Run). r ∷ graph_of blocks) (ap event (numbers_map b.insts ∙ ap numbers (sym (is b))) ∙ ap leave (sym (term b))) ∙ ap (λ l. record { events = numbers (change b).insts; next = successors (change b).term } ∷ l) (graph_map blocks)

  pub map_renamed : (f g : FuncState) → g.blocks ≡ map change f.blocks → IsRenamed f g
  map_renamed f g e = record {
    graph = graph_map f.blocks ∙ ap graph_of (sym e);
    to = λ i b k x at. (p x, subst (λ blocks. IsAt blocks i b k (p x)) (sym e) (at_to p change is same f.blocks i b k x at));
    from = λ i b k y at. let r = at_from p change is same f.blocks i b k y (subst (λ blocks. IsAt blocks i b k y) e at) in (r.0, r.1);
  }

  pub map_one_place : (f : FuncState) → IsNumbered f → (g : FuncState) → g.blocks ≡ map change f.blocks → InOnePlace g
  map_one_place f numbered g e b j c k x y h i n =
      let r = found_from p change is f.blocks b j x (subst (λ blocks. slice_get (insts_at blocks b) j ≡ Some x) e h) in
      let s = found_from p change is f.blocks c k y (subst (λ blocks. slice_get (insts_at blocks c) k ≡ Some y) e i) in
      numbered.one_place b j c k r.0 s.0 r.1 s.1 (sym (same r.0) ∙ ap (λ (z : Placed). z.number) r.2 ∙ n ∙ sym (ap (λ (z : Placed). z.number) s.2) ∙ same s.0)

-- ---- another source

sourced_number : (n : ℕ) (arg : Arg) (x : Placed) → (placed_sourced n arg x).number ≡ x.number
sourced_number n arg x =
    let new : Placed = record x { inst = inst_sourced arg x.inst } in
    ⊎_elim
    (λ (t : (x.number == n) ≡ true). ap (λ (y : Placed). y.number) (cond-true (x.number == n) new x t))
    (λ (f : (x.number == n) ≡ false). ap (λ (y : Placed). y.number) (cond-false (x.number == n) new x f))
    (cases_Bool (x.number == n))

pub source_right : (f : FuncState) (n : ℕ) (arg : Arg) (x : Kept) → x.0.inst.0 ≢ n → IsRight f x → IsRight (with_source f n arg) x
source_right f n arg x ne right =
    let free = own_read f x.0.inst n x.0.loc right.asked ne in
    right_renamed f (with_source f n arg) (map_renamed (placed_sourced n arg) (block_sourced n arg) (λ b. refl) (sourced_number n arg) (λ b. refl) f (with_source f n arg) refl)
    (source_pointers f n arg) x (λ i. source_writes f n arg i x.0.loc free) right

-- ---- a value in a local's place

term_kept : (l : LocalNo) (by : Val) (t : Term) → successors (term_with l by t) ≡ successors t
term_kept l by (Br b text) = refl
term_kept l by (CondBr test a b text) = refl
term_kept l by (Ret None text) = refl
term_kept l by (Ret (Some p) text) = refl
term_kept l by (Unreachable text) = refl

pub replaced_renamed : (f : FuncState) (l : LocalNo) (by : Val) → IsRenamed f (with_replaced f l by)
replaced_renamed f l by = map_renamed (placed_with l by) (block_with l by) (λ b. refl) (λ x. refl) (λ b. term_kept l by b.term) f (with_replaced f l by) refl

pub replaced_one_place : (f : FuncState) → IsNumbered f → (l : LocalNo) (by : Val) → InOnePlace (with_replaced f l by)
replaced_one_place f numbered l by = map_one_place (placed_with l by) (block_with l by) (λ b. refl) (λ x. refl) (λ b. term_kept l by b.term) f numbered (with_replaced f l by) refl

pub replaced_right : (f : FuncState) → IsNumbered f → IsSoundFunc f → (l : LocalNo) (by : Val) → GivesWay f l by → (x : Kept) → IsRight f x → IsRight (with_replaced f l by) x
replaced_right f numbered sound l by way x right =
    right_renamed f (with_replaced f l by) (replaced_renamed f l by) (replaced_pointers f numbered l by way sound) x (λ i. replaced_writes f numbered l by way sound i x.0.loc) right

-- ---- other room

abbrev with_room : FuncState → ℕ → FuncState
with_room f k = record f { spare = k }

-- the same blocks and parameters
module _ (f g : FuncState) (alike : Alike f g) (same : SameInsts f g) (r : IsRenamed f g) where
  same_right : (x : Kept) → IsRight f x → IsRight g x
  same_right x right =
      right_renamed f g r (pointers_both f g (both_moved f g alike same) (makers_moved f g same) (makers_moved g f (insts_back f g same))) x (λ i. writes_same_insts f g alike same i x.0.loc) right

pub room_right : (f : FuncState) (k : ℕ) (x : Kept) → IsRight f x → IsRight (record f { spare = k }) x
room_right f k = same_right f (with_room f k) (record { makers = λ l. refl; params = refl; edges = refl }) (λ y. (λ h. h, λ h. h)) (record { graph = refl; to = λ i b j x at. (x, at); from = λ i b j x at. (x, at) })

pub room_back : (f : FuncState) (k : ℕ) (x : Kept) → IsRight (record f { spare = k }) x → IsRight f x
room_back f k = same_right (with_room f k) f (record { makers = λ l. refl; params = refl; edges = refl }) (λ y. (λ h. h, λ h. h)) (record { graph = refl; to = λ i b j x at. (x, at); from = λ i b j x at. (x, at) })
