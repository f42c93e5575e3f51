-- The clobber of a location is the same where an instruction that has no say in it stands elsewhere or nowhere.
use Rattle.std.proofs.Common.{◌≡◌, ◌<◌, ℕ, zero, suc, Bool, true, false, not, eqb, List, [], ◌∷◌, Some, length, take, filter, refl, sym, ap, ◌∙◌, subst, inl, inr, ⊎_elim, arith}
use Rattle.std.specs.Prelude.{◌≢◌, ◌||◌, slice_get, IsTrue}
use Rattle.std.proofs.lemmas.Bool.{cases_Bool, cases_eq, false_from_ne_true, cond-true, cond-false, eqb-true, ne_eqb}
use Rattle.ms_paths.specs.Flow.{block_at, Event, Of, IsReached, and_one}
use Rattle.ms_paths.specs.Edits.{SameEvents}
use Rattle.ms_ir.specs.Func.{Placed, Block, FuncState, IsAt, insts_at}
use Rattle.ms_ir.specs.Graph.{graph_of, numbers}
use Rattle.ms_alias.specs.declared.loc.Loc.{Loc}
use Rattle.ms_alias.specs.Meeting.{MayWrite, MayWriteInTurn}
use Rattle.ms_walk.specs.Clobber.{IsLastWriter, IsLastWriterBefore, IsTurned, IsTurnedAt, IsLastInTurn, IsClobberAt, IsClobber}
use Rattle.ms_kept.specs.Spared.{others, SameBut, IsSpared}
use Rattle.ms_kept.proofs.Others.{stands_in_both}
use Rattle.ms_kept.proofs.Graphs.{reached_kept, answer_kept, one, lies_kept}

-- ---- instructions but for one

events_at : (blocks : List Block) (b : ℕ) → (block_at (graph_of blocks) b).events ≡ numbers (insts_at blocks b)
events_at [] b = refl
events_at (x ∷ blocks) zero = refl
events_at (x ∷ blocks) (suc b) = events_at blocks b

within : (blocks : List Block) (b k : ℕ) (y : Placed) → slice_get (insts_at blocks b) k ≡ Some y → b < length blocks
within [] b k y e = cc
within (x ∷ xs) zero k y e = omega arith
within (x ∷ xs) (suc b) k y e = let r = within xs b k y e in omega arith

take_numbers : (k : ℕ) (xs : List Placed) → take k (numbers xs) ≡ numbers (take k xs)
take_numbers zero [] = refl
take_numbers (suc k) [] = refl
take_numbers zero (x ∷ xs) = refl
take_numbers (suc k) (x ∷ xs) = ap (λ l. x.number ∷ l) (take_numbers k xs)

-- a set without n sees no difference
unseen : (E : ℕ → Bool) (n : ℕ) → E n ≡ false → (xs : List Placed) → filter E (numbers xs) ≡ filter E (numbers (others n xs))
unseen E n f [] = refl
unseen E n f (x ∷ xs) =
    ⊎_elim
    (λ (here : eqb x.number n ≡ true).
    let out : others n (x ∷ xs) ≡ others n xs = cond-false (not (eqb x.number n)) (x ∷ others n xs) (others n xs) (ap not here) in
    cond-false (E x.number) (x.number ∷ filter E (numbers xs)) (filter E (numbers xs)) (ap E (eqb-true x.number n here) ∙ f)
    ∙ unseen E n f xs ∙ sym (ap (λ l. filter E (numbers l)) out))
    (λ (other : eqb x.number n ≡ false).
    let in_it : others n (x ∷ xs) ≡ x ∷ others n xs = cond-true (not (eqb x.number n)) (x ∷ others n xs) (others n xs) (ap not other) in
    ⊎_elim
    (λ (yes : E x.number ≡ true).
    cond-true (E x.number) (x.number ∷ filter E (numbers xs)) (filter E (numbers xs)) yes ∙ ap (λ l. x.number ∷ l) (unseen E n f xs)
    ∙ sym (ap (λ l. filter E (numbers l)) in_it ∙ cond-true (E x.number) (x.number ∷ filter E (numbers (others n xs))) (filter E (numbers (others n xs))) yes))
    (λ (no : E x.number ≡ false).
    cond-false (E x.number) (x.number ∷ filter E (numbers xs)) (filter E (numbers xs)) no ∙ unseen E n f xs
    ∙ sym (ap (λ l. filter E (numbers l)) in_it ∙ cond-false (E x.number) (x.number ∷ filter E (numbers (others n xs))) (filter E (numbers (others n xs))) no))
    (cases_Bool (E x.number)))
    (cases_Bool (eqb x.number n))

-- a place of a block in one function, and the place of the other at which the same stands before
abbrev IsPlace : FuncState → FuncState → ℕ → ℕ → ℕ → ℕ → Type 0
IsPlace f g n b k j = others n (take k (insts_at f.blocks b)) ≡ others n (take j (insts_at g.blocks b))

pub but_back : (f g : FuncState) (n : ℕ) → SameBut f g n → SameBut g f n
but_back f g n s = record { next = λ b. sym (s.next b); rest = λ b. sym (s.rest b) }

seen_at : (E : ℕ → Bool) (n : ℕ) → E n ≡ false → (f : FuncState) (b k : ℕ) →
    filter E (take k (block_at (graph_of f.blocks) b).events) ≡ filter E (numbers (others n (take k (insts_at f.blocks b))))
seen_at E n free f b k =
    ap (λ l. filter E (take k l)) (events_at f.blocks b) ∙ ap (filter E) (take_numbers k (insts_at f.blocks b)) ∙ unseen E n free (take k (insts_at f.blocks b))

same_before : (E : ℕ → Bool) (n : ℕ) → E n ≡ false → (f g : FuncState) (b k j : ℕ) → IsPlace f g n b k j →
    filter E (take k (block_at (graph_of f.blocks) b).events) ≡ filter E (take j (block_at (graph_of g.blocks) b).events)
same_before E n free f g b k j same = seen_at E n free f b k ∙ ap (λ l. filter E (numbers l)) same ∙ sym (seen_at E n free g b j)

same_events : (E : ℕ → Bool) (n : ℕ) → E n ≡ false → (f g : FuncState) → SameBut f g n → SameEvents (graph_of f.blocks) (graph_of g.blocks) E
same_events E n free f g s = record {
  next = s.next;
  events = λ b.
      ap (filter E) (events_at f.blocks b) ∙ unseen E n free (insts_at f.blocks b) ∙ ap (λ l. filter E (numbers l)) (s.rest b)
      ∙ sym (ap (filter E) (events_at g.blocks b) ∙ unseen E n free (insts_at g.blocks b));
}

-- another instruction stands in both
pub stands : (f g : FuncState) (n : ℕ) → SameBut f g n → (i : ℕ) → i ≢ n → (b k : ℕ) (x : Placed) → IsAt f.blocks i b k x → (j : ℕ) × IsAt g.blocks i b j x × IsPlace f g n b k j
stands f g n s i ne b k x at =
    let r = stands_in_both (λ (y : Placed). not (eqb y.number n)) (insts_at f.blocks b) (insts_at g.blocks b) (s.rest b) k x at.found
    (ap not (ne_eqb x.number n (λ e. ne (sym at.numbered ∙ e)))) in
    (r.0, record { block = within g.blocks b r.0 x r.1; found = r.1; numbered = at.numbered }, r.2)

-- ---- clobbers

spared_back : (f g : FuncState) (n : ℕ) (loc : Loc) → IsSpared f g n loc → IsSpared g f n loc
spared_back f g n loc s = record {
  same = but_back f g n s.same;
  before = s.after;
  after = s.before;
  writes = record {
    at_all = λ j ne. let w = s.writes.at_all j ne in (w.1, w.0);
    in_turn = λ j ne. let w = s.writes.in_turn j ne in (w.1, w.0);
    turned = λ q. let w = s.writes.turned q in (w.1, w.0);
  };
}

module _ (f g : FuncState) (n : ℕ) (loc : Loc) (s : IsSpared f g n loc) where
  writer_kept : (b k j : ℕ) (e : Event) → IsPlace f g n b k j → IsLastWriter f b k loc e → IsLastWriter g b j loc e
  writer_kept b k j e place l =
      let none : l.writes n ≡ false = false_from_ne_true (l.writes n) (λ t. s.before.at_all ((l.writers n).0 t)) in
      record {
        writes = l.writes;
        writers = λ i. ⊎_elim
            (λ (is : i ≡ n). (
              (λ (t : IsTrue (l.writes i)). absurd (s.before.at_all ((l.writers n).0 (subst (λ m. IsTrue (l.writes m)) is t)))),
              (λ (w : MayWrite g i loc). absurd (s.after.at_all (subst (λ m. MayWrite g m loc) is w))),
            ))
            (λ (ne : i ≡ n → ⊥). (
              (λ (t : IsTrue (l.writes i)). (s.writes.at_all i ne).0 ((l.writers i).0 t)),
              (λ (w : MayWrite g i loc). (l.writers i).1 ((s.writes.at_all i ne).1 w)),
            ))
            (cases_eq i n);
        answer = answer_kept (graph_of f.blocks) (graph_of g.blocks) l.writes (same_events l.writes n none f g s.same) b k j e
            (same_before l.writes n none f g b k j place) l.answer;
      }

  other_turns : (q : ℕ) → IsTurned f loc q → n ≡ q → ⊥
  other_turns q t e = s.before.turns_not (subst (IsTurned f loc) (sym e) t)

  turned_kept : (b k j q : ℕ) → IsPlace f g n b k j → IsTurnedAt f b k loc q → IsTurnedAt g b j loc q
  turned_kept b k j q place t =
      let none : one q n ≡ false = ne_eqb n q (other_turns q t.turned) in
      record {
        turned = (s.writes.turned q).0 t.turned;
        only = λ p h. t.only p ((s.writes.turned p).1 h);
        passed = lies_kept (graph_of f.blocks) (graph_of g.blocks) q (same_events (one q) n none f g s.same) b k j (same_before (one q) n none f g b k j place) t.passed;
      }

  turn_kept : (b k j q : ℕ) (e : Event) → IsPlace f g n b k j → IsReached (graph_of f.blocks) b → IsTurnedAt f b k loc q → IsLastInTurn f q b k loc e → IsLastInTurn g q b j loc e
  turn_kept b k j q e place r t l =
      let none : l.writes n ≡ false = false_from_ne_true (l.writes n) (λ h. s.before.in_turn q b k r t ((l.writers n).0 h)) in
      let both : and_one q l.writes n ≡ false = neither (ne_eqb n q (other_turns q t.turned)) none in
      record {
        writes = l.writes;
        writers = λ i. ⊎_elim
            (λ (is : i ≡ n). (
              (λ (h : IsTrue (l.writes i)). absurd (s.before.in_turn q b k r t ((l.writers n).0 (subst (λ m. IsTrue (l.writes m)) is h)))),
              (λ (w : MayWriteInTurn g i loc). absurd (s.after.in_turn q b j (reached_kept (graph_of f.blocks) (graph_of g.blocks) s.same.next b r) (turned_kept b k j q place t) (subst (λ m. MayWriteInTurn g m loc) is w))),
            ))
            (λ (ne : i ≡ n → ⊥). (
              (λ (h : IsTrue (l.writes i)). (s.writes.in_turn i ne).0 ((l.writers i).0 h)),
              (λ (w : MayWriteInTurn g i loc). (l.writers i).1 ((s.writes.in_turn i ne).1 w)),
            ))
            (cases_eq i n);
        answer = answer_kept (graph_of f.blocks) (graph_of g.blocks) (and_one q l.writes) (same_events (and_one q l.writes) n both f g s.same) b k j e
            (same_before (and_one q l.writes) n both f g b k j place) l.answer;
      }
    where
      neither : {u v : Bool} → u ≡ false → v ≡ false → u || v ≡ false
      neither {u} {v} a b = rw a b

  before_kept : (q : ℕ) (e : Event) → IsTurned f loc q → IsLastWriterBefore f q loc e → IsLastWriterBefore g q loc e
  before_kept q e t l b j x at =
      let r = stands g f n (but_back f g n s.same) q (λ is. other_turns q t (sym is)) b j x at in
      writer_kept b r.0 j e (sym r.2) (l b r.0 x r.1)

clobber_at_kept : (f g : FuncState) (n : ℕ) (loc : Loc) → IsSpared f g n loc → (b k j : ℕ) (e : Event) → IsPlace f g n b k j → IsReached (graph_of f.blocks) b →
    IsClobberAt f b k loc e → IsClobberAt g b j loc e
clobber_at_kept f g n loc s b k j e place r (inl h) =
    inl ((λ q t. h.0 q (turned_kept g f n loc (spared_back f g n loc s) b j k q (sym place) t)), writer_kept f g n loc s b k j e place h.1)
clobber_at_kept f g n loc s b k j e place r (inr h) =
    inr (
      h.0,
      turned_kept f g n loc s b k j h.0 place h.1,
      ⊎_elim
          (λ (found : IsLastInTurn f h.0 b k loc e × (e ≢ Of h.0)). inl (turn_kept f g n loc s b k j h.0 e place r h.1 found.0, found.1))
          (λ (above : IsLastInTurn f h.0 b k loc (Of h.0) × IsLastWriterBefore f h.0 loc e).
          inr (turn_kept f g n loc s b k j h.0 (Of h.0) place r h.1 above.0, before_kept f g n loc s h.0 e h.1.turned above.1))
          h.2,
    )

pub clobber_kept : (f g : FuncState) (n : ℕ) (loc : Loc) → IsSpared f g n loc → (i : ℕ) → i ≢ n → (e : Event) → IsClobber f i loc e → IsClobber g i loc e
clobber_kept f g n loc s i ne e c =
    let r = stands f g n s.same i ne c.block c.place c.inst c.at in
    record {
      block = c.block;
      place = r.0;
      inst = c.inst;
      at = r.1;
      reached = reached_kept (graph_of f.blocks) (graph_of g.blocks) s.same.next c.block c.reached;
      clobber = clobber_at_kept f g n loc s c.block c.place r.0 e r.2 c.reached c.clobber;
    }
