-- Forms after an edit.
use Rattle.std.proofs.Common.{◌≡◌, ℕ, Bool, true, false, cond, eqb, ◌⊎◌, List, [], ◌∷◌, refl, sym, ap, ◌∙◌, subst, inl, inr, ⊎_elim, arith}
use Rattle.std.specs.Prelude.{Contains, IsTrue, filter}
use Rattle.std.proofs.lemmas.Bool.Decides.{nat_tests}
use Rattle.std.proofs.lemmas.Bool.{cases_Bool, cases_eq, both_ways, or_parts, false_from_ne_true, cond-true, cond-false}
use Rattle.ms_paths.specs.Flow.{Block, block_at, HasEdge, IsPath, IsReached, Event, Of, Entry, after, entered, Runs, IsForm, StandsOnce, and_one, IsWalk, IsReducible}
use Rattle.ms_paths.specs.Edits.{either, new_enters, new_leaves, IsPut, IsPartOf}
use Rattle.ms_paths.proofs.Removed.{after_filter}
use Rattle.ms_paths.proofs.Bridge.{any_of, has, after_some}
use Rattle.ms_paths.proofs.Order.{on}
use Rattle.ms_paths.proofs.Reduce.{on_contains}
use Rattle.ms_paths.proofs.Forms.{runs_has, after_any}

has_runs : (g : List Block) (E : ℕ → Bool) (b : ℕ) → has g E b ≡ true → Runs g E b
has_runs g E b t = let a = after_some E (block_at g b).events t in (a.0, a.1, a.2)

after_without : (D : ℕ → Bool) (d : ℕ) (is : List ℕ) (e : Event) → on d is ≡ false → after (and_one d D) is e ≡ after D is e
after_without D d [] e f = refl
after_without D d (i ∷ is) e f =
    let head : eqb i d ≡ false = grind (arith, nat_tests) in
    let tail : on d is ≡ false = grind (arith, nat_tests) in
    let same : and_one d D i ≡ D i = grind (arith, nat_tests) in
    after_without D d is (cond (and_one d D i) (Of i) e) tail ∙ ap (λ t. after D is (cond t (Of i) e)) same

module _ (g : List Block) (D R phis : ℕ → Bool) (enters : ℕ → Event) (operand : ℕ → ℕ → Event) (leaves : ℕ → Event) (d b : ℕ) (Z K : ℕ → Bool) (into : ℕ → Event)
    (all : (x : ℕ) → IsReached g x → IsTrue (R x)) (form : IsForm g D R phis enters operand leaves) (put : IsPut g D R phis enters leaves d b Z K into)
    (once : StandsOnce g) (stands : Contains (block_at g b).events d) where
  elsewhere : (x : ℕ) → (x ≡ b → ⊥) → on d (block_at g x).events ≡ false
  elsewhere x n = false_from_ne_true (on d (block_at g x).events) (λ t. n (once x b d (on_contains d (block_at g x).events t) stands))

  -- what leaves a block that is not b, and has an event or is entered as before
  unchanged : (a : ℕ) → IsReached g a → (a ≡ b → ⊥) → (has g D a ≡ true) ⊎ (Z a ≡ false) →
      new_leaves g (and_one d D) (either phis K) (new_enters Z into enters) a ≡ leaves a
  unchanged a r n why =
      after_without D d (block_at g a).events (entered (either phis K) a (new_enters Z into enters a)) (elsewhere a n)
      ∙ ⊎_elim
      (λ (t : has g D a ≡ true). after_any g D a t (entered (either phis K) a (new_enters Z into enters a)) (entered phis a (enters a)))
      (λ (f : Z a ≡ false).
      let no_new : K a ≡ false = false_from_ne_true (K a) (λ t. both_ways (Z a) f (put.new_within a t)) in
      let same : entered (either phis K) a (new_enters Z into enters a) ≡ entered phis a (enters a) = grind (arith, nat_tests) in
      ap (after D (block_at g a).events) same)
      why
      ∙ sym (form.leaves_block a (all a r))

  pub put_form : IsForm g (and_one d D) R (either phis K) (new_enters Z into enters)
      (λ x a. new_leaves g (and_one d D) (either phis K) (new_enters Z into enters) a) (new_leaves g (and_one d D) (either phis K) (new_enters Z into enters))
  put_form = record {
    leaves_block = λ x r. refl;
    leaves_outside = λ a r f s. absurd (both_ways (R a) f (all a r));
    enters_entry = λ r f.
        ⊎_elim (λ (t : Z 0 ≡ true). cond-true (Z 0) (into 0) (enters 0) t ∙ put.into_entry t f)
        (λ (n : Z 0 ≡ false). cond-false (Z 0) (into 0) (enters 0) n ∙ form.enters_entry r (or_parts (phis 0) (K 0) f).0) (cases_Bool (Z 0));
    enters_block = λ a x rx f r e.
        ⊎_elim (λ (t : Z x ≡ true). cond-true (Z x) (into x) (enters x) t ∙ put.into_block a x rx t f r e)
        (λ (n : Z x ≡ false).
        let no_phi = (or_parts (phis x) (K x) f).0 in
        cond-false (Z x) (into x) (enters x) n ∙ form.enters_block a x rx no_phi r e
        ∙ sym (⊎_elim
        (λ (s : a ≡ b).
        ⊎_elim (λ (same : new_leaves g (and_one d D) (either phis K) (new_enters Z into enters) b ≡ leaves b).
        subst (λ y. new_leaves g (and_one d D) (either phis K) (new_enters Z into enters) y ≡ leaves y) (sym s) same)
        (λ (go : (x : ℕ) → HasEdge g b x → phis x ≡ false → IsTrue (Z x)). absurd (both_ways (Z x) n (go x (subst (λ y. HasEdge g y x) s e) no_phi)))
        put.first_entered)
        (λ (ne : a ≡ b → ⊥). unchanged a r ne
        (⊎_elim (λ (t : has g D a ≡ true). inl t)
        (λ (h : has g D a ≡ false). inr (false_from_ne_true (Z a) (λ t. both_ways (Z x) n (put.then_entered a x t (λ s. both_ways (has g D a) h (runs_has g D a s)) e no_phi))))
        (cases_Bool (has g D a))))
        (cases_eq a b)))
        (cases_Bool (Z x));
    operands = λ a x r t k e. refl;
  }

part_path : (h g : List Block) (D : ℕ → Bool) → IsPartOf h g D → (p : List ℕ) (b : ℕ) → IsPath h b p → IsPath g b p
part_path h g D part [] b path = path
part_path h g D part (a ∷ p) b path = (part.edges_of a b path.0, part_path h g D part p a path.1)

any_filter : (D : ℕ → Bool) (is : List ℕ) → any_of D is ≡ any_of D (filter D is)
any_filter D [] = refl
any_filter D (i ∷ is) = let r = any_filter D is in grind (arith, nat_tests)

-- a form is one of the graph with fewer edges and the same events, over fewer blocks
pub part_form : (h g : List Block) (D R Q phis : ℕ → Bool) (enters : ℕ → Event) (operand : ℕ → ℕ → Event) (leaves : ℕ → Event) →
    IsPartOf h g D → ((b : ℕ) → IsTrue (Q b) → IsTrue (R b)) → IsForm g D R phis enters operand leaves → IsForm h D Q phis enters operand leaves
part_form h g D R Q phis enters operand leaves part sub form = record {
  leaves_block = λ b q. form.leaves_block b (sub b q) ∙ same b (entered phis b (enters b));
  leaves_outside = λ a r f s.
      let has_too : has g D a ≡ true = any_filter D (block_at g a).events ∙ ap (any_of D) (sym (part.events_same a)) ∙ sym (any_filter D (block_at h a).events) ∙ runs_has h D a s in
      ⊎_elim
      (λ (t : R a ≡ true). form.leaves_block a t ∙ after_any g D a has_too (entered phis a (enters a)) Entry)
      (λ (n : R a ≡ false). form.leaves_outside a (reached a r) n (has_runs g D a has_too))
      (cases_Bool (R a))
      ∙ same a Entry;
  enters_entry = λ q f. form.enters_entry (sub 0 q) f;
  enters_block = λ a b q f r e. form.enters_block a b (sub b q) f (reached a r) (part.edges_of a b e);
  operands = λ a b q t r e. form.operands a b (sub b q) t (reached a r) (part.edges_of a b e);
}
  where
    reached : (a : ℕ) → IsReached h a → IsReached g a
    reached a r = (r.0, part_path h g D part r.0 a r.1)

    same : (b : ℕ) (e : Event) → after D (block_at g b).events e ≡ after D (block_at h b).events e
    same b e = after_filter D (block_at g b).events e ∙ ap (λ l. after D l e) (sym (part.events_same b)) ∙ sym (after_filter D (block_at h b).events e)

part_walk : (h g : List Block) (D : ℕ → Bool) → IsPartOf h g D → (w : List ℕ) (a b : ℕ) → IsWalk h a b w → IsWalk g a b w
part_walk h g D part [] a b walk = walk
part_walk h g D part (c ∷ w) a b walk = (part.edges_of c b walk.0, part_walk h g D part w a c walk.1)

-- a graph with fewer edges is reducible too
pub part_reducible : (h g : List Block) (D : ℕ → Bool) → IsPartOf h g D → IsReducible g → IsReducible h
part_reducible h g D part red b c w r walk =
    let head = red b c w (r.0, part_path h g D part r.0 b r.1) (part_walk h g D part (c ∷ w) b b walk) in
    (head.0, head.1, λ x t p q. head.2 x t p (part_path h g D part p x q))
