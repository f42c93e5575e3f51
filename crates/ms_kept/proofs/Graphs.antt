-- Two graphs with the same edges in which each block runs the same instructions of a set: paths, answers and what paths meet.
use Rattle.std.proofs.Common.{◌≡◌, ℕ, Bool, List, [], ◌∷◌, take, filter, Contains, refl, sym, ap, ◌∙◌, subst, inl, inr, ⊎_elim}
use Rattle.std.specs.Prelude.{nat_eq}
use Rattle.std.proofs.lemmas.Bool.{eq-eqb}
use Rattle.ms_paths.specs.Flow.{Block, block_at, Event, after, entered, IsPath, IsReached, last_event, last_event_at, IsAnswer, IsMet, LiesOnEvery}
use Rattle.ms_paths.specs.Edits.{SameEvents}
use Rattle.ms_paths.proofs.Removed.{after_filter, same_needs}
use Rattle.ms_kept.proofs.Others.{in_both}

pub path_kept : (g h : List Block) → ((b : ℕ) → (block_at g b).next ≡ (block_at h b).next) → (p : List ℕ) (b : ℕ) → IsPath g b p → IsPath h b p
path_kept g h next [] b path = path
path_kept g h next (a ∷ p) b path = (subst (λ l. Contains l b) (next a) path.0, path_kept g h next p a path.1)

pub reached_kept : (g h : List Block) → ((b : ℕ) → (block_at g b).next ≡ (block_at h b).next) → (b : ℕ) → IsReached g b → IsReached h b
reached_kept g h next b r = (r.0, path_kept g h next r.0 b r.1)

module _ (g h : List Block) (E : ℕ → Bool) (s : SameEvents g h E) where
  last_kept : (S : ℕ → Bool) (p : List ℕ) → last_event g E S p ≡ last_event h E S p
  last_kept S [] = refl
  last_kept S (b ∷ p) =
      let e : Event = entered S b (last_event g E S p) in
      after_filter E (block_at g b).events e ∙ ap (λ l. after E l e) (s.events b) ∙ sym (after_filter E (block_at h b).events e)
      ∙ ap (λ x. after E (block_at h b).events (entered S b x)) (last_kept S p)

  at_kept : (S : ℕ → Bool) (b k j : ℕ) (p : List ℕ) → filter E (take k (block_at g b).events) ≡ filter E (take j (block_at h b).events) →
      last_event_at g E S b k p ≡ last_event_at h E S b j p
  at_kept S b k j p same =
      let e : Event = entered S b (last_event g E S p) in
      after_filter E (take k (block_at g b).events) e ∙ ap (λ l. after E l e) same ∙ sym (after_filter E (take j (block_at h b).events) e)
      ∙ ap (λ x. after E (take j (block_at h b).events) (entered S b x)) (last_kept S p)

  pub answer_kept : (b k j : ℕ) (e : Event) → filter E (take k (block_at g b).events) ≡ filter E (take j (block_at h b).events) → IsAnswer g E b k e → IsAnswer h E b j e
  answer_kept b k j e same a = record {
    phis = a.phis;
    phis_are = λ c. let n = a.phis_are c in let m = same_needs g h E s c in ((λ t. m.0 (n.0 t)), (λ w. n.1 (m.1 w)));
    is_last = λ p path. sym (at_kept a.phis b k j p same) ∙ a.is_last p (path_kept h g (λ c. sym (s.next c)) p b path);
  }

-- the test of one number
abbrev pub one : ℕ → ℕ → Bool
one q j = nat_eq j q

module _ (g h : List Block) (q : ℕ) (s : SameEvents g h (one q)) where
  met_kept : (b k j : ℕ) (p : List ℕ) → filter (one q) (take k (block_at g b).events) ≡ filter (one q) (take j (block_at h b).events) → IsMet g q b k p → IsMet h q b j p
  met_kept b k j p same m =
      ⊎_elim
      (λ (here : Contains (take k (block_at g b).events) q). inl (in_both (one q) (take k (block_at g b).events) (take j (block_at h b).events) same q (eq-eqb q q refl) here))
      (λ (above : (a : ℕ) × Contains p a × Contains (block_at g a).events q).
      inr (above.0, above.1, in_both (one q) (block_at g above.0).events (block_at h above.0).events (s.events above.0) q (eq-eqb q q refl) above.2))
      m

  pub lies_kept : (b k j : ℕ) → filter (one q) (take k (block_at g b).events) ≡ filter (one q) (take j (block_at h b).events) → LiesOnEvery g q b k → LiesOnEvery h q b j
  lies_kept b k j same l p path = met_kept b k j p same (l p (path_kept h g (λ c. sym (s.next c)) p b path))
