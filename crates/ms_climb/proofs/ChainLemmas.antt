-- How a chain is climbed.
use Rattle.std.proofs.Common.{◌≡◌, ◌≢◌, ◌<◌, ◌⊎◌, inl, inr, ℕ, zero, suc, ◌+◌, add-one, Bool, true, false, List, [], ◌∷◌, ◌++◌, length, drop, get_or, set, Option, Some, None, refl, ap, sym, ◌∙◌, subst, arith, ⊎_elim, get_or-set_other, get_or-set_same, length-append}
use Rattle.std.specs.Prelude.{IsSome}
use Rattle.std.proofs.Math.ListN.{get_or-append, length-set}
use Rattle.std.proofs.Math.Seq.{drop-cons, get_or-append_seam}
use Rattle.std.proofs.lemmas.Bool.{cases_eq}
use Rattle.std.proofs.lemmas.Bool.Decides.{leb_tells}
use Rattle.std.proofs.lemmas.List.{get_or_past}
use Rattle.ms_ir.specs.declared.names.InstNo.{InstNo}
use Rattle.ms_form.specs.declared.access.Access.{Access}
use Rattle.ms_form.specs.declared.access.Access.TheVariants.{Entry, Of, Phi}
use Rattle.ms_form.specs.Form.{FormState}
use Rattle.ms_climb.specs.declared.chains.Mark.{Mark}
use Rattle.ms_climb.specs.declared.chains.Mark.TheVariants.{Counts, Passed}
use Rattle.ms_climb.specs.Chains.{ChainsState, IsChain, first_of, LeadTo, before_of, mark_at, stop_by, stop_of, IsMet, IsPassed, IsClimbed, KeepsMarks, IsClimb, OnChain, IsToward, IsFound, IsClimbing}
use Rattle.ms_climb.proofs.Options.{cases_Option}

pub climbing_begun : (f : FormState) (E : ℕ → Bool) (from : Access) (old : ChainsState) → IsClimbing f E from from old old
climbing_begun f E from old = record {
  keeps = record { size = refl; marks = λ i m e. e };
  stops = refl;
  found = λ i none. rw none tt;
  start = inl refl;
}

-- one more Def is marked
abbrev pub marked : ChainsState → ℕ → Mark → ChainsState
marked s i m = record { marks = set s.marks i (Some m); stops = s.stops }

mark_other : (s : ChainsState) (i j : ℕ) (m : Mark) → j ≢ i → mark_at (marked s i m) j ≡ mark_at s j
mark_other s i j m ne = get_or-set_other s.marks i j (Some m) None ne

mark_same : (s : ChainsState) (i : ℕ) (m : Mark) → i < length s.marks → mark_at (marked s i m) i ≡ Some m
mark_same s i m lt = get_or-set_same s.marks i (Some m) None lt

-- what is marked is another than what is free
not_free : (s : ChainsState) (i j : ℕ) (m : Mark) → mark_at s i ≡ None → mark_at s j ≡ Some m → j ≢ i
not_free s i j m free e same = let both : Some m ≡ None = sym e ∙ ap (mark_at s) same ∙ free in cc

keeps_marked : (old s : ChainsState) (i : ℕ) (m : Mark) → KeepsMarks old s → mark_at s i ≡ None → KeepsMarks old (marked s i m)
keeps_marked old s i m k free = record {
  size = length-set s.marks i (Some m) ∙ k.size;
  marks = λ j x e. mark_other s i j m (not_free s i j x free (k.marks j x e)) ∙ k.marks j x e;
}

on_chain : (s : ChainsState) (n i : ℕ) (m : Mark) (a : Access) → mark_at s i ≡ None → OnChain s n a → OnChain (marked s i m) n a
on_chain s n i m Entry free h = h
on_chain s n i m (Of j) free h = mark_other s i j.0 m (not_free s i j.0 (Passed n) free h) ∙ h
on_chain s n i m (Phi b) free h = h

toward : (s : ChainsState) (n i : ℕ) (m : Mark) (at a : Access) → mark_at s i ≡ None → IsToward s n at a → IsToward (marked s i m) n at a
toward s n i m at a free h = ⊎_elim (λ (e : a ≡ at). inl e) (λ (o : OnChain s n a). inr (on_chain s n i m a free o)) h

found_on : (f : FormState) (E : ℕ → Bool) (n i j : ℕ) (s : ChainsState) (m : Mark) (at to : Access) (x : Option Mark) → ((a : Access) → IsToward s n at a → IsToward (marked s i m) n to a)
    → IsFound f E n s at j x → IsFound f E n (marked s i m) to j x
found_on f E n i j s m at to None on h = h
found_on f E n i j s m at to (Some Counts) on h = h
found_on f E n i j s m at to (Some (Passed c)) on h = (h.0, h.1, on (before_of f j) h.2)

found_all : (f : FormState) (E : ℕ → Bool) (i : ℕ) (old s : ChainsState) (m : Mark) (from at to : Access) → IsClimbing f E from at old s
    → ((a : Access) → IsToward s (length old.stops) at a → IsToward (marked s i m) (length old.stops) to a) → i < length s.marks
    → IsFound f E (length old.stops) (marked s i m) to i (Some m) → (j : ℕ) → mark_at old j ≡ None → IsFound f E (length old.stops) (marked s i m) to j (mark_at (marked s i m) j)
found_all f E i old s m from at to c on lt here j none =
    ⊎_elim
    (λ (e : j ≡ i). let P : ℕ → Type 0 = λ k. IsFound f E (length old.stops) (marked s i m) to k (mark_at (marked s i m) k) in subst P (sym e) (rw (mark_same s i m lt) here))
    (λ (ne : j ≡ i → ⊥). rw (mark_other s i j m ne) (found_on f E (length old.stops) i j s m at to (mark_at s j) on (c.found j none)))
    (cases_eq j i)

-- the Def at hand counts
pub climbing_counts : (f : FormState) (E : ℕ → Bool) (i : InstNo) (from at : Access) (old s : ChainsState) → IsClimbing f E from at old s → at ≡ Of i → i.0 < length s.marks → mark_at s i.0 ≡ None
    → E i.0 ≡ true → IsClimbing f E from at old (marked s i.0 Counts)
climbing_counts f E i from at old s c is lt free t =
    let n = length old.stops in
    let on : (a : Access) → IsToward s n at a → IsToward (marked s i.0 Counts) n at a = λ a h. toward s n i.0 Counts at a free h in
    record {
      keeps = keeps_marked old s i.0 Counts c.keeps free;
      stops = c.stops;
      found = found_all f E i.0 old s Counts from at at c on lt t;
      start = on from c.start;
    }

-- it is passed
pub climbing_passes : (f : FormState) (E : ℕ → Bool) (i : InstNo) (from at : Access) (old s : ChainsState) → IsClimbing f E from at old s → at ≡ Of i → i.0 < length s.marks → mark_at s i.0 ≡ None
    → E i.0 ≡ false → IsClimbing f E from (before_of f i.0) old (marked s i.0 (Passed (length old.stops)))
climbing_passes f E i from at old s c is lt free o =
    let n = length old.stops in
    let m : Mark = Passed n in
    let here : OnChain (marked s i.0 m) n at = subst (OnChain (marked s i.0 m) n) (sym is) (mark_same s i.0 m lt) in
    let on : (a : Access) → IsToward s n at a → IsToward (marked s i.0 m) n (before_of f i.0) a =
    λ a h. ⊎_elim (λ (e : a ≡ at). inr (subst (OnChain (marked s i.0 m) n) (sym e) here)) (λ (x : OnChain s n a). inr (on_chain s n i.0 m a free x)) h in
    record {
      keeps = keeps_marked old s i.0 m c.keeps free;
      stops = c.stops;
      found = found_all f E i.0 old s m from at (before_of f i.0) c on lt (refl, o, inl refl);
      start = on from c.start;
    }

-- Defs that were passed before the climb.

-- where a chain begins
pub chain_first : (f : FormState) (E : ℕ → Bool) (is : List InstNo) (from to : Access) → IsChain f E is from to → from ≡ first_of is to
chain_first f E [] from to h = h
chain_first f E (i ∷ is) from to h = h.0

-- a chain by these Defs leads to an access, and the climb has come to the first of them
pub record IsPassing (f : FormState) (E : ℕ → Bool) (from to : Access) (old now : ChainsState) (left : List InstNo) : Type 0 where
  pub chain : LeadTo f E left to
  pub climbing : IsClimbing f E from (first_of left to) old now

-- the first of them is passed
passing_first : (f : FormState) (E : ℕ → Bool) (from to : Access) (i : InstNo) (is : List InstNo) (old s : ChainsState) → IsPassing f E from to old s (i ∷ is) → i.0 < length s.marks → mark_at s i.0 ≡ None
    → IsPassing f E from to old (marked s i.0 (Passed (length old.stops))) is
passing_first f E from to i is old s p lt free =
    let first : before_of f i.0 ≡ first_of is to = chain_first f E is (before_of f i.0) to p.chain.2 in
    record {
      chain = subst (λ (a : Access). IsChain f E is a to) first p.chain.2;
      climbing = subst (λ (a : Access). IsClimbing f E from a old (marked s i.0 (Passed (length old.stops)))) first (climbing_passes f E i from (Of i) old s p.climbing refl lt free p.chain.1);
    }

pub passing_next : (f : FormState) (E : ℕ → Bool) (from to : Access) (is : List InstNo) (k : ℕ) (i : InstNo) (old s : ChainsState) → IsPassing f E from to old s (drop k is) → k < length is → Of (get_or is k (record { 0 = 0 })) ≡ Of i
    → i.0 < length s.marks → mark_at s i.0 ≡ None → IsPassing f E from to old (marked s i.0 (Passed (length old.stops))) (drop (k + 1) is)
passing_next f E from to is k i old s p k-lt same lt free =
    let item : get_or is k (record { 0 = 0 }) ≡ i = cc in
    let left : drop k is ≡ i ∷ drop (k + 1) is = rw (add-one k) (drop-cons is k (record { 0 = 0 }) k-lt ∙ ap (λ (j : InstNo). j ∷ drop (suc k) is) item) in
    passing_first f E from to i (drop (k + 1) is) old s (subst (IsPassing f E from to old s) left p) lt free

-- The end of a climb.

abbrev pub ended : ChainsState → Access → ChainsState
ended s stop = record { marks = s.marks; stops = s.stops ++ stop ∷ [] }

last_twice : (xs : List Access) (c : ℕ) → get_or (xs ++ get_or xs c Entry ∷ []) c Entry ≡ get_or xs c Entry
last_twice [] zero = refl
last_twice [] (suc c) = refl
last_twice (x ∷ xs) zero = refl
last_twice (x ∷ xs) (suc c) = last_twice xs c

stop_here : (s : ChainsState) (at : Access) → stop_of (ended s (stop_of s at)) at ≡ stop_of s at
stop_here s Entry = refl
stop_here s (Phi b) = refl
stop_here s (Of i) = by_mark (mark_at s i.0)
  where
    by_mark : (x : Option Mark) → stop_by (ended s (stop_by s i x)) i x ≡ stop_by s i x
    by_mark None = refl
    by_mark (Some Counts) = refl
    by_mark (Some (Passed c)) = last_twice s.stops c

stop_on_chain : (s : ChainsState) (n : ℕ) (stop a : Access) → length s.stops ≡ n → OnChain s n a → stop_of (ended s stop) a ≡ stop
stop_on_chain s n stop Entry size h = absurd h
stop_on_chain s n stop (Phi b) size h = absurd h
stop_on_chain s n stop (Of j) size h = rw (h, ← size) (get_or-append_seam s.stops stop [] Entry)

met_on_chain : (s : ChainsState) (n : ℕ) (a : Access) → OnChain s n a → IsMet s a
met_on_chain s n Entry h = tt
met_on_chain s n (Phi b) h = tt
met_on_chain s n (Of j) h = λ lt. rw h refl

met_toward : (s : ChainsState) (n : ℕ) (at a : Access) → IsMet s at → IsToward s n at a → IsMet s a
met_toward s n at a met h = ⊎_elim (λ (e : a ≡ at). subst (IsMet s) (sym e) met) (λ (o : OnChain s n a). met_on_chain s n a o) h

stop_toward : (s : ChainsState) (n : ℕ) (at a : Access) → length s.stops ≡ n → IsToward s n at a → stop_of (ended s (stop_of s at)) a ≡ stop_of s at
stop_toward s n at a size h =
    ⊎_elim (λ (e : a ≡ at). ap (stop_of (ended s (stop_of s at))) e ∙ stop_here s at) (λ (o : OnChain s n a). stop_on_chain s n (stop_of s at) a size o) h

pub met_kept : (old new : ChainsState) (a : Access) → KeepsMarks old new → IsMet old a → IsMet new a
met_kept old new Entry k h = tt
met_kept old new (Phi b) k h = tt
met_kept old new (Of j) k h = λ lt. by_mark (mark_at old j.0) refl (h (let size = k.size in omega arith))
  where
    by_mark : (x : Option Mark) → mark_at old j.0 ≡ x → IsSome x → IsSome (mark_at new j.0)
    by_mark None e t = cc
    by_mark (Some m) e t = rw (k.marks j.0 m e) refl

-- an access that was met stops where it did
stop_kept : (f : FormState) (E : ℕ → Bool) (old s : ChainsState) (stop a : Access) → IsClimbed f E old → KeepsMarks old s → s.stops ≡ old.stops → IsMet old a → stop_of (ended s stop) a ≡ stop_of old a
stop_kept f E old s stop Entry c k same h = refl
stop_kept f E old s stop (Phi b) c k same h = refl
stop_kept f E old s stop (Of j) c k same h = by_mark (mark_at old j.0) refl
  where
    past : mark_at old j.0 ≡ None → mark_at s j.0 ≡ None
    past none = elim (leb_tells (length s.marks) j.0) [
      | inl out ↦ get_or_past s.marks j.0 None out.1
      | inr within ↦ absurd (let lt = within.1 in let size = k.size in let some : IsSome (mark_at old j.0) = h (omega arith) in let off : false ≡ true = rw none at some in cc)
    ]

    by_mark : (x : Option Mark) → mark_at old j.0 ≡ x → stop_of (ended s stop) (Of j) ≡ stop_by old j x
    by_mark None e = rw (past e) refl
    by_mark (Some Counts) e = rw (k.marks j.0 Counts e) refl
    by_mark (Some (Passed n)) e = rw (k.marks j.0 (Passed n) e, same) (get_or-append old.stops (stop ∷ []) Entry n (c.passed j.0 n e).known)

pub climb_ended : (f : FormState) (E : ℕ → Bool) (from at stop : Access) (old s : ChainsState) → IsClimbed f E old → IsClimbing f E from at old s → IsMet s at → stop ≡ stop_of s at
    → IsClimb f E from stop old (ended s stop)
climb_ended f E from at stop old s before c met is = record {
  climbed = record {
    counts = λ i e. counts i e (cases_Option (mark_at old i));
    passed = λ i n e. passed i n e (cases_Option (mark_at old i));
  };
  keeps = record { size = c.keeps.size; marks = c.keeps.marks };
  met = met_toward s (length old.stops) at from met c.start;
  leads = leads from c.start;
  stops = ap (λ (l : List Access). l ++ stop ∷ []) c.stops;
}
  where
    leads : (a : Access) → IsToward s (length old.stops) at a → stop_of (ended s stop) a ≡ stop
    leads a h = subst (λ (x : Access). stop_of (ended s x) a ≡ x) (sym is) (stop_toward s (length old.stops) at a (ap length c.stops) h)

    new_size : length (s.stops ++ stop ∷ []) ≡ length old.stops + 1
    new_size = length-append s.stops (stop ∷ []) ∙ ap (λ (l : List Access). length l + 1) c.stops

    counts : (i : ℕ) → mark_at s i ≡ Some Counts → (mark_at old i ≡ None) ⊎ ((m : Mark) × (mark_at old i ≡ Some m)) → E i ≡ true
    counts i e (inl none) = let x : IsFound f E (length old.stops) s at i (Some Counts) = subst (IsFound f E (length old.stops) s at i) e (c.found i none) in x
    counts i e (inr (m, was)) = let both : Some m ≡ Some Counts = sym (c.keeps.marks i m was) ∙ e in let same : m ≡ Counts = cc in before.counts i (was ∙ ap Some same)

    passed : (i n : ℕ) → mark_at s i ≡ Some (Passed n) → (mark_at old i ≡ None) ⊎ ((m : Mark) × (mark_at old i ≡ Some m)) → IsPassed f E (ended s stop) i n
    passed i n e (inl none) =
        let x : IsFound f E (length old.stops) s at i (Some (Passed n)) = subst (IsFound f E (length old.stops) s at i) e (c.found i none) in
        record {
          passes = x.1;
          known = let at_end = x.0 in omega (arith, new_size);
          met = met_toward s (length old.stops) at (before_of f i) met x.2;
          stop = leads (before_of f i) x.2 ∙ sym (rw (x.0, ← ap length c.stops) (get_or-append_seam s.stops stop [] Entry));
        }
    passed i n e (inr (m, was)) =
        let both : Some m ≡ Some (Passed n) = sym (c.keeps.marks i m was) ∙ e in
        let same : m ≡ Passed n = cc in
        let p = before.passed i n (was ∙ ap Some same) in
        let lt = p.known in
        record {
          passes = p.passes;
          known = omega (arith, new_size);
          met = met_kept old s (before_of f i) c.keeps p.met;
          stop = stop_kept f E old s stop (before_of f i) before c.keeps c.stops p.met ∙ p.stop ∙ sym (rw c.stops (get_or-append old.stops (stop ∷ []) Entry n lt));
        }
