-- Pointers whose getelementptrs lead back to themselves.
use Rattle.std.proofs.Common.{◌≡◌, ◌≢◌, ◌<◌, ◌≤◌, ◌⊎◌, ℕ, zero, suc, Bool, true, false, cond, List, Option, Some, None, length, get_or, set, refl, sym, ap, ◌∙◌, subst, inl, inr, ⊎_elim, get_or-set_other, get_or-set_same}
use Rattle.std.proofs.Math.ListN.{replicate}
use Rattle.std.proofs.lemmas.Bool.{both_ways, cases_eq, cases_lt, lt-ltb, le-ltb}
use Rattle.ms_ir.specs.Func.{FuncState}
use Rattle.ms_alias.specs.declared.loc.Root.{Root}
use Rattle.ms_alias.specs.declared.loc.Root.TheVariants.{Local, Global}
use Rattle.ms_alias.specs.Roots.{Step, step_of, step_by_maker, LeadsBack, IsRing}
use Rattle.ms_alias.specs.Building.{IsBeyond, next_local, local_below}

-- the local of a number
abbrev pub local : ℕ → Root
local l = Local (record { 0 = l })

abbrev pub next_in : FuncState → ℕ → ℕ → Option ℕ
next_in f limit l = next_local limit (step_of f (local l))

pub leads_more : (f : FuncState) (n : ℕ) (p q : Root) (s : Step) → LeadsBack f n p q → step_of f q ≡ Some s → LeadsBack f (suc n) p s.base
leads_more f zero p q s h e = (s, ap (step_of f) h ∙ e, refl)
leads_more f (suc n) p q s h e = (h.0, h.1, leads_more f n h.0.base q s h.2 e)

-- a set that no getelementptr leads out of keeps what it leads to
kept_in : (f : FuncState) (K : Root → Type 0) → ((p : Root) (s : Step) → K p → step_of f p ≡ Some s → K s.base) → (n : ℕ) (p q : Root) → K p → LeadsBack f n p q → K q
kept_in f K closed zero p q k h = subst K h k
kept_in f K closed (suc n) p q k h = kept_in f K closed n h.0.base q (closed p h.0 k h.1) h.2

-- where the first step leads into such a set without the pointer itself, it is on no ring
pub no_ring : (f : FuncState) (K : Root → Type 0) (p : Root) → ((q : Root) (s : Step) → (q ≡ p) ⊎ K q → step_of f q ≡ Some s → K s.base) → (K p → ⊥) → IsRing f p → ⊥
no_ring f K p closed out ring =
    let h = ring.1 in
    out (kept_in f K (λ q s k e. closed q s (inr k) e) ring.0 h.0.base p (closed p h.0 (inl refl) h.1) h.2)

-- where a next local leads
pub next_step : (f : FuncState) (limit l m : ℕ) (o : Option Step) → next_local limit o ≡ Some m → (s : Step) × (o ≡ Some s) × (s.base ≡ local m) × (m < limit)
next_step f limit l m None e = cc
next_step f limit l m (Some s) e = within s s.base refl e where
  within : (s : Step) (q : Root) → s.base ≡ q → local_below limit q ≡ Some m → (s' : Step) × (Some s ≡ Some s') × (s'.base ≡ local m) × (m < limit)
  within s (Global g) is e = cc
  within s (Local k) is e =
      ⊎_elim
      (λ (lt : k.0 < limit).
      let same : Some k.0 ≡ Some m = sym (ap (λ b. cond b (Some k.0) None) (lt-ltb k.0 limit lt)) ∙ e in
      let one : k.0 ≡ m = cc in
      (s, refl, is ∙ ap local one, subst (λ n. n < limit) one lt))
      (λ (ge : limit ≤ k.0). let none : None ≡ Some m = sym (ap (λ b. cond b (Some k.0) None) (le-ltb k.0 limit ge)) ∙ e in cc)
      (cases_lt k.0 limit)

-- without a next local there is no step, or one to a pointer that has none
no_next : (f : FuncState) (limit : ℕ) → IsBeyond f limit → (o : Option Step) → next_local limit o ≡ None → (s : Step) → o ≡ Some s → step_of f s.base ≡ None
no_next f limit beyond o e s is = leaf s.base (sym (ap (next_local limit) is) ∙ e) where
  leaf : (q : Root) → local_below limit q ≡ None → step_of f q ≡ None
  leaf (Global g) e = refl
  leaf (Local k) e =
      ⊎_elim
      (λ (lt : k.0 < limit). absurd (let some : Some k.0 ≡ None = sym (ap (λ b. cond b (Some k.0) None) (lt-ltb k.0 limit lt)) ∙ e in cc))
      (λ (ge : limit ≤ k.0). ap step_by_maker (beyond k ge))
      (cases_lt k.0 limit)

-- so far the walk came from l to a local, and each local that it met leads to one with a mark
pub record IsTrail (f : FuncState) (limit l at : ℕ) (marks : List Bool) : Type 0 where
  pub from : (n : ℕ) × LeadsBack f n (local l) (local at)
  pub unmarked : get_or marks l false ≡ false
  pub closed : (x : ℕ) → (x ≡ l) ⊎ (get_or marks x false ≡ true) → (x ≡ at) ⊎ ((y : ℕ) × (next_in f limit x ≡ Some y) × (get_or marks y false ≡ true))

pub get_or-replicate : (n k : ℕ) → get_or (replicate n false) k false ≡ false
get_or-replicate zero k = refl
get_or-replicate (suc n) zero = refl
get_or-replicate (suc n) (suc k) = get_or-replicate n k

pub trail_begun : (f : FuncState) (limit l n : ℕ) → IsTrail f limit l l (replicate n false)
trail_begun f limit l n = record {
  from = (zero, refl);
  unmarked = get_or-replicate n l;
  closed = λ x h. ⊎_elim (λ (e : x ≡ l). inl e) (λ (t : get_or (replicate n false) x false ≡ true). absurd (both_ways (get_or (replicate n false) x false) (get_or-replicate n x) t)) h;
}

pub trail_more : (f : FuncState) (limit l at next : ℕ) (marks : List Bool) → IsTrail f limit l at marks → next_in f limit at ≡ Some next → (next ≡ l → ⊥) → next < length marks → IsTrail f limit l next (set marks next true)
trail_more f limit l at next marks t e ne lt =
    let s = next_step f limit at next (step_of f (local at)) e in
    record {
      from = (suc t.from.0, subst (LeadsBack f (suc t.from.0) (local l)) s.2 (leads_more f t.from.0 (local l) (local at) s.0 t.from.1 s.1));
      unmarked = (let other : l ≢ next = λ h. ne (sym h) in get_or-set_other marks next l true false other ∙ t.unmarked);
      closed = λ x h. ⊎_elim (λ (is : x ≡ next). inl is) (λ (other : x ≡ next → ⊥). inr (old x (stays x other h))) (cases_eq x next);
    } where
      later : (y : ℕ) → get_or marks y false ≡ true → get_or (set marks next true) y false ≡ true
      later y m = ⊎_elim (λ (is : y ≡ next). ap (λ k. get_or (set marks next true) k false) is ∙ get_or-set_same marks next true false lt) (λ (other : y ≡ next → ⊥). get_or-set_other marks next y true false other ∙ m) (cases_eq y next)

      stays : (x : ℕ) → (x ≡ next → ⊥) → (x ≡ l) ⊎ (get_or (set marks next true) x false ≡ true) → (x ≡ l) ⊎ (get_or marks x false ≡ true)
      stays x other (inl is) = inl is
      stays x other (inr m) = inr (sym (get_or-set_other marks next x true false other) ∙ m)

      old : (x : ℕ) → (x ≡ l) ⊎ (get_or marks x false ≡ true) → (y : ℕ) × (next_in f limit x ≡ Some y) × (get_or (set marks next true) y false ≡ true)
      old x h =
          ⊎_elim
          (λ (is : x ≡ at). (next, ap (next_in f limit) is ∙ e, get_or-set_same marks next true false lt))
          (λ (r : (y : ℕ) × (next_in f limit x ≡ Some y) × (get_or marks y false ≡ true)). (r.0, r.1, later r.0 r.2))
          (t.closed x h)

abbrev root_number : Root → ℕ
root_number (Local k) = k.0
root_number (Global g) = 0

-- a marked local, or a pointer without a step
abbrev IsMet : FuncState → List Bool → Root → Type 0
IsMet f marks p = ((x : ℕ) × (p ≡ local x) × (get_or marks x false ≡ true)) ⊎ (step_of f p ≡ None)

met_next : (f : FuncState) (limit x y : ℕ) (marks : List Bool) (s : Step) → next_in f limit x ≡ Some y → get_or marks y false ≡ true → step_of f (local x) ≡ Some s → IsMet f marks s.base
met_next f limit x y marks s e m is =
    let t = next_step f limit x y (step_of f (local x)) e in
    let same : Some t.0 ≡ Some s = sym t.1 ∙ is in
    let one : t.0 ≡ s = cc in
    inl (y, ap (λ (q : Step). q.base) (sym one) ∙ t.2, m)

out_of_met : (f : FuncState) (l : ℕ) (marks : List Bool) → get_or marks l false ≡ false → IsRing f (local l) → IsMet f marks (local l) → ⊥
out_of_met f l marks no_mark ring (inl h) =
    let same : local l ≡ local h.0 = h.1 in
    let one : l ≡ h.0 = ap root_number same in
    both_ways (get_or marks l false) no_mark (ap (λ k. get_or marks k false) one ∙ h.2)
out_of_met f l marks no_mark ring (inr none) = let h = ring.1 in absurd (let both : Some h.0 ≡ None = sym h.1 ∙ none in cc)

-- the walk ended at a local without a next one
pub ends_without : (f : FuncState) (limit l at : ℕ) (marks : List Bool) → IsBeyond f limit → IsTrail f limit l at marks → next_in f limit at ≡ None → IsRing f (local l) → ⊥
ends_without f limit l at marks beyond t e ring =
    no_ring f (IsMet f marks) (local l) closed (out_of_met f l marks t.unmarked ring) ring where
      from_local : (x : ℕ) (s : Step) → (x ≡ l) ⊎ (get_or marks x false ≡ true) → step_of f (local x) ≡ Some s → IsMet f marks s.base
      from_local x s h is =
          ⊎_elim
          (λ (here : x ≡ at). inr (no_next f limit beyond (step_of f (local x)) (ap (next_in f limit) here ∙ e) s is))
          (λ (r : (y : ℕ) × (next_in f limit x ≡ Some y) × (get_or marks y false ≡ true)). met_next f limit x r.0 marks s r.1 r.2 is)
          (t.closed x h)

      closed : (q : Root) (s : Step) → (q ≡ local l) ⊎ IsMet f marks q → step_of f q ≡ Some s → IsMet f marks s.base
      closed q s (inl is) e' = from_local l s (inl refl) (sym (ap (step_of f) is) ∙ e')
      closed q s (inr (inl h)) e' = from_local h.0 s (inr h.2) (sym (ap (step_of f) h.1) ∙ e')
      closed q s (inr (inr none)) e' = absurd (let both : None ≡ Some s = sym none ∙ e' in cc)

-- the walk came to a local that it met before, and not to its start
pub ends_met : (f : FuncState) (limit l at next : ℕ) (marks : List Bool) → IsTrail f limit l at marks → next_in f limit at ≡ Some next → get_or marks next false ≡ true → IsRing f (local l) → ⊥
ends_met f limit l at next marks t e m ring =
    no_ring f (IsMet f marks) (local l) closed (out_of_met f l marks t.unmarked ring) ring where
      from_local : (x : ℕ) (s : Step) → (x ≡ l) ⊎ (get_or marks x false ≡ true) → step_of f (local x) ≡ Some s → IsMet f marks s.base
      from_local x s h is =
          ⊎_elim
          (λ (here : x ≡ at). met_next f limit x next marks s (ap (next_in f limit) here ∙ e) m is)
          (λ (r : (y : ℕ) × (next_in f limit x ≡ Some y) × (get_or marks y false ≡ true)). met_next f limit x r.0 marks s r.1 r.2 is)
          (t.closed x h)

      closed : (q : Root) (s : Step) → (q ≡ local l) ⊎ IsMet f marks q → step_of f q ≡ Some s → IsMet f marks s.base
      closed q s (inl is) e' = from_local l s (inl refl) (sym (ap (step_of f) is) ∙ e')
      closed q s (inr (inl h)) e' = from_local h.0 s (inr h.2) (sym (ap (step_of f) h.1) ∙ e')
      closed q s (inr (inr none)) e' = absurd (let both : None ≡ Some s = sym none ∙ e' in cc)

-- the walk came back to its start
pub ends_back : (f : FuncState) (limit l at next : ℕ) (marks : List Bool) → IsTrail f limit l at marks → next_in f limit at ≡ Some next → next ≡ l → IsRing f (local l)
ends_back f limit l at next marks t e is =
    let s = next_step f limit at next (step_of f (local at)) e in
    (t.from.0, subst (LeadsBack f (suc t.from.0) (local l)) (s.2 ∙ ap local is) (leads_more f t.from.0 (local l) (local at) s.0 t.from.1 s.1))
