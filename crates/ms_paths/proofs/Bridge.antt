-- From last events to the blocks where they lie, and back.
use Rattle.std.proofs.Common.{◌≡◌, ℕ, suc, Bool, true, false, cond, ◌||◌, List, [], ◌∷◌, Option, Some, None, refl, sym, ap, ◌∙◌, subst, ⊎_elim, arith}
use Rattle.std.specs.Prelude.{Contains}
use Rattle.std.proofs.lemmas.Bool.{cases_Bool, both_ways, or_left, or_right, or_cases, or_parts, or_from}
use Rattle.ms_paths.specs.Flow.{Block, block_at, Event, Of, Phi, Entry, after, last_event, Suffices, NeedsPhi, StandsOnce}
use Rattle.ms_paths.proofs.First.{first, first_at, first_past}
use Rattle.ms_paths.proofs.Core.{stop, Enough, Needed}

abbrev pub any_of : (ℕ → Bool) → List ℕ → Bool
any_of E [] = false
any_of E (i ∷ is) = E i || any_of E is

-- the block runs an instruction of E
abbrev pub has : List Block → (ℕ → Bool) → ℕ → Bool
has g E b = any_of E (block_at g b).events

pub Contains-here : (x : ℕ) (xs : List ℕ) → Contains (x ∷ xs) x
Contains-here x xs = (0, omega arith, refl)

pub Contains-there : (x y : ℕ) (xs : List ℕ) → Contains xs y → Contains (x ∷ xs) y
Contains-there x y xs h = (suc h.0, omega arith, h.2)

-- which instruction is the last
pub after_some : (E : ℕ → Bool) (is : List ℕ) → any_of E is ≡ true → (i : ℕ) × Contains is i × (E i ≡ true) × ((e : Event) → after E is e ≡ Of i)
after_some E [] h = absurd (both_ways false refl h)
after_some E (j ∷ is) h =
    ⊎_elim
    (λ (t : any_of E is ≡ true). let r = after_some E is t in
    (r.0, Contains-there j r.0 is r.1, r.2, λ e. r.3 (cond (E j) (Of j) e)))
    (λ (f : any_of E is ≡ false).
    ⊎_elim
    (λ (t : E j ≡ true). (j, Contains-here j is, t, λ e. rw t (after_none E is f (Of j))))
    (λ (n : any_of E is ≡ true). absurd (both_ways (any_of E is) f n))
    (or_cases (E j) (any_of E is) h))
    (cases_Bool (any_of E is))
  where
    after_none : (E : ℕ → Bool) (is : List ℕ) → any_of E is ≡ false → (e : Event) → after E is e ≡ e
    after_none E [] f e = refl
    after_none E (j ∷ is) f e = let n = or_parts (E j) (any_of E is) f in rw n.0 (after_none E is n.1 e)

pub after_none : (E : ℕ → Bool) (is : List ℕ) → any_of E is ≡ false → (e : Event) → after E is e ≡ e
after_none E [] f e = refl
after_none E (j ∷ is) f e = let n = or_parts (E j) (any_of E is) f in rw n.0 (after_none E is n.1 e)

-- the last event that a block leaves
abbrev pub named : List Block → (ℕ → Bool) → Option ℕ → Event
named g E None = Entry
named g E (Some b) = after E (block_at g b).events (Phi b)

pub last_named : (g : List Block) (E S : ℕ → Bool) (p : List ℕ) → last_event g E S p ≡ named g E (first (stop (has g E) S) p)
last_named g E S [] = refl
last_named g E S (b ∷ p) =
    ⊎_elim
    (λ (t : S b ≡ true).
    (let l : last_event g E S (b ∷ p) ≡ after E (block_at g b).events (Phi b) = rw t refl in l)
    ∙ sym (ap (named g E) (first_at (stop (has g E) S) b p (or_right (has g E b) (S b) t))))
    (λ (f : S b ≡ false).
    let l : last_event g E S (b ∷ p) ≡ after E (block_at g b).events (last_event g E S p) = rw f refl in
    ⊎_elim
    (λ (t : has g E b ≡ true).
    let a = after_some E (block_at g b).events t in
    l ∙ a.3 (last_event g E S p) ∙ sym (a.3 (Phi b))
    ∙ sym (ap (named g E) (first_at (stop (has g E) S) b p (or_left (has g E b) (S b) t))))
    (λ (n : has g E b ≡ false).
    l ∙ after_none E (block_at g b).events n (last_event g E S p) ∙ last_named g E S p
    ∙ sym (ap (named g E) (first_past (stop (has g E) S) b p (or_from (has g E b) (S b) n f))))
    (cases_Bool (has g E b)))
    (cases_Bool (S b))

-- no two blocks leave one last event
pub named_apart : (g : List Block) (E : ℕ → Bool) → StandsOnce g → (o r : Option ℕ) → named g E o ≡ named g E r → o ≡ r
named_apart g E once None None e = refl
named_apart g E once None (Some b) e =
    ⊎_elim (λ (t : has g E b ≡ true). let a = after_some E (block_at g b).events t in let s : Entry ≡ Of a.0 = e ∙ a.3 (Phi b) in cc)
    (λ (n : has g E b ≡ false). let s : Entry ≡ Phi b = e ∙ after_none E (block_at g b).events n (Phi b) in cc) (cases_Bool (has g E b))
named_apart g E once (Some b) None e =
    ⊎_elim (λ (t : has g E b ≡ true). let a = after_some E (block_at g b).events t in let s : Of a.0 ≡ Entry = sym (a.3 (Phi b)) ∙ e in cc)
    (λ (n : has g E b ≡ false). let s : Phi b ≡ Entry = sym (after_none E (block_at g b).events n (Phi b)) ∙ e in cc) (cases_Bool (has g E b))
named_apart g E once (Some b) (Some c) e =
    ⊎_elim
    (λ (t : has g E b ≡ true).
    let a = after_some E (block_at g b).events t in
    ⊎_elim
    (λ (u : has g E c ≡ true).
    let d = after_some E (block_at g c).events u in
    let s : Of a.0 ≡ Of d.0 = sym (a.3 (Phi b)) ∙ e ∙ d.3 (Phi c) in
    let i : d.0 ≡ a.0 = cc in
    ap Some (once b c a.0 a.1 (subst (Contains (block_at g c).events) i d.1)))
    (λ (n : has g E c ≡ false).
    let s : Of a.0 ≡ Phi c = sym (a.3 (Phi b)) ∙ e ∙ after_none E (block_at g c).events n (Phi c) in cc)
    (cases_Bool (has g E c)))
    (λ (m : has g E b ≡ false).
    let is_phi = after_none E (block_at g b).events m (Phi b) in
    ⊎_elim
    (λ (u : has g E c ≡ true).
    let d = after_some E (block_at g c).events u in
    let s : Phi b ≡ Of d.0 = sym is_phi ∙ e ∙ d.3 (Phi c) in cc)
    (λ (n : has g E c ≡ false).
    let s : Phi b ≡ Phi c = sym is_phi ∙ e ∙ after_none E (block_at g c).events n (Phi c) in cc)
    (cases_Bool (has g E c)))
    (cases_Bool (has g E b))

pub to_core : (g : List Block) (E S : ℕ → Bool) → StandsOnce g → Suffices g E S → Enough g (has g E) S
to_core g E S once s = record {
  same = λ b p q hp hq f.
      named_apart g E once (first (stop (has g E) S) p) (first (stop (has g E) S) q)
      (sym (last_named g E S p) ∙ s.one_event b p q hp hq f ∙ last_named g E S q);
}

pub from_core : (g : List Block) (E S : ℕ → Bool) → Enough g (has g E) S → Suffices g E S
from_core g E S s = record {
  one_event = λ b p q hp hq f.
      last_named g E S p ∙ ap (named g E) (s.same b p q hp hq f) ∙ sym (last_named g E S q);
}

pub needed_to_core : (g : List Block) (E : ℕ → Bool) (b : ℕ) → NeedsPhi g E b → Needed g (has g E) b
needed_to_core g E b h = λ S s. h S (from_core g E S s)

pub needed_from_core : (g : List Block) (E : ℕ → Bool) (b : ℕ) → StandsOnce g → Needed g (has g E) b → NeedsPhi g E b
needed_from_core g E b once h = λ S s. h S (to_core g E S once s)

pub has_fewer : (g : List Block) (D E : ℕ → Bool) → ((i : ℕ) → D i ≡ true → E i ≡ true) → (b : ℕ) → has g D b ≡ true → has g E b ≡ true
has_fewer g D E sub b h = go (block_at g b).events h
  where
    go : (is : List ℕ) → any_of D is ≡ true → any_of E is ≡ true
    go [] h = h
    go (i ∷ is) h = ⊎_elim (λ (t : D i ≡ true). or_left (E i) (any_of E is) (sub i t)) (λ (t : any_of D is ≡ true). or_right (E i) (any_of E is) (go is t)) (or_cases (D i) (any_of D is) h)
