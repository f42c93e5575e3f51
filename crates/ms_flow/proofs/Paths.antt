-- What walks tell of paths.
use Rattle.std.proofs.Common.{◌≡◌, ℕ, zero, suc, ◌+◌, ◌<◌, Bool, true, false, ◌⊎◌, ◌↔◌, List, [], ◌∷◌, length, get_or, set, replicate, refl, sym, ap, ◌∙◌, subst, inl, inr, ⊎_elim, arith, length-set, get_or-set_same, get_or-set_other}
use Rattle.std.proofs.lemmas.List.{length-replicate}
use Rattle.std.specs.Prelude.{Contains}
use Rattle.std.proofs.lemmas.Bool.{cases_Bool, cases_eq, both_ways}
use Rattle.ms_paths.specs.Flow.{Block as Run, HasEdge, IsPath, IsReached, IsOnEveryPath, IsWalk, IsClosed}
use Rattle.ms_flow.specs.Table.{next_of}
use Rattle.ms_flow.specs.Walk.{WalkState, is_seen, without, beyond}
use Rattle.ms_flow.specs.Flow.{walked, has_reached}
use Rattle.ms_flow.proofs.Members.{here, here_is, there, in_none, in_cons, in_or_not}
use Rattle.ms_flow.proofs.Walks.{marked, Leads, Comes, IsDone, AreInside, walk_done}

pub inside : (g : List Run) → IsClosed g → AreInside g
inside g closed = record { edges_in = closed.edges_in }

pub none_marked : (n b : ℕ) → marked (replicate n false) b ≡ false
none_marked zero b = refl
none_marked (suc n) zero = refl
none_marked (suc n) (suc b) = none_marked n b

pub leads_path : (g : List Run) (A : List Bool) (p : List ℕ) (b : ℕ) → Leads g (0 ∷ []) A p b → IsPath g b p
leads_path g A [] b h = ⊎_elim (λ (e : 0 ≡ b). sym e) (λ (i : Contains [] b). absurd (in_none b i)) (in_cons 0 [] b h)
leads_path g A (a ∷ p) b h = (h.0, leads_path g A p a h.2)

-- a path over blocks that are not marked
path_leads : (g : List Run) (A : List Bool) (p : List ℕ) (b : ℕ) → ((x : ℕ) → Contains p x → marked A x ≡ false) → IsPath g b p → Leads g (0 ∷ []) A p b
path_leads g A [] b free h = here_is 0 [] b (sym h)
path_leads g A (a ∷ p) b free h = (h.0, free a (here a p), path_leads g A p a (λ x i. free x (there a p x i)) h.1)

entry_within : (g : List Run) → IsClosed g → (b : ℕ) → Contains (0 ∷ []) b → b < length g
entry_within g closed b h = ⊎_elim (λ (e : 0 ≡ b). let first = closed.has_entry in omega arith) (λ (i : Contains [] b). absurd (in_none b i)) (in_cons 0 [] b h)

pub entry_done : (g : List Run) → IsClosed g → IsDone g (0 ∷ []) (replicate (length g) false) (walked g)
entry_done g closed = walk_done g (0 ∷ []) (replicate (length g) false) (inside g closed) (length-replicate (length g) false) (entry_within g closed)

-- the walk leaves exactly the reached blocks
pub reached_left : (g : List Run) → IsClosed g → (b : ℕ) → Contains (walked g).left b ↔ IsReached g b
reached_left g closed b = (
  λ l. let c = (entry_done g closed).comes b l in (c.0, leads_path g (replicate (length g) false) c.0 b c.1.1),
  λ r. (entry_done g closed).all b r.0 (none_marked (length g) b, path_leads g (replicate (length g) false) r.0 b (λ x i. none_marked (length g) x) r.1),
)

pub reached_told : (g : List Run) → IsClosed g → (b : ℕ) → (has_reached g b ≡ true) ↔ IsReached g b
reached_told g closed b = (
  λ t. ⊎_elim (λ (m : marked (replicate (length g) false) b ≡ true). absurd (both_ways (marked (replicate (length g) false) b) (none_marked (length g) b) m))
      (λ (l : Contains (walked g).left b). (reached_left g closed b).0 l)
      ((entry_done g closed).seen b t),
  λ r. (entry_done g closed).left_seen b ((reached_left g closed b).1 r),
)

one_marked : (n h b : ℕ) → marked (set (replicate n false) h true) b ≡ true → b ≡ h
one_marked n h b m =
    ⊎_elim (λ (e : b ≡ h). e)
    (λ (n' : b ≡ h → ⊥). absurd (both_ways (marked (set (replicate n false) h true) b) (get_or-set_other (replicate n false) h b true false n' ∙ none_marked n b) m))
    (cases_eq b h)

others_free : (n h b : ℕ) → (b ≡ h → ⊥) → marked (set (replicate n false) h true) b ≡ false
others_free n h b ne = get_or-set_other (replicate n false) h b true false ne ∙ none_marked n b

marked_one : (n h : ℕ) → h < n → marked (set (replicate n false) h true) h ≡ true
marked_one n h lt = let size = length-replicate n false in get_or-set_same (replicate n false) h true false (omega arith)

without_done : (g : List Run) → IsClosed g → (h : ℕ) → IsDone g (0 ∷ []) (set (replicate (length g) false) h true) (without g h)
without_done g closed h = walk_done g (0 ∷ []) (set (replicate (length g) false) h true) (inside g closed) (length-set (replicate (length g) false) h true ∙ length-replicate (length g) false) (entry_within g closed)

avoids : (g : List Run) (from : List ℕ) (A : List Bool) (h : ℕ) → marked A h ≡ true → (p : List ℕ) (b : ℕ) → Comes g from A p b → Contains (b ∷ p) h → ⊥
avoids g from A h m [] b c i = ⊎_elim (λ (e : b ≡ h). both_ways (marked A b) c.0 (subst (λ x. marked A x ≡ true) (sym e) m)) (λ (j : Contains [] h). in_none h j) (in_cons b [] h i)
avoids g from A h m (a ∷ p) b c i = ⊎_elim (λ (e : b ≡ h). both_ways (marked A b) c.0 (subst (λ x. marked A x ≡ true) (sym e) m)) (λ (j : Contains (a ∷ p) h). avoids g from A h m p a (c.1.1, c.1.2) j) (in_cons b (a ∷ p) h i)

-- A block is cut off by h exactly where it is h, or the walk without h does not see it.
pub cut_told : (g : List Run) → IsClosed g → (h b : ℕ) → h < length g → ((h ≡ b) ⊎ (is_seen (without g h) b ≡ false)) ↔ IsOnEveryPath g h b
cut_told g closed h b lt = (cuts, cut)
  where
    A : List Bool
    A = set (replicate (length g) false) h true

    d : IsDone g (0 ∷ []) A (without g h)
    d = without_done g closed h

    cuts : (h ≡ b) ⊎ (is_seen (without g h) b ≡ false) → IsOnEveryPath g h b
    cuts s p path =
        ⊎_elim (λ (i : Contains (b ∷ p) h). i)
        (λ (n : Contains (b ∷ p) h → ⊥).
        let ne : b ≡ h → ⊥ = λ e. n (here_is b p h e) in
        let comes : Comes g (0 ∷ []) A p b = (others_free (length g) h b ne, path_leads g A p b (λ x i. others_free (length g) h x (λ e. n (there b p h (subst (λ y. Contains p y) e i)))) path) in
        absurd (⊎_elim (λ (e : h ≡ b). ne (sym e)) (λ (f : is_seen (without g h) b ≡ false). both_ways (is_seen (without g h) b) f (d.left_seen b (d.all b p comes))) s))
        (in_or_not (b ∷ p) h)

    cut : IsOnEveryPath g h b → (h ≡ b) ⊎ (is_seen (without g h) b ≡ false)
    cut every =
        ⊎_elim
        (λ (t : is_seen (without g h) b ≡ true). ⊎_elim
        (λ (m : marked A b ≡ true). inl (sym (one_marked (length g) h b m)))
        (λ (l : Contains (without g h).left b).
        let c = d.comes b l in
        absurd (avoids g (0 ∷ []) A h (marked_one (length g) h lt) c.0 b c.1 (every c.0 (leads_path g A c.0 b c.1.1))))
        (d.seen b t))
        (λ (f : is_seen (without g h) b ≡ false). inr f)
        (cases_Bool (is_seen (without g h) b))

-- a test by that walk
pub cut_by : (g : List Run) → IsClosed g → (h b : ℕ) → h < length g → (w : WalkState) → w ≡ without g h → (cut : Bool) →
    ((cut ≡ true) ↔ ((h ≡ b) ⊎ (is_seen w b ≡ false))) → (cut ≡ true) ↔ IsOnEveryPath g h b
cut_by g closed h b lt w is cut tells =
    let told = cut_told g closed h b lt in
    let same = subst (λ s. (cut ≡ true) ↔ ((h ≡ b) ⊎ (is_seen s b ≡ false))) is tells in
    (λ t. told.0 (same.0 t), λ every. same.1 (told.1 every))

beyond_done : (g : List Run) → IsClosed g → (b : ℕ) → IsDone g (next_of g b) (replicate (length g) false) (beyond g b)
beyond_done g closed b = walk_done g (next_of g b) (replicate (length g) false) (inside g closed) (length-replicate (length g) false) (closed.edges_in b)

leads_walk : (g : List Run) (A : List Bool) (a : ℕ) (p : List ℕ) (b : ℕ) → Leads g (next_of g a) A p b → (c : ℕ) × (w : List ℕ) × IsWalk g a b (c ∷ w)
leads_walk g A a [] b h = (a, [], (h, refl))
leads_walk g A a (d ∷ p) b h = let r = leads_walk g A a p d h.2 in (d, r.0 ∷ r.1, (h.0, r.2))

walk_leads : (g : List Run) (n a : ℕ) (w : List ℕ) (c b : ℕ) → IsWalk g a b (c ∷ w) → (p : List ℕ) × Leads g (next_of g a) (replicate n false) p b
walk_leads g n a [] c b h = ([], subst (λ x. HasEdge g x b) (sym h.1) h.0)
walk_leads g n a (d ∷ w) c b h = let r = walk_leads g n a w d c h.1 in (c ∷ r.0, (h.0, none_marked n c, r.1))

-- a block is seen beyond itself exactly where a walk leads back to it
pub cycle_told : (g : List Run) → IsClosed g → (b : ℕ) → (is_seen (beyond g b) b ≡ true) ↔ ((c : ℕ) × (w : List ℕ) × IsWalk g b b (c ∷ w))
cycle_told g closed b = (
  λ t. ⊎_elim (λ (m : marked (replicate (length g) false) b ≡ true). absurd (both_ways (marked (replicate (length g) false) b) (none_marked (length g) b) m))
      (λ (l : Contains (beyond g b).left b). let c = d.comes b l in leads_walk g (replicate (length g) false) b c.0 b c.1.1)
      (d.seen b t),
  λ r. let p = walk_leads g (length g) b r.1 r.0 b r.2 in d.left_seen b (d.all b p.0 (none_marked (length g) b, p.1)),
)
  where
    d : IsDone g (next_of g b) (replicate (length g) false) (beyond g b)
    d = beyond_done g closed b

-- what is told of the first blocks, and of one more
pub told_more : (P : ℕ → Type 0) (tests : List Bool) (n : ℕ) (test : Bool) → n < length tests → ((x : ℕ) → x < n → (get_or tests x false ≡ true) ↔ P x) → ((test ≡ true) ↔ P n) →
    (x : ℕ) → x < n + 1 → (get_or (set tests n test) x false ≡ true) ↔ P x
told_more P tests n test within before last x lt =
    ⊎_elim
    (λ (e : x ≡ n).
    let here : get_or (set tests n test) x false ≡ test = ap (λ k. get_or (set tests n test) k false) e ∙ get_or-set_same tests n test false within in
    (λ t. subst P (sym e) (last.0 (sym here ∙ t)), λ p. here ∙ last.1 (subst P e p)))
    (λ (n' : x ≡ n → ⊥).
    let there : get_or (set tests n test) x false ≡ get_or tests x false = get_or-set_other tests n x test false n' in
    let old = before x (omega arith) in
    (λ t. old.0 (sym there ∙ t), λ p. there ∙ old.1 p))
    (cases_eq x n)
