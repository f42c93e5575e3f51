-- One more block is entered.
use Rattle.std.proofs.Common.{true, false, ◌≡◌, ◌<◌, ◌≤◌, ◌⊎◌, ◌==◌, inl, inr, ℕ, zero, suc, ◌+◌, List, [], ◌∷◌, length, get_or, set, Option, Some, None, refl, ap, sym, ◌∙◌, subst, arith, ⊎_elim, get_or-set_same, get_or-set_other, length-set}
use Rattle.std.specs.Prelude.{slice_get, is_some, Contains}
use Rattle.std.specs.List.{IsDistinct}
use Rattle.std.specs.Bool.{nat_eq}
use Rattle.std.proofs.Math.ListN.{replicate}
use Rattle.std.proofs.lemmas.Bool.{cases_eq, both_ways}
use Rattle.std.proofs.lemmas.Bool.Decides.{nat_tests}
use Rattle.std.proofs.lemmas.Map.Steps.{length-le_from_distinct_below}
use Rattle.std.proofs.lemmas.Map.Views.{Contains-from_any}
use Rattle.ms_paths.specs.Flow.{Block as Run, IsReached, IsClosed}
use Rattle.ms_ir.specs.declared.names.BlockNo.{BlockNo}
use Rattle.ms_flow.specs.declared.sources.Source.{Source}
use Rattle.ms_flow.specs.Flow.{sources_of, order_of, walked}
use Rattle.ms_form.specs.declared.access.Access.TheVariants.{Entry}
use Rattle.ms_form.specs.declared.access.User.TheVariants.{Inst, Operand, Entering}
use Rattle.ms_form.specs.Form.{FormState, after_last}
use Rattle.ms_build.specs.Accesses.{has_phi, enters_at, operand_at, defining_at, entering_at, leaving_at}
use Rattle.ms_build.specs.Entering.{IsGivenPhi, IsGivenOne, IsEntered, IsOrdered, IsBlank, IsPast, AreEntered}

pub reached_below : (g : List Run) → IsClosed g → (b : ℕ) → IsReached g b → b < length g
reached_below g closed b ([], path) = rw path closed.has_entry
reached_below g closed b ((a ∷ p), path) = closed.edges_in a b path.0

pub order_below : (g : List Run) → IsClosed g → IsDistinct nat_eq (walked g).left → ((b : ℕ) → Contains (walked g).left b → IsReached g b) → length (walked g).left ≤ length g
order_below g closed once listed =
    length-le_from_distinct_below (walked g).left (length g) once (λ q h. reached_below g closed q (listed q (Contains-from_any same q (walked g).left h)))
  where
    same : (x y : ℕ) → nat_eq x y ≡ true → x ≡ y
    same x y t = grind (arith, nat_tests)

pub none_yet : (n k c : ℕ) → get_or (replicate {A = Option ℕ} n None) k None ≡ Some c → ⊥
none_yet zero k c e = cc
none_yet (suc n) zero c e = cc
none_yet (suc n) (suc k) c e = none_yet n k c e

-- the first blocks stand at their places
pub record IsOrderedBelow (g : List Run) (n : ℕ) (list : List (Option ℕ)) : Type 0 where
  pub size : length list ≡ length g
  pub right : (k c : ℕ) → get_or list k None ≡ Some c → order_of g c ≡ Some k
  pub all : (k c : ℕ) → c < n → order_of g c ≡ Some k → get_or list k None ≡ Some c

abbrev pub OnePlace : List Run → Type 0
OnePlace g = (a b place : ℕ) → order_of g a ≡ Some place → order_of g b ≡ Some place → a ≡ b

pub ordered_next : (g : List Run) (b place : ℕ) (list : List (Option ℕ)) → OnePlace g → IsOrderedBelow g b list → order_of g b ≡ Some place → place < length list → IsOrderedBelow g (b + 1) (set list place (Some b))
ordered_next g b place list one h is lt = record {
  size = length-set list place (Some b) ∙ h.size;
  right = λ k c e.
      ⊎_elim
      (λ (s : k ≡ place).
      let here : Some b ≡ Some c = sym (get_or-set_same list place (Some b) None lt) ∙ subst (λ (n : ℕ). get_or (set list place (Some b)) n None ≡ Some c) s e in
      let same : b ≡ c = cc in
      subst (λ (n : ℕ). order_of g n ≡ Some k) same (is ∙ ap Some (sym s)))
      (λ (n : k ≡ place → ⊥). h.right k c (sym (get_or-set_other list place k (Some b) None n) ∙ e))
      (cases_eq k place);
  all = λ k c below e.
      ⊎_elim
      (λ (s : k ≡ place).
      let same : b ≡ c = one b c place is (e ∙ ap Some s) in
      subst (λ (n : ℕ). get_or (set list place (Some b)) n None ≡ Some c) (sym s) (get_or-set_same list place (Some b) None lt ∙ ap Some same))
      (λ (n : k ≡ place → ⊥).
      ⊎_elim
      (λ (i : c ≡ b). absurd (n (let both : Some k ≡ Some place = sym e ∙ subst (λ (x : ℕ). order_of g x ≡ Some place) (sym i) is in cc)))
      (λ (o : c ≡ b → ⊥). get_or-set_other list place k (Some b) None n ∙ h.all k c (omega arith) e)
      (cases_eq c b))
      (cases_eq k place);
}

pub ordered_skip : (g : List Run) (b : ℕ) (list : List (Option ℕ)) → IsOrderedBelow g b list → order_of g b ≡ None → IsOrderedBelow g (b + 1) list
ordered_skip g b list h none = record {
  size = h.size;
  right = h.right;
  all = λ k c below e.
      ⊎_elim
      (λ (i : c ≡ b). let both : None ≡ Some k = sym none ∙ subst (λ (x : ℕ). order_of g x ≡ Some k) i e in cc)
      (λ (o : c ≡ b → ⊥). h.all k c (omega arith) e)
      (cases_eq c b);
}

pub ordered_all : (g : List Run) (n : ℕ) (list : List (Option ℕ)) → IsClosed g → ((b : ℕ) → is_some (order_of g b) ≡ true → IsReached g b) → IsOrderedBelow g n list → length g ≤ n → IsOrdered g list
ordered_all g n list closed reached h end k b = (h.right k b, λ e. h.all k b (let lt = reached_below g closed b (reached b (rw e refl)) in omega arith) e)

-- The entry of no block but b has changed.
record SameBut (b : ℕ) (f h : FormState) : Type 0 where
  phis : (x : ℕ) → (x ≡ b → ⊥) → has_phi h x ≡ has_phi f x
  enters : (x : ℕ) → (x ≡ b → ⊥) → enters_at h x ≡ enters_at f x
  operands : (x slot : ℕ) → operand_at h x slot ≡ operand_at f x slot
  defs : (i : ℕ) → defining_at h i ≡ defining_at f i
  lasts : h.lasts ≡ f.lasts

entering_other : (b : ℕ) (f h : FormState) → SameBut b f h → (x : ℕ) → (x ≡ b → ⊥) → entering_at h x ≡ entering_at f x
entering_other b f h s x n = rw (s.phis x n, s.enters x n) refl

leaving_other : (b : ℕ) (f h : FormState) → SameBut b f h → (x : ℕ) → (x ≡ b → ⊥) → leaving_at h x ≡ leaving_at f x
leaving_other b f h s x n = rw s.lasts (ap (after_last (get_or f.lasts x None)) (entering_other b f h s x n))

-- how b itself is entered
record IsNew (g : List Run) (b : ℕ) (f h : FormState) : Type 0 where
  entry : 0 ≡ b → has_phi h b ≡ false → enters_at h b ≡ Some Entry
  filled : is_some (entering_at h b) ≡ true
  enters : (slot : ℕ) (e : Source) → has_phi h b ≡ false → slice_get (sources_of g b) slot ≡ Some e → (is_some (entering_at f e.from) ≡ true) × (enters_at h b ≡ leaving_at f e.from)
  with_phi : has_phi h b ≡ true → enters_at h b ≡ None

past_next : (g : List Run) (k b x : ℕ) → OnePlace g → order_of g b ≡ Some k → IsPast g (k + 1) x → (x ≡ b) ⊎ IsPast g k x
past_next g k b x one is p =
    ⊎_elim
    (λ (s : p.place ≡ k). inl (one x b k (p.placed ∙ ap Some s) is))
    (λ (n : p.place ≡ k → ⊥). inr (record { place = p.place; placed = p.placed; below = (let lt = p.below in omega arith) }))
    (cases_eq p.place k)

past_more : (g : List Run) (k x : ℕ) → IsPast g k x → IsPast g (k + 1) x
past_more g k x p = record { place = p.place; placed = p.placed; below = (let lt = p.below in omega arith) }

not_past : (g : List Run) (k b : ℕ) → order_of g b ≡ Some k → IsPast g k b → ⊥
not_past g k b is p = let both : Some k ≡ Some p.place = sym is ∙ p.placed in let same : k ≡ p.place = cc in let lt = p.below in omega arith

entered_more : (g : List Run) (k b : ℕ) (f h : FormState) → OnePlace g → order_of g b ≡ Some k → AreEntered g k f → SameBut b f h → IsNew g b f h → AreEntered g (k + 1) h
entered_more g k b f h one is r same new = record {
  entry = λ p t.
      ⊎_elim
      (λ (i : 0 ≡ b). subst (λ (n : ℕ). enters_at h n ≡ Some Entry) (sym i) (new.entry i (subst (λ (n : ℕ). has_phi h n ≡ false) i t)))
      (λ (q : IsPast g k 0). let n = differs 0 q in same.enters 0 n ∙ r.entry q (sym (same.phis 0 n) ∙ t))
      (past_next g k b 0 one is p);
  filled = λ x p.
      ⊎_elim
      (λ (i : x ≡ b). subst (λ (n : ℕ). is_some (entering_at h n) ≡ true) (sym i) new.filled)
      (λ (q : IsPast g k x). ap is_some (entering_other b f h same x (differs x q)) ∙ r.filled x q)
      (past_next g k b x one is p);
  enters = λ x slot e p t found.
      ⊎_elim
      (λ (i : x ≡ b).
      let from' = new.enters slot e (subst (λ (n : ℕ). has_phi h n ≡ false) i t) (subst (λ (n : ℕ). slice_get (sources_of g n) slot ≡ Some e) i found) in
      let n : e.from ≡ b → ⊥ = unfilled e.from from'.0 in
      (ap is_some (entering_other b f h same e.from n) ∙ from'.0, subst (λ (m : ℕ). enters_at h m ≡ leaving_at h e.from) (sym i) (from'.1 ∙ sym (leaving_other b f h same e.from n))))
      (λ (q : IsPast g k x).
      let m = differs x q in
      let from' = r.enters x slot e q (sym (same.phis x m) ∙ t) found in
      let n : e.from ≡ b → ⊥ = unfilled e.from from'.0 in
      (ap is_some (entering_other b f h same e.from n) ∙ from'.0, same.enters x m ∙ from'.1 ∙ sym (leaving_other b f h same e.from n)))
      (past_next g k b x one is p);
  later = λ x none.
      let n : x ≡ b → ⊥ = λ i. none (record { place = k; placed = subst (λ (m : ℕ). order_of g m ≡ Some k) (sym i) is; below = omega arith }) in
      let was = r.later x (λ q. none (past_more g k x q)) in
      (same.phis x n ∙ was.0, same.enters x n ∙ was.1);
  with_phi = λ x t.
      ⊎_elim
      (λ (i : x ≡ b). subst (λ (n : ℕ). enters_at h n ≡ None) (sym i) (new.with_phi (subst (λ (n : ℕ). has_phi h n ≡ true) i t)))
      (λ (n : x ≡ b → ⊥). same.enters x n ∙ r.with_phi x (sym (same.phis x n) ∙ t))
      (cases_eq x b);
  operands = λ x slot. same.operands x slot ∙ r.operands x slot;
  defs = λ i. same.defs i ∙ r.defs i;
}
  where
    differs : (x : ℕ) → IsPast g k x → x ≡ b → ⊥
    differs x q i = not_past g k b is (subst (IsPast g k) i q)

    unfilled : (x : ℕ) → is_some (entering_at f x) ≡ true → x ≡ b → ⊥
    unfilled x t i =
        let was = r.later b (not_past g k b is) in
        let none : entering_at f b ≡ None = rw was.0 was.1 in
        let some : is_some (entering_at f b) ≡ true = subst (λ (n : ℕ). is_some (entering_at f n) ≡ true) i t in
        let no : false ≡ true = rw none at some in
        cc

pub enter_next : (g : List Run) (k : ℕ) (b : BlockNo) (f h : FormState) → OnePlace g → order_of g b.0 ≡ Some k → b.0 < length f.phis → AreEntered g k f → IsEntered g b f h → AreEntered g (k + 1) h
enter_next g k b f h one is lt r given = ⊎_elim with_phi with_one given
  where
    was : (has_phi f b.0 ≡ false) × (enters_at f b.0 ≡ None)
    was = r.later b.0 (not_past g k b.0 is)

    with_phi : IsGivenPhi g b f h → AreEntered g (k + 1) h
    with_phi p =
        let has : has_phi h b.0 ≡ true = rw p.phi (get_or-set_same f.phis b.0 true false lt) in
        entered_more g k b.0 f h one is r
        (record {
          phis = λ x n. rw p.phi (get_or-set_other f.phis b.0 x true false n);
          enters = λ x n. rw p.phi refl;
          operands = λ x slot. rw p.phi refl;
          defs = λ i. rw p.phi refl;
          lasts = rw p.phi refl;
        })
        (record {
          entry = λ i t. absurd (both_ways (has_phi h b.0) t has);
          filled = rw has refl;
          enters = λ slot e t found. absurd (both_ways (has_phi h b.0) t has);
          with_phi = λ t. rw p.phi was.1;
        })

    with_one : IsGivenOne g b f h → AreEntered g (k + 1) h
    with_one o =
        let none : has_phi h b.0 ≡ false = rw o.changed.phis was.0 in
        let yes' : (b.0 == b.0) ≡ true = grind (arith, nat_tests) in
        let now : enters_at h b.0 ≡ Some o.access = o.changed.entries (Entering b) ∙ (rw yes' refl) in
        entered_more g k b.0 f h one is r
        (record {
          phis = λ x n. rw o.changed.phis refl;
          enters = λ x n. o.changed.entries (Entering (record { 0 = x })) ∙ (let no' : (b.0 == x) ≡ false = grind (arith, nat_tests) in rw no' refl);
          operands = λ x slot. o.changed.entries (Operand (record { 0 = x }) slot);
          defs = λ i. o.changed.entries (Inst (record { 0 = i }));
          lasts = o.changed.lasts;
        })
        (record {
          entry = λ i t. now ∙ ap Some (o.common.0 (sym i));
          filled = rw (none, now) refl;
          enters = λ slot e t found. let l = o.common.1 slot e found in (rw l.entered refl, now ∙ sym l.leaves);
          with_phi = λ t. absurd (both_ways (has_phi h b.0) none t);
        })

pub enter_none : (g : List Run) (k : ℕ) (f : FormState) → ((b : ℕ) → order_of g b ≡ Some k → ⊥) → AreEntered g k f → AreEntered g (k + 1) f
enter_none g k f none r = record {
  entry = λ p t. r.entry (past 0 p) t;
  filled = λ x p. r.filled x (past x p);
  enters = λ x slot e p t found. r.enters x slot e (past x p) t found;
  later = λ x n. r.later x (λ q. n (past_more g k x q));
  with_phi = r.with_phi;
  operands = r.operands;
  defs = r.defs;
}
  where
    past : (x : ℕ) → IsPast g (k + 1) x → IsPast g k x
    past x p =
        ⊎_elim (λ (s : p.place ≡ k). absurd (none x (p.placed ∙ ap Some s))) (λ (n : p.place ≡ k → ⊥). record { place = p.place; placed = p.placed; below = (let lt = p.below in omega arith) }) (cases_eq p.place k)

pub enter_begun : (g : List Run) (f : FormState) → IsBlank f → AreEntered g 0 f
enter_begun g f blank = record {
  entry = λ p t. absurd (let lt = p.below in omega arith);
  filled = λ x p. absurd (let lt = p.below in omega arith);
  enters = λ x slot e p t found. absurd (let lt = p.below in omega arith);
  later = λ x n. (blank.phis x, blank.enters x);
  with_phi = λ x t. blank.enters x;
  operands = blank.operands;
  defs = blank.defs;
}

-- what entering a block leaves as it is
pub record SameSizes (f h : FormState) : Type 0 where
  pub lasts : h.lasts ≡ f.lasts
  pub numbers : length h.defs ≡ length f.defs
  pub blocks : length h.phis ≡ length f.phis

pub entered_rest : (g : List Run) (b : BlockNo) (f h : FormState) → IsEntered g b f h → SameSizes f h
entered_rest g b f h given =
    ⊎_elim
    (λ (p : IsGivenPhi g b f h). record { lasts = rw p.phi refl; numbers = rw p.phi refl; blocks = rw p.phi (length-set f.phis b.0 true) })
    (λ (o : IsGivenOne g b f h). record { lasts = o.changed.lasts; numbers = o.changed.numbers; blocks = ap length o.changed.phis })
    given
