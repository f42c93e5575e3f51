-- How accesses are reached.
use Rattle.std.proofs.Common.{◌≡◌, ◌≢◌, ◌<◌, ℕ, zero, suc, ◌+◌, Bool, true, false, ◌&&◌, List, [], ◌∷◌, ◌++◌, length, get_or, set, replicate, Option, Some, None, refl, ap, sym, ◌∙◌, subst, arith, ⊎_elim, get_or-set_other, get_or-set_same, length-append}
use Rattle.std.specs.Prelude.{not, nat_lt, slice_get}
use Rattle.std.proofs.Math.ListN.{get_or-append, length-set}
use Rattle.std.proofs.Math.Seq.{get_or-append_seam}
use Rattle.std.proofs.lemmas.Bool.{cases_eq, cases_Bool}
use Rattle.std.proofs.lemmas.Bool.Decides.{nat_tests}
use Rattle.ms_ir.specs.declared.names.BlockNo.{BlockNo}
use Rattle.ms_paths.specs.Flow.{Block as Run}
use Rattle.ms_flow.specs.Flow.{sources_of}
use Rattle.ms_form.specs.declared.access.Access.{Access}
use Rattle.ms_form.specs.declared.access.Access.TheVariants.{Entry, Of, Phi}
use Rattle.ms_form.specs.Form.{FormState}
use Rattle.ms_climb.specs.declared.chains.Mark.{Mark}
use Rattle.ms_climb.specs.Chains.{ChainsState, stop_of, IsClimb}
use Rattle.ms_climb.specs.Walk.{WalkState, has_met, phi_at, no_phi, with_phi, with_met, Knows, Sees, unmet, brought_of, IsListed, IsWalked, IsGrown, IsStep, IsOpened, AreOpened}
use Rattle.ms_climb.proofs.ChainLemmas.{met_kept}

-- Growing.

pub knows_grown : (old new : WalkState) (a : Access) → IsGrown old new → Knows old a → Knows new a
knows_grown old new Entry g h = tt
knows_grown old new (Of i) g h = tt
knows_grown old new (Phi b) g h = λ lt. g.met b.0 (h (let size = g.blocks in omega arith))

pub sees_grown : (old new : WalkState) (a : Access) → IsGrown old new → Sees old a → Sees new a
sees_grown old new a g h = (met_kept old.chains new.chains a g.chains h.0, knows_grown old new a g h.1)

pub grown_none : (w : WalkState) → IsGrown w w
grown_none w = record { chains = record { size = refl; marks = λ i m e. e }; blocks = refl; met = λ b t. t; longer = omega arith; phis = λ k lt. refl }

pub grown_both : (u v w : WalkState) → IsGrown u v → IsGrown v w → IsGrown u w
grown_both u v w g h = record {
  chains = record { size = h.chains.size ∙ g.chains.size; marks = λ i m e. h.chains.marks i m (g.chains.marks i m e) };
  blocks = h.blocks ∙ g.blocks;
  met = λ b t. h.met b (g.met b t);
  longer = let x = g.longer in let y = h.longer in omega arith;
  phis = λ k lt. h.phis k (let x = g.longer in omega arith) ∙ g.phis k lt;
}

-- One access more.

last_or : (P : Access → Type 0) (xs : List Access) (y : Access) → ((c : ℕ) → P (get_or xs c Entry)) → P y → (c : ℕ) → P (get_or (xs ++ y ∷ []) c Entry)
last_or P [] y h p zero = p
last_or P [] y h p (suc c) = h c
last_or P (x ∷ xs) y h p zero = h 0
last_or P (x ∷ xs) y h p (suc c) = last_or P xs y (λ k. h (suc k)) p c

unmet_set : (bs : List Bool) (i : ℕ) → i < length bs → get_or bs i false ≡ false → 1 + unmet (set bs i true) ≡ unmet bs
unmet_set [] i lt e = absurd (omega arith)
unmet_set (true ∷ bs) zero lt e = cc
unmet_set (false ∷ bs) zero lt e = refl
unmet_set (true ∷ bs) (suc i) lt e = unmet_set bs i (omega arith) e
unmet_set (false ∷ bs) (suc i) lt e = let r = unmet_set bs i (omega arith) e in omega arith

-- with these chains
abbrev pub climbed_to : ChainsState → WalkState → WalkState
climbed_to ch w = record { chains = ch; met = w.met; phis = w.phis }

pub sees_start : (ch : ChainsState) (w : WalkState) (a stop : Access) → stop_of ch a ≡ stop → Knows w stop → Knows w a
sees_start ch w Entry stop e k = tt
sees_start ch w (Of i) stop e k = tt
sees_start ch w (Phi b) stop e k = subst (Knows w) (sym e) k

-- a state whose chains were climbed and whose list has grown
step_of : (f : FormState) (E : ℕ → Bool) (a stop : Access) (old new : WalkState) → IsWalked f E old → IsClimb f E a stop old.chains new.chains → IsGrown old new → Knows new stop
    → ((b : ℕ) → has_met new b ≡ true → IsListed new b) → ((k : ℕ) → k < length new.phis → (phi_at new k).0 < length new.met) → length new.phis + unmet new.met ≡ length new.met
    → IsStep f E a old new
step_of f E a stop old new w c g k listed below count = record {
  walked = record {
    climbed = c.climbed;
    stops = λ n. rw c.stops (last_or (Knows new) old.chains.stops stop (λ m. knows_grown old new (get_or old.chains.stops m Entry) g (w.stops m)) k n);
    listed = listed;
    below = below;
    count = count;
  };
  grown = g;
  sees = (c.met, sees_start new.chains new a stop c.leads k);
}

step_same : (f : FormState) (E : ℕ → Bool) (a stop : Access) (old : WalkState) (ch : ChainsState) → IsWalked f E old → IsClimb f E a stop old.chains ch → Knows old stop → IsStep f E a old (climbed_to ch old)
step_same f E a stop old ch w c k =
    let g : IsGrown old (climbed_to ch old) = record { chains = c.keeps; blocks = refl; met = λ b t. t; longer = omega arith; phis = λ j lt. refl } in
    step_of f E a stop old (climbed_to ch old) w c g (knows_grown old (climbed_to ch old) stop g k)
    (λ b t. let l = w.listed b t in record { place = l.place; below = l.below; at = l.at }) w.below w.count

-- a phi is met besides
abbrev pub phi_met : ChainsState → WalkState → BlockNo → WalkState
phi_met ch old b = with_phi b (climbed_to ch old)

step_more : (f : FormState) (E : ℕ → Bool) (a : Access) (b : BlockNo) (old : WalkState) (ch : ChainsState) → IsWalked f E old → IsClimb f E a (Phi b) old.chains ch → b.0 < length old.met → has_met old b.0 ≡ false
    → IsStep f E a old (with_phi b (climbed_to ch old))
step_more f E a b old ch w c lt o = step_of f E a (Phi b) old (phi_met ch old b) w c grown (λ l. here) listed below count
  where
    here : has_met (phi_met ch old b) b.0 ≡ true
    here = get_or-set_same old.met b.0 true false lt

    other : (x : ℕ) → x ≢ b.0 → has_met (phi_met ch old b) x ≡ has_met old x
    other x ne = get_or-set_other old.met b.0 x true false ne

    size : length (phi_met ch old b).met ≡ length old.met
    size = length-set old.met b.0 true

    more : length (phi_met ch old b).phis ≡ length old.phis + 1
    more = length-append old.phis (b ∷ [])

    grown : IsGrown old (phi_met ch old b)
    grown = record {
      chains = c.keeps;
      blocks = size;
      met = λ x t. ⊎_elim (λ (e : x ≡ b.0). subst (λ (n : ℕ). has_met (phi_met ch old b) n ≡ true) (sym e) here) (λ (ne : x ≡ b.0 → ⊥). other x ne ∙ t) (cases_eq x b.0);
      longer = omega (arith, more);
      phis = λ k l. get_or-append old.phis (b ∷ []) no_phi k l;
    }

    listed : (x : ℕ) → has_met (phi_met ch old b) x ≡ true → IsListed (phi_met ch old b) x
    listed x t =
        ⊎_elim
        (λ (e : x ≡ b.0). record { place = length old.phis; below = omega (arith, more); at = ap (λ (y : BlockNo). y.0) (get_or-append_seam old.phis b [] no_phi) ∙ sym e })
        (λ (ne : x ≡ b.0 → ⊥).
        let l = w.listed x (sym (other x ne) ∙ t) in
        let l-lt = l.below in
        record { place = l.place; below = omega (arith, more); at = ap (λ (y : BlockNo). y.0) (get_or-append old.phis (b ∷ []) no_phi l.place l-lt) ∙ l.at })
        (cases_eq x b.0)

    below : (k : ℕ) → k < length (phi_met ch old b).phis → (phi_at (phi_met ch old b) k).0 < length (phi_met ch old b).met
    below k l =
        ⊎_elim
        (λ (e : k ≡ length old.phis).
        let at : (phi_at (phi_met ch old b) k).0 ≡ b.0 = ap (λ (n : ℕ). (phi_at (phi_met ch old b) n).0) e ∙ ap (λ (y : BlockNo). y.0) (get_or-append_seam old.phis b [] no_phi) in
        omega (arith, size))
        (λ (ne : k ≡ length old.phis → ⊥).
        let k-lt : k < length old.phis = omega (arith, more) in
        let at : (phi_at (phi_met ch old b) k).0 ≡ (phi_at old k).0 = ap (λ (y : BlockNo). y.0) (get_or-append old.phis (b ∷ []) no_phi k k-lt) in
        let was = w.below k k-lt in
        omega (arith, size))
        (cases_eq k (length old.phis))

    count : length (phi_met ch old b).phis + unmet (phi_met ch old b).met ≡ length (phi_met ch old b).met
    count = let less = unmet_set old.met b.0 lt o in let was = w.count in omega (arith, more, size)

pub reached : (f : FormState) (E : ℕ → Bool) (a stop : Access) (old : WalkState) (ch : ChainsState) → IsWalked f E old → IsClimb f E a stop old.chains ch → IsStep f E a old (with_met stop (climbed_to ch old))
reached f E a Entry old ch w c = step_same f E a Entry old ch w c tt
reached f E a (Of i) old ch w c = step_same f E a (Of i) old ch w c tt
reached f E a (Phi b) old ch w c =
    ⊎_elim
    (λ (t : (nat_lt b.0 (length old.met) && not (has_met old b.0)) ≡ true).
    let lt : b.0 < length old.met = grind (arith, nat_tests) in
    let o : has_met old b.0 ≡ false = grind (arith, nat_tests) in
    rw t (step_more f E a b old ch w c lt o))
    (λ (o : (nat_lt b.0 (length old.met) && not (has_met old b.0)) ≡ false).
    let known : b.0 < length old.met → has_met old b.0 ≡ true = λ lt. grind (arith, nat_tests) in
    rw o (step_same f E a (Phi b) old ch w c known))
    (cases_Bool (nat_lt b.0 (length old.met) && not (has_met old b.0)))

-- The operands of one phi.

pub opened_none : (f : FormState) (E : ℕ → Bool) (b : BlockNo) (w : WalkState) → IsWalked f E w → IsOpened f E b 0 w w
opened_none f E b w h = record { walked = h; grown = grown_none w; sees = λ slot lt. absurd (omega arith) }

pub opened_next : (f : FormState) (E : ℕ → Bool) (b : BlockNo) (slot : ℕ) (old w new : WalkState) → IsOpened f E b slot old w → IsStep f E (brought_of f b.0 slot) w new → IsOpened f E b (slot + 1) old new
opened_next f E b slot old w new o s = record {
  walked = s.walked;
  grown = grown_both old w new o.grown s.grown;
  sees = λ k lt.
      ⊎_elim (λ (e : k ≡ slot). subst (λ (n : ℕ). Sees new (brought_of f b.0 n)) (sym e) s.sees)
      (λ (ne : k ≡ slot → ⊥). sees_grown w new (brought_of f b.0 k) s.grown (o.sees k (omega arith))) (cases_eq k slot);
}

-- All that is reached.

pub get_or_of : (xs : List BlockNo) (j : ℕ) (b : BlockNo) → slice_get xs j ≡ Some b → get_or xs j no_phi ≡ b
get_or_of [] j b e = cc
get_or_of (x ∷ xs) zero b e = cc
get_or_of (x ∷ xs) (suc j) b e = get_or_of xs j b e

pub collected_more : (g : List Run) (f : FormState) (E : ℕ → Bool) (n slots : ℕ) (b : BlockNo) (old new : WalkState) → IsOpened f E b slots old new → n < length old.phis → slice_get old.phis n ≡ Some b
    → slots ≡ length (sources_of g b.0) → AreOpened g f n old → AreOpened g f (n + 1) new
collected_more g f E n slots b old new o lt at count h k slot k-lt slot-lt =
    ⊎_elim
    (λ (e : k ≡ n).
    let here : phi_at new k ≡ b = ap (phi_at new) e ∙ o.grown.phis n lt ∙ get_or_of old.phis n b at in
    let slot-lt' : slot < length (sources_of g b.0) = subst (λ (x : BlockNo). slot < length (sources_of g x.0)) here slot-lt in
    subst (λ (x : BlockNo). Sees new (brought_of f x.0 slot)) (sym here) (o.sees slot (omega arith)))
    (λ (ne : k ≡ n → ⊥).
    let k-lt' : k < n = omega arith in
    let same : phi_at new k ≡ phi_at old k = o.grown.phis k (omega arith) in
    let slot-lt' : slot < length (sources_of g (phi_at old k).0) = subst (λ (x : BlockNo). slot < length (sources_of g x.0)) same slot-lt in
    subst (λ (x : BlockNo). Sees new (brought_of f x.0 slot)) (sym same) (sees_grown old new (brought_of f (phi_at old k).0 slot) o.grown (h k slot k-lt' slot-lt')))
    (cases_eq k n)

-- Nothing was reached yet.

no_mark : (n i : ℕ) → get_or (replicate {A = Option Mark} n None) i None ≡ None
no_mark zero i = refl
no_mark (suc n) zero = refl
no_mark (suc n) (suc i) = no_mark n i

not_met : (n b : ℕ) → get_or (replicate n false) b false ≡ false
not_met zero b = refl
not_met (suc n) zero = refl
not_met (suc n) (suc b) = not_met n b

all_unmet : (n : ℕ) → unmet (replicate n false) ≡ length (replicate n false)
all_unmet zero = refl
all_unmet (suc n) = let r = all_unmet n in omega arith

abbrev pub no_walk : ℕ → ℕ → WalkState
no_walk insts blocks = record { chains = record { marks = replicate insts None; stops = [] }; met = replicate blocks false; phis = [] }

pub walked_none : (f : FormState) (E : ℕ → Bool) (insts blocks : ℕ) → IsWalked f E (no_walk insts blocks)
walked_none f E insts blocks = record {
  climbed = record {
    counts = λ i e. let both = sym (no_mark insts i) ∙ e in cc;
    passed = λ i n e. let both = sym (no_mark insts i) ∙ e in cc;
  };
  stops = λ n. tt;
  listed = λ b t. let both : false ≡ true = sym (not_met blocks b) ∙ t in cc;
  below = λ k lt. absurd (omega arith);
  count = let all = all_unmet blocks in omega arith;
}

pub insts_none : (n : ℕ) → length (replicate {A = Option Mark} n None) ≡ n
insts_none zero = refl
insts_none (suc n) = let r = insts_none n in omega arith

pub blocks_none : (n : ℕ) → length (replicate n false) ≡ n
blocks_none zero = refl
blocks_none (suc n) = let r = blocks_none n in omega arith
