-- How phis are left out.
use Rattle.std.proofs.Common.{◌≡◌, ◌≢◌, ◌<◌, ◌≤◌, ◌⊎◌, inl, inr, ℕ, zero, suc, ◌+◌, ◌-◌, ◌^◌, Bool, true, false, List, length, get_or, replicate, Option, Some, None, refl, ap, sym, ◌∙◌, subst, arith, ⊎_elim, get_or-set_other, get_or-set_same}
use Rattle.std.specs.Prelude.{MatchBool, nat_eq, is_some}
use Rattle.std.proofs.Math.ListN.{length-set}
use Rattle.std.proofs.lemmas.Bool.{cases_eq}
use Rattle.std.proofs.lemmas.Bool.Decides.{nat_tests}
use Rattle.ms_ir.specs.declared.names.BlockNo.{BlockNo}
use Rattle.ms_paths.specs.Flow.{Block as Run}
use Rattle.ms_flow.specs.Flow.{sources_of}
use Rattle.ms_form.specs.declared.access.Access.{Access}
use Rattle.ms_form.specs.declared.access.Access.TheVariants.{Entry, Of, Phi}
use Rattle.ms_form.specs.Form.{FormState}
use Rattle.ms_build.specs.Changes.{in_place_of}
use Rattle.ms_climb.specs.declared.skips.Skip.{Skip}
use Rattle.ms_climb.specs.Options.{free}
use Rattle.ms_climb.specs.Walk.{WalkState, phi_at}
use Rattle.ms_climb.specs.Skips.{SkipsState, skip_of, HasTurns, IsLeading, way_of, IsTrivialWay, IsOnlyWay, HasTwoWays, left_out, IsBrought, IsSkipping, IsDone, AreDone, HasFewer}
use Rattle.ms_climb.proofs.Options.{free_set}

-- Following the phis that are left out.

-- how many phis are left out from here on
abbrev pub turns_left : SkipsState → Option Skip → ℕ
turns_left s None = 0
turns_left s (Some k) = s.turns - k.turn

pub turns_fall : (s : SkipsState) (a : Access) (k : Skip) → HasTurns s → skip_of s a ≡ Some k → turns_left s (skip_of s k.to) < turns_left s (skip_of s a)
turns_fall s a k t e = rw e (by_next (skip_of s k.to) refl)
  where
    by_next : (x : Option Skip) → skip_of s k.to ≡ x → turns_left s x < s.turns - k.turn
    by_next None n = let lt = t.past a k e in omega arith
    by_next (Some m) n = let lt = t.later a k m e n in let past = t.past k.to m n in omega arith

-- One more phi is left out.

pub one_phi : (c b : BlockNo) → c.0 ≡ b.0 → Phi c ≡ Phi b
one_phi c b e = ap (λ (n : ℕ). Phi (record { 0 = n })) e

block_of : Access → ℕ
block_of Entry = 0
block_of (Of i) = 0
block_of (Phi b) = b.0

pub same_block : (c b : BlockNo) → Phi c ≡ Phi b → c.0 ≡ b.0
unfolding block_of
same_block c b e = ap block_of e

cases_phi : (b : BlockNo) (x : Access) → (x ≡ Phi b) ⊎ (x ≢ Phi b)
cases_phi b Entry = inr (λ e. cc)
cases_phi b (Of i) = inr (λ e. cc)
cases_phi b (Phi c) = ⊎_elim (λ (e : c.0 ≡ b.0). inl (one_phi c b e)) (λ (n : c.0 ≡ b.0 → ⊥). inr (λ e. n (same_block c b e))) (cases_eq c.0 b.0)

swap_same : (b : BlockNo) (a : Access) → in_place_of b a (Phi b) ≡ a
swap_same b a = let t : nat_eq b.0 b.0 ≡ true = grind (arith, nat_tests) in rw t refl

swap_other : (b : BlockNo) (a x : Access) → x ≢ Phi b → in_place_of b a x ≡ x
swap_other b a Entry n = refl
swap_other b a (Of i) n = refl
swap_other b a (Phi c) n = let ne : c.0 ≢ b.0 = λ e. n (one_phi c b e) in let f : nat_eq c.0 b.0 ≡ false = grind (arith, nat_tests) in rw f refl

out_same : (b : BlockNo) (a : Access) (s : SkipsState) → b.0 < length s.skips → skip_of (left_out b a s) (Phi b) ≡ Some (record { to = a; turn = s.turns })
out_same b a s lt = get_or-set_same s.skips b.0 (Some (record { to = a; turn = s.turns })) None lt

out_other : (b : BlockNo) (a x : Access) (s : SkipsState) → x ≢ Phi b → skip_of (left_out b a s) x ≡ skip_of s x
out_other b a Entry s n = refl
out_other b a (Of i) s n = refl
out_other b a (Phi c) s n = get_or-set_other s.skips b.0 c.0 (Some (record { to = a; turn = s.turns })) None (λ e. n (one_phi c b e))

module _ (g : List Run) (f : FormState) (w : WalkState) (s : SkipsState) (b : BlockNo) (a : Access) (old : IsSkipping g f w s) (lt : b.0 < length s.skips) (free_b : skip_of s (Phi b) ≡ None)
    (way : IsOnlyWay f w s b (length (sources_of g b.0)) a) where
  swapped : Access → Access
  swapped x = in_place_of b a (old.leads x)

  abbrev new : SkipsState
  new = left_out b a s

  -- what is left out now is the phi, or was left out before
  outs : (x : Access) (k : Skip) → skip_of new x ≡ Some k → ((x ≡ Phi b) × (k ≡ record { to = a; turn = s.turns })) ⊎ ((x ≢ Phi b) × (skip_of s x ≡ Some k))
  outs x k e =
      ⊎_elim
      (λ (is : x ≡ Phi b). let both : Some (record { to = a; turn = s.turns }) ≡ Some k = sym (out_same b a s lt) ∙ ap (skip_of new) (sym is) ∙ e in inl (is, (let back : record { to = a; turn = s.turns } ≡ k = cc in sym back)))
      (λ (n : x ≢ Phi b). inr (n, sym (out_other b a x s n) ∙ e))
      (cases_phi b x)

  swapped_phi : swapped (Phi b) ≡ a
  unfolding swapped
  swapped_phi = ap (in_place_of b a) (old.leading.kept (Phi b) free_b) ∙ swap_same b a

  swapped_to : swapped a ≡ a
  unfolding swapped
  swapped_to = ap (in_place_of b a) (old.leading.kept a way.kept) ∙ swap_other b a a way.other

  leading_kept : (x : Access) → skip_of new x ≡ None → swapped x ≡ x
  unfolding swapped
  leading_kept x e =
      ⊎_elim
      (λ (is : x ≡ Phi b). let both : None ≡ Some (record { to = a; turn = s.turns }) = sym e ∙ ap (skip_of new) is ∙ out_same b a s lt in cc)
      (λ (n : x ≢ Phi b). ap (in_place_of b a) (old.leading.kept x (sym (out_other b a x s n) ∙ e)) ∙ swap_other b a x n)
      (cases_phi b x)

  leading_skipped : (x : Access) (k : Skip) → skip_of new x ≡ Some k → swapped x ≡ swapped k.to
  unfolding swapped
  leading_skipped x k e =
      ⊎_elim
      (λ (h : (x ≡ Phi b) × (k ≡ record { to = a; turn = s.turns })). ap swapped h.0 ∙ swapped_phi ∙ sym swapped_to ∙ ap (λ (m : Skip). swapped m.to) (sym h.1))
      (λ (h : (x ≢ Phi b) × (skip_of s x ≡ Some k)). ap (in_place_of b a) (old.leading.skipped x k h.1))
      (outs x k e)

  turns : HasTurns new
  turns = record {
    past = λ x k e.
        ⊎_elim
        (λ (h : (x ≡ Phi b) × (k ≡ record { to = a; turn = s.turns })). let t : k.turn ≡ s.turns = ap (λ (m : Skip). m.turn) h.1 in omega arith)
        (λ (h : (x ≢ Phi b) × (skip_of s x ≡ Some k)). let l = old.turns.past x k h.1 in omega arith)
        (outs x k e);
    later = λ x k m e n.
        ⊎_elim
        (λ (h : (x ≡ Phi b) × (k ≡ record { to = a; turn = s.turns })).
        let to : k.to ≡ a = ap (λ (y : Skip). y.to) h.1 in
        let none : skip_of new k.to ≡ None = ap (skip_of new) to ∙ out_other b a a s way.other ∙ way.kept in
        let both : None ≡ Some m = sym none ∙ n in cc)
        (λ (h : (x ≢ Phi b) × (skip_of s x ≡ Some k)).
        ⊎_elim
        (λ (i : (k.to ≡ Phi b) × (m ≡ record { to = a; turn = s.turns })). let t : m.turn ≡ s.turns = ap (λ (y : Skip). y.turn) i.1 in let l = old.turns.past x k h.1 in omega arith)
        (λ (i : (k.to ≢ Phi b) × (skip_of s k.to ≡ Some m)). old.turns.later x k m h.1 i.1)
        (outs k.to m n))
        (outs x k e);
  }

  brought_here : IsBrought g f w swapped b
  unfolding swapped
  brought_here =
      let t = way.trivial old.leads old.leading in
      record {
        entry = λ z. swapped_phi ∙ t.0 z;
        ways = λ slot l.
            ⊎_elim
            (λ (e : way_of f w old.leads b slot ≡ a). ap (in_place_of b a) e ∙ swap_other b a a way.other)
            (λ (e : way_of f w old.leads b slot ≡ Phi b). ap (in_place_of b a) e ∙ swap_same b a)
            (t.1 slot l)
            ∙ sym swapped_phi;
      }

  brought_other : (c : BlockNo) → IsBrought g f w old.leads c → IsBrought g f w swapped c
  unfolding swapped
  brought_other c h = record { entry = λ z. ap (in_place_of b a) (h.entry z); ways = λ slot l. ap (in_place_of b a) (h.ways slot l) }

  pub skipping_more : IsSkipping g f w new
  skipping_more = record {
    turns = turns;
    leads = swapped;
    leading = record { kept = leading_kept; skipped = leading_skipped };
    brought = λ c k e.
        ⊎_elim
        (λ (h : (Phi c ≡ Phi b) × (k ≡ record { to = a; turn = s.turns })).
        let n : b.0 ≡ c.0 = sym (same_block c b h.0) in
        let same : b ≡ c = ap (λ (m : ℕ). record { 0 = m }) n in
        subst (IsBrought g f w swapped) same brought_here)
        (λ (h : (Phi c ≢ Phi b) × (skip_of s (Phi c) ≡ Some k)). brought_other c (old.brought c k h.1))
        (outs (Phi c) k e);
    blocks = length-set s.skips b.0 (Some (record { to = a; turn = s.turns })) ∙ old.blocks;
    count = let less = free_set s.skips b.0 (record { to = a; turn = s.turns }) lt free_b in let size = length-set s.skips b.0 (Some (record { to = a; turn = s.turns })) in let c = old.count in omega arith;
    few = let size = length-set s.skips b.0 (Some (record { to = a; turn = s.turns })) in let c = old.few in omega arith;
  }

  pub fewer_kept : HasFewer s new
  fewer_kept = let less = free_set s.skips b.0 (record { to = a; turn = s.turns }) lt free_b in omega arith

-- The one access to which the first ways of a block lead besides its own phi.

pub record IsWay (f : FormState) (w : WalkState) (s : SkipsState) (b : BlockNo) (k : ℕ) (a : Access) : Type 0 where
  pub way : IsOnlyWay f w s b k a
  pub only : (leads : Access → Access) → IsLeading s leads → (x : Access) → IsTrivialWay f w leads b k x → x ≡ a

-- what was found among the first ways
abbrev pub IsFoundWay : FormState → WalkState → SkipsState → BlockNo → ℕ → Option Access → Type 0
IsFoundWay f w s b k None = (b.0 ≢ 0) × ((leads : Access → Access) → IsLeading s leads → (slot : ℕ) → slot < k → way_of f w leads b slot ≡ Phi b)
IsFoundWay f w s b k (Some a) = IsWay f w s b k a

-- the way at a slot leads there
abbrev pub LeadsTo : FormState → WalkState → SkipsState → BlockNo → ℕ → Access → Type 0
LeadsTo f w s b k d = (leads : Access → Access) → IsLeading s leads → way_of f w leads b k ≡ d

pub way_entry : (f : FormState) (w : WalkState) (s : SkipsState) (b : BlockNo) → b.0 ≡ 0 → IsFoundWay f w s b 0 (Some Entry)
way_entry f w s b z = record {
  way = record { other = λ e. cc; kept = refl; trivial = λ leads l. (λ e. refl, λ slot lt. absurd (omega arith)) };
  only = λ leads l x t. t.0 z;
}

-- the next way leads to the phi of the block
pub way_same : (f : FormState) (w : WalkState) (s : SkipsState) (b : BlockNo) (k : ℕ) (o : Option Access) → IsFoundWay f w s b k o → LeadsTo f w s b k (Phi b) → IsFoundWay f w s b (k + 1) o
way_same f w s b k None h e =
    (h.0, λ leads l slot lt. ⊎_elim (λ (i : slot ≡ k). ap (way_of f w leads b) i ∙ e leads l) (λ (n : slot ≡ k → ⊥). h.1 leads l slot (omega arith)) (cases_eq slot k))
way_same f w s b k (Some a) h e = record {
  way = record {
    other = h.way.other;
    kept = h.way.kept;
    trivial = λ leads l.
        let t = h.way.trivial leads l in
        (t.0, λ slot lt. ⊎_elim (λ (i : slot ≡ k). inr (ap (way_of f w leads b) i ∙ e leads l)) (λ (n : slot ≡ k → ⊥). t.1 slot (omega arith)) (cases_eq slot k));
  };
  only = λ leads l x t. h.only leads l x (t.0, λ slot lt. t.1 slot (omega arith));
}

-- it leads to another access, the first one
pub way_first : (f : FormState) (w : WalkState) (s : SkipsState) (b : BlockNo) (k : ℕ) (a : Access) → IsFoundWay f w s b k None → LeadsTo f w s b k a → a ≢ Phi b → skip_of s a ≡ None → IsFoundWay f w s b (k + 1) (Some a)
way_first f w s b k a h e n kept = record {
  way = record {
    other = n;
    kept = kept;
    trivial = λ leads l.
        (λ z. absurd (h.0 z), λ slot lt. ⊎_elim (λ (i : slot ≡ k). inl (ap (way_of f w leads b) i ∙ e leads l)) (λ (o : slot ≡ k → ⊥). inr (h.1 leads l slot (omega arith))) (cases_eq slot k));
  };
  only = λ leads l x t.
      ⊎_elim (λ (i : way_of f w leads b k ≡ x). sym i ∙ e leads l) (λ (i : way_of f w leads b k ≡ Phi b). absurd (n (sym (e leads l) ∙ i))) (t.1 k (omega arith));
}

-- it is the one that there was
pub way_again : (f : FormState) (w : WalkState) (s : SkipsState) (b : BlockNo) (k : ℕ) (a : Access) → IsFoundWay f w s b k (Some a) → LeadsTo f w s b k a → IsFoundWay f w s b (k + 1) (Some a)
way_again f w s b k a h e = record {
  way = record {
    other = h.way.other;
    kept = h.way.kept;
    trivial = λ leads l.
        let t = h.way.trivial leads l in
        (t.0, λ slot lt. ⊎_elim (λ (i : slot ≡ k). inl (ap (way_of f w leads b) i ∙ e leads l)) (λ (n : slot ≡ k → ⊥). t.1 slot (omega arith)) (cases_eq slot k));
  };
  only = λ leads l x t. h.only leads l x (t.0, λ slot lt. t.1 slot (omega arith));
}

-- it is one more
pub way_two : (f : FormState) (w : WalkState) (s : SkipsState) (b : BlockNo) (k slots : ℕ) (a d : Access) → IsFoundWay f w s b k (Some a) → LeadsTo f w s b k d → d ≢ Phi b → a ≢ d → k < slots → HasTwoWays f w s b slots
way_two f w s b k slots a d h e n ne lt = λ leads l x t.
    let is : x ≡ a = h.only leads l x (t.0, λ slot lt'. t.1 slot (omega arith)) in
    ⊎_elim (λ (i : way_of f w leads b k ≡ x). ne (sym is ∙ sym i ∙ e leads l)) (λ (i : way_of f w leads b k ≡ Phi b). n (sym (e leads l) ∙ i)) (t.1 k lt)

-- all ways were looked at
pub way_found : (f : FormState) (w : WalkState) (s : SkipsState) (b : BlockNo) (k slots : ℕ) (a : Access) → IsFoundWay f w s b k (Some a) → slots ≤ k → IsOnlyWay f w s b slots a
way_found f w s b k slots a h all = record {
  other = h.way.other;
  kept = h.way.kept;
  trivial = λ leads l. let t = h.way.trivial leads l in (t.0, λ slot lt. t.1 slot (omega arith));
}

pub way_none : (f : FormState) (w : WalkState) (s : SkipsState) (b : BlockNo) (k slots : ℕ) → IsFoundWay f w s b k None → slots ≤ k → IsOnlyWay f w s b slots Entry
way_none f w s b k slots h all = record {
  other = λ e. cc;
  kept = refl;
  trivial = λ leads l. (λ z. refl, λ slot lt. inr (h.1 leads l slot (omega arith)));
}

-- Sweeps.

-- of the phis from the last one on, so many were tried
abbrev pub IsSweptDown : List Run → FormState → WalkState → ℕ → SkipsState → SkipsState → Bool → Type 0
IsSweptDown g f w k old now true = HasFewer old now
IsSweptDown g f w k old now false = (now ≡ old) × ((j : ℕ) → j < k → IsDone g f w now (phi_at w (length w.phis - 1 - j)))

pub swept_out : (g : List Run) (f : FormState) (w : WalkState) (k : ℕ) (old now new : SkipsState) (changed : Bool) → IsSweptDown g f w k old now changed → HasFewer now new → IsSweptDown g f w (k + 1) old new true
swept_out g f w k old now new true h less = omega arith
swept_out g f w k old now new false h less = subst (λ (s : SkipsState). HasFewer s new) h.0 less

pub swept_left : (g : List Run) (f : FormState) (w : WalkState) (k : ℕ) (old now new : SkipsState) (changed : Bool) → IsSweptDown g f w k old now changed → new ≡ now
    → IsDone g f w new (phi_at w (length w.phis - 1 - k)) → IsSweptDown g f w (k + 1) old new changed
swept_left g f w k old now new true h same done = rw same h
swept_left g f w k old now new false h same done = (
  same ∙ h.0,
  λ j lt. ⊎_elim (λ (e : j ≡ k). subst (λ (n : ℕ). IsDone g f w new (phi_at w (length w.phis - 1 - n))) (sym e) done) (λ (n : j ≡ k → ⊥). rw same (h.1 j (omega arith))) (cases_eq j k),
)

pub all_done : (g : List Run) (f : FormState) (w : WalkState) (k : ℕ) (old now : SkipsState) → IsSweptDown g f w k old now false → length w.phis ≤ k → AreDone g f w now (length w.phis)
all_done g f w k old now h all j lt =
    let place : length w.phis - 1 - (length w.phis - 1 - j) ≡ j = omega arith in
    subst (λ (n : ℕ). IsDone g f w now (phi_at w n)) place (h.1 (length w.phis - 1 - j) (omega arith))

pub swept_all : (g : List Run) (f : FormState) (w : WalkState) (k : ℕ) (old now : SkipsState) (changed : Bool) → IsSweptDown g f w k old now changed → length w.phis ≤ k
    → MatchBool changed (HasFewer old now) (AreDone g f w now (length w.phis))
swept_all g f w k old now true h all = h
swept_all g f w k old now false h all = all_done g f w k old now h all

pub none_of : {A : Type 0} (x y : Option A) (t : Bool) → y ≡ x → t ≡ is_some y → t ≡ false → x ≡ None
none_of None y t same is f = refl
none_of (Some k) y t same is f = let both : true ≡ false = sym (is ∙ ap is_some same) ∙ f in cc

-- None is left out yet.

no_skip : (n b : ℕ) → get_or (replicate {A = Option Skip} n None) b None ≡ None
no_skip zero b = refl
no_skip (suc n) zero = refl
no_skip (suc n) (suc b) = no_skip n b

all_free : (n : ℕ) → free (replicate {A = Option Skip} n None) ≡ n
all_free zero = refl
all_free (suc n) = ap suc (all_free n)

pub length_free : (n : ℕ) → length (replicate {A = Option Skip} n None) ≡ n
length_free zero = refl
length_free (suc n) = let r = length_free n in omega arith

abbrev pub no_skips : ℕ → SkipsState
no_skips blocks = record { skips = replicate blocks None; turns = 0 }

none_out : (blocks : ℕ) (a : Access) → skip_of (no_skips blocks) a ≡ None
none_out blocks Entry = refl
none_out blocks (Of i) = refl
none_out blocks (Phi b) = no_skip blocks b.0

pub skipping_none : (g : List Run) (f : FormState) (w : WalkState) (blocks : ℕ) → blocks ≡ length g → blocks < 2 ^ 32 → IsSkipping g f w (no_skips blocks)
skipping_none g f w blocks size few = record {
  turns = record { past = λ a k e. let both = sym (none_out blocks a) ∙ e in cc; later = λ a k m e n. let both = sym (none_out blocks a) ∙ e in cc };
  leads = λ a. a;
  leading = record { kept = λ a e. refl; skipped = λ a k e. let both = sym (none_out blocks a) ∙ e in cc };
  brought = λ b k e. let both = sym (none_out blocks (Phi b)) ∙ e in cc;
  blocks = length_free blocks ∙ size;
  count = let all = all_free blocks in let len = length_free blocks in omega arith;
  few = let len = length_free blocks in omega arith;
}
