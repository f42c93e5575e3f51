-- Entries of lost blocks are cleared.
use Rattle.std.proofs.Common.{Bool, true, false, ◌≡◌, ◌<◌, ◌≤◌, ◌⊎◌, ◌==◌, inl, inr, ℕ, ◌+◌, List, length, get_or, set, Option, Some, None, refl, ap, sym, ◌∙◌, subst, arith, ⊎_elim, get_or-set_same, get_or-set_other, length-set}
use Rattle.std.specs.Prelude.{slice_get}
use Rattle.std.proofs.lemmas.Bool.{cases_eq, both_ways}
use Rattle.std.proofs.lemmas.Bool.Decides.{nat_tests}
use Rattle.ms_paths.specs.Flow.{Block as Run, IsReached}
use Rattle.ms_ir.specs.declared.names.InstNo.{InstNo}
use Rattle.ms_ir.specs.declared.names.BlockNo.{BlockNo}
use Rattle.ms_ir.specs.Func.{Placed, Block, IsAt, insts_at}
use Rattle.ms_form.specs.declared.access.Access.{Access}
use Rattle.ms_form.specs.declared.access.User.TheVariants.{Inst, Operand, Entering}
use Rattle.ms_form.specs.Form.{FormState, KeepsPlaces}
use Rattle.ms_build.specs.Accesses.{has_phi, enters_at, operand_at, defining_at}
use Rattle.ms_build.specs.Changes.{IsChanged, one_set}
use Rattle.ms_build.specs.Filled.{OfBlock}
use Rattle.ms_build.proofs.Define.{UpTo}
use Rattle.ms_build.proofs.Lists.{slice_get_below}
use Rattle.ms_update.specs.Dropped.{AreCleared, IsLost}

abbrev pub NoPlace : ℕ → ℕ → Type 0
NoPlace c k = ⊥

abbrev pub NoBlock : ℕ → Type 0
NoBlock c = ⊥

pub cleared_none : (blocks : List Block) (f : FormState) → AreCleared blocks NoPlace NoBlock f f
cleared_none blocks f = record {
  defs = λ b k x v e. absurd v;
  other_defs = λ i n. refl;
  phis = λ b v. absurd v;
  other_phis = λ b n. refl;
  enters = λ b v. absurd v;
  other_enters = λ b n. refl;
  operands = λ b slot. refl;
  lasts = refl;
  blocks_stay = refl;
  numbers = refl;
  spare = refl;
  places_stay = λ counts insts p. p;
}

-- the same places and blocks
pub cleared_as : (blocks : List Block) (V W : ℕ → ℕ → Type 0) (L M : ℕ → Type 0) (f g : FormState)
    → ((c k : ℕ) (x : Placed) → W c k → slice_get (insts_at blocks c) k ≡ Some x → V c k) → ((c k : ℕ) → V c k → W c k) → ((c : ℕ) → M c → L c) → ((c : ℕ) → L c → M c)
    → AreCleared blocks V L f g → AreCleared blocks W M f g
cleared_as blocks V W L M f g into back to from d = record {
  defs = λ b k x w e. d.defs b k x (into b k x w e) e;
  other_defs = λ i n. d.other_defs i (λ b k x v e s. n b k x (back b k v) e s);
  phis = λ b m. d.phis b (to b m);
  other_phis = λ b n. d.other_phis b (λ l. n (from b l));
  enters = λ b m. d.enters b (to b m);
  other_enters = λ b n. d.other_enters b (λ l. n (from b l));
  operands = d.operands;
  lasts = d.lasts;
  blocks_stay = d.blocks_stay;
  numbers = d.numbers;
  spare = d.spare;
  places_stay = d.places_stay;
}

-- what is empty, and is emptied or stays, is empty
still_none : (x y : Option Access) → y ≡ None → ((a : Access) → x ≡ Some a → x ≡ y) → x ≡ None
still_none None y e h = refl
still_none (Some a) y e h = let s : Some a ≡ y = h a refl in cc

still_false : (x y : Bool) → y ≡ false → (x ≡ true → x ≡ y) → x ≡ false
still_false true y e h = h refl ∙ e
still_false false y e h = refl

pub cleared_both : (blocks : List Block) (V W : ℕ → ℕ → Type 0) (L M : ℕ → Type 0) (f g h : FormState) → AreCleared blocks V L f g → AreCleared blocks W M g h
    → AreCleared blocks (λ c k. V c k ⊎ W c k) (λ c. L c ⊎ M c) f h
cleared_both blocks V W L M f g h a b = record {
  defs = λ c k x v e.
      ⊎_elim
      (λ (p : V c k).
      still_none (defining_at h x.number) (defining_at g x.number) (a.defs c k x p e)
      (λ y some. b.other_defs x.number (λ d j z w at s. let none : None ≡ Some y = sym (b.defs d j z w at) ∙ ap (defining_at h) s ∙ some in cc)))
      (λ (w : W c k). b.defs c k x w e) v;
  other_defs = λ i n. b.other_defs i (λ c k x w e s. n c k x (inr w) e s) ∙ a.other_defs i (λ c k x v e s. n c k x (inl v) e s);
  phis = λ c v.
      ⊎_elim
      (λ (p : L c). still_false (has_phi h c) (has_phi g c) (a.phis c p) (λ t. b.other_phis c (λ m. both_ways (has_phi h c) (b.phis c m) t)))
      (λ (m : M c). b.phis c m) v;
  other_phis = λ c n. b.other_phis c (λ m. n (inr m)) ∙ a.other_phis c (λ l. n (inl l));
  enters = λ c v.
      ⊎_elim
      (λ (p : L c). still_none (enters_at h c) (enters_at g c) (a.enters c p) (λ y some. b.other_enters c (λ m. let none : None ≡ Some y = sym (b.enters c m) ∙ some in cc)))
      (λ (m : M c). b.enters c m) v;
  other_enters = λ c n. b.other_enters c (λ m. n (inr m)) ∙ a.other_enters c (λ l. n (inl l));
  operands = λ c slot. b.operands c slot ∙ a.operands c slot;
  lasts = b.lasts ∙ a.lasts;
  blocks_stay = b.blocks_stay ∙ a.blocks_stay;
  numbers = b.numbers ∙ a.numbers;
  spare = b.spare ∙ a.spare;
  places_stay = λ counts insts p. b.places_stay counts insts (a.places_stay counts insts p);
}

-- one place
abbrev pub OnePlace : ℕ → ℕ → ℕ → ℕ → Type 0
OnePlace b k c j = (c ≡ b) × (j ≡ k)

-- one instruction names no access any more
pub cleared_inst : (blocks : List Block) (i : InstNo) (b k : ℕ) (x : Placed) (f g : FormState) → IsAt blocks i.0 b k x → IsChanged (one_set (Inst i) None) f g
    → AreCleared blocks (OnePlace b k) NoBlock f g
cleared_inst blocks i b k x f g at c = record {
  defs = λ d j y v e.
      let there : slice_get (insts_at blocks d) j ≡ Some x = rw (v.0, v.1) at.found in
      let both : Some y ≡ Some x = sym e ∙ there in
      let same : y ≡ x = cc in
      let t : (i.0 == y.number) ≡ true = (let s = ap (λ (z : Placed). z.number) same ∙ at.numbered in grind (arith, nat_tests)) in
      c.entries (Inst (record { 0 = y.number })) ∙ rw t refl;
  other_defs = λ j n.
      ⊎_elim
      (λ (s : i.0 ≡ j). absurd (n b k x (refl, refl) at.found (at.numbered ∙ s)))
      (λ (o : i.0 ≡ j → ⊥). let t : (i.0 == j) ≡ false = grind (arith, nat_tests) in c.entries (Inst (record { 0 = j })) ∙ rw t refl)
      (cases_eq i.0 j);
  phis = λ d v. absurd v;
  other_phis = λ d n. ap (λ (l : List Bool). get_or l d false) c.phis;
  enters = λ d v. absurd v;
  other_enters = λ d n. c.entries (Entering (record { 0 = d }));
  operands = λ d slot. c.entries (Operand (record { 0 = d }) slot);
  lasts = c.lasts;
  blocks_stay = ap (λ (l : List Bool). length l) c.phis;
  numbers = c.numbers;
  spare = c.spare;
  places_stay = c.places;
}

-- a block has no phi, and nothing enters it
pub cleared_start : (blocks : List Block) (b : BlockNo) (f g h : FormState) → b.0 < length f.phis → g ≡ record f { phis = set f.phis b.0 false } → KeepsPlaces f g
    → IsChanged (one_set (Entering b) None) g h → AreCleared blocks NoPlace (λ c. c ≡ b.0) f h
cleared_start blocks b f g h lt e places c = record {
  defs = λ d j y v found. absurd v;
  other_defs = λ j n. c.entries (Inst (record { 0 = j })) ∙ ap (λ (k : FormState). defining_at k j) e;
  phis = λ d s. phi d ∙ ap (λ (n : ℕ). get_or (set f.phis b.0 false) n false) s ∙ get_or-set_same f.phis b.0 false false lt;
  other_phis = λ d n. phi d ∙ get_or-set_other f.phis b.0 d false false n;
  enters = λ d s.
      let t : (b.0 == d) ≡ true = grind (arith, nat_tests) in
      c.entries (Entering (record { 0 = d })) ∙ rw t refl;
  other_enters = λ d n.
      let t : (b.0 == d) ≡ false = grind (arith, nat_tests) in
      c.entries (Entering (record { 0 = d })) ∙ rw t (ap (λ (k : FormState). enters_at k d) e);
  operands = λ d slot. c.entries (Operand (record { 0 = d }) slot) ∙ ap (λ (k : FormState). operand_at k d slot) e;
  lasts = c.lasts ∙ ap (λ (k : FormState). k.lasts) e;
  blocks_stay = ap (λ (l : List Bool). length l) c.phis ∙ ap (λ (k : FormState). length k.phis) e ∙ length-set f.phis b.0 false;
  numbers = c.numbers ∙ ap (λ (k : FormState). length k.defs) e;
  spare = c.spare ∙ ap (λ (k : FormState). k.spare) e;
  places_stay = λ counts insts p. c.places counts insts (places counts insts p);
}
  where
    phi : (d : ℕ) → has_phi h d ≡ get_or (set f.phis b.0 false) d false
    phi d = ap (λ (l : List Bool). get_or l d false) c.phis ∙ ap (λ (k : FormState). get_or k.phis d false) e

-- The instructions of a block, one after another.

pub cleared_begun : (blocks : List Block) (b : ℕ) (f : FormState) → AreCleared blocks (UpTo b 0) NoBlock f f
cleared_begun blocks b f =
    cleared_as blocks NoPlace (UpTo b 0) NoBlock NoBlock f f (λ c k x w e. (let lt : k < 0 = w.1 in omega arith)) (λ c k v. absurd v) (λ c m. m) (λ c l. l) (cleared_none blocks f)

pub cleared_next : (blocks : List Block) (i : InstNo) (b k : ℕ) (x : Placed) (f g h : FormState) → IsAt blocks i.0 b k x → AreCleared blocks (UpTo b k) NoBlock f g → IsChanged (one_set (Inst i) None) g h
    → AreCleared blocks (UpTo b (k + 1)) NoBlock f h
cleared_next blocks i b k x f g h at d c =
    cleared_as blocks (λ c' j. UpTo b k c' j ⊎ OnePlace b k c' j) (UpTo b (k + 1)) (λ c'. NoBlock c' ⊎ NoBlock c') NoBlock f h
    (λ c' j y w e. ⊎_elim (λ (s : j ≡ k). inr (w.0, s)) (λ (n : j ≡ k → ⊥). inl (w.0, (let lt : j < k + 1 = w.1 in omega arith))) (cases_eq j k))
    (λ c' j v. ⊎_elim (λ (u : UpTo b k c' j). (u.0, (let lt : j < k = u.1 in omega arith))) (λ (o : OnePlace b k c' j). (o.0, (let s : j ≡ k = o.1 in omega arith))) v)
    (λ c' m. inl m) (λ c' l. ⊎_elim (λ (n : ⊥). n) (λ (n : ⊥). n) l)
    (cleared_both blocks (UpTo b k) (OnePlace b k) NoBlock NoBlock f g h d (cleared_inst blocks i b k x g h at c))

pub cleared_block : (blocks : List Block) (b k : ℕ) (f g : FormState) → length (insts_at blocks b) ≤ k → AreCleared blocks (UpTo b k) NoBlock f g → AreCleared blocks (OfBlock b) NoBlock f g
cleared_block blocks b k f g all d =
    cleared_as blocks (UpTo b k) (OfBlock b) NoBlock NoBlock f g
    (λ c j x w e.
    let at = slice_get_below (insts_at blocks c) j x e in
    let here : c ≡ b = w in
    let same = ap (λ (n : ℕ). length (insts_at blocks n)) here in
    (here, omega arith))
    (λ c j v. v.0) (λ c m. m) (λ c l. l) d

-- Blocks, one after another.

pub cleared_whole : (blocks : List Block) (b : ℕ) (f g h : FormState) → AreCleared blocks NoPlace (λ c. c ≡ b) f g → AreCleared blocks (OfBlock b) NoBlock g h → AreCleared blocks (OfBlock b) (λ c. c ≡ b) f h
cleared_whole blocks b f g h a d =
    cleared_as blocks (λ c k. NoPlace c k ⊎ OfBlock b c k) (OfBlock b) (λ c. (c ≡ b) ⊎ NoBlock c) (λ c. c ≡ b) f h (λ c k x w e. inr w) (λ c k v. ⊎_elim (λ (n : ⊥). absurd n) (λ (w : c ≡ b). w) v)
    (λ c m. inl m) (λ c l. ⊎_elim (λ (m : c ≡ b). m) (λ (n : ⊥). absurd n) l) (cleared_both blocks NoPlace (OfBlock b) (λ c. c ≡ b) NoBlock f g h a d)

-- a lost block among the first n
abbrev pub IsLostBelow : List Run → ℕ → ℕ → Type 0
IsLostBelow g n c = (c < n) × (IsReached g c → ⊥)

pub lost_begun : (blocks : List Block) (g : List Run) (f : FormState) → AreCleared blocks (λ c k. IsLostBelow g 0 c) (IsLostBelow g 0) f f
lost_begun blocks g f =
    cleared_as blocks NoPlace (λ c k. IsLostBelow g 0 c) NoBlock (IsLostBelow g 0) f f (λ c k x w e. (let lt : c < 0 = w.0 in omega arith)) (λ c k v. absurd v) (λ c m. (let lt : c < 0 = m.0 in omega arith)) (λ c l. absurd l)
    (cleared_none blocks f)

lost_split : (g : List Run) (n c : ℕ) → IsLostBelow g (n + 1) c → IsLostBelow g n c ⊎ (c ≡ n)
lost_split g n c w = ⊎_elim (λ (s : c ≡ n). inr s) (λ (o : c ≡ n → ⊥). inl ((let lt : c < n + 1 = w.0 in omega arith), w.1)) (cases_eq c n)

lost_up : (g : List Run) (n c : ℕ) → IsLostBelow g n c → IsLostBelow g (n + 1) c
lost_up g n c w = ((let lt : c < n = w.0 in omega arith), w.1)

pub lost_next : (blocks : List Block) (g : List Run) (n : ℕ) (f h k : FormState) → (IsReached g n → ⊥) → AreCleared blocks (λ c j. IsLostBelow g n c) (IsLostBelow g n) f h
    → AreCleared blocks (OfBlock n) (λ c. c ≡ n) h k → AreCleared blocks (λ c j. IsLostBelow g (n + 1) c) (IsLostBelow g (n + 1)) f k
lost_next blocks g n f h k lost d e =
    cleared_as blocks (λ c j. IsLostBelow g n c ⊎ (c ≡ n)) (λ c j. IsLostBelow g (n + 1) c) (λ c. IsLostBelow g n c ⊎ (c ≡ n)) (IsLostBelow g (n + 1)) f k (λ c j x w at. lost_split g n c w) (λ c j v. join c v)
    (λ c m. lost_split g n c m) join (cleared_both blocks (λ c j. IsLostBelow g n c) (OfBlock n) (IsLostBelow g n) (λ c. c ≡ n) f h k d e)
  where
    join : (c : ℕ) → IsLostBelow g n c ⊎ (c ≡ n) → IsLostBelow g (n + 1) c
    join c v = ⊎_elim (λ (w : IsLostBelow g n c). lost_up g n c w) (λ (s : c ≡ n). (omega (arith, s), λ r. lost (subst (IsReached g) s r))) v

pub lost_skip : (blocks : List Block) (g : List Run) (n : ℕ) (f h : FormState) → IsReached g n → AreCleared blocks (λ c j. IsLostBelow g n c) (IsLostBelow g n) f h
    → AreCleared blocks (λ c j. IsLostBelow g (n + 1) c) (IsLostBelow g (n + 1)) f h
lost_skip blocks g n f h r d =
    cleared_as blocks (λ c j. IsLostBelow g n c) (λ c j. IsLostBelow g (n + 1) c) (IsLostBelow g n) (IsLostBelow g (n + 1)) f h (λ c j x w e. other c w) (λ c j v. lost_up g n c v) other (λ c l. lost_up g n c l) d
  where
    other : (c : ℕ) → IsLostBelow g (n + 1) c → IsLostBelow g n c
    other c w = ⊎_elim (λ (l : IsLostBelow g n c). l) (λ (s : c ≡ n). absurd (w.1 (subst (IsReached g) (sym s) r))) (lost_split g n c w)

pub lost_all : (blocks : List Block) (g : List Run) (n : ℕ) (f h : FormState) → n ≡ length g → AreCleared blocks (λ c j. IsLostBelow g n c) (IsLostBelow g n) f h → AreCleared blocks (λ c j. IsLost g c) (IsLost g) f h
lost_all blocks g n f h e d = subst (λ (m : ℕ). AreCleared blocks (λ c j. IsLostBelow g m c) (IsLostBelow g m) f h) e d
