-- Instructions are given the accesses before them.
use Rattle.std.proofs.Common.{Bool, true, false, ◌≡◌, ◌<◌, ◌≤◌, ◌⊎◌, ◌==◌, inl, inr, ℕ, ◌+◌, List, length, take, Option, Some, None, refl, ap, sym, ◌∙◌, subst, arith, ⊎_elim, if◌then◌else◌}
use Rattle.std.specs.Prelude.{slice_get}
use Rattle.std.proofs.lemmas.Bool.{cases_Bool, cases_eq}
use Rattle.std.proofs.lemmas.Bool.Decides.{nat_tests}
use Rattle.ms_paths.specs.Flow.{Block as Run, IsReached}
use Rattle.ms_ir.specs.declared.names.InstNo.{InstNo}
use Rattle.ms_ir.specs.Inst.{kind_of_inst}
use Rattle.ms_ir.specs.Graph.{is_def}
use Rattle.ms_ir.specs.Func.{Placed, Block, IsAt, insts_at}
use Rattle.ms_form.specs.declared.access.Access.{Access}
use Rattle.ms_form.specs.declared.access.Access.TheVariants.{Of}
use Rattle.ms_form.specs.declared.access.User.TheVariants.{Inst, Operand, Entering}
use Rattle.ms_form.specs.Form.{FormState, after_last}
use Rattle.ms_build.specs.Accesses.{enters_at, operand_at, defining_at, entering_at}
use Rattle.ms_build.specs.Changes.{IsChanged}
use Rattle.ms_build.specs.Filled.{names_access, last_from, HasAccessAt, before_at, AreDefined, OfBlock, OfReached, inst_rule, access_after}
use Rattle.ms_build.proofs.Insts.{last_next}
use Rattle.ms_build.proofs.Lists.{slice_get_below}

abbrev pub OnePlaced : List Block → Type 0
OnePlaced blocks = (b j c k : ℕ) (x y : Placed) → slice_get (insts_at blocks b) j ≡ Some x → slice_get (insts_at blocks c) k ≡ Some y → x.number ≡ y.number → (b ≡ c) × (j ≡ k)

-- no place was visited
abbrev pub Nowhere : ℕ → ℕ → Type 0
Nowhere c k = ⊥

-- the first places of a block
abbrev pub UpTo : ℕ → ℕ → ℕ → ℕ → Type 0
UpTo b k c j = (c ≡ b) × (j < k)

-- the places of the first reached blocks
abbrev pub ReachedBelow : List Run → ℕ → ℕ → ℕ → Type 0
ReachedBelow g n c k = (c < n) × IsReached g c

pub defined_none : (blocks : List Block) (f : FormState) (V : ℕ → ℕ → Type 0) → ((c k : ℕ) → V c k → ⊥) → AreDefined blocks V f f
defined_none blocks f V none = record {
  done = λ b k x v h. absurd (none b k v);
  rest = λ i n. refl;
  operands = λ b slot. refl;
  enters = λ b. refl;
  phis = refl;
  lasts = refl;
  numbers = refl;
  places = λ counts insts p. p;
}

-- the same places, as far as instructions that name accesses stand there
pub defined_as : (blocks : List Block) (f h : FormState) (V W : ℕ → ℕ → Type 0) → ((c k : ℕ) (x : Placed) → W c k → HasAccessAt blocks c k x → V c k) → ((c k : ℕ) → V c k → W c k)
    → AreDefined blocks V f h → AreDefined blocks W f h
defined_as blocks f h V W into back d = record {
  done = λ b k x w a. d.done b k x (into b k x w a) a;
  rest = λ i n. d.rest i (λ b k x v a e. n b k x (back b k v) a e);
  operands = d.operands;
  enters = d.enters;
  phis = d.phis;
  lasts = d.lasts;
  numbers = d.numbers;
  places = d.places;
}

pub defined_entering : (blocks : List Block) (V : ℕ → ℕ → Type 0) (f h : FormState) → AreDefined blocks V f h → (x : ℕ) → entering_at h x ≡ entering_at f x
defined_entering blocks V f h d x = rw (d.phis, d.enters x) refl

-- one visit after another, to other places
pub defined_both : (blocks : List Block) (f h j : FormState) (V W U : ℕ → ℕ → Type 0) → OnePlaced blocks → ((c k : ℕ) → U c k → W c k ⊎ (V c k × (W c k → ⊥))) → ((c k : ℕ) → V c k → U c k) → ((c k : ℕ) → W c k → U c k)
    → AreDefined blocks V f h → AreDefined blocks W h j → AreDefined blocks U f j
defined_both blocks f h j V W U one split left right d e = record {
  done = λ b k x u a.
      ⊎_elim
      (λ (w : W b k). e.done b k x w a ∙ ap (before_at blocks b k) (defined_entering blocks V f h d b))
      (λ (v : V b k × (W b k → ⊥)).
      e.rest x.number (λ c m y w a' same.
      let at = one c m b k y x a'.found a.found same in
      v.1 (subst (λ (n : ℕ). W n k) at.0 (subst (λ (n : ℕ). W c n) at.1 w)))
      ∙ d.done b k x v.0 a)
      (split b k u);
  rest = λ i n. e.rest i (λ b k x w a same. n b k x (right b k w) a same) ∙ d.rest i (λ b k x v a same. n b k x (left b k v) a same);
  operands = λ b slot. e.operands b slot ∙ d.operands b slot;
  enters = λ b. e.enters b ∙ d.enters b;
  phis = e.phis ∙ d.phis;
  lasts = e.lasts ∙ d.lasts;
  numbers = e.numbers ∙ d.numbers;
  places = λ counts insts p. e.places counts insts (d.places counts insts p);
}

-- one place alone
abbrev pub At : ℕ → ℕ → ℕ → ℕ → Type 0
At b k c j = (c ≡ b) × (j ≡ k)

pub defined_one : (blocks : List Block) (f h : FormState) (b k : ℕ) (i : InstNo) (a : Access) (x : Placed) → IsAt blocks i.0 b k x → Some a ≡ before_at blocks b k (entering_at f b)
    → IsChanged (inst_rule i a (kind_of_inst x.inst)) f h → AreDefined blocks (At b k) f h
defined_one blocks f h b k i a x at before c = record {
  done = λ d m y v acc.
      let found : slice_get (insts_at blocks b) k ≡ Some y = subst (λ (n : ℕ). slice_get (insts_at blocks n) k ≡ Some y) v.0 (subst (λ (n : ℕ). slice_get (insts_at blocks d) n ≡ Some y) v.1 acc.found) in
      let both : Some x ≡ Some y = sym at.found ∙ found in
      let same : x ≡ y = cc in
      let names : names_access (kind_of_inst x.inst) ≡ true = subst (λ (z : Placed). names_access (kind_of_inst z.inst) ≡ true) (sym same) acc.names in
      let number : y.number ≡ i.0 = ap (λ (z : Placed). z.number) (sym same) ∙ at.numbered in
      let now : defining_at h i.0 ≡ Some a = c.entries (Inst i) ∙ (let t : (i.0 == i.0) ≡ true = grind (arith, nat_tests) in rw (names, t) refl) in
      ap (defining_at h) number ∙ now ∙ before ∙ ap (λ (n : ℕ). before_at blocks n k (entering_at f n)) (sym v.0) ∙ ap (λ (n : ℕ). before_at blocks d n (entering_at f d)) (sym v.1);
  rest = λ n none.
      ⊎_elim
      (λ (names : names_access (kind_of_inst x.inst) ≡ true).
      let other : i.0 ≡ n → ⊥ = λ e. none b k x (refl, refl) (record { found = at.found; names = names }) (at.numbered ∙ e) in
      let t : (i.0 == n) ≡ false = grind (arith, nat_tests) in
      c.entries (Inst (record { 0 = n })) ∙ (rw (names, t) refl))
      (λ (no' : names_access (kind_of_inst x.inst) ≡ false). c.entries (Inst (record { 0 = n })) ∙ (rw no' refl))
      (cases_Bool (names_access (kind_of_inst x.inst)));
  operands = λ d slot. c.entries (Operand (record { 0 = d }) slot) ∙ (same_if (names_access (kind_of_inst x.inst)) (operand_at f d slot));
  enters = λ d. c.entries (Entering (record { 0 = d })) ∙ (same_if (names_access (kind_of_inst x.inst)) (enters_at f d));
  phis = c.phis;
  lasts = c.lasts;
  numbers = c.numbers;
  places = c.places;
}
  where
    same_if : (t : Bool) (y : Option Access) → (if t then y else y) ≡ y
    same_if true y = refl
    same_if false y = refl

-- one more place of a block
pub defined_next : (blocks : List Block) (f h j : FormState) (b k : ℕ) → OnePlaced blocks → AreDefined blocks (UpTo b k) f h → AreDefined blocks (At b k) h j → AreDefined blocks (UpTo b (k + 1)) f j
defined_next blocks f h j b k one d e =
    defined_both blocks f h j (UpTo b k) (At b k) (UpTo b (k + 1)) one
    (λ c m u. ⊎_elim (λ (s : m ≡ k). inl (u.0, s)) (λ (n : m ≡ k → ⊥). inr ((u.0, (let lt = u.1 in omega arith)), λ w. n w.1)) (cases_eq m k))
    (λ c m v. (v.0, (let lt = v.1 in omega arith)))
    (λ c m w. (w.0, (let s = w.1 in omega arith)))
    d e

-- all places of a block
pub defined_block : (blocks : List Block) (f h : FormState) (b k : ℕ) → length (insts_at blocks b) ≤ k → AreDefined blocks (UpTo b k) f h → AreDefined blocks (OfBlock b) f h
defined_block blocks f h b k end d =
    defined_as blocks f h (UpTo b k) (OfBlock b)
    (λ c m x w a. (w, (let lt = slice_get_below (insts_at blocks c) m x a.found in let e = ap (λ (n : ℕ). length (insts_at blocks n)) w in omega arith)))
    (λ c m v. v.0) d

-- one more block
pub defined_more : (g : List Run) (blocks : List Block) (f h j : FormState) (b : ℕ) → OnePlaced blocks → IsReached g b → AreDefined blocks (ReachedBelow g b) f h → AreDefined blocks (OfBlock b) h j → AreDefined blocks (ReachedBelow g (b + 1)) f j
defined_more g blocks f h j b one r d e =
    defined_both blocks f h j (ReachedBelow g b) (OfBlock b) (ReachedBelow g (b + 1)) one
    (λ c m u. ⊎_elim (λ (s : c ≡ b). inl s) (λ (n : c ≡ b → ⊥). inr (((let lt = u.0 in omega arith), u.1), n)) (cases_eq c b))
    (λ c m v. ((let lt = v.0 in omega arith), v.1))
    (λ c m w. ((let s = w in omega arith), subst (IsReached g) (sym w) r))
    d e

pub defined_skip : (g : List Run) (blocks : List Block) (f h : FormState) (b : ℕ) → (IsReached g b → ⊥) → AreDefined blocks (ReachedBelow g b) f h → AreDefined blocks (ReachedBelow g (b + 1)) f h
defined_skip g blocks f h b none d =
    defined_as blocks f h (ReachedBelow g b) (ReachedBelow g (b + 1))
    (λ c m x u a. (⊎_elim (λ (s : c ≡ b). absurd (none (subst (IsReached g) s u.1))) (λ (n : c ≡ b → ⊥). (let lt = u.0 in omega arith)) (cases_eq c b), u.1))
    (λ c m v. ((let lt = v.0 in omega arith), v.1)) d

pub defined_all : (g : List Run) (blocks : List Block) (f h : FormState) (n : ℕ) → ((c : ℕ) → IsReached g c → c < n) → AreDefined blocks (ReachedBelow g n) f h → AreDefined blocks (OfReached g) f h
defined_all g blocks f h n end d = defined_as blocks f h (ReachedBelow g n) (OfReached g) (λ c m x r a. (end c r, r)) (λ c m v. v.1) d

-- the access after one more instruction
pub before_next : (blocks : List Block) (b k : ℕ) (x : Placed) (a start : Access) → slice_get (insts_at blocks b) k ≡ Some x → Some a ≡ before_at blocks b k (Some start) → Some (access_after a x) ≡ before_at blocks b (k + 1) (Some start)
before_next blocks b k x a start found e =
    let last : Option InstNo = last_from None (take k (insts_at blocks b)) in
    step (is_def (kind_of_inst x.inst)) last e ∙ ap (λ (l : Option InstNo). after_last l (Some start)) (sym (last_next None (insts_at blocks b) k x found))
  where
    step : (t : Bool) (last : Option InstNo) → Some a ≡ after_last last (Some start) → Some (if t then Of (record { 0 = x.number }) else a) ≡ after_last (if t then Some (record { 0 = x.number }) else last) (Some start)
    step true last e' = refl
    step false last e' = e'
