-- Places that every path passes, and that definitions are passed before their uses.
use Rattle.std.proofs.Common.{◌≡◌, ◌∙◌, ◌<◌, ◌≤◌, ◌⊎◌, ℕ, zero, suc, false, List, [], ◌∷◌, length, map, take, Some, refl, sym, ap, subst, inl, inr, ⊎_elim, arith}
use Rattle.std.specs.Prelude.{Contains, slice_get}
use Rattle.std.proofs.lemmas.Bool.{cases_eq, cases_lt}
use Rattle.ms_paths.specs.Flow.{Block as Run, block_at, IsPath, IsReached, IsMet, LiesOnEvery}
use Rattle.ms_ir.specs.declared.names.LocalNo.{LocalNo}
use Rattle.ms_ir.specs.declared.inst.Val.{Val}
use Rattle.ms_ir.specs.declared.inst.Val.TheVariants.{Local as LocalVal}
use Rattle.ms_ir.specs.declared.inst.Inst.{Inst}
use Rattle.ms_ir.specs.declared.inst.Inst.TheVariants.{Alloca, Gep, Step as StepInst, Load, Store, Copy, Call, Bin, Cmp, Select, Cast, Phi}
use Rattle.ms_ir.specs.Func.{Placed, Block, FuncState, insts_at}
use Rattle.ms_ir.specs.Graph.{graph_of, numbers}
use Rattle.ms_ir.specs.Locals.{IsNumbered, IsGiver}
use Rattle.ms_ir.specs.Types.{is_phi}
use Rattle.ms_ir.specs.Uses.{Operand, Use, operands_of, uses_at, used_at}
use Rattle.ms_ir.specs.SoundFunc.{IsSoundFunc}
use Rattle.ms_flow.proofs.Members.{in_cons, in_none, in_or_not, there, here_is}
use Rattle.ms_meaning.proofs.LastEvents.{events_at}
use Rattle.ms_sound.proofs.Operands.{value_in}

-- a path to place k of block b passes place j of block c
abbrev pub Passes : ℕ → ℕ → ℕ → ℕ → List ℕ → Type 0
Passes c j b k p = ((c ≡ b) × (j < k)) ⊎ Contains p c

abbrev pub AllPass : FuncState → ℕ → ℕ → ℕ → ℕ → Type 0
AllPass f c j b k = (p : List ℕ) → IsPath (graph_of f.blocks) b p → Passes c j b k p

passes_or : (c j b k : ℕ) (p : List ℕ) → Passes c j b k p ⊎ (Passes c j b k p → ⊥)
passes_or c j b k p =
    ⊎_elim
    (λ (there : Contains p c). inl (inr there))
    (λ (not : Contains p c → ⊥).
    ⊎_elim
    (λ (e : c ≡ b).
    ⊎_elim
    (λ (lt : j < k). inl (inl (e, lt)))
    (λ (ge : k ≤ j). inr (λ h. ⊎_elim (λ (x : (c ≡ b) × (j < k)). let l = x.1 in absurd (omega arith)) (λ (x : Contains p c). not x) h))
    (cases_lt j k))
    (λ (n : c ≡ b → ⊥). inr (λ h. ⊎_elim (λ (x : (c ≡ b) × (j < k)). n x.0) (λ (x : Contains p c). not x) h))
    (cases_eq c b))
    (in_or_not p c)

-- the part of a path up to a block that it passes
record Front (g : List Run) (c : ℕ) (p : List ℕ) : Type 0 where
  path : List ℕ
  is_path : IsPath g c path
  shorter : length path < length p
  part : (a : ℕ) → Contains path a → Contains p a

front : (g : List Run) (b : ℕ) (p : List ℕ) (c : ℕ) → IsPath g b p → Contains p c → Front g c p
front g b [] c h m = absurd (in_none c m)
front g b (a ∷ p) c h m =
    ⊎_elim
    (λ (e : a ≡ c). record { path = p; is_path = subst (λ x. IsPath g x p) e h.1; shorter = omega arith; part = λ d i. there a p d i })
    (λ (i : Contains p c).
    let r = front g a p c h.1 i in
    record { path = r.path; is_path = r.is_path; shorter = (let l = r.shorter in omega arith); part = λ d j. there a p d (r.part d j) })
    (in_cons a p c m)

-- what is passed before a place that is passed
pub pass_both : (f : FuncState) (c j b k d m : ℕ) → AllPass f c j b k → AllPass f b k d m → AllPass f c j d m
pass_both f c j b k d m one two p path =
    ⊎_elim
    (λ (here : (b ≡ d) × (k < m)).
    ⊎_elim
    (λ (same : (c ≡ b) × (j < k)). inl (same.0 ∙ here.0, (let x = same.1 in let y = here.1 in omega arith)))
    (λ (i : Contains p c). inr i)
    (one p (subst (λ x. IsPath (graph_of f.blocks) x p) (sym here.0) path)))
    (λ (i : Contains p b).
    let r = front (graph_of f.blocks) d p b path i in
    ⊎_elim
    (λ (same : (c ≡ b) × (j < k)). inr (subst (λ x. Contains p x) (sym same.0) i))
    (λ (e : Contains r.path c). inr (r.part c e))
    (one r.path r.is_path))
    (two p path)

-- two places do not lie on every path to one another
never_within : (f : FuncState) (c j b k : ℕ) → AllPass f c j b k → AllPass f b k c j → (n : ℕ) (p : List ℕ) → length p < n → IsPath (graph_of f.blocks) b p → ⊥
never_within f c j b k one two zero p le path = omega arith
never_within f c j b k one two (suc n) p le path =
    ⊎_elim
    (λ (same : (c ≡ b) × (j < k)).
    ⊎_elim
    (λ (other : (b ≡ c) × (k < j)). let x = same.1 in let y = other.1 in omega arith)
    (λ (i : Contains p b). let r = front (graph_of f.blocks) b p b path i in never_within f c j b k one two n r.path (let l = r.shorter in omega arith) r.is_path)
    (two p (subst (λ x. IsPath (graph_of f.blocks) x p) (sym same.0) path)))
    (λ (i : Contains p c).
    let r = front (graph_of f.blocks) b p c path i in
    ⊎_elim
    (λ (other : (b ≡ c) × (k < j)). never_within f c j b k one two n r.path (let l = r.shorter in omega arith) (subst (λ x. IsPath (graph_of f.blocks) x r.path) (sym other.0) r.is_path))
    (λ (e : Contains r.path b).
    let s = front (graph_of f.blocks) c r.path b r.is_path e in
    never_within f c j b k one two n s.path (let l = r.shorter in let m = s.shorter in omega arith) s.is_path)
    (two r.path r.is_path))
    (one p path)

pub never_both : (f : FuncState) (c j b k : ℕ) → AllPass f c j b k → AllPass f b k c j → IsReached (graph_of f.blocks) b → ⊥
never_both f c j b k one two r = never_within f c j b k one two (suc (length r.0)) r.0 (omega arith) r.1

-- Instructions by their numbers.

pub one_found : (f : FuncState) → IsNumbered f → (b k c j : ℕ) (x y : Placed) → slice_get (insts_at f.blocks b) k ≡ Some x → slice_get (insts_at f.blocks c) j ≡ Some y → x.number ≡ y.number →
    (b ≡ c) × (k ≡ j) × (x ≡ y)
one_found f numbered b k c j x y e h is =
    let one = numbered.one_place b k c j x y e h is in
    let two : Some x ≡ Some y = sym e ∙ ap (λ a. slice_get (insts_at f.blocks a) k) one.0 ∙ ap (slice_get (insts_at f.blocks c)) one.1 ∙ h in
    (one.0, one.1, (let same : x ≡ y = cc in same))

pub in_taken : (xs : List Placed) (n i : ℕ) → Contains (take n (numbers xs)) i → (j : ℕ) × (y : Placed) × (slice_get xs j ≡ Some y) × (y.number ≡ i) × (j < n)
in_taken xs zero i h = absurd (in_none i h)
in_taken [] (suc n) i h = absurd (in_none i h)
in_taken (x ∷ xs) (suc n) i h =
    ⊎_elim
    (λ (e : x.number ≡ i). (zero, x, refl, e, omega arith))
    (λ (m : Contains (take n (numbers xs)) i). let r = in_taken xs n i m in (suc r.0, r.1, r.2, r.3, (let l = r.4 in omega arith)))
    (in_cons x.number (take n (numbers xs)) i h)

in_numbers : (xs : List Placed) (i : ℕ) → Contains (numbers xs) i → (j : ℕ) × (y : Placed) × (slice_get xs j ≡ Some y) × (y.number ≡ i)
in_numbers [] i h = absurd (in_none i h)
in_numbers (x ∷ xs) i h =
    ⊎_elim
    (λ (e : x.number ≡ i). (zero, x, refl, e))
    (λ (m : Contains (numbers xs) i). let r = in_numbers xs i m in (suc r.0, r.1, r.2, r.3))
    (in_cons x.number (numbers xs) i h)

pub taken_in : (xs : List Placed) (n j : ℕ) (y : Placed) → slice_get xs j ≡ Some y → j < n → Contains (take n (numbers xs)) y.number
taken_in xs zero j y e lt = absurd (omega arith)
taken_in [] (suc n) j y e lt = cc
taken_in (x ∷ xs) (suc n) zero y e lt = let same : x ≡ y = cc in here_is x.number (take n (numbers xs)) y.number (ap (λ (z : Placed). z.number) same)
taken_in (x ∷ xs) (suc n) (suc j) y e lt = there x.number (take n (numbers xs)) y.number (taken_in xs n j y e (omega arith))

numbers_in : (xs : List Placed) (j : ℕ) (y : Placed) → slice_get xs j ≡ Some y → Contains (numbers xs) y.number
numbers_in [] j y e = cc
numbers_in (x ∷ xs) zero y e = let same : x ≡ y = cc in here_is x.number (numbers xs) y.number (ap (λ (z : Placed). z.number) same)
numbers_in (x ∷ xs) (suc j) y e = there x.number (numbers xs) y.number (numbers_in xs j y e)

module _ (f : FuncState) (numbered : IsNumbered f) (c j : ℕ) (x : Placed) (found : slice_get (insts_at f.blocks c) j ≡ Some x) where
  met_passes : (b k : ℕ) (p : List ℕ) → IsMet (graph_of f.blocks) x.number b k p → Passes c j b k p
  met_passes b k p (inl m) =
      let r = in_taken (insts_at f.blocks b) k x.number (subst (λ is. Contains (take k is) x.number) (events_at f.blocks b) m) in
      let one = numbered.one_place c j b r.0 x r.1 found r.2 (sym r.3) in
      inl (one.0, (let e = one.1 in let l = r.4 in omega arith))
  met_passes b k p (inr m) =
      let r = in_numbers (insts_at f.blocks m.0) x.number (subst (λ is. Contains is x.number) (events_at f.blocks m.0) m.2) in
      let one = numbered.one_place c j m.0 r.0 x r.1 found r.2 (sym r.3) in
      inr (subst (λ a. Contains p a) (sym one.0) m.1)

  passes_met : (b k : ℕ) (p : List ℕ) → Passes c j b k p → IsMet (graph_of f.blocks) x.number b k p
  passes_met b k p (inl here) =
      inl (subst (λ d. Contains (take k (block_at (graph_of f.blocks) d).events) x.number) here.0
      (subst (λ is. Contains (take k is) x.number) (sym (events_at f.blocks c)) (taken_in (insts_at f.blocks c) k j x found here.1)))
  passes_met b k p (inr m) = inr (c, m, subst (λ is. Contains is x.number) (sym (events_at f.blocks c)) (numbers_in (insts_at f.blocks c) j x found))

  pub lies_pass : (b k : ℕ) → LiesOnEvery (graph_of f.blocks) x.number b k → AllPass f c j b k
  lies_pass b k lies p path = met_passes b k p (lies p path)

  pub pass_lies : (b k : ℕ) → AllPass f c j b k → LiesOnEvery (graph_of f.blocks) x.number b k
  pass_lies b k pass p path = passes_met b k p (pass p path)

-- Uses.

other_uses : (blocks : List Block) (b k : ℕ) (inst : Inst) → is_phi inst ≡ false → uses_at blocks b k inst ≡ map (used_at b k) (operands_of inst)
other_uses blocks b k (Phi ty entries tail) e = cc
other_uses blocks b k (Alloca size head tail) e = refl
other_uses blocks b k (Gep base offset head index tail) e = refl
other_uses blocks b k (StepInst base offset terms head index tail) e = refl
other_uses blocks b k (Load ty ptr tail) e = refl
other_uses blocks b k (Store ty val ptr tail) e = refl
other_uses blocks b k (Copy to from len head tail) e = refl
other_uses blocks b k (Call callee ret args effects head tail) e = refl
other_uses blocks b k (Bin op flags ty x y tail) e = refl
other_uses blocks b k (Cmp pred flags ty x y tail) e = refl
other_uses blocks b k (Select c ty x y tail) e = refl
other_uses blocks b k (Cast op flags from x to tail) e = refl

abbrev use_of : ℕ → ℕ → Val → Use
use_of b k v = record { block = b; place = k; val = v }

used_among : (b k : ℕ) (operands : List Operand) (v : Val) → Contains (map value_in operands) v → Contains (map (used_at b k) operands) (use_of b k v)
used_among b k [] v (n, lt, is) = absurd (let l : n < 0 = lt in omega arith)
used_among b k (o ∷ operands) v (zero, lt, is) = (zero, omega arith, ap (use_of b k) is)
used_among b k (o ∷ operands) v (suc n, lt, is) = let r = used_among b k operands v (n, omega arith, is) in (suc r.0, (let l = r.1 in omega arith), r.2)

-- every path to what is no phi passes the definition of a local that it uses
pub used_behind : (f : FuncState) → IsNumbered f → IsSoundFunc f → (b k : ℕ) (x : Placed) → slice_get (insts_at f.blocks b) k ≡ Some x → is_phi x.inst ≡ false →
    (l : LocalNo) → Contains (map value_in (operands_of x.inst)) (LocalVal l) → (c j : ℕ) (y : Placed) → IsGiver f.blocks l c j y → AllPass f c j b k
used_behind f numbered sound b k x found no_phi l used c j y giver p path =
    let among : Contains (uses_at f.blocks b k x.inst) (use_of b k (LocalVal l)) =
    subst (λ (us : List Use). Contains us (use_of b k (LocalVal l))) (sym (other_uses f.blocks b k x.inst no_phi)) (used_among b k (operands_of x.inst) (LocalVal l) used) in
    ⊎_elim
    (λ (h : Passes c j b k p). h)
    (λ (never : Passes c j b k p → ⊥).
    absurd ((sound.insts b k x found).uses (use_of b k (LocalVal l)) among (
      p,
      record {
        local = l;
        is_local = refl;
        block = c;
        place = j;
        giver = y;
        gives = giver;
        path_is = path;
        not_met = λ m. never (met_passes f numbered c j y giver.found b k p m);
      },
    )))
    (passes_or c j b k p)
