-- Tables of where instructions stand.
use Rattle.std.proofs.Common.{◌≡◌, ◌≢◌, ℕ, zero, suc, ◌+◌, ◌<◌, ◌≤◌, List, [], ◌∷◌, length, set, Option, Some, None, refl, sym, ap, ◌∙◌, subst, ⊎_elim, arith}
use Rattle.std.specs.List.{slice_get}
use Rattle.std.specs.Option.{option_map}
use Rattle.std.proofs.lemmas.Bool.{cases_eq, cases_lt}
use Rattle.std.proofs.lemmas.List.{length-set, get_or_past}
use Rattle.std.proofs.lemmas.Option.{none-some, same_Some, slice_get-get_or}
use Rattle.ms_ir.specs.declared.names.InstNo.{InstNo}
use Rattle.ms_ir.specs.declared.names.Ty.TheVariants.{I1}
use Rattle.ms_ir.specs.declared.inst.Inst.TheVariants.{Phi}
use Rattle.ms_ir.specs.Func.{Placed, Block, FuncState, insts_at, no_block}
use Rattle.ms_ir.specs.Locals.{IsNumbered}
use Rattle.ms_validity.specs.declared.spots.Spot.{Spot}
use Rattle.ms_validity.specs.Tables.{spot_at}

abbrev pub number_of_inst : InstNo → ℕ
number_of_inst i = i.0

abbrev pub number_of : Placed → ℕ
number_of x = x.number

-- this is the instruction at a place, or none stands there
abbrev pub IsNext : List Block → ℕ → ℕ → Option InstNo → Type 0
IsNext blocks b k at = option_map number_of_inst at ≡ option_map number_of (slice_get (insts_at blocks b) k)

-- the spots of the first instructions of a block, k of them, are noted, and those of other blocks are as they were
pub record AreNoted (f : FuncState) (b : ℕ) (old new : List Spot) (k : ℕ) : Type 0 where
  pub made : length new ≡ f.made
  pub own : (j : ℕ) (x : Placed) → j < k → slice_get (insts_at f.blocks b) j ≡ Some x → slice_get new x.number ≡ Some (spot_at b j)
  pub others : (a j : ℕ) (x : Placed) → a ≢ b → slice_get (insts_at f.blocks a) j ≡ Some x → slice_get new x.number ≡ slice_get old x.number

pub noted_none : (f : FuncState) (b : ℕ) (old : List Spot) → length old ≡ f.made → AreNoted f b old old 0
noted_none f b old made = record {
  made = made;
  own = λ j x lt get. absurd (omega arith);
  others = λ a j x ne get. refl;
}

-- the instruction at a place whose number is known
pub found_next : (blocks : List Block) (b k : ℕ) (i : InstNo) → IsNext blocks b k (Some i)
    → (x : Placed) × (slice_get (insts_at blocks b) k ≡ Some x) × (x.number ≡ i.0)
found_next blocks b k i e = at (slice_get (insts_at blocks b) k) refl
  where
    at : (o : Option Placed) → slice_get (insts_at blocks b) k ≡ o → (x : Placed) × (slice_get (insts_at blocks b) k ≡ Some x) × (x.number ≡ i.0)
    at None is = let n : Some i.0 ≡ option_map number_of None = e ∙ ap (option_map number_of) is in cc
    at (Some x) is = let n : Some i.0 ≡ option_map number_of (Some x) = e ∙ ap (option_map number_of) is in (x, is, cc)

pub none_next : (blocks : List Block) (b k : ℕ) → IsNext blocks b k None → k < length (insts_at blocks b) → ⊥
none_next blocks b k e lt =
    let got = slice_get-get_or (insts_at blocks b) k (record { number = 0; result = None; name = no_block.name; inst = Phi I1 [] [] }) lt in
    let n = e ∙ ap (option_map number_of) got in
    cc

set_same : (xs : List Spot) (i : ℕ) (s : Spot) → i < length xs → slice_get (set xs i s) i ≡ Some s
set_same [] i s lt = absurd (omega arith)
set_same (x ∷ xs) zero s lt = refl
set_same (x ∷ xs) (suc i) s lt = set_same xs i s (omega arith)

set_other : (xs : List Spot) (i j : ℕ) (s : Spot) → (j ≡ i → ⊥) → slice_get (set xs i s) j ≡ slice_get xs j
set_other [] i j s ne = refl
set_other (x ∷ xs) zero zero s ne = absurd (ne refl)
set_other (x ∷ xs) zero (suc j) s ne = refl
set_other (x ∷ xs) (suc i) zero s ne = refl
set_other (x ∷ xs) (suc i) (suc j) s ne = set_other xs i j s (λ e. ne (ap suc e))

pub noted_more : (f : FuncState) (b k : ℕ) (x : Placed) (old new : List Spot) → IsNumbered f → AreNoted f b old new k → slice_get (insts_at f.blocks b) k ≡ Some x
    → AreNoted f b old (set new x.number (spot_at b k)) (k + 1)
noted_more f b k x old new num noted found = record {
  made = length-set new x.number (spot_at b k) ∙ noted.made;
  own = λ j y lt get. ⊎_elim
      (λ (e : j ≡ k).
      let same : x ≡ y = same_Some x y (sym found ∙ subst (λ i. slice_get (insts_at f.blocks b) i ≡ Some y) e get) in
      let below = num.below_made b k x found in
      let made = noted.made in
      subst (λ (p : Placed). slice_get (set new x.number (spot_at b k)) p.number ≡ Some (spot_at b j)) same
      (subst (λ i. slice_get (set new x.number (spot_at b k)) x.number ≡ Some (spot_at b i)) (sym e) (set_same new x.number (spot_at b k) (omega arith))))
      (λ (ne : j ≡ k → ⊥).
      set_other new x.number y.number (spot_at b k) (λ e. ne (num.one_place b j b k y x get found e).1) ∙ noted.own j y (omega arith) get)
      (cases_eq j k);
  others = λ a j y ne get.
      set_other new x.number y.number (spot_at b k) (λ e. ne (num.one_place a j b k y x get found e).0) ∙ noted.others a j y ne get;
}

-- what stands in a block is in a block
pub block_within : (blocks : List Block) (b k : ℕ) (x : Placed) → slice_get (insts_at blocks b) k ≡ Some x → b < length blocks
block_within blocks b k x found =
    ⊎_elim (λ (lt : b < length blocks). lt)
    (λ (le : length blocks ≤ b).
    let past = get_or_past blocks b no_block le in
    let none : slice_get (insts_at blocks b) k ≡ None = ap (λ (y : Block). slice_get y.insts k) past in
    absurd (none-some x (sym none ∙ found)))
    (cases_lt b (length blocks))
