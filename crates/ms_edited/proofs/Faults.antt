-- What an edit without a fault has: types of locals can be told.
use Rattle.std.proofs.Common.{◌≡◌, ◌≢◌, ◌∙◌, ◌<◌, ◌≤◌, ◌⊎◌, ℕ, zero, suc, true, false, List, [], ◌∷◌, length, Option, Some, None, refl, sym, ap, subst, inl, inr, arith}
use Rattle.std.specs.Prelude.{slice_get, is_some}
use Rattle.std.proofs.lemmas.Bool.{cases_Bool, cases_lt, true≢false}
use Rattle.std.proofs.lemmas.Bool.Decides.{eqb_tells}
use Rattle.ms_ir.specs.declared.names.Ty.{Ty}
use Rattle.ms_ir.specs.declared.names.Ty.TheVariants.{I1, I8, I16, I32, I64, Ptr}
use Rattle.ms_ir.specs.declared.names.LocalNo.{LocalNo}
use Rattle.ms_ir.specs.declared.inst.Val.{Val}
use Rattle.ms_ir.specs.declared.inst.Val.TheVariants.{Num, Local, Global}
use Rattle.ms_ir.specs.declared.inst.Inst.{Inst}
use Rattle.ms_ir.specs.Inst.{has_result, result_type}
use Rattle.ms_ir.specs.Func.{Placed, Block, FuncState, insts_at}
use Rattle.ms_ir.specs.Locals.{IsGiver, IsUngiven, IsNoLocal, HasType, IsNumbered}
use Rattle.ms_ir.specs.SoundFunc.{IsValueIn}
use Rattle.ms_ir.specs.Edits.{IsNoBlock, IsFittingValue, is_movable, IsNotMovable}
use Rattle.ms_ir.proofs.LookLemmas.{typed}

-- ---- blocks, places

pub there_is : {A : Type 0} (xs : List A) (k : ℕ) → k < length xs → (x : A) × (slice_get xs k ≡ Some x)
there_is [] k lt = absurd (omega arith)
there_is (x ∷ xs) zero lt = (x, refl)
there_is (x ∷ xs) (suc k) lt = there_is xs k (omega arith)

pub block_in : (f : FuncState) (b : ℕ) → (IsNoBlock f b → ⊥) → b < length f.blocks
block_in f b h = elim (cases_lt b (length f.blocks)) [
  | inl lt ↦ lt
  | inr past ↦ absurd (h past)
]

pub place_in : (xs : List Placed) (p : ℕ) → (length xs ≤ p → ⊥) → p < length xs
place_in xs p h = elim (cases_lt p (length xs)) [
  | inl lt ↦ lt
  | inr past ↦ absurd (h past)
]

pub movable_is : (inst : Inst) → (is_movable inst ≡ false → ⊥) → is_movable inst ≡ true
movable_is inst h = elim (cases_Bool (is_movable inst)) [
  | inl t ↦ t
  | inr n ↦ absurd (h n)
]

pub movable_at : (f : FuncState) (b p : ℕ) (x : Placed) → (IsNotMovable f b p → ⊥) → slice_get (insts_at f.blocks b) p ≡ Some x → is_movable x.inst ≡ true
movable_at f b p x h found = movable_is x.inst (λ n. h (x, found, n))

-- ---- locals

none_some : {A : Type 0} (x : A) → None ≡ Some x → ⊥
none_some x e = cc

gives_or_not : (o : Option LocalNo) (l : LocalNo) → (o ≡ Some l) ⊎ (o ≡ Some l → ⊥)
gives_or_not None l = inr (λ e. none_some l e)
gives_or_not (Some k) l = elim (eqb_tells k.0 l.0) [
  | inl same ↦
      let local : ℕ → LocalNo = λ n. record { 0 = n } in
      inl (ap (λ n. Some (local n)) same.1)
  | inr other ↦ inr (λ e. (let one : k ≡ l = cc in other.1 (ap (λ (n : LocalNo). n.0) one)))
]

abbrev GivesAt : List Placed → LocalNo → ℕ → Placed → Type 0
GivesAt xs l k x = (slice_get xs k ≡ Some x) × (x.result ≡ Some l)

given_in : (xs : List Placed) (l : LocalNo) → ((k : ℕ) × (x : Placed) × GivesAt xs l k x) ⊎ ((k : ℕ) (x : Placed) → GivesAt xs l k x → ⊥)
given_in [] l = inr (λ k x h. none_some x h.0)
given_in (x ∷ xs) l = elim (gives_or_not x.result l) [
  | inl here ↦ inl (zero, x, (refl, here))
  | inr no_first ↦ elim (given_in xs l) [
    | inl r ↦ inl (suc r.0, r.1, r.2)
    | inr none ↦ inr (neither no_first none)
  ]
] where
  neither : (x.result ≡ Some l → ⊥) → ((k : ℕ) (y : Placed) → GivesAt xs l k y → ⊥) → (k : ℕ) (y : Placed) → GivesAt (x ∷ xs) l k y → ⊥
  neither no_first none zero y h = let one : x ≡ y = (let e = h.0 in cc) in no_first (ap (λ (z : Placed). z.result) one ∙ h.1)
  neither no_first none (suc k) y h = none k y h

-- some instruction gives the local, or none does
giver_or_none : (blocks : List Block) (l : LocalNo) → ((b : ℕ) × (k : ℕ) × (x : Placed) × IsGiver blocks l b k x) ⊎ IsUngiven blocks l
giver_or_none [] l = inr (λ b k x h. none_some x h.found)
giver_or_none (block ∷ blocks) l = elim (given_in block.insts l) [
  | inl here ↦ inl (zero, here.0, here.1, record { found = here.2.0; gives = here.2.1 })
  | inr no_first ↦ elim (giver_or_none blocks l) [
    | inl r ↦ inl (suc r.0, r.1, r.2, record { found = r.3.found; gives = r.3.gives })
    | inr none ↦ inr (neither no_first none)
  ]
] where
  neither : ((k : ℕ) (x : Placed) → GivesAt block.insts l k x → ⊥) → IsUngiven blocks l → IsUngiven (block ∷ blocks) l
  neither no_first none zero k x h = no_first k x (h.found, h.gives)
  neither no_first none (suc b) k x h = none b k x (record { found = h.found; gives = h.gives })

some_type : (inst : Inst) (o : Option Ty) → result_type inst ≡ o → has_result inst ≡ true → (ty : Ty) × (result_type inst ≡ Some ty)
some_type inst None e has = absurd (true≢false (sym has ∙ typed inst e))
some_type inst (Some ty) e has = (ty, e)

-- a local that the function has is of some type
typed_local : (f : FuncState) → IsNumbered f → (l : LocalNo) → (IsNoLocal f l → ⊥) → (ty : Ty) × HasType f l ty
typed_local f n l h = elim (cases_lt l.0 (length f.params)) [
  | inl lt ↦ let p = there_is f.params l.0 lt in (p.0.ty, inl (p.0, p.1, refl))
  | inr le ↦ elim (giver_or_none f.blocks l) [
    | inl g ↦
        let has : has_result g.2.inst ≡ true = sym (n.gives g.0 g.1 g.2 g.3.found) ∙ ap is_some g.3.gives in
        let t = some_type g.2.inst (result_type g.2.inst) refl has in
        (t.0, inr (g.0, g.1, g.2, g.3, t.1))
    | inr none ↦ absurd (h (le, none))
  ]
]

-- ---- types

abbrev number_of : Ty → ℕ
number_of I1 = 0
number_of I8 = 1
number_of I16 = 2
number_of I32 = 3
number_of I64 = 4
number_of Ptr = 5

abbrev type_of : ℕ → Ty
type_of zero = I1
type_of (suc zero) = I8
type_of (suc (suc zero)) = I16
type_of (suc (suc (suc zero))) = I32
type_of (suc (suc (suc (suc zero)))) = I64
type_of (suc (suc (suc (suc (suc n))))) = Ptr

type_back : (ty : Ty) → type_of (number_of ty) ≡ ty
type_back I1 = refl
type_back I8 = refl
type_back I16 = refl
type_back I32 = refl
type_back I64 = refl
type_back Ptr = refl

-- types of which it is impossible that they differ are one
same_type : (a b : Ty) → (a ≢ b → ⊥) → a ≡ b
same_type a b h = elim (eqb_tells (number_of a) (number_of b)) [
  | inl same ↦ sym (type_back a) ∙ ap type_of same.1 ∙ type_back b
  | inr other ↦ absurd (h (λ e. other.1 (ap number_of e)))
]

-- a value that fits, and that has no other type if it is a local, is one of the type
pub fitting_value : (f : FuncState) → IsNumbered f → (ty : Ty) (v : Val) → IsFittingValue ty v → ((l : LocalNo) → v ≡ Local l → IsNoLocal f l → ⊥)
    → ((l : LocalNo) (t : Ty) → v ≡ Local l → HasType f l t → (t ≢ ty) → ⊥) → IsValueIn f ty v
fitting_value f n ty (Num own m) fits has typed_so = fits
fitting_value f n ty (Local l) fits has typed_so =
    let t = typed_local f n l (has l refl) in
    subst (λ (s : Ty). HasType f l s) (same_type t.0 ty (λ other. typed_so l t.0 refl t.1 other)) t.1
fitting_value f n ty (Global g) fits has typed_so = fits
