-- A small function that is sound, and functions in which one thing is wrong.
use Rattle.std.proofs.Common.{◌≡◌, ◌<◌, ℕ, zero, suc, ◌∙◌, ◌⊎◌, [], ◌∷◌, Option, Some, None, refl, ap, subst, inl, inr, ⊎_elim, arith}
use Rattle.std.specs.Prelude.{Contains, slice_get}
use Rattle.ms_paths.specs.Flow.{HasEdge}
use Rattle.ms_ir.specs.declared.names.Ty.TheVariants.{I8, I32, Ptr}
use Rattle.ms_ir.specs.declared.names.LocalNo.{LocalNo}
use Rattle.ms_ir.specs.declared.inst.Val.{Val}
use Rattle.ms_ir.specs.declared.inst.Val.TheVariants.{Num, Local, Global}
use Rattle.ms_ir.specs.declared.inst.Op.TheVariants.{Add}
use Rattle.ms_ir.specs.declared.inst.Inst.TheVariants.{Load, Store, Bin}
use Rattle.ms_ir.specs.declared.inst.Term.{Term}
use Rattle.ms_ir.specs.declared.inst.Term.TheVariants.{Ret}
use Rattle.ms_ir.specs.Func.{Placed, Block, insts_at}
use Rattle.ms_ir.specs.Graph.{graph_of}
use Rattle.ms_ir.specs.Locals.{HasType, IsGiver}
use Rattle.ms_ir.specs.SoundFunc.{IsValueIn, IsSoundInst, IsSoundTerm, IsSoundFunc}
use Rattle.ms_ir.specs.Uses.{Operand, Use, of_type, used_at}
use Rattle.ms_ir.specs.Sound.{IsUsedBefore}
use Rattle.ms_meaning.specs.Samples.{local, no_flags, giving, plain, func, adds}
use Rattle.ms_steady.specs.Samples.{uses_early, mistyped, great_number, branches_to, late_alloca, late_phi, short_phi}

in_none : {X : Type 0} (x : X) → Contains [] x → ⊥
in_none x i = let l : i.0 < 0 = i.1 in omega arith

-- One thing is wrong.

pub no_block : IsSoundFunc (func [] []) → ⊥
no_block sound = let l : 0 < 0 = sound.closed.has_entry in omega arith

pub used_early : IsSoundFunc uses_early → ⊥
used_early sound =
    (sound.insts 0 0 _ refl).uses (used_at 0 0 (of_type I8 (local 2))) (1, omega arith, refl) (
      [],
      record {
        local = record { 0 = 2 };
        is_local = refl;
        block = 0;
        place = 1;
        giver = _;
        gives = record { found = refl; gives = refl };
        path_is = refl;
        not_met = λ met. ⊎_elim (λ (i : Contains [] 1). in_none 1 i) (λ p. in_none p.0 p.1) met;
      },
    )

none_given : (l : LocalNo) (b k : ℕ) (x : Placed) → IsGiver mistyped.blocks l b k x → ⊥
none_given l zero k x g = let never : None ≡ Some x = g.found in cc
none_given l (suc b) k x g = let never : None ≡ Some x = g.found in cc

other_type : HasType mistyped (record { 0 = 0 }) I8 → ⊥
other_type (inl p) = let one : _ ≡ Some p.0 = p.1 in let ty : p.0.ty ≡ I8 = p.2 in cc
other_type (inr g) = none_given (record { 0 = 0 }) g.0 g.1 g.2 g.3

pub is_mistyped : IsSoundFunc mistyped → ⊥
is_mistyped sound = other_type ((sound.terms 0 _ refl).operands (of_type I8 (local 0)) (0, omega arith, refl))

pub is_great : IsSoundFunc great_number → ⊥
is_great sound = let h = (sound.terms 0 _ refl).operands (of_type I8 (Num I8 256)) (0, omega arith, refl) in let l : 256 < 256 = h.2 in omega arith

pub first_block_entered : IsSoundFunc (branches_to 0) → ⊥
first_block_entered sound = (sound.terms 0 _ refl).targets (0, omega arith, refl)

pub block_not_there : IsSoundFunc (branches_to 1) → ⊥
block_not_there sound = let l : 1 < 1 = sound.closed.edges_in 0 1 (0, omega arith, refl) in omega arith

pub is_late_alloca : IsSoundFunc late_alloca → ⊥
is_late_alloca sound = not_one ((sound.insts 1 0 _ refl).alloca refl)
  where
    not_one : suc zero ≡ zero → ⊥
    not_one e = cc

pub is_late_phi : IsSoundFunc late_phi → ⊥
is_late_phi sound = let e = (sound.insts 1 1 _ refl).phi refl 0 _ (omega arith) refl in cc

pub is_short_phi : IsSoundFunc short_phi → ⊥
is_short_phi sound = (sound.insts 1 0 _ refl).entries (inl (0, λ e. let two : 1 ≡ 2 = e in omega arith))

-- A sound function.

no_edge : (a b : ℕ) → HasEdge (graph_of adds.blocks) a b → ⊥
no_edge zero b e = in_none b e
no_edge (suc a) b e = in_none b e

-- what holds of one element, or of two, holds of each element of the list
of_one : {X : Type 0} (P : X → Type 0) (x : X) → P x → (y : X) → Contains (x ∷ []) y → P y
of_one P x h y (zero, lt, is) = subst P is h
of_one P x h y (suc k, lt, is) = absurd (let l : suc k < 1 = lt in omega arith)

of_two : {X : Type 0} (P : X → Type 0) (w x : X) → P w → P x → (y : X) → Contains (w ∷ x ∷ []) y → P y
of_two P w x g h y (zero, lt, is) = subst P is g
of_two P w x g h y (suc zero, lt, is) = subst P is h
of_two P w x g h y (suc (suc k), lt, is) = absurd (let l : suc (suc k) < 2 = lt in omega arith)

abbrev Given : LocalNo → Placed → Type 0
Given l x = ((2 ≡ l.0) × (0 ≡ x.number)) ⊎ ((3 ≡ l.0) × (1 ≡ x.number))

-- parts of what may be there
abbrev number_of : Option LocalNo → ℕ
number_of None = 0
number_of (Some l) = l.0

abbrev result_of : Option Placed → Option LocalNo
result_of None = None
result_of (Some x) = x.result

abbrev number_at : Option Placed → ℕ
number_at None = 0
number_at (Some x) = x.number

abbrev local_in : Val → ℕ
local_in (Local l) = l.0
local_in (Num ty n) = 0
local_in (Global g) = 0

abbrev term_in : Option Block → Term
term_in None = Ret None []
term_in (Some b) = b.term

giver_of : (l : LocalNo) (b k : ℕ) (x : Placed) → IsGiver adds.blocks l b k x → Given l x
giver_of l zero zero x g = let one = g.found in inl (ap number_of (ap result_of one ∙ g.gives), ap number_at one)
giver_of l zero (suc zero) x g = let one = g.found in inr (ap number_of (ap result_of one ∙ g.gives), ap number_at one)
giver_of l zero (suc (suc zero)) x g = let never : None ≡ Some l = ap result_of g.found ∙ g.gives in cc
giver_of l zero (suc (suc (suc k))) x g = let never : None ≡ Some x = g.found in cc
giver_of l (suc b) k x g = let never : None ≡ Some x = g.found in cc

abbrev Before : ℕ → ℕ → Type 0
Before k n = IsUsedBefore adds (record { block = 0; place = k; val = local n })

name_is : (n k : ℕ) (h : Before k n) → n ≡ h.1.local.0
name_is n k h = ap local_in h.1.is_local

param_behind : (k n : ℕ) → n < 2 → Before k n → ⊥
param_behind k n less h =
    let own = h.1 in
    let e = name_is n k h in
    ⊎_elim (λ (g : (2 ≡ own.local.0) × (0 ≡ own.giver.number)). let f = g.0 in omega arith) (λ (g : (3 ≡ own.local.0) × (1 ≡ own.giver.number)). let f = g.0 in omega arith)
    (giver_of own.local own.block own.place own.giver own.gives)

second_behind : Before 1 2 → ⊥
second_behind h =
    let own = h.1 in
    let e = name_is 2 1 h in
    ⊎_elim (λ (g : (2 ≡ own.local.0) × (0 ≡ own.giver.number)). own.not_met (inl (0, omega arith, g.1))) (λ (g : (3 ≡ own.local.0) × (1 ≡ own.giver.number)). let f = g.0 in omega arith)
    (giver_of own.local own.block own.place own.giver own.gives)

third_behind : (k : ℕ) → Before (suc (suc k)) 3 → ⊥
third_behind k h =
    let own = h.1 in
    let e = name_is 3 (suc (suc k)) h in
    ⊎_elim (λ (g : (2 ≡ own.local.0) × (0 ≡ own.giver.number)). let f = g.0 in omega arith) (λ (g : (3 ≡ own.local.0) × (1 ≡ own.giver.number)). own.not_met (inl (1, omega arith, g.1)))
    (giver_of own.local own.block own.place own.giver own.gives)

abbrev IsOfAdds : Operand → Type 0
IsOfAdds o = IsValueIn adds o.ty o.val

abbrev IsBehind : Use → Type 0
IsBehind u = IsUsedBefore adds u → ⊥

address : IsOfAdds (of_type Ptr (local 0))
address = inl (_, refl, refl)

addend : IsOfAdds (of_type I32 (local 1))
addend = inl (_, refl, refl)

loaded_one : IsOfAdds (of_type I32 (local 2))
loaded_one = inr (0, 0, _, record { found = refl; gives = refl }, refl)

sum : IsOfAdds (of_type I32 (local 3))
sum = inr (0, 1, _, record { found = refl; gives = refl }, refl)

load_sound : IsSoundInst adds 0 0 (Load I32 (local 0) [])
load_sound = record {
  types = refl;
  operands = of_one IsOfAdds (of_type Ptr (local 0)) address;
  alloca = λ e. cc;
  phi = λ e. cc;
  entered = refl;
  entries = λ bad. bad;
  uses = of_one IsBehind (used_at 0 0 (of_type Ptr (local 0))) (param_behind 0 0 (omega arith));
}

sum_sound : IsSoundInst adds 0 1 (Bin Add no_flags I32 (local 2) (local 1) [])
sum_sound = record {
  types = refl;
  operands = of_two IsOfAdds (of_type I32 (local 2)) (of_type I32 (local 1)) loaded_one addend;
  alloca = λ e. cc;
  phi = λ e. cc;
  entered = refl;
  entries = λ bad. bad;
  uses = of_two IsBehind (used_at 0 1 (of_type I32 (local 2))) (used_at 0 1 (of_type I32 (local 1))) second_behind (param_behind 1 1 (omega arith));
}

store_sound : IsSoundInst adds 0 2 (Store I32 (local 3) (local 0) [])
store_sound = record {
  types = refl;
  operands = of_two IsOfAdds (of_type I32 (local 3)) (of_type Ptr (local 0)) sum address;
  alloca = λ e. cc;
  phi = λ e. cc;
  entered = refl;
  entries = λ bad. bad;
  uses = of_two IsBehind (used_at 0 2 (of_type I32 (local 3))) (used_at 0 2 (of_type Ptr (local 0))) (third_behind 0) (param_behind 2 0 (omega arith));
}

return_sound : IsSoundTerm adds 0 (Ret (Some (I32, local 3)) [])
return_sound = record {
  types = refl;
  operands = of_one IsOfAdds (of_type I32 (local 3)) sum;
  targets = λ first. in_none 0 first;
  uses = of_one IsBehind (used_at 0 3 (of_type I32 (local 3))) (third_behind 1);
}

inst_sound : (b k : ℕ) (x : Placed) → slice_get (insts_at adds.blocks b) k ≡ Some x → IsSoundInst adds b k x.inst
inst_sound zero zero x e = let one : giving 0 2 (Load I32 (local 0) []) ≡ x = cc in subst (λ (y : Placed). IsSoundInst adds 0 0 y.inst) one load_sound
inst_sound zero (suc zero) x e = let one : giving 1 3 (Bin Add no_flags I32 (local 2) (local 1) []) ≡ x = cc in subst (λ (y : Placed). IsSoundInst adds 0 1 y.inst) one sum_sound
inst_sound zero (suc (suc zero)) x e = let one : plain 2 (Store I32 (local 3) (local 0) []) ≡ x = cc in subst (λ (y : Placed). IsSoundInst adds 0 2 y.inst) one store_sound
inst_sound zero (suc (suc (suc k))) x e = let never : None ≡ Some x = e in cc
inst_sound (suc b) k x e = let never : None ≡ Some x = e in cc

term_sound : (b : ℕ) (x : Block) → slice_get adds.blocks b ≡ Some x → IsSoundTerm adds b x.term
term_sound zero x e = subst (λ (t : Term). IsSoundTerm adds 0 t) (ap term_in e) return_sound
term_sound (suc b) x e = let never : None ≡ Some x = e in cc

pub adds_sound : IsSoundFunc adds
adds_sound = record {
  closed = record { has_entry = omega arith; edges_in = λ a b e. absurd (no_edge a b e) };
  insts = inst_sound;
  terms = term_sound;
  reducible = λ b c w reached walk. absurd (no_edge c b walk.0);
}
