-- The least of several faults.
use Rattle.std.proofs.Common.{◌≡◌, ◌∙◌, ◌+◌, ◌<◌, ℕ, zero, suc, refl, sym, ap, subst, inl, inr, arith}
use Rattle.std.proofs.lemmas.Bool.{cases_eq}
use Rattle.ms_ir.specs.declared.inst.Edit.{Edit}
use Rattle.ms_ir.specs.declared.faults.EditFault.{EditFault}
use Rattle.ms_ir.specs.declared.faults.EditFault.TheVariants.{Name, Place, Kind, Types, Order, Used, NoEdge, Memory}
use Rattle.ms_ir.specs.Func.{FuncState}
use Rattle.ms_ir.specs.Edits.{HasFault, IsFaultless, refusal_of}

abbrev rank : EditFault → ℕ
rank Name = 0
rank Place = 1
rank Kind = 2
rank Types = 3
rank Order = 4
rank Used = 5
rank NoEdge = 6
rank Memory = 7

abbrev fault_at : ℕ → EditFault
fault_at zero = Name
fault_at (suc zero) = Place
fault_at (suc (suc zero)) = Kind
fault_at (suc (suc (suc zero))) = Types
fault_at (suc (suc (suc (suc zero)))) = Order
fault_at (suc (suc (suc (suc (suc zero))))) = Used
fault_at (suc (suc (suc (suc (suc (suc zero)))))) = NoEdge
fault_at (suc (suc (suc (suc (suc (suc (suc n))))))) = Memory

rank_back : (why : EditFault) → fault_at (rank why) ≡ why
rank_back Name = refl
rank_back Place = refl
rank_back Kind = refl
rank_back Types = refl
rank_back Order = refl
rank_back Used = refl
rank_back NoEdge = refl
rank_back Memory = refl

ranked : (why : EditFault) → refusal_of why ≡ 11 + rank why
ranked Name = refl
ranked Place = refl
ranked Kind = refl
ranked Types = refl
ranked Order = refl
ranked Used = refl
ranked NoEdge = refl
ranked Memory = refl

low_rank : (why : EditFault) → rank why < 8
low_rank Name = omega arith
low_rank Place = omega arith
low_rank Kind = omega arith
low_rank Types = omega arith
low_rank Order = omega arith
low_rank Used = omega arith
low_rank NoEdge = omega arith
low_rank Memory = omega arith

one_fault : (a b : EditFault) → refusal_of a ≡ refusal_of b → a ≡ b
one_fault a b e =
    let same : rank a ≡ rank b = (let x = ranked a in let y = ranked b in omega (arith, e, x, y)) in
    sym (rank_back a) ∙ ap fault_at same ∙ rank_back b

-- no fault with a lesser number
abbrev pub NoneLess : FuncState → Edit → EditFault → Type 0
NoneLess f e why = (other : EditFault) → refusal_of other < refusal_of why → HasFault f e other → ⊥

pub none_less : (f : FuncState) (e : Edit) → NoneLess f e Name
none_less f e other lt h = (let r = ranked other in let l : refusal_of other < 11 = lt in omega (arith, r, l))

none_next : (f : FuncState) (e : Edit) (a b : EditFault) → refusal_of b ≡ suc (refusal_of a) → NoneLess f e a → (HasFault f e a → ⊥) → NoneLess f e b
none_next f e a b next none not other lt h = elim (cases_eq (refusal_of other) (refusal_of a)) [
  | inl same ↦ not (subst (λ (w : EditFault). HasFault f e w) (one_fault other a same) h)
  | inr ne ↦ none other (omega (arith, ne, lt, next)) h
]

no_fault : (f : FuncState) (e : Edit) → NoneLess f e Memory → IsFaultless f e
no_fault f e none why h = elim (cases_eq (refusal_of why) (refusal_of Memory)) [
  | inl same ↦ (let gone : HasFault f e Memory = subst (λ (w : EditFault). HasFault f e w) (one_fault why Memory same) h in gone)
  | inr ne ↦
      let r = ranked why in
      let low = low_rank why in
      let last = ranked Memory in
      let top : rank Memory ≡ 7 = refl in
      none why (omega (arith, ne, r, low, last, top)) h
]

-- the faults in their order

pub to_place : (f : FuncState) (e : Edit) → (HasFault f e Name → ⊥) → NoneLess f e Place
to_place f e name = none_next f e Name Place refl (none_less f e) name

pub to_kind : (f : FuncState) (e : Edit) → (HasFault f e Name → ⊥) → (HasFault f e Place → ⊥) → NoneLess f e Kind
to_kind f e name place = none_next f e Place Kind refl (to_place f e name) place

pub to_types : (f : FuncState) (e : Edit) → (HasFault f e Name → ⊥) → (HasFault f e Place → ⊥) → (HasFault f e Kind → ⊥) → NoneLess f e Types
to_types f e name place kind = none_next f e Kind Types refl (to_kind f e name place) kind

pub to_order : (f : FuncState) (e : Edit) → (HasFault f e Name → ⊥) → (HasFault f e Place → ⊥) → (HasFault f e Kind → ⊥) → (HasFault f e Types → ⊥) → NoneLess f e Order
to_order f e name place kind types = none_next f e Types Order refl (to_types f e name place kind) types

pub to_used : (f : FuncState) (e : Edit) → NoneLess f e Order → (HasFault f e Order → ⊥) → NoneLess f e Used
to_used f e none order = none_next f e Order Used refl none order

pub to_edge : (f : FuncState) (e : Edit) → NoneLess f e Order → (HasFault f e Order → ⊥) → (HasFault f e Used → ⊥) → NoneLess f e NoEdge
to_edge f e none order used = none_next f e Used NoEdge refl (to_used f e none order) used

pub faultless : (f : FuncState) (e : Edit) → NoneLess f e Order → (HasFault f e Order → ⊥) → (HasFault f e Used → ⊥) → (HasFault f e NoEdge → ⊥) → IsFaultless f e
faultless f e none order used edge = no_fault f e (none_next f e NoEdge Memory refl (to_edge f e none order used) edge)
