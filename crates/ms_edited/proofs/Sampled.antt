-- Edits of small functions.
use Rattle.std.proofs.Common.{◌≡◌, ◌∙◌, ◌<◌, ◌≤◌, ℕ, zero, suc, false, List, [], ◌∷◌, length, Some, refl, sym, ap, inl, inr, arith}
use Rattle.std.specs.Prelude.{slice_get}
use Rattle.std.proofs.lemmas.Bool.{true≢false}
use Rattle.ms_paths.specs.Flow.{IsMet}
use Rattle.ms_ir.specs.declared.names.Name.TheVariants.{Number, Absent}
use Rattle.ms_ir.specs.declared.names.LocalNo.{LocalNo}
use Rattle.ms_ir.specs.declared.names.Ty.{Ty}
use Rattle.ms_ir.specs.declared.names.Ty.TheVariants.{I32, Ptr}
use Rattle.ms_ir.specs.declared.names.Param.{Param}
use Rattle.ms_ir.specs.declared.inst.Val.TheVariants.{Num, Local}
use Rattle.ms_ir.specs.declared.inst.Inst.TheVariants.{Load, Store, Phi}
use Rattle.ms_ir.specs.declared.inst.Edit.{Edit}
use Rattle.ms_ir.specs.declared.inst.Edit.TheVariants.{Insert, Remove, Move, Unlink}
use Rattle.ms_ir.specs.declared.faults.EditFault.{EditFault}
use Rattle.ms_ir.specs.declared.faults.EditFault.TheVariants as fault
use Rattle.ms_ir.specs.Func.{Placed, FuncState, insts_at}
use Rattle.ms_ir.specs.Graph.{graph_of}
use Rattle.ms_ir.specs.Locals.{IsUngiven, HasType}
use Rattle.ms_ir.specs.Types.{is_phi}
use Rattle.ms_ir.specs.Uses.{Operand, of_type}
use Rattle.ms_ir.specs.Sound.{edges_between}
use Rattle.ms_ir.specs.Edits.{edited, HasFault, NamesNoLocal, IsRefused, IsFaultless, refusal_of, IsNoTarget, is_movable}
use Rattle.ms_edited.proofs.Ordered.{number, no_number, no_member, some_member, gives_none, diamond_givers, inserted_in_time, moved_in_time}
use Rattle.ms_edited.specs.Samples.{local, block_no, entry, stores, loads, diamond, guarded}

-- the fault is the one with the least number where none of those below it is there
refused : (f : FuncState) (e : Edit) (why : EditFault) → HasFault f e why
    → (11 < refusal_of why → HasFault f e fault.Name → ⊥) → (12 < refusal_of why → HasFault f e fault.Place → ⊥) → (13 < refusal_of why → HasFault f e fault.Kind → ⊥)
    → (14 < refusal_of why → HasFault f e fault.Types → ⊥) → (15 < refusal_of why → HasFault f e fault.Order → ⊥) → (16 < refusal_of why → HasFault f e fault.Used → ⊥) → IsRefused f e why
refused f e why has name place kind types order used = (has, others) where
  last : (w : EditFault) → HasFault f e w → 17 < refusal_of w → ⊥
  last fault.Name h lt = (let l : 17 < 11 = lt in omega arith)
  last fault.Place h lt = (let l : 17 < 12 = lt in omega arith)
  last fault.Kind h lt = (let l : 17 < 13 = lt in omega arith)
  last fault.Types h lt = (let l : 17 < 14 = lt in omega arith)
  last fault.Order h lt = (let l : 17 < 15 = lt in omega arith)
  last fault.Used h lt = (let l : 17 < 16 = lt in omega arith)
  last fault.NoEdge h lt = (let l : 17 < 17 = lt in omega arith)
  last fault.Memory h lt = h

  others : (other : EditFault) → refusal_of other < refusal_of why → HasFault f e other → ⊥
  others fault.Name lt = name lt
  others fault.Place lt = place lt
  others fault.Kind lt = kind lt
  others fault.Types lt = types lt
  others fault.Order lt = order lt
  others fault.Used lt = used lt
  others fault.NoEdge lt = absurd (last why has lt)
  others fault.Memory lt = λ h. h

past : {A : Type 0} (m n : ℕ) → n ≤ m → m < n → A → ⊥
past m n le lt a = omega arith

differ : (m n : ℕ) → m < n → m ≡ n → ⊥
differ m n lt e = omega arith

-- the condition and the pointer are the function's
has_params : (n : ℕ) (l : LocalNo) → n < 2 → local n ≡ Local l → length diamond.params ≤ l.0 → ⊥
has_params n l lt e le =
    let is : l.0 ≡ n = number n l e in
    let two : 2 ≤ l.0 = le in
    omega arith

stores_named : (k : ℕ) → NamesNoLocal diamond (stores k) → ⊥
stores_named k (o, l, (zero, lt, is), val, no_local) = no_number k l (ap (λ (q : Operand). q.val) is ∙ val)
stores_named k (o, l, (suc zero, lt, is), val, no_local) = has_params 1 l (omega arith) (ap (λ (q : Operand). q.val) is ∙ val) no_local.0
stores_named k (o, l, (suc (suc i), lt, is), val, no_local) = (let l : suc (suc i) < 2 = lt in omega arith)

pointer_named : NamesNoLocal diamond (Store I32 (local 1) (local 1) []) → ⊥
pointer_named (o, l, (zero, lt, is), val, no_local) = has_params 1 l (omega arith) (ap (λ (q : Operand). q.val) is ∙ val) no_local.0
pointer_named (o, l, (suc zero, lt, is), val, no_local) = has_params 1 l (omega arith) (ap (λ (q : Operand). q.val) is ∙ val) no_local.0
pointer_named (o, l, (suc (suc i), lt, is), val, no_local) = (let l : suc (suc i) < 2 = lt in omega arith)

same_inst : {A : Type 0} (F : Placed → A) (x y : Placed) → Some x ≡ Some y → F x ≡ F y
same_inst F x y e = ap F (some_member x y e)

-- the next local is none of the function's
next_ungiven : IsUngiven diamond.blocks (record { 0 = 4 })
next_ungiven b k x h = elim (diamond_givers (record { 0 = 4 }) b k x h) [
  | inl by ↦ differ 2 4 (omega arith) (sym by.0)
  | inr by ↦ differ 3 4 (omega arith) (sym by.0)
]

-- the second parameter is a pointer
pointer_type : (l : LocalNo) (ty : Ty) → l.0 ≡ 1 → HasType diamond l ty → ty ≡ Ptr
pointer_type l ty is (inl (p, found, of)) =
    let at : slice_get diamond.params 1 ≡ Some p = ap (slice_get diamond.params) (sym is) ∙ found in
    sym of ∙ sym (ap (λ (q : Param). q.ty) (some_member _ p at))
pointer_type l ty is (inr (b, k, x, h, of)) = elim (diamond_givers l b k x h) [
  | inl by ↦ absurd (differ 1 2 (omega arith) (sym is ∙ by.0))
  | inr by ↦ absurd (differ 1 3 (omega arith) (sym is ∙ by.0))
]

-- no phi stands in the first two blocks
no_phi : (insts : List Placed) → ((j : ℕ) (x : Placed) → slice_get insts j ≡ Some x → is_phi x.inst ≡ false) → IsNoTarget insts 0 → ⊥
no_phi insts none (inl (j, x, found, is, le)) = true≢false (sym is ∙ none j x found)
no_phi insts none (inr past_end) = omega arith

first_no_phi : (j : ℕ) (x : Placed) → slice_get (insts_at diamond.blocks 0) j ≡ Some x → is_phi x.inst ≡ false
first_no_phi zero x e = sym (same_inst (λ z. is_phi z.inst) _ x e)
first_no_phi (suc zero) x e = sym (same_inst (λ z. is_phi z.inst) _ x e)
first_no_phi (suc (suc j)) x e = cc

arm_no_phi : (j : ℕ) (x : Placed) → slice_get (insts_at diamond.blocks 1) j ≡ Some x → is_phi x.inst ≡ false
arm_no_phi zero x e = sym (same_inst (λ z. is_phi z.inst) _ x e)
arm_no_phi (suc j) x e = cc

-- ---- refusals

pub no_block_there : IsRefused diamond (Insert (block_no 3) 0 (stores 7) Absent) fault.Name
no_block_there = refused diamond (Insert (block_no 3) 0 (stores 7) Absent) fault.Name (inl (omega arith))
    (past 11 11 (omega arith)) (past 12 11 (omega arith)) (past 13 11 (omega arith)) (past 14 11 (omega arith)) (past 15 11 (omega arith)) (past 16 11 (omega arith))

pub no_local_there : IsRefused diamond (Insert (block_no 0) 0 (Load I32 (local 4) []) Absent) fault.Name
no_local_there = refused diamond (Insert (block_no 0) 0 (Load I32 (local 4) []) Absent) fault.Name
    (inr (inr (inl (of_type Ptr (local 4), record { 0 = 4 }, (0, omega arith, refl), refl, (omega arith, next_ungiven)))))
    (past 11 11 (omega arith)) (past 12 11 (omega arith)) (past 13 11 (omega arith)) (past 14 11 (omega arith)) (past 15 11 (omega arith)) (past 16 11 (omega arith))

pub no_source_there : IsRefused diamond (Insert (block_no 0) 0 (Phi I32 (entry (Num I32 0) 5 ∷ []) []) Absent) fault.Name
no_source_there = refused diamond (Insert (block_no 0) 0 (Phi I32 (entry (Num I32 0) 5 ∷ []) []) Absent) fault.Name
    (inr (inl (entry (Num I32 0) 5, (0, omega arith, refl), omega arith)))
    (past 11 11 (omega arith)) (past 12 11 (omega arith)) (past 13 11 (omega arith)) (past 14 11 (omega arith)) (past 15 11 (omega arith)) (past 16 11 (omega arith))

pub name_taken : IsRefused diamond (Insert (block_no 0) 0 loads (Number 5)) fault.Name
name_taken = refused diamond (Insert (block_no 0) 0 loads (Number 5)) fault.Name
    (inr (inr (inr (refl, ((λ e. cc), inr (1, (_, refl, refl)))))))
    (past 11 11 (omega arith)) (past 12 11 (omega arith)) (past 13 11 (omega arith)) (past 14 11 (omega arith)) (past 15 11 (omega arith)) (past 16 11 (omega arith))

-- a store has no result that could be named
pub before_phi : IsRefused diamond (Insert (block_no 2) 0 (stores 7) (Number 5)) fault.Place
before_phi = refused diamond (Insert (block_no 2) 0 (stores 7) (Number 5)) fault.Place
    (inl (0, _, refl, refl, omega arith))
    (λ lt. no_name) (past 12 12 (omega arith)) (past 13 12 (omega arith)) (past 14 12 (omega arith)) (past 15 12 (omega arith)) (past 16 12 (omega arith)) where
      no_name : HasFault diamond (Insert (block_no 2) 0 (stores 7) (Number 5)) fault.Name → ⊥
      no_name (inl h) = (let l : 3 ≤ 2 = h in omega arith)
      no_name (inr (inl h)) = h
      no_name (inr (inr (inl h))) = stores_named 7 h
      no_name (inr (inr (inr h))) = true≢false (sym h.0)

pub past_end : IsRefused diamond (Move (block_no 0) 0 (block_no 0) 2) fault.Place
past_end = refused diamond (Move (block_no 0) 0 (block_no 0) 2) fault.Place
    (inr (inr (omega arith)))
    (λ lt. no_name) (past 12 12 (omega arith)) (past 13 12 (omega arith)) (past 14 12 (omega arith)) (past 15 12 (omega arith)) (past 16 12 (omega arith)) where
      no_name : HasFault diamond (Move (block_no 0) 0 (block_no 0) 2) fault.Name → ⊥
      no_name (inl h) = (let l : 3 ≤ 0 = h in omega arith)
      no_name (inr h) = (let l : 3 ≤ 0 = h in omega arith)

pub phi_stays : IsRefused diamond (Remove (block_no 2) 0) fault.Kind
phi_stays = refused diamond (Remove (block_no 2) 0) fault.Kind
    (_, refl, refl)
    (λ lt h. (let l : 3 ≤ 2 = h in omega arith)) (λ lt h. (let l : 1 ≤ 0 = h in omega arith))
    (past 13 13 (omega arith)) (past 14 13 (omega arith)) (past 15 13 (omega arith)) (past 16 13 (omega arith))

pub phi_without_edge : IsRefused guarded (Unlink (block_no 0) 0) fault.Kind
phi_without_edge = refused guarded (Unlink (block_no 0) 0) fault.Kind
    (tt, omega arith, ((0, _, refl, refl), none))
    (λ lt h. (let l : 3 ≤ 0 = h in omega arith)) (λ lt h. h)
    (past 13 13 (omega arith)) (past 14 13 (omega arith)) (past 15 13 (omega arith)) (past 16 13 (omega arith)) where
      none : (a : ℕ) → edges_between (edited guarded (Unlink (block_no 0) 0)).blocks a 1 ≡ 0
      none zero = refl
      none (suc zero) = refl
      none (suc (suc zero)) = refl
      none (suc (suc (suc a))) = refl

pub pointer_stored : IsRefused diamond (Insert (block_no 0) 0 (Store I32 (local 1) (local 1) []) Absent) fault.Types
pointer_stored = refused diamond (Insert (block_no 0) 0 (Store I32 (local 1) (local 1) []) Absent) fault.Types
    (of_type I32 (local 1), (0, omega arith, refl), (record { 0 = 1 }, Ptr, refl, inl (_, refl, refl), (λ e. cc)))
    (λ lt. no_name) (λ lt. no_phi (insts_at diamond.blocks 0) first_no_phi) (λ lt h. true≢false h)
    (past 14 14 (omega arith)) (past 15 14 (omega arith)) (past 16 14 (omega arith)) where
      no_name : HasFault diamond (Insert (block_no 0) 0 (Store I32 (local 1) (local 1) []) Absent) fault.Name → ⊥
      no_name (inl h) = (let l : 3 ≤ 0 = h in omega arith)
      no_name (inr (inl h)) = h
      no_name (inr (inr (inl h))) = pointer_named h
      no_name (inr (inr (inr h))) = true≢false (sym h.0)

-- the load's result comes into the phi from the first block
pub used_too_early : IsRefused diamond (Move (block_no 0) 1 (block_no 1) 0) fault.Order
used_too_early = refused diamond (Move (block_no 0) 1 (block_no 1) 0) fault.Order (
  record { block = 0; place = 1; val = local 2 },
  inl (2, 0, _, refl, (0, omega arith, refl)),
  (
    [],
    record {
      local = record { 0 = 2 };
      is_local = refl;
      block = 1;
      place = 0;
      giver = _;
      gives = record { found = refl; gives = refl };
      path_is = refl;
      not_met = not_met;
    },
  ),
)
    (λ lt. no_name) (λ lt. no_place) (λ lt h. true≢false (same_inst (λ z. is_movable z.inst) _ h.0 h.1 ∙ h.2)) (λ lt h. h)
    (past 15 15 (omega arith)) (past 16 15 (omega arith)) where
      not_met : IsMet (graph_of (edited diamond (Move (block_no 0) 1 (block_no 1) 0)).blocks) 1 0 1 [] → ⊥
      not_met (inl (zero, lt, is)) = differ 0 1 (omega arith) is
      not_met (inl (suc k, lt, is)) = (let l : suc k < 1 = lt in omega arith)
      not_met (inr (a, (k, lt, is), there)) = (let l : k < 0 = lt in omega arith)

      no_name : HasFault diamond (Move (block_no 0) 1 (block_no 1) 0) fault.Name → ⊥
      no_name (inl h) = (let l : 3 ≤ 0 = h in omega arith)
      no_name (inr h) = (let l : 3 ≤ 1 = h in omega arith)

      no_place : HasFault diamond (Move (block_no 0) 1 (block_no 1) 0) fault.Place → ⊥
      no_place (inl h) = (let l : 2 ≤ 1 = h in omega arith)
      no_place (inr h) = no_phi (insts_at diamond.blocks 1) arm_no_phi h

pub load_used : IsRefused diamond (Remove (block_no 0) 1) fault.Used
load_used = refused diamond (Remove (block_no 0) 1) fault.Used
    (_, record { 0 = 2 }, refl, refl, inl (2, 0, _, refl, of_type I32 (local 2), (0, omega arith, refl), refl))
    (λ lt h. (let l : 3 ≤ 0 = h in omega arith)) (λ lt h. (let l : 2 ≤ 1 = h in omega arith)) (λ lt h. true≢false (same_inst (λ z. is_movable z.inst) _ h.0 h.1 ∙ h.2)) (λ lt h. h) (λ lt h. h)
    (past 16 16 (omega arith))

pub no_fork : IsRefused diamond (Unlink (block_no 1) 0) fault.NoEdge
no_fork = refused diamond (Unlink (block_no 1) 0) fault.NoEdge (inl (λ h. h))
    (λ lt h. (let l : 3 ≤ 1 = h in omega arith)) (λ lt h. h) (λ lt h. h.0) (λ lt h. h) (λ lt h. h) (λ lt h. h)

pub no_slot : IsRefused diamond (Unlink (block_no 0) 2) fault.NoEdge
no_slot = refused diamond (Unlink (block_no 0) 2) fault.NoEdge (inr (omega arith))
    (λ lt h. (let l : 3 ≤ 0 = h in omega arith)) (λ lt h. h) (λ lt h. (let l : 2 < 2 = h.1 in omega arith)) (λ lt h. h) (λ lt h. h) (λ lt h. h)

-- ---- edits without a fault

pub insert_fine : IsFaultless diamond (Insert (block_no 2) 1 (stores 7) Absent)
insert_fine fault.Name (inl h) = (let l : 3 ≤ 2 = h in omega arith)
insert_fine fault.Name (inr (inl h)) = h
insert_fine fault.Name (inr (inr (inl h))) = stores_named 7 h
insert_fine fault.Name (inr (inr (inr h))) = h.1.0 refl
insert_fine fault.Place (inl (zero, x, found, is, le)) = (let l : 1 ≤ 0 = le in omega arith)
insert_fine fault.Place (inl (suc j, x, found, is, le)) = no_member x found
insert_fine fault.Place (inr h) = (let l : 1 < 1 = h in omega arith)
insert_fine fault.Kind h = true≢false h
insert_fine fault.Types (o, (zero, lt, is), (l, ty, val, of, other)) = no_number 7 l (ap (λ (q : Operand). q.val) is ∙ val)
insert_fine fault.Types (o, (suc zero, lt, is), (l, ty, val, of, other)) =
    other (pointer_type l ty (number 1 l (ap (λ (q : Operand). q.val) is ∙ val)) of ∙ ap (λ (q : Operand). q.ty) is)
insert_fine fault.Types (o, (suc (suc k), lt, is), h) = (let l : suc (suc k) < 2 = lt in omega arith)
insert_fine fault.Order (u, used, before) = inserted_in_time u used before
insert_fine fault.Used h = h
insert_fine fault.NoEdge h = h
insert_fine fault.Memory h = h

pub move_fine : IsFaultless diamond (Move (block_no 0) 0 (block_no 0) 1)
move_fine fault.Name (inl h) = (let l : 3 ≤ 0 = h in omega arith)
move_fine fault.Name (inr h) = (let l : 3 ≤ 0 = h in omega arith)
move_fine fault.Place (inl h) = (let l : 2 ≤ 0 = h in omega arith)
move_fine fault.Place (inr (inl (zero, x, found, is, le))) = (let l : 1 ≤ 0 = le in omega arith)
move_fine fault.Place (inr (inl (suc j, x, found, is, le))) = no_member x found
move_fine fault.Place (inr (inr h)) = (let l : 1 < 1 = h in omega arith)
move_fine fault.Kind h = true≢false (same_inst (λ z. is_movable z.inst) _ h.0 h.1 ∙ h.2)
move_fine fault.Types h = h
move_fine fault.Order (u, used, before) = moved_in_time u used before
move_fine fault.Used h = h
move_fine fault.NoEdge h = h
move_fine fault.Memory h = h

pub remove_fine : IsFaultless diamond (Remove (block_no 1) 0)
remove_fine fault.Name h = (let l : 3 ≤ 1 = h in omega arith)
remove_fine fault.Place h = (let l : 1 ≤ 0 = h in omega arith)
remove_fine fault.Kind h = true≢false (same_inst (λ z. is_movable z.inst) _ h.0 h.1 ∙ h.2)
remove_fine fault.Types h = h
remove_fine fault.Order h = h
remove_fine fault.Used h = gives_none _ h.0 h.1 h.2 refl h.3
remove_fine fault.NoEdge h = h
remove_fine fault.Memory h = h

pub unlink_fine : IsFaultless diamond (Unlink (block_no 0) 1)
unlink_fine fault.Name h = (let l : 3 ≤ 0 = h in omega arith)
unlink_fine fault.Place h = h
unlink_fine fault.Kind h = differ 0 1 (omega arith) (sym (h.2.1 1))
unlink_fine fault.Types h = h
unlink_fine fault.Order h = h
unlink_fine fault.Used h = h
unlink_fine fault.NoEdge (inl h) = h tt
unlink_fine fault.NoEdge (inr h) = (let l : 2 ≤ 1 = h in omega arith)
unlink_fine fault.Memory h = h
