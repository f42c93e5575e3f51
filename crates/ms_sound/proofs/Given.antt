-- Which locals a step gives a value, and where a pointer among them comes from.
use Rattle.std.proofs.Common.{◌≡◌, ◌∙◌, ◌⊎◌, ℕ, zero, suc, ℤ, pos, ◌+ℤ◌, Bool, true, false, cond, List, [], ◌∷◌, length, Option, Some, None, refl, sym, ap, subst, inl, inr, ⊎_elim, arith}
use Rattle.std.specs.Prelude.{Contains, slice_get, ◌==◌, ◌&&◌, not}
use Rattle.std.proofs.lemmas.Bool.{eqb-true, cases_Bool, and_parts}
use Rattle.ms_paths.specs.Flow.{HasEdge}
use Rattle.ms_ir.specs.declared.names.Ty.{Ty}
use Rattle.ms_ir.specs.declared.names.Ty.TheVariants.{I1, I8, I16, I32, I64, Ptr}
use Rattle.ms_ir.specs.declared.names.LocalNo.{LocalNo}
use Rattle.ms_ir.specs.declared.inst.Val.{Val}
use Rattle.ms_ir.specs.declared.inst.Entry.{Entry}
use Rattle.ms_ir.specs.declared.inst.Arg.{Arg}
use Rattle.ms_ir.specs.declared.inst.Effects.{Effects}
use Rattle.ms_ir.specs.declared.names.FuncNo.{FuncNo}
use Rattle.ms_ir.specs.declared.inst.Inst.{Inst}
use Rattle.ms_ir.specs.declared.inst.Inst.TheVariants.{Alloca, Gep, Step as StepInst, Load, Store, Copy, Call, Bin, Cmp, Select, Cast, Phi}
use Rattle.ms_ir.specs.Func.{Placed, FuncState, insts_at}
use Rattle.ms_ir.specs.Graph.{graph_of}
use Rattle.ms_alias.specs.Roots.{is_pointer}
use Rattle.ms_alias.proofs.Makers.{pick, is_number}
use Rattle.ms_meaning.specs.Values.{Byte, Value, bytes_of, Number, Pointer, bits, type_of, loaded, size_of, is_integer}
use Rattle.ms_meaning.specs.Operations.{operated, compared, converted}
use Rattle.ms_meaning.specs.Memory.{read, spread, has_bytes, object_at, overlap_in_part}
use Rattle.ms_meaning.specs.States.{State, Answer, Made, value_of, value_as, operand_of, with_local, number_as}
use Rattle.ms_meaning.specs.Calls.{values_of, escaped_with, is_result, are_reached}
use Rattle.ms_meaning.specs.Steps.{Deed, quiet, gives, Doing, Does, Waits, Fails, doing, from_one, from_two, gives_number, gives_bytes, loads, stores, copies, writes_bytes, chooses, moves, moves_by, terms_bytes, calls, answered, made_call, is_offset, with_result, is_phi, with_phi, with_phis, phi_value, value_from}
use Rattle.ms_meaning.proofs.Goes.{Goes, ran, left}

-- The pointer that an instruction gives comes from one of these. A getelementptr with terms may add any number of bytes.
abbrev pub MadeFrom : State → Inst → ℕ → ℤ → Type 0
MadeFrom t (Alloca size head tail) o at = (o ≡ length t.objects) × (at ≡ pos 0)
MadeFrom t (Gep base offset head index tail) o at = (from : ℤ) × (operand_of t.locals Ptr base ≡ Some (Pointer o from)) × (at ≡ from +ℤ offset)
MadeFrom t (StepInst base offset terms head index tail) o at = (from : ℤ) × (operand_of t.locals Ptr base ≡ Some (Pointer o from))
MadeFrom t (Select cond ty a b tail) o at = (is_pointer ty ≡ true) × ((operand_of t.locals ty a ≡ Some (Pointer o at)) ⊎ (operand_of t.locals ty b ≡ Some (Pointer o at)))
MadeFrom t (Phi ty entries tail) o at = (is_pointer ty ≡ true) × (e : Entry) × Contains entries e × (operand_of t.locals ty e.val ≡ Some (Pointer o at))
MadeFrom t (Load ty ptr tail) o at = ⊥
MadeFrom t (Store ty val ptr tail) o at = ⊥
MadeFrom t (Copy to from len head tail) o at = ⊥
MadeFrom t (Call callee ret args effects head tail) o at = ⊥
MadeFrom t (Bin op flags ty a b tail) o at = ⊥
MadeFrom t (Cmp pred flags ty a b tail) o at = ⊥
MadeFrom t (Cast op flags from a to tail) o at = ⊥

no_bits : (ty : Ty) → bits ty ≡ 0 → is_pointer ty ≡ true
no_bits I1 e = cc
no_bits I8 e = cc
no_bits I16 e = cc
no_bits I32 e = cc
no_bits I64 e = cc
no_bits Ptr e = refl

-- an operand's value is the value, which has the type
pub operand_value : (ty : Ty) (o : Option Value) (v : Value) → value_as ty o ≡ Some v → (o ≡ Some v) × (bits (type_of v) ≡ bits ty)
operand_value ty None v e = cc
operand_value ty (Some w) v e =
    ⊎_elim
    (λ (t : (bits (type_of w) == bits ty ≡ true) × (Some w ≡ Some v)). let is : w ≡ v = (let u = t.1 in cc) in (t.1, sym (ap (λ x. bits (type_of x)) is) ∙ eqb-true (bits (type_of w)) (bits ty) t.0))
    (λ (f : (bits (type_of w) == bits ty ≡ false) × (None ≡ Some v)). let u = f.1 in cc)
    (pick (bits (type_of w) == bits ty) (Some w) None (Some v) e)

pub pointer_typed : (t : State) (ty : Ty) (v : Val) (o : ℕ) (at : ℤ) → operand_of t.locals ty v ≡ Some (Pointer o at) → is_pointer ty ≡ true
pointer_typed t ty v o at e = no_bits ty (sym (operand_value ty (value_of t.locals v) (Pointer o at) e).1)

-- the value that is given
abbrev value_in : Doing → Option Value
value_in (Does d) = d.value
value_in (Waits made) = None
value_in Fails = None

abbrev IsPointerIn : Doing → ℕ → ℤ → Type 0
IsPointerIn d o at = value_in d ≡ Some (Pointer o at)

number_in : (t : State) (ty : Ty) (n : Option ℕ) (o : ℕ) (at : ℤ) → IsPointerIn (gives_number t ty n) o at → ⊥
number_in t ty None o at e = cc
number_in t ty (Some n) o at e = cc

bytes_in : (t : State) (ty : Ty) (bytes : Option (List Byte)) (o : ℕ) (at : ℤ) → IsPointerIn (gives_bytes t ty bytes) o at → ⊥
bytes_in t ty None o at e = cc
bytes_in t ty (Some bytes) o at e = number_in t ty (loaded ty bytes) o at e

load_if : (t : State) (ty : Ty) (i : Bool) (bytes : Option (List Byte)) (o : ℕ) (at : ℤ) → IsPointerIn (cond i (gives_bytes t ty bytes) Fails) o at → ⊥
load_if t ty true bytes o at e = bytes_in t ty bytes o at e
load_if t ty false bytes o at e = cc

load_in : (t : State) (ty : Ty) (v : Option Value) (o : ℕ) (at : ℤ) → IsPointerIn (loads t ty v) o at → ⊥
load_in t ty None o at e = cc
load_in t ty (Some (Number u n)) o at e = cc
load_in t ty (Some (Pointer p from)) o at e = load_if t ty (is_integer ty) (read t.objects p from (size_of ty)) o at e

quiet_if : (b : Bool) (d : Doing) (o : ℕ) (at : ℤ) → (IsPointerIn d o at → ⊥) → IsPointerIn (cond b d Fails) o at → ⊥
quiet_if true d o at never e = never e
quiet_if false d o at never e = cc

store_in : (t : State) (ty : Ty) (n : Option ℕ) (v : Option Value) (o : ℕ) (at : ℤ) → IsPointerIn (stores t ty n v) o at → ⊥
store_in t ty None v o at e = cc
store_in t ty (Some n) None o at e = cc
store_in t ty (Some n) (Some (Number u m)) o at e = cc
store_in t ty (Some n) (Some (Pointer p from)) o at e =
    quiet_if (has_bytes (object_at t.objects p) from (size_of ty)) (quiet t None (spread p from (bytes_of (size_of ty) n)) []) o at (λ h. cc) e

copied_in : (t : State) (p : ℕ) (from : ℤ) (bytes : Option (List Byte)) (o : ℕ) (at : ℤ) → IsPointerIn (writes_bytes t p from bytes) o at → ⊥
copied_in t p from None o at e = cc
copied_in t p from (Some bytes) o at e = cc

copy_in : (t : State) (to from : Option Value) (len : ℕ) (o : ℕ) (at : ℤ) → IsPointerIn (copies t to from len) o at → ⊥
copy_in t None from len o at e = cc
copy_in t (Some (Number u n)) from len o at e = cc
copy_in t (Some (Pointer p to)) None len o at e = cc
copy_in t (Some (Pointer p to)) (Some (Number u n)) len o at e = cc
copy_in t (Some (Pointer p to)) (Some (Pointer q from)) len o at e =
    quiet_if (has_bytes (object_at t.objects p) to len && not (overlap_in_part p to q from len)) (writes_bytes t p to (read t.objects q from len)) o at
    (copied_in t p to (read t.objects q from len) o at) e

result_in : (ret : Option Ty) (v : Option Value) (o : ℕ) (at : ℤ) → is_result ret v ≡ true → v ≡ Some (Pointer o at) → ⊥
result_in None v o at r e = let x : is_result None (Some (Pointer o at)) ≡ true = ap (is_result None) (sym e) ∙ r in cc
result_in (Some ty) v o at r e = let x : is_result (Some ty) (Some (Pointer o at)) ≡ true = ap (is_result (Some ty)) (sym e) ∙ r in cc

call_if : (ret : Option Ty) (v : Option Value) (b : Bool) (d : Deed) (o : ℕ) (at : ℤ) → d.value ≡ v → IsPointerIn (cond (is_result ret v && b) (Does d) Fails) o at → ⊥
call_if ret v b d o at is e =
    ⊎_elim
    (λ (t : (is_result ret v && b) ≡ true). let u : d.value ≡ Some (Pointer o at) = subst (λ c. IsPointerIn (cond c (Does d) Fails) o at) t e in result_in ret v o at (and_parts (is_result ret v) b t).0 (sym is ∙ u))
    (λ (f : (is_result ret v && b) ≡ false). let u : None ≡ Some (Pointer o at) = subst (λ c. IsPointerIn (cond c (Does d) Fails) o at) f e in cc)
    (cases_Bool (is_result ret v && b))

answer_in : (t : State) (ret : Option Ty) (args : List Arg) (e : Effects) (values : List Value) (made : Made) (answers : List Answer) (o : ℕ) (at : ℤ) → IsPointerIn (answered t ret args e values made answers) o at → ⊥
answer_in t ret args e values made [] o at h = cc
answer_in t ret args e values made (a ∷ answers) o at h =
    call_if ret a.result (are_reached t e args values a.writes)
    (record { value = a.result; writes = a.writes; objects = []; calls = made ∷ []; escaped = escaped_with t args values; answers = answers }) o at refl h

call_in : (t : State) (callee : FuncNo) (ret : Option Ty) (args : List Arg) (e : Effects) (values : Option (List Value)) (o : ℕ) (at : ℤ) → IsPointerIn (calls t callee ret args e values) o at → ⊥
call_in t callee ret args e None o at h = cc
call_in t callee ret args e (Some values) o at h = answer_in t ret args e values (made_call t callee args e values) t.answers o at h

moved_if : (t : State) (b : Bool) (p : ℕ) (to : ℤ) (o : ℕ) (at : ℤ) → IsPointerIn (cond b (gives t (Pointer p to)) Fails) o at → (p ≡ o) × (to ≡ at)
moved_if t true p to o at e = ((let x = e in cc), (let x = e in cc))
moved_if t false p to o at e = cc

moved_in : (t : State) (v : Option Value) (by : ℤ) (o : ℕ) (at : ℤ) → IsPointerIn (moves t v by) o at → (from : ℤ) × (v ≡ Some (Pointer o from)) × (at ≡ from +ℤ by)
moved_in t None by o at e = cc
moved_in t (Some (Number u n)) by o at e = cc
moved_in t (Some (Pointer p from)) by o at e =
    let h = moved_if t (is_offset (from +ℤ by)) p (from +ℤ by) o at e in (from, ap (λ q. Some (Pointer q from)) h.0, sym h.1)

moved_by_in : (t : State) (v : Option Value) (offset : ℤ) (by : Option ℤ) (o : ℕ) (at : ℤ) → IsPointerIn (moves_by t v offset by) o at → (from : ℤ) × (v ≡ Some (Pointer o from))
moved_by_in t v offset None o at e = cc
moved_by_in t v offset (Some by) o at e = let h = moved_in t v (offset +ℤ by) o at e in (h.0, h.1)

chosen_in : (t : State) (n : Option ℕ) (a b : Option Value) (o : ℕ) (at : ℤ) → IsPointerIn (chooses t n a b) o at → (a ≡ Some (Pointer o at)) ⊎ (b ≡ Some (Pointer o at))
chosen_in t None a b o at e = cc
chosen_in t (Some n) None b o at e = cc
chosen_in t (Some n) (Some a) None o at e = cc
chosen_in t (Some n) (Some a) (Some b) o at e = chosen_if (n == 0) a b e where
  chosen_if : (z : Bool) (a b : Value) → Some (cond z b a) ≡ Some (Pointer o at) → (Some a ≡ Some (Pointer o at)) ⊎ (Some b ≡ Some (Pointer o at))
  chosen_if true a b h = inr h
  chosen_if false a b h = inl h

doing_in : (t : State) (inst : Inst) (o : ℕ) (at : ℤ) → IsPointerIn (doing t inst) o at → MadeFrom t inst o at
doing_in t (Alloca size head tail) o at e = (sym (let x : length t.objects ≡ o = cc in x), sym (let x : pos 0 ≡ at = cc in x))
doing_in t (Gep base offset head index tail) o at e = moved_in t (operand_of t.locals Ptr base) offset o at e
doing_in t (StepInst base offset terms head index tail) o at e = moved_by_in t (operand_of t.locals Ptr base) offset (terms_bytes t.locals terms) o at e
doing_in t (Load ty ptr tail) o at e = load_in t ty (operand_of t.locals Ptr ptr) o at e
doing_in t (Store ty val ptr tail) o at e = store_in t ty (number_as ty (value_of t.locals val)) (operand_of t.locals Ptr ptr) o at e
doing_in t (Copy to from len head tail) o at e = copy_in t (operand_of t.locals Ptr to.val) (operand_of t.locals Ptr from.val) len o at e
doing_in t (Call callee ret args effects head tail) o at e = call_in t callee ret args effects (values_of t.locals args) o at e
doing_in t (Bin op flags ty a b tail) o at e = number_in t ty (from_two (operated op flags (bits ty)) (number_as ty (value_of t.locals a)) (number_as ty (value_of t.locals b))) o at e
doing_in t (Cmp pred flags ty a b tail) o at e = number_in t I1 (from_two (compared pred flags (bits ty)) (number_as ty (value_of t.locals a)) (number_as ty (value_of t.locals b))) o at e
doing_in t (Select cond ty a b tail) o at e =
    let h = chosen_in t (number_as I1 (value_of t.locals cond)) (operand_of t.locals ty a) (operand_of t.locals ty b) o at e in
    (⊎_elim (λ (x : operand_of t.locals ty a ≡ Some (Pointer o at)). pointer_typed t ty a o at x) (λ (x : operand_of t.locals ty b ≡ Some (Pointer o at)). pointer_typed t ty b o at x) h, h)
doing_in t (Cast op flags from a to tail) o at e = number_in t to (from_one (converted op flags (bits from) (bits to)) (number_as from (value_of t.locals a))) o at e
doing_in t (Phi ty entries tail) o at e = cc

-- a deed that gives a pointer
pub deed_from : (t : State) (inst : Inst) (d : Deed) (o : ℕ) (at : ℤ) → doing t inst ≡ Does d → d.value ≡ Some (Pointer o at) → MadeFrom t inst o at
deed_from t inst d o at is e = doing_in t inst o at (ap value_in is ∙ e)

-- the value that comes into a phi
entry_from : (t : State) (ty : Ty) (a : ℕ) (entries : List Entry) (o : ℕ) (at : ℤ) → value_from t.locals ty a entries ≡ Some (Pointer o at) →
    (e : Entry) × Contains entries e × (operand_of t.locals ty e.val ≡ Some (Pointer o at))
entry_from t ty a [] o at h = cc
entry_from t ty a (e ∷ entries) o at h =
    ⊎_elim
    (λ (here : (e.from.0 == a ≡ true) × (operand_of t.locals ty e.val ≡ Some (Pointer o at))). (e, (zero, omega arith, refl), here.1))
    (λ (later : (e.from.0 == a ≡ false) × (value_from t.locals ty a entries ≡ Some (Pointer o at))).
    let rest = entry_from t ty a entries o at later.1 in
    (rest.0, (suc rest.1.0, omega arith, rest.1.2), rest.2))
    (pick (e.from.0 == a) (operand_of t.locals ty e.val) (value_from t.locals ty a entries) (Some (Pointer o at)) h)

pub phi_from : (t : State) (a : ℕ) (inst : Inst) (o : ℕ) (at : ℤ) → phi_value t.locals a inst ≡ Some (Pointer o at) → MadeFrom t inst o at
phi_from t a (Phi ty entries tail) o at h = let e = entry_from t ty a entries o at h in (pointer_typed t ty e.0.val o at e.2, e.0, e.1, e.2)
phi_from t a (Alloca size head tail) o at h = cc
phi_from t a (Gep base offset head index tail) o at h = cc
phi_from t a (StepInst base offset terms head index tail) o at h = cc
phi_from t a (Load ty ptr tail) o at h = cc
phi_from t a (Store ty val ptr tail) o at h = cc
phi_from t a (Copy to from len head tail) o at h = cc
phi_from t a (Call callee ret args effects head tail) o at h = cc
phi_from t a (Bin op flags ty x y tail) o at h = cc
phi_from t a (Cmp pred flags ty x y tail) o at h = cc
phi_from t a (Select cond ty x y tail) o at h = cc
phi_from t a (Cast op flags from x to tail) o at h = cc

pub is_no_phi : (t : State) (inst : Inst) (d : Deed) → doing t inst ≡ Does d → is_phi inst ≡ false
is_no_phi t (Phi ty entries tail) d h = cc
is_no_phi t (Alloca size head tail) d h = refl
is_no_phi t (Gep base offset head index tail) d h = refl
is_no_phi t (StepInst base offset terms head index tail) d h = refl
is_no_phi t (Load ty ptr tail) d h = refl
is_no_phi t (Store ty val ptr tail) d h = refl
is_no_phi t (Copy to from len head tail) d h = refl
is_no_phi t (Call callee ret args effects head tail) d h = refl
is_no_phi t (Bin op flags ty x y tail) d h = refl
is_no_phi t (Cmp pred flags ty x y tail) d h = refl
is_no_phi t (Select cond ty x y tail) d h = refl
is_no_phi t (Cast op flags from x to tail) d h = refl

-- a local is as it was, or has the value of this phi
abbrev pub IsPhiGiven : State → ℕ → List Placed → (ℕ → Option Value) → LocalNo → Type 0
IsPhiGiven t a xs locals l = (k : ℕ) × (x : Placed) × (slice_get xs k ≡ Some x) × (is_phi x.inst ≡ true) × (x.result ≡ Some l) × (locals l.0 ≡ phi_value t.locals a x.inst)

with_local_cases : (k l : LocalNo) (v : Value) (locals : ℕ → Option Value) → ((l ≡ k) × (with_local k v locals l.0 ≡ Some v)) ⊎ (with_local k v locals l.0 ≡ locals l.0)
with_local_cases k l v locals =
    ⊎_elim
    (λ (t : l.0 == k.0 ≡ true). inl (is_number l k (eqb-true l.0 k.0 t), ap (λ b. cond b (Some v) (locals l.0)) t))
    (λ (f : l.0 == k.0 ≡ false). inr (ap (λ b. cond b (Some v) (locals l.0)) f))
    (cases_Bool (l.0 == k.0))

phi_there : (t : State) (a : ℕ) (x : Placed) (xs : List Placed) (r : Option LocalNo) (v : Option Value) (rest : Option (ℕ → Option Value)) (locals : ℕ → Option Value) (l : LocalNo) →
    is_phi x.inst ≡ true → x.result ≡ r → phi_value t.locals a x.inst ≡ v →
    ((old : ℕ → Option Value) → rest ≡ Some old → (old l.0 ≡ t.locals l.0) ⊎ IsPhiGiven t a xs old l) →
    with_phi r v rest ≡ Some locals → (locals l.0 ≡ t.locals l.0) ⊎ IsPhiGiven t a (x ∷ xs) locals l
phi_there t a x xs None v rest locals l phi r is before h = cc
phi_there t a x xs (Some k) None rest locals l phi r is before h = cc
phi_there t a x xs (Some k) (Some v) None locals l phi r is before h = cc
phi_there t a x xs (Some k) (Some v) (Some old) locals l phi r is before h =
    let same : with_local k v old ≡ locals = cc in
    let at_l : with_local k v old l.0 ≡ locals l.0 = ap (λ (g : ℕ → Option Value). g l.0) same in
    ⊎_elim
    (λ (here : (l ≡ k) × (with_local k v old l.0 ≡ Some v)). inr (zero, x, refl, phi, r ∙ ap Some (sym here.0), sym at_l ∙ here.1 ∙ sym is))
    (λ (other : with_local k v old l.0 ≡ old l.0).
    ⊎_elim
    (λ (was : old l.0 ≡ t.locals l.0). inl (sym at_l ∙ other ∙ was))
    (λ (g : IsPhiGiven t a xs old l). inr (suc g.0, g.1, g.2, g.3, g.4, sym at_l ∙ other ∙ g.5))
    (before old refl))
    (with_local_cases k l v old)

pub phis_there : (t : State) (a : ℕ) (xs : List Placed) (locals : ℕ → Option Value) (l : LocalNo) → with_phis t.locals a xs ≡ Some locals →
    (locals l.0 ≡ t.locals l.0) ⊎ IsPhiGiven t a xs locals l
phis_there t a [] locals l h = inl (let same : t.locals ≡ locals = cc in sym (ap (λ (g : ℕ → Option Value). g l.0) same))
phis_there t a (x ∷ xs) locals l h =
    ⊎_elim
    (λ (phi : (is_phi x.inst ≡ true) × (with_phi x.result (phi_value t.locals a x.inst) (with_phis t.locals a xs) ≡ Some locals)).
    phi_there t a x xs x.result (phi_value t.locals a x.inst) (with_phis t.locals a xs) locals l phi.0 refl refl (λ old e. phis_there t a xs old l e) phi.1)
    (λ (other : (is_phi x.inst ≡ false) × (Some t.locals ≡ Some locals)).
    let same : t.locals ≡ locals = (let u = other.1 in cc) in inl (sym (ap (λ (g : ℕ → Option Value). g l.0) same)))
    (pick (is_phi x.inst) (with_phi x.result (phi_value t.locals a x.inst) (with_phis t.locals a xs)) (Some t.locals) (Some locals) h)

-- An instruction that a step runs gives a local: one that stands where the run is, or a phi of the block that is entered.
pub record Gives (f : FuncState) (t s : State) (l : LocalNo) : Type 0 where
  pub place : ℕ
  pub inst : Placed
  pub found : slice_get (insts_at f.blocks s.block) place ≡ Some inst
  pub result : inst.result ≡ Some l
  pub by : ((is_phi inst.inst ≡ false) × (t.block ≡ s.block) × (t.place ≡ place)) ⊎ ((is_phi inst.inst ≡ true) × HasEdge (graph_of f.blocks) t.block s.block)
  pub from : (o : ℕ) (at : ℤ) → s.locals l.0 ≡ Some (Pointer o at) → MadeFrom t inst.inst o at

pub result_there : (r : Option LocalNo) (v : Option Value) (locals : ℕ → Option Value) (l : LocalNo) → (with_result r v locals l.0 ≡ locals l.0) ⊎ ((r ≡ Some l) × (with_result r v locals l.0 ≡ v))
result_there None v locals l = inl refl
result_there (Some k) None locals l = inl refl
result_there (Some k) (Some v) locals l =
    ⊎_elim
    (λ (here : (l ≡ k) × (with_local k v locals l.0 ≡ Some v)). inr (ap Some (sym here.0), here.1))
    (λ (other : with_local k v locals l.0 ≡ locals l.0). inl other)
    (with_local_cases k l v locals)

-- each local is as it was, or given by such an instruction
pub given : (f : FuncState) (t s : State) → Goes f t s → (l : LocalNo) → (s.locals l.0 ≡ t.locals l.0) ⊎ Gives f t s l
given f t s (ran x d e is same) l =
    let block : s.block ≡ t.block = ap (λ (u : State). u.block) same in
    let value : s.locals l.0 ≡ with_result x.result d.value t.locals l.0 = ap (λ (u : State). u.locals l.0) same in
    ⊎_elim
    (λ (was : with_result x.result d.value t.locals l.0 ≡ t.locals l.0). inl (value ∙ was))
    (λ (here : (x.result ≡ Some l) × (with_result x.result d.value t.locals l.0 ≡ d.value)).
    inr (record {
      place = t.place;
      inst = x;
      found = ap (λ b. slice_get (insts_at f.blocks b) t.place) block ∙ e;
      result = here.0;
      by = inl (is_no_phi t x.inst d is, sym block, refl);
      from = λ o at p. deed_from t x.inst d o at is (sym (value ∙ here.1) ∙ p);
    }))
    (result_there x.result d.value t.locals l)
given f t s (left b locals e edge phis same) l =
    let block : s.block ≡ b = ap (λ (u : State). u.block) same in
    let value : s.locals l.0 ≡ locals l.0 = ap (λ (u : State). u.locals l.0) same in
    ⊎_elim
    (λ (was : locals l.0 ≡ t.locals l.0). inl (value ∙ was))
    (λ (g : IsPhiGiven t t.block (insts_at f.blocks b) locals l).
    inr (record {
      place = g.0;
      inst = g.1;
      found = ap (λ c. slice_get (insts_at f.blocks c) g.0) block ∙ g.2;
      result = g.4;
      by = inr (g.3, subst (λ c. HasEdge (graph_of f.blocks) t.block c) (sym block) edge);
      from = λ o at p. phi_from t t.block g.1.inst o at (sym (value ∙ g.5) ∙ p);
    }))
    (phis_there t t.block (insts_at f.blocks b) locals l phis)
