-- Which allocas escape, and how objects grow.
use Rattle.std.proofs.Common.{◌≡◌, ◌∙◌, ◌⊎◌, ℕ, zero, suc, ℤ, Bool, true, false, cond, List, [], ◌∷◌, length, Option, Some, None, refl, sym, ap, inl, inr, ⊎_elim, arith}
use Rattle.std.specs.Prelude.{Contains, slice_set, nat_abs, ◌+ℤ◌, ◌&&◌, not}
use Rattle.std.proofs.lemmas.Bool.{and_parts, or_cases, eqb-true}
use Rattle.std.proofs.lemmas.List.{length-set}
use Rattle.ms_ir.specs.declared.names.Ty.{Ty}
use Rattle.ms_ir.specs.declared.names.Ty.TheVariants.{I1, Ptr}
use Rattle.ms_ir.specs.declared.names.FuncNo.{FuncNo}
use Rattle.ms_ir.specs.declared.inst.Arg.{Arg}
use Rattle.ms_ir.specs.declared.inst.Effects.{Effects}
use Rattle.ms_ir.specs.declared.inst.Inst.{Inst}
use Rattle.ms_ir.specs.declared.inst.Inst.TheVariants.{Alloca, Gep, Step as StepInst, Load, Store, Copy, Call, Bin, Cmp, Select, Cast, Phi}
use Rattle.ms_meaning.specs.Values.{Byte, Value, Number, Pointer, bits, size_of, is_integer, bytes_of, loaded}
use Rattle.ms_meaning.specs.Operations.{operated, compared, converted}
use Rattle.ms_meaning.specs.Memory.{Written, with_byte, with_written, object_at, has_bytes, read, spread, overlap_in_part}
use Rattle.ms_meaning.specs.States.{State, Answer, Made, value_of, operand_of, number_as}
use Rattle.ms_meaning.specs.Calls.{values_of, value_before, points_into, is_kept, escaped_with, is_result, are_reached}
use Rattle.ms_meaning.specs.Steps.{Deed, Doing, Does, Waits, Fails, doing, quiet, gives, from_one, from_two, gives_number, gives_bytes, loads, stores, copies, writes_bytes, chooses, moves, moves_by, terms_bytes, is_offset, calls, answered, made_call}

byte_length : (objects : List (List Byte)) (w : Written) → length (with_byte objects w) ≡ length objects
byte_length objects w = length-set objects w.object (slice_set (object_at objects w.object) (nat_abs w.offset) w.byte)

pub written_length : (objects : List (List Byte)) (ws : List Written) → length (with_written objects ws) ≡ length objects
written_length objects [] = refl
written_length objects (w ∷ ws) = written_length (with_byte objects w) ws ∙ byte_length objects w

-- an argument that may be kept points into the object
abbrev pub KeepsObject : State → List Arg → ℕ → Type 0
KeepsObject t args o = (a : Arg) × Contains args a × (a.keeps ≡ true) × ((at : ℤ) × (operand_of t.locals a.ty a.val ≡ Some (Pointer o at)))

pub points_to : (o : ℕ) (v : Value) → points_into o v ≡ true → (at : ℤ) × (v ≡ Pointer o at)
points_to o (Number ty n) e = cc
points_to o (Pointer p at) e = (at, ap (λ q. Pointer q at) (eqb-true p o e))

-- the first of some values, and the others
pub values_parts : (v : Option Value) (vs : Option (List Value)) (values : List Value) → value_before v vs ≡ Some values →
    (w : Value) × (ws : List Value) × (v ≡ Some w) × (vs ≡ Some ws) × (values ≡ w ∷ ws)
values_parts None vs values e = cc
values_parts (Some w) None values e = cc
values_parts (Some w) (Some ws) values e = (w, ws, refl, refl, (let x : w ∷ ws ≡ values = cc in sym x))

pub kept_from : (t : State) (args : List Arg) (values : List Value) (o : ℕ) → values_of t.locals args ≡ Some values → is_kept args values o ≡ true → KeepsObject t args o
kept_from t [] values o e k = cc
kept_from t (a ∷ args) values o e k =
    let p = values_parts (operand_of t.locals a.ty a.val) (values_of t.locals args) values e in
    let now : is_kept (a ∷ args) (p.0 ∷ p.1) o ≡ true = ap (λ vs. is_kept (a ∷ args) vs o) (sym p.4) ∙ k in
    ⊎_elim
    (λ (here : (a.keeps && points_into o p.0) ≡ true).
    let both = and_parts a.keeps (points_into o p.0) here in
    let to = points_to o p.0 both.1 in
    (a, (zero, omega arith, refl), both.0, (to.0, p.2 ∙ ap Some to.1)))
    (λ (later : is_kept args p.1 o ≡ true).
    let rest = kept_from t args p.1 o p.3 later in
    (rest.0, (suc rest.1.0, omega arith, rest.1.2), rest.2, rest.3))
    (or_cases (a.keeps && points_into o p.0) (is_kept args p.1 o) now)

-- what has escaped after an instruction: it had before, or the instruction is a call that may keep it
abbrev pub EscapesBy : State → Inst → ℕ → Type 0
EscapesBy t (Call callee ret args effects head tail) o = KeepsObject t args o
EscapesBy t _ o = ⊥

abbrev escaped_in : State → Doing → ℕ → Bool
escaped_in t (Does d) o = d.escaped o
escaped_in t (Waits made) o = t.escaped o
escaped_in t Fails o = t.escaped o

if_same : (t : State) (b : Bool) (d : Doing) (o : ℕ) → escaped_in t d o ≡ t.escaped o → escaped_in t (cond b d Fails) o ≡ t.escaped o
if_same t true d o e = e
if_same t false d o e = refl

number_same : (t : State) (ty : Ty) (n : Option ℕ) (o : ℕ) → escaped_in t (gives_number t ty n) o ≡ t.escaped o
number_same t ty None o = refl
number_same t ty (Some n) o = refl

bytes_same : (t : State) (ty : Ty) (bytes : Option (List Byte)) (o : ℕ) → escaped_in t (gives_bytes t ty bytes) o ≡ t.escaped o
bytes_same t ty None o = refl
bytes_same t ty (Some bytes) o = number_same t ty (loaded ty bytes) o

load_same : (t : State) (ty : Ty) (v : Option Value) (o : ℕ) → escaped_in t (loads t ty v) o ≡ t.escaped o
load_same t ty None o = refl
load_same t ty (Some (Number u n)) o = refl
load_same t ty (Some (Pointer p at)) o = if_same t (is_integer ty) (gives_bytes t ty (read t.objects p at (size_of ty))) o (bytes_same t ty (read t.objects p at (size_of ty)) o)

store_same : (t : State) (ty : Ty) (n : Option ℕ) (v : Option Value) (o : ℕ) → escaped_in t (stores t ty n v) o ≡ t.escaped o
store_same t ty None v o = refl
store_same t ty (Some n) None o = refl
store_same t ty (Some n) (Some (Number u m)) o = refl
store_same t ty (Some n) (Some (Pointer p at)) o = if_same t (has_bytes (object_at t.objects p) at (size_of ty)) (quiet t None (spread p at (bytes_of (size_of ty) n)) []) o refl

copied_same : (t : State) (p : ℕ) (at : ℤ) (bytes : Option (List Byte)) (o : ℕ) → escaped_in t (writes_bytes t p at bytes) o ≡ t.escaped o
copied_same t p at None o = refl
copied_same t p at (Some bytes) o = refl

copy_same : (t : State) (to from : Option Value) (len : ℕ) (o : ℕ) → escaped_in t (copies t to from len) o ≡ t.escaped o
copy_same t None from len o = refl
copy_same t (Some (Number u n)) from len o = refl
copy_same t (Some (Pointer p at)) None len o = refl
copy_same t (Some (Pointer p at)) (Some (Number u n)) len o = refl
copy_same t (Some (Pointer p at)) (Some (Pointer q from)) len o =
    if_same t (has_bytes (object_at t.objects p) at len && not (overlap_in_part p at q from len)) (writes_bytes t p at (read t.objects q from len)) o
    (copied_same t p at (read t.objects q from len) o)

moved_same : (t : State) (v : Option Value) (by : ℤ) (o : ℕ) → escaped_in t (moves t v by) o ≡ t.escaped o
moved_same t None by o = refl
moved_same t (Some (Number u n)) by o = refl
moved_same t (Some (Pointer p at)) by o = if_same t (is_offset (at +ℤ by)) (gives t (Pointer p (at +ℤ by))) o refl

moved_by_same : (t : State) (v : Option Value) (offset : ℤ) (by : Option ℤ) (o : ℕ) → escaped_in t (moves_by t v offset by) o ≡ t.escaped o
moved_by_same t v offset None o = refl
moved_by_same t v offset (Some by) o = moved_same t v (offset +ℤ by) o

chosen_same : (t : State) (n : Option ℕ) (a b : Option Value) (o : ℕ) → escaped_in t (chooses t n a b) o ≡ t.escaped o
chosen_same t None a b o = refl
chosen_same t (Some n) None b o = refl
chosen_same t (Some n) (Some a) None o = refl
chosen_same t (Some n) (Some a) (Some b) o = refl

answer_if : (t : State) (b : Bool) (d : Deed) (args : List Arg) (values : List Value) (o : ℕ) → d.escaped ≡ escaped_with t args values →
    escaped_in t (cond b (Does d) Fails) o ≡ true → (t.escaped o ≡ true) ⊎ (is_kept args values o ≡ true)
answer_if t true d args values o is e = or_cases (t.escaped o) (is_kept args values o) (sym (ap (λ (g : ℕ → Bool). g o) is) ∙ e)
answer_if t false d args values o is e = inl e

answer_from : (t : State) (ret : Option Ty) (args : List Arg) (e : Effects) (values : List Value) (made : Made) (answers : List Answer) (o : ℕ) →
    escaped_in t (answered t ret args e values made answers) o ≡ true → (t.escaped o ≡ true) ⊎ (is_kept args values o ≡ true)
answer_from t ret args e values made [] o h = inl h
answer_from t ret args e values made (a ∷ answers) o h =
    answer_if t (is_result ret a.result && are_reached t e args values a.writes)
    (record { value = a.result; writes = a.writes; objects = []; calls = made ∷ []; escaped = escaped_with t args values; answers = answers }) args values o refl h

call_from : (t : State) (callee : FuncNo) (ret : Option Ty) (args : List Arg) (e : Effects) (values : Option (List Value)) (o : ℕ) → values_of t.locals args ≡ values →
    escaped_in t (calls t callee ret args e values) o ≡ true → (t.escaped o ≡ true) ⊎ KeepsObject t args o
call_from t callee ret args e None o is h = inl h
call_from t callee ret args e (Some values) o is h =
    ⊎_elim (λ (was : t.escaped o ≡ true). inl was) (λ (k : is_kept args values o ≡ true). inr (kept_from t args values o is k))
    (answer_from t ret args e values (made_call t callee args e values) t.answers o h)

escaped_doing : (t : State) (inst : Inst) (o : ℕ) → escaped_in t (doing t inst) o ≡ true → (t.escaped o ≡ true) ⊎ EscapesBy t inst o
escaped_doing t (Alloca size head tail) o h = inl h
escaped_doing t (Gep base offset head index tail) o h = inl (sym (moved_same t (operand_of t.locals Ptr base) offset o) ∙ h)
escaped_doing t (StepInst base offset terms head index tail) o h = inl (sym (moved_by_same t (operand_of t.locals Ptr base) offset (terms_bytes t.locals terms) o) ∙ h)
escaped_doing t (Load ty ptr tail) o h = inl (sym (load_same t ty (operand_of t.locals Ptr ptr) o) ∙ h)
escaped_doing t (Store ty val ptr tail) o h = inl (sym (store_same t ty (number_as ty (value_of t.locals val)) (operand_of t.locals Ptr ptr) o) ∙ h)
escaped_doing t (Copy to from len head tail) o h = inl (sym (copy_same t (operand_of t.locals Ptr to.val) (operand_of t.locals Ptr from.val) len o) ∙ h)
escaped_doing t (Call callee ret args effects head tail) o h = call_from t callee ret args effects (values_of t.locals args) o refl h
escaped_doing t (Bin op flags ty a b tail) o h = inl (sym (number_same t ty (from_two (operated op flags (bits ty)) (number_as ty (value_of t.locals a)) (number_as ty (value_of t.locals b))) o) ∙ h)
escaped_doing t (Cmp pred flags ty a b tail) o h = inl (sym (number_same t I1 (from_two (compared pred flags (bits ty)) (number_as ty (value_of t.locals a)) (number_as ty (value_of t.locals b))) o) ∙ h)
escaped_doing t (Select cond ty a b tail) o h = inl (sym (chosen_same t (number_as I1 (value_of t.locals cond)) (operand_of t.locals ty a) (operand_of t.locals ty b) o) ∙ h)
escaped_doing t (Cast op flags from a to tail) o h = inl (sym (number_same t to (from_one (converted op flags (bits from) (bits to)) (number_as from (value_of t.locals a))) o) ∙ h)
escaped_doing t (Phi ty entries tail) o h = inl h

pub escaped_from : (t : State) (inst : Inst) (d : Deed) (o : ℕ) → doing t inst ≡ Does d → d.escaped o ≡ true → (t.escaped o ≡ true) ⊎ EscapesBy t inst o
escaped_from t inst d o is e = escaped_doing t inst o (ap (λ x. escaped_in t x o) is ∙ e)
