-- What an instruction touches in a run, and what the function's text says of it.
use Rattle.std.proofs.Common.{◌≡◌, ◌∙◌, ◌<◌, ◌≤◌, ℕ, zero, suc, ℤ, pos, ◌+ℤ◌, Bool, true, false, cond, List, [], ◌∷◌, length, drop, min, Option, Some, None, refl, sym, ap, subst, inl, inr, ⊎_elim, arith}
use Rattle.std.specs.Prelude.{Contains, slice_get, map, nat_lt, nat_abs, ◌/◌, ◌&&◌, ◌||◌, not, ◌-ℤ◌, ◌≤ℤ◌, ◌<ℤ◌}
use Rattle.std.specs.List.{list_all}
use Rattle.std.proofs.lemmas.Bool.{and_parts, or_cases, ltb-true}
use Rattle.std.proofs.lemmas.List.{length-take}
use Rattle.std.proofs.lemmas.Int.{ints}
use Rattle.ms_ir.specs.declared.names.Ty.{Ty}
use Rattle.ms_ir.specs.declared.names.Ty.TheVariants.{I1, Ptr}
use Rattle.ms_ir.specs.declared.names.FuncNo.{FuncNo}
use Rattle.ms_ir.specs.declared.inst.Val.{Val}
use Rattle.ms_ir.specs.declared.inst.Arg.{Arg}
use Rattle.ms_ir.specs.declared.inst.Effects.{Effects}
use Rattle.ms_ir.specs.declared.inst.Inst.{Inst}
use Rattle.ms_ir.specs.declared.inst.Inst.TheVariants.{Alloca as AllocaInst, Gep, Step as StepInst, Load, Store, Copy, Call, Bin, Cmp, Select, Cast, Phi}
use Rattle.ms_ir.specs.Func.{Placed, FuncState, insts_at}
use Rattle.ms_ir.specs.Uses.{operands_of}
use Rattle.ms_alias.specs.Roots.{IsFixed}
use Rattle.ms_alias.specs.Bases.{Base, Alloca, Outside}
use Rattle.ms_alias.specs.Reaches.{Reach, Span, Called, IsSpan, IsRead, IsWritten, IsReached}
use Rattle.ms_meaning.specs.Values.{Byte, Value, Number, Pointer, bits, size_of, is_integer, bytes_of, loaded}
use Rattle.ms_meaning.specs.Operations.{operated, compared, converted}
use Rattle.ms_meaning.specs.Memory.{HoldsByte, Written, object_at, has_bytes, bytes_at, read, spread, is_within, overlap_in_part}
use Rattle.ms_meaning.specs.States.{Input, State, Answer, Made, IsInput, value_of, operand_of, number_as}
use Rattle.ms_meaning.specs.Calls.{values_of, points_into, is_passed, is_kept, escaped_with, is_open, may_write_object, is_result, are_reached}
use Rattle.ms_meaning.specs.Steps.{Deed, Doing, Does, Fails, doing, quiet, gives, from_one, from_two, gives_number, gives_bytes, loads, stores, copies, writes_bytes, chooses, moves, moves_by, terms_bytes, is_offset, calls, answered, made_call}
use Rattle.ms_meaning.specs.Traces.{written_by, ReadsByte}
use Rattle.ms_sound.specs.Objects.{Denotes, IsKnownObject}
use Rattle.ms_sound.specs.Bytes.{root_value}
use Rattle.ms_sound.proofs.Chains.{ends_root, root_base}
use Rattle.ms_sound.proofs.Held.{Holds}
use Rattle.ms_sound.proofs.Escapes.{values_parts, points_to, kept_from}
use Rattle.ms_sound.proofs.Operands.{IsToldVal, value_in, operand_told, arg_used}
use Rattle.ms_sound.proofs.Always.{kept_known}

-- the byte is one of the range, by the value of the root where that is fixed
abbrev pub IsNear : FuncState → State → Reach → ℕ → ℤ → Type 0
IsNear f s (Span r from len) o k = (at : ℤ) × (IsFixed f r → root_value s r ≡ Some (Pointer o at)) × HoldsByte (at +ℤ from) len k
IsNear f s (Called args other hidden) o k = Unit {0}

-- a reach touches the byte: a base of it stands for the object
pub record Touches (f : FuncState) (s : State) (u : Reach) (o : ℕ) (k : ℤ) : Type 0 where
  pub base : Base
  pub reached : IsReached f u base
  pub denotes : Denotes f s base o
  pub near : IsNear f s u o k

pub none_in : {A : Type 0} {x : A} → Contains [] x → ⊥
none_in h = let lt : h.0 < 0 = h.1 in omega arith

-- ---- ranges

pub among_from : (at offset k : ℤ) (len : ℕ) → HoldsByte at len k → HoldsByte ((at -ℤ offset) +ℤ offset) len k
among_from at offset k len h = (let a : at ≤ℤ k = h.0 in omega (arith, ints), let b : k <ℤ (at +ℤ pos len) = h.1 in omega (arith, ints))

-- so many bytes from where a told pointer points to
pub span_touches : (f : FuncState) (s : State) (v : Val) (o : ℕ) (at k : ℤ) (len : ℕ) → IsToldVal f s v o at → HoldsByte at len k → (u : Reach) × IsSpan f v len u × Touches f s u o k
span_touches f s v o at k len (p, is, told) among = (
  Span told.root told.offset len,
  (p, is, told.root, told.offset, ends_root f told.steps p told.root told.offset told.ends, refl),
  record { base = told.base; reached = told.has_base; denotes = told.denotes; near = (at -ℤ told.offset, told.fixed, among_from at told.offset k len among) },
)

pub spread_in : (o : ℕ) (at : ℤ) (bs : List Byte) (w : Written) → Contains (spread o at bs) w → (w.object ≡ o) × HoldsByte at (length bs) w.offset
spread_in o at [] w h = absurd (none_in h)
spread_in o at (b ∷ bs) w (zero, lt, is) =
    let offset : at ≡ w.offset = ap (λ (x : Written). x.offset) is in
    (sym (ap (λ (x : Written). x.object) is), (omega (arith, ints), omega (arith, ints)))
spread_in o at (b ∷ bs) w (suc j, lt, is) =
    let rest = spread_in o (at +ℤ pos 1) bs w (j, omega arith, is) in
    let low : (at +ℤ pos 1) ≤ℤ w.offset = rest.1.0 in
    let high : w.offset <ℤ ((at +ℤ pos 1) +ℤ pos (length bs)) = rest.1.1 in
    (rest.0, (omega (arith, ints), omega (arith, ints)))

bytes_length : (k n : ℕ) → length (bytes_of k n) ≡ k
bytes_length zero n = refl
bytes_length (suc k) n = ap suc (bytes_length k (n / 256))

among_more : (at k : ℤ) (len more : ℕ) → len ≤ more → HoldsByte at len k → HoldsByte at more k
among_more at k len more le h = (h.0, (let b : k <ℤ (at +ℤ pos len) = h.1 in omega (arith, ints)))

-- ---- what is written

if_written : (b : Bool) (d : Doing) (w : Written) → Contains (written_by (cond b d Fails)) w → Contains (written_by d) w
if_written true d w h = h
if_written false d w h = absurd (none_in h)

number_writes : (t : State) (ty : Ty) (n : Option ℕ) (w : Written) → Contains (written_by (gives_number t ty n)) w → ⊥
number_writes t ty None w h = none_in h
number_writes t ty (Some n) w h = none_in h

bytes_write : (t : State) (ty : Ty) (bytes : Option (List Byte)) (w : Written) → Contains (written_by (gives_bytes t ty bytes)) w → ⊥
bytes_write t ty None w h = none_in h
bytes_write t ty (Some bytes) w h = number_writes t ty (loaded ty bytes) w h

load_writes : (t : State) (ty : Ty) (v : Option Value) (w : Written) → Contains (written_by (loads t ty v)) w → ⊥
load_writes t ty None w h = none_in h
load_writes t ty (Some (Number u n)) w h = none_in h
load_writes t ty (Some (Pointer p at)) w h =
    bytes_write t ty (read t.objects p at (size_of ty)) w (if_written (is_integer ty) (gives_bytes t ty (read t.objects p at (size_of ty))) w h)

moved_writes : (t : State) (v : Option Value) (by : ℤ) (w : Written) → Contains (written_by (moves t v by)) w → ⊥
moved_writes t None by w h = none_in h
moved_writes t (Some (Number u n)) by w h = none_in h
moved_writes t (Some (Pointer p at)) by w h = none_in (if_written (is_offset (at +ℤ by)) (gives t (Pointer p (at +ℤ by))) w h)

moved_by_writes : (t : State) (v : Option Value) (offset : ℤ) (by : Option ℤ) (w : Written) → Contains (written_by (moves_by t v offset by)) w → ⊥
moved_by_writes t v offset None w h = none_in h
moved_by_writes t v offset (Some by) w h = moved_writes t v (offset +ℤ by) w h

chosen_writes : (t : State) (n : Option ℕ) (a b : Option Value) (w : Written) → Contains (written_by (chooses t n a b)) w → ⊥
chosen_writes t None a b w h = none_in h
chosen_writes t (Some n) None b w h = none_in h
chosen_writes t (Some n) (Some a) None w h = none_in h
chosen_writes t (Some n) (Some a) (Some b) w h = none_in h

-- a byte at a pointer
abbrev IsAt : Option Value → ℕ → Written → Type 0
IsAt v len w = (at : ℤ) × (v ≡ Some (Pointer w.object at)) × HoldsByte at len w.offset

store_writes : (t : State) (ty : Ty) (n : Option ℕ) (v : Option Value) (w : Written) → Contains (written_by (stores t ty n v)) w → IsAt v (size_of ty) w
store_writes t ty None v w h = absurd (none_in h)
store_writes t ty (Some n) None w h = absurd (none_in h)
store_writes t ty (Some n) (Some (Number u m)) w h = absurd (none_in h)
store_writes t ty (Some n) (Some (Pointer p at)) w h =
    let there = spread_in p at (bytes_of (size_of ty) n) w (if_written (has_bytes (object_at t.objects p) at (size_of ty)) (quiet t None (spread p at (bytes_of (size_of ty) n)) []) w h) in
    (at, ap (λ q. Some (Pointer q at)) (sym there.0), subst (λ m. HoldsByte at m w.offset) (bytes_length (size_of ty) n) there.1)

read_few : (objects : List (List Byte)) (o : ℕ) (at : ℤ) (len : ℕ) (bytes : List Byte) → read objects o at len ≡ Some bytes → length bytes ≤ len
read_few objects o at len bytes e = few (has_bytes (object_at objects o) at len) e where
  few : (b : Bool) → cond b (Some (bytes_at (object_at objects o) at len)) None ≡ Some bytes → length bytes ≤ len
  few true h =
      let same : bytes_at (object_at objects o) at len ≡ bytes = cc in
      let l = length-take len (drop (nat_abs at) (object_at objects o)) in
      let m : length bytes ≡ min len (length (drop (nat_abs at) (object_at objects o))) = sym (ap (λ (bs : List Byte). length bs) same) ∙ l in
      omega arith
  few false h = cc

copied_writes : (t : State) (p : ℕ) (at : ℤ) (len : ℕ) (bytes : Option (List Byte)) (w : Written) → ((bs : List Byte) → bytes ≡ Some bs → length bs ≤ len) → Contains (written_by (writes_bytes t p at bytes)) w →
    (w.object ≡ p) × HoldsByte at len w.offset
copied_writes t p at len None w few h = absurd (none_in h)
copied_writes t p at len (Some bytes) w few h = let there = spread_in p at bytes w h in (there.0, among_more at w.offset (length bytes) len (few bytes refl) there.1)

copy_writes : (t : State) (to from : Option Value) (len : ℕ) (w : Written) → Contains (written_by (copies t to from len)) w → IsAt to len w
copy_writes t None from len w h = absurd (none_in h)
copy_writes t (Some (Number u n)) from len w h = absurd (none_in h)
copy_writes t (Some (Pointer p at)) None len w h = absurd (none_in h)
copy_writes t (Some (Pointer p at)) (Some (Number u n)) len w h = absurd (none_in h)
copy_writes t (Some (Pointer p at)) (Some (Pointer q from)) len w h =
    let there = copied_writes t p at len (read t.objects q from len) w (λ bs e. read_few t.objects q from len bs e)
    (if_written (has_bytes (object_at t.objects p) at len && not (overlap_in_part p at q from len)) (writes_bytes t p at (read t.objects q from len)) w h) in
    (at, ap (λ o. Some (Pointer o at)) (sym there.0), there.1)

passes_all : (p : Written → Bool) (ws : List Written) (w : Written) → list_all p ws ≡ true → Contains ws w → p w ≡ true
passes_all p [] w a h = absurd (none_in h)
passes_all p (v ∷ ws) w a (zero, lt, is) = ap p (sym is) ∙ (and_parts (p v) (list_all p ws) a).0
passes_all p (v ∷ ws) w a (suc j, lt, is) = passes_all p ws w (and_parts (p v) (list_all p ws) a).1 (j, omega arith, is)

answer_if : (t : State) (ret : Option Ty) (args : List Arg) (e : Effects) (values : List Value) (a : Answer) (d : Deed) (w : Written) → d.writes ≡ a.writes → (b : Bool) →
    (is_result ret a.result && are_reached t e args values a.writes) ≡ b → Contains (written_by (cond b (Does d) Fails)) w → may_write_object t e args values w.object ≡ true
answer_if t ret args e values a d w same true is h =
    let all = (and_parts (is_result ret a.result) (are_reached t e args values a.writes) is).1 in
    let there : Contains a.writes w = subst (λ ws. Contains ws w) same h in
    (and_parts (may_write_object t e args values w.object) (is_within t.objects w)
    (passes_all (λ (v : Written). may_write_object t e args values v.object && is_within t.objects v) a.writes w all there)).0
answer_if t ret args e values a d w same false is h = absurd (none_in h)

answer_writes : (t : State) (ret : Option Ty) (args : List Arg) (e : Effects) (values : List Value) (made : Made) (answers : List Answer) (w : Written) →
    Contains (written_by (answered t ret args e values made answers)) w → may_write_object t e args values w.object ≡ true
answer_writes t ret args e values made [] w h = absurd (none_in h)
answer_writes t ret args e values made (a ∷ answers) w h =
    answer_if t ret args e values a (record { value = a.result; writes = a.writes; objects = []; calls = made ∷ []; escaped = escaped_with t args values; answers = answers }) w refl
    (is_result ret a.result && are_reached t e args values a.writes) refl h

call_writes : (t : State) (callee : FuncNo) (ret : Option Ty) (args : List Arg) (e : Effects) (values : Option (List Value)) (w : Written) →
    Contains (written_by (calls t callee ret args e values)) w → (vs : List Value) × (values ≡ Some vs) × (may_write_object t e args vs w.object ≡ true)
call_writes t callee ret args e None w h = absurd (none_in h)
call_writes t callee ret args e (Some values) w h = (values, refl, answer_writes t ret args e values (made_call t callee args e values) t.answers w h)

-- ---- what a call reaches

any_passed : (t : State) (args : List Arg) (values : List Value) (o : ℕ) → values_of t.locals args ≡ Some values → is_passed values o ≡ true →
    (a : Arg) × Contains args a × ((at : ℤ) × (operand_of t.locals a.ty a.val ≡ Some (Pointer o at)))
any_passed t [] values o e h = let none : is_passed [] o ≡ true = ap (λ vs. is_passed vs o) (let x : [] ≡ values = cc in x) ∙ h in cc
any_passed t (a ∷ args) values o e h =
    let p = values_parts (operand_of t.locals a.ty a.val) (values_of t.locals args) values e in
    let now : is_passed (p.0 ∷ p.1) o ≡ true = ap (λ vs. is_passed vs o) (sym p.4) ∙ h in
    ⊎_elim
    (λ (here : points_into o p.0 ≡ true). let to = points_to o p.0 here in (a, (zero, omega arith, refl), (to.0, p.2 ∙ ap Some to.1)))
    (λ (later : is_passed p.1 o ≡ true). let rest = any_passed t args p.1 o p.3 later in (rest.0, (suc rest.1.0, omega arith, rest.1.2), rest.2))
    (or_cases (points_into o p.0) (is_passed p.1 o) now)

module _ (f : FuncState) (input : Input) (fits : IsInput f input) (n : ℕ) (t : State) (h : Holds f input n t) where
  known_touches : (args : List Arg) (hidden : Bool) (o : ℕ) (k : ℤ) → IsKnownObject f t o → Touches f t (Called args true hidden) o k
  known_touches args hidden o k (inl lt) = record { base = Outside; reached = inr (inl (refl, tt)); denotes = lt; near = tt }
  known_touches args hidden o k (inr alloca) = record { base = Alloca alloca.0; reached = inr (inl (refl, alloca.1)); denotes = alloca.2; near = tt }

  passed_touches : (args : List Arg) (a : Arg) (other hidden : Bool) (o : ℕ) (at k : ℤ) → Contains args a → IsToldVal f t a.val o at → Touches f t (Called args other hidden) o k
  passed_touches args a other hidden o at k there (p, is, told) =
      record {
        base = told.base;
        reached = inl (a, there, (p, is, root_base f told.steps p told.root told.offset told.base told.ends told.has_base));
        denotes = told.denotes;
        near = tt;
      }

  module _ (b j : ℕ) (x : Placed) (callee : FuncNo) (ret : Option Ty) (args : List Arg) (e : Effects) (head tail : List ℕ) (is : x.inst ≡ Call callee ret args e head tail) (found : slice_get (insts_at f.blocks b) j ≡ Some x) where
    arg_told : (a : Arg) (o : ℕ) (at : ℤ) → Contains args a → operand_of t.locals a.ty a.val ≡ Some (Pointer o at) → IsToldVal f t a.val o at
    arg_told a o at there value =
        operand_told f input fits n t h b j x a.ty a.val o at (found, subst (λ i. Contains (map value_in (operands_of i)) a.val) (sym is) (arg_used args a there)) value

    open_known : (values : List Value) (o : ℕ) → values_of t.locals args ≡ Some values → is_open t (escaped_with t args values) o ≡ true → IsKnownObject f t o
    open_known values o are is_there =
        ⊎_elim
        (λ (outer : nat_lt o t.outer ≡ true). inl (ltb-true o t.outer outer))
        (λ (esc : escaped_with t args values o ≡ true).
        ⊎_elim
        (λ (was : t.escaped o ≡ true). h.escaped o was)
        (λ (kept : is_kept args values o ≡ true). kept_known f input fits n t h b j x (Call callee ret args e head tail) o is found (kept_from t args values o are kept))
        (or_cases (t.escaped o) (is_kept args values o) esc))
        (or_cases (nat_lt o t.outer) (escaped_with t args values o) is_there)

    -- by the flag for arguments and the flag for other memory
    flags_touch : (arg other hidden : Bool) (values : List Value) (o : ℕ) (k : ℤ) → values_of t.locals args ≡ Some values →
        ((arg && is_passed values o) || (other && is_open t (escaped_with t args values) o)) ≡ true → Touches f t (Called (cond arg args []) other hidden) o k
    flags_touch true other hidden values o k are touched =
        ⊎_elim
        (λ (passed : is_passed values o ≡ true). let a = any_passed t args values o are passed in passed_touches args a.0 other hidden o a.2.0 k a.1 (arg_told a.0 o a.2.0 a.1 a.2.1))
        (λ (opened : (other && is_open t (escaped_with t args values) o) ≡ true). others other opened)
        (or_cases (is_passed values o) (other && is_open t (escaped_with t args values) o) touched) where
          others : (other : Bool) → (other && is_open t (escaped_with t args values) o) ≡ true → Touches f t (Called args other hidden) o k
          others true opened = known_touches args hidden o k (open_known values o are opened)
          others false opened = cc
    flags_touch false true hidden values o k are touched = known_touches [] hidden o k (open_known values o are touched)
    flags_touch false false hidden values o k are touched = cc

  -- what an instruction writes is what the text says that it writes
  pub written_touches : (b j : ℕ) (x : Placed) (inst : Inst) (w : Written) → x.inst ≡ inst → slice_get (insts_at f.blocks b) j ≡ Some x → Contains (written_by (doing t inst)) w →
      (u : Reach) × IsWritten f inst u × Touches f t u w.object w.offset
  written_touches b j x (Store ty val ptr tail) w is found there =
      let at = store_writes t ty (number_as ty (value_of t.locals val)) (operand_of t.locals Ptr ptr) w there in
      let told = operand_told f input fits n t h b j x Ptr ptr w.object at.0 (found, subst (λ i. Contains (map value_in (operands_of i)) ptr) (sym is) (1, omega arith, refl)) at.1 in
      span_touches f t ptr w.object at.0 w.offset (size_of ty) told at.2
  written_touches b j x (Copy to from len head tail) w is found there =
      let at = copy_writes t (operand_of t.locals Ptr to.val) (operand_of t.locals Ptr from.val) len w there in
      let told = operand_told f input fits n t h b j x Ptr to.val w.object at.0 (found, subst (λ i. Contains (map value_in (operands_of i)) to.val) (sym is) (0, omega arith, refl)) at.1 in
      span_touches f t to.val w.object at.0 w.offset len told at.2
  written_touches b j x (Call callee ret args e head tail) w is found there =
      let c = call_writes t callee ret args e (values_of t.locals args) w there in (
        Called (cond e.arg_write args []) e.other_write e.hidden_write,
        refl,
        flags_touch b j x callee ret args e head tail is found e.arg_write e.other_write e.hidden_write c.0 w.object w.offset c.1 c.2,
      )
  written_touches b j x (AllocaInst size head tail) w is found there = absurd (none_in there)
  written_touches b j x (Gep base offset head index tail) w is found there = absurd (moved_writes t (operand_of t.locals Ptr base) offset w there)
  written_touches b j x (StepInst base offset terms head index tail) w is found there = absurd (moved_by_writes t (operand_of t.locals Ptr base) offset (terms_bytes t.locals terms) w there)
  written_touches b j x (Load ty ptr tail) w is found there = absurd (load_writes t ty (operand_of t.locals Ptr ptr) w there)
  written_touches b j x (Bin op flags ty y z tail) w is found there = absurd (number_writes t ty (from_two (operated op flags (bits ty)) (number_as ty (value_of t.locals y)) (number_as ty (value_of t.locals z))) w there)
  written_touches b j x (Cmp pred flags ty y z tail) w is found there = absurd (number_writes t I1 (from_two (compared pred flags (bits ty)) (number_as ty (value_of t.locals y)) (number_as ty (value_of t.locals z))) w there)
  written_touches b j x (Select cond ty y z tail) w is found there = absurd (chosen_writes t (number_as I1 (value_of t.locals cond)) (operand_of t.locals ty y) (operand_of t.locals ty z) w there)
  written_touches b j x (Cast op flags from y to tail) w is found there = absurd (number_writes t to (from_one (converted op flags (bits from) (bits to)) (number_as from (value_of t.locals y))) w there)
  written_touches b j x (Phi ty entries tail) w is found there = absurd (none_in there)

  -- and what it reads is what the text says that it reads
  pub read_touches : (b j : ℕ) (x : Placed) (inst : Inst) (o : ℕ) (k : ℤ) → x.inst ≡ inst → slice_get (insts_at f.blocks b) j ≡ Some x → ReadsByte t inst o k →
      (u : Reach) × IsRead f inst u × Touches f t u o k
  read_touches b j x (Load ty ptr tail) o k is found (at, value, among) =
      let told = operand_told f input fits n t h b j x Ptr ptr o at (found, subst (λ i. Contains (map value_in (operands_of i)) ptr) (sym is) (0, omega arith, refl)) value in
      span_touches f t ptr o at k (size_of ty) told among
  read_touches b j x (Copy to from len head tail) o k is found (at, value, among) =
      let told = operand_told f input fits n t h b j x Ptr from.val o at (found, subst (λ i. Contains (map value_in (operands_of i)) from.val) (sym is) (1, omega arith, refl)) value in
      span_touches f t from.val o at k len told among
  read_touches b j x (Call callee ret args e head tail) o k is found (values, are, may, among) = (
    Called (cond e.arg_read args []) e.other_read e.hidden_read,
    refl,
    flags_touch b j x callee ret args e head tail is found e.arg_read e.other_read e.hidden_read values o k are may,
  )
  read_touches b j x (AllocaInst size head tail) o k is found reads = absurd reads
  read_touches b j x (Gep base offset head index tail) o k is found reads = absurd reads
  read_touches b j x (StepInst base offset terms head index tail) o k is found reads = absurd reads
  read_touches b j x (Store ty val ptr tail) o k is found reads = absurd reads
  read_touches b j x (Bin op flags ty y z tail) o k is found reads = absurd reads
  read_touches b j x (Cmp pred flags ty y z tail) o k is found reads = absurd reads
  read_touches b j x (Select cond ty y z tail) o k is found reads = absurd reads
  read_touches b j x (Cast op flags from y to tail) o k is found reads = absurd reads
  read_touches b j x (Phi ty entries tail) o k is found reads = absurd reads
