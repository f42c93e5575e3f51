-- What the line of an instruction or terminator gives has types that may stand, and its operands are values of the line.
use Rattle.std.proofs.Common.{◌≡◌, ◌≢◌, ◌<◌, ◌&&◌, ℕ, zero, suc, Bool, true, false, List, [], ◌∷◌, map, Option, Some, None, refl, sym, ap, subst, ⊎_elim, arith}
use Rattle.std.specs.Prelude.{Contains, slice_get}
use Rattle.std.specs.List.{list_all}
use Rattle.std.specs.Str.{bytes_eq}
use Rattle.std.proofs.lemmas.Bool.{lt-ltb}
use Rattle.ms_ir.specs.declared.names.Ty.{Ty}
use Rattle.ms_ir.specs.declared.names.Ty.TheVariants.{I1, I8, I16, I32, I64, Ptr}
use Rattle.ms_ir.specs.declared.names.Mark.{Mark}
use Rattle.ms_ir.specs.declared.inst.CastOp.{CastOp}
use Rattle.ms_ir.specs.declared.inst.CastOp.TheVariants.{Zext, Sext, Trunc}
use Rattle.ms_ir.specs.Inst.{result_type}
use Rattle.ms_ir.specs.Types.{is_integer, is_pointer, is_stored, is_indexed, is_given, converts, types_stand, term_stands, has_entry}
use Rattle.ms_ir.specs.Types as ir
use Rattle.ms_ir.specs.Uses.{Operand, of_type, arg_operand, index_operand, entry_operand, operands_of, term_operands}
use Rattle.ms_grammar.specs.Words.{type_word}
use Rattle.ms_grammar.specs.Kept.{Each, IsStored, IndexItem, constant, term}
use Rattle.ms_grammar.specs.Form.{Scale, name_text}
use Rattle.ms_grammar.specs.Fits.{IsInt, IsValue, IsArg, IsEntryOf, IsResult, IsLocal, AreTerms, Converts, FitsInst, FitsTerm}
use Rattle.ms_grammar.specs.declared.line.RawVal.{RawVal}
use Rattle.ms_grammar.specs.declared.line.RawVal.TheVariants.{Num, Local, Global}
use Rattle.ms_grammar.specs.declared.line.RawArg.{RawArg}
use Rattle.ms_grammar.specs.declared.line.RawEntry.{RawEntry}
use Rattle.ms_grammar.specs.declared.line.RawIndex.{RawIndex}
use Rattle.ms_grammar.specs.declared.line.RawInst.{RawInst}
use Rattle.ms_grammar.specs.declared.line.RawInst.TheVariants.{Alloca, Gep, Step, Load, Store, Copy, Call, Bin, Cmp, Select, Cast, Phi}
use Rattle.ms_grammar.specs.declared.line.RawTerm.{RawTerm}
use Rattle.ms_grammar.specs.declared.line.RawTerm.TheVariants.{Br, CondBr, Ret, Unreachable}
use Rattle.ms_resolve.specs.Scope.{Scope, value_of, index_of, arg_of, args_of, keeps_at, behind_first, entry_of, marks_of, sig_of, number_of_word, inst_of, term_of}
use Rattle.ms_resolve.specs.Used.{values_of, term_values, arg_value, index_value, entry_value}
use Rattle.ms_resolve.specs.Faults.{IsIn}
use Rattle.ms_resolve.specs.Made.{makes}
use Rattle.ms_grammar.proofs.Objects.{type_one}
use Rattle.ms_grammar.proofs.Steps.{tells}

-- Types.

pub integer : (ty : Ty) → IsInt ty → is_integer ty ≡ true
integer I1 h = refl
integer I8 h = refl
integer I16 h = refl
integer I32 h = refl
integer I64 h = refl
integer Ptr h = absurd (let l : 0 < 0 = h in omega arith)

stored : (ty : Ty) → IsStored ty → is_stored ty ≡ true
stored I1 h = absurd (let l : 0 < 0 = h in omega arith)
stored I8 h = refl
stored I16 h = refl
stored I32 h = refl
stored I64 h = refl
stored Ptr h = absurd (let l : 0 < 0 = h in omega arith)

given : (ret : Option Ty) → IsResult ret → is_given ret ≡ true
given None h = refl
given (Some ty) h = integer ty h

converted : (op : CastOp) (from to : Ty) → Converts op from to → converts op from to ≡ true
converted Zext from to h = lt-ltb (ir.bits from) (ir.bits to) h
converted Sext from to h = lt-ltb (ir.bits from) (ir.bits to) h
converted Trunc from to h = lt-ltb (ir.bits to) (ir.bits from) h

both_true : (a b : Bool) → a ≡ true → b ≡ true → (a && b) ≡ true
both_true true true p q = refl
both_true true false p q = q
both_true false b p q = p

-- types of which it is impossible that they differ are one
pub same_type : (a b : Ty) → (a ≢ b → ⊥) → a ≡ b
same_type a b h =
    ⊎_elim
    (λ (t : (bytes_eq (type_word a) (type_word b) ≡ true) × (type_word a ≡ type_word b)). type_one a b t.1)
    (λ (f : (bytes_eq (type_word a) (type_word b) ≡ false) × (type_word a ≢ type_word b)). absurd (h (λ e. f.1 (ap type_word e))))
    (tells (type_word a) (type_word b))

-- Operands.

-- the operand is one of these values, of the type that is written for it
pub record Comes (s : Scope) (o : Operand) (vs : List RawVal) : Type 0 where
  pub raw : RawVal
  pub among : IsIn vs raw
  pub val_is : o.val ≡ value_of s raw
  pub is_value : IsValue o.ty raw

abbrev pub AllCome : Scope → List Operand → List RawVal → Type 0
AllCome s os vs = (o : Operand) → Contains os o → Comes s o vs

none : (s : Scope) (vs : List RawVal) → AllCome s [] vs
none s vs o (k, lt, is) = absurd (let l : k < 0 = lt in omega arith)

more : (s : Scope) (p : Operand) (os : List Operand) (vs : List RawVal) → Comes s p vs → AllCome s os vs → AllCome s (p ∷ os) vs
more s p os vs c all o (zero, lt, is) = subst (λ (q : Operand). Comes s q vs) is c
more s p os vs c all o (suc k, lt, is) = all o (k, omega arith, is)

at : (s : Scope) (ty : Ty) (v : RawVal) (vs : List RawVal) (k : ℕ) → slice_get vs k ≡ Some v → IsValue ty v → Comes s (of_type ty (value_of s v)) vs
at s ty v vs k e h = record { raw = v; among = (k, e); val_is = refl; is_value = h }

behind : (s : Scope) (os : List Operand) (w : RawVal) (vs : List RawVal) → AllCome s os vs → AllCome s os (w ∷ vs)
behind s os w vs all o i = let c = all o i in record { raw = c.raw; among = (suc c.among.0, c.among.1); val_is = c.val_is; is_value = c.is_value }

args_come : (s : Scope) (marks : List Mark) (args : List RawArg) → Each IsArg args → AllCome s (map arg_operand (args_of s marks args)) (map arg_value args)
args_come s marks [] h = none s []
args_come s marks (a ∷ args) h =
    let vs = a.val ∷ map arg_value args in
    more s (arg_operand (arg_of s (keeps_at marks) a)) (map arg_operand (args_of s (behind_first marks) args)) vs (at s a.ty a.val vs 0 refl h.0)
    (behind s (map arg_operand (args_of s (behind_first marks) args)) a.val (map arg_value args) (args_come s (behind_first marks) args h.1))

entries_come : (s : Scope) (ty : Ty) (entries : List RawEntry) → Each (IsEntryOf ty) entries → AllCome s (map (entry_operand ty) (map (entry_of s) entries)) (map entry_value entries)
entries_come s ty [] h = none s []
entries_come s ty (e ∷ entries) h =
    let vs = e.val ∷ map entry_value entries in
    more s (entry_operand ty (entry_of s e)) (map (entry_operand ty) (map (entry_of s) entries)) vs (at s ty e.val vs 0 refl h.0.0)
    (behind s (map (entry_operand ty) (map (entry_of s) entries)) e.val (map entry_value entries) (entries_come s ty entries h.1))

-- the locals among the indices of a getelementptr
abbrev pub IsLocalTerm : RawIndex → Type 0
IsLocalTerm t = IsLocal t.val

pub terms_local : (sizes : List ℕ) (items : List IndexItem) (terms : List RawIndex) → AreTerms sizes items terms → Each IsLocalTerm terms
terms_local sizes [] terms h = subst (λ (ts : List RawIndex). Each IsLocalTerm ts) (sym h) tt
terms_local [] (item ∷ items) terms h = absurd h
terms_local (size ∷ sizes) (constant v ∷ items) terms h = terms_local sizes items terms h
terms_local (size ∷ sizes) (term ty ∷ items) [] h = absurd h
terms_local (size ∷ sizes) (term ty ∷ items) (t ∷ terms) h = (h.0.2, terms_local sizes items terms h.1)

local_value : (ty : Ty) (v : RawVal) → IsLocal v → IsValue ty v
local_value ty (Num own n) h = absurd h
local_value ty (Local n) h = h
local_value ty (Global n) h = absurd h

terms_come : (s : Scope) (terms : List RawIndex) → Each IsLocalTerm terms → AllCome s (map index_operand (map (index_of s) terms)) (map index_value terms)
terms_come s [] h = none s []
terms_come s (t ∷ terms) h =
    let vs = t.val ∷ map index_value terms in
    more s (index_operand (index_of s t)) (map index_operand (map (index_of s) terms)) vs (at s t.ty t.val vs 0 refl (local_value t.ty t.val h.0))
    (behind s (map index_operand (map (index_of s) terms)) t.val (map index_value terms) (terms_come s terms h.1))

-- The types of the locals among indices have a place in memory, which the spelling of the line says and not its form.
abbrev pub IsStoredTerm : RawIndex → Type 0
IsStoredTerm t = IsStored t.ty

abbrev pub HasStoredTerms : RawInst → Type 0
HasStoredTerms (Alloca size head rest) = Unit {0}
HasStoredTerms (Gep base offset head index rest) = Unit {0}
HasStoredTerms (Step base offset terms head index rest) = Each IsStoredTerm terms
HasStoredTerms (Load ty ptr rest) = Unit {0}
HasStoredTerms (Store ty val ptr rest) = Unit {0}
HasStoredTerms (Copy to from len head behind rest) = Unit {0}
HasStoredTerms (Call callee ret args head behind rest) = Unit {0}
HasStoredTerms (Bin op flags ty a b rest) = Unit {0}
HasStoredTerms (Cmp pred flags ty a b rest) = Unit {0}
HasStoredTerms (Select c ty a b rest) = Unit {0}
HasStoredTerms (Cast op flags from a to rest) = Unit {0}
HasStoredTerms (Phi ty entries rest) = Unit {0}

all_indexed : (s : Scope) (terms : List RawIndex) → Each IsStoredTerm terms → list_all is_indexed (map (index_of s) terms) ≡ true
all_indexed s [] h = refl
all_indexed s (t ∷ terms) h = both_true (is_stored t.ty) (list_all is_indexed (map (index_of s) terms)) (stored t.ty h.0) (all_indexed s terms h.1)

one_comes : (s : Scope) (ty : Ty) (v : RawVal) → IsValue ty v → AllCome s (of_type ty (value_of s v) ∷ []) (v ∷ [])
one_comes s ty v h = more s (of_type ty (value_of s v)) [] (v ∷ []) (at s ty v (v ∷ []) 0 refl h) (none s (v ∷ []))

two_come : (s : Scope) (t u : Ty) (v w : RawVal) → IsValue t v → IsValue u w → AllCome s (of_type t (value_of s v) ∷ of_type u (value_of s w) ∷ []) (v ∷ w ∷ [])
two_come s t u v w h i =
    let vs = v ∷ w ∷ [] in
    more s (of_type t (value_of s v)) (of_type u (value_of s w) ∷ []) vs (at s t v vs 0 refl h) (more s (of_type u (value_of s w)) [] vs (at s u w vs 1 refl i) (none s vs))

-- a phi that has entries in its line has one
some_entry : (s : Scope) (ty : Ty) (entries : List RawEntry) (rest : List ℕ) → entries ≢ [] → has_entry (inst_of s (Phi ty entries rest)) ≡ true
some_entry s ty [] rest some = absurd (some refl)
some_entry s ty (e ∷ entries) rest some = refl

-- what a line of the grammar gives
pub record FromLine (s : Scope) (i : RawInst) : Type 0 where
  pub types : types_stand (inst_of s i) ≡ true
  pub entered : has_entry (inst_of s i) ≡ true
  pub come : AllCome s (operands_of (inst_of s i)) (values_of i)

pub from_line : (s : Scope) (scale : Scale) (i : RawInst) → FitsInst scale i → HasStoredTerms i → FromLine s i
from_line s scale (Alloca size head rest) h t = record { types = refl; entered = refl; come = none s [] }
from_line s scale (Gep base offset head index rest) h t = record { types = refl; entered = refl; come = one_comes s Ptr base h.0 }
from_line s scale (Step base offset terms head index rest) h t =
    let vs = base ∷ map index_value terms in
    record {
      types = all_indexed s terms t;
      entered = refl;
      come = more s (of_type Ptr (value_of s base)) (map index_operand (map (index_of s) terms)) vs (at s Ptr base vs 0 refl h.0)
          (behind s (map index_operand (map (index_of s) terms)) base (map index_value terms) (terms_come s terms (terms_local scale.sizes scale.items terms h.2)));
    }
from_line s scale (Load ty ptr rest) h t = record { types = stored ty h.0; entered = refl; come = one_comes s Ptr ptr h.1 }
from_line s scale (Store ty val ptr rest) h t = record { types = stored ty h.0; entered = refl; come = two_come s ty Ptr val ptr h.1 h.2 }
from_line s scale (Copy to from len head behind rest) h t =
    record { types = both_true (is_pointer to.ty) (is_pointer from.ty) (ap is_pointer h.0) (ap is_pointer h.1); entered = refl; come = two_come s to.ty from.ty to.val from.val h.2 h.3 }
from_line s scale (Call callee ret args head behind rest) h t =
    record { types = given ret h.1; entered = refl; come = args_come s (marks_of (sig_of s (number_of_word s.funcs (name_text callee)))) args h.2 }
from_line s scale (Bin op flags ty a b rest) h t = record { types = integer ty h.1; entered = refl; come = two_come s ty ty a b h.2 h.3 }
from_line s scale (Cmp pred flags ty a b rest) h t = record { types = integer ty h.1; entered = refl; come = two_come s ty ty a b h.2 h.3 }
from_line s scale (Select c ty a b rest) h t =
    let vs = c ∷ a ∷ b ∷ [] in
    record {
      types = refl;
      entered = refl;
      come = more s (of_type I1 (value_of s c)) (of_type ty (value_of s a) ∷ of_type ty (value_of s b) ∷ []) vs (at s I1 c vs 0 refl h.0)
          (behind s (of_type ty (value_of s a) ∷ of_type ty (value_of s b) ∷ []) c (a ∷ b ∷ []) (two_come s ty ty a b h.1 h.2));
    }
from_line s scale (Cast op flags from a to rest) h t =
    record {
      types = both_true (is_integer from && is_integer to) (converts op from to) (both_true (is_integer from) (is_integer to) (integer from h.1) (integer to h.2)) (converted op from to h.3);
      entered = refl;
      come = one_comes s from a h.4;
    }
from_line s scale (Phi ty entries rest) h t = record { types = refl; entered = some_entry s ty entries rest h.0; come = entries_come s ty entries h.1 }

pub record FromTerm (s : Scope) (t : RawTerm) : Type 0 where
  pub types : term_stands (term_of s t) ≡ true
  pub come : AllCome s (term_operands (term_of s t)) (term_values t)

pub from_term : (s : Scope) (t : RawTerm) → FitsTerm t → FromTerm s t
from_term s (Br to rest) h = record { types = refl; come = none s [] }
from_term s (CondBr c a b rest) h = record { types = refl; come = one_comes s I1 c h.0 }
from_term s (Ret None rest) h = record { types = refl; come = none s [] }
from_term s (Ret (Some g) rest) h = record { types = integer g.0 h.0; come = one_comes s g.0 g.1 h.1 }
from_term s (Unreachable rest) h = record { types = refl; come = none s [] }

-- what makes a local has its type
pub makes_typed : (s : Scope) (i : RawInst) → makes i ≡ true → (ty : Ty) × (result_type (inst_of s i) ≡ Some ty)
makes_typed s (Alloca size head rest) e = (Ptr, refl)
makes_typed s (Gep base offset head index rest) e = (Ptr, refl)
makes_typed s (Step base offset terms head index rest) e = (Ptr, refl)
makes_typed s (Load ty ptr rest) e = (ty, refl)
makes_typed s (Store ty val ptr rest) e = cc
makes_typed s (Copy to from len head behind rest) e = cc
makes_typed s (Call callee None args head behind rest) e = cc
makes_typed s (Call callee (Some ty) args head behind rest) e = (ty, refl)
makes_typed s (Bin op flags ty a b rest) e = (ty, refl)
makes_typed s (Cmp pred flags ty a b rest) e = (I1, refl)
makes_typed s (Select c ty a b rest) e = (ty, refl)
makes_typed s (Cast op flags from a to rest) e = (to, refl)
makes_typed s (Phi ty entries rest) e = (ty, refl)
