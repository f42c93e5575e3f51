-- An instruction that some line says with locals in the places of its numbers is said, with these summed up, by a line of its own.
use Rattle.std.proofs.Common.{◌≡◌, ◌≢◌, ◌∙◌, ◌+ℤ◌, ℕ, zero, suc, ℤ, Bool, true, false, cond, if◌then◌else◌, List, [], ◌∷◌, ◌++◌, filter, map, refl, sym, ap, subst, inl, inr, arith}
use Rattle.std.specs.Prelude.{Contains}
use Rattle.std.specs.List.{flat_map, list_all}
use Rattle.std.proofs.lemmas.Bool.{and_parts, and_from, true≢false}
use Rattle.ms_ir.specs.declared.names.Name.{Name}
use Rattle.ms_ir.specs.declared.names.Ty.TheVariants.{Ptr}
use Rattle.ms_ir.specs.declared.inst.Val.{Val}
use Rattle.ms_ir.specs.declared.inst.Val.TheVariants as val
use Rattle.ms_ir.specs.declared.inst.IndexTerm.{IndexTerm}
use Rattle.ms_ir.specs.declared.inst.Inst.{Inst}
use Rattle.ms_ir.specs.declared.inst.Inst.TheVariants as inst
use Rattle.ms_ir.specs.Func.{FuncState}
use Rattle.ms_ir.specs.Inst.{has_result}
use Rattle.ms_ir.specs.Module.{ModuleState}
use Rattle.ms_ir.specs.SoundFunc.{IsSoundInst}
use Rattle.ms_ir.specs.Types.{is_alloca, is_phi, is_indexed}
use Rattle.ms_ir.specs.Uses.{Operand, Use, of_type, index_operand, used_at}
use Rattle.ms_grammar.specs.Kept.{Each}
use Rattle.ms_grammar.specs.Parts.{filled}
use Rattle.ms_grammar.specs.Form.{printed}
use Rattle.ms_grammar.specs.Fits.{IsNamed, IsValue, IsLocal}
use Rattle.ms_grammar.specs.Grammar.{Says}
use Rattle.ms_grammar.specs.declared.line.Line.TheVariants as said
use Rattle.ms_grammar.specs.declared.line.RawVal.{RawVal}
use Rattle.ms_grammar.specs.declared.line.RawVal.TheVariants as raw
use Rattle.ms_grammar.specs.declared.line.RawIndex.{RawIndex}
use Rattle.ms_grammar.specs.declared.line.RawInst.{RawInst}
use Rattle.ms_grammar.specs.declared.line.RawInst.TheVariants.{Alloca, Gep, Step, Load, Store, Copy, Call, Bin, Cmp, Select, Cast, Phi}
use Rattle.ms_reread.specs.Added.{added_by, added_in}
use Rattle.ms_reread.specs.Terms.{raw_added_by, raw_added_in, is_open_value, is_open_index, kept_value, kept_index, raw_step_of, raw_joined, IsRenewed, AreRenewed}
use Rattle.ms_resolve.specs.Scope.{Scope, value_of, index_of, inst_of}
use Rattle.ms_resolve.specs.Used.{values_of, index_value, global_of, callee_of}
use Rattle.ms_resolve.specs.Faults.{IsIn}
use Rattle.ms_validity.proofs.ListLemmas.{in_nil, in_append, in_left}
use Rattle.ms_valid.specs.Func.{IsScopeIn, IsTermOrNumber, AreTermsOrNumbers, IsOrHasNumbers, IsSaidInst}
use Rattle.ms_valid.proofs.Values.{IsLocalTerm, terms_local}
use Rattle.ms_again.specs.Ordered.{is_open, step_of, kept_term, joined}
use Rattle.ms_again.specs.Ordered as own
use Rattle.ms_reprint.proofs.Parts.{back_map, on_cons, back_filter, on_map}
use Rattle.ms_reprint.proofs.Joined.{settled}

-- the law that a getelementptr with numbers in the places of locals is printed as a line that says it with these summed up
abbrev pub SaidWithNumbers : Type 0
SaidWithNumbers =
    (bytes : List ℕ) (n m : Name) (base other : RawVal) (offset : ℤ) (was terms : List RawIndex) (head index tail : List ℕ) →
    Says bytes (said.Inst n (Step base offset was head index tail)) → IsNamed m → IsValue Ptr other → AreRenewed was terms →
    Says (printed (said.Inst m (Step other offset terms head index tail))) (said.Inst m (raw_joined other offset terms head index tail))

-- a line says the instruction as it is
pub record IsPlainInst (m : ModuleState) (inst : Inst) : Type 0 where
  pub bytes : List ℕ
  pub name : Name
  pub line : RawInst
  pub says : Says bytes (said.Inst name line)
  pub globals : (w : List ℕ) → IsIn (flat_map global_of (values_of line)) w → IsIn m.names.globals w
  pub callee : (w : List ℕ) → IsIn (callee_of line) w → IsIn m.names.funcs w
  pub scope : Scope
  pub in_module : IsScopeIn m scope
  pub is : inst ≡ inst_of scope line

-- ---- terms of a line, with numbers

abbrev now_value : Val → RawVal → RawVal
now_value (val.Num ty n) v = raw.Num ty n
now_value (val.Local l) v = v
now_value (val.Global g) v = v

abbrev now_terms : List RawIndex → List IndexTerm → List RawIndex
now_terms [] us = []
now_terms (r ∷ rs) [] = []
now_terms (r ∷ rs) (u ∷ us) = record r { val = now_value u.val r.val } ∷ now_terms rs us

-- what one of them is now
record IsNow (s : Scope) (r : RawIndex) (u : IndexTerm) : Type 0 where
  renewed : IsRenewed r (record r { val = now_value u.val r.val })
  is : index_of s (record r { val = now_value u.val r.val }) ≡ u
  no_global : global_of (now_value u.val r.val) ≡ []

local_now : (s : Scope) (r : RawIndex) (v : RawVal) → IsLocal v → IsNow s (record r { val = v }) (index_of s (record r { val = v }))
local_now s r (raw.Num ty n) h = absurd h
local_now s r (raw.Local n) h = record { renewed = (refl, refl, h); is = refl; no_global = refl }
local_now s r (raw.Global n) h = absurd h

one_now : (s : Scope) (r : RawIndex) (u : IndexTerm) → IsLocal r.val → IsTermOrNumber (index_of s r) u → IsNow s r u
one_now s r u h (inl same) = subst (λ (x : IndexTerm). IsNow s r x) (sym same) (local_now s r r.val h)
one_now s r u h (inr (n, below, is)) = subst (λ (x : IndexTerm). IsNow s r x) (sym is) (record { renewed = (refl, refl, (refl, below)); is = refl; no_global = refl })

record AreNow (s : Scope) (rs : List RawIndex) (us : List IndexTerm) : Type 0 where
  renewed : AreRenewed rs (now_terms rs us)
  are : map (index_of s) (now_terms rs us) ≡ us
  no_globals : flat_map global_of (map index_value (filter is_open_index (now_terms rs us))) ≡ []

open_globals : (r : RawIndex) (rs : List RawIndex) → global_of r.val ≡ [] → flat_map global_of (map index_value (filter is_open_index rs)) ≡ []
    → flat_map global_of (map index_value (filter is_open_index (r ∷ rs))) ≡ []
open_globals r rs one rest = by (is_open_index r)
  where
    by : (b : Bool) → flat_map global_of (map index_value (cond b (r ∷ filter is_open_index rs) (filter is_open_index rs))) ≡ []
    by true = ap (λ (ws : List (List ℕ)). ws ++ flat_map global_of (map index_value (filter is_open_index rs))) one ∙ rest
    by false = rest

all_now : (s : Scope) (rs : List RawIndex) (us : List IndexTerm) → Each IsLocalTerm rs → AreTermsOrNumbers (map (index_of s) rs) us → AreNow s rs us
all_now s [] [] h t = record { renewed = tt; are = refl; no_globals = refl }
all_now s [] (u ∷ us) h t = absurd t
all_now s (r ∷ rs) [] h t = absurd t
all_now s (r ∷ rs) (u ∷ us) h t =
    let one = one_now s r u h.0 t.0 in
    let rest = all_now s rs us h.1 t.1 in
    record {
      renewed = (one.renewed, rest.renewed);
      are = ap (λ (x : IndexTerm). x ∷ map (index_of s) (now_terms rs us)) one.is ∙ ap (λ (xs : List IndexTerm). u ∷ xs) rest.are;
      no_globals = open_globals (record r { val = now_value u.val r.val }) (now_terms rs us) one.no_global rest.no_globals;
    }

-- ---- they are summed up in a line as in an instruction

one_added : (s : Scope) (v : RawVal) (scale : ℕ) → raw_added_by v scale ≡ added_by (value_of s v) scale
one_added s (raw.Num ty n) scale = refl
one_added s (raw.Local n) scale = refl
one_added s (raw.Global n) scale = refl

all_added : (s : Scope) (ts : List RawIndex) → raw_added_in ts ≡ added_in (map (index_of s) ts)
all_added s [] = refl
all_added s (t ∷ ts) = ap (λ (z : ℤ). z +ℤ raw_added_in ts) (one_added s t.val t.scale) ∙ ap (λ (z : ℤ). added_by (value_of s t.val) t.scale +ℤ z) (all_added s ts)

one_kept : (s : Scope) (v : RawVal) → kept_value v ≡ own.kept_value (value_of s v)
one_kept s (raw.Num ty n) = refl
one_kept s (raw.Local n) = refl
one_kept s (raw.Global n) = refl

all_kept : (s : Scope) (ts : List RawIndex) → map kept_index ts ≡ map kept_term (map (index_of s) ts)
all_kept s [] = refl
all_kept s (t ∷ ts) = ap (λ (x : List ℕ). x ∷ map kept_index ts) (one_kept s t.val) ∙ ap (λ (xs : List (List ℕ)). own.kept_value (value_of s t.val) ∷ xs) (all_kept s ts)

one_open : (s : Scope) (v : RawVal) → (if own.is_number (value_of s v) then false else true) ≡ is_open_value v
one_open s (raw.Num ty n) = refl
one_open s (raw.Local n) = refl
one_open s (raw.Global n) = refl

all_open : (s : Scope) (ts : List RawIndex) → map (index_of s) (filter is_open_index ts) ≡ filter is_open (map (index_of s) ts)
all_open s [] = refl
all_open s (t ∷ ts) =
    by (is_open_value t.val) (all_open s ts)
    ∙ ap (λ (b : Bool). cond b (index_of s t ∷ filter is_open (map (index_of s) ts)) (filter is_open (map (index_of s) ts))) (sym (one_open s t.val))
  where
    by : (b : Bool) → map (index_of s) (filter is_open_index ts) ≡ filter is_open (map (index_of s) ts) →
        map (index_of s) (cond b (t ∷ filter is_open_index ts) (filter is_open_index ts))
        ≡ cond b (index_of s t ∷ filter is_open (map (index_of s) ts)) (filter is_open (map (index_of s) ts))
    by true e = ap (λ (us : List IndexTerm). index_of s t ∷ us) e
    by false e = e

step_is : (s : Scope) (base : RawVal) (offset : ℤ) (ts : List RawIndex) (head index tail : List ℕ) →
    inst_of s (raw_step_of base offset ts head index tail) ≡ step_of (value_of s base) offset (map (index_of s) ts) head index tail
step_is s base offset [] head index tail = refl
step_is s base offset (t ∷ ts) head index tail = refl

joined_is : (s : Scope) (base : RawVal) (offset : ℤ) (ts : List RawIndex) (head index tail : List ℕ) →
    inst_of s (raw_joined base offset ts head index tail) ≡ joined (value_of s base) offset (map (index_of s) ts) head index tail
joined_is s base offset ts head index tail =
    let b = value_of s base in
    let us = map (index_of s) ts in
    step_is s base (offset +ℤ raw_added_in ts) (filter is_open_index ts) head (filled (map kept_index ts) index) tail
    ∙ ap (λ (z : ℤ). step_of b (offset +ℤ z) (map (index_of s) (filter is_open_index ts)) head (filled (map kept_index ts) index) tail) (all_added s ts)
    ∙ ap (λ (xs : List IndexTerm). step_of b (offset +ℤ added_in us) xs head (filled (map kept_index ts) index) tail) (all_open s ts)
    ∙ ap (λ (xs : List (List ℕ)). step_of b (offset +ℤ added_in us) (filter is_open us) head (filled xs index) tail) (all_kept s ts)

step_values : (base : RawVal) (offset : ℤ) (ts : List RawIndex) (head index tail : List ℕ) → values_of (raw_step_of base offset ts head index tail) ≡ base ∷ map index_value ts
step_values base offset [] head index tail = refl
step_values base offset (t ∷ ts) head index tail = refl

step_callee : (base : RawVal) (offset : ℤ) (ts : List RawIndex) (head index tail : List ℕ) (w : List ℕ) → IsIn (callee_of (raw_step_of base offset ts head index tail)) w → ⊥
step_callee base offset [] head index tail w i = in_nil w i
step_callee base offset (t ∷ ts) head index tail w i = in_nil w i

-- a name among no others
base_global : (base : RawVal) (rs ts : List RawIndex) (w : List ℕ) → flat_map global_of (map index_value ts) ≡ [] → IsIn (flat_map global_of (base ∷ map index_value ts)) w
    → IsIn (flat_map global_of (base ∷ map index_value rs)) w
base_global base rs ts w none i = elim (in_append (global_of base) (flat_map global_of (map index_value ts)) w i) [
  | inl here ↦ in_left (global_of base) (flat_map global_of (map index_value rs)) w here
  | inr later ↦ absurd (in_nil w (subst (λ (ws : List (List ℕ)). IsIn ws w) none later))
]

module _ (law : SaidWithNumbers) (m : ModuleState) (s : Scope) (bytes : List ℕ) (n : Name) (in_module : IsScopeIn m s) where
  step_plain : (i : Inst) (base : RawVal) (offset : ℤ) (rs : List RawIndex) (head index tail : List ℕ) → Says bytes (said.Inst n (Step base offset rs head index tail))
      → ((w : List ℕ) → IsIn (flat_map global_of (base ∷ map index_value rs)) w → IsIn m.names.globals w)
      → (us : List IndexTerm) → AreTermsOrNumbers (map (index_of s) rs) us → i ≡ inst.Step (value_of s base) offset us head index tail → IsPlainInst m (settled i)
  step_plain i base offset rs head index tail says globals us each is =
      let locals = terms_local says.scale.sizes says.scale.items rs says.fits.1.2 in
      let now = all_now s rs us locals each in
      let ts = now_terms rs us in
      let left = filter is_open_index ts in
      let text = filled (map kept_index ts) index in
      record {
        bytes = printed (said.Inst n (Step base offset ts head index tail));
        name = n;
        line = raw_joined base offset ts head index tail;
        says = law bytes n n base base offset rs ts head index tail says says.fits.0 says.fits.1.0 now.renewed;
        globals = λ w among.
            globals w
            (base_global base rs left w now.no_globals
            (subst (λ (vs : List RawVal). IsIn (flat_map global_of vs) w) (step_values base (offset +ℤ raw_added_in ts) left head text tail) among));
        callee = λ w among. absurd (step_callee base (offset +ℤ raw_added_in ts) left head text tail w among);
        scope = s;
        in_module = in_module;
        is =
            ap settled is ∙ ap (λ (xs : List IndexTerm). joined (value_of s base) offset xs head index tail) (sym now.are)
            ∙ sym (joined_is s base offset ts head index tail);
      }

  as_it_is : (i : Inst) (line : RawInst) → Says bytes (said.Inst n line) → ((w : List ℕ) → IsIn (flat_map global_of (values_of line)) w → IsIn m.names.globals w)
      → ((w : List ℕ) → IsIn (callee_of line) w → IsIn m.names.funcs w) → settled i ≡ inst_of s line → IsPlainInst m (settled i)
  as_it_is i line says globals callee is = record {
    bytes = bytes;
    name = n;
    line = line;
    says = says;
    globals = globals;
    callee = callee;
    scope = s;
    in_module = in_module;
    is = is;
  }

  by_line : (i : Inst) (line : RawInst) → Says bytes (said.Inst n line) → ((w : List ℕ) → IsIn (flat_map global_of (values_of line)) w → IsIn m.names.globals w)
      → ((w : List ℕ) → IsIn (callee_of line) w → IsIn m.names.funcs w) → IsOrHasNumbers (inst_of s line) i → IsPlainInst m (settled i)
  by_line i (Step base offset rs head index rest) says globals callee h = step_plain i base offset rs head index rest says globals h.0 h.1 h.2
  by_line i (Alloca size head rest) says globals callee h = as_it_is i (Alloca size head rest) says globals callee (ap settled h)
  by_line i (Gep base offset head index rest) says globals callee h = as_it_is i (Gep base offset head index rest) says globals callee (ap settled h)
  by_line i (Load ty ptr rest) says globals callee h = as_it_is i (Load ty ptr rest) says globals callee (ap settled h)
  by_line i (Store ty v ptr rest) says globals callee h = as_it_is i (Store ty v ptr rest) says globals callee (ap settled h)
  by_line i (Copy to from len head behind rest) says globals callee h = as_it_is i (Copy to from len head behind rest) says globals callee (ap settled h)
  by_line i (Call f ret args head behind rest) says globals callee h = as_it_is i (Call f ret args head behind rest) says globals callee (ap settled h)
  by_line i (Bin op flags ty a b rest) says globals callee h = as_it_is i (Bin op flags ty a b rest) says globals callee (ap settled h)
  by_line i (Cmp pred flags ty a b rest) says globals callee h = as_it_is i (Cmp pred flags ty a b rest) says globals callee (ap settled h)
  by_line i (Select c ty a b rest) says globals callee h = as_it_is i (Select c ty a b rest) says globals callee (ap settled h)
  by_line i (Cast op flags from a to rest) says globals callee h = as_it_is i (Cast op flags from a to rest) says globals callee (ap settled h)
  by_line i (Phi ty entries rest) says globals callee h = as_it_is i (Phi ty entries rest) says globals callee (ap settled h)

pub plain_said : SaidWithNumbers → (m : ModuleState) (i : Inst) → IsSaidInst m i → IsPlainInst m (settled i)
plain_said law m i h = by_line law m h.scope h.bytes h.name h.in_module i h.line h.says h.globals h.callee h.is

-- ---- it is sound, and as the one that it was

settled_form : (base : Val) (offset : ℤ) (ts : List IndexTerm) (head index tail : List ℕ) → (has_result (step_of base offset ts head index tail) ≡ true)
    × (is_phi (step_of base offset ts head index tail) ≡ false) × (is_alloca (step_of base offset ts head index tail) ≡ false)
settled_form base offset [] head index tail = (refl, refl, refl)
settled_form base offset (t ∷ ts) head index tail = (refl, refl, refl)

pub settled_result : (i : Inst) → has_result (settled i) ≡ has_result i
settled_result (inst.Step base offset ts head index tail) =
    (settled_form base (offset +ℤ added_in ts) (filter is_open ts) head (filled (map kept_term ts) index) tail).0
settled_result (inst.Alloca size head tail) = refl
settled_result (inst.Gep base offset head index tail) = refl
settled_result (inst.Load ty ptr tail) = refl
settled_result (inst.Store ty v ptr tail) = refl
settled_result (inst.Copy to from len head tail) = refl
settled_result (inst.Call callee ret args effects head tail) = refl
settled_result (inst.Bin op flags ty a b tail) = refl
settled_result (inst.Cmp pred flags ty a b tail) = refl
settled_result (inst.Select c ty a b tail) = refl
settled_result (inst.Cast op flags from a to tail) = refl
settled_result (inst.Phi ty entries tail) = refl

pub settled_phi : (i : Inst) → is_phi (settled i) ≡ is_phi i
settled_phi (inst.Step base offset ts head index tail) =
    (settled_form base (offset +ℤ added_in ts) (filter is_open ts) head (filled (map kept_term ts) index) tail).1
settled_phi (inst.Alloca size head tail) = refl
settled_phi (inst.Gep base offset head index tail) = refl
settled_phi (inst.Load ty ptr tail) = refl
settled_phi (inst.Store ty v ptr tail) = refl
settled_phi (inst.Copy to from len head tail) = refl
settled_phi (inst.Call callee ret args effects head tail) = refl
settled_phi (inst.Bin op flags ty a b tail) = refl
settled_phi (inst.Cmp pred flags ty a b tail) = refl
settled_phi (inst.Select c ty a b tail) = refl
settled_phi (inst.Cast op flags from a to tail) = refl
settled_phi (inst.Phi ty entries tail) = refl

pub settled_alloca : (i : Inst) → is_alloca (settled i) ≡ is_alloca i
settled_alloca (inst.Step base offset ts head index tail) =
    (settled_form base (offset +ℤ added_in ts) (filter is_open ts) head (filled (map kept_term ts) index) tail).2
settled_alloca (inst.Alloca size head tail) = refl
settled_alloca (inst.Gep base offset head index tail) = refl
settled_alloca (inst.Load ty ptr tail) = refl
settled_alloca (inst.Store ty v ptr tail) = refl
settled_alloca (inst.Copy to from len head tail) = refl
settled_alloca (inst.Call callee ret args effects head tail) = refl
settled_alloca (inst.Bin op flags ty a b tail) = refl
settled_alloca (inst.Cmp pred flags ty a b tail) = refl
settled_alloca (inst.Select c ty a b tail) = refl
settled_alloca (inst.Cast op flags from a to tail) = refl
settled_alloca (inst.Phi ty entries tail) = refl

uses_fewer : (b k : ℕ) (os news : List Operand) (u : Use) → ((x : Operand) → Contains news x → Contains os x) → Contains (map (used_at b k) news) u → Contains (map (used_at b k) os) u
uses_fewer b k os news u fewer among =
    let r = back_map (used_at b k) news u among in
    subst (λ (x : Use). Contains (map (used_at b k) os) x) r.2 (on_map (used_at b k) os r.0 (fewer r.0 r.1))

open_fewer : (base : Val) (ts : List IndexTerm) (x : Operand) → Contains (of_type Ptr base ∷ map index_operand (filter is_open ts)) x → Contains (of_type Ptr base ∷ map index_operand ts) x
open_fewer base ts x (zero, lt, is) = (zero, omega arith, is)
open_fewer base ts x (suc k, lt, is) =
    let r = back_map index_operand (filter is_open ts) x (k, omega arith, is) in
    on_cons (of_type Ptr base) (map index_operand ts) x (subst (λ w. Contains (map index_operand ts) w) r.2 (on_map index_operand ts r.0 (back_filter is_open ts r.0 r.1)))

open_indexed : (ts : List IndexTerm) → list_all is_indexed ts ≡ true → list_all is_indexed (filter is_open ts) ≡ true
open_indexed [] h = refl
open_indexed (t ∷ ts) h = let both = and_parts (is_indexed t) (list_all is_indexed ts) h in by (is_open t) both.0 (open_indexed ts both.1)
  where
    by : (c : Bool) → is_indexed t ≡ true → list_all is_indexed (filter is_open ts) ≡ true → list_all is_indexed (cond c (t ∷ filter is_open ts) (filter is_open ts)) ≡ true
    by true one rest = and_from (is_indexed t) (list_all is_indexed (filter is_open ts)) one rest
    by false one rest = rest

step_sound : (f : FuncState) (b k : ℕ) (base : Val) (offset o : ℤ) (terms ts : List IndexTerm) (head index text tail : List ℕ) → (list_all is_indexed terms ≡ true → list_all is_indexed ts ≡ true)
    → ((x : Operand) → Contains (of_type Ptr base ∷ map index_operand ts) x → Contains (of_type Ptr base ∷ map index_operand terms) x)
    → IsSoundInst f b k (inst.Step base offset terms head index tail) → IsSoundInst f b k (step_of base o ts head text tail)
step_sound f b k base offset o terms [] head index text tail types fewer h = record {
  types = refl;
  operands = λ x among. h.operands x (fewer x among);
  alloca = λ e. absurd (true≢false (sym e));
  phi = λ e. absurd (true≢false (sym e));
  entered = refl;
  entries = λ bad. bad;
  uses = λ u among. h.uses u (uses_fewer b k (of_type Ptr base ∷ map index_operand terms) (of_type Ptr base ∷ []) u fewer among);
}
step_sound f b k base offset o terms (t ∷ ts) head index text tail types fewer h = record {
  types = types h.types;
  operands = λ x among. h.operands x (fewer x among);
  alloca = λ e. absurd (true≢false (sym e));
  phi = λ e. absurd (true≢false (sym e));
  entered = refl;
  entries = λ bad. bad;
  uses = λ u among. h.uses u (uses_fewer b k (of_type Ptr base ∷ map index_operand terms) (of_type Ptr base ∷ map index_operand (t ∷ ts)) u fewer among);
}

-- summed up, a sound instruction is sound
pub settled_sound : (f : FuncState) (b k : ℕ) (i : Inst) → IsSoundInst f b k i → IsSoundInst f b k (settled i)
settled_sound f b k (inst.Step base offset terms head index tail) h =
    step_sound f b k base offset (offset +ℤ added_in terms) terms (filter is_open terms) head index (filled (map kept_term terms) index) tail (open_indexed terms) (open_fewer base terms) h
settled_sound f b k (inst.Alloca size head tail) h = h
settled_sound f b k (inst.Gep base offset head index tail) h = h
settled_sound f b k (inst.Load ty ptr tail) h = h
settled_sound f b k (inst.Store ty v ptr tail) h = h
settled_sound f b k (inst.Copy to from len head tail) h = h
settled_sound f b k (inst.Call callee ret args effects head tail) h = h
settled_sound f b k (inst.Bin op flags ty a d tail) h = h
settled_sound f b k (inst.Cmp pred flags ty a d tail) h = h
settled_sound f b k (inst.Select c ty a d tail) h = h
settled_sound f b k (inst.Cast op flags from a to tail) h = h
settled_sound f b k (inst.Phi ty entries tail) h = h
