-- Pointers among the operands of an instruction, and what it makes of them.
use Rattle.std.proofs.Common.{◌≡◌, ◌∙◌, ◌<◌, ℕ, zero, suc, ℤ, pos, ◌+ℤ◌, true, List, [], ◌∷◌, length, Some, None, refl, sym, ap, subst, inl, ⊎_elim, arith}
use Rattle.std.specs.Prelude.{Contains, slice_get, map}
use Rattle.ms_ir.specs.declared.names.Ty.{Ty}
use Rattle.ms_ir.specs.declared.names.Ty.TheVariants.{Ptr}
use Rattle.ms_ir.specs.declared.names.LocalNo.{LocalNo}
use Rattle.ms_ir.specs.declared.inst.Val.{Val}
use Rattle.ms_ir.specs.declared.inst.Val.TheVariants.{Num, Local as LocalVal, Global as GlobalVal}
use Rattle.ms_ir.specs.declared.inst.Arg.{Arg}
use Rattle.ms_ir.specs.declared.inst.Entry.{Entry}
use Rattle.ms_ir.specs.declared.inst.Inst.{Inst}
use Rattle.ms_ir.specs.declared.inst.Inst.TheVariants.{Alloca as AllocaInst, Gep, Step as StepInst, Load, Store, Copy, Call, Bin, Cmp, Select, Cast, Phi}
use Rattle.ms_ir.specs.Func.{Placed, FuncState, insts_at}
use Rattle.ms_ir.specs.Locals.{IsNumbered}
use Rattle.ms_ir.specs.Uses.{Operand, operands_of, arg_operand, entry_operand}
use Rattle.ms_alias.specs.declared.loc.Root.{Root}
use Rattle.ms_alias.specs.declared.loc.Root.TheVariants.{Local, Global}
use Rattle.ms_alias.specs.Roots.{Maker, maker_of, makes_pointer, is_alloca, pointer_of, step_by, step_in, step_by_maker, step_of}
use Rattle.ms_alias.specs.Bases.{Alloca, IsAllocaLocal, leads_of, leads_in}
use Rattle.ms_alias.proofs.Makers.{giver_makes}
use Rattle.ms_meaning.specs.Values.{Pointer}
use Rattle.ms_meaning.specs.States.{Input, State, IsInput, value_of, operand_of}
use Rattle.ms_sound.proofs.Chains.{val_lead, brings, root_base}
use Rattle.ms_sound.proofs.Told.{Told, Keeps, told_later, denotes_later, told_global, told_root, told_step}
use Rattle.ms_sound.proofs.Given.{Gives, MadeFrom, operand_value}
use Rattle.ms_sound.proofs.Held.{Holds}

abbrev pub value_in : Operand → Val
value_in o = o.val

-- an instruction at this place uses the value
abbrev pub IsUsedAt : FuncState → ℕ → ℕ → Placed → Val → Type 0
IsUsedAt f b k x v = (slice_get (insts_at f.blocks b) k ≡ Some x) × Contains (map value_in (operands_of x.inst)) v

pub entry_used : (ty : Ty) (entries : List Entry) (e : Entry) → Contains entries e → Contains (map value_in (map (entry_operand ty) entries)) e.val
entry_used ty [] e (k, lt, is) = absurd (let l : k < 0 = lt in omega arith)
entry_used ty (d ∷ entries) e (zero, lt, is) = (zero, omega arith, ap (λ (x : Entry). x.val) is)
entry_used ty (d ∷ entries) e (suc k, lt, is) = let rest = entry_used ty entries e (k, omega arith, is) in (suc rest.0, omega arith, rest.2)

pub arg_used : (args : List Arg) (a : Arg) → Contains args a → Contains (map value_in (map arg_operand args)) a.val
arg_used [] a (k, lt, is) = absurd (let l : k < 0 = lt in omega arith)
arg_used (b ∷ args) a (zero, lt, is) = (zero, omega arith, ap (λ (x : Arg). x.val) is)
arg_used (b ∷ args) a (suc k, lt, is) = let rest = arg_used args a (k, omega arith, is) in (suc rest.0, omega arith, rest.2)

entry_source : (entries : List Entry) (e : Entry) → Contains entries e → Contains (map (λ (x : Entry). x.val) entries) e.val
entry_source [] e (k, lt, is) = absurd (let l : k < 0 = lt in omega arith)
entry_source (d ∷ entries) e (zero, lt, is) = (zero, omega arith, ap (λ (x : Entry). x.val) is)
entry_source (d ∷ entries) e (suc k, lt, is) = let rest = entry_source entries e (k, omega arith, is) in (suc rest.0, omega arith, rest.2)

-- a pointer that a value is, and what is told of it
abbrev pub IsToldVal : FuncState → State → Val → ℕ → ℤ → Type 0
IsToldVal f s v o at = (p : Root) × (pointer_of v ≡ Some p) × Told f s p o at

module _ (f : FuncState) (input : Input) (fits : IsInput f input) (n : ℕ) (t : State) (h : Holds f input n t) where
  val_told : (b k : ℕ) (x : Placed) (v : Val) (o : ℕ) (at : ℤ) → IsUsedAt f b k x v → value_of t.locals v ≡ Some (Pointer o at) → IsToldVal f t v o at
  val_told b k x (Num ty m) o at used e = cc
  val_told b k x (LocalVal l) o at used e = (Local l, refl, h.told l o at e)
  val_told b k x (GlobalVal g) o at used e =
      let there : g.0 < length input.objects = fits.globals g (inl (b, k, x, used.0, used.1)) in
      let below : g.0 < t.outer = subst (λ m. g.0 < m) (sym h.outer) there in
      let object : g.0 ≡ o = cc in
      let offset : pos 0 ≡ at = cc in
      (Global g, refl, subst (λ z. Told f t (Global g) o z) offset (subst (λ q. Told f t (Global g) q (pos 0)) object (told_global f t g below)))

  pub operand_told : (b k : ℕ) (x : Placed) (ty : Ty) (v : Val) (o : ℕ) (at : ℤ) → IsUsedAt f b k x v → operand_of t.locals ty v ≡ Some (Pointer o at) → IsToldVal f t v o at
  operand_told b k x ty v o at used e = val_told b k x v o at used (operand_value ty (value_of t.locals v) (Pointer o at) e).0

made_makes : (t : State) (inst : Inst) (o : ℕ) (at : ℤ) → MadeFrom t inst o at → makes_pointer inst ≡ true
made_makes t (AllocaInst size head tail) o at m = refl
made_makes t (Gep base offset head index tail) o at m = refl
made_makes t (StepInst base offset terms head index tail) o at m = refl
made_makes t (Select cond ty a b tail) o at m = m.0
made_makes t (Phi ty entries tail) o at m = m.0
made_makes t (Load ty ptr tail) o at m = absurd m
made_makes t (Store ty val ptr tail) o at m = absurd m
made_makes t (Copy to from len head tail) o at m = absurd m
made_makes t (Call callee ret args effects head tail) o at m = absurd m
made_makes t (Bin op flags ty a b tail) o at m = absurd m
made_makes t (Cmp pred flags ty a b tail) o at m = absurd m
made_makes t (Cast op flags from a to tail) o at m = absurd m

-- the giver of a pointer makes it
pub gives_makes : (f : FuncState) (t s : State) (l : LocalNo) (o : ℕ) (at : ℤ) (g : Gives f t s l) → s.locals l.0 ≡ Some (Pointer o at) → makes_pointer g.inst.inst ≡ true
gives_makes f t s l o at g e = made_makes t g.inst.inst o at (g.from o at e)

module _ (f : FuncState) (input : Input) (fits : IsInput f input) (numbered : IsNumbered f) (n : ℕ) (t s : State) (h : Holds f input n t) (keeps : Keeps f t s) where
  -- a pointer that is one of others, or is made of one
  chosen_told : (l : LocalNo) (o : ℕ) (at from : ℤ) (p : Root) → step_of f (Local l) ≡ None → s.locals l.0 ≡ Some (Pointer o at) → Contains (leads_of f (Local l)) p → Told f t p o from → Told f s (Local l) o at
  chosen_told l o at from p none e lead told =
      told_root f s l o at told.base none e (brings f (Local l) p told.base lead (root_base f told.steps p told.root told.offset told.base told.ends told.has_base))
      (denotes_later f t s told.base o keeps told.denotes)

  stepped_told : (l : LocalNo) (o : ℕ) (from at offset : ℤ) (v : Val) → step_of f (Local l) ≡ step_by offset (pointer_of v) → at ≡ from +ℤ offset → IsToldVal f t v o from → Told f s (Local l) o at
  stepped_told l o from at offset v step is told =
      subst (λ z. Told f s (Local l) o z) (sym is)
      (told_step f s (Local l) (record { base = told.0; bytes = offset }) o from (step ∙ ap (step_by offset) told.1) (told_later f t s told.0 o from keeps told.2))

  alloca_told : (l : LocalNo) (o : ℕ) (at : ℤ) (m : Maker) → maker_of f l ≡ Some m → is_alloca m.inst ≡ true → step_in m.inst ≡ None → s.locals l.0 ≡ Some (Pointer o at) → at ≡ pos 0 → Told f s (Local l) o at
  alloca_told l o at m maker alloca none e zero_at =
      let is : IsAllocaLocal f l = (m, maker, alloca) in
      told_root f s l o at (Alloca l) (ap step_by_maker maker ∙ none) e (0, Local l, refl, inl (is, refl)) (is, e ∙ ap (λ z. Some (Pointer o z)) zero_at)

  made_told : (b k : ℕ) (x : Placed) (l : LocalNo) (o : ℕ) (at : ℤ) (inst : Inst) → x.inst ≡ inst → slice_get (insts_at f.blocks b) k ≡ Some x → maker_of f l ≡ Some (record { block = b; inst = inst }) →
      s.locals l.0 ≡ Some (Pointer o at) → MadeFrom t inst o at → Told f s (Local l) o at
  made_told b k x l o at (AllocaInst size head tail) is found maker e m = alloca_told l o at (record { block = b; inst = AllocaInst size head tail }) maker refl refl e m.1
  made_told b k x l o at (Gep base offset head index tail) is found maker e m =
      stepped_told l o m.0 at offset base (ap step_by_maker maker) m.2
      (operand_told f input fits n t h b k x Ptr base o m.0 (found, subst (λ i. Contains (map value_in (operands_of i)) base) (sym is) (0, omega arith, refl)) m.1)
  made_told b k x l o at (StepInst base offset terms head index tail) is found maker e m =
      let told = operand_told f input fits n t h b k x Ptr base o m.0 (found, subst (λ i. Contains (map value_in (operands_of i)) base) (sym is) (0, omega arith, refl)) m.1 in
      chosen_told l o at m.0 told.0 (ap step_by_maker maker) e (subst (λ o. Contains (leads_in o) told.0) (sym maker) (val_lead (base ∷ []) base told.0 (0, omega arith, refl) told.1)) told.2
  made_told b k x l o at (Select cond ty a c tail) is found maker e m =
      ⊎_elim
      (λ (first : operand_of t.locals ty a ≡ Some (Pointer o at)).
      let told = operand_told f input fits n t h b k x ty a o at (found, subst (λ i. Contains (map value_in (operands_of i)) a) (sym is) (1, omega arith, refl)) first in
      chosen_told l o at at told.0 (ap step_by_maker maker) e (subst (λ o. Contains (leads_in o) told.0) (sym maker) (val_lead (a ∷ c ∷ []) a told.0 (0, omega arith, refl) told.1)) told.2)
      (λ (second : operand_of t.locals ty c ≡ Some (Pointer o at)).
      let told = operand_told f input fits n t h b k x ty c o at (found, subst (λ i. Contains (map value_in (operands_of i)) c) (sym is) (2, omega arith, refl)) second in
      chosen_told l o at at told.0 (ap step_by_maker maker) e (subst (λ o. Contains (leads_in o) told.0) (sym maker) (val_lead (a ∷ c ∷ []) c told.0 (1, omega arith, refl) told.1)) told.2)
      m.1
  made_told b k x l o at (Phi ty entries tail) is found maker e m =
      let told = operand_told f input fits n t h b k x ty m.1.val o at (found, subst (λ i. Contains (map value_in (operands_of i)) m.1.val) (sym is) (entry_used ty entries m.1 m.2)) m.3 in
      chosen_told l o at at told.0 (ap step_by_maker maker) e
      (subst (λ o. Contains (leads_in o) told.0) (sym maker) (val_lead (map (λ (x : Entry). x.val) entries) m.1.val told.0 (entry_source entries m.1 m.2) told.1)) told.2
  made_told b k x l o at (Load ty ptr tail) is found maker e m = absurd m
  made_told b k x l o at (Store ty val ptr tail) is found maker e m = absurd m
  made_told b k x l o at (Copy to from len head tail) is found maker e m = absurd m
  made_told b k x l o at (Call callee ret args effects head tail) is found maker e m = absurd m
  made_told b k x l o at (Bin op flags ty a c tail) is found maker e m = absurd m
  made_told b k x l o at (Cmp pred flags ty a c tail) is found maker e m = absurd m
  made_told b k x l o at (Cast op flags from a to tail) is found maker e m = absurd m

  pub gives_told : (l : LocalNo) (o : ℕ) (at : ℤ) → Gives f t s l → s.locals l.0 ≡ Some (Pointer o at) → Told f s (Local l) o at
  gives_told l o at g e =
      made_told s.block g.place g.inst l o at g.inst.inst refl g.found
      (giver_makes f numbered l s.block g.place g.inst (record { found = g.found; gives = g.result }) (gives_makes f t s l o at g e)) e (g.from o at e)
