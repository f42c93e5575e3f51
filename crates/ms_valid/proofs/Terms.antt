-- Instructions that have numbers in the places of locals among the indices of a getelementptr.
use Rattle.std.proofs.Common.{◌≡◌, ◌∙◌, ◌⊎◌, ◌<◌, ◌^◌, ◌&&◌, ℕ, zero, suc, Bool, true, List, [], ◌∷◌, map, refl, sym, ap, subst, inl, inr, arith}
use Rattle.std.specs.Prelude.{Contains, ℤ}
use Rattle.std.specs.List.{list_all}
use Rattle.std.proofs.lemmas.Bool.{and_parts}
use Rattle.ms_ir.specs.declared.names.Ty.{Ty}
use Rattle.ms_ir.specs.declared.names.Ty.TheVariants.{I1, I8, I16, I32, I64, Ptr}
use Rattle.ms_ir.specs.declared.inst.Val.{Val}
use Rattle.ms_ir.specs.declared.inst.Val.TheVariants.{Num}
use Rattle.ms_ir.specs.declared.inst.IndexTerm.{IndexTerm}
use Rattle.ms_ir.specs.declared.inst.Inst.{Inst}
use Rattle.ms_ir.specs.declared.inst.Inst.TheVariants.{Alloca, Gep, Step, Load, Store, Copy, Call, Bin, Cmp, Select, Cast, Phi}
use Rattle.ms_ir.specs.Types.{bits, is_integer, is_stored, is_indexed, types_stand}
use Rattle.ms_ir.specs.Uses.{Operand, of_type, index_operand, operands_of}
use Rattle.ms_valid.specs.Func.{IsTermOrNumber, AreTermsOrNumbers, IsOrHasNumbers}

same_terms : (ts : List IndexTerm) → AreTermsOrNumbers ts ts
same_terms [] = tt
same_terms (t ∷ ts) = (inl refl, same_terms ts)

-- an instruction is itself
pub same_inst : (i : Inst) → IsOrHasNumbers i i
same_inst (Alloca size head tail) = refl
same_inst (Gep base offset head index tail) = refl
same_inst (Step base offset terms head index tail) = (terms, same_terms terms, refl)
same_inst (Load ty ptr tail) = refl
same_inst (Store ty val ptr tail) = refl
same_inst (Copy to from len head tail) = refl
same_inst (Call callee ret args effects head tail) = refl
same_inst (Bin op flags ty a b tail) = refl
same_inst (Cmp pred flags ty a b tail) = refl
same_inst (Select cond ty a b tail) = refl
same_inst (Cast op flags from a to tail) = refl
same_inst (Phi ty entries tail) = refl

pub is_same : (was now : Inst) → now ≡ was → IsOrHasNumbers was now
is_same was now e = subst (λ (i : Inst). IsOrHasNumbers was i) (sym e) (same_inst was)

-- a getelementptr that may have numbers
pub record HasNumbers (was now : Inst) : Type 0 where
  pub base : Val
  pub offset : ℤ
  pub terms : List IndexTerm
  pub changed : List IndexTerm
  pub head : List ℕ
  pub index : List ℕ
  pub tail : List ℕ
  pub was_is : was ≡ Step base offset terms head index tail
  pub now_is : now ≡ Step base offset changed head index tail
  pub each : AreTermsOrNumbers terms changed

pub numbers_or_same : (was now : Inst) → IsOrHasNumbers was now → (now ≡ was) ⊎ HasNumbers was now
numbers_or_same (Step base offset terms head index tail) now h =
    inr (record {
      base = base;
      offset = offset;
      terms = terms;
      changed = h.0;
      head = head;
      index = index;
      tail = tail;
      was_is = refl;
      now_is = h.2;
      each = h.1;
    })
numbers_or_same (Alloca size head tail) now h = inl h
numbers_or_same (Gep base offset head index tail) now h = inl h
numbers_or_same (Load ty ptr tail) now h = inl h
numbers_or_same (Store ty val ptr tail) now h = inl h
numbers_or_same (Copy to from len head tail) now h = inl h
numbers_or_same (Call callee ret args effects head tail) now h = inl h
numbers_or_same (Bin op flags ty a b tail) now h = inl h
numbers_or_same (Cmp pred flags ty a b tail) now h = inl h
numbers_or_same (Select cond ty a b tail) now h = inl h
numbers_or_same (Cast op flags from a to tail) now h = inl h
numbers_or_same (Phi ty entries tail) now h = inl h

-- ---- types and operands

stored_number : (ty : Ty) → is_stored ty ≡ true → is_integer ty ≡ true
stored_number I1 h = refl
stored_number I8 h = refl
stored_number I16 h = refl
stored_number I32 h = refl
stored_number I64 h = refl
stored_number Ptr h = h

same_index_type : (t u : IndexTerm) → IsTermOrNumber t u → u.ty ≡ t.ty
same_index_type t u (inl e) = ap (λ (x : IndexTerm). x.ty) e
same_index_type t u (inr n) = ap (λ (x : IndexTerm). x.ty) n.2

terms_stand : (ts us : List IndexTerm) → AreTermsOrNumbers ts us → list_all is_indexed us ≡ list_all is_indexed ts
terms_stand [] [] h = refl
terms_stand [] (u ∷ us) h = absurd h
terms_stand (t ∷ ts) [] h = absurd h
terms_stand (t ∷ ts) (u ∷ us) h =
    ap (λ (ty : Ty). is_stored ty && list_all is_indexed us) (same_index_type t u h.0) ∙ ap (λ (b : Bool). is_indexed t && b) (terms_stand ts us h.1)

-- numbers change no type
pub stand_with_numbers : (was now : Inst) → IsOrHasNumbers was now → types_stand now ≡ types_stand was
stand_with_numbers was now h = elim (numbers_or_same was now h) [
  | inl e ↦ ap types_stand e
  | inr n ↦ ap types_stand n.now_is ∙ terms_stand n.terms n.changed n.each ∙ ap types_stand (sym n.was_is)
]

-- a number of the operand's type
pub record IsNumberOf (o : Operand) : Type 0 where
  pub number : ℕ
  pub is : o.val ≡ Num o.ty number
  pub integer : is_integer o.ty ≡ true
  pub below : number < 2 ^ bits o.ty

number_term : (t u : IndexTerm) → is_stored t.ty ≡ true → IsTermOrNumber t u → (u ≡ t) ⊎ IsNumberOf (index_operand u)
number_term t u s (inl e) = inl e
number_term t u s (inr n) =
    inr (subst (λ (x : IndexTerm). IsNumberOf (index_operand x)) (sym n.2) (record { number = n.0; is = refl; integer = stored_number t.ty s; below = n.1 }))

terms_operand : (ts us : List IndexTerm) → AreTermsOrNumbers ts us → list_all is_indexed ts ≡ true → (o : Operand) → Contains (map index_operand us) o → Contains (map index_operand ts) o ⊎ IsNumberOf o
terms_operand [] [] h s o (k, lt, is) = absurd (let l : k < 0 = lt in omega arith)
terms_operand [] (u ∷ us) h s o i = absurd h
terms_operand (t ∷ ts) [] h s o i = absurd h
terms_operand (t ∷ ts) (u ∷ us) h s o (zero, lt, is) = elim (number_term t u (and_parts (is_stored t.ty) (list_all is_indexed ts) s).0 h.0) [
  | inl e ↦ inl (zero, omega arith, ap index_operand (sym e) ∙ is)
  | inr n ↦ inr (subst IsNumberOf is n)
]
terms_operand (t ∷ ts) (u ∷ us) h s o (suc k, lt, is) = elim (terms_operand ts us h.1 (and_parts (is_stored t.ty) (list_all is_indexed ts) s).1 o (k, omega arith, is)) [
  | inl c ↦ inl (suc c.0, omega (arith, c.1), c.2)
  | inr n ↦ inr n
]

step_operand : (base : Val) (ts us : List IndexTerm) → AreTermsOrNumbers ts us → list_all is_indexed ts ≡ true → (o : Operand) → Contains (of_type Ptr base ∷ map index_operand us) o
    → Contains (of_type Ptr base ∷ map index_operand ts) o ⊎ IsNumberOf o
step_operand base ts us h s o (zero, lt, is) = inl (zero, omega arith, is)
step_operand base ts us h s o (suc k, lt, is) = elim (terms_operand ts us h s o (k, omega arith, is)) [
  | inl c ↦ inl (suc c.0, omega (arith, c.1), c.2)
  | inr n ↦ inr n
]

-- each operand is an operand of the line, or a number
pub operand_with_numbers : (was now : Inst) → IsOrHasNumbers was now → types_stand was ≡ true → (o : Operand) → Contains (operands_of now) o → Contains (operands_of was) o ⊎ IsNumberOf o
operand_with_numbers was now h stand o among = elim (numbers_or_same was now h) [
  | inl e ↦ inl (subst (λ (i : Inst). Contains (operands_of i) o) e among)
  | inr n ↦
      let stands = ap types_stand (sym n.was_is) ∙ stand in
      elim (step_operand n.base n.terms n.changed n.each stands o (subst (λ (i : Inst). Contains (operands_of i) o) n.now_is among)) [
        | inl c ↦ inl (subst (λ (i : Inst). Contains (operands_of i) o) (sym n.was_is) c)
        | inr m ↦ inr m
      ]
]
