-- The one access among the operands of a block besides its own phi.
use Rattle.std.proofs.Common.{◌≡◌, ◌≢◌, ◌<◌, ◌≤◌, ◌⊎◌, inl, inr, ℕ, ◌+◌, List, length, Option, Some, None, refl, sym, ◌∙◌, subst, arith, ⊎_elim}
use Rattle.std.specs.Prelude.{MatchOption}
use Rattle.std.proofs.lemmas.Bool.{cases_eq}
use Rattle.ms_paths.specs.Flow.{Block as Run}
use Rattle.ms_ir.specs.declared.names.BlockNo.{BlockNo}
use Rattle.ms_flow.specs.Flow.{sources_of}
use Rattle.ms_form.specs.declared.access.Access.{Access}
use Rattle.ms_form.specs.declared.access.Access.TheVariants.{Entry, Phi}
use Rattle.ms_form.specs.Form.{FormState, HasList}
use Rattle.ms_build.specs.Accesses.{operand_at}
use Rattle.ms_build.specs.Settled.{IsTrivial}
use Rattle.ms_build.specs.Changes.{HasOther}

-- the first operands are the phi of their block and this access alone
abbrev pub IsTrivialBelow : FormState → BlockNo → ℕ → Access → Type 0
IsTrivialBelow f b k a = (b.0 ≡ 0 → a ≡ Entry) × ((slot : ℕ) → slot < k → (operand_at f b.0 slot ≡ Some a) ⊎ (operand_at f b.0 slot ≡ Some (Phi b)))

pub record IsOnlyAccess (f : FormState) (b : BlockNo) (k : ℕ) (a : Access) : Type 0 where
  pub other : a ≢ Phi b
  pub listed : HasList f a
  pub trivial : IsTrivialBelow f b k a
  pub only : (x : Access) → IsTrivialBelow f b k x → x ≡ a

-- what was found among the first operands
abbrev pub IsOnly : FormState → BlockNo → ℕ → Option Access → Type 0
IsOnly f b k None = (b.0 ≢ 0) × ((slot : ℕ) → slot < k → operand_at f b.0 slot ≡ Some (Phi b))
IsOnly f b k (Some a) = IsOnlyAccess f b k a

pub only_entry : (f : FormState) (b : BlockNo) → b.0 ≡ 0 → IsOnly f b 0 (Some Entry)
only_entry f b z = record { other = λ w. cc; listed = tt; trivial = (λ e. refl, λ slot lt. absurd (omega arith)); only = λ x t. t.0 z }

-- the next operand is the phi of the block
pub only_same : (f : FormState) (b : BlockNo) (k : ℕ) (x : Option Access) → IsOnly f b k x → operand_at f b.0 k ≡ Some (Phi b) → IsOnly f b (k + 1) x
only_same f b k None h e = (h.0, λ slot lt. ⊎_elim (λ (s : slot ≡ k). subst (λ (n : ℕ). operand_at f b.0 n ≡ Some (Phi b)) (sym s) e) (λ (n : slot ≡ k → ⊥). h.1 slot (omega arith)) (cases_eq slot k))
only_same f b k (Some a) h e = record {
  other = h.other;
  listed = h.listed;
  trivial = (h.trivial.0, λ slot lt. ⊎_elim (λ (s : slot ≡ k). inr (subst (λ (n : ℕ). operand_at f b.0 n ≡ Some (Phi b)) (sym s) e)) (λ (n : slot ≡ k → ⊥). h.trivial.1 slot (omega arith)) (cases_eq slot k));
  only = λ x t. h.only x (t.0, λ slot lt. t.1 slot (omega arith));
}

-- it is another access, the first one
pub only_first : (f : FormState) (b : BlockNo) (k : ℕ) (a : Access) → IsOnly f b k None → operand_at f b.0 k ≡ Some a → a ≢ Phi b → HasList f a → IsOnly f b (k + 1) (Some a)
only_first f b k a h e n l = record {
  other = n;
  listed = l;
  trivial = (λ z. absurd (h.0 z), λ slot lt. ⊎_elim (λ (s : slot ≡ k). inl (subst (λ (m : ℕ). operand_at f b.0 m ≡ Some a) (sym s) e)) (λ (o : slot ≡ k → ⊥). inr (h.1 slot (omega arith))) (cases_eq slot k));
  only = λ x t. ⊎_elim (λ (i : operand_at f b.0 k ≡ Some x). let both : Some x ≡ Some a = sym i ∙ e in cc) (λ (i : operand_at f b.0 k ≡ Some (Phi b)). absurd (n (let both : Some a ≡ Some (Phi b) = sym e ∙ i in cc))) (t.1 k (omega arith));
}

-- it is the one that there was
pub only_again : (f : FormState) (b : BlockNo) (k : ℕ) (a : Access) → IsOnly f b k (Some a) → operand_at f b.0 k ≡ Some a → IsOnly f b (k + 1) (Some a)
only_again f b k a h e = record {
  other = h.other;
  listed = h.listed;
  trivial = (h.trivial.0, λ slot lt. ⊎_elim (λ (s : slot ≡ k). inl (subst (λ (n : ℕ). operand_at f b.0 n ≡ Some a) (sym s) e)) (λ (n : slot ≡ k → ⊥). h.trivial.1 slot (omega arith)) (cases_eq slot k));
  only = λ x t. h.only x (t.0, λ slot lt. t.1 slot (omega arith));
}

-- it is one more, so that the phi is not trivial
pub only_two : (g : List Run) (f : FormState) (b : BlockNo) (k : ℕ) (a d : Access) → IsOnly f b k (Some a) → operand_at f b.0 k ≡ Some d → d ≢ Phi b → a ≢ d → k < length (sources_of g b.0) → (x : Access) → IsTrivial g f b.0 x → ⊥
only_two g f b k a d h e n ne lt x t =
    let is : x ≡ a = h.only x (t.0, λ slot lt'. t.1 slot (omega arith)) in
    ⊎_elim (λ (i : operand_at f b.0 k ≡ Some x). ne (let both : Some x ≡ Some d = sym i ∙ e in cc)) (λ (i : operand_at f b.0 k ≡ Some (Phi b)). n (let both : Some d ≡ Some (Phi b) = sym e ∙ i in cc)) (t.1 k lt)

-- an empty operand is none of these
pub only_empty : (g : List Run) (f : FormState) (b : BlockNo) (k : ℕ) → operand_at f b.0 k ≡ None → k < length (sources_of g b.0) → (x : Access) → IsTrivial g f b.0 x → ⊥
only_empty g f b k e lt x t = ⊎_elim (λ (i : operand_at f b.0 k ≡ Some x). let both : None ≡ Some x = sym e ∙ i in cc) (λ (i : operand_at f b.0 k ≡ Some (Phi b)). let both : None ≡ Some (Phi b) = sym e ∙ i in cc) (t.1 k lt)

-- all operands were looked at
pub only_result : (g : List Run) (f : FormState) (b : BlockNo) (k : ℕ) (x : Option Access) → IsOnly f b k x → length (sources_of g b.0) ≤ k → HasOther g f b
    → MatchOption x ((a : Access) → IsTrivial g f b.0 a → ⊥) (λ a. IsTrivial g f b.0 a × (a ≢ Phi b) × HasList f a)
only_result g f b k None h all (inl z) = absurd (h.0 z)
only_result g f b k None h all (inr o) = absurd (o.2 (h.1 o.0 (let lt = o.1 in omega arith)))
only_result g f b k (Some a) h all o = ((h.trivial.0, λ slot lt. h.trivial.1 slot (omega arith)), h.other, h.listed)

-- no edge leads to the block from a reached block
pub none_comes : (g : List Run) (f : FormState) (b : BlockNo) → length (sources_of g b.0) ≡ 0 → IsTrivial g f b.0 Entry × (Entry ≢ Phi b) × HasList f Entry
none_comes g f b none = ((λ z. refl, λ slot lt. absurd (omega (arith, lt, none))), λ w. cc, tt)
