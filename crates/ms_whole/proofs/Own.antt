-- Where only the answers of one instruction go.
use Rattle.std.proofs.Common.{◌≡◌, ◌∙◌, ℕ, Bool, true, false, List, Some, refl, sym, ap, inl, inr}
use Rattle.std.specs.Prelude.{not, nat_eq}
use Rattle.std.proofs.lemmas.Bool.{true≢false}
use Rattle.std.proofs.lemmas.Bool.Decides.{eqb_tells}
use Rattle.std.proofs.lemmas.List.Elements.{filter_agree}
use Rattle.ms_ir.specs.declared.names.InstNo.{InstNo}
use Rattle.ms_ir.specs.Func.{FuncState}
use Rattle.ms_cache.specs.declared.change.Change.{Change}
use Rattle.ms_cache.specs.Stays.{Kept, Stays, AreWhatStays}
use Rattle.ms_whole.specs.Whole.{answers_but}

abbrev number_as : ℕ → InstNo
number_as n = record { 0 = n }

same_test : (s t : Bool) → (s ≡ true → t ≡ true) → (t ≡ true → s ≡ true) → s ≡ t
same_test true true h k = refl
same_test false false h k = refl
same_test true false h k = sym (h refl)
same_test false true h k = k refl

module _ (f : FuncState) (c : Change) (i : InstNo) (inst : c.inst ≡ Some i) (own : c.own_only ≡ true) where
  some_one : (a b : InstNo) → Some a ≡ Some b → a ≡ b
  some_one a b e = cc

  passes : (x : Kept) → Stays f c x.0 → not (nat_eq x.0.inst.0 i.0) ≡ true
  passes x s = elim (eqb_tells x.0.inst.0 i.0) [
    | inl same ↦ absurd (s.other (inst ∙ ap (λ (n : ℕ). Some (number_as n)) (sym same.1)))
    | inr other ↦ ap not other.0
  ]

  not_own : false ≡ c.own_only → ⊥
  not_own e = true≢false (sym (e ∙ own))

  stays : (x : Kept) → not (nat_eq x.0.inst.0 i.0) ≡ true → Stays f c x.0
  stays x t = record {
    other = λ is. (let same = some_one i x.0.inst (sym inst ∙ is) in elim (eqb_tells x.0.inst.0 i.0) [
      | inl yes_same ↦ true≢false (sym t ∙ ap not yes_same.0)
      | inr other ↦ other.1 (ap (λ (n : InstNo). n.0) (sym same))
    ]);
    unwritten = λ e. absurd (not_own (sym e));
    captures = λ e. absurd (not_own (sym e));
    edges = λ e. absurd (not_own (sym e));
  }

  pub others_stay : (old new : List Kept) → AreWhatStays f c old new → new ≡ answers_but i.0 old
  others_stay old new w =
      w.2 ∙ filter_agree w.0 (λ x. not (nat_eq x.0.inst.0 i.0)) (λ x. same_test (w.0 x) _ (λ t. passes x ((w.1 x).0 t)) (λ t. (w.1 x).1 (stays x t))) old
