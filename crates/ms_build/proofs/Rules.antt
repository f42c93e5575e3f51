-- Changes of entries by rules, one after another.
use Rattle.std.proofs.Common.{true, ◌≡◌, ◌≢◌, ◌≤◌, ◌&&◌, ◌==◌, inl, inr, ℕ, ◌+◌, [], get_or, Option, Some, None, refl, ap, ◌∙◌, arith, if◌then◌else◌}
use Rattle.std.specs.Prelude.{nat_lt}
use Rattle.std.proofs.lemmas.Bool.Decides.{eqb_tells, leb_tells, nat_tests}
use Rattle.std.proofs.lemmas.List.{get_or_past}
use Rattle.ms_ir.specs.declared.names.BlockNo.{BlockNo}
use Rattle.ms_form.specs.declared.access.Access.{Access}
use Rattle.ms_form.specs.declared.access.Access.TheVariants.{Entry, Of, Phi}
use Rattle.ms_form.specs.declared.access.User.{User}
use Rattle.ms_form.specs.declared.access.User.TheVariants.{Inst, Operand, Entering}
use Rattle.ms_form.specs.Form.{FormState, entry_of}
use Rattle.ms_build.specs.Settled.{slot_count}
use Rattle.ms_build.specs.Changes.{IsChanged, one_set, emptied, replaced}

-- no entry changes
abbrev pub kept : User → Option Access → Option Access
kept u x = x

pub changed_none : (f : FormState) → IsChanged kept f f
changed_none f = record { entries = λ u. refl; phis = refl; lasts = refl; numbers = refl; slots = λ b. refl; spare = refl; places = λ counts insts h. h }

-- one change after another, where the two rules have this effect on the entries that there were
pub changed_both : (first second both : User → Option Access → Option Access) (f g h : FormState) → IsChanged first f g → IsChanged second g h
    → ((u : User) → second u (first u (entry_of f u)) ≡ both u (entry_of f u)) → IsChanged both f h
changed_both first second both f g h a b same = record {
  entries = λ u. b.entries u ∙ ap (second u) (a.entries u) ∙ same u;
  phis = b.phis ∙ a.phis;
  lasts = b.lasts ∙ a.lasts;
  numbers = b.numbers ∙ a.numbers;
  slots = λ c. b.slots c ∙ a.slots c;
  spare = b.spare ∙ a.spare;
  places = λ counts insts p. b.places counts insts (a.places counts insts p);
}

-- the first operands of a block are empty
abbrev pub emptied_below : BlockNo → ℕ → User → Option Access → Option Access
emptied_below b k (Inst i) x = x
emptied_below b k (Operand c slot) x = if (c.0 == b.0) && nat_lt slot k then None else x
emptied_below b k (Entering c) x = x

pub emptied_none : (b : BlockNo) (u : User) (x : Option Access) → kept u x ≡ emptied_below b 0 u x
emptied_none b (Inst i) x = refl
emptied_none b (Operand c slot) x = grind (arith, nat_tests)
emptied_none b (Entering c) x = refl

pub emptied_next : (b : BlockNo) (k : ℕ) (u : User) (x : Option Access) → one_set (Operand b k) None u (emptied_below b k u x) ≡ emptied_below b (k + 1) u x
emptied_next b k (Inst i) x = refl
emptied_next b k (Operand c slot) x = grind (arith, nat_tests)
emptied_next b k (Entering c) x = refl

pub emptied_all : (f : FormState) (b : BlockNo) (k : ℕ) (u : User) → slot_count f b.0 ≤ k → emptied_below b k u (entry_of f u) ≡ emptied b u (entry_of f u)
emptied_all f b k (Inst i) h = refl
emptied_all f b k (Operand c slot) h = elim (eqb_tells c.0 b.0) [
  | inl same ↦ rw same.0 (elim (leb_tells k slot) [
    | inl past ↦
        let none : get_or (get_or f.operands c.0 []) slot None ≡ None = get_or_past (get_or f.operands c.0 []) slot None (rw same.1 (omega (arith, past.1))) in
        rw none (grind (arith, nat_tests))
    | inr within ↦ grind (arith, nat_tests, within)
  ])
  | inr other ↦ rw other.0 refl
]
emptied_all f b k (Entering c) h = refl

-- What names no phi of the block is not replaced.
pub replaced_other : (b : BlockNo) (a : Access) (x : Option Access) → x ≢ Some (Phi b) → replaced b a x ≡ x
replaced_other b a None n = refl
replaced_other b a (Some Entry) n = refl
replaced_other b a (Some (Of i)) n = refl
replaced_other b a (Some (Phi c)) n = elim (eqb_tells c.0 b.0) [
  | inl same ↦ absurd (n (ap (λ (k : ℕ). Some (Phi (record { 0 = k }))) same.1))
  | inr other ↦ rw other.0 refl
]

pub replaced_phi : (b : BlockNo) (a : Access) → replaced b a (Some (Phi b)) ≡ Some a
replaced_phi b a = let t : (b.0 == b.0) ≡ true = grind (arith, nat_tests) in rw t refl
