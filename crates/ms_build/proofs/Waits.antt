-- Blocks that wait.
use Rattle.std.proofs.Common.{◌≡◌, ◌≤◌, ◌⊎◌, inl, inr, ℕ, ◌+◌, List, [], ◌∷◌, ◌++◌, ◌∙◌, arith}
use Rattle.std.proofs.lemmas.Bool.Decides.{eqb_tells, nat_tests}
use Rattle.std.proofs.lemmas.List.Sums.{sum_by-append}
use Rattle.ms_form.specs.declared.access.User.{User}
use Rattle.ms_form.specs.declared.access.User.TheVariants.{Inst, Operand, Entering}
use Rattle.ms_form.specs.Waiting.{times, same_as, with_waiting}
use Rattle.ms_build.specs.Changes.{waiting_for}

times-push : (c b : ℕ) (list : List ℕ) → times c (list ++ b ∷ []) ≡ times c list + same_as c b
times-push c b list = sum_by-append (same_as c) list (b ∷ []) ∙ (omega arith)

same_as-same : (b : ℕ) → same_as b b ≡ 1
same_as-same b = grind (arith, nat_tests)

same_as-other : (c b : ℕ) → (b ≡ c → ⊥) → same_as c b ≡ 0
same_as-other c b n = grind (arith, nat_tests)

pub waits_itself : (b : ℕ) (list : List ℕ) → 1 ≤ times b (with_waiting b list)
waits_itself b list = elim (eqb_tells (times b list) 0) [
  | inl none ↦ rw none.0 (omega (arith, times-push b b list, same_as-same b))
  | inr some ↦ rw some.0 (omega (arith, some.1))
]

pub waits_on : (c b : ℕ) (list : List ℕ) → 1 ≤ times c list → 1 ≤ times c (with_waiting b list)
waits_on c b list h = elim (eqb_tells (times b list) 0) [
  | inl none ↦ rw none.0 (omega (arith, times-push c b list))
  | inr some ↦ rw some.0 h
]

pub waits_for_on : (c : ℕ) (u : User) (list : List ℕ) → 1 ≤ times c list → 1 ≤ times c (waiting_for u list)
waits_for_on c (Inst i) list h = h
waits_for_on c (Operand b slot) list h = waits_on c b.0 list h
waits_for_on c (Entering b) list h = h

-- Once the last block waits no more, each other still does.
pub waits_still : (c b : ℕ) (list : List ℕ) → 1 ≤ times c (list ++ b ∷ []) → (b ≡ c) ⊎ (1 ≤ times c list)
waits_still c b list h = elim (eqb_tells b c) [
  | inl same ↦ inl same.1
  | inr other ↦ inr (omega (arith, times-push c b list, same_as-other c b other.1))
]
