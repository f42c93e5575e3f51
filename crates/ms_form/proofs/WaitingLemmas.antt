use Rattle.std.proofs.Common.{Bool, true, false, ◌≡◌, ◌<◌, ◌≤◌, ℕ, ◌+◌, List, [], ◌∷◌, ◌++◌, length, get_or, sym, ◌∙◌, arith, ⊎_elim}
use Rattle.std.specs.Prelude.{nat_le}
use Rattle.std.proofs.lemmas.Bool.{cases_Bool}
use Rattle.std.proofs.lemmas.Bool.Decides.{nat_tests, leb_tells}
use Rattle.std.proofs.lemmas.List.{get_or_past}
use Rattle.std.proofs.lemmas.List.Sums.{sum_by-append}
use Rattle.ms_form.specs.Waiting.{AreMarked, times, same_as, one_if}

times-push : (c b : ℕ) (xs : List ℕ) → times c (xs ++ b ∷ []) ≡ times c xs + same_as c b
times-push c b xs = sum_by-append (same_as c) xs (b ∷ []) ∙ (omega arith)

same_as-same : (b : ℕ) → same_as b b ≡ 1
same_as-same b = grind (arith, nat_tests)

marked_once : (m : Bool) (n : ℕ) → n + 1 ≡ one_if m → (m ≡ true) × (n ≡ 0)
marked_once m n e = ⊎_elim (λ (t : m ≡ true). (t, let e' = rw t at e in omega arith)) (λ (f : m ≡ false). absurd (let e' = rw f at e in omega arith)) (cases_Bool m)

last_marked : (marks : List Bool) (xs : List ℕ) (b : ℕ) → AreMarked marks (xs ++ b ∷ []) → (get_or marks b false ≡ true) × (times b xs ≡ 0)
last_marked marks xs b h = marked_once (get_or marks b false) (times b xs) (omega (arith, h b, times-push b b xs, same_as-same b))

-- The last block is one of the blocks.
pub last_below : (marks : List Bool) (xs : List ℕ) (b : ℕ) → AreMarked marks (xs ++ b ∷ []) → b < length marks
last_below marks xs b h = ⊎_elim
    (λ (t : (nat_le (length marks) b ≡ true) × (length marks ≤ b)). absurd (let p = sym (get_or_past marks b false t.1) ∙ (last_marked marks xs b h).0 in cc))
    (λ (f : (nat_le (length marks) b ≡ false) × (b < length marks)). f.1)
    (leb_tells (length marks) b)
