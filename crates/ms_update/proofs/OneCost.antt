-- What an edit reads is one number.
use Rattle.std.proofs.Common.{Bool, true, false, ◌≡◌, ◌↔◌, inl, inr, ℕ, ◌+◌, List, [], ◌∷◌, Option, arith, refl, ap, sym, ◌∙◌, subst, ⊎_elim}
use Rattle.std.specs.Prelude.{IsTrue, Some, sum_by}
use Rattle.std.proofs.lemmas.Bool.{cases_eq}
use Rattle.std.proofs.lemmas.Bool.Decides.{eqb_tells}
use Rattle.std.proofs.lemmas.List.Sums.{sum_by-cons}
use mathlib.Core.Path.{fun_ext}
use Rattle.ms_paths.specs.Flow.{Block as Run, IsReached}
use Rattle.ms_ir.specs.declared.names.InstNo.{InstNo}
use Rattle.ms_ir.specs.Func.{Block, Placed, IsAt}
use Rattle.ms_flow.specs.Table.{edges_of}
use Rattle.ms_form.specs.Lists.{IsIn, NotIn, EachOnce}
use Rattle.ms_form.specs.Chains.{without}
use Rattle.ms_form.proofs.ListLemmas.{in_and_not, without-out, without-other, not_in-without, once-without, in-without}
use Rattle.ms_build.specs.Filled.{last_of}
use Rattle.ms_update.specs.Reads.{AreAll, AreRead, IsPutRead, IsPutCost, edges_in, edges_out}

was_in : (n k : ℕ) (xs : List ℕ) → IsIn k (without n xs) → IsIn k xs
was_in n k [] h = h
was_in n k (m ∷ xs) h = elim (eqb_tells m n) [
  | inl same ↦ inr (was_in n k xs (rw same.0 at h))
  | inr other ↦ by_place (λ r. was_in n k xs r) (rw other.0 at h)
]
  where
    by_place : (IsIn k (without n xs) → IsIn k xs) → IsIn k (m ∷ without n xs) → IsIn k (m ∷ xs)
    by_place again (inl e) = inl e
    by_place again (inr r) = inr (again r)

-- a member's part of a sum
sum_of_one : (f : ℕ → ℕ) (x : ℕ) (ys : List ℕ) → EachOnce ys → IsIn x ys → sum_by f ys ≡ f x + sum_by f (without x ys)
sum_of_one f x [] once h = absurd h
sum_of_one f x (y ∷ ys) once (inl e) =
    let out : NotIn x ys = subst (λ (n : ℕ). NotIn n ys) e once.0 in
    let left : without x (y ∷ ys) ≡ ys = elim (eqb_tells y x) [
      | inl same ↦ rw same.0 (without-out x ys out)
      | inr other ↦ absurd (other.1 e)
    ] in
    sum_by-cons f y ys ∙ ap (λ (n : ℕ). f n + sum_by f ys) e ∙ ap (λ (l : List ℕ). f x + sum_by f l) (sym left)
sum_of_one f x (y ∷ ys) once (inr h) =
    let apart : y ≡ x → ⊥ = λ e. in_and_not x ys h (subst (λ (n : ℕ). NotIn n ys) e once.0) in
    let rest = sum_of_one f x ys once.1 h in
    let whole = sum_by-cons f y ys in
    let left = sum_by-cons f y (without x ys) in
    whole ∙ (let e : f y + sum_by f ys ≡ f x + (f y + sum_by f (without x ys)) = omega (arith, rest) in e)
    ∙ ap (λ (n : ℕ). f x + n) (sym left) ∙ ap (λ (l : List ℕ). f x + sum_by f l) (sym (without-other x y ys apart))

-- Lists with the same members, each once, have the same sum.
same_sum : (f : ℕ → ℕ) (xs ys : List ℕ) → EachOnce xs → EachOnce ys → ((k : ℕ) → IsIn k xs ↔ IsIn k ys) → sum_by f xs ≡ sum_by f ys
same_sum f [] [] one two same = refl
same_sum f [] (y ∷ ys) one two same = absurd ((same y).1 (inl refl))
same_sum f (x ∷ xs) ys one two same =
    sum_by-cons f x xs ∙ ap (λ (n : ℕ). f x + n) (same_sum f xs (without x ys) one.1 (once-without x ys two) (λ k. (there k, back k)))
    ∙ sym (sum_of_one f x ys two ((same x).0 (inl refl)))
  where
    there : (k : ℕ) → IsIn k xs → IsIn k (without x ys)
    there k h = in-without x k ys ((same k).0 (inr h)) (λ e. in_and_not k xs h (subst (λ (n : ℕ). NotIn n xs) (sym e) one.0))

    back : (k : ℕ) → IsIn k (without x ys) → IsIn k xs
    back k h = by_place ((same k).1 (was_in x k ys h))
      where
        by_place : IsIn k (x ∷ xs) → IsIn k xs
        by_place (inl e) = absurd (in_and_not k (without x ys) h (subst (λ (n : ℕ). NotIn n (without x ys)) e (not_in-without x ys)))
        by_place (inr r) = r

same_members : (S : ℕ → Type 0) (xs ys : List ℕ) → AreAll xs S → AreAll ys S → (k : ℕ) → IsIn k xs ↔ IsIn k ys
same_members S xs ys a b k = (λ h. (b.are k).1 ((a.are k).0 h), λ h. (a.are k).1 ((b.are k).0 h))

one_read : (g : List Run) (phis : ℕ → Bool) (last : ℕ → Option InstNo) (b m n : ℕ) → AreRead g phis last b m → AreRead g phis last b n → m ≡ n
one_read g phis last b m n r s =
    let passed = same_sum (edges_out g) r.passed s.passed r.passed_are.once s.passed_are.once (same_members _ r.passed s.passed r.passed_are s.passed_are) in
    let entered = same_sum (edges_in g) r.entered s.entered r.entered_are.once s.entered_are.once (same_members _ r.entered s.entered r.entered_are s.entered_are) in
    let first = r.count in
    let second = s.count in
    omega arith

same_set : (p q : ℕ → Bool) → ((b : ℕ) → IsTrue (p b) ↔ IsTrue (q b)) → p ≡ q
same_set p q same = fun_ext (λ b. by_case b (p b) (q b) (same b))
  where
    by_case : (b : ℕ) (x y : Bool) → IsTrue x ↔ IsTrue y → x ≡ y
    by_case b true true e = refl
    by_case b true false e = sym (e.0 refl)
    by_case b false true e = e.1 refl
    by_case b false false e = refl

pub one_cost : (before after : List Block) (i : InstNo) (b place : ℕ) (x : Placed) (m n : ℕ) → IsAt after i.0 b place x → IsPutCost before after i m → IsPutCost before after i n → m ≡ n
one_cost before after i b place x m n at c d =
    let phis : d.phis ≡ c.phis = same_set d.phis c.phis (λ y. (λ t. (c.phis_are y).1 ((d.phis_are y).0 t), λ t. (d.phis_are y).1 ((c.phis_are y).0 t))) in
    let r : IsPutRead (edges_of after) c.phis after b i m = c.read b place x at in
    let s : IsPutRead (edges_of after) c.phis after b i n = subst (λ (p : ℕ → Bool). IsPutRead (edges_of after) p after b i n) phis (d.read b place x at) in
    ⊎_elim (λ (e : m ≡ n). e)
    (λ (apart : m ≡ n → ⊥).
    let none : IsReached (edges_of after) b → last_of after b ≡ Some i → ⊥ = λ reached last. apart (one_read (edges_of after) c.phis (last_of after) b m n (r.carried reached last) (s.carried reached last)) in
    absurd (apart (r.none none ∙ sym (s.none none))))
    (cases_eq m n)
