-- What enters and what leaves blocks.
use Rattle.std.proofs.Common.{true, false, ◌≡◌, ℕ, length, get_or, Option, Some, None, refl, subst, ⊎_elim}
use Rattle.std.specs.Prelude.{is_some}
use Rattle.std.proofs.lemmas.Bool.{cases_Bool}
use Rattle.ms_ir.specs.declared.names.InstNo.{InstNo}
use Rattle.ms_form.specs.declared.access.Access.{Access}
use Rattle.ms_form.specs.declared.access.Access.TheVariants.{Of, Phi}
use Rattle.ms_form.specs.declared.access.User.TheVariants.{Entering}
use Rattle.ms_form.specs.Form.{FormState, IsTable, AreUsers, HasList, after_last}
use Rattle.ms_build.specs.Accesses.{has_phi, entering_at, leaving_at}
use Rattle.ms_build.specs.Filled.{IsBelow}
use Rattle.ms_build.specs.Entering.{AreLastsThere}
use Rattle.ms_build.proofs.Phis.{in_phis}
use Rattle.ms_build.proofs.Entries.{named_list}

-- what enters a block has its list of users
pub entering_list : (f : FormState) (x : ℕ) (a : Access) → IsTable f → AreUsers f → entering_at f x ≡ Some a → HasList f a
entering_list f x a t all s =
    ⊎_elim
    (λ (y : has_phi f x ≡ true). let i : Some (Phi (record { 0 = x })) ≡ Some a = rw y at s in let j : Phi (record { 0 = x }) ≡ a = cc in subst (HasList f) j (in_phis f x y))
    (λ (n : has_phi f x ≡ false). named_list f (Entering (record { 0 = x })) a t all (rw n at s))
    (cases_Bool (has_phi f x))

-- what leaves a block has its list of users
pub leaving_list : (f : FormState) (x : ℕ) (a : Access) → IsTable f → AreUsers f → AreLastsThere f → leaving_at f x ≡ Some a → HasList f a
leaving_list f x a t all there e = by_last (get_or f.lasts x None) (there x) e
  where
    by_last : (last : Option InstNo) → IsBelow (length f.defs) last → after_last last (entering_at f x) ≡ Some a → HasList f a
    by_last None h e' = entering_list f x a t all e'
    by_last (Some i) h e' = let j : Of i ≡ a = cc in subst (HasList f) j h

-- some access leaves each block that is entered
pub leaves_true : (f : FormState) (x : ℕ) → is_some (entering_at f x) ≡ true → is_some (leaving_at f x) ≡ true
leaves_true f x e = by_last (get_or f.lasts x None)
  where
    by_last : (last : Option InstNo) → is_some (after_last last (entering_at f x)) ≡ true
    by_last None = e
    by_last (Some i) = refl
