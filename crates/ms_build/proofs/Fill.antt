-- Operands are filled, slot by slot and block by block.
use Rattle.std.proofs.Common.{Bool, true, false, ◌≡◌, ◌≤◌, ◌==◌, ◌&&◌, inl, inr, ℕ, ◌+◌, List, length, get_or, Option, Some, None, refl, ap, sym, ◌∙◌, subst, arith, ⊎_elim, if◌then◌else◌}
use Rattle.std.specs.Prelude.{slice_get, nat_lt, Contains}
use Rattle.std.proofs.lemmas.Bool.{cases_Bool, cases_eq}
use Rattle.std.proofs.lemmas.Bool.Decides.{leb_tells, nat_tests}
use Rattle.std.proofs.lemmas.Option.{get_or_from_slice_get}
use Rattle.ms_paths.specs.Flow.{Block as Run, IsReached}
use Rattle.ms_ir.specs.declared.names.BlockNo.{BlockNo}
use Rattle.ms_flow.specs.declared.sources.Source.{Source}
use Rattle.ms_flow.specs.Flow.{sources_of}
use Rattle.ms_form.specs.declared.access.Access.{Access}
use Rattle.ms_form.specs.declared.access.User.{User}
use Rattle.ms_form.specs.declared.access.User.TheVariants.{Inst, Operand, Entering}
use Rattle.ms_form.specs.Form.{FormState, entry_of, after_last}
use Rattle.ms_build.specs.Accesses.{has_phi, enters_at, entering_at, leaving_at}
use Rattle.ms_build.specs.Changes.{IsChanged, one_set}
use Rattle.ms_build.specs.Entering.{AreLastsThere, brought_by, brought, one_filled, all_filled}
use Rattle.ms_build.proofs.Rules.{kept}
use Rattle.ms_build.proofs.Lists.{slice_get_below, slice_past}
use Rattle.ms_build.proofs.Phis.{in_phis}

-- a change that leaves what enters blocks
abbrev pub KeepsEntering : (User → Option Access → Option Access) → Type 0
KeepsEntering rule = (c : BlockNo) (x : Option Access) → rule (Entering c) x ≡ x

pub same_entering : (rule : User → Option Access → Option Access) (f h : FormState) → KeepsEntering rule → IsChanged rule f h → (x : ℕ) → entering_at h x ≡ entering_at f x
same_entering rule f h keeps c x =
    let e : enters_at h x ≡ enters_at f x = c.entries (Entering (record { 0 = x })) ∙ keeps (record { 0 = x }) (enters_at f x) in
    rw (c.phis, e) refl

pub same_leaving : (rule : User → Option Access → Option Access) (f h : FormState) → KeepsEntering rule → IsChanged rule f h → (x : ℕ) → leaving_at h x ≡ leaving_at f x
same_leaving rule f h keeps c x = rw c.lasts (ap (after_last (get_or f.lasts x None)) (same_entering rule f h keeps c x))

pub same_brought : (g : List Run) (rule : User → Option Access → Option Access) (f h : FormState) → KeepsEntering rule → IsChanged rule f h → (b slot : ℕ) (x : Option Access) → brought g h b slot x ≡ brought g f b slot x
same_brought g rule f h keeps c b slot x = by_source (slice_get (sources_of g b) slot)
  where
    by_source : (s : Option Source) → brought_by h x s ≡ brought_by f x s
    by_source None = refl
    by_source (Some e) = same_leaving rule f h keeps c e.from

pub lasts_stay : (rule : User → Option Access → Option Access) (f h : FormState) → IsChanged rule f h → AreLastsThere f → AreLastsThere h
lasts_stay rule f h c there = λ b. rw (c.lasts, c.numbers) (there b)

-- an edge at a slot comes from a reached block
abbrev pub EdgesReached : List Run → Type 0
EdgesReached g = (b : ℕ) (e : Source) → Contains (sources_of g b) e → IsReached g e.from

pub source_reached : (g : List Run) → EdgesReached g → (b slot : ℕ) (e : Source) → slice_get (sources_of g b) slot ≡ Some e → IsReached g e.from
source_reached g all b slot e found = all b e (slot, slice_get_below (sources_of g b) slot e found, get_or_from_slice_get (sources_of g b) slot e e found)

-- the first operands of a block are filled
abbrev pub one_filled_below : List Run → FormState → ℕ → ℕ → User → Option Access → Option Access
one_filled_below g f b k (Inst i) x = x
one_filled_below g f b k (Operand c slot) x = if (c.0 == b) && nat_lt slot k then brought g f b slot x else x
one_filled_below g f b k (Entering c) x = x

pub one_keeps_below : (g : List Run) (f : FormState) (b k : ℕ) → KeepsEntering (one_filled_below g f b k)
one_keeps_below g f b k c x = refl

pub filled_begun : (g : List Run) (f : FormState) (b : ℕ) (u : User) (x : Option Access) → kept u x ≡ one_filled_below g f b 0 u x
filled_begun g f b (Inst i) x = refl
filled_begun g f b (Operand c slot) x = grind (arith, nat_tests)
filled_begun g f b (Entering c) x = refl

pub filled_next : (g : List Run) (f : FormState) (b : BlockNo) (k : ℕ) (a : Access) (u : User) (x : Option Access) → brought g f b.0 k x ≡ Some a
    → one_set (Operand b k) (Some a) u (one_filled_below g f b.0 k u x) ≡ one_filled_below g f b.0 (k + 1) u x
filled_next g f b k a (Inst i) x e = refl
filled_next g f b k a (Operand c slot) x e =
    ⊎_elim
    (λ (s : c.0 ≡ b.0).
    let t1 : (b.0 == c.0) ≡ true = grind (arith, nat_tests) in
    let t2 : (c.0 == b.0) ≡ true = grind (arith, nat_tests) in
    ⊎_elim
    (λ (i : slot ≡ k).
    let t3 : (k == slot) ≡ true = grind (arith, nat_tests) in
    let t4 : nat_lt slot (k + 1) ≡ true = grind (arith, nat_tests) in
    let e' : brought g f b.0 slot x ≡ Some a = subst (λ (n : ℕ). brought g f b.0 n x ≡ Some a) (sym i) e in
    rw (t1, t3, t2, t4) (sym e'))
    (λ (n : slot ≡ k → ⊥).
    let t3 : (k == slot) ≡ false = grind (arith, nat_tests) in
    let t4 : nat_lt slot (k + 1) ≡ nat_lt slot k = grind (arith, nat_tests) in
    rw (t1, t3, t4) refl)
    (cases_eq slot k))
    (λ (n : c.0 ≡ b.0 → ⊥).
    let t1 : (b.0 == c.0) ≡ false = grind (arith, nat_tests) in
    let t2 : (c.0 == b.0) ≡ false = grind (arith, nat_tests) in
    rw (t1, t2) refl)
    (cases_eq c.0 b.0)
filled_next g f b k a (Entering c) x e = refl

pub filled_whole : (g : List Run) (f : FormState) (b k : ℕ) (u : User) → length (sources_of g b) ≤ k → one_filled_below g f b k u (entry_of f u) ≡ one_filled g f b u (entry_of f u)
filled_whole g f b k (Inst i) end = refl
filled_whole g f b k (Operand c slot) end =
    ⊎_elim
    (λ (s : c.0 ≡ b).
    let t : (c.0 == b) ≡ true = grind (arith, nat_tests) in
    elim (leb_tells k slot) [
      | inl past ↦
          let t' : nat_lt slot k ≡ false = grind (arith, nat_tests, past) in
          let none : slice_get (sources_of g b) slot ≡ None = slice_past (sources_of g b) slot (omega (arith, past.1)) in
          rw (t, t', none) refl
      | inr within ↦ let t' : nat_lt slot k ≡ true = grind (arith, nat_tests, within) in rw (t, t') refl
    ])
    (λ (n : c.0 ≡ b → ⊥). let t : (c.0 == b) ≡ false = grind (arith, nat_tests) in rw t refl)
    (cases_eq c.0 b)
filled_whole g f b k (Entering c) end = refl

-- the operands of the first blocks with phis are filled
abbrev pub all_filled_below : List Run → FormState → ℕ → User → Option Access → Option Access
all_filled_below g f n (Inst i) x = x
all_filled_below g f n (Operand c slot) x = if nat_lt c.0 n && has_phi f c.0 then brought g f c.0 slot x else x
all_filled_below g f n (Entering c) x = x

pub all_keeps_below : (g : List Run) (f : FormState) (n : ℕ) → KeepsEntering (all_filled_below g f n)
all_keeps_below g f n c x = refl

pub all_begun : (g : List Run) (f : FormState) (u : User) (x : Option Access) → kept u x ≡ all_filled_below g f 0 u x
all_begun g f (Inst i) x = refl
all_begun g f (Operand c slot) x = grind (arith, nat_tests)
all_begun g f (Entering c) x = refl

pub all_next : (g : List Run) (f h : FormState) (b : ℕ) (u : User) (x : Option Access) → has_phi f b ≡ true → ((slot : ℕ) (y : Option Access) → brought g h b slot y ≡ brought g f b slot y)
    → one_filled g h b u (all_filled_below g f b u x) ≡ all_filled_below g f (b + 1) u x
all_next g f h b (Inst i) x t same = refl
all_next g f h b (Operand c slot) x t same =
    ⊎_elim
    (λ (s : c.0 ≡ b).
    let t1 : (c.0 == b) ≡ true = grind (arith, nat_tests) in
    let t2 : nat_lt c.0 (b + 1) ≡ true = grind (arith, nat_tests) in
    let t3 : has_phi f c.0 ≡ true = subst (λ (n : ℕ). has_phi f n ≡ true) (sym s) t in
    let t0 : nat_lt c.0 b ≡ false = grind (arith, nat_tests) in
    rw (t1, t2, t3, t0) (same slot x ∙ ap (λ (n : ℕ). brought g f n slot x) (sym s)))
    (λ (n : c.0 ≡ b → ⊥).
    let t1 : (c.0 == b) ≡ false = grind (arith, nat_tests) in
    let t2 : nat_lt c.0 (b + 1) ≡ nat_lt c.0 b = grind (arith, nat_tests) in
    rw (t1, t2) refl)
    (cases_eq c.0 b)
all_next g f h b (Entering c) x t same = refl

pub all_skip : (g : List Run) (f : FormState) (b : ℕ) (u : User) (x : Option Access) → has_phi f b ≡ false → all_filled_below g f b u x ≡ all_filled_below g f (b + 1) u x
all_skip g f b (Inst i) x t = refl
all_skip g f b (Operand c slot) x t =
    ⊎_elim
    (λ (s : c.0 ≡ b).
    let t1 : nat_lt c.0 b ≡ false = grind (arith, nat_tests) in
    let t2 : nat_lt c.0 (b + 1) ≡ true = grind (arith, nat_tests) in
    let t3 : has_phi f c.0 ≡ false = subst (λ (n : ℕ). has_phi f n ≡ false) (sym s) t in
    rw (t1, t2, t3) refl)
    (λ (n : c.0 ≡ b → ⊥). let t2 : nat_lt c.0 (b + 1) ≡ nat_lt c.0 b = grind (arith, nat_tests) in rw t2 refl)
    (cases_eq c.0 b)
all_skip g f b (Entering c) x t = refl

pub all_whole : (g : List Run) (f : FormState) (n : ℕ) (u : User) (x : Option Access) → length f.phis ≤ n → all_filled_below g f n u x ≡ all_filled g f u x
all_whole g f n (Inst i) x end = refl
all_whole g f n (Operand c slot) x end =
    ⊎_elim
    (λ (t : has_phi f c.0 ≡ true). let lt = in_phis f c.0 t in let t1 : nat_lt c.0 n ≡ true = grind (arith, nat_tests) in rw (t1, t) refl)
    (λ (o : has_phi f c.0 ≡ false). rw o (let any : (y : Bool) → (if y && false then brought g f c.0 slot x else x) ≡ x = both in any (nat_lt c.0 n)))
    (cases_Bool (has_phi f c.0))
  where
    both : (y : Bool) → (if y && false then brought g f c.0 slot x else x) ≡ x
    both true = refl
    both false = refl
all_whole g f n (Entering c) x end = refl
