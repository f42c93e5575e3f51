-- Captured allocas: by tables they can be told, so where no alloca is captured in one function alone, the same are captured.
use Rattle.std.proofs.Common.{◌≡◌, ◌↔◌, ◌⊎◌, ◌<◌, ℕ, zero, suc, Bool, true, false, List, [], ◌∷◌, Some, length, refl, sym, ap, ◌∙◌, subst, inl, inr, ⊎_elim, true≢false, arith}
use Rattle.std.specs.Prelude.{slice_get, remove, IsTrue}
use Rattle.std.proofs.lemmas.Bool.{cases_Bool, eqb-false, ne_eqb}
use Rattle.ms_ir.specs.declared.names.LocalNo.{LocalNo}
use Rattle.ms_ir.specs.declared.names.InstNo.{InstNo}
use Rattle.ms_ir.specs.declared.inst.Inst.{Inst}
use Rattle.ms_ir.specs.Func.{Placed, Block, FuncState, IsAt, IsTaken, IsShifted, insts_at, cut_at}
use Rattle.ms_ir.specs.Locals.{IsNumbered}
use Rattle.ms_alias.specs.declared.loc.Root.TheVariants.{Local}
use Rattle.ms_alias.specs.Roots.{makes_pointer}
use Rattle.ms_alias.specs.Bases.{Alloca}
use Rattle.ms_alias.specs.Captured.{IsCaptured, IsCapturedBut, Differ}
use Rattle.ms_alias.specs.Tables.{AliasState, IsAliasOf, set_of, caught_at}
use Rattle.ms_alias.proofs.Queries.{captured_told}
use Rattle.ms_cache.specs.Edited.{MakesNone}
use Rattle.ms_cache.proofs.Alike.{Alike, alike_back}
use Rattle.ms_cache.proofs.Shifted.{shift_pointers}
use Rattle.ms_cache.proofs.Insts.{within, cut_alike}
use Rattle.ms_cache.proofs.Accesses.{val_base}
use Rattle.ms_kept.proofs.Spared.{stands, but_back}
use Rattle.ms_kept.proofs.Edits.{taken_same}

told : (f : FuncState) (a : AliasState) → IsAliasOf f a → (l : LocalNo) → IsCaptured f l ⊎ (IsCaptured f l → ⊥)
told f a is l =
    let t = captured_told f a is l (caught_at a.captured (set_of a.bases (Local l))) refl in
    ⊎_elim
    (λ (yes : caught_at a.captured (set_of a.bases (Local l)) ≡ true). inl (t.0 yes))
    (λ (no : caught_at a.captured (set_of a.bases (Local l)) ≡ false). inr (λ h. true≢false (sym (t.1 h) ∙ no)))
    (cases_Bool (caught_at a.captured (set_of a.bases (Local l))))

pub same_captured : (f g : FuncState) (a d : AliasState) → IsAliasOf f a → IsAliasOf g d → (Differ (IsCaptured f) (IsCaptured g) → ⊥) → (l : LocalNo) → IsCaptured f l ↔ IsCaptured g l
same_captured f g a d is there same l = (
  λ h. ⊎_elim (λ (k : IsCaptured g l). k) (λ (none : IsCaptured g l → ⊥). absurd (same (l, inl (h, none)))) (told g d there l),
  λ h. ⊎_elim (λ (k : IsCaptured f l). k) (λ (none : IsCaptured f l → ⊥). absurd (same (l, inr (h, none)))) (told f a is l),
)

-- ---- an instruction that was taken

-- what is left of a list stood at another place
from_remove : (xs : List Placed) (p k : ℕ) (y : Placed) → slice_get (remove xs p) k ≡ Some y → (j : ℕ) × (slice_get xs j ≡ Some y) × (j ≡ p → ⊥)
from_remove [] zero k y e = cc
from_remove [] (suc p) k y e = cc
from_remove (x ∷ xs) zero k y e = (suc k, e, λ h. omega arith)
from_remove (x ∷ xs) (suc p) zero y e = (zero, e, λ h. omega arith)
from_remove (x ∷ xs) (suc p) (suc k) y e = let r = from_remove xs p k y e in (suc r.0, r.1, λ h. r.2 (omega arith))

-- what stands once the instruction at a place is out stood at another one
from_cut : (blocks : List Block) (b p c k : ℕ) (y : Placed) → slice_get (insts_at (cut_at blocks b p) c) k ≡ Some y → (j : ℕ) × (slice_get (insts_at blocks c) j ≡ Some y) × ((c ≡ b) × (j ≡ p) → ⊥)
from_cut [] b p c k y e = cc
from_cut (x ∷ xs) zero p zero k y e = let r = from_remove x.insts p k y e in (r.0, r.1, λ h. r.2 h.1)
from_cut (x ∷ xs) zero p (suc c) k y e = (k, e, λ h. let no : suc c ≡ zero = h.0 in omega arith)
from_cut (x ∷ xs) (suc b) p zero k y e = (k, e, λ h. let no : zero ≡ suc b = h.0 in omega arith)
from_cut (x ∷ xs) (suc b) p (suc c) k y e = let r = from_cut xs b p c k y e in (r.0, r.1, λ h. r.2 ((let s : suc c ≡ suc b = h.0 in omega arith), h.1))

-- each number stands for one place
abbrev pub InOnePlace : FuncState → Type 0
InOnePlace f = (b j c k : ℕ) (x y : Placed) → slice_get (insts_at f.blocks b) j ≡ Some x → slice_get (insts_at f.blocks c) k ≡ Some y → x.number ≡ y.number → (b ≡ c) × (j ≡ k)

pub taken_nowhere : (f g : FuncState) (n : ℕ) (inst : Inst) → InOnePlace f → IsTaken f g n inst → (b k : ℕ) (x : Placed) → IsAt g.blocks n b k x → ⊥
taken_nowhere f g n inst one t b k x at =
    let r = from_cut f.blocks t.b t.place b k x (subst (λ (h : FuncState). slice_get (insts_at h.blocks b) k ≡ Some x) t.rest at.found) in
    r.2 (one b r.0 t.b t.place x t.x r.1 t.at.found (at.numbered ∙ sym t.at.numbered))

pub taken_alike : (f g : FuncState) (n : ℕ) (inst : Inst) → IsTaken f g n inst → makes_pointer inst ≡ false → Alike f g
taken_alike f g n inst t idle = subst (Alike f) (sym t.rest) (cut_alike f t.b t.place t.x t.at.found (sym (ap makes_pointer t.inst_is) ∙ idle))

pub captured_without : (f g : FuncState) (i : InstNo) (inst : Inst) → IsNumbered f → IsTaken f g i.0 inst → makes_pointer inst ≡ false → (l : LocalNo) → IsCapturedBut f (Some i) l ↔ IsCaptured g l
captured_without f g i inst numbered t idle l =
    let alike = taken_alike f g i.0 inst t idle in
    let but = taken_same f g i.0 inst t in (
      λ h.
          let k = h.5 in
          let other : h.2.number ≡ i.0 → ⊥ = λ e. eqb-false i.0 h.2.number h.4 (sym e) in
          let r = stands f g i.0 but h.2.number other h.0 h.1 h.2 (record { block = within f.blocks h.0 h.1 h.2 h.3; found = h.3; numbered = refl }) in
          (h.0, r.0, h.2, r.1.found, (k.0, k.1, k.2, val_base f g alike k.0.val (Alloca l) k.3)),
      λ h.
          let k = h.4 in
          let at : IsAt g.blocks h.2.number h.0 h.1 h.2 = record { block = within g.blocks h.0 h.1 h.2 h.3; found = h.3; numbered = refl } in
          let other : h.2.number ≡ i.0 → ⊥ = λ e. taken_nowhere f g i.0 inst numbered.one_place t h.0 h.1 h.2 (record { block = at.block; found = at.found; numbered = e }) in
          let r = stands g f i.0 (but_back f g i.0 but) h.2.number other h.0 h.1 h.2 at in
          (h.0, r.0, h.2, r.1.found, ne_eqb i.0 h.2.number (λ e. other (sym e)), (k.0, k.1, k.2, val_base g f (alike_back f g alike) k.0.val (Alloca l) k.3)),
    )

-- two properties differ from a third alike where they are one
differ_on : (P Q R : LocalNo → Type 0) → ((l : LocalNo) → Q l ↔ R l) → Differ P Q → Differ P R
differ_on P Q R same (l, inl h) = (l, inl (h.0, λ r. h.1 ((same l).1 r)))
differ_on P Q R same (l, inr h) = (l, inr ((same l).0 h.0, h.1))

pub taken_told : (f g : FuncState) (i : InstNo) (inst : Inst) → IsNumbered f → IsTaken f g i.0 inst → makes_pointer inst ≡ false → (t : Bool) → (IsTrue t ↔ Differ (IsCaptured f) (IsCapturedBut f (Some i)))
    → (IsTrue t ↔ Differ (IsCaptured f) (IsCaptured g))
taken_told f g i inst numbered taken idle t h =
    let same = captured_without f g i inst numbered taken idle in (
      (λ e. differ_on (IsCaptured f) (IsCapturedBut f (Some i)) (IsCaptured g) same (h.0 e)),
      (λ d. h.1 (differ_on (IsCaptured f) (IsCaptured g) (IsCapturedBut f (Some i)) (λ l. ((same l).1, (same l).0)) d)),
    )

pub none_differ : (f g : FuncState) → ((l : LocalNo) → IsCaptured f l ↔ IsCaptured g l) → Differ (IsCaptured f) (IsCaptured g) → ⊥
none_differ f g same (l, inl h) = h.1 ((same l).0 h.0)
none_differ f g same (l, inr h) = h.1 ((same l).1 h.0)

pub moved_told : (f g : FuncState) (n b place : ℕ) → IsShifted f g n b place → b < length f.blocks → MakesNone f n → Differ (IsCaptured f) (IsCaptured g) → ⊥
moved_told f g n b place s within none = none_differ f g (shift_pointers f g n b place s within none).captured
