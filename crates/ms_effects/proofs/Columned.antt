-- The columns that an instruction makes, and those of all instructions.
use Rattle.std.proofs.Common.{◌≡◌, ◌<◌, ◌+◌, ◌↔◌, ◌⊎◌, ℕ, ℤ, pos, ◌+ℤ◌, List, [], ◌∷◌, ◌++◌, Option, Some, None, refl, sym, ◌∙◌, subst, inl, inr, ⊎_elim, arith}
use Rattle.std.specs.Prelude.{Contains, slice_get}
use Rattle.std.proofs.lemmas.Bool.{cases_eq}
use Rattle.std.proofs.lemmas.List.Elements.{Contains-push, Contains-push_cases, Contains-append_left, Contains-append_right, Contains-append_cases}
use Rattle.ms_ir.specs.declared.names.InstNo.{InstNo}
use Rattle.ms_ir.specs.Func.{Placed, FuncState, IsAt, insts_at}
use Rattle.ms_ir.specs.Locals.{IsNumbered}
use Rattle.ms_ir.proofs.FuncLemmas.{block_there}
use Rattle.ms_alias.specs.declared.loc.Root.{Root}
use Rattle.ms_alias.specs.declared.loc.Loc.{Loc}
use Rattle.ms_alias.specs.declared.loc.Loc.TheVariants.{Bytes}
use Rattle.ms_alias.specs.Reaches.{ReadsLoc, WritesLoc}
use Rattle.ms_live.specs.Columns.{HasColumns}
use Rattle.ms_effects.specs.declared.effect.Span.{Span}
use Rattle.ms_effects.specs.Effects.{IsRangeOf}
use Rattle.ms_effects.specs.Columns.{IsStartBy, IsBoundBy, IsColumnBy, IsColumn, starts_of, bounds_of, AreAdded}
use Rattle.ms_effects.proofs.Told.{read_as_loc, written_as_loc}

none_there : (c : ℤ) → Contains {X = ℤ} [] c → ⊥
none_there c (k, below, is) = omega (arith, below)

one_there : (x c : ℤ) → Contains (x ∷ []) c → x ≡ c
one_there x c h = ⊎_elim (λ (h : Contains {X = ℤ} [] c). absurd (none_there c h)) (λ (e : x ≡ c). e) (Contains-push_cases [] x c h)

two_there : (x y c : ℤ) → Contains (x ∷ y ∷ []) c → (x ≡ c) ⊎ (y ≡ c)
two_there x y c h = ⊎_elim (λ (h : Contains (x ∷ []) c). inl (one_there x c h)) (λ (e : y ≡ c). inr e) (Contains-push_cases (x ∷ []) y c h)

first_there : (x y : ℤ) → Contains (x ∷ y ∷ []) x
first_there x y = Contains-append_left (x ∷ []) (y ∷ []) x (Contains-push [] x)

module _ (f : FuncState) (i : InstNo) (r : Root) (found : Option Span) (loc : Option Loc) (range : IsRangeOf found loc r) where
  starts_told : ((l : Loc) → (loc ≡ Some l) ↔ ReadsLoc f i l) → (v : Option Span) → found ≡ v → (c : ℤ) → Contains (starts_of v) c ↔ IsStartBy f i r c
  starts_told told None e c = (
    λ h. absurd (none_there c h),
    λ h. let some = (range c h.0).1 ((told (Bytes r c h.0)).1 h.1) in absurd (cc),
  )
  starts_told told (Some s) e c = (
    λ h. (s.len, subst (λ z. ReadsLoc f i (Bytes r z s.len)) (one_there s.from c h) ((told (Bytes r s.from s.len)).0 ((range s.from s.len).0 e))),
    λ h.
        let some = (range c h.0).1 ((told (Bytes r c h.0)).1 h.1) in
        let same : s.from ≡ c = cc in
        subst (λ z. Contains (s.from ∷ []) z) same (Contains-push [] s.from),
  )

  bounds_told : ((l : Loc) → (loc ≡ Some l) ↔ WritesLoc f i l) → (v : Option Span) → found ≡ v → (c : ℤ) → Contains (bounds_of v) c ↔ IsBoundBy f i r c
  bounds_told told None e c = (
    λ h. absurd (none_there c h),
    λ h. let some = (range h.0 h.1).1 ((told (Bytes r h.0 h.1)).1 h.2) in absurd (cc),
  )
  bounds_told told (Some s) e c = (
    λ h.
        let there : WritesLoc f i (Bytes r s.from s.len) = (told (Bytes r s.from s.len)).0 ((range s.from s.len).0 e) in
        (s.from, s.len, there, ⊎_elim (λ (x : s.from ≡ c). inl (sym x)) (λ (x : (s.from +ℤ pos s.len) ≡ c). inr (sym x)) (two_there s.from (s.from +ℤ pos s.len) c h)),
    λ h.
        let some = (range h.0 h.1).1 ((told (Bytes r h.0 h.1)).1 h.2) in
        let from : s.from ≡ h.0 = cc in
        let len : s.len ≡ h.1 = cc in
        ⊎_elim
        (λ (x : c ≡ h.0). subst (λ z. Contains (bounds_of (Some s)) z) (from ∙ sym x) (first_there s.from (s.from +ℤ pos s.len)))
        (λ (x : c ≡ (h.0 +ℤ pos h.1)). let last : (s.from +ℤ pos s.len) ≡ c = cc in subst (λ z. Contains (bounds_of (Some s)) z) last (Contains-push (s.from ∷ []) (s.from +ℤ pos s.len)))
        h.3,
  )

-- two lists are appended, and are what is to be added
pub both_added : (P Q : ℤ → Type 0) (xs us ws ys zs : List ℤ) → ((c : ℤ) → Contains us c ↔ P c) → ((c : ℤ) → Contains ws c ↔ Q c) → ys ≡ xs ++ us → zs ≡ ys ++ ws →
    AreAdded (λ c. P c ⊎ Q c) xs zs
both_added P Q xs us ws ys zs p q ey ez c = (
  λ h. ⊎_elim
      (λ (h : Contains ys c). ⊎_elim (λ (h : Contains xs c). inl h) (λ (h : Contains us c). inr (inl ((p c).0 h))) (Contains-append_cases xs us c (subst (λ l. Contains l c) ey h)))
      (λ (h : Contains ws c). inr (inr ((q c).0 h))) (Contains-append_cases ys ws c (subst (λ l. Contains l c) ez h)),
  λ h. subst (λ l. Contains l c) (sym ez) (⊎_elim
      (λ (h : Contains xs c). Contains-append_left ys ws c (subst (λ l. Contains l c) (sym ey) (Contains-append_left xs us c h)))
      (λ (h : P c ⊎ Q c). ⊎_elim
      (λ (h : P c). Contains-append_left ys ws c (subst (λ l. Contains l c) (sym ey) (Contains-append_right xs us c ((p c).1 h))))
      (λ (h : Q c). Contains-append_right ys ws c ((q c).1 h)) h) h),
)

-- what an instruction appends are its columns
pub columns_added : (f : FuncState) (i : InstNo) (r : Root) (read written : Option Span) (source target : Option Loc) (xs ys zs : List ℤ) →
    IsRangeOf read source r → ((l : Loc) → (source ≡ Some l) ↔ ReadsLoc f i l) → IsRangeOf written target r → ((l : Loc) → (target ≡ Some l) ↔ WritesLoc f i l) →
    ys ≡ xs ++ starts_of read → zs ≡ ys ++ bounds_of written → AreAdded (IsColumnBy f i r) xs zs
columns_added f i r read written source target xs ys zs found reads put writes ey ez =
    both_added (IsStartBy f i r) (IsBoundBy f i r) xs (starts_of read) (bounds_of written) ys zs (starts_told f i r read source found reads read refl) (bounds_told f i r written target put writes written refl) ey ez

-- the columns of the first numbers
abbrev pub AreColumnsBelow : FuncState → Root → ℕ → List ℤ → Type 0
AreColumnsBelow f r n xs = (c : ℤ) → Contains xs c ↔ ((i : InstNo) × (i.0 < n) × IsColumnBy f i r c)

pub none_below : (f : FuncState) (r : Root) → AreColumnsBelow f r 0 []
none_below f r c = (λ h. absurd (none_there c h), λ h. absurd (let lt = h.1 in omega (arith, lt)))

pub one_more : (f : FuncState) (r : Root) (n : ℕ) (xs ys : List ℤ) → AreColumnsBelow f r n xs → AreAdded (IsColumnBy f (record { 0 = n }) r) xs ys → AreColumnsBelow f r (n + 1) ys
one_more f r n xs ys old new c = (
  λ h. ⊎_elim
      (λ (x : Contains xs c). let o = (old c).0 x in (o.0, (let lt = o.1 in omega (arith, lt)), o.2))
      (λ (p : IsColumnBy f (record { 0 = n }) r c). (record { 0 = n }, omega arith, p)) ((new c).0 h),
  λ h. ⊎_elim
      (λ (e : h.0.0 ≡ n). (new c).1 (inr (subst (λ z. IsColumnBy f (record { 0 = z }) r c) e h.2)))
      (λ (ne : h.0.0 ≡ n → ⊥). (new c).1 (inl ((old c).1 (h.0, (let lt = h.1 in omega (arith, lt, ne)), h.2)))) (cases_eq h.0.0 n),
)

inst_below : (f : FuncState) → IsNumbered f → (i b place : ℕ) (x : Placed) → IsAt f.blocks i b place x → i < f.made
inst_below f n i b place x there = let lt = n.below_made b place x there.found in let e = there.numbered in omega (arith, lt, e)

below_made : (f : FuncState) → IsNumbered f → (i : InstNo) (r : Root) (c : ℤ) → IsColumnBy f i r c → i.0 < f.made
below_made f n i r c h = ⊎_elim
    (λ (s : IsStartBy f i r c). inst_below f n i.0 s.1.0 s.1.1 s.1.2 s.1.3)
    (λ (s : IsBoundBy f i r c). inst_below f n i.0 s.2.0 s.2.1 s.2.2 s.2.3) h

-- all numbers that were given are those of all instructions
pub all_below : (f : FuncState) → IsNumbered f → (r : Root) (xs : List ℤ) → AreColumnsBelow f r f.made xs → (c : ℤ) → Contains xs c ↔ IsColumn f r c
all_below f n r xs told c = (
  λ h. let o = (told c).0 h in (o.0, o.2),
  λ h. (told c).1 (h.0, below_made f n h.0 r c h.1, h.1),
)

-- they are the same in another list of the same numbers
pub same_columns : (f : FuncState) (r : Root) (xs ys : List ℤ) → ((c : ℤ) → Contains ys c ↔ Contains xs c) → ((c : ℤ) → Contains xs c ↔ IsColumn f r c) → (c : ℤ) → Contains ys c ↔ IsColumn f r c
same_columns f r xs ys same told c = (λ h. (told c).0 ((same c).0 h), λ h. (same c).1 ((told c).1 h))

-- the columns are what other bytes are held against
pub has_columns : (f : FuncState) (r : Root) (xs : List ℤ) → ((c : ℤ) → Contains xs c ↔ IsColumn f r c) → HasColumns f r xs
has_columns f r xs told = record {
  reads = λ b j x p from len h. (told from).1 (record { 0 = x.number }, inl (len, (b, j, x, there b j x p, read_as_loc f (record { 0 = x.number }) x.inst r from len h)));
  writes = λ b j x p from len h. (told from).1 (record { 0 = x.number }, inr (from, len, (b, j, x, there b j x p, written_as_loc f x.inst r from len h), inl refl));
  ends = λ b j x p from len h. (told (from +ℤ pos len)).1 (record { 0 = x.number }, inr (from, len, (b, j, x, there b j x p, written_as_loc f x.inst r from len h), inr refl));
} where
  there : (b j : ℕ) (x : Placed) → slice_get (insts_at f.blocks b) j ≡ Some x → IsAt f.blocks x.number b j x
  there b j x p = record { block = block_there f.blocks b j x p; found = p; numbered = refl }
