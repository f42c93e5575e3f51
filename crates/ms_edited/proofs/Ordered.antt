-- Small functions in which no use comes before its definition.
use Rattle.std.proofs.Common.{◌≡◌, ◌∙◌, ◌<◌, ◌⊎◌, ℕ, zero, suc, List, [], ◌∷◌, take, Some, None, refl, sym, ap, subst, inl, inr, arith}
use Rattle.std.specs.Prelude.{Contains, slice_get}
use Rattle.ms_paths.specs.Flow.{block_at}
use Rattle.ms_ir.specs.declared.names.LocalNo.{LocalNo}
use Rattle.ms_ir.specs.declared.names.Ty.TheVariants.{I32}
use Rattle.ms_ir.specs.declared.inst.Val.TheVariants.{Num, Local}
use Rattle.ms_ir.specs.Func.{Placed, Block, FuncState, insts_at}
use Rattle.ms_ir.specs.Graph.{graph_of}
use Rattle.ms_ir.specs.Locals.{IsGiver}
use Rattle.ms_ir.specs.Uses.{Use, uses_at, term_uses_at}
use Rattle.ms_ir.specs.Sound.{IsUsedBefore}
use Rattle.ms_ir.specs.Edits.{IsUseIn}
use Rattle.ms_edited.specs.Samples.{local, diamond, inserted, moved}

of_none : {A : Type 0} (P : A → Type 0) (y : A) → Contains [] y → P y
of_none P y (k, lt, is) = absurd (let l : k < 0 = lt in omega arith)

of_one : {A : Type 0} (P : A → Type 0) (w : A) → P w → (y : A) → Contains (w ∷ []) y → P y
of_one P w p y (zero, lt, is) = subst P is p
of_one P w p y (suc k, lt, is) = absurd (let l : suc k < 1 = lt in omega arith)

of_two : {A : Type 0} (P : A → Type 0) (w x : A) → P w → P x → (y : A) → Contains (w ∷ x ∷ []) y → P y
of_two P w x p q y (zero, lt, is) = subst P is p
of_two P w x p q y (suc zero, lt, is) = subst P is q
of_two P w x p q y (suc (suc k), lt, is) = absurd (let l : suc (suc k) < 2 = lt in omega arith)

pub number : (m : ℕ) (l : LocalNo) → local m ≡ Local l → l.0 ≡ m
number m l e =
    let at : ℕ → LocalNo = λ k. record { 0 = k } in
    let one : at m ≡ l = cc in
    sym (ap (λ (k : LocalNo). k.0) one)

pub no_number : (k : ℕ) (l : LocalNo) → Num I32 k ≡ Local l → ⊥
no_number k l e = cc

pub no_member : {A : Type 0} (x : A) → None ≡ Some x → ⊥
no_member x e = cc

pub some_member : {A : Type 0} (x y : A) → Some x ≡ Some y → x ≡ y
some_member x y e = cc

-- an instruction that gives local m gives no other
gives_one : (x y : Placed) (m : ℕ) (l : LocalNo) → Some x ≡ Some y → x.result ≡ Some (record { 0 = m }) → y.result ≡ Some l → l.0 ≡ m
gives_one x y m l e a b =
    let at : ℕ → LocalNo = λ k. record { 0 = k } in
    let both : Some (at m) ≡ Some l = sym a ∙ ap (λ (z : Placed). z.result) (some_member x y e) ∙ b in
    sym (ap (λ (k : LocalNo). k.0) (some_member (at m) l both))

pub gives_none : (x y : Placed) (l : LocalNo) → Some x ≡ Some y → x.result ≡ None → y.result ≡ Some l → ⊥
gives_none x y l e a b = no_member l (sym a ∙ ap (λ (z : Placed). z.result) (some_member x y e) ∙ b)

numbered : (x y : Placed) (n : ℕ) → Some x ≡ Some y → x.number ≡ n → y.number ≡ n
numbered x y n e a = sym (ap (λ (z : Placed). z.number) (some_member x y e)) ∙ a

-- local 2 is given by instruction 1, local 3 by instruction 3, and no others are given
abbrev pub HasGivers : List Block → Type 0
HasGivers blocks = (l : LocalNo) (b k : ℕ) (x : Placed) → IsGiver blocks l b k x → ((l.0 ≡ 2) × (x.number ≡ 1)) ⊎ ((l.0 ≡ 3) × (x.number ≡ 3))

module _ (g : FuncState) (givers : HasGivers g.blocks) where
  abbrev InTime : Use → Type 0
  InTime u = IsUsedBefore g u → ⊥

  abbrev IsBehind : Use → ℕ → Type 0
  IsBehind u n = Contains (take u.place (block_at (graph_of g.blocks) u.block).events) n

  of_number : (u : Use) (k : ℕ) → u.val ≡ Num I32 k → InTime u
  of_number u k e (path, h) = no_number k h.local (sym e ∙ h.is_local)

  of_local : (u : Use) (m : ℕ) → u.val ≡ local m → (m ≡ 2 → IsBehind u 1) → (m ≡ 3 → IsBehind u 3) → InTime u
  of_local u m e two three (path, h) =
      let is = number m h.local (sym e ∙ h.is_local) in
      elim (givers h.local h.block h.place h.giver h.gives) [
        | inl by ↦ h.not_met (inl (subst (λ n. IsBehind u n) (sym by.1) (two (sym is ∙ by.0))))
        | inr by ↦ h.not_met (inl (subst (λ n. IsBehind u n) (sym by.1) (three (sym is ∙ by.0))))
      ]

  of_param : (u : Use) (m : ℕ) → u.val ≡ local m → m < 2 → InTime u
  of_param u m e lt = of_local u m e (λ is. absurd (omega arith)) (λ is. absurd (omega arith))

  -- the uses of a store of a number through a parameter
  of_store : (b k n : ℕ) (u : Use) → Contains (record { block = b; place = k; val = Num I32 n } ∷ record { block = b; place = k; val = local 1 } ∷ []) u → InTime u
  of_store b k n = of_two InTime _ _ (of_number _ n refl) (of_param _ 1 refl (omega arith))

  of_load : (b k : ℕ) (u : Use) → Contains (record { block = b; place = k; val = local 1 } ∷ []) u → InTime u
  of_load b k = of_one InTime _ (of_param _ 1 refl (omega arith))

  at_inst : (b k : ℕ) (x y : Placed) → Some x ≡ Some y → ((u : Use) → Contains (uses_at g.blocks b k x.inst) u → InTime u) → (u : Use) → Contains (uses_at g.blocks b k y.inst) u → InTime u
  at_inst b k x y e h = subst (λ (z : Placed). (u : Use) → Contains (uses_at g.blocks b k z.inst) u → InTime u) (some_member x y e) h

  at_term : (b : ℕ) (x y : Block) → Some x ≡ Some y → ((u : Use) → Contains (term_uses_at g.blocks b x.term) u → InTime u) → (u : Use) → Contains (term_uses_at g.blocks b y.term) u → InTime u
  at_term b x y e h = subst (λ (z : Block). (u : Use) → Contains (term_uses_at g.blocks b z.term) u → InTime u) (some_member x y e) h

pub diamond_givers : HasGivers diamond.blocks
diamond_givers l zero zero x h = absurd (gives_none _ x l h.found refl h.gives)
diamond_givers l zero (suc zero) x h = inl (gives_one _ x 2 l h.found refl h.gives, numbered _ x 1 h.found refl)
diamond_givers l zero (suc (suc k)) x h = absurd (no_member x h.found)
diamond_givers l (suc zero) zero x h = absurd (gives_none _ x l h.found refl h.gives)
diamond_givers l (suc zero) (suc k) x h = absurd (no_member x h.found)
diamond_givers l (suc (suc zero)) zero x h = inr (gives_one _ x 3 l h.found refl h.gives, numbered _ x 3 h.found refl)
diamond_givers l (suc (suc zero)) (suc k) x h = absurd (no_member x h.found)
diamond_givers l (suc (suc (suc b))) k x h = absurd (no_member x h.found)

-- ---- a store inserted behind the phi

inserted_givers : HasGivers inserted.blocks
inserted_givers l zero zero x h = absurd (gives_none _ x l h.found refl h.gives)
inserted_givers l zero (suc zero) x h = inl (gives_one _ x 2 l h.found refl h.gives, numbered _ x 1 h.found refl)
inserted_givers l zero (suc (suc k)) x h = absurd (no_member x h.found)
inserted_givers l (suc zero) zero x h = absurd (gives_none _ x l h.found refl h.gives)
inserted_givers l (suc zero) (suc k) x h = absurd (no_member x h.found)
inserted_givers l (suc (suc zero)) zero x h = inr (gives_one _ x 3 l h.found refl h.gives, numbered _ x 3 h.found refl)
inserted_givers l (suc (suc zero)) (suc zero) x h = absurd (gives_none _ x l h.found refl h.gives)
inserted_givers l (suc (suc zero)) (suc (suc k)) x h = absurd (no_member x h.found)
inserted_givers l (suc (suc (suc b))) k x h = absurd (no_member x h.found)

inserted_insts : (b k : ℕ) (x : Placed) → slice_get (insts_at inserted.blocks b) k ≡ Some x → (u : Use) → Contains (uses_at inserted.blocks b k x.inst) u → IsUsedBefore inserted u → ⊥
inserted_insts zero zero x e = at_inst inserted inserted_givers 0 0 _ x e (of_store inserted inserted_givers 0 0 1)
inserted_insts zero (suc zero) x e = at_inst inserted inserted_givers 0 1 _ x e (of_load inserted inserted_givers 0 1)
inserted_insts zero (suc (suc k)) x e = absurd (no_member x e)
inserted_insts (suc zero) zero x e = at_inst inserted inserted_givers 1 0 _ x e (of_store inserted inserted_givers 1 0 2)
inserted_insts (suc zero) (suc k) x e = absurd (no_member x e)
inserted_insts (suc (suc zero)) zero x e =
    at_inst inserted inserted_givers 2 0 _ x e
    (of_two (λ u. IsUsedBefore inserted u → ⊥) _ _
    (of_local inserted inserted_givers _ 2 refl (λ is. (1, omega arith, refl)) (λ is. absurd (omega arith)))
    (of_number inserted inserted_givers _ 0 refl))
inserted_insts (suc (suc zero)) (suc zero) x e = at_inst inserted inserted_givers 2 1 _ x e (of_store inserted inserted_givers 2 1 7)
inserted_insts (suc (suc zero)) (suc (suc k)) x e = absurd (no_member x e)
inserted_insts (suc (suc (suc b))) k x e = absurd (no_member x e)

inserted_terms : (b : ℕ) (x : Block) → slice_get inserted.blocks b ≡ Some x → (u : Use) → Contains (term_uses_at inserted.blocks b x.term) u → IsUsedBefore inserted u → ⊥
inserted_terms zero x e = at_term inserted inserted_givers 0 _ x e (of_one (λ u. IsUsedBefore inserted u → ⊥) _ (of_param inserted inserted_givers _ 0 refl (omega arith)))
inserted_terms (suc zero) x e = at_term inserted inserted_givers 1 _ x e (of_none (λ u. IsUsedBefore inserted u → ⊥))
inserted_terms (suc (suc zero)) x e =
    at_term inserted inserted_givers 2 _ x e
    (of_one (λ u. IsUsedBefore inserted u → ⊥) _ (of_local inserted inserted_givers _ 3 refl (λ is. absurd (omega arith)) (λ is. (0, omega arith, refl))))
inserted_terms (suc (suc (suc b))) x e = absurd (no_member x e)

pub inserted_in_time : (u : Use) → IsUseIn inserted.blocks u → IsUsedBefore inserted u → ⊥
inserted_in_time u (inl (b, k, x, found, among)) = inserted_insts b k x found u among
inserted_in_time u (inr (b, x, found, among)) = inserted_terms b x found u among

-- ---- the first store behind the load

moved_givers : HasGivers moved.blocks
moved_givers l zero zero x h = inl (gives_one _ x 2 l h.found refl h.gives, numbered _ x 1 h.found refl)
moved_givers l zero (suc zero) x h = absurd (gives_none _ x l h.found refl h.gives)
moved_givers l zero (suc (suc k)) x h = absurd (no_member x h.found)
moved_givers l (suc zero) zero x h = absurd (gives_none _ x l h.found refl h.gives)
moved_givers l (suc zero) (suc k) x h = absurd (no_member x h.found)
moved_givers l (suc (suc zero)) zero x h = inr (gives_one _ x 3 l h.found refl h.gives, numbered _ x 3 h.found refl)
moved_givers l (suc (suc zero)) (suc k) x h = absurd (no_member x h.found)
moved_givers l (suc (suc (suc b))) k x h = absurd (no_member x h.found)

moved_insts : (b k : ℕ) (x : Placed) → slice_get (insts_at moved.blocks b) k ≡ Some x → (u : Use) → Contains (uses_at moved.blocks b k x.inst) u → IsUsedBefore moved u → ⊥
moved_insts zero zero x e = at_inst moved moved_givers 0 0 _ x e (of_load moved moved_givers 0 0)
moved_insts zero (suc zero) x e = at_inst moved moved_givers 0 1 _ x e (of_store moved moved_givers 0 1 1)
moved_insts zero (suc (suc k)) x e = absurd (no_member x e)
moved_insts (suc zero) zero x e = at_inst moved moved_givers 1 0 _ x e (of_store moved moved_givers 1 0 2)
moved_insts (suc zero) (suc k) x e = absurd (no_member x e)
moved_insts (suc (suc zero)) zero x e =
    at_inst moved moved_givers 2 0 _ x e
    (of_two (λ u. IsUsedBefore moved u → ⊥) _ _
    (of_local moved moved_givers _ 2 refl (λ is. (0, omega arith, refl)) (λ is. absurd (omega arith)))
    (of_number moved moved_givers _ 0 refl))
moved_insts (suc (suc zero)) (suc k) x e = absurd (no_member x e)
moved_insts (suc (suc (suc b))) k x e = absurd (no_member x e)

moved_terms : (b : ℕ) (x : Block) → slice_get moved.blocks b ≡ Some x → (u : Use) → Contains (term_uses_at moved.blocks b x.term) u → IsUsedBefore moved u → ⊥
moved_terms zero x e = at_term moved moved_givers 0 _ x e (of_one (λ u. IsUsedBefore moved u → ⊥) _ (of_param moved moved_givers _ 0 refl (omega arith)))
moved_terms (suc zero) x e = at_term moved moved_givers 1 _ x e (of_none (λ u. IsUsedBefore moved u → ⊥))
moved_terms (suc (suc zero)) x e =
    at_term moved moved_givers 2 _ x e
    (of_one (λ u. IsUsedBefore moved u → ⊥) _ (of_local moved moved_givers _ 3 refl (λ is. absurd (omega arith)) (λ is. (0, omega arith, refl))))
moved_terms (suc (suc (suc b))) x e = absurd (no_member x e)

pub moved_in_time : (u : Use) → IsUseIn moved.blocks u → IsUsedBefore moved u → ⊥
moved_in_time u (inl (b, k, x, found, among)) = moved_insts b k x found u among
moved_in_time u (inr (b, x, found, among)) = moved_terms b x found u among
