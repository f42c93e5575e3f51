-- An instruction is put at a place behind the phis: where the others stand, and what each of them keeps.
use Rattle.std.proofs.Common.{◌≡◌, ◌∙◌, ◌<◌, ◌≤◌, ◌⊎◌, ◌+◌, ◌^◌, ℕ, true, false, List, length, Some, refl, sym, ap, subst, inl, inr, arith}
use Rattle.std.specs.Prelude.{slice_get, is_some}
use Rattle.std.proofs.lemmas.Bool.{cases_lt, true≢false}
use Rattle.ms_ir.specs.declared.names.LocalNo.{LocalNo}
use Rattle.ms_ir.specs.declared.inst.Inst.{Inst}
use Rattle.ms_ir.specs.declared.inst.Inst.TheVariants.{Alloca, Gep, Step, Load, Store, Copy, Call, Bin, Cmp, Select, Cast, Phi}
use Rattle.ms_ir.specs.Inst.{has_result}
use Rattle.ms_ir.specs.Func.{Placed, Block, FuncState, insts_at, put_at}
use Rattle.ms_ir.specs.Locals.{IsGiver, IsNumbered}
use Rattle.ms_ir.specs.Types.{is_alloca, is_phi, has_entry, types_stand}
use Rattle.ms_ir.specs.Sound.{HasBadEntries}
use Rattle.ms_ir.specs.SoundFunc.{IsAmongPhis}
use Rattle.ms_ir.specs.Edits.{IsNoTarget, is_movable}
use Rattle.ms_edited.proofs.Places.{moved, put_moves, put_there, put_term, put_size, moved_down, moved_past, each_moved}
use Rattle.ms_edited.proofs.Shape.{IsShaped, IsGivenStill, entries_back}

-- what is moved is no alloca and no phi

movable_no_alloca : (inst : Inst) → is_movable inst ≡ true → is_alloca inst ≡ false
movable_no_alloca (Load ty ptr tail) e = refl
movable_no_alloca (Store ty val ptr tail) e = refl
movable_no_alloca (Copy to from len head tail) e = refl
movable_no_alloca (Call callee ret args effects head tail) e = refl
movable_no_alloca (Alloca size head tail) e = absurd (true≢false (sym e))
movable_no_alloca (Gep base offset head index tail) e = absurd (true≢false (sym e))
movable_no_alloca (Step base offset terms head index tail) e = absurd (true≢false (sym e))
movable_no_alloca (Bin op flags ty a b tail) e = absurd (true≢false (sym e))
movable_no_alloca (Cmp pred flags ty a b tail) e = absurd (true≢false (sym e))
movable_no_alloca (Select cond ty a b tail) e = absurd (true≢false (sym e))
movable_no_alloca (Cast op flags from a to tail) e = absurd (true≢false (sym e))
movable_no_alloca (Phi ty entries tail) e = absurd (true≢false (sym e))

movable_no_phi : (inst : Inst) → is_movable inst ≡ true → is_phi inst ≡ false
movable_no_phi (Load ty ptr tail) e = refl
movable_no_phi (Store ty val ptr tail) e = refl
movable_no_phi (Copy to from len head tail) e = refl
movable_no_phi (Call callee ret args effects head tail) e = refl
movable_no_phi (Alloca size head tail) e = refl
movable_no_phi (Gep base offset head index tail) e = refl
movable_no_phi (Step base offset terms head index tail) e = refl
movable_no_phi (Bin op flags ty a b tail) e = refl
movable_no_phi (Cmp pred flags ty a b tail) e = refl
movable_no_phi (Select cond ty a b tail) e = refl
movable_no_phi (Cast op flags from a to tail) e = refl
movable_no_phi (Phi ty entries tail) e = absurd (true≢false (sym e))

entered_but_phi : (inst : Inst) → is_phi inst ≡ false → has_entry inst ≡ true
entered_but_phi (Phi ty entries tail) e = absurd (true≢false e)
entered_but_phi (Load ty ptr tail) e = refl
entered_but_phi (Store ty val ptr tail) e = refl
entered_but_phi (Copy to from len head tail) e = refl
entered_but_phi (Call callee ret args effects head tail) e = refl
entered_but_phi (Alloca size head tail) e = refl
entered_but_phi (Gep base offset head index tail) e = refl
entered_but_phi (Step base offset terms head index tail) e = refl
entered_but_phi (Bin op flags ty a b tail) e = refl
entered_but_phi (Cmp pred flags ty a b tail) e = refl
entered_but_phi (Select cond ty a b tail) e = refl
entered_but_phi (Cast op flags from a to tail) e = refl

no_bad_entries : (blocks : List Block) (b : ℕ) (inst : Inst) → is_phi inst ≡ false → HasBadEntries blocks b inst → ⊥
no_bad_entries blocks b (Phi ty entries tail) e h = absurd (true≢false e)
no_bad_entries blocks b inst e h = absurd h

module _ (blocks : List Block) (b p : ℕ) (y : Placed) (lt : b < length blocks) (room : IsNoTarget (insts_at blocks b) p → ⊥) where
  abbrev new : List Block
  new = put_at blocks b p y

  within : p ≤ length (insts_at blocks b)
  within = elim (cases_lt (length (insts_at blocks b)) p) [
    | inl past ↦ absurd (room (inr past))
    | inr le ↦ le
  ]

  -- what stands at a place is the instruction that was put, or stood there before
  abbrev WasPut : ℕ → ℕ → Placed → Type 0
  WasPut c k x = ((c ≡ b) × (k ≡ p) × (x ≡ y)) ⊎ ((j : ℕ) × (moved b p c j ≡ k) × (slice_get (insts_at blocks c) j ≡ Some x))

  put_found : slice_get (insts_at new b) p ≡ Some y
  put_found = put_there blocks b p y lt within

  pub from_put : (c k : ℕ) (x : Placed) → slice_get (insts_at new c) k ≡ Some x → WasPut c k x
  from_put c k x found = elim (each_moved b p c k) [
    | inl here ↦
        let at : slice_get (insts_at new c) k ≡ Some y = ap (λ n. slice_get (insts_at new n) k) here.0 ∙ ap (slice_get (insts_at new b)) here.1 ∙ put_found in
        let both : Some x ≡ Some y = sym found ∙ at in
        inl (here.0, here.1, (let one : x ≡ y = cc in one))
    | inr other ↦ inr (other.0, other.1, sym (put_moves blocks b p c other.0 y within) ∙ ap (slice_get (insts_at new c)) other.1 ∙ found)
  ]

  pub to_put : (c k : ℕ) (x : Placed) → slice_get (insts_at blocks c) k ≡ Some x → slice_get (insts_at new c) (moved b p c k) ≡ Some x
  to_put c k x found = put_moves blocks b p c k y within ∙ found

  pub given_put : (l : LocalNo) → IsGivenStill blocks new l
  given_put l c k x h = (c, moved b p c k, x, record { found = to_put c k x h.found; gives = h.gives }, refl)

  pub put_gives : (l : LocalNo) → y.result ≡ Some l → IsGiver new l b p y
  put_gives l e = record { found = put_found; gives = e }

  -- the phis still come first
  phis_first : (c j : ℕ) (x : Placed) → slice_get (insts_at blocks c) j ≡ Some x → is_phi x.inst ≡ true → IsAmongPhis blocks c j → IsAmongPhis new c (moved b p c j)
  phis_first c j x found is first i z less at = elim (from_put c i z at) [
    | inl here ↦
        let le : p ≤ j = moved_past b p c j here.0 (subst (λ n. n < moved b p c j) here.1 less) in
        absurd (room (inl (j, x, ap (λ n. slice_get (insts_at blocks n) j) (sym here.0) ∙ found, is, le)))
    | inr old ↦ first old.0 z (moved_down b p c old.0 j (subst (λ n. n < moved b p c j) (sym old.1) less)) old.2
  ]

  pub put_shaped : is_movable y.inst ≡ true → types_stand y.inst ≡ true → ((c k : ℕ) (x : Placed) → slice_get (insts_at blocks c) k ≡ Some x → IsShaped blocks c k x.inst)
      → (c k : ℕ) (x : Placed) → slice_get (insts_at new c) k ≡ Some x → IsShaped new c k x.inst
  put_shaped movable types shapes c k x found = elim (from_put c k x found) [
    | inl here ↦
        let no_alloca = movable_no_alloca y.inst movable in
        let no_phi = movable_no_phi y.inst movable in
        subst (λ (z : Placed). IsShaped new c k z.inst) (sym here.2)
        (record {
          types = types;
          alloca = λ e. absurd (true≢false (sym e ∙ no_alloca));
          phi = λ e. absurd (true≢false (sym e ∙ no_phi));
          entered = entered_but_phi y.inst no_phi;
          entries = no_bad_entries new c y.inst no_phi;
        })
    | inr old ↦
        let s = shapes c old.0 x old.2 in
        record {
          types = s.types;
          alloca = s.alloca;
          phi = λ e. subst (λ n. IsAmongPhis new c n) old.1 (phis_first c old.0 x old.2 e (s.phi e));
          entered = s.entered;
          entries = λ bad. s.entries (entries_back blocks new (put_term blocks b p y) c x.inst bad);
        }
  ]

-- ---- numbers

-- an instruction with a number and a result that nothing in the function has
pub record IsFresh (f : FuncState) (y : Placed) (made locals : ℕ) : Type 0 where
  pub number : (c k : ℕ) (x : Placed) → slice_get (insts_at f.blocks c) k ≡ Some x → x.number ≡ y.number → ⊥
  pub below : y.number < made
  pub local : (l : LocalNo) → y.result ≡ Some l → (c k : ℕ) (x : Placed) → IsGiver f.blocks l c k x → ⊥
  pub range : (l : LocalNo) → y.result ≡ Some l → (length f.params ≤ l.0) × (l.0 < locals)
  pub gives : is_some y.result ≡ has_result y.inst
  pub more_made : f.made ≤ made
  pub few_made : made < 2 ^ 32
  pub more_locals : f.locals ≤ locals
  pub few_locals : locals ≤ length f.params + made

abbrev pub with_put : FuncState → ℕ → ℕ → Placed → ℕ → ℕ → ℕ → FuncState
with_put f b p y made locals spare = record f { blocks = put_at f.blocks b p y; made = made; locals = locals; spare = spare }

pub put_numbered : (f : FuncState) (b p : ℕ) (y : Placed) (made locals spare : ℕ) → b < length f.blocks → (IsNoTarget (insts_at f.blocks b) p → ⊥) → IsNumbered f → IsFresh f y made locals
    → IsNumbered (with_put f b p y made locals spare)
put_numbered f b p y made locals spare lt room n fresh = record {
  one_place = λ c j d k x z hx hz e. elim (was c j x hx) [
    | inl a ↦ elim (was d k z hz) [
      | inl o ↦ (a.0 ∙ sym o.0, a.1 ∙ sym o.1)
      | inr o ↦ absurd (fresh.number d o.0 z o.2 (sym e ∙ ap (λ (w : Placed). w.number) a.2))
    ]
    | inr a ↦ elim (was d k z hz) [
      | inl o ↦ absurd (fresh.number c a.0 x a.2 (e ∙ ap (λ (w : Placed). w.number) o.2))
      | inr o ↦ let one = n.one_place c a.0 d o.0 x z a.2 o.2 e in (one.0, same c a.0 j d o.0 k one.0 one.1 a.1 o.1)
    ]
  ];
  below_made = λ c j x hx. elim (was c j x hx) [
    | inl a ↦ subst (λ (w : Placed). w.number < made) (sym a.2) fresh.below
    | inr a ↦ let below = n.below_made c a.0 x a.2 in omega (arith, below, fresh.more_made)
  ];
  one_giver = λ l c j d k x z hx hz. elim (was c j x hx.found) [
    | inl a ↦ elim (was d k z hz.found) [
      | inl o ↦ (a.0 ∙ sym o.0, a.1 ∙ sym o.1)
      | inr o ↦ absurd (fresh.local l (ap (λ (w : Placed). w.result) (sym a.2) ∙ hx.gives) d o.0 z (record { found = o.2; gives = hz.gives }))
    ]
    | inr a ↦ elim (was d k z hz.found) [
      | inl o ↦ absurd (fresh.local l (ap (λ (w : Placed). w.result) (sym o.2) ∙ hz.gives) c a.0 x (record { found = a.2; gives = hx.gives }))
      | inr o ↦
          let one = n.one_giver l c a.0 d o.0 x z (record { found = a.2; gives = hx.gives }) (record { found = o.2; gives = hz.gives }) in
          (one.0, same c a.0 j d o.0 k one.0 one.1 a.1 o.1)
    ]
  ];
  result_range = λ l c j x hx. elim (was c j x hx.found) [
    | inl a ↦ fresh.range l (ap (λ (w : Placed). w.result) (sym a.2) ∙ hx.gives)
    | inr a ↦ let old = n.result_range l c a.0 x (record { found = a.2; gives = hx.gives }) in (old.0, (let less = old.1 in omega (arith, less, fresh.more_locals)))
  ];
  gives = λ c j x hx. elim (was c j x hx) [
    | inl a ↦ subst (λ (w : Placed). is_some w.result ≡ has_result w.inst) (sym a.2) fresh.gives
    | inr a ↦ n.gives c a.0 x a.2
  ];
  few_made = fresh.few_made;
  few_blocks = subst (λ m. m < 2 ^ 31) (sym (put_size f.blocks b p y)) n.few_blocks;
  few_params = n.few_params;
  few_locals = fresh.few_locals;
  params_first = (let first = n.params_first in omega (arith, first, fresh.more_locals));
} where
  was : (c k : ℕ) (x : Placed) → slice_get (insts_at (put_at f.blocks b p y) c) k ≡ Some x → WasPut f.blocks b p y lt room c k x
  was = from_put f.blocks b p y lt room

  same : (c i j d o k : ℕ) → c ≡ d → i ≡ o → moved b p c i ≡ j → moved b p d o ≡ k → j ≡ k
  same c i j d o k e is ci di = sym ci ∙ ap (λ m. moved b p m i) e ∙ ap (moved b p d) is ∙ di
