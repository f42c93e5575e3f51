-- The order of definitions and uses once an instruction is inserted: only its own operands can be used before their definitions.
use Rattle.std.proofs.Common.{◌≡◌, ◌∙◌, ◌<◌, ◌≤◌, ◌⊎◌, ℕ, Bool, true, false, List, length, map, Option, Some, None, refl, sym, ap, subst, inl, inr, arith}
use Rattle.std.specs.Prelude.{IsTrue, ◌↔◌, Contains, slice_get, if◌then◌else◌}
use Rattle.std.proofs.lemmas.Bool.{cases_lt}
use Rattle.std.proofs.lemmas.Option.{slice_get_within}
use Rattle.ms_paths.specs.Flow.{IsPath}
use Rattle.ms_ir.specs.declared.names.BlockNo.{BlockNo}
use Rattle.ms_ir.specs.declared.names.LocalNo.{LocalNo}
use Rattle.ms_ir.specs.declared.names.Name.{Name}
use Rattle.ms_ir.specs.declared.inst.Val.{Val}
use Rattle.ms_ir.specs.declared.inst.Val.TheVariants.{Local}
use Rattle.ms_ir.specs.declared.inst.Inst.{Inst}
use Rattle.ms_ir.specs.declared.inst.Inst.TheVariants.{Alloca, Gep, Step, Load, Store, Copy, Call, Bin, Cmp, Select, Cast, Phi}
use Rattle.ms_ir.specs.declared.inst.Term.{Term}
use Rattle.ms_ir.specs.declared.inst.Edit.TheVariants.{Insert}
use Rattle.ms_ir.specs.Inst.{has_result, result_for}
use Rattle.ms_ir.specs.Func.{Placed, FuncState, insts_at, after_put}
use Rattle.ms_ir.specs.Graph.{graph_of, successors}
use Rattle.ms_ir.specs.Locals.{HasType, IsGiver, IsNoLocal, IsNumbered}
use Rattle.ms_ir.specs.Types.{is_phi}
use Rattle.ms_ir.specs.Uses.{Operand, Use, operands_of, term_operands, used_at, uses_at, term_uses_at}
use Rattle.ms_ir.specs.Sound.{IsUsedBefore}
use Rattle.ms_ir.specs.SoundFunc.{AreValues, IsValueIn, IsSoundFunc}
use Rattle.ms_ir.specs.Edits.{HasBadName, HasBadOrder, HasBadPlace, is_movable, term_at}
use Rattle.ms_edited.proofs.Places.{moved, put_there, put_term, put_size, moved_up}
use Rattle.ms_edited.proofs.Shape.{path_within, old_block}
use Rattle.ms_edited.proofs.OnPaths.{met_stands, stands_met}
use Rattle.ms_edited.proofs.Put.{from_put, to_put}
use Rattle.ms_edits.specs.Told.{HasIn, IsLateAt}
use Rattle.ms_edits.proofs.NameLemmas.{has_no_type}
use Rattle.ms_edits.proofs.PlaceLemmas.{in_func, moved_told}
use Rattle.ms_edits.proofs.OrderLemmas.{AreKept, IsAlike, inst_alike, term_alike, kept_before, was_before, plain_uses, of_member, member_of}

pub movable_plain : (inst : Inst) → is_movable inst ≡ true → is_phi inst ≡ false
movable_plain (Load ty ptr tail) e = refl
movable_plain (Store ty val ptr tail) e = refl
movable_plain (Copy to from len head tail) e = refl
movable_plain (Call callee ret args effects head tail) e = refl
movable_plain (Alloca size head tail) e = refl
movable_plain (Gep base offset head index tail) e = refl
movable_plain (Step base offset terms head index tail) e = refl
movable_plain (Bin op flags ty a b tail) e = refl
movable_plain (Cmp pred flags ty a b tail) e = refl
movable_plain (Select cond ty a b tail) e = refl
movable_plain (Cast op flags from a to tail) e = refl
movable_plain (Phi ty entries tail) e = cc

-- the local of a result
abbrev local_for : Bool → ℕ → Option LocalNo
local_for b next = if b then Some (record { 0 = next }) else None

local_is : (b : Bool) (next : ℕ) (l : LocalNo) → local_for b next ≡ Some l → l.0 ≡ next
local_is true next l e =
    let local : ℕ → LocalNo = λ n. record { 0 = n } in
    let one : local next ≡ l = cc in
    ap (λ (k : LocalNo). k.0) (sym one)
local_is false next l e = cc

-- a value of a function is no local that it does not have
pub value_there : (f : FuncState) (operands : List Operand) (o : Operand) (l : LocalNo) → AreValues f operands → Contains operands o → o.val ≡ Local l → IsNoLocal f l → ⊥
value_there f operands o l values c is none =
    let typed : HasType f l o.ty = subst (λ (v : Val). IsValueIn f o.ty v) is (values o c) in
    has_no_type f l o.ty none typed

-- before the place where something is put only what stood before it there stands
pub past_not : (b p c j : ℕ) → c ≡ b → moved b p c j < p → j < p
past_not b p c j e lt = elim (moved_told b p c j) [
  | inl a ↦ a.1
  | inr rest ↦ elim rest [
    | inl a ↦ absurd (let up = a.2 in let le = a.1 in omega (arith, up, le, lt))
    | inr a ↦ absurd (a.0 e)
  ]
]

pub past_so : (b p c j : ℕ) → c ≡ b → j < p → moved b p c j < p
past_so b p c j e lt = elim (moved_told b p c j) [
  | inl a ↦ (let is = a.2 in omega (arith, is, lt))
  | inr rest ↦ elim rest [
    | inl a ↦ absurd (let le = a.1 in omega (arith, le, lt))
    | inr a ↦ absurd (a.0 e)
  ]
]

module _ (f : FuncState) (n : IsNumbered f) (sound : IsSoundFunc f) (block : BlockNo) (p : ℕ) (inst : Inst) (name : Name)
    (names : HasBadName f (Insert block p inst name) → ⊥) (places : HasBadPlace f (Insert block p inst name) → ⊥) (movable : is_movable inst ≡ true) where
  abbrev b : ℕ
  b = block.0

  abbrev y : Placed
  y = record { number = f.made; result = result_for inst f.locals; name = name; inst = inst }

  abbrev g : FuncState
  g = after_put f b p inst name

  in_block : b < length f.blocks
  in_block = in_func f b (λ no. names (inl no))

  within : p ≤ length (insts_at f.blocks b)
  within = elim (cases_lt (length (insts_at f.blocks b)) p) [
    | inl past ↦ absurd (places (inr past))
    | inr le ↦ le
  ]

  abbrev WasPut : ℕ → ℕ → Placed → Type 0
  WasPut c k x = ((c ≡ b) × (k ≡ p) × (x ≡ y)) ⊎ ((j : ℕ) × (moved b p c j ≡ k) × (slice_get (insts_at f.blocks c) j ≡ Some x))

  was : (c k : ℕ) (x : Placed) → slice_get (insts_at g.blocks c) k ≡ Some x → WasPut c k x
  was = from_put f.blocks b p y in_block places

  stays : (c k : ℕ) (x : Placed) → slice_get (insts_at f.blocks c) k ≡ Some x → slice_get (insts_at g.blocks c) (moved b p c k) ≡ Some x
  stays = to_put f.blocks b p y in_block places

  here : slice_get (insts_at g.blocks b) p ≡ Some y
  here = put_there f.blocks b p y in_block within

  same_term : (c : ℕ) → term_at g.blocks c ≡ term_at f.blocks c
  same_term = put_term f.blocks b p y

  same_size : length g.blocks ≡ length f.blocks
  same_size = put_size f.blocks b p y

  path_was : (c : ℕ) (q : List ℕ) → IsPath (graph_of g.blocks) c q → IsPath (graph_of f.blocks) c q
  path_was = path_within f.blocks g.blocks same_size (λ c d e. subst (λ (t : Term). Contains (successors t) d) (same_term c) e)

  path_is : (c : ℕ) (q : List ℕ) → IsPath (graph_of f.blocks) c q → IsPath (graph_of g.blocks) c q
  path_is = path_within g.blocks f.blocks (sym same_size) (λ c d e. subst (λ (t : Term). Contains (successors t) d) (sym (same_term c)) e)

  -- the new result is no local of the function
  no_local : (l : LocalNo) → y.result ≡ Some l → IsNoLocal f l
  no_local l e =
      let is = local_is (has_result inst) f.locals l e in (
        (let first = n.params_first in omega (arith, first, is)),
        λ c k x h. (let below = (n.result_range l c k x h).1 in omega (arith, below, is)),
      )

  -- what gives a local of the function gave it
  giver_was : (l : LocalNo) (c k : ℕ) (x : Placed) → (IsNoLocal f l → ⊥) → IsGiver g.blocks l c k x → (j : ℕ) × (moved b p c j ≡ k) × IsGiver f.blocks l c j x
  giver_was l c k x there h = elim (was c k x h.found) [
    | inl new ↦ absurd (there (no_local l (ap (λ (z : Placed). z.result) (sym new.2) ∙ h.gives)))
    | inr old ↦ (old.0, old.1, record { found = old.2; gives = h.gives })
  ]

  kept : (m c k : ℕ) → AreKept f.blocks g.blocks m c k (moved b p c k)
  kept m c k d j z found is =
      (moved b p d j, stays d j z found, λ same less. subst (λ a. moved b p a j < moved b p c k) (sym same) (moved_up b p c j k less))

  -- the other uses are behind their definitions as before
  old_not : (c k m : ℕ) (operands : List Operand) (u v : Use) → AreValues f operands → IsAlike f.blocks g.blocks c k m operands u v → ((i : ℕ) → AreKept f.blocks g.blocks i c k m)
      → (IsUsedBefore f u → ⊥) → IsUsedBefore g v → ⊥
  old_not c k m operands u v values alike each behind before =
      let o = alike.operand in
      let h = before.1 in
      let giver = giver_was h.local h.block h.place h.giver (value_there f operands o.0 h.local values o.1 (o.2 ∙ h.is_local)) h.gives in
      behind (was_before f g u v (path_was v.block) alike.block alike.val before (h.block, giver.0, giver.2) (kept_before f.blocks g.blocks h.giver.number c k m operands u v alike (each h.giver.number)))

  -- an operand of the new instruction is used before its definition where the definition is not passed
  late_was : (o : Operand) → Contains (operands_of inst) o → IsUsedBefore g (used_at b p o) → IsLateAt f b p o
  late_was o c (path, h) =
      let giver = giver_was h.local h.block h.place h.giver (λ none. names (inr (inr (inl (o, h.local, c, h.is_local, none))))) h.gives in (
        h.local,
        h.block,
        giver.0,
        h.giver,
        h.is_local,
        giver.2,
        (
          path,
          path_was b path h.path_is,
          λ passed. h.not_met (stands_met g.blocks h.giver.number b p path (elim passed [
            | inl own ↦
                inl (
                  h.place,
                  h.giver,
                  subst (λ a. slice_get (insts_at g.blocks a) h.place ≡ Some h.giver) own.0 h.gives.found,
                  refl,
                  (let lt = past_so b p h.block giver.0 own.0 own.1 in let is = giver.1 in omega (arith, lt, is)),
                )
            | inr on ↦ inr (h.block, on, h.place, h.giver, h.gives.found, refl)
          ])),
        ),
      )

  -- where an instruction of the function stands now
  one_stands : (d i : ℕ) (x z : Placed) (c j : ℕ) → slice_get (insts_at f.blocks c) j ≡ Some x → slice_get (insts_at g.blocks d) i ≡ Some z → z.number ≡ x.number → (d ≡ c) × (moved b p c j ≡ i)
  one_stands d i x z c j found at same = elim (was d i z at) [
    | inl new ↦
        let below = n.below_made c j x found in
        let is : z.number ≡ f.made = ap (λ (w : Placed). w.number) new.2 in
        absurd (omega (arith, below, is, same))
    | inr old ↦
        let one = n.one_place d old.0 c j z x old.2 found same in
        (one.0, ap (moved b p c) (sym one.1) ∙ ap (λ a. moved b p a old.0) (sym one.0) ∙ old.1)
  ]

  late_is : (o : Operand) → IsLateAt f b p o → IsUsedBefore g (used_at b p o)
  late_is o (l, c, j, x, is, gives, (path, is_path, not)) = (
    path,
    record {
      local = l;
      is_local = is;
      block = c;
      place = moved b p c j;
      giver = x;
      gives = record { found = stays c j x gives.found; gives = gives.gives };
      path_is = path_is b path is_path;
      not_met = λ met. not (elim (met_stands g.blocks x.number b p path met) [
        | inl own ↦
            let one = one_stands b own.0 x own.1 c j gives.found own.2 own.3 in
            inl (sym one.0, past_not b p c j (sym one.0) (let lt = own.4 in let at = one.1 in omega (arith, lt, at)))
        | inr on ↦
            let one = one_stands on.0 on.2 x on.3 c j gives.found on.4 on.5 in
            inr (subst (λ a. Contains path a) one.0 on.1)
      ]);
    },
  )

  own_uses : uses_at g.blocks b p inst ≡ map (used_at b p) (operands_of inst)
  own_uses = plain_uses g.blocks b p inst (movable_plain inst movable)

  order_is : HasIn (operands_of inst) (IsLateAt f b p) → HasBadOrder f (Insert block p inst name)
  order_is (o, c, late) = (
    used_at b p o,
    inl (b, p, y, here, subst (λ us. Contains us (used_at b p o)) (sym own_uses) (member_of (used_at b p) (operands_of inst) o c)),
    late_is o late,
  )

  order_was : HasBadOrder f (Insert block p inst name) → HasIn (operands_of inst) (IsLateAt f b p)
  order_was (v, inl (c, m, x, found, among), before) = elim (was c m x found) [
    | inl new ↦
        let own : Contains (uses_at g.blocks b p inst) v =
        subst (λ a. Contains (uses_at g.blocks a p inst) v) new.0
        (subst (λ i. Contains (uses_at g.blocks c i inst) v) new.1 (subst (λ (z : Placed). Contains (uses_at g.blocks c m z.inst) v) new.2 among)) in
        let r = of_member (used_at b p) (operands_of inst) v (subst (λ us. Contains us v) own_uses own) in
        (r.0, r.1, late_was r.0 r.1 (subst (λ (w : Use). IsUsedBefore g w) (sym r.2) before))
    | inr old ↦
        let s = sound.insts c old.0 x old.2 in
        let alike = inst_alike f.blocks g.blocks c old.0 m x.inst v among in
        absurd (old_not c old.0 m (operands_of x.inst) alike.0 v s.operands alike.2 (λ i. subst (λ a. AreKept f.blocks g.blocks i c old.0 a) old.1 (kept i c old.0)) (s.uses alike.0 alike.1) before)
  ]
  order_was (v, inr (c, x, found, among), before) =
      let old = old_block f.blocks g.blocks same_size c x found (same_term c) in
      let s = sound.terms c old.0 old.1 in
      let alike = term_alike f.blocks g.blocks c old.0.term v (subst (λ (t : Term). Contains (term_uses_at g.blocks c t) v) (sym old.2) among) in
      let ends : (i : ℕ) → AreKept f.blocks g.blocks i c (length (insts_at f.blocks c)) (length (insts_at g.blocks c)) = λ i d j z at is.
      (moved b p d j, stays d j z at, λ same less. subst (λ a. moved b p d j < length (insts_at g.blocks a)) same (slice_get_within (insts_at g.blocks d) (moved b p d j) z (stays d j z at))) in
      absurd (old_not c (length (insts_at f.blocks c)) (length (insts_at g.blocks c)) (term_operands old.0.term) alike.0 v s.operands alike.2 ends (s.uses alike.0 alike.1) before)

  pub inserted_told : (t : Bool) → (IsTrue t ↔ HasIn (operands_of inst) (IsLateAt f b p)) → IsTrue t ↔ HasBadOrder f (Insert block p inst name)
  inserted_told t told = ((λ s. order_is (told.0 s)), (λ h. told.1 (order_was h)))
