-- In a sound function a pointer that is used follows its root: what getelementptrs make of another pointer is used before that one changes.
use Rattle.std.proofs.Common.{◌≡◌, ◌∙◌, ◌<◌, ◌≤◌, ◌+◌, ◌⊎◌, ℕ, zero, suc, ℤ, ◌+ℤ◌, Bool, true, false, cond, List, [], ◌∷◌, map, Option, Some, None, refl, sym, ap, subst, inl, inr, ⊎_elim, arith}
use Rattle.std.specs.Prelude.{Contains, slice_get, ◌-ℤ◌}
use Rattle.std.proofs.lemmas.Bool.{both_ways, cases_eq, cases_lt, eq-eqb}
use Rattle.std.proofs.lemmas.Int.{ints}
use Rattle.ms_paths.specs.Flow.{HasEdge, IsReached}
use Rattle.ms_ir.specs.declared.names.Ty.{Ty}
use Rattle.ms_ir.specs.declared.names.Ty.TheVariants.{Ptr}
use Rattle.ms_ir.specs.declared.names.LocalNo.{LocalNo}
use Rattle.ms_ir.specs.declared.names.GlobalNo.{GlobalNo}
use Rattle.ms_ir.specs.declared.inst.Val.{Val}
use Rattle.ms_ir.specs.declared.inst.Val.TheVariants.{Num, Local as LocalVal, Global as GlobalVal}
use Rattle.ms_ir.specs.declared.inst.Inst.{Inst}
use Rattle.ms_ir.specs.declared.inst.Inst.TheVariants.{Alloca, Gep, Step as StepInst, Load, Store, Copy, Call, Bin, Cmp, Select, Cast, Phi}
use Rattle.ms_ir.specs.Func.{Placed, FuncState, insts_at}
use Rattle.ms_ir.specs.Graph.{graph_of}
use Rattle.ms_ir.specs.Locals.{IsNumbered, IsGiver}
use Rattle.ms_ir.specs.Types.{is_phi}
use Rattle.ms_ir.specs.Uses.{operands_of}
use Rattle.ms_ir.specs.SoundFunc.{IsSoundFunc}
use Rattle.ms_flow.proofs.Members.{in_cons, in_none}
use Rattle.ms_alias.specs.declared.loc.Root.{Root}
use Rattle.ms_alias.specs.declared.loc.Root.TheVariants.{Local, Global}
use Rattle.ms_alias.specs.Roots.{Maker, Step, maker_of, step_of, step_in, step_by, step_by_maker, pointer_of, HasRoot}
use Rattle.ms_alias.proofs.RootLemmas.{one_root}
use Rattle.ms_alias.proofs.Makers.{pick, cases_Option, maker_in_blocks, giver_from}
use Rattle.ms_meaning.specs.Values.{Value, Number, Pointer}
use Rattle.ms_meaning.specs.States.{Input, State, IsInput, begun, operand_of, value_of}
use Rattle.ms_meaning.specs.Steps.{Deed, Doing, Does, Fails, doing, moves, gives, is_offset, phis_among, with_phis, with_result}
use Rattle.ms_meaning.specs.Traces.{IsOn, inst_of}
use Rattle.ms_meaning.proofs.Goes.{Goes, ran, left, goes, before, one_state}
use Rattle.ms_sound.specs.Bytes.{BeginsOnce}
use Rattle.ms_sound.proofs.Walks.{reached}
use Rattle.ms_sound.proofs.Chains.{Ends, ends_root}
use Rattle.ms_sound.proofs.Given.{MadeFrom, deed_from, operand_value, IsPhiGiven, phis_there, result_there}
use Rattle.ms_sound.proofs.Operands.{IsToldVal, value_in, operand_told}
use Rattle.ms_sound.proofs.Always.{holds}
use Rattle.ms_sound.proofs.Orders.{AllPass, pass_both, never_both, used_behind}

-- The parts of a getelementptr.

record Parts (inst : Inst) (st : Step) : Type 0 where
  base : Val
  offset : ℤ
  head : List ℕ
  index : List ℕ
  tail : List ℕ
  is : inst ≡ Gep base offset head index tail
  step : step_by offset (pointer_of base) ≡ Some st

parts_of : (inst : Inst) (st : Step) → step_in inst ≡ Some st → Parts inst st
parts_of (Gep base offset head index tail) st e = record { base = base; offset = offset; head = head; index = index; tail = tail; is = refl; step = e }
parts_of (Alloca size head tail) st e = cc
parts_of (StepInst base offset terms head index tail) st e = cc
parts_of (Load ty ptr tail) st e = cc
parts_of (Store ty val ptr tail) st e = cc
parts_of (Copy to from len head tail) st e = cc
parts_of (Call callee ret args effects head tail) st e = cc
parts_of (Bin op flags ty a b tail) st e = cc
parts_of (Cmp pred flags ty a b tail) st e = cc
parts_of (Select c ty a b tail) st e = cc
parts_of (Cast op flags from a to tail) st e = cc
parts_of (Phi ty entries tail) st e = cc

-- the local that it steps from
step_local : (base : Val) (offset : ℤ) (st : Step) (p : LocalNo) → step_by offset (pointer_of base) ≡ Some st → st.base ≡ Local p → (base ≡ LocalVal p) × (offset ≡ st.bytes)
step_local (Num ty n) offset st p e h = cc
step_local (LocalVal l) offset st p e h =
    let same : record { base = Local l; bytes = offset } ≡ st = cc in
    let one : Local l ≡ Local p = ap (λ (s : Step). s.base) same ∙ h in
    ((let is : l ≡ p = cc in ap LocalVal is), ap (λ (s : Step). s.bytes) same)
step_local (GlobalVal g) offset st p e h =
    let same : record { base = Global g; bytes = offset } ≡ st = cc in
    let one : Global g ≡ Local p = ap (λ (s : Step). s.base) same ∙ h in cc

moved_gives : (t : State) (v : Option Value) (by : ℤ) (d : Deed) → moves t v by ≡ Does d → (w : Value) × (d.value ≡ Some w)
moved_gives t None by d e = cc
moved_gives t (Some (Number ty n)) by d e = cc
moved_gives t (Some (Pointer o at)) by d e =
    ⊎_elim
    (λ (h : (is_offset (at +ℤ by) ≡ true) × (gives t (Pointer o (at +ℤ by)) ≡ Does d)).
    let value : Doing → Option Value = λ x. value_of_doing x in
    (Pointer o (at +ℤ by), sym (ap value h.1)))
    (λ (h : (is_offset (at +ℤ by) ≡ false) × (Fails ≡ Does d)). let x = h.1 in cc)
    (pick (is_offset (at +ℤ by)) (gives t (Pointer o (at +ℤ by))) Fails (Does d) e) where
      value_of_doing : Doing → Option Value
      value_of_doing (Does d) = d.value
      value_of_doing x = None

module _ (inst : Inst) (st : Step) (p : LocalNo) (step : step_in inst ≡ Some st) (base : st.base ≡ Local p) where
  g : Parts inst st
  g = parts_of inst st step

  one : (g.base ≡ LocalVal p) × (g.offset ≡ st.bytes)
  one = step_local g.base g.offset st p g.step base

  gep_uses : Contains (map value_in (operands_of inst)) (LocalVal p)
  gep_uses = subst (λ (i : Inst). Contains (map value_in (operands_of i)) (LocalVal p)) (sym g.is) (zero, omega arith, one.0)

  gep_from : (t : State) (o : ℕ) (at : ℤ) → MadeFrom t inst o at → t.locals p.0 ≡ Some (Pointer o (at -ℤ st.bytes))
  gep_from t o at made =
      let m : MadeFrom t (Gep g.base g.offset g.head g.index g.tail) o at = subst (λ i. MadeFrom t i o at) g.is made in
      let value = operand_value Ptr (value_of t.locals g.base) (Pointer o m.0) m.1 in
      let bytes : g.offset ≡ st.bytes = one.1 in
      let at_is : at ≡ m.0 +ℤ g.offset = m.2 in
      let same : m.0 ≡ at -ℤ st.bytes = omega (arith, ints) in
      sym (ap (value_of t.locals) one.0) ∙ value.0 ∙ ap (λ z. Some (Pointer o z)) same

gep_no_phi : (inst : Inst) (st : Step) → step_in inst ≡ Some st → is_phi inst ≡ false
gep_no_phi inst st step = let g = parts_of inst st step in ap is_phi g.is

gep_gives : (t : State) (inst : Inst) (st : Step) (d : Deed) → step_in inst ≡ Some st → doing t inst ≡ Does d → (w : Value) × (d.value ≡ Some w)
gep_gives t inst st d step does =
    let g = parts_of inst st step in
    moved_gives t (operand_of t.locals Ptr g.base) g.offset d (sym (ap (doing t) g.is) ∙ does)

-- Pointers that follow the ones that they are made of.

-- where every path passes the getelementptr, what it made is as far from its base as it says
abbrev pub IsFresh : FuncState → State → Type 0
IsFresh f s = (l p : LocalNo) (b k : ℕ) (x : Placed) (st : Step) → IsGiver f.blocks l b k x → step_in x.inst ≡ Some st → st.base ≡ Local p → AllPass f b k s.block s.place →
    (o : ℕ) (at : ℤ) → s.locals l.0 ≡ Some (Pointer o at) → s.locals p.0 ≡ Some (Pointer o (at -ℤ st.bytes))

-- an instruction among the first phis of a block is one
pub phi_among : (xs : List Placed) (k : ℕ) (x : Placed) → slice_get xs k ≡ Some x → k < phis_among xs → is_phi x.inst ≡ true
phi_among [] k x e less = cc
phi_among (y ∷ xs) k x e less =
    ⊎_elim
    (λ (t : (is_phi y.inst ≡ true) × (suc (phis_among xs) ≡ phis_among (y ∷ xs))). at t.0 k e (let n = t.1 in omega arith) (λ j f l. phi_among xs j x f l))
    (λ (n : (is_phi y.inst ≡ false) × (0 ≡ phis_among (y ∷ xs))). let none = n.1 in absurd (omega arith))
    (pick (is_phi y.inst) (suc (phis_among xs)) 0 (phis_among (y ∷ xs)) refl)
  where
    at : is_phi y.inst ≡ true → (j : ℕ) → slice_get (y ∷ xs) j ≡ Some x → j < suc (phis_among xs) → ((i : ℕ) → slice_get xs i ≡ Some x → i < phis_among xs → is_phi x.inst ≡ true) → is_phi x.inst ≡ true
    at t zero e less rest = let one : y ≡ x = cc in ap (λ (z : Placed). is_phi z.inst) (sym one) ∙ t
    at t (suc j) e less rest = rest j e (omega arith)

behind_none : (xs : List Placed) (j k : ℕ) (x : Placed) → slice_get xs j ≡ Some x → slice_get xs k ≡ None → j < k
behind_none [] j k x e n = cc
behind_none (y ∷ xs) j zero x e n = cc
behind_none (y ∷ xs) zero (suc k) x e n = omega arith
behind_none (y ∷ xs) (suc j) (suc k) x e n = let r = behind_none xs j k x e n in omega arith

-- a place before the next one is the one itself, or before it
behind_one : (f : FuncState) (b k c m n : ℕ) → n ≡ m + 1 → AllPass f b k c n → ((b ≡ c) × (k ≡ m)) ⊎ AllPass f b k c m
behind_one f b k c m n is pass =
    ⊎_elim
    (λ (e : (b ≡ c) × (k ≡ m)). inl e)
    (λ (ne : (b ≡ c) × (k ≡ m) → ⊥).
    inr (λ q path.
    ⊎_elim
    (λ (h : (b ≡ c) × (k < n)).
    ⊎_elim
    (λ (l : k < m). inl (h.0, l))
    (λ (ge : m ≤ k). absurd (ne (h.0, (let lt = h.1 in omega arith))))
    (cases_lt k m))
    (λ (h : Contains q b). inr h)
    (pass q path)))
    (⊎_elim
    (λ (e : b ≡ c).
    ⊎_elim
    (λ (d : k ≡ m). inl (e, d))
    (λ (n : k ≡ m → ⊥). inr (λ h. n h.1))
    (cases_eq k m))
    (λ (n : b ≡ c → ⊥). inr (λ h. n h.0))
    (cases_eq b c))

own_result : (l : LocalNo) (v : Value) (locals : ℕ → Option Value) → with_result (Some l) (Some v) locals l.0 ≡ Some v
own_result l v locals = ap (λ (c : Bool). cond c (Some v) (locals l.0)) (eq-eqb l.0 l.0 refl)

module _ (f : FuncState) (numbered : IsNumbered f) (sound : IsSoundFunc f) where
  -- two givers of a local are one
  pub one_given : (l : LocalNo) (b k c j : ℕ) (x y : Placed) → IsGiver f.blocks l b k x → IsGiver f.blocks l c j y → (b ≡ c) × (k ≡ j) × (x ≡ y)
  one_given l b k c j x y g h =
      let one = numbered.one_giver l b k c j x y g h in
      let two : Some x ≡ Some y = sym g.found ∙ ap (λ d. slice_get (insts_at f.blocks d) k) one.0 ∙ ap (slice_get (insts_at f.blocks c)) one.1 ∙ h.found in
      (one.0, one.1, (let is : x ≡ y = cc in is))

  -- the base of a getelementptr is made before it on every path
  base_first : (l p : LocalNo) (b k : ℕ) (x : Placed) (st : Step) → IsGiver f.blocks l b k x → step_in x.inst ≡ Some st → st.base ≡ Local p →
      (c j : ℕ) (y : Placed) → IsGiver f.blocks p c j y → AllPass f c j b k
  base_first l p b k x st giver step base c j y g = used_behind f numbered sound b k x giver.found (gep_no_phi x.inst st step) p (gep_uses x.inst st p step base) c j y g

  never_self : (b k : ℕ) → AllPass f b k b k → IsReached (graph_of f.blocks) b → ⊥
  never_self b k h r = never_both f b k b k h h r

  module _ (input : Input) (n : ℕ) (t s : State) (on : IsOn f input n t) (on_s : IsOn f input (suc n) s) (was : IsFresh f t) where
    module _ (l p : LocalNo) (b k : ℕ) (x : Placed) (st : Step) (giver : IsGiver f.blocks l b k x) (step : step_in x.inst ≡ Some st) (base : st.base ≡ Local p) where
      r : IsReached (graph_of f.blocks) t.block
      r = reached f input n t on

      module _ (y : Placed) (d : Deed) (found : inst_of f t ≡ Some y) (does : doing t y.inst ≡ Does d) (locals : (v : LocalNo) → s.locals v.0 ≡ with_result y.result d.value t.locals v.0) (o : ℕ) (at : ℤ) (value : s.locals l.0 ≡ Some (Pointer o at)) where
        now : b ≡ t.block → k ≡ t.place → s.locals p.0 ≡ Some (Pointer o (at -ℤ st.bytes))
        now e m =
            let two : Some x ≡ Some y = sym giver.found ∙ ap (λ c. slice_get (insts_at f.blocks c) k) e ∙ ap (slice_get (insts_at f.blocks t.block)) m ∙ found in
            let is : x ≡ y = cc in
            let result : y.result ≡ Some l = ap (λ (z : Placed). z.result) (sym is) ∙ giver.gives in
            let step_y : step_in y.inst ≡ Some st = ap (λ (z : Placed). step_in z.inst) (sym is) ∙ step in
            let gave = gep_gives t y.inst st d step_y does in
            let given : s.locals l.0 ≡ Some gave.0 =
            locals l ∙ ap (λ (r : Option LocalNo). with_result r d.value t.locals l.0) result ∙ ap (λ (v : Option Value). with_result (Some l) v t.locals l.0) gave.1 ∙ own_result l gave.0 t.locals in
            let from = gep_from y.inst st p step_y base t o at (deed_from t y.inst d o at does (gave.1 ∙ sym given ∙ value)) in
            ⊎_elim
            (λ (same : with_result y.result d.value t.locals p.0 ≡ t.locals p.0). locals p ∙ same ∙ from)
            (λ (h : (y.result ≡ Some p) × (with_result y.result d.value t.locals p.0 ≡ d.value)).
            let first = base_first l p b k x st giver step base t.block t.place y (record { found = found; gives = h.0 }) in
            let self : AllPass f t.block t.place t.block t.place = subst (λ j. AllPass f t.block t.place t.block j) m (subst (λ c. AllPass f t.block t.place c k) e first) in
            absurd (never_self t.block t.place self r))
            (result_there y.result d.value t.locals p)

        earlier : AllPass f b k t.block t.place → s.locals p.0 ≡ Some (Pointer o (at -ℤ st.bytes))
        earlier there =
            ⊎_elim
            (λ (same_l : with_result y.result d.value t.locals l.0 ≡ t.locals l.0).
            ⊎_elim
            (λ (same_p : with_result y.result d.value t.locals p.0 ≡ t.locals p.0). locals p ∙ same_p ∙ was l p b k x st giver step base there o at (sym (locals l ∙ same_l) ∙ value))
            (λ (h : (y.result ≡ Some p) × (with_result y.result d.value t.locals p.0 ≡ d.value)).
            absurd (never_both f b k t.block t.place there (base_first l p b k x st giver step base t.block t.place y (record { found = found; gives = h.0 })) r))
            (result_there y.result d.value t.locals p))
            (λ (h : (y.result ≡ Some l) × (with_result y.result d.value t.locals l.0 ≡ d.value)).
            let one = one_given l b k t.block t.place x y giver (record { found = found; gives = h.0 }) in
            let self : AllPass f t.block t.place t.block t.place = subst (λ c. AllPass f c t.place t.block t.place) one.0 (subst (λ j. AllPass f b j t.block t.place) one.1 there) in
            absurd (never_self t.block t.place self r))
            (result_there y.result d.value t.locals l)

      module _ (c : ℕ) (locals : ℕ → Option Value) (end : inst_of f t ≡ None) (edge : HasEdge (graph_of f.blocks) t.block c) (phis : with_phis t.locals t.block (insts_at f.blocks c) ≡ Some locals) (same : (v : LocalNo) → s.locals v.0 ≡ locals v.0)
          (rc : IsReached (graph_of f.blocks) c) (pass : AllPass f b k c (phis_among (insts_at f.blocks c))) (o : ℕ) (at : ℤ) (value : s.locals l.0 ≡ Some (Pointer o at)) where
        -- a getelementptr is no phi
        not_first : b ≡ c → k < phis_among (insts_at f.blocks c) → ⊥
        not_first e less =
            both_ways (is_phi x.inst) (gep_no_phi x.inst st step)
            (phi_among (insts_at f.blocks c) k x (sym (ap (λ d. slice_get (insts_at f.blocks d) k) e) ∙ giver.found) less)

        there_before : AllPass f b k t.block t.place
        there_before q path =
            ⊎_elim
            (λ (h : (b ≡ c) × (k < phis_among (insts_at f.blocks c))). absurd (not_first h.0 h.1))
            (λ (h : Contains (t.block ∷ q) b).
            ⊎_elim
            (λ (e : t.block ≡ b). inl (sym e, behind_none (insts_at f.blocks t.block) k t.place x (ap (λ d. slice_get (insts_at f.blocks d) k) e ∙ giver.found) end))
            (λ (i : Contains q b). inr i)
            (in_cons t.block q b h))
            (pass (t.block ∷ q) (edge, path))

        entering : s.locals p.0 ≡ Some (Pointer o (at -ℤ st.bytes))
        entering =
            ⊎_elim
            (λ (same_l : locals l.0 ≡ t.locals l.0).
            ⊎_elim
            (λ (same_p : locals p.0 ≡ t.locals p.0). same p ∙ same_p ∙ was l p b k x st giver step base there_before o at (sym (same l ∙ same_l) ∙ value))
            (λ (g : IsPhiGiven t t.block (insts_at f.blocks c) locals p).
            let first = base_first l p b k x st giver step base c g.0 g.1 (record { found = g.2; gives = g.4 }) in
            let behind : AllPass f b k c g.0 = λ q path.
            ⊎_elim
            (λ (h : (b ≡ c) × (k < phis_among (insts_at f.blocks c))). absurd (not_first h.0 h.1))
            (λ (h : Contains q b). inr h)
            (pass q path) in
            absurd (never_both f b k c g.0 behind first rc))
            (phis_there t t.block (insts_at f.blocks c) locals p phis))
            (λ (g : IsPhiGiven t t.block (insts_at f.blocks c) locals l).
            let one = one_given l b k c g.0 x g.1 giver (record { found = g.2; gives = g.4 }) in
            absurd (both_ways (is_phi x.inst) (gep_no_phi x.inst st step) (ap (λ (z : Placed). is_phi z.inst) one.2 ∙ g.3)))
            (phis_there t t.block (insts_at f.blocks c) locals l phis)

    fresh_step : Goes f t s → IsFresh f s
    fresh_step (ran y d found does same) l p b k x st giver step base pass o at value =
        let block : s.block ≡ t.block = ap (λ (u : State). u.block) same in
        let place : s.place ≡ t.place + 1 = ap (λ (u : State). u.place) same in
        let locals : (v : LocalNo) → s.locals v.0 ≡ with_result y.result d.value t.locals v.0 = λ v. ap (λ (u : State). u.locals v.0) same in
        ⊎_elim
        (λ (here : (b ≡ t.block) × (k ≡ t.place)). now l p b k x st giver step base y d found does locals o at value here.0 here.1)
        (λ (there : AllPass f b k t.block t.place). earlier l p b k x st giver step base y d found does locals o at value there)
        (behind_one f b k t.block t.place s.place place (subst (λ c. AllPass f b k c s.place) block pass))
    fresh_step (left c locals end edge phis same) l p b k x st giver step base pass o at value =
        let block : s.block ≡ c = ap (λ (u : State). u.block) same in
        let place : s.place ≡ phis_among (insts_at f.blocks c) = ap (λ (u : State). u.place) same in
        entering l p b k x st giver step base c locals end edge phis (λ v. ap (λ (u : State). u.locals v.0) same)
        (subst (λ d. IsReached (graph_of f.blocks) d) block (reached f input (suc n) s on_s))
        (subst (λ m. AllPass f b k c m) place (subst (λ d. AllPass f b k d s.place) block pass)) o at value

  fresh_begun : (input : Input) → IsFresh f (begun input)
  fresh_begun input l p b k x st giver step base pass o at value =
      ⊎_elim
      (λ (h : (b ≡ 0) × (k < 0)). absurd (let lt = h.1 in omega arith))
      (λ (h : Contains [] b). absurd (in_none b h))
      (pass [] refl)

  pub fresh : (input : Input) (n : ℕ) (s : State) → IsOn f input n s → IsFresh f s
  fresh input zero s on = subst (λ u. IsFresh f u) (one_state f input zero (begun input) s refl on) (fresh_begun input)
  fresh input (suc n) s on =
      let u = before f input n s on in
      fresh_step input n u.0 s u.1 on (fresh input n u.0 u.1) (goes f u.0 s u.2)

  -- Chains of them.

  abbrev IsBehind : State → LocalNo → Type 0
  IsBehind s l = (b k : ℕ) (x : Placed) → IsGiver f.blocks l b k x → AllPass f b k s.block s.place

  -- no getelementptr leads from a global to a local
  no_global : (m : ℕ) (g : GlobalNo) (r : LocalNo) (sum : ℤ) → Ends f m (Global g) (Local r) sum → ⊥
  no_global zero g r sum h = let x : Global g ≡ Local r = h.0 in cc
  no_global (suc m) g r sum h = let x : None ≡ Some h.0 = h.1 in cc

  record Steps (l : LocalNo) (st : Step) : Type 0 where
    block : ℕ
    place : ℕ
    inst : Placed
    giver : IsGiver f.blocks l block place inst
    step : step_in inst.inst ≡ Some st

  steps : (l : LocalNo) (st : Step) → step_of f (Local l) ≡ Some st → Steps l st
  steps l st e =
      ⊎_elim
      (λ (none : maker_of f l ≡ None). let x : None ≡ Some st = sym (ap step_by_maker none) ∙ e in cc)
      (λ (some : (m : Maker) × (maker_of f l ≡ Some m)).
      let there = maker_in_blocks 0 f.blocks l some.0 some.1 in
      record {
        block = there.0;
        place = there.1;
        inst = there.2;
        giver = record { found = there.4; gives = giver_from l there.2 there.5 };
        step = ap step_in (sym there.6) ∙ sym (ap step_by_maker some.1) ∙ e;
      })
      (cases_Option (maker_of f l))

  sum_of : (at a b c : ℤ) → c ≡ a +ℤ b → ((at -ℤ a) -ℤ b) ≡ at -ℤ c
  sum_of at a b c e = omega (arith, ints)

  follows : (s : State) → IsFresh f s → (m : ℕ) (l r : LocalNo) (o : ℕ) (at sum : ℤ) → IsBehind s l → s.locals l.0 ≡ Some (Pointer o at) → Ends f m (Local l) (Local r) sum → s.locals r.0 ≡ Some (Pointer o (at -ℤ sum))
  follows s now zero l r o at sum behind value h =
      let is : l ≡ r = (let e : Local l ≡ Local r = h.0 in cc) in
      let z : at ≡ at -ℤ sum = (let e = h.1 in omega (arith, ints)) in
      sym (ap (λ (x : LocalNo). s.locals x.0) is) ∙ value ∙ ap (λ y. Some (Pointer o y)) z
  follows s now (suc m) l r o at sum behind value h = by_base h.0.base refl (λ p a rest b e k. follows s now m p r o a rest b e k) where
    g : Steps l h.0
    g = steps l h.0 h.1

    by_base : (q : Root) → h.0.base ≡ q →
        ((p : LocalNo) (a rest : ℤ) → IsBehind s p → s.locals p.0 ≡ Some (Pointer o a) → Ends f m (Local p) (Local r) rest → s.locals r.0 ≡ Some (Pointer o (a -ℤ rest))) →
        s.locals r.0 ≡ Some (Pointer o (at -ℤ sum))
    by_base (Global c) e rest = absurd (no_global m c r h.2 (subst (λ q. Ends f m q (Local r) h.2) e h.3))
    by_base (Local p) e rest =
        let value_p = now l p g.block g.place g.inst h.0 g.giver g.step e (behind g.block g.place g.inst g.giver) o at value in
        let behind_p : IsBehind s p = λ b k x giver.
        pass_both f b k g.block g.place s.block s.place (base_first l p g.block g.place g.inst h.0 g.giver g.step e b k x giver) (behind g.block g.place g.inst g.giver) in
        rest p (at -ℤ h.0.bytes) h.2 behind_p value_p (subst (λ q. Ends f m q (Local r) h.2) e h.3) ∙ ap (λ y. Some (Pointer o y)) (sum_of at h.0.bytes h.2 sum h.4)

  -- where an instruction uses a pointer, its root points so many bytes before it, as long as the instruction is no phi
  pub root_followed : BeginsOnce f → (input : Input) → IsInput f input → (n : ℕ) (s : State) → IsOn f input n s → (x : Placed) → inst_of f s ≡ Some x → is_phi x.inst ≡ false →
      (v : Val) → Contains (map value_in (operands_of x.inst)) v → (p : Root) (r : LocalNo) (from : ℤ) → pointer_of v ≡ Some p → HasRoot f p (Local r) from →
      (ty : Ty) (o : ℕ) (at : ℤ) → operand_of s.locals ty v ≡ Some (Pointer o at) → s.locals r.0 ≡ Some (Pointer o (at -ℤ from))
  root_followed once input fits n s on x found no_phi v used p r from is has ty o at value = by_val v refl where
    told : IsToldVal f s v o at
    told = operand_told f input fits n s (holds f input fits numbered once n s on) s.block s.place x ty v o at (found, used) value

    same_p : told.0 ≡ p
    same_p = let two : Some told.0 ≡ Some p = sym told.1 ∙ is in cc

    one : (told.2.root ≡ Local r) × (told.2.offset ≡ from)
    one = one_root f p told.2.root (Local r) told.2.offset from (subst (λ c. HasRoot f c told.2.root told.2.offset) same_p (ends_root f told.2.steps told.0 told.2.root told.2.offset told.2.ends)) has

    ends : Ends f told.2.steps p (Local r) from
    ends = subst (λ z. Ends f told.2.steps p (Local r) z) one.1 (subst (λ c. Ends f told.2.steps p c told.2.offset) one.0 (subst (λ c. Ends f told.2.steps c told.2.root told.2.offset) same_p told.2.ends))

    by_val : (w : Val) → v ≡ w → s.locals r.0 ≡ Some (Pointer o (at -ℤ from))
    by_val (Num own m) e = let x : None ≡ Some p = sym (ap pointer_of e) ∙ is in cc
    by_val (GlobalVal g) e =
        let two : Some (Global g) ≡ Some p = sym (ap pointer_of e) ∙ is in
        let same : Global g ≡ p = cc in
        absurd (no_global told.2.steps g r from (subst (λ c. Ends f told.2.steps c (Local r) from) (sym same) ends))
    by_val (LocalVal l) e =
        let two : Some (Local l) ≡ Some p = sym (ap pointer_of e) ∙ is in
        let same : Local l ≡ p = cc in
        let at_l : s.locals l.0 ≡ Some (Pointer o at) = sym (ap (value_of s.locals) e) ∙ (operand_value ty (value_of s.locals v) (Pointer o at) value).0 in
        let behind : IsBehind s l = λ b k y giver. used_behind f numbered sound s.block s.place x found no_phi l (subst (λ w. Contains (map value_in (operands_of x.inst)) w) e used) b k y giver in
        follows s (fresh input n s on) told.2.steps l r o at from behind at_l (subst (λ c. Ends f told.2.steps c (Local r) from) (sym same) ends)
