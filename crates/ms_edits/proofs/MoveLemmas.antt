-- An instruction is moved: where the instructions stand, what gives locals, and what paths tell of uses.
use Rattle.std.proofs.Common.{◌≡◌, ◌∙◌, ◌+◌, ◌<◌, ◌≤◌, ◌⊎◌, ℕ, zero, suc, Bool, false, List, [], ◌∷◌, length, get_or, set, map, Option, Some, refl, sym, ap, subst, inl, inr, arith}
use Rattle.std.specs.Prelude.{IsTrue, ◌↔◌, Contains, slice_get}
use Rattle.std.proofs.lemmas.Bool.{cases_lt}
use Rattle.std.proofs.lemmas.Option.{same_Some, slice_get_within}
use Rattle.ms_paths.specs.Flow.{Block as Run, IsPath}
use Rattle.ms_ir.specs.declared.names.BlockNo.{BlockNo}
use Rattle.ms_ir.specs.declared.names.LocalNo.{LocalNo}
use Rattle.ms_ir.specs.declared.inst.Edit.TheVariants.{Move}
use Rattle.ms_ir.specs.declared.inst.Val.{Val}
use Rattle.ms_ir.specs.declared.inst.Val.TheVariants.{Local}
use Rattle.ms_ir.specs.declared.inst.Term.{Term}
use Rattle.ms_ir.specs.Func.{Placed, Block, FuncState, IsAt, insts_at, cut_at, with_insts, no_block}
use Rattle.ms_ir.specs.Graph.{graph_of, successors}
use Rattle.ms_ir.specs.Locals.{IsNumbered, IsUngiven}
use Rattle.ms_ir.specs.Types.{is_phi}
use Rattle.ms_ir.specs.Uses.{Operand, Use, operands_of, term_operands, used_at, uses_at, term_uses_at}
use Rattle.ms_ir.specs.Sound.{IsUsedBefore}
use Rattle.ms_ir.specs.SoundFunc.{IsSoundFunc}
use Rattle.ms_ir.specs.Edits.{HasBadKind, HasBadName, HasBadPlace, IsUseIn, put_again, term_at}
use Rattle.ms_flow.specs.Table.{edges_of}
use Rattle.ms_edited.proofs.Places.{moved, put_there, put_term, put_size, cut_term, cut_size, moved_up, moved_down}
use Rattle.ms_edited.proofs.Shape.{path_within, old_block}
use Rattle.ms_edited.proofs.OnPaths.{met_stands, stands_met}
use Rattle.ms_edited.proofs.Put.{IsFresh, from_put, to_put, put_numbered}
use Rattle.ms_edited.proofs.Cut.{with_cut, from_cut, to_cut, cut_numbered, number_out, local_out}
use Rattle.ms_edited.proofs.Faults.{there_is, movable_at, place_in}
use Rattle.ms_edits.specs.declared.spots.Spot.{Spot}
use Rattle.ms_edits.specs.declared.spots.After.{After}
use Rattle.ms_edits.specs.declared.spots.After.TheVariants.{Same, Moved}
use Rattle.ms_edits.specs.Told.{HasIn, IsLate, IsLateAt, IsMissed}
use Rattle.ms_edits.specs.Moved.{CanBeAfter, IsMove, IsSomeMissed, IsSpotAfter, func_after}
use Rattle.ms_edits.proofs.PlaceLemmas.{in_func, moved_is, moved_told}
use Rattle.ms_edits.proofs.InsertLemmas.{movable_plain}
use Rattle.ms_edits.proofs.OrderLemmas.{AreKept, IsAlike, SamePaths, inst_alike, kept_before, late_told, member_of, not_late, of_member, plain_uses, term_alike, was_before}

-- ---- uses before definitions, in a function each number of which stands for one thing

used_missed : (f : FuncState) (u : Use) → (before : IsUsedBefore f u) → IsMissed (graph_of f.blocks) before.1.block before.1.place u.block u.place
used_missed f u (path, h) = (
  path,
  h.path_is,
  λ passed. h.not_met (stands_met f.blocks h.giver.number u.block u.place path (elim passed [
    | inl own ↦ inl (h.place, h.giver, subst (λ a. slice_get (insts_at f.blocks a) h.place ≡ Some h.giver) own.0 h.gives.found, refl, own.1)
    | inr on ↦ inr (h.block, on, h.place, h.giver, h.gives.found, refl)
  ])),
)

pub used_late : (f : FuncState) (u : Use) → IsUsedBefore f u → IsLate f u.val u.block u.place
used_late f u before = let h = before.1 in (h.local, h.block, h.place, h.giver, h.is_local, h.gives, used_missed f u before)

pub late_used : (f : FuncState) (u : Use) → IsNumbered f → IsLate f u.val u.block u.place → IsUsedBefore f u
late_used f u n (l, c, j, x, is, gives, (path, is_path, not)) = (
  path,
  record {
    local = l;
    is_local = is;
    block = c;
    place = j;
    giver = x;
    gives = gives;
    path_is = is_path;
    not_met = λ met. not (elim (met_stands f.blocks x.number u.block u.place path met) [
      | inl own ↦
          let one = n.one_place u.block own.0 c j own.1 x own.2 gives.found own.3 in
          inl (sym one.0, (let lt = own.4 in let at = one.1 in omega (arith, lt, at)))
      | inr on ↦
          let one = n.one_place on.0 on.2 c j on.3 x on.4 gives.found on.5 in
          inr (subst (λ a. Contains path a) one.0 on.1)
    ]);
  },
)

-- ---- edges

edges_stay : (blocks : List Block) (b : ℕ) (ys : List Placed) → edges_of (set blocks b (with_insts (get_or blocks b no_block) ys)) ≡ edges_of blocks
edges_stay [] b ys = refl
edges_stay (x ∷ blocks) zero ys = refl
edges_stay (x ∷ blocks) (suc b) ys = ap (λ (g : List Run). record { events = []; next = successors x.term } ∷ g) (edges_stay blocks b ys)

module _ (f : FuncState) (n : IsNumbered f) (from to : Spot) (move : IsMove f from to) where
  abbrev b : ℕ
  b = from.block

  abbrev p : ℕ
  p = from.place

  abbrev d : ℕ
  d = to.block

  abbrev q : ℕ
  q = to.place

  -- the blocks without the instruction
  abbrev left : List Block
  left = cut_at f.blocks b p

  taken : (m : Placed) × (slice_get (insts_at f.blocks b) p ≡ Some m)
  taken = there_is (insts_at f.blocks b) p move.there

  abbrev m : Placed
  m = taken.0

  abbrev again : Option Placed → FuncState
  again o = record f { blocks = put_again left d q o }

  abbrev g : FuncState
  g = again (Some m)

  to_there : d < length left
  to_there = (let lt = move.to_in in let same = cut_size f.blocks b p in omega (arith, lt, same))

  within : q ≤ length (insts_at left d)
  within = elim (cases_lt (length (insts_at left d)) q) [
    | inl past ↦ absurd (move.room (inr past))
    | inr le ↦ le
  ]

  fresh : IsFresh (with_cut f b p) m f.made f.locals
  fresh = record {
    number = number_out f n b p m taken.1;
    below = n.below_made b p m taken.1;
    local = local_out f n b p m taken.1;
    range = λ l e. n.result_range l b p m (record { found = taken.1; gives = e });
    gives = n.gives b p m taken.1;
    more_made = omega arith;
    few_made = n.few_made;
    more_locals = omega arith;
    few_locals = n.few_locals;
  }

  g_numbered : IsNumbered g
  g_numbered = put_numbered (with_cut f b p) d q m f.made f.locals f.spare to_there move.room (cut_numbered f b p n) fresh

  g_edges : edges_of g.blocks ≡ edges_of f.blocks
  g_edges = edges_stay left d _ ∙ edges_stay f.blocks b _

  same_term : (c : ℕ) → term_at g.blocks c ≡ term_at f.blocks c
  same_term c = put_term left d q m c ∙ cut_term f.blocks b p c

  same_size : length g.blocks ≡ length f.blocks
  same_size = put_size left d q m ∙ cut_size f.blocks b p

  path_was : (c : ℕ) (w : List ℕ) → IsPath (graph_of g.blocks) c w → IsPath (graph_of f.blocks) c w
  path_was = path_within f.blocks g.blocks same_size (λ c e h. subst (λ (t : Term). Contains (successors t) e) (same_term c) h)

  own_stands : slice_get (insts_at g.blocks d) q ≡ Some m
  own_stands = put_there left d q m to_there within

  -- what stands in a place of g is the instruction, or stands in what is left
  abbrev WasPut : ℕ → ℕ → Placed → Type 0
  WasPut c k x = ((c ≡ d) × (k ≡ q) × (x ≡ m)) ⊎ ((i : ℕ) × (moved d q c i ≡ k) × (slice_get (insts_at left c) i ≡ Some x))

  was : (c k : ℕ) (x : Placed) → slice_get (insts_at g.blocks c) k ≡ Some x → WasPut c k x
  was = from_put left d q m to_there move.room

  other_stands : (c k : ℕ) (x : Placed) → slice_get (insts_at f.blocks c) k ≡ Some x → (c ≡ b → k ≡ p → ⊥)
      → (i : ℕ) × (moved b p c i ≡ k) × (slice_get (insts_at g.blocks c) (moved d q c i) ≡ Some x)
  other_stands c k x found not = elim (to_cut f.blocks b p c k x found) [
    | inl here ↦ absurd (not here.0 here.1)
    | inr other ↦ (other.0, other.1, to_put left d q m to_there move.room c other.0 x other.2)
  ]

  -- ---- where an instruction stands
  g_own : (x : Placed) (c k : ℕ) → c ≡ b → k ≡ p → slice_get (insts_at f.blocks c) k ≡ Some x → slice_get (insts_at g.blocks d) q ≡ Some x
  g_own x c k e is found =
      let at : slice_get (insts_at f.blocks b) p ≡ Some x = subst (λ a. slice_get (insts_at f.blocks a) p ≡ Some x) e (subst (λ j. slice_get (insts_at f.blocks c) j ≡ Some x) is found) in
      own_stands ∙ sym taken.1 ∙ at

  g_other : (x : Placed) (c k i r : ℕ) → (c ≡ b → k ≡ p → ⊥) → (c ≡ b → p < k → i + 1 ≡ k) → (c ≡ b → k ≤ p → i ≡ k) → ((c ≡ b → ⊥) → i ≡ k)
      → (d ≡ c → q ≤ i → r ≡ i + 1) → (d ≡ c → i < q → r ≡ i) → ((d ≡ c → ⊥) → r ≡ i) → slice_get (insts_at f.blocks c) k ≡ Some x → slice_get (insts_at g.blocks c) r ≡ Some x
  g_other x c k i r not behind before other up low out found =
      let s = other_stands c k x found not in
      let is : s.0 ≡ i = elim (moved_told b p c s.0) [
        | inl a ↦ (let at = s.1 in let lt = a.1 in let stays = a.2 in let e = before a.0 (omega (arith, at, lt, stays)) in omega (arith, e, at, stays))
        | inr rest ↦ elim rest [
          | inl a ↦ (let at = s.1 in let le = a.1 in let up' = a.2 in let e = behind a.0 (omega (arith, at, le, up')) in omega (arith, e, at, up'))
          | inr a ↦ (let at = s.1 in let stays = a.1 in let e = other a.0 in omega (arith, e, at, stays))
        ]
      ] in
      let r_is : r ≡ moved d q c i = moved_is d q c i r up low out in
      subst (λ j. slice_get (insts_at g.blocks c) j ≡ Some x) (ap (moved d q c) is ∙ sym r_is) s.2

  g_ungiven : (l : LocalNo) → IsUngiven f.blocks l → IsUngiven g.blocks l
  g_ungiven l none c k x h = elim (was c k x h.found) [
    | inl own ↦ none b p m (record { found = taken.1; gives = ap (λ (z : Placed). z.result) (sym own.2) ∙ h.gives })
    | inr old ↦ none c (moved b p c old.0) x (record { found = from_cut f.blocks b p c old.0 x old.2; gives = h.gives })
  ]

  -- ---- the order of definitions and uses
  kept : (w : Placed) (a i : ℕ) → slice_get (insts_at left a) i ≡ Some w → (c k : ℕ) → AreKept f.blocks g.blocks w.number c (moved b p c k) (moved d q c k)
  kept w a i stands c k e j z found same =
      let s = other_stands e j z found
      (λ block place.
      let at : slice_get (insts_at f.blocks b) p ≡ Some z = subst (λ y. slice_get (insts_at f.blocks y) p ≡ Some z) block (subst (λ y. slice_get (insts_at f.blocks e) y ≡ Some z) place found) in
      let one : z ≡ m = same_Some z m (sym at ∙ taken.1) in
      number_out f n b p m taken.1 a i w stands (sym same ∙ ap (λ (y : Placed). y.number) one)) in (
        moved d q e s.0,
        s.2,
        λ block less.
            let was_less : moved b p c s.0 < moved b p c k = (let at : moved b p c s.0 ≡ j = ap (λ y. moved b p y s.0) (sym block) ∙ s.1 in omega (arith, at, less)) in
            subst (λ y. moved d q y s.0 < moved d q c k) (sym block) (moved_up d q c s.0 k (moved_down b p c s.0 k was_less)),
      )

  ends_kept : (w : Placed) (a i : ℕ) → slice_get (insts_at left a) i ≡ Some w → (c : ℕ) → AreKept f.blocks g.blocks w.number c (length (insts_at f.blocks c)) (length (insts_at g.blocks c))
  ends_kept w a i stands c e j z found same =
      let r = kept w a i stands c 0 e j z found same in
      (r.0, r.1, λ block less. subst (λ y. r.0 < length (insts_at g.blocks y)) block (slice_get_within (insts_at g.blocks e) r.0 z r.1))

  -- a use that is behind its definition stays so where neither is moved
  old_not : (c k j : ℕ) (operands : List Operand) (u v : Use) → IsAlike f.blocks g.blocks c k j operands u v → (before : IsUsedBefore g v)
      → (i : ℕ) → slice_get (insts_at left before.1.block) i ≡ Some before.1.giver → AreKept f.blocks g.blocks before.1.giver.number c k j → (IsUsedBefore f u → ⊥) → ⊥
  old_not c k j operands u v alike before i stands each behind =
      let h = before.1 in
      behind (was_before f g u v (path_was v.block) alike.block alike.val before
      (h.block, moved b p h.block i, record { found = from_cut f.blocks b p h.block i h.giver stands; gives = h.gives.gives })
      (kept_before f.blocks g.blocks h.giver.number c k j operands u v alike each))

  module _ (sound : IsSoundFunc f) (plain : is_phi m.inst ≡ false) where
    own_uses : uses_at g.blocks d q m.inst ≡ map (used_at d q) (operands_of m.inst)
    own_uses = plain_uses g.blocks d q m.inst plain

    -- the operands of the instruction at its new place, and the uses of its result
    abbrev IsEarly : Type 0
    IsEarly = HasIn (operands_of m.inst) (IsLateAt g d q) ⊎ ((l : LocalNo) × (m.result ≡ Some l) × IsSomeMissed g.blocks to l)

    abbrev IsBad : Type 0
    IsBad = (u : Use) × IsUseIn g.blocks u × IsUsedBefore g u

    early_bad : IsEarly → IsBad
    early_bad (inl (o, c, late)) = (
      used_at d q o,
      inl (d, q, m, own_stands, subst (λ us. Contains us (used_at d q o)) (sym own_uses) (member_of (used_at d q) (operands_of m.inst) o c)),
      late_used g (used_at d q o) g_numbered late,
    )
    early_bad (inr (l, gives, (u, used, (is, missed)))) = (u, used, late_used g u g_numbered (l, d, q, m, is, record { found = own_stands; gives = gives }, missed))

    -- what is not the use of the result is the instruction's own, or was behind its definition
    old_use : (u : Use) → IsUseIn g.blocks u → (before : IsUsedBefore g u) → (i : ℕ) → slice_get (insts_at left before.1.block) i ≡ Some before.1.giver → HasIn (operands_of m.inst) (IsLateAt g d q)
    old_use u (inl (c, k, x, found, among)) before i stands = elim (was c k x found) [
      | inl own ↦
          let here : Contains (uses_at g.blocks d q m.inst) u =
          subst (λ a. Contains (uses_at g.blocks a q m.inst) u) own.0
          (subst (λ j. Contains (uses_at g.blocks c j m.inst) u) own.1 (subst (λ (z : Placed). Contains (uses_at g.blocks c k z.inst) u) own.2 among)) in
          let r = of_member (used_at d q) (operands_of m.inst) u (subst (λ us. Contains us u) own_uses here) in
          (r.0, r.1, used_late g (used_at d q r.0) (subst (λ (w : Use). IsUsedBefore g w) (sym r.2) before))
      | inr old ↦
          let s = sound.insts c (moved b p c old.0) x (from_cut f.blocks b p c old.0 x old.2) in
          let alike = inst_alike f.blocks g.blocks c (moved b p c old.0) k x.inst u among in
          absurd (old_not c (moved b p c old.0) k (operands_of x.inst) alike.0 u alike.2 before i stands
          (subst (λ j. AreKept f.blocks g.blocks before.1.giver.number c (moved b p c old.0) j) old.1 (kept before.1.giver before.1.block i stands c old.0)) (s.uses alike.0 alike.1))
    ]
    old_use u (inr (c, x, found, among)) before i stands =
        let old = old_block f.blocks g.blocks same_size c x found (same_term c) in
        let s = sound.terms c old.0 old.1 in
        let alike = term_alike f.blocks g.blocks c old.0.term u (subst (λ (t : Term). Contains (term_uses_at g.blocks c t) u) (sym old.2) among) in
        absurd (old_not c (length (insts_at f.blocks c)) (length (insts_at g.blocks c)) (term_operands old.0.term) alike.0 u alike.2 before i stands
        (ends_kept before.1.giver before.1.block i stands c) (s.uses alike.0 alike.1))

    bad_early : IsBad → IsEarly
    bad_early (u, used, before) =
        let h = before.1 in
        elim (was h.block h.place h.giver h.gives.found) [
          | inl own ↦
              let missed = used_missed g u before in
              inr (
                h.local,
                ap (λ (z : Placed). z.result) (sym own.2) ∙ h.gives.gives,
                (u, used, (h.is_local, subst (λ a. IsMissed (graph_of g.blocks) a q u.block u.place) own.0 (subst (λ j. IsMissed (graph_of g.blocks) h.block j u.block u.place) own.1 missed))),
              )
          | inr old ↦ inl (old_use u used before old.0 old.2)
        ]

  -- ---- the same of the function behind the move
  abbrev now : FuncState
  now = func_after f (Moved from to)

  pub moved_numbered : IsNumbered now
  moved_numbered = subst (λ (o : Option Placed). IsNumbered (again o)) (sym taken.1) g_numbered

  pub moved_edges : edges_of now.blocks ≡ edges_of f.blocks
  moved_edges = subst (λ (o : Option Placed). edges_of (again o).blocks ≡ edges_of f.blocks) (sym taken.1) g_edges

  pub moved_ungiven : (l : LocalNo) → IsUngiven f.blocks l → IsUngiven now.blocks l
  moved_ungiven = subst (λ (o : Option Placed). (l : LocalNo) → IsUngiven f.blocks l → IsUngiven (again o).blocks l) (sym taken.1) g_ungiven

  pub moved_term : (c : ℕ) → term_at now.blocks c ≡ term_at f.blocks c
  moved_term = subst (λ (o : Option Placed). (c : ℕ) → term_at (again o).blocks c ≡ term_at f.blocks c) (sym taken.1) same_term

  pub moved_size : length now.blocks ≡ length f.blocks
  moved_size = subst (λ (o : Option Placed). length (again o).blocks ≡ length f.blocks) (sym taken.1) same_size

  pub moved_room : q < length (insts_at now.blocks d)
  moved_room = subst (λ (o : Option Placed). q < length (insts_at (again o).blocks d)) (sym taken.1) (slice_get_within (insts_at g.blocks d) q m own_stands)

  pub moved_own : (c k : ℕ) → c ≡ b → k ≡ p → (x : Placed) → slice_get (insts_at f.blocks c) k ≡ Some x → slice_get (insts_at now.blocks d) q ≡ Some x
  moved_own c k e is x found = subst (λ (o : Option Placed). slice_get (insts_at (again o).blocks d) q ≡ Some x) (sym taken.1) (g_own x c k e is found)

  pub moved_other : (c k i r : ℕ) → (c ≡ b → k ≡ p → ⊥) → (c ≡ b → p < k → i + 1 ≡ k) → (c ≡ b → k ≤ p → i ≡ k) → ((c ≡ b → ⊥) → i ≡ k)
      → (d ≡ c → q ≤ i → r ≡ i + 1) → (d ≡ c → i < q → r ≡ i) → ((d ≡ c → ⊥) → r ≡ i) → (x : Placed) → slice_get (insts_at f.blocks c) k ≡ Some x → slice_get (insts_at now.blocks c) r ≡ Some x
  moved_other c k i r not behind before other up low out x found =
      subst (λ (o : Option Placed). slice_get (insts_at (again o).blocks c) r ≡ Some x) (sym taken.1) (g_other x c k i r not behind before other up low out found)

  g_from : (c k : ℕ) (x : Placed) → slice_get (insts_at g.blocks c) k ≡ Some x → (a : ℕ) × (j : ℕ) × (slice_get (insts_at f.blocks a) j ≡ Some x)
  g_from c k x found = elim (was c k x found) [
    | inl own ↦ (b, p, taken.1 ∙ ap Some (sym own.2))
    | inr old ↦ (c, moved b p c old.0, from_cut f.blocks b p c old.0 x old.2)
  ]

  pub moved_from : (c k : ℕ) (x : Placed) → slice_get (insts_at now.blocks c) k ≡ Some x → (a : ℕ) × (j : ℕ) × (slice_get (insts_at f.blocks a) j ≡ Some x)
  moved_from = subst (λ (o : Option Placed). (c k : ℕ) (x : Placed) → slice_get (insts_at (again o).blocks c) k ≡ Some x → (a : ℕ) × (j : ℕ) × (slice_get (insts_at f.blocks a) j ≡ Some x)) (sym taken.1) g_from

  -- what is missed in the graph is missed in the function
  pub missed_now : SamePaths → (h : List Run) → h ≡ edges_of f.blocks → (c j a k : ℕ) → IsMissed h c j a k ↔ IsMissed (graph_of now.blocks) c j a k
  missed_now law h is c j a k =
      let same : h ≡ edges_of now.blocks = is ∙ sym moved_edges in (
        λ w. (w.0, (law now.blocks a w.0).0 (subst (λ (e : List Run). IsPath e a w.0) same w.1), w.2),
        λ w. (w.0, subst (λ (e : List Run). IsPath e a w.0) (sym same) ((law now.blocks a w.0).1 w.1), w.2),
      )

  abbrev EarlyAt : Option Placed → Placed → Type 0
  EarlyAt o y = HasIn (operands_of y.inst) (IsLateAt (again o) d q) ⊎ ((l : LocalNo) × (y.result ≡ Some l) × IsSomeMissed (again o).blocks to l)

  abbrev BadAt : Option Placed → Type 0
  BadAt o = (u : Use) × IsUseIn (again o).blocks u × IsUsedBefore (again o) u

  pub moved_early : IsSoundFunc f → (x : Placed) → slice_get (insts_at f.blocks b) p ≡ Some x → is_phi x.inst ≡ false → EarlyAt (slice_get (insts_at f.blocks b) p) x ↔ BadAt (slice_get (insts_at f.blocks b) p)
  moved_early sound x found plain =
      let one : m ≡ x = same_Some m x (sym taken.1 ∙ found) in
      let plain' : is_phi m.inst ≡ false = ap (λ (z : Placed). is_phi z.inst) one ∙ plain in
      let at_m : EarlyAt (Some m) m ↔ BadAt (Some m) = (early_bad sound plain', bad_early sound plain') in
      subst (λ (z : Placed). EarlyAt (slice_get (insts_at f.blocks b) p) z ↔ BadAt (slice_get (insts_at f.blocks b) p)) one
      (subst (λ (o : Option Placed). EarlyAt o m ↔ BadAt o) (sym taken.1) at_m)

-- ---- by cases on what is looked at

pub numbered_after : (f : FuncState) (after : After) → IsNumbered f → CanBeAfter f after → IsNumbered (func_after f after)
numbered_after f Same n can = n
numbered_after f (Moved from to) n can = moved_numbered f n from to can

edges_after : (f : FuncState) (after : After) → IsNumbered f → CanBeAfter f after → edges_of (func_after f after).blocks ≡ edges_of f.blocks
edges_after f Same n can = refl
edges_after f (Moved from to) n can = moved_edges f n from to can

ungiven_after : (f : FuncState) (after : After) → IsNumbered f → CanBeAfter f after → (l : LocalNo) → IsUngiven f.blocks l → IsUngiven (func_after f after).blocks l
ungiven_after f Same n can l none = none
ungiven_after f (Moved from to) n can l none = moved_ungiven f n from to can l none

pub not_late_after : (f : FuncState) (after : After) (v : Val) (l : LocalNo) (a k : ℕ) → IsNumbered f → CanBeAfter f after → v ≡ Local l → IsUngiven f.blocks l → IsTrue false ↔ IsLate (func_after f after) v a k
not_late_after f after v l a k n can is none = not_late (func_after f after) v l a k is (ungiven_after f after n can l none)

-- the place of what gives the local, found by its number, tells whether a use is late
pub found_late : SamePaths → (f : FuncState) (after : After) (h : List Run) (v : Val) (l : LocalNo) (i : ℕ) (at r : Spot) (a k : ℕ) (t : Bool) → h ≡ edges_of f.blocks → IsNumbered f → CanBeAfter f after
    → v ≡ Local l → ((c : ℕ) × (j : ℕ) × (x : Placed) × IsAt f.blocks i c j x × (x.result ≡ Some l)) → ((x : Placed) × IsAt f.blocks i at.block at.place x) → IsSpotAfter f after at r
    → (IsTrue t ↔ IsMissed h r.block r.place a k) → IsTrue t ↔ IsLate (func_after f after) v a k
found_late law f after h v l i at r a k t graph n can is (c, j, x, there, gives) (y, here) stands told =
    let one = n.one_place c j at.block at.place x y there.found here.found (there.numbered ∙ sym here.numbered) in
    let found : slice_get (insts_at f.blocks at.block) at.place ≡ Some x =
    subst (λ e. slice_get (insts_at f.blocks e) at.place ≡ Some x) one.0 (subst (λ e. slice_get (insts_at f.blocks c) e ≡ Some x) one.1 there.found) in
    let same : h ≡ edges_of (func_after f after).blocks = graph ∙ sym (edges_after f after n can) in
    late_told law (func_after f after) v l r.block r.place a k x t (numbered_after f after n can) is (record { found = stands x found; gives = gives })
    (subst (λ (e : List Run). IsTrue t ↔ IsMissed e r.block r.place a k) same told)

-- ---- a move that is no fault by names, places and kinds

pub can_move : (f : FuncState) (block : BlockNo) (place : ℕ) (to_block : BlockNo) (to_place : ℕ) → (HasBadName f (Move block place to_block to_place) → ⊥)
    → (HasBadPlace f (Move block place to_block to_place) → ⊥) → IsMove f (record { block = block.0; place = place }) (record { block = to_block.0; place = to_place })
can_move f block place to_block to_place names places = record {
  from_in = in_func f block.0 (λ no. names (inl no));
  there = place_in (insts_at f.blocks block.0) place (λ past. places (inl past));
  to_in = in_func f to_block.0 (λ no. names (inr no));
  room = λ bad. places (inr bad);
}

pub moved_plain : (f : FuncState) (block : BlockNo) (place : ℕ) (to_block : BlockNo) (to_place : ℕ) → (HasBadKind f (Move block place to_block to_place) → ⊥)
    → (x : Placed) → slice_get (insts_at f.blocks block.0) place ≡ Some x → is_phi x.inst ≡ false
moved_plain f block place to_block to_place kind x found = movable_plain x.inst (movable_at f block.0 place x kind found)
