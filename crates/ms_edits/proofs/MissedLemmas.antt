-- Uses of a result that some path comes to without passing the place to which its instruction is moved.
use Rattle.std.proofs.Common.{◌≡◌, ◌∙◌, ◌<◌, ◌⊎◌, ℕ, Bool, false, List, length, get_or, map, Some, None, refl, sym, ap, subst, inl, inr, arith}
use Rattle.std.specs.Prelude.{IsTrue, ◌↔◌, Contains, slice_get, option_map}
use Rattle.std.proofs.lemmas.Bool.{false≢true}
use Rattle.std.proofs.lemmas.Option.{same_Some, none-some, slice_get-get_or, get_or_from_slice_get, slice_get-map, slice_get_within}
use Rattle.ms_paths.specs.Flow.{Block as Run}
use Rattle.ms_ir.specs.declared.names.LocalNo.{LocalNo}
use Rattle.ms_ir.specs.declared.inst.Val.TheVariants.{Local}
use Rattle.ms_ir.specs.declared.inst.Entry.{Entry}
use Rattle.ms_ir.specs.declared.inst.Inst.{Inst}
use Rattle.ms_ir.specs.declared.inst.Term.{Term}
use Rattle.ms_ir.specs.Func.{Placed, Block, FuncState, IsAt, IsNowhere, insts_at, no_block, parts_of, node_parts}
use Rattle.ms_ir.specs.Graph.{graph_of}
use Rattle.ms_ir.specs.Locals.{IsNumbered}
use Rattle.ms_ir.specs.Uses.{Use, operands_of, term_operands, used_at, entry_use, uses_at}
use Rattle.ms_ir.specs.declared.func.Node.{Node}
use Rattle.ms_ir.specs.Types.{is_phi}
use Rattle.ms_ir.specs.SoundFunc.{IsSoundFunc}
use Rattle.ms_ir.specs.Edits.{term_at}
use Rattle.ms_edited.proofs.Faults.{there_is}
use Rattle.ms_edits.proofs.PlaceLemmas.{node_gone, node_there, same_inst, same_result}
use Rattle.ms_ir.proofs.FuncLemmas.{not_nowhere}
use Rattle.ms_flow.specs.Table.{edges_of}
use Rattle.ms_edits.specs.declared.operands.Ask.TheVariants.{Is}
use Rattle.ms_edits.specs.declared.spots.Spot.{Spot}
use Rattle.ms_edits.specs.declared.spots.After.TheVariants.{Moved}
use Rattle.ms_edits.specs.Told.{AtPlace, HasIn, InstHas, IsAsked, IsLateAt, IsMissed, TermHas}
use Rattle.ms_edits.specs.Moved.{EndMisses, EndsMiss, InstsMiss, IsBadAfter, IsGivenMissed, IsMove, IsSomeMissed, IsUseMissed, NumberMisses, func_after}
use Rattle.ms_edits.proofs.OrderLemmas.{SamePaths, inst_alike, member_of, of_member}
use Rattle.ms_edits.proofs.UseLemmas.{block_in, is_asked_so}
use Rattle.ms_edits.proofs.MoveLemmas.{missed_now, moved_early, moved_from, moved_numbered, moved_room, moved_size, moved_term}

module _ (law : SamePaths) (f : FuncState) (n : IsNumbered f) (from to : Spot) (move : IsMove f from to) (h : List Run) (graph : h ≡ edges_of f.blocks) (l : LocalNo) where
  abbrev now : FuncState
  now = func_after f (Moved from to)

  abbrev Missed : Use → Type 0
  Missed = IsUseMissed now.blocks to l

  abbrev EndTold : ℕ → Bool → Type 0
  EndTold c t = (k : ℕ) → (to.block ≡ c → to.place < k) → IsTrue t ↔ IsMissed h to.block to.place c k

  -- the end of a block
  end_now : (c : ℕ) (t : Bool) → EndTold c t → IsTrue t ↔ IsMissed (graph_of now.blocks) to.block to.place c (length (insts_at now.blocks c))
  end_now c t told =
      let room : to.block ≡ c → to.place < length (insts_at now.blocks c) = λ same. subst (λ a. to.place < length (insts_at now.blocks a)) same (moved_room f n from to move) in
      let here = told (length (insts_at now.blocks c)) room in
      let same = missed_now f n from to move law h graph to.block to.place c (length (insts_at now.blocks c)) in (
        λ s. same.0 (here.0 s),
        λ w. here.1 (same.1 w),
      )

  -- ---- entries of phis
  entry_there : (entries : List Entry) (k : ℕ) (e : Entry) → slice_get entries k ≡ Some e → slice_get (map (entry_use now.blocks) entries) k ≡ Some (entry_use now.blocks e)
  entry_there entries k e found = slice_get-map (entry_use now.blocks) entries k ∙ ap (option_map (entry_use now.blocks)) found

  pub entry_told : (entries : List Entry) (k : ℕ) (e : Entry) (t : Bool) → slice_get entries k ≡ Some e → e.val ≡ Local l → EndTold e.from.0 t → IsTrue t ↔ AtPlace (map (entry_use now.blocks) entries) Missed k
  entry_told entries k e t found val told =
      let at = entry_there entries k e found in
      let here = end_now e.from.0 t told in (
        λ s. (entry_use now.blocks e, at, (val, here.0 s)),
        λ (u, got, (is, w)). here.1 (subst (λ (v : Use). IsMissed (graph_of now.blocks) to.block to.place v.block v.place) (same_Some u (entry_use now.blocks e) (sym got ∙ at)) w),
      )

  pub entry_not : (entries : List Entry) (k : ℕ) (e : Entry) → slice_get entries k ≡ Some e → (e.val ≡ Local l → ⊥) → IsTrue false ↔ AtPlace (map (entry_use now.blocks) entries) Missed k
  entry_not entries k e found other = (
    λ s. absurd (false≢true s),
    λ (u, got, (is, w)). absurd (other (ap (λ (v : Use). v.val) (sym (same_Some u (entry_use now.blocks e) (sym got ∙ entry_there entries k e found))) ∙ is)),
  )

  pub entry_gone : (entries : List Entry) (k : ℕ) → slice_get entries k ≡ None → IsTrue false ↔ AtPlace (map (entry_use now.blocks) entries) Missed k
  entry_gone entries k none = (
    λ s. absurd (false≢true s),
    λ (u, got, (is, w)). absurd (none-some u (sym (slice_get-map (entry_use now.blocks) entries k ∙ ap (option_map (entry_use now.blocks)) none) ∙ got)),
  )

  -- ---- operands
  pub operand_told : (inst : Inst) (c k : ℕ) (t : Bool) → InstHas inst l → (IsTrue t ↔ IsMissed h to.block to.place c k) → IsTrue t ↔ HasIn (map (used_at c k) (operands_of inst)) Missed
  operand_told inst c k t (o, among, val) told =
      let same = missed_now f n from to move law h graph to.block to.place c k in (
        λ s. (used_at c k o, member_of (used_at c k) (operands_of inst) o among, (val, same.0 (told.0 s))),
        λ (u, there, (is, w)). told.1 (same.1 (
            let r = of_member (used_at c k) (operands_of inst) u there in
            subst (λ (v : Use). IsMissed (graph_of now.blocks) to.block to.place v.block v.place) (sym r.2) w)),
      )

  -- ---- terminators
  ends_in : (c : ℕ) (x : Block) → slice_get now.blocks c ≡ Some x → x.term ≡ term_at f.blocks c
  ends_in c x found = ap (λ (y : Block). y.term) (sym (get_or_from_slice_get now.blocks c x no_block found)) ∙ moved_term f n from to move c

  pub term_told : (c : ℕ) (term : Term) (t : Bool) → c < length f.blocks → term ≡ term_at f.blocks c → TermHas term l → EndTold c t → IsTrue t ↔ EndMisses now.blocks to l c
  term_told c term t lt is (o, among, val) told =
      let size = moved_size f n from to move in
      let x = get_or now.blocks c no_block in
      let found : slice_get now.blocks c ≡ Some x = slice_get-get_or now.blocks c no_block (omega (arith, lt, size)) in
      let m = length (insts_at now.blocks c) in
      let here = end_now c t told in (
        λ s. (
          x,
          found,
          (
            used_at c m o,
            member_of (used_at c m) (term_operands x.term) o (subst (λ (e : Term). Contains (term_operands e) o) (is ∙ sym (ends_in c x found)) among),
            (val, here.0 s),
          ),
        ),
        λ (y, at, (u, there, (its, w))). here.1 (
            let r = of_member (used_at c m) (term_operands y.term) u there in
            subst (λ (v : Use). IsMissed (graph_of now.blocks) to.block to.place v.block v.place) (sym r.2) w),
      )

  pub term_not : (c : ℕ) (term : Term) → term ≡ term_at f.blocks c → (TermHas term l → ⊥) → IsTrue false ↔ EndMisses now.blocks to l c
  term_not c term is none = (
    λ s. absurd (false≢true s),
    λ (y, at, (u, there, (its, w))). absurd (
        let r = of_member (used_at c (length (insts_at now.blocks c))) (term_operands y.term) u there in
        none (r.0, subst (λ (e : Term). Contains (term_operands e) r.0) (ends_in c y at ∙ sym is) r.1, ap (λ (v : Use). v.val) r.2 ∙ its)),
  )

module _ (f : FuncState) (n : IsNumbered f) (from to : Spot) (move : IsMove f from to) (l : LocalNo) where
  -- ---- instructions by number
  pub user_told : (i c k : ℕ) (x : Placed) (inst : Inst) (t : Bool) → slice_get (insts_at (func_after f (Moved from to)).blocks c) k ≡ Some x → x.number ≡ i → x.inst ≡ inst
      → (IsTrue t ↔ HasIn (uses_at (func_after f (Moved from to)).blocks c k inst) (IsUseMissed (func_after f (Moved from to)).blocks to l)) → IsTrue t ↔ NumberMisses (func_after f (Moved from to)).blocks to l i
  user_told i c k x inst t found num is told = (
    λ s. (c, k, x, found, num, subst (λ (e : Inst). HasIn (uses_at (func_after f (Moved from to)).blocks c k e) (IsUseMissed (func_after f (Moved from to)).blocks to l)) (sym is) (told.0 s)),
    λ (a, j, z, at, same, has). told.1 (
        let one = (moved_numbered f n from to move).one_place a j c k z x at found (same ∙ sym num) in
        let here : slice_get (insts_at (func_after f (Moved from to)).blocks c) k ≡ Some z = subst (λ e. slice_get (insts_at (func_after f (Moved from to)).blocks e) k ≡ Some z) one.0 (subst (λ e. slice_get (insts_at (func_after f (Moved from to)).blocks a) e ≡ Some z) one.1 at) in
        let z_is : z.inst ≡ inst = ap (λ (y : Placed). y.inst) (same_Some z x (sym here ∙ found)) ∙ is in
        subst (λ (e : Inst). HasIn (uses_at (func_after f (Moved from to)).blocks c k e) (IsUseMissed (func_after f (Moved from to)).blocks to l)) z_is
        (subst (λ e. HasIn (uses_at (func_after f (Moved from to)).blocks e k z.inst) (IsUseMissed (func_after f (Moved from to)).blocks to l)) one.0 (subst (λ e. HasIn (uses_at (func_after f (Moved from to)).blocks a e z.inst) (IsUseMissed (func_after f (Moved from to)).blocks to l)) one.1 has))),
  )

  -- it was in the function
  number_was : (i c k : ℕ) (z : Placed) → slice_get (insts_at (func_after f (Moved from to)).blocks c) k ≡ Some z → z.number ≡ i → (a : ℕ) × (j : ℕ) × IsAt f.blocks i a j z
  number_was i c k z found num =
      let r = moved_from f n from to move c k z found in
      (r.0, r.1, record { block = block_in f.blocks r.0 r.1 z r.2; found = r.2; numbered = num })

  pub user_gone : (i : ℕ) → IsNowhere f.blocks i → IsTrue false ↔ NumberMisses (func_after f (Moved from to)).blocks to l i
  user_gone i none = (
    λ s. absurd (false≢true s),
    λ (a, j, z, at, same, has). absurd (
        let r = number_was i a j z at same in
        not_nowhere (insts_at f.blocks r.0) i r.1 z (none r.0) r.2.found r.2.numbered),
  )

  pub user_not : (i : ℕ) (inst : Inst) → ((b k : ℕ) (x : Placed) → IsAt f.blocks i b k x → x.inst ≡ inst) → (HasIn (operands_of inst) (IsAsked f (Is l)) → ⊥) → IsTrue false ↔ NumberMisses (func_after f (Moved from to)).blocks to l i
  user_not i inst each none = (
    λ s. absurd (false≢true s),
    λ (a, j, z, at, same, (u, among, (is, w))). absurd (
        let r = number_was i a j z at same in
        let z_is = each r.0 r.1 z r.2 in
        let o = (inst_alike (func_after f (Moved from to)).blocks (func_after f (Moved from to)).blocks a j j z.inst u among).2.operand in
        none (o.0, subst (λ (e : Inst). Contains (operands_of e) o.0) z_is o.1, is_asked_so f l o.0 (o.2 ∙ is))),
  )

  pub number_below : (i : ℕ) → NumberMisses (func_after f (Moved from to)).blocks to l i → i < f.made
  number_below i (a, j, z, at, same, has) = (let below = (moved_numbered f n from to move).below_made a j z at in omega (arith, below, same))

  pub end_below : (c : ℕ) → EndMisses (func_after f (Moved from to)).blocks to l c → c < length f.blocks
  end_below c (y, at, has) = (let size = moved_size f n from to move in let lt = slice_get_within (func_after f (Moved from to)).blocks c y at in omega (arith, size, lt))

-- ---- all together

pub insts_some : (blocks : List Block) (first : Spot) (l : LocalNo) → InstsMiss blocks first l → IsSomeMissed blocks first l
insts_some blocks first l (i, (c, k, x, found, num, (u, among, missed))) = (u, inl (c, k, x, found, among), missed)

pub ends_some : (blocks : List Block) (first : Spot) (l : LocalNo) → EndsMiss blocks first l → IsSomeMissed blocks first l
ends_some blocks first l (c, (x, found, (u, among, missed))) = (u, inr (c, x, found, among), missed)

pub some_split : (blocks : List Block) (first : Spot) (l : LocalNo) → IsSomeMissed blocks first l → InstsMiss blocks first l ⊎ EndsMiss blocks first l
some_split blocks first l (u, inl (c, k, x, found, among), missed) = inl (x.number, (c, k, x, found, refl, (u, among, missed)))
some_split blocks first l (u, inr (c, x, found, among), missed) = inr (c, (x, found, (u, among, missed)))

-- ---- a move

pub gone_not : (f : FuncState) (from to : Spot) → IsMove f from to → None ≡ option_map node_parts (slice_get (insts_at f.blocks from.block) from.place) → ⊥
gone_not f from to move e =
    let x = there_is (insts_at f.blocks from.block) from.place move.there in
    none-some x.0 (sym (node_gone (slice_get (insts_at f.blocks from.block) from.place) e) ∙ x.1)

module _ (f : FuncState) (n : IsNumbered f) (from to : Spot) (move : IsMove f from to) (sound : IsSoundFunc f)
    (plain : (x : Placed) → slice_get (insts_at f.blocks from.block) from.place ≡ Some x → is_phi x.inst ≡ false) (node : Node) where
  abbrev later : FuncState
  later = func_after f (Moved from to)

  pub late_is_bad : Some (parts_of node) ≡ option_map node_parts (slice_get (insts_at f.blocks from.block) from.place) → HasIn (operands_of node.inst) (IsLateAt later to.block to.place) → IsBadAfter later
  late_is_bad e late =
      let x = node_there (slice_get (insts_at f.blocks from.block) from.place) node e in
      let both = moved_early f n from to move sound x.0 x.1 (plain x.0 x.1) in
      both.0 (inl (subst (λ (i : Inst). HasIn (operands_of i) (IsLateAt later to.block to.place)) (sym (same_inst x.0 node x.2)) late))

  pub rest_is_bad : (t : Bool) → Some (parts_of node) ≡ option_map node_parts (slice_get (insts_at f.blocks from.block) from.place) → (HasIn (operands_of node.inst) (IsLateAt later to.block to.place) → ⊥)
      → (IsTrue t ↔ IsGivenMissed later.blocks to node.result) → IsTrue t ↔ IsBadAfter later
  rest_is_bad t e not told =
      let x = node_there (slice_get (insts_at f.blocks from.block) from.place) node e in
      let both = moved_early f n from to move sound x.0 x.1 (plain x.0 x.1) in
      let gives = same_result x.0 node x.2 in (
        λ s. (let h = told.0 s in both.0 (inr (h.0, gives ∙ h.1, h.2))),
        λ bad. elim (both.1 bad) [
          | inl late ↦ absurd (not (subst (λ (i : Inst). HasIn (operands_of i) (IsLateAt later to.block to.place)) (same_inst x.0 node x.2) late))
          | inr given ↦ told.1 (given.0, sym gives ∙ given.1, given.2)
        ],
      )
