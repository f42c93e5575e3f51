use Rattle.std.proofs.Common.{◌≡◌, ◌<◌, ◌+ℤ◌, false, Some, length, inl, inr, sym, ap, ◌∙◌, arith}
use Rattle.std.specs.Prelude.{option_map}
use Rattle.std.proofs.lemmas.Int.{to_z-of_z}
use Rattle.std.proofs.lemmas.List.{length-replicate, length-set}
use mir.Syntax.{w64}
use mir.Val.{SFits, to_z}
use Rattle.ms_flow.proofs.Steps.{unseen-set}
use Rattle.ms_alias.specs.declared.loc.Root.TheVariants.{Local}
use Rattle.ms_alias.specs.Roots.{pair_step, step_of, step_by_maker}
use Rattle.ms_alias.proofs.Sums.{way_begun, way_ends, way_more, way_fits, near_fits, not_ring, way_at, global_end}
use Rattle.ms_alias.proofs.origins.find_origin.Goals as goal
use Rattle.ms_alias.proofs.origins.find_origin.Goals.{then-m-len-via-then-m-len, then-m-len-via-else-m-len+then-has}

pub walk-init : goal.walk-init
walk-init c =
    let same = c.requires.same in
    let len : length c.clear.new.self ≡ length c.args.marks.now = ap length c.clear.ensures ∙ length-replicate (length c.args.marks.now) false in
    (rw c.clear.ensures (way_begun c.args.func.now c.args.l (length c.args.marks.now)), omega arith)

pub returns-in-Global-clause-root : goal.returns-in-Global-clause-root
returns-in-Global-clause-root c =
    way_ends c.args.func.now c.args.l c.walk.at (to_z w64 c.walk.sum-bits) c.walk.marks c.walk.invariant.0 (global_end c.args.func.now c.walk.at c.in-Global.field-0 c.in-Global.is)

pub returns-then-m-len-clause-root : goal.returns-then-m-len-clause-root
returns-then-m-len-clause-root c =
    let f = c.args.func.now in
    let way = way_at f c.args.l c.walk.at c.in-Local.m (to_z w64 c.walk.sum-bits) c.walk.marks c.in-Local.is c.walk.invariant.0 in
    let same = c.walk.invariant.1 in
    elim c.then-m-len.branch [
      | then-m-len-via-then-m-len w ↦
          way_ends f c.args.l (Local c.in-Local.m) (to_z w64 c.walk.sum-bits) c.walk.marks way (inl (ap step_by_maker (c.requires.beyond c.in-Local.m (let t = w.if-m-len.true in let k = c.len.ensures.len in let s = c.requires.same in omega arith))))
      | then-m-len-via-else-m-len+then-has w ↦
          way_ends f c.args.l (Local c.in-Local.m) (to_z w64 c.walk.sum-bits) c.walk.marks way (inr ((c.requires.rings.each c.in-Local.m).0 (sym w.has.ensures ∙ w.if-has.true)))
    ]

pub returns-in-None-clause-root : goal.returns-in-None-clause-root
returns-in-None-clause-root c =
    let f = c.args.func.now in
    let way = way_at f c.args.l c.walk.at c.in-Local.m (to_z w64 c.walk.sum-bits) c.walk.marks c.in-Local.is c.walk.invariant.0 in
    way_ends f c.args.l (Local c.in-Local.m) (to_z w64 c.walk.sum-bits) c.walk.marks way (inl (sym c.step.ensures ∙ ap (option_map pair_step) c.in-None.is))

pub overflow_add-sum : goal.overflow_add-sum
overflow_add-sum c =
    let f = c.args.func.now in
    let way = way_at f c.args.l c.walk.at c.in-Local.m (to_z w64 c.walk.sum-bits) c.walk.marks c.in-Local.is c.walk.invariant.0 in
    let stepped : step_of f (Local c.in-Local.m) ≡ Some (pair_step c.in-Some.found) = sym c.step.ensures ∙ ap (option_map pair_step) c.in-Some.is in
    let near = c.requires.near c.in-Local.m (pair_step c.in-Some.found) stepped in
    let fits : SFits w64 c.in-Some.found.1 = near_fits c.in-Some.found.1 near in
    let t = c.if-m-len.false in
    let k = c.len.ensures.len in
    let len = c.walk.invariant.1 in
    let same = c.requires.same in
    let few = c.requires.few in
    simp to_z-of_z (way_fits f c.args.l c.in-Local.m.0 (to_z w64 c.walk.sum-bits) c.in-Some.found.1 c.walk.marks way (omega arith) (omega arith) (sym c.has-in-walk.ensures ∙ c.if-has-2.false) near)

pub walk-smaller : goal.walk-smaller
walk-smaller c =
    let t = c.if-m-len.false in
    let k = c.len.ensures.len in
    let fall = unseen-set c.walk.marks c.in-Local.m.0 (omega arith) (sym c.has-in-walk.ensures ∙ c.if-has-2.false) in
    rw c.put.ensures (omega (arith, fall))

pub walk-preserved : goal.walk-preserved
walk-preserved c =
    let f = c.args.func.now in
    let way = way_at f c.args.l c.walk.at c.in-Local.m (to_z w64 c.walk.sum-bits) c.walk.marks c.in-Local.is c.walk.invariant.0 in
    let stepped : step_of f (Local c.in-Local.m) ≡ Some (pair_step c.in-Some.found) = sym c.step.ensures ∙ ap (option_map pair_step) c.in-Some.is in
    let near = c.requires.near c.in-Local.m (pair_step c.in-Some.found) stepped in
    let fits : SFits w64 c.in-Some.found.1 = near_fits c.in-Some.found.1 near in
    let t = c.if-m-len.false in
    let k = c.len.ensures.len in
    let len = c.walk.invariant.1 in
    let same = c.requires.same in
    let few = c.requires.few in
    let below : c.in-Local.m.0 < length c.walk.marks = omega arith in
    let new = sym c.has-in-walk.ensures ∙ c.if-has-2.false in
    let fits' : SFits w64 (to_z w64 c.walk.sum-bits +ℤ c.in-Some.found.1) = way_fits f c.args.l c.in-Local.m.0 (to_z w64 c.walk.sum-bits) c.in-Some.found.1 c.walk.marks way below (omega arith) new near in
    let free = not_ring f c.args.rings.now c.in-Local.m.0 c.requires.rings (sym c.has.ensures ∙ c.if-has.false) in (
      simp (to_z-of_z, c.put.ensures) (way_more f c.args.l c.in-Local.m.0 (to_z w64 c.walk.sum-bits) c.walk.marks (pair_step c.in-Some.found) way free stepped below new near),
      rw (c.put.ensures, length-set) len,
    )
