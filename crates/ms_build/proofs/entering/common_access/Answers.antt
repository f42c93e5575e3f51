use Rattle.std.proofs.Common.{◌≡◌, sym, subst, arith}
use Rattle.std.proofs.lemmas.Bool.{both_ways}
use Rattle.ms_flow.specs.declared.sources.Source.{Source}
use Rattle.ms_build.specs.Entering.{IsLeaving}
use Rattle.ms_build.proofs.OneComing.{IsOneFound, one_first, one_again, one_two, one_unfilled, one_result}
use Rattle.ms_build.proofs.entering.common_access.Goals as goal
use Rattle.ms_build.proofs.entering.common_access.Goals.{in-None, in-Some+else-not-same_access}

pub returns-in_err-access : goal.returns-in_err-access
returns-in_err-access c =
    let s : Source = record { from = c.pred-edge.result.from.0; slot = c.pred-edge.result.out_slot } in
    rw c.from_residual.ensures (one_unfilled c.args.flow.now.graph c.args.form.now c.args.b.0 c.loop-slot.slot s c.pred-edge.ensures.edge c.in_err-access.ensures)

pub returns-then-not-same_access : goal.returns-then-not-same_access
returns-then-not-same_access c =
    let g = c.args.flow.now.graph in
    let f = c.args.form.now in
    let s : Source = record { from = c.pred-edge.result.from.0; slot = c.pred-edge.result.out_slot } in
    one_two g f c.args.b.0 c.loop-slot.slot c.in-Some.a c.in_ok-access.access s (subst (IsOneFound g f c.args.b.0 c.loop-slot.slot) c.in-Some.is c.loop-slot.invariant)
    c.pred-edge.ensures.edge c.in_ok-access.ensures.0 (λ i. both_ways _ c.if-not-same_access.true (c.same_access.ensures.1 i))

pub loop-slot-preserved : goal.loop-slot-preserved
loop-slot-preserved c =
    let g = c.args.flow.now.graph in
    let f = c.args.form.now in
    let b = c.args.b.0 in
    let k = c.loop-slot.slot in
    let s : Source = record { from = c.pred-edge.result.from.0; slot = c.pred-edge.result.out_slot } in
    elim c.match-common.branch [
      | in-None w ↦
          rw w.common-is (one_first g f b k c.in_ok-access.access s (subst (IsOneFound g f b k) w.in-None.is c.loop-slot.invariant) c.pred-edge.ensures.edge c.in_ok-access.ensures.0 c.in_ok-access.ensures.1)
      | in-Some+else-not-same_access w ↦
          let same : w.in-Some.a ≡ c.in_ok-access.access = w.same_access.ensures.0 w.if-not-same_access.false in
          rw w.common-is (one_again g f b k w.in-Some.a s (subst (IsOneFound g f b k) w.in-Some.is c.loop-slot.invariant) c.pred-edge.ensures.edge (subst (IsLeaving f s.from) (sym same) c.in_ok-access.ensures.0))
    ]

pub returns : goal.returns
returns c =
    let end = c.loop-slot-test.false in
    let count = c.pred_count-slot-end.ensures in
    one_result c.args.flow.now.graph c.args.form.now c.args.b.0 c.loop-slot.slot c.loop-slot.common (c.sources_told.ensures.all c.args.flow.now.graph c.requires.closed) c.requires.reached c.loop-slot.invariant (omega arith)
