use Rattle.std.proofs.Common.{◌≡◌, ◌≢◌, ◌∙◌, sym, subst, arith}
use Rattle.std.proofs.lemmas.Bool.{both_ways}
use Rattle.ms_form.specs.declared.access.Access.TheVariants.{Phi}
use Rattle.ms_climb.proofs.SkipLemmas.{IsFoundWay, way_first, way_again, way_same, way_two}
use Rattle.ms_climb.proofs.skips.Skips.only_way.Goals as goal
use Rattle.ms_climb.proofs.skips.Skips.only_way.Goals.{then-not-same_access+in-None, then-not-same_access+in-Some+else-not-same_access-2, else-not-same_access}

pub returns-then-not-same_access-2 : goal.returns-then-not-same_access-2
returns-then-not-same_access-2 c =
    let s = c.args.self.now in
    let f = c.args.form.now in
    let w = c.args.walk.now in
    let b = c.args.b in
    let k = c.loop-slot.slot in
    way_two f w s b k c.args.slots c.in-Some.a c.way-way.result (subst (IsFoundWay f w s b k) c.in-Some.is c.loop-slot.invariant) c.way-way.ensures.leads
    (λ i. both_ways _ c.if-not-same_access.true (c.same_access.ensures.1 i)) (λ i. both_ways _ c.if-not-same_access-2.true (c.same_access-in-Some.ensures.1 i)) (let lt = c.loop-slot-test.true in omega arith)

pub loop-slot-preserved : goal.loop-slot-preserved
loop-slot-preserved c =
    let s = c.args.self.now in
    let f = c.args.form.now in
    let v = c.args.walk.now in
    let b = c.args.b in
    let k = c.loop-slot.slot in
    let d = c.way-way.result in
    elim c.if-not-same_access.branch [
      | then-not-same_access+in-None w ↦
          let ne : d ≢ Phi b = λ i. both_ways _ w.if-not-same_access.true (c.same_access.ensures.1 i) in
          rw w.other-is (way_first f v s b k d (subst (IsFoundWay f v s b k) w.in-None.is c.loop-slot.invariant) c.way-way.ensures.leads ne c.way-way.ensures.kept)
      | then-not-same_access+in-Some+else-not-same_access-2 w ↦
          let same : w.in-Some.a ≡ d = w.same_access-in-Some.ensures.0 w.if-not-same_access-2.false in
          rw w.other-is (way_again f v s b k w.in-Some.a (subst (IsFoundWay f v s b k) w.in-Some.is c.loop-slot.invariant) (λ leads l. c.way-way.ensures.leads leads l ∙ sym same))
      | else-not-same_access w ↦
          let same : d ≡ Phi b = c.same_access.ensures.0 w.if-not-same_access.false in
          rw w.other-is (way_same f v s b k c.loop-slot.other c.loop-slot.invariant (λ leads l. c.way-way.ensures.leads leads l ∙ same))
    ]
