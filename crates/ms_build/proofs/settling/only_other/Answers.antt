use Rattle.std.proofs.Common.{◌≡◌, ◌≢◌, sym, subst, arith, Some}
use Rattle.std.proofs.lemmas.Bool.{both_ways}
use Rattle.ms_form.specs.declared.access.User.TheVariants.{Operand}
use Rattle.ms_form.specs.declared.access.Access.TheVariants.{Phi}
use Rattle.ms_form.specs.Form.{HasList}
use Rattle.ms_build.specs.Accesses.{operand_at}
use Rattle.ms_build.proofs.Entries.{named_list}
use Rattle.ms_build.proofs.Only.{IsOnly, only_entry, only_same, only_first, only_again, only_two, only_empty, only_result, none_comes}
use Rattle.ms_build.proofs.settling.only_other.Goals as goal
use Rattle.ms_build.proofs.settling.only_other.Goals.{then-not-same_access+in-None, then-not-same_access+in-Some+else-not-same_access-2, else-not-same_access, then-b-eq0, else-b-eq0}

pub loop-slot-init : goal.loop-slot-init
loop-slot-init c = elim c.if-b-eq0.branch [
  | then-b-eq0 w ↦ rw w.other-is (only_entry c.args.form.now c.args.b w.if-b-eq0.true)
  | else-b-eq0 w ↦ rw w.other-is (w.if-b-eq0.false, λ slot lt. absurd (omega arith))
]

pub loop-slot-preserved : goal.loop-slot-preserved
loop-slot-preserved c =
    let f = c.args.form.now in
    let b = c.args.b in
    let k = c.loop-slot.slot in
    let here : operand_at f b.0 k ≡ Some c.in_ok-operand.operand = sym c.in_ok-operand.ensures in
    let listed : HasList f c.in_ok-operand.operand = named_list f (Operand b k) c.in_ok-operand.operand c.uses.ensures.table c.uses.ensures.users here in
    elim c.if-not-same_access.branch [
      | then-not-same_access+in-None w ↦
          let ne : c.in_ok-operand.operand ≢ Phi b = λ i. both_ways _ w.if-not-same_access.true (c.same_access.ensures.1 i) in
          rw w.other-is (only_first f b k c.in_ok-operand.operand (subst (IsOnly f b k) w.in-None.is c.loop-slot.invariant) here ne listed)
      | then-not-same_access+in-Some+else-not-same_access-2 w ↦
          let same : w.in-Some.a ≡ c.in_ok-operand.operand = w.same_access-in-Some.ensures.0 w.if-not-same_access-2.false in
          rw w.other-is (only_again f b k w.in-Some.a (subst (IsOnly f b k) w.in-Some.is c.loop-slot.invariant) (rw same here))
      | else-not-same_access w ↦
          let same : c.in_ok-operand.operand ≡ Phi b = c.same_access.ensures.0 w.if-not-same_access.false in
          rw w.other-is (only_same f b k c.loop-slot.other c.loop-slot.invariant (rw (← same) here))
    ]

pub returns-then-not-same_access-2 : goal.returns-then-not-same_access-2
returns-then-not-same_access-2 c =
    let f = c.args.form.now in
    let b = c.args.b in
    let k = c.loop-slot.slot in
    let here : operand_at f b.0 k ≡ Some c.in_ok-operand.operand = sym c.in_ok-operand.ensures in
    let lt = c.loop-slot-test.true in
    let all = c.pred_count-edges.ensures in
    only_two c.args.flow.now.graph f b k c.in-Some.a c.in_ok-operand.operand (subst (IsOnly f b k) c.in-Some.is c.loop-slot.invariant) here
    (λ i. both_ways _ c.if-not-same_access.true (c.same_access.ensures.1 i)) (λ i. both_ways _ c.if-not-same_access-2.true (c.same_access-in-Some.ensures.1 i)) (omega arith)

pub returns-in_err-operand : goal.returns-in_err-operand
returns-in_err-operand c =
    let lt = c.loop-slot-test.true in
    let all = c.pred_count-edges.ensures in
    rw c.from_residual.ensures (only_empty c.args.flow.now.graph c.args.form.now c.args.b c.loop-slot.slot (sym c.in_err-operand.ensures) (omega arith))

pub returns : goal.returns
returns c =
    let end = c.loop-slot-test.false in
    let all = c.pred_count-edges.ensures in
    let some = c.if-edges-eq0.false in
    only_result c.args.flow.now.graph c.args.form.now c.args.b c.loop-slot.slot c.loop-slot.other c.loop-slot.invariant (omega arith) (c.requires.other (omega arith))

pub returns-then-edges-eq0 : goal.returns-then-edges-eq0
returns-then-edges-eq0 c =
    let none = c.if-edges-eq0.true in
    let all = c.pred_count-edges.ensures in
    none_comes c.args.flow.now.graph c.args.form.now c.args.b (omega arith)
