use Rattle.std.proofs.Common.{◌≡◌, ◌+◌, ◌++◌, ◌∙◌, List, [], drop, ap, sym, arith}
use Rattle.std.proofs.lemmas.List.{drop_all}
use Rattle.ms_flow.specs.declared.sources.Source.{Source}
use Rattle.ms_flow.specs.Flow.{sources_of}
use Rattle.ms_session.specs.Shown.{operand_text}
use Rattle.ms_ir.proofs.Along.{there}
use Rattle.ms_session.proofs.LineLemmas.{operands_more, operands_end}
use Rattle.ms_session.proofs.lines.push_operands.Goals as goal

pub loop-slot-preserved : goal.loop-slot-preserved
loop-slot-preserved c =
    let labels = c.args.labels.now in
    let all = c.args.numbers.now.all in
    let form = c.args.form.now in
    let b = c.args.b.0 in
    let k = c.loop-slot.slot in
    let e : Source = record { from = c.pred-edge.result.from.0; slot = c.pred-edge.result.out_slot } in
    let ss : List Source = sources_of c.args.flow.now.graph b in
    operands_more labels all form b k e (drop k ss) (drop (k + 1) ss) c.loop-slot.out.items c.push_comma.new.out.items c.push_operand.new.out.items
    (there ss k e c.pred-edge.ensures.edge) c.in_ok-push_comma.ensures
    (c.in_ok-push_operand.ensures ∙ ap (λ a. c.push_comma.new.out.items ++ operand_text labels all e.from a) c.operand.ensures)
    ∙ c.loop-slot.invariant

pub returns : goal.returns
returns c =
    let ss : List Source = sources_of c.args.flow.now.graph c.args.b.0 in
    let over : drop c.loop-slot.slot ss ≡ [] = drop_all c.loop-slot.slot ss (omega (arith, c.loop-slot-test.false, c.pred_count-slot-end.ensures)) in
    sym (operands_end c.args.labels.now c.args.numbers.now.all c.args.form.now c.args.b.0 c.loop-slot.slot (drop c.loop-slot.slot ss) c.loop-slot.out.items over)
    ∙ c.loop-slot.invariant
