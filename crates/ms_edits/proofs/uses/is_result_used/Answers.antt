use Rattle.std.specs.Prelude.{IsTrue, ◌↔◌}
use Rattle.std.proofs.lemmas.Result.{IfOk-weaker}
use Rattle.ms_ir.specs.Edits.{IsOperandIn}
use Rattle.ms_edits.specs.Told.{IsResultUsed}
use Rattle.ms_edits.proofs.UseLemmas.{result_told}
use Rattle.ms_edits.proofs.uses.is_result_used.Goals as goal

pub returns-in-Some-result : goal.returns-in-Some-result
returns-in-Some-result c =
    let f = c.args.func.now in
    IfOk-weaker c.is_operand.result (λ t. IsTrue t ↔ IsOperandIn f.blocks c.in-Some-result.l) (λ t. IsTrue t ↔ IsResultUsed f c.args.b.0 c.args.place)
    (λ t told. result_told f c.args.b.0 c.args.place c.in-Some.node.now c.in-Some-result.l t c.in-Some.ensures c.in-Some-result.is told)
    c.is_operand.ensures
