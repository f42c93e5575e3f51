use Rattle.std.proofs.Common.{◌≡◌, ◌++◌, drop}
use Rattle.ms_flow.specs.Flow.{sources_of}
use Rattle.ms_session.specs.Annotated.{with_commas}
use Rattle.ms_session.specs.Shown.{members_text, operand_texts}
use Rattle.ms_session.proofs.lines.push_operands.Given as goal

-- the text so far, and that of the rest behind it
abbrev pub invariant-loop-slot : goal.invariant-loop-slot
invariant-loop-slot l =
    l.out.items ++ members_text l.slot (operand_texts l.labels l.numbers.all l.form l.fn.b.0 l.slot (drop l.slot (sources_of l.flow.graph l.fn.b.0)))
    ≡ l.initial.out.items ++ with_commas (operand_texts l.labels l.numbers.all l.form l.fn.b.0 0 (sources_of l.flow.graph l.fn.b.0))
