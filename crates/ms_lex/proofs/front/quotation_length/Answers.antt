use Rattle.std.proofs.Common.{arith, add-one}
use Rattle.ms_lex.proofs.Quotations.{quotation_front, quotation_none}
use Rattle.ms_lex.proofs.front.quotation_length.Goals as goal
use Rattle.ms_lex.proofs.front.quotation_length.Goals.{else-run-bytes-via-then-run-bytes+else-bytes-run-eq34, else-run-bytes-via-else-run-bytes}

pub returns-then-bytes-run-eq34 : goal.returns-then-bytes-run-eq34
returns-then-bytes-run-eq34 c =
    let run = c.quotable_run-run.ensures.run in
    rw (add-one, run) (quotation_front c.args.bytes.now (rw run at c.if-run-bytes.true) (rw run at c.if-bytes-run-eq34.true))

pub returns-else-run-bytes : goal.returns-else-run-bytes
returns-else-run-bytes c =
    let run = c.quotable_run-run.ensures.run in
    elim c.else-run-bytes.branch [
      | else-run-bytes-via-then-run-bytes+else-bytes-run-eq34 w ↦
          quotation_none c.args.bytes.now (λ within. rw run at w.if-bytes-run-eq34.false)
      | else-run-bytes-via-else-run-bytes w ↦
          quotation_none c.args.bytes.now (λ within. absurd (omega (arith, rw run at w.if-run-bytes.false)))
    ]
