use Rattle.std.proofs.Common.{length, sym, arith, refl}
use Rattle.std.proofs.lemmas.List.Sums.{position_or_len_is}
use Rattle.ms_read.specs.Rows.{is_line_feed}
use Rattle.ms_script.proofs.rows.count_row.Goals as goal

pub returns-then-b-eq10-clause-first : goal.returns-then-b-eq10-clause-first
returns-then-b-eq10-clause-first c =
    sym (position_or_len_is is_line_feed c.args.bytes.now c.loop-i.i 0 c.loop-i.auto.i-end c.loop-i.invariant (λ _. rw c.if-b-eq10.true refl))

pub returns-clause-first : goal.returns-clause-first
returns-clause-first c =
    sym (position_or_len_is is_line_feed c.args.bytes.now (length c.args.bytes.now) 0 (omega arith) (λ k h. c.loop-i.invariant k (omega arith)) (λ h. absurd (omega arith)))
