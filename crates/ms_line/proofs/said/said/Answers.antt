use Rattle.std.proofs.Common.{None, sym, subst}
use Rattle.ms_line.specs.Spelled.{AreReadable, IsFound}
use Rattle.ms_line.proofs.Cells.{not_true}
use Rattle.ms_line.proofs.SaidLemmas.{bad_says_nothing, unreadable_says_nothing, none_says_nothing}
use Rattle.ms_line.proofs.said.said.Goals as goal

pub returns-in-Err-Bad-clause-err : goal.returns-in-Err-Bad-clause-err
returns-in-Err-Bad-clause-err c = bad_says_nothing c.args.line.now c.in-Err-Bad.field-0-0 (rw c.in-Err-Bad.field-0-is at c.in-Err-Bad.ensures.err)

pub returns-then-not-are_readable-clause-err : goal.returns-then-not-are_readable-clause-err
returns-then-not-are_readable-clause-err c =
    let line = c.args.line.now in
    unreadable_says_nothing line c.in-Ok.list c.in-Ok.ensures.ok
    (λ all. not_true c.are_readable.result c.if-not-are_readable.true (c.are_readable.ensures.1 (subst (λ ts. AreReadable line ts) (sym c.as_slice.ensures) all)))

pub returns-in-Ok-None-clause-err : goal.returns-in-Ok-None-clause-err
returns-in-Ok-None-clause-err c =
    let line = c.args.line.now in
    none_says_nothing line c.in-Ok.list c.in-Ok.ensures.ok (subst (λ ts. IsFound line ts None) c.as_slice-2.ensures (rw c.in-Ok-None.field-0-is at c.in-Ok-None.ensures))
