use Rattle.ms_script.proofs.LineLemmas.{bad_says_nothing}
use Rattle.ms_script.proofs.line.said.Goals as goal

pub returns-in-Err-Bad-clause-err : goal.returns-in-Err-Bad-clause-err
returns-in-Err-Bad-clause-err c = bad_says_nothing c.args.m.now c.args.line.now c.in-Err-Bad.field-0-0 (rw c.in-Err-Bad.field-0-is at c.in-Err-Bad.ensures.err)
