use Rattle.ms_script.proofs.LineLemmas.{insert_cause}
use Rattle.ms_script.proofs.line.insert_at.Goals as goal

pub returns-in-Err-clause-err : goal.returns-in-Err-clause-err
returns-in-Err-clause-err c = insert_cause c.args.m.now c.args.line.now c.args.block c.args.number c.args.rest.now c.in-Err.fault c.in-Err.ensures.err
