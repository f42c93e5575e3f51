use Rattle.std.proofs.lemmas.Bool.{iff_false}
use Rattle.ms_script.proofs.LineLemmas.{line_cause, none_said}
use Rattle.ms_script.proofs.line.said_by.Goals as goal

pub returns-in-Err-clause-err : goal.returns-in-Err-clause-err
returns-in-Err-clause-err c =
    line_cause c.args.m.now c.args.line.now c.args.tokens.now c.in-Some.front.rest.now c.in-Some.front.verb c.in-Some.front.func c.in-Err.fault c.requires.all
    (iff_false c.is_end.ensures c.if-is_end.false) c.in-Some.ensures.front c.in-Err.ensures.err

pub returns-in-None-clause-err : goal.returns-in-None-clause-err
returns-in-None-clause-err c = none_said c.args.m.now c.args.line.now c.args.tokens.now c.requires.all (iff_false c.is_end.ensures c.if-is_end.false) c.in-None.ensures.front
