use Rattle.ms_script.proofs.Fronts.{no_func_front}
use Rattle.ms_script.proofs.front.front_at.Goals as goal

pub returns-in-None-clause-front : goal.returns-in-None-clause-front
returns-in-None-clause-front c =
    no_func_front c.args.m.now c.args.line.now c.args.tokens.now c.in-Some.behind.now c.in-Some-cut.rest.now c.in-Some.first c.in-Some-cut.second c.in-Some.ensures.cells c.in-Some-cut.ensures.cells c.in-None.ensures
