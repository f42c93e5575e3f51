use Rattle.ms_ir.proofs.FuncLemmas.{at_and_nowhere}
use Rattle.ms_ir.proofs.LookLemmas.{giver_at}
use Rattle.ms_ir.proofs.func.Func.giver.Goals as goal

pub returns-in-Some-node-clause-found : goal.returns-in-Some-node-clause-found
returns-in-Some-node-clause-found c =
    let found = c.in-Some.ensures.found in
    (found.0, found.1, found.2, record { found = found.3.found; gives = found.4 }, c.in-Some-node.ensures.each found.0 found.1 found.2 found.3)

pub returns-in-Some-node-clause-each : goal.returns-in-Some-node-clause-each
returns-in-Some-node-clause-each c = λ b place x g. c.in-Some-node.ensures.each b place x (giver_at _ c.args.l b place _ x g (c.in-Some.ensures.each b place x g))

pub returns-in-None-node-clause-found : goal.returns-in-None-node-clause-found
returns-in-None-node-clause-found c = λ b place x g. at_and_nowhere _ _ b place x c.in-None-node.ensures.found (giver_at _ c.args.l b place _ x g (c.in-Some.ensures.each b place x g))
