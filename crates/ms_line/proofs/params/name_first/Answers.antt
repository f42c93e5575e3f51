use Rattle.ms_line.proofs.ParamLemmas.{name_found, name_none}
use Rattle.ms_line.proofs.params.name_first.Goals as goal

pub returns-in-Some-2 : goal.returns-in-Some-2
returns-in-Some-2 c =
    let told = rw c.in-Some-2.is at c.in_ok-name-in-Some.ensures in
    name_found c.args.line.now c.args.tokens.now c.in-Some.field-0-1.now c.in-Some.first c.in-Some-2.name c.in-Some.ensures.cells told.0 told.1

pub returns-in-None-2 : goal.returns-in-None-2
returns-in-None-2 c =
    let told = rw c.in-None-2.is at c.in_ok-name-in-Some.ensures in
    name_none c.args.line.now c.args.tokens.now c.in-Some.field-0-1.now c.in-Some.first c.in-Some.ensures.cells told
