use Rattle.ms_line.proofs.Wholes.{first_global_told}
use Rattle.ms_line.proofs.small.first_global.Goals as goal

pub returns-in_ok-global_text-in-Some : goal.returns-in_ok-global_text-in-Some
returns-in_ok-global_text-in-Some c =
    first_global_told c.args.line.now c.args.tokens.now c.in-Some.field-0-1.now c.in-Some.first c.in_ok-global_text-in-Some.field-0 c.in-Some.ensures.cells c.in_ok-global_text-in-Some.ensures
