use Rattle.ms_line.proofs.Wholes.{empty_found}
use Rattle.ms_line.proofs.small.empty.Goals as goal

pub returns-then-is_end : goal.returns-then-is_end
returns-then-is_end c = empty_found c.args.line.now c.args.tokens.now (c.is_end.ensures.0 c.if-is_end.true)
