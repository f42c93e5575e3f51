use Rattle.std.proofs.Common.{sym, ◌∙◌}
use Rattle.ms_line.proofs.Wholes.{close_found}
use Rattle.ms_line.proofs.small.close.Goals as goal

pub returns : goal.returns
returns c =
    let first = c.starts_with.ensures.is.0 c.if-not-starts_with.false in
    close_found c.args.line.now c.args.tokens.now first.0 first.1 (sym c.behind.ensures.value ∙ c.is_end.ensures.0 c.if-not-is_end.false)
