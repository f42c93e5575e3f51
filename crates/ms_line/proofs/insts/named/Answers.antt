use Rattle.ms_line.proofs.Cells.{not_true}
use Rattle.ms_line.proofs.InstLines.{no_equals, named_told}
use Rattle.ms_line.proofs.insts.named.Goals as goal

pub returns-then-not-starts_with : goal.returns-then-not-starts_with
returns-then-not-starts_with c =
    no_equals c.args.name c.args.line.now c.args.tokens.now (λ first. not_true c.starts_with.result c.if-not-starts_with.true (c.starts_with.ensures.is.1 first))

pub returns : goal.returns
returns c =
    let first = c.starts_with.ensures.is.0 c.if-not-starts_with.false in
    named_told c.args.name c.args.line.now c.args.tokens.now c.behind.result.now first.0 c.in_ok-made.field-0 first.1 c.behind.ensures.value c.in_ok-made.ensures
