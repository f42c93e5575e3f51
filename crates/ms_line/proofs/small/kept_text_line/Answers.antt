use Rattle.ms_line.proofs.Wholes.{kept_found, no_kept}
use Rattle.ms_line.proofs.small.kept_text_line.Goals as goal

pub returns-then-not-branch : goal.returns-then-not-branch
returns-then-not-branch c = no_kept c.args.line.now c.args.tokens.now (c.in_ok-is_kept_line.ensures.no c.if-not-branch.true)

pub returns : goal.returns
returns c =
    kept_found c.args.line.now c.args.tokens.now c.in_ok-text.text (c.in_ok-is_kept_line.ensures.yes c.if-not-branch.false) c.in_ok-text.ensures
