use Rattle.std.proofs.Common.{sym}
use Rattle.ms_line_insts.proofs.Fronts.{word_lead, word_none}
use Rattle.ms_line_insts.proofs.steps.behind_word.Goals as goal

pub returns-then-is_keyword : goal.returns-then-is_keyword
returns-then-is_keyword c = word_lead c.args.line.now c.args.tokens.now c.in-Some.first c.in-Some.rest.now c.args.keyword c.in-Some.ensures.cells c.in-Some.ensures.behind (sym c.if-is_keyword.ensures)

pub returns-else-is_keyword : goal.returns-else-is_keyword
returns-else-is_keyword c = word_none c.args.line.now c.args.tokens.now c.in-Some.first c.in-Some.rest.now c.args.keyword c.in-Some.ensures.cells (sym c.if-is_keyword.ensures)
