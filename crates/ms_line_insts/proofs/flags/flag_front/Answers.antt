use Rattle.std.proofs.Common.{sym}
use Rattle.ms_grammar.specs.Words.{spelling}
use Rattle.ms_line_insts.proofs.Fronts.{word_none, empty_lead, token_single}
use Rattle.ms_line_insts.proofs.FlagLemmas.{flag_set, flag_unset}
use Rattle.ms_grammar.specs.Form.{word_part}
use Rattle.ms_line_insts.proofs.flags.flag_front.Goals as goal

pub returns-in_default : goal.returns-in_default
returns-in_default c =
    flag_unset c.args.line.now c.args.tokens.now c.args.keyword c.requires
    (empty_lead c.args.line.now c.args.tokens.now (word_part c.args.keyword) c.in_default.ensures.cells (token_single (spelling c.args.keyword)))

pub returns-then-is_keyword : goal.returns-then-is_keyword
returns-then-is_keyword c =
    flag_set c.args.line.now c.args.tokens.now c.in-Some.first c.in-Some.rest.now c.args.keyword c.in-Some.ensures.cells c.in-Some.ensures.behind (sym c.if-is_keyword.ensures)

pub returns-else-is_keyword : goal.returns-else-is_keyword
returns-else-is_keyword c =
    flag_unset c.args.line.now c.args.tokens.now c.args.keyword c.requires
    (word_none c.args.line.now c.args.tokens.now c.in-Some.first c.in-Some.rest.now c.args.keyword c.in-Some.ensures.cells (sym c.if-is_keyword.ensures))
