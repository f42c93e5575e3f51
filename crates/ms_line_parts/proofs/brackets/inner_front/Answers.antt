use Rattle.std.proofs.Common.{◌+◌, ap, ◌∙◌, drop, Some}
use Rattle.std.proofs.lemmas.List.{at_drop_more}
use Rattle.ms_grammar.specs.Words.{spelling}
use Rattle.ms_grammar.specs.Parts.{texts}
use Rattle.ms_line_parts.specs.Reach.{open_marks, inner_of, further_on}
use Rattle.ms_line_parts.proofs.Marks.{inner_turn}
use Rattle.ms_line_parts.proofs.brackets.inner_front.Goals as goal

pub loop-at-preserved : goal.loop-at-preserved
loop-at-preserved c =
    c.loop-at.invariant
    ∙ ap (λ ts. further_on c.loop-at.at (inner_of (spelling c.args.mark) (Some (open_marks c.loop-at.opened.items)) ts)) (at_drop_more (texts c.args.line.now) c.args.tokens.now c.loop-at.at _ c.loop-at-test.true)
    ∙ inner_turn (spelling c.args.mark) c.loop-at.at (texts c.args.line.now (drop (c.loop-at.at + 1) c.args.tokens.now)) _
    c.deref.ensures.value c.is_the_end.ensures c.if-is_the_end.false (c.in_ok-pass.ensures.yes c.if-not-branch.false)
