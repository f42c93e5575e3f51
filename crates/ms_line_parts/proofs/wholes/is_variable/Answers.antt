use Rattle.std.proofs.Common.{◌+◌, sym, subst, ◌∙◌}
use Rattle.ms_grammar.specs.Parts.{texts}
use Rattle.ms_line_parts.specs.Rests.{IsKindPlace}
use Rattle.ms_line_parts.proofs.Globals.{variable_is, no_variable, balanced_left, text_length}
use Rattle.ms_line_parts.proofs.wholes.is_variable.Goals as goal

pub returns-in_ok-is_balanced-in-Some-clause-yes : goal.returns-in_ok-is_balanced-in-Some-clause-yes
returns-in_ok-is_balanced-in-Some-clause-yes c = λ e.
    variable_is _ c.in-Some.at (subst (λ o. IsKindPlace (texts c.args.line.now c.args.tokens.now) o) c.in-Some.is c.in_ok-at.ensures.is)
    (text_length c.args.line.now c.args.tokens.now (c.in-Some.at + 1) c.if-at-tokens.true)
    (sym (balanced_left c.args.line.now c.args.tokens.now (c.in-Some.at + 1) c.in_ok-is_balanced-in-Some.field-0 c.in_ok-is_balanced-in-Some.ensures) ∙ e)

pub returns-in_ok-is_balanced-in-Some-clause-no : goal.returns-in_ok-is_balanced-in-Some-clause-no
returns-in_ok-is_balanced-in-Some-clause-no c = λ e v.
    no_variable _ c.in-Some.at c.in_ok-is_balanced-in-Some.field-0 (subst (λ o. IsKindPlace (texts c.args.line.now c.args.tokens.now) o) c.in-Some.is c.in_ok-at.ensures.is)
    (balanced_left c.args.line.now c.args.tokens.now (c.in-Some.at + 1) c.in_ok-is_balanced-in-Some.field-0 c.in_ok-is_balanced-in-Some.ensures) e v
