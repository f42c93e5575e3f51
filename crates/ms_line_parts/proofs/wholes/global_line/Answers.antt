use Rattle.std.proofs.Common.{sym, subst, ◌∙◌}
use Rattle.ms_line_parts.specs.Rests.{IsVariable}
use Rattle.ms_line_parts.proofs.Globals.{global_is, no_global, behind_two}
use Rattle.ms_line_parts.proofs.wholes.global_line.Goals as goal

pub returns-in_ok-is_variable-in-len2-up-clause-yes : goal.returns-in_ok-is_variable-in-len2-up-clause-yes
returns-in_ok-is_variable-in-len2-up-clause-yes c = λ e.
    global_is _ (sym c.has_global_head.ensures.is ∙ c.if-has_global_head.true) (subst (λ ts. IsVariable ts) (sym (behind_two c.args.line.now c.args.tokens.now)) (c.in_ok-is_variable-in-len2-up.ensures.yes e))

pub returns-in_ok-is_variable-in-len2-up-clause-no : goal.returns-in_ok-is_variable-in-len2-up-clause-no
returns-in_ok-is_variable-in-len2-up-clause-no c = λ e name is.
    c.in_ok-is_variable-in-len2-up.ensures.no e (subst (λ ts. IsVariable ts) (behind_two c.args.line.now c.args.tokens.now) (no_global _ name is).1)

pub returns-in_default-2-clause-no : goal.returns-in_default-2-clause-no
returns-in_default-2-clause-no c = λ e name is. let there = (no_global _ name is).0 in let told = c.has_global_head.ensures.is in let no = c.if-has_global_head.false in cc
