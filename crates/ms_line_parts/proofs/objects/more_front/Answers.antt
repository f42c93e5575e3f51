use Rattle.std.proofs.Common.{◌≤◌, length, drop, sym, ap, subst, ◌∙◌, arith}
use Rattle.std.proofs.lemmas.List.{take_rest, length-drop}
use Rattle.ms_grammar.specs.Parts.{texts}
use Rattle.ms_line_parts.specs.Sizes.{starts_more, more_length}
use Rattle.ms_line_parts.proofs.Longest.{left_behind}
use Rattle.ms_line_parts.proofs.Indexing.{more_turn, more_end}
use Rattle.ms_line_parts.proofs.objects.more_front.Goals as goal

pub loop-at-preserved : goal.loop-at-preserved
loop-at-preserved c =
    let rest = take_rest c.args.tokens.now c.loop-at.at in
    let long : 3 ≤ length (drop c.loop-at.at c.args.tokens.now) = subst (λ ts. 3 ≤ length ts) rest (c.starts_more.ensures.long c.loop-at-test.true) in
    let more = more_turn (texts c.args.line.now (drop c.loop-at.at c.args.tokens.now)) (ap (λ ts. starts_more (texts c.args.line.now ts)) (sym rest) ∙ sym c.starts_more.ensures.is ∙ c.loop-at-test.true) in
    let count = ap more_length (left_behind c.args.line.now c.args.tokens.now c.loop-at.at 3) in
    record { within = omega (arith, long, length-drop c.loop-at.at c.args.tokens.now); sum = omega (arith, more, count, c.loop-at.invariant.sum) }

pub returns-clause-is : goal.returns-clause-is
returns-clause-is c =
    let rest = take_rest c.args.tokens.now c.loop-at.at in
    let none = more_end (texts c.args.line.now (drop c.loop-at.at c.args.tokens.now)) (ap (λ ts. starts_more (texts c.args.line.now ts)) (sym rest) ∙ sym c.starts_more.ensures.is ∙ c.loop-at-test.false) in
    omega (arith, none, c.loop-at.invariant.sum)
