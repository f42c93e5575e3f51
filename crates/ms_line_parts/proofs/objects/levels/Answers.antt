use Rattle.std.proofs.Common.{◌≡◌, ◌+◌, ◌*◌, ◌≤◌, length, drop, sym, ap, subst, ◌∙◌, arith}
use Rattle.std.proofs.lemmas.List.{take_rest, length-drop}
use Rattle.ms_grammar.specs.Parts.{texts}
use Rattle.ms_line_parts.specs.Sizes.{starts_array, counts_of}
use Rattle.ms_line_parts.proofs.Longest.{left_behind}
use Rattle.ms_line_parts.proofs.Sizing.{array_more, array_none}
use Rattle.ms_line_parts.proofs.objects.levels.Goals as goal

pub loop-k-preserved : goal.loop-k-preserved
loop-k-preserved c =
    let rest = take_rest c.args.tokens.now (3 * c.loop-k.k) in
    let long : 3 ≤ length (drop (3 * c.loop-k.k) c.args.tokens.now) = subst (λ ts. 3 ≤ length ts) rest (c.starts_array.ensures.long c.loop-k-test.true) in
    let more = array_more (texts c.args.line.now (drop (3 * c.loop-k.k) c.args.tokens.now)) (ap (λ ts. starts_array (texts c.args.line.now ts)) (sym rest) ∙ sym c.starts_array.ensures.is ∙ c.loop-k-test.true) in
    let next : 3 * c.loop-k.k + 3 ≡ 3 * (c.loop-k.k + 1) = omega arith in
    let behind = left_behind c.args.line.now c.args.tokens.now (3 * c.loop-k.k) 3 ∙ ap (λ j. texts c.args.line.now (drop j c.args.tokens.now)) next in
    let count = ap (λ ts. length (counts_of ts)) behind in
    record { within = omega (arith, long, length-drop (3 * c.loop-k.k) c.args.tokens.now); sum = omega (arith, more, count, c.loop-k.invariant.sum) }

pub returns-clause-is : goal.returns-clause-is
returns-clause-is c =
    let rest = take_rest c.args.tokens.now (3 * c.loop-k.k) in
    let none = array_none (texts c.args.line.now (drop (3 * c.loop-k.k) c.args.tokens.now)) (ap (λ ts. starts_array (texts c.args.line.now ts)) (sym rest) ∙ sym c.starts_array.ensures.is ∙ c.loop-k-test.false) in
    omega (arith, none, c.loop-k.invariant.sum)
