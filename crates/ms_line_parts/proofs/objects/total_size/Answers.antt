use Rattle.std.proofs.Common.{◌*◌, ◌≤◌, length, drop, sym, ap, subst, ◌∙◌, arith}
use Rattle.std.proofs.lemmas.List.{take_rest, length-drop}
use Rattle.ms_grammar.specs.Parts.{texts}
use Rattle.ms_line_parts.specs.Sizes.{size_times, cut, array_count, first_bytes}
use Rattle.ms_line_parts.proofs.Longest.{left_behind}
use Rattle.ms_line_parts.proofs.Totals.{size_more, size_end}
use Rattle.ms_line_parts.proofs.objects.total_size.Goals as goal

pub loop-count-preserved : goal.loop-count-preserved
loop-count-preserved c =
    let rest = take_rest c.args.tokens.now c.loop-count.at in
    let long : 3 ≤ length (drop c.loop-count.at c.args.tokens.now) = subst (λ ts. 3 ≤ length ts) rest c.in-Some.ensures.long in
    let more = size_more c.loop-count.size c.in-Some.count (texts c.args.line.now (drop c.loop-count.at c.args.tokens.now)) (ap (λ ts. array_count (texts c.args.line.now ts)) (sym rest) ∙ sym c.in-Some.ensures.is) in
    record {
      within = omega (arith, long, length-drop c.loop-count.at c.args.tokens.now);
      total = c.loop-count.invariant.total ∙ more
          ∙ ap (λ n. cut (size_times n (drop 3 (texts c.args.line.now (drop c.loop-count.at c.args.tokens.now))))) (sym c.saturating_mul-size.ensures)
          ∙ ap (λ ts. cut (size_times c.saturating_mul-size.result ts)) (left_behind c.args.line.now c.args.tokens.now c.loop-count.at 3);
    }

pub returns : goal.returns
returns c =
    let rest = take_rest c.args.tokens.now c.loop-count.at in
    let end = size_end c.loop-count.size (texts c.args.line.now (drop c.loop-count.at c.args.tokens.now)) (ap (λ ts. array_count (texts c.args.line.now ts)) (sym rest) ∙ sym c.in_default.ensures.is) in
    let last = c.first_bytes.ensures.is ∙ ap (λ ts. first_bytes (texts c.args.line.now ts)) rest in
    c.saturating_mul.ensures ∙ ap (λ n. cut (c.loop-count.size * n)) last ∙ sym (c.loop-count.invariant.total ∙ ap cut end)
