use Rattle.std.proofs.Common.{◌≤◌, ◌+◌, ◌∷◌, [], ◌++◌, length, drop, sym, ap, subst, ◌∙◌, arith, append-nil}
use Rattle.std.proofs.lemmas.List.{take_rest, length-drop, append_assoc}
use Rattle.ms_grammar.specs.Parts.{texts}
use Rattle.ms_line_parts.specs.Sizes.{array_count, array_counts, member_bytes, first_bytes}
use Rattle.ms_line_parts.proofs.Longest.{left_behind}
use Rattle.ms_line_parts.proofs.Levels.{turn, over}
use Rattle.ms_line_parts.proofs.terms.put_counts.Goals as goal

pub loop-count-preserved : goal.loop-count-preserved
loop-count-preserved c =
    let rest = take_rest c.args.object.now c.loop-count.at in
    let long : 3 ≤ length (drop c.loop-count.at c.args.object.now) = subst (λ ts. 3 ≤ length ts) rest c.in-Some.ensures.long in
    let left = texts c.args.line.now (drop c.loop-count.at c.args.object.now) in
    let one = turn c.in-Some.count left (ap (λ ts. array_count (texts c.args.line.now ts)) (sym rest) ∙ sym c.in-Some.ensures.is) in
    let behind = left_behind c.args.line.now c.args.object.now c.loop-count.at 3 in
    record {
      within = omega (arith, long, length-drop c.loop-count.at c.args.object.now);
      whole = c.loop-count.invariant.whole ∙ ap (λ l. c.loop-count.counts.items ++ l) (one.counts ∙ ap (λ ts. c.in-Some.count ∷ array_counts ts) behind)
          ∙ sym (append_assoc c.loop-count.counts.items (c.in-Some.count ∷ []) (array_counts (texts c.args.line.now (drop (c.loop-count.at + 3) c.args.object.now))))
          ∙ ap (λ l. l ++ array_counts (texts c.args.line.now (drop (c.loop-count.at + 3) c.args.object.now))) (sym c.in_ok-push.ensures.items);
      bytes = c.loop-count.invariant.bytes ∙ one.bytes ∙ ap member_bytes behind;
    }

pub returns-clause-counts : goal.returns-clause-counts
returns-clause-counts c =
    let rest = take_rest c.args.object.now c.loop-count.at in
    let end = over (texts c.args.line.now (drop c.loop-count.at c.args.object.now)) (ap (λ ts. array_count (texts c.args.line.now ts)) (sym rest) ∙ sym c.in_default.ensures.is) in
    sym (c.loop-count.invariant.whole ∙ ap (λ l. c.loop-count.counts.items ++ l) end.counts ∙ append-nil c.loop-count.counts.items)

pub returns-clause-bytes : goal.returns-clause-bytes
returns-clause-bytes c =
    let rest = take_rest c.args.object.now c.loop-count.at in
    let end = over (texts c.args.line.now (drop c.loop-count.at c.args.object.now)) (ap (λ ts. array_count (texts c.args.line.now ts)) (sym rest) ∙ sym c.in_default.ensures.is) in
    c.first_bytes.ensures.is ∙ ap (λ ts. first_bytes (texts c.args.line.now ts)) rest ∙ sym (c.loop-count.invariant.bytes ∙ end.bytes)
