use Rattle.std.proofs.Common.{◌≡◌, ◌+◌, ◌-◌, ◌*◌, ◌^◌, ◌≤◌, pos, ◌+ℤ◌, ◌*ℤ◌, w64, length, drop, sym, ap, subst, ◌∙◌, arith}
use Rattle.std.proofs.lemmas.List.{take_rest, length-drop}
use Rattle.std.proofs.lemmas.Int.{to_z-of_z}
use Rattle.ms_grammar.specs.Parts.{texts}
use Rattle.ms_line_parts.specs.Sizes.{array_count, first_bytes}
use Rattle.ms_line_parts.specs.Sums.{IsSum, next_index, taken, sum_over}
use Rattle.ms_line_parts.proofs.Longest.{left_behind, left_told, left_within}
use Rattle.ms_line_parts.proofs.Offsets.{turn, sum_end, lower, cut_small}
use Rattle.ms_line_parts.proofs.objects.sum_over.Goals as goal

pub loop-count-preserved : goal.loop-count-preserved
loop-count-preserved c =
    let rest = take_rest c.args.object.now c.loop-count.at in
    let long : 3 ≤ length (drop c.loop-count.at c.args.object.now) = subst (λ ts. 3 ≤ length ts) rest c.in-Some.ensures.long in
    let one = turn c.loop-count.invariant.value c.in-Some.count (texts c.args.line.now (drop c.loop-count.at c.args.object.now)) (texts c.args.line.now (drop c.loop-count.place c.args.indices.now))
    (ap (λ ts. array_count (texts c.args.line.now ts)) (sym rest) ∙ sym c.in-Some.ensures.is) in
    let index : c.next_index-index.result ≡ next_index (texts c.args.line.now (drop c.loop-count.place c.args.indices.now)) =
    c.next_index-index.ensures ∙ ap (λ ts. next_index (texts c.args.line.now ts)) (take_rest c.args.indices.now c.loop-count.place) in
    let count = left_told c.args.line.now c.args.indices.now c.loop-count.place taken c.taken-place.result c.taken-place.ensures.is in
    let product = c.times.ensures c.loop-count.invariant.value (2 ^ 127 - 1 - c.loop-count.at * 2 ^ 62) one.m (omega arith) one.count c.loop-count.invariant.is in
    let nearer = lower (2 ^ 127 - 1 - (c.loop-count.at + 3) * 2 ^ 62 + 2 ^ 63) (2 ^ 127 - 1 - c.loop-count.at * 2 ^ 62) (c.loop-count.invariant.value *ℤ pos one.m) c.times.result (omega arith) product in
    let sum = c.plus-sum.ensures (c.loop-count.invariant.value *ℤ pos one.m) (2 ^ 127 - 1 - (c.loop-count.at + 3) * 2 ^ 62) (omega arith) nearer in
    record {
      within = omega (arith, long, length-drop c.loop-count.at c.args.object.now);
      placed = left_within c.args.indices.now c.loop-count.place c.taken-place.result c.loop-count.invariant.placed c.taken-place.ensures.within;
      value = (c.loop-count.invariant.value *ℤ pos one.m) +ℤ next_index (texts c.args.line.now (drop c.loop-count.place c.args.indices.now));
      is = subst (λ v. IsSum (2 ^ 127 - 1 - (c.loop-count.at + 3) * 2 ^ 62) ((c.loop-count.invariant.value *ℤ pos one.m) +ℤ v) c.plus-sum.result) (to_z-of_z w64 c.next_index-index.result (record { sfits = c.next_index-index.type_inv }) ∙ index) sum;
      total = c.loop-count.invariant.total ∙ one.step
          ∙ ap (λ ts. sum_over ((c.loop-count.invariant.value *ℤ pos one.m) +ℤ next_index (texts c.args.line.now (drop c.loop-count.place c.args.indices.now))) ts
          (drop (taken (texts c.args.line.now (drop c.loop-count.place c.args.indices.now))) (texts c.args.line.now (drop c.loop-count.place c.args.indices.now))))
          (left_behind c.args.line.now c.args.object.now c.loop-count.at 3)
          ∙ ap (λ us. sum_over ((c.loop-count.invariant.value *ℤ pos one.m) +ℤ next_index (texts c.args.line.now (drop c.loop-count.place c.args.indices.now)))
          (texts c.args.line.now (drop (c.loop-count.at + 3) c.args.object.now)) us)
          (ap (λ n. drop n (texts c.args.line.now (drop c.loop-count.place c.args.indices.now))) (sym count) ∙ left_behind c.args.line.now c.args.indices.now c.loop-count.place c.taken-place.result);
    }

pub returns : goal.returns
returns c =
    let rest = take_rest c.args.object.now c.loop-count.at in
    let none = ap (λ ts. array_count (texts c.args.line.now ts)) (sym rest) ∙ sym c.in_default.ensures.is in
    let end = sum_end c.loop-count.invariant.value (texts c.args.line.now (drop c.loop-count.at c.args.object.now)) (texts c.args.line.now (drop c.loop-count.place c.args.indices.now)) none in
    let last = c.first_bytes.ensures.is ∙ ap (λ ts. first_bytes (texts c.args.line.now ts)) rest in
    let product = c.times-2.ensures c.loop-count.invariant.value (2 ^ 127 - 1 - c.loop-count.at * 2 ^ 62) (first_bytes (texts c.args.line.now (drop c.loop-count.at c.args.object.now))) (omega arith)
    (cut_small c.first_bytes.result _ last c.first_bytes.ensures.small) c.loop-count.invariant.is in
    let far_enough = lower (2 ^ 126) (2 ^ 127 - 1 - c.loop-count.at * 2 ^ 62) _ c.times-2.result (omega arith) product in
    subst (λ v. IsSum (2 ^ 126) (sum_over v (texts c.args.line.now c.args.object.now) (drop 2 (texts c.args.line.now c.args.indices.now))) c.times-2.result) (to_z-of_z w64 c.args.first c.ranges.first)
    (subst (λ z. IsSum (2 ^ 126) z c.times-2.result) (sym (c.loop-count.invariant.total ∙ end)) far_enough)
