use Rattle.std.proofs.Common.{◌≡◌, length, reverse, sym, ap, ◌∙◌, arith}
use Rattle.std.specs.Prelude.{sum_by}
use Rattle.std.proofs.lemmas.List.{take_all}
use Rattle.ms_flow.specs.Table.{next_of}
use Rattle.ms_flow.specs.Flow.{walked}
use Rattle.ms_flow.proofs.Listed.{reached_below}
use Rattle.ms_flow.proofs.Orders.{left_place}
use Rattle.ms_flow.proofs.Sums.{sum_reversed}
use Rattle.ms_flow.proofs.search.count_left.Goals as goal

pub count-requires : goal.count-requires
count-requires c =
    let g = c.args.table.now in
    let all = c.left-left.ensures.left ∙ ap (λ w. w.left) c.requires.walked in
    reached_below g c.requires.closed _ (left_place g c.requires.closed c.left-left.result.now all c.loop-k.k (omega arith)).0

pub returns : goal.returns
returns c =
    let g = c.args.table.now in
    let left = c.left-left.result.now in
    let all : reverse left ≡ (walked g).left = c.left-left.ensures.left ∙ ap (λ w. w.left) c.requires.walked in
    let end = c.loop-k-test.false in
    c.loop-k.invariant.0 ∙ ap (sum_by (λ b. length (next_of g b))) (take_all c.loop-k.k left (omega arith)) ∙ sym (sum_reversed (λ b. length (next_of g b)) left) ∙ ap (sum_by (λ b. length (next_of g b))) all
