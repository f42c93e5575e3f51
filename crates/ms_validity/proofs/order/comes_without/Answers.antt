use Rattle.std.proofs.Common.{leb, arith}
use Rattle.std.proofs.lemmas.Bool.{leb-true, le-leb}
use Rattle.ms_validity.proofs.PathLemmas.{past_told, same_block_told, other_block_told}
use Rattle.ms_validity.proofs.order.comes_without.Goals as goal

pub returns-then-at-block_count-clause-told : goal.returns-then-at-block_count-clause-told
returns-then-at-block_count-clause-told c =
    past_told c.args.flow.now.graph c.args.first c.args.at c.requires.closed (let n = c.block_count.ensures in let ge = c.if-at-block_count.true in omega arith)

pub returns-then-first-at-clause-told : goal.returns-then-first-at-clause-told
returns-then-first-at-clause-told c =
    same_block_told c.args.flow.now.graph c.args.first c.args.at (leb c.args.at.place c.args.first.place) (c.reached.ensures.0 c.if-not-reached.false) c.if-first-at.true
    (leb-true c.args.at.place c.args.first.place, le-leb c.args.at.place c.args.first.place)

pub returns-clause-told : goal.returns-clause-told
returns-clause-told c =
    other_block_told (λ g closed b. c.order_told.ensures.reached g closed b) c.args.flow.now.graph c.args.first c.args.at c.cuts.result c.requires.closed c.if-first-at.false c.cuts.ensures.cuts
