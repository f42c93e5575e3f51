use Rattle.std.proofs.Common.{leb, sym, subst}
use Rattle.std.specs.Prelude.{IsTrue, ◌↔◌}
use Rattle.std.proofs.lemmas.Bool.{leb-true, le-leb}
use Rattle.ms_paths.specs.Flow.{IsOnEveryPath}
use Rattle.ms_edits.proofs.PathLemmas.{same_block_told, other_block_told}
use Rattle.ms_edits.proofs.order.is_missed.Goals as goal

pub returns-then-first-at : goal.returns-then-first-at
returns-then-first-at c =
    same_block_told c.args.flow.now.graph c.args.first.block c.args.first.place c.args.at.block c.args.at.place (leb c.args.at.place c.args.first.place)
    (c.reached.ensures.0 c.if-not-reached.false) c.if-first-at.true (leb-true c.args.at.place c.args.first.place, le-leb c.args.at.place c.args.first.place)

pub returns : goal.returns
returns c =
    other_block_told (λ g closed b. c.order_told.ensures.reached g closed b) c.args.flow.now.graph c.args.first.block c.args.first.place c.args.at.block c.args.at.place c.told_of.result
    c.requires.closed c.if-first-at.false
    (subst (λ t. IsTrue t ↔ IsOnEveryPath c.args.flow.now.graph c.args.first.block c.args.at.block) (sym c.told_of.ensures) (c.requires.behind.behind c.args.at.block c.requires.there))
