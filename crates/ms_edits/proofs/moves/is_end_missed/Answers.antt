use Rattle.std.proofs.Common.{sym, subst, arith}
use Rattle.std.specs.Prelude.{IsTrue, ◌↔◌}
use Rattle.ms_paths.specs.Flow.{IsOnEveryPath}
use Rattle.ms_edits.proofs.PathLemmas.{behind_told, other_block_told, past_told}
use Rattle.ms_edits.proofs.moves.is_end_missed.Goals as goal

pub returns-then-c-block_count : goal.returns-then-c-block_count
returns-then-c-block_count c = λ k room.
    past_told c.args.flow.now.graph c.args.first.block c.args.first.place c.args.c k c.requires.closed (let n = c.block_count.ensures in let ge = c.if-c-block_count.true in omega arith)

pub returns-then-first-c : goal.returns-then-first-c
returns-then-first-c c = λ k room.
    behind_told c.args.flow.now.graph c.args.first.block c.args.first.place c.args.c k c.if-first-c.true (room c.if-first-c.true)

pub returns : goal.returns
returns c = λ k room.
    other_block_told (λ g closed b. c.order_told.ensures.reached g closed b) c.args.flow.now.graph c.args.first.block c.args.first.place c.args.c k c.told_of.result
    c.requires.closed c.if-first-c.false
    (subst (λ t. IsTrue t ↔ IsOnEveryPath c.args.flow.now.graph c.args.first.block c.args.c) (sym c.told_of.ensures)
    (c.requires.behind.behind c.args.c (let n = c.block_count.ensures in let lt = c.if-c-block_count.false in omega arith)))
