use Rattle.std.proofs.Common.{arith}
use Rattle.ms_alias.proofs.Rooms.{have_first, longer_on}
use Rattle.ms_alias.proofs.room.add_locals.Goals as goal

pub loop-l-preserved : goal.loop-l-preserved
loop-l-preserved c =
    let i = c.loop-l.invariant in
    let e = c.in_ok-add_local.ensures in
    (longer_on c.args.columns.now.items c.loop-l.columns.items c.add_local.new.columns.items i.0 e.longer, have_first c.args.func.now c.loop-l.l c.loop-l.columns.items c.add_local.new.columns.items i.1 e.longer e.globals)

pub returns-clause-globals : goal.returns-clause-globals
returns-clause-globals c =
    let stop = c.loop-l-test.false in
    λ k h. c.loop-l.invariant.1 k (omega (arith, h))
