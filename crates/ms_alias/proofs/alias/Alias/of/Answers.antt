use Rattle.std.proofs.Common.{sym, subst, arith}
use Rattle.ms_alias.specs.Building.{IsBeyond}
use Rattle.ms_alias.proofs.Renewed.{room_beyond}
use Rattle.ms_alias.proofs.alias.Alias.of.Goals as goal

pub find_all_origins-requires-clause-few : goal.find_all_origins-requires-clause-few
find_all_origins-requires-clause-few c =
    let sets = c.in_ok-bases.ensures.count in
    let count = c.count.ensures in
    let locals = c.local_count-count.ensures in
    let few = c.if-count.false in
    omega arith

pub find_all_origins-requires-clause-beyond : goal.find_all_origins-requires-clause-beyond
find_all_origins-requires-clause-beyond c = subst (IsBeyond c.args.func.now) (sym c.count.ensures) (room_beyond c.in_ok-bases.bases c.args.func.now c.in_ok-bases.ensures.room)
