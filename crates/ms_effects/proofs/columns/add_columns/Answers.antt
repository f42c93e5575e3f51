use Rattle.ms_effects.proofs.Columned.{columns_added}
use Rattle.ms_effects.proofs.columns.add_columns.Goals as goal

pub returns : goal.returns
returns c =
    columns_added c.args.func.now c.args.i c.args.root c.range_of.result c.range_of-2.result c.reads.result c.writes.result c.args.columns.now.items c.push_start.new.columns.items c.push_bounds.new.columns.items
    c.range_of.ensures c.reads.ensures c.range_of-2.ensures c.writes.ensures c.in_ok-push_start.ensures c.in_ok-push_bounds.ensures
