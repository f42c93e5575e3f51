use Rattle.ms_effects.proofs.Columned.{same_columns, has_columns}
use Rattle.ms_effects.proofs.columns.columns_of.Goals as goal

pub returns-clause-exactly : goal.returns-clause-exactly
returns-clause-exactly c = same_columns c.args.func.now c.args.root _ _ c.put_in_order.ensures.same c.in_ok-columns.ensures

pub returns-clause-columns : goal.returns-clause-columns
returns-clause-columns c = has_columns c.args.func.now c.args.root _ (same_columns c.args.func.now c.args.root _ _ c.put_in_order.ensures.same c.in_ok-columns.ensures)
