use Rattle.std.proofs.Common.{◌∙◌, sym}
use Rattle.ms_alias.proofs.Counting.{val_columns}
use Rattle.ms_alias.proofs.captures.add_arg.Goals as goal

pub add_set-requires-clause-columns : goal.add_set-requires-clause-columns
add_set-requires-clause-columns c = λ k e. val_columns c.args.bases.now c.requires.columns c.args.arg.now.val k (sym c.val_set.ensures ∙ e)
