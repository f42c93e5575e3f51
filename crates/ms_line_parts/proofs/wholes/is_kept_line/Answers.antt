use Rattle.std.proofs.Common.{sym, ◌∙◌}
use Rattle.ms_line_parts.proofs.KeptLines.{kept_is, kept_there}
use Rattle.ms_line_parts.proofs.wholes.is_kept_line.Goals as goal

pub returns-clause-yes : goal.returns-clause-yes
returns-clause-yes c = λ e. kept_is _ (sym c.in_ok-is_kept.ensures ∙ e)

pub returns-clause-no : goal.returns-clause-no
returns-clause-no c = λ e is. let there = kept_there _ is in let told = c.in_ok-is_kept.ensures in cc
