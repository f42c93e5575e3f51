use Rattle.std.proofs.Common.{sym, ◌∙◌}
use Rattle.ms_line_insts.proofs.FlagLemmas.{flags_same}
use Rattle.ms_line_insts.proofs.flags.same_flags.Goals as goal

pub returns-clause-yes : goal.returns-clause-yes
returns-clause-yes c = λ is. flags_same c.args.a c.args.b (sym c.eq.ensures ∙ is)
