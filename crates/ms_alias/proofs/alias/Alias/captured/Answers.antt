use Rattle.std.proofs.Common.{ap, ◌∙◌}
use Rattle.ms_alias.specs.Tables.{caught_at}
use Rattle.ms_alias.proofs.Queries.{captured_told}
use Rattle.ms_alias.proofs.alias.Alias.captured.Goals as goal

pub returns : goal.returns
returns c = λ f is. captured_told f c.args.self.now is c.args.alloca c.caught_at.result (c.caught_at.ensures ∙ ap (caught_at c.args.self.now.captured) c.set_of.ensures)
