use Rattle.ms_alias.proofs.Queries.{gone_written}
use Rattle.ms_alias.proofs.alias.Alias.write_at.Goals as goal

pub returns-in-None : goal.returns-in-None
returns-in-None c = gone_written c.args.func.now c.args.self.now.origins c.args.i.0 c.in-None.ensures.found
