use Rattle.ms_script.proofs.ScopeLemmas.{no_block_there}
use Rattle.ms_script.proofs.lookup.block_at.Goals as goal

pub returns-in-None : goal.returns-in-None
returns-in-None c = no_block_there c.args.func.now c.args.name.now c.in-None.ensures
