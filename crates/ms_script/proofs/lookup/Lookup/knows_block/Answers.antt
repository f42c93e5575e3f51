use Rattle.std.proofs.lemmas.Bool.{false≢true}
use Rattle.ms_script.proofs.ScopeLemmas.{no_block_there}
use Rattle.ms_script.proofs.lookup.Lookup.knows_block.Goals as goal

pub returns-in-None : goal.returns-in-None
returns-in-None c = (λ t. absurd (false≢true t), λ h. absurd (no_block_there c.args.self.now.func.now c.args.name.now c.in-None.ensures h))
