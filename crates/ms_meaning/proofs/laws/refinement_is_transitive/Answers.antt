use Rattle.ms_meaning.proofs.Transitive.{transitive}
use Rattle.ms_meaning.proofs.laws.refinement_is_transitive.Goals as goal

-- src/laws.rt:6:1
pub returns : goal.returns
returns c = transitive
