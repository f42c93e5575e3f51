use Rattle.ms_again.proofs.OneModule.{one_module}
use Rattle.ms_again.proofs.laws.one_module.Goals as goal

pub returns : goal.returns
returns c = one_module
