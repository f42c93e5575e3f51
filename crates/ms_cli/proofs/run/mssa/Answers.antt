use Rattle.ms_cli.proofs.Jobs.{complete_by, module_by}
use Rattle.ms_cli.proofs.run.mssa.Goals as goal

pub returns-clause-complete : goal.returns-clause-complete
returns-clause-complete g c = λ job. complete_by c.one_job.ensures _ _ c.args.words.now c.run-ending.result.status job c.run-ending.ensures.run

pub returns-clause-module : goal.returns-clause-module
returns-clause-module g c = module_by c.read_again.ensures _ _ c.args.words.now c.run-ending.result.status c.run-ending.ensures.run
