use Rattle.ms_script.proofs.OneScript as scripts
use Rattle.ms_script.proofs.laws.one_script.Goals as goal

pub returns-clause-script : goal.returns-clause-script
returns-clause-script c = scripts.one_script

pub returns-clause-cause : goal.returns-clause-cause
returns-clause-cause c = scripts.one_cause

pub returns-clause-apart : goal.returns-clause-apart
returns-clause-apart c = scripts.script_or_cause
