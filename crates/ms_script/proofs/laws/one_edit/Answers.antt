use Rattle.ms_script.proofs.OneEdit as edits
use Rattle.ms_script.proofs.laws.one_edit.Goals as goal

pub returns-clause-edit : goal.returns-clause-edit
returns-clause-edit c = edits.one_edit

pub returns-clause-cause : goal.returns-clause-cause
returns-clause-cause c = edits.one_fault

pub returns-clause-apart : goal.returns-clause-apart
returns-clause-apart c = edits.edit_or_fault
