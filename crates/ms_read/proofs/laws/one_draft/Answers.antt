use Rattle.ms_read.proofs.OneDraft as drafts
use Rattle.ms_read.proofs.laws.one_draft.Goals as goal

pub returns-clause-draft : goal.returns-clause-draft
returns-clause-draft c = drafts.one_draft

pub returns-clause-cause : goal.returns-clause-cause
returns-clause-cause c = drafts.one_cause

pub returns-clause-apart : goal.returns-clause-apart
returns-clause-apart c = drafts.draft_or_cause
