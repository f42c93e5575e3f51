use Rattle.ms_output.proofs.Outputs.{refusal_same, output_same, output_apart}
use Rattle.ms_output.proofs.laws.one_output.Goals as goal

pub returns-clause-text : goal.returns-clause-text
returns-clause-text c =
    let r = c.one_draft.ensures in
    output_same (record { draft = r.draft; cause = r.cause; apart = r.apart }) c.one_annotated.ensures

pub returns-clause-refusal : goal.returns-clause-refusal
returns-clause-refusal c =
    let r = c.one_draft.ensures in
    refusal_same (record { draft = r.draft; cause = r.cause; apart = r.apart })

pub returns-clause-apart : goal.returns-clause-apart
returns-clause-apart c =
    let r = c.one_draft.ensures in
    output_apart (record { draft = r.draft; cause = r.cause; apart = r.apart })
