use Rattle.ms_cli.proofs.Jobs.{one_job_by}
use Rattle.ms_cli.proofs.laws.one_job.Goals as goal

pub returns : goal.returns
returns c =
    let r = c.one_output.ensures in
    one_job_by (record { text = r.text; refusal = r.refusal; apart = r.apart })
