use Rattle.std.proofs.Common.{sym}
use Rattle.ms_cli.proofs.Runs.{unwritten_by}
use Rattle.ms_cli.proofs.run.compute.Goals as goal

pub returns-clause-computes : goal.returns-clause-computes
returns-clause-computes g c =
    unwritten_by _ c.args.words.now _ _ _ _ c.ending_for.result (sym c.in-Some.ensures) c.in-Ok.ensures.loads c.bytes-2.ensures c.ending_for.ensures c.in-Err-render.ensures
