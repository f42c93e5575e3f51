use Rattle.std.proofs.Common.{[]}
use Rattle.ms_script.proofs.Fronts.{target_spot}
use Rattle.ms_script.proofs.front.target_at.Goals as goal

pub returns-in-None : goal.returns-in-None
returns-in-None c = λ block n target.
    (rw c.in-None.is at c.in_ok-block.ensures.spot) block n [] (target_spot c.args.line.now block n c.args.tokens.now c.in-Some.spot.now c.in-Some.to c.in-Some.ensures.cells target)
