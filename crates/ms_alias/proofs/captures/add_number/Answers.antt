use Rattle.ms_alias.specs.Building.{IsCountedAs}
use Rattle.ms_alias.proofs.Counting.{adds_none, nowhere_counted}
use Rattle.ms_alias.proofs.captures.add_number.Goals as goal

pub returns-in_default : goal.returns-in_default
returns-in_default c = adds_none (IsCountedAs c.args.bases.now c.args.func.now c.args.skip c.args.i) c.args.marks.now (λ k. nowhere_counted c.args.bases.now c.args.func.now c.args.skip c.args.i k c.in_default.ensures.found)
