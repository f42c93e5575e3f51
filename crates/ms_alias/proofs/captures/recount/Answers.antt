use Rattle.std.proofs.Common.{◌∙◌}
use Rattle.ms_alias.proofs.Counting.{counted_more}
use Rattle.ms_alias.proofs.captures.recount.Goals as goal

pub loop-i-preserved : goal.loop-i-preserved
loop-i-preserved c =
    (c.add_number.ensures.len ∙ c.loop-i.invariant.0, counted_more c.args.bases.now c.args.func.now c.args.skip c.loop-i.i c.loop-i.marks c.add_number.new.marks c.loop-i.invariant.1 c.add_number.ensures)
