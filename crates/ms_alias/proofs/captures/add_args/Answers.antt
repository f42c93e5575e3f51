use Rattle.ms_alias.proofs.Counting.{adds_arg}
use Rattle.ms_alias.proofs.captures.add_args.Goals as goal

pub loop-k-preserved : goal.loop-k-preserved
loop-k-preserved c =
    adds_arg c.args.bases.now c.args.args.now c.loop-k.k c.index-args-k.result c.args.marks.now c.loop-k.marks c.add_arg.new.marks c.loop-k-test.true c.index-args-k.is c.loop-k.invariant c.add_arg.ensures
