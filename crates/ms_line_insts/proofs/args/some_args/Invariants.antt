use Rattle.std.proofs.Common.{length}
use Rattle.ms_grammar.specs.Form.{arg_parts}
use Rattle.ms_grammar.specs.Fits.{IsArg}
use Rattle.ms_line_insts.specs.CallFronts.{EndsClosed}
use Rattle.ms_line_insts.proofs.Lists.{SoFar}
use Rattle.ms_line_insts.proofs.args.some_args.Given as goal

abbrev pub invariant-loop-args : goal.invariant-loop-args
invariant-loop-args l = SoFar EndsClosed IsArg arg_parts l.line l.tokens l.args l.at

abbrev pub decreases-loop-args : goal.decreases-loop-args
decreases-loop-args l = length l.at
