use Rattle.std.proofs.Common.{length}
use Rattle.ms_grammar.specs.Form.{entry_parts}
use Rattle.ms_grammar.specs.Fits.{IsEntryOf}
use Rattle.ms_line_insts.specs.ListFronts.{IsTail}
use Rattle.ms_line_insts.proofs.Lists.{SoFar}
use Rattle.ms_line_insts.proofs.phi.entries.Given as goal

abbrev pub invariant-loop-entries : goal.invariant-loop-entries
invariant-loop-entries l = SoFar IsTail (IsEntryOf l.ty) entry_parts l.line l.tokens l.entries l.at

abbrev pub decreases-loop-entries : goal.decreases-loop-entries
decreases-loop-entries l = length l.at
