use Rattle.std.proofs.Common.{◌≡◌, drop}
use Rattle.ms_resolve.specs.Reader.{scope_by}
use Rattle.ms_resolve.specs.Build.{insts_after}
use Rattle.ms_resolve.proofs.body.add_insts.Given as goal

-- the instructions so far, and those of the rest behind them
abbrev pub invariant-loop-line : goal.invariant-loop-line
invariant-loop-line l = insts_after (scope_by l.reader) l.b l.func (drop l.line-index l.lines) ≡ insts_after (scope_by l.reader) 0 l.initial.func l.lines
