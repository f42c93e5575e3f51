use Rattle.std.proofs.Common.{◌≡◌, drop}
use Rattle.ms_resolve.specs.Reader.{scope_by}
use Rattle.ms_resolve.specs.Build.{shells_after}
use Rattle.ms_resolve.proofs.body.add_shells.Given as goal

-- the blocks so far, and those of the rest behind them
abbrev pub invariant-loop-line : goal.invariant-loop-line
invariant-loop-line l = shells_after (scope_by l.reader) l.func (drop l.line-index l.lines) ≡ shells_after (scope_by l.reader) l.initial.func l.lines
