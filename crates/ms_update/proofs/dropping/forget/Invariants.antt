use Rattle.ms_ir.proofs.Along.{IsCursor}
use Rattle.ms_build.proofs.Define.{UpTo}
use Rattle.ms_update.specs.Dropped.{AreCleared}
use Rattle.ms_update.proofs.Cleared.{NoBlock}
use Rattle.ms_update.proofs.dropping.forget.Given as goal

-- the first instructions name no access
abbrev pub invariant-loop-place : goal.invariant-loop-place
invariant-loop-place l = AreCleared l.func.blocks (UpTo l.fn.b.0 l.place) NoBlock l.fn.form l.form × IsCursor l.func.blocks l.fn.b.0 l.place l.at
