use Rattle.std.proofs.Common.{◌≡◌, take}
use Rattle.std.specs.Prelude.{None}
use Rattle.ms_ir.specs.Func.{insts_at}
use Rattle.ms_build.specs.Filled.{last_from}
use Rattle.ms_ir.proofs.Along.{IsCursor}
use Rattle.ms_climb.proofs.start.last_among.Given as goal

-- the last Def among the first instructions
abbrev pub invariant-loop-place : goal.invariant-loop-place
invariant-loop-place l = (l.last ≡ last_from None (take l.place (insts_at l.func.blocks l.fn.b.0))) × IsCursor l.func.blocks l.fn.b.0 l.place l.at
