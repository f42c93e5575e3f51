use Rattle.std.proofs.Common.{◌≡◌, take}
use Rattle.std.specs.Prelude.{None}
use Rattle.ms_ir.specs.Func.{insts_at}
use Rattle.ms_build.specs.Filled.{last_from, IsBelow}
use Rattle.ms_ir.proofs.Along.{IsCursor}
use Rattle.ms_update.specs.Edits.{but_inst}
use Rattle.ms_update.proofs.removing.last_without.Given as goal

-- the last Def among the first instructions
abbrev pub invariant-loop-place : goal.invariant-loop-place
invariant-loop-place l = (l.last ≡ last_from None (but_inst l.fn.i.0 (take l.place (insts_at l.func.blocks l.fn.b.0)))) × IsBelow l.func.made l.last × IsCursor l.func.blocks l.fn.b.0 l.place l.at
