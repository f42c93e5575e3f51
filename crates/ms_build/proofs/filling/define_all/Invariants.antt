use Rattle.ms_build.specs.Filled.{AreDefined}
use Rattle.ms_build.proofs.Define.{ReachedBelow}
use Rattle.ms_build.proofs.filling.define_all.Given as goal

-- the first reached blocks are done
abbrev pub invariant-loop-b : goal.invariant-loop-b
invariant-loop-b l = AreDefined l.func.blocks (ReachedBelow l.flow.graph l.b) l.fn.form l.form
