use Rattle.ms_validity.proofs.SourceLemmas.{AreListed}
use Rattle.ms_validity.proofs.sources.sources.Given as goal

abbrev pub invariant-loop-from : goal.invariant-loop-from
invariant-loop-from l = AreListed l.func.blocks l.lists.items l.from
