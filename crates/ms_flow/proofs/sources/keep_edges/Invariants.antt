use Rattle.ms_flow.specs.Walk.{is_seen}
use Rattle.ms_flow.proofs.Sifted.{AreSifted}
use Rattle.ms_flow.proofs.sources.keep_edges.Given as goal

abbrev pub invariant-loop-k : goal.invariant-loop-k
invariant-loop-k l = AreSifted (is_seen l.walker) l.c l.slot l.initial.edges.items l.edges.items l.before.items l.k l.to
