use Rattle.ms_resolve.specs.Used.{arg_value}
use Rattle.ms_script.specs.Names.{KnowsValue}
use Rattle.ms_script.proofs.EachLemmas.{IsSame}
use Rattle.ms_script.proofs.lookup.Lookup.knows_args.Given as goal

-- all arguments are known exactly where the rest is
abbrev pub invariant-loop-arg : goal.invariant-loop-arg
invariant-loop-arg l = IsSame (KnowsValue l.self.m.now l.self.func.now) arg_value l.args l.arg-index
