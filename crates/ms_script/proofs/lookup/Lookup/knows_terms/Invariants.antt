use Rattle.ms_resolve.specs.Used.{index_value}
use Rattle.ms_script.specs.Names.{KnowsValue}
use Rattle.ms_script.proofs.EachLemmas.{IsSame}
use Rattle.ms_script.proofs.lookup.Lookup.knows_terms.Given as goal

-- all terms are known exactly where the rest is
abbrev pub invariant-loop-term : goal.invariant-loop-term
invariant-loop-term l = IsSame (KnowsValue l.self.m.now l.self.func.now) index_value l.terms l.term-index
