use Rattle.ms_resolve.specs.Used.{entry_value, entry_block}
use Rattle.ms_script.specs.Names.{KnowsValue, KnowsBlock}
use Rattle.ms_script.proofs.EachLemmas.{IsSame}
use Rattle.ms_script.proofs.lookup.Lookup.knows_entries.Given as goal

-- all entries are known exactly where the rest is
abbrev pub invariant-loop-entry : goal.invariant-loop-entry
invariant-loop-entry l =
    IsSame (KnowsValue l.self.m.now l.self.func.now) entry_value l.entries l.entry-index × IsSame (KnowsBlock l.self.func.now) entry_block l.entries l.entry-index
