use Rattle.std.proofs.Common.{◌≡◌, ◌++◌, map, drop}
use Rattle.ms_grammar.specs.Parts.{text_of}
use Rattle.ms_grammar.specs.Form.{further, entry_parts}
use Rattle.ms_grammar.proofs.write.push_further_entries.Given as goal

abbrev pub invariant-loop-entry : goal.invariant-loop-entry
invariant-loop-entry l =
    l.out.items ++ text_of (further (map entry_parts (drop l.entry-index l.entries)))
    ≡ l.initial.out.items ++ text_of (further (map entry_parts l.entries))
