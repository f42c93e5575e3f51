use Rattle.std.proofs.Common.{◌≡◌, drop}
use Rattle.std.specs.List.{list_any}
use Rattle.ms_names.specs.Uses.{known_by, lacks_entry}
use Rattle.ms_names.proofs.uses.lacks_in_entries.Given as goal

-- none so far lacks a name
abbrev pub invariant-loop-entry : goal.invariant-loop-entry
invariant-loop-entry l = list_any (lacks_entry (known_by l.register l.symbols)) (drop l.entry-index l.entries) ≡ list_any (lacks_entry (known_by l.register l.symbols)) l.entries
