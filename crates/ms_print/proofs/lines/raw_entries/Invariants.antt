use Rattle.std.proofs.Common.{◌≡◌, ◌++◌, map, drop}
use Rattle.ms_print.specs.Lines.{shown_by, raw_entry}
use Rattle.ms_print.proofs.lines.raw_entries.Given as goal

abbrev pub invariant-loop-entry : goal.invariant-loop-entry
invariant-loop-entry l =
    l.raw ++ map (raw_entry (shown_by l.names l.tables)) (drop l.entry-index l.entries) ≡ map (raw_entry (shown_by l.names l.tables)) l.entries
