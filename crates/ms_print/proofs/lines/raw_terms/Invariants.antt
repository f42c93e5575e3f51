use Rattle.std.proofs.Common.{◌≡◌, ◌++◌, map, drop}
use Rattle.ms_print.specs.Lines.{shown_by, raw_index}
use Rattle.ms_print.proofs.lines.raw_terms.Given as goal

abbrev pub invariant-loop-term : goal.invariant-loop-term
invariant-loop-term l =
    l.raw ++ map (raw_index (shown_by l.names l.tables)) (drop l.term-index l.terms) ≡ map (raw_index (shown_by l.names l.tables)) l.terms
