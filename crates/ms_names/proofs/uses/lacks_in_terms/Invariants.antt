use Rattle.std.proofs.Common.{◌≡◌, drop}
use Rattle.std.specs.List.{list_any}
use Rattle.ms_names.specs.Uses.{known_by, lacks_index}
use Rattle.ms_names.proofs.uses.lacks_in_terms.Given as goal

-- none so far lacks a name
abbrev pub invariant-loop-term : goal.invariant-loop-term
invariant-loop-term l = list_any (lacks_index (known_by l.register l.symbols)) (drop l.term-index l.terms) ≡ list_any (lacks_index (known_by l.register l.symbols)) l.terms
