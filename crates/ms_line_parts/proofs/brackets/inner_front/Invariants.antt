use Rattle.std.proofs.Common.{◌≡◌, [], drop, Some}
use Rattle.ms_grammar.specs.Words.{spelling}
use Rattle.ms_grammar.specs.Parts.{texts}
use Rattle.ms_line_parts.specs.Reach.{open_marks, inner_of, further_on}
use Rattle.ms_line_parts.proofs.brackets.inner_front.Given as goal

abbrev pub invariant-loop-at : goal.invariant-loop-at
invariant-loop-at l = inner_of (spelling l.mark) (Some []) (texts l.line l.tokens) ≡ further_on l.at (inner_of (spelling l.mark) (Some (open_marks l.opened.items)) (texts l.line (drop l.at l.tokens)))
