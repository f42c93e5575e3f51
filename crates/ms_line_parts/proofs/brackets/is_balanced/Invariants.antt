use Rattle.std.proofs.Common.{◌≡◌, [], drop, Some}
use Rattle.ms_grammar.specs.Kept.{behind_tokens}
use Rattle.ms_grammar.specs.Parts.{texts}
use Rattle.ms_line_parts.specs.Reach.{open_marks}
use Rattle.ms_line_parts.proofs.brackets.is_balanced.Given as goal

abbrev pub invariant-loop-token : goal.invariant-loop-token
invariant-loop-token l = behind_tokens (Some []) (texts l.line l.tokens) ≡ behind_tokens (Some (open_marks l.opened.items)) (texts l.line (drop l.token-index l.tokens))
