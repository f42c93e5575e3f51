use Rattle.std.proofs.Common.{◌≡◌, ◌++◌, drop}
use Rattle.ms_grammar.specs.Parts.{cut_behind}
use Rattle.ms_line_parts.proofs.terms.push_behind.Given as goal

abbrev pub invariant-loop-token : goal.invariant-loop-token
invariant-loop-token l =
    l.out.items ++ cut_behind l.line l.at (drop l.token-index l.tokens)
    ≡ l.initial.out.items ++ cut_behind l.line l.from l.tokens
