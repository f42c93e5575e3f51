use Rattle.std.proofs.Common.{◌≡◌}
use Rattle.std.specs.Prelude.{take}
use Rattle.ms_grammar.specs.Parts.{joined, texts}
use Rattle.ms_line_insts.proofs.joins.words_text.Given as goal

abbrev pub invariant-loop-token : goal.invariant-loop-token
invariant-loop-token l = l.out.items ≡ joined (texts l.line (take l.token-index l.tokens))
