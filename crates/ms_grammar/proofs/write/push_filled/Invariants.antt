use Rattle.std.proofs.Common.{◌≡◌, ◌++◌, map, drop}
use Rattle.ms_grammar.specs.Parts.{filled}
use Rattle.ms_grammar.specs.Form.{index_text}
use Rattle.ms_grammar.proofs.write.push_filled.Given as goal

abbrev pub invariant-loop-byte : goal.invariant-loop-byte
invariant-loop-byte l =
    l.out.items ++ filled (map index_text l.left) (drop l.byte-index l.index)
    ≡ l.initial.out.items ++ filled (map index_text l.terms) l.index
