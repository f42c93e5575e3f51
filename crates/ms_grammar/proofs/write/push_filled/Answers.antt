use Rattle.std.proofs.Common.{sym, map, arith, ◌∙◌}
use Rattle.ms_grammar.specs.Form.{index_text}
use Rattle.ms_grammar.proofs.Printing.{filled_whole}
use Rattle.ms_grammar.proofs.write.push_filled.Goals as goal

pub returns : goal.returns
returns c =
    sym (filled_whole c.loop-byte.out.items (map index_text c.loop-byte.left.now) c.args.index.now c.loop-byte.byte-index (omega arith)) ∙ c.loop-byte.invariant
