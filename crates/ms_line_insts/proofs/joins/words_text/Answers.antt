use Rattle.std.proofs.Common.{arith}
use Rattle.ms_line_insts.proofs.JoinLemmas.{token_more}
use Rattle.ms_line_insts.proofs.joins.words_text.Goals as goal

pub loop-token-preserved : goal.loop-token-preserved
loop-token-preserved c =
    token_more c.args.line.now c.args.tokens.now c.loop-token.token-index _ c.bytes_of.result.now c.loop-token.out.items c.join.new.out.items (omega arith) c.bytes_of.ensures.bytes c.loop-token.invariant c.in_ok-join.ensures
