use Rattle.std.proofs.Common.{arith}
use Rattle.ms_grammar.specs.Grammar.{without_name}
use Rattle.ms_ir.proofs.ChangeLemmas.{map_over_step, length-over}
use Rattle.ms_line.proofs.keep.lose_names.Goals as goal

pub loop-param-preserved : goal.loop-param-preserved
loop-param-preserved c =
    let same = length-over without_name c.args.params.now.items c.loop-param.param-items c.loop-param.param-index c.loop-param.invariant in
    map_over_step without_name c.args.params.now.items c.loop-param.param-items c.loop-param.param-index c.param-item.result (omega (arith, same)) c.loop-param.invariant (omega arith)
