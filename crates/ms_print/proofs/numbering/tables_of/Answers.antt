use Rattle.std.proofs.Common.{arith, ap, length}
use Rattle.ms_print.proofs.NumberingLemmas.{shown_params-length}
use Rattle.ms_print.proofs.numbering.tables_of.Goals as goal

pub param_names-requires : goal.param_names-requires
param_names-requires c =
    let first = c.numbered.ensures.params_first in
    omega (arith, ap length c.requires.params, shown_params-length 0 c.args.func.now.params, first)
