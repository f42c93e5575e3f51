use Rattle.std.proofs.Common.{◌≡◌, true}
use Rattle.ms_grammar.specs.Limits.{names_of_param}
use Rattle.ms_line.specs.Short.{is_short}
use Rattle.ms_line.proofs.ShortLemmas.{all_flat}
use Rattle.ms_line.proofs.measure.is_short_head.Goals as goal

pub returns-then-is_short : goal.returns-then-is_short
returns-then-is_short c =
    let short : is_short c.args.head.now.name ≡ true = cc in
    rw (short, c.are_short_params.ensures, c.as_slice.ensures) (all_flat names_of_param c.args.head.now.params)
