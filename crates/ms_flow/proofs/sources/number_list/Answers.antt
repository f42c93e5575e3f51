use Rattle.std.proofs.Common.{◌+◌, get_or, refl, arith}
use Rattle.std.proofs.lemmas.Option.{slice_get-get_or}
use Rattle.ms_flow.proofs.Sifted.{written_more}
use Rattle.ms_flow.proofs.sources.number_list.Goals as goal

pub loop-k-preserved : goal.loop-k-preserved
loop-k-preserved c =
    let list = c.args.list.now in
    let k = c.loop-k.k in
    let e = get_or list k (record { from = 0; slot = 0 }) in
    let at = slice_get-get_or list k (record { from = 0; slot = 0 }) (omega arith) in
    let slots = c.loop-k.invariant.slots in
    let within = c.requires.within k e at in
    written_more list k (k + 1) _ _ _ e c.loop-k.invariant at refl (omega arith) c.requires.once (omega arith)
