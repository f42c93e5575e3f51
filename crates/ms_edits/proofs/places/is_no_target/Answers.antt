use Rattle.std.proofs.Common.{arith}
use Rattle.ms_ir.specs.Func.{insts_at}
use Rattle.ms_edits.proofs.PlaceLemmas.{phis_first, target_told}
use Rattle.ms_edits.proofs.places.is_no_target.Goals as goal

pub returns : goal.returns
returns c =
    target_told (insts_at c.args.func.now.blocks c.args.b.0) c.args.place c.is_phi_at.result (phis_first c.args.func.now c.requires.sound c.args.b.0)
    (let n = c.count.ensures in let le = c.if-place-count.false in omega arith) c.is_phi_at.ensures
