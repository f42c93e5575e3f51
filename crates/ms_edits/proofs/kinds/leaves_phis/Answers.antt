use Rattle.std.proofs.Common.{ap}
use Rattle.ms_ir.specs.declared.names.BlockNo.{BlockNo}
use Rattle.ms_edits.proofs.UnlinkLemmas.{idle_told}
use Rattle.ms_edits.proofs.kinds.leaves_phis.Goals as goal

pub returns : goal.returns
returns c =
    idle_told c.args.func.now c.requires.sound c.args.b.0 c.args.slot c.requires.branch c.requires.block c.args.target.0 c.is_only_entered.result
    (ap (λ (t : BlockNo). t.0) c.requires.target) c.is_only_entered.ensures
