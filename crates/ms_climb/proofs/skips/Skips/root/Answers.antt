use Rattle.std.proofs.Common.{sym}
use Rattle.ms_climb.proofs.SkipLemmas.{turns_fall}
use Rattle.ms_climb.proofs.skips.Skips.root.Goals as goal

pub rooting-smaller : goal.rooting-smaller
rooting-smaller c = turns_fall c.args.self.now c.rooting.at c.in-Some.skip c.requires (sym c.in-Some.ensures)
