use Rattle.ms_kept.proofs.Spared.{clobber_kept}
use Rattle.ms_kept.proofs.laws.spared_clobbers_stay.Goals as goal

pub returns : goal.returns
returns c = clobber_kept
