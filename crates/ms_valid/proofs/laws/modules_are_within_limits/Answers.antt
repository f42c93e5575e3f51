use Rattle.ms_valid.proofs.Limits.{module_within}
use Rattle.ms_valid.proofs.laws.modules_are_within_limits.Goals as goal

pub returns : goal.returns
returns c =
    λ bytes draft m read accepted.
    module_within draft m (c.draft_told.ensures.lines bytes draft read) accepted (c.draft_told.ensures.places bytes draft read) c.counts_told.ensures.functions c.counts_told.ensures.insts
    c.counts_told.ensures.blocks
