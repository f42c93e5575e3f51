use Rattle.std.proofs.lemmas.Bool.{false≢true}
use Rattle.ms_script.proofs.ScopeLemmas.{not_taken}
use Rattle.ms_script.proofs.lookup.is_taken.Goals as goal

pub returns-in-None-find_block : goal.returns-in-None-find_block
returns-in-None-find_block c = (
  λ t. absurd (false≢true t),
  λ h. absurd (not_taken c.args.func.now c.args.name.now c.in-None.ensures c.in-None-find_block.ensures h),
)
