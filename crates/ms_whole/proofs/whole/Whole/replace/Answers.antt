use Rattle.std.proofs.Common.{subst}
use Rattle.ms_cache.specs.Edited.{IsLoadGone}
use Rattle.ms_whole.specs.Whole.{WholeState}
use Rattle.ms_whole.proofs.whole.Whole.replace.Goals as goal

pub replace-requires-clause-sound : goal.replace-requires-clause-sound
replace-requires-clause-sound c = λ g gone. c.requires.sound g (subst (λ (s : WholeState). IsLoadGone s.func g c.args.load.0 c.args.by) c.self.view_is gone)
