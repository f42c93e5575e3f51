use Rattle.ms_attrs.proofs.WordLemmas.{no_word}
use Rattle.ms_attrs.proofs.part.part_of_token.Goals as goal

pub returns-in_default : goal.returns-in_default
returns-in_default c = rw (no_word c.args.kind c.args.text.now c.requires c.in_default.not-Word) c.part_of_mark.ensures
