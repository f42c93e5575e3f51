use Rattle.ms_lex.proofs.Names.{name_front}
use Rattle.ms_lex.proofs.front.name_length.Goals as goal

pub returns-in-Some : goal.returns-in-Some
returns-in-Some c = name_front c.args.bytes.now c.in-Some.length c.in-Some.ensures
