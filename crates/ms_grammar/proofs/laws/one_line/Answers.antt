use Rattle.ms_grammar.proofs.OneLine as lines
use Rattle.ms_grammar.proofs.laws.one_line.Goals as goal

pub returns : goal.returns
returns c = lines.one_line
