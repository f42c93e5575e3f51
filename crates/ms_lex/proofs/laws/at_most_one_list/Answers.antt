use Rattle.ms_lex.proofs.OneList.{one_list, one_bad_byte}
use Rattle.ms_lex.proofs.laws.at_most_one_list.Goals as goal

pub returns-clause-list : goal.returns-clause-list
returns-clause-list c = one_list

pub returns-clause-place : goal.returns-clause-place
returns-clause-place c = one_bad_byte
