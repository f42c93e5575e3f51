use Rattle.std.proofs.Common.{inl, inr}
use Rattle.ms_lex.proofs.OneList.{no_list}
use Rattle.ms_lex.proofs.Told.{told}
use Rattle.ms_lex.proofs.laws.list_or_bad_byte.Goals as goal

pub returns-clause-told : goal.returns-clause-told
returns-clause-told c = told

pub returns-clause-exactly : goal.returns-clause-exactly
returns-clause-exactly c = λ line. (
  λ list at bad. no_list line list.0 at list.1 bad,
  λ none. elim (told line) [ inl list ↦ list | inr bad ↦ absurd (none bad.0 bad.1) ],
)
