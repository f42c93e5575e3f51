use Rattle.ms_attrs.proofs.MeaningLemmas.{some_effects, one_effects, some_keeps, one_keeps}
use Rattle.ms_attrs.proofs.laws.one_meaning.Goals as goal

pub returns-clause-some_effects : goal.returns-clause-some_effects
returns-clause-some_effects c = some_effects

pub returns-clause-one_effects : goal.returns-clause-one_effects
returns-clause-one_effects c = one_effects

pub returns-clause-some_keeps : goal.returns-clause-some_keeps
returns-clause-some_keeps c = some_keeps

pub returns-clause-one_keeps : goal.returns-clause-one_keeps
returns-clause-one_keeps c = one_keeps
