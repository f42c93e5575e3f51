use Rattle.std.proofs.Common.{sym, ap, ◌∙◌}
use Rattle.ms_resolve.specs.Scope.{number_of_word}
use Rattle.ms_script.proofs.ScopeLemmas.{word_place, word_none}
use Rattle.ms_script.proofs.lookup.global_of.Goals as goal

pub returns-in-Some : goal.returns-in-Some
returns-in-Some c =
    sym (word_place c.names.result.now.globals c.args.word.now c.in-Some.g.0 c.in-Some.ensures.found c.in-Some.ensures.each)
    ∙ ap (λ names. number_of_word names.globals c.args.word.now) c.names.ensures

pub returns-in-None : goal.returns-in-None
returns-in-None c =
    sym (word_none c.names.result.now.globals c.args.word.now c.in-None.ensures.found) ∙ ap (λ names. number_of_word names.globals c.args.word.now) c.names.ensures
