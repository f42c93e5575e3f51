use Rattle.std.proofs.Common.{◌≡◌, ◌++◌, map, take, drop}
use Rattle.ms_grammar.specs.Grammar.{without_name}
use Rattle.ms_line.proofs.keep.lose_names.Given as goal

-- those that were passed have no name
abbrev pub invariant-loop-param : goal.invariant-loop-param
invariant-loop-param l = l.param-items ≡ map without_name (take l.param-index l.fn.params.items) ++ drop l.param-index l.fn.params.items
