use Rattle.std.proofs.Common.{◌≡◌, ◌++◌, map, drop}
use Rattle.ms_grammar.specs.Parts.{text_of}
use Rattle.ms_grammar.specs.Form.{further, param_parts, dots_parts}
use Rattle.ms_grammar.proofs.write.push_further_params.Given as goal

abbrev pub invariant-loop-param : goal.invariant-loop-param
invariant-loop-param l =
    l.out.items ++ text_of (further (map param_parts (drop l.param-index l.params) ++ dots_parts l.variadic))
    ≡ l.initial.out.items ++ text_of (further (map param_parts l.params ++ dots_parts l.variadic))
