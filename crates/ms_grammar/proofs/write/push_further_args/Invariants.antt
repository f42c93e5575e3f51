use Rattle.std.proofs.Common.{◌≡◌, ◌++◌, map, drop}
use Rattle.ms_grammar.specs.Parts.{text_of}
use Rattle.ms_grammar.specs.Form.{further, arg_parts}
use Rattle.ms_grammar.proofs.write.push_further_args.Given as goal

abbrev pub invariant-loop-arg : goal.invariant-loop-arg
invariant-loop-arg l =
    l.out.items ++ text_of (further (map arg_parts (drop l.arg-index l.args)))
    ≡ l.initial.out.items ++ text_of (further (map arg_parts l.args))
