use Rattle.std.proofs.Common.{◌≡◌, drop}
use Rattle.std.specs.List.{list_any}
use Rattle.ms_names.specs.Uses.{known_by, lacks_arg}
use Rattle.ms_names.proofs.uses.lacks_in_args.Given as goal

-- none so far lacks a name
abbrev pub invariant-loop-arg : goal.invariant-loop-arg
invariant-loop-arg l = list_any (lacks_arg (known_by l.register l.symbols)) (drop l.arg-index l.args) ≡ list_any (lacks_arg (known_by l.register l.symbols)) l.args
