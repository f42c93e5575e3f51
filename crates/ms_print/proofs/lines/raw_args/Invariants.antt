use Rattle.std.proofs.Common.{◌≡◌, ◌++◌, map, drop}
use Rattle.ms_print.specs.Lines.{shown_by, raw_arg}
use Rattle.ms_print.proofs.lines.raw_args.Given as goal

abbrev pub invariant-loop-arg : goal.invariant-loop-arg
invariant-loop-arg l =
    l.raw ++ map (raw_arg (shown_by l.names l.tables)) (drop l.arg-index l.args) ≡ map (raw_arg (shown_by l.names l.tables)) l.args
