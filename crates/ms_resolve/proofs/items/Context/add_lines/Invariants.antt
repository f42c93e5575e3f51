use Rattle.std.proofs.Common.{◌≡◌, ◌≤◌, ◌+◌, length, drop}
use Rattle.ms_resolve.specs.Build.{module_after, bare_module, AreNew}
use Rattle.ms_resolve.specs.Context.{outer_by}
use Rattle.ms_resolve.proofs.items.Context.add_lines.Given as goal

-- the module so far, and the rest behind it
abbrev pub invariant-loop-at : goal.invariant-loop-at
invariant-loop-at l = record {
  built : module_after (outer_by l.self) (bare_module l.module) (drop l.at l.lines) ≡ module_after (outer_by l.self) (bare_module l.initial.module) l.lines;
  new : AreNew l.module.names (drop l.at l.lines);
  few : length l.module.items ≤ length l.initial.module.items + l.at;
}
