use Rattle.std.proofs.Common.{◌≡◌, ◌≤◌, ◌-◌, ◌++◌, drop, length, None}
use Rattle.ms_print.specs.Text.{items_text}
use Rattle.ms_print.proofs.module.print_module.Given as goal

-- the text so far, and that of the rest behind it
abbrev pub invariant-loop-item : goal.invariant-loop-item
invariant-loop-item l = record {
  text : l.out.items ++ items_text l.module l.before (drop l.n l.module.items) ≡ items_text l.module None l.module.items;
  within : l.n ≤ length l.module.items;
}

abbrev pub decreases-loop-item : goal.decreases-loop-item
decreases-loop-item l = length l.module.items - l.n
