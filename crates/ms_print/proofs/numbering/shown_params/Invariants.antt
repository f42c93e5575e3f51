use Rattle.std.proofs.Common.{◌≡◌, ◌≤◌, ◌++◌, drop}
use Rattle.ms_print.specs.Numbering.{shown_params, free_after_params}
use Rattle.ms_print.proofs.numbering.shown_params.Given as goal

abbrev pub invariant-loop-param : goal.invariant-loop-param
invariant-loop-param l = record {
  shown : l.shown ++ shown_params l.next (drop l.param-index l.params) ≡ shown_params 0 l.params;
  next : free_after_params l.next (drop l.param-index l.params) ≡ free_after_params 0 l.params;
  few : l.next ≤ l.param-index;
}
