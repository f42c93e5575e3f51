use Rattle.std.proofs.Common.{◌≡◌, ◌≤◌, ◌-◌, length}
use Rattle.ms_output.specs.Forms.{AreForms}
use Rattle.ms_output.proofs.FormLemmas.{front_bodies}
use Rattle.ms_output.proofs.forms.forms_of.Given as goal

-- the forms of the functions so far; the module is as it was
abbrev pub invariant-funcs : goal.invariant-funcs
invariant-funcs l = record {
  within : l.n ≤ length l.fn.module.sigs;
  same : l.module ≡ l.fn.module;
  formed : AreForms l.fn.module.names l.prints (front_bodies l.n l.fn.module.bodies) l.all.items;
}

abbrev pub decreases-funcs : goal.decreases-funcs
decreases-funcs l = length l.fn.module.sigs - l.n
