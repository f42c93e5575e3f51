use Rattle.ms_paths.proofs.Forms.{form_needed, form_answers}
use Rattle.ms_paths.proofs.Stated.{needed_told}
use Rattle.ms_paths.proofs.laws.region_form.Goals as goal

pub returns : goal.returns
returns c = record {
  phis = λ g E Z phis enters operand leaves once closed red region form. form_needed g E Z phis enters operand leaves region form once closed red;
  accesses = λ g E Z phis enters operand leaves once closed red region form real.
      let n = needed_told g E once closed in form_answers g E Z phis enters operand leaves region form once closed red real n.0 n.1;
}
