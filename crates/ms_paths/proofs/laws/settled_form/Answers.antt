use Rattle.ms_paths.proofs.Forms.{form_needed, no_idle}
use Rattle.ms_paths.proofs.laws.settled_form.Goals as goal

pub returns : goal.returns
returns c = λ g E Z phis enters operand leaves once closed red region form none.
    form_needed g E Z phis enters operand leaves region form once closed red (no_idle g E Z phis operand none)
