use Rattle.ms_paths.proofs.Forms.{form_needed, no_idle, whole_region}
use Rattle.ms_paths.proofs.laws.whole_form.Goals as goal

pub returns : goal.returns
returns c = λ g E Z phis enters operand leaves once closed red all form none b r.
    form_needed g E Z phis enters operand leaves (whole_region g E Z all) form once closed red (no_idle g E Z phis operand none) b ((all b).1 r)
