use Rattle.ms_paths.proofs.Updates.{part_form, part_reducible}
use Rattle.ms_paths.proofs.laws.part_form.Goals as goal

pub returns : goal.returns
returns c = record { form = part_form; reducible = part_reducible }
