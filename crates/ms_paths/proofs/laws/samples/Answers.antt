use Rattle.ms_paths.proofs.Examples.{diamond_by_form, diamond_needs, self_loop_needs, nested_needs, nested_reducible}
use Rattle.ms_paths.proofs.laws.samples.Goals as goal

pub returns : goal.returns
returns c = record { diamond = diamond_needs; diamond_by_its_form = diamond_by_form; self_loop = self_loop_needs; nested = nested_needs; nested_is_reducible = nested_reducible }
