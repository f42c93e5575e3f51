use Rattle.ms_steady.proofs.Samples.{outside_object, unset_in_object, offset_out_of_range}
use Rattle.ms_steady.proofs.laws.step_samples.Goals as goal

pub returns-clause-outside_object : goal.returns-clause-outside_object
returns-clause-outside_object c = outside_object

pub returns-clause-unset_in_object : goal.returns-clause-unset_in_object
returns-clause-unset_in_object c = unset_in_object

pub returns-clause-offset_out_of_range : goal.returns-clause-offset_out_of_range
returns-clause-offset_out_of_range c = offset_out_of_range
