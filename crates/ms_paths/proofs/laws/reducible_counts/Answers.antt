use Rattle.ms_paths.proofs.Examples.{two_entries_irreducible, two_entries_need, two_entries_form, two_entries_not_trivial}
use Rattle.ms_paths.proofs.laws.reducible_counts.Goals as goal

pub returns : goal.returns
returns c = record { irreducible = two_entries_irreducible; none_needed = two_entries_need; form = two_entries_form; none_trivial = two_entries_not_trivial }
