use Rattle.std.proofs.Common.{◌≡◌, [], drop, slice_index_or}
use Rattle.ms_output.specs.Funcs.{funcs_said}
use Rattle.ms_output.proofs.funcs.func_name.Given as goal

-- the function is to be found among the lines that are left
abbrev pub invariant-loop-entry : goal.invariant-loop-entry
invariant-loop-entry l = slice_index_or (funcs_said (drop l.entry-index l.entry-items)) l.left [] ≡ slice_index_or (funcs_said l.draft) l.f []
