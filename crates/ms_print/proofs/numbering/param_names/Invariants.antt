use Rattle.std.proofs.Common.{◌≡◌, ◌++◌, ℕ, drop, map, vec_len}
use Rattle.std.specs.List.{slice_index_or}
use Rattle.ms_ir.specs.declared.names.Name.TheVariants.{Absent}
use Rattle.ms_print.specs.Numbering.{name_of_param}
use Rattle.ms_print.proofs.numbering.param_names.Given as goal

abbrev pub invariant-loop-param : goal.invariant-loop-param
invariant-loop-param l = l.names.items ++ map name_of_param (drop l.param-index l.params) ≡ map name_of_param l.params

abbrev pub invariant-loop-rest : goal.invariant-loop-rest
invariant-loop-rest l = record {
  len : vec_len l.names ≡ l.rest;
  names : (k : ℕ) → slice_index_or l.names.items k Absent ≡ slice_index_or (map name_of_param l.params) k Absent;
}
