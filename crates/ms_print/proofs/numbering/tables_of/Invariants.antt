use Rattle.std.proofs.Common.{◌≡◌, ◌≤◌, ◌+◌, ◌*◌, ◌^◌, ◌++◌, ℕ, drop, vec_len}
use Rattle.std.specs.List.{slice_index_or}
use Rattle.ms_ir.specs.declared.names.Name.TheVariants.{Absent}
use Rattle.ms_print.specs.Numbering.{name_in, shown_labels, local_name, labels_of}
use Rattle.ms_print.proofs.numbering.tables_of.Given as goal

abbrev pub invariant-loop-b : goal.invariant-loop-b
invariant-loop-b l = record {
  len : vec_len l.tables.locals ≡ l.func.locals;
  names : (k : ℕ) → name_in l.free (drop l.b l.func.blocks) k (slice_index_or l.tables.locals.items k Absent) ≡ local_name l.func k;
  labels : l.tables.labels.items ++ shown_labels l.free (drop l.b l.func.blocks) ≡ labels_of l.func;
  few : l.free ≤ 2 ^ 32 + l.b * 2 ^ 32;
}
