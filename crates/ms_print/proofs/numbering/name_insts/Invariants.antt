use Rattle.std.proofs.Common.{◌≡◌, ◌≤◌, ◌+◌, ℕ, drop, vec_len}
use Rattle.std.specs.List.{slice_index_or}
use Rattle.ms_ir.specs.declared.names.Name.TheVariants.{Absent}
use Rattle.ms_ir.specs.Func.{insts_at}
use Rattle.ms_print.specs.Numbering.{name_among, free_after_insts}
use Rattle.ms_print.specs.Walk.{IsWalk}
use Rattle.ms_print.proofs.numbering.name_insts.Given as goal

abbrev pub invariant-loop-place : goal.invariant-loop-place
invariant-loop-place l = record {
  walk : IsWalk l.func.blocks l.walk;
  block : l.walk.block ≡ l.fn.b;
  place : l.walk.place ≡ l.place;
  len : vec_len l.locals ≡ l.func.locals;
  names : (k : ℕ) → name_among l.free (drop l.place (insts_at l.func.blocks l.fn.b.0)) k (slice_index_or l.locals.items k Absent)
      ≡ name_among l.fn.next (insts_at l.func.blocks l.fn.b.0) k (slice_index_or l.initial.locals.items k Absent);
  next : free_after_insts l.free (drop l.place (insts_at l.func.blocks l.fn.b.0)) ≡ free_after_insts l.fn.next (insts_at l.func.blocks l.fn.b.0);
  few : l.free ≤ l.fn.next + l.place;
}
