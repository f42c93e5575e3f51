use Rattle.std.proofs.Common.{take, map}
use Rattle.ms_ir.specs.declared.inst.Entry.{Entry}
use Rattle.ms_alias.specs.Bases.{pointers_in}
use Rattle.ms_alias.specs.Building.{HaveGlobals, IsLonger}
use Rattle.ms_alias.proofs.room.add_entries.Given as goal

abbrev pub invariant-loop-k : goal.invariant-loop-k
invariant-loop-k l = IsLonger l.fn.columns.items l.columns.items × HaveGlobals l.columns.items (pointers_in (map (λ (e : Entry). e.val) (take l.k l.entries)))
