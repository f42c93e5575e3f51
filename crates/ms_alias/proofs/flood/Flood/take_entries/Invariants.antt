use Rattle.std.proofs.Common.{◌≡◌, drop, map}
use Rattle.ms_ir.specs.declared.inst.Entry.{Entry}
use Rattle.ms_alias.specs.Bases.{pointers_in}
use Rattle.ms_alias.specs.Building.{took_all}
use Rattle.ms_alias.proofs.flood.Flood.take_entries.Given as goal

-- the rest of the entries leads where all of them lead
abbrev pub invariant-loop-k : goal.invariant-loop-k
invariant-loop-k l = took_all l.bases (pointers_in (map (λ (e : Entry). e.val) (drop l.k l.entries))) l.self ≡ took_all l.bases (pointers_in (map (λ (e : Entry). e.val) l.entries)) l.fn.self
