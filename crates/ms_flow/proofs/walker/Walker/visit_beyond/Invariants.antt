use Rattle.std.proofs.Common.{◌≡◌, length, drop}
use Rattle.ms_flow.specs.Table.{next_of}
use Rattle.ms_flow.specs.Walk.{each, visit, beyond}
use Rattle.ms_flow.proofs.walker.Walker.visit_beyond.Given as goal

-- the walks from the targets that are left lead where the whole leads
abbrev pub invariant-loop-slot : goal.invariant-loop-slot
invariant-loop-slot l = (each (visit l.table (length l.table)) (drop l.slot (next_of l.table l.fn.b)) l.self ≡ beyond l.table l.fn.b) × (length l.self.seen ≡ length l.table)
