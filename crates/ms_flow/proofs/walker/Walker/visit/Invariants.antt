use Rattle.std.proofs.Common.{◌≤◌, ◌<◌, ◌^◌, ◌+◌, ◌*◌, length, vec_len, vec_capacity}
use Rattle.ms_flow.specs.Walk.{visit, unseen}
use Rattle.ms_flow.proofs.Steps.{IsWalking, work}
use Rattle.ms_flow.proofs.walker.Walker.visit.Given as goal

-- the rest of the walk leads where the whole leads, and there is room
abbrev pub invariant-walk : goal.invariant-walk
invariant-walk l =
    IsWalking l.table (visit l.table (length l.table) l.fn.b l.fn.self) l.self-inside.frames.items l.self-inside.marks.items l.self-inside.left.items
    × (vec_len l.self-inside.marks ≤ vec_capacity l.self-inside.frames) × (vec_len l.self-inside.marks ≤ vec_capacity l.self-inside.left)
    × (vec_len l.self-inside.marks < 2 ^ 32)

-- each turn ends a slot or a frame, and a new frame has fewer than four turns
abbrev pub decreases-walk : goal.decreases-walk
decreases-walk l = work l.self-inside.frames.items + 4 * unseen l.self-inside.marks.items
