-- How many edges an edit reads, and what room it takes.
use Rattle.std.specs.Prelude.{◌≡◌, ℕ, Some, slice_get}
use Rattle.ms_ir.specs.declared.inst.Edit.{Edit}
use Rattle.ms_ir.specs.declared.inst.Edit.TheVariants.{Insert, Remove, Move, Unlink}
use Rattle.ms_ir.specs.Func.{Placed, FuncState, insts_at}
use Rattle.ms_ir.specs.Edits.{edited}
use Rattle.ms_flow.specs.Table.{edges_of}
use Rattle.ms_flow.specs.Cut.{edges_left}
use Rattle.ms_update.specs.Reads.{IsPutCost}

-- So many edges of the flow graph are read: what it costs to put an instruction where it is put; nothing where one is taken; of a cut edge those that then
-- leave blocks that are still reached.
abbrev pub IsReadsOf : FuncState → Edit → ℕ → Type 0
IsReadsOf f (Insert block place inst name) n = IsPutCost f.blocks (edited f (Insert block place inst name)).blocks (record { 0 = f.made }) n
IsReadsOf f (Remove block place) n = n ≡ 0
IsReadsOf f (Move block place to_block to_place) n =
    (x : Placed) × (slice_get (insts_at f.blocks block.0) place ≡ Some x) × IsPutCost f.blocks (edited f (Move block place to_block to_place)).blocks (record { 0 = x.number }) n
IsReadsOf f (Unlink block slot) n = n ≡ edges_left (edges_of (edited f (Unlink block slot)).blocks)

-- how much of the room an edit takes
abbrev pub room_of : Edit → ℕ
room_of (Insert block place inst name) = 1
room_of (Remove block place) = 0
room_of (Move block place to_block to_place) = 0
room_of (Unlink block slot) = 0
