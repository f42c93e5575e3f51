-- Going along the instructions of a block.
use Rattle.std.specs.Prelude.{◌≡◌, ℕ, List, option_map, slice_get}
use Rattle.ms_ir.specs.declared.names.InstNo.{InstNo}
use Rattle.ms_ir.specs.Func.{Placed, Block, insts_at}
use Rattle.ms_print.specs.declared.walk.Walk.{Walk}

abbrev pub number_of_inst : InstNo → ℕ
number_of_inst i = i.0

abbrev pub number_of : Placed → ℕ
number_of x = x.number

-- the number is that of the instruction at the place, and there is none where none stands there
abbrev pub IsWalk : List Block → Walk → Type 0
IsWalk blocks w = option_map number_of_inst w.at ≡ option_map number_of (slice_get (insts_at blocks w.block.0) w.place)
