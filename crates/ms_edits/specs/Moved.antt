-- A function in which the instruction of one place is moved to another.
use Rattle.std.specs.Prelude.{◌≡◌, ◌<◌, ℕ, List, length, Option, Some, slice_get}
use Rattle.ms_ir.specs.declared.names.LocalNo.{LocalNo}
use Rattle.ms_ir.specs.declared.inst.Val.TheVariants.{Local}
use Rattle.ms_ir.specs.Func.{Placed, Block, FuncState, cut_at, insts_at}
use Rattle.ms_ir.specs.Graph.{graph_of}
use Rattle.ms_ir.specs.Uses.{Use, uses_at, term_uses_at}
use Rattle.ms_ir.specs.Sound.{IsUsedBefore}
use Rattle.ms_ir.specs.Edits.{IsNoTarget, IsUseIn, put_again}
use Rattle.ms_edits.specs.declared.spots.Spot.{Spot}
use Rattle.ms_edits.specs.declared.spots.After.{After}
use Rattle.ms_edits.specs.declared.spots.After.TheVariants.{Same, Moved}
use Rattle.ms_edits.specs.Told.{HasIn, IsMissed}

abbrev pub blocks_moved : List Block → Spot → Spot → List Block
blocks_moved blocks from to = put_again (cut_at blocks from.block from.place) to.block to.place (slice_get (insts_at blocks from.block) from.place)

-- the function that is looked at
abbrev pub func_after : FuncState → After → FuncState
func_after f Same = f
func_after f (Moved from to) = record f { blocks = blocks_moved f.blocks from to }

-- an instruction stands at the one place, and can be put at the other, which counts without it
pub record IsMove (f : FuncState) (from to : Spot) : Type 0 where
  pub from_in : from.block < length f.blocks
  pub there : from.place < length (insts_at f.blocks from.block)
  pub to_in : to.block < length f.blocks
  pub room : IsNoTarget (insts_at (cut_at f.blocks from.block from.place) to.block) to.place → ⊥

abbrev pub CanBeAfter : FuncState → After → Type 0
CanBeAfter f Same = Unit {0}
CanBeAfter f (Moved from to) = IsMove f from to

-- what stands at one place of the function stands at the other of the function that is looked at
abbrev pub IsSpotAfter : FuncState → After → Spot → Spot → Type 0
IsSpotAfter f after at r = (x : Placed) → slice_get (insts_at f.blocks at.block) at.place ≡ Some x → slice_get (insts_at (func_after f after).blocks r.block) r.place ≡ Some x

-- the use is one of this local, and some path comes to it without passing a place
abbrev pub IsUseMissed : List Block → Spot → LocalNo → Use → Type 0
IsUseMissed blocks first l u = (u.val ≡ Local l) × IsMissed (graph_of blocks) first.block first.place u.block u.place

-- the instruction of a number has such a use
abbrev pub NumberMisses : List Block → Spot → LocalNo → ℕ → Type 0
NumberMisses blocks first l n = (c : ℕ) × (k : ℕ) × (x : Placed) × (slice_get (insts_at blocks c) k ≡ Some x) × (x.number ≡ n) × HasIn (uses_at blocks c k x.inst) (IsUseMissed blocks first l)

abbrev pub InstsMiss : List Block → Spot → LocalNo → Type 0
InstsMiss blocks first l = (n : ℕ) × NumberMisses blocks first l n

-- the terminator of a block has such a use
abbrev pub EndMisses : List Block → Spot → LocalNo → ℕ → Type 0
EndMisses blocks first l c = (x : Block) × (slice_get blocks c ≡ Some x) × HasIn (term_uses_at blocks c x.term) (IsUseMissed blocks first l)

abbrev pub EndsMiss : List Block → Spot → LocalNo → Type 0
EndsMiss blocks first l = (c : ℕ) × EndMisses blocks first l c

-- an instruction or a terminator has such a use
abbrev pub IsSomeMissed : List Block → Spot → LocalNo → Type 0
IsSomeMissed blocks first l = (u : Use) × IsUseIn blocks u × IsUseMissed blocks first l u

-- the instruction gives a local that has such a use
abbrev pub IsGivenMissed : List Block → Spot → Option LocalNo → Type 0
IsGivenMissed blocks first given = (l : LocalNo) × (given ≡ Some l) × IsSomeMissed blocks first l

-- some path comes to a use before its definition
abbrev pub IsBadAfter : FuncState → Type 0
IsBadAfter f = (u : Use) × IsUseIn f.blocks u × IsUsedBefore f u
