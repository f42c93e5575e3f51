-- Where a line may stand behind the lines before it, and how much a text may hold.
use Rattle.std.specs.Prelude.{◌≡◌, ℕ, ◌+◌, ◌≤◌, Bool, true, false, List, [], ◌∷◌, Option, Some, None, if◌then◌else◌, option_map}
use Rattle.ms_line.specs.declared.sort.Sort.{Sort}
use Rattle.ms_line.specs.declared.sort.Sort.TheVariants.{Blank, Item, Define, Close, Label, Phi, Alloca, Other, Term}
use Rattle.ms_read.specs.declared.place.Place.{Place}
use Rattle.ms_read.specs.declared.place.Place.TheVariants.{Outside, Begun, Front, Inner, Ended}
use Rattle.ms_read.specs.declared.place.Progress.{Progress}

-- whether a line has no token
abbrev pub is_blank : Sort → Bool
is_blank Blank = true
is_blank _ = false

-- outside functions
abbrev pub next_outside : Sort → Option Place
next_outside Item = Some Outside
next_outside Define = Some Begun
next_outside _ = None

-- Behind a define line: the first block may lack its label line, and a function has a block.
abbrev pub next_begun : Sort → Option Place
next_begun Label = Some (Front true)
next_begun Phi = Some (Front true)
next_begun Alloca = Some (Inner true)
next_begun Other = Some (Inner true)
next_begun Term = Some Ended
next_begun _ = None

-- In a block: phis stand at its front, allocas in the first block, and a terminator ends it.
abbrev pub next_in_block : Bool → Bool → Sort → Option Place
next_in_block front first Phi = if front then Some (Front first) else None
next_in_block front first Alloca = if first then Some (Inner first) else None
next_in_block front first Other = Some (Inner first)
next_in_block front first Term = Some Ended
next_in_block front first _ = None

-- behind a terminator
abbrev pub next_ended : Sort → Option Place
next_ended Label = Some (Front false)
next_ended Close = Some Outside
next_ended _ = None

-- behind a line with a token
abbrev pub next_said : Place → Sort → Option Place
next_said Outside sort = next_outside sort
next_said Begun sort = next_begun sort
next_said (Front first) sort = next_in_block true first sort
next_said (Inner first) sort = next_in_block false first sort
next_said Ended sort = next_ended sort

-- The place behind a line of a sort that stands at a place, and none where such a line may not stand there. A line
-- without tokens may stand anywhere.
abbrev pub next_place : Place → Sort → Option Place
next_place place sort = if is_blank sort then Some place else next_said place sort

-- whether a place is outside functions
abbrev pub is_outside : Place → Bool
is_outside Outside = true
is_outside Begun = false
is_outside (Front _) = false
is_outside (Inner _) = false
is_outside Ended = false

-- whether a line that stands there begins a block: its label line does, and a first block may begin without one
abbrev pub begins_block : Place → Sort → Bool
begins_block _ Blank = false
begins_block Begun _ = true
begins_block Ended Label = true
begins_block _ _ = false

-- whether a line is an instruction; a terminator is none
abbrev pub is_inst : Sort → Bool
is_inst Phi = true
is_inst Alloca = true
is_inst Other = true
is_inst _ = false

-- one more, where a line counts
abbrev pub plus : ℕ → Bool → ℕ
plus n counts = if counts then n + 1 else n

-- A define line is one function more, and its blocks and instructions are counted from 0.
abbrev pub counted : Progress → Sort → Place → Progress
counted at Define place = record { place = place; functions = at.functions + 1; blocks = 0; insts = 0 }
counted at sort place = record {
  place = place;
  functions = at.functions;
  blocks = plus at.blocks (begins_block at.place sort);
  insts = plus at.insts (is_inst sort);
}

-- how far a text is behind one line more, and none where such a line may not stand there
abbrev pub behind : Progress → Sort → Option Progress
behind at sort = option_map (counted at sort) (next_place at.place sort)

-- before the first line
abbrev pub outset : Progress
outset = record { place = Outside; functions = 0; blocks = 0; insts = 0 }

-- at most 256 functions, and in each at most 1,024 blocks and 4,096 instructions
abbrev pub AreFew : Progress → Type 0
AreFew at = (at.functions ≤ 256) × (at.blocks ≤ 1024) × (at.insts ≤ 4096)

-- Lines of these sorts may stand behind one another from one place up to another, and none passes a count.
abbrev pub Lead : Progress → List Sort → Progress → Type 0
Lead at [] end = at ≡ end
Lead at (sort ∷ sorts) end = (next : Progress) × (behind at sort ≡ Some next) × AreFew next × Lead next sorts end
