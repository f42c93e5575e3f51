-- Tests, by the tables, for which instructions may write or read a location.
use Rattle.std.specs.Prelude.{◌&&◌, ◌||◌, ℕ, Bool, false, nat_eq, List, [], ◌∷◌, Option, Some}
use Rattle.ms_ir.specs.Func.{Placed, Block, FuncState}
use Rattle.ms_alias.specs.declared.loc.Loc.{Loc}
use Rattle.ms_alias.specs.declared.loc.Loc.TheVariants.{Bytes, ReadBy}
use Rattle.ms_alias.specs.Reaches.{Reach, Span}
use Rattle.ms_alias.specs.declared.origins.Origin.{Origin}
use Rattle.ms_alias.specs.Tables.{AliasState, read_reach, write_reach, reaches_meet, reaches_meet_in_turn, meet_in}

-- some instruction of this number passes the test
abbrev pub any_in : List Placed → ℕ → (Placed → Bool) → Bool
any_in [] n p = false
any_in (x ∷ xs) n p = (nat_eq x.number n && p x) || any_in xs n p

abbrev pub any_at : List Block → ℕ → (Placed → Bool) → Bool
any_at [] n p = false
any_at (b ∷ bs) n p = any_in b.insts n p || any_at bs n p

-- what is touched meets the location by a test of reaches
abbrev pub meets_loc : FuncState → List Origin → (Reach → Reach → Bool) → Option Reach → Loc → Bool
meets_loc f origins meets u (Bytes root from len) = meet_in meets u (Some (Span root from len))
meets_loc f origins meets u (ReadBy j) = any_at f.blocks j.0 (λ y. meet_in meets u (read_reach origins y.inst))

-- what the instruction of a number writes, or reads, meets the location
unfoldable pub may_write_by : FuncState → AliasState → Loc → ℕ → Bool
may_write_by f a loc i = any_at f.blocks i (λ x. meets_loc f a.origins (reaches_meet a) (write_reach a.origins x.inst) loc)

unfoldable pub may_read_by : FuncState → AliasState → Loc → ℕ → Bool
may_read_by f a loc i = any_at f.blocks i (λ x. meets_loc f a.origins (reaches_meet a) (read_reach a.origins x.inst) loc)

-- what it writes meets the location while roots stay what they are
unfoldable pub may_write_in_turn_by : FuncState → AliasState → Loc → ℕ → Bool
may_write_in_turn_by f a loc i = any_at f.blocks i (λ x. meets_loc f a.origins (reaches_meet_in_turn a) (write_reach a.origins x.inst) loc)
