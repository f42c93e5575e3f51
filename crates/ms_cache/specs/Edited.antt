-- What stays of a function's pointers, and of what its instructions may write and read, when the function is edited.
use Rattle.std.specs.Prelude.{◌≡◌, ◌↔◌, ℕ, ℤ, true, false, List, Some}
use Rattle.ms_ir.specs.declared.names.LocalNo.{LocalNo}
use Rattle.ms_ir.specs.declared.names.InstNo.{InstNo}
use Rattle.ms_ir.specs.declared.names.Ty.{Ty}
use Rattle.ms_ir.specs.declared.inst.Val.{Val}
use Rattle.ms_ir.specs.declared.inst.Inst.{Inst}
use Rattle.ms_ir.specs.declared.inst.Inst.TheVariants.{Load}
use Rattle.ms_ir.specs.Func.{Placed, FuncState, IsAt, IsTaken}
use Rattle.ms_ir.specs.Changes.{with_replaced}
use Rattle.ms_ir.specs.Types.{is_integer}
use Rattle.ms_ir.specs.Locals.{HasType}
use Rattle.ms_ir.specs.SoundFunc.{IsValueIn}
use Rattle.ms_alias.specs.declared.loc.Root.{Root}
use Rattle.ms_alias.specs.declared.loc.Loc.{Loc}
use Rattle.ms_alias.specs.Roots.{makes_pointer, HasRoot, IsTurning, IsTurnedBy}
use Rattle.ms_alias.specs.Bases.{Base, HasBase}
use Rattle.ms_alias.specs.Captured.{IsCaptured}
use Rattle.ms_alias.specs.Reaches.{ReadsLoc, WritesLoc}
use Rattle.ms_alias.specs.Meeting.{MayWrite, MayWriteInTurn, MayRead}

-- the instruction of this number makes no pointer
abbrev pub MakesNone : FuncState → ℕ → Type 0
MakesNone f n = (b place : ℕ) (x : Placed) → IsAt f.blocks n b place x → makes_pointer x.inst ≡ false

-- Each pointer has the same root and offset, and the same bases; the same roots turn, made by the same instructions, and the same allocas are captured.
pub record SamePointers (f g : FuncState) : Type 0 where
  pub roots : (p r : Root) (offset : ℤ) → HasRoot f p r offset ↔ HasRoot g p r offset
  pub bases : (p : Root) (b : Base) → HasBase f p b ↔ HasBase g p b
  pub turning : (r : Root) → IsTurning f r ↔ IsTurning g r
  pub turned : (r : Root) (q : ℕ) → IsTurnedBy f r q ↔ IsTurnedBy g r q
  pub captured : (l : LocalNo) → IsCaptured f l ↔ IsCaptured g l

-- the instruction of this number may write the location in both functions or in neither
pub record SameWrites (f g : FuncState) (i : ℕ) (loc : Loc) : Type 0 where
  pub at_all : MayWrite f i loc ↔ MayWrite g i loc
  pub in_turn : MayWriteInTurn f i loc ↔ MayWriteInTurn g i loc

-- the same of reading
abbrev pub SameReads : FuncState → FuncState → ℕ → Loc → Type 0
SameReads f g i loc = MayRead f i loc ↔ MayRead g i loc

-- the location that the instruction reads, and the bytes that it writes, are the same in both
pub record SameLocs (f g : FuncState) (i : InstNo) : Type 0 where
  pub reads : (loc : Loc) → ReadsLoc f i loc ↔ ReadsLoc g i loc
  pub writes : (loc : Loc) → WritesLoc f i loc ↔ WritesLoc g i loc

-- A local that holds numbers, and a value of its type.
pub record GivesWay (f : FuncState) (l : LocalNo) (by : Val) : Type 0 where
  pub ty : Ty
  pub integer : is_integer ty ≡ true
  pub local : HasType f l ty
  pub value : IsValueIn f ty by

-- Each use of a load's result became a use of a value of its type, and then the load was taken.
pub record IsLoadGone (f g : FuncState) (n : ℕ) (by : Val) : Type 0 where
  pub b : ℕ
  pub place : ℕ
  pub x : Placed
  pub at : IsAt f.blocks n b place x
  pub ty : Ty
  pub ptr : Val
  pub tail : List ℕ
  pub load : x.inst ≡ Load ty ptr tail
  pub l : LocalNo
  pub result : x.result ≡ Some l
  pub value : IsValueIn f ty by
  pub inst : Inst
  pub taken : IsTaken (with_replaced f l by) g n inst
