-- The accesses of a function's instructions.
use Rattle.std.specs.Prelude.{◌≡◌, ◌<◌, ℕ, Bool, true, false, List, [], ◌∷◌, length, take, Option, Some, None, slice_get, if◌then◌else◌}
use Rattle.ms_ir.specs.declared.names.InstNo.{InstNo}
use Rattle.ms_ir.specs.declared.inst.Kind.{Kind}
use Rattle.ms_ir.specs.declared.inst.Kind.TheVariants.{Def, Reads, Neither}
use Rattle.ms_ir.specs.Inst.{kind_of_inst}
use Rattle.ms_ir.specs.Func.{Placed, Block, insts_at}
use Rattle.ms_ir.specs.Graph.{is_def}
use Rattle.ms_form.specs.declared.access.Access.{Access}
use Rattle.ms_form.specs.declared.access.Access.TheVariants.{Of}
use Rattle.ms_form.specs.declared.access.User.{User}
use Rattle.ms_form.specs.declared.access.User.TheVariants.{Inst}
use Rattle.ms_form.specs.Form.{FormState, after_last, KeepsPlaces}
use Rattle.ms_paths.specs.Flow.{Block as Run, IsReached}
use Rattle.ms_build.specs.Accesses.{entering_at, enters_at, operand_at, defining_at}
use Rattle.ms_build.specs.Changes.{one_set}

-- whether an instruction of this kind names an access
abbrev pub names_access : Kind → Bool
names_access Def = true
names_access Reads = true
names_access Neither = false

-- the last Def after one more instruction
abbrev pub last_step : Option InstNo → Placed → Option InstNo
last_step last x = if is_def (kind_of_inst x.inst) then Some (record { 0 = x.number }) else last

-- the last Def among instructions, or else an earlier one
abbrev pub last_from : Option InstNo → List Placed → Option InstNo
last_from last [] = last
last_from last (x ∷ xs) = last_from (last_step last x) xs

-- the last Def of a block
abbrev pub last_of : List Block → ℕ → Option InstNo
last_of blocks b = last_from None (insts_at blocks b)

-- x stands at this place of this block, and names an access
pub record HasAccessAt (blocks : List Block) (b k : ℕ) (x : Placed) : Type 0 where
  pub found : slice_get (insts_at blocks b) k ≡ Some x
  pub names : names_access (kind_of_inst x.inst) ≡ true

-- the access before a place of a block, where this one enters it
abbrev pub before_at : List Block → ℕ → ℕ → Option Access → Option Access
before_at blocks b k start = after_last (last_from None (take k (insts_at blocks b))) start

-- an instruction number, if any, is below a bound
abbrev pub IsBelow : ℕ → Option InstNo → Type 0
IsBelow n None = Unit {0}
IsBelow n (Some i) = i.0 < n

-- the accesses at these places of a function's blocks were given to its instructions
pub record AreDefined (blocks : List Block) (visited : ℕ → ℕ → Type 0) (old new : FormState) : Type 0 where
  pub done : (b k : ℕ) (x : Placed) → visited b k → HasAccessAt blocks b k x → defining_at new x.number ≡ before_at blocks b k (entering_at old b)
  pub rest : (i : ℕ) → ((b k : ℕ) (x : Placed) → visited b k → HasAccessAt blocks b k x → x.number ≡ i → ⊥) → defining_at new i ≡ defining_at old i
  pub operands : (b slot : ℕ) → operand_at new b slot ≡ operand_at old b slot
  pub enters : (b : ℕ) → enters_at new b ≡ enters_at old b
  pub phis : new.phis ≡ old.phis
  pub lasts : new.lasts ≡ old.lasts
  pub numbers : length new.defs ≡ length old.defs
  pub places : KeepsPlaces old new

-- the places of one block
abbrev pub OfBlock : ℕ → ℕ → ℕ → Type 0
OfBlock b c k = c ≡ b

-- the places of reached blocks
abbrev pub OfReached : List Run → ℕ → ℕ → Type 0
OfReached g c k = IsReached g c

-- an instruction of this kind names an access
abbrev pub inst_rule : InstNo → Access → Kind → User → Option Access → Option Access
inst_rule i a kind u x = if names_access kind then one_set (Inst i) (Some a) u x else x

-- the access after one more instruction
abbrev pub access_after : Access → Placed → Access
access_after before x = if is_def (kind_of_inst x.inst) then Of (record { 0 = x.number }) else before
