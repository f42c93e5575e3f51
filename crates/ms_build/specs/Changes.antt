-- Changes of the entries of a form.
use Rattle.std.specs.Prelude.{◌≡◌, ◌≢◌, ◌<◌, ◌≤◌, ◌⊎◌, ◌==◌, ℕ, true, false, List, length, Option, Some, None, slice_set, if◌then◌else◌}
use Rattle.ms_ir.specs.declared.names.BlockNo.{BlockNo}
use Rattle.ms_form.specs.declared.access.Access.{Access}
use Rattle.ms_form.specs.declared.access.Access.TheVariants.{Entry, Of, Phi}
use Rattle.ms_form.specs.declared.access.User.{User}
use Rattle.ms_form.specs.declared.access.User.TheVariants.{Inst, Operand, Entering}
use Rattle.ms_form.specs.Form.{FormState, entry_of, same_user, KeepsPlaces}
use Rattle.ms_form.specs.Waiting.{with_waiting, times}
use Rattle.ms_paths.specs.Flow.{Block as Run}
use Rattle.ms_flow.specs.Flow.{sources_of}
use Rattle.ms_build.specs.Accesses.{has_phi, operand_at}
use Rattle.ms_build.specs.Settled.{IsTrivial, slot_count}

-- Each entry changes by this rule, and of all else the lists of users alone.
pub record IsChanged (rule : User → Option Access → Option Access) (old new : FormState) : Type 0 where
  pub entries : (u : User) → entry_of new u ≡ rule u (entry_of old u)
  pub phis : new.phis ≡ old.phis
  pub lasts : new.lasts ≡ old.lasts
  pub numbers : length new.defs ≡ length old.defs
  pub slots : (b : ℕ) → slot_count new b ≡ slot_count old b
  pub spare : new.spare ≡ old.spare
  pub places : KeepsPlaces old new

-- the entry of one user alone
abbrev pub one_set : User → Option Access → User → Option Access → Option Access
one_set u x v y = if same_user u v then x else y

-- the operands of one block are empty
abbrev pub emptied : BlockNo → User → Option Access → Option Access
emptied b (Inst i) x = x
emptied b (Operand c slot) x = if c.0 == b.0 then None else x
emptied b (Entering c) x = x

-- another access in place of the phi of a block
abbrev pub in_place_of : BlockNo → Access → Access → Access
in_place_of b a Entry = Entry
in_place_of b a (Of i) = Of i
in_place_of b a (Phi c) = if c.0 == b.0 then a else Phi c

abbrev pub replaced : BlockNo → Access → Option Access → Option Access
replaced b a None = None
replaced b a (Some x) = Some (in_place_of b a x)

abbrev pub all_replaced : BlockNo → Access → User → Option Access → Option Access
all_replaced b a u x = replaced b a x

-- a phi is taken out, with an access in its place
abbrev pub taken : BlockNo → Access → User → Option Access → Option Access
taken b a u x = one_set (Entering b) (Some a) u (replaced b a (emptied b u x))

-- where the operand of a block is replaced, its phi has to be looked at
abbrev pub waiting_for : User → List ℕ → List ℕ
waiting_for (Inst i) list = list
waiting_for (Operand c slot) list = with_waiting c.0 list
waiting_for (Entering c) list = list

-- a block waits
abbrev pub Waits : FormState → ℕ → Type 0
Waits f b = 1 ≤ times b f.waiting

-- the blocks that wait go on, and those wait whose operands named the phi of a block
pub record IsAwaited (b : BlockNo) (old new : FormState) : Type 0 where
  pub on : (c : ℕ) → Waits old c → Waits new c
  pub named : (c : BlockNo) (slot : ℕ) → entry_of old (Operand c slot) ≡ Some (Phi b) → Waits new c.0

-- the phi of a block is taken out, with this access in its place
pub record IsOut (b : BlockNo) (a : Access) (old new : FormState) : Type 0 where
  pub entries : (u : User) → entry_of new u ≡ taken b a u (entry_of old u)
  pub phis : new.phis ≡ slice_set old.phis b.0 false
  pub lasts : new.lasts ≡ old.lasts
  pub spare : new.spare ≡ old.spare
  pub on : (c : ℕ) → Waits old c → Waits new c
  pub named : (c : BlockNo) (slot : ℕ) → c.0 ≢ b.0 → entry_of old (Operand c slot) ≡ Some (Phi b) → Waits new c.0

-- some operand of a block is another access than its own phi; into the entry block Entry comes
abbrev pub HasOther : List Run → FormState → BlockNo → Type 0
HasOther g f b = (b.0 ≡ 0) ⊎ ((slot : ℕ) × (slot < length (sources_of g b.0)) × (operand_at f b.0 slot ≢ Some (Phi b)))

-- the phi of a block was trivial and is taken out
pub record IsTakenOut (g : List Run) (b : BlockNo) (old new : FormState) : Type 0 where
  pub access : Access
  pub had : has_phi old b.0 ≡ true
  pub trivial : IsTrivial g old b.0 access
  pub other : access ≢ Phi b
  pub out : IsOut b access old new

-- nothing changed, and the block has no trivial phi
pub record IsLeft (g : List Run) (b : BlockNo) (old new : FormState) : Type 0 where
  pub same : new ≡ old
  pub none : (a : Access) → has_phi old b.0 ≡ true → IsTrivial g old b.0 a → ⊥

-- the phi of a block is taken out where it is trivial
abbrev pub IsTried : List Run → BlockNo → FormState → FormState → Type 0
IsTried g b old new = IsLeft g b old new ⊎ IsTakenOut g b old new
