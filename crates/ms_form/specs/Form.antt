-- The memory form of a function, as one table with the users of each access.
use Rattle.std.specs.Prelude.{◌≡◌, ◌<◌, ◌≤◌, ◌+◌, ◌-◌, ◌^◌, ◌↔◌, ℕ, Bool, false, ◌&&◌, List, [], ◌∷◌, ◌++◌, length, map, replicate, Option, Some, None, slice_get, slice_index_or, slice_set, if◌then◌else◌, ◌==◌}
use Rattle.ms_ir.specs.declared.names.InstNo.{InstNo}
use Rattle.ms_ir.specs.declared.names.BlockNo.{BlockNo}
use Rattle.ms_form.specs.declared.access.Access.{Access}
use Rattle.ms_form.specs.declared.access.Access.TheVariants.{Entry, Of, Phi}
use Rattle.ms_form.specs.declared.access.User.{User}
use Rattle.ms_form.specs.declared.access.User.TheVariants.{Inst, Operand, Entering}
use Rattle.ms_form.specs.Lists.{IsIn, EachOnce}

-- By block: whether it has a phi, its last Def, the access that enters it, the operand of each predecessor slot. By instruction: the access that it names.
-- Then the users of the entry, of each block's phi and of each instruction; how many more instructions there is room for;
-- and the blocks that wait, the one that began last at the end.
pub record FormState : Type 0 where
  pub phis : List Bool
  pub lasts : List (Option InstNo)
  pub enters : List (Option Access)
  pub operands : List (List (Option Access))
  pub defs : List (Option Access)
  pub entry_users : List User
  pub phi_users : List (List User)
  pub inst_users : List (List User)
  pub spare : ℕ
  pub waiting : List ℕ

-- the access that a user names, as it is stored
abbrev pub entry_of : FormState → User → Option Access
entry_of f (Inst i) = slice_index_or f.defs i.0 None
entry_of f (Operand b slot) = slice_index_or (slice_index_or f.operands b.0 []) slot None
entry_of f (Entering b) = slice_index_or f.enters b.0 None

-- the users of an access, in the order of its list
abbrev pub users_of : FormState → Access → List User
users_of f Entry = f.entry_users
users_of f (Phi b) = slice_index_or f.phi_users b.0 []
users_of f (Of i) = slice_index_or f.inst_users i.0 []

-- the access at the start of a block: its phi, else the stored one
abbrev pub entering_of : FormState → BlockNo → Option Access
entering_of f b = if slice_index_or f.phis b.0 false then Some (Phi b) else slice_index_or f.enters b.0 None

-- the access after a last Def, or else that at the start
abbrev pub after_last : Option InstNo → Option Access → Option Access
after_last None start = start
after_last (Some i) start = Some (Of i)

-- the access at the end of a block
abbrev pub leaving_of : FormState → BlockNo → Option Access
leaving_of f b = after_last (slice_index_or f.lasts b.0 None) (entering_of f b)

abbrev pub same_user : User → User → Bool
same_user (Inst i) (Inst j) = i.0 == j.0
same_user (Operand b slot) (Operand c other) = (b.0 == c.0) && (slot == other)
same_user (Entering b) (Entering c) = b.0 == c.0
same_user _ _ = false

-- a list without a user
abbrev pub without_user : User → List User → List User
without_user u [] = []
without_user u (v ∷ rest) = if same_user v u then without_user u rest else (v ∷ without_user u rest)

-- the user behind another
abbrev pub behind_user : User → List User → Option User
behind_user u [] = None
behind_user u (v ∷ rest) = if same_user v u then slice_get rest 0 else behind_user u rest

-- the user behind another in the list of the access that it names
abbrev pub next_at : FormState → User → Option Access → Option User
next_at f u None = None
next_at f u (Some a) = behind_user u (users_of f a)

abbrev pub next_of : FormState → User → Option User
next_of f u = next_at f u (entry_of f u)

-- there is a place for the instruction, or it is the next and there is room
abbrev pub HasInst : FormState → ℕ → Type 0
HasInst f i = (i ≤ length f.defs) × (i < length f.defs + f.spare)

abbrev pub HasUser : FormState → User → Type 0
HasUser f (Inst i) = HasInst f i.0
HasUser f (Operand b slot) = slot < length (slice_index_or f.operands b.0 [])
HasUser f (Entering b) = b.0 < length f.phis

abbrev pub HasAccess : FormState → Access → Type 0
HasAccess f Entry = Unit {0}
HasAccess f (Phi b) = b.0 < length f.phis
HasAccess f (Of i) = HasInst f i.0

abbrev pub HasLast : FormState → Option InstNo → Type 0
HasLast f None = Unit {0}
HasLast f (Some i) = HasInst f i.0

-- there is a place for its entry
abbrev pub HasEntry : FormState → User → Type 0
HasEntry f (Inst i) = i.0 < length f.defs
HasEntry f (Operand b slot) = slot < length (slice_index_or f.operands b.0 [])
HasEntry f (Entering b) = b.0 < length f.phis

-- there is a list of its users
abbrev pub HasList : FormState → Access → Type 0
HasList f Entry = Unit {0}
HasList f (Phi b) = b.0 < length f.phis
HasList f (Of i) = i.0 < length f.defs

-- with an empty place for one more instruction
abbrev pub grown : FormState → FormState
grown f = record f { defs = f.defs ++ None ∷ []; inst_users = f.inst_users ++ [] ∷ []; spare = f.spare - 1 }

-- with a place for an instruction, if it is the next
abbrev pub placed : ℕ → FormState → FormState
placed i f = if i == length f.defs then grown f else f

abbrev pub user_placed : User → FormState → FormState
user_placed (Inst i) f = placed i.0 f
user_placed (Operand b slot) f = f
user_placed (Entering b) f = f

abbrev pub access_placed : Access → FormState → FormState
access_placed Entry f = f
access_placed (Phi b) f = f
access_placed (Of i) f = placed i.0 f

abbrev pub last_placed : Option InstNo → FormState → FormState
last_placed None f = f
last_placed (Some i) f = placed i.0 f

-- one entry is another
abbrev pub entry_set : User → Option Access → FormState → FormState
entry_set (Inst i) to f = record f { defs = slice_set f.defs i.0 to }
entry_set (Operand b slot) to f = record f { operands = slice_set f.operands b.0 (slice_set (slice_index_or f.operands b.0 []) slot to) }
entry_set (Entering b) to f = record f { enters = slice_set f.enters b.0 to }

-- a user is in no list
abbrev pub taken_out : User → FormState → FormState
taken_out u f = record f { entry_users = without_user u f.entry_users; phi_users = map (without_user u) f.phi_users; inst_users = map (without_user u) f.inst_users }

-- a user is at the front of the list of an access
abbrev pub put_in : User → Access → FormState → FormState
put_in u Entry f = record f { entry_users = u ∷ f.entry_users }
put_in u (Phi b) f = record f { phi_users = slice_set f.phi_users b.0 (u ∷ slice_index_or f.phi_users b.0 []) }
put_in u (Of i) f = record f { inst_users = slice_set f.inst_users i.0 (u ∷ slice_index_or f.inst_users i.0 []) }

-- the user names no access
abbrev pub cleared : User → FormState → FormState
cleared u f = entry_set u None (taken_out u f)

-- a user that named none names an access
abbrev pub linked : User → Access → FormState → FormState
linked u to f = put_in u to (entry_set u (Some to) f)

-- the user names an access, and stands in its list and in no other
abbrev pub relinked : User → Access → FormState → FormState
relinked u to f = put_in u to (entry_set u (Some to) (taken_out u f))

-- each list holds exactly the users that name its access, each once
abbrev pub AreUsers : FormState → Type 0
AreUsers f = (a : Access) → EachOnce (users_of f a) × ((u : User) → IsIn u (users_of f a) ↔ (entry_of f u ≡ Some a))

-- all lists by block are as long as there are blocks, and those by instruction as there are instructions
pub record IsTable (f : FormState) : Type 0 where
  pub lasts : length f.lasts ≡ length f.phis
  pub enters : length f.enters ≡ length f.phis
  pub operands : length f.operands ≡ length f.phis
  pub phi_users : length f.phi_users ≡ length f.phis
  pub inst_users : length f.inst_users ≡ length f.defs
  pub few_blocks : length f.phis ≤ 2 ^ 32
  pub few_insts : length f.defs ≤ 2 ^ 32

-- So many blocks, each with so many slots at least, and so many instructions at least. No change of an entry takes a place away.
pub record HasPlaces (counts : List ℕ) (insts : ℕ) (f : FormState) : Type 0 where
  pub blocks : length f.phis ≡ length counts
  pub slots : (b : ℕ) → slice_index_or counts b 0 ≤ length (slice_index_or f.operands b [])
  pub numbers : insts ≤ length f.defs

-- each place of one form is one of another
abbrev pub KeepsPlaces : FormState → FormState → Type 0
KeepsPlaces f g = (counts : List ℕ) (insts : ℕ) → HasPlaces counts insts f → HasPlaces counts insts g

abbrev pub empty_slots : ℕ → List (Option Access)
empty_slots count = replicate count None

-- no phi, no last Def, all entries empty
abbrev pub empty_form : List ℕ → ℕ → FormState
empty_form counts insts = record {
  phis = replicate (length counts) false;
  lasts = replicate (length counts) None;
  enters = replicate (length counts) None;
  operands = map empty_slots counts;
  defs = replicate insts None;
  entry_users = [];
  phi_users = replicate (length counts) [];
  inst_users = replicate insts [];
  spare = 0;
  waiting = [];
}
