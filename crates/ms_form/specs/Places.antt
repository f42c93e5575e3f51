-- Where the table of a form has the entry of each user, and the list of each access.
use Rattle.std.specs.Prelude.{◌≡◌, ◌<◌, ◌≤◌, ◌+◌, ◌-◌, ◌^◌, ℕ, zero, suc, Bool, List, [], ◌∷◌, ◌++◌, length, map, take, drop, Option, Some, None, slice_get, slice_index_or, if◌then◌else◌, ◌==◌, nat_lt}
use Rattle.std.specs.Option.{option_map}
use Rattle.ms_ir.specs.declared.names.InstNo.{InstNo}
use Rattle.ms_ir.specs.declared.names.BlockNo.{BlockNo}
use Rattle.ms_form.specs.declared.access.Access.{Access}
use Rattle.ms_form.specs.declared.access.Access.TheVariants.{Entry, Of, Phi}
use Rattle.ms_form.specs.declared.access.User.{User}
use Rattle.ms_form.specs.declared.access.User.TheVariants.{Inst, Operand, Entering}
use Rattle.ms_form.specs.declared.places.Room.{Room}
use Rattle.ms_form.specs.Form.{FormState}

-- Where a user of a block has its entry: first the entering access, then the operands.
abbrev pub room_place : Option Room → Option ℕ → Option ℕ
room_place None slot = None
room_place (Some room) None = Some room.first
room_place (Some room) (Some slot) = if nat_lt slot room.slots then Some (room.first + 1 + slot) else None

-- Where a user has its entry, with so many instructions: they come last, from the base on.
abbrev pub user_place : List Room → ℕ → ℕ → User → Option ℕ
user_place rooms base insts (Inst i) = if nat_lt i.0 insts then Some (base + i.0) else None
user_place rooms base insts (Operand b slot) = room_place (slice_get rooms b.0) (Some slot)
user_place rooms base insts (Entering b) = room_place (slice_get rooms b.0) None

-- Which list an access has, with so many blocks and instructions: those of the phis come first, then that of the entry.
abbrev pub access_place : ℕ → ℕ → Access → Option ℕ
access_place blocks insts Entry = Some blocks
access_place blocks insts (Phi b) = if nat_lt b.0 blocks then Some b.0 else None
access_place blocks insts (Of i) = if nat_lt i.0 insts then Some (blocks + 1 + i.0) else None

-- the access of a list
abbrev pub access_at : ℕ → ℕ → Access
access_at blocks list = if nat_lt list blocks then Phi (record { 0 = list }) else (if list == blocks then Entry else Of (record { 0 = list - (blocks + 1) }))

abbrev pub no_room : Room
no_room = record { first = 0; slots = 0 }

abbrev pub no_user : User
no_user = Inst (record { 0 = 0 })

abbrev pub user_at : List User → ℕ → User
user_at users number = slice_index_or users number no_user

abbrev pub slots_of : Room → ℕ
slots_of room = room.slots

-- the users of a block all stand before the base
abbrev pub AreWithin : List Room → ℕ → Type 0
AreWithin rooms base = (b : ℕ) → b < length rooms → (slice_index_or rooms b no_room).first + (slice_index_or rooms b no_room).slots < base

-- Each place has its user, and each user its place; those of blocks come before the instructions.
pub record IsPlaced (rooms : List Room) (base : ℕ) (users : List User) : Type 0 where
  pub at : (u : User) (number : ℕ) → user_place rooms base (length users - base) u ≡ Some number → (number < length users) × (user_at users number ≡ u)
  pub back : (number : ℕ) → number < length users → user_place rooms base (length users - base) (user_at users number) ≡ Some number
  pub within : AreWithin rooms base
  pub base_in : base ≤ length users

-- the entries of a block's users
abbrev pub entering_in : List (Option Access) → Room → Option Access
entering_in entries room = slice_index_or entries room.first None

abbrev pub operands_in : List (Option Access) → Room → List (Option Access)
operands_in entries room = take room.slots (drop (room.first + 1) entries)

-- the entries and lists of users that the linked lists of numbers tell
abbrev pub entries_of : ℕ → List (Option ℕ) → List (Option Access)
entries_of blocks homes = map (option_map (access_at blocks)) homes

abbrev pub named : List User → List ℕ → List User
named users numbers = map (user_at users) numbers

-- the table that contracts see
abbrev pub form_of : List Bool → List (Option InstNo) → List Room → ℕ → List (Option Access) → List (List User) → ℕ → List ℕ → FormState
form_of phis lasts rooms base entries uses spare waiting = record {
  phis = phis;
  lasts = lasts;
  enters = map (entering_in entries) rooms;
  operands = map (operands_in entries) rooms;
  defs = drop base entries;
  entry_users = slice_index_or uses (length rooms) [];
  phi_users = take (length rooms) uses;
  inst_users = drop (length rooms + 1) uses;
  spare = spare;
  waiting = waiting;
}

pub record IsForm (phis : List Bool) (lasts : List (Option InstNo)) (rooms : List Room) (base : ℕ) (users : List User) (homes : List (Option ℕ)) (lists : List (List ℕ)) : Type 0 where
  pub placed : IsPlaced rooms base users
  pub phis_len : length phis ≡ length rooms
  pub lasts_len : length lasts ≡ length rooms
  pub homes_len : length homes ≡ length users
  pub lists_len : length lists + base ≡ length rooms + 1 + length users
  pub few_rooms : length rooms ≤ 2 ^ 32
  pub few_users : length users ≤ base + 2 ^ 32

-- the users of one block
abbrev pub operand_users : BlockNo → ℕ → List User
operand_users b zero = []
operand_users b (suc slot) = operand_users b slot ++ Operand b slot ∷ []

abbrev pub room_users : BlockNo → ℕ → List User
room_users b slots = Entering b ∷ operand_users b slots

abbrev pub inst_users_up_to : ℕ → List User
inst_users_up_to zero = []
inst_users_up_to (suc i) = inst_users_up_to i ++ Inst (record { 0 = i }) ∷ []
