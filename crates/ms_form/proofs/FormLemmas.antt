use Rattle.std.proofs.Common.{Bool, false, ◌≡◌, ◌≢◌, ◌<◌, ◌≤◌, inl, inr, ℕ, suc, zero, ◌+◌, ◌-◌, List, [], ◌∷◌, ◌++◌, length, get_or, set, take, drop, map, Option, Some, None, refl, ap, sym, ◌∙◌, arith, length-append, length-set, get_or-set_same, get_or-set_other}
use Rattle.std.specs.Option.{option_map}
use Rattle.std.proofs.Math.ListN.{length-replicate}
use Rattle.std.proofs.Math.Seq.{take-set-lt}
use Rattle.std.proofs.lemmas.List.{get_or_past, get_or-take, get_or-drop, length-take, length-drop, length-map, take-set-le, drop-set-lt, drop-set-add, take-map, drop-map, take-append-le, drop-append-le, ext_get_or, set-set}
use Rattle.std.proofs.lemmas.Bool.Decides.{eqb_tells, leb_tells}
use Rattle.ms_ir.specs.declared.names.InstNo.{InstNo}
use Rattle.ms_form.specs.declared.access.Access.{Access}
use Rattle.ms_form.specs.declared.access.Access.TheVariants.{Entry, Of, Phi}
use Rattle.ms_form.specs.declared.access.User.{User}
use Rattle.ms_form.specs.declared.access.User.TheVariants.{Inst, Operand, Entering}
use Rattle.ms_form.specs.declared.places.Room.{Room}
use Rattle.ms_form.specs.Form.{FormState, entry_of, HasEntry, grown, entry_set, taken_out, put_in, without_user, cleared, linked, relinked, HasInst, HasUser, HasPlaces, KeepsPlaces, placed, user_placed, access_placed, last_placed, empty_slots, empty_form}
use Rattle.ms_form.specs.Places.{user_place, access_place, access_at, no_room, AreWithin, IsPlaced, IsForm, entering_in, operands_in, entries_of, form_of}
use Rattle.ms_form.proofs.ListLemmas.{get_or-push_default}
use Rattle.ms_form.proofs.PlaceLemmas.{entry_in, entering_place, operand_place, entering_from, operand_from, inst_from, same_place, entry_of-form}

pub get_or-entries : (blocks : ℕ) (homes : List (Option ℕ)) (n : ℕ) → get_or (entries_of blocks homes) n None ≡ option_map (access_at blocks) (get_or homes n None)
get_or-entries blocks [] n = refl
get_or-entries blocks (h ∷ homes) zero = refl
get_or-entries blocks (h ∷ homes) (suc n) = get_or-entries blocks homes n

-- the access that the linked lists of numbers tell of a place
abbrev pub entry_named : ℕ → List (Option ℕ) → Option ℕ → Option Access
entry_named blocks homes None = None
entry_named blocks homes (Some n) = option_map (access_at blocks) (get_or homes n None)

pub entry-view : (phis : List Bool) (lasts : List (Option InstNo)) (rooms : List Room) (base : ℕ) (users : List User) (homes : List (Option ℕ)) (lists : List (List ℕ)) (uses : List (List User)) (spare : ℕ) (waiting : List ℕ) (insts : ℕ) (u : User) (place : Option ℕ)
    → IsForm phis lasts rooms base users homes lists → insts ≡ length users - base → place ≡ user_place rooms base insts u
    → entry_of (form_of phis lasts rooms base (entries_of (length rooms) homes) uses spare waiting) u ≡ entry_named (length rooms) homes place
entry-view phis lasts rooms base users homes lists uses spare waiting insts u place f e is =
    let len : length (entries_of (length rooms) homes) ≡ base + insts = simp length-map (omega (arith, f.homes_len, f.placed.base_in)) in
    entry_of-form phis lasts rooms base (entries_of (length rooms) homes) uses spare waiting insts u len ∙ ap (entry_in (entries_of (length rooms) homes)) (sym is) ∙ by_place place
  where
    by_place : (place : Option ℕ) → entry_in (entries_of (length rooms) homes) place ≡ entry_named (length rooms) homes place
    by_place None = refl
    by_place (Some n) = get_or-entries (length rooms) homes n

-- A part of a list that does not reach a place is as before when that place is set.
piece-same : {A : Type 0} (xs : List A) (n from place : ℕ) (x d : A) → ((k : ℕ) → k < n → from + k ≢ place) → take n (drop from (set xs place x)) ≡ take n (drop from xs)
piece-same xs n from place x d h =
    ext_get_or d _ _ (simp (length-take, length-drop, length-set)) (λ k lt.
    let lt' : k < n = omega (arith, length-take n (drop from (set xs place x))) in
    get_or-take n (drop from (set xs place x)) k d lt' ∙ get_or-drop from (set xs place x) k d ∙ get_or-set_other xs place (from + k) x d (h k lt')
    ∙ sym (get_or-take n (drop from xs) k d lt' ∙ get_or-drop from xs k d))

enters-same : (entries : List (Option Access)) (rooms : List Room) (place : ℕ) (x : Option Access) → ((b : ℕ) → b < length rooms → (get_or rooms b no_room).first ≢ place)
    → map (entering_in (set entries place x)) rooms ≡ map (entering_in entries) rooms
enters-same entries [] place x h = refl
enters-same entries (r ∷ rooms) place x h =
    let head : get_or (set entries place x) r.first None ≡ get_or entries r.first None = get_or-set_other entries place r.first x None (h 0 (omega arith)) in
    rw (head, enters-same entries rooms place x (λ b lt. h (suc b) (omega arith))) refl

operands-same : (entries : List (Option Access)) (rooms : List Room) (place : ℕ) (x : Option Access) → ((b slot : ℕ) → b < length rooms → slot < (get_or rooms b no_room).slots → (get_or rooms b no_room).first + 1 + slot ≢ place)
    → map (operands_in (set entries place x)) rooms ≡ map (operands_in entries) rooms
operands-same entries [] place x h = refl
operands-same entries (r ∷ rooms) place x h =
    rw (piece-same entries r.slots (r.first + 1) place x None (λ slot lt. h 0 slot (omega arith) lt), operands-same entries rooms place x (λ b slot lt lt'. h (suc b) slot (omega arith) lt')) refl

enters-set : (entries : List (Option Access)) (rooms : List Room) (b place : ℕ) (x : Option Access) → b < length rooms → (get_or rooms b no_room).first ≡ place → place < length entries
    → ((k : ℕ) → k < length rooms → k ≢ b → (get_or rooms k no_room).first ≢ place)
    → map (entering_in (set entries place x)) rooms ≡ set (map (entering_in entries) rooms) b x
enters-set entries [] b place x lt is in' h = absurd (omega arith)
enters-set entries (r ∷ rooms) zero place x lt is in' h =
    let head : get_or (set entries place x) r.first None ≡ x = rw is (get_or-set_same entries place x None in') in
    rw (head, enters-same entries rooms place x (λ k lt'. h (suc k) (omega arith) (λ w. cc))) refl
enters-set entries (r ∷ rooms) (suc b) place x lt is in' h =
    let head : get_or (set entries place x) r.first None ≡ get_or entries r.first None = get_or-set_other entries place r.first x None (h 0 (omega arith) (λ w. cc)) in
    rw (head, enters-set entries rooms b place x (omega arith) is in' (λ k lt' ne. h (suc k) (omega arith) (λ w. ne (cc)))) refl

operands-set : (entries : List (Option Access)) (rooms : List Room) (b slot place : ℕ) (x : Option Access) → b < length rooms → slot < (get_or rooms b no_room).slots → (get_or rooms b no_room).first + 1 + slot ≡ place
    → ((k other : ℕ) → k < length rooms → other < (get_or rooms k no_room).slots → k ≢ b → (get_or rooms k no_room).first + 1 + other ≢ place)
    → map (operands_in (set entries place x)) rooms ≡ set (map (operands_in entries) rooms) b (set (get_or (map (operands_in entries) rooms) b []) slot x)
operands-set entries [] b slot place x lt lt' is h = absurd (omega arith)
operands-set entries (r ∷ rooms) zero slot place x lt lt' is h =
    let head : take r.slots (drop (r.first + 1) (set entries place x)) ≡ set (take r.slots (drop (r.first + 1) entries)) slot x =
    rw (← is) (ap (take r.slots) (drop-set-add (r.first + 1) entries slot x) ∙ take-set-lt r.slots (drop (r.first + 1) entries) slot x lt') in
    rw (head, operands-same entries rooms place x (λ k other in' in''. h (suc k) other (omega arith) in'' (λ w. cc))) refl
operands-set entries (r ∷ rooms) (suc b) slot place x lt lt' is h =
    rw (
      piece-same entries r.slots (r.first + 1) place x None (λ other in'. h 0 other (omega arith) in' (λ w. cc)),
      operands-set entries rooms b slot place x (omega arith) lt' is (λ k other in' in'' ne. h (suc k) other (omega arith) in'' (λ w. ne (cc))),
    ) refl

-- the block that a user is of
abbrev block_of : User → ℕ
block_of (Entering b) = b.0
block_of (Operand b slot) = b.0
block_of (Inst i) = 0

-- One place of the entries is set: the table changes at its user alone.
pub form_of-entry : (phis : List Bool) (lasts : List (Option InstNo)) (rooms : List Room) (base : ℕ) (users : List User) (entries : List (Option Access)) (uses : List (List User)) (spare : ℕ) (waiting : List ℕ) (u : User) (place : ℕ) (x : Option Access)
    → IsPlaced rooms base users → length entries ≡ length users → user_place rooms base (length users - base) u ≡ Some place
    → form_of phis lasts rooms base (set entries place x) uses spare waiting ≡ entry_set u x (form_of phis lasts rooms base entries uses spare waiting)
form_of-entry phis lasts rooms base users entries uses spare waiting (Inst i) place x p len e =
    let from = inst_from rooms base (length users - base) i place e in
    let is : base + i.0 ≡ place = from.1 in
    rw (enters-same entries rooms place x (λ b lt w. absurd (omega (arith, p.within b lt))), operands-same entries rooms place x (λ b slot lt lt' w. absurd (omega (arith, p.within b lt))), ← is, drop-set-add base entries i.0 x) refl
form_of-entry phis lasts rooms base users entries uses spare waiting (Entering b) place x p len e =
    let from = entering_from rooms b.0 place e in
    let in' : place < length entries = omega (arith, (p.at (Entering b) place e).0) in
    let low : place < base = omega (arith, p.within b.0 from.0, from.1) in
    let other : (k : ℕ) → k < length rooms → k ≢ b.0 → (get_or rooms k no_room).first ≢ place = λ k lt ne w.
    let same : Entering (record { 0 = k }) ≡ Entering b = same_place rooms base users (Entering (record { 0 = k })) (Entering b) place p (entering_place rooms k lt ∙ ap Some w) e in
    ne (ap block_of same) in
    let apart : (k slot : ℕ) → k < length rooms → slot < (get_or rooms k no_room).slots → (get_or rooms k no_room).first + 1 + slot ≢ place = λ k slot lt lt' w.
    let same : Operand (record { 0 = k }) slot ≡ Entering b = same_place rooms base users (Operand (record { 0 = k }) slot) (Entering b) place p (operand_place rooms k slot lt lt' ∙ ap Some w) e in
    cc in
    rw (enters-set entries rooms b.0 place x from.0 from.1 in' other, operands-same entries rooms place x apart, drop-set-lt base entries place x low) refl
form_of-entry phis lasts rooms base users entries uses spare waiting (Operand b slot) place x p len e =
    let from = operand_from rooms b.0 slot place e in
    let low : place < base = omega (arith, p.within b.0 from.0, from.1, from.2) in
    let other : (k t : ℕ) → k < length rooms → t < (get_or rooms k no_room).slots → k ≢ b.0 → (get_or rooms k no_room).first + 1 + t ≢ place = λ k t lt lt' ne w.
    let same : Operand (record { 0 = k }) t ≡ Operand b slot = same_place rooms base users (Operand (record { 0 = k }) t) (Operand b slot) place p (operand_place rooms k t lt lt' ∙ ap Some w) e in
    ne (ap block_of same) in
    let apart : (k : ℕ) → k < length rooms → (get_or rooms k no_room).first ≢ place = λ k lt w.
    let same : Entering (record { 0 = k }) ≡ Operand b slot = same_place rooms base users (Entering (record { 0 = k })) (Operand b slot) place p (entering_place rooms k lt ∙ ap Some w) e in
    cc in
    rw (enters-same entries rooms place x apart, operands-set entries rooms b.0 slot place x from.0 from.1 from.2 other, drop-set-lt base entries place x low) refl

get_or-without : (u : User) (uses : List (List User)) (n : ℕ) → get_or (map (without_user u) uses) n [] ≡ without_user u (get_or uses n [])
get_or-without u [] n = refl
get_or-without u (us ∷ uses) zero = refl
get_or-without u (us ∷ uses) (suc n) = get_or-without u uses n

-- A user is out of all lists.
pub form_of-without : (phis : List Bool) (lasts : List (Option InstNo)) (rooms : List Room) (base : ℕ) (entries : List (Option Access)) (uses : List (List User)) (spare : ℕ) (waiting : List ℕ) (u : User)
    → form_of phis lasts rooms base entries (map (without_user u) uses) spare waiting ≡ taken_out u (form_of phis lasts rooms base entries uses spare waiting)
form_of-without phis lasts rooms base entries uses spare waiting u =
    rw (get_or-without u uses (length rooms), take-map (without_user u) (length rooms) uses, drop-map (without_user u) (length rooms + 1) uses) refl

-- A user is at the front of a list.
pub form_of-front : (phis : List Bool) (lasts : List (Option InstNo)) (rooms : List Room) (base insts : ℕ) (entries : List (Option Access)) (uses : List (List User)) (spare : ℕ) (waiting : List ℕ) (u : User) (a : Access) (list : ℕ)
    → length uses ≡ length rooms + 1 + insts → access_place (length rooms) insts a ≡ Some list
    → form_of phis lasts rooms base entries (set uses list (u ∷ get_or uses list [])) spare waiting ≡ put_in u a (form_of phis lasts rooms base entries uses spare waiting)
form_of-front phis lasts rooms base insts entries uses spare waiting u Entry list len e =
    let is : length rooms ≡ list = cc in
    let v : List User = u ∷ get_or uses (length rooms) [] in
    rw (← is, get_or-set_same uses (length rooms) v [] (omega arith), take-set-le (length rooms) uses (length rooms) v (omega arith), drop-set-lt (length rooms + 1) uses (length rooms) v (omega arith)) refl
form_of-front phis lasts rooms base insts entries uses spare waiting u (Phi b) list len e = elim (leb_tells (suc b.0) (length rooms)) [
  | inl fits ↦
      let some : Some b.0 ≡ Some list = rw fits.0 at e in
      let is : b.0 ≡ list = cc in
      let lt : b.0 < length rooms = omega (arith, fits.1) in
      let v : List User = u ∷ get_or uses b.0 [] in
      rw (← is, get_or-set_other uses b.0 (length rooms) v [] (omega arith), take-set-lt (length rooms) uses b.0 v lt, drop-set-lt (length rooms + 1) uses b.0 v (omega arith), get_or-take (length rooms) uses b.0 [] lt) refl
  | inr past ↦
      let none : None ≡ Some list = rw past.0 at e in
      cc
]
form_of-front phis lasts rooms base insts entries uses spare waiting u (Of i) list len e = elim (leb_tells (suc i.0) insts) [
  | inl fits ↦
      let some : Some (length rooms + 1 + i.0) ≡ Some list = rw fits.0 at e in
      let is : length rooms + 1 + i.0 ≡ list = cc in
      let v : List User = u ∷ get_or uses (length rooms + 1 + i.0) [] in
      rw (← is, get_or-set_other uses (length rooms + 1 + i.0) (length rooms) v [] (omega arith), take-set-le (length rooms) uses (length rooms + 1 + i.0) v (omega arith), drop-set-add (length rooms + 1) uses i.0 v, get_or-drop (length rooms + 1) uses i.0 []) refl
  | inr past ↦
      let none : None ≡ Some list = rw past.0 at e in
      cc
]

enters-push : (entries : List (Option Access)) (rooms : List Room) → map (entering_in (entries ++ None ∷ [])) rooms ≡ map (entering_in entries) rooms
enters-push entries [] = refl
enters-push entries (r ∷ rooms) = rw (get_or-push_default entries None r.first, enters-push entries rooms) refl

operands-push : (entries : List (Option Access)) (rooms : List Room) (x : Option Access) → AreWithin rooms (length entries) → map (operands_in (entries ++ x ∷ [])) rooms ≡ map (operands_in entries) rooms
operands-push entries [] x within = refl
operands-push entries (r ∷ rooms) x within =
    let lt : r.first + r.slots < length entries = within 0 (omega arith) in
    rw (
      drop-append-le (r.first + 1) entries (x ∷ []) (omega arith),
      take-append-le r.slots (drop (r.first + 1) entries) (x ∷ []) (omega (arith, length-drop (r.first + 1) entries)),
      operands-push entries rooms x (λ b lt'. within (suc b) (omega arith)),
    ) refl

-- There is an empty place for one more instruction.
pub form_of-grown : (phis : List Bool) (lasts : List (Option InstNo)) (rooms : List Room) (base insts : ℕ) (entries : List (Option Access)) (uses : List (List User)) (spare : ℕ) (waiting : List ℕ)
    → AreWithin rooms base → length entries ≡ base + insts → length uses ≡ length rooms + 1 + insts
    → form_of phis lasts rooms base (entries ++ None ∷ []) (uses ++ [] ∷ []) (spare - 1) waiting ≡ grown (form_of phis lasts rooms base entries uses spare waiting)
form_of-grown phis lasts rooms base insts entries uses spare waiting within len uses_len =
    rw (
      enters-push entries rooms,
      operands-push entries rooms None (λ b lt. omega (arith, within b lt)),
      drop-append-le base entries (None ∷ []) (omega arith),
      get_or-push_default uses [] (length rooms),
      take-append-le (length rooms) uses ([] ∷ []) (omega arith),
      drop-append-le (length rooms + 1) uses ([] ∷ []) (omega arith),
    ) refl

-- An entry that is set twice is as it is set last.
entry_set-twice : (u : User) (x y : Option Access) (f : FormState) → HasEntry f u → entry_set u x (entry_set u y f) ≡ entry_set u x f
entry_set-twice (Inst i) x y f there = rw set-set refl
entry_set-twice (Entering b) x y f there = rw set-set refl
entry_set-twice (Operand b slot) x y f there =
    let lt : b.0 < length f.operands = in_operands f.operands b.0 slot there in
    rw (get_or-set_same f.operands b.0 (set (get_or f.operands b.0 []) slot y) [] lt, set-set, set-set) refl
  where
    in_operands : (operands : List (List (Option Access))) (b slot : ℕ) → slot < length (get_or operands b []) → b < length operands
    in_operands operands b slot lt = elim (leb_tells (length operands) b) [
      | inl past ↦
          let none : slot < 0 = rw (get_or_past operands b [] past.1) at lt in
          absurd (omega arith)
      | inr within ↦ within.1
    ]

has_entry-without : (u v : User) (f : FormState) → HasEntry f u → HasEntry (taken_out v f) u
has_entry-without (Inst i) v f there = there
has_entry-without (Entering b) v f there = there
has_entry-without (Operand b slot) v f there = there

pub linked-cleared : (u : User) (to : Access) (f : FormState) → HasEntry f u → linked u to (cleared u f) ≡ relinked u to f
linked-cleared u to f there = ap (put_in u to) (entry_set-twice u (Some to) None (taken_out u f) (has_entry-without u u f there))

-- What has a place, or the next one and room, has a place once it is made.
inst_placed : (i : ℕ) (f : FormState) → HasInst f i → i < length (placed i f).defs
inst_placed i f h = elim (eqb_tells i (length f.defs)) [
  | inl same ↦ rw same.0 (omega (arith, same.1, length-append f.defs (None ∷ [])))
  | inr other ↦ rw other.0 (omega (arith, h.0, other.1))
]

insts_stay : (a : Access) (f : FormState) → length f.defs ≤ length (access_placed a f).defs
insts_stay Entry f = omega arith
insts_stay (Phi b) f = omega arith
insts_stay (Of i) f = elim (eqb_tells i.0 (length f.defs)) [
  | inl same ↦ rw same.0 (omega (arith, length-append f.defs (None ∷ [])))
  | inr other ↦ rw other.0 (omega arith)
]

pub has_entry-placed : (u : User) (to : Access) (f : FormState) → HasUser f u → HasEntry (access_placed to (user_placed u f)) u
has_entry-placed (Inst i) to f h = omega (arith, insts_stay to (placed i.0 f), inst_placed i.0 f h)
has_entry-placed (Entering b) Entry f h = h
has_entry-placed (Entering b) (Phi c) f h = h
has_entry-placed (Entering b) (Of j) f h = elim (eqb_tells j.0 (length f.defs)) [
  | inl same ↦ rw same.0 h
  | inr other ↦ rw other.0 h
]
has_entry-placed (Operand b slot) Entry f h = h
has_entry-placed (Operand b slot) (Phi c) f h = h
has_entry-placed (Operand b slot) (Of j) f h = elim (eqb_tells j.0 (length f.defs)) [
  | inl same ↦ rw same.0 h
  | inr other ↦ rw other.0 h
]

-- No change takes a place away.
places-placed : (i : ℕ) (f : FormState) → KeepsPlaces f (placed i f)
places-placed i f counts insts h = elim (eqb_tells i (length f.defs)) [
  | inl same ↦ rw same.0 (record { blocks = h.blocks; slots = h.slots; numbers = omega (arith, h.numbers, length-append f.defs (None ∷ [])) })
  | inr other ↦ rw other.0 h
]

places-user : (u : User) (f : FormState) → KeepsPlaces f (user_placed u f)
places-user (Inst i) f = places-placed i.0 f
places-user (Operand b slot) f = λ counts insts h. h
places-user (Entering b) f = λ counts insts h. h

places-access : (a : Access) (f : FormState) → KeepsPlaces f (access_placed a f)
places-access Entry f = λ counts insts h. h
places-access (Phi b) f = λ counts insts h. h
places-access (Of i) f = places-placed i.0 f

-- Each block has as many slots as before where one operand is set.
pub slots-set : (rows : List (List (Option Access))) (b slot c : ℕ) (x : Option Access) → length (get_or (set rows b (set (get_or rows b []) slot x)) c []) ≡ length (get_or rows c [])
slots-set [] b slot c x = refl
slots-set (row ∷ rows) zero slot zero x = length-set row slot x
slots-set (row ∷ rows) zero slot (suc c) x = refl
slots-set (row ∷ rows) (suc b) slot zero x = refl
slots-set (row ∷ rows) (suc b) slot (suc c) x = slots-set rows b slot c x

places-entry : (u : User) (x : Option Access) (f : FormState) → KeepsPlaces f (entry_set u x f)
places-entry (Inst i) x f counts insts h = record { blocks = h.blocks; slots = h.slots; numbers = omega (arith, h.numbers, length-set f.defs i.0 x) }
places-entry (Operand b slot) x f counts insts h = record {
  blocks = h.blocks;
  slots = λ c. let n = h.slots c in let same = slots-set f.operands b.0 slot c x in omega arith;
  numbers = h.numbers;
}
places-entry (Entering b) x f counts insts h = record { blocks = h.blocks; slots = h.slots; numbers = h.numbers }

places-out : (u : User) (f : FormState) → KeepsPlaces f (taken_out u f)
places-out u f counts insts h = record { blocks = h.blocks; slots = h.slots; numbers = h.numbers }

places-in : (u : User) (a : Access) (f : FormState) → KeepsPlaces f (put_in u a f)
places-in u Entry f counts insts h = record { blocks = h.blocks; slots = h.slots; numbers = h.numbers }
places-in u (Phi b) f counts insts h = record { blocks = h.blocks; slots = h.slots; numbers = h.numbers }
places-in u (Of i) f counts insts h = record { blocks = h.blocks; slots = h.slots; numbers = h.numbers }

pub places-relinked : (u : User) (to : Access) (f : FormState) → KeepsPlaces f (relinked u to (access_placed to (user_placed u f)))
places-relinked u to f counts insts h =
    let g : FormState = access_placed to (user_placed u f) in
    places-in u to (entry_set u (Some to) (taken_out u g)) counts insts (places-entry u (Some to) (taken_out u g) counts insts (places-out u g counts insts
    (places-access to (user_placed u f) counts insts (places-user u f counts insts h))))

pub places-cleared : (u : User) (f : FormState) → KeepsPlaces f (cleared u (user_placed u f))
places-cleared u f counts insts h =
    let g : FormState = user_placed u f in
    places-entry u None (taken_out u g) counts insts (places-out u g counts insts (places-user u f counts insts h))

pub places-last : (last : Option InstNo) (f : FormState) → KeepsPlaces f (last_placed last f)
places-last None f = λ counts insts h. h
places-last (Some i) f = places-placed i.0 f

slots-empty : (counts : List ℕ) (b : ℕ) → get_or counts b 0 ≤ length (get_or (map empty_slots counts) b [])
slots-empty [] b = omega arith
slots-empty (n ∷ counts) zero = omega (arith, length-replicate {A = Option Access} n None)
slots-empty (n ∷ counts) (suc b) = slots-empty counts b

pub places-empty : (counts : List ℕ) (insts : ℕ) → HasPlaces counts insts (empty_form counts insts)
places-empty counts insts = record {
  blocks = length-replicate (length counts) false;
  slots = slots-empty counts;
  numbers = omega (arith, length-replicate {A = Option Access} insts None);
}
