use Rattle.std.proofs.Common.{Bool, ◌≡◌, ◌≢◌, ◌<◌, inl, inr, ℕ, suc, zero, ◌+◌, ◌-◌, List, [], ◌∷◌, ◌++◌, length, get_or, take, drop, map, Option, Some, None, refl, ap, sym, ◌∙◌, arith, length-append}
use Rattle.std.specs.List.{slice_get}
use Rattle.std.proofs.Math.ListN.{get_or-append}
use Rattle.std.proofs.Math.Seq.{drop-append_seam}
use Rattle.std.proofs.lemmas.List.{get_or_push, get_or_past, get_or-take, get_or-drop, length-take, length-drop}
use Rattle.std.proofs.lemmas.Bool.Decides.{eqb_tells, leb_tells}
use Rattle.ms_ir.specs.declared.names.InstNo.{InstNo}
use Rattle.ms_ir.specs.declared.names.BlockNo.{BlockNo}
use Rattle.ms_form.specs.declared.access.Access.{Access}
use Rattle.ms_form.specs.declared.access.Access.TheVariants.{Entry, Of, Phi}
use Rattle.ms_form.specs.declared.access.User.{User}
use Rattle.ms_form.specs.declared.access.User.TheVariants.{Inst, Operand, Entering}
use Rattle.ms_form.specs.declared.places.Room.{Room}
use Rattle.ms_form.specs.Form.{entry_of, users_of, HasEntry, HasList}
use Rattle.ms_form.specs.Places.{room_place, user_place, access_place, access_at, no_room, no_user, user_at, AreWithin, IsPlaced, entering_in, operands_in, form_of, operand_users}

-- what stands in the place, if there is one
abbrev pub entry_in : List (Option Access) → Option ℕ → Option Access
entry_in entries None = None
entry_in entries (Some number) = get_or entries number None

-- the users of the list, if there is one
abbrev pub list_in : List (List User) → Option ℕ → List User
list_in uses None = []
list_in uses (Some list) = get_or uses list []

-- The place of a user, by its kind.

pub entering_place : (rooms : List Room) (b : ℕ) → b < length rooms → room_place (slice_get rooms b) None ≡ Some (get_or rooms b no_room).first
entering_place [] b lt = absurd (omega arith)
entering_place (r ∷ rooms) zero lt = refl
entering_place (r ∷ rooms) (suc b) lt = entering_place rooms b (omega arith)

pub operand_place : (rooms : List Room) (b slot : ℕ) → b < length rooms → slot < (get_or rooms b no_room).slots → room_place (slice_get rooms b) (Some slot) ≡ Some ((get_or rooms b no_room).first + 1 + slot)
operand_place [] b slot lt lt' = absurd (omega arith)
operand_place (r ∷ rooms) zero slot lt lt' = elim (leb_tells (suc slot) r.slots) [
  | inl fits ↦ rw fits.0 refl
  | inr past ↦ absurd (omega (arith, past.1))
]
operand_place (r ∷ rooms) (suc b) slot lt lt' = operand_place rooms b slot (omega arith) lt'

pub inst_place : (base insts i : ℕ) → i < insts → user_place [] base insts (Inst (record { 0 = i })) ≡ Some (base + i)
inst_place base insts i lt = elim (leb_tells (suc i) insts) [
  | inl fits ↦ rw fits.0 refl
  | inr past ↦ absurd (omega (arith, past.1))
]

pub entering_from : (rooms : List Room) (b number : ℕ) → room_place (slice_get rooms b) None ≡ Some number → (b < length rooms) × ((get_or rooms b no_room).first ≡ number)
entering_from [] b number e = cc
entering_from (r ∷ rooms) zero number e = (omega arith, cc)
entering_from (r ∷ rooms) (suc b) number e =
    let h = entering_from rooms b number e in
    (omega (arith, h.0), h.1)

pub operand_from : (rooms : List Room) (b slot number : ℕ) → room_place (slice_get rooms b) (Some slot) ≡ Some number
    → (b < length rooms) × (slot < (get_or rooms b no_room).slots) × ((get_or rooms b no_room).first + 1 + slot ≡ number)
operand_from [] b slot number e = cc
operand_from (r ∷ rooms) zero slot number e = elim (leb_tells (suc slot) r.slots) [
  | inl fits ↦
      let some : Some (r.first + 1 + slot) ≡ Some number = rw fits.0 at e in
      (omega arith, omega (arith, fits.1), cc)
  | inr past ↦
      let none : None ≡ Some number = rw past.0 at e in
      cc
]
operand_from (r ∷ rooms) (suc b) slot number e =
    let h = operand_from rooms b slot number e in
    (omega (arith, h.0), h.1, h.2)

pub inst_from : (rooms : List Room) (base insts : ℕ) (i : InstNo) (number : ℕ) → user_place rooms base insts (Inst i) ≡ Some number → (i.0 < insts) × (base + i.0 ≡ number)
inst_from rooms base insts i number e = elim (leb_tells (suc i.0) insts) [
  | inl fits ↦
      let some : Some (base + i.0) ≡ Some number = rw fits.0 at e in
      (omega (arith, fits.1), cc)
  | inr past ↦
      let none : None ≡ Some number = rw past.0 at e in
      cc
]

-- Two users have two places.
pub same_place : (rooms : List Room) (base : ℕ) (users : List User) (u v : User) (number : ℕ) → IsPlaced rooms base users
    → user_place rooms base (length users - base) u ≡ Some number → user_place rooms base (length users - base) v ≡ Some number → u ≡ v
same_place rooms base users u v number p eu ev = sym (p.at u number eu).1 ∙ (p.at v number ev).1

-- What the table has for a user is what stands in its place.
entry_of-entering : (entries : List (Option Access)) (rooms : List Room) (b : ℕ) → get_or (map (entering_in entries) rooms) b None ≡ entry_in entries (room_place (slice_get rooms b) None)
entry_of-entering entries [] b = refl
entry_of-entering entries (r ∷ rooms) zero = refl
entry_of-entering entries (r ∷ rooms) (suc b) = entry_of-entering entries rooms b

entry_of-operand : (entries : List (Option Access)) (rooms : List Room) (b slot : ℕ) → get_or (get_or (map (operands_in entries) rooms) b []) slot None ≡ entry_in entries (room_place (slice_get rooms b) (Some slot))
entry_of-operand entries [] b slot = refl
entry_of-operand entries (r ∷ rooms) zero slot = elim (leb_tells (suc slot) r.slots) [
  | inl fits ↦ rw fits.0 (get_or-take r.slots (drop (r.first + 1) entries) slot None fits.1 ∙ get_or-drop (r.first + 1) entries slot None)
  | inr past ↦ rw past.0 (get_or_past (take r.slots (drop (r.first + 1) entries)) slot None (omega (arith, past.1, length-take r.slots (drop (r.first + 1) entries))))
]
entry_of-operand entries (r ∷ rooms) (suc b) slot = entry_of-operand entries rooms b slot

pub entry_of-form : (phis : List Bool) (lasts : List (Option InstNo)) (rooms : List Room) (base : ℕ) (entries : List (Option Access)) (uses : List (List User)) (spare : ℕ) (waiting : List ℕ) (insts : ℕ) (u : User) → length entries ≡ base + insts
    → entry_of (form_of phis lasts rooms base entries uses spare waiting) u ≡ entry_in entries (user_place rooms base insts u)
entry_of-form phis lasts rooms base entries uses spare waiting insts (Inst i) len = elim (leb_tells (suc i.0) insts) [
  | inl fits ↦ rw fits.0 (get_or-drop base entries i.0 None)
  | inr past ↦ rw past.0 (get_or-drop base entries i.0 None ∙ get_or_past entries (base + i.0) None (omega (arith, past.1)))
]
entry_of-form phis lasts rooms base entries uses spare waiting insts (Operand b slot) len = entry_of-operand entries rooms b.0 slot
entry_of-form phis lasts rooms base entries uses spare waiting insts (Entering b) len = entry_of-entering entries rooms b.0

pub users_of-form : (phis : List Bool) (lasts : List (Option InstNo)) (rooms : List Room) (base : ℕ) (entries : List (Option Access)) (uses : List (List User)) (spare : ℕ) (waiting : List ℕ) (insts : ℕ) (a : Access) → length uses ≡ length rooms + 1 + insts
    → users_of (form_of phis lasts rooms base entries uses spare waiting) a ≡ list_in uses (access_place (length rooms) insts a)
users_of-form phis lasts rooms base entries uses spare waiting insts Entry len = refl
users_of-form phis lasts rooms base entries uses spare waiting insts (Phi b) len = elim (leb_tells (suc b.0) (length rooms)) [
  | inl fits ↦ rw fits.0 (get_or-take (length rooms) uses b.0 [] fits.1)
  | inr past ↦ rw past.0 (get_or_past (take (length rooms) uses) b.0 [] (omega (arith, past.1, length-take (length rooms) uses)))
]
users_of-form phis lasts rooms base entries uses spare waiting insts (Of i) len = elim (leb_tells (suc i.0) insts) [
  | inl fits ↦ rw fits.0 (get_or-drop (length rooms + 1) uses i.0 [])
  | inr past ↦ rw past.0 (get_or-drop (length rooms + 1) uses i.0 [] ∙ get_or_past uses (length rooms + 1 + i.0) [] (omega (arith, past.1)))
]

-- The list of an access, and the access of a list.
pub access_at-place : (blocks insts : ℕ) (a : Access) (list : ℕ) → access_place blocks insts a ≡ Some list → access_at blocks list ≡ a
access_at-place blocks insts Entry list e =
    let same : blocks ≡ list = cc in
    rw (← same) (elim (leb_tells (suc blocks) blocks) [
      | inl fits ↦ absurd (omega (arith, fits.1))
      | inr past ↦ rw past.0 (elim (eqb_tells blocks blocks) [
        | inl fits ↦ rw fits.0 refl
        | inr off ↦ absurd (off.1 refl)
      ])
    ])
access_at-place blocks insts (Phi b) list e = elim (leb_tells (suc b.0) blocks) [
  | inl fits ↦
      let some : Some b.0 ≡ Some list = rw fits.0 at e in
      let same : b.0 ≡ list = cc in
      rw (← same, fits.0) refl
  | inr past ↦
      let none : None ≡ Some list = rw past.0 at e in
      cc
]
access_at-place blocks insts (Of i) list e = elim (leb_tells (suc i.0) insts) [
  | inl fits ↦
      let some : Some (blocks + 1 + i.0) ≡ Some list = rw fits.0 at e in
      let same : blocks + 1 + i.0 ≡ list = cc in
      elim (leb_tells (suc list) blocks) [
        | inl low ↦ absurd (omega (arith, low.1))
        | inr high ↦ rw high.0 (elim (eqb_tells list blocks) [
          | inl here ↦ absurd (omega (arith, here.1))
          | inr off ↦ rw off.0 (ap (λ (n : ℕ). Of (record { 0 = n })) (omega arith))
        ])
      ]
  | inr past ↦
      let none : None ≡ Some list = rw past.0 at e in
      cc
]

pub access_place-at : (blocks insts list : ℕ) → list < blocks + 1 + insts → access_place blocks insts (access_at blocks list) ≡ Some list
access_place-at blocks insts list lt = elim (leb_tells (suc list) blocks) [
  | inl low ↦ rw (low.0, low.0) refl
  | inr high ↦ rw high.0 (elim (eqb_tells list blocks) [
    | inl here ↦ rw here.0 (ap Some (sym here.1))
    | inr off ↦ rw off.0 (elim (leb_tells (suc (list - (blocks + 1))) insts) [
      | inl fits ↦ rw fits.0 (ap Some (omega (arith, high.1, off.1)))
      | inr past ↦ absurd (omega (arith, high.1, off.1, past.1))
    ])
  ])
]

-- A user that the table has an entry for has a place.
pub placed_there : (phis : List Bool) (lasts : List (Option InstNo)) (rooms : List Room) (base : ℕ) (entries : List (Option Access)) (uses : List (List User)) (spare : ℕ) (waiting : List ℕ) (insts : ℕ) (u : User)
    → length entries ≡ base + insts → length phis ≡ length rooms → HasEntry (form_of phis lasts rooms base entries uses spare waiting) u → user_place rooms base insts u ≢ None
placed_there phis lasts rooms base entries uses spare waiting insts (Inst i) len phis_len there e =
    let lt : i.0 < insts = omega (arith, there, length-drop base entries) in
    let some : None ≡ Some (base + i.0) = sym e ∙ inst_place base insts i.0 lt in
    cc
placed_there phis lasts rooms base entries uses spare waiting insts (Entering b) len phis_len there e =
    let some : None ≡ Some (get_or rooms b.0 no_room).first = sym e ∙ entering_place rooms b.0 (omega arith) in
    cc
placed_there phis lasts rooms base entries uses spare waiting insts (Operand b slot) len phis_len there e = slot_there entries rooms b.0 slot there e
  where
    slot_there : (entries : List (Option Access)) (rooms : List Room) (b slot : ℕ) → slot < length (get_or (map (operands_in entries) rooms) b []) → room_place (slice_get rooms b) (Some slot) ≢ None
    slot_there entries [] b slot lt e = absurd (omega arith)
    slot_there entries (r ∷ rooms) zero slot lt e =
        let some : None ≡ Some (r.first + 1 + slot) = sym e ∙ operand_place (r ∷ rooms) 0 slot (omega arith) (omega (arith, lt, length-take r.slots (drop (r.first + 1) entries))) in
        cc
    slot_there entries (r ∷ rooms) (suc b) slot lt e = slot_there entries rooms b slot lt e

pub listed_there : (phis : List Bool) (lasts : List (Option InstNo)) (rooms : List Room) (base : ℕ) (entries : List (Option Access)) (uses : List (List User)) (spare : ℕ) (waiting : List ℕ) (insts : ℕ) (a : Access)
    → length entries ≡ base + insts → length phis ≡ length rooms → HasList (form_of phis lasts rooms base entries uses spare waiting) a → access_place (length rooms) insts a ≢ None
listed_there phis lasts rooms base entries uses spare waiting insts Entry len phis_len there e = cc
listed_there phis lasts rooms base entries uses spare waiting insts (Phi b) len phis_len there e = elim (leb_tells (suc b.0) (length rooms)) [
  | inl fits ↦
      let some : Some b.0 ≡ None = rw fits.0 at e in
      cc
  | inr past ↦ absurd (omega (arith, past.1))
]
listed_there phis lasts rooms base entries uses spare waiting insts (Of i) len phis_len there e = elim (leb_tells (suc i.0) insts) [
  | inl fits ↦
      let some : Some (length rooms + 1 + i.0) ≡ None = rw fits.0 at e in
      cc
  | inr past ↦ absurd (omega (arith, past.1, there, length-drop base entries))
]

-- The room of one more block.

pub length-operands : (b : BlockNo) (n : ℕ) → length (operand_users b n) ≡ n
length-operands b zero = refl
length-operands b (suc n) = length-append (operand_users b n) (Operand b n ∷ []) ∙ (omega (arith, length-operands b n))

get_or-operands : (b : BlockNo) (n slot : ℕ) (d : User) → slot < n → get_or (operand_users b n) slot d ≡ Operand b slot
get_or-operands b zero slot d lt = absurd (omega arith)
get_or-operands b (suc n) slot d lt = elim (leb_tells n slot) [
  | inl last ↦
      let is : slot ≡ n = omega (arith, last.1) in
      rw (is, get_or_push (operand_users b n) (Operand b n) d n (length-operands b n)) refl
  | inr old ↦ get_or-append (operand_users b n) (Operand b n ∷ []) d slot (omega (arith, old.1, length-operands b n)) ∙ get_or-operands b n slot d old.1
]

-- the users after those of one more block
abbrev pub more_users : List User → BlockNo → ℕ → List User
more_users users b slots = (users ++ Entering b ∷ []) ++ operand_users b slots

length-more : (users : List User) (b : BlockNo) (slots : ℕ) → length (more_users users b slots) ≡ length users + 1 + slots
length-more users b slots =
    length-append (users ++ Entering b ∷ []) (operand_users b slots) ∙ (omega (arith, length-append users (Entering b ∷ []), length-operands b slots))

more-old : (users : List User) (b : BlockNo) (slots n : ℕ) → n < length users → user_at (more_users users b slots) n ≡ user_at users n
more-old users b slots n lt =
    get_or-append (users ++ Entering b ∷ []) (operand_users b slots) no_user n (omega (arith, length-append users (Entering b ∷ []))) ∙ get_or-append users (Entering b ∷ []) no_user n lt

more-entering : (users : List User) (b : BlockNo) (slots : ℕ) → user_at (more_users users b slots) (length users) ≡ Entering b
more-entering users b slots =
    get_or-append (users ++ Entering b ∷ []) (operand_users b slots) no_user (length users) (omega (arith, length-append users (Entering b ∷ []))) ∙ get_or_push users (Entering b) no_user (length users) refl

more-operand : (users : List User) (b : BlockNo) (slots slot : ℕ) → slot < slots → user_at (more_users users b slots) (length users + 1 + slot) ≡ Operand b slot
more-operand users b slots slot lt =
    let len : length (users ++ Entering b ∷ []) ≡ length users + 1 = length-append users (Entering b ∷ []) in
    get_or-append_past (users ++ Entering b ∷ []) (operand_users b slots) (length users + 1) slot no_user len ∙ get_or-operands b slots slot no_user lt
  where
    get_or-append_past : {A : Type 0} (xs ys : List A) (n k : ℕ) (d : A) → length xs ≡ n → get_or (xs ++ ys) (n + k) d ≡ get_or ys k d
    get_or-append_past xs ys n k d e = sym (get_or-drop n (xs ++ ys) k d) ∙ rw (← e, drop-append_seam) refl

pub placed-block : (rooms : List Room) (users : List User) (b : BlockNo) (slots : ℕ) → IsPlaced rooms (length users) users → b.0 ≡ length rooms
    → IsPlaced (rooms ++ record { first = length users; slots = slots } ∷ []) (length (more_users users b slots)) (more_users users b slots)
placed-block rooms users b slots p b_is = record {
  at = at_more;
  back = back_more;
  within = within_more;
  base_in = omega arith;
}
  where
    at_more : (u : User) (number : ℕ) → user_place (rooms ++ record { first = length users; slots = slots } ∷ []) (length (more_users users b slots)) (length (more_users users b slots) - length (more_users users b slots)) u ≡ Some number
        → (number < length (more_users users b slots)) × (user_at (more_users users b slots) number ≡ u)
    at_more (Inst i) number e =
        let from = inst_from (rooms ++ record { first = length users; slots = slots } ∷ []) (length (more_users users b slots)) (length (more_users users b slots) - length (more_users users b slots)) i number e in
        absurd (omega (arith, from.0))
    at_more (Entering c) number e =
        let from = entering_from (rooms ++ record { first = length users; slots = slots } ∷ []) c.0 number e in
        elim (leb_tells (length rooms) c.0) [
          | inl last ↦
              let c_is : c.0 ≡ length rooms = omega (arith, last.1, from.0, length-append rooms (record { first = length users; slots = slots } ∷ [])) in
              let room_is : get_or (rooms ++ record { first = length users; slots = slots } ∷ []) c.0 no_room ≡ record { first = length users; slots = slots } = get_or_push rooms (record { first = length users; slots = slots }) no_room c.0 (sym c_is) in
              let number_is : number ≡ length users = sym from.1 ∙ ap (λ (r : Room). r.first) room_is in
              (omega (arith, number_is, length-more users b slots), rw number_is (more-entering users b slots ∙ ap (λ (n : ℕ). Entering (record { 0 = n })) (b_is ∙ sym c_is)))
          | inr old ↦
              let room_is : get_or (rooms ++ record { first = length users; slots = slots } ∷ []) c.0 no_room ≡ get_or rooms c.0 no_room = get_or-append rooms (record { first = length users; slots = slots } ∷ []) no_room c.0 old.1 in
              let was = p.at (Entering c) number (entering_place rooms c.0 old.1 ∙ ap Some (sym (ap (λ (r : Room). r.first) room_is) ∙ from.1)) in
              (omega (arith, was.0, length-more users b slots), more-old users b slots number was.0 ∙ was.1)
        ]
    at_more (Operand c slot) number e =
        let from = operand_from (rooms ++ record { first = length users; slots = slots } ∷ []) c.0 slot number e in
        elim (leb_tells (length rooms) c.0) [
          | inl last ↦
              let c_is : c.0 ≡ length rooms = omega (arith, last.1, from.0, length-append rooms (record { first = length users; slots = slots } ∷ [])) in
              let room_is : get_or (rooms ++ record { first = length users; slots = slots } ∷ []) c.0 no_room ≡ record { first = length users; slots = slots } = get_or_push rooms (record { first = length users; slots = slots }) no_room c.0 (sym c_is) in
              let number_is : number ≡ length users + 1 + slot = sym from.2 ∙ ap (λ (r : Room). r.first + 1 + slot) room_is in
              let fits : slot < slots = rw room_is at from.1 in
              (omega (arith, number_is, fits, length-more users b slots), rw number_is (more-operand users b slots slot fits ∙ ap (λ (n : ℕ). Operand (record { 0 = n }) slot) (b_is ∙ sym c_is)))
          | inr old ↦
              let room_is : get_or (rooms ++ record { first = length users; slots = slots } ∷ []) c.0 no_room ≡ get_or rooms c.0 no_room = get_or-append rooms (record { first = length users; slots = slots } ∷ []) no_room c.0 old.1 in
              let fits : slot < (get_or rooms c.0 no_room).slots = rw room_is at from.1 in
              let was = p.at (Operand c slot) number (operand_place rooms c.0 slot old.1 fits ∙ ap Some (sym (ap (λ (r : Room). r.first + 1 + slot) room_is) ∙ from.2)) in
              (omega (arith, was.0, length-more users b slots), more-old users b slots number was.0 ∙ was.1)
        ]

    room_more : (c : ℕ) → c < length rooms → get_or (rooms ++ record { first = length users; slots = slots } ∷ []) c no_room ≡ get_or rooms c no_room
    room_more c lt = get_or-append rooms (record { first = length users; slots = slots } ∷ []) no_room c lt

    place_more : (u : User) (number : ℕ) → user_place rooms (length users) (length users - length users) u ≡ Some number
        → user_place (rooms ++ record { first = length users; slots = slots } ∷ []) (length (more_users users b slots)) (length (more_users users b slots) - length (more_users users b slots)) u ≡ Some number
    place_more (Inst i) number e = absurd (omega (arith, (inst_from rooms (length users) (length users - length users) i number e).0))
    place_more (Entering c) number e =
        let from = entering_from rooms c.0 number e in
        entering_place (rooms ++ record { first = length users; slots = slots } ∷ []) c.0 (omega (arith, from.0, length-append rooms (record { first = length users; slots = slots } ∷ [])))
        ∙ ap (λ (r : Room). Some r.first) (room_more c.0 from.0) ∙ ap Some from.1
    place_more (Operand c slot) number e =
        let from = operand_from rooms c.0 slot number e in
        let fits : slot < (get_or (rooms ++ record { first = length users; slots = slots } ∷ []) c.0 no_room).slots = rw (room_more c.0 from.0) from.1 in
        operand_place (rooms ++ record { first = length users; slots = slots } ∷ []) c.0 slot (omega (arith, from.0, length-append rooms (record { first = length users; slots = slots } ∷ []))) fits
        ∙ ap (λ (r : Room). Some (r.first + 1 + slot)) (room_more c.0 from.0) ∙ ap Some from.2

    last_room : get_or (rooms ++ record { first = length users; slots = slots } ∷ []) b.0 no_room ≡ record { first = length users; slots = slots }
    last_room = get_or_push rooms (record { first = length users; slots = slots }) no_room b.0 (sym b_is)

    b_there : b.0 < length (rooms ++ record { first = length users; slots = slots } ∷ [])
    b_there = omega (arith, b_is, length-append rooms (record { first = length users; slots = slots } ∷ []))

    back_more : (number : ℕ) → number < length (more_users users b slots)
        → user_place (rooms ++ record { first = length users; slots = slots } ∷ []) (length (more_users users b slots)) (length (more_users users b slots) - length (more_users users b slots)) (user_at (more_users users b slots) number) ≡ Some number
    back_more number lt = elim (leb_tells (length users) number) [
      | inl high ↦ elim (eqb_tells number (length users)) [
        | inl here ↦ rw (here.1, more-entering users b slots)
            (entering_place (rooms ++ record { first = length users; slots = slots } ∷ []) b.0 b_there ∙ ap (λ (r : Room). Some r.first) last_room)
        | inr beyond ↦ by_slot number (number - (length users + 1)) (omega (arith, high.1, beyond.1)) (omega (arith, high.1, beyond.1, lt, length-more users b slots))
      ]
      | inr old ↦ rw (more-old users b slots number old.1) (place_more (user_at users number) number (p.back number old.1))
    ]
      where
        by_slot : (number slot : ℕ) → number ≡ length users + 1 + slot → slot < slots
            → user_place (rooms ++ record { first = length users; slots = slots } ∷ []) (length (more_users users b slots)) (length (more_users users b slots) - length (more_users users b slots)) (user_at (more_users users b slots) number) ≡ Some number
        by_slot number slot is fits =
            let fits' : slot < (get_or (rooms ++ record { first = length users; slots = slots } ∷ []) b.0 no_room).slots = rw last_room fits in
            rw (is, more-operand users b slots slot fits)
            (operand_place (rooms ++ record { first = length users; slots = slots } ∷ []) b.0 slot b_there fits' ∙ ap (λ (r : Room). Some (r.first + 1 + slot)) last_room)

    within_more : AreWithin (rooms ++ record { first = length users; slots = slots } ∷ []) (length (more_users users b slots))
    within_more c lt = elim (leb_tells (length rooms) c) [
      | inl last ↦
          let c_is : c ≡ length rooms = omega (arith, last.1, lt, length-append rooms (record { first = length users; slots = slots } ∷ [])) in
          rw (get_or_push rooms (record { first = length users; slots = slots }) no_room c (sym c_is)) (omega (arith, length-more users b slots))
      | inr old ↦ rw (room_more c old.1) (omega (arith, p.within c old.1, length-more users b slots))
    ]
