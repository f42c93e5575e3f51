use Rattle.std.proofs.Common.{Bool, true, false, ◌≡◌, ◌≢◌, ◌<◌, ◌⊎◌, ◌↔◌, inl, inr, ℕ, suc, zero, ◌+◌, ◌-◌, ◌^◌, List, [], ◌∷◌, ◌++◌, length, get_or, set, map, Option, Some, None, refl, ap, sym, ◌∙◌, arith, length-append, append-nil, append_assoc}
use Rattle.std.specs.List.{slice_get}
use Rattle.std.specs.Option.{option_map}
use Rattle.std.proofs.Math.ListN.{get_or-append, replicate, length-replicate}
use Rattle.std.proofs.lemmas.List.{get_or_push, get_or_past, length-map, map-set, map-append, drop-replicate, take-replicate}
use Rattle.std.proofs.lemmas.Bool.Decides.{eqb_tells, leb_tells}
use Rattle.ms_ir.specs.declared.names.InstNo.{InstNo}
use Rattle.ms_ir.specs.declared.names.BlockNo.{BlockNo}
use Rattle.ms_form.specs.declared.access.Access.{Access}
use Rattle.ms_form.specs.declared.access.User.{User}
use Rattle.ms_form.specs.declared.access.User.TheVariants.{Inst, Operand, Entering}
use Rattle.ms_form.specs.declared.places.Room.{Room}
use Rattle.ms_form.specs.Lists.{IsIn, NotIn, EachOnce}
use Rattle.ms_form.specs.Chains.{without, behind, behind_at, AreExact}
use Rattle.ms_form.specs.Form.{entry_of, users_of, same_user, without_user, behind_user, next_at, next_of, AreUsers, grown, entry_set, put_in, cleared, linked, empty_slots, empty_form}
use Rattle.ms_form.specs.Places.{user_place, access_place, access_at, no_user, user_at, AreWithin, IsPlaced, IsForm, entering_in, operands_in, entries_of, named, form_of, slots_of, inst_users_up_to}
use Rattle.ms_form.proofs.ListLemmas.{get_or-replicate_default, map-replicated}
use Rattle.ms_form.proofs.PlaceLemmas.{list_in, inst_from, users_of-form, access_at-place, access_place-at}
use Rattle.ms_form.proofs.FormLemmas.{entry_named, entry-view, form_of-entry, form_of-without, form_of-front, form_of-grown}

pub same_user_tells : (u v : User) → ((same_user u v ≡ true) × (u ≡ v)) ⊎ ((same_user u v ≡ false) × (u ≢ v))
same_user_tells (Inst i) (Inst j) = elim (eqb_tells i.0 j.0) [
  | inl same ↦ inl (same.0, ap (λ (n : ℕ). Inst (record { 0 = n })) same.1)
  | inr other ↦ inr (other.0, λ w. other.1 (let e : i ≡ j = cc in ap (λ (k : InstNo). k.0) e))
]
same_user_tells (Inst i) (Operand b s) = inr (refl, λ w. cc)
same_user_tells (Inst i) (Entering b) = inr (refl, λ w. cc)
same_user_tells (Operand b s) (Inst i) = inr (refl, λ w. cc)
same_user_tells (Operand b s) (Operand c t) = elim (eqb_tells b.0 c.0) [
  | inl same ↦ elim (eqb_tells s t) [
    | inl same' ↦ inl (rw (same.0, same'.0) refl, ap (λ (n : ℕ). Operand (record { 0 = n }) s) same.1 ∙ ap (λ (n : ℕ). Operand c n) same'.1)
    | inr other ↦ inr (rw (same.0, other.0) refl, λ w. other.1 (cc))
  ]
  | inr other ↦ inr (rw other.0 refl, λ w. other.1 (let e : b ≡ c = cc in ap (λ (k : BlockNo). k.0) e))
]
same_user_tells (Operand b s) (Entering c) = inr (refl, λ w. cc)
same_user_tells (Entering b) (Inst i) = inr (refl, λ w. cc)
same_user_tells (Entering b) (Operand c s) = inr (refl, λ w. cc)
same_user_tells (Entering b) (Entering c) = elim (eqb_tells b.0 c.0) [
  | inl same ↦ inl (same.0, ap (λ (n : ℕ). Entering (record { 0 = n })) same.1)
  | inr other ↦ inr (other.0, λ w. other.1 (let e : b ≡ c = cc in ap (λ (k : BlockNo). k.0) e))
]

-- Two numbers are of one user only where they are one.
pub same_number : (rooms : List Room) (base : ℕ) (users : List User) (m n : ℕ) → IsPlaced rooms base users → m < length users → n < length users → user_at users m ≡ user_at users n → m ≡ n
same_number rooms base users m n p lt lt' e =
    let both : Some m ≡ Some n = sym (p.back m lt) ∙ ap (user_place rooms base (length users - base)) e ∙ p.back n lt' in
    cc

-- these numbers are all of users
abbrev pub AllOf : List User → List ℕ → Type 0
AllOf users xs = (n : ℕ) → IsIn n xs → n < length users

pub named-without : (rooms : List Room) (base : ℕ) (users : List User) (n : ℕ) (xs : List ℕ) → IsPlaced rooms base users → n < length users → AllOf users xs → named users (without n xs) ≡ without_user (user_at users n) (named users xs)
named-without rooms base users n [] p lt all = refl
named-without rooms base users n (m ∷ xs) p lt all =
    let rest = named-without rooms base users n xs p lt (λ k i. all k (inr i)) in
    elim (eqb_tells m n) [
      | inl same ↦ elim (same_user_tells (user_at users m) (user_at users n)) [
        | inl yes' ↦ rw (same.0, yes'.0) rest
        | inr no' ↦ absurd (no'.1 (ap (user_at users) same.1))
      ]
      | inr other ↦ elim (same_user_tells (user_at users m) (user_at users n)) [
        | inl yes' ↦ absurd (other.1 (same_number rooms base users m n p (all m (inl refl)) lt yes'.1))
        | inr no' ↦ rw (other.0, no'.0) (ap (λ r. user_at users m ∷ r) rest)
      ]
    ]

first-named : (users : List User) (xs : List ℕ) → option_map (user_at users) (slice_get xs 0) ≡ slice_get (named users xs) 0
first-named users [] = refl
first-named users (m ∷ xs) = refl

named-behind : (rooms : List Room) (base : ℕ) (users : List User) (n : ℕ) (xs : List ℕ) → IsPlaced rooms base users → n < length users → AllOf users xs → option_map (user_at users) (behind n xs) ≡ behind_user (user_at users n) (named users xs)
named-behind rooms base users n [] p lt all = refl
named-behind rooms base users n (m ∷ xs) p lt all =
    let rest = named-behind rooms base users n xs p lt (λ k i. all k (inr i)) in
    elim (eqb_tells m n) [
      | inl same ↦ elim (same_user_tells (user_at users m) (user_at users n)) [
        | inl yes' ↦ rw (same.0, yes'.0) (first-named users xs)
        | inr no' ↦ absurd (no'.1 (ap (user_at users) same.1))
      ]
      | inr other ↦ elim (same_user_tells (user_at users m) (user_at users n)) [
        | inl yes' ↦ absurd (other.1 (same_number rooms base users m n p (all m (inl refl)) lt yes'.1))
        | inr no' ↦ rw (other.0, no'.0) rest
      ]
    ]

-- Numbers in lists have a home, so they are of users.
pub listed_all : (users : List User) (homes : List (Option ℕ)) (lists : List (List ℕ)) (list : ℕ) → AreExact homes lists → length homes ≡ length users → AllOf users (get_or lists list [])
listed_all users homes lists list exact len n i = elim (leb_tells (length homes) n) [
  | inl past ↦
      let none : None ≡ Some list = sym (get_or_past homes n None past.1) ∙ ((exact list).1 n).0 i in
      cc
  | inr within ↦ omega (arith, within.1)
]

get_or-named : (users : List User) (lists : List (List ℕ)) (list : ℕ) → get_or (map (named users) lists) list [] ≡ named users (get_or lists list [])
get_or-named users [] list = refl
get_or-named users (xs ∷ lists) zero = refl
get_or-named users (xs ∷ lists) (suc list) = get_or-named users lists list

pub lists-without : (rooms : List Room) (base : ℕ) (users : List User) (n : ℕ) (lists : List (List ℕ)) → IsPlaced rooms base users → n < length users → ((list : ℕ) → AllOf users (get_or lists list []))
    → map (named users) (map (without n) lists) ≡ map (without_user (user_at users n)) (map (named users) lists)
lists-without rooms base users n [] p lt all = refl
lists-without rooms base users n (xs ∷ lists) p lt all =
    rw (named-without rooms base users n xs p lt (all 0), lists-without rooms base users n lists p lt (λ list. all (suc list))) refl

named-push : (users : List User) (u : User) (xs : List ℕ) → AllOf users xs → named (users ++ u ∷ []) xs ≡ named users xs
named-push users u [] all = refl
named-push users u (n ∷ xs) all =
    let lt : n < length users = all n (inl refl) in
    rw (get_or-append users (u ∷ []) no_user n lt, named-push users u xs (λ k i. all k (inr i))) refl

pub lists-push : (users : List User) (u : User) (lists : List (List ℕ)) → ((list : ℕ) → AllOf users (get_or lists list [])) → map (named (users ++ u ∷ [])) lists ≡ map (named users) lists
lists-push users u [] all = refl
lists-push users u (xs ∷ lists) all = rw (named-push users u xs (all 0), lists-push users u lists (λ list. all (suc list))) refl

-- One more instruction.
pub placed-push : (rooms : List Room) (base : ℕ) (users : List User) (i : InstNo) → IsPlaced rooms base users → i.0 ≡ length users - base → IsPlaced rooms base (users ++ Inst i ∷ [])
placed-push rooms base users i p is = record {
  at = λ u number e. rw (length-append) (at_more u number (rw (length-append) at e));
  back = λ number lt. rw (length-append) (back_more number (rw (length-append) at lt));
  within = p.within;
  base_in = omega (arith, p.base_in, length-append users (Inst i ∷ []));
}
  where
    at_old : (u : User) (number : ℕ) → user_place rooms base (length users - base) u ≡ Some number → (number < length users + 1) × (user_at (users ++ Inst i ∷ []) number ≡ u)
    at_old u number e =
        let old = p.at u number e in
        (omega (arith, old.0), get_or-append users (Inst i ∷ []) no_user number old.0 ∙ old.1)

    at_more : (u : User) (number : ℕ) → user_place rooms base (length users + 1 - base) u ≡ Some number → (number < length users + 1) × (user_at (users ++ Inst i ∷ []) number ≡ u)
    at_more (Operand b slot) number e = at_old (Operand b slot) number e
    at_more (Entering b) number e = at_old (Entering b) number e
    at_more (Inst j) number e =
        let from = inst_from rooms base (length users + 1 - base) j number e in
        elim (leb_tells (suc j.0) (length users - base)) [
          | inl old ↦ at_old (Inst j) number (rw old.0 (ap Some from.1))
          | inr new ↦
              let j_is : j.0 ≡ i.0 = omega (arith, new.1, from.0, p.base_in) in
              let number_is : number ≡ length users = omega (arith, from.1, p.base_in) in
              (omega (arith), rw number_is (get_or_push users (Inst i) no_user (length users) refl ∙ ap (λ (n : ℕ). Inst (record { 0 = n })) (sym j_is)))
        ]

    place_more : (u : User) (number : ℕ) → user_place rooms base (length users - base) u ≡ Some number → user_place rooms base (length users + 1 - base) u ≡ Some number
    place_more (Operand b slot) number e = e
    place_more (Entering b) number e = e
    place_more (Inst j) number e =
        let from = inst_from rooms base (length users - base) j number e in
        elim (leb_tells (suc j.0) (length users + 1 - base)) [
          | inl fits ↦ rw fits.0 (ap Some from.1)
          | inr past ↦ absurd (omega (arith, past.1, from.0, p.base_in))
        ]

    back_more : (number : ℕ) → number < length users + 1 → user_place rooms base (length users + 1 - base) (user_at (users ++ Inst i ∷ []) number) ≡ Some number
    back_more number lt = elim (leb_tells (length users) number) [
      | inl last ↦
          let number_is : number ≡ length users = omega (arith, last.1) in
          rw (number_is, get_or_push users (Inst i) no_user (length users) refl) (elim (leb_tells (suc i.0) (length users + 1 - base)) [
            | inl fits ↦ rw fits.0 (ap Some (omega (arith, p.base_in)))
            | inr past ↦ absurd (omega (arith, past.1, p.base_in))
          ])
      | inr old ↦ rw (get_or-append users (Inst i ∷ []) no_user number old.1) (place_more (user_at users number) number (p.back number old.1))
    ]

in-named : (users : List User) (n : ℕ) (xs : List ℕ) → IsIn n xs → IsIn (user_at users n) (named users xs)
in-named users n [] i = i
in-named users n (m ∷ xs) (inl e) = inl (ap (user_at users) e)
in-named users n (m ∷ xs) (inr i) = inr (in-named users n xs i)

in-named_from : (users : List User) (u : User) (xs : List ℕ) → IsIn u (named users xs) → (n : ℕ) × IsIn n xs × (user_at users n ≡ u)
in-named_from users u [] i = absurd i
in-named_from users u (m ∷ xs) (inl e) = (m, inl refl, e)
in-named_from users u (m ∷ xs) (inr i) =
    let h = in-named_from users u xs i in
    (h.0, inr h.1, h.2)

not_in-named : (rooms : List Room) (base : ℕ) (users : List User) (n : ℕ) (xs : List ℕ) → IsPlaced rooms base users → n < length users → AllOf users xs → NotIn n xs → NotIn (user_at users n) (named users xs)
not_in-named rooms base users n [] p lt all out = tt
not_in-named rooms base users n (m ∷ xs) p lt all out =
    (λ e. out.0 (same_number rooms base users m n p (all m (inl refl)) lt e), not_in-named rooms base users n xs p lt (λ k i. all k (inr i)) out.1)

once-named : (rooms : List Room) (base : ℕ) (users : List User) (xs : List ℕ) → IsPlaced rooms base users → AllOf users xs → EachOnce xs → EachOnce (named users xs)
once-named rooms base users [] p all once = tt
once-named rooms base users (m ∷ xs) p all once =
    (not_in-named rooms base users m xs p (all m (inl refl)) (λ k i. all k (inr i)) once.0, once-named rooms base users xs p (λ k i. all k (inr i)) once.1)

-- the users of an access, from the list that it has
users-view : (phis : List Bool) (lasts : List (Option InstNo)) (rooms : List Room) (base : ℕ) (users : List User) (homes : List (Option ℕ)) (lists : List (List ℕ)) (entries : List (Option Access)) (spare : ℕ) (waiting : List ℕ) (a : Access)
    → IsForm phis lasts rooms base users homes lists
    → users_of (form_of phis lasts rooms base entries (map (named users) lists) spare waiting) a ≡ list_in (map (named users) lists) (access_place (length rooms) (length users - base) a)
users-view phis lasts rooms base users homes lists entries spare waiting a f =
    users_of-form phis lasts rooms base entries (map (named users) lists) spare waiting (length users - base) a (simp length-map (omega (arith, f.lists_len, f.placed.base_in)))

-- The list of each access holds exactly the users that name it, each once.
pub users_exact : (phis : List Bool) (lasts : List (Option InstNo)) (rooms : List Room) (base : ℕ) (users : List User) (homes : List (Option ℕ)) (lists : List (List ℕ)) (spare : ℕ) (waiting : List ℕ)
    → IsForm phis lasts rooms base users homes lists → AreExact homes lists
    → AreUsers (form_of phis lasts rooms base (entries_of (length rooms) homes) (map (named users) lists) spare waiting)
users_exact phis lasts rooms base users homes lists spare waiting f exact a =
    rw (users-view phis lasts rooms base users homes lists (entries_of (length rooms) homes) spare waiting a f) (by_place (access_place (length rooms) (length users - base) a) refl)
  where
    entry_is : (u : User) (place : Option ℕ) → user_place rooms base (length users - base) u ≡ place → entry_of (form_of phis lasts rooms base (entries_of (length rooms) homes) (map (named users) lists) spare waiting) u ≡ entry_named (length rooms) homes place
    entry_is u place e = entry-view phis lasts rooms base users homes lists (map (named users) lists) spare waiting (length users - base) u place f refl (sym e)

    named_one : (n : ℕ) (home : Option ℕ) → get_or homes n None ≡ home → option_map (access_at (length rooms)) home ≡ Some a → (list : ℕ) × (get_or homes n None ≡ Some list) × (access_at (length rooms) list ≡ a)
    named_one n None e w = cc
    named_one n (Some list) e w = (list, e, cc)

    place_of : (u : User) (place : Option ℕ) → user_place rooms base (length users - base) u ≡ place → entry_named (length rooms) homes place ≡ Some a → (n : ℕ) × (user_place rooms base (length users - base) u ≡ Some n) × (option_map (access_at (length rooms)) (get_or homes n None) ≡ Some a)
    place_of u None e w = cc
    place_of u (Some n) e w = (n, e, w)

    -- a user that names the access has its number in the list
    found : (u : User) → entry_of (form_of phis lasts rooms base (entries_of (length rooms) homes) (map (named users) lists) spare waiting) u ≡ Some a → (list n : ℕ) × (access_place (length rooms) (length users - base) a ≡ Some list) × IsIn n (get_or lists list []) × (user_at users n ≡ u)
    found u w =
        let at = place_of u (user_place rooms base (length users - base) u) refl (sym (entry_is u (user_place rooms base (length users - base) u) refl) ∙ w) in
        let n : ℕ = at.0 in
        let home = named_one n (get_or homes n None) refl at.2 in
        let list : ℕ = home.0 in
        let listed : IsIn n (get_or lists list []) = ((exact list).1 n).1 home.1 in
        let within : list < length lists = list_within list n listed in
        (list, n, ap (access_place (length rooms) (length users - base)) (sym home.2) ∙ access_place-at (length rooms) (length users - base) list (omega (arith, within, f.lists_len, f.placed.base_in)), listed, (f.placed.at u n at.1).1)
      where
        list_within : (list n : ℕ) → IsIn n (get_or lists list []) → list < length lists
        list_within list n i = elim (leb_tells (length lists) list) [
          | inl past ↦
              let none : IsIn n [] = rw (get_or_past lists list [] past.1) at i in
              absurd none
          | inr within ↦ within.1
        ]

    by_place : (place : Option ℕ) → access_place (length rooms) (length users - base) a ≡ place
        → EachOnce (list_in (map (named users) lists) place) × ((u : User) → IsIn u (list_in (map (named users) lists) place) ↔ (entry_of (form_of phis lasts rooms base (entries_of (length rooms) homes) (map (named users) lists) spare waiting) u ≡ Some a))
    by_place None e = (
      tt,
      λ u. (
        λ i. absurd i,
        λ w.
            let none : None ≡ Some (found u w).0 = sym e ∙ (found u w).2 in
            cc,
      ),
    )
    by_place (Some list) e =
        let all = listed_all users homes lists list exact f.homes_len in
        rw (get_or-named users lists list) (
          once-named rooms base users (get_or lists list []) f.placed all (exact list).0,
          λ u. (
            λ i.
                let from = in-named_from users u (get_or lists list []) i in
                let n : ℕ = from.0 in
                let place_is : user_place rooms base (length users - base) u ≡ Some n = ap (user_place rooms base (length users - base)) (sym from.2) ∙ f.placed.back n (all n from.1) in
                entry_is u (Some n) place_is ∙ ap (option_map (access_at (length rooms))) (((exact list).1 n).0 from.1) ∙ ap Some (access_at-place (length rooms) (length users - base) a list e),
            λ w.
                let there = found u w in
                let same : Some list ≡ Some there.0 = sym e ∙ there.2 in
                let list_is : there.0 ≡ list = cc in
                let listed : IsIn there.1 (get_or lists list []) = rw list_is at there.3 in
                rw (← there.4) (in-named users there.1 (get_or lists list []) listed),
          ),
        )

-- The user behind another, from the number behind it.
pub next-view : (phis : List Bool) (lasts : List (Option InstNo)) (rooms : List Room) (base : ℕ) (users : List User) (homes : List (Option ℕ)) (lists : List (List ℕ)) (spare : ℕ) (waiting : List ℕ) (insts : ℕ) (u : User) (n : ℕ)
    → IsForm phis lasts rooms base users homes lists → AreExact homes lists → insts ≡ length users - base → Some n ≡ user_place rooms base insts u
    → next_of (form_of phis lasts rooms base (entries_of (length rooms) homes) (map (named users) lists) spare waiting) u ≡ option_map (user_at users) (behind_at n lists (get_or homes n None))
next-view phis lasts rooms base users homes lists spare waiting insts u n f exact e is =
    rw (entry-view phis lasts rooms base users homes lists (map (named users) lists) spare waiting insts u (Some n) f e is) (by_home (get_or homes n None) refl)
  where
    at_place : user_place rooms base (length users - base) u ≡ Some n
    at_place = rw (← e) (sym is)

    by_home : (home : Option ℕ) → get_or homes n None ≡ home → next_at (form_of phis lasts rooms base (entries_of (length rooms) homes) (map (named users) lists) spare waiting) u (option_map (access_at (length rooms)) home) ≡ option_map (user_at users) (behind_at n lists home)
    by_home None h = refl
    by_home (Some list) h =
        let there = f.placed.at u n at_place in
        let all = listed_all users homes lists list exact f.homes_len in
        let listed : IsIn n (get_or lists list []) = ((exact list).1 n).1 h in
        let within : list < length lists = list_within list listed in
        let place_is : access_place (length rooms) (length users - base) (access_at (length rooms) list) ≡ Some list = access_place-at (length rooms) (length users - base) list (omega (arith, within, f.lists_len, f.placed.base_in)) in
        rw (users-view phis lasts rooms base users homes lists (entries_of (length rooms) homes) spare waiting (access_at (length rooms) list) f, place_is, get_or-named users lists list, ← there.1)
        (sym (named-behind rooms base users n (get_or lists list []) f.placed there.0 all))
      where
        list_within : (list : ℕ) → IsIn n (get_or lists list []) → list < length lists
        list_within list i = elim (leb_tells (length lists) list) [
          | inl past ↦
              let none : IsIn n [] = rw (get_or_past lists list [] past.1) at i in
              absurd none
          | inr within ↦ within.1
        ]

-- A number is taken out of its list: its user names no access.
pub form-unlinked : (phis : List Bool) (lasts : List (Option InstNo)) (rooms : List Room) (base : ℕ) (users : List User) (homes : List (Option ℕ)) (lists : List (List ℕ)) (spare : ℕ) (waiting : List ℕ) (insts : ℕ) (u : User) (n : ℕ)
    → IsForm phis lasts rooms base users homes lists → AreExact homes lists → insts ≡ length users - base → Some n ≡ user_place rooms base insts u
    → form_of phis lasts rooms base (entries_of (length rooms) (set homes n None)) (map (named users) (map (without n) lists)) spare waiting
    ≡ cleared u (form_of phis lasts rooms base (entries_of (length rooms) homes) (map (named users) lists) spare waiting)
form-unlinked phis lasts rooms base users homes lists spare waiting insts u n f exact e is =
    let place : user_place rooms base (length users - base) u ≡ Some n = rw (← e) (sym is) in
    let there = f.placed.at u n place in
    let all = λ (list : ℕ). listed_all users homes lists list exact f.homes_len in
    let len : length (entries_of (length rooms) homes) ≡ length users = simp length-map f.homes_len in
    rw (map-set (option_map (access_at (length rooms))) homes n None, lists-without rooms base users n lists f.placed there.0 all, there.1)
    (form_of-entry phis lasts rooms base users (entries_of (length rooms) homes) (map (without_user u) (map (named users) lists)) spare waiting u n None f.placed len place
    ∙ ap (entry_set u None) (form_of-without phis lasts rooms base (entries_of (length rooms) homes) (map (named users) lists) spare waiting u))

-- A number is put to the front of a list: its user names the access of the list.
pub form-linked : (phis : List Bool) (lasts : List (Option InstNo)) (rooms : List Room) (base : ℕ) (users : List User) (homes : List (Option ℕ)) (lists : List (List ℕ)) (spare : ℕ) (waiting : List ℕ) (insts : ℕ) (u : User) (to : Access) (n list : ℕ)
    → IsForm phis lasts rooms base users homes lists → insts ≡ length users - base → Some n ≡ user_place rooms base insts u → Some list ≡ access_place (length rooms) insts to
    → form_of phis lasts rooms base (entries_of (length rooms) (set homes n (Some list))) (map (named users) (set lists list (n ∷ get_or lists list []))) spare waiting
    ≡ linked u to (form_of phis lasts rooms base (entries_of (length rooms) homes) (map (named users) lists) spare waiting)
form-linked phis lasts rooms base users homes lists spare waiting insts u to n list f e is list_is =
    let place : user_place rooms base (length users - base) u ≡ Some n = rw (← e) (sym is) in
    let there = f.placed.at u n place in
    let len : length (entries_of (length rooms) homes) ≡ length users = simp length-map f.homes_len in
    let uses_len : length (map (named users) lists) ≡ length rooms + 1 + insts = simp length-map (omega (arith, f.lists_len, f.placed.base_in)) in
    rw (map-set (option_map (access_at (length rooms))) homes n (Some list), map-set (named users) lists list (n ∷ get_or lists list []), access_at-place (length rooms) insts to list (sym list_is), there.1, ← get_or-named users lists list)
    (form_of-front phis lasts rooms base insts (set (entries_of (length rooms) homes) n (Some to)) (map (named users) lists) spare waiting u to list uses_len (sym list_is)
    ∙ ap (put_in u to) (form_of-entry phis lasts rooms base users (entries_of (length rooms) homes) (map (named users) lists) spare waiting u n (Some to) f.placed len place))

-- One more instruction is the user of the next place.
pub form-grown : (phis : List Bool) (lasts : List (Option InstNo)) (rooms : List Room) (base : ℕ) (users : List User) (homes : List (Option ℕ)) (lists : List (List ℕ)) (spare : ℕ) (waiting : List ℕ) (i : InstNo)
    → IsForm phis lasts rooms base users homes lists → AreExact homes lists
    → form_of phis lasts rooms base (entries_of (length rooms) (homes ++ None ∷ [])) (map (named (users ++ Inst i ∷ [])) (lists ++ [] ∷ [])) (spare - 1) waiting
    ≡ grown (form_of phis lasts rooms base (entries_of (length rooms) homes) (map (named users) lists) spare waiting)
form-grown phis lasts rooms base users homes lists spare waiting i f exact =
    let all = λ (list : ℕ). listed_all users homes lists list exact f.homes_len in
    let len : length (entries_of (length rooms) homes) ≡ base + (length users - base) = simp length-map (omega (arith, f.homes_len, f.placed.base_in)) in
    let uses_len : length (map (named users) lists) ≡ length rooms + 1 + (length users - base) = simp length-map (omega (arith, f.lists_len, f.placed.base_in)) in
    rw (map-append (option_map (access_at (length rooms))) homes (None ∷ []), map-append (named (users ++ Inst i ∷ [])) lists ([] ∷ []), lists-push users (Inst i) lists all)
    (form_of-grown phis lasts rooms base (length users - base) (entries_of (length rooms) homes) (map (named users) lists) spare waiting f.placed.within len uses_len)

pub is_form-grown : (phis : List Bool) (lasts : List (Option InstNo)) (rooms : List Room) (base : ℕ) (users : List User) (homes : List (Option ℕ)) (lists : List (List ℕ)) (i : InstNo)
    → IsForm phis lasts rooms base users homes lists → i.0 ≡ length users - base → i.0 < 2 ^ 32 → IsForm phis lasts rooms base (users ++ Inst i ∷ []) (homes ++ None ∷ []) (lists ++ [] ∷ [])
is_form-grown phis lasts rooms base users homes lists i f is fits = record {
  placed = placed-push rooms base users i f.placed is;
  phis_len = f.phis_len;
  lasts_len = f.lasts_len;
  homes_len = simp length-append (omega (arith, f.homes_len));
  lists_len = simp length-append (omega (arith, f.lists_len));
  few_rooms = f.few_rooms;
  few_users = simp length-append (omega (arith, f.placed.base_in));
}

-- A new table: all entries empty.

pub length-insts : (n : ℕ) → length (inst_users_up_to n) ≡ n
length-insts zero = refl
length-insts (suc n) = length-append (inst_users_up_to n) (Inst (record { 0 = n }) ∷ []) ∙ (omega (arith, length-insts n))

placed-insts : (rooms : List Room) (base : ℕ) (users : List User) (n : ℕ) → IsPlaced rooms base users → length users ≡ base → IsPlaced rooms base (users ++ inst_users_up_to n)
placed-insts rooms base users zero p len = rw append-nil p
placed-insts rooms base users (suc n) p len =
    let is : n ≡ length (users ++ inst_users_up_to n) - base = omega (arith, length-append users (inst_users_up_to n), length-insts n) in
    rw (← append_assoc) (placed-push rooms base (users ++ inst_users_up_to n) (record { 0 = n }) (placed-insts rooms base users n p len) is)

pub is_form-empty : (rooms : List Room) (base : ℕ) (users : List User) (blocks insts count lists : ℕ) → IsPlaced rooms base users → length users ≡ base → blocks ≡ length rooms → blocks < 2 ^ 32 → insts < 2 ^ 32
    → count ≡ length (users ++ inst_users_up_to insts) → lists ≡ blocks + 1 + insts
    → IsForm (replicate blocks false) (replicate blocks None) rooms base (users ++ inst_users_up_to insts) (replicate count None) (replicate lists [])
is_form-empty rooms base users blocks insts count lists p len blocks_are few_blocks few_insts count_is lists_are = record {
  placed = placed-insts rooms base users insts p len;
  phis_len = length-replicate blocks false ∙ blocks_are;
  lasts_len = length-replicate blocks None ∙ blocks_are;
  homes_len = length-replicate count None ∙ count_is;
  lists_len = omega (arith, length-replicate {A = List ℕ} lists [], length-append users (inst_users_up_to insts), length-insts insts);
  few_rooms = omega arith;
  few_users = omega (arith, length-append users (inst_users_up_to insts), length-insts insts);
}

enters-empty : (rooms : List Room) (count : ℕ) → map (entering_in (replicate count None)) rooms ≡ replicate (length (map slots_of rooms)) None
enters-empty [] count = refl
enters-empty (r ∷ rooms) count = rw (get_or-replicate_default {A = Option Access} count None r.first, enters-empty rooms count) refl

operands-empty : (rooms : List Room) (count : ℕ) → AreWithin rooms count → map (operands_in (replicate count None)) rooms ≡ map empty_slots (map slots_of rooms)
operands-empty [] count within = refl
operands-empty (r ∷ rooms) count within =
    let lt : r.first + r.slots < count = within 0 (omega arith) in
    rw (drop-replicate {X = Option Access} (r.first + 1) count None, take-replicate {X = Option Access} r.slots (count - (r.first + 1)) None (omega arith), operands-empty rooms count (λ b lt'. within (suc b) (omega arith))) refl

pub form-empty : (rooms : List Room) (base : ℕ) (users : List User) (blocks insts count lists : ℕ) → AreWithin rooms base → blocks ≡ length rooms → count ≡ base + insts → lists ≡ blocks + 1 + insts
    → form_of (replicate blocks false) (replicate blocks None) rooms base (entries_of (length rooms) (replicate count None)) (map (named users) (replicate lists [])) 0 [] ≡ empty_form (map slots_of rooms) insts
form-empty rooms base users blocks insts count lists within blocks_are count_is lists_are =
    let slots_len : length (map slots_of rooms) ≡ blocks = simp length-map (sym blocks_are) in
    rw (
      map-replicated (option_map (access_at (length rooms))) count None,
      map-replicated (named users) lists [],
      enters-empty rooms count,
      operands-empty rooms count (λ b lt. omega (arith, within b lt)),
      drop-replicate {X = Option Access} base count None,
      get_or-replicate_default {A = List User} lists [] (length rooms),
      take-replicate {X = List User} (length rooms) lists [] (omega arith),
      drop-replicate {X = List User} (length rooms + 1) lists [],
      slots_len,
      ← blocks_are,
    )
    (ap (λ (n : ℕ). record {
      phis = replicate blocks false;
      lasts = replicate blocks None;
      enters = replicate blocks None;
      operands = map empty_slots (map slots_of rooms);
      defs = replicate n None;
      entry_users = [];
      phi_users = replicate blocks [];
      inst_users = replicate (lists - (blocks + 1)) [];
      spare = 0;
      waiting = [];
    }) (omega arith) ∙ ap (λ (n : ℕ). record {
      phis = replicate blocks false;
      lasts = replicate blocks None;
      enters = replicate blocks None;
      operands = map empty_slots (map slots_of rooms);
      defs = replicate insts None;
      entry_users = [];
      phi_users = replicate blocks [];
      inst_users = replicate n [];
      spare = 0;
      waiting = [];
    }) (omega arith))
