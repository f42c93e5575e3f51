-- The instructions of a function as events on paths.
use Rattle.std.proofs.Common.{Bool, true, false, ◌≡◌, ◌&&◌, ◌||◌, inl, inr, ℕ, zero, suc, List, [], ◌∷◌, take, Option, Some, None, refl, ap, sym, ◌∙◌, subst, arith, ⊎_elim, if◌then◌else◌}
use Rattle.std.specs.Prelude.{slice_get, Contains}
use Rattle.std.specs.Bool.{nat_eq}
use Rattle.std.proofs.lemmas.Bool.{cases_Bool, both_ways, or_left, or_right}
use Rattle.std.proofs.lemmas.Bool.Decides.{nat_tests, eqb_tells}
use Rattle.ms_paths.specs.Flow.{block_at, Event, Of as LastOf, Phi as LastPhi, Entry as LastEntry, after, StandsOnce}
use Rattle.ms_ir.specs.declared.names.InstNo.{InstNo}
use Rattle.ms_ir.specs.Inst.{kind_of_inst}
use Rattle.ms_ir.specs.Graph.{numbers, graph_of, is_def, has_def, defs_of}
use Rattle.ms_ir.specs.Func.{Placed, Block, insts_at}
use Rattle.ms_form.specs.declared.access.Access.{Access}
use Rattle.ms_form.specs.declared.access.Access.TheVariants.{Entry, Of, Phi}
use Rattle.ms_form.specs.Form.{after_last}
use Rattle.ms_build.specs.Accesses.{event_of}
use Rattle.ms_build.specs.Filled.{last_step, last_from}
use Rattle.ms_build.proofs.Define.{OnePlaced}

-- an entry as an event, Entry where it is empty
abbrev pub event_at : Option Access → Event
event_at None = LastEntry
event_at (Some a) = event_of a

abbrev pub access_of : Event → Access
access_of LastEntry = Entry
access_of (LastOf i) = Of (record { 0 = i })
access_of (LastPhi b) = Phi (record { 0 = b })

pub access_of-event : (a : Access) → access_of (event_of a) ≡ a
access_of-event Entry = refl
access_of-event (Of i) = refl
access_of-event (Phi b) = refl

pub events_at : (blocks : List Block) (b : ℕ) → (block_at (graph_of blocks) b).events ≡ numbers (insts_at blocks b)
events_at [] b = refl
events_at (x ∷ blocks) zero = refl
events_at (x ∷ blocks) (suc b) = events_at blocks b

pub take-numbers : (k : ℕ) (xs : List Placed) → take k (numbers xs) ≡ numbers (take k xs)
take-numbers zero xs = refl
take-numbers (suc k) [] = refl
take-numbers (suc k) (x ∷ xs) = ap (λ r. x.number ∷ r) (take-numbers k xs)

pub numbered_at : (xs : List Placed) (i : ℕ) → Contains (numbers xs) i → (k : ℕ) × (x : Placed) × (slice_get xs k ≡ Some x) × (x.number ≡ i)
numbered_at [] i (k, lt, e) = absurd (omega arith)
numbered_at (x ∷ xs) i (zero, lt, e) = (zero, x, refl, e)
numbered_at (x ∷ xs) i (suc k, lt, e) = let r = numbered_at xs i (k, (omega arith), e) in (suc r.0, r.1, r.2, r.3)

pub stands_once : (blocks : List Block) → OnePlaced blocks → StandsOnce (graph_of blocks)
stands_once blocks one a b i h k =
    let x = numbered_at (insts_at blocks a) i (subst (λ (l : List ℕ). Contains l i) (events_at blocks a) h) in
    let y = numbered_at (insts_at blocks b) i (subst (λ (l : List ℕ). Contains l i) (events_at blocks b) k) in
    (one a x.0 b y.0 x.1 y.1 x.2 y.2 (x.3 ∙ sym y.3)).0

-- an instruction is an event where it is a Def

has_def_at : (xs : List Placed) (k : ℕ) (x : Placed) → slice_get xs k ≡ Some x → is_def (kind_of_inst x.inst) ≡ true → has_def xs x.number ≡ true
has_def_at [] k x e t = cc
has_def_at (y ∷ xs) zero x e t =
    let s : y ≡ x = cc in
    let same : nat_eq x.number x.number ≡ true = grind (arith, nat_tests) in
    subst (λ (z : Placed). ((nat_eq z.number x.number && is_def (kind_of_inst z.inst)) || has_def xs x.number) ≡ true) (sym s) (rw (same, t) refl)
has_def_at (y ∷ xs) (suc k) x e t = or_right (nat_eq y.number x.number && is_def (kind_of_inst y.inst)) (has_def xs x.number) (has_def_at xs k x e t)

defs_at : (blocks : List Block) (b k : ℕ) (x : Placed) → slice_get (insts_at blocks b) k ≡ Some x → is_def (kind_of_inst x.inst) ≡ true → defs_of blocks x.number ≡ true
defs_at [] b k x e t = let none : None ≡ Some x = e in cc
defs_at (y ∷ blocks) zero k x e t = or_left (has_def y.insts x.number) (defs_of blocks x.number) (has_def_at y.insts k x e t)
defs_at (y ∷ blocks) (suc b) k x e t = or_right (has_def y.insts x.number) (defs_of blocks x.number) (defs_at blocks b k x e t)

-- the Def of a number
pub record IsDefOf (xs : List Placed) (i : ℕ) : Type 0 where
  pub place : ℕ
  pub inst : Placed
  pub found : slice_get xs place ≡ Some inst
  pub number : inst.number ≡ i
  pub def : is_def (kind_of_inst inst.inst) ≡ true

later_def : (y : Placed) (xs : List Placed) (i : ℕ) → IsDefOf xs i → IsDefOf (y ∷ xs) i
later_def y xs i r = record { place = suc r.place; inst = r.inst; found = r.found; number = r.number; def = r.def }

def_found : (xs : List Placed) (i : ℕ) → has_def xs i ≡ true → IsDefOf xs i
def_found [] i t = cc
def_found (y ∷ xs) i t = elim (eqb_tells y.number i) [
  | inl same ↦
      ⊎_elim (λ (d : is_def (kind_of_inst y.inst) ≡ true). record { place = 0; inst = y; found = refl; number = same.1; def = d })
      (λ (n : is_def (kind_of_inst y.inst) ≡ false). later_def y xs i (def_found xs i (rw (same.0, n) at t))) (cases_Bool (is_def (kind_of_inst y.inst)))
  | inr other ↦ later_def y xs i (def_found xs i (rw other.0 at t))
]

pub record IsDefIn (blocks : List Block) (i : ℕ) : Type 0 where
  pub block : ℕ
  pub def : IsDefOf (insts_at blocks block) i

pub defs_found : (blocks : List Block) (i : ℕ) → defs_of blocks i ≡ true → IsDefIn blocks i
defs_found [] i t = cc
defs_found (y ∷ blocks) i t =
    ⊎_elim (λ (h : has_def y.insts i ≡ true). record { block = 0; def = def_found y.insts i h })
    (λ (n : has_def y.insts i ≡ false). let r = defs_found blocks i (rw n at t) in record { block = suc r.block; def = r.def })
    (cases_Bool (has_def y.insts i))

pub def_told : (blocks : List Block) → OnePlaced blocks → (b k : ℕ) (x : Placed) → slice_get (insts_at blocks b) k ≡ Some x → defs_of blocks x.number ≡ is_def (kind_of_inst x.inst)
def_told blocks one b k x found =
    ⊎_elim
    (λ (t : is_def (kind_of_inst x.inst) ≡ true). defs_at blocks b k x found t ∙ sym t)
    (λ (n : is_def (kind_of_inst x.inst) ≡ false).
    ⊎_elim
    (λ (t : defs_of blocks x.number ≡ true).
    let d = defs_found blocks x.number t in
    let at = one b k d.block d.def.place x d.def.inst found d.def.found (sym d.def.number) in
    let here : slice_get (insts_at blocks b) k ≡ Some d.def.inst = subst (λ (m : ℕ). slice_get (insts_at blocks m) k ≡ Some d.def.inst) (sym at.0) (subst (λ (m : ℕ). slice_get (insts_at blocks d.block) m ≡ Some d.def.inst) (sym at.1) d.def.found) in
    let both : Some x ≡ Some d.def.inst = sym found ∙ here in
    let same : x ≡ d.def.inst = cc in
    absurd (both_ways (is_def (kind_of_inst x.inst)) n (subst (λ (z : Placed). is_def (kind_of_inst z.inst) ≡ true) (sym same) d.def.def)))
    (λ (o : defs_of blocks x.number ≡ false). o ∙ sym n)
    (cases_Bool (defs_of blocks x.number)))
    (cases_Bool (is_def (kind_of_inst x.inst)))

-- the last event once instructions have run is their last Def
pub event_after : (E : ℕ → Bool) (xs : List Placed) (last : Option InstNo) (start : Option Access) → ((k : ℕ) (x : Placed) → slice_get xs k ≡ Some x → E x.number ≡ is_def (kind_of_inst x.inst))
    → event_at (after_last (last_from last xs) start) ≡ after E (numbers xs) (event_at (after_last last start))
event_after E [] last start all = refl
event_after E (x ∷ xs) last start all =
    event_after E xs (last_step last x) start (λ k y e. all (suc k) y e) ∙ ap (after E (numbers xs)) (step (is_def (kind_of_inst x.inst)) (E x.number) (all 0 x refl))
  where
    step : (t u : Bool) → u ≡ t → event_at (after_last (if t then Some (record { 0 = x.number }) else last) start) ≡ (if u then LastOf x.number else event_at (after_last last start))
    step true u e = rw e refl
    step false u e = rw e refl

pub take_found : (k j : ℕ) (xs : List Placed) (x : Placed) → slice_get (take k xs) j ≡ Some x → slice_get xs j ≡ Some x
take_found zero j xs x e = cc
take_found (suc k) j [] x e = cc
take_found (suc k) zero (y ∷ xs) x e = e
take_found (suc k) (suc j) (y ∷ xs) x e = take_found k j xs x e
