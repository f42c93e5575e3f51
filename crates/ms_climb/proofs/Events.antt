-- Accesses as events on paths, and last events that are phis.
use Rattle.std.proofs.Common.{Bool, true, false, ◌≡◌, ◌<◌, ℕ, zero, suc, List, [], ◌∷◌, length, take, Option, Some, None, refl, ap, sym, ◌∙◌, subst, arith, ⊎_elim, if◌then◌else◌}
use Rattle.std.specs.Prelude.{slice_get, Contains}
use Rattle.std.proofs.lemmas.Bool.{cases_Bool}
use Rattle.ms_paths.specs.Flow.{Block as Run, block_at, Event, Of as LastOf, Phi as LastPhi, after, entered, last_event, IsPath, IsClosed}
use Rattle.ms_ir.specs.Inst.{kind_of_inst}
use Rattle.ms_ir.specs.Graph.{numbers, is_def, defs_of}
use Rattle.ms_ir.specs.declared.inst.Inst.{Inst}
use Rattle.ms_ir.specs.declared.inst.Kind.{Kind}
use Rattle.ms_ir.specs.Func.{Placed, Block, IsAt, IsNowhere, insts_at}
use Rattle.ms_form.specs.declared.access.Access.{Access}
use Rattle.ms_build.specs.Accesses.{event_of}
use Rattle.ms_build.proofs.Define.{OnePlaced}
use Rattle.ms_build.proofs.Events.{event_at, access_of, access_of-event, def_told, defs_found}
use Rattle.ms_climb.specs.Chains.{or_entry}
use Rattle.ms_ir.proofs.FuncLemmas.{not_nowhere}

pub access_of-entry : (o : Option Access) → access_of (event_at o) ≡ or_entry o
access_of-entry None = refl
access_of-entry (Some a) = access_of-event a

pub event_of-entry : (o : Option Access) → event_of (or_entry o) ≡ event_at o
event_of-entry None = refl
event_of-entry (Some a) = refl

pub length-numbers : (xs : List Placed) → length (numbers xs) ≡ length xs
length-numbers [] = refl
length-numbers (x ∷ xs) = let r = length-numbers xs in omega arith

pub number_at : (xs : List Placed) (k i : ℕ) → slice_get (numbers xs) k ≡ Some i → (x : Placed) × (slice_get xs k ≡ Some x) × (x.number ≡ i)
number_at [] k i e = cc
number_at (x ∷ xs) zero i e = (x, refl, cc)
number_at (x ∷ xs) (suc k) i e = number_at xs k i e

pub in_take : (k : ℕ) (xs : List ℕ) (i : ℕ) → Contains (take k xs) i → Contains xs i
in_take zero xs i (n, lt, e) = absurd (omega arith)
in_take (suc k) [] i (n, lt, e) = absurd (omega arith)
in_take (suc k) (x ∷ xs) i (zero, lt, e) = (0, omega arith, e)
in_take (suc k) (x ∷ xs) i (suc n, lt, e) = let r = in_take k xs i (n, omega arith, e) in (suc r.0, (let l = r.1 in omega arith), r.2)

-- Which instructions are Defs.

same_place : (xs : List Placed) (j k : ℕ) (x y : Placed) → slice_get xs j ≡ Some x → slice_get xs k ≡ Some y → j ≡ k → x ≡ y
same_place xs j k x y a c e = let at : slice_get xs j ≡ Some y = ap (slice_get xs) e ∙ c in let some : Some x ≡ Some y = sym a ∙ at in cc

-- one number stands at one place, with one instruction
pub one_inst : (blocks : List Block) (b j c k : ℕ) (x y : Placed) → OnePlaced blocks → slice_get (insts_at blocks b) j ≡ Some x → slice_get (insts_at blocks c) k ≡ Some y → x.number ≡ y.number → x ≡ y
one_inst blocks b j c k x y one at there same =
    let place = one b j c k x y at there same in
    let Q : ℕ → Type 0 = λ n. slice_get (insts_at blocks n) j ≡ Some x in
    same_place (insts_at blocks c) j k x y (subst Q place.0 at) there place.1

pub def_here : (blocks : List Block) (i b k : ℕ) (x : Placed) (inst : Inst) (kind : Kind) → OnePlaced blocks → IsAt blocks i b k x → x.inst ≡ inst → kind ≡ kind_of_inst inst → defs_of blocks i ≡ is_def kind
def_here blocks i b k x inst kind one at same is = ap (defs_of blocks) (sym at.numbered) ∙ def_told blocks one b k x at.found ∙ ap (λ (y : Inst). is_def (kind_of_inst y)) same ∙ ap is_def (sym is)

pub def_nowhere : (blocks : List Block) (i : ℕ) → IsNowhere blocks i → defs_of blocks i ≡ false
def_nowhere blocks i none =
    ⊎_elim
    (λ (t : defs_of blocks i ≡ true). let d = defs_found blocks i t in absurd (not_nowhere (insts_at blocks d.block) i d.def.place d.def.inst (none d.block) d.def.found d.def.number))
    (λ (f : defs_of blocks i ≡ false). f)
    (cases_Bool (defs_of blocks i))

-- Last events that are phis.

pub after_phi : (E : ℕ → Bool) (is : List ℕ) (e : Event) (c : ℕ) → after E is e ≡ LastPhi c → e ≡ LastPhi c
after_phi E [] e c h = h
after_phi E (i ∷ is) e c h = step (E i) (after_phi E is (if E i then LastOf i else e) c h)
  where
    step : (t : Bool) → (if t then LastOf i else e) ≡ LastPhi c → e ≡ LastPhi c
    step true h = cc
    step false h = h

pub entered_phi : (S : ℕ → Bool) (b : ℕ) (e : Event) (c : ℕ) → (e ≡ LastPhi c → S c ≡ true) → entered S b e ≡ LastPhi c → S c ≡ true
entered_phi S b e c h is =
    ⊎_elim
    (λ (t : S b ≡ true). let same : LastPhi b ≡ LastPhi c = rw t at is in let n : b ≡ c = cc in subst (λ (x : ℕ). S x ≡ true) n t)
    (λ (f : S b ≡ false). h (rw f at is))
    (cases_Bool (S b))

pub last_phi : (g : List Run) (E S : ℕ → Bool) (p : List ℕ) (c : ℕ) → last_event g E S p ≡ LastPhi c → S c ≡ true
last_phi g E S [] c h = cc
last_phi g E S (b ∷ p) c h = entered_phi S b (last_event g E S p) c (last_phi g E S p c) (after_phi E (block_at g b).events (entered S b (last_event g E S p)) c h)

pub reached_below : (g : List Run) → IsClosed g → (b : ℕ) (p : List ℕ) → IsPath g b p → b < length g
reached_below g closed b [] path = let h = closed.has_entry in omega arith
reached_below g closed b (a ∷ p) path = closed.edges_in a b path.0
