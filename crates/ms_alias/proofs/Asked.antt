-- What the tables answer of which instructions may write or read a location is what the tests say, and what the function says.
use Rattle.std.proofs.Common.{◌≡◌, ◌↔◌, ℕ, zero, suc, ℤ, Bool, true, false, List, [], ◌∷◌, Option, Some, None, refl, sym, ap, ◌∙◌, subst, ⊎_elim}
use Rattle.std.specs.Prelude.{◌&&◌, slice_get, nat_eq}
use Rattle.std.proofs.lemmas.Bool.{eqb-true, eq-eqb, and_parts, and_from, or_cases, or_left, or_right, false≢true}
use Rattle.ms_ir.specs.declared.inst.Inst.{Inst}
use Rattle.ms_ir.specs.Func.{Placed, Block, FuncState, IsAt, insts_at}
use Rattle.ms_ir.proofs.FuncLemmas.{block_there}
use Rattle.ms_alias.specs.declared.loc.Loc.{Loc}
use Rattle.ms_alias.specs.declared.loc.Loc.TheVariants.{Bytes, ReadBy}
use Rattle.ms_alias.specs.Reaches.{Reach, Span, IsRead, IsWritten, IsReachOf}
use Rattle.ms_alias.specs.declared.origins.Origin.{Origin}
use Rattle.ms_alias.specs.declared.loc.Root.{Root}
use Rattle.ms_alias.specs.Bases.{Base, HasBase}
use Rattle.ms_alias.specs.Meeting.{Meet, MeetInTurn, MayWrite, MayWriteInTurn, MayRead}
use Rattle.ms_alias.specs.Tables.{AliasState, IsAliasOf, IsOrigins, IsReachBy, IsReadBy, IsWrittenBy, read_reach, write_reach, reaches_meet, reaches_meet_in_turn, meet_in}
use Rattle.ms_alias.specs.Tests.{any_in, any_at, meets_loc, may_write_by, may_read_by, may_write_in_turn_by}
use Rattle.ms_alias.proofs.RootLemmas.{read_from, read_to, written_from, written_to}
use Rattle.ms_alias.proofs.Reaching.{reaches_from, reaches_to, in_turn_from, in_turn_to, at_all}
use Rattle.ms_alias.proofs.Queries.{Somewhere, reach_from, reach_to}

any_in_from : (xs : List Placed) (n : ℕ) (p : Placed → Bool) → any_in xs n p ≡ true → (k : ℕ) × (x : Placed) × (slice_get xs k ≡ Some x) × (x.number ≡ n) × (p x ≡ true)
any_in_from [] n p e = absurd (false≢true e)
any_in_from (x ∷ xs) n p e =
    ⊎_elim
    (λ (h : (nat_eq x.number n && p x) ≡ true). let both = and_parts (nat_eq x.number n) (p x) h in (zero, x, refl, eqb-true x.number n both.0, both.1))
    (λ (h : any_in xs n p ≡ true). let r = any_in_from xs n p h in (suc r.0, r.1, r.2, r.3, r.4))
    (or_cases (nat_eq x.number n && p x) (any_in xs n p) e)

any_in_to : (xs : List Placed) (n k : ℕ) (p : Placed → Bool) (x : Placed) → slice_get xs k ≡ Some x → x.number ≡ n → p x ≡ true → any_in xs n p ≡ true
any_in_to [] n k p x f m t = cc
any_in_to (y ∷ ys) n zero p x f m t =
    let same : y ≡ x = cc in
    or_left (nat_eq y.number n && p y) (any_in ys n p) (and_from (nat_eq y.number n) (p y) (eq-eqb y.number n (ap (λ (z : Placed). z.number) same ∙ m)) (ap p same ∙ t))
any_in_to (y ∷ ys) n (suc k) p x f m t = or_right (nat_eq y.number n && p y) (any_in ys n p) (any_in_to ys n k p x f m t)

any_from : (blocks : List Block) (n : ℕ) (p : Placed → Bool) → any_at blocks n p ≡ true → (b : ℕ) × (k : ℕ) × (x : Placed) × (slice_get (insts_at blocks b) k ≡ Some x) × (x.number ≡ n) × (p x ≡ true)
any_from [] n p e = absurd (false≢true e)
any_from (b ∷ bs) n p e =
    ⊎_elim
    (λ (h : any_in b.insts n p ≡ true). let r = any_in_from b.insts n p h in (zero, r.0, r.1, r.2, r.3, r.4))
    (λ (h : any_at bs n p ≡ true). let r = any_from bs n p h in (suc r.0, r.1, r.2, r.3, r.4, r.5))
    (or_cases (any_in b.insts n p) (any_at bs n p) e)

any_to : (blocks : List Block) (n b k : ℕ) (p : Placed → Bool) (x : Placed) → slice_get (insts_at blocks b) k ≡ Some x → x.number ≡ n → p x ≡ true → any_at blocks n p ≡ true
any_to [] n b k p x f m t = cc
any_to (y ∷ ys) n zero k p x f m t = or_left (any_in y.insts n p) (any_at ys n p) (any_in_to y.insts n k p x f m t)
any_to (y ∷ ys) n (suc b) k p x f m t = or_right (any_in y.insts n p) (any_at ys n p) (any_to ys n b k p x f m t)

at_from : (blocks : List Block) (n : ℕ) (p : Placed → Bool) → any_at blocks n p ≡ true → Somewhere blocks n (λ x. p x ≡ true)
at_from blocks n p e = let r = any_from blocks n p e in (r.0, r.1, r.2, record { block = block_there blocks r.0 r.1 r.2 r.3; found = r.3; numbered = r.4 }, r.5)

at_to : (blocks : List Block) (n : ℕ) (p : Placed → Bool) → Somewhere blocks n (λ x. p x ≡ true) → any_at blocks n p ≡ true
at_to blocks n p h = any_to blocks n h.0 h.1 p h.2 h.3.found h.3.numbered h.4

-- a test of two reaches
abbrev IsTest : Type 0
IsTest = Reach → Reach → Bool

meet_parts : (M : IsTest) (u v : Option Reach) → meet_in M u v ≡ true → (x : Reach) × (y : Reach) × (u ≡ Some x) × (v ≡ Some y) × (M x y ≡ true)
meet_parts M None v e = absurd (false≢true e)
meet_parts M (Some x) None e = absurd (false≢true e)
meet_parts M (Some x) (Some y) e = (x, y, refl, refl, e)

loc_from : (f : FuncState) (origins : List Origin) (M : IsTest) (u : Option Reach) (loc : Loc) → meets_loc f origins M u loc ≡ true → (x : Reach) × (y : Reach) × (u ≡ Some x) × IsReachBy f origins loc y × (M x y ≡ true)
loc_from f origins M u (Bytes root from len) e = let m = meet_parts M u (Some (Span root from len)) e in (m.0, m.1, m.2, (let same = m.3 in cc), m.4)
loc_from f origins M u (ReadBy j) e =
    let h = at_from f.blocks j.0 (λ y. meet_in M u (read_reach origins y.inst)) e in
    let m = meet_parts M u (read_reach origins h.2.inst) h.4 in
    (m.0, m.1, m.2, (h.0, h.1, h.2, h.3, m.3), m.4)

loc_to : (f : FuncState) (origins : List Origin) (M : IsTest) (x y : Reach) (loc : Loc) → IsReachBy f origins loc y → M x y ≡ true → meets_loc f origins M (Some x) loc ≡ true
loc_to f origins M x y (Bytes root from len) h e = subst (λ z. M x z ≡ true) h e
loc_to f origins M x y (ReadBy j) h e = at_to f.blocks j.0 (λ z. meet_in M (Some x) (read_reach origins z.inst)) (h.0, h.1, h.2, h.3, ap (meet_in M (Some x)) h.4 ∙ e)

-- the instruction of number i touches something that meets the location; T tells what each touches
abbrev IsTouched : FuncState → (Inst → Option Reach) → ℕ → Reach → Type 0
IsTouched f T i u = Somewhere f.blocks i (λ x. T x.inst ≡ Some u)

abbrev Touches : FuncState → List Origin → IsTest → (Inst → Option Reach) → ℕ → Loc → Type 0
Touches f origins M T i loc = (u : Reach) × (v : Reach) × IsTouched f T i u × IsReachBy f origins loc v × (M u v ≡ true)

abbrev tests : FuncState → List Origin → IsTest → (Inst → Option Reach) → ℕ → Loc → Bool
tests f origins M T i loc = any_at f.blocks i (λ x. meets_loc f origins M (T x.inst) loc)

test_told : (f : FuncState) (origins : List Origin) (M : IsTest) (T : Inst → Option Reach) (i : ℕ) (loc : Loc) → (tests f origins M T i loc ≡ true) ↔ Touches f origins M T i loc
test_told f origins M T i loc = (
  λ e.
      let h = at_from f.blocks i (λ x. meets_loc f origins M (T x.inst) loc) e in
      let m = loc_from f origins M (T h.2.inst) loc h.4 in
      (m.0, m.1, (h.0, h.1, h.2, h.3, m.2), m.3, m.4),
  λ t. at_to f.blocks i (λ x. meets_loc f origins M (T x.inst) loc) (t.2.0, t.2.1, t.2.2, t.2.3, ap (λ u. meets_loc f origins M u loc) t.2.4 ∙ loc_to f origins M t.0 t.1 loc t.3 t.4),
)

-- what is asked of the tables: what the instruction touches, and what the location is
asked_told : (f : FuncState) (origins : List Origin) (M : IsTest) (T : Inst → Option Reach) (i : ℕ) (loc : Loc) (ou ov : Option Reach) → ((u : Reach) → (ou ≡ Some u) ↔ IsTouched f T i u) → ((v : Reach) → (ov ≡ Some v) ↔ IsReachBy f origins loc v)
    → (r : Bool) → r ≡ meet_in M ou ov → (r ≡ true) ↔ Touches f origins M T i loc
asked_told f origins M T i loc ou ov hu hv r e = (
  λ t. let m = meet_parts M ou ov (sym e ∙ t) in (m.0, m.1, (hu m.0).0 m.2, (hv m.1).0 m.3, m.4),
  λ t. e ∙ ap (λ x. meet_in M x ov) ((hu t.0).1 t.2) ∙ ap (meet_in M (Some t.0)) ((hv t.1).1 t.3) ∙ t.4,
)

-- two tests that hold of the same are one
pub alike : (P : Type 0) (r t : Bool) → (r ≡ true) ↔ P → (t ≡ true) ↔ P → r ≡ t
alike P true t a b = sym (b.1 (a.0 refl))
alike P false true a b = a.1 (b.0 refl)
alike P false false a b = refl

-- what is asked of the tables is the test
tested : (f : FuncState) (origins : List Origin) (M : IsTest) (T : Inst → Option Reach) (i : ℕ) (loc : Loc) (ou ov : Option Reach) → ((u : Reach) → (ou ≡ Some u) ↔ IsTouched f T i u) → ((v : Reach) → (ov ≡ Some v) ↔ IsReachBy f origins loc v)
    → (r : Bool) → r ≡ meet_in M ou ov → r ≡ tests f origins M T i loc
tested f origins M T i loc ou ov hu hv r e = alike (Touches f origins M T i loc) r (tests f origins M T i loc) (asked_told f origins M T i loc ou ov hu hv r e) (test_told f origins M T i loc)

pub write_tested : (f : FuncState) (a : AliasState) (i : ℕ) (loc : Loc) (ou ov : Option Reach) → ((u : Reach) → (ou ≡ Some u) ↔ IsWrittenBy f a.origins i u) → ((v : Reach) → (ov ≡ Some v) ↔ IsReachBy f a.origins loc v)
    → (r : Bool) → r ≡ meet_in (reaches_meet a) ou ov → r ≡ may_write_by f a loc i
unfolding may_write_by
write_tested f a i loc ou ov hu hv r e = tested f a.origins (reaches_meet a) (write_reach a.origins) i loc ou ov hu hv r e

pub read_tested : (f : FuncState) (a : AliasState) (i : ℕ) (loc : Loc) (ou ov : Option Reach) → ((u : Reach) → (ou ≡ Some u) ↔ IsReadBy f a.origins i u) → ((v : Reach) → (ov ≡ Some v) ↔ IsReachBy f a.origins loc v)
    → (r : Bool) → r ≡ meet_in (reaches_meet a) ou ov → r ≡ may_read_by f a loc i
unfolding may_read_by
read_tested f a i loc ou ov hu hv r e = tested f a.origins (reaches_meet a) (read_reach a.origins) i loc ou ov hu hv r e

pub in_turn_tested : (f : FuncState) (a : AliasState) (i : ℕ) (loc : Loc) (ou ov : Option Reach) → ((u : Reach) → (ou ≡ Some u) ↔ IsWrittenBy f a.origins i u) → ((v : Reach) → (ov ≡ Some v) ↔ IsReachBy f a.origins loc v)
    → (r : Bool) → r ≡ meet_in (reaches_meet_in_turn a) ou ov → r ≡ may_write_in_turn_by f a loc i
unfolding may_write_in_turn_by
in_turn_tested f a i loc ou ov hu hv r e = tested f a.origins (reaches_meet_in_turn a) (write_reach a.origins) i loc ou ov hu hv r e

-- what the instruction of number i touches meets the location
abbrev MeetsAt : FuncState → (Inst → Reach → Type 0) → (Reach → Reach → Type 0) → ℕ → Loc → Type 0
MeetsAt f Touched Meets i loc = (b : ℕ) × (place : ℕ) × (x : Placed) × IsAt f.blocks i b place x × (u : Reach) × (v : Reach) × Touched x.inst u × IsReachOf f loc v × Meets u v

-- what the test means, where it is known what each touches and when two reaches meet
means : (f : FuncState) (origins : List Origin) → IsOrigins f origins → (M : IsTest) (Meets : Reach → Reach → Type 0) → ((u v : Reach) → (M u v ≡ true) ↔ Meets u v)
    → (T : Inst → Option Reach) (Touched : Inst → Reach → Type 0) → ((inst : Inst) (u : Reach) → (T inst ≡ Some u) ↔ Touched inst u)
    → (loc : Loc) (i : ℕ) → (tests f origins M T i loc ≡ true) ↔ MeetsAt f Touched Meets i loc
means f origins is M Meets meets T Touched touched loc i = (
  λ e.
      let t = (test_told f origins M T i loc).0 e in
      (t.2.0, t.2.1, t.2.2, t.2.3, t.0, t.1, (touched t.2.2.inst t.0).0 t.2.4, reach_from f origins loc t.1 is t.3, (meets t.0 t.1).0 t.4),
  λ h. (test_told f origins M T i loc).1 (h.4, h.5, (h.0, h.1, h.2, h.3, (touched h.2.inst h.4).1 h.6), reach_to f origins loc h.5 is h.7, (meets h.4 h.5).1 h.8),
)

pub write_told : (f : FuncState) (a : AliasState) → IsAliasOf f a → (loc : Loc) (i : ℕ) → (may_write_by f a loc i ≡ true) ↔ MayWrite f i loc
unfolding may_write_by
write_told f a is loc i =
    means f a.origins is.origins (reaches_meet a) (Meet f) (λ u v. (reaches_from f a is u v, reaches_to f a is u v))
    (write_reach a.origins) (IsWritten f) (λ inst u. (written_from f a.origins inst u is.origins, written_to f a.origins inst u is.origins)) loc i

pub read_told : (f : FuncState) (a : AliasState) → IsAliasOf f a → (loc : Loc) (i : ℕ) → (may_read_by f a loc i ≡ true) ↔ MayRead f i loc
unfolding may_read_by
read_told f a is loc i =
    means f a.origins is.origins (reaches_meet a) (Meet f) (λ u v. (reaches_from f a is u v, reaches_to f a is u v))
    (read_reach a.origins) (IsRead f) (λ inst u. (read_from f a.origins inst u is.origins, read_to f a.origins inst u is.origins)) loc i

pub in_turn_told : (f : FuncState) (a : AliasState) → IsAliasOf f a → (loc : Loc) (i : ℕ) → (may_write_in_turn_by f a loc i ≡ true) ↔ MayWriteInTurn f i loc
unfolding may_write_in_turn_by
in_turn_told f a is loc i =
    means f a.origins is.origins (reaches_meet_in_turn a) (MeetInTurn f) (λ u v. (in_turn_from f a is u v, in_turn_to f a is u v))
    (write_reach a.origins) (IsWritten f) (λ inst u. (written_from f a.origins inst u is.origins, written_to f a.origins inst u is.origins)) loc i

-- what may write the location while its root stays what it is may write it at all, where the root has a base
pub written_at_all : (f : FuncState) (a : AliasState) → IsAliasOf f a → (i : ℕ) (loc : Loc) → ((r : Root) (from : ℤ) (len : ℕ) → IsReachOf f loc (Span r from len) → (b : Base) × HasBase f r b) → MayWriteInTurn f i loc → MayWrite f i loc
written_at_all f a is i loc based h = (h.0, h.1, h.2, h.3, h.4, h.5, h.6, h.7, at_all f a is h.4 h.5 (λ r from len e. based r from len (subst (IsReachOf f loc) e h.7)) h.8)
