-- When sets of bases meet.
use Rattle.std.proofs.Common.{◌≡◌, ◌⊎◌, ℕ, zero, suc, Bool, true, false, List, [], ◌∷◌, Option, Some, None, get_or, refl, sym, ap, ◌∙◌, subst, inl, inr, ⊎_elim}
use Rattle.std.specs.Prelude.{◌&&◌, ◌||◌, slice_get}
use Rattle.std.proofs.lemmas.Bool.{eqb-true, eq-eqb, and_parts, and_from, or_cases, or_left, or_right, false≢true}
use Rattle.std.proofs.lemmas.Option.{slice_get-get_or}
use Rattle.std.proofs.lemmas.List.Quantifiers.{position-Some}
use Rattle.ms_ir.specs.declared.names.LocalNo.{LocalNo}
use Rattle.ms_ir.specs.declared.names.GlobalNo.{GlobalNo}
use Rattle.ms_ir.specs.Func.{FuncState}
use Rattle.ms_alias.specs.declared.loc.Root.{Root}
use Rattle.ms_alias.specs.declared.loc.Root.TheVariants.{Local, Global}
use Rattle.ms_alias.specs.declared.sets.Set.{Set}
use Rattle.ms_alias.specs.declared.sets.Set.TheVariants.{Nothing, Argument, Alloca, Object, Brought}
use Rattle.ms_alias.specs.Bases.{Base, Alloca as AllocaBase, Argument as ArgumentBase, Object as ObjectBase, Outside, Hidden, HasBase, IsNamed}
use Rattle.ms_alias.specs.Meeting.{MayBeOne, IsOuter, IsOuterBase}
use Rattle.ms_alias.specs.Tables.{BasesState, share_mark, bit_of, bit_at, row_of, set_of, global_column, same_root, have_common, has_argument, has_outer, sets_meet, base_of, IsColumn, IsRow, IsSet}

-- the bases of a pointer have names
abbrev IsPlain : Base → Type 0
IsPlain Outside = ⊥
IsPlain Hidden = ⊥
IsPlain _ = Unit {0}

plain_name : (f : FuncState) (q : Root) (b : Base) → IsNamed f q b → IsPlain b
plain_name f (Local l) b (inl h) = subst IsPlain (sym h.1) tt
plain_name f (Local l) b (inr h) = subst IsPlain (sym h.1) tt
plain_name f (Global g) b h = subst IsPlain (sym h) tt

pub plain : (f : FuncState) (p : Root) (b : Base) → HasBase f p b → IsPlain b
plain f p b h = plain_name f h.1 b h.3

-- two lists have a mark at one place
abbrev pub IsShared : List Bool → List Bool → Type 0
IsShared xs ys = (c : ℕ) × (get_or xs c false ≡ true) × (get_or ys c false ≡ true)

pub shared_from : (xs ys : List Bool) → share_mark xs ys ≡ true → IsShared xs ys
shared_from [] ys e = absurd (false≢true e)
shared_from (x ∷ xs) [] e = absurd (false≢true e)
shared_from (x ∷ xs) (y ∷ ys) e =
    ⊎_elim
    (λ (here : (x && y) ≡ true). let both = and_parts x y here in (zero, both.0, both.1))
    (λ (there : share_mark xs ys ≡ true). let rest = shared_from xs ys there in (suc rest.0, rest.1, rest.2))
    (or_cases (x && y) (share_mark xs ys) e)

pub shared_to : (xs ys : List Bool) (c : ℕ) → get_or xs c false ≡ true → get_or ys c false ≡ true → share_mark xs ys ≡ true
shared_to [] ys c p q = absurd (false≢true p)
shared_to (x ∷ xs) [] c p q = absurd (false≢true q)
shared_to (x ∷ xs) (y ∷ ys) zero p q = or_left (x && y) (share_mark xs ys) (and_from x y p q)
shared_to (x ∷ xs) (y ∷ ys) (suc c) p q = or_right (x && y) (share_mark xs ys) (shared_to xs ys c p q)

global_is : (g : GlobalNo) (q : Root) → same_root (Global g) q ≡ true → q ≡ Global g
global_is g (Local l) e = absurd (false≢true e)
global_is g (Global h) e = let make : ℕ → Root = λ n. Global (record { 0 = n }) in ap make (sym (eqb-true g.0 h.0 e))

-- a global stands at its column
pub at_column : (t : BasesState) (g : GlobalNo) (c : ℕ) → global_column t g ≡ Some c → slice_get t.columns c ≡ Some (Global g)
at_column t g c e =
    let d : Root = Global g in
    let there = position-Some (same_root (Global g)) t.columns c d e in
    slice_get-get_or t.columns c d there.0 ∙ ap Some (global_is g (get_or t.columns c d) there.1)

-- an alloca or a global that is a base of both
abbrev pub HaveCommon : FuncState → Root → Root → Type 0
HaveCommon f p q = (n : Root) × HasBase f p (base_of n) × HasBase f q (base_of n)

alloca_named : (n : Root) (l : LocalNo) → base_of n ≡ AllocaBase l → n ≡ Local l
alloca_named (Local k) l e = let is : k ≡ l = cc in ap Local is
alloca_named (Global g) l e = absurd (let e' : ObjectBase g ≡ AllocaBase l = e in cc)

global_named : (n : Root) (g : GlobalNo) → base_of n ≡ ObjectBase g → n ≡ Global g
global_named (Local k) g e = absurd (let e' : AllocaBase k ≡ ObjectBase g = e in cc)
global_named (Global h) g e = let is : h ≡ g = cc in ap Global is

no_argument_named : (n : Root) (l : LocalNo) → base_of n ≡ ArgumentBase l → ⊥
no_argument_named (Local k) l e = let e' : AllocaBase k ≡ ArgumentBase l = e in cc
no_argument_named (Global h) l e = let e' : ObjectBase h ≡ ArgumentBase l = e in cc

-- a marked column of a row
row_marked : (t : BasesState) (f : FuncState) (q : Root) (l c : ℕ) (n : Root) → IsRow t f q (row_of t l) → slice_get t.columns c ≡ Some n → bit_of (row_of t l) c ≡ true → HasBase f q (base_of n)
row_marked t f q l c n row at bit =
    let there = row.sound c bit in
    let same : Some there.0 ≡ Some n = sym there.1 ∙ at in
    let is : there.0 ≡ n = cc in
    subst (λ m. HasBase f q (base_of m)) is there.2

-- the mark at an alloca's column
alloca_bit : (t : BasesState) (f : FuncState) (q : Root) (k c : ℕ) (l : LocalNo) → IsRow t f q (row_of t k) → IsColumn t (Local l) c → HasBase f q (AllocaBase l) → bit_of (row_of t k) c ≡ true
alloca_bit t f q k c l row at base =
    let there = row.complete (Local l) base in
    let same : Alloca there.0 ≡ Alloca c = sym there.1 ∙ at in
    let is : there.0 ≡ c = cc in
    ap (bit_of (row_of t k)) (sym is) ∙ there.2

-- the mark at a global's column
global_bit : (t : BasesState) (f : FuncState) (q : Root) (k : ℕ) (g : GlobalNo) → IsRow t f q (row_of t k) → HasBase f q (ObjectBase g) → bit_at (row_of t k) (global_column t g) ≡ true
global_bit t f q k g row base =
    let there = row.complete (Global g) base in
    ap (bit_at (row_of t k)) there.1 ∙ there.2

from_global_bit : (t : BasesState) (f : FuncState) (q : Root) (k : ℕ) (g : GlobalNo) (o : Option ℕ) → global_column t g ≡ o → IsRow t f q (row_of t k) → bit_at (row_of t k) o ≡ true → HasBase f q (ObjectBase g)
from_global_bit t f q k g None e row bit = absurd (false≢true bit)
from_global_bit t f q k g (Some c) e row bit = row_marked t f q k c (Global g) row (at_column t g c e) bit

one_column : (t : BasesState) (n : Root) (c d : ℕ) → IsColumn t n c → IsColumn t n d → c ≡ d
one_column t (Local l) c d p q = let same : Alloca c ≡ Alloca d = sym p ∙ q in cc
one_column t (Global g) c d p q = let same : Some c ≡ Some d = sym p ∙ q in cc

pub common_from : (t : BasesState) (f : FuncState) (p q : Root) (s u : Set) → IsSet t f p s → IsSet t f q u → have_common t s u ≡ true → HaveCommon f p q
common_from t f p q (Alloca c) (Alloca d) hs hu e =
    let same : Some (Local hs.0) ≡ Some (Local hu.0) = sym hs.2 ∙ ap (slice_get t.columns) (eqb-true c d e) ∙ hu.2 in
    let is : hs.0 ≡ hu.0 = cc in
    (Local hs.0, hs.1.0, subst (λ l. HasBase f q (AllocaBase l)) (sym is) hu.1.0)
common_from t f p q (Alloca c) (Brought l) hs hu e = (Local hs.0, hs.1.0, row_marked t f q l c (Local hs.0) hu hs.2 e)
common_from t f p q (Brought l) (Alloca c) hs hu e = (Local hu.0, row_marked t f p l c (Local hu.0) hs hu.2 e, hu.1.0)
common_from t f p q (Object g) (Object h) hs hu e =
    let is : ObjectBase h ≡ ObjectBase g = (let make : ℕ → Base = λ n. ObjectBase (record { 0 = n }) in ap make (sym (eqb-true g.0 h.0 e))) in
    (Global g, hs.0, subst (HasBase f q) is hu.0)
common_from t f p q (Object g) (Brought l) hs hu e = (Global g, hs.0, from_global_bit t f q l g (global_column t g) refl hu e)
common_from t f p q (Brought l) (Object g) hs hu e = (Global g, from_global_bit t f p l g (global_column t g) refl hs e, hu.0)
common_from t f p q (Brought k) (Brought l) hs hu e =
    let there = shared_from (row_of t k).bits (row_of t l).bits e in
    let one = hs.sound there.0 there.1 in
    (one.0, one.2, row_marked t f q l there.0 one.0 hu one.1 there.2)
common_from t f p q s u hs hu e = absurd (false≢true e)

pub common_to : (t : BasesState) (f : FuncState) (p q : Root) (s u : Set) → IsSet t f p s → IsSet t f q u → HaveCommon f p q → have_common t s u ≡ true
common_to t f p q Nothing u hs hu h = absurd (hs (base_of h.0) h.1)
common_to t f p q Argument u hs hu h = absurd (no_argument_named h.0 hs.0 (hs.1.1 (base_of h.0) h.1))
common_to t f p q s Nothing hs hu h = absurd (hu (base_of h.0) h.2)
common_to t f p q s Argument hs hu h = absurd (no_argument_named h.0 hu.0 (hu.1.1 (base_of h.0) h.2))
common_to t f p q (Alloca c) (Alloca d) hs hu h =
    let is : AllocaBase hs.0 ≡ AllocaBase hu.0 = sym (hs.1.1 (base_of h.0) h.1) ∙ hu.1.1 (base_of h.0) h.2 in
    let one : hs.0 ≡ hu.0 = cc in
    let same : Alloca c ≡ Alloca d = sym hs.3 ∙ ap (λ l. set_of t (Local l)) one ∙ hu.3 in
    let equal : c ≡ d = cc in
    eq-eqb c d equal
common_to t f p q (Alloca c) (Object g) hs hu h = absurd (let is : AllocaBase hs.0 ≡ ObjectBase g = sym (hs.1.1 (base_of h.0) h.1) ∙ hu.1 (base_of h.0) h.2 in cc)
common_to t f p q (Object g) (Alloca c) hs hu h = absurd (let is : AllocaBase hu.0 ≡ ObjectBase g = sym (hu.1.1 (base_of h.0) h.2) ∙ hs.1 (base_of h.0) h.1 in cc)
common_to t f p q (Alloca c) (Brought l) hs hu h = alloca_bit t f q l c hs.0 hu hs.3 (subst (HasBase f q) (hs.1.1 (base_of h.0) h.1) h.2)
common_to t f p q (Brought l) (Alloca c) hs hu h = alloca_bit t f p l c hu.0 hs hu.3 (subst (HasBase f p) (hu.1.1 (base_of h.0) h.2) h.1)
common_to t f p q (Object g) (Object h') hs hu h =
    let is : ObjectBase g ≡ ObjectBase h' = sym (hs.1 (base_of h.0) h.1) ∙ hu.1 (base_of h.0) h.2 in
    let one : g ≡ h' = cc in
    eq-eqb g.0 h'.0 (ap (λ (n : GlobalNo). n.0) one)
common_to t f p q (Object g) (Brought l) hs hu h = global_bit t f q l g hu (subst (HasBase f q) (hs.1 (base_of h.0) h.1) h.2)
common_to t f p q (Brought l) (Object g) hs hu h = global_bit t f p l g hs (subst (HasBase f p) (hu.1 (base_of h.0) h.2) h.1)
common_to t f p q (Brought k) (Brought l) hs hu h =
    let one = hs.complete h.0 h.1 in
    let two = hu.complete h.0 h.2 in
    let same : one.0 ≡ two.0 = one_column t h.0 one.0 two.0 one.1 two.1 in
    shared_to (row_of t k).bits (row_of t l).bits one.0 one.2 (ap (bit_of (row_of t l)) same ∙ two.2)

abbrev pub HasArgument : FuncState → Root → Type 0
HasArgument f p = (l : LocalNo) × HasBase f p (ArgumentBase l)

pub argument_from : (t : BasesState) (f : FuncState) (p : Root) (s : Set) → IsSet t f p s → has_argument t s ≡ true → HasArgument f p
argument_from t f p Argument hs e = (hs.0, hs.1.0)
argument_from t f p (Brought l) hs e = hs.argument.0 e
argument_from t f p s hs e = absurd (false≢true e)

pub argument_to : (t : BasesState) (f : FuncState) (p : Root) (s : Set) → IsSet t f p s → HasArgument f p → has_argument t s ≡ true
argument_to t f p Nothing hs h = absurd (hs (ArgumentBase h.0) h.1)
argument_to t f p Argument hs h = refl
argument_to t f p (Alloca c) hs h = absurd (let is : ArgumentBase h.0 ≡ AllocaBase hs.0 = hs.1.1 (ArgumentBase h.0) h.1 in cc)
argument_to t f p (Object g) hs h = absurd (let is : ArgumentBase h.0 ≡ ObjectBase g = hs.1 (ArgumentBase h.0) h.1 in cc)
argument_to t f p (Brought l) hs h = hs.argument.1 h

pub outer_from : (t : BasesState) (f : FuncState) (p : Root) (s : Set) → IsSet t f p s → has_outer t s ≡ true → IsOuter f p
outer_from t f p Argument hs e = (ArgumentBase hs.0, hs.1.0, tt)
outer_from t f p (Object g) hs e = (ObjectBase g, hs.0, tt)
outer_from t f p (Brought l) hs e = hs.outer.0 e
outer_from t f p s hs e = absurd (false≢true e)

pub outer_to : (t : BasesState) (f : FuncState) (p : Root) (s : Set) → IsSet t f p s → IsOuter f p → has_outer t s ≡ true
outer_to t f p Nothing hs h = absurd (hs h.0 h.1)
outer_to t f p Argument hs h = refl
outer_to t f p (Alloca c) hs h = absurd (subst IsOuterBase (hs.1.1 h.0 h.1) h.2)
outer_to t f p (Object g) hs h = refl
outer_to t f p (Brought l) hs h = hs.outer.1 h

-- bases of two pointers that may be one object
abbrev pub SharePointers : FuncState → Root → Root → Type 0
SharePointers f p q = (b : Base) × (c : Base) × HasBase f p b × HasBase f q c × MayBeOne b c

share_cases : (f : FuncState) (p q : Root) (b c : Base) → HasBase f p b → HasBase f q c → MayBeOne b c → HaveCommon f p q ⊎ ((HasArgument f p × IsOuter f q) ⊎ (HasArgument f q × IsOuter f p))
share_cases f p q (AllocaBase k) (AllocaBase l) hb hc m = inl (Local l, subst (λ n. HasBase f p (AllocaBase n)) m hb, hc)
share_cases f p q (ObjectBase g) (ObjectBase h) hb hc m = inl (Global h, subst (λ n. HasBase f p (ObjectBase n)) m hb, hc)
share_cases f p q (ObjectBase g) (ArgumentBase l) hb hc m = inr (inr ((l, hc), (ObjectBase g, hb, tt)))
share_cases f p q (ArgumentBase l) (ObjectBase g) hb hc m = inr (inl ((l, hb), (ObjectBase g, hc, tt)))
share_cases f p q (ArgumentBase k) (ArgumentBase l) hb hc m = inr (inl ((k, hb), (ArgumentBase l, hc, tt)))
share_cases f p q Outside c hb hc m = absurd (plain f p Outside hb)
share_cases f p q Hidden c hb hc m = absurd (plain f p Hidden hb)
share_cases f p q b Outside hb hc m = absurd (plain f q Outside hc)
share_cases f p q b Hidden hb hc m = absurd (plain f q Hidden hc)
share_cases f p q b c hb hc m = absurd m

argument_outer : (l : LocalNo) (c : Base) → IsPlain c → IsOuterBase c → MayBeOne (ArgumentBase l) c
argument_outer l (ArgumentBase k) p o = tt
argument_outer l (ObjectBase g) p o = tt
argument_outer l (AllocaBase k) p o = absurd o
argument_outer l Outside p o = tt
argument_outer l Hidden p o = absurd p

outer_argument : (l : LocalNo) (c : Base) → IsPlain c → IsOuterBase c → MayBeOne c (ArgumentBase l)
outer_argument l (ArgumentBase k) p o = tt
outer_argument l (ObjectBase g) p o = tt
outer_argument l (AllocaBase k) p o = absurd o
outer_argument l Outside p o = tt
outer_argument l Hidden p o = absurd p

common_one : (n : Root) → MayBeOne (base_of n) (base_of n)
common_one (Local l) = refl
common_one (Global g) = refl

-- what the test of two sets says
pub sets_from : (t : BasesState) (f : FuncState) (p q : Root) (s u : Set) → IsSet t f p s → IsSet t f q u → sets_meet t s u ≡ true → SharePointers f p q
sets_from t f p q s u hs hu e =
    ⊎_elim
    (λ (one : (have_common t s u || (has_argument t s && has_outer t u)) ≡ true).
    ⊎_elim
    (λ (c : have_common t s u ≡ true). let n = common_from t f p q s u hs hu c in (base_of n.0, base_of n.0, n.1, n.2, common_one n.0))
    (λ (a : (has_argument t s && has_outer t u) ≡ true).
    let both = and_parts (has_argument t s) (has_outer t u) a in
    let x = argument_from t f p s hs both.0 in
    let y = outer_from t f q u hu both.1 in
    (ArgumentBase x.0, y.0, x.1, y.1, argument_outer x.0 y.0 (plain f q y.0 y.1) y.2))
    (or_cases (have_common t s u) (has_argument t s && has_outer t u) one))
    (λ (a : (has_argument t u && has_outer t s) ≡ true).
    let both = and_parts (has_argument t u) (has_outer t s) a in
    let x = argument_from t f q u hu both.0 in
    let y = outer_from t f p s hs both.1 in
    (y.0, ArgumentBase x.0, y.1, x.1, outer_argument x.0 y.0 (plain f p y.0 y.1) y.2))
    (or_cases (have_common t s u || (has_argument t s && has_outer t u)) (has_argument t u && has_outer t s) e)

pub sets_to : (t : BasesState) (f : FuncState) (p q : Root) (s u : Set) → IsSet t f p s → IsSet t f q u → SharePointers f p q → sets_meet t s u ≡ true
sets_to t f p q s u hs hu h =
    ⊎_elim
    (λ (c : HaveCommon f p q).
    or_left (have_common t s u || (has_argument t s && has_outer t u)) (has_argument t u && has_outer t s)
    (or_left (have_common t s u) (has_argument t s && has_outer t u) (common_to t f p q s u hs hu c)))
    (⊎_elim
    (λ (a : HasArgument f p × IsOuter f q).
    or_left (have_common t s u || (has_argument t s && has_outer t u)) (has_argument t u && has_outer t s)
    (or_right (have_common t s u) (has_argument t s && has_outer t u) (and_from (has_argument t s) (has_outer t u) (argument_to t f p s hs a.0) (outer_to t f q u hu a.1))))
    (λ (a : HasArgument f q × IsOuter f p).
    or_right (have_common t s u || (has_argument t s && has_outer t u)) (has_argument t u && has_outer t s)
    (and_from (has_argument t u) (has_outer t s) (argument_to t f q u hu a.0) (outer_to t f p s hs a.1))))
    (share_cases f p q h.0 h.1 h.2 h.3 h.4)
