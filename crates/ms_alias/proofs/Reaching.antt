-- When reaches meet, by the tables and by their meaning.
use Rattle.std.proofs.Common.{◌≡◌, ◌<◌, ◌⊎◌, ℕ, zero, suc, ℤ, pos, ◌+ℤ◌, Bool, true, false, List, [], ◌∷◌, Option, Some, None, get_or, refl, sym, ap, ◌∙◌, subst, inl, inr, ⊎_elim, arith}
use Rattle.std.specs.Prelude.{◌&&◌, ◌||◌, not, Contains, nat_lt, int_lt, ◌≤ℤ◌, ◌<ℤ◌}
use Rattle.std.specs.List.{list_any}
use Rattle.std.proofs.lemmas.Bool.{eqb-true, eq-eqb, and_parts, and_from, or_cases, or_left, or_right, false≢true, both_ways, cases_Bool, ltb-true, lt-ltb, not-true, not_from_false, cond-true, cond-false}
use Rattle.std.proofs.lemmas.Int.{ints, by_lt_z}
use Rattle.std.proofs.lemmas.List.Folds.{list_any_at}
use Rattle.ms_ir.specs.declared.names.LocalNo.{LocalNo}
use Rattle.ms_ir.specs.declared.names.GlobalNo.{GlobalNo}
use Rattle.ms_ir.specs.declared.inst.Val.{Val}
use Rattle.ms_ir.specs.declared.inst.Arg.{Arg}
use Rattle.ms_ir.specs.Func.{FuncState}
use Rattle.ms_meaning.specs.Memory.{HoldsByte}
use Rattle.ms_alias.specs.declared.loc.Root.{Root}
use Rattle.ms_alias.specs.declared.loc.Root.TheVariants.{Local, Global}
use Rattle.ms_alias.specs.declared.sets.Set.{Set}
use Rattle.ms_alias.specs.declared.sets.Set.TheVariants.{Nothing, Argument, Alloca, Object, Brought}
use Rattle.ms_alias.specs.Roots.{pointer_of, IsFixed}
use Rattle.ms_alias.specs.Bases.{Base, Alloca as AllocaBase, Argument as ArgumentBase, Object as ObjectBase, Outside, Hidden, HasBase, HasValBase, IsNamed, IsBrought}
use Rattle.ms_alias.specs.Captured.{IsCaptured}
use Rattle.ms_alias.specs.Reaches.{Reach, Span, Called, IsKnown, IsReached}
use Rattle.ms_alias.specs.Meeting.{MayBeOne, IsOuterBase, ShareBase, Meet, MeetInTurn}
use Rattle.ms_alias.specs.Tables.{AliasState, BasesState, same_root, row_of, set_of, have_common, has_argument, has_outer, sets_meet, is_caught, is_known, set_of_option, val_set, args_meet, call_meets, call_meets_args, are_known, calls_meet, ranges_meet, is_turning, spans_meet, reaches_meet, reaches_meet_in_turn, IsSet, IsBases, IsCaptures, IsAliasOf, base_of}
use Rattle.ms_alias.proofs.Makers.{is_number}
use Rattle.ms_alias.proofs.Meets.{plain, sets_from, sets_to, outer_from, outer_to, shared_from, shared_to}
use Rattle.ms_alias.proofs.RootLemmas.{turning_from, turning_to}

no_member : {A : Type 0} (x : A) → Contains [] x → ⊥
no_member x h = let lt = h.1 in omega (arith, lt)

global_one : (f : FuncState) (g : GlobalNo) (n : ℕ) (q : Root) (b : Base) → IsBrought f n (Global g) q → IsNamed f q b → b ≡ ObjectBase g
global_one f g zero q b brought named = let P : Root → Type 0 = λ r. IsNamed f r b in subst P (sym brought) named
global_one f g (suc n) q b brought named = absurd (no_member brought.0 brought.1)

-- the set of each pointer tells its bases
pub set_told : (t : BasesState) (f : FuncState) → IsBases t f → (p : Root) → IsSet t f p (set_of t p)
set_told t f is (Local l) = is.each l
set_told t f is (Global g) = ((zero, Global g, refl, refl), λ b h. global_one f g h.0 h.1 b h.2 h.3)

any_from : {A : Type 0} (p : A → Bool) (xs : List A) → list_any p xs ≡ true → (x : A) × Contains xs x × (p x ≡ true)
any_from p [] e = absurd (false≢true e)
any_from p (x ∷ xs) e =
    ⊎_elim
    (λ (here : p x ≡ true). (x, (zero, omega arith, refl), here))
    (λ (there : list_any p xs ≡ true). let rest = any_from p xs there in (rest.0, (suc rest.1.0, let lt = rest.1.1 in omega (arith, lt), rest.1.2), rest.2))
    (or_cases (p x) (list_any p xs) e)

any_to : {A : Type 0} (p : A → Bool) (xs : List A) (x : A) → Contains xs x → p x ≡ true → list_any p xs ≡ true
any_to p xs x h e = list_any_at p xs h.0 x h.1 (ap p h.2 ∙ e)

pub swap_one : (b c : Base) → MayBeOne b c → MayBeOne c b
swap_one (AllocaBase k) (AllocaBase l) m = sym m
swap_one (ObjectBase g) (ObjectBase h) m = sym m
swap_one (ObjectBase g) (ArgumentBase l) m = tt
swap_one (ObjectBase g) Outside m = tt
swap_one (ArgumentBase l) (ObjectBase g) m = tt
swap_one (ArgumentBase k) (ArgumentBase l) m = tt
swap_one (ArgumentBase l) Outside m = tt
swap_one Outside (ObjectBase g) m = tt
swap_one Outside (ArgumentBase l) m = tt
swap_one Outside Outside m = tt
swap_one Hidden Hidden m = tt
swap_one b c m = absurd m

nothing_meets : (t : BasesState) (s : Set) → sets_meet t Nothing s ≡ true → ⊥
nothing_meets t s e =
    ⊎_elim
    (λ (one : (have_common t Nothing s || (has_argument t Nothing && has_outer t s)) ≡ true).
    ⊎_elim (λ (c : have_common t Nothing s ≡ true). no_common t s c) (λ (a : (has_argument t Nothing && has_outer t s) ≡ true). false≢true (and_parts (has_argument t Nothing) (has_outer t s) a).0) (or_cases (have_common t Nothing s) (has_argument t Nothing && has_outer t s) one))
    (λ (a : (has_argument t s && has_outer t Nothing) ≡ true). false≢true (and_parts (has_argument t s) (has_outer t Nothing) a).1)
    (or_cases (have_common t Nothing s || (has_argument t Nothing && has_outer t s)) (has_argument t s && has_outer t Nothing) e) where
      no_common : (t : BasesState) (s : Set) → have_common t Nothing s ≡ true → ⊥
      no_common t s c = false≢true c

-- a value's bases and those of a pointer
abbrev ShareVal : FuncState → Val → Root → Type 0
ShareVal f v q = (b : Base) × (c : Base) × HasValBase f v b × HasBase f q c × MayBeOne b c

val_in : (t : BasesState) (f : FuncState) → IsBases t f → (v : Val) (q : Root) (s : Set) → IsSet t f q s → (o : Option Root) → pointer_of v ≡ o → sets_meet t (set_of_option t o) s ≡ true → ShareVal f v q
val_in t f is v q s hs None p e = absurd (nothing_meets t s e)
val_in t f is v q s hs (Some r) p e =
    let h = sets_from t f r q (set_of t r) s (set_told t f is r) hs e in
    (h.0, h.1, (r, p, h.2), h.3, h.4)

pub val_from : (t : BasesState) (f : FuncState) → IsBases t f → (v : Val) (q : Root) (s : Set) → IsSet t f q s → sets_meet t (val_set t v) s ≡ true → ShareVal f v q
val_from t f is v q s hs e = val_in t f is v q s hs (pointer_of v) refl e

pub val_to : (t : BasesState) (f : FuncState) → IsBases t f → (v : Val) (q : Root) (s : Set) → IsSet t f q s → ShareVal f v q → sets_meet t (val_set t v) s ≡ true
val_to t f is v q s hs h =
    let p = h.2 in
    ap (λ o. sets_meet t (set_of_option t o) s) p.1 ∙ sets_to t f p.0 q (set_of t p.0) s (set_told t f is p.0) hs (h.0, h.1, p.2, h.3, h.4)

-- a base that a call knows, and one of the pointer
abbrev pub KnowsBase : FuncState → Root → Type 0
KnowsBase f q = (b : Base) × (c : Base) × IsKnown f b × HasBase f q c × MayBeOne b c

outside_outer : (c : Base) → IsOuterBase c → (c ≡ Hidden → ⊥) → MayBeOne Outside c
outside_outer (AllocaBase l) o h = absurd o
outside_outer (ArgumentBase l) o h = tt
outside_outer (ObjectBase g) o h = tt
outside_outer Outside o h = tt
outside_outer Hidden o h = absurd (h refl)

not_hidden : (f : FuncState) (q : Root) (c : Base) → HasBase f q c → c ≡ Hidden → ⊥
not_hidden f q c h e = plain f q Hidden (subst (HasBase f q) e h)

caught_from : (t : BasesState) (f : FuncState) (captured : List Bool) → IsCaptures t f captured → (q : Root) (s : Set) → IsSet t f q s → is_caught t captured s ≡ true → KnowsBase f q
caught_from t f captured k q (Alloca c) hs e =
    let there = k.sound c e in
    let same : Some (Local there.0) ≡ Some (Local hs.0) = sym there.1 ∙ hs.2 in
    let is : there.0 ≡ hs.0 = cc in
    (AllocaBase there.0, AllocaBase hs.0, there.2, hs.1.0, is)
caught_from t f captured k q (Brought l) hs e =
    let at = shared_from (row_of t l).bits captured e in
    let one = hs.sound at.0 at.1 in
    let two = k.sound at.0 at.2 in
    let same : Some one.0 ≡ Some (Local two.0) = sym one.1 ∙ two.1 in
    let is : one.0 ≡ Local two.0 = cc in
    (AllocaBase two.0, AllocaBase two.0, two.2, (let P : Root → Type 0 = λ r. HasBase f q (base_of r) in subst P is one.2), refl)
caught_from t f captured k q s hs e = absurd (false≢true e)

pub known_from : (t : BasesState) (f : FuncState) (captured : List Bool) → IsCaptures t f captured → (q : Root) (s : Set) → IsSet t f q s → is_known t captured s ≡ true → KnowsBase f q
known_from t f captured k q s hs e =
    ⊎_elim
    (λ (o : has_outer t s ≡ true). let h = outer_from t f q s hs o in (Outside, h.0, tt, h.1, outside_outer h.0 h.2 (not_hidden f q h.0 h.1)))
    (λ (c : is_caught t captured s ≡ true). caught_from t f captured k q s hs c)
    (or_cases (has_outer t s) (is_caught t captured s) e)

caught_to : (t : BasesState) (f : FuncState) (captured : List Bool) → IsCaptures t f captured → (q : Root) (s : Set) → IsSet t f q s → (l : LocalNo) → IsCaptured f l → HasBase f q (AllocaBase l) → is_caught t captured s ≡ true
caught_to t f captured k q Nothing hs l is h = absurd (hs (AllocaBase l) h)
caught_to t f captured k q Argument hs l is h = absurd (let e : AllocaBase l ≡ ArgumentBase hs.0 = hs.1.1 (AllocaBase l) h in cc)
caught_to t f captured k q (Object g) hs l is h = absurd (let e : AllocaBase l ≡ ObjectBase g = hs.1 (AllocaBase l) h in cc)
caught_to t f captured k q (Alloca d) hs l is h =
    let e : AllocaBase l ≡ AllocaBase hs.0 = hs.1.1 (AllocaBase l) h in
    let one : l ≡ hs.0 = cc in
    let there = k.complete l is in
    let same : Alloca there.0 ≡ Alloca d = sym there.1 ∙ ap (λ n. set_of t (Local n)) one ∙ hs.3 in
    let at : there.0 ≡ d = cc in
    ap (λ c. get_or captured c false) (sym at) ∙ there.2
caught_to t f captured k q (Brought m) hs l is h =
    let there = k.complete l is in
    let row = hs.complete (Local l) h in
    let same : Alloca there.0 ≡ Alloca row.0 = sym there.1 ∙ row.1 in
    let at : there.0 ≡ row.0 = cc in
    shared_to (row_of t m).bits captured row.0 row.2 (ap (λ c. get_or captured c false) (sym at) ∙ there.2)

known_by : (t : BasesState) (f : FuncState) (captured : List Bool) → IsCaptures t f captured → (q : Root) (s : Set) → IsSet t f q s → (b c : Base) → IsKnown f b → HasBase f q c → MayBeOne b c → is_known t captured s ≡ true
known_by t f captured k q s hs (AllocaBase l) (AllocaBase m) is h one = or_right (has_outer t s) (is_caught t captured s) (caught_to t f captured k q s hs l is (subst (λ n. HasBase f q (AllocaBase n)) (sym one) h))
known_by t f captured k q s hs b (ArgumentBase l) is h one = or_left (has_outer t s) (is_caught t captured s) (outer_to t f q s hs (ArgumentBase l, h, tt))
known_by t f captured k q s hs b (ObjectBase g) is h one = or_left (has_outer t s) (is_caught t captured s) (outer_to t f q s hs (ObjectBase g, h, tt))
known_by t f captured k q s hs b Outside is h one = or_left (has_outer t s) (is_caught t captured s) (outer_to t f q s hs (Outside, h, tt))
known_by t f captured k q s hs b Hidden is h one = absurd (plain f q Hidden h)
known_by t f captured k q s hs b (AllocaBase m) is h one = absurd one

pub known_to : (t : BasesState) (f : FuncState) (captured : List Bool) → IsCaptures t f captured → (q : Root) (s : Set) → IsSet t f q s → KnowsBase f q → is_known t captured s ≡ true
known_to t f captured k q s hs h = known_by t f captured k q s hs h.0 h.1 h.2 h.3 h.4

-- what is known of the bases of a value
abbrev KnowsVal : FuncState → Val → Type 0
KnowsVal f v = (b : Base) × (c : Base) × IsKnown f b × HasValBase f v c × MayBeOne b c

known_val_in : (t : BasesState) (f : FuncState) (captured : List Bool) → IsBases t f → IsCaptures t f captured → (v : Val) (o : Option Root) → pointer_of v ≡ o → is_known t captured (set_of_option t o) ≡ true → KnowsVal f v
known_val_in t f captured is k v None p e = absurd (false≢true e)
known_val_in t f captured is k v (Some r) p e = let h = known_from t f captured k r (set_of t r) (set_told t f is r) e in (h.0, h.1, h.2, (r, p, h.3), h.4)

known_val_from : (t : BasesState) (f : FuncState) (captured : List Bool) → IsBases t f → IsCaptures t f captured → (v : Val) → is_known t captured (val_set t v) ≡ true → KnowsVal f v
known_val_from t f captured is k v e = known_val_in t f captured is k v (pointer_of v) refl e

known_val_to : (t : BasesState) (f : FuncState) (captured : List Bool) → IsBases t f → IsCaptures t f captured → (v : Val) → KnowsVal f v → is_known t captured (val_set t v) ≡ true
known_val_to t f captured is k v h =
    let p = h.3 in
    ap (λ o. is_known t captured (set_of_option t o)) p.1 ∙ known_to t f captured k p.0 (set_of t p.0) (set_told t f is p.0) (h.0, h.1, h.2, p.2, h.4)

-- what a call reaches beside hidden memory
abbrev CallBase : FuncState → List Arg → Bool → Base → Type 0
CallBase f args other b = ((a : Arg) × Contains args a × HasValBase f a.val b) ⊎ ((other ≡ true) × IsKnown f b)

abbrev CallShares : FuncState → List Arg → Bool → Root → Type 0
CallShares f args other q = (b : Base) × (c : Base) × CallBase f args other b × HasBase f q c × MayBeOne b c

call_from : (t : BasesState) (f : FuncState) (captured : List Bool) → IsBases t f → IsCaptures t f captured → (args : List Arg) (other : Bool) (q : Root) (s : Set) → IsSet t f q s → call_meets t captured args other s ≡ true → CallShares f args other q
call_from t f captured is k args other q s hs e =
    ⊎_elim
    (λ (one : args_meet t s args ≡ true).
    let a = any_from (λ (x : Arg). sets_meet t (val_set t x.val) s) args one in
    let h = val_from t f is a.0.val q s hs a.2 in
    (h.0, h.1, inl (a.0, a.1, h.2), h.3, h.4))
    (λ (two : (other && is_known t captured s) ≡ true).
    let both = and_parts other (is_known t captured s) two in
    let h = known_from t f captured k q s hs both.1 in
    (h.0, h.1, inr (both.0, h.2), h.3, h.4))
    (or_cases (args_meet t s args) (other && is_known t captured s) e)

call_to : (t : BasesState) (f : FuncState) (captured : List Bool) → IsBases t f → IsCaptures t f captured → (args : List Arg) (other : Bool) (q : Root) (s : Set) → IsSet t f q s → CallShares f args other q → call_meets t captured args other s ≡ true
call_to t f captured is k args other q s hs h =
    ⊎_elim
    (λ (a : (a : Arg) × Contains args a × HasValBase f a.val h.0).
    or_left (args_meet t s args) (other && is_known t captured s)
    (any_to (λ (x : Arg). sets_meet t (val_set t x.val) s) args a.0 a.1 (val_to t f is a.0.val q s hs (h.0, h.1, a.2, h.3, h.4))))
    (λ (o : (other ≡ true) × IsKnown f h.0).
    or_right (args_meet t s args) (other && is_known t captured s)
    (and_from other (is_known t captured s) o.0 (known_to t f captured k q s hs (h.0, h.1, o.1, h.3, h.4))))
    h.2

-- the same against a value
abbrev CallSharesVal : FuncState → List Arg → Bool → Val → Type 0
CallSharesVal f args other v = (b : Base) × (c : Base) × CallBase f args other b × HasValBase f v c × MayBeOne b c

call_nothing : (t : BasesState) (captured : List Bool) (args : List Arg) (other : Bool) → call_meets t captured args other Nothing ≡ true → ⊥
call_nothing t captured args other e =
    ⊎_elim
    (λ (one : args_meet t Nothing args ≡ true).
    let a = any_from (λ (x : Arg). sets_meet t (val_set t x.val) Nothing) args one in
    meets_nothing t (val_set t a.0.val) a.2)
    (λ (two : (other && is_known t captured Nothing) ≡ true). false≢true (and_parts other (is_known t captured Nothing) two).1)
    (or_cases (args_meet t Nothing args) (other && is_known t captured Nothing) e) where
      common_nothing : (t : BasesState) (s : Set) → have_common t s Nothing ≡ true → ⊥
      common_nothing t Nothing e = false≢true e
      common_nothing t Argument e = false≢true e
      common_nothing t (Alloca c) e = false≢true e
      common_nothing t (Object g) e = false≢true e
      common_nothing t (Brought l) e = false≢true e

      meets_nothing : (t : BasesState) (s : Set) → sets_meet t s Nothing ≡ true → ⊥
      meets_nothing t s e =
          ⊎_elim
          (λ (one : (have_common t s Nothing || (has_argument t s && has_outer t Nothing)) ≡ true).
          ⊎_elim (common_nothing t s) (λ (a : (has_argument t s && has_outer t Nothing) ≡ true). false≢true (and_parts (has_argument t s) (has_outer t Nothing) a).1) (or_cases (have_common t s Nothing) (has_argument t s && has_outer t Nothing) one))
          (λ (a : (has_argument t Nothing && has_outer t s) ≡ true). false≢true (and_parts (has_argument t Nothing) (has_outer t s) a).0)
          (or_cases (have_common t s Nothing || (has_argument t s && has_outer t Nothing)) (has_argument t Nothing && has_outer t s) e)

call_val_in : (t : BasesState) (f : FuncState) (captured : List Bool) → IsBases t f → IsCaptures t f captured → (args : List Arg) (other : Bool) (v : Val) (o : Option Root) → pointer_of v ≡ o → call_meets t captured args other (set_of_option t o) ≡ true → CallSharesVal f args other v
call_val_in t f captured is k args other v None p e = absurd (call_nothing t captured args other e)
call_val_in t f captured is k args other v (Some r) p e =
    let h = call_from t f captured is k args other r (set_of t r) (set_told t f is r) e in
    (h.0, h.1, h.2, (r, p, h.3), h.4)

call_val_from : (t : BasesState) (f : FuncState) (captured : List Bool) → IsBases t f → IsCaptures t f captured → (args : List Arg) (other : Bool) (v : Val) → call_meets t captured args other (val_set t v) ≡ true → CallSharesVal f args other v
call_val_from t f captured is k args other v e = call_val_in t f captured is k args other v (pointer_of v) refl e

call_val_to : (t : BasesState) (f : FuncState) (captured : List Bool) → IsBases t f → IsCaptures t f captured → (args : List Arg) (other : Bool) (v : Val) → CallSharesVal f args other v → call_meets t captured args other (val_set t v) ≡ true
call_val_to t f captured is k args other v h =
    let p = h.3 in
    ap (λ o. call_meets t captured args other (set_of_option t o)) p.1 ∙ call_to t f captured is k args other p.0 (set_of t p.0) (set_told t f is p.0) (h.0, h.1, h.2, p.2, h.4)

reached_by_call : (f : FuncState) (args : List Arg) (other hidden : Bool) (b : Base) → CallBase f args other b → IsReached f (Called args other hidden) b
reached_by_call f args other hidden b (inl a) = inl a
reached_by_call f args other hidden b (inr o) = inr (inl o)

calls_from : (t : BasesState) (f : FuncState) (captured : List Bool) → IsBases t f → IsCaptures t f captured → (args : List Arg) (other hidden : Bool) (args_2 : List Arg) (other_2 hidden_2 : Bool)
    → calls_meet t captured args other hidden args_2 other_2 hidden_2 ≡ true → ShareBase f (Called args other hidden) (Called args_2 other_2 hidden_2)
calls_from t f captured is k args other hidden args_2 other_2 hidden_2 e =
    ⊎_elim
    (λ (one : (call_meets_args t captured args_2 other_2 args || (other && (other_2 || are_known t captured args_2))) ≡ true).
    ⊎_elim
    (λ (x : call_meets_args t captured args_2 other_2 args ≡ true).
    let a = any_from (λ (y : Arg). call_meets t captured args_2 other_2 (val_set t y.val)) args x in
    let h = call_val_from t f captured is k args_2 other_2 a.0.val a.2 in
    (h.1, h.0, inl (a.0, a.1, h.3), reached_by_call f args_2 other_2 hidden_2 h.0 h.2, swap_one h.0 h.1 h.4))
    (λ (x : (other && (other_2 || are_known t captured args_2)) ≡ true).
    let both = and_parts other (other_2 || are_known t captured args_2) x in
    ⊎_elim
    (λ (o : other_2 ≡ true). (Outside, Outside, inr (inl (both.0, tt)), inr (inl (o, tt)), tt))
    (λ (y : are_known t captured args_2 ≡ true).
    let a = any_from (λ (z : Arg). is_known t captured (val_set t z.val)) args_2 y in
    let h = known_val_from t f captured is k a.0.val a.2 in
    (h.0, h.1, inr (inl (both.0, h.2)), inl (a.0, a.1, h.3), h.4))
    (or_cases other_2 (are_known t captured args_2) both.1))
    (or_cases (call_meets_args t captured args_2 other_2 args) (other && (other_2 || are_known t captured args_2)) one))
    (λ (x : (hidden && hidden_2) ≡ true). let both = and_parts hidden hidden_2 x in (Hidden, Hidden, inr (inr (both.0, refl)), inr (inr (both.1, refl)), tt))
    (or_cases (call_meets_args t captured args_2 other_2 args || (other && (other_2 || are_known t captured args_2))) (hidden && hidden_2) e)

hidden_alone : (c : Base) → MayBeOne Hidden c → c ≡ Hidden
hidden_alone Hidden m = refl
hidden_alone c m = absurd m

calls_one : (t : BasesState) (f : FuncState) (captured : List Bool) → IsBases t f → IsCaptures t f captured → (args : List Arg) (other hidden : Bool) (args_2 : List Arg) (other_2 hidden_2 : Bool)
    → (b c : Base) → IsReached f (Called args other hidden) b → IsReached f (Called args_2 other_2 hidden_2) c → MayBeOne b c → calls_meet t captured args other hidden args_2 other_2 hidden_2 ≡ true
calls_one t f captured is k args other hidden args_2 other_2 hidden_2 b c (inl a) (inl d) one =
    or_left (call_meets_args t captured args_2 other_2 args || (other && (other_2 || are_known t captured args_2))) (hidden && hidden_2)
    (or_left (call_meets_args t captured args_2 other_2 args) (other && (other_2 || are_known t captured args_2))
    (any_to (λ (y : Arg). call_meets t captured args_2 other_2 (val_set t y.val)) args a.0 a.1 (call_val_to t f captured is k args_2 other_2 a.0.val (c, b, inl d, a.2, swap_one b c one))))
calls_one t f captured is k args other hidden args_2 other_2 hidden_2 b c (inl a) (inr (inl d)) one =
    or_left (call_meets_args t captured args_2 other_2 args || (other && (other_2 || are_known t captured args_2))) (hidden && hidden_2)
    (or_left (call_meets_args t captured args_2 other_2 args) (other && (other_2 || are_known t captured args_2))
    (any_to (λ (y : Arg). call_meets t captured args_2 other_2 (val_set t y.val)) args a.0 a.1 (call_val_to t f captured is k args_2 other_2 a.0.val (c, b, inr d, a.2, swap_one b c one))))
calls_one t f captured is k args other hidden args_2 other_2 hidden_2 b c (inr (inl o)) (inl d) one =
    or_left (call_meets_args t captured args_2 other_2 args || (other && (other_2 || are_known t captured args_2))) (hidden && hidden_2)
    (or_right (call_meets_args t captured args_2 other_2 args) (other && (other_2 || are_known t captured args_2))
    (and_from other (other_2 || are_known t captured args_2) o.0
    (or_right other_2 (are_known t captured args_2) (any_to (λ (z : Arg). is_known t captured (val_set t z.val)) args_2 d.0 d.1 (known_val_to t f captured is k d.0.val (b, c, o.1, d.2, one))))))
calls_one t f captured is k args other hidden args_2 other_2 hidden_2 b c (inr (inl o)) (inr (inl d)) one =
    or_left (call_meets_args t captured args_2 other_2 args || (other && (other_2 || are_known t captured args_2))) (hidden && hidden_2)
    (or_right (call_meets_args t captured args_2 other_2 args) (other && (other_2 || are_known t captured args_2))
    (and_from other (other_2 || are_known t captured args_2) o.0 (or_left other_2 (are_known t captured args_2) d.0)))
calls_one t f captured is k args other hidden args_2 other_2 hidden_2 b c (inr (inr h)) (inr (inr d)) one =
    or_right (call_meets_args t captured args_2 other_2 args || (other && (other_2 || are_known t captured args_2))) (hidden && hidden_2) (and_from hidden hidden_2 h.0 d.0)
calls_one t f captured is k args other hidden args_2 other_2 hidden_2 b c (inr (inr h)) (inl a) one =
    let p = a.2 in
    absurd (not_hidden f p.0 c p.2 (hidden_alone c (subst (λ x. MayBeOne x c) h.1 one)))
calls_one t f captured is k args other hidden args_2 other_2 hidden_2 b c (inr (inr h)) (inr (inl o)) one =
    absurd (subst (IsKnown f) (hidden_alone c (subst (λ x. MayBeOne x c) h.1 one)) o.1)
calls_one t f captured is k args other hidden args_2 other_2 hidden_2 b c (inl a) (inr (inr h)) one =
    let p = a.2 in
    absurd (not_hidden f p.0 b p.2 (hidden_alone b (swap_one b Hidden (subst (MayBeOne b) h.1 one))))
calls_one t f captured is k args other hidden args_2 other_2 hidden_2 b c (inr (inl o)) (inr (inr h)) one =
    absurd (subst (IsKnown f) (hidden_alone b (swap_one b Hidden (subst (MayBeOne b) h.1 one))) o.1)

calls_to : (t : BasesState) (f : FuncState) (captured : List Bool) → IsBases t f → IsCaptures t f captured → (args : List Arg) (other hidden : Bool) (args_2 : List Arg) (other_2 hidden_2 : Bool)
    → ShareBase f (Called args other hidden) (Called args_2 other_2 hidden_2) → calls_meet t captured args other hidden args_2 other_2 hidden_2 ≡ true
calls_to t f captured is k args other hidden args_2 other_2 hidden_2 h = calls_one t f captured is k args other hidden args_2 other_2 hidden_2 h.0 h.1 h.2 h.3 h.4

-- a range of bytes and another
abbrev SharedByte : ℤ → ℕ → ℤ → ℕ → Type 0
SharedByte from len at size = (k : ℤ) × HoldsByte from len k × HoldsByte at size k

bytes_from : (from at : ℤ) (len size : ℕ) → 0 < len → 0 < size → from <ℤ (at +ℤ pos size) → at <ℤ (from +ℤ pos len) → SharedByte from len at size
bytes_from from at len size l s p q =
    by_lt_z from at
    (λ (lt : from <ℤ at). let a : from ≤ℤ at = omega (arith, ints) in let b : at ≤ℤ at = omega (arith, ints) in let c : at <ℤ (at +ℤ pos size) = omega (arith, ints) in (at, (a, q), (b, c)))
    (λ (le : at ≤ℤ from). let b : from ≤ℤ from = omega (arith, ints) in let c : from <ℤ (from +ℤ pos len) = omega (arith, ints) in (from, (b, c), (le, p)))

lt_from_test : (a b : ℤ) → int_lt a b ≡ true → a <ℤ b
lt_from_test a b e = grind (arith, ints)

test_from_lt : (a b : ℤ) → a <ℤ b → int_lt a b ≡ true
test_from_lt a b h = grind (arith, ints)

ranges_from : (from at : ℤ) (len size : ℕ) → ranges_meet from len at size ≡ true → SharedByte from len at size
ranges_from from at len size e =
    let a = and_parts (nat_lt 0 len && nat_lt 0 size && int_lt from (at +ℤ pos size)) (int_lt at (from +ℤ pos len)) e in
    let b = and_parts (nat_lt 0 len && nat_lt 0 size) (int_lt from (at +ℤ pos size)) a.0 in
    let c = and_parts (nat_lt 0 len) (nat_lt 0 size) b.0 in
    bytes_from from at len size (ltb-true 0 len c.0) (ltb-true 0 size c.1) (lt_from_test from (at +ℤ pos size) b.1) (lt_from_test at (from +ℤ pos len) a.1)

ranges_to : (from at : ℤ) (len size : ℕ) → SharedByte from len at size → ranges_meet from len at size ≡ true
ranges_to from at len size h =
    let k : ℤ = h.0 in
    let a : from ≤ℤ k = h.1.0 in
    let b : k <ℤ (from +ℤ pos len) = h.1.1 in
    let c : at ≤ℤ k = h.2.0 in
    let d : k <ℤ (at +ℤ pos size) = h.2.1 in
    let l : 0 < len = omega (arith, ints) in
    let s : 0 < size = omega (arith, ints) in
    let p : from <ℤ (at +ℤ pos size) = omega (arith, ints) in
    let q : at <ℤ (from +ℤ pos len) = omega (arith, ints) in
    and_from (nat_lt 0 len && nat_lt 0 size && int_lt from (at +ℤ pos size)) (int_lt at (from +ℤ pos len))
    (and_from (nat_lt 0 len && nat_lt 0 size) (int_lt from (at +ℤ pos size)) (and_from (nat_lt 0 len) (nat_lt 0 size) (lt-ltb 0 len l) (lt-ltb 0 size s)) (test_from_lt from (at +ℤ pos size) p))
    (test_from_lt at (from +ℤ pos len) q)

pub root_is : (r s : Root) → same_root r s ≡ true → r ≡ s
root_is (Local k) (Local l) e = ap Local (is_number k l (eqb-true k.0 l.0 e))
root_is (Global g) (Global h) e = let make : ℕ → Root = λ n. Global (record { 0 = n }) in ap make (eqb-true g.0 h.0 e)
root_is (Local k) (Global h) e = absurd (false≢true e)
root_is (Global g) (Local l) e = absurd (false≢true e)

pub root_same : (r : Root) → same_root r r ≡ true
root_same (Local l) = eq-eqb l.0 l.0 refl
root_same (Global g) = eq-eqb g.0 g.0 refl

abbrev one_place : AliasState → Root → Root → Bool
one_place a r s = same_root r s && not (is_turning a.turning r)

one_place_from : (f : FuncState) (a : AliasState) → IsAliasOf f a → (r s : Root) → one_place a r s ≡ true → (r ≡ s) × IsFixed f r
one_place_from f a is r s e =
    let both = and_parts (same_root r s) (not (is_turning a.turning r)) e in
    (root_is r s both.0, λ turns. both_ways (is_turning a.turning r) (not-true (is_turning a.turning r) both.1) (turning_to f a.turning is.turning r turns))

one_place_to : (f : FuncState) (a : AliasState) → IsAliasOf f a → (r s : Root) → r ≡ s → IsFixed f r → one_place a r s ≡ true
one_place_to f a is r s e fixed =
    and_from (same_root r s) (not (is_turning a.turning r)) (subst (λ x. same_root r x ≡ true) e (root_same r))
    (⊎_elim (λ (t : is_turning a.turning r ≡ true). absurd (fixed (turning_from f a.turning is.turning r t))) (λ (o : is_turning a.turning r ≡ false). not_from_false (is_turning a.turning r) o) (cases_Bool (is_turning a.turning r)))

longs_from : (len size : ℕ) (x : Bool) → (nat_lt 0 len && nat_lt 0 size && x) ≡ true → (0 < len) × (0 < size) × (x ≡ true)
longs_from len size x e =
    let a = and_parts (nat_lt 0 len && nat_lt 0 size) x e in
    let b = and_parts (nat_lt 0 len) (nat_lt 0 size) a.0 in
    (ltb-true 0 len b.0, ltb-true 0 size b.1, a.1)

longs_to : (len size : ℕ) (x : Bool) → 0 < len → 0 < size → x ≡ true → (nat_lt 0 len && nat_lt 0 size && x) ≡ true
longs_to len size x l s e = and_from (nat_lt 0 len && nat_lt 0 size) x (and_from (nat_lt 0 len) (nat_lt 0 size) (lt-ltb 0 len l) (lt-ltb 0 size s)) e

spans_from : (f : FuncState) (a : AliasState) → IsAliasOf f a → (r s : Root) (from at : ℤ) (len size : ℕ) → spans_meet a r from len s at size ≡ true → Meet f (Span r from len) (Span s at size)
spans_from f a is r s from at len size e =
    ⊎_elim
    (λ (one : one_place a r s ≡ true).
    let test : ranges_meet from len at size ≡ true = sym (cond-true (one_place a r s) (ranges_meet from len at size) (nat_lt 0 len && nat_lt 0 size && sets_meet a.bases (set_of a.bases r) (set_of a.bases s)) one) ∙ e in
    inl (one_place_from f a is r s one, ranges_from from at len size test))
    (λ (two : one_place a r s ≡ false).
    let test = longs_from len size (sets_meet a.bases (set_of a.bases r) (set_of a.bases s)) (sym (cond-false (one_place a r s) (ranges_meet from len at size) (nat_lt 0 len && nat_lt 0 size && sets_meet a.bases (set_of a.bases r) (set_of a.bases s)) two) ∙ e) in
    inr ((λ (h : (r ≡ s) × IsFixed f r). both_ways (one_place a r s) two (one_place_to f a is r s h.0 h.1)), test.0, test.1, sets_from a.bases f r s (set_of a.bases r) (set_of a.bases s) (set_told a.bases f is.bases r) (set_told a.bases f is.bases s) test.2))
    (cases_Bool (one_place a r s))

spans_to : (f : FuncState) (a : AliasState) → IsAliasOf f a → (r s : Root) (from at : ℤ) (len size : ℕ) → Meet f (Span r from len) (Span s at size) → spans_meet a r from len s at size ≡ true
spans_to f a is r s from at len size (inl h) =
    let one = one_place_to f a is r s h.0.0 h.0.1 in
    cond-true (one_place a r s) (ranges_meet from len at size) (nat_lt 0 len && nat_lt 0 size && sets_meet a.bases (set_of a.bases r) (set_of a.bases s)) one ∙ ranges_to from at len size h.1
spans_to f a is r s from at len size (inr h) =
    let two : one_place a r s ≡ false = ⊎_elim (λ (t : one_place a r s ≡ true). absurd (h.0 (one_place_from f a is r s t))) (λ (o : one_place a r s ≡ false). o) (cases_Bool (one_place a r s)) in
    cond-false (one_place a r s) (ranges_meet from len at size) (nat_lt 0 len && nat_lt 0 size && sets_meet a.bases (set_of a.bases r) (set_of a.bases s)) two
    ∙ longs_to len size (sets_meet a.bases (set_of a.bases r) (set_of a.bases s)) h.1 h.2 (sets_to a.bases f r s (set_of a.bases r) (set_of a.bases s) (set_told a.bases f is.bases r) (set_told a.bases f is.bases s) h.3)

span_call_from : (f : FuncState) (a : AliasState) → IsAliasOf f a → (r : Root) (from : ℤ) (len : ℕ) (args : List Arg) (other hidden : Bool)
    → (nat_lt 0 len && call_meets a.bases a.captured args other (set_of a.bases r)) ≡ true → (0 < len) × CallShares f args other r
span_call_from f a is r from len args other hidden e =
    let both = and_parts (nat_lt 0 len) (call_meets a.bases a.captured args other (set_of a.bases r)) e in
    (ltb-true 0 len both.0, call_from a.bases f a.captured is.bases is.captured args other r (set_of a.bases r) (set_told a.bases f is.bases r) both.1)

span_call_to : (f : FuncState) (a : AliasState) → IsAliasOf f a → (r : Root) (from : ℤ) (len : ℕ) (args : List Arg) (other hidden : Bool)
    → 0 < len → (b c : Base) → IsReached f (Called args other hidden) b → HasBase f r c → MayBeOne b c → (nat_lt 0 len && call_meets a.bases a.captured args other (set_of a.bases r)) ≡ true
span_call_to f a is r from len args other hidden l b c (inl x) h one =
    and_from (nat_lt 0 len) (call_meets a.bases a.captured args other (set_of a.bases r)) (lt-ltb 0 len l) (call_to a.bases f a.captured is.bases is.captured args other r (set_of a.bases r) (set_told a.bases f is.bases r) (b, c, inl x, h, one))
span_call_to f a is r from len args other hidden l b c (inr (inl x)) h one =
    and_from (nat_lt 0 len) (call_meets a.bases a.captured args other (set_of a.bases r)) (lt-ltb 0 len l) (call_to a.bases f a.captured is.bases is.captured args other r (set_of a.bases r) (set_told a.bases f is.bases r) (b, c, inr x, h, one))
span_call_to f a is r from len args other hidden l b c (inr (inr x)) h one = absurd (not_hidden f r c h (hidden_alone c (subst (λ y. MayBeOne y c) x.1 one)))

-- the test of two reaches says whether they meet
pub reaches_from : (f : FuncState) (a : AliasState) → IsAliasOf f a → (u v : Reach) → reaches_meet a u v ≡ true → Meet f u v
reaches_from f a is (Span r from len) (Span s at size) e = spans_from f a is r s from at len size e
reaches_from f a is (Span r from len) (Called args other hidden) e =
    let x = span_call_from f a is r from len args other hidden e in
    let h = x.1 in
    inr ((λ (z : ⊥). z), x.0, tt, (h.1, h.0, h.3, reached_by_call f args other hidden h.0 h.2, swap_one h.0 h.1 h.4))
reaches_from f a is (Called args other hidden) (Span r from len) e =
    let x = span_call_from f a is r from len args other hidden e in
    let h = x.1 in
    inr ((λ (z : ⊥). z), tt, x.0, (h.0, h.1, reached_by_call f args other hidden h.0 h.2, h.3, h.4))
reaches_from f a is (Called args other hidden) (Called args_2 other_2 hidden_2) e =
    inr ((λ (z : ⊥). z), tt, tt, calls_from a.bases f a.captured is.bases is.captured args other hidden args_2 other_2 hidden_2 e)

pub reaches_to : (f : FuncState) (a : AliasState) → IsAliasOf f a → (u v : Reach) → Meet f u v → reaches_meet a u v ≡ true
reaches_to f a is (Span r from len) (Span s at size) m = spans_to f a is r s from at len size m
reaches_to f a is (Span r from len) (Called args other hidden) (inl m) = absurd m.0
reaches_to f a is (Span r from len) (Called args other hidden) (inr m) =
    let h = m.3 in
    span_call_to f a is r from len args other hidden m.1 h.1 h.0 h.3 h.2 (swap_one h.0 h.1 h.4)
reaches_to f a is (Called args other hidden) (Span r from len) (inl m) = absurd m.0
reaches_to f a is (Called args other hidden) (Span r from len) (inr m) =
    let h = m.3 in
    span_call_to f a is r from len args other hidden m.2 h.0 h.1 h.2 h.3 h.4
reaches_to f a is (Called args other hidden) (Called args_2 other_2 hidden_2) (inl m) = absurd m.0
reaches_to f a is (Called args other hidden) (Called args_2 other_2 hidden_2) (inr m) =
    calls_to a.bases f a.captured is.bases is.captured args other hidden args_2 other_2 hidden_2 m.3

-- the test of two reaches says whether they meet while roots stay what they are
pub in_turn_from : (f : FuncState) (a : AliasState) → IsAliasOf f a → (u v : Reach) → reaches_meet_in_turn a u v ≡ true → MeetInTurn f u v
in_turn_from f a is (Span r from len) (Span s at size) e =
    ⊎_elim
    (λ (one : same_root r s ≡ true).
    inl (root_is r s one, ranges_from from at len size (sym (cond-true (same_root r s) (ranges_meet from len at size) (spans_meet a r from len s at size) one) ∙ e)))
    (λ (two : same_root r s ≡ false).
    inr ((λ (h : r ≡ s). both_ways (same_root r s) two (subst (λ x. same_root r x ≡ true) h (root_same r))), spans_from f a is r s from at len size (sym (cond-false (same_root r s) (ranges_meet from len at size) (spans_meet a r from len s at size) two) ∙ e)))
    (cases_Bool (same_root r s))
in_turn_from f a is (Span r from len) (Called args other hidden) e = inr ((λ (z : ⊥). z), reaches_from f a is (Span r from len) (Called args other hidden) e)
in_turn_from f a is (Called args other hidden) v e = inr ((λ (z : ⊥). z), reaches_from f a is (Called args other hidden) v e)

pub in_turn_to : (f : FuncState) (a : AliasState) → IsAliasOf f a → (u v : Reach) → MeetInTurn f u v → reaches_meet_in_turn a u v ≡ true
in_turn_to f a is (Span r from len) (Span s at size) (inl h) =
    let one : same_root r s ≡ true = subst (λ x. same_root r x ≡ true) h.0 (root_same r) in
    cond-true (same_root r s) (ranges_meet from len at size) (spans_meet a r from len s at size) one ∙ ranges_to from at len size h.1
in_turn_to f a is (Span r from len) (Span s at size) (inr h) =
    let two : same_root r s ≡ false = ⊎_elim (λ (t : same_root r s ≡ true). absurd (h.0 (root_is r s t))) (λ (o : same_root r s ≡ false). o) (cases_Bool (same_root r s)) in
    cond-false (same_root r s) (ranges_meet from len at size) (spans_meet a r from len s at size) two ∙ spans_to f a is r s from at len size h.1
in_turn_to f a is (Span r from len) (Called args other hidden) (inl h) = absurd h.0
in_turn_to f a is (Span r from len) (Called args other hidden) (inr h) = reaches_to f a is (Span r from len) (Called args other hidden) h.1
in_turn_to f a is (Called args other hidden) v (inl h) = absurd h.0
in_turn_to f a is (Called args other hidden) v (inr h) = reaches_to f a is (Called args other hidden) v h.1

named_one : (f : FuncState) (p : Root) (b : Base) → HasBase f p b → MayBeOne b b
named_one f p (AllocaBase l) h = refl
named_one f p (ArgumentBase l) h = tt
named_one f p (ObjectBase g) h = refl
named_one f p Outside h = tt
named_one f p Hidden h = tt

-- what meets while roots stay what they are meets at all, where each root has a base
pub at_all : (f : FuncState) (a : AliasState) → IsAliasOf f a → (u v : Reach) → ((r : Root) (from : ℤ) (len : ℕ) → v ≡ Span r from len → (b : Base) × HasBase f r b) → MeetInTurn f u v → Meet f u v
at_all f a is (Span r from len) (Span s at size) based (inl h) =
    let k : ℤ = h.1.0 in
    let k0 : from ≤ℤ k = h.1.1.0 in
    let k1 : k <ℤ (from +ℤ pos len) = h.1.1.1 in
    let k2 : at ≤ℤ k = h.1.2.0 in
    let k3 : k <ℤ (at +ℤ pos size) = h.1.2.1 in
    let l : 0 < len = omega (arith, ints) in
    let m : 0 < size = omega (arith, ints) in
    let base = based s at size refl in
    ⊎_elim
    (λ (t : is_turning a.turning r ≡ true).
    inr ((λ (o : (r ≡ s) × IsFixed f r). o.1 (turning_from f a.turning is.turning r t)), l, m, (base.0, base.0, subst (λ x. HasBase f x base.0) (sym h.0) base.1, base.1, named_one f s base.0 base.1)))
    (λ (o : is_turning a.turning r ≡ false). inl ((h.0, λ turns. both_ways (is_turning a.turning r) o (turning_to f a.turning is.turning r turns)), h.1))
    (cases_Bool (is_turning a.turning r))
at_all f a is (Span r from len) (Called args other hidden) based (inl h) = absurd h.0
at_all f a is (Called args other hidden) v based (inl h) = absurd h.0
at_all f a is u v based (inr h) = h.1
