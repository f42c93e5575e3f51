-- The search for the bases of a local.
use Rattle.std.proofs.Common.{◌≡◌, ◌<◌, ◌≤◌, ◌+◌, ◌*◌, ◌⊎◌, ℕ, zero, suc, Bool, true, false, List, [], ◌∷◌, ◌++◌, Option, Some, None, length, get_or, set, refl, sym, ap, ◌∙◌, subst, inl, inr, ⊎_elim, get_or-set_other, get_or-set_same, arith}
use Rattle.std.proofs.Math.ListN.{replicate}
use Rattle.std.specs.Prelude.{slice_get, Contains}
use Rattle.std.proofs.lemmas.Bool.{both_ways, cases_eq, cases_Bool, cases_lt, false≢true, cond-true, cond-false}
use Rattle.std.proofs.lemmas.List.{length-set, length-replicate, length-append, get_or_past}
use Rattle.std.proofs.lemmas.Option.{slice_get_within}
use Rattle.std.proofs.lemmas.List.Elements.{Contains-push, Contains-push_cases, Contains-append_left}
use Rattle.ms_flow.specs.Walk.{unseen}
use Rattle.ms_flow.proofs.Steps.{unseen-set}
use Rattle.ms_ir.specs.declared.names.LocalNo.{LocalNo}
use Rattle.ms_ir.specs.declared.names.GlobalNo.{GlobalNo}
use Rattle.ms_ir.specs.Func.{FuncState}
use Rattle.ms_alias.specs.declared.loc.Root.{Root}
use Rattle.ms_alias.specs.declared.loc.Root.TheVariants.{Local, Global}
use Rattle.ms_alias.specs.declared.sets.Set.{Set}
use Rattle.ms_alias.specs.declared.sets.Set.TheVariants.{Nothing, Argument, Alloca, Object, Brought}
use Rattle.ms_alias.specs.Roots.{Maker, is_alloca}
use Rattle.ms_alias.specs.Bases.{Base, Alloca as AllocaBase, Argument as ArgumentBase, Object as ObjectBase, HasBase, IsNamed, IsBrought, IsArgument, IsAllocaLocal, leads_of, leads_in}
use Rattle.ms_alias.specs.Meeting.{IsOuter, IsOuterBase}
use Rattle.ms_alias.specs.Tables.{BasesState, set_of, bit_of, global_column, base_of, IsColumn, IsRow, IsFor, HasRoom}
use Rattle.ms_alias.specs.Building.{FloodState, flood_begun, met, met_column, met_outer, met_argument, met_global, took, took_all, owned, visited}
use Rattle.ms_alias.proofs.Meets.{HasArgument, at_column}
use Rattle.ms_alias.proofs.Rings.{local, get_or-replicate}

abbrev pub IsMarked : FloodState → ℕ → Type 0
IsMarked s x = get_or s.marked x false ≡ true

abbrev pub HasBit : FloodState → ℕ → Type 0
HasBit s c = bit_of s.row c ≡ true

-- one search is as far as another, or farther
record Grows (s t : FloodState) : Type 0 where
  marks : (x : ℕ) → IsMarked s x → IsMarked t x
  count : length t.marked ≡ length s.marked
  bits : (c : ℕ) → HasBit s c → HasBit t c
  columns : length t.row.bits ≡ length s.row.bits
  argument : s.row.argument ≡ true → t.row.argument ≡ true
  outer : s.row.outer ≡ true → t.row.outer ≡ true

grows_same : (s : FloodState) → Grows s s
grows_same s = record { marks = λ x h. h; count = refl; bits = λ c h. h; columns = refl; argument = λ h. h; outer = λ h. h }

grows_on : (s t u : FloodState) → Grows s t → Grows t u → Grows s u
grows_on s t u a b = record {
  marks = λ x h. b.marks x (a.marks x h);
  count = b.count ∙ a.count;
  bits = λ c h. b.bits c (a.bits c h);
  columns = b.columns ∙ a.columns;
  argument = λ h. b.argument (a.argument h);
  outer = λ h. b.outer (a.outer h);
}

set_keeps : (marks : List Bool) (m x : ℕ) → get_or marks x false ≡ true → get_or (set marks m true) x false ≡ true
set_keeps marks m x h =
    ⊎_elim
    (λ (e : x ≡ m).
    ⊎_elim
    (λ (lt : m < length marks). ap (λ k. get_or (set marks m true) k false) e ∙ get_or-set_same marks m true false lt)
    (λ (ge : length marks ≤ m). absurd (both_ways (get_or marks x false) (let far : length marks ≤ x = omega arith in get_or_past marks x false far) h))
    (cases_lt m (length marks)))
    (λ (n : x ≡ m → ⊥). get_or-set_other marks m x true false n ∙ h)
    (cases_eq x m)

-- a state when a new local is met
abbrev met_new : ℕ → FloodState → FloodState
met_new m s = record s { marked = set s.marked m true; todo = s.todo ++ m ∷ [] }

met_is : (m : ℕ) (s : FloodState) → (get_or s.marked m true ≡ true × (met m s ≡ s)) ⊎ ((get_or s.marked m true ≡ false) × (met m s ≡ met_new m s))
met_is m s = ⊎_elim (λ (t : get_or s.marked m true ≡ true). inl (t, cond-true (get_or s.marked m true) s (met_new m s) t)) (λ (f : get_or s.marked m true ≡ false). inr (f, cond-false (get_or s.marked m true) s (met_new m s) f)) (cases_Bool (get_or s.marked m true))

new_within : (marks : List Bool) (m : ℕ) → get_or marks m true ≡ false → m < length marks
new_within marks m e = ⊎_elim (λ (lt : m < length marks). lt) (λ (ge : length marks ≤ m). absurd (both_ways (get_or marks m true) e (get_or_past marks m true ge))) (cases_lt m (length marks))

other_default : (marks : List Bool) (m : ℕ) (v : Bool) → m < length marks → get_or marks m true ≡ v → get_or marks m false ≡ v
other_default [] m v h e = absurd (omega arith)
other_default (x ∷ marks) zero v h e = e
other_default (x ∷ marks) (suc m) v h e = other_default marks m v (omega arith) e

grows_new : (m : ℕ) (s : FloodState) → Grows s (met_new m s)
grows_new m s = record {
  marks = set_keeps s.marked m;
  count = length-set s.marked m true;
  bits = λ c h. h;
  columns = refl;
  argument = λ h. h;
  outer = λ h. h;
}

grows_met : (m : ℕ) (s : FloodState) → Grows s (met m s)
grows_met m s = ⊎_elim (λ (h : (get_or s.marked m true ≡ true) × (met m s ≡ s)). subst (Grows s) (sym h.1) (grows_same s)) (λ (h : (get_or s.marked m true ≡ false) × (met m s ≡ met_new m s)). subst (Grows s) (sym h.1) (grows_new m s)) (met_is m s)

grows_column : (c : ℕ) (s : FloodState) → Grows s (met_column c s)
grows_column c s = record {
  marks = λ x h. h;
  count = refl;
  bits = set_keeps s.row.bits c;
  columns = length-set s.row.bits c true;
  argument = λ h. h;
  outer = λ h. h;
}

grows_outer : (s : FloodState) → Grows s (met_outer s)
grows_outer s = record { marks = λ x h. h; count = refl; bits = λ c h. h; columns = refl; argument = λ h. h; outer = λ h. refl }

grows_argument : (s : FloodState) → Grows s (met_argument s)
grows_argument s = record { marks = λ x h. h; count = refl; bits = λ c h. h; columns = refl; argument = λ h. refl; outer = λ h. refl }

grows_global : (o : Option ℕ) (s : FloodState) → Grows s (met_global o s)
grows_global None s = grows_outer s
grows_global (Some c) s = grows_on s (met_column c s) (met_outer (met_column c s)) (grows_column c s) (grows_outer (met_column c s))

grows_took : (t : BasesState) (p : Root) (s : FloodState) → Grows s (took t p s)
grows_took t (Local m) s = grows_met m.0 s
grows_took t (Global g) s = grows_global (global_column t g) s

grows_all : (t : BasesState) (ps : List Root) (s : FloodState) → Grows s (took_all t ps s)
grows_all t [] s = grows_same s
grows_all t (p ∷ ps) s = grows_on s (took t p s) (took_all t ps (took t p s)) (grows_took t p s) (grows_all t ps (took t p s))

grows_owned : (u : Set) (s : FloodState) → Grows s (owned u s)
grows_owned Argument s = grows_argument s
grows_owned (Alloca c) s = grows_column c s
grows_owned u s = grows_same s

-- the pointer was met
abbrev pub IsTaken : BasesState → Root → FloodState → Type 0
IsTaken t (Local y) s = y.0 < length s.marked → IsMarked s y.0
IsTaken t (Global g) s = (s.row.outer ≡ true) × ((c : ℕ) → global_column t g ≡ Some c → HasBit s c)

abbrev pub IsOwned : Set → FloodState → Type 0
IsOwned Argument s = (s.row.argument ≡ true) × (s.row.outer ≡ true)
IsOwned (Alloca c) s = HasBit s c
IsOwned _ s = Unit {0}

taken_grows : (t : BasesState) (p : Root) (s u : FloodState) → Grows s u → IsTaken t p s → IsTaken t p u
taken_grows t (Local y) s u g h = λ lt. g.marks y.0 (h (let k = g.count in omega arith))
taken_grows t (Global n) s u g h = (g.outer h.0, λ c e. g.bits c (h.1 c e))

owned_grows : (k : Set) (s u : FloodState) → Grows s u → IsOwned k s → IsOwned k u
owned_grows Argument s u g h = (g.argument h.0, g.outer h.1)
owned_grows (Alloca c) s u g h = g.bits c h
owned_grows k s u g h = tt

took_taken : (t : BasesState) (p : Root) (s : FloodState) → length s.row.bits ≡ length t.columns → IsTaken t p (took t p s)
took_taken t (Local y) s len =
    ⊎_elim
    (λ (h : (get_or s.marked y.0 true ≡ true) × (met y.0 s ≡ s)).
    subst (λ u. y.0 < length u.marked → IsMarked u y.0) (sym h.1) (λ lt. other_default s.marked y.0 true lt h.0))
    (λ (h : (get_or s.marked y.0 true ≡ false) × (met y.0 s ≡ met_new y.0 s)).
    subst (λ u. y.0 < length u.marked → IsMarked u y.0) (sym h.1) (λ lt. get_or-set_same s.marked y.0 true false (new_within s.marked y.0 h.0)))
    (met_is y.0 s)
took_taken t (Global g) s len = global_taken (global_column t g) (λ c e. let at = slice_get_within t.columns c (Global g) (at_column t g c e) in omega arith) where
  global_taken : (o : Option ℕ) → ((c : ℕ) → o ≡ Some c → c < length s.row.bits) → ((met_global o s).row.outer ≡ true) × ((c : ℕ) → o ≡ Some c → HasBit (met_global o s) c)
  global_taken None h = (refl, λ c e. cc)
  global_taken (Some d) h = (refl, λ c e. let same : d ≡ c = cc in subst (λ k. get_or (set s.row.bits d true) k false ≡ true) same (get_or-set_same s.row.bits d true false (h d refl)))

owned_is : (t : BasesState) (f : FuncState) (l : LocalNo) (u : Set) (s : FloodState) → IsFor t f l u → length s.row.bits ≡ length t.columns → IsOwned u (owned u s)
owned_is t f l Argument s h len = (refl, refl)
owned_is t f l (Alloca c) s h len = get_or-set_same s.row.bits c true false (let at = slice_get_within t.columns c (Local l) h.0 in omega arith)
owned_is t f l u s h len = tt

-- a local is visited to the end
pub record IsDone (t : BasesState) (f : FuncState) (x : ℕ) (s : FloodState) : Type 0 where
  pub own : IsOwned (set_of t (local x)) s
  pub leads : (r : Root) → Contains (leads_of f (local x)) r → IsTaken t r s

done_grows : (t : BasesState) (f : FuncState) (x : ℕ) (s u : FloodState) → Grows s u → IsDone t f x s → IsDone t f x u
done_grows t f x s u g d = record { own = owned_grows (set_of t (local x)) s u g d.own; leads = λ r h. taken_grows t r s u g (d.leads r h) }

abbrev pub IsBroughtTo : FuncState → ℕ → Root → Type 0
IsBroughtTo f l p = (n : ℕ) × IsBrought f n (local l) p

-- all that was met is brought to l, and each local that was met is to be visited, or is being visited, or was visited
pub record IsFlood (t : BasesState) (f : FuncState) (l : ℕ) (now : Option ℕ) (s : FloodState) : Type 0 where
  pub reached : (x : ℕ) → IsMarked s x → IsBroughtTo f l (local x)
  pub bits : (c : ℕ) → HasBit s c → (q : Root) × (slice_get t.columns c ≡ Some q) × HasBase f (local l) (base_of q)
  pub argument : s.row.argument ≡ true → HasArgument f (local l)
  pub outer : s.row.outer ≡ true → IsOuter f (local l)
  pub done : (x : ℕ) → IsMarked s x → (now ≡ Some x) ⊎ (Contains s.todo x ⊎ IsDone t f x s)
  pub listed : (x : ℕ) → Contains s.todo x → IsMarked s x
  pub start : IsMarked s l
  pub count : length s.marked ≡ length t.sets
  pub columns : length s.row.bits ≡ length t.columns

brought_more : (f : FuncState) (n : ℕ) (p q r : Root) → IsBrought f n p q → Contains (leads_of f q) r → IsBrought f (suc n) p r
brought_more f zero p q r h c = (r, subst (λ x. Contains (leads_of f x) r) (sym h) c, refl)
brought_more f (suc n) p q r h c = (h.0, h.1, brought_more f n h.0 q r h.2 c)

-- what was done stays done as the search goes on
done_stays : (t : BasesState) (f : FuncState) (s u : FloodState) (now : Option ℕ) (x : ℕ) → Grows s u → (Contains s.todo x → Contains u.todo x) → (now ≡ Some x) ⊎ (Contains s.todo x ⊎ IsDone t f x s) → (now ≡ Some x) ⊎ (Contains u.todo x ⊎ IsDone t f x u)
done_stays t f s u now x g k (inl e) = inl e
done_stays t f s u now x g k (inr (inl c)) = inr (inl (k c))
done_stays t f s u now x g k (inr (inr d)) = inr (inr (done_grows t f x s u g d))

flood_new : (t : BasesState) (f : FuncState) (l : ℕ) (now : Option ℕ) (s : FloodState) (m : ℕ) → IsFlood t f l now s → IsBroughtTo f l (local m) → get_or s.marked m true ≡ false → IsFlood t f l now (met_new m s)
flood_new t f l now s m i b new = record {
  reached = λ x h. ⊎_elim (λ (e : x ≡ m). subst (λ k. IsBroughtTo f l (local k)) (sym e) b) (λ (n : x ≡ m → ⊥). i.reached x (sym (get_or-set_other s.marked m x true false n) ∙ h)) (cases_eq x m);
  bits = i.bits;
  argument = i.argument;
  outer = i.outer;
  done = λ x h. ⊎_elim (λ (e : x ≡ m). inr (inl (subst (Contains (s.todo ++ m ∷ [])) (sym e) (Contains-push s.todo m)))) (λ (n : x ≡ m → ⊥). done_stays t f s (met_new m s) now x (grows_new m s) (Contains-append_left s.todo (m ∷ []) x) (i.done x (sym (get_or-set_other s.marked m x true false n) ∙ h))) (cases_eq x m);
  listed = λ x h. ⊎_elim (λ (c : Contains s.todo x). set_keeps s.marked m x (i.listed x c)) (λ (e : m ≡ x). subst (λ k. get_or (set s.marked m true) k false ≡ true) e (get_or-set_same s.marked m true false (new_within s.marked m new))) (Contains-push_cases s.todo m x h);
  start = set_keeps s.marked m l i.start;
  count = length-set s.marked m true ∙ i.count;
  columns = i.columns;
}

flood_met : (t : BasesState) (f : FuncState) (l : ℕ) (now : Option ℕ) (s : FloodState) (m : ℕ) → IsFlood t f l now s → IsBroughtTo f l (local m) → IsFlood t f l now (met m s)
flood_met t f l now s m i b =
    ⊎_elim
    (λ (h : (get_or s.marked m true ≡ true) × (met m s ≡ s)). subst (IsFlood t f l now) (sym h.1) i)
    (λ (h : (get_or s.marked m true ≡ false) × (met m s ≡ met_new m s)). subst (IsFlood t f l now) (sym h.1) (flood_new t f l now s m i b h.0))
    (met_is m s)

-- a base is met
flood_column : (t : BasesState) (f : FuncState) (l : ℕ) (now : Option ℕ) (s : FloodState) (c : ℕ) (q : Root) → IsFlood t f l now s → slice_get t.columns c ≡ Some q → HasBase f (local l) (base_of q) → IsFlood t f l now (met_column c s)
flood_column t f l now s c q i at base = record {
  reached = i.reached;
  bits = λ d h. ⊎_elim (λ (e : d ≡ c). (q, ap (slice_get t.columns) e ∙ at, base)) (λ (n : d ≡ c → ⊥). i.bits d (sym (get_or-set_other s.row.bits c d true false n) ∙ h)) (cases_eq d c);
  argument = i.argument;
  outer = i.outer;
  done = λ x h. done_stays t f s (met_column c s) now x (grows_column c s) (λ (c : Contains s.todo x). c) (i.done x h);
  listed = i.listed;
  start = i.start;
  count = i.count;
  columns = length-set s.row.bits c true ∙ i.columns;
}

flood_outer : (t : BasesState) (f : FuncState) (l : ℕ) (now : Option ℕ) (s : FloodState) → IsFlood t f l now s → IsOuter f (local l) → IsFlood t f l now (met_outer s)
flood_outer t f l now s i o = record {
  reached = i.reached;
  bits = i.bits;
  argument = i.argument;
  outer = λ h. o;
  done = λ x h. done_stays t f s (met_outer s) now x (grows_outer s) (λ (c : Contains s.todo x). c) (i.done x h);
  listed = i.listed;
  start = i.start;
  count = i.count;
  columns = i.columns;
}

flood_argument : (t : BasesState) (f : FuncState) (l : ℕ) (now : Option ℕ) (s : FloodState) → IsFlood t f l now s → HasArgument f (local l) → IsFlood t f l now (met_argument s)
flood_argument t f l now s i a = record {
  reached = i.reached;
  bits = i.bits;
  argument = λ h. a;
  outer = λ h. (ArgumentBase a.0, a.1, tt);
  done = λ x h. done_stays t f s (met_argument s) now x (grows_argument s) (λ (c : Contains s.todo x). c) (i.done x h);
  listed = i.listed;
  start = i.start;
  count = i.count;
  columns = i.columns;
}

flood_global : (t : BasesState) (f : FuncState) (l : ℕ) (now : Option ℕ) (s : FloodState) (g : GlobalNo) (o : Option ℕ) → global_column t g ≡ o → IsFlood t f l now s → HasBase f (local l) (ObjectBase g) → IsFlood t f l now (met_global o s)
flood_global t f l now s g None e i base = flood_outer t f l now s i (ObjectBase g, base, tt)
flood_global t f l now s g (Some c) e i base = flood_outer t f l now (met_column c s) (flood_column t f l now s c (Global g) i (at_column t g c e) base) (ObjectBase g, base, tt)

flood_took : (t : BasesState) (f : FuncState) (l : ℕ) (now : Option ℕ) (s : FloodState) (p : Root) → IsFlood t f l now s → IsBroughtTo f l p → IsFlood t f l now (took t p s)
flood_took t f l now s (Local m) i b = flood_met t f l now s m.0 i b
flood_took t f l now s (Global g) i b = flood_global t f l now s g (global_column t g) refl i (b.0, Global g, b.1, refl)

flood_all : (t : BasesState) (f : FuncState) (l : ℕ) (now : Option ℕ) (ps : List Root) (s : FloodState) → IsFlood t f l now s → ((r : Root) → Contains ps r → IsBroughtTo f l r) → IsFlood t f l now (took_all t ps s)
flood_all t f l now [] s i h = i
flood_all t f l now (p ∷ ps) s i h =
    flood_all t f l now ps (took t p s) (flood_took t f l now s p i (h p (zero, (omega arith), refl))) (λ r c. h r (suc c.0, (let lt = c.1 in omega (arith, lt)), c.2))

flood_owned : (t : BasesState) (f : FuncState) (l : ℕ) (now : Option ℕ) (s : FloodState) (m : LocalNo) (u : Set) → IsFor t f m u → IsFlood t f l now s → IsBroughtTo f l (Local m) → IsFlood t f l now (owned u s)
flood_owned t f l now s m Nothing h i b = i
flood_owned t f l now s m Argument h i b = flood_argument t f l now s i (m, (b.0, Local m, b.1, inr (h.1, refl)))
flood_owned t f l now s m (Alloca c) h i b = flood_column t f l now s c (Local m) i h.0 (b.0, Local m, b.1, inl (h.1, refl))
flood_owned t f l now s m (Object g) h i b = i
flood_owned t f l now s m (Brought k) h i b = i

all_taken : (t : BasesState) (ps : List Root) (s : FloodState) → length s.row.bits ≡ length t.columns → (r : Root) → Contains ps r → IsTaken t r (took_all t ps s)
all_taken t [] s len r c = absurd (let lt = c.1 in omega (arith, lt))
all_taken t (p ∷ ps) s len r (zero, lt, e) =
    let here : IsTaken t p (took t p s) = took_taken t p s len in
    taken_grows t r (took t p s) (took_all t ps (took t p s)) (grows_all t ps (took t p s)) (subst (λ q. IsTaken t q (took t p s)) e here)
all_taken t (p ∷ ps) s len r (suc k, lt, e) =
    let g = grows_took t p s in
    all_taken t ps (took t p s) (g.columns ∙ len) r (k, (omega arith), e)

-- a local was visited
pub flood_visited : (t : BasesState) (f : FuncState) (l m : ℕ) (s : FloodState) → HasRoom t f → IsFlood t f l (Some m) s → IsMarked s m → IsFlood t f l None (visited t f m s)
flood_visited t f l m s room i marked =
    let b = i.reached m marked in
    let u = set_of t (local m) in
    let kind = room.sets (record { 0 = m }) in
    let one = owned u s in
    let i1 = flood_owned t f l (Some m) s (record { 0 = m }) u kind i b in
    let i2 = flood_all t f l (Some m) (leads_of f (local m)) one i1 (λ r c. (suc b.0, brought_more f b.0 (local l) (local m) r b.1 c)) in
    let two = took_all t (leads_of f (local m)) one in
    let done : IsDone t f m two = record {
      own = owned_grows u one two (grows_all t (leads_of f (local m)) one) (owned_is t f (record { 0 = m }) u s kind i.columns);
      leads = all_taken t (leads_of f (local m)) one i1.columns;
    } in
    record {
      reached = i2.reached;
      bits = i2.bits;
      argument = i2.argument;
      outer = i2.outer;
      done = λ x h. inr (⊎_elim (λ (e : Some m ≡ Some x). let same : m ≡ x = cc in inr (subst (λ k. IsDone t f k two) same done)) (λ (r : Contains two.todo x ⊎ IsDone t f x two). r) (i2.done x h));
      listed = i2.listed;
      start = i2.start;
      count = i2.count;
      columns = i2.columns;
    }

-- a local is taken up
pub flood_next : (t : BasesState) (f : FuncState) (l m : ℕ) (s : FloodState) → IsFlood t f l None (record s { todo = s.todo ++ m ∷ [] }) → IsFlood t f l (Some m) s × IsMarked s m
flood_next t f l m s i = (
  record {
    reached = i.reached;
    bits = i.bits;
    argument = i.argument;
    outer = i.outer;
    done = λ x h. ⊎_elim (λ (e : None ≡ Some x). absurd (cc)) (λ (r : Contains (s.todo ++ m ∷ []) x ⊎ IsDone t f x (record s { todo = s.todo ++ m ∷ [] })). later x r) (i.done x h);
    listed = λ x h. i.listed x (Contains-append_left s.todo (m ∷ []) x h);
    start = i.start;
    count = i.count;
    columns = i.columns;
  },
  i.listed m (Contains-push s.todo m),
) where
  later : (x : ℕ) → Contains (s.todo ++ m ∷ []) x ⊎ IsDone t f x (record s { todo = s.todo ++ m ∷ [] }) → (Some m ≡ Some x) ⊎ (Contains s.todo x ⊎ IsDone t f x s)
  later x (inl c) = ⊎_elim (λ (h : Contains s.todo x). inr (inl h)) (λ (e : m ≡ x). inl (ap Some e)) (Contains-push_cases s.todo m x c)
  later x (inr d) = inr (inr (done_grows t f x (record s { todo = s.todo ++ m ∷ [] }) s (record { marks = λ y h. h; count = refl; bits = λ c h. h; columns = refl; argument = λ h. h; outer = λ h. h }) d))

-- the search begins at l
pub flood_starts : (t : BasesState) (f : FuncState) (l : ℕ) → l < length t.sets → IsFlood t f l None (met l (flood_begun (length t.sets) (length t.columns)))
flood_starts t f l lt =
    let count = length t.sets in
    let columns = length t.columns in
    let begun = flood_begun count columns in
    let no_mark : get_or begun.marked l true ≡ false = unmarked count l lt in
    subst (IsFlood t f l None) (sym (cond-false (get_or begun.marked l true) begun (met_new l begun) no_mark)) (record {
      reached = λ x h. ⊎_elim (λ (e : x ≡ l). (zero, ap local (sym e))) (λ (n : x ≡ l → ⊥). absurd (both_ways (get_or begun.marked x false) (get_or-replicate count x) (sym (get_or-set_other begun.marked l x true false n) ∙ h))) (cases_eq x l);
      bits = λ c h. absurd (both_ways (get_or begun.row.bits c false) (get_or-replicate columns c) h);
      argument = λ h. absurd (false≢true h);
      outer = λ h. absurd (false≢true h);
      done = λ x h. ⊎_elim (λ (e : x ≡ l). inr (inl (zero, (omega arith), sym e))) (λ (n : x ≡ l → ⊥). absurd (both_ways (get_or begun.marked x false) (get_or-replicate count x) (sym (get_or-set_other begun.marked l x true false n) ∙ h))) (cases_eq x l);
      listed = λ x h. ⊎_elim (λ (c : Contains [] x). absurd (let low = c.1 in omega (arith, low))) (λ (e : l ≡ x). subst (λ k. get_or (set begun.marked l true) k false ≡ true) e (get_or-set_same begun.marked l true false (let k = length-replicate count false in omega arith))) (Contains-push_cases [] l x h);
      start = get_or-set_same begun.marked l true false (let k = length-replicate count false in omega arith);
      count = length-set begun.marked l true ∙ length-replicate count false;
      columns = length-replicate columns false;
    }) where
      unmarked : (n k : ℕ) → k < n → get_or (replicate n false) k true ≡ false
      unmarked zero k h = absurd (omega arith)
      unmarked (suc n) zero h = refl
      unmarked (suc n) (suc k) h = unmarked n k (omega arith)

pub all_done : (t : BasesState) (f : FuncState) (l : ℕ) (s : FloodState) → IsFlood t f l None s → s.todo ≡ [] → (x : ℕ) → IsMarked s x → IsDone t f x s
all_done t f l s i none x h =
    ⊎_elim
    (λ (e : None ≡ Some x). absurd (cc))
    (⊎_elim (λ (c : Contains s.todo x). absurd (let c' = subst (λ ys. Contains ys x) none c in let lt = c'.1 in omega (arith, lt))) (λ (d : IsDone t f x s). d))
    (i.done x h)

-- when nothing is left to visit, each chain from l was met
chain_taken : (t : BasesState) (f : FuncState) (l : ℕ) (s : FloodState) → HasRoom t f → IsFlood t f l None s → s.todo ≡ [] → (n : ℕ) (p q : Root) → IsTaken t p s → IsBrought f n p q → IsTaken t q s
chain_taken t f l s room i none zero p q h b = subst (λ r. IsTaken t r s) b h
chain_taken t f l s room i none (suc n) (Global g) q h b = absurd (let c = b.1 in let lt = c.1 in omega (arith, lt))
chain_taken t f l s room i none (suc n) (Local y) q h b =
    ⊎_elim
    (λ (lt : y.0 < length s.marked).
    let d = all_done t f l s i none y.0 (h lt) in
    chain_taken t f l s room i none n b.0 q (d.leads b.0 b.1) b.2)
    (λ (ge : length s.marked ≤ y.0).
    let nothing = no_leads y (let k = i.count in omega arith) in
    absurd (let c = subst (λ ps. Contains ps b.0) nothing b.1 in let lt = c.1 in omega (arith, lt)))
    (cases_lt y.0 (length s.marked)) where
      no_leads : (y : LocalNo) → length t.sets ≤ y.0 → leads_of f (Local y) ≡ []
      no_leads y ge =
          let set : set_of t (Local y) ≡ Nothing = get_or_past t.sets y.0 Nothing ge in
          ap leads_in (subst (IsFor t f y) set (room.sets y)).0

-- what the pointer at the end of a chain is was noted
end_taken : (t : BasesState) (f : FuncState) (l : ℕ) (s : FloodState) → HasRoom t f → IsFlood t f l None s → s.todo ≡ [] → (q : Root) → IsBroughtTo f l q → IsTaken t q s
end_taken t f l s room i none q b = chain_taken t f l s room i none b.0 (local l) q (λ lt. i.start) b.1

-- the place of a base of a local that was met
own_of : (t : BasesState) (f : FuncState) (l : ℕ) (s : FloodState) → HasRoom t f → IsFlood t f l None s → s.todo ≡ [] → (y : LocalNo) → IsBroughtTo f l (Local y) → (y.0 < length t.sets) → IsOwned (set_of t (Local y)) s
own_of t f l s room i none y b lt =
    let marked = end_taken t f l s room i none (Local y) b (let k = i.count in omega arith) in
    (all_done t f l s i none y.0 marked).own

set_within : (t : BasesState) (y : LocalNo) (u : Set) → set_of t (Local y) ≡ u → (u ≡ Nothing → ⊥) → y.0 < length t.sets
set_within t y u e ne = ⊎_elim (λ (lt : y.0 < length t.sets). lt) (λ (ge : length t.sets ≤ y.0). absurd (ne (sym e ∙ get_or_past t.sets y.0 Nothing ge))) (cases_lt y.0 (length t.sets))

-- the set of an alloca, and of an argument
pub alloca_set : (t : BasesState) (f : FuncState) → HasRoom t f → (y : LocalNo) → IsAllocaLocal f y → (c : ℕ) × (set_of t (Local y) ≡ Alloca c) × (slice_get t.columns c ≡ Some (Local y))
alloca_set t f room y h = split (set_of t (Local y)) refl (room.sets y) where
  split : (u : Set) → set_of t (Local y) ≡ u → IsFor t f y u → (c : ℕ) × (set_of t (Local y) ≡ Alloca c) × (slice_get t.columns c ≡ Some (Local y))
  split Nothing e k = absurd (let both : None ≡ Some h.0 = sym k.0 ∙ h.1 in cc)
  split Argument e k = absurd (let both : None ≡ Some h.0 = sym k.0 ∙ h.1 in cc)
  split (Alloca c) e k = (c, e, k.0)
  split (Object g) e k = absurd k
  split (Brought n) e k =
      let m = k.2 in
      let both : Some m.0 ≡ Some h.0 = sym m.1 ∙ h.1 in
      let one : m.0 ≡ h.0 = cc in
      absurd (both_ways (is_alloca m.0.inst) m.2 (ap (λ (z : Maker). is_alloca z.inst) one ∙ h.2))

pub argument_set : (t : BasesState) (f : FuncState) → HasRoom t f → (y : LocalNo) → IsArgument f y → set_of t (Local y) ≡ Argument
argument_set t f room y h = split (set_of t (Local y)) refl (room.sets y) where
  split : (u : Set) → set_of t (Local y) ≡ u → IsFor t f y u → set_of t (Local y) ≡ Argument
  split Nothing e k = absurd (k.1 h)
  split Argument e k = e
  split (Alloca c) e k = absurd (k.2 h)
  split (Object g) e k = absurd k
  split (Brought n) e k = absurd (k.3 h)

last_lead : (f : FuncState) (n : ℕ) (l : ℕ) (p : Root) (g : GlobalNo) → IsBrought f n p (Global g) → (p ≡ Global g) ⊎ ((r : Root) × Contains (leads_of f r) (Global g))
last_lead f zero l p g b = inl b
last_lead f (suc n) l p g b =
    ⊎_elim
    (λ (e : b.0 ≡ Global g). inr (p, subst (Contains (leads_of f p)) e b.1))
    (λ (r : (r : Root) × Contains (leads_of f r) (Global g)). inr r)
    (last_lead f n l b.0 g b.2)

-- a base in a column was marked
base_marked : (t : BasesState) (f : FuncState) (l : ℕ) (s : FloodState) → HasRoom t f → IsFlood t f l None s → s.todo ≡ [] → (q r : Root) → IsBroughtTo f l r → IsNamed f r (base_of q) → (c : ℕ) × IsColumn t q c × HasBit s c
base_marked t f l s room i none (Local a) (Local y) b (inl h) =
    let is : a ≡ y = (let e = h.1 in cc) in
    let set = alloca_set t f room y h.0 in
    let own = own_of t f l s room i none y b (set_within t y (Alloca set.0) set.1 (λ e. cc)) in
    (set.0, (let P : LocalNo → Type 0 = λ z. IsColumn t (Local z) set.0 in subst P (sym is) set.1), subst (λ u. IsOwned u s) set.1 own)
base_marked t f l s room i none (Local a) (Local y) b (inr h) = absurd (let e = h.1 in cc)
base_marked t f l s room i none (Local a) (Global g) b h = absurd (let e : AllocaBase a ≡ ObjectBase g = h in cc)
base_marked t f l s room i none (Global n) (Local y) b (inl h) = absurd (let e = h.1 in cc)
base_marked t f l s room i none (Global n) (Local y) b (inr h) = absurd (let e = h.1 in cc)
base_marked t f l s room i none (Global n) (Global g) b h =
    let e : ObjectBase n ≡ ObjectBase g = h in
    let is : n ≡ g = cc in
    ⊎_elim
    (λ (same : local l ≡ Global g). absurd (cc))
    (λ (r : (r : Root) × Contains (leads_of f r) (Global g)).
    let column = room.globals r.0 g r.1 in
    let taken = end_taken t f l s room i none (Global g) b in
    (column.0, ap (global_column t) is ∙ column.1, taken.1 column.0 column.1))
    (last_lead f b.0 l (local l) g b.1)

argument_marked : (t : BasesState) (f : FuncState) (l : ℕ) (s : FloodState) → HasRoom t f → IsFlood t f l None s → s.todo ≡ [] → (a : LocalNo) (r : Root) → IsBroughtTo f l r → IsNamed f r (ArgumentBase a) → s.row.argument ≡ true
argument_marked t f l s room i none a (Local y) b (inl h) = absurd (let e = h.1 in cc)
argument_marked t f l s room i none a (Local y) b (inr h) =
    let set = argument_set t f room y h.0 in
    (subst (λ u. IsOwned u s) set (own_of t f l s room i none y b (set_within t y Argument set (λ e. cc)))).0
argument_marked t f l s room i none a (Global g) b h = absurd (let e : ArgumentBase a ≡ ObjectBase g = h in cc)

outer_marked : (t : BasesState) (f : FuncState) (l : ℕ) (s : FloodState) → HasRoom t f → IsFlood t f l None s → s.todo ≡ [] → (c : Base) (r : Root) → IsBroughtTo f l r → IsNamed f r c → IsOuterBase c → s.row.outer ≡ true
outer_marked t f l s room i none c (Local y) b (inl h) o = absurd (subst IsOuterBase h.1 o)
outer_marked t f l s room i none c (Local y) b (inr h) o =
    let set = argument_set t f room y h.0 in
    (subst (λ u. IsOwned u s) set (own_of t f l s room i none y b (set_within t y Argument set (λ e. cc)))).1
outer_marked t f l s room i none c (Global g) b h o = (end_taken t f l s room i none (Global g) b).0

-- when nothing is left to visit the row tells the bases
pub flood_row : (t : BasesState) (f : FuncState) (l : ℕ) (s : FloodState) → HasRoom t f → IsFlood t f l None s → s.todo ≡ [] → IsRow t f (local l) s.row
flood_row t f l s room i none = record {
  sound = i.bits;
  complete = λ q h. base_marked t f l s room i none q h.1 (h.0, h.2) h.3;
  argument = (i.argument, λ h. let b = h.1 in argument_marked t f l s room i none h.0 b.1 (b.0, b.2) b.3);
  outer = (i.outer, λ h. let b = h.1 in outer_marked t f l s room i none h.0 b.1 (b.0, b.2) b.3 h.2);
}

-- a visit makes what is left to do less
work_new : (m : ℕ) (s : FloodState) → get_or s.marked m true ≡ false → 2 * unseen (met_new m s).marked + length (met_new m s).todo + 1 ≡ 2 * unseen s.marked + length s.todo
work_new m s e =
    let lt = new_within s.marked m e in
    let fall = unseen-set s.marked m lt (other_default s.marked m false lt e) in
    let grow : length (s.todo ++ m ∷ []) ≡ length s.todo + 1 = length-append s.todo (m ∷ []) in
    omega arith

abbrev pub work : FloodState → ℕ
work s = 2 * unseen s.marked + length s.todo

work_met : (m : ℕ) (s : FloodState) → work (met m s) ≤ work s
work_met m s =
    ⊎_elim
    (λ (h : (get_or s.marked m true ≡ true) × (met m s ≡ s)). subst (λ u. work u ≤ work s) (sym h.1) (omega arith))
    (λ (h : (get_or s.marked m true ≡ false) × (met m s ≡ met_new m s)). subst (λ u. work u ≤ work s) (sym h.1) (let w = work_new m s h.0 in omega arith))
    (met_is m s)

work_global : (o : Option ℕ) (s : FloodState) → work (met_global o s) ≤ work s
work_global None s = omega arith
work_global (Some c) s = omega arith

work_took : (t : BasesState) (p : Root) (s : FloodState) → work (took t p s) ≤ work s
work_took t (Local m) s = work_met m.0 s
work_took t (Global g) s = work_global (global_column t g) s

work_all : (t : BasesState) (ps : List Root) (s : FloodState) → work (took_all t ps s) ≤ work s
work_all t [] s = omega arith
work_all t (p ∷ ps) s = let a = work_all t ps (took t p s) in let b = work_took t p s in omega arith

work_owned : (u : Set) (s : FloodState) → work (owned u s) ≤ work s
work_owned Argument s = omega arith
work_owned (Alloca c) s = omega arith
work_owned u s = omega arith

pub work_visited : (t : BasesState) (f : FuncState) (m : ℕ) (s : FloodState) → work (visited t f m s) ≤ work s
work_visited t f m s =
    let one = owned (set_of t (local m)) s in
    let a = work_all t (leads_of f (local m)) one in
    let b = work_owned (set_of t (local m)) s in
    omega arith
