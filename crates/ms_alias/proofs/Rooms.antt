-- Room for the bases of a function's pointers.
use Rattle.std.proofs.Common.{◌≡◌, ◌<◌, ◌≤◌, ◌+◌, ℕ, zero, suc, Bool, true, false, cond, ltb, List, [], ◌∷◌, ◌++◌, Option, Some, None, length, get_or, take, map, refl, sym, ap, ◌∙◌, subst, ⊎_elim, append_assoc, arith}
use Rattle.std.specs.Prelude.{option_map, slice_get, position, Contains, is_some}
use Rattle.std.proofs.lemmas.Bool.{cases_eq, cases_lt, cases_Bool, cond-true, lt-ltb, false≢true}
use Rattle.std.proofs.lemmas.Option.{slice_get_within}
use Rattle.std.proofs.lemmas.List.{take_more, length-append, get_or_append_left, get_or_past}
use Rattle.std.proofs.Math.Seq.{get_or-append_seam}
use Rattle.std.proofs.lemmas.List.Quantifiers.{position-Some}
use Rattle.std.proofs.lemmas.List.Sums.{position_or_len_is}
use Rattle.std.proofs.lemmas.List.Elements.{Contains-append_cases}
use Rattle.ms_ir.specs.declared.names.LocalNo.{LocalNo}
use Rattle.ms_ir.specs.declared.names.GlobalNo.{GlobalNo}
use Rattle.ms_ir.specs.declared.inst.Val.{Val}
use Rattle.ms_ir.specs.declared.inst.Entry.{Entry}
use Rattle.ms_ir.specs.declared.inst.Inst.{Inst}
use Rattle.ms_ir.specs.Func.{FuncState}
use Rattle.ms_ir.specs.Locals.{IsNumbered}
use Rattle.ms_alias.specs.declared.loc.Root.{Root}
use Rattle.ms_alias.specs.declared.loc.Root.TheVariants.{Local, Global}
use Rattle.ms_alias.specs.declared.sets.Set.{Set}
use Rattle.ms_alias.specs.declared.sets.Set.TheVariants.{Nothing, Argument, Alloca, Object, Brought}
use Rattle.ms_alias.specs.Roots.{Maker, maker_of, is_alloca, pointer_of}
use Rattle.ms_alias.specs.Bases.{IsArgument, pointers_in, with_pointer, leads_of, leads_in}
use Rattle.ms_alias.specs.Tables.{BasesState, set_of, row_of, same_root, global_column, IsFor, HasRoom}
use Rattle.ms_alias.specs.Building.{AreKinds, HaveFirst, HaveGlobals, HaveRows, IsKindAt, IsKindIn, IsLonger, row_len, IsBeyond}
use Rattle.ms_alias.proofs.Makers.{cases_Option, maker_in_blocks, giver_from}
use Rattle.ms_alias.proofs.Reaching.{root_same}

-- an instruction makes the local
pub maker_found_as : (o : Option Maker) (inst : Inst) → Some inst ≡ option_map (λ m. m.inst) o → (m : Maker) × (o ≡ Some m) × (m.inst ≡ inst)
maker_found_as None inst e = cc
maker_found_as (Some m) inst e = let same : m.inst ≡ inst = cc in (m, refl, same)

-- what an instruction makes is no argument
pub made_no_argument : (f : FuncState) → IsNumbered f → (l : LocalNo) (m : Maker) → maker_of f l ≡ Some m → IsArgument f l → ⊥
made_no_argument f n l m e h =
    let there = maker_in_blocks 0 f.blocks l m e in
    let range = n.result_range l there.0 there.1 there.2 (record { found = there.4; gives = giver_from l there.2 there.5 }) in
    let below = slice_get_within f.params l.0 h.0 h.1 in
    let r0 = range.0 in
    omega (arith, below)

pub kind_alloca : (f : FuncState) → IsNumbered f → (l : LocalNo) (inst : Inst) (column : ℕ) → Some inst ≡ option_map (λ m. m.inst) (maker_of f l) → is_alloca inst ≡ true → IsKindAt column f l (Alloca column)
kind_alloca f n l inst column e a = let m = maker_found_as (maker_of f l) inst e in (refl, (m.0, m.1, ap is_alloca m.2 ∙ a), made_no_argument f n l m.0 m.1)

pub kind_brought : (f : FuncState) → IsNumbered f → (l : LocalNo) (inst : Inst) (column : ℕ) → Some inst ≡ option_map (λ m. m.inst) (maker_of f l) → is_alloca inst ≡ false → IsKindAt column f l (Brought l.0)
kind_brought f n l inst column e a = let m = maker_found_as (maker_of f l) inst e in (refl, (m.0, m.1, ap is_alloca m.2 ∙ a), made_no_argument f n l m.0 m.1)

-- the first place of what passes
first_of : {A : Type 0} (p : A → Bool) (xs : List A) (d : A) (c : ℕ) → c < length xs → p (get_or xs c d) ≡ true → (i : ℕ) × (i < length xs) × (p (get_or xs i d) ≡ true) × ((k : ℕ) → k < i → p (get_or xs k d) ≡ false)
first_of p [] d c h t = absurd (omega arith)
first_of p (x ∷ xs) d zero h t = (zero, (omega arith), t, λ k lt. absurd (omega arith))
first_of p (x ∷ xs) d (suc c) h t =
    ⊎_elim
    (λ (here : p x ≡ true). (zero, (omega arith), here, λ k lt. absurd (omega arith)))
    (λ (not_here : p x ≡ false).
    let rest = first_of p xs d c (omega arith) t in
    (suc rest.0, (let lt = rest.1 in omega (arith, lt)), rest.2, before rest.0 rest.3 not_here))
    (cases_Bool (p x)) where
      before : (i : ℕ) → ((k : ℕ) → k < i → p (get_or xs k d) ≡ false) → p x ≡ false → (k : ℕ) → k < suc i → p (get_or (x ∷ xs) k d) ≡ false
      before i all n zero lt = n
      before i all n (suc k) lt = all k (omega arith)

placed : {A : Type 0} (p : A → Bool) (xs : List A) (d : A) (c : ℕ) → c < length xs → p (get_or xs c d) ≡ true → (i : ℕ) × (position p xs ≡ Some i)
placed p xs d c h t =
    let i = first_of p xs d c h t in
    let at = position_or_len_is p xs i.0 d (let lt = i.1 in omega (arith, lt)) i.3 (λ _. i.2) in
    let some : position p xs ≡ (cond (ltb i.0 (length xs)) (Some i.0) None) = ap (λ n. cond (ltb n (length xs)) (Some n) None) at in
    (i.0, some ∙ cond-true (ltb i.0 (length xs)) (Some i.0) None (lt-ltb i.0 (length xs) i.1))

-- a global's column stays when more columns come
column_stays : (old more : List Root) (g : GlobalNo) → (c : ℕ) × (position (same_root (Global g)) old ≡ Some c) → (c : ℕ) × (position (same_root (Global g)) (old ++ more) ≡ Some c)
column_stays old more g h =
    let at = position-Some (same_root (Global g)) old h.0 (Global g) h.1 in
    let lt = at.0 in
    let len = length-append old more in
    placed (same_root (Global g)) (old ++ more) (Global g) h.0 (omega (arith, lt, len)) (ap (same_root (Global g)) (get_or_append_left old more (Global g) h.0 lt) ∙ at.1)

pub have_longer : (old new : List Root) (ps : List Root) → IsLonger old new → HaveGlobals old ps → HaveGlobals new ps
have_longer old new ps longer h g c =
    let s = column_stays old longer.0 g (h g c) in
    (s.0, ap (position (same_root (Global g))) longer.1 ∙ s.1)

pub longer_same : (xs : List Root) → IsLonger xs xs
longer_same xs = ([], sym (append-nil xs)) where
  append-nil : (ys : List Root) → ys ++ [] ≡ ys
  append-nil [] = refl
  append-nil (y ∷ ys) = ap (λ zs. y ∷ zs) (append-nil ys)

pub longer_on : (xs ys zs : List Root) → IsLonger xs ys → IsLonger ys zs → IsLonger xs zs
longer_on xs ys zs a b = (a.0 ++ b.0, b.1 ∙ ap (λ ws. ws ++ b.0) a.1 ∙ append_assoc xs a.0 b.0)

-- one global and its column
have_one : (columns : List Root) (g : GlobalNo) → (c : ℕ) × (position (same_root (Global g)) columns ≡ Some c) → HaveGlobals columns (Global g ∷ [])
have_one columns g h k (zero, lt, e) = let is : g ≡ k = cc in subst (λ n. (c : ℕ) × (position (same_root (Global n)) columns ≡ Some c)) is h
have_one columns g h k (suc n, lt, e) = absurd (omega arith)

pub have_val : (columns : List Root) (o : Option Root) (g : GlobalNo) → o ≡ Some (Global g) → (c : ℕ) × (position (same_root (Global g)) columns ≡ Some c) → HaveGlobals columns (with_pointer o [])
have_val columns o g e h = subst (λ (q : Option Root). HaveGlobals columns (with_pointer q [])) (sym e) (have_one columns g h)

pub have_pushed : (old new : List Root) (g : GlobalNo) → new ≡ old ++ Global g ∷ [] → (c : ℕ) × (position (same_root (Global g)) new ≡ Some c)
have_pushed old new g e =
    let len = length-append old (Global g ∷ []) in
    let h = placed (same_root (Global g)) (old ++ Global g ∷ []) (Global g) (length old) (omega (arith, len)) (ap (same_root (Global g)) (get_or-append_seam old (Global g) [] (Global g)) ∙ root_same (Global g)) in
    (h.0, ap (position (same_root (Global g))) e ∙ h.1)

pub have_some : (o : Option ℕ) → is_some o ≡ true → (c : ℕ) × (o ≡ Some c)
have_some None e = absurd (false≢true e)
have_some (Some c) e = (c, refl)

pub have_none : (columns : List Root) → HaveGlobals columns []
have_none columns g h = absurd (let lt = h.1 in omega (arith, lt))

have_append : (columns ps qs : List Root) → HaveGlobals columns ps → HaveGlobals columns qs → HaveGlobals columns (ps ++ qs)
have_append columns ps qs a b g c = ⊎_elim (λ (x : Contains ps (Global g)). a g x) (λ (y : Contains qs (Global g)). b g y) (Contains-append_cases ps qs (Global g) c)

with_front : (o : Option Root) (ps : List Root) → with_pointer o ps ≡ with_pointer o [] ++ ps
with_front None ps = refl
with_front (Some p) ps = refl

pub have_two : (one two : List Root) (a b : Val) → HaveGlobals one (with_pointer (pointer_of a) []) → IsLonger one two → HaveGlobals two (with_pointer (pointer_of b) []) → HaveGlobals two (pointers_in (a ∷ b ∷ []))
have_two one two a b ha longer hb =
    subst (HaveGlobals two) (sym (with_front (pointer_of a) (with_pointer (pointer_of b) [])))
    (have_append two (with_pointer (pointer_of a) []) (with_pointer (pointer_of b) []) (have_longer one two (with_pointer (pointer_of a) []) longer ha) hb)

pointers_append : (vs ws : List Val) → pointers_in (vs ++ ws) ≡ pointers_in vs ++ pointers_in ws
pointers_append [] ws = refl
pointers_append (v ∷ vs) ws = ap (with_pointer (pointer_of v)) (pointers_append vs ws) ∙ split (pointer_of v) where
  split : (o : Option Root) → with_pointer o (pointers_in vs ++ pointers_in ws) ≡ with_pointer o (pointers_in vs) ++ pointers_in ws
  split None = refl
  split (Some p) = refl

map_append : (f : Entry → Val) (xs ys : List Entry) → map f (xs ++ ys) ≡ map f xs ++ map f ys
map_append f [] ys = refl
map_append f (x ∷ xs) ys = ap (λ zs. f x ∷ zs) (map_append f xs ys)

abbrev pub entry_vals : List Entry → List Val
entry_vals es = map (λ (e : Entry). e.val) es

pub have_entry : (one two : List Root) (entries : List Entry) (k : ℕ) (e : Entry) → k < length entries → e ≡ get_or entries k e → HaveGlobals one (pointers_in (entry_vals (take k entries))) → IsLonger one two → HaveGlobals two (with_pointer (pointer_of e.val) [])
    → HaveGlobals two (pointers_in (entry_vals (take (k + 1) entries)))
have_entry one two entries k e lt is ha longer hb =
    let more : take (k + 1) entries ≡ take k entries ++ e ∷ [] = take_more entries k e lt ∙ ap (λ x. take k entries ++ x ∷ []) (sym is) in
    let vals : pointers_in (entry_vals (take (k + 1) entries)) ≡ pointers_in (entry_vals (take k entries)) ++ with_pointer (pointer_of e.val) [] = ap (λ es. pointers_in (entry_vals es)) more ∙ ap pointers_in (map_append (λ (x : Entry). x.val) (take k entries) (e ∷ [])) ∙ pointers_append (entry_vals (take k entries)) (e.val ∷ []) in
    subst (HaveGlobals two) (sym vals) (have_append two (pointers_in (entry_vals (take k entries))) (with_pointer (pointer_of e.val) []) (have_longer one two (pointers_in (entry_vals (take k entries))) longer ha) hb)

pub have_first : (f : FuncState) (l : ℕ) (one two : List Root) → HaveFirst f l one → IsLonger one two → HaveGlobals two (leads_of f (Local (record { 0 = l }))) → HaveFirst f (l + 1) two
have_first f l one two old longer new k h =
    ⊎_elim
    (λ (e : k ≡ l). let P : ℕ → Type 0 = λ j. HaveGlobals two (leads_of f (Local (record { 0 = j }))) in subst P (sym e) new)
    (λ (n : k ≡ l → ⊥). have_longer one two (leads_of f (Local (record { 0 = k }))) longer (old k (omega (arith, n))))
    (cases_eq k l)

slice_get_left : {A : Type 0} (xs ys : List A) (c : ℕ) (x : A) → slice_get xs c ≡ Some x → slice_get (xs ++ ys) c ≡ Some x
slice_get_left [] ys c x e = cc
slice_get_left (z ∷ xs) ys zero x e = e
slice_get_left (z ∷ xs) ys (suc c) x e = slice_get_left xs ys c x e

slice_get_seam : {A : Type 0} (xs : List A) (y : A) (c : ℕ) → c ≡ length xs → slice_get (xs ++ y ∷ []) c ≡ Some y
slice_get_seam {A = A} xs y c e = ap (slice_get (xs ++ y ∷ [])) e ∙ at xs where
  at : (ys : List A) → slice_get (ys ++ y ∷ []) (length ys) ≡ Some y
  at [] = refl
  at (z ∷ ys) = at ys

kind_longer : (f : FuncState) (l : LocalNo) (old more : List Root) (s : Set) → IsKindIn old f l s → IsKindIn (old ++ more) f l s
kind_longer f l old more Nothing h = h
kind_longer f l old more Argument h = h
kind_longer f l old more (Alloca c) h = (slice_get_left old more c (Local l) h.0, h.1, h.2)
kind_longer f l old more (Object g) h = h
kind_longer f l old more (Brought k) h = h

-- the set of one more local, for which no column comes
kind_here : (f : FuncState) (l : LocalNo) (columns : List Root) (column : ℕ) (s : Set) → IsKindAt column f l s → ((c : ℕ) → s ≡ Alloca c → ⊥) → IsKindIn columns f l s
kind_here f l columns column Nothing h n = h
kind_here f l columns column Argument h n = h
kind_here f l columns column (Alloca c) h n = absurd (n c refl)
kind_here f l columns column (Object g) h n = h
kind_here f l columns column (Brought k) h n = h

kinds_push : (f : FuncState) (l : ℕ) (columns : List Root) (sets : List Set) (s : Set) → AreKinds f l columns sets → IsKindIn columns f (record { 0 = l }) s → AreKinds f (l + 1) columns (sets ++ s ∷ [])
kinds_push f l columns sets s old new = record {
  len = (let n = length-append sets (s ∷ []) in let k = old.len in omega (arith, n, k));
  each = λ k h. ⊎_elim
      (λ (e : k ≡ l).
      let here : get_or (sets ++ s ∷ []) k Nothing ≡ s = ap (λ j. get_or (sets ++ s ∷ []) j Nothing) (e ∙ sym old.len) ∙ get_or-append_seam sets s [] Nothing in
      let P : ℕ → Set → Type 0 = λ j u. IsKindIn columns f (record { 0 = j }) u in
      subst (P k) (sym here) (subst (λ j. P j s) (sym e) new))
      (λ (n : k ≡ l → ⊥).
      let lt : k < length sets = (let size = old.len in omega (arith, n, size)) in
      subst (IsKindIn columns f (record { 0 = k })) (sym (get_or_append_left sets (s ∷ []) Nothing k lt)) (old.each k (omega (arith, n))))
      (cases_eq k l);
}

pub kinds_plain : (f : FuncState) (l column : ℕ) (columns : List Root) (sets sets' : List Set) (s : Set) → AreKinds f l columns sets → IsKindAt column f (record { 0 = l }) s → ((c : ℕ) → s ≡ Alloca c → ⊥) → sets' ≡ sets ++ s ∷ [] → AreKinds f (l + 1) columns sets'
kinds_plain f l column columns sets sets' s old h n e = subst (AreKinds f (l + 1) columns) (sym e) (kinds_push f l columns sets s old (kind_here f (record { 0 = l }) columns column s h n))

pub kinds_alloca : (f : FuncState) (l column c : ℕ) (columns columns' : List Root) (sets sets' : List Set) (s : Set) → AreKinds f l columns sets → IsKindAt column f (record { 0 = l }) s → s ≡ Alloca c → column ≡ length columns
    → columns' ≡ columns ++ Local (record { 0 = l }) ∷ [] → sets' ≡ sets ++ s ∷ [] → AreKinds f (l + 1) columns' sets'
kinds_alloca f l column c columns columns' sets sets' s old h is at e e' =
    let L : LocalNo = record { 0 = l } in
    let k = subst (IsKindAt column f L) is h in
    let new : IsKindIn (columns ++ Local L ∷ []) f L (Alloca c) = (slice_get_seam columns (Local L) c (k.0 ∙ at), k.1, k.2) in
    let longer : AreKinds f l (columns ++ Local L ∷ []) sets = record { len = old.len; each = λ j lt. kind_longer f (record { 0 = j }) columns (Local L ∷ []) (get_or sets j Nothing) (old.each j lt) } in
    subst (λ (xs : List Root). AreKinds f (l + 1) xs sets') (sym e) (subst (AreKinds f (l + 1) (columns ++ Local L ∷ [])) (sym e') (kinds_push f l (columns ++ Local L ∷ []) sets s longer (subst (IsKindIn (columns ++ Local L ∷ []) f L) (sym is) new)))

-- no local from the count on is made or an argument
pub none_beyond : (f : FuncState) → IsNumbered f → IsBeyond f f.locals
none_beyond f n l ge =
    ⊎_elim
    (λ (e : maker_of f l ≡ None). e)
    (λ (some : (m : Maker) × (maker_of f l ≡ Some m)).
    let there = maker_in_blocks 0 f.blocks l some.0 some.1 in
    let range = n.result_range l there.0 there.1 there.2 (record { found = there.4; gives = giver_from l there.2 there.5 }) in
    let lt = range.1 in
    absurd (omega (arith, lt)))
    (cases_Option (maker_of f l))

for_kind : (f : FuncState) (t : BasesState) (l : LocalNo) (old more : List Root) (s : Set) → t.columns ≡ old ++ more → IsKindIn old f l s → ((k : ℕ) → s ≡ Brought k → length (row_of t k).bits ≡ length t.columns) → IsFor t f l s
for_kind f t l old more Nothing e h rows = h
for_kind f t l old more Argument e h rows = h
for_kind f t l old more (Alloca c) e h rows = (ap (λ xs. slice_get xs c) e ∙ slice_get_left old more c (Local l) h.0, h.1, h.2)
for_kind f t l old more (Object g) e h rows = h
for_kind f t l old more (Brought k) e h rows = (h.0, rows k refl, h.1, h.2)

global_has : (g : GlobalNo) (k : GlobalNo) → Contains [] (Global k) → ⊥
global_has g k h = let lt = h.1 in omega (arith, lt)

room_sets : (f : FuncState) → IsNumbered f → (t : BasesState) (one : List Root) → AreKinds f f.locals one t.sets → IsLonger one t.columns → HaveRows t.sets (length t.columns) t.rows → (l : LocalNo) → IsFor t f l (set_of t (Local l))
room_sets f n t one kinds longer made l =
    ⊎_elim
    (λ (lt : l.0 < f.locals).
    for_kind f t l one longer.0 (set_of t (Local l)) longer.1 (kinds.each l.0 lt)
    (λ k e.
    let kind = subst (IsKindIn one f l) e (kinds.each l.0 lt) in
    let within : l.0 < length t.sets = (let size = kinds.len in omega (arith, size)) in
    let row : length (row_of t l.0).bits ≡ length t.columns = made.1 l.0 within ∙ ap (row_len (length t.columns)) e in
    ap (λ j. length (row_of t j).bits) kind.0 ∙ row))
    (λ (ge : f.locals ≤ l.0).
    let far : length t.sets ≤ l.0 = (let size = kinds.len in omega (arith, size)) in
    let none : (maker_of f l ≡ None) × (IsArgument f l → ⊥) = (none_beyond f n l ge, λ h. let below = slice_get_within f.params l.0 h.0 h.1 in let first = n.params_first in omega (arith, below)) in
    subst (IsFor t f l) (sym (get_or_past t.sets l.0 Nothing far)) none)
    (cases_lt l.0 f.locals)

room_globals : (f : FuncState) → IsNumbered f → (t : BasesState) → HaveFirst f f.locals t.columns → (p : Root) (g : GlobalNo) → Contains (leads_of f p) (Global g) → (c : ℕ) × (global_column t g ≡ Some c)
room_globals f n t globals (Global k) g h = absurd (global_has g g h)
room_globals f n t globals (Local l) g h =
    ⊎_elim
    (λ (lt : l.0 < f.locals). globals l.0 lt g h)
    (λ (ge : f.locals ≤ l.0). absurd (global_has g g (subst (λ ps. Contains ps (Global g)) (ap leads_in (none_beyond f n l ge)) h)))
    (cases_lt l.0 f.locals)

pub has_room : (f : FuncState) → IsNumbered f → (t : BasesState) (one : List Root) → AreKinds f f.locals one t.sets → IsLonger one t.columns → HaveFirst f f.locals t.columns → HaveRows t.sets (length t.columns) t.rows → HasRoom t f
has_room f n t one kinds longer globals made = record { rows = made.0; sets = room_sets f n t one kinds longer made; globals = room_globals f n t globals }

pub take_whole : (xs : List Entry) (k : ℕ) → length xs ≤ k → take k xs ≡ xs
take_whole [] zero h = refl
take_whole [] (suc k) h = refl
take_whole (x ∷ xs) zero h = absurd (omega arith)
take_whole (x ∷ xs) (suc k) h = ap (λ ys. x ∷ ys) (take_whole xs k (omega arith))
