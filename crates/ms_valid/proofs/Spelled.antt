-- A number that a line spells is below 2 to the number of its type's bits.
use Rattle.std.proofs.Common.{◌≡◌, ◌∙◌, ◌<◌, ◌^◌, ◌-◌, ℕ, zero, suc, Bool, true, false, List, [], ◌∷◌, ◌++◌, map, Some, None, refl, sym, ap, subst, ⊎_elim, arith}
use Rattle.std.specs.Prelude.{slice_get}
use Rattle.ms_lex.specs.declared.token.Token.{Token}
use Rattle.ms_ir.specs.declared.names.Ty.{Ty}
use Rattle.ms_grammar.specs.Numbers.{bits, no}
use Rattle.ms_grammar.specs.Kept.{Each, Index, IsStored, IndexItem, constant, term, AreItems}
use Rattle.ms_grammar.specs.Parts.{Part, blank, number, kept, woven, call_head, tail, Spells, SpellsPart}
use Rattle.ms_grammar.specs.Form.{Scale, form, value_part, arg_parts, entry_parts, further, listed, comma_parts, call_front, end_parts, word_part, type_part, inst_parts, index_text, term_parts, result_parts}
use Rattle.ms_grammar.specs.Fits.{IsLocal, AreTerms, FitsInst}
use Rattle.ms_grammar.specs.Grammar.{Says, kept_of}
use Rattle.ms_grammar.specs.declared.keyword.Keyword.TheVariants as word
use Rattle.ms_grammar.specs.declared.line.Line.{Line}
use Rattle.ms_grammar.specs.declared.line.Line.TheVariants as said
use Rattle.ms_grammar.specs.declared.line.RawVal.{RawVal}
use Rattle.ms_grammar.specs.declared.line.RawVal.TheVariants.{Num}
use Rattle.ms_grammar.specs.declared.line.RawIndex.{RawIndex}
use Rattle.ms_grammar.specs.declared.line.RawInst.{RawInst}
use Rattle.ms_grammar.specs.declared.line.RawInst.TheVariants.{Alloca, Gep, Step, Load, Store, Copy, Call, Bin, Cmp, Select, Cast, Phi}
use Rattle.ms_grammar.specs.declared.line.RawTerm.{RawTerm}
use Rattle.ms_grammar.specs.declared.line.RawTerm.TheVariants.{Br, CondBr, Ret, Unreachable}
use Rattle.ms_ir.specs.declared.names.Name.{Name}
use Rattle.ms_resolve.specs.Used.{values_of, term_values, arg_value, index_value, entry_value}
use Rattle.ms_resolve.specs.Faults.{IsIn}
use Rattle.ms_validity.proofs.ListLemmas.{in_nil, in_cons, in_left, in_right, get_map}
use Rattle.ms_reread.proofs.Tokens.{means_below}
use Rattle.ms_valid.proofs.Values.{IsStoredTerm, HasStoredTerms, IsLocalTerm, terms_local}

-- A part of a line is spelled.

spelled : (line : List ℕ) (parts : List Part) (tokens : List Token) (p : Part) → Spells line tokens parts → IsIn parts p → (run : List Token) × SpellsPart line run p
spelled line [] tokens p h i = absurd (in_nil p i)
spelled line (q ∷ parts) tokens p h i =
    ⊎_elim
    (λ (e : q ≡ p). (h.0, subst (λ (q : Part). SpellsPart line h.0 q) e h.3))
    (λ (r : IsIn parts p). spelled line parts h.1 p h.4 r)
    (in_cons q parts p i)

-- The numbers of a line are among its parts.

abbrev Have : List Part → List RawVal → Type 0
Have parts vs = (ty : Ty) (n : ℕ) → IsIn vs (Num ty n) → IsIn parts (number ty n)

none : (parts : List Part) → Have parts []
none parts ty n i = absurd (in_nil (Num ty n) i)

more : (parts : List Part) (w : RawVal) (vs : List RawVal) → IsIn parts (value_part w) → Have parts vs → Have parts (w ∷ vs)
more parts w vs h rest ty n i =
    ⊎_elim (λ (e : w ≡ Num ty n). subst (λ (x : RawVal). IsIn parts (value_part x)) e h) (λ (r : IsIn vs (Num ty n)). rest ty n r) (in_cons w vs (Num ty n) i)

one : (parts : List Part) (v : RawVal) (k : ℕ) → slice_get parts k ≡ Some (value_part v) → Have parts (v ∷ [])
one parts v k e = more parts v [] (k, e) (none parts)

two : (parts : List Part) (v w : RawVal) (k j : ℕ) → slice_get parts k ≡ Some (value_part v) → slice_get parts j ≡ Some (value_part w) → Have parts (v ∷ w ∷ [])
two parts v w k j e d = more parts v (w ∷ []) (k, e) (one parts w j d)

three : (parts : List Part) (v w x : RawVal) (k j i : ℕ) → slice_get parts k ≡ Some (value_part v) → slice_get parts j ≡ Some (value_part w) → slice_get parts i ≡ Some (value_part x) → Have parts (v ∷ w ∷ x ∷ [])
three parts v w x k j i e d c = more parts v (w ∷ x ∷ []) (k, e) (two parts w x j i d c)

past : (front parts : List Part) (vs : List RawVal) → Have parts vs → Have (front ++ parts) vs
past front parts vs h ty n i = in_right front parts (number ty n) (h ty n i)

before : (parts rest : List Part) (vs : List RawVal) → Have parts vs → Have (parts ++ rest) vs
before parts rest vs h ty n i = in_left parts rest (number ty n) (h ty n i)

-- lists of members, each with its value at a place
further_have : {X : Type 0} (parts_of : X → List Part) (value : X → RawVal) (k : ℕ) → ((x : X) → slice_get (parts_of x) k ≡ Some (value_part (value x))) → (xs : List X) → Have (further (map parts_of xs)) (map value xs)
further_have parts_of value k each [] = none []
further_have parts_of value k each (x ∷ xs) =
    past comma_parts (parts_of x ++ further (map parts_of xs)) (value x ∷ map value xs)
    (more (parts_of x ++ further (map parts_of xs)) (value x) (map value xs) (in_left (parts_of x) (further (map parts_of xs)) (value_part (value x)) (k, each x))
    (past (parts_of x) (further (map parts_of xs)) (map value xs) (further_have parts_of value k each xs)))

listed_have : {X : Type 0} (parts_of : X → List Part) (value : X → RawVal) (k : ℕ) → ((x : X) → slice_get (parts_of x) k ≡ Some (value_part (value x))) → (xs : List X) → Have (listed (map parts_of xs)) (map value xs)
listed_have parts_of value k each [] = none []
listed_have parts_of value k each (x ∷ xs) =
    more (parts_of x ++ further (map parts_of xs)) (value x) (map value xs) (in_left (parts_of x) (further (map parts_of xs)) (value_part (value x)) (k, each x))
    (past (parts_of x) (further (map parts_of xs)) (map value xs) (further_have parts_of value k each xs))

-- locals among indices are no numbers
each_at : {X : Type 0} (P : X → Type 0) (xs : List X) (k : ℕ) (x : X) → Each P xs → slice_get xs k ≡ Some x → P x
each_at P [] k x h e = cc
each_at P (y ∷ xs) zero x h e = let same : y ≡ x = cc in subst P same h.0
each_at P (y ∷ xs) (suc k) x h e = each_at P xs k x h.1 e

no_number : (parts : List Part) (sizes : List ℕ) (items : List IndexItem) (terms : List RawIndex) → AreTerms sizes items terms → Have parts (map index_value terms)
no_number parts sizes items terms h ty n i =
    let t = get_map index_value terms i.0 (Num ty n) i.1 in
    let here : IsLocal t.0.val = each_at IsLocalTerm terms i.0 t.0 (terms_local sizes items terms h) t.1 in
    absurd (subst IsLocal t.2 here)

inst_have : (scale : Scale) (i : RawInst) → FitsInst scale i → Have (inst_parts scale i) (values_of i)
inst_have scale (Alloca size head rest) h = none (inst_parts scale (Alloca size head rest))
inst_have scale (Gep base offset head index rest) h = one (inst_parts scale (Gep base offset head index rest)) base 7 refl
inst_have scale (Step base offset terms head index rest) h =
    let parts = inst_parts scale (Step base offset terms head index rest) in
    more parts base (map index_value terms) (7, refl) (no_number parts scale.sizes scale.items terms h.2)
inst_have scale (Load ty ptr rest) h = one (inst_parts scale (Load ty ptr rest)) ptr 7 refl
inst_have scale (Store ty val ptr rest) h = two (inst_parts scale (Store ty val ptr rest)) val ptr 4 9 refl refl
inst_have scale (Copy to from len head end rest) h = two (inst_parts scale (Copy to from len head end rest)) to.val from.val 7 13 refl refl
inst_have scale (Call callee ret args head end rest) h =
    let rest_parts : List Part = word_part word.Close ∷ end_parts end rest in
    past (call_front (call_head ret) head callee) (listed (map arg_parts args) ++ rest_parts) (map arg_value args)
    (before (listed (map arg_parts args)) rest_parts (map arg_value args) (listed_have arg_parts arg_value 3 (λ a. refl) args))
inst_have scale (Bin op flags ty a b rest) h = two (inst_parts scale (Bin op flags ty a b rest)) a b 8 11 refl refl
inst_have scale (Cmp pred flags ty a b rest) h = two (inst_parts scale (Cmp pred flags ty a b rest)) a b 7 10 refl refl
inst_have scale (Select c ty a b rest) h = three (inst_parts scale (Select c ty a b rest)) c a b 4 9 14 refl refl refl
inst_have scale (Cast op flags from a to rest) h = one (inst_parts scale (Cast op flags from a to rest)) a 7 refl
inst_have scale (Phi ty entries rest) h =
    let rest_parts : List Part = kept tail rest ∷ [] in
    past (word_part word.Phi ∷ blank ∷ type_part ty ∷ blank ∷ []) (listed (map entry_parts entries) ++ rest_parts) (map entry_value entries)
    (before (listed (map entry_parts entries)) rest_parts (map entry_value entries) (listed_have entry_parts entry_value 2 (λ e. refl) entries))

term_have : (t : RawTerm) → Have (term_parts t) (term_values t)
term_have (Br to rest) = none (term_parts (Br to rest))
term_have (CondBr c a b rest) = one (term_parts (CondBr c a b rest)) c 4 refl
term_have (Ret None rest) = none (term_parts (Ret None rest))
term_have (Ret (Some g) rest) = one (term_parts (Ret (Some g) rest)) g.1 4 refl
term_have (Unreachable rest) = none (term_parts (Unreachable rest))

-- the numbers of a line that is said
pub inst_number : (bytes : List ℕ) (n : Name) (i : RawInst) (h : Says bytes (said.Inst n i)) (ty : Ty) (k : ℕ) → IsIn (values_of i) (Num ty k) → k < 2 ^ bits ty
inst_number bytes n i h ty k among =
    let have = inst_have h.scale i h.fits.1 ty k among in
    let there = in_right (blank ∷ blank ∷ result_parts n) (inst_parts h.scale i) (number ty k) have in
    let w = spelled bytes (form h.scale (said.Inst n i)) h.tokens (number ty k) h.spelled there in
    means_below ty k w.1.0 w.1.2

pub term_number : (bytes : List ℕ) (t : RawTerm) (h : Says bytes (said.Term t)) (ty : Ty) (k : ℕ) → IsIn (term_values t) (Num ty k) → k < 2 ^ bits ty
term_number bytes t h ty k among =
    let have = term_have t ty k among in
    let there = in_right (blank ∷ blank ∷ []) (term_parts t) (number ty k) have in
    let w = spelled bytes (form h.scale (said.Term t)) h.tokens (number ty k) h.spelled there in
    means_below ty k w.1.0 w.1.2

-- the locals among the indices of a line that is said
stored_terms : (sizes : List ℕ) (indices : List Index) (items : List IndexItem) (terms : List RawIndex) → AreItems indices items (map index_text terms) → AreTerms sizes items terms → Each IsStoredTerm terms
stored_terms sizes indices [] terms a h = subst (λ (ts : List RawIndex). Each IsStoredTerm ts) (sym h) tt
stored_terms [] indices (item ∷ items) terms a h = absurd h
stored_terms (size ∷ sizes) [] (item ∷ items) terms a h = absurd a
stored_terms (size ∷ sizes) (i ∷ indices) (constant v ∷ items) terms a h = stored_terms sizes indices items terms a.1 h
stored_terms (size ∷ sizes) (i ∷ indices) (term ty ∷ items) [] a h = absurd h
stored_terms (size ∷ sizes) (i ∷ indices) (term ty ∷ items) (t ∷ terms) a h = (subst IsStored (sym h.0.0) a.0.stored, stored_terms sizes indices items terms a.1 h.1)

pub inst_stored : (bytes : List ℕ) (n : Name) (i : RawInst) → Says bytes (said.Inst n i) → HasStoredTerms i
inst_stored bytes n (Step base offset terms head index rest) h =
    let i : RawInst = Step base offset terms head index rest in
    let p : Part = woven h.scale.items (map index_text terms) index in
    let there = in_right (blank ∷ blank ∷ result_parts n) (inst_parts h.scale i) p (10, refl) in
    let w = spelled bytes (form h.scale (said.Inst n i)) h.tokens p h.spelled there in
    stored_terms h.scale.sizes w.1.0.indices h.scale.items terms w.1.0.each h.fits.1.2
inst_stored bytes n (Alloca size head rest) h = tt
inst_stored bytes n (Gep base offset head index rest) h = tt
inst_stored bytes n (Load ty ptr rest) h = tt
inst_stored bytes n (Store ty val ptr rest) h = tt
inst_stored bytes n (Copy to from len head end rest) h = tt
inst_stored bytes n (Call callee ret args head end rest) h = tt
inst_stored bytes n (Bin op flags ty a b rest) h = tt
inst_stored bytes n (Cmp pred flags ty a b rest) h = tt
inst_stored bytes n (Select c ty a b rest) h = tt
inst_stored bytes n (Cast op flags from a to rest) h = tt
inst_stored bytes n (Phi ty entries rest) h = tt

-- a line of a function is kept as it is
abbrev pub is_inside : Line → Bool
is_inside (said.Inst n i) = true
is_inside (said.Term t) = true
is_inside (said.Define head) = true
is_inside (said.Label n) = true
is_inside _ = false

pub kept_same : (written line : Line) → line ≡ kept_of written → is_inside line ≡ true → written ≡ line
kept_same (said.Inst n i) line e t = sym e
kept_same (said.Term u) line e t = sym e
kept_same said.Empty line e t = sym e
kept_same said.Close line e t = sym e
kept_same (said.Kept text) line e t = sym e
kept_same (said.Group n text) line e t = sym e
kept_same (said.GlobalVar name text) line e t = sym e
kept_same (said.Label n) line e t = sym e
kept_same (said.Define head) line e t = sym e
kept_same (said.Declare head) line e t = let never : false ≡ true = ap is_inside (sym e) ∙ t in cc
