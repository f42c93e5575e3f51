-- Fronts that are cut off.
use Rattle.std.proofs.Common.{◌≡◌, ◌≢◌, ◌*◌, ℕ, ℤ, false, List, [], ◌∷◌, ◌++◌, Option, Some, None, map, length, refl, sym, ap, subst, ◌∙◌, arith, append_assoc}
use Rattle.std.specs.Prelude.{All, take}
use Rattle.ms_lex.specs.Line.{IsTokenOf}
use Rattle.ms_lex.specs.declared.token.Token.{Token}
use Rattle.ms_ir.specs.declared.names.Ty.{Ty}
use Rattle.ms_grammar.specs.Numbers.{bytes_of, magnitude}
use Rattle.ms_grammar.specs.Kept.{IsObject, object_tokens, object_sizes, times_first, Index, AreIndices, AreItems, index_tokens, IsIndexList, IndexItem, constant, AreWoven, AreMany, IsAttribute, IsCallMark, IsCallType}
use Rattle.ms_grammar.specs.Kept.IsCallMark.{plain, tail as before_tail, no_tail}
use Rattle.ms_grammar.specs.Scan.{Stops, IsMember, IsListMark}
use Rattle.ms_grammar.specs.Parts.{Part, kept, woven, tail, object, gep_head, indices, Spells, texts, bytes_at, kept_text, cut_text, joined}
use Rattle.ms_grammar.proofs.Objects.{object_stops}
use Rattle.ms_grammar.proofs.Both.{texts_append}
use Rattle.ms_grammar.proofs.Insts.{rest_tail}
use Rattle.ms_line_insts.specs.Front.{Spelt, Always}
use Rattle.ms_line_insts.specs.Cuts.{NoCut, SameCut, Cut, TypesObject, HasAttributes, HasIndices, HasTail, StopsAttributes, BeginsCall, TypesCallee, NamesCallee, StartsMember}

pub of_behind : (line : List ℕ) (rest vs : List Token) (ps : List Part) → rest ≡ vs → Spelt line rest ps → Spelt line vs ps
of_behind line rest vs ps e h = subst (λ r. Spelt line r ps) e h

-- runs of one length are the same
pub same_length : (us vs ps qs : List Token) → us ++ ps ≡ vs ++ qs → length us ≡ length vs → SameCut us vs ps qs
same_length [] [] ps qs e l = record { front = refl; behind = e }
same_length [] (v ∷ vs) ps qs e l = absurd (omega arith)
same_length (u ∷ us) [] ps qs e l = absurd (omega arith)
same_length (u ∷ us) (v ∷ vs) ps qs e l =
    let left : us ++ ps ≡ vs ++ qs = cc in
    let count : length us ≡ length vs = omega arith in
    let rest = same_length us vs ps qs left count in
    let first : u ≡ v = cc in
    record { front = ap (λ x. x ∷ us) first ∙ ap (λ xs. v ∷ xs) rest.front; behind = rest.behind }

pub cut_of : (Passes Next : List Token → Type 0) (line : List ℕ) (tokens us vs : List Token) (n : ℕ) → tokens ≡ us ++ vs → length us ≡ n → us ≡ take n tokens →
    All (IsTokenOf line) us → All (IsTokenOf line) vs → Passes (take n tokens) →
    ((run rest : List Token) → tokens ≡ run ++ rest → Passes run → Next rest → n ≡ length run) → Cut Passes Next line tokens us vs
cut_of Passes Next line tokens us vs n whole many front owned behind passes one = record {
  whole = whole;
  passes = subst Passes (sym front) passes;
  owned = owned;
  behind = behind;
  one = λ run rest e p q. same_length run us rest vs (sym e ∙ whole) (sym (one run rest e p q) ∙ sym many);
}

same_some : (n m : ℕ) → Some n ≡ Some m → n ≡ m
same_some n m e = cc

pub object_none : (line : List ℕ) (tokens : List Token) →
    ((run rest : List Token) (sizes : List ℕ) → tokens ≡ run ++ rest → IsObject sizes (texts line run) → ◌≡◌ {A = Option ℕ} None (Some (length run))) → NoCut (TypesObject line) Always tokens
object_none line tokens whole run rest e p q = let no = whole run rest p.0 e p.1 in cc

pub object_found : (line : List ℕ) (tokens us vs : List Token) (n : ℕ) → tokens ≡ us ++ vs → length us ≡ n → us ≡ take n tokens → All (IsTokenOf line) us → All (IsTokenOf line) vs →
    TypesObject line (take n tokens) →
    ((run rest : List Token) (sizes : List ℕ) → tokens ≡ run ++ rest → IsObject sizes (texts line run) → Some n ≡ Some (length run)) → Cut (TypesObject line) Always line tokens us vs
object_found line tokens us vs n whole many front owned behind passes one =
    cut_of (TypesObject line) Always line tokens us vs n whole many front owned behind passes (λ run rest e p q. same_some n (length run) (one run rest p.0 e p.1))

index_some : (indices : List Index) → indices ≢ [] → [] ≡ index_tokens indices → ⊥
index_some [] some e = some refl
index_some (i ∷ is) some e = cc

-- a list of indices is not empty
pub indices_some : (line : List ℕ) (run : List Token) → HasIndices line run → 0 ≡ length run → ⊥
indices_some line [] p e = index_some p.2.indices p.2.some p.2.tokens
indices_some line (t ∷ ts) p e = omega arith

-- the type of an object has a size
sizes_some : (counts : List (List ℕ)) (ty : Ty) → (size : ℕ) × (more : List ℕ) × (object_sizes counts ty ≡ size ∷ more)
sizes_some [] ty = (bytes_of ty, [], refl)
sizes_some (n ∷ ns) ty =
    let inner = sizes_some ns ty in
    (magnitude n * inner.0, inner.0 ∷ inner.1, ap (λ l. times_first (magnitude n) l) inner.2)

pub sized : (sizes : List ℕ) (ts : List (List ℕ)) → IsObject sizes ts → (size : ℕ) × (more : List ℕ) × IsObject (size ∷ more) ts
sized sizes ts o =
    let one = sizes_some o.counts o.member in
    (one.0, one.1, subst (λ l. IsObject l ts) (o.sized ∙ one.2) o)

-- the type of an alloca
pub record AllocaHead (line : List ℕ) (us vs : List Token) (size : ℕ) (head : List ℕ) (ps : List Part) : Type 0 where
  pub more : List ℕ
  pub sizes : IsObject (size ∷ more) (texts line us)
  pub text : head ≡ kept_text line us
  pub further : Spelt line vs ps

pub alloca_back : (line : List ℕ) (tokens us vs : List Token) (size : ℕ) (head : List ℕ) (ps : List Part) → Cut (TypesObject line) Always line tokens us vs →
    Spelt line tokens (kept (object size) head ∷ ps) → AllocaHead line us vs size head ps
alloca_back line tokens us vs size head ps a h =
    let s = h.spells in
    let same = a.one s.0 s.1 s.2 (size ∷ s.3.0.0, s.3.0.1) tt in
    record {
      more = s.3.0.0;
      sizes = subst (λ run. IsObject (size ∷ s.3.0.0) (texts line run)) same.front s.3.0.1;
      text = s.3.1 ∙ ap (λ run. kept_text line run) same.front;
      further = record { spells = subst (λ r. Spells line r ps) same.behind s.4 };
    }

pub alloca_no : (line : List ℕ) (tokens : List Token) (size : ℕ) (head : List ℕ) (ps : List Part) → NoCut (TypesObject line) Always tokens → Spelt line tokens (kept (object size) head ∷ ps) → ⊥
alloca_no line tokens size head ps none h = let s = h.spells in none s.0 s.1 s.2 (size ∷ s.3.0.0, s.3.0.1) tt

pub alloca_on : (line : List ℕ) (tokens us vs : List Token) (size : ℕ) (more : List ℕ) (head : List ℕ) (ps : List Part) → tokens ≡ us ++ vs → IsObject (size ∷ more) (texts line us) →
    head ≡ kept_text line us → Spelt line vs ps → Spelt line tokens (kept (object size) head ∷ ps)
alloca_on line tokens us vs size more head ps whole o is h = record { spells = (us, vs, whole, ((more, o), is), h.spells) }

-- the head of a getelementptr
head_stops : (line : List ℕ) (sizes : List ℕ) (typed rest : List Token) → IsObject sizes (texts line typed) → Stops false (texts line (typed ++ rest))
head_stops line sizes typed rest is =
    let shown : texts line (typed ++ rest) ≡ object_tokens is.counts is.member ++ texts line rest = texts_append line typed rest ∙ ap (λ ts. ts ++ texts line rest) is.tokens in
    subst (λ ts. Stops false ts) (sym shown) (object_stops false is.counts is.member (texts line rest))

pub record GepHead (line : List ℕ) (us os vs : List Token) (sizes : List ℕ) (head : List ℕ) (ps : List Part) : Type 0 where
  pub sized : IsObject sizes (texts line os)
  pub text : head ≡ joined (kept_text line us ∷ kept_text line os ∷ [])
  pub further : Spelt line vs ps

pub record GepMid (line : List ℕ) (us mid : List Token) (sizes : List ℕ) (head : List ℕ) (ps : List Part) : Type 0 where
  pub object : List Token
  pub rest : List Token
  pub whole : mid ≡ object ++ rest
  pub sized : IsObject sizes (texts line object)
  pub text : head ≡ joined (kept_text line us ∷ kept_text line object ∷ [])
  pub further : Spelt line rest ps

gep_mid : (line : List ℕ) (tokens us mid : List Token) (sizes : List ℕ) (head : List ℕ) (ps : List Part) → Cut (HasAttributes line) (StopsAttributes line) line tokens us mid →
    Spelt line tokens (kept (gep_head sizes) head ∷ ps) → GepMid line us mid sizes head ps
gep_mid line tokens us mid sizes head ps a h =
    let s = h.spells in
    let x = s.3 in
    let same = a.one x.before (x.object ++ s.1) (s.2 ∙ ap (λ r. r ++ s.1) x.whole ∙ append_assoc x.before x.object s.1) x.attributes (head_stops line sizes x.object s.1 x.sized) in
    record {
      object = x.object;
      rest = s.1;
      whole = sym same.behind;
      sized = x.sized;
      text = x.is ∙ ap (λ r. joined (kept_text line r ∷ kept_text line x.object ∷ [])) same.front;
      further = record { spells = s.4 };
    }

pub gep_no : (line : List ℕ) (tokens us mid : List Token) (sizes : List ℕ) (head : List ℕ) (ps : List Part) → Cut (HasAttributes line) (StopsAttributes line) line tokens us mid →
    NoCut (TypesObject line) Always mid → Spelt line tokens (kept (gep_head sizes) head ∷ ps) → ⊥
gep_no line tokens us mid sizes head ps a none h = let m = gep_mid line tokens us mid sizes head ps a h in none m.object m.rest m.whole (sizes, m.sized) tt

pub gep_back : (line : List ℕ) (tokens us mid os vs : List Token) (sizes : List ℕ) (head : List ℕ) (ps : List Part) → Cut (HasAttributes line) (StopsAttributes line) line tokens us mid →
    Cut (TypesObject line) Always line mid os vs → Spelt line tokens (kept (gep_head sizes) head ∷ ps) → GepHead line us os vs sizes head ps
gep_back line tokens us mid os vs sizes head ps a b h =
    let m = gep_mid line tokens us mid sizes head ps a h in
    let same = b.one m.object m.rest m.whole (sizes, m.sized) tt in
    record {
      sized = subst (λ run. IsObject sizes (texts line run)) same.front m.sized;
      text = m.text ∙ ap (λ r. joined (kept_text line us ∷ kept_text line r ∷ [])) same.front;
      further = of_behind line m.rest vs ps same.behind m.further;
    }

pub gep_on : (line : List ℕ) (tokens us mid os vs : List Token) (sizes : List ℕ) (head : List ℕ) (ps : List Part) → Cut (HasAttributes line) (StopsAttributes line) line tokens us mid →
    Cut (TypesObject line) Always line mid os vs → IsObject sizes (texts line os) → head ≡ joined (kept_text line us ∷ kept_text line os ∷ []) → Spelt line vs ps →
    Spelt line tokens (kept (gep_head sizes) head ∷ ps)
gep_on line tokens us mid os vs sizes head ps a b o is h = record {
  spells = (
    us ++ os,
    vs,
    a.whole ∙ ap (λ r. us ++ r) b.whole ∙ sym (append_assoc us os vs),
    record { before = us; object = os; whole = refl; attributes = a.passes; sized = o; is = is },
    h.spells,
  );
}

-- numbers alone are indices
constants : (is : List Index) (values : List ℤ) → AreIndices is values → AreItems is (map constant values) []
constants [] [] each = refl
constants [] (v ∷ vs) each = absurd each
constants (i ∷ is) [] each = absurd each
constants (i ∷ is) (v ∷ vs) each = (each.0, constants is vs each.1)

pub numbers_woven : (values : List ℤ) (ts : List (List ℕ)) → IsIndexList values ts → AreWoven (map constant values) [] ts
numbers_woven values ts h = record { indices = h.indices; some = h.some; each = constants h.indices values h.each; tokens = h.tokens }

-- the indices of a getelementptr
pub record IndexPart (line : List ℕ) (us vs : List Token) (items : List IndexItem) (names : List (List ℕ)) (rest : List ℕ) : Type 0 where
  pub list : AreWoven items names (texts line us)
  pub further : Spelt line vs (kept tail rest ∷ [])

part_of : (line : List ℕ) (tokens us vs run left : List Token) (items : List IndexItem) (names : List (List ℕ)) (rest : List ℕ) → Cut (HasIndices line) (HasTail line) line tokens us vs →
    tokens ≡ run ++ left → AreWoven items names (texts line run) → Spells line left (kept tail rest ∷ []) → IndexPart line us vs items names rest
part_of line tokens us vs run left items names rest a whole list spells =
    let same = a.one run left whole (items, names, list) (rest_tail line left rest spells) in
    record {
      list = subst (λ r. AreWoven items names (texts line r)) same.front list;
      further = record { spells = subst (λ r. Spells line r (kept tail rest ∷ [])) same.behind spells };
    }

pub index_back : (line : List ℕ) (tokens us vs : List Token) (values : List ℤ) (index rest : List ℕ) → Cut (HasIndices line) (HasTail line) line tokens us vs →
    Spelt line tokens (kept (indices values) index ∷ kept tail rest ∷ []) → IndexPart line us vs (map constant values) [] rest
index_back line tokens us vs values index rest a h =
    let s = h.spells in part_of line tokens us vs s.0 s.1 (map constant values) [] rest a s.2 (numbers_woven values (texts line s.0) s.3.0) s.4

pub woven_back : (line : List ℕ) (tokens us vs : List Token) (items : List IndexItem) (names : List (List ℕ)) (index rest : List ℕ) → Cut (HasIndices line) (HasTail line) line tokens us vs →
    Spelt line tokens (woven items names index ∷ kept tail rest ∷ []) → IndexPart line us vs items names rest
woven_back line tokens us vs items names index rest a h = let s = h.spells in part_of line tokens us vs s.0 s.1 items names rest a s.2 s.3.0 s.4

pub index_no : (line : List ℕ) (tokens : List Token) (values : List ℤ) (index rest : List ℕ) → NoCut (HasIndices line) (HasTail line) tokens →
    Spelt line tokens (kept (indices values) index ∷ kept tail rest ∷ []) → ⊥
index_no line tokens values index rest none h =
    let s = h.spells in none s.0 s.1 s.2 (map constant values, [], numbers_woven values (texts line s.0) s.3.0) (rest_tail line s.1 rest s.4)

pub woven_no : (line : List ℕ) (tokens : List Token) (items : List IndexItem) (names : List (List ℕ)) (index rest : List ℕ) → NoCut (HasIndices line) (HasTail line) tokens →
    Spelt line tokens (woven items names index ∷ kept tail rest ∷ []) → ⊥
woven_no line tokens items names index rest none h = let s = h.spells in none s.0 s.1 s.2 (items, names, s.3.0) (rest_tail line s.1 rest s.4)

pub index_on : (line : List ℕ) (tokens us vs : List Token) (values : List ℤ) (index rest : List ℕ) → tokens ≡ us ++ vs → IsIndexList values (texts line us) →
    index ≡ kept_text line us → Spelt line vs (kept tail rest ∷ []) → Spelt line tokens (kept (indices values) index ∷ kept tail rest ∷ [])
index_on line tokens us vs values index rest whole l is h = record { spells = (us, vs, whole, (l, is), h.spells) }

pub woven_on : (line : List ℕ) (tokens us vs : List Token) (items : List IndexItem) (names : List (List ℕ)) (rest : List ℕ) → tokens ≡ us ++ vs → AreWoven items names (texts line us) →
    Spelt line vs (kept tail rest ∷ []) → Spelt line tokens (woven items names (cut_text line us) ∷ kept tail rest ∷ [])
woven_on line tokens us vs items names rest whole l h = record { spells = (us, vs, whole, (l, refl), h.spells) }

-- the words that begin a call are not none
mark_some : (ts : List (List ℕ)) → IsCallMark ts → ts ≢ []
mark_some ts (plain e) none = cc
mark_some ts (before_tail e) none = cc
mark_some ts (no_tail e) none = cc

pub call_some : (line : List ℕ) (run : List Token) → BeginsCall line run → 0 ≡ length run → ⊥
call_some line [] p e = mark_some [] p refl
call_some line (t ∷ ts) p e = omega arith

pub written_found : (line : List ℕ) (tokens us vs : List Token) (n : ℕ) → tokens ≡ us ++ vs → length us ≡ n → us ≡ take n tokens → All (IsTokenOf line) us → All (IsTokenOf line) vs →
    TypesCallee line (take n tokens) →
    ((run rest : List Token) (callee : Token) (name : List ℕ) → tokens ≡ run ++ callee ∷ rest → IsCallType (texts line run) → bytes_at line callee ≡ 64 ∷ name → n ≡ length run) →
    Cut (TypesCallee line) (NamesCallee line) line tokens us vs
written_found line tokens us vs n whole many front owned behind passes one =
    cut_of (TypesCallee line) (NamesCallee line) line tokens us vs n whole many front owned behind passes
    (λ run rest e p q. one run q.more q.callee q.name (e ∙ ap (λ r. run ++ r) q.whole) p q.bytes)

pub member_found : (line : List ℕ) (tokens us vs : List Token) (n : ℕ) → tokens ≡ us ++ vs → length us ≡ n → us ≡ take n tokens → All (IsTokenOf line) us → All (IsTokenOf line) vs →
    HasAttributes line (take n tokens) →
    ((run left : List Token) (value mark : Token) → tokens ≡ run ++ value ∷ mark ∷ left → AreMany IsAttribute (texts line run) → IsMember (bytes_at line value) → IsListMark (bytes_at line mark) →
    Some n ≡ Some (length run)) → Cut (HasAttributes line) (StartsMember line) line tokens us vs
member_found line tokens us vs n whole many front owned behind passes one =
    cut_of (HasAttributes line) (StartsMember line) line tokens us vs n whole many front owned behind passes
    (λ run rest e p q. same_some n (length run) (one run q.more q.value q.mark (e ∙ ap (λ r. run ++ r) q.whole) p q.is_member q.is_mark))

pub member_none : (line : List ℕ) (tokens : List Token) →
    ((run left : List Token) (value mark : Token) → tokens ≡ run ++ value ∷ mark ∷ left → AreMany IsAttribute (texts line run) → IsMember (bytes_at line value) → IsListMark (bytes_at line mark) →
    ◌≡◌ {A = Option ℕ} None (Some (length run))) → NoCut (HasAttributes line) (StartsMember line) tokens
member_none line tokens whole run rest e p q =
    let unlike = whole run q.more q.value q.mark (e ∙ ap (λ r. run ++ r) q.whole) p q.is_member q.is_mark in cc
