-- What a name names: the first thing that is made with it.
use Rattle.std.proofs.Common.{◌≡◌, ◌∙◌, ⊎_elim, ℕ, zero, suc, ◌<◌, Bool, true, false, not, List, [], ◌∷◌, Some, map, refl, sym, ap, subst, arith}
use Rattle.std.specs.Prelude.{◌||◌, filter, if◌then◌else◌}
use Rattle.std.specs.List.{slice_get, list_any}
use Rattle.std.proofs.lemmas.Bool.{cases_Bool, both_ways}
use Rattle.ms_ir.specs.declared.names.Name.{Name}
use Rattle.ms_names.specs.Shape.{FuncLines}
use Rattle.ms_names.specs.Made.{Made, full_name, free_behind, named_from, named_in, name_of_made, is_same_name, locals_of, blocks_of}
use Rattle.ms_names.specs.Faults.{IsIn, IsMadeAgain, NamesFirst}
use Rattle.ms_names.proofs.Members.{Among, among_in, in_among, get_among, among_map, map_among, among_filter, filter_among, same_name, full_same}

-- a thing of this kind
abbrev pub is_kind : Bool → Bool → Bool
is_kind true is_block = is_block
is_kind false is_block = not is_block

kind_is : (b c : Bool) → is_kind b c ≡ true → c ≡ b
kind_is true c e = e
kind_is false true e = cc
kind_is false false e = refl

kind_same : (b c : Bool) → c ≡ b → is_kind b c ≡ true
kind_same true c e = e
kind_same false c e = ap not e

-- whether the first thing with the name is of this kind
abbrev pub first_is : Bool → Name → List Made → Bool
first_is b q [] = false
first_is b q (m ∷ ms) = if is_same_name q m.name then is_kind b m.is_block else first_is b q ms

abbrev pub has_name : Name → Made → Bool
has_name q m = is_same_name q m.name

either_step : (s k a b c : Bool) → (a || b) ≡ c → ((if s then not k else a) || (if s then k else b)) ≡ (s || c)
either_step true true a b c e = refl
either_step true false a b c e = refl
either_step false k a b c e = e

-- a thing with the name is a local or a block
pub either_kind : (q : Name) (ms : List Made) → (first_is false q ms || first_is true q ms) ≡ list_any (has_name q) ms
either_kind q [] = refl
either_kind q (m ∷ ms) = either_step (is_same_name q m.name) m.is_block (first_is false q ms) (first_is true q ms) (list_any (has_name q) ms) (either_kind q ms)

same_self : (q n : Name) → is_same_name q n ≡ true → is_same_name q q ≡ true
same_self q n e = ap (is_same_name q) (same_name q n e) ∙ e

past : (b : Bool) (q : Name) (m : Made) (ms : List Made) → is_same_name q m.name ≡ false → first_is b q (m ∷ ms) ≡ first_is b q ms
past b q m ms f = ap (λ s. if s then is_kind b m.is_block else first_is b q ms) f

here : (b : Bool) (q : Name) (m : Made) (ms : List Made) → is_same_name q m.name ≡ true → first_is b q (m ∷ ms) ≡ is_kind b m.is_block
here b q m ms t = ap (λ s. if s then is_kind b m.is_block else first_is b q ms) t

first_self : (b : Bool) (q : Name) (ms : List Made) → first_is b q ms ≡ true → is_same_name q q ≡ true
first_self b q [] e = cc
first_self b q (m ∷ ms) e = ⊎_elim (λ (t : is_same_name q m.name ≡ true). same_self q m.name t)
    (λ (f : is_same_name q m.name ≡ false). first_self b q ms (sym (past b q m ms f) ∙ e))
    (cases_Bool (is_same_name q m.name))

same_made : (x y : Made) → Some x ≡ Some y → x ≡ y
same_made x y e = cc

-- a thing before all of these, with another name
later_first : (m : Made) (ms : List Made) (b : Bool) (q : Name) → (m.name ≡ q → ⊥) → NamesFirst ms b q → NamesFirst (m ∷ ms) b q
later_first m ms b q other h = record {
  at = suc h.at;
  thing = h.thing;
  found = h.found;
  kind = h.kind;
  same = h.same;
  first = later;
}
  where
    later : (before : ℕ) (x : Made) → before < suc h.at → slice_get (m ∷ ms) before ≡ Some x → x.name ≡ q → ⊥
    later zero x lt got e = other (ap name_of_made (same_made m x got) ∙ e)
    later (suc before) x lt got e = h.first before x (omega (arith, lt)) got e

first_names : (b : Bool) (q : Name) (ms : List Made) → is_same_name q q ≡ true → first_is b q ms ≡ true → NamesFirst ms b q
first_names b q [] self e = cc
first_names b q (m ∷ ms) self e = ⊎_elim
    (λ (t : is_same_name q m.name ≡ true). record {
      at = 0;
      thing = m;
      found = refl;
      kind = kind_is b m.is_block (sym (here b q m ms t) ∙ e);
      same = sym (same_name q m.name t);
      first = λ before other lt. absurd (omega (arith, lt));
    })
    (λ (f : is_same_name q m.name ≡ false). later_first m ms b q (λ same. both_ways (is_same_name q m.name) f (ap (is_same_name q) same ∙ self)) (first_names b q ms self (sym (past b q m ms f) ∙ e)))
    (cases_Bool (is_same_name q m.name))

pub is_first : (b : Bool) (q : Name) (ms : List Made) → first_is b q ms ≡ true → NamesFirst ms b q
is_first b q ms e = first_names b q ms (first_self b q ms e) e

first_by : (b : Bool) (q : Name) (ms : List Made) (next at : ℕ) (thing : Made) → slice_get (named_from next ms) at ≡ Some thing → thing.is_block ≡ b → thing.name ≡ q
    → ((before : ℕ) (other : Made) → before < at → slice_get (named_from next ms) before ≡ Some other → other.name ≡ q → ⊥) → first_is b q (named_from next ms) ≡ true
first_by b q [] next at thing found kind same first = cc
first_by b q (m ∷ ms) next zero thing found kind same first =
    let full = full_name next m.name in
    let is : record m { name = full } ≡ thing = same_made _ thing found in
    let named : full ≡ q = ap name_of_made is ∙ same in
    let self : is_same_name q full ≡ true = ap (λ n. is_same_name n full) (sym named) ∙ full_same next m.name in
    here b q (record m { name = full }) (named_from (free_behind next m.name) ms) self ∙ kind_same b m.is_block (ap (λ (x : Made). x.is_block) is ∙ kind)
first_by b q (m ∷ ms) next (suc at) thing found kind same first =
    let full = full_name next m.name in
    let rest = named_from (free_behind next m.name) ms in
    ⊎_elim (λ (t : is_same_name q full ≡ true). absurd (first 0 (record m { name = full }) (omega arith) refl (sym (same_name q full t))))
    (λ (f : is_same_name q full ≡ false). past b q (record m { name = full }) rest f ∙ first_by b q ms (free_behind next m.name) at thing found kind same (λ before other lt got e. first (suc before) other (omega (arith, lt)) got e))
    (cases_Bool (is_same_name q full))

pub first_is_so : (b : Bool) (q : Name) (ms : List Made) → NamesFirst (named_from 0 ms) b q → first_is b q (named_from 0 ms) ≡ true
first_is_so b q ms h = first_by b q ms 0 h.at h.thing h.found h.kind h.same h.first

-- in a function without names that are made again each name names what has it
named_first : (named : List Made) → ((n : ℕ) → IsMadeAgain named n → ⊥) → (b : Bool) (p : Made → Bool) → ((x : Made) → p x ≡ true → x.is_block ≡ b)
    → (q : Name) → IsIn (map name_of_made (filter p named)) q → NamesFirst named b q
named_first named none b p kind q h =
    let r = among_map name_of_made (filter p named) q (in_among (map name_of_made (filter p named)) q h) in
    let m = among_filter p named r.0 r.1 in
    let place = among_in named r.0 m.0 in
    record {
      at = place.0;
      thing = r.0;
      found = place.1;
      kind = kind r.0 m.1;
      same = r.2;
      first = λ before other lt got e. none r.0.line (record {
        first = before;
        at = place.0;
        before = lt;
        one = other;
        other = r.0;
        first_is = got;
        at_is = place.1;
        same = e ∙ sym r.2;
        on = refl;
      });
    }

pub local_first : (f : FuncLines) → ((n : ℕ) → IsMadeAgain (named_in f) n → ⊥) → (q : Name) → IsIn (locals_of f) q → NamesFirst (named_in f) false q
local_first f none q h = named_first (named_in f) none false (λ m. not m.is_block) (λ x e. kind_is false x.is_block e) q h

pub block_first : (f : FuncLines) → ((n : ℕ) → IsMadeAgain (named_in f) n → ⊥) → (q : Name) → IsIn (blocks_of f) q → NamesFirst (named_in f) true q
block_first f none q h = named_first (named_in f) none true (λ m. m.is_block) (λ x e. e) q h

-- and in each function what a name names has it
first_has : (named : List Made) (b : Bool) (p : Made → Bool) → ((x : Made) → x.is_block ≡ b → p x ≡ true) → (q : Name) → NamesFirst named b q → IsIn (map name_of_made (filter p named)) q
first_has named b p kind q h =
    let among : Among (filter p named) h.thing = filter_among p named h.thing (get_among named h.at h.thing h.found) (kind h.thing h.kind) in
    let P : Name → Type 0 = λ n. IsIn (map name_of_made (filter p named)) n in
    subst P h.same (among_in (map name_of_made (filter p named)) h.thing.name (map_among name_of_made (filter p named) h.thing among))

pub first_local : (f : FuncLines) (q : Name) → NamesFirst (named_in f) false q → IsIn (locals_of f) q
first_local f q h = first_has (named_in f) false (λ m. not m.is_block) (λ x e. ap not e) q h

pub first_block : (f : FuncLines) (q : Name) → NamesFirst (named_in f) true q → IsIn (blocks_of f) q
first_block f q h = first_has (named_in f) true (λ m. m.is_block) (λ x e. e) q h
