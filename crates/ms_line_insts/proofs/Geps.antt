-- The parts of a getelementptr.
use Rattle.std.proofs.Common.{◌≡◌, ◌≢◌, ◌≤◌, length, ℕ, ℤ, pos, ◌+ℤ◌, ◌*ℤ◌, false, List, [], ◌∷◌, ◌++◌, map, refl, sym, ap, subst, ◌∙◌, arith}
use Rattle.ms_lex.specs.declared.token.Token.{Token}
use Rattle.ms_grammar.specs.Kept.{Each, Index, IsIndexList, AreIndices, IndexItem, constant, term, AreItems, AreWoven}
use Rattle.ms_grammar.specs.Parts.{Part, blank, kept, woven, tail, gep_head, indices, texts, kept_text, cut_text, joined}
use Rattle.ms_grammar.specs.Form.{Scale, word_part, index_text}
use Rattle.ms_grammar.specs.Fits.{IsValue, AreTerms, offset_of, offset_of_items}
use Rattle.ms_grammar.specs.Limits.{IsNearOffset, IsSmallTerm}
use Rattle.ms_ir.specs.declared.names.Ty.TheVariants.{Ptr}
use Rattle.ms_grammar.specs.declared.line.RawVal.{RawVal}
use Rattle.ms_grammar.specs.declared.line.RawIndex.{RawIndex}
use Rattle.ms_grammar.specs.declared.line.RawInst.TheVariants.{Gep, Step}
use Rattle.ms_grammar.specs.declared.keyword.Keyword.TheVariants as word
use Rattle.ms_line_insts.specs.Front.{Spelt, NoLead, Leads, Front, Always}
use Rattle.ms_line_insts.specs.Cuts.{NoCut, Cut, TypesObject, HasAttributes, HasIndices, HasTail, StopsAttributes}
use Rattle.ms_line_insts.specs.GepFronts.{NoGepHead, GepCut, gep_parts, IsList, numbers, variables, NoIndices, Indices, NoPointer, index_parts, step_parts}
use Rattle.ms_line_insts.specs.Ends.{further_given_parts}
use Rattle.ms_line_insts.specs.Found.{SpellInst, IsFound}
use Rattle.ms_line_insts.specs.declared.found.FoundInst.TheVariants.{Past}
use Rattle.ms_line_insts.proofs.Spelt.{of_inst, to_inst}
use Rattle.ms_line_insts.proofs.Lists.{of_parts}
use Rattle.ms_line_insts.proofs.CutLemmas.{gep_back, gep_no, gep_on, index_back, index_no, index_on, woven_back, woven_no, woven_on}

pub head_found : (line : List ℕ) (tokens at before mid object rest : List Token) → Leads (word_part word.Getelementptr ∷ blank ∷ []) line tokens at →
    Cut (HasAttributes line) (StopsAttributes line) line at before mid → Cut (TypesObject line) Always line mid object rest → GepCut line tokens before object rest
head_found line tokens at before mid object rest l a b = record {
  attributes = a.owned;
  owned = b.owned;
  behind = b.behind;
  types = b.passes;
  on = λ sizes ps o h.
      let head : List ℕ = joined (kept_text line before ∷ kept_text line object ∷ []) in
      l.on (kept (gep_head sizes) head ∷ ps) (gep_on line at before mid object rest sizes head ps a b o refl h);
  back = λ sizes head ps h.
      let k = gep_back line at before mid object rest sizes head ps a b (l.back (kept (gep_head sizes) head ∷ ps) h) in
      record { sized = k.sized; further = k.further };
}

pub head_none : (line : List ℕ) (tokens at before mid : List Token) → Leads (word_part word.Getelementptr ∷ blank ∷ []) line tokens at →
    Cut (HasAttributes line) (StopsAttributes line) line at before mid → NoCut (TypesObject line) Always mid → NoGepHead line tokens
head_none line tokens at before mid l a none sizes head ps h = gep_no line at before mid sizes head ps a none (l.back (kept (gep_head sizes) head ∷ ps) h)

pub indices_found : (line : List ℕ) (tokens at run rest : List Token) (text : List ℕ) → Leads (word_part word.Comma ∷ blank ∷ []) line tokens at →
    Cut (HasIndices line) (HasTail line) line at run rest → Spelt line rest (kept tail text ∷ []) → Indices line tokens run text
indices_found line tokens at run rest text l a h = record {
  owned = a.owned;
  has = a.passes;
  on = λ values is. l.on (kept (indices values) (kept_text line run) ∷ kept tail text ∷ []) (index_on line at run rest values (kept_text line run) text a.whole is refl h);
  woven_on = λ items names is. l.on (woven items names (cut_text line run) ∷ kept tail text ∷ []) (woven_on line at run rest items names text a.whole is h);
  back = λ items names ps list k. by_list items names ps list k;
}
  where
    by_list : (items : List IndexItem) (names : List (List ℕ)) (ps : List Part) → IsList items names ps → Spelt line tokens ps → AreWoven items names (texts line run)
    by_list items names ps (numbers values index left e f g) k =
        subst (λ x. AreWoven x names (texts line run)) (sym e) (subst (λ n. AreWoven (map constant values) n (texts line run)) (sym f)
        (index_back line at run rest values index left a (l.back (kept (indices values) index ∷ kept tail left ∷ []) (of_parts line tokens ps (index_parts values index left) g k))).list)
    by_list items names ps (variables index left g) k =
        (woven_back line at run rest items names index left a (l.back (woven items names index ∷ kept tail left ∷ []) (of_parts line tokens ps (step_parts items names index left) g k))).list

pub indices_no_lead : (line : List ℕ) (tokens : List Token) → NoLead (word_part word.Comma ∷ blank ∷ []) line tokens → NoIndices line tokens
indices_no_lead line tokens none items names ps (numbers values index left e f g) k =
    none (kept (indices values) index ∷ kept tail left ∷ []) (of_parts line tokens ps (index_parts values index left) g k)
indices_no_lead line tokens none items names ps (variables index left g) k =
    none (woven items names index ∷ kept tail left ∷ []) (of_parts line tokens ps (step_parts items names index left) g k)

pub indices_none : (line : List ℕ) (tokens at : List Token) → Leads (word_part word.Comma ∷ blank ∷ []) line tokens at → NoCut (HasIndices line) (HasTail line) at → NoIndices line tokens
indices_none line tokens at l none items names ps (numbers values index left e f g) k =
    index_no line at values index left none (l.back (kept (indices values) index ∷ kept tail left ∷ []) (of_parts line tokens ps (index_parts values index left) g k))
indices_none line tokens at l none items names ps (variables index left g) k =
    woven_no line at items names index left none (l.back (woven items names index ∷ kept tail left ∷ []) (of_parts line tokens ps (step_parts items names index left) g k))

pub indices_no_tail : (line : List ℕ) (tokens at run rest : List Token) → Leads (word_part word.Comma ∷ blank ∷ []) line tokens at → Cut (HasIndices line) (HasTail line) line at run rest →
    ((text : List ℕ) → Spelt line rest (kept tail text ∷ []) → ⊥) → NoIndices line tokens
indices_no_tail line tokens at run rest l a none items names ps (numbers values index left e f g) k =
    none left (index_back line at run rest values index left a (l.back (kept (indices values) index ∷ kept tail left ∷ []) (of_parts line tokens ps (index_parts values index left) g k))).further
indices_no_tail line tokens at run rest l a none items names ps (variables index left g) k =
    none left (woven_back line at run rest items names index left a (l.back (woven items names index ∷ kept tail left ∷ []) (of_parts line tokens ps (step_parts items names index left) g k))).further

-- what tokens of a getelementptr spell, of numbers alone or not
pub record IsPointer (line : List ℕ) (tokens : List Token) : Type 0 where
  pub sizes : List ℕ
  pub head : List ℕ
  pub base : RawVal
  pub items : List IndexItem
  pub names : List (List ℕ)
  pub terms : List RawIndex
  pub list : List Part
  pub spelled : Spelt line tokens (gep_parts sizes head ++ (further_given_parts Ptr base ++ list))
  pub value : IsValue Ptr base
  pub listed : IsList items names list
  pub are : AreTerms sizes items terms
  pub names_are : names ≡ map index_text terms

no_terms : (sizes : List ℕ) (values : List ℤ) → length values ≤ length sizes → AreTerms sizes (map constant values) []
no_terms sizes [] h = refl
no_terms [] (v ∷ values) h = absurd (omega arith)
no_terms (size ∷ sizes) (v ∷ values) h = no_terms sizes values (omega arith)

pub no_pointer : (line : List ℕ) (tokens : List Token) → (IsPointer line tokens → ⊥) → NoPointer line tokens
no_pointer line tokens none = record {
  of_numbers = λ base offset head index rest s. none (record {
    sizes = s.scale.sizes;
    head = head;
    base = base;
    items = map constant s.scale.indices;
    names = [];
    terms = [];
    list = index_parts s.scale.indices index rest;
    spelled = of_inst line tokens (Gep base offset head index rest) s;
    value = s.fits.0;
    listed = numbers s.scale.indices index rest refl refl refl;
    are = no_terms s.scale.sizes s.scale.indices s.fits.1;
    names_are = refl;
  });
  of_variables = λ base offset terms head index rest s. none (record {
    sizes = s.scale.sizes;
    head = head;
    base = base;
    items = s.scale.items;
    names = map index_text terms;
    terms = terms;
    list = step_parts s.scale.items (map index_text terms) index rest;
    spelled = of_inst line tokens (Step base offset terms head index rest) s;
    value = s.fits.0;
    listed = variables index rest refl;
    are = s.fits.2;
    names_are = refl;
  });
}

-- where no index is a local
record Numbers (sizes : List ℕ) (items : List IndexItem) (is : List Index) : Type 0 where
  values : List ℤ
  are : AreIndices is values
  few : length values ≤ length sizes
  sum : offset_of_items sizes items ≡ offset_of sizes values

numbers_of : (sizes : List ℕ) (items : List IndexItem) (names : List (List ℕ)) (is : List Index) → AreTerms sizes items [] → AreItems is items names → Numbers sizes items is
numbers_of sizes [] names (i ∷ is) f g = absurd g
numbers_of [] (item ∷ items) names is f g = absurd f
numbers_of [] [] names [] f g = record { values = []; are = tt; few = omega arith; sum = refl }
numbers_of (size ∷ sizes) [] names [] f g = record { values = []; are = tt; few = omega arith; sum = refl }
numbers_of (size ∷ sizes) (item ∷ items) names [] f g = absurd g
numbers_of (size ∷ sizes) (constant v ∷ items) names (i ∷ is) f g =
    let below = numbers_of sizes items names is f g.1 in
    record { values = v ∷ below.values; are = (g.0, below.are); few = omega (arith, below.few); sum = ap (λ k. (v *ℤ pos size) +ℤ k) below.sum }
numbers_of (size ∷ sizes) (term ty ∷ items) names (i ∷ is) f g = absurd f

-- all of a getelementptr
pub record Parts (line : List ℕ) (tokens before object mid at run : List Token) (base : RawVal) (text : List ℕ) : Type 0 where
  pub head : GepCut line tokens before object mid
  pub given : Front (IsValue Ptr) (further_given_parts Ptr) line mid base at
  pub list : Indices line at run text

pub offset_in : (line : List ℕ) (tokens before object mid at run : List Token) (base : RawVal) (text : List ℕ) → Parts line tokens before object mid at run base text → ℤ
offset_in line tokens before object mid at run base text p = offset_of_items p.head.types.0 p.list.has.0

pub gep_spells : (line : List ℕ) (tokens before object mid at run : List Token) (base : RawVal) (offset : ℤ) (head index text : List ℕ) (p : Parts line tokens before object mid at run base text) →
    AreTerms p.head.types.0 p.list.has.0 [] → offset ≡ offset_of_items p.head.types.0 p.list.has.0 → head ≡ joined (kept_text line before ∷ kept_text line object ∷ []) → index ≡ kept_text line run →
    SpellInst line tokens (Gep base offset head index text)
gep_spells line tokens before object mid at run base offset head index text p none e head_is index_is =
    let sizes = p.head.types.0 in
    let woven = p.list.has.2 in
    let n = numbers_of sizes p.list.has.0 p.list.has.1 woven.indices none woven.each in
    let list : IsIndexList n.values (texts line run) = record { indices = woven.indices; some = woven.some; each = n.are; tokens = woven.tokens } in
    let scale : Scale = record { sizes = sizes; indices = n.values; items = [] } in
    let whole = λ (h i : List ℕ). Gep base offset h i text in
    let same = ap (λ h. whole h (kept_text line run)) (sym head_is) ∙ ap (λ i. whole head i) (sym index_is) in
    subst (SpellInst line tokens) same
    (to_inst line tokens scale (whole (joined (kept_text line before ∷ kept_text line object ∷ [])) (kept_text line run))
    (p.head.on sizes (further_given_parts Ptr base ++ index_parts n.values (kept_text line run) text) p.head.types.1
    (p.given.on (index_parts n.values (kept_text line run) text) (p.list.on n.values list)))
    (p.given.fits, n.few, e ∙ n.sum))

pub step_spells : (line : List ℕ) (tokens before object mid at run : List Token) (base : RawVal) (offset : ℤ) (terms : List RawIndex) (head index text : List ℕ) (p : Parts line tokens before object mid at run base text) →
    terms ≢ [] → AreTerms p.head.types.0 p.list.has.0 terms → p.list.has.1 ≡ map index_text terms → offset ≡ offset_of_items p.head.types.0 p.list.has.0 →
    head ≡ joined (kept_text line before ∷ kept_text line object ∷ []) → index ≡ cut_text line run → SpellInst line tokens (Step base offset terms head index text)
step_spells line tokens before object mid at run base offset terms head index text p some are names e head_is index_is =
    let sizes = p.head.types.0 in
    let items = p.list.has.0 in
    let woven = subst (λ ns. AreWoven items ns (texts line run)) names p.list.has.2 in
    let scale : Scale = record { sizes = sizes; indices = []; items = items } in
    let whole = λ (h i : List ℕ). Step base offset terms h i text in
    let same = ap (λ h. whole h (cut_text line run)) (sym head_is) ∙ ap (λ i. whole head i) (sym index_is) in
    subst (SpellInst line tokens) same
    (to_inst line tokens scale (whole (joined (kept_text line before ∷ kept_text line object ∷ [])) (cut_text line run))
    (p.head.on sizes (further_given_parts Ptr base ++ step_parts items (map index_text terms) (cut_text line run) text) p.head.types.1
    (p.given.on (step_parts items (map index_text terms) (cut_text line run) text) (p.list.woven_on items (map index_text terms) woven)))
    (p.given.fits, some, are, e))

-- one that passes its limit
pub past : (line : List ℕ) (tokens before object mid at run : List Token) (base : RawVal) (terms : List RawIndex) (text : List ℕ) (p : Parts line tokens before object mid at run base text) →
    AreTerms p.head.types.0 p.list.has.0 terms → p.list.has.1 ≡ map index_text terms →
    (IsNearOffset (offset_of_items p.head.types.0 p.list.has.0) → Each IsSmallTerm terms → ⊥) → IsFound line tokens (Past false)
past line tokens before object mid at run base [] text p are names far =
    let head : List ℕ = joined (kept_text line before ∷ kept_text line object ∷ []) in
    let offset = offset_of_items p.head.types.0 p.list.has.0 in
    (Gep base offset head (kept_text line run) text, gep_spells line tokens before object mid at run base offset head (kept_text line run) text p are refl refl refl, (refl, λ near. far near tt))
past line tokens before object mid at run base (t ∷ terms) text p are names far =
    let head : List ℕ = joined (kept_text line before ∷ kept_text line object ∷ []) in
    let offset = offset_of_items p.head.types.0 p.list.has.0 in (
      Step base offset (t ∷ terms) head (cut_text line run) text,
      step_spells line tokens before object mid at run base offset (t ∷ terms) head (cut_text line run) text p (λ e. cc) are names refl refl refl,
      (refl, λ small. far small.0 small.1),
    )
