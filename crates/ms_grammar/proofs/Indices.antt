-- Two readings of one getelementptr with locals among its indices are one, and none is a getelementptr of numbers alone.
use Rattle.std.proofs.Common.{◌≡◌, ℕ, ℤ, true, List, [], ◌∷◌, ◌++◌, map, refl, sym, ap, subst, ◌∙◌, Some}
use Rattle.std.proofs.lemmas.Bool.{false≢true}
use Rattle.ms_lex.specs.Kinds.{is_token, is_number}
use Rattle.ms_lex.specs.First.{first_kind}
use Rattle.ms_lex.specs.declared.token.TokenKind.TheVariants as kind
use Rattle.ms_lex.proofs.First.{first_tells}
use Rattle.ms_ir.specs.declared.names.Ty.{Ty}
use Rattle.ms_ir.specs.declared.names.Ty.TheVariants.{Ptr}
use Rattle.ms_grammar.specs.Kept.{Index, AreIndices, IndexItem, constant, term, AreItems, AreWoven, index_tokens}
use Rattle.ms_grammar.specs.Parts.{kept, woven, indices, tail, texts, cut_text}
use Rattle.ms_grammar.specs.Form.{Scale, typed_parts, comma_parts, index_text, inst_parts, name_text, value_part}
use Rattle.ms_grammar.specs.Parts.{part_text}
use Rattle.ms_grammar.specs.Fits.{FitsInst, IsLocal, IsTermOf, AreTerms, offset_of_items}
use Rattle.ms_grammar.specs.declared.line.RawVal.{RawVal}
use Rattle.ms_grammar.specs.declared.line.RawVal.TheVariants.{Num, Local, Global}
use Rattle.ms_grammar.specs.declared.line.RawIndex.{RawIndex}
use Rattle.ms_grammar.specs.declared.line.RawInst.TheVariants.{Gep, Step}
use Rattle.ms_grammar.specs.declared.keyword.Keyword.TheVariants as word
use Rattle.ms_grammar.proofs.Objects.{one_indices, tail_stops, some_one, StopsIndices}
use Rattle.ms_grammar.proofs.Both.{Both, both_lead, both_typed, both_tail, along, same_run, texts_cut, behind_first, name_one}
use Rattle.ms_grammar.proofs.Insts.{both_gep_head, rest_tail}

-- no number is a local
number_no_local : (s : List ℕ) → is_number s ≡ true → is_token kind.Local s ≡ true → ⊥
number_no_local [] number token = false≢true number
number_no_local (b ∷ bs) number token =
    let one : first_kind b ≡ Some kind.Number = first_tells kind.Number b bs number in
    let two : first_kind b ≡ Some kind.Local = first_tells kind.Local b bs token in cc

-- what two readings of the same indices agree on
record SameItems (x y : List IndexItem) (ns ms : List (List ℕ)) : Type 0 where
  pub items : x ≡ y
  pub names : ns ≡ ms

typed_one : (ty tz tx : Ty) → tx ≡ ty → tx ≡ tz → ty ≡ tz
typed_one ty tz tx e f = sym e ∙ f

items_one : (is : List Index) (x y : List IndexItem) (ns ms : List (List ℕ)) → AreItems is x ns → AreItems is y ms → SameItems x y ns ms
items_one [] [] [] ns ms f g = record { items = refl; names = f ∙ sym g }
items_one [] [] (b ∷ y) ns ms f g = absurd g
items_one [] (a ∷ x) y ns ms f g = absurd f
items_one (i ∷ is) [] y ns ms f g = absurd f
items_one (i ∷ is) (a ∷ x) [] ns ms f g = absurd g
items_one (i ∷ is) (constant v ∷ x) (constant w ∷ y) ns ms f g =
    let first : v ≡ w = some_one v w (sym f.0.in_range ∙ g.0.in_range) in
    let rest = items_one is x y ns ms f.1 g.1 in
    record { items = ap (λ a. constant a ∷ x) first ∙ ap (λ more. constant w ∷ more) rest.items; names = rest.names }
items_one (i ∷ is) (constant v ∷ x) (term ty ∷ y) ns [] f g = absurd g
items_one (i ∷ is) (constant v ∷ x) (term ty ∷ y) ns (m ∷ ms) f g = absurd (number_no_local i.number f.0.spelled g.0.a_local)
items_one (i ∷ is) (term ty ∷ x) (constant w ∷ y) [] ms f g = absurd f
items_one (i ∷ is) (term ty ∷ x) (constant w ∷ y) (n ∷ ns) ms f g = absurd (number_no_local i.number g.0.spelled f.0.a_local)
items_one (i ∷ is) (term ty ∷ x) (term tz ∷ y) [] ms f g = absurd f
items_one (i ∷ is) (term ty ∷ x) (term tz ∷ y) (n ∷ ns) [] f g = absurd g
items_one (i ∷ is) (term ty ∷ x) (term tz ∷ y) (n ∷ ns) (m ∷ ms) f g =
    let types : ty ≡ tz = sym f.0.typed ∙ g.0.typed in
    let texts_same : n ≡ m = sym f.0.is ∙ g.0.is in
    let rest = items_one is x y ns ms f.1 g.1 in
    record {
      items = ap (λ t. term t ∷ x) types ∙ ap (λ more. term tz ∷ more) rest.items;
      names = ap (λ t. t ∷ ns) texts_same ∙ ap (λ ts. m ∷ ts) rest.names;
    }

-- among numbers alone there is no local
numbers_none : (is : List Index) (values : List ℤ) (x : List IndexItem) (ns : List (List ℕ)) → AreIndices is values → AreItems is x ns → ns ≡ []
numbers_none [] [] [] ns f g = g
numbers_none [] [] (a ∷ x) ns f g = absurd g
numbers_none [] (v ∷ vs) x ns f g = absurd f
numbers_none (i ∷ is) [] x ns f g = absurd f
numbers_none (i ∷ is) (v ∷ vs) [] ns f g = absurd g
numbers_none (i ∷ is) (v ∷ vs) (constant w ∷ x) ns f g = numbers_none is vs x ns f.1 g.1
numbers_none (i ∷ is) (v ∷ vs) (term ty ∷ x) [] f g = absurd g
numbers_none (i ∷ is) (v ∷ vs) (term ty ∷ x) (n ∷ ns) f g = absurd (number_no_local i.number f.0.spelled g.0.a_local)

record WovenCut (us vs : List (List ℕ)) (x y : List IndexItem) (ns ms : List (List ℕ)) : Type 0 where
  pub run : us ≡ vs
  pub same : SameItems x y ns ms

woven_cut : (us vs ps qs : List (List ℕ)) (x y : List IndexItem) (ns ms : List (List ℕ)) → us ++ ps ≡ vs ++ qs → AreWoven x ns us → AreWoven y ms vs →
    StopsIndices ps → StopsIndices qs → WovenCut us vs x y ns ms
woven_cut us vs ps qs x y ns ms e f g ps_stop qs_stop =
    let shown : index_tokens f.indices ++ ps ≡ index_tokens g.indices ++ qs = ap (λ ts. ts ++ ps) (sym f.tokens) ∙ e ∙ ap (λ ts. ts ++ qs) g.tokens in
    let one = one_indices f.indices g.indices ps qs f.some g.some shown ps_stop qs_stop in
    record {
      run = f.tokens ∙ ap (λ xs. index_tokens xs) one.indices ∙ sym g.tokens;
      same = items_one g.indices x y ns ms (subst (λ xs. AreItems xs x ns) one.indices f.each) g.each;
    }

record AgreeWoven (x y : List IndexItem) (ns ms : List (List ℕ)) (s t u v : List ℕ) : Type 0 where
  pub items : x ≡ y
  pub names : ns ≡ ms
  pub text : s ≡ t
  pub tail_same : u ≡ v

-- lists with locals among them, up to the end of the line
both_woven : (line : List ℕ) (x y : List IndexItem) (ns ms : List (List ℕ)) (s t u v : List ℕ) →
    Both line (woven x ns s ∷ kept tail u ∷ []) (woven y ms t ∷ kept tail v ∷ []) → AgreeWoven x y ns ms s t u v
both_woven line x y ns ms s t u v b =
    let cut = woven_cut (texts line b.one.0) (texts line b.other.0) (texts line b.one.1) (texts line b.other.1) x y ns ms
    (texts_cut line b.tokens b.one.0 b.other.0 b.one.1 b.other.1 b.one.2 b.other.2) b.one.3.0 b.other.3.0
    (tail_stops (texts line b.one.1) (rest_tail line b.one.1 u b.one.4)) (tail_stops (texts line b.other.1) (rest_tail line b.other.1 v b.other.4)) in
    let runs = same_run line b.one.0 b.other.0 b.one.1 b.other.1 (sym b.one.2 ∙ b.other.2) cut.run in
    record {
      items = cut.same.items;
      names = cut.same.names;
      text = b.one.3.1 ∙ ap (λ r. cut_text line r) runs.run ∙ sym b.other.3.1;
      tail_same = both_tail line u v (record { tokens = b.one.1; one = b.one.4; other = along line (kept tail v ∷ []) b.one.1 b.other.1 runs.behind b.other.4 });
    }

-- a list of numbers is none with a local
numbers_no_woven : (line : List ℕ) (values : List ℤ) (x : List IndexItem) (ns : List (List ℕ)) (s t u v : List ℕ) →
    Both line (kept (indices values) s ∷ kept tail u ∷ []) (woven x ns t ∷ kept tail v ∷ []) → ns ≡ []
numbers_no_woven line values x ns s t u v b =
    let f = b.one.3.0 in
    let g = b.other.3.0 in
    let shown : index_tokens f.indices ++ texts line b.one.1 ≡ index_tokens g.indices ++ texts line b.other.1 =
    ap (λ ts. ts ++ texts line b.one.1) (sym f.tokens) ∙ texts_cut line b.tokens b.one.0 b.other.0 b.one.1 b.other.1 b.one.2 b.other.2 ∙ ap (λ ts. ts ++ texts line b.other.1) g.tokens in
    let one = one_indices f.indices g.indices (texts line b.one.1) (texts line b.other.1) f.some g.some shown
    (tail_stops (texts line b.one.1) (rest_tail line b.one.1 u b.one.4)) (tail_stops (texts line b.other.1) (rest_tail line b.other.1 v b.other.4)) in
    numbers_none g.indices values x ns (subst (λ xs. AreIndices xs values) one.indices f.each) g.each

-- a local is told by its text
local_one : (a b : RawVal) → IsLocal a → IsLocal b → part_text (value_part a) ≡ part_text (value_part b) → a ≡ b
local_one (Num ty n) b f g e = absurd f
local_one (Global n) b f g e = absurd f
local_one (Local n) (Num ty m) f g e = absurd g
local_one (Local n) (Global m) f g e = absurd g
local_one (Local n) (Local m) f g e = ap (λ k. Local k) (name_one n m f g (behind_first 37 37 (name_text n) (name_text m) e))

term_one : (ty : Ty) (size : ℕ) (x y : RawIndex) → IsTermOf ty size x → IsTermOf ty size y → index_text x ≡ index_text y → x ≡ y
term_one ty size x y f g e =
    ap (λ v. record { val = v; ty = x.ty; scale = x.scale }) (local_one x.val y.val f.2 g.2 e)
    ∙ ap (λ t. record { val = y.val; ty = t; scale = x.scale }) (f.0 ∙ sym g.0) ∙ ap (λ s. record { val = y.val; ty = y.ty; scale = s }) (f.1 ∙ sym g.1)

heads_same : (a b : List ℕ) (s t : List (List ℕ)) → a ∷ s ≡ b ∷ t → (a ≡ b) × (s ≡ t)
heads_same a b s t e = (cc, cc)

terms_one : (sizes : List ℕ) (items : List IndexItem) (xs ys : List RawIndex) → AreTerms sizes items xs → AreTerms sizes items ys →
    map index_text xs ≡ map index_text ys → xs ≡ ys
terms_one sizes [] xs ys f g e = f ∙ sym g
terms_one [] (item ∷ items) xs ys f g e = absurd f
terms_one (size ∷ sizes) (constant v ∷ items) xs ys f g e = terms_one sizes items xs ys f g e
terms_one (size ∷ sizes) (term ty ∷ items) [] ys f g e = absurd f
terms_one (size ∷ sizes) (term ty ∷ items) (x ∷ xs) [] f g e = absurd g
terms_one (size ∷ sizes) (term ty ∷ items) (x ∷ xs) (y ∷ ys) f g e =
    let both = heads_same (index_text x) (index_text y) (map index_text xs) (map index_text ys) e in
    ap (λ t. t ∷ xs) (term_one ty size x y f.0 g.0 both.0) ∙ ap (λ ts. y ∷ ts) (terms_one sizes items xs ys f.1 g.1 both.1)

pub step_one : (line : List ℕ) (s t : Scale) (a b : RawVal) (m n : ℤ) (xs ys : List RawIndex) (c d i j u v : List ℕ) →
    FitsInst s (Step a m xs c i u) → FitsInst t (Step b n ys d j v) →
    Both line (inst_parts s (Step a m xs c i u)) (inst_parts t (Step b n ys d j v)) → Step a m xs c i u ≡ Step b n ys d j v
step_one line s t a b m n xs ys c d i j u v f g h =
    let heads = both_gep_head line s.sizes t.sizes c d (comma_parts ++ typed_parts Ptr a ++ comma_parts ++ woven s.items (map index_text xs) i ∷ kept tail u ∷ [])
    (comma_parts ++ typed_parts Ptr b ++ comma_parts ++ woven t.items (map index_text ys) j ∷ kept tail v ∷ []) (both_lead line word.Getelementptr _ _ h) in
    let bases = both_typed line Ptr Ptr a b (comma_parts ++ woven s.items (map index_text xs) i ∷ kept tail u ∷ [])
    (comma_parts ++ woven t.items (map index_text ys) j ∷ kept tail v ∷ []) f.0 g.0 (both_lead line word.Comma _ _ heads.rest) in
    let ends = both_woven line s.items t.items (map index_text xs) (map index_text ys) i j u v (both_lead line word.Comma _ _ bases.rest) in
    let fits : AreTerms t.sizes t.items xs = subst (λ x. AreTerms x t.items xs) heads.sizes (subst (λ x. AreTerms s.sizes x xs) ends.items f.2) in
    let terms : xs ≡ ys = terms_one t.sizes t.items xs ys fits g.2 ends.names in
    let offsets : m ≡ n = f.3 ∙ ap (λ x. offset_of_items x s.items) heads.sizes ∙ ap (λ x. offset_of_items t.sizes x) ends.items ∙ sym g.3 in
    ap (λ x. Step x m xs c i u) bases.value_same ∙ ap (λ x. Step b x xs c i u) offsets ∙ ap (λ x. Step b n x c i u) terms
    ∙ ap (λ x. Step b n ys x i u) heads.text ∙ ap (λ x. Step b n ys d x u) ends.text ∙ ap (λ x. Step b n ys d j x) ends.tail_same

no_texts : (xs : List RawIndex) → map index_text xs ≡ [] → xs ≡ []
no_texts [] e = refl
no_texts (x ∷ xs) e = absurd (cc)

-- a getelementptr of numbers alone
pub gep_no_step : (line : List ℕ) (s t : Scale) (a b : RawVal) (m n : ℤ) (ys : List RawIndex) (c d i j u v : List ℕ) →
    FitsInst s (Gep a m c i u) → FitsInst t (Step b n ys d j v) →
    Both line (inst_parts s (Gep a m c i u)) (inst_parts t (Step b n ys d j v)) → ⊥
gep_no_step line s t a b m n ys c d i j u v f g h =
    let heads = both_gep_head line s.sizes t.sizes c d (comma_parts ++ typed_parts Ptr a ++ comma_parts ++ kept (indices s.indices) i ∷ kept tail u ∷ [])
    (comma_parts ++ typed_parts Ptr b ++ comma_parts ++ woven t.items (map index_text ys) j ∷ kept tail v ∷ []) (both_lead line word.Getelementptr _ _ h) in
    let bases = both_typed line Ptr Ptr a b (comma_parts ++ kept (indices s.indices) i ∷ kept tail u ∷ [])
    (comma_parts ++ woven t.items (map index_text ys) j ∷ kept tail v ∷ []) f.0 g.0 (both_lead line word.Comma _ _ heads.rest) in
    let none = numbers_no_woven line s.indices t.items (map index_text ys) i j u v (both_lead line word.Comma _ _ bases.rest) in
    g.1 (no_texts ys none)
