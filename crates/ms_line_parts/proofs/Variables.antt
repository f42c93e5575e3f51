-- The locals among indices are read one by one.
use Rattle.std.proofs.Common.{◌≡◌, ◌≢◌, ℕ, ◌-◌, ◌^◌, ◌<◌, ◌≤◌, min, Bool, true, false, ◌&&◌, List, [], ◌∷◌, ◌++◌, Some, None, map, reverse, length, drop, nat_lt, refl, sym, ap, subst, ◌∙◌, arith, append-nil}
use Rattle.std.specs.Prelude.{MatchOption, Option}
use Rattle.std.specs.List.{list_all}
use Rattle.std.proofs.lemmas.Bool.{and_parts}
use Rattle.std.proofs.lemmas.Bool.Decides.{nat_tests}
use Rattle.std.proofs.lemmas.List.{reverse-append, append_assoc, map-append, drop-map, length-map}
use Rattle.ms_lex.specs.Kinds.{is_token}
use Rattle.ms_lex.specs.declared.token.Token.{Token}
use Rattle.ms_lex.specs.declared.token.TokenKind.TheVariants as kind
use Rattle.ms_ir.specs.declared.names.Ty.{Ty}
use Rattle.ms_ir.specs.declared.names.Name.{Name}
use Rattle.ms_grammar.specs.Words.{type_word}
use Rattle.ms_grammar.specs.Kept.{Each, IsStored, Index, IsTermIndex, IndexItem, constant, term, AreItems, more_indices, index_tokens, AreWoven}
use Rattle.ms_grammar.specs.Parts.{texts, bytes_at}
use Rattle.ms_grammar.specs.Form.{index_text, name_text}
use Rattle.ms_grammar.specs.Fits.{IsNamed, IsLocal, IsTermOf, AreTerms}
use Rattle.ms_grammar.specs.Limits.{IsSmallTerm}
use Rattle.ms_grammar.specs.declared.line.RawVal.{RawVal}
use Rattle.ms_grammar.specs.declared.line.RawVal.TheVariants.{Num, Local, Global}
use Rattle.ms_grammar.specs.declared.line.RawIndex.{RawIndex}
use Rattle.ms_line_parts.specs.Sizes.{cut, stored_type}
use Rattle.ms_line_parts.specs.Terms.{held, is_small, IsTermAt, IsPut, number, variable}
use Rattle.ms_line_parts.proofs.Sizing.{stored_there}
use Rattle.ms_line_parts.proofs.OneKind.{only_kind}

-- a local without a name is no term
pub no_term : (n : ℕ) (ty name : List ℕ) → ((m : Name) → IsNamed m → name ≢ 37 ∷ name_text m) → (t : RawIndex) → IsTermAt n ty name t → ⊥
no_term n ty name none t h = by_value t.val refl h.a_local
  where
    by_value : (v : RawVal) → t.val ≡ v → IsLocal v → ⊥
    by_value (Num tz k) e f = f
    by_value (Local m) e f = none m f (h.named ∙ ap (λ x. index_text (record { val = x; ty = t.ty; scale = t.scale })) e)
    by_value (Global m) e f = f

-- a term that is held
pub term_is : (n scale : ℕ) (ty name : List ℕ) (known : Ty) (m : Name) → Some known ≡ stored_type ty → IsNamed m → name ≡ 37 ∷ name_text m → scale ≡ min n (2 ^ 64 - 1) →
    (whole : RawIndex) × IsTermAt n ty name whole × (◌≡◌ {A = RawIndex} (record { val = Local m; ty = known; scale = scale }) (held whole))
term_is n scale ty name known m typed named is e =
    (record { val = Local m; ty = known; scale = n }, record { typed = sym typed; scaled = refl; a_local = named; named = is }, ap (λ (k : ℕ). record { val = Local m; ty = known; scale = k }) e)

-- the terms so far, and what the others have to be
pub record SoFar (sizes : List ℕ) (items : List IndexItem) (names : List (List ℕ)) (levels : List ℕ) (left : List (List ℕ)) (terms : List RawIndex) : Type 0 where
  pub more_sizes : List ℕ
  pub more_items : List IndexItem
  pub more_names : List (List ℕ)
  pub indices : List Index
  pub done : List RawIndex
  pub stacked : reverse levels ≡ map cut more_sizes
  pub shown : left ≡ index_tokens indices
  pub each : AreItems indices more_items more_names
  pub pushed : terms ≡ map held done
  pub on : (more : List RawIndex) → AreTerms more_sizes more_items more → more_names ≡ map index_text more → AreTerms sizes items (done ++ more) × (names ≡ map index_text (done ++ more))
  pub back : (ts : List RawIndex) → AreTerms sizes items ts → names ≡ map index_text ts → (more : List RawIndex) × AreTerms more_sizes more_items more × (more_names ≡ map index_text more)

pub so_far_first : (sizes : List ℕ) (items : List IndexItem) (names : List (List ℕ)) (levels : List ℕ) (left : List (List ℕ)) (terms : List RawIndex) → reverse levels ≡ map cut sizes →
    AreWoven items names left → terms ≡ [] → SoFar sizes items names levels left terms
so_far_first sizes items names levels left terms stacked woven e = record {
  more_sizes = sizes;
  more_items = items;
  more_names = names;
  indices = woven.indices;
  done = [];
  stacked = stacked;
  shown = woven.tokens;
  each = woven.each;
  pushed = e;
  on = λ more are names_are. (are, names_are);
  back = λ ts are names_are. (ts, are, names_are);
}

-- the tokens of the next index
pub at_next : (sizes : List ℕ) (items : List IndexItem) (names : List (List ℕ)) (levels : List ℕ) (line : List ℕ) (left : List Token) (ty name : Token) (rest : List Token) (terms : List RawIndex) →
    SoFar sizes items names levels (texts line left) terms → left ≡ ty ∷ name ∷ rest → SoFar sizes items names levels (bytes_at line ty ∷ bytes_at line name ∷ texts line rest) terms
at_next sizes items names levels line left ty name rest terms s e = subst (λ ts. SoFar sizes items names levels (texts line ts) terms) e s

pub no_members : (xs : List ℕ) → length xs ≡ 0 → xs ≡ []
no_members [] e = refl
no_members (x ∷ xs) e = absurd (omega arith)

pub behind_mark : (line : List ℕ) (rest now : List Token) → now ≡ drop 1 rest → texts line now ≡ drop 1 (texts line rest)
behind_mark line rest now e = ap (texts line) e ∙ sym (drop-map (bytes_at line) 1 rest)

pub short_texts : (line : List ℕ) (left : List Token) → length left < 2 → length (texts line left) < 2
short_texts line left h = omega (arith, h, length-map left (bytes_at line))

behind_first : (i : Index) (is : List Index) → drop 3 (index_tokens (i ∷ is)) ≡ index_tokens is
behind_first i [] = refl
behind_first i (j ∷ is) = refl

first_of : (a b c d : List ℕ) (s t : List (List ℕ)) → a ∷ b ∷ s ≡ c ∷ d ∷ t → (a ≡ c) × (b ≡ d)
first_of a b c d s t e = (cc, cc)

-- the next index
record Next (indices : List Index) (ty name : List ℕ) (rest : List (List ℕ)) : Type 0 where
  index : Index
  others : List Index
  is : indices ≡ index ∷ others
  typed : ty ≡ type_word index.ty
  named : name ≡ index.number
  behind : drop 1 rest ≡ index_tokens others

next_of : (indices : List Index) (ty name : List ℕ) (rest : List (List ℕ)) → ty ∷ name ∷ rest ≡ index_tokens indices → Next indices ty name rest
next_of [] ty name rest e = absurd (cc)
next_of (i ∷ is) ty name rest e =
    let heads = first_of ty name (type_word i.ty) i.number rest (more_indices is) e in
    record { index = i; others = is; is = refl; typed = heads.0; named = heads.1; behind = ap (drop 3) e ∙ behind_first i is }

tails_one : (a b : List ℕ) (s t : List (List ℕ)) → a ∷ s ≡ b ∷ t → s ≡ t
tails_one a b s t e = cc

-- a level is taken off
pub record Popped (kept : List ℕ) (size : ℕ) (sizes : List ℕ) : Type 0 where
  pub level : ℕ
  pub others : List ℕ
  pub is : sizes ≡ level ∷ others
  pub held_as : size ≡ cut level
  pub behind : reverse kept ≡ map cut others

popped : (levels kept : List ℕ) (size : ℕ) (sizes : List ℕ) → reverse levels ≡ map cut sizes → levels ≡ kept ++ size ∷ [] → Popped kept size sizes
popped levels kept size [] e pop =
    let all : size ∷ reverse kept ≡ [] = sym (reverse-append kept (size ∷ [])) ∙ ap reverse (sym pop) ∙ e in absurd (cc)
popped levels kept size (n ∷ ns) e pop =
    let all : size ∷ reverse kept ≡ cut n ∷ map cut ns = sym (reverse-append kept (size ∷ [])) ∙ ap reverse (sym pop) ∙ e in
    record { level = n; others = ns; is = refl; held_as = first_number size (cut n) (reverse kept) (map cut ns) all; behind = other_numbers size (cut n) (reverse kept) (map cut ns) all }
  where
    first_number : (a b : ℕ) (s t : List ℕ) → a ∷ s ≡ b ∷ t → a ≡ b
    first_number a b s t e = cc

    other_numbers : (a b : ℕ) (s t : List ℕ) → a ∷ s ≡ b ∷ t → s ≡ t
    other_numbers a b s t e = cc

nothing : (sizes : List ℕ) → map cut sizes ≡ [] → sizes ≡ []
nothing [] e = refl
nothing (n ∷ ns) e = absurd (cc)

-- there are more indices than levels
none_fits : (i : Index) (is : List Index) (items : List IndexItem) (names : List (List ℕ)) (ts : List RawIndex) → AreItems (i ∷ is) items names → AreTerms [] items ts → ⊥
none_fits i is [] names ts f g = f
none_fits i is (item ∷ items) names ts f g = g

pub no_level : (sizes : List ℕ) (items : List IndexItem) (names : List (List ℕ)) (levels : List ℕ) (ty name : List ℕ) (rest : List (List ℕ)) (terms : List RawIndex) →
    SoFar sizes items names levels (ty ∷ name ∷ rest) terms → levels ≡ [] → (ts : List RawIndex) → AreTerms sizes items ts → names ≡ map index_text ts → ⊥
no_level sizes items names levels ty name rest terms s empty ts are names_are =
    let next = next_of s.indices ty name rest s.shown in
    let more = s.back ts are names_are in
    none_fits next.index next.others s.more_items s.more_names more.0 (subst (λ is. AreItems is s.more_items s.more_names) next.is s.each)
    (subst (λ l. AreTerms l s.more_items more.0) (nothing s.more_sizes (sym s.stacked ∙ ap reverse empty)) more.1)

-- a local has no name
no_name_by : (n : ℕ) (ns : List ℕ) (ty name : List ℕ) (i : Index) (is : List Index) (items : List IndexItem) (names : List (List ℕ)) (ts : List RawIndex) → ty ≡ type_word i.ty → name ≡ i.number →
    is_token kind.Local name ≡ true → ((t : RawIndex) → IsTermAt n ty name t → ⊥) → AreItems (i ∷ is) items names → AreTerms (n ∷ ns) items ts → names ≡ map index_text ts → ⊥
no_name_by n ns ty name i is [] names ts typed named token none f g e = f
no_name_by n ns ty name i is (constant v ∷ items) names ts typed named token none f g e =
    let same_kind = only_kind kind.Local kind.Number i.number (subst (λ s. is_token kind.Local s ≡ true) named token) f.0.spelled in cc
no_name_by n ns ty name i is (term tz ∷ items) [] ts typed named token none f g e = f
no_name_by n ns ty name i is (term tz ∷ items) (m ∷ names) [] typed named token none f g e = g
no_name_by n ns ty name i is (term tz ∷ items) (m ∷ names) (t ∷ ts) typed named token none f g e =
    none t (record {
      typed = ap stored_type typed ∙ stored_there i.ty (subst (λ z. IsStored z) (sym f.0.typed) f.0.stored) ∙ ap Some (f.0.typed ∙ sym g.0.0);
      scaled = g.0.1;
      a_local = g.0.2;
      named = named ∙ f.0.is ∙ first_text m (index_text t) names (map index_text ts) e;
    })
  where
    first_text : (a b : List ℕ) (s u : List (List ℕ)) → a ∷ s ≡ b ∷ u → a ≡ b
    first_text a b s u e = cc

pub no_name : (sizes : List ℕ) (items : List IndexItem) (names : List (List ℕ)) (levels kept : List ℕ) (size : ℕ) (ty name : List ℕ) (rest : List (List ℕ)) (terms : List RawIndex) →
    SoFar sizes items names levels (ty ∷ name ∷ rest) terms → levels ≡ kept ++ size ∷ [] → is_token kind.Local name ≡ true → ((n : ℕ) → size ≡ cut n → (t : RawIndex) → IsTermAt n ty name t → ⊥) →
    (ts : List RawIndex) → AreTerms sizes items ts → names ≡ map index_text ts → ⊥
no_name sizes items names levels kept size ty name rest terms s pop token none ts are names_are =
    let next = next_of s.indices ty name rest s.shown in
    let level = popped levels kept size s.more_sizes s.stacked pop in
    let more = s.back ts are names_are in
    no_name_by level.level level.others ty name next.index next.others s.more_items s.more_names more.0 next.typed next.named token (none level.level level.held_as)
    (subst (λ is. AreItems is s.more_items s.more_names) next.is s.each) (subst (λ l. AreTerms l s.more_items more.0) level.is more.1) more.2

-- one index more
term_of : (n : ℕ) (ty name : List ℕ) (i : Index) (tz : Ty) (m : List ℕ) (t : RawIndex) → ty ≡ type_word i.ty → IsTermIndex i tz m → IsTermAt n ty name t → IsTermOf tz n t
term_of n ty name i tz m t typed f h =
    let known : stored_type ty ≡ Some i.ty = ap stored_type typed ∙ stored_there i.ty (subst (λ z. IsStored z) (sym f.typed) f.stored) in
    let told = h.typed in
    let types : t.ty ≡ i.ty = cc in
    (types ∙ f.typed, h.scaled, h.a_local)

-- what is left behind the next index
record Left (sizes : List ℕ) (items : List IndexItem) (names : List (List ℕ)) (now done : List RawIndex) (is : List Index) (others : List ℕ) : Type 0 where
  more_items : List IndexItem
  more_names : List (List ℕ)
  all : List RawIndex
  each : AreItems is more_items more_names
  pushed : now ≡ map held all
  on : (more : List RawIndex) → AreTerms others more_items more → more_names ≡ map index_text more → AreTerms sizes items (all ++ more) × (names ≡ map index_text (all ++ more))
  back : (ts : List RawIndex) → AreTerms sizes items ts → names ≡ map index_text ts → (more : List RawIndex) × AreTerms others more_items more × (more_names ≡ map index_text more)

left_by : (sizes : List ℕ) (items : List IndexItem) (names : List (List ℕ)) (n : ℕ) (ns : List ℕ) (ty name : List ℕ) (i : Index) (is : List Index) (mi : List IndexItem) (mn : List (List ℕ)) (done before now : List RawIndex) →
    ty ≡ type_word i.ty → name ≡ i.number → before ≡ map held done → AreItems (i ∷ is) mi mn → IsPut n ty name before now →
    ((more : List RawIndex) → AreTerms (n ∷ ns) mi more → mn ≡ map index_text more → AreTerms sizes items (done ++ more) × (names ≡ map index_text (done ++ more))) →
    ((ts : List RawIndex) → AreTerms sizes items ts → names ≡ map index_text ts → (more : List RawIndex) × AreTerms (n ∷ ns) mi more × (mn ≡ map index_text more)) →
    Left sizes items names now done is ns
left_by sizes items names n ns ty name i is [] mn done before now typed named pushed f put on back = absurd f
left_by sizes items names n ns ty name i is (constant v ∷ mi) mn done before now typed named pushed f (number no_local same) on back = record {
  more_items = mi;
  more_names = mn;
  all = done;
  each = f.1;
  pushed = same ∙ pushed;
  on = on;
  back = back;
}
left_by sizes items names n ns ty name i is (constant v ∷ mi) mn done before now typed named pushed f (variable t token is_t same) on back =
    let same_kind = only_kind kind.Local kind.Number i.number (subst (λ s. is_token kind.Local s ≡ true) named token) f.0.spelled in absurd (cc)
left_by sizes items names n ns ty name i is (term tz ∷ mi) [] done before now typed named pushed f put on back = absurd f
left_by sizes items names n ns ty name i is (term tz ∷ mi) (m ∷ mn) done before now typed named pushed f (number no_local same) on back =
    let token : is_token kind.Local name ≡ true = subst (λ s. is_token kind.Local s ≡ true) (sym named) f.0.a_local in absurd (cc)
left_by sizes items names n ns ty name i is (term tz ∷ mi) (m ∷ mn) done before now typed named pushed f (variable t token is_t same) on back = record {
  more_items = mi;
  more_names = mn;
  all = done ++ t ∷ [];
  each = f.1;
  pushed = same ∙ ap (λ l. l ++ held t ∷ []) pushed ∙ sym (map-append held done (t ∷ []));
  on = λ more are e.
      subst (λ l. AreTerms sizes items l × (names ≡ map index_text l)) (sym (append_assoc done (t ∷ []) more))
      (on (t ∷ more) (term_of n ty name i tz m t typed f.0 is_t, are) (ap (λ s. s ∷ mn) (sym f.0.is ∙ sym named ∙ is_t.named) ∙ ap (λ l. index_text t ∷ l) e));
  back = λ ts are e. let k = back ts are e in by_more k.0 k.1 k.2;
}
  where
    by_more : (us : List RawIndex) → AreTerms (n ∷ ns) (term tz ∷ mi) us → m ∷ mn ≡ map index_text us → (more : List RawIndex) × AreTerms ns mi more × (mn ≡ map index_text more)
    by_more [] g e = absurd g
    by_more (u ∷ us) g e = (us, g.1, tails_one m (index_text u) mn (map index_text us) e)

pub so_far_more : (sizes : List ℕ) (items : List IndexItem) (names : List (List ℕ)) (levels kept : List ℕ) (size : ℕ) (ty name : List ℕ) (rest left : List (List ℕ)) (before now : List RawIndex) →
    SoFar sizes items names levels (ty ∷ name ∷ rest) before → levels ≡ kept ++ size ∷ [] → left ≡ drop 1 rest → ((n : ℕ) → size ≡ cut n → IsPut n ty name before now) → SoFar sizes items names kept left now
so_far_more sizes items names levels kept size ty name rest left before now s pop behind put =
    let next = next_of s.indices ty name rest s.shown in
    let level = popped levels kept size s.more_sizes s.stacked pop in
    let l = left_by sizes items names level.level level.others ty name next.index next.others s.more_items s.more_names s.done before now next.typed next.named s.pushed
    (subst (λ is. AreItems is s.more_items s.more_names) next.is s.each) (put level.level level.held_as)
    (λ more are e. s.on more (subst (λ z. AreTerms z s.more_items more) (sym level.is) are) e)
    (λ ts are e. let k = s.back ts are e in (k.0, subst (λ z. AreTerms z s.more_items k.0) level.is k.1, k.2)) in
    record {
      more_sizes = level.others;
      more_items = l.more_items;
      more_names = l.more_names;
      indices = next.others;
      done = l.all;
      stacked = level.behind;
      shown = behind ∙ next.behind;
      each = l.each;
      pushed = l.pushed;
      on = l.on;
      back = l.back;
    }

-- all indices are read
pub record Whole (sizes : List ℕ) (items : List IndexItem) (names : List (List ℕ)) (terms : List RawIndex) : Type 0 where
  pub whole : List RawIndex
  pub are : AreTerms sizes items whole
  pub names_are : names ≡ map index_text whole
  pub held_as : terms ≡ map held whole

whole_by : (sizes : List ℕ) (items : List IndexItem) (names : List (List ℕ)) (ms : List ℕ) (mi : List IndexItem) (mn : List (List ℕ)) (is : List Index) (done terms : List RawIndex) → length (index_tokens is) < 2 →
    AreItems is mi mn → terms ≡ map held done →
    ((more : List RawIndex) → AreTerms ms mi more → mn ≡ map index_text more → AreTerms sizes items (done ++ more) × (names ≡ map index_text (done ++ more))) → Whole sizes items names terms
whole_by sizes items names ms [] mn [] done terms short f pushed on =
    let all = on [] refl f in record { whole = done ++ []; are = all.0; names_are = all.1; held_as = pushed ∙ ap (map held) (sym (append-nil done)) }
whole_by sizes items names ms (item ∷ mi) mn [] done terms short f pushed on = absurd f
whole_by sizes items names ms mi mn (i ∷ is) done terms short f pushed on = absurd (omega arith)

pub so_far_end : (sizes : List ℕ) (items : List IndexItem) (names : List (List ℕ)) (levels : List ℕ) (left : List (List ℕ)) (terms : List RawIndex) → SoFar sizes items names levels left terms → length left < 2 →
    (whole : List RawIndex) × AreTerms sizes items whole × (names ≡ map index_text whole) × (terms ≡ map held whole)
so_far_end sizes items names levels left terms s short =
    let w = whole_by sizes items names s.more_sizes s.more_items s.more_names s.indices s.done terms (subst (λ l. length l < 2) s.shown short) s.each s.pushed s.on in
    (w.whole, w.are, w.names_are, w.held_as)

-- terms that count by few bytes are held as they are
small_is : (t : RawIndex) → is_small (held t) ≡ true → IsSmallTerm t × (held t ≡ t)
small_is t e =
    let small : t.scale ≤ 2147483648 = omega (arith, by_test e) in
    let same : min t.scale (2 ^ 64 - 1) ≡ t.scale = omega (arith, small) in
    (small, ap (λ (k : ℕ). record { val = t.val; ty = t.ty; scale = k }) same)
  where
    by_test : nat_lt (min t.scale (2 ^ 64 - 1)) 2147483649 ≡ true → min t.scale (2 ^ 64 - 1) < 2147483649
    by_test e = grind (arith, nat_tests)

small_there : (t : RawIndex) → IsSmallTerm t → is_small (held t) ≡ true
small_there t h = let small : min t.scale (2 ^ 64 - 1) < 2147483649 = omega (arith, h) in grind (arith, nat_tests)

pub record Small (ts : List RawIndex) : Type 0 where
  pub each : Each IsSmallTerm ts
  pub same : map held ts ≡ ts

pub smalls_are : (ts : List RawIndex) → list_all is_small (map held ts) ≡ true → Small ts
smalls_are [] e = record { each = tt; same = refl }
smalls_are (t ∷ ts) e =
    let parts = and_parts (is_small (held t)) (list_all is_small (map held ts)) e in
    let first = small_is t parts.0 in
    let rest = smalls_are ts parts.1 in
    record { each = (first.0, rest.each); same = ap (λ u. u ∷ map held ts) first.1 ∙ ap (λ us. t ∷ us) rest.same }

pub smalls_there : (ts : List RawIndex) → Each IsSmallTerm ts → list_all is_small (map held ts) ≡ true
smalls_there [] each = refl
smalls_there (t ∷ ts) each = both (is_small (held t)) (list_all is_small (map held ts)) (small_there t each.0) (smalls_there ts each.1)
  where
    both : (a b : Bool) → a ≡ true → b ≡ true → (a && b) ≡ true
    both true b e f = f
    both false b e f = absurd (cc)

-- no more indices than levels
pub few : (sizes : List ℕ) (items : List IndexItem) (ts : List RawIndex) → AreTerms sizes items ts → length items ≤ length sizes
few sizes [] ts h = omega arith
few [] (item ∷ items) ts h = absurd h
few (size ∷ sizes) (constant v ∷ items) ts h = let below = few sizes items ts h in omega (arith, below)
few (size ∷ sizes) (term ty ∷ items) [] h = absurd h
few (size ∷ sizes) (term ty ∷ items) (t ∷ ts) h = let below = few sizes items ts h.1 in omega (arith, below)

pub told_more : {X : Type 0} {A B : Type 0} {P Q : X → Type 0} (r : Option X) → MatchOption r A P → (A → B) → ((x : X) → P x → Q x) → MatchOption r B Q
told_more None h f g = f h
told_more (Some x) h f g = g x h
