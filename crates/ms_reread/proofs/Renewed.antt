-- Lists of indices with other texts in the places of their locals.
use Rattle.std.proofs.Common.{◌≡◌, ◌≢◌, ◌+◌, ◌==◌, ℕ, Bool, true, false, List, [], ◌∷◌, ◌++◌, if◌then◌else◌, length, map, refl, sym, ap, subst, ◌∙◌, inl, inr, arith}
use Rattle.std.specs.List.{list_all}
use Rattle.std.specs.Char.{is_ascii_digit}
use Rattle.std.proofs.lemmas.Bool.{and_parts, or_cases, eqb-true, false≢true}
use Rattle.std.proofs.lemmas.Bool.Decides.{nat_tests}
use Rattle.ms_lex.specs.Kinds.{is_token, is_digits, is_number}
use Rattle.ms_lex.specs.declared.token.Token.{Token}
use Rattle.ms_lex.specs.declared.token.TokenKind.TheVariants as kind
use Rattle.ms_ir.specs.declared.names.Ty.{Ty}
use Rattle.ms_ir.specs.declared.names.Ty.TheVariants.{I1, I8, I16, I32, I64, Ptr}
use Rattle.ms_grammar.specs.Words.{spelling, type_word}
use Rattle.ms_grammar.specs.Kept.{Each, Index, more_indices, index_tokens, IndexItem, constant, term, AreItems, AreWoven}
use Rattle.ms_grammar.specs.Parts.{woven, part_text, texts, filled, is_local, cut_text, kept_text}
use Rattle.ms_grammar.specs.Form.{value_part, index_text}
use Rattle.ms_grammar.specs.Fits.{IsLocal, AreTerms}
use Rattle.ms_grammar.specs.declared.line.RawVal.{RawVal}
use Rattle.ms_grammar.specs.declared.line.RawVal.TheVariants.{Num, Local, Global}
use Rattle.ms_grammar.specs.declared.line.RawIndex.{RawIndex}
use Rattle.ms_grammar.specs.declared.keyword.Keyword.TheVariants as word
use Rattle.ms_reread.proofs.Ends.{Calm}
use Rattle.ms_reread.proofs.Places.{Stands, Run}
use Rattle.ms_reread.proofs.Moves.{AreReadable, Old, old_first}
use Rattle.ms_reread.proofs.Pieces.{Back, IsWhole, said_part, part_stands, part_long}
use Rattle.ms_reread.proofs.Tokens.{local_whole}
use Rattle.ms_reread.proofs.Filling.{IsPlain, CommaFirst, FillsAt, Fills, replaced_at, replaced, mark_of, FirstPlain, refilled}

-- tokens of a list of indices have no percent sign but that of a local
type_plain : (ty : Ty) → IsPlain (type_word ty)
unfolding type_word
type_plain I1 = (refl, (refl, tt))
type_plain I8 = (refl, (refl, tt))
type_plain I16 = (refl, (refl, (refl, tt)))
type_plain I32 = (refl, (refl, (refl, tt)))
type_plain I64 = (refl, (refl, (refl, tt)))
type_plain Ptr = (refl, (refl, (refl, tt)))

comma_plain : IsPlain (spelling word.Comma)
unfolding spelling
comma_plain = (refl, tt)

digit_plain : (b : ℕ) → is_ascii_digit b ≡ true → (b == 37) ≡ false
digit_plain b h = grind (arith, nat_tests)

minus_plain : (b : ℕ) → (b == 45) ≡ true → (b == 37) ≡ false
minus_plain b h = rw (eqb-true b 45 h) refl

more_plain : (bs : List ℕ) → list_all is_ascii_digit bs ≡ true → IsPlain bs
more_plain [] h = tt
more_plain (b ∷ bs) h = let both = and_parts (is_ascii_digit b) _ h in (digit_plain b both.0, more_plain bs both.1)

digits_plain : (s : List ℕ) → is_digits s ≡ true → IsPlain s
digits_plain [] h = tt
digits_plain (b ∷ bs) h = let both = and_parts (is_ascii_digit b) _ h in (digit_plain b both.0, more_plain bs both.1)

pub number_plain : (s : List ℕ) → is_number s ≡ true → IsPlain s
number_plain [] h = tt
number_plain (b ∷ bs) h =
    elim (or_cases (is_digits (b ∷ bs)) _ h) [
      | inl digits ↦ digits_plain (b ∷ bs) digits
      | inr negative ↦ let both = and_parts (b == 45) _ negative in (minus_plain b both.0, digits_plain bs both.1)
    ]

pub plain_other : (s : List ℕ) → IsPlain s → is_local s ≡ false
plain_other [] h = refl
plain_other (b ∷ bs) h = h.0

local_is : (s : List ℕ) → is_token kind.Local s ≡ true → is_local s ≡ true
local_is [] h = absurd (false≢true h)
local_is (b ∷ bs) h = (and_parts (b == 37) _ h).0

-- an index with another text, and indices of which the locals have other texts
abbrev pub new_index : Index → List ℕ → Index
new_index i n = record { ty = i.ty; number = n }

abbrev pub new_indices : List Index → List IndexItem → List (List ℕ) → List Index
new_indices [] items ns = []
new_indices (i ∷ is) [] ns = []
new_indices (i ∷ is) (constant v ∷ items) ns = i ∷ new_indices is items ns
new_indices (i ∷ is) (term ty ∷ items) [] = []
new_indices (i ∷ is) (term ty ∷ items) (n ∷ ns) = new_index i n ∷ new_indices is items ns

none_of : (ns : List (List ℕ)) → length ns ≡ 0 → ns ≡ []
none_of [] e = refl
none_of (n ∷ ns) e = absurd (omega arith)

fills_other : (t : List ℕ) (ts ns : List (List ℕ)) → IsPlain t → Fills ts ns → Fills (t ∷ ts) ns
fills_other t ts ns plain h = subst (λ b. FillsAt b t ts (λ ms. Fills ts ms) ns) (sym (plain_other t plain)) (plain, h)

fills_local : (t : List ℕ) (ts : List (List ℕ)) (n : List ℕ) (ns : List (List ℕ)) → is_local t ≡ true → CommaFirst ts → Fills ts ns → Fills (t ∷ ts) (n ∷ ns)
fills_local t ts n ns e comma h = subst (λ b. FillsAt b t ts (λ ms. Fills ts ms) (n ∷ ns)) (sym e) (comma, h)

comma_first : (is : List Index) → CommaFirst (more_indices is)
comma_first [] = tt
comma_first (i ∷ is) = refl

fills_number : (i : Index) (is : List Index) (items : List IndexItem) (names ns : List (List ℕ)) → AreItems (i ∷ is) items names → length names ≡ length ns →
    ((x : List IndexItem) (ys zs : List (List ℕ)) → AreItems is x ys → length ys ≡ length zs → Fills (more_indices is) zs) → Fills (i.number ∷ more_indices is) ns
fills_number i is [] names ns h e behind = absurd h
fills_number i is (constant v ∷ items) names ns h e behind = fills_other i.number (more_indices is) ns (number_plain i.number h.0.spelled) (behind items names ns h.1 e)
fills_number i is (term ty ∷ items) [] ns h e behind = absurd h
fills_number i is (term ty ∷ items) (name ∷ names) [] h e behind = absurd (omega arith)
fills_number i is (term ty ∷ items) (name ∷ names) (n ∷ ns) h e behind =
    fills_local i.number (more_indices is) n ns (local_is i.number h.0.a_local) (comma_first is) (behind items names ns h.1 (omega arith))

fills_more : (is : List Index) (items : List IndexItem) (names ns : List (List ℕ)) → AreItems is items names → length names ≡ length ns → Fills (more_indices is) ns
fills_more [] [] names ns h e = none_of ns (sym e ∙ ap length h)
fills_more [] (item ∷ items) names ns h e = absurd h
fills_more (i ∷ is) items names ns h e =
    fills_other (spelling word.Comma) (type_word i.ty ∷ i.number ∷ more_indices is) ns comma_plain
    (fills_other (type_word i.ty) (i.number ∷ more_indices is) ns (type_plain i.ty)
    (fills_number i is items names ns h e (λ x ys zs f g. fills_more is x ys zs f g)))

fills_list : (is : List Index) (items : List IndexItem) (names ns : List (List ℕ)) → is ≢ [] → AreItems is items names → length names ≡ length ns → Fills (index_tokens is) ns
fills_list [] items names ns some h e = absurd (some refl)
fills_list (i ∷ is) items names ns some h e =
    fills_other (type_word i.ty) (i.number ∷ more_indices is) ns (type_plain i.ty) (fills_number i is items names ns h e (λ x ys zs f g. fills_more is x ys zs f g))

first_type : (is : List Index) → is ≢ [] → FirstPlain (index_tokens is)
first_type [] some = absurd (some refl)
first_type (i ∷ is) some = plain_other (type_word i.ty) (type_plain i.ty)

replaced_other : (t : List ℕ) (ts ns : List (List ℕ)) → IsPlain t → replaced (t ∷ ts) ns ≡ t ∷ replaced ts ns
replaced_other t ts ns plain = ap (λ b. replaced_at b t (λ ms. replaced ts ms) ns) (plain_other t plain)

replaced_local : (t : List ℕ) (ts : List (List ℕ)) (n : List ℕ) (ns : List (List ℕ)) → is_local t ≡ true → replaced (t ∷ ts) (n ∷ ns) ≡ n ∷ replaced ts ns
replaced_local t ts n ns e = ap (λ b. replaced_at b t (λ ms. replaced ts ms) (n ∷ ns)) e

replaced_type : (ty : Ty) (ts ns ms : List (List ℕ)) → replaced ts ns ≡ ms → replaced (type_word ty ∷ ts) ns ≡ type_word ty ∷ ms
replaced_type ty ts ns ms e = replaced_other (type_word ty) ts ns (type_plain ty) ∙ ap (λ x. type_word ty ∷ x) e

replaced_comma : (ty : Ty) (ts ns ms : List (List ℕ)) → replaced ts ns ≡ ms → replaced (spelling word.Comma ∷ type_word ty ∷ ts) ns ≡ spelling word.Comma ∷ type_word ty ∷ ms
replaced_comma ty ts ns ms e =
    replaced_other (spelling word.Comma) (type_word ty ∷ ts) ns comma_plain ∙ ap (λ x. spelling word.Comma ∷ x) (replaced_type ty ts ns ms e)

replaced_more : (is : List Index) (items : List IndexItem) (names ns : List (List ℕ)) → AreItems is items names → length names ≡ length ns →
    replaced (more_indices is) ns ≡ more_indices (new_indices is items ns)
replaced_more [] items names ns h e = refl
replaced_more (i ∷ is) [] names ns h e = absurd h
replaced_more (i ∷ is) (constant v ∷ items) names ns h e =
    replaced_comma i.ty (i.number ∷ more_indices is) ns (i.number ∷ more_indices (new_indices is items ns))
    (replaced_other i.number (more_indices is) ns (number_plain i.number h.0.spelled) ∙ ap (λ x. i.number ∷ x) (replaced_more is items names ns h.1 e))
replaced_more (i ∷ is) (term ty ∷ items) [] ns h e = absurd h
replaced_more (i ∷ is) (term ty ∷ items) (name ∷ names) [] h e = absurd (omega arith)
replaced_more (i ∷ is) (term ty ∷ items) (name ∷ names) (n ∷ ns) h e =
    replaced_comma i.ty (i.number ∷ more_indices is) (n ∷ ns) (n ∷ more_indices (new_indices is items ns))
    (replaced_local i.number (more_indices is) n ns (local_is i.number h.0.a_local) ∙ ap (λ x. n ∷ x) (replaced_more is items names ns h.1 (omega arith)))

replaced_list : (is : List Index) (items : List IndexItem) (names ns : List (List ℕ)) → AreItems is items names → length names ≡ length ns →
    replaced (index_tokens is) ns ≡ index_tokens (new_indices is items ns)
replaced_list [] items names ns h e = refl
replaced_list (i ∷ is) [] names ns h e = absurd h
replaced_list (i ∷ is) (constant v ∷ items) names ns h e =
    replaced_type i.ty (i.number ∷ more_indices is) ns (i.number ∷ more_indices (new_indices is items ns))
    (replaced_other i.number (more_indices is) ns (number_plain i.number h.0.spelled) ∙ ap (λ x. i.number ∷ x) (replaced_more is items names ns h.1 e))
replaced_list (i ∷ is) (term ty ∷ items) [] ns h e = absurd h
replaced_list (i ∷ is) (term ty ∷ items) (name ∷ names) [] h e = absurd (omega arith)
replaced_list (i ∷ is) (term ty ∷ items) (name ∷ names) (n ∷ ns) h e =
    replaced_type i.ty (i.number ∷ more_indices is) (n ∷ ns) (n ∷ more_indices (new_indices is items ns))
    (replaced_local i.number (more_indices is) n ns (local_is i.number h.0.a_local) ∙ ap (λ x. n ∷ x) (replaced_more is items names ns h.1 (omega arith)))

-- a list of indices again, with these texts in the places of its locals
pub record ListAgain (line : List ℕ) (at to : ℕ) (tokens : List (List ℕ)) (ns : List (List ℕ)) (index : List ℕ) : Type 0 where
  pub run : List Token
  pub follow : Run line at to run
  pub same : texts line run ≡ tokens
  pub cut : cut_text line run ≡ filled (map mark_of ns) index
  pub kept : kept_text line run ≡ filled ns index
  pub readable : AreReadable line run

pub list_again : (line rest old : List ℕ) (at to : ℕ) (was : List Token) (items : List IndexItem) (names ns : List (List ℕ)) (index : List ℕ) → Old old was →
    (list : AreWoven items names (texts old was)) → index ≡ cut_text old was → length names ≡ length ns → Each IsWhole ns →
    Stands line at (filled ns index) rest → Calm rest → to ≡ at + length (filled ns index) → ListAgain line at to (index_tokens (new_indices list.indices items ns)) ns index
list_again line rest old at to was items names ns index o list is long whole h calm there =
    let fills : Fills (texts old was) ns = subst (λ ts. Fills ts ns) (sym list.tokens) (fills_list list.indices items names ns list.some list.each long) in
    let first : FirstPlain (texts old was) = subst (λ ts. FirstPlain ts) (sym list.tokens) (first_type list.indices list.some) in
    let new = refilled line rest old at to was ns o first fills whole (subst (λ x. Stands line at (filled ns x) rest) is h) calm (there ∙ ap (λ x. at + length (filled ns x)) is) in
    record {
      run = new.run;
      follow = new.follow;
      same = new.same ∙ (ap (λ ts. replaced ts ns) list.tokens ∙ replaced_list list.indices items names ns list.each long);
      cut = new.cut ∙ ap (λ x. filled (map mark_of ns) x) (sym is);
      kept = new.kept ∙ ap (λ x. filled ns x) (sym is);
      readable = new.readable;
    }

-- the same texts again
same_indices : (is : List Index) (items : List IndexItem) (names : List (List ℕ)) → AreItems is items names → new_indices is items names ≡ is
same_indices [] items names h = refl
same_indices (i ∷ is) [] names h = absurd h
same_indices (i ∷ is) (constant v ∷ items) names h = ap (λ x. i ∷ x) (same_indices is items names h.1)
same_indices (i ∷ is) (term ty ∷ items) [] h = absurd h
same_indices (i ∷ is) (term ty ∷ items) (name ∷ names) h =
    ap (λ n. new_index i n ∷ new_indices is items names) (sym h.0.is) ∙ ap (λ x. i ∷ x) (same_indices is items names h.1)

mark_local : (n : List ℕ) → is_local n ≡ true → mark_of n ≡ 37 ∷ []
mark_local n e = ap (λ b. if b then 37 ∷ [] else n) e

all_marks : (is : List Index) (items : List IndexItem) (names : List (List ℕ)) → AreItems is items names → Each (λ k. k ≡ 37 ∷ []) (map mark_of names)
all_marks [] [] names h = subst (λ ns. Each (λ k. k ≡ 37 ∷ []) (map mark_of ns)) (sym h) tt
all_marks [] (item ∷ items) names h = absurd h
all_marks (i ∷ is) [] names h = absurd h
all_marks (i ∷ is) (constant v ∷ items) names h = all_marks is items names h.1
all_marks (i ∷ is) (term ty ∷ items) [] h = absurd h
all_marks (i ∷ is) (term ty ∷ items) (name ∷ names) h =
    (mark_local name (subst (λ n. is_local n ≡ true) h.0.is (local_is i.number h.0.a_local)), all_marks is items names h.1)

filled_marks : (ks : List (List ℕ)) (text : List ℕ) → Each (λ k. k ≡ 37 ∷ []) ks → filled ks text ≡ text
filled_marks [] text all = refl
filled_marks (k ∷ ks) [] all = refl
filled_marks (k ∷ ks) (b ∷ bs) all = by_test (b == 37) refl (filled_marks ks bs all.1) (filled_marks (k ∷ ks) bs all)
  where
    by_test : (c : Bool) → (b == 37) ≡ c → filled ks bs ≡ bs → filled (k ∷ ks) bs ≡ bs → (if c then k ++ filled ks bs else b ∷ filled (k ∷ ks) bs) ≡ b ∷ bs
    by_test true e one other = ap (λ x. x ++ filled ks bs) all.0 ∙ (ap (λ x. 37 ∷ x) one ∙ ap (λ x. x ∷ bs) (sym (eqb-true b 37 e)))
    by_test false e one other = ap (λ x. b ∷ x) other

local_value : (v : RawVal) → IsLocal v → IsWhole (part_text (value_part v))
local_value (Num ty n) h = absurd h
local_value (Local n) h = local_whole n h
local_value (Global n) h = absurd h

pub terms_whole : (sizes : List ℕ) (items : List IndexItem) (terms : List RawIndex) → AreTerms sizes items terms → Each IsWhole (map index_text terms)
terms_whole sizes [] terms h = subst (λ ts. Each IsWhole (map index_text ts)) (sym h) tt
terms_whole [] (item ∷ items) terms h = absurd h
terms_whole (size ∷ sizes) (constant v ∷ items) terms h = terms_whole sizes items terms h
terms_whole (size ∷ sizes) (term ty ∷ items) [] h = absurd h
terms_whole (size ∷ sizes) (term ty ∷ items) (t ∷ terms) h = (local_value t.val h.0.2, terms_whole sizes items terms h.1)

pub woven_back : (items : List IndexItem) (names : List (List ℕ)) (index : List ℕ) → Each IsWhole names → Back false (woven items names index ∷ []) (woven items names index ∷ [])
woven_back items names index whole = record {
  again = λ old tokens o h line rest at to stands before there.
      let list : AreWoven items names (texts old h.0) = h.3.0 in
      let new = list_again line rest old at to h.0 items names names index (old_first old h.0 h.1 (subst (λ x. Old old x) h.2 o)) list h.3.1 refl whole
      (part_stands line at (woven items names index) rest stands) before (there ∙ ap (λ n. at + n) (part_long (woven items names index))) in
      let same : texts line new.run ≡ texts old h.0 = new.same ∙ (ap (λ x. index_tokens x) (same_indices list.indices items names list.each) ∙ sym list.tokens) in
      let cut : index ≡ cut_text line new.run = sym (new.cut ∙ filled_marks (map mark_of names) index (all_marks list.indices items names list.each)) in
      said_part line at to (woven items names index) new.run new.follow (subst (λ ts. AreWoven items names ts) (sym same) list, cut) new.readable;
}
