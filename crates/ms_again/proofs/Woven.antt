-- Lists of indices with other locals in the places of theirs are said by their printed form.
use Rattle.std.proofs.Common.{◌≡◌, ◌≢◌, ◌+◌, ◌==◌, ℕ, Bool, true, false, List, [], ◌∷◌, ◌++◌, if◌then◌else◌, length, map, refl, sym, ap, subst, ◌∙◌, arith}
use Rattle.std.proofs.lemmas.Bool.{and_parts, or_left, or_right, eqb-true, false≢true}
use Rattle.ms_lex.specs.Kinds.{is_token}
use Rattle.ms_lex.specs.declared.token.TokenKind.TheVariants as kind
use Rattle.ms_ir.specs.declared.names.Name.{Name}
use Rattle.ms_ir.specs.declared.names.Name.TheVariants as name
use Rattle.ms_grammar.specs.Kept.{Each, Index, IndexItem, AreItems, AreWoven}
use Rattle.ms_grammar.specs.Kept.IndexItem.{constant as a_number, term as a_local}
use Rattle.ms_grammar.specs.Parts.{woven, part_text, texts, filled, is_local, cut_text}
use Rattle.ms_grammar.specs.Form.{name_text, value_part, index_text}
use Rattle.ms_grammar.specs.Fits.{IsNamed, IsLocal, AreTerms}
use Rattle.ms_grammar.specs.declared.line.RawVal.{RawVal}
use Rattle.ms_grammar.specs.declared.line.RawVal.TheVariants.{Num, Local, Global}
use Rattle.ms_grammar.specs.declared.line.RawIndex.{RawIndex}
use Rattle.ms_reread.proofs.Moves.{Old, old_first}
use Rattle.ms_reread.proofs.Pieces.{Back, IsWhole, said_part, part_stands, part_long}
use Rattle.ms_reread.proofs.Tokens.{decimal_digits}
use Rattle.ms_reread.proofs.Filling.{mark_of}
use Rattle.ms_reread.proofs.Renewed.{new_indices, list_again}

-- a token of a local
abbrev pub IsLocalText : List ℕ → Type 0
IsLocalText n = is_token kind.Local n ≡ true

name_local : (n : Name) → IsNamed n → IsLocalText (37 ∷ name_text n)
name_local (name.Word text) h = or_left _ _ h
name_local (name.Number n) h = or_right _ _ (decimal_digits n (omega arith))
name_local name.Absent h = absurd h

value_local : (v : RawVal) → IsLocal v → IsLocalText (part_text (value_part v))
value_local (Num ty n) h = absurd h
value_local (Local n) h = name_local n h
value_local (Global n) h = absurd h

pub terms_local : (sizes : List ℕ) (items : List IndexItem) (terms : List RawIndex) → AreTerms sizes items terms → Each IsLocalText (map index_text terms)
terms_local sizes [] terms h = subst (λ ts. Each IsLocalText (map index_text ts)) (sym h) tt
terms_local [] (item ∷ items) terms h = absurd h
terms_local (size ∷ sizes) (a_number v ∷ items) terms h = terms_local sizes items terms h
terms_local (size ∷ sizes) (a_local ty ∷ items) [] h = absurd h
terms_local (size ∷ sizes) (a_local ty ∷ items) (t ∷ terms) h = (value_local t.val h.0.2, terms_local sizes items terms h.1)

-- indices with other locals are the same items
none_of : (ns : List (List ℕ)) → length ns ≡ 0 → ns ≡ []
none_of [] e = refl
none_of (n ∷ ns) e = absurd (omega arith)

new_items : (is : List Index) (items : List IndexItem) (names ns : List (List ℕ)) → AreItems is items names → length names ≡ length ns → Each IsLocalText ns → AreItems (new_indices is items ns) items ns
new_items [] [] names ns h e locals = none_of ns (sym e ∙ ap length h)
new_items [] (item ∷ items) names ns h e locals = absurd h
new_items (i ∷ is) [] names ns h e locals = absurd h
new_items (i ∷ is) (a_number v ∷ items) names ns h e locals = (h.0, new_items is items names ns h.1 e locals)
new_items (i ∷ is) (a_local ty ∷ items) [] ns h e locals = absurd h
new_items (i ∷ is) (a_local ty ∷ items) (name ∷ names) [] h e locals = absurd (omega arith)
new_items (i ∷ is) (a_local ty ∷ items) (name ∷ names) (n ∷ ns) h e locals =
    (record { typed = h.0.typed; stored = h.0.stored; a_local = locals.0; is = refl }, new_items is items names ns h.1 (omega arith) locals.1)

some_new : (is : List Index) (items : List IndexItem) (names ns : List (List ℕ)) → is ≢ [] → AreItems is items names → length names ≡ length ns → new_indices is items ns ≢ []
some_new [] items names ns some h e = λ none. some refl
some_new (i ∷ is) [] names ns some h e = absurd h
some_new (i ∷ is) (a_number v ∷ items) names ns some h e = λ none. absurd (cc)
some_new (i ∷ is) (a_local ty ∷ items) [] ns some h e = absurd h
some_new (i ∷ is) (a_local ty ∷ items) (name ∷ names) [] some h e = absurd (omega arith)
some_new (i ∷ is) (a_local ty ∷ items) (name ∷ names) (n ∷ ns) some h e = λ none. absurd (cc)

-- locals are cut to percent signs, which stand there already
first_percent : (n : List ℕ) → IsLocalText n → is_local n ≡ true
first_percent [] h = absurd (false≢true h)
first_percent (b ∷ bs) h = (and_parts (b == 37) _ h).0

all_marks : (ns : List (List ℕ)) → Each IsLocalText ns → Each (λ k. k ≡ 37 ∷ []) (map mark_of ns)
all_marks [] h = tt
all_marks (n ∷ ns) h = (ap (λ b. if b then 37 ∷ [] else n) (first_percent n h.0), all_marks ns h.1)

filled_marks : (ks : List (List ℕ)) (text : List ℕ) → Each (λ k. k ≡ 37 ∷ []) ks → filled ks text ≡ text
filled_marks [] text all = refl
filled_marks (k ∷ ks) [] all = refl
filled_marks (k ∷ ks) (b ∷ bs) all = by_test (b == 37) refl (filled_marks ks bs all.1) (filled_marks (k ∷ ks) bs all)
  where
    by_test : (c : Bool) → (b == 37) ≡ c → filled ks bs ≡ bs → filled (k ∷ ks) bs ≡ bs → (if c then k ++ filled ks bs else b ∷ filled (k ∷ ks) bs) ≡ b ∷ bs
    by_test true e one other = ap (λ x. x ++ filled ks bs) all.0 ∙ (ap (λ x. 37 ∷ x) one ∙ ap (λ x. x ∷ bs) (sym (eqb-true b 37 e)))
    by_test false e one other = ap (λ x. b ∷ x) other

pub woven_other : (items : List IndexItem) (names ns : List (List ℕ)) (index : List ℕ) → length names ≡ length ns → Each IsWhole ns → Each IsLocalText ns →
    Back false (woven items names index ∷ []) (woven items ns index ∷ [])
woven_other items names ns index long whole locals = record {
  again = λ old tokens o h line rest at to stands before there.
      let list : AreWoven items names (texts old h.0) = h.3.0 in
      let new = list_again line rest old at to h.0 items names ns index (old_first old h.0 h.1 (subst (λ x. Old old x) h.2 o)) list h.3.1 long whole
      (part_stands line at (woven items ns index) rest stands) before (there ∙ ap (λ n. at + n) (part_long (woven items ns index))) in
      let cut : index ≡ cut_text line new.run = sym (new.cut ∙ filled_marks (map mark_of ns) index (all_marks ns locals)) in
      let again : AreWoven items ns (texts line new.run) = record {
        indices = new_indices list.indices items ns;
        some = some_new list.indices items names ns list.some list.each long;
        each = new_items list.indices items names ns list.each long locals;
        tokens = new.same;
      } in
      said_part line at to (woven items ns index) new.run new.follow (again, cut) new.readable;
}
