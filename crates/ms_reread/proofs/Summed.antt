-- A getelementptr of which some indices have become numbers is printed as a line that says it with the numbers summed up.
use Rattle.std.proofs.Common.{◌≡◌, ◌≢◌, ◌+◌, ◌<◌, ℕ, ℤ, ◌+ℤ◌, Bool, false, List, [], ◌∷◌, ◌++◌, length, map, refl, sym, ap, subst, ◌∙◌, arith}
use Rattle.std.proofs.lemmas.List.{append-nil}
use Rattle.ms_lex.specs.declared.token.Token.{Token}
use Rattle.ms_ir.specs.declared.names.Ty.TheVariants.{Ptr}
use Rattle.ms_ir.specs.declared.names.Name.{Name}
use Rattle.ms_ir.specs.declared.names.Name.TheVariants as name
use Rattle.ms_grammar.specs.Numbers.{bits}
use Rattle.ms_grammar.specs.Kept.{IndexItem, IsIndexList, AreItems, AreWoven, index_tokens}
use Rattle.ms_grammar.specs.Parts.{Part, blank, token, kept, tail, gep_head, indices, woven, part_text, text_of, texts, filled, cut_text}
use Rattle.ms_grammar.specs.Form.{Scale, no_scale, form, word_part, value_part, local_part, comma_parts, typed_parts, type_part, inst_parts, result_parts, printed}
use Rattle.ms_grammar.specs.Fits.{IsNamed, IsMade, IsValue, FitsInst, AreTerms}
use Rattle.ms_grammar.specs.Grammar.{Says}
use Rattle.ms_grammar.specs.declared.line.RawVal.{RawVal}
use Rattle.ms_grammar.specs.declared.line.RawVal.TheVariants.{Num, Local, Global}
use Rattle.ms_grammar.specs.declared.line.RawIndex.{RawIndex}
use Rattle.ms_grammar.specs.declared.line.RawInst.{RawInst}
use Rattle.ms_grammar.specs.declared.line.RawInst.TheVariants.{Step}
use Rattle.ms_grammar.specs.declared.line.Line.TheVariants.{Inst}
use Rattle.ms_grammar.specs.declared.keyword.Keyword.TheVariants as word
use Rattle.ms_grammar.proofs.Printing.{text_of_append}
use Rattle.ms_reread.specs.Terms.{kept_index, raw_added_in, raw_step_of, raw_joined, AreRenewed}
use Rattle.ms_reread.proofs.Ends.{Calm}
use Rattle.ms_reread.proofs.Places.{Stands, whole_tokens}
use Rattle.ms_reread.proofs.Moves.{Old, old_first}
use Rattle.ms_reread.proofs.Pieces.{Back, Next, behind, blank_next, token_back, token_then, said_part, part_stands, part_long}
use Rattle.ms_reread.proofs.Classes.{kept_back, tail_next}
use Rattle.ms_reread.proofs.Tokens.{word_whole, type_whole, local_whole, global_name_whole}
use Rattle.ms_reread.proofs.Values.{comma_next}
use Rattle.ms_reread.proofs.Renewed.{new_indices, ListAgain, list_again}
use Rattle.ms_reread.proofs.Counted.{open_in, texts_of, new_items, values_in, AreGiven, given_of, given_whole, ready_all, marks_ready, refill, renewed_length, items_new, some_new, closed_indices, terms_new, offset_new, closed_offset, values_fit}
use Rattle.ms_reread.proofs.Reread.{old_line}

-- the kept text behind the change
abbrev kept_in : List RawIndex → List ℕ → List ℕ
kept_in ts index = filled (map kept_index ts) index

-- the same tokens with the new values in their places
again_by : (items : List IndexItem) (was ts : List RawIndex) (index : List ℕ) → AreGiven items ts → AreRenewed was ts → (old : List ℕ) (run : List Token) → Old old run →
    (list : AreWoven items (texts_of was) (texts old run)) → index ≡ cut_text old run → (line rest : List ℕ) (at to : ℕ) → Stands line at (filled (texts_of ts) index) rest → Calm rest →
    to ≡ at + length (filled (texts_of ts) index) → ListAgain line at to (index_tokens (new_indices list.indices items (texts_of ts))) (texts_of ts) index
again_by items was ts index given renewed old run o list is line rest at to stands calm there =
    list_again line rest old at to run items (texts_of was) (texts_of ts) index o list is (renewed_length was ts renewed) (given_whole list.indices items (texts_of was) ts list.each given) stands calm there

-- where some indices are still open
open_back : (items : List IndexItem) (was ts : List RawIndex) (index : List ℕ) → AreGiven items ts → AreRenewed was ts →
    Back false (woven items (texts_of was) index ∷ []) (woven (new_items items ts) (texts_of (open_in ts)) (kept_in ts index) ∷ [])
open_back items was ts index given renewed = record {
  again = λ old tokens o h line rest at to stands before there.
      let part : Part = woven (new_items items ts) (texts_of (open_in ts)) (kept_in ts index) in
      let list : AreWoven items (texts_of was) (texts old h.0) = h.3.0 in
      let ready = ready_all was ts renewed in
      let shown : filled (texts_of (open_in ts)) (kept_in ts index) ≡ filled (texts_of ts) index = refill ts index ready in
      let new = again_by items was ts index given renewed old h.0 (old_first old h.0 h.1 (subst (λ x. Old old x) h.2 o)) list h.3.1 line rest at to
      (subst (λ x. Stands line at x rest) shown (part_stands line at part rest stands)) before (there ∙ (ap (λ n. at + n) (part_long part) ∙ ap (λ x. at + length x) shown)) in
      let each = items_new list.indices items (texts_of was) ts list.each given in
      let whole : AreWoven (new_items items ts) (texts_of (open_in ts)) (texts line new.run) = record {
        indices = new_indices list.indices items (texts_of ts);
        some = λ e. list.some (some_new list.indices items (texts_of was) (texts_of ts) list.each (renewed_length was ts renewed) e);
        each = each;
        tokens = new.same;
      } in
      let cut : kept_in ts index ≡ cut_text line new.run = sym (new.cut ∙ ap (λ ks. filled ks index) (marks_ready ts ready)) in
      said_part line at to part new.run new.follow (whole, cut) new.readable;
}

-- where all are numbers
closed_back : (items : List IndexItem) (was ts : List RawIndex) (index : List ℕ) → AreGiven items ts → AreRenewed was ts → open_in ts ≡ [] →
    Back false (woven items (texts_of was) index ∷ []) (kept (indices (values_in (new_items items ts))) (kept_in ts index) ∷ [])
closed_back items was ts index given renewed none = record {
  again = λ old tokens o h line rest at to stands before there.
      let part : Part = kept (indices (values_in (new_items items ts))) (kept_in ts index) in
      let list : AreWoven items (texts_of was) (texts old h.0) = h.3.0 in
      let ready = ready_all was ts renewed in
      let shown : kept_in ts index ≡ filled (texts_of ts) index = sym (ap (λ x. filled (texts_of x) (kept_in ts index)) none) ∙ refill ts index ready in
      let new = again_by items was ts index given renewed old h.0 (old_first old h.0 h.1 (subst (λ x. Old old x) h.2 o)) list h.3.1 line rest at to
      (subst (λ x. Stands line at x rest) shown (part_stands line at part rest stands)) before (there ∙ (ap (λ n. at + n) (part_long part) ∙ ap (λ x. at + length x) shown)) in
      let each : AreItems (new_indices list.indices items (texts_of ts)) (new_items items ts) [] =
      subst (λ x. AreItems (new_indices list.indices items (texts_of ts)) (new_items items ts) (texts_of x)) none (items_new list.indices items (texts_of was) ts list.each given) in
      let whole : IsIndexList (values_in (new_items items ts)) (texts line new.run) = record {
        indices = new_indices list.indices items (texts_of ts);
        some = λ e. list.some (some_new list.indices items (texts_of was) (texts_of ts) list.each (renewed_length was ts renewed) e);
        each = closed_indices (new_indices list.indices items (texts_of ts)) (new_items items ts) each;
        tokens = new.same;
      } in
      said_part line at to part new.run new.follow (whole, shown ∙ sym new.kept) new.readable;
}

-- another pointer in the place of a value
pointer_back : (a b : RawVal) → IsValue Ptr b → Back false (value_part a ∷ []) (value_part b ∷ [])
pointer_back a (Num own n) h = absurd (no_int h.1)
  where
    no_int : 0 < bits Ptr → ⊥
    no_int less = omega arith
pointer_back a (Local n) h = token_back (local_whole n h)
pointer_back a (Global n) h = token_back (global_name_whole n h.1)

pointer_then : {free : Bool} {was ps : List Part} (a b : RawVal) → IsValue Ptr b → Next free was ps →
    Back free (type_part Ptr ∷ blank ∷ value_part a ∷ was) (type_part Ptr ∷ blank ∷ value_part b ∷ ps)
pointer_then a b h next = token_then (type_whole Ptr) (blank_next (behind (pointer_back a b h) next))

-- the parts of a getelementptr, whatever its indices are
abbrev gep_parts : List ℕ → List ℕ → RawVal → Part → List ℕ → List Part
gep_parts sizes head base part rest =
    word_part word.Getelementptr ∷ blank ∷ kept (gep_head sizes) head ∷ comma_parts ++ typed_parts Ptr base ++ comma_parts ++ part ∷ kept tail rest ∷ []

gep_back : (sizes : List ℕ) (head : List ℕ) (a b : RawVal) (p q : Part) (rest : List ℕ) → IsValue Ptr b → Back false (p ∷ []) (q ∷ []) →
    Back false (gep_parts sizes head a p rest) (gep_parts sizes head b q rest)
gep_back sizes head a b p q rest h back =
    token_then (word_whole word.Getelementptr)
    (blank_next (behind (kept_back (gep_head sizes) head) (comma_next (pointer_then a b h (comma_next (behind back (tail_next rest)))))))

gep_text : (one two : List ℕ) (head : List ℕ) (base : RawVal) (p q : Part) (rest : List ℕ) → part_text p ≡ part_text q → text_of (gep_parts one head base p rest) ≡ text_of (gep_parts two head base q rest)
gep_text one two head base p q rest e = ap (λ x. text_of (gep_parts one head base (token x) rest)) e

-- the sizes and indices with which the new line is read
abbrev new_scale : Scale → List RawIndex → Scale
new_scale s ts = record { sizes = s.sizes; indices = values_in (new_items s.items ts); items = new_items s.items ts }

-- the instruction
joined_back : (s : Scale) (base other : RawVal) (offset sum : ℤ) (was ts left : List RawIndex) (head index rest : List ℕ) → AreGiven s.items ts → AreRenewed was ts → IsValue Ptr other →
    open_in ts ≡ left → Back false (inst_parts s (Step base offset was head index rest)) (inst_parts (new_scale s ts) (raw_step_of other sum left head (kept_in ts index) rest))
joined_back s base other offset sum was ts [] head index rest given renewed value e =
    gep_back s.sizes head base other (woven s.items (texts_of was) index) (kept (indices (values_in (new_items s.items ts))) (kept_in ts index)) rest value
    (closed_back s.items was ts index given renewed e)
joined_back s base other offset sum was ts (t ∷ left) head index rest given renewed value e =
    gep_back s.sizes head base other (woven s.items (texts_of was) index) (woven (new_items s.items ts) (texts_of (t ∷ left)) (kept_in ts index)) rest value
    (subst (λ x. Back false (woven s.items (texts_of was) index ∷ []) (woven (new_items s.items ts) (texts_of x) (kept_in ts index) ∷ [])) e (open_back s.items was ts index given renewed))

joined_fits : (s : Scale) (base other : RawVal) (offset : ℤ) (was ts left : List RawIndex) (head index rest : List ℕ) → FitsInst s (Step base offset was head index rest) → AreRenewed was ts →
    IsValue Ptr other → open_in ts ≡ left → FitsInst (new_scale s ts) (raw_step_of other (offset +ℤ raw_added_in ts) left head (kept_in ts index) rest)
joined_fits s base other offset was ts [] head index rest fits renewed value e =
    let closed : AreTerms s.sizes (new_items s.items ts) [] = subst (λ x. AreTerms s.sizes (new_items s.items ts) x) e (terms_new s.sizes s.items was ts fits.2 renewed) in (
      value,
      values_fit s.sizes (new_items s.items ts) closed,
      ap (λ x. x +ℤ raw_added_in ts) fits.3 ∙ (sym (offset_new s.sizes s.items was ts fits.2 renewed) ∙ closed_offset s.sizes (new_items s.items ts) closed),
    )
joined_fits s base other offset was ts (t ∷ left) head index rest fits renewed value e = (
  value,
  (λ none. some t left none),
  subst (λ x. AreTerms s.sizes (new_items s.items ts) x) e (terms_new s.sizes s.items was ts fits.2 renewed),
  ap (λ x. x +ℤ raw_added_in ts) fits.3 ∙ sym (offset_new s.sizes s.items was ts fits.2 renewed),
)
  where
    some : (t : RawIndex) (ts : List RawIndex) → t ∷ ts ≢ []
    some t ts e = cc

joined_text : (s : Scale) (base : RawVal) (offset sum : ℤ) (was ts left : List RawIndex) (head index rest : List ℕ) → AreRenewed was ts → open_in ts ≡ left →
    text_of (inst_parts no_scale (Step base offset ts head index rest)) ≡ text_of (inst_parts (new_scale s ts) (raw_step_of base sum left head (kept_in ts index) rest))
joined_text s base offset sum was ts [] head index rest renewed e =
    gep_text [] s.sizes head base (woven [] (texts_of ts) index) (kept (indices (values_in (new_items s.items ts))) (kept_in ts index)) rest
    (sym (refill ts index (ready_all was ts renewed)) ∙ ap (λ x. filled (texts_of x) (kept_in ts index)) e)
joined_text s base offset sum was ts (t ∷ left) head index rest renewed e =
    gep_text [] s.sizes head base (woven [] (texts_of ts) index) (woven (new_items s.items ts) (texts_of (t ∷ left)) (kept_in ts index)) rest
    (sym (refill ts index (ready_all was ts renewed)) ∙ ap (λ x. filled (texts_of x) (kept_in ts index)) e)

-- a result with another name
named_back : (n m : Name) (was ps : List Part) → IsNamed m → Back false was ps →
    Back false (local_part n ∷ blank ∷ word_part word.Equals ∷ blank ∷ was) (local_part m ∷ blank ∷ word_part word.Equals ∷ blank ∷ ps)
named_back n m was ps h b = behind (token_back {was = local_part n ∷ []} (local_whole m h)) (blank_next (token_then (word_whole word.Equals) (blank_next b)))

result_back : (n m : Name) (was ps : List Part) → IsNamed n → IsNamed m → Back false was ps → Back false (result_parts n ++ was) (result_parts m ++ ps)
result_back name.Absent m was ps h k b = absurd h
result_back (name.Word s) name.Absent was ps h k b = absurd k
result_back (name.Number i) name.Absent was ps h k b = absurd k
result_back (name.Word s) (name.Word t) was ps h k b = named_back (name.Word s) (name.Word t) was ps k b
result_back (name.Word s) (name.Number j) was ps h k b = named_back (name.Word s) (name.Number j) was ps k b
result_back (name.Number i) (name.Word t) was ps h k b = named_back (name.Number i) (name.Word t) was ps k b
result_back (name.Number i) (name.Number j) was ps h k b = named_back (name.Number i) (name.Number j) was ps k b

pub said_with_numbers : (bytes : List ℕ) (n m : Name) (base other : RawVal) (offset : ℤ) (was terms : List RawIndex) (head index rest : List ℕ) →
    Says bytes (Inst n (Step base offset was head index rest)) → IsNamed m → IsValue Ptr other → AreRenewed was terms →
    Says (printed (Inst m (Step other offset terms head index rest))) (Inst m (raw_joined other offset terms head index rest))
said_with_numbers bytes n m base other offset was terms head index rest says named value renewed =
    let s = says.scale in
    let scale : Scale = new_scale s terms in
    let fits = says.fits in
    let given : AreGiven s.items terms = given_of s.sizes s.items was terms fits.1.2 renewed in
    let new : RawInst = raw_joined other offset terms head index rest in
    let line : List ℕ = printed (Inst m (Step other offset terms head index rest)) in
    let old_parts : List Part = inst_parts no_scale (Step other offset terms head index rest) in
    let inner : text_of old_parts ≡ text_of (inst_parts scale new) =
    joined_text s other offset (offset +ℤ raw_added_in terms) was terms (open_in terms) head index rest renewed refl in
    let same : line ≡ text_of (form scale (Inst m new)) =
    ap (λ x. 32 ∷ 32 ∷ x) (text_of_append (result_parts m) old_parts ∙ (ap (λ x. text_of (result_parts m) ++ x) inner ∙ sym (text_of_append (result_parts m) (inst_parts scale new)))) in
    let back = (blank_next (blank_next (result_back n m (inst_parts s (Step base offset was head index rest)) (inst_parts scale new) fits.0 named
    (joined_back s base other offset (offset +ℤ raw_added_in terms) was terms (open_in terms) head index rest given renewed value refl))).back).back in
    let stands : Stands line 0 (text_of (form scale (Inst m new))) [] = record { within = omega arith; here = same ∙ sym (append-nil (text_of (form scale (Inst m new)))) } in
    let long : length line ≡ length (text_of (form scale (Inst m new))) = ap length same in
    let again = back.again bytes says.tokens (old_line bytes (Inst n (Step base offset was head index rest)) says) says.spelled line [] 0 (length line) stands tt (omega arith) in
    record {
      tokens = again.tokens;
      scale = scale;
      are_tokens = whole_tokens line again.tokens again.follow;
      readable = again.readable;
      spelled = again.spelled;
      fits = (made m (open_in terms) named, joined_fits s base other offset was terms (open_in terms) head index rest fits.1 renewed value refl);
    }
  where
    made : (m : Name) (left : List RawIndex) → IsNamed m → IsMade m (raw_step_of other (offset +ℤ raw_added_in terms) left head (kept_in terms index) rest)
    made m [] h = h
    made m (t ∷ left) h = h
