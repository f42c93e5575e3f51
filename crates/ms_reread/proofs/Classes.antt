-- Kept parts are read again where they are printed.
use Rattle.std.proofs.Common.{◌≡◌, ◌<◌, ◌+◌, ℕ, false, List, [], ◌∷◌, ◌++◌, length, slice_range, refl, sym, ap, subst, ◌∙◌, arith, append_assoc}
use Rattle.std.proofs.lemmas.List.{append-nil}
use Rattle.std.specs.List.{flat_map}
use Rattle.ms_lex.specs.declared.token.Token.{Token}
use Rattle.ms_lex.proofs.Follows.{token_grows}
use Rattle.ms_grammar.specs.Words.{spelling}
use Rattle.ms_grammar.specs.Kept.{Each, AreMany, IsAttribute, IsPostItem, IsTailItem, IsObject, IsIndexList, IsKeptLine, IsGroupLine, IsGlobalLine}
use Rattle.ms_grammar.specs.Kept.IsTailItem.{aligned as tail_aligned, metadata as tail_metadata, inline as tail_inline}
use Rattle.ms_grammar.specs.Parts.{Part, Class, kept, apart, attributes, post, tail, object, gep_head, indices, call_head, copy_head, kept_line, group_line, global_line, bytes_at, texts, end_of, behind_blank, text_of, IsKept, InClass, Spells}
use Rattle.ms_grammar.specs.declared.keyword.Keyword.TheVariants as word
use Rattle.ms_reread.proofs.Ends.{Calm}
use Rattle.ms_reread.proofs.Places.{Stands, slice_split, end_behind}
use Rattle.ms_reread.proofs.Moves.{Again, Old, old_first, again, again_apart, behind_calm}
use Rattle.ms_reread.proofs.Heads.{InRun, gep_by, call_by, copy_by}
use Rattle.ms_reread.proofs.Pieces.{Back, Next, said_part, part_stands, part_long}

-- the same tokens, in the new line
has_kept : (P : List (List ℕ) → Type 0) (line old : List ℕ) (from to : ℕ) (was : List Token) (text : List ℕ) → IsKept P old was text → Again line from to old was → InRun (IsKept P) line from to text
has_kept P line old from to was text h new = record {
  run = new.run;
  follow = new.follow;
  has = (subst (λ ts. P ts) (sym new.same) h.0, h.1 ∙ sym new.kept);
  readable = new.readable;
}

kept_by : (P : List (List ℕ) → Type 0) (line rest old : List ℕ) (at to : ℕ) (was : List Token) (text : List ℕ) → IsKept P old was text → Old old was →
    Stands line at text rest → Calm rest → to ≡ at + length text → InRun (IsKept P) line at to text
kept_by P line rest old at to was text h o stands calm there =
    has_kept P line old at to was text h
    (again line rest old at to was o (subst (λ x. Stands line at x rest) h.1 stands) calm (there ∙ ap (λ x. at + length x) h.1))

apart_by : (P : List (List ℕ) → Type 0) (line rest old : List ℕ) (at to : ℕ) (was : List Token) (text : List ℕ) → IsKept P old was text → Old old was →
    Stands line at (behind_blank text) rest → Calm rest → to ≡ at + length (behind_blank text) → InRun (IsKept P) line at to text
apart_by P line rest old at to was text h o stands calm there =
    has_kept P line old at to was text h
    (again_apart line rest old at to was o (subst (λ x. Stands line at (behind_blank x) rest) h.1 stands) calm (there ∙ ap (λ x. at + length (behind_blank x)) h.1))

-- kept text of each class
class_by : (class : Class) (line rest old : List ℕ) (at to : ℕ) (was : List Token) (text : List ℕ) → InClass class old was text → Old old was →
    Stands line at text rest → Calm rest → to ≡ at + length text → InRun (InClass class) line at to text
class_by attributes line rest old at to was text h o stands calm there = kept_by (AreMany IsAttribute) line rest old at to was text h o stands calm there
class_by post line rest old at to was text h o stands calm there = kept_by (AreMany IsPostItem) line rest old at to was text h o stands calm there
class_by tail line rest old at to was text h o stands calm there = kept_by (AreMany IsTailItem) line rest old at to was text h o stands calm there
class_by (object size) line rest old at to was text h o stands calm there = kept_by (λ ts. (sizes : List ℕ) × IsObject (size ∷ sizes) ts) line rest old at to was text h o stands calm there
class_by (gep_head sizes) line rest old at to was text h o stands calm there = gep_by sizes line rest old at to was text h o stands calm there
class_by (indices values) line rest old at to was text h o stands calm there = kept_by (IsIndexList values) line rest old at to was text h o stands calm there
class_by (call_head ret) line rest old at to was text h o stands calm there = call_by ret line rest old at to was text h o stands calm there
class_by copy_head line rest old at to was text h o stands calm there = copy_by line rest old at to was text h o stands calm there
class_by kept_line line rest old at to was text h o stands calm there = kept_by (IsKeptLine) line rest old at to was text h o stands calm there
class_by (group_line n) line rest old at to was text h o stands calm there = kept_by (IsGroupLine n) line rest old at to was text h o stands calm there
class_by (global_line name) line rest old at to was text h o stands calm there = kept_by (IsGlobalLine name) line rest old at to was text h o stands calm there

old_of : (old : List ℕ) (tokens : List Token) (p : Part) (o : Old old tokens) (h : Spells old tokens (p ∷ [])) → Old old h.0
old_of old tokens p o h = old_first old h.0 h.1 (subst (λ x. Old old x) h.2 o)

-- a kept part
pub kept_back : (class : Class) (text : List ℕ) → Back false (kept class text ∷ []) (kept class text ∷ [])
kept_back class text = record {
  again = λ old tokens o h line rest at to stands before there.
      let new = class_by class line rest old at to h.0 text h.3 (old_of old tokens (kept class text) o h) (part_stands line at (kept class text) rest stands) before
      (there ∙ ap (λ n. at + n) (part_long (kept class text))) in
      said_part line at to (kept class text) new.run new.follow new.has new.readable;
}

-- kept attributes behind a blank
apart_lead : (class : Class) (text rest : List ℕ) → Calm rest → Calm (text_of (apart class text ∷ []) ++ rest)
apart_lead class text rest calm = subst (λ x. Calm (x ++ rest)) (sym (append-nil (behind_blank text))) (behind_calm text rest calm)

pub attributes_next : (text : List ℕ) → Next false (apart attributes text ∷ []) (apart attributes text ∷ [])
attributes_next text = record {
  lead = λ old tokens o h rest before. apart_lead attributes text rest before;
  back = record {
    again = λ old tokens o h line rest at to stands before there.
        let new = apart_by (AreMany IsAttribute) line rest old at to h.0 text h.3 (old_of old tokens (apart attributes text) o h) (part_stands line at (apart attributes text) rest stands) before
        (there ∙ ap (λ n. at + n) (part_long (apart attributes text))) in
        said_part line at to (apart attributes text) new.run new.follow new.has new.readable;
  };
}

pub post_next : (text : List ℕ) → Next false (apart post text ∷ []) (apart post text ∷ [])
post_next text = record {
  lead = λ old tokens o h rest before. apart_lead post text rest before;
  back = record {
    again = λ old tokens o h line rest at to stands before there.
        let new = apart_by (AreMany IsPostItem) line rest old at to h.0 text h.3 (old_of old tokens (apart post text) o h) (part_stands line at (apart post text) rest stands) before
        (there ∙ ap (λ n. at + n) (part_long (apart post text))) in
        said_part line at to (apart post text) new.run new.follow new.has new.readable;
  };
}

-- what is kept behind the form begins with a comma
comma_first : (item ts more : List (List ℕ)) (x : List ℕ) (xs : List (List ℕ)) → item ≡ spelling word.Comma ∷ ts → x ∷ xs ≡ item ++ more → x ≡ spelling word.Comma
comma_first item ts more x xs e f = let whole : x ∷ xs ≡ spelling word.Comma ∷ (ts ++ more) = f ∙ ap (λ i. i ++ more) e in cc

item_first : (item more : List (List ℕ)) (x : List ℕ) (xs : List (List ℕ)) → IsTailItem item → x ∷ xs ≡ item ++ more → x ≡ spelling word.Comma
item_first item more x xs (tail_aligned n is e) f = comma_first item _ more x xs e f
item_first item more x xs (tail_metadata pair is e) f = comma_first item _ more x xs e f
item_first item more x xs (tail_inline pair inner is balanced e) f = comma_first item _ more x xs e f

tail_first : (x : List ℕ) (xs : List (List ℕ)) (items : List (List (List ℕ))) → Each IsTailItem items → x ∷ xs ≡ flat_map (λ item. item) items → x ≡ spelling word.Comma
tail_first x xs [] each e = absurd (cc)
tail_first x xs (item ∷ items) each e = item_first item (flat_map (λ i. i) items) x xs each.0 e

comma_calm : (s rest : List ℕ) → s ≡ spelling word.Comma → Calm (s ++ rest)
unfolding spelling
comma_calm s rest e = subst (λ x. Calm (x ++ rest)) (sym e) refl

tail_lead : (old : List ℕ) (run : List Token) (text rest : List ℕ) → Old old run → InClass tail old run text → Calm rest → Calm (text ++ rest)
tail_lead old [] text rest o h calm = subst (λ x. Calm (x ++ rest)) (sym h.1) calm
tail_lead old (t ∷ ts) text rest o h calm =
    let first : bytes_at old t ≡ spelling word.Comma = tail_first (bytes_at old t) (texts old ts) h.0.items h.0.each h.0.whole in
    let bound = end_behind old (λ place. Unit {0}) o.from t ts o.follow in
    let grows : t.from < t.to = token_grows old o.from t o.follow.0 in
    let whole : text ≡ bytes_at old t ++ slice_range old t.to (end_of t ts) = h.1 ∙ slice_split old t.from t.to (end_of t ts) (omega arith) bound.0 in
    subst (λ x. Calm (x ++ rest)) (sym whole) (subst (λ x. Calm x) (sym (append_assoc (bytes_at old t) (slice_range old t.to (end_of t ts)) rest))
    (comma_calm (bytes_at old t) (slice_range old t.to (end_of t ts) ++ rest) first))

pub tail_next : (text : List ℕ) → Next false (kept tail text ∷ []) (kept tail text ∷ [])
tail_next text = record {
  lead = λ old tokens o h rest before.
      subst (λ x. Calm (x ++ rest)) (sym (append-nil text)) (tail_lead old h.0 text rest (old_of old tokens (kept tail text) o h) h.3 before);
  back = kept_back tail text;
}
