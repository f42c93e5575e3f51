-- What stands before a getelementptr's base and before the name of a callee is read again where it is printed.
use Rattle.std.proofs.Common.{◌≡◌, ◌+◌, ℕ, List, [], ◌∷◌, ◌++◌, Option, length, sym, ap, subst, ◌∙◌, append_assoc}
use Rattle.std.proofs.lemmas.List.{append-nil}
use Rattle.ms_lex.specs.declared.token.Token.{Token}
use Rattle.ms_ir.specs.declared.names.Ty.{Ty}
use Rattle.ms_grammar.specs.Kept.{Each, AreMany, IsAttribute, IsObject, IsCallMark, IsCallType}
use Rattle.ms_grammar.specs.Parts.{result_word, texts, kept_text, joined, IsGepHead, IsCallHead, IsCopyHead}
use Rattle.ms_grammar.proofs.Both.{texts_append}
use Rattle.ms_reread.proofs.Ends.{Calm}
use Rattle.ms_reread.proofs.Places.{Stands, Run}
use Rattle.ms_reread.proofs.Moves.{AreReadable, Old, old_first, old_second}
use Rattle.ms_reread.proofs.Joined.{flat, SameAll, kept_texts, joined_again, singles, kept_singles, old_singles, cut_singles, one_kept}

-- tokens between two places that have a text in a sense
pub record InRun (In : List ℕ → List Token → List ℕ → Type 0) (line : List ℕ) (from to : ℕ) (text : List ℕ) : Type 0 where
  pub run : List Token
  pub follow : Run line from to run
  pub has : In line run text
  pub readable : AreReadable line run

-- the head of a getelementptr
gep_from : (sizes line old : List ℕ) (at to : ℕ) (was : List Token) (text : List ℕ) (h : IsGepHead sizes old was text) (news : List (List Token)) → Run line at to (flat news) →
    SameAll line news old (h.before ∷ h.object ∷ []) → AreReadable line (flat news) → InRun (IsGepHead sizes) line at to text
gep_from sizes line old at to was text h [] follow same readable = absurd same
gep_from sizes line old at to was text h (b ∷ []) follow same readable = absurd same.2
gep_from sizes line old at to was text h (b ∷ (o ∷ (x ∷ xs))) follow same readable = absurd same.2.2
gep_from sizes line old at to was text h (b ∷ (o ∷ [])) follow same readable = record {
  run = b ++ (o ++ []);
  follow = follow;
  has = record {
    before = b;
    object = o;
    whole = ap (λ x. b ++ x) (append-nil o);
    attributes = subst (λ ts. AreMany IsAttribute ts) (sym same.0) h.attributes;
    sized = subst (λ ts. IsObject sizes ts) (sym same.2.0) h.sized;
    is = h.is ∙ (ap (λ x. joined (x ∷ kept_text old h.object ∷ [])) (sym same.1) ∙ ap (λ x. joined (kept_text line b ∷ x ∷ [])) (sym same.2.1));
  };
  readable = readable;
}

pub gep_by : (sizes line rest old : List ℕ) (at to : ℕ) (was : List Token) (text : List ℕ) → IsGepHead sizes old was text → Old old was →
    Stands line at text rest → Calm rest → to ≡ at + length text → InRun (IsGepHead sizes) line at to text
gep_by sizes line rest old at to was text h o stands calm there =
    let cut : Old old (h.before ++ h.object) = subst (λ x. Old old x) h.whole o in
    let new = joined_again line rest old at to (h.before ∷ h.object ∷ []) (old_first old h.before h.object cut, (old_second old h.before h.object cut, tt))
    (subst (λ x. Stands line at x rest) h.is stands) calm (there ∙ ap (λ x. at + length x) h.is) in
    gep_from sizes line old at to was text h new.news new.follow new.same new.readable

-- the same tokens, grouped in another way
along_run : (line : List ℕ) (at to : ℕ) (ts us : List Token) → ts ≡ us → Run line at to ts → Run line at to us
along_run line at to ts us same run = subst (λ x. Run line at to x) same run

along_readable : (line : List ℕ) (ts us : List Token) → ts ≡ us → AreReadable line ts → AreReadable line us
along_readable line ts us same all = subst (λ x. AreReadable line x) same all

regroup : (all front left result rest : List Token) → all ≡ front ++ left → left ≡ result ++ rest → all ≡ front ++ (result ++ rest)
regroup all front left result rest e f = e ∙ ap (λ x. front ++ x) f

-- the head of a call
call_from : (ret : Option Ty) (line old : List ℕ) (at to : ℕ) (was : List Token) (text : List ℕ) (h : IsCallHead ret old was text) (mark : List Token) (others : List (List Token)) →
    texts line mark ≡ texts old h.mark → Run line at to (mark ++ flat others) → SameAll line others old (h.before ∷ h.result ∷ h.written ∷ []) → AreReadable line (mark ++ flat others) →
    InRun (IsCallHead ret) line at to text
call_from ret line old at to was text h mark [] marks follow same readable = absurd same
call_from ret line old at to was text h mark (b ∷ []) marks follow same readable = absurd same.2
call_from ret line old at to was text h mark (b ∷ (r ∷ [])) marks follow same readable = absurd same.2.2
call_from ret line old at to was text h mark (b ∷ (r ∷ (w ∷ (x ∷ xs)))) marks follow same readable = absurd same.2.2.2
call_from ret line old at to was text h mark (b ∷ (r ∷ (w ∷ []))) marks follow same readable = record {
  run = mark ++ (b ++ (r ++ (w ++ [])));
  follow = follow;
  has = record {
    mark = mark;
    before = b;
    result = r;
    written = w;
    whole = ap (λ x. mark ++ (b ++ (r ++ x))) (append-nil w) ∙ (sym (append_assoc mark b (r ++ w)) ∙ sym (append_assoc (mark ++ b) r w));
    marked = subst (λ ts. IsCallMark ts) (sym marks) h.marked;
    attributes = subst (λ ts. AreMany IsAttribute ts) (sym same.0) h.attributes;
    result_is = same.2.0 ∙ h.result_is;
    written_is = subst (λ ts. IsCallType ts) (sym same.2.2.0) h.written_is;
    is = h.is ∙ (ap (λ x. joined (x ++ kept_text old h.before ∷ result_word ret ∷ kept_text old h.written ∷ [])) (sym marks)
        ∙ (ap (λ x. joined (texts line mark ++ x ∷ result_word ret ∷ kept_text old h.written ∷ [])) (sym same.1)
        ∙ ap (λ x. joined (texts line mark ++ kept_text line b ∷ result_word ret ∷ x ∷ [])) (sym same.2.2.1)));
  };
  readable = readable;
}

pub call_by : (ret : Option Ty) (line rest old : List ℕ) (at to : ℕ) (was : List Token) (text : List ℕ) → IsCallHead ret old was text → Old old was →
    Stands line at text rest → Calm rest → to ≡ at + length text → InRun (IsCallHead ret) line at to text
call_by ret line rest old at to was text h o stands calm there =
    let three : List (List Token) = h.before ∷ h.result ∷ h.written ∷ [] in
    let all : Old old (h.mark ++ h.before ++ h.result ++ h.written) = subst (λ x. Old old x) h.whole o in
    let three_olds = old_first old (h.mark ++ h.before ++ h.result) h.written all in
    let two_olds = old_first old (h.mark ++ h.before) h.result three_olds in
    let olds : Each (λ r. Old old r) (singles h.mark ++ three) = old_singles old h.mark three (old_first old h.mark h.before two_olds) (
      old_second old h.mark h.before two_olds,
      (old_second old (h.mark ++ h.before) h.result three_olds, (old_second old (h.mark ++ h.before ++ h.result) h.written all, tt)),
    ) in
    let is : text ≡ joined (kept_texts old (singles h.mark ++ three)) =
    h.is ∙ (ap (λ x. joined (texts old h.mark ++ kept_text old h.before ∷ x ∷ kept_text old h.written ∷ [])) (sym (one_kept old h.result (result_word ret) h.result_is))
    ∙ ap (λ x. joined x) (sym (kept_singles old h.mark three))) in
    let new = joined_again line rest old at to (singles h.mark ++ three) olds (subst (λ x. Stands line at x rest) is stands) calm (there ∙ ap (λ x. at + length x) is) in
    let parts = cut_singles line new.news old h.mark three new.same in
    call_from ret line old at to was text h parts.front parts.others parts.same (along_run line at to (flat new.news) (parts.front ++ flat parts.others) parts.whole new.follow) parts.rest
    (along_readable line (flat new.news) (parts.front ++ flat parts.others) parts.whole new.readable)

-- the head of a memcpy
copy_from : (line old : List ℕ) (at to : ℕ) (was : List Token) (text : List ℕ) (h : IsCopyHead old was text) (mark result : List Token) (others : List (List Token)) →
    texts line mark ≡ texts old h.mark → texts line result ≡ texts old h.result → Run line at to (mark ++ (result ++ flat others)) → SameAll line others old [] →
    AreReadable line (mark ++ (result ++ flat others)) → InRun IsCopyHead line at to text
copy_from line old at to was text h mark result (x ∷ xs) marks results follow same readable = absurd same
copy_from line old at to was text h mark result [] marks results follow same readable =
    let whole : mark ++ (result ++ []) ≡ mark ++ result = ap (λ x. mark ++ x) (append-nil result) in
    let shown : texts line (mark ++ (result ++ [])) ≡ texts old was =
    ap (λ x. texts line x) whole ∙ (texts_append line mark result ∙ (ap (λ x. x ++ texts line result) marks ∙ (ap (λ x. texts old h.mark ++ x) results
    ∙ (sym (texts_append old h.mark h.result) ∙ ap (λ x. texts old x) (sym h.whole))))) in
    record {
      run = mark ++ (result ++ []);
      follow = follow;
      has = record {
        mark = mark;
        result = result;
        whole = whole;
        marked = subst (λ ts. IsCallMark ts) (sym marks) h.marked;
        result_is = results ∙ h.result_is;
        is = h.is ∙ ap (λ x. joined x) (sym shown);
      };
      readable = readable;
    }

pub copy_by : (line rest old : List ℕ) (at to : ℕ) (was : List Token) (text : List ℕ) → IsCopyHead old was text → Old old was →
    Stands line at text rest → Calm rest → to ≡ at + length text → InRun IsCopyHead line at to text
copy_by line rest old at to was text h o stands calm there =
    let last : List (List Token) = singles h.result ++ [] in
    let cut : Old old (h.mark ++ h.result) = subst (λ x. Old old x) h.whole o in
    let olds : Each (λ r. Old old r) (singles h.mark ++ last) = old_singles old h.mark last (old_first old h.mark h.result cut) (old_singles old h.result [] (old_second old h.mark h.result cut) tt) in
    let shown : texts old was ≡ kept_texts old (singles h.mark ++ last) =
    ap (λ x. texts old x) h.whole ∙ (texts_append old h.mark h.result ∙ (ap (λ x. texts old h.mark ++ x) (sym (append-nil (texts old h.result)) ∙ sym (kept_singles old h.result []))
    ∙ sym (kept_singles old h.mark last))) in
    let is : text ≡ joined (kept_texts old (singles h.mark ++ last)) = h.is ∙ ap (λ x. joined x) shown in
    let new = joined_again line rest old at to (singles h.mark ++ last) olds (subst (λ x. Stands line at x rest) is stands) calm (there ∙ ap (λ x. at + length x) is) in
    let parts = cut_singles line new.news old h.mark last new.same in
    let behind = cut_singles line parts.others old h.result [] parts.rest in
    let whole : flat new.news ≡ parts.front ++ (behind.front ++ flat behind.others) =
    regroup (flat new.news) parts.front (flat parts.others) behind.front (flat behind.others) parts.whole behind.whole in
    copy_from line old at to was text h parts.front behind.front behind.others parts.same behind.same (along_run line at to (flat new.news) (parts.front ++ (behind.front ++ flat behind.others)) whole new.follow) behind.rest
    (along_readable line (flat new.news) (parts.front ++ (behind.front ++ flat behind.others)) whole new.readable)
