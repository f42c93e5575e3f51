-- What stands before the name of a callee is told by its tokens.
use Rattle.std.proofs.Common.{◌≡◌, ◌≢◌, ℕ, false, List, [], ◌∷◌, ◌++◌, Option, Some, None, refl, sym, ap, subst, ◌∙◌, append_assoc}
use Rattle.std.specs.Str.{bytes_eq}
use Rattle.ms_lex.specs.declared.token.Token.{Token}
use Rattle.ms_ir.specs.declared.names.Ty.{Ty}
use Rattle.ms_grammar.specs.Words.{spelling}
use Rattle.ms_grammar.specs.Kept.{IsCallMark, IsCallType, in_parentheses, behind_token, behind_tokens}
use Rattle.ms_grammar.specs.Kept.IsCallMark.{plain as mark_plain, tail as mark_tail, no_tail as mark_no_tail}
use Rattle.ms_grammar.specs.Kept.IsCallType.{none as no_type, written as written_type}
use Rattle.ms_grammar.specs.Parts.{Part, blank, token, kept, call_head, result_word, texts, kept_text, joined}
use Rattle.ms_grammar.specs.declared.keyword.Keyword.TheVariants as word
use Rattle.ms_grammar.proofs.Steps.{same}
use Rattle.ms_grammar.specs.Scan.{Stops}
use Rattle.ms_grammar.proofs.Walks.{one_attributes, type_stops, void_stops}
use Rattle.ms_grammar.proofs.Objects.{type_one, void_no_type}
use Rattle.ms_grammar.proofs.Both.{Both, along, same_run, texts_append, texts_cut, starts_with, skip_blank}

unlike : (s t : List ℕ) → bytes_eq s t ≡ false → s ≢ t
unlike s t fails e = let passes = same s t e in cc

head_one : (a b : List ℕ) (s t : List (List ℕ)) → a ∷ s ≡ b ∷ t → a ≡ b
head_one a b s t e = cc

call_tail : spelling word.Call ≢ spelling word.Tail
unfolding spelling
call_tail = unlike (spelling word.Call) (spelling word.Tail) refl

call_no_tail : spelling word.Call ≢ spelling word.NoTail
unfolding spelling
call_no_tail = unlike (spelling word.Call) (spelling word.NoTail) refl

tail_no_tail : spelling word.Tail ≢ spelling word.NoTail
unfolding spelling
tail_no_tail = unlike (spelling word.Tail) (spelling word.NoTail) refl

shown : (us vs ps qs xs ys : List (List ℕ)) → us ++ ps ≡ vs ++ qs → us ≡ xs → vs ≡ ys → xs ++ ps ≡ ys ++ qs
shown us vs ps qs xs ys e f g = ap (λ ts. ts ++ ps) (sym f) ∙ e ∙ ap (λ ts. ts ++ qs) g

-- the words that begin a call are told by what stands there
pub mark_one : (us vs ps qs : List (List ℕ)) → us ++ ps ≡ vs ++ qs → IsCallMark us → IsCallMark vs → us ≡ vs
mark_one us vs ps qs e (mark_plain f) (mark_plain g) = f ∙ sym g
mark_one us vs ps qs e (mark_tail f) (mark_tail g) = f ∙ sym g
mark_one us vs ps qs e (mark_no_tail f) (mark_no_tail g) = f ∙ sym g
mark_one us vs ps qs e (mark_plain f) (mark_tail g) = absurd (call_tail (head_one _ _ _ _ (shown us vs ps qs _ _ e f g)))
mark_one us vs ps qs e (mark_plain f) (mark_no_tail g) = absurd (call_no_tail (head_one _ _ _ _ (shown us vs ps qs _ _ e f g)))
mark_one us vs ps qs e (mark_tail f) (mark_plain g) = absurd (call_tail (sym (head_one _ _ _ _ (shown us vs ps qs _ _ e f g))))
mark_one us vs ps qs e (mark_tail f) (mark_no_tail g) = absurd (tail_no_tail (head_one _ _ _ _ (shown us vs ps qs _ _ e f g)))
mark_one us vs ps qs e (mark_no_tail f) (mark_plain g) = absurd (call_no_tail (sym (head_one _ _ _ _ (shown us vs ps qs _ _ e f g))))
mark_one us vs ps qs e (mark_no_tail f) (mark_tail g) = absurd (tail_no_tail (sym (head_one _ _ _ _ (shown us vs ps qs _ _ e f g))))

-- balanced tokens end before the first bracket that closes none of theirs
stuck_closer : (vs : List (List ℕ)) → behind_tokens (behind_token [] (spelling word.Close)) vs ≡ Some [] → ⊥
unfolding spelling
stuck_closer vs e = cc

balanced_cut : (o : Option (List (List ℕ))) (us vs ps qs : List (List ℕ)) → us ++ spelling word.Close ∷ ps ≡ vs ++ spelling word.Close ∷ qs →
    behind_tokens o us ≡ Some [] → behind_tokens o vs ≡ Some [] → us ≡ vs
balanced_cut None us vs ps qs e a b = absurd (cc)
balanced_cut (Some opened) [] [] ps qs e a b = refl
balanced_cut (Some opened) [] (v ∷ vs) ps qs e a b =
    let none : opened ≡ [] = cc in
    let first : v ≡ spelling word.Close = cc in
    let at : behind_tokens (behind_token opened v) vs ≡ Some [] = b in
    let here : behind_tokens (behind_token [] (spelling word.Close)) vs ≡ Some [] =
    subst (λ t. behind_tokens (behind_token [] t) vs ≡ Some []) first (subst (λ s. behind_tokens (behind_token s v) vs ≡ Some []) none at) in
    absurd (stuck_closer vs here)
balanced_cut (Some opened) (u ∷ us) [] ps qs e a b =
    let none : opened ≡ [] = cc in
    let first : u ≡ spelling word.Close = cc in
    let at : behind_tokens (behind_token opened u) us ≡ Some [] = a in
    let here : behind_tokens (behind_token [] (spelling word.Close)) us ≡ Some [] =
    subst (λ t. behind_tokens (behind_token [] t) us ≡ Some []) first (subst (λ s. behind_tokens (behind_token s u) us ≡ Some []) none at) in
    absurd (stuck_closer us here)
balanced_cut (Some opened) (u ∷ us) (v ∷ vs) ps qs e a b =
    let first : u ≡ v = cc in
    let b_u : behind_tokens (behind_token opened u) vs ≡ Some [] = subst (λ t. behind_tokens (behind_token opened t) vs ≡ Some []) (sym first) b in
    let rest : us ≡ vs = balanced_cut (behind_token opened u) us vs ps qs (cc) a b_u in
    ap (λ t. t ∷ us) first ∙ ap (λ ts. v ∷ ts) rest

behind_head : (a b : List ℕ) (s t : List (List ℕ)) → a ∷ s ≡ b ∷ t → s ≡ t
behind_head a b s t e = cc

open_no_name : (n : List ℕ) → 64 ∷ n ≡ spelling word.Open → ⊥
unfolding spelling
open_no_name n e = unlike (64 ∷ n) (spelling word.Open) refl e

-- a type of the callee, or none, before a name
pub type_cut : (us vs : List (List ℕ)) (n m : List ℕ) (ps qs : List (List ℕ)) → us ++ (64 ∷ n) ∷ ps ≡ vs ++ (64 ∷ m) ∷ qs → IsCallType us → IsCallType vs → us ≡ vs
type_cut us vs n m ps qs e (no_type f) (no_type g) = f ∙ sym g
type_cut us vs n m ps qs e (no_type f) (written_type inner balanced g) =
    absurd (open_no_name n (head_one _ _ _ _ (shown us vs ((64 ∷ n) ∷ ps) ((64 ∷ m) ∷ qs) [] (in_parentheses inner) e f g)))
type_cut us vs n m ps qs e (written_type inner balanced f) (no_type g) =
    absurd (open_no_name m (sym (head_one _ _ _ _ (shown us vs ((64 ∷ n) ∷ ps) ((64 ∷ m) ∷ qs) (in_parentheses inner) [] e f g))))
type_cut us vs n m ps qs e (written_type one balanced f) (written_type other balanced' g) =
    let cells = shown us vs ((64 ∷ n) ∷ ps) ((64 ∷ m) ∷ qs) (in_parentheses one) (in_parentheses other) e f g in
    let inner : (one ++ spelling word.Close ∷ []) ++ (64 ∷ n) ∷ ps ≡ (other ++ spelling word.Close ∷ []) ++ (64 ∷ m) ∷ qs = behind_head _ _ _ _ cells in
    let regrouped : one ++ spelling word.Close ∷ (64 ∷ n) ∷ ps ≡ other ++ spelling word.Close ∷ (64 ∷ m) ∷ qs =
    sym (append_assoc one (spelling word.Close ∷ []) ((64 ∷ n) ∷ ps)) ∙ inner ∙ append_assoc other (spelling word.Close ∷ []) ((64 ∷ m) ∷ qs) in
    f ∙ ap (λ ts. in_parentheses ts) (balanced_cut (Some []) one other ((64 ∷ n) ∷ ps) ((64 ∷ m) ∷ qs) regrouped balanced balanced') ∙ sym g

pub result_one : (a b : Option Ty) → result_word a ≡ result_word b → a ≡ b
result_one None None e = refl
result_one None (Some ty) e = absurd (void_no_type ty e)
result_one (Some ty) None e = absurd (void_no_type ty (sym e))
result_one (Some ty) (Some tz) e = ap (λ t. Some t) (type_one ty tz e)

pub word_stops : (ret : Option Ty) (ts : List (List ℕ)) → Stops false (result_word ret ∷ ts)
word_stops None ts = void_stops false ts
word_stops (Some ty) ts = type_stops false ty ts

pub regroup : (tokens run mark before result written rest : List Token) → tokens ≡ run ++ rest → run ≡ mark ++ before ++ result ++ written →
    tokens ≡ mark ++ (before ++ (result ++ (written ++ rest)))
regroup tokens run mark before result written rest a b =
    a ∙ ap (λ r. r ++ rest) b ∙ append_assoc (mark ++ before ++ result) written rest ∙ append_assoc (mark ++ before) result (written ++ rest) ∙ append_assoc mark before (result ++ (written ++ rest))

result_stops : (line : List ℕ) (ret : Option Ty) (result rest : List Token) → texts line result ≡ result_word ret ∷ [] → Stops false (texts line (result ++ rest))
result_stops line ret result rest is =
    let at : texts line (result ++ rest) ≡ result_word ret ∷ texts line rest = texts_append line result rest ∙ ap (λ ts. ts ++ texts line rest) is in
    subst (λ ts. Stops false ts) (sym at) (word_stops ret (texts line rest))

-- what the head of a call says
pub record AgreeCall (a b : Option Ty) (s t : List ℕ) (line : List ℕ) (ps qs : List Part) : Type 0 where
  pub ret : a ≡ b
  pub text : s ≡ t
  pub rest : Both line ps qs

pub both_call_head : (line : List ℕ) (a b : Option Ty) (s t : List ℕ) (n m : List ℕ) (ps qs : List Part) →
    Both line (kept (call_head a) s ∷ blank ∷ token (64 ∷ n) ∷ ps) (kept (call_head b) t ∷ blank ∷ token (64 ∷ m) ∷ qs) → AgreeCall a b s t line (blank ∷ token (64 ∷ n) ∷ ps) (blank ∷ token (64 ∷ m) ∷ qs)
both_call_head line a b s t n m ps qs h =
    let x = h.one.3 in
    let y = h.other.3 in
    let one : h.tokens ≡ x.mark ++ (x.before ++ (x.result ++ (x.written ++ h.one.1))) = regroup h.tokens h.one.0 x.mark x.before x.result x.written h.one.1 h.one.2 x.whole in
    let other : h.tokens ≡ y.mark ++ (y.before ++ (y.result ++ (y.written ++ h.other.1))) = regroup h.tokens h.other.0 y.mark y.before y.result y.written h.other.1 h.other.2 y.whole in
    let marks = same_run line x.mark y.mark (x.before ++ (x.result ++ (x.written ++ h.one.1))) (y.before ++ (y.result ++ (y.written ++ h.other.1))) (sym one ∙ other)
    (mark_one (texts line x.mark) (texts line y.mark) (texts line (x.before ++ (x.result ++ (x.written ++ h.one.1)))) (texts line (y.before ++ (y.result ++ (y.written ++ h.other.1))))
    (texts_cut line h.tokens x.mark y.mark _ _ one other) x.marked y.marked) in
    let befores = same_run line x.before y.before (x.result ++ (x.written ++ h.one.1)) (y.result ++ (y.written ++ h.other.1)) marks.behind
    (one_attributes (texts line x.before) (texts line y.before) (texts line (x.result ++ (x.written ++ h.one.1))) (texts line (y.result ++ (y.written ++ h.other.1)))
    (texts_cut line (x.before ++ (x.result ++ (x.written ++ h.one.1))) x.before y.before _ _ refl marks.behind) x.attributes y.attributes
    (result_stops line a x.result (x.written ++ h.one.1) x.result_is) (result_stops line b y.result (y.written ++ h.other.1) y.result_is)) in
    let words : result_word a ≡ result_word b =
    head_one _ _ (texts line (x.written ++ h.one.1)) (texts line (y.written ++ h.other.1))
    (shown (texts line x.result) (texts line y.result) (texts line (x.written ++ h.one.1)) (texts line (y.written ++ h.other.1)) (result_word a ∷ []) (result_word b ∷ [])
    (texts_cut line (x.result ++ (x.written ++ h.one.1)) x.result y.result (x.written ++ h.one.1) (y.written ++ h.other.1) refl befores.behind) x.result_is y.result_is) in
    let results = same_run line x.result y.result (x.written ++ h.one.1) (y.written ++ h.other.1) befores.behind (x.result_is ∙ ap (λ w. w ∷ []) words ∙ sym y.result_is) in
    let name = starts_with line h.one.1 (64 ∷ n) ps (skip_blank line h.one.1 (token (64 ∷ n) ∷ ps) h.one.4) in
    let name' = starts_with line h.other.1 (64 ∷ m) qs (skip_blank line h.other.1 (token (64 ∷ m) ∷ qs) h.other.4) in
    let types = same_run line x.written y.written h.one.1 h.other.1 results.behind
    (type_cut (texts line x.written) (texts line y.written) n m name.0 name'.0
    (ap (λ ts. texts line x.written ++ ts) (sym name.1) ∙ texts_cut line (x.written ++ h.one.1) x.written y.written h.one.1 h.other.1 refl results.behind ∙ ap (λ ts. texts line y.written ++ ts) name'.1)
    x.written_is y.written_is) in
    record {
      ret = result_one a b words;
      text = x.is ∙ ap (λ r. joined (texts line r ++ kept_text line x.before ∷ result_word a ∷ kept_text line x.written ∷ [])) marks.run
          ∙ ap (λ r. joined (texts line y.mark ++ kept_text line r ∷ result_word a ∷ kept_text line x.written ∷ [])) befores.run
          ∙ ap (λ w. joined (texts line y.mark ++ kept_text line y.before ∷ w ∷ kept_text line x.written ∷ [])) words
          ∙ ap (λ r. joined (texts line y.mark ++ kept_text line y.before ∷ result_word b ∷ kept_text line r ∷ [])) types.run ∙ sym y.is;
      rest = record { tokens = h.one.1; one = h.one.4; other = along line (blank ∷ token (64 ∷ m) ∷ qs) h.one.1 h.other.1 types.behind h.other.4 };
    }
