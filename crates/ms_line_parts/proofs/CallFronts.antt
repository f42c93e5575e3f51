-- The words that begin a call, and the type of a callee.
use Rattle.std.proofs.Common.{◌≡◌, ℕ, ◌+◌, ◌<◌, zero, suc, true, false, if◌then◌else◌, List, [], ◌∷◌, ◌++◌, length, take, refl, ap, subst, ◌∙◌, inl, inr, arith}
use Rattle.std.specs.Str.{bytes_eq}
use Rattle.std.proofs.lemmas.List.{map-append, take-map, length-map, length-append}
use Rattle.ms_lex.specs.declared.token.Token.{Token}
use Rattle.ms_grammar.specs.Words.{spelling}
use Rattle.ms_grammar.specs.Kept.{IsCallMark, IsCallType, in_parentheses}
use Rattle.ms_grammar.specs.Kept.IsCallMark.{plain, tail, no_tail}
use Rattle.ms_grammar.specs.Kept.IsCallType.{none, written}
use Rattle.ms_grammar.specs.Parts.{texts, bytes_at}
use Rattle.ms_grammar.specs.declared.keyword.Keyword.TheVariants as word
use Rattle.ms_grammar.proofs.Steps.{tells, same}
use Rattle.ms_line_parts.specs.Reach.{bracketed, call_behind, call_mark_length}
use Rattle.ms_line_parts.proofs.Marks.{close_alone, bracketed_is, bracketed_there, bracketed_other}

call_is : bytes_eq (spelling word.Call) (spelling word.Call) ≡ true
call_is = same (spelling word.Call) (spelling word.Call) refl

two : (t : List ℕ) (ts : List (List ℕ)) → call_mark_length (t ∷ spelling word.Call ∷ ts) ≡ call_behind (spelling word.Call ∷ ts) → call_mark_length (t ∷ spelling word.Call ∷ ts) ≡ 2
two t ts e = e ∙ ap (λ b. if b then 2 else 0) call_is

tail_first : (ts : List (List ℕ)) → call_mark_length (spelling word.Tail ∷ ts) ≡ call_behind ts
unfolding spelling
tail_first ts = refl

no_tail_first : (ts : List (List ℕ)) → call_mark_length (spelling word.NoTail ∷ ts) ≡ call_behind ts
unfolding spelling
no_tail_first ts = refl

call_first : (ts : List (List ℕ)) → call_mark_length (spelling word.Call ∷ ts) ≡ 1
unfolding spelling
call_first ts = refl

mark_there : (run rest : List (List ℕ)) → IsCallMark run → call_mark_length (run ++ rest) ≡ length run
mark_there run rest (plain is) = rw is (call_first rest)
mark_there run rest (tail is) = rw is (two (spelling word.Tail) rest (tail_first (spelling word.Call ∷ rest)))
mark_there run rest (no_tail is) = rw is (two (spelling word.NoTail) rest (no_tail_first (spelling word.Call ∷ rest)))

behind_is : (t mark : List ℕ) (ts : List (List ℕ)) (n : ℕ) → suc n ≡ call_behind ts → t ≡ mark → take (suc n) (t ∷ ts) ≡ mark ∷ spelling word.Call ∷ []
behind_is t mark [] n e same_mark = absurd (omega arith)
behind_is t mark (u ∷ us) n e same_mark = elim (tells u (spelling word.Call)) [
  | inl told ↦
      (let count : suc n ≡ 2 = e ∙ ap (λ b. if b then 2 else 0) told.0 in
      ap (λ k. take k (t ∷ u ∷ us)) count ∙ ap (λ v. v ∷ u ∷ []) same_mark ∙ ap (λ v. mark ∷ v ∷ []) told.1)
  | inr told ↦ (let count : suc n ≡ 0 = e ∙ ap (λ b. if b then 2 else 0) told.0 in absurd (omega (arith, count)))
]

mark_is : (ts : List (List ℕ)) (n : ℕ) → suc n ≡ call_mark_length ts → IsCallMark (take (suc n) ts)
mark_is [] n e = absurd (omega arith)
mark_is (t ∷ ts) n e = elim (tells t (spelling word.Call)) [
  | inl told ↦
      (let count : suc n ≡ 1 = e ∙ ap (λ b. if b then 1 else (if bytes_eq t (spelling word.Tail) then call_behind ts else (if bytes_eq t (spelling word.NoTail) then call_behind ts else 0))) told.0 in
      plain (ap (λ k. take k (t ∷ ts)) count ∙ ap (λ v. v ∷ []) told.1))
  | inr told ↦ by_tail (e ∙ ap (λ b. if b then 1 else (if bytes_eq t (spelling word.Tail) then call_behind ts else (if bytes_eq t (spelling word.NoTail) then call_behind ts else 0))) told.0)
]
  where
    by_no_tail : suc n ≡ (if bytes_eq t (spelling word.NoTail) then call_behind ts else 0) → IsCallMark (take (suc n) (t ∷ ts))
    by_no_tail f = elim (tells t (spelling word.NoTail)) [
      | inl told ↦ no_tail (behind_is t (spelling word.NoTail) ts n (f ∙ ap (λ b. if b then call_behind ts else 0) told.0) told.1)
      | inr told ↦ (let count : suc n ≡ 0 = f ∙ ap (λ b. if b then call_behind ts else 0) told.0 in absurd (omega (arith, count)))
    ]

    by_tail : suc n ≡ (if bytes_eq t (spelling word.Tail) then call_behind ts else (if bytes_eq t (spelling word.NoTail) then call_behind ts else 0)) → IsCallMark (take (suc n) (t ∷ ts))
    by_tail f = elim (tells t (spelling word.Tail)) [
      | inl told ↦ tail (behind_is t (spelling word.Tail) ts n (f ∙ ap (λ b. if b then call_behind ts else (if bytes_eq t (spelling word.NoTail) then call_behind ts else 0)) told.0) told.1)
      | inr told ↦ by_no_tail (f ∙ ap (λ b. if b then call_behind ts else (if bytes_eq t (spelling word.NoTail) then call_behind ts else 0)) told.0)
    ]

pub call_mark_is : (line : List ℕ) (tokens : List Token) (n : ℕ) → n ≡ call_mark_length (texts line tokens) → 0 < n → IsCallMark (texts line (take n tokens))
call_mark_is line tokens zero e some = absurd (omega arith)
call_mark_is line tokens (suc n) e some = subst (λ ts. IsCallMark ts) (take-map (bytes_at line) (suc n) tokens) (mark_is (texts line tokens) n e)

pub call_mark_whole : (line : List ℕ) (tokens : List Token) (n : ℕ) → n ≡ call_mark_length (texts line tokens) → (run rest : List Token) → tokens ≡ run ++ rest → IsCallMark (texts line run) → n ≡ length run
call_mark_whole line tokens n e run rest cut is =
    e ∙ ap call_mark_length (ap (texts line) cut ∙ map-append (bytes_at line) run rest) ∙ mark_there (texts line run) (texts line rest) is ∙ length-map run (bytes_at line)

type_is : (ts : List (List ℕ)) (n : ℕ) → n ≡ bracketed (spelling word.Open) (spelling word.Close) ts → IsCallType (take n ts)
type_is ts zero e = none refl
type_is ts (suc n) e = let told = bracketed_is (spelling word.Open) (spelling word.Close) ts n e in written told.inner told.balanced told.tokens

pub call_type_is : (line : List ℕ) (tokens : List Token) (n : ℕ) → n ≡ bracketed (spelling word.Open) (spelling word.Close) (texts line tokens) → IsCallType (texts line (take n tokens))
call_type_is line tokens n e = subst (λ ts. IsCallType ts) (take-map (bytes_at line) n tokens) (type_is (texts line tokens) n e)

name_no_open : (name : List ℕ) → bytes_eq (64 ∷ name) (spelling word.Open) ≡ false
unfolding spelling
name_no_open name = refl

type_there : (run rest : List (List ℕ)) (name : List ℕ) → IsCallType run → bracketed (spelling word.Open) (spelling word.Close) (run ++ (64 ∷ name) ∷ rest) ≡ length run
type_there run rest name (none is) = rw is (bracketed_other (spelling word.Open) (spelling word.Close) (64 ∷ name) rest (name_no_open name))
type_there run rest name (written inner balanced is) =
    let sum : length inner + 2 ≡ length (in_parentheses inner) = omega (arith, length-append inner (spelling word.Close ∷ [])) in
    rw is (bracketed_there (spelling word.Open) (spelling word.Close) inner ((64 ∷ name) ∷ rest) close_alone balanced ∙ sum)

pub call_type_whole : (line : List ℕ) (tokens : List Token) (n : ℕ) → n ≡ bracketed (spelling word.Open) (spelling word.Close) (texts line tokens) →
    (run rest : List Token) (callee : Token) (name : List ℕ) → tokens ≡ run ++ callee ∷ rest → IsCallType (texts line run) → bytes_at line callee ≡ 64 ∷ name → n ≡ length run
call_type_whole line tokens n e run rest callee name cut is named =
    e ∙ ap (bracketed (spelling word.Open) (spelling word.Close)) (ap (texts line) cut ∙ map-append (bytes_at line) run (callee ∷ rest) ∙ ap (λ b. texts line run ++ b ∷ texts line rest) named)
    ∙ type_there (texts line run) (texts line rest) name is ∙ length-map run (bytes_at line)
