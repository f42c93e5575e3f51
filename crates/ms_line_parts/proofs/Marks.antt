-- What is open behind a token.
use Rattle.std.proofs.Common.{◌≡◌, ◌<◌, ℕ, ◌+◌, suc, Bool, true, false, if◌then◌else◌, List, [], ◌∷◌, ◌++◌, Option, Some, None, map, option_map, length, take, drop, refl, sym, ap, subst, ◌∙◌, inl, inr, add-one, arith}
use Rattle.std.specs.Str.{bytes_eq}
use Rattle.std.proofs.lemmas.List.{reverse-append, append_assoc, length_push, length-take-le, take_at}
use Rattle.ms_grammar.specs.Words.{spelling}
use Rattle.ms_grammar.specs.Kept.{closer, is_closer, behind_closer, behind_mark, behind_token, behind_tokens, IsBalanced}
use Rattle.ms_grammar.specs.declared.keyword.Keyword.{Keyword}
use Rattle.ms_grammar.specs.declared.keyword.Keyword.TheVariants as word
use Rattle.ms_grammar.proofs.Steps.{tells, same}
use Rattle.ms_line_parts.specs.Reach.{open_marks, ends, inner_of, further_on, with_marks, bracketed}

pub last_mark : (ms : List Keyword) (m : Keyword) → open_marks (ms ++ m ∷ []) ≡ spelling m ∷ open_marks ms
last_mark ms m = ap (λ l. map spelling l) (reverse-append ms (m ∷ []))

flipped : (s t : List ℕ) → bytes_eq s t ≡ bytes_eq t s
flipped s t =
    elim (tells s t) [
      | inl told ↦ told.0 ∙ sym (same t s (sym told.1))
      | inr told ↦ elim (tells t s) [ inl again ↦ absurd (told.1 (sym again.1)) | inr again ↦ told.0 ∙ sym again.0 ]
    ]

-- a mark that closes the last bracket, or another one
pub closing_passes : (ms : List Keyword) (m : Keyword) (t : List ℕ) (r : Bool) → closer t ≡ None → is_closer t ≡ true → r ≡ bytes_eq t (spelling m) →
    behind_token (open_marks (ms ++ m ∷ [])) t ≡ (if r then Some (open_marks ms) else None)
closing_passes ms m t r no_opener closes e =
    ap (λ o. behind_token o t) (last_mark ms m)
    ∙ ap (λ o. behind_mark o (spelling m ∷ open_marks ms) t) no_opener
    ∙ ap (λ b. if b then behind_closer (spelling m ∷ open_marks ms) t else Some (spelling m ∷ open_marks ms)) closes
    ∙ ap (λ b. if b then Some (open_marks ms) else None) (flipped (spelling m) t ∙ sym e)

-- one token that does not end the search
pub inner_more : (mark : List ℕ) (opened : List (List ℕ)) (t : List ℕ) (ts : List (List ℕ)) (at : ℕ) → ends mark opened t ≡ false →
    further_on at (inner_of mark (Some opened) (t ∷ ts)) ≡ further_on (at + 1) (inner_of mark (behind_token opened t) ts)
inner_more mark opened t ts at e = ap (λ b. further_on at (if b then Some 0 else option_map suc (inner_of mark (behind_token opened t) ts))) e ∙ by_found (inner_of mark (behind_token opened t) ts)
  where
    by_found : (o : Option ℕ) → further_on at (option_map suc o) ≡ further_on (at + 1) o
    by_found None = refl
    by_found (Some n) = let e : at + suc n ≡ at + 1 + n = omega arith in ap Some e

-- brackets that are closed among tokens
pub behind_append : (o : Option (List (List ℕ))) (xs ys : List (List ℕ)) → behind_tokens o (xs ++ ys) ≡ behind_tokens (behind_tokens o xs) ys
behind_append None xs ys = refl
behind_append (Some opened) [] ys = refl
behind_append (Some opened) (x ∷ xs) ys = behind_append (behind_token opened x) xs ys

-- what is found stands before the mark, each of its brackets closed
pub record IsInner (mark : List ℕ) (opened ts : List (List ℕ)) (n : ℕ) : Type 0 where
  pub within : n < length ts
  pub closed : behind_tokens (Some opened) (take n ts) ≡ Some []
  pub cut : ts ≡ take n ts ++ mark ∷ drop (suc n) ts

ends_mark : (mark t : List ℕ) (opened : List (List ℕ)) → ends mark opened t ≡ true → (opened ≡ []) × (t ≡ mark)
ends_mark mark t [] e = elim (tells t mark) [ inl told ↦ (refl, told.1) | inr told ↦ absurd (cc (told.0)) ]
ends_mark mark t (o ∷ os) e = absurd (cc)

inner_step : (mark : List ℕ) (opened : List (List ℕ)) (t : List ℕ) (ts : List (List ℕ)) (n : ℕ) (next : Option (List (List ℕ))) → behind_token opened t ≡ next →
    option_map suc (inner_of mark next ts) ≡ Some n → ((between : List (List ℕ)) (m : ℕ) → next ≡ Some between → inner_of mark next ts ≡ Some m → IsInner mark between ts m) →
    IsInner mark opened (t ∷ ts) n
inner_step mark opened t ts n None step e further = absurd (cc)
inner_step mark opened t ts n (Some between) step e further = by_rest (inner_of mark (Some between) ts) refl e (λ m h. further between m refl h)
  where
    by_rest : (r : Option ℕ) → inner_of mark (Some between) ts ≡ r → option_map suc r ≡ Some n → ((m : ℕ) → inner_of mark (Some between) ts ≡ Some m → IsInner mark between ts m) → IsInner mark opened (t ∷ ts) n
    by_rest None found f further = absurd (cc)
    by_rest (Some m) found f further =
        let inner = further m found in
        let count : suc m ≡ n = cc in
        subst (λ k. IsInner mark opened (t ∷ ts) k) count
        (record { within = omega (arith, inner.within); closed = ap (λ o. behind_tokens o (take m ts)) step ∙ inner.closed; cut = ap (λ us. t ∷ us) inner.cut })

inner_end : (mark : List ℕ) (opened : List (List ℕ)) (t : List ℕ) (ts : List (List ℕ)) (n : ℕ) (b : Bool) → ends mark opened t ≡ b →
    (if b then Some 0 else option_map suc (inner_of mark (behind_token opened t) ts)) ≡ Some n →
    ((between : List (List ℕ)) (m : ℕ) → behind_token opened t ≡ Some between → inner_of mark (behind_token opened t) ts ≡ Some m → IsInner mark between ts m) →
    IsInner mark opened (t ∷ ts) n
inner_end mark opened t ts n true f e further =
    let told = ends_mark mark t opened f in
    let zero_is : 0 ≡ n = cc in
    subst (λ k. IsInner mark opened (t ∷ ts) k) zero_is (subst (λ o. IsInner mark o (t ∷ ts) 0) (sym told.0)
    (record { within = omega arith; closed = refl; cut = ap (λ u. u ∷ ts) told.1 }))
inner_end mark opened t ts n false f e further = inner_step mark opened t ts n (behind_token opened t) refl e further

pub inner_found : (mark : List ℕ) (o : Option (List (List ℕ))) (opened ts : List (List ℕ)) (n : ℕ) → o ≡ Some opened → inner_of mark o ts ≡ Some n → IsInner mark opened ts n
inner_found mark None opened ts n is e = absurd (cc)
inner_found mark (Some os) opened [] n is e = absurd (cc)
inner_found mark (Some os) opened (t ∷ ts) n is e =
    let same_opened : os ≡ opened = cc in
    subst (λ o. IsInner mark o (t ∷ ts) n) same_opened
    (inner_end mark os t ts n (ends mark os t) refl e (λ between m step found. inner_found mark (behind_token os t) between ts m step found))

ends_not : (mark t : List ℕ) (opened : List (List ℕ)) (ts : List (List ℕ)) → behind_token [] mark ≡ None → behind_tokens (behind_token opened t) ts ≡ Some [] → (b : Bool) → ends mark opened t ≡ b → b ≡ false
ends_not mark t opened ts closes e true f =
    let told = ends_mark mark t opened f in
    let none : behind_token opened t ≡ None = ap (λ o. behind_token o t) told.0 ∙ ap (λ u. behind_token [] u) told.1 ∙ closes in
    let dead : behind_tokens None ts ≡ Some [] = ap (λ o. behind_tokens o ts) (sym none) ∙ e in
    absurd (cc)
ends_not mark t opened ts closes e false f = refl

-- a mark that closes nothing of what is open is found where it stands
pub inner_is : (mark : List ℕ) (o : Option (List (List ℕ))) (inner rest : List (List ℕ)) → behind_token [] mark ≡ None → behind_tokens o inner ≡ Some [] →
    inner_of mark o (inner ++ mark ∷ rest) ≡ Some (length inner)
inner_is mark None inner rest closes e = absurd (cc)
inner_is mark (Some []) [] rest closes e = ap (λ b. if b then Some 0 else option_map suc (inner_of mark (behind_token [] mark) rest)) (same mark mark refl)
inner_is mark (Some (c ∷ opened)) [] rest closes e = absurd (cc)
inner_is mark (Some opened) (t ∷ ts) rest closes e =
    ap (λ b. if b then Some 0 else option_map suc (inner_of mark (behind_token opened t) (ts ++ mark ∷ rest))) (ends_not mark t opened ts closes e (ends mark opened t) refl)
    ∙ ap (option_map suc) (inner_is mark (behind_token opened t) ts rest closes e)

pub close_alone : behind_token [] (spelling word.Close) ≡ None
unfolding spelling
close_alone = refl

pub brace_alone : behind_token [] (spelling word.CloseBrace) ≡ None
unfolding spelling
brace_alone = refl

-- one turn of the search
pub inner_turn : (mark : List ℕ) (at : ℕ) (ts : List (List ℕ)) (t : List ℕ) {ms items : List Keyword} {next : List (List ℕ)} {r : Bool} → ms ≡ items →
    r ≡ ends mark (open_marks ms) t → r ≡ false → behind_token (open_marks items) t ≡ Some next →
    further_on at (inner_of mark (Some (open_marks items)) (t ∷ ts)) ≡ further_on (at + 1) (inner_of mark (Some next) ts)
inner_turn mark at ts t {ms} {items} e told fails step =
    inner_more mark (open_marks items) t ts at (ap (λ l. ends mark (open_marks l) t) (sym e) ∙ sym told ∙ fails)
    ∙ ap (λ o. further_on (at + 1) (inner_of mark o ts)) step

-- what stands before the mark, and the mark
pub with_mark : (mark : List ℕ) (opened ts : List (List ℕ)) (n : ℕ) → IsInner mark opened ts n → take (suc n) ts ≡ take n ts ++ mark ∷ []
with_mark mark opened ts n inner =
    let long : length (take n ts ++ mark ∷ []) ≡ suc n = length_push (take n ts) mark ∙ ap (λ k. k + 1) (length-take-le n ts (omega (arith, inner.within))) ∙ add-one n in
    let cut : ts ≡ (take n ts ++ mark ∷ []) ++ drop (suc n) ts = inner.cut ∙ sym (append_assoc (take n ts) (mark ∷ []) (drop (suc n) ts)) in
    ap (take (suc n)) cut ∙ take_at (take n ts ++ mark ∷ []) (drop (suc n) ts) (suc n) long

-- tokens in brackets in front
pub record Bracketed (first last : List ℕ) (ts : List (List ℕ)) (n : ℕ) : Type 0 where
  pub inner : List (List ℕ)
  pub balanced : IsBalanced inner
  pub tokens : take n ts ≡ first ∷ inner ++ last ∷ []

pub bracketed_is : (first last : List ℕ) (ts : List (List ℕ)) (n : ℕ) → suc n ≡ bracketed first last ts → Bracketed first last ts (suc n)
bracketed_is first last [] n e = absurd (omega arith)
bracketed_is first last (t ∷ ts) n e = elim (tells t first) [
  | inl told ↦ by_found (inner_of last (Some []) ts) refl told.1 (e ∙ ap (λ b. if b then with_marks (inner_of last (Some []) ts) else 0) told.0)
  | inr told ↦ (let none : suc n ≡ 0 = e ∙ ap (λ b. if b then with_marks (inner_of last (Some []) ts) else 0) told.0 in absurd (omega (arith, none)))
]
  where
    by_found : (o : Option ℕ) → inner_of last (Some []) ts ≡ o → t ≡ first → suc n ≡ with_marks o → Bracketed first last (t ∷ ts) (suc n)
    by_found None found same_mark f = absurd (omega (arith, f))
    by_found (Some m) found same_mark f =
        let inner = inner_found last (Some []) [] ts m refl found in
        let count : n ≡ suc m = omega (arith, f) in
        let tokens : take n ts ≡ take m ts ++ last ∷ [] = ap (λ k. take k ts) count ∙ with_mark last [] ts m inner in
        record { inner = take m ts; balanced = inner.closed; tokens = ap (λ us. t ∷ us) tokens ∙ ap (λ u. u ∷ take m ts ++ last ∷ []) same_mark }

pub bracketed_there : (first last : List ℕ) (inner rest : List (List ℕ)) → behind_token [] last ≡ None → IsBalanced inner →
    bracketed first last ((first ∷ inner ++ last ∷ []) ++ rest) ≡ length inner + 2
bracketed_there first last inner rest closes balanced =
    let regrouped : (inner ++ last ∷ []) ++ rest ≡ inner ++ (last ∷ rest) = append_assoc inner (last ∷ []) rest in
    let found : inner_of last (Some []) ((inner ++ last ∷ []) ++ rest) ≡ Some (length inner) = ap (inner_of last (Some [])) regrouped ∙ inner_is last (Some []) inner rest closes balanced in
    ap (λ b. if b then with_marks (inner_of last (Some []) ((inner ++ last ∷ []) ++ rest)) else 0) (same first first refl) ∙ ap with_marks found

pub bracketed_other : (first last : List ℕ) (t : List ℕ) (ts : List (List ℕ)) → bytes_eq t first ≡ false → bracketed first last (t ∷ ts) ≡ 0
bracketed_other first last t ts e = ap (λ b. if b then with_marks (inner_of last (Some []) ts) else 0) e
