-- What stands next in a line can be told.
use Rattle.std.proofs.Common.{◌≡◌, ◌<◌, ◌≤◌, ◌+◌, ◌-◌, ℕ, zero, suc, Bool, true, false, List, [], ◌∷◌, length, take, drop, get_or, slice_index, Option, Some, None, Result, Ok, Err, refl, sym, ◌∙◌, ◌⊎◌, inl, inr, arith, length-drop}
use Rattle.std.proofs.lemmas.Bool.{cases_Bool, cases_lt, cases_eq}
use Rattle.std.proofs.lemmas.List.{take_all, get_or_past}
use Rattle.ms_lex.specs.Bytes.{is_separator}
use Rattle.ms_lex.specs.Kinds.{is_token}
use Rattle.ms_lex.specs.First.{first_kind}
use Rattle.ms_lex.specs.Front.{NoFront, FrontIs, Begins, TokenIs}
use Rattle.ms_lex.specs.Line.{IsNext, IsTokenAfter, EndsAfter, IsBadAfter, NextIs, Follow}
use Rattle.ms_lex.specs.declared.token.Token.{Token}
use Rattle.ms_lex.specs.declared.token.TokenKind.{TokenKind}
use Rattle.ms_lex.specs.declared.fault.LexFault.{LexFault}
use Rattle.ms_lex.specs.declared.fault.LexFault.TheVariants.{Bad, Memory}
use Rattle.ms_lex.proofs.First.{none_begins, none_of_kind, begins}
use Rattle.ms_lex.proofs.Follows.{token_grows}

-- no front within the bytes, none at all
no_front : (test : List ℕ → Bool) (bytes : List ℕ) → ((m : ℕ) → m ≤ length bytes → test (take m bytes) ≡ false) → NoFront test bytes
no_front test bytes none = record {
  none = λ m. elim (cases_lt (length bytes) m) [
    | inl past ↦ rw (take_all m bytes (omega arith) ∙ sym (take_all (length bytes) bytes (omega arith))) (none (length bytes) (omega arith))
    | inr within ↦ none m within
  ];
}

-- the longest front among those of at most n bytes
front_up_to : (test : List ℕ → Bool) (bytes : List ℕ) (n : ℕ) → n ≤ length bytes → ((m : ℕ) → n < m → m ≤ length bytes → test (take m bytes) ≡ false) → (o : Option ℕ) × FrontIs test bytes o
front_up_to test bytes zero within longer =
    elim (cases_Bool (test [])) [
      | inl passes ↦ (Some 0, record { within = within; passes = passes; longest = longer })
      | inr fails ↦ (None, no_front test bytes (none fails))
    ]
  where
    none : test [] ≡ false → (m : ℕ) → m ≤ length bytes → test (take m bytes) ≡ false
    none fails zero fits = fails
    none fails (suc m) fits = longer (suc m) (omega arith) fits
front_up_to test bytes (suc n) within longer =
    elim (cases_Bool (test (take (suc n) bytes))) [
      | inl passes ↦ (Some (suc n), record { within = within; passes = passes; longest = longer })
      | inr fails ↦ front_up_to test bytes n (omega arith) (λ m more fits. elim (cases_lt (suc n) m) [
        | inl further ↦ longer m further fits
        | inr here ↦ let same : m ≡ suc n = omega arith in rw same fails
      ])
    ]

-- how long the longest front is that passes a test
pub front_told : (test : List ℕ → Bool) (bytes : List ℕ) → (o : Option ℕ) × FrontIs test bytes o
front_told test bytes = front_up_to test bytes (length bytes) (omega arith) (λ m more fits. absurd (omega arith))

token_by : (bytes : List ℕ) (own : TokenKind) → 0 < length bytes → first_kind (get_or bytes 0 0) ≡ Some own → (o : Option ℕ) → FrontIs (is_token own) bytes o → (token : Option (TokenKind × ℕ)) × TokenIs bytes token
token_by bytes own some told None front = (None, none_of_kind bytes own some told front)
token_by bytes own some told (Some n) front = (Some (own, n), begins bytes own n some told front)

kind_by : (bytes : List ℕ) (kind : Option TokenKind) → 0 < length bytes → first_kind (get_or bytes 0 0) ≡ kind → (token : Option (TokenKind × ℕ)) × TokenIs bytes token
kind_by bytes None some told = (None, none_begins bytes some told)
kind_by bytes (Some own) some told = let front = front_told (is_token own) bytes in token_by bytes own some told front.0 front.1

-- the token in front
pub token_told : (bytes : List ℕ) → 0 < length bytes → (token : Option (TokenKind × ℕ)) × TokenIs bytes token
token_told bytes some = kind_by bytes (first_kind (get_or bytes 0 0)) some refl

-- a byte that is no separator is the next one
stands : (line : List ℕ) (from : ℕ) → from ≤ length line → is_separator (slice_index line from) ≡ false → IsNext line from from
stands line from within stop = record { after = omega arith; within = within; gap = λ k low high. absurd (omega arith); stop = stop }

-- behind a separator
behind_separator : (line : List ℕ) (from at : ℕ) → is_separator (slice_index line from) ≡ true → IsNext line (suc from) at → IsNext line from at
behind_separator line from at separator next = record {
  after = omega (arith, next.after);
  within = next.within;
  gap = λ k low high. elim (cases_eq k from) [
    | inl same ↦ rw same separator
    | inr other ↦ next.gap k (omega arith) high
  ];
  stop = next.stop;
}

next_by : (line : List ℕ) (left from : ℕ) → from + left ≡ length line → (at : ℕ) × IsNext line from at
next_by line zero from whole = (from, stands line from (omega arith) (rw (get_or_past line from 0 (omega arith)) refl))
next_by line (suc left) from whole =
    elim (cases_Bool (is_separator (slice_index line from))) [
      | inl separator ↦ let next = next_by line left (suc from) (omega arith) in (next.0, behind_separator line from next.0 separator next.1)
      | inr stop ↦ (from, stands line from (omega arith) stop)
    ]

-- the next byte that is no separator
pub next_told : (line : List ℕ) (from : ℕ) → from ≤ length line → (at : ℕ) × IsNext line from at
next_told line from within = next_by line (length line - from) from (omega arith)

-- the token in front of what is left of a line
token_after : (line : List ℕ) (from at n : ℕ) (kind : TokenKind) → IsNext line from at → Begins (drop at line) kind n → IsTokenAfter line from (record { kind = kind; from = at; to = at + n })
token_after line from at n kind next front =
    let gone : at + n - at ≡ n = omega arith in
    record {
      next = next;
      within = omega (arith, front.within, length-drop at line, next.within);
      bytes = rw gone front.passes;
      longest = λ other later more fits. front.longest other (later - at) (omega arith) (omega (arith, length-drop at line));
    }

after_by : (line : List ℕ) (from at : ℕ) → IsNext line from at → at < length line → (slice_index line at ≡ 59 → ⊥) → (token : Option (TokenKind × ℕ)) → TokenIs (drop at line) token → (r : Result (Option Token) LexFault) × NextIs line from r
after_by line from at next within other None front =
    (Err (Bad at), record { next = next; within = within; no_comment = other; no_token = λ kind later more fits. (front kind).none (later - at) })
after_by line from at next within other (Some token) front =
    (Ok (Some (record { kind = token.0; from = at; to = at + token.1 })), token_after line from at token.1 token.0 next front)

-- what stands next
pub after_told : (line : List ℕ) (from : ℕ) → from ≤ length line → (r : Result (Option Token) LexFault) × NextIs line from r
after_told line from within =
    let next = next_told line from within in
    elim (cases_eq next.0 (length line)) [
      | inl end ↦ (Ok None, record { at = next.0; next = next.1; end = inl end })
      | inr more ↦ elim (cases_eq (slice_index line next.0) 59) [
        | inl comment ↦ (Ok None, record { at = next.0; next = next.1; end = inr comment })
        | inr other ↦
            let inside : next.0 < length line = omega (arith, next.1.within) in
            let token = token_told (drop next.0 line) (omega (arith, length-drop next.0 line)) in
            after_by line from next.0 next.1 inside other token.0 token.1
      ]
    ]

-- the tokens from a place on, or the first byte that begins none
abbrev pub Told : List ℕ → ℕ → Type 0
Told line from = ((tokens : List Token) × Follow line (EndsAfter line) from tokens) ⊎ ((at : ℕ) × ((tokens : List Token) × Follow line (λ place. IsBadAfter line place at) from tokens))

-- a token before them
one_more : (line : List ℕ) (from : ℕ) (token : Token) → IsTokenAfter line from token → Told line token.to → Told line from
one_more line from token here (inl list) = inl (token ∷ list.0, (here, list.1))
one_more line from token here (inr bad) = inr (bad.0, (token ∷ bad.1.0, (here, bad.1.1)))

told_by : (line : List ℕ) (from left : ℕ) → length line - from ≤ left → (r : Result (Option Token) LexFault) → NextIs line from r
    → ((place : ℕ) → place ≤ length line → length line - place < left → Told line place) → Told line from
told_by line from left short (Ok None) next rest = inl ([], next)
told_by line from left short (Ok (Some token)) next rest =
    one_more line from token next (rest token.to next.within (omega (arith, token_grows line from token next, next.next.after, next.within)))
told_by line from left short (Err (Bad at)) next rest = inr (at, ([], next))
told_by line from left short (Err Memory) next rest = absurd next

told_up_to : (line : List ℕ) (left from : ℕ) → from ≤ length line → length line - from ≤ left → Told line from
told_up_to line zero from within short =
    let next = after_told line from within in
    told_by line from zero short next.0 next.1 (λ place fits less. absurd (omega arith))
told_up_to line (suc left) from within short =
    let next = after_told line from within in
    told_by line from (suc left) short next.0 next.1 (λ place fits less. told_up_to line left place fits (omega arith))

-- a line's tokens, or its first byte that begins none
pub told : (line : List ℕ) → Told line 0
told line = told_up_to line (length line) 0 (omega arith) (omega arith)
