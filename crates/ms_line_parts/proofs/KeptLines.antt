-- The lines that say nothing of memory, and the lines of groups, as their tests tell.
use Rattle.std.proofs.Common.{◌≡◌, ◌≢◌, ℕ, ◌+◌, ◌<◌, ◌^◌, ◌==◌, nat_lt, zero, suc, Bool, true, false, ◌&&◌, ◌||◌, List, [], ◌∷◌, Option, Some, None, length, get_or, decimal, refl, sym, ap, subst, ◌∙◌, inl, inr, arith}
use Rattle.std.specs.Option.{MatchOption}
use Rattle.std.specs.Str.{bytes_eq}
use Rattle.std.proofs.lemmas.Bool.{and_parts, or_cases, eqb-true, eq-eqb}
use Rattle.std.proofs.lemmas.Bool.Decides.{nat_tests}
use Rattle.std.proofs.lemmas.List.{length-append, take_all, append-nil}
use Rattle.ms_lex.specs.Kinds.{is_word, is_token}
use Rattle.ms_lex.specs.declared.token.Token.{Token}
use Rattle.ms_lex.specs.declared.token.TokenKind.TheVariants.{Local, Meta}
use Rattle.ms_grammar.specs.Words.{spelling}
use Rattle.ms_grammar.specs.Kept.{behind_tokens, IsBalanced, IsKeptLine, IsGroupLine, in_braces}
use Rattle.ms_grammar.specs.Kept.IsKeptLine.{source, target, metadata, named, comdat}
use Rattle.ms_grammar.specs.Parts.{texts, bytes_at}
use Rattle.ms_grammar.specs.declared.keyword.Keyword.TheVariants as word
use Rattle.ms_grammar.proofs.Steps.{tells, same}
use Rattle.ms_line_parts.specs.Reach.{bracketed}
use Rattle.ms_line_parts.specs.Rests.{is_closed, balanced, source_line, target_line, comdat_line, metadata_line, named_line, kept_line, is_whole, group_shape}
use Rattle.ms_line_parts.proofs.Marks.{bracketed_is, bracketed_there, brace_alone}

told : (s t : List ℕ) → bytes_eq s t ≡ true → s ≡ t
told s t e = elim (tells s t) [ inl is ↦ is.1 | inr other ↦ absurd (cc (e, other.0)) ]

closed_is : (o : Option (List (List ℕ))) → is_closed o ≡ true → o ≡ Some []
closed_is None e = absurd (cc)
closed_is (Some []) e = refl
closed_is (Some (c ∷ opened)) e = absurd (cc)

pub balanced_is : (ts : List (List ℕ)) → balanced ts ≡ true → IsBalanced ts
balanced_is ts e = closed_is (behind_tokens (Some []) ts) e

pub balanced_there : (ts : List (List ℕ)) → IsBalanced ts → balanced ts ≡ true
balanced_there ts e = ap is_closed e

source_is : (ts : List (List ℕ)) → source_line ts ≡ true → IsKeptLine ts
source_is [] e = absurd (cc)
source_is (a ∷ []) e = absurd (cc)
source_is (a ∷ (b ∷ [])) e = absurd (cc)
source_is (a ∷ (b ∷ (c ∷ []))) e =
    let x = and_parts (bytes_eq a (spelling word.SourceFilename)) _ e in let y = and_parts (bytes_eq b (spelling word.Equals)) _ x.1 in
    source c y.1 (ap (λ s. s ∷ b ∷ c ∷ []) (told a _ x.0) ∙ ap (λ s. spelling word.SourceFilename ∷ s ∷ c ∷ []) (told b _ y.0))
source_is (a ∷ (b ∷ (c ∷ (d ∷ ts)))) e = absurd (cc)

target_is : (ts : List (List ℕ)) → target_line ts ≡ true → IsKeptLine ts
target_is [] e = absurd (cc)
target_is (a ∷ []) e = absurd (cc)
target_is (a ∷ (b ∷ [])) e = absurd (cc)
target_is (a ∷ (b ∷ (c ∷ []))) e = absurd (cc)
target_is (a ∷ (b ∷ (c ∷ (d ∷ [])))) e =
    let x = and_parts (bytes_eq a (spelling word.Target)) _ e in let y = and_parts (is_word b) _ x.1 in let z = and_parts (bytes_eq c (spelling word.Equals)) _ y.1 in
    target b d y.0 z.1 (ap (λ s. s ∷ b ∷ c ∷ d ∷ []) (told a _ x.0) ∙ ap (λ s. spelling word.Target ∷ b ∷ s ∷ d ∷ []) (told c _ z.0))
target_is (a ∷ (b ∷ (c ∷ (d ∷ (f ∷ ts))))) e = absurd (cc)

comdat_is : (ts : List (List ℕ)) → comdat_line ts ≡ true → IsKeptLine ts
comdat_is [] e = absurd (cc)
comdat_is (a ∷ []) e = absurd (cc)
comdat_is (a ∷ (b ∷ [])) e = absurd (cc)
comdat_is (a ∷ (b ∷ (c ∷ []))) e = absurd (cc)
comdat_is ([] ∷ (b ∷ (c ∷ (d ∷ [])))) e = absurd (cc)
comdat_is ((f ∷ a) ∷ (b ∷ (c ∷ (d ∷ [])))) e =
    let x = and_parts (f == 36) _ e in let y = and_parts (is_word (f ∷ a)) _ x.1 in
    let z = and_parts (bytes_eq b (spelling word.Equals)) _ y.1 in let w = and_parts (bytes_eq c (spelling word.Comdat)) _ z.1 in
    let first : f ≡ 36 = eqb-true f 36 x.0 in
    comdat a d (subst (λ k. is_word (k ∷ a) ≡ true) first y.0) w.1
    (ap (λ k. (k ∷ a) ∷ b ∷ c ∷ d ∷ []) first ∙ ap (λ s. (36 ∷ a) ∷ s ∷ c ∷ d ∷ []) (told b _ z.0) ∙ ap (λ s. (36 ∷ a) ∷ spelling word.Equals ∷ s ∷ d ∷ []) (told c _ w.0))
comdat_is (a ∷ (b ∷ (c ∷ (d ∷ (f ∷ ts))))) e = absurd (cc)

metadata_is : (ts : List (List ℕ)) → metadata_line ts ≡ true → IsKeptLine ts
metadata_is [] e = absurd (cc)
metadata_is (a ∷ []) e = absurd (cc)
metadata_is (a ∷ (b ∷ ts)) e =
    let x = and_parts (is_token Meta a) _ e in let y = and_parts (bytes_eq b (spelling word.Equals)) _ x.1 in
    metadata a ts x.0 (balanced_is ts y.1) (ap (λ s. a ∷ s ∷ ts) (told b _ y.0))

named_is : (ts : List (List ℕ)) → named_line ts ≡ true → IsKeptLine ts
named_is [] e = absurd (cc)
named_is (a ∷ []) e = absurd (cc)
named_is (a ∷ (b ∷ [])) e = absurd (cc)
named_is (a ∷ (b ∷ (c ∷ ts))) e =
    let x = and_parts (is_token Local a) _ e in let y = and_parts (bytes_eq b (spelling word.Equals)) _ x.1 in let z = and_parts (bytes_eq c (spelling word.TypeOf)) _ y.1 in
    named a ts x.0 (balanced_is ts z.1) (ap (λ s. a ∷ s ∷ c ∷ ts) (told b _ y.0) ∙ ap (λ s. a ∷ spelling word.Equals ∷ s ∷ ts) (told c _ z.0))

pub kept_is : (ts : List (List ℕ)) → kept_line ts ≡ true → IsKeptLine ts
kept_is ts e = elim (or_cases (source_line ts) _ e) [
  | inl h ↦ source_is ts h
  | inr rest ↦ elim (or_cases (target_line ts) _ rest) [
    | inl h ↦ target_is ts h
    | inr rest ↦ elim (or_cases (comdat_line ts) _ rest) [
      | inl h ↦ comdat_is ts h
      | inr rest ↦ elim (or_cases (metadata_line ts) _ rest) [ inl h ↦ metadata_is ts h | inr h ↦ named_is ts h ]
    ]
  ]
]

later : (a b : Bool) → b ≡ true → (a || b) ≡ true
later true b e = refl
later false b e = e

sooner : (a b : Bool) → a ≡ true → (a || b) ≡ true
sooner true b e = refl
sooner false b e = absurd (cc)

both : (a b : Bool) → a ≡ true → b ≡ true → (a && b) ≡ true
both true b e f = f
both false b e f = absurd (cc)

itself : (s : List ℕ) → bytes_eq s s ≡ true
itself s = same s s refl

pub kept_there : (ts : List (List ℕ)) → IsKeptLine ts → kept_line ts ≡ true
kept_there ts (source name h is) = rw is (sooner _ _ (both _ _ (itself (spelling word.SourceFilename)) (both _ _ (itself (spelling word.Equals)) h)))
kept_there ts (target what value h k is) =
    rw is (later (source_line (spelling word.Target ∷ what ∷ spelling word.Equals ∷ value ∷ [])) _ (sooner _ _ (both _ _ (itself (spelling word.Target)) (both _ _ h (both _ _ (itself (spelling word.Equals)) k)))))
kept_there ts (comdat name kind h k is) =
    let us : List (List ℕ) = (36 ∷ name) ∷ spelling word.Equals ∷ spelling word.Comdat ∷ kind ∷ [] in
    rw is (later (source_line us) _ (later (target_line us) _ (sooner _ _ (both _ _ h (both _ _ (itself (spelling word.Equals)) (both _ _ (itself (spelling word.Comdat)) k))))))
kept_there ts (metadata name rest h balanced_rest is) =
    let us : List (List ℕ) = name ∷ spelling word.Equals ∷ rest in
    rw is (later (source_line us) _ (later (target_line us) _ (later (comdat_line us) _ (sooner (metadata_line us) (named_line us) (both _ _ h (both _ _ (itself (spelling word.Equals)) (balanced_there rest balanced_rest)))))))
kept_there ts (named name rest h balanced_rest is) =
    let us : List (List ℕ) = name ∷ spelling word.Equals ∷ spelling word.TypeOf ∷ rest in
    rw is (later (source_line us) _ (later (target_line us) _ (later (comdat_line us) _ (later (metadata_line us) (named_line us) (both _ _ h (both _ _ (itself (spelling word.Equals)) (both _ _ (itself (spelling word.TypeOf)) (balanced_there rest balanced_rest))))))))

pub named_short : (line : List ℕ) (tokens : List Token) → length tokens < 3 → false ≡ named_line (texts line tokens)
named_short line [] h = refl
named_short line (a ∷ []) h = refl
named_short line (a ∷ (b ∷ [])) h = refl
named_short line (a ∷ (b ∷ (c ∷ ts))) h = absurd (omega arith)

-- a group's line has its shape, and its name in the second token
group_is : (a b c : List ℕ) (ts : List (List ℕ)) (n : ℕ) → group_shape (a ∷ b ∷ c ∷ ts) ≡ true → b ≡ 35 ∷ decimal n → IsGroupLine n (a ∷ b ∷ c ∷ ts)
group_is a b c ts n e name =
    let x = and_parts (bytes_eq a (spelling word.Attributes)) _ e in let y = and_parts (bytes_eq c (spelling word.Equals)) _ x.1 in
    by_count (bracketed (spelling word.OpenBrace) (spelling word.CloseBrace) ts) refl y.1 (told a _ x.0) (told c _ y.0)
  where
    by_count : (m : ℕ) → m ≡ bracketed (spelling word.OpenBrace) (spelling word.CloseBrace) ts → is_whole (length ts) m ≡ true → a ≡ spelling word.Attributes → c ≡ spelling word.Equals → IsGroupLine n (a ∷ b ∷ c ∷ ts)
    by_count zero f whole first third = absurd (let none = and_parts (nat_lt 0 zero) (zero == length ts) whole in cc)
    by_count (suc m) f whole first third =
        let all : suc m ≡ length ts = eqb-true (suc m) (length ts) (and_parts (nat_lt 0 (suc m)) (suc m == length ts) whole).1 in
        let inside = bracketed_is (spelling word.OpenBrace) (spelling word.CloseBrace) ts m f in
        let tokens : ts ≡ in_braces inside.inner = sym (take_all (suc m) ts (omega (arith, all))) ∙ inside.tokens in
        record {
          inner = inside.inner;
          balanced = inside.balanced;
          tokens = ap (λ s. s ∷ b ∷ c ∷ ts) first ∙ ap (λ s. spelling word.Attributes ∷ s ∷ c ∷ ts) name ∙ ap (λ s. spelling word.Attributes ∷ (35 ∷ decimal n) ∷ s ∷ ts) third
              ∙ ap (λ us. spelling word.Attributes ∷ (35 ∷ decimal n) ∷ spelling word.Equals ∷ us) tokens;
        }

braces_whole : (inner : List (List ℕ)) → IsBalanced inner → is_whole (length (in_braces inner)) (bracketed (spelling word.OpenBrace) (spelling word.CloseBrace) (in_braces inner)) ≡ true
braces_whole inner balanced_inner =
    let count : bracketed (spelling word.OpenBrace) (spelling word.CloseBrace) (in_braces inner) ≡ length inner + 2 =
    ap (bracketed (spelling word.OpenBrace) (spelling word.CloseBrace)) (sym (append-nil (in_braces inner))) ∙ bracketed_there (spelling word.OpenBrace) (spelling word.CloseBrace) inner [] brace_alone balanced_inner in
    let long : length (in_braces inner) ≡ length inner + 2 = omega (arith, length-append inner (spelling word.CloseBrace ∷ [])) in
    let some : nat_lt 0 (bracketed (spelling word.OpenBrace) (spelling word.CloseBrace) (in_braces inner)) ≡ true = grind (arith, nat_tests, count) in
    both _ _ some (eq-eqb _ _ (count ∙ sym long))

group_there : (ts : List (List ℕ)) (n : ℕ) → IsGroupLine n ts → group_shape ts ≡ true
group_there ts n h = rw h.tokens (both _ _ (itself (spelling word.Attributes)) (both _ _ (itself (spelling word.Equals)) (braces_whole h.inner h.balanced)))

pub no_group : (ts : List (List ℕ)) (r : Bool) (n : ℕ) → r ≡ group_shape ts → r ≡ false → IsGroupLine n ts → ⊥
no_group ts r n told_is fails h = let there = group_there ts n h in cc

second_one : (a b c d e f : List ℕ) (s t : List (List ℕ)) → a ∷ b ∷ c ∷ s ≡ d ∷ e ∷ f ∷ t → b ≡ e
second_one a b c d e f s t h = cc

pub group_told : (line : List ℕ) (tokens : List Token) (d : Token) (o : Option ℕ) → group_shape (texts line tokens) ≡ true →
    MatchOption o ((n : ℕ) → n < 10 ^ 9 → bytes_at line (get_or tokens 1 d) ≢ 35 ∷ decimal n) (λ n. (n < 10 ^ 9) × (bytes_at line (get_or tokens 1 d) ≡ 35 ∷ decimal n)) →
    MatchOption o ((n : ℕ) → n < 10 ^ 9 → IsGroupLine n (texts line tokens) → ⊥) (λ n. (n < 10 ^ 9) × IsGroupLine n (texts line tokens))
group_told line [] d o e h = absurd (cc)
group_told line (a ∷ []) d o e h = absurd (cc)
group_told line (a ∷ (b ∷ [])) d o e h = absurd (cc)
group_told line (a ∷ (b ∷ (c ∷ ts))) d None e h =
    λ n small is. h n small (second_one (bytes_at line a) (bytes_at line b) (bytes_at line c) (spelling word.Attributes) (35 ∷ decimal n) (spelling word.Equals) (texts line ts) (in_braces is.inner) is.tokens)
group_told line (a ∷ (b ∷ (c ∷ ts))) d (Some n) e h = (h.0, group_is (bytes_at line a) (bytes_at line b) (bytes_at line c) (texts line ts) n e h.1)
