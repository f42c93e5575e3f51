-- Tokens taken from the front of a line's, and parts put there.
use Rattle.std.proofs.Common.{◌≡◌, ℕ, Bool, true, false, Some, inl, inr, ◌+◌, List, [], ◌∷◌, ◌++◌, length, take, drop, suc, refl, sym, ap, subst, ◌∙◌, arith}
use Rattle.std.proofs.lemmas.List.{drop_at, take-append-drop}
use Rattle.ms_lex.specs.Bytes.{is_mark}
use Rattle.ms_lex.specs.Kinds.{is_word, is_token}
use Rattle.ms_lex.proofs.First.{first_tells}
use Rattle.ms_lex.specs.declared.token.Token.{Token}
use Rattle.ms_lex.specs.declared.token.TokenKind.{TokenKind}
use Rattle.ms_lex.specs.declared.token.TokenKind.TheVariants as kind
use Rattle.ms_grammar.specs.Parts.{Part, blank, token, apart, Spells, texts, bytes_at, InClass, Class}
use Rattle.std.specs.Str.{bytes_eq}
use Rattle.ms_grammar.proofs.Steps.{one_of, tells}
use Rattle.ms_grammar.proofs.Both.{along}

pub put_blank : (line : List ℕ) (tokens : List Token) (ps : List Part) → Spells line tokens ps → Spells line tokens (blank ∷ ps)
put_blank line tokens ps h = ([], tokens, refl, refl, h)

-- a token that stands first
pub put_token : (line : List ℕ) (tokens rest : List Token) (t : Token) (s : List ℕ) (ps : List Part) → tokens ≡ t ∷ rest → bytes_at line t ≡ s →
    Spells line rest ps → Spells line tokens (token s ∷ ps)
put_token line tokens rest t s ps e b h = (t ∷ [], rest, e, ap (λ u. u ∷ []) b, h)

-- the token that stands first, and what is spelled behind it
pub record Peeled (line : List ℕ) (t : Token) (rest : List Token) (s : List ℕ) (ps : List Part) : Type 0 where
  pub bytes : bytes_at line t ≡ s
  pub spelled : Spells line rest ps

pub peel : (line : List ℕ) (tokens rest : List Token) (t : Token) (s : List ℕ) (ps : List Part) → tokens ≡ t ∷ rest → Spells line tokens (token s ∷ ps) → Peeled line t rest s ps
peel line tokens rest t s ps e h =
    let one = one_of line tokens h.0 h.1 s h.2 h.3 in
    let cells : t ∷ rest ≡ one.first ∷ h.1 = sym e ∙ one.whole in
    let first : t ≡ one.first = cc in
    let behind : rest ≡ h.1 = cc in
    record { bytes = ap (λ u. bytes_at line u) first ∙ one.bytes; spelled = along line ps rest h.1 behind h.4 }

pub no_token : (line : List ℕ) (tokens : List Token) (s : List ℕ) (ps : List Part) → tokens ≡ [] → Spells line tokens (token s ∷ ps) → ⊥
no_token line tokens s ps e h = let one = one_of line tokens h.0 h.1 s h.2 h.3 in let cells : [] ≡ one.first ∷ h.1 = sym e ∙ one.whole in cc

-- what stands behind the first token
pub behind_token : (line : List ℕ) (tokens : List Token) (s : List ℕ) (ps : List Part) → Spells line tokens (token s ∷ ps) → Spells line (drop 1 tokens) ps
behind_token line tokens s ps h =
    let one = one_of line tokens h.0 h.1 s h.2 h.3 in
    let rest : drop 1 tokens ≡ h.1 = ap (λ ts. drop 1 ts) one.whole in
    along line ps (drop 1 tokens) h.1 rest h.4

-- the token that has a text
pub put_first : (line : List ℕ) (tokens : List Token) (s : List ℕ) (ts : List (List ℕ)) (ps : List Part) → texts line tokens ≡ s ∷ ts →
    Spells line (drop 1 tokens) ps → Spells line tokens (token s ∷ ps)
put_first line [] s ts ps e h = absurd (cc)
put_first line (t ∷ rest) s ts ps e h = let b : bytes_at line t ≡ s = cc in put_token line (t ∷ rest) rest t s ps refl b h

-- the first cell of a list, and the rest
pub heads : (a b : List ℕ) (s t : List (List ℕ)) → a ∷ s ≡ b ∷ t → a ≡ b
heads a b s t e = cc

-- a run that is taken, and what stands behind it
pub put_apart : (line : List ℕ) (tokens : List Token) (n : ℕ) (class : Class) (text : List ℕ) (ps : List Part) → InClass class line (take n tokens) text →
    Spells line (drop n tokens) ps → Spells line tokens (apart class text ∷ ps)
put_apart line tokens n class text ps are h = (take n tokens, drop n tokens, sym (take-append-drop n tokens), are, h)

pub behind_run : (line : List ℕ) (tokens run rest : List Token) (n : ℕ) (ps : List Part) → tokens ≡ run ++ rest → n ≡ length run → Spells line rest ps → Spells line (drop n tokens) ps
behind_run line tokens run rest n ps e k h =
    let rest_is : drop n tokens ≡ rest = ap (λ ts. drop n ts) e ∙ drop_at run rest n (sym k) in along line ps (drop n tokens) rest rest_is h

pub behind_one : (tokens rest : List Token) (t : Token) (n : ℕ) → tokens ≡ t ∷ rest → drop (1 + n) tokens ≡ drop n rest
behind_one tokens rest t n e = let sum : 1 + n ≡ suc n = omega arith in ap (λ ts. drop (1 + n) ts) e ∙ ap (λ k. drop k (t ∷ rest)) sum

pub same_text_told : (s t : List ℕ) → bytes_eq s t ≡ true → s ≡ t
same_text_told s t e = elim (tells s t) [ inl told ↦ told.1 | inr told ↦ absurd (let no : bytes_eq s t ≡ false = told.0 in cc) ]

pub not_true : (b : Bool) → b ≡ false → b ≡ true → ⊥
not_true b f t = cc

global_kind : (k : TokenKind) (name : List ℕ) → is_token k (64 ∷ name) ≡ true → is_word name ≡ true
unfolding is_mark
global_kind kind.Global name h = h
global_kind k name h = absurd (let e : Some kind.Global ≡ Some k = first_tells k 64 name h in cc)

-- what stands behind the mark of a global is a word
pub global_word : (k : TokenKind) (s name : List ℕ) → is_token k s ≡ true → s ≡ 64 ∷ name → is_word name ≡ true
global_word k s name h e = global_kind k name (subst (λ t. is_token k t ≡ true) e h)
