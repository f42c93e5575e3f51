-- Lines without values: what their tokens are, and that no other line has their form.
use Rattle.std.proofs.Common.{◌≡◌, ◌≢◌, ℕ, Option, MatchOption, ◌<◌, ◌≤◌, ◌^◌, length, true, List, [], ◌∷◌, ◌++◌, Some, None, decimal, drop, refl, sym, ap, subst, ◌∙◌, append-nil, All}
use Rattle.std.proofs.lemmas.List.Elements.{All-head, All-tail}
use Rattle.ms_lex.specs.Bytes.{is_mark}
use Rattle.ms_lex.specs.Kinds.{is_word, is_token}
use Rattle.ms_lex.specs.Line.{IsTokenOf}
use Rattle.ms_lex.proofs.First.{first_tells}
use Rattle.ms_lex.specs.declared.token.Token.{Token}
use Rattle.ms_lex.specs.declared.token.TokenKind.{TokenKind}
use Rattle.ms_lex.specs.declared.token.TokenKind.TheVariants as kind
use Rattle.ms_ir.specs.declared.names.Name.{Name}
use Rattle.ms_grammar.specs.Words.{spelling}
use Rattle.ms_grammar.specs.Kept.{IsKeptLine, IsGroupLine, IsGlobalLine, in_braces}
use Rattle.ms_grammar.specs.Parts.{Class, token, kept, kept_line, group_line, global_line, Spells, InClass, texts, bytes_at, kept_text}
use Rattle.ms_grammar.specs.Form.{no_scale, word_part, name_text}
use Rattle.ms_grammar.specs.Fits.{IsNamed}
use Rattle.ms_grammar.specs.Grammar.{IsReadableToken}
use Rattle.ms_grammar.specs.declared.line.Line.{Line}
use Rattle.ms_grammar.specs.declared.line.Line.TheVariants as said
use Rattle.ms_grammar.specs.declared.keyword.Keyword.TheVariants as word
use Rattle.ms_grammar.proofs.Both.{whole_run, starts_with}
use Rattle.ms_grammar.proofs.Digits.{few_decimal}
use Rattle.ms_line.specs.Shapes.{shape_of}
use Rattle.ms_line.specs.Spelled.{SpellLine, AreReadable, Finds}
use Rattle.ms_line.specs.declared.shape.Shape.TheVariants as shape
use Rattle.ms_line.specs.declared.found.Said.TheVariants.{Whole}
use Rattle.ms_line.proofs.Cells.{put_first, put_token, peel, behind_token, heads}

pub empty_found : (line : List ℕ) (tokens : List Token) → tokens ≡ [] → Finds shape.Empty line tokens (Some (Whole said.Empty))
empty_found line tokens e = (said.Empty, record { scale = no_scale; spelled = e; fits = tt }, (refl, tt))

pub close_found : (line : List ℕ) (tokens : List Token) (ts : List (List ℕ)) → texts line tokens ≡ spelling word.CloseBrace ∷ ts → drop 1 tokens ≡ [] →
    Finds shape.Close line tokens (Some (Whole said.Close))
close_found line tokens ts e none =
    (said.Close, record { scale = no_scale; spelled = put_first line tokens (spelling word.CloseBrace) ts [] e none; fits = tt }, (refl, tt))

-- a closing line begins with a brace, and ends behind it
pub record IsClose (line : List ℕ) (tokens : List Token) : Type 0 where
  pub first : (ts : List (List ℕ)) × (texts line tokens ≡ spelling word.CloseBrace ∷ ts)
  pub end : drop 1 tokens ≡ []

pub no_close : (line : List ℕ) (tokens : List Token) → (IsClose line tokens → ⊥) → Finds shape.Close line tokens None
no_close line tokens h = λ w s e. by_line w s e
  where
    by_line : (w : Line) → SpellLine line tokens w → shape_of w ≡ shape.Close → ⊥
    by_line said.Close s e =
        h (record { first = starts_with line tokens (spelling word.CloseBrace) [] s.spelled; end = behind_token line tokens (spelling word.CloseBrace) [] s.spelled })
    by_line w s e = cc

-- what is kept to the end of the line
pub put_whole : (line : List ℕ) (tokens : List Token) (class : Class) (text : List ℕ) → InClass class line tokens text → Spells line tokens (kept class text ∷ [])
put_whole line tokens class text h = (tokens, [], sym (append-nil tokens), h, refl)

pub whole_of : (line : List ℕ) (tokens : List Token) (class : Class) (text : List ℕ) → Spells line tokens (kept class text ∷ []) → InClass class line tokens text
whole_of line tokens class text h = subst (λ run. InClass class line run text) (sym (whole_run line tokens h.0 h.1 h.2 h.4)) h.3

pub kept_found : (line : List ℕ) (tokens : List Token) (text : List ℕ) → IsKeptLine (texts line tokens) → text ≡ kept_text line tokens →
    Finds shape.Kept line tokens (Some (Whole (said.Kept text)))
kept_found line tokens text h e = (said.Kept text, record { scale = no_scale; spelled = put_whole line tokens kept_line text (h, e); fits = tt }, (refl, tt))

pub no_kept : (line : List ℕ) (tokens : List Token) → (IsKeptLine (texts line tokens) → ⊥) → Finds shape.Kept line tokens None
no_kept line tokens h = λ w s e. by_line w s e
  where
    by_line : (w : Line) → SpellLine line tokens w → shape_of w ≡ shape.Kept → ⊥
    by_line (said.Kept text) s e = h (whole_of line tokens kept_line text s.spelled).0
    by_line w s e = cc

pub group_found : (line : List ℕ) (tokens : List Token) (n : ℕ) (text : List ℕ) → IsGroupLine n (texts line tokens) → text ≡ kept_text line tokens →
    Finds shape.Group line tokens (Some (Whole (said.Group n text)))
group_found line tokens n text h e = (said.Group n text, record { scale = no_scale; spelled = put_whole line tokens (group_line n) text (h, e); fits = tt }, (refl, tt))

-- digits behind the mark of a group
group_digits : (k : TokenKind) (ds : List ℕ) → is_token k (35 ∷ ds) ≡ true → IsReadableToken k (35 ∷ ds) → length ds ≤ 9
unfolding is_mark
group_digits kind.Group ds h r = (r h).1
group_digits k ds h r = absurd (let e : Some kind.Group ≡ Some k = first_tells k 35 ds h in cc)

second_cell : (a b c d : List ℕ) (s t : List (List ℕ)) → a ∷ b ∷ s ≡ c ∷ d ∷ t → b ≡ d
second_cell a b c d s t e = cc

-- the number of a readable group is small
small_number : (line : List ℕ) (tokens : List Token) (a : List ℕ) (n : ℕ) (ts : List (List ℕ)) → All (IsTokenOf line) tokens → AreReadable line tokens →
    texts line tokens ≡ a ∷ (35 ∷ decimal n) ∷ ts → n < 10 ^ 9
small_number line [] a n ts each readable e = absurd (cc)
small_number line (t ∷ []) a n ts each readable e = absurd (cc)
small_number line (t ∷ (u ∷ us)) a n ts each readable e =
    let at : bytes_at line u ≡ 35 ∷ decimal n = second_cell (bytes_at line t) (bytes_at line u) a (35 ∷ decimal n) (texts line us) ts e in
    let is = All-head (IsTokenOf line) u us (All-tail (IsTokenOf line) t (u ∷ us) each) in
    few_decimal n (group_digits u.kind (decimal n) (subst (λ s. is_token u.kind s ≡ true) at is.bytes) (subst (λ s. IsReadableToken u.kind s) at readable.1.0))

pub no_group : (line : List ℕ) (tokens : List Token) → All (IsTokenOf line) tokens → AreReadable line tokens →
    ((n : ℕ) → n < 10 ^ 9 → IsGroupLine n (texts line tokens) → ⊥) → Finds shape.Group line tokens None
no_group line tokens each readable h = λ w s e. by_line w s e
  where
    by_line : (w : Line) → SpellLine line tokens w → shape_of w ≡ shape.Group → ⊥
    by_line (said.Group n text) s e =
        let is = (whole_of line tokens (group_line n) text s.spelled).0 in
        h n (small_number line tokens (spelling word.Attributes) n (spelling word.Equals ∷ in_braces is.inner) each readable is.tokens) is
    by_line w s e = cc

-- the name of a global line is that of its first token
pub global_found : (line : List ℕ) (tokens : List Token) (n m text : List ℕ) (ts : List (List ℕ)) → IsGlobalLine n (texts line tokens) → texts line tokens ≡ (64 ∷ m) ∷ ts →
    is_word m ≡ true → text ≡ kept_text line tokens → Finds shape.GlobalVar line tokens (Some (Whole (said.GlobalVar m text)))
global_found line tokens n m text ts h e w k =
    let cells : (64 ∷ n) ∷ spelling word.Equals ∷ h.before ++ h.kind ∷ h.rest ≡ (64 ∷ m) ∷ ts = sym h.tokens ∙ e in
    let names : n ≡ m = cc in
    (said.GlobalVar m text, record { scale = no_scale; spelled = put_whole line tokens (global_line m) text (subst (λ x. IsGlobalLine x (texts line tokens)) names h, k); fits = w }, (refl, tt))

pub no_global : (line : List ℕ) (tokens : List Token) → ((n : List ℕ) → IsGlobalLine n (texts line tokens) → ⊥) → Finds shape.GlobalVar line tokens None
no_global line tokens h = λ w s e. by_line w s e
  where
    by_line : (w : Line) → SpellLine line tokens w → shape_of w ≡ shape.GlobalVar → ⊥
    by_line (said.GlobalVar n text) s e = h n (whole_of line tokens (global_line n) text s.spelled).0
    by_line w s e = cc

-- a label is a name and a colon
pub record IsLabel (line : List ℕ) (tokens : List Token) : Type 0 where
  pub name : Name
  pub named : IsNamed name
  pub spelled : Spells line tokens (token (name_text name) ∷ word_part word.Colon ∷ [])

pub no_label : (line : List ℕ) (tokens : List Token) → (IsLabel line tokens → ⊥) → Finds shape.Label line tokens None
no_label line tokens h = λ w s e. by_line w s e
  where
    by_line : (w : Line) → SpellLine line tokens w → shape_of w ≡ shape.Label → ⊥
    by_line (said.Label n) s e = h (record { name = n; named = s.fits; spelled = s.spelled })
    by_line w s e = cc

pub label_found : (line : List ℕ) (tokens rest : List Token) (t : Token) (n : Name) (ts : List (List ℕ)) → tokens ≡ t ∷ rest → texts line rest ≡ spelling word.Colon ∷ ts →
    drop 1 rest ≡ [] → IsNamed n → bytes_at line t ≡ name_text n → Finds shape.Label line tokens (Some (Whole (said.Label n)))
label_found line tokens rest t n ts e f none named b = (
  said.Label n,
  record {
    scale = no_scale;
    spelled = put_token line tokens rest t (name_text n) (word_part word.Colon ∷ []) e b (put_first line rest (spelling word.Colon) ts [] f none);
    fits = named;
  },
  (refl, tt),
)

-- the name that stands first
pub first_global_told : (line : List ℕ) (tokens rest : List Token) (t : Token) (found : Option (List ℕ)) → tokens ≡ t ∷ rest →
    MatchOption found ((n : List ℕ) → bytes_at line t ≢ 64 ∷ n) (λ n. (bytes_at line t ≡ 64 ∷ n) × (is_word n ≡ true)) →
    MatchOption found ((n : List ℕ) (ts : List (List ℕ)) → texts line tokens ≢ (64 ∷ n) ∷ ts) (λ n. ((ts : List (List ℕ)) × (texts line tokens ≡ (64 ∷ n) ∷ ts)) × (is_word n ≡ true))
first_global_told line tokens rest t None e none = λ n ts h.
    none n (heads (bytes_at line t) (64 ∷ n) (texts line rest) ts (sym (ap (λ ks. texts line ks) e) ∙ h))
first_global_told line tokens rest t (Some n) e told = ((texts line rest, ap (λ ks. texts line ks) e ∙ ap (λ c. c ∷ texts line rest) told.0), told.1)

pub no_label_colon : (line : List ℕ) (tokens rest : List Token) (t : Token) → tokens ≡ t ∷ rest → ((ts : List (List ℕ)) × (texts line rest ≡ spelling word.Colon ∷ ts) → ⊥) → IsLabel line tokens → ⊥
no_label_colon line tokens rest t e none h = none (starts_with line rest (spelling word.Colon) [] (peel line tokens rest t (name_text h.name) (word_part word.Colon ∷ []) e h.spelled).spelled)
