-- Tokens that stand one behind another, each behind a gap.
use Rattle.std.proofs.Common.{◌≡◌, ◌<◌, ◌≤◌, ◌+◌, ◌-◌, ℕ, zero, suc, true, List, [], ◌∷◌, ◌++◌, length, drop, get_or, slice_index, slice_range, refl, sym, ap, subst, ◌∙◌, arith, length-append}
use Rattle.std.proofs.lemmas.List.{get_or-drop, get_or-take}
use Rattle.ms_lex.specs.Bytes.{is_separator}
use Rattle.ms_lex.specs.Kinds.{is_token}
use Rattle.ms_lex.specs.declared.token.Token.{Token}
use Rattle.ms_lex.specs.declared.token.TokenKind.{TokenKind}
use Rattle.ms_grammar.specs.Parts.{bytes_at, texts, end_of, cut_token, cut_behind}
use Rattle.ms_grammar.specs.Grammar.{IsReadableToken}
use Rattle.ms_reread.proofs.Ends.{Ends}
use Rattle.ms_reread.proofs.Places.{Stands, stands_length, stands_first, stands_second, slice_stands, slice_length, byte_stands, Gap, gap_none, Run, run_widen, token_at, token_stands}
use Rattle.ms_reread.proofs.Moves.{AreReadable}

-- a token's text, and what stands before it
pub record Cell : Type 0 where
  pub gap : List ℕ
  pub text : List ℕ

abbrev pub cells_text : List Cell → List ℕ
cells_text [] = []
cells_text (c ∷ cs) = c.gap ++ (c.text ++ cells_text cs)

-- the same with percent signs for locals
abbrev pub cells_cut : List Cell → List ℕ
cells_cut [] = []
cells_cut (c ∷ cs) = cut_token c.gap c.text ++ cells_cut cs

abbrev pub cell_texts : List Cell → List (List ℕ)
cell_texts [] = []
cell_texts (c ∷ cs) = c.text ∷ cell_texts cs

-- only separators
abbrev pub AreSeparators : List ℕ → Type 0
AreSeparators [] = Unit {0}
AreSeparators (b ∷ bs) = (is_separator b ≡ true) × AreSeparators bs

-- a readable token that ends before what stands behind it
pub record EndsBefore (s after : List ℕ) : Type 0 where
  pub kind : TokenKind
  pub is : is_token kind s ≡ true
  pub readable : IsReadableToken kind s
  pub ends : Ends kind s after

abbrev pub AreChained : List Cell → List ℕ → Type 0
AreChained [] rest = Unit {0}
AreChained (c ∷ cs) rest = AreSeparators c.gap × EndsBefore c.text (cells_text cs ++ rest) × AreChained cs rest

separator_at : (s : List ℕ) (k : ℕ) → AreSeparators s → k < length s → is_separator (get_or s k 0) ≡ true
separator_at [] k all less = absurd (omega arith)
separator_at (b ∷ bs) zero all less = all.0
separator_at (b ∷ bs) (suc k) all less = separator_at bs k all.1 (omega arith)

all_separators : (s : List ℕ) → ((k : ℕ) → k < length s → is_separator (get_or s k 0) ≡ true) → AreSeparators s
all_separators [] all = tt
all_separators (b ∷ bs) all = (all 0 (omega arith), all_separators bs (λ k less. all (suc k) (omega arith)))

-- what stands between two tokens of a line
pub separators_between : (old : List ℕ) (a b : ℕ) → a ≤ b → b ≤ length old → ((k : ℕ) → a ≤ k → k < b → is_separator (slice_index old k) ≡ true) → AreSeparators (slice_range old a b)
separators_between old a b low high separators =
    all_separators (slice_range old a b) (λ k less.
    let long : length (slice_range old a b) ≡ b - a = slice_length old a b low high in
    let short : k < b - a = omega arith in
    let byte : get_or (slice_range old a b) k 0 ≡ slice_index old (a + k) = get_or-take (b - a) (drop a old) k 0 short ∙ get_or-drop a old k 0 in
    rw byte (separators (a + k) (omega arith) (omega arith)))

gap_here : (line : List ℕ) (at : ℕ) (s rest : List ℕ) → Stands line at s rest → AreSeparators s → Gap line at (at + length s)
gap_here line at s rest h all = record {
  after = omega arith;
  within = omega (arith, stands_length line at s rest h);
  gap = λ k from to.
      let back : at + (k - at) ≡ k = omega arith in
      let inside : k - at < length s = omega arith in
      let byte : slice_index line k ≡ get_or s (k - at) 0 = ap (λ n. slice_index line n) (sym back) ∙ byte_stands line at s rest (k - at) h inside in
      rw byte (separator_at s (k - at) all inside);
}

-- tokens between two places that have the texts of cells
pub record Placed (line : List ℕ) (at to : ℕ) (cells : List Cell) : Type 0 where
  pub run : List Token
  pub follow : Run line at to run
  pub same : texts line run ≡ cell_texts cells
  pub cut : cut_behind line at run ≡ cells_cut cells
  pub end : (t : Token) → t.to ≡ at → end_of t run ≡ to
  pub readable : AreReadable line run

pub cells_stand : (line rest : List ℕ) (at to : ℕ) (cells : List Cell) → Stands line at (cells_text cells) rest → AreChained cells rest → to ≡ at + length (cells_text cells) → Placed line at to cells
cells_stand line rest at to [] h chained there =
    let same : at ≡ to = omega arith in
    record { run = []; follow = subst (λ n. Gap line at n) same (gap_none line at h.within); same = refl; cut = refl; end = λ t is. is ∙ same; readable = tt }
cells_stand line rest at to (c ∷ cs) h chained there =
    let more : List ℕ = cells_text cs in
    let w = chained.1 in
    let place : ℕ = at + length c.gap in
    let front : Stands line at c.gap ((c.text ++ more) ++ rest) = stands_first line at c.gap (c.text ++ more) rest h in
    let whole : Stands line place (c.text ++ more) rest = stands_second line at c.gap (c.text ++ more) rest h in
    let here : Stands line place c.text (more ++ rest) = stands_first line place c.text more rest whole in
    let left : Stands line (place + length c.text) more rest = stands_second line place c.text more rest whole in
    let end : to ≡ place + length c.text + length more = omega (arith, length-append c.gap (c.text ++ more), length-append c.text more) in
    let later = cells_stand line rest (place + length c.text) to cs left chained.2 end in
    let t : Token = token_at w.kind place c.text in
    let bytes : bytes_at line t ≡ c.text = slice_stands line place c.text (more ++ rest) here in
    let gap_is : slice_range line at place ≡ c.gap = slice_stands line at c.gap ((c.text ++ more) ++ rest) front in
    record {
      run = t ∷ later.run;
      follow = run_widen line at place to (t ∷ later.run) (gap_here line at c.gap ((c.text ++ more) ++ rest) front chained.0)
          (token_stands line place w.kind c.text (more ++ rest) here w.is w.ends, later.follow);
      same = ap (λ b. b ∷ texts line later.run) bytes ∙ ap (λ bs. c.text ∷ bs) later.same;
      cut = ap (λ g. cut_token g (bytes_at line t) ++ cut_behind line (place + length c.text) later.run) gap_is
          ∙ (ap (λ b. cut_token c.gap b ++ cut_behind line (place + length c.text) later.run) bytes ∙ ap (λ x. cut_token c.gap c.text ++ x) later.cut);
      end = λ before is. later.end t refl;
      readable = (subst (λ b. IsReadableToken w.kind b) (sym bytes) w.readable, later.readable);
    }
