-- From what tokens spell to what a line says.
use Rattle.std.proofs.Common.{◌≡◌, ℕ, true, List, Option, Some, None, sym, subst}
use Rattle.ms_lex.specs.Line.{IsTokens, IsBad}
use Rattle.ms_lex.proofs.OneList.{one_list, no_list}
use Rattle.ms_lex.specs.declared.token.Token.{Token}
use Rattle.ms_grammar.specs.Parts.{Spells, texts}
use Rattle.ms_grammar.specs.Form.{form}
use Rattle.ms_grammar.specs.Grammar.{Says, kept_of}
use Rattle.ms_grammar.specs.Limits.{names_of}
use Rattle.ms_grammar.specs.declared.line.Line.{Line}
use Rattle.ms_grammar.proofs.Sorts.{sort_of}
use Rattle.ms_line.specs.Cause.{IsRead, IsPast, SaysNothing}
use Rattle.ms_line.specs.Shapes.{kind_for}
use Rattle.ms_line.specs.Short.{are_short}
use Rattle.ms_line.specs.Spelled.{SpellLine, AreReadable, IsFound, Finds, IsSaid}
use Rattle.ms_line.specs.declared.shape.Shape.{Shape}
use Rattle.ms_line.specs.declared.found.Said.{Said}
use Rattle.ms_line.specs.declared.found.Said.TheVariants.{Whole}
use Rattle.ms_line.proofs.ShapeLemmas.{shape_told}
use Rattle.ms_line.proofs.ShortLemmas.{each_short, short_each}

-- what is found of the only form that the tokens may have
pub found_told : (line : List ℕ) (tokens : List Token) (s : Shape) (found : Option Said) → kind_for s ≡ sort_of (texts line tokens) → Finds s line tokens found → IsFound line tokens found
found_told line tokens s None told h = λ w spelled. h w spelled (shape_told line tokens s w told spelled)
found_told line tokens s (Some x) told h = h

-- what a line says, its tokens spell
spell_of : (line : List ℕ) (tokens : List Token) (w : Line) → IsTokens line tokens → Says line w → SpellLine line tokens w
spell_of line tokens w are says = record {
  scale = says.scale;
  spelled = subst (λ ts. Spells line ts (form says.scale w)) (one_list line says.tokens tokens says.are_tokens are) says.spelled;
  fits = says.fits;
}

pub bad_says_nothing : (line : List ℕ) (at : ℕ) → IsBad line at → SaysNothing line
bad_says_nothing line at bad = λ w says. no_list line says.tokens at says.are_tokens bad

pub unreadable_says_nothing : (line : List ℕ) (tokens : List Token) → IsTokens line tokens → (AreReadable line tokens → ⊥) → SaysNothing line
unreadable_says_nothing line tokens are none = λ w says. none (subst (λ ts. AreReadable line ts) (one_list line says.tokens tokens says.are_tokens are) says.readable)

pub none_says_nothing : (line : List ℕ) (tokens : List Token) → IsTokens line tokens → IsFound line tokens None → SaysNothing line
none_says_nothing line tokens are none = λ w says. none w (spell_of line tokens w are says)

-- a line whose names are short
pub short_read : (line : List ℕ) (l kept : Line) → IsSaid line (Whole l) → are_short (names_of l) ≡ true → kept ≡ kept_of l → IsRead line kept
short_read line l kept h short e =
    let same = h.2.0 in
    record {
      written = h.0;
      says = h.1;
      within = (each_short (names_of h.0) (subst (λ x. are_short (names_of x) ≡ true) same short), h.2.1);
      kept = subst (λ x. kept ≡ kept_of x) same e;
    }

pub long_past : (line : List ℕ) (l : Line) → IsSaid line (Whole l) → (are_short (names_of l) ≡ true → ⊥) → IsPast line
long_past line l h none = record { written = h.0; says = h.1; past = λ within. none (subst (λ x. are_short (names_of x) ≡ true) (sym h.2.0) (short_each (names_of h.0) within.0)) }
