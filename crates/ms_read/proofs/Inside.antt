-- A text that is read up to a place in a function has a long row.
use Rattle.std.proofs.Common.{◌≡◌, ℕ, ◌≤◌, true, false, Bool, List, [], ◌∷◌, length, Option, Some, None, refl, ap, arith, length-take, length-drop}
use Rattle.ms_lex.specs.declared.token.Token.{Token}
use Rattle.ms_grammar.specs.Grammar.{Says}
use Rattle.ms_grammar.specs.Parts.{texts, bytes_at}
use Rattle.ms_grammar.specs.Words.{spelling}
use Rattle.ms_grammar.specs.declared.keyword.Keyword.TheVariants as word
use Rattle.ms_grammar.specs.declared.line.Line.{Line}
use Rattle.ms_grammar.specs.declared.line.Line.TheVariants as line
use Rattle.ms_grammar.specs.declared.line.RawInst.TheVariants as inst
use Rattle.ms_line.specs.Sorts.{sort_of}
use Rattle.ms_line.specs.declared.sort.Sort.{Sort}
use Rattle.ms_line.specs.declared.sort.Sort.TheVariants.{Blank, Item, Define}
use Rattle.ms_read.specs.Places.{behind, is_outside}
use Rattle.ms_read.specs.declared.place.Place.{Place}
use Rattle.ms_read.specs.declared.place.Place.TheVariants.{Outside, Begun, Front, Inner, Ended}
use Rattle.ms_read.specs.declared.place.Progress.{Progress}

-- whether the next line is outside functions, where there is a place for one
abbrev stays_outside : Option Progress → Bool
stays_outside None = true
stays_outside (Some at) = is_outside at.place

-- A define line alone leads into a function.
begins : (place : Place) (functions blocks insts : ℕ) (sort : Sort) (next : Progress)
    → behind (record { place = place; functions = functions; blocks = blocks; insts = insts }) sort ≡ Some next
    → is_outside place ≡ true → is_outside next.place ≡ false → sort ≡ Define
begins Outside f b i Blank next e out in_it = let same = ap stays_outside e in absurd (cc)
begins Outside f b i Item next e out in_it = let same = ap stays_outside e in absurd (cc)
begins Outside f b i Define next e out in_it = refl
begins Outside f b i sort next e out in_it = absurd (cc)
begins Begun f b i sort next e out in_it = absurd (cc)
begins (Front _) f b i sort next e out in_it = absurd (cc)
begins (Inner _) f b i sort next e out in_it = absurd (cc)
begins Ended f b i sort next e out in_it = absurd (cc)

-- a line is as long as its first token
token_within : (row : List ℕ) (run : List Token) (w : List ℕ) → texts row run ≡ w ∷ [] → length w ≤ length row
token_within row [] w e = absurd (cc)
token_within row (t ∷ run) w e =
    let first : bytes_at row t ≡ w = cc in
    let cut = ap length first in
    omega (arith, cut, length-take {A = ℕ}, length-drop {A = ℕ})

define_length : length (spelling word.Define) ≡ 6
unfolding spelling
define_length = refl

long_define : (row : List ℕ) (l : Line) → Says row l → sort_of l ≡ Define → 6 ≤ length row
long_define row line.Empty says e = absurd (cc)
long_define row line.Close says e = absurd (cc)
long_define row (line.Kept _) says e = absurd (cc)
long_define row (line.Group _ _) says e = absurd (cc)
long_define row (line.GlobalVar _ _) says e = absurd (cc)
long_define row (line.Label _) says e = absurd (cc)
long_define row (line.Declare _) says e = absurd (cc)
long_define row (line.Define head) says e =
    let within = token_within row says.spelled.0 (spelling word.Define) says.spelled.3 in
    omega (arith, within, define_length)
long_define row (line.Inst _ (inst.Alloca _ _ _)) says e = absurd (cc)
long_define row (line.Inst _ (inst.Gep _ _ _ _ _)) says e = absurd (cc)
long_define row (line.Inst _ (inst.Step _ _ _ _ _ _)) says e = absurd (cc)
long_define row (line.Inst _ (inst.Load _ _ _)) says e = absurd (cc)
long_define row (line.Inst _ (inst.Store _ _ _ _)) says e = absurd (cc)
long_define row (line.Inst _ (inst.Copy _ _ _ _ _ _)) says e = absurd (cc)
long_define row (line.Inst _ (inst.Call _ _ _ _ _ _)) says e = absurd (cc)
long_define row (line.Inst _ (inst.Bin _ _ _ _ _ _)) says e = absurd (cc)
long_define row (line.Inst _ (inst.Cmp _ _ _ _ _ _)) says e = absurd (cc)
long_define row (line.Inst _ (inst.Select _ _ _ _ _)) says e = absurd (cc)
long_define row (line.Inst _ (inst.Cast _ _ _ _ _ _)) says e = absurd (cc)
long_define row (line.Inst _ (inst.Phi _ _ _)) says e = absurd (cc)
long_define row (line.Term _) says e = absurd (cc)

-- a row that leads into a function has six bytes
pub long_row : (at : Progress) (row : List ℕ) (l : Line) (next : Progress) → Says row l → behind at (sort_of l) ≡ Some next
    → is_outside at.place ≡ true → is_outside next.place ≡ false → 6 ≤ length row
long_row at row l next says e out in_it = long_define row l says (begins at.place at.functions at.blocks at.insts (sort_of l) next e out in_it)
