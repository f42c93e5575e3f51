-- A line has one list of texts.
use Rattle.std.proofs.Common.{◌≡◌, ℕ, List, [], refl, sym, ap, ◌∙◌, inl, inr}
use Rattle.ms_lex.proofs.OneList.{one_list, no_list}
use Rattle.ms_lex.proofs.Told.{Told, told}
use Rattle.ms_attrs.specs.Texts.{texts_of, AreTexts, CutsLines, whole, broken}

pub one_cut : (line : List ℕ) (a b : List (List ℕ)) → AreTexts line a → AreTexts line b → a ≡ b
one_cut line a b (whole ts are is) (whole us others so) = is ∙ ap (texts_of line) (one_list line ts us are others) ∙ sym so
one_cut line a b (whole ts are is) (broken at bad so) = absurd (no_list line ts at are bad)
one_cut line a b (broken at bad is) (whole us others so) = absurd (no_list line us at others bad)
one_cut line a b (broken at bad is) (broken later worse so) = is ∙ sym so

-- the texts of a line
texts_by : (line : List ℕ) → Told line 0 → (texts : List (List ℕ)) × AreTexts line texts
texts_by line (inl list) = (texts_of line list.0, whole list.0 list.1 refl)
texts_by line (inr bad) = ([], broken bad.0 bad.1 refl)

-- a function that gives the texts of each line
pub cut : List ℕ → List (List ℕ)
cut line = (texts_by line (told line)).0

pub cut_cuts : CutsLines cut
unfolding cut
cut_cuts line = (texts_by line (told line)).1
