-- The form of a line by its first tokens.
use Rattle.std.proofs.Common.{◌≡◌, ℕ, true, false, List, [], ◌∷◌, Some, refl, sym, ap, ◌∙◌}
use Rattle.ms_lex.specs.Kinds.{is_token}
use Rattle.ms_lex.proofs.First.{first_tells, some_bytes}
use Rattle.ms_lex.specs.declared.token.Token.{Token}
use Rattle.ms_lex.specs.declared.token.TokenKind.{TokenKind}
use Rattle.ms_lex.specs.declared.token.TokenKind.TheVariants as kind
use Rattle.ms_grammar.specs.Parts.{texts}
use Rattle.ms_grammar.specs.declared.line.Line.{Line}
use Rattle.ms_grammar.specs.declared.line.Line.TheVariants as said
use Rattle.ms_grammar.proofs.Sorts.{Sort, an_empty, a_close, a_kept, a_group, a_global, a_label, a_declare, a_define, an_inst, a_term, by_mark, kind_of, sort_of, sort_is, line_sort}
use Rattle.ms_line.specs.Shapes.{shape_of, kind_for}
use Rattle.ms_line.specs.Spelled.{SpellLine}
use Rattle.ms_line.specs.declared.shape.Shape.{Shape}
use Rattle.ms_line.specs.declared.shape.Shape.TheVariants.{Empty, Close, Kept, Group, GlobalVar, Label, Declare, Define, Inst, Term}

pub kind_told : (k : TokenKind) (s : List ℕ) → is_token k s ≡ true → kind_of s ≡ Some k
kind_told k [] h = let none : is_token k [] ≡ false = some_bytes k in absurd (cc)
kind_told k (b ∷ bs) h = first_tells k b bs h

-- only a local and a global tell more
pub other_mark : (k : TokenKind) (ts : List (List ℕ)) → (k ≡ kind.Local → ⊥) → (k ≡ kind.Global → ⊥) → a_kept ≡ by_mark (Some k) ts
other_mark kind.Local ts a b = absurd (a refl)
other_mark kind.Global ts a b = absurd (b refl)
other_mark k ts a b = refl

shape_back : Sort → Shape
shape_back an_empty = Empty
shape_back a_close = Close
shape_back a_kept = Kept
shape_back a_group = Group
shape_back a_global = GlobalVar
shape_back a_label = Label
shape_back a_declare = Declare
shape_back a_define = Define
shape_back an_inst = Inst
shape_back a_term = Term

back_for : (s : Shape) → shape_back (kind_for s) ≡ s
unfolding shape_back
back_for Empty = refl
back_for Close = refl
back_for Kept = refl
back_for Group = refl
back_for GlobalVar = refl
back_for Label = refl
back_for Declare = refl
back_for Define = refl
back_for Inst = refl
back_for Term = refl

kind_is : (w : Line) → kind_for (shape_of w) ≡ sort_is w
unfolding sort_is
kind_is said.Empty = refl
kind_is said.Close = refl
kind_is (said.Kept _) = refl
kind_is (said.Group _ _) = refl
kind_is (said.GlobalVar _ _) = refl
kind_is (said.Label _) = refl
kind_is (said.Declare _) = refl
kind_is (said.Define _) = refl
kind_is (said.Inst _ _) = refl
kind_is (said.Term _) = refl

-- a line that these tokens spell has the form that they tell
pub shape_told : (line : List ℕ) (tokens : List Token) (s : Shape) (w : Line) → kind_for s ≡ sort_of (texts line tokens) → SpellLine line tokens w → shape_of w ≡ s
shape_told line tokens s w told h =
    let kinds : kind_for (shape_of w) ≡ kind_for s = kind_is w ∙ sym (line_sort line tokens h.scale w h.fits h.spelled) ∙ sym told in
    sym (back_for (shape_of w)) ∙ ap (λ k. shape_back k) kinds ∙ back_for s
