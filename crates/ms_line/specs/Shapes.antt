-- The forms of lines.
use Rattle.ms_grammar.specs.declared.line.Line.{Line}
use Rattle.ms_grammar.specs.declared.line.Line.TheVariants as line
use Rattle.ms_grammar.proofs.Sorts.{Sort, an_empty, a_close, a_kept, a_group, a_global, a_label, a_declare, a_define, an_inst, a_term}
use Rattle.ms_line.specs.declared.shape.Shape.{Shape}
use Rattle.ms_line.specs.declared.shape.Shape.TheVariants.{Empty, Close, Kept, Group, GlobalVar, Label, Declare, Define, Inst, Term}

abbrev pub shape_of : Line → Shape
shape_of line.Empty = Empty
shape_of line.Close = Close
shape_of (line.Kept _) = Kept
shape_of (line.Group _ _) = Group
shape_of (line.GlobalVar _ _) = GlobalVar
shape_of (line.Label _) = Label
shape_of (line.Declare _) = Declare
shape_of (line.Define _) = Define
shape_of (line.Inst _ _) = Inst
shape_of (line.Term _) = Term

-- the same form in the words of the grammar's laws
abbrev pub kind_for : Shape → Sort
kind_for Empty = an_empty
kind_for Close = a_close
kind_for Kept = a_kept
kind_for Group = a_group
kind_for GlobalVar = a_global
kind_for Label = a_label
kind_for Declare = a_declare
kind_for Define = a_define
kind_for Inst = an_inst
kind_for Term = a_term
