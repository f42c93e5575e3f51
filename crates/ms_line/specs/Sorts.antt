-- The sort of a line, which decides where it may stand.
use Rattle.std.specs.Prelude.{◌≡◌, ℕ, List}
use Rattle.ms_grammar.specs.Grammar.{Says}
use Rattle.ms_grammar.specs.declared.line.Line.{Line}
use Rattle.ms_grammar.specs.declared.line.Line.TheVariants as line
use Rattle.ms_grammar.specs.declared.line.RawInst.{RawInst}
use Rattle.ms_grammar.specs.declared.line.RawInst.TheVariants as inst
use Rattle.ms_line.specs.Cause.{SaysNothing}
use Rattle.ms_line.specs.declared.fault.LineFault.{LineFault}
use Rattle.ms_line.specs.declared.fault.LineFault.TheVariants as fault
use Rattle.ms_line.specs.declared.sort.Sort.{Sort}
use Rattle.ms_line.specs.declared.sort.Sort.TheVariants.{Blank, Item, Define, Close, Label, Phi, Alloca, Other, Term}

abbrev pub sort_of_inst : RawInst → Sort
sort_of_inst (inst.Alloca _ _ _) = Alloca
sort_of_inst (inst.Gep _ _ _ _ _) = Other
sort_of_inst (inst.Step _ _ _ _ _ _) = Other
sort_of_inst (inst.Load _ _ _) = Other
sort_of_inst (inst.Store _ _ _ _) = Other
sort_of_inst (inst.Copy _ _ _ _ _ _) = Other
sort_of_inst (inst.Call _ _ _ _ _ _) = Other
sort_of_inst (inst.Bin _ _ _ _ _ _) = Other
sort_of_inst (inst.Cmp _ _ _ _ _ _) = Other
sort_of_inst (inst.Select _ _ _ _ _) = Other
sort_of_inst (inst.Cast _ _ _ _ _ _) = Other
sort_of_inst (inst.Phi _ _ _) = Phi

abbrev pub sort_of : Line → Sort
sort_of line.Empty = Blank
sort_of line.Close = Close
sort_of (line.Kept _) = Item
sort_of (line.Group _ _) = Item
sort_of (line.GlobalVar _ _) = Item
sort_of (line.Label _) = Label
sort_of (line.Declare _) = Item
sort_of (line.Define _) = Define
sort_of (line.Inst _ made) = sort_of_inst made
sort_of (line.Term _) = Term

-- the line says something of this sort
pub record IsOfSort (bytes : List ℕ) (sort : Sort) : Type 0 where
  pub written : Line
  pub says : Says bytes written
  pub is : sort ≡ sort_of written

-- why a line has no sort
abbrev pub IsSortCause : List ℕ → LineFault → Type 0
IsSortCause bytes fault.NotOfProfile = SaysNothing bytes
IsSortCause bytes fault.TooLong = ⊥
IsSortCause bytes fault.Memory = Unit {0}
