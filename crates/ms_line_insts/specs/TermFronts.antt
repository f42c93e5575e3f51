-- Terminators in front of their tails.
use Rattle.std.specs.Prelude.{ℕ, List, [], ◌∷◌, ◌++◌}
use Rattle.ms_ir.specs.declared.names.Ty.{Ty}
use Rattle.ms_ir.specs.declared.names.Name.{Name}
use Rattle.ms_grammar.specs.Parts.{Part, blank, kept, tail}
use Rattle.ms_grammar.specs.Form.{word_part, comma_parts, target_parts}
use Rattle.ms_grammar.specs.Fits.{IsNamed}
use Rattle.ms_grammar.specs.declared.keyword.Keyword.TheVariants as word
use Rattle.ms_grammar.specs.declared.line.RawVal.{RawVal}
use Rattle.ms_line_insts.specs.Front.{typed}

abbrev pub jump_parts : Name → List Part
jump_parts n = word_part word.Br ∷ blank ∷ target_parts n

-- two blocks to branch to, and the tail
abbrev pub AreTargets : Name × Name × List ℕ → Type 0
AreTargets t = IsNamed t.0 × IsNamed t.1

abbrev pub target_end_parts : Name × Name × List ℕ → List Part
target_end_parts t = comma_parts ++ target_parts t.0 ++ comma_parts ++ target_parts t.1 ++ kept tail t.2 ∷ []

abbrev pub ret_void_parts : List Part
ret_void_parts = word_part word.Ret ∷ blank ∷ word_part word.Void ∷ []

abbrev pub ret_value_parts : Ty × RawVal → List Part
ret_value_parts g = word_part word.Ret ∷ blank ∷ typed g
