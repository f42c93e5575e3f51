-- What stands in front of the values of an instruction, and its values up to the line's end.
use Rattle.std.specs.Prelude.{◌≡◌, ℕ, Bool, List, ◌∷◌, ◌++◌}
use Rattle.ms_ir.specs.declared.names.Ty.{Ty}
use Rattle.ms_ir.specs.declared.inst.Op.{Op}
use Rattle.ms_ir.specs.declared.inst.Pred.{Pred}
use Rattle.ms_ir.specs.declared.inst.CastOp.{CastOp}
use Rattle.ms_ir.specs.declared.inst.Flags.{Flags}
use Rattle.ms_grammar.specs.Parts.{Part, blank}
use Rattle.ms_grammar.specs.Form.{word_part, type_part, bin_parts, cmp_parts, cast_parts}
use Rattle.ms_grammar.specs.Fits.{IsInt, IsValue, Converts, flags_of_op, flags_of_cast, no_flags}
use Rattle.ms_grammar.specs.Kept.{IsStored}
use Rattle.ms_grammar.specs.declared.keyword.Keyword.TheVariants as word
use Rattle.ms_grammar.specs.declared.line.RawVal.{RawVal}
use Rattle.ms_line_insts.specs.Front.{IsTyped, typed, further_typed_parts}
use Rattle.ms_line_insts.specs.Ends.{tailed, further_given_parts, type_lead_parts}

-- parts that begin with a type
abbrev pub StartsType : List Part → Type 0
StartsType ps = (ty : Ty) × (qs : List Part) × (ps ≡ type_part ty ∷ qs)

-- a value whose type has a place in memory
abbrev pub IsStoredValue : Ty × RawVal → Type 0
IsStoredValue g = IsStored g.0 × IsValue g.0 g.1

abbrev pub store_parts : Ty × RawVal → List Part
store_parts g = word_part word.Store ∷ blank ∷ typed g

-- an operation with flags that it may have
abbrev pub IsOpHead : Op × Flags → Type 0
IsOpHead h = h.1 ≡ flags_of_op h.0 h.1

abbrev pub op_head_parts : Op × Flags → List Part
op_head_parts h = bin_parts h.0 h.1

-- a comparison's predicate, and whether it is of the same sign
abbrev pub comparison_parts : Pred × Bool → List Part
comparison_parts h = cmp_parts h.0 (record no_flags { samesign = h.1 })

-- the values of a select
abbrev pub IsChoice : (Ty × RawVal) × (RawVal × List ℕ) → Type 0
IsChoice p = IsTyped p.0 × IsValue p.0.0 p.1.0

abbrev pub choice_end_parts : (Ty × RawVal) × (RawVal × List ℕ) → List Part
choice_end_parts p = further_typed_parts p.0 ++ tailed (further_given_parts p.0.0) p.1

-- a cast with flags that it may have
abbrev pub IsCastHead : CastOp × Flags → Type 0
IsCastHead h = h.1 ≡ flags_of_cast h.0 h.1

abbrev pub cast_head_parts : CastOp × Flags → List Part
cast_head_parts h = cast_parts h.0 h.1

-- a value, and the type to which it is converted
abbrev pub IsConversion : CastOp → (Ty × RawVal) × Ty → Type 0
IsConversion op p = IsInt p.0.0 × IsInt p.1 × Converts op p.0.0 p.1 × IsTyped p.0

abbrev pub converted_parts : (Ty × RawVal) × Ty → List Part
converted_parts p = typed p.0 ++ blank ∷ type_lead_parts word.To p.1
