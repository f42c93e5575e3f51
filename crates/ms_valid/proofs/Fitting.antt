-- An instruction that a line says has types that can stand, and its numbers are within their ranges.
use Rattle.std.proofs.Common.{◌≡◌, ◌∙◌, ◌<◌, ◌^◌, ℕ, refl, sym, subst, inl, inr}
use Rattle.ms_ir.specs.declared.names.BlockNo.{BlockNo}
use Rattle.ms_ir.specs.declared.names.Name.{Name}
use Rattle.ms_ir.specs.declared.names.Ty.{Ty}
use Rattle.ms_ir.specs.declared.inst.Val.{Val}
use Rattle.ms_ir.specs.declared.inst.Inst.{Inst}
use Rattle.ms_ir.specs.declared.inst.Edit.TheVariants.{Insert}
use Rattle.ms_ir.specs.Module.{ModuleState}
use Rattle.ms_ir.specs.Types as ir
use Rattle.ms_ir.specs.Uses.{Operand}
use Rattle.ms_ir.specs.Edits.{IsFittingValue, IsFittingEdit}
use Rattle.ms_grammar.specs.Numbers.{bits}
use Rattle.ms_grammar.specs.Fits.{IsValue}
use Rattle.ms_grammar.specs.declared.line.RawVal.{RawVal}
use Rattle.ms_grammar.specs.declared.line.RawVal.TheVariants as raw
use Rattle.ms_resolve.specs.Scope.{Scope, value_of, inst_of}
use Rattle.ms_resolve.specs.Used.{values_of}
use Rattle.ms_resolve.specs.Faults.{IsIn}
use Rattle.ms_valid.specs.Func.{IsSaidInst}
use Rattle.ms_valid.proofs.Values.{FromLine, from_line, integer}
use Rattle.ms_valid.proofs.Spelled.{inst_number, inst_stored}
use Rattle.ms_valid.proofs.Terms.{IsNumberOf, stand_with_numbers, operand_with_numbers}

fitting : (s : Scope) (ty : Ty) (v : RawVal) → IsValue ty v → ((t : Ty) (n : ℕ) → v ≡ raw.Num t n → n < 2 ^ bits t) → IsFittingValue ty (value_of s v)
fitting s ty (raw.Num own n) h below =
    let lt : n < 2 ^ bits own = below own n refl in
    (h.0, integer ty h.1, subst (λ (t : Ty). n < 2 ^ ir.bits t) h.0 lt)
fitting s ty (raw.Local n) h below = tt
fitting s ty (raw.Global n) h below = h.0

number_fits : (o : Operand) → IsNumberOf o → IsFittingValue o.ty o.val
number_fits o h = subst (λ (v : Val). IsFittingValue o.ty v) (sym h.is) (refl, h.integer, h.below)

pub said_fits : (m : ModuleState) (block : BlockNo) (place : ℕ) (inst : Inst) (name : Name) → IsSaidInst m inst → IsFittingEdit (Insert block place inst name)
said_fits m block place inst name h =
    let from : FromLine h.scope h.line = from_line h.scope h.says.scale h.line h.says.fits.1 (inst_stored h.bytes h.name h.line h.says) in (
      stand_with_numbers (inst_of h.scope h.line) inst h.is ∙ from.types,
      λ o among. elim (operand_with_numbers (inst_of h.scope h.line) inst h.is from.types o among) [
        | inl old ↦
            let c = from.come o old in
            subst (λ (v : Val). IsFittingValue o.ty v) (sym c.val_is)
            (fitting h.scope o.ty c.raw c.is_value (λ t n e. inst_number h.bytes h.name h.line h.says t n (subst (λ (v : RawVal). IsIn (values_of h.line) v) e c.among)))
        | inr number ↦ number_fits o number
      ],
    )
