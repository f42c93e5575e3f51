-- Names that are taken, locals that are not there, and types that are not the ones written.
use Rattle.std.proofs.Common.{◌≡◌, ◌∙◌, Bool, false, not, inl, inr, arith}
use Rattle.std.specs.Prelude.{IsTrue, ◌↔◌}
use Rattle.std.proofs.lemmas.Bool.{both_ways, not-true, not_from_false, false_from_ne_true, false≢true}
use Rattle.std.proofs.lemmas.Option.{slice_get_within}
use Rattle.ms_ir.specs.declared.names.LocalNo.{LocalNo}
use Rattle.ms_ir.specs.declared.names.Name.{Name}
use Rattle.ms_ir.specs.declared.names.Ty.{Ty}
use Rattle.ms_ir.specs.Func.{FuncState}
use Rattle.ms_ir.specs.Locals.{HasType, IsNoLocal, NoLocalNamed, NoBlockNamed}
use Rattle.ms_ir.specs.Edits.{IsNameTaken}
use Rattle.ms_edits.specs.Told.{HasNotType}

pub has_no_type : (f : FuncState) (l : LocalNo) (ty : Ty) → IsNoLocal f l → HasType f l ty → ⊥
has_no_type f l ty none (inl p) = (let within = slice_get_within f.params l.0 p.0 p.1 in let past = none.0 in omega (arith, past, within))
has_no_type f l ty none (inr g) = none.1 g.0 g.1 g.2 g.3

-- a local with one type has another than the one written exactly where that type is another
pub other_told : (f : FuncState) (l : LocalNo) (ty written : Ty) (same : Bool) → HasType f l ty → ((t : Ty) → HasType f l t → t ≡ ty)
    → (IsTrue same ↔ (ty ≡ written)) → IsTrue (not same) ↔ HasNotType f l written
other_told f l ty written same has one told = (
  λ t. (ty, has, λ e. both_ways same (not-true same t) (told.1 e)),
  λ h. not_from_false same (false_from_ne_true same (λ t. h.2 (one h.0 h.1 ∙ told.0 t))),
)

pub no_other : (f : FuncState) (l : LocalNo) (written : Ty) → IsNoLocal f l → IsTrue false ↔ HasNotType f l written
no_other f l written none = (λ t. absurd (false≢true t), λ h. absurd (has_no_type f l h.0 none h.1))

pub not_taken : (f : FuncState) (name : Name) → NoLocalNamed f name → NoBlockNamed f.blocks name → IsNameTaken f name → ⊥
not_taken f name (inl e) blocks h = h.0 e
not_taken f name (inr no_local) (inl e) h = h.0 e
not_taken f name (inr no_local) (inr no_block) (is, inl a) = no_local a.0 a.1
not_taken f name (inr no_local) (inr no_block) (is, inr a) = no_block a.0 a.1
