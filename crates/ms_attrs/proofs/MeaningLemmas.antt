-- Attributes have one meaning, for proofs of other crates too.
use Rattle.std.proofs.Common.{◌≡◌, ℕ, Bool, not, List, refl, sym, ap, ◌∙◌}
use mathlib.Core.Path.{fun_ext}
use Rattle.ms_ir.specs.declared.inst.Effects.{Effects}
use Rattle.ms_attrs.specs.Effects.{effects_of, IsEffectsOf}
use Rattle.ms_attrs.specs.Captures.{is_released, IsKeepsOf}
use Rattle.ms_attrs.proofs.TextLemmas.{one_cut, cut, cut_cuts}

pub some_effects : (post : List ℕ) (groups : List (ℕ × List ℕ)) → (e : Effects) × IsEffectsOf post groups e
some_effects post groups = (effects_of cut post groups, record { cut = cut; cuts = cut_cuts; value = refl })

pub one_effects : (post : List ℕ) (groups : List (ℕ × List ℕ)) (a b : Effects) → IsEffectsOf post groups a → IsEffectsOf post groups b → a ≡ b
one_effects post groups a b one other =
    let same : one.cut ≡ other.cut = fun_ext (λ line. one_cut line (one.cut line) (other.cut line) (one.cuts line) (other.cuts line)) in
    one.value ∙ ap (λ by. effects_of by post groups) same ∙ sym other.value

pub some_keeps : (attrs : List ℕ) → (keeps : Bool) × IsKeepsOf attrs keeps
some_keeps attrs = (not (is_released (cut attrs)), record { texts = cut attrs; are_texts = cut_cuts attrs; value = refl })

pub one_keeps : (attrs : List ℕ) (a b : Bool) → IsKeepsOf attrs a → IsKeepsOf attrs b → a ≡ b
one_keeps attrs a b one other =
    one.value ∙ ap (λ texts. not (is_released texts)) (one_cut attrs one.texts other.texts one.are_texts other.are_texts) ∙ sym other.value
