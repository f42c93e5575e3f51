-- Whether a pointer may be kept.
use Rattle.std.specs.Prelude.{◌≡◌, ℕ, Bool, true, false, not, List, [], ◌∷◌, Option, Some, None, map}
use Rattle.std.specs.List.{list_any}
use Rattle.ms_attrs.specs.declared.part.Part.{Part}
use Rattle.ms_attrs.specs.declared.part.Part.TheVariants.{Nocapture, Captures, Nothing}
use Rattle.ms_attrs.specs.Parts.{part_of}
use Rattle.ms_attrs.specs.Texts.{AreTexts}
use Rattle.ms_attrs.specs.Outer.{outer}

abbrev pub is_nothing : List Part → Bool
is_nothing (Nothing ∷ []) = true
is_nothing _ = false

-- `nocapture` and `captures(none)` say that the pointer is not kept
abbrev pub releases : Part → Option (List Part) → Bool
releases Nocapture None = true
releases Captures (Some inner) = is_nothing inner
releases _ _ = false

-- an attribute of a parameter that says so stands outside all brackets
abbrev pub is_released : List (List ℕ) → Bool
is_released texts = list_any (λ p. releases p.0 p.1) (outer 0 (map part_of texts))

-- whether a parameter's attributes leave it open that the pointer is kept
pub record IsKeepsOf (attrs : List ℕ) (keeps : Bool) : Type 0 where
  pub texts : List (List ℕ)
  pub are_texts : AreTexts attrs texts
  pub value : keeps ≡ not (is_released texts)
