-- Sums that may be too far from 0 to be kept, and what indices come to.
use Rattle.std.specs.Prelude.{◌≡◌, ℕ, ℤ, pos, ◌≤ℤ◌, ◌-ℤ◌, ◌+ℤ◌, ◌*ℤ◌, Bool, true, false, List, [], ◌∷◌, Option, Some, None, drop, if◌then◌else◌}
use Rattle.std.specs.Str.{bytes_eq}
use Rattle.ms_grammar.specs.Words.{spelling}
use Rattle.ms_grammar.specs.Numbers.{magnitude}
use Rattle.ms_grammar.specs.declared.keyword.Keyword.TheVariants as word
use Rattle.ms_line_parts.specs.Sizes.{opens_array, first_bytes, index_value, starts_more}
use Rattle.ms_line_parts.specs.declared.objects.Sum.{Sum}
use Rattle.ms_line_parts.specs.declared.objects.Sum.TheVariants.{Known, Above, Below}

abbrev pub far : Bool → Sum
far true = Below
far false = Above

-- a sum is known, or at least so far above or below 0
abbrev pub IsSum : ℕ → ℤ → Sum → Type 0
IsSum n z (Known k) = k ≡ z
IsSum n z Above = pos n ≤ℤ z
IsSum n z Below = z ≤ℤ (pos 0 -ℤ pos n)

-- the first index, and the next one, 0 for a local and where there is none
abbrev pub zero_or : Option ℤ → ℤ
zero_or None = pos 0
zero_or (Some v) = v

abbrev pub first_index : List (List ℕ) → Option ℤ
first_index [] = None
first_index (ty ∷ []) = None
first_index (ty ∷ (n ∷ ts)) = Some (zero_or (index_value ty n))

abbrev pub next_index : List (List ℕ) → ℤ
next_index [] = pos 0
next_index (c ∷ []) = pos 0
next_index (c ∷ (ty ∷ [])) = pos 0
next_index (c ∷ (ty ∷ (n ∷ ts))) = if bytes_eq c (spelling word.Comma) then zero_or (index_value ty n) else pos 0

abbrev pub taken : List (List ℕ) → ℕ
taken ts = if starts_more ts then 3 else 0

-- a sum of the outer levels, and what the inner levels of the type in front and the indices in front make of it
abbrev pub sum_over : ℤ → List (List ℕ) → List (List ℕ) → ℤ
sum_over z [] us = z *ℤ pos (first_bytes [])
sum_over z (o ∷ []) us = z *ℤ pos (first_bytes (o ∷ []))
sum_over z (o ∷ (c ∷ [])) us = z *ℤ pos (first_bytes (o ∷ c ∷ []))
sum_over z (o ∷ (c ∷ (x ∷ ts))) us =
    if opens_array o c x then sum_over ((z *ℤ pos (magnitude c)) +ℤ next_index us) ts (drop (taken us) us) else z *ℤ pos (first_bytes (o ∷ c ∷ x ∷ ts))
