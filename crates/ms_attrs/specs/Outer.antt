-- What stands outside all brackets, and what stands in the parentheses behind it.
use Rattle.std.specs.Prelude.{ℕ, ◌-◌, ◌+◌, ◌==◌, Bool, true, false, ◌&&◌, List, [], ◌∷◌, Option, Some, None, if◌then◌else◌}
use Rattle.ms_attrs.specs.declared.part.Part.{Part}
use Rattle.ms_attrs.specs.declared.part.Part.TheVariants.{Parenthesis, Bracket, Closing}

-- how many brackets are open behind a part, of so many before it
abbrev pub depth_behind : ℕ → Part → ℕ
depth_behind depth Parenthesis = depth + 1
depth_behind depth Bracket = depth + 1
depth_behind depth Closing = depth - 1
depth_behind depth _ = depth

abbrev pub closes : Part → Bool
closes Closing = true
closes _ = false

-- what stands before the first closing bracket that closes none of so many
abbrev pub inside : ℕ → List Part → List Part
inside depth [] = []
inside depth (p ∷ ps) = if depth == 0 && closes p then [] else p ∷ inside (depth_behind depth p) ps

-- what stands in the parentheses that open at once, if they do
abbrev pub argument_behind : Part → List Part → Option (List Part)
argument_behind Parenthesis ps = Some (inside 0 ps)
argument_behind _ ps = None

abbrev pub argument : List Part → Option (List Part)
argument [] = None
argument (p ∷ ps) = argument_behind p ps

-- each part outside all brackets, with what stands in the parentheses directly behind it
abbrev pub outer : ℕ → List Part → List (Part × Option (List Part))
outer depth [] = []
outer depth (p ∷ ps) =
    if depth == 0 then (p, argument ps) ∷ outer (depth_behind depth p) ps
    else outer (depth_behind depth p) ps
