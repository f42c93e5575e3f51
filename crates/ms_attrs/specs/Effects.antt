-- The flags that the attributes of a line give.
use Rattle.std.specs.Prelude.{◌≡◌, ℕ, ◌==◌, ◌&&◌, List, [], ◌∷◌, ◌++◌, Option, Some, map, find, drop, decimal, if◌then◌else◌}
use Rattle.std.specs.Option.{option_map_or}
use Rattle.std.specs.Str.{bytes_eq}
use Rattle.ms_ir.specs.declared.inst.Effects.{Effects}
use Rattle.ms_attrs.specs.declared.part.Part.{Part}
use Rattle.ms_attrs.specs.declared.part.Part.TheVariants.{Memory}
use Rattle.ms_attrs.specs.Parts.{part_of}
use Rattle.ms_attrs.specs.Texts.{CutsLines}
use Rattle.ms_attrs.specs.Outer.{depth_behind, inside, outer}
use Rattle.ms_attrs.specs.Memory.{everything, memory_flags}

-- the flags that two give
abbrev pub both : Effects → Effects → Effects
both a b = record {
  arg_read = a.arg_read && b.arg_read;
  arg_write = a.arg_write && b.arg_write;
  other_read = a.other_read && b.other_read;
  other_write = a.other_write && b.other_write;
  hidden_read = a.hidden_read && b.hidden_read;
  hidden_write = a.hidden_write && b.hidden_write;
}

-- a `memory(..)` gives its flags, and whatever else stands there all six
abbrev pub given_by : Part → Option (List Part) → Effects
given_by Memory (Some inner) = memory_flags inner
given_by _ _ = everything

-- the flags that all of them give
abbrev pub all_given : List (Part × Option (List Part)) → Effects
all_given [] = everything
all_given (p ∷ ps) = both (given_by p.0 p.1) (all_given ps)

-- what each `memory(..)` outside all brackets gives
abbrev pub given : List (List ℕ) → Effects
given texts = all_given (outer 0 (map part_of texts))

-- the digits of a group's name
abbrev pub name_in : List ℕ → List (List ℕ)
name_in [] = []
name_in (b ∷ digits) = if b == 35 then digits ∷ [] else []

-- the digits of each group that is named outside all brackets
abbrev pub named : ℕ → List (List ℕ) → List (List ℕ)
named depth [] = []
named depth (t ∷ ts) = (if depth == 0 then name_in t else []) ++ named (depth_behind depth (part_of t)) ts

-- the first line of a group
abbrev pub line_of : List (ℕ × List ℕ) → List ℕ → Option (ℕ × List ℕ)
line_of groups digits = find (λ g. bytes_eq (decimal g.0) digits) groups

-- what stands between the outer braces of a group's line, behind `attributes`, its name, `=` and `{`
abbrev pub line_given : List (List ℕ) → Effects
line_given texts = all_given (outer 0 (inside 0 (drop 4 (map part_of texts))))

-- a group gives what its first line gives, and without a line all six flags
abbrev pub group_given : (List ℕ → List (List ℕ)) → List (ℕ × List ℕ) → List ℕ → Effects
group_given cut groups digits = option_map_or (λ g. line_given (cut g.1)) (line_of groups digits) everything

abbrev pub groups_given : (List ℕ → List (List ℕ)) → List (ℕ × List ℕ) → List (List ℕ) → Effects
groups_given cut groups [] = everything
groups_given cut groups (digits ∷ more) = both (group_given cut groups digits) (groups_given cut groups more)

-- what the attributes give by themselves and by the groups that they name
abbrev pub effects_of : (List ℕ → List (List ℕ)) → List ℕ → List (ℕ × List ℕ) → Effects
effects_of cut post groups = both (given (cut post)) (groups_given cut groups (named 0 (cut post)))

-- these are the effects that attributes give, under these groups' lines
pub record IsEffectsOf (post : List ℕ) (groups : List (ℕ × List ℕ)) (effects : Effects) : Type 0 where
  pub cut : List ℕ → List (List ℕ)
  pub cuts : CutsLines cut
  pub value : effects ≡ effects_of cut post groups
