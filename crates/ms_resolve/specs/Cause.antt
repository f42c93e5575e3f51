-- What resolving the names of a draft's lines tells.
use Rattle.std.specs.Prelude.{◌≡◌, ◌<◌, ◌-◌, ◌^◌, ℕ, List, length, map}
use Rattle.ms_grammar.specs.declared.line.Line.{Line}
use Rattle.ms_names.specs.Shape.{FuncLines, ItemLines, IsShape}
use Rattle.ms_names.specs.Faults.{HasNameFault}
use Rattle.ms_resolve.specs.Module.{IsModuleOf, funcs_of, inst_lines_of, term_lines_of}
use Rattle.ms_resolve.specs.declared.fault.NameFault.{NameFault}
use Rattle.ms_resolve.specs.declared.fault.NameFault.TheVariants.{Name, Memory}
use Rattle.ms_resolve.specs.declared.resolved.BodyLines.{BodyLines}
use Rattle.ms_resolve.specs.declared.resolved.Resolved.{Resolved}

-- fewer lines than numbers can count, each with its number
pub record IsFew (draft : List (ℕ × Line)) : Type 0 where
  pub lines : length draft < 2 ^ 31 - 1

-- no line has a fault in its names before this one
abbrev pub NoneBefore : List ItemLines → ℕ → Type 0
NoneBefore items n = (m : ℕ) → m < n → HasNameFault items m → ⊥

abbrev pub NoNameFault : List ItemLines → Type 0
NoNameFault items = (n : ℕ) → HasNameFault items n → ⊥

abbrev pub lines_of_body : FuncLines → BodyLines
lines_of_body f = record { insts = inst_lines_of f; terms = term_lines_of f }

-- the lines have no fault in their names and are this module
pub record IsResolved (draft : List (ℕ × Line)) (r : Resolved) : Type 0 where
  pub items : List ItemLines
  pub shape : IsShape draft items
  pub sound : NoNameFault items
  pub whole : IsModuleOf items r.«module»
  pub lines : r.lines ≡ map lines_of_body (funcs_of items)

-- the least line that has a fault in its names
pub record IsLeastFault (draft : List (ℕ × Line)) (n : ℕ) : Type 0 where
  pub items : List ItemLines
  pub shape : IsShape draft items
  pub fault : HasNameFault items n
  pub least : NoneBefore items n

abbrev pub IsNameCause : List (ℕ × Line) → NameFault → Type 0
IsNameCause draft (Name n) = IsLeastFault draft n
IsNameCause draft Memory = Unit {0}
