-- Lines that name a function where a global variable is wanted, or call a global variable.
use Rattle.std.specs.Prelude.{◌≡◌, ◌⊎◌, ℕ, List, Some, slice_get}
use Rattle.std.specs.List.{flat_map}
use Rattle.ms_grammar.specs.declared.line.Line.{Line}
use Rattle.ms_grammar.specs.declared.line.Line.TheVariants.{Inst, Term}
use Rattle.ms_ir.specs.Symbols.{NamesState}
use Rattle.ms_resolve.specs.Faults.{IsIn}
use Rattle.ms_resolve.specs.Used.{callee_of, global_of, term_values, values_of}

-- one of these names is listed
abbrev pub HasName : List (List ℕ) → List (List ℕ) → Type 0
HasName named listed = (name : List ℕ) × IsIn named name × IsIn listed name

abbrev pub RawFault : NamesState → Line → Type 0
RawFault names (Inst name inst) = HasName (flat_map global_of (values_of inst)) names.funcs ⊎ HasName (callee_of inst) names.globals
RawFault names (Term term) = HasName (flat_map global_of (term_values term)) names.funcs
RawFault names _ = ⊥

-- the line at a place of a draft is one of these, and its number is n
abbrev pub LineHas : NamesState → List (ℕ × Line) → ℕ → ℕ → Type 0
LineHas names draft k n = (line : Line) × (slice_get draft k ≡ Some (n, line)) × RawFault names line
