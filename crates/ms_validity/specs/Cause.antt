-- Which drafts are accepted, and why others are not: each phase is looked at where the ones before have no fault, and the least line
-- counts.
use Rattle.std.specs.Prelude.{◌<◌, ℕ, List}
use Rattle.ms_grammar.specs.declared.line.Line.{Line}
use Rattle.ms_ir.specs.Module.{ModuleState}
use Rattle.ms_resolve.specs.Shape.{ItemLines, IsShape}
use Rattle.ms_resolve.specs.Cause.{NoNameFault, IsLeastFault, IsResolved}
use Rattle.ms_resolve.specs.Module.{IsModuleOf}
use Rattle.ms_resolve.specs.declared.fault.NameFault.{NameFault}
use Rattle.ms_resolve.specs.declared.fault.NameFault.TheVariants as name
use Rattle.ms_resolve.specs.declared.resolved.BodyLines.{BodyLines}
use Rattle.ms_validity.specs.Faults.{HasTypeFault, HasEdgeFault, HasOrderFault, IsIrreducible}
use Rattle.ms_validity.specs.declared.fault.ValidFault.{ValidFault}
use Rattle.ms_validity.specs.declared.fault.ValidFault.TheVariants.{Name, Types, Edges, Order, Irreducible, Memory}

-- n is the least that has the fault
pub record IsLeast (Has : ℕ → Type 0) (n : ℕ) : Type 0 where
  pub has : Has n
  pub least : (m : ℕ) → m < n → Has m → ⊥

abbrev pub HasNone : (ℕ → Type 0) → Type 0
HasNone Has = (n : ℕ) → Has n → ⊥

-- the draft's lines, whose names have no fault, are this module
pub record IsNamed (draft : List (ℕ × Line)) (items : List ItemLines) (m : ModuleState) : Type 0 where
  pub shape : IsShape draft items
  pub sound : NoNameFault items
  pub whole : IsModuleOf items m

pub record IsAccepted (draft : List (ℕ × Line)) (m : ModuleState) : Type 0 where
  pub items : List ItemLines
  pub named : IsNamed draft items m
  pub types : HasNone (HasTypeFault items m)
  pub edges : HasNone (HasEdgeFault items m)
  pub order : HasNone (HasOrderFault items m)
  pub reducible : HasNone (IsIrreducible m)

pub record IsTypeCause (draft : List (ℕ × Line)) (n : ℕ) : Type 0 where
  pub items : List ItemLines
  pub m : ModuleState
  pub named : IsNamed draft items m
  pub types : IsLeast (HasTypeFault items m) n

pub record IsEdgeCause (draft : List (ℕ × Line)) (n : ℕ) : Type 0 where
  pub items : List ItemLines
  pub m : ModuleState
  pub named : IsNamed draft items m
  pub types : HasNone (HasTypeFault items m)
  pub edges : IsLeast (HasEdgeFault items m) n

pub record IsOrderCause (draft : List (ℕ × Line)) (n : ℕ) : Type 0 where
  pub items : List ItemLines
  pub m : ModuleState
  pub named : IsNamed draft items m
  pub types : HasNone (HasTypeFault items m)
  pub edges : HasNone (HasEdgeFault items m)
  pub order : IsLeast (HasOrderFault items m) n

pub record IsLoopCause (draft : List (ℕ × Line)) (n : ℕ) : Type 0 where
  pub items : List ItemLines
  pub m : ModuleState
  pub named : IsNamed draft items m
  pub types : HasNone (HasTypeFault items m)
  pub edges : HasNone (HasEdgeFault items m)
  pub order : HasNone (HasOrderFault items m)
  pub irreducible : IsLeast (IsIrreducible m) n

abbrev pub IsValidCause : List (ℕ × Line) → ValidFault → Type 0
IsValidCause draft (Name n) = IsLeastFault draft n
IsValidCause draft (Types n) = IsTypeCause draft n
IsValidCause draft (Edges n) = IsEdgeCause draft n
IsValidCause draft (Order n) = IsOrderCause draft n
IsValidCause draft (Irreducible f) = IsLoopCause draft f.0
IsValidCause draft Memory = Unit {0}

-- a fault in names, as one of the draft
abbrev pub fault_of : NameFault → ValidFault
fault_of (name.Name n) = Name n
fault_of name.Memory = Memory

-- the draft's lines, whose names have no fault, are this module, and these are the lines of its functions
abbrev pub IsResolvedTo : List (ℕ × Line) → ModuleState → List BodyLines → Type 0
IsResolvedTo draft m lines = IsResolved draft (record { «module» = m; lines = lines })
