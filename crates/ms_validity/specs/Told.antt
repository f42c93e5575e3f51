-- What is told of one line of a function: its faults, by the instruction or terminator and the place where it stands.
use Rattle.std.specs.Prelude.{◌≡◌, ◌⊎◌, ◌<◌, ℕ, List, Option, Some, Contains, slice_get, MatchOption}
use Rattle.ms_paths.specs.Flow.{IsClosed}
use Rattle.ms_ir.specs.declared.inst.Inst.{Inst}
use Rattle.ms_ir.specs.declared.inst.Term.{Term}
use Rattle.ms_ir.specs.Func.{Placed, Block, FuncState, IsAt}
use Rattle.ms_ir.specs.Graph.{graph_of}
use Rattle.ms_ir.specs.Module.{ModuleState}
use Rattle.ms_ir.specs.Uses.{Operand, Use, operands_of, term_operands, uses_at, term_uses_at}
use Rattle.ms_ir.specs.Sound.{HasOtherType, IsUsedBefore, LeadsToFirst, HasBadEntries}
use Rattle.ms_resolve.specs.Faults.{IsIn}
use Rattle.ms_resolve.specs.declared.resolved.BodyLines.{BodyLines}
use Rattle.ms_validity.specs.declared.phase.Phase.{Phase}
use Rattle.ms_validity.specs.declared.phase.Phase.TheVariants.{Types, Edges, Order}
use Rattle.ms_validity.specs.declared.operands.Operand.{Operand as Held}
use Rattle.ms_validity.specs.declared.order.Used.{Used}
use Rattle.ms_validity.specs.declared.spots.Spot.{Spot}
use Rattle.ms_validity.specs.Cause.{IsLeast, HasNone}
use Rattle.ms_validity.specs.Faults.{CallsOtherwise, ReturnsOtherwise, bodies_there}

abbrev pub as_operand : Held → Operand
as_operand o = record { ty = o.ty; val = o.val }

-- one of these operands is a local of another type
abbrev pub HasOtherTypeIn : FuncState → List Operand → Type 0
HasOtherTypeIn f os = (o : Operand) × IsIn os o × HasOtherType f o

abbrev pub HasUseBefore : FuncState → List Use → Type 0
HasUseBefore f us = (u : Use) × IsIn us u × IsUsedBefore f u

-- the fault of an instruction at a place of a block
abbrev pub InstFault : Phase → ModuleState → FuncState → ℕ → ℕ → Inst → Type 0
InstFault Types m f b k inst = HasOtherTypeIn f (operands_of inst) ⊎ CallsOtherwise m inst
InstFault Edges m f b k inst = HasBadEntries f.blocks b inst
InstFault Order m f b k inst = HasUseBefore f (uses_at f.blocks b k inst)

-- the fault of the terminator of a block
abbrev pub TermFault : Phase → FuncState → ℕ → Term → Type 0
TermFault Types f b term = HasOtherTypeIn f (term_operands term) ⊎ ReturnsOtherwise f term
TermFault Edges f b term = LeadsToFirst term
TermFault Order f b term = HasUseBefore f (term_uses_at f.blocks b term)

-- the least that has a fault, where one has
abbrev pub Tells : (ℕ → Type 0) → Option ℕ → Type 0
Tells Has found = MatchOption found (HasNone Has) (IsLeast Has)

abbrev pub as_use : Used → Use
as_use u = record { block = u.at.block; place = u.at.place; val = u.val }

-- a path to one place has passed another before
abbrev pub IsPassed : Spot → Spot → List ℕ → Type 0
IsPassed first at p = ((first.block ≡ at.block) × (first.place < at.place)) ⊎ Contains p first.block

-- the instruction of this number has the fault, and its line is n
abbrev pub InstHas : Phase → ModuleState → FuncState → List ℕ → ℕ → ℕ → Type 0
InstHas phase m f lines i n = (b k : ℕ) × (x : Placed) × IsAt f.blocks i b k x × (slice_get lines i ≡ Some n) × InstFault phase m f b k x.inst

-- the terminator of this block has the fault, and its line is n
abbrev pub TermHas : Phase → FuncState → List ℕ → ℕ → ℕ → Type 0
TermHas phase f lines b n = (x : Block) × (slice_get f.blocks b ≡ Some x) × (slice_get lines b ≡ Some n) × TermFault phase f b x.term

-- a line of the function has the fault
abbrev pub BodyHas : Phase → ModuleState → FuncState → BodyLines → ℕ → Type 0
BodyHas phase m f lines n = ((i : ℕ) × InstHas phase m f lines.insts i n) ⊎ ((b : ℕ) × TermHas phase f lines.terms b n)

-- a line of the function at this place among those with a body has the fault
abbrev pub PlaceHas : Phase → ModuleState → List BodyLines → ℕ → ℕ → Type 0
PlaceHas phase m lines p n = (f : FuncState) × (body : BodyLines) × (slice_get (bodies_there m) p ≡ Some f) × (slice_get lines p ≡ Some body) × BodyHas phase m f body n

-- a line of the module has the fault
abbrev pub ModuleHas : Phase → ModuleState → List BodyLines → ℕ → Type 0
ModuleHas phase m lines n = (p : ℕ) × PlaceHas phase m lines p n

-- the bodies' terminators name their own blocks
abbrev pub AreClosed : ModuleState → Type 0
AreClosed m = (f : ℕ) (body : FuncState) → slice_get m.bodies f ≡ Some (Some body) → IsClosed (graph_of body.blocks)
