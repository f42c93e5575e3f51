-- The annotated text as a form shows it.
use Rattle.std.specs.Prelude.{◌≡◌, ◌<◌, ℕ, suc, Bool, if◌then◌else◌, ◌==◌, List, [], ◌∷◌, ◌++◌, Option, Some, None, is_some, option_map, codes, decimal, slice_index_or}
use Rattle.ms_paths.specs.Flow.{Block as Run, Event, Of as LastOf, Phi as LastPhi}
use Rattle.ms_ir.specs.declared.names.Name.{Name}
use Rattle.ms_ir.specs.declared.names.Name.TheVariants.{Absent}
use Rattle.ms_ir.specs.declared.inst.Kind.{Kind}
use Rattle.ms_ir.specs.declared.inst.Kind.TheVariants.{Def, Reads, Neither}
use Rattle.ms_ir.specs.Func.{Placed, Block, FuncState, insts_at}
use Rattle.ms_flow.specs.declared.sources.Source.{Source}
use Rattle.ms_flow.specs.Flow.{order_of, sources_of}
use Rattle.ms_form.specs.declared.access.Access.{Access}
use Rattle.ms_form.specs.declared.access.Access.TheVariants.{Entry, Of, Phi}
use Rattle.ms_form.specs.Form.{FormState}
use Rattle.ms_build.specs.Accesses.{event_of, has_phi, operand_at}
use Rattle.ms_print.specs.declared.notes.Note.{Note}
use Rattle.ms_print.specs.Text.{ended}
use Rattle.ms_session.specs.Annotated.{def_events, same_event, number_in, access_text, note_of, IsUse, block_in_entry, with_commas, behind_commas}

-- the accesses that have numbers so far, and for how many blocks and instructions there are places
pub record NumbersState : Type 0 where
  pub all : List Event
  pub blocks : ℕ
  pub insts : ℕ

-- the number of an access, if it is in the list
abbrev pub place_in : List Event → Event → Option ℕ
place_in [] e = None
place_in (a ∷ all) e = if same_event a e then Some 1 else option_map suc (place_in all e)

-- the tables have the numbers of the accesses in the list, and of no others
pub record IsNumbering (all : List Event) (phis defs : List (Option ℕ)) : Type 0 where
  pub at_phis : (b : ℕ) → slice_index_or phis b None ≡ place_in all (LastPhi b)
  pub at_defs : (i : ℕ) → slice_index_or defs i None ≡ place_in all (LastOf i)

-- there is a place for the number of this access
abbrev pub HasPlace : NumbersState → Access → Type 0
HasPlace s Entry = Unit {0}
HasPlace s (Of i) = i.0 < s.insts
HasPlace s (Phi b) = b.0 < s.blocks

-- one more access has a number
abbrev pub with_one : NumbersState → Event → NumbersState
with_one s e = record s { all = s.all ++ e ∷ [] }

-- more accesses have numbers
abbrev pub with_more : NumbersState → List Event → NumbersState
with_more s es = record s { all = s.all ++ es }

-- whether a block has a place in the order of the reached ones
abbrev pub reached_in : List Run → ℕ → Bool
reached_in g b = is_some (order_of g b)

abbrev pub phi_events : FormState → ℕ → List Event
phi_events form b = if has_phi form b then LastPhi b ∷ [] else []

-- the accesses of a block that have numbers
abbrev pub block_events : List Run → FormState → List Block → ℕ → List Event
block_events g form blocks b = if reached_in g b then phi_events form b ++ def_events (insts_at blocks b) else []

-- a line with its end, if there is one
abbrev pub line_text : Option (List ℕ) → List ℕ
line_text None = []
line_text (Some line) = ended line

-- the line of an instruction, where the form names this access before it
abbrev pub IsShownLine : FuncState → List Event → ℕ → ℕ → Placed → Option Access → Kind → List ℕ → Type 0
IsShownLine f all b k x None kind line = line ≡ []
IsShownLine f all b k x (Some a) Def line = line ≡ note_of all (event_of a) x.number Def
IsShownLine f all b k x (Some a) Reads line = (e : Event) × IsUse f b k x e × (line ≡ note_of all e x.number Reads)
IsShownLine f all b k x (Some a) Neither line = line ≡ []

-- the entry of a phi for an edge from a block
abbrev pub entry_text : List Name → List Event → ℕ → Event → List ℕ
entry_text labels all a e = codes "{" ++ block_in_entry (slice_index_or labels a Absent) ++ codes "," ++ access_text all e ++ codes "}"

abbrev pub operand_text : List Name → List Event → ℕ → Option Access → List ℕ
operand_text labels all a None = []
operand_text labels all a (Some x) = entry_text labels all a (event_of x)

-- the entries of a phi for these edges, the first of which has this slot
abbrev pub operand_texts : List Name → List Event → FormState → ℕ → ℕ → List Source → List (List ℕ)
operand_texts labels all form b slot [] = []
operand_texts labels all form b slot (e ∷ es) = operand_text labels all e.from (operand_at form b slot) ∷ operand_texts labels all form b (suc slot) es

-- list members behind others, or the first ones
abbrev pub members_text : ℕ → List (List ℕ) → List ℕ
members_text slot xs = if slot == 0 then with_commas xs else behind_commas xs

-- a comma before each member but the first
abbrev pub comma_text : ℕ → List ℕ
comma_text slot = if slot == 0 then [] else codes ","

-- the line of a phi
abbrev pub phi_text : List Name → List Event → List Run → FormState → ℕ → List ℕ
phi_text labels all g form b =
    codes "; " ++ decimal (number_in all (LastPhi b)) ++ codes " = MemoryPhi(" ++ with_commas (operand_texts labels all form b 0 (sources_of g b)) ++ codes ")\n"

-- the line at a block
abbrev pub shown_phi : List Name → List Event → List Run → FormState → ℕ → List ℕ
shown_phi labels all g form b = if reached_in g b then (if has_phi form b then phi_text labels all g form b else []) else []

-- notes with a line behind them, if there is one
abbrev pub with_line : List Note → ℕ → Option (List ℕ) → List Note
with_line notes at None = notes
with_line notes at (Some line) = notes ++ (record { at = at; line = line }) ∷ []
