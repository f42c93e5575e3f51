-- What a form says at the places of a function.
use Rattle.std.specs.Prelude.{ℕ, Bool, false, [], Option, None, slice_index_or}
use Rattle.ms_paths.specs.Flow.{Event, Of as LastOf, Phi as LastPhi, Entry as LastEntry}
use Rattle.ms_form.specs.declared.access.Access.{Access}
use Rattle.ms_form.specs.declared.access.Access.TheVariants.{Entry, Of, Phi}
use Rattle.ms_form.specs.Form.{FormState, entering_of, leaving_of}

-- an access as an event on paths
abbrev pub event_of : Access → Event
event_of Entry = LastEntry
event_of (Of i) = LastOf i.0
event_of (Phi b) = LastPhi b.0

abbrev pub has_phi : FormState → ℕ → Bool
has_phi f b = slice_index_or f.phis b false

-- the access that is stored as a block's entering one
abbrev pub enters_at : FormState → ℕ → Option Access
enters_at f b = slice_index_or f.enters b None

-- the operand of a block for one of its predecessor slots
abbrev pub operand_at : FormState → ℕ → ℕ → Option Access
operand_at f b slot = slice_index_or (slice_index_or f.operands b []) slot None

-- the access that an instruction names
abbrev pub defining_at : FormState → ℕ → Option Access
defining_at f i = slice_index_or f.defs i None

-- the access at the start of a block, and that at its end
abbrev pub entering_at : FormState → ℕ → Option Access
entering_at f b = entering_of f (record { 0 = b })

abbrev pub leaving_at : FormState → ℕ → Option Access
leaving_at f b = leaving_of f (record { 0 = b })
