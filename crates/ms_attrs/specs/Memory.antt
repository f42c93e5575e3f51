-- The meaning of one `memory(..)`.
use Rattle.std.specs.Prelude.{Bool, true, false, ◌||◌, List, [], ◌∷◌, Option, Some, None, map, option_map, option_and_then, if◌then◌else◌}
use Rattle.std.specs.List.{slice_split}
use Rattle.std.specs.Option.{option_map_or}
use Rattle.ms_ir.specs.declared.inst.Effects.{Effects}
use Rattle.ms_attrs.specs.declared.part.Part.{Part}
use Rattle.ms_attrs.specs.declared.part.Part.TheVariants.{Comma, Colon, Memory, Nocapture, Captures, Nothing, Read, Write, ReadWrite, Argmem, Inaccessiblemem, Word}
use Rattle.ms_attrs.specs.declared.memory.Access.{Access}
use Rattle.ms_attrs.specs.declared.memory.Place.{Place}
use Rattle.ms_attrs.specs.declared.memory.Place.TheVariants as place
use Rattle.ms_attrs.specs.declared.memory.Item.{Item}

abbrev pub no_access : Access
no_access = record { read = false; write = false }

-- a kind of access
abbrev pub access_of : Part → Option Access
access_of Nothing = Some no_access
access_of Read = Some (record { read = true; write = false })
access_of Write = Some (record { read = false; write = true })
access_of ReadWrite = Some (record { read = true; write = true })
access_of _ = None

-- the memory that a word before a colon names: what it does not know is other memory
abbrev pub place_of : Part → Option Place
place_of Argmem = Some place.Argument
place_of Inaccessiblemem = Some place.Hidden
place_of Memory = Some place.Other
place_of Nocapture = Some place.Other
place_of Captures = Some place.Other
place_of Nothing = Some place.Other
place_of Read = Some place.Other
place_of Write = Some place.Other
place_of ReadWrite = Some place.Other
place_of Word = Some place.Other
place_of _ = None

abbrev pub item_at : Place → Part → Option Item
item_at place kind = option_map (λ access. record { place = place; access = access }) (access_of kind)

abbrev pub is_colon : Part → Bool
is_colon Colon = true
is_colon _ = false

abbrev pub is_comma : Part → Bool
is_comma Comma = true
is_comma _ = false

-- a kind alone is the default; a kind behind a word and a colon is that of the word's memory
abbrev pub item_of : List Part → Option Item
item_of [] = None
item_of (kind ∷ []) = item_at place.Default kind
item_of (_ ∷ (_ ∷ [])) = None
item_of (location ∷ (mark ∷ (kind ∷ []))) =
    if is_colon mark then option_and_then (λ place. item_at place kind) (place_of location) else None
item_of (_ ∷ (_ ∷ (_ ∷ (_ ∷ _)))) = None

-- all of them, if each is there
abbrev pub all_of : List (Option Item) → Option (List Item)
all_of [] = Some []
all_of (None ∷ items) = None
all_of (Some item ∷ items) = option_map (λ more. item ∷ more) (all_of items)

-- the items between the commas
abbrev pub items_of : List Part → Option (List Item)
items_of inner = all_of (map item_of (slice_split is_comma inner))

abbrev pub is_same : Place → Place → Bool
is_same place.Default place.Default = true
is_same place.Argument place.Argument = true
is_same place.Hidden place.Hidden = true
is_same place.Other place.Other = true
is_same _ _ = false

-- the access of the last item for some memory, or another one where there is none
abbrev pub last_for : Place → Access → List Item → Access
last_for place access [] = access
last_for place access (item ∷ items) = last_for place (if is_same item.place place then item.access else access) items

abbrev pub joined : Access → Access → Access
joined a b = record { read = a.read || b.read; write = a.write || b.write }

-- an access and those of all items for other memory
abbrev pub all_joined : Access → List Item → Access
all_joined access [] = access
all_joined access (item ∷ items) = all_joined (if is_same item.place place.Other then joined access item.access else access) items

abbrev pub flags_with : Access → Access → Access → Effects
flags_with argument other hidden = record {
  arg_read = argument.read;
  arg_write = argument.write;
  other_read = other.read;
  other_write = other.write;
  hidden_read = hidden.read;
  hidden_write = hidden.write;
}

-- the default comes first, wherever it stands, and the items change it
abbrev pub flags_by : Access → List Item → Effects
flags_by default items = flags_with (last_for place.Argument default items) (all_joined default items) (last_for place.Hidden default items)

abbrev pub flags : List Item → Effects
flags items = flags_by (last_for place.Default no_access items) items

-- all six flags
abbrev pub everything : Effects
everything = record {
  arg_read = true;
  arg_write = true;
  other_read = true;
  other_write = true;
  hidden_read = true;
  hidden_write = true;
}

-- what stands in the parentheses of a `memory(..)` gives these flags, all six where it has no such form
abbrev pub memory_flags : List Part → Effects
memory_flags inner = option_map_or flags (items_of inner) everything
