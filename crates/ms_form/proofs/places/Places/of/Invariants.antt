use Rattle.std.proofs.Common.{◌≡◌, length, map, take}
use Rattle.ms_form.specs.Places.{IsPlaced, slots_of}
use Rattle.ms_form.proofs.places.Places.of.Given as goal

-- the blocks so far have their rooms
abbrev pub invariant-loop-slots : goal.invariant-loop-slots
invariant-loop-slots l =
    IsPlaced l.places.rooms.items (length l.places.users.items) l.places.users.items × (map slots_of l.places.rooms.items ≡ take l.slots-index l.counts)
