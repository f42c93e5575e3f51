use Rattle.std.proofs.Common.{◌≡◌, ◌≤◌, take}
use Rattle.std.specs.Str.Parse.{digits_value}
use Rattle.ms_line.proofs.readable.is_at_most.Given as goal

-- the digits so far write this number
abbrev pub invariant-loop-byte : goal.invariant-loop-byte
invariant-loop-byte l = (l.value ≡ digits_value 10 (take l.byte-index l.digits)) × (l.value ≤ l.most)
