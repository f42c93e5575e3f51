use Rattle.std.proofs.Common.{◌≡◌, map, take}
use Rattle.ms_attrs.specs.Parts.{part_of}
use Rattle.ms_attrs.specs.Texts.{texts_of}
use Rattle.ms_attrs.proofs.texts.parts_of.Given as goal

-- the tokens so far
abbrev pub invariant-loop-token : goal.invariant-loop-token
invariant-loop-token l = l.parts.items ≡ map part_of (texts_of l.line (take l.token-index l.tokens))
