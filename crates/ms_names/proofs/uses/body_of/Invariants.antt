use Rattle.std.proofs.Common.{◌≡◌, ◌++◌, drop, take}
use Rattle.ms_names.specs.Draft.{body_lines}
use Rattle.ms_names.proofs.uses.body_of.Given as goal

-- the lines so far are inside
abbrev pub invariant-loop-at : goal.invariant-loop-at
invariant-loop-at l = take l.at l.lines ++ body_lines (drop l.at l.lines) ≡ body_lines l.lines
