use Rattle.std.proofs.Common.{◌≡◌, ℕ, ◌<◌, ◌≤◌, ◌+◌, List, ◌++◌, length, false}
use Rattle.ms_grammar.specs.declared.line.Line.{Line}
use Rattle.ms_read.specs.Rows.{rows_of}
use Rattle.ms_read.specs.Places.{is_outside, AreFew}
use Rattle.ms_read.specs.Draft.{IsRead, numbered}
use Rattle.ms_read.proofs.module.read_module.Given as goal

-- The rows so far are read, and those behind them are still to come. A row in a function is behind one with more than
-- a byte.
abbrev pub invariant-loop-row : goal.invariant-loop-row
invariant-loop-row l = record {
  before : List (List ℕ);
  lines : List Line;
  rows : rows_of l.bytes ≡ before ++ rows_of l.rest;
  so_far : IsRead before lines l.at;
  few : AreFew l.at;
  draft_is : l.draft ≡ numbered 1 lines;
  read_is : l.read ≡ length lines;
  room : l.read + length l.rest ≤ length l.bytes;
  more_room : is_outside l.at.place ≡ false → l.read + length l.rest < length l.bytes;
}

abbrev pub decreases-loop-row : goal.decreases-loop-row
decreases-loop-row l = length l.rest
