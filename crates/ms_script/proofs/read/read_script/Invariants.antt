use Rattle.std.proofs.Common.{◌≡◌, ℕ, ◌≤◌, ◌+◌, List, ◌++◌, length, Option}
use Rattle.ms_ir.specs.declared.names.FuncNo.{FuncNo}
use Rattle.ms_read.specs.Rows.{rows_of}
use Rattle.ms_script.specs.Script.{IsRead, steps_from}
use Rattle.ms_script.specs.declared.edit.RawEdit.{RawEdit}
use Rattle.ms_script.proofs.read.read_script.Given as goal

-- The rows so far are read, and those behind them are still to come.
abbrev pub invariant-loop-row : goal.invariant-loop-row
invariant-loop-row l = record {
  before : List (List ℕ);
  lines : List (Option (FuncNo × RawEdit));
  rows : rows_of l.bytes ≡ before ++ rows_of l.rest;
  so_far : IsRead l.m before lines;
  script_is : l.script ≡ steps_from 1 lines;
  read_is : l.read ≡ length lines;
  room : length l.rest ≤ length l.bytes;
}

abbrev pub decreases-loop-row : goal.decreases-loop-row
decreases-loop-row l = length l.rest
