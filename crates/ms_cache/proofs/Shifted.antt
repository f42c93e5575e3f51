-- What a shift of an instruction that makes no pointer leaves.
use Rattle.std.proofs.Common.{◌<◌, ℕ, length}
use Rattle.ms_ir.specs.declared.names.InstNo.{InstNo}
use Rattle.ms_ir.specs.Func.{FuncState, IsShifted}
use Rattle.ms_alias.specs.declared.loc.Loc.{Loc}
use Rattle.ms_alias.specs.Tables.{AliasState, IsAliasOf}
use Rattle.ms_cache.specs.Edited.{MakesNone, SamePointers, SameWrites, SameReads, SameLocs}
use Rattle.ms_cache.proofs.Alike.{tables_alike}
use Rattle.ms_cache.proofs.Insts.{shift_alike}
use Rattle.ms_cache.proofs.Accesses.{both_moved, pointers_both, makers_moved, insts_back, writes_same_insts, reads_same_insts, locs_moved}

module _ (f g : FuncState) (n b place : ℕ) (s : IsShifted f g n b place) (lt : b < length f.blocks) (none : MakesNone f n) where
  pub shift_tables : (a : AliasState) → IsAliasOf f a → IsAliasOf g a
  shift_tables a is = let k = shift_alike f g n b place s none in tables_alike f g a k.0 (both_moved f g k.0 (k.1 lt)).captured is

  pub shift_pointers : SamePointers f g
  shift_pointers = let k = shift_alike f g n b place s none in pointers_both f g (both_moved f g k.0 (k.1 lt)) (makers_moved f g (k.1 lt)) (makers_moved g f (insts_back f g (k.1 lt)))

  pub shift_writes : (i : ℕ) (loc : Loc) → SameWrites f g i loc
  shift_writes = let k = shift_alike f g n b place s none in writes_same_insts f g k.0 (k.1 lt)

  pub shift_reads : (i : ℕ) (loc : Loc) → SameReads f g i loc
  shift_reads = let k = shift_alike f g n b place s none in reads_same_insts f g k.0 (k.1 lt)

  pub shift_locs : (i : InstNo) → SameLocs f g i
  shift_locs = let k = shift_alike f g n b place s none in locs_moved f g k.0 (k.1 lt)
