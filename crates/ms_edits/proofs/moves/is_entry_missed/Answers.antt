use Rattle.std.proofs.Common.{sym}
use Rattle.std.proofs.lemmas.Bool.{iff_false}
use Rattle.ms_edits.proofs.MissedLemmas.{entry_gone, entry_not, entry_told}
use Rattle.ms_edits.proofs.moves.is_entry_missed.Goals as goal

pub returns-then-is_local : goal.returns-then-is_local
returns-then-is_local c =
    entry_told (λ blocks e p. c.same_paths.ensures.paths blocks e p) c.args.func.now c.numbered.ensures c.args.from c.args.to c.requires.moves c.args.flow.now.graph c.requires.graph c.args.l
    c.args.entries.now c.args.k c.in-Some.entry.now c.is_end_missed.result (sym c.in-Some.ensures.value) (c.is_local.ensures.0 c.if-is_local.true) c.is_end_missed.ensures

pub returns-else-is_local : goal.returns-else-is_local
returns-else-is_local c =
    entry_not (λ blocks e p. c.same_paths.ensures.paths blocks e p) c.args.func.now c.numbered.ensures c.args.from c.args.to c.requires.moves c.args.flow.now.graph c.requires.graph c.args.l
    c.args.entries.now c.args.k c.in-Some.entry.now (sym c.in-Some.ensures.value) (iff_false c.is_local.ensures c.if-is_local.false)

pub returns-in-None : goal.returns-in-None
returns-in-None c =
    entry_gone (λ blocks e p. c.same_paths.ensures.paths blocks e p) c.args.func.now c.numbered.ensures c.args.from c.args.to c.requires.moves c.args.flow.now.graph c.requires.graph c.args.l
    c.args.entries.now c.args.k (sym c.in-None.ensures.value)
