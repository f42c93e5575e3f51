use Rattle.std.proofs.Common.{refl, sym, ap, ◌∙◌}
use Rattle.ms_grammar.proofs.OneLine.{one_line}
use Rattle.ms_line.specs.Sorts.{sort_of}
use Rattle.ms_read.specs.Places.{behind}
use Rattle.ms_read.proofs.RowsRead.{none_stands}
use Rattle.ms_read.proofs.module.fault_of_long.Goals as goal

pub returns-in-Some : goal.returns-in-Some
returns-in-Some c =
    let long = c.requires.long in
    let of = c.in-Ok.ensures.ok in
    let same = ap sort_of (one_line c.args.row.now long.written of.written long.says of.says) in (
      refl,
      record {
        line = long.written;
        next = c.in-Some.field-0;
        says = long.says;
        may_stand = ap (behind c.args.at) (same ∙ sym of.is) ∙ sym c.in-Some.ensures;
        past = λ within _. long.past within;
      },
    )

pub returns-in-None : goal.returns-in-None
returns-in-None c =
    let of = c.in-Ok.ensures.ok in
    (refl, none_stands c.args.at c.args.row.now of.written of.says (ap (behind c.args.at) (sym of.is) ∙ sym c.in-None.ensures))

pub returns-in-Err-NotOfProfile : goal.returns-in-Err-NotOfProfile
returns-in-Err-NotOfProfile c = absurd ((rw c.in-Err-NotOfProfile.field-0-is at c.in-Err-NotOfProfile.ensures.err) c.requires.long.written c.requires.long.says)
