use Rattle.std.proofs.Common.{[], ◌∷◌}
use Rattle.ms_grammar.specs.Parts.{blank}
use Rattle.ms_grammar.specs.Form.{word_part, entry_parts}
use Rattle.ms_grammar.specs.Fits.{IsEntryOf}
use Rattle.ms_grammar.specs.declared.keyword.Keyword.TheVariants as word
use Rattle.ms_line_insts.proofs.Fronts.{read_after}
use Rattle.ms_line_insts.proofs.phi.further_entry.Goals as goal

pub returns : goal.returns
returns c =
    read_after (IsEntryOf c.args.ty) entry_parts (word_part word.Comma ∷ blank ∷ []) c.args.line.now c.args.tokens.now c.in-Some.behind.now c.entry_front.result c.in-Some.ensures c.entry_front.ensures
