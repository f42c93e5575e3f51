use Rattle.std.proofs.Common.{◌++◌, ap, ◌∙◌}
use Rattle.ms_grammar.specs.Parts.{texts}
use Rattle.ms_line_parts.specs.Sizes.{array_counts}
use Rattle.ms_line_parts.proofs.Levels.{levels_are, ok_more}
use Rattle.ms_line_parts.proofs.terms.level_sizes.Goals as goal

pub returns : goal.returns
returns c = ok_more c.scales.result c.scales.ensures (λ levels is. λ sizes h.
    is ∙ levels_are sizes (texts c.args.line.now c.args.object.now) c.in_ok-bytes.bytes c.put_counts.new.counts.items h c.in_ok-bytes.ensures.bytes
    (c.in_ok-bytes.ensures.counts ∙ ap (λ l. l ++ array_counts (texts c.args.line.now c.args.object.now)) c.new-counts.ensures.items))
