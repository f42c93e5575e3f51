use Rattle.std.proofs.Common.{ap, ◌∙◌}
use Rattle.ms_grammar.specs.Reading.{type_of}
use Rattle.ms_line_parts.proofs.Values.{type_told}
use Rattle.ms_line_parts.proofs.words.type_at.Goals as goal

pub returns : goal.returns
returns c = type_told _ c.known_type.result (c.known_type.ensures ∙ ap type_of c.bytes_of.ensures.bytes)
