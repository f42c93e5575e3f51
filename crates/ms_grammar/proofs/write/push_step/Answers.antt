use Rattle.std.proofs.Common.{◌≡◌, ℕ, List, ◌∷◌, ◌++◌, map, ap, ◌∙◌, append_assoc, append-nil}
use Rattle.ms_ir.specs.declared.names.Ty.TheVariants.{Ptr}
use Rattle.ms_grammar.specs.Words.{spelling, type_word}
use Rattle.ms_grammar.specs.Parts.{part_text, filled}
use Rattle.ms_grammar.specs.Form.{value_part, index_text}
use Rattle.ms_grammar.specs.declared.keyword.Keyword.TheVariants.{Getelementptr, Comma}
use Rattle.ms_grammar.proofs.write.push_step.Goals as goal

-- the tail behind all that stands before it
tail_last : (out lead head comma typed base filled tail : List ℕ) →
    out ++ (lead ++ 32 ∷ (head ++ (comma ++ 32 ∷ (typed ++ 32 ∷ ((base ++ (comma ++ 32 ∷ filled)) ++ tail)))))
    ≡ out ++ (lead ++ 32 ∷ (head ++ (comma ++ 32 ∷ (typed ++ 32 ∷ (base ++ (comma ++ 32 ∷ (filled ++ tail)))))))
tail_last out lead head comma typed base filled tail =
    ap (λ x. out ++ (lead ++ 32 ∷ (head ++ (comma ++ 32 ∷ (typed ++ 32 ∷ x)))))
    (append_assoc base (comma ++ 32 ∷ filled) tail ∙ ap (λ x. base ++ x) (append_assoc comma (32 ∷ filled) tail))

pub returns : goal.returns
returns c =
    simp (
      c.in_ok-push_text-2.ensures,
      c.in_ok-push_filled.ensures,
      c.as_slice.ensures,
      c.bytes.ensures,
      c.in_ok-push_comma-2.ensures,
      c.in_ok-push_typed.ensures,
      c.in_ok-push_comma.ensures,
      c.in_ok-push_text.ensures,
      c.in_ok-push_lead.ensures,
      append_assoc,
      append-nil,
    ) (tail_last c.args.out.now.items (spelling Getelementptr) c.args.head.now (spelling Comma) (type_word Ptr) (part_text (value_part c.args.base.now))
    (filled (map index_text c.args.terms.now) c.args.index.now) c.args.tail.now)
