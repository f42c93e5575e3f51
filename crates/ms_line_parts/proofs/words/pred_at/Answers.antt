use Rattle.std.proofs.Common.{◌≡◌}
use Rattle.ms_ir.specs.declared.inst.Pred.TheVariants.{Eq, Ne, Ugt, Uge, Ult, Ule, Sgt, Sge, Slt, Sle}
use Rattle.ms_grammar.specs.Words.{predicate_word}
use Rattle.ms_grammar.specs.Parts.{bytes_at}
use Rattle.ms_line_parts.proofs.Texts.{other}
use Rattle.ms_line_parts.proofs.words.pred_at.Goals as goal

pub returns : goal.returns
returns c = λ word.
    elim word as (λ w. bytes_at c.args.line.now c.args.token ≡ predicate_word w → ⊥) [
      | Eq ↦ other c.bytes_of-text.ensures.bytes c.pred_bytes.ensures c.eq.ensures c.if-eq.false
      | Ne ↦ other c.bytes_of-text.ensures.bytes c.pred_bytes-2.ensures c.eq-2.ensures c.if-eq-2.false
      | Ugt ↦ other c.bytes_of-text.ensures.bytes c.pred_bytes-3.ensures c.eq-3.ensures c.if-eq-3.false
      | Uge ↦ other c.bytes_of-text.ensures.bytes c.pred_bytes-4.ensures c.eq-4.ensures c.if-eq-4.false
      | Ult ↦ other c.bytes_of-text.ensures.bytes c.pred_bytes-5.ensures c.eq-5.ensures c.if-eq-5.false
      | Ule ↦ other c.bytes_of-text.ensures.bytes c.pred_bytes-6.ensures c.eq-6.ensures c.if-eq-6.false
      | Sgt ↦ other c.bytes_of-text.ensures.bytes c.pred_bytes-7.ensures c.eq-7.ensures c.if-eq-7.false
      | Sge ↦ other c.bytes_of-text.ensures.bytes c.pred_bytes-8.ensures c.eq-8.ensures c.if-eq-8.false
      | Slt ↦ other c.bytes_of-text.ensures.bytes c.pred_bytes-9.ensures c.eq-9.ensures c.if-eq-9.false
      | Sle ↦ other c.bytes_of-text.ensures.bytes c.pred_bytes-10.ensures c.eq-10.ensures c.if-eq-10.false
    ]
