use Rattle.std.proofs.Common.{◌≡◌}
use Rattle.ms_ir.specs.declared.inst.Op.TheVariants.{Add, Sub, Mul, And, Or, Xor, Shl, Lshr, Ashr}
use Rattle.ms_grammar.specs.Words.{op_word}
use Rattle.ms_grammar.specs.Parts.{bytes_at}
use Rattle.ms_line_parts.proofs.Texts.{other}
use Rattle.ms_line_parts.proofs.words.op_at.Goals as goal

pub returns : goal.returns
returns c = λ word.
    elim word as (λ w. bytes_at c.args.line.now c.args.token ≡ op_word w → ⊥) [
      | Add ↦ other c.bytes_of-text.ensures.bytes c.op_bytes.ensures c.eq.ensures c.if-eq.false
      | Sub ↦ other c.bytes_of-text.ensures.bytes c.op_bytes-2.ensures c.eq-2.ensures c.if-eq-2.false
      | Mul ↦ other c.bytes_of-text.ensures.bytes c.op_bytes-3.ensures c.eq-3.ensures c.if-eq-3.false
      | And ↦ other c.bytes_of-text.ensures.bytes c.op_bytes-4.ensures c.eq-4.ensures c.if-eq-4.false
      | Or ↦ other c.bytes_of-text.ensures.bytes c.op_bytes-5.ensures c.eq-5.ensures c.if-eq-5.false
      | Xor ↦ other c.bytes_of-text.ensures.bytes c.op_bytes-6.ensures c.eq-6.ensures c.if-eq-6.false
      | Shl ↦ other c.bytes_of-text.ensures.bytes c.op_bytes-7.ensures c.eq-7.ensures c.if-eq-7.false
      | Lshr ↦ other c.bytes_of-text.ensures.bytes c.op_bytes-8.ensures c.eq-8.ensures c.if-eq-8.false
      | Ashr ↦ other c.bytes_of-text.ensures.bytes c.op_bytes-9.ensures c.eq-9.ensures c.if-eq-9.false
    ]
