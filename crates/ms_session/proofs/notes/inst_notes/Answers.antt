use Rattle.std.proofs.Common.{◌≡◌, ◌≢◌, ◌∙◌, ℕ, List, [], true, false, eqb, sym, subst, arith, ⊎_elim}
use Rattle.std.proofs.lemmas.Bool.{cases_Bool}
use Rattle.std.proofs.lemmas.Bool.Decides.{nat_tests}
use Rattle.ms_ir.specs.Inst.{kind_of_inst}
use Rattle.ms_build.specs.Accesses.{defining_at}
use Rattle.ms_print.specs.Text.{note_at}
use Rattle.ms_session.specs.Shown.{IsShownLine, line_text}
use Rattle.ms_ir.proofs.Along.{block_within}
use Rattle.ms_session.proofs.LineLemmas.{line_here, line_other}
use Rattle.ms_session.proofs.notes.inst_notes.Goals as goal

pub loop-i-preserved : goal.loop-i-preserved
loop-i-preserved c =
    let i = c.loop-i.i in
    let f = c.args.of.now.func.now in
    let form = c.args.of.now.form.now in
    let all = c.args.numbers.now.all in
    let old = c.loop-i.notes in
    let new = c.push_line.new.notes in
    let line = c.in_ok-line.line in
    let free : note_at old i ≡ [] = c.loop-i.invariant.rest i (omega arith) in
    record {
      done = λ b k x at lt.
          ⊎_elim
          (λ (t : eqb x.number i ≡ true).
          let same : x.number ≡ i = grind (arith, nat_tests) in
          let here = line_here old new i x.number line c.in_ok-push_line.ensures free same in
          let shown = c.in_ok-line.ensures b k x (record { block = block_within f.blocks b k x at; found = at; numbered = same }) in
          subst (λ (t : List ℕ). IsShownLine f all b k x (defining_at form x.number) (kind_of_inst x.inst) t) (sym here)
          (subst (λ (n : ℕ). IsShownLine f all b k x (defining_at form n) (kind_of_inst x.inst) (line_text line)) (sym same) shown))
          (λ (n : eqb x.number i ≡ false).
          let other : x.number ≢ i = grind (arith, nat_tests) in
          let there = line_other old new i x.number line c.in_ok-push_line.ensures free other in
          subst (λ (t : List ℕ). IsShownLine f all b k x (defining_at form x.number) (kind_of_inst x.inst) t) (sym there) (c.loop-i.invariant.done b k x at (omega arith)))
          (cases_Bool (eqb x.number i));
      rest = λ n le. line_other old new i n line c.in_ok-push_line.ensures free (λ (e : n ≡ i). omega arith) ∙ c.loop-i.invariant.rest n (omega arith);
    }
