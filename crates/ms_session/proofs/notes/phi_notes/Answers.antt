use Rattle.std.proofs.Common.{◌≡◌, ◌≢◌, ◌∙◌, ℕ, [], true, false, eqb, ap, sym, arith, ⊎_elim}
use Rattle.std.proofs.lemmas.Bool.{cases_Bool}
use Rattle.std.proofs.lemmas.Bool.Decides.{nat_tests}
use Rattle.ms_print.specs.Text.{note_at}
use Rattle.ms_session.specs.Shown.{shown_phi}
use Rattle.ms_session.proofs.LineLemmas.{line_here, line_other}
use Rattle.ms_session.proofs.notes.phi_notes.Goals as goal

pub loop-b-preserved : goal.loop-b-preserved
loop-b-preserved c =
    let b = c.loop-b.b in
    let old = c.loop-b.notes in
    let new = c.push_line.new.notes in
    let line = c.in_ok-line.line in
    let free : note_at old b ≡ [] = c.loop-b.invariant.rest b (omega arith) in
    let shown : ℕ → _ = shown_phi c.args.labels.now c.args.numbers.now.all c.args.flow.now.graph c.args.form.now in
    record {
      done = λ n lt.
          ⊎_elim
          (λ (t : eqb n b ≡ true).
          let same : n ≡ b = grind (arith, nat_tests) in
          line_here old new b n line c.in_ok-push_line.ensures free same ∙ c.in_ok-line.ensures ∙ ap shown (sym same))
          (λ (f : eqb n b ≡ false).
          let other : n ≢ b = grind (arith, nat_tests) in
          line_other old new b n line c.in_ok-push_line.ensures free other ∙ c.loop-b.invariant.done n (omega arith))
          (cases_Bool (eqb n b));
      rest = λ n le. line_other old new b n line c.in_ok-push_line.ensures free (λ (e : n ≡ b). omega arith) ∙ c.loop-b.invariant.rest n (omega arith);
    }
