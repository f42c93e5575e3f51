use Rattle.std.proofs.Common.{◌≡◌, ◌+◌, ℕ, true, false, List, [], ◌∷◌, ◌++◌, length, refl, sym, ap, subst, ◌∙◌, ⊎_elim, arith, length-append}
use Rattle.std.proofs.lemmas.Bool.{cases_Bool}
use Rattle.ms_grammar.specs.declared.line.Line.{Line}
use Rattle.ms_grammar.specs.Grammar.{kept_of}
use Rattle.ms_read.specs.Rows.{rows_of}
use Rattle.ms_read.specs.Places.{is_outside, AreFew}
use Rattle.ms_read.specs.declared.place.Progress.{Progress}
use Rattle.ms_read.specs.Draft.{said, numbered}
use Rattle.ms_read.proofs.RowsRead.{read_more, numbered_more, rows_more}
use Rattle.ms_read.proofs.Inside.{long_row}
use Rattle.ms_read.proofs.module.read_module.Goals as goal

numbered_so : (new old : List (ℕ × Line)) (lines : List Line) (line : Line) (read : ℕ) → old ≡ numbered 1 lines → read ≡ length lines
    → new ≡ old ++ said (read + 1) (kept_of line) → new ≡ numbered 1 (lines ++ line ∷ [])
numbered_so new old lines line read old_is read_is new_is =
    let number : read + 1 ≡ 1 + length lines = omega arith in
    new_is ∙ ap (λ (xs : List (ℕ × Line)). xs ++ said (read + 1) (kept_of line)) old_is
    ∙ ap (λ k. numbered 1 lines ++ said k (kept_of line)) number ∙ sym (numbered_more 1 lines line)

pub loop-row-init : goal.loop-row-init
loop-row-init c =
    let start = sym c.outset-at.ensures in
    let outside = ap (λ (p : Progress). is_outside p.place) c.outset-at.ensures in
    record {
      before = [];
      lines = [];
      rows = refl;
      so_far = record { say = tt; lead = start };
      few = subst AreFew start (omega arith, omega arith, omega arith);
      draft_is = c.new-draft.ensures;
      read_is = refl;
      room = omega arith;
      more_room = λ inside. absurd (cc);
    }

pub loop-row-preserved : goal.loop-row-preserved
loop-row-preserved c =
    let i = c.loop-row.invariant in
    let t = c.in_ok-at.ensures.ok in
    let row = c.in-Some.row.now in
    let after = c.in-Some.after.now in
    let shorter = c.in-Some.ensures.shorter in
    let fewer = c.in-Some.ensures.fewer in
    let room = i.room in
    let counted : length (i.lines ++ t.line ∷ []) ≡ length i.lines + 1 = simp length-append in
    record {
      before = i.before ++ row ∷ [];
      lines = i.lines ++ t.line ∷ [];
      rows = rows_more (rows_of c.args.bytes.now) i.before (rows_of c.loop-row.rest.now) row (rows_of after) i.rows c.in-Some.ensures.rows;
      so_far = read_more i.before i.lines c.loop-row.at row t.line c.in_ok-at.at i.so_far t.says t.within t.goes;
      few = t.goes.few;
      draft_is = numbered_so c.take_row.new.draft c.loop-row.draft i.lines t.line c.loop-row.read i.draft_is i.read_is t.draft_is;
      read_is = ap (λ k. k + 1) i.read_is ∙ sym counted;
      room = omega (arith, room, shorter, fewer);
      more_room = λ inside. ⊎_elim
          (λ (out : is_outside c.loop-row.at.place ≡ true). (let long = long_row c.loop-row.at row t.line c.in_ok-at.at t.says t.goes.may_stand out inside in omega (arith, room, shorter, fewer, long)))
          (λ (was : is_outside c.loop-row.at.place ≡ false). (let more = i.more_room was in omega (arith, more, fewer)))
          (cases_Bool (is_outside c.loop-row.at.place));
    }
