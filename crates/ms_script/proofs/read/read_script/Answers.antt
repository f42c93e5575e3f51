use Rattle.std.proofs.Common.{◌≡◌, ◌+◌, ℕ, List, [], ◌∷◌, ◌++◌, length, refl, sym, ap, subst, ◌∙◌, arith, length-append}
use Rattle.ms_read.specs.Rows.{rows_of}
use Rattle.ms_read.proofs.RowsRead.{rows_more}
use Rattle.ms_script.proofs.ScriptRead.{read_more, steps_so, cause_of}
use Rattle.ms_script.proofs.read.read_script.Goals as goal

pub loop-row-init : goal.loop-row-init
loop-row-init c =
    record {
      before = [];
      lines = [];
      rows = refl;
      so_far = record { say = tt; few = omega arith };
      script_is = c.new-script.ensures;
      read_is = refl;
      room = omega arith;
    }

pub loop-row-preserved : goal.loop-row-preserved
loop-row-preserved c =
    let i = c.loop-row.invariant in
    let t = c.in_ok-take_row.ensures.ok in
    let row = c.in-Some.row.now in
    let after = c.in-Some.after.now in
    let shorter = c.in-Some.ensures.shorter in
    let room = i.room in
    let few = t.few in
    let read = i.read_is in
    let counted : length (i.lines ++ t.one ∷ []) ≡ length i.lines + 1 = simp length-append in
    record {
      before = i.before ++ row ∷ [];
      lines = i.lines ++ t.one ∷ [];
      rows = rows_more (rows_of c.args.bytes.now) i.before (rows_of c.loop-row.rest.now) row (rows_of after) i.rows c.in-Some.ensures.rows;
      so_far = read_more c.args.m.now i.before i.lines row t.one i.so_far t.says t.small (omega (arith, few, read));
      script_is = steps_so c.take_row.new.script c.loop-row.script i.lines t.one c.loop-row.read i.script_is i.read_is t.script_is;
      read_is = ap (λ k. k + 1) i.read_is ∙ sym counted;
      room = omega (arith, room, shorter);
    }
