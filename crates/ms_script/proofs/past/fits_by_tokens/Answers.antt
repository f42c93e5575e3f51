use Rattle.ms_script.proofs.PastLines.{named_so, unnamed_so, number_told, named_told, is_word}
use Rattle.ms_script.proofs.past.fits_by_tokens.Goals as goal

pub returns-then-is_number : goal.returns-then-is_number
returns-then-is_number c = λ h.
    let told = rw c.in-Some-2.is at c.in_ok-name.ensures in
    let so = named_so c.args.line.now c.args.tokens.now c.in-Some.rest.now c.in-Some.first c.in-Some-2.name h c.in-Some.ensures.cells told.0 told.1 in
    number_told c.args.m.now h.name c.in-Some-2.name h.inst so.name_is (c.is_number.ensures.0 c.if-is_number.true)

pub returns-in_ok-fits_behind-in-Some-2 : goal.returns-in_ok-fits_behind-in-Some-2
returns-in_ok-fits_behind-in-Some-2 c = λ h.
    let told = rw c.in-Some-2.is at c.in_ok-name.ensures in
    let so = named_so c.args.line.now c.args.tokens.now c.in-Some.rest.now c.in-Some.first c.in-Some-2.name h c.in-Some.ensures.cells told.0 told.1 in
    named_told c.args.m.now h.name c.in-Some-2.name h.inst c.in_ok-fits_behind-in-Some-2.field-0 so.name_is (is_word c.in-Some-2.name c.is_number.result c.is_number.ensures c.if-is_number.false)
    (c.in_ok-fits_behind-in-Some-2.ensures h.scale h.inst so.behind h.fits)

pub returns-in_ok-fits_there-in-None : goal.returns-in_ok-fits_there-in-None
returns-in_ok-fits_there-in-None c = λ h.
    let told = rw c.in-None.is at c.in_ok-name.ensures in
    let so = unnamed_so c.args.line.now c.args.tokens.now c.in-Some.rest.now c.in-Some.first h c.in-Some.ensures.cells told in
    named_told c.args.m.now h.name _ h.inst c.in_ok-fits_there-in-None.field-0 so.name_is tt (c.in_ok-fits_there-in-None.ensures h.inst so.whole)
