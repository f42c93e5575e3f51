-- The entries of a phi, and lines in notes.
use Rattle.std.proofs.Common.{◌≡◌, ◌≢◌, ◌+◌, ℕ, suc, true, false, eqb, List, [], ◌∷◌, ◌++◌, Option, Some, None, if◌then◌else◌, refl, ap, ◌∙◌, arith, append_assoc, append-nil, ⊎_elim}
use Rattle.std.proofs.lemmas.Bool.{cases_Bool}
use Rattle.std.proofs.lemmas.Bool.Decides.{nat_tests}
use Rattle.ms_paths.specs.Flow.{Event}
use Rattle.ms_ir.specs.declared.names.Name.{Name}
use Rattle.ms_flow.specs.declared.sources.Source.{Source}
use Rattle.ms_form.specs.Form.{FormState}
use Rattle.ms_build.specs.Accesses.{operand_at}
use Rattle.ms_print.specs.declared.notes.Note.{Note}
use Rattle.ms_print.specs.Text.{note_at, ended}
use Rattle.ms_session.specs.Annotated.{behind_commas}
use Rattle.ms_session.specs.Shown.{line_text, operand_text, operand_texts, comma_text, members_text, with_line}

members_more : (out t : List ℕ) (slot : ℕ) (ts : List (List ℕ)) → ((out ++ comma_text slot) ++ t) ++ members_text (slot + 1) ts ≡ out ++ members_text slot (t ∷ ts)
members_more out t slot ts =
    let next : eqb (slot + 1) 0 ≡ false = grind (arith, nat_tests) in
    ⊎_elim
    (λ (z : eqb slot 0 ≡ true). rw (next, z, append-nil out) (append_assoc out t (behind_commas ts)))
    (λ (n : eqb slot 0 ≡ false). rw (next, n) (simp append_assoc))
    (cases_Bool (eqb slot 0))

-- the entries behind one for an edge
pub operands_more : (labels : List Name) (all : List Event) (form : FormState) (b slot : ℕ) (e : Source) (xs ys : List Source) (out one two : List ℕ)
    → xs ≡ e ∷ ys → one ≡ out ++ comma_text slot → two ≡ one ++ operand_text labels all e.from (operand_at form b slot)
    → two ++ members_text (slot + 1) (operand_texts labels all form b (slot + 1) ys) ≡ out ++ members_text slot (operand_texts labels all form b slot xs)
operands_more labels all form b slot e xs ys out one two first second third =
    let t : List ℕ = operand_text labels all e.from (operand_at form b slot) in
    let next : slot + 1 ≡ suc slot = omega arith in
    rw (third, second, first)
    (members_more out t slot (operand_texts labels all form b (slot + 1) ys)
    ∙ ap (λ n. out ++ members_text slot (t ∷ operand_texts labels all form b n ys)) next)

-- behind the last edge there is no entry
pub operands_end : (labels : List Name) (all : List Event) (form : FormState) (b slot : ℕ) (xs : List Source) (out : List ℕ) → xs ≡ []
    → out ++ members_text slot (operand_texts labels all form b slot xs) ≡ out
operands_end labels all form b slot xs out e =
    ⊎_elim
    (λ (z : eqb slot 0 ≡ true). rw (e, z) (append-nil out))
    (λ (n : eqb slot 0 ≡ false). rw (e, n) (append-nil out))
    (cases_Bool (eqb slot 0))

no_line : (line rest : List ℕ) → ended line ≡ [] → ⊥
no_line [] rest e = cc
no_line (x ∷ line) rest e = cc

note_pushed : (notes : List Note) (x : Note) (n : ℕ) → note_at notes x.at ≡ [] → note_at (notes ++ x ∷ []) n ≡ (if eqb x.at n then ended x.line else note_at notes n)
note_pushed [] x n e = refl
note_pushed (y ∷ ys) x n e =
    ⊎_elim
    (λ (t : eqb y.at x.at ≡ true). let h : ended y.line ≡ [] = rw t at e in absurd (no_line y.line [] h))
    (λ (f : eqb y.at x.at ≡ false).
    let h : note_at ys x.at ≡ [] = rw f at e in
    let r = note_pushed ys x n h in
    ⊎_elim
    (λ (t : eqb y.at n ≡ true). let o : eqb x.at n ≡ false = grind (arith, nat_tests) in rw (t, o) refl)
    (λ (g : eqb y.at n ≡ false). rw g r)
    (cases_Bool (eqb y.at n)))
    (cases_Bool (eqb y.at x.at))

-- one more line, behind those for smaller numbers
pub line_pushed : (notes : List Note) (at n : ℕ) (line : Option (List ℕ)) → note_at notes at ≡ []
    → note_at (with_line notes at line) n ≡ (if eqb at n then line_text line else note_at notes n)
line_pushed notes at n (Some line) e = note_pushed notes (record { at = at; line = line }) n e
line_pushed notes at n None e =
    ⊎_elim
    (λ (t : eqb at n ≡ true). let same : n ≡ at = grind (arith, nat_tests) in rw (t, same) e)
    (λ (f : eqb at n ≡ false). rw f refl)
    (cases_Bool (eqb at n))

pub line_here : (notes new : List Note) (at n : ℕ) (line : Option (List ℕ)) → new ≡ with_line notes at line → note_at notes at ≡ [] → n ≡ at
    → note_at new n ≡ line_text line
line_here notes new at n line is e same =
    let t : eqb at n ≡ true = grind (arith, nat_tests) in
    ap (λ (l : List Note). note_at l n) is ∙ line_pushed notes at n line e ∙ rw t refl

pub line_other : (notes new : List Note) (at n : ℕ) (line : Option (List ℕ)) → new ≡ with_line notes at line → note_at notes at ≡ [] → n ≢ at
    → note_at new n ≡ note_at notes n
line_other notes new at n line is e other =
    let f : eqb at n ≡ false = grind (arith, nat_tests) in
    ap (λ (l : List Note). note_at l n) is ∙ line_pushed notes at n line e ∙ rw f refl
