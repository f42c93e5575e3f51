-- Bytes have one output or one refusal at most. The laws of reading and of annotated texts are premises here.
use Rattle.std.proofs.Common.{◌≡◌, ◌≢◌, ℕ, List, inl, inr, Some, None, sym, ap, subst, ◌∙◌}
use Rattle.ms_grammar.specs.declared.line.Line.{Line}
use Rattle.ms_read.specs.Draft.{IsDraft, IsModuleCause}
use Rattle.ms_read.specs.declared.fault.ReadFault.{ReadFault}
use Rattle.ms_read.specs.declared.fault.ReadFault.TheVariants as fault
use Rattle.ms_validity.specs.Cause.{IsValidCause, IsAccepted}
use Rattle.ms_output.specs.Output.{read_refusal, IsUnread, IsInvalid, IsRefusal, IsOutput}
use Rattle.ms_output.specs.declared.refusal.Refusal.{Refusal}
use Rattle.ms_output.specs.declared.wanted.Wanted.{Wanted}
use Rattle.ms_output.proofs.Causes.{IsAnnotatedOnce, one_fault, not_accepted, one_text}

-- a text is read as one draft at most, or refused for one cause at most, and never both
pub record IsReadOnce : Type 0 where
  pub draft : (bytes : List ℕ) (d e : List (ℕ × Line)) → IsDraft bytes d → IsDraft bytes e → d ≡ e
  pub cause : (bytes : List ℕ) (f g : ReadFault) → f ≢ fault.Memory → g ≢ fault.Memory → IsModuleCause bytes f → IsModuleCause bytes g → f ≡ g
  pub apart : (bytes : List ℕ) (d : List (ℕ × Line)) (f : ReadFault) → f ≢ fault.Memory → IsDraft bytes d → IsModuleCause bytes f → ⊥

not_memory : (f : ReadFault) (r : Refusal) → read_refusal f ≡ Some r → f ≢ fault.Memory
not_memory f r e m = let no : None ≡ Some r = sym (ap read_refusal m) ∙ e in absurd (cc)

told_same : (r s : Refusal) → Some r ≡ Some s → r ≡ s
told_same r s e = cc

unread_same : IsReadOnce → (bytes : List ℕ) (r s : Refusal) → IsUnread bytes r → IsUnread bytes s → r ≡ s
unread_same reading bytes r s p q =
    let f = reading.cause bytes p.fault q.fault (not_memory p.fault r p.told) (not_memory q.fault s q.told) p.cause q.cause in
    told_same r s (sym p.told ∙ ap read_refusal f ∙ q.told)

unread_apart : IsReadOnce → (bytes : List ℕ) (d : List (ℕ × Line)) (r : Refusal) → IsDraft bytes d → IsUnread bytes r → ⊥
unread_apart reading bytes d r read p = reading.apart bytes d p.fault (not_memory p.fault r p.told) read p.cause

invalid_same : IsReadOnce → (bytes : List ℕ) (r s : Refusal) → IsInvalid bytes r → IsInvalid bytes s → r ≡ s
invalid_same reading bytes r s p q =
    let d = reading.draft bytes q.draft p.draft q.read p.read in
    one_fault p.draft p.fault q.fault r s p.cause (subst (λ (k : List (ℕ × Line)). IsValidCause k q.fault) d q.cause) p.told q.told

pub refusal_same : IsReadOnce → (bytes : List ℕ) (r s : Refusal) → IsRefusal bytes r → IsRefusal bytes s → r ≡ s
refusal_same reading bytes r s (inl p) (inl q) = unread_same reading bytes r s p q
refusal_same reading bytes r s (inl p) (inr q) = absurd (unread_apart reading bytes q.draft r q.read p)
refusal_same reading bytes r s (inr p) (inl q) = absurd (unread_apart reading bytes p.draft s p.read q)
refusal_same reading bytes r s (inr p) (inr q) = invalid_same reading bytes r s p q

pub output_same : IsReadOnce → IsAnnotatedOnce → (wanted : Wanted) (bytes t u : List ℕ) → IsOutput wanted bytes t → IsOutput wanted bytes u → t ≡ u
output_same reading notes wanted bytes t u p q =
    let d = reading.draft bytes q.draft p.draft q.read p.read in
    one_text notes wanted p.draft p.m q.m t u p.accepted (subst (λ (k : List (ℕ × Line)). IsAccepted k q.m) d q.accepted) p.written q.written

pub output_apart : IsReadOnce → (wanted : Wanted) (bytes t : List ℕ) (r : Refusal) → IsOutput wanted bytes t → IsRefusal bytes r → ⊥
output_apart reading wanted bytes t r p (inl q) = unread_apart reading bytes p.draft r p.read q
output_apart reading wanted bytes t r p (inr q) =
    let d = reading.draft bytes q.draft p.draft q.read p.read in
    not_accepted p.draft p.m q.fault r p.accepted (subst (λ (k : List (ℕ × Line)). IsValidCause k q.fault) d q.cause) q.told
