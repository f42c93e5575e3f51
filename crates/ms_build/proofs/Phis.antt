-- The phis of a form.
use Rattle.std.proofs.Common.{true, false, ◌≡◌, ◌<◌, inl, inr, ℕ, length, ap}
use Rattle.std.proofs.lemmas.Bool.{both_ways}
use Rattle.std.proofs.lemmas.Bool.Decides.{leb_tells}
use Rattle.std.proofs.lemmas.List.{get_or_past}
use Rattle.ms_ir.specs.declared.names.BlockNo.{BlockNo}
use Rattle.ms_form.specs.declared.access.Access.{Access}
use Rattle.ms_form.specs.declared.access.Access.TheVariants.{Entry, Of, Phi}
use Rattle.ms_form.specs.Form.{FormState}
use Rattle.ms_build.specs.Accesses.{has_phi}

block_of : Access → ℕ
block_of Entry = 0
block_of (Of i) = 0
block_of (Phi b) = b.0

pub one_phi : (b c : BlockNo) → Phi b ≡ Phi c → b.0 ≡ c.0
unfolding block_of
one_phi b c e = ap block_of e

pub in_phis : (f : FormState) (b : ℕ) → has_phi f b ≡ true → b < length f.phis
in_phis f b t = elim (leb_tells (length f.phis) b) [
  | inl past ↦ absurd (both_ways (has_phi f b) (get_or_past f.phis b false past.1) t)
  | inr within ↦ within.1
]
