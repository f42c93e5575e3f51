-- A walk over the accesses of a form for many events finds the answers for fewer.
use Rattle.std.specs.Prelude.{◌≡◌, ℕ, Bool, false, List, IsTrue, take}
use Rattle.ms_paths.specs.Flow.{Block, block_at, HasEdge, IsReached, Event, Of, Phi, Entry, after, entered, IsTrivialPhi, StandsAt}

-- each instruction of D is followed by the last event before it
abbrev pub IsDefining : List Block → (ℕ → Bool) → (ℕ → Bool) → (ℕ → Event) → (ℕ → Event) → Type 0
IsDefining g D phis enters defining =
    (i b k : ℕ) → IsReached g b → StandsAt g i b k → IsTrue (D i) →
    defining i ≡ after D (take k (block_at g b).events) (entered phis b (enters b))

-- on the accesses seen, each leads to an event of E, to a kept phi or to the entry, by the accesses before it
pub record IsResolved (g : List Block) (D E phis : ℕ → Bool) (operand : ℕ → ℕ → Event) (defining : ℕ → Event)
    (seen : Event → Bool) (kept : ℕ → Bool) (leads : Event → Event) : Type 0 where
  pub from_entry : leads Entry ≡ Entry
  pub stops : (i : ℕ) → IsTrue (E i) → leads (Of i) ≡ Of i
  pub sees : (i : ℕ) → IsTrue (seen (Of i)) → IsTrue (D i) → E i ≡ false → IsTrue (seen (defining i))
  pub passes : (i : ℕ) → IsTrue (seen (Of i)) → IsTrue (D i) → E i ≡ false → leads (Of i) ≡ leads (defining i)
  pub keeps : (b : ℕ) → IsTrue (seen (Phi b)) → IsTrue (kept b) → leads (Phi b) ≡ Phi b
  pub opens : (a b : ℕ) → IsTrue (seen (Phi b)) → IsTrue (phis b) → IsReached g a → HasEdge g a b → IsTrue (seen (operand b a))
  pub skips : (a b : ℕ) → IsTrue (seen (Phi b)) → IsTrue (phis b) → kept b ≡ false → IsReached g a → HasEdge g a b → leads (Phi b) ≡ leads (operand b a)
  pub skips_entry : IsTrue (seen (Phi 0)) → IsTrue (phis 0) → kept 0 ≡ false → leads (Phi 0) ≡ Entry
  pub none_trivial : (b : ℕ) → IsTrue (seen (Phi b)) → IsTrue (phis b) → IsTrue (kept b) → IsTrivialPhi g (λ b a. leads (operand b a)) b → ⊥
