-- What edits of instructions do to events.
use Rattle.std.specs.Prelude.{◌≡◌, ℕ, Bool, false, if◌then◌else◌, ◌⊎◌, List, nat_eq, not, ◌&&◌, ◌||◌, filter, IsTrue}
use Rattle.ms_paths.specs.Flow.{Block, block_at, HasEdge, IsReached, Event, Of, Phi, Entry, after, entered, Runs, and_one}

-- what D has but d
abbrev pub less : ℕ → (ℕ → Bool) → ℕ → Bool
less d D i = D i && not (nat_eq i d)

-- w for the instruction d
abbrev pub for_def : ℕ → Event → Event → Event
for_def d w (Of i) = if nat_eq i d then w else Of i
for_def d w (Phi b) = Phi b
for_def d w Entry = Entry

-- two graphs with the same edges, whose blocks run the same instructions of E in the same order
pub record SameEvents (g h : List Block) (E : ℕ → Bool) : Type 0 where
  pub next : (b : ℕ) → (block_at g b).next ≡ (block_at h b).next
  pub events : (b : ℕ) → filter E (block_at g b).events ≡ filter E (block_at h b).events

abbrev pub either : (ℕ → Bool) → (ℕ → Bool) → ℕ → Bool
either S K b = S b || K b

-- what enters and leaves blocks once new phis stand at K and the blocks of Z are entered with other events
abbrev pub new_enters : (ℕ → Bool) → (ℕ → Event) → (ℕ → Event) → ℕ → Event
new_enters Z into enters b = if Z b then into b else enters b

abbrev pub new_leaves : List Block → (ℕ → Bool) → (ℕ → Bool) → (ℕ → Event) → ℕ → Event
new_leaves g E phis enters b = after E (block_at g b).events (entered phis b (enters b))

-- a form takes d, an instruction of the block b, as one more event: Z has the blocks that are now entered with another
-- event, where the form has no phi, and K those among them that get one
pub record IsPut (g : List Block) (D R phis : ℕ → Bool) (enters leaves : ℕ → Event) (d b : ℕ) (Z K : ℕ → Bool) (into : ℕ → Event) : Type 0 where
  pub first_entered :
      (new_leaves g (and_one d D) (either phis K) (new_enters Z into enters) b ≡ leaves b)
      ⊎ ((x : ℕ) → HasEdge g b x → phis x ≡ false → IsTrue (Z x))
  pub then_entered : (y x : ℕ) → IsTrue (Z y) → (Runs g D y → ⊥) → HasEdge g y x → phis x ≡ false → IsTrue (Z x)
  pub new_within : (x : ℕ) → IsTrue (K x) → IsTrue (Z x)
  pub into_entry : IsTrue (Z 0) → either phis K 0 ≡ false → into 0 ≡ Entry
  pub into_block : (a x : ℕ) → IsTrue (R x) → IsTrue (Z x) → either phis K x ≡ false → IsReached g a → HasEdge g a x →
      into x ≡ new_leaves g (and_one d D) (either phis K) (new_enters Z into enters) a

-- h has no edges but those of g, and runs the same events
pub record IsPartOf (h g : List Block) (D : ℕ → Bool) : Type 0 where
  pub events_same : (b : ℕ) → filter D (block_at h b).events ≡ filter D (block_at g b).events
  pub edges_of : (a b : ℕ) → HasEdge h a b → HasEdge g a b
