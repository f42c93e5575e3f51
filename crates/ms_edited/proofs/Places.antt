-- Where instructions stand once one is put among them or taken out.
use Rattle.std.proofs.Common.{◌≡◌, ◌<◌, ◌≤◌, ◌⊎◌, ℕ, zero, suc, List, [], ◌∷◌, length, get_or, set, Some, refl, sym, ap, inl, inr, arith, length-set}
use Rattle.std.specs.Prelude.{slice_get, insert, remove}
use Rattle.std.proofs.lemmas.List.Edits.{length-remove}
use Rattle.ms_ir.specs.Func.{Placed, Block, insts_at, no_block, with_insts, put_at, cut_at}
use Rattle.ms_ir.specs.Edits.{term_at}

-- ---- one list

-- the place of what stood at place k, once something is put at place p
abbrev pub behind : ℕ → ℕ → ℕ
behind zero k = suc k
behind (suc p) zero = zero
behind (suc p) (suc k) = suc (behind p k)

pub insert_moves : {A : Type 0} (xs : List A) (p k : ℕ) (y : A) → p ≤ length xs → slice_get (insert xs p y) (behind p k) ≡ slice_get xs k
insert_moves [] zero k y le = refl
insert_moves [] (suc p) k y le = absurd (omega arith)
insert_moves (x ∷ xs) zero k y le = refl
insert_moves (x ∷ xs) (suc p) zero y le = refl
insert_moves (x ∷ xs) (suc p) (suc k) y le = insert_moves xs p k y (omega arith)

pub insert_there : {A : Type 0} (xs : List A) (p : ℕ) (y : A) → p ≤ length xs → slice_get (insert xs p y) p ≡ Some y
insert_there [] zero y le = refl
insert_there [] (suc p) y le = absurd (omega arith)
insert_there (x ∷ xs) zero y le = refl
insert_there (x ∷ xs) (suc p) y le = insert_there xs p y (omega arith)

pub remove_moves : {A : Type 0} (xs : List A) (p k : ℕ) → slice_get (remove xs p) k ≡ slice_get xs (behind p k)
remove_moves [] zero k = refl
remove_moves [] (suc p) k = refl
remove_moves (x ∷ xs) zero k = refl
remove_moves (x ∷ xs) (suc p) zero = refl
remove_moves (x ∷ xs) (suc p) (suc k) = remove_moves xs p k

-- what is below the place stays, the rest moves up by one
behind_is : (p k : ℕ) → ((k < p) × (behind p k ≡ k)) ⊎ ((p ≤ k) × (behind p k ≡ suc k))
behind_is zero k = inr (omega arith, refl)
behind_is (suc p) zero = inl (omega arith, refl)
behind_is (suc p) (suc k) = elim (behind_is p k) [
  | inl low ↦ inl (omega (arith, low.0), ap suc low.1)
  | inr high ↦ inr (omega (arith, high.0), ap suc high.1)
]

behind_up : (p j k : ℕ) → j < k → behind p j < behind p k
behind_up p j k lt = elim (behind_is p j) [
  | inl a ↦ elim (behind_is p k) [
    | inl b ↦ omega (arith, lt, a.0, a.1, b.0, b.1)
    | inr b ↦ omega (arith, lt, a.0, a.1, b.0, b.1)
  ]
  | inr a ↦ elim (behind_is p k) [
    | inl b ↦ omega (arith, lt, a.0, a.1, b.0, b.1)
    | inr b ↦ omega (arith, lt, a.0, a.1, b.0, b.1)
  ]
]

behind_down : (p j k : ℕ) → behind p j < behind p k → j < k
behind_down p j k lt = elim (behind_is p j) [
  | inl a ↦ elim (behind_is p k) [
    | inl b ↦ omega (arith, lt, a.0, a.1, b.0, b.1)
    | inr b ↦ omega (arith, lt, a.0, a.1, b.0, b.1)
  ]
  | inr a ↦ elim (behind_is p k) [
    | inl b ↦ omega (arith, lt, a.0, a.1, b.0, b.1)
    | inr b ↦ omega (arith, lt, a.0, a.1, b.0, b.1)
  ]
]

behind_past : (p k : ℕ) → p < behind p k → p ≤ k
behind_past p k lt = elim (behind_is p k) [
  | inl a ↦ absurd (omega (arith, lt, a.0, a.1))
  | inr a ↦ a.0
]

behind_not : (p k : ℕ) → behind p k ≡ p → ⊥
behind_not p k e = elim (behind_is p k) [
  | inl a ↦ omega (arith, e, a.0, a.1)
  | inr a ↦ omega (arith, e, a.0, a.1)
]

each_behind : (p k : ℕ) → (k ≡ p) ⊎ ((j : ℕ) × (behind p j ≡ k))
each_behind zero zero = inl refl
each_behind zero (suc k) = inr (k, refl)
each_behind (suc p) zero = inr (zero, refl)
each_behind (suc p) (suc k) = elim (each_behind p k) [
  | inl same ↦ inl (ap suc same)
  | inr other ↦ inr (suc other.0, ap suc other.1)
]

-- the end of a list is moved to the end
behind_end : {A : Type 0} (xs : List A) (p : ℕ) → p < length xs → behind p (length (remove xs p)) ≡ length xs
behind_end xs p lt =
    let less = length-remove xs p lt in
    elim (behind_is p (length (remove xs p))) [
      | inl a ↦ absurd (omega (arith, less, lt, a.0))
      | inr a ↦ omega (arith, less, a.1)
    ]

-- ---- all blocks

-- the place of what stood at place k of block c, once something is put at place p of block b
abbrev pub moved : ℕ → ℕ → ℕ → ℕ → ℕ
moved zero p zero k = behind p k
moved zero p (suc c) k = k
moved (suc b) p zero k = k
moved (suc b) p (suc c) k = moved b p c k

pub put_moves : (blocks : List Block) (b p c k : ℕ) (y : Placed) → p ≤ length (insts_at blocks b) → slice_get (insts_at (put_at blocks b p y) c) (moved b p c k) ≡ slice_get (insts_at blocks c) k
put_moves [] b p c k y le = refl
put_moves (x ∷ blocks) zero p zero k y le = insert_moves x.insts p k y le
put_moves (x ∷ blocks) zero p (suc c) k y le = refl
put_moves (x ∷ blocks) (suc b) p zero k y le = refl
put_moves (x ∷ blocks) (suc b) p (suc c) k y le = put_moves blocks b p c k y le

pub put_there : (blocks : List Block) (b p : ℕ) (y : Placed) → b < length blocks → p ≤ length (insts_at blocks b) → slice_get (insts_at (put_at blocks b p y) b) p ≡ Some y
put_there [] b p y lt le = absurd (omega arith)
put_there (x ∷ blocks) zero p y lt le = insert_there x.insts p y le
put_there (x ∷ blocks) (suc b) p y lt le = put_there blocks b p y (omega arith) le

pub cut_moves : (blocks : List Block) (b p c k : ℕ) → slice_get (insts_at (cut_at blocks b p) c) k ≡ slice_get (insts_at blocks c) (moved b p c k)
cut_moves [] b p c k = refl
cut_moves (x ∷ blocks) zero p zero k = remove_moves x.insts p k
cut_moves (x ∷ blocks) zero p (suc c) k = refl
cut_moves (x ∷ blocks) (suc b) p zero k = refl
cut_moves (x ∷ blocks) (suc b) p (suc c) k = cut_moves blocks b p c k

pub moved_up : (b p c j k : ℕ) → j < k → moved b p c j < moved b p c k
moved_up zero p zero j k lt = behind_up p j k lt
moved_up zero p (suc c) j k lt = lt
moved_up (suc b) p zero j k lt = lt
moved_up (suc b) p (suc c) j k lt = moved_up b p c j k lt

pub moved_down : (b p c j k : ℕ) → moved b p c j < moved b p c k → j < k
moved_down zero p zero j k lt = behind_down p j k lt
moved_down zero p (suc c) j k lt = lt
moved_down (suc b) p zero j k lt = lt
moved_down (suc b) p (suc c) j k lt = moved_down b p c j k lt

-- what stands behind the place that was put there stood there or behind
pub moved_past : (b p c k : ℕ) → c ≡ b → p < moved b p c k → p ≤ k
moved_past zero p zero k e lt = behind_past p k lt
moved_past zero p (suc c) k e lt = absurd (omega arith)
moved_past (suc b) p zero k e lt = absurd (omega arith)
moved_past (suc b) p (suc c) k e lt = moved_past b p c k (omega arith) lt

-- nothing is moved to that place
pub moved_not : (b p c k : ℕ) → c ≡ b → moved b p c k ≡ p → ⊥
moved_not zero p zero k e is = behind_not p k is
moved_not zero p (suc c) k e is = omega arith
moved_not (suc b) p zero k e is = omega arith
moved_not (suc b) p (suc c) k e is = moved_not b p c k (omega arith) is

pub each_moved : (b p c k : ℕ) → ((c ≡ b) × (k ≡ p)) ⊎ ((j : ℕ) × (moved b p c j ≡ k))
each_moved zero p zero k = elim (each_behind p k) [
  | inl same ↦ inl (refl, same)
  | inr other ↦ inr other
]
each_moved zero p (suc c) k = inr (k, refl)
each_moved (suc b) p zero k = inr (k, refl)
each_moved (suc b) p (suc c) k = elim (each_moved b p c k) [
  | inl same ↦ inl (ap suc same.0, same.1)
  | inr other ↦ inr other
]

pub moved_one : (b p c j k : ℕ) → moved b p c j ≡ moved b p c k → j ≡ k
moved_one b p c j k e =
    let not_less : (i n : ℕ) → moved b p c i ≡ moved b p c n → i < n → ⊥ = λ i n is lt. (let up = moved_up b p c i n lt in omega arith) in
    let a = not_less j k e in
    let d = not_less k j (sym e) in
    omega arith

pub moved_end : (blocks : List Block) (b p c : ℕ) → b < length blocks → p < length (insts_at blocks b) → moved b p c (length (insts_at (cut_at blocks b p) c)) ≡ length (insts_at blocks c)
moved_end [] b p c lt in' = absurd (omega arith)
moved_end (x ∷ blocks) zero p zero lt in' = behind_end x.insts p in'
moved_end (x ∷ blocks) zero p (suc c) lt in' = refl
moved_end (x ∷ blocks) (suc b) p zero lt in' = refl
moved_end (x ∷ blocks) (suc b) p (suc c) lt in' = moved_end blocks b p c (omega arith) in'

-- terminators stay where a block gets other instructions
pub term_stays : (blocks : List Block) (b c : ℕ) (ys : List Placed) → term_at (set blocks b (with_insts (get_or blocks b no_block) ys)) c ≡ term_at blocks c
term_stays [] b c ys = refl
term_stays (x ∷ blocks) zero zero ys = refl
term_stays (x ∷ blocks) zero (suc c) ys = refl
term_stays (x ∷ blocks) (suc b) zero ys = refl
term_stays (x ∷ blocks) (suc b) (suc c) ys = term_stays blocks b c ys

pub put_term : (blocks : List Block) (b p : ℕ) (y : Placed) (c : ℕ) → term_at (put_at blocks b p y) c ≡ term_at blocks c
put_term blocks b p y c = term_stays blocks b c (insert (insts_at blocks b) p y)

pub cut_term : (blocks : List Block) (b p c : ℕ) → term_at (cut_at blocks b p) c ≡ term_at blocks c
cut_term blocks b p c = term_stays blocks b c (remove (insts_at blocks b) p)

pub put_size : (blocks : List Block) (b p : ℕ) (y : Placed) → length (put_at blocks b p y) ≡ length blocks
put_size blocks b p y = length-set blocks b (with_insts (get_or blocks b no_block) (insert (insts_at blocks b) p y))

pub cut_size : (blocks : List Block) (b p : ℕ) → length (cut_at blocks b p) ≡ length blocks
cut_size blocks b p = length-set blocks b (with_insts (get_or blocks b no_block) (remove (insts_at blocks b) p))
