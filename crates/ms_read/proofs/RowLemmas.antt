use Rattle.std.proofs.Common.{◌≡◌, ℕ, suc, ◌+◌, ◌<◌, List, [], ◌∷◌, length, take, drop, true, false, eqb, refl, ap, sym, ◌∙◌, subst, arith}
use Rattle.std.specs.Prelude.{if◌then◌else◌, not}
use Rattle.std.proofs.lemmas.List.{drop-drop}
use Rattle.ms_read.specs.Rows.{row_len, rows_of, in_first}

-- A text with a byte is its first row and the rows of what is behind it.
rows_of-cons : (b : ℕ) (bytes : List ℕ) → rows_of (b ∷ bytes) ≡ take (row_len (b ∷ bytes)) (b ∷ bytes) ∷ rows_of (drop (suc (row_len (b ∷ bytes))) (b ∷ bytes))
rows_of-cons b [] = elim (eqb b 10) as (λ t. (if t then [] ∷ [] else (b ∷ []) ∷ []) ≡ take (if not t then 1 else 0) (b ∷ []) ∷ rows_of (drop (if not t then 1 else 0) [])) [ true ↦ refl | false ↦ refl ]
rows_of-cons b (c ∷ bytes) =
    let n = row_len (c ∷ bytes) in
    let more : 1 + n ≡ suc n = omega arith in
    elim (eqb b 10) as (λ t. (if t then [] ∷ rows_of (c ∷ bytes) else in_first b (rows_of (c ∷ bytes))) ≡ take (if not t then 1 + n else 0) (b ∷ c ∷ bytes) ∷ rows_of (drop (if not t then 1 + n else 0) (c ∷ bytes))) [
      | true ↦ refl
      | false ↦ subst (λ (k : ℕ). in_first b (rows_of (c ∷ bytes)) ≡ take k (b ∷ c ∷ bytes) ∷ rows_of (drop k (c ∷ bytes))) (sym more) (ap (in_first b) (rows_of-cons c bytes))
    ]

pub rows_of-first : (bytes : List ℕ) → 0 < length bytes → rows_of bytes ≡ take (row_len bytes) bytes ∷ rows_of (drop (suc (row_len bytes)) bytes)
rows_of-first [] h = absurd (omega arith)
rows_of-first (b ∷ bytes) h = rows_of-cons b bytes

pub rest_rows : (bytes row end rest : List ℕ) (n : ℕ) → 0 < length bytes → n ≡ row_len bytes → row ≡ take n bytes → end ≡ drop n bytes → rest ≡ drop 1 end → rows_of bytes ≡ row ∷ rows_of rest
rest_rows bytes row end rest n h n_is row_is end_is rest_is =
    let more : n + 1 ≡ suc n = omega arith in
    let rest_at : rest ≡ drop (suc n) bytes = rest_is ∙ ap (λ (xs : List ℕ). drop 1 xs) end_is ∙ drop-drop 1 n bytes ∙ ap (λ (k : ℕ). drop k bytes) more in
    rw (rest_at, row_is, n_is) (rows_of-first bytes h)

pub none_behind : (xs : List ℕ) → length xs < 1 → xs ≡ drop 1 xs
none_behind [] h = refl
none_behind (x ∷ xs) h = absurd (omega arith)
