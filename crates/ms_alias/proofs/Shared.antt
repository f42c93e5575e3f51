-- Lists of marks.
use Rattle.std.proofs.Common.{◌≡◌, ◌<◌, ◌≤◌, ◌+◌, ℕ, Bool, true, false, List, [], ◌∷◌, length, get_or, drop, refl, ap, ◌∙◌, add-one, drop-cons}
use Rattle.std.proofs.Math.ListN.{drop_of_length-le}
use Rattle.std.specs.Prelude.{◌&&◌, ◌||◌}
use Rattle.ms_alias.specs.Tables.{share_mark}

pub share_none : (xs : List Bool) → share_mark xs [] ≡ false
share_none [] = refl
share_none (x ∷ xs) = refl

pub share_step : (xs ys : List Bool) (k : ℕ) → k < length xs → k < length ys
    → share_mark (drop k xs) (drop k ys) ≡ ((get_or xs k false && get_or ys k false) || share_mark (drop (k + 1) xs) (drop (k + 1) ys))
share_step xs ys k p q = rw (add-one, drop-cons xs k false, drop-cons ys k false) refl

pub share_past : (xs ys : List Bool) (k : ℕ) → length ys ≤ k → share_mark (drop k xs) (drop k ys) ≡ false
share_past xs ys k h = ap (share_mark (drop k xs)) (drop_of_length-le ys h) ∙ share_none (drop k xs)

pub share_true : (xs ys : List Bool) (k : ℕ) → k < length xs → k < length ys → (get_or xs k false && get_or ys k false) ≡ true → share_mark (drop k xs) (drop k ys) ≡ true
share_true xs ys k p q t = share_step xs ys k p q ∙ ap (λ b. b || share_mark (drop (k + 1) xs) (drop (k + 1) ys)) t

pub share_false : (xs ys : List Bool) (k : ℕ) → k < length xs → k < length ys → (get_or xs k false && get_or ys k false) ≡ false → share_mark (drop k xs) (drop k ys) ≡ share_mark (drop (k + 1) xs) (drop (k + 1) ys)
share_false xs ys k p q t = share_step xs ys k p q ∙ ap (λ b. b || share_mark (drop (k + 1) xs) (drop (k + 1) ys)) t
