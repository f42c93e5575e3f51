-- The longest front up to the quote that ends a string.
use Rattle.std.proofs.Common.{◌≡◌, ◌==◌, ◌+◌, ◌<◌, ◌≤◌, ℕ, zero, suc, Bool, true, false, ◌&&◌, cond, not, List, [], ◌∷◌, length, take, get_or, length-take, refl, ◌∙◌, arith}
use Rattle.std.proofs.Math.Numerals.{one-add}
use Rattle.std.specs.List.{prefix_len}
use Rattle.std.proofs.lemmas.Bool.{and_left, and_right, and_parts, not-true, ne_eqb}
use Rattle.ms_lex.specs.Bytes.{is_quotable}
use Rattle.ms_lex.specs.Kinds.{is_quotation}
use Rattle.ms_lex.specs.Front.{IsLongest, NoFront}

-- a byte that may not stand in a string, and more
not_quotable : (b : ℕ) (bs : List ℕ) → is_quotable b ≡ false → 0 < length bs → is_quotation (b ∷ bs) ≡ false
not_quotable b [] stops some = absurd (omega arith)
not_quotable b (c ∷ cs) stops some = and_left (is_quotable b) _ stops

-- a byte that may stand in a string, and more
quotable : (b : ℕ) (bs : List ℕ) → is_quotable b ≡ true → 0 < length bs → is_quotation (b ∷ bs) ≡ is_quotation bs
quotable b [] goes some = absurd (omega arith)
quotable b (c ∷ cs) goes some = rw goes refl

-- the quote in front
quote_front : (bs : List ℕ) → IsLongest is_quotation (34 ∷ bs) 1
quote_front bs = record { within = omega arith; passes = refl; longest = longer }
  where
    longer : (m : ℕ) → 1 < m → m ≤ suc (length bs) → is_quotation (take m (34 ∷ bs)) ≡ false
    longer zero more fits = absurd (omega arith)
    longer (suc m) more fits = not_quotable 34 (take m bs) refl (omega (arith, length-take m bs))

-- a byte that may stand in a string before it
further : (b : ℕ) (bs : List ℕ) (n : ℕ) → is_quotable b ≡ true → 0 < n → IsLongest is_quotation bs n → IsLongest is_quotation (b ∷ bs) (suc n)
further b bs n goes some front = record {
  within = omega (arith, front.within);
  passes = quotable b (take n bs) goes (omega (arith, length-take n bs, front.within)) ∙ front.passes;
  longest = longer;
}
  where
    longer : (m : ℕ) → suc n < m → m ≤ suc (length bs) → is_quotation (take m (b ∷ bs)) ≡ false
    longer zero more fits = absurd (omega arith)
    longer (suc m) more fits = quotable b (take m bs) goes (omega (arith, length-take m bs)) ∙ front.longest m (omega arith) (omega arith)

front_by : (b : ℕ) (bs : List ℕ) (t : Bool) → is_quotable b ≡ t → cond t (1 + prefix_len is_quotable bs) 0 < suc (length bs)
    → get_or (b ∷ bs) (cond t (1 + prefix_len is_quotable bs) 0) 0 ≡ 34
    → (prefix_len is_quotable bs < length bs → get_or bs (prefix_len is_quotable bs) 0 ≡ 34 → IsLongest is_quotation bs (suc (prefix_len is_quotable bs)))
    → IsLongest is_quotation (b ∷ bs) (suc (cond t (1 + prefix_len is_quotable bs) 0))
front_by b bs false stops within quote rest = rw quote (quote_front bs)
front_by b bs true goes within quote rest =
    rw one-add (further b bs _ goes (omega arith) (rest (omega arith) (rw one-add at quote)))

-- what may stand in a string, and then a quote
pub quotation_front : (bytes : List ℕ) → prefix_len is_quotable bytes < length bytes → get_or bytes (prefix_len is_quotable bytes) 0 ≡ 34
    → IsLongest is_quotation bytes (suc (prefix_len is_quotable bytes))
quotation_front [] within quote = absurd (omega arith)
quotation_front (b ∷ bs) within quote = front_by b bs (is_quotable b) refl within quote (quotation_front bs)

-- what may stand in a string is no quote
quotable_is_no_quote : (b : ℕ) → is_quotable b ≡ true → (b == 34) ≡ false
quotable_is_no_quote b goes = not-true (b == 34) (and_parts (not (b == 34)) _ goes).0

-- no quote in front
no_quote : (b : ℕ) (bs : List ℕ) → (b == 34) ≡ false → ((m : ℕ) → (is_quotable b && is_quotation (take m bs)) ≡ false) → NoFront is_quotation (b ∷ bs)
no_quote b [] other rest = record { none = none }
  where
    none : (m : ℕ) → is_quotation (take m (b ∷ [])) ≡ false
    none zero = refl
    none (suc zero) = other
    none (suc (suc m)) = other
no_quote b (c ∷ cs) other rest = record { none = none }
  where
    none : (m : ℕ) → is_quotation (take m (b ∷ (c ∷ cs))) ≡ false
    none zero = refl
    none (suc zero) = other
    none (suc (suc m)) = rest (suc m)

none_by : (b : ℕ) (bs : List ℕ) (t : Bool) → is_quotable b ≡ t
    → (cond t (1 + prefix_len is_quotable bs) 0 < suc (length bs) → get_or (b ∷ bs) (cond t (1 + prefix_len is_quotable bs) 0) 0 ≡ 34 → ⊥)
    → ((prefix_len is_quotable bs < length bs → get_or bs (prefix_len is_quotable bs) 0 ≡ 34 → ⊥) → NoFront is_quotation bs)
    → NoFront is_quotation (b ∷ bs)
none_by b bs false stops other rest = no_quote b bs (ne_eqb b 34 (other (omega arith))) (λ m. and_left (is_quotable b) _ stops)
none_by b bs true goes other rest =
    let behind : NoFront is_quotation bs = rest (λ within quote. other (omega arith) (rw one-add quote)) in
    no_quote b bs (quotable_is_no_quote b goes) (λ m. and_right (is_quotable b) _ (behind.none m))

-- something else behind what may stand in a string
pub quotation_none : (bytes : List ℕ) → (prefix_len is_quotable bytes < length bytes → get_or bytes (prefix_len is_quotable bytes) 0 ≡ 34 → ⊥) → NoFront is_quotation bytes
quotation_none [] other = record { none = none }
  where
    none : (m : ℕ) → is_quotation (take m []) ≡ false
    none zero = refl
    none (suc m) = refl
quotation_none (b ∷ bs) other = none_by b bs (is_quotable b) refl other (quotation_none bs)
