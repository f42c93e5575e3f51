-- Texts in the places of percent signs. Numbers have none, so they may be put there before the other texts are.
use Rattle.std.proofs.Common.{◌≡◌, ◌==◌, ◌^◌, ◌-◌, ◌+◌, ◌/◌, ◌%◌, ℕ, zero, suc, Bool, true, false, List, [], ◌∷◌, ◌++◌, if◌then◌else◌, nat_lt, map, filter, decimal, refl, sym, ap, ◌∙◌, arith, ne_eqb}
use Rattle.std.specs.Fmt.{digits, digits_onto, digit_glyph}
use Rattle.ms_ir.specs.declared.names.Ty.{Ty}
use Rattle.ms_ir.specs.declared.names.Ty.TheVariants.{I1, I8, I16, I32, I64, Ptr}
use Rattle.ms_ir.specs.declared.inst.Val.{Val}
use Rattle.ms_ir.specs.declared.inst.Val.TheVariants.{Num, Local, Global}
use Rattle.ms_ir.specs.declared.inst.IndexTerm.{IndexTerm}
use Rattle.ms_grammar.specs.Words.{spelling}
use Rattle.ms_grammar.specs.Numbers.{signed_text, number_text}
use Rattle.ms_grammar.specs.Kept.{Each}
use Rattle.ms_grammar.specs.Parts.{filled}
use Rattle.ms_grammar.specs.Form.{index_text}
use Rattle.ms_grammar.specs.declared.keyword.Keyword.TheVariants as word
use Rattle.ms_print.specs.Lines.{Shown, raw_index}
use Rattle.ms_again.specs.Ordered.{is_open, kept_term}

-- how a text is filled, byte by byte
filled_none : (ts : List (List ℕ)) → filled ts [] ≡ []
filled_none [] = refl
filled_none (t ∷ ts) = refl

filled_else : (ts : List (List ℕ)) (b : ℕ) (bs : List ℕ) → (b == 37) ≡ false → filled ts (b ∷ bs) ≡ b ∷ filled ts bs
filled_else [] b bs e = refl
filled_else (t ∷ ts) b bs e = ap (λ (c : Bool). if c then t ++ filled ts bs else b ∷ filled (t ∷ ts) bs) e

filled_mark : (t : List ℕ) (ts : List (List ℕ)) (b : ℕ) (bs : List ℕ) → (b == 37) ≡ true → filled (t ∷ ts) (b ∷ bs) ≡ t ++ filled ts bs
filled_mark t ts b bs e = ap (λ (c : Bool). if c then t ++ filled ts bs else b ∷ filled (t ∷ ts) bs) e

-- bytes without a percent sign
abbrev IsUnmarked : List ℕ → Type 0
IsUnmarked s = Each (λ b. (b == 37) ≡ false) s

filled_behind : (ts : List (List ℕ)) (s rest : List ℕ) → IsUnmarked s → filled ts (s ++ rest) ≡ s ++ filled ts rest
filled_behind ts [] rest h = refl
filled_behind ts (b ∷ bs) rest h = filled_else ts b (bs ++ rest) h.0 ∙ ap (λ (x : List ℕ). b ∷ x) (filled_behind ts bs rest h.1)

-- numbers
glyph_unmarked : (d : ℕ) → (digit_glyph false d == 37) ≡ false
glyph_unmarked d = by (nat_lt d 10)
  where
    by : (t : Bool) → ((if t then 48 + d else 87 + d) == 37) ≡ false
    by true = ne_eqb (48 + d) 37 (λ e. omega arith)
    by false = ne_eqb (87 + d) 37 (λ e. omega arith)

digits_unmarked : (k n : ℕ) (acc : List ℕ) → IsUnmarked acc → IsUnmarked (digits_onto k 10 false n acc)
digits_unmarked zero n acc h = h
digits_unmarked (suc k) n acc h = by (n / 10 == 0) (digits_unmarked k (n / 10) (digit_glyph false (n % 10) ∷ acc) (glyph_unmarked (n % 10), h))
  where
    by : (t : Bool) → IsUnmarked (digits_onto k 10 false (n / 10) (digit_glyph false (n % 10) ∷ acc))
        → IsUnmarked (if t then digit_glyph false (n % 10) ∷ acc else digits_onto k 10 false (n / 10) (digit_glyph false (n % 10) ∷ acc))
    by true more = (glyph_unmarked (n % 10), h)
    by false more = more

decimal_unmarked : (n : ℕ) → IsUnmarked (decimal n)
unfolding digits
decimal_unmarked n = digits_unmarked 64 n [] tt

signed_unmarked : (m n : ℕ) → IsUnmarked (signed_text m n)
signed_unmarked m n = by (nat_lt n (2 ^ (m - 1)))
  where
    by : (t : Bool) → IsUnmarked (if t then decimal n else 45 ∷ decimal (2 ^ m - n))
    by true = decimal_unmarked n
    by false = (refl, decimal_unmarked (2 ^ m - n))

truth_unmarked : (t : Bool) → IsUnmarked (if t then spelling word.False else spelling word.True)
unfolding spelling
truth_unmarked true = (refl, (refl, (refl, (refl, (refl, tt)))))
truth_unmarked false = (refl, (refl, (refl, (refl, tt))))

number_unmarked : (ty : Ty) (n : ℕ) → IsUnmarked (number_text ty n)
number_unmarked I1 n = truth_unmarked (n == 0)
number_unmarked I8 n = signed_unmarked 8 n
number_unmarked I16 n = signed_unmarked 16 n
number_unmarked I32 n = signed_unmarked 32 n
number_unmarked I64 n = signed_unmarked 64 n
number_unmarked Ptr n = tt

-- the texts of all terms, and of those that are no numbers
abbrev all_texts : Shown → List IndexTerm → List (List ℕ)
all_texts s terms = map index_text (map (raw_index s) terms)

abbrev open_texts : Shown → List IndexTerm → List (List ℕ)
open_texts s terms = all_texts s (filter is_open terms)

abbrev FillsTwice : Shown → List IndexTerm → List ℕ → Type 0
FillsTwice s terms index = filled (open_texts s terms) (filled (map kept_term terms) index) ≡ filled (all_texts s terms) index

-- numbers first, then the rest
pub filled_twice : (s : Shown) (terms : List IndexTerm) (index : List ℕ) → FillsTwice s terms index
filled_twice s [] index = refl
filled_twice s (t ∷ ts) [] = filled_none (open_texts s (t ∷ ts))
filled_twice s (t ∷ ts) (b ∷ bs) = by (b == 37) refl t.val t.ty t.scale (filled_twice s ts bs) (filled_twice s (t ∷ ts) bs)
  where
    some : Val → Ty → ℕ → List IndexTerm
    some v ty k = let x : IndexTerm = record { val = v; ty = ty; scale = k } in x ∷ ts

    by : (m : Bool) → (b == 37) ≡ m → (v : Val) (ty : Ty) (k : ℕ) → FillsTwice s ts bs → FillsTwice s (some v ty k) bs → FillsTwice s (some v ty k) (b ∷ bs)
    by false e v ty k one more =
        ap (λ (x : List ℕ). filled (open_texts s (some v ty k)) x) (filled_else (map kept_term (some v ty k)) b bs e)
        ∙ filled_else (open_texts s (some v ty k)) b (filled (map kept_term (some v ty k)) bs) e
        ∙ ap (λ (x : List ℕ). b ∷ x) more
        ∙ sym (filled_else (all_texts s (some v ty k)) b bs e)
    by true e (Num own n) ty k one more =
        ap (λ (x : List ℕ). filled (open_texts s ts) x) (filled_mark (number_text own n) (map kept_term ts) b bs e)
        ∙ filled_behind (open_texts s ts) (number_text own n) (filled (map kept_term ts) bs) (number_unmarked own n)
        ∙ ap (λ (x : List ℕ). number_text own n ++ x) one
        ∙ sym (filled_mark (number_text own n) (all_texts s ts) b bs e)
    by true e (Local l) ty k one more =
        let text : List ℕ = index_text (raw_index s (record { val = Local l; ty = ty; scale = k })) in
        ap (λ (x : List ℕ). filled (text ∷ open_texts s ts) x) (filled_mark (37 ∷ []) (map kept_term ts) b bs e)
        ∙ ap (λ (x : List ℕ). text ++ x) one
        ∙ sym (filled_mark text (all_texts s ts) b bs e)
    by true e (Global g) ty k one more =
        let text : List ℕ = index_text (raw_index s (record { val = Global g; ty = ty; scale = k })) in
        ap (λ (x : List ℕ). filled (text ∷ open_texts s ts) x) (filled_mark (37 ∷ []) (map kept_term ts) b bs e)
        ∙ ap (λ (x : List ℕ). text ++ x) one
        ∙ sym (filled_mark text (all_texts s ts) b bs e)
