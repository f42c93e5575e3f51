-- Texts of tokens, and texts that a test tells apart.
use Rattle.std.proofs.Common.{◌≡◌, ◌≤◌, ◌-◌, ℕ, suc, Bool, false, List, [], ◌∷◌, length, get_or, slice_range, refl, sym, ap, ◌∙◌, arith}
use Rattle.ms_lex.specs.declared.token.Token.{Token}
use Rattle.ms_grammar.specs.Parts.{end_of, kept_text}
use Rattle.std.specs.Str.{bytes_eq}
use Rattle.std.specs.Cmp.Lexicographic.{other_text}

-- what a comparison says that failed, of texts that are known
pub other : {s t v w : List ℕ} {r : Bool} → s ≡ v → t ≡ w → r ≡ bytes_eq s t → r ≡ false → v ≡ w → ⊥
other {s} {t} e f told fails g = other_text s t (sym fails ∙ told) (e ∙ g ∙ sym f)

last_end : (t : Token) (ts : List Token) (d : Token) → (get_or (t ∷ ts) (length ts) d).to ≡ end_of t ts
last_end t [] d = refl
last_end t (u ∷ us) d = last_end u us d

-- the kept text of tokens ends where the last of them ends
pub over : (line : List ℕ) (ts : List Token) (d e : Token) → 1 ≤ length ts →
    slice_range line (get_or ts 0 d).from (get_or ts (length ts - 1) e).to ≡ kept_text line ts
over line [] d e some = absurd (omega arith)
over line (t ∷ ts) d e some =
    let last : suc (length ts) - 1 ≡ length ts = omega arith in
    ap (λ n. slice_range line t.from (get_or (t ∷ ts) n e).to) last ∙ ap (slice_range line t.from) (last_end t ts e)
