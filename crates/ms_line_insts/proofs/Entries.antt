-- The entries of a phi.
use Rattle.std.proofs.Common.{◌≡◌, ℕ, true, List, [], ◌∷◌, ◌++◌, ap, ◌∙◌, arith, inl, inr}
use Rattle.std.specs.Str.{bytes_eq}
use Rattle.ms_lex.specs.declared.token.Token.{Token}
use Rattle.ms_ir.specs.declared.names.Ty.{Ty}
use Rattle.ms_grammar.specs.Words.{spelling}
use Rattle.ms_grammar.specs.Parts.{Part, blank, kept, tail, Spells, texts}
use Rattle.ms_grammar.specs.Form.{word_part, value_part, local_part, entry_parts}
use Rattle.ms_grammar.specs.Fits.{IsNamed, IsValue, IsEntryOf}
use Rattle.ms_grammar.specs.declared.line.RawEntry.{RawEntry}
use Rattle.ms_grammar.specs.declared.line.RawVal.{RawVal}
use Rattle.ms_ir.specs.declared.names.Name.{Name}
use Rattle.ms_grammar.specs.declared.keyword.Keyword.TheVariants as word
use Rattle.ms_grammar.proofs.Steps.{same, one_of}
use Rattle.ms_grammar.proofs.Both.{starts_with, skip_blank}
use Rattle.ms_grammar.proofs.Tails.{BeginsTail, tail_second}
use Rattle.ms_grammar.proofs.Insts.{rest_tail}
use Rattle.ms_line_insts.specs.Front.{Spelt, NoLead, Leads, NoFront, Front, NoFrontIf, FrontIf, Always}
use Rattle.ms_line_insts.specs.ListFronts.{IsTail, behind_comma, entry_value_parts, entry_block_parts, entry_close_parts}
use Rattle.ms_line_insts.proofs.Fronts.{blank_on, blank_off}
use Rattle.ms_line_insts.proofs.Lists.{of_parts, themselves, spelt_themselves}

pub always_if : {X : Type 0} (Fits : X → Type 0) (parts : X → List Part) (line : List ℕ) (tokens : List Token) (x : X) (rest : List Token) →
    Front Fits parts line tokens x rest → FrontIf Always Fits parts line tokens x rest
always_if Fits parts line tokens x rest a =
    record { fits = a.fits; owned = a.owned; shorter = a.shorter; on = a.on; back = λ y ps next g h. a.back y ps g h }

pub never_if : {X : Type 0} (Fits : X → Type 0) (parts : X → List Part) (line : List ℕ) (tokens : List Token) → NoFront Fits parts line tokens → NoFrontIf Always Fits parts line tokens
never_if Fits parts line tokens none x ps next g h = none x ps g h

square_no_tail : BeginsTail (spelling word.OpenSquare) → ⊥
unfolding spelling
square_no_tail (inl e) = let told : bytes_eq (spelling word.OpenSquare) (spelling word.Align) ≡ true = same (spelling word.OpenSquare) (spelling word.Align) e in cc
square_no_tail (inr e) = cc

tail_no_entry : (line : List ℕ) (tokens : List Token) (u : List ℕ) (ps : List Part) → Spells line tokens (kept tail u ∷ []) →
    Spells line tokens (word_part word.Comma ∷ blank ∷ word_part word.OpenSquare ∷ ps) → ⊥
tail_no_entry line tokens u ps t h =
    let comma = one_of line tokens h.0 h.1 (spelling word.Comma) h.2 h.3 in
    let second = starts_with line h.1 (spelling word.OpenSquare) ps (skip_blank line h.1 (word_part word.OpenSquare ∷ ps) h.4) in
    let shown : texts line tokens ≡ spelling word.Comma ∷ spelling word.OpenSquare ∷ second.0 =
    ap (λ ts. texts line ts) comma.whole ∙ ap (λ c. c ∷ texts line h.1) comma.bytes ∙ ap (λ ts. spelling word.Comma ∷ ts) second.1 in
    square_no_tail (tail_second (texts line tokens) (spelling word.Comma) (spelling word.OpenSquare) second.0 (rest_tail line tokens u t) shown)

-- a tail is no further entry
pub entry_no_end : (line : List ℕ) (tokens : List Token) (ty : Ty) (x : RawEntry) (rest : List Token) → Front (IsEntryOf ty) (behind_comma entry_parts) line tokens x rest →
    (ps : List Part) → IsTail ps → Spelt line tokens ps → ⊥
entry_no_end line tokens ty x rest a ps end h =
    let t = of_parts line tokens ps (kept tail end.0 ∷ []) end.1 h in
    let whole = a.on (themselves line rest) (spelt_themselves line rest) in
    tail_no_entry line tokens end.0 (blank ∷ value_part x.val ∷ word_part word.Comma ∷ blank ∷ local_part x.from ∷ blank ∷ word_part word.CloseSquare ∷ themselves line rest) t.spells whole.spells

-- the parts of an entry
pub close_found : (line : List ℕ) (tokens at rest : List Token) (n : Name) → Front IsNamed entry_block_parts line tokens n at → Leads (word_part word.CloseSquare ∷ []) line at rest →
    Front IsNamed entry_close_parts line tokens n rest
close_found line tokens at rest n a b = record {
  fits = a.fits;
  owned = b.owned;
  shorter = let one = a.shorter in let two = b.shorter in omega arith;
  on = λ ps h. a.on (blank ∷ word_part word.CloseSquare ∷ ps) (blank_on line at (word_part word.CloseSquare ∷ ps) (b.on ps h));
  back = λ y ps g h.
      let k = a.back y (blank ∷ word_part word.CloseSquare ∷ ps) g h in
      record { same = k.same; further = b.back ps (blank_off line at (word_part word.CloseSquare ∷ ps) k.further) };
}

pub close_none : (line : List ℕ) (tokens at : List Token) (n : Name) → Front IsNamed entry_block_parts line tokens n at → NoLead (word_part word.CloseSquare ∷ []) line at →
    NoFront IsNamed entry_close_parts line tokens
close_none line tokens at n a none y ps g h =
    none ps (blank_off line at (word_part word.CloseSquare ∷ ps) (a.back y (blank ∷ word_part word.CloseSquare ∷ ps) g h).further)

pub entry_found : (ty : Ty) (line : List ℕ) (tokens mid rest : List Token) (v : RawVal) (n : Name) → Front (IsValue ty) entry_value_parts line tokens v mid →
    Front IsNamed entry_close_parts line mid n rest → Front (IsEntryOf ty) entry_parts line tokens (record { val = v; from = n }) rest
entry_found ty line tokens mid rest v n a b = record {
  fits = (a.fits, b.fits);
  owned = b.owned;
  shorter = let one = a.shorter in let two = b.shorter in omega arith;
  on = λ ps h. a.on (entry_close_parts n ++ ps) (b.on ps h);
  back = λ y ps g h.
      let k = a.back y.val (entry_close_parts y.from ++ ps) g.0 h in
      let l = b.back y.from ps g.1 k.further in
      record { same = ap (λ (z : RawVal). record { val = z; from = y.from }) k.same ∙ ap (λ (z : Name). record { val = v; from = z }) l.same; further = l.further };
}

pub entry_none : (ty : Ty) (line : List ℕ) (tokens mid : List Token) (v : RawVal) → Front (IsValue ty) entry_value_parts line tokens v mid →
    NoFront IsNamed entry_close_parts line mid → NoFront (IsEntryOf ty) entry_parts line tokens
entry_none ty line tokens mid v a none y ps g h = none y.from ps g.1 (a.back y.val (entry_close_parts y.from ++ ps) g.0 h).further
