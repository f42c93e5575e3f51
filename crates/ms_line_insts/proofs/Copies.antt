-- The pointers and the length of a memcpy.
use Rattle.std.proofs.Common.{ℕ, List, ◌∷◌, ◌++◌, ap, ◌∙◌, Result, Ok, Err}
use Rattle.std.specs.Prelude.{IfOk, MatchOption, Option, Some, None}
use Rattle.ms_lex.specs.declared.token.Token.{Token}
use Rattle.ms_grammar.specs.Parts.{blank}
use Rattle.ms_grammar.specs.Form.{arg_parts, end_parts}
use Rattle.ms_grammar.specs.declared.line.RawArg.{RawArg}
use Rattle.ms_line_insts.specs.Front.{Spelt, Front, NoFrontIf, FrontIf, Ahead, Always, Leads}
use Rattle.ms_line_insts.specs.ListFronts.{behind_comma}
use Rattle.ms_line_insts.specs.CallFronts.{BeginsMark, IsPointerArg, ArePointers, pointers_parts, copy_start_parts, IsCopyFront, copy_front_parts, copy_flag_parts}
use Rattle.ms_line_insts.proofs.ArgLemmas.{comma_marks}

pub pointers_found : (line : List ℕ) (tokens mid rest : List Token) (to from : RawArg) → FrontIf (BeginsMark line) IsPointerArg arg_parts line tokens to mid →
    FrontIf (BeginsMark line) IsPointerArg (behind_comma arg_parts) line mid from rest → Ahead (BeginsMark line) ArePointers pointers_parts line tokens (to, from) rest
pointers_found line tokens mid rest to from a b = record {
  fits = (a.fits, b.fits);
  owned = b.owned;
  on = λ ps h. a.on (behind_comma arg_parts from ++ ps) (b.on ps h);
  back = λ y ps marks g h.
      let k = a.back y.0 (behind_comma arg_parts y.1 ++ ps) (comma_marks line (blank ∷ arg_parts y.1 ++ ps)) g.0 h in
      let l = b.back y.1 ps marks g.1 k.further in
      record { same = ap (λ (z : RawArg). (z, y.1)) k.same ∙ ap (λ (z : RawArg). (to, z)) l.same; further = l.further };
}

pub pointers_none : (line : List ℕ) (tokens mid : List Token) (to : RawArg) → FrontIf (BeginsMark line) IsPointerArg arg_parts line tokens to mid →
    NoFrontIf (BeginsMark line) IsPointerArg (behind_comma arg_parts) line mid → NoFrontIf (BeginsMark line) ArePointers pointers_parts line tokens
pointers_none line tokens mid to a none y ps marks g h =
    none y.1 ps marks g.1 (a.back y.0 (behind_comma arg_parts y.1 ++ ps) (comma_marks line (blank ∷ arg_parts y.1 ++ ps)) g.0 h).further

pub copy_front_found : (line : List ℕ) (tokens mid rest : List Token) (head : List ℕ) (pointers : RawArg × RawArg) → Front Always copy_start_parts line tokens head mid →
    Ahead (BeginsMark line) ArePointers pointers_parts line mid pointers rest → Ahead (BeginsMark line) IsCopyFront copy_front_parts line tokens (head, pointers) rest
copy_front_found line tokens mid rest head pointers a b = record {
  fits = b.fits;
  owned = b.owned;
  on = λ ps h. a.on (pointers_parts pointers ++ ps) (b.on ps h);
  back = λ y ps marks g h.
      let k = a.back y.0 (pointers_parts y.1 ++ ps) tt h in
      let l = b.back y.1 ps marks g k.further in
      record { same = ap (λ (z : List ℕ). (z, y.1)) k.same ∙ ap (λ (z : RawArg × RawArg). (head, z)) l.same; further = l.further };
}

pub copy_front_none : (line : List ℕ) (tokens mid : List Token) (head : List ℕ) → Front Always copy_start_parts line tokens head mid →
    NoFrontIf (BeginsMark line) ArePointers pointers_parts line mid → NoFrontIf (BeginsMark line) IsCopyFront copy_front_parts line tokens
copy_front_none line tokens mid head a none y ps marks g h = none y.1 ps marks g (a.back y.0 (pointers_parts y.1 ++ ps) tt h).further

-- what is kept behind a flag, of what a call gave
pub read_end : {E : Type 0} (line : List ℕ) (tokens mid : List Token) (r : Result (Option (List ℕ × List ℕ)) E) → Leads copy_flag_parts line tokens mid →
    IfOk r (λ found. MatchOption found ((behind rest : List ℕ) → Spelt line mid (end_parts behind rest) → ⊥) (λ f. Spelt line mid (end_parts f.0 f.1))) →
    IfOk r (λ found. MatchOption found ((behind rest : List ℕ) → Spelt line tokens (copy_flag_parts ++ end_parts behind rest) → ⊥) (λ f. Spelt line tokens (copy_flag_parts ++ end_parts f.0 f.1)))
read_end line tokens mid (Err e) a h = tt
read_end line tokens mid (Ok None) a none = λ behind rest h. none behind rest (a.back (end_parts behind rest) h)
read_end line tokens mid (Ok (Some f)) a h = a.on (end_parts f.0 f.1) h
