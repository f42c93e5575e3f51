-- Flags in front of a type.
use Rattle.std.proofs.Common.{◌≡◌, ◌≢◌, ℕ, Bool, true, false, List, [], ◌∷◌, ◌++◌, ◌&&◌, None, refl, sym, ap, subst, ◌∙◌, inl, inr}
use mathlib.Core.Bool.{beq}
use Rattle.std.specs.Prelude.{All}
use Rattle.ms_ir.specs.declared.inst.Pred.{Pred}
use Rattle.ms_grammar.proofs.Opcodes.{predicate_no_samesign}
use Rattle.std.specs.Str.{bytes_eq}
use Rattle.ms_lex.specs.Line.{IsTokenOf}
use Rattle.ms_lex.specs.declared.token.Token.{Token}
use Rattle.ms_ir.specs.declared.names.Ty.{Ty}
use Rattle.ms_ir.specs.declared.inst.Op.{Op}
use Rattle.ms_ir.specs.declared.inst.Op.TheVariants.{Add, Sub, Mul, And, Or, Xor, Shl, Lshr, Ashr}
use Rattle.ms_ir.specs.declared.inst.CastOp.{CastOp}
use Rattle.ms_ir.specs.declared.inst.CastOp.TheVariants.{Zext, Sext, Trunc}
use Rattle.ms_ir.specs.declared.inst.Flags.{Flags}
use Rattle.ms_grammar.specs.Words.{spelling, type_word, predicate_word}
use Rattle.ms_grammar.specs.Reading.{type_of}
use Rattle.ms_grammar.specs.Parts.{Part, blank, token, flag, texts, bytes_at}
use Rattle.ms_grammar.specs.Form.{word_part, type_part}
use Rattle.ms_grammar.specs.Fits.{flags_of_op, flags_of_cast}
use Rattle.ms_grammar.specs.declared.keyword.Keyword.{Keyword}
use Rattle.ms_grammar.specs.declared.keyword.Keyword.TheVariants as word
use Rattle.ms_grammar.proofs.Steps.{tells, same}
use Rattle.ms_grammar.proofs.Words.{type_of_word}
use Rattle.ms_grammar.proofs.Both.{token_not_first, blank_not_first, flag_not_first, skip_flag}
use Rattle.ms_line_insts.specs.Front.{Spelt, NoLead, Leads, Behind}
use Rattle.ms_line_insts.specs.FlagFronts.{NotFirst, FlagAt, Flagged}
use Rattle.ms_line_insts.proofs.Fronts.{word_lead}

-- a flag that is not set is spelled by nothing
pub unset_on : (line : List ℕ) (tokens : List Token) (w : List ℕ) (ps : List Part) → Spelt line tokens ps → Spelt line tokens (flag w false ∷ ps)
unset_on line tokens w ps h = record { spells = ([], tokens, refl, refl, h.spells) }

pub unset_off : (line : List ℕ) (tokens : List Token) (w : List ℕ) (ps : List Part) → Spelt line tokens (flag w false ∷ ps) → Spelt line tokens ps
unset_off line tokens w ps h = record { spells = skip_flag line tokens w ps h.spells }

as_flag : (line : List ℕ) (tokens : List Token) (w : List ℕ) (ps : List Part) → Spelt line tokens (token w ∷ ps) → Spelt line tokens (flag w true ∷ ps)
as_flag line tokens w ps h = record { spells = h.spells }

as_token : (line : List ℕ) (tokens : List Token) (w : List ℕ) (ps : List Part) → Spelt line tokens (flag w true ∷ ps) → Spelt line tokens (token w ∷ ps)
as_token line tokens w ps h = record { spells = h.spells }

pub flag_set : (line : List ℕ) (tokens : List Token) (t : Token) (rest : List Token) (k : Keyword) → tokens ≡ t ∷ rest → All (IsTokenOf line) rest →
    bytes_eq (bytes_at line t) (spelling k) ≡ true → FlagAt (spelling k) line tokens true rest
flag_set line tokens t rest k e owned is =
    let lead = word_lead line tokens t rest k e owned is in
    record {
      owned = owned;
      on = λ ps h. as_flag line tokens (spelling k) ps (lead.on ps h);
      back = λ b ps unlike h. back lead b ps unlike h;
    }
  where
    first : texts line tokens ≡ spelling k ∷ texts line rest
    first =
        elim (tells (bytes_at line t) (spelling k)) [
          | inl told ↦ ap (λ ts. texts line ts) e ∙ ap (λ s. s ∷ texts line rest) told.1
          | inr told ↦ absurd (let unlike = told.0 in cc)
        ]

    back : Leads (word_part k ∷ []) line tokens rest → (b : Bool) (ps : List Part) → NotFirst line (spelling k) ps → Spelt line tokens (flag (spelling k) b ∷ ps) → Behind b true line rest ps
    back lead true ps unlike h = record { same = refl; further = lead.back ps (as_token line tokens (spelling k) ps h) }
    back lead false ps unlike h = absurd (unlike tokens (texts line rest) (unset_off line tokens (spelling k) ps h).spells first)

pub flag_unset : (line : List ℕ) (tokens : List Token) (k : Keyword) → All (IsTokenOf line) tokens → NoLead (word_part k ∷ []) line tokens → FlagAt (spelling k) line tokens false tokens
flag_unset line tokens k owned none = record {
  owned = owned;
  on = λ ps h. unset_on line tokens (spelling k) ps h;
  back = λ b ps unlike h. back b ps h;
}
  where
    back : (b : Bool) (ps : List Part) → Spelt line tokens (flag (spelling k) b ∷ ps) → Behind b false line tokens ps
    back true ps h = absurd (none ps (as_token line tokens (spelling k) ps h))
    back false ps h = record { same = refl; further = unset_off line tokens (spelling k) ps h }

apart : (s t : List ℕ) → bytes_eq s t ≡ false → s ≢ t
apart s t fails e = let passes = same s t e in cc

no_type : (ty : Ty) (s : List ℕ) → type_of s ≡ None → type_word ty ≢ s
no_type ty s none e = let first = type_of_word ty in let through : type_of (type_word ty) ≡ type_of s = ap (λ t. type_of t) e in cc

-- no flag stands behind one that comes later, or at a type
nuw_nneg : spelling word.Nuw ≢ spelling word.Nneg
unfolding spelling
nuw_nneg = apart (spelling word.Nuw) (spelling word.Nneg) refl

nsw_nneg : spelling word.Nsw ≢ spelling word.Nneg
unfolding spelling
nsw_nneg = apart (spelling word.Nsw) (spelling word.Nneg) refl

exact_nneg : spelling word.Exact ≢ spelling word.Nneg
unfolding spelling
exact_nneg = apart (spelling word.Exact) (spelling word.Nneg) refl

disjoint_nneg : spelling word.Disjoint ≢ spelling word.Nneg
unfolding spelling
disjoint_nneg = apart (spelling word.Disjoint) (spelling word.Nneg) refl

nsw_nuw : spelling word.Nsw ≢ spelling word.Nuw
unfolding spelling
nsw_nuw = apart (spelling word.Nsw) (spelling word.Nuw) refl

exact_nuw : spelling word.Exact ≢ spelling word.Nuw
unfolding spelling
exact_nuw = apart (spelling word.Exact) (spelling word.Nuw) refl

disjoint_nuw : spelling word.Disjoint ≢ spelling word.Nuw
unfolding spelling
disjoint_nuw = apart (spelling word.Disjoint) (spelling word.Nuw) refl

exact_nsw : spelling word.Exact ≢ spelling word.Nsw
unfolding spelling
exact_nsw = apart (spelling word.Exact) (spelling word.Nsw) refl

disjoint_nsw : spelling word.Disjoint ≢ spelling word.Nsw
unfolding spelling
disjoint_nsw = apart (spelling word.Disjoint) (spelling word.Nsw) refl

disjoint_exact : spelling word.Disjoint ≢ spelling word.Exact
unfolding spelling
disjoint_exact = apart (spelling word.Disjoint) (spelling word.Exact) refl

type_nneg : (ty : Ty) → type_word ty ≢ spelling word.Nneg
unfolding type_of type_word spelling
type_nneg ty = no_type ty (spelling word.Nneg) refl

type_nuw : (ty : Ty) → type_word ty ≢ spelling word.Nuw
unfolding type_of type_word spelling
type_nuw ty = no_type ty (spelling word.Nuw) refl

type_nsw : (ty : Ty) → type_word ty ≢ spelling word.Nsw
unfolding type_of type_word spelling
type_nsw ty = no_type ty (spelling word.Nsw) refl

type_exact : (ty : Ty) → type_word ty ≢ spelling word.Exact
unfolding type_of type_word spelling
type_exact ty = no_type ty (spelling word.Exact) refl

type_disjoint : (ty : Ty) → type_word ty ≢ spelling word.Disjoint
unfolding type_of type_word spelling
type_disjoint ty = no_type ty (spelling word.Disjoint) refl

at_type : (line w : List ℕ) (ty : Ty) (ps : List Part) → type_word ty ≢ w → NotFirst line w (blank ∷ type_part ty ∷ ps)
at_type line w ty ps unlike = blank_not_first line w (type_part ty ∷ ps) (token_not_first line w (type_word ty) ps unlike)

flags_are : (f : Flags) (a b c d e : Bool) → f.nneg ≡ a → f.nuw ≡ b → f.nsw ≡ c → f.exact ≡ d → f.disjoint ≡ e → f.samesign ≡ false →
    f ≡ record { nsw = c; nuw = b; exact = d; disjoint = e; nneg = a; samesign = false }
flags_are f a b c d e p q r s t u =
    ap (λ x. record f { nneg = x }) p ∙ ap (λ x. record f { nneg = a; nuw = x }) q ∙ ap (λ x. record f { nneg = a; nuw = b; nsw = x }) r
    ∙ ap (λ x. record f { nneg = a; nuw = b; nsw = c; exact = x }) s ∙ ap (λ x. record f { nneg = a; nuw = b; nsw = c; exact = d; disjoint = x }) t
    ∙ ap (λ x. record f { nneg = a; nuw = b; nsw = c; exact = d; disjoint = e; samesign = x }) u

pub all_found : (line : List ℕ) (t0 t1 t2 t3 t4 t5 : List Token) (a b c d e : Bool) → FlagAt (spelling word.Nneg) line t0 a t1 → FlagAt (spelling word.Nuw) line t1 b t2 →
    FlagAt (spelling word.Nsw) line t2 c t3 → FlagAt (spelling word.Exact) line t3 d t4 → FlagAt (spelling word.Disjoint) line t4 e t5 →
    Flagged line t0 (record { nsw = c; nuw = b; exact = d; disjoint = e; nneg = a; samesign = false }) t5
all_found line t0 t1 t2 t3 t4 t5 a b c d e p q r s t = record {
  owned = t.owned;
  no_sign = refl;
  on = λ ps h. p.on _ (q.on _ (r.on _ (s.on _ (t.on ps h))));
  back = λ f ty ps sign h.
      let end : List Part = blank ∷ type_part ty ∷ ps in
      let w4 : List Part = flag (spelling word.Disjoint) f.disjoint ∷ end in
      let w3 : List Part = flag (spelling word.Exact) f.exact ∷ w4 in
      let w2 : List Part = flag (spelling word.Nsw) f.nsw ∷ w3 in
      let w1 : List Part = flag (spelling word.Nuw) f.nuw ∷ w2 in
      let x1 = p.back f.nneg w1
      (flag_not_first line (spelling word.Nneg) (spelling word.Nuw) f.nuw w2 nuw_nneg (flag_not_first line (spelling word.Nneg) (spelling word.Nsw) f.nsw w3 nsw_nneg
      (flag_not_first line (spelling word.Nneg) (spelling word.Exact) f.exact w4 exact_nneg (flag_not_first line (spelling word.Nneg) (spelling word.Disjoint) f.disjoint end disjoint_nneg
      (at_type line (spelling word.Nneg) ty ps (type_nneg ty)))))) h in
      let x2 = q.back f.nuw w2
      (flag_not_first line (spelling word.Nuw) (spelling word.Nsw) f.nsw w3 nsw_nuw (flag_not_first line (spelling word.Nuw) (spelling word.Exact) f.exact w4 exact_nuw
      (flag_not_first line (spelling word.Nuw) (spelling word.Disjoint) f.disjoint end disjoint_nuw (at_type line (spelling word.Nuw) ty ps (type_nuw ty))))) x1.further in
      let x3 = r.back f.nsw w3
      (flag_not_first line (spelling word.Nsw) (spelling word.Exact) f.exact w4 exact_nsw (flag_not_first line (spelling word.Nsw) (spelling word.Disjoint) f.disjoint end disjoint_nsw
      (at_type line (spelling word.Nsw) ty ps (type_nsw ty)))) x2.further in
      let x4 = s.back f.exact w4
      (flag_not_first line (spelling word.Exact) (spelling word.Disjoint) f.disjoint end disjoint_exact (at_type line (spelling word.Exact) ty ps (type_exact ty))) x3.further in
      let x5 = t.back f.disjoint end (at_type line (spelling word.Disjoint) ty ps (type_disjoint ty)) x4.further in
      record { same = flags_are f a b c d e x1.same x2.same x3.same x4.same x5.same sign; further = x5.further };
}

-- the flags of an operation
op_plain : (op : Op) (f : Flags) → f ≡ flags_of_op op f → (f.nneg ≡ false) × (f.samesign ≡ false)
op_plain Add f e = (ap (λ g. g.nneg) e, ap (λ g. g.samesign) e)
op_plain Sub f e = (ap (λ g. g.nneg) e, ap (λ g. g.samesign) e)
op_plain Mul f e = (ap (λ g. g.nneg) e, ap (λ g. g.samesign) e)
op_plain And f e = (ap (λ g. g.nneg) e, ap (λ g. g.samesign) e)
op_plain Or f e = (ap (λ g. g.nneg) e, ap (λ g. g.samesign) e)
op_plain Xor f e = (ap (λ g. g.nneg) e, ap (λ g. g.samesign) e)
op_plain Shl f e = (ap (λ g. g.nneg) e, ap (λ g. g.samesign) e)
op_plain Lshr f e = (ap (λ g. g.nneg) e, ap (λ g. g.samesign) e)
op_plain Ashr f e = (ap (λ g. g.nneg) e, ap (λ g. g.samesign) e)

-- the flags of a cast
cast_plain : (op : CastOp) (f : Flags) → f ≡ flags_of_cast op f → (f.exact ≡ false) × (f.disjoint ≡ false) × (f.samesign ≡ false)
cast_plain Zext f e = (ap (λ g. g.exact) e, ap (λ g. g.disjoint) e, ap (λ g. g.samesign) e)
cast_plain Sext f e = (ap (λ g. g.exact) e, ap (λ g. g.disjoint) e, ap (λ g. g.samesign) e)
cast_plain Trunc f e = (ap (λ g. g.exact) e, ap (λ g. g.disjoint) e, ap (λ g. g.samesign) e)

abbrev pub op_flags : Flags → List Part
op_flags f = flag (spelling word.Nuw) f.nuw ∷ flag (spelling word.Nsw) f.nsw ∷ flag (spelling word.Exact) f.exact ∷ flag (spelling word.Disjoint) f.disjoint ∷ []

abbrev pub cast_flags : Flags → List Part
cast_flags f = flag (spelling word.Nneg) f.nneg ∷ flag (spelling word.Nuw) f.nuw ∷ flag (spelling word.Nsw) f.nsw ∷ []

pub op_flags_back : (line : List ℕ) (tokens rest : List Token) (found : Flags) (op : Op) (f : Flags) (ty : Ty) (ps : List Part) → Flagged line tokens found rest → f ≡ flags_of_op op f →
    Spelt line tokens (op_flags f ++ blank ∷ type_part ty ∷ ps) → Behind f found line rest (blank ∷ type_part ty ∷ ps)
op_flags_back line tokens rest found op f ty ps a e h =
    let plain = op_plain op f e in
    a.back f ty ps plain.1
    (subst (λ b. Spelt line tokens (flag (spelling word.Nneg) b ∷ op_flags f ++ blank ∷ type_part ty ∷ ps)) (sym plain.0) (unset_on line tokens (spelling word.Nneg) (op_flags f ++ blank ∷ type_part ty ∷ ps) h))

pub op_flags_on : (line : List ℕ) (tokens rest : List Token) (found : Flags) (op : Op) (ps : List Part) → Flagged line tokens found rest → found ≡ flags_of_op op found →
    Spelt line rest ps → Spelt line tokens (op_flags found ++ ps)
op_flags_on line tokens rest found op ps a e h =
    unset_off line tokens (spelling word.Nneg) (op_flags found ++ ps)
    (subst (λ b. Spelt line tokens (flag (spelling word.Nneg) b ∷ op_flags found ++ ps)) (op_plain op found e).0 (a.on ps h))

-- two flags more, which are not set
abbrev two_more : Bool → Bool → Flags → List Part → List Part
two_more d e f ps = cast_flags f ++ flag (spelling word.Exact) d ∷ flag (spelling word.Disjoint) e ∷ ps

widen : (line : List ℕ) (tokens : List Token) (f : Flags) (ps : List Part) → Spelt line tokens (cast_flags f ++ ps) → Spelt line tokens (two_more false false f ps)
widen line tokens f ps h =
    let s = h.spells in
    let end = unset_on line s.4.4.1 (spelling word.Exact) (flag (spelling word.Disjoint) false ∷ ps) (unset_on line s.4.4.1 (spelling word.Disjoint) ps (record { spells = s.4.4.4 })) in
    record { spells = (s.0, s.1, s.2, s.3, (s.4.0, s.4.1, s.4.2, s.4.3, (s.4.4.0, s.4.4.1, s.4.4.2, s.4.4.3, end.spells))) }

narrow : (line : List ℕ) (tokens : List Token) (f : Flags) (ps : List Part) → Spelt line tokens (two_more false false f ps) → Spelt line tokens (cast_flags f ++ ps)
narrow line tokens f ps h =
    let s = h.spells in
    let end = unset_off line s.4.4.1 (spelling word.Disjoint) ps (unset_off line s.4.4.1 (spelling word.Exact) (flag (spelling word.Disjoint) false ∷ ps) (record { spells = s.4.4.4 })) in
    record { spells = (s.0, s.1, s.2, s.3, (s.4.0, s.4.1, s.4.2, s.4.3, (s.4.4.0, s.4.4.1, s.4.4.2, s.4.4.3, end.spells))) }

pub cast_flags_back : (line : List ℕ) (tokens rest : List Token) (found : Flags) (op : CastOp) (f : Flags) (ty : Ty) (ps : List Part) → Flagged line tokens found rest → f ≡ flags_of_cast op f →
    Spelt line tokens (cast_flags f ++ blank ∷ type_part ty ∷ ps) → Behind f found line rest (blank ∷ type_part ty ∷ ps)
cast_flags_back line tokens rest found op f ty ps a e h =
    let plain = cast_plain op f e in
    let wide = widen line tokens f (blank ∷ type_part ty ∷ ps) h in
    a.back f ty ps plain.2
    (subst (λ d. Spelt line tokens (two_more d f.disjoint f (blank ∷ type_part ty ∷ ps))) (sym plain.0)
    (subst (λ d. Spelt line tokens (two_more false d f (blank ∷ type_part ty ∷ ps))) (sym plain.1) wide))

pub cast_flags_on : (line : List ℕ) (tokens rest : List Token) (found : Flags) (op : CastOp) (ps : List Part) → Flagged line tokens found rest → found ≡ flags_of_cast op found →
    Spelt line rest ps → Spelt line tokens (cast_flags found ++ ps)
cast_flags_on line tokens rest found op ps a e h =
    let plain = cast_plain op found e in
    narrow line tokens found ps
    (subst (λ d. Spelt line tokens (two_more false d found ps)) plain.1 (subst (λ d. Spelt line tokens (two_more d found.disjoint found ps)) plain.0 (a.on ps h)))

-- the sign of a comparison
pub sign_back : (line : List ℕ) (tokens rest : List Token) (set b : Bool) (pred : Pred) (ps : List Part) → FlagAt (spelling word.Samesign) line tokens set rest →
    Spelt line tokens (flag (spelling word.Samesign) b ∷ blank ∷ token (predicate_word pred) ∷ ps) → Behind b set line rest (blank ∷ token (predicate_word pred) ∷ ps)
sign_back line tokens rest set b pred ps a h =
    a.back b (blank ∷ token (predicate_word pred) ∷ ps)
    (blank_not_first line (spelling word.Samesign) (token (predicate_word pred) ∷ ps) (token_not_first line (spelling word.Samesign) (predicate_word pred) ps (predicate_no_samesign pred))) h

-- flags are told by their parts
same_bool : (x y : Bool) → beq x y ≡ true → x ≡ y
same_bool true true e = refl
same_bool true false e = absurd (cc)
same_bool false true e = absurd (cc)
same_bool false false e = refl

both_true : (x y : Bool) → x && y ≡ true → (x ≡ true) × (y ≡ true)
both_true true y e = (refl, e)
both_true false y e = absurd (cc)

pub flags_same : (a b : Flags) →
    beq a.nsw b.nsw && (beq a.nuw b.nuw && (beq a.exact b.exact && (beq a.disjoint b.disjoint && (beq a.nneg b.nneg && beq a.samesign b.samesign)))) ≡ true → a ≡ b
flags_same a b e =
    let p = both_true _ _ e in
    let q = both_true _ _ p.1 in
    let r = both_true _ _ q.1 in
    let s = both_true _ _ r.1 in
    let t = both_true _ _ s.1 in
    ap (λ x. record a { nsw = x }) (same_bool a.nsw b.nsw p.0) ∙ ap (λ x. record a { nsw = b.nsw; nuw = x }) (same_bool a.nuw b.nuw q.0)
    ∙ ap (λ x. record a { nsw = b.nsw; nuw = b.nuw; exact = x }) (same_bool a.exact b.exact r.0)
    ∙ ap (λ x. record a { nsw = b.nsw; nuw = b.nuw; exact = b.exact; disjoint = x }) (same_bool a.disjoint b.disjoint s.0)
    ∙ ap (λ x. record a { nsw = b.nsw; nuw = b.nuw; exact = b.exact; disjoint = b.disjoint; nneg = x }) (same_bool a.nneg b.nneg t.0)
    ∙ ap (λ x. record b { samesign = x }) (same_bool a.samesign b.samesign t.1)
