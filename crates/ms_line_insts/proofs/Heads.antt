-- What stands in front of the values of an instruction.
use Rattle.std.proofs.Common.{◌≡◌, arith, ℕ, Bool, List, [], ◌∷◌, ◌++◌, sym, ap, subst, ◌∙◌}
use Rattle.ms_lex.specs.declared.token.Token.{Token}
use Rattle.ms_ir.specs.declared.names.Ty.{Ty}
use Rattle.ms_ir.specs.declared.inst.Op.{Op}
use Rattle.ms_ir.specs.declared.inst.Pred.{Pred}
use Rattle.ms_ir.specs.declared.inst.CastOp.{CastOp}
use Rattle.ms_ir.specs.declared.inst.Flags.{Flags}
use Rattle.ms_grammar.specs.Words.{spelling, op_word, predicate_word, cast_word}
use Rattle.ms_grammar.specs.Parts.{Part, blank, token, flag}
use Rattle.ms_grammar.specs.Form.{word_part, type_part, value_part}
use Rattle.ms_grammar.specs.Fits.{IsInt, IsValue, Converts, flags_of_op, flags_of_cast}
use Rattle.ms_grammar.specs.declared.keyword.Keyword.TheVariants as word
use Rattle.ms_grammar.specs.declared.line.RawVal.{RawVal}
use Rattle.ms_line_insts.specs.Front.{Spelt, NoFront, Front, NoFrontIf, Ahead, Always, Leads, Behind, IsTyped, typed}
use Rattle.ms_line_insts.specs.Ends.{type_lead_parts}
use Rattle.ms_line_insts.specs.FlagFronts.{FlagAt, Flagged}
use Rattle.ms_line_insts.specs.Heads.{IsConversion, converted_parts, StartsType, IsOpHead, op_head_parts, IsCastHead, cast_head_parts, comparison_parts}
use Rattle.ms_line_insts.proofs.Fronts.{blank_on, blank_off, typed_found, typed_none}
use Rattle.ms_line_insts.proofs.FlagLemmas.{op_flags, op_flags_on, op_flags_back, cast_flags, cast_flags_on, cast_flags_back, sign_back}

-- one of a kind that passes a test
pub front_tested : {X : Type 0} (P : X → Type 0) (parts : X → List Part) (line : List ℕ) (tokens : List Token) (x : X) (rest : List Token) → Front Always parts line tokens x rest → P x →
    Front P parts line tokens x rest
front_tested P parts line tokens x rest a p = record { fits = p; owned = a.owned; shorter = a.shorter; on = a.on; back = λ y ps g h. a.back y ps tt h }

pub none_tested : {X : Type 0} (P : X → Type 0) (parts : X → List Part) (line : List ℕ) (tokens : List Token) (x : X) (rest : List Token) → Front Always parts line tokens x rest → (P x → ⊥) →
    NoFront P parts line tokens
none_tested P parts line tokens x rest a never y ps g h = never (subst P (a.back y ps tt h).same g)

-- a value behind a type that passes a test
pub value_tested : (P : Ty → Type 0) (line : List ℕ) (tokens mid rest : List Token) (ty : Ty) (v : RawVal) → P ty → Front Always (λ x. type_part x ∷ []) line tokens ty mid →
    Front (IsValue ty) (λ x. value_part x ∷ []) line mid v rest → Front (λ (g : Ty × RawVal). P g.0 × IsValue g.0 g.1) typed line tokens (ty, v) rest
value_tested P line tokens mid rest ty v p a b =
    let both = typed_found line tokens mid rest ty v a b in
    record { fits = (p, both.fits); owned = both.owned; shorter = both.shorter; on = both.on; back = λ y ps g h. both.back y ps g.1 h }

pub no_value_tested : (P : Ty → Type 0) (line : List ℕ) (tokens mid : List Token) (ty : Ty) → Front Always (λ x. type_part x ∷ []) line tokens ty mid →
    NoFront (IsValue ty) (λ x. value_part x ∷ []) line mid → NoFront (λ (g : Ty × RawVal). P g.0 × IsValue g.0 g.1) typed line tokens
no_value_tested P line tokens mid ty a none y ps g h = typed_none line tokens mid ty a none y ps g.1 h

pub no_type_tested : (P : Ty → Type 0) (line : List ℕ) (tokens mid : List Token) (ty : Ty) → Front Always (λ x. type_part x ∷ []) line tokens ty mid → (P ty → ⊥) →
    NoFront (λ (g : Ty × RawVal). P g.0 × IsValue g.0 g.1) typed line tokens
no_type_tested P line tokens mid ty a never y ps g h = never (subst P (a.back y.0 (blank ∷ value_part y.1 ∷ ps) tt h).same g.0)

-- operations and their flags
op_back : (line : List ℕ) (tokens at rest : List Token) (op : Op) (flags : Flags) → Front Always (λ o. token (op_word o) ∷ []) line tokens op at → Flagged line at flags rest →
    (y : Op × Flags) (ps : List Part) → StartsType ps → IsOpHead y → Spelt line tokens (op_head_parts y ++ ps) → Behind y (op, flags) line rest ps
op_back line tokens at rest op flags a f y ps starts g h =
    let b = a.back y.0 (op_flags y.1 ++ blank ∷ ps) tt h in
    let k = op_flags_back line at rest flags y.0 y.1 starts.0 starts.1 f g (subst (λ l. Spelt line at (op_flags y.1 ++ blank ∷ l)) starts.2 b.further) in
    record {
      same = ap (λ o. (o, y.1)) b.same ∙ ap (λ z. (op, z)) k.same;
      further = blank_off line rest ps (subst (λ l. Spelt line rest (blank ∷ l)) (sym starts.2) k.further);
    }

pub op_found : (line : List ℕ) (tokens at rest : List Token) (op : Op) (flags : Flags) → Front Always (λ o. token (op_word o) ∷ []) line tokens op at → Flagged line at flags rest →
    flags ≡ flags_of_op op flags → Ahead StartsType IsOpHead op_head_parts line tokens (op, flags) rest
op_found line tokens at rest op flags a f e = record {
  fits = e;
  owned = f.owned;
  on = λ ps h. a.on (op_flags flags ++ blank ∷ ps) (op_flags_on line at rest flags op (blank ∷ ps) f e (blank_on line rest ps h));
  back = op_back line tokens at rest op flags a f;
}

pub op_other : (line : List ℕ) (tokens at rest : List Token) (op : Op) (flags : Flags) → Front Always (λ o. token (op_word o) ∷ []) line tokens op at → Flagged line at flags rest →
    (flags ≡ flags_of_op op flags → ⊥) → NoFrontIf StartsType IsOpHead op_head_parts line tokens
op_other line tokens at rest op flags a f never y ps starts g h = never (subst IsOpHead (op_back line tokens at rest op flags a f y ps starts g h).same g)

-- casts and their flags
cast_back : (line : List ℕ) (tokens at rest : List Token) (op : CastOp) (flags : Flags) → Front Always (λ o. token (cast_word o) ∷ []) line tokens op at → Flagged line at flags rest →
    (y : CastOp × Flags) (ps : List Part) → StartsType ps → IsCastHead y → Spelt line tokens (cast_head_parts y ++ ps) → Behind y (op, flags) line rest ps
cast_back line tokens at rest op flags a f y ps starts g h =
    let b = a.back y.0 (cast_flags y.1 ++ blank ∷ ps) tt h in
    let k = cast_flags_back line at rest flags y.0 y.1 starts.0 starts.1 f g (subst (λ l. Spelt line at (cast_flags y.1 ++ blank ∷ l)) starts.2 b.further) in
    record {
      same = ap (λ o. (o, y.1)) b.same ∙ ap (λ z. (op, z)) k.same;
      further = blank_off line rest ps (subst (λ l. Spelt line rest (blank ∷ l)) (sym starts.2) k.further);
    }

pub cast_found : (line : List ℕ) (tokens at rest : List Token) (op : CastOp) (flags : Flags) → Front Always (λ o. token (cast_word o) ∷ []) line tokens op at → Flagged line at flags rest →
    flags ≡ flags_of_cast op flags → Ahead StartsType IsCastHead cast_head_parts line tokens (op, flags) rest
cast_found line tokens at rest op flags a f e = record {
  fits = e;
  owned = f.owned;
  on = λ ps h. a.on (cast_flags flags ++ blank ∷ ps) (cast_flags_on line at rest flags op (blank ∷ ps) f e (blank_on line rest ps h));
  back = cast_back line tokens at rest op flags a f;
}

pub cast_other : (line : List ℕ) (tokens at rest : List Token) (op : CastOp) (flags : Flags) → Front Always (λ o. token (cast_word o) ∷ []) line tokens op at → Flagged line at flags rest →
    (flags ≡ flags_of_cast op flags → ⊥) → NoFrontIf StartsType IsCastHead cast_head_parts line tokens
cast_other line tokens at rest op flags a f never y ps starts g h = never (subst IsCastHead (cast_back line tokens at rest op flags a f y ps starts g h).same g)

-- what a cast converts, and to what
conversion_back : (line : List ℕ) (tokens mid rest : List Token) (given : Ty × RawVal) (to : Ty) → Front IsTyped typed line tokens given mid →
    Front Always (type_lead_parts word.To) line mid to rest → (y : (Ty × RawVal) × Ty) (ps : List Part) → IsTyped y.0 → Spelt line tokens (converted_parts y ++ ps) →
    Behind y (given, to) line rest ps
conversion_back line tokens mid rest given to a b y ps g h =
    let k = a.back y.0 (blank ∷ type_lead_parts word.To y.1 ++ ps) g h in
    let l = b.back y.1 ps tt (blank_off line mid (type_lead_parts word.To y.1 ++ ps) k.further) in
    record { same = ap (λ z. (z, y.1)) k.same ∙ ap (λ t. (given, t)) l.same; further = l.further }

pub conversion_found : (op : CastOp) (line : List ℕ) (tokens mid rest : List Token) (given : Ty × RawVal) (to : Ty) → Front IsTyped typed line tokens given mid →
    Front Always (type_lead_parts word.To) line mid to rest → IsInt given.0 × IsInt to × Converts op given.0 to → Front (IsConversion op) converted_parts line tokens (given, to) rest
conversion_found op line tokens mid rest given to a b e = record {
  fits = (e.0, e.1, e.2, a.fits);
  owned = b.owned;
  shorter = let one = a.shorter in let two = b.shorter in omega arith;
  on = λ ps h. a.on (blank ∷ type_lead_parts word.To to ++ ps) (blank_on line mid (type_lead_parts word.To to ++ ps) (b.on ps h));
  back = λ y ps g h. conversion_back line tokens mid rest given to a b y ps g.3 h;
}

pub conversion_other : (op : CastOp) (line : List ℕ) (tokens mid rest : List Token) (given : Ty × RawVal) (to : Ty) → Front IsTyped typed line tokens given mid →
    Front Always (type_lead_parts word.To) line mid to rest → (IsInt given.0 → IsInt to → Converts op given.0 to → ⊥) → NoFront (IsConversion op) converted_parts line tokens
conversion_other op line tokens mid rest given to a b never y ps g h =
    let fits = subst (IsConversion op) (conversion_back line tokens mid rest given to a b y ps g.3 h).same g in
    never fits.0 fits.1 fits.2

pub conversion_none : (op : CastOp) (line : List ℕ) (tokens mid : List Token) (given : Ty × RawVal) → Front IsTyped typed line tokens given mid →
    NoFront Always (type_lead_parts word.To) line mid → NoFront (IsConversion op) converted_parts line tokens
conversion_none op line tokens mid given a none y ps g h =
    let k = a.back y.0 (blank ∷ type_lead_parts word.To y.1 ++ ps) g.3 h in
    none y.1 ps tt (blank_off line mid (type_lead_parts word.To y.1 ++ ps) k.further)

-- comparisons
pub comparison_found : (line : List ℕ) (tokens at_flag at_pred rest : List Token) (set : Bool) (pred : Pred) → Leads (word_part word.Icmp ∷ []) line tokens at_flag →
    FlagAt (spelling word.Samesign) line at_flag set at_pred → Front Always (λ p. token (predicate_word p) ∷ []) line at_pred pred rest →
    Ahead Always Always comparison_parts line tokens (pred, set) rest
comparison_found line tokens at_flag at_pred rest set pred a f b = record {
  fits = tt;
  owned = b.owned;
  on = λ ps h.
      a.on (flag (spelling word.Samesign) set ∷ blank ∷ token (predicate_word pred) ∷ blank ∷ ps)
      (f.on (blank ∷ token (predicate_word pred) ∷ blank ∷ ps) (blank_on line at_pred (token (predicate_word pred) ∷ blank ∷ ps) (b.on (blank ∷ ps) (blank_on line rest ps h))));
  back = λ y ps next g h.
      let k = sign_back line at_flag at_pred set y.1 y.0 (blank ∷ ps) f (a.back (flag (spelling word.Samesign) y.1 ∷ blank ∷ token (predicate_word y.0) ∷ blank ∷ ps) h) in
      let p = b.back y.0 (blank ∷ ps) tt (blank_off line at_pred (token (predicate_word y.0) ∷ blank ∷ ps) k.further) in
      record { same = ap (λ z. (z, y.1)) p.same ∙ ap (λ z. (pred, z)) k.same; further = blank_off line rest ps p.further };
}

pub comparison_none : (line : List ℕ) (tokens at_flag at_pred : List Token) (set : Bool) → Leads (word_part word.Icmp ∷ []) line tokens at_flag →
    FlagAt (spelling word.Samesign) line at_flag set at_pred → NoFront Always (λ p. token (predicate_word p) ∷ []) line at_pred → NoFront Always comparison_parts line tokens
comparison_none line tokens at_flag at_pred set a f none y ps g h =
    let k = sign_back line at_flag at_pred set y.1 y.0 (blank ∷ ps) f (a.back (flag (spelling word.Samesign) y.1 ∷ blank ∷ token (predicate_word y.0) ∷ blank ∷ ps) h) in
    none y.0 (blank ∷ ps) tt (blank_off line at_pred (token (predicate_word y.0) ∷ blank ∷ ps) k.further)
