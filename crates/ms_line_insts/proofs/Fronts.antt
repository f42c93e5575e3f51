-- What stands in front of tokens, one part behind another.
use Rattle.std.proofs.Common.{◌≡◌, ◌≢◌, ◌<◌, length, arith, ℕ, true, false, List, [], ◌∷◌, ◌++◌, refl, sym, ap, subst, ◌∙◌, inl, inr, append_assoc, Option, Some, None, Result, Ok, Err, Bor}
use Rattle.std.specs.Prelude.{All, IfOk, MatchOption}
use Rattle.std.specs.Str.{bytes_eq}
use Rattle.ms_lex.specs.Line.{IsTokenOf}
use Rattle.ms_lex.specs.declared.token.Token.{Token}
use Rattle.ms_ir.specs.declared.names.Ty.{Ty}
use Rattle.ms_ir.specs.declared.names.Name.{Name}
use Rattle.ms_grammar.specs.Words.{spelling, type_word}
use Rattle.ms_grammar.specs.Parts.{Part, blank, token, SpellsPart, Spells, texts, bytes_at}
use Rattle.ms_grammar.specs.Form.{word_part, type_part, local_part, value_part, name_text}
use Rattle.ms_grammar.specs.Fits.{IsNamed, IsValue}
use Rattle.ms_grammar.specs.declared.keyword.Keyword.{Keyword}
use Rattle.ms_grammar.specs.declared.line.RawVal.{RawVal}
use Rattle.ms_grammar.specs.declared.line.RawVal.TheVariants.{Num, Local, Global}
use Rattle.ms_grammar.proofs.Steps.{tells}
use Rattle.ms_grammar.proofs.Objects.{type_one}
use Rattle.ms_grammar.proofs.Both.{Both, both_value, name_one, behind_first}
use Rattle.ms_line_insts.specs.Front.{Spelt, NoLead, Leads, NoFront, Front, Always, IsTyped, typed}

-- blanks are spelled by nothing
pub blank_on : (line : List ℕ) (tokens : List Token) (ps : List Part) → Spelt line tokens ps → Spelt line tokens (blank ∷ ps)
blank_on line tokens ps h = record { spells = ([], tokens, refl, refl, h.spells) }

pub blank_off : (line : List ℕ) (tokens : List Token) (ps : List Part) → Spelt line tokens (blank ∷ ps) → Spelt line tokens ps
blank_off line tokens ps h =
    let s = h.spells in
    let whole : s.1 ≡ tokens = sym (s.2 ∙ ap (λ r. r ++ s.1) s.3) in
    record { spells = subst (λ r. Spells line r ps) whole s.4 }

-- a part that one token spells
pub record IsSingle (p : Part) : Type 0 where
  pub one : (line : List ℕ) (run : List Token) → SpellsPart line run p → (t : Token) × (run ≡ t ∷ [])

pub alone : (line : List ℕ) (run : List Token) (s : List ℕ) → texts line run ≡ s ∷ [] → (t : Token) × (run ≡ t ∷ [])
alone line [] s e = absurd (cc)
alone line (t ∷ []) s e = (t, refl)
alone line (t ∷ (u ∷ us)) s e = absurd (cc)

pub token_single : (text : List ℕ) → IsSingle (token text)
token_single text = record { one = λ line run h. alone line run text h }

pub value_single : (v : RawVal) → IsSingle (value_part v)
value_single (Num ty n) = record { one = λ line run h. alone line run h.0 h.1 }
value_single (Local n) = token_single (37 ∷ name_text n)
value_single (Global n) = token_single (64 ∷ name_text n)

pub record Single (line : List ℕ) (t : Token) (p : Part) (rest : List Token) (ps : List Part) : Type 0 where
  pub spelled : SpellsPart line (t ∷ []) p
  pub further : Spelt line rest ps

pub single_back : (line : List ℕ) (tokens : List Token) (t : Token) (rest : List Token) (p : Part) (ps : List Part) → tokens ≡ t ∷ rest → IsSingle p →
    Spelt line tokens (p ∷ ps) → Single line t p rest ps
single_back line tokens t rest p ps e single h =
    let s = h.spells in
    let one = single.one line s.0 s.3 in
    let cells : t ∷ rest ≡ one.0 ∷ s.1 = sym e ∙ s.2 ∙ ap (λ r. r ++ s.1) one.1 in
    let first : one.0 ≡ t = cc in
    let behind : s.1 ≡ rest = cc in
    record {
      spelled = subst (λ u. SpellsPart line (u ∷ []) p) first (subst (λ r. SpellsPart line r p) one.1 s.3);
      further = record { spells = subst (λ r. Spells line r ps) behind s.4 };
    }

pub single_on : (line : List ℕ) (tokens : List Token) (t : Token) (rest : List Token) (p : Part) (ps : List Part) → tokens ≡ t ∷ rest → SpellsPart line (t ∷ []) p →
    Spelt line rest ps → Spelt line tokens (p ∷ ps)
single_on line tokens t rest p ps e s h = record { spells = (t ∷ [], rest, e, s, h.spells) }

one_shorter : (t : Token) (tokens rest : List Token) → tokens ≡ t ∷ rest → length rest < length tokens
one_shorter t tokens rest e = let l : length tokens ≡ length (t ∷ rest) = ap length e in omega arith

-- a fixed token
pub lead_single : (line : List ℕ) (tokens : List Token) (t : Token) (rest : List Token) (p : Part) → tokens ≡ t ∷ rest → All (IsTokenOf line) rest → IsSingle p →
    SpellsPart line (t ∷ []) p → Leads (p ∷ []) line tokens rest
lead_single line tokens t rest p e owned single s = record {
  owned = owned;
  shorter = one_shorter t tokens rest e;
  on = λ ps h. single_on line tokens t rest p ps e s h;
  back = λ ps h. (single_back line tokens t rest p ps e single h).further;
}

-- one of a kind of tokens
pub front_single : {X : Type 0} (Fits : X → Type 0) (part : X → Part) (line : List ℕ) (tokens : List Token) (t : Token) (rest : List Token) (x : X) →
    tokens ≡ t ∷ rest → All (IsTokenOf line) rest → ((y : X) → IsSingle (part y)) → Fits x → SpellsPart line (t ∷ []) (part x) →
    ((y : X) → Fits y → SpellsPart line (t ∷ []) (part y) → y ≡ x) → Front Fits (λ y. part y ∷ []) line tokens x rest
front_single Fits part line tokens t rest x e owned single fits s one = record {
  fits = fits;
  owned = owned;
  shorter = one_shorter t tokens rest e;
  on = λ ps h. single_on line tokens t rest (part x) ps e s h;
  back = λ y ps g h.
      let b = single_back line tokens t rest (part y) ps e (single y) h in
      record { same = one y g b.spelled; further = b.further };
}

pub none_single : {X : Type 0} (Fits : X → Type 0) (part : X → Part) (line : List ℕ) (tokens : List Token) (t : Token) (rest : List Token) →
    tokens ≡ t ∷ rest → ((y : X) → IsSingle (part y)) → ((y : X) → Fits y → SpellsPart line (t ∷ []) (part y) → ⊥) → NoFront Fits (λ y. part y ∷ []) line tokens
none_single Fits part line tokens t rest e single none y ps g h = none y g (single_back line tokens t rest (part y) ps e (single y) h).spelled

-- the only text of one token
pub only_text : (s t : List ℕ) → s ∷ [] ≡ t ∷ [] → s ≡ t
only_text s t e = cc

-- words
pub word_lead : (line : List ℕ) (tokens : List Token) (t : Token) (rest : List Token) (k : Keyword) → tokens ≡ t ∷ rest → All (IsTokenOf line) rest →
    bytes_eq (bytes_at line t) (spelling k) ≡ true → Leads (word_part k ∷ []) line tokens rest
word_lead line tokens t rest k e owned is =
    elim (tells (bytes_at line t) (spelling k)) [
      | inl told ↦ lead_single line tokens t rest (word_part k) e owned (token_single (spelling k)) (ap (λ s. s ∷ []) told.1)
      | inr told ↦ (let unlike = told.0 in cc)
    ]

pub word_none : (line : List ℕ) (tokens : List Token) (t : Token) (rest : List Token) (k : Keyword) → tokens ≡ t ∷ rest →
    bytes_eq (bytes_at line t) (spelling k) ≡ false → NoLead (word_part k ∷ []) line tokens
word_none line tokens t rest k e unlike ps h =
    let s = single_back line tokens t rest (word_part k) ps e (token_single (spelling k)) h in
    elim (tells (bytes_at line t) (spelling k)) [
      | inl told ↦ let like = told.0 in cc
      | inr told ↦ told.1 (only_text (bytes_at line t) (spelling k) s.spelled)
    ]

-- types
pub type_found : (line : List ℕ) (tokens : List Token) (t : Token) (rest : List Token) (ty : Ty) → tokens ≡ t ∷ rest → All (IsTokenOf line) rest →
    bytes_at line t ≡ type_word ty → Front Always (λ x. type_part x ∷ []) line tokens ty rest
type_found line tokens t rest ty e owned is =
    front_single Always type_part line tokens t rest ty e owned (λ y. token_single (type_word y)) tt (ap (λ s. s ∷ []) is)
    (λ y g s. type_one y ty (sym (only_text (bytes_at line t) (type_word y) s) ∙ is))

pub type_none : (line : List ℕ) (tokens : List Token) (t : Token) (rest : List Token) → tokens ≡ t ∷ rest → ((ty : Ty) → bytes_at line t ≢ type_word ty) →
    NoFront Always (λ x. type_part x ∷ []) line tokens
type_none line tokens t rest e none =
    none_single Always type_part line tokens t rest e (λ y. token_single (type_word y)) (λ y g s. none y (only_text (bytes_at line t) (type_word y) s))

-- values
pub value_found : (line : List ℕ) (tokens : List Token) (t : Token) (rest : List Token) (ty : Ty) (v : RawVal) → tokens ≡ t ∷ rest → All (IsTokenOf line) rest →
    IsValue ty v → SpellsPart line (t ∷ []) (value_part v) → Front (IsValue ty) (λ x. value_part x ∷ []) line tokens v rest
value_found line tokens t rest ty v e owned fits s =
    front_single (IsValue ty) value_part line tokens t rest v e owned value_single fits s (λ y g h. one y g h)
  where
    one : (y : RawVal) → IsValue ty y → SpellsPart line (t ∷ []) (value_part y) → y ≡ v
    one y g h =
        let both : Both line (value_part y ∷ []) (value_part v ∷ []) = record { tokens = t ∷ []; one = (t ∷ [], [], refl, h, refl); other = (t ∷ [], [], refl, s, refl) } in
        (both_value line ty y v [] [] g fits both).same

pub value_none : (line : List ℕ) (tokens : List Token) (t : Token) (rest : List Token) (ty : Ty) → tokens ≡ t ∷ rest →
    ((v : RawVal) → IsValue ty v → SpellsPart line (t ∷ []) (value_part v) → ⊥) → NoFront (IsValue ty) (λ x. value_part x ∷ []) line tokens
value_none line tokens t rest ty e none = none_single (IsValue ty) value_part line tokens t rest e value_single none

-- locals
pub local_found : (line : List ℕ) (tokens : List Token) (t : Token) (rest : List Token) (n : Name) → tokens ≡ t ∷ rest → All (IsTokenOf line) rest →
    IsNamed n → bytes_at line t ≡ 37 ∷ name_text n → Front IsNamed (λ x. local_part x ∷ []) line tokens n rest
local_found line tokens t rest n e owned fits is =
    front_single IsNamed local_part line tokens t rest n e owned (λ y. token_single (37 ∷ name_text y)) fits (ap (λ s. s ∷ []) is)
    (λ y g s. name_one y n g fits (behind_first 37 37 (name_text y) (name_text n) (sym (only_text (bytes_at line t) (37 ∷ name_text y) s) ∙ is)))

pub local_none : (line : List ℕ) (tokens : List Token) (t : Token) (rest : List Token) → tokens ≡ t ∷ rest →
    ((n : Name) → IsNamed n → bytes_at line t ≢ 37 ∷ name_text n) → NoFront IsNamed (λ x. local_part x ∷ []) line tokens
local_none line tokens t rest e none =
    none_single IsNamed local_part line tokens t rest e (λ y. token_single (37 ∷ name_text y)) (λ y g s. none y g (only_text (bytes_at line t) (37 ∷ name_text y) s))

-- no tokens
pub empty_lead : (line : List ℕ) (tokens : List Token) (p : Part) → tokens ≡ [] → IsSingle p → NoLead (p ∷ []) line tokens
empty_lead line tokens p e single ps h =
    let s = h.spells in
    let one = single.one line s.0 s.3 in
    let cells : [] ≡ one.0 ∷ s.1 = sym e ∙ s.2 ∙ ap (λ r. r ++ s.1) one.1 in
    cc

-- behind parts that stand in front
pub lead_spaced : (p : Part) (line : List ℕ) (tokens rest : List Token) → Leads (p ∷ []) line tokens rest → Leads (p ∷ blank ∷ []) line tokens rest
lead_spaced p line tokens rest a = record {
  owned = a.owned;
  shorter = a.shorter;
  on = λ ps h. a.on (blank ∷ ps) (blank_on line rest ps h);
  back = λ ps h. blank_off line rest ps (a.back (blank ∷ ps) h);
}

pub spaced : {X : Type 0} (Fits : X → Type 0) (part : X → Part) (line : List ℕ) (tokens : List Token) (x : X) (rest : List Token) →
    Front Fits (λ y. part y ∷ []) line tokens x rest → Front Fits (λ y. part y ∷ blank ∷ []) line tokens x rest
spaced Fits part line tokens x rest a = record {
  fits = a.fits;
  owned = a.owned;
  shorter = a.shorter;
  on = λ ps h. a.on (blank ∷ ps) (blank_on line rest ps h);
  back = λ y ps g h. let b = a.back y (blank ∷ ps) g h in record { same = b.same; further = blank_off line rest ps b.further };
}

pub lead_join : (front more : List Part) (line : List ℕ) (tokens mid rest : List Token) → Leads front line tokens mid → Leads more line mid rest → Leads (front ++ more) line tokens rest
lead_join front more line tokens mid rest a b = record {
  owned = b.owned;
  shorter = let one = a.shorter in let two = b.shorter in omega arith;
  on = λ ps h. subst (λ l. Spelt line tokens l) (sym (append_assoc front more ps)) (a.on (more ++ ps) (b.on ps h));
  back = λ ps h. b.back ps (a.back (more ++ ps) (subst (λ l. Spelt line tokens l) (append_assoc front more ps) h));
}

pub front_after : {X : Type 0} (Fits : X → Type 0) (parts : X → List Part) (front : List Part) (line : List ℕ) (tokens mid : List Token) (x : X) (rest : List Token) →
    Leads front line tokens mid → Front Fits parts line mid x rest → Front Fits (λ y. front ++ parts y) line tokens x rest
front_after Fits parts front line tokens mid x rest a b = record {
  fits = b.fits;
  owned = b.owned;
  shorter = let one = a.shorter in let two = b.shorter in omega arith;
  on = λ ps h. subst (λ l. Spelt line tokens l) (sym (append_assoc front (parts x) ps)) (a.on (parts x ++ ps) (b.on ps h));
  back = λ y ps g h. b.back y ps g (a.back (parts y ++ ps) (subst (λ l. Spelt line tokens l) (append_assoc front (parts y) ps) h));
}

pub none_after : {X : Type 0} (Fits : X → Type 0) (parts : X → List Part) (front : List Part) (line : List ℕ) (tokens mid : List Token) →
    Leads front line tokens mid → NoFront Fits parts line mid → NoFront Fits (λ y. front ++ parts y) line tokens
none_after Fits parts front line tokens mid a none y ps g h = none y ps g (a.back (parts y ++ ps) (subst (λ l. Spelt line tokens l) (append_assoc front (parts y) ps) h))

pub none_lead : {X : Type 0} (Fits : X → Type 0) (parts : X → List Part) (front : List Part) (line : List ℕ) (tokens : List Token) →
    NoLead front line tokens → NoFront Fits (λ y. front ++ parts y) line tokens
none_lead Fits parts front line tokens none y ps g h = none (parts y ++ ps) (subst (λ l. Spelt line tokens l) (append_assoc front (parts y) ps) h)

-- a type that is known
pub type_lead : (line : List ℕ) (tokens : List Token) (found ty : Ty) (rest : List Token) → found ≡ ty → Front Always (λ x. type_part x ∷ []) line tokens found rest →
    Leads (type_part ty ∷ blank ∷ []) line tokens rest
type_lead line tokens found ty rest e a =
    subst (λ x. Leads (type_part x ∷ blank ∷ []) line tokens rest) e
    (lead_spaced (type_part found) line tokens rest (record { owned = a.owned; shorter = a.shorter; on = a.on; back = λ ps h. (a.back found ps tt h).further }))

pub type_other : (line : List ℕ) (tokens : List Token) (found ty : Ty) (rest : List Token) → (found ≢ ty) → Front Always (λ x. type_part x ∷ []) line tokens found rest →
    NoLead (type_part ty ∷ blank ∷ []) line tokens
type_other line tokens found ty rest e a ps h = e (sym (a.back ty (blank ∷ ps) tt h).same)

-- a value behind its type
pub typed_found : (line : List ℕ) (tokens mid rest : List Token) (ty : Ty) (v : RawVal) → Front Always (λ x. type_part x ∷ []) line tokens ty mid →
    Front (IsValue ty) (λ x. value_part x ∷ []) line mid v rest → Front IsTyped typed line tokens (ty, v) rest
typed_found line tokens mid rest ty v a b = record {
  fits = b.fits;
  owned = b.owned;
  shorter = let one = a.shorter in let two = b.shorter in omega arith;
  on = λ ps h. a.on (blank ∷ value_part v ∷ ps) (blank_on line mid (value_part v ∷ ps) (b.on ps h));
  back = λ y ps g h.
      let types = a.back y.0 (blank ∷ value_part y.1 ∷ ps) tt h in
      let vals = b.back y.1 ps (subst (λ t. IsValue t y.1) types.same g) (blank_off line mid (value_part y.1 ∷ ps) types.further) in
      record { same = ap (λ t. (t, y.1)) types.same ∙ ap (λ w. (ty, w)) vals.same; further = vals.further };
}

pub typed_none : (line : List ℕ) (tokens mid : List Token) (ty : Ty) → Front Always (λ x. type_part x ∷ []) line tokens ty mid →
    NoFront (IsValue ty) (λ x. value_part x ∷ []) line mid → NoFront IsTyped typed line tokens
typed_none line tokens mid ty a none y ps g h =
    let types = a.back y.0 (blank ∷ value_part y.1 ∷ ps) tt h in
    none y.1 ps (subst (λ t. IsValue t y.1) types.same g) (blank_off line mid (value_part y.1 ∷ ps) types.further)

-- words that name things of a kind, each another one
pub named_found : {X : Type 0} (w : X → List ℕ) → ((a b : X) → w a ≡ w b → a ≡ b) → (line : List ℕ) (tokens : List Token) (t : Token) (rest : List Token) (x : X) →
    tokens ≡ t ∷ rest → All (IsTokenOf line) rest → bytes_at line t ≡ w x → Front Always (λ y. token (w y) ∷ []) line tokens x rest
named_found {X} w one line tokens t rest x e owned is =
    front_single Always (λ (y : X). token (w y)) line tokens t rest x e owned (λ y. token_single (w y)) tt (ap (λ s. s ∷ []) is)
    (λ y g s. one y x (sym (only_text (bytes_at line t) (w y) s) ∙ is))

pub named_none : {X : Type 0} (w : X → List ℕ) (line : List ℕ) (tokens : List Token) (t : Token) (rest : List Token) → tokens ≡ t ∷ rest →
    ((x : X) → bytes_at line t ≢ w x) → NoFront Always (λ (y : X). token (w y) ∷ []) line tokens
named_none {X} w line tokens t rest e none =
    none_single Always (λ (y : X). token (w y)) line tokens t rest e (λ y. token_single (w y)) (λ y g s. none y (only_text (bytes_at line t) (w y) s))

-- the same of what a call gave
pub read_after : {X E : Type 0} (Fits : X → Type 0) (parts : X → List Part) (front : List Part) (line : List ℕ) (tokens mid : List Token) (r : Result (Option (X × Bor (List Token))) E) →
    Leads front line tokens mid → IfOk r (λ found. MatchOption found (NoFront Fits parts line mid) (λ f. Front Fits parts line mid f.0 f.1.now)) →
    IfOk r (λ found. MatchOption found (NoFront Fits (λ y. front ++ parts y) line tokens) (λ f. Front Fits (λ y. front ++ parts y) line tokens f.0 f.1.now))
read_after Fits parts front line tokens mid (Err e) a h = tt
read_after Fits parts front line tokens mid (Ok None) a h = none_after Fits parts front line tokens mid a h
read_after Fits parts front line tokens mid (Ok (Some f)) a h = front_after Fits parts front line tokens mid f.0 f.1.now a h

pub option_after : {X : Type 0} (Fits : X → Type 0) (parts : X → List Part) (front : List Part) (line : List ℕ) (tokens mid : List Token) (r : Option (X × Bor (List Token))) →
    Leads front line tokens mid → MatchOption r (NoFront Fits parts line mid) (λ f. Front Fits parts line mid f.0 f.1.now) →
    MatchOption r (NoFront Fits (λ y. front ++ parts y) line tokens) (λ f. Front Fits (λ y. front ++ parts y) line tokens f.0 f.1.now)
option_after Fits parts front line tokens mid None a none = none_after Fits parts front line tokens mid a none
option_after Fits parts front line tokens mid (Some f) a b = front_after Fits parts front line tokens mid f.0 f.1.now a b

pub spaced_lead : (p : Part) (line : List ℕ) (tokens : List Token) (r : Option (Bor (List Token))) →
    MatchOption r (NoLead (p ∷ []) line tokens) (λ rest. Leads (p ∷ []) line tokens rest.now) →
    MatchOption r (NoLead (p ∷ blank ∷ []) line tokens) (λ rest. Leads (p ∷ blank ∷ []) line tokens rest.now)
spaced_lead p line tokens None none = λ ps h. none (blank ∷ ps) h
spaced_lead p line tokens (Some rest) a = lead_spaced p line tokens rest.now a

-- parts behind others
pub leads_after : (front more : List Part) (line : List ℕ) (tokens mid : List Token) (r : Option (Bor (List Token))) → Leads front line tokens mid →
    MatchOption r (NoLead more line mid) (λ rest. Leads more line mid rest.now) → MatchOption r (NoLead (front ++ more) line tokens) (λ rest. Leads (front ++ more) line tokens rest.now)
leads_after front more line tokens mid None a none = λ ps h. none ps (a.back (more ++ ps) (subst (λ l. Spelt line tokens l) (append_assoc front more ps) h))
leads_after front more line tokens mid (Some rest) a b = lead_join front more line tokens mid rest.now a b
