-- Fronts of tokens, told by their texts.
use Rattle.std.proofs.Common.{◌≡◌, ◌⊎◌, ℕ, ◌+◌, ◌-◌, suc, Bool, true, false, List, [], ◌∷◌, ◌++◌, length, take, get_or, refl, sym, ap, subst, ◌∙◌, inl, inr, arith}
use Rattle.std.specs.Str.{bytes_eq}
use Rattle.std.proofs.lemmas.List.{map-append, take-map, length-map, length-append, get_or_at, take_at, append_assoc, append-nil}
use Rattle.ms_lex.specs.declared.token.Token.{Token}
use Rattle.ms_grammar.specs.Words.{spelling}
use Rattle.ms_grammar.specs.Kept.{AreMany, IsAttribute}
use Rattle.ms_grammar.specs.Parts.{texts, bytes_at}
use Rattle.ms_grammar.specs.Scan.{Stops, IsMember, IsListMark}
use Rattle.ms_grammar.specs.declared.keyword.Keyword.TheVariants as word
use Rattle.ms_grammar.proofs.Steps.{same}
use Rattle.ms_grammar.proofs.Walks.{comma_stops, close_stops}
use Rattle.ms_line_parts.specs.Reach.{AreLongest, IsItem}
use Rattle.ms_line_parts.proofs.Single.{Stopping, stops_stopping}
use Rattle.ms_line_parts.proofs.Longest.{longest_are, longest_run, longest_near}

pub front_are : (meta : Bool) (line : List ℕ) (tokens : List Token) (n : ℕ) → AreLongest meta (texts line tokens) n → AreMany (IsItem meta) (texts line (take n tokens))
front_are meta line tokens n are = subst (λ ts. AreMany (IsItem meta) ts) (take-map (bytes_at line) n tokens) (longest_are meta (texts line tokens) n are)

pub front_whole : (meta : Bool) (line : List ℕ) (tokens : List Token) (n : ℕ) → AreLongest meta (texts line tokens) n →
    (run rest : List Token) → tokens ≡ run ++ rest → AreMany (IsItem meta) (texts line run) → Stops meta (texts line rest) → n ≡ length run
front_whole meta line tokens n are run rest e many stops =
    let cut = ap (texts line) e ∙ map-append (bytes_at line) run rest ∙ ap (λ ts. ts ++ texts line rest) many.whole in
    longest_run meta many.items (texts line rest) (texts line tokens) n many.each (stops_stopping meta (texts line rest) stops) cut are
    ∙ ap length (sym many.whole) ∙ length-map run (bytes_at line)

mark_stops : (t : List ℕ) (ts : List (List ℕ)) → IsListMark t → Stopping false (t ∷ ts)
mark_stops t ts (inl e) = subst (λ u. Stopping false (u ∷ ts)) (sym e) (stops_stopping false _ (comma_stops false ts))
mark_stops t ts (inr e) = subst (λ u. Stopping false (u ∷ ts)) (sym e) (stops_stopping false _ (close_stops false ts))

member_no_mark : (v : List ℕ) → IsMember v → IsListMark v → ⊥
member_no_mark v m (inl e) = let is : bytes_eq v (spelling word.Comma) ≡ true = same v (spelling word.Comma) e in let no = m.no_comma in cc
member_no_mark v m (inr e) = let is : bytes_eq v (spelling word.Close) ≡ true = same v (spelling word.Close) e in let no = m.no_close in cc

-- the tokens of a member: its attributes, its value, and the mark behind it
pub record Member (line : List ℕ) (tokens run left : List Token) (value mark : Token) : Type 0 where
  pub cut : tokens ≡ run ++ value ∷ mark ∷ left
  pub many : AreMany IsAttribute (texts line run)
  pub member : IsMember (bytes_at line value)
  pub marked : IsListMark (bytes_at line mark)

near : (line : List ℕ) (tokens run left : List Token) (value mark : Token) (n : ℕ) → Member line tokens run left value mark → AreLongest false (texts line tokens) n →
    (n ≡ length run) ⊎ (n ≡ suc (length run))
near line tokens run left value mark n m are =
    let cut = ap (texts line) m.cut ∙ map-append (bytes_at line) run (value ∷ mark ∷ left) ∙ ap (λ ts. ts ++ texts line (value ∷ mark ∷ left)) m.many.whole in
    let long : length (texts line run) ≡ length run = length-map run (bytes_at line) in
    let whole : length (texts line run) ≡ length _ = ap length m.many.whole in
    elim (longest_near m.many.items (bytes_at line value) (texts line (mark ∷ left)) (texts line tokens) n m.many.each m.member.passes (mark_stops (bytes_at line mark) (texts line left) m.marked) cut are) [
      | inl at ↦ inl (at ∙ sym whole ∙ long)
      | inr at ↦ inr (at ∙ ap suc (sym whole ∙ long))
    ]

value_there : (run left : List Token) (value mark d : Token) → get_or (run ++ value ∷ mark ∷ left) (length run) d ≡ value
value_there run left value mark d = get_or_at run value (mark ∷ left) d (length run) refl

mark_there : (run left : List Token) (value mark d : Token) → get_or (run ++ value ∷ mark ∷ left) (suc (length run)) d ≡ mark
mark_there run left value mark d =
    ap (λ ts. get_or ts (suc (length run)) d) (sym (append_assoc run (value ∷ []) (mark ∷ left)))
    ∙ get_or_at (run ++ value ∷ []) mark left d (suc (length run)) (length-append run (value ∷ []) ∙ omega arith)

-- the tokens do not end with the attributes
pub not_all : (line : List ℕ) (tokens run left : List Token) (value mark : Token) (n : ℕ) → Member line tokens run left value mark → AreLongest false (texts line tokens) n → n ≡ length tokens → ⊥
not_all line tokens run left value mark n m are e =
    let long : length tokens ≡ length run + suc (suc (length left)) = ap length m.cut ∙ length-append run (value ∷ mark ∷ left) in
    elim (near line tokens run left value mark n m are) [ inl at ↦ omega (arith, long, e, at) | inr at ↦ omega (arith, long, e, at) ]

-- behind the attributes stands the value where there is no mark
pub at_value : (line : List ℕ) (tokens run left : List Token) (value mark d : Token) (n : ℕ) → Member line tokens run left value mark → AreLongest false (texts line tokens) n →
    (IsListMark (bytes_at line (get_or tokens n d)) → ⊥) → n ≡ length run
at_value line tokens run left value mark d n m are no_mark =
    elim (near line tokens run left value mark n m are) [
      | inl at ↦ at
      | inr at ↦
          let there : get_or tokens n d ≡ mark = ap (λ ts. get_or ts n d) m.cut ∙ ap (λ k. get_or (run ++ value ∷ mark ∷ left) k d) at ∙ mark_there run left value mark d in
          absurd (no_mark (subst (λ t. IsListMark (bytes_at line t)) (sym there) m.marked))
    ]

-- and the mark where there is one
pub at_mark : (line : List ℕ) (tokens run left : List Token) (value mark d : Token) (n : ℕ) → Member line tokens run left value mark → AreLongest false (texts line tokens) n →
    IsListMark (bytes_at line (get_or tokens n d)) → n ≡ suc (length run)
at_mark line tokens run left value mark d n m are marked =
    elim (near line tokens run left value mark n m are) [
      | inl at ↦
          let there : get_or tokens n d ≡ value = ap (λ ts. get_or ts n d) m.cut ∙ ap (λ k. get_or (run ++ value ∷ mark ∷ left) k d) at ∙ value_there run left value mark d in
          absurd (member_no_mark (bytes_at line value) m.member (subst (λ t. IsListMark (bytes_at line t)) there marked))
      | inr at ↦ at
    ]

-- the tokens before the value are its attributes
pub before_value : (line : List ℕ) (tokens run left : List Token) (value mark : Token) (n : ℕ) → Member line tokens run left value mark → n ≡ suc (length run) →
    take (n - 1) tokens ≡ run ++ []
before_value line tokens run left value mark n m e =
    let one : n - 1 ≡ length run = omega (arith, e) in
    ap (take (n - 1)) m.cut ∙ take_at run (value ∷ mark ∷ left) (n - 1) (sym one) ∙ sym (append-nil run)
