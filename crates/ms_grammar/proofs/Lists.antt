-- The members of a line's lists, each told by its tokens.
use Rattle.std.proofs.Common.{◌≡◌, ◌≢◌, ℕ, Bool, true, false, ◌&&◌, if◌then◌else◌, List, [], ◌∷◌, ◌++◌, Option, Some, None, refl, sym, subst}
use Rattle.std.specs.Str.{bytes_eq}
use Rattle.ms_lex.specs.Kinds.{is_number, is_token}
use Rattle.ms_lex.specs.declared.token.TokenKind.TheVariants.{Quoted, Group, Meta}
use Rattle.ms_grammar.specs.Words.{spelling}
use Rattle.ms_grammar.specs.Scan.{Mode, free, after_word, after_align, after_string, after_equals, after_meta, inside, may_end, is_free, begins, step, walk, Passes}
use Rattle.ms_grammar.specs.declared.keyword.Keyword.TheVariants as word

same_some : (m n : Mode) → Some m ≡ Some n → n ≡ m
same_some m n e = cc

begins_ends : (t : List ℕ) (next : Mode) → begins false t ≡ Some next → may_end next ≡ true
begins_ends t next e = by_word (is_free t) (bytes_eq t (spelling word.Align)) (is_token Quoted t) (is_token Group t) next e
  where
    by_word : (a b c d : Bool) (next : Mode) →
        (if a then (if b then Some after_align else Some after_word)
        else (if c then Some after_string else (if d then Some free else (if false && is_token Meta t then Some after_meta else None)))) ≡ Some next →
        may_end next ≡ true
    by_word true true c d next e = rw (same_some after_align next e) refl
    by_word true false c d next e = rw (same_some after_word next e) refl
    by_word false b true d next e = rw (same_some after_string next e) refl
    by_word false b false true next e = rw (same_some free next e) refl
    by_word false b false false next e = absurd (cc)

passing : (mode next : Mode) (t : List ℕ) → Passes t → may_end mode ≡ true → step false mode t ≡ Some next → may_end next ≡ true
passing free next t p e h = begins_ends t next h
passing after_word next t p e h = begins_ends t next (rw p.no_open at h)
passing after_align next t p e h = by_number (is_number t) next (rw p.no_open at h)
  where
    by_number : (b : Bool) (next : Mode) → (if b then Some free else begins false t) ≡ Some next → may_end next ≡ true
    by_number true next e = rw (same_some free next e) refl
    by_number false next e = begins_ends t next e
passing after_string next t p e h = begins_ends t next (rw p.no_equals at h)
passing after_equals next t p e h = absurd (cc)
passing after_meta next t p e h = absurd (cc)
passing (inside opened) next t p e h = absurd (cc)

-- a mark behind a list's member
pub record Parts (t : List ℕ) : Type 0 where
  pub stops : (mode : Mode) → may_end mode ≡ true → step false mode t ≡ None

-- a member is attributes and one token that ends before a mark: there is one way to cut it
pub record OneMember (us vs : List (List ℕ)) (v w : List ℕ) (ps qs : List (List ℕ)) : Type 0 where
  pub run : us ≡ vs
  pub last : v ≡ w
  pub behind : ps ≡ qs

dead : (o : Option Mode) (ts : List (List ℕ)) (last : Mode) → o ≡ None → walk false o ts ≡ Some last → ⊥
dead o ts last none e = let at : walk false None ts ≡ Some last = subst (λ p. walk false p ts ≡ Some last) none e in cc

-- attributes that go on over a member's last token reach no mark behind it
over_mark : (o : Option Mode) (p : List ℕ) (vs : List (List ℕ)) (second : Mode) → ((next : Mode) → o ≡ Some next → may_end next ≡ true) → Parts p →
    walk false o (p ∷ vs) ≡ Some second → ⊥
over_mark None p vs second ends parts e = cc
over_mark (Some next) p vs second ends parts e = dead (step false next p) vs second (parts.stops next (ends next refl)) e

pub one_member : (o : Option Mode) (us vs : List (List ℕ)) (v w p q : List ℕ) (ps qs : List (List ℕ)) (first second : Mode) →
    us ++ v ∷ p ∷ ps ≡ vs ++ w ∷ q ∷ qs → walk false o us ≡ Some first → walk false o vs ≡ Some second → may_end first ≡ true → may_end second ≡ true →
    Passes v → Passes w → Parts p → Parts q → (v ≢ q) → (w ≢ p) → OneMember us vs v w (p ∷ ps) (q ∷ qs)
one_member None us vs v w p q ps qs first second e a b a_ends b_ends v_passes w_passes p_parts q_parts vq wp = absurd (cc)
one_member (Some mode) [] [] v w p q ps qs first second e a b a_ends b_ends v_passes w_passes p_parts q_parts vq wp =
    record { run = refl; last = cc; behind = cc }
one_member (Some mode) [] (x ∷ []) v w p q ps qs first second e a b a_ends b_ends v_passes w_passes p_parts q_parts vq wp =
    let at : p ≡ w = cc in absurd (wp (sym at))
one_member (Some mode) [] (x ∷ (y ∷ vs)) v w p q ps qs first second e a b a_ends b_ends v_passes w_passes p_parts q_parts vq wp =
    let x_is : v ≡ x = cc in
    let y_is : p ≡ y = cc in
    let mode_is : first ≡ mode = cc in
    let mode_ends : may_end mode ≡ true = subst (λ m. may_end m ≡ true) mode_is a_ends in
    let x_passes : Passes x = subst (λ t. Passes t) x_is v_passes in
    let y_parts : Parts y = subst (λ t. Parts t) y_is p_parts in
    absurd (over_mark (step false mode x) y vs second (λ next h. passing mode next x x_passes mode_ends h) y_parts b)
one_member (Some mode) (x ∷ []) [] v w p q ps qs first second e a b a_ends b_ends v_passes w_passes p_parts q_parts vq wp =
    let at : v ≡ q = cc in absurd (vq at)
one_member (Some mode) (x ∷ (y ∷ us)) [] v w p q ps qs first second e a b a_ends b_ends v_passes w_passes p_parts q_parts vq wp =
    let x_is : w ≡ x = cc in
    let y_is : q ≡ y = cc in
    let mode_is : second ≡ mode = cc in
    let mode_ends : may_end mode ≡ true = subst (λ m. may_end m ≡ true) mode_is b_ends in
    let x_passes : Passes x = subst (λ t. Passes t) x_is w_passes in
    let y_parts : Parts y = subst (λ t. Parts t) y_is q_parts in
    absurd (over_mark (step false mode x) y us first (λ next h. passing mode next x x_passes mode_ends h) y_parts a)
one_member (Some mode) (x ∷ us) (y ∷ vs) v w p q ps qs first second e a b a_ends b_ends v_passes w_passes p_parts q_parts vq wp =
    let same_token : x ≡ y = cc in
    let left : us ++ v ∷ p ∷ ps ≡ vs ++ w ∷ q ∷ qs = cc in
    let b_x : walk false (step false mode x) vs ≡ Some second = subst (λ t. walk false (step false mode t) vs ≡ Some second) (sym same_token) b in
    let rest = one_member (step false mode x) us vs v w p q ps qs first second left a b_x a_ends b_ends v_passes w_passes p_parts q_parts vq wp in
    let run : us ≡ vs = rest.run in
    record { run = cc; last = rest.last; behind = rest.behind }
