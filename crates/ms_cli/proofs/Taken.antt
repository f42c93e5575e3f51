-- What a sink has taken, after one write and another.
use Rattle.std.proofs.Common.{◌≡◌, ◌<◌, ◌≤◌, ℕ, ◌+◌, ◌-◌, List, [], ◌∷◌, ◌++◌, length, take, drop, Option, Some, None, Result, Ok, Err, refl, ap, sym, ◌∙◌, append_assoc, arith, subst}
use Rattle.std.proofs.lemmas.List.{append-nil, take-append-le, take-append-drop, take_rest, length-drop}
use Rattle.std.proofs.Math.Seq.{take-add}
use Rattle.std.specs.Option.{option_map}
use Rattle.ms_io.specs.Faults.{Rose}
use Rattle.ms_io.specs.declared.faults.SinkFault.{SinkFault}
use Rattle.ms_cli.specs.Taken.{TakesFront, IsWhole, IsCut, TakesAll}

told_then : (told : Option (List ℕ)) (a b : List ℕ) → option_map (λ t. t ++ b) (option_map (λ t. t ++ a) told) ≡ option_map (λ t. t ++ (a ++ b)) told
told_then None a b = refl
told_then (Some t) a b = ap Some (append_assoc t a b)

pub written_then : (w v u : Option (List ℕ)) (a b : List ℕ) → v ≡ option_map (λ t. t ++ a) w → u ≡ option_map (λ t. t ++ b) v → u ≡ option_map (λ t. t ++ (a ++ b)) w
written_then w v u a b p q = q ∙ ap (option_map (λ t. t ++ b)) p ∙ told_then w a b

pub empty_front : (a b : List ℕ) → a ++ b ≡ [] → a ≡ []
empty_front [] b e = refl
empty_front (x ∷ a) b e = cc

pub whole_then : {a b : List ℕ} {w v u : Option (List ℕ)} {f g h : ℕ} → IsWhole a w v f g → IsWhole b v u g h → IsWhole (a ++ b) w u f h
whole_then {a} {b} {w} {v} {u} p q = record { written = written_then w v u a b p.written q.written; kept = q.kept ∙ p.kept }

-- a fault after bytes that were all taken
pub whole_then_cut : {a b : List ℕ} {w v u : Option (List ℕ)} {f g h : ℕ} → IsWhole a w v f g → IsCut b v u g h → IsCut (a ++ b) w u f h
whole_then_cut {a} {b} {w} {v} {u} {f} {g} {h} p q =
    let t = q.taken in
    let rose : Rose f h = let P : ℕ → Type 0 = λ k. Rose k h in subst P p.kept q.risen in
    record {
      taken = record {
        front = a ++ t.front;
        rest = t.rest;
        bytes_are = ap (λ k. a ++ k) t.bytes_are ∙ sym (append_assoc a t.front t.rest);
        written = written_then w v u a t.front p.written t.written;
        whole = λ no. absurd (no rose);
        kept = λ e. t.kept e ∙ p.kept;
        later = omega (arith, p.kept, t.later);
      };
      risen = rose;
    }

-- bytes behind those that a fault cut off
pub cut_more : {a : List ℕ} {w v : Option (List ℕ)} {f g : ℕ} (b : List ℕ) → IsCut a w v f g → IsCut (a ++ b) w v f g
cut_more {a} {w} {v} {f} {g} b q =
    let t = q.taken in
    record {
      taken = record {
        front = t.front;
        rest = t.rest ++ b;
        bytes_are = ap (λ k. k ++ b) t.bytes_are ∙ append_assoc t.front t.rest b;
        written = t.written;
        whole = λ no. absurd (no q.risen);
        kept = λ e. t.kept (empty_front t.rest b e);
        later = t.later;
      };
      risen = q.risen;
    }

-- all of them is a front of them
pub front_of_whole : {a : List ℕ} {w v : Option (List ℕ)} {f g : ℕ} → IsWhole a w v f g → TakesFront a w v f g
front_of_whole {a} {w} {v} {f} {g} p = record {
  front = a;
  rest = [];
  bytes_are = sym (append-nil a);
  written = p.written;
  whole = λ _. refl;
  kept = λ _. p.kept;
  later = omega (arith, p.kept);
}

-- the answer of a write that was cut off
pub cut_answer : {a : List ℕ} {w v : Option (List ℕ)} {f g : ℕ} (r : Result (Unit {0}) SinkFault) (e : SinkFault) → r ≡ Err e → IsCut a w v f g → TakesAll a w v f g r
cut_answer {a} {w} {v} {f} {g} r e is cut = let P : Result (Unit {0}) SinkFault → Type 0 = λ q. TakesAll a w v f g q in subst P (sym is) cut

told_nothing : (told : Option (List ℕ)) → told ≡ option_map (λ t. t ++ []) told
told_nothing None = refl
told_nothing (Some t) = ap Some (sym (append-nil t))

nothing_taken : (b : List ℕ) (v u : Option (List ℕ)) (g h : ℕ) → 0 < length b → u ≡ v → Rose g h → g ≤ h → IsCut b v u g h
nothing_taken b v u g h some same rose later = record {
  taken = record {
    front = [];
    rest = b;
    bytes_are = refl;
    written = same ∙ told_nothing v;
    whole = λ no. absurd (no rose);
    kept = λ e. absurd (omega (arith, some, ap length e));
    later = later;
  };
  risen = rose;
}

-- a fault where this many bytes were taken and some are left
pub cut_at : {bytes : List ℕ} {at : ℕ} {w v u : Option (List ℕ)} {f g h : ℕ} → at < length bytes → IsWhole (take at bytes) w v f g → u ≡ v → Rose g h → g ≤ h → IsCut bytes w u f h
cut_at {bytes} {at} {w} {v} {u} {f} {g} {h} some p same rose later =
    let P : List ℕ → Type 0 = λ b. IsCut b w u f h in
    subst P (take-append-drop at bytes) (whole_then_cut p (nothing_taken (drop at bytes) v u g h (simp length-drop (omega arith)) same rose later))

take_front : (n k : ℕ) (xs : List ℕ) → n ≤ length (take k xs) → take n (take k xs) ≡ take n xs
take_front n k xs h = sym (take-append-le n (take k xs) (drop k xs) h) ∙ ap (take n) (take-append-drop k xs)

-- the front that was taken, and what a write took of a piece behind it
pub front_more : (bytes : List ℕ) (at count n : ℕ) → n ≤ length (take count (take (length bytes - at) (drop at bytes)))
    → take at bytes ++ take n (take count (take (length bytes - at) (drop at bytes))) ≡ take (at + n) bytes
front_more bytes at count n h =
    ap (λ k. take at bytes ++ k) (take_front n count _ h ∙ ap (take n) (take_rest bytes at)) ∙ sym (take-add at n bytes)

pub cut_same : {a b : List ℕ} {w v : Option (List ℕ)} {f g : ℕ} → a ≡ b → IsCut a w v f g → IsCut b w v f g
cut_same {a} {b} {w} {v} {f} {g} e q = let P : List ℕ → Type 0 = λ k. IsCut k w v f g in subst P e q

pub whole_same : {a b : List ℕ} {w v : Option (List ℕ)} {f g : ℕ} → a ≡ b → IsWhole a w v f g → IsWhole b w v f g
whole_same {a} {b} {w} {v} {f} {g} e q = let P : List ℕ → Type 0 = λ k. IsWhole k w v f g in subst P e q

-- what was taken is a front, whatever the answer
pub front_of_all : {a : List ℕ} {w v : Option (List ℕ)} {f g : ℕ} (r : Result (Unit {0}) SinkFault) → TakesAll a w v f g r → TakesFront a w v f g
front_of_all (Ok _) p = front_of_whole p
front_of_all (Err _) q = q.taken
