-- What stands for a function that stands for f stands for f.
use Rattle.std.proofs.Common.{◌≡◌, ◌∙◌, sym, ℕ, ◌≤◌, arith}
use Rattle.ms_ir.specs.Func.{FuncState}
use Rattle.ms_meaning.specs.States.{Input, IsInput}
use Rattle.ms_meaning.specs.Runs.{run}
use Rattle.ms_meaning.specs.Refines.{IsMeant, Refines, HasInputsOf}

input_of : {f g : FuncState} {input : Input} → HasInputsOf g f → IsInput f input → IsInput g input
input_of h i = record { types = i.types ∙ sym h.params; args = i.args; bytes = i.bytes; answers = i.answers; globals = λ k named. i.globals k (h.globals k named) }

-- where f is never wrong, g is not
never_wrong : {f g : FuncState} {input : Input} → Refines g f → IsInput f input → ((n : ℕ) → IsMeant f input n) → (m : ℕ) → IsMeant g input m
never_wrong {input = input} r i meant m wrong = let p = r.no_more input i meant m in meant p.0 (p.2 ∙ wrong)

module _ {f g h : FuncState} (inputs : HasInputsOf g f) (first : Refines g f) (second : Refines h g) (input : Input) (i : IsInput f input) where
  shows_too : (n : ℕ) → IsMeant f input n → (m : ℕ) × (m ≤ n) × (run h input m ≡ run f input n)
  shows_too n meant =
      let p = first.shows input i n meant in
      let q = second.shows input (input_of inputs i) p.0 (λ wrong. meant (sym p.2 ∙ wrong)) in
      (q.0, (let a : q.0 ≤ p.0 = q.1 in let b : p.0 ≤ n = p.1 in omega arith), q.2 ∙ p.2)

  no_more_either : ((n : ℕ) → IsMeant f input n) → (m : ℕ) → (n : ℕ) × (m ≤ n) × (run f input n ≡ run h input m)
  no_more_either meant m =
      let q = second.no_more input (input_of inputs i) (never_wrong first i meant) m in
      let p = first.no_more input i meant q.0 in
      (p.0, (let a : m ≤ q.0 = q.1 in let b : q.0 ≤ p.0 = p.1 in omega arith), p.2 ∙ q.2)

pub transitive : (f g h : FuncState) → HasInputsOf g f → Refines g f → Refines h g → Refines h f
transitive f g h inputs first second = record { shows = shows_too inputs first second; no_more = no_more_either inputs first second }
