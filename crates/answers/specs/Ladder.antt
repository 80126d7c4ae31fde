-- The tests of a file in document 01's order, and the answer of the first that fails. Assumes nothing: these are definitions.
use Rattle.std.specs.Prelude.{Result, Bool, List, [], ◌∷◌, ℕ, Ok, Err}
use Rattle.base.specs.Search.{Search, clean, wrong, first}
use Rattle.answers.specs.declared.Refusal.{Refusal}

-- what a layer of tests answers: go on, or the refusal
abbrev pub Check : Type 0
Check = Result (Unit {0}) Refusal

-- a refusal: number, file, place
abbrev pub refusal : ℕ → ℕ → ℕ → Refusal
refusal n f p = record { number = n; file = f; place = p }

-- one kind of fault: its number and file, how many things are tested, which of them are in order, and the place of each
pub record Rung : Type 0 where
  pub number : ℕ
  pub file : ℕ
  pub count : ℕ
  pub ok : ℕ → Bool
  pub place : ℕ → ℕ

-- a fault of the whole file, at place 0
abbrev pub whole : ℕ → ℕ → Bool → Rung
whole n f b = record { number = n; file = f; count = 1; ok = λ i. b; place = λ i. 0 }

-- the refusal of a rung at the thing that is out of order; what else is answered where none is
unfoldable pub answered : Rung → Search → Check → Check
answered r clean c = c
answered r (wrong i) c = Err (refusal r.number r.file (r.place i))

-- what the rungs answer: the first thing of the first rung that is out of order
unfoldable pub least : List Rung → Check
least [] = Ok tt
least (r ∷ rs) = let rest = least rs in answered r (first r.ok 0 r.count) rest

-- what a layer of tests answers, and what the next one does
abbrev pub and_then : Check → Check → Check
and_then (Ok tt) c = c
and_then (Err r) c = Err r
