-- The run of a statement list over a value table: document 01's "Runs". Assumes nothing.
use Rattle.std.specs.Prelude.{Bool, true, false, cond, List, [], ◌∷◌, ◌++◌, map, ℕ, suc, length, get_or}
use Rattle.std.proofs.Math.Bool.{decide}
use Rattle.std.proofs.Math.Option.{Option, none, some}
use Rattle.std.proofs.Math.Decide.{ℕ_discrete}
use Rattle.calculus.specs.Signature.{Signature, same_two}
use Rattle.calculus.specs.Terms.{Atom, same_atom, Value, Build, same_build, map_build, built, map_act, Side, left, right, Statement, act, half, build}
use Rattle.calculus.specs.Tables.{Entry, same_entry, kind_entry}
use Rattle.running.specs.Values.{View, pair_parts, tree, index}
use Rattle.running.specs.Acts.{Out, goes, stops, finished, no_pair, Tests, perform, Result, ended, and_then, EndsWithin}

-- a register: does it mean a symbol, and its value
pub record Register (W : Type 0) : Type 0 where
  pub for_symbol : Bool
  pub value : W

-- a register that means a symbol
abbrev pub symbol_register : {W : Type 0} → W → Register W
symbol_register v = record { for_symbol = true; value = v }

-- a register that means a compound term
abbrev pub term_register : {W : Type 0} → W → Register W
term_register v = record { for_symbol = false; value = v }

-- the values in registers that mean symbols
unfoldable pub held : {W : Type 0} → List (Register W) → List W
held [] = []
held (r ∷ rs) = cond r.for_symbol (r.value ∷ held rs) (held rs)

-- what register p holds; z stands for one that is not given
abbrev pub holds : {W : Type 0} → W → List (Register W) → ℕ → W
holds z rs p = (get_or rs p (term_register z)).value

-- the left or the right one of two
unfoldable pub side_of : {W : Type 0} → Side → W × W → W
side_of left h = h.0
side_of right h = h.1

-- half of a pair goes into a register that means a symbol
unfoldable pub half_of : {W : Type 0} → Side → List W → Option (W × W) → Out W (Register W)
half_of d su none = stops no_pair [] su
half_of d su (some h) = goes [] (symbol_register (side_of d h) ∷ []) su

-- what is bound goes into registers that mean symbols
unfoldable pub in_registers : {W : Type 0} → Out W (ℕ × W) → Out W (Register W)
in_registers (goes ms bs su) = goes ms (map (λ b. symbol_register b.1) bs) su
in_registers (stops e ms su) = stops e ms su

module _ (𝓢 : Signature) where
  -- where values are kept: how they are seen, and how one is made of others
  pub record Store (W S : Type 0) : Type 0 where
    pub view : S → View 𝓢 W
    pub make : S → Build 𝓢 W → W × S

  module _ {W S : Type 0} (K : Store W S) (ts : Tests 𝓢) where
    -- one statement: the store after it, and what it comes to
    unfoldable pub execute : S → List (Register W) → List W → Statement 𝓢 → S × Out W (Register W)
    execute st rs su (act a) = (st, in_registers (perform 𝓢 (K.view st) ts (held rs) su (map_act 𝓢 (holds (K.view st).blank rs) a)))
    execute st rs su (half d p x) = (st, half_of d su (pair_parts 𝓢 ((K.view st).shape (holds (K.view st).blank rs p))))
    execute st rs su (build b) = let m = K.make st (map_build 𝓢 (holds (K.view st).blank rs) b) in (m.1, goes [] (term_register m.0 ∷ []) su)

    -- a list's statements, one after the other
    unfoldable pub run : List (Statement 𝓢) → S → List (Register W) → List W → Result W S
    run [] st rs su = ended finished [] su st
    run (s ∷ ss) st rs su = let o = execute st rs su s in and_then o.0 o.1 (λ new su'. run ss o.0 (rs ++ new) su')

    -- the statement index of a run's answer: N where it finished, else below N
    abbrev pub RunsEndWithin : Type 0
    RunsEndWithin = (ss : List (Statement 𝓢)) (st : S) (rs : List (Register W)) (su : List W) → EndsWithin (length ss) (run ss st rs su)

  -- ── The value table ──

  -- equality of entries is decided
  abbrev pub same_value_entry : Discrete (Entry 𝓢 Atom)
  same_value_entry = same_entry (same_atom ℕ_discrete) (same_build 𝓢.same_one ℕ_discrete (same_two 𝓢.same_seal))

  -- the first place, from number i on, of an entry
  unfoldable pub place_from : ℕ → Entry 𝓢 Atom → List (Entry 𝓢 Atom) → Option ℕ
  place_from i e [] = none
  place_from i e (f ∷ es) = cond (decide (same_value_entry e f)) (some i) (place_from (suc i) e es)

  -- where it is found, or at the end
  unfoldable pub placed : List (Entry 𝓢 Atom) → Entry 𝓢 Atom → Option ℕ → ℕ × List (Entry 𝓢 Atom)
  placed es e (some i) = (i, es)
  placed es e none = (length es, es ++ (e ∷ []))

  -- a made value: its index, and the table with it; one not yet present is appended
  unfoldable pub made : List (Entry 𝓢 Atom) → Build 𝓢 ℕ → ℕ × List (Entry 𝓢 Atom)
  made es b = placed es (kind_entry b) (place_from 0 (kind_entry b) es)

  -- values are kept in a table
  abbrev pub table : Store ℕ (List (Entry 𝓢 Atom))
  table = record { view = index 𝓢; make = made }

  -- values as trees need no table
  abbrev pub trees : Store (Value 𝓢) (Unit {0})
  trees = record { view = λ u. tree 𝓢; make = λ u b. (built 𝓢 b, tt) }
