-- Which symbols each step binds, which of them are bound again (number 8), and which terms hold a symbol that is bound in their
-- step or later (number 9). Assumes nothing: these are definitions.
use Rattle.std.specs.Prelude.{Bool, true, not, List, [], ◌∷◌, ◌++◌, ℕ, zero, suc, leb, eqb, get_or}
use Rattle.base.specs.Pick.{pick, both, either}
use Rattle.answers.specs.Ladder.{Rung}
use Rattle.codes.specs.Rows.{part_role, symbol_role, name_role, variable_role, term_role as step_term_role}
use Rattle.table_layout.specs.Layout.{terms, steps, term_field, term_role, step_field, step_role}

-- field j of step k binds a symbol
unfoldable pub is_binder : List ℕ → ℕ → ℕ → Bool
is_binder s k j = either (eqb (step_role s k j) name_role) (eqb (step_role s k j) variable_role)

-- field j of step k binds x
abbrev pub binds_at : List ℕ → ℕ → ℕ → ℕ → Bool
binds_at s k j x = both (is_binder s k j) (eqb (step_field s k j) x)

-- step k binds x
unfoldable pub binds : List ℕ → ℕ → ℕ → Bool
binds s k x = either (binds_at s k 2 x) (binds_at s k 3 x)

-- one more than the last of the first n steps that binds x; 0 if none does
unfoldable pub binder : List ℕ → ℕ → ℕ → ℕ
binder s x zero = 0
binder s x (suc n) = pick (binds s n x) (suc n) (binder s x n)

-- field j of step k binds a symbol that an earlier step binds
unfoldable pub again : List ℕ → ℕ → ℕ → Bool
again s k j = both (is_binder s k j) (not (eqb (binder s (step_field s k j) k) 0))

-- step k binds one symbol twice
unfoldable pub twice : List ℕ → ℕ → Bool
twice s k = both (is_binder s k 2) (both (is_binder s k 3) (eqb (step_field s k 2) (step_field s k 3)))

-- step k binds no symbol that is bound already
unfoldable pub binds_new : List ℕ → ℕ → Bool
binds_new s k = not (either (again s k 2) (either (again s k 3) (twice s k)))

-- ── the latest binding step inside each term: one more than it, 0 where the term holds free symbols only ──

abbrev pub larger : ℕ → ℕ → ℕ
larger a b = pick (leb a b) b a

-- of field j of term i, given those of the lower terms
unfoldable pub field_latest : List ℕ → List ℕ → ℕ → ℕ → ℕ
field_latest s lower i j =
    pick (eqb (term_role s i j) symbol_role) (binder s (term_field s i j) (steps s))
    (pick (eqb (term_role s i j) part_role) (get_or lower (term_field s i j) 0) 0)

-- of the first n terms, in order
unfoldable pub latest : List ℕ → ℕ → List ℕ
latest s zero = []
latest s (suc n) = latest s n ++ (larger (field_latest s (latest s n) n 0) (field_latest s (latest s n) n 1) ∷ [])

-- field j of step k is no term, or all that the term holds is bound before step k
unfoldable pub field_in_scope : List ℕ → ℕ → ℕ → Bool
field_in_scope s k j = pick (eqb (step_role s k j) step_term_role) (leb (get_or (latest s (terms s)) (step_field s k j) 0) k) true

unfoldable pub in_scope : List ℕ → ℕ → Bool
in_scope s k = both (field_in_scope s k 0) (field_in_scope s k 1)

-- ── 8 and 9: a symbol bound again, and one used before it is bound, at the step ──

abbrev pub bind_rung : List ℕ → Rung
bind_rung s = record { number = 8; file = 0; count = steps s; ok = binds_new s; place = λ k. k }

abbrev pub scope_rung : List ℕ → Rung
scope_rung s = record { number = 9; file = 0; count = steps s; ok = in_scope s; place = λ k. k }

abbrev pub bind_rungs : List ℕ → List Rung
bind_rungs s = bind_rung s ∷ scope_rung s ∷ []
