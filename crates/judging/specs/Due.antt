-- What is due at a step, by the bytes of the table, and which terms a build may make. Assumes nothing: these are definitions.
use Rattle.std.specs.Prelude.{◌≡◌, Bool, false, List, [], ◌∷◌, ◌++◌, map, ℕ, zero, suc, ◌+◌, ◌-◌, ◌<◌, eqb, drop}
use Rattle.base.specs.Pick.{pick, both}
use Rattle.codes.specs.Rows.{cell}
use Rattle.entries.specs.Fields.{code}
use Rattle.entries.specs.Tiling.{listed}
use Rattle.table_layout.specs.Layout.{steps, terms_at, steps_at, term_field, step_field}
use Rattle.calculus.specs.Terms.{map_act}
use Rattle.calculus.specs.Version1.{signature1}
use Rattle.rendering.specs.Rendering.{halves, dues}
use Rattle.rendering.specs.Judge.{Meaning, symbol, DuesByIndex}
use Rattle.decoded.specs.Table.{step_at}
use Rattle.decoded.specs.Indexes.{meaning_of}
use Rattle.judging.specs.Meanings.{Known, meant_at}
use Rattle.judging.specs.declared.Registers.{Registers}

-- what is due from step k on; where the left half of a split is done, all but that
unfoldable pub due_from : List ℕ → ℕ → Bool → DuesByIndex signature1
due_from t k half = drop (pick half 1 0) (dues signature1 halves k (map (map_act signature1 (meaning_of t)) (listed (step_at t) k (steps t - k))))

-- the op of the statement that a step makes due, by the step's op
unfoldable pub due_op : ℕ → Bool → ℕ
due_op zero half = 0
due_op (suc zero) half = 1
due_op (suc (suc zero)) half = 2
due_op (suc (suc (suc zero))) half = 3
due_op (suc (suc (suc (suc zero)))) half = pick half 5 4
due_op (suc (suc (suc (suc (suc zero))))) half = 6
due_op (suc (suc (suc (suc (suc (suc op)))))) half = 9

-- the registers of a statement mean the terms of step k, and its symbol is the one bound; they mean p and q
unfoldable pub operands_due : List ℕ → ℕ → ℕ → ℕ → ℕ → ℕ → Bool
operands_due s k zero p q x = both (eqb (meant_at s (step_field s k 0)) p) (eqb (meant_at s (step_field s k 1)) q)
operands_due s k (suc zero) p q x = both (eqb (meant_at s (step_field s k 0)) p) (eqb (step_field s k 2) x)
operands_due s k (suc (suc zero)) p q x = eqb (step_field s k 2) x
operands_due s k (suc (suc (suc zero))) p q x = both (eqb (meant_at s (step_field s k 0)) p) (eqb (meant_at s (step_field s k 1)) q)
operands_due s k (suc (suc (suc (suc zero)))) p q x = both (eqb (meant_at s (step_field s k 0)) p) (eqb (step_field s k 2) x)
operands_due s k (suc (suc (suc (suc (suc zero))))) p q x = both (eqb (meant_at s (step_field s k 0)) p) (eqb (step_field s k 3) x)
operands_due s k (suc (suc (suc (suc (suc (suc zero)))))) p q x =
    both (eqb (meant_at s (step_field s k 0)) p) (both (eqb (meant_at s (step_field s k 1)) q) (eqb (step_field s k 2) x))
operands_due s k (suc (suc (suc (suc (suc (suc (suc op))))))) p q x = false

-- a statement is the one that step k makes due
unfoldable pub is_due : List ℕ → ℕ → Bool → ℕ → ℕ → ℕ → ℕ → Bool
is_due s k half op p q x = both (eqb op (due_op (code s 1 (steps_at s) k) half)) (operands_due s k op p q x)

-- after a statement of step k: the step that is due, and whether its left half is done
abbrev pub step_after : ℕ → ℕ → ℕ
step_after op k = pick (eqb op 4) k (k + 1)

abbrev pub half_after : ℕ → Bool
half_after op = eqb op 4

-- what the register means that a statement of a step gives, if it gives one
abbrev pub new_of : ℕ → ℕ → List Meaning
new_of op x = pick (eqb (cell 2 op 4) 0) [] (symbol x ∷ [])

-- whatever the registers mean, what the statement gives follows
abbrev pub BindsNext : ℕ → ℕ → Registers → Registers → Type 0
BindsNext op x r r' = (ms : List Meaning) → (¬ (cell 2 op 4 ≡ 0) → x < 128) → Known ms r → Known (ms ++ new_of op x) r'

-- term i is of a kind, and its parts mean p and q
unfoldable pub fits_at : List ℕ → ℕ → ℕ → ℕ → ℕ → Bool
fits_at s kind p q i = both (eqb (code s 0 (terms_at s) i) kind) (both (eqb (meant_at s (term_field s i 0)) p) (eqb (meant_at s (term_field s i 1)) q))
