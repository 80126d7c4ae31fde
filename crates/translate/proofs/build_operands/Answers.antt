-- `translate::build_operands` meets its contract. Assumes nothing.
use Rattle.std.proofs.Common.{ℕ, ◌≡◌, ◌<◌, List, ◌⊎◌, sym, ◌∙◌, arith, Ok}
use borrow.Author.Rules.{rules}
use Rattle.answers.specs.Ladder.{least}
use Rattle.entries.specs.Fields.{code}
use Rattle.table_layout.specs.Layout.{terms as terms_of, steps, steps_at, step_field}
use Rattle.table.specs.Faults.{table_rungs}
use Rattle.decoded.proofs.Tabled.{step_known}
use Rattle.rendering.specs.Judge.{Meaning}
use Rattle.translate.specs.declared.Progress.{Progress}
use Rattle.translate.specs.Stepwise.{Making, built, more, after, operands_built}
use Rattle.translate.specs.Making.{Stands, Ready}
use Rattle.translate.proofs.BuiltLaws.{built_grows}
use Rattle.translate.proofs.Writing.{ready_first, ready_second, stands_both, ready_as, stands_as, stands_none}
use Rattle.translate.proofs.StepLaws.{none_built, one_built, two_built, first_there, second_there}
use Rattle.translate.proofs.build_operands.Goals as goal

-- ── What is known on the way ──

-- step k has the op, and its first term is a
module _ (s : List ℕ) (k : ℕ) {op : ℕ} (g : op ≡ code s 1 (steps_at s) k) {a : ℕ} (f : a ≡ step_field s k 0) where
  -- it may be the only one
  only : (op ≡ 1) ⊎ (op ≡ 4) → (ms : List Meaning) → operands_built s k ms ≡ built s a ms
  only q ms = rw f (one_built s k op (sym g) q ms)

  only_ready : (op ≡ 1) ⊎ (op ≡ 4) → (r : Making) {p : Progress} {y o : List ℕ} → Ready (operands_built s k) r p y o → Ready (built s a) r p y o
  only_ready n r q = ready_as (operands_built s k) (built s a) r (only n r.1) q

  only_done : (op ≡ 1) ⊎ (op ≡ 4) → (r : Making) {p : Progress} {y o : List ℕ} → Stands (more (built s a) r) p y o → Stands (more (operands_built s k) r) p y o
  only_done n r d = stands_as (operands_built s k) (built s a) r (only n r.1) d

  -- it is there
  module _ (e : least (table_rungs s) ≡ Ok tt) (h : k < steps s) where
    op_known : op < 6
    op_known = omega (arith, step_known s e k h, g)

    first : (op ≡ 2 → ⊥) → a < terms_of s
    first n = rw f (first_there s k e h op (sym g) op_known n)

    -- the second is b, and there too
    module _ {b : ℕ} (t : b ≡ step_field s k 1) (n₂ : op ≡ 2 → ⊥) (n₁ : op ≡ 1 → ⊥) (n₄ : op ≡ 4 → ⊥) where
      second : b < terms_of s
      second = rw t (second_there s k e h op (sym g) op_known n₂ n₁ n₄)

      both : (ms : List Meaning) → operands_built s k ms ≡ after (built s a) (built s b) ms
      both ms = rw (f, t) (two_built s k op (sym g) op_known n₂ n₁ n₄ ms)

      module _ {r : Making} {p : Progress} {y o : List ℕ} (q : Ready (operands_built s k) r p y o) where
        both_ready : Ready (after (built s a) (built s b)) r p y o
        both_ready = ready_as (operands_built s k) (after (built s a) (built s b)) r (both r.1) q

        first_ready : Ready (built s a) r p y o
        first_ready = ready_first (built s a) (built s b) r both_ready (omega (arith, built_grows s b (built s a r.1).1))

        module _ {p₁ : Progress} {o₁ : List ℕ} (d : Stands (more (built s a) r) p₁ y o₁) where
          second_ready : Ready (built s b) (more (built s a) r) p₁ y o₁
          second_ready = ready_second (built s a) (built s b) r both_ready d

          both_done : {p₂ : Progress} {o₂ : List ℕ} → Stands (more (built s b) (more (built s a) r)) p₂ y o₂ → Stands (more (operands_built s k) r) p₂ y o₂
          both_done d₂ = stands_as (operands_built s k) (after (built s a) (built s b)) r (both r.1) (stands_both (built s a) (built s b) r d₂)

-- ── The goals ──

pub returns-in-2 : goal.returns-in-2
returns-in-2 c r y q = stands_none (operands_built c.args.s.now c.args.k) r (none_built _ _ (sym c.step_code.ensures ∙ c.in-2.is) r.1) q.stands

pub build_term-requires : goal.build_term-requires
build_term-requires c =
    let g = c.step_code.ensures in
    let f = c.step_field-a.ensures in
    (c.requires.0, first _ _ g f c.requires.0 c.requires.1 (search rules), (_, _, only_ready _ _ g f c.in-1.is _ c.requires.2.2))

pub returns-in-1 : goal.returns-in-1
returns-in-1 c r y q =
    let g = c.step_code.ensures in
    let f = c.step_field-a.ensures in
    only_done _ _ g f c.in-1.is r (c.build_term.ensures r y (only_ready _ _ g f c.in-1.is r q))

pub build_term-requires-in_default : goal.build_term-requires-in_default
build_term-requires-in_default c =
    let g = c.step_code.ensures in
    let f = c.step_field-a.ensures in
    let t = c.step_field-b.ensures in
    let e = c.requires.0 in
    let h = c.requires.1 in
    (e, first _ _ g f e h (search rules), (_, _, first_ready _ _ g f e h t (search rules) (search rules) (search rules) c.requires.2.2))

pub build_term-requires-in_default-2 : goal.build_term-requires-in_default-2
build_term-requires-in_default-2 c =
    let g = c.step_code.ensures in
    let f = c.step_field-a.ensures in
    let t = c.step_field-b.ensures in
    let e = c.requires.0 in
    let h = c.requires.1 in
    let q = c.requires.2.2 in
    let d = c.build_term-in_default.ensures _ _ (first_ready _ _ g f e h t (search rules) (search rules) (search rules) q) in
    (e, second _ _ g f e h t (search rules) (search rules) (search rules), (_, _, second_ready _ _ g f e h t (search rules) (search rules) (search rules) q d))

pub returns-in_default : goal.returns-in_default
returns-in_default c r y q =
    let g = c.step_code.ensures in
    let f = c.step_field-a.ensures in
    let t = c.step_field-b.ensures in
    let e = c.requires.0 in
    let h = c.requires.1 in
    let d = c.build_term-in_default.ensures r y (first_ready _ _ g f e h t (search rules) (search rules) (search rules) q) in
    both_done _ _ g f e h t (search rules) (search rules) (search rules) q d (c.build_term-in_default-2.ensures _ y (second_ready _ _ g f e h t (search rules) (search rules) (search rules) q d))
