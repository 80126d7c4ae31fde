-- Building a term in the code's order: left part, right part, then the statement that makes it. Assumes that 1 to 9 pass.
use mathlib.Core.Path.{◌≡◌, refl}
use mathlib.Core.Bool.{false}
use mathlib.Core.List.{List, [], ◌∷◌, ◌++◌}
use Prim.Native.Nat.{ℕ, zero, suc, ◌+◌, ◌<◌, ◌≤◌}
use native.Mathlib.Omega.{arith}
use lib.ListN.{length, length-append}
use Rattle.answers.specs.Ladder.{least}
use Rattle.buffers.specs.Over.{Appended}
use Rattle.entries.specs.Fields.{code}
use Rattle.table_layout.specs.Layout.{terms, terms_at, term_field}
use Rattle.table.specs.Faults.{table_rungs}
use Rattle.calculus.specs.Terms.{Statement}
use Rattle.calculus.specs.Version1.{signature1}
use Rattle.rendering.specs.Judge.{Meaning, term}
use Rattle.entries.specs.Tiling.{joined}
use Rattle.decoded_list.specs.Bytes.{statement_bytes, statements_bytes, two_op}
use Rattle.decoded.specs.Indexes.{kind_of}
use Rattle.registers.specs.Held.{settled}
use Rattle.registers.proofs.RegisterLaws.{register_right}
use Rattle.translate.specs.declared.Progress.{Progress}
use Rattle.translate.specs.Stepwise.{Making, built, making, more, after}
use Rattle.translate.specs.Making.{Holds, Stands, Ready, Gives, make_bytes}
use Rattle.decoded.proofs.Tabled.{IsCompound}
use Rattle.translate.proofs.BuiltLaws.{built_grows, Unsettled, not_settled, built_made}
use Rattle.translate.proofs.Writing.{room_after, stated_after, ready_first, ready_second, stands_both, ready_as, stands_as}
use Rattle.std.proofs.Common.{Ok}

module _ (s : List ℕ) (e : least (table_rungs s) ≡ Ok tt) where
  -- the statement that makes a compound term is written, and its register is noted
  op_right : (i : ℕ) → IsCompound s i → ¬ (code s 0 (terms_at s) i ≡ 0) → two_op (kind_of (code s 0 (terms_at s) i)) ≡ code s 0 (terms_at s) i + 6
  unfolding two_op kind_of
  op_right i c n = go (code s 0 (terms_at s) i) c.code_small n
    where
      go : (op : ℕ) → op < 3 → ¬ (op ≡ 0) → two_op (kind_of op) ≡ op + 6
      go zero l n = absurd (n refl)
      go (suc zero) l n = refl
      go (suc (suc zero)) l n = refl
      go (suc (suc (suc op))) l n = absurd (omega arith)

  -- the parts of term i are a and b
  module _ (i : ℕ) (l : i < terms s) {a b : ℕ} (f : a ≡ term_field s i 0) (g : b ≡ term_field s i 1) where
    abbrev parts_built : List Meaning → Making
    parts_built = after (built s a) (built s b)

    make_grows : (ms : List Meaning) → length ms ≤ length (making s i ms).1
    unfolding making
    make_grows ms = rw length-append (omega arith)

    making_holds : (ms : List Meaning) (z : Progress) → Holds (ms ++ (term i ∷ [])) z → Holds (making s i ms).1 z
    unfolding making
    making_holds ms z h = h

    -- something is made, and the term can be built after it; but it is not built yet
    module _ {r : Making} {p : Progress} {y o : List ℕ} (h : Ready (built s i) r p y o) (q : settled s i p.terms ≡ false) where
      unsettled : Unsettled s e i r.1
      unsettled = not_settled s e i l r.1 p.terms h.stands.holds.of_terms q

      pub compound : IsCompound s i
      compound = unsettled.compound

      pub left_lower : a < i
      left_lower = rw f compound.left_lower

      pub right_lower : b < i
      right_lower = rw g compound.right_lower

      made : built s i r.1 ≡ after parts_built (making s i) r.1
      made = rw (f, g) (built_made s e i l r.1 unsettled)

      all_ready : Ready (after parts_built (making s i)) r p y o
      all_ready = ready_as (built s i) (after parts_built (making s i)) r made h

      parts_ready : Ready parts_built r p y o
      parts_ready = ready_first parts_built (making s i) r all_ready (make_grows (parts_built r.1).1)

      pub left_ready : Ready (built s a) r p y o
      left_ready = ready_first (built s a) (built s b) r parts_ready (omega (arith, built_grows s b (built s a r.1).1))

      -- its left part is built
      module _ {p₁ : Progress} {o₁ : List ℕ} (d₁ : Stands (more (built s a) r) p₁ y o₁) where
        pub right_ready : Ready (built s b) (more (built s a) r) p₁ y o₁
        right_ready = ready_second (built s a) (built s b) r parts_ready d₁

        -- and its right part
        module _ {p₂ : Progress} {o₂ : List ℕ} (d₂ : Stands (more (built s b) (more (built s a) r)) p₂ y o₂) where
          parts_done : Stands (more parts_built r) p₂ y o₂
          parts_done = stands_both (built s a) (built s b) r d₂

          make_ready : Ready (making s i) (more parts_built r) p₂ y o₂
          make_ready = ready_second parts_built (making s i) r all_ready parts_done

          -- the statement that makes it
          abbrev statements : List (Statement signature1)
          statements = (making s i (parts_built r.1).1).0

          statements_right : statements_bytes statements ≡ make_bytes s i p₂.symbols p₂.terms p₂.registers
          unfolding making make_bytes joined statement_bytes
          statements_right =
              let left : a < terms s = omega (arith, left_lower) in
              let right : b < terms s = omega (arith, right_lower) in
              rw (← f, ← g, register_right s e a left (parts_built r.1).1 parts_done.holds, register_right s e b right (parts_built r.1).1 parts_done.holds, op_right i compound compound.not_zero) refl

          pub make_fits : (p₂.registers < 255) × (p₂.at + 4 ≤ length o₂)
          unfolding make_bytes
          make_fits =
              let k : p₂.at + length (make_bytes s i p₂.symbols p₂.terms p₂.registers) ≤ length o₂ = rw statements_right at (room_after parts_done statements make_ready.fits.room) in
              (omega (arith, parts_done.holds.count, make_grows (parts_built r.1).1, make_ready.fits.few), k)

          pub made_done : {p₃ : Progress} {o₃ : List ℕ} → Appended (make_bytes s i p₂.symbols p₂.terms p₂.registers) p₂.at o₂ o₃ p₃.at → Gives (term i) p₂ p₃ → Stands (more (built s i) r) p₃ y o₃
          made_done {p₃} w t =
              stands_as (built s i) (after parts_built (making s i)) r made (stands_both parts_built (making s i) r (stated_after parts_done statements (rw statements_right w) (making_holds (parts_built r.1).1 p₃ (t.holds (parts_built r.1).1 parts_done.holds))))
