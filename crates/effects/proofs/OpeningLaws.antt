-- Halves, decryption and builds: one law for each way out. Assumes nothing.
use mathlib.Core.Path.{◌≡◌, refl, sym, ◌∙◌}
use mathlib.Core.Bool.{decide}
use mathlib.Core.Option.{none, some}
use mathlib.Core.List.{List, append-nil}
use Prim.Native.Nat.{ℕ, zero, suc, ◌+◌, ◌*◌, ◌<◌}
use native.Mathlib.Omega.{arith}
use borrow.Author.Tests.{eq-eqb, ne_eqb}
use Rattle.calculus.specs.Signature.{Two, seal}
use Rattle.calculus.specs.Terms.{Atom, build2, decrypt, Side, left, right}
use Rattle.calculus.specs.Tables.{Entry, kind_entry, entry_at}
use Rattle.calculus.specs.Version1.{Seal1, encryption, signature1}
use Rattle.running.specs.Values.{pair_parts, turns, inside, locked, unsealed, open_shape, entry_shape, index}
use Rattle.running.specs.Acts.{number_of, passes, opening, perform}
use Rattle.running.specs.Lists.{term_register, side_of, half_of, in_registers}
use Rattle.decoded.specs.Table.{two_code}
use Rattle.decoded.proofs.ValueLaws.{no_atom}
use Rattle.value_table.specs.Values.{tag_at, part_at}
use Rattle.value_table.specs.Kept.{Kept, Makes}
use Rattle.value_table.specs.declared.Made.{Made}
use Rattle.value_table.proofs.Reading.{tag_small, entry_atom, entry_pair, entry_seal}
use Rattle.run_parts.specs.Registers.{register_number, Gives}
use Rattle.run_parts.proofs.RegisterLaws.{given_symbol}
use Rattle.run_parts.proofs.KeptLaws.{passes_kept}
use Rattle.std.specs.Bool.{⊤}
use Rattle.std.proofs.Common.{Result, Ok, Err}
use Rattle.effects.specs.Effects.{acting, side_number, halving, building, Binds, binds_on, binds_end, ending_number, Does}
use Rattle.effects.specs.declared.State.{State}
use Rattle.effects.specs.declared.Ending.{Ending as CodeEnding}
use Rattle.effects.specs.declared.Ending.TheVariants.{WrongKey, OpenedLacks, NoPair, NoCiphertext}
use Rattle.effects.proofs.ActLaws.{entry_of, goes_on, ends}

-- ── By the tag of a value that is kept ──

module _ {z w : List ℕ} {es : List (Entry signature1 Atom)} {n : ℕ} (k : Kept z es w n) (v t : ℕ) (e : t ≡ tag_at w n v) where
  pair_there : t ≡ 1 → pair_parts signature1 (entry_shape signature1 (entry_at signature1 no_atom es v)) ≡ some (part_at w n v 0, part_at w n v 1)
  unfolding pair_parts entry_shape
  pair_there h = rw (sym (entry_of k v) ∙ entry_pair w n v (sym e ∙ h))

  seal_there : t ≡ 2 → entry_at signature1 no_atom es v ≡ kind_entry (build2 (seal encryption) (part_at w n v 0) (part_at w n v 1))
  seal_there h = sym (entry_of k v) ∙ entry_seal w n v (sym e ∙ h)

no_pair_by : {z w : List ℕ} {es : List (Entry signature1 Atom)} {n : ℕ} → Kept z es w n → (v t : ℕ) → t ≡ tag_at w n v → ¬ (t ≡ 1)
    → pair_parts signature1 (entry_shape signature1 (entry_at signature1 no_atom es v)) ≡ none
unfolding pair_parts entry_shape
no_pair_by {w = w} {n = n} k v zero e h = rw (sym (entry_of k v) ∙ entry_atom w n v (sym e))
no_pair_by k v (suc zero) e h = absurd (h refl)
no_pair_by {w = w} {n = n} k v (suc (suc zero)) e h = rw (sym (entry_of k v) ∙ entry_seal w n v (sym e))
no_pair_by {w = w} {n = n} k v (suc (suc (suc t))) e h = absurd (let q = tag_small w n v in omega arith)

no_seal_by : {z w : List ℕ} {es : List (Entry signature1 Atom)} {n : ℕ} → Kept z es w n → (v key t : ℕ) → t ≡ tag_at w n v → ¬ (t ≡ 2)
    → open_shape signature1 (index signature1 es) encryption key (entry_shape signature1 (entry_at signature1 no_atom es v)) ≡ unsealed
unfolding open_shape entry_shape
no_seal_by {w = w} {n = n} k v key zero e h = rw (sym (entry_of k v) ∙ entry_atom w n v (sym e))
no_seal_by {w = w} {n = n} k v key (suc zero) e h = rw (sym (entry_of k v) ∙ entry_pair w n v (sym e))
no_seal_by k v key (suc (suc zero)) e h = absurd (h refl)
no_seal_by {w = w} {n = n} k v key (suc (suc (suc t))) e h = absurd (let q = tag_small w n v in omega arith)

-- the key of a ciphertext is the one at hand, or not
opens : {z w : List ℕ} {es : List (Entry signature1 Atom)} {n : ℕ} → Kept z es w n → (v key t : ℕ) → t ≡ tag_at w n v → t ≡ 2 → part_at w n v 1 ≡ key
    → open_shape signature1 (index signature1 es) encryption key (entry_shape signature1 (entry_at signature1 no_atom es v)) ≡ inside (part_at w n v 0)
unfolding open_shape entry_shape turns decide
opens {w = w} {n = n} k v key t e h q = rw (seal_there k v t e h, eq-eqb (part_at w n v 1) key q)

stays_shut : {z w : List ℕ} {es : List (Entry signature1 Atom)} {n : ℕ} → Kept z es w n → (v key t : ℕ) → t ≡ tag_at w n v → t ≡ 2 → ¬ (part_at w n v 1 ≡ key)
    → open_shape signature1 (index signature1 es) encryption key (entry_shape signature1 (entry_at signature1 no_atom es v)) ≡ locked
unfolding open_shape entry_shape turns decide
stays_shut {w = w} {n = n} k v key t e h q = rw (seal_there k v t e h, ne_eqb (part_at w n v 1) key q)

-- ── Halves ──

module _ (w g : List ℕ) (s : State) (v t : ℕ) (e : t ≡ tag_at w s.count v) where
  pub half_none : ¬ (t ≡ 1) → (d : Side) (l tr o : List ℕ) → Does 0 0 (halving d v) l tr w w o o g g s s (Err NoPair)
  unfolding halving half_of number_of ending_number
  half_none h d l tr o = record {
    does = λ As i z y es rs su ms k r.
        rw (no_pair_by k.kept v t e h) (ends refl k.kept (rw (append-nil ms) k.said) k.given k.left);
  }

  pub half_done : t ≡ 1 → (j x : ℕ) → x ≡ part_at w s.count v j → (u : x < 65536) (g' : List ℕ) (q : ℕ) → Gives g s.registers (2 * x + 1) g' q → (d : Side) (l tr o : List ℕ) → side_number d ≡ j
      → Does 0 0 (halving d v) l tr w w o o g g' s (record { used = s.used; logged = s.logged; count = s.count; registers = q }) (Ok tt)
  unfolding halving half_of
  half_done h j x p u g' q f d l tr o i = record {
    does = λ As c z y es rs su ms k r.
        rw (pair_there k.kept v t e h, side d i)
        (goes_on k.kept (rw (append-nil ms) k.said) (given_symbol x u f k.given (omega (arith, k.given.count, r.few_registers))) k.left);
  }
    where
      side : (d : Side) → side_number d ≡ j → side_of d (part_at w s.count v 0, part_at w s.count v 1) ≡ x
      side left i = rw (p, ← i) (unfold side_of side_number in refl)
      side right i = rw (p, ← i) (unfold side_of side_number in refl)

-- ── Decryption ──

module _ (l w g : List ℕ) (s : State) (v key x t : ℕ) (e : t ≡ tag_at w s.count v) where
  pub decrypt_none : ¬ (t ≡ 2) → (tr o : List ℕ) → Does 0 0 (acting (decrypt encryption v key x)) l tr w w o o g g s s (Err NoCiphertext)
  unfolding acting perform opening in_registers number_of ending_number
  decrypt_none h tr o = record {
    does = λ As i z y es rs su ms k r.
        rw (no_seal_by k.kept v key t e h) (ends refl k.kept (rw (append-nil ms) k.said) k.given k.left);
  }

  module _ (h : t ≡ 2) (b : ℕ) (p : b ≡ part_at w s.count v 1) where
    pub decrypt_locked : ¬ (b ≡ key) → (tr o : List ℕ) → Does 0 0 (acting (decrypt encryption v key x)) l tr w w o o g g s s (Err WrongKey)
    unfolding acting perform opening in_registers number_of ending_number
    decrypt_locked n tr o = record {
      does = λ As i z y es rs su ms k r.
          rw (stays_shut k.kept v key t e h (λ q. n (p ∙ q))) (ends refl k.kept (rw (append-nil ms) k.said) k.given k.left);
    }

    pub decrypt_bound : b ≡ key → (a : ℕ) → a ≡ part_at w s.count v 0 → {g' : List ℕ} {s' : State} {q : Result ⊤ CodeEnding} → Binds l w g g' s s' x a OpenedLacks q → (tr o : List ℕ)
        → Does 0 0 (acting (decrypt encryption v key x)) l tr w w o o g g' s s' q
    unfolding acting perform opening passes in_registers number_of ending_number
    decrypt_bound m a c (binds_on u d j) tr o = record {
      does = λ As y z y' es rs su ms k r.
          rw (opens k.kept v key t e h (sym p ∙ m), sym c, passes_kept As y k.kept u)
          (goes_on k.kept (rw (append-nil ms) k.said) (given_symbol a d j k.given (omega (arith, k.given.count, r.few_registers))) k.left);
    }
    decrypt_bound m a c (binds_end u) tr o = record {
      does = λ As y z y' es rs su ms k r.
          rw (opens k.kept v key t e h (sym p ∙ m), sym c, passes_kept As y k.kept u)
          (ends refl k.kept (rw (append-nil ms) k.said) k.given k.left);
    }

-- ── Builds ──

pub build_done : (w w' g g' : List ℕ) (s : State) (tag v u : ℕ) (m : Made) (q : ℕ) → Makes w s.count tag v u w' m → (d : m.index < 65536) → Gives g s.registers (2 * m.index) g' q
    → (k : Two Seal1) (l tr o : List ℕ) → two_code k ≡ tag
    → Does 1 0 (building k v u) l tr w w' o o g g' s (record { used = s.used; logged = s.logged; count = m.count; registers = q }) (Ok tt)
unfolding building register_number
build_done w w' g g' s tag v u m q p d f k l tr o c = record {
  does = λ As t z y es rs su ms i r.
      let n = i.kept.count in
      let j = p.makes k z es c i.kept (omega (arith, n, r.value_room)) (omega (arith, n, r.few_values)) in
      goes_on j.1 (rw (append-nil ms) i.said) (f.gives rs (term_register _) (omega (arith, j.0)) (omega arith) i.given (omega (arith, i.given.count, r.few_registers))) i.left;
}
