-- Sending, receiving, fresh names and comparing: one law for each way out. Assumes nothing.
use mathlib.Core.Path.{◌≡◌, refl, sym, ap, ◌∙◌}
use mathlib.Core.Bool.{Bool, true, false}
use mathlib.Core.List.{List, [], ◌∷◌, ◌++◌, append-nil}
use Prim.Native.Nat.{ℕ, zero, suc, ◌+◌, ◌-◌, ◌*◌, ◌<◌, ◌≤◌}
use native.Mathlib.Omega.{arith}
use lib.ListN.{length}
use borrow.Author.Tests.{eq-eqb, ne_eqb}
use Rattle.entries.specs.Tiling.{listed}
use Rattle.trace.specs.Layout.{supplies, supply}
use Rattle.calculus.specs.Terms.{Atom, send, receive, fresh, compare}
use Rattle.calculus.specs.Tables.{Entry, entry_at}
use Rattle.calculus.specs.Version1.{signature1}
use Rattle.running.specs.Values.{is_fresh, is_atom, entry_shape, index}
use Rattle.running.specs.Acts.{Ending, Logged, logged, sent, received, number_of, goes, stops, passes, perform}
use Rattle.running.specs.Lists.{Register, held, in_registers}
use Rattle.decoded.proofs.ValueLaws.{no_atom}
use Rattle.value_table.specs.Values.{table_at, tag_at}
use Rattle.value_table.specs.Kept.{Kept}
use Rattle.value_table.proofs.Reading.{tag_small, entry_atom, entry_pair, entry_seal}
use Rattle.value_table.proofs.Keeping.{kept_table}
use Rattle.run_parts.specs.Registers.{Given}
use Rattle.run_parts.specs.Messages.{direction_number, Said, Says}
use Rattle.run_parts.specs.Supply.{Left}
use Rattle.run_parts.proofs.RegisterLaws.{given_symbol}
use Rattle.run_parts.proofs.KeptLaws.{supply_none, supply_first, supply_next, passes_kept}
use Rattle.freshness.specs.Fresh.{FreshBy}
use Rattle.std.specs.Bool.{⊤}
use Rattle.std.proofs.Common.{Result, Ok, Err}
use Rattle.effects.specs.Effects.{acting, Keeps, Supplied, supply_left, supply_ends, Binds, binds_on, binds_end, Room, Comes, comes_on, comes_end, ending_number, Does}
use Rattle.effects.specs.declared.State.{State}
use Rattle.effects.specs.declared.Ending.{Ending as CodeEnding}
use Rattle.effects.specs.declared.Ending.TheVariants.{NoSupply, NotEqual, ReceivedLacks, NotFresh, FreshLacks}

-- what is kept where a run goes on, and where it ends
module _ {tr z y : List ℕ} {es : List (Entry signature1 Atom)} {rs : List (Register ℕ)} {ms ns : List (Logged ℕ)} {w o g su : List ℕ} {s : State} where
  pub goes_on : {bs : List (Register ℕ)} → Kept z es w s.count → Said y (ms ++ ns) o s.logged → Given (rs ++ bs) g s.registers → Left tr su s.used
      → Comes tr z y es rs ms w o g s (goes ns bs su) (Ok tt)
  goes_on {bs} a b c d = let k : Keeps tr z y es (rs ++ bs) su (ms ++ ns) w o g s = record { kept = a; said = b; given = c; left = d } in comes_on k

  pub ends : {e : Ending} {n : CodeEnding} → ending_number n ≡ number_of e → Kept z es w s.count → Said y (ms ++ ns) o s.logged → Given rs g s.registers → Left tr su s.used
      → Comes tr z y es rs ms w o g s (stops e ns su) (Err n)
  ends q a b c d = let k : Keeps tr z y es rs su (ms ++ ns) w o g s = record { kept = a; said = b; given = c; left = d } in comes_end q k

-- what is known of the next supplied value
module _ {tr : List ℕ} {used : ℕ} where
  pub next_left : {v : ℕ} → Supplied tr used (Ok v) → (used < supplies tr) × (v ≡ supply tr used) × (supplies tr ≤ 65535)
  next_left (supply_left h m) = (h, refl, m)

  pub none_left : {e : CodeEnding} → Supplied tr used (Err e) → (supplies tr ≤ used) × (e ≡ NoSupply)
  none_left (supply_ends h) = (h, refl)

-- ── Send ──

pub sent_done : (o o' : List ℕ) (s : State) (c v n : ℕ) → Says o s.logged 0 c v o' n → (l tr w g : List ℕ)
    → Does 0 1 (acting (send c v)) l tr w w o o' g g s (record { used = s.used; logged = n; count = s.count; registers = s.registers }) (Ok tt)
unfolding acting perform in_registers direction_number
sent_done o o' s c v n d l tr w g = record {
  does = λ As t z y es rs su ms k r.
      let m = k.said.count in
      goes_on k.kept (d.says sent y ms refl k.said (omega (arith, m, r.message_room)) (omega (arith, m, r.few_messages))) (rw (append-nil rs) k.given) k.left;
}

-- ── Receive ──

module _ (l tr w o g : List ℕ) (s : State) (c x : ℕ) where
  pub receive_none : supplies tr ≤ s.used → Does 0 1 (acting (receive c x)) l tr w w o o g g s s (Err NoSupply)
  unfolding acting perform in_registers number_of ending_number
  receive_none h = record {
    does = λ As t z y es rs su ms k r.
        let e = supply_none k.left h in
        rw e (ends refl k.kept (rw (append-nil ms) k.said) k.given (rw e at k.left));
  }

  module _ (h : s.used < supplies tr) (v : ℕ) (e : v ≡ supply tr s.used) (o' : List ℕ) (n : ℕ) (d : Says o s.logged 1 c v o' n) where
    logs : {y : List ℕ} {ms : List (Logged ℕ)} → Said y ms o s.logged → 5 * (length ms + 1) ≤ length y → length ms + 1 ≤ 65535 → Said y (ms ++ (logged received c v ∷ [])) o' n
    unfolding direction_number
    logs {y} {ms} k r q = let m = k.count in d.says received y ms refl k (omega (arith, m)) (omega (arith, m))

    pub receive_bound : {g' : List ℕ} {s' : State} {q : Result ⊤ CodeEnding} → Binds l w g g' (record { used = s.used + 1; logged = n; count = s.count; registers = s.registers }) s' x v ReceivedLacks q
        → Does 0 1 (acting (receive c x)) l tr w w o o' g g' s s' q
    unfolding acting perform passes in_registers number_of ending_number
    receive_bound (binds_on p u f) = record {
      does = λ As t z y es rs su ms k r.
          rw (supply_first k.left h e, passes_kept As t k.kept p)
          (goes_on k.kept (logs k.said r.message_room r.few_messages) (given_symbol v u f k.given (omega (arith, k.given.count, r.few_registers))) (supply_next tr s.used h));
    }
    receive_bound (binds_end p) = record {
      does = λ As t z y es rs su ms k r.
          rw (supply_first k.left h e, passes_kept As t k.kept p)
          (ends refl k.kept (logs k.said r.message_room r.few_messages) k.given (supply_next tr s.used h));
    }

-- ── Fresh ──

-- an atom, or not, by its tag
module _ {z w : List ℕ} {es : List (Entry signature1 Atom)} {n : ℕ} (k : Kept z es w n) (v : ℕ) where
  -- value v is read
  pub entry_of : entry_at signature1 no_atom (table_at w n) v ≡ entry_at signature1 no_atom es v
  entry_of = ap (λ (l : List (Entry signature1 Atom)). entry_at signature1 no_atom l v) (kept_table k)

  pub atom_there : (t : ℕ) → t ≡ tag_at w n v → t ≡ 0 → is_atom signature1 (entry_shape signature1 (entry_at signature1 no_atom es v)) ≡ true
  unfolding is_atom entry_shape
  atom_there t e h = rw (sym entry_of ∙ entry_atom w n v (sym e ∙ h))

  pub atom_not_there : (t : ℕ) → t ≡ tag_at w n v → ¬ (t ≡ 0) → is_atom signature1 (entry_shape signature1 (entry_at signature1 no_atom es v)) ≡ false
  unfolding is_atom entry_shape
  atom_not_there zero e h = absurd (h refl)
  atom_not_there (suc zero) e h = rw (sym entry_of ∙ entry_pair w n v (sym e))
  atom_not_there (suc (suc zero)) e h = rw (sym entry_of ∙ entry_seal w n v (sym e))
  atom_not_there (suc (suc (suc t))) e h = absurd (let q = tag_small w n v in omega arith)

module _ (l tr w g : List ℕ) (s : State) (x : ℕ) where
  pub fresh_none : supplies tr ≤ s.used → (o : List ℕ) → Does 0 0 (acting (fresh x)) l tr w w o o g g s s (Err NoSupply)
  unfolding acting perform in_registers number_of ending_number
  fresh_none h o = record {
    does = λ As t z y es rs su ms k r.
        let e = supply_none k.left h in
        rw e (ends refl k.kept (rw (append-nil ms) k.said) k.given (rw e at k.left));
  }

  module _ (h : s.used < supplies tr) (v : ℕ) (e : v ≡ supply tr s.used) (t : ℕ) (a : t ≡ tag_at w s.count v) where
    -- where v is used
    abbrev onward : ℕ → State
    onward q = record { used = s.used + 1; logged = s.logged; count = s.count; registers = q }

    -- what is kept where the run stops
    kept_end : {z y : List ℕ} {es : List (Entry signature1 Atom)} {rs : List (Register ℕ)} {su : List ℕ} {ms : List (Logged ℕ)} {o : List ℕ} → Keeps tr z y es rs su ms w o g s
        → Keeps tr z y es rs (listed (supply tr) (s.used + 1) (supplies tr - (s.used + 1))) (ms ++ []) w o g (onward s.registers)
    kept_end {ms = ms} k = record { kept = k.kept; said = rw (append-nil ms) k.said; given = k.given; left = supply_next tr s.used h }

    pub fresh_no_atom : ¬ (t ≡ 0) → (o : List ℕ) → Does 0 0 (acting (fresh x)) l tr w w o o g g s (onward s.registers) (Err NotFresh)
    unfolding acting perform in_registers number_of ending_number
    fresh_no_atom d o = record {
      does = λ As i z y es rs su ms k r. rw (supply_first k.left h e, atom_not_there k.kept v t a d) (comes_end refl (kept_end k));
    }

    module _ (d : t ≡ 0) (f : Bool) (q : FreshBy w s.count g s.registers v f) where
      -- what the test says of what is kept
      fresh_is : {z y : List ℕ} {es : List (Entry signature1 Atom)} {rs : List (Register ℕ)} {su : List ℕ} {ms : List (Logged ℕ)} {o : List ℕ} → Keeps tr z y es rs su ms w o g s → Room 0 0 z y es rs ms
          → is_fresh signature1 (index signature1 es) (held rs) v ≡ f
      fresh_is {z} {es = es} {rs = rs} k r = sym (q.answer z es rs k.kept k.given (omega (arith, r.few_values)))

      pub fresh_held : f ≡ false → (o : List ℕ) → Does 0 0 (acting (fresh x)) l tr w w o o g g s (onward s.registers) (Err NotFresh)
      unfolding acting perform in_registers number_of ending_number
      fresh_held j o = record {
        does = λ As i z y es rs su ms k r.
            let b : is_fresh signature1 (index signature1 es) (held rs) v ≡ false = fresh_is k r ∙ j in
            rw (supply_first k.left h e, atom_there k.kept v t a d, b) (comes_end refl (kept_end k));
      }

      pub fresh_bound : f ≡ true → {g' : List ℕ} {s' : State} {i : Result ⊤ CodeEnding} → Binds l w g g' (onward s.registers) s' x v FreshLacks i → (o : List ℕ) → Does 0 0 (acting (fresh x)) l tr w w o o g g' s s' i
      unfolding acting perform passes in_registers number_of ending_number
      fresh_bound j (binds_on p u m) o = record {
        does = λ As c z y es rs su ms k r.
            let b : is_fresh signature1 (index signature1 es) (held rs) v ≡ true = fresh_is k r ∙ j in
            rw (supply_first k.left h e, atom_there k.kept v t a d, b, passes_kept As c k.kept p)
            (goes_on k.kept (rw (append-nil ms) k.said) (given_symbol v u m k.given (omega (arith, k.given.count, r.few_registers))) (supply_next tr s.used h));
      }
      fresh_bound j (binds_end p) o = record {
        does = λ As c z y es rs su ms k r.
            let b : is_fresh signature1 (index signature1 es) (held rs) v ≡ true = fresh_is k r ∙ j in
            rw (supply_first k.left h e, atom_there k.kept v t a d, b, passes_kept As c k.kept p) (comes_end refl (kept_end k));
      }

-- ── Compare ──

pub compare_same : (s : State) (v u : ℕ) → v ≡ u → (l tr w o g : List ℕ) → Does 0 0 (acting (compare v u)) l tr w w o o g g s s (Ok tt)
unfolding acting perform in_registers
compare_same s v u e l tr w o g = record {
  does = λ As t z y es rs su ms k r.
      rw (eq-eqb v u e) (goes_on k.kept (rw (append-nil ms) k.said) (rw (append-nil rs) k.given) k.left);
}

pub compare_other : (s : State) (v u : ℕ) → ¬ (v ≡ u) → (l tr w o g : List ℕ) → Does 0 0 (acting (compare v u)) l tr w w o o g g s s (Err NotEqual)
unfolding acting perform in_registers number_of ending_number
compare_other s v u e l tr w o g = record {
  does = λ As t z y es rs su ms k r.
      rw (ne_eqb v u e) (ends refl k.kept (rw (append-nil ms) k.said) k.given k.left);
}
