-- What a statement adds: a value if it builds, a message if it sends or receives, and a register at most. Assumes nothing.
use mathlib.Core.Path.{◌≡◌}
use mathlib.Core.Bool.{Bool, true, false, cond, ◌&&◌}
use mathlib.Core.Option.{Option, none, some}
use mathlib.Core.List.{List, [], ◌∷◌}
use Prim.Native.Nat.{ℕ, zero, suc, ◌+◌, ◌≤◌}
use native.Mathlib.Omega.{arith}
use lib.ListN.{length, length-append}
use Rattle.calculus.specs.Terms.{Atom, Build, map_build, Act, send, receive, fresh, compare, split, decrypt, map_act, Side, Statement, act, half, build}
use Rattle.calculus.specs.Tables.{Entry, kind_entry}
use Rattle.calculus.specs.Version1.{Seal1, signature1}
use Rattle.running.specs.Values.{Opening, inside, locked, unsealed, is_atom, is_fresh, open_shape, index}
use Rattle.running.specs.Acts.{Logged, logged, received, Ending, not_equal, received_lacks, opened_lacks, not_fresh, fresh_lacks, Out, goes, stops, Tests, passes, opening, perform}
use Rattle.running.specs.Lists.{Register, held, holds, half_of, in_registers, execute, place_from, placed, made, table}
use Rattle.running.specs.Demand3.{builds, speaks, messages}
use Rattle.decoded_list.specs.Statements.{statement_of}

-- ── Counts ──

module _ (st : Statement signature1) (ss : List (Statement signature1)) where
  -- the first statement and the rest
  pub builds_first : builds signature1 (st ∷ ss) ≡ builds signature1 (st ∷ []) + builds signature1 ss
  unfolding builds
  builds_first = by st
    where
      by : (st : Statement signature1) → builds signature1 (st ∷ ss) ≡ builds signature1 (st ∷ []) + builds signature1 ss
      by (act a) = omega arith
      by (half d p x) = omega arith
      by (build b) = omega arith

  pub messages_first : messages signature1 (st ∷ ss) ≡ messages signature1 (st ∷ []) + messages signature1 ss
  unfolding messages speaks
  messages_first = by st
    where
      by : (st : Statement signature1) → messages signature1 (st ∷ ss) ≡ messages signature1 (st ∷ []) + messages signature1 ss
      by (act (send a b)) = omega arith
      by (act (receive a x)) = omega arith
      by (act (fresh x)) = omega arith
      by (act (compare a b)) = omega arith
      by (act (split a x y)) = omega arith
      by (act (decrypt s a b x)) = omega arith
      by (half d p x) = omega arith
      by (build b) = omega arith

one_build : (st : Statement signature1) → builds signature1 (st ∷ []) ≤ 1
unfolding builds
one_build (act a) = omega arith
one_build (half d p x) = omega arith
one_build (build b) = omega arith

one_message : (st : Statement signature1) → messages signature1 (st ∷ []) ≤ 1
unfolding messages speaks
one_message (act (send a b)) = omega arith
one_message (act (receive a x)) = omega arith
one_message (act (fresh x)) = omega arith
one_message (act (compare a b)) = omega arith
one_message (act (split a x y)) = omega arith
one_message (act (decrypt s a b x)) = omega arith
one_message (half d p x) = omega arith
one_message (build b) = omega arith

-- no more than there are statements
pub builds_few : (ss : List (Statement signature1)) → builds signature1 ss ≤ length ss
unfolding builds
builds_few [] = omega arith
builds_few (s ∷ ss) = omega (arith, builds_first s ss, one_build s, builds_few ss)

pub messages_few : (ss : List (Statement signature1)) → messages signature1 ss ≤ length ss
unfolding messages
messages_few [] = omega arith
messages_few (s ∷ ss) = omega (arith, messages_first s ss, one_message s, messages_few ss)

-- ── What is new ──

-- at most m messages and, where the run goes on, one register
pub data Small (m : ℕ) : Out ℕ (Register ℕ) → Type 0 where
  small_on : {ns : List (Logged ℕ)} {bs : List (Register ℕ)} {su : List ℕ} → length ns ≤ m → length bs ≤ 1 → Small m (goes ns bs su)
  small_end : {e : Ending} {ns : List (Logged ℕ)} {su : List ℕ} → length ns ≤ m → Small m (stops e ns su)

none_of_none : 0 ≤ 0
none_of_none = omega arith

none_of_one : 0 ≤ 1
none_of_one = omega arith

one_of_one : 1 ≤ 1
one_of_one = omega arith

module _ (ts : Tests signature1) (es : List (Entry signature1 Atom)) (rs : List (Register ℕ)) where
  abbrev acted : List ℕ → Act signature1 ℕ → Out ℕ (Register ℕ)
  acted su a = in_registers (perform signature1 (index signature1 es) ts (held rs) su a)

  small_send : (su : List ℕ) (c v : ℕ) → Small 1 (acted su (send c v))
  unfolding perform in_registers
  small_send su c v = small_on one_of_one none_of_one

  small_receive : (su : List ℕ) (c x : ℕ) → Small 1 (acted su (receive c x))
  unfolding perform in_registers
  small_receive [] c x = small_end none_of_one
  small_receive (v ∷ su) c x = go (passes signature1 ts (index signature1 es) x v)
    where
      go : (t : Bool) → Small 1 (in_registers (cond t (goes (logged received c v ∷ []) ((x, v) ∷ []) su) (stops received_lacks (logged received c v ∷ []) su)))
      go true = small_on one_of_one one_of_one
      go false = small_end one_of_one

  small_fresh : (su : List ℕ) (x : ℕ) → Small 0 (acted su (fresh x))
  unfolding perform in_registers
  small_fresh [] x = small_end none_of_none
  small_fresh (v ∷ su) x = go (is_atom signature1 ((index signature1 es).shape v) && is_fresh signature1 (index signature1 es) (held rs) v) (passes signature1 ts (index signature1 es) x v)
    where
      go : (a t : Bool) → Small 0 (in_registers (cond a (cond t (goes [] ((x, v) ∷ []) su) (stops fresh_lacks [] su)) (stops not_fresh [] su)))
      go true true = small_on none_of_none one_of_one
      go true false = small_end none_of_none
      go false t = small_end none_of_none

  small_compare : (su : List ℕ) (v w : ℕ) → Small 0 (acted su (compare v w))
  unfolding perform in_registers
  small_compare su v w = go ((index signature1 es).same v w)
    where
      go : (t : Bool) → Small 0 (in_registers (cond t (goes [] [] su) (stops not_equal [] su)))
      go true = small_on none_of_none none_of_one
      go false = small_end none_of_none

  small_decrypt : (su : List ℕ) (s : Seal1) (v k x : ℕ) → Small 0 (acted su (decrypt s v k x))
  unfolding perform in_registers opening
  small_decrypt su s v k x = go (open_shape signature1 (index signature1 es) s k ((index signature1 es).shape v))
    where
      by : (t : Bool) (w : ℕ) → Small 0 (in_registers (cond t (goes [] ((x, w) ∷ []) su) (stops opened_lacks [] su)))
      by true w = small_on none_of_none one_of_one
      by false w = small_end none_of_none

      go : (o : Opening signature1 ℕ) → Small 0 (in_registers (opening signature1 (λ w. passes signature1 ts (index signature1 es) x w) x su o))
      go (inside w) = by (passes signature1 ts (index signature1 es) x w) w
      go locked = small_end none_of_none
      go unsealed = small_end none_of_none

small_half : (d : Side) (su : List ℕ) (o : Option (ℕ × ℕ)) → Small 0 (half_of d su o)
unfolding half_of
small_half d su none = small_end none_of_none
small_half d su (some h) = small_on none_of_none one_of_one

-- a made value is one more at most
made_longer : (es : List (Entry signature1 Atom)) (b : Build signature1 ℕ) → length (made signature1 es b).1 ≤ length es + 1
unfolding made
made_longer es b = go (place_from signature1 0 (kind_entry b) es)
  where
    go : (o : Option ℕ) → length (placed signature1 es (kind_entry b) o).1 ≤ length es + 1
    go (some i) = unfold placed in (omega arith)
    go none = unfold placed in rw (length-append es (kind_entry b ∷ [])) (omega arith)

-- ── A statement from its bytes ──

module _ (ts : Tests signature1) (es : List (Entry signature1 Atom)) (rs : List (Register ℕ)) (su : List ℕ) where
  abbrev executed : Statement signature1 → List (Entry signature1 Atom) × Out ℕ (Register ℕ)
  executed st = execute signature1 (table signature1) ts es rs su st

  pub store_longer : (st : Statement signature1) → length (executed st).0 ≤ length es + builds signature1 (st ∷ [])
  unfolding execute builds
  store_longer (act a) = omega arith
  store_longer (half d p x) = omega arith
  store_longer (build b) = made_longer es (map_build signature1 (holds 0 rs) b)

  pub small_statement : (op p q x : ℕ) → Small (messages signature1 (statement_of op p q x ∷ [])) (executed (statement_of op p q x)).1
  unfolding statement_of execute messages speaks map_act
  small_statement zero p q x = small_send ts es rs su _ _
  small_statement (suc zero) p q x = small_receive ts es rs su _ _
  small_statement (suc (suc zero)) p q x = small_fresh ts es rs su _
  small_statement (suc (suc (suc zero))) p q x = small_compare ts es rs su _ _
  small_statement (suc (suc (suc (suc zero)))) p q x = small_half _ su _
  small_statement (suc (suc (suc (suc (suc zero))))) p q x = small_half _ su _
  small_statement (suc (suc (suc (suc (suc (suc zero)))))) p q x = small_decrypt ts es rs su _ _ _ _
  small_statement (suc (suc (suc (suc (suc (suc (suc zero))))))) p q x = small_on none_of_none one_of_one
  small_statement (suc (suc (suc (suc (suc (suc (suc (suc zero)))))))) p q x = small_on none_of_none one_of_one
  small_statement (suc (suc (suc (suc (suc (suc (suc (suc (suc op))))))))) p q x = small_fresh ts es rs su _
