-- What one act does, over values that are trees or indexes: list and process share this definition. Assumes nothing.
use Rattle.std.specs.Prelude.{◌≡◌, Bool, true, cond, ◌&&◌, List, [], ◌∷◌, ◌++◌, ℕ, suc, ◌<◌}
use Rattle.std.proofs.Math.Option.{Option, none, some}
use Rattle.types.specs.Types.{Ty}
use Rattle.calculus.specs.Signature.{Signature}
use Rattle.calculus.specs.Terms.{Act, send, receive, fresh, compare, split, decrypt}
use Rattle.running.specs.Values.{View, visible, is_fresh, is_atom, pair_parts, Opening, inside, locked, unsealed, open_shape}

-- how a run ends; the last two are a process's only
pub data Ending : Type 0 where
  finished no_supply not_equal wrong_key received_lacks opened_lacks not_fresh fresh_lacks : Ending
  no_pair no_ciphertext : Ending

-- document 01's number of an ending
unfoldable pub number_of : Ending → ℕ
number_of finished = 0
number_of no_supply = 1
number_of not_equal = 2
number_of wrong_key = 3
number_of received_lacks = 4
number_of opened_lacks = 5
number_of not_fresh = 6
number_of fresh_lacks = 7
number_of no_pair = 8
number_of no_ciphertext = 9

-- a message is sent or received
pub data Direction : Type 0 where
  sent received : Direction

-- a message: its direction, its channel, its value
pub data Logged (W : Type 0) : Type 0 where
  logged : Direction → W → W → Logged W

-- a message under a map of values
unfoldable pub on_logged : {W X : Type 0} → (W → X) → Logged W → Logged X
on_logged f (logged d c v) = logged d (f c) (f v)

-- its channel and its value have a property
pub data Both {W : Type 0} (P : W → Type 0) : Logged W → Type 0 where
  both : {d : Direction} {c v : W} → P c → P v → Both P (logged d c v)

-- what an act comes to. It goes on: messages, what is new, supply left. Or it stops: ending, messages, supply left
pub data Out (W B : Type 0) : Type 0 where
  goes : List (Logged W) → List B → List W → Out W B
  stops : Ending → List (Logged W) → List W → Out W B

module _ (𝓢 : Signature) where
  -- the tests of received, opened and fresh values: against their symbols' types, or none
  pub data Tests : Type 0 where
    typed : (ℕ → Ty 𝓢.types) → Tests
    untyped : Tests

  -- does v pass the test for symbol x?
  unfoldable pub passes : {W : Type 0} → Tests → View 𝓢 W → ℕ → W → Bool
  passes (typed Γ) A x v = visible 𝓢 A (Γ x) v
  passes untyped A x v = true

  -- x gets v if it passes the test
  abbrev pub binding : {W : Type 0} → Bool → Ending → List (Logged W) → ℕ → W → List W → Out W (ℕ × W)
  binding t e ms x v su = cond t (goes ms ((x, v) ∷ []) su) (stops e ms su)

  -- x and y get the parts of a pair
  unfoldable pub splitting : {W : Type 0} → ℕ → ℕ → List W → Option (W × W) → Out W (ℕ × W)
  splitting x y su none = stops no_pair [] su
  splitting x y su (some h) = goes [] ((x, h.0) ∷ (y, h.1) ∷ []) su

  -- x gets the inside of a ciphertext if the key fits and the inside passes the test
  unfoldable pub opening : {W : Type 0} → (W → Bool) → ℕ → List W → Opening 𝓢 W → Out W (ℕ × W)
  opening ok x su (inside v) = binding (ok v) opened_lacks [] x v su
  opening ok x su locked = stops wrong_key [] su
  opening ok x su unsealed = stops no_ciphertext [] su

  -- an act on values: the values held for symbols, the supply. A value that fails a test is used, and a received one is logged
  unfoldable pub perform : {W : Type 0} → View 𝓢 W → Tests → List W → List W → Act 𝓢 W → Out W (ℕ × W)
  perform A ts held su (send c v) = goes (logged sent c v ∷ []) [] su
  perform A ts held [] (receive c x) = stops no_supply [] []
  perform A ts held (v ∷ su) (receive c x) = binding (passes ts A x v) received_lacks (logged received c v ∷ []) x v su
  perform A ts held [] (fresh x) = stops no_supply [] []
  perform A ts held (v ∷ su) (fresh x) = cond (is_atom 𝓢 (A.shape v) && is_fresh 𝓢 A held v) (binding (passes ts A x v) fresh_lacks [] x v su) (stops not_fresh [] su)
  perform A ts held su (compare v w) = cond (A.same v w) (goes [] [] su) (stops not_equal [] su)
  perform A ts held su (split v x y) = splitting x y su (pair_parts 𝓢 (A.shape v))
  perform A ts held su (decrypt s v k x) = opening (λ w. passes ts A x w) x su (open_shape 𝓢 A s k (A.shape v))

-- ── Runs ──

-- the ending; how many statements or steps went before; the supply left; the messages; the store at the end
pub record Result (W S : Type 0) : Type 0 where
  pub ending : Ending
  pub place : ℕ
  pub rest : List W
  pub log : List (Logged W)
  pub store : S

-- a result at once
abbrev pub ended : {W S : Type 0} → Ending → List (Logged W) → List W → S → Result W S
ended e ms su st = record { ending = e; place = 0; rest = su; log = ms; store = st }

-- one more statement or step, with its messages, before a result
abbrev pub after : {W S : Type 0} → List (Logged W) → Result W S → Result W S
after ms r = record { ending = r.ending; place = suc r.place; rest = r.rest; log = ms ++ r.log; store = r.store }

-- go on with the rest, or stop
unfoldable pub and_then : {W B S : Type 0} → S → Out W B → (List B → List W → Result W S) → Result W S
and_then st (goes ms bs su) k = after ms (k bs su)
and_then st (stops e ms su) k = ended e ms su st

-- of n statements or steps: the place is n where they finished, else that of one of them
pub record EndsWithin {W S : Type 0} (n : ℕ) (r : Result W S) : Type 0 where
  pub finished_after : r.ending ≡ finished → r.place ≡ n
  pub stopped_before : ¬ (r.ending ≡ finished) → r.place < n
