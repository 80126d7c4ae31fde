-- What a statement does to what a run keeps. Assumes nothing: these are definitions.
use Rattle.std.specs.Prelude.{◌≡◌, true, false, List, [], ◌∷◌, ◌++◌, ℕ, ◌+◌, ◌*◌, ◌<◌, ◌≤◌, length, Result, Ok, Err, ⊤}
use Rattle.trace.specs.Layout.{supplies, supply}
use Rattle.types.specs.Version1.{T}
use Rattle.calculus.specs.Signature.{Two}
use Rattle.calculus.specs.Terms.{Atom, atom, build2, Act, Side, left, right}
use Rattle.calculus.specs.Tables.{Entry, entry_at}
use Rattle.calculus.specs.Version1.{Seal1, signature1}
use Rattle.running.specs.Values.{pair_parts, entry_shape, index}
use Rattle.running.specs.Acts.{Logged, Ending, number_of, Out, goes, stops, typed, perform}
use Rattle.running.specs.Lists.{Register, term_register, held, half_of, in_registers, made}
use Rattle.running.specs.Demand3.{types_of}
use Rattle.value_table.specs.Kept.{Kept}
use Rattle.run_parts.specs.Registers.{Given, Gives}
use Rattle.run_parts.specs.Messages.{Said}
use Rattle.run_parts.specs.Supply.{Left}
use Rattle.run_parts.specs.Types.{TypesAre, Passes}
use Rattle.effects.specs.declared.State.{State}
use Rattle.effects.specs.declared.Ending.{Ending as CodeEnding}
use Rattle.effects.specs.declared.Ending.TheVariants.{Finished, NoSupply, NotEqual, WrongKey, ReceivedLacks, OpenedLacks, NotFresh, FreshLacks, NoPair, NoCiphertext}
use Rattle.effects.specs.declared.Run.{Run}

-- ── What is done ──

-- values, registers and supply, to the values after it and what it comes to
abbrev pub Doing : Type 0
Doing = (ℕ → T) → List (Entry signature1 Atom) → List (Register ℕ) → List ℕ → List (Entry signature1 Atom) × Out ℕ (Register ℕ)

-- an act on values
unfoldable pub acting : Act signature1 ℕ → Doing
acting a Γ es rs su = (es, in_registers (perform signature1 (index signature1 es) (typed Γ) (held rs) su a))

-- 0 left, 1 right
unfoldable pub side_number : Side → ℕ
side_number left = 0
side_number right = 1

-- half of the value v
unfoldable pub halving : Side → ℕ → Doing
halving d v Γ es rs su = (es, half_of d su (pair_parts signature1 (entry_shape signature1 (entry_at signature1 (atom 0 0) es v))))

-- a value made of v and w
unfoldable pub building : Two Seal1 → ℕ → ℕ → Doing
building k v w Γ es rs su = let m = made signature1 es (build2 k v w) in (m.1, goes [] (term_register m.0 ∷ []) su)

-- ── How it ends ──

-- document 01's number of an ending
unfoldable pub ending_number : CodeEnding → ℕ
ending_number Finished = 0
ending_number NoSupply = 1
ending_number NotEqual = 2
ending_number WrongKey = 3
ending_number ReceivedLacks = 4
ending_number OpenedLacks = 5
ending_number NotFresh = 6
ending_number FreshLacks = 7
ending_number NoPair = 8
ending_number NoCiphertext = 9

-- ── What is kept ──

-- a run keeps its values, its messages, its registers and its supply
pub record Keeps (tr z y : List ℕ) (es : List (Entry signature1 Atom)) (rs : List (Register ℕ)) (su : List ℕ) (ms : List (Logged ℕ)) (w o g : List ℕ) (s : State) : Type 0 where
  pub kept : Kept z es w s.count
  pub said : Said y ms o s.logged
  pub given : Given rs g s.registers
  pub left : Left tr su s.used

-- the next supplied value, if supply is left
pub data Supplied (tr : List ℕ) (used : ℕ) : Result ℕ CodeEnding → Type 0 where
  supply_ends : supplies tr ≤ used → Supplied tr used (Err NoSupply)
  supply_left : used < supplies tr → supplies tr ≤ 65535 → Supplied tr used (Ok (supply tr used))

-- symbol x gets v if v has its type, else the run ends
pub data Binds (l w g : List ℕ) : List ℕ → State → State → ℕ → ℕ → CodeEnding → Result ⊤ CodeEnding → Type 0 where
  binds_on : {s : State} {x v q : ℕ} {e : CodeEnding} {g' : List ℕ} → Passes l x w s.count v true → v < 65536 → Gives g s.registers (2 * v + 1) g' q
      → Binds l w g g' s (record { used = s.used; logged = s.logged; count = s.count; registers = q }) x v e (Ok tt)
  binds_end : {s : State} {x v : ℕ} {e : CodeEnding} → Passes l x w s.count v false → Binds l w g g s s x v e (Err e)

-- there is room for b values more, m messages more, and a register
pub record Room (b m : ℕ) (z y : List ℕ) (es : List (Entry signature1 Atom)) (rs : List (Register ℕ)) (ms : List (Logged ℕ)) : Type 0 where
  pub value_room : 5 * (length es + b) ≤ length z
  pub message_room : 5 * (length ms + m) ≤ length y
  pub few_values : length es + b ≤ 1536
  pub few_messages : length ms + m ≤ 65535
  pub few_registers : length rs < 608

-- what is kept after it: the run goes on with what is new, or it stops with its ending
pub data Comes (tr z y : List ℕ) (es : List (Entry signature1 Atom)) (rs : List (Register ℕ)) (ms : List (Logged ℕ)) (w o g : List ℕ) (s : State) : Out ℕ (Register ℕ) → Result ⊤ CodeEnding → Type 0 where
  comes_on : {ns : List (Logged ℕ)} {bs : List (Register ℕ)} {su : List ℕ} → Keeps tr z y es (rs ++ bs) su (ms ++ ns) w o g s → Comes tr z y es rs ms w o g s (goes ns bs su) (Ok tt)
  comes_end : {e : Ending} {ns : List (Logged ℕ)} {su : List ℕ} {n : CodeEnding} → ending_number n ≡ number_of e → Keeps tr z y es rs su (ms ++ ns) w o g s → Comes tr z y es rs ms w o g s (stops e ns su) (Err n)

-- whatever is kept, this is done to it, under the list's types and if there is room
pub record Does (b m : ℕ) (f : Doing) (l tr w w' o o' g g' : List ℕ) (s s' : State) (r : Result ⊤ CodeEnding) : Type 0 where
  pub does : (As : List T) → TypesAre l As → (z y : List ℕ) (es : List (Entry signature1 Atom)) (rs : List (Register ℕ)) (su : List ℕ) (ms : List (Logged ℕ))
      → Keeps tr z y es rs su ms w o g s → Room b m z y es rs ms
      → let d = f (types_of signature1 As) es rs su in Comes tr z y d.0 rs ms w' o' g' s' d.1 r

-- a run works on the same list, trace, buffers and registers, and the buffers keep their lengths
pub record Same (old new : Run) : Type 0 where
  pub list : new.list.now ≡ old.list.now
  pub trace : new.trace.now ≡ old.trace.now
  pub values : new.values.ghost_name ≡ old.values.ghost_name
  pub log : new.log.ghost_name ≡ old.log.ghost_name
  pub registers : new.registers.ghost_name ≡ old.registers.ghost_name
  pub values_long : length new.values.now ≡ length old.values.now
  pub log_long : length new.log.now ≡ length old.log.now

-- what is done to a run
abbrev pub RunDoes : ℕ → ℕ → Doing → Run → Run → Result ⊤ CodeEnding → Type 0
RunDoes b m f old new r = Does b m f old.list.now old.trace.now old.values.now new.values.now old.log.now new.log.now old.registers.now new.registers.now old.state new.state r
