-- The messages of a run: five bytes each, from the start of a lent buffer on. Assumes nothing: these are definitions.
use Rattle.std.specs.Prelude.{◌≡◌, List, [], ◌∷◌, ◌++◌, ℕ, ◌+◌, ◌*◌, ◌<◌, ◌≤◌, length}
use Rattle.buffers.specs.Over.{over}
use Rattle.entries.specs.Tiling.{joined}
use Rattle.running.specs.Acts.{Direction, sent, received, Logged, logged}
use Rattle.value_table.specs.Values.{five_bytes}

-- 0 sent, 1 received
unfoldable pub direction_number : Direction → ℕ
direction_number sent = 0
direction_number received = 1

-- a message: its direction, channel and value, the indexes with their high byte first
unfoldable pub message_bytes : Logged ℕ → List ℕ
message_bytes (logged d c v) = five_bytes (direction_number d) c v

-- the buffer y, now o, has the n messages ms at its start; bytes beyond keep their values
pub record Said (y : List ℕ) (ms : List (Logged ℕ)) (o : List ℕ) (n : ℕ) : Type 0 where
  pub count : n ≡ length ms
  pub bytes : o ≡ over (joined message_bytes ms) y

-- whatever messages are logged, one more is, if there is room for it
pub record Says (o : List ℕ) (n direction c v : ℕ) (q : List ℕ) (r : ℕ) : Type 0 where
  pub says : (d : Direction) (y : List ℕ) (ms : List (Logged ℕ)) → direction_number d ≡ direction → Said y ms o n → 5 * (n + 1) ≤ length y → n < 65535
      → Said y (ms ++ (logged d c v ∷ [])) q r
