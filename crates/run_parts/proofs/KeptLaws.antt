-- Messages, supply and types as a run keeps them. Assumes nothing.
use mathlib.Core.Path.{◌≡◌, refl, sym, ap, ◌∙◌}
use mathlib.Core.Bool.{Bool, true}
use mathlib.Core.List.{List, [], ◌∷◌}
use Prim.Native.Nat.{ℕ, suc, ◌+◌, ◌-◌, ◌*◌, ◌<◌, ◌≤◌}
use native.Mathlib.Omega.{arith}
use native.Mathlib.Numerals.{add-one}
use lib.ListN.{length, length-append, get_or-eq_default}
use Rattle.base.specs.Bytes.{byte}
use Rattle.entries.specs.Tiling.{listed, joined}
use Rattle.entries.specs.Words.{Bytes}
use Rattle.entries.proofs.Words.{word_small}
use Rattle.list.specs.Layout.{symbols, type_at}
use Rattle.trace.specs.Layout.{supplies, index, supply}
use Rattle.types.specs.Types.{Message}
use Rattle.types.specs.Version1.{T}
use Rattle.calculus.specs.Terms.{Atom}
use Rattle.calculus.specs.Tables.{Entry}
use Rattle.calculus.specs.Version1.{signature1}
use Rattle.running.specs.Values.{visible, index as indexes}
use Rattle.running.specs.Acts.{Logged, logged}
use Rattle.running.specs.Demand3.{types_of}
use Rattle.value_table.specs.Kept.{Kept, Appended}
use Rattle.value_table.proofs.Keeping.{five_length, joined_more, joined_length, kept_table}
use Rattle.visible.specs.Seen.{Seen}
use Rattle.visible.proofs.WalkLaws.{seen_part}
use Rattle.run_parts.specs.Messages.{direction_number, message_bytes, Says}
use Rattle.run_parts.specs.Types.{TypesAre, Passes}
use Rattle.run_parts.specs.Supply.{Left}

-- ── Messages ──

message_length : (m : Logged ℕ) → length (message_bytes m) ≡ 5
unfolding message_bytes
message_length (logged d c v) = five_length (direction_number d) c v

pub messages_length : (ms : List (Logged ℕ)) → length (joined message_bytes ms) ≡ 5 * length ms
messages_length ms = joined_length message_bytes message_length ms

pub says_more : (o : List ℕ) (n d c v : ℕ) (q : List ℕ) → Appended o n d c v q → Says o n d c v q (n + 1)
unfolding message_bytes
says_more o n d c v q p = record {
  says = λ e y ms i k r l. record {
    count = rw length-append (omega (arith, k.count));
    bytes = rw (joined_more message_bytes ms (logged e c v), i) (p.appended (joined message_bytes ms) y (messages_length ms ∙ ap (λ (m : ℕ). 5 * m) (sym k.count)) k.bytes r);
  };
}

pub says_full : (o : List ℕ) (n d c v : ℕ) (q : List ℕ) (r : ℕ) → n ≡ 65535 → Says o n d c v q r
says_full o n d c v q r e = record { says = λ f y ms i k x l. absurd (omega arith) }

-- ── Supply ──

-- a starting or supplied value is a 16-bit number
pub index_small : (tr : List ℕ) (base i : ℕ) → Bytes tr → index tr base i < 65536
unfolding index
index_small tr base i h = word_small tr (base + 2 * i) h

pub supply_none : {tr su : List ℕ} {n : ℕ} → Left tr su n → supplies tr ≤ n → su ≡ []
unfolding listed
supply_none {tr} {su} {n} k h = let z : supplies tr - n ≡ 0 = omega arith in k.rest ∙ rw z

pub supply_first : {tr su : List ℕ} {n v : ℕ} → Left tr su n → n < supplies tr → v ≡ supply tr n → su ≡ v ∷ listed (supply tr) (n + 1) (supplies tr - (n + 1))
unfolding listed
supply_first {tr} {su} {n} k h e = let z : supplies tr - n ≡ suc (supplies tr - (n + 1)) = omega arith in k.rest ∙ rw (e, z, add-one)

pub supply_next : (tr : List ℕ) (n : ℕ) → n < supplies tr → Left tr (listed (supply tr) (n + 1) (supplies tr - (n + 1))) (n + 1)
supply_next tr n h = record { among = omega arith; rest = refl }

-- ── Types ──

pub passes_typed : (l : List ℕ) (x : ℕ) (values : List ℕ) (n v p : ℕ) (r : Bool) → Bytes l → x < symbols l → p ≡ type_at l x + 1 → Seen l p values n v r → Passes l x values n v r
passes_typed l x values n v p r b h q k = record {
  passes = λ As t. let k' : Seen l (type_at l x + 1) values n v r = rw q at k in seen_part k' (byte l (type_at l x)) (omega (arith, b (type_at l x))) (types_of signature1 As x) (t.bytes_are x h);
}

pub passes_message : (l : List ℕ) (x : ℕ) (values : List ℕ) (n v : ℕ) → symbols l ≤ x → Passes l x values n v true
unfolding visible
passes_message l x values n v h = record {
  passes = λ As t. let m : length As ≤ x = omega (arith, t.count) in rw (get_or-eq_default As Message m);
}

-- the test over the values that are kept
pub passes_kept : {l w z : List ℕ} {es : List (Entry signature1 Atom)} {x n v : ℕ} {r : Bool} (As : List T) → TypesAre l As → Kept z es w n → Passes l x w n v r
    → visible signature1 (indexes signature1 es) (types_of signature1 As x) v ≡ r
passes_kept As t k p = sym (rw (kept_table k) at (p.passes As t))
