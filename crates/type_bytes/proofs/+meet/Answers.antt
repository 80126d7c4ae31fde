-- `type_bytes::meet` meets its contract. Assumes nothing.
use borrow.Author.Tests.{eqb-true, eqb-false}
use Rattle.type_bytes.proofs.MeetLaws.{Begun, meets_past, meets_past_2, meets_full, meets_second, meets_first, meets_apart, meets_inside_apart, meets_cipher, meets_left_apart, meets_right_apart, meets_pair}
use Rattle.std.proofs.Common.{Bor, Some, Bool, false, ◌≡◌, ◌∙◌, sym, ℕ, List, length, arith}
use Rattle.std.specs.Prelude.{◌==◌}
use Rattle.std.specs.Slice.{IsItemAt}
use Rattle.type_bytes.proofs.EndLaws.{read_at}
use Rattle.buffers.proofs.OverLaws.{rest_kept}
use Rattle.type_bytes.specs.Meets.{how_of}
use Rattle.type_bytes.specs.declared.How.{How}
use Rattle.type_bytes.proofs.+meet.Goals as goal

-- both codes were read, there is room, and it is known how the types meet
begun : {a b z : List ℕ} {p q : ℕ} (m n : Bor ℕ) {h : How} {e : Bool} → IsItemAt a p (Some m) → IsItemAt b q (Some n) → e ≡ (length z == 0) → e ≡ false → h ≡ how_of m.now n.now → Begun a p b q z m.now h
begun {a} {b} {z} {p} {q} m n k l f g says =
    let (i, x) = read_at a p m k in
    let (j, y) = read_at b q n l in
    record { in_a = i; in_b = j; room = omega (arith, eqb-false (length z) 0 (sym f ∙ g)); first = x; says = rw (← x, ← y) says }

pub returns-in_err-code : goal.returns-in_err-code
returns-in_err-code t c = rw c.from_residual.ensures (meets_past _ _ _ _ _ _ c.in_err-code.ensures.lookup.3)

pub returns-in_err-other : goal.returns-in_err-other
returns-in_err-other t c = rw c.from_residual-in_err-other.ensures (meets_past_2 _ _ _ _ _ _ c.in_err-other.ensures.lookup.3)

pub returns-then-is_empty : goal.returns-then-is_empty
returns-then-is_empty t c = meets_full _ _ _ _ _ _ (eqb-true (length c.args.out.now) 0 (sym c.is_empty.ensures ∙ c.if-is_empty.true))

pub returns-in-Second : goal.returns-in-Second
returns-in-Second t c = meets_second (begun c.in_ok-code.field-0 c.in_ok-other.field-0 c.in_ok-code.ensures.lookup c.in_ok-other.ensures.lookup c.is_empty.ensures c.if-is_empty.false c.how_codes_meet.ensures) _ _ c.in-Second.is c.copy_type.ensures

pub returns-in-First : goal.returns-in-First
returns-in-First t c = meets_first (begun c.in_ok-code.field-0 c.in_ok-other.field-0 c.in_ok-code.ensures.lookup c.in_ok-other.ensures.lookup c.is_empty.ensures c.if-is_empty.false c.how_codes_meet.ensures) _ _ c.in-First.is c.copy_type-in-First.ensures

pub returns-in-Apart : goal.returns-in-Apart
returns-in-Apart t c = meets_apart (begun c.in_ok-code.field-0 c.in_ok-other.field-0 c.in_ok-code.ensures.lookup c.in_ok-other.ensures.lookup c.is_empty.ensures c.if-is_empty.false c.how_codes_meet.ensures) _ c.in-Apart.is

pub returns-in_err-m-in-Pairs : goal.returns-in_err-m-in-Pairs
returns-in_err-m-in-Pairs t c = rw c.from_residual-in_err-m-in-Pairs.ensures (meets_left_apart (begun c.in_ok-code.field-0 c.in_ok-other.field-0 c.in_ok-code.ensures.lookup c.in_ok-other.ensures.lookup c.is_empty.ensures c.if-is_empty.false c.how_codes_meet.ensures) _ c.in-Pairs.is _ c.in_err-m-in-Pairs.ensures)

pub returns-in_err-meet-in-Pairs : goal.returns-in_err-meet-in-Pairs
returns-in_err-meet-in-Pairs t c = rw c.from_residual-in_err-meet-in-Pairs.ensures (meets_right_apart (begun c.in_ok-code.field-0 c.in_ok-other.field-0 c.in_ok-code.ensures.lookup c.in_ok-other.ensures.lookup c.is_empty.ensures c.if-is_empty.false c.how_codes_meet.ensures) _ c.in-Pairs.is _ c.in_ok-m-in-Pairs.ensures _ _ c.past-i.ensures c.past-j.ensures
    (rest_kept c.args.out.now _ c.meet.new.out c.meet.auto.out) _ _ c.in_err-meet-in-Pairs.ensures)

pub returns-in_err-meet-in-Ciphertexts : goal.returns-in_err-meet-in-Ciphertexts
returns-in_err-meet-in-Ciphertexts t c = rw c.from_residual-in_err-meet-in-Ciphertexts.ensures (meets_inside_apart (begun c.in_ok-code.field-0 c.in_ok-other.field-0 c.in_ok-code.ensures.lookup c.in_ok-other.ensures.lookup c.is_empty.ensures c.if-is_empty.false c.how_codes_meet.ensures) _ c.in-Ciphertexts.is _ c.in_err-meet-in-Ciphertexts.ensures)

pub returns-in_ok-meet-in-Pairs : goal.returns-in_ok-meet-in-Pairs
returns-in_ok-meet-in-Pairs t c = meets_pair (begun c.in_ok-code.field-0 c.in_ok-other.field-0 c.in_ok-code.ensures.lookup c.in_ok-other.ensures.lookup c.is_empty.ensures c.if-is_empty.false c.how_codes_meet.ensures) _ c.in-Pairs.is _ c.in_ok-m-in-Pairs.ensures _ _ c.past-i.ensures c.past-j.ensures
    (rest_kept c.args.out.now _ c.meet.new.out c.meet.auto.out) _ _ c.in_ok-meet-in-Pairs.ensures

pub returns-in_ok-meet-in-Ciphertexts : goal.returns-in_ok-meet-in-Ciphertexts
returns-in_ok-meet-in-Ciphertexts t c = meets_cipher (begun c.in_ok-code.field-0 c.in_ok-other.field-0 c.in_ok-code.ensures.lookup c.in_ok-other.ensures.lookup c.is_empty.ensures c.if-is_empty.false c.how_codes_meet.ensures) _ c.in-Ciphertexts.is _ c.in_ok-meet-in-Ciphertexts.ensures
