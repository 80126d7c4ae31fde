-- `compile_service::compile` meets its contract. Assumes nothing.
use Rattle.std.proofs.Common.{ℕ, ◌≡◌, ◌+◌, ◌-◌, ◌*◌, ◌≤◌, List, length, take, drop, arith, Ok}
use Rattle.answers.proofs.Layers.{passed_on}
use borrow.Author.Rules.{rules}
use borrow.Rule.Slice.PartMut.{put_mid}
use Rattle.answers.specs.Ladder.{least, Check}
use Rattle.buffers.specs.Over.{over}
use Rattle.rendering.specs.Rendering.{halves}
use Rattle.rendering.specs.Translation.{translation}
use Rattle.calculus.specs.Version1.{signature1}
use Rattle.table_layout.specs.Layout.{symbols}
use Rattle.table.specs.Faults.{table_rungs}
use Rattle.decoded.specs.Table.{table_of}
use Rattle.decoded_list.specs.Bytes.{header_bytes}
use Rattle.type_lists.specs.Lists.{SizeIs, TypesPut}
use Rattle.type_service.specs.Services.{SlotsTyped, RoomChecked, types_file}
use Rattle.type_service.proofs.ServiceLaws.{Typed, typed, types_counted, types_written, not_typed, no_room, room_for, all_written}
use Rattle.compile_service.specs.Files.{list_file}
use Rattle.compile_service.proofs.FileLaws.{few_statements, need_is, Fits, room_header, length_header, types_fit, length_types, written_file}
use Rattle.compile_service.proofs.compile.Goals as goal

-- ── What is known on the way ──

-- the slots o hold the widest types of the table s
slots : (s o : List ℕ) (m : ℕ) {a : Check} → SlotsTyped s o a → a ≡ Ok tt → m ≡ symbols s → Typed s o m
slots s o m t p e = typed s o m (rw p at t) e

-- the parts are counted: the list's bytes are known
module _ {s o : List ℕ} {m : ℕ} (q : Typed s o m) {size : ℕ} (i : SizeIs o m size) {n : ℕ} (k : least (table_rungs s) ≡ Ok tt → n ≡ length (translation signature1 halves (table_of s))) where
  sized : size ≡ length (types_file s q.Γ)
  sized = types_counted s o m q size i

  counted : n ≡ length (translation signature1 halves (table_of s))
  counted = k q.widest.sound

  few : n ≤ 256
  few = omega (arith, counted, few_statements s q.Γ q.widest)

  needed : 8 + size + 4 * n ≡ length (list_file s q.Γ)
  needed = need_is s q.Γ size n sized counted

  -- number 15 is passed: the list has room
  module _ (z : List ℕ) {b : Check} (r : RoomChecked (8 + size + 4 * n) (length z) b) (p : b ≡ Ok tt) where
    fits : Fits s q.Γ size n z
    fits = record { widest = q.widest; sized = sized; counted = counted; room = room_for (list_file s) s z q.Γ q.widest (8 + size + 4 * n) needed b r p }

    -- the header is written
    module _ {o₁ : List ℕ} (h : o₁ ≡ over (header_bytes m n) z) where
      header : o₁ ≡ over (header_bytes (symbols s) n) z
      header = rw q.all at h

      header_kept : length o₁ ≡ length z
      header_kept = length_header fits o₁ header

      header_room : 8 ≤ length o₁
      header_room = omega (arith, room_header fits, header_kept)

      -- the types are written
      module _ {y₁ : List ℕ} (l : length y₁ ≡ length (take (length o₁ - 8) (drop 8 o₁))) (w : TypesPut o m (take (length o₁ - 8) (drop 8 o₁)) y₁) where
        types : y₁ ≡ over (types_file s q.Γ) (take (length o₁ - 8) (drop 8 o₁))
        types = types_written s o m q (take (length o₁ - 8) (drop 8 o₁)) y₁ w (types_fit fits o₁ header)

        types_kept : length (put_mid 8 (length o₁ - 8) o₁ y₁) ≡ length z
        types_kept = length_types fits o₁ header y₁ l types

        types_room : 8 + size ≤ length (put_mid 8 (length o₁ - 8) o₁ y₁)
        types_room = omega (arith, needed, fits.room, types_kept)

-- ── The goals ──

pub returns-in_err-type_slots : goal.returns-in_err-type_slots
returns-in_err-type_slots c = not_typed _ _ _ _ _ _ _ (c.type_slots.ensures.typed (search rules)) c.in_err-type_slots.was (passed_on c.from_residual.ensures.1)

pub overflow_mul-need : goal.overflow_mul-need
overflow_mul-need c =
    let q = slots c.args.table.now c.type_slots.new.work c.symbol_count-s.result (c.type_slots.ensures.typed (search rules)) c.in_ok-type_slots.was c.symbol_count-s.ensures in
    omega (arith, few q c.types_size-at.ensures c.statement_count-n.ensures.known)

pub overflow_add-need : goal.overflow_add-need
overflow_add-need c =
    let q = slots c.args.table.now c.type_slots.new.work c.symbol_count-s.result (c.type_slots.ensures.typed (search rules)) c.in_ok-type_slots.was c.symbol_count-s.ensures in
    omega (arith, few q c.types_size-at.ensures c.statement_count-n.ensures.known, q.few, c.types_size-at.ensures.small)

pub returns-in_err-check_room : goal.returns-in_err-check_room
returns-in_err-check_room c =
    let q = slots c.args.table.now c.type_slots.new.work c.symbol_count-s.result (c.type_slots.ensures.typed (search rules)) c.in_ok-type_slots.was c.symbol_count-s.ensures in
    no_room (list_file c.args.table.now) c.args.table.now c.args.out.now q.Γ q.widest _ (needed q c.types_size-at.ensures c.statement_count-n.ensures.known) _ _ _ c.check_room.ensures c.in_err-check_room.was (passed_on c.from_residual-in_err-check_room.ensures.1)

pub put_header-requires : goal.put_header-requires
put_header-requires c =
    let q = slots c.args.table.now c.type_slots.new.work c.symbol_count-s.result (c.type_slots.ensures.typed (search rules)) c.in_ok-type_slots.was c.symbol_count-s.ensures in
    (omega (arith, few q c.types_size-at.ensures c.statement_count-n.ensures.known), room_header (fits q c.types_size-at.ensures c.statement_count-n.ensures.known _ c.check_room.ensures c.in_ok-check_room.was))

pub slice_bounds-put_types-count : goal.slice_bounds-put_types-count
slice_bounds-put_types-count c =
    let q = slots c.args.table.now c.type_slots.new.work c.symbol_count-s.result (c.type_slots.ensures.typed (search rules)) c.in_ok-type_slots.was c.symbol_count-s.ensures in
    header_room q c.types_size-at.ensures c.statement_count-n.ensures.known _ c.check_room.ensures c.in_ok-check_room.was c.put_header.ensures

pub slice_bounds-put_types-start : goal.slice_bounds-put_types-start
slice_bounds-put_types-start c =
    let q = slots c.args.table.now c.type_slots.new.work c.symbol_count-s.result (c.type_slots.ensures.typed (search rules)) c.in_ok-type_slots.was c.symbol_count-s.ensures in
    header_room q c.types_size-at.ensures c.statement_count-n.ensures.known _ c.check_room.ensures c.in_ok-check_room.was c.put_header.ensures

pub slice_bounds-write_statements-count : goal.slice_bounds-write_statements-count
slice_bounds-write_statements-count c =
    let q = slots c.args.table.now c.type_slots.new.work c.symbol_count-s.result (c.type_slots.ensures.typed (search rules)) c.in_ok-type_slots.was c.symbol_count-s.ensures in
    types_room q c.types_size-at.ensures c.statement_count-n.ensures.known _ c.check_room.ensures c.in_ok-check_room.was c.put_header.ensures c.put_types.auto.out c.put_types.ensures

pub slice_bounds-write_statements-start : goal.slice_bounds-write_statements-start
slice_bounds-write_statements-start c =
    let q = slots c.args.table.now c.type_slots.new.work c.symbol_count-s.result (c.type_slots.ensures.typed (search rules)) c.in_ok-type_slots.was c.symbol_count-s.ensures in
    types_room q c.types_size-at.ensures c.statement_count-n.ensures.known _ c.check_room.ensures c.in_ok-check_room.was c.put_header.ensures c.put_types.auto.out c.put_types.ensures

pub returns : goal.returns
returns c =
    let q = slots c.args.table.now c.type_slots.new.work c.symbol_count-s.result (c.type_slots.ensures.typed (search rules)) c.in_ok-type_slots.was c.symbol_count-s.ensures in
    let r = c.check_room.ensures in
    let e = c.in_ok-check_room.was in
    let h = c.put_header.ensures in
    let l = c.put_types.auto.out in
    all_written (list_file c.args.table.now) c.args.table.now c.args.out.now q.Γ q.widest _ (needed q c.types_size-at.ensures c.statement_count-n.ensures.known) _ _ r e
    (written_file (fits q c.types_size-at.ensures c.statement_count-n.ensures.known _ r e) _ (header q c.types_size-at.ensures c.statement_count-n.ensures.known _ r e h) _ l (types q c.types_size-at.ensures c.statement_count-n.ensures.known _ r e h l c.put_types.ensures) _ c.write_statements.ensures)
