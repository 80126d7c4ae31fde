-- The three parts of a list, written one after the other. Assumes nothing.
use mathlib.Core.Path.{◌≡◌, refl, sym, ap, ◌∙◌}
use mathlib.Core.List.{List, ◌++◌, append_assoc}
use Prim.Native.Nat.{ℕ, ◌+◌, ◌-◌, ◌*◌, ◌≤◌}
use native.Mathlib.Omega.{arith}
use lib.ListN.{length, take, drop, length-append, length-drop}
use borrow.Rule.Slice.PartMut.{put_mid}
use Rattle.answers.specs.Ladder.{least}
use Rattle.table_layout.specs.Layout.{symbols}
use Rattle.table.specs.Faults.{table_rungs}
use Rattle.buffers.specs.Over.{over}
use Rattle.buffers.proofs.Parts.{part_from}
use Rattle.buffers.proofs.OverLaws.{over_fits, over_lent, over_length, lent_length}
use Rattle.calculus.specs.Figure2.{Env}
use Rattle.calculus.specs.Version1.{signature1}
use Rattle.rendering.specs.Rendering.{halves}
use Rattle.rendering.specs.Translation.{translation}
use Rattle.decoded.specs.Table.{table_of}
use Rattle.decoded_list.specs.Bytes.{header_bytes, types_bytes, statements_bytes, list_bytes, types_to}
use Rattle.entries.proofs.Tiling.{listed_length}
use Rattle.translate.specs.Stepwise.{wrote_if}
use Rattle.statement_counts.proofs.Ranged.{all_fits}
use Rattle.decoded_list.proofs.FileLayout.{bytes_length}
use Rattle.type_service.specs.Services.{IsWidest}
use Rattle.compile_service.specs.Files.{list_file}

header_length : (symbols statements : ℕ) → length (header_bytes symbols statements) ≡ 8
unfolding header_bytes
header_length symbols statements = refl

module _ (s : List ℕ) (Γ : Env signature1) where
  -- the three parts
  abbrev N : ℕ
  N = length (translation signature1 halves (table_of s))

  abbrev header : List ℕ
  header = header_bytes (symbols s) N

  abbrev types : List ℕ
  types = types_bytes (types_to Γ (symbols s))

  abbrev statements : List ℕ
  statements = statements_bytes (translation signature1 halves (table_of s))

  file_parts : list_file s Γ ≡ header ++ (types ++ statements)
  unfolding list_bytes
  file_parts = rw (listed_length Γ 0 (symbols s)) refl

  -- N is small
  pub few_statements : IsWidest s Γ → N ≤ 256
  few_statements t = (all_fits s t.sound).0

  -- the bytes needed, by the bytes of the types and the number of statements
  pub need_is : (size n : ℕ) → size ≡ length types → n ≡ N → 8 + size + 4 * n ≡ length (list_file s Γ)
  need_is size n hs hn = omega (arith, ap (λ (l : List ℕ). length l) file_parts, length-append header (types ++ statements), length-append types statements, header_length (symbols s) N, bytes_length (translation signature1 halves (table_of s)))

-- the types have size bytes, there are n statements, and the buffer z has room for the list
pub record Fits (s : List ℕ) (Γ : Env signature1) (size n : ℕ) (z : List ℕ) : Type 0 where
  pub widest : IsWidest s Γ
  pub sized : size ≡ length (types s Γ)
  pub counted : n ≡ N s Γ
  pub room : length (list_file s Γ) ≤ length z

module _ {s : List ℕ} {Γ : Env signature1} {size n : ℕ} {z : List ℕ} (k : Fits s Γ size n z) where
  room_is : 8 + size + 4 * n ≤ length z
  room_is = rw (need_is s Γ size n k.sized k.counted) k.room

  pub room_header : 8 ≤ length z
  room_header = omega (arith, room_is)

  module _ (o₁ : List ℕ) (h₁ : o₁ ≡ over (header_bytes (symbols s) n) z) where
    written_header : o₁ ≡ over (header s Γ) z
    written_header = h₁ ∙ rw k.counted refl

    pub length_header : length o₁ ≡ length z
    length_header = ap (λ (l : List ℕ). length l) written_header ∙ over_length (header s Γ) z (omega (arith, header_length (symbols s) (N s Γ), room_header))

    abbrev part₁ : List ℕ
    part₁ = take (length o₁ - 8) (drop 8 o₁)

    part₁_length : length part₁ ≡ length z - 8
    part₁_length = rw part_from (simp (length-drop) (omega (arith, length_header)))

    pub types_fit : length (types s Γ) ≤ length part₁
    types_fit = omega (arith, part₁_length, room_is, k.sized)

    module _ (y₁ : List ℕ) (k₁ : length y₁ ≡ length part₁) (w₁ : y₁ ≡ over (types s Γ) part₁) where
      abbrev o₂ : List ℕ
      o₂ = put_mid 8 (length o₁ - 8) o₁ y₁

      written_types : o₂ ≡ over (header s Γ ++ types s Γ) z
      written_types = over_lent (header s Γ) (types s Γ) z o₁ y₁ 8 (sym (header_length (symbols s) (N s Γ))) written_header w₁

      pub length_types : length o₂ ≡ length z
      length_types = lent_length 8 o₁ y₁ k₁ ∙ length_header

      abbrev part₂ : List ℕ
      part₂ = take (length o₂ - (8 + size)) (drop (8 + size) o₂)

      part₂_length : length part₂ ≡ length z - (8 + size)
      part₂_length = rw part_from (simp (length-drop) (omega (arith, length_types)))

      module _ (y₂ : List ℕ) (w₂ : y₂ ≡ wrote_if (least (table_rungs s)) (statements s Γ) part₂) where
        written_statements : y₂ ≡ over (statements s Γ) part₂
        written_statements = (rw k.widest.sound at w₂) ∙ over_fits (statements s Γ) part₂ (omega (arith, part₂_length, room_is, k.counted, bytes_length (translation signature1 halves (table_of s))))

        pub written_file : put_mid (8 + size) (length o₂ - (8 + size)) o₂ y₂ ≡ over (list_file s Γ) z
        written_file =
            let q : 8 + size ≡ length (header s Γ ++ types s Γ) = omega (arith, length-append (header s Γ) (types s Γ), header_length (symbols s) (N s Γ), k.sized) in
            over_lent (header s Γ ++ types s Γ) (statements s Γ) z o₂ y₂ (8 + size) q written_types written_statements
            ∙ ap (λ (l : List ℕ). over l z) (append_assoc (header s Γ) (types s Γ) (statements s Γ) ∙ sym (file_parts s Γ))
