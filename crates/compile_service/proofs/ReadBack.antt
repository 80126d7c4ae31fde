-- What the compile service wrote is read again: no fault 1 to 5, the translation, the widest types. Assumes nothing.
use mathlib.Core.Path.{◌≡◌, ap, ◌∙◌}
use mathlib.Core.List.{List}
use Prim.Native.Nat.{ℕ, zero, suc, ◌≤◌}
use native.Mathlib.Omega.{arith}
use lib.ListN.{length, take, drop}
use lib.Seq.{take-append_seam}
use Rattle.entries.specs.Tiling.{listed}
use Rattle.entries.proofs.Tiling.{listed_length}
use Rattle.table_layout.specs.Layout.{symbols, steps}
use Rattle.types.specs.Types.{Message}
use Rattle.types.specs.Version1.{T, bytes}
use Rattle.buffers.specs.Over.{over}
use Rattle.calculus.specs.Figure2.{Env}
use Rattle.calculus.specs.Scope.{All, all_nil, all_cons}
use Rattle.calculus.specs.Version1.{signature1}
use Rattle.calculus.proofs.Version1Laws.{small_bytes1}
use Rattle.decoded.specs.Table.{table_of}
use Rattle.decoded.proofs.Checked.{table_checked}
use Rattle.decoded.proofs.Listed.{listed_all_at}
use Rattle.decoded.proofs.Passes.{table_passes}
use Rattle.decoded_list.proofs.FileLayout.{file_count}
use Rattle.decoded_list.specs.Bytes.{types_to}
use Rattle.compiled.specs.Compiled.{compiled}
use Rattle.compiled.proofs.Compiled.{compiled_passes, compiled_statements, compiled_type}
use Rattle.type_service.specs.Services.{IsWidest, Answered, written}
use Rattle.compile_service.specs.Files.{list_file, ReadsBack}
use Rattle.compile_service.proofs.FileLaws.{few_statements}
use Rattle.std.proofs.Common.{Ok}

each_listed : {P : T → Type 0} (Γ : Env signature1) (i n : ℕ) → ((x : ℕ) → P (Γ x)) → All P (listed Γ i n)
unfolding listed
each_listed Γ i zero h = all_nil
each_listed Γ i (suc n) h = all_cons (h i) (each_listed Γ (suc i) n h)

module _ (s : List ℕ) (Γ : Env signature1) (t : IsWidest s Γ) where
  -- a symbol's widest type has at most 129 bytes
  pub widest_short : (x : ℕ) → length (bytes (Γ x)) ≤ 129
  widest_short x =
      let k : length (table_of s).steps ≡ steps s = listed_length _ 0 (steps s) in
      omega (arith, small_bytes1 (table_of s) (table_checked s t.sound) Γ t.typing x, ((table_passes s).0 t.sound).frame.few_steps, k)

  abbrev types : List T
  types = types_to Γ (symbols s)

  many : length types ≡ symbols s
  many = listed_length Γ 0 (symbols s)

  short : All (λ A. length (bytes A) ≤ 255) types
  short = each_listed Γ 0 (symbols s) (λ x. omega (arith, widest_short x))

  -- the file is read again
  pub file_reads_back : ReadsBack s Γ (list_file s Γ)
  file_reads_back = record {
    passes = compiled_passes s t.sound types many short;
    gives_back = compiled_statements s t.sound types many short;
    few_statements = rw (file_count (compiled s types)) (few_statements s Γ t);
    hands_out = λ x h. compiled_type s t.sound types many short x h ∙ ap (λ (a : T). bytes a) (listed_all_at Γ Message (symbols s) x h);
  }

-- what the service wrote is
pub written_reads_back : (s z o : List ℕ) (n : ℕ) → Answered (list_file s) s z o (Ok n) → (Γ : Env signature1) × IsWidest s Γ × ReadsBack s Γ (take n o)
unfolding over
written_reads_back s z o n (written {Γ = Γ} t l) = (Γ, t, rw (take-append_seam (list_file s Γ) (drop (length (list_file s Γ)) z)) (file_reads_back s Γ t))
