-- A list always fits the program's buffer, and what is written is a list or a line. Assumes nothing.
use mathlib.Core.Path.{◌≡◌, refl}
use mathlib.Core.List.{List}
use Prim.Native.Nat.{ℕ, zero, suc, ◌*◌, ◌≤◌}
use native.Mathlib.Omega.{arith}
use lib.ListN.{length, take, drop, length-append}
use lib.Seq.{take-append_seam}
use Rattle.answers.specs.declared.Refusal.{Refusal}
use Rattle.entries.specs.Tiling.{listed, joined}
use Rattle.table_layout.specs.Layout.{symbols}
use Rattle.types.specs.Version1.{bytes}
use Rattle.buffers.specs.Over.{over}
use Rattle.calculus.specs.Figure2.{Env}
use Rattle.calculus.specs.Version1.{signature1}
use Rattle.rendering.specs.Rendering.{halves}
use Rattle.rendering.specs.Translation.{translation}
use Rattle.decoded.specs.Table.{table_of}
use Rattle.decoded.proofs.Passes.{table_passes}
use Rattle.decoded_list.specs.Bytes.{type_with_length, types_bytes, types_to}
use Rattle.type_service.specs.Services.{IsWidest, Answered, table_refused, too_short, written}
use Rattle.compile_service.specs.Files.{list_file}
use Rattle.compile_service.proofs.FileLaws.{few_statements, need_is}
use Rattle.compile_service.proofs.ReadBack.{widest_short}
use Rattle.lines.specs.Lines.{LinePut}
use Rattle.lines.proofs.LineLaws.{counted}
use Rattle.compile.specs.Printed.{a_list, a_line, ListPrinted}
use Rattle.std.proofs.Common.{Result, Ok, Err}

-- types of at most 129 bytes, with their length bytes
types_short : (Γ : Env signature1) (i n : ℕ) → ((x : ℕ) → length (bytes (Γ x)) ≤ 129) → length (types_bytes (listed Γ i n)) ≤ 130 * n
unfolding listed joined type_with_length
types_short Γ i zero h = omega arith
types_short Γ i (suc n) h = omega (arith, h i, types_short Γ (suc i) n h, length-append (type_with_length (Γ i)) (types_bytes (listed Γ (suc i) n)))

pub list_short : (s : List ℕ) (Γ : Env signature1) → IsWidest s Γ → length (list_file s Γ) ≤ 13512
list_short s Γ t =
    let f = ((table_passes s).0 t.sound).frame in
    let types = types_bytes (types_to Γ (symbols s)) in
    let statements = translation signature1 halves (table_of s) in
    omega (arith, need_is s Γ (length types) (length statements) refl refl, few_statements s Γ t, types_short Γ 0 (symbols s) (widest_short s Γ t), f.few_symbols)

-- what was written over a buffer stands at its start
taken : (w z : List ℕ) → take (length w) (over w z) ≡ w
unfolding over
taken w z = take-append_seam w (drop (length w) z)

over_longer : (w z : List ℕ) → length w ≤ length (over w z)
unfolding over
over_longer w z = omega (arith, length-append w (drop (length w) z))

-- a list
pub list_printed : (s z o : List ℕ) (a : Result ℕ Refusal) (n : ℕ) → Answered (list_file s) s z o a → a ≡ Ok n → ListPrinted s z o n
list_printed s z o a n (table_refused r) e = let y : ◌≡◌ {A = ℕ} 0 1 = cc in absurd (omega arith)
list_printed s z o a n (too_short t l) e = let y : ◌≡◌ {A = ℕ} 0 1 = cc in absurd (omega arith)
list_printed s z o a n (written {Γ = Γ} t l) e =
    let m : length (list_file s Γ) ≡ n = cc in
    rw (← m) (record {
      inside = over_longer (list_file s Γ) z;
      counted = counted _ _ (over_longer (list_file s Γ) z);
      text = λ h. a_list t (taken (list_file s Γ) z);
    })

-- a line
pub line_printed : (s z o : List ℕ) (a : Result ℕ Refusal) (x : Refusal) (p : List ℕ) (r : ℕ) → Answered (list_file s) s z o a → a ≡ Err x → LinePut x o p r → ListPrinted s z p r
line_printed s z o a x p r (table_refused {x = y} q) e l = record {
  inside = l.inside;
  counted = l.counted;
  text = λ h.
      let (line, of, m, w) = l.put (omega arith) in
      let g : y ≡ x = cc in
      a_line (rw g at q) (rw (w, m, taken line z) of);
}
line_printed s z o a x p r (too_short {Γ = Γ} t q) e l = record {
  inside = l.inside;
  counted = l.counted;
  text = λ h. absurd (omega (arith, list_short s Γ t));
}
line_printed s z o a x p r (written t q) e l = let y : ◌≡◌ {A = ℕ} 0 1 = cc in absurd (omega arith)
