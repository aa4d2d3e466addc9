-- W-201, "A 13 directly before a 10 belongs to the line's end": a file and its Windows copy, and demand 3's rule on the first line over the bytes of a file.
use Prim.Native.Nat.{ℕ, ◌+◌, ◌*◌, ◌≤◌}
use mathlib.Core.Path.{◌≡◌, refl, sym, subst, ◌∙◌}
use mathlib.Core.Logic.{◌↔◌}
use mathlib.Core.List.{List, [], ◌∷◌, ◌++◌}
use mathlib.Core.Bool.{false}
use native.Mathlib.Omega.{arith}
use lib.IntN.{ℤ}
use lib.ListN.{length, take}
use Rattle.law.specs.Bytes.{ends_in}
use Rattle.law.specs.Lines.{File, closed, windows}
use Rattle.text.specs.Lines.{lines_of}
use Rattle.text.proofs.LineSpelling.{lines_sound, lines_unique}
use Rattle.text.proofs.Copies.{file_copied, copy_longer}
use Rattle.law.specs.Values.{Rec}
use Rattle.law.specs.declared.Rules.TheVariants.{Idf3}
use Rattle.law.specs.Rows.{stride, RowsMean, lines_in}
use Rattle.law.specs.RowPlaces.{start_after}
use Rattle.law.specs.Answers.{limit, verdict, reply}
use Rattle.law.specs.declared.Reply.{Reply}
use Rattle.law.specs.declared.Verdict.{Verdict}
use Rattle.law.specs.Files.{LinesSay, FileSays, Continues}
use Rattle.law.specs.Given.{Answered, accepted, too_large, refused, too_early}
use Rattle.shown_places.proofs.Continued.{fails_bytes}
use Rattle.shown_places.proofs.LineNumbers.{lines_same}
use Rattle.demands.specs.Outcomes.{Checks, Reads, Compares}
use Rattle.demands.proofs.Starts.{starts}
use Rattle.demands.proofs.Demands.{every_file, records, accepted_iff, one_list, first_line, same_iff}

-- The Windows copy

module _ {file : List ℕ} where
  -- it says what the file says
  pub windows_says : {rs : List Rec} → FileSays Idf3 rs file ↔ FileSays Idf3 rs (windows file)
  windows_says {rs} = (
    λ s. record { lines = s.lines; made = file_copied s.made; say = s.say },
    λ s.
        let m = lines_sound file in
        record { lines = lines_of file; made = m; say = subst (LinesSay Idf3 rs) (lines_unique s.made (file_copied m)) s.say },
  )

  answered_copy : {r : Reply} → length (windows file) ≤ limit → Answered file r → Answered (windows file) r
  answered_copy h (accepted i s) = accepted h (windows_says.0 s)
  answered_copy h (too_large i) = absurd (omega (arith, copy_longer false file))
  answered_copy h (refused ls l more i m f) = refused ls l more h (file_copied m) f
  answered_copy h (too_early i m s) = too_early h (file_copied m) (s.0, λ rs k. s.1 rs (windows_says.1 k))

  -- it gets the file's own reply, accepted or refused
  pub windows_checked : {r q : Reply} → Checks file r → Checks (windows file) q → length (windows file) ≤ limit → q ≡ r
  windows_checked c d h = d.answer ∙ sym (every_file.1 (answered_copy h (every_file.0 c))).answer

  -- "an accepted file and its Windows copy are the same where the copy is within the size limit"
  pub windows_same : {r : Reply} {v : Verdict} → Checks file r → r.number ≡ 0 → length (windows file) ≤ limit → Compares file (windows file) v → v ≡ verdict 0 0 1 0
  windows_same c z h k =
      let i : length file ≤ limit = omega (arith, copy_longer false file, h) in
      let s = ((accepted_iff c i).0 z).1 in
      (same_iff k i h s (windows_says.0 s)).0.1 refl

  -- the rows of the copy mean the file's list
  pub windows_rows : {rs : List Rec} {old new : List ℤ} {q : Reply} → FileSays Idf3 rs file → Reads (windows file) old q new → q.number ≡ 0
      → (q ≡ reply 0 0 (length rs)) × RowsMean (windows file) rs (take (stride * length rs) new)
  windows_rows s o z = let w = records o z in rw (one_list (windows_says.0 s) w.1) (w.2, w.3)

  -- and each has the line that the file's own row has
  pub windows_lines : {rs : List Rec} {old new lent left : List ℤ} {r q : Reply} → FileSays Idf3 rs file → Reads file old r new → r.number ≡ 0
      → Reads (windows file) lent q left → q.number ≡ 0 → lines_in (length rs) (take (stride * length rs) left) ≡ lines_in (length rs) (take (stride * length rs) new)
  windows_lines s o z p w = lines_same (starts p w (file_copied s.made) (windows_says.0 s)) (starts o z s.made s)

-- Demand 3 over bytes

-- "the first line after which, size aside, no further lines would make an accepted file": further bytes make one of the bytes before the line,
-- and none do of those with its own, where a line that lacks its end is given byte 10. "Demand 3's line rule does not speak of a 13 that ends
-- the file": the last line of such a file is left out, for a 10 behind it makes another line of it
pub first_line_bytes : {file : List ℕ} {r : Reply} → Checks file r → length file ≤ limit → (us : List (List ℕ)) (l : List ℕ) (ms : List (List ℕ)) → File (us ++ (l ∷ ms)) file
    → (ms ≡ [] → ends_in 13 file ≡ false)
    → ((3 ≤ r.number) × (r.number ≤ 12) × (r.line ≡ length us + 1))
    ↔ (Continues Idf3 (take (start_after file 0 us) file) × (Continues Idf3 (closed (take (start_after file 0 (us ++ (l ∷ []))) file)) → ⊥))
first_line_bytes {file} c h us l ms m x =
    let a = first_line c h m (length us) in
    let b = fails_bytes file us l ms m x in
    (λ w. b.0 (a.0 w), λ w. a.1 (b.1 w))
