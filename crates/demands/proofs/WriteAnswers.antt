-- What `write` answers and leaves in the slice, by the list that the rows say.
use Prim.Native.Nat.{ℕ, ◌≤◌, ◌<◌}
use mathlib.Core.Path.{◌≡◌, refl, sym, ap, ◌∙◌}
use mathlib.Core.List.{List}
use mathlib.Core.Bool.{Bool, true, false, false≢true}
use native.Mathlib.Decide.{dec_lt}
use native.Mathlib.Omega.{arith}
use lib.IntN.{ℤ}
use lib.ListN.{length, take, drop}
use lib.Seq.{take_at}
use Rattle.law.specs.Values.{Rec}
use Rattle.law.specs.declared.Rules.TheVariants.{Idf3}
use Rattle.law.specs.Answers.{limit, reply}
use Rattle.law.specs.declared.Reply.{Reply}
use Rattle.write.specs.Outcomes.{may_write, write_reply, write_text}
use Rattle.law.specs.Canonical.{canonical_text}
use Rattle.law.specs.Rows.{RowsSay}
use Rattle.shown_write.proofs.RowsWritten.{say_one, writable_iff, unwritable_reply, untouched, write_large, write_short, write_says, write_puts}
use Rattle.law.specs.Given.{Written, no_list, too_large, too_short, whole}

module _ (rows : List ℤ) (bytes old : List ℕ) where
  abbrev answer : Reply
  answer = write_reply rows bytes (length old)

  abbrev None : Type 0
  None = ((rs : List Rec) × RowsSay bytes rs rows) → ⊥

  -- another number than 0 leaves the slice alone
  kept : (n : ℕ) → answer.number ≡ n → (n ≡ 0 → ⊥) → write_text rows bytes old ≡ old
  kept n e d = untouched rows bytes old (λ z. d (sym e ∙ z))

  numbered : {r : Reply} → answer ≡ r → answer.number ≡ r.number
  numbered e = ap (λ (r : Reply). r.number) e

  -- no list, or one whose text has its length
  none_answer : None → answer ≡ reply 15 0 0
  none_answer d = unwritable_reply rows bytes (length old) d

  none_kept : None → write_text rows bytes old ≡ old
  none_kept d = kept 15 (numbered (none_answer d)) (λ z. omega arith)

  module _ {rs : List Rec} (s : RowsSay bytes rs rows) where
    large_kept : limit < length (canonical_text Idf3 rs) → write_text rows bytes old ≡ old
    large_kept h = kept 1 (numbered (write_large rows bytes s (length old) h)) (λ z. omega arith)

    short_kept : length (canonical_text Idf3 rs) ≤ limit → length old < length (canonical_text Idf3 rs) → write_text rows bytes old ≡ old
    short_kept h i = kept 14 (numbered (write_short rows bytes s h (length old) i)) (λ z. omega arith)

    list_answers : Written rows bytes old answer (write_text rows bytes old)
    list_answers = elim (dec_lt limit (length (canonical_text Idf3 rs))) [
      | yes h ↦ rw (large_kept h, write_large rows bytes s (length old) h) (too_large s h)
      | no h ↦ fits (omega arith)
    ]
      where
        fits : length (canonical_text Idf3 rs) ≤ limit → Written rows bytes old answer (write_text rows bytes old)
        fits h = elim (dec_lt (length old) (length (canonical_text Idf3 rs))) [
          | yes i ↦ rw (short_kept h i, write_short rows bytes s h (length old) i) (too_short s h i)
          | no i ↦ (let j : length (canonical_text Idf3 rs) ≤ length old = omega arith in rw (write_puts rows bytes s h old j, write_says rows bytes s h (length old) j) (whole s h j))
        ]

  pub write_answers : Written rows bytes old answer (write_text rows bytes old)
  write_answers = go (may_write Idf3 bytes rows) refl
    where
      go : (b : Bool) → may_write Idf3 bytes rows ≡ b → Written rows bytes old answer (write_text rows bytes old)
      go true e = list_answers ((writable_iff rows bytes).0 e).1
      go false e =
          let d : None = λ w. false≢true (sym e ∙ (writable_iff rows bytes).1 w) in
          rw (none_kept d, none_answer d) (no_list (λ rs s. d (rs, s)))

  -- and nothing else
  pub written_one : {r : Reply} {new : List ℕ} → Written rows bytes old r new → (r ≡ answer) × (new ≡ write_text rows bytes old)
  written_one (no_list d) = let n : None = λ w. d w.0 w.1 in (sym (none_answer n), sym (none_kept n))
  written_one (too_large s h) = (sym (write_large rows bytes s (length old) h), sym (large_kept s h))
  written_one (too_short s h i) = (sym (write_short rows bytes s h (length old) i), sym (short_kept s h i))
  written_one (whole s h i) = (sym (write_says rows bytes s h (length old) i), sym (write_puts rows bytes s h old i))

  -- 0 says how long the list's text is, and leaves it in front
  module _ {rs : List Rec} (s : RowsSay bytes rs rows) where
    pub written_zero : {r : Reply} {new : List ℕ} → Written rows bytes old r new → r.number ≡ 0
        → (length (canonical_text Idf3 rs) ≤ limit) × (take r.count new ≡ canonical_text Idf3 rs)
    written_zero (no_list d) z = absurd (omega arith)
    written_zero (too_large t h) z = absurd (omega arith)
    written_zero (too_short t h i) z = absurd (omega arith)
    written_zero (whole {rs = qs} t h i) z =
        rw (say_one rows bytes s t) (h, take_at (canonical_text Idf3 qs) (drop (length (canonical_text Idf3 qs)) old) (length (canonical_text Idf3 qs)) refl)
