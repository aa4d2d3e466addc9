-- Rows are written exactly if they mean a list that a file may say, and what is written is the canonical text of that list.
use Prim.Native.Nat.{ℕ, ◌+◌, ◌≤◌, ◌<◌}
use mathlib.Core.Path.{◌≡◌, refl, ap, ◌∙◌}
use mathlib.Core.Logic.{◌↔◌}
use mathlib.Core.List.{List, [], ◌∷◌, ◌++◌}
use mathlib.Core.Bool.{Bool, true, false, cond, not, ◌&&◌}
use native.Mathlib.Omega.{arith}
use borrow.Author.Tests.{not-true, ltb-false, lt-ltb, le-ltb, ne_eqb}
use lib.Dec.{ltb, eqb}
use lib.IntN.{ℤ, pos}
use lib.ListN.{length, drop}
use lib.Seq.{sets, sets-eq}
use lib.Signed.{lt_z}
use Rattle.basics.proofs.Bools.{and_left, and_right}
use Rattle.law.specs.Values.{Rec}
use Rattle.law.specs.declared.Rules.TheVariants.{Idf3}
use Rattle.order.specs.Automaton.{start}
use Rattle.shown_lists.proofs.Sound.{accepted_permitted}
use Rattle.shown_lists.proofs.Complete.{permitted_accepted}
use Rattle.law.specs.Answers.{limit, reply}
use Rattle.law.specs.declared.Reply.{Reply}
use Rattle.write.specs.WholeRows.{whole_rows}
use Rattle.write.specs.LineNumbers.{rises, all_rise}
use Rattle.write.specs.Writable.{carries, twice, writable}
use Rattle.write.specs.Outcomes.{text_of, sized_reply, may_write, write_reply, write_text}
use Rattle.law.specs.Rows as lines
use Rattle.law.specs.Rows.{RowsMean, whole, Rises, RowsSay}
use Rattle.shown_read.proofs.RowsTold.{rows_one}
use Rattle.law.specs.Canonical.{canonical_text}
use Rattle.shown_write.proofs.WholeRows.{list_text, whole_wide, whole_list, list_whole}
use Rattle.shown_write.proofs.RowsCarried.{carries_iff}
use Rattle.shown_write.proofs.NamedOnce.{once_iff}

-- lines are found to rise exactly where they do
rises_iff : (m : ℤ) (ns : List ℤ) → (rises m ns ≡ true) ↔ Rises m ns
unfolding rises
rises_iff m [] = (λ h. lines.none, λ r. refl)
rises_iff m (n ∷ ns) = (λ h. lines.next (and_left (lt_z m n) _ h) ((rises_iff n ns).0 (and_right (lt_z m n) _ h)), all (rises_iff n ns).1)
  where
    all : (Rises n ns → rises n ns ≡ true) → Rises m (n ∷ ns) → (lt_z m n && rises n ns) ≡ true
    all rest (lines.next h r) = rw (h, rest r)

-- in front of what it does not cover
abbrev before : List ℕ → List ℕ → List ℕ
before text old = text ++ drop (length text) old

-- the answers for a text that is written, by two tests of its length n
abbrev sized_by : Bool → Bool → ℕ → Reply
sized_by a b n = cond a (reply 1 0 0) (cond b (reply 14 0 n) (reply 0 0 n))

sized_not_15 : (n room : ℕ) → (sized_reply n room).number ≡ 15 → ⊥
sized_not_15 n room = go (ltb limit n) (ltb room n)
  where
    go : (a b : Bool) → (sized_by a b n).number ≡ 15 → ⊥
    go true b h = omega arith
    go false true h = omega arith
    go false false h = omega arith

sized_covers : (text old : List ℕ)
    → cond (eqb (sized_reply (length text) (length old)).number 0) (sets old 0 text) old ≡ cond (eqb (sized_reply (length text) (length old)).number 0) (before text old) old
sized_covers text old = go (ltb limit (length text)) (ltb (length old) (length text)) refl
  where
    go : (a b : Bool) → ltb (length old) (length text) ≡ b
        → cond (eqb (sized_by a b (length text)).number 0) (sets old 0 text) old ≡ cond (eqb (sized_by a b (length text)).number 0) (before text old) old
    go true b e = refl
    go false true e = refl
    go false false e =
        let h : 0 + length text ≤ length old = omega (arith, ltb-false (length old) (length text) e) in
        let z : 0 + length text ≡ length text = omega arith in
        sets-eq text old 0 h ∙ ap (λ (k : ℕ). text ++ drop k old) z

module _ (rows : List ℤ) (bytes : List ℕ) where
  -- a slice means one list at most
  pub say_one : {rs qs : List Rec} → RowsSay bytes rs rows → RowsSay bytes qs rows → rs ≡ qs
  say_one a b = rows_one a.means b.means

  pub writable_iff : (may_write Idf3 bytes rows ≡ true) ↔ ((rs : List Rec) × RowsSay bytes rs rows)
  unfolding may_write writable
  writable_iff = (says, may)
    where
      xs : List (List ℤ)
      xs = whole_rows rows

      says : (all_rise rows && (carries Idf3 bytes start xs && not (twice bytes xs))) ≡ true → (rs : List Rec) × RowsSay bytes rs rows
      says g =
          let h = and_right (all_rise rows) _ g in
          let p = (carries_iff Idf3 bytes xs start (whole_wide rows)).0 (and_left (carries Idf3 bytes start xs) _ h) in
          let t = not-true (twice bytes xs) (and_right (carries Idf3 bytes start xs) _ h) in
          (p.0, record { means = list_whole bytes rows p.1; permitted = accepted_permitted Idf3 p.0 p.2; distinct = (once_iff Idf3 bytes p.1).0 t; rising = (rises_iff (pos 0) _).0 (and_left (all_rise rows) _ g) })

      may : (rs : List Rec) × RowsSay bytes rs rows → (all_rise rows && (carries Idf3 bytes start xs && not (twice bytes xs))) ≡ true
      may (rs, s) =
          let m = whole_list bytes rows s.means in
          let c = (carries_iff Idf3 bytes xs start (whole_wide rows)).1 (rs, m, permitted_accepted Idf3 s.permitted) in
          rw ((rises_iff (pos 0) _).1 s.rising, c, (once_iff Idf3 bytes m).1 s.distinct)

  module _ (room : ℕ) where
    -- 15 exactly where the rows mean no list that a file may say
    pub unwritable_iff : ((write_reply rows bytes room).number ≡ 15) ↔ (((rs : List Rec) × RowsSay bytes rs rows) → ⊥)
    unfolding write_reply
    unwritable_iff = (λ e s. sized_not_15 n room (rw (writable_iff.1 s) at e), λ d. go (may_write Idf3 bytes rows) refl d)
      where
        n : ℕ
        n = length (text_of Idf3 bytes (whole_rows rows))

        go : (b : Bool) → may_write Idf3 bytes rows ≡ b → (((rs : List Rec) × RowsSay bytes rs rows) → ⊥)
            → (cond b (sized_reply n room) (reply 15 0 0)).number ≡ 15
        go true e d = absurd (d (writable_iff.0 e))
        go false e d = refl

    -- and then the whole answer is 15
    pub unwritable_reply : (((rs : List Rec) × RowsSay bytes rs rows) → ⊥) → write_reply rows bytes room ≡ reply 15 0 0
    unfolding write_reply
    unwritable_reply d = go (may_write Idf3 bytes rows) refl
      where
        go : (b : Bool) → may_write Idf3 bytes rows ≡ b → cond b (sized_reply (length (text_of Idf3 bytes (whole_rows rows))) room) (reply 15 0 0) ≡ reply 15 0 0
        go true e = absurd (d (writable_iff.0 e))
        go false e = refl

  -- whatever the refusal
  pub untouched : (old : List ℕ) → ((write_reply rows bytes (length old)).number ≡ 0 → ⊥) → write_text rows bytes old ≡ old
  unfolding write_text
  untouched old h = rw (ne_eqb (write_reply rows bytes (length old)).number 0 h)

  -- rows that mean a list have its canonical text
  pub text_is_lem : {rs : List Rec} → RowsMean bytes rs (whole rows) → text_of Idf3 bytes (whole_rows rows) ≡ canonical_text Idf3 rs
  text_is_lem m = list_text Idf3 bytes (whole_list bytes rows m)

  module _ {rs : List Rec} (s : RowsSay bytes rs rows) where
    pub written_reply : (room : ℕ) → write_reply rows bytes room ≡ sized_reply (length (canonical_text Idf3 rs)) room
    unfolding write_reply
    written_reply room = rw (writable_iff.1 (rs, s), text_is_lem s.means)

    -- the text in front of what it does not cover; on a refusal what was there
    pub written_text : (old : List ℕ)
        → write_text rows bytes old ≡ cond (eqb (sized_reply (length (canonical_text Idf3 rs)) (length old)).number 0) (canonical_text Idf3 rs ++ drop (length (canonical_text Idf3 rs)) old) old
    unfolding write_text
    written_text old = rw (written_reply (length old), text_is_lem s.means) (sized_covers (canonical_text Idf3 rs) old)

    -- by size: too large a text, 1; too little room, 14 with the length; else the text
    pub write_large : (room : ℕ) → limit < length (canonical_text Idf3 rs) → write_reply rows bytes room ≡ reply 1 0 0
    write_large room h = written_reply room ∙ rw (lt-ltb limit (length (canonical_text Idf3 rs)) h)

    module _ (h : length (canonical_text Idf3 rs) ≤ limit) where
      pub write_short : (room : ℕ) → room < length (canonical_text Idf3 rs) → write_reply rows bytes room ≡ reply 14 0 (length (canonical_text Idf3 rs))
      write_short room i = written_reply room ∙ rw (le-ltb limit (length (canonical_text Idf3 rs)) h, lt-ltb room (length (canonical_text Idf3 rs)) i)

      pub write_says : (room : ℕ) → length (canonical_text Idf3 rs) ≤ room → write_reply rows bytes room ≡ reply 0 0 (length (canonical_text Idf3 rs))
      write_says room i = written_reply room ∙ rw (le-ltb limit (length (canonical_text Idf3 rs)) h, le-ltb room (length (canonical_text Idf3 rs)) i)

      pub write_puts : (old : List ℕ) → length (canonical_text Idf3 rs) ≤ length old
          → write_text rows bytes old ≡ canonical_text Idf3 rs ++ drop (length (canonical_text Idf3 rs)) old
      write_puts old i = written_text old ∙ rw (le-ltb limit (length (canonical_text Idf3 rs)) h, le-ltb (length old) (length (canonical_text Idf3 rs)) i)
