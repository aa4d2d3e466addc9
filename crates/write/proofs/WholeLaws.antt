-- Laws of `write`, as the code leaves them.
use Prim.Native.Nat.{ℕ, ◌≤◌, ◌<◌}
use mathlib.Core.Path.{◌≡◌, refl, sym, ◌∙◌}
use mathlib.Core.List.{List}
use mathlib.Core.Bool.{Bool, true, false, not}
use native.Mathlib.Omega.{arith}
use borrow.Author.Tests.{lt-ltb, le-ltb, not-true, not-false}
use lib.Dec.{eqb}
use lib.IntN.{ℤ}
use lib.ListN.{length}
use lib.Seq.{sets}
use Rattle.basics.proofs.Bools.{and_left, and_right}
use Rattle.law.specs.declared.Rules.{Rules}
use Rattle.law.specs.declared.Rules.TheVariants.{Idf3}
use Rattle.order.specs.Automaton.{start}
use Rattle.law.specs.Answers.{limit, reply}
use Rattle.law.specs.declared.Reply.{Reply}
use Rattle.write_lines.specs.LineText.{up_to}
use Rattle.write_lines.proofs.PieceLaws.{up_under, up_past}
use Rattle.write.specs.WholeRows.{whole_rows}
use Rattle.write.specs.LineNumbers.{all_rise}
use Rattle.write.specs.Writable.{carries, twice, writable}
use Rattle.write.specs.Outcomes.{text_of, all_fit, sized_reply, may_write, write_reply, write_text}
use Rattle.write.proofs.Anywhere.{carries_fit}

-- lines that rise, then in order and fitting, then no name used twice
module _ (v : Rules) (bytes : List ℕ) (rows : List ℤ) (a : Bool) (g : a ≡ all_rise rows) where
  pub writable_fallen : not a ≡ true → false ≡ may_write v bytes rows
  unfolding may_write
  writable_fallen h = rw (sym g ∙ not-true a h)

  module _ (k : not a ≡ false) (x : Bool) (e : x ≡ carries v bytes start (whole_rows rows)) where
    risen : may_write v bytes rows ≡ writable v bytes (whole_rows rows)
    unfolding may_write
    risen = rw (sym g ∙ not-false a k)

    pub writable_not : x ≡ false → false ≡ may_write v bytes rows
    unfolding writable
    writable_not h = rw (risen, sym e ∙ h)

    pub writable_by : (y : Bool) → x ≡ true → y ≡ twice bytes (whole_rows rows) → not y ≡ may_write v bytes rows
    unfolding writable
    writable_by y h i = rw (risen, sym e ∙ h, i)

pub writable_fit : (v : Rules) (bytes : List ℕ) (rows : List ℤ) → may_write v bytes rows ≡ true → all_fit v bytes (whole_rows rows) ≡ true
unfolding may_write writable
writable_fit v bytes rows h =
    let xs = whole_rows rows in
    carries_fit v bytes xs start (and_left (carries v bytes start xs) _ (and_right (all_rise rows) _ h))

-- a reply other than 0 leaves the slice as it was
module _ (rows : List ℤ) (bytes old : List ℕ) where
  kept : (q : Reply) → write_reply rows bytes (length old) ≡ q → eqb q.number 0 ≡ false → old ≡ write_text rows bytes old
  unfolding write_text
  kept q e h = rw (e, h)

  module _ (x : Bool) (e : x ≡ may_write Idf3 bytes rows) where
    reply_fifteen : not x ≡ true → write_reply rows bytes (length old) ≡ reply 15 0 0
    unfolding write_reply
    reply_fifteen h = rw (sym e ∙ not-true x h)

    pub write_fifteen : (q : Reply) → not x ≡ true → q ≡ reply 15 0 0 → q ≡ write_reply rows bytes (length old)
    write_fifteen q h i = i ∙ sym (reply_fifteen h)

    pub kept_fifteen : not x ≡ true → old ≡ write_text rows bytes old
    kept_fifteen h = kept (reply 15 0 0) (reply_fifteen h) refl

    module _ (h : not x ≡ false) where
      pub all_fit_lem : all_fit Idf3 bytes (whole_rows rows) ≡ true
      all_fit_lem = writable_fit Idf3 bytes rows (sym e ∙ not-false x h)

      sized : write_reply rows bytes (length old) ≡ sized_reply (length (text_of Idf3 bytes (whole_rows rows))) (length old)
      unfolding write_reply
      sized = rw (sym e ∙ not-false x h)

      module _ (n : ℕ) (g : n ≡ up_to (length (text_of Idf3 bytes (whole_rows rows)))) where
        reply_one : limit < n → write_reply rows bytes (length old) ≡ reply 1 0 0
        reply_one k = sized ∙ rw (lt-ltb limit (length (text_of Idf3 bytes (whole_rows rows))) (up_past (length (text_of Idf3 bytes (whole_rows rows))) (rw g at k)))

        pub write_one : (q : Reply) → limit < n → q ≡ reply 1 0 0 → q ≡ write_reply rows bytes (length old)
        write_one q k i = i ∙ sym (reply_one k)

        pub kept_one : limit < n → old ≡ write_text rows bytes old
        kept_one k = kept (reply 1 0 0) (reply_one k) refl

        module _ (k : n ≤ limit) where
          long : length (text_of Idf3 bytes (whole_rows rows)) ≡ n
          long = up_under (length (text_of Idf3 bytes (whole_rows rows))) (rw g at k) ∙ sym g

          reply_fourteen : length old < n → write_reply rows bytes (length old) ≡ reply 14 0 n
          reply_fourteen l = sized ∙ rw (long, le-ltb limit n k, lt-ltb (length old) n l)

          pub write_fourteen : (q : Reply) → length old < n → q ≡ reply 14 0 n → q ≡ write_reply rows bytes (length old)
          write_fourteen q l i = i ∙ sym (reply_fourteen l)

          pub kept_fourteen : length old < n → old ≡ write_text rows bytes old
          kept_fourteen l = kept (reply 14 0 n) (reply_fourteen l) refl

          module _ (l : n ≤ length old) where
            pub text_room : length (text_of Idf3 bytes (whole_rows rows)) ≤ length old
            text_room = omega (arith, long)

            reply_zero : write_reply rows bytes (length old) ≡ reply 0 0 n
            reply_zero = sized ∙ rw (long, le-ltb limit n k, le-ltb (length old) n l)

            pub write_zero : (q : Reply) → q ≡ reply 0 0 n → q ≡ write_reply rows bytes (length old)
            write_zero q i = i ∙ sym reply_zero

            pub text_put : (p : List ℕ) → p ≡ sets old 0 (text_of Idf3 bytes (whole_rows rows)) → p ≡ write_text rows bytes old
            unfolding write_text
            text_put p i = rw reply_zero i
