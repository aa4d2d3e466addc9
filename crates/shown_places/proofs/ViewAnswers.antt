-- What a call of the line reader answers, and what it leaves, is what the rules show; and they show one answer.
use Prim.Native.Nat.{ℕ, ◌*◌, ◌≤◌, ◌<◌}
use mathlib.Core.Path.{◌≡◌, refl, sym, ◌∙◌}
use mathlib.Core.List.{List, [], ◌∷◌}
use mathlib.Core.Option.{Option, none, some}
use mathlib.Core.Bool.{Bool, true, false, cond, false≢true}
use native.Mathlib.Decide.{dec_lt}
use native.Mathlib.Omega.{arith}
use borrow.Author.Tests.{lt-ltb, le-ltb}
use lib.Dec.{eqb, ltb}
use lib.IntN.{ℤ}
use lib.ListN.{length, drop, length-drop}
use Rattle.basics.proofs.Bools.{none_some}
use Rattle.basics.proofs.Lists.{all_sound, all_complete}
use Rattle.law.specs.Bytes.{permitted, all_of, begins, All}
use Rattle.law.specs.Fields as rules
use Rattle.law.specs.Fields.{Field}
use Rattle.law.specs.Lines.{File}
use Rattle.law.specs.Answers.{limit, reply, over}
use Rattle.law.specs.declared.Reply.{Reply}
use Rattle.text.specs.Lines.{lines_of}
use Rattle.text.proofs.LineSpelling.{lines_sound}
use Rattle.text_fields.specs.Fields.{fields_of, count_of}
use Rattle.text_fields.proofs.FieldSpelling.{fields_sound, fields_complete, fields_counted}
use Rattle.viewer.specs.Views.{line_at, next_at, seen_of, line_reply, reply_at, moves_on, step_by, step_of, places_of, places_after}
use Rattle.law.specs.FieldPlaces as at_places
use Rattle.law.specs.FieldPlaces.{Spot, numbers_of}
use Rattle.law.specs.Viewing.{Handed, comment, fields, number_behind, Shown, too_large, no_line, not_permitted, no_fields, too_short, whole}
use Rattle.shown_places.proofs.Spots.{map_many, erased, places_found}
use Rattle.shown_places.proofs.ReaderPlaces.{none_long, places_are, some_left, looked, next_behind}

module _ (file : List ℕ) (at n : ℕ) (old : List ℤ) where
  -- the answer of a call, where the reader stands then, and what the slice holds
  pub record Gives (r : Reply) (next m : ℕ) (new : List ℤ) : Type 0 where
    pub step : step_of file at n (length old) ≡ record { reply = r; at = next; line = m }
    pub left : places_after file at n old ≡ new

  abbrev answer : Reply
  answer = reply_at file at n (length old)

  stays : {r : Reply} → answer ≡ r → moves_on r.number ≡ false → eqb r.number 0 ≡ false → Gives r at n old
  unfolding step_of step_by places_after
  stays e h z = record { step = rw (e, h); left = rw (e, z) }

  moves : {r : Reply} {next : ℕ} → answer ≡ r → moves_on r.number ≡ true → eqb r.number 0 ≡ false → next_at file at ≡ next → Gives r next (number_behind n) old
  unfolding step_of step_by places_after
  moves e h z k = record { step = rw (e, h, k); left = rw (e, z) }

  puts : {c next : ℕ} {xs : List ℤ} → answer ≡ reply 0 0 c → next_at file at ≡ next → places_of at (line_at file at) ≡ xs → Gives (reply 0 0 c) next (number_behind n) (over xs old)
  unfolding step_of step_by places_after
  puts e k p = record { step = rw (e, k); left = rw (e, p) }

  large : limit < length file → answer ≡ reply 1 0 0
  unfolding reply_at
  large h = rw (lt-ltb limit (length file) h)

  ended : length file ≤ limit → length file ≤ at → answer ≡ reply 13 n 0
  unfolding reply_at
  ended h i = rw (le-ltb limit (length file) h, le-ltb at (length file) i)

  here : length file ≤ limit → at < length file → answer ≡ line_reply (line_at file at) n (length old)
  unfolding reply_at
  here h i = rw (le-ltb limit (length file) h, lt-ltb at (length file) i)

  module _ {line : List ℕ} {more : List (List ℕ)} (m : File (line ∷ more) (drop at file)) where
    forbidden : begins 35 line ≡ false → all_of permitted line ≡ false → line_reply (line_at file at) n (length old) ≡ reply 3 n 0
    unfolding line_reply seen_of
    forbidden b h = rw (looked file at m false b, h)

    broken : begins 35 line ≡ false → all_of permitted line ≡ true → fields_of line ≡ none → line_reply (line_at file at) n (length old) ≡ reply 4 n 0
    unfolding line_reply seen_of count_of
    broken b h e = rw (looked file at m false b, h, e)

    counted : {ps : List Spot} → Handed at line ps → line_reply (line_at file at) n (length old) ≡ cond (ltb (length old) (2 * length ps)) (reply 2 0 (length ps)) (reply 0 0 (length ps))
    unfolding line_reply seen_of all_of
    counted (comment e) = rw (looked file at m true e, fields_counted [] [] rules.end)
    counted (fields {ps = ps} b a p) = rw (looked file at m false b, all_complete permitted a, fields_counted line _ (erased p), map_many ps)

    numbers : {ps : List Spot} → Handed at line ps → places_of at (line_at file at) ≡ numbers_of ps
    numbers (comment e) = rw (looked file at m true e) (places_are at_places.end)
    numbers (fields b a p) = rw (looked file at m false b) (places_are p)

  -- whatever the rules show is given
  pub shown_given : {r : Reply} {next m : ℕ} {new : List ℤ} → Shown file at n old r next m new → Gives r next m new
  shown_given (too_large h) = stays (large h) refl refl
  shown_given (no_line h f) = stays (ended h (omega (arith, none_long refl f, length-drop at file))) refl refl
  shown_given (not_permitted {line = line} h f b p) =
      moves (here h (some_left file at f) ∙ forbidden f b (go (all_of permitted line) refl)) refl refl (next_behind file at f)
    where
      go : (t : Bool) → all_of permitted line ≡ t → all_of permitted line ≡ false
      go true e = absurd (p (all_sound permitted line e))
      go false e = e
  shown_given (no_fields {line = line} h f b a p) =
      moves (here h (some_left file at f) ∙ broken f b (all_complete permitted a) (go (fields_of line) refl)) refl refl (next_behind file at f)
    where
      go : (o : Option (List Field)) → fields_of line ≡ o → fields_of line ≡ none
      go none e = e
      go (some fs) e = absurd (p fs (fields_sound line fs e))
  shown_given (too_short {ps = ps} h f p i) = stays (here h (some_left file at f) ∙ counted f p ∙ rw (lt-ltb (length old) (2 * length ps) i)) refl refl
  shown_given (whole {ps = ps} h f p i) = puts (here h (some_left file at f) ∙ counted f p ∙ rw (le-ltb (length old) (2 * length ps) i)) (next_behind file at f) (numbers f p)

  -- and they show something
  pub record View : Type 0 where
    pub r : Reply
    pub next : ℕ
    pub m : ℕ
    pub new : List ℤ
    pub is : Shown file at n old r next m new

  view : {r : Reply} {next m : ℕ} {new : List ℤ} → Shown file at n old r next m new → View
  view {r} {next} {m} {new} s = record { r = r; next = next; m = m; new = new; is = s }

  module _ (h : length file ≤ limit) {line : List ℕ} {more : List (List ℕ)} (f : File (line ∷ more) (drop at file)) where
    handed_view : {ps : List Spot} → Handed at line ps → View
    handed_view {ps} p = elim (dec_lt (length old) (2 * length ps)) [
      | yes i ↦ view (too_short h f p i)
      | no i ↦ view (whole h f p (omega arith))
    ]

    fields_view : begins 35 line ≡ false → All permitted line → (o : Option (List Field)) → fields_of line ≡ o → View
    fields_view b a none e = view (no_fields h f b a (λ fs p. none_some (sym e ∙ fields_complete line fs p)))
    fields_view b a (some fs) e = handed_view (fields b a (places_found at line fs e).spelled)

    bytes_view : begins 35 line ≡ false → (t : Bool) → all_of permitted line ≡ t → View
    bytes_view b true e = fields_view b (all_sound permitted line e) (fields_of line) refl
    bytes_view b false e = view (not_permitted h f b (λ a. false≢true (sym e ∙ all_complete permitted a)))

    line_view : (t : Bool) → begins 35 line ≡ t → View
    line_view true e = handed_view (comment e)
    line_view false e = bytes_view e (all_of permitted line) refl

  pub some_view : View
  some_view = elim (dec_lt limit (length file)) [
    | yes h ↦ view (too_large h)
    | no h ↦ by (omega arith) (lines_of (drop at file)) (lines_sound (drop at file))
  ]
    where
      by : length file ≤ limit → (ls : List (List ℕ)) → File ls (drop at file) → View
      by h [] f = view (no_line h f)
      by h (line ∷ more) f = line_view h f (begins 35 line) refl
