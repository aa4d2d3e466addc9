-- Laws of the reader's replies and of its place after each, as the code leaves them.
use Prim.Native.Nat.{ℕ, ◌+◌, ◌-◌, ◌*◌, ◌/◌, ◌^◌, ◌≤◌, ◌<◌}
use mathlib.Core.Path.{◌≡◌, sym, ap, ◌∙◌}
use mathlib.Core.List.{List}
use mathlib.Core.Bool.{Bool, true, false, cond, not}
use native.Mathlib.Omega.{arith}
use mir.Syntax.{w64}
use mir.Val.{Fits}
use borrow.Author.Tests.{lt-ltb, le-ltb, not-true, not-false}
use lib.Dec.{eqb}
use lib.IntN.{ℤ}
use lib.ListN.{length, take, drop, length-drop, length-take}
use Rattle.basics.proofs.Lists.{rest}
use Rattle.law.specs.Bytes.{permitted, all_of, begins}
use Rattle.text.specs.Lines.{line_end}
use Rattle.text_fields.specs.Fields.{count_of}
use Rattle.std.specs.Prelude.{Result, Ok, Err}
use Rattle.text_fields.specs.declared.BrokenQuoting.{BrokenQuoting as Unclosed}
use Rattle.text.specs.declared.LineEnd.{LineEnd}
use Rattle.text.proofs.LineLaws.{line_inside}
use Rattle.law.specs.Refusals.{number_of}
use Rattle.law.specs.declared.refusals.Refusal.{Refusal}
use Rattle.law.specs.declared.refusals.Refusal.TheVariants.{ForbiddenByte, BrokenQuoting}
use Rattle.law.specs.declared.Reply.{Reply}
use Rattle.law.specs.Answers.{limit, reply, over}
use Rattle.viewer.specs.declared.Step.{Step}
use Rattle.viewer.specs.Views.{line_at, next_at, seen_by, seen_of, places_of, line_reply, reply_at, moves_on, line_after, step_by, step_of, line_places, places_after}
use Rattle.viewer.proofs.PlaceLaws.{places_long}

-- a tested answer turned round
-- a line at first sight
module _ (s : List ℕ) (b : Bool) (e : b ≡ all_of permitted s) where
  pub seen_forbidden : not b ≡ true → Err ForbiddenByte ≡ seen_of s
  unfolding seen_of
  seen_forbidden h = rw (sym e ∙ not-true b h)

  module _ (h : not b ≡ false) (r : Result ℕ Unclosed) (i : r ≡ count_of s) where
    pub seen_fields : (n : ℕ) → r ≡ Ok n → Ok n ≡ seen_of s
    unfolding seen_of
    seen_fields n j = rw (sym e ∙ not-false b h, sym i ∙ j)

    pub seen_bad : {x : Unclosed} → r ≡ Err x → Err BrokenQuoting ≡ seen_of s
    unfolding seen_of
    seen_bad j = rw (sym e ∙ not-false b h, sym i ∙ j)

-- none of a comment's bytes are looked at
module _ (b t : Bool) (content : ℕ) (e : b ≡ t) where
  pub looked_none : b ≡ true → 0 ≡ cond t 0 content
  looked_none h = rw (sym e ∙ h)

  pub looked_all : b ≡ false → content ≡ cond t 0 content
  looked_all h = rw (sym e ∙ h)

-- the next line's number
pub after_more : (l : ℕ) → l < 18_446_744_073_709_551_615 → l + 1 ≡ line_after l
after_more l h = rw (lt-ltb l 18_446_744_073_709_551_615 h)

pub after_stays : (l : ℕ) → 18_446_744_073_709_551_615 ≤ l → l ≡ line_after l
after_stays l h = rw (le-ltb l 18_446_744_073_709_551_615 h)

-- the place after a reply
module _ (r : Reply) (at l next : ℕ) (b : Bool) (e : b ≡ moves_on r.number) where
  pub step_on : (m : ℕ) → b ≡ true → m ≡ line_after l → record { reply = r; at = next; line = m } ≡ step_by r at l next
  unfolding step_by
  step_on m h k = rw (sym e ∙ h, k)

  pub step_stays : b ≡ false → record { reply = r; at = at; line = l } ≡ step_by r at l next
  unfolding step_by
  step_stays h = rw (sym e ∙ h)

-- the number of a line's refusal is not 0, and its fields are those counted
refused_by_lem : (b : Bool) (c : Result ℕ Unclosed) (e : Refusal) → cond b (seen_by c) (Err ForbiddenByte) ≡ Err e → eqb (number_of e) 0 ≡ false
refused_by_lem true (Ok m) e h = let z : ◌≡◌ {A = ℕ} 0 1 = cc in absurd (omega arith)
refused_by_lem true (Err x) e h = let j : BrokenQuoting ≡ e = cc in rw (sym j)
refused_by_lem false c e h = let j : ForbiddenByte ≡ e = cc in rw (sym j)

refused_some : (s : List ℕ) (e : Refusal) → seen_of s ≡ Err e → eqb (number_of e) 0 ≡ false
unfolding seen_of
refused_some s e h = refused_by_lem (all_of permitted s) (count_of s) e h

fields_by_lem : (b : Bool) (c : Result ℕ Unclosed) (n : ℕ) → cond b (seen_by c) (Err ForbiddenByte) ≡ Ok n → c ≡ Ok n
fields_by_lem true (Ok m) n e = let j : m ≡ n = cc in ap Ok j
fields_by_lem true (Err x) n e = let z : ◌≡◌ {A = ℕ} 0 1 = cc in absurd (omega arith)
fields_by_lem false c n e = let z : ◌≡◌ {A = ℕ} 0 1 = cc in absurd (omega arith)

fields_counted : (s : List ℕ) (n : ℕ) → seen_of s ≡ Ok n → count_of s ≡ Ok n
unfolding seen_of
fields_counted s n e = fields_by_lem (all_of permitted s) (count_of s) n e

-- one line
module _ (s : List ℕ) (base l : ℕ) (old : List ℤ) (x : Result ℕ Refusal) (e : x ≡ seen_of s) where
  module _ (n : Refusal) (h : x ≡ Err n) where
    pub reply_refused : reply (number_of n) l 0 ≡ line_reply s l (length old)
    unfolding line_reply
    reply_refused = rw (sym e ∙ h)

    pub kept_refused : old ≡ line_places s base l old
    unfolding line_places
    kept_refused = rw (sym reply_refused, refused_some s n (sym e ∙ h))

  module _ (n : ℕ) (h : x ≡ Ok n) where
    pub reply_short : length old / 2 < n → reply 2 0 n ≡ line_reply s l (length old)
    unfolding line_reply
    reply_short k = rw (sym e ∙ h, lt-ltb (length old) (2 * n) (omega arith))

    pub kept_short : length old / 2 < n → old ≡ line_places s base l old
    unfolding line_places
    kept_short k = rw (sym (reply_short k))

    pub put_room : n ≤ length old / 2 → length (places_of base s) ≤ length old
    put_room k = omega (arith, places_long base s n (fields_counted s n (sym e ∙ h)))

    pub reply_whole : n ≤ length old / 2 → reply 0 0 n ≡ line_reply s l (length old)
    unfolding line_reply
    reply_whole k = rw (sym e ∙ h, le-ltb (length old) (2 * n) (omega arith))

    pub put_whole : n ≤ length old / 2 → (y : List ℤ) → y ≡ over (places_of base s) old → y ≡ line_places s base l old
    unfolding line_places
    put_whole k y i = rw (sym (reply_whole k)) i

-- a place of a file
module _ (file : List ℕ) (at l : ℕ) (old : List ℤ) where
  module _ (h : limit < length file) where
    large_reply : reply_at file at l (length old) ≡ reply 1 0 0
    unfolding reply_at
    large_reply = rw (lt-ltb limit (length file) h)

    pub large_step : (r : Step) → r ≡ step_by (reply 1 0 0) at l at → r ≡ step_of file at l (length old)
    unfolding step_of step_by
    large_step r e = rw large_reply e

    pub large_kept : old ≡ places_after file at l old
    unfolding places_after
    large_kept = rw large_reply

  module _ (h : length file ≤ limit) (k : length file ≤ at) where
    over_reply : reply_at file at l (length old) ≡ reply 13 l 0
    unfolding reply_at
    over_reply = rw (le-ltb limit (length file) h, le-ltb at (length file) k)

    pub over_step : (r : Step) → r ≡ step_by (reply 13 l 0) at l at → r ≡ step_of file at l (length old)
    unfolding step_of step_by
    over_step r e = rw over_reply e

    pub over_kept : old ≡ places_after file at l old
    unfolding places_after
    over_kept = rw over_reply

-- a place where a line begins: the file's part from there on, and how much of it is looked at
abbrev part_at : List ℕ → ℕ → List ℕ
part_at file at = take (length file - at) (drop at file)

looked_within : (file : List ℕ) (at : ℕ) → at < length file → (t : Bool) → at + cond t 0 (line_end (part_at file at)).content ≤ length file
looked_within file at h true = omega arith
looked_within file at h false =
    let i = line_inside (part_at file at) in
    let a = i.inside in
    let b = i.within in
    omega (arith, ap length (rest at file), length-drop at file)

module _ (file : List ℕ) (at : ℕ) (h : length file ≤ limit) (g : at < length file) (e : LineEnd) (i : e ≡ line_end (part_at file at)) where
  pub next_fits : Fits w64 (at + e.next)
  next_fits =
      let k = (line_inside (part_at file at)).within in
      let n : e.next ≤ length (part_at file at) = rw i k in
      record { fits = omega (arith, ap length (rest at file), length-drop at file) }

  module _ (k : ℕ) (j : k ≡ cond (begins 35 (part_at file at)) 0 e.content) where
    pub part_inside : at + k ≤ length file
    part_inside = rw (j, i) (looked_within file at g (begins 35 (part_at file at)))

    pub part_fits : Fits w64 (at + k)
    part_fits = record { fits = omega (arith, part_inside) }

    abbrev line : List ℕ
    line = take (at + k - at) (drop at file)

    pub part_room : at + length line < 2 ^ 62
    part_room = omega (arith, part_inside, length-take (at + k - at) (drop at file), length-drop at file)

    line_is : line ≡ line_at file at
    unfolding line_at
    line_is =
        let z : at + k - at ≡ k = omega arith in
        rw (z, j, i, rest at file)

    module _ (l : ℕ) (old : List ℤ) where
      line_reply_lem : line_reply line l (length old) ≡ reply_at file at l (length old)
      unfolding reply_at
      line_reply_lem = rw (le-ltb limit (length file) h, lt-ltb at (length file) g, line_is)

      pub line_step : (r : Reply) (s : Step) → r ≡ line_reply line l (length old) → s ≡ step_by r at l (at + e.next) → s ≡ step_of file at l (length old)
      unfolding step_of next_at
      line_step r s a b = b ∙ rw (a ∙ line_reply_lem, i, rest at file)

      pub line_kept : (y : List ℤ) → y ≡ line_places line at l old → y ≡ places_after file at l old
      unfolding places_after line_places
      line_kept y a = a ∙ rw (line_reply_lem, line_is)
