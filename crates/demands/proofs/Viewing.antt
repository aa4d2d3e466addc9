-- The line reader: what each of its answers says of the next line, where it stands after a call, and where every start that it leaves stands, by the rules for producing files.
use Prim.Native.Nat.{ℕ, ◌+◌, ◌≤◌}
use mathlib.Core.Path.{◌≡◌, refl, sym, ap, subst, ◌∙◌}
use mathlib.Core.Logic.{◌↔◌}
use mathlib.Core.List.{List, [], ◌∷◌, ◌++◌}
use native.Mathlib.Omega.{arith}
use lib.IntN.{ℤ}
use lib.ListN.{length, drop}
use Rattle.basics.proofs.Lists.{at_end}
use Rattle.law.specs.Lines.{File, none}
use Rattle.text.proofs.LineSpelling.{lines_unique}
use Rattle.law.specs.Answers.{limit, reply, over}
use Rattle.law.specs.declared.Reply.{Reply}
use Rattle.viewer.specs.declared.Reader.{Reader}
use Rattle.viewer.specs.declared.Step.{Step}
use Rattle.viewer.specs.Readers.{step_here, places_here}
use Rattle.law.specs.FieldPlaces.{Spot, numbers_of}
use Rattle.law.specs.RowPlaces.{start_after}
use Rattle.law.specs.Viewing.{Handed, Shown, too_large, no_line, not_permitted, no_fields, too_short, whole, Called}
use Rattle.shown_places.proofs.ViewAnswers.{shown_given, some_view}
use Rattle.shown_places.proofs.LinePlaces.{rest_made}
use Rattle.shown_places.proofs.CalledReaders as readers
use Rattle.demands.specs.Outcomes.{Shows}

-- every call answers as the rules show, 1, 13, 3, 4, 2, 0 in this order, and no other answer is shown
pub every_call : {file : List ℕ} {at n : ℕ} {old new : List ℤ} {s : Step} → Shows file at n old s new ↔ Shown file at n old s.reply s.at s.line new
every_call {file} {at} {n} {old} = (shown, λ w. let g = shown_given file at n old w in record { answer = sym g.step; left = sym g.left })
  where
    shown : {new : List ℤ} {s : Step} → Shows file at n old s new → Shown file at n old s.reply s.at s.line new
    shown o =
        let w = some_view file at n old in
        let g = shown_given file at n old w.is in
        rw (o.answer, o.left, g.step, g.left) w.is

-- so they show one answer
pub one_view : {file : List ℕ} {at n next place m k : ℕ} {old new other : List ℤ} {r q : Reply} → Shown file at n old r next m new → Shown file at n old q place k other
    → (r ≡ q) × (next ≡ place) × (m ≡ k) × (new ≡ other)
one_view {file} {at} {n} {old = old} a b =
    let g = shown_given file at n old a in
    let h = shown_given file at n old b in
    let e = sym g.step ∙ h.step in
    (ap (λ (s : Step). s.reply) e, ap (λ (s : Step). s.at) e, ap (λ (s : Step). s.line) e, sym g.left ∙ h.left)

-- a call of `next` is one at the reader's place
pub next_shows : (r : Reader) (old : List ℤ) → Shows r.file.now r.at r.line old (step_here r (length old)) (places_here r old)
next_shows r old = record { answer = refl; left = refl }

none_at_lem : (file : List ℕ) (at : ℕ) → length file ≤ at → File [] (drop at file)
none_at_lem file at h = rw (at_end file at h) none

-- what 0 shows of a line that stands at the place
zero_shows : {file : List ℕ} {at n next m : ℕ} {old new : List ℤ} {r : Reply} → Shown file at n old r next m new → r.number ≡ 0
    → {line : List ℕ} {more : List (List ℕ)} → File (line ∷ more) (drop at file) → (ps : List Spot) × Handed at line ps × (r ≡ reply 0 0 (length ps)) × (new ≡ over (numbers_of ps) old)
zero_shows (too_large h) z f = absurd (omega arith)
zero_shows (no_line h g) z f = absurd (omega arith)
zero_shows (not_permitted h g b p) z f = absurd (omega arith)
zero_shows (no_fields h g b a p) z f = absurd (omega arith)
zero_shows (too_short h g p i) z f = absurd (omega arith)
zero_shows {at = at} (whole {line = k} {ps = ps} h g p i) z {line} f =
    let e = lines_unique g f in
    let j : k ≡ line = cc in
    (ps, subst (λ (l : List ℕ). Handed at l ps) j p, refl, refl)

kept : {file : List ℕ} {at n next m : ℕ} {old new : List ℤ} {r : Reply} → Shown file at n old r next m new → (r.number ≡ 0 → ⊥) → new ≡ old
kept (too_large h) d = refl
kept (no_line h g) d = refl
kept (not_permitted h g b p) d = refl
kept (no_fields h g b a p) d = refl
kept (too_short h g p i) d = refl
kept (whole h g p i) d = absurd (d refl)

-- A reader that was opened and called

module _ {file : List ℕ} {at n : ℕ} where
  -- k calls moved it on: so many lines there are at least
  pub called_most : {k : ℕ} {ls : List (List ℕ)} → File ls file → Called file k at n → k ≤ length ls
  called_most m c = readers.called_most m c

  -- behind the lines us, of which it handed out each, it stands at the first byte of the next and has its number
  pub called : (us : List (List ℕ)) (line : List ℕ) (more : List (List ℕ)) → File (us ++ (line ∷ more)) file → Called file (length us) at n
      → (at ≡ start_after file 0 us) × (n ≡ length us + 1)
  called us line more m c = readers.called_at us line more m c

  -- behind all lines it stands at the end of the file
  pub called_out : {ls : List (List ℕ)} → File ls file → Called file (length ls) at n → (at ≡ length file) × (n ≡ length ls + 1)
  called_out m c = readers.called_out m c

  module _ {old new : List ℤ} {s : Step} (o : Shows file at n old s new) where
    -- there a call answers 13, with the number of lines and one
    pub no_line_left : {ls : List (List ℕ)} → length file ≤ limit → File ls file → Called file (length ls) at n → s.reply ≡ reply 13 (length ls + 1) 0
    no_line_left h m c =
        let w = called_out m c in
        let f = none_at_lem file at (omega (arith, w.0)) in
        (one_view (every_call.0 o) (no_line h f)).0 ∙ rw w.1

    -- a call that answers 0 leaves start and length of each field of the line, and the rest as it was
    pub fields_of_line : (us : List (List ℕ)) (line : List ℕ) (more : List (List ℕ)) → File (us ++ (line ∷ more)) file → Called file (length us) at n → s.reply.number ≡ 0
        → (ps : List Spot) × Handed (start_after file 0 us) line ps × (s.reply ≡ reply 0 0 (length ps)) × (new ≡ over (numbers_of ps) old)
    fields_of_line us line more m c z = let e = (called us line more m c).0 in rw (sym e) (zero_shows (every_call.0 o) z (rw (sym e) at (rest_made us line more file 0 m)))

-- on every answer but 0 the slice is as it was
pub view_untouched : {file : List ℕ} {at n : ℕ} {old new : List ℤ} {s : Step} → Shows file at n old s new → (s.reply.number ≡ 0 → ⊥) → new ≡ old
view_untouched o h = kept (every_call.0 o) h
