-- The sentence on the first line over bytes: some further bytes make a file of those of lines that have their ends exactly where some further lines do.
use Prim.Native.Nat.{ℕ, ◌+◌}
use mathlib.Core.Path.{◌≡◌, refl, sym, ap, subst, ◌∙◌}
use mathlib.Core.Logic.{◌↔◌}
use mathlib.Core.List.{List, [], ◌∷◌, ◌++◌, append_assoc, append-nil}
use mathlib.Core.Bool.{true, false}
use native.Mathlib.Omega.{arith}
use borrow.Author.Tests.{not-true}
use lib.Dec.{eqb}
use lib.ListN.{length, take, drop, length-append, take-append-drop}
use lib.Seq.{take-add, take_all, take-append-add, take-append_seam}
use Rattle.law.specs.Bytes.{in_line, ends_in, All}
use Rattle.law.specs.Lines as made
use Rattle.law.specs.Lines.{End, by_10, by_13_10, File, place_behind, closed}
use Rattle.text.specs.Lines.{lines_of}
use Rattle.text.proofs.LineSpelling.{last_not, lines_sound, lines_unique}
use Rattle.law.specs.RowPlaces.{start_after}
use Rattle.law.specs.Files.{LinesSay, Mendable, Continues}
use Rattle.law.specs.Given.{Fails}
use Rattle.law.specs.declared.Rules.{Rules}
use Rattle.law.specs.declared.Rules.TheVariants.{Idf3}
use Rattle.shown_told.proofs.Mending.{Lines, and_line, file_lines, lines_file}
use Rattle.shown_places.proofs.LinePlaces.{behind, end_place, rest_made, start_more}

-- lines that all have their ends
data Closed : List (List ℕ) → List ℕ → Type 0 where
  none : Closed [] []
  next : {l e : List ℕ} {ls : List (List ℕ)} {s : List ℕ} → All in_line l → End l e → Closed ls s → Closed (l ∷ ls) (l ++ (e ++ s))

three : (l e s t : List ℕ) → l ++ (e ++ (s ++ t)) ≡ (l ++ (e ++ s)) ++ t
three l e s t = ap (λ (u : List ℕ). l ++ u) (sym (append_assoc e s t)) ∙ sym (append_assoc l (e ++ s) t)

closed_file : {ls ms : List (List ℕ)} {s t : List ℕ} → Closed ls s → File ms t → File (ls ++ ms) (s ++ t)
closed_file none f = f
closed_file {ms = ms} {t = t} (next {l = l} {e = e} {ls = ls} {s = s} a k c) f = subst (File (l ∷ (ls ++ ms))) (three l e s t) (made.next a k (closed_file c f))

closed_more : {ls : List (List ℕ)} {s l e : List ℕ} → Closed ls s → All in_line l → End l e → Closed (ls ++ (l ∷ [])) (s ++ (l ++ e))
closed_more {l = l} {e = e} none a k = subst (λ (u : List ℕ). Closed (l ∷ []) (l ++ u)) (append-nil e) (next a k none)
closed_more {l = l} {e = e} (next {l = m} {e = d} {ls = ls} {s = s} b j c) a k = subst (Closed (m ∷ (ls ++ (l ∷ [])))) (three m d s (l ++ e)) (next b j (closed_more c a k))

-- Further bytes or further lines

lines_behind : (ls : List (List ℕ)) {ms : List (List ℕ)} → Lines (ls ++ ms) → Lines ms
lines_behind [] m = m
lines_behind (l ∷ ls) (and_line a m) = lines_behind ls m

module _ (v : Rules) {ls : List (List ℕ)} {s : List ℕ} (c : Closed ls s) where
  continues_mends : Continues v s → Mendable v ls
  continues_mends k =
      let m : File (ls ++ lines_of k.more) (s ++ k.more) = closed_file c (lines_sound k.more) in
      record {
        more = lines_of k.more;
        records = k.records;
        file = s ++ k.more;
        made = m;
        say = subst (LinesSay v k.records) (lines_unique k.say.made m) k.say.say;
      }

  mends_continues : Mendable v ls → Continues v s
  mends_continues k =
      let w = lines_file (lines_behind ls (file_lines k.made)) in
      record { more = w.0; records = k.records; say = record { lines = ls ++ k.more; made = closed_file c w.1; say = k.say } }

-- The bytes of a file up to a line

last_of : (a : ℕ) (s : List ℕ) (b : ℕ) (t : List ℕ) → ends_in a (s ++ (b ∷ t)) ≡ ends_in a (b ∷ t)
unfolding ends_in
last_of a [] b t = refl
last_of a (c ∷ []) b t = refl
last_of a (c ∷ d ∷ s) b t = last_of a (d ∷ s) b t

end_last : {l e : List ℕ} (s : List ℕ) → End l e → ends_in 10 (s ++ (l ++ e)) ≡ true
unfolding ends_in
end_last {l} s (by_10 h) = ap (ends_in 10) (sym (append_assoc s l (10 ∷ []))) ∙ last_of 10 (s ++ l) 10 []
end_last {l} s by_13_10 = ap (ends_in 10) (sym (append_assoc s l (13 ∷ 10 ∷ []))) ∙ last_of 10 (s ++ l) 13 (10 ∷ [])

module _ (file : List ℕ) where
  through : (b : ℕ) {l e : List ℕ} (t : List ℕ) → End l e → drop b file ≡ l ++ (e ++ t) → take (place_behind file b l) file ≡ take b file ++ (l ++ e)
  through b {l} {e} t k h =
      let n : place_behind file b l ≡ b + length (l ++ e) = end_place file b t k h ∙ omega (arith, length-append l e) in
      let d : drop b file ≡ (l ++ e) ++ t = h ∙ sym (append_assoc l e t) in
      rw (n, take-add b (length (l ++ e)) file, d, take-append_seam (l ++ e) t)

  front_closed : (ws us : List (List ℕ)) (l : List ℕ) (ms : List (List ℕ)) (b : ℕ) {s : List ℕ} → drop b file ≡ s → Closed ws (take b file) → File (us ++ (l ∷ ms)) s
      → Closed (ws ++ us) (take (start_after file b us) file)
  unfolding start_after
  front_closed ws [] l ms b h c f = rw (append-nil ws) c
  front_closed ws (u ∷ []) l ms b h c (made.next {e = e} {s = t} a k f) = rw (through b t k h) (closed_more c a k)
  front_closed ws (u ∷ w ∷ us) l ms b h c (made.next {e = e} {s = t} a k f) =
      let q = behind file b h (made.next a k f) in
      subst (λ (x : List (List ℕ)). Closed x (take (start_after file (place_behind file b u) (w ∷ us)) file)) (append_assoc ws (u ∷ []) (w ∷ us))
      (front_closed (ws ++ (u ∷ [])) (w ∷ us) l ms (place_behind file b u) refl (rw (through b t k h) (closed_more c a k)) q.rest)

  -- with the line's own, and the end that it may lack
  line_closed : (us : List (List ℕ)) {l s : List ℕ} {ms : List (List ℕ)} (b : ℕ) → drop b file ≡ s → Closed us (take b file) → File (l ∷ ms) s → (ms ≡ [] → ends_in 13 file ≡ false)
      → Closed (us ++ (l ∷ [])) (closed (take (place_behind file b l) file))
  line_closed us b h c (made.next {s = t} a k f) x = rw (through b t k h, end_last (take b file) k) (closed_more c a k)
  line_closed us b h c (made.last {b = d} {l = l} a) x =
      let n : place_behind file b (d ∷ l) ≡ length file = (behind file b h (made.last a)).out refl in
      let w : take (length file) file ≡ file = take_all (length file) file (omega arith) in
      let p : file ≡ take b file ++ (d ∷ l) = sym (take-append-drop b file) ∙ ap (λ (u : List ℕ). take b file ++ u) h in
      let q : ends_in 10 file ≡ false = ap (ends_in 10) p ∙ last_of 10 (take b file) d l ∙ last_not 10 (λ c h. not-true (eqb c 10) h) a in
      let r : ends_in 13 (d ∷ l) ≡ false = sym (last_of 13 (take b file) d l) ∙ ap (ends_in 13) (sym p) ∙ x refl in
      let z : file ++ (10 ∷ []) ≡ take b file ++ ((d ∷ l) ++ (10 ∷ [])) = ap (λ (u : List ℕ). u ++ (10 ∷ [])) p ∙ append_assoc (take b file) (d ∷ l) (10 ∷ []) in
      rw (n, w, q) (subst (Closed (us ++ ((d ∷ l) ∷ []))) (sym z) (closed_more c a (by_10 r)))

  -- a line fails where the bytes up to it can be continued, and those with its own cannot
  pub fails_bytes : (us : List (List ℕ)) (l : List ℕ) (ms : List (List ℕ)) → File (us ++ (l ∷ ms)) file → (ms ≡ [] → ends_in 13 file ≡ false)
      → Fails (us ++ (l ∷ ms)) (length us) ↔ (Continues Idf3 (take (start_after file 0 us) file) × (Continues Idf3 (closed (take (start_after file 0 (us ++ (l ∷ []))) file)) → ⊥))
  fails_bytes us l ms f x =
      let b = start_after file 0 us in
      let c : Closed us (take b file) = front_closed [] us l ms 0 refl none f in
      let d : Closed (us ++ (l ∷ [])) (closed (take (start_after file 0 (us ++ (l ∷ []))) file)) = rw (start_more file 0 us l) (line_closed us b refl c (rest_made us l ms file 0 f) x) in
      let t : take (length us) (us ++ (l ∷ ms)) ≡ us = take-append_seam us (l ∷ ms) in
      let u : take (length us + 1) (us ++ (l ∷ ms)) ≡ us ++ (l ∷ []) = take-append-add us (l ∷ ms) 1 in
      rw (t, u) (
        λ w. (mends_continues Idf3 c w.1, λ k. w.2 (continues_mends Idf3 d k)),
        λ w. (omega (arith, length-append us (l ∷ ms)), continues_mends Idf3 c w.0, λ k. w.1 (mends_continues Idf3 d k)),
      )
