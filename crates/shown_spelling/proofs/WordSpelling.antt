-- A name folds to capitals exactly where it is spelled in some letter case, and a word is found at a place exactly where it so spells it.
use Prim.Native.Nat.{ℕ, zero, suc, ◌+◌, ◌-◌}
use mathlib.Core.Path.{◌≡◌, refl, sym, ◌∙◌}
use mathlib.Core.Logic.{⊎_elim}
use mathlib.Core.List.{List, [], ◌∷◌}
use mathlib.Core.Option.{Option, none, some}
use mathlib.Core.Bool.{Bool, true, false, cond, not, ◌&&◌, false≢true}
use native.Mathlib.Omega.{arith}
use borrow.Author.Tests.{leb-true, le-leb, not-true}
use lib.Dec.{leb}
use Rattle.basics.proofs.Bytes.{bytes_true, bytes_self}
use Rattle.basics.proofs.Bools.{and_left, and_right, cond_cases, none_some, or_second}
use Rattle.law.specs.Words.{same_bytes, is_in, is_capital, is_small, folded}
use Rattle.form.specs.Compare.{up, place_of}
use Rattle.law.specs.WordSpelling.{Listed, here, there, AnyCase, end, same, small}

-- Any letter case
small_is : (b : ℕ) → is_capital b ≡ true → (is_small (b + 32) ≡ true) × (b + 32 - 32 ≡ b)
small_is b h =
    let x = leb-true 65 b (and_left (leb 65 b) _ h) in
    let y = leb-true b 90 (and_right (leb 65 b) _ h) in
    (rw (le-leb 97 (b + 32) (omega arith), le-leb (b + 32) 122 (omega arith)), omega arith)

pub case_folds : {k s : List ℕ} → AnyCase k s → folded s ≡ k
unfolding folded
case_folds end = refl
case_folds (same h r) = rw (h, case_folds r)
case_folds (small {b} h r) = let p = small_is b h in rw (p.0, p.1, case_folds r)

capital_is : (b : ℕ) → is_small b ≡ true → (is_capital (b - 32) ≡ true) × (b - 32 + 32 ≡ b)
capital_is b h =
    let x = leb-true 97 b (and_left (leb 97 b) _ h) in
    let y = leb-true b 122 (and_right (leb 97 b) _ h) in
    (rw (le-leb 65 (b - 32) (omega arith), le-leb (b - 32) 90 (omega arith)), omega arith)

pub folds_case : (s : List ℕ) → AnyCase (folded s) s
unfolding folded
folds_case [] = end
folds_case (b ∷ s) = go (is_small b) refl (folds_case s)
  where
    go : (t : Bool) → is_small b ≡ t → AnyCase (folded s) s → AnyCase (cond t (b - 32) b ∷ folded s) (b ∷ s)
    go true h r = let p = capital_is b h in rw p.1 at (small {b = b - 32} p.0 r)
    go false h r = same h r

pub any_case : {k s : List ℕ} → k ≡ folded s → AnyCase k s
any_case {k} {s} e = rw e (folds_case s)

-- Places
up_some : (o : Option ℕ) (n : ℕ) → up o ≡ some n → (m : ℕ) × (o ≡ some m) × (n ≡ suc m)
up_some none n h = absurd (none_some h)
up_some (some m) n h = (m, refl, cc)

pub place_sound : (ws : List (List ℕ)) (s : List ℕ) (n : ℕ) → place_of ws (folded s) ≡ some n → Listed ws n s
unfolding place_of
place_sound [] s n h = absurd (none_some h)
place_sound (w ∷ ws) s n h =
    ⊎_elim
    (λ e. let z : n ≡ zero = cc e.1 in rw z (here (any_case (bytes_true w (folded s) e.0))))
    (λ e. let u = up_some (place_of ws (folded s)) n e.1 in rw u.2 (there (place_sound ws s u.0 u.1)))
    (cond_cases (same_bytes w (folded s)) h)

-- a list in which no bytes stand twice
abbrev pub differ : List (List ℕ) → Bool
differ [] = true
differ (w ∷ ws) = not (is_in w ws) && differ ws

listed_in : {ws : List (List ℕ)} {n : ℕ} {s : List ℕ} → Listed ws n s → is_in (folded s) ws ≡ true
unfolding is_in
listed_in (here {w} m) = rw (case_folds m, bytes_self w)
listed_in (there {w} {ws} {n} {s} r) = or_second (same_bytes (folded s) w) _ (listed_in r)

pub place_complete : {ws : List (List ℕ)} {n : ℕ} {s : List ℕ} → differ ws ≡ true → Listed ws n s → place_of ws (folded s) ≡ some n
unfolding place_of
place_complete d (here {w} m) = rw (case_folds m, bytes_self w)
place_complete d (there {w} {ws} {n} {s} r) =
    go (same_bytes w (folded s)) refl (not-true _ (and_left (not (is_in w ws)) _ d)) (place_complete (and_right (not (is_in w ws)) _ d) r)
  where
    go : (t : Bool) → same_bytes w (folded s) ≡ t → is_in w ws ≡ false → place_of ws (folded s) ≡ some n → cond t (some zero) (up (place_of ws (folded s))) ≡ some (suc n)
    go true h x i =
        let y : is_in w ws ≡ true = rw (bytes_true w (folded s) h) (listed_in r) in
        absurd (false≢true (sym x ∙ y))
    go false h x i = rw i
