-- Every record of a permitted list is well formed in a file of the type that the list's title line says.
use Prim.Native.Nat.{ℕ}
use mathlib.Core.Path.{◌≡◌, subst, sym}
use mathlib.Core.List.{List, [], ◌∷◌, ◌++◌}
use lib.IntN.{ℤ}
use Rattle.law.specs.Values.{Rec}
use Rattle.law.specs.declared.Role.{Role}
use Rattle.law.specs.Fits.{under, WellFormed}
use Rattle.law.specs.declared.Rules.{Rules}
use Rattle.law.specs.declared.FileType.{FileType}
use Rattle.law.specs.Records.{Place}
use Rattle.law.specs.Lists.{Return, last, further, Loop, circle, path, Loops, final, another, Points, numbered, single, Lines, no_line, line, Pairs, no_pair, pair, Body, led, points, listed, placed, Section, section, Sections, no_section, and_section, Header, header_of, header_of_library, Permitted, a_board, a_panel, a_library}
use Rattle.law.specs.Files.{titled}

pub data Every (P : Rec → Type 0) : List Rec → Type 0 where
  none : Every P []
  one : {r : Rec} {rs : List Rec} → P r → Every P rs → Every P (r ∷ rs)

pub every_append : {P : Rec → Type 0} {rs ms : List Rec} → Every P rs → Every P ms → Every P (rs ++ ms)
every_append none b = b
every_append (one p a) b = one p (every_append a b)

pub every_rest : {P : Rec → Type 0} (rs : List Rec) {ms : List Rec} → Every P (rs ++ ms) → Every P ms
every_rest [] a = a
every_rest (r ∷ rs) (one p a) = every_rest rs a

module _ (v : Rules) (t : FileType) where
  abbrev Fit : List Rec → Type 0
  Fit rs = Every (λ r. WellFormed (under v t) r) rs

  module _ {s : ℕ} where
    return_fit : {label : ℤ} {f q : Place} {rs : List Rec} → Return v t s label f q rs → Fit rs
    return_fit (last k e) = one k.has_point_role.line.is_good none
    return_fit (further k m) = one k.has_point_role.line.is_good (return_fit m)

    loop_fit : {label : ℤ} {rs : List Rec} → Loop v t s label rs → Fit rs
    loop_fit (circle a z b n e) = one a.line.is_good (one b.line.is_good none)
    loop_fit (path a z b m) = one a.line.is_good (one b.has_point_role.line.is_good (return_fit m))

    loops_fit : {label : ℤ} {rs : List Rec} → Loops v t s label rs → Fit rs
    loops_fit (final l) = loop_fit l
    loops_fit (another l m) = every_append (loop_fit l) (loops_fit m)

    points_fit : {rs : List Rec} → Points v t s rs → Fit rs
    points_fit (numbered e m) = loops_fit m
    points_fit (single e d l) = loop_fit l

    lines_fit : {role : Role} {rs : List Rec} → Lines v t s role rs → Fit rs
    lines_fit no_line = none
    lines_fit (line k m) = one k.is_good (lines_fit m)

    pairs_fit : {rs : List Rec} → Pairs v t s rs → Fit rs
    pairs_fit no_pair = none
    pairs_fit (pair a b m) = one a.is_good (one b.is_good (pairs_fit m))

    body_fit : {rs : List Rec} → Body v t s rs → Fit rs
    body_fit (led e a p q) = one a.is_good (every_append (points_fit p) (lines_fit q))
    body_fit (points e p) = points_fit p
    body_fit (listed e m) = lines_fit m
    body_fit (placed e m) = pairs_fit m

    section_fit : {rs : List Rec} → Section v t s rs → Fit rs
    section_fit (section o b c) = one o.is_good (every_append (body_fit b) (one c.is_good none))

  sections_fit : {ss : List ℕ} {rs : List Rec} → Sections v t ss rs → Fit rs
  sections_fit no_section = none
  sections_fit (and_section p m) = every_append (section_fit p) (sections_fit m)

-- a header says the file's type
header_fit : {v : Rules} {t : FileType} {hs : List Rec} → Header v t hs → Fit v t hs
header_fit (header_of n o a e b c) = one o.is_good (one a.is_good (one b.is_good (one c.is_good none)))
header_fit (header_of_library o a e c) = one o.is_good (one a.is_good (one c.is_good none))

header_says : {v : Rules} {t : FileType} {hs : List Rec} (ms : List Rec) → Header v t hs → titled (hs ++ ms) ≡ t
header_says ms (header_of n o a e b c) = e
header_says ms (header_of_library o a e c) = e

headed_fit : (v : Rules) {t : FileType} {hs ms : List Rec} → Header v t hs → Fit v t ms → Fit v (titled (hs ++ ms)) (hs ++ ms)
headed_fit v {hs = hs} {ms = ms} h m = subst (λ (u : FileType). Fit v u (hs ++ ms)) (sym (header_says ms h)) (every_append (header_fit h) m)

pub permitted_fit : {v : Rules} {rs : List Rec} → Permitted v rs → Every (λ r. WellFormed (under v (titled rs)) r) rs
permitted_fit {v} (a_board h o m c p) = headed_fit v h (every_append (section_fit v _ o) (every_append (sections_fit v _ m) (section_fit v _ p)))
permitted_fit {v} (a_panel h o m c p) = headed_fit v h (every_append (section_fit v _ o) (every_append (sections_fit v _ m) (section_fit v _ p)))
permitted_fit {v} (a_library h m c) = headed_fit v h (sections_fit v _ m)
