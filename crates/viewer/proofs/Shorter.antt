-- A lifetime for one call, below a lifetime that a signature names: its token is made of a new atom's and of a half of the longer lifetime's, and after the call it is ended and the longer lifetime's token is whole again.
-- Assumes nothing but `Logic`.
use Prim.Native.Nat.{ℕ}
use mathlib.Core.List.{[], ◌∷◌}
use seplogic.Ra.Ura.{Ura}
use base.Share
use base.Fraction.{full_share}
use base.Logic.{SProp, ent, sep, wand, apply∗}
use base.Fml.{Lft, Share, flft, fdead}
use types.Logic.{Logic}
use contract.BorrowLft.{meet_⊑_left}
use types.Kit.{‵, raw, ◌⊛◌, ◌$◌, ◌∵◌, !, qed, move, use1, use2, split, frame, updating, now as at_once, done}
use types.Tokens.{lft_end}

module _ {M : Type 1} {𝓤 : Ura M} (𝓛 : Logic 𝓤) (κ : Lft) (q : Share) (ν : ℕ) where
  -- the atom's whole token, for the part of it that the call holds
  open 𝓛 use {H, A}

  abbrev pub Back : SProp 𝓤
  Back = wand 𝓤 (A.lft (ν ∷ []) (Share.left q)) (A.lft (ν ∷ []) full_share)

  abbrev pub Below : SProp 𝓤
  Below = sep 𝓤 (A.lft (ν ∷ κ) (Share.left q)) (sep 𝓤 (A.lft κ (Share.right q)) Back)

  pub goes_below : ent 𝓤 (sep 𝓤 (A.lft (ν ∷ []) full_share) (A.lft κ q)) Below
  goes_below =
      qed 𝓛 (‵ (flft (ν ∷ []) full_share) ∷ ‵ (flft κ q) ∷ []) ∵ use1 𝓛 (‵ (flft (ν ∷ []) (Share.left q)) ⊛ raw Back) (𝓛.lfts.lft_carve ν (Share.left q)) $ split ! $
      move ! (2 ∷ []) $ use1 𝓛 (‵ (flft κ (Share.left q)) ⊛ ‵ (flft κ (Share.right q))) (𝓛.lfts.lft_split κ q) $ split ! $
      -- [κ's left half; its right half; the atom's; the way back]
      move ! (2 ∷ 0 ∷ []) $ use2 𝓛 (‵ (flft (ν ∷ κ) (Share.left q))) (𝓛.lfts.lft_meet (ν ∷ []) κ (Share.left q)) $ frame ! $ frame ! $ done !

  pub comes_above : ent 𝓤 Below (H.⇛ (sep 𝓤 (A.dead (ν ∷ κ)) (A.lft κ q)))
  comes_above =
      qed 𝓛 (‵ (flft (ν ∷ κ) (Share.left q)) ∷ ‵ (flft κ (Share.right q)) ∷ raw Back ∷ []) ∵ updating ! $
      use1 𝓛 (‵ (flft (ν ∷ []) (Share.left q)) ⊛ ‵ (flft κ (Share.left q))) (𝓛.lfts.lft_unmeet (ν ∷ []) κ (Share.left q)) $ split ! $
      -- [the atom's; κ's left half; its right half; the way back]
      move ! (1 ∷ 2 ∷ []) $ use2 𝓛 (‵ (flft κ q)) (𝓛.lfts.lft_join κ q) $
      move ! (1 ∷ 2 ∷ []) $ use2 𝓛 (‵ (flft (ν ∷ []) full_share)) (apply∗ 𝓤 (A.lft (ν ∷ []) (Share.left q)) (A.lft (ν ∷ []) full_share)) $
      lft_end ! tt $ use1 𝓛 (‵ (fdead (ν ∷ κ))) (𝓛.lfts.dead-incl (ν ∷ κ) (ν ∷ []) (meet_⊑_left (ν ∷ []) κ)) $ at_once ! $ frame ! $ done !
