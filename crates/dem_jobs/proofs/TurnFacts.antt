-- Turns one after another: the world that they reach, what they write, and their rows.
use Rattle.std.proofs.Common.{◌≡◌, ℕ, List, [], ◌∷◌, ◌++◌, refl, sym, ap, ◌∙◌, append_assoc, append-nil}
use Rattle.std.proofs.lemmas.Grind.{flat_map-append}
use Rattle.dem_model.specs.SceneValue.{SceneValue}
use Rattle.dem_model.specs.Frames.{taken_text}
use Rattle.dem_model.specs.World.{World, turned, turn_text, turn_rows, world_after, text_after, rows_after, rows_text}
use Rattle.dem_model.specs.declared.state.TakenRow.{TakenRow}
use Rattle.dem_model.specs.declared.state.Turn.{Turn}
use Rattle.dem_core.specs.SoFar.{text_so_far, HasTaken}
use Rattle.dem_core.proofs.WorldFacts.{Kept, Kept-turned, so_far-turned, HasTaken-turned}

-- the text of rows, and of more rows behind them
pub rows_text-append : (xs ys : List TakenRow) → rows_text (xs ++ ys) ≡ rows_text xs ++ rows_text ys
unfolding rows_text
rows_text-append xs ys = flat_map-append taken_text xs ys

module _ (s : SceneValue) (drift : ℕ) where
  pub world_after-append : (w : World) (ts us : List Turn) → world_after s drift w (ts ++ us) ≡ world_after s drift (world_after s drift w ts) us
  unfolding world_after
  world_after-append w [] us = refl
  world_after-append w (t ∷ ts) us = world_after-append (turned s drift w t) ts us

  pub world_after-one : (w : World) (t : Turn) → world_after s drift w (t ∷ []) ≡ turned s drift w t
  unfolding world_after
  world_after-one w t = refl

  pub rows_after-append : (w : World) (ts us : List Turn) → rows_after s drift w (ts ++ us) ≡ rows_after s drift w ts ++ rows_after s drift (world_after s drift w ts) us
  unfolding rows_after world_after
  rows_after-append w [] us = refl
  rows_after-append w (t ∷ ts) us =
      ap (λ l. turn_rows s drift w t ++ l) (rows_after-append (turned s drift w t) ts us)
      ∙ sym (append_assoc (turn_rows s drift w t) (rows_after s drift (turned s drift w t) ts) (rows_after s drift (world_after s drift (turned s drift w t) ts) us))

  pub rows_after-one : (w : World) (t : Turn) → rows_after s drift w (t ∷ []) ≡ turn_rows s drift w t
  unfolding rows_after
  rows_after-one w t = append-nil (turn_rows s drift w t)

  -- what a world keeps it keeps over many turns
  pub kept-after : (w : World) (ts : List Turn) → Kept s drift w → Kept s drift (world_after s drift w ts)
  unfolding world_after
  kept-after w [] k = k
  kept-after w (t ∷ ts) k = kept-after (turned s drift w t) ts (Kept-turned s drift w t k)

  pub text-after : (w : World) (ts : List Turn) → Kept s drift w → text_so_far s (world_after s drift w ts).course ≡ text_so_far s w.course ++ text_after s drift w ts
  unfolding world_after text_after
  text-after w [] k = sym (append-nil (text_so_far s w.course))
  text-after w (t ∷ ts) k =
      text-after (turned s drift w t) ts (Kept-turned s drift w t k)
      ∙ ap (λ l. l ++ text_after s drift (turned s drift w t) ts) (so_far-turned s drift w t k)
      ∙ append_assoc (text_so_far s w.course) (turn_text s drift w t) (text_after s drift (turned s drift w t) ts)

  pub rows-after : (w : World) (ts : List Turn) (rows : List TakenRow) → Kept s drift w → HasTaken s drift rows w.course → HasTaken s drift (rows ++ rows_after s drift w ts) (world_after s drift w ts).course
  unfolding world_after rows_after
  rows-after w [] rows k taken = rw append-nil taken
  rows-after w (t ∷ ts) rows k taken =
      rw (← append_assoc)
      (rows-after (turned s drift w t) ts (rows ++ turn_rows s drift w t) (Kept-turned s drift w t k) (HasTaken-turned s drift rows w t k taken))
