-- The histogram's places as those of a store that adds up shares of pixels.
-- Assumes nothing.
use Rattle.std.specs.Prelude.{Bool, List, ℕ, ◌+◌, ◌<◌, get_or}
use Rattle.pixels.specs.declared.Pixel.{Pixel}
use Rattle.pixels.specs.Pixels.{pixel_fold}
use Rattle.pixels.specs.Additive.{Fits}
use Rattle.histogram.specs.Histogram.{share}

-- a place of l levels' counts and guide sums
pub record HistogramPlace (l : ℕ) : Type 0 where
  pub at : ℕ
  pub low : at < l + l

abbrev pub share_at : (l : ℕ) → HistogramPlace l → ℕ → ℕ → ℕ
share_at l q i f = share l q.at i f

abbrev pub number_at : (l : ℕ) → List ℕ → HistogramPlace l → ℕ
number_at l xs q = get_or xs q.at 0

-- every place has room for a list's pixels, or has them to lose
pub record RoomFor (w : Bool) (l : ℕ) (p : List Pixel) (xs : List ℕ) : Type 0 where
  pub fits : (q : HistogramPlace l) → Fits 4294967296 w (number_at l xs q) (pixel_fold ◌+◌ 0 p (share_at l q))
