-- Slopes: "Turn a run so that its first x is the smaller. It is regular if y does not fall, flipped if y does not rise; a straight one is both"
-- (01, Routes and sharing; 000, 2.1).
use Rattle.std.specs.Prelude.{Bool, ◌&&◌, ◌||◌, leb}
use Rattle.network.specs.Plane.{Run}

pub data Slope : Type 0 where
  regular flipped : Slope

abbrev pub opposite : Slope → Slope
opposite regular = flipped
opposite flipped = regular

-- the run has the slope, from its first point to its second or turned
unfoldable pub slopes : Slope → Run → Bool
slopes regular r =
    leb r.first.x r.second.x && leb r.first.y r.second.y
    || leb r.second.x r.first.x && leb r.second.y r.first.y
slopes flipped r =
    leb r.first.x r.second.x && leb r.second.y r.first.y
    || leb r.second.x r.first.x && leb r.first.y r.second.y
