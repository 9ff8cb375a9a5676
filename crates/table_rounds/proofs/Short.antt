-- Short lines, and that the table of a group with short lines fits its work words.
use mathlib.Core.List.{List}
use Prim.Native.Nat.{ℕ, ◌≤◌, ◌<◌}
use native.Mathlib.Omega.{arith}
use native.Mathlib.Nat.{mul-le-mul}
use lib.ListN.{length}
use Rattle.network.specs.Steps.{Dir, hor, ver}
use Rattle.table.specs.declared.frame.Line.{Line}
use Rattle.table.specs.Frame.{Group}
use Rattle.table.specs.Rule.{many, line_at, Fit}

-- the first n lines are short
abbrev pub Short : (ℕ → Line) → ℕ → Type 0
Short lines n = (i : ℕ) → i < n → (lines i).len ≤ 2000000

-- a group of at most 64 short columns and rows fits 16,384 words
pub fits : (g : Group) → Short g.cols 64 → Short g.rows 64 → (1 ≤ g.w) × (g.w ≤ 64) → (1 ≤ g.h) × (g.h ≤ 64)
    → (words : List ℕ) → 16384 ≤ length words → Fit g words
fits g c r w h words room =
    record {
      some_columns = w.0;
      columns = w.1;
      some_rows = h.0;
      rows = h.1;
      room = omega (arith, mul-le-mul h.1 w.1);
      short = short;
    }
  where
    short : (d : Dir) (s : ℕ) → s < many g d → (line_at g d s).len ≤ 2000000
    short hor s k = c s (omega (arith, w.1))
    short ver s k = r s (omega (arith, h.1))
