-- The lines of a plan. The plan of a well-formed job is a right book, so each record is read back as it was written, and the listing of the plan's bytes is
-- the plan's text.
use mathlib.Core.Path.{◌≡◌}
use mathlib.Core.List.{List, ◌++◌}
use Prim.Native.Nat.{ℕ, ◌≤◌}
use lib.ListN.{length}
use Rattle.network.specs.Hanan.{hanan}
use Rattle.network.specs.Route.{Route, Routes}
use Rattle.job.specs.declared.Run.{Run as Read}
use Rattle.job.specs.Written.{WellFormed}
use Rattle.plan.specs.Plan.{drawn_bytes, plan_bytes}
use Rattle.planner.specs.Call.{runs_of, plan_of}
use Rattle.planner.specs.Figures.{plan_head, plan_entries}
use Rattle.planner.proofs.Stored.{plan_right}
use Rattle.text.specs.Text.{plan_text}
use Rattle.text.specs.Listing.{listing_of}
use Rattle.text.proofs.Plan.{plan_listing}
use Rattle.text.proofs.Length.{plan_text_most}

module _ (number : ℕ) (runs : List Read) (w : WellFormed number runs) (routes : List Route) (m : Routes (hanan (runs_of runs)) (runs_of runs) routes) where
  -- the listing of the plan's bytes, whatever stands behind them, is the plan's text
  pub plan_lists : (rest : List ℕ) → listing_of (plan_of number runs routes ++ rest) ≡ plan_text (plan_head number runs routes) (plan_entries runs routes)
  unfolding plan_bytes drawn_bytes
  plan_lists rest = plan_listing (plan_head number runs routes) (plan_entries runs routes) (plan_right number runs w routes m) rest

  -- which has at most 74,837 bytes
  pub plan_room : length (plan_text (plan_head number runs routes) (plan_entries runs routes)) ≤ 74837
  plan_room = plan_text_most (plan_head number runs routes) (plan_entries runs routes) (plan_right number runs w routes m)
