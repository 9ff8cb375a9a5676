-- What the planner promises.
-- the demands of a call
pub mod Call
pub mod Forecast
pub mod Demands
-- the contracts of the entry points, which the demands follow from
pub mod Verdict
pub mod Outcome
-- what is read of a plan that was stored
pub mod Figures
pub mod Stored
-- the examples of document 01
pub mod Examples
-- what the contracts of the stages between speak of, and no demand
pub mod Held
pub mod Stages
